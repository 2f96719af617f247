use Rattle.std.proofs.Common.{◌≡◌, ◌+◌, length, sym, ap, subst, ◌∙◌, arith}
use Rattle.std.specs.List.{AllByRecursion}
use Rattle.sled_base.proofs.RecentUse.Sharding.{IsEmptyShard, each_push, fresh_shards, fresh_unused, sound_shards}
use Rattle.sled_base.proofs.lru.Lru.new.Goals as goal

pub loop-init : goal.loop-init
loop-init c = record {
  each = subst (AllByRecursion (IsEmptyShard c.args.capacity)) (sym c.in_ok-shards.ensures.items) tt;
  count = c.in_ok-shards.ensures.len;
  room = c.in_ok-shards.ensures.exact;
}

pub push_reserved-requires : goal.push_reserved-requires
push_reserved-requires c = omega (arith, c.loop.invariant.count, c.loop.invariant.room, c.loop-test.true)

pub loop-preserved : goal.loop-preserved
loop-preserved c =
    let pushed = c.push_reserved.ensures in
    record {
      each = subst (AllByRecursion (IsEmptyShard c.args.capacity)) (sym pushed.items) (each_push (IsEmptyShard c.args.capacity) c.loop.shards.items c.new.result c.loop.invariant.each c.new.ensures);
      count = pushed.len ∙ ap (λ n. n + 1) c.loop.invariant.count;
      room = pushed.capacity ∙ c.loop.invariant.room;
    }

pub invariant_of-result : goal.invariant_of-result
invariant_of-result c =
    let count : length c.loop.shards.items ≡ 256 = omega (arith, c.loop.invariant.count, c.loop.shards.ok.0, c.loop-test.false) in
    fresh_shards c.args.capacity c.loop.shards.items count c.loop.invariant.each

pub returns-clause-empty : goal.returns-clause-empty
returns-clause-empty c =
    let count : length c.loop.shards.items ≡ 256 = omega (arith, c.loop.invariant.count, c.loop.shards.ok.0, c.loop-test.false) in
    fresh_unused c.args.capacity c.loop.shards.items count c.loop.invariant.each

pub returns-clause-sound : goal.returns-clause-sound
returns-clause-sound c =
    let count : length c.loop.shards.items ≡ 256 = omega (arith, c.loop.invariant.count, c.loop.shards.ok.0, c.loop-test.false) in
    sound_shards c.args.capacity c.loop.shards.items (fresh_shards c.args.capacity c.loop.shards.items count c.loop.invariant.each)
