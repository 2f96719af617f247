use Rattle.std.proofs.Common.{◌≡◌, ◌+◌, ◌<◌, ◌^◌, List, ◌∷◌, All, length, refl, sym, ap, subst, ◌∙◌, arith}
use Rattle.std.proofs.lemmas.Bool.{false≢true}
use Rattle.std.proofs.lemmas.List.{length-append}
use Rattle.std.proofs.lemmas.List.Elements.{All-nil, All-push}
use Rattle.std.specs.Prelude.{Contains}
use Rattle.sled_base.specs.Lru.{Listing, listing, others}
use Rattle.sled_base.specs.Shards.{Shelf, IsCut}
use Rattle.sled_base.proofs.RecentUse.Dropping.{none_left, one_more, some_stay, all_left, none_leave}
use Rattle.sled_base.proofs.RecentUse.Keeping.{listing_packed}
use Rattle.sled_base.proofs.lru.shard.Shard.accessed.Goals as goal
use Rattle.sled_base.proofs.lru.shard.Shard.accessed.Goals.{After-leaving-count}

-- how many leave for the place
cut : (c : After-leaving-count) → IsCut c.args.self.now.capacity c.args.place (2 ^ c.args.exponent) c.args.self.now.listings c.leaving-count.result
cut c =
    subst (λ (l : Listing). IsCut c.args.self.now.capacity l.place l.size c.args.self.now.listings c.leaving-count.result) (listing_packed c.packed-item.result c.args.place c.args.exponent c.packed-item.ensures c.requires.power) c.leaving-count.ensures

pub returns-in_err-reserve_exact-clause-always : goal.returns-in_err-reserve_exact-clause-always
returns-in_err-reserve_exact-clause-always c = λ there within.
    let none = none_leave c.args.self.now.capacity c.args.place (2 ^ c.args.exponent) c.leaving-count.result c.args.self.now.listings (cut (goal.at.returns-in_err-reserve_exact-clause-always c).After-leaving-count) there within in
    absurd (omega (arith, c.in_err-reserve_exact.ensures.full, none))

pub returns-in_err-put_first-clause-always : goal.returns-in_err-put_first-clause-always
returns-in_err-put_first-clause-always c = λ there within. absurd (false≢true (c.in_err-put_first.ensures.always (2 ^ c.args.exponent) (subst (λ (l : Listing). Contains c.args.self.now.listings (listing l.place (2 ^ c.args.exponent))) (sym (listing_packed c.packed-item.result c.args.place c.args.exponent c.packed-item.ensures c.requires.power)) there)))

pub loop-init : goal.loop-init
loop-init c = record {
  left = none_left c.put_first.new.self.listings c.clear.new.self.items c.clear.ensures.items;
  same = refl;
  filled = c.clear.ensures.len;
  room = omega (arith, c.in_ok-reserve_exact.ensures.ok, c.clear.ensures.capacity);
  near = subst (All (λ place. place < 2 ^ 56)) (sym c.clear.ensures.items) (All-nil (λ place. place < 2 ^ 56));
}

pub drop_last-requires : goal.drop_last-requires
drop_last-requires c =
    let start = ap (λ (shelf : Shelf). length shelf.listings) c.in_ok-put_first.ensures.ok in
    let cut = c.leaving-count.ensures in
    let long = ap length cut.all ∙ length-append cut.stays cut.leaves in
    some_stay c.put_first.new.self.listings c.loop.self.listings c.loop.gone.items c.loop.counter c.loop.invariant.left (omega (arith, start, long, cut.counted, c.loop-test.true))

pub push_reserved-requires : goal.push_reserved-requires
push_reserved-requires c = omega (arith, c.loop.invariant.filled, c.loop.invariant.room, c.loop-test.true)

pub loop-preserved : goal.loop-preserved
loop-preserved c =
    let dropped = c.drop_last.ensures in
    let pushed = c.push_reserved.ensures in
    let now = c.loop.invariant in
    record {
      left = one_more c.put_first.new.self.listings c.loop.self.listings c.drop_last.new.self.listings c.loop.gone.items c.push_reserved.new.self.items c.loop.counter c.drop_last.result dropped.size now.left dropped.is pushed.items;
      same = dropped.capacity ∙ now.same;
      filled = pushed.len ∙ ap (λ n. n + 1) now.filled;
      room = omega (arith, pushed.capacity, now.room);
      near = subst (All (λ place. place < 2 ^ 56)) (sym pushed.items) (All-push (λ place. place < 2 ^ 56) c.loop.gone.items c.drop_last.result now.near dropped.near);
    }

pub returns-clause-used : goal.returns-clause-used
returns-clause-used c =
    let all : c.loop.counter ≡ c.leaving-count.result = omega arith in
    let old : List Listing = c.args.self.now.listings in
    let first = listing_packed c.packed-item.result c.args.place c.args.exponent c.packed-item.ensures c.requires.power in
    let start = ap (λ (shelf : Shelf). shelf.listings) c.in_ok-put_first.ensures.ok ∙ ap (λ (l : Listing). l ∷ others l.place old) first in
    all_left c.args.self.now.capacity c.args.place (2 ^ c.args.exponent) old c.put_first.new.self.listings c.loop.self.listings c.loop.gone.items c.loop.counter
    (subst (λ n. IsCut c.args.self.now.capacity c.args.place (2 ^ c.args.exponent) old n) (sym all) (cut (goal.at.returns-clause-used c).After-leaving-count)) start c.loop.invariant.left

pub returns-clause-capacity : goal.returns-clause-capacity
returns-clause-capacity c = c.loop.invariant.same ∙ ap (λ (shelf : Shelf). shelf.capacity) c.in_ok-put_first.ensures.ok

pub returns-clause-near : goal.returns-clause-near
returns-clause-near c = c.loop.invariant.near
