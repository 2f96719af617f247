use Rattle.std.proofs.Common.{◌≡◌, ◌≢◌, ◌-◌, ◌+◌, ◌<◌, sym, subst, ◌∙◌, arith}
use Rattle.sled_base.specs.Lru.{total, others}
use Rattle.sled_base.specs.Shards.{Shelf, place_in, size_in, IsCut}
use Rattle.sled_base.proofs.RecentUse.Walking.{IsWalked, walk_start, walk_some, slot_here, step_part, step_takes, step_passes, cut_fits, cut_none, cut_end}
use Rattle.sled_base.proofs.lru.shard.Shard.leaving.Goals as goal
use Rattle.sled_base.proofs.lru.shard.Shard.leaving.Goals.{then-place, else-place}

pub loop-init : goal.loop-init
loop-init c =
    walk_start c.self.inside.list c.self.inside.capacity (place_in c.args.item) (size_in c.args.item) c.args.sum c.last-last.result
    (subst (λ (shelf : Shelf). c.args.sum ≡ size_in c.args.item + total (others (place_in c.args.item) shelf.listings)) (sym c.self.view_is) c.requires) c.last-last.ensures

pub returns-then-total-from : goal.returns-then-total-from
returns-then-total-from c =
    subst (λ (shelf : Shelf). IsCut shelf.capacity (place_in c.args.item) (size_in c.args.item) shelf.listings c.loop.count) c.self.view_is
    (cut_fits _ _ _ _ _ _ _ _ c.loop.invariant (omega (arith, c.if-total-from.true, c.from.ensures)))

pub returns-in_default : goal.returns-in_default
returns-in_default c =
    subst (λ (shelf : Shelf). IsCut shelf.capacity (place_in c.args.item) (size_in c.args.item) shelf.listings c.loop.count) c.self.view_is
    (cut_none _ _ _ _ _ _ _ _ c.loop.invariant c.in_default.is)

pub item-other-requires : goal.item-other-requires
item-other-requires c = slot_here _ _ _ _ _ _ _ _ (walk_some _ _ _ _ _ _ _ _ _ c.in-Some.is c.loop.invariant)

pub overflow_sub-total : goal.overflow_sub-total
overflow_sub-total c =
    let differs : place_in c.item-other.result ≢ place_in c.args.item = λ same. c.if-place.true (c.place.ensures ∙ same ∙ sym c.place-place.ensures) in
    omega (arith, c.from-total.ensures, c.size.ensures, step_part _ _ _ _ _ _ _ _ (walk_some _ _ _ _ _ _ _ _ _ c.in-Some.is c.loop.invariant) c.item-other.result c.item-other.ensures differs)

pub before-last-requires : goal.before-last-requires
before-last-requires c = slot_here _ _ _ _ _ _ _ _ (walk_some _ _ _ _ _ _ _ _ _ c.in-Some.is c.loop.invariant)

pub loop-preserved : goal.loop-preserved
loop-preserved c =
    let place = place_in c.args.item in
    let size = size_in c.args.item in
    let walk = walk_some c.self.inside.list c.self.inside.capacity place size c.loop.total c.loop.count c.loop.counter c.loop.last c.in-Some.slot c.in-Some.is c.loop.invariant in
    let over : c.self.inside.capacity < c.loop.total = omega (arith, c.if-total-from.false, c.from.ensures) in
    elim c.if-place.branch [
      | then-place w ↦ (
          let differs : place_in c.item-other.result ≢ place = λ same. w.if-place.true (c.place.ensures ∙ same ∙ sym c.place-place.ensures) in
          let sum : c.loop.total - size_in c.item-other.result ≡ c.if-place.total = omega (arith, w.total-is, w.from-total.ensures, w.size.ensures) in
          subst (λ n. IsWalked c.self.inside.list c.self.inside.capacity place size c.if-place.total n (c.loop.counter + 1) c.before-last.result) (sym w.count-is)
          (subst (λ n. IsWalked c.self.inside.list c.self.inside.capacity place size n (c.loop.count + 1) (c.loop.counter + 1) c.before-last.result) sum
          (step_takes c.self.inside.list c.self.inside.capacity place size c.loop.total c.loop.count c.loop.counter c.in-Some.slot walk c.item-other.result c.item-other.ensures c.before-last.result c.before-last.ensures over differs)))
      | else-place w ↦
          subst (λ n. IsWalked c.self.inside.list c.self.inside.capacity place size c.if-place.total n (c.loop.counter + 1) c.before-last.result) (sym w.count-is)
          (subst (λ n. IsWalked c.self.inside.list c.self.inside.capacity place size n c.loop.count (c.loop.counter + 1) c.before-last.result) (sym w.total-is)
          (step_passes c.self.inside.list c.self.inside.capacity place size c.loop.total c.loop.count c.loop.counter c.in-Some.slot walk c.item-other.result c.item-other.ensures c.before-last.result c.before-last.ensures (sym c.place.ensures ∙ w.if-place.false ∙ c.place-place.ensures)))
    ]

pub returns : goal.returns
returns c =
    subst (λ (shelf : Shelf). IsCut shelf.capacity (place_in c.args.item) (size_in c.args.item) shelf.listings c.loop.count) c.self.view_is
    (cut_end _ _ _ _ _ _ _ _ c.loop.invariant (omega (arith, c.loop-test.false, c.len-end.ensures)))
