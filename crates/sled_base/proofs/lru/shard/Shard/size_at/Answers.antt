use Rattle.std.proofs.Common.{◌≡◌, ◌+◌, Some, None, sym, ap, subst, ◌∙◌, arith}
use Rattle.sled_base.specs.Lru.{total, others}
use Rattle.sled_base.specs.Shards.{Shelf, entry_at}
use Rattle.sled_base.proofs.RecentUse.Keeping.{slot_there, total-listed, total-unlisted}
use Rattle.sled_base.proofs.lru.shard.Shard.size_at.Goals as goal

pub item-requires : goal.item-requires
item-requires c =
    let entry : entry_at c.self.inside.entries.items c.args.place ≡ Some c.in-Some.slot = ap (λ es. entry_at es c.args.place) (sym c.deref.ensures.value) ∙ sym c.slot_at.ensures ∙ c.in-Some.is in
    slot_there c.self.inside.entries.items c.self.inside.list c.self.inside.total c.args.place c.in-Some.slot c.self.invariant entry

pub returns-in-Some : goal.returns-in-Some
returns-in-Some c =
    let entry : entry_at c.self.inside.entries.items c.args.place ≡ Some c.in-Some.slot = ap (λ es. entry_at es c.args.place) (sym c.deref.ensures.value) ∙ sym c.slot_at.ensures ∙ c.in-Some.is in
    subst (λ (shelf : Shelf). total (others c.args.place shelf.listings) + c.size.result ≡ total shelf.listings) c.self.view_is
    (omega (arith, c.size.ensures, total-listed c.self.inside.entries.items c.self.inside.list c.self.inside.total c.args.place c.in-Some.slot c.item.result c.self.invariant entry c.item.ensures))

pub returns-in-None : goal.returns-in-None
returns-in-None c =
    let entry : entry_at c.self.inside.entries.items c.args.place ≡ None = ap (λ es. entry_at es c.args.place) (sym c.deref.ensures.value) ∙ sym c.slot_at.ensures ∙ c.in-None.is in
    subst (λ (shelf : Shelf). total (others c.args.place shelf.listings) + 0 ≡ total shelf.listings) c.self.view_is
    (omega (arith, total-unlisted c.self.inside.entries.items c.self.inside.list c.self.inside.total c.args.place c.self.invariant entry))
