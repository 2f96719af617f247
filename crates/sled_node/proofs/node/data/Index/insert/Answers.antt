use Rattle.std.proofs.Common.{◌↔◌, IsTrue, ◌<◌, ◌^◌, length, subst, sym}
use Rattle.std.specs.Prelude.{◌⊎◌}
use Rattle.sled_node.specs.Inserts.{HasKey}
use Rattle.sled_node.proofs.Inserts.{has_inserted}
use Rattle.sled_node.proofs.node.data.Index.insert.Goals as goal

pub invariant_of-self-2 : goal.invariant_of-self-2
invariant_of-self-2 c =
    let room = subst (λ pairs. (length pairs < 2 ^ 24) ⊎ HasKey pairs c.args.key.now) (sym c.self.view_is) c.requires.room in
    rw c.in_ok-is_new.ensures.value (has_inserted c.args.key.now c.self.inside.pairs.items c.args.page c.in_ok-is_new.is_new c.self.invariant c.requires.limit c.ranges.page.fits room c.in_ok-is_new.ensures.new)

pub returns-clause-new : goal.returns-clause-new
returns-clause-new c = subst (λ pairs. IsTrue c.in_ok-is_new.is_new ↔ (HasKey pairs c.args.key.now → ⊥)) c.self.view_is c.in_ok-is_new.ensures.new
