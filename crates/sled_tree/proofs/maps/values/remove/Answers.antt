use Rattle.std.proofs.Common.{◌≡◌, Ok, Err, Some, Option, ap, not, refl, subst, sym, ◌∙◌}
use Rattle.std.specs.Prelude.{⊤}
use Rattle.sled_base.specs.Order.{Bytes}
use Rattle.sled_tree.specs.Maps.{ChangesMap, TakesKey, root_of}
use Rattle.sled_tree.specs.Performs.{Performs}
use Rattle.sled_tree.specs.declared.error.TreeError.{TreeError}
use Rattle.sled_tree.specs.declared.error.TreeError.TheVariants.{KeyTooLong}
use Rattle.sled_tree.proofs.Changing.{absent, deleted, links-as, links-failed, no-answer, none-of, some-of, take-refused}
use Rattle.sled_tree.proofs.MergingPages.{takes-then}
use Rattle.sled_tree.proofs.Performing.{nothing, on-any}
use Rattle.sled_tree.proofs.maps.values.remove.Goals as goal

pub returns-then-is_none-clause-maps : goal.returns-then-is_none-clause-maps
returns-then-is_none-clause-maps g c =
    absent g.L.Log TreeError (none-of c.in_ok-place.place.value (c.is_none.ensures ∙ ap not c.if-is_none.true)) c.in_ok-place.ensures

pub returns-in_err-before-clause-maps : goal.returns-in_err-before-clause-maps
returns-in_err-before-clause-maps g c =
    let some = some-of c.in_ok-place.place.value (c.is_none.ensures ∙ ap not c.if-is_none.false) in
    let result = c.from_residual-in_err-before.result in
    let failed = c.from_residual-in_err-before.ensures.0 in
    deleted g.L.Log {result = result} (no-answer (λ b. b ≡ c.in_ok-place.place.value) result failed) some.1 c.in_ok-place.ensures
    (links-failed g.L.Log failed c.in_err-before.ensures.links)

pub returns-clause-maps : goal.returns-clause-maps
returns-clause-maps g c =
    let key = c.args.key.now in
    let root = root_of c.args.tree in
    let old = c.args.cache.now in
    let mid = c.delete.new.cache in
    let new = c.merge_few.new.cache in
    let some = some-of c.in_ok-place.place.value (c.is_none.ensures ∙ ap not c.if-is_none.false) in
    let had : c.in_ok-before.before ≡ Some some.0 = c.in_ok-before.ensures.before ∙ some.1 in
    let taken : Performs g.L.Log (ChangesMap root (TakesKey {E = TreeError} root key (Ok (Some some.0)))) old mid =
    subst (λ (o : Option Bytes). Performs g.L.Log (ChangesMap root (TakesKey {E = TreeError} root key (Ok o))) old mid) had
    (deleted g.L.Log {E = TreeError} c.in_ok-before.ensures.before some.1 c.in_ok-place.ensures (links-as g.L.Log c.in_ok-before.ensures.links)) in
    subst (λ (o : Option Bytes). Performs g.L.Log (ChangesMap root (TakesKey {E = TreeError} root key (Ok o))) old new) (sym had)
    (takes-then g.L.Log TreeError root key some.0 old mid new taken c.merge_few.ensures)

pub returns-then-key-gt-MAX_BYTES-clause-maps : goal.returns-then-key-gt-MAX_BYTES-clause-maps
returns-then-key-gt-MAX_BYTES-clause-maps g c =
    let here = c.args.cache.now in
    take-refused g.L.Log (root_of c.args.tree) c.args.key.now here here {E = TreeError} (Err KeyTooLong) refl (on-any g.L.Log (λ _. ⊤) here here (nothing g.L.Log here))
