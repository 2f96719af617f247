use Rattle.std.proofs.Common.{◌≡◌, [], ◌<◌, length, get_or, sym, ap, subst, ◌∙◌, add-one, arith}
use Rattle.std.proofs.lemmas.Option.{get_or_from_slice_get}
use Rattle.sled_base.specs.Order.{Bytes}
use Rattle.sled_node.specs.Parts.{IsStoredWithin}
use Rattle.sled_base.proofs.Each.{all_at}
use Rattle.sled_node.proofs.Ascending.{all_more}
use Rattle.sled_node.proofs.LeafStrings.{key_there, many_both}
use Rattle.sled_node.proofs.node.parts.leaf_is_within.Goals as goal

pub get-requires : goal.get-requires
get-requires c = omega (arith, ap length c.strings-strings.ensures.value, many_both c.args.leaf.now, c.len-i-end.ensures, c.loop-i-test.true)

pub returns-then-not-is_within-clause-within : goal.returns-then-not-is_within-clause-within
returns-then-not-is_within-clause-within c =
    let leaf = c.args.leaf.now in
    let i = c.loop-i.i in
    let none : Bytes × Bytes = ([], []) in
    let within : i < length leaf = omega (arith, c.len-i-end.ensures, c.loop-i-test.true) in
    let here : c.get.result.now ≡ (get_or leaf i none).0 = sym (get_or_from_slice_get c.strings-strings.result.now i c.get.result.now [] c.get.ensures) ∙ key_there leaf c.strings-strings.result.now c.strings-strings.ensures.value i [] none within in (
      λ yes. absurd cc,
      λ all.
          let yes = c.is_within.ensures.1 (subst (IsStoredWithin c.args.lo.now c.args.hi.now c.args.most) (sym here) (all_at (λ pair. IsStoredWithin c.args.lo.now c.args.hi.now c.args.most pair.0) leaf i none all within)) in
          absurd cc,
    )

pub loop-i-preserved : goal.loop-i-preserved
loop-i-preserved c =
    let leaf = c.args.leaf.now in
    let i = c.loop-i.i in
    let none : Bytes × Bytes = ([], []) in
    let within : i < length leaf = omega (arith, c.len-i-end.ensures, c.loop-i-test.true) in
    let here : c.get.result.now ≡ (get_or leaf i none).0 = sym (get_or_from_slice_get c.strings-strings.result.now i c.get.result.now [] c.get.ensures) ∙ key_there leaf c.strings-strings.result.now c.strings-strings.ensures.value i [] none within in
    let is : IsStoredWithin c.args.lo.now c.args.hi.now c.args.most c.get.result.now = c.is_within.ensures.0 cc in
    rw add-one (all_more (λ pair. IsStoredWithin c.args.lo.now c.args.hi.now c.args.most pair.0) leaf i none c.loop-i.invariant within (subst (IsStoredWithin c.args.lo.now c.args.hi.now c.args.most) here is))
