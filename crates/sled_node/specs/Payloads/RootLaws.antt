-- The laws of the encoding of root maps.
use Rattle.std.specs.Prelude.{◌≡◌, true, ℕ, ◌<◌, ◌^◌, List, [], ◌∷◌, ◌++◌, length, refl}
use Rattle.std.proofs.Common.{sym, ap, subst, ◌∙◌, arith}
use Rattle.std.specs.List.{AllByRecursion}
use Rattle.sled_base.specs.Order.{Bytes}
use Rattle.sled_node.specs.Pairs.{IsWithinLimit}
use Rattle.sled_node.specs.Meta.{Roots, with_roots, IsRootMap}
use Rattle.sled_node.specs.MetaLaws.{put_in_order}
use Rattle.sled_base.specs.Payloads.Reading.{IsGrammar, TakesAByte}
use Rattle.sled_base.specs.Payloads.ReadingLaws.{Pair-grammar, some_bytes}
use Rattle.sled_base.specs.Payloads.NumberLaws.{U64-grammar}
use Rattle.sled_node.specs.Payloads.ShortStringLaws.{Short-grammar}
use Rattle.sled_node.specs.Payloads.Sequences.{ReadsAll}
use Rattle.sled_node.specs.Payloads.SequenceLaws.{ReadsAll-again}
use Rattle.sled_node.specs.Payloads.Roots.{ReadsRoot, ReadsRoots, written_root, written_roots}

-- a name within the limit, and a page of 64 bits
abbrev pub CanWriteRoot : Bytes × ℕ → Type 0
CanWriteRoot pair = IsWithinLimit pair.0 × (pair.1 < 2 ^ 64)

pub Root-grammar : IsGrammar ReadsRoot written_root CanWriteRoot (λ _ _. Unit {0} × Unit {0}) 2
Root-grammar = Pair-grammar Short-grammar U64-grammar

-- If pairs are read up to some place, pairs that are read up to the end of the input begin with them, and continue from that place.
pub go_on : (input : List ℕ) (ps qs : List (Bytes × ℕ)) (middle : List ℕ) → ReadsAll ReadsRoot input ps middle → ReadsAll ReadsRoot input qs [] → (more : List (Bytes × ℕ)) × (qs ≡ ps ++ more) × ReadsAll ReadsRoot middle more []
go_on input [] qs middle is all = (qs, refl, subst (λ k. ReadsAll ReadsRoot k qs []) is all)
go_on input (p ∷ ps) [] middle (m, a, others) is = absurd (omega (arith, Root-grammar.takes input p m a, ap length is))
go_on input (p ∷ ps) (q ∷ qs) middle (m, a, others) (n, b, rest) =
    let one = Root-grammar.one_reading input p q m n a b in
    let (more, same, behind) = go_on m ps qs middle others (subst (λ k. ReadsAll ReadsRoot k qs []) (sym one.1) rest) in
    (more, (λ i. sym one.0 i ∷ same i), behind)

-- after the end there are no pairs
pub at_end : (pairs : List (Bytes × ℕ)) → ReadsAll ReadsRoot [] pairs [] → pairs ≡ []
at_end [] all = refl
at_end (p ∷ ps) (m, a, others) = absurd (omega (arith, Root-grammar.takes [] p m a))

append_nil : (xs : List (Bytes × ℕ)) → xs ++ [] ≡ xs
append_nil [] = refl
append_nil (x ∷ xs) = ap (λ rest. x ∷ rest) (append_nil xs)

one_map : (input : List ℕ) (v w : Roots) (r s : List ℕ) → ReadsRoots input v r → ReadsRoots input w s → (v ≡ w) × (r ≡ s)
one_map input v w r s (end, ps, left, is, few) (also, qs, right, was, other_few) =
    let (more, same, behind) = go_on input ps qs [] left right in
    let pairs : qs ≡ ps = same ∙ ap (λ k. ps ++ k) (at_end more behind) ∙ append_nil ps in
    (is ∙ ap (λ k. with_roots k []) (sym pairs) ∙ sym was, end ∙ sym also)

can_write_each : (roots : Roots) → AllByRecursion (λ pair. IsWithinLimit pair.0) roots → AllByRecursion (λ pair. pair.1 < 2 ^ 64) roots → AllByRecursion CanWriteRoot roots
can_write_each [] names pages = tt
can_write_each (pair ∷ roots) names pages = ((names.0, pages.0), can_write_each roots names.1 pages.1)

-- each pair of a root map can be written
pub can_write_roots : (roots : Roots) → IsRootMap roots → AllByRecursion CanWriteRoot roots
can_write_roots roots map = can_write_each roots map.keys map.items

map_again : (roots : Roots) (rest : List ℕ) → IsRootMap roots → rest ≡ [] → ReadsRoots (written_roots roots ++ rest) roots rest
map_again roots rest map end =
    let few = map.few in (
      end,
      roots,
      subst (λ k. ReadsAll ReadsRoot (written_roots roots ++ rest) roots k) end (ReadsAll-again Root-grammar (λ v bytes. (tt, tt)) roots rest (can_write_roots roots map)),
      sym (put_in_order roots map.ascending),
      few,
    )

pub Roots-grammar : IsGrammar ReadsRoots written_roots IsRootMap (λ _ rest. rest ≡ []) 0
Roots-grammar = record {
  one_reading = one_map;
  read_again = map_again;
  takes = λ input roots rest found. omega (arith, ap length found.0);
}

-- reading a map consumes all bytes
pub Roots-take : true ≡ true → TakesAByte ReadsRoots
Roots-take so input roots rest some found = omega (arith, some_bytes input some, ap length found.0)
