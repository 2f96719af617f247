-- Reading and writing the pairs of a root map.
use Rattle.std.proofs.Common.{◌≡◌, ◌≢◌, ℕ, ◌<◌, ◌≤◌, ◌^◌, List, [], ◌∷◌, ◌++◌, length, sym, ap, subst, ◌∙◌, arith}
use Rattle.std.specs.List.{AllByRecursion}
use Rattle.std.proofs.lemmas.List.{length-append}
use Rattle.std.proofs.lemmas.List.Sums.{fold-append}
use Rattle.sled_base.specs.Order.{Bytes}
use Rattle.sled_node.specs.Pairs.{IsAscending}
use Rattle.sled_node.specs.Meta.{Roots, with_root, with_roots, IsRootMap, HasRoom}
use Rattle.sled_base.specs.Payloads.Reading.{ReadsNoValue}
use Rattle.sled_base.specs.Payloads.Numbers.{written_u64}
use Rattle.sled_base.specs.Payloads.ByteStrings.{written_bytes}
use Rattle.sled_node.specs.Payloads.ShortStrings.{ReadsShort, AsksShort}
use Rattle.sled_node.specs.Payloads.Sequences.{ReadsAll}
use Rattle.sled_node.specs.Payloads.SequenceLaws.{ReadsAll-more}
use Rattle.sled_node.specs.Payloads.Roots.{ReadsRoot, ReadsRoots, AsksRoots, written_root, written_roots}
use Rattle.sled_node.specs.Payloads.RootLaws.{CanWriteRoot, go_on, can_write_roots}
use Rattle.sled_node.proofs.Roots.{fits_with, never_fewer, ascending_with}
use Rattle.sled_base.proofs.Payloads.NumberSizes.{number_size}
use Rattle.sled_node.proofs.Payloads.Sizes.{all_size, string_size}

-- the pairs that a map comes from, so far
abbrev pub PutSoFar : List ℕ → List ℕ → Roots → Type 0
PutSoFar input rest roots = (pairs : List (Bytes × ℕ)) × ReadsAll ReadsRoot input pairs rest × (roots ≡ with_roots pairs [])

-- one pair more
put_last : (pairs : List (Bytes × ℕ)) (pair : Bytes × ℕ) → with_roots (pairs ++ pair ∷ []) [] ≡ with_root pair.0 pair.1 (with_roots pairs [])
put_last pairs pair = fold-append (λ so_far x. with_root x.0 x.1 so_far) [] pairs (pair ∷ [])

pub put_more : (input middle rest : List ℕ) (roots : Roots) (pair : Bytes × ℕ) → PutSoFar input middle roots → ReadsRoot middle pair rest → PutSoFar input rest (with_root pair.0 pair.1 roots)
put_more input middle rest roots pair (pairs, so_far, is) read =
    (pairs ++ pair ∷ [], ReadsAll-more ReadsRoot input pairs middle pair rest so_far read, ap (with_root pair.0 pair.1) is ∙ sym (put_last pairs pair))

-- in a map that has room for it
pub put_one : (input middle rest : List ℕ) (roots new : Roots) (pair : Bytes × ℕ) → PutSoFar input middle roots → length roots ≤ 2 ^ 24 → ReadsRoot middle pair rest → HasRoom pair.0 roots → new ≡ with_root pair.0 pair.1 roots → PutSoFar input rest new × (length new ≤ 2 ^ 24)
put_one input middle rest roots new pair put few read room is =
    subst (λ k. PutSoFar input rest k × (length k ≤ 2 ^ 24)) (sym is) (put_more input middle rest roots pair put read, fits_with pair.0 pair.1 roots few room)

-- where bytes are left that are no pair, no map is read
pub no_pair : (input middle : List ℕ) (roots : Roots) → PutSoFar input middle roots → middle ≢ [] → ReadsNoValue ReadsRoot middle → ReadsNoValue ReadsRoots input
no_pair input middle roots (pairs, so_far, is) left nothing others rest (end, qs, all, was, few) = by (go_on input pairs qs middle so_far all)
  where
    by : (more : List (Bytes × ℕ)) × (qs ≡ pairs ++ more) × ReadsAll ReadsRoot middle more [] → ⊥
    by ([], same, behind) = left behind
    by (q ∷ more, same, (m, a, behind)) = nothing q m a

-- nor where the pairs so far make too many names
pub too_many : (input middle : List ℕ) (roots : Roots) → PutSoFar input middle roots → 2 ^ 24 < length roots → ReadsNoValue ReadsRoots input
too_many input middle roots (pairs, so_far, is) many others rest (end, qs, all, was, few) =
    let (more, same, behind) = go_on input pairs qs middle so_far all in
    let put : others ≡ with_roots more roots = was ∙ ap (λ k. with_roots k []) same ∙ fold-append (λ so_far x. with_root x.0 x.1 so_far) [] pairs more ∙ ap (with_roots more) (sym is) in
    let kept = never_fewer more roots (subst IsAscending (sym is) (ascending_with pairs [] tt)) in
    omega (arith, many, few, ap length put, kept)

-- memory is asked for behind a name: the first one, or the one that stands here
asks_first : (input middle : List ℕ) (pairs : List (Bytes × ℕ)) → ReadsAll ReadsRoot input pairs middle → (name rest : List ℕ) → ReadsShort middle name rest → AsksRoots input
asks_first input middle [] same name rest here = (name, rest, subst (λ text. ReadsShort text name rest) (sym same) here)
asks_first input middle (pair ∷ pairs) (behind, first, others) name rest here = (pair.0, first.0, first.1)

pub asks_so_far : (input middle : List ℕ) (roots : Roots) → PutSoFar input middle roots → AsksShort middle → AsksRoots input
asks_so_far input middle roots (pairs, so_far, is) (name, rest, here, long) = asks_first input middle pairs so_far name rest here

pub asks_for_name : (input middle rest : List ℕ) (roots : Roots) (pair : Bytes × ℕ) → PutSoFar input middle roots → ReadsRoot middle pair rest → AsksRoots input
asks_for_name input middle rest roots pair (pairs, so_far, is) (behind, name, page) = asks_first input middle pairs so_far pair.0 behind name

-- the map that is read
pub put_all : (input rest : List ℕ) (roots : Roots) → PutSoFar input rest roots → rest ≡ [] → length roots ≤ 2 ^ 24 → ReadsRoots input roots rest
put_all input rest roots (pairs, so_far, is) end few = (end, pairs, subst (λ k. ReadsAll ReadsRoot input pairs k) end so_far, is, few)

-- what is written is short enough for a size of 64 bits
each_size : (roots : Roots) → AllByRecursion CanWriteRoot roots → AllByRecursion (λ pair. length (written_root pair) ≤ 2147483665) roots
each_size [] all = tt
each_size (pair ∷ roots) (here, all) = (omega (arith, string_size pair.0 here.0, number_size pair.1, length-append (written_bytes pair.0) (written_u64 pair.1)), each_size roots all)

pub roots_written : (roots : Roots) → IsRootMap roots → length (written_roots roots) < 2 ^ 57
roots_written roots map = omega (arith, map.few, all_size written_root 2147483665 roots (each_size roots (can_write_roots roots map)))
