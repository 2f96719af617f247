-- Each string is compared with the one before it.
use Rattle.std.proofs.Common.{inl, inr, ◌≡◌, ℕ, ◌+◌, ◌-◌, ◌<◌, true, false, List, Some, get_or, take, sym, ap, ◌∙◌, arith}
use Rattle.std.proofs.lemmas.Bool.{cases_lt}
use Rattle.std.proofs.lemmas.List.{length-take-le}
use Rattle.std.proofs.lemmas.Option.{get_or_from_slice_get}
use Rattle.std.specs.List.{slice_get}
use Rattle.std.specs.Ordering.{is_le}
use Rattle.sled_base.specs.Order.{Bytes, bytes_cmp}
use Rattle.sled_base.proofs.Searching.{sorted_by_pairs}
use Rattle.sled_base.proofs.StringEdits.{among_first}
use Rattle.sled_base.proofs.prefix.spans_are_sorted.Goals as goal

-- the test of two strings is that of two of the first
same_test : (strings : List Bytes) (count i j : ℕ) (before here d : Bytes) → i < j → j < count → slice_get strings i ≡ Some before → slice_get strings j ≡ Some here
    → is_le (bytes_cmp before here) ≡ is_le (bytes_cmp (get_or (take count strings) i d) (get_or (take count strings) j d))
same_test strings count i j before here d order within first second =
    let one = among_first strings count i d (omega arith) ∙ get_or_from_slice_get strings i before d first in
    let two = among_first strings count j d within ∙ get_or_from_slice_get strings j here d second in
    λ k. is_le (bytes_cmp (sym one k) (sym two k))

pub returns-then-not-is_le : goal.returns-then-not-is_le
returns-then-not-is_le c =
    let keys = take c.args.count c.args.strings.now in
    let many = length-take-le c.args.count c.args.strings.now c.requires in
    let next : c.loop-i.i ≡ c.loop-i.i - 1 + 1 = omega arith in
    let test : (d : Bytes) → c.is_le.result ≡ is_le (bytes_cmp (get_or keys (c.loop-i.i - 1) d) (get_or keys c.loop-i.i d)) =
    λ d. c.is_le.ensures ∙ ap is_le c.fastcmp.ensures ∙ same_test c.args.strings.now c.args.count (c.loop-i.i - 1) c.loop-i.i c.get.result.now c.get-in-loop-i.result.now d (omega arith) (omega arith) c.get.ensures c.get-in-loop-i.ensures in
    let fails : (d : Bytes) → false ≡ is_le (bytes_cmp (get_or keys (c.loop-i.i - 1) d) (get_or keys (c.loop-i.i - 1 + 1) d)) =
    λ d. sym c.if-not-is_le.true ∙ test d ∙ ap (λ n. is_le (bytes_cmp (get_or keys (c.loop-i.i - 1) d) (get_or keys n d))) next in
    sorted_by_pairs keys false (c.loop-i.i - 1, omega (arith, many), fails)

pub loop-i-preserved : goal.loop-i-preserved
loop-i-preserved c = λ k d lt.
    elim (cases_lt (k + 1) c.loop-i.i) [
      | inl before ↦ c.loop-i.invariant k d before
      | inr last ↦
          let keys = take c.args.count c.args.strings.now in
          let here : c.loop-i.i ≡ k + 1 = omega arith in
          let before : c.loop-i.i - 1 ≡ k = omega arith in
          sym c.if-not-is_le.false ∙ c.is_le.ensures ∙ ap is_le c.fastcmp.ensures ∙ same_test c.args.strings.now c.args.count (c.loop-i.i - 1) c.loop-i.i c.get.result.now c.get-in-loop-i.result.now d (omega arith) (omega arith) c.get.ensures c.get-in-loop-i.ensures ∙
          (λ j. is_le (bytes_cmp (get_or keys (before j) d) (get_or keys (here j) d)))
    ]

pub returns : goal.returns
returns c =
    let many = length-take-le c.args.count c.args.strings.now c.requires in
    sorted_by_pairs (take c.args.count c.args.strings.now) true (λ k d lt. c.loop-i.invariant k d (omega (arith, many)))
