-- A part of a part of a list.
use Rattle.std.proofs.Common.{◌≡◌, ℕ, ◌+◌, ◌-◌, ◌≤◌, List, length, take, drop, ap, sym, ◌∙◌, arith}
use Rattle.std.proofs.lemmas.List.{drop-take, take-take, drop-drop, length-take}

-- a part of the `whole` first elements of xs from `start` on
pub part_of_part : (xs : List ℕ) (start whole offset len : ℕ) → offset + len ≤ length (take whole (drop start xs)) → take len (drop (start + offset) xs) ≡ take len (drop offset (take whole (drop start xs)))
part_of_part xs start whole offset len within =
    let ys = drop start xs in
    let rest = whole - offset in
    let room : offset + len ≤ whole = omega (arith, length-take whole ys) in
    let split : whole ≡ offset + rest = omega arith in
    let fits : len ≤ rest = omega arith in
    sym (ap (λ n. take len (drop offset (take n ys))) split ∙ ap (take len) (drop-take offset rest ys) ∙ take-take len rest (drop offset ys) fits ∙ ap (take len) (drop-drop offset start xs))
