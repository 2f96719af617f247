use Rattle.std.proofs.Common.{◌≡◌, ◌+◌, ◌-◌, ◌*◌, ◌++◌, ◌<◌, ℕ, List, length, map, take, drop, get_or, ap, ◌∙◌, arith}
use Rattle.std.proofs.lemmas.List.{get_or_default, get_or-append_right, get_or-drop, length-map, length-take-le}
use Rattle.std.proofs.lemmas.List.Edits.{map_over_more}
use Rattle.sled_base.proofs.lru.number_pages.Goals as goal

-- what is left of the places is as it was
still : (f : ℕ → ℕ) (xs ys : List ℕ) (i : ℕ) → i < length xs → ys ≡ map f (take i xs) ++ drop i xs → get_or ys i 0 ≡ get_or xs i 0
still f xs ys i lt is =
    let long : length (map f (take i xs)) ≡ i = length-map (take i xs) f ∙ length-take-le i xs (omega arith) in
    let none : i + (i - i) ≡ i = omega arith in
    ap (λ zs. get_or zs i 0) is ∙ get_or-append_right (map f (take i xs)) (drop i xs) i i 0 long (omega arith) ∙ get_or-drop i xs (i - i) 0 ∙ ap (λ k. get_or xs k 0) none

place_is_near : (c : goal.After-row_known-1) → get_or c.loop-place.places c.loop-place.place-index 0 < 72057594037927936
place_is_near c =
    let at = c.loop-place.place-index in
    omega (arith, still (λ place. place * 256 + c.args.shard) c.args.places.now c.loop-place.places at c.loop-place-test.true c.loop-place.invariant, c.requires.near at 0 c.loop-place-test.true)

pub overflow_mul-place : goal.overflow_mul-place
overflow_mul-place c = omega (arith, place_is_near c)

pub overflow_add-place : goal.overflow_add-place
overflow_add-place c = omega (arith, place_is_near c, c.requires.shard)

pub loop-place-preserved : goal.loop-place-preserved
loop-place-preserved c =
    let at = c.loop-place.place-index in
    map_over_more (λ place. place * 256 + c.args.shard) c.args.places.now c.loop-place.places at (get_or c.loop-place.places at 0) c.loop-place-test.true c.loop-place.invariant (get_or_default c.loop-place.places at 0 (get_or c.loop-place.places at 0) (omega arith))
