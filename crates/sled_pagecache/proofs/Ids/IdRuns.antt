-- Ids from a bound on, each above the one before it.
use Rattle.sled_pagecache.proofs.Names.{List, [], arith, length, slice_index_or, suc, zero, ℕ, ◌+◌, ◌<◌, ◌∷◌, ◌≤◌, ⊤, AreRising}
use Rattle.std.proofs.lemmas.List.Kept.{AllPairs-cons}

abbrev pub RiseFrom : ℕ → List ℕ → Type 0
RiseFrom bound [] = ⊤
RiseFrom bound (id ∷ ids) = (bound ≤ id) × RiseFrom (id + 1) ids

rise-at : (bound place d : ℕ) (ids : List ℕ) → RiseFrom bound ids → place < length ids → bound ≤ slice_index_or ids place d
rise-at bound place d [] rise within = absurd (omega (arith, within))
rise-at bound zero d (id ∷ ids) rise within = rise.0
rise-at bound (suc place) d (id ∷ ids) rise within = omega (arith, rise.0, rise-at (id + 1) place d ids rise.1 (omega (arith, within)))

pub rising : (bound : ℕ) (ids : List ℕ) → RiseFrom bound ids → AreRising ids
rising bound [] rise = λ i j d before within. absurd (omega (arith, within))
rising bound (id ∷ ids) rise =
    AllPairs-cons (λ earlier later. earlier < later) id ids (λ k d within. let later = rise-at (id + 1) k d ids rise.1 within in omega (arith, later)) (rising (id + 1) ids rise.1)
