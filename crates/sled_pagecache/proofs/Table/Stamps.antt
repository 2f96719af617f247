-- The stamps of a page's messages.
use Rattle.sled_pagecache.proofs.Names.{◌≡◌, ◌+◌, ◌-◌, ℕ, zero, suc, ℤ, List, [], ◌∷◌, ◌++◌, length, map, refl, ◌∙◌, ap, arith, length-append, map-append, DiskPtr, info_at, stamps_to, CacheInfo}

-- one message more, at the next stamp
pub stamps-more : (stamp n : ℕ) → stamps_to stamp n ++ (stamp + 1) ∷ [] ≡ stamps_to (stamp + 1) (suc n)
stamps-more stamp zero = ap (λ (k : ℕ). k ∷ []) (omega arith)
stamps-more stamp (suc n) = ap (λ (k : ℕ). k ∷ (stamps_to stamp n ++ (stamp + 1) ∷ [])) (omega arith) ∙ ap (λ (l : List ℕ). ((stamp + 1) - suc n) ∷ l) (stamps-more stamp n)

-- the messages of a recovered page have none
pub stamps-none : (places : List (ℤ × DiskPtr × ℕ)) → map (λ (info : CacheInfo). info.ts) (map info_at places) ≡ stamps_to 0 (length (map info_at places))
stamps-none [] = refl
stamps-none (place ∷ places) =
    ap (λ (k : ℕ). k ∷ map (λ (info : CacheInfo). info.ts) (map info_at places)) (omega arith) ∙ ap (λ (l : List ℕ). (0 - length (map info_at places)) ∷ l) (stamps-none places)

-- a message was kept behind others
pub stamped-more : (stamp : ℕ) (infos after : List CacheInfo) (info : CacheInfo) → map (λ (info : CacheInfo). info.ts) infos ≡ stamps_to stamp (length infos) → info.ts ≡ stamp + 1 → after ≡ infos ++ info ∷ []
    → map (λ (info : CacheInfo). info.ts) after ≡ stamps_to (stamp + 1) (length after)
stamped-more stamp infos after info was at is =
    let one = length-append infos (info ∷ []) in
    let more = map-append (λ (info : CacheInfo). info.ts) infos (info ∷ []) in
    let last = stamps-more stamp (length infos) in
    grind arith
