-- Searches in small trees turn by turn, and pages that are no tree.
use Rattle.std.proofs.Common.{◌≡◌, inl, inr, ℕ, List, [], ◌∷◌, Option, None, Some, refl, arith}
use Rattle.sled_base.specs.Order.{Bytes, IsBelow, IsAtMost}
use Rattle.sled_log.specs.Contents.{Content}
use Rattle.sled_node.specs.Node.{IsInRange}
use Rattle.sled_search.specs.Examples.{one, leaf, over_one, over_two, root, half_way, two_leaves, three_pairs, part_lost, led_astray, not_cut, pair_lost}
use Rattle.sled_search.specs.Map.{Map, at_key}
use Rattle.sled_search.specs.Routes.{IsAstray}
use Rattle.sled_search.specs.Search.{HasNodeAt, LeadsTo, HasAt, Goes, Finds, Comes, IsTreeOf}
use Rattle.sled_search.proofs.Paths.{rest-of, found-not-astray}
use Rattle.sled_search.proofs.Search.{found-both, found-leaf, one_found}
use Rattle.sled_search.proofs.Separated.{never-below}
use Rattle.sled_search.proofs.SplitTrees.{all-keys}

-- ---- what is in a range, and what leads where

in-left : (next : Option ℕ) (pairs : List (ℕ × ℕ)) (key : Bytes) → IsBelow key (one 5) → IsInRange (leaf [] (one 5) next pairs) key
in-left next pairs key below = (never-below key, λ _. below)

not-in-left : (next : Option ℕ) (pairs : List (ℕ × ℕ)) (key : Bytes) → IsAtMost (one 5) key → IsInRange (leaf [] (one 5) next pairs) key → ⊥
not-in-left next pairs key above range = above (range.1 (λ e. absurd (let h = e in cc)))

at-five : IsAtMost (one 5) (one 5)
at-five lt = absurd (let h = lt in cc)

below-seven : IsAtMost (one 5) (one 7)
below-seven lt = absurd (let h = lt in cc)

in-right : (pairs : List (ℕ × ℕ)) (key : Bytes) → IsAtMost (one 5) key → IsInRange (leaf (one 5) [] None pairs) key
in-right pairs key above = (above, λ h. absurd (h refl))

-- ---- searches

pub left-of-two : Finds two_leaves (one 3) (λ pid n. (pid ≡ 2) × HasAt (one 3) (Some (one 30)) n) 1 root
left-of-two = (2, (over_two 2 (one 5) 4, refl, inl (refl, all-keys (over_two 2 (one 5) 4) refl refl (one 3), refl)), (leaf [] (one 5) (Some 4) ((1, 10) ∷ (3, 30) ∷ []), refl, ((refl, in-left (Some 4) ((1, 10) ∷ (3, 30) ∷ []) (one 3) refl), (refl, refl))))

pub right-of-two : Finds two_leaves (one 5) (λ pid n. (pid ≡ 4) × HasAt (one 5) (Some (one 50)) n) 1 root
right-of-two = (4, (over_two 2 (one 5) 4, refl, inl (refl, all-keys (over_two 2 (one 5) 4) refl refl (one 5), refl)), (leaf (one 5) [] None ((5, 50) ∷ []), refl, ((refl, in-right ((5, 50) ∷ []) (one 5) at-five), (refl, refl))))

pub none-at-four : Comes two_leaves (one 4) (λ _ n. HasAt (one 4) None n) root
none-at-four = (1, (2, (over_two 2 (one 5) 4, refl, inl (refl, all-keys (over_two 2 (one 5) 4) refl refl (one 4), refl)), (leaf [] (one 5) (Some 4) ((1, 10) ∷ (3, 30) ∷ []), refl, ((refl, in-left (Some 4) ((1, 10) ∷ (3, 30) ∷ []) (one 4) refl), refl))))

pub left-half-way : Finds half_way (one 3) (λ pid n. (pid ≡ 2) × HasAt (one 3) (Some (one 30)) n) 1 root
left-half-way = (2, (over_one 2, refl, inl (refl, all-keys (over_one 2) refl refl (one 3), refl)), (leaf [] (one 5) (Some 4) ((1, 10) ∷ (3, 30) ∷ []), refl, ((refl, in-left (Some 4) ((1, 10) ∷ (3, 30) ∷ []) (one 3) refl), (refl, refl))))

pub right-half-way : Finds half_way (one 5) (λ pid n. (pid ≡ 4) × HasAt (one 5) (Some (one 50)) n) 2 root
right-half-way = (2, (over_one 2, refl, inl (refl, all-keys (over_one 2) refl refl (one 5), refl)), (4, (leaf [] (one 5) (Some 4) ((1, 10) ∷ (3, 30) ∷ []), refl, inr (not-in-left (Some 4) ((1, 10) ∷ (3, 30) ∷ []) (one 5) at-five, refl)), (leaf (one 5) [] None ((5, 50) ∷ []), refl, ((refl, in-right ((5, 50) ∷ []) (one 5) at-five), (refl, refl)))))

-- ---- no trees

-- a leaf that lacks the key in its range, and has no next
astray : (lo hi : Bytes) (pairs : List (ℕ × ℕ)) (key : Bytes) → (IsInRange (leaf lo hi None pairs) key → ⊥) → IsAstray key (leaf lo hi None pairs)
astray lo hi pairs key out = (λ of. out of.1, λ page leads. by page leads)
  where
    not-some : (page : ℕ) → ◌≡◌ {A = Option ℕ} None (Some page) → ⊥
    not-some page h = absurd (let e = h in cc)

    by : (page : ℕ) → LeadsTo (leaf lo hi None pairs) key page → ⊥
    by page (inl down) = absurd (let e = down.0 in cc)
    by page (inr right) = not-some page right.1

no-tree : (pages : List Content) (key : Bytes) (turns at : ℕ) → Goes pages key turns root at → HasNodeAt pages at (IsAstray key) → (m : Map) → IsTreeOf pages root m → ⊥
no-tree pages key turns at goes stray m tree =
    let (j, found) = tree.comes key in
    let (k, sum, rest) = rest-of pages key (λ _ n. HasAt key (at_key m key) n) turns j root at goes found in
    found-not-astray pages key (λ _ n. HasAt key (at_key m key) n) k at rest stray

pub no-tree-part-lost : (m : Map) → IsTreeOf part_lost root m → ⊥
no-tree-part-lost = no-tree part_lost (one 5) 1 2 (2, (over_one 2, refl, inl (refl, all-keys (over_one 2) refl refl (one 5), refl)), refl) (leaf [] (one 5) None ((1, 10) ∷ (3, 30) ∷ []), refl, astray [] (one 5) ((1, 10) ∷ (3, 30) ∷ []) (one 5) (not-in-left None ((1, 10) ∷ (3, 30) ∷ []) (one 5) at-five))

three-below : IsInRange (leaf (one 5) [] None ((5, 50) ∷ [])) (one 3) → ⊥
three-below range = range.0 refl

pub no-tree-led-astray : (m : Map) → IsTreeOf led_astray root m → ⊥
no-tree-led-astray = no-tree led_astray (one 3) 1 4 (4, (over_two 2 (one 2) 4, refl, inl (refl, all-keys (over_two 2 (one 2) 4) refl refl (one 3), refl)), refl) (leaf (one 5) [] None ((5, 50) ∷ []), refl, astray (one 5) [] ((5, 50) ∷ []) (one 3) three-below)

pub no-tree-not-cut : (m : Map) → IsTreeOf not_cut root m → ⊥
no-tree-not-cut m tree =
    let all = leaf [] [] None ((1, 10) ∷ (3, 30) ∷ []) in
    let index = over_two 2 (one 5) 4 in
    let (j, found) = tree.covers (one 3) (one 7) 2 (1, (2, (index, refl, inl (refl, all-keys index refl refl (one 3), refl)), (all, refl, ((refl, all-keys all refl refl (one 3)), (refl, all-keys all refl refl (one 7)))))) in
    found-leaf not_cut (one 7) (λ pid n. (pid ≡ 4) × ((pid ≡ 2) × IsInRange n (one 3))) ⊥ (λ pid n there of is. apart pid is.0 is.1.0) 1 root
    (found-both not_cut (one 7) (λ pid _. pid ≡ 4) (λ pid n. (pid ≡ 2) × IsInRange n (one 3)) 1 j root (4, (index, refl, inl (refl, all-keys index refl refl (one 7), refl)), (leaf (one 5) [] None ((5, 50) ∷ []), refl, ((refl, in-right ((5, 50) ∷ []) (one 7) below-seven), refl))) found)
  where
    apart : (pid : ℕ) → pid ≡ 4 → pid ≡ 2 → ⊥
    apart pid a b = absurd (omega arith)

pub pair-lost-is-another : IsTreeOf pair_lost root three_pairs → ⊥
pair-lost-is-another tree =
    let (j, found) = tree.comes (one 3) in
    let index = over_two 2 (one 5) 4 in
    let none : Finds pair_lost (one 3) (λ _ n. HasAt (one 3) None n) 1 root = (2, (index, refl, inl (refl, all-keys index refl refl (one 3), refl)), (leaf [] (one 5) (Some 4) ((1, 10) ∷ []), refl, ((refl, in-left (Some 4) ((1, 10) ∷ []) (one 3) refl), refl))) in
    not-some (one_found pair_lost (one 3) None (at_key three_pairs (one 3)) 1 j root none found)
  where
    not-some : ◌≡◌ {A = Option Bytes} None (Some (one 30)) → ⊥
    not-some h = absurd (let e = h in cc)
