-- Two roots over leaves of their own, and over one leaf.
use Rattle.std.proofs.Common.{◌≡◌, ◌≢◌, ◌⊎◌, inl, inr, ℕ, [], refl, sym, ◌∙◌, subst, ◌<◌, arith}
use Rattle.std.proofs.lemmas.Bool.{cases_eq}
use Rattle.sled_search.specs.Examples.{over_one, two_trees, one_leaf_of_two}
use Rattle.sled_search.specs.Maps.{HasTree, no_maps, with_map, Reaches, AreTrees, IsOff}
use Rattle.sled_search.specs.Search.{LeadsTo, IsTreeOf}
use Rattle.sled_search.proofs.Empty.{empty-tree}
use Rattle.sled_search.proofs.SplitTrees.{all-keys}
use Rattle.sled_search.proofs.Together.{none-off, none-there, not-some-map, one-more, two-pages, with-other}

first : AreTrees two_trees (with_map 3 [] no_maps)
first = one-more two_trees no_maps 3 2 (none-there two_trees) (none-off two_trees 3) (none-off two_trees 2) refl refl

-- the first tree has the pages 3 and 2 alone
three-or-two : (page : ℕ) → Reaches two_trees 3 page → (◌≡◌ {A = ℕ} 3 page) ⊎ (◌≡◌ {A = ℕ} 2 page)
three-or-two page (key, t, goes) = two-pages two_trees no_maps 3 2 (none-there two_trees) (none-off two_trees 3) (none-off two_trees 2) refl refl key t page goes

is-three : (root : ℕ) → HasTree (with_map 3 [] no_maps) root → root ≡ 3
is-three root (m, is) = by (cases_eq root 3)
  where
    by : (root ≡ 3) ⊎ (root ≡ 3 → ⊥) → root ≡ 3
    by (inl same) = same
    by (inr other) = absurd (not-some-map m (sym (with-other 3 [] no_maps root other) ∙ is))

later-off : (page : ℕ) → 3 < page → IsOff two_trees (with_map 3 [] no_maps) page
later-off page later root has x = by (three-or-two page (subst (λ q. Reaches two_trees q page) (is-three root has) x))
  where
    by : (◌≡◌ {A = ℕ} 3 page) ⊎ (◌≡◌ {A = ℕ} 2 page) → ⊥
    by (inl same) = absurd (omega arith)
    by (inr same) = absurd (omega arith)

pub two : AreTrees two_trees (with_map 5 [] (with_map 3 [] no_maps))
two = one-more two_trees (with_map 3 [] no_maps) 5 4 first (later-off 5 (omega arith)) (later-off 4 (omega arith)) refl refl

pub each : IsTreeOf one_leaf_of_two 3 [] × IsTreeOf one_leaf_of_two 4 []
each = (empty-tree one_leaf_of_two 3 2 refl refl, empty-tree one_leaf_of_two 4 2 refl refl)

leads : LeadsTo (over_one 2) [] 2
leads = inl (refl, all-keys (over_one 2) refl refl [], refl)

four-not-three : ◌≢◌ {A = ℕ} 4 3
four-not-three e = absurd (omega arith)

pub not-two : AreTrees one_leaf_of_two (with_map 4 [] (with_map 3 [] no_maps)) → ⊥
not-two trees = trees.apart 4 3 ([], refl) ([], refl) four-not-three 2 ([], 1, (2, (over_one 2, refl, leads), refl)) ([], 1, (2, (over_one 2, refl, leads), refl))
