-- An index over all keys, over one empty leaf, is the empty map.
use Rattle.std.proofs.Common.{◌≡◌, ℕ, zero, suc, List, [], ◌∷◌, None, Some, slice_get, refl, sym, ◌∙◌, inl}
use Rattle.sled_base.specs.Order.{Bytes, bytes_cmp}
use Rattle.sled_log.specs.Contents.{Content, Node}
use Rattle.sled_node.specs.Children.{index_of}
use Rattle.sled_node.specs.Node.{Child, WholeNode, IsInRange, empty_leaf}
use Rattle.sled_search.specs.Map.{leading}
use Rattle.sled_search.specs.Search.{HasAt, Finds, IsTreeOf}
use Rattle.sled_search.proofs.Leading.{lt-false}
use Rattle.sled_search.proofs.Search.{found-both, found-leaf, found-so}
use Rattle.sled_search.proofs.Separated.{never-below}
use Rattle.sled_search.proofs.SplitTrees.{all-keys}

module _ (pages : List Content) (root leaf : ℕ) (at_root : slice_get pages root ≡ Some (Node (index_of (([], Child leaf) ∷ [])))) (at_leaf : slice_get pages leaf ≡ Some (Node empty_leaf)) where
  leads : (key : Bytes) → leading (index_of (([], Child leaf) ∷ [])).pairs key ≡ Some (Child leaf)
  leads key = rw (lt-false (bytes_cmp key []) (never-below key)) refl

  search : (key : Bytes) (Is : ℕ → WholeNode → Type 0) → Is leaf empty_leaf → Finds pages key Is (suc zero) root
  search key Is is = (leaf, (index_of (([], Child leaf) ∷ []), at_root, inl (refl, all-keys (index_of (([], Child leaf) ∷ [])) refl refl key, leads key)), (empty_leaf, at_leaf, ((refl, all-keys empty_leaf refl refl key), is)))

  pub empty-tree : IsTreeOf pages root []
  empty-tree = record {
    ascending = tt;
    comes = λ key. (suc zero, search key (λ _ n. HasAt key None n) refl);
    covers = λ key other found (j, y).
        let same = found-leaf pages key (λ pid _. (pid ≡ leaf) × ((pid ≡ found) × Unit {0})) (leaf ≡ found) (λ pid n at of is. sym is.0 ∙ is.1.0) (suc zero) root (found-both pages key (λ pid _. pid ≡ leaf) (λ pid _. (pid ≡ found) × Unit {0}) (suc zero) j root (search key (λ pid _. pid ≡ leaf) refl) (found-so pages key (λ pid n. (pid ≡ found) × IsInRange n other) (λ pid _. (pid ≡ found) × Unit {0}) (λ pid n at of is. (is.0, tt)) j root y)) in
        (suc zero, search other (λ pid n. (pid ≡ found) × IsInRange n key) (same, all-keys empty_leaf refl refl key));
  }
