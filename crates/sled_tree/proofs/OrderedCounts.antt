-- One leaf after another: each begins where the one before ends, so their pairs are all there are.
use Rattle.std.proofs.Common.{◌≡◌, ◌≢◌, ◌⊎◌, inl, inr, ℕ, ◌+◌, List, [], ◌∷◌, length, Some, slice_get, refl, sym, ◌∙◌, ap, subst, arith, length-append}
use Rattle.std.specs.declared.ops.Bound.TheVariants.{Included}
use Rattle.sled_base.specs.Order.{Bytes, IsBelow, IsAtMost}
use Rattle.sled_base.specs.OrderLaws.{at_most_trans, below_or_same, below_trans, not_below_itself}
use Rattle.sled_log.specs.Contents.{Content, Node}
use Rattle.sled_node.specs.Node.{WholeNode, IsInRange}
use Rattle.sled_search.specs.Map.{Map}
use Rattle.sled_search.specs.Search.{ComesToLeafOf, IsTreeOf}
use Rattle.sled_search.proofs.Before.{higher}
use Rattle.sled_search.proofs.Changes.{leaf-has}
use Rattle.sled_search.proofs.Pairs.{same_or_not}
use Rattle.sled_search.proofs.Search.{found-both, found-leaf, found-so, leaf-there, one_node}
use Rattle.sled_search.proofs.Separated.{never-below}
use Rattle.sled_tree.specs.Ordered.{behind, within}
use Rattle.sled_tree.specs.OrderedLeaves.{ShowsPart, HasPart, IsStart, IsCounted}
use Rattle.sled_tree.specs.declared.neighbours.count.Part.{Part}
use Rattle.sled_tree.proofs.OrderedPieces.{end_of, leaf-pairs, long-items, part-ends, part-goes-on, all-behind}

-- no key is below the empty one
least : (key : Bytes) → IsAtMost key [] → key ≡ []
least [] le = refl
least (x ∷ key) le = absurd (le refl)

module _ (pages : List Content) (root : ℕ) where
  -- a search comes to one leaf
  one-leaf : (key a b : Bytes) (leaf other : ℕ) → ComesToLeafOf pages key a leaf root → ComesToLeafOf pages key b other root → leaf ≡ other
  one-leaf key a b leaf other (i, x) (j, y) =
      found-leaf pages key (λ pid n. ((pid ≡ leaf) × IsInRange n a) × ((pid ≡ other) × IsInRange n b)) (leaf ≡ other) (λ pid n at of is. sym is.0.0 ∙ is.1.0)
      i root (found-both pages key (λ pid n. (pid ≡ leaf) × IsInRange n a) (λ pid n. (pid ≡ other) × IsInRange n b) i j root x y)

  module _ (m : Map) (tree : IsTreeOf pages root m) where
    module _ (key : Bytes) (leaf : ℕ) (comes : ComesToLeafOf pages key key leaf root) (n : WholeNode) (there : slice_get pages leaf ≡ Some (Node n)) where
      range : IsInRange n key
      range = let (i, x) = comes in (leaf-there pages key leaf n there i root x).1

      -- a search for any other key of its range comes there too
      comes-too : (other : Bytes) → IsInRange n other → ComesToLeafOf pages other key leaf root
      comes-too other range = let (i, x) = comes in
          tree.covers key other leaf (
            i,
            found-so pages key (λ pid k. (pid ≡ leaf) × IsInRange k key) (λ pid k. (pid ≡ leaf) × IsInRange k other)
                (λ pid k at of is. (is.0, subst (λ (w : WholeNode). IsInRange w other) (sym (one_node pages leaf n k there (subst (λ q. slice_get pages q ≡ Some (Node k)) is.0 at))) range)) i root x,
          )

    -- the leaf of the key at which another one ends begins there
    begins : (key : Bytes) → IsStart pages root key → (leaf : ℕ) → ComesToLeafOf pages key key leaf root → (n : WholeNode) → slice_get pages leaf ≡ Some (Node n) → n.lo ≡ key
    begins key (inl none) leaf comes n there = least n.lo (subst (λ (k : Bytes). IsAtMost n.lo k) none (range key leaf comes n there).0) ∙ sym none
    begins key (inr (other, before, comes', (k, at, ends))) leaf comes n there = by (same_or_not n.lo key)
      where
        in-n : IsInRange n key
        in-n = range key leaf comes n there

        in-k : IsInRange k other
        in-k = range other before comes' k at

        by : (n.lo ≡ key) ⊎ (n.lo ≢ key) → n.lo ≡ key
        by (inl same) = same
        by (inr differs) =
            let low : IsBelow n.lo key = below_or_same n.lo key in-n.0 differs in
            let some : key ≢ [] = λ e. never-below n.lo (subst (λ (x : Bytes). IsBelow n.lo x) e low) in
            let low' : IsBelow other key = subst (λ (x : Bytes). IsBelow other x) ends (in-k.1 (λ e. some (sym ends ∙ e))) in
            let (c, up, up', under) = higher (λ (x : Bytes). IsBelow x key) n.lo other low low' in
            let leaf-is : before ≡ leaf = one-leaf c other key before leaf
            (comes-too other before comes' k at c (at_most_trans k.lo other c in-k.0 up', λ _. subst (λ (x : Bytes). IsBelow c x) (sym ends) under))
            (comes-too key leaf comes n there c (up, λ more. below_trans c key n.hi under (in-n.1 more)))
            in
            let node : n ≡ k = one_node pages before k n at (subst (λ p. slice_get pages p ≡ Some (Node n)) (sym leaf-is) there) in
            let end : n.hi ≡ key = ap (λ (w : WholeNode). w.hi) node ∙ ends in
            absurd (not_below_itself key (subst (λ (x : Bytes). IsBelow key x) end (in-n.1 (λ e. some (sym end ∙ e)))))

    -- how many pairs of the map are from the key on
    module _ (key : Bytes) (start : IsStart pages root key) (part : Part) (leaf : ℕ) (comes : ComesToLeafOf pages key key leaf root) (n : WholeNode) (there : slice_get pages leaf ≡ Some (Node n)) (is : ShowsPart part n) where
      first : n.lo ≡ key
      first = begins key start leaf comes n there

      many : length (within (Included n.lo) (end_of n.hi) m) ≡ part.pairs
      many =
          sym (ap length (leaf-pairs n m tree.ascending is.well_formed (λ other range. leaf-has pages root m tree key leaf n there comes other range)) ∙ long-items (within (Included n.lo) (end_of n.hi) m))
          ∙ is.pairs

      last-part : part.end ≡ [] → length (behind (Included key) m) ≡ part.pairs
      last-part none = subst (λ (from : Bytes). length (behind (Included from) m) ≡ part.pairs) first (sym (ap length (part-ends m tree.ascending n.lo n.hi (is.end ∙ none))) ∙ many)

      more-parts : part.end ≢ [] → length (behind (Included key) m) ≡ part.pairs + length (behind (Included part.end) m)
      more-parts some =
          let some' : n.hi ≢ [] = λ e. some (sym is.end ∙ e) in
          let all : length (behind (Included n.lo) m) ≡ part.pairs + length (behind (Included n.hi) m) =
          ap length (part-goes-on m tree.ascending n.lo n.hi some' (is.well_formed.range some')) ∙ length-append (within (Included n.lo) (end_of n.hi) m) (behind (Included n.hi) m)
          ∙ ap (λ k. k + length (behind (Included n.hi) m)) many
          in
          subst (λ (from : Bytes). length (behind (Included from) m) ≡ part.pairs + length (behind (Included part.end) m)) first
          (subst (λ (end : Bytes). length (behind (Included n.lo) m) ≡ part.pairs + length (behind (Included end) m)) is.end all)

  -- ---- parts that are counted

  pub counted-first : (part : Part) → HasPart pages root [] part → IsCounted pages root 0 part
  counted-first part has = record { key = []; start = inl refl; has = has; counted = λ m tree. let all = sym (ap length (all-behind m)) in omega (arith, all) }

  pub counted-next : (count : ℕ) (part next : Part) → IsCounted pages root count part → part.end ≢ [] → HasPart pages root part.end next → IsCounted pages root (count + part.pairs) next
  counted-next count part next so_far some has = by so_far.has
    where
      by : HasPart pages root so_far.key part → IsCounted pages root (count + part.pairs) next
      by (leaf, comes, (n, there, is)) = record {
        key = part.end;
        start = inr (so_far.key, leaf, comes, (n, there, is.end));
        has = has;
        counted = λ m tree.
            let front = so_far.counted m tree in
            let here = more-parts m tree so_far.key so_far.start part leaf comes n there is some in
            omega (arith, front, here);
      }

  pub counted-all : (count : ℕ) (part : Part) → IsCounted pages root count part → part.end ≡ [] → (m : Map) → IsTreeOf pages root m → count + part.pairs ≡ length m
  counted-all count part so_far none m tree = by so_far.has
    where
      by : HasPart pages root so_far.key part → count + part.pairs ≡ length m
      by (leaf, comes, (n, there, is)) =
          let front = so_far.counted m tree in
          let here = last-part m tree so_far.key so_far.start part leaf comes n there is none in
          omega (arith, front, here)
