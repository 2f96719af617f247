-- What a leaf shows is so of the map that the tree is.
use Rattle.std.proofs.Common.{◌≡◌, ◌≢◌, ◌⊎◌, inl, inr, ℕ, false, List, [], ◌++◌, Option, None, Some, slice_get, refl, sym, ◌∙◌, ap, subst}
use Rattle.std.specs.Global.{Vec}
use Rattle.std.specs.declared.ops.Bound.{Bound}
use Rattle.std.specs.declared.ops.Bound.TheVariants.{Included}
use Rattle.std.proofs.lemmas.List.{append-nil}
use Rattle.sled_base.specs.Order.{Bytes, IsBelow}
use Rattle.sled_base.specs.OrderLaws.{below_trans}
use Rattle.sled_log.specs.Contents.{Content, Node}
use Rattle.sled_node.specs.Neighbours.{IsBefore}
use Rattle.sled_node.specs.Node.{Item, WholeNode, IsInRange, IsWellFormed}
use Rattle.sled_search.specs.Map.{Map}
use Rattle.sled_search.specs.Ordered.{IsNextAbove, IsNextBelow, start_of, is_before}
use Rattle.sled_search.specs.Search.{HasNodeAt, ComesToLeafOf, IsLeafOf, IsTreeOf}
use Rattle.sled_search.proofs.Above.{empty-or-not, first-here, first-further, none-at-end}
use Rattle.sled_search.proofs.Before.{before-down}
use Rattle.sled_search.proofs.Below.{last-here, last-further}
use Rattle.sled_search.proofs.Changes.{leaf-has}
use Rattle.sled_search.proofs.Search.{leaf-there, one_node}
use Rattle.sled_search.proofs.Separated.{never-below}
use Rattle.sled_tree.specs.Ordered.{within, IsPieceOf}
use Rattle.sled_tree.specs.OrderedLeaves.{as_items, ComesBefore, ShowsAbove, ShowsBelow, IsNear, SeesNear, ShowsWithin, IsPartOf}
use Rattle.sled_tree.specs.declared.neighbours.Near.{Near}
use Rattle.sled_tree.specs.declared.neighbours.Near.TheVariants.{Pair, Further, Nothing}
use Rattle.sled_tree.specs.declared.neighbours.Side.{Side}
use Rattle.sled_tree.specs.declared.neighbours.Side.TheVariants.{Above, Below}
use Rattle.sled_tree.specs.declared.neighbours.pieces.LeafPart.{LeafPart}
use Rattle.sled_tree.specs.declared.neighbours.pieces.Piece.{Piece}
use Rattle.sled_tree.proofs.OrderedPieces.{end_of, leaf-pairs, same-items, within-items, piece-ends, piece-goes-on, none-past}

-- ---- the pair next to a bound

module _ (pages : List Content) (root : ℕ) (m : Map) (tree : IsTreeOf pages root m) (bound : Bound Bytes) (leaf : ℕ) where
  pub near-above : ComesToLeafOf pages (start_of bound) (start_of bound) leaf root → (near : Near) → HasNodeAt pages leaf (ShowsAbove bound near) → IsNear Above m bound near
  near-above comes (Pair pair) (n, there, (well, least)) = first-here pages root m tree bound leaf comes n there well pair least
  near-above comes (Further next) (n, there, (none, is, some)) = λ answer found.
      first-further pages root m tree bound leaf comes n there none some answer (subst (λ (at : Bound Bytes). IsNextAbove m at answer) is found)
  near-above comes Nothing (n, there, (none, is)) = none-at-end pages root m tree bound leaf comes n there none is

  pub near-below : IsBefore bound [] → ComesBefore pages root bound leaf → (near : Near) → HasNodeAt pages leaf (ShowsBelow bound near) → IsNear Below m bound near
  near-below first (turns, goes, (n, there, is)) near (k, at, shows) = by near (subst (λ (w : WholeNode). ShowsBelow bound near w) (one_node pages leaf n k there at) shows)
    where
      by : (near : Near) → ShowsBelow bound near n → IsNear Below m bound near
      by (Pair pair) (well, greatest) = last-here pages root m tree bound first turns leaf goes n there is.0 is.1 well pair greatest
      by (Further next) (none, same) = λ answer found.
          last-further pages root m tree bound first turns leaf goes n there is.0 is.1 none answer (subst (λ (at : Bound Bytes). IsNextBelow m at answer) same found)
      by Nothing shows = absurd shows

-- a bound before which no key may be
pub none-below : (m : Map) (bound : Bound Bytes) → (IsBefore bound [] → ⊥) → IsNextBelow m bound None
none-below m bound never key value is before = never (before-down bound key [] before (never-below key))

-- where to look further, and what is there
further : (side : Side) (m : Map) (bound next : Bound Bytes) → IsNear side m bound (Further next) → (near : Near) → IsNear side m next near → IsNear side m bound near
further side m bound next so (Pair pair) is = so (Some pair) is
further side m bound next so (Further other) is = λ answer found. so answer (is answer found)
further side m bound next so Nothing is = so None is

pub near-on : (side : Side) (root : ℕ) (bound next : Bound Bytes) (seen near : Near) → seen ≡ Further next → (pages : List Content) → SeesNear side root bound pages seen → SeesNear side root next pages near → SeesNear side root bound pages near
near-on side root bound next seen near is pages so_far then' = λ m tree. further side m bound next (subst (λ (n : Near). IsNear side m bound n) is (so_far m tree)) near (then' m tree)

-- ---- the pairs within two bounds

module _ (pages : List Content) (root : ℕ) (m : Map) (tree : IsTreeOf pages root m) (key : Bytes) (leaf : ℕ) (comes : ComesToLeafOf pages key key leaf root) (n : WholeNode) (there : slice_get pages leaf ≡ Some (Node n)) (well : IsWellFormed n) where
  at-leaf : IsLeafOf key n
  at-leaf = let (i, x) = comes in leaf-there pages key leaf n there i root x

  own-pairs : n.pairs ≡ as_items (within (Included n.lo) (end_of n.hi) m)
  own-pairs = leaf-pairs n m tree.ascending well (λ other range. leaf-has pages root m tree key leaf n there comes other range)

module _ (pages : List Content) (root : ℕ) (m : Map) (tree : IsTreeOf pages root m) (leaf : ℕ) where
  pub part-is : (from to : Bound Bytes) → ComesToLeafOf pages (start_of from) (start_of from) leaf root → (part : LeafPart) → HasNodeAt pages leaf (ShowsWithin from to part) → IsPartOf from to m part
  part-is from to comes part (n, there, is) = record {
    ends = λ none. piece-ends m tree.ascending n.lo n.hi from to range.0 (is.end ∙ none) ∙ sym pairs;
    goes_on = λ some.
        subst (λ (end : Bytes). within from to m ≡ part.pairs.items ++ within (Included end) to m) is.end
        (piece-goes-on m tree.ascending n.lo n.hi from to range.0 (not-empty some) (range.1 (not-empty some)) ∙ ap (λ (ps : Map). ps ++ within (Included n.hi) to m) (sym pairs));
    further = λ some. subst (λ (end : Bytes). IsBelow (start_of from) end) is.end (range.1 (not-empty some));
  }
    where
      not-empty : part.end ≢ [] → n.hi ≢ []
      not-empty some e = some (sym is.end ∙ e)

      range : IsInRange n (start_of from)
      range = (at-leaf pages root m tree (start_of from) leaf comes n there is.well_formed).1

      pairs : part.pairs.items ≡ within from to (within (Included n.lo) (end_of n.hi) m)
      pairs = same-items part.pairs.items (within from to (within (Included n.lo) (end_of n.hi) m))
          (is.pairs ∙ ap (λ (ps : List (Bytes × Item)). within from to ps) (own-pairs pages root m tree (start_of from) leaf comes n there is.well_formed) ∙ within-items from to (within (Included n.lo) (end_of n.hi) m))

abbrev pub piece_of : Vec (Bytes × Bytes) → Option Bytes → Piece
piece_of pairs rest = record { pairs = pairs; rest = rest }

-- what a leaf has is a piece, where it has any or is the last, and else the part of the next leaf is
module _ (from to : Bound Bytes) (m : Map) (part : LeafPart) (is : IsPartOf from to m part) where
  -- nothing before the bound is from its end on
  pub last-piece : (part.end ≡ []) ⊎ (is_before to part.end ≡ false) → IsPieceOf from to m (piece_of part.pairs None)
  last-piece last = record { pairs = all last ∙ sym (append-nil part.pairs.items); some = λ _. refl; further = tt }
    where
      by : is_before to part.end ≡ false → (part.end ≡ []) ⊎ (part.end ≢ []) → within from to m ≡ part.pairs.items
      by past (inl none) = is.ends none
      by past (inr more) = is.goes_on more ∙ ap (λ (ps : Map). part.pairs.items ++ ps) (none-past part.end to m past) ∙ append-nil part.pairs.items

      all : (part.end ≡ []) ⊎ (is_before to part.end ≡ false) → within from to m ≡ part.pairs.items
      all (inl none) = is.ends none
      all (inr past) = by past (empty-or-not part.end)

  pub some-piece : part.pairs.items ≢ [] → part.end ≢ [] → IsPieceOf from to m (piece_of part.pairs (Some part.end))
  some-piece some more = record { pairs = is.goes_on more; some = λ none. absurd (some none); further = is.further more }

  pub part-further : part.pairs.items ≡ [] → part.end ≢ [] → (next : LeafPart) → IsPartOf (Included part.end) to m next → IsPartOf from to m next
  part-further none more next then = record { ends = λ e. same ∙ then.ends e; goes_on = λ e. same ∙ then.goes_on e; further = λ e. below_trans (start_of from) part.end next.end (is.further more) (then.further e) }
    where
      same : within from to m ≡ within (Included part.end) to m
      same = is.goes_on more ∙ ap (λ (ps : Map). ps ++ within (Included part.end) to m) none
