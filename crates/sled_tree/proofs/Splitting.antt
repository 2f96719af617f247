-- The steps in which a node is split leave the maps.
use Rattle.std.proofs.Common.{◌≡◌, ℕ, List, [], ◌∷◌, Some, Result, Ok, slice_get, slice_set, refl, sym, ◌∙◌, ap, subst}
use Rattle.std.proofs.lemmas.Option.{slice_get_within}
use Rattle.sled_base.proofs.LinkedLists.Linking.{get_set_there}
use Rattle.sled_base.specs.Order.{Bytes}
use Rattle.sled_base.specs.declared.types.Error.{Error}
use Rattle.sled_log.specs.Contents.{Content, Node, Update, Put, contents_with}
use Rattle.sled_log.specs.Events.{Event}
use Rattle.sled_log.specs.declared.log.Log.{Ghosts}
use Rattle.sled_node.specs.Children.{index_of}
use Rattle.sled_node.specs.Node.{WholeNode, Child}
use Rattle.sled_pagecache.specs.Cache.{Cache}
use Rattle.sled_pagecache.specs.State.{State, Token, contents_of}
use Rattle.sled_search.specs.Maps.{AreTrees, IsOff}
use Rattle.sled_search.specs.Search.{HasNodeAt}
use Rattle.sled_search.proofs.OneOfMany.{child-among, hoisted-among, in-place-among, set-one}
use Rattle.sled_search.proofs.Separated.{right-some}
use Rattle.sled_tree.specs.Changed.{Reads, Adds, Made}
use Rattle.sled_tree.specs.Maps.{Keeps}
use Rattle.sled_tree.specs.Named.{Named, AreNamed}
use Rattle.sled_tree.specs.Performs.{Performs}
use Rattle.sled_tree.specs.Splits.{AreParts, IsCut, IsLed, Puts}
use Rattle.sled_tree.specs.Walks.{IsMet}
use Rattle.sled_tree.specs.declared.splits.Parts.{Parts}
use Rattle.sled_tree.proofs.Adding.{added, added-keeps, added-named, added-off, added-one, added-there, fresh-off, new-off}
use Rattle.sled_tree.proofs.Keeping.{Fact, Kept, change-keeps, kept-last, kept-on, kept-then, made-kept}
use Rattle.sled_tree.proofs.Naming.{names-stay}
use Rattle.sled_tree.proofs.Performing.{Allots, reads-so}
use Rattle.sled_tree.proofs.Reaching.{met-reached, met-stays, still-above}

-- ---- a page that is added

-- a node that is put on a new page leaves the maps, whether that was refused or not
pub allot-keeps : (If : Fact) (node : WholeNode) (result : Result (ℕ × Token) Error) (s t : State) (events : List (Event Update)) → Allots node result s events t → Keeps If s events t
allot-keeps If node result s t events allots = change-keeps If s t (added (contents_of s) allots.pid allots.adds node) events allots.stuck result allots.ends (λ w are so. added-named (contents_of s) allots.pid allots.adds node w are)

-- and then this is so of the pages with it
pub allot-made : (If Last : Fact) (node : WholeNode) (page : ℕ) (fresh : Token) → ((pages : List Content) (adds : Adds pages page) (w : Named) → AreNamed pages w → If pages w → Last (added pages page adds node) w)
    → (s t : State) (events : List (Event Update)) → Allots {E = Error} node (Ok (page, fresh)) s events t → Kept If Last s events t
allot-made If Last node page fresh into s t events allots =
    by (subst (λ (p : ℕ). Adds (contents_of s) p × Made s (contents_with (contents_of s) p (Put (Node node))) events t) (sym allots.is) (allots.adds, allots.ends))
  where
    by : Adds (contents_of s) page × Made s (contents_with (contents_of s) page (Put (Node node))) events t → Kept If Last s events t
    by (adds, made) = made-kept If s t (added (contents_of s) page adds node) events allots.stuck Last made (λ w are so. (added-named (contents_of s) page adds node w are, into (contents_of s) adds w are so))

-- ---- a node in two parts

-- the page has a node of these parts
abbrev pub HasParts : ℕ → WholeNode → WholeNode → List Content → Type 0
HasParts child l r pages = HasNodeAt pages child (λ n. AreParts n l r)

module _ (above child : ℕ) (l r : WholeNode) where
  -- the page to which a search comes has it
  abbrev pub IsParted : Fact
  IsParted pages w = IsMet above child pages w × HasParts child l r pages

  -- and another page, at which no search is yet, has the right part
  pub record HasRight (sibling : ℕ) (pages : List Content) (w : Named) : Type 0 where
    pub met : IsMet above child pages w
    pub parts : HasParts child l r pages
    pub right : slice_get pages sibling ≡ Some (Node r)
    pub off : IsOff pages w.maps sibling

  pub with-right : (sibling : ℕ) (pages : List Content) (adds : Adds pages sibling) (w : Named) → AreNamed pages w → IsParted pages w → HasRight sibling (added pages sibling adds r) w
  with-right sibling pages adds w are (met, (n, at, parts)) = record {
    met = met-stays pages (added pages sibling adds r) w sibling (added-one pages sibling adds r) above child (fresh-off pages sibling adds r w.maps are.trees) met;
    parts = (n, added-keeps pages sibling adds r child n at, parts);
    right = added-there pages sibling adds r;
    off = new-off pages sibling adds r w.maps are.trees;
  }

  module _ (sibling : ℕ) where
    abbrev pub left_part : WholeNode
    left_part = record l { next = Some sibling }

    -- the left part is put in place of the whole
    left-named : (pages : List Content) (w : Named) → AreNamed pages w → HasRight sibling pages w → AreNamed (slice_set pages child (Node left_part)) w
    left-named pages w are so =
        let (n, at, parts) = so.parts in
        let (root, has, reached) = met-reached above child pages w so.met in
        record {
          names = names-stay pages w.names are.names child n at (Node left_part);
          trees = in-place-among pages w.maps root are.trees has child n l r reached at parts.splits parts.well parts.left parts.right sibling so.off so.right;
        }

    pub put-left-keeps : {T : Type 0} (result : Result T Error) (s t : State) (events : List (Event Update)) → Puts child left_part result s events t → Keeps (HasRight sibling) s events t
    put-left-keeps result s t events puts = change-keeps (HasRight sibling) s t (slice_set (contents_of s) child (Node left_part)) events puts.stuck result puts.ends (λ w are so. left-named (contents_of s) w are so)

    pub put-left-made : {T : Type 0} (answer : T) (s t : State) (events : List (Event Update)) → Puts {E = Error} child left_part (Ok answer) s events t → Kept (HasRight sibling) (IsCut above child r.lo sibling) s events t
    put-left-made answer s t events puts =
        made-kept (HasRight sibling) s t (slice_set (contents_of s) child (Node left_part)) events puts.stuck (IsCut above child r.lo sibling) puts.ends (λ w are so. (left-named (contents_of s) w are so, cut (contents_of s) w are so))
      where
        cut : (pages : List Content) (w : Named) → AreNamed pages w → HasRight sibling pages w → IsCut above child r.lo sibling (slice_set pages child (Node left_part)) w
        cut pages w are so =
            let (n, at, parts) = so.parts in
            record {
              ends = (left_part, get_set_there pages child (Node left_part) (slice_get_within pages child (Node n) at), (parts.splits.left_hi, refl));
              some = right-some n l r parts.splits parts.well;
              reached = still-above pages (slice_set pages child (Node left_part)) w child (set-one pages child (Node left_part)) are.trees above so.met;
            }

    -- or the left part is on another page, at which no search is yet
    pub record HasBoth (first : ℕ) (pages : List Content) (w : Named) : Type 0 where
      pub second : HasRight sibling pages w
      pub left : slice_get pages first ≡ Some (Node left_part)
      pub left_off : IsOff pages w.maps first

    pub with-left : (first : ℕ) (pages : List Content) (adds : Adds pages first) (w : Named) → AreNamed pages w → HasRight sibling pages w → HasBoth first (added pages first adds left_part) w
    with-left first pages adds w are so =
        let (n, at, parts) = so.parts in
        record {
          second = record {
            met = met-stays pages (added pages first adds left_part) w first (added-one pages first adds left_part) above child (fresh-off pages first adds left_part w.maps are.trees) so.met;
            parts = (n, added-keeps pages first adds left_part child n at, parts);
            right = added-keeps pages first adds left_part sibling r so.right;
            off = added-off pages first adds left_part w.maps are.trees sibling so.off;
          };
          left = added-there pages first adds left_part;
          left_off = new-off pages first adds left_part w.maps are.trees;
        }

    abbrev pub over_both : ℕ → WholeNode
    over_both first = index_of (([], Child first) ∷ (r.lo, Child sibling) ∷ [])

    pub put-over-keeps : {T : Type 0} (first : ℕ) (result : Result T Error) (s t : State) (events : List (Event Update)) → Puts child (over_both first) result s events t → Keeps (HasBoth first) s events t
    put-over-keeps first result s t events puts = change-keeps (HasBoth first) s t (slice_set (contents_of s) child (Node (over_both first))) events puts.stuck result puts.ends (λ w are so. over-named (contents_of s) w are so)
      where
        over-named : (pages : List Content) (w : Named) → AreNamed pages w → HasBoth first pages w → AreNamed (slice_set pages child (Node (over_both first))) w
        over-named pages w are so =
            let (n, at, parts) = so.second.parts in
            let (root, has, reached) = met-reached above child pages w so.second.met in
            record {
              names = names-stay pages w.names are.names child n at (Node (over_both first));
              trees = hoisted-among pages w.maps root are.trees has child n l r reached at parts.splits parts.well parts.left parts.right sibling so.second.off so.second.right first so.left_off so.left;
            }

-- ---- a child that is added to an index

pub led-on : {T E : Type 0} (above child : ℕ) (at : Bytes) (page : ℕ) (made : WholeNode) (result : Result T E) (s t : State) (events : List (Event Update)) → HasNodeAt (contents_of s) above (λ n. IsLed n child at page made) → Puts above made result s events t → Keeps (IsCut above child at page) s events t
led-on above child at page made result s t events (n, there, led) puts =
    change-keeps (IsCut above child at page) s t (slice_set (contents_of s) above (Node made)) events puts.stuck result puts.ends (λ w are so. by (contents_of s) there w are so)
  where
    by : (pages : List Content) → slice_get pages above ≡ Some (Node n) → (w : Named) → AreNamed pages w → IsCut above child at page pages w → AreNamed (slice_set pages above (Node made)) w
    by pages there w are so =
        let (k, at_child, (hi, next)) = so.ends in
        let (root, has, reached) = so.reached in
        record {
          names = names-stay pages w.names are.names above n there (Node made);
          trees = subst (λ (k : WholeNode). AreTrees (slice_set pages above (Node k)) w.maps) (sym led.is)
              (child-among pages w.maps root are.trees has above n at page reached there led.index led.ascending child led.leads k at_child hi so.some next);
        }

-- ---- the same of calls that were made

-- the parts that were found
pub parts-kept : {L : Type 0} (g : Ghosts L) (above : ℕ) {child : ℕ} {parts : Parts} {old new : Cache L}
    → Performs g (Reads {E = Error} (Ok parts) (λ pages (parts : Parts). HasNodeAt pages child (λ n. AreParts n parts.left parts.right))) old new
    → Performs g (Kept (IsMet above child) (IsParted above child parts.left parts.right)) old new
parts-kept g above {child} {parts} {old} {new} h =
    kept-on g (IsMet above child) (IsParted above child parts.left parts.right) (HasParts child parts.left parts.right) old new (λ pages w has met. (met, has))
    (reads-so g (λ pages (parts : Parts). HasNodeAt pages child (λ n. AreParts n parts.left parts.right)) old new parts h)

module _ {L : Type 0} (g : Ghosts L) {above child : ℕ} {old mid new : Cache L} where
  pub allot-failed : {Mid : Fact} {node : WholeNode} {result : Result (ℕ × Token) Error} → Performs g (Kept (IsMet above child) Mid) old mid → Performs g (Allots node result) mid new → Performs g (Keeps (IsMet above child)) old new
  allot-failed {Mid} {node} {result} so_far more = kept-last g (IsMet above child) Mid (Allots node result) old mid new (λ s t events made. allot-keeps Mid node result s t events made) so_far more

  -- the index above leads to the right part at once, from the key at which that begins
  pub lead-then : {low at : Bytes} {sibling : ℕ} → Performs g (Kept (IsMet above child) (IsCut above child low sibling)) old mid → at ≡ low → Performs g (Keeps (IsCut above child at sibling)) mid new
      → Performs g (Keeps (IsMet above child)) old new
  lead-then {low} {sibling = sibling} so_far same more = kept-last g (IsMet above child) (IsCut above child low sibling) (Keeps (IsCut above child low sibling)) old mid new (λ s t events keeps. keeps) so_far
      (subst (λ (key : Bytes). Performs g (Keeps (IsCut above child key sibling)) mid new) same more)

  module _ {l r : WholeNode} {sibling : ℕ} where
    pub allot-then : {fresh : Token} → Performs g (Kept (IsMet above child) (IsParted above child l r)) old mid → Performs g (Allots {E = Error} r (Ok (sibling, fresh))) mid new
        → Performs g (Kept (IsMet above child) (HasRight above child l r sibling)) old new
    allot-then {fresh} so_far more = kept-then g (IsMet above child) (IsParted above child l r) (HasRight above child l r sibling) (Allots {E = Error} r (Ok (sibling, fresh))) old mid new
        (λ s t events made. allot-made (IsParted above child l r) (HasRight above child l r sibling) r sibling fresh (λ pages adds w are so. with-right above child l r sibling pages adds w are so) s t events made) so_far more

    module _ (so_far : Performs g (Kept (IsMet above child) (HasRight above child l r sibling)) old mid) where
      pub put-left-then : {T : Type 0} {answer : T} → Performs g (Puts {E = Error} child (record l { next = Some sibling }) (Ok answer)) mid new → Performs g (Kept (IsMet above child) (IsCut above child r.lo sibling)) old new
      put-left-then {answer = answer} more = kept-then g (IsMet above child) (HasRight above child l r sibling) (IsCut above child r.lo sibling) (Puts {E = Error} child (record l { next = Some sibling }) (Ok answer)) old mid new
          (λ s t events puts. put-left-made above child l r sibling answer s t events puts) so_far more

      pub put-left-failed : {T : Type 0} {result : Result T Error} → Performs g (Puts child (record l { next = Some sibling }) result) mid new → Performs g (Keeps (IsMet above child)) old new
      put-left-failed {result = result} more = kept-last g (IsMet above child) (HasRight above child l r sibling) (Puts child (record l { next = Some sibling }) result) old mid new
          (λ s t events puts. put-left-keeps above child l r sibling result s t events puts) so_far more

      pub allot-left-then : {left : WholeNode} {first : ℕ} {fresh : Token} → left ≡ record l { next = Some sibling } → Performs g (Allots {E = Error} left (Ok (first, fresh))) mid new
          → Performs g (Kept (IsMet above child) (HasBoth above child l r sibling first)) old new
      allot-left-then {first = first} {fresh = fresh} same more = kept-then g (IsMet above child) (HasRight above child l r sibling) (HasBoth above child l r sibling first) (Allots {E = Error} (record l { next = Some sibling }) (Ok (first, fresh))) old mid new
          (λ s t events made. allot-made (HasRight above child l r sibling) (HasBoth above child l r sibling first) (record l { next = Some sibling }) first fresh (λ pages adds w are so. with-left above child l r sibling first pages adds w are so) s t events made) so_far
          (subst (λ (n : WholeNode). Performs g (Allots {E = Error} n (Ok (first, fresh))) mid new) same more)

    -- the index over both parts
    pub hoist-then : {T : Type 0} {first : ℕ} {result : Result T Error} {at : Bytes} {index : WholeNode} → Performs g (Kept (IsMet above child) (HasBoth above child l r sibling first)) old mid → at ≡ r.lo
        → index ≡ index_of (([], Child first) ∷ (at, Child sibling) ∷ []) → Performs g (Puts child index result) mid new → Performs g (Keeps (IsMet above child)) old new
    hoist-then {first = first} {result = result} so_far low is more = kept-last g (IsMet above child) (HasBoth above child l r sibling first) (Puts child (over_both above child l r sibling first) result) old mid new
        (λ s t events puts. put-over-keeps above child l r sibling first result s t events puts) so_far
        (subst (λ (n : WholeNode). Performs g (Puts child n result) mid new) (is ∙ ap (λ (key : Bytes). index_of (([], Child first) ∷ (key, Child sibling) ∷ [])) low) more)
