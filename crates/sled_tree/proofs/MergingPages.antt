-- Two neighbours become one node.
use Rattle.std.proofs.Common.{◌≡◌, ◌≢◌, ◌⊎◌, inl, inr, ◌∙◌, ℕ, ◌+◌, true, false, List, [], ◌∷◌, ◌++◌, None, Some, Result, Ok, slice_get, slice_set, refl, sym, ap, subst}
use Rattle.std.proofs.lemmas.List.{append-nil}
use Rattle.std.proofs.lemmas.List.Elements.{All-cons, All-nil}
use Rattle.sled_base.specs.Order.{Bytes}
use Rattle.sled_base.specs.OrderLaws.{not_below_itself}
use Rattle.sled_base.specs.declared.types.Error.{Error}
use Rattle.sled_log.specs.Contents.{Content, Node, Roots, Update}
use Rattle.sled_log.specs.Events.{Event}
use Rattle.sled_log.specs.declared.log.Log.{Ghosts}
use Rattle.sled_node.specs.Links.{applied, without_child}
use Rattle.sled_node.specs.Node.{WholeNode, Child, IsWellFormed}
use Rattle.sled_node.specs.Pairs.{del_pair}
use Rattle.sled_node.specs.Splitting.{CanReceive, merged}
use Rattle.sled_node.specs.declared.node.link.Link.TheVariants.{ParentMergeIntention, ParentMergeConfirm}
use Rattle.sled_pagecache.specs.Cache.{Cache}
use Rattle.sled_pagecache.specs.Limits.{meta_pid}
use Rattle.sled_pagecache.specs.State.{State, Token, contents_of}
use Rattle.sled_search.specs.Calls.{Becomes}
use Rattle.sled_search.specs.Maps.{HasTree, AreTrees, IsOff}
use Rattle.sled_search.specs.Merging.{AreBeside}
use Rattle.sled_search.specs.Search.{HasNodeAt}
use Rattle.sled_search.proofs.InARow.{two-parts}
use Rattle.sled_search.proofs.Merges.{taken-in-among, taken-in-off, taken-out-among, taken-out-beside}
use Rattle.sled_search.proofs.Together.{with-here}
use Rattle.sled_tree.specs.Dropping.{AreLoose}
use Rattle.sled_tree.specs.Maps.{ChangesMap, Follows, Keeps, Stays, TakesKey, Turns}
use Rattle.sled_tree.specs.Merging.{AreJoined, HasPlan, IsParted, IsPlanned}
use Rattle.sled_tree.specs.Named.{Named, AreNamed, with_map_at}
use Rattle.sled_tree.specs.Performs.{Performs}
use Rattle.sled_tree.specs.Splits.{Puts}
use Rattle.sled_tree.specs.Walks.{HasRoot, Leads}
use Rattle.sled_tree.specs.declared.merging.plan.Joined.{Joined}
use Rattle.sled_tree.specs.declared.merging.plan.Neighbours.{Neighbours}
use Rattle.sled_tree.specs.declared.merging.plan.Parted.{Parted}
use Rattle.sled_tree.specs.declared.merging.plan.Plan.{Plan}
use Rattle.sled_tree.specs.declared.splits.Changed.{Changed}
use Rattle.sled_tree.proofs.Events.{follows-then, known}
use Rattle.sled_tree.proofs.Keeping.{Kept, change-keeps, made-kept}
use Rattle.sled_tree.proofs.Naming.{names-stay}
use Rattle.sled_tree.proofs.Performing.{Then, then, weaker}

-- the index without a child, as two links make it
pub taken : (n : WholeNode) (page : ℕ) → n.child ≡ None → applied ParentMergeConfirm (applied (ParentMergeIntention page) n) ≡ record n { pairs = without_child page n.pairs }
taken n page none = rw (← none) refl

-- both neighbours, and the index above
module _ (pages : List Content) (root above : ℕ) (neighbours : Neighbours) (joined : Joined) (parted : Parted) where
  pub planned : AreJoined pages neighbours joined → HasNodeAt pages above (IsParted neighbours joined.begin parted) → Leads pages parted.low root above × Leads pages joined.begin root above
      → (plan : Plan) → plan.above ≡ parted.index → plan.left ≡ joined.left → IsPlanned pages root above neighbours plan
  planned (l, at_left, (r, at_right, both)) (n, at_above, index) leads plan above_is left_is = record {
    n = n;
    l = l;
    r = r;
    under = record {
      index = index.both.index;
      from_low = (subst (λ (key : Bytes). Leads pages key root above) index.low leads.0, at_above);
      key = r.lo;
      behind = not_below_itself r.lo;
      up_to_key = (subst (λ (key : Bytes). Leads pages key root above) both.begin leads.1, at_above);
      place = index.both.place;
      low = index.both.low;
      leads_left = index.both.to_left;
      leads_right = subst (λ (key : Bytes). slice_get n.pairs (index.both.place + 1) ≡ Some (key, Child neighbours.right)) both.begin index.both.to_right;
      at_left = at_left;
      at_right = at_right;
      meet = both.can.meet;
      next = both.next;
    };
    can = both.can;
    index_well = index.well;
    left_well = both.left_well;
    right_well = both.right_well;
    index = ap (λ (c : Changed). c.node) above_is ∙ index.node;
    joined = ap (λ (c : Changed). c.node) left_is ∙ both.node;
  }

-- ---- the steps

module _ (root above : ℕ) (neighbours : Neighbours) (plan : Plan) where
  -- the index leads to the left one alone
  pub record HasBeside (pages : List Content) (w : Named) : Type 0 where
    pub has : HasTree w.maps root
    pub l : WholeNode
    pub r : WholeNode
    pub beside : AreBeside pages root neighbours.left l neighbours.right r
    pub can : CanReceive l r
    pub left_well : IsWellFormed l
    pub right_well : IsWellFormed r
    pub joined : plan.left.node ≡ merged l r

  index-named : (pages : List Content) (w : Named) → AreNamed pages w → HasPlan root above neighbours plan pages w → AreNamed (slice_set pages above (Node plan.above.node)) w
  index-named pages w are (has, so) = record {
    names = names-stay pages w.names are.names above so.n so.under.from_low.1 (Node plan.above.node);
    trees = subst (λ (k : WholeNode). AreTrees (slice_set pages above (Node k)) w.maps) (sym so.index)
        (taken-out-among pages w.maps root are.trees has above so.n neighbours.left so.l neighbours.right so.r so.index_well so.under);
  }

  index-beside : (pages : List Content) (w : Named) → AreNamed pages w → HasPlan root above neighbours plan pages w → HasBeside (slice_set pages above (Node plan.above.node)) w
  index-beside pages w are (has, so) = record {
    has = has;
    l = so.l;
    r = so.r;
    beside = subst (λ (k : WholeNode). AreBeside (slice_set pages above (Node k)) root neighbours.left so.l neighbours.right so.r) (sym so.index)
        (taken-out-beside pages w.maps root are.trees has above so.n neighbours.left so.l neighbours.right so.r so.index_well so.under);
    can = so.can;
    left_well = so.left_well;
    right_well = so.right_well;
    joined = so.joined;
  }

  pub index-keeps : {T : Type 0} (result : Result T Error) (s t : State) (events : List (Event Update)) → Puts above plan.above.node result s events t → Keeps (HasPlan root above neighbours plan) s events t
  index-keeps result s t events puts = change-keeps (HasPlan root above neighbours plan) s t (slice_set (contents_of s) above (Node plan.above.node)) events puts.stuck result puts.ends (λ w are so. index-named (contents_of s) w are so)

  pub index-made : {T : Type 0} (answer : T) (s t : State) (events : List (Event Update)) → Puts {E = Error} above plan.above.node (Ok answer) s events t → Kept (HasPlan root above neighbours plan) HasBeside s events t
  index-made answer s t events puts = made-kept (HasPlan root above neighbours plan) s t (slice_set (contents_of s) above (Node plan.above.node)) events puts.stuck HasBeside puts.ends
      (λ w are so. (index-named (contents_of s) w are so, index-beside (contents_of s) w are so))

  -- both are one node, and no search is at the right one
  joined-named : (pages : List Content) (w : Named) → AreNamed pages w → HasBeside pages w → AreNamed (slice_set pages neighbours.left (Node plan.left.node)) w
  joined-named pages w are so = record {
    names = names-stay pages w.names are.names neighbours.left so.l so.beside.from_key.1 (Node plan.left.node);
    trees = subst (λ (k : WholeNode). AreTrees (slice_set pages neighbours.left (Node k)) w.maps) (sym so.joined)
        (taken-in-among pages w.maps root are.trees so.has neighbours.left so.l neighbours.right so.r so.beside so.can so.left_well so.right_well);
  }

  right-off : (pages : List Content) (w : Named) → AreNamed pages w → HasBeside pages w → IsOff (slice_set pages neighbours.left (Node plan.left.node)) w.maps neighbours.right
  right-off pages w are so = subst (λ (k : WholeNode). IsOff (slice_set pages neighbours.left (Node k)) w.maps neighbours.right) (sym so.joined)
      (taken-in-off pages w.maps root are.trees so.has neighbours.left so.l neighbours.right so.r so.beside so.can so.left_well so.right_well)

  right-node : (pages : List Content) (w : Named) → AreNamed pages w → HasBeside pages w → neighbours.right ≢ meta_pid
  right-node pages w are so same =
      let e : Some (Roots w.names) ≡ Some (Node so.r) = sym are.names ∙ subst (λ (q : ℕ). slice_get pages q ≡ Some (Node so.r)) same so.beside.at_right in
      cc

  module _ (of_right : plan.right.pid ≡ neighbours.right) where
    right-loose : (pages : List Content) (w : Named) → AreNamed pages w → HasBeside pages w → AreLoose (plan.right ∷ []) (slice_set pages neighbours.left (Node plan.left.node)) w
    right-loose pages w are so =
        let Is : Token → Type 0 = λ (token : Token). (token.pid ≢ meta_pid) × IsOff (slice_set pages neighbours.left (Node plan.left.node)) w.maps token.pid in
        All-cons Is plan.right [] (
        subst (λ (q : ℕ). (q ≢ meta_pid) × IsOff (slice_set pages neighbours.left (Node plan.left.node)) w.maps q) (sym of_right) (right-node pages w are so, right-off pages w are so))
        (All-nil Is)

    pub joined-keeps : {T : Type 0} (result : Result T Error) (s t : State) (events : List (Event Update)) → Puts neighbours.left plan.left.node result s events t → Keeps HasBeside s events t
    joined-keeps result s t events puts = change-keeps HasBeside s t (slice_set (contents_of s) neighbours.left (Node plan.left.node)) events puts.stuck result puts.ends (λ w are so. joined-named (contents_of s) w are so)

    pub joined-made : {T : Type 0} (answer : T) (s t : State) (events : List (Event Update)) → Puts {E = Error} neighbours.left plan.left.node (Ok answer) s events t → Kept HasBeside (AreLoose (plan.right ∷ [])) s events t
    joined-made answer s t events puts = made-kept HasBeside s t (slice_set (contents_of s) neighbours.left (Node plan.left.node)) events puts.stuck (AreLoose (plan.right ∷ [])) puts.ends
        (λ w are so. (joined-named (contents_of s) w are so, right-loose (contents_of s) w are so))

-- ---- behind a key that was taken out

module _ (w others : Named) (s mid t : State) (first later : List (Event Update)) (before : Follows s first mid) (behind : Follows mid later t) (turned : Turns s w first others mid) where
  turns-stay : Stays mid others later t → Turns s w (first ++ later) others t
  turns-stay more = (by (known mid.fault), more.1)
    where
      by : (mid.fault ≡ true) ⊎ (mid.fault ≡ false) → Becomes AreNamed (contents_of s) w (first ++ later) others
      by (inl kept) = subst (λ (es : List (Event Update)). Becomes AreNamed (contents_of s) w es others) (sym (ap (λ (es : List (Event Update)). first ++ es) (behind.stuck kept).0 ∙ append-nil first)) turned.0
      by (inr none) = two-parts AreNamed (contents_of s) w others others first later turned.0 (subst (λ (ps : List Content). Becomes AreNamed ps others later others) (before.pages none) more.0) (inr refl)

module _ {L : Type 0} (g : Ghosts L) (E : Type 0) (root : ℕ) (key had : Bytes) (old mid new : Cache L) where
  abbrev pub Takes : State → List (Event Update) → State → Type 0
  Takes s events t = ChangesMap root (TakesKey {E = E} root key (Ok (Some had))) s events t

  -- what the maps are then stays
  pub takes-then : Performs g Takes old mid → Performs g (Keeps (HasRoot root)) mid new → Performs g Takes old new
  takes-then first later = weaker g (Then Takes (Keeps (HasRoot root))) Takes old new by (then g Takes (Keeps (HasRoot root)) old mid new first later)
    where
      both : (s middle t : State) (before behind : List (Event Update)) → Takes s before middle → Keeps (HasRoot root) middle behind t → ChangesMap root (TakesKey {E = E} root key (Ok (Some had))) s (before ++ behind) t
      both s middle t before behind takes keeps = record {
        follows = follows-then s middle t before behind takes.follows keeps.follows;
        does = λ w m are has.
            let (there, turned) = takes.does w m are has in (
              there,
              turns-stay w (with_map_at root (del_pair key m) w) s middle t before behind takes.follows keeps.follows turned
                  (keeps.stays (with_map_at root (del_pair key m) w) turned.1 (del_pair key m, with-here root (del_pair key m) w.maps)),
            );
      }

      by : (s t : State) (events : List (Event Update)) → Then Takes (Keeps (HasRoot root)) s events t → Takes s events t
      by s t events (middle, before, behind, is, takes, keeps) = subst (λ (es : List (Event Update)). Takes s es t) (sym is) (both s middle t before behind takes keeps)
