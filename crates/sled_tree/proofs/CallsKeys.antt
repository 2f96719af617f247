-- Calls that leave a key: its value stays, and so does what another call needs.
use Rattle.std.proofs.Common.{◌≡◌, ◌≢◌, ◌⊎◌, inl, inr, ℕ, ◌==◌, Bool, true, false, [], Option, Some, None, Ok, Err, sym, ◌∙◌, ap, subst}
use Rattle.std.proofs.lemmas.Bool.Decides.{eqb_tells}
use Rattle.sled_base.specs.Order.{Bytes}
use Rattle.sled_node.specs.Pairs.{set_pair, del_pair}
use Rattle.sled_search.specs.Map.{Map, at_key}
use Rattle.sled_search.specs.Maps.{Maps, HasTree, with_map}
use Rattle.sled_search.proofs.Edits.{at-set-other, at-del-other}
use Rattle.sled_search.proofs.Together.{same-map, with-here, with-other}
use Rattle.sled_tree.specs.Calls.{MapCall, Opened, Got, Contained, GotFirst, GotLast, GotAbove, GotBelow, GotRange, Counted, FoundEmpty, Inserted, Removed, Swapped, Generated, Flushed, Pinned, Sealed, Cancelled, Needs, Does, HasMap, StaysUnless, LeavesKey}
use Rattle.sled_tree.specs.Maps.{root_of, with_swapped}
use Rattle.sled_tree.specs.Named.{Named, with_map_at, with_new}
use Rattle.sled_tree.specs.Names.{IsFree}
use Rattle.sled_tree.specs.Prefixes.{Makes}

-- a root that has a map has one, whatever another is set to
pub has-still : (maps : Maps) (root other : ℕ) (m : Map) → HasTree maps other → HasTree (with_map root m maps) other
has-still maps root other m (had, is) = by (eqb_tells other root)
  where
    by : ((other == root ≡ true) × (other ≡ root)) ⊎ ((other == root ≡ false) × (other ≢ root)) → HasTree (with_map root m maps) other
    by (inl same) = (m, ap (λ (r : ℕ). with_map root m maps r) same.1 ∙ with-here root m maps)
    by (inr differ) = (had, with-other root m maps other differ.1 ∙ is)

pub needs-still : (what : MapCall) (w v : Named) (root : ℕ) (m : Map) → v.maps ≡ with_map root m w.maps → Needs what w → Needs what v
needs-still (Opened name result) w v root m is needs = tt
needs-still (Got other key result) w v root m is needs = subst (λ (maps : Maps). HasTree maps other) (sym is) (has-still w.maps root other m needs)
needs-still (Contained other key result) w v root m is needs = subst (λ (maps : Maps). HasTree maps other) (sym is) (has-still w.maps root other m needs)
needs-still (GotFirst other result) w v root m is needs = subst (λ (maps : Maps). HasTree maps other) (sym is) (has-still w.maps root other m needs)
needs-still (GotLast other result) w v root m is needs = subst (λ (maps : Maps). HasTree maps other) (sym is) (has-still w.maps root other m needs)
needs-still (GotAbove other bound result) w v root m is needs = subst (λ (maps : Maps). HasTree maps other) (sym is) (has-still w.maps root other m needs)
needs-still (GotBelow other bound result) w v root m is needs = subst (λ (maps : Maps). HasTree maps other) (sym is) (has-still w.maps root other m needs)
needs-still (GotRange other from to result) w v root m is needs = subst (λ (maps : Maps). HasTree maps other) (sym is) (has-still w.maps root other m needs)
needs-still (Counted other result) w v root m is needs = subst (λ (maps : Maps). HasTree maps other) (sym is) (has-still w.maps root other m needs)
needs-still (FoundEmpty other result) w v root m is needs = subst (λ (maps : Maps). HasTree maps other) (sym is) (has-still w.maps root other m needs)
needs-still (Inserted other key value result) w v root m is needs = subst (λ (maps : Maps). HasTree maps other) (sym is) (has-still w.maps root other m needs)
needs-still (Removed other key result) w v root m is needs = subst (λ (maps : Maps). HasTree maps other) (sym is) (has-still w.maps root other m needs)
needs-still (Swapped other key before after result) w v root m is needs = subst (λ (maps : Maps). HasTree maps other) (sym is) (has-still w.maps root other m needs)
needs-still (Generated result) w v root m is needs = tt
needs-still (Flushed result) w v root m is needs = tt
needs-still (Pinned result) w v root m is needs = tt
needs-still (Sealed result) w v root m is needs = tt
needs-still (Cancelled result) w v root m is needs = tt

module _ (root : ℕ) (key value : Bytes) where
  -- the map at the root has that value at the key
  abbrev pub HasValue : Named → Type 0
  HasValue w = HasMap w root (λ m. at_key m key ≡ Some value)

  pub set-has : (old new : Named) (m : Map) → new ≡ with_map_at root m old → at_key m key ≡ Some value → HasValue new
  set-has old new m is at = subst HasValue (sym is) (m, with-here root m old.maps, at)

  -- another map is set, or this one to pairs that have the same at the key
  turned-has : (old : Named) (other : ℕ) (m changed : Map) → old.maps other ≡ Some m → (other ≡ root → at_key changed key ≡ at_key m key) → HasValue old → HasValue (with_map_at other changed old)
  turned-has old other m changed at same (had, is, so) = by (eqb_tells root other)
    where
      by : ((root == other ≡ true) × (root ≡ other)) ⊎ ((root == other ≡ false) × (root ≢ other)) → HasValue (with_map_at other changed old)
      by (inl here) =
          let one : m ≡ had = same-map m had (sym at ∙ ap old.maps (sym here.1) ∙ is) in
          (changed, ap (λ (r : ℕ). with_map other changed old.maps r) here.1 ∙ with-here other changed old.maps, same (sym here.1) ∙ ap (λ (n : Map). at_key n key) one ∙ so)
      by (inr differ) = (had, with-other other changed old.maps root differ.1 ∙ is, so)

  new-has : (name : Bytes) (other : ℕ) (old : Named) → IsFree name other old → HasValue old → HasValue (with_new name other old)
  new-has name other old free (m, is, so) = (m, with-other other [] old.maps root (λ same. free.1 (subst (HasTree old.maps) same (m, is))) ∙ is, so)

  unless-has : (fault : Bool) (old others new : Named) → StaysUnless fault old others new → HasValue old → HasValue others → HasValue new
  unless-has fault old others new (inl is) has then = subst HasValue (sym is) has
  unless-has fault old others new (inr (kept, is)) has then = subst HasValue (sym is) then

  set-other : (old : Named) (other : ℕ) (k v : Bytes) (m : Map) → old.maps other ≡ Some m → (other ≡ root → k ≢ key) → HasValue old → HasValue (with_map_at other (set_pair k v m) old)
  set-other old other k v m at leaves has = turned-has old other m (set_pair k v m) at (λ same. at-set-other k m key (leaves same) v) has

  del-other : (old : Named) (other : ℕ) (k : Bytes) (m : Map) → old.maps other ≡ Some m → (other ≡ root → k ≢ key) → HasValue old → HasValue (with_map_at other (del_pair k m) old)
  del-other old other k m at leaves has = turned-has old other m (del_pair k m) at (λ same. at-del-other k m key (leaves same)) has

  swap-other : (old : Named) (other : ℕ) (k : Bytes) (before after : Option Bytes) (m : Map) → old.maps other ≡ Some m → (other ≡ root → k ≢ key) → HasValue old → HasValue (with_swapped other k before after m old)
  swap-other old other k before (Some v) m at leaves has = set-other old other k v m at leaves has
  swap-other old other k (Some before) None m at leaves has = del-other old other k m at leaves has
  swap-other old other k None None m at leaves has = has

  -- the value stays
  pub does-has : (what : MapCall) (fault : Bool) (old new : Named) → LeavesKey root key what → Does what fault old new → HasValue old → HasValue new
  does-has (Opened name (Ok tree)) fault old new leaves (inl (had, is)) has = subst HasValue (sym is) has
  does-has (Opened name (Ok tree)) fault old new leaves (inr (free, is)) has = subst HasValue (sym is) (new-has name (root_of tree) old free has)
  does-has (Opened name (Err e)) fault old new leaves (inl is) has = subst HasValue (sym is) has
  does-has (Opened name (Err e)) fault old new leaves (inr (other, free, stays)) has = unless-has fault old (with_new name other old) new stays has (new-has name other old free has)
  does-has (Got other k result) fault old new leaves (is, so) has = subst HasValue (sym is) has
  does-has (Contained other k result) fault old new leaves (is, so) has = subst HasValue (sym is) has
  does-has (GotFirst other result) fault old new leaves (is, so) has = subst HasValue (sym is) has
  does-has (GotLast other result) fault old new leaves (is, so) has = subst HasValue (sym is) has
  does-has (GotAbove other bound result) fault old new leaves (is, so) has = subst HasValue (sym is) has
  does-has (GotBelow other bound result) fault old new leaves (is, so) has = subst HasValue (sym is) has
  does-has (GotRange other from to result) fault old new leaves (is, so) has = subst HasValue (sym is) has
  does-has (Counted other result) fault old new leaves (is, so) has = subst HasValue (sym is) has
  does-has (FoundEmpty other result) fault old new leaves (is, so) has = subst HasValue (sym is) has
  does-has (Inserted other k v (Ok before)) fault old new leaves (m, at, (was, is)) has = subst HasValue (sym is) (set-other old other k v m at leaves has)
  does-has (Inserted other k v (Err e)) fault old new leaves (m, at, stays) has = unless-has fault old (with_map_at other (set_pair k v m) old) new stays has (set-other old other k v m at leaves has)
  does-has (Removed other k (Ok None)) fault old new leaves (m, at, (none, is)) has = subst HasValue (sym is) has
  does-has (Removed other k (Ok (Some before))) fault old new leaves (m, at, (was, is)) has = subst HasValue (sym is) (del-other old other k m at leaves has)
  does-has (Removed other k (Err e)) fault old new leaves (m, at, stays) has = unless-has fault old (with_map_at other (del_pair k m) old) new stays has (del-other old other k m at leaves has)
  does-has (Swapped other k before after (Ok (Ok done))) fault old new leaves (m, at, (was, is)) has = subst HasValue (sym is) (swap-other old other k before after m at leaves has)
  does-has (Swapped other k before after (Ok (Err present))) fault old new leaves (m, at, (was, differs, is)) has = subst HasValue (sym is) has
  does-has (Swapped other k before after (Err e)) fault old new leaves (m, at, stays) has = unless-has fault old (with_swapped other k before after m old) new stays has (swap-other old other k before after m at leaves has)
  does-has (Generated result) fault old new leaves is has = subst HasValue (sym is) has
  does-has (Flushed result) fault old new leaves is has = subst HasValue (sym is) has
  does-has (Pinned result) fault old new leaves is has = subst HasValue (sym is) has
  does-has (Sealed result) fault old new leaves is has = subst HasValue (sym is) has
  does-has (Cancelled result) fault old new leaves is has = subst HasValue (sym is) has

  pub makes-has : (what : MapCall) (before fault : Bool) (old new : Named) → LeavesKey root key what → Makes Does before what fault old new → HasValue old → HasValue new
  makes-has what true fault old new leaves is has = subst HasValue (sym is) has
  makes-has what false fault old new leaves does has = does-has what fault old new leaves does has
