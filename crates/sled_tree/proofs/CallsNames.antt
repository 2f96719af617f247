-- A name that has a root keeps it, and the next opening finds it there.
use Rattle.std.proofs.Common.{◌≡◌, ◌≢◌, ◌⊎◌, inl, inr, ℕ, Bool, true, false, List, [], ◌∷◌, Option, Some, None, Ok, Err, refl, sym, ◌∙◌, ap, subst, cond}
use Rattle.std.proofs.lemmas.Map.Text.{is_eq-slice_cmp}
use Rattle.std.specs.Str.{bytes_eq}
use Rattle.sled_base.specs.Order.{Bytes}
use Rattle.sled_log.specs.declared.log.Log.{Ghosts}
use Rattle.sled_node.specs.Meta as meta
use Rattle.sled_node.specs.Pairs.{set_pair, del_pair}
use Rattle.sled_pagecache.specs.Cache.{Cache}
use Rattle.sled_pagecache.specs.Rows as row
use Rattle.sled_pagecache.specs.State.{State}
use Rattle.sled_pagecache.specs.declared.pagecache.handles.call.Answer.{Answer}
use Rattle.sled_pagecache.specs.declared.pagecache.handles.call.Call.{Call}
use Rattle.sled_pagecache.specs.declared.pagecache.handles.config.Config.{Config}
use Rattle.sled_search.specs.Map.{Map, at_key}
use Rattle.sled_search.proofs.Edits.{at-set, at-set-other}
use Rattle.sled_search.proofs.Pairs.{eq-other, same_or_not}
use Rattle.sled_tree.specs.Calls.{MapCall, Opened, Got, Contained, GotFirst, GotLast, GotAbove, GotBelow, GotRange, Counted, FoundEmpty, Inserted, Removed, Swapped, Generated, Flushed, Pinned, Sealed, Cancelled, Needs, Does, EndsInNeed, StaysUnless, deed}
use Rattle.sled_tree.specs.Maps.{root_of, with_swapped}
use Rattle.sled_tree.specs.Named.{Named, with_map_at, with_new}
use Rattle.sled_tree.specs.Openings.{Deed, Ending, Crashed, CrashedIn, CrashedRewriting, HandedOn, Rewritten, Opening, Lasted}
use Rattle.sled_tree.specs.Prefixes.{History, Makes, ShowDeeds, ShowEnd, ShowMaps, begun_by_start, flushes, history_after, named_by_now}
use Rattle.sled_tree.specs.declared.trees.Tree.{Tree}
use Rattle.sled_tree.proofs.CallsFlushed.{IsInside, ended-has, flushed-there, makes-same}
use Rattle.sled_tree.proofs.CallsKeys.{needs-still}
use Rattle.sled_tree.proofs.OpeningsMaps.{named-then}

-- ---- the root of a name

root-at : (name : Bytes) (roots : meta.Roots) → meta.root_of name roots ≡ at_key roots name
root-at name [] = refl
root-at name (pair ∷ roots) =
    ap (λ (b : Bool). cond b (Some pair.1) (meta.root_of name roots)) (same (same_or_not pair.0 name)) ∙ ap (λ (o : Option ℕ). cond (bytes_eq pair.0 name) (Some pair.1) o) (root-at name roots)
  where
    same : (pair.0 ≡ name) ⊎ (pair.0 ≢ name) → meta.is_name name pair.0 ≡ bytes_eq pair.0 name
    same (inl is) = is_eq-slice_cmp name pair.0 ∙ ap (λ (b : Bytes). bytes_eq name b) is ∙ sym (ap (λ (b : Bytes). bytes_eq b name) is)
    same (inr differ) = is_eq-slice_cmp name pair.0 ∙ eq-other name pair.0 (λ e. differ (sym e)) ∙ sym (eq-other pair.0 name differ)

named-new : (name : Bytes) (root : ℕ) (roots : meta.Roots) → meta.root_of name (meta.with_root name root roots) ≡ Some root
named-new name root roots = root-at name (meta.with_root name root roots) ∙ at-set name roots root

named-other : (name other : Bytes) (root : ℕ) (roots : meta.Roots) → other ≢ name → meta.root_of name (meta.with_root other root roots) ≡ meta.root_of name roots
named-other name other root roots differ = root-at name (meta.with_root other root roots) ∙ at-set-other other roots name differ root ∙ sym (root-at name roots)

module _ (name : Bytes) (root : ℕ) where
  abbrev pub HasRoot : Named → Type 0
  HasRoot w = meta.root_of name w.names ≡ Some root

  -- ---- it stays

  new-root : (other : Bytes) (free : ℕ) (old : Named) → meta.root_of other old.names ≡ None → HasRoot old → HasRoot (with_new other free old)
  new-root other free old none has = named-other name other free old.names (λ same. let e : None ≡ Some root = sym none ∙ ap (λ (b : Bytes). meta.root_of b old.names) same ∙ has in cc) ∙ has

  unless-root : (fault : Bool) (old others new : Named) → StaysUnless fault old others new → HasRoot old → HasRoot others → HasRoot new
  unless-root fault old others new (inl is) has then = subst HasRoot (sym is) has
  unless-root fault old others new (inr (kept, is)) has then = subst HasRoot (sym is) then

  swap-root : (other : ℕ) (k : Bytes) (before after : Option Bytes) (m : Map) (old : Named) → HasRoot old → HasRoot (with_swapped other k before after m old)
  swap-root other k before (Some v) m old has = has
  swap-root other k (Some before) None m old has = has
  swap-root other k None None m old has = has

  does-root : (what : MapCall) (fault : Bool) (old new : Named) → Does what fault old new → HasRoot old → HasRoot new
  does-root (Opened other (Ok tree)) fault old new (inl (had, is)) has = subst HasRoot (sym is) has
  does-root (Opened other (Ok tree)) fault old new (inr (free, is)) has = subst HasRoot (sym is) (new-root other (root_of tree) old free.0 has)
  does-root (Opened other (Err e)) fault old new (inl is) has = subst HasRoot (sym is) has
  does-root (Opened other (Err e)) fault old new (inr (page, free, stays)) has = unless-root fault old (with_new other page old) new stays has (new-root other page old free.0 has)
  does-root (Got other k result) fault old new (is, so) has = subst HasRoot (sym is) has
  does-root (Contained other k result) fault old new (is, so) has = subst HasRoot (sym is) has
  does-root (GotFirst other result) fault old new (is, so) has = subst HasRoot (sym is) has
  does-root (GotLast other result) fault old new (is, so) has = subst HasRoot (sym is) has
  does-root (GotAbove other bound result) fault old new (is, so) has = subst HasRoot (sym is) has
  does-root (GotBelow other bound result) fault old new (is, so) has = subst HasRoot (sym is) has
  does-root (GotRange other from to result) fault old new (is, so) has = subst HasRoot (sym is) has
  does-root (Counted other result) fault old new (is, so) has = subst HasRoot (sym is) has
  does-root (FoundEmpty other result) fault old new (is, so) has = subst HasRoot (sym is) has
  does-root (Inserted other k v (Ok before)) fault old new (m, at, (was, is)) has = subst HasRoot (sym is) has
  does-root (Inserted other k v (Err e)) fault old new (m, at, stays) has = unless-root fault old (with_map_at other (set_pair k v m) old) new stays has has
  does-root (Removed other k (Ok None)) fault old new (m, at, (none, is)) has = subst HasRoot (sym is) has
  does-root (Removed other k (Ok (Some before))) fault old new (m, at, (was, is)) has = subst HasRoot (sym is) has
  does-root (Removed other k (Err e)) fault old new (m, at, stays) has = unless-root fault old (with_map_at other (del_pair k m) old) new stays has has
  does-root (Swapped other k before after (Ok (Ok done))) fault old new (m, at, (was, is)) has = subst HasRoot (sym is) (swap-root other k before after m old has)
  does-root (Swapped other k before after (Ok (Err present))) fault old new (m, at, (was, differs, is)) has = subst HasRoot (sym is) has
  does-root (Swapped other k before after (Err e)) fault old new (m, at, stays) has = unless-root fault old (with_swapped other k before after m old) new stays has (swap-root other k before after m old has)
  does-root (Generated result) fault old new is has = subst HasRoot (sym is) has
  does-root (Flushed result) fault old new is has = subst HasRoot (sym is) has
  does-root (Pinned result) fault old new is has = subst HasRoot (sym is) has
  does-root (Sealed result) fault old new is has = subst HasRoot (sym is) has
  does-root (Cancelled result) fault old new is has = subst HasRoot (sym is) has

  makes-root : (what : MapCall) (before fault : Bool) (old new : Named) → Makes Does before what fault old new → HasRoot old → HasRoot new
  makes-root what true fault old new is has = subst HasRoot (sym is) has
  makes-root what false fault old new does has = does-root what fault old new does has

  inside : (w : Named) (ending : Ending MapCall) → EndsInNeed w ending → HasRoot w → IsInside HasRoot w ending
  inside w (CrashedIn deed) needs has = (needs, λ before fault new makes. makes-root deed.what before fault w new makes has)
  inside w Crashed needs has = tt
  inside w CrashedRewriting needs has = tt
  inside w HandedOn needs has = tt
  inside w Rewritten needs has = tt

-- ---- opening a name, and opening it again

opened-root : (name : Bytes) (tree : Tree) (fault : Bool) (old new : Named) → Does (Opened name (Ok tree)) fault old new → HasRoot name (root_of tree) new
opened-root name tree fault old new (inl (had, is)) = subst (HasRoot name (root_of tree)) (sym is) had
opened-root name tree fault old new (inr (free, is)) = subst (HasRoot name (root_of tree)) (sym is) (named-new name (root_of tree) old.names)

opened-needs : (name : Bytes) (tree : Tree) (fault : Bool) (old new : Named) (ending : Ending MapCall) → Does (Opened name (Ok tree)) fault old new → EndsInNeed old ending → EndsInNeed new ending
opened-needs name tree fault old new (CrashedIn deed) (inl (had, is)) needs = subst (Needs deed.what) (sym is) needs
opened-needs name tree fault old new (CrashedIn deed) (inr (free, is)) needs = subst (Needs deed.what) (sym is) (needs-still deed.what old (with_new name (root_of tree) old) (root_of tree) [] refl needs)
opened-needs name tree fault old new Crashed does needs = tt
opened-needs name tree fault old new CrashedRewriting does needs = tt
opened-needs name tree fault old new HandedOn does needs = tt
opened-needs name tree fault old new Rewritten does needs = tt

same-root : (name : Bytes) (root : ℕ) (tree : Tree) (fault : Bool) (old new : Named) → HasRoot name root old → Does (Opened name (Ok tree)) fault old new → root_of tree ≡ root
same-root name root tree fault old new has (inl (had, is)) = let e : Some (root_of tree) ≡ Some root = sym had ∙ has in cc
same-root name root tree fault old new has (inr (free, is)) = let e : None ≡ Some root = sym free.0 ∙ has in absurd cc

module _ {L : Type 0} (g : Ghosts L) (name : Bytes) where
  -- the first deed of an opening finds it
  pub finds-it : (root : ℕ) (h : History) (config : Config) (first last : Cache L) (calls : List (Call × Answer)) (tree : Tree) (ending : Ending MapCall) (left : L) (openings : List (Opening L MapCall))
      → HasRoot name root (named_by_now h) → ShowMaps g Needs Does h (Lasted config first (deed (Opened name (Ok tree)) calls ∷ []) last ending left ∷ openings) → root_of tree ≡ root
  finds-it root h config first last calls tree ending left openings has (opened, named, deeds) =
      let (outs, t, runs, w, does, end) = deeds tt in
      same-root name root tree t.fault _ w (subst (HasRoot name root) (sym (named-then h.named h.done (begun_by_start h) (named_by_now h))) has) does

  module _ (tree : Tree) (written : ℕ) (open_calls flush_calls : List (Call × Answer)) (flush : flushes flush_calls ≡ true) where
    abbrev opened : Deed MapCall
    opened = deed (Opened name (Ok tree)) open_calls

    abbrev flushed : Deed MapCall
    flushed = deed (Flushed (Ok written)) flush_calls

    abbrev Has : Named → Type 0
    Has = HasRoot name (root_of tree)

    -- opening and flushing, and then the end of the opening
    pub name-stays : (h : History) (s : State) (ending : Ending MapCall) (Then : History → Type 0) → s.fault ≡ false → EndsInNeed (named_by_now h) ending
        → ShowDeeds g Needs Does h s (opened ∷ flushed ∷ []) (λ behind u. ShowEnd Needs Does u behind ending Then) → (after : History) × Has (named_by_now after) × Then after
    name-stays h s ending Then free needs deeds =
        let (outs, t, runs, w, makes, rest) = deeds tt in
        let does = subst (λ b. Makes Does b opened.what t.fault (named_by_now h) w) free makes in
        let (outs2, u, runs2, w2, makes2, end) = rest tt in
        let one = history_after opened (row.changes_of outs) w h in
        let two = history_after flushed (row.changes_of outs2) w2 one in
        let now : named_by_now one ≡ w = named-then h.named h.done (row.changes_of outs) w in
        let same : w2 ≡ w = makes-same t.fault u.fault (Ok written) (named_by_now one) w2 makes2 ∙ now in
        let then : named_by_now two ≡ w = named-then one.named one.done (row.changes_of outs2) w2 ∙ same in
        let has = opened-root name tree t.fault (named_by_now h) w does in
        ended-has Has u two ending Then (flushed-there Has one flushed (row.changes_of outs2) w2 flush (subst Has (sym now) has) (subst Has (sym same) has)) (subst Has (sym then) has)
        (inside name (root_of tree) (named_by_now two) ending (subst (λ (v : Named). EndsInNeed v ending) (sym then) (opened-needs name tree t.fault (named_by_now h) w ending does needs)) (subst Has (sym then) has)) end
