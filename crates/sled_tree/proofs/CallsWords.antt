-- What the contract of a call says of it is the word that a run of openings asks of it.
use Rattle.std.proofs.Common.{◌≡◌, inl, inr, ℕ, Bool, List, Option, Some, None, Result, Ok, Err, refl, sym, ◌∙◌, ap, subst}
use Rattle.std.specs.Prelude.{IfOk}
use Rattle.sled_base.specs.Order.{Bytes}
use Rattle.sled_log.specs.Contents.{Update, contents_after}
use Rattle.sled_log.specs.Events.{Event}
use Rattle.sled_log.specs.declared.log.Log.{Ghosts}
use Rattle.sled_node.specs.Pairs.{set_pair, del_pair}
use Rattle.sled_pagecache.specs.Rows.{changes_of}
use Rattle.sled_pagecache.specs.State.{State, contents_of}
use Rattle.sled_search.specs.Calls.{Becomes}
use Rattle.sled_search.specs.Map.{Map}
use Rattle.sled_search.specs.Maps.{HasTree}
use Rattle.sled_search.specs.Search.{IsTreeOf}
use Rattle.sled_search.proofs.InARow.{no-change}
use Rattle.sled_tree.specs.Calls.{MapCall, Opened, Inserted, Removed, Swapped, Generated, Flushed, Pinned, Sealed, Cancelled, Needs, Does, HasMap, StaysUnless, IsWordOf}
use Rattle.sled_tree.specs.Changed.{LeavesPages, Reads}
use Rattle.sled_tree.specs.Maps.{ChangesMap, KeepsMaps, SetsKey, SwapsKey, TakesKey, StaysUnlessFaulty, root_of, with_swapped}
use Rattle.sled_tree.specs.Named.{Named, AreNamed, with_map_at, with_new}
use Rattle.sled_tree.specs.Names.{Opens, OpensMap}
use Rattle.sled_tree.specs.Openings.{KeepsWord}
use Rattle.sled_tree.specs.declared.error.TreeError.{TreeError}
use Rattle.sled_tree.specs.declared.trees.Tree.{Tree}
use Rattle.sled_tree.proofs.Events.{leaves-stay}
use Rattle.sled_tree.proofs.OpeningsPassing.{leaves}

-- the word of a call from whichever state is that of the call
pub word-of : {L : Type 0} (g : Ghosts L) (Is : State → List (Event Update) → State → Type 0) (what : MapCall) → ((s t : State) (events : List (Event Update)) → Is s events t → KeepsWord Needs Does what s events t) → IsWordOf g Is what
word-of g Is what word old new performs = (record { calls = performs.calls; made = performs.made; so = λ s t outs runs. word s t (changes_of outs) (performs.so s t outs runs) }, refl)

module _ (s t : State) (events : List (Event Update)) where
  -- what a call turns the old names and maps to
  abbrev pub TurnsTo : MapCall → Named → Type 0
  TurnsTo what old = (new : Named) × Does what t.fault old new × Becomes AreNamed (contents_of s) old events new

  -- ---- reading

  module _ {T : Type 0} (result : Result T TreeError) (root : ℕ) (Is : Map → T → Type 0) (reads : Reads result (λ pages answer. (m : Map) → IsTreeOf pages root m → Is m answer) s events t) where
    answered : (old : Named) → AreNamed (contents_of s) old → HasTree old.maps root → (other : Result T TreeError) → IfOk other (λ answer. (t ≡ s) × ((m : Map) → IsTreeOf (contents_of s) root m → Is m answer)) → IfOk other (λ answer. HasMap old root (λ m. Is m answer))
    answered old are (m, has) (Ok answer) is = (m, has, is.1 m (are.trees.each root m has))
    answered old are (m, has) (Err e) is = tt

    -- nothing is written, and the answer is so of the map
    pub reads-word : (what : MapCall) → ((w : Named) → Needs what w → HasTree w.maps root) → ((old : Named) → IfOk result (λ answer. HasMap old root (λ m. Is m answer)) → Does what t.fault old old) → KeepsWord Needs Does what s events t
    reads-word what has does = record {
      pages = λ _. reads.same ∙ sym (ap (λ (es : List (Event Update)). contents_after (contents_of s) es) reads.none);
      turns = λ old are needs. (
        old,
        does old (answered old are (has old needs) result reads.is),
        subst (λ (es : List (Event Update)). Becomes AreNamed (contents_of s) old es old) (sym reads.none) (no-change AreNamed (contents_of s) old are),
      );
    }

  -- ---- leaving all as it is

  -- the names and maps stay, whichever they are
  pub keeps-word : (what : MapCall) → ((old : Named) → Does what t.fault old old) → KeepsMaps s events t → KeepsWord Needs Does what s events t
  keeps-word what does keeps = record { pages = keeps.follows.pages; turns = λ old are needs. (old, does old, (keeps.stays old are tt).0) }

  pub flushed-word : (result : Result ℕ TreeError) → KeepsMaps s events t → KeepsWord Needs Does (Flushed result) s events t
  flushed-word result keeps = keeps-word (Flushed result) (λ old. refl) keeps

  pub generated-word : (result : Result ℕ TreeError) → KeepsMaps s events t → KeepsWord Needs Does (Generated result) s events t
  generated-word result keeps = keeps-word (Generated result) (λ old. refl) keeps

  pub pinned-word : (result : Result (Unit {0}) TreeError) → KeepsMaps s events t → KeepsWord Needs Does (Pinned result) s events t
  pinned-word result keeps = keeps-word (Pinned result) (λ old. refl) keeps

  -- no page changes
  pub leaves-word : (what : MapCall) → ((old : Named) → Does what t.fault old old) → LeavesPages s events t → KeepsWord Needs Does what s events t
  leaves-word what does marks = record { pages = λ _. marks.same ∙ sym (leaves (contents_of s) events marks.leave); turns = λ old are needs. (old, does old, (leaves-stay old s t events marks are).0) }

  pub sealed-word : (result : Result (Unit {0}) TreeError) → LeavesPages s events t → KeepsWord Needs Does (Sealed result) s events t
  sealed-word result marks = leaves-word (Sealed result) (λ old. refl) marks

  pub cancelled-word : (result : Result (Unit {0}) TreeError) → LeavesPages s events t → KeepsWord Needs Does (Cancelled result) s events t
  cancelled-word result marks = leaves-word (Cancelled result) (λ old. refl) marks

  -- ---- changing one of the maps

  -- at an error they stay, or a write failed and they may have turned
  unless-faulty : (old others : Named) → StaysUnlessFaulty s old events others t → (new : Named) × StaysUnless t.fault old others new × Becomes AreNamed (contents_of s) old events new
  unless-faulty old others (inl stays, are) = (old, inl refl, stays)
  unless-faulty old others (inr (kept, turns), are) = (others, inr (kept, refl), turns)

  module _ (root : ℕ) (Says : State → List (Event Update) → State → Named → Map → Type 0) (changes : ChangesMap root Says s events t) where
    -- what is so of the map at the root is what the call makes of it
    pub changes-word : (what : MapCall) → ((w : Named) → Needs what w → HasTree w.maps root) → ((old : Named) (m : Map) → old.maps root ≡ Some m → Says s events t old m → TurnsTo what old) → KeepsWord Needs Does what s events t
    changes-word what has turns = record { pages = changes.follows.pages; turns = λ old are needs. let (m, is) = has old needs in turns old m is (changes.does old m are is) }

  pub inserted-word : (root : ℕ) (key value : Bytes) (result : Result (Option Bytes) TreeError) → ChangesMap root (SetsKey root key value result) s events t → KeepsWord Needs Does (Inserted root key value result) s events t
  inserted-word root key value result changes = changes-word root (SetsKey root key value result) changes (Inserted root key value result) (λ w has. has) (by result)
    where
      by : (other : Result (Option Bytes) TreeError) (old : Named) (m : Map) → old.maps root ≡ Some m → SetsKey root key value other s events t old m → TurnsTo (Inserted root key value other) old
      by (Ok before) old m is (was, turns) = (with_map_at root (set_pair key value m) old, (m, is, (was, refl)), turns.0)
      by (Err e) old m is stays = let (new, left, becomes) = unless-faulty old (with_map_at root (set_pair key value m) old) stays in (new, (m, is, left), becomes)

  pub removed-word : (root : ℕ) (key : Bytes) (result : Result (Option Bytes) TreeError) → ChangesMap root (TakesKey root key result) s events t → KeepsWord Needs Does (Removed root key result) s events t
  removed-word root key result changes = changes-word root (TakesKey root key result) changes (Removed root key result) (λ w has. has) (by result)
    where
      by : (other : Result (Option Bytes) TreeError) (old : Named) (m : Map) → old.maps root ≡ Some m → TakesKey root key other s events t old m → TurnsTo (Removed root key other) old
      by (Ok None) old m is (none, stays) = (old, (m, is, (none, refl)), stays.0)
      by (Ok (Some before)) old m is (was, turns) = (with_map_at root (del_pair key m) old, (m, is, (was, refl)), turns.0)
      by (Err e) old m is stays = let (new, left, becomes) = unless-faulty old (with_map_at root (del_pair key m) old) stays in (new, (m, is, left), becomes)

  pub swapped-word : (root : ℕ) (key : Bytes) (before after : Option Bytes) (result : Result (Result (Unit {0}) (Option Bytes)) TreeError) → ChangesMap root (SwapsKey root key before after result) s events t
      → KeepsWord Needs Does (Swapped root key before after result) s events t
  swapped-word root key before after result changes = changes-word root (SwapsKey root key before after result) changes (Swapped root key before after result) (λ w has. has) (by result)
    where
      by : (other : Result (Result (Unit {0}) (Option Bytes)) TreeError) (old : Named) (m : Map) → old.maps root ≡ Some m → SwapsKey root key before after other s events t old m → TurnsTo (Swapped root key before after other) old
      by (Ok (Ok done)) old m is (was, turns) = (with_swapped root key before after m old, (m, is, (was, refl)), turns.0)
      by (Ok (Err present)) old m is (was, other, stays) = (old, (m, is, (was, other, refl)), stays.0)
      by (Err e) old m is stays = let (new, left, becomes) = unless-faulty old (with_swapped root key before after m old) stays in (new, (m, is, left), becomes)

  -- ---- opening a map by its name

  pub opened-word : (name : Bytes) (result : Result Tree TreeError) → OpensMap root_of name result s events t → KeepsWord Needs Does (Opened name result) s events t
  opened-word name result opens = record { pages = opens.follows.pages; turns = λ old are needs. by result old (opens.does old are) }
    where
      by : (other : Result Tree TreeError) (old : Named) → Opens root_of name other s events t old → TurnsTo (Opened name other) old
      by (Ok tree) old (inl (had, stays)) = (old, inl (had, refl), stays.0)
      by (Ok tree) old (inr (free, turns)) = (with_new name (root_of tree) old, inr (free, refl), turns.0)
      by (Err e) old (inl stays) = (old, inl refl, stays.0)
      by (Err e) old (inr (root, free, stays)) = let (new, left, becomes) = unless-faulty old (with_new name root old) stays in (new, inr (root, free, left), becomes)

-- a call that reads: what is answered is so of the map
pub read-word : {L T : Type 0} (g : Ghosts L) (result : Result T TreeError) (root : ℕ) (Is : Map → T → Type 0) (what : MapCall) → ((w : Named) → Needs what w → HasTree w.maps root)
    → ((fault : Bool) (old : Named) → IfOk result (λ answer. HasMap old root (λ m. Is m answer)) → Does what fault old old)
    → IsWordOf g (Reads result (λ pages answer. (m : Map) → IsTreeOf pages root m → Is m answer)) what
read-word g result root Is what has does = word-of g (Reads result (λ pages answer. (m : Map) → IsTreeOf pages root m → Is m answer)) what (λ s t events reads. reads-word s t events result root Is reads what has (does t.fault))
