-- Which messages count of records in order.
use Rattle.std.proofs.Common.{◌≡◌, ℕ, ◌+◌, Bool, true, false, List, [], ◌∷◌, ◌++◌, length, refl, ap, sym, ◌∙◌, append_assoc, arith}
use Rattle.std.specs.Prelude.{Option, Some, None, ◌==◌, ◌||◌, ◌&&◌, not, if◌then◌else◌}
use Rattle.std.specs.List.{list_all}
use Rattle.std.proofs.lemmas.Bool.{eqb-true, ltb-true}
use Rattle.std.proofs.lemmas.List.{map-append}
use Rattle.sled_base.specs.Kinds.{kind_of, log_kind_of}
use Rattle.sled_base.specs.declared.kinds.LogKind.{LogKind}
use Rattle.sled_base.specs.declared.kinds.LogKind.TheVariants as effects
use Rattle.sled_base.specs.declared.kinds.MessageKind.{MessageKind}
use Rattle.sled_base.specs.declared.kinds.MessageKind.TheVariants as kinds
use Rattle.sled_log.specs.Events.{Event, Change, Pin, Seal, Cancel}
use Rattle.sled_log.specs.Messages.{Entry, effect_of_entry}
use Rattle.sled_disk.specs.CountedMessages.{placed, all_placed, is_kept, counted_messages}
use Rattle.sled_disk.specs.Format.{◌>>=◌, Record, Frame, Begun, outside, within, size, body, is_begin, is_closing, closes_from, taken, waits, plain, turn_by, turn, turns, frames_turns, marks, takes_event, entry_at}
use Rattle.sled_disk.specs.MeaningLaws.{Meant, meant_turns, meant_frames, gate_after}
use Rattle.sled_disk.specs.Names.{offset_in, messages_in, named_by}
use Rattle.sled_disk.specs.Pending.{is_own, event_by, pending_event, pending_events, changes, batch_events}
use Rattle.sled_disk.specs.PendingLaws.{taken-one, taken-all}
use Rattle.sled_disk.specs.LogContents.{inside_of, is_begun}

-- ---- messages

pub messages-append : (xs ys : List (Event Entry)) → messages_in (xs ++ ys) ≡ messages_in xs ++ messages_in ys
messages-append [] ys = refl
messages-append (Change id entry ∷ xs) ys = ap (λ (l : List (ℕ × ℕ)). (id, offset_in entry.place.pointer) ∷ l) (messages-append xs ys)
messages-append (Pin ∷ xs) ys = messages-append xs ys
messages-append (Seal ∷ xs) ys = messages-append xs ys
messages-append (Cancel ∷ xs) ys = messages-append xs ys

-- that of a record, if it has one
abbrev pub message_of : ℕ → Record → List (ℕ × ℕ)
message_of place r = named_by (log_kind_of (kind_of r.kind)) r.id place

by-kind : (kind : LogKind) (place : ℕ) (r : Record) → messages_in (event_by kind place r) ≡ named_by kind r.id place
by-kind effects.Replace place r = refl
by-kind effects.Free place r = refl
by-kind effects.Link place r = refl
by-kind effects.Skip place r = refl
by-kind effects.Corrupted place r = refl

none-of : (place : ℕ) (r : Record) (kind : ℕ) → r.kind ≡ kind → named_by (log_kind_of (kind_of kind)) r.id place ≡ [] → message_of place r ≡ []
none-of place r kind is none = ap (λ k. named_by (log_kind_of (kind_of k)) r.id place) is ∙ none

-- a record that begins or closes a batch has none
pub begin-none : (place : ℕ) (r : Record) → r.kind == 12 ≡ true → message_of place r ≡ []
begin-none place r is = none-of place r 12 (eqb-true r.kind 12 is) refl

pub closing-none : (place : ℕ) (r : Record) → is_closing r.kind ≡ true → message_of place r ≡ []
closing-none place r is = by (r.kind == 13) (r.kind == 1) (r.kind == 14) refl refl refl is
  where
    by : (x y z : Bool) → r.kind == 13 ≡ x → r.kind == 1 ≡ y → r.kind == 14 ≡ z → x || (y || z) ≡ true → message_of place r ≡ []
    by true y z i j k is = none-of place r 13 (eqb-true r.kind 13 i) refl
    by false true z i j k is = none-of place r 1 (eqb-true r.kind 1 j) refl
    by false false true i j k is = none-of place r 14 (eqb-true r.kind 14 k) refl
    by false false false i j k is = absurd cc

-- ---- what was read, and the records behind it

abbrev names_of : List (ℕ × Entry) → List (ℕ × ℕ)
names_of inside = messages_in (changes inside)

abbrev kept_names : Bool → List (ℕ × Entry) → List (ℕ × ℕ)
kept_names true inside = names_of inside
kept_names false inside = []

names-more : (inside : List (ℕ × Entry)) (id : ℕ) (e : Entry) → names_of (inside ++ (id, e) ∷ []) ≡ names_of inside ++ (id, offset_in e.place.pointer) ∷ []
names-more inside id e = ap messages_in (map-append (λ change. Change change.0 change.1) inside ((id, e) ∷ [])) ∙ messages-append (changes inside) (Change id e ∷ [])

-- the messages that count of both: those of a begun batch do if the records keep it
abbrev weigh_by : Option (Begun Entry) → List (Event Entry) → List (ℕ × Record) → List (ℕ × ℕ)
weigh_by None s behind = messages_in s ++ counted_messages true behind
weigh_by (Some b) s behind = messages_in s ++ (kept_names (is_kept behind) b.inside ++ counted_messages (is_kept behind) behind)

abbrev weigh : Meant → List (ℕ × Record) → List (ℕ × ℕ)
weigh q behind = weigh_by q.begun q.settled behind

abbrev some_meant : Meant → Option Meant
some_meant q = Some q

same_meant : (x y : Meant) → some_meant x ≡ some_meant y → x ≡ y
same_meant x y e = cc

abbrev takes : List (Event Entry) → ℕ → Entry → Option (List (Event Entry))
takes = takes_event effect_of_entry

module _ (P : LogKind → Type 0) (place : ℕ) (r : Record) (s : List (Event Entry)) (later : Meant) where
  abbrev IsTaken : Type 0
  IsTaken = (takes s r.id (entry_at place r) >>= λ t. Some (outside t)) ≡ Some later

  -- a record outside a batch that begins none takes its change, or adds nothing
  pub plain-by : (IsTaken → P effects.Replace) → (IsTaken → P effects.Free) → (IsTaken → P effects.Link) → (some_meant (outside s) ≡ some_meant later → P effects.Skip)
      → (kind : MessageKind) (mark : Bool) → plain entry_at takes kind s place r mark ≡ Some later → P (log_kind_of kind)
  plain-by replaces frees links skips kinds.Canceled mark is = skips is
  plain-by replaces frees links skips kinds.BatchManifest true is = skips is
  plain-by replaces frees links skips kinds.BatchManifest false is = absurd cc
  plain-by replaces frees links skips kinds.Corrupted mark is = absurd cc
  plain-by replaces frees links skips kinds.Cap mark is = absurd cc
  plain-by replaces frees links skips kinds.Free mark is = frees is
  plain-by replaces frees links skips kinds.Counter mark is = replaces is
  plain-by replaces frees links skips kinds.InlineMeta mark is = replaces is
  plain-by replaces frees links skips kinds.BlobMeta mark is = replaces is
  plain-by replaces frees links skips kinds.InlineNode mark is = replaces is
  plain-by replaces frees links skips kinds.BlobNode mark is = replaces is
  plain-by replaces frees links skips kinds.InlineLink mark is = links is
  plain-by replaces frees links skips kinds.BlobLink mark is = links is

module _ (place : ℕ) (r : Record) (behind : List (ℕ × Record)) where
  -- the first record's part, by whether it begins a batch and whether it closes one
  abbrev count_by : Bool → Bool → Bool → List (ℕ × ℕ)
  count_by a c kept = if a then counted_messages (is_kept behind) behind else if c then counted_messages true behind else (if kept then message_of place r else []) ++ counted_messages kept behind

  plainly : (c : Bool) → is_closing r.kind ≡ c → count_by false c true ≡ message_of place r ++ counted_messages true behind
  plainly true is = ap (λ (l : List (ℕ × ℕ)). l ++ counted_messages true behind) (sym (closing-none place r is))
  plainly false is = refl

  one : (s : List (Event Entry)) (later : Meant) → (takes s r.id (entry_at place r) >>= λ t. Some (outside t)) ≡ Some later → messages_in s ++ ((r.id, place) ∷ counted_messages true behind) ≡ weigh later behind
  one s later is = by (takes s r.id (entry_at place r)) refl is
    where
      by : (x : Option (List (Event Entry))) → takes s r.id (entry_at place r) ≡ x → (x >>= λ t. Some (outside t)) ≡ Some later → messages_in s ++ ((r.id, place) ∷ counted_messages true behind) ≡ weigh later behind
      by None was is = absurd cc
      by (Some t) was is =
          sym (append_assoc (messages_in s) ((r.id, place) ∷ []) (counted_messages true behind))
          ∙ ap (λ (l : List (ℕ × ℕ)). l ++ counted_messages true behind) (sym (messages-append s (Change r.id (entry_at place r) ∷ [])) ∙ ap messages_in (sym (taken-one s t r.id (entry_at place r) was)))
          ∙ ap (λ (q : Meant). weigh q behind) (same_meant (outside t) later is)

  skips : (s : List (Event Entry)) (later : Meant) → some_meant (outside s) ≡ some_meant later → messages_in s ++ counted_messages true behind ≡ weigh later behind
  skips s later is = ap (λ (q : Meant). weigh q behind) (same_meant (outside s) later is)

  plain-weighs : (kind : MessageKind) (s : List (Event Entry)) (mark : Bool) (later : Meant) → plain entry_at takes kind s place r mark ≡ Some later → messages_in s ++ (named_by (log_kind_of kind) r.id place ++ counted_messages true behind) ≡ weigh later behind
  plain-weighs kind s mark later is =
      plain-by (λ kind. messages_in s ++ (named_by kind r.id place ++ counted_messages true behind) ≡ weigh later behind) place r s later (one s later) (one s later) (one s later) (skips s later) kind mark is

  none-kept : (kept : Bool) (xs : List (ℕ × ℕ)) → xs ≡ kept_names kept [] ++ xs
  none-kept true xs = refl
  none-kept false xs = refl

  outside-weighs : (s : List (Event Entry)) (mark : Bool) (later : Meant) (a b : Bool) → (if a then (if b then Some (within s place []) else None) else plain entry_at takes (kind_of r.kind) s place r mark) ≡ Some later
      → messages_in s ++ count_by a (is_closing r.kind) true ≡ weigh later behind
  outside-weighs s mark later true true is =
      ap (λ (l : List (ℕ × ℕ)). messages_in s ++ l) (none-kept (is_kept behind) (counted_messages (is_kept behind) behind))
      ∙ ap (λ (q : Meant). weigh q behind) (same_meant (within s place []) later is)
  outside-weighs s mark later true false is = absurd cc
  outside-weighs s mark later false b is =
      ap (λ (l : List (ℕ × ℕ)). messages_in s ++ l) (plainly (is_closing r.kind) refl) ∙ plain-weighs (kind_of r.kind) s mark later is

  -- inside a batch: it is closed
  abbrev Closes : List (Event Entry) → Begun Entry → Meant → Bool → Type 0
  Closes s b later abandoned = messages_in s ++ (kept_names (not abandoned) b.inside ++ counted_messages true behind) ≡ weigh later behind

  closed-weighs : (s : List (Event Entry)) (b : Begun Entry) (later : Meant) (z : Bool) → (if z then Some (outside s) else (taken entry_at takes s b.inside >>= λ t. Some (outside t))) ≡ Some later → Closes s b later z
  closed-weighs s b later true is = skips s later is
  closed-weighs s b later false is = by (taken entry_at takes s b.inside) refl is
    where
      by : (x : Option (List (Event Entry))) → taken entry_at takes s b.inside ≡ x → (x >>= λ t. Some (outside t)) ≡ Some later → Closes s b later false
      by None was is = absurd cc
      by (Some t) was is =
          sym (append_assoc (messages_in s) (names_of b.inside) (counted_messages true behind))
          ∙ ap (λ (l : List (ℕ × ℕ)). l ++ counted_messages true behind) (sym (messages-append s (changes b.inside)) ∙ ap messages_in (sym (taken-all s t b.inside was)))
          ∙ ap (λ (q : Meant). weigh q behind) (same_meant (outside t) later is)

  -- or a change waits
  abbrev Waits : List (Event Entry) → Begun Entry → Meant → Bool → List (ℕ × ℕ) → Type 0
  Waits s b later kept names = messages_in s ++ (kept_names kept b.inside ++ ((if kept then names else []) ++ counted_messages kept behind)) ≡ weigh later behind

  one-waits : (s : List (Event Entry)) (b : Begun Entry) (later : Meant) (kept : Bool) → is_kept behind ≡ kept → some_meant (within s b.place (b.inside ++ (r.id, entry_at place r) ∷ [])) ≡ some_meant later → Waits s b later kept ((r.id, place) ∷ [])
  one-waits s b later kept same is = by kept same ∙ ap (λ (q : Meant). weigh q behind) (same_meant (within s b.place (b.inside ++ (r.id, entry_at place r) ∷ [])) later is)
    where
      all_names : Bool → List (ℕ × ℕ)
      all_names kept = messages_in s ++ (kept_names kept (b.inside ++ (r.id, entry_at place r) ∷ []) ++ counted_messages kept behind)

      by : (kept : Bool) → is_kept behind ≡ kept → messages_in s ++ (kept_names kept b.inside ++ ((if kept then (r.id, place) ∷ [] else []) ++ counted_messages kept behind)) ≡ all_names (is_kept behind)
      by true same =
          ap (λ (l : List (ℕ × ℕ)). messages_in s ++ l) (sym (append_assoc (names_of b.inside) ((r.id, place) ∷ []) (counted_messages true behind)) ∙ ap (λ (l : List (ℕ × ℕ)). l ++ counted_messages true behind) (sym (names-more b.inside r.id (entry_at place r))))
          ∙ ap all_names (sym same)
      by false same = ap all_names (sym same)

  waits-weighs : (s : List (Event Entry)) (b : Begun Entry) (later : Meant) (kept : Bool) → is_kept behind ≡ kept → (kind : LogKind) → waits entry_at takes kind s b r.id (entry_at place r) ≡ Some later → Waits s b later kept (named_by kind r.id place)
  waits-weighs s b later kept same effects.Replace is = one-waits s b later kept same is
  waits-weighs s b later kept same effects.Free is = one-waits s b later kept same is
  waits-weighs s b later kept same effects.Link is = one-waits s b later kept same is
  waits-weighs s b later kept same effects.Skip is = absurd cc
  waits-weighs s b later kept same effects.Corrupted is = absurd cc

  abbrev kept_by : Bool → Bool → Bool
  kept_by c z = if c then not z else is_kept behind

  not-begin : (kind : ℕ) → (kind == 12) ≡ false → r.kind ≡ kind → r.kind == 12 ≡ false
  not-begin kind other is = ap (λ k. k == 12) is ∙ other

  closing-weighs : (s : List (Event Entry)) (b : Begun Entry) (later : Meant) (z f : Bool) → r.kind == 12 ≡ false → (if f then (if z then Some (outside s) else (taken entry_at takes s b.inside >>= λ t. Some (outside t))) else None) ≡ Some later
      → messages_in s ++ (kept_names (not z) b.inside ++ count_by (r.kind == 12) true (not z)) ≡ weigh later behind
  closing-weighs s b later z true other is = ap (λ a. messages_in s ++ (kept_names (not z) b.inside ++ count_by a true (not z))) other ∙ closed-weighs s b later z is
  closing-weighs s b later z false other is = absurd cc

  inside-weighs : (s : List (Event Entry)) (b : Begun Entry) (later : Meant) (x y z f : Bool) → r.kind == 13 ≡ x → r.kind == 1 ≡ y → r.kind == 14 ≡ z
      → (if x || (y || z) then (if f then (if z then Some (outside s) else (taken entry_at takes s b.inside >>= λ t. Some (outside t))) else None) else waits entry_at takes (log_kind_of (kind_of r.kind)) s b r.id (entry_at place r)) ≡ Some later
      → messages_in s ++ (kept_names (kept_by (x || (y || z)) z) b.inside ++ count_by (r.kind == 12) (x || (y || z)) (kept_by (x || (y || z)) z)) ≡ weigh later behind
  inside-weighs s b later true y z f i j k is = closing-weighs s b later z f (not-begin 13 refl (eqb-true r.kind 13 i)) is
  inside-weighs s b later false true z f i j k is = closing-weighs s b later z f (not-begin 1 refl (eqb-true r.kind 1 j)) is
  inside-weighs s b later false false true f i j k is = closing-weighs s b later true f (not-begin 14 refl (eqb-true r.kind 14 k)) is
  inside-weighs s b later false false false f i j k is = by (r.kind == 12) refl
    where
      by : (a : Bool) → r.kind == 12 ≡ a → messages_in s ++ (kept_names (is_kept behind) b.inside ++ count_by a false (is_kept behind)) ≡ weigh later behind
      by true e = let bad = ap (λ kind. waits entry_at takes (log_kind_of (kind_of kind)) s b r.id (entry_at place r)) (sym (eqb-true r.kind 12 e)) ∙ is in absurd cc
      by false e = waits-weighs s b later (is_kept behind) refl (log_kind_of (kind_of r.kind)) is

  turn-weighs : (begun : Option (Begun Entry)) (s : List (Event Entry)) (mark : Bool) (later : Meant) → turn_by entry_at takes begun s place r mark ≡ Some later → weigh_by begun s ((place, r) ∷ behind) ≡ weigh later behind
  turn-weighs None s mark later is = outside-weighs s mark later (r.kind == 12) (is_begin r) is
  turn-weighs (Some b) s mark later is = inside-weighs s b later (r.kind == 13) (r.kind == 1) (r.kind == 14) (closes_from b.place r) refl refl refl is

pub turns-weigh : (place : ℕ) (q later : Meant) (rs : List Record) (behind : List (ℕ × Record)) → meant_turns place q rs ≡ Some later → weigh q (placed place rs ++ behind) ≡ weigh later behind
unfolding turns
turns-weigh place q later [] behind is = ap (λ (m : Meant). weigh m behind) (same_meant q later is)
turns-weigh place q later (r ∷ rs) behind is = by (turn entry_at takes q place r (marks place r rs)) refl is (λ m. turns-weigh (place + size r) m later rs behind)
  where
    by : (x : Option Meant) → turn entry_at takes q place r (marks place r rs) ≡ x → (x >>= λ m. meant_turns (place + size r) m rs) ≡ Some later
        → ((m : Meant) → meant_turns (place + size r) m rs ≡ Some later → weigh m (placed (place + size r) rs ++ behind) ≡ weigh later behind) → weigh q (placed place (r ∷ rs) ++ behind) ≡ weigh later behind
    by None was is next = absurd cc
    by (Some m) was is next = turn-weighs place r (placed (place + size r) rs ++ behind) q.begun q.settled (marks place r rs) m was ∙ next m is

pub frames-weigh : (gate : ℕ) (q later : Meant) (frames : List Frame) (pending : List Record) → meant_frames gate q frames ≡ Some later → weigh q (all_placed gate frames pending) ≡ weigh later (placed (gate_after gate frames + 9) pending)
unfolding frames_turns
frames-weigh gate q later [] pending is = ap (λ (m : Meant). weigh m (placed (gate + 9) pending)) (same_meant q later is)
frames-weigh gate q later (frame ∷ frames) pending is = by (meant_turns (gate + 9) q frame.records) refl is (λ m. frames-weigh (gate + (9 + length (body frame.records))) m later frames pending)
  where
    by : (x : Option Meant) → meant_turns (gate + 9) q frame.records ≡ x → (x >>= λ m. meant_frames (gate + (9 + length (body frame.records))) m frames) ≡ Some later
        → ((m : Meant) → meant_frames (gate + (9 + length (body frame.records))) m frames ≡ Some later → weigh m (all_placed (gate + (9 + length (body frame.records))) frames pending) ≡ weigh later (placed (gate_after gate (frame ∷ frames) + 9) pending))
        → weigh q (all_placed gate (frame ∷ frames) pending) ≡ weigh later (placed (gate_after gate (frame ∷ frames) + 9) pending)
    by None was is next = absurd cc
    by (Some m) was is next = turns-weigh (gate + 9) q m frame.records (all_placed (gate + (9 + length (body frame.records))) frames pending) was ∙ next m is

-- ---- records of the log itself, none of which says that a batch was abandoned

both-own : (r : Record) (rs : List Record) → list_all is_own (r ∷ rs) ≡ true → (is_own r ≡ true) × (list_all is_own rs ≡ true)
both-own r rs h = by (is_own r) h
  where
    by : (b : Bool) → b && list_all is_own rs ≡ true → (b ≡ true) × (list_all is_own rs ≡ true)
    by true h = (refl, h)
    by false h = absurd cc

not-abandoned : (r : Record) (b : Bool) → is_own r ≡ true → r.kind == 14 ≡ b → b ≡ false
not-abandoned r false own e = refl
not-abandoned r true own e = absurd (let lt = ltb-true r.kind 14 own in let is = eqb-true r.kind 14 e in omega arith)

-- the first record's part of whether a batch is kept
pub kept-own : (r : Record) (behind : Bool) → is_own r ≡ true → behind ≡ true → (if is_closing r.kind then not (r.kind == 14) else behind) ≡ true
kept-own r behind own is = by (is_closing r.kind)
  where
    by : (c : Bool) → (if c then not (r.kind == 14) else behind) ≡ true
    by true = ap not (not-abandoned r (r.kind == 14) own refl)
    by false = is

pub own-kept : (place : ℕ) (rs : List Record) → list_all is_own rs ≡ true → is_kept (placed place rs) ≡ true
own-kept place [] own = refl
own-kept place (r ∷ rs) own = let p = both-own r rs own in kept-own r (is_kept (placed (place + size r) rs)) p.0 (own-kept (place + size r) rs p.1)

pub event-messages : (place : ℕ) (r : Record) → messages_in (pending_event place r) ≡ message_of place r
event-messages place r = by (r.kind == 12) (r.kind == 13) (r.kind == 1) refl refl refl
  where
    by : (a b c : Bool) → r.kind == 12 ≡ a → r.kind == 13 ≡ b → r.kind == 1 ≡ c
        → messages_in (if a then Pin ∷ [] else if b then Seal ∷ [] else if c then Cancel ∷ [] else event_by (log_kind_of (kind_of r.kind)) place r) ≡ message_of place r
    by true b c i j k = sym (none-of place r 12 (eqb-true r.kind 12 i) refl)
    by false true c i j k = sym (none-of place r 13 (eqb-true r.kind 13 j) refl)
    by false false true i j k = sym (none-of place r 1 (eqb-true r.kind 1 k) refl)
    by false false false i j k = by-kind (log_kind_of (kind_of r.kind)) place r

-- the first record's message, where a batch behind it is kept
pub first-counts : (place : ℕ) (r : Record) (behind : List (ℕ × Record)) → is_kept behind ≡ true → counted_messages true ((place, r) ∷ behind) ≡ message_of place r ++ counted_messages true behind
first-counts place r behind kept = by (r.kind == 12) refl
  where
    by : (a : Bool) → r.kind == 12 ≡ a → count_by place r behind a (is_closing r.kind) true ≡ message_of place r ++ counted_messages true behind
    by true e = ap (λ b. counted_messages b behind) kept ∙ ap (λ (l : List (ℕ × ℕ)). l ++ counted_messages true behind) (sym (begin-none place r e))
    by false e = plainly place r behind (is_closing r.kind) refl

-- or where it begins none
pub plain-counts : (place : ℕ) (r : Record) (behind : List (ℕ × Record)) → r.kind == 12 ≡ false → counted_messages true ((place, r) ∷ behind) ≡ message_of place r ++ counted_messages true behind
plain-counts place r behind other = ap (λ a. count_by place r behind a (is_closing r.kind) true) other ∙ plainly place r behind (is_closing r.kind) refl

pub own-counts : (place : ℕ) (rs : List Record) → list_all is_own rs ≡ true → counted_messages true (placed place rs) ≡ messages_in (pending_events place rs)
own-counts place [] own = refl
own-counts place (r ∷ rs) own =
    let p = both-own r rs own in
    first-counts place r (placed (place + size r) rs) (own-kept (place + size r) rs p.1)
    ∙ ap (λ (l : List (ℕ × ℕ)). l ++ counted_messages true (placed (place + size r) rs)) (sym (event-messages place r))
    ∙ ap (λ (l : List (ℕ × ℕ)). messages_in (pending_event place r) ++ l) (own-counts (place + size r) rs p.1)
    ∙ sym (messages-append (pending_event place r) (pending_events (place + size r) rs))

own-weighs : (begun : Option (Begun Entry)) (s : List (Event Entry)) (place : ℕ) (rs : List Record) → list_all is_own rs ≡ true
    → weigh_by begun s (placed place rs) ≡ messages_in (s ++ (batch_events (is_begun begun) (inside_of begun) ++ pending_events place rs))
own-weighs None s place rs own = ap (λ (l : List (ℕ × ℕ)). messages_in s ++ l) (own-counts place rs own) ∙ sym (messages-append s (pending_events place rs))
own-weighs (Some b) s place rs own =
    ap (λ k. messages_in s ++ (kept_names k b.inside ++ counted_messages k (placed place rs))) (own-kept place rs own)
    ∙ ap (λ (l : List (ℕ × ℕ)). messages_in s ++ (names_of b.inside ++ l)) (own-counts place rs own)
    ∙ ap (λ (l : List (ℕ × ℕ)). messages_in s ++ l) (sym (messages-append (changes b.inside) (pending_events place rs)))
    ∙ sym (messages-append s (Pin ∷ (changes b.inside ++ pending_events place rs)))

-- All messages of a file and of the pending records behind it are those that count.
pub all-count : (frames : List Frame) (later : Meant) (pending : List Record) → meant_frames 8 (outside []) frames ≡ Some later → list_all is_own pending ≡ true
    → counted_messages true (all_placed 8 frames pending) ≡ messages_in (later.settled ++ (batch_events (is_begun later.begun) (inside_of later.begun) ++ pending_events (gate_after 8 frames + 9) pending))
all-count frames later pending is own = frames-weigh 8 (outside []) later frames pending is ∙ own-weighs later.begun later.settled (gate_after 8 frames + 9) pending own
