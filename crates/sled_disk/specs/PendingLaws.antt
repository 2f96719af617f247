-- What follows for pending records.
use Rattle.std.proofs.Common.{◌≡◌, ℕ, ◌+◌, Bool, true, false, List, [], ◌∷◌, ◌++◌, length, refl, ap, sym, ◌∙◌, subst, append_assoc, arith}
use Rattle.std.specs.Prelude.{Option, Some, None, ◌&&◌, ◌||◌, ◌==◌, if◌then◌else◌}
use Rattle.std.specs.List.{list_all}
use Rattle.std.proofs.lemmas.Bool.{eqb-true, ltb-true}
use Rattle.std.proofs.lemmas.List.{length-append, append-nil, map-append}
use Rattle.sled_base.specs.Kinds.{kind_of, log_kind_of}
use Rattle.sled_base.specs.declared.kinds.LogKind.{LogKind}
use Rattle.sled_base.specs.declared.kinds.LogKind.TheVariants as effects
use Rattle.sled_base.specs.declared.kinds.MessageKind.{MessageKind}
use Rattle.sled_base.specs.declared.kinds.MessageKind.TheVariants as kinds
use Rattle.sled_log.specs.Chains.{chains_after}
use Rattle.sled_log.specs.Events.{Event, Change, Pin, Seal, Cancel, is_open, open_after}
use Rattle.sled_log.specs.Inside.Laws.{open_after-append, chains_after-append}
use Rattle.sled_log.specs.Messages.{Chain, Entry, effect_of_entry}
use Rattle.sled_disk.specs.Format.{◌>>=◌, Record, Begun, outside, within, size, record_bytes, body, is_begin, closes_from, taken, counts, waits, plain, closed, turn_by, turn, turns, marks, takes_event, may_change, entry_at}
use Rattle.sled_disk.specs.MeaningLaws.{record_bytes-length, Meant, meant_turns}
use Rattle.sled_disk.specs.Pending.{open_behind, open_by, is_own, event_by, pending_event, pending_events, changes, batch_events}
use Rattle.sled_disk.specs.LogContents.{inside_of, is_begun}

-- ---- whether a batch is open

event-opens : (was : Bool) (kind : LogKind) (place : ℕ) (r : Record) → open_after was (event_by kind place r) ≡ was
event-opens was effects.Replace place r = refl
event-opens was effects.Free place r = refl
event-opens was effects.Link place r = refl
event-opens was effects.Skip place r = refl
event-opens was effects.Corrupted place r = refl

-- the events of a record by its kind: the marks first
abbrev marked : Bool → Bool → Bool → List (Event Entry) → List (Event Entry)
marked a b c events = if a then Pin ∷ [] else if b then Seal ∷ [] else if c then Cancel ∷ [] else events

pub record-opens : (was : Bool) (place : ℕ) (r : Record) → open_after was (pending_event place r) ≡ open_behind was r.kind
record-opens was place r = by (r.kind == 12) (r.kind == 13) (r.kind == 1)
  where
    by : (a b c : Bool) → open_after was (marked a b c (event_by (log_kind_of (kind_of r.kind)) place r)) ≡ (if a then true else if b then false else if c then false else was)
    by true b c = refl
    by false true c = refl
    by false false true = refl
    by false false false = event-opens was (log_kind_of (kind_of r.kind)) place r

pub pending-open : (was : Bool) (place : ℕ) (rs : List Record) → open_after was (pending_events place rs) ≡ open_by was rs
pending-open was place [] = refl
pending-open was place (r ∷ rs) =
    open_after-append was (pending_event place r) (pending_events (place + size r) rs)
    ∙ ap (λ b. open_after b (pending_events (place + size r) rs)) (record-opens was place r)
    ∙ pending-open (open_behind was r.kind) (place + size r) rs

changes-open : (was : Bool) (inside : List (ℕ × Entry)) → open_after was (changes inside) ≡ was
changes-open was [] = refl
changes-open was (change ∷ inside) = changes-open was inside

pub batch-open : (begun : Bool) (inside : List (ℕ × Entry)) → is_open (batch_events begun inside) ≡ begun
batch-open true inside = changes-open true inside
batch-open false inside = refl

-- whether one is open after everything pending
pub all-open : (begun : Bool) (inside : List (ℕ × Entry)) (place : ℕ) (rs : List Record) → is_open (batch_events begun inside ++ pending_events place rs) ≡ open_by begun rs
all-open begun inside place rs =
    open_after-append false (batch_events begun inside) (pending_events place rs) ∙ ap (λ b. open_after b (pending_events place rs)) (batch-open begun inside) ∙ pending-open begun place rs

-- ---- one more record

pub body-more : (place : ℕ) (r : Record) (rs : List Record) → (place + size r) + length (body rs) ≡ place + length (body (r ∷ rs))
body-more place r rs = omega (arith, length-append (record_bytes r) (body rs), record_bytes-length r)

pub pending-more : (place : ℕ) (rs : List Record) (r : Record) → pending_events place (rs ++ r ∷ []) ≡ pending_events place rs ++ pending_event (place + length (body rs)) r
pending-more place [] r = append-nil (pending_event place r) ∙ ap (λ n. pending_event n r) (omega arith)
pending-more place (first ∷ rs) r =
    ap (λ (l : List (Event Entry)). pending_event place first ++ l) (pending-more (place + size first) rs r ∙ ap (λ n. pending_events (place + size first) rs ++ pending_event n r) (body-more place first rs))
    ∙ sym (append_assoc (pending_event place first) (pending_events (place + size first) rs) (pending_event (place + length (body (first ∷ rs))) r))

pub open-more : (was : Bool) (rs : List Record) (r : Record) → open_by was (rs ++ r ∷ []) ≡ open_behind (open_by was rs) r.kind
open-more was [] r = refl
open-more was (first ∷ rs) r = open-more (open_behind was first.kind) rs r

pub own-more : (rs : List Record) (r : Record) → list_all is_own rs ≡ true → is_own r ≡ true → list_all is_own (rs ++ r ∷ []) ≡ true
own-more [] r h i = rw i refl
own-more (first ∷ rs) r h i = by (is_own first) h (λ k. own-more rs r k i)
  where
    by : (b : Bool) → b && list_all is_own rs ≡ true → (list_all is_own rs ≡ true → list_all is_own (rs ++ r ∷ []) ≡ true) → b && list_all is_own (rs ++ r ∷ []) ≡ true
    by true h k = k h
    by false h k = absurd cc

-- ---- what counts with a frame, and what stays pending

abbrev chains_of_meant : Meant → List Chain
chains_of_meant q = chains_after effect_of_entry [] q.settled

abbrev pub open_events : Meant → List (Event Entry)
open_events q = batch_events (is_begun q.begun) (inside_of q.begun)

-- Of a batch that has begun and these events, a part counts, which leaves no batch open. The rest is the batch that is open then.
pub record Settles (q later : Meant) (events : List (Event Entry)) : Type 0 where
  pub done : List (Event Entry)
  pub parts : open_events q ++ events ≡ done ++ open_events later
  pub closed : is_open done ≡ false
  pub made : chains_of_meant later ≡ chains_after effect_of_entry (chains_of_meant q) done

settles-both : (q mid later : Meant) (first second : List (Event Entry)) → Settles q mid first → Settles mid later second → Settles q later (first ++ second)
settles-both q mid later first second a b = record {
  done = a.done ++ b.done;
  parts = sym (append_assoc (open_events q) first second) ∙ ap (λ (l : List (Event Entry)). l ++ second) a.parts ∙ append_assoc a.done (open_events mid) second
      ∙ ap (λ (l : List (Event Entry)). a.done ++ l) b.parts ∙ sym (append_assoc a.done b.done (open_events later));
  closed = open_after-append false a.done b.done ∙ ap (λ w. open_after w b.done) a.closed ∙ b.closed;
  made = b.made ∙ ap (λ (l : List Chain). chains_after effect_of_entry l b.done) a.made ∙ sym (chains_after-append effect_of_entry (chains_of_meant q) a.done b.done);
}

-- a change that was taken
abbrev some_meant : Meant → Option Meant
some_meant q = Some q

same_meant : (x y : Meant) → some_meant x ≡ some_meant y → x ≡ y
same_meant x y e = cc

abbrev takes : List (Event Entry) → ℕ → Entry → Option (List (Event Entry))
takes = takes_event effect_of_entry

pub taken-one : (s t : List (Event Entry)) (id : ℕ) (e : Entry) → takes s id e ≡ Some t → t ≡ s ++ Change id e ∷ []
taken-one s t id e is = by (may_change effect_of_entry (effect_of_entry e) (chains_after effect_of_entry [] s) id) is
  where
    by : (b : Bool) → (if b then Some (s ++ Change id e ∷ []) else None) ≡ Some t → t ≡ s ++ Change id e ∷ []
    by true is = cc
    by false is = absurd cc

pub taken-all : (s t : List (Event Entry)) (inside : List (ℕ × Entry)) → taken entry_at takes s inside ≡ Some t → t ≡ s ++ changes inside
taken-all s t [] is = by is ∙ sym (append-nil s)
  where
    by : Some s ≡ Some t → t ≡ s
    by is = cc
taken-all s t (change ∷ inside) is = by (takes s change.0 change.1) refl is (λ m. taken-all m t inside)
  where
    by : (x : Option (List (Event Entry))) → takes s change.0 change.1 ≡ x → (x >>= λ m. taken entry_at takes m inside) ≡ Some t → ((m : List (Event Entry)) → taken entry_at takes m inside ≡ Some t → t ≡ m ++ changes inside) → t ≡ s ++ changes (change ∷ inside)
    by None was is next = absurd cc
    by (Some m) was is next =
        next m is ∙ ap (λ (l : List (Event Entry)). l ++ changes inside) (taken-one s m change.0 change.1 was) ∙ append_assoc s (Change change.0 change.1 ∷ []) (changes inside)

module _ (place : ℕ) (r : Record) (own : is_own r ≡ true) where
  -- outside a batch, with one more record, which begins none
  abbrev Counted : List (Event Entry) → Meant → List (Event Entry) → Type 0
  Counted s later events = (later.begun ≡ None) × (chains_of_meant later ≡ chains_after effect_of_entry (chains_after effect_of_entry [] s) events)

  counts-one : (s : List (Event Entry)) (later : Meant) (e : Entry) → (takes s r.id e >>= λ t. Some (outside t)) ≡ Some later → Counted s later (Change r.id e ∷ [])
  counts-one s later e is = by (takes s r.id e) refl is
    where
      by : (x : Option (List (Event Entry))) → takes s r.id e ≡ x → (x >>= λ t. Some (outside t)) ≡ Some later → Counted s later (Change r.id e ∷ [])
      by None was is = absurd cc
      by (Some t) was is =
          let same = same_meant (outside t) later is in
          let t-is = taken-one s t r.id e was in
          (ap (λ (q : Meant). q.begun) (sym same), ap (λ (q : Meant). chains_of_meant q) (sym same) ∙ ap (chains_after effect_of_entry []) t-is ∙ chains_after-append effect_of_entry [] s (Change r.id e ∷ []))

  counts-by : (kind : LogKind) (s : List (Event Entry)) (later : Meant) → counts entry_at takes kind s r.id (entry_at place r) ≡ Some later → Counted s later (event_by kind place r)
  counts-by effects.Replace s later is = counts-one s later (entry_at place r) is
  counts-by effects.Free s later is = counts-one s later (entry_at place r) is
  counts-by effects.Link s later is = counts-one s later (entry_at place r) is
  counts-by effects.Skip s later is = absurd cc
  counts-by effects.Corrupted s later is = absurd cc

  skipped : (s : List (Event Entry)) (later : Meant) → some_meant (outside s) ≡ some_meant later → Counted s later []
  skipped s later is = let same = same_meant (outside s) later is in (ap (λ (q : Meant). q.begun) (sym same), ap (λ (q : Meant). chains_of_meant q) (sym same))

  plain-by : (kind : MessageKind) (s : List (Event Entry)) (mark : Bool) (later : Meant) → plain entry_at takes kind s place r mark ≡ Some later → Counted s later (event_by (log_kind_of kind) place r)
  plain-by kinds.Canceled s mark later is = skipped s later is
  plain-by kinds.BatchManifest s true later is = skipped s later is
  plain-by kinds.BatchManifest s false later is = absurd cc
  plain-by kinds.Corrupted s mark later is = absurd cc
  plain-by kinds.Cap s mark later is = absurd cc
  plain-by kinds.Free s mark later is = counts-by effects.Free s later is
  plain-by kinds.Counter s mark later is = counts-by effects.Replace s later is
  plain-by kinds.InlineMeta s mark later is = counts-by effects.Replace s later is
  plain-by kinds.BlobMeta s mark later is = counts-by effects.Replace s later is
  plain-by kinds.InlineNode s mark later is = counts-by effects.Replace s later is
  plain-by kinds.BlobNode s mark later is = counts-by effects.Replace s later is
  plain-by kinds.InlineLink s mark later is = counts-by effects.Link s later is
  plain-by kinds.BlobLink s mark later is = counts-by effects.Link s later is

  counted : (s : List (Event Entry)) (later : Meant) (events : List (Event Entry)) → is_open events ≡ false → Counted s later events → Settles (outside s) later events
  counted s later events closed h = record {
    done = events;
    parts = sym (append-nil events) ∙ ap (λ (b : Option (Begun Entry)). events ++ batch_events (is_begun b) (inside_of b)) (sym h.0);
    closed = closed;
    made = h.1;
  }

  plain-settles : (s : List (Event Entry)) (mark : Bool) (later : Meant) (b c : Bool) → r.kind == 13 ≡ b → r.kind == 1 ≡ c → plain entry_at takes (kind_of r.kind) s place r mark ≡ Some later
      → Settles (outside s) later (marked false b c (event_by (log_kind_of (kind_of r.kind)) place r))
  plain-settles s mark later true c e f is = let bad = ap (λ kind. plain entry_at takes (kind_of kind) s place r mark) (sym (eqb-true r.kind 13 e)) ∙ is in absurd cc
  plain-settles s mark later false true e f is =
      let h = skipped s later (ap (λ kind. plain entry_at takes (kind_of kind) s place r mark) (sym (eqb-true r.kind 1 f)) ∙ is) in counted s later (Cancel ∷ []) refl h
  plain-settles s mark later false false e f is =
      counted s later (event_by (log_kind_of (kind_of r.kind)) place r) (event-opens false (log_kind_of (kind_of r.kind)) place r) (plain-by (kind_of r.kind) s mark later is)

  outside-settles : (s : List (Event Entry)) (mark : Bool) (later : Meant) (a b : Bool) → is_begin r ≡ b → (if a then (if b then Some (within s place []) else None) else plain entry_at takes (kind_of r.kind) s place r mark) ≡ Some later
      → Settles (outside s) later (marked a (r.kind == 13) (r.kind == 1) (event_by (log_kind_of (kind_of r.kind)) place r))
  outside-settles s mark later true true e is =
      subst (λ (q : Meant). Settles (outside s) q (Pin ∷ [])) (same_meant (within s place []) later is) (record { done = []; parts = refl; closed = refl; made = refl })
  outside-settles s mark later true false e is = absurd cc
  outside-settles s mark later false b e is = plain-settles s mark later (r.kind == 13) (r.kind == 1) refl refl is

  -- inside one
  waits-settles : (s : List (Event Entry)) (b : Begun Entry) (later : Meant) (kind : LogKind) → waits entry_at takes kind s b r.id (entry_at place r) ≡ Some later → Settles (within s b.place b.inside) later (event_by kind place r)
  waits-settles s b later kind is = by kind is
    where
      more : Event Entry → List (ℕ × Entry)
      more e = b.inside ++ (r.id, entry_at place r) ∷ []

      one : some_meant (within s b.place (b.inside ++ (r.id, entry_at place r) ∷ [])) ≡ some_meant later → Settles (within s b.place b.inside) later (Change r.id (entry_at place r) ∷ [])
      one is = subst (λ (q : Meant). Settles (within s b.place b.inside) q (Change r.id (entry_at place r) ∷ [])) (same_meant (within s b.place (b.inside ++ (r.id, entry_at place r) ∷ [])) later is) (record {
        done = [];
        parts = ap (λ (l : List (Event Entry)). Pin ∷ l) (sym (map-append (λ change. Change change.0 change.1) b.inside ((r.id, entry_at place r) ∷ [])));
        closed = refl;
        made = refl;
      })

      by : (kind : LogKind) → waits entry_at takes kind s b r.id (entry_at place r) ≡ Some later → Settles (within s b.place b.inside) later (event_by kind place r)
      by effects.Replace is = one is
      by effects.Free is = one is
      by effects.Link is = one is
      by effects.Skip is = absurd cc
      by effects.Corrupted is = absurd cc

  -- the record that ends or cancels it
  ends-settles : (s : List (Event Entry)) (b : Begun Entry) (later : Meant) (mark : Event Entry) → open_after true (mark ∷ []) ≡ false → ((chains : List Chain) → chains_after effect_of_entry chains (mark ∷ []) ≡ chains)
      → (taken entry_at takes s b.inside >>= λ t. Some (outside t)) ≡ Some later → Settles (within s b.place b.inside) later (mark ∷ [])
  ends-settles s b later mark ends still is = by (taken entry_at takes s b.inside) refl is
    where
      by : (x : Option (List (Event Entry))) → taken entry_at takes s b.inside ≡ x → (x >>= λ t. Some (outside t)) ≡ Some later → Settles (within s b.place b.inside) later (mark ∷ [])
      by None was is = absurd cc
      by (Some t) was is =
          subst (λ (q : Meant). Settles (within s b.place b.inside) q (mark ∷ [])) (same_meant (outside t) later is) (record {
            done = Pin ∷ (changes b.inside ++ mark ∷ []);
            parts = ap (λ (l : List (Event Entry)). Pin ∷ l) (sym (append-nil (changes b.inside ++ mark ∷ [])));
            closed = open_after-append true (changes b.inside) (mark ∷ []) ∙ ap (λ w. open_after w (mark ∷ [])) (changes-open true b.inside) ∙ ends;
            made = ap (chains_after effect_of_entry []) (taken-all s t b.inside was) ∙ chains_after-append effect_of_entry [] s (changes b.inside)
                ∙ sym (chains_after-append effect_of_entry (chains_after effect_of_entry [] s) (changes b.inside) (mark ∷ []) ∙ still (chains_after effect_of_entry (chains_after effect_of_entry [] s) (changes b.inside)));
          })

  not-abandoned : (b : Bool) → r.kind == 14 ≡ b → b ≡ false
  not-abandoned false e = refl
  not-abandoned true e = absurd (let lt = ltb-true r.kind 14 own in let is = eqb-true r.kind 14 e in omega arith)

  inside-settles : (s : List (Event Entry)) (b : Begun Entry) (later : Meant) (x y z f : Bool) → r.kind == 13 ≡ x → r.kind == 1 ≡ y → r.kind == 12 ≡ z → closes_from b.place r ≡ f
      → (if x || (y || (r.kind == 14)) then (if f then closed entry_at takes r.kind s b else None) else waits entry_at takes (log_kind_of (kind_of r.kind)) s b r.id (entry_at place r)) ≡ Some later
      → Settles (within s b.place b.inside) later (marked z x y (event_by (log_kind_of (kind_of r.kind)) place r))
  inside-settles s b later true y true true i j k l is = absurd (omega (arith, eqb-true r.kind 13 i, eqb-true r.kind 12 k))
  inside-settles s b later true y false true i j k l is =
      ends-settles s b later Seal refl (λ chains. refl) (ap (λ w. if w then Some (outside s) else (taken entry_at takes s b.inside >>= λ t. Some (outside t))) (sym (not-abandoned (r.kind == 14) refl)) ∙ is)
  inside-settles s b later true y z false i j k l is = absurd cc
  inside-settles s b later false true true true i j k l is = absurd (omega (arith, eqb-true r.kind 1 j, eqb-true r.kind 12 k))
  inside-settles s b later false true false true i j k l is =
      ends-settles s b later Cancel refl (λ chains. refl) (ap (λ w. if w then Some (outside s) else (taken entry_at takes s b.inside >>= λ t. Some (outside t))) (sym (not-abandoned (r.kind == 14) refl)) ∙ is)
  inside-settles s b later false true z false i j k l is = absurd cc
  inside-settles s b later false false z f i j k l is =
      let waiting : waits entry_at takes (log_kind_of (kind_of r.kind)) s b r.id (entry_at place r) ≡ Some later =
      ap (λ w. if w then (if f then closed entry_at takes r.kind s b else None) else waits entry_at takes (log_kind_of (kind_of r.kind)) s b r.id (entry_at place r)) (sym (not-abandoned (r.kind == 14) refl)) ∙ is in
      by z k waiting
    where
      by : (z : Bool) → r.kind == 12 ≡ z → waits entry_at takes (log_kind_of (kind_of r.kind)) s b r.id (entry_at place r) ≡ Some later → Settles (within s b.place b.inside) later (marked z false false (event_by (log_kind_of (kind_of r.kind)) place r))
      by true k waiting = let bad = ap (λ kind. waits entry_at takes (log_kind_of (kind_of kind)) s b r.id (entry_at place r)) (sym (eqb-true r.kind 12 k)) ∙ waiting in absurd cc
      by false k waiting = waits-settles s b later (log_kind_of (kind_of r.kind)) waiting

  turn-settles : (begun : Option (Begun Entry)) (s : List (Event Entry)) (mark : Bool) (later : Meant) → turn_by entry_at takes begun s place r mark ≡ Some later → Settles (record { settled = s; begun = begun }) later (pending_event place r)
  turn-settles None s mark later is = outside-settles s mark later (r.kind == 12) (is_begin r) refl is
  turn-settles (Some b) s mark later is = inside-settles s b later (r.kind == 13) (r.kind == 1) (r.kind == 12) (closes_from b.place r) refl refl refl refl is

pub settles : (place : ℕ) (q later : Meant) (rs : List Record) → list_all is_own rs ≡ true → meant_turns place q rs ≡ Some later → Settles q later (pending_events place rs)
unfolding turns
settles place q later [] own is = subst (λ (m : Meant). Settles q m []) (same_meant q later is) (record { done = []; parts = append-nil (open_events q); closed = refl; made = refl })
settles place q later (r ∷ rs) own is = by (turn entry_at takes q place r (marks place r rs)) refl is (both (is_own r) own) (λ m. settles (place + size r) m later rs)
  where
    both : (b : Bool) → b && list_all is_own rs ≡ true → (b ≡ true) × (list_all is_own rs ≡ true)
    both true h = (refl, h)
    both false h = absurd cc

    by : (x : Option Meant) → turn entry_at takes q place r (marks place r rs) ≡ x → (x >>= λ m. meant_turns (place + size r) m rs) ≡ Some later → (is_own r ≡ true) × (list_all is_own rs ≡ true)
        → ((m : Meant) → list_all is_own rs ≡ true → meant_turns (place + size r) m rs ≡ Some later → Settles m later (pending_events (place + size r) rs)) → Settles q later (pending_events place (r ∷ rs))
    by None was is owns next = absurd cc
    by (Some m) was is owns next = settles-both q m later (pending_event place r) (pending_events (place + size r) rs) (turn-settles place r owns.0 q.begun q.settled (marks place r rs) m was) (next m owns.1 is)
