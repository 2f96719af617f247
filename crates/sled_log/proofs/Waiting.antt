-- The messages of the log in memory that are still to be named.
use Rattle.sled_log.proofs.Names.{◌≡◌, ◌==◌, cond, nat_lt, ◌≤◌, ◌<◌, ◌+◌, ℕ, zero, suc, Bool, true, false, Option, Some, None, List, [], ◌∷◌, ◌++◌, length, take, drop, map, refl, sym, ◌∙◌, ap, subst, arith, slice_get, eqb-true, append-nil, drop-append-le, drop-map, map-append, take-add, length-append, offset_of, MessageKind, LogItem, Mark, Entry, Chain, effect_of_entry, chains_from, chains_after, chains_with_change, slice_set, Event, Change, Pin, Seal, Cancel, seen_event, LogKind, log_kind_of, event_of, named_by, named_in, kept_in, state_of, now, pointer_of, kept_mark, kept_from, part, place_after, start_after, before_mark, before_change, bare_event, bare_event_of, last_in, pages_with, pages_after, lies, MemLog, Held, StoredItem, StoredMark, le-leb, leb-true}
use Rattle.std.proofs.Common.{◌||◌}
use Rattle.std.proofs.Math.ListN.{length-set}
use Rattle.std.proofs.lemmas.Bool.{ltb-true, lt-ltb, false_from_ne_true}
use Rattle.std.proofs.lemmas.List.{append_assoc, drop-drop}
use Rattle.sled_base.specs.declared.kinds.LogKind.TheVariants as kinds
use Rattle.sled_log.specs.Inside.Blobs.{marks_of}
use Rattle.sled_log.specs.Moves.{Moves, first_of, due_among}
use Rattle.sled_log.specs.declared.memory.item.Mark.TheVariants as stored
use Rattle.sled_log.proofs.Moments.{now_is}
use Rattle.sled_log.proofs.Stored.{offset-of, kind_of, bare-events}

named-append : (items others : List LogItem) → named_in (items ++ others) ≡ named_in items ++ named_in others
named-append [] others = refl
named-append (x ∷ items) others = ap (λ (l : List (ℕ × ℕ)). named_by x.mark ++ l) (named-append items others) ∙ sym (append_assoc (named_by x.mark) (named_in items) (named_in others))

-- an item more
pub waiting-push : (cursor : ℕ) (items : List LogItem) (item : LogItem) (kept : List LogItem) → kept ≡ items ++ item ∷ [] → cursor ≤ length items → named_in (drop cursor kept) ≡ named_in (drop cursor items) ++ named_by item.mark
waiting-push cursor items item kept is le =
    ap (λ (l : List LogItem). named_in (drop cursor l)) is
    ∙ ap named_in (drop-append-le cursor items (item ∷ []) le)
    ∙ named-append (drop cursor items) (item ∷ [])
    ∙ ap (λ (l : List (ℕ × ℕ)). named_in (drop cursor items) ++ l) (append-nil (named_by item.mark))

slice_get-drop : (n i : ℕ) (items : List StoredItem) → slice_get (drop n items) i ≡ slice_get items (n + i)
slice_get-drop zero i items = ap (slice_get items) (let e : i ≡ 0 + i = omega arith in e)
slice_get-drop (suc n) i [] = refl
slice_get-drop (suc n) i (x ∷ items) = slice_get-drop n i items ∙ ap (slice_get (x ∷ items)) (let e : suc (n + i) ≡ suc n + i = omega arith in e)

place-append : (place : ℕ) (items others : List StoredItem) → place_after place (items ++ others) ≡ place_after (place_after place items) others
place-append place [] others = refl
place-append place (x ∷ items) others = place-append x.end items others

-- a mark is no message
not-message : (m : StoredMark) (kind : MessageKind) (pid : ℕ) (blob : Option Held) (others : ℕ) → m ≡ stored.Change kind pid blob → before_mark m others ≡ 0
not-message m kind pid blob others is = ap (λ (x : StoredMark). before_mark x others) is

same-page : (k l : MessageKind) (p q : ℕ) (a b : Option Held) → stored.Change k p a ≡ stored.Change l q b → p ≡ q
same-page k l p q a b is = cc

module _ (limit : ℕ) (bytes : List ℕ) (last : Option ℕ) where
  abbrev kept_of : ℕ → ℕ → List StoredItem → List LogItem
  kept_of place start items = kept_from limit bytes last place start items

  pub kept-drop : (n place start : ℕ) (items : List StoredItem) → drop n (kept_of place start items) ≡ kept_of (place_after place (take n items)) (start_after start (take n items)) (drop n items)
  kept-drop zero place start items = refl
  kept-drop (suc n) place start [] = refl
  kept-drop (suc n) place start (x ∷ items) = kept-drop n x.end x.payload_end items

  -- the first message is named first
  pub first-is : (place start : ℕ) (items : List StoredItem) (x : StoredItem) (kind : MessageKind) (pid : ℕ) (blob : Option Held) → slice_get items (before_change items) ≡ Some x → x.mark ≡ stored.Change kind pid blob
      → named_in (kept_of place start items) ≡ (pid, place_after place (take (before_change items) items)) ∷ named_in (drop (suc (before_change items)) (kept_of place start items))
  first-is place start [] x kind pid blob is marked = absurd cc
  first-is place start (y ∷ items) x kind pid blob is marked = by (λ at. first-is y.end y.payload_end items x kind pid blob at marked) y.mark refl
    where
      past : (m : StoredMark) → y.mark ≡ m → before_mark m (before_change items) ≡ suc (before_change items) → slice_get items (before_change items) ≡ Some x
      past m same e = sym (ap (slice_get (y ∷ items)) (ap (λ (k : StoredMark). before_mark k (before_change items)) same ∙ e)) ∙ is

      by : (slice_get items (before_change items) ≡ Some x → named_in (kept_of y.end y.payload_end items) ≡ (pid, place_after y.end (take (before_change items) items)) ∷ named_in (drop (suc (before_change items)) (kept_of y.end y.payload_end items)))
          → (m : StoredMark) → y.mark ≡ m
          → named_by (kept_mark limit bytes place (part start y.payload_end bytes) y.mark) ++ named_in (kept_of y.end y.payload_end items)
          ≡ (pid, place_after place (take (before_mark y.mark (before_change items)) (y ∷ items))) ∷ named_in (drop (suc (before_mark y.mark (before_change items))) (kept_of place start (y ∷ items)))
      by rest (stored.Change k p b) same =
          subst (λ (m : StoredMark). named_by (kept_mark limit bytes place (part start y.payload_end bytes) m) ++ named_in (kept_of y.end y.payload_end items)
          ≡ (pid, place_after place (take (before_mark m (before_change items)) (y ∷ items))) ∷ named_in (drop (suc (before_mark m (before_change items))) (kept_of place start (y ∷ items)))) (sym same)
          (let here : slice_get (y ∷ items) 0 ≡ Some x = sym (ap (λ (m : StoredMark). slice_get (y ∷ items) (before_mark m (before_change items))) same) ∙ is in
          let it : y ≡ x = cc in
          let page : p ≡ pid = same-page k kind p pid b blob (sym same ∙ ap (λ (z : StoredItem). z.mark) it ∙ marked) in
          ap (λ (n : ℕ). (n, offset_of (pointer_of limit place (part start y.payload_end bytes) b)) ∷ named_in (kept_of y.end y.payload_end items)) page ∙ ap (λ (n : ℕ). (pid, n) ∷ named_in (kept_of y.end y.payload_end items)) (offset-of limit place (part start y.payload_end bytes) b))
      by rest stored.Pin same =
          subst (λ (m : StoredMark). named_by (kept_mark limit bytes place (part start y.payload_end bytes) m) ++ named_in (kept_of y.end y.payload_end items)
          ≡ (pid, place_after place (take (before_mark m (before_change items)) (y ∷ items))) ∷ named_in (drop (suc (before_mark m (before_change items))) (kept_of place start (y ∷ items)))) (sym same) (rest (past stored.Pin same refl))
      by rest stored.Seal same =
          subst (λ (m : StoredMark). named_by (kept_mark limit bytes place (part start y.payload_end bytes) m) ++ named_in (kept_of y.end y.payload_end items)
          ≡ (pid, place_after place (take (before_mark m (before_change items)) (y ∷ items))) ∷ named_in (drop (suc (before_mark m (before_change items))) (kept_of place start (y ∷ items)))) (sym same) (rest (past stored.Seal same refl))
      by rest stored.Cancel same =
          subst (λ (m : StoredMark). named_by (kept_mark limit bytes place (part start y.payload_end bytes) m) ++ named_in (kept_of y.end y.payload_end items)
          ≡ (pid, place_after place (take (before_mark m (before_change items)) (y ∷ items))) ∷ named_in (drop (suc (before_mark m (before_change items))) (kept_of place start (y ∷ items)))) (sym same) (rest (past stored.Cancel same refl))

  -- or there is none
  pub none-is : (place start : ℕ) (items : List StoredItem) → slice_get items (before_change items) ≡ None → named_in (kept_of place start items) ≡ []
  none-is place start [] is = refl
  none-is place start (y ∷ items) is = by (none-is y.end y.payload_end items) y.mark refl
    where
      past : (m : StoredMark) → y.mark ≡ m → before_mark m (before_change items) ≡ suc (before_change items) → slice_get items (before_change items) ≡ None
      past m same e = sym (ap (slice_get (y ∷ items)) (ap (λ (k : StoredMark). before_mark k (before_change items)) same ∙ e)) ∙ is

      by : (slice_get items (before_change items) ≡ None → named_in (kept_of y.end y.payload_end items) ≡ []) → (m : StoredMark) → y.mark ≡ m
          → named_by (kept_mark limit bytes place (part start y.payload_end bytes) y.mark) ++ named_in (kept_of y.end y.payload_end items) ≡ []
      by rest (stored.Change k p b) same = absurd (let no : Some y ≡ None = sym (ap (λ (m : StoredMark). slice_get (y ∷ items) (before_mark m (before_change items))) same) ∙ is in cc)
      by rest stored.Pin same = subst (λ (m : StoredMark). named_by (kept_mark limit bytes place (part start y.payload_end bytes) m) ++ named_in (kept_of y.end y.payload_end items) ≡ []) (sym same) (rest (past stored.Pin same refl))
      by rest stored.Seal same = subst (λ (m : StoredMark). named_by (kept_mark limit bytes place (part start y.payload_end bytes) m) ++ named_in (kept_of y.end y.payload_end items) ≡ []) (sym same) (rest (past stored.Seal same refl))
      by rest stored.Cancel same = subst (λ (m : StoredMark). named_by (kept_mark limit bytes place (part start y.payload_end bytes) m) ++ named_in (kept_of y.end y.payload_end items) ≡ []) (sym same) (rest (past stored.Cancel same refl))

-- no mark stands where the first message is
pub is-message : (items : List StoredItem) (x : StoredItem) → slice_get items (before_change items) ≡ Some x → ((kind : MessageKind) (pid : ℕ) (blob : Option Held) → x.mark ≡ stored.Change kind pid blob → ⊥) → ⊥
is-message [] x is none = absurd cc
is-message (y ∷ items) x is none = by (λ at. is-message items x at none) y.mark refl
  where
    past : (m : StoredMark) → y.mark ≡ m → before_mark m (before_change items) ≡ suc (before_change items) → slice_get items (before_change items) ≡ Some x
    past m same e = sym (ap (slice_get (y ∷ items)) (ap (λ (k : StoredMark). before_mark k (before_change items)) same ∙ e)) ∙ is

    by : (slice_get items (before_change items) ≡ Some x → ⊥) → (m : StoredMark) → y.mark ≡ m → ⊥
    by rest (stored.Change k p b) same =
        let here : slice_get (y ∷ items) 0 ≡ Some x = sym (ap (λ (m : StoredMark). slice_get (y ∷ items) (before_mark m (before_change items))) same) ∙ is in
        let it : y ≡ x = cc in
        none k p b (ap (λ (z : StoredItem). z.mark) (sym it) ∙ same)
    by rest stored.Pin same = rest (past stored.Pin same refl)
    by rest stored.Seal same = rest (past stored.Seal same refl)
    by rest stored.Cancel same = rest (past stored.Cancel same refl)

-- ---- what the log names

module _ (self : MemLog) (n at : ℕ) (count : n ≡ before_change (drop self.cursor self.items.items)) (there : at ≡ self.cursor + n) where
  abbrev behind_cursor : List StoredItem
  behind_cursor = drop self.cursor self.items.items

  got : slice_get behind_cursor (before_change behind_cursor) ≡ slice_get self.items.items at
  got = slice_get-drop self.cursor (before_change behind_cursor) self.items.items ∙ ap (slice_get self.items.items) (let e : self.cursor + before_change behind_cursor ≡ at = omega (arith, count, there) in e)

  waits-as : named_in (drop self.cursor (kept_in self)) ≡ named_in (kept_from self.blob_limit self.bytes.items (last_in self) (place_after 0 (take self.cursor self.items.items)) (start_after 0 (take self.cursor self.items.items)) behind_cursor)
  waits-as = ap named_in (kept-drop self.blob_limit self.bytes.items (last_in self) self.cursor 0 0 self.items.items)

  pub names-none : slice_get self.items.items at ≡ None → named_in (drop self.cursor (kept_in self)) ≡ []
  names-none none = waits-as ∙ none-is self.blob_limit self.bytes.items (last_in self) _ _ behind_cursor (got ∙ none)

  pub names-message : (x : StoredItem) → slice_get self.items.items at ≡ Some x → ((kind : MessageKind) (pid : ℕ) (blob : Option Held) → x.mark ≡ stored.Change kind pid blob → ⊥) → ⊥
  names-message x is none = is-message behind_cursor x (got ∙ is) none

  pub names-first : (x : StoredItem) (kind : MessageKind) (pid : ℕ) (blob : Option Held) → slice_get self.items.items at ≡ Some x → x.mark ≡ stored.Change kind pid blob
      → named_in (drop self.cursor (kept_in self)) ≡ (pid, place_after 0 (take at self.items.items)) ∷ named_in (drop (at + 1) (kept_in self))
  names-first x kind pid blob is marked =
      let place : ℕ = place_after 0 (take self.cursor self.items.items) in
      let k : ℕ = before_change behind_cursor in
      waits-as
      ∙ first-is self.blob_limit self.bytes.items (last_in self) place (start_after 0 (take self.cursor self.items.items)) behind_cursor x kind pid blob (got ∙ is) marked
      ∙ ap (λ (m : ℕ). (pid, m) ∷ named_in (drop (suc k) (kept_from self.blob_limit self.bytes.items (last_in self) place (start_after 0 (take self.cursor self.items.items)) behind_cursor)))
      (sym (place-append 0 (take self.cursor self.items.items) (take k behind_cursor)) ∙ ap (place_after 0) (sym (take-add self.cursor k self.items.items)) ∙ ap (λ (m : ℕ). place_after 0 (take m self.items.items)) (let e : self.cursor + k ≡ at = omega (arith, count, there) in e))
      ∙ ap (λ (l : List LogItem). (pid, place_after 0 (take at self.items.items)) ∷ named_in l)
      (ap (drop (suc k)) (sym (kept-drop self.blob_limit self.bytes.items (last_in self) self.cursor 0 0 self.items.items)) ∙ drop-drop (suc k) self.cursor (kept_in self) ∙ ap (λ (m : ℕ). drop m (kept_in self)) (let e : self.cursor + suc k ≡ at + 1 = omega (arith, count, there) in e))

-- which message is due where enough were appended
pub due-is : (pages every : ℕ) (moves : Moves) → (every ≡ 0 → ⊥) → every ≤ moves.appended → due_among pages every moves ≡ first_of pages moves.waiting
due-is pages every moves some enough =
    ap (λ b. cond (b || nat_lt moves.appended every) None (first_of pages moves.waiting)) (false_from_ne_true (every == 0) (λ h. some (eqb-true every 0 h)))
    ∙ ap (λ b. cond b None (first_of pages moves.waiting)) (false_from_ne_true (nat_lt moves.appended every) (λ h. let lt = ltb-true moves.appended every h in omega (arith, lt, enough)))

-- none is where too few were
pub due-none : (pages every : ℕ) (moves : Moves) → moves.appended < every → due_among pages every moves ≡ None
due-none pages every moves few = by (every == 0)
  where
    by : (b : Bool) → cond (b || nat_lt moves.appended every) None (first_of pages moves.waiting) ≡ None
    by true = refl
    by false = ap (λ b. cond b None (first_of pages moves.waiting)) (lt-ltb moves.appended every few)

pub due-never : (pages every : ℕ) (moves : Moves) → every ≡ 0 → due_among pages every moves ≡ None
due-never pages every moves is = ap (λ n. due_among pages n moves) is

-- the first is named if its page is there
pub first-there : (pages pid place : ℕ) (others : List (ℕ × ℕ)) → pid < pages → first_of pages ((pid, place) ∷ others) ≡ Some (pid, place)
first-there pages pid place others lt = ap (λ b. cond b (Some (pid, place)) None) (lt-ltb pid pages lt)

pub first-gone : (pages pid place : ℕ) (others : List (ℕ × ℕ)) → pages ≤ pid → first_of pages ((pid, place) ∷ others) ≡ None
first-gone pages pid place others le = ap (λ b. cond b (Some (pid, place)) None) (false_from_ne_true (nat_lt pid pages) (λ h. let lt = ltb-true pid pages h in omega (arith, lt)))

-- ---- what is named goes by the marks

abbrev names_of : List Mark → List (ℕ × ℕ)
names_of [] = []
names_of (mark ∷ marks) = named_by mark ++ names_of marks

named-marks : (items : List LogItem) → named_in items ≡ names_of (marks_of items)
named-marks [] = refl
named-marks (x ∷ items) = ap (λ (l : List (ℕ × ℕ)). named_by x.mark ++ l) (named-marks items)

pub named-same : (cursor : ℕ) (items others : List LogItem) → marks_of items ≡ marks_of others → named_in (drop cursor items) ≡ named_in (drop cursor others)
named-same cursor items others same =
    named-marks (drop cursor items)
    ∙ ap names_of (sym (drop-map (λ (item : LogItem). item.mark) cursor items) ∙ ap (drop cursor) same ∙ drop-map (λ (item : LogItem). item.mark) cursor others)
    ∙ sym (named-marks (drop cursor others))

-- ---- how many pages there are

pages-change : (kind : LogKind) (chains : List Chain) (id : ℕ) (said : Entry) → length (chains_with_change effect_of_entry kind chains id said) ≡ pages_with (length chains) id kind
pages-change kind chains id said = by kind
  where
    new : (b : Bool) → length (cond b (chains ++ (said ∷ []) ∷ []) (slice_set chains id (said ∷ []))) ≡ cond b (length chains + 1) (length chains)
    new true = length-append chains ((said ∷ []) ∷ [])
    new false = length-set chains id (said ∷ [])

    by : (kind : LogKind) → length (chains_with_change effect_of_entry kind chains id said) ≡ pages_with (length chains) id kind
    by kinds.Free = new (id == length chains)
    by kinds.Replace = new (id == length chains)
    by kinds.Link = length-set chains id _
    by kinds.Skip = refl
    by kinds.Corrupted = refl

pages-are : (chains : List Chain) (events : List (Event Entry)) → length (chains_after effect_of_entry chains events) ≡ pages_after (length chains) (map (seen_event kind_of) events)
pages-are chains [] = refl
pages-are chains (Change id said ∷ events) =
    pages-are (chains_from effect_of_entry chains (Change id said)) events
    ∙ ap (λ n. pages_after n (map (seen_event kind_of) events)) (pages-change (effect_of_entry said) chains id said)
pages-are chains (Pin ∷ events) = pages-are chains events
pages-are chains (Seal ∷ events) = pages-are chains events
pages-are chains (Cancel ∷ events) = pages-are chains events

-- the log knows how many
pub pages-now : (self : MemLog) → self.pages ≡ length (now effect_of_entry (state_of self))
pages-now self =
    self.paged
    ∙ ap (pages_after 0) (sym (bare-events self.blob_limit self.bytes.items (last_in self) 0 0 self.items.items))
    ∙ sym (pages-are [] (map event_of (kept_in self)))
    ∙ ap length (sym (now_is self.clock self.stable (kept_in self) self.in_order))

pages-append : (n : ℕ) (events others : List (Event MessageKind)) → pages_after n (events ++ others) ≡ pages_after (pages_after n events) others
pages-append n [] others = refl
pages-append n (Change id kind ∷ events) others = pages-append (pages_with n id (log_kind_of kind)) events others
pages-append n (Pin ∷ events) others = pages-append n events others
pages-append n (Seal ∷ events) others = pages-append n events others
pages-append n (Cancel ∷ events) others = pages-append n events others

-- with an item more
pub pages-push : (items : List StoredItem) (x : StoredItem) (then : List StoredItem) (n : ℕ) → then ≡ items ++ x ∷ [] → n ≡ pages_after 0 (map bare_event items) → pages_after n (bare_event x ∷ []) ≡ pages_after 0 (map bare_event then)
pages-push items x then n is pages =
    ap (λ n. pages_after n (bare_event x ∷ [])) pages
    ∙ sym (pages-append 0 (map bare_event items) (bare_event x ∷ []))
    ∙ ap (pages_after 0) (sym (map-append bare_event items (x ∷ [])) ∙ ap (map bare_event) (sym is))

pages-few : (n id : ℕ) (kind : LogKind) → pages_with n id kind ≤ n + 1
pages-few n id kind = by kind
  where
    new : (b : Bool) → cond b (n + 1) n ≤ n + 1
    new true = omega arith
    new false = omega arith

    by : (kind : LogKind) → pages_with n id kind ≤ n + 1
    by kinds.Free = new (id == n)
    by kinds.Replace = new (id == n)
    by kinds.Link = omega arith
    by kinds.Skip = omega arith
    by kinds.Corrupted = omega arith

pub one-page : (n : ℕ) (mark : StoredMark) → pages_after n (bare_event_of mark ∷ []) ≤ n + 1
one-page n (stored.Change kind pid blob) = pages-few n pid (log_kind_of kind)
one-page n stored.Pin = omega arith
one-page n stored.Seal = omega arith
one-page n stored.Cancel = omega arith

-- ---- blobs lie in a longer buffer

pub lies-longer : (end more : ℕ) (mark : StoredMark) → lies end mark ≡ true → lies (end + more) mark ≡ true
lies-longer end more (stored.Change kind pid None) h = refl
lies-longer end more (stored.Change kind pid (Some held)) h = le-leb (held.start + held.len) (end + more) (let within = leb-true (held.start + held.len) end h in omega (arith, within))
lies-longer end more stored.Pin h = refl
lies-longer end more stored.Seal h = refl
lies-longer end more stored.Cancel h = refl
