-- What the log in memory keeps, by its items and their buffer.
use Rattle.sled_log.proofs.Names.{◌≡◌, ◌≤◌, ◌<◌, ◌+◌, ◌-◌, ℕ, Bool, zero, suc, true, false, cond, ◌==◌, nat_le, nat_lt, Option, Some, None, List, [], ◌∷◌, ◌++◌, length, take, drop, map, set, get_or, refl, sym, ◌∙◌, ap, subst, arith, pos, slice_get, IsNonDecreasingBy, and_parts, and_from, leb-true, le-leb, eqb-true, eq-eqb, length-drop, length-take-le, take-append-le, drop-append-le, take-append-drop, take_all, drop-map, get_or_default, drop-append_seam, sum_by-cons, offset_of, MessageKind, StoredItem, StoredMark, Event, seen_event, event_of_mark, event_of, size_of_mark, log_size, stands_at, are_placed, item_after_restart, KeptChange, LogItem, Entry, part, last_settled, settled_at, settled_behind, kept_mark, kept_item, kept_from, head_size, Mark, Held, payload_of, pointer_of, lies, blob_lies, is_within, size_of_stored, payload_size, are_within, last_of, place_after, start_after, bare_event_of, bare_event, came_by, last_came, restarts}
use Rattle.std.proofs.lemmas.Bool.{false_from_ne_true, lt-ltb, ltb-true}
use Rattle.std.proofs.lemmas.List.Edits.{map_over_more}
use Rattle.sled_log.proofs.Moments.{or_settled, settled_by}
use Rattle.sled_base.specs.declared.types.DiskPtr.TheVariants.{Inline, Blob}
use Rattle.sled_log.specs.declared.memory.item.Mark.TheVariants as stored
use Rattle.sled_log.specs.MemLog.Kept as kept

-- one item more that a loop changes in its place
pub over_more : (f : StoredItem → StoredItem) (d : StoredItem) (old items : List StoredItem) (i : ℕ) → i < length old → i < length items → items ≡ map f (take i old) ++ drop i old
    → set items i (f (get_or items i d)) ≡ map f (take (i + 1) old) ++ drop (i + 1) old
over_more f d old items i lt within is = let x : StoredItem = get_or items i d in map_over_more f old items i x lt is (get_or_default items i d x within)

-- ---- payloads lie in the buffer

-- what is known of the first item
first-within : (start end : ℕ) (x : StoredItem) (items : List StoredItem) → are_within start end (x ∷ items) ≡ true
    → (start ≤ x.payload_end) × (lies x.payload_end x.mark ≡ true) × (are_within x.payload_end end items ≡ true) × (is_within start x ≡ true)
first-within start end x items h =
    let a = and_parts (is_within start x) (are_within x.payload_end end items) h in
    let b = and_parts (nat_le start x.payload_end) (lies x.payload_end x.mark) a.0 in
    (leb-true start x.payload_end b.0, b.1, a.1, a.0)

pub within-ends : (start end : ℕ) (items : List StoredItem) → are_within start end items ≡ true → (start_after start items ≡ end) × (start ≤ end)
within-ends start end [] h = let e = eqb-true start end h in (e, omega (arith, e))
within-ends start end (x ∷ items) h =
    let a = first-within start end x items h in
    let rest = within-ends x.payload_end end items a.2 in
    (rest.0, omega (arith, a.0, rest.1))

pub within-push : (start end more : ℕ) (items : List StoredItem) (x : StoredItem) → are_within start end items ≡ true → x.payload_end ≡ end + more → lies (end + more) x.mark ≡ true → are_within start (end + more) (items ++ x ∷ []) ≡ true
within-push start end more [] x h is last =
    let e = eqb-true start end h in
    and_from (is_within start x) _ (and_from (nat_le start x.payload_end) _ (le-leb start x.payload_end (omega (arith, e, is))) (subst (λ n. lies n x.mark ≡ true) (sym is) last)) (eq-eqb x.payload_end (end + more) is)
within-push start end more (y ∷ items) x h is last =
    let a = first-within start end y items h in
    and_from (is_within start y) _ a.3 (within-push y.payload_end end more items x a.2 is last)

pub within-take : (start end n : ℕ) (items : List StoredItem) → are_within start end items ≡ true → are_within start (start_after start (take n items)) (take n items) ≡ true
within-take start end zero items h = eq-eqb start start refl
within-take start end (suc n) [] h = eq-eqb start start refl
within-take start end (suc n) (x ∷ items) h =
    let a = first-within start end x items h in
    and_from (is_within start x) _ a.3 (within-take x.payload_end end n items a.2)

pub within-restarts : (start end : ℕ) (items : List StoredItem) → are_within start end items ≡ true → are_within start end (map restarts items) ≡ true
within-restarts start end [] h = h
within-restarts start end (x ∷ items) h =
    let a = first-within start end x items h in
    and_from (is_within start x) _ a.3 (within-restarts x.payload_end end items a.2)

pub start-take : (start end n : ℕ) (items : List StoredItem) → are_within start end items ≡ true → start_after start (take n items) ≤ end
start-take start end zero items h = (within-ends start end items h).1
start-take start end (suc n) [] h = (within-ends start end [] h).1
start-take start end (suc n) (x ∷ items) h = start-take x.payload_end end n items (first-within start end x items h).2

-- the payload of an item
pub within-get : (start end i : ℕ) (items : List StoredItem) (x : StoredItem) → are_within start end items ≡ true → slice_get items i ≡ Some x
    → (start_after start (take i items) ≤ x.payload_end) × (x.payload_end ≤ end) × (lies x.payload_end x.mark ≡ true)
within-get start end i [] x h is = absurd cc
within-get start end zero (y ∷ items) x h is =
    let a = first-within start end y items h in
    let same : y ≡ x = cc in
    let e = ap (λ (item : StoredItem). item.payload_end) same in
    let rest = within-ends y.payload_end end items a.2 in
    (omega (arith, e, a.0), omega (arith, e, rest.1), subst (λ (item : StoredItem). lies item.payload_end item.mark ≡ true) same a.1)
within-get start end (suc i) (y ∷ items) x h is = within-get y.payload_end end i items x (first-within start end y items h).2 is

part-longer : (start end : ℕ) (bytes more : List ℕ) → start ≤ end → end ≤ length bytes → part start end (bytes ++ more) ≡ part start end bytes
part-longer start end bytes more le within =
    ap (take (end - start)) (drop-append-le start bytes more (omega (arith, le, within)))
    ∙ take-append-le (end - start) (drop start bytes) more (omega (arith, le, within, length-drop start bytes))

pub part-length : (start len : ℕ) (bytes : List ℕ) → start + len ≤ length bytes → length (part start (start + len) bytes) ≡ len
part-length start len bytes within =
    let some = length-drop start bytes in
    let e = length-take-le (start + len - start) (drop start bytes) (omega arith) in
    omega (arith, e)

-- what stands behind a buffer
pub part-behind : (bytes more : List ℕ) → part (length bytes) (length bytes + length more) (bytes ++ more) ≡ more
part-behind bytes more =
    ap (take (length bytes + length more - length bytes)) (drop-append_seam bytes more) ∙ take_all (length bytes + length more - length bytes) more (omega arith)

-- what is seen of an entry without its place and its payload
abbrev pub kind_of : Entry → MessageKind
kind_of entry = entry.message.kind

-- what the last item says
pub last-says : (says : StoredItem → ℕ) (n : ℕ) (items : List StoredItem) (x : StoredItem) → slice_get items (length items - 1) ≡ Some x → last_of says n items ≡ says x
last-says says n [] x is = absurd cc
last-says says n (y ∷ []) x is = ap says (let same : y ≡ x = cc in same)
last-says says n (y ∷ z ∷ items) x is =
    let e : length (y ∷ z ∷ items) - 1 ≡ suc (length (z ∷ items) - 1) = omega arith in
    last-says says (says y) (z ∷ items) x (subst (λ k. slice_get (y ∷ z ∷ items) k ≡ Some x) e is)

pub last-pushed : (says : StoredItem → ℕ) (n : ℕ) (items : List StoredItem) (x : StoredItem) → last_of says n (items ++ x ∷ []) ≡ says x
last-pushed says n [] x = refl
last-pushed says n (y ∷ items) x = last-pushed says (says y) items x

pub last-restarted : (items : List StoredItem) → last_came 0 (map restarts items) ≡ 0
last-restarted [] = refl
last-restarted (x ∷ items) = last-restarted items

-- ---- when an item became stable

-- an item that came then, where the last before it came at `before`: at the next moment, or behind that at which all became stable
abbrev pub Follows : Option ℕ → ℕ → ℕ → Type 0
Follows last before came = 1 ≤ before → cond (came == before + 1) None (Some (before + 1)) ≡ last

-- what the clock says of the last item
module _ (clock stable : ℕ) (items : List StoredItem) where
  pub pends : stable < length items → (last_settled clock stable items ≡ None) × (came_by clock stable items ≡ clock)
  pends lt = let some = lt-ltb stable (length items) lt in (ap (λ b. cond b None (Some clock)) some, ap (λ b. cond b clock (clock - 1)) some)

  pub rests : length items ≤ stable → (last_settled clock stable items ≡ Some clock) × (came_by clock stable items ≡ clock - 1)
  rests le =
      let none = false_from_ne_true (nat_lt stable (length items)) (λ h. let lt = ltb-true stable (length items) h in omega (arith, lt, le)) in
      (ap (λ b. cond b None (Some clock)) none, ap (λ b. cond b clock (clock - 1)) none)

  pub follows-clock : last_came 0 items ≡ came_by clock stable items → Follows (last_settled clock stable items) (last_came 0 items) (clock + 1)
  follows-clock timed = λ some. by (nat_lt stable (length items)) some timed
    where
      by : (b : Bool) → 1 ≤ last_came 0 items → last_came 0 items ≡ cond b clock (clock - 1) → cond (clock + 1 == last_came 0 items + 1) None (Some (last_came 0 items + 1)) ≡ cond b None (Some clock)
      by true some is = ap (λ b. cond b None (Some (last_came 0 items + 1))) (eq-eqb (clock + 1) (last_came 0 items + 1) (omega (arith, is)))
      by false some is =
          ap (λ b. cond b None (Some (last_came 0 items + 1))) (false_from_ne_true (clock + 1 == last_came 0 items + 1) (λ h. let e = eqb-true (clock + 1) (last_came 0 items + 1) h in omega (arith, e, is, some)))
          ∙ ap (λ n. Some n) (let e : last_came 0 items + 1 ≡ clock = omega (arith, is, some) in e)

pub came-first : (stable : ℕ) (items : List StoredItem) → came_by 0 stable items ≡ 0
came-first stable items = by (nat_lt stable (length items))
  where
    by : (b : Bool) → cond b 0 (0 - 1) ≡ 0
    by true = refl
    by false = refl

-- what comes at a moment behind the first is pending
pub new-pends : (clock : ℕ) → settled_at None (clock + 1) [] ≡ None
new-pends clock = ap (λ b. cond b (Some 0) None) (false_from_ne_true (clock + 1 == 0) (λ h. let e = eqb-true (clock + 1) 0 h in omega (arith, e)))

settled-late : (last : Option ℕ) (n : ℕ) (items : List StoredItem) → settled_at last (suc n) items ≡ settled_behind last (suc n) items
settled-late last n items = ap (λ b. cond b (Some 0) (settled_behind last (suc n) items)) (false_from_ne_true (suc n == 0) (λ h. let e = eqb-true (suc n) 0 h in omega (arith, e)))

behind-push : (last : Option ℕ) (x : StoredItem) (came : ℕ) (items : List StoredItem) → 1 ≤ came → Follows last (last_came came items) x.came → settled_behind None came (items ++ x ∷ []) ≡ settled_behind last came items
behind-push last x came [] some follows = follows some
behind-push last x came (y ∷ items) some follows = by (behind-push last x y.came items) (y.came == came + 1) refl
  where
    by : (1 ≤ y.came → Follows last (last_came y.came items) x.came → settled_behind None y.came (items ++ x ∷ []) ≡ settled_behind last y.came items)
        → (b : Bool) → (y.came == came + 1) ≡ b → cond b (settled_behind None y.came (items ++ x ∷ [])) (Some (came + 1)) ≡ cond b (settled_behind last y.came items) (Some (came + 1))
    by rest true next = rest (let e = eqb-true y.came (came + 1) next in omega (arith, e)) follows
    by rest false next = refl

settled-push : (last : Option ℕ) (x : StoredItem) (came : ℕ) (items : List StoredItem) → Follows last (last_came came items) x.came → settled_at None came (items ++ x ∷ []) ≡ settled_at last came items
settled-push last x zero items follows = refl
settled-push last x (suc n) items follows = settled-late None n (items ++ x ∷ []) ∙ behind-push last x (suc n) items (omega arith) follows ∙ sym (settled-late last n items)

-- what is pending becomes stable then
behind-now : (moment came : ℕ) (items : List StoredItem) → settled_behind (Some moment) came items ≡ or_settled moment (settled_behind None came items)
behind-now moment came [] = refl
behind-now moment came (y ∷ items) = by (behind-now moment y.came items) (y.came == came + 1)
  where
    by : settled_behind (Some moment) y.came items ≡ or_settled moment (settled_behind None y.came items)
        → (b : Bool) → cond b (settled_behind (Some moment) y.came items) (Some (came + 1)) ≡ or_settled moment (cond b (settled_behind None y.came items) (Some (came + 1)))
    by rest true = rest
    by rest false = refl

settled-now : (moment came : ℕ) (items : List StoredItem) → settled_at (Some moment) came items ≡ or_settled moment (settled_at None came items)
settled-now moment zero items = refl
settled-now moment (suc n) items = settled-late (Some moment) n items ∙ behind-now moment (suc n) items ∙ ap (or_settled moment) (sym (settled-late None n items))

module _ (limit : ℕ) where
  -- ---- what is kept

  -- a blob that is named lies in the buffer
  mark-longer : (bytes more : List ℕ) (place end : ℕ) (payload : List ℕ) (mark : StoredMark) → lies end mark ≡ true → end ≤ length bytes → kept_mark limit (bytes ++ more) place payload mark ≡ kept_mark limit bytes place payload mark
  mark-longer bytes more place end payload (stored.Change kind pid None) h le = refl
  mark-longer bytes more place end payload (stored.Change kind pid (Some held)) h le =
      let within = leb-true (held.start + held.len) end h in
      ap (λ (payload : List ℕ). kept.Change (record { kind = kind; pid = pid; payload = payload; lsn = pos place; pointer = Blob place held.first }))
      (part-longer held.start (held.start + held.len) bytes more (omega arith) (omega (arith, within, le)))
  mark-longer bytes more place end payload stored.Pin h le = refl
  mark-longer bytes more place end payload stored.Seal h le = refl
  mark-longer bytes more place end payload stored.Cancel h le = refl

  item-longer : (bytes more : List ℕ) (place end : ℕ) (payload : List ℕ) (settled : Option ℕ) (x : StoredItem) → lies end x.mark ≡ true → end ≤ length bytes → kept_item limit (bytes ++ more) place payload settled x ≡ kept_item limit bytes place payload settled x
  item-longer bytes more place end payload settled x h le = ap (λ (m : Mark). record { mark = m; end = x.end; came = x.came; settled = settled }) (mark-longer bytes more place end payload x.mark h le)

  pub kept-longer : (bytes more : List ℕ) (last : Option ℕ) (place start end : ℕ) (items : List StoredItem) → are_within start end items ≡ true → end ≤ length bytes → kept_from limit (bytes ++ more) last place start items ≡ kept_from limit bytes last place start items
  kept-longer bytes more last place start end [] h le = refl
  kept-longer bytes more last place start end (x ∷ items) h le =
      let a = first-within start end x items h in
      let rest = within-ends x.payload_end end items a.2 in
      let settled : Option ℕ = settled_at last x.came items in
      ap (λ (payload : List ℕ). kept_item limit (bytes ++ more) place payload settled x ∷ kept_from limit (bytes ++ more) last x.end x.payload_end items) (part-longer start x.payload_end bytes more a.0 (omega (arith, rest.1, le)))
      ∙ ap (λ (item : LogItem). item ∷ kept_from limit (bytes ++ more) last x.end x.payload_end items) (item-longer bytes more place x.payload_end (part start x.payload_end bytes) settled x a.1 (omega (arith, rest.1, le)))
      ∙ ap (λ (l : List LogItem). kept_item limit bytes place (part start x.payload_end bytes) settled x ∷ l) (kept-longer bytes more last x.end x.payload_end end items a.2 le)

  -- a buffer that is cut behind the last payload
  pub kept-shorter : (bytes : List ℕ) (last : Option ℕ) (place start end : ℕ) (items : List StoredItem) → are_within start end items ≡ true → end ≤ length bytes → kept_from limit (take end bytes) last place start items ≡ kept_from limit bytes last place start items
  kept-shorter bytes last place start end items h le =
      sym (kept-longer (take end bytes) (drop end bytes) last place start end items h (omega (arith, le, length-take-le end bytes le)))
      ∙ ap (λ (b : List ℕ). kept_from limit b last place start items) (take-append-drop end bytes)

  module _ (bytes : List ℕ) (last : Option ℕ) where
    abbrev kept_of : ℕ → ℕ → List StoredItem → List LogItem
    kept_of place start items = kept_from limit bytes last place start items

    pub kept-length : (place start : ℕ) (items : List StoredItem) → length (kept_of place start items) ≡ length items
    kept-length place start [] = refl
    kept-length place start (x ∷ items) = ap suc (kept-length x.end x.payload_end items)

    -- one more that is pending
    pub kept-push : (place start came : ℕ) (items : List StoredItem) (x : StoredItem) → Follows last (last_came came items) x.came
        → kept_from limit bytes None place start (items ++ x ∷ []) ≡ kept_of place start items ++ kept_item limit bytes (place_after place items) (part (start_after start items) x.payload_end bytes) (settled_at None x.came []) x ∷ []
    kept-push place start came [] x follows = refl
    kept-push place start came (y ∷ items) x follows =
        ap (λ (o : Option ℕ). kept_item limit bytes place (part start y.payload_end bytes) o y ∷ kept_from limit bytes None y.end y.payload_end (items ++ x ∷ [])) (settled-push last x y.came items follows)
        ∙ ap (λ (l : List LogItem). kept_item limit bytes place (part start y.payload_end bytes) (settled_at last y.came items) y ∷ l) (kept-push y.end y.payload_end y.came items x follows)

    -- the first ones, which a crash leaves
    pub kept-restarts : (then : Option ℕ) (place start n : ℕ) (items : List StoredItem) → kept_from limit bytes then place start (map restarts (take n items)) ≡ map item_after_restart (take n (kept_of place start items))
    kept-restarts then place start zero items = refl
    kept-restarts then place start (suc n) [] = refl
    kept-restarts then place start (suc n) (x ∷ items) = ap (λ (l : List LogItem). item_after_restart (kept_item limit bytes place (part start x.payload_end bytes) None x) ∷ l) (kept-restarts then x.end x.payload_end n items)

    -- the item of a kept one
    pub kept-get : (place start i : ℕ) (items : List StoredItem) (item : LogItem) → slice_get (kept_of place start items) i ≡ Some item
        → (x : StoredItem) × (slice_get items i ≡ Some x) × (item.mark ≡ kept_mark limit bytes (place_after place (take i items)) (part (start_after start (take i items)) x.payload_end bytes) x.mark)
    kept-get place start i [] item is = absurd cc
    kept-get place start zero (x ∷ items) item is = (x, refl, ap (λ (y : LogItem). y.mark) (let same : item ≡ kept_item limit bytes place (part start x.payload_end bytes) (settled_at last x.came items) x = cc in same))
    kept-get place start (suc i) (x ∷ items) item is = kept-get x.end x.payload_end i items item is

    -- ---- places

    -- the log sizes are those up to the place behind
    pub placed-after : (place start : ℕ) (items : List StoredItem) → are_placed place (kept_of place start items) ≡ true → place_after place items ≡ place + log_size (kept_of place start items)
    placed-after place start [] all = omega arith
    placed-after place start (x ∷ items) all =
        let item : LogItem = kept_item limit bytes place (part start x.payload_end bytes) (settled_at last x.came items) x in
        let a = and_parts _ _ all in
        let b = and_parts (stands_at place item.mark) _ a.0 in
        let end = eqb-true x.end (place + size_of_mark item.mark) b.1 in
        let rest = placed-after x.end x.payload_end items a.1 in
        omega (arith, end, rest, sum_by-cons (λ (item : LogItem). size_of_mark item.mark) item (kept_of x.end x.payload_end items))

    pub kept-end : (place start i : ℕ) (items : List StoredItem) (item : LogItem) (x : StoredItem) → i < length items → (get_or (kept_of place start items) i item).end ≡ (get_or items i x).end
    kept-end place start i [] item x lt = absurd (omega (arith, lt))
    kept-end place start zero (y ∷ items) item x lt = refl
    kept-end place start (suc i) (y ∷ items) item x lt = kept-end y.end y.payload_end i items item x (omega (arith, lt))

    -- ends rise, as those of what is kept do
    pub stored-rise : (place start : ℕ) (items : List StoredItem) → IsNonDecreasingBy (λ (item : LogItem). item.end) (kept_of place start items) → IsNonDecreasingBy (λ (item : StoredItem). item.end) items
    stored-rise place start items rise i j x le lt =
        let item : LogItem = kept_item limit bytes 0 [] None x in
        let more = rise i j item le (omega (arith, lt, kept-length place start items)) in
        omega (arith, more, kept-end place start i items item x (omega (arith, le, lt)), kept-end place start j items item x lt)

    -- ---- events

    bare-mark : (place : ℕ) (payload : List ℕ) (mark : StoredMark) → seen_event kind_of (event_of_mark (kept_mark limit bytes place payload mark)) ≡ bare_event_of mark
    bare-mark place payload (stored.Change kind pid blob) = refl
    bare-mark place payload stored.Pin = refl
    bare-mark place payload stored.Seal = refl
    bare-mark place payload stored.Cancel = refl

    -- without their places and payloads the events are those of the items
    pub bare-events : (place start : ℕ) (items : List StoredItem) → map (seen_event kind_of) (map event_of (kept_of place start items)) ≡ map bare_event items
    bare-events place start [] = refl
    bare-events place start (x ∷ items) =
        ap (λ (e : Event MessageKind). e ∷ map (seen_event kind_of) (map event_of (kept_of x.end x.payload_end items))) (bare-mark place (part start x.payload_end bytes) x.mark) ∙ ap (λ (l : List (Event MessageKind)). bare_event x ∷ l) (bare-events x.end x.payload_end items)

    pub bare-drop : (n place start : ℕ) (items : List StoredItem) → map bare_event (drop n items) ≡ map (seen_event kind_of) (map event_of (drop n (kept_of place start items)))
    bare-drop n place start items =
        sym (drop-map bare_event n items)
        ∙ ap (drop n) (sym (bare-events place start items))
        ∙ drop-map (seen_event kind_of) n (map event_of (kept_of place start items))
        ∙ ap (map (seen_event kind_of)) (drop-map event_of n (kept_of place start items))

  -- all that is pending becomes stable
  pub kept-now : (bytes : List ℕ) (moment place start : ℕ) (items : List StoredItem) → kept_from limit bytes (Some moment) place start items ≡ map (settled_by moment) (kept_from limit bytes None place start items)
  kept-now bytes moment place start [] = refl
  kept-now bytes moment place start (x ∷ items) =
      let payload : List ℕ = part start x.payload_end bytes in
      ap (λ (o : Option ℕ). kept_item limit bytes place payload o x ∷ kept_from limit bytes (Some moment) x.end x.payload_end items) (settled-now moment x.came items)
      ∙ ap (λ (l : List LogItem). settled_by moment (kept_item limit bytes place payload (settled_at None x.came items) x) ∷ l) (kept-now bytes moment x.end x.payload_end items)

  -- an item that is added with its payload
  pub kept-add : (bytes more : List ℕ) (last : Option ℕ) (size : ℕ) (items : List StoredItem) (x : StoredItem) → are_within 0 (length bytes) items ≡ true → are_placed 0 (kept_from limit bytes last 0 0 items) ≡ true → size ≡ log_size (kept_from limit bytes last 0 0 items)
      → x.payload_end ≡ length bytes + length more → lies (length bytes) x.mark ≡ true → Follows last (last_came 0 items) x.came
      → kept_from limit (bytes ++ more) None 0 0 (items ++ x ∷ []) ≡ kept_from limit bytes last 0 0 items ++ kept_item limit bytes size more (settled_at None x.came []) x ∷ []
  kept-add bytes more last size items x within placed sized is lies follows =
      let old : List LogItem = kept_from limit bytes last 0 0 items in
      let settled : Option ℕ = settled_at None x.came [] in
      let payload : List ℕ = part (start_after 0 items) x.payload_end (bytes ++ more) in
      kept-push (bytes ++ more) last 0 0 0 items x follows
      ∙ ap (λ (l : List LogItem). l ++ kept_item limit (bytes ++ more) (place_after 0 items) payload settled x ∷ []) (kept-longer bytes more last 0 0 (length bytes) items within (omega arith))
      ∙ ap (λ n. old ++ kept_item limit (bytes ++ more) n payload settled x ∷ []) (let e = placed-after bytes last 0 0 items placed in omega (arith, e, sized))
      ∙ ap (λ (l : List ℕ). old ++ kept_item limit (bytes ++ more) size l settled x ∷ []) (ap (λ n. part n x.payload_end (bytes ++ more)) (within-ends 0 (length bytes) items within).0 ∙ ap (λ n. part (length bytes) n (bytes ++ more)) is ∙ part-behind bytes more)
      ∙ ap (λ (item : LogItem). old ++ item ∷ []) (item-longer bytes more size (length bytes) more settled x lies (omega arith))

  -- what a crash leaves, with the buffer cut behind its last payload
  pub kept-stopped : (bytes : List ℕ) (last then : Option ℕ) (n : ℕ) (items : List StoredItem) → are_within 0 (length bytes) items ≡ true → (let left : List StoredItem = map restarts (take n items) in
      (kept_from limit (take (start_after 0 left) bytes) then 0 0 left ≡ map item_after_restart (take n (kept_from limit bytes last 0 0 items))) × (are_within 0 (length (take (start_after 0 left) bytes)) left ≡ true))
  kept-stopped bytes last then n items h =
      let first : List StoredItem = take n items in
      let end : ℕ = start_after 0 first in
      let within = within-take 0 (length bytes) n items h in
      let within_left = within-restarts 0 end first within in
      let same : start_after 0 (map restarts first) ≡ end = (within-ends 0 end (map restarts first) within_left).0 in
      let le = start-take 0 (length bytes) n items h in (
        ap (λ e. kept_from limit (take e bytes) then 0 0 (map restarts first)) same ∙ kept-shorter bytes then 0 0 end (map restarts first) within_left le ∙ kept-restarts bytes last then 0 0 n items,
        ap (λ e. are_within 0 (length (take e bytes)) (map restarts first)) same ∙ ap (λ e. are_within 0 e (map restarts first)) (length-take-le end bytes le) ∙ within_left,
      )

  -- the item of a message, and its payload
  change-is : (bytes : List ℕ) (place : ℕ) (payload : List ℕ) (change : KeptChange) (m : StoredMark) → kept_mark limit bytes place payload m ≡ kept.Change change → (blob : Option Held) × (m ≡ stored.Change change.kind change.pid blob) × (change.payload ≡ payload_of bytes payload blob)
  change-is bytes place payload change (stored.Change kind pid blob) h =
      let made : KeptChange = record { kind = kind; pid = pid; payload = payload_of bytes payload blob; lsn = pos place; pointer = pointer_of limit place payload blob } in
      let same : made ≡ change = cc in
      (blob, ap (λ (c : KeptChange). stored.Change c.kind c.pid blob) same, ap (λ (c : KeptChange). c.payload) (sym same))
  change-is bytes place payload change stored.Pin h = absurd cc
  change-is bytes place payload change stored.Seal h = absurd cc
  change-is bytes place payload change stored.Cancel h = absurd cc

  pub finds : (bytes : List ℕ) (last : Option ℕ) (items : List StoredItem) (i : ℕ) (item : LogItem) (change : KeptChange) → slice_get (kept_from limit bytes last 0 0 items) i ≡ Some item → item.mark ≡ kept.Change change
      → (x : StoredItem) × (slice_get items i ≡ Some x) × (blob : Option Held) × (x.mark ≡ stored.Change change.kind change.pid blob) × (change.payload ≡ payload_of bytes (part (start_after 0 (take i items)) x.payload_end bytes) blob)
  finds bytes last items i item change is mark =
      let got = kept-get bytes last 0 0 i items item is in
      let x : StoredItem = got.0 in
      let both = change-is bytes (place_after 0 (take i items)) (part (start_after 0 (take i items)) x.payload_end bytes) change x.mark (sym got.2 ∙ mark) in
      (x, got.1, both.0, both.1, both.2)

-- a pointer leads to its place
pub offset-of : (limit at : ℕ) (payload : List ℕ) (blob : Option Held) → offset_of (pointer_of limit at payload blob) ≡ at
offset-of limit at payload (Some held) = refl
offset-of limit at payload None = by (nat_le (length payload) limit)
  where
    by : (b : Bool) → offset_of (cond b (Inline at) (Blob at (pos at))) ≡ at
    by true = refl
    by false = refl

-- a message stands where it is kept
pub stands-at : (limit : ℕ) (bytes : List ℕ) {place at : ℕ} (payload : List ℕ) (mark : StoredMark) → place ≡ at → stands_at place (kept_mark limit bytes at payload mark) ≡ true
stands-at limit bytes {place} {at} payload (stored.Change kind pid blob) is = ap (λ n. n == place) (offset-of limit at payload blob) ∙ eq-eqb at place (sym is)
stands-at limit bytes payload stored.Pin is = refl
stands-at limit bytes payload stored.Seal is = refl
stands-at limit bytes payload stored.Cancel is = refl

-- its payload is as long as it says, and its log size is that of what is stored
pub payload-length : (bytes payload : List ℕ) (blob : Option Held) → blob_lies (length bytes) blob ≡ true → length (payload_of bytes payload blob) ≡ payload_size (length payload) blob
payload-length bytes payload None h = refl
payload-length bytes payload (Some held) h = part-length held.start held.len bytes (leb-true (held.start + held.len) (length bytes) h)

-- a pointer is that of the payload, one's own or not
pub pointer-same : (limit : ℕ) (bytes : List ℕ) (place : ℕ) (own : List ℕ) (blob : Option Held) → pointer_of limit place (payload_of bytes own blob) blob ≡ pointer_of limit place own blob
pointer-same limit bytes place own None = refl
pointer-same limit bytes place own (Some held) = refl

pub size-stored : (limit : ℕ) (bytes : List ℕ) (place : ℕ) (payload : List ℕ) (mark : StoredMark) → lies (length bytes) mark ≡ true → size_of_mark (kept_mark limit bytes place payload mark) ≡ size_of_stored mark (length payload)
size-stored limit bytes place payload (stored.Change kind pid blob) h = ap (λ n. head_size + n) (payload-length bytes payload blob h)
size-stored limit bytes place payload stored.Pin h = refl
size-stored limit bytes place payload stored.Seal h = refl
size-stored limit bytes place payload stored.Cancel h = refl
