-- Items that are in order, and what the log was at each moment.
use Rattle.sled_log.proofs.Names.{◌≡◌, ◌≤◌, ◌<◌, ◌+◌, ℕ, Bool, true, false, not, ◌&&◌, cond, nat_le, Option, Some, None, is_none, List, [], ◌∷◌, ◌++◌, length, take, drop, map, sum, refl, sym, ◌∙◌, ap, arith, filter, list_all, and_parts, and_from, and_left, and_right, leb-true, le-leb, lt-leb, false≢true, not_from_true, append-nil, length-append, length-map, map-append, take-append-drop, take-append-le, drop-append-le, take_all, drop_all, take-map, take-add, filter-append, sum_by-append, sum_by-take-drop, sum-map, LogItem, is_open, IsFair, chains_after, Event, event_of, size_of_mark, log_size, was_by, was_stable, was_pending, is_waiting, item_settled_at, items_settled_at, item_after_restart, state_at, IsInOrder, WasLeft, chains_after-append, IsLeft-cut, Entry, Chain, Message, Messages, messages_of, message_in, effect_of, effect_of_entry, IsLeft-seen, LogState, now, Adds, IsLeft}
use Rattle.std.proofs.lemmas.List.Folds.{list_all-append}
use Rattle.sled_log.proofs.Filters.{list_all-weaker, filter-all, filter-none, filter-map_same, map-map_same}

was_by-later : (clock later : ℕ) (at : Option ℕ) → clock ≤ later → was_by clock at ≡ true → was_by later at ≡ true
was_by-later clock later None le h = h
was_by-later clock later (Some at) le h = let k = leb-true at clock h in le-leb at later (omega arith)

was_stable-later : (clock later : ℕ) → clock ≤ later → (e : LogItem) → was_stable clock e ≡ true → was_stable later e ≡ true
was_stable-later clock later le e h =
    let a = and_parts (nat_le e.came clock) (was_by clock e.settled) h in
    let k = leb-true e.came clock a.0 in
    and_from (nat_le e.came later) (was_by later e.settled) (le-leb e.came later (omega arith)) (was_by-later clock later e.settled le a.1)

stable_not_pending : (clock : ℕ) (e : LogItem) → was_stable clock e ≡ true → was_pending clock e ≡ false
stable_not_pending clock e h =
    let a = and_parts (nat_le e.came clock) (was_by clock e.settled) h in
    and_right (nat_le e.came clock) (not (was_by clock e.settled)) (not_from_true (was_by clock e.settled) a.1)

none_never : (at : Option ℕ) (moment : ℕ) → is_none at ≡ true → was_by moment at ≡ false
none_never None moment h = refl
none_never (Some at) moment h = absurd (false≢true h)

waiting_not_stable : (clock moment : ℕ) (e : LogItem) → is_waiting clock e ≡ true → was_stable moment e ≡ false
waiting_not_stable clock moment e h =
    let a = and_parts (nat_le e.came clock) (is_none e.settled) h in and_right (nat_le e.came moment) (was_by moment e.settled) (none_never e.settled moment a.1)

waiting_pending : (clock : ℕ) (e : LogItem) → is_waiting clock e ≡ true → was_pending clock e ≡ true
waiting_pending clock e h =
    let a = and_parts (nat_le e.came clock) (is_none e.settled) h in
    and_from (nat_le e.came clock) (not (was_by clock e.settled)) a.0 (ap not (none_never e.settled clock a.1))

waiting-later : (clock later : ℕ) → clock ≤ later → (e : LogItem) → is_waiting clock e ≡ true → is_waiting later e ≡ true
waiting-later clock later le e h =
    let a = and_parts (nat_le e.came clock) (is_none e.settled) h in
    let k = leb-true e.came clock a.0 in
    and_from (nat_le e.came later) (is_none e.settled) (le-leb e.came later (omega arith)) a.1

settled_stable : (clock moment : ℕ) → clock ≤ moment → (e : LogItem) → is_waiting clock e ≡ true → was_stable moment (item_settled_at moment e) ≡ true
settled_stable clock moment le e h =
    let a = and_parts (nat_le e.came clock) (is_none e.settled) h in
    let k = leb-true e.came clock a.0 in
    and_from (nat_le e.came moment) (nat_le moment moment) (le-leb e.came moment (omega arith)) (le-leb moment moment (omega arith))

-- before the moment at which it became stable it was pending, as it is now
settled_before : (clock moment before : ℕ) → before < moment → (e : LogItem) → is_waiting clock e ≡ true
    → (was_stable before (item_settled_at moment e) ≡ was_stable before e) × (was_pending before (item_settled_at moment e) ≡ was_pending before e)
settled_before clock moment before lt e h =
    let a = and_parts (nat_le e.came clock) (is_none e.settled) h in
    let same : nat_le moment before ≡ was_by before e.settled = lt-leb moment before lt ∙ sym (none_never e.settled before a.1) in
    (ap (λ b. nat_le e.came before && b) same, ap (λ b. nat_le e.came before && not b) same)

module _ (clock stable : ℕ) (items : List LogItem) (order : IsInOrder clock stable items) where
  -- the stable items are the first ones
  pub stable_now : filter (was_stable clock) items ≡ take stable items
  stable_now =
      ap (filter (was_stable clock)) (sym (take-append-drop stable items))
      ∙ filter-append (was_stable clock) (take stable items) (drop stable items)
      ∙ ap (λ (l : List LogItem). l ++ filter (was_stable clock) (drop stable items)) (filter-all (was_stable clock) (was_stable clock) (λ e h. h) (take stable items) order.first)
      ∙ ap (λ (l : List LogItem). take stable items ++ l) (filter-none (is_waiting clock) (was_stable clock) (waiting_not_stable clock clock) (drop stable items) order.others)
      ∙ append-nil (take stable items)

  -- and the others are pending
  pub pending_now : filter (was_pending clock) items ≡ drop stable items
  pending_now =
      ap (filter (was_pending clock)) (sym (take-append-drop stable items))
      ∙ filter-append (was_pending clock) (take stable items) (drop stable items)
      ∙ ap (λ (l : List LogItem). l ++ filter (was_pending clock) (drop stable items)) (filter-none (was_stable clock) (was_pending clock) (stable_not_pending clock) (take stable items) order.first)
      ∙ filter-all (is_waiting clock) (was_pending clock) (waiting_pending clock) (drop stable items) order.others

  pub pending_events : (state_at clock items).pending ≡ map event_of (drop stable items)
  pending_events = ap (map event_of) pending_now

  pub stable_chains : (state_at clock items).stable ≡ chains_after effect_of_entry [] (map event_of (take stable items))
  stable_chains = ap (λ (l : List LogItem). chains_after effect_of_entry [] (map event_of l)) stable_now

-- what the log holds is what all items make
pub now_is : (clock stable : ℕ) (items : List LogItem) → IsInOrder clock stable items → now effect_of_entry (state_at clock items) ≡ chains_after effect_of_entry [] (map event_of items)
now_is clock stable items order =
    ap (λ (l : List Chain). chains_after effect_of_entry l (state_at clock items).pending) (stable_chains clock stable items order)
    ∙ ap (chains_after effect_of_entry (chains_after effect_of_entry [] (map event_of (take stable items)))) (pending_events clock stable items order)
    ∙ sym (chains_after-append effect_of_entry [] (map event_of (take stable items)) (map event_of (drop stable items)))
    ∙ ap (chains_after effect_of_entry []) (sym (map-append event_of (take stable items) (drop stable items)))
    ∙ ap (λ (l : List LogItem). chains_after effect_of_entry [] (map event_of l)) (take-append-drop stable items)

LogState-same : (s t : List Chain) (p q : List (Event Entry)) → s ≡ t → p ≡ q → (let a : LogState Entry = record { stable = s; pending = p; usable = true } in let b : LogState Entry = record { stable = t; pending = q; usable = true } in a ≡ b)
LogState-same s t p q e f =
    let one : List Chain → LogState Entry = λ l. record { stable = l; pending = p; usable = true } in
    let two : List (Event Entry) → LogState Entry = λ l. record { stable = t; pending = l; usable = true } in
    ap one e ∙ ap two f

filter-last : (q : LogItem → Bool) (xs : List LogItem) (e : LogItem) → q e ≡ false → filter q (xs ++ e ∷ []) ≡ filter q xs
filter-last q xs e h =
    filter-append q xs (e ∷ []) ∙ ap (λ b. filter q xs ++ cond b (e ∷ []) []) h ∙ append-nil (filter q xs)

-- a new entry changes nothing of what was before it
pub state_at-push : (moment : ℕ) (items : List LogItem) (e : LogItem) → moment < e.came → state_at moment (items ++ e ∷ []) ≡ state_at moment items
state_at-push moment items e lt =
    let late : nat_le e.came moment ≡ false = lt-leb e.came moment lt in
    LogState-same _ _ _ _
    (ap (λ (l : List LogItem). chains_after effect_of_entry [] (map event_of l)) (filter-last (was_stable moment) items e (and_left (nat_le e.came moment) (was_by moment e.settled) late)))
    (ap (map event_of) (filter-last (was_pending moment) items e (and_left (nat_le e.came moment) (not (was_by moment e.settled)) late)))

module _ (clock later stable : ℕ) (items : List LogItem) (le : clock ≤ later) (order : IsInOrder clock stable items) where
  pub order-push : (e : LogItem) → is_waiting later e ≡ true → IsInOrder later stable (items ++ e ∷ [])
  order-push e waits =
      let w = order.within in
      record {
        within = omega (arith, length-append items (e ∷ []));
        first = ap (list_all (was_stable later)) (take-append-le stable items (e ∷ []) w) ∙ list_all-weaker (was_stable clock) (was_stable later) (was_stable-later clock later le) (take stable items) order.first;
        others =
            ap (list_all (is_waiting later)) (drop-append-le stable items (e ∷ []) w)
            ∙ list_all-append (is_waiting later) (drop stable items) (e ∷ [])
            ∙ and_from (list_all (is_waiting later) (drop stable items)) (is_waiting later e && true)
            (list_all-weaker (is_waiting clock) (is_waiting later) (waiting-later clock later le) (drop stable items) order.others)
            (and_from (is_waiting later e) true waits refl);
      }

  -- what was stable is
  pub stable-push : (e : LogItem) → is_waiting later e ≡ true → (state_at later (items ++ e ∷ [])).stable ≡ (state_at clock items).stable
  stable-push e waits =
      let w = order.within in
      stable_chains later stable (items ++ e ∷ []) (order-push e waits) ∙ ap (λ (l : List LogItem). chains_after effect_of_entry [] (map event_of l)) (take-append-le stable items (e ∷ []) w) ∙ sym (stable_chains clock stable items order)

  -- and the new event stands behind the others
  pub pending-push : (e : LogItem) → is_waiting later e ≡ true → (state_at later (items ++ e ∷ [])).pending ≡ (state_at clock items).pending ++ event_of e ∷ []
  pending-push e waits =
      let w = order.within in
      pending_events later stable (items ++ e ∷ []) (order-push e waits)
      ∙ ap (map event_of) (drop-append-le stable items (e ∷ []) w)
      ∙ map-append event_of (drop stable items) (e ∷ [])
      ∙ ap (λ (l : List (Event Entry)). l ++ event_of e ∷ []) (sym (pending_events clock stable items order))

map-settled : (moment : ℕ) (xs : List LogItem) → map event_of (map (item_settled_at moment) xs) ≡ map event_of xs
map-settled moment xs = map-map_same event_of (item_settled_at moment) (λ x. refl) xs

list_all-settled : (clock moment : ℕ) → clock ≤ moment → (xs : List LogItem) → list_all (is_waiting clock) xs ≡ true → list_all (was_stable moment) (map (item_settled_at moment) xs) ≡ true
list_all-settled clock moment le [] all = refl
list_all-settled clock moment le (x ∷ xs) all =
    let a = and_parts (is_waiting clock x) (list_all (is_waiting clock) xs) all in
    and_from (was_stable moment (item_settled_at moment x)) (list_all (was_stable moment) (map (item_settled_at moment) xs)) (settled_stable clock moment le x a.0) (list_all-settled clock moment le xs a.1)

-- an item becomes stable at that moment, if it isn't
abbrev pub or_settled : ℕ → Option ℕ → Option ℕ
or_settled moment None = Some moment
or_settled moment (Some at) = Some at

abbrev made : LogItem → Option ℕ → LogItem
made item settled = record { mark = item.mark; end = item.end; came = item.came; settled = settled }

abbrev pub settled_by : ℕ → LogItem → LogItem
settled_by moment item = made item (or_settled moment item.settled)

-- so do those that were pending
pub all-settled : (moment clock stable : ℕ) (items : List LogItem) → IsInOrder clock stable items → map (settled_by moment) items ≡ items_settled_at moment stable items
all-settled moment clock stable items order =
    ap (map (settled_by moment)) (sym (take-append-drop stable items))
    ∙ map-append (settled_by moment) (take stable items) (drop stable items)
    ∙ ap (λ (l : List LogItem). l ++ map (settled_by moment) (drop stable items)) (stay (take stable items) order.first)
    ∙ ap (λ (l : List LogItem). take stable items ++ l) (settle (drop stable items) order.others)
  where
    was : (o : Option ℕ) → was_by clock o ≡ true → or_settled moment o ≡ o
    was None h = absurd (false≢true h)
    was (Some at) h = refl

    waits : (o : Option ℕ) → is_none o ≡ true → or_settled moment o ≡ Some moment
    waits None h = refl
    waits (Some at) h = absurd (false≢true h)

    stay : (xs : List LogItem) → list_all (was_stable clock) xs ≡ true → map (settled_by moment) xs ≡ xs
    stay [] all = refl
    stay (x ∷ xs) all =
        let a = and_parts (was_stable clock x) (list_all (was_stable clock) xs) all in
        let b = and_parts (nat_le x.came clock) (was_by clock x.settled) a.0 in
        ap (λ (o : Option ℕ). made x o ∷ map (settled_by moment) xs) (was x.settled b.1) ∙ ap (λ (l : List LogItem). x ∷ l) (stay xs a.1)

    settle : (xs : List LogItem) → list_all (is_waiting clock) xs ≡ true → map (settled_by moment) xs ≡ map (item_settled_at moment) xs
    settle [] all = refl
    settle (x ∷ xs) all =
        let a = and_parts (is_waiting clock x) (list_all (is_waiting clock) xs) all in
        let b = and_parts (nat_le x.came clock) (is_none x.settled) a.0 in
        ap (λ (o : Option ℕ). made x o ∷ map (settled_by moment) xs) (waits x.settled b.1) ∙ ap (λ (l : List LogItem). item_settled_at moment x ∷ l) (settle xs a.1)

pub length-all_settled : (moment stable : ℕ) (items : List LogItem) → length (items_settled_at moment stable items) ≡ length items
length-all_settled moment stable items =
    length-append (take stable items) (map (item_settled_at moment) (drop stable items))
    ∙ ap (λ n. length (take stable items) + n) (length-map (drop stable items) (item_settled_at moment))
    ∙ sym (length-append (take stable items) (drop stable items))
    ∙ ap length (take-append-drop stable items)

module _ (clock later stable : ℕ) (items : List LogItem) (lt : clock < later) (order : IsInOrder clock stable items) where
  pub order-settled : IsInOrder later (length items) (items_settled_at later stable items)
  order-settled = record {
    within = let e = length-all_settled later stable items in omega arith;
    first =
        ap (list_all (was_stable later)) (take_all (length items) (items_settled_at later stable items) (let e = length-all_settled later stable items in omega arith))
        ∙ list_all-append (was_stable later) (take stable items) (map (item_settled_at later) (drop stable items))
        ∙ and_from (list_all (was_stable later) (take stable items)) (list_all (was_stable later) (map (item_settled_at later) (drop stable items)))
        (list_all-weaker (was_stable clock) (was_stable later) (was_stable-later clock later (omega arith)) (take stable items) order.first)
        (list_all-settled clock later (omega arith) (drop stable items) order.others);
    others = ap (list_all (is_waiting later)) (drop_all (length items) (items_settled_at later stable items) (let e = length-all_settled later stable items in omega arith));
  }

  -- the log was what it was
  pub state_at-settled : (moment : ℕ) → moment ≤ clock → state_at moment (items_settled_at later stable items) ≡ state_at moment items
  state_at-settled moment le = LogState-same _ _ _ _ (ap (chains_after effect_of_entry []) (same (was_stable moment) (λ x h. (settled_before clock later moment (omega arith) x h).0))) (same (was_pending moment) (λ x h. (settled_before clock later moment (omega arith) x h).1))
    where
      same : (q : LogItem → Bool) → ((x : LogItem) → is_waiting clock x ≡ true → q (item_settled_at later x) ≡ q x) → map event_of (filter q (items_settled_at later stable items)) ≡ map event_of (filter q items)
      same q h =
          ap (map event_of) (filter-append q (take stable items) (map (item_settled_at later) (drop stable items)))
          ∙ map-append event_of (filter q (take stable items)) (filter q (map (item_settled_at later) (drop stable items)))
          ∙ ap (λ (l : List (Event Entry)). map event_of (filter q (take stable items)) ++ l) (filter-map_same (is_waiting clock) event_of (item_settled_at later) q q h (λ x. refl) (drop stable items) order.others)
          ∙ sym (map-append event_of (filter q (take stable items)) (filter q (drop stable items)))
          ∙ ap (map event_of) (sym (filter-append q (take stable items) (drop stable items)))
          ∙ ap (λ (l : List LogItem). map event_of (filter q l)) (take-append-drop stable items)

  pub pending-settled : (state_at later (items_settled_at later stable items)).pending ≡ []
  pending-settled =
      pending_events later (length items) (items_settled_at later stable items) order-settled
      ∙ ap (map event_of) (drop_all (length items) (items_settled_at later stable items) (let e = length-all_settled later stable items in omega arith))

  pub adds-settled : is_open (map event_of (drop stable items)) ≡ false → Adds effect_of_entry (state_at clock items) [] (state_at later (items_settled_at later stable items))
  adds-settled closed =
      let old = state_at clock items in
      let events : List (Event Entry) = old.pending ++ [] in
      let is : events ≡ map event_of (drop stable items) = append-nil old.pending ∙ pending_events clock stable items order in
      record {
        cut = length events;
        fair = record { within = omega arith; no_part = λ o. absurd (false≢true (sym closed ∙ ap is_open (sym is) ∙ ap is_open (sym (take_all (length events) events (omega arith))) ∙ o)) };
        stable =
            stable_chains later (length items) (items_settled_at later stable items) order-settled
            ∙ ap (λ (l : List LogItem). chains_after effect_of_entry [] (map event_of l)) (take_all (length items) (items_settled_at later stable items) (let e = length-all_settled later stable items in omega arith))
            ∙ ap (chains_after effect_of_entry []) (map-append event_of (take stable items) (map (item_settled_at later) (drop stable items)) ∙ ap (λ (l : List (Event Entry)). map event_of (take stable items) ++ l) (map-settled later (drop stable items)))
            ∙ chains_after-append effect_of_entry [] (map event_of (take stable items)) (map event_of (drop stable items))
            ∙ ap (λ (l : List Chain). chains_after effect_of_entry l (map event_of (drop stable items))) (sym (stable_chains clock stable items order))
            ∙ ap (chains_after effect_of_entry old.stable) (sym is ∙ sym (take_all (length events) events (omega arith)));
        pending = pending-settled ∙ sym (drop_all (length events) events (omega arith));
      }

log_size-settled : (moment : ℕ) (xs : List LogItem) → log_size (map (item_settled_at moment) xs) ≡ log_size xs
log_size-settled moment xs =
    let size : LogItem → ℕ = λ item. size_of_mark item.mark in
    sym (sum-map size (map (item_settled_at moment) xs)) ∙ ap sum (map-map_same size (item_settled_at moment) (λ x. refl) xs) ∙ sum-map size xs

pub log_size-all_settled : (moment stable : ℕ) (items : List LogItem) → log_size (items_settled_at moment stable items) ≡ log_size items
log_size-all_settled moment stable items =
    sum_by-append (λ (item : LogItem). size_of_mark item.mark) (take stable items) (map (item_settled_at moment) (drop stable items))
    ∙ ap (λ n. log_size (take stable items) + n) (log_size-settled moment (drop stable items))
    ∙ sum_by-take-drop (λ (item : LogItem). size_of_mark item.mark) items stable

list_all-restarted : (xs : List LogItem) → list_all (was_stable 0) (map item_after_restart xs) ≡ true
list_all-restarted [] = refl
list_all-restarted (x ∷ xs) = list_all-restarted xs

pub size-restarted : (items : List LogItem) → log_size (map item_after_restart items) ≡ log_size items
size-restarted items =
    let size : LogItem → ℕ = λ item. size_of_mark item.mark in
    sym (sum-map size (map item_after_restart items)) ∙ ap sum (map-map_same size item_after_restart (λ x. refl) items) ∙ sum-map size items

pub log_size-restarted : (count : ℕ) (items : List LogItem) → log_size (map item_after_restart (take count items)) ≤ log_size items
log_size-restarted count items =
    let size : LogItem → ℕ = λ item. size_of_mark item.mark in
    let same = size-restarted (take count items) in
    let parts : log_size (take count items) + log_size (drop count items) ≡ log_size items = sum_by-take-drop size items count in
    omega arith

pub order-restarted : (xs : List LogItem) → IsInOrder 0 (length (map item_after_restart xs)) (map item_after_restart xs)
order-restarted xs =
    let kept = map item_after_restart xs in
    record {
      within = omega arith;
      first = ap (list_all (was_stable 0)) (take_all (length kept) kept (omega arith)) ∙ list_all-restarted xs;
      others = ap (list_all (is_waiting 0)) (drop_all (length kept) kept (omega arith));
    }

pub pending-restarted : (xs : List LogItem) → (state_at 0 (map item_after_restart xs)).pending ≡ []
pending-restarted xs =
    let kept = map item_after_restart xs in
    pending_events 0 (length kept) kept (order-restarted xs) ∙ ap (map event_of) (drop_all (length kept) kept (omega arith))

-- a crash keeps what was durable and the first of the pending events
pub stable-restarted : (clock stable n : ℕ) (items : List LogItem) → IsInOrder clock stable items
    → (state_at 0 (map item_after_restart (take (stable + n) items))).stable ≡ chains_after effect_of_entry (state_at clock items).stable (take n (state_at clock items).pending)
stable-restarted clock stable n items order =
    let kept = map item_after_restart (take (stable + n) items) in
    stable_chains 0 (length kept) kept (order-restarted (take (stable + n) items))
    ∙ ap (λ (l : List LogItem). chains_after effect_of_entry [] (map event_of l)) (take_all (length kept) kept (omega arith))
    ∙ ap (chains_after effect_of_entry []) (map-map_same event_of item_after_restart (λ x. refl) (take (stable + n) items) ∙ ap (map event_of) (take-add stable n items) ∙ map-append event_of (take stable items) (take n (drop stable items)))
    ∙ chains_after-append effect_of_entry [] (map event_of (take stable items)) (map event_of (take n (drop stable items)))
    ∙ ap (λ (l : List Chain). chains_after effect_of_entry l (map event_of (take n (drop stable items)))) (sym (stable_chains clock stable items order))
    ∙ ap (chains_after effect_of_entry (state_at clock items).stable) (sym (take-map event_of n (drop stable items)) ∙ ap (take n) (sym (pending_events clock stable items order)))

-- which is a crash state of this moment
pub left-stopped : (clock n : ℕ) (items : List LogItem) (chains : List Chain)
    → IsFair (state_at clock items).pending n
    → chains ≡ chains_after effect_of_entry (state_at clock items).stable (take n (state_at clock items).pending)
    → WasLeft clock items clock (map messages_of chains)
left-stopped clock n items chains fair is = record {
  at = clock;
  from = omega arith;
  to = omega arith;
  left = IsLeft-seen effect_of_entry effect_of message_in (λ entry. refl) (state_at clock items) [] chains (IsLeft-cut effect_of_entry (state_at clock items) n chains fair is);
}

-- where nothing is pending, and nothing began, a crash leaves what is stable
pub left-stable : (state : LogState Message) (pages : List Messages) → state.pending ≡ [] → IsLeft effect_of state [] pages → pages ≡ state.stable
left-stable state pages none left =
    let after : List (Event Message) → List Messages = λ l. chains_after effect_of state.stable (take left.cut l) in
    left.is ∙ ap after (ap (λ l. l ++ left.came) none ∙ came-none left.came left.beginning.0 left.beginning.1) ∙ ap (chains_after effect_of state.stable) (take_all left.cut [] (omega arith))
  where
    came-none : (came rest : List (Event Message)) → came ++ rest ≡ [] → came ≡ []
    came-none [] rest is = refl
    came-none (x ∷ came) rest is = absurd (let no : x ∷ (came ++ rest) ≡ [] → _ = λ h. cc in no is)
