-- What a shard keeps when a place is put first or taken out.
use Rattle.std.proofs.Common.{inl, inr, ◌≡◌, ◌≢◌, ℕ, ◌+◌, ◌-◌, ◌/◌, ◌%◌, ◌^◌, ◌<◌, ◌≤◌, Bool, Option, Some, None, List, [], ◌∷◌, ◌++◌, length, map, refl, sym, ap, subst, ◌∙◌, arith}
use Rattle.std.specs.Prelude.{Contains, IfSome, slice_set, slice_index_or, not, ◌==◌}
use Rattle.std.specs.List.{AllByRecursion}
use Rattle.std.proofs.lemmas.Bool.{cases_lt, cases_eq, eq-eqb, ne_eqb}
use Rattle.std.proofs.lemmas.List.{get_or-set_same, get_or-set_other, get_or_past, length-set, map-append, append-nil, get_or_read}
use Rattle.std.proofs.lemmas.List.Elements.{All-contains, All-from_recursion, Contains-append_left, Contains-append_right, Contains-append_cases}
use Rattle.std.proofs.lemmas.Option.{same_Some}
use Rattle.std.proofs.lemmas.List.Sums.{sum_by-append, sum_by-cons}
use Rattle.sled_base.specs.Containing.{contains_first, contains_later, contains_cases, contains_mid, contains-map, mapped_from, split_at, filter-cons_kept, filter-cons_left_out}
use Rattle.sled_base.specs.Dll.{Listed, listed, slots, AreDistinct}
use Rattle.sled_base.specs.Lru.{Listing, listing, total, others}
use Rattle.sled_base.specs.Shards.{item_of, place_in, size_in, entry_at, listings_of, HasSlot, StandsAt, IsIndexed, PutsFirst}
use Rattle.sled_base.specs.declared.dll.Slot.{Slot}

abbrev pub Entries : Type 0
Entries = List (Option Slot)

-- what an item of the list says
abbrev pub listing_in : Listed → Listing
listing_in x = listing (place_in x.item) (size_in x.item)

-- a place and an exponent are found again
pub listing_packed : (item place exponent : ℕ) → item ≡ item_of place exponent → exponent < 64 → listing (place_in item) (size_in item) ≡ listing place (2 ^ exponent)
listing_packed item place exponent is below =
    let same : item / 64 ≡ place = omega (arith, is) in
    let rest : item % 64 ≡ exponent = omega (arith, is) in
    ap (λ p. listing p (size_in item)) same ∙ ap (λ e. listing place (2 ^ e)) rest

abbrev pub places : List Listed → List ℕ
places list = map (λ (x : Listed). place_in x.item) list

abbrev pub is_other : ℕ → Listing → Bool
is_other place l = not (l.place == place)

pub total-append : (front back : List Listing) → total (front ++ back) ≡ total front + total back
total-append front back = sum_by-append (λ (l : Listing). l.size) front back

pub total-cons : (l : Listing) (shard : List Listing) → total (l ∷ shard) ≡ l.size + total shard
total-cons l shard = sum_by-cons (λ (l : Listing). l.size) l shard

-- ---- entries

pub within_entries : (entries : Entries) (place : ℕ) (slot : Slot) → entry_at entries place ≡ Some slot → place < length entries
within_entries entries place slot is = elim (cases_lt place (length entries)) [ inl lt ↦ lt | inr le ↦ absurd (let none = get_or_past entries place None le in cc) ]

named_at : (entries : Entries) (list : List Listed) (x : Listed) → AllByRecursion (HasSlot entries) list → Contains list x → HasSlot entries x
named_at entries list x named there = All-contains (HasSlot entries) list x (All-from_recursion (HasSlot entries) list named) there

-- one place has one slot
one_slot : (entries : Entries) (x y : Listed) → HasSlot entries x → HasSlot entries y → place_in y.item ≡ place_in x.item → y.slot ≡ x.slot
one_slot entries x y of_x of_y same = same_Some y.slot x.slot (sym of_y ∙ ap (entry_at entries) same ∙ of_x)

-- a place without an entry isn't listed
not_listed : (entries : Entries) (list : List Listed) (place : ℕ) → AllByRecursion (HasSlot entries) list → entry_at entries place ≡ None → ¬ Contains (places list) place
not_listed entries list place named none h =
    let m = mapped_from (λ (x : Listed). place_in x.item) list place h in
    let has : entry_at entries (place_in m.from.item) ≡ Some m.from.slot = named_at entries list m.from named m.there in
    let at : entry_at entries (place_in m.from.item) ≡ None = ap (entry_at entries) m.is ∙ none in
    cc

other_first : (place : ℕ) (x : Listed) (list : List Listed) → ¬ Contains (places (x ∷ list)) place → place_in x.item ≢ place
other_first place x list lacks same = lacks (subst (λ q. Contains (places (x ∷ list)) q) same (contains_first (place_in x.item) (places list)))

other_rest : (place : ℕ) (x : Listed) (list : List Listed) → ¬ Contains (places (x ∷ list)) place → ¬ Contains (places list) place
other_rest place x list lacks h = lacks (contains_later (place_in x.item) (places list) place h)

-- another entry changes nothing of the others
frame-named : (entries : Entries) (place : ℕ) (entry : Option Slot) (list : List Listed) → ¬ Contains (places list) place → AllByRecursion (HasSlot entries) list → AllByRecursion (HasSlot (slice_set entries place entry)) list
frame-named entries place entry [] lacks named = tt
frame-named entries place entry (x ∷ list) lacks named =
    (get_or-set_other entries place (place_in x.item) entry None (other_first place x list lacks) ∙ named.0, frame-named entries place entry list (other_rest place x list lacks) named.1)

-- ---- the others of a place

others-none : (place : ℕ) (list : List Listed) → ¬ Contains (places list) place → others place (listings_of list) ≡ listings_of list
others-none place [] lacks = refl
others-none place (x ∷ list) lacks =
    filter-cons_kept (is_other place) (listing_in x) (listings_of list) (ap not (ne_eqb (place_in x.item) place (other_first place x list lacks)))
    ∙ ap (λ ls. listing_in x ∷ ls) (others-none place list (other_rest place x list lacks))

others-mid : (x : Listed) (before after : List Listed) → ¬ Contains (places (before ++ after)) (place_in x.item) → others (place_in x.item) (listings_of (before ++ x ∷ after)) ≡ listings_of (before ++ after)
others-mid x [] after lacks =
    filter-cons_left_out (is_other (place_in x.item)) (listing_in x) (listings_of after) (ap not (eq-eqb (place_in x.item) (place_in x.item) refl))
    ∙ others-none (place_in x.item) after lacks
others-mid x (y ∷ before) after lacks =
    filter-cons_kept (is_other (place_in x.item)) (listing_in y) (listings_of (before ++ x ∷ after)) (ap not (ne_eqb (place_in y.item) (place_in x.item) (other_first (place_in x.item) y (before ++ after) lacks)))
    ∙ ap (λ ls. listing_in y ∷ ls) (others-mid x before after (other_rest (place_in x.item) y (before ++ after) lacks))

total-mid : (x : Listed) (before after : List Listed) → total (listings_of (before ++ x ∷ after)) ≡ total (listings_of (before ++ after)) + size_in x.item
total-mid x before after =
    let a = ap total (map-append listing_in before (x ∷ after)) ∙ total-append (map listing_in before) (map listing_in (x ∷ after)) in
    let b = ap total (map-append listing_in before after) ∙ total-append (map listing_in before) (map listing_in after) in
    let d = total-cons (listing_in x) (map listing_in after) in
    omega (arith, a, b, d)

-- ---- the rest of a list without a place

-- The rest of the list is what is listed but the place. The slot is free there.
pub record IsRest (entries : Entries) (place : ℕ) (slot : Slot) (list rest : List Listed) : Type 0 where
  pub lacks : ¬ Contains (places rest) place
  pub fresh : ¬ Contains (slots rest) slot
  pub named : AllByRecursion (HasSlot entries) rest
  pub distinct : AreDistinct (slots rest)
  pub others_are : others place (listings_of list) ≡ listings_of rest
  pub others_stay : (x : Listed) → place_in x.item ≢ place → Contains list x → Contains rest x

module _ {X : Type 0} (x : X) (after : List X) where
  named-rest : (P : X → Type 0) (before : List X) → AllByRecursion P (before ++ x ∷ after) → P x × AllByRecursion P (before ++ after)
  named-rest P [] named = named
  named-rest P (y ∷ before) named = let rest = named-rest P before named.1 in (rest.0, (named.0, rest.1))

  rest_within : (before : List X) (y : X) → Contains (before ++ after) y → Contains (before ++ x ∷ after) y
  rest_within before y h =
      elim (Contains-append_cases before after y h) [ inl front ↦ Contains-append_left before (x ∷ after) y front | inr back ↦ Contains-append_right before (x ∷ after) y (contains_later x after y back) ]

  in_rest : (before : List X) (y : X) → x ≢ y → Contains (before ++ x ∷ after) y → Contains (before ++ after) y
  in_rest before y other h =
      elim (Contains-append_cases before (x ∷ after) y h) [
        | inl front ↦ Contains-append_left before after y front
        | inr back ↦ elim (contains_cases x after y back) [ inl same ↦ absurd (other same) | inr later ↦ Contains-append_right before after y later ]
      ]

distinct-rest : (x : Listed) (before after : List Listed) → AreDistinct (slots (before ++ x ∷ after)) → (¬ Contains (slots (before ++ after)) x.slot) × AreDistinct (slots (before ++ after))
distinct-rest x [] after distinct = distinct
distinct-rest x (y ∷ before) after distinct =
    let rest = distinct-rest x before after distinct.1 in
    let slot_of : Listed → Slot = λ z. z.slot in
    let away : y.slot ≢ x.slot = λ same. distinct.0 (subst (λ s. Contains (slots (before ++ x ∷ after)) s) (sym same) (contains-map slot_of (before ++ x ∷ after) x (contains_mid before x after))) in
    let apart : ¬ Contains (slots (before ++ after)) y.slot = λ h. (let m = mapped_from slot_of (before ++ after) y.slot h in distinct.0 (subst (λ s. Contains (slots (before ++ x ∷ after)) s) m.is (contains-map slot_of (before ++ x ∷ after) m.from (rest_within x after before m.from m.there)))) in
    (λ h. elim (contains_cases y.slot (slots (before ++ after)) x.slot h) [ inl same ↦ away same | inr later ↦ rest.0 later ], (apart, rest.1))

rest_of_parts : (entries : Entries) (x : Listed) (before after : List Listed) → AllByRecursion (HasSlot entries) (before ++ x ∷ after) → AreDistinct (slots (before ++ x ∷ after)) → IsRest entries (place_in x.item) x.slot (before ++ x ∷ after) (before ++ after)
rest_of_parts entries x before after named distinct =
    let parts = named-rest x after (HasSlot entries) before named in
    let free = distinct-rest x before after distinct in
    let lacks : ¬ Contains (places (before ++ after)) (place_in x.item) = λ h. (
    let m = mapped_from (λ (y : Listed). place_in y.item) (before ++ after) (place_in x.item) h in
    let same = one_slot entries x m.from parts.0 (named_at entries (before ++ after) m.from parts.1 m.there) m.is in
    free.0 (subst (λ s. Contains (slots (before ++ after)) s) same (contains-map (λ (y : Listed). y.slot) (before ++ after) m.from m.there))) in
    record {
      lacks = lacks;
      fresh = free.0;
      named = parts.1;
      distinct = free.1;
      others_are = others-mid x before after lacks;
      others_stay = λ y differs h. in_rest x after before y (λ same. differs (sym (ap (λ (z : Listed). place_in z.item) same))) h;
    }

-- where the place was listed
pub rest_of_split : (entries : Entries) (list : List Listed) (sum : ℕ) (x : Listed) (before after : List Listed) → IsIndexed entries list sum → list ≡ before ++ x ∷ after → IsRest entries (place_in x.item) x.slot list (before ++ after)
rest_of_split entries list sum x before after kept is =
    subst (λ xs. IsRest entries (place_in x.item) x.slot xs (before ++ after)) (sym is)
    (rest_of_parts entries x before after (subst (AllByRecursion (HasSlot entries)) is kept.named) (subst (λ xs. AreDistinct (slots xs)) is kept.distinct))

-- where it was not
pub rest_of_none : (entries : Entries) (list : List Listed) (sum place : ℕ) (slot : Slot) → IsIndexed entries list sum → entry_at entries place ≡ None → ¬ Contains (slots list) slot → IsRest entries place slot list list
rest_of_none entries list sum place slot kept none fresh =
    let lacks = not_listed entries list place kept.named none in
    record { lacks = lacks; fresh = fresh; named = kept.named; distinct = kept.distinct; others_are = others-none place list lacks; others_stay = λ x differs h. h }

-- a place that isn't listed takes nothing
pub total-unlisted : (entries : Entries) (list : List Listed) (sum place : ℕ) → IsIndexed entries list sum → entry_at entries place ≡ None → total (others place (listings_of list)) ≡ total (listings_of list)
total-unlisted entries list sum place kept none = ap total (others-none place list (not_listed entries list place kept.named none))

-- the others and the place take all together
pub total-listed : (entries : Entries) (list : List Listed) (sum place : ℕ) (slot : Slot) (item : ℕ) → IsIndexed entries list sum → entry_at entries place ≡ Some slot → ((front back : List Listed) (x : ℕ) → list ≡ front ++ listed slot x ∷ back → item ≡ x) → total (others place (listings_of list)) + size_in item ≡ total (listings_of list)
total-listed entries list sum place slot item kept entry item_is =
    let stands = kept.there place slot entry in
    let x = listed slot stands.item in
    let s = split_at list x stands.there in
    let rest = rest_of_split entries list sum x s.front s.back kept s.is in
    let same = item_is s.front s.back stands.item s.is in
    let of_place : total (others (place_in stands.item) (listings_of list)) ≡ total (others place (listings_of list)) = ap (λ p. total (others p (listings_of list))) stands.is in
    omega (arith, of_place, ap total rest.others_are, ap (λ xs. total (listings_of xs)) s.is, total-mid x s.front s.back, ap size_in same)

-- a place that is listed has an entry
pub record HasEntry (entries : Entries) (place : ℕ) : Type 0 where
  pub slot : Slot
  pub is : entry_at entries place ≡ Some slot

pub listed_entry : (entries : Entries) (list : List Listed) (sum place size : ℕ) → IsIndexed entries list sum → Contains (listings_of list) (listing place size) → HasEntry entries place
listed_entry entries list sum place size kept there =
    let m = mapped_from listing_in list (listing place size) there in
    let same : place_in m.from.item ≡ place = ap (λ (l : Listing). l.place) m.is in
    record { slot = m.from.slot; is = ap (entry_at entries) (sym same) ∙ named_at entries list m.from kept.named m.there }

-- what was read at a place
pub entry_read : (entries : Entries) (place : ℕ) (found : Option Slot) → place < length entries → found ≡ slice_index_or entries place found → entry_at entries place ≡ found
entry_read entries place found within is = sym (get_or_read entries place found within is None)

pub slot_there : (entries : Entries) (list : List Listed) (sum place : ℕ) (slot : Slot) → IsIndexed entries list sum → entry_at entries place ≡ Some slot → Contains (slots list) slot
slot_there entries list sum place slot kept is =
    let stands = kept.there place slot is in
    contains-map (λ (x : Listed). x.slot) list (listed slot stands.item) stands.there

pub found_there : (entries : Entries) (list : List Listed) (sum place : ℕ) (found : Option Slot) → IsIndexed entries list sum → entry_at entries place ≡ found → IfSome found (Contains (slots list))
found_there entries list sum place None kept is = tt
found_there entries list sum place (Some slot) kept is = slot_there entries list sum place slot kept is

-- ---- changes

-- The item is put first: the rest is what it was.
pub record PutsBefore (entries : Entries) (item : ℕ) (slot : Slot) (list new : List Listed) : Type 0 where
  pub rest : List Listed
  pub is : new ≡ listed slot item ∷ rest
  pub rest_is : IsRest entries (place_in item) slot list rest

one_item : (list : List Listed) (slot : Slot) (a b : ℕ) → AreDistinct (slots list) → Contains list (listed slot a) → Contains list (listed slot b) → a ≡ b
one_item list slot a b distinct of_a of_b =
    let s = split_at list (listed slot a) of_a in
    let free = distinct-rest (listed slot a) s.front s.back (subst (λ xs. AreDistinct (slots xs)) s.is distinct) in
    elim (cases_eq a b) [
      | inl same ↦ same
      | inr differ ↦ absurd (free.0 (contains-map (λ (y : Listed). y.slot) (s.front ++ s.back) (listed slot b) (in_rest (listed slot a) s.back s.front (listed slot b) (λ same. differ (ap (λ (y : Listed). y.item) same)) (subst (λ xs. Contains xs (listed slot b)) s.is of_b))))
    ]

of_entry : (entries : Entries) (list new : List Listed) (sum item : ℕ) (slot : Slot) (found : Option Slot) → IsIndexed entries list sum → entry_at entries (place_in item) ≡ found → PutsFirst slot item found list new → PutsBefore entries item slot list new
of_entry entries list new sum item slot None kept is puts =
    record { rest = list; is = puts.1; rest_is = rest_of_none entries list sum (place_in item) slot kept is puts.0 }
of_entry entries list new sum item slot (Some named) kept is puts =
    let renewed = puts.1 in
    let stands = kept.there (place_in item) slot (is ∙ ap Some (sym puts.0)) in
    let was = listed slot renewed.was in
    let here : Contains list was = subst (λ xs. Contains xs was) (sym renewed.is) (contains_mid renewed.before was renewed.after) in
    let same : place_in renewed.was ≡ place_in item = ap place_in (one_item list slot renewed.was stands.item kept.distinct here stands.there) ∙ stands.is in
    record {
      rest = renewed.before ++ renewed.after;
      is = renewed.then;
      rest_is = subst (λ place. IsRest entries place slot list (renewed.before ++ renewed.after)) same (rest_of_split entries list sum was renewed.before renewed.after kept renewed.is);
    }

pub puts_before : (entries : Entries) (list new : List Listed) (sum item : ℕ) (slot : Slot) → IsIndexed entries list sum → PutsFirst slot item (entry_at entries (place_in item)) list new → PutsBefore entries item slot list new
puts_before entries list new sum item slot kept puts = of_entry entries list new sum item slot (entry_at entries (place_in item)) kept refl puts

-- what is kept after it
pub record IsPut (entries : Entries) (item : ℕ) (old : List Listing) (new : List Listed) (sum : ℕ) : Type 0 where
  pub kept : IsIndexed entries new sum
  pub is : listings_of new ≡ listing (place_in item) (size_in item) ∷ others (place_in item) old

pub kept-put : (entries : Entries) (list new : List Listed) (sum item more : ℕ) (slot : Slot) → IsIndexed entries list sum → place_in item < length entries → more ≡ size_in item + total (others (place_in item) (listings_of list)) → PutsBefore entries item slot list new → IsPut (slice_set entries (place_in item) (Some slot)) item (listings_of list) new more
kept-put entries list new sum item more slot kept within more_is puts =
    let rest = puts.rest in
    let place = place_in item in
    let written : Entries = slice_set entries place (Some slot) in
    let here : entry_at written place ≡ Some slot = get_or-set_same entries place (Some slot) None within in
    let listings : listings_of new ≡ listing place (size_in item) ∷ others place (listings_of list) = ap listings_of puts.is ∙ ap (λ ls. listing place (size_in item) ∷ ls) (sym puts.rest_is.others_are) in
    let there : (q : ℕ) (s : Slot) → entry_at written q ≡ Some s → StandsAt q s (listed slot item ∷ rest) = λ q s at. elim (cases_eq q place) [
      | inl same ↦ (let is : slot ≡ s = same_Some slot s (sym here ∙ ap (entry_at written) (sym same) ∙ at) in
          record { item = item; there = subst (λ t. Contains (listed slot item ∷ rest) (listed t item)) is (contains_first (listed slot item) rest); is = sym same })
      | inr differs ↦ (let stands = kept.there q s (sym (get_or-set_other entries place q (Some slot) None differs) ∙ at) in
          record { item = stands.item; there = contains_later (listed slot item) rest (listed s stands.item) (puts.rest_is.others_stay (listed s stands.item) (λ same. differs (sym stands.is ∙ same)) stands.there); is = stands.is })
    ] in
    record {
      kept = record {
        named = subst (AllByRecursion (HasSlot written)) (sym puts.is) (here, frame-named entries place (Some slot) rest puts.rest_is.lacks puts.rest_is.named);
        there = subst (λ xs. (q : ℕ) (s : Slot) → entry_at written q ≡ Some s → StandsAt q s xs) (sym puts.is) there;
        distinct = subst (λ xs. AreDistinct (slots xs)) (sym puts.is) (puts.rest_is.fresh, puts.rest_is.distinct);
        sum_is = omega (arith, more_is, ap total listings, total-cons (listing place (size_in item)) (others place (listings_of list)));
        few = omega (arith, kept.few, length-set entries place (Some slot));
      };
      is = listings;
    }

-- The last item is taken out.
pub record IsTaken (entries : Entries) (item : ℕ) (list new : List Listed) (sum : ℕ) : Type 0 where
  pub within : place_in item < length entries
  pub part : size_in item ≤ sum
  pub kept : IsIndexed (slice_set entries (place_in item) None) new (sum - size_in item)
  pub is : listings_of list ≡ listings_of new ++ listing (place_in item) (size_in item) ∷ []

pub kept-taken : (entries : Entries) (list new : List Listed) (sum item : ℕ) (slot : Slot) → IsIndexed entries list sum → list ≡ new ++ listed slot item ∷ [] → IsTaken entries item list new sum
kept-taken entries list new sum item slot kept is =
    let x = listed slot item in
    let place = place_in item in
    let rest : IsRest entries place slot list new = subst (IsRest entries place slot list) (append-nil new) (rest_of_split entries list sum x new [] kept is) in
    let within = within_entries entries place slot (named_at entries list x kept.named (subst (λ xs. Contains xs x) (sym is) (contains_mid new x []))) in
    let written : Entries = slice_set entries place None in
    let here : entry_at written place ≡ None = get_or-set_same entries place None None within in
    let there : (q : ℕ) (s : Slot) → entry_at written q ≡ Some s → StandsAt q s new = λ q s at. elim (cases_eq q place) [
      | inl equal ↦ absurd (let none : entry_at written q ≡ None = ap (entry_at written) equal ∙ here in cc)
      | inr differs ↦ (let stands = kept.there q s (sym (get_or-set_other entries place q None None differs) ∙ at) in
          record { item = stands.item; there = rest.others_stay (listed s stands.item) (λ same. differs (sym stands.is ∙ same)) stands.there; is = stands.is })
    ] in
    let all : listings_of list ≡ listings_of new ++ listing place (size_in item) ∷ [] = ap listings_of is ∙ map-append listing_in new (x ∷ []) in
    let sum_is : sum ≡ total (listings_of new) + size_in item = omega (arith, kept.sum_is, ap total all, total-append (listings_of new) (listing place (size_in item) ∷ []), total-cons (listing place (size_in item)) []) in
    record {
      within = within;
      part = omega (arith, sum_is);
      kept = record {
        named = frame-named entries place None new rest.lacks rest.named;
        there = there;
        distinct = rest.distinct;
        sum_is = omega (arith, sum_is);
        few = omega (arith, kept.few, length-set entries place None);
      };
      is = all;
    }

-- ---- entries that say the same

module _ (old new : Entries) (same : (place : ℕ) → entry_at new place ≡ entry_at old place) where
  same-named : (list : List Listed) → AllByRecursion (HasSlot old) list → AllByRecursion (HasSlot new) list
  same-named [] named = tt
  same-named (x ∷ list) named = (same (place_in x.item) ∙ named.0, same-named list named.1)

  pub same-kept : (list : List Listed) (sum : ℕ) → length new ≤ 2 ^ 56 → IsIndexed old list sum → IsIndexed new list sum
  same-kept list sum few kept = record {
    named = same-named list kept.named;
    there = λ place slot is. kept.there place slot (sym (same place) ∙ is);
    distinct = kept.distinct;
    sum_is = kept.sum_is;
    few = few;
  }
