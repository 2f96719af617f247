-- The walk over a shard from the tail, which counts the places that leave.
use Rattle.std.proofs.Common.{inl, inr, ◌≡◌, ◌≢◌, ℕ, ◌+◌, ◌-◌, ◌<◌, ◌≤◌, Option, Some, None, List, [], ◌∷◌, ◌++◌, length, map, refl, sym, ap, subst, ◌∙◌, arith}
use Rattle.std.specs.Prelude.{Contains, not, ◌⊎◌}
use Rattle.std.proofs.lemmas.Bool.{eq-eqb, ne_eqb}
use Rattle.std.proofs.lemmas.List.{append_assoc, append-nil, length-append, map-append, nil_from_length}
use Rattle.std.proofs.lemmas.List.Elements.{filter-append}
use Rattle.std.proofs.lemmas.Option.{same_Some}
use Rattle.sled_base.specs.Containing.{contains_mid, contains-map, filter-cons_kept, filter-cons_left_out}
use Rattle.sled_base.specs.Dll.{Listed, listed, slots, last_slot_or, last_slot}
use Rattle.sled_base.specs.Lru.{Listing, listing, total, others, IsTooMuch}
use Rattle.sled_base.specs.Shards.{place_in, size_in, listings_of, IsCut}
use Rattle.sled_base.specs.declared.dll.Slot.{Slot}
use Rattle.sled_base.proofs.RecentUse.Keeping.{listing_in, is_other, total-append, total-cons}

-- ---- the last of a list

record IsLast (slot : Slot) (list : List Listed) : Type 0 where
  front : List Listed
  item : ℕ
  is : list ≡ front ++ listed slot item ∷ []

record HasLast (other : Option Slot) (list : List Listed) : Type 0 where
  front : List Listed
  last : Listed
  is : list ≡ front ++ last ∷ []
  slot_is : last_slot_or other list ≡ Some last.slot

has_last : (other : Option Slot) (x : Listed) (list : List Listed) → HasLast other (x ∷ list)
has_last other x [] = record { front = []; last = x; is = refl; slot_is = refl }
has_last other x (y ∷ list) =
    let h = has_last (Some x.slot) y list in
    record { front = x ∷ h.front; last = h.last; is = ap (λ ls. x ∷ ls) h.is; slot_is = h.slot_is }

is_last : (list : List Listed) (slot : Slot) → Some slot ≡ last_slot list → IsLast slot list
is_last [] slot e = absurd cc
is_last (x ∷ list) slot e =
    let h = has_last None x list in
    let same : h.last.slot ≡ slot = same_Some h.last.slot slot (sym h.slot_is ∙ sym e) in
    record { front = h.front; item = h.last.item; is = h.is ∙ ap (λ s. h.front ++ listed s h.last.item ∷ []) same }

none_is_last : (list : List Listed) → last_slot list ≡ None → list ≡ []
none_is_last [] e = refl
none_is_last (x ∷ list) e = let h = has_last None x list in absurd (let s = h.slot_is in cc)

-- ---- the walk

-- After so many steps the walk stands at the last of the front, and what lies behind it is counted.
pub record IsWalked (list : List Listed) (capacity place size sum count steps : ℕ) (last : Option Slot) : Type 0 where
  pub front : List Listed
  pub back : List Listed
  pub all : list ≡ front ++ back
  pub last_is : last ≡ last_slot front
  pub left : length front + steps ≡ length list
  pub sum_is : sum ≡ size + total (others place (listings_of front))
  pub count_is : count ≡ length (others place (listings_of back))
  pub few : count ≤ steps
  pub needed : IsTooMuch capacity (listing place size ∷ others place (listings_of front)) (others place (listings_of back))

module _ (list : List Listed) (capacity place size : ℕ) where
  pub walk_start : (sum : ℕ) (last : Option Slot) → sum ≡ size + total (others place (listings_of list)) → last ≡ last_slot list → IsWalked list capacity place size sum 0 0 last
  walk_start sum last sum_is is = record {
    front = list;
    back = [];
    all = sym (append-nil list);
    last_is = is;
    left = omega arith;
    sum_is = sum_is;
    count_is = refl;
    few = omega arith;
    needed = tt;
  }

  pub walk_some : (sum count steps : ℕ) (last : Option Slot) (slot : Slot) → last ≡ Some slot → IsWalked list capacity place size sum count steps last → IsWalked list capacity place size sum count steps (Some slot)
  walk_some sum count steps last slot is walk = subst (IsWalked list capacity place size sum count steps) is walk

  -- the place at which the walk stands
  pub record IsHere (slot : Slot) (front back : List Listed) : Type 0 where
    pub before : List Listed
    pub item : ℕ
    pub front_is : front ≡ before ++ listed slot item ∷ []
    pub list_is : list ≡ before ++ listed slot item ∷ back

  module _ (sum count steps : ℕ) (slot : Slot) (walk : IsWalked list capacity place size sum count steps (Some slot)) where
    pub walk_here : IsHere slot walk.front walk.back
    walk_here =
        let l = is_last walk.front slot walk.last_is in
        record {
          before = l.front;
          item = l.item;
          front_is = l.is;
          list_is = walk.all ∙ ap (λ front. front ++ walk.back) l.is ∙ append_assoc l.front (listed slot l.item ∷ []) walk.back;
        }

    pub slot_here : Contains (slots list) slot
    slot_here =
        let h = walk_here in
        contains-map (λ (x : Listed). x.slot) list (listed slot h.item) (subst (λ xs. Contains xs (listed slot h.item)) (sym h.list_is) (contains_mid h.before (listed slot h.item) walk.back))

    others_front : others place (listings_of walk.front) ≡ others place (listings_of walk_here.before) ++ others place (listing (place_in walk_here.item) (size_in walk_here.item) ∷ [])
    others_front =
        let h = walk_here in
        ap (λ front. others place (map listing_in front)) h.front_is
        ∙ ap (others place) (map-append listing_in h.before (listed slot h.item ∷ []))
        ∙ filter-append (is_other place) (map listing_in h.before) (listing (place_in h.item) (size_in h.item) ∷ [])

    left_here : length walk_here.before + (steps + 1) ≡ length list
    left_here = let h = walk_here in omega (arith, walk.left, ap length h.front_is, length-append h.before (listed slot h.item ∷ []))

    -- a place that is another's is counted
    front_takes : place_in walk_here.item ≢ place → others place (listings_of walk.front) ≡ others place (listings_of walk_here.before) ++ listing (place_in walk_here.item) (size_in walk_here.item) ∷ []
    front_takes differs =
        let l : Listing = listing (place_in walk_here.item) (size_in walk_here.item) in
        others_front ∙ ap (λ ls. others place (listings_of walk_here.before) ++ ls) (filter-cons_kept (is_other place) l [] (ap not (ne_eqb (place_in walk_here.item) place differs)))

    back_takes : place_in walk_here.item ≢ place → others place (listings_of (listed slot walk_here.item ∷ walk.back)) ≡ listing (place_in walk_here.item) (size_in walk_here.item) ∷ others place (listings_of walk.back)
    back_takes differs = filter-cons_kept (is_other place) (listing (place_in walk_here.item) (size_in walk_here.item)) (listings_of walk.back) (ap not (ne_eqb (place_in walk_here.item) place differs))

    sum_takes : place_in walk_here.item ≢ place → sum ≡ size + (total (others place (listings_of walk_here.before)) + size_in walk_here.item)
    sum_takes differs =
        let l : Listing = listing (place_in walk_here.item) (size_in walk_here.item) in
        omega (arith, walk.sum_is, ap total (front_takes differs), total-append (others place (listings_of walk_here.before)) (l ∷ []), total-cons l [])

    pub part_of_sum : place_in walk_here.item ≢ place → size_in walk_here.item ≤ sum
    part_of_sum differs = omega (arith, sum_takes differs)

    pub walk_takes : capacity < sum → place_in walk_here.item ≢ place → (last : Option Slot) → last ≡ last_slot walk_here.before → IsWalked list capacity place size (sum - size_in walk_here.item) (count + 1) (steps + 1) last
    walk_takes over differs last last_is =
        let h = walk_here in
        let l : Listing = listing (place_in h.item) (size_in h.item) in
        let stays = others place (listings_of h.before) in
        let enough : total ((listing place size ∷ stays) ++ l ∷ []) ≡ size + (total stays + l.size) = (let a = total-cons (listing place size) (stays ++ l ∷ []) in let b = total-append stays (l ∷ []) in let d = total-cons l [] in omega (arith, a, b, d)) in
        record {
          front = h.before;
          back = listed slot h.item ∷ walk.back;
          all = h.list_is;
          last_is = last_is;
          left = left_here;
          sum_is = omega (arith, sum_takes differs);
          count_is = omega (arith, walk.count_is, ap length (back_takes differs));
          few = omega (arith, walk.few);
          needed = subst (IsTooMuch capacity (listing place size ∷ stays)) (sym (back_takes differs)) (omega (arith, over, sum_takes differs, enough));
        }

    -- the place itself is passed over
    front_passes : place_in walk_here.item ≡ place → others place (listings_of walk.front) ≡ others place (listings_of walk_here.before)
    front_passes same =
        let l : Listing = listing (place_in walk_here.item) (size_in walk_here.item) in
        others_front ∙ ap (λ ls. others place (listings_of walk_here.before) ++ ls) (filter-cons_left_out (is_other place) l [] (ap not (eq-eqb (place_in walk_here.item) place same))) ∙ append-nil (others place (listings_of walk_here.before))

    back_passes : place_in walk_here.item ≡ place → others place (listings_of (listed slot walk_here.item ∷ walk.back)) ≡ others place (listings_of walk.back)
    back_passes same = filter-cons_left_out (is_other place) (listing (place_in walk_here.item) (size_in walk_here.item)) (listings_of walk.back) (ap not (eq-eqb (place_in walk_here.item) place same))

    pub walk_passes : place_in walk_here.item ≡ place → (last : Option Slot) → last ≡ last_slot walk_here.before → IsWalked list capacity place size sum count (steps + 1) last
    walk_passes same last last_is =
        let h = walk_here in
        record {
          front = h.before;
          back = listed slot h.item ∷ walk.back;
          all = h.list_is;
          last_is = last_is;
          left = left_here;
          sum_is = walk.sum_is ∙ ap (λ ls. size + total ls) (front_passes same);
          count_is = walk.count_is ∙ ap length (sym (back_passes same));
          few = omega (arith, walk.few);
          needed = subst (IsTooMuch capacity (listing place size ∷ others place (listings_of h.before))) (sym (back_passes same)) (subst (λ ls. IsTooMuch capacity (listing place size ∷ ls) (others place (listings_of walk.back))) (front_passes same) walk.needed);
        }

    -- the same by what was read on the way
    module _ (other : ℕ) (other_is : (front back : List Listed) (item : ℕ) → list ≡ front ++ listed slot item ∷ back → other ≡ item) where
      same_item : other ≡ walk_here.item
      same_item = other_is walk_here.before walk.back walk_here.item walk_here.list_is

      pub step_part : place_in other ≢ place → size_in other ≤ sum
      step_part differs = subst (λ o. size_in o ≤ sum) (sym same_item) (part_of_sum (λ same. differs (ap place_in same_item ∙ same)))

      module _ (last : Option Slot) (last_is : (front back : List Listed) (item : ℕ) → list ≡ front ++ listed slot item ∷ back → last ≡ last_slot front) where
        last_before : last ≡ last_slot walk_here.before
        last_before = last_is walk_here.before walk.back walk_here.item walk_here.list_is

        pub step_takes : capacity < sum → place_in other ≢ place → IsWalked list capacity place size (sum - size_in other) (count + 1) (steps + 1) last
        step_takes over differs =
            subst (λ o. IsWalked list capacity place size (sum - size_in o) (count + 1) (steps + 1) last) (sym same_item) (walk_takes over (λ same. differs (ap place_in same_item ∙ same)) last last_before)

        pub step_passes : place_in other ≡ place → IsWalked list capacity place size sum count (steps + 1) last
        step_passes same = walk_passes (ap place_in (sym same_item) ∙ same) last last_before

  -- ---- the end

  module _ (sum count steps : ℕ) (last : Option Slot) (walk : IsWalked list capacity place size sum count steps last) where
    cut : (size + total (others place (listings_of walk.front)) ≤ capacity) ⊎ (others place (listings_of walk.front) ≡ []) → IsCut capacity place size (listings_of list) count
    cut fits =
        record {
          stays = others place (listings_of walk.front);
          leaves = others place (listings_of walk.back);
          all = ap (λ xs. others place (map listing_in xs)) walk.all ∙ ap (others place) (map-append listing_in walk.front walk.back) ∙ filter-append (is_other place) (map listing_in walk.front) (map listing_in walk.back);
          counted = walk.count_is;
          fits = fits;
          needed = walk.needed;
        }

    nothing_left : walk.front ≡ [] → IsCut capacity place size (listings_of list) count
    nothing_left none = cut (inr (ap (λ xs. others place (listings_of xs)) none))

    pub cut_fits : sum ≤ capacity → IsCut capacity place size (listings_of list) count
    cut_fits fits = cut (inl (omega (arith, walk.sum_is)))

    pub cut_none : last ≡ None → IsCut capacity place size (listings_of list) count
    cut_none none = nothing_left (none_is_last walk.front (sym walk.last_is ∙ none))

    pub cut_end : length list ≤ steps → IsCut capacity place size (listings_of list) count
    cut_end over = nothing_left (nil_from_length walk.front (omega (arith, walk.left)))
