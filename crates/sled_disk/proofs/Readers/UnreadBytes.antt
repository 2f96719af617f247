-- What a step of a reader makes of what is left.
use Rattle.std.proofs.Common.{◌≡◌, ◌≢◌, ℕ, ◌+◌, ◌-◌, ◌≤◌, ◌<◌, Bool, true, false, cond, List, [], ◌∷◌, length, take, drop, get_or, refl, ap, sym, ◌∙◌, arith}
use Rattle.std.specs.Prelude.{Option, Some, None, ◌==◌, ◌&&◌, ◌||◌, if◌then◌else◌}
use Rattle.std.specs.List.{AllByRecursion, list_all}
use Rattle.std.proofs.lemmas.Bool.{eq-eqb, ne_eqb, eqb-true}
use Rattle.std.proofs.lemmas.List.{length-drop, length-take}
use Rattle.sled_base.specs.Kinds.{kind_of}
use Rattle.sled_base.specs.declared.kinds.MessageKind.TheVariants.{BatchManifest}
use Rattle.sled_disk.specs.declared.recovery.head.Head.{Head}
use Rattle.sled_disk.specs.Format.{◌>>=◌, Record, number, size, stands_in, is_mark, marks, outside, turns, IsBytes}
use Rattle.sled_disk.specs.declared.format.record.RawHead.{RawHead}
use Rattle.sled_disk.specs.UnreadBytes.{piece, all_stand, left_at}
use Rattle.sled_disk.specs.DiskReads.{HeadOnDisk}
use Rattle.sled_disk.specs.RecordLaws.{and_then, records_of-more, records_of-none}
use Rattle.sled_disk.specs.Reading.{Read, raw_record, record_at, records_of, records_in, step, steps, steps_of, found_at, body_at}
use Rattle.sled_disk.proofs.Chains.ChainHeads.{plain-mark}
use Rattle.sled_disk.proofs.Readers.RecordEffects.{Makes}
use Rattle.sled_disk.proofs.Readers.ReadParts.{gates-refused, gates-taken}

abbrev Found : Type 0
Found = Option (ℕ × Read)

abbrev none_found : Found
none_found = None

both-left : (a b : Bool) → (a && b) ≡ true → a ≡ true
both-left true b h = refl
both-left false b h = h

-- ---- where records stand

at-front : (at : ℕ) (r : Record) (rs : List Record) → stands_in at at (r ∷ rs) ≡ true
at-front at r rs = rw (eq-eqb at at refl) refl

stands-before : (target place : ℕ) (rs : List Record) → target < place → stands_in target place rs ≡ false
stands-before target place [] lt = refl
stands-before target place (r ∷ rs) lt = rw (ne_eqb target place (λ e. absurd (omega arith))) (stands-before target (place + size r) rs (omega arith))

all-behind : (targets : List ℕ) (at : ℕ) (r : Record) (rs : List Record) → AllByRecursion (λ target. at < target) targets → all_stand targets at (r ∷ rs) ≡ all_stand targets (at + size r) rs
all-behind [] at r rs h = refl
all-behind (target ∷ targets) at r rs h =
    let first : stands_in target at (r ∷ rs) ≡ stands_in target (at + size r) rs = rw (ne_eqb target at (λ e. let lt = h.0 in absurd (omega arith))) refl in
    ap (λ b. b && all_stand targets at (r ∷ rs)) first ∙ ap (λ b. stands_in target (at + size r) rs && b) (all-behind targets at r rs h.1)

-- ---- at a record

module _ (seen : List ℕ) (at end : ℕ) (r : Record) (is : Some (r, piece seen (at + size r) end) ≡ record_at (piece seen at end)) where
  behind : Read → Found
  behind after = found_at end after (drop end seen)

  -- what is left, where these records follow
  judged : List ℕ → Read → List Record → Found
  judged targets so_far rs = if all_stand targets at (r ∷ rs) then (steps at so_far (r ∷ rs) >>= behind) else None

  left-more : (targets : List ℕ) (so_far : Read) → left_at seen at end targets so_far ≡ (records_of (piece seen (at + size r) end) >>= judged targets so_far)
  unfolding left_at behind judged
  left-more targets so_far = rw (records_of-more (piece seen at end) r (piece seen (at + size r) end) is) (by (records_of (piece seen (at + size r) end)))
    where
      by : (found : Option (List Record)) → (and_then r found >>= λ rs. if all_stand targets at rs then (steps at so_far rs >>= λ after. found_at end after (drop end seen)) else None) ≡ (found >>= judged targets so_far)
      by None = refl
      by (Some rs) = refl

  same-left : (targets others : List ℕ) (so_far : Read) → ((rs : List Record) → judged targets so_far rs ≡ judged others so_far rs) → left_at seen at end targets so_far ≡ left_at seen at end others so_far
  same-left targets others so_far same = left-more targets so_far ∙ by (records_of (piece seen (at + size r) end)) ∙ sym (left-more others so_far)
    where
      by : (found : Option (List Record)) → (found >>= judged targets so_far) ≡ (found >>= judged others so_far)
      by None = refl
      by (Some rs) = same rs

  none-left : (targets : List ℕ) (so_far : Read) → ((rs : List Record) → judged targets so_far rs ≡ None) → left_at seen at end targets so_far ≡ None
  none-left targets so_far none = left-more targets so_far ∙ by (records_of (piece seen (at + size r) end))
    where
      by : (found : Option (List Record)) → (found >>= judged targets so_far) ≡ None
      by None = refl
      by (Some rs) = none rs

  next-left : (targets others : List ℕ) (so_far after : Read) → ((rs : List Record) → judged targets so_far rs ≡ (if all_stand others (at + size r) rs then (steps (at + size r) after rs >>= behind) else None))
      → left_at seen at end targets so_far ≡ left_at seen (at + size r) end others after
  unfolding left_at behind
  next-left targets others so_far after next = left-more targets so_far ∙ by (records_of (piece seen (at + size r) end))
    where
      by : (found : Option (List Record)) → (found >>= judged targets so_far) ≡ (found >>= λ rs. if all_stand others (at + size r) rs then (steps (at + size r) after rs >>= λ last. found_at end last (drop end seen)) else None)
      by None = refl
      by (Some rs) = next rs

  -- the places that name this record are met
  pub left-reached : (targets others : List ℕ) (so_far : Read) → ((test : ℕ → Bool) → test at ≡ true → list_all test others ≡ list_all test targets) → left_at seen at end targets so_far ≡ left_at seen at end others so_far
  unfolding judged
  left-reached targets others so_far reached = same-left targets others so_far (λ rs. alike rs (reached (λ target. stands_in target at (r ∷ rs)) (at-front at r rs)))
    where
      alike : (rs : List Record) → all_stand others at (r ∷ rs) ≡ all_stand targets at (r ∷ rs) → judged targets so_far rs ≡ judged others so_far rs
      alike rs h = ap (λ b. if b then (steps at so_far (r ∷ rs) >>= behind) else None) (sym h)

  -- a place before this record was not met
  pub left-missed : (targets : List ℕ) (so_far : Read) → ((test : ℕ → Bool) → ((target : ℕ) → target < at → test target ≡ false) → list_all test targets ≡ false) → left_at seen at end targets so_far ≡ None
  unfolding judged
  left-missed targets so_far missed = none-left targets so_far (λ rs. none rs (missed (λ target. stands_in target at (r ∷ rs)) (λ target lt. stands-before target at (r ∷ rs) lt)))
    where
      none : (rs : List Record) → all_stand targets at (r ∷ rs) ≡ false → judged targets so_far rs ≡ None
      none rs h = ap (λ b. if b then (steps at so_far (r ∷ rs) >>= behind) else None) h

  -- ---- a record that may stand or not, whatever follows

  stepped : (so_far : Read) (x : Option Read) (rs : List Record) → step so_far at r (marks at r rs) ≡ x → steps at so_far (r ∷ rs) ≡ (x >>= λ after. steps (at + size r) after rs)
  unfolding step turns
  stepped so_far x rs is = ap (λ (s : Option Read). s >>= λ after. steps (at + size r) after rs) is

  pub left-refused : (targets : List ℕ) (so_far : Read) → ((rs : List Record) → step so_far at r (marks at r rs) ≡ None) → left_at seen at end targets so_far ≡ None
  unfolding judged
  left-refused targets so_far refused = none-left targets so_far by
    where
      none : (b : Bool) → cond b none_found none_found ≡ none_found
      none true = refl
      none false = refl

      by : (rs : List Record) → judged targets so_far rs ≡ None
      by rs = ap (λ (s : Option Read). if all_stand targets at (r ∷ rs) then (s >>= behind) else None) (stepped so_far None rs (refused rs)) ∙ none (all_stand targets at (r ∷ rs))

  pub left-taken : (targets : List ℕ) (so_far after : Read) → ((rs : List Record) → step so_far at r (marks at r rs) ≡ Some after) → AllByRecursion (λ target. at < target) targets → left_at seen at end targets so_far ≡ left_at seen (at + size r) end targets after
  unfolding judged
  left-taken targets so_far after taken ahead = next-left targets targets so_far after by
    where
      by : (rs : List Record) → judged targets so_far rs ≡ (if all_stand targets (at + size r) rs then (steps (at + size r) after rs >>= behind) else None)
      by rs =
          ap (λ b. if b then (steps at so_far (r ∷ rs) >>= behind) else None) (all-behind targets at r rs ahead)
          ∙ ap (λ (s : Option Read). if all_stand targets (at + size r) rs then (s >>= behind) else None) (stepped so_far (Some after) rs (taken rs))

  -- the same left, where what was read is otherwise
  pub left-alike : (targets : List ℕ) (so_far other : Read) → ((rs : List Record) → step so_far at r (marks at r rs) ≡ step other at r (marks at r rs)) → left_at seen at end targets so_far ≡ left_at seen at end targets other
  unfolding judged
  left-alike targets so_far other alike = left-more targets so_far ∙ by (records_of (piece seen (at + size r) end)) ∙ sym (left-more targets other)
    where
      by : (found : Option (List Record)) → (found >>= judged targets so_far) ≡ (found >>= judged targets other)
      by None = refl
      by (Some rs) = ap (λ (s : Option Read). if all_stand targets at (r ∷ rs) then (s >>= behind) else None) (stepped so_far _ rs (alike rs) ∙ sym (stepped other _ rs refl))

  -- ---- a record that marks one

  marking : is_mark r ≡ true → kind_of r.kind ≡ BatchManifest
  marking marked = ap kind_of (eqb-true r.kind 3 (both-left (r.kind == 3) _ marked))

  not_begin : is_mark r ≡ true → r.kind == 12 ≡ false
  not_begin marked = ap (λ k. k == 12) (eqb-true r.kind 3 (both-left (r.kind == 3) _ marked))

  -- where the mark names no record of its frame that isn't before it, none may stand there
  marked-steps : (settled : List (List Head)) (rs : List Record) (b : Bool) → is_mark r ≡ true → stands_in (number r.payload) at (r ∷ rs) ≡ b → steps at (outside settled) (r ∷ rs) ≡ (if b then steps (at + size r) (outside settled) rs else None)
  unfolding step
  marked-steps settled rs b marked stands =
      stepped (outside settled) (if b then Some (outside settled) else None) rs
      (ap (λ m. step (outside settled) at r (m && stands_in (number r.payload) at (r ∷ rs))) marked
      ∙ ap (λ m. step (outside settled) at r m) stands ∙ rw (not_begin marked) (plain-mark settled at r b (marking marked))) ∙ by b
    where
      by : (b : Bool) → ((if b then Some (outside settled) else None) >>= λ after. steps (at + size r) after rs) ≡ (if b then steps (at + size r) (outside settled) rs else None)
      by true = refl
      by false = refl

  -- a mark that names a place before it
  pub left-misnamed : (targets : List ℕ) (settled : List (List Head)) → is_mark r ≡ true → number r.payload < at → left_at seen at end targets (outside settled) ≡ None
  unfolding judged
  left-misnamed targets settled marked before = none-left targets (outside settled) by
    where
      none : (b : Bool) → cond b none_found none_found ≡ none_found
      none true = refl
      none false = refl

      by : (rs : List Record) → judged targets (outside settled) rs ≡ None
      by rs = ap (λ (s : Option Read). if all_stand targets at (r ∷ rs) then (s >>= behind) else None) (marked-steps settled rs false marked (stands-before (number r.payload) at (r ∷ rs) before)) ∙ none (all_stand targets at (r ∷ rs))

  -- a mark that names itself, or a place that is to come
  pub left-named : (targets others : List ℕ) (settled : List (List Head)) → is_mark r ≡ true → AllByRecursion (λ target. at < target) targets
      → ((test : ℕ → Bool) → list_all test others ≡ ((number r.payload == at || test (number r.payload)) && list_all test targets))
      → left_at seen at end targets (outside settled) ≡ left_at seen (at + size r) end others (outside settled)
  unfolding judged
  left-named targets others settled marked ahead named = next-left targets others (outside settled) (outside settled) by
    where
      -- whether the place that it names is one of those of it and the records behind
      alike : (b all : Bool) (rs : List Record) → (if all then ((if b then steps (at + size r) (outside settled) rs else None) >>= behind) else None) ≡ (if b && all then (steps (at + size r) (outside settled) rs >>= behind) else None)
      alike true all rs = refl
      alike false true rs = refl
      alike false false rs = refl

      by : (rs : List Record) → judged targets (outside settled) rs ≡ (if all_stand others (at + size r) rs then (steps (at + size r) (outside settled) rs >>= behind) else None)
      by rs =
          let b = number r.payload == at || stands_in (number r.payload) (at + size r) rs in
          ap (λ m. if m then (steps at (outside settled) (r ∷ rs) >>= behind) else None) (all-behind targets at r rs ahead)
          ∙ ap (λ (s : Option Read). if all_stand targets (at + size r) rs then (s >>= behind) else None) (marked-steps settled rs b marked refl)
          ∙ alike b (all_stand targets (at + size r) rs) rs
          ∙ ap (λ m. if m then (steps (at + size r) (outside settled) rs >>= behind) else None) (sym (named (λ target. stands_in target (at + size r) rs)))

-- ---- at a record by its head

-- the body ends before a record there does
pub left-unread : (seen : List ℕ) (at end : ℕ) (targets : List ℕ) (so_far : Read) → at < end → end ≤ length seen → record_at (piece seen at end) ≡ None → left_at seen at end targets so_far ≡ None
unfolding left_at
left-unread seen at end targets so_far lt inside none = by (piece seen at end) (omega (arith, length-take (end - at) (drop at seen), length-drop at seen)) none
  where
    by : (bytes : List ℕ) → 0 < length bytes → record_at bytes ≡ None → (records_of bytes >>= λ rs. if all_stand targets at rs then (steps at so_far rs >>= λ after. found_at end after (drop end seen)) else None) ≡ None
    by [] some none = absurd (omega arith)
    by (byte ∷ bytes) some none = rw (records_of-none byte bytes (sym none)) refl

module _ (seen : List ℕ) (at end : ℕ) (raw : RawHead) (len : ℕ) (within : at + (17 + len) ≤ end) (inside : end ≤ length seen) (head : HeadOnDisk seen at end (Some (raw, len))) where
  abbrev payload : List ℕ
  payload = piece seen (at + 17) (at + (17 + len))

  abbrev here : Record
  here = raw_record raw payload

  long : length payload ≡ len
  long = omega (arith, length-take (at + (17 + len) - (at + 17)) (drop (at + 17) seen), length-drop (at + 17) seen)

  is : Some (here, piece seen (at + size here) end) ≡ record_at (piece seen at end)
  is = ap (λ n. Some (here, piece seen (at + (17 + n)) end)) long ∙ sym head

  pub read-reached : (targets others : List ℕ) (so_far : Read) → ((test : ℕ → Bool) → test at ≡ true → list_all test others ≡ list_all test targets) → left_at seen at end targets so_far ≡ left_at seen at end others so_far
  read-reached = left-reached seen at end here is

  pub read-missed : (targets : List ℕ) (so_far : Read) → ((test : ℕ → Bool) → ((target : ℕ) → target < at → test target ≡ false) → list_all test targets ≡ false) → left_at seen at end targets so_far ≡ None
  read-missed = left-missed seen at end here is

  pub read-refused : (targets : List ℕ) (so_far : Read) → Makes seen raw at len so_far None → left_at seen at end targets so_far ≡ None
  read-refused targets so_far refused = left-refused seen at end here is targets so_far (λ rs. refused.makes payload (marks at here) rs long refl refl)

  pub read-taken : (targets : List ℕ) (so_far after : Read) → Makes seen raw at len so_far (Some after) → AllByRecursion (λ target. at < target) targets → left_at seen at end targets so_far ≡ left_at seen (at + (17 + len)) end targets after
  read-taken targets so_far after taken ahead =
      left-taken seen at end here is targets so_far after (λ rs. taken.makes payload (marks at here) rs long refl refl) ahead ∙ ap (λ n. left_at seen (at + (17 + n)) end targets after) long

  pub read-alike : (targets : List ℕ) (so_far other : Read) (made : Option Read) → Makes seen raw at len so_far made → Makes seen raw at len other made → left_at seen at end targets so_far ≡ left_at seen at end targets other
  read-alike targets so_far other made one two =
      left-alike seen at end here is targets so_far other (λ rs. one.makes payload (marks at here) rs long refl refl ∙ sym (two.makes payload (marks at here) rs long refl refl))

  -- what a mark names
  target-is : (target : ℕ) → len ≡ 8 → target ≡ number (take 8 (drop (at + 17) seen)) → number payload ≡ target
  target-is target eight read = let n : at + (17 + len) - (at + 17) ≡ 8 = omega arith in ap (λ n. number (take n (drop (at + 17) seen))) n ∙ sym read

  pub read-misnamed : (targets : List ℕ) (settled : List (List Head)) (target : ℕ) → ((payload : List ℕ) → length payload ≡ len → true ≡ is_mark (raw_record raw payload)) → len ≡ 8 → target ≡ number (take 8 (drop (at + 17) seen)) → target < at → left_at seen at end targets (outside settled) ≡ None
  read-misnamed targets settled target marked eight read before =
      left-misnamed seen at end here is targets settled (sym (marked payload long)) (let t = target-is target eight read in omega arith)

  pub read-named : (targets others : List ℕ) (settled : List (List Head)) (target : ℕ) → ((payload : List ℕ) → length payload ≡ len → true ≡ is_mark (raw_record raw payload)) → len ≡ 8 → target ≡ number (take 8 (drop (at + 17) seen)) → AllByRecursion (λ target. at < target) targets
      → ((test : ℕ → Bool) → list_all test others ≡ ((target == at || test target) && list_all test targets))
      → left_at seen at end targets (outside settled) ≡ left_at seen (at + 25) end others (outside settled)
  read-named targets others settled target marked eight read ahead named =
      left-named seen at end here is targets others settled (sym (marked payload long)) ahead (λ test. named test ∙ ap (λ n. (n == at || test n) && list_all test targets) (sym (target-is target eight read)))
      ∙ ap (λ n. left_at seen (at + n) end others (outside settled)) (omega (arith, long))

-- ---- at a gate

pub left-gate : (seen : List ℕ) (at : ℕ) (so_far : Read) → left_at seen at at [] so_far ≡ found_at at so_far (drop at seen)
unfolding left_at records_of records_in turns
left-gate seen at so_far = let none : at - at ≡ 0 = omega arith in rw none refl

-- a place that was named is not met
pub left-awaited : (seen : List ℕ) (at target : ℕ) (targets : List ℕ) (so_far : Read) → left_at seen at at (target ∷ targets) so_far ≡ None
unfolding left_at records_of records_in
left-awaited seen at target targets so_far = let none : at - at ≡ 0 = omega arith in rw none refl

-- the records of a body, and then the frames behind
left-body : (seen : List ℕ) (at end : ℕ) (so_far : Read) → left_at seen at end [] so_far ≡ (steps_of at so_far (piece seen at end) >>= λ after. found_at end after (drop end seen))
unfolding left_at
left-body seen at end so_far = by (records_of (piece seen at end))
  where
    by : (found : Option (List Record)) → (found >>= λ rs. steps at so_far rs >>= λ after. found_at end after (drop end seen)) ≡ ((found >>= λ rs. steps at so_far rs) >>= λ after. found_at end after (drop end seen))
    by None = refl
    by (Some rs) = refl

pub left-opened : (seen : List ℕ) (at len : ℕ) (so_far : Read) (gate : ℕ) → at < length seen → gate ≡ get_or (drop at seen) 0 0 → gate ≢ 0 → at + 1 + (8 + len) ≤ length seen
    → body_at (drop (at + 1) seen) ≡ Some (piece seen (at + 1 + 8) (at + 1 + (8 + len)), drop (at + 1 + (8 + len)) seen) → IsBytes seen
    → left_at seen (at + 9) (at + 9 + len) [] so_far ≡ found_at at so_far (drop at seen)
left-opened seen at len so_far gate lt is opened inside some fits =
    let body = piece seen (at + 1 + 8) (at + 1 + (8 + len)) in
    let from : at + 1 + 8 ≡ at + 9 = omega arith in
    let to : at + 1 + (8 + len) ≡ at + 9 + len = omega arith in
    let body-is : body ≡ piece seen (at + 9) (at + 9 + len) = ap (λ n. piece seen n (at + 1 + (8 + len))) from ∙ ap (λ n. piece seen (at + 9) n) to in
    let long : length body ≡ len = omega (arith, length-take (at + 1 + (8 + len) - (at + 1 + 8)) (drop (at + 1 + 8) seen), length-drop (at + 1 + 8) seen) in
    left-body seen (at + 9) (at + 9 + len) so_far
    ∙ ap (λ (l : List ℕ). steps_of (at + 9) so_far l >>= λ after. found_at (at + 9 + len) after (drop (at + 9 + len) seen)) (sym body-is)
    ∙ ap (λ n. steps_of (at + 9) so_far body >>= λ after. found_at n after (drop n seen)) (sym to)
    ∙ by body (drop (at + 1 + (8 + len)) seen) (at + 1 + (8 + len)) some (omega (arith, long)) (steps_of (at + 9) so_far body) refl
  where
    by : (body behind : List ℕ) (end : ℕ) → body_at (drop (at + 1) seen) ≡ Some (body, behind) → at + (9 + length body) ≡ end → (made : Option Read) → steps_of (at + 9) so_far body ≡ made
        → (made >>= λ after. found_at end after behind) ≡ found_at at so_far (drop at seen)
    by body behind end some place None none = sym (gates-refused seen at so_far gate body behind lt is opened some none)
    by body behind end some place (Some after) made = ap (λ n. found_at n after behind) (sym place) ∙ sym (gates-taken seen at so_far gate body behind after lt is opened some fits made)
