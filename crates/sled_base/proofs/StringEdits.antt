-- Edits of byte strings in one buffer, from edits of its bytes and of its ends.
use Rattle.std.proofs.Common.{◌≡◌, ℕ, zero, suc, ◌+◌, ◌-◌, ◌<◌, ◌≤◌, ◌^◌, List, [], ◌∷◌, ◌++◌, length, get_or, map, take, drop, refl, sym, ap, subst, ◌∙◌, append_assoc, add-one, arith}
use Rattle.std.specs.List.{AllByRecursion}
use Rattle.std.proofs.lemmas.List.{take_all, take-append-drop, length-append, length-take-le, length-map, length-drop, append-nil, take_at, drop_at, take-append-le, drop-append-le, drop_more, drop-drop, get_or-append_right, get_or-drop}
use Rattle.std.proofs.lemmas.Bool.{le-leb}
use Rattle.std.proofs.Math.ListN.{drop_of_length-le}
use Rattle.std.proofs.Math.Seq.{take-append-add, drop-append-add}
use Rattle.std.specs.Prelude.{Result, Ok, Err, OnOk, OnErr}
use Rattle.sled_base.specs.Order.{Bytes}
use Rattle.sled_base.specs.Payloads.Numbers.{written_u64}
use Rattle.sled_base.specs.Payloads.ByteStrings.{written_bytes, CanWriteBytes}
use Rattle.sled_base.specs.Strings.{ends_from, strings_in, Keeps, begin_of, IsPlain, with_at, without_at}
use Rattle.sled_base.proofs.Payloads.NumberSizes.{number_size}
use Rattle.sled_base.specs.StringLaws.{strings_are, strings_count, keeps_own, written, written_both, ends_all, all_both, all_front, ends_count, parts_at, lies_at, spliced, can_move, ends_last_between}

pub on_ok_so : {T E : Type 0} {P Q : Type 0} (r : Result T E) → (P → Q) → OnOk r P → OnOk r Q
on_ok_so (Ok x) so h = so h
on_ok_so (Err e) so h = h

-- fewer of the first
pub take_less : {X : Type 0} (i j : ℕ) (xs : List X) → i ≤ j → take i (take j xs) ≡ take i xs
take_less zero j xs le = refl
take_less (suc i) zero xs le = absurd (omega arith)
take_less (suc i) (suc j) [] le = refl
take_less (suc i) (suc j) (x ∷ xs) le = ap (λ rest. x ∷ rest) (take_less i j xs (omega arith))

pub same_less : {X : Type 0} (i j : ℕ) (xs ys : List X) → i ≤ j → take j xs ≡ take j ys → take i xs ≡ take i ys
same_less i j xs ys le same = sym (take_less i j xs le) ∙ ap (take i) same ∙ take_less i j ys le

pub string_size : (string : Bytes) → length (written_bytes string) ≤ length string + 9
string_size string = omega (arith, number_size (length string), length-append (written_u64 (length string)) string)

-- ---- bytes that are written back from a place on

pub written_back : {X : Type 0} (items new : List X) (at : ℕ) → at ≤ length items → length new ≡ length (drop at items)
    → take at items ++ (new ++ drop (length new) (drop at items)) ++ drop (length (take at items ++ (new ++ drop (length new) (drop at items)))) items ≡ take at items ++ new
written_back items new at le many =
    let none : drop (length new) (drop at items) ≡ [] = drop_of_length-le (drop at items) (omega arith) in
    let inner : new ++ drop (length new) (drop at items) ≡ new = ap (λ rest. new ++ rest) none ∙ append-nil new in
    let all : length items ≤ length (take at items ++ (new ++ drop (length new) (drop at items))) = omega (arith, ap length inner, length-append (take at items) (new ++ drop (length new) (drop at items)), length-take-le at items le, length-drop at items) in
    let past : drop (length (take at items ++ (new ++ drop (length new) (drop at items)))) items ≡ [] = drop_of_length-le items all in
    (λ i. (take at items ++ inner i) ++ past i) ∙ append-nil (take at items ++ new)

-- the first bytes were kept, and the last ones moved up
pub gap_back : (old items moved zeros : Bytes) (at more : ℕ) → at ≤ length old → items ≡ old ++ zeros → length zeros ≡ more → length moved ≡ length (drop at items) → drop more moved ≡ take (length (drop at items) - more) (drop at items) → drop (at + more) (take at items ++ moved) ≡ drop at old
gap_back old items moved zeros at more le is many same up =
    let total : length items ≡ length old + more = omega (arith, ap length is, length-append old zeros) in
    let count : length (take at items) ≡ at = length-take-le at items (omega arith) in
    let rest : drop at items ≡ drop at old ++ zeros = ap (drop at) is ∙ drop-append-le at old zeros le in
    let len : length (drop at old) ≡ length (drop at items) - more = omega (arith, length-drop at old, length-drop at items) in
    ap (λ n. drop (n + more) (take at items ++ moved)) (sym count) ∙ drop-append-add (take at items) moved more ∙ up ∙ ap (take (length (drop at items) - more)) rest ∙ take_at (drop at old) zeros (length (drop at items) - more) len

pub gap_front : (old items moved zeros : Bytes) (at : ℕ) → at ≤ length old → items ≡ old ++ zeros → take at (take at items ++ moved) ≡ take at old
gap_front old items moved zeros at le is =
    let count : length (take at items) ≡ at = length-take-le at items (omega (arith, ap length is, length-append old zeros)) in
    take_at (take at items) moved at count ∙ ap (take at) is ∙ take-append-le at old zeros le

-- the last bytes moved down over a run of them
pub gap_closed : (items moved : Bytes) (start end : ℕ) → start ≤ end → end ≤ length items → length moved ≡ length (drop start items) → take (length (drop start items) - (end - start)) moved ≡ drop (end - start) (drop start items) → take (length items - (end - start)) (take start items ++ moved) ≡ take start items ++ drop end items
gap_closed items moved start end order within same down =
    let count : length (take start items) ≡ start = length-take-le start items (omega arith) in
    let rest : length items - (end - start) ≡ length (take start items) + (length (drop start items) - (end - start)) = omega (arith, length-drop start items) in
    let sum : start + (end - start) ≡ end = omega arith in
    ap (λ n. take n (take start items ++ moved)) rest ∙ take-append-add (take start items) moved (length (drop start items) - (end - start)) ∙ ap (λ r. take start items ++ r) (down ∙ drop-drop (end - start) start items ∙ ap (λ n. drop n items) sum)

-- ---- ends that move

-- the end at a place that is next to be moved is as it was
pub next_end : (f : ℕ → ℕ) (ends now : List ℕ) (i : ℕ) → i < length ends → now ≡ map f (take i ends) ++ drop i ends → get_or now i 0 ≡ get_or ends i 0
next_end f ends now i lt is =
    let many : length (map f (take i ends)) ≡ i = omega (arith, length-map (take i ends) f, length-take-le i ends) in
    let none : i - i ≡ 0 = omega arith in
    let here : i + 0 ≡ i = omega arith in
    ap (λ es. get_or es i 0) is ∙ get_or-append_right (map f (take i ends)) (drop i ends) i i 0 many (omega arith) ∙ ap (λ k. get_or (drop i ends) k 0) none ∙ get_or-drop i ends 0 0 ∙ ap (λ k. get_or ends k 0) here

-- ---- one string more

-- as many are seen as there are ends
pub as_seen : {seen : List Bytes} (bytes : Bytes) (ends : List ℕ) → strings_in bytes ends ≡ seen → length ends ≡ length seen
as_seen bytes ends is = omega (arith, strings_count 0 bytes ends, ap length is)

module _ (strings : List Bytes) (bytes : Bytes) (ends : List ℕ) (keeps : Keeps strings bytes ends) where
  pub as_many : length ends ≡ length strings
  as_many = omega (arith, ap length keeps.ends_are, ends_count 0 strings)

  module _ (place : ℕ) (le : place ≤ length strings) (string : Bytes) (start size : ℕ) (start_is : start ≡ begin_of ends place) (size_is : size ≡ length (written_bytes string)) (longer : List ℕ) (longer_is : longer ≡ take place ends ++ (start + size) ∷ drop place ends) where
    abbrev pub front : List Bytes
    front = take place strings

    abbrev pub back : List Bytes
    back = drop place strings

    one : written (string ∷ []) ≡ written_bytes string
    one = append-nil (written_bytes string)

    longer_two : longer ≡ (take place ends ++ (start + size) ∷ []) ++ drop place ends
    longer_two = longer_is ∙ sym (append_assoc (take place ends) ((start + size) ∷ []) (drop place ends))

    count : length (take place ends ++ (start + size) ∷ []) ≡ place + 1
    count = omega (arith, length-append (take place ends) ((start + size) ∷ []), length-take-le place ends, as_many, le)

    rest_is : drop (place + 1) longer ≡ drop place ends
    rest_is = ap (drop (place + 1)) longer_two ∙ drop_at (take place ends ++ (start + size) ∷ []) (drop place ends) (place + 1) count

    parts : Keeps (front ++ ([] ++ back)) bytes ends
    parts = subst (λ s. Keeps s bytes ends) (sym (parts_at strings bytes ends keeps place le).parts) keeps

    pub inserted : CanWriteBytes string → Keeps (front ++ string ∷ back) (take start bytes ++ (written_bytes string ++ drop start bytes)) (take (place + 1) longer ++ map (λ end. end - 0 + size) (drop (place + 1) longer))
    inserted can =
        let at = parts_at strings bytes ends keeps place le in
        let base = spliced front [] (string ∷ []) back bytes ends parts (can, tt) start start (start_is ∙ at.begin) (omega (arith, start_is, at.begin)) in
        let bytes_eq : take start bytes ++ (written (string ∷ []) ++ drop start bytes) ≡ take start bytes ++ (written_bytes string ++ drop start bytes) = ap (λ w. take start bytes ++ (w ++ drop start bytes)) one in
        let len : length (written (string ∷ [])) ≡ size = ap length one ∙ sym size_is in
        let from : length front + 0 ≡ place = omega (arith, at.many) in
        let kept : take (place + 1) longer ≡ take place ends ++ (start + size) ∷ [] = ap (take (place + 1)) longer_two ∙ take_at (take place ends ++ (start + size) ∷ []) (drop place ends) (place + 1) count in
        let ends_eq : take (length front) ends ++ (ends_from start (string ∷ []) ++ map (λ end. end - 0 + length (written (string ∷ []))) (drop (length front + 0) ends)) ≡ take (place + 1) longer ++ map (λ end. end - 0 + size) (drop (place + 1) longer) =
        (λ i. take (at.many i) ends ++ ((start + sym size_is i) ∷ map (λ end. end - 0 + len i) (drop (from i) ends))) ∙ sym (append_assoc (take place ends) ((start + size) ∷ []) (map (λ end. end - 0 + size) (drop place ends))) ∙ (λ i. sym kept i ++ map (λ end. end - 0 + size) (sym rest_is i)) in
        subst (λ b. Keeps (front ++ string ∷ back) b (take (place + 1) longer ++ map (λ end. end - 0 + size) (drop (place + 1) longer))) bytes_eq (subst (λ e. Keeps (front ++ string ∷ back) (take start bytes ++ (written (string ∷ []) ++ drop start bytes)) e) ends_eq base)

    pub can_insert : length bytes + size < 2 ^ 64 → AllByRecursion (λ end. (0 ≤ end) × (end - 0 + size < 2 ^ 64)) (drop (place + 1) longer)
    can_insert fits =
        let at = parts_at strings bytes ends keeps place le in
        let len : length (written (string ∷ [])) ≡ size = ap length one ∙ sym size_is in
        let from : length front + 0 ≡ place = omega (arith, at.many) in
        let base = can_move front [] (string ∷ []) back bytes ends parts (omega (arith, len)) in
        subst (AllByRecursion (λ end. (0 ≤ end) × (end - 0 + size < 2 ^ 64))) (ap (λ n. drop n ends) from ∙ sym rest_is) (subst (λ n. AllByRecursion (λ end. (0 ≤ end) × (end - 0 + n < 2 ^ 64)) (drop (length front + 0) ends)) len base)

-- ---- another string, and one string less

-- the bounds of the string at a place, as they are read
pub record IsBounded (bytes : Bytes) (ends : List ℕ) (place start end : ℕ) : Type 0 where
  pub keeps : Keeps (strings_in bytes ends) bytes ends
  pub within : place < length ends
  pub start_is : start ≡ begin_of ends place
  pub end_is : end ≡ get_or ends place 0

module _ {bytes : Bytes} {ends : List ℕ} {place start end : ℕ} (b : IsBounded bytes ends place start end) where
  abbrev strings : List Bytes
  strings = strings_in bytes ends

  lt : place < length strings
  lt = omega (arith, b.within, strings_count 0 bytes ends)

  abbrev pub old : Bytes
  old = get_or strings place []

  abbrev pub before : List Bytes
  before = take place strings

  abbrev pub behind : List Bytes
  behind = drop (place + 1) strings

  one_old : written (old ∷ []) ≡ written_bytes old
  one_old = append-nil (written_bytes old)

  pub order : (start ≤ end) × (end ≤ length bytes)
  order =
      let lies = lies_at strings bytes ends b.keeps place [] lt in
      (omega (arith, b.start_is, b.end_is, lies.begin, lies.end), omega (arith, b.end_is, lies.end, lies.within))

  taken_is : length (written (old ∷ [])) ≡ end - start
  taken_is =
      let lies = lies_at strings bytes ends b.keeps place [] lt in
      omega (arith, ap length one_old, b.start_is, b.end_is, lies.begin, lies.end)

  all_parts : Keeps (before ++ ((old ∷ []) ++ behind)) bytes ends
  all_parts = subst (λ s. Keeps s bytes ends) (sym (lies_at strings bytes ends b.keeps place [] lt).parts) b.keeps

  next : drop place ends ≡ end ∷ drop (place + 1) ends
  next = drop_more ends place 0 (omega (arith, b.within)) ∙ ap (λ e. e ∷ drop (place + 1) ends) (sym b.end_is)

  pub replaced : (string : Bytes) (size : ℕ) → size ≡ length (written_bytes string) → CanWriteBytes string → Keeps (before ++ string ∷ behind) (take start bytes ++ (written_bytes string ++ drop end bytes)) (take place ends ++ map (λ e. e - (end - start) + size) (drop place ends))
  replaced string size size_is can =
      let lies = lies_at strings bytes ends b.keeps place [] lt in
      let base = spliced before (old ∷ []) (string ∷ []) behind bytes ends all_parts (can, tt) start end (b.start_is ∙ lies.begin) (omega (arith, b.end_is, lies.end, ap length one_old)) in
      let one : written (string ∷ []) ≡ written_bytes string = append-nil (written_bytes string) in
      let len : length (written (string ∷ [])) ≡ size = ap length one ∙ sym size_is in
      let from : length before + 1 ≡ place + 1 = omega (arith, lies.many) in
      let first : end - (end - start) + size ≡ start + size = omega (arith, order) in
      let bytes_eq : take start bytes ++ (written (string ∷ []) ++ drop end bytes) ≡ take start bytes ++ (written_bytes string ++ drop end bytes) = ap (λ w. take start bytes ++ (w ++ drop end bytes)) one in
      let ends_eq : take (length before) ends ++ (ends_from start (string ∷ []) ++ map (λ e. e - length (written (old ∷ [])) + length (written (string ∷ []))) (drop (length before + 1) ends)) ≡ take place ends ++ map (λ e. e - (end - start) + size) (drop place ends) =
      (λ i. take (lies.many i) ends ++ ((start + sym size_is i) ∷ map (λ e. e - taken_is i + len i) (drop (from i) ends))) ∙ (λ i. take place ends ++ (sym first i ∷ map (λ e. e - (end - start) + size) (drop (place + 1) ends))) ∙ ap (λ es. take place ends ++ map (λ e. e - (end - start) + size) es) (sym next) in
      subst (λ l. Keeps (before ++ string ∷ behind) l (take place ends ++ map (λ e. e - (end - start) + size) (drop place ends))) bytes_eq (subst (λ e. Keeps (before ++ string ∷ behind) (take start bytes ++ (written (string ∷ []) ++ drop end bytes)) e) ends_eq base)

  pub can_replace : (size : ℕ) → length bytes - (end - start) + size < 2 ^ 64 → AllByRecursion (λ e. (end - start ≤ e) × (e - (end - start) + size < 2 ^ 64)) (drop place ends)
  can_replace size fits = subst (AllByRecursion (λ e. (end - start ≤ e) × (e - (end - start) + size < 2 ^ 64))) (sym next) ((omega (arith, order), omega (arith, order, fits)), later)
    where
      from : length before + 1 ≡ place + 1
      from = omega (arith, (lies_at strings bytes ends b.keeps place [] lt).many)

      lift : (n : ℕ) (es : List ℕ) → AllByRecursion (λ e. (length (written (old ∷ [])) ≤ e) × (e ≤ length bytes)) es → AllByRecursion (λ e. (end - start ≤ e) × (e - (end - start) + size < 2 ^ 64)) es
      lift n [] all = tt
      lift n (e ∷ es) all = ((omega (arith, taken_is, all.0.0), omega (arith, fits, taken_is, all.0.0, all.0.1)), lift n es all.1)

      later : AllByRecursion (λ e. (end - start ≤ e) × (e - (end - start) + size < 2 ^ 64)) (drop (place + 1) ends)
      later = subst (λ n. AllByRecursion (λ e. (end - start ≤ e) × (e - (end - start) + size < 2 ^ 64)) (drop n ends)) from (lift 0 (drop (length before + 1) ends) (ends_last_between before (old ∷ []) [] behind bytes ends all_parts))

  -- a string of the same size leaves the ends
  pub replaced_same : (string : Bytes) (size : ℕ) → size ≡ length (written_bytes string) → CanWriteBytes string → size ≡ end - start → length bytes < 2 ^ 64 → Keeps (before ++ string ∷ behind) (take start bytes ++ (written_bytes string ++ drop end bytes)) ends
  replaced_same string size size_is can same fits =
      let stay : map (λ e. e - (end - start) + size) (drop place ends) ≡ drop place ends = stays (drop place ends) (can_replace size (omega (arith, order, same, fits))) in
      subst (Keeps (before ++ string ∷ behind) (take start bytes ++ (written_bytes string ++ drop end bytes))) (ap (λ es. take place ends ++ es) stay ∙ take-append-drop place ends) (replaced string size size_is can)
    where
      stays : (es : List ℕ) → AllByRecursion (λ e. (end - start ≤ e) × (e - (end - start) + size < 2 ^ 64)) es → map (λ e. e - (end - start) + size) es ≡ es
      stays [] all = refl
      stays (e ∷ es) all = let here : e - (end - start) + size ≡ e = omega (arith, all.0.0, same) in λ i. here i ∷ stays es all.1 i

  pub removed : (shorter : List ℕ) → shorter ≡ take place ends ++ drop (place + 1) ends → Keeps (before ++ behind) (take start bytes ++ drop end bytes) (take place shorter ++ map (λ e. e - (end - start) + 0) (drop place shorter))
  removed shorter shorter_is =
      let lies = lies_at strings bytes ends b.keeps place [] lt in
      let base = spliced before (old ∷ []) [] behind bytes ends all_parts tt start end (b.start_is ∙ lies.begin) (omega (arith, b.end_is, lies.end, ap length one_old)) in
      let from : length before + 1 ≡ place + 1 = omega (arith, lies.many) in
      let count : length (take place ends) ≡ place = length-take-le place ends (omega (arith, b.within)) in
      let kept : take place shorter ≡ take place ends = ap (take place) shorter_is ∙ take_at (take place ends) (drop (place + 1) ends) place count in
      let rest : drop place shorter ≡ drop (place + 1) ends = ap (drop place) shorter_is ∙ drop_at (take place ends) (drop (place + 1) ends) place count in
      let ends_eq : take (length before) ends ++ ([] ++ map (λ e. e - length (written (old ∷ [])) + 0) (drop (length before + 1) ends)) ≡ take place shorter ++ map (λ e. e - (end - start) + 0) (drop place shorter) =
      (λ i. take (lies.many i) ends ++ map (λ e. e - taken_is i + 0) (drop (from i) ends)) ∙ (λ i. sym kept i ++ map (λ e. e - (end - start) + 0) (sym rest i)) in
      subst (λ e. Keeps (before ++ behind) (take start bytes ++ drop end bytes) e) ends_eq base

  pub can_remove : (shorter : List ℕ) → shorter ≡ take place ends ++ drop (place + 1) ends → length bytes < 2 ^ 64 → AllByRecursion (λ e. (end - start ≤ e) × (e - (end - start) + 0 < 2 ^ 64)) (drop place shorter)
  can_remove shorter shorter_is fits =
      let count : length (take place ends) ≡ place = length-take-le place ends (omega (arith, b.within)) in
      let rest : drop place shorter ≡ drop (place + 1) ends = ap (drop place) shorter_is ∙ drop_at (take place ends) (drop (place + 1) ends) place count in
      let all = can_replace 0 (omega (arith, fits)) in
      subst (AllByRecursion (λ e. (end - start ≤ e) × (e - (end - start) + 0 < 2 ^ 64))) (sym rest) (subst (AllByRecursion (λ e. (end - start ≤ e) × (e - (end - start) + 0 < 2 ^ 64))) next all).1

-- ---- an edit that may be refused

module _ {T E : Type 0} (strings : List Bytes) (bytes : Bytes) (ends : List ℕ) (new : Bytes) (new_ends : List ℕ) where
  pub kept_after : (r : Result T E) → Keeps (strings_in bytes ends) bytes ends → OnOk r (Keeps strings new new_ends) → OnErr r ((new ≡ bytes) × (new_ends ≡ ends)) → Keeps (strings_in new new_ends) new new_ends
  kept_after (Ok x) keeps ok err = keeps_own strings new new_ends ok
  kept_after (Err e) keeps ok err = subst (λ b. Keeps (strings_in b new_ends) b new_ends) (sym err.0) (subst (λ e. Keeps (strings_in bytes e) bytes e) (sym err.1) keeps)

  pub strings_after : (r : Result T E) → OnOk r (Keeps strings new new_ends) → OnOk r (strings_in new new_ends ≡ strings)
  strings_after (Ok x) ok = strings_are strings new new_ends ok
  strings_after (Err e) ok = ok

-- a string behind the others
pub pushed : (strings : List Bytes) (bytes : Bytes) (ends : List ℕ) → Keeps strings bytes ends → (string : Bytes) (end : ℕ) → end ≡ length bytes + length (written_bytes string) → CanWriteBytes string → Keeps (strings ++ string ∷ []) (bytes ++ written_bytes string) (ends ++ end ∷ [])
pushed strings bytes ends keeps string end end_is can =
    let from : length (written strings) + length (written_bytes string) ≡ end = omega (arith, ap length keeps.bytes_are, end_is) in
    record {
      bytes_are = written_both strings (string ∷ []) ∙ (λ i. keeps.bytes_are i ++ append-nil (written_bytes string) i);
      ends_are = ends_all strings (string ∷ []) ∙ (λ i. keeps.ends_are i ++ from i ∷ []);
      can_write = all_both strings (string ∷ []) keeps.can_write (can, tt);
    }

-- what was put in is taken out again
pub put_and_taken : (place : ℕ) (string : Bytes) (strings : List Bytes) → place ≤ length strings → without_at place (with_at place string strings) ≡ strings
put_and_taken place string strings le =
    let front = take place strings in
    let back = drop place strings in
    let many : length front ≡ place = length-take-le place strings le in
    let first : take place (front ++ string ∷ back) ≡ front = take_at front (string ∷ back) place many in
    let second : drop (place + 1) (front ++ string ∷ back) ≡ back = ap (drop (place + 1)) (sym (append_assoc front (string ∷ []) back)) ∙ drop_at (front ++ string ∷ []) back (place + 1) (omega (arith, many, length-append front (string ∷ []))) in
    (λ i. first i ++ second i) ∙ take-append-drop place strings

pub length_with : (place : ℕ) (string : Bytes) (strings : List Bytes) → place ≤ length strings → length (with_at place string strings) ≡ length strings + 1
length_with place string strings le = omega (arith, length-append (take place strings) (string ∷ drop place strings), length-take-le place strings le, length-drop place strings)

-- of two strings that are put in, the one behind may be the first
pub put_in_turn : (place later : ℕ) (string other : Bytes) (strings : List Bytes) → place ≤ later → later ≤ length strings → with_at (later + 1) other (with_at place string strings) ≡ with_at place string (with_at later other strings)
put_in_turn zero later string other strings order le = rw (add-one) refl
put_in_turn (suc place) zero string other strings order le = absurd (omega arith)
put_in_turn (suc place) (suc later) string other [] order le = absurd (omega arith)
put_in_turn (suc place) (suc later) string other (x ∷ xs) order le =
    let next : suc later + 1 ≡ suc (later + 1) = omega arith in
    ap (λ n. with_at n other (with_at (suc place) string (x ∷ xs))) next ∙ ap (λ rest. x ∷ rest) (put_in_turn place later string other xs (omega arith) (omega arith))

-- behind the last string is the last place
pub at_end : (place : ℕ) (string : Bytes) (strings : List Bytes) → place ≡ length strings → strings ++ string ∷ [] ≡ with_at place string strings
at_end place string strings is =
    let front : take place strings ≡ strings = take_all place strings (omega arith) in
    let back : drop place strings ≡ [] = drop_of_length-le strings (omega arith) in
    λ i. sym front i ++ string ∷ sym back i

-- the strings up to a place, in the bytes up to where it begins
pub kept_front : (strings : List Bytes) (bytes : Bytes) (ends : List ℕ) → Keeps strings bytes ends → (place start : ℕ) → place ≤ length strings → start ≡ begin_of ends place → Keeps (take place strings) (take start bytes) (take place ends)
kept_front strings bytes ends keeps place start le start_is =
    let at = parts_at strings bytes ends keeps place le in
    let front = take place strings in
    let back = drop place strings in
    let from : length (written front) ≡ start = sym (start_is ∙ at.begin) in
    let bytes_are : bytes ≡ written front ++ written back = sym keeps.bytes_are ∙ ap written (sym at.parts) ∙ written_both front back in
    let ends_are : ends ≡ ends_from 0 front ++ ends_from (length (written front)) back = sym keeps.ends_are ∙ ap (ends_from 0) (sym at.parts) ∙ ends_all front back in
    record {
      bytes_are = sym (ap (take start) bytes_are ∙ take_at (written front) (written back) start from);
      ends_are = sym (ap (take place) ends_are ∙ take_at (ends_from 0 front) (ends_from (length (written front)) back) place (ends_count 0 front ∙ at.many));
      can_write = all_front front back (subst (AllByRecursion CanWriteBytes) (sym at.parts) keeps.can_write);
    }

-- the same where one string is behind it, and is taken out
pub last_removed : (strings : List Bytes) (bytes : Bytes) (ends : List ℕ) → Keeps strings bytes ends → (place start : ℕ) → place + 1 ≡ length strings → start ≡ begin_of ends place → Keeps (without_at place strings) (take start bytes) (take place ends)
last_removed strings bytes ends keeps place start last start_is =
    let none : drop (place + 1) strings ≡ [] = drop_of_length-le strings (omega arith) in
    subst (λ strings. Keeps strings (take start bytes) (take place ends)) (sym (ap (λ rest. take place strings ++ rest) none ∙ append-nil (take place strings))) (kept_front strings bytes ends keeps place start (omega arith) start_is)

-- among the first strings each is as among all
pub among_first : (strings : List Bytes) (count i : ℕ) (d : Bytes) → i < count → get_or (take count strings) i d ≡ get_or strings i d
among_first strings zero i d lt = absurd (omega arith)
among_first [] (suc count) i d lt = refl
among_first (x ∷ xs) (suc count) zero d lt = refl
among_first (x ∷ xs) (suc count) (suc i) d lt = among_first xs count i d (omega arith)

-- ---- strings at the front of an input, each with a length of one byte

-- the byte in front is the length of a string
pub plain_front : (input : Bytes) (len : ℕ) (rest : Bytes) → input ≡ len ∷ rest → len ≤ 240 → len ≤ length rest → IsPlain input (take (length rest - len) (drop len rest))
plain_front input len rest is low within =
    let many : length (take len rest) ≡ len = length-take-le len rest within in
    let count : written_u64 (length (take len rest)) ≡ len ∷ [] = ap written_u64 many ∙ rw (le-leb len 240 low) refl in
    let all : take (length rest - len) (drop len rest) ≡ drop len rest = take_all (length rest - len) (drop len rest) (omega (arith, length-drop len rest)) in
    record {
      string = take len rest;
      here = is ∙ (λ i. len ∷ sym (take-append-drop len rest) i) ∙ (λ i. (sym count i ++ take len rest) ++ sym all i);
      short = omega (arith, many);
    }

-- strings with these ends stand at the front, and the rest follows them
pub record AreRead (input rest : Bytes) (ends : List ℕ) : Type 0 where
  pub strings : List Bytes
  pub bytes : Bytes
  pub here : input ≡ bytes ++ rest
  pub keeps : Keeps strings bytes ends

-- one string more
pub one_more : (input rest behind : Bytes) (ends : List ℕ) → AreRead input rest ends → IsPlain rest behind → AreRead input behind (ends ++ (length input - length behind) ∷ [])
one_more input rest behind ends read next =
    let w = written_bytes next.string in
    let here : input ≡ (read.bytes ++ w) ++ behind = read.here ∙ ap (λ r. read.bytes ++ r) next.here ∙ sym (append_assoc read.bytes w behind) in
    let end : length input - length behind ≡ length read.bytes + length w = omega (arith, ap length here, length-append (read.bytes ++ w) behind, length-append read.bytes w) in
    record {
      strings = read.strings ++ next.string ∷ [];
      bytes = read.bytes ++ w;
      here = here;
      keeps = pushed read.strings read.bytes ends read.keeps next.string (length input - length behind) end (omega (arith, next.short));
    }

-- what was read is kept by a copy of the bytes before the rest
pub copy_keeps : (input rest : Bytes) (ends : List ℕ) (copy : Bytes) → AreRead input rest ends → copy ≡ take (length input - length rest) input → Keeps (strings_in copy ends) copy ends × ((copy ++ rest) ≡ input)
copy_keeps input rest ends copy read is =
    let many : length read.bytes ≡ length input - length rest = omega (arith, ap length read.here, length-append read.bytes rest) in
    let same : copy ≡ read.bytes = is ∙ ap (take (length input - length rest)) read.here ∙ take_at read.bytes rest (length input - length rest) many in
    (keeps_own read.strings copy ends (subst (λ b. Keeps read.strings b ends) (sym same) read.keeps), ap (λ b. b ++ rest) same ∙ sym read.here)
