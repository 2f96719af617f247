-- The laws of byte strings in one buffer.
use Rattle.std.specs.Prelude.{◌≡◌, ℕ, suc, ◌+◌, ◌-◌, ◌^◌, ◌<◌, ◌≤◌, List, [], ◌∷◌, ◌++◌, length, map, take, drop, slice_range, refl}
use Rattle.std.proofs.Common.{get_or, sym, ap, subst, ◌∙◌, append_assoc, arith}
use Rattle.std.proofs.lemmas.List.{drop_at, take_at, length-append, length-take-le, take-append-drop, drop_more, get_or_at, get_or_append_left, get_or-drop, drop-drop, length-drop}
use Rattle.std.proofs.lemmas.Bool.{ne_eqb}
use Rattle.std.specs.List.{flat_map, AllByRecursion}
use Rattle.sled_base.specs.Order.{Bytes}
use Rattle.sled_base.specs.Payloads.Numbers.{EncodesU64, written_u64}
use Rattle.sled_base.specs.Payloads.NumberLaws.{reads_encoding, encodes_written}
use Rattle.sled_base.specs.Payloads.ByteStrings.{ReadsBytes, written_bytes, CanWriteBytes}
use Rattle.sled_base.specs.Payloads.ByteStringLaws.{Bytes-grammar}
use Rattle.sled_base.specs.Strings.{behind_length, unwritten, ends_from, strings_from, strings_in, Keeps, begin_of}

abbrev pub written : List Bytes → Bytes
written strings = flat_map written_bytes strings

-- ---- there and back

-- a written string is what follows its length
pub unwritten_is : (string : Bytes) → CanWriteBytes string → unwritten (written_bytes string) ≡ string
unwritten_is string can = ap behind_length (reads_encoding (written_u64 (length string)) string (length string) (encodes_written (length string) can))

-- the run after a front
pub slice_behind : (front run rest : Bytes) (at end : ℕ) → length front ≡ at → at + length run ≡ end → slice_range (front ++ (run ++ rest)) at end ≡ run
slice_behind front run rest at end is ends =
    let many : length run ≡ end - at = omega arith in
    ap (take (end - at)) (drop_at front (run ++ rest) at is) ∙ take_at run rest (end - at) many

pub strings_back : (front : Bytes) (strings : List Bytes) (at : ℕ) → length front ≡ at → AllByRecursion CanWriteBytes strings → strings_from at (front ++ written strings) (ends_from at strings) ≡ strings
strings_back front [] at is can = refl
strings_back front (x ∷ xs) at is can =
    let w = written_bytes x in
    let rest = written xs in
    let end = at + length w in
    let here : slice_range (front ++ (w ++ rest)) at end ≡ w = slice_behind front w rest at end is refl in
    let regrouped : front ++ (w ++ rest) ≡ (front ++ w) ++ rest = sym (append_assoc front w rest) in
    let len : length (front ++ w) ≡ end = omega (arith, length-append front w) in
    let string : unwritten (slice_range (front ++ (w ++ rest)) at end) ≡ x = ap unwritten here ∙ unwritten_is x can.0 in
    let others : strings_from end (front ++ (w ++ rest)) (ends_from end xs) ≡ xs = ap (λ bytes. strings_from end bytes (ends_from end xs)) regrouped ∙ strings_back (front ++ w) xs end len can.1 in
    λ i. string i ∷ others i

-- a buffer that holds these strings has them as its strings
pub strings_are : (strings : List Bytes) (bytes : Bytes) (ends : List ℕ) → Keeps strings bytes ends → strings_in bytes ends ≡ strings
strings_are strings bytes ends keeps =
    let back = strings_back [] strings 0 refl keeps.can_write in
    subst (λ b. strings_from 0 b ends ≡ strings) keeps.bytes_are (subst (λ e. strings_from 0 (written strings) e ≡ strings) keeps.ends_are back)

-- the buffer and the ends keep the strings that they hold
abbrev pub KeepsOwn : Bytes → List ℕ → Type 0
KeepsOwn bytes ends = Keeps (strings_in bytes ends) bytes ends

pub keeps_own : (strings : List Bytes) (bytes : Bytes) (ends : List ℕ) → Keeps strings bytes ends → KeepsOwn bytes ends
keeps_own strings bytes ends keeps = subst (λ s. Keeps s bytes ends) (sym (strings_are strings bytes ends keeps)) keeps

-- ---- how many

pub strings_count : (at : ℕ) (bytes : Bytes) (ends : List ℕ) → length (strings_from at bytes ends) ≡ length ends
strings_count at bytes [] = refl
strings_count at bytes (end ∷ ends) = omega (arith, strings_count end bytes ends)

pub ends_count : (at : ℕ) (strings : List Bytes) → length (ends_from at strings) ≡ length strings
ends_count at [] = refl
ends_count at (string ∷ strings) = omega (arith, ends_count (at + length (written_bytes string)) strings)

-- ---- one run of strings after another

pub written_both : (xs ys : List Bytes) → written (xs ++ ys) ≡ written xs ++ written ys
written_both [] ys = refl
written_both (x ∷ xs) ys = ap (λ rest. written_bytes x ++ rest) (written_both xs ys) ∙ sym (append_assoc (written_bytes x) (written xs) (written ys))

pub written_length : (x : Bytes) (xs : List Bytes) → length (written (x ∷ xs)) ≡ length (written_bytes x) + length (written xs)
written_length x xs = length-append (written_bytes x) (written xs)

pub ends_both : (at : ℕ) (xs ys : List Bytes) → ends_from at (xs ++ ys) ≡ ends_from at xs ++ ends_from (at + length (written xs)) ys
ends_both at [] ys = ap (λ n. ends_from n ys) (let same : at ≡ at + 0 = omega arith in same)
ends_both at (x ∷ xs) ys =
    let end = at + length (written_bytes x) in
    let place : end + length (written xs) ≡ at + length (written (x ∷ xs)) = omega (arith, written_length x xs) in
    let others = ends_both end xs ys ∙ ap (λ n. ends_from end xs ++ ends_from n ys) place in
    ap (λ rest. end ∷ rest) others

-- the same from the start of the buffer
pub ends_all : (xs ys : List Bytes) → ends_from 0 (xs ++ ys) ≡ ends_from 0 xs ++ ends_from (length (written xs)) ys
ends_all xs ys = let same : 0 + length (written xs) ≡ length (written xs) = omega arith in ends_both 0 xs ys ∙ ap (λ n. ends_from 0 xs ++ ends_from n ys) same

-- what holds of each string of both lists
pub all_both : (xs ys : List Bytes) → AllByRecursion CanWriteBytes xs → AllByRecursion CanWriteBytes ys → AllByRecursion CanWriteBytes (xs ++ ys)
all_both [] ys one two = two
all_both (x ∷ xs) ys one two = (one.0, all_both xs ys one.1 two)

pub all_front : (xs ys : List Bytes) → AllByRecursion CanWriteBytes (xs ++ ys) → AllByRecursion CanWriteBytes xs
all_front [] ys all = tt
all_front (x ∷ xs) ys all = (all.0, all_front xs ys all.1)

pub all_back : (xs ys : List Bytes) → AllByRecursion CanWriteBytes (xs ++ ys) → AllByRecursion CanWriteBytes ys
all_back [] ys all = all
all_back (x ∷ xs) ys all = all_back xs ys all.1

-- ---- ends that move

pub moved_ends : (at taken added : ℕ) (strings : List Bytes) → map (λ end. end - taken + added) (ends_from (at + taken) strings) ≡ ends_from (at + added) strings
moved_ends at taken added [] = refl
moved_ends at taken added (x ∷ xs) =
    let n = length (written_bytes x) in
    let end : at + taken + n - taken + added ≡ at + added + n = omega arith in
    let from : at + taken + n ≡ at + n + taken = omega arith in
    let to : at + n + added ≡ at + added + n = omega arith in
    let others = ap (λ k. map (λ end. end - taken + added) (ends_from k xs)) from ∙ moved_ends (at + n) taken added xs ∙ ap (λ k. ends_from k xs) to in
    λ i. end i ∷ others i

-- each end is no earlier than where the first string begins, and no later than where the last one ends
pub ends_between : (low at high : ℕ) (strings : List Bytes) → low ≤ at → at + length (written strings) ≤ high → AllByRecursion (λ end. (low ≤ end) × (end ≤ high)) (ends_from at strings)
ends_between low at high [] from to = tt
ends_between low at high (x ∷ xs) from to =
    let len = written_length x xs in
    ((omega arith, omega arith), ends_between low (at + length (written_bytes x)) high xs (omega arith) (omega arith))

-- ---- the string at a place

last_end : (at : ℕ) (xs : List Bytes) → 0 < length xs → get_or (ends_from at xs) (length xs - 1) 0 ≡ at + length (written xs)
last_end at [] some = absurd (omega arith)
last_end at (x ∷ []) some = omega (arith, written_length x [])
last_end at (x ∷ y ∷ zs) some =
    let end = at + length (written_bytes x) in
    let place : length (x ∷ y ∷ zs) - 1 ≡ suc (length (y ∷ zs) - 1) = omega arith in
    ap (λ n. get_or (ends_from at (x ∷ y ∷ zs)) n 0) place ∙ last_end end (y ∷ zs) (omega arith) ∙ omega (arith, written_length x (y ∷ zs))

-- where the string after a front begins: at the length of the encoded front
pub begin_behind : (front back : List Bytes) (place : ℕ) → length front ≡ place → begin_of (ends_from 0 (front ++ back)) place ≡ length (written front)
begin_behind [] back place many = rw (← many) refl
begin_behind (x ∷ xs) back place many =
    let front = x ∷ xs in
    let ends = ends_all front back in
    let count = ends_count 0 front in
    let index : place - 1 ≡ length front - 1 = omega arith in
    let within : length front - 1 < length (ends_from 0 front) = omega arith in
    let at : get_or (ends_from 0 (front ++ back)) (place - 1) 0 ≡ length (written front) =
    ap (λ es. get_or es (place - 1) 0) ends ∙ ap (λ n. get_or (ends_from 0 front ++ ends_from (length (written front)) back) n 0) index ∙
    get_or_append_left (ends_from 0 front) (ends_from (length (written front)) back) 0 (length front - 1) within ∙ last_end 0 front (omega arith) ∙ (let same : 0 + length (written front) ≡ length (written front) = omega arith in same) in
    rw (ne_eqb place 0 (λ none. absurd (omega arith))) at

-- where the strings from a place on begin
pub record PartsAt (strings : List Bytes) (bytes : Bytes) (ends : List ℕ) (place : ℕ) : Type 0 where
  pub parts : take place strings ++ drop place strings ≡ strings
  pub many : length (take place strings) ≡ place
  pub begin : begin_of ends place ≡ length (written (take place strings))
  pub within : length (written (take place strings)) ≤ length bytes

pub parts_at : (strings : List Bytes) (bytes : Bytes) (ends : List ℕ) → Keeps strings bytes ends → (place : ℕ) → place ≤ length strings → PartsAt strings bytes ends place
parts_at strings bytes ends keeps place le =
    let front = take place strings in
    let back = drop place strings in
    let split : front ++ back ≡ strings = take-append-drop place strings in
    let many : length front ≡ place = length-take-le place strings le in
    record {
      parts = split;
      many = many;
      begin = ap (λ es. begin_of es place) (sym keeps.ends_are ∙ ap (ends_from 0) (sym split)) ∙ begin_behind front back place many;
      within = omega (arith, ap length (sym keeps.bytes_are ∙ ap written (sym split) ∙ written_both front back), length-append (written front) (written back));
    }

pub record LiesAt (strings : List Bytes) (bytes : Bytes) (ends : List ℕ) (place : ℕ) (string : Bytes) : Type 0 where
  pub parts : take place strings ++ (string ∷ drop (place + 1) strings) ≡ strings
  pub many : length (take place strings) ≡ place
  pub begin : begin_of ends place ≡ length (written (take place strings))
  pub end : get_or ends place 0 ≡ length (written (take place strings)) + length (written_bytes string)
  pub within : length (written (take place strings)) + length (written_bytes string) ≤ length bytes
  pub there : drop (begin_of ends place) bytes ≡ written_bytes string ++ written (drop (place + 1) strings)
  pub can : CanWriteBytes string

pub lies_at : (strings : List Bytes) (bytes : Bytes) (ends : List ℕ) → Keeps strings bytes ends → (place : ℕ) (d : Bytes) → place < length strings → LiesAt strings bytes ends place (get_or strings place d)
lies_at strings bytes ends keeps place d lt =
    let front = take place strings in
    let string = get_or strings place d in
    let back = drop (place + 1) strings in
    let from = length (written front) in
    let w = written_bytes string in
    let split : front ++ string ∷ back ≡ strings = ap (λ rest. front ++ rest) (sym (drop_more strings place d lt)) ∙ take-append-drop place strings in
    let many : length front ≡ place = length-take-le place strings (omega arith) in
    let all_bytes : bytes ≡ written front ++ (w ++ written back) = sym keeps.bytes_are ∙ ap written (sym split) ∙ written_both front (string ∷ back) in
    let all_ends : ends ≡ ends_from 0 front ++ (from + length w) ∷ ends_from (from + length w) back = sym keeps.ends_are ∙ ap (ends_from 0) (sym split) ∙ ends_all front (string ∷ back) in
    let begin : begin_of ends place ≡ from = ap (λ es. begin_of es place) (sym keeps.ends_are ∙ ap (ends_from 0) (sym split)) ∙ begin_behind front (string ∷ back) place many in
    let count : length (ends_from 0 front) ≡ place = omega (arith, ends_count 0 front) in
    let end : get_or ends place 0 ≡ from + length w = ap (λ es. get_or es place 0) all_ends ∙ get_or_at (ends_from 0 front) (from + length w) (ends_from (from + length w) back) 0 place count in
    let there : drop (begin_of ends place) bytes ≡ w ++ written back = ap (λ n. drop n bytes) begin ∙ ap (drop from) all_bytes ∙ drop_at (written front) (w ++ written back) from refl in
    record {
      parts = split;
      many = many;
      begin = begin;
      end = end;
      within = omega (arith, ap length all_bytes, length-append (written front) (w ++ written back), length-append w (written back));
      there = there;
      can = (all_back front (string ∷ back) (subst (AllByRecursion CanWriteBytes) (sym split) keeps.can_write)).0;
    }

-- ---- a run of strings is replaced by others

module _ (front mid new back : List Bytes) (bytes : Bytes) (ends : List ℕ) (keeps : Keeps (front ++ (mid ++ back)) bytes ends) where
  bytes_three : bytes ≡ written front ++ (written mid ++ written back)
  bytes_three = sym keeps.bytes_are ∙ written_both front (mid ++ back) ∙ ap (λ rest. written front ++ rest) (written_both mid back)

  ends_three : ends ≡ ends_from 0 front ++ (ends_from (length (written front)) mid ++ ends_from (length (written front) + length (written mid)) back)
  ends_three = sym keeps.ends_are ∙ ends_all front (mid ++ back) ∙ ap (λ es. ends_from 0 front ++ es) (ends_both (length (written front)) mid back)

  ends_last : drop (length front + length mid) ends ≡ ends_from (length (written front) + length (written mid)) back
  ends_last =
      let from = length (written front) in
      let before = ends_from 0 front ++ ends_from from mid in
      let after = ends_from (from + length (written mid)) back in
      ap (drop (length front + length mid)) (ends_three ∙ sym (append_assoc (ends_from 0 front) (ends_from from mid) after)) ∙
      drop_at before after (length front + length mid) (omega (arith, length-append (ends_from 0 front) (ends_from from mid), ends_count 0 front, ends_count from mid))

  pub spliced : AllByRecursion CanWriteBytes new → (start stop : ℕ) → start ≡ length (written front) → stop ≡ length (written front) + length (written mid)
      → Keeps (front ++ (new ++ back)) (take start bytes ++ (written new ++ drop stop bytes)) (take (length front) ends ++ (ends_from start new ++ map (λ end. end - length (written mid) + length (written new)) (drop (length front + length mid) ends)))
  spliced can start stop start_is stop_is =
      let from = length (written front) in
      let taken = length (written mid) in
      let added = length (written new) in
      let first : take start bytes ≡ written front = ap (take start) bytes_three ∙ take_at (written front) (written mid ++ written back) start (sym start_is) in
      let last : drop stop bytes ≡ written back = ap (drop stop) (bytes_three ∙ sym (append_assoc (written front) (written mid) (written back))) ∙ drop_at (written front ++ written mid) (written back) stop (omega (arith, length-append (written front) (written mid))) in
      let ends_first : take (length front) ends ≡ ends_from 0 front = ap (take (length front)) ends_three ∙ take_at (ends_from 0 front) (ends_from from mid ++ ends_from (from + taken) back) (length front) (ends_count 0 front) in
      let moved : map (λ end. end - taken + added) (drop (length front + length mid) ends) ≡ ends_from (from + added) back = ap (map (λ end. end - taken + added)) ends_last ∙ moved_ends from taken added back in
      let parts = all_back front (mid ++ back) keeps.can_write in
      record {
        bytes_are = written_both front (new ++ back) ∙ ap (λ rest. written front ++ rest) (written_both new back) ∙ (λ i. sym first i ++ (written new ++ sym last i));
        ends_are = ends_all front (new ++ back) ∙ ap (λ es. ends_from 0 front ++ es) (ends_both from new back) ∙ (λ i. sym ends_first i ++ (ends_from (sym start_is i) new ++ sym moved i));
        can_write = all_both front (new ++ back) (all_front front (mid ++ back) keeps.can_write) (all_both new back can (all_back mid back parts));
      }

  -- each end after the run is at least the number of the run's bytes, and within the buffer
  pub ends_last_between : AllByRecursion (λ end. (length (written mid) ≤ end) × (end ≤ length bytes)) (drop (length front + length mid) ends)
  ends_last_between =
      let from = length (written front) in
      let taken = length (written mid) in
      let total : from + taken + length (written back) ≤ length bytes = omega (arith, ap length bytes_three, length-append (written front) (written mid ++ written back), length-append (written mid) (written back)) in
      subst (AllByRecursion (λ end. (taken ≤ end) × (end ≤ length bytes))) (sym ends_last) (ends_between taken (from + taken) (length bytes) back (omega arith) total)

  -- the ends after the run can move, if the new length of the buffer fits
  pub can_move : length bytes - length (written mid) + length (written new) < 2 ^ 64 → AllByRecursion (λ end. (length (written mid) ≤ end) × (end - length (written mid) + length (written new) < 2 ^ 64)) (drop (length front + length mid) ends)
  can_move fits = lift (drop (length front + length mid) ends) ends_last_between
    where
      lift : (es : List ℕ) → AllByRecursion (λ end. (length (written mid) ≤ end) × (end ≤ length bytes)) es → AllByRecursion (λ end. (length (written mid) ≤ end) × (end - length (written mid) + length (written new) < 2 ^ 64)) es
      lift [] all = tt
      lift (e ∷ es) all = ((all.0.0, omega (arith, fits, all.0.0, all.0.1)), lift es all.1)

-- ---- reading a string

-- what is read at a place
pub reads_at : (strings : List Bytes) (bytes : Bytes) (ends : List ℕ) → Keeps strings bytes ends → (place : ℕ) (d : Bytes) → place < length strings → ReadsBytes (drop (begin_of ends place) bytes) (get_or strings place d) (written (drop (place + 1) strings))
reads_at strings bytes ends keeps place d lt =
    let lies = lies_at strings bytes ends keeps place d lt in
    let string = get_or strings place d in
    let back = written (drop (place + 1) strings) in
    subst (λ input. ReadsBytes input string back) (sym lies.there) (Bytes-grammar.read_again string back lies.can tt)

-- the string after another begins where that one ends
pub next_begin : (ends : List ℕ) (place : ℕ) → begin_of ends (place + 1) ≡ get_or ends place 0
next_begin ends place = rw (ne_eqb (place + 1) 0 (λ none. absurd (omega arith))) (ap (λ n. get_or ends n 0) (let back : place + 1 - 1 ≡ place = omega arith in back))

-- a length of one byte is that byte
one_byte : (input string rest middle encoding : Bytes) → input ≡ encoding ++ middle → EncodesU64 encoding (length string) → middle ≡ string ++ rest → get_or input 0 0 ≤ 240 → (length string ≡ get_or input 0 0) × (drop 1 input ≡ string ++ rest)
one_byte input string rest middle [] is encodes parts low = absurd encodes
one_byte input string rest middle (b ∷ []) is encodes parts low = (encodes.1 ∙ ap (λ bytes. get_or bytes 0 0) (sym is), ap (drop 1) is ∙ parts)
one_byte input string rest middle (b ∷ c ∷ []) is encodes parts low = let first : get_or input 0 0 ≡ b = ap (λ bytes. get_or bytes 0 0) is in absurd (omega (arith, first, encodes.0))
one_byte input string rest middle (b ∷ c ∷ d ∷ []) is encodes parts low = let first : get_or input 0 0 ≡ b = ap (λ bytes. get_or bytes 0 0) is in absurd (omega (arith, first, encodes.0))
one_byte input string rest middle (b ∷ c ∷ d ∷ e ∷ bytes) is encodes parts low = let first : get_or input 0 0 ≡ b = ap (λ bytes. get_or bytes 0 0) is in absurd (omega (arith, first, encodes.1))

-- a string whose length takes one byte comes right after that byte
pub record LiesShort (bytes : Bytes) (start : ℕ) (string rest : Bytes) : Type 0 where
  pub size : length string ≡ get_or bytes start 0
  pub within : start + 1 + get_or bytes start 0 ≤ length bytes
  pub here : slice_range bytes (start + 1) (start + 1 + get_or bytes start 0) ≡ string

pub lies_short : (bytes : Bytes) (start : ℕ) (string rest : Bytes) → ReadsBytes (drop start bytes) string rest → get_or bytes start 0 ≤ 240 → LiesShort bytes start string rest
lies_short bytes start string rest read low =
    let first : get_or (drop start bytes) 0 0 ≡ get_or bytes start 0 = get_or-drop start bytes 0 0 ∙ ap (λ n. get_or bytes n 0) (let same : start + 0 ≡ start = omega arith in same) in
    let head = one_byte (drop start bytes) string rest read.0 read.1.0 read.1.1 read.1.2 read.2 (omega (arith, first, low)) in
    let size : length string ≡ get_or bytes start 0 = head.0 ∙ first in
    let next : drop (start + 1) bytes ≡ string ++ rest = sym (drop-drop 1 start bytes) ∙ head.1 in
    let takes = Bytes-grammar.takes (drop start bytes) string rest read in
    let many : start + 1 + get_or bytes start 0 - (start + 1) ≡ get_or bytes start 0 = omega arith in
    record {
      size = size;
      within = omega (arith, size, takes, ap length next, length-append string rest, length-drop (start + 1) bytes, length-drop start bytes);
      here = (λ i. take (many i) (next i)) ∙ take_at string rest (get_or bytes start 0) size;
    }
