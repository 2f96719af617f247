-- A reader before a record.
use Rattle.std.proofs.Common.{◌≡◌, ◌≢◌, ℕ, ◌+◌, ◌^◌, ◌≤◌, ◌<◌, Bool, true, false, List, [], ◌∷◌, length, get_or, take, drop, refl, ap, sym, ◌∙◌, subst, arith}
use Rattle.std.proofs.lemmas.Result.{err_from_is_err_and}
use Rattle.sled_log.specs.declared.log.LogError.{LogError}
use Rattle.sled_disk.proofs.Frames.RecordAppend.{same-error}
use Rattle.sled_log.specs.declared.log.LogError.TheVariants as errors
use Rattle.std.specs.Prelude.{Result, Ok, Err, OnOk, OnErr, is_ok, IsErrAnd, IsErrOf, Option, Some, None, ◌==◌, ◌&&◌, ◌||◌}
use Rattle.std.specs.List.{AllByRecursion, list_all}
use Rattle.sled_disk.specs.declared.recovery.head.Head.{Head}
use Rattle.sled_disk.specs.declared.reader.Reader.{Reader}
use Rattle.sled_disk.specs.declared.format.record.RawHead.{RawHead}
use Rattle.sled_disk.specs.declared.reader.window.Window.{Window}
use Rattle.sled_disk.specs.Format.{number, is_mark, outside, within as within_batch, room_for, IsBytes}
use Rattle.sled_disk.specs.ReaderState.{GoesOn, begun_by, read_by}
use Rattle.sled_disk.specs.Abandoned.{room_behind}
use Rattle.sled_disk.specs.UnreadBytes.{left_at}
use Rattle.sled_disk.specs.DiskReads.{BodyOnDisk, HasBody, HasHead, HeadOnDisk}
use Rattle.sled_disk.specs.Reading.{Made, Read, start, found_at, raw_record}
use Rattle.std.proofs.lemmas.List.{nil_from_length}
use Rattle.sled_disk.proofs.Readers.RecordEffects.{Makes}
use Rattle.sled_disk.proofs.Readers.ReadParts.{gates-closed, gates-end, gates-far, gates-torn}
use Rattle.sled_disk.proofs.Readers.UnreadBytes.{left-awaited, left-gate, left-opened, left-unread, read-reached, read-missed, read-refused, read-taken, read-alike, read-misnamed, read-named}

-- an error that was handed on is that of the call
pub handed-on : {T U : Type 0} (call : Result U LogError) (result : Result T LogError) (e wanted : LogError) → call ≡ Err e → IsErrAnd result (λ x. x ≡ e) → IsErrOf result wanted → IsErrOf call wanted
handed-on call result e wanted was h is = let p = err_from_is_err_and result h in was ∙ ap (λ (e : LogError). Err e) (sym p.2 ∙ same-error result p.0 wanted p.1 is)

-- where Corruption is answered, nothing was made
pub unmade : {T S : Type 0} (result : Result T LogError) (now : S) (part : Option S) → Made result now part → IsErrOf result errors.Corruption → part ≡ None
unmade (Ok x) now part h is = absurd cc
unmade (Err e) now part h is = by e h cc
  where
    by : (e : LogError) → Made {T = Unit {0}} (Err e) now part → e ≡ errors.Corruption → part ≡ None
    by errors.Corruption h is = h
    by errors.Memory h is = absurd cc
    by errors.Full h is = absurd h
    by errors.ReadFault h is = absurd h
    by errors.WriteFault h is = absurd h

-- a window shows these bytes
abbrev pub IsShown : List ℕ → Window → Type 0
IsShown seen window = window.bytes.items ≡ take (length window.bytes.items) (drop window.start seen)

-- and the same of a disk that has the same bytes
pub shows-still : (window : Window) (old seen : List ℕ) → old ≡ seen → IsShown old window → IsShown seen window
shows-still window old seen same shows = subst (λ (l : List ℕ). IsShown l window) same shows

-- what all bytes make
abbrev whole : List ℕ → Option (ℕ × Read)
whole seen = found_at 8 start (drop 8 seen)

pub goes-unread : (seen : List ℕ) (self : Reader) (on : GoesOn seen self) (found : Option (RawHead × ℕ)) → found ≡ None → HeadOnDisk seen self.at self.body_end found → self.at < self.body_end → whole seen ≡ None
goes-unread seen self on found is head lt =
    let end = on.end in
    let inside = self.inside in
    sym on.left ∙ left-unread seen self.at self.body_end self.targets (read_by self) lt (omega arith) (subst (HeadOnDisk seen self.at self.body_end) is head)

-- the same place, and the same targets
left-same : (seen : List ℕ) (so_far : Read) (here there end last : ℕ) (targets others : List ℕ) → here ≡ there → end ≡ last → targets ≡ others → left_at seen here end targets so_far ≡ left_at seen there last others so_far
left-same seen so_far here there end last targets others a b c =
    ap (λ n. left_at seen n end targets so_far) a ∙ ap (λ n. left_at seen there n targets so_far) b ∙ ap (λ (l : List ℕ). left_at seen there last l so_far) c

-- the body ends among the bytes
body-ends : (seen : List ℕ) (self : Reader) → GoesOn seen self → self.body_end ≤ length seen
body-ends seen self on = let end = on.end in let inside = self.inside in omega arith

-- what another reader has that goes on with the same bytes
pub record Behind (seen : List ℕ) (self new : Reader) (place : ℕ) (others : List ℕ) : Type 0 where
  pub end : new.end ≡ self.end
  pub shows : IsShown seen new.window
  pub at : new.at ≡ place
  pub body_end : new.body_end ≡ self.body_end
  pub targets : new.targets ≡ others

-- where it makes the same of what is left
goes-behind : {seen : List ℕ} {self : Reader} → GoesOn seen self → (new : Reader) (place : ℕ) (others : List ℕ) (other : Read) → Behind seen self new place others → read_by new ≡ other → left_at seen place self.body_end others other ≡ whole seen → GoesOn seen new
goes-behind {seen = seen} {self = self} on new place others other b is left = record {
  opens = on.opens;
  end = b.end ∙ on.end;
  shows = b.shows;
  left = left-same seen (read_by new) new.at place new.body_end self.body_end new.targets others b.at b.body_end b.targets ∙ ap (left_at seen place self.body_end others) is ∙ left;
}

module _ (seen : List ℕ) (self : Reader) (on : GoesOn seen self) (found : Option (RawHead × ℕ)) (raw : RawHead) (len : ℕ) (is : found ≡ Some (raw, len)) (head : HeadOnDisk seen self.at self.body_end found) (has : HasHead self.at self.body_end found)
    (targets : List ℕ) (reached : (test : ℕ → Bool) → test self.at ≡ true → list_all test targets ≡ list_all test self.targets) where
  within : self.at + (17 + len) ≤ self.body_end
  within = subst (HasHead self.at self.body_end) is has

  there : HeadOnDisk seen self.at self.body_end (Some (raw, len))
  there = subst (HeadOnDisk seen self.at self.body_end) is head

  -- the places that name it are met
  goes-reached : left_at seen self.at self.body_end targets (read_by self) ≡ whole seen
  goes-reached = sym (read-reached seen self.at self.body_end raw len within (body-ends seen self on) there self.targets targets (read_by self) reached) ∙ on.left

  pub goes-met : {new : Reader} {after : List ℕ} → after ≡ seen → Behind seen self new self.at targets → read_by new ≡ read_by self → GoesOn after new
  goes-met {new = new} same behind is = subst (λ (l : List ℕ). GoesOn l new) (sym same) (goes-behind on new self.at targets (read_by self) behind is goes-reached)

  pub goes-missed : ((test : ℕ → Bool) → ((target : ℕ) → target < self.at → test target ≡ false) → list_all test targets ≡ false) → whole seen ≡ None
  goes-missed missed = sym goes-reached ∙ read-missed seen self.at self.body_end raw len within (body-ends seen self on) there targets (read_by self) missed

-- the record that a reader takes next, by its head, and what was read so far
pub record IsNext (seen : List ℕ) (self : Reader) (raw : RawHead) (len : ℕ) (so_far : Read) : Type 0 where
  pub on : GoesOn seen self
  pub head : HeadOnDisk seen self.at self.body_end (Some (raw, len))
  pub has : HasHead self.at self.body_end (Some (raw, len))
  pub ahead : AllByRecursion (λ target. self.at < target) self.targets
  pub read : read_by self ≡ so_far

module _ {seen : List ℕ} {self : Reader} {raw : RawHead} {len : ℕ} {so_far : Read} (next : IsNext seen self raw len so_far) where
  ends : self.body_end ≤ length seen
  ends = body-ends seen self next.on

  left-here : left_at seen self.at self.body_end self.targets so_far ≡ whole seen
  left-here = ap (left_at seen self.at self.body_end self.targets) (sym next.read) ∙ next.on.left

  pub goes-refused : Makes seen raw self.at len so_far None → whole seen ≡ None
  goes-refused refused = sym left-here ∙ read-refused seen self.at self.body_end raw len next.has ends next.head self.targets so_far refused

  pub goes-taken : {new : Reader} {after : Read} → Makes seen raw self.at len so_far (Some after) → Behind seen self new (self.at + (17 + len)) self.targets → read_by new ≡ after → GoesOn seen new
  goes-taken {new = new} {after = after} taken behind is =
      goes-behind next.on new (self.at + (17 + len)) self.targets after behind is (sym (read-taken seen self.at self.body_end raw len next.has ends next.head self.targets so_far after taken next.ahead) ∙ left-here)

  -- what was read is otherwise, and the record makes the same of it
  pub goes-alike : {new : Reader} {other : Read} {made : Option Read} → Makes seen raw self.at len so_far made → Makes seen raw self.at len other made → Behind seen self new self.at self.targets → read_by new ≡ other → GoesOn seen new
  goes-alike {new = new} {other = other} {made = made} one two behind is =
      goes-behind next.on new self.at self.targets other behind is (read-alike seen self.at self.body_end raw len next.has ends next.head self.targets other so_far made two one ∙ left-here)

-- it marks one
module _ {seen : List ℕ} {self : Reader} {raw : RawHead} {len : ℕ} {settled : List (List Head)} (next : IsNext seen self raw len (outside settled)) (marked : (payload : List ℕ) → length payload ≡ len → true ≡ is_mark (raw_record raw payload)) (eight : len ≡ 8) (target : ℕ)
    (number_is : target ≡ number (take 8 (drop (self.at + 17) seen))) where
  pub goes-misnamed : target < self.at → whole seen ≡ None
  goes-misnamed before = sym (left-here next) ∙ read-misnamed seen self.at self.body_end raw len next.has (ends next) next.head self.targets settled target marked eight number_is before

  pub goes-named : {new : Reader} (others : List ℕ) → ((test : ℕ → Bool) → list_all test others ≡ ((target == self.at || test target) && list_all test self.targets)) → Behind seen self new (self.at + 25) others → read_by new ≡ outside settled → GoesOn seen new
  goes-named {new = new} others named behind is =
      goes-behind next.on new (self.at + 25) others (outside settled) behind is (sym (read-named seen self.at self.body_end raw len next.has (ends next) next.head self.targets others settled target marked eight number_is next.ahead named) ∙ left-here next)

-- ---- before a gate

-- as much room is needed as the code knows
room-known : (begun : Option ℕ) (inside : List (ℕ × Head)) → room_for (begun_by begun inside) ≡ room_behind begun
room-known None inside = refl
room-known (Some place) inside = refl

module _ (seen : List ℕ) (self : Reader) (on : GoesOn seen self) (gate-here : self.at ≡ self.body_end) where
  abbrev heads : Read
  heads = read_by self

  before : left_at seen self.at self.at self.targets heads ≡ whole seen
  before = ap (λ n. left_at seen self.at n self.targets heads) gate-here ∙ on.left

  -- a place that was named is not met
  pub goes-awaited : length self.targets ≢ 0 → whole seen ≡ None
  goes-awaited some = sym before ∙ by self.targets some
    where
      by : (targets : List ℕ) → length targets ≢ 0 → left_at seen self.at self.at targets heads ≡ None
      by [] some = absurd (some refl)
      by (target ∷ targets) some = left-awaited seen self.at target targets heads

  module _ (met : length self.targets ≡ 0) where
    at-gate : found_at self.at heads (drop self.at seen) ≡ whole seen
    at-gate = sym (left-gate seen self.at heads) ∙ ap (λ (targets : List ℕ). left_at seen self.at self.at targets heads) (sym (nil_from_length self.targets met)) ∙ before

    pub goes-ended : self.end ≤ self.at → whole seen ≡ None
    goes-ended le = sym at-gate ∙ gates-end seen self.at heads (let end = on.end in omega arith)

    module _ (lt : self.at < self.end) (gate : ℕ) (is : gate ≡ get_or (drop self.at seen) 0 0) where
      stands : self.at < length seen
      stands = let end = on.end in omega arith

      pub goes-closed : gate ≡ 0 → self.at + room_behind self.begun < 2 ^ 63 → whole seen ≡ Some (self.at, heads)
      goes-closed closed small = let room = room-known self.begun self.changes.items in sym at-gate ∙ gates-closed seen self.at heads gate stands is closed (omega (arith, room, small))

      pub goes-far : gate ≡ 0 → 2 ^ 63 ≤ self.at + room_behind self.begun → whole seen ≡ None
      goes-far closed far = let room = room-known self.begun self.changes.items in sym at-gate ∙ gates-far seen self.at heads gate stands is closed (omega (arith, room, far))

      pub goes-torn : (found : Option ℕ) → found ≡ None → BodyOnDisk seen (self.at + 1) found → gate ≢ 0 → whole seen ≡ None
      goes-torn found none torn opened = sym at-gate ∙ gates-torn seen self.at heads gate stands is opened (subst (BodyOnDisk seen (self.at + 1)) none torn)

      pub goes-opened : (found : Option ℕ) (len : ℕ) → found ≡ Some len → BodyOnDisk seen (self.at + 1) found → HasBody (self.at + 1) self.end found → gate ≢ 0 → IsBytes seen → left_at seen (self.at + 9) (self.at + 9 + len) self.targets heads ≡ whole seen
      goes-opened found len some body has opened fits =
          ap (λ (targets : List ℕ). left_at seen (self.at + 9) (self.at + 9 + len) targets heads) (nil_from_length self.targets met)
          ∙ left-opened seen self.at len heads gate stands is opened (let end = on.end in let all = (subst (HasBody (self.at + 1) self.end) some has).1 in omega arith) (subst (BodyOnDisk seen (self.at + 1)) some body) fits
          ∙ at-gate

-- how far was read, by its parts
abbrev pub read_with : List (List Head) → Option ℕ → List (ℕ × Head) → Read
read_with settled begun inside = record { settled = settled; begun = begun_by begun inside }

pub read-closed : (settled : List (List Head)) (begun : Option ℕ) (inside : List (ℕ × Head)) → begun ≡ None → read_with settled begun inside ≡ outside settled
read-closed settled begun inside closed = ap (λ (b : Option ℕ). read_with settled b inside) closed

pub read-opened : (settled : List (List Head)) (begun : Option ℕ) (place : ℕ) (inside : List (ℕ × Head)) → begun ≡ Some place → read_with settled begun inside ≡ within_batch settled place inside
read-opened settled begun place inside opened = ap (λ (b : Option ℕ). read_with settled b inside) opened

-- a call succeeded, or it failed
pub either_way : {T E P : Type 0} (r : Result T E) → (is_ok r ≡ true → P) → (is_ok r ≡ false → P) → P
either_way (Ok x) a b = a refl
either_way (Err e) a b = b refl

pub at_ok : {T E A : Type 0} (r : Result T E) → OnOk r A → is_ok r ≡ true → A
at_ok (Ok x) a h = a
at_ok (Err e) a h = absurd cc

pub at_err : {T E A : Type 0} (r : Result T E) → OnErr r A → is_ok r ≡ false → A
at_err (Ok x) a h = absurd cc
at_err (Err e) a h = a
