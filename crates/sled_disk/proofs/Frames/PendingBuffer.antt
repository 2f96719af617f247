-- The records that wait in a buffer.
use Rattle.std.proofs.Common.{◌≡◌, ℕ, zero, suc, ◌+◌, ◌≤◌, Bool, true, List, [], ◌∷◌, ◌++◌, length, drop, ap, sym, ◌∙◌, append_assoc, arith}
use Rattle.std.specs.Prelude.{Some}
use Rattle.std.specs.List.{AllByRecursion, list_all}
use Rattle.std.proofs.lemmas.List.{length-drop, append-nil, drop-append-le}
use Rattle.sled_disk.specs.Format.{Record, Fits, record_bytes, body, IsBytes}
use Rattle.sled_disk.specs.Pending.{open_behind, open_by, is_own}
use Rattle.sled_disk.specs.PendingLaws.{open-more, own-more}
use Rattle.sled_disk.specs.Reading.{records_of}
use Rattle.sled_disk.specs.RecoveredLogLaws.{none-parsed, none-behind}
use Rattle.sled_disk.specs.EncodingLaws.{IsBytes-drop, records-take, records-again}
use Rattle.sled_disk.specs.LogContents.{or_none, records_behind}

-- a buffer without records
pub parsed-none : (buffer : List ℕ) → length buffer ≤ 8 → records_of (drop 8 buffer) ≡ Some (records_behind buffer)
parsed-none buffer le = none-parsed buffer le ∙ ap (λ (rs : List Record). Some rs) (sym (none-behind buffer le))

pub behind-none : (buffer : List ℕ) → length buffer ≤ 8 → length (records_behind buffer) ≡ 0
behind-none buffer le = ap length (none-behind buffer le)

-- ---- one more

pub body-push : (rs : List Record) (r : Record) → body (rs ++ r ∷ []) ≡ body rs ++ record_bytes r
body-push [] r = append-nil (record_bytes r)
body-push (first ∷ rs) r = ap (λ (l : List ℕ). record_bytes first ++ l) (body-push rs r) ∙ sym (append_assoc (record_bytes first) (body rs) (record_bytes r))

pub fits-push : (rs : List Record) (r : Record) → AllByRecursion Fits rs → Fits r → AllByRecursion Fits (rs ++ r ∷ [])
fits-push [] r h f = (f, tt)
fits-push (first ∷ rs) r h f = (h.0, fits-push rs r h.1 f)

-- the bytes of the records, and their numbers
pub waits : (buffer : List ℕ) → IsBytes buffer → records_of (drop 8 buffer) ≡ Some (records_behind buffer) → (drop 8 buffer ≡ body (records_behind buffer)) × AllByRecursion Fits (records_behind buffer)
waits buffer fits parsed = records-take (drop 8 buffer) (records_behind buffer) (IsBytes-drop 8 buffer fits) parsed

pub waits-length : (buffer : List ℕ) → IsBytes buffer → 8 ≤ length buffer → records_of (drop 8 buffer) ≡ Some (records_behind buffer) → length buffer ≡ 8 + length (body (records_behind buffer))
waits-length buffer fits front parsed = let b = ap length (waits buffer fits parsed).0 in omega (arith, b, length-drop 8 buffer)

module _ (buffer : List ℕ) (r : Record) (fits : IsBytes buffer) (front : 8 ≤ length buffer) (parsed : records_of (drop 8 buffer) ≡ Some (records_behind buffer)) (r_fits : Fits r) where
  pub pushed : records_of (drop 8 (buffer ++ record_bytes r)) ≡ Some (records_behind buffer ++ r ∷ [])
  pushed =
      let w = waits buffer fits parsed in
      ap records_of (drop-append-le 8 buffer (record_bytes r) front ∙ ap (λ (l : List ℕ). l ++ record_bytes r) w.0 ∙ sym (body-push (records_behind buffer) r))
      ∙ records-again (records_behind buffer ++ r ∷ []) (fits-push (records_behind buffer) r w.1 r_fits)

  pub behind-pushed : records_behind (buffer ++ record_bytes r) ≡ records_behind buffer ++ r ∷ []
  behind-pushed = ap or_none pushed

  pub parsed-pushed : records_of (drop 8 (buffer ++ record_bytes r)) ≡ Some (records_behind (buffer ++ record_bytes r))
  parsed-pushed = pushed ∙ ap (λ (rs : List Record). Some rs) (sym behind-pushed)

-- ---- bytes

pub IsBytes-append : (xs ys : List ℕ) → IsBytes xs → IsBytes ys → IsBytes (xs ++ ys)
IsBytes-append [] ys h k i = k i
IsBytes-append (x ∷ xs) ys h k zero = h 0
IsBytes-append (x ∷ xs) ys h k (suc i) = IsBytes-append xs ys (λ j. h (suc j)) k i

-- ---- what the record ends at

pub place-is : (gate : ℕ) (buffer : List ℕ) → IsBytes buffer → 8 ≤ length buffer → records_of (drop 8 buffer) ≡ Some (records_behind buffer) → gate + 1 + length buffer ≡ (gate + 9) + length (body (records_behind buffer))
place-is gate buffer fits front parsed = omega (arith, waits-length buffer fits front parsed)

pub push-keeps : (rs new : List Record) (r : Record) (was batch later : Bool) → new ≡ rs ++ r ∷ [] → batch ≡ open_by was rs → open_behind batch r.kind ≡ later → later ≡ open_by was new
push-keeps rs new r was batch later is opened more = sym more ∙ ap (λ b. open_behind b r.kind) opened ∙ sym (open-more was rs r) ∙ ap (open_by was) (sym is)

pub push-own : (rs new : List Record) (r : Record) → new ≡ rs ++ r ∷ [] → list_all is_own rs ≡ true → is_own r ≡ true → list_all is_own new ≡ true
push-own rs new r is h i = ap (list_all is_own) is ∙ own-more rs r h i

pub none-open : (buffer : List ℕ) (was : Bool) → length buffer ≤ 8 → was ≡ open_by was (records_behind buffer)
none-open buffer was le = ap (open_by was) (sym (none-behind buffer le))

pub none-own : (buffer : List ℕ) → length buffer ≤ 8 → list_all is_own (records_behind buffer) ≡ true
none-own buffer le = ap (list_all is_own) (none-behind buffer le)
