-- Reading a record inverts encoding it, and encoding inverts reading: for one record, and for a body.
use Rattle.std.proofs.Common.{◌≡◌, ℕ, zero, suc, ◌+◌, ◌^◌, ◌≤◌, ◌<◌, false, ltb, List, [], ◌∷◌, ◌++◌, length, take, drop, refl, ap, sym, ◌∙◌, subst, inl, inr, append_assoc, arith}
use Rattle.std.specs.Prelude.{Option, Some, None}
use Rattle.std.specs.List.{AllByRecursion}
use Rattle.std.proofs.lemmas.Bool.{cases_lt, lt-ltb, le-ltb}
use Rattle.std.proofs.lemmas.List.{take_at, drop_at, drop-drop, take-append-drop, length-append, length-take, length-drop, get_or-drop, get_or-take, get_or_past}
use Rattle.std.proofs.lemmas.Nat.{le_bytes_8, from_le_bytes-to_le_bytes_8}
use Rattle.sled_disk.specs.Format.{◌>>=◌, Record, number, number_bytes, record_bytes, body, Fits, IsBytes}
use Rattle.sled_disk.specs.Reading.{record_at, records_in, records_of}
use Rattle.sled_disk.specs.RecordLaws.{and_then, records_of-more}

pub IsBytes-drop : (n : ℕ) (bytes : List ℕ) → IsBytes bytes → IsBytes (drop n bytes)
IsBytes-drop n bytes h i = rw get_or-drop (h (n + i))

pub IsBytes-take : (n : ℕ) (bytes : List ℕ) → IsBytes bytes → IsBytes (take n bytes)
IsBytes-take n bytes h i =
    elim (cases_lt i n) [
      | inl lt ↦ rw (get_or-take n bytes i 0 lt) (h i)
      | inr le ↦ rw (get_or_past (take n bytes) i 0 (omega (arith, length-take n bytes))) (omega arith)
    ]

-- ---- numbers

pub number-back : (bytes : List ℕ) → length bytes ≡ 8 → IsBytes bytes → number_bytes (number bytes) ≡ bytes
unfolding number_bytes number
number-back bytes len fits = le_bytes_8 bytes _ len fits refl

pub number-again : (n : ℕ) → n < 2 ^ 64 → number (number_bytes n) ≡ n
unfolding number_bytes number
number-again n lt = from_le_bytes-to_le_bytes_8 n lt

pub number-below : (bytes : List ℕ) → IsBytes bytes → number bytes < 2 ^ 64
unfolding number
number-below bytes fits = omega (arith, fits 0, fits 1, fits 2, fits 3, fits 4, fits 5, fits 6, fits 7)

pub number_bytes-length : (n : ℕ) → length (number_bytes n) ≡ 8
unfolding number_bytes
number_bytes-length n = refl

-- the number in the first 8 of enough bytes
pub number-front : (bytes : List ℕ) → 8 ≤ length bytes → IsBytes bytes → bytes ≡ number_bytes (number (take 8 bytes)) ++ drop 8 bytes
number-front bytes long fits = rw (number-back (take 8 bytes) (omega (arith, length-take 8 bytes)) (IsBytes-take 8 bytes fits)) (sym (take-append-drop 8 bytes))

pub number-at_front : (n : ℕ) (rest : List ℕ) → n < 2 ^ 64 → number (take 8 (number_bytes n ++ rest)) ≡ n
number-at_front n rest lt = ap number (take_at (number_bytes n) rest 8 (number_bytes-length n)) ∙ number-again n lt

pub drop-number : (n : ℕ) (rest : List ℕ) → drop 8 (number_bytes n ++ rest) ≡ rest
drop-number n rest = drop_at (number_bytes n) rest 8 (number_bytes-length n)

-- ---- a record

-- what bytes must be that begin with a record
record_at-is : (kind : ℕ) (bytes : List ℕ) (id : ℕ) (payload rest : List ℕ) → 16 ≤ length bytes → number (take 8 bytes) ≡ id → number (take 8 (drop 8 bytes)) ≡ length payload → drop 16 bytes ≡ payload ++ rest
    → record_at (kind ∷ bytes) ≡ Some (record { kind = kind; id = id; payload = payload }, rest)
unfolding record_at
record_at-is kind bytes id payload rest head id-is len-is behind =
    let enough : ltb (length (payload ++ rest)) (length payload) ≡ false = le-ltb (length (payload ++ rest)) (length payload) (omega (arith, length-append payload rest)) in
    rw (le-ltb (length bytes) 16 head, len-is, behind, enough, id-is, take_at payload rest (length payload) refl, drop_at payload rest (length payload) refl) refl

pub record-again : (r : Record) (rest : List ℕ) → Fits r → record_at (record_bytes r ++ rest) ≡ Some (r, rest)
record-again r rest fits =
    let len = number_bytes (length r.payload) in
    let behind = len ++ (r.payload ++ rest) in
    let bytes = number_bytes r.id ++ behind in
    let regrouped : record_bytes r ++ rest ≡ r.kind ∷ bytes = ap (λ (l : List ℕ). r.kind ∷ l) (append_assoc (number_bytes r.id ++ len) r.payload rest ∙ append_assoc (number_bytes r.id) len (r.payload ++ rest)) in
    let second : drop 8 bytes ≡ behind = drop-number r.id behind in
    ap record_at regrouped ∙ record_at-is r.kind bytes r.id r.payload rest
    (omega (arith, length-append (number_bytes r.id) behind, length-append len (r.payload ++ rest), number_bytes-length r.id, number_bytes-length (length r.payload)))
    (number-at_front r.id behind fits.id)
    (ap (λ (l : List ℕ). number (take 8 l)) second ∙ number-at_front (length r.payload) (r.payload ++ rest) fits.payload)
    (sym (drop-drop 8 8 bytes) ∙ ap (drop 8) second ∙ drop-number (length r.payload) (r.payload ++ rest))

-- bytes that begin with a record
pub record Takes (bytes : List ℕ) (r : Record) (rest : List ℕ) : Type 0 where
  pub parts : bytes ≡ record_bytes r ++ rest
  pub fits : Fits r
  pub rest_fits : IsBytes rest

abbrev found : {A : Type 0} → A → Option A
found x = Some x

some_is : {A : Type 0} (x y : A) → found x ≡ found y → x ≡ y
some_is x y e = cc

pub record-takes : (bytes : List ℕ) (r : Record) (rest : List ℕ) → IsBytes bytes → record_at bytes ≡ Some (r, rest) → Takes bytes r rest
unfolding record_at
record-takes [] r rest fits e = absurd cc
record-takes (kind ∷ bytes) r rest fits e =
    let below : IsBytes bytes = λ i. fits (suc i) in
    let n = number (take 8 (drop 8 bytes)) in
    let behind = drop 16 bytes in
    elim (cases_lt (length bytes) 16) [
      | inl few ↦ absurd (let f = lt-ltb (length bytes) 16 few in let g = rw f at e in cc)
      | inr head ↦ elim (cases_lt (length behind) n) [
        | inl torn ↦ absurd (let f = le-ltb (length bytes) 16 head in let t = lt-ltb (length behind) n torn in let g = rw (f, t) at e in cc)
        | inr all ↦
            let f = le-ltb (length bytes) 16 head in
            let t = le-ltb (length behind) n all in
            let g = rw (f, t) at e in
            let made : Record × List ℕ = (record { kind = kind; id = number (take 8 bytes); payload = take n behind }, drop n behind) in
            let len : length (take n behind) ≡ n = omega (arith, length-take n behind) in
            let first = number-front bytes (omega arith) below in
            let second = number-front (drop 8 bytes) (omega (arith, length-drop 8 bytes)) (IsBytes-drop 8 bytes below) in
            let third : drop 8 (drop 8 bytes) ≡ take n behind ++ drop n behind = drop-drop 8 8 bytes ∙ sym (take-append-drop n behind) in
            let id = number_bytes (number (take 8 bytes)) in
            subst (λ (x : Record × List ℕ). Takes (kind ∷ bytes) x.0 x.1) (some_is made (r, rest) g) (record {
              parts = ap (λ (l : List ℕ). kind ∷ l) (
                  first ∙ ap (λ (l : List ℕ). id ++ l) (second ∙ ap (λ (l : List ℕ). number_bytes n ++ l) third) ∙ sym (append_assoc id (number_bytes n) (take n behind ++ drop n behind))
                  ∙ sym (append_assoc (id ++ number_bytes n) (take n behind) (drop n behind)) ∙ ap (λ m. ((id ++ number_bytes m) ++ take n behind) ++ drop n behind) (sym len));
              fits = record { id = number-below (take 8 bytes) (IsBytes-take 8 bytes below); payload = let b = number-below (take 8 (drop 8 bytes)) (IsBytes-take 8 (drop 8 bytes) (IsBytes-drop 8 bytes below)) in omega arith };
              rest_fits = IsBytes-drop n behind (IsBytes-drop 16 bytes below);
            })
      ]
    ]

-- ---- a body

pub records-again : (rs : List Record) → AllByRecursion Fits rs → records_of (body rs) ≡ Some rs
unfolding records_of records_in
records-again [] fits = refl
records-again (r ∷ rs) fits = records_of-more (body (r ∷ rs)) r (body rs) (sym (record-again r (body rs) fits.0)) ∙ ap (and_then r) (records-again rs fits.1)

abbrev IsBody : List ℕ → List Record → Type 0
IsBody bytes rs = (bytes ≡ body rs) × AllByRecursion Fits rs

records_in-take : (most : ℕ) (bytes : List ℕ) (rs : List Record) → IsBytes bytes → records_in most bytes ≡ Some rs → IsBody bytes rs
unfolding records_in
records_in-take most [] rs fits e = subst (IsBody []) (some_is [] rs e) (refl, tt)
records_in-take zero (byte ∷ bytes) rs fits e = absurd cc
records_in-take (suc most) (byte ∷ bytes) rs fits e = by (record_at (byte ∷ bytes)) refl e (λ (rest : List ℕ) (others : List Record). records_in-take most rest others)
  where
    more : (r : Record) (rest : List ℕ) (parsed : Option (List Record)) → Takes (byte ∷ bytes) r rest → ((others : List Record) → parsed ≡ Some others → IsBody rest others) → and_then r parsed ≡ Some rs → IsBody (byte ∷ bytes) rs
    more r rest None t next e = absurd cc
    more r rest (Some others) t next e =
        let o = next others refl in
        subst (IsBody (byte ∷ bytes)) (some_is (r ∷ others) rs e) (t.parts ∙ ap (λ (l : List ℕ). record_bytes r ++ l) o.0, (t.fits, o.1))

    by : (x : Option (Record × List ℕ)) → record_at (byte ∷ bytes) ≡ x → (x >>= λ x. and_then x.0 (records_in most x.1)) ≡ Some rs
        → ((rest : List ℕ) (others : List Record) → IsBytes rest → records_in most rest ≡ Some others → IsBody rest others) → IsBody (byte ∷ bytes) rs
    by None is e next = absurd cc
    by (Some x) is e next =
        let t = record-takes (byte ∷ bytes) x.0 x.1 fits is in
        more x.0 x.1 (records_in most x.1) t (λ others. next x.1 others t.rest_fits) e

pub records-take : (bytes : List ℕ) (rs : List Record) → IsBytes bytes → records_of bytes ≡ Some rs → (bytes ≡ body rs) × AllByRecursion Fits rs
unfolding records_of
records-take bytes rs fits e = records_in-take (length bytes) bytes rs fits e
