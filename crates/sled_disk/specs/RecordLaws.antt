-- Reading records one after another.
use Rattle.std.proofs.Common.{◌≡◌, ℕ, zero, suc, ◌+◌, ◌≤◌, List, [], ◌∷◌, length, take, drop, refl, ap, sym, ◌∙◌, subst, inl, inr, arith}
use Rattle.std.specs.Prelude.{Option, Some, None, IfSome}
use Rattle.std.proofs.lemmas.Bool.{cases_lt, lt-ltb, le-ltb}
use Rattle.std.proofs.lemmas.List.{length-drop, length-take}
use Rattle.sled_disk.specs.Format.{◌>>=◌, Record, number, size}
use Rattle.sled_disk.specs.Reading.{record_at, records_in, records_of}

-- a record at the front of bytes, and the bytes after it, have their length
abbrev pub Whole : List ℕ → Option (Record × List ℕ) → Type 0
Whole bytes found = IfSome found (λ x. size x.0 + length x.1 ≡ length bytes)

-- a record and what follows it are all bytes
pub record_at-whole : (bytes : List ℕ) → Whole bytes (record_at bytes)
unfolding record_at
record_at-whole [] = tt
record_at-whole (kind ∷ bytes) =
    elim (cases_lt (length bytes) 16) [
      | inl few ↦ rw (lt-ltb (length bytes) 16 few) tt
      | inr head ↦ elim (cases_lt (length (drop 16 bytes)) (number (take 8 (drop 8 bytes)))) [
        | inl torn ↦ rw (le-ltb (length bytes) 16 head, lt-ltb (length (drop 16 bytes)) (number (take 8 (drop 8 bytes))) torn) tt
        | inr all ↦ rw (le-ltb (length bytes) 16 head, le-ltb (length (drop 16 bytes)) (number (take 8 (drop 8 bytes))) all)
            (let n = number (take 8 (drop 8 bytes)) in omega (arith, length-drop 16 bytes, length-take n (drop 16 bytes), length-drop n (drop 16 bytes)))
      ]
    ]

-- a record, and the records after it
abbrev pub and_then : Record → Option (List Record) → Option (List Record)
and_then r rest = rest >>= λ rs. Some (r ∷ rs)

-- more steps than bytes make no difference
same : (m n : ℕ) (bytes : List ℕ) → length bytes ≤ m → length bytes ≤ n → records_in m bytes ≡ records_in n bytes
unfolding records_in
same m n [] a b = refl
same zero n (byte ∷ bytes) a b = absurd (omega arith)
same (suc m) zero (byte ∷ bytes) a b = absurd (omega arith)
same (suc m) (suc n) (byte ∷ bytes) a b = by (record_at (byte ∷ bytes)) (record_at-whole (byte ∷ bytes)) (λ rest. same m n rest)
  where
    by : (found : Option (Record × List ℕ)) → Whole (byte ∷ bytes) found → ((rest : List ℕ) → length rest ≤ m → length rest ≤ n → records_in m rest ≡ records_in n rest)
        → (found >>= λ x. and_then x.0 (records_in m x.1)) ≡ (found >>= λ x. and_then x.0 (records_in n x.1))
    by None w next = refl
    by (Some x) w next = ap (and_then x.0) (next x.1 (omega (arith, w)) (omega (arith, w)))

-- a record at the front, and the records after it
pub records_of-more : (bytes : List ℕ) (r : Record) (rest : List ℕ) → Some (r, rest) ≡ record_at bytes → records_of bytes ≡ and_then r (records_of rest)
unfolding records_of records_in record_at
records_of-more [] r rest is = absurd cc
records_of-more (byte ∷ bytes) r rest is =
    let w : size r + length rest ≡ suc (length bytes) = subst (Whole (byte ∷ bytes)) (sym is) (record_at-whole (byte ∷ bytes)) in
    more (record_at (byte ∷ bytes)) is ∙ ap (and_then r) (same (length bytes) (length rest) rest (omega arith) (omega arith))
  where
    more : (found : Option (Record × List ℕ)) → Some (r, rest) ≡ found → (found >>= λ x. and_then x.0 (records_in (length bytes) x.1)) ≡ and_then r (records_in (length bytes) rest)
    more found is = rw (← is) refl

-- bytes that begin with no record are no records
pub records_of-none : (byte : ℕ) (bytes : List ℕ) → None ≡ record_at (byte ∷ bytes) → records_of (byte ∷ bytes) ≡ None
unfolding records_of records_in
records_of-none byte bytes is = rw (← is) refl
