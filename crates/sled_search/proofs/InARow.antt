-- A part of the changes of calls in a row is a part of the calls.
use Rattle.std.proofs.Common.{◌≡◌, ◌⊎◌, inl, inr, ℕ, zero, suc, ◌<◌, ◌≤◌, ◌+◌, ◌-◌, List, [], ◌∷◌, ◌++◌, length, take, sym, ◌∙◌, ap, subst, arith, length-append}
use Rattle.std.proofs.lemmas.Bool.{cases_lt}
use Rattle.std.proofs.lemmas.List.{take-append-le}
use Rattle.std.proofs.Math.Seq.{take-append-add}
use Rattle.sled_log.specs.Contents.{Content, Update, contents_from, contents_after}
use Rattle.sled_log.specs.Events.{Event}
use Rattle.sled_log.specs.Inside.ReadingLaws.{contents_after-append}
use Rattle.sled_search.specs.Calls.{Becomes, Call, AreCalls, changes_of, left_by, ArePrefixOf}

-- ---- a prefix of two lists

take-first : (n : ℕ) (us vs : List (Event Update)) → n ≤ length us → take n (us ++ vs) ≡ take n us
take-first n us vs le = take-append-le n us vs le

take-both : (n : ℕ) (us vs : List (Event Update)) → length us ≤ n → take n (us ++ vs) ≡ us ++ take (n - length us) vs
take-both n us vs le =
    let same : length us + (n - length us) ≡ n = omega arith in
    ap (λ k. take k (us ++ vs)) (sym same) ∙ take-append-add us vs (n - length us)

module _ {W : Type 0} (Are : List Content → W → Type 0) where
  module _ (pages : List Content) (w : W) (us vs : List (Event Update)) (n : ℕ) where
    first-part : n ≤ length us → Are (contents_after pages (take n us)) w → Are (contents_after pages (take n (us ++ vs))) w
    first-part le are = subst (λ (es : List (Event Update)). Are (contents_after pages es) w) (sym (take-first n us vs le)) are

    both-parts : length us ≤ n → Are (contents_after (contents_after pages us) (take (n - length us) vs)) w → Are (contents_after pages (take n (us ++ vs))) w
    both-parts le are = subst (λ (es : List (Event Update)). Are (contents_after pages es) w) (sym (take-both n us vs le)) (subst (λ (ps : List Content). Are ps w) (sym (contents_after-append pages us (take (n - length us) vs))) are)

  -- ---- the calls

  longer : (n i : ℕ) (call : Call W) (calls : List (Call W)) → n < length call.0 → length (call.0 ++ changes_of (take i calls)) ≤ n → ⊥
  longer n i call calls lt le = let sum = length-append call.0 (changes_of (take i calls)) in absurd (omega arith)

  module _ (call : Call W) (calls : List (Call W)) (pages : List Content) (w : W) (n : ℕ) where
    in-first : n < length call.0 → Are (contents_after pages (take n call.0)) w ⊎ Are (contents_after pages (take n call.0)) call.1 → ArePrefixOf Are pages w (call ∷ calls) n
    in-first lt (inl old) = record {
      count = zero;
      within = omega arith;
      are = first-part pages w call.0 (changes_of calls) n (omega arith) old;
      whole = before;
      begun = λ i _ _. omega arith;
    }
      where
        before : (i : ℕ) → i ≤ length (call ∷ calls) → length (changes_of (take i (call ∷ calls))) ≤ n → i ≤ zero
        before zero _ _ = omega arith
        before (suc i) _ le = absurd (longer n i call calls lt le)
    in-first lt (inr new) = record {
      count = suc zero;
      within = omega arith;
      are = first-part pages call.1 call.0 (changes_of calls) n (omega arith) new;
      whole = before;
      begun = after;
    }
      where
        before : (i : ℕ) → i ≤ length (call ∷ calls) → length (changes_of (take i (call ∷ calls))) ≤ n → i ≤ suc zero
        before zero _ _ = omega arith
        before (suc i) _ le = absurd (longer n i call calls lt le)

        after : (i : ℕ) → i ≤ length (call ∷ calls) → n < length (changes_of (take i (call ∷ calls))) → suc zero ≤ i
        after zero _ less = absurd (omega arith)
        after (suc i) _ _ = omega arith

    behind-first : length call.0 ≤ n → ArePrefixOf Are (contents_after pages call.0) call.1 calls (n - length call.0) → ArePrefixOf Are pages w (call ∷ calls) n
    behind-first le rest = record {
      count = suc rest.count;
      within = let w = rest.within in omega arith;
      are = both-parts pages (left_by call.1 (take rest.count calls)) call.0 (changes_of calls) n le rest.are;
      whole = before;
      begun = after;
    }
      where
        before : (i : ℕ) → i ≤ length (call ∷ calls) → length (changes_of (take i (call ∷ calls))) ≤ n → i ≤ suc rest.count
        before zero _ _ = omega arith
        before (suc i) within all =
            let sum = length-append call.0 (changes_of (take i calls)) in
            let some = rest.whole i (omega arith) (omega arith) in
            omega arith

        after : (i : ℕ) → i ≤ length (call ∷ calls) → n < length (changes_of (take i (call ∷ calls))) → suc rest.count ≤ i
        after zero _ less = absurd (omega arith)
        after (suc i) within less =
            let sum = length-append call.0 (changes_of (take i calls)) in
            let few = rest.begun i (omega arith) (omega arith) in
            omega arith

  pub part-of-calls : (calls : List (Call W)) (pages : List Content) (w : W) → AreCalls Are pages w calls → (n : ℕ) → n ≤ length (changes_of calls) → ArePrefixOf Are pages w calls n
  part-of-calls [] pages w are zero le = record {
    count = zero;
    within = omega arith;
    are = are;
    whole = λ i within _. within;
    begun = λ i _ _. omega arith;
  }
  part-of-calls [] pages w are (suc n) le = absurd (omega arith)
  part-of-calls (call ∷ calls) pages w (becomes, rest) n le = by (part-of-calls calls (contents_after pages call.0) call.1 rest) (cases_lt n (length call.0))
    where
      by : ((k : ℕ) → k ≤ length (changes_of calls) → ArePrefixOf Are (contents_after pages call.0) call.1 calls k) → (n < length call.0) ⊎ (length call.0 ≤ n) → ArePrefixOf Are pages w (call ∷ calls) n
      by others (inl lt) = in-first call calls pages w n lt (becomes.each n (omega arith))
      by others (inr ge) =
          let sum = length-append call.0 (changes_of calls) in
          behind-first call calls pages w n ge (others (n - length call.0) (omega arith))

  -- ---- how a call is made

  pub no-change : (pages : List Content) (w : W) → Are pages w → Becomes Are pages w [] w
  no-change pages w are = record { before = are; each = every; behind = are }
    where
      every : (n : ℕ) → n ≤ zero → Are (contents_after pages (take n [])) w ⊎ Are (contents_after pages (take n [])) w
      every zero le = inl are
      every (suc n) le = absurd (omega arith)

  pub one-change : (pages : List Content) (old new : W) (event : Event Update) → Are pages old → Are (contents_from pages event) new → Becomes Are pages old (event ∷ []) new
  one-change pages old new event was is = record { before = was; each = every; behind = is }
    where
      every : (n : ℕ) → n ≤ suc zero → Are (contents_after pages (take n (event ∷ []))) old ⊎ Are (contents_after pages (take n (event ∷ []))) new
      every zero le = inl was
      every (suc zero) le = inr is
      every (suc (suc n)) le = absurd (omega arith)

  module _ (pages : List Content) (old mid new : W) (us vs : List (Event Update)) (first : Becomes Are pages old us mid) (later : Becomes Are (contents_after pages us) mid vs new) where
    two-behind : Are (contents_after pages (us ++ vs)) new
    two-behind = subst (λ (ps : List Content). Are ps new) (sym (contents_after-append pages us vs)) later.behind

    pub two-parts : (old ≡ mid) ⊎ (mid ≡ new) → Becomes Are pages old (us ++ vs) new
    two-parts same = record { before = first.before; each = λ n le. every n le (cases_lt n (length us)); behind = two-behind }
      where
        as-first : (n : ℕ) → n ≤ length us → (old ≡ mid) ⊎ (mid ≡ new) → Are (contents_after pages (take n us)) old ⊎ Are (contents_after pages (take n us)) mid → Are (contents_after pages (take n (us ++ vs))) old ⊎ Are (contents_after pages (take n (us ++ vs))) new
        as-first n le either (inl was) = inl (first-part pages old us vs n le was)
        as-first n le (inl e) (inr is) = inl (first-part pages old us vs n le (subst (λ (m : W). Are (contents_after pages (take n us)) m) (sym e) is))
        as-first n le (inr e) (inr is) = inr (first-part pages new us vs n le (subst (λ (m : W). Are (contents_after pages (take n us)) m) e is))

        as-later : (n : ℕ) → length us ≤ n → (old ≡ mid) ⊎ (mid ≡ new) → Are (contents_after (contents_after pages us) (take (n - length us) vs)) mid ⊎ Are (contents_after (contents_after pages us) (take (n - length us) vs)) new → Are (contents_after pages (take n (us ++ vs))) old ⊎ Are (contents_after pages (take n (us ++ vs))) new
        as-later n le either (inr is) = inr (both-parts pages new us vs n le is)
        as-later n le (inl e) (inl was) = inl (both-parts pages old us vs n le (subst (λ (m : W). Are (contents_after (contents_after pages us) (take (n - length us) vs)) m) (sym e) was))
        as-later n le (inr e) (inl was) = inr (both-parts pages new us vs n le (subst (λ (m : W). Are (contents_after (contents_after pages us) (take (n - length us) vs)) m) e was))

        every : (n : ℕ) → n ≤ length (us ++ vs) → (n < length us) ⊎ (length us ≤ n) → Are (contents_after pages (take n (us ++ vs))) old ⊎ Are (contents_after pages (take n (us ++ vs))) new
        every n le (inl lt) = as-first n (omega arith) same (first.each n (omega arith))
        every n le (inr ge) = let sum = length-append us vs in as-later n ge same (later.each (n - length us) (omega arith))

  pub rows-join : (xs ys : List (Call W)) (pages : List Content) (w : W) → AreCalls Are pages w xs → AreCalls Are (contents_after pages (changes_of xs)) (left_by w xs) ys → AreCalls Are pages w (xs ++ ys)
  rows-join [] ys pages w first later = later
  rows-join (call ∷ xs) ys pages w (becomes, rest) later = (becomes, rows-join xs ys (contents_after pages call.0) call.1 rest (subst (λ (ps : List Content). AreCalls Are ps (left_by call.1 xs) ys) (contents_after-append pages call.0 (changes_of xs)) later))
