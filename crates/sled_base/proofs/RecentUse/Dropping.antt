-- The places that leave a shard, one after another from the last on.
use Rattle.std.proofs.Common.{inl, inr, ◌≡◌, ◌≢◌, ℕ, ◌+◌, ◌<◌, ◌≤◌, Bool, List, [], ◌∷◌, ◌++◌, length, map, take, drop, get_or, refl, sym, ap, subst, ◌∙◌, arith}
use Rattle.std.specs.Prelude.{Contains, filter, reverse, ◌==◌, ◌⊎◌}
use Rattle.std.proofs.lemmas.Grind.{reverse_onto}
use Rattle.std.proofs.lemmas.Bool.{eq-eqb}
use Rattle.std.proofs.lemmas.List.{append_assoc, append-nil, length-append, take_at, drop_at}
use Rattle.std.proofs.lemmas.List.Filters.{sum_by-filter_both, length-filter_both}
use Rattle.std.proofs.lemmas.List.Sums.{get_or-le-sum_by}
use Rattle.sled_base.specs.Containing.{contains-filter}
use Rattle.sled_base.specs.Lru.{Listing, listing, total, others, IsUsed, IsWithin, IsTooMuch}
use Rattle.sled_base.specs.Shards.{IsCut}
use Rattle.sled_base.proofs.RecentUse.Keeping.{is_other, total-append, total-cons}

-- lists that are equal have equal parts, where the second parts are as long
same_parts : {X : Type 0} (a b c d : List X) → a ++ b ≡ c ++ d → length b ≡ length d → (a ≡ c) × (b ≡ d)
same_parts a b c d is long =
    let equal : length a ≡ length c = omega (arith, ap length is, length-append a b, length-append c d) in
    (sym (take_at a b (length a) refl) ∙ ap (take (length a)) is ∙ take_at c d (length a) (sym equal), sym (drop_at a b (length a) refl) ∙ ap (drop (length a)) is ∙ drop_at c d (length a) (sym equal))

-- So many have left, from the last on.
pub record HaveLeft (start now : List Listing) (gone : List ℕ) (count : ℕ) : Type 0 where
  pub out : List Listing
  pub all : start ≡ now ++ out
  pub counted : count ≡ length out
  pub gone_is : gone ≡ reverse (map (λ l. l.place) out)

pub none_left : (start : List Listing) (gone : List ℕ) → gone ≡ [] → HaveLeft start start gone 0
none_left start gone none = record { out = []; all = sym (append-nil start); counted = refl; gone_is = none }

pub one_more : (start now new : List Listing) (gone more : List ℕ) (count place size : ℕ) → HaveLeft start now gone count → now ≡ new ++ listing place size ∷ [] → more ≡ gone ++ place ∷ [] → HaveLeft start new more (count + 1)
one_more start now new gone more count place size left is pushed = record {
  out = listing place size ∷ left.out;
  all = left.all ∙ ap (λ ls. ls ++ left.out) is ∙ append_assoc new (listing place size ∷ []) left.out;
  counted = omega (arith, left.counted);
  gone_is = pushed ∙ ap (λ ps. ps ++ place ∷ []) left.gone_is ∙ sym (reverse_onto (map (λ (l : Listing). l.place) left.out) place []);
}

-- as long as fewer have left than leave, something is listed
pub some_stay : (start now : List Listing) (gone : List ℕ) (count : ℕ) → HaveLeft start now gone count → count < length start → now ≢ []
some_stay start now gone count left more none =
    omega (arith, more, left.counted, ap length left.all, length-append now left.out, ap length none)

pub all_left : (capacity place size : ℕ) (old start now : List Listing) (gone : List ℕ) (count : ℕ) → IsCut capacity place size old count → start ≡ listing place size ∷ others place old → HaveLeft start now gone count → IsUsed capacity place size old now gone
all_left capacity place size old start now gone count cut is left =
    let parts = same_parts now left.out (listing place size ∷ cut.stays) cut.leaves (sym left.all ∙ is ∙ ap (λ ls. listing place size ∷ ls) cut.all) (sym left.counted ∙ cut.counted) in
    let fits : (total now ≤ capacity) ⊎ (cut.stays ≡ []) = elim cut.fits [ inl small ↦ inl (omega (arith, small, ap total parts.0, total-cons (listing place size) cut.stays)) | inr none ↦ inr none ] in
    record {
      stays = cut.stays;
      leaves = cut.leaves;
      all = cut.all;
      is = parts.0;
      out = left.gone_is ∙ ap (λ ls. reverse (map (λ (l : Listing). l.place) ls)) parts.1;
      fits = fits;
      needed = subst (λ ls. IsTooMuch capacity ls cut.leaves) (sym parts.0) cut.needed;
    }

-- ---- where nothing leaves

-- a place that is listed takes its part of all
record IsPart (place size : ℕ) (old : List Listing) : Type 0 where
  sizes : size + total (others place old) ≤ total old
  places : length (others place old) < length old

is_part : (place size : ℕ) (old : List Listing) → Contains old (listing place size) → IsPart place size old
is_part place size old there =
    let is_place : Listing → Bool = λ l. l.place == place in
    let entry_size : Listing → ℕ = λ l. l.size in
    let mine = contains-filter is_place old (listing place size) (eq-eqb place place refl) there in
    let part = get_or-le-sum_by entry_size (filter is_place old) mine.0 (listing place size) mine.1 in
    let is : entry_size (get_or (filter is_place old) mine.0 (listing place size)) ≡ size = ap entry_size mine.2 in
    let sizes = sum_by-filter_both is_place (is_other place) (λ _. refl) entry_size old in
    let places = length-filter_both is_place (is_other place) (λ _. refl) old in
    record { sizes = omega (arith, part, is, sizes); places = omega (arith, mine.1, places) }

pub none_leave : (capacity place size count : ℕ) (old : List Listing) → IsCut capacity place size old count → Contains old (listing place size) → IsWithin capacity old → count ≡ 0
none_leave capacity place size count old cut there within = of_leaves cut.leaves cut.all cut.counted cut.needed
  where
    of_leaves : (leaves : List Listing) → others place old ≡ cut.stays ++ leaves → count ≡ length leaves → IsTooMuch capacity (listing place size ∷ cut.stays) leaves → count ≡ 0
    of_leaves [] all counted needed = counted
    of_leaves (first ∷ leaves) all counted needed =
        let part = is_part place size old there in
        let sizes = ap total all ∙ total-append cut.stays (first ∷ leaves) ∙ ap (λ n. total cut.stays + n) (total-cons first leaves) in
        let over = total-cons (listing place size) (cut.stays ++ first ∷ []) ∙ ap (λ n. size + n) (total-append cut.stays (first ∷ []) ∙ ap (λ n. total cut.stays + n) (total-cons first [])) in
        let places = ap length all ∙ length-append cut.stays (first ∷ leaves) in
        elim within [ inl fits ↦ absurd (omega (arith, fits, part.sizes, sizes, over, needed)) | inr single ↦ absurd (omega (arith, single, part.places, places)) ]
