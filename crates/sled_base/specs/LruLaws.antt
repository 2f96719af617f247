-- The laws of a list of recent use, from what an access does.
use Rattle.std.specs.Prelude.{◌≡◌, ◌≢◌, ◌⊎◌, ◌<◌, ◌+◌, ◌*◌, ◌/◌, ◌%◌, ◌==◌, not, Bool, true, false, ℕ, zero, suc, List, [], ◌∷◌, ◌++◌, length, map, reverse, filter, slice_set, slice_index_or, Contains, refl}
use Rattle.std.specs.List.{AllByRecursion}
use Rattle.std.proofs.Common.{inl, inr, sym, ap, subst, ◌∙◌, cond, arith}
use Rattle.std.proofs.lemmas.Bool.{eqb-false, ne_eqb, not-true}
use Rattle.std.proofs.lemmas.Bool.Decides.{eqb_tells}
use Rattle.std.proofs.lemmas.List.{get_or-set_same, get_or-set_other}
use Rattle.std.proofs.lemmas.List.Elements.{Contains-append_left, Contains-append_right, Contains-append_cases}
use Rattle.sled_base.specs.Limits.{shard_count}
use Rattle.sled_base.specs.Lru.{Listing, listing, Recency, others, IsUsed, shard_at, IsAccessed, IsListed, AreApart, IsSound}
use Rattle.sled_base.specs.Containing.{contains_first, contains_later, contains_cases, contains_none, contains-map, mapped_from, contains-reverse, contains-of_reverse, contains-filter, filter_contains}

abbrev places_of : List Listing → List ℕ
places_of shard = map (λ l. l.place) shard

abbrev is_other : ℕ → Listing → Bool
is_other place l = not (l.place == place)

others_lack : (place : ℕ) (shard : List Listing) (l : Listing) → Contains (others place shard) l → l.place ≢ place
others_lack place shard l h = eqb-false l.place place (not-true (l.place == place) (filter_contains (is_other place) shard l h).1)

others_contain : (place : ℕ) (shard : List Listing) (l : Listing) → l.place ≢ place → Contains shard l → Contains (others place shard) l
others_contain place shard l other h = contains-filter (is_other place) shard l (ap not (ne_eqb l.place place other)) h

-- ---- one shard

-- what is evicted was listed
record WasListed (leaves : List Listing) (place : ℕ) : Type 0 where
  listed : Listing
  there : Contains leaves listed
  is : listed.place ≡ place

was_listed : (leaves : List Listing) (gone : List ℕ) (place : ℕ) → gone ≡ reverse (places_of leaves) → Contains gone place → WasListed leaves place
was_listed leaves gone place out h =
    let m = mapped_from (λ (l : Listing). l.place) leaves place (contains-reverse (places_of leaves) place (subst (λ ps. Contains ps place) out h)) in
    record { listed = m.from; there = m.there; is = m.is }

module _ (capacity place size : ℕ) (old new : List Listing) (gone : List ℕ) (used : IsUsed capacity place size old new gone) where
  stays_lack : (l : Listing) → Contains used.stays l → l.place ≢ place
  stays_lack l h = others_lack place old l (subst (λ ls. Contains ls l) (sym used.all) (Contains-append_left used.stays used.leaves l h))

  leaves_lack : (l : Listing) → Contains used.leaves l → l.place ≢ place
  leaves_lack l h = others_lack place old l (subst (λ ls. Contains ls l) (sym used.all) (Contains-append_right used.stays used.leaves l h))

  gone_lack : (other : ℕ) → Contains gone other → other ≢ place
  gone_lack other h same =
      let w = was_listed used.leaves gone other used.out h in
      leaves_lack w.listed w.there (w.is ∙ same)

  is_first : Contains new (listing place size)
  is_first = subst (λ shard. Contains shard (listing place size)) (sym used.is) (contains_first (listing place size) used.stays)

  stays_or_leaves : (l : Listing) → l.place ≢ place → Contains old l → Contains new l ⊎ Contains gone l.place
  stays_or_leaves l other h =
      elim (Contains-append_cases used.stays used.leaves l (subst (λ ls. Contains ls l) used.all (others_contain place old l other h))) [
        | inl stays ↦ inl (subst (λ shard. Contains shard l) (sym used.is) (contains_later (listing place size) used.stays l stays))
        | inr leaves ↦ inr (subst (λ ps. Contains ps l.place) (sym used.out) (contains-of_reverse (places_of used.leaves) l.place (contains-map (λ (k : Listing). k.place) used.leaves l leaves)))
      ]

-- ---- places that are listed once

apart-filter : (p : Listing → Bool) (shard : List Listing) → AreApart shard → AreApart (filter p shard)
apart-filter p [] apart = tt
apart-filter p (l ∷ shard) apart = of_test (p l) (apart-filter p shard apart.1)
  where
    lacks : ¬ Contains (places_of (filter p shard)) l.place
    lacks h =
        let m = mapped_from (λ (k : Listing). k.place) (filter p shard) l.place h in
        apart.0 (subst (λ q. Contains (places_of shard) q) m.is (contains-map (λ (k : Listing). k.place) shard m.from (filter_contains p shard m.from m.there).0))

    of_test : (b : Bool) → AreApart (filter p shard) → AreApart (cond b (l ∷ filter p shard) (filter p shard))
    of_test true rest = (lacks, rest)
    of_test false rest = rest

apart-front : (front back : List Listing) → AreApart (front ++ back) → AreApart front
apart-front [] back apart = tt
apart-front (l ∷ front) back apart = (lacks, apart-front front back apart.1)
  where
    lacks : ¬ Contains (places_of front) l.place
    lacks h =
        let m = mapped_from (λ (k : Listing). k.place) front l.place h in
        apart.0 (subst (λ q. Contains (places_of (front ++ back)) q) m.is (contains-map (λ (k : Listing). k.place) (front ++ back) m.from (Contains-append_left front back m.from m.there)))

apart-both : (front back : List Listing) (k l : Listing) → AreApart (front ++ back) → Contains front k → Contains back l → k.place ≢ l.place
apart-both [] back k l apart in_front in_back = absurd (contains_none k in_front)
apart-both (x ∷ front) back k l apart in_front in_back =
    elim (contains_cases x front k in_front) [
      | inl same ↦ (λ e. apart.0 (subst (λ q. Contains (places_of (front ++ back)) q) (sym e ∙ ap (λ (y : Listing). y.place) (sym same)) (contains-map (λ (y : Listing). y.place) (front ++ back) l (Contains-append_right front back l in_back))))
      | inr later ↦ apart-both front back k l apart.1 later in_back
    ]

module _ (capacity place size : ℕ) (old new : List Listing) (gone : List ℕ) (used : IsUsed capacity place size old new gone) (apart : AreApart old) where
  both_apart : AreApart (used.stays ++ used.leaves)
  both_apart = subst AreApart used.all (apart-filter (is_other place) old apart)

  -- after an access each place is still listed once
  pub apart-used : AreApart new
  apart-used =
      let lacks : ¬ Contains (places_of used.stays) place = λ h. (let m = mapped_from (λ (k : Listing). k.place) used.stays place h in stays_lack capacity place size old new gone used m.from m.there m.is) in
      subst AreApart (sym used.is) (lacks, apart-front used.stays used.leaves both_apart)

  -- and what was evicted isn't listed any more
  gone_are_not_listed : (l : Listing) → Contains gone l.place → ¬ Contains new l
  gone_are_not_listed l h there =
      let w = was_listed used.leaves gone l.place used.out h in
      elim (contains_cases (listing place size) used.stays l (subst (λ shard. Contains shard l) used.is there)) [
        | inl same ↦ gone_lack capacity place size old new gone used l.place h (ap (λ (y : Listing). y.place) (sym same))
        | inr stays ↦ apart-both used.stays used.leaves l w.listed both_apart stays w.there (sym w.is)
      ]

-- ---- all shards

pub each_at : {X : Type 0} (P : X → Type 0) (xs : List X) (i : ℕ) (d : X) → P d → AllByRecursion P xs → P (slice_index_or xs i d)
each_at P [] i d default each = default
each_at P (x ∷ xs) zero d default each = each.0
each_at P (x ∷ xs) (suc i) d default each = each_at P xs i d default each.1

pub each-set : {X : Type 0} (P : X → Type 0) (xs : List X) (i : ℕ) (y : X) → P y → AllByRecursion P xs → AllByRecursion P (slice_set xs i y)
each-set P [] i y new each = tt
each-set P (x ∷ xs) zero y new each = (new, each.1)
each-set P (x ∷ xs) (suc i) y new each = (each.0, each-set P xs i y new each.1)

-- in a sound list of recent use no place is listed twice in a shard
pub shard_is_apart : (recency : Recency) (i : ℕ) → IsSound recency → AreApart (shard_at recency i)
shard_is_apart recency i sound = each_at AreApart recency.shards i [] tt sound.apart

module _ (id size : ℕ) (old new : Recency) (gone : List ℕ) (accessed : IsAccessed id size old new gone) where
  changed : length old.shards ≡ shard_count → shard_at new (id % shard_count) ≡ accessed.shard
  changed count =
      let lt : id % shard_count < length old.shards = omega (arith, count) in
      ap (λ shards. slice_index_or shards (id % shard_count) []) accessed.shards ∙ get_or-set_same old.shards (id % shard_count) accessed.shard [] lt

  unchanged : (i : ℕ) → i ≢ id % shard_count → shard_at new i ≡ shard_at old i
  unchanged i other = ap (λ shards. slice_index_or shards i []) accessed.shards ∙ get_or-set_other old.shards (id % shard_count) i accessed.shard [] other

  -- what was evicted is a page of the same shard
  record Left (other : ℕ) : Type 0 where
    there : Contains accessed.places (other / shard_count)
    shard : other % shard_count ≡ id % shard_count

  left : (other : ℕ) → Contains gone other → Left other
  left other h =
      let m = mapped_from (λ place. place * shard_count + id % shard_count) accessed.places other (subst (λ ids. Contains ids other) accessed.out h) in
      let from : m.from ≡ other / shard_count = omega (arith, m.is) in
      record { there = subst (λ place. Contains accessed.places place) from m.there; shard = omega (arith, m.is) }

  -- The page itself isn't evicted.
  pub itself_stays : ¬ Contains gone id
  itself_stays h = gone_lack (old.capacity / shard_count) (id / shard_count) size (shard_at old (id % shard_count)) accessed.shard accessed.places accessed.used (id / shard_count) (left id h).there refl

  -- It is listed with the size.
  pub itself_is_listed : length old.shards ≡ shard_count → IsListed id size new
  itself_is_listed count =
      subst (λ shard. Contains shard (listing (id / shard_count) size)) (sym (changed count)) (is_first (old.capacity / shard_count) (id / shard_count) size (shard_at old (id % shard_count)) accessed.shard accessed.places accessed.used)

  -- Another page that was listed is listed with the same size, or it is evicted.
  pub others_stay_or_leave : length old.shards ≡ shard_count → (other x : ℕ) → other ≢ id → IsListed other x old → IsListed other x new ⊎ Contains gone other
  others_stay_or_leave count other x differ listed = elim (eqb_tells (other % shard_count) (id % shard_count)) [ inl same ↦ here same.1 | inr away ↦ inl (subst (λ shard. Contains shard (listing (other / shard_count) x)) (sym (unchanged (other % shard_count) away.1)) listed) ]
    where
      here : other % shard_count ≡ id % shard_count → IsListed other x new ⊎ Contains gone other
      here same =
          let apart : other / shard_count ≢ id / shard_count = λ e. differ (omega (arith, e, same)) in
          let was : Contains (shard_at old (id % shard_count)) (listing (other / shard_count) x) = subst (λ i. Contains (shard_at old i) (listing (other / shard_count) x)) same listed in
          let is : other / shard_count * shard_count + id % shard_count ≡ other = omega (arith, same) in
          elim (stays_or_leaves (old.capacity / shard_count) (id / shard_count) size (shard_at old (id % shard_count)) accessed.shard accessed.places accessed.used (listing (other / shard_count) x) apart was) [
            | inl stays ↦ inl (subst (λ i. Contains (shard_at new i) (listing (other / shard_count) x)) (sym same) (subst (λ shard. Contains shard (listing (other / shard_count) x)) (sym (changed count)) stays))
            | inr leaves ↦ inr (subst (λ ids. Contains ids other) (sym accessed.out) (subst (λ n. Contains (map (λ place. place * shard_count + id % shard_count) accessed.places) n) is (contains-map (λ place. place * shard_count + id % shard_count) accessed.places (other / shard_count) leaves)))
          ]

  -- An evicted page isn't listed any more, if no place was listed twice in its shard.
  pub gone_is_not_listed : length old.shards ≡ shard_count → AreApart (shard_at old (id % shard_count)) → (other x : ℕ) → Contains gone other → ¬ IsListed other x new
  gone_is_not_listed count apart other x h listed =
      let was = left other h in
      gone_are_not_listed (old.capacity / shard_count) (id / shard_count) size (shard_at old (id % shard_count)) accessed.shard accessed.places accessed.used apart (listing (other / shard_count) x) was.there
      (subst (λ shard. Contains shard (listing (other / shard_count) x)) (changed count) (subst (λ i. Contains (shard_at new i) (listing (other / shard_count) x)) was.shard listed))
