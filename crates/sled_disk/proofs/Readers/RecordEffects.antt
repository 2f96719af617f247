-- What a record makes, by its head.
use Rattle.std.proofs.Common.{◌≡◌, ◌≢◌, ℕ, ◌+◌, ◌-◌, Bool, true, false, List, [], ◌∷◌, ◌++◌, length, take, drop, refl, ap, sym, ◌∙◌, arith}
use Rattle.std.specs.Prelude.{Option, Some, None, ◌==◌, ◌&&◌}
use Rattle.std.proofs.lemmas.Bool.{eq-eqb, ne_eqb}
use Rattle.sled_base.specs.Kinds.{kind_of, log_kind_of}
use Rattle.sled_base.specs.declared.kinds.LogKind.{LogKind}
use Rattle.sled_base.specs.declared.kinds.LogKind.TheVariants as effects
use Rattle.sled_disk.specs.declared.recovery.head.Head.{Head}
use Rattle.sled_disk.specs.declared.format.record.RawHead.{RawHead}
use Rattle.sled_disk.specs.Format.{◌>>=◌, Record, outside, within, number, mark_id, is_begin, is_mark, marks, stands_in, is_closing, is_changing, closes_from, waits, takes_change}
use Rattle.sled_disk.specs.UnreadBytes.{piece}
use Rattle.sled_disk.specs.Reading.{Read, raw_record, step, step_head, head_at, effect_of_head}
use Rattle.sled_disk.specs.BatchChanges.{taken_by}
use Rattle.sled_disk.proofs.Chains.ChainHeads.{plain-head}

abbrev pub head_of : RawHead → ℕ → ℕ → Head
head_of raw at len = record { kind = kind_of raw.kind; place = at; len = len }

-- what a record makes whose head is known, whatever its payload and what follows
pub record Makes (seen : List ℕ) (raw : RawHead) (at len : ℕ) (so_far : Read) (made : Option Read) : Type 0 where
  pub makes : (payload : List ℕ) (mark : List Record → Bool) (rs : List Record) → length payload ≡ len → payload ≡ piece seen (at + 17) (at + (17 + len)) → mark rs ≡ marks at (raw_record raw payload) rs → step so_far at (raw_record raw payload) (mark rs) ≡ made

-- ---- the place that a closing record names

and-none : (a b c : Bool) → (a && b) ≡ false → (a && (b && c)) ≡ false
and-none true true c e = absurd cc
and-none true false c e = refl
and-none false b c e = refl

-- it names none
unnamed : (raw : RawHead) (payload : List ℕ) (len begun : ℕ) → length payload ≡ len → (raw.page == mark_id && len == 8) ≡ false → closes_from begun (raw_record raw payload) ≡ false
unnamed raw payload len begun long none = and-none (raw.page == mark_id) (length payload == 8) (number payload == begun) (ap (λ n. raw.page == mark_id && n == 8) long ∙ none)

and-same : (a b : Bool) (c : Bool) → (a && b) ≡ true → (a && (b && c)) ≡ c
and-same true true c e = refl
and-same true false c e = absurd cc
and-same false b c e = absurd cc

-- it closes a batch, and names this place
pub record Closing (seen : List ℕ) (raw : RawHead) (at len place : ℕ) : Type 0 where
  pub kind : is_closing raw.kind ≡ true
  pub ends : (raw.page == mark_id && len == 8) ≡ true
  pub eight : len ≡ 8
  pub read : place ≡ number (take 8 (drop (at + 17) seen))

-- or this one
named : {seen : List ℕ} {raw : RawHead} {at len place : ℕ} → Closing seen raw at len place → (begun : ℕ) (payload : List ℕ) → length payload ≡ len → payload ≡ piece seen (at + 17) (at + (17 + len)) → closes_from begun (raw_record raw payload) ≡ (place == begun)
named {seen = seen} {raw = raw} {at = at} {len = len} {place = place} closing begun payload long is =
    let eight = closing.eight in
    let n : at + (17 + len) - (at + 17) ≡ 8 = omega (arith, eight) in
    let target : number payload ≡ place = ap number is ∙ ap (λ n. number (take n (drop (at + 17) seen))) n ∙ sym closing.read in
    and-same (raw.page == mark_id) (length payload == 8) (number payload == begun) (ap (λ n. raw.page == mark_id && n == 8) long ∙ closing.ends) ∙ ap (λ n. n == begun) target

-- ---- a change in a batch that is begun

module _ (raw : RawHead) (settled : List (List Head)) (begun : ℕ) (inside : List (ℕ × Head)) where
  waiting-by : (kind : LogKind) (e : Head) → is_changing kind ≡ true → waits head_at (takes_change effect_of_head) kind settled (record { place = begun; inside = inside }) raw.page e ≡ Some (within settled begun (inside ++ (raw.page, e) ∷ []))
  waiting-by effects.Replace e is = refl
  waiting-by effects.Free e is = refl
  waiting-by effects.Link e is = refl
  waiting-by effects.Skip e is = absurd cc
  waiting-by effects.Corrupted e is = absurd cc

  other-by : (kind : LogKind) (e : Head) → is_changing kind ≡ false → waits head_at (takes_change effect_of_head) kind settled (record { place = begun; inside = inside }) raw.page e ≡ None
  other-by effects.Replace e is = absurd cc
  other-by effects.Free e is = absurd cc
  other-by effects.Link e is = absurd cc
  other-by effects.Skip e is = refl
  other-by effects.Corrupted e is = refl

module _ {seen : List ℕ} {raw : RawHead} {at len : ℕ} {settled : List (List Head)} where
  -- ---- outside a batch

  pub begin-made : raw.kind == 12 ≡ true → ((payload : List ℕ) → length payload ≡ len → is_begin (raw_record raw payload) ≡ true) → Makes seen raw at len (outside settled) (Some (within settled at []))
  unfolding step
  begin-made kind begins = record { makes = λ payload mark rs long ends marked. rw (kind, begins payload long) refl }

  pub begin-refused : raw.kind == 12 ≡ true → ((payload : List ℕ) → length payload ≡ len → is_begin (raw_record raw payload) ≡ false) → Makes seen raw at len (outside settled) None
  unfolding step
  begin-refused kind begins = record { makes = λ payload mark rs long ends marked. rw (kind, begins payload long) refl }

  pub plain-made : (heads : Option (List (List Head))) → raw.kind == 12 ≡ false → ((payload : List ℕ) → length payload ≡ len → is_mark (raw_record raw payload) ≡ false) → step_head settled raw.page (head_of raw at len) ≡ heads
      → Makes seen raw at len (outside settled) (heads >>= λ t. Some (outside t))
  unfolding step
  plain-made heads kind unmarked made = record {
    makes = λ payload mark rs long ends marked.
        let none : mark rs ≡ false = marked ∙ ap (λ b. b && stands_in (number payload) at (raw_record raw payload ∷ rs)) (unmarked payload long) in
        rw (kind, none) (plain-head (kind_of raw.kind) settled at (raw_record raw payload) refl)
        ∙ ap (λ n. step_head settled raw.page (head_of raw at n) >>= λ t. Some (outside t)) long
        ∙ ap (λ (x : Option (List (List Head))). x >>= λ t. Some (outside t)) made;
  }

  -- ---- inside one

  module _ {begun : ℕ} {inside : List (ℕ × Head)} where
    pub closing-unnamed : is_closing raw.kind ≡ true → (raw.page == mark_id && len == 8) ≡ false → Makes seen raw at len (within settled begun inside) None
    unfolding step
    closing-unnamed kind none = record { makes = λ payload mark rs long ends marked. let from = unnamed raw payload len begun long none in rw (kind, from) refl }

    module _ {place : ℕ} (closing : Closing seen raw at len place) where
      pub closing-other : place ≢ begun → Makes seen raw at len (within settled begun inside) None
      unfolding step
      closing-other other = record {
        makes = λ payload mark rs long ends marked.
            let kind = closing.kind in
            let from = named closing begun payload long ends ∙ ne_eqb place begun other in
            rw (kind, from) refl;
      }

      pub closing-dropped : place ≡ begun → raw.kind ≡ 14 → Makes seen raw at len (within settled begun inside) (Some (outside settled))
      unfolding step
      closing-dropped same abandoned = record { makes = λ payload mark rs long ends marked. let kind = closing.kind in rw (kind, named closing begun payload long ends ∙ eq-eqb place begun same, eq-eqb raw.kind 14 abandoned) refl }

      pub closing-counted : (heads : Option (List (List Head))) → place ≡ begun → raw.kind ≢ 14 → taken_by settled inside ≡ heads → Makes seen raw at len (within settled begun inside) (heads >>= λ t. Some (outside t))
      unfolding step
      closing-counted heads same sealed counted = record {
        makes = λ payload mark rs long ends marked.
            let kind = closing.kind in
            rw (kind, named closing begun payload long ends ∙ eq-eqb place begun same, ne_eqb raw.kind 14 sealed) (ap (λ (x : Option (List (List Head))). x >>= λ t. Some (outside t)) counted);
      }

    pub change-refused : is_closing raw.kind ≡ false → is_changing (log_kind_of (kind_of raw.kind)) ≡ false → Makes seen raw at len (within settled begun inside) None
    unfolding step
    change-refused kind other = record { makes = λ payload mark rs long ends marked. rw kind (other-by raw settled begun inside (log_kind_of (kind_of raw.kind)) (head_at at (raw_record raw payload)) other) }

    pub change-waits : is_closing raw.kind ≡ false → is_changing (log_kind_of (kind_of raw.kind)) ≡ true → Makes seen raw at len (within settled begun inside) (Some (within settled begun (inside ++ (raw.page, head_of raw at len) ∷ [])))
    unfolding step
    change-waits kind changes = record {
      makes = λ payload mark rs long ends marked.
          rw kind (waiting-by raw settled begun inside (log_kind_of (kind_of raw.kind)) (head_at at (raw_record raw payload)) changes)
          ∙ ap (λ n. Some (within settled begun (inside ++ (raw.page, head_of raw at n) ∷ []))) long;
    }
