-- How far a log has looked for the message that is next to be named.
use Rattle.std.proofs.Common.{◌≡◌, ◌⊎◌, inl, inr, ⊎_elim, ℕ, ◌+◌, ◌≤◌, ◌<◌, Bool, true, false, List, [], ◌∷◌, ◌++◌, length, drop, refl, ap, sym, ◌∙◌, subst, append_assoc, arith}
use Rattle.std.specs.Prelude.{nat_le, nat_lt, ◌==◌, ◌||◌, ◌&&◌, not, if◌then◌else◌}
use Rattle.std.specs.List.{AllByRecursion}
use Rattle.std.proofs.lemmas.Bool.{le-leb, lt-leb, leb-true, cases_lt, eqb-true, ltb-true, ltb-false}
use Rattle.std.proofs.lemmas.List.{append-nil}
use Rattle.std.proofs.lemmas.List.Elements.{filter-append}
use Rattle.sled_base.specs.Kinds.{kind_of, log_kind_of}
use Rattle.sled_base.specs.declared.kinds.LogKind.{LogKind}
use Rattle.sled_base.specs.declared.kinds.LogKind.TheVariants as effects
use Rattle.sled_disk.specs.declared.log.names.Names.{Names}
use Rattle.sled_disk.specs.CountedMessages.{placed, all_placed, placed_from, placed_in, is_kept, counted_messages, is_own_from, Looks, IsLooked}
use Rattle.sled_disk.specs.Cursor.{is_among, IsAmong}
use Rattle.sled_disk.specs.Format.{Record, Frame, size, body, is_closing}
use Rattle.sled_disk.specs.MeaningLaws.{gate_after, gate_after-is}
use Rattle.sled_disk.specs.Names.{from_place, named_by, looks_at, behind_gate, behind_begin, behind_closing, behind_record}
use Rattle.sled_disk.specs.Pending.{is_own}
use Rattle.sled_disk.specs.PendingLaws.{body-more}
use Rattle.sled_disk.specs.Reading.{frames_of}
use Rattle.sled_disk.specs.LogContents.{or_none}
use Rattle.sled_disk.proofs.Moves.RecordPlaces.{between-most, between-more, StandsIn, stands, is-among, stands-other, stands-written, from-append, frames-kept, end_of}
use Rattle.sled_disk.proofs.Moves.CountedMessages.{message_of, kept-own, first-counts, plain-counts}

-- ---- messages from a place on

pub names-append : (at : ℕ) (xs ys : List (ℕ × ℕ)) → from_place at (xs ++ ys) ≡ from_place at xs ++ from_place at ys
names-append at xs ys = filter-append (λ message. nat_le at message.1) xs ys

one-name : (at id place : ℕ) → at ≤ place → from_place at ((id, place) ∷ []) ≡ (id, place) ∷ []
one-name at id place le = rw (le-leb at place le) refl

no-name : (at id place : ℕ) → place < at → from_place at ((id, place) ∷ []) ≡ []
no-name at id place lt = rw (lt-leb at place lt) refl

pub named-kept : (kind : LogKind) (id at place : ℕ) → at ≤ place → from_place at (named_by kind id place) ≡ named_by kind id place
named-kept effects.Replace id at place le = one-name at id place le
named-kept effects.Free id at place le = one-name at id place le
named-kept effects.Link id at place le = one-name at id place le
named-kept effects.Skip id at place le = refl
named-kept effects.Corrupted id at place le = refl

pub named-dropped : (kind : LogKind) (id at place : ℕ) → place < at → from_place at (named_by kind id place) ≡ []
named-dropped effects.Replace id at place lt = no-name at id place lt
named-dropped effects.Free id at place lt = no-name at id place lt
named-dropped effects.Link id at place lt = no-name at id place lt
named-dropped effects.Skip id at place lt = refl
named-dropped effects.Corrupted id at place lt = refl

-- from a later place on alone
names-twice : (m n : ℕ) (names : List (ℕ × ℕ)) → m ≤ n → from_place n (from_place m names) ≡ from_place n names
names-twice m n [] le = refl
names-twice m n (name ∷ names) le = elim (cases_lt name.1 m) [
  | inl lt ↦ let first = lt-leb m name.1 lt in let second = lt-leb n name.1 (omega (arith, lt, le)) in rw (first, second) (names-twice m n names le)
  | inr some ↦ let first = le-leb m name.1 some in rw first (ap (λ (l : List (ℕ × ℕ)). if nat_le n name.1 then name ∷ l else l) (names-twice m n names le))
]

-- ---- records from a place on

abbrev AllFrom : ℕ → List (ℕ × Record) → Type 0
AllFrom n records = AllByRecursion (λ x. n ≤ x.0) records

all-from : (n : ℕ) (records : List (ℕ × Record)) → AllFrom n (placed_from n records)
all-from n [] = tt
all-from n (x ∷ xs) = by (nat_le n x.0) refl (all-from n xs)
  where
    by : (b : Bool) → nat_le n x.0 ≡ b → AllFrom n (placed_from n xs) → AllFrom n (if b then x ∷ placed_from n xs else placed_from n xs)
    by true is others = (leb-true n x.0 is, others)
    by false is others = others

-- the part of a first record, whatever kind it has
pub counting-kept : (n : ℕ) (kept : Bool) (records : List (ℕ × Record)) → AllFrom n records → from_place n (counted_messages kept records) ≡ counted_messages kept records
counting-kept n kept [] all = refl
counting-kept n kept (x ∷ xs) all = by (x.1.kind == 12) (is_closing x.1.kind) kept (λ k. counting-kept n k xs all.1)
  where
    m : List (ℕ × ℕ)
    m = message_of x.0 x.1

    part : Bool → Bool → Bool → List (ℕ × ℕ)
    part a c k = if a then counted_messages (is_kept xs) xs else if c then counted_messages true xs else (if k then m else []) ++ counted_messages k xs

    by : (a c k : Bool) → ((j : Bool) → from_place n (counted_messages j xs) ≡ counted_messages j xs) → from_place n (part a c k) ≡ part a c k
    by true c k others = others (is_kept xs)
    by false true k others = others true
    by false false true others =
        names-append n m (counted_messages true xs)
        ∙ ap (λ (l : List (ℕ × ℕ)). l ++ from_place n (counted_messages true xs)) (named-kept (log_kind_of (kind_of x.1.kind)) x.1.id n x.0 all.0)
        ∙ ap (λ (l : List (ℕ × ℕ)). m ++ l) (others true)
    by false false false others = others false

pub from-kept : (n : ℕ) (kept : Bool) (records : List (ℕ × Record)) → from_place n (counted_messages kept (placed_from n records)) ≡ counted_messages kept (placed_from n records)
from-kept n kept records = counting-kept n kept (placed_from n records) (all-from n records)

-- ---- one record more, of the log's own

own-one : (r : Record) → is_own r ≡ true → (if is_closing r.kind then not (r.kind == 14) else true) ≡ true
own-one r own = by (is_closing r.kind) (r.kind == 14) refl
  where
    by : (c z : Bool) → r.kind == 14 ≡ z → (if c then not z else true) ≡ true
    by true true e = absurd (let lt = ltb-true r.kind 14 own in let is = eqb-true r.kind 14 e in omega arith)
    by true false e = refl
    by false z e = refl

pub kept-more : (records : List (ℕ × Record)) (x : ℕ × Record) → is_own x.1 ≡ true → is_kept (records ++ x ∷ []) ≡ is_kept records
kept-more [] x own = own-one x.1 own
kept-more (y ∷ ys) x own = ap (λ b. if is_closing y.1.kind then not (y.1.kind == 14) else b) (kept-more ys x own)

pub counting-more : (kept : Bool) (records : List (ℕ × Record)) (x : ℕ × Record) → is_own x.1 ≡ true → (kept ≡ true) ⊎ (kept ≡ is_kept records) → counted_messages kept (records ++ x ∷ []) ≡ counted_messages kept records ++ message_of x.0 x.1
counting-more kept [] x own is =
    let all : kept ≡ true = ⊎_elim (λ e. e) (λ e. e) is in
    ap (λ k. counted_messages k (x ∷ [])) all ∙ first-counts x.0 x.1 [] refl ∙ append-nil (message_of x.0 x.1)
counting-more kept (y ∷ ys) x own is = by (y.1.kind == 12) (is_closing y.1.kind) refl kept is (λ k same. counting-more k ys x own same)
  where
    m : List (ℕ × ℕ)
    m = message_of y.0 y.1

    n : List (ℕ × ℕ)
    n = message_of x.0 x.1

    part : Bool → Bool → Bool → List (ℕ × Record) → List (ℕ × ℕ)
    part a c k behind = if a then counted_messages (is_kept behind) behind else if c then counted_messages true behind else (if k then m else []) ++ counted_messages k behind

    by : (a c : Bool) → is_closing y.1.kind ≡ c → (k : Bool) → (k ≡ true) ⊎ (k ≡ (if is_closing y.1.kind then not (y.1.kind == 14) else is_kept ys))
        → ((j : Bool) → (j ≡ true) ⊎ (j ≡ is_kept ys) → counted_messages j (ys ++ x ∷ []) ≡ counted_messages j ys ++ n) → part a c k (ys ++ x ∷ []) ≡ part a c k ys ++ n
    by true c e k is others = ap (λ b. counted_messages b (ys ++ x ∷ [])) (kept-more ys x own) ∙ others (is_kept ys) (inr refl)
    by false true e k is others = others true (inl refl)
    by false false e k is others =
        ap (λ (l : List (ℕ × ℕ)). (if k then m else []) ++ l) (others k (⊎_elim (λ t. inl t) (λ same. inr (same ∙ ap (λ c. if c then not (y.1.kind == 14) else is_kept ys) e)) is))
        ∙ sym (append_assoc (if k then m else []) (counted_messages k ys) n)

-- ---- what the log wrote itself

abbrev OwnFrom : ℕ → List (ℕ × Record) → Type 0
OwnFrom own records = AllByRecursion (λ x. own ≤ x.0 → is_own x.1 ≡ true) records

each-own : (own : ℕ) (records : List (ℕ × Record)) → is_own_from own records ≡ true → OwnFrom own records
each-own own [] all = tt
each-own own (x ∷ xs) all = by (nat_lt x.0 own) refl (is_own x.1) refl all (each-own own xs)
  where
    by : (a : Bool) → nat_lt x.0 own ≡ a → (b : Bool) → is_own x.1 ≡ b → (a || b) && is_own_from own xs ≡ true → (is_own_from own xs ≡ true → OwnFrom own xs) → OwnFrom own (x ∷ xs)
    by true i b j all others = (λ le. absurd (let lt = ltb-true x.0 own i in omega (arith, lt, le)), others all)
    by false i true j all others = (λ le. j, others all)
    by false i false j all others = absurd cc

all-own : (own : ℕ) (records : List (ℕ × Record)) → OwnFrom own records → is_own_from own records ≡ true
all-own own [] each = refl
all-own own (x ∷ xs) each = by (nat_lt x.0 own) refl (all-own own xs each.1)
  where
    by : (a : Bool) → nat_lt x.0 own ≡ a → is_own_from own xs ≡ true → (a || is_own x.1) && is_own_from own xs ≡ true
    by true i others = others
    by false i others = let le = ltb-false x.0 own i in ap (λ b. b && is_own_from own xs) (each.0 le) ∙ others

-- from a place on that is its own, a batch is kept
own-keeps : (own n : ℕ) (records : List (ℕ × Record)) → own ≤ n → OwnFrom own records → is_kept (placed_from n records) ≡ true
own-keeps own n [] le all = refl
own-keeps own n (x ∷ xs) le all = by (nat_le n x.0) refl (own-keeps own n xs le all.1)
  where
    by : (b : Bool) → nat_le n x.0 ≡ b → is_kept (placed_from n xs) ≡ true → is_kept (if b then x ∷ placed_from n xs else placed_from n xs) ≡ true
    by true is others = let here = leb-true n x.0 is in kept-own x.1 (is_kept (placed_from n xs)) (all.0 (omega (arith, here, le))) others
    by false is others = others

own-more : (own : ℕ) (records : List (ℕ × Record)) (x : ℕ × Record) → is_own x.1 ≡ true → OwnFrom own records → OwnFrom own (records ++ x ∷ [])
own-more own [] x is all = (λ le. is, tt)
own-more own (y ∷ ys) x is all = (all.0, own-more own ys x is all.1)

own-later : (own : ℕ) (xs ys : List (ℕ × Record)) → OwnFrom own xs → OwnFrom own ys → OwnFrom own (xs ++ ys)
own-later own [] ys first others = others
own-later own (x ∷ xs) ys first others = (first.0, own-later own xs ys first.1 others)

-- no record stands there yet
placed-before : (own place : ℕ) (rs : List Record) → place + length (body rs) ≤ own → OwnFrom own (placed place rs)
placed-before own place [] le = tt
placed-before own place (r ∷ rs) le =
    let more = body-more place r rs in
    (λ here. absurd (omega (arith, le, here, more)), placed-before own (place + size r) rs (omega (arith, le, more)))

-- ---- a record or a gate was gone over

-- a list by its first record
begins-counting : (at : ℕ) (it : Record) (behind : List (ℕ × Record)) (kept : Bool) → it.kind == 12 ≡ true → counted_messages kept ((at, it) ∷ behind) ≡ counted_messages (is_kept behind) behind
begins-counting at it behind kept is = ap (λ a. if a then counted_messages (is_kept behind) behind else if is_closing it.kind then counted_messages true behind else (if kept then message_of at it else []) ++ counted_messages kept behind) is

closes-counting : (at : ℕ) (it : Record) (behind : List (ℕ × Record)) (kept : Bool) → it.kind == 12 ≡ false → is_closing it.kind ≡ true → counted_messages kept ((at, it) ∷ behind) ≡ counted_messages true behind
closes-counting at it behind kept other is =
    ap (λ a. if a then counted_messages (is_kept behind) behind else if is_closing it.kind then counted_messages true behind else (if kept then message_of at it else []) ++ counted_messages kept behind) other
    ∙ ap (λ c. if c then counted_messages true behind else (if kept then message_of at it else []) ++ counted_messages kept behind) is

-- inside an abandoned batch
drops-counting : (at : ℕ) (it : Record) (behind : List (ℕ × Record)) → is_closing it.kind ≡ false → is_kept behind ≡ false → counted_messages false ((at, it) ∷ behind) ≡ counted_messages false behind
drops-counting at it behind other none = by (it.kind == 12)
  where
    by : (a : Bool) → (if a then counted_messages (is_kept behind) behind else if is_closing it.kind then counted_messages true behind else counted_messages false behind) ≡ counted_messages false behind
    by true = ap (λ k. counted_messages k behind) none
    by false = ap (λ c. if c then counted_messages true behind else counted_messages false behind) other

closing-other : (kind : ℕ) → is_closing kind ≡ true → kind == 12 ≡ false
closing-other kind is = by (kind == 13) (kind == 1) (kind == 14) refl refl refl is
  where
    of : (k : ℕ) → (k == 12) ≡ false → kind ≡ k → kind == 12 ≡ false
    of k other same = ap (λ n. n == 12) same ∙ other

    by : (x y z : Bool) → kind == 13 ≡ x → kind == 1 ≡ y → kind == 14 ≡ z → x || (y || z) ≡ true → kind == 12 ≡ false
    by true y z i j k is = of 13 refl (eqb-true kind 13 i)
    by false true z i j k is = of 1 refl (eqb-true kind 1 j)
    by false false true i j k is = of 14 refl (eqb-true kind 14 k)
    by false false false i j k is = absurd cc

module _ (records : List (ℕ × Record)) where
  abbrev all : List (ℕ × ℕ)
  all = counted_messages true records

  -- messages before a place are none of those from there on
  behind-names : (at next : ℕ) (kept : Bool) (named : List (ℕ × ℕ)) → at ≤ next → from_place next named ≡ [] → from_place at all ≡ named ++ counted_messages kept (placed_from next records) → from_place next all ≡ counted_messages kept (placed_from next records)
  behind-names at next kept named le none is =
      sym (names-twice at next all le) ∙ ap (from_place next) is ∙ names-append next named (counted_messages kept (placed_from next records))
      ∙ ap (λ (l : List (ℕ × ℕ)). l ++ from_place next (counted_messages kept (placed_from next records))) none ∙ from-kept next kept records

  -- it was gone over, and these messages were passed
  pub record Went (old new : Names) (named : List (ℕ × ℕ)) : Type 0 where
    pub looks : Looks records new
    pub messages : from_place old.at all ≡ named ++ from_place new.at all

  -- the messages of a record that was passed
  abbrev pub passed_by : Names → ℕ → ℕ → List (ℕ × ℕ)
  passed_by old kind id = if old.seeks then [] else if kind == 12 && nat_lt old.at old.own then [] else named_by (log_kind_of (kind_of kind)) id old.at

  module _ (names : Names) (looks : Looks records names) (it : Record) where
    module _ (next : ℕ) (closed : names.seeks ≡ false) (is : placed_from names.at records ≡ (names.at, it) ∷ placed_from next records) (lt : names.at < next) where
      begin-went : it.kind == 12 ≡ true → Went names (behind_begin names next) []
      begin-went begins =
          let first = looks.counts closed ∙ ap (counted_messages true) is ∙ begins-counting names.at it (placed_from next records) true begins in
          let later = behind-names names.at next (is_kept (placed_from next records)) [] (omega (arith, lt)) refl first in
          record {
            looks = record { own = looks.own; counts = λ e. absurd cc; seeks = λ e. later; behind = λ e. omega arith; kept = λ e. refl; none = λ e none. refl };
            messages = first ∙ sym later;
          }

      -- it begins no batch, or one of the log's own
      plain-counted : it.kind == 12 && nat_lt names.at names.own ≡ false → counted_messages true ((names.at, it) ∷ placed_from next records) ≡ message_of names.at it ++ counted_messages true (placed_from next records)
      plain-counted other = by (it.kind == 12) refl (nat_lt names.at names.own) refl other
        where
          by : (a : Bool) → it.kind == 12 ≡ a → (b : Bool) → nat_lt names.at names.own ≡ b → a && b ≡ false → counted_messages true ((names.at, it) ∷ placed_from next records) ≡ message_of names.at it ++ counted_messages true (placed_from next records)
          by false i b j none = plain-counts names.at it (placed_from next records) i
          by true i true j none = absurd cc
          by true i false j none = let le = ltb-false names.at names.own j in first-counts names.at it (placed_from next records) (own-keeps names.own next records (omega (arith, le, lt)) (each-own names.own records looks.own))

      plain-went : it.kind == 12 && nat_lt names.at names.own ≡ false → Went names (record names { at = next }) (message_of names.at it)
      plain-went other =
          let first = looks.counts closed ∙ ap (counted_messages true) is ∙ plain-counted other in
          let later = behind-names names.at next true (message_of names.at it) (omega (arith, lt)) (named-dropped (log_kind_of (kind_of it.kind)) it.id next names.at lt) first in
          record {
            looks = record { own = looks.own; counts = λ e. later; seeks = λ e. absurd cc; behind = λ e. absurd cc; kept = λ e. absurd cc; none = λ e none. absurd cc };
            messages = first ∙ ap (λ (l : List (ℕ × ℕ)). message_of names.at it ++ l) (sym later);
          }

    module _ (next : ℕ) (open_yet : names.seeks ≡ true) (is : placed_from names.ahead records ≡ (names.ahead, it) ∷ placed_from next records) (lt : names.ahead < next) where
      ahead-went : is_closing it.kind ≡ false → Went names (record names { ahead = next }) []
      ahead-went other =
          let same : is_kept (placed_from names.ahead records) ≡ is_kept (placed_from next records) = ap is_kept is ∙ ap (λ c. if c then not (it.kind == 14) else is_kept (placed_from next records)) other in
          let le = looks.behind open_yet in
          record {
            looks = record {
              own = looks.own;
              counts = λ e. absurd cc;
              seeks = looks.seeks;
              behind = λ e. omega (arith, le, lt);
              kept = λ e. looks.kept open_yet ∙ same;
              none = λ e none. looks.none open_yet (same ∙ none) ∙ ap (counted_messages false) is ∙ drops-counting names.ahead it (placed_from next records) other none;
            };
            messages = refl;
          }

      kept-is : is_closing it.kind ≡ true → (z : Bool) → it.kind == 14 ≡ z → is_kept (placed_from names.at records) ≡ not z
      kept-is closes z e = looks.kept open_yet ∙ ap is_kept is ∙ ap (λ c. if c then not (it.kind == 14) else is_kept (placed_from next records)) closes ∙ ap not e

      abandoned-went : is_closing it.kind ≡ true → it.kind == 14 ≡ true → Went names (behind_closing names true next) []
      abandoned-went closes e =
          let le = looks.behind open_yet in
          let here : is_kept (placed_from names.ahead records) ≡ false = sym (looks.kept open_yet) ∙ kept-is closes true e in
          let first = looks.seeks open_yet ∙ ap (λ k. counted_messages k (placed_from names.at records)) (kept-is closes true e) ∙ looks.none open_yet here
          ∙ ap (counted_messages false) is ∙ closes-counting names.ahead it (placed_from next records) false (closing-other it.kind closes) closes in
          let later = behind-names names.at next true [] (omega (arith, le, lt)) refl first in
          record {
            looks = record { own = looks.own; counts = λ e. later; seeks = λ e. absurd cc; behind = λ e. absurd cc; kept = λ e. absurd cc; none = λ e none. absurd cc };
            messages = first ∙ sym later;
          }

      closed-went : is_closing it.kind ≡ true → it.kind == 14 ≡ false → Went names (behind_closing names false next) []
      closed-went closes e = record {
        looks = record { own = looks.own; counts = λ _. looks.seeks open_yet ∙ ap (λ k. counted_messages k (placed_from names.at records)) (kept-is closes false e); seeks = λ e. absurd cc; behind = λ e. absurd cc; kept = λ e. absurd cc; none = λ e none. absurd cc };
        messages = refl;
      }

    -- a record
    pub went-record : (kind len : ℕ) → kind ≡ it.kind → placed_from (looks_at names) records ≡ (looks_at names, it) ∷ placed_from (looks_at names + (17 + len)) records → Went names (behind_record names kind len) (passed_by names kind it.id)
    went-record kind len same is = by names.seeks refl is
      where
        by : (b : Bool) → names.seeks ≡ b → (let at : ℕ = if b then names.ahead else names.at in placed_from at records ≡ (at, it) ∷ placed_from (at + (17 + len)) records)
            → Went names (if b then (if is_closing kind then behind_closing names (kind == 14) (names.ahead + (17 + len)) else record names { ahead = names.ahead + (17 + len) }) else if kind == 12 && nat_lt names.at names.own then behind_begin names (names.at + (17 + len)) else record names { at = names.at + (17 + len) }) (if b then [] else if kind == 12 && nat_lt names.at names.own then [] else named_by (log_kind_of (kind_of kind)) it.id names.at)
        by true e is = inside (is_closing kind) (kind == 14) refl refl
          where
            next : ℕ
            next = names.ahead + (17 + len)

            inside : (c z : Bool) → is_closing kind ≡ c → kind == 14 ≡ z → Went names (if c then behind_closing names z next else record names { ahead = next }) []
            inside true true i j = abandoned-went next e is (omega arith) (ap is_closing (sym same) ∙ i) (ap (λ k. k == 14) (sym same) ∙ j)
            inside true false i j = closed-went next e is (omega arith) (ap is_closing (sym same) ∙ i) (ap (λ k. k == 14) (sym same) ∙ j)
            inside false z i j = ahead-went next e is (omega arith) (ap is_closing (sym same) ∙ i)
        by false e is = outside (kind == 12) refl (nat_lt names.at names.own) refl
          where
            next : ℕ
            next = names.at + (17 + len)

            plainly : kind == 12 && nat_lt names.at names.own ≡ false → Went names (record names { at = next }) (named_by (log_kind_of (kind_of kind)) it.id names.at)
            plainly none = subst (λ k. Went names (record names { at = next }) (named_by (log_kind_of (kind_of k)) it.id names.at)) (sym same) (plain-went next e is (omega arith) (ap (λ k. k == 12 && nat_lt names.at names.own) (sym same) ∙ none))

            outside : (a : Bool) → kind == 12 ≡ a → (b : Bool) → nat_lt names.at names.own ≡ b → Went names (if a && b then behind_begin names next else record names { at = next }) (if a && b then [] else named_by (log_kind_of (kind_of kind)) it.id names.at)
            outside true i true j = begin-went next e is (omega arith) (ap (λ k. k == 12) (sym same) ∙ i)
            outside true i false j = plainly (ap (λ a. a && nat_lt names.at names.own) i ∙ j)
            outside false i b j = plainly (ap (λ a. a && nat_lt names.at names.own) i)

  module _ (names : Names) (looks : Looks records names) where
    -- a gate
    pub went-gate : (gate : ℕ) → placed_from (gate + 9) records ≡ placed_from (looks_at names) records → looks_at names ≤ gate + 9 → Went names (behind_gate names gate) []
    went-gate gate is le = by names.seeks refl is le
      where
        by : (b : Bool) → names.seeks ≡ b → (let at : ℕ = if b then names.ahead else names.at in placed_from (gate + 9) records ≡ placed_from at records) → (if b then names.ahead else names.at) ≤ gate + 9
            → Went names (if b then record names { ahead = gate + 9; ahead_gate = gate } else record names { at = gate + 9; gate = gate }) []
        by true sought is le =
            let before = looks.behind sought in
            record {
              looks = record {
                own = looks.own;
                counts = λ e. absurd cc;
                seeks = looks.seeks;
                behind = λ e. omega (arith, before, le);
                kept = λ e. looks.kept e ∙ ap is_kept (sym is);
                none = λ e none. looks.none e (ap is_kept (sym is) ∙ none) ∙ ap (counted_messages false) (sym is);
              };
              messages = refl;
            }
        by false closed is le =
            let first = looks.counts closed ∙ ap (counted_messages true) (sym is) in
            let later = behind-names names.at (gate + 9) true [] le refl first in
            record {
              looks = record { own = looks.own; counts = λ e. later; seeks = λ e. absurd cc; behind = λ e. absurd cc; kept = λ e. absurd cc; none = λ e none. absurd cc };
              messages = first ∙ sym later;
            }

    -- there are no more records
    pub went-end : placed_from (looks_at names) records ≡ [] → Went names (record names { seeks = false }) []
    went-end is = by names.seeks refl is
      where
        by : (b : Bool) → names.seeks ≡ b → placed_from (if b then names.ahead else names.at) records ≡ [] → Went names (record names { seeks = false }) []
        by true e is = record {
          looks = record { own = looks.own; counts = λ _. looks.seeks e ∙ ap (λ k. counted_messages k (placed_from names.at records)) (looks.kept e ∙ ap is_kept is); seeks = λ e. absurd cc; behind = λ e. absurd cc; kept = λ e. absurd cc; none = λ e none. absurd cc };
          messages = refl;
        }
        by false e is = record {
          looks = record { own = looks.own; counts = λ _. looks.counts e; seeks = λ e. absurd cc; behind = λ e. absurd cc; kept = λ e. absurd cc; none = λ e none. absurd cc };
          messages = refl;
        }

    pub none-left : names.seeks ≡ false → placed_from (looks_at names) records ≡ [] → from_place names.at all ≡ []
    none-left closed is = looks.counts closed ∙ ap (counted_messages true) (ap (λ b. placed_from (if b then names.ahead else names.at) records) (sym closed) ∙ is)

-- what was read is no part of it
pub looks-alike : (records : List (ℕ × Record)) (old new : Names) → new ≡ record old { read = new.read; appended = new.appended } → Looks records old → Looks records new
looks-alike records old new same l = subst (Looks records) (sym same) (record { own = l.own; counts = l.counts; seeks = l.seeks; behind = l.behind; kept = l.kept; none = l.none })

-- ---- one record more behind all

one-from : (at place : ℕ) (r : Record) → at ≤ place → placed_from at ((place, r) ∷ []) ≡ (place, r) ∷ []
one-from at place r le = rw (le-leb at place le) refl

pub looks-more : (records : List (ℕ × Record)) (names : Names) (place : ℕ) (r : Record) → is_own r ≡ true → names.at ≤ place → (names.seeks ≡ true → names.ahead ≤ place) → Looks records names → Looks (records ++ (place, r) ∷ []) names
looks-more records names place r own le far l =
    let x : ℕ × Record = (place, r) in
    let m = message_of place r in
    let at = names.at in
    let all_is : counted_messages true (records ++ x ∷ []) ≡ counted_messages true records ++ m = counting-more true records x own (inl refl) in
    let names_are : from_place at (counted_messages true (records ++ x ∷ [])) ≡ from_place at (counted_messages true records) ++ m =
    ap (from_place at) all_is ∙ names-append at (counted_messages true records) m ∙ ap (λ (n : List (ℕ × ℕ)). from_place at (counted_messages true records) ++ n) (named-kept (log_kind_of (kind_of r.kind)) r.id at place le) in
    let from : (n : ℕ) → n ≤ place → placed_from n (records ++ x ∷ []) ≡ placed_from n records ++ x ∷ [] = λ n near.
    from-append n records (x ∷ []) ∙ ap (λ (n_ : List (ℕ × Record)). placed_from n records ++ n_) (one-from n place r near) in
    let kept_is : (n : ℕ) → n ≤ place → is_kept (placed_from n (records ++ x ∷ [])) ≡ is_kept (placed_from n records) = λ n near. ap is_kept (from n near) ∙ kept-more (placed_from n records) x own in
    let none_is : (n : ℕ) → n ≤ place → is_kept (placed_from n records) ≡ false → counted_messages false (placed_from n (records ++ x ∷ [])) ≡ counted_messages false (placed_from n records) ++ m = λ n near none.
    ap (counted_messages false) (from n near) ∙ counting-more false (placed_from n records) x own (inr (sym none)) in
    record {
      own = all-own names.own (records ++ x ∷ []) (own-more names.own records x own (each-own names.own records l.own));
      counts = λ e. names_are ∙ ap (λ (n : List (ℕ × ℕ)). n ++ m) (l.counts e) ∙ sym (ap (counted_messages true) (from at le) ∙ counting-more true (placed_from at records) x own (inl refl));
      seeks = λ e. names_are ∙ ap (λ (n : List (ℕ × ℕ)). n ++ m) (l.seeks e)
          ∙ sym (ap (λ k. counted_messages k (placed_from at (records ++ x ∷ []))) (kept_is at le) ∙ ap (counted_messages (is_kept (placed_from at records))) (from at le) ∙ counting-more (is_kept (placed_from at records)) (placed_from at records) x own (inr refl));
      behind = l.behind;
      kept = λ e. kept_is at le ∙ l.kept e ∙ sym (kept_is names.ahead (far e));
      none = λ e none.
          let there : is_kept (placed_from names.ahead records) ≡ false = sym (kept_is names.ahead (far e)) ∙ none in
          none_is at le (l.kept e ∙ there) ∙ ap (λ (n : List (ℕ × ℕ)). n ++ m) (l.none e there) ∙ sym (none_is names.ahead (far e) there);
    }

placed-more : (place : ℕ) (rs : List Record) (r : Record) → placed place (rs ++ r ∷ []) ≡ placed place rs ++ (place + length (body rs), r) ∷ []
placed-more place [] r = ap (λ n. (n, r) ∷ []) (omega arith)
placed-more place (first ∷ rs) r =
    ap (λ (l : List (ℕ × Record)). (place, first) ∷ l) (placed-more (place + size first) rs r ∙ ap (λ n. placed (place + size first) rs ++ (n, r) ∷ []) (body-more place first rs))

-- where the next record will stand
abbrev pub place_behind : List Frame → List Record → ℕ
place_behind frames pending = (gate_after 8 frames + 9) + length (body pending)

all-more : (first : ℕ) (frames : List Frame) (pending : List Record) (r : Record) → all_placed first frames (pending ++ r ∷ []) ≡ all_placed first frames pending ++ ((gate_after first frames + 9) + length (body pending), r) ∷ []
all-more first [] pending r = placed-more (first + 9) pending r
all-more first (frame ∷ frames) pending r =
    ap (λ (l : List (ℕ × Record)). placed (first + 9) frame.records ++ l) (all-more (end_of first frame) frames pending r)
    ∙ sym (append_assoc (placed (first + 9) frame.records) (all_placed (end_of first frame) frames pending) (((gate_after (end_of first frame) frames + 9) + length (body pending), r) ∷ []))

gates-later : (first : ℕ) (frames : List Frame) → first ≤ gate_after first frames
gates-later first frames = omega (arith, gate_after-is first frames)

stands-most : (first : ℕ) (frames : List Frame) (pending : List Record) (gate at : ℕ) → StandsIn first frames pending gate at → at ≤ (gate_after first frames + 9) + length (body pending)
stands-most first [] pending gate at (is, b) = between-most (first + 9) pending at b
stands-most first (frame ∷ frames) pending gate at (inl (is, b)) = let le = between-most (first + 9) frame.records at b in let later = gates-later (end_of first frame) frames in omega (arith, le, later)
stands-most first (frame ∷ frames) pending gate at (inr s) = stands-most (end_of first frame) frames pending gate at s

pub looked-more : (seen : List ℕ) (rs : List Record) (r : Record) (names : Names) → is_own r ≡ true → IsAmong seen rs names.gate names.at → IsLooked seen rs names → IsLooked seen (rs ++ r ∷ []) names
looked-more seen rs r names own s k =
    let frames = or_none (frames_of (drop 8 seen)) in
    let place = place_behind frames rs in
    let le = stands-most 8 frames rs names.gate names.at (stands 8 frames rs names.gate names.at s.known) in
    let there : names.seeks ≡ true → StandsIn 8 frames rs names.ahead_gate names.ahead = λ e. stands 8 frames rs names.ahead_gate names.ahead (k.among e) in
    record {
      looks = subst (λ (l : List (ℕ × Record)). Looks l names) (sym (all-more 8 frames rs r))
          (looks-more (placed_in seen rs) names place r own le (λ e. stands-most 8 frames rs names.ahead_gate names.ahead (there e)) k.looks);
      among = λ e. is-among 8 frames (rs ++ r ∷ []) names.ahead_gate names.ahead (stands-other 8 frames rs (rs ++ r ∷ []) names.ahead_gate names.ahead (λ first b is. between-more first rs r names.ahead b) (there e));
    }

-- ---- the pending records were written as a frame

all-written : (first : ℕ) (frames : List Frame) (byte : ℕ) (rs : List Record) → all_placed first (frames ++ record { gate = byte; records = rs } ∷ []) [] ≡ all_placed first frames rs
all-written first [] byte rs = append-nil (placed (first + 9) rs)
all-written first (frame ∷ frames) byte rs = ap (λ (l : List (ℕ × Record)). placed (first + 9) frame.records ++ l) (all-written (end_of first frame) frames byte rs)

pub placed-written : (seen after : List ℕ) (rs none : List Record) → none ≡ [] → or_none (frames_of (drop 8 after)) ≡ or_none (frames_of (drop 8 seen)) ++ record { gate = 1; records = rs } ∷ [] → placed_in after none ≡ placed_in seen rs
placed-written seen after rs none empty is = ap (placed_in after) empty ∙ ap (λ (f : List Frame). all_placed 8 f []) is ∙ all-written 8 (or_none (frames_of (drop 8 seen))) 1 rs

pub looked-written : (seen after : List ℕ) (rs none : List Record) (names : Names) → none ≡ [] → or_none (frames_of (drop 8 after)) ≡ or_none (frames_of (drop 8 seen)) ++ record { gate = 1; records = rs } ∷ [] → IsLooked seen rs names → IsLooked after none names
looked-written seen after rs none names empty is k =
    let frames = or_none (frames_of (drop 8 seen)) in
    let frame : Frame = record { gate = 1; records = rs } in
    subst (λ (l : List Record). IsLooked after l names) (sym empty) (record {
      looks = subst (λ (l : List (ℕ × Record)). Looks l names) (sym (ap (λ (f : List Frame). all_placed 8 f []) is ∙ all-written 8 frames 1 rs)) k.looks;
      among = λ e. subst (λ (l : List Frame). is_among 8 l [] names.ahead_gate names.ahead ≡ true) (sym is)
          (is-among 8 (frames ++ frame ∷ []) [] names.ahead_gate names.ahead (stands-written 8 frames 1 rs names.ahead_gate names.ahead (stands 8 frames rs names.ahead_gate names.ahead (k.among e))));
    })

-- ---- nothing was read

pub first-kept : (seen : List ℕ) (rs : List Record) → placed_from 17 (placed_in seen rs) ≡ placed_in seen rs
first-kept seen rs = frames-kept 8 (or_none (frames_of (drop 8 seen))) rs 17 (omega arith)

pub first-names : (seen : List ℕ) (rs : List Record) → from_place 17 (counted_messages true (placed_in seen rs)) ≡ counted_messages true (placed_in seen rs)
first-names seen rs = subst (λ (l : List (ℕ × Record)). from_place 17 (counted_messages true l) ≡ counted_messages true l) (first-kept seen rs) (from-kept 17 true (placed_in seen rs))

-- all records of frames stand before the next gate
frames-before : (own first : ℕ) (frames : List Frame) → gate_after first frames ≤ own → OwnFrom own (all_placed first frames [])
frames-before own first [] le = tt
frames-before own first (frame ∷ frames) le =
    let later = gates-later (end_of first frame) frames in
    own-later own (placed (first + 9) frame.records) (all_placed (end_of first frame) frames []) (placed-before own (first + 9) frame.records (omega (arith, le, later))) (frames-before own (end_of first frame) frames le)

pub looked-first : (seen : List ℕ) (rs : List Record) (names : Names) → rs ≡ [] → gate_after 8 (or_none (frames_of (drop 8 seen))) ≤ names.own → names.at ≡ 17 → names.seeks ≡ false → IsLooked seen rs names
looked-first seen rs names none own at closed = record {
  looks = record {
    own = subst (λ (l : List Record). is_own_from names.own (placed_in seen l) ≡ true) (sym none) (let frames = or_none (frames_of (drop 8 seen)) in all-own names.own (all_placed 8 frames []) (frames-before names.own 8 frames own));
    counts = λ e. subst (λ n. from_place n (counted_messages true (placed_in seen rs)) ≡ counted_messages true (placed_from n (placed_in seen rs))) (sym at) (first-names seen rs ∙ ap (counted_messages true) (sym (first-kept seen rs)));
    seeks = λ e. absurd cc;
    behind = λ e. absurd cc;
    kept = λ e. absurd cc;
    none = λ e none. absurd cc;
  };
  among = λ e. absurd cc;
}
