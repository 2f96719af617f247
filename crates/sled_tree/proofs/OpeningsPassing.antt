-- The pages that events pass: those behind each beginning of them.
use Rattle.std.proofs.Common.{◌≡◌, ◌⊎◌, inl, inr, ◌≤◌, ◌<◌, ◌+◌, ◌-◌, ℕ, zero, suc, List, [], ◌∷◌, ◌++◌, length, length-append, take, refl, sym, ◌∙◌, ap, subst, arith}
use Rattle.std.proofs.lemmas.Bool.{cases_lt}
use Rattle.std.proofs.lemmas.List.{take-append-le, take_all}
use Rattle.std.proofs.Math.Seq.{take-append-add}
use Rattle.sled_log.specs.Contents.{Content, Update, contents_from, contents_after}
use Rattle.sled_log.specs.Events.{Event}
use Rattle.sled_log.specs.Inside.ReadingLaws.{contents_after-append}
use Rattle.sled_search.specs.Calls.{Becomes}
use Rattle.sled_tree.specs.Named.{Named}
use Rattle.sled_tree.specs.Prefixes.{AreSoFar}
use Rattle.sled_tree.specs.Changed.{LeaveSame, Makes}

-- The one passes pages that the other passes, and both end with the same.
pub record Passes (pages : List Content) (us vs : List (Event Update)) : Type 0 where
  pub each : (n : ℕ) → n ≤ length us → (m : ℕ) × (m ≤ length vs) × (contents_after pages (take n us) ≡ contents_after pages (take m vs))
  pub behind : contents_after pages us ≡ contents_after pages vs

pub passes-itself : (pages : List Content) (us : List (Event Update)) → Passes pages us us
passes-itself pages us = record { each = λ n le. (n, le, refl); behind = refl }

-- events that leave the pages
leaves-part : (pages : List Content) (us : List (Event Update)) (n : ℕ) → LeaveSame pages us → contents_after pages (take n us) ≡ pages
leaves-part pages us zero leave = refl
leaves-part pages [] (suc n) leave = refl
leaves-part pages (u ∷ us) (suc n) (same, leave) = ap (λ (ps : List Content). contents_after ps (take n us)) same ∙ leaves-part pages us n leave

pub leaves : (pages : List Content) (us : List (Event Update)) → LeaveSame pages us → contents_after pages us ≡ pages
leaves pages us leave = ap (λ (es : List (Event Update)). contents_after pages es) (sym (take_all (length us) us (omega arith))) ∙ leaves-part pages us (length us) leave

pub passes-same : (pages : List Content) (us vs : List (Event Update)) → LeaveSame pages us → LeaveSame pages vs → Passes pages us vs
passes-same pages us vs one two = record { each = λ n le. (0, omega arith, leaves-part pages us n one); behind = leaves pages us one ∙ sym (leaves pages vs two) }

-- the first of them makes the one change, and those behind it leave that
pub passes-change : (pages changed : List Content) (us vs : List (Event Update)) → Makes pages changed us → Makes pages changed vs → Passes pages us vs
passes-change pages changed [] vs one two = absurd one
passes-change pages changed (u ∷ us) [] one two = absurd two
passes-change pages changed (u ∷ us) (v ∷ vs) one two = record { each = each; behind = all u us one ∙ sym (all v vs two) }
  where
    all : (e : Event Update) (es : List (Event Update)) → Makes pages changed (e ∷ es) → contents_after pages (e ∷ es) ≡ changed
    all e es makes = ap (λ (ps : List Content). contents_after ps es) makes.0 ∙ leaves changed es makes.1

    part : (n : ℕ) (e : Event Update) (es : List (Event Update)) → Makes pages changed (e ∷ es) → contents_after pages (take (suc n) (e ∷ es)) ≡ changed
    part n e es makes = ap (λ (ps : List Content). contents_after ps (take n es)) makes.0 ∙ leaves-part changed es n makes.1

    each : (n : ℕ) → n ≤ length (u ∷ us) → (m : ℕ) × (m ≤ length (v ∷ vs)) × (contents_after pages (take n (u ∷ us)) ≡ contents_after pages (take m (v ∷ vs)))
    each zero le = (0, omega arith, refl)
    each (suc n) le = (1, omega arith, part n u us one ∙ sym (part 0 v vs two))

-- ---- between others

passes-first : (pages : List Content) (e : Event Update) (us vs : List (Event Update)) → Passes (contents_from pages e) us vs → Passes pages (e ∷ us) (e ∷ vs)
passes-first pages e us vs passes = record { each = each; behind = passes.behind }
  where
    each : (n : ℕ) → n ≤ length (e ∷ us) → (m : ℕ) × (m ≤ length (e ∷ vs)) × (contents_after pages (take n (e ∷ us)) ≡ contents_after pages (take m (e ∷ vs)))
    each zero le = (0, omega arith, refl)
    each (suc n) le = let (m, few, same) = passes.each n (omega arith) in (suc m, omega arith, same)

passes-behind : (pages : List Content) (before us vs : List (Event Update)) → Passes (contents_after pages before) us vs → Passes pages (before ++ us) (before ++ vs)
passes-behind pages [] us vs passes = passes
passes-behind pages (e ∷ before) us vs passes = passes-first pages e (before ++ us) (before ++ vs) (passes-behind (contents_from pages e) before us vs passes)

module _ (pages : List Content) (us vs behind : List (Event Update)) (passes : Passes pages us vs) where
  abbrev IsPassed : ℕ → Type 0
  IsPassed n = (m : ℕ) × (m ≤ length (vs ++ behind)) × (contents_after pages (take n (us ++ behind)) ≡ contents_after pages (take m (vs ++ behind)))

  in-first : (n : ℕ) → n ≤ length us → IsPassed n
  in-first n le =
      let (m, few, same) = passes.each n le in
      let sum = length-append vs behind in
      (m, omega arith, ap (λ (es : List (Event Update)). contents_after pages es) (take-append-le n us behind le) ∙ same ∙ sym (ap (λ (es : List (Event Update)). contents_after pages es) (take-append-le m vs behind few)))

  part-behind : (xs : List (Event Update)) (k : ℕ) → contents_after pages (take (length xs + k) (xs ++ behind)) ≡ contents_after (contents_after pages xs) (take k behind)
  part-behind xs k = ap (λ (es : List (Event Update)). contents_after pages es) (take-append-add xs behind k) ∙ contents_after-append pages xs (take k behind)

  in-rest : (k : ℕ) → length us + k ≤ length (us ++ behind) → IsPassed (length us + k)
  in-rest k le =
      let one = length-append us behind in
      let two = length-append vs behind in
      (length vs + k, omega arith, part-behind us k ∙ ap (λ (ps : List Content). contents_after ps (take k behind)) passes.behind ∙ sym (part-behind vs k))

  passes-before : Passes pages (us ++ behind) (vs ++ behind)
  passes-before = record {
    each = λ n le. either n le (cases_lt n (length us));
    behind = contents_after-append pages us behind ∙ ap (λ (ps : List Content). contents_after ps behind) passes.behind ∙ sym (contents_after-append pages vs behind);
  }
    where
      either : (n : ℕ) → n ≤ length (us ++ behind) → (n < length us) ⊎ (length us ≤ n) → IsPassed n
      either n le (inl lt) = in-first n (omega arith)
      either n le (inr ge) =
          let same : length us + (n - length us) ≡ n = omega arith in
          subst IsPassed same (in-rest (n - length us) (omega arith))

-- what the one makes of maps the other makes of them
becomes-passing : (pages : List Content) (us vs : List (Event Update)) → Passes pages us vs → (old new : Named) → Becomes AreSoFar pages old vs new → Becomes AreSoFar pages old us new
becomes-passing pages us vs passes old new becomes = record { before = becomes.before; each = λ n le. each n (passes.each n le); behind = subst (λ (ps : List Content). AreSoFar ps new) (sym passes.behind) becomes.behind }
  where
    each : (n : ℕ) → (m : ℕ) × (m ≤ length vs) × (contents_after pages (take n us) ≡ contents_after pages (take m vs)) → AreSoFar (contents_after pages (take n us)) old ⊎ AreSoFar (contents_after pages (take n us)) new
    each n (m, le, same) = subst (λ (ps : List Content). AreSoFar ps old ⊎ AreSoFar ps new) (sym same) (becomes.each m le)

pub becomes-too : (pages : List Content) (before us vs behind : List (Event Update)) → Passes (contents_after pages before) us vs → (old new : Named) → Becomes AreSoFar pages old (before ++ (vs ++ behind)) new → Becomes AreSoFar pages old (before ++ (us ++ behind)) new
becomes-too pages before us vs behind passes = becomes-passing pages (before ++ (us ++ behind)) (before ++ (vs ++ behind)) (passes-behind pages before (us ++ behind) (vs ++ behind) (passes-before (contents_after pages before) us vs behind passes))
