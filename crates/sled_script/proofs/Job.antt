-- Lists of one item, of two and of three, a log that holds nothing, the calls of a crew, and what words ask for.
use Rattle.std.proofs.Common.{◌≡◌, ◌≢◌, ℕ, ◌+◌, ◌*◌, ◌<◌, ◌≤◌, ◌^◌, sum, sum_by, refl, mul-suc, mul_comm, Option, None, Some, Result, Ok, Err, mul-le-mul_left, zero, suc, true, List, [], ◌∷◌, length, map, get_or, sym, ap, ◌∙◌, arith, inl, inr}
use Rattle.std.specs.Io.KnownBytes.{Appends}
use Rattle.std.proofs.lemmas.Fmt.{decimal_injective}
use Rattle.std.proofs.lemmas.List.Sums.{sum_by-cons}
use Rattle.sled_base.specs.Order.{Bytes}
use Rattle.sled_lines.specs.Output.{Writes}
use Rattle.sled_shared.specs.Held.{Share, count_of}
use Rattle.sled_script.specs.Job.{AskForScript, AskForCrew}
use Rattle.sled_script.specs.Settings.{status_of, ended}
use Rattle.sled_log.specs.Messages.{Message}
use Rattle.sled_log.specs.LogState as log
use Rattle.sled_pagecache.specs.Logged.{Logged, IsLogged}
use Rattle.sled_pagecache.specs.Opening.{missing_pages}
use Rattle.sled_pagecache.specs.Logged.{IsProper, StayProper}

pub only_one : {A B : Type 0} (f : A → B) (xs : List A) (x : A) (y : B) → 1 ≤ length xs → length xs < 2 → x ≡ get_or xs 0 x → f x ≡ y → map f xs ≡ y ∷ []
only_one f [] x y some few at e = absurd (omega arith)
only_one f (a ∷ []) x y some few at e = ap (λ l. l ∷ []) (ap f (sym at) ∙ e)
only_one f (a ∷ b ∷ xs) x y some few at e = absurd (omega arith)

pub only_two : {A B : Type 0} (f : A → B) (xs : List A) (x z : A) (y : B) → 2 ≤ length xs → length xs < 3 → x ≡ get_or xs 0 x → z ≡ get_or xs 1 z → f x ≡ y → map f xs ≡ y ∷ f z ∷ []
only_two f [] x z y some few at then e = absurd (omega arith)
only_two f (a ∷ []) x z y some few at then e = absurd (omega arith)
only_two f (a ∷ b ∷ []) x z y some few at then e = cc
only_two f (a ∷ b ∷ c ∷ xs) x z y some few at then e = absurd (omega arith)

pub only_three : {A B : Type 0} (f : A → B) (xs : List A) (x y z : A) (p : B) → 3 ≤ length xs → length xs < 4 → x ≡ get_or xs 0 x → y ≡ get_or xs 1 y → z ≡ get_or xs 2 z → f x ≡ p → map f xs ≡ p ∷ f y ∷ f z ∷ []
only_three f [] x y z p some few at next last e = absurd (omega arith)
only_three f (a ∷ []) x y z p some few at next last e = absurd (omega arith)
only_three f (a ∷ b ∷ []) x y z p some few at next last e = absurd (omega arith)
only_three f (a ∷ b ∷ c ∷ []) x y z p some few at next last e = cc
only_three f (a ∷ b ∷ c ∷ d ∷ xs) x y z p some few at next last e = absurd (omega arith)

abbrev pub nothing : Logged
nothing = record { stable = []; pending = [] }

proper-none : IsProper [] []
proper-none = record { own = λ pid. tt; short = tt; few = omega arith }

stay-none : StayProper [] [] [] []
stay-none zero = proper-none
stay-none (suc n) = proper-none

abbrev pub empty : log.LogState Message
empty = record { stable = []; pending = []; usable = true }

pub empty_logged : IsLogged empty nothing
empty_logged = record { stable = tt; pending = tt; proper = stay-none }

-- its own pages are missing
pub some_missing : missing_pages [] ≢ []
some_missing e = cc

-- ---- the calls of a crew

-- the sum of the counts
sum_counts : (shares : List Share) → sum (map (λ share. count_of share) shares) ≡ sum_by count_of shares
sum_counts [] = refl
sum_counts (share ∷ shares) = sum_by-cons (λ n. n) (count_of share) (map (λ share. count_of share) shares) ∙ (ap (λ s. count_of share + s) (sum_counts shares) ∙ sym (sum_by-cons count_of share shares))

-- counts that all rise by the same
sum_raised : (shares : List Share) (calls : ℕ) → sum (map (λ share. count_of share + calls) shares) ≡ sum_by count_of shares + calls * length shares
sum_raised [] calls = omega arith
sum_raised (share ∷ shares) calls =
    let left = sum_by-cons (λ n. n) (count_of share + calls) (map (λ share. count_of share + calls) shares) in
    let right = sum_by-cons count_of share shares in
    let more : (count_of share + calls) + (sum_by count_of shares + calls * length shares) ≡ (count_of share + sum_by count_of shares) + calls * suc (length shares) = omega (arith, mul-suc calls (length shares)) in
    left ∙ ap (λ s. (count_of share + calls) + s) (sum_raised shares calls) ∙ more ∙ ap (λ s. s + calls * suc (length shares)) (sym right)

-- each of so many new shares counts so many calls
pub crew_sum : (shares back : List Share) (workers calls : ℕ) → map (λ share. count_of share) back ≡ map (λ share. count_of share + calls) shares → sum_by count_of shares ≡ 0 → length shares ≡ workers → sum_by count_of back ≡ workers * calls
crew_sum shares back workers calls e none all =
    let made : calls * length shares ≡ workers * calls = ap (λ n. calls * n) all ∙ mul_comm calls workers in
    omega (arith, ap sum e, sum_counts back, sum_raised shares calls, none, made)

pub crew_fits : (workers calls : ℕ) → workers ≤ 64 → calls ≤ 10000 → workers * calls < 2 ^ 64
crew_fits workers calls few short = omega (arith, mul-le-mul_left workers short)

-- ---- what the words ask for

pub one_job : (words : Option (List Bytes)) (workers calls : ℕ) → AskForScript words → AskForCrew workers calls words → ⊥
one_job None workers calls script crew = script
one_job (Some words) workers calls (inl memory) (first, second, is, encoded) = absurd cc
one_job (Some words) workers calls (inr (path, file)) (first, second, is, encoded) = absurd cc

pub one_crew : (words : Option (List Bytes)) (workers calls threads each : ℕ) → AskForCrew workers calls words → AskForCrew threads each words → workers * calls ≡ threads * each
one_crew None workers calls threads each asked told = absurd asked
one_crew (Some words) workers calls threads each (first, second, is, encoded) (front, rest, alike, written) =
    let same : first ≡ front = cc in
    let behind : second ≡ rest = cc in
    let few : workers ≡ threads = decimal_injective workers threads (omega (arith, encoded.1)) (omega (arith, written.1)) (sym encoded.3 ∙ same ∙ written.3) in
    let short : calls ≡ each = decimal_injective calls each (omega (arith, encoded.2)) (omega (arith, written.2)) (sym encoded.4 ∙ behind ∙ written.4) in
    cc

-- what ended well has written its text
pub wrote_all : {E : Type 0} (old new : Option Bytes) (outcome : Result Unit E) (text : Bytes) → status_of outcome ≡ ended → Writes old new outcome text → Appends old new text
wrote_all old new (Ok done) text fine wrote = wrote
wrote_all old new (Err e) text fine wrote = absurd (omega (arith, fine))
