-- What follows from the definitions: fair cuts add up, and so do the calls of a log and what crashes leave of them.
use Rattle.std.proofs.Common.{◌≡◌, ◌⊎◌, inl, inr, ⊎_elim, ◌+◌, ℕ, zero, suc, Bool, true, false, List, [], ◌∷◌, ◌++◌, take, drop, refl, sym, ◌∙◌, ap, subst, arith}
use Rattle.std.proofs.lemmas.List.{append_assoc, append-nil, length-append, length-drop, take-append-drop, take-append-le, drop-append-le, drop-drop}
use Rattle.std.proofs.lemmas.Bool.{false≢true}
use Rattle.std.proofs.Math.Seq.{take-add}
use Rattle.sled_base.specs.declared.kinds.LogKind.{LogKind}
use Rattle.sled_log.specs.Events.{Event, Change, Pin, Seal, Cancel, open_after, is_open, is_cancelled, IsFair}
use Rattle.sled_log.specs.Chains.{chains_from, chains_after}
use Rattle.sled_log.specs.Messages.{Message, Messages, effect_of}
use Rattle.sled_log.specs.LogState.{AddsEvents, CrashKeeps, LogState, now, IsPrefix, Adds, IsLeft, CrashesSinceLeave}

-- ---- batches and fair cuts

module _ {E : Type 0} where
  pub open_after-append : (was : Bool) (xs ys : List (Event E)) → open_after was (xs ++ ys) ≡ open_after (open_after was xs) ys
  open_after-append was [] ys = refl
  open_after-append was (Change id said ∷ xs) ys = open_after-append was xs ys
  open_after-append was (Pin ∷ xs) ys = open_after-append true xs ys
  open_after-append was (Seal ∷ xs) ys = open_after-append false xs ys
  open_after-append was (Cancel ∷ xs) ys = open_after-append false xs ys

  -- a batch that is cancelled stays so
  is_cancelled-append : (xs ys : List (Event E)) → is_cancelled xs ≡ true → is_cancelled (xs ++ ys) ≡ true
  is_cancelled-append [] ys h = absurd (false≢true h)
  is_cancelled-append (Change id said ∷ xs) ys h = is_cancelled-append xs ys h
  is_cancelled-append (Pin ∷ xs) ys h = is_cancelled-append xs ys h
  is_cancelled-append (Seal ∷ xs) ys h = absurd (false≢true h)
  is_cancelled-append (Cancel ∷ xs) ys h = refl

  -- a batch that is cancelled has no effect after its end
  open_after-cancelled : (xs : List (Event E)) → is_cancelled xs ≡ true → open_after true xs ≡ open_after false xs
  open_after-cancelled [] h = absurd (false≢true h)
  open_after-cancelled (Change id said ∷ xs) h = open_after-cancelled xs h
  open_after-cancelled (Pin ∷ xs) h = refl
  open_after-cancelled (Seal ∷ xs) h = refl
  open_after-cancelled (Cancel ∷ xs) h = refl

  -- a cut is before its end, or after it
  inside_cancelled : (xs : List (Event E)) (n : ℕ) → is_cancelled xs ≡ true → open_after true (take n xs) ≡ true → (is_cancelled (drop n xs) ≡ true) ⊎ (is_open (take n xs) ≡ true)
  inside_cancelled xs zero h o = inl h
  inside_cancelled [] (suc n) h o = absurd (false≢true h)
  inside_cancelled (Change id said ∷ xs) (suc n) h o = inside_cancelled xs n h o
  inside_cancelled (Pin ∷ xs) (suc n) h o = inr o
  inside_cancelled (Seal ∷ xs) (suc n) h o = absurd (false≢true h)
  inside_cancelled (Cancel ∷ xs) (suc n) h o = inr o

  -- a cut before all events is fair
  pub IsFair-none : (xs : List (Event E)) → IsFair xs 0
  IsFair-none xs = record { within = omega arith; no_part = λ o. absurd (false≢true o) }

  -- a fair cut stays fair when more events come
  pub IsFair-more : (xs ys : List (Event E)) (cut : ℕ) → IsFair xs cut → IsFair (xs ++ ys) cut
  IsFair-more xs ys cut fair = record {
    within = let w = fair.within in omega (arith, length-append xs ys);
    no_part = λ o.
        let w = fair.within in
        subst (λ (l : List (Event E)). is_cancelled l ≡ true) (sym (drop-append-le cut xs ys w))
        (is_cancelled-append (drop cut xs) ys (fair.no_part (ap is_open (sym (take-append-le cut xs ys w)) ∙ o)));
  }

  -- whether a batch is open is the same for what a fair cut leaves
  pub is_open-drop : (xs : List (Event E)) (cut : ℕ) → IsFair xs cut → is_open (drop cut xs) ≡ is_open xs
  is_open-drop xs cut fair = sym (ap is_open (sym (take-append-drop cut xs)) ∙ open_after-append false (take cut xs) (drop cut xs) ∙ by (is_open (take cut xs)) refl)
    where
      by : (was : Bool) → is_open (take cut xs) ≡ was → open_after was (drop cut xs) ≡ is_open (drop cut xs)
      by true o = open_after-cancelled (drop cut xs) (fair.no_part o)
      by false o = refl

  -- a fair cut of what a fair cut leaves is a fair cut
  pub IsFair-add : (xs : List (Event E)) (m n : ℕ) → IsFair xs m → IsFair (drop m xs) n → IsFair xs (m + n)
  IsFair-add xs m n first second = record {
    within = let a = first.within in let b = second.within in omega (arith, length-drop m xs);
    no_part = λ o.
        subst (λ (l : List (Event E)). is_cancelled l ≡ true) (drop-drop n m xs)
        (by (is_open (take m xs)) refl (sym (ap is_open (take-add m n xs) ∙ open_after-append false (take m xs) (take n (drop m xs))) ∙ o));
  }
    where
      by : (was : Bool) → is_open (take m xs) ≡ was → open_after (is_open (take m xs)) (take n (drop m xs)) ≡ true → is_cancelled (drop n (drop m xs)) ≡ true
      by true w o = ⊎_elim (λ h. h) second.no_part (inside_cancelled (drop m xs) n (first.no_part w) (subst (λ b. open_after b (take n (drop m xs)) ≡ true) w o))
      by false w o = second.no_part (subst (λ b. open_after b (take n (drop m xs)) ≡ true) w o)

  pub IsPrefix-all : (xs : List (Event E)) → IsPrefix xs xs
  IsPrefix-all xs = ([], append-nil xs)

  pub IsPrefix-none : (xs : List (Event E)) → IsPrefix [] xs
  IsPrefix-none xs = (xs, refl)

  pub IsPrefix-more : (part xs ys : List (Event E)) → IsPrefix part xs → IsPrefix part (xs ++ ys)
  IsPrefix-more part xs ys b = (b.0 ++ ys, sym (append_assoc part b.0 ys) ∙ ap (λ (l : List (Event E)). l ++ ys) b.1)

  pub IsPrefix-behind : (xs part ys : List (Event E)) → IsPrefix part ys → IsPrefix (xs ++ part) (xs ++ ys)
  IsPrefix-behind xs part ys b = (b.0, append_assoc xs part b.0 ∙ ap (λ (l : List (Event E)). xs ++ l) b.1)

  pub IsPrefix-then : (part first all : List (Event E)) → IsPrefix part first → IsPrefix first all → IsPrefix part all
  IsPrefix-then part first all b c = (b.0 ++ c.0, sym (append_assoc part b.0 c.0) ∙ ap (λ (l : List (Event E)). l ++ c.0) b.1 ∙ c.1)

-- ---- calls one after another, for any type of events

module _ {E S : Type 0} (after : S → List (Event E) → S) (splits : (s : S) (xs ys : List (Event E)) → after s (xs ++ ys) ≡ after (after s xs) ys) where
  -- nothing was added, and nothing moved
  pub AddsEvents-none : (durable : S) (waiting : List (Event E)) → after durable [] ≡ durable → AddsEvents after durable waiting [] durable waiting
  AddsEvents-none durable waiting still = record { cut = 0; fair = IsFair-none (waiting ++ []); stable = sym still; pending = sym (append-nil waiting) }

  -- what is after a cut of the events so far, if more are added
  module _ (durable durable_mid : S) (waiting waiting_mid first second : List (Event E)) (a : AddsEvents after durable waiting first durable_mid waiting_mid) where
    abbrev all : List (Event E)
    all = (waiting ++ first) ++ second

    rest : waiting_mid ++ second ≡ drop a.cut all
    rest = let w = a.fair.within in ap (λ (l : List (Event E)). l ++ second) a.pending ∙ sym (drop-append-le a.cut (waiting ++ first) second w)

    cut_behind : (n : ℕ) → IsFair (waiting_mid ++ second) n → IsFair all (a.cut + n)
    cut_behind n fair = IsFair-add all a.cut n (IsFair-more (waiting ++ first) second a.cut a.fair) (subst (λ (l : List (Event E)). IsFair l n) rest fair)

    stable_behind : (n : ℕ) → after durable_mid (take n (waiting_mid ++ second)) ≡ after durable (take (a.cut + n) all)
    stable_behind n =
        let w = a.fair.within in
        ap (λ (s : S). after s (take n (waiting_mid ++ second))) (a.stable ∙ ap (after durable) (sym (take-append-le a.cut (waiting ++ first) second w)))
        ∙ ap (λ (l : List (Event E)). after (after durable (take a.cut all)) (take n l)) rest
        ∙ sym (splits durable (take a.cut all) (take n (drop a.cut all)))
        ∙ ap (after durable) (sym (take-add a.cut n all))

    pending_behind : (n : ℕ) → drop n (waiting_mid ++ second) ≡ drop (a.cut + n) all
    pending_behind n = ap (λ (l : List (Event E)). drop n l) rest ∙ drop-drop n a.cut all

  -- one call after another: the cuts add up
  pub AddsEvents-then : (durable durable_mid durable_then : S) (waiting waiting_mid waiting_then first second : List (Event E))
      → (a : AddsEvents after durable waiting first durable_mid waiting_mid) → (b : AddsEvents after durable_mid waiting_mid second durable_then waiting_then)
      → (both : AddsEvents after durable waiting (first ++ second) durable_then waiting_then) × (both.cut ≡ a.cut + b.cut)
  AddsEvents-then durable durable_mid durable_then waiting waiting_mid waiting_then first second a b =
      let whole = append_assoc waiting first second in (
        record {
          cut = a.cut + b.cut;
          fair = subst (λ (l : List (Event E)). IsFair l (a.cut + b.cut)) whole (cut_behind durable durable_mid waiting waiting_mid first second a b.cut b.fair);
          stable = b.stable ∙ stable_behind durable durable_mid waiting waiting_mid first second a b.cut ∙ ap (λ (l : List (Event E)). after durable (take (a.cut + b.cut) l)) whole;
          pending = b.pending ∙ pending_behind durable durable_mid waiting waiting_mid first second a b.cut ∙ ap (λ (l : List (Event E)). drop (a.cut + b.cut) l) whole;
        },
        refl,
      )

  -- what a crash keeps in the second call: all that was durable after the first, whose events have all come
  pub CrashKeeps-added : (durable durable_mid : S) (waiting waiting_mid first second : List (Event E)) (Is : S → Type 0)
      → (a : AddsEvents after durable waiting first durable_mid waiting_mid) → (left : CrashKeeps after durable_mid waiting_mid second Is)
      → (all : CrashKeeps after durable (waiting ++ first) second Is) × (all.cut ≡ a.cut + left.cut)
  CrashKeeps-added durable durable_mid waiting waiting_mid first second Is a left = (
    record {
      came = left.came;
      beginning = left.beginning;
      cut = a.cut + left.cut;
      fair = cut_behind durable durable_mid waiting waiting_mid first left.came a left.cut left.fair;
      is = subst Is (stable_behind durable durable_mid waiting waiting_mid first left.came a left.cut) left.is;
    },
    refl,
  )

  -- the same, as what a crash keeps in both calls
  pub CrashKeeps-behind : (durable durable_mid : S) (waiting waiting_mid first second : List (Event E)) (Is : S → Type 0)
      → AddsEvents after durable waiting first durable_mid waiting_mid → CrashKeeps after durable_mid waiting_mid second Is → CrashKeeps after durable waiting (first ++ second) Is
  CrashKeeps-behind durable durable_mid waiting waiting_mid first second Is a left =
      let behind = (CrashKeeps-added durable durable_mid waiting waiting_mid first second Is a left).0 in
      let whole = append_assoc waiting first behind.came in
      record {
        came = first ++ behind.came;
        beginning = IsPrefix-behind first behind.came second behind.beginning;
        cut = behind.cut;
        fair = subst (λ (l : List (Event E)). IsFair l behind.cut) whole behind.fair;
        is = subst (λ (l : List (Event E)). Is (after durable (take behind.cut l))) whole behind.is;
      }

  -- what it keeps if more events come
  pub CrashKeeps-more : (durable : S) (waiting first all : List (Event E)) (Is : S → Type 0) → IsPrefix first all → CrashKeeps after durable waiting first Is → CrashKeeps after durable waiting all Is
  CrashKeeps-more durable waiting first all Is begins left = record {
    came = left.came;
    beginning = IsPrefix-then left.came first all left.beginning begins;
    cut = left.cut;
    fair = left.fair;
    is = left.is;
  }

-- ---- calls of a log one after another

module _ {E : Type 0} (effect : E → LogKind) where
  pub chains_after-append : (chains : List (List E)) (xs ys : List (Event E)) → chains_after effect chains (xs ++ ys) ≡ chains_after effect (chains_after effect chains xs) ys
  chains_after-append chains [] ys = refl
  chains_after-append chains (x ∷ xs) ys = chains_after-append (chains_from effect chains x) xs ys

  pub Adds-none : (state : LogState E) → Adds effect state [] state
  Adds-none state = AddsEvents-none (chains_after effect) chains_after-append state.stable state.pending refl

  pub Adds-then : (old mid new : LogState E) (first second : List (Event E)) → Adds effect old first mid → Adds effect mid second new → Adds effect old (first ++ second) new
  Adds-then old mid new first second a b = (AddsEvents-then (chains_after effect) chains_after-append old.stable mid.stable new.stable old.pending mid.pending new.pending first second a b).0

  -- a crash between two calls
  pub IsLeft-cut : (state : LogState E) (cut : ℕ) (pages : List (List E)) → IsFair state.pending cut → pages ≡ chains_after effect state.stable (take cut state.pending) → IsLeft effect state [] pages
  IsLeft-cut state cut pages fair is =
      let all : state.pending ≡ state.pending ++ [] = sym (append-nil state.pending) in
      record {
        came = [];
        beginning = ([], refl);
        cut = cut;
        fair = subst (λ (l : List (Event E)). IsFair l cut) all fair;
        is = is ∙ ap (λ (l : List (Event E)). chains_after effect state.stable (take cut l)) all;
      }

  -- what a crash leaves in the second call
  pub IsLeft-behind : (old mid : LogState E) (first second : List (Event E)) (pages : List (List E)) → Adds effect old first mid → IsLeft effect mid second pages → IsLeft effect old (first ++ second) pages
  IsLeft-behind old mid first second pages = CrashKeeps-behind (chains_after effect) chains_after-append old.stable mid.stable old.pending mid.pending first second (λ kept. pages ≡ kept)

  -- what it leaves in the first
  pub IsLeft-more : (old : LogState E) (first second : List (Event E)) (pages : List (List E)) → IsLeft effect old first pages → IsLeft effect old (first ++ second) pages
  IsLeft-more old first second pages = CrashKeeps-more (chains_after effect) chains_after-append old.stable old.pending first (first ++ second) (λ kept. pages ≡ kept) (second, refl)

  -- what the log holds after the events were added
  pub now-Adds : (old new : LogState E) (events : List (Event E)) → Adds effect old events new → now effect new ≡ chains_after effect (now effect old) events
  now-Adds old new events a =
      ap (λ (l : List (List E)). chains_after effect l new.pending) a.stable
      ∙ ap (chains_after effect (chains_after effect old.stable (take a.cut (old.pending ++ events)))) a.pending
      ∙ sym (chains_after-append old.stable (take a.cut (old.pending ++ events)) (drop a.cut (old.pending ++ events)))
      ∙ ap (chains_after effect old.stable) (take-append-drop a.cut (old.pending ++ events))
      ∙ chains_after-append old.stable old.pending events

  pub is_open-Adds : (old new : LogState E) (events : List (Event E)) → Adds effect old events new → is_open new.pending ≡ open_after (is_open old.pending) events
  is_open-Adds old new events a =
      ap is_open a.pending ∙ is_open-drop (old.pending ++ events) a.cut a.fair ∙ open_after-append false old.pending events

-- ---- crashes

module _ {L : Type 0} (moment : L → ℕ) (left_since : L → ℕ → List Messages → Type 0) where
  -- no call at all
  pub CrashesSinceLeave-none : (log : L) (P : List Messages → Type 0) → ((pages : List Messages) → left_since log (moment log) pages → P pages) → CrashesSinceLeave moment left_since log log P
  CrashesSinceLeave-none log P here = record { later = omega arith; each = here; before = λ t pages le left. inl left; kept = λ t pages le left. left }

  -- what crashes leave of two calls, the second from the state that the first left
  pub CrashesSinceLeave-then : (old mid new : L) (before after : LogState Message) (first second : List (Event Message))
      → Adds effect_of before first after
      → CrashesSinceLeave moment left_since old mid (IsLeft effect_of before first)
      → CrashesSinceLeave moment left_since mid new (IsLeft effect_of after second)
      → CrashesSinceLeave moment left_since old new (IsLeft effect_of before (first ++ second))
  CrashesSinceLeave-then old mid new before after first second a one two =
      let P : List Messages → Type 0 = IsLeft effect_of before (first ++ second) in
      let of_one : (c : List Messages) → IsLeft effect_of before first c → P c = λ c left. IsLeft-more effect_of before first second c left in
      let of_two : (c : List Messages) → IsLeft effect_of after second c → P c = λ c left. IsLeft-behind effect_of before after first second c a left in
      record {
        later = omega (arith, one.later, two.later);
        each = λ c left. ⊎_elim (λ l. of_one c (one.each c l)) (of_two c) (two.before (moment old) c one.later left);
        before = λ t c le left. ⊎_elim (λ l. ⊎_elim (λ m. inl m) (λ m. inr (of_one c m)) (one.before t c le l)) (λ l. inr (of_two c l)) (two.before t c (omega (arith, le, one.later)) left);
        kept = λ t c le left. two.kept t c (omega (arith, le, one.later)) (one.kept t c le left);
      }
