-- What a call does to the generated ids: no call but that for an id touches the counter or uses an id.
use Rattle.sled_pagecache.proofs.Names.{map, Answer, Cache, Call, Event, Generated, Ghosts, List, Ok, Outcome, Some, State, StepOver, Update, [], ap, arith, contents_after, contents_of, false, inl, inr, refl, slice_get, slice_set, stamps_of, subst, sym, true, ℕ, ⊎_elim, ◌+◌, ◌∙◌, ◌∷◌, ◌≡◌, ◌≤◌, ◌⊎◌, id_in, StampedPage, map-at, set-at}
use Rattle.sled_pagecache.proofs.Steps.CallForms.{Form, IsQuiet, Marks, Next, Plain, Raises, call-form, quiet_of}
use Rattle.sled_pagecache.proofs.Ids.RisingCounter.{CountsTo, Rises, put-counts, put-rises, spared-counts, spared-rises}

-- ---- What an id does, and no other call: the next one is given, and the counter doesn't fall.

pub record Passes (s : State) (ids : List ℕ) (out : Outcome) : Type 0 where
  pub rises : Rises (contents_of s) out.changes
  pub counter : ℕ
  pub counts : CountsTo (contents_after (contents_of s) out.changes) counter
  pub next : s.next ≤ out.state.next
  pub given : (ids ≡ []) ⊎ ((ids ≡ s.next ∷ []) × (out.state.fault ≡ false) × (out.state.next ≡ s.next + 1))

quiet : (s : State) (ids : List ℕ) (n : ℕ) (out : Outcome) → ids ≡ [] → CountsTo (contents_of s) n → IsQuiet s out → Passes s ids out
quiet s ids n out none counts is = record {
  rises = spared-rises (contents_of s) out.changes n (is.spares n counts) counts;
  counter = n;
  counts = spared-counts (contents_of s) out.changes n (is.spares n counts) counts;
  next = let same = is.next in omega (arith, same);
  given = inl none;
}

pub call-passes : {L : Type 0} (g : Ghosts L) (cache : Cache L) (s : State) (n : ℕ) → CountsTo (contents_of s) n → (call : Call) (answer : Answer) (out : Outcome) → StepOver g cache s call answer out → Passes s (id_in answer) out
call-passes g cache s n counts call answer out step = by (id_in answer) (call-form g cache s call answer out step)
  where
    by : (ids : List ℕ) → Form s call ids out → Passes s ids out
    by ids (Plain none is) = quiet s ids n out none counts (quiet_of is)
    by ids (Marks none is leaves) = quiet s ids n out none counts is
    by ids (Next clear given is) = subst (Passes s ids) (sym is) (record { rises = tt; counter = n; counts = counts; next = omega arith; given = inr (given, clear, refl) })
    by ids (Raises to) = record {
      rises = subst (Rises (contents_of s)) (sym to.changes) (put-rises (contents_of s) to.old to.new to.counts to.up);
      counter = to.new;
      counts = subst (λ (l : List (Event Update)). CountsTo (contents_after (contents_of s) l) to.new) (sym to.changes) (put-counts (contents_of s) to.old to.new to.counts);
      next = ⊎_elim (λ h. let e = ap (λ (u : State). u.next) h.1 in omega (arith, e)) (λ h. let e = ap (λ (u : State). u.next) h.2 in omega (arith, e)) to.end;
      given = ⊎_elim (λ h. inl h.0) (λ h. inr (h.0, ap (λ (u : State). u.fault) h.2 ∙ h.1, ap (λ (u : State). u.next) h.2)) to.end;
    }

-- with a write fault kept no id is given
pub none-given : {L : Type 0} (g : Ghosts L) (cache : Cache L) (s : State) → s.fault ≡ true → (call : Call) (answer : Answer) (out : Outcome) → StepOver g cache s call answer out → id_in answer ≡ []
none-given g cache s kept call answer out step = grind arith

-- the stamps say that of a page
same-stamp : (pages : List StampedPage) (p put : StampedPage) → slice_get pages 1 ≡ Some p → map (λ (q : StampedPage). q.stamp) (slice_set pages 1 put) ≡ map (λ (q : StampedPage). q.stamp) pages → put.stamp ≡ p.stamp
same-stamp pages p put there same = cc (map-at (λ (q : StampedPage). q.stamp) pages 1 p there, map-at (λ (q : StampedPage). q.stamp) (slice_set pages 1 put) 1 put (set-at pages 1 p put there))

-- an id that leaves every stamp wrote nothing
pub wrote-none : {L : Type 0} (g : Ghosts L) (cache : Cache L) (s : State) (call : Call) (id : ℕ) (out : Outcome) → StepOver g cache s call (Generated (Ok id)) out → stamps_of out.state ≡ stamps_of s → out.changes ≡ []
wrote-none g cache s call id out step same = grind (arith, call-form g cache s call (Generated (Ok id)) out step, same-stamp)
