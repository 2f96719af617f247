-- What the calls of a batch are, by how it ended.
use Rattle.std.proofs.Common.{append_assoc, append-nil, ◌≡◌, inl, inr, List, [], ◌∷◌, ◌++◌, Result, Ok, Err, refl, sym, ◌∙◌, ap, subst}
use Rattle.sled_base.specs.declared.types.Error.{Error}
use Rattle.sled_log.specs.declared.log.Log.{Ghosts}
use Rattle.sled_pagecache.specs.Batches.{with_pin}
use Rattle.sled_pagecache.specs.Batches.{CancelsBatch, OpensBatch, SealsBatch}
use Rattle.sled_pagecache.specs.Cache.{Cache}
use Rattle.sled_pagecache.specs.Inside.MadeLaws.{cancel-made, pin-made, seal-made}
use Rattle.sled_pagecache.specs.Inside.SequenceLaws.{made-more}
use Rattle.sled_pagecache.specs.Rows.{AreMade, IsMade}
use Rattle.sled_pagecache.specs.Trees.{MadeCalls}
use Rattle.sled_pagecache.specs.declared.pagecache.handles.call.Answer.{Answer}
use Rattle.sled_pagecache.specs.declared.pagecache.handles.call.Answer.TheVariants.{Pinned, Sealed, Cancelled}
use Rattle.sled_pagecache.specs.declared.pagecache.handles.call.Call.{Call}
use Rattle.sled_pagecache.specs.declared.pagecache.handles.call.Call.TheVariants.{Pin, Seal, Cancel}
use Rattle.sled_shared.specs.Calls.{AreSwaps, IsBatch, answer_of, call_of, refusal_of}
use Rattle.sled_shared.specs.Kept.{swap_ended, swaps_ended}
use Rattle.sled_shared.specs.declared.calls.Swap.{Swap}
use Rattle.sled_shared.specs.declared.calls.SwapAnswer.{SwapAnswer}
use Rattle.sled_shared.specs.declared.entry.Ending.{Ending}

-- ---- swaps in a row

-- one swap more was made
swaps-more : (done : List Swap) (answers : List SwapAnswer) (calls : MadeCalls) (one : Swap) (answer : SwapAnswer) → AreSwaps done (Ok tt) answers calls
    → AreSwaps (done ++ one ∷ []) (Ok tt) (answers ++ answer ∷ []) (calls ++ (call_of one, answer_of answer) ∷ [])
swaps-more [] [] calls one answer none = subst (λ (l : MadeCalls). AreSwaps (one ∷ []) (Ok tt) (answer ∷ []) (l ++ (call_of one, answer_of answer) ∷ [])) (sym none) ([], refl, refl)
swaps-more [] (first ∷ answers) calls one answer made = absurd made
swaps-more (swap ∷ done) [] calls one answer made = absurd made
swaps-more (swap ∷ done) (first ∷ answers) calls one answer (rest, is, made) =
    (rest ++ (call_of one, answer_of answer) ∷ [], ap (λ (l : MadeCalls). l ++ (call_of one, answer_of answer) ∷ []) is, swaps-more done answers rest one answer made)

-- one was refused
swaps-refused : (done : List Swap) (answers : List SwapAnswer) (calls : MadeCalls) (one : Swap) (others : List Swap) (e : Error) → AreSwaps done (Ok tt) answers calls
    → AreSwaps (done ++ one ∷ others) (Err e) answers (calls ++ (call_of one, refusal_of one e) ∷ [])
swaps-refused [] [] calls one others e none = ap (λ (l : MadeCalls). l ++ (call_of one, refusal_of one e) ∷ []) none
swaps-refused [] (first ∷ answers) calls one others e made = absurd made
swaps-refused (swap ∷ done) [] calls one others e made = absurd made
swaps-refused (swap ∷ done) (first ∷ answers) calls one others e (rest, is, made) =
    (rest ++ (call_of one, refusal_of one e) ∷ [], ap (λ (l : MadeCalls). l ++ (call_of one, refusal_of one e) ∷ []) is, swaps-refused done answers rest one others e made)

-- each of these swaps ended so, and that was its answer
abbrev AreEnded : List Swap → List Ending → List SwapAnswer → Type 0
AreEnded [] [] answers = answers ≡ []
AreEnded (one ∷ swaps) (ending ∷ endings) answers = (rest : List SwapAnswer) × (answers ≡ swap_ended one ending ∷ rest) × AreEnded swaps endings rest
AreEnded swaps endings answers = ⊥

ended-more : (done : List Swap) (endings : List Ending) (answers : List SwapAnswer) (one : Swap) (ending : Ending) (answer : SwapAnswer) → AreEnded done endings answers → swap_ended one ending ≡ answer
    → AreEnded (done ++ one ∷ []) (endings ++ ending ∷ []) (answers ++ answer ∷ [])
ended-more [] [] answers one ending answer none is = ([], ap (λ (l : List SwapAnswer). l ++ answer ∷ []) none ∙ ap (λ (a : SwapAnswer). a ∷ []) (sym is), refl)
ended-more [] (first ∷ endings) answers one ending answer are is = absurd are
ended-more (swap ∷ done) [] answers one ending answer are is = absurd are
ended-more (swap ∷ done) (first ∷ endings) answers one ending answer (rest, are, others) is =
    (rest ++ answer ∷ [], ap (λ (l : List SwapAnswer). l ++ answer ∷ []) are, ended-more done endings rest one ending answer others is)

-- so the endings tell the answers, whatever swaps come behind
ended-tells : (done left : List Swap) (endings : List Ending) (answers : List SwapAnswer) → AreEnded done endings answers → swaps_ended (done ++ left) endings ≡ answers
ended-tells [] [] [] answers none = sym none
ended-tells [] (one ∷ left) [] answers none = sym none
ended-tells [] left (first ∷ endings) answers are = absurd are
ended-tells (swap ∷ done) left [] answers are = absurd are
ended-tells (swap ∷ done) left (first ∷ endings) answers (rest, are, others) = ap (λ (l : List SwapAnswer). swap_ended swap first ∷ l) (ended-tells done left endings rest others) ∙ sym are

pub ended-none : (swaps : List Swap) → swaps_ended swaps [] ≡ []
ended-none [] = refl
ended-none (one ∷ swaps) = refl

module _ {L : Type 0} (g : Ghosts L) where
  -- some of all swaps were made, with these answers, and these are left
  pub record RunsSo (all left : List Swap) (answers : List SwapAnswer) (endings : List Ending) (old new : Cache L) : Type 0 where
    pub done : List Swap
    pub calls : MadeCalls
    pub parts : all ≡ done ++ left
    pub ended : AreEnded done endings answers
    pub are : AreSwaps done (Ok tt) answers calls
    pub made : AreMade g old calls new

  pub runs-none : (all : List Swap) (answers : List SwapAnswer) (endings : List Ending) (old : Cache L) → answers ≡ [] → endings ≡ [] → RunsSo all all answers endings old old
  runs-none all answers endings old none empty = record {
    done = [];
    calls = [];
    parts = refl;
    ended = subst (λ (l : List Ending). AreEnded [] l answers) (sym empty) none;
    are = subst (λ (l : List SwapAnswer). AreSwaps [] (Ok tt) l []) (sym none) refl;
    made = refl;
  }

  pub runs-more : (all left behind : List Swap) (one : Swap) (answers longer : List SwapAnswer) (endings further : List Ending) (answer : SwapAnswer) (ending : Ending) (old mid new : Cache L) → RunsSo all left answers endings old mid
      → left ≡ one ∷ behind → longer ≡ answers ++ answer ∷ [] → further ≡ endings ++ ending ∷ [] → swap_ended one ending ≡ answer → IsMade g mid (call_of one) (answer_of answer) new → RunsSo all behind longer further old new
  runs-more all left behind one answers longer endings further answer ending old mid new so next more on is last = record {
    done = so.done ++ one ∷ [];
    calls = so.calls ++ (call_of one, answer_of answer) ∷ [];
    parts = so.parts ∙ ap (λ (l : List Swap). so.done ++ l) next ∙ sym (append_assoc so.done (one ∷ []) behind);
    ended = subst (λ (l : List Ending). AreEnded (so.done ++ one ∷ []) l longer) (sym on) (subst (λ (l : List SwapAnswer). AreEnded (so.done ++ one ∷ []) (endings ++ ending ∷ []) l) (sym more) (ended-more so.done endings answers one ending answer so.ended is));
    are = subst (λ (l : List SwapAnswer). AreSwaps (so.done ++ one ∷ []) (Ok tt) l (so.calls ++ (call_of one, answer_of answer) ∷ [])) (sym more) (swaps-more so.done answers so.calls one answer so.are);
    made = made-more g old mid new so.calls (call_of one) (answer_of answer) so.made last;
  }

  pub runs-tell : (all left : List Swap) (answers : List SwapAnswer) (endings : List Ending) (old new : Cache L) → RunsSo all left answers endings old new → swaps_ended all endings ≡ answers
  runs-tell all left answers endings old new so = ap (λ (l : List Swap). swaps_ended l endings) so.parts ∙ ended-tells so.done left endings answers so.ended

  pub runs-refused : (all left behind : List Swap) (one : Swap) (answers : List SwapAnswer) (endings : List Ending) (e : Error) (old mid new : Cache L) → RunsSo all left answers endings old mid → left ≡ one ∷ behind
      → IsMade g mid (call_of one) (refusal_of one e) new → (calls : MadeCalls) × AreSwaps all (Err e) answers calls × AreMade g old calls new
  runs-refused all left behind one answers endings e old mid new so next last = (
    so.calls ++ (call_of one, refusal_of one e) ∷ [],
    subst (λ (l : List Swap). AreSwaps l (Err e) answers (so.calls ++ (call_of one, refusal_of one e) ∷ [])) (sym (so.parts ∙ ap (λ (l : List Swap). so.done ++ l) next)) (swaps-refused so.done answers so.calls one behind e so.are),
    made-more g old mid new so.calls (call_of one) (refusal_of one e) so.made last,
  )

  pub runs-all : (all left : List Swap) (answers : List SwapAnswer) (endings : List Ending) (old new : Cache L) → RunsSo all left answers endings old new → left ≡ [] → (calls : MadeCalls) × AreSwaps all (Ok tt) answers calls × AreMade g old calls new
  runs-all all left answers endings old new so none =
      let whole : all ≡ so.done = so.parts ∙ ap (λ (l : List Swap). so.done ++ l) none ∙ append-nil so.done in
      (so.calls, subst (λ (l : List Swap). AreSwaps l (Ok tt) answers so.calls) (sym whole) so.are, so.made)

  -- ---- the batch

  -- the batch's calls, whatever closes it
  batch-made : (old pinned lent mid new : Cache L) (inner : MadeCalls) (call : Call) (answer : Answer) → OpensBatch g old (Ok tt) pinned → lent ≡ pinned → AreMade g lent inner mid → IsMade g mid call answer new
      → AreMade g old (with_pin (inner ++ (call, answer) ∷ [])) new
  batch-made old pinned lent mid new inner call answer opens same made closed =
      (pinned, pin-made g old pinned (Ok tt) opens, made-more g pinned mid new inner call answer (subst (λ from. AreMade g from inner mid) same made) closed)

  abbrev pub BatchMade : List Swap → Result (List SwapAnswer) (Error × List SwapAnswer) → Cache L → Cache L → Type 0
  BatchMade swaps result old new = (calls : MadeCalls) × IsBatch swaps result calls × AreMade g old calls new

  pub batch-unopened : (swaps : List Swap) (e : Error) (old new : Cache L) → OpensBatch g old (Err e) new → BatchMade swaps (Err (e, [])) old new
  batch-unopened swaps e old new opens = ((Pin, Pinned (Err e)) ∷ [], inl (refl, refl), (new, pin-made g old new (Err e) opens, refl))

  pub batch-sealed : (swaps : List Swap) (answers : List SwapAnswer) (inner : MadeCalls) (old pinned lent mid new : Cache L) → OpensBatch g old (Ok tt) pinned → lent ≡ pinned
      → AreSwaps swaps (Ok tt) answers inner → AreMade g lent inner mid → SealsBatch g mid (Ok tt) new → BatchMade swaps (Ok answers) old new
  batch-sealed swaps answers inner old pinned lent mid new opens same are made closes =
      (with_pin (inner ++ (Seal, Sealed (Ok tt)) ∷ []), (inner, are, refl), batch-made old pinned lent mid new inner Seal (Sealed (Ok tt)) opens same made (seal-made g mid new (Ok tt) closes))

  pub batch-unsealed : (swaps : List Swap) (answers : List SwapAnswer) (inner : MadeCalls) (e : Error) (old pinned lent mid new : Cache L) → OpensBatch g old (Ok tt) pinned → lent ≡ pinned
      → AreSwaps swaps (Ok tt) answers inner → AreMade g lent inner mid → SealsBatch g mid (Err e) new → BatchMade swaps (Err (e, answers)) old new
  batch-unsealed swaps answers inner e old pinned lent mid new opens same are made closes =
      (with_pin (inner ++ (Seal, Sealed (Err e)) ∷ []), inr (inl (inner, are, refl)), batch-made old pinned lent mid new inner Seal (Sealed (Err e)) opens same made (seal-made g mid new (Err e) closes))

  pub batch-cancelled : (swaps : List Swap) (answers : List SwapAnswer) (inner : MadeCalls) (e : Error) (closed : Result (Unit {0}) Error) (old pinned lent mid new : Cache L) → OpensBatch g old (Ok tt) pinned → lent ≡ pinned
      → AreSwaps swaps (Err e) answers inner → AreMade g lent inner mid → CancelsBatch g mid closed new → BatchMade swaps (Err (e, answers)) old new
  batch-cancelled swaps answers inner e closed old pinned lent mid new opens same are made closes =
      (with_pin (inner ++ (Cancel, Cancelled closed) ∷ []), inr (inr (inner, closed, are, refl)), batch-made old pinned lent mid new inner Cancel (Cancelled closed) opens same made (cancel-made g mid new closed closes))
