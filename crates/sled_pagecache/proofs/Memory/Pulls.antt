-- What is found of a page's messages, one after another, makes what its chain makes, and why no node is read.
use Rattle.sled_pagecache.proofs.Names.{◌≡◌, ◌+◌, ◌<◌, ◌++◌, inl, inr, ℕ, false, List, [], ◌∷◌, length, take, get_or, refl, sym, ◌∙◌, ap, subst, take_more, take_all, map-append, arith, Result, Ok, Err, IfOk, IfErr, MessageKind, DiskPtr, Refusal, is_empty, Node, Update, Put, Link, Entry, Chain, Messages, messages_of, message, effect_of_entry, kind_at, Decodes, IsUpdate, Makes, WholeNode, IsReadAs, IsFoundAs, RefusesPull, found_message, Leads, RefusesFirst, RefusesMessage, Follows, Found, ◌≤◌, Some, now, one_more, Ghosts, StickyLog, Went, IsCaused, HasRead, OutOfMemory, Corruption, ReportableBug, FreeInPull}
use Rattle.sled_pagecache.specs.Inside.Measurements.{ReadsLog}
use Rattle.sled_base.specs.declared.kinds.MessageKind.TheVariants as kinds
use Rattle.sled_pagecache.proofs.Memory.FoundMessages.{makes-more, makes-last, refused-at}

-- ---- one message

-- a payload reads as a blob what it reads
pub read-is : (entry : Entry) (kind : MessageKind) (payload : List ℕ) → IsReadAs entry kind payload → (u : Update) → IsUpdate (message kind payload) u ≡ IsUpdate entry.message u
read-is entry kind payload is u =
    let read : Decodes (kind_at entry.place.pointer entry.message.kind) entry.message.payload u ≡ IsUpdate entry.message u = grind arith in
    ap (λ kind. Decodes kind payload u) is.0 ∙ ap (λ (payload : List ℕ). Decodes (kind_at entry.place.pointer entry.message.kind) payload u) is.1 ∙ read

same : {a b : Type 0} → a ≡ b → a → b
same e = subst (λ (T : Type 0). T) e

module _ (entry : Entry) (found : Found) (is : IsFoundAs entry found) where
  found-is : (u : Update) → IsUpdate (found_message found) u ≡ IsUpdate entry.message u
  found-is = read-is entry found.kind found.payload.now is.0

  found-leads : (before after : WholeNode) → Leads before (found_message found) after → Leads before entry.message after
  found-leads before after l = (l.0, same (found-is (Link l.0)) l.1, l.2, l.3)

  leads-found : (before after : WholeNode) → Leads before entry.message after → Leads before (found_message found) after
  leads-found before after l = (l.0, same (sym (found-is (Link l.0))) l.1, l.2, l.3)

-- what was found of a page that isn't free doesn't free it
first-full : (chain : Chain) (entry : Entry) (found : Found) → IsFoundAs entry found → is_empty effect_of_entry (entry ∷ chain) ≡ false → found.kind ≡ kinds.Free → ⊥
first-full chain entry found is full free = grind arith

-- ---- refusals that aren't the log's

abbrev pub IsJudged : Refusal → Type 0
IsJudged OutOfMemory = Unit {0}
IsJudged (Corruption (Some pointer)) = Unit {0}
IsJudged (ReportableBug FreeInPull) = Unit {0}
IsJudged refusal = ⊥

pub first-judged : (found : Found) (made : Result WholeNode Refusal) → IfErr made (RefusesFirst found) → IfErr made IsJudged
first-judged found (Ok node) r = tt
first-judged found (Err OutOfMemory) r = tt
first-judged found (Err (Corruption (Some pointer))) r = tt
first-judged found (Err (ReportableBug FreeInPull)) r = tt
first-judged found (Err refusal) r = absurd r

pub follow-judged : (found : Found) (made then : Result WholeNode Refusal) → IfErr made IsJudged → Follows made found then → IfErr then IsJudged
follow-judged found (Ok before) (Ok after) judged f = tt
follow-judged found (Ok before) (Err OutOfMemory) judged f = tt
follow-judged found (Ok before) (Err (Corruption (Some pointer))) judged f = tt
follow-judged found (Ok before) (Err refusal) judged f = absurd f
follow-judged found (Err refusal) then judged f = subst (λ (r : Result WholeNode Refusal). IfErr r IsJudged) (sym f) judged

module _ {L : Type 0} (g : Ghosts L) (old new : StickyLog L) where
  judged-caused : {T : Type 0} (made : Result T Refusal) → new.fault ≡ false → IfErr made IsJudged → IsCaused g old new ⊥ made
  judged-caused (Ok answer) ready judged = record { fault = ready; read = λ is. absurd cc; write = λ is. absurd cc; full = λ is. cc }
  judged-caused (Err OutOfMemory) ready judged = record { fault = ready; read = λ is. absurd cc; write = λ is. absurd cc; full = λ is. cc }
  judged-caused (Err (Corruption (Some pointer))) ready judged = record { fault = ready; read = λ is. absurd cc; write = λ is. absurd cc; full = λ is. cc }
  judged-caused (Err (ReportableBug FreeInPull)) ready judged = record { fault = ready; read = λ is. absurd cc; write = λ is. absurd cc; full = λ is. cc }
  judged-caused (Err refusal) ready judged = absurd judged

  pub judged-reads : {T U : Type 0} (made : Result U Refusal) (a : T) (n : ℕ) → (let ok : Result T Refusal = Ok a in HasRead g.counts old.log new.log n ok) → HasRead g.counts old.log new.log n made
  judged-reads (Ok answer) a n read = record { whole = read.whole; part = tt }
  judged-reads (Err refusal) a n read = record { whole = tt; part = (n, omega arith, read.whole) }

  -- what was read is judged without the log
  pub reads-judged : {T U : Type 0} (made : Result U Refusal) (a : T) (n : ℕ) → (let ok : Result T Refusal = Ok a in ReadsLog g old new n ok) → IfErr made IsJudged → ReadsLog g old new n made
  reads-judged made a n read judged = record { went = read.went; cause = judged-caused made read.cause.fault judged; same = read.same; reads = judged-reads made a n read.reads }

  -- one read
  pub reads-one : {T U : Type 0} (a : T) (b : U) → Went g old new [] → (let ok : Result T Refusal = Ok a in IsCaused g old new ⊥ ok) → (g.tells → new.fault ≡ false → now effect_of_entry (g.state new.log) ≡ now effect_of_entry (g.state old.log))
      → (g.counts new.log).reads ≡ one_more (g.counts old.log).reads → (let ok : Result U Refusal = Ok b in ReadsLog g old new 1 ok)
  reads-one a b went cause same reads = record {
    went = went;
    cause = record { fault = cause.fault; read = λ is. absurd cc; write = λ is. absurd cc; full = λ is. cc };
    same = same;
    reads = record { whole = reads; part = tt };
  }

  pub refused-one : {T : Type 0} (refusal : Refusal) → Went g old new [] → (let err : Result T Refusal = Err refusal in IsCaused g old new ⊥ err) → (g.tells → new.fault ≡ false → now effect_of_entry (g.state new.log) ≡ now effect_of_entry (g.state old.log))
      → (g.counts new.log).reads ≡ one_more (g.counts old.log).reads → (let err : Result T Refusal = Err refusal in ReadsLog g old new 1 err)
  refused-one refusal went cause same reads = record { went = went; cause = cause; same = same; reads = record { whole = tt; part = (1, omega arith, reads) } }

-- ---- the messages so far

-- what the first messages of a chain make: a node, or nothing for a reason that the chain gives
abbrev pub MakesSoFar : Chain → ℕ → Result WholeNode Refusal → Type 0
MakesSoFar chain count (Ok node) = Makes (messages_of (take count chain)) (Node node)
MakesSoFar chain count (Err refusal) = RefusesPull chain refusal

first-refused : (chain : Chain) (entry : Entry) (found : Found) → IsFoundAs entry found → is_empty effect_of_entry (entry ∷ chain) ≡ false → (refusal : Refusal) → RefusesFirst found refusal → RefusesPull (entry ∷ chain) refusal
first-refused chain entry found is full refusal r =
    let none = refused-at (entry ∷ chain) 0 entry ((node : WholeNode) → ¬ IsUpdate (found_message found) (Put (Node node))) refusal (omega arith) refl (inl refl)
    (λ none (node, made). none node (same (sym (found-is entry found is (Put (Node node)))) (subst (λ content. IsUpdate entry.message (Put content)) made.2 made.1))) in
    let free = first-full chain entry found is full in
    let at : entry.place.pointer ≡ found.pointer = sym is.1 in
    grind arith

pub first-so-far : (chain : Chain) (entry : Entry) (found : Found) (made : Result WholeNode Refusal) → 0 < length chain → entry ≡ get_or chain 0 entry → IsFoundAs entry found → is_empty effect_of_entry chain ≡ false
    → IfOk made (λ node. IsUpdate (found_message found) (Put (Node node))) → IfErr made (RefusesFirst found) → MakesSoFar chain 1 made
first-so-far [] entry found made lt at is full ok err = absurd (omega (arith, lt))
first-so-far (e ∷ chain) entry found (Ok node) lt at is full ok err =
    let is : IsFoundAs e found = subst (λ (e : Entry). IsFoundAs e found) at is in
    (Node node, same (found-is e found is (Put (Node node))) ok, refl)
first-so-far (e ∷ chain) entry found (Err refusal) lt at is full ok err =
    let is : IsFoundAs e found = subst (λ (e : Entry). IsFoundAs e found) at is in
    first-refused chain e found is full refusal err

pub next-so-far : (chain : Chain) (i : ℕ) (entry : Entry) (found : Found) (made then : Result WholeNode Refusal) → i < length chain → entry ≡ get_or chain i entry → IsFoundAs entry found
    → MakesSoFar chain i made → Follows made found then → MakesSoFar chain (i + 1) then
next-so-far chain i entry found (Ok before) (Ok after) lt at is made leads =
    let told = take i chain in
    subst (λ (told : Messages). Makes told (Node after))
    (sym (ap messages_of (take_more chain i entry lt ∙ ap (λ (e : Entry). told ++ e ∷ []) (sym at)) ∙ map-append (λ (e : Entry). e.message) told (entry ∷ [])))
    (makes-more (messages_of told) before entry.message after made (found-leads entry found is before after leads))
next-so-far chain i entry found (Ok before) (Err refusal) lt at is made refused =
    let told = take i chain in
    refused-at chain i entry _ refusal lt at (inr (before, made))
    (λ nowhere (after, makes). nowhere after (leads-found entry found is before after (makes-last (messages_of told) before entry.message after made (rw (map-append (λ (e : Entry). e.message) told (entry ∷ [])) at makes))))
    (subst (λ (pointer : DiskPtr). RefusesMessage pointer ((after : WholeNode) → ¬ Leads before (found_message found) after) refusal) is.1 refused)
next-so-far chain i entry found (Err refusal) then lt at is made follows = subst (MakesSoFar chain (i + 1)) (sym follows) made

-- and then what all of them make
pub made-all : (chain : Chain) (i : ℕ) (made : Result WholeNode Refusal) → length chain ≤ i → MakesSoFar chain i made → IfOk made (λ node. Makes (messages_of chain) (Node node))
made-all chain i (Ok node) le made = subst (λ (l : Chain). Makes (messages_of l) (Node node)) (take_all i chain le) made
made-all chain i (Err refusal) le made = tt
