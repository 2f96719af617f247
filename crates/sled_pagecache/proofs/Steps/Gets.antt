-- A get as a step of the machine: a page is brought in, and then its node is lent.
use Rattle.sled_pagecache.proofs.Names.{option_map, MeetsDamage, ReportsDamage, MatchOption, HasNode, HasNoNode, IsBounded, KeepsMemory, FindsPage, ◌≡◌, inl, inr, ℕ, Bool, true, false, List, [], Option, Some, None, Result, Ok, Err, slice_get, slice_index_or, refl, sym, ◌∙◌, ap, subst, false≢true, false_from_ne_true, error_of, IsOk, IsErrOf, Write, Error, Refusal, Io, ReservedId, Content, Node, Chain, messages_of, holds-made, Ghosts, WholeNode, Keeps, Cache, Represents, IsResident, IsAway, Acts, IsBlamed, chain_at, Logged, sticky_log_of, RefusesReading, BringsIn, IsNodeAt, ReadsPage, page, State, page_at, is_reserved, Finds, FindsContent, Token, Got, Get, NodeView, IsGot, Outcome, no_change, Gets, StampedPage, answered, arith, behind-own}
use Rattle.sled_pagecache.proofs.CacheLog.LeftPages.{went-left}
use Rattle.sled_base.specs.declared.types.Error.TheVariants as error
use Rattle.sled_pagecache.proofs.Steps.KeptStamps.{keeps-stuck, keeps-err, keeps-ok}
use Rattle.sled_pagecache.proofs.Steps.CacheSteps.{LeadsTo, steps-stuck, steps-known, steps-went}
use Rattle.sled_pagecache.proofs.Steps.CallOutcomes.{leads-same, leads-unread}
use Rattle.sled_pagecache.proofs.Table.StateChains.{unread, unread-content, stamped-at, state-own, state-page, full-stands}
use Rattle.sled_pagecache.proofs.Steps.FirstTests.{passes, stuck-passes, reserved-passes}
use Rattle.sled_pagecache.proofs.Steps.Puts.{blamed}
use Rattle.sled_pagecache.proofs.Table.StatePages.{full-unplaced}

-- ---- the machine

abbrev finds : State → ℕ → Result (Option (Token × WholeNode)) Error → Outcome → Type 0
finds s pid answer out = Finds s pid (page_at s pid) answer out

at-page : (s : State) (pid : ℕ) → s.fault ≡ false → is_reserved pid ≡ false → (answer : Result (Option (Token × WholeNode)) Error) (out : Outcome) (stamp : ℕ) (content : Content)
    → page_at s pid ≡ Some (page stamp content) → FindsContent s pid stamp content answer out → Gets s pid answer out
at-page s pid clear free answer out stamp content at h = passes s pid (finds s pid) answer out clear free (subst (λ (o : Option StampedPage). Finds s pid o answer out) (sym at) h)

-- ---- the cache

module _ {L : Type 0} (g : Ghosts L) (old new : Cache L) (pid : ℕ) (known : g.tells) (held : Logged) (s : State) (is : Represents g old held s) (clear : s.fault ≡ false) where
  -- the page wasn't read
  refused-leads : (refusal : Refusal) → (let err : Result (Unit {0}) Refusal = Err refusal in BringsIn g old pid err new) → RefusesReading (chain_at (g.state old.log) pid) pid refusal
      → LeadsTo g old new held s (Get pid) (Got (Err (error_of refusal))) []
  refused-leads refusal brings (inl (own, reserved)) =
      rw reserved (leads-same g old new held s is clear (Get pid) (Got (Err (error.Unsupported ReservedId))) brings.left.next (reserved-passes s pid (finds s pid) clear own) brings.left.stamps (rw reserved at brings.cause.fault))
  refused-leads refusal brings (inr (behind, full, why)) =
      let chain = chain_at (g.state old.log) pid in
      let stands = full-stands g old held s is clear pid (behind-own pid behind) full in
      let e = error_of refusal in
      let out = unread s refusal in
      leads-unread g old new held s is clear (Get pid) (Got (Err e)) brings.left.next refusal
      (at-page s pid clear behind (Err e) out stands.stamp stands.content stands.there
      (unread-content s pid chain stands (λ content. FindsContent s pid stands.stamp content (Err e) out) (Option (Token × WholeNode)) refusal why (λ node h. h) (λ h. h)))
      brings.left.stamps brings.cause.fault

  -- the page lies in memory
  module _ (brings : (let ok : Result (Unit {0}) Refusal = Ok tt in BringsIn g old pid ok new)) where
    chain-same : chain_at (g.state new.log) pid ≡ chain_at (g.state old.log) pid
    chain-same = ap (λ (l : List Chain). slice_index_or l pid []) (brings.left.same known brings.cause.fault)

    found-leads : (found : Option NodeView) → IsNodeAt g new pid found → LeadsTo g old new held s (Get pid) (Got (answered (Ok found))) []
    found-leads (Some view) (is_token, at, resident, made) =
        let stamp = view.token.stamp in
        let node = view.node.now in
        let stamped = stamped-at s.pages pid stamp (ap (λ (l : List ℕ). slice_get l pid) (is.stamps ∙ sym brings.left.stamps) ∙ at) in
        let holds = state-page g old held s is clear pid (page stamp stamped.0) stamped.1 in
        let same = holds-made (messages_of (chain_at (g.state old.log) pid)) stamped.0 (Node node) holds (rw chain-same at (made known brings.cause.fault)) in
        leads-same g old new held s is clear (Get pid) (Got (Ok (Some (view.token, node)))) brings.left.next
        (at-page s pid clear brings.in_memory.0 (Ok (Some (view.token, node))) (no_change s) stamp (Node node)
        (stamped.1 ∙ ap (λ (content : Content). Some (page stamp content)) same) (refl, ap (λ (t : Token). Some (t, node)) is_token))
        brings.left.stamps brings.cause.fault
    found-leads None (inl away) = absurd (brings.in_memory.1 away)
    found-leads None (inr unmade) =
        let made = rw chain-same at (unmade known brings.cause.fault) in
        let own = state-own g old held s is clear pid (behind-own pid brings.in_memory.0) in
        leads-same g old new held s is clear (Get pid) (Got (Ok None)) brings.left.next
        (passes s pid (finds s pid) (Ok None) (no_change s) clear brings.in_memory.0
        (grind (arith, made, own, state-page g old held s is clear pid, brings.sound known, full-unplaced (chain_at (g.state old.log) pid))))
        brings.left.stamps brings.cause.fault

-- ---- what a caller knows

module _ {L : Type 0} (g : Ghosts L) (old new : Cache L) (pid : ℕ) where
  pub got-found : (found : Option NodeView)
      → (let ok : Result (Unit {0}) Refusal = Ok tt in old.fault ≡ true → IsErrOf ok (Io Write) × (new ≡ old))
      → (let ok : Result (Unit {0}) Refusal = Ok tt in old.fault ≡ false → BringsIn g old pid ok new)
      → ReadsPage g old pid new → IsNodeAt g new pid found → MatchOption found (HasNoNode new pid) (λ _. (size : ℕ) × HasNode new pid size)
      → FindsPage old pid new → IsBounded g new → IsGot g old pid (Ok found) new
  got-found found stuck brings reads at there accesses bounded =
      let ready : old.fault ≡ false = false_from_ne_true old.fault (λ kept. absurd (let h = (stuck kept).0 in cc)) in
      let brings = brings ready in
      let answer : Option (Token × WholeNode) = option_map (λ view. (view.token, view.node.now)) found in
      let is : answered (Ok found) ≡ Ok answer = grind arith in
      record {
        step = steps-known g old new brings.left.opening (λ known.
            steps-went g old new (sticky_log_of old) (sticky_log_of new) (Get pid) (Got (answered (Ok found))) [] brings.left.opening refl refl refl ready (went-left g old new brings.left)
            (λ held s is clear. found-leads g old new pid known held s is clear brings found at));
        blame = rw is (record { read = λ h. cc; write = λ h. cc });
        keeps = rw is (keeps-ok old new (λ _. old.stamps) answer ready brings.cause.fault brings.left.stamps brings.left.batch);
        reads = reads;
        once = grind arith;
        token = grind arith;
        kept_out = tt;
        damaged = λ meets. absurd (brings.sound meets.tells meets.damaged);
        always = λ _ _ _. refl;
        accesses = grind arith;
        same = tt;
        bounded = bounded;
      }

  pub got-refused : (refusal : Refusal)
      → (let err : Result (Unit {0}) Refusal = Err refusal in old.fault ≡ true → IsErrOf err (Io Write) × (new ≡ old))
      → (let err : Result (Unit {0}) Refusal = Err refusal in old.fault ≡ false → BringsIn g old pid err new)
      → ReadsPage g old pid new → (IsAway old pid → IsAway new pid) → (old.fault ≡ false → is_reserved pid ≡ false → IsResident old pid → (let err : Result (Unit {0}) Refusal = Err refusal in IsOk err))
      → KeepsMemory old new → IsBounded g new → IsGot g old pid (Err refusal) new
  got-refused refusal stuck brings reads kept_out always same bounded =
      let seen = by old.fault refl in
      record { step = seen.0; blame = seen.1; keeps = seen.2; damaged = seen.3; reads = reads; once = tt; token = tt; kept_out = kept_out; always = always; accesses = tt; same = same; bounded = bounded }
    where
      by : (fault : Bool) → old.fault ≡ fault → let answer : Result (Option (Token × WholeNode)) Error = Err (error_of refusal) in
          Acts g old (Get pid) (Got answer) new × IsBlamed g old new answer × Keeps old new answer (λ _. old.stamps) × (MeetsDamage g old pid → ReportsDamage g old pid answer new)
      by true kept =
          let is : refusal ≡ Io Write = (let h = (stuck kept).0 in cc) in
          rw (is, (stuck kept).1) (
            steps-stuck g old (Get pid) (Got (Err (error.Io Write))) kept (λ s stuck. stuck-passes s pid (finds s pid) stuck),
            record { read = λ h. cc; write = λ h ready. absurd (false≢true (sym ready ∙ kept)) },
            keeps-stuck old old (λ _. old.stamps) kept refl,
            λ meets. absurd (false≢true (sym meets.ready ∙ kept)),
          )
      by false ready =
          let done = brings ready in (
            steps-known g old new done.left.opening (λ known.
                steps-went g old new (sticky_log_of old) (sticky_log_of new) (Get pid) (Got (Err (error_of refusal))) [] done.left.opening refl refl refl ready (went-left g old new done.left)
                (λ held s is clear. refused-leads g old new pid known held s is clear refusal done (done.refused known))),
            blamed g old new ⊥ refusal done.cause,
            keeps-err old new (λ _. old.stamps) (Unit {0}) refusal ready done.cause.fault done.left.stamps done.left.batch,
            λ meets. record { reported = grind (arith, done.refused meets.tells, meets.behind); left = done.left },
          )
