-- A link as a step of the machine.
use Rattle.sled_pagecache.proofs.Names.{not, Recency, ◌≡◌, ◌≢◌, ◌≤◌, ◌+◌, ◌-◌, ◌^◌, inl, inr, ℕ, Bool, true, false, cond, ltb, List, [], ◌∷◌, ◌++◌, length, Option, Some, Result, Ok, Err, slice_get, slice_set, slice_index_or, refl, sym, ◌∙◌, ap, subst, arith, eq-eqb, get_or-map, ne_eqb, ltb-true, length-map, map-set, same_Some, slice_get_within, get_or_from_slice_get, error_of, LinkRefused, Write, Error, Refusal, ReportableBug, Io, Corruption, OutOfMemory, StampUsedUp, LogFull, chains_from, Content, Free, Node, Update, Put, Link, after_link, contents_from, Change, Entry, Chain, Messages, messages_of, effect_of, effect_of_entry, holds-made, one_content, Makes, Hold, MayChange, now-unplaced, message_of, Ghosts, Accepts, applied, WholeNode, Cache, chain_length, Represents, HasNoRoom, ActOver, Acts, link_update, chain_at, IsCaused, is_write_fault, RefusesUnappended, RefusesPull, update_by, TakesLink, RefusesAppended, Logged, is_free, IsProper, page, State, page_at, with_page, Outcome, outcome, no_change, is_reserved, Does, LinksNode, LinksContent, stamps_in, IsConsistent, Token, token, Linked, Config, StickyLog, NodeLink, StampedPage, KeptPage, map-at, behind-own, IsKept, Swapped}
use Rattle.sled_pagecache.proofs.Table.PageChains.{kept-long}
use Rattle.sled_base.specs.declared.types.Error.TheVariants as error
use Rattle.sled_base.specs.declared.types.Refusal.TheVariants.{Unsupported}
use Rattle.sled_log.specs.LogState as log
use Rattle.sled_pagecache.proofs.Steps.CacheSteps.{LeadsTo, steps-went}
use Rattle.sled_pagecache.proofs.CacheLog.ToldContents.{proper-now}
use Rattle.sled_pagecache.proofs.Steps.CallOutcomes.{leads-same, leads-unread, leads-begun, leads-set}
use Rattle.sled_pagecache.proofs.Table.StateChains.{FullStands, unread, unread-content, full-stands}
use Rattle.sled_pagecache.proofs.Memory.PageIn.{page-kept-at, stamps-same}
use Rattle.sled_pagecache.proofs.Steps.Puts.{unless-clear, holds_unplaced}
use Rattle.sled_pagecache.proofs.CacheLog.ProperPages.{link-proper, put-proper}
use Rattle.sled_pagecache.proofs.Table.TableNodes.{view}
use Rattle.sled_pagecache.proofs.Table.StatePages.{kept-free}
use Rattle.sled_pagecache.specs.Inside.LinkWrites as linked
use Rattle.sled_pagecache.specs.Logged.{now}
use Rattle.sled_pagecache.specs.declared.pagecache.handles.call.Call.TheVariants as call

-- ---- what is written

-- a change that may be written to the page, makes the node, and leaves the pages as a cache leaves them
record IsWay (contents : List Content) (pages : List Messages) (pid : ℕ) (made : WholeNode) (update : Update) : Type 0 where
  may : MayChange contents pid update
  makes : contents_from contents (Change pid update) ≡ slice_set contents pid (Node made)
  stays : IsProper (chains_from effect_of pages (Change pid (message_of update))) (contents_from contents (Change pid update))

link-way : (contents : List Content) (pages : List Messages) → Hold pages contents → IsProper pages contents → (pid : ℕ) → 2 ≤ pid → (link : NodeLink) (node : WholeNode) → slice_get contents pid ≡ Some (Node node) → Accepts node link
    → (n : ℕ) → length (slice_index_or pages pid []) ≡ n → IsWay contents pages pid (applied link node) (link_update n link (applied link node))
link-way contents pages hold proper pid from link node at accepts n count = by (ltb n 10) refl
  where
    by : (b : Bool) → ltb n 10 ≡ b → IsWay contents pages pid (applied link node) (cond b (Link link) (Put (Node (applied link node))))
    by true below = record {
      may = (node, at, accepts);
      makes = ap (λ (c : Content). slice_set contents pid (after_link link c)) (get_or_from_slice_get contents pid (Node node) Free at);
      stays = link-proper pages contents hold proper pid from link node at (let few = ltb-true n 10 below in omega (arith, few, count));
    }
    by false above =
        let lt = slice_get_within contents pid (Node node) at in
        record {
          may = omega (arith, lt);
          makes = ap (λ (b : Bool). cond b (contents ++ Node (applied link node) ∷ []) (slice_set contents pid (Node (applied link node)))) (ne_eqb pid (length contents) (λ same. omega (arith, same, lt)));
          stays = put-proper pages contents hold proper pid from (Node (applied link node)) tt lt;
        }

-- ---- the step

module _ {L : Type 0} (g : Ghosts L) where
  module _ (next : ℕ) (config : Config) (recovered : Bool) (lru : Recency) (before : StickyLog L) (pages : List KeptPage) (free : List ℕ) (pid : ℕ)
      (c : IsConsistent g.tells g.state before pages free) (ready : before.fault ≡ false) (t : Token) (same : t.pid ≡ pid) (link : NodeLink) where
    abbrev old : Cache L
    old = view next config recovered lru before pages

    abbrev chain : Chain
    chain = chain_at (g.state before.log) pid

    module _ (behind : is_reserved pid ≡ false) (q : KeptPage) (at : slice_get pages pid ≡ Some q) (not : is_free q.kept ≡ false) (after : StickyLog L) (page_then : KeptPage) (is_fresh : q.stamp ≡ t.stamp) where
      abbrev new : Cache L
      new = view next config recovered lru after (slice_set pages pid page_then)

      module _ (held : Logged) (s : State) (is : Represents g old held s) (clear : s.fault ≡ false) where
        kept : IsKept chain q
        kept = page-kept-at g before before pages free pid q q c ready behind at is.tells

        -- the page of the state, which is at the stamp of the token
        stands : FullStands s pid chain
        stands = full-stands g old held s is clear pid (behind-own pid behind) (kept-free chain q.kept kept.holds ∙ not)

        at_stamp : stands.stamp ≡ t.stamp
        at_stamp =
            same_Some stands.stamp t.stamp
            (sym (map-at (λ (p : StampedPage). p.stamp) s.pages pid (page stands.stamp stands.content) stands.there) ∙ ap (λ (l : List ℕ). slice_get l pid) is.stamps
            ∙ map-at (λ (p : KeptPage). p.stamp) pages pid q at ∙ ap (λ n. Some n) is_fresh)

        step : (answer : Swapped NodeLink) (out : Outcome) → LinksContent (chain_length g.state old) (HasNoRoom g before.log) s t link answer out stands.content → ActOver g old s (call.Link t link) (Linked answer) out
        step answer out h = unless-clear s answer out _ clear (rw (ap is_reserved same ∙ behind, ap (page_at s) same ∙ stands.there, stands.full, eq-eqb stands.stamp t.stamp at_stamp) h)

        -- it holds the node that its chain makes
        module _ (node : WholeNode) (made : Makes (messages_of chain) (Node node)) where
          holds : stands.content ≡ Node node
          holds = holds-made (messages_of chain) stands.content (Node node) stands.holds made

          way : Accepts node link → IsWay (now held) (log.now effect_of (log.unplaced_state (g.state before.log))) pid (applied link node) (update_by q link node)
          way accepts =
              let there : slice_get (now held) pid ≡ Some (Node node)
              = ap (λ (l : List Content). slice_get l pid) (sym (is.known clear).contents) ∙ map-at (λ (p : StampedPage). p.content) s.pages pid (page stands.stamp stands.content) stands.there ∙ ap (λ c. Some c) holds in
              link-way (now held) _ (holds_unplaced g old held s is clear) (proper-now (log.unplaced_state (g.state before.log)) held (is.known clear).logged) pid (behind-own pid behind) link node there accepts (length q.infos.items)
              (ap (λ (l : List Messages). length (slice_index_or l pid [])) (sym (now-unplaced (g.state before.log)))
              ∙ ap length (get_or-map messages_of (log.now effect_of_entry (g.state before.log)) pid []) ∙ length-map chain (λ (e : Entry). e.message) ∙ kept-long chain q kept)

          node-step : (answer : Swapped NodeLink) (out : Outcome) → LinksNode (chain_length g.state old) (HasNoRoom g before.log) s t link node answer out → ActOver g old s (call.Link t link) (Linked answer) out
          node-step answer out h = step answer out (subst (LinksContent (chain_length g.state old) (HasNoRoom g before.log) s t link answer out) (sym holds) h)

          accepted-step : Accepts node link → q.stamp ≢ 2 ^ 64 - 1 → (answer : Swapped NodeLink) (out : Outcome)
              → Does (chain_length g.state old) (HasNoRoom g before.log) s (Change pid (update_by q link node)) answer out (λ swapped u. (swapped ≡ Ok (token pid (t.stamp + 1))) × (u ≡ with_page s pid (page (t.stamp + 1) (Node (applied link node)))))
              → ActOver g old s (call.Link t link) (Linked answer) out
          accepted-step accepts below answer out h = node-step answer out (inr (inr (accepts, rw (ne_eqb t.stamp (2 ^ 64 - 1) (λ most. below (is_fresh ∙ most)), same, kept-long chain q kept) h)))

      -- ---- nothing was told

      module _ (stamp : page_then.stamp ≡ q.stamp) (held : Logged) (s : State) (is : Represents g old held s) (clear : s.fault ≡ false) where
        stamps : new.stamps ≡ old.stamps
        stamps = stamps-same g next config recovered lru before after pages free pid q page_then c ready behind at stamp

        unread-leads : (refusal : Refusal) → RefusesPull chain refusal → (let err : Result (Unit {0}) Refusal = Err refusal in after.fault ≡ is_write_fault err)
            → LeadsTo g old new held s (call.Link t link) (Linked (Err (error_of refusal))) []
        unread-leads refusal why fault =
            let e = error_of refusal in
            leads-unread g old new held s is clear (call.Link t link) (Linked (Err e)) refl refusal
            (step held s is clear (Err e) (unread s refusal)
            (unread-content s pid chain (stands held s is clear) (LinksContent (chain_length g.state old) (HasNoRoom g before.log) s t link (Err e) (unread s refusal)) (Result Token (Option (Token × NodeLink))) refusal why (λ node h. inl h) (λ h. h)))
            stamps fault

        -- the node was read
        still : (node : WholeNode) → Makes (messages_of chain) (Node node) → (e : Error) → LinksNode (chain_length g.state old) (HasNoRoom g before.log) s t link node (Err e) (no_change s) → after.fault ≡ false → LeadsTo g old new held s (call.Link t link) (Linked (Err e)) []
        still node made e h fault = leads-same g old new held s is clear (call.Link t link) (Linked (Err e)) refl (node-step held s is clear node made (Err e) (no_change s) h) stamps fault

        unappended : (refusal : Refusal) → RefusesUnappended chain q.stamp link refusal
            → (let err : Result (Unit {0}) Refusal = Err refusal in after.fault ≡ is_write_fault err)
            → (refusal ≡ Unsupported LogFull → linked.HadNoRoom g before pid q link)
            → LeadsTo g old new held s (call.Link t link) (Linked (Err (error_of refusal))) []
        unappended OutOfMemory why fault full = unread-leads OutOfMemory why fault
        unappended (Io device) why fault full = unread-leads (Io device) why fault
        unappended (Corruption (Some pointer)) why fault full = unread-leads (Corruption (Some pointer)) why fault
        unappended (ReportableBug LinkRefused) (node, made, not) fault full = still node made (error.ReportableBug LinkRefused) (inr (inl (not, (refl, refl)))) fault
        unappended (Unsupported StampUsedUp) (node, made, accepts, most) fault full =
            still node made (error.Unsupported StampUsedUp) (inr (inr (accepts, rw (eq-eqb t.stamp (2 ^ 64 - 1) (sym is_fresh ∙ most)) (refl, refl)))) fault
        unappended (Unsupported LogFull) (node, made, accepts, below) fault full =
            let had = full refl in
            let one : had.node ≡ node = (let e : Node had.node ≡ Node node = one_content (messages_of chain) (Node had.node) (Node node) (had.made is.tells) made in cc) in
            leads-same g old new held s is clear (call.Link t link) (Linked (Err (error.Unsupported LogFull))) refl
            (accepted-step held s is clear node made accepts below (Err (error.Unsupported LogFull)) (no_change s)
            (subst (λ (n : WholeNode). g.is_full before.log (length (message_of (update_by q link n)).payload)) one had.full, refl))
            stamps fault
        unappended refusal why fault full = absurd why

      -- ---- the call

      -- it was refused
      pub link-refused : (refusal : Refusal) → RefusesAppended g before pid q link after refusal
          → (let err : Result (Unit {0}) Refusal = Err refusal in IsCaused g before after (g.tells → linked.HadNoRoom g before pid q link) err)
          → page_then.stamp ≡ q.stamp → Acts g old (call.Link t link) (Linked (Err (error_of refusal))) new
      link-refused refusal (inl (went, why)) = λ cause stamp.
          steps-went g old new before after (call.Link t link) (Linked (Err (error_of refusal))) [] (record { config = refl; recovered = refl }) refl refl refl ready went
          (λ held s is clear. unappended stamp held s is clear refusal why cause.fault (λ e. cause.full (ap {B = Result (Unit {0}) Refusal} Err e) is.tells))
      link-refused refusal (inr (write, tells)) = rw write (λ cause stamp.
          let update = update_by q link tells.node in
          steps-went g old new before after (call.Link t link) (Linked (Err (error.Io Write))) (Change pid (message_of update) ∷ []) (record { config = refl; recovered = refl }) refl refl refl ready tells.went
          (λ held s is clear.
          let made = tells.made is.tells in
          let can = way held s is clear tells.node made tells.accepts in
          leads-begun g old new held s is clear (call.Link t link) (Linked (Err (error.Io Write))) refl pid update tells.is can.may can.stays
          (accepted-step held s is clear tells.node made tells.accepts tells.below (Err (error.Io Write)) (outcome (record s { fault = true }) (Change pid update ∷ [])) refl)
          (stamps stamp held s is clear) cause.fault))

      -- it was done
      pub link-taken : TakesLink g before pid q link after page_then → after.fault ≡ false → Acts g old (call.Link t link) (Linked (Ok (Ok (token pid (t.stamp + 1))))) new
      link-taken takes clear_after =
          let tells = takes.tells in
          let answer : Swapped NodeLink = Ok (Ok (token pid (t.stamp + 1))) in
          let update = update_by q link tells.node in
          steps-went g old new before after (call.Link t link) (Linked answer) (Change pid (message_of update) ∷ []) (record { config = refl; recovered = refl }) refl refl refl ready tells.went
          (λ held s is clear.
          let made = tells.made is.tells in
          let can = way held s is clear tells.node made tells.accepts in
          leads-set g old new held s is clear (call.Link t link) (Linked answer) refl pid update tells.is can.may can.stays (t.stamp + 1) (Node (applied link tells.node))
          (accepted-step held s is clear tells.node made tells.accepts tells.below answer (outcome (with_page s pid (page (t.stamp + 1) (Node (applied link tells.node)))) (Change pid update ∷ [])) (refl, (refl, refl)))
          can.makes
          (map-set (λ (p : KeptPage). p.stamp) pages pid page_then ∙ ap (λ (n : ℕ). slice_set (stamps_in pages) pid n) (takes.raised.1 ∙ ap (λ (n : ℕ). n + 1) is_fresh))
          clear_after)
