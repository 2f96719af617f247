-- The page of a state at an id beside the chain that the log has of it.
use Rattle.sled_pagecache.proofs.Names.{arith, ◌≡◌, ◌≤◌, ℕ, zero, suc, true, false, List, [], ◌∷◌, map, Some, Result, Err, slice_get, sym, ◌∙◌, ap, subst, none-some, same_Some, error_of, Write, Error, Refusal, Io, is_empty, Content, Node, Damaged, Chain, messages_of, effect_of_entry, Holds, Hold, Ghosts, WholeNode, Cache, Represents, chain_at, Logged, RefusesPull, IsUsers, page, State, contents_of, page_at, Outcome, outcome, no_change, IsCorruption, IsHindered, map-at, content-own, holds-at, stands-full, holds_now}
use Rattle.sled_log.specs.LogState as log
use Rattle.sled_pagecache.proofs.CacheLog.ToldContents.{proper-now}
use Rattle.sled_pagecache.proofs.Memory.FoundMessages.{wrong-none}
use Rattle.sled_pagecache.proofs.Table.StatePages.{holds-free}
use Rattle.sled_pagecache.proofs.Names.{DiskPtr, IsWrongAt, Makes}
use Rattle.sled_pagecache.specs.Logged.{AreOwn}
use Rattle.sled_pagecache.specs.State.{StampedPage, is_free}

-- the page at an id is at this stamp
pub stamped-at : (pages : List StampedPage) (pid stamp : ℕ) → slice_get (map (λ (p : StampedPage). p.stamp) pages) pid ≡ Some stamp → (content : Content) × (slice_get pages pid ≡ Some (page stamp content))
stamped-at [] pid stamp at = absurd (none-some stamp at)
stamped-at (p ∷ pages) zero stamp at = (p.content, ap (λ n. Some (page n p.content)) (same_Some p.stamp stamp at))
stamped-at (p ∷ pages) (suc pid) stamp at = stamped-at pages pid stamp at

-- A page stands at the id that isn't free. It holds what its chain makes, or is damaged.
pub record FullStands (s : State) (pid : ℕ) (chain : Chain) : Type 0 where
  pub stamp : ℕ
  pub content : Content
  pub there : page_at s pid ≡ Some (page stamp content)
  pub holds : Holds (messages_of chain) content
  pub own : IsUsers content
  pub full : is_free content ≡ false

-- what is left where the page couldn't be read
abbrev pub unread : State → Refusal → Outcome
unread s (Io Write) = outcome (record s { fault = true }) []
unread s refusal = no_change s

module _ (s : State) (pid : ℕ) (chain : Chain) (stands : FullStands s pid chain) (P : Content → Type 0) where
  -- The page couldn't be read: the call is hindered, or the page is damaged.
  pub unread-content : (T : Type 0) (refusal : Refusal) → RefusesPull chain refusal → ((node : WholeNode) → IsHindered s (error_of refusal) (unread s refusal) → P (Node node))
      → ((let answer : Result T Error = Err (error_of refusal) in IsCorruption s answer (unread s refusal)) → P Damaged) → P stands.content
  unread-content T refusal why of_node damaged =
      grind (arith, stands.own, stands.full, stands.holds, λ (pointer : DiskPtr) (wrong : IsWrongAt chain pointer) (node : WholeNode) (made : Makes (messages_of chain) (Node node)). wrong-none _ _ chain pointer wrong (node, made))

module _ {L : Type 0} (g : Ghosts L) (cache : Cache L) (held : Logged) (s : State) (is : Represents g cache held s) (clear : s.fault ≡ false) (pid : ℕ) where
  abbrev chains : List Chain
  chains = log.now effect_of_entry (g.state cache.log)

  pub state-holds : Hold (map messages_of chains) (contents_of s)
  state-holds = subst (λ (l : List Content). Hold (map messages_of chains) l) (sym (is.known clear).contents) (holds_now (g.state cache.log) held (is.known clear).logged)

  pub state-own : 2 ≤ pid → (p : StampedPage) → page_at s pid ≡ Some p → IsUsers p.content
  state-own from p at =
      content-own (contents_of s) pid p.content
      (subst AreOwn (sym (is.known clear).contents) (proper-now (log.unplaced_state (g.state cache.log)) held (is.known clear).logged).own)
      from (map-at (λ (p : StampedPage). p.content) s.pages pid p at)

  -- the page holds what its chain makes, or is damaged
  pub state-page : (p : StampedPage) → page_at s pid ≡ Some p → Holds (messages_of (chain_at (g.state cache.log) pid)) p.content
  state-page p at = holds-at s.pages chains pid p state-holds at

  -- where the chain isn't empty
  pub full-stands : 2 ≤ pid → is_empty effect_of_entry (chain_at (g.state cache.log) pid) ≡ false → FullStands s pid (chain_at (g.state cache.log) pid)
  full-stands from full =
      let found = stands-full s.pages chains pid state-holds full in
      let holds = state-page found.0 found.1 in
      record { stamp = found.0.stamp; content = found.0.content; there = found.1; holds = holds; own = state-own from found.0 found.1; full = sym (holds-free (chain_at (g.state cache.log) pid) found.0.content holds) ∙ full }
