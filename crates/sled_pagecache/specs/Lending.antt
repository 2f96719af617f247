-- References into a page cache and its table, and what both are when the borrow ends.
use Rattle.std.specs.Prelude.{ℕ, slice_set, ◌≡◌, false, ⊤, Option, Some, None, Result, Ok, Err, IsOk, OnErr, IfOk, IfSome, MatchOption}
use Rattle.std.specs.Borrow.{Lends, MutBor, Fml, RattleType, follows_so}
use Rattle.sled_pagecache.specs.Table.{TableView}
use Rattle.sled_pagecache.specs.declared.pagecache.table.page_entry.Page.{Page}
use Rattle.sled_pagecache.specs.contracts.pagecache.table.page_entry.Page.{the_row as page_row}
use Rattle.sled_pagecache.specs.contracts.pagecache.table.pagetable.PageTable.{the_row as table_row}
use mathlib.Core.Option.{none}
use Rattle.sled_base.specs.Errors.{error_of}
use Rattle.sled_base.specs.declared.types.Error.{Error}
use Rattle.sled_base.specs.declared.types.Refusal.{Refusal}
use Rattle.sled_log.specs.declared.log.Log.{Ghosts}
use Rattle.sled_node.specs.Meta.{Roots}
use Rattle.sled_node.specs.Node.{WholeNode}
use Rattle.sled_pagecache.specs.Answers.{Keeps}
use Rattle.sled_pagecache.specs.Cache.{Cache, IsResident, IsAway}
use Rattle.sled_pagecache.specs.Calls.{Steps, IsBlamed}
use Rattle.sled_pagecache.specs.Damage.{MeetsDamage, ReportsDamage}
use Rattle.sled_pagecache.specs.Memory.{IsBounded, KeepsMemory, AccessesPage, ReadsPage}
use Rattle.sled_pagecache.specs.Step.{is_reserved}
use Rattle.sled_pagecache.specs.State.{Token}
use Rattle.sled_pagecache.specs.declared.pagecache.handles.call.Answer.TheVariants.{Got}
use Rattle.sled_pagecache.specs.declared.pagecache.handles.call.Call.TheVariants.{Get}
use Rattle.sled_pagecache.specs.declared.pagecache.handles.view.MetaView.{MetaView}
use Rattle.sled_pagecache.specs.declared.pagecache.handles.view.NodeView.{NodeView}
use Rattle.sled_pagecache.specs.contracts.pagecache.calls.PageCache.{the_row}

-- the table with another page at the id
abbrev pub with_page : TableView → ℕ → Page → TableView
with_page table pid page = record table { pages = slice_set table.pages pid page }

-- the page at the id is what was left there
abbrev pub LendsPage : MutBor TableView → ℕ → MutBor Page → Fml
LendsPage table pid page = Lends table_row page_row table page (with_page table.now pid)

-- the answer of a call that returns a reference to a node
abbrev pub lent_answer : Result (Option NodeView) Refusal → Result (Option (Token × WholeNode)) Error
lent_answer (Ok None) = Ok None
lent_answer (Ok (Some view)) = Ok (Some (view.token, view.node.now))
lent_answer (Err refusal) = Err (error_of refusal)

-- the same for the map of named roots
abbrev pub lent_meta : Result MetaView Refusal → Result (Token × Roots) Error
lent_meta (Ok view) = Ok (view.token, view.meta.now)
lent_meta (Err refusal) = Err (error_of refusal)

-- The call is one step. If the page isn't in memory, the call reads its messages, and then it is. What a call read before it failed isn't
-- kept.
pub record IsGot {L : Type 0} (g : Ghosts L) (old : Cache L) (pid : ℕ) (result : Result (Option NodeView) Refusal) (new : Cache L) : Type 0 where
  pub step : Steps g old (Get pid) (Got (lent_answer result)) new
  pub blame : IsBlamed g old new (lent_answer result)
  pub keeps : Keeps old new (lent_answer result) (λ _. old.stamps)
  -- the token is that of the page that was asked for
  pub token : IfOk result (λ found. IfSome found (λ view. view.token.pid ≡ pid))
  -- if the messages of the page make no node, that is reported, whatever else the log holds
  pub damaged : MeetsDamage g old pid → ReportsDamage g old pid (lent_answer result) new
  pub reads : ReadsPage g old pid new
  pub once : IfOk result (λ found. IfSome found (λ view. IsResident new pid))
  pub kept_out : OnErr result (IsAway old pid → IsAway new pid)
  pub bounded : IsBounded g new
  -- if the call finds a node, its page is accessed; otherwise nothing changes in memory
  pub accesses : IfOk result (λ found. MatchOption found (KeepsMemory old new) (λ view. AccessesPage old pid new))
  pub same : OnErr result (KeepsMemory old new)
  -- for a page in memory neither memory nor the device is needed
  pub always : old.fault ≡ false → is_reserved pid ≡ false → IsResident old pid → IsOk result

-- This holds of the cache when the borrow ends. (`follows_so` is the toolchain's word for what a loan becomes at its end.)
abbrev pub AfterLoan : (L : RattleType) (g : Ghosts L.Denot) → MutBor (Cache L.Denot) → (Cache L.Denot → Type 0) → Fml
AfterLoan L g cache Is = follows_so (the_row L g) (the_row L g) cache.ghost_name none (λ _ _. ⊤) Is
