-- A swap of a page's node: what it does by itself, and the move that is added to it. After a swap that wrote a whole node, the page that is
-- then due is moved.
use Rattle.std.specs.Prelude.{◌≡◌, ℕ, Bool, Result, Ok, IfOk, IfErr, OnOk, OnErr, MatchBool, Some, nat_lt, slice_get}
use Rattle.sled_base.specs.declared.types.Error.{Error}
use Rattle.sled_log.specs.declared.log.Log.{Ghosts}
use Rattle.sled_pagecache.specs.Answers.{HasNoName, Keeps, TestsFirst, linked_length, stamps_after_swap}
use Rattle.sled_pagecache.specs.Cache.{Cache, IsAway, IsResident, chain_length}
use Rattle.sled_node.specs.Node.{WholeNode}
use Rattle.sled_node.specs.declared.node.link.Link.{Link as NodeLink}
use Rattle.sled_pagecache.specs.Calls.{Acts, IsBlamed}
use Rattle.sled_pagecache.specs.Damage.{MeetsDamage, ReportsDamage}
use Rattle.sled_pagecache.specs.Limits.{most_messages}
use Rattle.sled_pagecache.specs.Memory.{AccessesPage, EvictsAtMost, IsBounded, KeepsMemory, ReadsNothing, ReadsPage}
use Rattle.sled_pagecache.specs.Moves.{AttemptsMove}
use Rattle.sled_pagecache.specs.State.{IsAnswered, Token}
use Rattle.sled_pagecache.specs.Step.{Swapped}
use Rattle.sled_pagecache.specs.declared.pagecache.handles.call.Answer.TheVariants.{Linked, Replaced}
use Rattle.sled_pagecache.specs.declared.pagecache.handles.call.Call.TheVariants.{Link, Replace}

module _ {L : Type 0} (g : Ghosts L) (old : Cache L) (pid : ℕ) (version : Token) where
  -- What a swap leaves: a fault is reported only if there was one, and the stamps rise by one where it was made. The page was accessed and is
  -- there, or nothing changes, or the page may have left memory.
  pub record SwapLeaves {R : Type 0} (given : R) (answer : Swapped R) (new : Cache L) : Type 0 where
    pub blame : IsBlamed g old new answer
    pub keeps : Keeps old new answer (stamps_after_swap old.stamps)
    pub token : IfOk answer (IsAnswered old.stamps version given)
    pub resident : IfOk answer (λ swapped. OnOk swapped (IsResident new pid))
    pub accesses : IfOk answer (λ swapped. OnOk swapped (AccessesPage old pid new))
    pub same : IfOk answer (λ swapped. OnErr swapped (KeepsMemory old new))
    pub leaves : IfErr answer (EvictsAtMost old pid new g.tells)
    pub bounded : IsBounded g new
    pub unnamed : IfErr answer HasNoName

  -- A node is put on the page, which one message then makes, or that is refused. Nothing is read.
  pub record PutsAlone (node : WholeNode) (answer : Swapped WholeNode) (new : Cache L) : Type 0 where
    pub step : Acts g old (Replace version node) (Replaced answer) new
    pub left : SwapLeaves node answer new
    pub length : g.tells → IfOk answer (λ swapped. OnOk swapped (chain_length g.state new pid ≡ 1))
    pub unread : ReadsNothing g old new

  -- A link joins the messages of its page, or makes a node that is written whole, or is refused.
  pub record LinksAlone (link : NodeLink) (answer : Swapped NodeLink) (new : Cache L) : Type 0 where
    pub step : Acts g old (Link version link) (Linked answer) new
    pub left : SwapLeaves link answer new
    pub tested : TestsFirst g old version link answer
    pub length : g.tells → IfOk answer (λ swapped. OnOk swapped (chain_length g.state new pid ≡ linked_length (chain_length g.state old pid)))
    pub reads : ReadsPage g old pid new
    pub unread : IfOk answer (λ swapped. OnErr swapped (ReadsNothing g old new))
    pub kept_out : OnErr answer (IsAway old pid → IsAway new pid)
    pub damaged : MeetsDamage g old pid → slice_get old.stamps pid ≡ Some version.stamp → ReportsDamage g old pid answer new

module _ {L : Type 0} (g : Ghosts L) where
  -- The swap succeeded, and then a move was attempted, whose result is dropped. After any other answer nothing more is done.
  abbrev pub MovesBehind : {R : Type 0} → Cache L → Swapped R → Cache L → Type 0
  MovesBehind swap (Ok (Ok made)) new = (moved : Result Bool Error) × AttemptsMove g swap moved new
  MovesBehind swap answer new = new ≡ swap

  -- A node is put on the page, and then a move is attempted.
  pub record PutsAndMoves (old : Cache L) (pid : ℕ) (token : Token) (node : WholeNode) (answer : Swapped WholeNode) (new : Cache L) : Type 0 where
    pub swap : Cache L
    pub puts : PutsAlone g old pid token node answer swap
    pub moves : MovesBehind swap answer new

  -- A link joins the messages of its page; or it makes a node that is written whole, and then a move is attempted.
  pub record JoinsOrMoves (old : Cache L) (pid : ℕ) (token : Token) (link : NodeLink) (answer : Swapped NodeLink) (new : Cache L) : Type 0 where
    pub swap : Cache L
    pub links : LinksAlone g old pid token link answer swap
    pub joins : Bool
    pub joined : g.tells → IfOk answer (λ swapped. OnOk swapped (joins ≡ nat_lt (chain_length g.state old pid) most_messages))
    pub moves : MatchBool joins (new ≡ swap) (MovesBehind swap answer new)
