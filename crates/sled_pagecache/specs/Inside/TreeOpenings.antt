-- Opening a tree, in two parts: looking up the named roots, and the calls after that.
use Rattle.std.specs.Prelude.{◌≡◌, ℕ, false, Option, Result, IsOk}
use Rattle.sled_base.specs.Order.{Bytes}
use Rattle.sled_base.specs.declared.types.Error.{Error}
use Rattle.sled_log.specs.declared.log.Log.{Ghosts}
use Rattle.sled_node.specs.Meta.{Roots}
use Rattle.sled_pagecache.specs.Answers.{Keeps, is_write_fault}
use Rattle.sled_pagecache.specs.Cache.{Cache}
use Rattle.sled_pagecache.specs.Memory.{IsBounded, ReadsNothing}
use Rattle.sled_pagecache.specs.Rows.{IsMade, AreMade}
use Rattle.sled_pagecache.specs.State.{Token}
use Rattle.sled_pagecache.specs.declared.pagecache.handles.call.Answer.TheVariants.{GotMeta}
use Rattle.sled_pagecache.specs.declared.pagecache.handles.call.Call.TheVariants.{GetMeta}
use Rattle.sled_pagecache.specs.Trees.{AreTouched, FindsTree, MadeCalls, stamps_then}

module _ {L : Type 0} (g : Ghosts L) where
  -- the lookup was made, without memory and without the log
  pub record Looks (cache : Cache L) (name : Bytes) (found : Result (Option ℕ) Error) : Type 0 where
    pub look : Result (Token × Roots) Error
    pub made : IsMade g cache GetMeta (GotMeta look) cache
    pub always : cache.fault ≡ false → IsOk look
    pub keeps : Keeps cache cache look (λ _. cache.stamps)
    pub finds : FindsTree name look found

module _ {L : Type 0} (g : Ghosts L) where
  -- These calls were made of a cache without a write error, and opening a tree with them returns this result.
  pub record GoesOn (old : Cache L) (Are : MadeCalls → Type 0) (result : Result ℕ Error) (new : Cache L) : Type 0 where
    pub calls : MadeCalls
    pub are : Are calls
    pub made : AreMade g old calls new
    pub batch : new.batch ≡ old.batch
    pub fault : new.fault ≡ is_write_fault result
    pub stamps : new.stamps ≡ stamps_then old.stamps calls
    pub touched : AreTouched g old calls new
    pub unread : ReadsNothing g old new
    pub bounded : IsBounded g new
