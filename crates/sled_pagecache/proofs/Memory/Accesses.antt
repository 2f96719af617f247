-- What a call makes of a cache and of its accesses, before what the list of recent use dropped is paged out.
use Rattle.std.specs.Prelude.{◌≡◌, ◌≢◌, ◌⊎◌, ℕ, true}
use Rattle.sled_base.specs.declared.types.Error.{Error}
use Rattle.sled_pagecache.specs.Inside.PageEntry.{WasAccessed, IsTouched}
use Rattle.sled_pagecache.specs.Cache.{Cache}
use Rattle.sled_pagecache.specs.Memory.{HasNode, HasNoNode, StaysAt, IsHindrance}
use Rattle.sled_pagecache.specs.declared.pagecache.memory.accesses.Accesses.{Accesses}

abbrev pub AllStay : {L : Type 0} → Cache L → Cache L → Type 0
AllStay old new = (pid : ℕ) → StaysAt old new pid

module _ {L : Type 0} (old : Cache L) (accesses : Accesses) (pid : ℕ) (new : Cache L) (then : Accesses) where
  -- The page was accessed. If its node lies in memory, it was with its size.
  pub record TakesPage : Type 0 where
    pub size : ℕ
    pub only : (other : ℕ) → HasNode new pid other → other ≡ size
    pub accessed : WasAccessed accesses pid size then
    pub others : (other : ℕ) → other ≢ pid → StaysAt old new other

  -- The node of the page lies in memory, and the page was accessed with its size.
  pub record TakesNode : Type 0 where
    pub size : ℕ
    pub node : HasNode new pid size
    pub accessed : WasAccessed accesses pid size then
    pub others : (other : ℕ) → other ≢ pid → StaysAt old new other

  -- it does, or there is none and nothing changes
  abbrev pub FindsNode : Type 0
  FindsNode = TakesNode ⊎ (HasNoNode new pid × AllStay old new × (then ≡ accesses))

  -- The call was refused. At most the page of a refused append was accessed, and it or its node is lost.
  pub record LosesAtMost (tells : Type 0) (error : Error) : Type 0 where
    pub stuck : old.fault ≡ true → then ≡ accesses
    pub others : (other : ℕ) → other ≢ pid → StaysAt old new other
    pub lost : StaysAt old new pid ⊎ HasNoNode new pid
    pub touched : IsTouched accesses pid then
    pub unasked : tells → IsHindrance error ⊎ (AllStay old new × (then ≡ accesses))
