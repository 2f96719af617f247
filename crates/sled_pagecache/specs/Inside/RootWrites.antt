-- What a swap of a named root finds, and what it writes.
use Rattle.std.specs.Prelude.{◌≡◌, ◌≢◌, ◌⊎◌, ◌+◌, ℕ, Bool, true, false, List, length, Option, Some, Result, Ok, Err, slice_get, OnOk, OnErr}
use Rattle.sled_base.specs.declared.kinds.MessageKind.TheVariants.{InlineMeta}
use Rattle.sled_base.specs.Order.{Bytes}
use Rattle.sled_base.specs.declared.types.Device.TheVariants.{Write}
use Rattle.sled_base.specs.declared.types.Refusal.{Refusal}
use Rattle.sled_base.specs.declared.types.Refusal.TheVariants.{Unsupported, Io}
use Rattle.sled_base.specs.declared.types.Why.TheVariants.{TooManyNames, NameTooLong}
use Rattle.sled_log.specs.Limits.{head_size}
use Rattle.sled_log.specs.Messages.{message}
use Rattle.sled_log.specs.declared.log.Log.{Ghosts}
use Rattle.sled_node.specs.Meta as meta
use Rattle.sled_node.specs.Meta.{IsTooLong, LacksRoom, CanChange, root_of}
use Rattle.sled_pagecache.specs.Inside.PageEntry.{WasAccessed, IsTouched, capped_size}
use Rattle.sled_pagecache.specs.Limits.{meta_pid}
use Rattle.sled_pagecache.specs.Inside.PageWrites.{WritesMessage}
use Rattle.sled_pagecache.specs.declared.pagecache.table.page_entry.CacheInfo.{CacheInfo}
use Rattle.sled_pagecache.specs.declared.pagecache.table.page_entry.PageContent.TheVariants.{Roots}
use Rattle.sled_pagecache.specs.declared.pagecache.table.page_entry.Page.{Page}
use Rattle.sled_pagecache.specs.declared.pagecache.handles.view.MetaView.{MetaView}
use Rattle.sled_pagecache.specs.declared.pagecache.write.writer.Writer.{Writer}

-- the page at id 0 holds named roots
pub record KeepsRoots (pages : List Page) : Type 0 where
  pub page : Page
  pub roots : meta.Roots
  pub at : slice_get pages meta_pid ≡ Some page
  pub kept : page.kept ≡ Roots roots

-- these are the named roots of page 0, which has this stamp
pub record AreKeptRoots (pages : List Page) (roots : meta.Roots) (at_stamp : ℕ) : Type 0 where
  pub page : Page
  pub at : slice_get pages meta_pid ≡ Some page
  pub kept : page.kept ≡ Roots roots
  pub stamp : page.stamp ≡ at_stamp

-- there was a write error, or these are the named roots, with the token of their page
abbrev pub FindsRoots : Bool → List Page → Result MetaView Refusal → Type 0
FindsRoots fault pages (Ok view) = (fault ≡ false) × (view.token.pid ≡ meta_pid) × AreKeptRoots pages view.meta.now view.token.stamp
FindsRoots fault pages (Err refusal) = (fault ≡ true) × (refusal ≡ Io Write)

-- what a swap of a root finds in the map
abbrev pub JudgesRoot : meta.Roots → Bytes → Option ℕ → Option ℕ → Result (Result (Unit {0}) (Option ℕ)) Refusal → Type 0
JudgesRoot roots name old new (Ok (Err root)) = (root_of name roots ≢ old) × (root ≡ root_of name roots)
JudgesRoot roots name old new (Ok (Ok done)) = (root_of name roots ≡ old) × CanChange name new roots
JudgesRoot roots name old new (Err refusal) =
    (root_of name roots ≡ old)
    × ((IsTooLong name new × (refusal ≡ Unsupported NameTooLong)) ⊎ (LacksRoom name new roots × (refusal ≡ Unsupported TooManyNames)))

-- The page of the named roots was accessed, and a message with this payload was written.
pub record WritesMap {L : Type 0} (g : Ghosts L) (old new : Writer L) (payload : List ℕ) (stamp : ℕ) (result : Result CacheInfo Refusal) : Type 0 where
  pub writes : WritesMessage g old.sticky_log new.sticky_log meta_pid (message InlineMeta payload) stamp result
  pub accessed : OnOk result (WasAccessed old.accesses meta_pid (capped_size (head_size + length payload)) new.accesses)
  pub touched : OnErr result (IsTouched old.accesses meta_pid new.accesses)
