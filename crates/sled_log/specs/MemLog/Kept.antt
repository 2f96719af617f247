-- What the log in memory was given and keeps: messages of pages, and the marks of batches.
use Rattle.std.specs.Prelude.{ℕ, ℤ, Option, List}
use Rattle.sled_base.specs.declared.kinds.MessageKind.{MessageKind}
use Rattle.sled_base.specs.declared.types.DiskPtr.{DiskPtr}

-- a message of a page, and where it is stored
pub record KeptChange : Type 0 where
  pub kind : MessageKind
  pub pid : ℕ
  pub payload : List ℕ
  pub lsn : ℤ
  pub pointer : DiskPtr

pub data Mark : Type 0 where
  Change : (change : KeptChange) → Mark
  Pin : Mark
  Seal : Mark
  Cancel : Mark

-- a mark or a message, with the log sizes of all up to it added up, the moment at which it was added, and the moment at which it
-- became stable, if it did
pub record LogItem : Type 0 where
  pub mark : Mark
  pub end : ℕ
  pub came : ℕ
  pub settled : Option ℕ
