-- The reply to a call that fails.
use Rattle.std.specs.Prelude.{◌++◌, codes}
use Rattle.std.specs.Fmt.{decimal}
use Rattle.sled_base.specs.Errors.{number_of_why, number_of_bug}
use Rattle.sled_base.specs.Order.{Bytes}
use Rattle.sled_base.specs.declared.types.Device.TheVariants.{Read, Write}
use Rattle.sled_base.specs.declared.types.Error.{Error}
use Rattle.sled_base.specs.declared.types.Error.TheVariants.{CollectionNotFound, Unsupported, ReportableBug, Io, Corruption, OutOfMemory}

abbrev pub error_text : Error → Bytes
error_text (CollectionNotFound name) = codes "error collection"
error_text (Unsupported why) = codes "error unsupported " ++ decimal (number_of_why why)
error_text (ReportableBug bug) = codes "error bug " ++ decimal (number_of_bug bug)
error_text (Io Read) = codes "error read"
error_text (Io Write) = codes "error write"
error_text (Corruption pointer) = codes "error corruption"
error_text OutOfMemory = codes "error memory"
