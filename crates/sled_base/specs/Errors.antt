-- The numbers of the refusals, and the error that each refusal is.
use Rattle.std.specs.Prelude.{ℕ}
use Rattle.sled_base.specs.declared.types.Error.{Error}
use Rattle.sled_base.specs.declared.types.Error.TheVariants as errors
use Rattle.sled_base.specs.declared.types.Refusal.{Refusal}
use Rattle.sled_base.specs.declared.types.Refusal.TheVariants as refusals
use Rattle.sled_base.specs.declared.types.Why.{Why}
use Rattle.sled_base.specs.declared.types.Why.TheVariants.{ReservedId, CapacityTooSmall, IntervalZero, SegmentZero, PagesUsedUp, IdsUsedUp, StampUsedUp, BatchOpen, TooManyNames, NameTooLong, LogFull, BookFull}
use Rattle.sled_base.specs.declared.types.Bug.{Bug}
use Rattle.sled_base.specs.declared.types.Bug.TheVariants.{MissingMeta, MissingCounter, LinkRefused, FreeInPull}

abbrev pub number_of_why : Why → ℕ
number_of_why ReservedId = 1
number_of_why CapacityTooSmall = 2
number_of_why IntervalZero = 3
number_of_why SegmentZero = 4
number_of_why PagesUsedUp = 5
number_of_why IdsUsedUp = 6
number_of_why StampUsedUp = 7
number_of_why BatchOpen = 8
number_of_why TooManyNames = 9
number_of_why NameTooLong = 10
number_of_why LogFull = 11
number_of_why BookFull = 12

abbrev pub number_of_bug : Bug → ℕ
number_of_bug MissingMeta = 1
number_of_bug MissingCounter = 2
number_of_bug LinkRefused = 3
number_of_bug FreeInPull = 4

abbrev pub error_of : Refusal → Error
error_of (refusals.Unsupported why) = errors.Unsupported why
error_of (refusals.ReportableBug bug) = errors.ReportableBug bug
error_of (refusals.Io device) = errors.Io device
error_of (refusals.Corruption pointer) = errors.Corruption pointer
error_of refusals.OutOfMemory = errors.OutOfMemory
