-- The numbers of the statuses, which are the constants of `status`.
use Rattle.std.specs.Prelude.{ℕ, ◌+◌}
use Rattle.sled_base.specs.Errors.{number_of_why, number_of_bug}
use Rattle.sled_base.specs.declared.types.Device.TheVariants.{Read, Write}
use Rattle.sled_base.specs.declared.types.Error.{Error}
use Rattle.sled_base.specs.declared.types.Error.TheVariants.{CollectionNotFound, Unsupported, ReportableBug, Io, Corruption, OutOfMemory}
use Rattle.sled_tree.specs.declared.error.TreeError.{TreeError}
use Rattle.sled_tree.specs.declared.error.TreeError.TheVariants.{KeyTooLong, ValueTooLong, NoBatch, Cache}

abbrev pub ok : ℕ
ok = 0

abbrev pub stale : ℕ
stale = 1

abbrev pub gone : ℕ
gone = 2

abbrev pub none : ℕ
none = 3

abbrev pub short : ℕ
short = 4

abbrev pub closed : ℕ
closed = 5

abbrev pub already_open : ℕ
already_open = 6

abbrev pub arguments : ℕ
arguments = 7

abbrev pub no_batch : ℕ
no_batch = 8

abbrev pub index : ℕ
index = 9

abbrev pub not_over_file : ℕ
not_over_file = 10

abbrev pub key_too_long : ℕ
key_too_long = 11

abbrev pub value_too_long : ℕ
value_too_long = 12

abbrev pub memory : ℕ
memory = 16

abbrev pub read : ℕ
read = 17

abbrev pub write : ℕ
write = 18

abbrev pub corruption : ℕ
corruption = 19

abbrev pub needs : ℕ
needs = 20

-- the number of a reason is added to the first, and that of a bug to the second
abbrev pub unsupported : ℕ
unsupported = 100

abbrev pub bug : ℕ
bug = 200

abbrev pub number_of_error : Error → ℕ
number_of_error (CollectionNotFound name) = none
number_of_error (Unsupported why) = unsupported + number_of_why why
number_of_error (ReportableBug which) = bug + number_of_bug which
number_of_error (Io Read) = read
number_of_error (Io Write) = write
number_of_error (Corruption pointer) = corruption
number_of_error OutOfMemory = memory

abbrev pub number_of_tree_error : TreeError → ℕ
number_of_tree_error KeyTooLong = key_too_long
number_of_tree_error ValueTooLong = value_too_long
number_of_tree_error NoBatch = no_batch
number_of_tree_error (Cache error) = number_of_error error
