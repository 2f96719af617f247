-- Which errors a call on a map may return.
use Rattle.std.specs.Prelude.{◌<◌, length, ⊤}
use Rattle.sled_base.specs.Order.{Bytes}
use Rattle.sled_node.specs.Limits.{bytes_limit}
use Rattle.sled_tree.specs.declared.error.TreeError.{TreeError}
use Rattle.sled_tree.specs.declared.error.TreeError.TheVariants.{Cache, KeyTooLong, ValueTooLong}

abbrev pub IsTooLong : Bytes → Type 0
IsTooLong bytes = bytes_limit < length bytes

-- an error of the cache, and no other
abbrev pub IsOfCache : TreeError → Type 0
IsOfCache (Cache error) = ⊤
IsOfCache other = ⊥

-- an error of the cache, or `KeyTooLong` if the key is too long
abbrev pub IsOfKey : Bytes → TreeError → Type 0
IsOfKey key KeyTooLong = IsTooLong key
IsOfKey key other = IsOfCache other

-- one of these, or `ValueTooLong` if the value is too long
abbrev pub IsOfPair : Bytes → Bytes → TreeError → Type 0
IsOfPair key value ValueTooLong = IsTooLong value
IsOfPair key value other = IsOfKey key other
