-- What an ordered map is, and what a list of pairs has at a key.
use Rattle.std.specs.Prelude.{List, [], ◌∷◌, Option, Some, None, if◌then◌else◌}
use Rattle.std.specs.Str.{bytes_eq}
use Rattle.sled_base.specs.Order.{Bytes, is_below}

-- pairs of keys and values
abbrev pub Map : Type 0
Map = List (Bytes × Bytes)

-- the value of the first pair with this key
abbrev pub at_key : {V : Type 0} → List (Bytes × V) → Bytes → Option V
at_key [] key = None
at_key (pair ∷ pairs) key = if bytes_eq pair.0 key then Some pair.1 else at_key pairs key

-- the first option if it has a value, and otherwise the second
abbrev pub or_else : {V : Type 0} → Option V → Option V → Option V
or_else (Some v) other = Some v
or_else None other = other

-- the value of the last pair whose key is not above this one: this pair leads the key
abbrev pub leading : {V : Type 0} → List (Bytes × V) → Bytes → Option V
leading [] key = None
leading (pair ∷ pairs) key = or_else (leading pairs key) (if is_below key pair.0 then None else Some pair.1)
