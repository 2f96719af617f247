-- Where a payload is that was read with a space for it.
use Rattle.std.specs.Prelude.{ℕ, List, take}
use Rattle.sled_log.specs.declared.payload.Payload.{Payload}
use Rattle.sled_log.specs.declared.payload.Payload.TheVariants.{Short, Long}

-- the payload, where the space holds these bytes
abbrev pub payload_in : List ℕ → Payload → List ℕ
payload_in space (Short len) = take len space
payload_in space (Long bytes) = bytes.items
