-- The numbers of the byte strings and of the lists of recent use.
use Rattle.std.specs.Prelude.{ℕ}

-- up to this many bytes are stored inline, without an allocation
abbrev pub inline_limit : ℕ
inline_limit = 22

-- the number of shards in which pages are listed by their recent use
abbrev pub shard_count : ℕ
shard_count = 256

-- a page is listed with a power of two as its size; the exponent is below this number
abbrev pub exponent_count : ℕ
exponent_count = 64
