-- The constants of the program.
use Rattle.std.specs.Prelude.{ℕ, Result, Ok, Err}
use Rattle.sled_pagecache.specs.declared.pagecache.handles.config.Config.{Config}

-- the settings of every cache that the program opens
abbrev pub settings : Config
settings = record { cache_capacity = 1048576; idgen_persist_interval = 10; segment_size = 4096 }

-- those of its log in memory: larger payloads are blobs, and one page is due to be moved for each of this many messages
abbrev pub log_settings : ℕ × ℕ
log_settings = (512, 16)

-- the greatest length of the text of a short entry
abbrev pub entry_room : ℕ
entry_room = 160

-- The statuses: what the arguments ask for was done; it failed, or reading the arguments failed; the arguments are wrong. If they are right, the
-- status is that of what they ask for.
abbrev pub ended : ℕ
ended = 0

abbrev pub failed : ℕ
failed = 1

abbrev pub wrong_words : ℕ
wrong_words = 2

abbrev pub status_of : {E : Type 0} → Result Unit E → ℕ
status_of (Ok done) = ended
status_of (Err fault) = failed
