-- The numbers of the page cache.
use Rattle.std.specs.Prelude.{ℕ, ◌-◌, ◌^◌}

-- the page of the named roots, and that of the counter of generated ids
abbrev pub meta_pid : ℕ
meta_pid = 0

abbrev pub counter_pid : ℕ
counter_pid = 1

-- the page id that marks the beginning of a batch in a log
abbrev pub batch_manifest_pid : ℕ
batch_manifest_pid = 2 ^ 64 - 1 - 666

-- the greatest number of messages that make a page
abbrev pub most_messages : ℕ
most_messages = 10

-- the ids of pages are below 2 to this power
abbrev pub pid_bits : ℕ
pid_bits = 37

abbrev pub most_pages : ℕ
most_pages = 2 ^ pid_bits

-- a chunk of the table of pages holds at most 2 to this power pages
abbrev pub chunk_bits : ℕ
chunk_bits = 18

abbrev pub chunk_length : ℕ
chunk_length = 2 ^ chunk_bits
