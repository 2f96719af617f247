-- What logs leave that meet each clause of a call, but not the law of earlier moments.
use Rattle.std.specs.Prelude.{◌≡◌, ◌≤◌, ◌<◌, ◌+◌, ◌⊎◌, ℕ, List, []}
use Rattle.sled_log.specs.MemLog.State.{clock_of, might_have_left}
use Rattle.sled_log.specs.Messages.{Messages}
use Rattle.sled_log.specs.declared.memory.MemLog.{MemLog}

-- two moments for each of the log in memory, and any pages at the odd ones
abbrev pub left_skipping : MemLog → ℕ → List Messages → Type 0
left_skipping log t pages = (k : ℕ) × (((t ≡ k + k) × might_have_left log k pages) ⊎ (t ≡ k + k + 1))

-- no pages at the moment after the last
abbrev pub left_losing : MemLog → ℕ → List Messages → Type 0
left_losing log t pages = (t ≤ clock_of log → might_have_left log t pages) × (clock_of log < t → pages ≡ [])
