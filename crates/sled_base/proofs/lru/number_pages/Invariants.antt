use Rattle.std.proofs.Common.{◌≡◌, ◌+◌, ◌*◌, ◌++◌, map, take, drop}
use Rattle.sled_base.proofs.lru.number_pages.Given as goal

-- the numbers so far are those of pages, and the others are places still
abbrev pub invariant-loop-place : goal.invariant-loop-place
invariant-loop-place l = l.places ≡ map (λ place. place * 256 + l.fn.shard) (take l.place-index l.fn.places) ++ drop l.place-index l.fn.places
