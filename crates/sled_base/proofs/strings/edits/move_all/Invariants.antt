use Rattle.std.proofs.Common.{◌≡◌, ◌+◌, ◌-◌, ◌++◌, map, take, drop}
use Rattle.sled_base.proofs.strings.edits.move_all.Given as goal

-- the ends before the place have moved
abbrev pub invariant-loop-end : goal.invariant-loop-end
invariant-loop-end l = l.ends ≡ map (λ end. end - l.taken + l.added) (take l.end-index l.initial.ends) ++ drop l.end-index l.initial.ends
