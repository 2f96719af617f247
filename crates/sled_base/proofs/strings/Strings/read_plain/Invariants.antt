use Rattle.std.proofs.Common.{◌≡◌, ◌≤◌, vec_len}
use Rattle.std.specs.Vec.{vec_capacity}
use Rattle.sled_base.proofs.StringEdits.{AreRead}
use Rattle.sled_base.proofs.strings.Strings.read_plain.Given as goal

-- as many strings were read as there were turns
abbrev pub invariant-loop : goal.invariant-loop
invariant-loop l = record {
  many : vec_len l.ends ≡ l.counter;
  room : l.count ≤ vec_capacity l.ends;
  read : AreRead l.input l.rest l.ends.items;
}
