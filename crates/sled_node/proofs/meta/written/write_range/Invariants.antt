use Rattle.std.proofs.Common.{◌≡◌, ◌≤◌, ◌++◌, take}
use Rattle.std.specs.Prelude.{vec_len}
use Rattle.sled_node.specs.Meta.{named}
use Rattle.sled_node.specs.Payloads.Roots.{written_roots}
use Rattle.sled_node.proofs.meta.written.write_range.Given as goal

-- the bytes so far, and those of the names that are left
abbrev pub invariant-loop-name : goal.invariant-loop-name
invariant-loop-name l = record {
  written : take l.end l.bytes.items ++ written_roots (named l.name-iterator) ≡ take l.initial.end l.initial.bytes.items ++ written_roots (named l.initial.name-iterator);
  within : l.end ≤ vec_len l.bytes;
}
