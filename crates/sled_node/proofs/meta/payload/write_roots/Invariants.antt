use Rattle.std.proofs.Common.{◌≡◌, ◌+◌, ◌++◌, length, take, drop}
use Rattle.sled_node.specs.Meta.{named, named_pages}
use Rattle.sled_node.specs.Payloads.Roots.{written_roots}
use Rattle.sled_node.proofs.meta.payload.write_roots.Given as goal

-- the bytes so far, those of what is left, and what stood behind
abbrev pub invariant-loop-name : goal.invariant-loop-name
invariant-loop-name l =
    let left = written_roots (named l.name-iterator) in
    record {
      size : l.end + length left ≡ length (written_roots (named_pages l.roots));
      front : take l.end l.out ++ left ≡ written_roots (named_pages l.roots);
      back : drop l.end l.out ≡ drop l.end l.initial.out;
    }
