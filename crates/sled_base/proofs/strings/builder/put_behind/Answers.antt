use Rattle.std.proofs.Common.{◌≡◌, ◌+◌, ◌++◌, length, take, drop, sym, ap, ◌∙◌, append_assoc, arith}
use Rattle.std.proofs.lemmas.List.{take_at, length-append, length-take-le}
use Rattle.sled_base.specs.Payloads.ByteStrings.{written_bytes}
use Rattle.sled_base.specs.Strings.{strings_in}
use Rattle.sled_base.proofs.StringEdits.{pushed}
use Rattle.sled_base.proofs.strings.builder.put_behind.Goals as goal

pub returns-clause-ok : goal.returns-clause-ok
returns-clause-ok c =
    let bytes = c.args.bytes.now.items in
    let ends = c.args.ends.now.items in
    let len = c.args.len in
    let end = len + c.written_size-size.result in
    let room = c.make_room.new.bytes.items in
    let written = written_bytes c.args.string.now in
    let rest = drop (len + length written) room in
    let many : length (take len room) ≡ len = length-take-le len room c.in_ok-make_room.ensures.within in
    let taken : take end c.write_at.new.bytes.items ≡ take len bytes ++ written =
    ap (take end) (c.write_at.ensures ∙ sym (append_assoc (take len room) written rest)) ∙ take_at (take len room ++ written) rest end (omega (arith, many, length-append (take len room) written, c.written_size-size.ensures.value)) ∙ ap (λ front. front ++ written) c.in_ok-make_room.ensures.front in
    rw (taken, c.in_ok-push.ensures.items) (pushed (strings_in (take len bytes) ends) (take len bytes) ends c.requires.keeps.keeps c.args.string.now end (omega (arith, length-take-le len bytes, c.requires.keeps.within, c.written_size-size.ensures.value)) (omega (arith, c.requires.short)))
