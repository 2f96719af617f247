use Rattle.std.proofs.Common.{◌+◌, arith}
use Rattle.sled_base.specs.Strings.{strings_in}
use Rattle.sled_base.proofs.StringEdits.{pushed}
use Rattle.sled_base.proofs.strings.edits.push.Goals as goal

pub returns-clause-ok : goal.returns-clause-ok
returns-clause-ok c =
    let bytes = c.args.bytes.now.items in
    let ends = c.args.ends.now.items in
    rw (c.in_default.ensures.ok, c.in_ok-push.ensures.items)
    (pushed (strings_in bytes ends) bytes ends c.requires.keeps c.args.string.now (c.len.result + c.written_size.result) (omega (arith, c.len.ensures, c.written_size.ensures.value, c.args.bytes.now.ok.0)) (omega (arith, c.requires.short)))
