use Rattle.std.proofs.Common.{[], ◌+◌, get_or, drop, sym, subst, arith}
use Rattle.sled_base.specs.Payloads.ByteStrings.{ReadsBytes}
use Rattle.sled_base.specs.Payloads.ByteStringLaws.{Bytes-grammar}
use Rattle.sled_base.specs.Strings.{strings_in}
use Rattle.sled_base.specs.StringLaws.{written, strings_count, reads_at}
use Rattle.sled_base.proofs.strings.string_at.Goals as goal

pub string_from-requires : goal.string_from-requires
string_from-requires c =
    let bytes = c.args.bytes.now.items in
    let strings = strings_in bytes c.args.ends.now in
    let string = get_or strings c.args.place [] in
    let back = written (drop (c.args.place + 1) strings) in
    (string, back, subst (λ start. ReadsBytes (drop start bytes) string back) (sym c.begin_at.ensures) (reads_at strings bytes c.args.ends.now c.requires.keeps c.args.place [] (omega (arith, strings_count 0 bytes c.args.ends.now))))

pub returns : goal.returns
returns c d =
    let bytes = c.args.bytes.now.items in
    let strings = strings_in bytes c.args.ends.now in
    let string = get_or strings c.args.place d in
    let back = written (drop (c.args.place + 1) strings) in
    let read = subst (λ start. ReadsBytes (drop start bytes) string back) (sym c.begin_at.ensures) (reads_at strings bytes c.args.ends.now c.requires.keeps c.args.place d (omega (arith, strings_count 0 bytes c.args.ends.now))) in
    (Bytes-grammar.one_reading (drop c.begin_at.result bytes) string c.string_from.result.now back c.string_from.ensures.0 read c.string_from.ensures.1).0
