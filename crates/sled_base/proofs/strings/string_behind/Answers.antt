use Rattle.std.proofs.Common.{[], ◌+◌, get_or, drop, subst, arith}
use Rattle.sled_base.specs.Payloads.ByteStrings.{ReadsBytes}
use Rattle.sled_base.specs.Payloads.ByteStringLaws.{Bytes-grammar}
use Rattle.sled_base.specs.Strings.{strings_in}
use Rattle.sled_base.specs.StringLaws.{written, strings_count, reads_at, next_begin}
use Rattle.sled_base.proofs.strings.string_behind.Goals as goal

pub string_from-requires : goal.string_from-requires
string_from-requires c =
    let bytes = c.args.bytes.now.items in
    let ends = c.args.ends.now in
    let strings = strings_in bytes ends in
    let string = get_or strings (c.args.place + 1) [] in
    let back = written (drop (c.args.place + 1 + 1) strings) in
    (string, back, subst (λ start. ReadsBytes (drop start bytes) string back) (next_begin ends c.args.place) (reads_at strings bytes ends c.requires.keeps (c.args.place + 1) [] (omega (arith, strings_count 0 bytes ends))))

pub returns : goal.returns
returns c d =
    let bytes = c.args.bytes.now.items in
    let ends = c.args.ends.now in
    let strings = strings_in bytes ends in
    let string = get_or strings (c.args.place + 1) d in
    let back = written (drop (c.args.place + 1 + 1) strings) in
    let read = subst (λ start. ReadsBytes (drop start bytes) string back) (next_begin ends c.args.place) (reads_at strings bytes ends c.requires.keeps (c.args.place + 1) d (omega (arith, strings_count 0 bytes ends))) in
    (Bytes-grammar.one_reading (drop (get_or ends c.args.place 0) bytes) string c.string_from.result.now back c.string_from.ensures.0 read c.string_from.ensures.1).0
