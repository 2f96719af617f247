use Rattle.std.proofs.Common.{◌≡◌, ◌+◌, ◌<◌, ◌≤◌, ◌^◌, ◌++◌, length, take, drop, ap, subst, arith}
use Rattle.std.proofs.lemmas.List.{length-append, length-take-le, length-drop}
use Rattle.sled_base.specs.Payloads.ByteStrings.{written_bytes}
use Rattle.sled_base.specs.Strings.{strings_in, Keeps}
use Rattle.sled_base.specs.StringLaws.{strings_count, parts_at}
use Rattle.sled_base.proofs.StringEdits.{inserted, can_insert, on_ok_so, at_end}
use Rattle.sled_base.proofs.strings.edits.insert.Goals as goal

-- behind the last
pub returns-then-place-len-clause-ok : goal.returns-then-place-len-clause-ok
returns-then-place-len-clause-ok c =
    let bytes = c.args.bytes.now.items in
    let ends = c.args.ends.now.items in
    let last : c.args.place ≡ length (strings_in bytes ends) = omega (arith, c.if-place-len.true, c.len.ensures, c.args.ends.now.ok.0, strings_count 0 bytes ends) in
    on_ok_so c.push.result (subst (λ strings. Keeps strings c.push.new.bytes.items c.push.new.ends.items) (at_end c.args.place c.args.string.now (strings_in bytes ends) last)) c.push.ensures.ok

pub overflow_add-start : goal.overflow_add-start
overflow_add-start c =
    let at = parts_at _ c.args.bytes.now.items c.args.ends.now.items c.requires.keeps c.args.place (omega (arith, c.requires.within, strings_count 0 c.args.bytes.now.items c.args.ends.now.items)) in
    let start_is = rw c.deref.ensures.value at c.begin_at-start.ensures in
    omega (arith, start_is, at.begin, at.within, c.written_size-size.ensures.bound, c.args.bytes.now.ok.0, c.args.bytes.now.small)

pub put-requires-clause-within : goal.put-requires-clause-within
put-requires-clause-within c =
    let at = parts_at _ c.args.bytes.now.items c.args.ends.now.items c.requires.keeps c.args.place (omega (arith, c.requires.within, strings_count 0 c.args.bytes.now.items c.args.ends.now.items)) in
    let start_is = rw c.deref.ensures.value at c.begin_at-start.ensures in
    omega (arith, start_is, at.begin, at.within)

pub move_ends-requires-clause-fit : goal.move_ends-requires-clause-fit
move_ends-requires-clause-fit c =
    let bytes = c.args.bytes.now.items in
    let ends = c.args.ends.now.items in
    let string = c.args.string.now in
    let le : c.args.place ≤ length (strings_in bytes ends) = omega (arith, c.requires.within, strings_count 0 bytes ends) in
    let at = parts_at _ bytes ends c.requires.keeps c.args.place le in
    let start = c.begin_at-start.result in
    let start_is = rw c.deref.ensures.value at c.begin_at-start.ensures in
    let new_is = c.in_default.ensures.ok in
    let fits : length bytes + c.written_size-size.result < 2 ^ 64 = omega (arith, c.put.new.bytes.ok.0, c.put.new.bytes.small, ap length new_is, start_is, at.begin, at.within, c.written_size-size.ensures.value, length-append (take start bytes) (written_bytes string ++ drop start bytes), length-append (written_bytes string) (drop start bytes), length-take-le start bytes, length-drop start bytes) in
    can_insert (strings_in bytes ends) bytes ends c.requires.keeps c.args.place le string start c.written_size-size.result start_is c.written_size-size.ensures.value c.insert.new.self.items c.in_ok-insert.ensures.items fits

pub returns-clause-ok : goal.returns-clause-ok
returns-clause-ok c =
    let bytes = c.args.bytes.now.items in
    let ends = c.args.ends.now.items in
    let string = c.args.string.now in
    let le : c.args.place ≤ length (strings_in bytes ends) = omega (arith, c.requires.within, strings_count 0 bytes ends) in
    let start_is = rw c.deref.ensures.value at c.begin_at-start.ensures in
    rw (c.move_ends.ensures, c.in_default.ensures.ok) (inserted (strings_in bytes ends) bytes ends c.requires.keeps c.args.place le string c.begin_at-start.result c.written_size-size.result start_is c.written_size-size.ensures.value c.insert.new.self.items c.in_ok-insert.ensures.items (omega (arith, c.requires.short)))
