use Rattle.std.proofs.Common.{drop, sym, subst, arith}
use Rattle.sled_base.specs.Payloads.ByteStrings.{ReadsBytes}
use Rattle.sled_base.specs.StringLaws.{lies_short}
use Rattle.sled_base.proofs.strings.string_from.Goals as goal

pub slice_bounds-result-end : goal.slice_bounds-result-end
slice_bounds-result-end c =
    let read = subst (λ bytes. ReadsBytes (drop c.args.start bytes) c.requires.0 c.requires.1) (sym c.as_slice-written.ensures.value) c.requires.2 in
    let lies = lies_short c.as_slice-written.result.now c.args.start c.requires.0 c.requires.1 read (omega arith) in
    omega (arith, lies.within)

pub returns : goal.returns
returns c =
    let read = subst (λ bytes. ReadsBytes (drop c.args.start bytes) c.requires.0 c.requires.1) (sym c.as_slice-written.ensures.value) c.requires.2 in
    let lies = lies_short c.as_slice-written.result.now c.args.start c.requires.0 c.requires.1 read (omega arith) in
    (c.requires.1, subst (λ string. ReadsBytes (drop c.args.start c.args.bytes.now.items) string c.requires.1) (sym lies.here) c.requires.2)
