use Rattle.std.proofs.Common.{◌≡◌, ◌-◌, length, take, drop, sym, ap, subst, ◌∙◌, arith}
use Rattle.std.proofs.lemmas.List.{take_all, length-drop}
use Rattle.sled_base.specs.Payloads.ByteStrings.{ReadsBytes}
use Rattle.sled_base.proofs.strings.long_string.Goals as goal

-- a string is read there
pub unreachable-requires : goal.unreachable-requires
unreachable-requires c =
    let written = c.as_slice-written.result.now in
    let start = c.args.start in
    let whole : take (length written - start) (drop start written) ≡ drop start c.args.bytes.now.items = take_all (length written - start) (drop start written) (omega (arith, length-drop start written)) ∙ ap (drop start) c.as_slice-written.ensures.value in
    c.in-None.ensures.nothing c.requires.0 c.requires.1 (subst (λ input. ReadsBytes input c.requires.0 c.requires.1) (sym whole) c.requires.2)
