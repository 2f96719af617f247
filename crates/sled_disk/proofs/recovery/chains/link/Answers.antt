use Rattle.std.proofs.Common.{ap, sym, ◌∙◌, ◌≡◌, List, false, arith}
use Rattle.sled_log.specs.Chains.{is_empty}
use Rattle.sled_disk.specs.declared.recovery.head.Head.{Head}
use Rattle.sled_disk.specs.Reading.{effect_of_head}
use Rattle.sled_disk.proofs.Chains.ChainHeads.{linked-is, not_empty, same-chain}
use Rattle.sled_disk.proofs.Frames.WrittenFrame.{on_err}
use Rattle.sled_disk.proofs.recovery.chains.link.Goals as goal

pub returns-clause-made : goal.returns-clause-made
returns-clause-made c =
    let some : is_empty effect_of_head c.index_mut-chain.result.now.items ≡ false = ap (λ (l : List Head). is_empty effect_of_head l) (sym c.deref.ensures.value) ∙ not_empty (is_empty effect_of_head c.deref.result.now) c.if-not-has_content.ensures in
    linked-is c.args.pages.now.items c.args.page c.index_mut-chain.result.now c.lengthen.new.chain c.args.head (let at = c.if-at-len.false in let l = c.len.ensures in omega arith) c.index_mut-chain.ensures.value some c.in_ok-lengthen.ensures.longer

pub returns-in_err-lengthen-clause-kept : goal.returns-in_err-lengthen-clause-kept
returns-in_err-lengthen-clause-kept c =
    on_err c.from_residual.result
    (same-chain c.args.pages.now.items c.args.page c.index_mut-chain.result.now c.lengthen.new.chain (let at = c.if-at-len.false in let l = c.len.ensures in omega arith) c.index_mut-chain.ensures.value c.in_err-lengthen.ensures.kept)
