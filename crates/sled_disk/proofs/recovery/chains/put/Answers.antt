use Rattle.std.proofs.Common.{arith}
use Rattle.std.proofs.lemmas.Result.{on_ok_weaker, on_err_weaker}
use Rattle.sled_disk.proofs.Chains.ChainHeads.{replaced-is, same-chain}
use Rattle.sled_disk.proofs.recovery.chains.put.Goals as goal

pub returns-clause-made : goal.returns-clause-made
returns-clause-made c =
    on_ok_weaker c.restart.result (λ made. replaced-is c.args.pages.now.items c.args.page c.restart.new.chain c.args.head (let at = c.if-at-len.false in let l = c.len.ensures in let le = c.requires in omega arith) made) c.restart.ensures.made

pub returns-clause-kept : goal.returns-clause-kept
returns-clause-kept c =
    on_err_weaker c.restart.result
    (λ kept. same-chain c.args.pages.now.items c.args.page c.index_mut.result.now c.restart.new.chain (let at = c.if-at-len.false in let l = c.len.ensures in let le = c.requires in omega arith) c.index_mut.ensures.value kept)
    c.restart.ensures.kept
