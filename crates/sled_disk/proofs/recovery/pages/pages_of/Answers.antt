use Rattle.std.proofs.Common.{List, Err, sym, ◌∙◌, ap, subst}
use Rattle.std.proofs.lemmas.Result.{err_from_is_err_and}
use Rattle.sled_disk.specs.declared.recovery.head.Head.{Head}
use Rattle.sled_disk.specs.RecoveredHeads.{AreHeads, IsShown}
use Rattle.sled_disk.proofs.Frames.RecordAppend.{same-error}
use Rattle.sled_disk.proofs.Chains.PageStates.{heads-at, shown-more}
use Rattle.sled_disk.proofs.recovery.pages.pages_of.Goals as goal

pub returns-in_err-page-clause-sound : goal.returns-in_err-page-clause-sound
returns-in_err-page-clause-sound c = λ all is.
    let p = err_from_is_err_and c.from_residual-in_err-page.result c.from_residual-in_err-page.ensures.1 in
    let corrupt = sym p.2 ∙ same-error c.from_residual-in_err-page.result p.0 _ p.1 is in
    c.in_err-page.ensures.sound (subst AreHeads (sym c.deref.ensures.value) (heads-at c.args.chains.now c.loop-chain.chain-index c.chain-item.result c.loop-chain-test.true c.chain-item.is all)) (ap (λ e. Err e) corrupt)

pub loop-chain-preserved : goal.loop-chain-preserved
loop-chain-preserved c =
    rw c.in_ok-push.ensures.items
    (shown-more c.args.chains.now c.loop-chain.chain-index c.chain-item.result c.loop-chain.pages.items c.in_ok-page.page c.loop-chain-test.true c.chain-item.is c.loop-chain.invariant
    (subst (λ (l : List Head). IsShown l c.in_ok-page.page) c.deref.ensures.value c.in_ok-page.ensures.shown))
