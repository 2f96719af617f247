use Rattle.std.proofs.Common.{◌≡◌, ◌≢◌, List, [], slice_index_or, sym, ◌∙◌, subst, arith}
use Rattle.std.specs.Prelude.{IfSome, IfNone}
use Rattle.std.specs.List.{AllByRecursion}
use Rattle.sled_disk.specs.declared.recovery.head.Head.{Head}
use Rattle.sled_disk.specs.HeadLookup.{IsHeadOf}
use Rattle.sled_disk.specs.Reading.{chains_of}
use Rattle.sled_disk.proofs.Chains.ChainHeads.{chain_at}
use Rattle.sled_disk.proofs.log.finding.find.Goals as goal

pub returns-clause-some : goal.returns-clause-some
returns-clause-some c =
    let same : c.deref.result.now ≡ slice_index_or (chains_of c.args.pages.now) c.args.pid [] = c.deref.ensures.value ∙ sym (chain_at c.args.pages.now c.args.pid c.index-pages-pid.result (let f = c.if-pid-pages.false in omega (arith, f)) c.index-pages-pid.is) in
    subst (λ (l : List Head). IfSome c.head_at.result (λ head. IsHeadOf c.args.at head l)) same c.head_at.ensures.some

pub returns-clause-none : goal.returns-clause-none
returns-clause-none c =
    let same : c.deref.result.now ≡ slice_index_or (chains_of c.args.pages.now) c.args.pid [] = c.deref.ensures.value ∙ sym (chain_at c.args.pages.now c.args.pid c.index-pages-pid.result (let f = c.if-pid-pages.false in omega (arith, f)) c.index-pages-pid.is) in
    subst (λ (l : List Head). IfNone c.head_at.result (AllByRecursion (λ head. head.place ≢ c.args.at) l)) same c.head_at.ensures.none
