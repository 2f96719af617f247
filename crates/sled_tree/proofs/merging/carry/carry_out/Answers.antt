use Rattle.std.proofs.Common.{Ok, [], ◌∷◌}
use Rattle.sled_base.specs.declared.types.Error.{Error}
use Rattle.sled_tree.specs.Dropping.{AreLoose}
use Rattle.sled_tree.specs.Maps.{Keeps}
use Rattle.sled_tree.specs.Merging.{HasPlan}
use Rattle.sled_tree.specs.Splits.{Puts}
use Rattle.sled_tree.proofs.Keeping.{Kept, kept-last, kept-then}
use Rattle.sled_tree.proofs.MergingPages.{HasBeside, index-keeps, index-made, joined-keeps, joined-made}
use Rattle.sled_tree.proofs.Performing.{weaker}
use Rattle.sled_tree.proofs.merging.carry.carry_out.Goals as goal

pub returns-in_err-put : goal.returns-in_err-put
returns-in_err-put g c =
    let root = c.args.root in
    let above = c.args.above in
    let neighbours = c.args.neighbours in
    let plan = c.args.plan in
    weaker g.L.Log (Puts above plan.above.node c.put.result) (Keeps (HasPlan root above neighbours plan)) c.args.cache.now c.put.new.cache
    (λ s t events puts. index-keeps root above neighbours plan c.put.result s t events puts) c.put.ensures

pub returns-in_err-put-2 : goal.returns-in_err-put-2
returns-in_err-put-2 g c =
    let root = c.args.root in
    let above = c.args.above in
    let neighbours = c.args.neighbours in
    let plan = c.args.plan in
    let first = c.put.new.cache in
    kept-last g.L.Log (HasPlan root above neighbours plan) (HasBeside root above neighbours plan) (Puts neighbours.left plan.left.node c.put-2.result) c.args.cache.now first c.put-2.new.cache
    (λ s t events puts. joined-keeps root above neighbours plan c.requires.right c.put-2.result s t events puts)
    (weaker g.L.Log (Puts {E = Error} above plan.above.node (Ok c.in_ok-put.field-0)) (Kept (HasPlan root above neighbours plan) (HasBeside root above neighbours plan)) c.args.cache.now first
    (λ s t events puts. index-made root above neighbours plan c.in_ok-put.field-0 s t events puts) c.in_ok-put.ensures)
    c.put-2.ensures

pub returns : goal.returns
returns g c =
    let root = c.args.root in
    let above = c.args.above in
    let neighbours = c.args.neighbours in
    let plan = c.args.plan in
    let old = c.args.cache.now in
    let first = c.put.new.cache in
    let second = c.put-2.new.cache in
    let new = c.free_all.new.cache in
    kept-last g.L.Log (HasPlan root above neighbours plan) (AreLoose (plan.right ∷ [])) (Keeps (AreLoose (plan.right ∷ []))) old second new (λ s t events keeps. keeps)
    (kept-then g.L.Log (HasPlan root above neighbours plan) (HasBeside root above neighbours plan) (AreLoose (plan.right ∷ [])) (Puts {E = Error} neighbours.left plan.left.node (Ok c.in_ok-put-2.field-0)) old first second
    (λ s t events puts. joined-made root above neighbours plan c.requires.right c.in_ok-put-2.field-0 s t events puts)
    (weaker g.L.Log (Puts {E = Error} above plan.above.node (Ok c.in_ok-put.field-0)) (Kept (HasPlan root above neighbours plan) (HasBeside root above neighbours plan)) old first
    (λ s t events puts. index-made root above neighbours plan c.in_ok-put.field-0 s t events puts) c.in_ok-put.ensures)
    c.in_ok-put-2.ensures)
    c.free_all.ensures
