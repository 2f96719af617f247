use Rattle.std.proofs.Common.{◌≡◌, ℕ, arith}
use Rattle.std.proofs.lemmas.Grind.{common_steps}
use Rattle.sled_log.specs.declared.log.Log.{Ghosts}
use Rattle.sled_pagecache.specs.Cache.{Cache}
use Rattle.sled_tree.specs.Maps.{Keeps}
use Rattle.sled_tree.specs.Performs.{Performs}
use Rattle.sled_tree.specs.Walks.{IsMet, IsReached}
use Rattle.sled_tree.proofs.Keeping.{keeps-fewer, kept-end}
use Rattle.sled_tree.proofs.Performing.{allocated}
use Rattle.sled_tree.proofs.Reaching.{met-alone}
use Rattle.sled_tree.proofs.Splitting.{allot-failed, allot-left-then, allot-then, hoist-then, parts-kept}
use Rattle.sled_tree.proofs.splits.grow.Goals as goal

-- a search comes to a root by way of the root itself
as-reached : {L : Type 0} (g : Ghosts L) {root : ℕ} {old new : Cache L} → Performs g (Keeps (IsMet root root)) old new → Performs g (Keeps (IsReached root)) old new
as-reached g {root} {old} {new} h = keeps-fewer g (IsMet root root) (IsReached root) old new (λ pages w reached. met-alone root pages w reached) h

pub returns-in_err-second : goal.returns-in_err-second
returns-in_err-second g c =
    let said = c.in_err-second.ensures in
    as-reached g.L.Log (allot-failed g.L.Log (parts-kept g.L.Log c.args.root c.in_ok-token.ensures.parts) (allocated g.L.Log c.in_ok-token.field-0.right said.step said.blame said.keeps))

pub returns-in_err-left : goal.returns-in_err-left
returns-in_err-left g c =
    let said = c.in_ok-second.ensures in
    let right = allot-then g.L.Log (parts-kept g.L.Log c.args.root c.in_ok-token.ensures.parts) (allocated g.L.Log c.in_ok-token.field-0.right said.step said.blame said.keeps) in
    as-reached g.L.Log (kept-end g.L.Log right)

pub returns-in_err-first : goal.returns-in_err-first
returns-in_err-first g c =
    let said = c.in_ok-second.ensures in
    let right = allot-then g.L.Log (parts-kept g.L.Log c.args.root c.in_ok-token.ensures.parts) (allocated g.L.Log c.in_ok-token.field-0.right said.step said.blame said.keeps) in
    let told = c.in_err-first.ensures in
    as-reached g.L.Log (allot-failed g.L.Log right (allocated g.L.Log c.in_ok-left.left told.step told.blame told.keeps))

pub returns-in_err-index : goal.returns-in_err-index
returns-in_err-index g c =
    let said = c.in_ok-second.ensures in
    let right = allot-then g.L.Log (parts-kept g.L.Log c.args.root c.in_ok-token.ensures.parts) (allocated g.L.Log c.in_ok-token.field-0.right said.step said.blame said.keeps) in
    let told = c.in_ok-first.ensures in
    let both = allot-left-then g.L.Log right c.in_ok-left.ensures (allocated g.L.Log c.in_ok-left.left told.step told.blame told.keeps) in
    as-reached g.L.Log (kept-end g.L.Log both)

pub returns : goal.returns
returns g c =
    let said = c.in_ok-second.ensures in
    let right = allot-then g.L.Log (parts-kept g.L.Log c.args.root c.in_ok-token.ensures.parts) (allocated g.L.Log c.in_ok-token.field-0.right said.step said.blame said.keeps) in
    let told = c.in_ok-first.ensures in
    let both = allot-left-then g.L.Log right c.in_ok-left.ensures (allocated g.L.Log c.in_ok-left.left told.step told.blame told.keeps) in
    let at_is : c.in_ok-at.at ≡ c.in_ok-token.field-0.right.lo = grind (arith, common_steps, c.in_ok-at.ensures.cases, c.lo.ensures) in
    as-reached g.L.Log (hoist-then g.L.Log both at_is c.in_ok-index.ensures c.put.ensures)
