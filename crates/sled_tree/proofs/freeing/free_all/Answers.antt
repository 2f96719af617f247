use Rattle.std.specs.Prelude.{⊤}
use Rattle.sled_tree.specs.Dropping.{AreLoose}
use Rattle.sled_tree.proofs.FreeingPages.{frees-on}
use Rattle.sled_tree.proofs.Keeping.{kept-on}
use Rattle.sled_tree.proofs.Performing.{nothing}
use Rattle.sled_tree.proofs.freeing.free_all.Goals as goal

pub loop-page-init : goal.loop-page-init
loop-page-init g c =
    let all = c.args.pages.now in
    let here = c.args.cache.now in
    kept-on g.L.Log (AreLoose all) (AreLoose all) (λ _. ⊤) here here (λ pages w _ so. so) (nothing g.L.Log here)

pub loop-page-preserved : goal.loop-page-preserved
loop-page-preserved g c =
    frees-on c.args.pages.now _ (λ pages w so. so c.loop-page.page-index _ c.loop-page-test.true) g.L.Log c.args.cache.now c.loop-page.cache c.free.new.cache c.loop-page.invariant c.free.ensures
