use Rattle.sled_tree.specs.Walks.{IsMet, IsReached}
use Rattle.sled_tree.proofs.Keeping.{keeps-fewer}
use Rattle.sled_tree.proofs.Reaching.{met-reached}
use Rattle.sled_tree.proofs.room.make_room.Goals as goal

pub returns-then-above-page : goal.returns-then-above-page
returns-then-above-page g c = keeps-fewer g.L.Log (IsReached c.args.page) (IsMet c.args.above c.args.page) c.args.cache.now c.grow.new.cache (λ pages w met. met-reached c.args.above c.args.page pages w met) c.grow.ensures
