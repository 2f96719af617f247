-- A pair that is too long is refused before anything is allocated, as the call on the map would refuse it.
use Rattle.sled_handle.proofs.MapAnswers.{sets-refused}
use Rattle.sled_handle.proofs.calls.maps.values.set.Goals as goal

pub returns-in-Err : goal.returns-in-Err
returns-in-Err g c = sets-refused g.L.Log c.args.cache.now c.args.name.now c.args.key.now c.args.value.now c.in-Err.error c.status_of_tree.result c.args.had.now c.in-Err.ensures c.status_of_tree.ensures
