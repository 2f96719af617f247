use Rattle.std.proofs.Common.{rules}
use Rattle.sled_handle.proofs.OverFile.{over_file}
use Rattle.sled_handle.proofs.through.maps.drop_map.Goals as goal

pub returns : goal.returns
returns g c = over_file _ _ c.in-File.is (search rules) c.drop_map-status.ensures c.told.ensures
