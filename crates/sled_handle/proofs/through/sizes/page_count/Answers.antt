use Rattle.std.proofs.Common.{rules}
use Rattle.sled_handle.proofs.OverFile.{over_file}
use Rattle.sled_handle.proofs.through.sizes.page_count.Goals as goal

pub returns : goal.returns
returns g c = over_file _ _ c.in-File.is (search rules) c.page_count-status.ensures c.told.ensures
