use Rattle.std.proofs.Common.{Err, refl}
use Rattle.sled_base.specs.declared.types.Error.TheVariants.{Unsupported}
use Rattle.sled_base.specs.declared.types.Why.TheVariants.{NameTooLong}
use Rattle.sled_tree.specs.Maps.{root_of}
use Rattle.sled_tree.specs.declared.error.TreeError.TheVariants.{Cache}
use Rattle.sled_tree.proofs.Opening.{opens-none}
use Rattle.sled_tree.proofs.named.tree_of_new.Goals as goal

pub returns-then-name-gt-MAX_BYTES-clause-maps : goal.returns-then-name-gt-MAX_BYTES-clause-maps
returns-then-name-gt-MAX_BYTES-clause-maps g c = opens-none g.L.Log root_of c.args.name.now (Err (Cache (Unsupported NameTooLong))) refl c.args.cache.now
