use Rattle.std.proofs.Common.{◌+◌, length, refl}
use Rattle.std.specs.Prelude.{replicate}
use Rattle.sled_base.specs.Limits.{inline_limit}
use Rattle.sled_base.proofs.Prefixes.{written_both}
use Rattle.sled_base.proofs.prefix.decode_few.Goals as goal

pub returns-clause-ok : goal.returns-clause-ok
returns-clause-ok c =
    let prefix = c.args.prefix.now in
    let key = c.args.key.now in
    let written = written_both prefix key (replicate inline_limit 0) c.copy_from_slice.new.self c.copy_from_slice-2.new.self (length prefix + length key) refl c.copy_from_slice.ensures.after c.copy_from_slice-2.ensures.after in
    rw (← written) c.from_slice.ensures.ok
