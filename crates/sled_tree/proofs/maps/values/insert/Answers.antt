use Rattle.std.proofs.Common.{◌≡◌, Err, ℕ, refl}
use Rattle.sled_base.specs.Order.{Bytes}
use Rattle.sled_log.specs.declared.log.Log.{Ghosts}
use Rattle.sled_pagecache.specs.Cache.{Cache}
use Rattle.sled_tree.specs.Maps.{ChangesMap, SetsKey, root_of}
use Rattle.sled_tree.specs.Performs.{Performs}
use Rattle.sled_tree.specs.declared.error.TreeError.{TreeError}
use Rattle.sled_tree.specs.declared.error.TreeError.TheVariants.{KeyTooLong, ValueTooLong}
use Rattle.sled_tree.proofs.Changing.{inserted, links-as, links-failed, no-answer, room-failed, set-refused}
use Rattle.sled_tree.proofs.Keeping.{still-keeps}
use Rattle.sled_tree.proofs.maps.values.insert.Goals as goal

too-long : {L : Type 0} (g : Ghosts L) (root : ℕ) (key value : Bytes) (e : TreeError) (c : Cache L) → Performs g (ChangesMap root (SetsKey {E = TreeError} root key value (Err e))) c c
too-long g root key value e c = set-refused g root key c c value (Err e) refl (still-keeps g)

pub returns-then-key-gt-MAX_BYTES-clause-maps : goal.returns-then-key-gt-MAX_BYTES-clause-maps
returns-then-key-gt-MAX_BYTES-clause-maps g c = too-long g.L.Log (root_of c.args.tree) c.args.key.now c.args.value KeyTooLong c.args.cache.now

pub returns-then-len-gt-MAX_BYTES-clause-maps : goal.returns-then-len-gt-MAX_BYTES-clause-maps
returns-then-len-gt-MAX_BYTES-clause-maps g c = too-long g.L.Log (root_of c.args.tree) c.args.key.now c.args.value ValueTooLong c.args.cache.now

pub returns-clause-maps : goal.returns-clause-maps
returns-clause-maps g c = inserted g.L.Log {E = TreeError} c.in_ok-set.ensures.before c.in_ok-place.ensures (links-as g.L.Log c.in_ok-set.ensures.links)

pub returns-in_err-set-clause-maps : goal.returns-in_err-set-clause-maps
returns-in_err-set-clause-maps g c =
    let result = c.from_residual-in_err-set.result in
    let failed = c.from_residual-in_err-set.ensures.0 in
    inserted g.L.Log {result = result} (no-answer (λ b. b ≡ c.in_ok-place.place.value) result failed) c.in_ok-place.ensures (links-failed g.L.Log failed c.in_err-set.ensures.links)

pub returns-in_err-place-clause-maps : goal.returns-in_err-place-clause-maps
returns-in_err-place-clause-maps g c =
    let result = c.from_residual.result in
    room-failed g.L.Log (root_of c.args.tree) c.args.key.now c.args.value result c.from_residual.ensures.0 c.room_for.result c.args.cache.now c.room_for.new.cache c.room_for.ensures
