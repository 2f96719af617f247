use Rattle.std.proofs.Common.{◌≡◌, ◌+◌, ◌*◌, ◌/◌, ◌%◌, ◌^◌, ◌++◌, length, map, take, drop, sym, ap, subst, ◌∙◌, arith}
use Rattle.std.specs.Prelude.{slice_set}
use Rattle.std.proofs.lemmas.List.{take_at}
use Rattle.sled_base.specs.Lru.{Recency, rounded, IsUsed, IsAccessed}
use Rattle.sled_base.specs.Shards.{AreShards, IsShardOf}
use Rattle.sled_base.proofs.RecentUse.Rounding.{power_bound}
use Rattle.sled_base.proofs.RecentUse.Sharding.{recency_of, sound_shards, shard_read, shards-set, shard-used, accessed_shard}
use Rattle.sled_base.proofs.lru.Lru.access.Goals as goal

pub accessed-requires-clause-room : goal.accessed-requires-clause-room
accessed-requires-clause-room c =
    let shard = shard_read c.self.inside.capacity (c.args.id % 256) c.self.inside.shards.items c.index_mut-shard.result.now c.self.invariant (omega arith) c.index_mut-shard.ensures.value in
    omega (arith, shard.small, power_bound c.exponent.result c.exponent.ensures.bound)

pub returns-in_err-accessed-clause-sound : goal.returns-in_err-accessed-clause-sound
returns-in_err-accessed-clause-sound c =
    let shard = shard_read c.self.inside.capacity (c.args.id % 256) c.self.inside.shards.items c.index_mut-shard.result.now c.self.invariant (omega arith) c.index_mut-shard.ensures.value in
    sound_shards c.self.inside.capacity (slice_set c.self.inside.shards.items (c.args.id % 256) c.accessed.new.self)
    (shards-set c.self.inside.capacity (c.args.id % 256) c.self.inside.shards.items c.accessed.new.self c.self.invariant (subst (IsShardOf c.self.inside.capacity) (sym c.in_err-accessed.ensures.err) shard))

-- the shards after it
shards_after : (c : goal.After-gone-1) → AreShards c.self.inside.capacity (slice_set c.self.inside.shards.items (c.args.id % 256) c.accessed.new.self)
shards_after c =
    let shard = shard_read c.self.inside.capacity (c.args.id % 256) c.self.inside.shards.items c.index_mut-shard.result.now c.self.invariant (omega arith) c.index_mut-shard.ensures.value in
    shards-set c.self.inside.capacity (c.args.id % 256) c.self.inside.shards.items c.accessed.new.self c.self.invariant
    (shard-used c.self.inside.capacity (c.args.id / 256) (2 ^ c.exponent.result) c.index_mut-shard.result.now c.accessed.new.self c.accessed.new.gone.items (omega arith) (power_bound c.exponent.result c.exponent.ensures.bound) shard c.in_ok-accessed.ensures.capacity c.in_ok-accessed.ensures.used)

pub invariant_of-self-2 : goal.invariant_of-self-2
invariant_of-self-2 c = shards_after c

pub returns-clause-accessed : goal.returns-clause-accessed
returns-clause-accessed c =
    let pages = c.number_pages.new.places in
    let used = subst (λ size. IsUsed c.index_mut-shard.result.now.capacity (c.args.id / 256) size c.index_mut-shard.result.now.listings c.accessed.new.self.listings c.accessed.new.gone.items) c.exponent.ensures.value c.in_ok-accessed.ensures.used in
    let long : length pages ≡ c.accessed.new.gone.len = omega (arith, c.number_pages.auto.places, c.deref_mut.ensures.len) in
    let out = take_at pages (drop (length pages) c.accessed.new.gone.items) c.accessed.new.gone.len long ∙ c.number_pages.ensures ∙ ap (map (λ place. place * 256 + c.args.id % 256)) c.deref_mut.ensures.value in
    subst (λ (old : Recency). IsAccessed c.args.id (rounded c.args.size) old (recency_of c.self.inside.capacity (slice_set c.self.inside.shards.items (c.args.id % 256) c.accessed.new.self)) (take c.accessed.new.gone.len (pages ++ drop (length pages) c.accessed.new.gone.items))) c.self.view_is
    (accessed_shard c.args.id (rounded c.args.size) c.self.inside.capacity c.self.inside.shards.items c.index_mut-shard.result.now c.accessed.new.self c.accessed.new.gone.items (take c.accessed.new.gone.len (pages ++ drop (length pages) c.accessed.new.gone.items)) c.self.invariant c.index_mut-shard.ensures.value used out)

pub returns-clause-sound : goal.returns-clause-sound
returns-clause-sound c = sound_shards c.self.inside.capacity (slice_set c.self.inside.shards.items (c.args.id % 256) c.accessed.new.self) (shards_after c)
