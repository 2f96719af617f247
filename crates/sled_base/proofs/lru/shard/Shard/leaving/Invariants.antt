use Rattle.sled_base.specs.Shards.{place_in, size_in}
use Rattle.sled_base.proofs.RecentUse.Walking.{IsWalked}
use Rattle.sled_base.proofs.lru.shard.Shard.leaving.Given as goal

abbrev pub invariant-loop : goal.invariant-loop
invariant-loop l = IsWalked l.self-inside.list l.self-inside.capacity (place_in l.item) (size_in l.item) l.total l.count l.counter l.last
