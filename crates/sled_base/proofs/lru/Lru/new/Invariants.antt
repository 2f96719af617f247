use Rattle.std.proofs.Common.{◌≡◌, vec_len}
use Rattle.std.specs.List.{AllByRecursion}
use Rattle.std.specs.Vec.{vec_capacity}
use Rattle.sled_base.proofs.RecentUse.Sharding.{IsEmptyShard}
use Rattle.sled_base.proofs.lru.Lru.new.Given as goal

-- the shards so far list nothing
abbrev pub invariant-loop : goal.invariant-loop
invariant-loop l = record {
  each : AllByRecursion (IsEmptyShard l.capacity) l.shards.items;
  count : vec_len l.shards ≡ l.counter;
  room : vec_capacity l.shards ≡ 256;
}
