use Rattle.std.proofs.Common.{◌≡◌, ◌<◌, ◌≤◌, ◌^◌, All, vec_len}
use Rattle.std.specs.Vec.{vec_capacity}
use Rattle.sled_base.proofs.RecentUse.Dropping.{HaveLeft}
use Rattle.sled_base.proofs.lru.shard.Shard.accessed.Given as goal

-- as many places have left as there were turns
abbrev pub invariant-loop : goal.invariant-loop
invariant-loop l = record {
  left : HaveLeft l.initial.self.listings l.self.listings l.gone.items l.counter;
  same : l.self.capacity ≡ l.initial.self.capacity;
  filled : vec_len l.gone ≡ l.counter;
  room : l.count ≤ vec_capacity l.gone;
  near : All (λ place. place < 2 ^ 56) l.gone.items;
}
