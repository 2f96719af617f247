-- A share that was answered an id counts one call more.
use Rattle.std.proofs.Common.{inl, inr, ◌⊎◌, ℕ, ◌≡◌, ◌+◌, Ok}
use Rattle.sled_base.specs.declared.types.Error.TheVariants.{Unsupported, OutOfMemory}
use Rattle.sled_base.specs.declared.types.Why.TheVariants.{BookFull}
use Rattle.sled_pagecache.specs.declared.pagecache.handles.call.Answer.TheVariants.{Generated}
use Rattle.sled_pagecache.specs.declared.pagecache.handles.call.Call.TheVariants.{GenerateId}
use Rattle.sled_shared.proofs.Replays.{tells_counts}
use Rattle.sled_shared.specs.Calls.{Answered, Asked, IsRefusal}
use Rattle.sled_shared.specs.Held.{Share, Tells, count_of}

drawn : (mine : Share) (id : ℕ) (mine' : Share)
    → (count_of mine' ≡ count_of mine + 1) ⊎ ((mine' ≡ mine) × (IsRefusal (Answered (Generated (Ok id))) (Unsupported BookFull) ⊎ IsRefusal (Answered (Generated (Ok id))) OutOfMemory))
    → count_of mine' ≡ count_of mine + 1
drawn mine id mine' (inl counts) = counts
drawn mine id mine' (inr (same, inl refused)) = absurd (let r = refused in cc)
drawn mine id mine' (inr (same, inr refused)) = absurd (let r = refused in cc)

pub drew_counts : (mine : Share) (id : ℕ) (mine' : Share) → Tells mine (Asked GenerateId) (Answered (Generated (Ok id))) mine' → count_of mine' ≡ count_of mine + 1
drew_counts mine id mine' told = drawn mine id mine' (tells_counts mine (Asked GenerateId) (Answered (Generated (Ok id))) mine' told)
