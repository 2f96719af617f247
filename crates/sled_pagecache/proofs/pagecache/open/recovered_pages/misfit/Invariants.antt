use Rattle.sled_pagecache.proofs.Names.{◌≡◌, ◌<◌, ℕ, false, IfSome, is_misfit, Page}
use Rattle.std.specs.List.{slice_get}
use Rattle.sled_pagecache.proofs.pagecache.open.recovered_pages.misfit.Given as goal

abbrev pub invariant-loop-pid : goal.invariant-loop-pid
invariant-loop-pid l = (k : ℕ) → k < l.pid → IfSome (slice_get l.pages.pages k) (λ (page : Page). is_misfit k page ≡ false)
