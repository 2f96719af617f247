-- Testing the token of a swap against the table of pages.
use Rattle.std.specs.Prelude.{◌≡◌, ◌≢◌, ℕ, Bool, true, false, List, Option, None, Some, Result, Ok, Err, MatchBool, slice_get}
use Rattle.sled_base.specs.Errors.{error_of}
use Rattle.sled_base.specs.declared.types.Device.TheVariants.{Write}
use Rattle.sled_base.specs.declared.types.Refusal.TheVariants.{Unsupported, Io}
use Rattle.sled_base.specs.declared.types.Why.TheVariants.{ReservedId}
use Rattle.sled_pagecache.specs.Table.{is_free}
use Rattle.sled_pagecache.specs.Step.{Swapped, is_reserved}
use Rattle.sled_pagecache.specs.State.{Token, token}
use Rattle.sled_pagecache.specs.declared.pagecache.write.token_check.Rejection.{Rejection}
use Rattle.sled_pagecache.specs.declared.pagecache.write.token_check.Rejection.TheVariants.{Refused, Stale, Gone}
use Rattle.sled_pagecache.specs.declared.pagecache.table.page_entry.Page.{Page}

-- the page that the token names, at its stamp
pub record IsFresh (fault : Bool) (pages : List Page) (pid : ℕ) (old : Token) (page : Page) : Type 0 where
  pub clear : fault ≡ false
  pub behind : is_reserved pid ≡ false
  pub at : slice_get pages pid ≡ Some page
  pub full : is_free page.kept ≡ false
  pub stamp : page.stamp ≡ old.stamp

-- the page is absent or free, or at another stamp, which is returned
abbrev pub IsRejected : Option Page → ℕ → Token → Rejection → Type 0
IsRejected None pid old rejection = rejection ≡ Gone
IsRejected (Some page) pid old Gone = is_free page.kept ≡ true
IsRejected (Some page) pid old (Stale present) = (is_free page.kept ≡ false) × (page.stamp ≢ old.stamp) × (present ≡ token pid page.stamp)
IsRejected (Some page) pid old (Refused refusal) = ⊥

-- an earlier write error is returned first, and then the cache's own pages are refused
abbrev pub Judges : Bool → List Page → ℕ → Token → Result (Unit {0}) Rejection → Type 0
Judges fault pages pid old (Ok done) = (page : Page) × IsFresh fault pages pid old page
Judges fault pages pid old (Err (Refused refusal)) = MatchBool fault (refusal ≡ Io Write) ((is_reserved pid ≡ true) × (refusal ≡ Unsupported ReservedId))
Judges fault pages pid old (Err rejection) = (fault ≡ false) × (is_reserved pid ≡ false) × IsRejected (slice_get pages pid) pid old rejection

-- what a swap returns then
abbrev pub answer_to : {R : Type 0} → Rejection → R → Swapped R
answer_to (Refused refusal) given = Err (error_of refusal)
answer_to (Stale present) given = Ok (Err (Some (present, given)))
answer_to Gone given = Ok (Err None)

-- what a link returns that was lent: its token, and whether it joined the messages of its page, or why it failed
abbrev pub link_answer : {R : Type 0} → Result (Token × Bool) Rejection → R → Swapped R
link_answer (Ok done) given = Ok (Ok done.0)
link_answer (Err rejection) given = answer_to rejection given
