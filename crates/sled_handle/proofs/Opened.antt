-- A cache over a log that holds nothing.
use Rattle.std.proofs.Common.{◌≡◌, ◌≢◌, Option, None, Some, zero, suc, true, [], refl, sym, subst, arith}
use Rattle.sled_base.specs.declared.types.Why.{Why}
use Rattle.sled_log.specs.Messages.{Entry}
use Rattle.sled_log.specs.LogState as log
use Rattle.sled_pagecache.specs.Logged.{Logged, IsLogged, IsProper, StayProper}
use Rattle.sled_pagecache.specs.Opening.{missing_pages}

abbrev pub nothing : Logged
nothing = record { stable = []; pending = [] }

no_page : IsProper [] []
no_page = record { own = λ pid. tt; short = tt; few = omega arith }

no_pages : StayProper [] [] [] []
no_pages zero = no_page
no_pages (suc n) = no_page

-- An empty log holds nothing.
pub holds_nothing : (state : log.LogState Entry) → state ≡ record { stable = []; pending = []; usable = true } → IsLogged (log.unplaced_state state) nothing
holds_nothing state e = subst (λ (s : log.LogState Entry). IsLogged (log.unplaced_state s) nothing) (sym e) (record { stable = tt; pending = tt; proper = no_pages })

-- The cache's own pages are missing there.
pub own_are_missing : missing_pages [] ≢ []
own_are_missing e = cc

-- Where each fault would be false, there is none.
pub faultless : (found : Option Why) → ((why : Why) → found ≡ Some why → ⊥) → found ≡ None
faultless None none = refl
faultless (Some why) none = absurd (none why refl)
