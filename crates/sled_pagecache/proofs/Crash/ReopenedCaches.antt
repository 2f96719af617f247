-- A cache that is opened over a crash state is what is opened of the pages after a prefix of the changes.
use Rattle.sled_pagecache.proofs.Names.{none-came, take-nil, ◌≡◌, ◌≤◌, ℕ, Bool, true, List, [], ◌++◌, arith, take, refl, sym, subst, Ok, Err, Update, contents_after, Event, Message, Messages, unplaced_state, Ghosts, Logged, IsLogged, Content, AreKept, CrashReopens, stable_state, stable_contents, LogState, AreAfterPrefix, HoldsCrash}
use Rattle.sled_pagecache.proofs.Opening.Endings.{sound-settings}
use Rattle.sled_pagecache.proofs.CacheLog.ProperMessages.{stay-none}
use Rattle.sled_pagecache.specs.Logged.{IsLeft, now}

-- pages of these messages are kept, and hold contents that are so
abbrev pub IsKeptAs : List Messages → (List Content → Type 0) → Type 0
IsKeptAs pages Are = (contents : List Content) × AreKept pages contents × Are contents

-- what a crash leaves is the pages after a prefix
abbrev pub kept-prefix : (held : Logged) (begun : List (Event Update)) (pages : List Messages) → IsLeft held begun pages → IsKeptAs pages (AreAfterPrefix held begun)
kept-prefix held begun pages left = (
  contents_after held.stable (take left.cut (held.pending ++ left.came)),
  left.is,
  record { came = left.came; beginning = left.beginning; cut = left.cut; fair = left.fair; is = refl },
)

-- of a log at which nothing is pending it is all the pages
pub after-none : (held : Logged) (contents : List Content) → held.pending ≡ [] → AreAfterPrefix held [] contents → contents ≡ now held
after-none held contents none after = rw none (rw (none, none-came after.came after.beginning, take-nil after.cut) at after.is)

pub kept-logged : (pages : List Messages) (contents : List Content) → AreKept pages contents → (usable : Bool) → IsLogged (stable_state pages usable) (stable_contents contents)
kept-logged pages contents kept usable = record {
  stable = kept.holds;
  pending = tt;
  proper = stay-none pages contents kept.proper;
}

-- a log to which nothing was appended holds no page
pub empty-logged : (usable : Bool) → IsLogged (stable_state [] usable) (stable_contents [])
empty-logged = kept-logged [] [] (record { holds = tt; proper = record { own = λ pid. tt; short = tt; few = omega arith } })

module _ {L : Type 0} (g : Ghosts L) (since_earlier : (log : L) (t u : ℕ) (pages : List Messages) → t ≤ u → g.left_since log u pages → g.left_since log t pages) where
  -- a crash state that is opened
  pub crash-holds : (crashed : L) (since : ℕ) (Are : List Content → Type 0) → ((pages : List Messages) → g.left_since crashed since pages → IsKeptAs pages Are)
      → (log : L) → HoldsCrash g crashed since log → (contents : List Content) × Are contents × IsLogged (unplaced_state (g.state log)) (stable_contents contents)
  crash-holds crashed since Are each log crash =
      let (contents, kept, are) = each crash.pages (since_earlier crashed since crash.at crash.pages crash.later crash.left) in
      (contents, are, subst (λ (s : LogState Message). IsLogged s (stable_contents contents)) (sym crash.holds) (kept-logged crash.pages contents kept true))

  pub crash-reopens-to : (crashed : L) (since : ℕ) (Are : List Content → Type 0) → ((pages : List Messages) → g.left_since crashed since pages → IsKeptAs pages Are) → CrashReopens g crashed since Are
  crash-reopens-to crashed since Are each log crash config (Err refused) started = tt
  crash-reopens-to crashed since Are each log crash config (Ok cache) started =
      let (contents, are, logged) = crash-holds crashed since Are each log crash in
      let opened = started.opens (sound-settings g log config cache started) (stable_contents contents) logged in
      record { contents = contents; are = are; held_then = opened.held_then; is = opened.is }

  pub crash-reopens : (crashed : L) (since : ℕ) (held : Logged) (begun : List (Event Update)) → ((pages : List Messages) → g.left_since crashed since pages → IsLeft held begun pages) → CrashReopens g crashed since (AreAfterPrefix held begun)
  crash-reopens crashed since held begun each = crash-reopens-to crashed since (AreAfterPrefix held begun) (λ pages left. kept-prefix held begun pages (each pages left))
