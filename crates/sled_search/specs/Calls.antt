-- Calls that change pages, in a row, and what the pages are after a prefix of their changes.
use Rattle.std.specs.Prelude.{◌⊎◌, ℕ, ◌<◌, ◌≤◌, List, [], ◌∷◌, ◌++◌, length, take}
use Rattle.sled_log.specs.Contents.{Content, Update, contents_after}
use Rattle.sled_log.specs.Events.{Event}

-- the changes of a call, and what the pages are after it
abbrev pub Call : Type 0 → Type 0
Call W = List (Event Update) × W

-- the changes of calls in a row
abbrev pub changes_of : {W : Type 0} → List (Call W) → List (Event Update)
changes_of [] = []
changes_of (call ∷ calls) = call.0 ++ changes_of calls

-- what the pages are after all of the calls
abbrev pub left_by : {W : Type 0} → W → List (Call W) → W
left_by w [] = w
left_by w (call ∷ calls) = left_by call.1 calls

-- `Are pages w` says what the pages are, for example which maps.
module _ {W : Type 0} (Are : List Content → W → Type 0) where
  -- What a call makes of the pages. After each prefix of its changes they are what they were before the call, or what they are after it.
  pub record Becomes (pages : List Content) (old : W) (events : List (Event Update)) (new : W) : Type 0 where
    pub before : Are pages old
    pub each : (n : ℕ) → n ≤ length events → Are (contents_after pages (take n events)) old ⊎ Are (contents_after pages (take n events)) new
    pub behind : Are (contents_after pages events) new

  -- calls in a row
  abbrev pub AreCalls : List Content → W → List (Call W) → Type 0
  AreCalls pages w [] = Are pages w
  AreCalls pages w (call ∷ calls) = Becomes pages w call.0 call.1 × AreCalls (contents_after pages call.0) call.1 calls

  -- After the first n changes of the calls, the pages are what they are after a prefix of the calls. This prefix has every call whose changes are
  -- all there, and no call that begins after these changes.
  pub record ArePrefixOf (pages : List Content) (w : W) (calls : List (Call W)) (n : ℕ) : Type 0 where
    pub count : ℕ
    pub within : count ≤ length calls
    pub are : Are (contents_after pages (take n (changes_of calls))) (left_by w (take count calls))
    pub whole : (i : ℕ) → i ≤ length calls → length (changes_of (take i calls)) ≤ n → i ≤ count
    pub begun : (i : ℕ) → i ≤ length calls → n < length (changes_of (take i calls)) → count ≤ i
