-- What serving one call, one line, and several lines does.
use Rattle.std.specs.Prelude.{Bool, true, false, ◌≡◌, ◌≤◌, ◌⊎◌, List, [], ◌∷◌, ◌++◌, length, Option, None, Some, Result, Ok, Err, ⊤}
use Rattle.sled_base.specs.Order.{Bytes}
use Rattle.sled_base.specs.declared.types.Error.{Error}
use Rattle.sled_log.specs.declared.log.Log.{Ghosts}
use Rattle.sled_pagecache.specs.Cache.{Cache}
use Rattle.sled_pagecache.specs.Rows.{IsMade, AreMade, StepInRow}
use Rattle.sled_pagecache.specs.Trees.{IsKnown}
use Rattle.sled_pagecache.specs.declared.pagecache.handles.call.Answer.{Answer}
use Rattle.sled_pagecache.specs.declared.pagecache.handles.call.Answer.TheVariants.{Pinned, Cancelled}
use Rattle.sled_pagecache.specs.declared.pagecache.handles.call.Call.{Call}
use Rattle.sled_pagecache.specs.declared.pagecache.handles.call.Call.TheVariants.{Pin, Cancel}
use Rattle.sled_lines.specs.Lines.{lines_of}
use Rattle.sled_lines.specs.Output.{AppendsPrefix, Gathered, Gathers}
use Rattle.sled_lines.specs.Settings.{longest_line}
use Rattle.sled_lines.specs.Words.{BeginsLine}
use Rattle.sled_script.specs.Commands.{mark_word}
use Rattle.sled_script.specs.Replies.{reply_of}
use Rattle.sled_script.specs.Runs.{Served, Nothing, Made, Opened, Marked, AsksFor, AskFor, Answers, call_of_mark, calls_of, is_open_after, is_open_behind, reply_to, text_of}
use Rattle.sled_script.specs.declared.command.Mark.{Mark}
use Rattle.sled_script.specs.declared.command.Mark.TheVariants as mark
use Rattle.sled_script.specs.declared.run.RunError.{RunError}
use Rattle.sled_script.specs.declared.run.RunError.TheVariants.{Read, Write, Memory}
use Rattle.sled_script.specs.declared.run.Stop.{Stop}
use Rattle.sled_script.specs.declared.run.Stop.TheVariants as stop

-- The replies to all lines that were answered are appended to the piece; if writing failed, a prefix of them was written.
abbrev pub AreGathered : Result Unit RunError → Option Bytes → Option Bytes → Bytes → Bytes → Bytes → Type 0
AreGathered (Ok done) old new before waits text = Gathered old new before waits text
AreGathered (Err Read) old new before waits text = Gathered old new before waits text
AreGathered (Err Memory) old new before waits text = Gathered old new before waits text
AreGathered (Err Write) old new before waits text = AppendsPrefix old new (before ++ text)

-- the first lines of a known input were answered, and the rest is left
abbrev pub IsBehind : Type 0 → Bool → Option Bytes → Option Bytes → List Served → Type 0
IsBehind found_another is_open None rest served = ⊤
IsBehind found_another is_open (Some input) None served = ⊥
IsBehind found_another is_open (Some input) (Some rest) served = (answered : List Bytes) × (lines_of input ≡ answered ++ lines_of rest) × AskFor found_another is_open answered served

-- the next line is this one, if the input is known
abbrev pub IsNext : Option Bytes → Option Bytes → Bytes → Type 0
IsNext None rest line = ⊤
IsNext (Some input) None line = ⊥
IsNext (Some input) (Some rest) line = lines_of input ≡ line ∷ lines_of rest

-- the mark opens a batch when none is open, or closes the open one
abbrev pub Turns : Bool → Mark → Type 0
Turns is_open mark.Pin = is_open ≡ false
Turns is_open mark.Seal = is_open ≡ true
Turns is_open mark.Cancel = is_open ≡ true

-- the result of a line whose reply was appended, or could not be written
abbrev pub answered : {E : Type 0} → Result Unit E → Result (Option Mark) RunError
answered (Ok done) = Ok None
answered (Err e) = Err Write

module _ {L : Type 0} (g : Ghosts L) where
  -- the call is made, and the reply to its answer is appended to the piece as a line
  pub record RepliesTo {E : Type 0} (cache : Cache L) (call : Call) (old new : Option Bytes) (before waits : Bytes) (result : Result Unit E) (after : Cache L) : Type 0 where
    pub answer : Answer
    pub made : IsMade g cache call answer after
    pub batch : after.batch ≡ cache.batch
    pub written : Gathers old new before waits result (reply_of answer ++ 10 ∷ [])

  -- the calls are made, and if there are none, the cache is unchanged
  abbrev pub Goes : Cache L → Served → Cache L → Type 0
  Goes cache Nothing after = after ≡ cache
  Goes cache (Made call answer) after = IsMade g cache call answer after
  Goes cache (Opened calls root) after = AreMade g cache calls after × StepInRow g cache calls after
  Goes cache (Marked mark result) after = IsMade g cache (call_of_mark mark result).0 (call_of_mark mark result).1 after

  -- The line asks for this, and it is done.
  pub record IsServed (cache : Cache L) (line : Bytes) (one : Served) (after : Cache L) : Type 0 where
    pub asks : AsksFor (¬ IsKnown g cache) cache.batch line one
    pub goes : Goes cache one after
    pub batch : after.batch ≡ is_open_after cache.batch one

  -- The line is answered, and its reply is appended to the piece as a line, or if that can't be written, a prefix of it is. Or the line is that of a
  -- mark, which is left to be served; or an allocation failed for it. Then nothing is changed or appended.
  abbrev pub RepliesLine : Cache L → Bytes → Option Bytes → Option Bytes → Bytes → Bytes → Result (Option Mark) RunError → Cache L → Type 0
  RepliesLine cache line old new before waits (Ok None) after = (one : Served) × IsServed cache line one after × Gathered old new before waits (reply_to one ++ 10 ∷ [])
  RepliesLine cache line old new before waits (Ok (Some mark)) after = (line ≡ mark_word mark) × Turns cache.batch mark × (after ≡ cache) × Gathered old new before waits []
  RepliesLine cache line old new before waits (Err Write) after = (one : Served) × IsServed cache line one after × AppendsPrefix old new (before ++ (reply_to one ++ 10 ∷ []))
  RepliesLine cache line old new before waits (Err Memory) after = (after ≡ cache) × Gathered old new before waits []
  RepliesLine cache line old new before waits (Err Read) after = ⊥

  -- the same of a line of this name and the text after it
  abbrev pub RepliesBehind : Cache L → Bytes → Option Bytes → Option Bytes → Option Bytes → Bytes → Bytes → Result (Option Mark) RunError → Cache L → Type 0
  RepliesBehind cache name text old new before waits result after = (line : Bytes) → length line ≤ longest_line → BeginsLine line name text → RepliesLine cache line old new before waits result after

  -- The first lines of the input were answered, by calls that are steps in a row, and exactly their replies were gathered.
  pub record HasServed (cache : Cache L) (input rest old new : Option Bytes) (before waits : Bytes) (after : Cache L) : Type 0 where
    pub served : List Served
    pub behind : IsBehind (¬ IsKnown g cache) cache.batch input rest served
    pub made : AreMade g cache (calls_of served) after
    pub row : StepInRow g cache (calls_of served) after
    pub batch : after.batch ≡ is_open_behind cache.batch served
    pub written : Gathered old new before waits (text_of served)

  -- What is done with an input, if the last replies are still in the piece, and a batch may be left open.
  pub record ServesLines (cache : Cache L) (input old new : Option Bytes) (before waits : Bytes) (result : Result Unit RunError) (after : Cache L) : Type 0 where
    pub served : List Served
    pub answers : Answers (¬ IsKnown g cache) cache.batch input result served
    pub made : AreMade g cache (calls_of served) after
    pub row : StepInRow g cache (calls_of served) after
    pub batch : after.batch ≡ is_open_behind cache.batch served
    pub written : AreGathered result old new before waits (text_of served)

  -- The lines are answered up to one that opens or closes a batch.
  abbrev pub ServesUntil : Cache L → Option Bytes → Option Bytes → Option Bytes → Option Bytes → Bytes → Bytes → Result Stop RunError → Cache L → Type 0
  ServesUntil cache input rest old new before waits (Ok stop.End) after = ServesLines cache input old new before waits (Ok tt) after
  ServesUntil cache input rest old new before waits (Ok (stop.At mark is_followed)) after = (front : Option Bytes) × HasServed cache input front old new before waits after × IsNext front rest (mark_word mark) × Turns after.batch mark
  ServesUntil cache input rest old new before waits (Err e) after = ServesLines cache input old new before waits (Err e) after

  -- an open batch is cancelled, and if none is open, the cache is unchanged
  abbrev pub CancelsOpen : Cache L → Cache L → Type 0
  CancelsOpen cache after =
      ((cache.batch ≡ false) × (after ≡ cache))
      ⊎ ((cache.batch ≡ true) × ((result : Result (Unit {0}) Error) × IsMade g cache Cancel (Cancelled result) after × (after.batch ≡ false)))

  -- What is done with all lines.
  pub record ServesAll (cache : Cache L) (input old new : Option Bytes) (before waits : Bytes) (result : Result Unit RunError) (after : Cache L) : Type 0 where
    pub left : Cache L
    pub lines : ServesLines cache input old new before waits result left
    pub closed : CancelsOpen left after

  -- a batch was opened
  pub record IsPinned (cache after : Cache L) : Type 0 where
    pub made : IsMade g cache Pin (Pinned (Ok tt)) after
    pub batch : after.batch ≡ true

  -- The line that opens a batch is answered, and the lines after it up to the one that closes the batch; or all of them, if none closes it.
  abbrev pub ServesBatch : Cache L → Option Bytes → Option Bytes → Option Bytes → Option Bytes → Bytes → Bytes → Result Bool RunError → Cache L → Type 0
  ServesBatch cache input rest old new before waits (Ok true) after = HasServed cache input rest old new before waits after × (after.batch ≡ false)
  ServesBatch cache input rest old new before waits (Ok false) after = ServesAll cache input old new before waits (Ok tt) after
  ServesBatch cache input rest old new before waits (Err e) after = ServesAll cache input old new before waits (Err e) after
