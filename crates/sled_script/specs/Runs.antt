-- What a run of the script does and writes.
use Rattle.std.specs.Prelude.{Bool, true, false, ℕ, ◌≢◌, List, [], ◌∷◌, ◌++◌, ◌≡◌, Option, None, Some, Result, Ok, Err, codes, flat_map, ⊤}
use Rattle.std.specs.Io.KnownBytes.{Appends}
use Rattle.sled_base.specs.Order.{Bytes}
use Rattle.sled_base.specs.declared.types.Error.{Error}
use Rattle.sled_log.specs.declared.log.Log.{Ghosts}
use Rattle.sled_pagecache.specs.Cache.{Cache}
use Rattle.sled_pagecache.specs.Rows.{StepInRow, AreMade}
use Rattle.sled_pagecache.specs.Trees.{AreCallsOf, IsKnown}
use Rattle.sled_pagecache.specs.declared.pagecache.handles.call.Answer.{Answer}
use Rattle.sled_pagecache.specs.declared.pagecache.handles.call.Answer.TheVariants.{Pinned, Sealed, Cancelled}
use Rattle.sled_pagecache.specs.declared.pagecache.handles.call.Call.{Call}
use Rattle.sled_pagecache.specs.declared.pagecache.handles.call.Call.TheVariants.{Pin, Seal, Cancel}
use Rattle.sled_lines.specs.Lines.{lines_of}
use Rattle.sled_lines.specs.Output.{AppendsPrefix}
use Rattle.sled_lines.specs.declared.lines.ReadError.{ReadError}
use Rattle.sled_lines.specs.declared.lines.ReadError.TheVariants as unread
use Rattle.sled_script.specs.Commands.{Command, Encodes, EncodesOpen, IsCommand, MayAsk, MayMark, mark_word}
use Rattle.sled_script.specs.Replies.{reply_of, reply_of_mark, reply_of_tree}
use Rattle.sled_script.specs.declared.command.Mark.{Mark}
use Rattle.sled_script.specs.declared.command.Mark.TheVariants as mark
use Rattle.sled_script.specs.declared.run.RunError.{RunError}
use Rattle.sled_script.specs.declared.run.RunError.TheVariants.{Read, Write, Memory}

-- What was done for a line: nothing; or a call was made, with this answer; or a tree was opened by these calls, with this root; or a batch was opened
-- or closed, with this answer.
pub data Served : Type 0 where
  Nothing : Served
  Made : Call → Answer → Served
  Opened : List (Call × Answer) → Result ℕ Error → Served
  Marked : Mark → Result (Unit {0}) Error → Served

-- whether a batch is open after what was done for a line, and for several
abbrev pub is_open_after : Bool → Served → Bool
is_open_after is_open Nothing = is_open
is_open_after is_open (Made call answer) = is_open
is_open_after is_open (Opened calls root) = is_open
is_open_after is_open (Marked mark.Pin (Ok done)) = true
is_open_after is_open (Marked mark.Pin (Err e)) = is_open
is_open_after is_open (Marked mark.Seal result) = false
is_open_after is_open (Marked mark.Cancel result) = false

abbrev pub is_open_behind : Bool → List Served → Bool
is_open_behind is_open [] = is_open
is_open_behind is_open (one ∷ served) = is_open_behind (is_open_after is_open one) served

module _ (found_another : Type 0) where
  -- The line asks for the call, for the tree that the calls open, or for the mark of a batch; or it is nothing that may be asked for.
  abbrev pub AsksFor : Bool → Bytes → Served → Type 0
  AsksFor is_open line Nothing = (command : Command) → IsCommand line command → ¬ MayAsk is_open command
  AsksFor is_open line (Made call answer) = Encodes line call
  AsksFor is_open line (Opened calls root) = (name : Bytes) × EncodesOpen line name × AreCallsOf found_another name root calls
  AsksFor is_open line (Marked mark result) = (line ≡ mark_word mark) × MayMark is_open mark

  -- each line asks for what was done for it, in their order
  abbrev pub AskFor : Bool → List Bytes → List Served → Type 0
  AskFor is_open [] [] = ⊤
  AskFor is_open (line ∷ lines) (one ∷ served) = AsksFor is_open line one × AskFor (is_open_after is_open one) lines served
  AskFor is_open lines served = ⊥

abbrev pub reply_to : Served → Bytes
reply_to Nothing = codes "error line"
reply_to (Made call answer) = reply_of answer
reply_to (Opened calls root) = reply_of_tree root
reply_to (Marked mark result) = reply_of_mark result

-- each reply is a line
abbrev pub text_of : List Served → Bytes
text_of served = flat_map (λ one. reply_to one ++ 10 ∷ []) served

-- the call that a mark asks for, with its answer
abbrev pub call_of_mark : Mark → Result (Unit {0}) Error → Call × Answer
call_of_mark mark.Pin result = (Pin, Pinned result)
call_of_mark mark.Seal result = (Seal, Sealed result)
call_of_mark mark.Cancel result = (Cancel, Cancelled result)

-- the calls that were made, in order
abbrev pub calls_by : Served → List (Call × Answer)
calls_by Nothing = []
calls_by (Made call answer) = (call, answer) ∷ []
calls_by (Opened calls root) = calls
calls_by (Marked mark result) = call_of_mark mark result ∷ []

abbrev pub calls_of : List Served → List (Call × Answer)
calls_of served = flat_map calls_by served

-- a batch that is left open is cancelled, whatever the answer is
abbrev pub AreClosing : Bool → List (Call × Answer) → Type 0
AreClosing false calls = calls ≡ []
AreClosing true calls = (result : Result (Unit {0}) Error) × (calls ≡ (Cancel, Cancelled result) ∷ [])

-- What ended a run after the lines that were answered: the input could not be read; an allocation failed for one more line; or a reply could not be
-- written.
abbrev pub Ends : RunError → List Bytes → List Bytes → Type 0
Ends Read answered others = ⊤
Ends Memory answered others = others ≢ []
Ends Write answered others = answered ≢ []

-- Each line of a known input was answered, in order; after an error a prefix of them was.
abbrev pub Answers : Type 0 → Bool → Option Bytes → Result Unit RunError → List Served → Type 0
Answers found_another is_open None result served = ⊤
Answers found_another is_open (Some input) (Ok done) served = AskFor found_another is_open (lines_of input) served
Answers found_another is_open (Some input) (Err e) served = (answered others : List Bytes) × (lines_of input ≡ answered ++ others) × AskFor found_another is_open answered served × Ends e answered others

-- The text was written; if writing or flushing it failed, a prefix of it.
abbrev pub IsWritten : Result Unit RunError → Option Bytes → Option Bytes → Bytes → Type 0
IsWritten (Ok done) old new text = Appends old new text
IsWritten (Err Read) old new text = Appends old new text
IsWritten (Err Memory) old new text = Appends old new text
IsWritten (Err Write) old new text = AppendsPrefix old new text

-- What a run does with an input: it makes the calls that the lines ask for, which are steps in a row, and writes the replies to their answers, one
-- line for each line. A batch that is left open is cancelled without a reply, so none is open afterwards. If the cache is in a state, no opening of a
-- tree finds another root.
pub record Serves {L : Type 0} (g : Ghosts L) (cache : Cache L) (input old new : Option Bytes) (result : Result Unit RunError) (after : Cache L) : Type 0 where
  pub served : List Served
  pub answers : Answers (¬ IsKnown g cache) cache.batch input result served
  pub closing : List (Call × Answer)
  pub closes : AreClosing (is_open_behind cache.batch served) closing
  pub made : AreMade g cache (calls_of served ++ closing) after
  pub row : StepInRow g cache (calls_of served ++ closing) after
  pub closed : after.batch ≡ false
  pub written : IsWritten result old new (text_of served)

-- the error that ends a run if a line was not read
abbrev pub run_error_of : ReadError → RunError
run_error_of unread.Read = Read
run_error_of unread.Memory = Memory
