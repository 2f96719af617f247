-- A batch among the lines, and the end of a run.
use Rattle.std.proofs.Common.{Bool, true, false, ◌≡◌, ◌≢◌, inl, inr, List, [], ◌∷◌, ◌++◌, Option, None, Some, Result, Ok, Err, refl, sym, ap, subst, ◌∙◌, append-nil}
use Rattle.std.proofs.KnownBytes.{Appends-trans}
use Rattle.std.proofs.lemmas.Bool.{false≢true}
use Rattle.std.specs.Io.KnownBytes.{Appends}
use Rattle.std.specs.Prelude.{codes}
use Rattle.sled_base.specs.Order.{Bytes}
use Rattle.sled_base.specs.declared.types.Error.{Error}
use Rattle.sled_log.specs.declared.log.Log.{Ghosts}
use Rattle.sled_pagecache.specs.Batches.{OpensBatch}
use Rattle.sled_pagecache.specs.Cache.{Cache}
use Rattle.sled_pagecache.specs.Inside.MadeLaws.{pin-made}
use Rattle.sled_pagecache.specs.Inside.SequenceLaws.{OnlyNow, made-then, row-one, row-then}
use Rattle.sled_pagecache.specs.Rows.{IsMade, StepInRow, AreMade}
use Rattle.sled_pagecache.specs.Trees.{IsKnown}
use Rattle.sled_pagecache.specs.declared.pagecache.handles.call.Answer.TheVariants.{Cancelled}
use Rattle.sled_pagecache.specs.declared.pagecache.handles.call.Call.TheVariants.{Cancel}
use Rattle.sled_lines.specs.Lines.{lines_of}
use Rattle.sled_lines.specs.Output.{AppendsPrefix, Gathered}
use Rattle.sled_lines.proofs.Gathered.{prefix_more}
use Rattle.sled_script.specs.Commands.{MayMark, mark_word}
use Rattle.sled_script.specs.declared.command.Mark.{Mark}
use Rattle.sled_script.specs.declared.command.Mark.TheVariants as mark
use Rattle.sled_script.specs.Replies.{reply_of_mark}
use Rattle.sled_script.specs.Runs.{Served, Marked, AreClosing, AskFor, Answers, Serves, IsWritten, call_of_mark, calls_of, is_open_after, is_open_behind, text_of}
use Rattle.sled_script.specs.Served.{AreGathered, CancelsOpen, HasServed, IsNext, IsPinned, ServesAll, ServesBatch, ServesLines, ServesUntil, Turns}
use Rattle.sled_script.specs.declared.run.RunError.{RunError}
use Rattle.sled_script.specs.declared.run.RunError.TheVariants.{Read, Write, Memory}
use Rattle.sled_script.specs.declared.run.Stop.TheVariants as stop
use Rattle.sled_script.proofs.Answered.{IsNextFor, served_one, broken_one, served_then, lines_then, batch_then}

-- nothing is behind nothing
end_of_none : (front rest : Bytes) → front ++ rest ≡ [] → rest ≡ []
end_of_none [] rest e = e
end_of_none (byte ∷ front) rest e = absurd cc

-- where something was served, a line was answered
some_answered : (P : Type 0) (is_open : Bool) (lines : List Bytes) (served : List Served) → AskFor P is_open lines served → (served ≡ [] → ⊥) → lines ≢ []
some_answered P is_open [] [] all more = absurd (more refl)
some_answered P is_open [] (one ∷ served) all more = absurd all
some_answered P is_open (line ∷ lines) served all more = λ none. absurd cc

-- what waited is not written whole
rest_stops : (old mid new : Option Bytes) (waits text : Bytes) → Gathered old mid [] waits text → AppendsPrefix mid new waits → AppendsPrefix old new text
rest_stops old mid new waits text gathered stopped = subst (AppendsPrefix old new) (append-nil text) (prefix_more old mid new [] waits text [] gathered (subst (AppendsPrefix mid new) (sym (append-nil waits)) stopped))

-- what waited is written whole
pub rest_written : (old mid new : Option Bytes) (waits text : Bytes) → Gathered old mid [] waits text → Appends mid new waits → Appends old new text
rest_written old mid new waits text (done, wrote, e) went = subst (Appends old new) e (Appends-trans old mid new done waits wrote went)

-- a mark that is left may be asked for
turns_may : (is_open : Bool) (asked : Mark) → Turns is_open asked → MayMark is_open asked
turns_may is_open mark.Pin turns = tt
turns_may is_open mark.Seal turns = turns
turns_may is_open mark.Cancel turns = turns

-- outside a batch it is the one that opens one
pub turns_pin : (is_open : Bool) (asked : Mark) → is_open ≡ false → Turns is_open asked → asked ≡ mark.Pin
turns_pin is_open mark.Pin none turns = refl
turns_pin is_open mark.Seal none turns = absurd (false≢true (sym none ∙ turns))
turns_pin is_open mark.Cancel none turns = absurd (false≢true (sym none ∙ turns))

-- inside one it closes the batch
closed_batch : (is_open : Bool) (asked : Mark) (answer : Result (Unit {0}) Error) → is_open ≡ true → Turns is_open asked → is_open_after is_open (Marked asked answer) ≡ false
closed_batch is_open mark.Pin answer some turns = absurd (false≢true (sym turns ∙ some))
closed_batch is_open mark.Seal answer some turns = refl
closed_batch is_open mark.Cancel answer some turns = refl

module _ {L : Type 0} (g : Ghosts L) where
  marked_next : (cache : Cache L) (input rest : Option Bytes) (asked : Mark) (result : Result (Unit {0}) Error) → IsNext input rest (mark_word asked) → MayMark cache.batch asked → IsNextFor g cache input rest (Marked asked result)
  marked_next cache None rest asked result at may = tt
  marked_next cache (Some input) None asked result at may = absurd at
  marked_next cache (Some input) (Some rest) asked result at may = (mark_word asked, at, (refl, may))

  -- ---- a mark that was answered, or not

  module _ (only_now : OnlyNow g) (cache after : Cache L) (asked : Mark) (answer : Result (Unit {0}) Error) (input rest old new : Option Bytes) (before waits : Bytes) (at : IsNext input rest (mark_word asked)) (may : MayMark cache.batch asked) (made : IsMade g cache (call_of_mark asked answer).0 (call_of_mark asked answer).1 after) (batch : after.batch ≡ is_open_after cache.batch (Marked asked answer)) where
    pub mark_done : Gathered old new before waits (reply_of_mark answer ++ 10 ∷ []) → HasServed g cache input rest old new before waits after
    mark_done wrote = served_one g only_now cache after (Marked asked answer) input rest old new before waits (marked_next cache input rest asked answer at may) made batch wrote

    pub mark_stops : AppendsPrefix old new (before ++ (reply_of_mark answer ++ 10 ∷ [])) → ServesLines g cache input old new before waits (Err Write) after
    mark_stops wrote = broken_one g only_now cache after (Marked asked answer) input rest old new before waits (marked_next cache input rest asked answer at may) made batch wrote

  -- a batch that was opened, or was not
  pub opened_batch : (cache after : Cache L) (answer : Result (Unit {0}) Error) → OpensBatch g cache answer after → after.batch ≡ is_open_after cache.batch (Marked mark.Pin answer)
  opened_batch cache after (Ok done) opens = opens.done.1
  opened_batch cache after (Err e) opens = opens.refused

  -- the cache that a guard lends is the one that was opened
  pub is_pinned : (cache held lent : Cache L) → lent ≡ held → OpensBatch g cache (Ok tt) held → IsPinned g cache lent
  is_pinned cache held lent same opens = subst (IsPinned g cache) (sym same) (record { made = pin-made g cache held (Ok tt) opens; batch = opens.done.1 })

  -- ---- what closes a run of lines

  pub closed_all : (cache after : Cache L) (input old new : Option Bytes) (before waits : Bytes) (result : Result Unit RunError) → after.batch ≡ false → ServesLines g cache input old new before waits result after → ServesAll g cache input old new before waits result after
  closed_all cache after input old new before waits result none lines = record { left = after; lines = lines; closed = inl (none, refl) }

  pub cancelled_all : (cache left after : Cache L) (input old new : Option Bytes) (before waits : Bytes) (result : Result Unit RunError) (answer : Result (Unit {0}) Error) → left.batch ≡ true → IsMade g left Cancel (Cancelled answer) after → after.batch ≡ false → ServesLines g cache input old new before waits result left → ServesAll g cache input old new before waits result after
  cancelled_all cache left after input old new before waits result answer some made none lines = record { left = left; lines = lines; closed = inr (some, (answer, made, none)) }

  -- ---- the line that closes a batch

  module _ (only_now : OnlyNow g) (cache left after : Cache L) (input rest old mid new : Option Bytes) (before between waits : Bytes) (asked : Mark) (is_followed : Bool) (answer : Result (Unit {0}) Error) (some : left.batch ≡ true) (made : IsMade g left (call_of_mark asked answer).0 (call_of_mark asked answer).1 after) (none : after.batch ≡ false) where
    pub batch_closed : ServesUntil g cache input rest old mid before between (Ok (stop.At asked is_followed)) left → Gathered mid new between waits (reply_of_mark answer ++ 10 ∷ []) → HasServed g cache input rest old new before waits after
    batch_closed (front, so, next, turns) wrote = served_then g so rest new waits after
        (mark_done only_now left after asked answer front rest mid new between waits next (turns_may left.batch asked turns) made (none ∙ sym (closed_batch left.batch asked answer some turns)) wrote)

    pub batch_untold : ServesUntil g cache input rest old mid before between (Ok (stop.At asked is_followed)) left → AppendsPrefix mid new (between ++ (reply_of_mark answer ++ 10 ∷ [])) → ServesAll g cache input old new before waits (Err Write) after
    batch_untold (front, so, next, turns) wrote = closed_all cache after input old new before waits (Err Write) none (lines_then g so new waits (Err Write) after
        (mark_stops only_now left after asked answer front rest mid new between waits next (turns_may left.batch asked turns) made (none ∙ sym (closed_batch left.batch asked answer some turns)) wrote))

  -- ---- a batch behind lines outside one

  pub batch_served : {cache here : Cache L} {input middle old mid : Option Bytes} {before between : Bytes} (so : HasServed g cache input middle old mid before between here) (asked : Mark) (is_followed : Bool) (left after : Cache L) (next rest last new : Option Bytes) (waiting waits : Bytes) (result : Result Bool RunError) → left.batch ≡ false
      → ServesUntil g here middle next mid last between waiting (Ok (stop.At asked is_followed)) left → ((front : Option Bytes) → IsNext front next (codes "pin") → ServesBatch g left front rest last new waiting waits result after) → ServesBatch g cache input rest old new before waits result after
  batch_served so asked is_followed left after next rest last new waiting waits result none (front, more, at, turns) serves =
      batch_then g (served_then g so front last waiting left more) rest new waits result after (serves front (subst (λ (one : Mark). IsNext front next (mark_word one)) (turns_pin left.batch asked none turns) at))

  -- ---- the end of a run

  module _ (cache after : Cache L) (input old new : Option Bytes) (result : Result Unit RunError) (left : Cache L) (served : List Served) (answers : Answers (¬ IsKnown g cache) cache.batch input result served) (made : AreMade g cache (calls_of served) left) (row : StepInRow g cache (calls_of served) left) (batch : left.batch ≡ is_open_behind cache.batch served) (written : IsWritten result old new (text_of served)) where
    serves_by : CancelsOpen g left after → Serves g cache input old new result after
    serves_by (inl (none, same)) = record {
      served = served;
      answers = answers;
      closing = [];
      closes = subst (λ now. AreClosing now []) (sym none ∙ batch) refl;
      made = subst (λ calls. AreMade g cache calls after) (sym (append-nil (calls_of served))) (subst (AreMade g cache (calls_of served)) (sym same) made);
      row = subst (λ calls. StepInRow g cache calls after) (sym (append-nil (calls_of served))) (subst (StepInRow g cache (calls_of served)) (sym same) row);
      closed = ap (λ (now : Cache L). now.batch) same ∙ none;
      written = written;
    }
    serves_by (inr (some, (answer, cancelled, none))) = record {
      served = served;
      answers = answers;
      closing = (Cancel, Cancelled answer) ∷ [];
      closes = subst (λ now. AreClosing now ((Cancel, Cancelled answer) ∷ [])) (sym some ∙ batch) (answer, refl);
      made = made-then g cache left after (calls_of served) ((Cancel, Cancelled answer) ∷ []) made (after, cancelled, refl);
      row = row-then g cache left after (calls_of served) ((Cancel, Cancelled answer) ∷ []) row (row-one g left after Cancel (Cancelled answer) cancelled.step);
      closed = none;
      written = written;
    }

  -- the last replies are written
  pub all_written : (cache after : Cache L) (input old mid new : Option Bytes) (waits : Bytes) (result : Result Unit RunError) (all : ServesAll g cache input old mid [] waits result after) → ((text : Bytes) → AreGathered result old mid [] waits text → IsWritten result old new text) → Serves g cache input old new result after
  all_written cache after input old mid new waits result all wrote =
      let lines = all.lines in
      serves_by cache after input old new result all.left lines.served lines.answers lines.made lines.row lines.batch (wrote (text_of lines.served) lines.written) all.closed

  -- they are not written whole
  pub not_all_written : (cache after : Cache L) (input old mid new : Option Bytes) (waits : Bytes) (result : Result Unit RunError) → result ≢ Err Write → ServesAll g cache input old mid [] waits result after → AppendsPrefix mid new waits → waits ≢ [] → Serves g cache input old new (Err Write) after
  not_all_written cache after input old mid new waits result other all stopped some =
      serves_by cache after input old new (Err Write) all.left lines.served (ends input result (λ none. some (nothing_waits result other lines.written (ap text_of none))) lines.answers) lines.made lines.row lines.batch (is result other lines.written) all.closed
    where
      lines : ServesLines g cache input old mid [] waits result all.left
      lines = all.lines

      is : (result : Result Unit RunError) → result ≢ Err Write → AreGathered result old mid [] waits (text_of lines.served) → AppendsPrefix old new (text_of lines.served)
      is (Ok done) other gathered = rest_stops old mid new waits (text_of lines.served) gathered stopped
      is (Err Read) other gathered = rest_stops old mid new waits (text_of lines.served) gathered stopped
      is (Err Memory) other gathered = rest_stops old mid new waits (text_of lines.served) gathered stopped
      is (Err Write) other gathered = absurd (other refl)

      nothing_waits : (result : Result Unit RunError) → result ≢ Err Write → AreGathered result old mid [] waits (text_of lines.served) → text_of lines.served ≡ [] → waits ≡ []
      nothing_waits (Ok done) other (done_text, went, e) none = end_of_none done_text waits (e ∙ none)
      nothing_waits (Err Read) other (done_text, went, e) none = end_of_none done_text waits (e ∙ none)
      nothing_waits (Err Memory) other (done_text, went, e) none = end_of_none done_text waits (e ∙ none)
      nothing_waits (Err Write) other gathered none = absurd (other refl)

      ends : (input : Option Bytes) (result : Result Unit RunError) → (lines.served ≡ [] → ⊥) → Answers (¬ IsKnown g cache) cache.batch input result lines.served → Answers (¬ IsKnown g cache) cache.batch input (Err Write) lines.served
      ends None result more answers = tt
      ends (Some input) (Ok done) more asked = (lines_of input, [], sym (append-nil (lines_of input)), asked, some_answered (¬ IsKnown g cache) cache.batch (lines_of input) lines.served asked more)
      ends (Some input) (Err e) more (answered, others, split, asked, why) = (answered, others, split, asked, some_answered (¬ IsKnown g cache) cache.batch answered lines.served asked more)
