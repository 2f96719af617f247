-- One more line behind those that were served.
use Rattle.std.proofs.Common.{Bool, length-append, ◌≡◌, ◌≤◌, List, [], ◌∷◌, ◌++◌, length, Option, None, Some, Ok, Err, refl, sym, ap, subst, ◌∙◌, arith, append-nil}
use Rattle.std.specs.Prelude.{codes}
use Rattle.sled_base.specs.Order.{Bytes}
use Rattle.sled_log.specs.declared.log.Log.{Ghosts}
use Rattle.sled_pagecache.specs.Cache.{Cache}
use Rattle.sled_pagecache.specs.Trees.{IsKnown}
use Rattle.sled_pagecache.specs.Inside.SequenceLaws.{OnlyNow}
use Rattle.sled_lines.specs.Lines.{lines_of, ReadsLine, IsUnreadLine}
use Rattle.sled_lines.specs.Output.{AppendsPrefix, Gathered}
use Rattle.sled_lines.specs.declared.lines.Line.TheVariants as read
use Rattle.sled_lines.specs.declared.lines.ReadError.{ReadError}
use Rattle.sled_lines.specs.declared.lines.ReadError.TheVariants as unread
use Rattle.sled_lines.specs.Settings.{longest_line}
use Rattle.sled_lines.proofs.Gathered.{gathered_more, prefix_more}
use Rattle.sled_lines.proofs.LinesOf.{has_line, no_length}
use Rattle.sled_script.specs.Commands.{Command, ForCall, ForTree, ForMark, IsCommand, mark_word}
use Rattle.sled_script.specs.declared.command.Mark.{Mark}
use Rattle.sled_script.specs.declared.command.Mark.TheVariants as mark
use Rattle.sled_script.specs.Runs.{Served, Nothing, AskFor, Answers, reply_to, text_of, run_error_of}
use Rattle.sled_script.specs.Served.{HasServed, IsBehind, IsNext, IsServed, RepliesLine, ServesLines, ServesUntil}
use Rattle.sled_script.specs.declared.run.RunError.{RunError}
use Rattle.sled_script.specs.declared.run.RunError.TheVariants.{Read, Write, Memory}
use Rattle.sled_script.specs.declared.run.Stop.TheVariants as stop
use Rattle.sled_script.proofs.Answered.{IsNextFor, served_one, broken_one, served_then, lines_then, flushed, gives_up}

-- a line that is too long is no command
short_mark : (line : Bytes) (asked : Mark) → line ≡ mark_word asked → length line ≤ longest_line
short_mark line mark.Pin is = omega (arith, ap length is)
short_mark line mark.Seal is = omega (arith, ap length is)
short_mark line mark.Cancel is = omega (arith, ap length is)

short_command : (line : Bytes) (asked : Command) → IsCommand line asked → length line ≤ longest_line
short_command line (ForCall call) encodes = encodes.0
short_command line (ForTree name) encodes = encodes.0
short_command line (ForMark asked) is = short_mark line asked is

-- a reply that was gathered stands where the writing of all that waits fails behind it
stands : (mid last new : Option Bytes) (before then text : Bytes) → Gathered mid last before then text → AppendsPrefix last new (then ++ []) → AppendsPrefix mid new (before ++ text)
stands mid last new before then text wrote stopped = subst (λ l. AppendsPrefix mid new (before ++ l)) (append-nil text) (prefix_more mid last new before then text [] wrote stopped)

module _ {L : Type 0} (g : Ghosts L) where
  -- a line that was kept is the next, and so is one that is too long
  kept_next : (cache : Cache L) (E : Type 0) (f : Bool) (rest next : Option Bytes) (line : Bytes) (one : Served) (after : Cache L) → ReadsLine {E = E} rest next (Ok (read.Whole f)) line → IsServed g cache line one after → IsNextFor g cache rest next one
  kept_next cache E f None next line one after at is = tt
  kept_next cache E f (Some rest) None line one after at is = absurd at
  kept_next cache E f (Some rest) (Some next) line one after at is = (line, at.1, is.asks)

  long_next : (cache : Cache L) (E : Type 0) (rest next : Option Bytes) (kept : Bytes) → ReadsLine {E = E} rest next (Ok read.TooLong) kept → IsNextFor g cache rest next Nothing
  long_next cache E None next kept at = tt
  long_next cache E (Some rest) None kept at = absurd at
  long_next cache E (Some rest) (Some next) kept at =
      (at.0, at.2, λ asked is may. let long = at.1 in let short : length at.0 ≤ longest_line = short_command at.0 asked is in absurd (omega arith))

  mark_next : (E : Type 0) (f : Bool) (rest next : Option Bytes) (line : Bytes) (asked : Mark) → ReadsLine {E = E} rest next (Ok (read.Whole f)) line → line ≡ mark_word asked → IsNext rest next (mark_word asked)
  mark_next E f None next line asked at is = tt
  mark_next E f (Some rest) None line asked at is = absurd at
  mark_next E f (Some rest) (Some next) line asked at is = at.1 ∙ ap (λ first. first ∷ lines_of next) is

  module _ {cache here : Cache L} {input rest old between : Option Bytes} {before waiting : Bytes} (so : HasServed g cache input rest old between before waiting here) where
    -- the next line is not read
    pub line_unread : (next : Option Bytes) (kept : Bytes) (e : ReadError) → IsUnreadLine e rest next kept → ServesLines g cache input old between before waiting (Err (run_error_of e)) here
    line_unread next kept unread.Read why = gives_up g so
    line_unread next kept unread.Memory why =
        record { served = so.served; answers = ends input rest next so.behind why; made = so.made; row = so.row; batch = so.batch; written = so.written }
      where
        ends : (input rest next : Option Bytes) → IsBehind (¬ IsKnown g cache) cache.batch input rest so.served → IsUnreadLine unread.Memory rest next kept → Answers (¬ IsKnown g cache) cache.batch input (Err Memory) so.served
        ends None rest next behind why = tt
        ends (Some input) None next behind why = absurd behind
        ends (Some input) (Some rest) None behind why = absurd why.0
        ends (Some input) (Some rest) (Some next) (answered, lines, asked) why =
            (answered, lines_of rest, lines, asked, has_line rest (λ none. why.1 (none ∙ sym (no_length kept (omega (arith, ap length (sym why.0 ∙ none), length-append kept next))))))

    -- the input is at its end
    pub ends_here : (E : Type 0) (next : Option Bytes) (kept : Bytes) → ReadsLine {E = E} rest next (Ok read.End) kept → ServesLines g cache input old between before waiting (Ok tt) here
    ends_here E next kept at = record { served = so.served; answers = all input rest next so.behind at; made = so.made; row = so.row; batch = so.batch; written = so.written }
      where
        all : (input rest next : Option Bytes) → IsBehind (¬ IsKnown g cache) cache.batch input rest so.served → ReadsLine {E = E} rest next (Ok read.End) kept → Answers (¬ IsKnown g cache) cache.batch input (Ok tt) so.served
        all None rest next behind at = tt
        all (Some input) None next behind at = absurd behind
        all (Some input) (Some rest) None behind at = absurd at
        all (Some input) (Some rest) (Some next) (answered, lines, asked) at =
            subst (λ (l : List Bytes). AskFor (¬ IsKnown g cache) cache.batch l so.served) (sym (lines ∙ ap (λ left. answered ++ lines_of left) at.0 ∙ append-nil answered)) asked

    memory_ends : (E : Type 0) (f : Bool) (input rest next : Option Bytes) (line : Bytes) → IsBehind (¬ IsKnown g cache) cache.batch input rest so.served → ReadsLine {E = E} rest next (Ok (read.Whole f)) line → Answers (¬ IsKnown g cache) cache.batch input (Err Memory) so.served
    memory_ends E f None rest next line behind at = tt
    memory_ends E f (Some input) None next line behind at = absurd behind
    memory_ends E f (Some input) (Some rest) None line behind at = absurd at
    memory_ends E f (Some input) (Some rest) (Some next) line (answered, lines, asked) at =
        (answered, lines_of rest, lines, asked, λ none. let first = at.1 in absurd cc)

    module _ (only_now : OnlyNow g) (E : Type 0) (f : Bool) (kept : Bytes) (next : Option Bytes) (at : ReadsLine {E = E} rest next (Ok (read.Whole f)) kept) (new : Option Bytes) (waits : Bytes) (after : Cache L) where
      -- a line that was kept is answered
      pub line_done : RepliesLine g here kept between new waiting waits (Ok None) after → HasServed g cache input next old new before waits after
      line_done (one, is, wrote) = served_then g so next new waits after (served_one g only_now here after one rest next between new waiting waits (kept_next here E f rest next kept one after at is) is.goes is.batch wrote)

      -- or not, for want of memory or of a writer
      pub line_stops : (e : RunError) → RepliesLine g here kept between new waiting waits (Err e) after → ServesLines g cache input old new before waits (Err e) after
      line_stops Read told = absurd told
      line_stops Write (one, is, wrote) = lines_then g so new waits (Err Write) after (broken_one g only_now here after one rest next between new waiting waits (kept_next here E f rest next kept one after at is) is.goes is.batch wrote)
      line_stops Memory (same, none) = subst (ServesLines g cache input old new before waits (Err Memory)) (sym same) (record {
        served = so.served;
        answers = memory_ends E f input rest next kept so.behind at;
        made = so.made;
        row = so.row;
        batch = so.batch;
        written = subst (Gathered old new before waits) (append-nil (text_of so.served)) (gathered_more old between new before waiting waits (text_of so.served) [] so.written none);
      })

      -- or is that of a mark, and left
      pub line_left : (asked : Mark) → RepliesLine g here kept between new waiting waits (Ok (Some asked)) after → ServesUntil g cache input next old new before waits (Ok (stop.At asked f)) after
      line_left asked (is, turns, same, none) = subst (ServesUntil g cache input next old new before waits (Ok (stop.At asked f))) (sym same) (rest, flushed g so new waits none, mark_next E f rest next kept asked at is, turns)

    -- its reply is not written and flushed
    pub unflushed : OnlyNow g → (E : Type 0) (f : Bool) (kept : Bytes) (next last new : Option Bytes) (then waits : Bytes) (after : Cache L) → ReadsLine {E = E} rest next (Ok (read.Whole f)) kept → RepliesLine g here kept between last waiting then (Ok None) after → AppendsPrefix last new (then ++ []) → ServesLines g cache input old new before waits (Err Write) after
    unflushed only_now E f kept next last new then waits after at (one, is, wrote) stopped =
        lines_then g so new waits (Err Write) after (broken_one g only_now here after one rest next between new waiting waits (kept_next here E f rest next kept one after at is) is.goes is.batch (stands between last new waiting then (reply_to one ++ 10 ∷ []) wrote stopped))

    -- ---- a line that is too long

    module _ (only_now : OnlyNow g) (E : Type 0) (kept : Bytes) (next : Option Bytes) (at : ReadsLine {E = E} rest next (Ok read.TooLong) kept) (new : Option Bytes) (waits : Bytes) where
      pub long_done : Gathered between new waiting waits (codes "error line" ++ 10 ∷ []) → HasServed g cache input next old new before waits here
      long_done wrote = served_then g so next new waits here (served_one g only_now here here Nothing rest next between new waiting waits (long_next here E rest next kept at) refl refl wrote)

      pub long_stops : AppendsPrefix between new (waiting ++ (codes "error line" ++ 10 ∷ [])) → ServesLines g cache input old new before waits (Err Write) here
      long_stops wrote = lines_then g so new waits (Err Write) here (broken_one g only_now here here Nothing rest next between new waiting waits (long_next here E rest next kept at) refl refl wrote)

      pub long_unflushed : (last : Option Bytes) (then : Bytes) → Gathered between last waiting then (codes "error line" ++ 10 ∷ []) → AppendsPrefix last new (then ++ []) → ServesLines g cache input old new before waits (Err Write) here
      long_unflushed last then wrote stopped = long_stops (stands between last new waiting then (codes "error line" ++ 10 ∷ []) wrote stopped)
