-- What was served of an input, and more behind it.
use Rattle.std.proofs.Common.{Bool, true, false, ◌≡◌, inl, inr, List, [], ◌∷◌, ◌++◌, Option, None, Some, Result, Ok, Err, refl, sym, ap, subst, ◌∙◌, append_assoc, append-nil}
use Rattle.std.proofs.lemmas.Grind.{flat_map-append}
use Rattle.std.specs.Prelude.{ℕ, ⊤}
use Rattle.sled_base.specs.Order.{Bytes}
use Rattle.sled_base.specs.declared.types.Error.{Error}
use Rattle.sled_log.specs.declared.log.Log.{Ghosts}
use Rattle.sled_pagecache.specs.Cache.{Cache}
use Rattle.sled_pagecache.specs.Inside.SequenceLaws.{OnlyNow, made-then, row-none, row-one, row-then}
use Rattle.sled_pagecache.specs.Rows.{StepInRow, AreMade}
use Rattle.sled_pagecache.specs.Step.{RootSwap}
use Rattle.sled_pagecache.specs.State.{Token}
use Rattle.sled_pagecache.specs.Trees.{EndsSwap, GoesOnOver, GoesOnWith, IsKnown, OpensTree}
use Rattle.sled_pagecache.specs.declared.pagecache.handles.call.Answer.{Answer}
use Rattle.sled_pagecache.specs.declared.pagecache.handles.call.Call.{Call}
use Rattle.sled_lines.specs.Lines.{lines_of}
use Rattle.sled_lines.specs.Output.{AppendsPrefix, Gathered}
use Rattle.sled_lines.proofs.Gathered.{gathered_none, gathered_more, prefix_more}
use Rattle.sled_script.specs.Runs.{Served, Nothing, Made, Opened, Marked, AsksFor, AskFor, Answers, Ends, reply_to, text_of, calls_by, calls_of, is_open_after, is_open_behind}
use Rattle.sled_script.specs.Served.{AreGathered, Goes, HasServed, IsBehind, ServesAll, ServesBatch, ServesLines, ServesUntil}
use Rattle.sled_script.specs.declared.run.RunError.{RunError}
use Rattle.sled_script.specs.declared.run.RunError.TheVariants.{Read, Write, Memory}
use Rattle.sled_script.specs.declared.run.Stop.{Stop}
use Rattle.sled_script.specs.declared.run.Stop.TheVariants as stop

-- ---- lists of what was served

text_then : (served more : List Served) → text_of (served ++ more) ≡ text_of served ++ text_of more
text_then served more = flat_map-append (λ one. reply_to one ++ 10 ∷ []) served more

calls_then : (served more : List Served) → calls_of (served ++ more) ≡ calls_of served ++ calls_of more
calls_then served more = flat_map-append calls_by served more

open_then : (is_open : Bool) (served more : List Served) → is_open_behind is_open (served ++ more) ≡ is_open_behind (is_open_behind is_open served) more
open_then is_open [] more = refl
open_then is_open (one ∷ served) more = open_then (is_open_after is_open one) served more

-- ---- the calls of an opening

-- where no other root is found in a wider sense, none is in this
swap_map : (P Q : Type 0) (name : Bytes) (result : Result ℕ Error) (root : ℕ) (answer : RootSwap) → (P → Q) → EndsSwap P name result root answer → EndsSwap Q name result root answer
swap_map P Q name result root (Ok (Ok done)) f ends = ends
swap_map P Q name result root (Ok (Err another)) f ends = (f ends.0, ends.1)
swap_map P Q name result root (Err e) f ends = ends

over_map : (P Q : Type 0) (name : Bytes) (result : Result ℕ Error) (answer : Result (ℕ × Token) Error) (calls : List (Call × Answer)) → (P → Q) → GoesOnOver P name result answer calls → GoesOnOver Q name result answer calls
over_map P Q name result (Ok second) calls f (swap, are, ends) = (swap, are, swap_map P Q name result second.0 swap f ends)
over_map P Q name result (Err e) calls f ends = ends

with_map : (P Q : Type 0) (name : Bytes) (result : Result ℕ Error) (answer : Result (ℕ × Token) Error) (calls : List (Call × Answer)) → (P → Q) → GoesOnWith P name result answer calls → GoesOnWith Q name result answer calls
with_map P Q name result (Ok first) calls f (inl none) = inl none
with_map P Q name result (Ok first) calls f (inr (answer, others, are, goes)) = inr (answer, others, are, over_map P Q name result answer others f goes)
with_map P Q name result (Err e) calls f ends = ends

tree_map : (P Q : Type 0) (name : Bytes) (result : Result ℕ Error) (found : Result (Option ℕ) Error) (calls : List (Call × Answer)) → (P → Q) → OpensTree P name result found calls → OpensTree Q name result found calls
tree_map P Q name result (Ok (Some root)) calls f opens = opens
tree_map P Q name result (Ok None) calls f (answer, others, are, goes) = (answer, others, are, with_map P Q name result answer others f goes)
tree_map P Q name result (Err e) calls f opens = opens

asks_map : (P Q : Type 0) (is_open : Bool) (line : Bytes) (one : Served) → (P → Q) → AsksFor P is_open line one → AsksFor Q is_open line one
asks_map P Q is_open line Nothing f asks = asks
asks_map P Q is_open line (Made call answer) f asks = asks
asks_map P Q is_open line (Opened calls root) f (name, encodes, (look, found, others, are, finds, opens)) = (name, encodes, (look, found, others, are, finds, tree_map P Q name root found others f opens))
asks_map P Q is_open line (Marked mark result) f asks = asks

-- ---- lines that ask for more

module _ (P Q : Type 0) (f : Q → P) where
  ask_map : (is_open : Bool) (lines : List Bytes) (served : List Served) → AskFor Q is_open lines served → AskFor P is_open lines served
  ask_map is_open [] [] all = all
  ask_map is_open (line ∷ lines) (one ∷ served) all = (asks_map Q P is_open line one f all.0, ask_map (is_open_after is_open one) lines served all.1)
  ask_map is_open [] (one ∷ served) all = absurd all
  ask_map is_open (line ∷ lines) [] all = absurd all

  ask_then : (is_open : Bool) (lines others : List Bytes) (served more : List Served) → AskFor P is_open lines served → AskFor Q (is_open_behind is_open served) others more → AskFor P is_open (lines ++ others) (served ++ more)
  ask_then is_open [] others [] more all rest = ask_map is_open others more rest
  ask_then is_open (line ∷ lines) others (one ∷ served) more all rest = (all.0, ask_then (is_open_after is_open one) lines others served more all.1 rest)
  ask_then is_open [] others (one ∷ served) more all rest = absurd all
  ask_then is_open (line ∷ lines) others [] more all rest = absurd all

  behind_then : (is_open still : Bool) (input middle rest : Option Bytes) (served more : List Served) → still ≡ is_open_behind is_open served → IsBehind P is_open input middle served → IsBehind Q still middle rest more → IsBehind P is_open input rest (served ++ more)
  behind_then is_open still None middle rest served more same first second = tt
  behind_then is_open still (Some input) None rest served more same first second = absurd first
  behind_then is_open still (Some input) (Some middle) None served more same first second = absurd second
  behind_then is_open still (Some input) (Some middle) (Some rest) served more same (answered, lines, asked) (others, left, asked_then) =
      (answered ++ others, lines ∙ ap (λ (l : List Bytes). answered ++ l) left ∙ sym (append_assoc answered others (lines_of rest)), ask_then is_open answered others served more asked (subst (λ now. AskFor Q now others more) same asked_then))

  ends_then : (e : RunError) (answered others left : List Bytes) → Ends e others left → Ends e (answered ++ others) left
  ends_then Read answered others left why = tt
  ends_then Memory answered others left why = why
  ends_then Write [] others left why = why
  ends_then Write (line ∷ answered) others left why = λ none. absurd cc

  answers_then : (is_open still : Bool) (input middle : Option Bytes) (result : Result Unit RunError) (served more : List Served) → still ≡ is_open_behind is_open served → IsBehind P is_open input middle served → Answers Q still middle result more → Answers P is_open input result (served ++ more)
  answers_then is_open still None middle result served more same first second = tt
  answers_then is_open still (Some input) None result served more same first second = absurd first
  answers_then is_open still (Some input) (Some middle) (Ok done) served more same (answered, lines, asked) all =
      subst (λ (l : List Bytes). AskFor P is_open l (served ++ more)) (sym lines) (ask_then is_open answered (lines_of middle) served more asked (subst (λ now. AskFor Q now (lines_of middle) more) same all))
  answers_then is_open still (Some input) (Some middle) (Err e) served more same (answered, lines, asked) (others, left, split, asked_then, why) =
      (answered ++ others, left, lines ∙ ap (λ (l : List Bytes). answered ++ l) split ∙ sym (append_assoc answered others left), ask_then is_open answered others served more asked (subst (λ now. AskFor Q now others more) same asked_then), ends_then e answered others left why)

gathered_then : (result : Result Unit RunError) (old mid new : Option Bytes) (before between waits text more : Bytes) → Gathered old mid before between text → AreGathered result mid new between waits more → AreGathered result old new before waits (text ++ more)
gathered_then (Ok done) old mid new before between waits text more first second = gathered_more old mid new before between waits text more first second
gathered_then (Err Read) old mid new before between waits text more first second = gathered_more old mid new before between waits text more first second
gathered_then (Err Memory) old mid new before between waits text more first second = gathered_more old mid new before between waits text more first second
gathered_then (Err Write) old mid new before between waits text more first second = prefix_more old mid new before between text more first second

module _ {L : Type 0} (g : Ghosts L) where
  -- a cache that was in a state is in one behind steps in a row
  known_then : (old new : Cache L) (calls : List (Call × Answer)) → StepInRow g old calls new → ¬ IsKnown g new → ¬ IsKnown g old
  known_then old new calls row unknown (held, s, is) = let next = row.from_each held s is in unknown (next.held_then, next.t, next.is)

  pub none_yet : OnlyNow g → (cache : Cache L) (input old : Option Bytes) (before : Bytes) → HasServed g cache input input old old before before cache
  none_yet only_now cache input old before = record { served = []; behind = here input; made = refl; row = row-none g cache only_now; batch = refl; written = gathered_none old before }
    where
      here : (input : Option Bytes) → IsBehind (¬ IsKnown g cache) cache.batch input input []
      here None = tt
      here (Some input) = ([], refl, tt)

  -- ---- what was done for one line

  -- the next line, where the input is known, asks for this
  abbrev pub IsNextFor : Cache L → Option Bytes → Option Bytes → Served → Type 0
  IsNextFor cache None rest one = ⊤
  IsNextFor cache (Some input) None one = ⊥
  IsNextFor cache (Some input) (Some rest) one = (line : Bytes) × (lines_of input ≡ line ∷ lines_of rest) × AsksFor (¬ IsKnown g cache) cache.batch line one

  made_one : (cache after : Cache L) (one : Served) → Goes g cache one after → AreMade g cache (calls_of (one ∷ [])) after
  made_one cache after Nothing same = same
  made_one cache after (Made call answer) made = (after, made, refl)
  made_one cache after (Opened calls root) goes = subst (λ made. AreMade g cache made after) (sym (append-nil calls)) goes.0
  made_one cache after (Marked mark result) made = (after, made, refl)

  row_one : OnlyNow g → (cache after : Cache L) (one : Served) → Goes g cache one after → StepInRow g cache (calls_of (one ∷ [])) after
  row_one only_now cache after Nothing same = subst (StepInRow g cache []) (sym same) (row-none g cache only_now)
  row_one only_now cache after (Made call answer) made = row-one g cache after call answer made.step
  row_one only_now cache after (Opened calls root) goes = subst (λ made. StepInRow g cache made after) (sym (append-nil calls)) goes.1
  row_one only_now cache after (Marked mark result) made = row-one g cache after _ _ made.step

  module _ (only_now : OnlyNow g) (cache after : Cache L) (one : Served) (input rest old new : Option Bytes) (before waits : Bytes) (at : IsNextFor cache input rest one) (goes : Goes g cache one after) (batch : after.batch ≡ is_open_after cache.batch one) where
    pub served_one : Gathered old new before waits (reply_to one ++ 10 ∷ []) → HasServed g cache input rest old new before waits after
    served_one wrote = record {
      served = one ∷ [];
      behind = behind input rest at;
      made = made_one cache after one goes;
      row = row_one only_now cache after one goes;
      batch = batch;
      written = subst (Gathered old new before waits) (sym (append-nil (reply_to one ++ 10 ∷ []))) wrote;
    }
      where
        behind : (input rest : Option Bytes) → IsNextFor cache input rest one → IsBehind (¬ IsKnown g cache) cache.batch input rest (one ∷ [])
        behind None rest at = tt
        behind (Some input) None at = absurd at
        behind (Some input) (Some rest) (line, first, asks) = (line ∷ [], first, (asks, tt))

    -- a beginning of its reply is written
    pub broken_one : AppendsPrefix old new (before ++ (reply_to one ++ 10 ∷ [])) → ServesLines g cache input old new before waits (Err Write) after
    broken_one wrote = record {
      served = one ∷ [];
      answers = answers input rest at;
      made = made_one cache after one goes;
      row = row_one only_now cache after one goes;
      batch = batch;
      written = subst (λ text. AppendsPrefix old new (before ++ text)) (sym (append-nil (reply_to one ++ 10 ∷ []))) wrote;
    }
      where
        answers : (input rest : Option Bytes) → IsNextFor cache input rest one → Answers (¬ IsKnown g cache) cache.batch input (Err Write) (one ∷ [])
        answers None rest at = tt
        answers (Some input) None at = absurd at
        answers (Some input) (Some rest) (line, first, asks) = (line ∷ [], lines_of rest, first, (asks, tt), λ none. absurd cc)

  -- ---- more behind what was served

  module _ {cache here : Cache L} {input middle old mid : Option Bytes} {before between : Bytes} (so : HasServed g cache input middle old mid before between here) where
    pub served_then : (rest new : Option Bytes) (waits : Bytes) (after : Cache L) → HasServed g here middle rest mid new between waits after → HasServed g cache input rest old new before waits after
    served_then rest new waits after more = record {
      served = so.served ++ more.served;
      behind = behind_then (¬ IsKnown g cache) (¬ IsKnown g here) (known_then cache here (calls_of so.served) so.row) cache.batch here.batch input middle rest so.served more.served so.batch so.behind more.behind;
      made = subst (λ calls. AreMade g cache calls after) (sym (calls_then so.served more.served)) (made-then g cache here after (calls_of so.served) (calls_of more.served) so.made more.made);
      row = subst (λ calls. StepInRow g cache calls after) (sym (calls_then so.served more.served)) (row-then g cache here after (calls_of so.served) (calls_of more.served) so.row more.row);
      batch = more.batch ∙ ap (λ now. is_open_behind now more.served) so.batch ∙ sym (open_then cache.batch so.served more.served);
      written = subst (Gathered old new before waits) (sym (text_then so.served more.served)) (gathered_more old mid new before between waits (text_of so.served) (text_of more.served) so.written more.written);
    }

    pub lines_then : (new : Option Bytes) (waits : Bytes) (result : Result Unit RunError) (after : Cache L) → ServesLines g here middle mid new between waits result after → ServesLines g cache input old new before waits result after
    lines_then new waits result after more = record {
      served = so.served ++ more.served;
      answers = answers_then (¬ IsKnown g cache) (¬ IsKnown g here) (known_then cache here (calls_of so.served) so.row) cache.batch here.batch input middle result so.served more.served so.batch so.behind more.answers;
      made = subst (λ calls. AreMade g cache calls after) (sym (calls_then so.served more.served)) (made-then g cache here after (calls_of so.served) (calls_of more.served) so.made more.made);
      row = subst (λ calls. StepInRow g cache calls after) (sym (calls_then so.served more.served)) (row-then g cache here after (calls_of so.served) (calls_of more.served) so.row more.row);
      batch = more.batch ∙ ap (λ now. is_open_behind now more.served) so.batch ∙ sym (open_then cache.batch so.served more.served);
      written = subst (AreGathered result old new before waits) (sym (text_then so.served more.served)) (gathered_then result old mid new before between waits (text_of so.served) (text_of more.served) so.written more.written);
    }

    pub until_then : (rest new : Option Bytes) (waits : Bytes) (result : Result Stop RunError) (after : Cache L) → ServesUntil g here middle rest mid new between waits result after → ServesUntil g cache input rest old new before waits result after
    until_then rest new waits (Ok stop.End) after more = lines_then new waits (Ok tt) after more
    until_then rest new waits (Ok (stop.At mark is_followed)) after (front, more, at, turns) = (front, served_then front new waits after more, at, turns)
    until_then rest new waits (Err e) after more = lines_then new waits (Err e) after more

    pub all_then : (new : Option Bytes) (waits : Bytes) (result : Result Unit RunError) (after : Cache L) → ServesAll g here middle mid new between waits result after → ServesAll g cache input old new before waits result after
    all_then new waits result after more = record { left = more.left; lines = lines_then new waits result more.left more.lines; closed = more.closed }

    pub batch_then : (rest new : Option Bytes) (waits : Bytes) (result : Result Bool RunError) (after : Cache L) → ServesBatch g here middle rest mid new between waits result after → ServesBatch g cache input rest old new before waits result after
    batch_then rest new waits (Ok true) after more = (served_then rest new waits after more.0, more.1)
    batch_then rest new waits (Ok false) after more = all_then new waits (Ok tt) after more
    batch_then rest new waits (Err e) after more = all_then new waits (Err e) after more

    -- what waits may be written
    pub flushed : (new : Option Bytes) (waits : Bytes) → Gathered mid new between waits [] → HasServed g cache input middle old new before waits here
    flushed new waits wrote = record {
      served = so.served;
      behind = so.behind;
      made = so.made;
      row = so.row;
      batch = so.batch;
      written = subst (Gathered old new before waits) (append-nil (text_of so.served)) (gathered_more old mid new before between waits (text_of so.served) [] so.written wrote);
    }

    -- the input is not read any more
    pub gives_up : ServesLines g cache input old mid before between (Err Read) here
    gives_up = record { served = so.served; answers = ends input middle so.behind; made = so.made; row = so.row; batch = so.batch; written = so.written }
      where
        ends : (input middle : Option Bytes) → IsBehind (¬ IsKnown g cache) cache.batch input middle so.served → Answers (¬ IsKnown g cache) cache.batch input (Err Read) so.served
        ends None middle behind = tt
        ends (Some input) None behind = absurd behind
        ends (Some input) (Some middle) (answered, lines, asked) = (answered, lines_of middle, lines, asked, tt)
