-- A line that is replied to.
use Rattle.std.proofs.Common.{◌≡◌, ◌≢◌, ℕ, [], ◌∷◌, ◌++◌, Option, None, Some, Result, Ok, Err, codes, sym, ap, subst, refl}
use Rattle.sled_base.specs.Order.{Bytes}
use Rattle.sled_base.specs.declared.types.Error.{Error}
use Rattle.sled_log.specs.declared.log.Log.{Ghosts}
use Rattle.sled_pagecache.specs.Cache.{Cache}
use Rattle.sled_pagecache.specs.Rows.{IsMade}
use Rattle.sled_pagecache.specs.Trees.{IsTreeOpened}
use Rattle.sled_pagecache.specs.declared.pagecache.handles.call.Answer.TheVariants.{GotMeta}
use Rattle.sled_pagecache.specs.declared.pagecache.handles.call.Call.{Call}
use Rattle.sled_pagecache.specs.declared.pagecache.handles.call.Call.TheVariants.{GetMeta}
use Rattle.sled_lines.specs.Output.{Gathers}
use Rattle.sled_lines.specs.Words.{BeginsLine, HasNoSpace}
use Rattle.sled_script.specs.Asked.{AsksBehind}
use Rattle.sled_script.specs.Commands.{Command, ForCall, ForTree, ForMark, Encodes, EncodesOpen, IsCommand, MayAsk, MayMark, mark_word}
use Rattle.sled_script.specs.Replies.{reply_of_mark, reply_of_tree}
use Rattle.sled_script.specs.Runs.{Made, Marked, Nothing, Opened, call_of_mark, is_open_after}
use Rattle.sled_script.specs.Served.{RepliesBehind, RepliesLine, RepliesTo, answered}
use Rattle.sled_script.specs.declared.command.Mark.{Mark}
use Rattle.sled_script.specs.declared.command.Mark.TheVariants as mark
use Rattle.sled_script.proofs.Commands.{begins_once, encoded_behind, encodes_behind, key_of_name, open_behind}
use Rattle.sled_script.proofs.Marks.{mark_begins}

-- ---- a line that is no command

-- the line of a mark is a word that stands alone
pub mark_alone : (line name : Bytes) (text : Option Bytes) (asked : Mark) → BeginsLine line name text → line ≡ mark_word asked → (name ≡ mark_word asked) × (text ≡ None)
mark_alone line name text asked begins is = begins_once line name (mark_word asked) text None begins (subst (λ l. BeginsLine l (mark_word asked) None) (sym is) (mark_begins asked))

-- the name opens no tree, and is that of no mark
abbrev pub IsOfCall : Bytes → Type 0
IsOfCall name = (key_of_name name ≡ 6647919 → ⊥) × (key_of_name name ≡ 7235952 → ⊥) × (key_of_name name ≡ 6382963 → ⊥) × (key_of_name name ≡ 7233891 → ⊥)

no_mark_of_call : (line name : Bytes) (text : Option Bytes) (asked : Mark) → BeginsLine line name text → IsOfCall name → line ≢ mark_word asked
no_mark_of_call line name text mark.Pin begins other is = other.1 (ap key_of_name (mark_alone line name text mark.Pin begins is).0)
no_mark_of_call line name text mark.Seal begins other is = other.2 (ap key_of_name (mark_alone line name text mark.Seal begins is).0)
no_mark_of_call line name text mark.Cancel begins other is = other.3 (ap key_of_name (mark_alone line name text mark.Cancel begins is).0)

-- where no call is asked for behind its name, the line is no command
no_command : (line name : Bytes) (text : Option Bytes) → BeginsLine line name text → IsOfCall name → ((call : Call) → ¬ AsksBehind name text call) → (asked : Command) → ¬ IsCommand line asked
no_command line name text begins other none (ForCall call) encodes = none call (encoded_behind line name text call begins encodes)
no_command line name text begins other none (ForTree asked) encodes = other.0 (ap key_of_name (open_behind line name text asked begins encodes).0)
no_command line name text begins other none (ForMark asked) is = no_mark_of_call line name text asked begins other is

-- the same of a name with words behind it, and of a word that stands alone
pub no_command_of_words : (line name words : Bytes) → BeginsLine line name (Some words) → name ≢ codes "open" → ((call : Call) → ¬ AsksBehind name (Some words) call) → (asked : Command) → ¬ IsCommand line asked
no_command_of_words line name words begins other none (ForCall call) encodes = none call (encoded_behind line name (Some words) call begins encodes)
no_command_of_words line name words begins other none (ForTree asked) encodes = other (open_behind line name (Some words) asked begins encodes).0
no_command_of_words line name words begins other none (ForMark asked) is = let behind = (mark_alone line name (Some words) asked begins is).1 in absurd cc

pub no_command_of_word : (word : Bytes) → HasNoSpace word → word ≢ codes "pin" → word ≢ codes "seal" → word ≢ codes "cancel" → ((call : Call) → ¬ AsksBehind word None call) → (asked : Command) → ¬ IsCommand word asked
no_command_of_word word plain pin seal cancel none (ForCall call) encodes = none call (encoded_behind word word None call (plain, refl) encodes)
no_command_of_word word plain pin seal cancel none (ForTree asked) encodes = let behind = (open_behind word word None asked (plain, refl) encodes).1 in absurd cc
no_command_of_word word plain pin seal cancel none (ForMark mark.Pin) is = pin is
no_command_of_word word plain pin seal cancel none (ForMark mark.Seal) is = seal is
no_command_of_word word plain pin seal cancel none (ForMark mark.Cancel) is = cancel is

module _ {L : Type 0} (g : Ghosts L) (cache after : Cache L) (old new : Option Bytes) (before waits : Bytes) {E : Type 0} (result : Result Unit E) where
  -- ---- what was done for a line, and the reply to that

  pub made_line : (line : Bytes) (call : Call) → Encodes line call → RepliesTo g cache call old new before waits result after → RepliesLine g cache line old new before waits (answered result) after
  made_line line call encodes to = by result to
    where
      by : (result : Result Unit E) → RepliesTo g cache call old new before waits result after → RepliesLine g cache line old new before waits (answered result) after
      by (Ok done) to = (Made call to.answer, record { asks = encodes; goes = to.made; batch = to.batch }, to.written)
      by (Err e) to = (Made call to.answer, record { asks = encodes; goes = to.made; batch = to.batch }, to.written)

  pub refused_line : (line : Bytes) → after ≡ cache → ((asked : Command) → IsCommand line asked → ¬ MayAsk cache.batch asked) → Gathers old new before waits result (codes "error line" ++ 10 ∷ []) → RepliesLine g cache line old new before waits (answered result) after
  refused_line line same none wrote = by result wrote
    where
      by : (result : Result Unit E) → Gathers old new before waits result (codes "error line" ++ 10 ∷ []) → RepliesLine g cache line old new before waits (answered result) after
      by (Ok done) wrote = (Nothing, record { asks = none; goes = same; batch = ap (λ c. c.batch) same }, wrote)
      by (Err e) wrote = (Nothing, record { asks = none; goes = same; batch = ap (λ c. c.batch) same }, wrote)

  pub marked_line : (line : Bytes) (asked : Mark) (answer : Result Unit Error) → line ≡ mark_word asked → MayMark cache.batch asked → IsMade g cache (call_of_mark asked answer).0 (call_of_mark asked answer).1 after → after.batch ≡ is_open_after cache.batch (Marked asked answer)
      → Gathers old new before waits result (reply_of_mark answer ++ 10 ∷ []) → RepliesLine g cache line old new before waits (answered result) after
  marked_line line asked answer is may made batch wrote = by result wrote
    where
      by : (result : Result Unit E) → Gathers old new before waits result (reply_of_mark answer ++ 10 ∷ []) → RepliesLine g cache line old new before waits (answered result) after
      by (Ok done) wrote = (Marked asked answer, record { asks = (is, may); goes = made; batch = batch }, wrote)
      by (Err e) wrote = (Marked asked answer, record { asks = (is, may); goes = made; batch = batch }, wrote)

  pub opened_line : (line name : Bytes) (root : Result ℕ Error) → EncodesOpen line name → IsTreeOpened g cache name root after → after.batch ≡ cache.batch
      → Gathers old new before waits result (reply_of_tree root ++ 10 ∷ []) → RepliesLine g cache line old new before waits (answered result) after
  opened_line line name root encodes opened batch wrote = by result wrote
    where
      by : (result : Result Unit E) → Gathers old new before waits result (reply_of_tree root ++ 10 ∷ []) → RepliesLine g cache line old new before waits (answered result) after
      by (Ok done) wrote = (Opened ((GetMeta, GotMeta opened.look) ∷ opened.calls) root, record { asks = (name, encodes, (opened.look, opened.found, opened.calls, refl, opened.finds, opened.are)); goes = (opened.made, opened.row); batch = batch }, wrote)
      by (Err e) wrote = (Opened ((GetMeta, GotMeta opened.look) ∷ opened.calls) root, record { asks = (name, encodes, (opened.look, opened.found, opened.calls, refl, opened.finds, opened.are)); goes = (opened.made, opened.row); batch = batch }, wrote)

  -- ---- the same behind a name

  pub made_behind : (name : Bytes) (text : Option Bytes) (call : Call) → AsksBehind name text call → RepliesTo g cache call old new before waits result after → RepliesBehind g cache name text old new before waits (answered result) after
  made_behind name text call asks to = λ line short begins. made_line line call (encodes_behind line name text call short begins asks) to

  pub refused_behind : (name : Bytes) (text : Option Bytes) → after ≡ cache → IsOfCall name → ((call : Call) → ¬ AsksBehind name text call) → Gathers old new before waits result (codes "error line" ++ 10 ∷ []) → RepliesBehind g cache name text old new before waits (answered result) after
  refused_behind name text same other none wrote = λ line short begins. refused_line line same (λ asked is may. no_command line name text begins other none asked is) wrote
