-- The lines of marks.
use Rattle.std.proofs.Common.{◌≡◌, ◌≢◌, ℕ, None, ◌∷◌, ap, arith, codes, get_or, rules, refl, false}
use Rattle.sled_base.specs.Order.{Bytes}
use Rattle.sled_node.specs.declared.node.link.Link.TheVariants.{ChildMergeCap}
use Rattle.sled_pagecache.specs.declared.pagecache.handles.call.Call.{Call}
use Rattle.sled_pagecache.specs.declared.pagecache.handles.call.Call.TheVariants.{Link}
use Rattle.sled_lines.specs.Words.{BeginsLine}
use Rattle.sled_script.specs.Asked.{AsksBehind}
use Rattle.sled_script.specs.Commands.{Command, ForCall, ForTree, ForMark, IsCommand, MayAsk, MayMark, mark_word}
use Rattle.sled_script.specs.declared.command.Mark.{Mark}
use Rattle.sled_script.specs.declared.command.Mark.TheVariants as mark
use Rattle.sled_script.proofs.Commands.{asks_by_key, encoded_behind, key_of, open_behind}

-- No call and no tree is asked for by the line of a mark
pub mark_begins : (asked : Mark) → BeginsLine (mark_word asked) (mark_word asked) None
mark_begins mark.Pin = (search rules, refl)
mark_begins mark.Seal = (search rules, refl)
mark_begins mark.Cancel = (search rules, refl)

pin_asks_none : (call : Call) → ¬ AsksBehind (codes "pin") None call
pin_asks_none (Link old ChildMergeCap) asked = absurd (asked.1)
pin_asks_none call asked = let e : ◌≡◌ {A = ℕ} 7235952 (key_of call) = asks_by_key (codes "pin" ∷ asked.0) call (asked.1) in absurd (omega (arith, e))

seal_asks_none : (call : Call) → ¬ AsksBehind (codes "seal") None call
seal_asks_none (Link old ChildMergeCap) asked = absurd (asked.1)
seal_asks_none call asked = let e : ◌≡◌ {A = ℕ} 6382963 (key_of call) = asks_by_key (codes "seal" ∷ asked.0) call (asked.1) in absurd (omega (arith, e))

cancel_asks_none : (call : Call) → ¬ AsksBehind (codes "cancel") None call
cancel_asks_none (Link old ChildMergeCap) asked = absurd (asked.1)
cancel_asks_none call asked = let e : ◌≡◌ {A = ℕ} 7233891 (key_of call) = asks_by_key (codes "cancel" ∷ asked.0) call (asked.1) in absurd (omega (arith, e))

mark_asks_none : (asked : Mark) (call : Call) → ¬ AsksBehind (mark_word asked) None call
mark_asks_none mark.Pin call = pin_asks_none call
mark_asks_none mark.Seal call = seal_asks_none call
mark_asks_none mark.Cancel call = cancel_asks_none call

mark_opens_none : (asked : Mark) → mark_word asked ≢ codes "open"
mark_opens_none mark.Pin e = absurd cc
mark_opens_none mark.Seal e = let first : ◌≡◌ {A = ℕ} 115 111 = ap (λ (w : Bytes). get_or w 0 0) e in absurd (omega (arith, first))
mark_opens_none mark.Cancel e = absurd cc

-- nor another mark
same_mark : (asked other : Mark) → mark_word asked ≡ mark_word other → MayMark false other → MayMark false asked
same_mark mark.Pin other e may = tt
same_mark mark.Seal mark.Pin e may = absurd cc
same_mark mark.Seal mark.Seal e may = may
same_mark mark.Seal mark.Cancel e may = may
same_mark mark.Cancel mark.Pin e may = absurd cc
same_mark mark.Cancel mark.Seal e may = may
same_mark mark.Cancel mark.Cancel e may = may

-- so where no batch is open, nothing may be asked for by a line that would close one
pub closes_none : (asked : Mark) → ¬ MayMark false asked → (other : Command) → IsCommand (mark_word asked) other → ¬ MayAsk false other
closes_none asked not (ForCall call) encodes may = mark_asks_none asked call (encoded_behind (mark_word asked) (mark_word asked) None call (mark_begins asked) encodes)
closes_none asked not (ForTree name) encodes may = mark_opens_none asked (open_behind (mark_word asked) (mark_word asked) None name (mark_begins asked) encodes).0
closes_none asked not (ForMark other) encodes may = not (same_mark asked other encodes may)
