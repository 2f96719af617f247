use Rattle.std.proofs.Common.{◌∷◌, ◌∙◌, ℕ, List, length, drop, refl, ap, sym, subst}
use Rattle.std.specs.List.{AllByRecursion}
use Rattle.std.proofs.lemmas.Bool.{ltb-true}
use Rattle.sled_log.specs.declared.log.LogError.TheVariants.{Corruption}
use Rattle.sled_disk.specs.declared.recovery.head.Head.{Head}
use Rattle.sled_disk.specs.RecoveredHeads.{AreHeadsBy}
use Rattle.sled_disk.specs.Reading.{chains_of, step_head}
use Rattle.sled_disk.specs.BatchChanges.{taken_by, IsWaiting, IsChanging}
use Rattle.sled_disk.proofs.Readers.ReaderSteps.{handed-on, unmade}
use Rattle.sled_disk.proofs.Readers.BatchChanges.{taken-on, taken-none, front-is, heads-on}
use Rattle.sled_disk.proofs.reader.waiting.take_all.Goals as goal

pub returns-in_err-take_head-clause-heads : goal.returns-in_err-take_head-clause-heads
returns-in_err-take_head-clause-heads c = λ end all heads.
    subst (λ (l : List (List Head)). AllByRecursion (AreHeadsBy end) l) (sym c.in_err-take_head.ensures.kept) (c.loop-page.invariant.heads end all heads)

pub returns-in_err-take_head-clause-corrupt : goal.returns-in_err-take_head-clause-corrupt
returns-in_err-take_head-clause-corrupt c = λ is.
    let changes = c.loop-page.changes.items in
    let chains = chains_of c.loop-page.pages.items in
    let page = c.in-Some.field-0.now.0 in
    let head = c.in-Some.field-0.now.1 in
    let front = front-is changes c.in-Some.field-0.now page head (ltb-true 0 (length changes) (sym c.in-Some.ensures.item.0)) c.in-Some.ensures.lookup refl refl in
    let changing : IsChanging (page, head) = (subst (AllByRecursion IsChanging) front c.loop-page.invariant.changing).0 in
    let corrupt = handed-on c.take_head.result c.from_residual.result c.in_err-take_head.field-0.0 Corruption c.in_err-take_head.was c.from_residual.ensures.1 is in
    let none = unmade c.take_head.result (chains_of c.take_head.new.pages.items) (step_head chains page head) c.take_head.ensures.made corrupt in
    sym c.loop-page.invariant.left ∙ ap (taken_by chains) front ∙ taken-none chains page head (drop 1 changes) changing none

pub loop-page-preserved : goal.loop-page-preserved
loop-page-preserved c =
    let changes = c.loop-page.changes.items in
    let chains = chains_of c.loop-page.pages.items in
    let after = chains_of c.take_head.new.pages.items in
    let page = c.in-Some.field-0.now.0 in
    let head = c.in-Some.field-0.now.1 in
    let front = front-is changes c.in-Some.field-0.now page head (ltb-true 0 (length changes) (sym c.in-Some.ensures.item.0)) c.in-Some.ensures.lookup refl refl in
    let all : AllByRecursion IsChanging ((page, head) ∷ drop 1 changes) = subst (AllByRecursion IsChanging) front c.loop-page.invariant.changing in
    let rest = c.pop_front.ensures.rest in
    let waits = λ (end : ℕ) (w : AllByRecursion (IsWaiting end) c.args.changes.now.items). subst (AllByRecursion (IsWaiting end)) front (c.loop-page.invariant.waiting end w) in
    record {
      changing = subst (AllByRecursion IsChanging) (sym rest) all.1;
      left = ap (taken_by after) rest ∙ taken-on chains after page head (drop 1 changes) all.0 c.in_ok-take_head.ensures.made ∙ ap (taken_by chains) (sym front) ∙ c.loop-page.invariant.left;
      waiting = λ end w. subst (AllByRecursion (IsWaiting end)) (sym rest) (waits end w).1;
      heads = λ end w h. heads-on end chains after page head (drop 1 changes) (waits end w) c.in_ok-take_head.ensures.made (c.loop-page.invariant.heads end w h);
    }
