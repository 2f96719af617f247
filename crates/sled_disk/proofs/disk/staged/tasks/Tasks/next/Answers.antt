use Rattle.std.proofs.Common.{rules, ◌≡◌, ◌+◌, ◌++◌, ℕ, ◌∷◌, length, take, drop, false, List, refl, ◌∙◌, ap₂, arith, inr}
use Rattle.std.proofs.lemmas.List.{length-take, take_at}
use Rattle.sled_disk.proofs.StagedDisks.StagedTasks.{part-handed_out, same-whole, whole-part, between-later, between-part}
use Rattle.sled_disk.proofs.StagedDisks.TaskReports.{Fits, first-fits, told-same}
use Rattle.sled_disk.specs.CallersFile.{held_after}
use Rattle.sled_disk.specs.Tasks.{IsPart, sync_if, tasks_in, writes_in}
use Rattle.sled_disk.proofs.disk.staged.tasks.Tasks.next.Goals.{After-copy_from_slice, After-push_front_reserved-then-len-first}
use Rattle.sled_disk.proofs.disk.staged.tasks.Tasks.next.Goals as goal

pub invariant_of-self-then-first-clause-around : goal.invariant_of-self-then-first-clause-around
invariant_of-self-then-first-clause-around g c =
    let self = c.args.self.now in
    let was : self.writes.items ≡ c.in-Some.first ∷ c.pop_front.new.self.items = search rules in
    between-part self.from self.to self.writes.items c.push_front_reserved.new.self.items c.in-Some.first _ _ was c.push_front_reserved.ensures.items (omega arith) (omega arith) self.around

pub invariant_of-self-then-first-clause-whole : goal.invariant_of-self-then-first-clause-whole
invariant_of-self-then-first-clause-whole g c =
    let self = c.args.self.now in
    let was : self.writes.items ≡ c.in-Some.first ∷ c.pop_front.new.self.items = search rules in
    same-whole self.writes.items c.push_front_reserved.new.self.items c.in-Some.first _ _ self.handed_out _ was c.push_front_reserved.ensures.items refl self.whole

-- the bytes that are handed out
bytes : (g : _) (c : After-copy_from_slice g) → (let len = c.min-len.result in take len (c.copy_from_slice.new.self ++ drop len c.args.into.now) ≡ take len (drop c.args.self.now.handed_out c.args.self.now.bytes.items))
bytes g c =
    let self = c.args.self.now in
    let len = c.min-len.result in
    take_at c.copy_from_slice.new.self (drop len c.args.into.now) len (search rules) ∙ c.copy_from_slice.ensures.after ∙ ap₂ (λ n (l : List ℕ). take n (drop self.handed_out l)) (omega arith) c.deref.ensures.value

-- they fit where they are to be written
fits : (g : _) (c : After-copy_from_slice g) → g.F.CallersFile.tells
    → (let len = c.min-len.result in Fits (held_after (g.F.CallersFile.first c.args.file.now) (g.F.CallersFile.done c.args.file.now)) c.in-Some.first (take len (c.copy_from_slice.new.self ++ drop len c.args.into.now)))
fits g c told =
    let self = c.args.self.now in
    let was : self.writes.items ≡ c.in-Some.first ∷ drop 1 self.writes.items = search rules in
    first-fits _ self.writes.items c.in-Some.first _ self.bytes.items self.handed_out c.min-len.result self.sync_last _ was (search rules) (search rules) (search rules) (bytes g c) (c.requires.within told)

pub tell-requires : goal.tell-requires
tell-requires g c = record { there = λ told. (fits g (goal.at.tell-requires g c).After-copy_from_slice told).there }

-- they are a part of the first write
part : (g : _) (c : After-push_front_reserved-then-len-first g)
    → (let self = c.args.self.now in let len = c.min-len.result in let buffer = c.copy_from_slice.new.self ++ drop len c.args.into.now in take len buffer ≡ take len (drop self.handed_out self.bytes.items)
    → IsPart c.in-Some.first.again c.in-Some.first.at len buffer (tasks_in self) (writes_in c.push_front_reserved-then-len-first.new.self.items (drop (self.handed_out + len) self.bytes.items) ++ sync_if self.sync_last))
part g c same =
    let self = c.args.self.now in
    let len = c.min-len.result in
    let buffer = c.copy_from_slice.new.self ++ drop len c.args.into.now in
    let first = c.in-Some.first in
    let was : self.writes.items ≡ first ∷ c.pop_front-2.new.self.items = search rules in
    let unsynced : first.sync_before ≡ false = search rules in
    let full : len ≡ length buffer = search rules in
    part-handed_out self.writes.items c.push_front_reserved-then-len-first.new.self.items _ _ _ self.bytes.items buffer self.handed_out len self.sync_last was
    c.push_front_reserved-then-len-first.ensures.items unsynced unsynced refl refl refl (search rules) c.if-len-first.true same full

pub returns-then-len-first-clause-next : goal.returns-then-len-first-clause-next
returns-then-len-first-clause-next g c =
    let at = goal.at.returns-then-len-first-clause-next g c in
    record {
      fits = search rules;
      again = c.in-Some.first.again;
      out = inr (part g at.After-push_front_reserved-then-len-first (bytes g at.After-copy_from_slice));
    }

pub returns-then-len-first-clause-told : goal.returns-then-len-first-clause-told
returns-then-len-first-clause-told g c = λ told.
    let at = goal.at.returns-then-len-first-clause-told g c in
    let len = c.min-len.result in
    told-same (g.F.CallersFile.done c.args.file.now) (g.F.CallersFile.done c.tell.new.file) (c.copy_from_slice.new.self ++ drop len c.args.into.now) c.in-Some.first.at len c.in-Some.first.again _ _ (search rules)
    (inr (part g at.After-push_front_reserved-then-len-first (bytes g at.After-copy_from_slice))) (c.if-not-tell.ensures.told told refl)

pub invariant_of-self-then-len-first-clause-around : goal.invariant_of-self-then-len-first-clause-around
invariant_of-self-then-len-first-clause-around g c =
    let self = c.args.self.now in
    let was : self.writes.items ≡ c.in-Some.first ∷ c.pop_front-2.new.self.items = search rules in
    between-part self.from self.to self.writes.items c.push_front_reserved-then-len-first.new.self.items c.in-Some.first _ _ was c.push_front_reserved-then-len-first.ensures.items
    (omega arith) (omega (arith, c.if-len-first.true)) self.around

pub invariant_of-self-then-len-first-clause-whole : goal.invariant_of-self-then-len-first-clause-whole
invariant_of-self-then-len-first-clause-whole g c =
    let self = c.args.self.now in
    let was : self.writes.items ≡ c.in-Some.first ∷ c.pop_front-2.new.self.items = search rules in
    whole-part self.writes.items c.push_front_reserved-then-len-first.new.self.items c.in-Some.first _ _ self.handed_out c.min-len.result _ was
    c.push_front_reserved-then-len-first.ensures.items refl c.if-len-first.true self.whole

pub invariant_of-self-else-is_empty-clause-around : goal.invariant_of-self-else-is_empty-clause-around
invariant_of-self-else-is_empty-clause-around g c =
    let self = c.args.self.now in
    let was : self.writes.items ≡ c.in-Some.first ∷ c.pop_front-2.new.self.items = search rules in
    between-later self.from self.to self.writes.items c.in-Some.first c.pop_front-2.new.self.items was self.around

pub returns-then-len-first-clause-adds : goal.returns-then-len-first-clause-adds
returns-then-len-first-clause-adds g c = λ told.
    let fits = fits g (goal.at.returns-then-len-first-clause-adds g c).After-copy_from_slice told in
    let buffer = c.copy_from_slice.new.self ++ drop c.min-len.result c.args.into.now in
    record { again = c.in-Some.first.again; done = c.if-not-tell.ensures.told told refl; begins = fits.begins; there = fits.there; alone = λ is. omega (arith, c.in-Some.first.alone is, length-take c.min-len.result buffer) }

pub returns-then-is_empty-clause-adds : goal.returns-then-is_empty-clause-adds
returns-then-is_empty-clause-adds g c = λ told.
    let fits = fits g (goal.at.returns-then-is_empty-clause-adds g c).After-copy_from_slice told in
    let buffer = c.copy_from_slice.new.self ++ drop c.min-len.result c.args.into.now in
    record { again = c.in-Some.first.again; done = c.if-not-tell.ensures.told told refl; begins = fits.begins; there = fits.there; alone = λ is. omega (arith, c.in-Some.first.alone is, length-take c.min-len.result buffer) }

pub returns-else-is_empty-clause-adds : goal.returns-else-is_empty-clause-adds
returns-else-is_empty-clause-adds g c = λ told.
    let fits = fits g (goal.at.returns-else-is_empty-clause-adds g c).After-copy_from_slice told in
    let buffer = c.copy_from_slice.new.self ++ drop c.min-len.result c.args.into.now in
    record { again = c.in-Some.first.again; done = c.if-not-tell.ensures.told told refl; begins = fits.begins; there = fits.there; alone = λ is. omega (arith, c.in-Some.first.alone is, length-take c.min-len.result buffer) }
