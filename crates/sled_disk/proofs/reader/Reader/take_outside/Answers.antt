use Rattle.std.proofs.Common.{◌≡◌, ◌+◌, ◌∙◌, refl, ap, sym, arith}
use Rattle.std.specs.Prelude.{Some, None}
use Rattle.sled_log.specs.declared.log.LogError.TheVariants.{Corruption}
use Rattle.sled_disk.specs.declared.recovery.head.Head.{Head}
use Rattle.sled_disk.specs.Format.{outside, within}
use Rattle.sled_disk.specs.Reading.{chains_of, step_head}
use Rattle.sled_disk.proofs.Readers.ReaderSteps.{IsNext, goes-refused, goes-taken, goes-misnamed, goes-named, handed-on, unmade, read-closed}
use Rattle.sled_disk.proofs.Chains.ChainHeads.{heads-later, heads-taken}
use Rattle.sled_disk.proofs.Readers.RecordEffects.{head_of, begin-made, begin-refused, plain-made}
use Rattle.sled_disk.proofs.Readers.BatchChanges.{waiting-later}
use Rattle.sled_disk.proofs.reader.Reader.take_outside.Goals.{Start, After-take_head}
use Rattle.sled_disk.proofs.reader.Reader.take_outside.Goals as goal

-- the record that is taken
next : (g : _) (c : Start g) → g.D.Disk.tells → (let self = c.args.self.now in IsNext (g.D.Disk.seen c.args.disk.now) self c.args.raw c.args.len (outside (chains_of self.pages.items)))
next g c told =
    let self = c.args.self.now in
    let is = read-closed (chains_of self.pages.items) self.begun self.changes.items c.requires.closed in
    record { on = c.requires.next.on told; head = c.requires.next.head told; has = c.requires.next.has; ahead = c.requires.next.ahead; read = is }

pub returns-then-not-is_begin-clause-corrupt : goal.returns-then-not-is_begin-clause-corrupt
returns-then-not-is_begin-clause-corrupt g c = λ told is.
    goes-refused (next g (goal.at.returns-then-not-is_begin-clause-corrupt g c).Start told)
    (begin-refused (sym c.begins.ensures ∙ c.if-begins.true) (λ payload long. sym (c.is_begin.ensures.is payload long) ∙ c.if-not-is_begin.true))

pub invariant_of-self : goal.invariant_of-self
invariant_of-self g c =
    let self = c.args.self.now in
    let has = c.requires.next.has in
    let none = c.is_begin.ensures.len c.if-not-is_begin.false in
    record {
      none = λ e. absurd cc;
      waiting = waiting-later self.at (self.at + 17) self.changes.items (omega arith) self.waiting;
      within = omega (arith, has, none);
      inside = self.inside;
      heads = heads-later self.at (self.at + 17) (chains_of self.pages.items) (omega arith) self.heads;
    }

pub returns-then-begins-clause-goes_on : goal.returns-then-begins-clause-goes_on
returns-then-begins-clause-goes_on g c = λ told.
    let self = c.args.self.now in
    let none = c.is_begin.ensures.len c.if-not-is_begin.false in
    goes-taken (next g (goal.at.returns-then-begins-clause-goes_on g c).Start told)
    (begin-made (sym c.begins.ensures ∙ c.if-begins.true) (λ payload long. sym (c.is_begin.ensures.is payload long) ∙ c.if-not-is_begin.false))
    (record { end = refl; shows = (c.requires.next.on told).shows; at = omega (arith, none); body_end = refl; targets = refl })
    (ap (within (chains_of self.pages.items) self.at) (self.none c.requires.closed))

pub returns-in_err-name-clause-corrupt : goal.returns-in_err-name-clause-corrupt
returns-in_err-name-clause-corrupt g c = λ told is.
    goes-misnamed (next g (goal.at.returns-in_err-name-clause-corrupt g c).Start told) c.if-is_mark.ensures.is (c.is_mark.ensures.len c.if-is_mark.true)
    c.in_ok-target.target (c.in_ok-target.ensures.number told)
    (c.name.ensures.before (handed-on c.name.result c.from_residual-in_err-name.result c.in_err-name.field-0.0 Corruption c.in_err-name.was c.from_residual-in_err-name.ensures.1 is))

pub invariant_of-self-then-is_mark : goal.invariant_of-self-then-is_mark
invariant_of-self-then-is_mark g c =
    let self = c.args.self.now in
    let has = c.requires.next.has in
    let eight = c.is_mark.ensures.len c.if-is_mark.true in
    record {
      none = self.none;
      waiting = waiting-later self.at (self.at + 25) self.changes.items (omega arith) self.waiting;
      within = omega (arith, has, eight);
      inside = self.inside;
      heads = heads-later self.at (self.at + 25) (chains_of self.pages.items) (omega arith) self.heads;
    }

pub returns-then-is_mark-clause-goes_on : goal.returns-then-is_mark-clause-goes_on
returns-then-is_mark-clause-goes_on g c = λ told.
    let self = c.args.self.now in
    goes-named (next g (goal.at.returns-then-is_mark-clause-goes_on g c).Start told) c.if-is_mark.ensures.is (c.is_mark.ensures.len c.if-is_mark.true)
    c.in_ok-target.target (c.in_ok-target.ensures.number told)
    c.name.new.targets c.in_ok-name.ensures.named (record { end = refl; shows = c.in_ok-target.ensures.shows told; at = refl; body_end = refl; targets = refl })
    (read-closed (chains_of self.pages.items) self.begun self.changes.items c.requires.closed)

-- what its head makes of the pages
heads : (g : _) (c : After-take_head g)
    → step_head (chains_of c.args.self.now.pages.items) c.args.raw.page (head_of c.args.raw c.args.self.now.at c.args.len) ≡ step_head (chains_of c.args.self.now.pages.items) c.args.raw.page c.head-head.result
heads g c = ap (λ (h : Head). step_head (chains_of c.args.self.now.pages.items) c.args.raw.page h) (sym c.head-head.ensures)

pub returns-in_err-take_head-clause-corrupt : goal.returns-in_err-take_head-clause-corrupt
returns-in_err-take_head-clause-corrupt g c = λ told is.
    let at = goal.at.returns-in_err-take_head-clause-corrupt g c in
    let corrupt = handed-on c.take_head.result c.from_residual-in_err-take_head.result c.in_err-take_head.field-0.0 Corruption c.in_err-take_head.was c.from_residual-in_err-take_head.ensures.1 is in
    let none = unmade c.take_head.result (chains_of c.take_head.new.pages.items) _ c.take_head.ensures.made corrupt in
    goes-refused (next g at.Start told) (plain-made None (sym c.begins.ensures ∙ c.if-begins.false)
    (λ payload long. sym (c.is_mark.ensures.is payload long) ∙ c.if-is_mark.false) (heads g at.After-take_head ∙ none))

pub invariant_of-self-2 : goal.invariant_of-self-2
invariant_of-self-2 g c =
    let self = c.args.self.now in
    let len = c.args.len in
    let end = self.at + (17 + len) in
    let chains = chains_of self.pages.items in
    let has = c.requires.next.has in
    record {
      none = self.none;
      waiting = waiting-later self.at end self.changes.items (omega arith) self.waiting;
      within = has;
      inside = self.inside;
      heads = heads-taken end chains (chains_of c.take_head.new.pages.items) c.args.raw.page (head_of c.args.raw self.at len)
          (heads g (goal.at.invariant_of-self-2 g c).After-take_head ∙ c.in_ok-take_head.ensures.made) (omega arith) (heads-later self.at end chains (omega arith) self.heads);
    }

pub returns-clause-goes_on : goal.returns-clause-goes_on
returns-clause-goes_on g c = λ told.
    let at = goal.at.returns-clause-goes_on g c in
    let self = c.args.self.now in
    let after = chains_of c.take_head.new.pages.items in
    goes-taken (next g at.Start told)
    (plain-made (Some after) (sym c.begins.ensures ∙ c.if-begins.false)
    (λ payload long. sym (c.is_mark.ensures.is payload long) ∙ c.if-is_mark.false) (heads g at.After-take_head ∙ c.in_ok-take_head.ensures.made))
    (record { end = refl; shows = (c.requires.next.on told).shows; at = refl; body_end = refl; targets = refl }) (read-closed after self.begun self.changes.items c.requires.closed)
