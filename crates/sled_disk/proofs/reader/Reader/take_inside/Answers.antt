use Rattle.std.proofs.Common.{◌≡◌, ◌+◌, ◌∙◌, ℕ, [], ◌∷◌, ◌++◌, refl, ap, sym, subst, arith}
use Rattle.std.specs.Prelude.{Some, None}
use Rattle.std.specs.List.{AllByRecursion}
use Rattle.sled_disk.specs.declared.recovery.head.Head.{Head}
use Rattle.sled_disk.specs.Format.{outside, within, is_changing}
use Rattle.sled_base.specs.Kinds.{log_kind_of}
use Rattle.std.specs.Global.{Vec}
use Rattle.sled_disk.specs.Reading.{chains_of}
use Rattle.sled_disk.specs.BatchChanges.{IsWaiting}
use Rattle.sled_disk.proofs.Readers.ReaderSteps.{IsNext, IsShown, goes-refused, goes-taken, goes-alike, read-closed, read-opened, either_way, at_ok, at_err}
use Rattle.sled_disk.proofs.Chains.ChainHeads.{heads-later}
use Rattle.sled_disk.proofs.Readers.RecordEffects.{Closing, head_of, closing-unnamed, closing-other, closing-dropped, closing-counted, change-refused, change-waits}
use Rattle.sled_disk.proofs.Readers.BatchChanges.{waiting-later, waiting-more}
use Rattle.sled_disk.proofs.reader.Reader.take_inside.Goals.{Start, In_ok-place, After-is_change}
use Rattle.sled_disk.proofs.reader.Reader.take_inside.Goals as goal

none_some : {place : ℕ} → None ≡ Some place → ⊥
none_some e = absurd cc

-- the record that is taken
next : (g : _) (c : Start g) → g.D.Disk.tells
    → (let self = c.args.self.now in IsNext (g.D.Disk.seen c.args.disk.now) self c.args.raw c.args.len (within (chains_of self.pages.items) c.args.begun self.changes.items))
next g c told =
    let self = c.args.self.now in
    record { on = c.requires.next.on told; head = c.requires.next.head told; has = c.requires.next.has; ahead = c.requires.next.ahead; read = read-opened (chains_of self.pages.items) self.begun c.args.begun self.changes.items c.requires.opened }

-- where it closes a batch
closing : (g : _) (c : In_ok-place g) → g.D.Disk.tells → Closing (g.D.Disk.seen c.args.disk.now) c.args.raw c.args.self.now.at c.args.len c.in_ok-place.place
closing g c told = record { kind = sym c.closes.ensures ∙ c.if-closes.true; ends = sym c.is_end.ensures.is ∙ c.if-not-is_end.false; eight = c.is_end.ensures.len c.if-not-is_end.false; read = c.in_ok-place.ensures.number told }

pub returns-then-not-is_end-clause-corrupt : goal.returns-then-not-is_end-clause-corrupt
returns-then-not-is_end-clause-corrupt g c = λ told is.
    goes-refused (next g (goal.at.returns-then-not-is_end-clause-corrupt g c).Start told) (closing-unnamed (sym c.closes.ensures ∙ c.if-closes.true) (sym c.is_end.ensures.is ∙ c.if-not-is_end.true))

pub returns-then-place-begun-clause-corrupt : goal.returns-then-place-begun-clause-corrupt
returns-then-place-begun-clause-corrupt g c = λ told is.
    let at = goal.at.returns-then-place-begun-clause-corrupt g c in
    goes-refused (next g at.Start told) (closing-other (closing g at.In_ok-place told) c.if-place-begun.true)

pub returns-then-raw-eq-ABANDONED-clause-goes_on : goal.returns-then-raw-eq-ABANDONED-clause-goes_on
returns-then-raw-eq-ABANDONED-clause-goes_on g c = λ told.
    let at = goal.at.returns-then-raw-eq-ABANDONED-clause-goes_on g c in
    let new = c.drop_batch.new.self in
    let e = c.drop_batch.ensures in
    let eight = c.is_end.ensures.len c.if-not-is_end.false in
    goes-taken (next g at.Start told) (closing-dropped (closing g at.In_ok-place told) c.if-place-begun.false c.if-raw-eq-ABANDONED.true)
    (record {
      end = e.end;
      shows = subst (IsShown (g.D.Disk.seen c.args.disk.now)) (sym e.window) (c.in_ok-place.ensures.shows told);
      at = omega (arith, e.at, eight);
      body_end = e.body_end;
      targets = e.targets;
    })
    (read-closed (chains_of new.pages.items) new.begun new.changes.items e.closed ∙ ap (λ (pages : Vec (Vec Head)). outside (chains_of pages.items)) e.pages)

pub returns-then-closes-clause-goes_on : goal.returns-then-closes-clause-goes_on
returns-then-closes-clause-goes_on g c = λ told.
    let at = goal.at.returns-then-closes-clause-goes_on g c in
    let next = next g at.Start told in
    let closing = closing g at.In_ok-place told in
    let new = c.count_batch.new.self in
    let e = c.count_batch.ensures in
    let eight = c.is_end.ensures.len c.if-not-is_end.false in
    let behind : c.args.self.now.at + 25 ≡ c.args.self.now.at + (17 + c.args.len) = omega (arith, eight) in
    let shows = subst (IsShown (g.D.Disk.seen c.args.disk.now)) (sym e.window) (c.in_ok-place.ensures.shows told) in
    either_way c.count_batch.result
    (λ ok.
    let closed = at_ok c.count_batch.result e.closed ok in
    goes-taken next (closing-counted closing (Some (chains_of new.pages.items)) c.if-place-begun.false c.if-raw-eq-ABANDONED.false (at_ok c.count_batch.result e.counted ok))
    (record { end = e.end; shows = shows; at = closed.0 ∙ behind; body_end = e.body_end; targets = e.targets })
    (read-closed (chains_of new.pages.items) new.begun new.changes.items closed.1))
    (λ failed.
    let same = at_err c.count_batch.result e.opened failed in
    goes-alike next (closing-counted closing _ c.if-place-begun.false c.if-raw-eq-ABANDONED.false refl) (closing-counted closing _ c.if-place-begun.false c.if-raw-eq-ABANDONED.false (at_err c.count_batch.result e.left failed))
    (record { end = e.end; shows = shows; at = same.0; body_end = e.body_end; targets = e.targets })
    (read-opened (chains_of new.pages.items) new.begun c.args.begun new.changes.items (same.1 ∙ c.requires.opened)))

pub returns-then-closes-clause-corrupt : goal.returns-then-closes-clause-corrupt
returns-then-closes-clause-corrupt g c = λ told is.
    let at = goal.at.returns-then-closes-clause-corrupt g c in
    goes-refused (next g at.Start told) (closing-counted (closing g at.In_ok-place told) None c.if-place-begun.false c.if-raw-eq-ABANDONED.false (c.count_batch.ensures.corrupt is))

-- whether it is a change
changes : (g : _) (c : After-is_change g) → is_changing (log_kind_of (head_of c.args.raw c.args.self.now.at c.args.len).kind) ≡ c.is_change.result
changes g c = ap (λ (h : Head). is_changing (log_kind_of h.kind)) (sym c.head-head.ensures) ∙ sym c.is_change.ensures

pub returns-then-not-is_change-clause-corrupt : goal.returns-then-not-is_change-clause-corrupt
returns-then-not-is_change-clause-corrupt g c = λ told is.
    let at = goal.at.returns-then-not-is_change-clause-corrupt g c in
    goes-refused (next g at.Start told) (change-refused (sym c.closes.ensures ∙ c.if-closes.false) (changes g at.After-is_change ∙ c.if-not-is_change.true))

pub invariant_of-self-2 : goal.invariant_of-self-2
invariant_of-self-2 g c =
    let self = c.args.self.now in
    let len = c.args.len in
    let end = self.at + (17 + len) in
    let has = c.requires.next.has in
    let changes = changes g (goal.at.invariant_of-self-2 g c).After-is_change ∙ c.if-not-is_change.false in
    record {
      none = λ e. absurd (let opened = sym e ∙ c.requires.opened in none_some opened);
      waiting = subst (AllByRecursion (IsWaiting end)) (sym c.in_ok-push_back.ensures.items)
          (subst (λ (h : Head). AllByRecursion (IsWaiting end) (self.changes.items ++ (c.args.raw.page, h) ∷ [])) (sym c.head-head.ensures)
          (waiting-more end self.changes.items (c.args.raw.page, head_of c.args.raw self.at len) (waiting-later self.at end self.changes.items (omega arith) self.waiting) (changes, omega arith)));
      within = has;
      inside = self.inside;
      heads = heads-later self.at end (chains_of self.pages.items) (omega arith) self.heads;
    }

pub returns-clause-goes_on : goal.returns-clause-goes_on
returns-clause-goes_on g c = λ told.
    let at = goal.at.returns-clause-goes_on g c in
    let self = c.args.self.now in
    goes-taken (next g at.Start told) (change-waits (sym c.closes.ensures ∙ c.if-closes.false) (changes g at.After-is_change ∙ c.if-not-is_change.false))
    (record { end = refl; shows = (c.requires.next.on told).shows; at = refl; body_end = refl; targets = refl })
    (read-opened (chains_of self.pages.items) self.begun c.args.begun c.push_back.new.self.items c.requires.opened
    ∙ ap (within (chains_of self.pages.items) c.args.begun) (c.in_ok-push_back.ensures.items ∙ ap (λ (h : Head). self.changes.items ++ (c.args.raw.page, h) ∷ []) c.head-head.ensures))
