use Rattle.std.proofs.Common.{◌+◌, ℕ, List, sym, subst, arith}
use Rattle.std.specs.List.{AllByRecursion}
use Rattle.sled_disk.specs.declared.recovery.head.Head.{Head}
use Rattle.sled_disk.specs.Reading.{chains_of}
use Rattle.sled_disk.specs.BatchChanges.{IsWaiting}
use Rattle.sled_disk.proofs.Chains.ChainHeads.{heads-later}
use Rattle.sled_disk.proofs.reader.Reader.count_batch.Goals as goal

pub invariant_of-self : goal.invariant_of-self
invariant_of-self c =
    let self = c.args.self.now in
    record {
      none = λ e. absurd (c.requires.opened e);
      waiting = c.take_all.ensures.waiting self.at self.waiting;
      within = self.within;
      inside = self.inside;
      heads = c.take_all.ensures.heads self.at self.waiting self.heads;
    }

pub invariant_of-self-2 : goal.invariant_of-self-2
invariant_of-self-2 c =
    let self = c.args.self.now in
    let room = c.requires.room in
    record {
      none = λ e. c.in_ok-take_all.ensures.none;
      waiting = subst (λ (l : List (ℕ × Head)). AllByRecursion (IsWaiting (self.at + 25)) l) (sym c.in_ok-take_all.ensures.none) tt;
      within = omega arith;
      inside = self.inside;
      heads = heads-later self.at (self.at + 25) (chains_of c.take_all.new.pages.items) (omega arith) (c.take_all.ensures.heads self.at self.waiting self.heads);
    }
