use Rattle.std.proofs.Common.{◌≡◌, ◌<◌, get_or, ◌+◌, max, true, ℕ, List, [], ◌∷◌, ◌++◌, sym, ◌∙◌, ap, subst, length, arith, rules}
use Rattle.std.proofs.lemmas.List.{length-append}
use Rattle.sled_disk.specs.Disk.{overlaid}
use Rattle.sled_disk.specs.Journal.{Write, are_within, Image, calls_in, all_synced, after_calls}
use Rattle.sled_disk.specs.declared.disk.journal.Call.{Call as StoredCall}
use Rattle.sled_disk.specs.declared.disk.journal.Call.TheVariants as stored
use Rattle.sled_disk.proofs.Disks.JournalCalls.{within-write-more, calls_in-write, after_calls-push}
use Rattle.sled_disk.specs.DiskLaws.{length-overlaid}
use Rattle.sled_disk.specs.OverlayLaws.{bytes-overlaid}
use Rattle.sled_disk.proofs.disk.memory.MemDisk.note_write.Goals as goal

pub invariant_of-self-clause-within : goal.invariant_of-self-clause-within
invariant_of-self-clause-within c =
    let self = c.args.self.now in
    let more = c.args.bytes.now in
    let w = length self.written.items in
    let pushed : c.push_reserved.new.self.items ≡ self.calls.items ++ stored.Write c.args.at w (w + length more) ∷ [] = search rules in
    let written : length c.add.new.bytes.items ≡ w + length more = ap length c.add.ensures.items ∙ length-append self.written.items more in
    let len : length c.overlay.new.bytes.items ≡ max (length self.bytes.items) (c.args.at + length more) = ap length c.overlay.ensures.items ∙ length-overlaid self.bytes.items c.args.at more c.requires.within in
    subst (λ (l : List StoredCall). are_within (length c.add.new.bytes.items) (length self.start.items) (length c.overlay.new.bytes.items) l ≡ true) (sym pushed)
    (subst (λ n. are_within n (length self.start.items) (length c.overlay.new.bytes.items) (self.calls.items ++ stored.Write c.args.at w (w + length more) ∷ []) ≡ true) (sym written)
    (subst (λ n. are_within (w + length more) (length self.start.items) n (self.calls.items ++ stored.Write c.args.at w (w + length more) ∷ []) ≡ true) (sym len)
    (within-write-more w (length self.start.items) (length self.bytes.items) c.args.at (length more) self.calls.items self.within c.requires.within)))

pub invariant_of-self-clause-replayed : goal.invariant_of-self-clause-replayed
invariant_of-self-clause-replayed c =
    let self = c.args.self.now in
    let more = c.args.bytes.now in
    let w = length self.written.items in
    let pushed : c.push_reserved.new.self.items ≡ self.calls.items ++ stored.Write c.args.at w (w + length more) ∷ [] = search rules in
    let noted : calls_in c.add.new.bytes.items c.push_reserved.new.self.items ≡ calls_in self.written.items self.calls.items ++ Write c.args.at more ∷ [] =
    ap (λ (l : List StoredCall). calls_in c.add.new.bytes.items l) pushed ∙ ap (λ (bytes : List ℕ). calls_in bytes (self.calls.items ++ stored.Write c.args.at w (w + length more) ∷ [])) c.add.ensures.items
    ∙ calls_in-write self.written.items more (length self.start.items) (length self.bytes.items) c.args.at self.calls.items self.within in
    let is = ap (after_calls (all_synced self.start.items)) noted ∙ after_calls-push (all_synced self.start.items) (calls_in self.written.items self.calls.items) (Write c.args.at more) in
    c.overlay.ensures.items ∙ ap (λ (bytes : List ℕ). overlaid bytes c.args.at more) self.replayed ∙ sym (ap (λ (image : Image). image.seen) is)

pub invariant_of-self-clause-are_bytes : goal.invariant_of-self-clause-are_bytes
invariant_of-self-clause-are_bytes c i =
    let self = c.args.self.now in
    subst (λ (l : List ℕ). get_or l i 0 < 256) (sym c.overlay.ensures.items) (bytes-overlaid self.bytes.items c.args.at c.args.bytes.now self.are_bytes (λ j. omega (arith, c.type_inv.bytes j)) i)

pub returns-clause-calls : goal.returns-clause-calls
returns-clause-calls c =
    let self = c.args.self.now in
    let more = c.args.bytes.now in
    let w = length self.written.items in
    let pushed : c.push_reserved.new.self.items ≡ self.calls.items ++ stored.Write c.args.at w (w + length more) ∷ [] = search rules in
    ap (λ (l : List StoredCall). calls_in c.add.new.bytes.items l) pushed ∙ ap (λ (bytes : List ℕ). calls_in bytes (self.calls.items ++ stored.Write c.args.at w (w + length more) ∷ [])) c.add.ensures.items
    ∙ calls_in-write self.written.items more (length self.start.items) (length self.bytes.items) c.args.at self.calls.items self.within
