use Rattle.std.proofs.Common.{rules, [], ◌≡◌, ◌∙◌, sym, ap, ◌++◌, ◌∷◌}
use Rattle.sled_shared.specs.Book.{book}
use Rattle.sled_shared.specs.Calls.{Batch, Batched, IsBatch, batched, entry}
use Rattle.sled_shared.specs.Held.{held}
use Rattle.sled_shared.specs.Kept.{batch_kept}
use Rattle.sled_shared.proofs.Replays.{entered_as, kept_on, told_as, room_left, served, sound_on}
use Rattle.sled_shared.proofs.held.Held.batch.Goals as goal

pub invariant_of-self-2 : goal.invariant_of-self-2
invariant_of-self-2 g c =
    let told = c.make_batch-answer in
    let (calls, are, made) = told.ensures.made in
    let is : IsBatch c.args.swaps.items (batched told.result.0) calls = rw c.in-Ok.ensures at are in
    let kept : batch_kept c.args.swaps.items told.result.1.value.endings.items told.result.2 ≡ batched told.result.0 = rw c.in-Ok.ensures at told.ensures.same in
    let more : c.enter.new.entries.items ≡ c.self.inside.entries.items ++ entry (Batch c.args.swaps.items) (Batched (batched told.result.0)) ∷ [] = entered_as c.enter.ensures.entry c.make_room-room.ensures.entries (rw (told.ensures.asked, c.in-Ok.ensures) (ap (λ a. entry (Batch c.args.swaps.items) (Batched a)) kept)) in (
      sound_on g.L.Log g.K.Tally.known c.self.invariant.0 (Batch c.args.swaps.items) (Batched (batched told.result.0)) calls told.new.cache is made _ _ (told.ensures.batch ∙ sym c.self.invariant.0.closed) more (search rules) (room_left c.self.invariant.0 (search rules)),
      kept_on c.args.mine.now.number _ c.self.invariant.1 c.enter.ensures.entry c.make_room-room.ensures.entries c.enter.ensures.name c.enter.ensures.line,
    )

pub returns : goal.returns
returns g c =
    let told = c.make_batch-answer in
    let (calls, are, made) = told.ensures.made in
    let is : IsBatch c.args.swaps.items (batched told.result.0) calls = rw c.in-Ok.ensures at are in
    let kept : batch_kept c.args.swaps.items told.result.1.value.endings.items told.result.2 ≡ batched told.result.0 = rw c.in-Ok.ensures at told.ensures.same in
    let more : c.enter.new.entries.items ≡ c.self.inside.entries.items ++ entry (Batch c.args.swaps.items) (Batched (batched told.result.0)) ∷ [] = entered_as c.enter.ensures.entry c.make_room-room.ensures.entries (rw (told.ensures.asked, c.in-Ok.ensures) (ap (λ a. entry (Batch c.args.swaps.items) (Batched a)) kept)) in
    let self = c.self.inside in
    let h = held self.cache (book self.earlier self.opening self.entries.items) self.limit self.given self.left in
    rw (← c.self.view_is)
    (served g.L.Log g.met.L.Log.only_now h c.args.mine.now (Batch c.args.swaps.items) (Batched (batched told.result.0)) told.new.cache c.enter.new.entries.items _ calls
    (search rules) is made more (told_as c.args.mine.now c.enter.new.mine c.enter.ensures.told (rw (told.ensures.asked, c.in-Ok.ensures) (ap (λ a. entry (Batch c.args.swaps.items) (Batched a)) kept))))
