use Rattle.std.proofs.Common.{rules, ◌≡◌, ap, ◌++◌, ◌∷◌, []}
use Rattle.sled_pagecache.specs.declared.pagecache.handles.call.Answer.TheVariants.{FoundRoot}
use Rattle.sled_pagecache.specs.declared.pagecache.handles.call.Call.TheVariants.{MetaPidForName}
use Rattle.sled_shared.specs.Book.{book}
use Rattle.sled_shared.specs.Calls.{Answered, Asked, entry}
use Rattle.sled_shared.specs.Held.{held}
use Rattle.sled_shared.proofs.Replays.{entered_as, kept_on, told_as, one_served, one_sound, room_left}
use Rattle.sled_shared.proofs.held.Held.meta_pid_for_name.Goals as goal

pub invariant_of-self-2 : goal.invariant_of-self-2
invariant_of-self-2 g c =
    let told = c.meta_pid_for_name-answer in
    let more : c.enter.new.entries.items ≡ c.self.inside.entries.items ++ entry (Asked (MetaPidForName c.args.name.now)) (Answered (FoundRoot told.result)) ∷ [] = entered_as c.enter.ensures.entry c.make_room.ensures.entries (rw c.in_ok-copy.ensures (ap (λ a. entry (Asked (MetaPidForName c.args.name.now)) (Answered (FoundRoot a))) (c.keep_root-kept.ensures c.args.name.now told.ensures.named))) in (
      one_sound g.L.Log g.K.Tally.known c.self.invariant.0 (MetaPidForName c.args.name.now) (FoundRoot told.result) c.self.inside.cache (record { step = told.ensures.step; bytes = tt; faults = tt; covered = tt; keeps = told.ensures.keeps }) _ _ told.ensures.keeps.batch more (search rules) (room_left c.self.invariant.0 (search rules)),
      kept_on c.args.mine.now.number _ c.self.invariant.1 c.enter.ensures.entry c.make_room.ensures.entries c.enter.ensures.name c.enter.ensures.line,
    )

pub returns : goal.returns
returns g c =
    let told = c.meta_pid_for_name-answer in
    let more : c.enter.new.entries.items ≡ c.self.inside.entries.items ++ entry (Asked (MetaPidForName c.args.name.now)) (Answered (FoundRoot told.result)) ∷ [] = entered_as c.enter.ensures.entry c.make_room.ensures.entries (rw c.in_ok-copy.ensures (ap (λ a. entry (Asked (MetaPidForName c.args.name.now)) (Answered (FoundRoot a))) (c.keep_root-kept.ensures c.args.name.now told.ensures.named))) in
    let self = c.self.inside in
    let h = held self.cache (book self.earlier self.opening self.entries.items) self.limit self.given self.left in
    rw (← c.self.view_is)
    (one_served g.L.Log g.met.L.Log.only_now h c.args.mine.now (MetaPidForName c.args.name.now) (FoundRoot told.result) c.self.inside.cache c.enter.new.entries.items _
    (search rules) (record { step = told.ensures.step; bytes = tt; faults = tt; covered = tt; keeps = told.ensures.keeps }) more (told_as c.args.mine.now c.enter.new.mine c.enter.ensures.told (rw c.in_ok-copy.ensures (ap (λ a. entry (Asked (MetaPidForName c.args.name.now)) (Answered (FoundRoot a))) (c.keep_root-kept.ensures c.args.name.now told.ensures.named)))))
