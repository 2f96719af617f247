use Rattle.std.proofs.Common.{rules, ◌≡◌, ap, ◌++◌, ◌∷◌, []}
use Rattle.sled_pagecache.specs.declared.pagecache.handles.call.Answer.TheVariants.{Flushed}
use Rattle.sled_pagecache.specs.declared.pagecache.handles.call.Call.TheVariants.{Flush}
use Rattle.sled_pagecache.specs.Inside.MadeLaws.{flush-made}
use Rattle.sled_shared.specs.Book.{book}
use Rattle.sled_shared.specs.Calls.{Answered, Asked, entry}
use Rattle.sled_shared.specs.Held.{held}
use Rattle.sled_shared.proofs.Replays.{entered_as, kept_on, told_as, one_served, one_sound, room_left}
use Rattle.sled_shared.proofs.held.Held.flush.Goals as goal

pub invariant_of-self-2 : goal.invariant_of-self-2
invariant_of-self-2 g c =
    let told = c.flush-answer in
    let more : c.enter.new.entries.items ≡ c.self.inside.entries.items ++ entry (Asked Flush) (Answered (Flushed told.result)) ∷ [] = entered_as c.enter.ensures.entry c.make_room.ensures.entries (ap (λ a. entry (Asked Flush) (Answered (Flushed a))) c.keep-kept.ensures) in (
      one_sound g.L.Log g.K.Tally.known c.self.invariant.0 Flush (Flushed told.result) told.new.self (flush-made g.L.Log _ _ told.result told.ensures.step told.ensures.blame told.ensures.number told.ensures.stable told.ensures.keeps) _ _ told.ensures.keeps.batch more (search rules) (room_left c.self.invariant.0 (search rules)),
      kept_on c.args.mine.now.number _ c.self.invariant.1 c.enter.ensures.entry c.make_room.ensures.entries c.enter.ensures.name c.enter.ensures.line,
    )

pub returns : goal.returns
returns g c =
    let told = c.flush-answer in
    let more : c.enter.new.entries.items ≡ c.self.inside.entries.items ++ entry (Asked Flush) (Answered (Flushed told.result)) ∷ [] = entered_as c.enter.ensures.entry c.make_room.ensures.entries (ap (λ a. entry (Asked Flush) (Answered (Flushed a))) c.keep-kept.ensures) in
    let self = c.self.inside in
    let h = held self.cache (book self.earlier self.opening self.entries.items) self.limit self.given self.left in
    rw (← c.self.view_is)
    (one_served g.L.Log g.met.L.Log.only_now h c.args.mine.now Flush (Flushed told.result) told.new.self c.enter.new.entries.items _
    (search rules) (flush-made g.L.Log _ _ told.result told.ensures.step told.ensures.blame told.ensures.number told.ensures.stable told.ensures.keeps) more (told_as c.args.mine.now c.enter.new.mine c.enter.ensures.told (ap (λ a. entry (Asked Flush) (Answered (Flushed a))) c.keep-kept.ensures)))
