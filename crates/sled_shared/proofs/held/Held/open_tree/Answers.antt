use Rattle.std.proofs.Common.{rules, ◌≡◌, ap, ◌++◌, ◌∷◌, []}
use Rattle.sled_shared.specs.Book.{book}
use Rattle.sled_shared.specs.Calls.{OpenTree, Opened, entry}
use Rattle.sled_shared.specs.Held.{held}
use Rattle.sled_shared.proofs.Replays.{entered_as, kept_on, told_as, room_left, served, sound_on}
use Rattle.sled_shared.proofs.Trees.{tree-made}
use Rattle.sled_shared.proofs.held.Held.open_tree.Goals as goal

pub invariant_of-self-2 : goal.invariant_of-self-2
invariant_of-self-2 g c =
    let told = c.open_tree-answer in
    let (calls, are, made) = tree-made g.L.Log _ _ c.args.name told.result told.ensures.opened in
    let more : c.enter.new.entries.items ≡ c.self.inside.entries.items ++ entry (OpenTree c.args.name) (Opened told.result) ∷ [] = entered_as c.enter.ensures.entry c.make_room.ensures.entries (rw c.in_ok-copy.ensures (ap (λ a. entry (OpenTree c.args.name) (Opened a)) c.keep-kept.ensures)) in (
      sound_on g.L.Log g.K.Tally.known c.self.invariant.0 (OpenTree c.args.name) (Opened told.result) calls told.new.cache are made _ _ told.ensures.keeps.batch more (search rules) (room_left c.self.invariant.0 (search rules)),
      kept_on c.args.mine.now.number _ c.self.invariant.1 c.enter.ensures.entry c.make_room.ensures.entries c.enter.ensures.name c.enter.ensures.line,
    )

pub returns : goal.returns
returns g c =
    let told = c.open_tree-answer in
    let (calls, are, made) = tree-made g.L.Log _ _ c.args.name told.result told.ensures.opened in
    let more : c.enter.new.entries.items ≡ c.self.inside.entries.items ++ entry (OpenTree c.args.name) (Opened told.result) ∷ [] = entered_as c.enter.ensures.entry c.make_room.ensures.entries (rw c.in_ok-copy.ensures (ap (λ a. entry (OpenTree c.args.name) (Opened a)) c.keep-kept.ensures)) in
    let self = c.self.inside in
    let h = held self.cache (book self.earlier self.opening self.entries.items) self.limit self.given self.left in
    rw (← c.self.view_is)
    (served g.L.Log g.met.L.Log.only_now h c.args.mine.now (OpenTree c.args.name) (Opened told.result) told.new.cache c.enter.new.entries.items _ calls
    (search rules) are made more (told_as c.args.mine.now c.enter.new.mine c.enter.ensures.told (rw c.in_ok-copy.ensures (ap (λ a. entry (OpenTree c.args.name) (Opened a)) c.keep-kept.ensures))))
