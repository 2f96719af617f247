use Rattle.std.proofs.Common.{rules, [], ◌≡◌, ap, ◌++◌, ◌∷◌}
use Rattle.sled_shared.specs.Book.{book}
use Rattle.sled_shared.specs.Calls.{GetAll, GotAll, IsReading, entry, got_all}
use Rattle.sled_shared.specs.Held.{held}
use Rattle.sled_shared.specs.Kept.{reads_kept}
use Rattle.sled_shared.proofs.Replays.{entered_as, kept_on, told_as, room_left, served, sound_on}
use Rattle.sled_shared.proofs.held.Held.get_all.Goals as goal

pub invariant_of-self-2 : goal.invariant_of-self-2
invariant_of-self-2 g c =
    let told = c.read_all-answer in
    let (calls, are, made) = told.ensures.made in
    let is : IsReading c.args.pages.items (got_all told.result.0) calls = rw c.in-Ok.ensures at are in
    let kept : reads_kept c.args.pages.items told.result.1.value.found.items told.result.2 ≡ got_all told.result.0 = rw c.in-Ok.ensures at told.ensures.same in
    let more : c.enter.new.entries.items ≡ c.self.inside.entries.items ++ entry (GetAll c.args.pages.items) (GotAll (got_all told.result.0)) ∷ [] = entered_as c.enter.ensures.entry c.make_room.ensures.entries (rw (told.ensures.asked, c.in-Ok.ensures) (ap (λ a. entry (GetAll c.args.pages.items) (GotAll a)) kept)) in (
      sound_on g.L.Log g.K.Tally.known c.self.invariant.0 (GetAll c.args.pages.items) (GotAll (got_all told.result.0)) calls told.new.cache is made _ _ told.ensures.batch more (search rules) (room_left c.self.invariant.0 (search rules)),
      kept_on c.args.mine.now.number _ c.self.invariant.1 c.enter.ensures.entry c.make_room.ensures.entries c.enter.ensures.name c.enter.ensures.line,
    )

pub returns : goal.returns
returns g c =
    let told = c.read_all-answer in
    let (calls, are, made) = told.ensures.made in
    let is : IsReading c.args.pages.items (got_all told.result.0) calls = rw c.in-Ok.ensures at are in
    let kept : reads_kept c.args.pages.items told.result.1.value.found.items told.result.2 ≡ got_all told.result.0 = rw c.in-Ok.ensures at told.ensures.same in
    let more : c.enter.new.entries.items ≡ c.self.inside.entries.items ++ entry (GetAll c.args.pages.items) (GotAll (got_all told.result.0)) ∷ [] = entered_as c.enter.ensures.entry c.make_room.ensures.entries (rw (told.ensures.asked, c.in-Ok.ensures) (ap (λ a. entry (GetAll c.args.pages.items) (GotAll a)) kept)) in
    let self = c.self.inside in
    let h = held self.cache (book self.earlier self.opening self.entries.items) self.limit self.given self.left in
    rw (← c.self.view_is)
    (served g.L.Log g.met.L.Log.only_now h c.args.mine.now (GetAll c.args.pages.items) (GotAll (got_all told.result.0)) told.new.cache c.enter.new.entries.items _ calls
    (search rules) is made more (told_as c.args.mine.now c.enter.new.mine c.enter.ensures.told (rw (told.ensures.asked, c.in-Ok.ensures) (ap (λ a. entry (GetAll c.args.pages.items) (GotAll a)) kept))))
