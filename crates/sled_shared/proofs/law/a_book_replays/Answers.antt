use Rattle.sled_shared.proofs.Replaying.{replays}
use Rattle.sled_shared.proofs.law.a_book_replays.Goals as goal

pub returns : goal.returns
returns g c = replays g.L.Log g.K.Tally.known
