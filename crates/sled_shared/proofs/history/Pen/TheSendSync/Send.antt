use denote.RattleType.{RattleType}
use denote.Param.Send.{IsSend}
use Rattle.sled_shared.specs.contracts.history.Pen.{the_row}
use Rattle.sled_shared.proofs.HistoryWalks.{pen_keyless}

pub send : (E : RattleType) → IsSend (the_row E)
send E = record { owned = λ d vs. ((λ vss. (tt, ((λ uss. (tt, tt)), tt))), pen_keyless E.coded.code d.of d.number d.seen); leaving = λ k f vs. tt }
