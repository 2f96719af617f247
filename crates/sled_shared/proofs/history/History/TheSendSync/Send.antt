use denote.RattleType.{RattleType}
use denote.Param.Send.{IsSend}
use Rattle.sled_shared.specs.contracts.history.History.{the_row}
use Rattle.sled_shared.proofs.HistoryWalks.{history_keyless}

pub send : (E : RattleType) → IsSend (the_row E)
send E = record { owned = λ d vs. ((λ vss. (tt, ((λ uss. (tt, tt)), tt))), history_keyless E.coded.code d.name d.log); leaving = λ k f vs. tt }
