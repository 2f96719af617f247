-- A word is that of one byte string.
use Rattle.sled_keys.proofs.Spelled.{read_back}
use Rattle.sled_keys.proofs.words.bytes_of.Goals as goal

pub returns-clause-read : goal.returns-clause-read
returns-clause-read c = read_back (λ read. read.now) c.args.word.now c.spelled_by.result c.spelled_by.ensures.some c.spelled_by.ensures.none
