use Rattle.std.proofs.Common.{List, ℕ, Err, refl, sym, subst}
use Rattle.sled_log.specs.declared.log.LogError.TheVariants.{Corruption}
use Rattle.sled_disk.specs.Format.{Describes}
use Rattle.sled_disk.proofs.Readers.ReaderSteps.{handed-on}
use Rattle.sled_disk.proofs.reader.Reader.read_whole.Goals as goal

pub returns-in-Err-read-clause-corrupt : goal.returns-in-Err-read-clause-corrupt
returns-in-Err-read-clause-corrupt g c = λ told is events described.
    c.read.ensures.corrupt told (handed-on c.read.result (Err c.in-Err-read.e) c.in-Err-read.e Corruption c.in-Err-read.is refl is) events
    (subst (λ (l : List ℕ). Describes l events) (sym (c.in-Ok.ensures.rests.same told)) described)
