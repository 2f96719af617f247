use Rattle.sled_log.specs.Inside.ContentLaws.{chains-contents}
use Rattle.sled_log.proofs.laws.chains_fold_to_contents.Goals as goal

pub returns : goal.returns
returns c = chains-contents
