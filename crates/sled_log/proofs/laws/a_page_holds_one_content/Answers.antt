use Rattle.sled_log.proofs.Names.{one_content}
use Rattle.sled_log.proofs.laws.a_page_holds_one_content.Goals as goal

pub returns : goal.returns
returns c = one_content
