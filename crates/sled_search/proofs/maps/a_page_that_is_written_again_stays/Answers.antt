use Rattle.sled_search.proofs.Off.{same-again}
use Rattle.sled_search.proofs.maps.a_page_that_is_written_again_stays.Goals as goal

pub returns : goal.returns
returns c pages id content there = same-again pages id content there
