use Rattle.sled_handle.proofs.MapAnswers.{pair-told}
use Rattle.sled_handle.proofs.calls.maps.ordered.put_pair.Goals as goal

pub returns : goal.returns
returns c = pair-told c.args.pair.now c.in-Some.size c.args.needed.now c.args.buffer.now c.write_pair.new.out c.in-Some.ensures c.write_pair.ensures
