use Rattle.std.proofs.Common.{◌≡◌}
use Rattle.sled_script.specs.Served.{HasServed}
use Rattle.sled_script.proofs.run.serve_until.Given as goal

-- some lines of the input were answered, and just the replies were gathered
abbrev pub invariant-loop : goal.invariant-loop
invariant-loop g l =
    record {
      served : HasServed g.L.Log l.initial.cache (g.R.Read.remaining l.initial.reader) (g.R.Read.remaining l.reader) (g.W.Write.contents l.initial.writer) (g.W.Write.contents l.writer) l.initial.piece l.piece l.cache;
      batch : l.cache.batch ≡ l.initial.cache.batch;
    }
