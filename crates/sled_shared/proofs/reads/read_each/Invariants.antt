-- The pages so far were read, and there is room for the answers to the rest.
use Rattle.std.proofs.Common.{◌≡◌, ◌≤◌, length, vec_len, vec_capacity}
use Rattle.sled_shared.proofs.Reading.{ReadSo}
use Rattle.sled_shared.proofs.reads.read_each.Given as goal

abbrev pub invariant-loop-pid : goal.invariant-loop-pid
invariant-loop-pid g l =
    record {
      made : ReadSo g.L.Log l.pages l.pid-index l.answers.items l.found.items l.initial.cache l.cache;
      answers : vec_len l.answers ≡ l.pid-index;
      found : vec_len l.found ≡ l.pid-index;
      room : length l.pages ≤ vec_capacity l.answers;
      space : length l.pages ≤ vec_capacity l.found;
      batch : l.cache.batch ≡ l.initial.cache.batch;
    }
