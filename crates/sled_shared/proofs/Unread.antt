-- A node was found of which there is no memory for copies; then that is the answer.
use Rattle.std.proofs.Common.{ℕ, Option, None, Some, Result, Ok, Err}
use Rattle.sled_base.specs.declared.types.Error.{Error}
use Rattle.sled_base.specs.declared.types.Error.TheVariants as error
use Rattle.sled_log.specs.Contents.{Content, Free, Counter, Roots, Node, Damaged}
use Rattle.sled_log.specs.declared.log.Log.{Ghosts}
use Rattle.sled_node.specs.Node.{WholeNode}
use Rattle.sled_pagecache.specs.Answers.{Keeps}
use Rattle.sled_pagecache.specs.Cache.{Cache}
use Rattle.sled_pagecache.specs.Calls.{Steps}
use Rattle.sled_pagecache.specs.Rows.{IsMade}
use Rattle.sled_pagecache.specs.State.{StampedPage, State, page_at}
use Rattle.sled_pagecache.specs.Step.{Finds, FindsContent, Gets, Outcome, is_reserved}
use Rattle.sled_pagecache.specs.State.{Token}
use Rattle.sled_pagecache.specs.declared.pagecache.handles.call.Answer.TheVariants.{Got}
use Rattle.sled_pagecache.specs.declared.pagecache.handles.call.Call.TheVariants.{Get}
use Rattle.sled_shared.proofs.Replaying.{both}

unread-gets : (s : State) (pid : ℕ) (found : Token × WholeNode) (out : Outcome) → Gets s pid (Ok (Some found)) out → Gets s pid (Err error.OutOfMemory) out
unread-gets s pid found out = both s.fault (λ h. absurd (let e = h.0 in cc)) (both (is_reserved pid) (λ h. absurd (let e = h.0 in cc)) (finds (page_at s pid)))
  where
    by : (stamp : ℕ) (content : Content) → FindsContent s pid stamp content (Ok (Some found)) out → FindsContent s pid stamp content (Err error.OutOfMemory) out
    by stamp Free h = absurd (let e = h.0 in cc)
    by stamp (Node node) h = h.0
    by stamp (Counter n) h = absurd h.1
    by stamp (Roots roots) h = absurd h.1
    by stamp Damaged h = absurd h.1

    finds : (there : Option StampedPage) → Finds s pid there (Ok (Some found)) out → Finds s pid there (Err error.OutOfMemory) out
    finds None h = absurd (let e = h.0 in cc)
    finds (Some there) h = by there.stamp there.content h

module _ {L : Type 0} (g : Ghosts L) (old new : Cache L) where
  keeps-unread : {T : Type 0} (found : T) → (let answer : Result T Error = Ok found in Keeps old new answer (λ _. old.stamps)) → (let answer : Result T Error = Err error.OutOfMemory in Keeps old new answer (λ _. old.stamps))
  keeps-unread found h = record { batch = h.batch; fault = h.fault; stuck = λ kept. absurd (let e = (h.stuck kept).0 in cc); done = tt; refused = h.done }

  pub unread-made : (pid : ℕ) (found : Token × WholeNode) → Steps g old (Get pid) (Got (Ok (Some found))) new → (let answer : Result (Option (Token × WholeNode)) Error = Ok (Some found) in Keeps old new answer (λ _. old.stamps)) → IsMade g old (Get pid) (Got (Err error.OutOfMemory)) new
  unread-made pid found steps keeps = record {
    step = record {
      opening = steps.opening;
      from_each = λ held s is.
          let one = steps.from_each held s is in
          record { out = one.out; step = unread-gets s pid found one.out one.step; held_then = one.held_then; is = one.is; added = one.added; crash = one.crash; stuck = one.stuck };
    };
    bytes = tt;
    faults = record { read = λ e. absurd cc; write = λ e. absurd cc };
    covered = tt;
    keeps = keeps-unread (Some found) keeps;
  }
