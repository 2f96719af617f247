-- A node that is put, by the cache's answer.
use Rattle.std.proofs.Common.{◌≡◌, inl, ℕ, List, Option, Result, Ok, Err, ap, subst, slice_set}
use Rattle.std.proofs.lemmas.Bool.{false≢true}
use Rattle.std.specs.Prelude.{IsErr, IsOk, ⊤}
use Rattle.sled_base.specs.declared.types.Error.{Error}
use Rattle.sled_log.specs.Contents.{Content, Node, Update}
use Rattle.sled_log.specs.Events.{Event}
use Rattle.sled_log.specs.declared.log.Log.{Ghosts}
use Rattle.sled_node.specs.Node.{WholeNode}
use Rattle.sled_pagecache.specs.Cache.{Cache}
use Rattle.sled_pagecache.specs.Rows.{IsMade}
use Rattle.sled_pagecache.specs.State.{State, Token, contents_of}
use Rattle.sled_pagecache.specs.Step.{Swapped}
use Rattle.sled_pagecache.specs.declared.pagecache.handles.call.Answer.TheVariants.{Replaced}
use Rattle.sled_pagecache.specs.declared.pagecache.handles.call.Call.TheVariants.{Replace}
use Rattle.sled_tree.specs.Changed.{Ends, EndsSwap}
use Rattle.sled_tree.specs.Performs.{Performs}
use Rattle.sled_tree.specs.Splits.{Puts}
use Rattle.sled_tree.proofs.Performing.{On, Stuck, ends-back, ends-err, ends-made, nothing, replaced, weaker}

module _ {L : Type 0} (g : Ghosts L) {T E : Type 0} (token : Token) (pid : ℕ) (of-pid : token.pid ≡ pid) (node : WholeNode) (result : Result T E) (old new : Cache L) where
  puts-by : (answer : Swapped WholeNode) → IsMade g old (Replace token node) (Replaced answer) new
      → ((s t : State) (changed : List Content) (events : List (Event Update)) → EndsSwap answer s changed events t → Ends result s changed events t) → Performs g (Puts pid node result) old new
  puts-by answer made into =
      weaker g (λ s events t. Stuck s events t × EndsSwap answer s (slice_set (contents_of s) token.pid (Node node)) events t) (Puts pid node result) old new
      (λ s t events h. record { stuck = h.0; ends = subst (λ (p : ℕ). Ends result s (slice_set (contents_of s) p (Node node)) events t) of-pid (into s t _ events h.1) }) (replaced g old new token node answer made)

  put-made : (made : Token) → IsMade g old (Replace token node) (Replaced (Ok (Ok made))) new → IsOk result → Performs g (Puts pid node result) old new
  put-made made is done = puts-by (Ok (Ok made)) is (λ s t changed events h. ends-made g WholeNode s t changed events made result done h)

  put-back : (back : Option (Token × WholeNode)) → IsMade g old (Replace token node) (Replaced (Ok (Err back))) new → IsErr result → Performs g (Puts pid node result) old new
  put-back back is failed = puts-by (Ok (Err back)) is (λ s t changed events h. ends-back g s t changed events back result failed h)

  pub put-err : (e : Error) → IsMade g old (Replace token node) (Replaced (Err e)) new → IsErr result → Performs g (Puts pid node result) old new
  put-err e is failed = puts-by (Err e) is (λ s t changed events h. ends-err g WholeNode s t changed events e result failed h)

  pub put-refused : (swapped : Result Token (Option (Token × WholeNode))) → IsErr swapped → IsMade g old (Replace token node) (Replaced (Ok swapped)) new → IsErr result → Performs g (Puts pid node result) old new
  put-refused (Ok made) refused is failed = absurd (false≢true refused)
  put-refused (Err back) refused is failed = put-back back is failed

  pub put-done : (swapped : Result Token (Option (Token × WholeNode))) → IsOk swapped → IsMade g old (Replace token node) (Replaced (Ok swapped)) new → IsOk result → Performs g (Puts pid node result) old new
  put-done (Ok made) well is done = put-made made is done
  put-done (Err back) well is done = absurd (false≢true well)

-- nothing is put
pub put-none : {L : Type 0} (g : Ghosts L) {T E : Type 0} (pid : ℕ) (node : WholeNode) (result : Result T E) (c : Cache L) → IsErr result → Performs g (Puts pid node result) c c
put-none g pid node (Ok answer) c failed = absurd (false≢true failed)
put-none g {T} {E} pid node (Err e) c failed =
    weaker g (On (λ _. ⊤)) (Puts pid node (Err e)) c c (λ s t events is. record { stuck = λ _. (is.none, is.same); ends = (ap contents_of is.same, inl is.none) }) (nothing g c)
