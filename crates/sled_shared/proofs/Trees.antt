-- The calls of an opened tree, as a book enters them.
use Rattle.std.proofs.Common.{inl, inr, ℕ, ◌∷◌, Option, None, Some, Result, Ok, Err, refl}
use Rattle.std.specs.Prelude.{⊤}
use Rattle.sled_base.specs.Order.{Bytes}
use Rattle.sled_base.specs.declared.types.Error.{Error}
use Rattle.sled_log.specs.declared.log.Log.{Ghosts}
use Rattle.sled_pagecache.specs.Cache.{Cache}
use Rattle.sled_pagecache.specs.Rows.{AreMade}
use Rattle.sled_pagecache.specs.Step.{RootSwap}
use Rattle.sled_pagecache.specs.State.{Token}
use Rattle.sled_pagecache.specs.Trees.{AreCallsOf, EndsSwap, GoesOnOver, GoesOnWith, IsTreeOpened, MadeCalls, NamesRoot, OpensTree, PutsIndex}
use Rattle.sled_pagecache.specs.declared.pagecache.handles.call.Answer.TheVariants.{GotMeta}
use Rattle.sled_pagecache.specs.declared.pagecache.handles.call.Call.TheVariants.{GetMeta}

module _ (found_another : Type 0) (name : Bytes) (result : Result ℕ Error) where
  ends : (root : ℕ) (answer : RootSwap) → EndsSwap found_another name result root answer → EndsSwap ⊤ name result root answer
  ends root (Ok (Ok done)) is = is
  ends root (Ok (Err another)) h = (tt, h.1)
  ends root (Err e) is = is

  names : (root : ℕ) (calls : MadeCalls) → NamesRoot found_another name result root calls → NamesRoot ⊤ name result root calls
  names root calls (answer, is, so) = (answer, is, ends root answer so)

  over : (index : Result (ℕ × Token) Error) (calls : MadeCalls) → GoesOnOver found_another name result index calls → GoesOnOver ⊤ name result index calls
  over (Ok index) calls goes = names index.0 calls goes
  over (Err e) calls goes = goes

  puts : (leaf : ℕ) (calls : MadeCalls) → PutsIndex found_another name result leaf calls → PutsIndex ⊤ name result leaf calls
  puts leaf calls (inl none) = inl none
  puts leaf calls (inr (answer, others, is, goes)) = inr (answer, others, is, over answer others goes)

  with_leaf : (leaf : Result (ℕ × Token) Error) (calls : MadeCalls) → GoesOnWith found_another name result leaf calls → GoesOnWith ⊤ name result leaf calls
  with_leaf (Ok leaf) calls goes = puts leaf.0 calls goes
  with_leaf (Err e) calls goes = goes

  opens : (found : Result (Option ℕ) Error) (calls : MadeCalls) → OpensTree found_another name result found calls → OpensTree ⊤ name result found calls
  opens (Ok (Some root)) calls is = is
  opens (Ok None) calls (answer, others, is, goes) = (answer, others, is, with_leaf answer others goes)
  opens (Err e) calls is = is

pub tree-made : {L : Type 0} (g : Ghosts L) (old new : Cache L) (name : Bytes) (result : Result ℕ Error) → IsTreeOpened g old name result new → (calls : MadeCalls) × AreCallsOf ⊤ name result calls × AreMade g old calls new
tree-made g old new name result opened =
    ((GetMeta, GotMeta opened.look) ∷ opened.calls, (opened.look, opened.found, opened.calls, refl, opened.finds, opens _ name result opened.found opened.calls opened.are), opened.made)
