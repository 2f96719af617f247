-- Deeds one after another are the calls of the cache that they made, which may be served between any two.
use Rattle.std.proofs.Common.{Bool, List, [], ◌∷◌, ◌++◌, ◌∙◌, ap, subst, arith}
use Rattle.sled_disk.specs.Served.{StaysALog}
use Rattle.sled_log.specs.declared.log.Log.{Ghosts}
use Rattle.sled_pagecache.specs.Cache.{Cache}
use Rattle.sled_pagecache.specs.Inside.ServedLaws.{unserved}
use Rattle.sled_pagecache.specs.Openings.{AreMadeServed}
use Rattle.sled_pagecache.specs.Rows.{AreMade}
use Rattle.sled_pagecache.specs.Served.{IsServed}
use Rattle.sled_pagecache.specs.declared.pagecache.handles.call.Answer.{Answer}
use Rattle.sled_pagecache.specs.declared.pagecache.handles.call.Call.{Call}
use Rattle.sled_tree.specs.Named.{Named}
use Rattle.sled_tree.specs.Openings.{Deed, AreDoneServed}

-- the calls of the deeds, and then others
abbrev pub calls_then : {D : Type 0} → List (Deed D) → List (Call × Answer) → List (Call × Answer)
calls_then [] more = more
calls_then (deed ∷ deeds) more = deed.calls ++ calls_then deeds more

module _ {L : Type 0} (g : Ghosts L) where
  stays-twice : (a b c : L) → StaysALog g a b → StaysALog g b c → StaysALog g a c
  stays-twice a b c one two = record {
    usable = two.usable ∙ one.usable;
    opened = two.opened ∙ one.opened;
    counts = two.counts ∙ one.counts;
    state = λ told. two.state told ∙ one.state told;
    later = λ told. let x = one.later told in let y = two.later told in omega arith;
    nothing_else = λ told t pages early was. one.nothing_else told t pages early (two.nothing_else told t pages (let x = one.later told in omega arith) was);
    kept = λ told t pages early was. two.kept told t pages (let x = one.later told in omega arith) (one.kept told t pages early was);
  }

  served-twice : (a b c : Cache L) → IsServed g a b → IsServed g b c → IsServed g a c
  served-twice a b c one two = record {
    same = two.same ∙ ap (λ (k : Cache L). record k { log = c.log }) one.same;
    stays = stays-twice a.log b.log c.log one.stays two.stays;
  }

  served-first : (a b c : Cache L) (calls : List (Call × Answer)) → IsServed g a b → AreMadeServed g b calls c → AreMadeServed g a calls c
  served-first a b c [] served more = served-twice a b c served more
  served-first a b c (made ∷ calls) served (d, mid, is, one, more) = (d, mid, served-twice a b d served is, one, more)

  made-first : (old mid new : Cache L) (calls others : List (Call × Answer)) → AreMade g old calls mid → AreMadeServed g mid others new → AreMadeServed g old (calls ++ others) new
  made-first old mid new [] others same more = subst (λ (c : Cache L). AreMadeServed g c others new) same more
  made-first old mid new (made ∷ calls) others (next, one, rest) more = (old, next, unserved g old, one, made-first next mid new calls others rest more)

  pub deeds-served : {D : Type 0} (Needs : D → Named → Type 0) (Does : D → Bool → Named → Named → Type 0) (old new last : Cache L) (deeds : List (Deed D)) (more : List (Call × Answer))
      → AreDoneServed g Needs Does old deeds new → AreMadeServed g new more last → AreMadeServed g old (calls_then deeds more) last
  deeds-served Needs Does old new last [] more served rest = served-first old new last more served rest
  deeds-served Needs Does old new last (deed ∷ deeds) more (served, mid, is, (does, same), others) rest =
      served-first old served last (deed.calls ++ calls_then deeds more) is
      (made-first served mid last deed.calls (calls_then deeds more) (subst (λ calls. AreMade g served calls mid) same does.made) (deeds-served Needs Does mid new last deeds more others rest))
