-- What is promised of a page where its message was written to the log, where the log refused it, and where none was told to it.
use Rattle.sled_pagecache.proofs.Names.{Appended, ◌≡◌, ◌≢◌, ◌<◌, ◌+◌, ℕ, true, false, List, [], ◌∷◌, length, refl, ◌∙◌, subst, inl, Ok, Err, Refusal, OutOfMemory, Why, LogFull, Change, Update, Put, Message, Messages, effect_of, effect_of_entry, now, IsLeft, unplaced_state, IsUpdate, message_of, head_size, Ghosts, StickyLog, Accesses, CacheInfo, Page, PageContent, chain_at, Went, Went-none, IsCaused-handed_on, IsOfLog, WasAccessed, IsTouched, capped_size, CanPut, content_of, WritesMessage, Wrote, WritesMap, RefusesAppend, arith, Result, Token, pid_of, stamp_of, token, writer}
use Rattle.sled_base.specs.declared.types.Refusal.TheVariants.{Unsupported}
use Rattle.sled_pagecache.proofs.Links.LinkedChains.{begun-handed}
use Rattle.sled_pagecache.proofs.Sizes.ChainSizes.{size-alone}
use Rattle.sled_pagecache.proofs.Table.SwappedChains.{at-page, other-pages, put-chains, kept-put}

module _ {L : Type 0} (g : Ghosts L) where
  -- what is written where the page gets a token is written on its page, at its stamp
  pub writes-at : {old new : StickyLog L} {pid stamp : ℕ} {given : Token} {m : Message} {result : Result CacheInfo Refusal} → given ≡ token pid stamp
      → WritesMessage g old new (pid_of given) m (stamp_of given) result → WritesMessage g old new pid m stamp result
  writes-at {old} {new} {m = m} {result = result} is = subst (λ t. WritesMessage g old new (pid_of t) m (stamp_of t) result) is

  -- ---- nothing was told to the log

  module _ {old : StickyLog L} (clear : old.fault ≡ false) (usable : (g.state old.log).usable ≡ true)
      (only : (pages : List Messages) → g.tells → (g.state old.log).usable ≡ true → g.left_since old.log (g.moment old.log) pages → IsLeft effect_of (unplaced_state (g.state old.log)) [] pages) where
    pub writes-none : {pid : ℕ} {m : Message} {stamp : ℕ} → WritesMessage g old old pid m stamp (Err OutOfMemory)
    writes-none = grind (arith, Went-none g old usable only)

    pub writes-no-map : {accesses : Accesses} {payload : List ℕ} {stamp : ℕ} → WritesMap g (writer old accesses) (writer old accesses) payload stamp (Err OutOfMemory)
    writes-no-map = record { writes = writes-none; accessed = tt; touched = inl refl }

    -- memory ran out
    pub refuses-memory : {pid : ℕ} {update : Update} {accesses then : Accesses} {why : Refusal → Type 0} {stays : Type 0} → IsUpdate (message_of update) update → why OutOfMemory → stays → IsTouched accesses pid then
        → RefusesAppend g pid update old old accesses then why stays OutOfMemory
    refuses-memory is why left touched = grind (arith, Went-none g old usable only)

    -- nothing was asked for
    pub refuses-unasked : {pid : ℕ} {update : Update} {accesses : Accesses} {why : Refusal → Type 0} {stays : Type 0} (reason : Why) → reason ≢ LogFull → IsUpdate (message_of update) update → why (Unsupported reason) → stays
        → RefusesAppend g pid update old old accesses accesses why stays (Unsupported reason)
    refuses-unasked reason other is why left = grind (arith, Went-none g old usable only)

  -- ---- the log refused it

  pub refuses-written : {pid : ℕ} {update : Update} {stamp : ℕ} {old new : StickyLog L} {accesses then : Accesses} {refusal : Refusal} {why : Refusal → Type 0} {stays : Type 0} → Wrote g old new pid update stamp (Err refusal)
      → (IsOfLog refusal → why refusal) → stays → IsTouched accesses pid then → RefusesAppend g pid update old new accesses then why stays refusal
  refuses-written {pid} {update} {stamp} {old} {new} {accesses} {then} {refusal} wrote why left touched =
      let writes = wrote.writes in
      let went = subst (Went g old new) (begun-handed CacheInfo (Unit {0}) refusal (Change pid (message_of update) ∷ [])) writes.went in
      let cause = IsCaused-handed_on g {U = Unit {0}} old new (g.is_full old.log (length (message_of update).payload)) refusal writes.cause in
      grind arith

  -- ---- the page holds it

  pub makes-written : {pid stamp : ℕ} {old new : StickyLog L} {accesses then : Accesses} {page : Page} {info : CacheInfo} {size : ℕ} {stamped : Type 0} (held : PageContent) → CanPut held → Wrote g old new pid (Put (content_of held)) stamp (Ok info)
      → (g.tells → pid < length (now effect_of_entry (g.state old.log))) → stamped → page.stamp ≡ stamp → page.infos.items ≡ info ∷ [] → page.kept ≡ held
      → size ≡ capped_size (head_size + length (message_of (Put (content_of held))).payload) → WasAccessed accesses pid size then
      → Appended g pid (Put (content_of held)) old new accesses then page held stamped
  makes-written {pid} {stamp} {old} {new} {accesses} {then} {page} {info} {size} held can wrote there raised at infos holds takes accessed =
      let writes = wrote.writes in
      let set = λ (told : g.tells). writes.chains told ∙ put-chains _ pid (there told) held can info in
      let others = λ (told : g.tells). other-pages _ pid (there told) _ _ (set told) in
      let kept = λ (told : g.tells). kept-put (chain_at (g.state new.log) pid) page held can info (at-page _ pid (there told) _ _ (set told)) infos holds wrote.is in
      let accessed = subst (λ n. WasAccessed accesses pid n then) (takes ∙ size-alone page.infos.items info (length (message_of (Put (content_of held))).payload) infos writes.size.0) accessed in
      grind arith
