-- The pages of a map are gathered, and freed.
use Rattle.std.proofs.Common.{◌≡◌, ◌≢◌, ◌∙◌, ◌⊎◌, inl, inr, ℕ, suc, List, [], ◌∷◌, ◌++◌, Result, Ok, Err, slice_set, slice_index_or, sym, ap, subst, arith}
use Rattle.std.proofs.lemmas.List.Elements.{All-append, All-cons}
use Rattle.std.specs.Prelude.{IfOk}
use Rattle.sled_base.specs.Order.{Bytes}
use Rattle.sled_base.specs.declared.types.Error.{Error}
use Rattle.sled_log.specs.Contents.{Content, Free, Update}
use Rattle.sled_log.specs.Events.{Event}
use Rattle.sled_log.specs.declared.log.Log.{Ghosts}
use Rattle.sled_node.specs.Node.{WholeNode}
use Rattle.sled_pagecache.specs.Cache.{Cache, chain_length}
use Rattle.sled_pagecache.specs.Calls.{HasNoRoom}
use Rattle.sled_pagecache.specs.Limits.{meta_pid}
use Rattle.sled_pagecache.specs.Rows.{IsMade}
use Rattle.sled_pagecache.specs.State.{State, contents_of, Token}
use Rattle.sled_pagecache.specs.Step.{Outcome, Swapped}
use Rattle.sled_pagecache.specs.declared.pagecache.handles.call.Answer.TheVariants.{Freed}
use Rattle.sled_pagecache.specs.declared.pagecache.handles.call.Call.TheVariants as call
use Rattle.sled_search.specs.Maps.{ChangesOne, IsOff, Reaches}
use Rattle.sled_search.specs.Search.{HasNodeAt, LeadsTo}
use Rattle.sled_search.proofs.Off.{all-off, stays-off}
use Rattle.sled_search.proofs.OneOfMany.{set-one}
use Rattle.sled_search.proofs.Search.{goes-then}
use Rattle.sled_tree.specs.Changed.{EndsSwap}
use Rattle.sled_tree.specs.Dropping.{AreLoose, AreReached, Frees, LeadsOn}
use Rattle.sled_tree.specs.declared.freeing.Stop.{Stop}
use Rattle.sled_tree.specs.Named.{Named, AreNamed}
use Rattle.sled_tree.specs.Performs.{Performs}
use Rattle.sled_tree.specs.Walks.{Leads}
use Rattle.sled_tree.proofs.Keeping.{Kept, change-keeps, kept-then, made-kept, quiet-keeps}
use Rattle.sled_tree.proofs.Naming.{names-other}
use Rattle.sled_tree.proofs.Outcomes.{frees}
use Rattle.sled_tree.proofs.Performing.{Answers, one, stuck-swap, weaker}

-- ---- one is freed

module _ {L : Type 0} (g : Ghosts L) (old new : Cache L) (page : Token) (answer : Swapped (Unit {0})) where
  pub freed : IsMade g old (call.Free page) (Freed answer) new → Performs g (Frees page) old new
  freed made = weaker g (Answers g (call.Free page) (Freed answer)) (Frees page) old new by (one g old new (call.Free page) (Freed answer) made)
    where
      by : (s t : State) (events : List (Event Update)) → Answers g (call.Free page) (Freed answer) s events t → Frees page s events t
      by s t events (cache, out, step, is, then_is) = record {
        stuck = λ kept.
            let same = (stuck-swap g s out page tt answer _ step kept).1 in
            (is ∙ ap (λ (o : Outcome). o.changes) same, then_is ∙ ap (λ (o : Outcome). o.state) same);
        answer = answer;
        ends =
            let ends = frees s out (chain_length g.state cache) (HasNoRoom g cache.log) page answer step in
            subst (λ (es : List (Event Update)). EndsSwap answer s (slice_set (contents_of s) page.pid Free) es t) (sym is)
            (subst (λ (u : State). EndsSwap answer s (slice_set (contents_of s) page.pid Free) out.changes u) (sym then_is) ends);
      }

-- what a page that is freed leaves
abbrev IsLoose : ℕ → List Content → Named → Type 0
IsLoose page pages w = (page ≢ meta_pid) × IsOff pages w.maps page

module _ (page : ℕ) (pages : List Content) (w : Named) (are : AreNamed pages w) (loose : IsLoose page pages w) where
  abbrev less : List Content
  less = slice_set pages page Free

  one-free : ChangesOne pages page less
  one-free = set-one pages page Free

  left-named : AreNamed less w
  left-named = record { names = names-other pages w.names are.names page loose.0 Free; trees = all-off pages less w.maps page are.trees loose.1 one-free }

  -- it is let go itself
  still-loose : (tokens : List Token) → AreLoose tokens pages w → AreLoose tokens less w
  still-loose tokens so = λ k d lt. ((so k d lt).0, stays-off pages less w.maps page loose.1 one-free (slice_index_or tokens k d).pid (so k d lt).1)

module _ (tokens : List Token) (page : Token) (is_one : (pages : List Content) (w : Named) → AreLoose tokens pages w → IsLoose page.pid pages w) where
  frees-kept : (s t : State) (events : List (Event Update)) → Frees page s events t → Kept (AreLoose tokens) (AreLoose tokens) s events t
  frees-kept s t events h = by h.answer h.ends
    where
      changed : List Content
      changed = slice_set (contents_of s) page.pid Free

      stays : contents_of t ≡ contents_of s → (w : Named) → AreNamed (contents_of s) w → AreLoose tokens (contents_of s) w → AreLoose tokens (contents_of t) w
      stays same w are so = subst (λ (ps : List Content). AreLoose tokens ps w) (sym same) so

      named : (w : Named) → AreNamed (contents_of s) w → AreLoose tokens (contents_of s) w → AreNamed changed w
      named w are so = left-named page.pid (contents_of s) w are (is_one (contents_of s) w so)

      by : (answer : Swapped (Unit {0})) → EndsSwap answer s changed events t → Kept (AreLoose tokens) (AreLoose tokens) s events t
      by (Ok (Ok made)) ends = made-kept (AreLoose tokens) s t changed events h.stuck (AreLoose tokens) ends
          (λ w are so. (named w are so, still-loose page.pid (contents_of s) w are (is_one (contents_of s) w so) tokens so))
      by (Ok (Err back)) ends = record { keeps = quiet-keeps (AreLoose tokens) s t events (ends.1, ends.0, λ kept. (h.stuck kept).1); leaves = stays ends.0 }
      by (Err e) ends = record { keeps = change-keeps (AreLoose tokens) s t changed events h.stuck {T = Unit {0}} {E = Error} (Err e) ends named; leaves = stays ends.0 }

  -- behind others
  pub frees-on : {L : Type 0} (g : Ghosts L) (old mid new : Cache L) → Performs g (Kept (AreLoose tokens) (AreLoose tokens)) old mid → Performs g (Frees page) mid new → Performs g (Kept (AreLoose tokens) (AreLoose tokens)) old new
  frees-on g old mid new so_far more = kept-then g (AreLoose tokens) (AreLoose tokens) (AreLoose tokens) (Frees page) old mid new frees-kept so_far more

-- ---- they are gathered

-- the search for the key is at this page, and what was found is reached if what was found before it is
abbrev pub Gathers : Bytes → ℕ → ℕ → List Token → List Token → List Content → Type 0
Gathers key root at before found pages = Leads pages key root at × (AreReached root before pages → AreReached root found pages)

none-reached : (root : ℕ) (pages : List Content) → AreReached root [] pages
none-reached root pages k d lt = absurd (omega (arith, lt))

reaches-by : (pages : List Content) (key : Bytes) (root page : ℕ) → Leads pages key root page → Reaches pages root page
reaches-by pages key root page leads = (key, leads.0, leads.1)

gathers-stop : (key : Bytes) (root at : ℕ) (before found : List Token) (token : Token) (pages : List Content) → Gathers key root at before found pages → token.pid ≡ at → Gathers key root at before (found ++ token ∷ []) pages
gathers-stop key root at before found token pages h is = (
  h.0,
  λ were.
      let Is : Token → Type 0 = λ (t : Token). Reaches pages root t.pid in
      All-append Is found (token ∷ []) (h.1 were) (All-cons Is token [] (reaches-by pages key root token.pid (subst (λ (p : ℕ). Leads pages key root p) (sym is) h.0)) (none-reached root pages)),
)

-- the page is put behind the others, or isn't
pub gathers-put : (key : Bytes) (root at : ℕ) (before found more : List Token) (token : Token) (pages : List Content) → Gathers key root at before found pages → token.pid ≡ at → (more ≡ found) ⊎ (more ≡ found ++ token ∷ []) → Gathers key root at before more pages
gathers-put key root at before found more token pages h is (inl same) = subst (λ (ts : List Token). Gathers key root at before ts pages) (sym same) h
gathers-put key root at before found more token pages h is (inr put) = subst (λ (ts : List Token). Gathers key root at before ts pages) (sym put) (gathers-stop key root at before found token pages h is)

pub gathers-on : (key : Bytes) (root at next : ℕ) (before found : List Token) (pages : List Content) → Gathers key root at before found pages → HasNodeAt pages at (λ n. LeadsTo n key next) → Gathers key root next before found pages
gathers-on key root at next before found pages h leads = ((suc h.0.0, goes-then pages key h.0.0 root at next h.0.1 leads), h.1)

-- a stop at the page of the token
pub stops : {E : Type 0} (key : Bytes) (pid : ℕ) (token : Token) (n : WholeNode) → token.pid ≡ pid → (result : Result Stop E) → IfOk result (λ stop. stop.token ≡ token) → IfOk result (λ stop. LeadsOn key n stop.way)
    → IfOk result (λ stop. (stop.token.pid ≡ pid) × LeadsOn key n stop.way)
stops key pid token n of-pid (Ok stop) is way = (ap (λ (t : Token). t.pid) is ∙ of-pid, way)
stops key pid token n of-pid (Err e) is way = tt
