-- Calls of the cache one after another, and what one of them does.
use Rattle.std.proofs.Common.{◌≡◌, inl, ℕ, true, List, [], ◌∷◌, ◌++◌, nat_lt, Option, None, Some, Result, Ok, Err, slice_get, slice_set, refl, sym, ◌∙◌, ap, subst}
use Rattle.std.specs.Prelude.{MatchBool, IfOk, IfSome, IsOk, IsErr, ⊤}
use Rattle.std.proofs.lemmas.Bool.{false≢true}
use Rattle.std.proofs.lemmas.Grind.{flat_map-append}
use Rattle.std.proofs.lemmas.List.{append-nil}
use Rattle.sled_base.specs.declared.types.Error.{Error}
use Rattle.sled_base.specs.declared.types.Refusal.{Refusal}
use Rattle.sled_log.specs.Contents.{Content, Node, Update, Put, contents_with}
use Rattle.sled_log.specs.Events.{Event}
use Rattle.sled_log.specs.declared.log.Log.{Ghosts}
use Rattle.sled_node.specs.Links.{applied}
use Rattle.sled_node.specs.Node.{WholeNode}
use Rattle.sled_node.specs.declared.node.link.Link.{Link as NodeLink}
use Rattle.sled_pagecache.specs.Answers.{Keeps, stamps_with}
use Rattle.sled_pagecache.specs.Cache.{Cache, chain_length}
use Rattle.sled_pagecache.specs.Calls.{HasNoRoom, HasNoRoomAgain, IsBehind, IsBlamed, StepOver, Steps}
use Rattle.sled_pagecache.specs.Due.{due_in}
use Rattle.sled_pagecache.specs.Lending.{IsGot, lent_answer}
use Rattle.sled_pagecache.specs.Limits.{most_messages}
use Rattle.sled_pagecache.specs.Rows.{IsMade, AreMade, changes_of}
use Rattle.sled_pagecache.specs.State.{State, contents_of, Token}
use Rattle.sled_pagecache.specs.Step.{Outcome, no_change, Swapped, Swaps, TidiesIfSwapped}
use Rattle.sled_pagecache.specs.declared.pagecache.handles.call.Answer.{Answer}
use Rattle.sled_pagecache.specs.declared.pagecache.handles.call.Answer.TheVariants.{Allocated, Got, Linked, Replaced}
use Rattle.sled_pagecache.specs.declared.pagecache.handles.call.Call.{Call}
use Rattle.sled_pagecache.specs.declared.pagecache.handles.call.Call.TheVariants as call
use Rattle.sled_pagecache.specs.declared.pagecache.handles.view.NodeView.{NodeView}
use Rattle.sled_search.specs.Search.{HasNodeAt}
use Rattle.sled_tree.specs.Changed.{Reads, Adds, Ends, EndsSwap}
use Rattle.sled_tree.specs.Performs.{Performs, Runs}
use Rattle.sled_tree.proofs.Lists.{split}
use Rattle.sled_tree.proofs.Idle.{quiet-gets, found}
use Rattle.sled_tree.proofs.Outcomes.{allocates, replaces, links, if-swapped}

-- what is so of a state, of what was written since, and of the state then
abbrev pub Deed : Type 1
Deed = State → List (Event Update) → State → Type 0

-- one after the other
abbrev pub Then : Deed → Deed → Deed
Then First Later s events t = (mid : State) × (first : List (Event Update)) × (later : List (Event Update)) × (events ≡ first ++ later) × First s first mid × Later mid later t

-- nothing is done, and this is so of the pages
pub record On (P : List Content → Type 0) (s : State) (events : List (Event Update)) (t : State) : Type 0 where
  pub none : events ≡ []
  pub same : t ≡ s
  pub is : P (contents_of s)

-- nothing is written, and no page changes
abbrev pub Quiet : Deed
Quiet s events t = (events ≡ []) × (contents_of t ≡ contents_of s) × (s.fault ≡ true → t ≡ s)

-- with a write fault kept nothing is done
abbrev pub Stuck : Deed
Stuck s events t = s.fault ≡ true → (events ≡ []) × (t ≡ s)

-- The node is put on a page that had none; or the call is refused.
pub record Allots {E : Type 0} (node : WholeNode) (result : Result (ℕ × Token) E) (s : State) (events : List (Event Update)) (t : State) : Type 0 where
  pub stuck : Stuck s events t
  pub pid : ℕ
  pub adds : Adds (contents_of s) pid
  pub ends : Ends result s (contents_with (contents_of s) pid (Put (Node node))) events t
  pub is : IfOk result (λ made. made.0 ≡ pid)

module _ {L : Type 0} (g : Ghosts L) where
  -- ---- calls one after another

  record IsCut (s t : State) (calls others : List (Call × Answer)) (outs : List Outcome) : Type 0 where
    pub mid : State
    pub first : List Outcome
    pub later : List Outcome
    pub is : outs ≡ first ++ later
    pub before : Runs g s calls first mid
    pub behind : Runs g mid others later t

  cut : (calls others : List (Call × Answer)) (s t : State) (outs : List Outcome) → Runs g s (calls ++ others) outs t → IsCut s t calls others outs
  cut [] others s t outs runs = record { mid = s; first = []; later = outs; is = refl; before = refl; behind = runs }
  cut (made ∷ calls) others s t [] runs = absurd runs
  cut (made ∷ calls) others s t (out ∷ outs) (cache, step, rest) =
      let it = cut calls others out.state t outs rest in
      record { mid = it.mid; first = out ∷ it.first; later = it.later; is = ap (λ (os : List Outcome). out ∷ os) it.is; before = (cache, step, it.before); behind = it.behind }

  made-more : (calls others : List (Call × Answer)) (old mid new : Cache L) → AreMade g old calls mid → AreMade g mid others new → AreMade g old (calls ++ others) new
  made-more [] others old mid new first later = subst (λ (c : Cache L). AreMade g c others new) first later
  made-more (made ∷ calls) others old mid new (c, is, rest) later = (c, is, made-more calls others c mid new rest later)

  pub then : (First Later : Deed) (old mid new : Cache L) → Performs g First old mid → Performs g Later mid new → Performs g (Then First Later) old new
  then First Later old mid new a b = record {
    calls = a.calls ++ b.calls;
    made = made-more a.calls b.calls old mid new a.made b.made;
    so = λ s t outs runs. let it = cut a.calls b.calls s t outs runs in (
      it.mid,
      changes_of it.first,
      changes_of it.later,
      ap changes_of it.is ∙ flat_map-append (λ (out : Outcome). out.changes) it.first it.later,
      a.so s it.mid it.first it.before,
      b.so it.mid t it.later it.behind,
    );
  }

  unfoldable pub weaker : (Is Also : Deed) (old new : Cache L) → ((s t : State) (events : List (Event Update)) → Is s events t → Also s events t) → Performs g Is old new → Performs g Also old new
  weaker Is Also old new into h = record { calls = h.calls; made = h.made; so = λ s t outs runs. into s t (changes_of outs) (h.so s t outs runs) }

  -- the same from the cache by another name
  pub from-same : {Is : Deed} {old same new : Cache L} → old ≡ same → Performs g Is old new → Performs g Is same new
  from-same {Is = Is} {new = new} e h = subst (λ (c : Cache L). Performs g Is c new) e h

  -- ---- no call, and one

  pub nothing : (c : Cache L) → Performs g (On (λ _. ⊤)) c c
  nothing c = record { calls = []; made = refl; so = by }
    where
      by : (s t : State) (outs : List Outcome) → Runs g s [] outs t → On (λ _. ⊤) s (changes_of outs) t
      by s t [] is = record { none = refl; same = is; is = tt }
      by s t (out ∷ outs) runs = absurd runs

  abbrev pub Answers : Call → Answer → Deed
  Answers asked answer s events t = (cache : Cache L) × (out : Outcome) × StepOver g cache s asked answer out × (events ≡ out.changes) × (t ≡ out.state)

  unfoldable pub one : (old new : Cache L) (asked : Call) (answer : Answer) → IsMade g old asked answer new → Performs g (Answers asked answer) old new
  one old new asked answer made = record { calls = (asked, answer) ∷ []; made = (new, made, refl); so = by }
    where
      by : (s t : State) (outs : List Outcome) → Runs g s ((asked, answer) ∷ []) outs t → Answers asked answer s (changes_of outs) t
      by s t [] runs = absurd runs
      by s t (out ∷ []) (cache, step, is) = (cache, out, step, append-nil out.changes, is)
      by s t (out ∷ next ∷ outs) (cache, step, rest) = absurd rest

  -- ---- reading

  module _ (old new : Cache L) (pid : ℕ) (result : Result (Option NodeView) Refusal) (got : IsGot g old pid result new) where
    got-made : IsMade g old (call.Get pid) (Got (lent_answer result)) new
    got-made = record { step = got.step; bytes = tt; faults = got.blame; covered = tt; keeps = got.keeps }

    pub got-any : Performs g Quiet old new
    got-any = weaker (Answers (call.Get pid) (Got (lent_answer result))) Quiet old new by (one old new (call.Get pid) (Got (lent_answer result)) got-made)
      where
        by : (s t : State) (events : List (Event Update)) → Answers (call.Get pid) (Got (lent_answer result)) s events t → Quiet s events t
        by s t events (cache, out, step, is, then_is) =
            let quiet = quiet-gets s out pid (lent_answer result) step in
            (is ∙ quiet.none, ap contents_of then_is ∙ quiet.same, λ kept. then_is ∙ quiet.stuck kept)

  pub got-node : (old new : Cache L) (pid : ℕ) (view : NodeView) → IsGot g old pid (Ok (Some view)) new → Performs g (On (λ pages. slice_get pages pid ≡ Some (Node view.node.now))) old new
  got-node old new pid view got = weaker (Answers (call.Get pid) (Got (Ok (Some (view.token, view.node.now))))) (On (λ pages. slice_get pages pid ≡ Some (Node view.node.now))) old new by (one old new (call.Get pid) (Got (Ok (Some (view.token, view.node.now)))) (got-made old new pid (Ok (Some view)) got))
    where
      by : (s t : State) (events : List (Event Update)) → Answers (call.Get pid) (Got (Ok (Some (view.token, view.node.now)))) s events t → On (λ pages. slice_get pages pid ≡ Some (Node view.node.now)) s events t
      by s t events (cache, out, step, is, then_is) =
          let it = found s pid view.token view.node.now out step in
          record { none = is ∙ ap (λ (o : Outcome). o.changes) it.same; same = then_is ∙ ap (λ (o : Outcome). o.state) it.same; is = it.there }

  -- ---- what was read

  module _ {T E : Type 0} (Is : List Content → T → Type 0) where
    pub reads-ok : (old new : Cache L) (answer : T) → Performs g (On (λ pages. Is pages answer)) old new → Performs g (Reads {E = E} (Ok answer) Is) old new
    reads-ok old new answer h = weaker (On (λ pages. Is pages answer)) (Reads {E = E} (Ok answer) Is) old new (λ s t events is. record { none = is.none; same = ap contents_of is.same; stuck = λ _. is.same; is = (is.same, is.is) }) h

    pub reads-err : (old new : Cache L) (e : E) → Performs g Quiet old new → Performs g (Reads {T = T} (Err e) Is) old new
    reads-err old new e h = weaker Quiet (Reads {T = T} (Err e) Is) old new (λ s t events is. record { none = is.0; same = is.1; stuck = is.2; is = tt }) h

    pub reads-so : (old new : Cache L) (answer : T) → Performs g (Reads {E = E} (Ok answer) Is) old new → Performs g (On (λ pages. Is pages answer)) old new
    reads-so old new answer h = weaker (Reads {E = E} (Ok answer) Is) (On (λ pages. Is pages answer)) old new (λ s t events is. record { none = is.none; same = is.is.0; is = is.is.1 }) h

  pub reads-quiet : {T E : Type 0} (Is : List Content → T → Type 0) (result : Result T E) (old new : Cache L) → Performs g (Reads result Is) old new → Performs g Quiet old new
  reads-quiet Is result old new h = weaker (Reads result Is) Quiet old new (λ s t events is. (is.none, is.same, is.stuck)) h

  pub on-weaker : (P Q : List Content → Type 0) (old new : Cache L) → ((pages : List Content) → P pages → Q pages) → Performs g (On P) old new → Performs g (On Q) old new
  on-weaker P Q old new into h = weaker (On P) (On Q) old new (λ s t events is. record { none = is.none; same = is.same; is = into (contents_of s) is.is }) h

  -- what was read says more, and an error would be of another kind
  pub reads-as : {T E F : Type 0} {Was Is : List Content → T → Type 0} {answer : T} {old new : Cache L} → ((pages : List Content) → Was pages answer → Is pages answer)
      → Performs g (Reads {E = E} (Ok answer) Was) old new → Performs g (Reads {E = F} (Ok answer) Is) old new
  reads-as {Was = Was} {Is = Is} {answer = answer} {old = old} {new = new} into h =
      reads-ok Is old new answer (on-weaker (λ pages. Was pages answer) (λ pages. Is pages answer) old new into (reads-so Was old new answer h))

  -- ---- looking at a page

  module _ {old new : Cache L} {pid : ℕ} {found : Result (Option NodeView) Refusal} (got : IsGot g old pid found new) where
    -- a page with no node, or one that was refused: nothing is said of it
    pub looks-err : {T E : Type 0} {Is : List Content → T → Type 0} {e : E} → Performs g (Reads (Err e) Is) old new
    looks-err {Is = Is} {e = e} = reads-err Is old new e (got-any old new pid found got)

    -- a page with a node
    module _ {seen : Option NodeView} {view : NodeView} (answered : found ≡ Ok seen) (some : seen ≡ Some view) where
      got-view : IsGot g old pid (Ok (Some view)) new
      got-view = subst (λ (o : Option NodeView). IsGot g old pid (Ok o) new) some (subst (λ (r : Result (Option NodeView) Refusal). IsGot g old pid r new) answered got)

      -- the token is that of the page
      pub looks-token : {token : Token} → token ≡ view.token → token.pid ≡ pid
      looks-token same = ap (λ (t : Token). t.pid) same ∙ got-view.token

      module _ {n : WholeNode} (same : n ≡ view.node.now) where
        -- what a function of the node answers is so of the page
        pub looks : {T E : Type 0} {Is : List Content → T → Type 0} {Said : T → Type 0} {result : Result T E}
            → ((pages : List Content) → slice_get pages pid ≡ Some (Node n) → (answer : T) → Said answer → Is pages answer) → IfOk result Said → Performs g (Reads result Is) old new
        looks {Is = Is} {result = Ok answer} into said = reads-ok Is old new answer
            (on-weaker (λ pages. slice_get pages pid ≡ Some (Node view.node.now)) (λ pages. Is pages answer) old new
            (λ pages there. into pages (there ∙ ap (λ (k : WholeNode). Some (Node k)) (sym same)) answer said) (got-node old new pid view got-view))
        looks {result = Err e} into said = looks-err

        -- what is so of the node alone
        pub looks-at : {T E : Type 0} {Is : WholeNode → T → Type 0} {result : Result T E} → IfOk result (Is n) → Performs g (Reads result (λ pages answer. HasNodeAt pages pid (λ k. Is k answer))) old new
        looks-at {Is = Is} said = looks {Said = Is n} (λ pages there answer is. (n, there, is)) said

        -- the same of an answer that may be none
        pub looks-for : {T E : Type 0} {Is : T → WholeNode → Type 0} {result : Result (Option T) E} → IfOk result (λ made. IfSome made (λ it. Is it n))
            → Performs g (Reads result (λ pages made. IfSome made (λ it. HasNodeAt pages pid (Is it)))) old new
        looks-for {T} {Is = Is} said = looks {Said = λ made. IfSome made (λ it. Is it n)} (λ pages there made is. by pages there made is) said
          where
            by : (pages : List Content) → slice_get pages pid ≡ Some (Node n) → (made : Option T) → IfSome made (λ it. Is it n) → IfSome made (λ it. HasNodeAt pages pid (Is it))
            by pages there None is = tt
            by pages there (Some it) is = (n, there, is)

  -- an error, wherever it comes from
  pub reads-fail : {T E : Type 0} (Is : List Content → T → Type 0) (result : Result T E) (old new : Cache L) → IsErr result → Performs g Quiet old new → Performs g (Reads result Is) old new
  reads-fail Is (Ok answer) old new failed h = absurd (false≢true failed)
  reads-fail Is (Err e) old new failed h = reads-err Is old new e h

  -- one is so, then the other, and both give a third
  pub on-then : (P Q R : List Content → Type 0) (old mid new : Cache L) → ((pages : List Content) → P pages → Q pages → R pages) → Performs g (On P) old mid → Performs g (On Q) mid new → Performs g (On R) old new
  on-then P Q R old mid new both first later = weaker (Then (On P) (On Q)) (On R) old new by (then (On P) (On Q) old mid new first later)
    where
      by : (s t : State) (events : List (Event Update)) → Then (On P) (On Q) s events t → On R s events t
      by s t events (middle, before, behind, is, p, q) = record {
        none = is ∙ ap (λ (es : List (Event Update)). es ++ behind) p.none ∙ q.none;
        same = q.same ∙ p.same;
        is = both (contents_of s) p.is (subst (λ (u : State). Q (contents_of u)) p.same q.is);
      }

  pub on-quiet : (P : List Content → Type 0) (old mid new : Cache L) → Performs g (On P) old mid → Performs g Quiet mid new → Performs g Quiet old new
  on-quiet P old mid new first later = weaker (Then (On P) Quiet) Quiet old new by (then (On P) Quiet old mid new first later)
    where
      by : (s t : State) (events : List (Event Update)) → Then (On P) Quiet s events t → Quiet s events t
      by s t events (middle, before, behind, is, p, q) = (
        is ∙ ap (λ (es : List (Event Update)). es ++ behind) p.none ∙ q.0,
        q.1 ∙ ap contents_of p.same,
        λ kept. q.2 (subst (λ (u : State). u.fault ≡ true) (sym p.same) kept) ∙ p.same,
      )

  pub on-any : (P : List Content → Type 0) (old new : Cache L) → Performs g (On P) old new → Performs g Quiet old new
  on-any P old new h = weaker (On P) Quiet old new (λ s t events is. (is.none, ap contents_of is.same, λ _. is.same)) h

  -- ---- writing

  pub stuck-swap : {R : Type 0} (s : State) (out : Outcome) (old : Token) (rejected : R) (answer : Swapped R) (goes_on : Content → Type 0) → Swaps s old rejected answer out goes_on → s.fault ≡ true → (answer ≡ Err (Rattle.sled_base.specs.declared.types.Error.TheVariants.Io Rattle.sled_base.specs.declared.types.Device.TheVariants.Write)) × (out ≡ no_change s)
  stuck-swap s out old rejected answer goes_on step kept = split s.fault step (λ _ h. h) (λ clear h. absurd (false≢true (sym clear ∙ kept)))

  stuck-tidied : {R : Type 0} (cache : Cache L) (s : State) (swap out : Outcome) (answer : Swapped R) (e : Error) → answer ≡ Err e → swap ≡ no_change s → TidiesIfSwapped (due_in g cache.config) (HasNoRoomAgain g) (IsBehind g cache.log) answer swap out → out ≡ no_change s
  stuck-tidied cache s swap out (Ok (Ok made)) e is same h = absurd (let f = is in cc)
  stuck-tidied cache s swap out (Ok (Err back)) e is same h = absurd (let f = is in cc)
  stuck-tidied cache s swap out (Err other) e is same h = h ∙ same

  -- the node that a link makes of that on the page
  abbrev pub LinkEnds : Token → NodeLink → Swapped NodeLink → Deed
  LinkEnds token link answer s events t = (n : WholeNode) → slice_get (contents_of s) token.pid ≡ Some (Node n) → EndsSwap answer s (slice_set (contents_of s) token.pid (Node (applied link n))) events t

  pub linked : (old new : Cache L) (token : Token) (link : NodeLink) (answer : Swapped NodeLink) → IsMade g old (call.Link token link) (Linked answer) new
      → Performs g (λ s events t. Stuck s events t × LinkEnds token link answer s events t) old new
  linked old new token link answer made = weaker (Answers (call.Link token link) (Linked answer)) (λ s events t. Stuck s events t × LinkEnds token link answer s events t) old new by (one old new (call.Link token link) (Linked answer) made)
    where
      of-swap : (cache : Cache L) (s : State) (swap out : Outcome) (n : WholeNode) → EndsSwap answer s (slice_set (contents_of s) token.pid (Node (applied link n))) swap.changes swap.state
          → MatchBool (nat_lt (chain_length g.state cache token.pid) most_messages) (out ≡ swap) (TidiesIfSwapped (due_in g cache.config) (HasNoRoomAgain g) (IsBehind g cache.log) answer swap out)
          → EndsSwap answer s (slice_set (contents_of s) token.pid (Node (applied link n))) out.changes out.state
      of-swap cache s swap out n ends h =
          split (nat_lt (chain_length g.state cache token.pid) most_messages) h
          (λ _ same. subst (λ (o : Outcome). EndsSwap answer s (slice_set (contents_of s) token.pid (Node (applied link n))) o.changes o.state) (sym same) ends)
          (λ _ behind. if-swapped (due_in g cache.config) (HasNoRoomAgain g) (IsBehind g cache.log) s swap out (slice_set (contents_of s) token.pid (Node (applied link n))) answer ends behind)

      by : (s t : State) (events : List (Event Update)) → Answers (call.Link token link) (Linked answer) s events t → Stuck s events t × LinkEnds token link answer s events t
      by s t events (cache, out, (swap, act, behind), is, then_is) = (
        λ kept.
            let none = stuck-swap s swap token link answer _ act kept in
            let same : out ≡ no_change s = split (nat_lt (chain_length g.state cache token.pid) most_messages) behind (λ _ h. h ∙ none.1) (λ _ h. stuck-tidied cache s swap out answer _ none.0 none.1 h) in
            (is ∙ ap (λ (o : Outcome). o.changes) same, then_is ∙ ap (λ (o : Outcome). o.state) same),
        λ n there.
            let ends = of-swap cache s swap out n (links s swap (chain_length g.state cache) (HasNoRoom g cache.log) token link answer n there act) behind in
            subst (λ (es : List (Event Update)). EndsSwap answer s (slice_set (contents_of s) token.pid (Node (applied link n))) es t) (sym is)
            (subst (λ (u : State). EndsSwap answer s (slice_set (contents_of s) token.pid (Node (applied link n))) out.changes u) (sym then_is) ends),
      )

  pub replaced : (old new : Cache L) (token : Token) (node : WholeNode) (answer : Swapped WholeNode) → IsMade g old (call.Replace token node) (Replaced answer) new
      → Performs g (λ s events t. Stuck s events t × EndsSwap answer s (slice_set (contents_of s) token.pid (Node node)) events t) old new
  replaced old new token node answer made = weaker (Answers (call.Replace token node) (Replaced answer)) (λ s events t. Stuck s events t × EndsSwap answer s (slice_set (contents_of s) token.pid (Node node)) events t) old new by (one old new (call.Replace token node) (Replaced answer) made)
    where
      by : (s t : State) (events : List (Event Update)) → Answers (call.Replace token node) (Replaced answer) s events t → Stuck s events t × EndsSwap answer s (slice_set (contents_of s) token.pid (Node node)) events t
      by s t events (cache, out, (swap, act, behind), is, then_is) = (
        λ kept.
            let none = stuck-swap s swap token node answer _ act kept in
            let same : out ≡ no_change s = stuck-tidied cache s swap out answer _ none.0 none.1 behind in
            (is ∙ ap (λ (o : Outcome). o.changes) same, then_is ∙ ap (λ (o : Outcome). o.state) same),
        let ends = if-swapped (due_in g cache.config) (HasNoRoomAgain g) (IsBehind g cache.log) s swap out (slice_set (contents_of s) token.pid (Node node)) answer (replaces s swap (chain_length g.state cache) (HasNoRoom g cache.log) token node answer act) behind in
            subst (λ (es : List (Event Update)). EndsSwap answer s (slice_set (contents_of s) token.pid (Node node)) es t) (sym is)
            (subst (λ (u : State). EndsSwap answer s (slice_set (contents_of s) token.pid (Node node)) out.changes u) (sym then_is) ends),
      )

  pub allotted : (old new : Cache L) (node : WholeNode) (answer : Result (ℕ × Token) Error) → IsMade g old (call.Allocate node) (Allocated answer) new → Performs g (Allots node answer) old new
  allotted old new node answer made = weaker (Answers (call.Allocate node) (Allocated answer)) (Allots node answer) old new by (one old new (call.Allocate node) (Allocated answer) made)
    where
      by : (s t : State) (events : List (Event Update)) → Answers (call.Allocate node) (Allocated answer) s events t → Allots node answer s events t
      by s t events (cache, out, step, is, then_is) =
          let it = allocates s out node (chain_length g.state cache) (HasNoRoom g cache.log) answer step in
          record {
            stuck = λ kept.
                let same : out ≡ no_change s = split s.fault step (λ _ h. h.1) (λ clear h. absurd (false≢true (sym clear ∙ kept))) in
                (is ∙ ap (λ (o : Outcome). o.changes) same, then_is ∙ ap (λ (o : Outcome). o.state) same);
            pid = it.0;
            adds = it.1;
            ends = subst (λ (es : List (Event Update)). Ends answer s (contents_with (contents_of s) it.0 (Put (Node node))) es t) (sym is)
                (subst (λ (u : State). Ends answer s (contents_with (contents_of s) it.0 (Put (Node node))) out.changes u) (sym then_is) it.2);
            is = it.3;
          }

  -- the same from what the call says
  pub allocated : (node : WholeNode) {answer : Result (ℕ × Token) Error} {old new : Cache L} → Steps g old (call.Allocate node) (Allocated answer) new → IsBlamed g old new answer
      → Keeps old new answer (λ made. stamps_with old.stamps made.1) → Performs g (Allots node answer) old new
  allocated node {answer} {old} {new} step blame keeps = allotted old new node answer (record { step = step; bytes = tt; faults = blame; covered = tt; keeps = keeps })

  -- ---- what a swap answers, as an answer of a map

  pub ends-made : {T E : Type 0} (R : Type 0) (s t : State) (changed : List Content) (events : List (Event Update)) (made : Token) (result : Result T E) → IsOk result → EndsSwap {R = R} (Ok (Ok made)) s changed events t → Ends result s changed events t
  ends-made R s t changed events made (Ok answer) done h = h
  ends-made R s t changed events made (Err e) done h = absurd (false≢true done)

  pub ends-back : {R T E : Type 0} (s t : State) (changed : List Content) (events : List (Event Update)) (back : Option (Token × R)) (result : Result T E) → IsErr result → EndsSwap (Ok (Err back)) s changed events t → Ends result s changed events t
  ends-back s t changed events back (Ok answer) failed h = absurd (false≢true failed)
  ends-back s t changed events back (Err e) failed h = (h.0, inl h.1)

  pub ends-err : {T E : Type 0} (R : Type 0) (s t : State) (changed : List Content) (events : List (Event Update)) (e : Error) (result : Result T E) → IsErr result → EndsSwap {R = R} (Err e) s changed events t → Ends result s changed events t
  ends-err R s t changed events e (Ok answer) failed h = absurd (false≢true failed)
  ends-err R s t changed events e (Err f) failed h = h
