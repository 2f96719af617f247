-- Outcomes of the machine that change one page.
use Rattle.std.proofs.Common.{◌≡◌, ◌+◌, ◌-◌, ◌^◌, ◌⊎◌, inl, inr, ℕ, suc, Bool, true, false, cond, List, [], ◌∷◌, ◌++◌, length, nat_lt, Option, None, Some, Result, Ok, Err, slice_get, slice_set, refl, sym, ◌∙◌, ap, subst, arith, eq-eqb}
use Rattle.std.specs.Prelude.{◌==◌, MatchOption, IfOk}
use Rattle.std.proofs.lemmas.Option.{get_or_from_slice_get, slice_get_within}
use Rattle.sled_base.specs.declared.types.Error.{Error}
use Rattle.sled_log.specs.Contents.{Content, Free, Counter, Roots, Node, Damaged, Update, Put, Link, contents_from, contents_with}
use Rattle.sled_log.specs.Events.{Event, Change}
use Rattle.sled_node.specs.Links.{applied}
use Rattle.sled_node.specs.Node.{WholeNode}
use Rattle.sled_node.specs.declared.node.link.Link.{Link as NodeLink}
use Rattle.sled_pagecache.specs.Limits.{most_messages}
use Rattle.sled_pagecache.specs.State.{StampedPage, State, page, page_at, with_page, is_free, contents_of, Token, token, greatest_free, later_token, free_token}
use Rattle.sled_pagecache.specs.Step.{Outcome, outcome, no_change, Due, Does, Fails, Swapped, SwapsPage, Swaps, SwapsContent, Links, LinksContent, LinksNode, Replaces, Frees, Allocates, AddsPage, ReusesPage, TidiesIfSwapped, TidiesBehind, is_reserved, link_update}
use Rattle.sled_tree.specs.Changed.{LeaveSame, Makes, Ends, EndsSwap, Adds}
use Rattle.sled_tree.proofs.Lists.{split, map-at, map-sets, map-pushes, long-map, within}
use Rattle.sled_tree.proofs.Idle.{idle-tidies}

-- ---- a change that is written, or isn't

module _ (s : State) (out : Outcome) where
  -- the call was refused
  refused : {R : Type 0} (answer : Swapped R) (changed : List Content) → (contents_of out.state ≡ contents_of s) × (out.changes ≡ []) → ((made : Token) → answer ≡ Ok (Ok made) → ⊥) → EndsSwap answer s changed out.changes out.state
  refused (Ok (Ok made)) changed h none = absurd (none made refl)
  refused (Ok (Err back)) changed h none = h
  refused (Err e) changed h none = (h.0, inl h.1)

  pub nothing : out ≡ no_change s → (contents_of out.state ≡ contents_of s) × (out.changes ≡ [])
  nothing h = (ap (λ (o : Outcome). contents_of o.state) h, ap (λ (o : Outcome). o.changes) h)

  faulty : out ≡ outcome (record s { fault = true }) [] → (contents_of out.state ≡ contents_of s) × (out.changes ≡ [])
  faulty h = (ap (λ (o : Outcome). contents_of o.state) h, ap (λ (o : Outcome). o.changes) h)

  module _ (messages : ℕ → ℕ) (no_room : Event Update → Type 0) where
    -- what an error of a write leaves
    pub fails : (change : Event Update) (e : Error) → Fails messages no_room s change e out
        → (contents_of out.state ≡ contents_of s) × ((out.changes ≡ []) ⊎ ((out.changes ≡ change ∷ []) × (out.state.fault ≡ true)))
    fails change e h = grind (arith, nothing, faulty, wrote change)
      where
        wrote : (change : Event Update) → out ≡ outcome (record s { fault = true }) (change ∷ []) → (contents_of out.state ≡ contents_of s) × ((out.changes ≡ []) ⊎ ((out.changes ≡ change ∷ []) × (out.state.fault ≡ true)))
        wrote change h = (ap (λ (o : Outcome). contents_of o.state) h, inr (ap (λ (o : Outcome). o.changes) h, ap (λ (o : Outcome). o.state.fault) h))

    makes : (change : Event Update) (changed : List Content) → contents_from (contents_of s) change ≡ changed → out.changes ≡ change ∷ [] → Makes (contents_of s) changed out.changes
    makes change changed to is = subst (Makes (contents_of s) changed) (sym is) (to, tt)

    failing : (change : Event Update) (changed : List Content) (e : Error) → contents_from (contents_of s) change ≡ changed → Fails messages no_room s change e out
        → (contents_of out.state ≡ contents_of s) × ((out.changes ≡ []) ⊎ (Makes (contents_of s) changed out.changes × (out.state.fault ≡ true)))
    failing change changed e to h = let it = fails change e h in (it.0, by it.1)
      where
        by : (out.changes ≡ []) ⊎ ((out.changes ≡ change ∷ []) × (out.state.fault ≡ true)) → (out.changes ≡ []) ⊎ (Makes (contents_of s) changed out.changes × (out.state.fault ≡ true))
        by (inl none) = inl none
        by (inr wrote) = inr (makes change changed to wrote.0, wrote.1)

    -- ---- a swap of what a page holds

    module _ {R : Type 0} (old : Token) (rejected : R) (answer : Swapped R) where
      content : (update : Update) (content : Content) → contents_from (contents_of s) (Change old.pid update) ≡ slice_set (contents_of s) old.pid content
          → SwapsContent messages no_room s old update content answer out → EndsSwap answer s (slice_set (contents_of s) old.pid content) out.changes out.state
      content update c to h =
          split (old.stamp == 2 ^ 64 - 1) h (λ _ h. refused answer _ (nothing h.1) (λ made e. absurd (let f = h.0 in cc))) (λ _ h. by answer h)
        where
          by : (answer : Swapped R) → Does messages no_room s (Change old.pid update) answer out (λ swapped t. (swapped ≡ Ok (token old.pid (old.stamp + 1))) × (t ≡ with_page s old.pid (page (old.stamp + 1) c)))
              → EndsSwap answer s (slice_set (contents_of s) old.pid c) out.changes out.state
          by (Ok (Ok made)) h = (makes (Change old.pid update) _ to h.0, ap contents_of h.1.1 ∙ map-sets (λ (p : StampedPage). p.content) s.pages old.pid (page (old.stamp + 1) c))
          by (Ok (Err back)) h = absurd (let e = h.1.0 in cc)
          by (Err e) h = failing (Change old.pid update) _ e to h

      of-page : (changed : List Content) (goes_on : Content → Type 0) → ((p : StampedPage) → page_at s old.pid ≡ Some p → goes_on p.content → EndsSwap answer s changed out.changes out.state)
          → (found : Option StampedPage) → page_at s old.pid ≡ found → SwapsPage s old rejected found answer out goes_on → EndsSwap answer s changed out.changes out.state
      of-page changed goes_on then None at h = refused answer changed (nothing h.1) (λ made e. absurd (let f = h.0 in cc))
      of-page changed goes_on then (Some p) at h =
          split (is_free p.content) h (λ _ h. refused answer changed (nothing h.1) (λ made e. absurd (let f = h.0 in cc))) (λ _ h.
          split (p.stamp == old.stamp) h (λ _ h. then p at h) (λ _ h. refused answer changed (nothing h.1) (λ made e. absurd (let f = h.0 in cc))))

      pub swaps : (changed : List Content) (goes_on : Content → Type 0) → ((p : StampedPage) → page_at s old.pid ≡ Some p → goes_on p.content → EndsSwap answer s changed out.changes out.state)
          → Swaps s old rejected answer out goes_on → EndsSwap answer s changed out.changes out.state
      swaps changed goes_on then step =
          split s.fault step (λ _ h. refused answer changed (nothing h.1) (λ made e. absurd (let f = h.0 in cc))) (λ _ h.
          split (is_reserved old.pid) h (λ _ h. refused answer changed (nothing h.1) (λ made e. absurd (let f = h.0 in cc))) (λ _ h. of-page changed goes_on then (page_at s old.pid) refl h))

      -- a content that is put
      puts : (c : Content) (p : StampedPage) → page_at s old.pid ≡ Some p → contents_from (contents_of s) (Change old.pid (Put c)) ≡ slice_set (contents_of s) old.pid c
      puts c p at = ap (λ b. cond b (contents_of s ++ c ∷ []) (slice_set (contents_of s) old.pid c)) (within (contents_of s) old.pid p.content (map-at (λ (q : StampedPage). q.content) s.pages old.pid p at))

    pub replaces : (old : Token) (node : WholeNode) (answer : Swapped WholeNode) → Replaces messages no_room s old node answer out → EndsSwap answer s (slice_set (contents_of s) old.pid (Node node)) out.changes out.state
    replaces old node answer step =
        swaps old node answer _ _ (λ p at h. content old node answer (Put (Node node)) (Node node) (puts old node answer (Node node) p at) h) step

    pub frees : (old : Token) (answer : Swapped (Unit {0})) → Frees messages no_room s old answer out → EndsSwap answer s (slice_set (contents_of s) old.pid Free) out.changes out.state
    frees old answer step =
        swaps old tt answer _ _ (λ p at h. content old tt answer (Put Free) Free (puts old tt answer Free p at) h) step

    -- a link that is applied
    linked-to : (old : Token) (link : NodeLink) (n : WholeNode) → slice_get (contents_of s) old.pid ≡ Some (Node n)
        → contents_from (contents_of s) (Change old.pid (link_update (messages old.pid) link (applied link n))) ≡ slice_set (contents_of s) old.pid (Node (applied link n))
    linked-to old link n at = by (nat_lt (messages old.pid) most_messages)
      where
        by : (joins : Bool) → contents_from (contents_of s) (Change old.pid (cond joins (Link link) (Put (Node (applied link n))))) ≡ slice_set (contents_of s) old.pid (Node (applied link n))
        by true = ap (λ c. slice_set (contents_of s) old.pid (Rattle.sled_log.specs.Contents.after_link link c)) (get_or_from_slice_get (contents_of s) old.pid (Node n) Free at)
        by false = ap (λ b. cond b (contents_of s ++ Node (applied link n) ∷ []) (slice_set (contents_of s) old.pid (Node (applied link n)))) (within (contents_of s) old.pid (Node n) at)

    pub links : (old : Token) (link : NodeLink) (answer : Swapped NodeLink) (n : WholeNode) → slice_get (contents_of s) old.pid ≡ Some (Node n) → Links messages no_room s old link answer out
        → EndsSwap answer s (slice_set (contents_of s) old.pid (Node (applied link n))) out.changes out.state
    links old link answer n there step = swaps old link answer _ (LinksContent messages no_room s old link answer out) (λ p at h. by p.content (same p at) h) step
      where
        same : (p : StampedPage) → page_at s old.pid ≡ Some p → p.content ≡ Node n
        same p at = let e = map-at (λ (q : StampedPage). q.content) s.pages old.pid p at in let f : Some p.content ≡ Some (Node n) = sym e ∙ there in cc

        unmade : (e : Error) → Rattle.sled_pagecache.specs.Step.IsHindered s e out → EndsSwap {R = NodeLink} (Err e) s (slice_set (contents_of s) old.pid (Node (applied link n))) out.changes out.state
        unmade e h = let it = hindered e h in (it.0, inl it.1)
          where
            hindered : (e : Error) → Rattle.sled_pagecache.specs.Step.IsHindered s e out → (contents_of out.state ≡ contents_of s) × (out.changes ≡ [])
            hindered e h = grind (arith, nothing, faulty)

        node : (answer : Swapped NodeLink) → LinksNode messages no_room s old link n answer out → EndsSwap answer s (slice_set (contents_of s) old.pid (Node (applied link n))) out.changes out.state
        node (Ok back) (inl read) = absurd read.1
        node (Err e) (inl read) = unmade e read
        node answer (inr (inl h)) = refused answer _ (nothing h.1.1) (λ made e. absurd (let f = h.1.0 in cc))
        node answer (inr (inr h)) = content old link answer (link_update (messages old.pid) link (applied link n)) (Node (applied link n)) (linked-to old link n there) h.1

        by : (c : Content) → c ≡ Node n → LinksContent messages no_room s old link answer out c → EndsSwap answer s (slice_set (contents_of s) old.pid (Node (applied link n))) out.changes out.state
        by (Node k) is h = let e : k ≡ n = cc in node answer (subst (λ (w : WholeNode). LinksNode messages no_room s old link w answer out) e h)
        by Free is h = absurd (let e = is in cc)
        by (Counter c) is h = absurd (let e = is in cc)
        by (Roots roots) is h = absurd (let e = is in cc)
        by Damaged is h = absurd (let e = is in cc)

-- ---- a move behind a swap leaves what it made

module _ {L : Type 0} (due : L → Due) (no_room_again : L → ℕ → Content → Type 0) (Behind : List (Event Update) → L → Type 0) (s : State) (swap out : Outcome) (changed : List Content) where
  leave-more : (events more : List (Event Update)) → LeaveSame changed events → LeaveSame changed more → LeaveSame changed (events ++ more)
  leave-more [] more first leave = leave
  leave-more (event ∷ events) more first leave = (first.0, leave-more events more first.1 leave)

  makes-more : (events more : List (Event Update)) → Makes (contents_of s) changed events → LeaveSame changed more → Makes (contents_of s) changed (events ++ more)
  makes-more [] more makes leave = absurd makes
  makes-more (event ∷ events) more makes leave = (makes.0, leave-more events more makes.1 leave)

  behind : TidiesBehind due no_room_again Behind swap out → Makes (contents_of s) changed swap.changes → contents_of swap.state ≡ changed → Makes (contents_of s) changed out.changes × (contents_of out.state ≡ changed)
  behind h makes is =
      let move = idle-tidies swap.state h.move due no_room_again h.mid h.answer h.tidies in (
        subst (λ (o : Outcome). Makes (contents_of s) changed o.changes) (sym h.is) (makes-more swap.changes h.move.changes makes (subst (λ (pages : List Content). LeaveSame pages h.move.changes) is move.leave)),
        ap (λ (o : Outcome). contents_of o.state) h.is ∙ move.same ∙ is,
      )

  pub if-swapped : {R : Type 0} (answer : Swapped R) → EndsSwap answer s changed swap.changes swap.state → TidiesIfSwapped due no_room_again Behind answer swap out → EndsSwap answer s changed out.changes out.state
  if-swapped (Ok (Ok made)) ends h = behind h ends.0 ends.1
  if-swapped {R = R} (Ok (Err back)) ends h = subst (λ (o : Outcome). EndsSwap {R = R} (Ok (Err back)) s changed o.changes o.state) (sym h) ends
  if-swapped {R = R} (Err e) ends h = subst (λ (o : Outcome). EndsSwap {R = R} (Err e) s changed o.changes o.state) (sym h) ends

-- ---- a page that is allotted

-- the place of a free page
record IsFreeAt (first : ℕ) (pages : List StampedPage) (pid : ℕ) : Type 0 where
  pub place : ℕ
  pub is : pid ≡ first + place
  pub page : StampedPage
  pub at : slice_get pages place ≡ Some page
  pub empty : is_free page.content ≡ true

free-at : (first : ℕ) (pages : List StampedPage) (free : Token) → greatest_free first pages ≡ Some free → IsFreeAt first pages free.pid
free-at first [] free is = absurd (let e = is in cc)
free-at first (p ∷ pages) free is = by is (free-at (first + 1) pages free)
  where
    here : is_free p.content ≡ true → Some (token first p.stamp) ≡ Some free → IsFreeAt first (p ∷ pages) free.pid
    here empty is = let e : token first p.stamp ≡ free = cc in record { place = 0; is = let same = ap (λ (t : Token). t.pid) e in omega (arith, same); page = p; at = refl; empty = empty }

    behind : IsFreeAt (first + 1) pages free.pid → IsFreeAt first (p ∷ pages) free.pid
    behind rest = record { place = suc rest.place; is = omega (arith, rest.is); page = rest.page; at = rest.at; empty = rest.empty }

    by : later_token (greatest_free (first + 1) pages) (free_token first p) ≡ Some free → (greatest_free (first + 1) pages ≡ Some free → IsFreeAt (first + 1) pages free.pid) → IsFreeAt first (p ∷ pages) free.pid
    by is others = grind (arith, here, behind)

free-is : (c : Content) → is_free c ≡ true → c ≡ Free
free-is Free empty = refl
free-is (Counter c) empty = absurd (let e = empty in cc)
free-is (Roots roots) empty = absurd (let e = empty in cc)
free-is (Node k) empty = absurd (let e = empty in cc)
free-is Damaged empty = absurd (let e = empty in cc)

module _ (s : State) (out : Outcome) (node : WholeNode) where
  -- the page, and what comes of the call
  abbrev pub Allotted : Result (ℕ × Token) Error → Type 0
  Allotted answer = (pid : ℕ) × Adds (contents_of s) pid × Ends answer s (contents_with (contents_of s) pid (Put (Node node))) out.changes out.state × IfOk answer (λ made. made.0 ≡ pid)

  long : length (contents_of s) ≡ length s.pages
  long = long-map (λ (p : StampedPage). p.content) s.pages

  at-end : Adds (contents_of s) (length s.pages)
  at-end = record { free = λ c at. let lt = slice_get_within (contents_of s) (length s.pages) c at in absurd (let same = long in omega (arith, lt, same)); place = let same = long in omega (arith, same) }

  none : (answer : Result (ℕ × Token) Error) (e : Error) → answer ≡ Err e → out ≡ no_change s → Allotted answer
  none answer e is same = subst Allotted (sym is) (length s.pages, at-end, ((nothing s out same).0, inl (nothing s out same).1), tt)

  module _ (messages : ℕ → ℕ) (no_room : Event Update → Type 0) where
    of-page-at : (pid : ℕ) (work : ℕ × Token → State → Type 0) → Adds (contents_of s) pid → ((made : ℕ × Token) (t : State) → work made t → (made.0 ≡ pid) × (contents_of t ≡ contents_with (contents_of s) pid (Put (Node node))))
        → (answer : Result (ℕ × Token) Error) → Does messages no_room s (Change pid (Put (Node node))) answer out work → Allotted answer
    of-page-at pid work adds leaves (Ok made) h =
        let it = leaves made out.state h.1 in
        (pid, adds, (makes s out messages no_room (Change pid (Put (Node node))) (contents_with (contents_of s) pid (Put (Node node))) refl h.0, it.1), it.0)
    of-page-at pid work adds leaves (Err e) h = (pid, adds, failing s out messages no_room (Change pid (Put (Node node))) (contents_with (contents_of s) pid (Put (Node node))) e refl h, tt)

    adds-page : (answer : Result (ℕ × Token) Error) → AddsPage messages no_room s node answer out → Allotted answer
    adds-page answer h =
        split (length s.pages == Rattle.sled_pagecache.specs.Limits.most_pages) h (λ _ h. none answer _ h.0 h.1) (λ _ h.
        of-page-at (length s.pages) _ at-end (λ made t w. (
          w.0,
          ap contents_of w.2 ∙ map-pushes (λ (p : StampedPage). p.content) s.pages (page 1 (Node node))
              ∙ sym (ap (λ b. cond b (contents_of s ++ Node node ∷ []) (slice_set (contents_of s) (length s.pages) (Node node))) (eq-eqb (length s.pages) (length (contents_of s)) (sym long))),
        )) answer h)

    reuses-page : (answer : Result (ℕ × Token) Error) (free : Token) → greatest_free 0 s.pages ≡ Some free → ReusesPage messages no_room s node free answer out → Allotted answer
    reuses-page answer free is h =
        let it = free-at 0 s.pages free is in
        let here : slice_get s.pages free.pid ≡ Some it.page = subst (λ (p : ℕ). slice_get s.pages p ≡ Some it.page) (let e = it.is in omega (arith, e)) it.at in
        let was = map-at (λ (p : StampedPage). p.content) s.pages free.pid it.page here in
        let adds : Adds (contents_of s) free.pid = record {
          free = λ c at. let same : it.page.content ≡ c = (let e : Some it.page.content ≡ Some c = sym was ∙ at in cc) in sym same ∙ free-is it.page.content it.empty;
          place = let lt = slice_get_within (contents_of s) free.pid it.page.content was in omega (arith, lt);
        } in
        split (free.stamp == 2 ^ 64 - 1) h (λ _ h. none answer _ h.0 h.1) (λ _ h.
        of-page-at free.pid _ adds (λ made t w. (
          w.0,
          ap contents_of w.2 ∙ map-sets (λ (p : StampedPage). p.content) s.pages free.pid (page (free.stamp + 1) (Node node))
              ∙ sym (ap (λ b. cond b (contents_of s ++ Node node ∷ []) (slice_set (contents_of s) free.pid (Node node))) (within (contents_of s) free.pid it.page.content was)),
        )) answer h)

    pub allocates : (answer : Result (ℕ × Token) Error) → Allocates messages no_room s node answer out → Allotted answer
    allocates answer step = split s.fault step (λ _ h. none answer _ h.0 h.1) (λ _ h. by (greatest_free 0 s.pages) refl h)
      where
        by : (free : Option Token) → greatest_free 0 s.pages ≡ free → MatchOption free (AddsPage messages no_room s node answer out) (λ free. ReusesPage messages no_room s node free answer out) → Allotted answer
        by None is h = adds-page answer h
        by (Some free) is h = reuses-page answer free is h
