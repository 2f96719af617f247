-- What holds of a cache holds of it once what the list of recent use dropped is paged out, and what a call makes of memory then.
use Rattle.sled_pagecache.proofs.Names.{IsDoneInEach, Outcome, ◌++◌, [], ◌∷◌, append-nil, left_pages, Contains-append_cases, Contains-append_left, Contains-append_right, eqb_tells, Contains, IfOk, IsSomeAnd, OnOk, OnErr, Recency, IsAccessed, IsListed, IsSound, rounded, itself_stays, itself_is_listed, others_stay_or_leave, ◌≡◌, ◌≢◌, ◌⊎◌, inl, inr, ℕ, Bool, true, false, List, Option, Some, None, Result, Ok, Err, refl, sym, ◌∙◌, ap, subst, same_Some, IsErrOf, Error, Write, Refusal, Ghosts, Keeps, Cache, Represents, IsAway, chain_length, IsBlamed, IsCaused, is_reserved, ReadsNothing, ReadsPage, ReportsDamage, BringsIn, sticky_log_of, Logged, State, count_after, WasAccessed, HasNode, HasNoNode, AreSized, IsBounded, StaysAt, KeepsMemory, AccessesPage, FindsPage, EvictsAtMost, LeavesPages, AllStay, TakesNode, TakesPage, FindsNode, LosesAtMost, Accesses}
use Rattle.sled_base.specs.Containing.{contains_cases, contains_first, contains_none}
use Rattle.sled_base.specs.declared.types.Error.TheVariants.{Io}
use Rattle.sled_base.specs.declared.types.Refusal.TheVariants as refusal
use Rattle.sled_pagecache.proofs.Memory.ResidentPages.{stays-then, stays-has}
use Rattle.sled_pagecache.proofs.Memory.PageOut.{PagesOut}

-- A call that found nothing dropped made one cache of another, and then what the list dropped for it was paged out, and with that the
-- pages that are lost.
pub record Settles {L : Type 0} (g : Ghosts L) (old mid new : Cache L) (accesses between : Accesses) (lost : List ℕ) : Type 0 where
  pub none : accesses.dropped ≡ None
  pub bounded : IsBounded g old
  pub lists : accesses.lru ≡ old.lru
  pub config : mid.config ≡ old.config
  pub lru : new.lru ≡ between.lru
  pub out : PagesOut (Contains (left_pages between.dropped lost)) mid new
  pub same : between.dropped ≡ None → new ≡ record mid { lru = new.lru }
  pub sized : AreSized g new

-- ---- the machine

module _ {L : Type 0} {g : Ghosts L} {mid : Cache L} (resident : List Bool) (nodes : List (Option ℕ)) (lru : Recency) where
  in-moved : {held : Logged} {s : State} → Represents g mid held s → Represents g (record mid { resident = resident; nodes = nodes; lru = lru }) held s
  in-moved is = record {
    tells = is.tells;
    stamps = is.stamps;
    next = is.next;
    fault = is.fault;
    batch = is.batch;
    known = λ clear. let known = is.known clear in record { usable = known.usable; logged = known.logged; contents = known.contents; opened = known.opened };
  }

  steps-record : {old : Cache L} {Does : State → Outcome → Type 0} → IsDoneInEach g Does old mid → IsDoneInEach g Does old (record mid { resident = resident; nodes = nodes; lru = lru })
  steps-record steps = record {
    opening = record { config = steps.opening.config; recovered = steps.opening.recovered };
    from_each = λ held s is.
        let step = steps.from_each held s is in
        record { out = step.out; step = step.step; held_then = step.held_then; is = in-moved step.is; added = step.added; crash = step.crash; stuck = step.stuck };
  }

  left-record : {old : Cache L} → LeavesPages g old mid → LeavesPages g old (record mid { resident = resident; nodes = nodes; lru = lru })
  left-record left = record {
    opening = record { config = left.opening.config; recovered = left.opening.recovered };
    stamps = left.stamps;
    next = left.next;
    batch = left.batch;
    usable = left.usable;
    opened = left.opened;
    failed_reads = left.failed_reads;
    write_faults = left.write_faults;
    added = left.added;
    crash = left.crash;
    same = left.same;
  }

module _ {L : Type 0} {g : Ghosts L} {old mid new : Cache L} {accesses between : Accesses} {lost : List ℕ} (settles : Settles g old mid new accesses between lost) where
  carried : (P : Cache L → Type 0) → P (record mid { resident = new.resident; nodes = new.nodes; lru = new.lru }) → P new
  carried P = subst P (sym settles.out.rest)

  pub steps-moved : {Does : State → Outcome → Type 0} → IsDoneInEach g Does old mid → IsDoneInEach g Does old new
  steps-moved {Does} steps = carried (IsDoneInEach g Does old) (steps-record new.resident new.nodes new.lru steps)

  pub blamed-moved : {T : Type 0} {result : Result T Error} → IsBlamed g old mid result → IsBlamed g old new result
  blamed-moved {result = result} blamed = carried (λ cache. IsBlamed g old cache result) (record { read = blamed.read; write = blamed.write })

  unread-moved : ReadsNothing g old mid → ReadsNothing g old new
  unread-moved = carried (λ cache. ReadsNothing g old mid → ReadsNothing g old cache) (λ unread. unread)

  pub reads-moved : (pid : ℕ) → ReadsPage g old pid mid → ReadsPage g old pid new
  reads-moved pid reads = record {
    in_memory = λ not_away. unread-moved (reads.in_memory not_away);
    whole = λ known away there. carried (λ cache. (g.counts cache.log).reads ≡ count_after (chain_length g.state old pid) (g.counts old.log).reads) (reads.whole known away (settles.out.resident pid there));
    times = reads.times;
    most = reads.most;
    is = carried (λ cache. (g.counts cache.log).reads ≡ count_after reads.times (g.counts old.log).reads) reads.is;
  }

  pub damaged-moved : {T : Type 0} (pid : ℕ) (result : Result T Error) → ReportsDamage g old pid result mid → ReportsDamage g old pid result new
  damaged-moved pid result done = carried (ReportsDamage g old pid result) (record { reported = done.reported; left = left-record new.resident new.nodes new.lru done.left })

  pub keeps-moved : {T : Type 0} {result : Result T Error} {stamps : T → List ℕ} → Keeps old mid result stamps → OnErr result (old.fault ≡ true → mid ≡ old → new ≡ old) → Keeps old new result stamps
  keeps-moved {result = result} {stamps} keeps stuck = record {
    batch = ap (λ cache. cache.batch) settles.out.rest ∙ keeps.batch;
    fault = ap (λ cache. cache.fault) settles.out.rest ∙ keeps.fault;
    stuck = λ kept. ((keeps.stuck kept).0, by result (keeps.stuck kept).0 stuck kept (keeps.stuck kept).1);
    done = carried (λ cache. IfOk result (λ answer. cache.stamps ≡ stamps answer)) keeps.done;
    refused = carried (λ cache. OnErr result (cache.stamps ≡ old.stamps)) keeps.refused;
  }
    where
      by : {T : Type 0} (result : Result T Error) → IsErrOf result (Io Write) → OnErr result (old.fault ≡ true → mid ≡ old → new ≡ old) → old.fault ≡ true → mid ≡ old → new ≡ old
      by (Ok done) is stuck = absurd cc
      by (Err error) is stuck = stuck

  pub brings-moved : (pid : ℕ) (result : Result (Unit {0}) Refusal) → OnOk result (IsAway new pid → IsAway mid pid) → BringsIn g old pid result mid → BringsIn g old pid result new
  brings-moved pid result back brings = record {
    left = carried (LeavesPages g old) (left-record new.resident new.nodes new.lru brings.left);
    cause = carried (λ cache. IsCaused g (sticky_log_of old) (sticky_log_of cache) ⊥ result) brings.cause;
    in_memory = by result back brings.in_memory;
    sound = brings.sound;
    refused = brings.refused;
  }
    where
      by : (result : Result (Unit {0}) Refusal) → OnOk result (IsAway new pid → IsAway mid pid) → OnOk result ((is_reserved pid ≡ false) × ¬ IsAway mid pid) → OnOk result ((is_reserved pid ≡ false) × ¬ IsAway new pid)
      by (Ok done) back (behind, there) = (behind, λ away. there (back away))
      by (Err refusal) back there = tt

-- ---- memory

-- What follows for a page that was taken, while none is lost.
pub record IsTaken {L : Type 0} (g : Ghosts L) (old mid new : Cache L) (pid : ℕ) : Type 0 where
  pub stays : StaysAt mid new pid
  pub accessed : AccessesPage old pid new
  pub bounded : IsBounded g new

-- What follows where the call was refused, and so its page is lost, or has no node.
pub record IsUntaken {L : Type 0} (g : Ghosts L) (old mid new : Cache L) (pid : ℕ) (error : Error) : Type 0 where
  pub bounded : IsBounded g new
  pub leaves : EvictsAtMost old pid new g.tells error
  pub stuck : old.fault ≡ true → mid ≡ old → new ≡ old

module _ {L : Type 0} {g : Ghosts L} {old mid new : Cache L} {accesses between : Accesses} {lost : List ℕ} (settles : Settles g old mid new accesses between lost) where
  capacity : new.lru.capacity ≡ old.lru.capacity → new.lru.capacity ≡ new.config.cache_capacity
  capacity same = same ∙ settles.bounded.capacity ∙ sym (ap (λ cache. cache.config.cache_capacity) settles.out.rest ∙ ap (λ config. config.cache_capacity) settles.config)

  -- nothing was accessed
  module _ (unasked : between ≡ accesses) where
    lru-same : new.lru ≡ old.lru
    lru-same = settles.lru ∙ ap (λ a. a.lru) unasked ∙ settles.lists

    pages-same : new ≡ record mid { lru = new.lru }
    pages-same = settles.same (ap (λ a. a.dropped) unasked ∙ settles.none)

    stay-new : (pid : ℕ) → StaysAt old mid pid → StaysAt old new pid
    stay-new pid stays = subst (λ cache. StaysAt old cache pid) (sym pages-same) (record { resident = stays.resident; node = stays.node })

    same-memory : AllStay old mid → KeepsMemory old new
    same-memory stay = record { stay = λ pid. stay-new pid (stay pid); lru = lru-same }

    same-all : mid ≡ old → new ≡ old
    same-all is = pages-same ∙ ap (λ (cache : Cache L). record cache { lru = new.lru }) is ∙ ap (λ (lru : Recency). record old { lru = lru }) lru-same

    same-bounded : ((pid size : ℕ) → HasNode mid pid size → HasNode old pid size) → IsBounded g new
    same-bounded back = record {
      listed = λ pid size has. subst (IsListed pid (rounded size)) (sym lru-same) (settles.bounded.listed pid size (back pid size (subst (λ cache. HasNode cache pid size) pages-same has)));
      sized = settles.sized;
      sound = subst IsSound (sym lru-same) settles.bounded.sound;
      capacity = capacity (ap (λ lru. lru.capacity) lru-same);
    }

  -- a page was accessed
  module _ (pid : ℕ) where
    record IsDropped (size : ℕ) : Type 0 where
      dropped : List ℕ
      is : IsAccessed pid (rounded size) old.lru new.lru dropped
      sound : IsSound new.lru
      out : PagesOut (Contains (dropped ++ lost)) mid new

    drops : (size : ℕ) → WasAccessed accesses pid size between → IsDropped size
    drops size was = by between.dropped was.is settles.out
      where
        by : (dropped : Option (List ℕ)) → IsSomeAnd dropped (λ dropped. IsAccessed pid (rounded size) accesses.lru between.lru dropped) → PagesOut (Contains (left_pages dropped lost)) mid new → IsDropped size
        by None is out = absurd is
        by (Some dropped) is out = record {
          dropped = dropped;
          is = subst (λ lru. IsAccessed pid (rounded size) lru new.lru dropped) settles.lists (subst (λ lru. IsAccessed pid (rounded size) accesses.lru lru dropped) (sym settles.lru) is);
          sound = subst IsSound (sym settles.lru) was.sound;
          out = out;
        }

    module _ (size : ℕ) (was : IsDropped size) (others : (other : ℕ) → other ≢ pid → StaysAt old mid other) (only : (other : ℕ) → Contains lost other → other ≡ pid) where
      accessed-page : AccessesPage old pid new
      accessed-page = record {
        size = size;
        dropped = was.dropped;
        accessed = was.is;
        others = λ other apart outside.
            stays-then old mid new other (others other apart)
            (was.out.stays other (λ gone. elim (Contains-append_cases was.dropped lost other gone) [ inl inside ↦ outside inside | inr is ↦ apart (only other is) ]));
      }

      accessed-bounded : ((its : ℕ) → HasNode new pid its → IsListed pid (rounded its) new.lru) → IsBounded g new
      accessed-bounded own = record {
        listed = λ other its has. elim (eqb_tells other pid) [
          | inl same ↦ subst (λ n. IsListed n (rounded its) new.lru) (sym same.1) (own its (subst (λ n. HasNode new n its) same.1 has))
          | inr apart ↦ elim (others_stay_or_leave pid (rounded size) old.lru new.lru was.dropped was.is settles.bounded.sound.count other (rounded its) apart.1
              (settles.bounded.listed other its (stays-has old mid other its (others other apart.1) (was.out.nodes other its has))))
              [ inl listed ↦ listed | inr gone ↦ absurd (was.out.out other (Contains-append_left was.dropped lost other gone) its has) ]
        ];
        sized = settles.sized;
        sound = was.sound;
        capacity = capacity was.is.capacity;
      }

    pub taken : lost ≡ [] → TakesPage old accesses pid mid between → IsTaken g old mid new pid
    taken unlost takes = record {
      stays = stays;
      accessed = accessed-page takes.size was takes.others outside;
      bounded = accessed-bounded takes.size was takes.others outside
          (λ its has. subst (λ n. IsListed pid (rounded n) new.lru) (sym (takes.only its (sym stays.node ∙ has))) (itself_is_listed pid (rounded takes.size) old.lru new.lru was.dropped was.is settles.bounded.sound.count));
    }
      where
        was : IsDropped takes.size
        was = drops takes.size takes.accessed

        outside : (other : ℕ) → Contains lost other → other ≡ pid
        outside other within = absurd (contains_none other (subst (λ (l : List ℕ). Contains l other) unlost within))

        stays : StaysAt mid new pid
        stays = was.out.stays pid (λ gone. itself_stays pid (rounded takes.size) old.lru new.lru was.dropped was.is (subst (λ (l : List ℕ). Contains l pid) (ap (λ (l : List ℕ). was.dropped ++ l) unlost ∙ append-nil was.dropped) gone))

    pub untaken : (error : Error) → LosesAtMost old accesses pid mid between g.tells error → (lost ≡ pid ∷ []) ⊎ ((lost ≡ []) × HasNoNode mid pid) → IsUntaken g old mid new pid error
    untaken error loses which = record {
      bounded = elim loses.touched [
        | inl same ↦ same-bounded same back
        | inr it ↦ let was = drops it.0 it.1 in accessed-bounded it.0 was loses.others only (λ its has. absurd (no-node it.0 was its has))
      ];
      leaves = record {
        others = elim loses.touched [
          | inl same ↦ inr (record { lru = lru-same same; others = λ other apart. stay-new same other (loses.others other apart) })
          | inr it ↦ inl (accessed-page it.0 (drops it.0 it.1) loses.others only)
        ];
        unasked = λ told. elim (loses.unasked told) [ inl hindered ↦ inl hindered | inr stay ↦ inr (same-memory stay.1 stay.0) ];
      };
      stuck = λ kept is. same-all (loses.stuck kept) is;
    }
      where
        only : (other : ℕ) → Contains lost other → other ≡ pid
        only other within = elim which [
          | inl one ↦ elim (contains_cases pid [] other (subst (λ (l : List ℕ). Contains l other) one within)) [ inl same ↦ sym same | inr none ↦ absurd (contains_none other none) ]
          | inr none ↦ absurd (contains_none other (subst (λ (l : List ℕ). Contains l other) none.0 within))
        ]

        no-node : (size : ℕ) → IsDropped size → HasNoNode new pid
        no-node size was = elim which [
          | inl one ↦ was.out.out pid (Contains-append_right was.dropped lost pid (subst (λ (l : List ℕ). Contains l pid) (sym one) (contains_first pid [])))
          | inr none ↦ (λ its has. none.1 its (was.out.nodes pid its has))
        ]

        of : (its : ℕ) → StaysAt old mid pid ⊎ HasNoNode mid pid → HasNode mid pid its → HasNode old pid its
        of its (inl stays) at = stays-has old mid pid its stays at
        of its (inr none) at = absurd (none its at)

        back : (other its : ℕ) → HasNode mid other its → HasNode old other its
        back other its has = elim (eqb_tells other pid) [
          | inl same ↦ subst (λ n. HasNode old n its) (sym same.1) (of its loses.lost (subst (λ n. HasNode mid n its) same.1 has))
          | inr apart ↦ stays-has old mid other its (loses.others other apart.1) has
        ]

-- a page whose node lies in memory
pub node-takes : {L : Type 0} (old mid : Cache L) (accesses between : Accesses) (pid : ℕ) → TakesNode old accesses pid mid between → TakesPage old accesses pid mid between
node-takes old mid accesses between pid takes = record {
  size = takes.size;
  only = λ other has. sym (same_Some takes.size other (same_Some (Some takes.size) (Some other) (sym takes.node ∙ has)));
  accessed = takes.accessed;
  others = takes.others;
}

-- What reading a page makes of memory.
pub record MakesFound {L : Type 0} (g : Ghosts L) (old mid new : Cache L) (pid : ℕ) (result : Result (Unit {0}) Refusal) : Type 0 where
  pub bounded : IsBounded g new
  pub accessed : OnOk result (FindsPage old pid new)
  pub same : OnErr result (KeepsMemory old new)
  pub back : OnOk result (IsAway new pid → IsAway mid pid)
  pub stuck : old.fault ≡ true → IsErrOf result (refusal.Io Write) × (new ≡ old)

module _ {L : Type 0} {g : Ghosts L} {old mid new : Cache L} {accesses between : Accesses} (settles : Settles g old mid new accesses between []) where
  stay-bounded : between ≡ accesses → AllStay old mid → IsBounded g new
  stay-bounded unasked stay = same-bounded settles unasked (λ pid size has. stays-has old mid pid size (stay pid) has)

  pub makes-found : (pid : ℕ) (result : Result (Unit {0}) Refusal) → (old.fault ≡ true → IsErrOf result (refusal.Io Write) × (mid ≡ old)) → OnOk result (FindsNode old accesses pid mid between)
      → OnErr result (AllStay old mid) → OnErr result (between ≡ accesses) → MakesFound g old mid new pid result
  makes-found pid (Ok done) stuck (inl takes) refused left =
      let it = taken settles pid refl (node-takes old mid accesses between pid takes) in
      record {
        bounded = it.bounded;
        accessed = inl (it.accessed, (takes.size, it.stays.node ∙ takes.node));
        same = tt;
        back = λ away. sym it.stays.resident ∙ away;
        stuck = λ kept. absurd (let h = (stuck kept).0 in cc);
      }
  makes-found pid (Ok done) stuck (inr (absent, stay, same)) refused left = record {
    bounded = stay-bounded same stay;
    accessed = inr (same-memory settles same stay, λ size has. absent size (settles.out.nodes pid size has));
    same = tt;
    back = λ away. subst (λ cache. IsAway cache pid) (pages-same settles same) away;
    stuck = λ kept. absurd (let h = (stuck kept).0 in cc);
  }
  makes-found pid (Err error) stuck takes refused left = record {
    bounded = stay-bounded left refused;
    accessed = tt;
    same = same-memory settles left refused;
    back = tt;
    stuck = λ kept. ((stuck kept).0, same-all settles left (stuck kept).1);
  }
