-- Lists of events, computed: where a stop may cut them, and what it leaves.
use Rattle.sled_log.proofs.Names.{◌≡◌, ◌⊎◌, inl, inr, ℕ, zero, suc, true, false, List, [], ◌∷◌, ◌++◌, take, drop, refl, arith, false≢true, is_open, is_cancelled, IsFair, Event, Change, Pin, Seal, Cancel}
use Rattle.sled_node.specs.Links.{applied}
use Rattle.sled_node.specs.Node.{WholeNode}
use Rattle.sled_node.specs.declared.node.link.Link.{Link as NodeLink}
use Rattle.sled_log.specs.Contents.{Content, Free, Counter, Roots, Node, Update, Put, Link, contents_after}

module _ (a b c d : Content) where
  -- four pages, and a batch that replaces the last two
  abbrev before : List Content
  before = Free ∷ Free ∷ a ∷ b ∷ []

  abbrev begun : List (Event Update)
  begun = Pin ∷ Change 2 (Put c) ∷ Change 3 (Put d) ∷ []

  abbrev sealed : List (Event Update)
  sealed = Pin ∷ Change 2 (Put c) ∷ Change 3 (Put d) ∷ Seal ∷ []

  abbrev cancelled : List (Event Update)
  cancelled = Pin ∷ Change 2 (Put c) ∷ Change 3 (Put d) ∷ Cancel ∷ []

  -- before its seal a stop keeps nothing of it, the end of the list included
  pub open_keeps_nothing : (n : ℕ) → IsFair begun n → n ≡ 0
  open_keeps_nothing zero fair = refl
  open_keeps_nothing (suc zero) fair = absurd (false≢true (fair.no_part refl))
  open_keeps_nothing (suc (suc zero)) fair = absurd (false≢true (fair.no_part refl))
  open_keeps_nothing (suc (suc (suc zero))) fair = absurd (false≢true (fair.no_part refl))
  open_keeps_nothing (suc (suc (suc (suc n)))) fair = absurd (let w = fair.within in omega arith)

  -- once sealed, it keeps nothing or all
  pub sealed_keeps_all_or_nothing : (n : ℕ) → IsFair sealed n → (n ≡ 0) ⊎ (n ≡ 4)
  sealed_keeps_all_or_nothing zero fair = inl refl
  sealed_keeps_all_or_nothing (suc zero) fair = absurd (false≢true (fair.no_part refl))
  sealed_keeps_all_or_nothing (suc (suc zero)) fair = absurd (false≢true (fair.no_part refl))
  sealed_keeps_all_or_nothing (suc (suc (suc zero))) fair = absurd (false≢true (fair.no_part refl))
  sealed_keeps_all_or_nothing (suc (suc (suc (suc zero)))) fair = inr refl
  sealed_keeps_all_or_nothing (suc (suc (suc (suc (suc n))))) fair = absurd (let w = fair.within in omega arith)

  -- once cancelled, it keeps any beginning
  pub cancelled_keeps_any : IsFair cancelled 0 × IsFair cancelled 1 × IsFair cancelled 2 × IsFair cancelled 3 × IsFair cancelled 4
  cancelled_keeps_any = (
    record { within = omega arith; no_part = λ o. absurd (false≢true o) },
    record { within = omega arith; no_part = λ o. refl },
    record { within = omega arith; no_part = λ o. refl },
    record { within = omega arith; no_part = λ o. refl },
    record { within = omega arith; no_part = λ o. absurd (false≢true o) },
  )

  -- what these cuts leave: neither replacement, the first, or both
  pub contents_of_cuts : (contents_after before (take 0 sealed) ≡ before) × (contents_after before (take 2 cancelled) ≡ Free ∷ Free ∷ c ∷ b ∷ []) × (contents_after before (take 4 sealed) ≡ Free ∷ Free ∷ c ∷ d ∷ [])
  contents_of_cuts = (refl, refl, refl)

  -- a stop within the cancelled batch leaves no open batch, so a later one is judged from its own beginning
  pub later_batch_is_its_own : (is_open (drop 2 cancelled) ≡ false) × (is_open (drop 2 cancelled ++ begun) ≡ true) × (is_cancelled (drop 2 cancelled ++ begun) ≡ true)
  later_batch_is_its_own = (refl, refl, refl)

module _ (leaf : WholeNode) (set : NodeLink) where
  -- a new page and a link on it, both pending over the two system pages
  abbrev system : List Content
  system = Roots [] ∷ Counter 0 ∷ []

  abbrev allocated : List (Event Update)
  allocated = Change 2 (Put (Node leaf)) ∷ Change 2 (Link set) ∷ []

  -- a stop may keep neither, the page alone, or the page with its link
  pub page_and_link : (contents_after system (take 0 allocated) ≡ system)
      × (contents_after system (take 1 allocated) ≡ Roots [] ∷ Counter 0 ∷ Node leaf ∷ [])
      × (contents_after system (take 2 allocated) ≡ Roots [] ∷ Counter 0 ∷ Node (applied set leaf) ∷ [])
  page_and_link = (refl, refl, refl)

  pub each_is_fair : IsFair allocated 0 × IsFair allocated 1 × IsFair allocated 2
  each_is_fair = (
    record { within = omega arith; no_part = λ o. absurd (false≢true o) },
    record { within = omega arith; no_part = λ o. absurd (false≢true o) },
    record { within = omega arith; no_part = λ o. absurd (false≢true o) },
  )
