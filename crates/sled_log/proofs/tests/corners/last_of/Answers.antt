-- The last message of a page is one of its chain, whose places the page says.
use Rattle.sled_log.proofs.Names.{rules, ◌≡◌, ℕ, zero, suc, ℤ, ◌-◌, ◌<◌, SFits, w64, List, [], ◌∷◌, length, map, get_or, refl, sym, ap, subst, ◌∙◌, arith, Any, to_z-of_z, DiskPtr, Chain, IsAt, IsPageState, said_of}
use Rattle.sled_base.specs.declared.types.page_state.PageState.TheVariants.{Present}
use Rattle.sled_log.proofs.tests.corners.last_of.Goals as goal

-- what is said of a chain is said of one of its messages
in_map : (chain : Chain) (k : ℕ) (d : ℤ × DiskPtr × ℕ) → k < length (map said_of chain) → Any (λ entry. said_of entry ≡ get_or (map said_of chain) k d) chain
in_map [] k d lt = absurd (omega arith)
in_map (entry ∷ chain) zero d lt = (0, entry, omega arith, refl, refl)
in_map (entry ∷ chain) (suc k) d lt =
    let found = in_map chain k d (omega arith) in
    let within = found.2 in
    (suc found.0, found.1, omega arith, found.3, found.4)

at_place : (chain : Chain) (lsn : ℤ) (places : List (ℤ × DiskPtr × ℕ)) (k : ℕ) (link : ℤ × DiskPtr × ℕ) → map said_of chain ≡ places → k < length places → get_or places k link ≡ link → link.0 ≡ lsn → Any (IsAt lsn link.1) chain
at_place chain lsn places k link is lt there at =
    let found = subst (λ (l : List (ℤ × DiskPtr × ℕ)). k < length l → Any (λ entry. said_of entry ≡ get_or l k link) chain) is (in_map chain k link) lt in
    let same = found.4 ∙ there in
    (found.0, found.1, found.2, found.3, (ap (λ s. s.0) same ∙ at, ap (λ s. s.1) same))

pub returns-in-Present-2 : goal.returns-in-Present-2
returns-in-Present-2 c = λ chain is.
    let link = c.index-link.result.now in
    let shape : IsPageState chain (Present c.in-Present-2.base c.in-Present-2.frags) = subst (IsPageState chain) c.in-Present-2.is is in
    let fits : SFits w64 link.0 = search rules in
    let within : c.len.result - 1 < length c.in-Present-2.frags.items = search rules in
    at_place chain _ (c.in-Present-2.base ∷ c.in-Present-2.frags.items) (suc (c.len.result - 1)) link shape.1 (omega arith) (sym c.index-link.ensures) (sym (to_z-of_z w64 link.0 fits))
