use Rattle.sled_log.proofs.Names.{rules, ◌≡◌, ℤ, SFits, w64, not, nat_lt, nat_le, List, [], ◌∷◌, length, slice_index_or, refl, sym, ap, subst, arith, to_z-of_z, Any, is_empty, Entry, Chain, effect_of_entry, IsAt, stands-on}
use Rattle.sled_log.proofs.tests.walks.seal_batch.Goals as goal

-- the node's message is one of its page
known : (chains : List Chain) (counter leaf link : Entry) (lsn : ℤ) → leaf.place.lsn ≡ lsn → chains ≡ (counter ∷ []) ∷ (leaf ∷ link ∷ []) ∷ [] → Any (IsAt lsn leaf.place.pointer) (slice_index_or chains 1 [])
known chains counter leaf link lsn at is = subst (λ (l : List Chain). Any (IsAt lsn leaf.place.pointer) (slice_index_or l 1 [])) (sym is) (0, leaf, omega arith, refl, (at, refl))

pub append-requires-2-clause-can : goal.append-requires-2-clause-can
append-requires-2-clause-can g c =
    let s1 = stands-on _ c.requires.empty c.in_ok-counter.ensures.called in
    let s2 = stands-on _ s1 c.in_ok-first.ensures.called in
    let s3 = stands-on _ s2 c.in_ok-pin.ensures.called in
    λ told. ap (λ (l : List Chain). nat_le 1 (length l)) (s3.holds told)

pub append-requires-3-clause-can : goal.append-requires-3-clause-can
append-requires-3-clause-can g c =
    let s1 = stands-on _ c.requires.empty c.in_ok-counter.ensures.called in
    let s2 = stands-on _ s1 c.in_ok-first.ensures.called in
    let s3 = stands-on _ s2 c.in_ok-pin.ensures.called in
    let s4 = stands-on _ s3 c.in_ok-lsn.ensures.called in
    λ told. ap (λ (l : List Chain). not (is_empty effect_of_entry (slice_index_or l 1 []))) (s4.holds told)

pub look-requires-clause-known : goal.look-requires-clause-known
look-requires-clause-known g c =
    let s1 = stands-on _ c.requires.empty c.in_ok-counter.ensures.called in
    let s2 = stands-on _ s1 c.in_ok-first.ensures.called in
    let s3 = stands-on _ s2 c.in_ok-pin.ensures.called in
    let s4 = stands-on _ s3 c.in_ok-lsn.ensures.called in
    let s5 = stands-on _ s4 c.in_ok-link.ensures.called in
    let fits : SFits w64 c.in_ok-lsn.lsn = search rules in
    λ told. known _ _ _ _ _ (sym (to_z-of_z w64 c.in_ok-lsn.lsn fits)) (s5.holds told)

pub seal-requires : goal.seal-requires
seal-requires g c =
    let s1 = stands-on _ c.requires.empty c.in_ok-counter.ensures.called in
    let s2 = stands-on _ s1 c.in_ok-first.ensures.called in
    let s3 = stands-on _ s2 c.in_ok-pin.ensures.called in
    let s4 = stands-on _ s3 c.in_ok-lsn.ensures.called in
    let s5 = stands-on _ s4 c.in_ok-link.ensures.called in
    let s6 = c.in_ok-read.ensures.stands _ _ s5 in
    record { usable = s6.usable; opened = s6.opened }

pub returns : goal.returns
returns g c =
    let s1 = stands-on _ c.requires.empty c.in_ok-counter.ensures.called in
    let s2 = stands-on _ s1 c.in_ok-first.ensures.called in
    let s3 = stands-on _ s2 c.in_ok-pin.ensures.called in
    let s4 = stands-on _ s3 c.in_ok-lsn.ensures.called in
    let s5 = stands-on _ s4 c.in_ok-link.ensures.called in
    let s6 = c.in_ok-read.ensures.stands _ _ s5 in
    let s7 = stands-on _ s6 c.in_ok-seal.ensures.called in
    let s8 = c.in_ok-sealed.ensures.stands _ _ s7 in
    (s8.usable, s8.opened, λ told. ap (λ (l : List Chain). nat_lt 1 (length l)) (s8.holds told))
