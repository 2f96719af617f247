-- Which pages searches still come to where one page is changed.
use Rattle.std.proofs.Common.{ℕ, zero, suc, ◌≤◌, List, refl, sym, subst, arith}
use Rattle.sled_base.specs.Order.{Bytes}
use Rattle.sled_log.specs.Contents.{Content}
use Rattle.sled_search.specs.Map.{at_key}
use Rattle.sled_search.specs.Maps.{HasTree, AreTrees, IsOff, ChangesOne}
use Rattle.sled_search.specs.Search.{HasAt, Goes}
use Rattle.sled_search.proofs.Off.{goes-up_to}
use Rattle.sled_search.proofs.Paths.{met-once}
use Rattle.sled_tree.specs.Named.{Named}
use Rattle.sled_tree.specs.Walks.{Leads, IsReached, IsMet}

module _ (pages : List Content) (key : Bytes) where
  -- a search goes to a page, and from there to another
  goes-more : (i j from at to : ℕ) → Goes pages key i from at → Goes pages key j at to → (k : ℕ) × (i ≤ k) × Goes pages key k from to
  goes-more zero j from at to is goes = (j, omega arith, subst (λ p. Goes pages key j p to) (sym is) goes)
  goes-more (suc i) j from at to (next, first, rest) goes =
      let (k, le, all) = goes-more i j next at to rest goes in
      (suc k, omega arith, (next, first, all))

  pub leads-more : (from at to : ℕ) → Leads pages key from at → Leads pages key at to → Leads pages key from to
  leads-more from at to (i, before) (j, behind) = let (k, le, all) = goes-more i j from at to before behind in (k, all)

module _ (above page : ℕ) (pages : List Content) (w : Named) (met : IsMet above page pages w) where
  pub met-reached : IsReached page pages w
  met-reached = let (k, goes) = leads-more pages met.key met.root above page met.leads.0 met.leads.1 in (met.root, met.has, (met.key, k, goes))

  pub met-above : IsReached above pages w
  met-above = let (k, goes) = met.leads.0 in (met.root, met.has, (met.key, k, goes))

-- a page that is reached is met by itself
pub met-alone : (page : ℕ) (pages : List Content) (w : Named) → IsReached page pages w → IsMet page page pages w
met-alone page pages w (root, has, (key, turns, goes)) = record { root = root; has = has; key = key; leads = ((turns, goes), (zero, refl)) }

module _ (pages changed : List Content) (w : Named) (p : ℕ) (one : ChangesOne pages p changed) where
  -- where no search is at the page that is changed, each goes as before
  module _ (off : IsOff pages w.maps p) (root : ℕ) (has : HasTree w.maps root) (key : Bytes) where
    leads-on : (at to : ℕ) → Leads pages key root at → Leads pages key at to → Leads changed key at to
    leads-on at to (before, there) (turns, goes) = (turns, goes-up_to pages changed p one key turns at to goes (λ i lt met. never i met))
      where
        never : (i : ℕ) → Goes pages key i at p → ⊥
        never i met = let (k, le, all) = goes-more pages key before i root at p there met in off root has (key, k, all)

  pub met-stays : (above page : ℕ) → IsOff pages w.maps p → IsMet above page pages w → IsMet above page changed w
  met-stays above page off met = record {
    root = met.root;
    has = met.has;
    key = met.key;
    leads = (leads-on off met.root met.has met.key met.root above (zero, refl) met.leads.0, leads-on off met.root met.has met.key above page met.leads.0 met.leads.1);
  }

  -- a page before the one that is changed is reached as before
  pub still-above : AreTrees pages w.maps → (above : ℕ) → IsMet above p pages w → IsReached above changed w
  still-above trees above met =
      let (m, is) = met.has in
      let (i, before) = met.leads.0 in
      let (j, behind) = met.leads.1 in
      let (k, le, all) = goes-more pages met.key i j met.root above p before behind in
      let (t, found) = (trees.each met.root m is).comes met.key in (
        met.root,
        met.has,
        (
          met.key,
          i,
          goes-up_to pages changed p one met.key i met.root above before
              (λ before_it lt there. let same = met-once pages met.key (λ _ n. HasAt met.key (at_key m met.key) n) t before_it k met.root p found there all in absurd (omega (arith, le, lt, same))),
        ),
      )
