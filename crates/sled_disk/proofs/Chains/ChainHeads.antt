-- Chains as they lie in memory.
use Rattle.std.proofs.Common.{◌≡◌, ℕ, zero, suc, ◌^◌, ◌≤◌, ◌<◌, Bool, true, false, not, List, [], ◌∷◌, ◌++◌, length, slice_set, slice_index_or, get_or, refl, ap, sym, ◌∙◌, subst, arith}
use Rattle.std.specs.Prelude.{◌==◌, Some, None, if◌then◌else◌}
use Rattle.std.specs.Global.{Vec}
use Rattle.std.proofs.lemmas.List.{map-set, length-map}
use Rattle.std.proofs.lemmas.Bool.{ne_eqb}
use Rattle.sled_disk.specs.declared.recovery.head.Head.{Head}
use Rattle.sled_base.specs.Kinds.{kind_of}
use Rattle.sled_base.specs.declared.kinds.LogKind.{LogKind}
use Rattle.sled_base.specs.declared.kinds.LogKind.TheVariants as effects
use Rattle.sled_base.specs.declared.kinds.MessageKind.TheVariants as kinds
use Rattle.sled_log.specs.Chains.{is_empty, chains_with_new, chains_after}
use Rattle.sled_log.specs.Events.{Event}
use Rattle.sled_log.proofs.ChainLaws.{Says, AllIn, chains-all}
use Rattle.sled_log.specs.Inside.ShapeLaws.{AreChains, chains-are}
use Rattle.std.specs.List.{AllByRecursion}
use Rattle.sled_disk.specs.RecoveredHeads.{AllEndBy, AreHeads, AreHeadsBy, EndsBy, IsPlaced}
use Rattle.sled_base.specs.declared.kinds.MessageKind.{MessageKind}
use Rattle.sled_disk.specs.Format.{◌>>=◌, Record, outside, plain, takes_change}
use Rattle.sled_disk.specs.Reading.{chains_of, effect_of_head, head_at, event_of, may_stand, step_head}

-- the chain of a page that is there
pub chain_at : (pages : List (Vec Head)) (page : ℕ) (chain : Vec Head) → page < length pages → chain ≡ get_or pages page chain → slice_index_or (chains_of pages) page [] ≡ chain.items
chain_at [] page chain lt is = absurd (omega arith)
chain_at (first ∷ pages) zero chain lt is = ap (λ (v : Vec Head). v.items) (sym is)
chain_at (first ∷ pages) (suc page) chain lt is = chain_at pages page chain (omega arith) is

-- the chains where one is made longer
pub linked-is : (pages : List (Vec Head)) (page : ℕ) (chain new : Vec Head) (head : Head) → page < length pages → chain ≡ get_or pages page chain → is_empty effect_of_head chain.items ≡ false → new.items ≡ chain.items ++ head ∷ []
    → (if is_empty effect_of_head (slice_index_or (chains_of pages) page []) then None else Some (slice_set (chains_of pages) page (slice_index_or (chains_of pages) page [] ++ head ∷ []))) ≡ Some (chains_of (slice_set pages page new))
linked-is pages page chain new head lt is some added =
    let at = chain_at pages page chain lt is in
    rw (at, some) (ap (λ (l : List (List Head)). Some l) (rw (← added) (sym (map-set (λ (v : Vec Head). v.items) pages page new))))

pub not_empty : (b : Bool) → true ≡ not b → b ≡ false
not_empty true h = cc
not_empty false h = refl

-- the chains where a page has a new one
pub replaced-is : (pages : List (Vec Head)) (page : ℕ) (new : Vec Head) (head : Head) → page < length pages → new.items ≡ head ∷ [] → chains_of (slice_set pages page new) ≡ chains_with_new effect_of_head (chains_of pages) page head
replaced-is pages page new head lt is =
    let other : (page == length (chains_of pages)) ≡ false = ne_eqb page (length (chains_of pages)) (λ e. let l = length-map pages (λ (v : Vec Head). v.items) in absurd (omega arith)) in
    rw (other, ← is) (map-set (λ (v : Vec Head). v.items) pages page new)

pub not_false : (b : Bool) → false ≡ not b → b ≡ true
not_false true h = refl
not_false false h = cc

-- the chains where one is as before
pub same-chain : (pages : List (Vec Head)) (page : ℕ) (chain new : Vec Head) → page < length pages → chain ≡ get_or pages page chain → new.items ≡ chain.items → chains_of (slice_set pages page new) ≡ chains_of pages
same-chain [] page chain new lt is same = absurd (omega arith)
same-chain (first ∷ pages) zero chain new lt is same = ap (λ (l : List Head). l ∷ chains_of pages) (same ∙ ap (λ (v : Vec Head). v.items) is)
same-chain (first ∷ pages) (suc page) chain new lt is same = ap (λ (l : List (List Head)). first.items ∷ l) (same-chain pages page chain new (omega arith) is same)

-- ---- a record and its head

-- a record outside a batch that begins none and marks none
pub plain-head : (kind : MessageKind) (chains : List (List Head)) (place : ℕ) (r : Record) → kind_of r.kind ≡ kind → plain head_at (takes_change effect_of_head) kind chains place r false ≡ (step_head chains r.id (head_at place r) >>= λ t. Some (outside t))
unfolding step_head
plain-head kinds.Canceled chains place r is = rw is refl
plain-head kinds.BatchManifest chains place r is = rw is refl
plain-head kinds.Corrupted chains place r is = rw is refl
plain-head kinds.Cap chains place r is = rw is refl
plain-head kinds.Free chains place r is = rw is refl
plain-head kinds.Counter chains place r is = rw is refl
plain-head kinds.InlineMeta chains place r is = rw is refl
plain-head kinds.BlobMeta chains place r is = rw is refl
plain-head kinds.InlineNode chains place r is = rw is refl
plain-head kinds.BlobNode chains place r is = rw is refl
plain-head kinds.InlineLink chains place r is = rw is refl
plain-head kinds.BlobLink chains place r is = rw is refl

-- one that marks one
pub plain-mark : (chains : List (List Head)) (place : ℕ) (r : Record) (b : Bool) → kind_of r.kind ≡ kinds.BatchManifest → plain head_at (takes_change effect_of_head) (kind_of r.kind) chains place r b ≡ (if b then Some (outside chains) else None)
plain-mark chains place r b is = rw is refl

-- ---- heads that end before a place

heads-chains : (end : ℕ) (chains : List (List Head)) → AllByRecursion (AreHeadsBy end) chains → AreChains effect_of_head chains
heads-chains end [] h = tt
heads-chains end (chain ∷ chains) h = (h.0.0, heads-chains end chains h.1)

heads-end : (end : ℕ) (chains : List (List Head)) → AllByRecursion (AreHeadsBy end) chains → AllIn effect_of_head (EndsBy end) chains
heads-end end [] h = tt
heads-end end (chain ∷ chains) h = (h.0.1, heads-end end chains h.1)

heads-are : (end : ℕ) (chains : List (List Head)) → AreChains effect_of_head chains → AllIn effect_of_head (EndsBy end) chains → AllByRecursion (AreHeadsBy end) chains
heads-are end [] h i = tt
heads-are end (chain ∷ chains) h i = ((h.0, i.0), heads-are end chains h.1 i.1)

ends-later : (end later : ℕ) (chain : List Head) → end ≤ later → AllByRecursion (EndsBy end) chain → AllByRecursion (EndsBy later) chain
ends-later end later [] le h = tt
ends-later end later (head ∷ chain) le h = (let first = h.0 in omega arith, ends-later end later chain le h.1)

-- before a later place too
pub heads-later : (end later : ℕ) (chains : List (List Head)) → end ≤ later → AllByRecursion (AreHeadsBy end) chains → AllByRecursion (AreHeadsBy later) chains
heads-later end later [] le h = tt
heads-later end later (chain ∷ chains) le h = ((h.0.0, ends-later end later chain le h.0.1), heads-later end later chains le h.1)

ends-placed : (end : ℕ) (chain : List Head) → end < 2 ^ 63 → AllByRecursion (EndsBy end) chain → AllByRecursion IsPlaced chain
ends-placed end [] lt h = tt
ends-placed end (head ∷ chain) lt h = (let first = h.0 in omega arith, ends-placed end chain lt h.1)

pub heads-placed : (end : ℕ) (chains : List (List Head)) → end < 2 ^ 63 → AllByRecursion (AreHeadsBy end) chains → AllByRecursion AreHeads chains
heads-placed end [] lt h = tt
heads-placed end (chain ∷ chains) lt h = (record { chain = h.0.0; placed = ends-placed end chain lt h.0.1 }, heads-placed end chains lt h.1)

pub all-end : (end : ℕ) (chains : List (List Head)) → AllByRecursion (AreHeadsBy end) chains → AllEndBy end chains
all-end end [] h = tt
all-end end (chain ∷ chains) h = (h.0.1, all-end end chains h.1)

event-ends : (end : ℕ) (kind : LogKind) (id : ℕ) (head : Head) → EndsBy end head → AllByRecursion (Says effect_of_head (EndsBy end)) (event_of kind id head)
event-ends end effects.Replace id head le = (le, tt)
event-ends end effects.Free id head le = (le, tt)
event-ends end effects.Link id head le = (le, tt)
event-ends end effects.Skip id head le = tt
event-ends end effects.Corrupted id head le = tt

-- with a record that was taken
pub heads-taken : (end : ℕ) (chains after : List (List Head)) (id : ℕ) (head : Head) → step_head chains id head ≡ Some after → EndsBy end head → AllByRecursion (AreHeadsBy end) chains → AllByRecursion (AreHeadsBy end) after
unfolding step_head
heads-taken end chains after id head taken le h = by (may_stand head.kind chains id) taken
  where
    events : List (Event Head)
    events = event_of (effect_of_head head) id head

    made : List (List Head)
    made = chains_after effect_of_head chains events

    by : (b : Bool) → (if b then Some made else None) ≡ Some after → AllByRecursion (AreHeadsBy end) after
    by true e = let same : made ≡ after = cc in subst (λ (l : List (List Head)). AllByRecursion (AreHeadsBy end) l) same
        (heads-are end made (chains-are effect_of_head chains events (heads-chains end chains h)) (chains-all effect_of_head (EndsBy end) chains events (heads-end end chains h) (event-ends end (effect_of_head head) id head le)))
    by false e = absurd cc
