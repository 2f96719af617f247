-- The laws of the encoding of nodes.
use Rattle.std.specs.Prelude.{◌≡◌, ◌≢◌, ℕ, zero, suc, ◌+◌, ◌<◌, ◌≤◌, ◌^◌, Bool, true, false, List, [], ◌∷◌, ◌++◌, length, map, take, drop, Option, Some, None, IfSome, refl}
use Rattle.std.proofs.Common.{sym, ap, subst, ◌∙◌, arith}
use Rattle.std.specs.List.{AllByRecursion}
use Rattle.std.proofs.lemmas.List.{length-map, take-append-drop, drop_at, length-drop}
use Rattle.std.proofs.lemmas.Cmp.{tied_itself, nat_cmp_total}
use Rattle.std.specs.declared.cmp.Ordering.{Ordering}
use Rattle.std.specs.declared.cmp.Ordering.TheVariants.{Less, Equal, Greater}
use Rattle.std.specs.Ordering.{nat_cmp, ordering_then}
use Rattle.std.specs.declared.num.NonZeroU64.{NonZeroU64}
use Rattle.std.specs.Int.NonZero.{non_zero_u64_get}
use Rattle.std.specs.Option.{option_map}
use Rattle.std.specs.FinMap.{nat_cmp-IsAntisymmetric}
use Rattle.sled_base.specs.Order.{Bytes, bytes_cmp, IsBelow, IsAtMost}
use Rattle.sled_base.specs.OrderLaws.{under_one_front}
use Rattle.sled_node.specs.declared.node.data.Data.{Data}
use Rattle.sled_node.specs.declared.node.data.Data.TheVariants.{Leaf, Index}
use Rattle.sled_node.specs.Pairs.{IsWithinLimit, IsAscending, HasPairs}
use Rattle.sled_node.specs.Node.{Item, Value, Child, WholeNode, IsInRange, ItemFits, IsPage, IsWellFormed}
use Rattle.sled_node.specs.Parts.{is_index, pairs_under, HasStored}
use Rattle.sled_base.specs.Payloads.Reading.{IsGrammar}
use Rattle.sled_base.specs.Payloads.ReadingLaws.{Triple-grammar}
use Rattle.sled_base.specs.Payloads.Numbers.{written_u64, written_bool, written_u8}
use Rattle.sled_base.specs.Payloads.NumberLaws.{Bool-grammar, U8-grammar}
use Rattle.sled_base.specs.Payloads.Options.{page_number, written_page, CanWritePage}
use Rattle.sled_base.specs.Payloads.OptionLaws.{Page-grammar}
use Rattle.sled_base.specs.Payloads.ByteStrings.{written_bytes, CanWriteBytes}
use Rattle.sled_base.specs.Payloads.ByteStringLaws.{Bytes-grammar}
use Rattle.sled_node.specs.Payloads.Data.{written_data}
use Rattle.sled_node.specs.Payloads.DataLaws.{Data-grammar}
use Rattle.sled_node.specs.Payloads.Nodes.{NodeParts, ReadsParts, node_from, ReadsNode, page_or_zero, value_in, page_of_item, stored_pairs, stored_as, written_node}

-- ---- each key between two keys with a common prefix has that prefix

ordered : (o : Ordering) (a b : Ordering) → ordering_then o a ≢ Less → ordering_then o b ≡ Less → (o ≡ Equal) × (a ≢ Less) × (b ≡ Less)
ordered Less a b above below = absurd (above refl)
ordered Equal a b above below = (refl, above, below)
ordered Greater a b above below = absurd cc

same_number : (m n : ℕ) → nat_cmp m n ≡ Equal → m ≡ n
same_number m n e = nat_cmp-IsAntisymmetric m n e

under_one_head : (x : ℕ) (a b : Bytes) → bytes_cmp (x ∷ a) (x ∷ b) ≡ bytes_cmp a b
under_one_head x a b = ap (λ o. ordering_then o (bytes_cmp a b)) (tied_itself nat_cmp_total x)

between : (p : ℕ) (lo key hi : Bytes) → IsBelow lo hi → IsAtMost lo key → IsBelow key hi → take p lo ≡ take p hi → take p key ≡ take p lo
between zero lo key hi lower above below common = refl
between (suc p) [] key [] lower above below common = absurd cc
between (suc p) [] key (z ∷ hi) lower above below common = absurd cc
between (suc p) (x ∷ lo) key [] lower above below common = absurd cc
between (suc p) (x ∷ lo) [] (z ∷ hi) lower above below common = absurd (above refl)
between (suc p) (x ∷ lo) (y ∷ key) (z ∷ hi) lower above below common =
    let head : x ≡ z = cc in
    let fronts : take p lo ≡ take p hi = cc in
    let lower_rest : IsBelow lo hi = sym (under_one_head x lo hi) ∙ subst (λ k. bytes_cmp (x ∷ lo) (k ∷ hi) ≡ Less) (sym head) lower in
    let below_x : ordering_then (nat_cmp y x) (bytes_cmp key hi) ≡ Less = subst (λ k. ordering_then (nat_cmp y k) (bytes_cmp key hi) ≡ Less) (sym head) below in
    let parted = ordered (nat_cmp y x) (bytes_cmp key lo) (bytes_cmp key hi) above below_x in
    let same : y ≡ x = same_number y x parted.0 in
    let rest = between p lo key hi lower_rest parted.1 parted.2 fronts in
    λ i. same i ∷ rest i

-- each key in the range begins with the prefix of lo
begins : (n : WholeNode) → IsWellFormed n → (key : Bytes) → IsInRange n key → take n.prefix_len key ≡ take n.prefix_len n.lo
begins n formed key inside = by_hi n.hi refl
  where
    by_hi : (hi : Bytes) → n.hi ≡ hi → take n.prefix_len key ≡ take n.prefix_len n.lo
    by_hi [] is = rw (formed.prefix_open is) refl
    by_hi (z ∷ hi) is = let some : n.hi ≢ [] = λ none. absurd cc in between n.prefix_len n.lo key n.hi (formed.range some) inside.0 (inside.1 some) formed.prefix_common

-- ---- stored pairs

all_map : {X Y : Type 0} {P : X → Type 0} (Q : Y → Type 0) (f : X → Y) → ((x : X) → P x → Q (f x)) → (xs : List X) → AllByRecursion P xs → AllByRecursion Q (map f xs)
all_map Q f so [] all = tt
all_map Q f so (x ∷ xs) all = (so x all.0, all_map Q f so xs all.1)

all_with : {X : Type 0} {P Q R : X → Type 0} → ((x : X) → P x → Q x → R x) → (xs : List X) → AllByRecursion P xs → AllByRecursion Q xs → AllByRecursion R xs
all_with so [] p q = tt
all_with so (x ∷ xs) p q = (so x p.0 q.0, all_with so xs p.1 q.1)

module _ {V : Type 0} (pick : Item → V) (make : V → Item) (front : Bytes) (p : ℕ) where
  abbrev Begins : Bytes × Item → Type 0
  Begins pair = take p pair.0 ≡ front

  whole_again : (key : Bytes) → take p key ≡ front → front ++ drop p key ≡ key
  whole_again key is = ap (λ k. k ++ drop p key) (sym is) ∙ take-append-drop p key

  -- the stored pairs with whole keys are the pairs of the node
  stored_under : {Fits : Item → Type 0} → ((item : Item) → Fits item → make (pick item) ≡ item) → (pairs : List (Bytes × Item)) → AllByRecursion (λ pair. Fits pair.1) pairs → AllByRecursion Begins pairs
      → map (λ pair. (front ++ pair.0, make pair.1)) (stored_pairs pick p pairs) ≡ pairs
  stored_under back [] fits begin = refl
  stored_under back (pair ∷ pairs) fits begin =
      let key = whole_again pair.0 begin.0 in
      let item = back pair.1 fits.0 in
      let others = stored_under back pairs fits.1 begin.1 in
      λ i. (key i, item i) ∷ others i

  -- storing pairs with whole keys results in the stored pairs again
  under_stored : ((v : V) → pick (make v) ≡ v) → length front ≡ p → (pairs : List (Bytes × V)) → stored_pairs pick p (map (λ pair. (front ++ pair.0, make pair.1)) pairs) ≡ pairs
  under_stored back len [] = refl
  under_stored back len (pair ∷ pairs) =
      let key = drop_at front pair.0 p len in
      let item = back pair.1 in
      let others = under_stored back len pairs in
      λ i. (key i, item i) ∷ others i

  below_stored : (a b : Bytes) → take p a ≡ front → take p b ≡ front → IsBelow a b → IsBelow (drop p a) (drop p b)
  below_stored a b x y lt =
      sym (under_one_front front (drop p a) (drop p b)) ∙ ap (λ k. bytes_cmp k (front ++ drop p b)) (whole_again a x) ∙ ap (bytes_cmp a) (whole_again b y) ∙ lt

  ascending_stored : (pairs : List (Bytes × Item)) → IsAscending pairs → AllByRecursion Begins pairs → IsAscending (stored_pairs pick p pairs)
  ascending_stored [] ascending begin = tt
  ascending_stored (pair ∷ pairs) ascending begin =
      let later = all_with {P = λ other. IsBelow pair.0 other.0} {Q = Begins} {R = λ other. IsBelow (drop p pair.0) (drop p other.0)} (λ other lt is. below_stored pair.0 other.0 begin.0 is lt) pairs ascending.0 begin.1 in
      (all_map {P = λ other. IsBelow (drop p pair.0) (drop p other.0)} (λ other. IsBelow (drop p pair.0) other.0) (λ other. (drop p other.0, pick other.1)) (λ other lt. lt) pairs later, ascending_stored pairs ascending.1 begin.1)

  has_stored : {Fits : Item → Type 0} (fits : V → Type 0) → ((item : Item) → Fits item → fits (pick item)) → (pairs : List (Bytes × Item)) → length pairs ≤ 2 ^ 24 → IsAscending pairs → AllByRecursion Begins pairs → AllByRecursion (λ pair. IsWithinLimit pair.0) pairs
      → AllByRecursion (λ pair. Fits pair.1) pairs → HasPairs fits (stored_pairs pick p pairs)
  has_stored {Fits = Fits} fits so pairs few ascending begin keys items = record {
    few = omega (arith, few, length-map {B = Bytes × V} pairs (λ pair. (drop p pair.0, pick pair.1)));
    ascending = ascending_stored pairs ascending begin;
    keys = all_map {P = λ pair. IsWithinLimit pair.0} (λ pair. IsWithinLimit pair.0) (λ pair. (drop p pair.0, pick pair.1)) (λ pair short. omega (arith, short, length-drop p pair.0)) pairs keys;
    items = all_map {P = λ pair. Fits pair.1} (λ pair. fits pair.1) (λ pair. (drop p pair.0, pick pair.1)) (λ pair h. so pair.1 h) pairs items;
  }

value_back : (item : Item) → ItemFits false item → Value (value_in item) ≡ item
value_back (Value value) fits = refl
value_back (Child page) fits = absurd fits

page_back : (item : Item) → ItemFits true item → Child (page_of_item item) ≡ item
page_back (Value value) fits = absurd fits
page_back (Child page) fits = refl

value_fits : (item : Item) → ItemFits false item → IsWithinLimit (value_in item)
value_fits (Value value) fits = fits
value_fits (Child page) fits = absurd fits

page_fits : (item : Item) → ItemFits true item → page_of_item item < 2 ^ 64
page_fits (Value value) fits = absurd fits
page_fits (Child page) fits = fits

-- the stored pairs of a node are its pairs again once their keys are whole, and they keep the limits and the order of stored pairs
module _ (front : Bytes) (p : ℕ) (pairs : List (Bytes × Item)) (few : length pairs ≤ 2 ^ 24) (ascending : IsAscending pairs) (begin : AllByRecursion (λ pair. take p pair.0 ≡ front) pairs) (keys : AllByRecursion (λ pair. IsWithinLimit pair.0) pairs) where
  whole_stored : (b : Bool) → AllByRecursion (λ pair. ItemFits b pair.1) pairs → (is_index (stored_as b p pairs) ≡ b) × (pairs_under front (stored_as b p pairs) ≡ pairs) × HasStored (stored_as b p pairs)
  whole_stored false items =
      (refl, stored_under value_in (λ v. Value v) front p {Fits = ItemFits false} value_back pairs items begin, has_stored value_in (λ v. Value v) front p {Fits = ItemFits false} IsWithinLimit value_fits pairs few ascending begin keys items)
  whole_stored true items =
      (refl, stored_under page_of_item (λ page. Child page) front p {Fits = ItemFits true} page_back pairs items begin, has_stored page_of_item (λ page. Child page) front p {Fits = ItemFits true} (λ page. page < 2 ^ 64) page_fits pairs few ascending begin keys items)

-- storing the pairs that result from stored pairs gives the stored pairs again
pub stored_again : (front : Bytes) (p : ℕ) (parts : Data) → length front ≡ p → stored_as (is_index parts) p (pairs_under front parts) ≡ parts
stored_again front p (Leaf pairs) len = ap (λ ps. Leaf ps) (under_stored value_in (λ v. Value v) front p (λ v. refl) len pairs)
stored_again front p (Index pairs) len = ap (λ ps. Index ps) (under_stored page_of_item (λ page. Child page) front p (λ page. refl) len pairs)

-- ---- the parts

abbrev CanWriteParts : NodeParts → Type 0
CanWriteParts parts = (CanWritePage parts.0.0 × (CanWritePage parts.0.1 × Unit {0})) × (((parts.1.0 < 2 ^ 8) × (CanWriteBytes parts.1.1 × CanWriteBytes parts.1.2)) × HasStored parts.2)

abbrev written_parts : NodeParts → List ℕ
written_parts parts = (written_page parts.0.0 ++ (written_page parts.0.1 ++ written_bool parts.0.2)) ++ ((written_u8 parts.1.0 ++ (written_bytes parts.1.1 ++ written_bytes parts.1.2)) ++ written_data parts.2)

pub one_parts : (input : List ℕ) (v w : NodeParts) (r s : List ℕ) → ReadsParts input v r → ReadsParts input w s → (v ≡ w) × (r ≡ s)
one_parts = (Triple-grammar (Triple-grammar Page-grammar Page-grammar Bool-grammar) (Triple-grammar U8-grammar Bytes-grammar Bytes-grammar) Data-grammar).one_reading

parts_again : (parts : NodeParts) (rest : List ℕ) → CanWriteParts parts → ReadsParts (written_parts parts ++ rest) parts rest
parts_again parts rest can = (Triple-grammar (Triple-grammar Page-grammar Page-grammar Bool-grammar) (Triple-grammar U8-grammar Bytes-grammar Bytes-grammar) Data-grammar).read_again parts rest can ((tt, (tt, tt)), ((tt, (tt, tt)), tt))

parts_take : (input : List ℕ) (parts : NodeParts) (rest : List ℕ) → ReadsParts input parts rest → length rest + 8 ≤ length input
parts_take = (Triple-grammar (Triple-grammar Page-grammar Page-grammar Bool-grammar) (Triple-grammar U8-grammar Bytes-grammar Bytes-grammar) Data-grammar).takes

-- ---- nodes

-- the page of this number
abbrev page_from : (o : Option ℕ) → IfSome o IsPage → Option NonZeroU64
page_from None h = None
page_from (Some page) h = Some (record { value = page; ok = h.0 })

get_page_from : (o : Option ℕ) (h : IfSome o IsPage) → option_map non_zero_u64_get (page_from o h) ≡ o
get_page_from None h = refl
get_page_from (Some page) h = refl

number_page_from : (o : Option ℕ) (h : IfSome o IsPage) → page_number (page_from o h) ≡ page_or_zero o
number_page_from None h = refl
number_page_from (Some page) h = refl

can_page_from : (o : Option ℕ) (h : IfSome o IsPage) → CanWritePage (page_from o h)
can_page_from None h = omega arith
can_page_from (Some page) h = h.1

pub number_of_page : (o : Option NonZeroU64) → page_number o ≡ page_or_zero (option_map non_zero_u64_get o)
number_of_page None = refl
number_of_page (Some page) = refl

one_node : (input : List ℕ) (v w : WholeNode) (r s : List ℕ) → ReadsNode input v r → ReadsNode input w s → (v ≡ w) × (r ≡ s)
one_node input v w r s (parts, left, is, formed) (others, right, also, other) =
    let same = one_parts input parts others r s left right in
    (sym is ∙ ap node_from same.0 ∙ also, same.1)

all_so : {X : Type 0} {P Q : X → Type 0} → ((x : X) → P x → Q x) → (xs : List X) → AllByRecursion P xs → AllByRecursion Q xs
all_so so [] all = tt
all_so so (x ∷ xs) all = (so x all.0, all_so so xs all.1)

all_begin : (n : WholeNode) → IsWellFormed n → AllByRecursion (λ pair. take n.prefix_len pair.0 ≡ take n.prefix_len n.lo) n.pairs
all_begin n formed = all_so {P = λ pair. IsInRange n pair.0} (λ pair inside. begins n formed pair.0 inside) n.pairs formed.in_range

-- the stored pairs of a well-formed node keep the limits and the order of stored pairs
pub formed_stored : (n : WholeNode) → IsWellFormed n → HasStored (stored_as n.is_index n.prefix_len n.pairs)
formed_stored n formed = (whole_stored (take n.prefix_len n.lo) n.prefix_len n.pairs formed.few formed.ascending (all_begin n formed) formed.keys n.is_index formed.items).2

node_again : (n : WholeNode) (rest : List ℕ) → IsWellFormed n → ReadsNode (written_node n ++ rest) n rest
node_again n rest formed =
    let p = n.prefix_len in
    let next = page_from n.next formed.pages.0 in
    let child = page_from n.child formed.pages.1 in
    let contents = stored_as n.is_index p n.pairs in
    let kept = whole_stored (take p n.lo) p n.pairs formed.few formed.ascending (all_begin n formed) formed.keys n.is_index formed.items in
    let parts : NodeParts = ((next, child, n.capped), (p, n.lo, n.hi), contents) in
    let same : node_from parts ≡ n = λ i. record {
      prefix_len = p;
      lo = n.lo;
      hi = n.hi;
      next = get_page_from n.next formed.pages.0 i;
      child = get_page_from n.child formed.pages.1 i;
      capped = n.capped;
      is_index = kept.0 i;
      pairs = kept.1 i;
    } in
    let text : written_parts parts ≡ written_node n = λ i.
    (written_u64 (number_page_from n.next formed.pages.0 i) ++ (written_u64 (number_page_from n.child formed.pages.1 i) ++ written_bool n.capped)) ++
    ((written_u8 p ++ (written_bytes n.lo ++ written_bytes n.hi)) ++ written_data contents) in
    let bounds = formed.bounds in
    let can : CanWriteParts parts = ((can_page_from n.next formed.pages.0, (can_page_from n.child formed.pages.1, tt)), ((omega (arith, formed.prefix_byte), (omega (arith, bounds.0), omega (arith, bounds.1))), kept.2)) in
    (parts, subst (λ front. ReadsParts (front ++ rest) parts rest) text (parts_again parts rest can), same, formed)

pub Node-grammar : IsGrammar ReadsNode written_node IsWellFormed (λ _ _. Unit {0}) 8
Node-grammar = record {
  one_reading = one_node;
  read_again = λ n rest can follows. node_again n rest can;
  takes = λ input n rest found. parts_take input found.0 rest found.1;
}
