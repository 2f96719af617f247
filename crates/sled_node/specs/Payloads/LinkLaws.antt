-- The laws of the encoding of links.
use Rattle.std.specs.Prelude.{◌≡◌, ℕ, ◌+◌, ◌≤◌, List, ◌++◌, length, refl}
use Rattle.std.proofs.Common.{get_or, ap, arith}
use Rattle.sled_node.specs.declared.node.link.Link.{Link}
use Rattle.sled_node.specs.declared.node.link.Link.TheVariants.{Set, Del, ParentMergeIntention, ParentMergeConfirm, ChildMergeCap}
use Rattle.sled_base.specs.Payloads.Reading.{IsGrammar}
use Rattle.sled_base.specs.Payloads.ReadingLaws.{Pair-grammar, one_tagged, behind, first}
use Rattle.sled_base.specs.Payloads.NumberLaws.{U64-grammar}
use Rattle.sled_node.specs.Payloads.ShortStringLaws.{Short-grammar}
use Rattle.sled_node.specs.Payloads.Links.{ReadsLink, written_link, CanWriteLink}

-- the first byte
abbrev pub tag_of : Link → ℕ
tag_of (Set key value) = 0
tag_of (Del key) = 1
tag_of (ParentMergeIntention page) = 2
tag_of ParentMergeConfirm = 3
tag_of ChildMergeCap = 4

pub tag_is : (input : List ℕ) (link : Link) (rest : List ℕ) → ReadsLink input link rest → get_or input 0 5 ≡ tag_of link
tag_is input (Set key value) rest found = first input 0 found.0 found.1
tag_is input (Del key) rest found = first input 1 found.0 found.1
tag_is input (ParentMergeIntention page) rest found = first input 2 found.0 found.1
tag_is input ParentMergeConfirm rest is = first input 3 rest is
tag_is input ChildMergeCap rest is = first input 4 rest is

one_link : (input : List ℕ) (v w : Link) (r s : List ℕ) → ReadsLink input v r → ReadsLink input w s → (v ≡ w) × (r ≡ s)
one_link input (Set k v) (Set l w) r s left right = one_tagged (Pair-grammar Short-grammar Short-grammar) (λ (p : List ℕ × List ℕ). Set p.0 p.1) 0 input (k, v) (l, w) r s left right
one_link input (Del k) (Del l) r s left right = one_tagged Short-grammar (λ key. Del key) 1 input k l r s left right
one_link input (ParentMergeIntention m) (ParentMergeIntention n) r s left right = one_tagged U64-grammar (λ page. ParentMergeIntention page) 2 input m n r s left right
one_link input ParentMergeConfirm ParentMergeConfirm r s left right = (refl, behind 3 input r s left right)
one_link input ChildMergeCap ChildMergeCap r s left right = (refl, behind 4 input r s left right)
one_link input v w r s left right =
    let one = tag_is input v r left in
    let other = tag_is input w s right in
    absurd (omega arith)

link_again : (link : Link) (rest : List ℕ) → CanWriteLink link → ReadsLink (written_link link ++ rest) link rest
link_again (Set key value) rest can = (_, refl, (Pair-grammar Short-grammar Short-grammar).read_again (key, value) rest can (tt, tt))
link_again (Del key) rest can = (_, refl, Short-grammar.read_again key rest can tt)
link_again (ParentMergeIntention page) rest can = (_, refl, U64-grammar.read_again page rest can tt)
link_again ParentMergeConfirm rest can = refl
link_again ChildMergeCap rest can = refl

link_takes : (input : List ℕ) (link : Link) (rest : List ℕ) → ReadsLink input link rest → length rest + 1 ≤ length input
link_takes input (Set key value) rest (parts, is, found) = omega (arith, ap length is, (Pair-grammar Short-grammar Short-grammar).takes parts (key, value) rest found)
link_takes input (Del key) rest (parts, is, found) = omega (arith, ap length is, Short-grammar.takes parts key rest found)
link_takes input (ParentMergeIntention page) rest (parts, is, found) = omega (arith, ap length is, U64-grammar.takes parts page rest found)
link_takes input ParentMergeConfirm rest is = omega (arith, ap length is)
link_takes input ChildMergeCap rest is = omega (arith, ap length is)

pub Link-grammar : IsGrammar ReadsLink written_link CanWriteLink (λ _ _. Unit {0}) 1
Link-grammar = record { one_reading = one_link; read_again = λ link rest can follows. link_again link rest can; takes = link_takes }
