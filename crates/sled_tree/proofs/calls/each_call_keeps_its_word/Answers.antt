use Rattle.std.proofs.Common.{◌≡◌, [], length, refl}
use Rattle.std.specs.Prelude.{◌↔◌, IsTrue}
use Rattle.std.specs.Option.{is_some}
use Rattle.sled_search.specs.Map.{at_key}
use Rattle.sled_tree.specs.Calls.{Opened, Got, Contained, GotFirst, GotLast, GotAbove, GotBelow, GotRange, Counted, FoundEmpty, Inserted, Removed, Swapped, Generated, Flushed, Pinned, Sealed, Cancelled}
use Rattle.sled_tree.specs.Changed.{LeavesPages}
use Rattle.sled_tree.specs.Maps.{ChangesMap, KeepsMaps, SetsKey, SwapsKey, TakesKey, root_of}
use Rattle.sled_tree.specs.Names.{OpensMap}
use Rattle.sled_tree.specs.Ordered.{behind, before, first_of, last_of, IsPieceOf}
use Rattle.sled_tree.proofs.CallsWords.{word-of, opened-word, read-word, inserted-word, removed-word, swapped-word, generated-word, flushed-word, pinned-word, sealed-word, cancelled-word}
use Rattle.sled_tree.proofs.calls.each_call_keeps_its_word.Goals as goal

pub returns-clause-open : goal.returns-clause-open
returns-clause-open g c = λ name result. word-of g.L.Log (OpensMap root_of name result) (Opened name result) (λ s t events. opened-word s t events name result)

pub returns-clause-get : goal.returns-clause-get
returns-clause-get g c = λ root key result. read-word g.L.Log result root (λ m value. value ≡ at_key m key) (Got root key result) (λ w has. has) (λ fault old so. (refl, so))

pub returns-clause-contains_key : goal.returns-clause-contains_key
returns-clause-contains_key g c = λ root key result. read-word g.L.Log result root (λ m there. there ≡ is_some (at_key m key)) (Contained root key result) (λ w has. has) (λ fault old so. (refl, so))

pub returns-clause-first : goal.returns-clause-first
returns-clause-first g c = λ root result. read-word g.L.Log result root (λ m pair. pair ≡ first_of m) (GotFirst root result) (λ w has. has) (λ fault old so. (refl, so))

pub returns-clause-last : goal.returns-clause-last
returns-clause-last g c = λ root result. read-word g.L.Log result root (λ m pair. pair ≡ last_of m) (GotLast root result) (λ w has. has) (λ fault old so. (refl, so))

pub returns-clause-next_above : goal.returns-clause-next_above
returns-clause-next_above g c = λ root bound result. read-word g.L.Log result root (λ m pair. pair ≡ first_of (behind bound m)) (GotAbove root bound result) (λ w has. has) (λ fault old so. (refl, so))

pub returns-clause-next_below : goal.returns-clause-next_below
returns-clause-next_below g c = λ root bound result. read-word g.L.Log result root (λ m pair. pair ≡ last_of (before bound m)) (GotBelow root bound result) (λ w has. has) (λ fault old so. (refl, so))

pub returns-clause-range : goal.returns-clause-range
returns-clause-range g c = λ root from to result. read-word g.L.Log result root (λ m piece. IsPieceOf from to m piece) (GotRange root from to result) (λ w has. has) (λ fault old so. (refl, so))

pub returns-clause-len : goal.returns-clause-len
returns-clause-len g c = λ root result. read-word g.L.Log result root (λ m count. count ≡ length m) (Counted root result) (λ w has. has) (λ fault old so. (refl, so))

pub returns-clause-is_empty : goal.returns-clause-is_empty
returns-clause-is_empty g c = λ root result. read-word g.L.Log result root (λ m none. IsTrue none ↔ (m ≡ [])) (FoundEmpty root result) (λ w has. has) (λ fault old so. (refl, so))

pub returns-clause-insert : goal.returns-clause-insert
returns-clause-insert g c = λ root key value result.
    word-of g.L.Log (ChangesMap root (SetsKey root key value result)) (Inserted root key value result) (λ s t events. inserted-word s t events root key value result)

pub returns-clause-remove : goal.returns-clause-remove
returns-clause-remove g c = λ root key result. word-of g.L.Log (ChangesMap root (TakesKey root key result)) (Removed root key result) (λ s t events. removed-word s t events root key result)

pub returns-clause-compare_and_swap : goal.returns-clause-compare_and_swap
returns-clause-compare_and_swap g c = λ root key before after result.
    word-of g.L.Log (ChangesMap root (SwapsKey root key before after result)) (Swapped root key before after result) (λ s t events. swapped-word s t events root key before after result)

pub returns-clause-generate_id : goal.returns-clause-generate_id
returns-clause-generate_id g c = λ result. word-of g.L.Log KeepsMaps (Generated result) (λ s t events. generated-word s t events result)

pub returns-clause-pin : goal.returns-clause-pin
returns-clause-pin g c = λ result. word-of g.L.Log KeepsMaps (Pinned result) (λ s t events. pinned-word s t events result)

pub returns-clause-seal : goal.returns-clause-seal
returns-clause-seal g c = λ result. word-of g.L.Log LeavesPages (Sealed result) (λ s t events. sealed-word s t events result)

pub returns-clause-cancel : goal.returns-clause-cancel
returns-clause-cancel g c = λ result. word-of g.L.Log LeavesPages (Cancelled result) (λ s t events. cancelled-word s t events result)

pub returns-clause-flush : goal.returns-clause-flush
returns-clause-flush g c = λ result. word-of g.L.Log KeepsMaps (Flushed result) (λ s t events. flushed-word s t events result)
