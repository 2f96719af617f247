-- What was encoded is decoded again.
use Rattle.std.proofs.Common.{ℕ, List, [], ◌∷◌, refl, subst}
use Rattle.std.proofs.lemmas.List.{append-nil}
use Rattle.sled_base.specs.Payloads.NumberLaws.{U64-grammar}
use Rattle.sled_base.specs.Payloads.Numbers.{ReadsU64, written_u64}
use Rattle.sled_node.specs.Payloads.LinkLaws.{Link-grammar}
use Rattle.sled_node.specs.Payloads.Links.{ReadsLink, written_link}
use Rattle.sled_node.specs.Payloads.NodeLaws.{Node-grammar}
use Rattle.sled_node.specs.Payloads.Nodes.{ReadsNode, written_node}
use Rattle.sled_node.specs.Payloads.RootLaws.{Roots-grammar}
use Rattle.sled_node.specs.Payloads.Roots.{ReadsRoots, written_roots}
use Rattle.sled_log.specs.Contents.{Content, Free, Counter, Roots, Node, Damaged, Update, Put, Link}
use Rattle.sled_log.specs.Events.{Change}
use Rattle.sled_log.specs.Inside.HoldingLaws.{counts-read}
use Rattle.sled_log.specs.Reading.{IsUpdate, MayChange, AreEvents, message_of, CanWrite}

pub written-update : (update : Update) → CanWrite update → IsUpdate (message_of update) update
written-update (Put Free) can = refl
written-update (Put (Counter n)) can = subst (λ (bytes : List ℕ). ReadsU64 bytes n []) (append-nil (written_u64 n)) (U64-grammar.read_again n [] can tt)
written-update (Put (Roots roots)) can = subst (λ (bytes : List ℕ). ReadsRoots bytes roots []) (append-nil (written_roots roots)) (Roots-grammar.read_again roots [] can refl)
written-update (Put (Node node)) can = subst (λ (bytes : List ℕ). ReadsNode bytes node []) (append-nil (written_node node)) (Node-grammar.read_again node [] can tt)
written-update (Put Damaged) can = absurd can
written-update (Link link) can = subst (λ (bytes : List ℕ). ReadsLink bytes link []) (append-nil (written_link link)) (Link-grammar.read_again link [] can tt)

-- a change that may be made is the event of the message that encodes it
pub events-update : (contents : List Content) (id : ℕ) (update : Update)
    → MayChange contents id update → CanWrite update → AreEvents contents (Change id (message_of update) ∷ []) (Change id update ∷ [])
events-update contents id update may can = ((refl, counts-read (message_of update) update (written-update update can)), may, tt)
