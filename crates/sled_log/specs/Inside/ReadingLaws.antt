-- A message is one change at most, the messages of a page make one content at most, and lists of messages may be joined and
-- cut as the changes that they are.
use Rattle.std.proofs.Common.{rules, ◌≡◌, ℕ, zero, suc, Bool, true, false, List, [], ◌∷◌, ◌++◌, length, take, drop, refl, sym, ◌∙◌, ap, subst, arith}
use Rattle.sled_base.specs.Kinds.{log_kind_of}
use Rattle.sled_base.specs.Payloads.NumberLaws.{U64-grammar}
use Rattle.sled_base.specs.declared.kinds.MessageKind.{MessageKind}
use Rattle.sled_base.specs.declared.kinds.MessageKind.TheVariants as kinds
use Rattle.sled_node.specs.Payloads.LinkLaws.{Link-grammar}
use Rattle.sled_node.specs.Payloads.NodeLaws.{Node-grammar}
use Rattle.sled_node.specs.Payloads.RootLaws.{Roots-grammar}
use Rattle.sled_log.specs.Events.{open_after, is_cancelled, IsFair, Event, Change, Pin, Seal, Cancel}
use Rattle.sled_log.specs.Contents.{Content, Free, Counter, Roots, Node, Update, Put, Link, after_link, contents_from, contents_after, effect_of_update}
use Rattle.sled_log.specs.Messages.{Message, Messages}
use Rattle.sled_log.specs.Reading.{Decodes, IsUpdate, LeadTo, Makes, AreEvents}

-- ---- one message

-- what a message does to its page is what its update does
pub reads_effect : (kind : MessageKind) (payload : List ℕ) (update : Update) → Decodes kind payload update → log_kind_of kind ≡ effect_of_update update
reads_effect kinds.Free payload (Put Free) h = refl
reads_effect kinds.Counter payload (Put (Counter n)) h = refl
reads_effect kinds.InlineMeta payload (Put (Roots roots)) h = refl
reads_effect kinds.BlobMeta payload (Put (Roots roots)) h = refl
reads_effect kinds.InlineNode payload (Put (Node node)) h = refl
reads_effect kinds.BlobNode payload (Put (Node node)) h = refl
reads_effect kinds.InlineLink payload (Link link) h = refl
reads_effect kinds.BlobLink payload (Link link) h = refl
reads_effect kind payload update h = absurd h

-- a payload reads one update at most
reads_one : (kind : MessageKind) (payload : List ℕ) (u v : Update) → Decodes kind payload u → Decodes kind payload v → u ≡ v
reads_one kinds.Free payload (Put Free) (Put Free) h i = refl
reads_one kinds.Counter payload (Put (Counter m)) (Put (Counter n)) h i = ap (λ n. Put (Counter n)) (U64-grammar.one_reading payload m n [] [] h i).0
reads_one kinds.InlineMeta payload (Put (Roots m)) (Put (Roots n)) h i = ap (λ n. Put (Roots n)) (Roots-grammar.one_reading payload m n [] [] h i).0
reads_one kinds.BlobMeta payload (Put (Roots m)) (Put (Roots n)) h i = ap (λ n. Put (Roots n)) (Roots-grammar.one_reading payload m n [] [] h i).0
reads_one kinds.InlineNode payload (Put (Node m)) (Put (Node n)) h i = ap (λ n. Put (Node n)) (Node-grammar.one_reading payload m n [] [] h i).0
reads_one kinds.BlobNode payload (Put (Node m)) (Put (Node n)) h i = ap (λ n. Put (Node n)) (Node-grammar.one_reading payload m n [] [] h i).0
reads_one kinds.InlineLink payload (Link m) (Link n) h i = ap (λ n. Link n) (Link-grammar.one_reading payload m n [] [] h i).0
reads_one kinds.BlobLink payload (Link m) (Link n) h i = ap (λ n. Link n) (Link-grammar.one_reading payload m n [] [] h i).0
reads_one kind payload u v h i = absurd (search rules)

pub one_update : (message : Message) (u v : Update) → IsUpdate message u → IsUpdate message v → u ≡ v
one_update message u v h i = reads_one message.kind message.payload u v h i

-- ---- the messages of a page

-- what an update puts, and what it makes of a node
abbrev put_by : Update → Content
put_by (Put content) = content
put_by (Link link) = Free

abbrev linked_by : Content → Update → Content
linked_by content (Put other) = content
linked_by content (Link link) = after_link link content

lead_one : (before : Content) (messages : Messages) (c d : Content) → LeadTo before messages c → LeadTo before messages d → c ≡ d
lead_one before [] c d h i = sym h ∙ i
lead_one before (m ∷ messages) c d (node, link, is, reads, accepts, leads) (other, second, is_other, reads_second, accepts_second, leads_second) =
    let one = one_update m (Link second) (Link link) reads_second reads in
    let same : linked_by (Node other) (Link second) ≡ linked_by (Node node) (Link link) = ap (linked_by (Node other)) one ∙ ap (after_link link) (sym is_other ∙ is) in
    lead_one (linked_by (Node node) (Link link)) messages c d leads (subst (λ content. LeadTo content messages d) same leads_second)

-- the messages of a page make one content at most
pub one_content : (messages : Messages) (c d : Content) → Makes messages c → Makes messages d → c ≡ d
one_content [] c d h i = absurd h
one_content (m ∷ messages) c d (first, reads, leads) (other, reads_other, leads_other) =
    lead_one first messages c d leads
    (subst (λ content. LeadTo content messages d) (ap put_by (one_update m (Put other) (Put first) reads_other reads)) leads_other)

-- ---- contents after events

pub contents_after-append : (contents : List Content) (us vs : List (Event Update)) → contents_after contents (us ++ vs) ≡ contents_after (contents_after contents us) vs
contents_after-append contents [] vs = refl
contents_after-append contents (u ∷ us) vs = contents_after-append (contents_from contents u) us vs

-- ---- lists of messages

-- one list after another
pub events-append : (contents : List Content) (ms ns : List (Event Message)) (us vs : List (Event Update))
    → AreEvents contents ms us → AreEvents (contents_after contents us) ns vs → AreEvents contents (ms ++ ns) (us ++ vs)
events-append contents [] ns [] vs h i = i
events-append contents (m ∷ ms) ns (u ∷ us) vs h i = (h.0, h.1, events-append (contents_from contents u) ms ns us vs h.2 i)
events-append contents [] ns (u ∷ us) vs h i = absurd h
events-append contents (m ∷ ms) ns [] vs h i = absurd h

-- what is before a cut
pub events-take : (contents : List Content) (n : ℕ) (ms : List (Event Message)) (us : List (Event Update)) → AreEvents contents ms us → AreEvents contents (take n ms) (take n us)
events-take contents zero ms us h = tt
events-take contents (suc n) [] [] h = tt
events-take contents (suc n) (m ∷ ms) (u ∷ us) h = (h.0, h.1, events-take (contents_from contents u) n ms us h.2)
events-take contents (suc n) [] (u ∷ us) h = absurd h
events-take contents (suc n) (m ∷ ms) [] h = absurd h

-- what is after a cut is events of the contents at the cut
pub events-drop : (contents : List Content) (n : ℕ) (ms : List (Event Message)) (us : List (Event Update))
    → AreEvents contents ms us → AreEvents (contents_after contents (take n us)) (drop n ms) (drop n us)
events-drop contents zero ms us h = h
events-drop contents (suc n) [] [] h = tt
events-drop contents (suc n) (m ∷ ms) (u ∷ us) h = events-drop (contents_from contents u) n ms us h.2
events-drop contents (suc n) [] (u ∷ us) h = absurd h
events-drop contents (suc n) (m ∷ ms) [] h = absurd h

pub events-length : (contents : List Content) (ms : List (Event Message)) (us : List (Event Update)) → AreEvents contents ms us → length us ≡ length ms
events-length contents [] [] h = refl
events-length contents (m ∷ ms) (u ∷ us) h = ap suc (events-length (contents_from contents u) ms us h.2)
events-length contents [] (u ∷ us) h = absurd h
events-length contents (m ∷ ms) [] h = absurd h

-- ---- batches and fair cuts

-- messages leave a batch open if the changes do
pub reads-open : (contents : List Content) (was : Bool) (ms : List (Event Message)) (us : List (Event Update)) → AreEvents contents ms us → open_after was ms ≡ open_after was us
reads-open contents was [] [] h = refl
reads-open contents was (Change id m ∷ ms) (Change other u ∷ us) h = reads-open (contents_from contents (Change other u)) was ms us h.2
reads-open contents was (Pin ∷ ms) (Pin ∷ us) h = reads-open contents true ms us h.2
reads-open contents was (Seal ∷ ms) (Seal ∷ us) h = reads-open contents false ms us h.2
reads-open contents was (Cancel ∷ ms) (Cancel ∷ us) h = reads-open contents false ms us h.2
reads-open contents was [] (u ∷ us) h = absurd h
reads-open contents was (m ∷ ms) [] h = absurd h
reads-open contents was (m ∷ ms) (u ∷ us) h = absurd h.0

reads-cancelled : (contents : List Content) (ms : List (Event Message)) (us : List (Event Update)) → AreEvents contents ms us → is_cancelled ms ≡ is_cancelled us
reads-cancelled contents [] [] h = refl
reads-cancelled contents (Change id m ∷ ms) (Change other u ∷ us) h = reads-cancelled (contents_from contents (Change other u)) ms us h.2
reads-cancelled contents (Pin ∷ ms) (Pin ∷ us) h = reads-cancelled contents ms us h.2
reads-cancelled contents (Seal ∷ ms) (Seal ∷ us) h = refl
reads-cancelled contents (Cancel ∷ ms) (Cancel ∷ us) h = refl
reads-cancelled contents [] (u ∷ us) h = absurd h
reads-cancelled contents (m ∷ ms) [] h = absurd h
reads-cancelled contents (m ∷ ms) (u ∷ us) h = absurd h.0

-- a cut of the changes is fair if that of the messages is
pub reads-fair : (contents : List Content) (ms : List (Event Message)) (us : List (Event Update)) (cut : ℕ) → AreEvents contents ms us → IsFair ms cut → IsFair us cut
reads-fair contents ms us cut h fair = record {
  within = let w = fair.within in let l = events-length contents ms us h in omega arith;
  no_part = λ o.
      sym (reads-cancelled (contents_after contents (take cut us)) (drop cut ms) (drop cut us) (events-drop contents cut ms us h))
      ∙ fair.no_part (reads-open contents false (take cut ms) (take cut us) (events-take contents cut ms us h) ∙ o);
}
