-- Pages hold, after messages, the contents after the changes that these are.
use Rattle.std.proofs.Common.{◌≡◌, ℕ, Bool, true, false, cond, not, ◌==◌, List, [], ◌∷◌, ◌++◌, length, take, drop, Some, refl, sym, ◌∙◌, ap, subst, arith, slice_get, slice_set, slice_index_or}
use Rattle.std.proofs.lemmas.Bool.{false≢true, le-leb, lt-ltb}
use Rattle.std.proofs.lemmas.List.{take-append-drop}
use Rattle.std.proofs.lemmas.Option.{slice_get_within, get_or_from_slice_get}
use Rattle.std.proofs.lemmas.Slice.Zip.{AllZip-long}
use Rattle.std.proofs.Math.Seq.{take-append_seam}
use Rattle.sled_base.specs.declared.kinds.LogKind.TheVariants.{Replace}
use Rattle.sled_base.specs.declared.kinds.MessageKind.{MessageKind}
use Rattle.sled_base.specs.declared.kinds.MessageKind.TheVariants as kinds
use Rattle.sled_node.specs.Links.{Accepts, applied}
use Rattle.sled_node.specs.Node.{WholeNode}
use Rattle.sled_node.specs.declared.node.link.Link.{Link as NodeLink}
use Rattle.sled_log.specs.Calls.{can_append}
use Rattle.sled_log.specs.Chains.{is_freeing, is_empty, chain_with_link, chains_with_new, chains_with_change, chains_from, chains_after}
use Rattle.sled_log.specs.Contents.{Content, Free, Counter, Roots, Node, Damaged, Update, Put, Link, after_link, contents_with, contents_from, contents_after, effect_of_update}
use Rattle.sled_log.specs.Events.{Event, Change, Pin, Seal, Cancel}
use Rattle.sled_log.specs.Messages.{Message, Messages, effect_of}
use Rattle.sled_log.specs.Reading.{Decodes, IsUpdate, CountsAs, CanWrite, IsEvent, LeadTo, Makes, Holds, Hold, MayChange, MayCome, AreEvents, AreLeft, message_of}
use Rattle.sled_log.specs.Inside.ReadingLaws.{reads_effect, one_content, contents_after-append, events-append, events-take, events-drop, reads-fair}
use Rattle.sled_log.specs.LogState.{LogState, Adds, IsLeft}
use Rattle.sled_log.specs.Inside.ZipLaws.{zip-append, zip-set, zip-at}

-- ---- the messages of a page

abbrev is_node : Content → Bool
is_node Free = false
is_node (Counter n) = false
is_node (Roots roots) = false
is_node (Node node) = true
is_node Damaged = false

abbrev is_damaged : Content → Bool
is_damaged Damaged = true
is_damaged content = false

-- no node follows where a page was freed
not_freed : (first : Content) (messages : Messages) (node : WholeNode) → LeadTo first messages (Node node) → is_freeing (effect_of_update (Put first)) ≡ false
not_freed Free [] node h = absurd (false≢true (ap is_node h))
not_freed Free (m ∷ messages) node h = absurd (false≢true (ap is_node h.2))
not_freed (Counter n) messages node h = refl
not_freed (Roots roots) messages node h = refl
not_freed (Node other) messages node h = refl
not_freed Damaged messages node h = refl

-- a page that holds a node isn't empty
makes-full : (messages : Messages) (node : WholeNode) → Makes messages (Node node) → is_empty effect_of messages ≡ false
makes-full [] node h = absurd h
makes-full (m ∷ messages) node (first, reads, leads) = ap is_freeing (reads_effect m.kind m.payload (Put first) reads) ∙ not_freed first messages node leads

-- one more link
lead-more : (before : Content) (messages : Messages) (node : WholeNode) (m : Message) (link : NodeLink)
    → LeadTo before messages (Node node) → IsUpdate m (Link link) → Accepts node link → LeadTo before (messages ++ m ∷ []) (Node (applied link node))
lead-more before [] node m link h r accepts = (node, link, h, r, accepts, refl)
lead-more before (first ∷ messages) node m link (other, second, is, reads, accepts_second, leads) r accepts =
    (other, second, is, reads, accepts_second, lead-more (Node (applied second other)) messages node m link leads r accepts)

makes-more : (messages : Messages) (node : WholeNode) (m : Message) (link : NodeLink)
    → Makes messages (Node node) → IsUpdate m (Link link) → Accepts node link → Makes (messages ++ m ∷ []) (Node (applied link node))
makes-more [] node m link h r accepts = absurd h
makes-more (first ∷ messages) node m link (content, reads, leads) r accepts = (content, reads, lead-more content messages node m link leads r accepts)

makes-linked : (messages : Messages) (node : WholeNode) (m : Message) (link : NodeLink)
    → Makes messages (Node node) → IsUpdate m (Link link) → Accepts node link → Makes (chain_with_link effect_of messages m) (Node (applied link node))
makes-linked messages node m link h r accepts =
    subst (λ b. Makes (cond b messages (messages ++ m ∷ [])) (Node (applied link node))) (sym (makes-full messages node h)) (makes-more messages node m link h r accepts)

-- no payload decodes to a damaged content
puts-sound : (kind : MessageKind) (payload : List ℕ) (first : Content) → Decodes kind payload (Put first) → is_damaged first ≡ false
puts-sound kind payload Free reads = refl
puts-sound kind payload (Counter n) reads = refl
puts-sound kind payload (Roots roots) reads = refl
puts-sound kind payload (Node node) reads = refl
puts-sound kinds.Free payload Damaged reads = absurd reads
puts-sound kinds.Counter payload Damaged reads = absurd reads
puts-sound kinds.InlineMeta payload Damaged reads = absurd reads
puts-sound kinds.BlobMeta payload Damaged reads = absurd reads
puts-sound kinds.InlineNode payload Damaged reads = absurd reads
puts-sound kinds.BlobNode payload Damaged reads = absurd reads
puts-sound kind payload Damaged reads = absurd reads

-- what a page holds that messages make
pub holds-made : (messages : Messages) (content made : Content) → Holds messages content → Makes messages made → content ≡ made
holds-made messages Free made h i = one_content messages Free made h i
holds-made messages (Counter n) made h i = one_content messages (Counter n) made h i
holds-made messages (Roots roots) made h i = one_content messages (Roots roots) made h i
holds-made messages (Node node) made h i = one_content messages (Node node) made h i
holds-made messages Damaged made h i = absurd (h.1 made i)

-- ---- what a message counts as

-- as what it reads
pub counts-read : (m : Message) (u : Update) → IsUpdate m u → CountsAs m u
counts-read m (Put Free) r = r
counts-read m (Put (Counter n)) r = r
counts-read m (Put (Roots roots)) r = r
counts-read m (Put (Node node)) r = r
counts-read m (Put Damaged) r = absurd (false≢true (sym (puts-sound m.kind m.payload Damaged r)))
counts-read m (Link link) r = r

-- a message has the effect of what it counts as
pub counts_effect : (m : Message) (u : Update) → CountsAs m u → effect_of m ≡ effect_of_update u
counts_effect m (Put Free) r = reads_effect m.kind m.payload (Put Free) r
counts_effect m (Put (Counter n)) r = reads_effect m.kind m.payload (Put (Counter n)) r
counts_effect m (Put (Roots roots)) r = reads_effect m.kind m.payload (Put (Roots roots)) r
counts_effect m (Put (Node node)) r = reads_effect m.kind m.payload (Put (Node node)) r
counts_effect m (Put Damaged) r = r.0
counts_effect m (Link link) r = reads_effect m.kind m.payload (Link link) r

-- a page holds what its one message counts as
pub counts-holds : (m : Message) (content : Content) → CountsAs m (Put content) → Holds (m ∷ []) content
counts-holds m Free r = (Free, r, refl)
counts-holds m (Counter n) r = (Counter n, r, refl)
counts-holds m (Roots roots) r = (Roots roots, r, refl)
counts-holds m (Node node) r = (Node node, r, refl)
counts-holds m Damaged r = (ap is_freeing r.0, λ content made. r.1 made.0 made.1)

-- The only message of a page, if it puts a content, counts as putting what the page holds.
pub holds-counts : (m : Message) (content : Content) → effect_of m ≡ Replace → Holds (m ∷ []) content → CountsAs m (Put content)
holds-counts m Free puts (first, reads, is) = subst (λ c. IsUpdate m (Put c)) is reads
holds-counts m (Counter n) puts (first, reads, is) = subst (λ c. IsUpdate m (Put c)) is reads
holds-counts m (Roots roots) puts (first, reads, is) = subst (λ c. IsUpdate m (Put c)) is reads
holds-counts m (Node node) puts (first, reads, is) = subst (λ c. IsUpdate m (Put c)) is reads
holds-counts m Damaged puts h = (puts, λ content reads. h.1 content (content, reads, refl))

-- ---- the pages after messages

holds-begun : (pages : List Messages) (contents : List Content) (id : ℕ) (m : Message) (content : Content)
    → Hold pages contents → CountsAs m (Put content) → Hold (chains_with_new effect_of pages id m) (contents_with contents id (Put content))
holds-begun pages contents id m content h r =
    subst (λ n. Hold (chains_with_new effect_of pages id m) (cond (id == n) (contents ++ content ∷ []) (slice_set contents id content))) (sym (AllZip-long Holds pages contents h))
    (by (id == length pages))
  where
    by : (b : Bool) → Hold (cond b (pages ++ (m ∷ []) ∷ []) (slice_set pages id (m ∷ []))) (cond b (contents ++ content ∷ []) (slice_set contents id content))
    by true = zip-append Holds pages contents ((m ∷ []) ∷ []) (content ∷ []) h (counts-holds m content r, tt)
    by false = zip-set Holds id pages contents (m ∷ []) content h (counts-holds m content r)

-- the page of a node that is there
held-node : (pages : List Messages) (contents : List Content) (id : ℕ) (node : WholeNode)
    → Hold pages contents → slice_get contents id ≡ Some (Node node) → Makes (slice_index_or pages id []) (Node node)
held-node pages contents id node h at =
    subst (Holds (slice_index_or pages id [])) (get_or_from_slice_get contents id (Node node) Free at)
    (zip-at Holds id pages contents [] Free h (slice_get_within contents id (Node node) at))

holds-changed : (pages : List Messages) (contents : List Content) (id : ℕ) (m : Message) (u : Update)
    → Hold pages contents → CountsAs m u → MayChange contents id u → Hold (chains_with_change effect_of (effect_of_update u) pages id m) (contents_with contents id u)
holds-changed pages contents id m (Put Free) h r may = holds-begun pages contents id m Free h r
holds-changed pages contents id m (Put (Counter n)) h r may = holds-begun pages contents id m (Counter n) h r
holds-changed pages contents id m (Put (Roots roots)) h r may = holds-begun pages contents id m (Roots roots) h r
holds-changed pages contents id m (Put (Node node)) h r may = holds-begun pages contents id m (Node node) h r
holds-changed pages contents id m (Put Damaged) h r may = holds-begun pages contents id m Damaged h r
holds-changed pages contents id m (Link link) h r (node, at, accepts) =
    subst (λ content. Hold (chains_with_change effect_of (effect_of_update (Link link)) pages id m) (slice_set contents id (after_link link content)))
    (sym (get_or_from_slice_get contents id (Node node) Free at))
    (zip-set Holds id pages contents _ (Node (applied link node)) h (makes-linked (slice_index_or pages id []) node m link (held-node pages contents id node h at) r accepts))

holds-from : (pages : List Messages) (contents : List Content) (m : Event Message) (u : Event Update)
    → Hold pages contents → IsEvent m u → MayCome contents u → Hold (chains_from effect_of pages m) (contents_from contents u)
holds-from pages contents (Change id m) (Change other u) h r may =
    subst (λ i. Hold (chains_from effect_of pages (Change i m)) (contents_with contents other u)) (sym r.0)
    (subst (λ k. Hold (chains_with_change effect_of k pages other m) (contents_with contents other u)) (sym (counts_effect m u r.1))
    (holds-changed pages contents other m u h r.1 may))
holds-from pages contents Pin Pin h r may = h
holds-from pages contents Seal Seal h r may = h
holds-from pages contents Cancel Cancel h r may = h
holds-from pages contents m u h r may = absurd r

-- after messages, pages hold the contents after the changes that these are
pub holds-after : (pages : List Messages) (contents : List Content) (ms : List (Event Message)) (us : List (Event Update))
    → Hold pages contents → AreEvents contents ms us → Hold (chains_after effect_of pages ms) (contents_after contents us)
holds-after pages contents [] [] h r = h
holds-after pages contents (m ∷ ms) (u ∷ us) h r = holds-after (chains_from effect_of pages m) (contents_from contents u) ms us (holds-from pages contents m u h r.0 r.1) r.2
holds-after pages contents [] (u ∷ us) h r = absurd r
holds-after pages contents (m ∷ ms) [] h r = absurd r

-- ---- crashes, and what a log adds

-- what a crash leaves holds the contents after a fair prefix of the changes
pub reads-left : (old : LogState Message) (begun : List (Event Message)) (pages : List Messages) (stable : List Content) (pending events : List (Event Update))
    → Hold old.stable stable
    → AreEvents stable old.pending pending
    → AreEvents (contents_after stable pending) begun events
    → IsLeft effect_of old begun pages
    → AreLeft stable pending events pages
reads-left old begun pages stable pending events held waits comes left =
    let n = length left.came in
    let some : List (Event Update) = take n events in
    let part : take n begun ≡ left.came = ap (take n) (sym left.beginning.1) ∙ take-append_seam left.came left.beginning.0 in
    let now = contents_after stable pending in
    let came : AreEvents now left.came some = subst (λ (l : List (Event Message)). AreEvents now l some) part (events-take now n begun events comes) in
    let kept : List (Event Message) = old.pending ++ left.came in
    let changes : List (Event Update) = pending ++ some in
    let all : AreEvents stable kept changes = events-append stable old.pending left.came pending some waits came in
    record {
      came = some;
      beginning = (drop n events, take-append-drop n events);
      cut = left.cut;
      fair = reads-fair stable kept changes left.cut all left.fair;
      is =
          subst (λ (l : List Messages). Hold l (contents_after stable (take left.cut changes))) (sym left.is)
          (holds-after old.stable stable (take left.cut kept) (take left.cut changes) held (events-take stable left.cut kept changes all));
    }

-- Where a log adds messages, its stable pages hold the contents after the changes up to the cut, the others are pending, and
-- all of them together are the same.
pub holds-added : (old new : LogState Message) (begun : List (Event Message)) (stable : List Content) (pending events : List (Event Update))
    → Hold old.stable stable
    → AreEvents stable old.pending pending
    → AreEvents (contents_after stable pending) begun events
    → (added : Adds effect_of old begun new)
    → Hold new.stable (contents_after stable (take added.cut (pending ++ events)))
    × AreEvents (contents_after stable (take added.cut (pending ++ events))) new.pending (drop added.cut (pending ++ events))
    × (contents_after (contents_after stable (take added.cut (pending ++ events))) (drop added.cut (pending ++ events)) ≡ contents_after (contents_after stable pending) events)
holds-added old new begun stable pending events held waits comes added =
    let kept : List (Event Message) = old.pending ++ begun in
    let changes : List (Event Update) = pending ++ events in
    let all : AreEvents stable kept changes = events-append stable old.pending begun pending events waits comes in (
      subst (λ (l : List Messages). Hold l (contents_after stable (take added.cut changes))) (sym added.stable)
          (holds-after old.stable stable (take added.cut kept) (take added.cut changes) held (events-take stable added.cut kept changes all)),
      subst (λ (l : List (Event Message)). AreEvents (contents_after stable (take added.cut changes)) l (drop added.cut changes)) (sym added.pending)
          (events-drop stable added.cut kept changes all),
      sym (contents_after-append stable (take added.cut changes) (drop added.cut changes))
          ∙ ap (contents_after stable) (take-append-drop added.cut changes)
          ∙ contents_after-append stable pending events,
    )

-- ---- what may be appended

-- a change may be appended that may be made of what the pages of a log hold, and written
pub may-append : (pages : List Messages) (contents : List Content) (id : ℕ) (update : Update)
    → Hold pages contents → MayChange contents id update → CanWrite update → can_append effect_of pages id (message_of update).kind ≡ true
may-append pages contents id (Put Free) h may can = lt-ltb id (length pages) (let l = AllZip-long Holds pages contents h in omega (arith, may))
may-append pages contents id (Put (Counter n)) h may can = le-leb id (length pages) (let l = AllZip-long Holds pages contents h in omega (arith, may))
may-append pages contents id (Put (Roots roots)) h may can = le-leb id (length pages) (let l = AllZip-long Holds pages contents h in omega (arith, may))
may-append pages contents id (Put (Node node)) h may can = le-leb id (length pages) (let l = AllZip-long Holds pages contents h in omega (arith, may))
may-append pages contents id (Put Damaged) h may can = absurd can
may-append pages contents id (Link link) h (node, at, accepts) can = ap not (makes-full (slice_index_or pages id []) node (held-node pages contents id node h at))
