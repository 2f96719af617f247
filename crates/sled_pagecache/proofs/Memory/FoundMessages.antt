-- The messages of a page make one content, and each beginning of them makes a node.
use Rattle.sled_pagecache.proofs.Names.{◌≡◌, ℕ, ◌+◌, ◌<◌, List, [], ◌∷◌, ◌++◌, length, map, take, drop, get_or, Some, refl, sym, ap, subst, ◌∙◌, arith, drop_more, length-append, length-map, append_assoc, ◌⊎◌, take-append-drop, map-append, DiskPtr, Refusal, Corruption, OutOfMemory, Content, Node, Link, NodeLink, Accepts, IsUpdate, one_update, Entry, Chain, Message, Messages, messages_of, LeadTo, Makes, one_content, applied, WholeNode, MakesNode, IsFirstWrong, Leads, RefusesMessage, RefusesPull}

-- ---- messages behind others

lead-join : (content mid after : Content) (told more : Messages) → LeadTo content told mid → LeadTo mid more after → LeadTo content (told ++ more) after
lead-join content mid after [] more h l = subst (λ (c : Content). LeadTo c more after) (sym h) l
lead-join content mid after (x ∷ told) more h l = (h.0, h.1, h.2, h.3, h.4, lead-join (Node (applied h.1 h.0)) mid after told more h.5 l)

lead-split : (content after : Content) (told more : Messages) → LeadTo content (told ++ more) after → (mid : Content) × LeadTo content told mid × LeadTo mid more after
lead-split content after [] more h = (content, refl, h)
lead-split content after (x ∷ told) more h =
    let r = lead-split (Node (applied h.1 h.0)) after told more h.5 in (r.0, (h.0, h.1, h.2, h.3, h.4, r.1), r.2)

pub makes-more : (told : Messages) (before : WholeNode) (m : Message) (after : WholeNode)
    → Makes told (Node before) → Leads before m after → Makes (told ++ m ∷ []) (Node after)
makes-more [] before m after h l = absurd h
makes-more (x ∷ told) before m after h l = (h.0, h.1, lead-join h.0 (Node before) (Node after) told (m ∷ []) h.2 (before, l.0, refl, l.1, l.2, ap Node (sym l.3)))

-- A message behind those that make a node makes another with them only where the one leads to the other.
pub makes-last : (told : Messages) (before : WholeNode) (m : Message) (after : WholeNode)
    → Makes told (Node before) → Makes (told ++ m ∷ []) (Node after) → Leads before m after
makes-last [] before m after h k = absurd h
makes-last (x ∷ told) before m after h k =
    let r = lead-split k.0 (Node after) told (m ∷ []) k.2 in
    let link = r.2 in
    let e : link.0 ≡ before = cc (one_content (x ∷ told) r.0 (Node before) (k.0, k.1, r.1) h, link.2) in
    subst (λ (n : WholeNode). Leads n m after) e (link.1, link.3, link.4, cc (link.5))

lead-node : (content : Content) (told : Messages) (after : WholeNode) → LeadTo content told (Node after) → (node : WholeNode) × (content ≡ Node node)
lead-node content [] after h = (after, h)
lead-node content (x ∷ told) after h = (h.0, h.2)

-- what makes a node makes one up to each of its messages
makes-front : (told more : Messages) (after : WholeNode) → 0 < length told → Makes (told ++ more) (Node after) → MakesNode told
makes-front [] more after some h = absurd (omega (arith, some))
makes-front (x ∷ told) more after some h =
    let r = lead-split h.0 (Node after) told more h.2 in
    let mid = lead-node r.0 more after r.2 in
    (mid.0, (h.0, h.1, subst (LeadTo h.0 told) mid.1 r.1))

-- ---- one message, refused

-- a link that the node doesn't accept
pub leads_nowhere : (before : WholeNode) (m : Message) (link : NodeLink) → IsUpdate m (Link link) → ¬ Accepts before link → (after : WholeNode) → ¬ Leads before m after
leads_nowhere before m link is not after leads =
    let same : Link leads.0 ≡ Link link = one_update m (Link leads.0) (Link link) leads.1 is in
    not (subst (λ (l : NodeLink). Accepts before l) (let e : leads.0 ≡ link = cc in e) leads.2)

pub refuses_so : (pointer : DiskPtr) (a b : Type 0) → (a → b) → (e : Refusal) → RefusesMessage pointer a e → RefusesMessage pointer b e
refuses_so pointer a b f e h = grind arith

-- ---- a chain, refused

-- those before it were none, or made a node
pub refused-at : (chain : Chain) (i : ℕ) (entry : Entry) (amiss : Type 0) (e : Refusal) → i < length chain → entry ≡ get_or chain i entry
    → (take i chain ≡ []) ⊎ MakesNode (messages_of (take i chain)) → (amiss → ¬ MakesNode (messages_of (take i chain ++ entry ∷ [])))
    → RefusesMessage entry.place.pointer amiss e → RefusesPull chain e
refused-at chain i entry amiss OutOfMemory lt is sound wrong r = tt
refused-at chain i entry amiss (Corruption (Some place)) lt is sound wrong r = record {
  before = take i chain;
  first = entry;
  after = drop (i + 1) chain;
  is =
      sym (ap (λ (l : Chain). take i chain ++ l) (ap (λ (e : Entry). e ∷ drop (i + 1) chain) is ∙ sym (drop_more chain i entry lt)) ∙ take-append-drop i chain);
  kept = sym r.0;
  sound = sound;
  wrong = wrong r.1;
}
refused-at chain i entry amiss e lt is sound wrong r = absurd r

-- messages of which one is wrong make no node
pub wrong-none : {M : Type 0} (message : M → Message) (kept_at : M → DiskPtr) (messages : List M) (pointer : DiskPtr) → IsFirstWrong message kept_at messages pointer → ¬ MakesNode (map message messages)
wrong-none message kept_at messages pointer r (node, makes) =
    let told = r.before ++ r.first ∷ [] in
    r.wrong (makes-front (map message told) (map message r.after) node (omega (arith, length-append r.before (r.first ∷ []), length-map told message))
    (subst (λ (told : Messages). Makes told (Node node)) (ap (map message) (r.is ∙ sym (append_assoc r.before (r.first ∷ []) r.after)) ∙ map-append message told r.after) makes))
