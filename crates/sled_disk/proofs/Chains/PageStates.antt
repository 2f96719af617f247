-- The pages that heads show.
use Rattle.std.proofs.Common.{◌≡◌, ℕ, zero, suc, ◌+◌, ◌≤◌, ◌<◌, List, [], ◌∷◌, ◌++◌, length, map, take, get_or, refl, ap, sym, ◌∙◌, subst, arith}
use Rattle.std.specs.Global.{Vec}
use Rattle.std.specs.List.{AllZip, AllByRecursion}
use Rattle.std.proofs.lemmas.List.{take_more, map-append, length-append}
use Rattle.sled_base.specs.declared.types.page_state.PageState.{PageState}
use Rattle.sled_base.specs.declared.types.page_state.PageState.TheVariants.{Present, Free}
use Rattle.sled_log.specs.Chains.{is_empty}
use Rattle.sled_log.specs.Messages.{effect_of_entry}
use Rattle.sled_log.specs.Pages.{IsPageState, said_of, freed_of}
use Rattle.sled_log.specs.Inside.ZipLaws.{zip-append}
use Rattle.sled_disk.specs.declared.recovery.head.Head.{Head}
use Rattle.sled_disk.specs.Format.{Record, Frame, size, record_bytes, body}
use Rattle.sled_disk.specs.RecoveredHeads.{AreHeads, EndsBy, IsShown, said_of_head, freed_of_head, entries_in}
use Rattle.sled_disk.specs.Reading.{chains_of, entry_in, effect_of_head}
use Rattle.sled_disk.specs.MeaningLaws.{gate_after, gate_after-is, record_bytes-length}
use Rattle.sled_disk.proofs.Chains.EachHead.{Heads, FrameHeads}

-- ---- the loop over chains

pub heads-at : (chains : List (Vec Head)) (i : ℕ) (chain : Vec Head) → i < length chains → chain ≡ get_or chains i chain → AllByRecursion AreHeads (chains_of chains) → AreHeads chain.items
heads-at [] i chain lt is h = absurd (omega arith)
heads-at (first ∷ chains) zero chain lt is h = subst (λ (v : Vec Head). AreHeads v.items) (sym is) h.0
heads-at (first ∷ chains) (suc i) chain lt is h = heads-at chains i chain (omega arith) is h.1

pub shown-more : (chains : List (Vec Head)) (i : ℕ) (chain : Vec Head) (pages : List PageState) (page : PageState) → i < length chains → chain ≡ get_or chains i chain → AllZip IsShown (chains_of (take i chains)) pages → IsShown chain.items page → AllZip IsShown (chains_of (take (i + 1) chains)) (pages ++ page ∷ [])
shown-more chains i chain pages page lt is h shown =
    let more : chains_of (take (i + 1) chains) ≡ chains_of (take i chains) ++ chain.items ∷ [] =
    ap chains_of (take_more chains i chain lt) ∙ map-append (λ (v : Vec Head). v.items) (take i chains) (get_or chains i chain ∷ []) ∙ ap (λ (v : Vec Head). chains_of (take i chains) ++ v.items ∷ []) (sym is) in
    rw more (zip-append IsShown (chains_of (take i chains)) pages (chain.items ∷ []) (page ∷ []) h (shown, tt))

-- ---- heads and entries

said-in : (bytes : List ℕ) (heads : List Head) → map said_of (map (entry_in bytes) heads) ≡ map said_of_head heads
said-in bytes [] = refl
said-in bytes (head ∷ heads) = ap (λ l. said_of_head head ∷ l) (said-in bytes heads)

freed-in : (bytes : List ℕ) (heads : List Head) → map freed_of (map (entry_in bytes) heads) ≡ map freed_of_head heads
freed-in bytes [] = refl
freed-in bytes (head ∷ heads) = ap (λ l. freed_of_head head ∷ l) (freed-in bytes heads)

empty-in : (bytes : List ℕ) (heads : List Head) → is_empty effect_of_entry (map (entry_in bytes) heads) ≡ is_empty effect_of_head heads
empty-in bytes [] = refl
empty-in bytes (head ∷ heads) = refl

page-in : (bytes : List ℕ) (heads : List Head) (page : PageState) → IsShown heads page → IsPageState (map (entry_in bytes) heads) page
page-in bytes heads (Present base frags) h = (empty-in bytes heads ∙ h.0, said-in bytes heads ∙ h.1)
page-in bytes heads (Free lsn pointer) h = (empty-in bytes heads ∙ h.0, freed-in bytes heads ∙ h.1)

pub pages-in : (bytes : List ℕ) (heads : List (List Head)) (pages : List PageState) → AllZip IsShown heads pages → AllZip IsPageState (entries_in bytes heads) pages
pages-in bytes [] [] h = tt
pages-in bytes (chain ∷ heads) (page ∷ pages) h = (page-in bytes chain page h.0, pages-in bytes heads pages h.1)
pages-in bytes [] (page ∷ pages) h = absurd h
pages-in bytes (chain ∷ heads) [] h = absurd h

-- ---- heads end before the closed gate

records-end : (end place : ℕ) (rs : List Record) → place + length (body rs) ≤ end → Heads (EndsBy end) place rs
records-end end place [] le = tt
records-end end place (r ∷ rs) le =
    let long = length-append (record_bytes r) (body rs) in
    let one = record_bytes-length r in
    (omega (arith, le, long, one), records-end end (place + size r) rs (omega (arith, le, long, one)))

pub frames-end : (end gate : ℕ) (frames : List Frame) → gate_after gate frames ≤ end → FrameHeads (EndsBy end) gate frames
frames-end end gate [] le = tt
frames-end end gate (frame ∷ frames) le =
    let next = gate + (9 + length (body frame.records)) in
    (records-end end (gate + 9) frame.records (omega (arith, gate_after-is next frames, le)), frames-end end next frames le)
