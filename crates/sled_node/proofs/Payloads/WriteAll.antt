-- Writing values one after the other.
use Rattle.std.proofs.Common.{◌≡◌, ℕ, ◌+◌, ◌<◌, ◌≤◌, List, ◌∷◌, ◌++◌, length, take, drop, get_or, sym, ap, ◌∙◌, append_assoc, arith}
use Rattle.std.proofs.lemmas.List.{take_at, drop_at, length-append, length-take, drop_more, drop-drop}

-- what one value more leaves: its bytes behind those so far, and what stood behind
goes_on : (before after first now : List ℕ) (end : ℕ) (others all : List ℕ) → end + length now ≤ length before → after ≡ (take end before ++ now) ++ drop (end + length now) before → drop end before ≡ drop end first → take end before ++ (now ++ others) ≡ all
    → (take (end + length now) after ++ others ≡ all) × (drop (end + length now) after ≡ drop (end + length now) first)
goes_on before after first now end others all room is back front =
    let here = end + length now in
    let len : length (take end before ++ now) ≡ here = omega (arith, length-append (take end before) now, length-take end before) in
    let behind : drop here before ≡ drop here first = sym (drop-drop (length now) end before) ∙ ap (drop (length now)) back ∙ drop-drop (length now) end first in (
      ap (λ bytes. take here bytes ++ others) is ∙ ap (λ bytes. bytes ++ others) (take_at (take end before ++ now) (drop here before) here len) ∙ append_assoc (take end before) now others ∙ front,
      ap (drop here) is ∙ drop_at (take end before ++ now) (drop here before) here len ∙ behind,
    )

-- the value at place i, and those behind it
pub next_is : {V : Type 0} (values : List V) (i : ℕ) (v : V) → i < length values → v ≡ get_or values i v → drop i values ≡ v ∷ drop (i + 1) values
next_is values i v lt is = drop_more values i v lt ∙ ap (λ x. x ∷ drop (i + 1) values) (sym is)

-- one value more: how far the bytes go then, what they and those of what is left are, and what stands behind
pub writes_on : (before after first now others left all : List ℕ) (end next : ℕ) → left ≡ now ++ others → length all ≤ length before → end + length left ≡ length all → take end before ++ left ≡ all → drop end before ≡ drop end first
    → next ≡ end + length now → after ≡ (take end before ++ now) ++ drop (end + length now) before → (next + length others ≡ length all) × (take next after ++ others ≡ all) × (drop next after ≡ drop next first)
writes_on before after first now others left all end next parts room size front back goes wrote =
    let both : length left ≡ length now + length others = ap length parts ∙ length-append now others in
    let at = goes_on before after first now end others all (omega (arith, size, both, room)) wrote back (ap (λ bytes. take end before ++ bytes) (sym parts) ∙ front) in
    (omega (arith, goes, size, both), ap (λ k. take k after ++ others) goes ∙ at.0, ap (λ k. drop k after) goes ∙ at.1 ∙ ap (λ k. drop k first) (sym goes))

-- what is written behind a first part stands behind it
pub placed : (out middle after first second : List ℕ) (start : ℕ) → middle ≡ first ++ drop (length first) out → start ≡ length first → after ≡ (take start middle ++ second) ++ drop (start + length second) middle → after ≡ (first ++ second) ++ drop (length (first ++ second)) out
placed out middle after first second start is at both =
    let begin : take start middle ≡ first = ap (take start) is ∙ take_at first (drop (length first) out) start (sym at) in
    let rest : drop start middle ≡ drop (length first) out = ap (drop start) is ∙ drop_at first (drop (length first) out) start (sym at) in
    let behind : drop (start + length second) middle ≡ drop (length (first ++ second)) out =
    sym (drop-drop (length second) start middle) ∙ ap (drop (length second)) rest ∙ drop-drop (length second) (length first) out ∙ ap (λ k. drop k out) (sym (length-append first second)) in
    both ∙ ap (λ front. (front ++ second) ++ drop (start + length second) middle) begin ∙ ap (λ back. (first ++ second) ++ back) behind
