-- A write that the system takes in pieces.
use Rattle.std.proofs.Common.{◌≡◌, inl, inr, ℕ, ◌+◌, ◌-◌, ◌≤◌, List, ◌++◌, length, take, drop, sym, ◌∙◌, ap, subst, arith}
use Rattle.std.proofs.lemmas.List.{take-take, drop-take, take-append-drop, length-drop, length-take-le, take_rest}
use Rattle.sled_disk.specs.Disk.{overlaid, Torn, Follows, Elapses}
use Rattle.sled_disk.specs.DiskLaws.{overlaid-then, torn-then}

-- the bytes of `&bytes[done..]`
abbrev pub behind : ℕ → List ℕ → List ℕ
behind done bytes = take (length bytes - done) (drop done bytes)

pub overlaid-piece : (old : List ℕ) (at : ℕ) (bytes : List ℕ) (done n : ℕ) → at ≤ length old → done ≤ length bytes
    → overlaid (overlaid old at (take done bytes)) (at + done) (take n (behind done bytes)) ≡ overlaid old at (take (done + n) bytes)
overlaid-piece old at bytes done n le within =
    let first : length (take done bytes) ≡ done = length-take-le done bytes within in
    let short : done ≤ done + n = omega arith in
    let both : take done bytes ++ take n (drop done bytes) ≡ take (done + n) bytes =
    ap (λ (l : List ℕ). l ++ take n (drop done bytes)) (sym (take-take done (done + n) bytes short)) ∙ ap (λ (l : List ℕ). take done (take (done + n) bytes) ++ l) (sym (drop-take done n bytes)) ∙ take-append-drop done (take (done + n) bytes) in
    ap (λ (l : List ℕ). overlaid (overlaid old at (take done bytes)) (at + done) (take n l)) (take_rest bytes done)
    ∙ subst (λ k. overlaid (overlaid old at (take done bytes)) (at + k) (take n (drop done bytes)) ≡ overlaid old at (take done bytes ++ take n (drop done bytes))) first (overlaid-then old at (take done bytes) (take n (drop done bytes)) le)
    ∙ ap (λ (l : List ℕ). overlaid old at l) both

-- what is left behind a further piece is torn of what was left before the first
pub follows-piece : (old mid new : List ℕ → Type 0) (at : ℕ) (bytes : List ℕ) (done : ℕ) → done ≤ length bytes
    → Follows (Torn at (length bytes)) old mid → Follows (Torn (at + done) (length (behind done bytes))) mid new → Follows (Torn at (length bytes)) old new
follows-piece old mid new at bytes done le first second left may =
    let from = second left may in
    let start = first from.0 from.1 in
    let len : length (behind done bytes) ≡ length bytes - done = ap (λ (l : List ℕ). length l) (take_rest bytes done) ∙ length-drop done bytes in
    let torn : Torn (at + done) (length bytes - done) from.0 left = subst (λ k. Torn (at + done) k from.0 left) len from.2 in
    (start.0, start.1, torn-then start.0 from.0 left at (length bytes) done le start.2 torn)

module _ {D : Type 0} (moment : D → ℕ) (left_since : D → ℕ → List ℕ → Type 0) (may_leave : D → List ℕ → Type 0) where
  pub elapses-not : (d : D) → Elapses moment left_since may_leave d d
  elapses-not d = record { later = omega arith; nothing_else = λ t left le was. inl was; keeps = λ t left le was. was }

  -- a step that forgets no crash state
  pub elapses-then : (old mid new : D) → ((left : List ℕ) → may_leave mid left → may_leave new left) → Elapses moment left_since may_leave old mid → Elapses moment left_since may_leave mid new → Elapses moment left_since may_leave old new
  elapses-then old mid new keeps first second =
      let later = first.later in
      let later' = second.later in
      record {
        later = omega (arith, later, later');
        nothing_else = λ t left le was. elim (second.nothing_else t left (omega (arith, le, later)) was) [
          | inl before ↦ elim (first.nothing_else t left le before) [
            | inl earlier ↦ inl earlier
            | inr may ↦ inr (keeps left may)
          ]
          | inr may ↦ inr may
        ];
        keeps = λ t left le was. second.keeps t left (omega (arith, le, later)) (first.keeps t left le was);
      }
