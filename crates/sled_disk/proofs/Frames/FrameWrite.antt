-- The four device calls that write a frame: the crash states after each.
use Rattle.std.proofs.Common.{◌≡◌, inl, inr, ⊎_elim, ℕ, ◌+◌, ◌<◌, List, [], ◌∷◌, ◌++◌, length, get_or, take, drop, sym, ◌∙◌, ap, subst, arith, append_assoc, le_trans}
use Rattle.std.proofs.lemmas.Bool.{cases_eq}
use Rattle.std.proofs.lemmas.List.{take_at, drop_at, drop_more, take_more, take-take, take-append-drop, length-take}
use Rattle.sled_disk.specs.Crash.{BytesLeft, IsClosed, IsShutOrOpened, IsWhole}
use Rattle.sled_disk.specs.Disk.{overlaid, Torn, Follows, Only, LeavesNoMore, Elapses}

-- ---- bytes

module _ (gate : ℕ) (frame seen : List ℕ) (closed : IsClosed gate seen) where
  -- the file with the frame behind the gate, which is closed
  abbrev pub staged : List ℕ
  staged = overlaid seen (gate + 1) frame

  front-long : length (take (gate + 1) seen) ≡ gate + 1
  front-long = let w = closed.within in omega (arith, length-take (gate + 1) seen)

  staged-parts : staged ≡ take (gate + 1) seen ++ (frame ++ drop ((gate + 1) + length frame) seen)
  staged-parts = append_assoc (take (gate + 1) seen) frame (drop ((gate + 1) + length frame) seen)

  pub staged-front : take (gate + 1) staged ≡ take (gate + 1) seen
  staged-front = ap (take (gate + 1)) staged-parts ∙ take_at (take (gate + 1) seen) (frame ++ drop ((gate + 1) + length frame) seen) (gate + 1) front-long

  pub staged-behind : drop (gate + 1) staged ≡ frame ++ drop ((gate + 1) + length frame) seen
  staged-behind = ap (drop (gate + 1)) staged-parts ∙ drop_at (take (gate + 1) seen) (frame ++ drop ((gate + 1) + length frame) seen) (gate + 1) front-long

  take-less : (bytes other : List ℕ) → take (gate + 1) bytes ≡ take (gate + 1) other → take gate bytes ≡ take gate other
  take-less bytes other same = sym (take-take gate (gate + 1) bytes (omega arith)) ∙ ap (take gate) same ∙ take-take gate (gate + 1) other (omega arith)

  staged-first : take gate staged ≡ take gate seen
  staged-first = take-less staged seen staged-front

  staged-long : gate < length staged
  staged-long = let a = ap length staged-front in let f = front-long in omega (arith, a, f, length-take (gate + 1) staged)

  -- bytes that differ from it at the gate alone
  regated : (left : List ℕ) → take gate left ≡ take gate staged → drop (gate + 1) left ≡ drop (gate + 1) staged → gate < length left → left ≡ take gate seen ++ get_or left gate 0 ∷ (frame ++ drop ((gate + 1) + length frame) seen)
  regated left before after long =
      sym (take-append-drop gate left)
      ∙ ap (λ (l : List ℕ). l ++ drop gate left) (before ∙ staged-first)
      ∙ ap (λ (l : List ℕ). take gate seen ++ l) (drop_more left gate 0 long ∙ ap (λ (l : List ℕ). get_or left gate 0 ∷ l) (after ∙ staged-behind))

  -- the first write leaves what was there
  pub behind : (left : List ℕ) → Torn (gate + 1) (length frame) seen left → IsShutOrOpened gate frame seen left
  behind left torn = inl torn.before

  -- the second leaves that, or the frame too
  pub at-gate : (left : List ℕ) → Torn gate 1 staged left → IsShutOrOpened gate frame seen left
  at-gate left torn =
      let byte = get_or left gate 0 in
      let long : gate < length left = let a = staged-long in let b = torn.no_shorter in omega (arith, a, b) in
      let is = regated left torn.before torn.after long in
      elim (cases_eq byte 0) [
        | inl shut ↦ inl (take_more left gate 0 long ∙ ap (λ (l : List ℕ). l ++ byte ∷ []) (torn.before ∙ staged-first) ∙ ap (λ b. take gate seen ++ b ∷ []) (shut ∙ sym closed.closed) ∙ sym (take_more seen gate 1 closed.within))
        | inr opened ↦ inr (byte, drop ((gate + 1) + length frame) seen, opened, is)
      ]

  -- and at its end the frame is there
  pub at-end : IsWhole gate frame seen (overlaid staged gate (1 ∷ []))
  at-end = (
    drop ((gate + 1) + length frame) seen,
    ap (λ (l : List ℕ). (l ++ 1 ∷ []) ++ drop (gate + 1) staged) staged-first ∙ append_assoc (take gate seen) (1 ∷ []) (drop (gate + 1) staged) ∙ ap (λ (l : List ℕ). take gate seen ++ 1 ∷ l) staged-behind,
  )

-- ---- calls

module _ {D : Type 0} (moment : D → ℕ) (left_since : D → ℕ → List ℕ → Type 0) (may_leave : D → List ℕ → Type 0) where
  -- before the first call
  pub started : (old : D) (P : List ℕ → Type 0) → ((left : List ℕ) → left_since old (moment old) left → P left) → BytesLeft moment left_since old old P
  started old P here = record { later = omega arith; each = here; before = λ t left le was. inl was; kept = λ t left le was. was }

  -- one call more, after which a crash leaves what has P
  pub goes_on : (old mid new : D) (P : List ℕ → Type 0) → BytesLeft moment left_since old mid P → Elapses moment left_since may_leave mid new
      → ((left : List ℕ) → may_leave new left → P left) → BytesLeft moment left_since old new P
  goes_on old mid new P so_far time here = record {
    later = le_trans so_far.later time.later;
    each = λ left was. ⊎_elim (so_far.each left) (here left) (time.nothing_else (moment old) left so_far.later was);
    before = λ t left le was. ⊎_elim (so_far.before t left le) (λ now. inr (here left now)) (time.nothing_else t left (le_trans le so_far.later) was);
    kept = λ t left le was. time.keeps t left (le_trans le so_far.later) (so_far.kept t left le was);
  }

module _ {D : Type 0} (seen : D → List ℕ) (may_leave : D → List ℕ → Type 0) (moment : D → ℕ) (left_since : D → ℕ → List ℕ → Type 0)
    (only_now : (disk : D) (left : List ℕ) → left_since disk (moment disk) left → may_leave disk left)
    (d : D) (gate : ℕ) (frame : List ℕ) (closed : IsClosed gate (seen d)) (durable : Only (seen d) (may_leave d)) where
  abbrev P : List ℕ → Type 0
  P = IsShutOrOpened gate frame (seen d)

  at_start : BytesLeft moment left_since d d P
  at_start = started moment left_since may_leave d P (λ left was. inl (ap (take (gate + 1)) (durable left (only_now d left was))))

  -- the first write
  module _ (d1 : D) (torn : Follows (Torn (gate + 1) (length frame)) (may_leave d) (may_leave d1)) (time : Elapses moment left_since may_leave d d1) where
    first : (left : List ℕ) → may_leave d1 left → P left
    first left may = let from = torn left may in behind gate frame (seen d) closed left (subst (λ (was : List ℕ). Torn (gate + 1) (length frame) was left) (durable from.0 from.1) from.2)

    pub behind_write : BytesLeft moment left_since d d1 P
    behind_write = goes_on moment left_since may_leave d d d1 P at_start time first

    -- the first sync
    module _ (d2 : D) (less : LeavesNoMore (may_leave d1) (may_leave d2)) (time' : Elapses moment left_since may_leave d1 d2) where
      pub behind_sync : BytesLeft moment left_since d d2 P
      behind_sync = goes_on moment left_since may_leave d d1 d2 P behind_write time' (λ left may. first left (less left may))

      -- the write of the gate
      module _ (is : seen d2 ≡ overlaid (seen d) (gate + 1) frame) (kept : Only (seen d2) (may_leave d2))
          (d3 : D) (gate_torn : Follows (Torn gate 1) (may_leave d2) (may_leave d3)) (time'' : Elapses moment left_since may_leave d2 d3) where
        second : (left : List ℕ) → may_leave d3 left → P left
        second left may = let from = gate_torn left may in at-gate gate frame (seen d) closed left (subst (λ (was : List ℕ). Torn gate 1 was left) (kept from.0 from.1 ∙ is) from.2)

        pub behind_gate : BytesLeft moment left_since d d3 P
        behind_gate = goes_on moment left_since may_leave d d2 d3 P behind_sync time'' second

        -- the last sync
        pub behind_all : (d4 : D) → LeavesNoMore (may_leave d3) (may_leave d4) → Elapses moment left_since may_leave d3 d4 → BytesLeft moment left_since d d4 P
        behind_all d4 less' time''' = goes_on moment left_since may_leave d d3 d4 P behind_gate time''' (λ left may. second left (less' left may))
