-- The last two digits come behind the others, where there are others.
use Rattle.std.proofs.Common.{◌≡◌, [], ◌∷◌, ◌++◌, ◌+◌, ◌/◌, ◌%◌, ap, ◌∙◌, arith}
use Rattle.std.specs.Fmt.{decimal}
use Rattle.sled_lines.proofs.Pieces.{hundreds_fit, two_next, more_next, next_room, tens_room, tens_next, digit_room, digit_next}
use Rattle.sled_lines.proofs.piece.Piece.+put_number.Goals.{then-number-ge10, else-number-ge10, then-number-ge100, else-number-ge100}
use Rattle.sled_lines.proofs.piece.Piece.+put_number.Goals as goal

pub put_number-requires : goal.put_number-requires
put_number-requires t c = (omega arith, hundreds_fit c.args.self.now c.args.number 8192 c.if-number-ge100.true (omega (arith, c.ranges.number.fits)) c.requires)

pub push-requires : goal.push-requires
push-requires t c =
    elim c.if-number-ge100.branch [
      | then-number-ge100 v ↦ next_room c.if-number-ge100.self c.args.self.now c.args.number 8192 v.if-number-ge100.true (omega (arith, c.ranges.number.fits)) (v.self-is ∙ v.put_number.ensures) c.requires
      | else-number-ge100 v ↦ rw v.self-is (digit_room c.args.self.now c.args.number 8192 c.ranges.number.fits c.requires)
    ]

pub push-requires-2 : goal.push-requires-2
push-requires-2 t c =
    elim c.if-number-ge10.branch [
      | then-number-ge10 w ↦
          let tens : c.if-number-ge10.self ≡ c.args.self.now ++ decimal (c.args.number / 10) = elim c.if-number-ge100.branch [
            | then-number-ge100 v ↦ more_next c.if-number-ge100.self c.if-number-ge10.self c.args.self.now c.args.number v.if-number-ge100.true (omega (arith, c.ranges.number.fits)) (v.self-is ∙ v.put_number.ensures) (w.self-is ∙ w.push.ensures)
            | else-number-ge100 v ↦ two_next c.if-number-ge100.self c.if-number-ge10.self c.args.self.now c.args.number w.if-number-ge10.true v.if-number-ge100.false v.self-is (w.self-is ∙ w.push.ensures)
          ] in
          tens_room c.if-number-ge10.self c.args.self.now c.args.number 8192 w.if-number-ge10.true (omega (arith, c.ranges.number.fits)) tens c.requires
      | else-number-ge10 w ↦ elim c.if-number-ge100.branch [
        | then-number-ge100 v ↦ absurd (omega (arith, v.if-number-ge100.true, w.if-number-ge10.false))
        | else-number-ge100 v ↦ rw (w.self-is, v.self-is) (digit_room c.args.self.now c.args.number 8192 c.ranges.number.fits c.requires)
      ]
    ]

pub returns : goal.returns
returns t c =
    elim c.if-number-ge10.branch [
      | then-number-ge10 w ↦
          let tens : c.if-number-ge10.self ≡ c.args.self.now ++ decimal (c.args.number / 10) = elim c.if-number-ge100.branch [
            | then-number-ge100 v ↦ more_next c.if-number-ge100.self c.if-number-ge10.self c.args.self.now c.args.number v.if-number-ge100.true (omega (arith, c.ranges.number.fits)) (v.self-is ∙ v.put_number.ensures) (w.self-is ∙ w.push.ensures)
            | else-number-ge100 v ↦ two_next c.if-number-ge100.self c.if-number-ge10.self c.args.self.now c.args.number w.if-number-ge10.true v.if-number-ge100.false v.self-is (w.self-is ∙ w.push.ensures)
          ] in
          tens_next c.if-number-ge10.self c.push-2.new.self c.args.self.now c.args.number w.if-number-ge10.true (omega (arith, c.ranges.number.fits)) tens c.push-2.ensures
      | else-number-ge10 w ↦ elim c.if-number-ge100.branch [
        | then-number-ge100 v ↦ absurd (omega (arith, v.if-number-ge100.true, w.if-number-ge10.false))
        | else-number-ge100 v ↦ digit_next c.push-2.new.self c.args.self.now c.args.number w.if-number-ge10.false (c.push-2.ensures ∙ ap (λ s. s ++ (48 + c.args.number % 10) ∷ []) (w.self-is ∙ v.self-is))
      ]
    ]
