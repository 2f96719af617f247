-- Each turn reads a digit, and no number is written otherwise.
use Rattle.std.proofs.Common.{◌≡◌, true, ◌<◌, length, take, subst, ap, ◌∙◌, take_all, arith}
use Rattle.std.proofs.lemmas.Bool.Decides.{nat_tests}
use Rattle.std.proofs.lemmas.Fmt.{decimal_nonempty}
use Rattle.std.proofs.lemmas.Int.Digits.{digits_more}
use Rattle.std.specs.Str.Parse.{AllDigits, digits_value}
use Rattle.sled_lines.proofs.Numbers.{encoded_is_plain, value_more, digits_are_written, stops_at}
use Rattle.sled_lines.proofs.words.number_of.Goals.{then-is_empty-via-then-is_empty, then-is_empty-via-else-is_empty+then-not-has_plain_front}
use Rattle.sled_lines.proofs.words.number_of.Goals as goal

pub returns-then-is_empty-clause-none : goal.returns-then-is_empty-clause-none
returns-then-is_empty-clause-none c = λ n small e.
    elim c.then-is_empty.branch [
      | then-is_empty-via-then-is_empty w ↦ let none : length c.args.word.now ≡ 0 = grind (arith, nat_tests) in omega (arith, ap length e, decimal_nonempty n small, none)
      | then-is_empty-via-else-is_empty+then-not-has_plain_front w ↦ let plain : w.has_plain_front.result ≡ true = w.has_plain_front.ensures.1 (encoded_is_plain _ n small e) in absurd cc
    ]

pub returns-in_err-number-clause-none : goal.returns-in_err-number-clause-none
returns-in_err-number-clause-none c = rw c.from_residual.ensures (λ n small e. stops_at c.args.word.now c.loop-digit.digit-index c.loop-digit.number n (omega arith) c.loop-digit.invariant.value c.in_err-number.ensures.none small e)

pub loop-digit-preserved : goal.loop-digit-preserved
loop-digit-preserved c =
    let word = c.args.word.now in
    let i = c.loop-digit.digit-index in
    record {
      digits = digits_more 10 word i (omega arith) c.loop-digit.invariant.digits c.in_ok-number.ensures.some.0;
      value = value_more word i c.loop-digit.number c.in_ok-number.number (omega arith) c.loop-digit.invariant.value c.in_ok-number.ensures.some.1;
      small = omega arith;
    }

pub returns-clause-some : goal.returns-clause-some
returns-clause-some c =
    let word = c.args.word.now in
    let all : take c.loop-digit.digit-index word ≡ word = take_all c.loop-digit.digit-index word (omega arith) in
    let some : 0 < length word = grind (arith, nat_tests) in
    digits_are_written word c.loop-digit.number (subst (AllDigits 10) all c.loop-digit.invariant.digits) (c.loop-digit.invariant.value ∙ ap (digits_value 10) all) c.loop-digit.invariant.small some (c.has_plain_front.ensures.0 cc)
