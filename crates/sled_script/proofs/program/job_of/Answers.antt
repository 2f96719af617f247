-- There is one word or there are two, and the first is the right one, or there are three.
use Rattle.std.proofs.Common.{sym, ◌∙◌, inl, inr}
use Rattle.std.specs.Cmp.Lexicographic.{same_text}
use Rattle.std.specs.String.{string_bytes}
use Rattle.sled_script.proofs.Job.{only_one, only_two, only_three}
use Rattle.sled_script.proofs.program.job_of.Goals as goal

pub returns-in-len1-clause-some : goal.returns-in-len1-clause-some
returns-in-len1-clause-some c =
    let text = same_text _ _ (sym c.if-eq.true ∙ c.eq.ensures) in
    inl (only_one string_bytes c.args.words.now c.word-item.result _ c.in-len1.len_at_least c.in-len1.len_below c.word-item.is (sym c.as_str.ensures.value ∙ text))

pub returns-in-len2-clause-some : goal.returns-in-len2-clause-some
returns-in-len2-clause-some c =
    let text = same_text _ _ (sym c.if-eq-2.true ∙ c.eq-then-words-lt3.ensures) in
    inr (string_bytes c.path-item.result, only_two string_bytes c.args.words.now c.word-item-then-words-lt3.result c.path-item.result _ c.in-len2.len_at_least c.in-len2.len_below c.word-item-then-words-lt3.is c.path-item.is (sym c.as_str-then-words-lt3.ensures.value ∙ text))

pub returns-in_ok-workers-in-len3-clause-some : goal.returns-in_ok-workers-in-len3-clause-some
returns-in_ok-workers-in-len3-clause-some c =
    let text = same_text _ _ (sym c.if-eq-3.true ∙ c.eq-then-words-lt4.ensures) in
    let words = only_three string_bytes c.args.words.now c.word-item-then-words-lt4.result c.workers-item.result c.calls-item.result _ c.in-len3.len_at_least c.in-len3.len_below c.word-item-then-words-lt4.is c.workers-item.is c.calls-item.is (sym c.as_str-then-words-lt4.ensures.value ∙ text) in
    let first = c.as_bytes.ensures.value in
    let second = c.as_bytes-in-len3.ensures.value in
    (c.as_bytes.result.now, c.as_bytes-in-len3.result.now, cc, c.in_ok-workers-in-len3.ensures.some)
