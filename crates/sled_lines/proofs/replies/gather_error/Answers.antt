use Rattle.std.proofs.Common.{◌∷◌, ◌++◌, [], sym, ap, ◌∙◌, subst}
use Rattle.std.specs.Prelude.{codes}
use Rattle.std.specs.Fmt.{decimal}
use Rattle.sled_lines.specs.Output.{Gathers}
use Rattle.sled_lines.specs.Errors.{error_text}
use Rattle.sled_lines.proofs.replies.gather_error.Goals as goal

pub returns-in-Unsupported : goal.returns-in-Unsupported
returns-in-Unsupported g c =
    let contents = g.W.Write.contents in
    let text = ap (λ n. codes "error unsupported " ++ decimal n ++ 10 ∷ []) (c.from.ensures ∙ c.number.ensures) ∙ sym (ap (λ error. error_text error ++ 10 ∷ []) c.in-Unsupported.is) in
    subst (Gathers (contents c.args.writer.now) (contents c.gather_labelled.new.writer) c.args.piece.now c.gather_labelled.new.piece c.gather_labelled.result) text c.gather_labelled.ensures

pub returns-in-Corruption : goal.returns-in-Corruption
returns-in-Corruption g c = rw (c.in-Corruption.is) c.gather_text-in-Corruption.ensures
