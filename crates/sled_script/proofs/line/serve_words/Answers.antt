-- The name is none of nine.
use Rattle.std.proofs.Common.{arith, refl}
use Rattle.std.proofs.lemmas.Grind.{common_steps}
use Rattle.sled_script.proofs.Commands.{no_words}
use Rattle.sled_script.proofs.Replied.{no_command_of_words, refused_line}
use Rattle.sled_script.proofs.line.serve_words.Goals as goal

pub returns-in_default-clause-replies : goal.returns-in_default-clause-replies
returns-in_default-clause-replies g c = λ line short begins.
    let none = no_command_of_words line _ _ begins (λ e. grind (arith, common_steps)) (λ call. no_words _ _ call (λ e. grind (arith, common_steps)) (λ e. grind (arith, common_steps)) (λ e. grind (arith, common_steps)) (λ e. grind (arith, common_steps)) (λ e. grind (arith, common_steps)) (λ e. grind (arith, common_steps)) (λ e. grind (arith, common_steps)) (λ e. grind (arith, common_steps))) in
    rw c.answered.ensures (refused_line g.L.Log c.args.cache.now _ _ _ _ _ c.refuse.result _ refl (λ asked is may. none asked is) c.refuse.ensures)
