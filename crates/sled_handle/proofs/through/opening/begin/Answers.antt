-- The opening is of the bytes of its file.
use Rattle.std.proofs.Common.{rules, ◌≡◌, ◌∙◌}
use Rattle.sled_handle.specs.declared.store.Store.TheVariants.{Begun}
use Rattle.sled_handle.proofs.OverBytes.{holds_begun, if_ok}
use Rattle.sled_handle.proofs.through.opening.begin.Goals as goal

pub returns-clause-over : goal.returns-clause-over
returns-clause-over g c told =
    if_ok c.map_err.result (λ boxed. boxed.value ≡ Begun c.in_ok-opening.opening) _
    (λ boxed is. holds_begun _ _ _ boxed.value c.in_ok-opening.opening is (c.in_ok-opening.ensures.config ∙ c.config.ensures) (c.in_ok-opening.ensures.over told)) (search rules)
