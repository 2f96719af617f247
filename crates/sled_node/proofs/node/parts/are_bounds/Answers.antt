use Rattle.std.proofs.Common.{length, ap, ◌∙◌, arith}
use Rattle.std.specs.Prelude.{◌==◌}
use Rattle.sled_node.proofs.WholeKeys.{bounds_within}
use Rattle.sled_node.proofs.node.parts.are_bounds.Goals as goal

pub returns-then-is_below : goal.returns-then-is_below
returns-then-is_below c = rw (← c.as_slice-lo.ensures, ← c.as_slice-hi.ensures) (
  λ yes. record {
    range = λ some. c.is_below.ensures.0 c.if-is_below.true;
    prefix_open = λ none. let empty = c.is_empty.ensures ∙ ap (λ h. length h == 0) none in absurd cc;
    prefix_common = (c.have_common.ensures.0 yes).2;
    bounds = (omega arith, omega arith);
  },
  λ bounds. let within = bounds_within c.args.skipped c.as_slice-lo.result.now c.as_slice-hi.result.now bounds in c.have_common.ensures.1 (within.0, within.1, bounds.prefix_common),
)
