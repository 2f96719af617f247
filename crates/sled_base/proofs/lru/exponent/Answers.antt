use Rattle.std.proofs.Common.{◌∙◌, sym, subst}
use Rattle.sled_base.proofs.RecentUse.Rounding.{IsPower, rounded_power, power_is_some, logarithm_is}
use Rattle.sled_base.proofs.lru.exponent.Goals as goal

pub ilog2-requires : goal.ilog2-requires
ilog2-requires c = power_is_some c.rounded_up.result (subst IsPower (sym c.rounded_up.ensures.value) (rounded_power c.args.size))

pub returns-clause-value : goal.returns-clause-value
returns-clause-value c =
    logarithm_is c.rounded_up.result c.ilog2.result (subst IsPower (sym c.rounded_up.ensures.value) (rounded_power c.args.size)) c.ilog2.ensures.power_le c.ilog2.ensures.next_power_gt ∙ c.rounded_up.ensures.value
