use Rattle.sled_base.proofs.RecentUse.Rounding.{rounded_is, rounded_bound}
use Rattle.sled_base.proofs.lru.rounded_up.Goals as goal

pub returns-clause-value : goal.returns-clause-value
returns-clause-value c =
    let next = c.next_power_of_two.ensures in
    rounded_is c.args.size c.next_power_of_two.result next.power.0 next.power.1 next.lower_bound next.upper_bound

pub returns-clause-bound : goal.returns-clause-bound
returns-clause-bound c =
    let next = c.next_power_of_two.ensures in
    rounded_bound c.args.size c.next_power_of_two.result next.power.0 next.power.1 next.upper_bound c.requires
