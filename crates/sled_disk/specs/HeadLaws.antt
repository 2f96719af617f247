-- What a log states about its heads are propositions, as a ghost field requires.
use Rattle.std.specs.Prelude.{◌≡◌, ℕ, Bool, true, List}
use Rattle.std.specs.List.{AllByRecursion, AllByRecursion-prop}
use Rattle.std.proofs.Props.{props}
use Rattle.sled_log.specs.Chains.{is_chain}
use Rattle.sled_disk.specs.declared.recovery.head.Head.{Head}
use Rattle.sled_disk.specs.RecoveredHeads.{AllEndBy, AreHeads, IsPlaced}
use Rattle.sled_disk.specs.Reading.{effect_of_head}

heads-prop : (heads : List Head) → IsProp (AreHeads heads)
heads-prop heads x y =
    let chain_prop : IsProp (is_chain effect_of_head heads ≡ true) = hlevel props in
    let placed_prop : IsProp (AllByRecursion IsPlaced heads) = hlevel props in
    λ i. record { chain = chain_prop x.chain y.chain i; placed = placed_prop x.placed y.placed i }

pub end_by-prop : (usable : Bool) (end : ℕ) (chains : List (List Head)) → IsProp (usable ≡ true → AllEndBy end chains)
end_by-prop usable end chains = hlevel props

pub are_heads-prop : (chains : List (List Head)) → IsProp (AllByRecursion AreHeads chains)
are_heads-prop chains = AllByRecursion-prop AreHeads heads-prop chains
