use Rattle.std.proofs.Common.{◌≡◌, ◌≤◌, ◌-◌, length, take, drop, rules, sym, ap, subst, ◌∙◌, arith}
use Rattle.std.proofs.lemmas.List.{take_all, length-drop}
use Rattle.sled_node.specs.Node.{whole, IsInRange}
use Rattle.sled_node.proofs.StoredPairs.{rest_made_whole, prefix_in_key}
use Rattle.sled_node.proofs.node.Node.without_prefix.Goals as goal

pub slice_bounds-result-count : goal.slice_bounds-result-count
slice_bounds-result-count c = prefix_in_key _ c.self.invariant c.args.key.now (subst (λ n. IsInRange n c.args.key.now) (sym c.self.view_is) c.requires)

pub slice_bounds-result-start : goal.slice_bounds-result-start
slice_bounds-result-start c =
    let within : c.self.inside.prefix_len ≤ length c.args.key.now = prefix_in_key _ c.self.invariant c.args.key.now (subst (λ n. IsInRange n c.args.key.now) (sym c.self.view_is) c.requires) in
    search rules

pub returns-clause-key : goal.returns-clause-key
returns-clause-key c =
    let p = c.self.inside.prefix_len in
    let key = c.args.key.now in
    let all : take (length key - p) (drop p key) ≡ drop p key = take_all (length key - p) (drop p key) (omega (arith, length-drop p key)) in
    let is = rest_made_whole _ c.self.invariant key (subst (λ n. IsInRange n key) (sym c.self.view_is) c.requires) in
    ap (whole c.args.self.now) all ∙ subst (λ n. whole n (drop p key) ≡ key) c.self.view_is is
