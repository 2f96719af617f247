use Rattle.std.proofs.Common.{◌≡◌, ◌++◌, sym, ap, ◌∙◌}
use Rattle.std.proofs.lemmas.Grind.{flat_map-append}
use Rattle.sled_node.specs.Pairs.{pairs_below, pairs_above}
use Rattle.sled_node.specs.Meta.{named}
use Rattle.sled_node.specs.Payloads.Roots.{written_root, written_roots}
use Rattle.sled_node.proofs.RootEntries.{below_between, above_between}
use Rattle.sled_node.proofs.meta.written.serialize_without.Goals as goal

-- what lies in the two ranges is the names below, and those above
pub returns : goal.returns
returns c =
    let name = c.in_ok-name.name in
    let entries = c.args.roots.now.entries in
    let roots = named entries in
    let lows = named c.range.result in
    let highs = named c.range-above.result in
    let below : lows ≡ pairs_below c.args.name.now roots = ap named (c.range.ensures.between tt) ∙ below_between name entries ∙ ap (λ k. pairs_below k roots) c.in_ok-name.ensures.items in
    let above : highs ≡ pairs_above c.args.name.now roots = ap named (c.range-above.ensures.between tt) ∙ above_between name entries ∙ ap (λ k. pairs_above k roots) c.in_ok-name.ensures.items in
    c.truncate.ensures.items ∙ c.in_ok-end.ensures.written ∙ ap (λ front. front ++ written_roots highs) c.in_ok-below.ensures.written ∙ sym (flat_map-append written_root lows highs)
    ∙ ap (λ front. written_roots (front ++ highs)) below ∙ ap (λ back. written_roots (pairs_below c.args.name.now roots ++ back)) above
