use Rattle.std.specs.Prelude.{◌==◌}
use Rattle.std.proofs.Common.{◌≡◌, ◌≤◌, ◌^◌, length, refl, ap, ◌∙◌}
use Rattle.std.proofs.lemmas.Result.{err_from_is_err_and}
use Rattle.sled_node.specs.Meta.{with_root}
use Rattle.sled_node.specs.Payloads.ShortStrings.{AsksShort}
use Rattle.sled_node.specs.Payloads.Roots.{ReadsRoot, ReadsRoots, AsksRoots}
use Rattle.sled_node.proofs.Roots.{passes_with}
use Rattle.sled_base.proofs.Payloads.Refusals.{refused_so}
use Rattle.sled_node.proofs.Payloads.Roots.{PutSoFar, put_more, put_one, no_pair, too_many, asks_so_far, asks_for_name}
use Rattle.sled_node.proofs.meta.payload.MetaSerialize.deserialize.Goals.{After-put_root}
use Rattle.sled_node.proofs.meta.payload.MetaSerialize.deserialize.Goals as goal

-- where bytes are left that are no pair
pub returns-in_err-name-clause-refused : goal.returns-in_err-name-clause-refused
returns-in_err-name-clause-refused c =
    let p = err_from_is_err_and c.from_residual.result c.from_residual.ensures.1 in
    let input = c.args.input.now.now in
    let rest = c.loop-alloc.rest.now in
    rw (p.1, p.2) (refused_so AsksShort AsksRoots ReadsRoot ReadsRoots rest input c.in_err-name.field-0.0 (asks_so_far input rest c.loop-alloc.meta c.loop-alloc.invariant.put) (no_pair input rest c.loop-alloc.meta c.loop-alloc.invariant.put (λ none. let empty = c.loop-alloc-test.ensures ∙ ap (λ bytes. length bytes == 0) none in absurd cc)) c.in_err-name.ensures.refused)

-- where the name is there, and its copy or its page has no room
pub returns-in_err-copy-clause-refused : goal.returns-in_err-copy-clause-refused
returns-in_err-copy-clause-refused c =
    let p = err_from_is_err_and c.from_residual-in_err-copy.result c.from_residual-in_err-copy.ensures.1 in
    rw (p.1, p.2) (asks_for_name c.args.input.now.now c.loop-alloc.rest.now c.read_root.new.input.now c.loop-alloc.meta (c.in_ok-name.name, c.in_ok-name.root) c.loop-alloc.invariant.put c.in_ok-name.ensures.read)

pub returns-in_err-put_root-clause-refused : goal.returns-in_err-put_root-clause-refused
returns-in_err-put_root-clause-refused c =
    let p = err_from_is_err_and c.from_residual-in_err-put_root.result c.from_residual-in_err-put_root.ensures.1 in
    rw (p.1, p.2) (asks_for_name c.args.input.now.now c.loop-alloc.rest.now c.read_root.new.input.now c.loop-alloc.meta (c.in_ok-name.name, c.in_ok-name.root) c.loop-alloc.invariant.put c.in_ok-name.ensures.read)

-- where one name more is too many
pub returns-then-not-has_room-clause-refused : goal.returns-then-not-has_room-clause-refused
returns-then-not-has_room-clause-refused c =
    let input = c.args.input.now.now in
    let rest = c.read_root.new.input.now in
    let name = c.in_ok-name.name in
    let root = c.in_ok-name.root in
    let put = put_more input c.loop-alloc.rest.now rest c.loop-alloc.meta (name, root) c.loop-alloc.invariant.put c.in_ok-name.ensures.read in
    let tested = rw c.as_slice.ensures at c.if-not-has_room.ensures in
    too_many input rest (with_root name root c.loop-alloc.meta) put (passes_with name root c.loop-alloc.meta (λ room. let no = tested.1 room in absurd cc))

-- one pair more
put_next : (c : After-put_root) → c.put_root.new.self ≡ with_root c.in_ok-copy.copy.items c.in_ok-name.root c.loop-alloc.meta → record { put : PutSoFar c.args.input.now.now c.read_root.new.input.now c.put_root.new.self; few : length c.put_root.new.self ≤ 2 ^ 24 }
put_next c ok =
    let roots = c.loop-alloc.meta in
    let root = c.in_ok-name.root in
    let tested = rw c.as_slice.ensures at c.if-not-has_room.ensures in
    let copied = c.in_ok-copy.ensures.items ∙ c.as_slice-in-loop-alloc.ensures in
    let more = put_one c.args.input.now.now c.loop-alloc.rest.now c.read_root.new.input.now roots c.put_root.new.self (c.in_ok-name.name, root) c.loop-alloc.invariant.put c.loop-alloc.invariant.few c.in_ok-name.ensures.read (tested.0 refl) (ok ∙ ap (λ k. with_root k root roots) copied) in
    record { put = more.0; few = more.1 }

pub loop-alloc-preserved : goal.loop-alloc-preserved
loop-alloc-preserved c = put_next (goal.at.loop-alloc-preserved c).After-put_root c.in_ok-put_root.ensures.ok

pub loop-alloc-preserved-in_ok-put_root : goal.loop-alloc-preserved-in_ok-put_root
loop-alloc-preserved-in_ok-put_root c = put_next (goal.at.loop-alloc-preserved-in_ok-put_root c).After-put_root c.in_ok-put_root.ensures.ok
