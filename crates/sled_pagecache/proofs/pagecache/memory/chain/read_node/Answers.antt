use Rattle.sled_pagecache.proofs.Names.{◌≡◌, ℕ, ◌+◌, ◌-◌, ◌<◌, ◌≤◌, List, [], length, take, drop, get_or, slice_index_or, refl, sym, ◌∙◌, ap, subst, arith, rules, to_z, of_z, w64, SFits, to_z-of_z, refused-is, Any, Chain, Entry, IsAt, IsReadAs, Found, CacheInfo, chain_at, take_all, get_or_default}
use Rattle.sled_pagecache.proofs.Memory.ChainReads.{entry_at, info-after, is_at, length-known, no_info, within-after}
use Rattle.sled_pagecache.proofs.Sizes.Measurements.{read-more, read-refused}
use Rattle.sled_pagecache.proofs.Memory.Pulls.{first-judged, first-so-far, follow-judged, made-all, next-so-far, reads-judged, reads-one, refused-one}
use Rattle.sled_log.specs.Payloads.{payload_in}
use Rattle.sled_pagecache.specs.Inside.Measurements.{ReadsLog}
use Rattle.sled_pagecache.proofs.pagecache.memory.chain.read_node.Goals as goal

pub read_to-requires-clause-known : goal.read_to-requires-clause-known
read_to-requires-clause-known g c = λ known.
    let chain = chain_at (g.L.Log.state c.args.sticky_log.now.log) c.args.pid in
    let infos = c.args.infos.now in
    let info = get_or infos 0 no_info in
    let fits : SFits w64 info.lsn = search rules in
    let same = length-known chain infos (c.requires.known known) in
    let within : 0 < length chain = omega (arith, same, c.requires.some) in
    let entry = get_or chain 0 (entry_at no_info) in
    (0, entry, within, get_or_default chain 0 entry (entry_at no_info) within, is_at chain infos (c.requires.known known) 0 no_info (to_z w64 (of_z w64 info.lsn)) (to_z-of_z w64 info.lsn fits))

pub loop-info-init : goal.loop-info-init
loop-info-init g c =
    let chain = chain_at (g.L.Log.state c.args.sticky_log.now.log) c.args.pid in
    let infos = c.args.infos.now in
    let info = get_or infos 0 no_info in
    let fits : SFits w64 info.lsn = search rules in
    let done = c.in_ok-kind.ensures in
    let found : Found = record { kind = c.in_ok-kind.kind; payload = c.bytes.result; pointer = info.pointer } in
    record {
      read = reads-one g.L.Log c.args.sticky_log.now c.read_to.new.self (c.in_ok-kind.kind, c.in_ok-kind.payload) tt done.went done.cause done.same done.reads;
      made = λ known.
          let same = length-known chain infos (c.requires.known known) in
          let within : 0 < length chain = omega (arith, same, c.requires.some) in
          let entry = get_or chain 0 (entry_at no_info) in
          let at = is_at chain infos (c.requires.known known) 0 no_info (to_z w64 (of_z w64 info.lsn)) (to_z-of_z w64 info.lsn fits) in
          let read : IsReadAs entry c.in_ok-kind.kind _ = done.found known 0 (entry_at no_info) within at in
          first-so-far chain entry found c.first_boxed-made.result within (sym (get_or_default chain 0 entry (entry_at no_info) within)) ((read.0, c.bytes.ensures ∙ read.1), sym at.1)
          (c.requires.full known) c.first_boxed-made.ensures.made c.first_boxed-made.ensures.refused;
      judged = first-judged found c.first_boxed-made.result c.first_boxed-made.ensures.refused;
      as_full = λ n full. done.room n full;
    }

pub read_to-requires-in-loop-info-clause-known : goal.read_to-requires-in-loop-info-clause-known
read_to-requires-in-loop-info-clause-known g c = λ known.
    let chain = chain_at (g.L.Log.state c.args.sticky_log.now.log) c.args.pid in
    let infos = c.args.infos.now in
    let i = c.loop-info.info-index in
    let info = get_or (take (length infos - 1) (drop 1 infos)) i no_info in
    let fits : SFits w64 info.lsn = search rules in
    let so_far = c.loop-info.invariant.read in
    let same = length-known chain infos (c.requires.known known) in
    let inside = within-after infos i c.loop-info-test.true in
    let within : i + 1 < length chain = omega (arith, same, inside) in
    let entry = get_or chain (i + 1) (entry_at no_info) in
    let lsn = to_z w64 (of_z w64 info.lsn) in
    let at = is_at chain infos (c.requires.known known) (i + 1) no_info lsn (to_z-of_z w64 info.lsn fits ∙ ap (λ (info : CacheInfo). info.lsn) (info-after infos i)) in
    subst (λ (pages : List Chain). Any (IsAt lsn info.pointer) (slice_index_or pages c.args.pid [])) (sym (so_far.same known so_far.cause.fault))
    (i + 1, entry, within, get_or_default chain (i + 1) entry (entry_at no_info) within, (at.0, at.1 ∙ ap (λ (info : CacheInfo). info.pointer) (sym (info-after infos i))))

pub returns-in_err-kind-2-clause-read : goal.returns-in_err-kind-2-clause-read
returns-in_err-kind-2-clause-read g c =
    let infos = c.args.infos.now in
    let i = c.loop-info.info-index in
    let inside = within-after infos i c.loop-info-test.true in
    let le : i + 1 + 1 ≤ length infos = omega (arith, inside) in
    let done = c.in_err-kind-2.ensures in
    rw (refused-is c.from_residual-in_err-kind-2.result _ c.from_residual-in_err-kind-2.ensures.1)
    (read-refused g.L.Log c.args.sticky_log.now c.loop-info.sticky_log c.read_to-in-loop-info.new.self (i + 1) 1 (length infos) c.loop-info.invariant.read c.in_err-kind-2.field-0.0
    (refused-one g.L.Log c.loop-info.sticky_log c.read_to-in-loop-info.new.self c.in_err-kind-2.field-0.0 done.went done.cause done.same done.reads) le)

pub loop-info-preserved : goal.loop-info-preserved
loop-info-preserved g c =
    let chain = chain_at (g.L.Log.state c.args.sticky_log.now.log) c.args.pid in
    let infos = c.args.infos.now in
    let i = c.loop-info.info-index in
    let info = get_or (take (length infos - 1) (drop 1 infos)) i no_info in
    let fits : SFits w64 info.lsn = search rules in
    let so_far = c.loop-info.invariant in
    let done = c.in_ok-kind-2.ensures in
    let found : Found = record { kind = c.in_ok-kind-2.kind; payload = c.bytes-in-loop-info.result; pointer = info.pointer } in
    let nothing : Unit {0} = tt in
    record {
      read = read-more g.L.Log c.args.sticky_log.now c.loop-info.sticky_log c.read_to-in-loop-info.new.self (i + 1) 1 (i + 1 + 1) so_far.read
          (reads-one g.L.Log c.loop-info.sticky_log c.read_to-in-loop-info.new.self (c.in_ok-kind-2.kind, c.in_ok-kind-2.payload) nothing done.went done.cause done.same done.reads) refl;
      made = λ known.
          let same = length-known chain infos (c.requires.known known) in
          let inside = within-after infos i c.loop-info-test.true in
          let within : i + 1 < length chain = omega (arith, same, inside) in
          let entry = get_or chain (i + 1) (entry_at no_info) in
          let lsn = to_z w64 (of_z w64 info.lsn) in
          let is = is_at chain infos (c.requires.known known) (i + 1) no_info lsn (to_z-of_z w64 info.lsn fits ∙ ap (λ (info : CacheInfo). info.lsn) (info-after infos i)) in
          let at : IsAt lsn info.pointer entry = (is.0, is.1 ∙ ap (λ (info : CacheInfo). info.pointer) (sym (info-after infos i))) in
          let all = subst (λ (pages : List Chain). (k : ℕ) (d : Entry) → k < length (slice_index_or pages c.args.pid []) → IsAt lsn info.pointer (get_or (slice_index_or pages c.args.pid []) k d) → IsReadAs (get_or (slice_index_or pages c.args.pid []) k d) c.in_ok-kind-2.kind (payload_in c.read_to-in-loop-info.new.space c.in_ok-kind-2.payload)) (so_far.read.same known so_far.read.cause.fault) (done.found known) in
          let read = all (i + 1) (entry_at no_info) within at in
          next-so-far chain (i + 1) entry found c.loop-info.made c.with_link-made.result within (sym (get_or_default chain (i + 1) entry (entry_at no_info) within)) ((read.0, c.bytes-in-loop-info.ensures ∙ read.1), sym at.1)
          (so_far.made known) c.with_link-made.ensures;
      judged = follow-judged found c.loop-info.made c.with_link-made.result so_far.judged c.with_link-made.ensures;
      as_full = λ n full. so_far.as_full n (done.room n full);
    }

pub returns-clause-read : goal.returns-clause-read
returns-clause-read g c =
    let infos = c.args.infos.now in
    let all = take_all (length infos - 1) (drop 1 infos) in
    let end : c.loop-info.info-index + 1 ≡ length infos = search rules in
    subst (λ n. ReadsLog g.L.Log c.args.sticky_log.now c.loop-info.sticky_log n c.loop-info.made) end
    (reads-judged g.L.Log c.args.sticky_log.now c.loop-info.sticky_log c.loop-info.made tt (c.loop-info.info-index + 1) c.loop-info.invariant.read c.loop-info.invariant.judged)

pub returns-clause-made : goal.returns-clause-made
returns-clause-made g c = λ known.
    let chain = chain_at (g.L.Log.state c.args.sticky_log.now.log) c.args.pid in
    let infos = c.args.infos.now in
    let same = length-known chain infos (c.requires.known known) in
    let end : c.loop-info.info-index + 1 ≡ length infos = search rules in
    made-all chain (c.loop-info.info-index + 1) c.loop-info.made (omega (arith, same, end)) (c.loop-info.invariant.made known)
