use Rattle.std.proofs.Common.{take, drop, ap, ◌∙◌, arith}
use Rattle.std.proofs.lemmas.List.{take_rest}
use Rattle.sled_disk.proofs.Readers.ReadParts.{head-few, head-torn, head-whole, shown-at}
use Rattle.sled_disk.proofs.reader.parts.head_on.Goals as goal

pub returns-then-room-lt17-clause-head : goal.returns-then-room-lt17-clause-head
returns-then-room-lt17-clause-head g c = λ told.
    let e = c.requires.end told in
    let i = c.requires.inside in
    let few = c.if-room-lt17.true in
    head-few (g.D.Disk.seen c.args.disk.now) c.args.at c.args.body_end c.requires.within (omega arith) (omega arith)

pub returns-then-room-len-clause-head : goal.returns-then-room-len-clause-head
returns-then-room-len-clause-head g c = λ told.
    let seen = g.D.Disk.seen c.args.disk.now in
    let w = c.requires.within in
    let e = c.requires.end told in
    let i = c.requires.inside in
    let enough = c.if-room-lt17.false in
    let torn = c.if-room-len.true in
    let shown = ap (take 17) (take_rest c.bytes.result.now c.in_ok-from.from ∙ ap (drop c.in_ok-from.from) c.bytes.ensures) ∙ shown-at seen c.reach.new.self.bytes.items c.reach.new.self.start c.in_ok-from.from 17 c.args.at (c.in_ok-from.ensures.shows told) c.in_ok-from.ensures.place c.in_ok-from.ensures.has in
    head-torn seen c.args.at c.args.body_end _ c.head_in-len.result.1 (omega arith) (omega arith) shown c.head_in-len.ensures.len (omega arith)

pub returns-clause-head : goal.returns-clause-head
returns-clause-head g c = λ told.
    let seen = g.D.Disk.seen c.args.disk.now in
    let w = c.requires.within in
    let e = c.requires.end told in
    let i = c.requires.inside in
    let enough = c.if-room-lt17.false in
    let all = c.if-room-len.false in
    let shown = ap (take 17) (take_rest c.bytes.result.now c.in_ok-from.from ∙ ap (drop c.in_ok-from.from) c.bytes.ensures) ∙ shown-at seen c.reach.new.self.bytes.items c.reach.new.self.start c.in_ok-from.from 17 c.args.at (c.in_ok-from.ensures.shows told) c.in_ok-from.ensures.place c.in_ok-from.ensures.has in
    head-whole seen c.args.at c.args.body_end _ c.head_in-len.result.0 c.head_in-len.result.1 (omega arith) (omega arith) shown c.head_in-len.ensures.kind c.head_in-len.ensures.page c.head_in-len.ensures.len
