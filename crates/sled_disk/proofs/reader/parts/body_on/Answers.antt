use Rattle.std.proofs.Common.{sym, ◌∙◌, arith}
use Rattle.sled_disk.proofs.Readers.ReadParts.{body-few, body-empty, body-torn, body-whole}
use Rattle.sled_disk.proofs.reader.parts.body_on.Goals as goal

pub returns-then-room-lt8-clause-body : goal.returns-then-room-lt8-clause-body
returns-then-room-lt8-clause-body g c = λ told. let w = c.requires.within in let e = c.requires.end told in let few = c.if-room-lt8.true in body-few (g.D.Disk.seen c.args.disk.now) c.args.at (omega arith)

pub returns-then-len-eq0-clause-body : goal.returns-then-len-eq0-clause-body
returns-then-len-eq0-clause-body g c = λ told.
    let w = c.requires.within in
    let e = c.requires.end told in
    let enough = c.if-room-lt8.false in
    body-empty (g.D.Disk.seen c.args.disk.now) c.args.at (omega arith) (sym (c.in_ok-len.ensures.number told) ∙ c.if-len-eq0.true)

pub returns-then-room-len-clause-body : goal.returns-then-room-len-clause-body
returns-then-room-len-clause-body g c = λ told.
    let w = c.requires.within in
    let e = c.requires.end told in
    let enough = c.if-room-lt8.false in
    let torn = c.if-room-len.true in
    body-torn (g.D.Disk.seen c.args.disk.now) c.args.at c.in_ok-len.len (omega arith) (sym (c.in_ok-len.ensures.number told)) c.if-len-eq0.false (omega arith)

pub returns-clause-body : goal.returns-clause-body
returns-clause-body g c = λ told.
    let w = c.requires.within in
    let e = c.requires.end told in
    let enough = c.if-room-lt8.false in
    let all = c.if-room-len.false in
    body-whole (g.D.Disk.seen c.args.disk.now) c.args.at c.in_ok-len.len (omega arith) (sym (c.in_ok-len.ensures.number told)) c.if-len-eq0.false
