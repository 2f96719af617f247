use Rattle.sled_log.proofs.Names.{[], ap, err_from_is_err_and, append-events, call-stop, call-added, tells-call, events_of, Adds-unplaced}
use Rattle.sled_log.proofs.runs.make_call.Goals as goal

pub returns-in_err-append-in-Append-clause-stop : goal.returns-in_err-append-in-Append-clause-stop
returns-in_err-append-in-Append-clause-stop g c =
    call-stop g.L.Log.state g.L.Log.moment g.L.Log.left_since g.L.Log.counts c.args.log.now c.append.new.self c.args.call.now _ _ _ c.append.result
    (append-events c.args.call.now c.in-Append.kind c.in-Append.pid c.in-Append.payload c.deref.result.now c.in-Append.is c.deref.ensures.value) c.requires.tells c.append.ensures.called

pub returns-in_ok-append-in-Append-clause-stop : goal.returns-in_ok-append-in-Append-clause-stop
returns-in_ok-append-in-Append-clause-stop g c =
    call-stop g.L.Log.state g.L.Log.moment g.L.Log.left_since g.L.Log.counts c.args.log.now c.append.new.self c.args.call.now _ _ _ c.append.result
    (append-events c.args.call.now c.in-Append.kind c.in-Append.pid c.in-Append.payload c.deref.result.now c.in-Append.is c.deref.ensures.value) c.requires.tells c.append.ensures.called

pub returns-in_ok-append-in-Append-clause-added : goal.returns-in_ok-append-in-Append-clause-added
returns-in_ok-append-in-Append-clause-added g c =
    call-added g.L.Log.state g.L.Log.moment g.L.Log.left_since g.L.Log.counts c.args.log.now c.append.new.self c.args.call.now _
    (append-events c.args.call.now c.in-Append.kind c.in-Append.pid c.in-Append.payload c.deref.result.now c.in-Append.is c.deref.ensures.value) (c.in_ok-append-in-Append.ensures.called.added c.requires.tells)

pub returns-in_ok-make_stable-in-MakeStable-clause-added : goal.returns-in_ok-make_stable-in-MakeStable-clause-added
returns-in_ok-make_stable-in-MakeStable-clause-added g c = call-added g.L.Log.state g.L.Log.moment g.L.Log.left_since g.L.Log.counts c.args.log.now c.make_stable.new.self c.args.call.now _ (ap events_of c.in-MakeStable.is) (c.in_ok-make_stable-in-MakeStable.ensures.called.added c.requires.tells)

pub returns-in_ok-pin-in-Pin-clause-added : goal.returns-in_ok-pin-in-Pin-clause-added
returns-in_ok-pin-in-Pin-clause-added g c = call-added g.L.Log.state g.L.Log.moment g.L.Log.left_since g.L.Log.counts c.args.log.now c.pin.new.self c.args.call.now _ (ap events_of c.in-Pin.is) (c.in_ok-pin-in-Pin.ensures.called.added c.requires.tells)

pub returns-in_err-pin-in-Pin-clause-stop : goal.returns-in_err-pin-in-Pin-clause-stop
returns-in_err-pin-in-Pin-clause-stop g c = call-stop g.L.Log.state g.L.Log.moment g.L.Log.left_since g.L.Log.counts c.args.log.now c.pin.new.self c.args.call.now _ _ _ c.pin.result (ap events_of c.in-Pin.is) c.requires.tells c.pin.ensures.called

pub returns-in_ok-seal-in-Seal-clause-added : goal.returns-in_ok-seal-in-Seal-clause-added
returns-in_ok-seal-in-Seal-clause-added g c = call-added g.L.Log.state g.L.Log.moment g.L.Log.left_since g.L.Log.counts c.args.log.now c.seal.new.self c.args.call.now _ (ap events_of c.in-Seal.is) (c.in_ok-seal-in-Seal.ensures.called.added c.requires.tells)

pub returns-in_ok-cancel-in-Cancel-clause-added : goal.returns-in_ok-cancel-in-Cancel-clause-added
returns-in_ok-cancel-in-Cancel-clause-added g c = call-added g.L.Log.state g.L.Log.moment g.L.Log.left_since g.L.Log.counts c.args.log.now c.cancel.new.self c.args.call.now _ (ap events_of c.in-Cancel.is) (c.in_ok-cancel-in-Cancel.ensures.called.added c.requires.tells)

pub returns-in_err-append-in-Append-clause-refused : goal.returns-in_err-append-in-Append-clause-refused
returns-in_err-append-in-Append-clause-refused g c =
    let p = err_from_is_err_and c.from_residual.result c.from_residual.ensures.1 in
    rw (p.1, p.2) (λ clear. Adds-unplaced (g.L.Log.state c.args.log.now) (g.L.Log.state c.append.new.self) [] (c.in_err-append-in-Append.ensures.called.refused c.requires.tells clear))

pub returns-in_err-pin-in-Pin-clause-refused : goal.returns-in_err-pin-in-Pin-clause-refused
returns-in_err-pin-in-Pin-clause-refused g c =
    let p = err_from_is_err_and c.from_residual-in_err-pin-in-Pin.result c.from_residual-in_err-pin-in-Pin.ensures.1 in
    rw (p.1, p.2) (λ clear. Adds-unplaced (g.L.Log.state c.args.log.now) (g.L.Log.state c.pin.new.self) [] (c.in_err-pin-in-Pin.ensures.called.refused c.requires.tells clear))

pub append-requires-clause-can : goal.append-requires-clause-can
append-requires-clause-can g c = λ _.
    tells-call (g.L.Log.state c.args.log.now) c.args.call.now _ _ c.in-Append.payload (c.in-Append.is) c.requires.can
