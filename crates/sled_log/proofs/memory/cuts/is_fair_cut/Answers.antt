use Rattle.sled_log.proofs.Names.{◌≡◌, true, false, not, take, drop, map, sym, ◌∙◌, ap, arith, take-map, drop-map, length-map, take_rest, true≢false, is_open, is_cancelled, bare_event}
use Rattle.sled_log.proofs.memory.cuts.is_fair_cut.Goals as goal

pub returns-then-not-leaves_open : goal.returns-then-not-leaves_open
returns-then-not-leaves_open c =
    let xs = c.args.items.now in
    let within = c.if-items-n.false in
    let closed : is_open (take c.args.n (map bare_event xs)) ≡ false = ap is_open (take-map bare_event c.args.n xs) ∙ sym c.leaves_open.ensures ∙ c.if-not-leaves_open.true in
    (λ h. record { within = omega (arith, length-map xs bare_event); no_part = λ o. absurd (true≢false (sym o ∙ closed)) }, λ h. ap not c.if-not-leaves_open.true)

pub returns-else-not-leaves_open : goal.returns-else-not-leaves_open
returns-else-not-leaves_open c =
    let xs = c.args.items.now in
    let within = c.if-items-n.false in
    let open' : is_open (take c.args.n (map bare_event xs)) ≡ true = ap is_open (take-map bare_event c.args.n xs) ∙ sym c.leaves_open.ensures ∙ c.if-not-leaves_open.false in
    let behind : c.cancels.result ≡ is_cancelled (drop c.args.n (map bare_event xs)) = c.cancels.ensures ∙ ap (λ l. is_cancelled (map bare_event l)) (take_rest xs c.args.n) ∙ ap is_cancelled (sym (drop-map bare_event c.args.n xs)) in
    (λ h. record { within = omega (arith, length-map xs bare_event); no_part = λ o. sym behind ∙ h }, λ h. behind ∙ h.no_part open')
