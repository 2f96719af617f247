-- What `rewrite_into` and `start` promise is what is told.
use Rattle.std.proofs.Common.{rules, ◌≡◌, None, inr, refl}
use Rattle.sled_pagecache.specs.Opening.{fault_of}
use Rattle.sled_handle.specs.Openings.{config_of}
use Rattle.sled_handle.proofs.Rewritten.{stays_over, opens_over, stays_unopened}
use Rattle.sled_handle.proofs.calls.rewriting.compact.Goals as goal

pub returns-in-Err : goal.returns-in-Err
returns-in-Err c =
    let e = c.rewrite_into.ensures in
    inr (record {
      faultless = search rules;
      given = c.log.result;
      empty = c.log.ensures;
      left = c.rewrite_into.new.self;
      answer = c.rewrite_into.result;
      is = record { stuck = e.stuck; in_batch = e.in_batch; rewritten = e.rewritten; step = e.step; left = e.left; same = e.same; fault = e.fault; blame = e.blame; refused = e.refused; full = e.full; unnamed = e.unnamed };
      goes_on = stays_over (config_of c.args.settings) c.rewrite_into.new.self c.rewrite_into.new.self c.status_of-in-Err.result (c.in-Err.error, c.in-Err.field-0-1) c.in-Err.is (search rules) refl;
    })

pub returns-in-Ok-start : goal.returns-in-Ok-start
returns-in-Ok-start c =
    let e = c.rewrite_into.ensures in
    let none : fault_of (config_of c.args.settings) ≡ None = search rules in
    let s = rw c.config-config.ensures at c.start.ensures in
    inr (record {
      faultless = none;
      given = c.log.result;
      empty = c.log.ensures;
      left = c.rewrite_into.new.self;
      answer = c.rewrite_into.result;
      is = record { stuck = e.stuck; in_batch = e.in_batch; rewritten = e.rewritten; step = e.step; left = e.left; same = e.same; fault = e.fault; blame = e.blame; refused = e.refused; full = e.full; unnamed = e.unnamed };
      goes_on = opens_over (config_of c.args.settings) c.rewrite_into.new.self c.in-Ok-start.new 0 c.in-Ok.log c.start.result c.in-Ok.is
          (record { opens = s.opens none tt; refused = s.refused tt; blame = s.blame; unnamed = s.unnamed; closed = s.closed }) c.in-Ok-start.is refl;
    })

pub returns : goal.returns
returns c =
    let e = c.rewrite_into.ensures in
    let none : fault_of (config_of c.args.settings) ≡ None = search rules in
    let s = rw c.config-config.ensures at c.start.ensures in
    inr (record {
      faultless = none;
      given = c.log.result;
      empty = c.log.ensures;
      left = c.rewrite_into.new.self;
      answer = c.rewrite_into.result;
      is = record { stuck = e.stuck; in_batch = e.in_batch; rewritten = e.rewritten; step = e.step; left = e.left; same = e.same; fault = e.fault; blame = e.blame; refused = e.refused; full = e.full; unnamed = e.unnamed };
      goes_on = stays_unopened (config_of c.args.settings) c.rewrite_into.new.self c.rewrite_into.new.self c.status_of-in-Err-start.result c.in-Ok.log c.start.result
          (c.in-Err-start.error, c.in-Err-start.field-0-1) c.in-Ok.is (record { opens = s.opens none tt; refused = s.refused tt; blame = s.blame; unnamed = s.unnamed; closed = s.closed }) c.in-Err-start.is (search rules) refl;
    })
