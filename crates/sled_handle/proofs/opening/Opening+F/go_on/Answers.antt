-- The cache is started over the log that was read.
use Rattle.std.specs.Prelude.{IfOk, IfNone}
use Rattle.sled_pagecache.specs.declared.pagecache.handles.config.Config.{Config}
use Rattle.sled_handle.specs.FileOpenings.{IsOpeningOver}
use Rattle.sled_handle.proofs.OverBytes.{goes, goes_over, where_none}
use Rattle.sled_handle.proofs.opening.Opening+F.go_on.Goals as goal

pub returns-in-Some-clause-over : goal.returns-in-Some-clause-over
returns-in-Some-clause-over g c told bytes over =
    goes_over _ c.start.result c.args.self.now.config c.read_on.new.self.config bytes c.in_ok-read.field-0 c.in-Some.read
    c.in_ok-read.ensures.config c.in-Some.is (c.in_ok-read.ensures.over told bytes over) (c.start.ensures.over told bytes)

pub returns-in-Some-clause-waits : goal.returns-in-Some-clause-waits
returns-in-Some-clause-waits g c told bytes over =
    goes _ (λ (config : Config). IfOk c.start.result (λ found. IfNone found (IsOpeningOver bytes c.start.new.self))) c.args.self.now.config c.read_on.new.self.config bytes c.in_ok-read.field-0 c.in-Some.read
    c.in_ok-read.ensures.config c.in-Some.is (c.in_ok-read.ensures.over told bytes over) (c.start.ensures.waits told bytes)

pub returns-in-None-clause-waits : goal.returns-in-None-clause-waits
returns-in-None-clause-waits g c told bytes over = where_none c.in_ok-read.field-0 c.in-None.is (c.in_ok-read.ensures.waits told bytes over)
