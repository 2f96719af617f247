-- By the step that it is at.
use Rattle.std.proofs.Common.{rules}
use Rattle.sled_handle.proofs.OverBytes.{reading, unread, unsynced, waits, yields}
use Rattle.sled_handle.proofs.opening.Opening+F.read_on.Goals as goal

pub returns-in-Some-Unread-clause-over : goal.returns-in-Some-Unread-clause-over
returns-in-Some-Unread-clause-over g c told bytes over = yields _ c.args.self.now.config c.begin.result (unread _ c.args.self.now.config bytes c.args.self.now.step c.in-Some-Unread.disk (search rules) over) (c.begin.ensures.over told)

pub returns-in-Some-Unread-clause-waits : goal.returns-in-Some-Unread-clause-waits
returns-in-Some-Unread-clause-waits g c told bytes over = waits _ c.begin.new.self c.begin.result (unread _ c.args.self.now.config bytes c.args.self.now.step c.in-Some-Unread.disk (search rules) over) (c.begin.ensures.waits told)

pub returns-in-Some-Reading-clause-over : goal.returns-in-Some-Reading-clause-over
returns-in-Some-Reading-clause-over g c told bytes over = yields _ c.args.self.now.config c.read.result (reading _ c.args.self.now.config bytes c.args.self.now.step c.in-Some-Reading.part (search rules) over) (c.read.ensures.over told)

pub returns-in-Some-Reading-clause-waits : goal.returns-in-Some-Reading-clause-waits
returns-in-Some-Reading-clause-waits g c told bytes over = waits _ c.read.new.self c.read.result (reading _ c.args.self.now.config bytes c.args.self.now.step c.in-Some-Reading.part (search rules) over) (c.read.ensures.waits told)

pub returns-in-Some-Unsynced-clause-over : goal.returns-in-Some-Unsynced-clause-over
returns-in-Some-Unsynced-clause-over g c told bytes over = yields _ c.args.self.now.config c.make_durable.result (unsynced _ c.args.self.now.config bytes c.args.self.now.step c.in-Some-Unsynced.part (search rules) over) (c.make_durable.ensures.over told)

pub returns-in-Some-Unsynced-clause-waits : goal.returns-in-Some-Unsynced-clause-waits
returns-in-Some-Unsynced-clause-waits g c told bytes over = waits _ c.make_durable.new.self c.make_durable.result (unsynced _ c.args.self.now.config bytes c.args.self.now.step c.in-Some-Unsynced.part (search rules) over) (c.make_durable.ensures.waits told)
