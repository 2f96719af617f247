use Rattle.std.proofs.Common.{◌==◌, ◌∙◌, length, ap, sym}
use Rattle.sled_disk.proofs.LogCalls.EmptyLog.{held-none, none-held, none-of, of-none}
use Rattle.sled_disk.proofs.log.DiskLog.is_empty.Goals as goal

pub returns-clause-pages : goal.returns-clause-pages
returns-clause-pages g c =
    let pages = c.args.self.now.pages.items in
    let is = c.is_empty.ensures ∙ ap (λ l. length l == 0) c.as_slice.ensures.value in
    (λ yes. none-of pages (sym is ∙ yes), λ none. is ∙ of-none pages none)

pub returns-clause-told : goal.returns-clause-told
returns-clause-told g c = λ told ok.
    let log = c.args.self.now in
    let seen = g.D.Disk.seen log.disk in
    let next = log.next in
    let fits = g.met.D.Disk.are_bytes log.disk in
    let pages = returns-clause-pages g c in (
      λ yes. none-held seen next.gate next.spilled next.buffer.items _ log.pages.items (λ i. fits i told) (log.stands told ok) log.usable next.own (pages.0 yes),
      λ none. pages.1 (held-none seen next.gate next.spilled next.buffer.items _ log.pages.items (λ i. fits i told) (log.stands told ok) log.usable next.own none),
    )
