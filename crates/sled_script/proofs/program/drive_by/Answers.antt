-- The words ask for one job, and a crew that ended well has told of all its calls.
use Rattle.std.proofs.Common.{map, sym, ◌∙◌}
use Rattle.std.specs.Option.{option_map}
use Rattle.std.specs.String.{string_bytes}
use Rattle.sled_script.proofs.Job.{one_job, one_crew, wrote_all}
use Rattle.sled_script.proofs.program.drive_by.Goals.{in-Memory, in-OnFile, in-Crew}
use Rattle.sled_script.proofs.program.drive_by.Goals as goal

pub returns-clause-crew : goal.returns-clause-crew
returns-clause-crew g c = λ workers calls crew fine.
    let contents = g.W.Write.contents in
    let asked = option_map (λ given. map string_bytes given.now) c.args.words in
    elim c.match-job.branch [
      | in-Memory w ↦ absurd (one_job asked workers calls (rw w.in-Memory.is at c.in-Some.ensures.some) crew)
      | in-OnFile w ↦ absurd (one_job asked workers calls (rw w.in-OnFile.is at c.in-Some.ensures.some) crew)
      | in-Crew w ↦
          let told = rw w.in-Crew.is at c.in-Some.ensures.some in
          let same = one_crew asked workers calls w.in-Crew.workers w.in-Crew.calls crew told in
          let status = rw w.outcome-is at (sym c.report.ensures ∙ fine) in
          rw (w.writer-is, same) (wrote_all (contents c.args.writer.now) (contents w.serve_crew-outcome.new.writer) w.serve_crew-outcome.result _ status w.serve_crew-outcome.ensures)
    ]
