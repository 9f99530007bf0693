use Rattle.std.proofs.Common.{List, [], ◌∷◌, ◌++◌, sym, ap, ◌∙◌, append_assoc}
use Rattle.run_threads.specs.Jobs.{jobs_of}
use Rattle.run_threads.proofs.Threads.{jobs_push}
use Rattle.run_threads.proofs.start.start_all.Goals as goal

pub loop-job-preserved : goal.loop-job-preserved
loop-job-preserved g c =
    let i = c.loop-job.invariant in
    let x = c.in-Some.job in
    let t = c.in-Ok.thread in
    let before = c.loop-job.yielded in
    let old = c.loop-job.started.items in
    let items = c.push_reserved.ensures.items ∙ ap (λ (l : List _). l ++ t ∷ []) c.reserve.ensures.items in (
      tt,
      tt,
      ap jobs_of items ∙ jobs_push old t ∙ ap (λ (j : _). jobs_of old ++ j ∷ []) (ap (λ (j : _). j.job) c.in-Ok.ensures.started)
          ∙ ap (λ (l : List _). l ++ x ∷ []) i.2 ∙ append_assoc (jobs_of c.args.started.now.items) before (x ∷ []),
      append_assoc before (x ∷ []) c.next.new.self.rest.items ∙ ap (λ (l : List _). before ++ l) (sym c.in-Some.ensures.steps.0) ∙ i.3,
      c.in-Ok.ensures.quiet ∙ i.4,
    )
