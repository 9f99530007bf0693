use Rattle.std.proofs.Common.{List, [], ◌∷◌, ◌++◌, sym, ap, ◌∙◌, append_assoc}
use Rattle.std.proofs.lemmas.List.{map-append}
use Rattle.run_threads.specs.Jobs.{jobs_of, all_jobs, lists_of}
use Rattle.run_threads.proofs.Threads.{all_jobs_push}
use Rattle.run_threads.proofs.start.start_each.Goals as goal

pub loop-jobs-preserved : goal.loop-jobs-preserved
loop-jobs-preserved g c =
    let i = c.loop-jobs.invariant in
    let x = c.in-Some.jobs in
    let own = c.start_all-begun.new.started in
    let before = c.loop-jobs.yielded in
    let old = c.loop-jobs.started.items in
    let items = c.push_reserved.ensures.items ∙ ap (λ (l : List _). l ++ own ∷ []) c.reserve.ensures.items in (
      tt,
      tt,
      ap all_jobs items ∙ all_jobs_push old own ∙ ap (λ (l : List _). all_jobs old ++ l ∷ []) (c.in_ok-begun.ensures.jobs ∙ ap (λ (l : List _). jobs_of l ++ x.items) c.new-own.ensures.items)
          ∙ ap (λ (l : List _). l ++ x.items ∷ []) i.2 ∙ append_assoc (all_jobs c.args.started.now.items) (lists_of before) (x.items ∷ [])
          ∙ ap (λ (l : List _). all_jobs c.args.started.now.items ++ l) (sym (map-append (λ own. own.items) before (x ∷ []))),
      append_assoc before (x ∷ []) c.next.new.self.rest.items ∙ ap (λ (l : List _). before ++ l) (sym c.in-Some.ensures.steps.0) ∙ i.3,
      c.in_ok-begun.ensures.quiet ∙ i.4,
    )
