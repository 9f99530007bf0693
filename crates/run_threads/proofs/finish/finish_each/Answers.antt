use Rattle.std.proofs.Common.{List, [], ◌∷◌, ◌++◌, sym, ap, ◌∙◌, subst, append_assoc}
use Rattle.std.proofs.lemmas.List.{map-append}
use Rattle.node_worker.specs.Job.{Gives}
use Rattle.run_inboxes.specs.Pairs.{Pairwise}
use Rattle.run_inboxes.proofs.Pairs.{pairs_push}
use Rattle.run_threads.specs.Causes.{EachEnded}
use Rattle.run_threads.specs.Jobs.{jobs_of, all_jobs, lists_of, Drained}
use Rattle.run_threads.proofs.Causes.{later_on}
use Rattle.run_threads.proofs.Ended.{each_list}
use Rattle.run_threads.proofs.Threads.{all_jobs_push}
use Rattle.run_threads.proofs.finish.finish_each.Goals as goal

pub loop-threads-preserved : goal.loop-threads-preserved
loop-threads-preserved g c =
    let i = c.loop-threads.invariant in
    let t = c.in-Some.threads in
    let before = c.loop-threads.yielded in
    let own = c.finish_all-met.ensures in
    let list = c.keep_list-met.ensures in
    let left = c.finish_all-met.new.rests in
    let drained = Drained g.T.Turns.did g.T.Turns.at_rest g.T.Turns.fits in
    let gives = Gives {N = g.row.N.Denot} g.T.Turns.did g.T.Turns.at_rest g.T.Turns.fits in (
      tt,
      tt,
      append_assoc before (t ∷ []) c.next.new.self.rest.items ∙ ap (λ (l : List _). before ++ l) (sym c.in-Some.ensures.steps.0) ∙ i.2,
      later_on c.args.met c.loop-threads.met c.keep_list-met.result i.3 (later_on c.loop-threads.met c.finish_all-met.result c.keep_list-met.result own.kept list.kept),
      λ none.
          let k = list.none none in
          let d = own.none k.0 in
          let all = i.4 d.0 in (
            all.0,
            subst (λ (l : List _). Pairwise (Pairwise drained) l (lists_of c.keep_list-met.new.lists.items)) (sym (all_jobs_push before t))
                (subst (λ (l : List _). Pairwise (Pairwise drained) (all_jobs before ++ jobs_of t.items ∷ []) l) (sym (ap lists_of k.1 ∙ map-append (λ own. own.items) c.loop-threads.rests.items (left ∷ [])))
                (pairs_push (Pairwise drained) (all_jobs before) (lists_of c.loop-threads.rests.items) (jobs_of t.items) left.items all.1 d.1)),
          ),
      subst (λ (l : List _). EachEnded gives l c.keep_list-met.result) (sym (all_jobs_push before t))
          (each_list gives (all_jobs before) (jobs_of t.items) c.loop-threads.met c.finish_all-met.result c.keep_list-met.result i.5 own.kept own.ended list.kept),
    )
