-- A worker, and what it leaves, may go to another thread, since its kind may.
use denote.Param.Send.{sendable}
use Rattle.std.proofs.Common.{List, [], ◌∷◌, ◌++◌, sym, ap, ◌∙◌, subst, append_assoc}
use Rattle.std.proofs.Crossing.{crosses}
use Rattle.es_io.specs.Worker.{job_of}
use Rattle.node_worker.proofs.WorkerSends.{worker_send, out_send}
use Rattle.run_inboxes.specs.Pairs.{Pairwise}
use Rattle.run_threads.specs.Jobs.{jobs_of, Drained}
use Rattle.run_threads.proofs.Causes.{later_on}
use Rattle.node_worker.specs.Job.{Gives}
use Rattle.run_threads.specs.Causes.{AllEnded}
use Rattle.run_threads.proofs.Ended.{ended_more}
use Rattle.run_threads.proofs.Threads.{jobs_push, drained_more}
use Rattle.run_threads.proofs.finish.finish_all.Goals as goal

pub finish-requires-send-J : goal.finish-requires-send-J
finish-requires-send-J g c κs within = let s = c.type_bounds.send-T in search (worker_send, sendable, crosses) depth 20

pub finish-requires-send-J-Out : goal.finish-requires-send-J-Out
finish-requires-send-J-Out g c κs within = let s = c.type_bounds.send-T in search (out_send, sendable, crosses) depth 20

pub loop-thread-preserved : goal.loop-thread-preserved
loop-thread-preserved g c =
    let i = c.loop-thread.invariant in
    let t = c.in-Some.thread in
    let before = c.loop-thread.yielded in
    let kept = c.keep_also-met.ensures in
    let did = g.T.Turns.did in
    let at_rest = g.T.Turns.at_rest in
    let fits = g.T.Turns.fits in (
      tt,
      tt,
      append_assoc before (t ∷ []) c.next.new.self.rest.items ∙ ap (λ (l : List _). before ++ l) (sym c.in-Some.ensures.steps.0) ∙ i.2,
      later_on c.args.met c.loop-thread.met c.keep_also-met.result i.3 kept.kept,
      λ none.
          let k = kept.none none in
          let all = i.4 k.0 in (
            all.0,
            subst (λ (l : List _). Pairwise (Drained did at_rest fits) l c.keep_also-met.new.rests.items) (sym (jobs_push before t))
                (drained_more did at_rest fits (jobs_of before) c.loop-thread.rests.items c.keep_also-met.new.rests.items (job_of t).job c.finish.result k.1.0 all.1 c.finish.ensures k.1.1 k.1.2),
          ),
      subst (λ (l : List _). AllEnded (Gives {N = g.row.N.Denot} did at_rest fits) l c.keep_also-met.result) (sym (jobs_push before t))
          (ended_more (Gives {N = g.row.N.Denot} did at_rest fits) (jobs_of before) (job_of t).job c.finish.result c.loop-thread.met c.keep_also-met.result i.5 kept.kept c.finish.ensures kept.cause),
    )
