-- One more thread, and what its worker left.
use Rattle.std.proofs.Common.{◌≡◌, List, [], ◌∷◌, ◌++◌, refl, sym, ap, subst}
use Rattle.std.specs.Global.{Vec}
use Rattle.std.proofs.lemmas.List.{map-append}
use Rattle.es_io.specs.declared.worker.Started.{Started}
use Rattle.es_io.specs.Worker.{job_of}
use Rattle.node_link.specs.declared.body.Body.{Body}
use Rattle.node_worker.specs.declared.post.Post.{Post}
use Rattle.node_worker.specs.declared.worker.Rest.{Rest}
use Rattle.node_worker.specs.declared.worker.WorkerOut.{WorkerOut}
use Rattle.node_worker.specs.declared.worker.WorkerOut.TheVariants as out
use Rattle.node_worker.specs.Turns.{Given}
use Rattle.node_worker.specs.Job.{Begun, Gives}
use Rattle.run_inboxes.specs.Pairs.{Pairwise}
use Rattle.run_inboxes.proofs.Pairs.{pairs_push}
use Rattle.run_threads.specs.declared.counted.Counted.{Counted}
use Rattle.run_threads.specs.Jobs.{jobs_of, all_jobs, Drained}

module _ {J O : Type 0} where
  pub jobs_push : (xs : List (Started (Counted J) O)) (x : Started (Counted J) O) → jobs_of (xs ++ x ∷ []) ≡ jobs_of xs ++ (job_of x).job ∷ []
  jobs_push [] x = refl
  jobs_push (y ∷ xs) x = ap (λ l. (job_of y).job ∷ l) (jobs_push xs x)

  -- one more list of threads
  pub all_jobs_push : (xs : List (Vec (Started (Counted J) O))) (x : Vec (Started (Counted J) O)) → all_jobs (xs ++ x ∷ []) ≡ all_jobs xs ++ jobs_of x.items ∷ []
  all_jobs_push xs x = map-append (λ (own : Vec (Started (Counted J) O)). jobs_of own.items) xs (x ∷ [])

module _ {N T : Type 0} (did : T → Given → List (Post Body) → T → Type 0) (at_rest fits : T → Type 0) where
  drained_one : (job : Begun T) (rest : Rest N T) → Gives did at_rest fits job (out.Drained rest) → Drained did at_rest fits job rest
  drained_one job rest g = record { did_all = g.0; rests = g.1; belongs = g.2 }

  pub drained_more : (jobs : List (Begun T)) (rests new : List (Rest N T)) (job : Begun T) (o : WorkerOut (Rest N T)) (rest : Rest N T)
      → Pairwise (Drained did at_rest fits) jobs rests → Gives did at_rest fits job o → o ≡ out.Drained rest → new ≡ rests ++ rest ∷ [] → Pairwise (Drained did at_rest fits) (jobs ++ job ∷ []) new
  drained_more jobs rests new job o rest all gives is more =
      subst (λ l. Pairwise (Drained did at_rest fits) (jobs ++ job ∷ []) l) (sym more)
      (pairs_push (Drained did at_rest fits) jobs rests job rest all (drained_one job rest (subst (λ x. Gives did at_rest fits job x) is gives)))
