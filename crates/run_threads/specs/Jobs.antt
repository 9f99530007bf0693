-- The jobs of threads, and what they left.
use Rattle.std.specs.Prelude.{List, [], ◌∷◌, map}
use Rattle.std.specs.Global.{Vec}
use Rattle.es_io.specs.declared.worker.Started.{Started}
use Rattle.es_io.specs.Worker.{job_of}
use Rattle.node_link.specs.declared.body.Body.{Body}
use Rattle.node_worker.specs.declared.post.Post.{Post}
use Rattle.node_worker.specs.declared.worker.Rest.{Rest}
use Rattle.node_worker.specs.Turns.{Given}
use Rattle.node_worker.specs.Work.{Did}
use Rattle.node_worker.specs.Job.{Begun, begins, ends}
use Rattle.run_threads.specs.declared.counted.Counted.{Counted}

-- the jobs that these threads run, in order
abbrev pub jobs_of : {J O : Type 0} → List (Started (Counted J) O) → List J
jobs_of [] = []
jobs_of (s ∷ ss) = (job_of s).job ∷ jobs_of ss

-- those of each list of threads
abbrev pub all_jobs : {J O : Type 0} → List (Vec (Started (Counted J) O)) → List (List J)
all_jobs threads = map (λ own. jobs_of own.items) threads

-- what is in each of these vectors
abbrev pub lists_of : {X : Type 0} → List (Vec X) → List (List X)
lists_of vectors = map (λ own. own.items) vectors

-- A worker that drained left this: it lists its turns, over all letters that it took, sent just what they gave, and is at rest.
pub record Drained {N T : Type 0} (did : T → Given → List (Post Body) → T → Type 0) (at_rest fits : T → Type 0) (job : Begun T) (rest : Rest N T) : Type 0 where
  pub did_all : Did did (begins job) (ends rest)
  pub rests : at_rest rest.worker
  pub belongs : fits rest.worker
