-- What no turn of a worker changes, it has when it has drained.
use Rattle.std.proofs.Common.{◌≡◌, List, [], ◌∷◌, sym, ap, ◌∙◌}
use Rattle.node_link.specs.declared.body.Body.{Body}
use Rattle.node_worker.specs.declared.post.Post.{Post}
use Rattle.node_worker.specs.declared.worker.Rest.{Rest}
use Rattle.node_worker.specs.Turns.{Given, Turn, Leads}
use Rattle.node_worker.specs.Work.{Did}
use Rattle.node_worker.specs.Job.{Begun}
use Rattle.run_threads.specs.Jobs.{Drained}

module _ {T X : Type 0} (did : T → Given → List (Post Body) → T → Type 0) (f : T → X) (keeps : (v : T) (given : Given) (posts : List (Post Body)) (w : T) → did v given posts w → f w ≡ f v) where
  leads_keep : (v : T) (turns : List Turn) (w : T) → Leads did v turns w → f w ≡ f v
  leads_keep v [] w same = ap f (sym same)
  leads_keep v (t ∷ turns) w (u, goes, made, more) = leads_keep u turns w more ∙ keeps v t.given t.gave u made

  pub drained_keeps : {N : Type 0} (at_rest fits : T → Type 0) (begun : Begun T) (rest : Rest N T) → Drained did at_rest fits begun rest → f rest.worker ≡ f begun.worker
  unfolding Did
  drained_keeps at_rest fits begun rest d = leads_keep begun.worker d.did_all.0 rest.worker d.did_all.1.leads
