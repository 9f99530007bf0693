-- A task that has just started runs the work that is asked of it.
use Rattle.std.proofs.Common.{◌≡◌, Bool, true, List, [], Option, Some, None, refl, sym, subst}
use Rattle.task_ids.specs.declared.task_id.TaskId.{TaskId}
use Rattle.task_ids.specs.declared.task_info.Headers.{Headers}
use Rattle.task_ids.specs.declared.cluster.Cluster.{Cluster}
use Rattle.task_ids.specs.declared.corpus.Corpus.{Corpus}
use Rattle.child_track.specs.Token.{Token, token_parent, token_ask}
use Rattle.child_track.specs.Track.{new_track}
use Rattle.task_events.specs.declared.context.Context.{Context}
use Rattle.task_events.specs.declared.event.Event.{Event}
use Rattle.task_events.specs.declared.request.Request.{Request}
use Rattle.task_work.specs.declared.work.Work.{Work}
use Rattle.task_work.specs.Plans.{no_progress}
use Rattle.node_parts.specs.Starting.{page_in}
use Rattle.node_parts.specs.declared.running.Running.{Running}
use Rattle.world_moves.specs.Facts.{Facts}
use Rattle.world_moves.specs.Ties.{RunsAt, WorksFor}
use Rattle.world_moves.proofs.UnbornTasks.{blank}

-- what is so of a task that has just started
abbrev pub started : Option Token → Bool → Request → Option Context → Headers → Facts
started token new request page headers = record blank { live = true; new = new; parent = token_parent token; ask = token_ask token; request = Some request; page = page; headers = headers }

abbrev pub first : TaskId → Option Token → Bool → Request → Work → Headers → Running
first t token new request work headers = record { ticket = record { id = t; token = token }; track = new_track t; work = work; page = page_in request; is_new = new; headers = headers }

module _ (cluster : Cluster) (look : List Event → Corpus) (h : List Event) (t : TaskId) (token : Option Token) (new : Bool) (request : Request) (page : Option Context) (headers : Headers) where
  runs : (o : Option Token) (w : Work) → WorksFor cluster (look h) t new (no_progress page) [] [] (Some request) w → RunsAt cluster look h t (started o new request page headers) (first t o new request w headers)
  runs None w works = record { live = refl; id = refl; token = refl; track = refl; page = refl; new = refl; headers = refl; works = works }
  runs (Some own) w works = record { live = refl; id = refl; token = refl; track = refl; page = refl; new = refl; headers = refl; works = works }

  -- where its work is that of its request
  pub runs_first : (facts : Facts) (running : Running) → facts ≡ started token new request page headers → running ≡ first t token new request running.work headers
      → WorksFor cluster (look h) t new (no_progress page) [] [] (Some request) running.work → RunsAt cluster look h t facts running
  runs_first facts running f r works =
      subst (λ g. RunsAt cluster look h t g running) (sym f)
      (subst (λ x. RunsAt cluster look h t (started token new request page headers) x) (sym r) (runs token running.work works))
