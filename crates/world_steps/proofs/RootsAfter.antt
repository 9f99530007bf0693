-- The tables fit the past after a command has begun, and after its root has come to its node.
use Rattle.std.proofs.Common.{◌≡◌, ◌+◌, ◌≤◌, ℕ, true, false, List, ◌∷◌, Option, Some, None, refl, sym, ap, ◌∙◌, arith}
use Rattle.task_ids.specs.declared.task_id.TaskId.{TaskId}
use Rattle.task_ids.specs.declared.task_info.Headers.{Headers}
use Rattle.task_ids.specs.declared.task_info.NewTask.{NewTask}
use Rattle.task_ids.specs.declared.cluster.Cluster.{Cluster}
use Rattle.task_ids.specs.declared.corpus.Corpus.{Corpus}
use Rattle.task_ids.specs.declared.doc.Doc.{Doc}
use Rattle.task_table.specs.Table.{Table}
use Rattle.task_work.specs.Works.{IsWorkOn, IsNewWork}
use Rattle.script_lang.specs.declared.command.Script.{Script}
use Rattle.task_events.specs.declared.context.Context.{Context}
use Rattle.task_events.specs.declared.request.Request.{Request}
use Rattle.task_events.specs.declared.event.Event.{Event}
use Rattle.task_events.specs.declared.event.Event.TheVariants.{Begin, Root, RootRejected}
use Rattle.task_events.specs.Same.{same_task}
use Rattle.task_events.specs.Tasks.{live_on}
use Rattle.task_events.specs.Cancels.{last_command, beginning}
use Rattle.task_events.specs.Allowed.{TakesSlot}
use Rattle.task_events.specs.Contexts.{asked_page, context_at}
use Rattle.task_events.specs.Lawful.{AwaitsNoMark}
use Rattle.world_moves.specs.declared.flight.Sent.{Sent}
use Rattle.node_parts.specs.declared.running.Running.{Running}
use Rattle.world_moves.specs.Facts.{Facts, facts_of}
use Rattle.world_moves.specs.Moves.{IsStart}
use Rattle.command_roots.specs.Roots.{command_at, root_request, root_headers, scripted}
use Rattle.world_moves.specs.Ties.{Ties}
use Rattle.world_moves.specs.Good.{so_far}
use Rattle.world_moves.proofs.AllKinds.{IsPageOf, works_first}
use Rattle.world_moves.proofs.RequestsWithin.{root_within}
use Rattle.world_moves.proofs.FactsAfter.{at_root}
use Rattle.world_moves.proofs.FlightAfter.{all_stay}
use Rattle.world_moves.proofs.KeptTasks.{kept_after, kept_same}
use Rattle.world_moves.proofs.NodeTablesSame.{listed_same}
use Rattle.world_moves.proofs.FirstRuns.{started, first, runs_first}
use Rattle.world_moves.proofs.Tables.{IsPutOn, put_node, put_takes, put_listed}
use Rattle.world_moves.proofs.UnbornTasks.{blank, unborn}

module _ (cluster : Cluster) (corpus : Corpus) (script : Script) (h : List Event) (tasks : TaskId → Option Running) (tables : List Table) (flight : List Sent) (ties : Ties cluster corpus script h tasks tables flight) (awaits : AwaitsNoMark h) (command : ℕ) where
  pub after_begin : last_command h + 1 ≡ command → Ties cluster corpus script (Begin command ∷ h) tasks tables flight
  after_begin next = record {
    lawful = (sym next, ties.lawful, awaits);
    kept = kept_same cluster corpus (scripted script) (Begin command) h tasks refl refl ties.kept;
    listed = λ place. listed_same cluster (Begin command) h (λ n. refl) refl place _ (ties.listed place);
    sent = all_stay (Begin command) h flight _ ties.sent;
    good = ties.good;
    within = ties.within;
    plain = ties.plain;
  }

  module _ (node : ℕ) (begun : beginning h ≡ Some command) (low : 1 ≤ node) (high : node ≤ cluster.nodes) where
    -- no slot is free
    pub after_root_rejected : cluster.slots ≤ live_on node h → Ties cluster corpus script (RootRejected command node ∷ h) tasks tables flight
    after_root_rejected full = record {
      lawful = (record { begins = begun; low = low; high = high; full = full }, ties.lawful, awaits);
      kept = kept_same cluster corpus (scripted script) (RootRejected command node) h tasks refl refl ties.kept;
      listed = λ place. listed_same cluster (RootRejected command node) h (λ n. refl) refl place _ (ties.listed place);
      sent = all_stay (RootRejected command node) h flight _ ties.sent;
      good = ties.good;
      within = ties.within;
      plain = ties.plain;
    }

    -- the root takes a slot
    module _ (t : TaskId) (task : NewTask) (after : List Table) (put : IsPutOn tables node t task after) where
      takes : TakesSlot cluster t h
      takes = put_takes cluster h tables ties.listed node low high t task after put ties.lawful

      node_is : t.node ≡ node
      node_is = put_node cluster h tables ties.listed node low high t task after put

      pub starts_root : IsStart cluster h command node true (Root command t)
      starts_root = (takes, node_is, refl)

      pub after_taking : (request : Request) (page : Option Context) (headers : Headers) (running : Running) (kept : TaskId → Option Running) → root_request script command h ≡ Some request → headers ≡ root_headers script command
          → page ≡ asked_page (λ id. context_at (scripted script) id h) (Some request) → IsPageOf cluster (so_far corpus script h) page request
          → running ≡ first t None false request running.work headers → IsNewWork t request cluster.shards page running.work
          → kept t ≡ Some running → ((q : TaskId) → same_task t q ≡ false → kept q ≡ tasks q)
          → Ties cluster corpus script (Root command t ∷ h) kept after flight
      after_taking request page headers running kept asked carried shows sound is work here others = record {
        lawful = (record { begins = begun; in_cluster = rw node_is high; takes = takes }, ties.lawful, awaits);
        kept = kept_after cluster corpus (scripted script) t (Root command t) h tasks kept refl refl ties.kept
            (rw here (runs_first cluster (so_far corpus script) (Root command t ∷ h) t None false request page headers _ running facts is
            (works_first cluster (so_far corpus script h) t false request page running.work work sound (root_within cluster (so_far corpus script h) (command_at script command) h request asked)))) others;
        listed = put_listed cluster h tables ties.listed node low high t task after put (Root command t) (record { last = λ n. refl; live = refl });
        sent = all_stay (Root command t) h flight _ ties.sent;
        good = ties.good;
        within = ties.within;
        plain = ties.plain;
      }
        where
          facts : facts_of (scripted script) t (Root command t ∷ h) ≡ started None false request page headers
          facts =
              let none = unborn cluster t (scripted script) h ties.lawful (let next = takes.next in omega arith) in
              at_root (scripted script) t h command
              ∙ ap (λ (f : Facts). record f { live = true; request = root_request script command h; page = asked_page (λ id. context_at (scripted script) id h) (root_request script command h); headers = root_headers script command }) none
              ∙ (λ i. record blank { live = true; request = asked i; page = (ap (asked_page (λ id. context_at (scripted script) id h)) asked ∙ sym shows) i; headers = sym carried i })
