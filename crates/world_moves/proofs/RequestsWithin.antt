-- What a live task was asked names what was written: a child by the ask of its parent, and a root is asked of no shard.
use Rattle.std.proofs.Common.{◌≡◌, ℕ, List, [], ◌∷◌, Bool, true, false, Option, Some, None, refl, sym, subst, ◌∙◌}
use Rattle.std.specs.Prelude.{◌≤◌, is_some, option_map, option_and_then, Result, Ok, Err}
use Rattle.task_ids.specs.declared.task_id.TaskId.{TaskId}
use Rattle.task_ids.specs.declared.cluster.Cluster.{Cluster}
use Rattle.task_ids.specs.declared.corpus.Corpus.{Corpus}
use Rattle.query_match.specs.declared.body.SearchBody.{SearchBody}
use Rattle.query_parse.specs.Bodies.{body_at}
use Rattle.query_parse.specs.declared.fault.BodyError.{BodyError}
use Rattle.task_table.specs.Table.{Table}
use Rattle.task_events.specs.declared.event.Event.{Event}
use Rattle.task_events.specs.declared.event.Event.TheVariants.{Root, Put}
use Rattle.task_events.specs.declared.request.ReindexAsk.{ReindexAsk}
use Rattle.task_events.specs.declared.request.Request.{Request}
use Rattle.task_events.specs.declared.request.Request.TheVariants as asks
use Rattle.task_events.specs.declared.request.ScrollAsk.{ScrollAsk}
use Rattle.task_events.specs.Requests.{Scripted, request_of}
use Rattle.task_events.specs.Same.{same_task}
use Rattle.task_events.specs.Tasks.{parent_of, ask_of}
use Rattle.script_lang.specs.declared.command.Command.{Command}
use Rattle.script_lang.specs.declared.command.Command.TheVariants.{Search, Scroll, Reindex}
use Rattle.script_lang.specs.declared.command.Script.{Script}
use Rattle.command_roots.specs.Roots.{scripted, request_in, command_at, search_ask, body_or_none, least_size, reindex_of, context_named}
use Rattle.node_parts.specs.declared.running.Running.{Running}
use Rattle.world_moves.specs.declared.flight.Sent.{Sent}
use Rattle.world_moves.specs.Good.{IsWithin, so_far}
use Rattle.world_moves.specs.Ties.{Ties}
use Rattle.world_moves.proofs.Children.{child_request}
use Rattle.query_parse.proofs.Windows.{size_low}

module _ (cluster : Cluster) (corpus : Corpus) where
  searches : (index : List ℕ) (scroll : Option ℕ) (read : Result SearchBody BodyError) (q : Request) → ((body : SearchBody) → read ≡ Ok body → body.size ≤ 10000)
      → option_map asks.Search (option_map (search_ask index scroll) (body_or_none read)) ≡ Some q → IsWithin cluster corpus q
  searches index scroll (Err fault) q low e = absurd (cc)
  searches index scroll (Ok body) q low e = subst (IsWithin cluster corpus) (let same : asks.Search (search_ask index scroll body) ≡ q = cc in same) (low body refl)

  pages : (o : Option TaskId) (page : TaskId → ScrollAsk) (q : Request) → option_map (λ id. asks.Scroll (page id)) o ≡ Some q → IsWithin cluster corpus q
  pages None page q e = absurd (cc)
  pages (Some id) page q e = subst (IsWithin cluster corpus) (let same : asks.Scroll (page id) ≡ q = cc in same) tt

  copies : (o : Option ReindexAsk) (q : Request) → option_map asks.Reindex o ≡ Some q → IsWithin cluster corpus q
  copies None q e = absurd (cc)
  copies (Some ask) q e = subst (IsWithin cluster corpus) (let same : asks.Reindex ask ≡ q = cc in same) tt

  -- what a command asks its root
  command_within : (command : Command) (h : List Event) (q : Request) → request_in command h ≡ Some q → IsWithin cluster corpus q
  command_within (Scroll context keep opaque_id) h q e = pages (context_named context h) _ q e
  command_within (Search index node scroll body opaque_id) h q e = searches index scroll (body_at (is_some scroll) (least_size scroll) body) q (size_low (is_some scroll) (least_size scroll) body) e
  command_within (Reindex node body slices rate opaque_id store) h q e = copies (reindex_of (Reindex node body slices rate opaque_id store)) q e
  command_within _ h q e = absurd (cc)

  pub root_within : (o : Option Command) (h : List Event) (q : Request) → option_and_then (λ command. request_in command h) o ≡ Some q → IsWithin cluster corpus q
  root_within None h q e = absurd (cc)
  root_within (Some command) h q e = command_within command h q e

-- a task that has no parent was asked by a command
pub by_command : (said : Scripted) (t : TaskId) (h : List Event) (q : Request) → parent_of t h ≡ None → request_of said t h ≡ Some q → (k : ℕ) × (g : List Event) × (said.root k g ≡ Some q)
by_command said t [] q none e = absurd (cc)
by_command said t (Root k u ∷ h) q none e = by_task (same_task t u) refl (λ asked. by_command said t h q none asked)
  where
    by_task : (b : Bool) → same_task t u ≡ b → (request_of said t h ≡ Some q → (j : ℕ) × (g : List Event) × (said.root j g ≡ Some q)) → (j : ℕ) × (g : List Event) × (said.root j g ≡ Some q)
    by_task true i before = (k, h, rw i at e)
    by_task false i before = before (rw i at e)
by_command said t (Put u p k ∷ h) q none e = by_task (same_task t u) refl (λ unparented asked. by_command said t h q unparented asked)
  where
    by_task : (b : Bool) → same_task t u ≡ b → (parent_of t h ≡ None → request_of said t h ≡ Some q → (j : ℕ) × (g : List Event) × (said.root j g ≡ Some q)) → (j : ℕ) × (g : List Event) × (said.root j g ≡ Some q)
    by_task true i before = absurd (let f = rw i at none in cc)
    by_task false i before = before (rw i at none) (rw i at e)
by_command said t (_ ∷ h) q none e = by_command said t h q none e

module _ (cluster : Cluster) (corpus : Corpus) (script : Script) (h : List Event) (tasks : TaskId → Option Running) (tables : List Table) (flight : List Sent) (ties : Ties cluster corpus script h tasks tables flight) where
  pub asked_within : (t : TaskId) (q : Request) → request_of (scripted script) t h ≡ Some q → IsWithin cluster (so_far corpus script h) q
  asked_within t q asked = by_parent (parent_of t h) refl
    where
      by_parent : (o : Option TaskId) → parent_of t h ≡ o → IsWithin cluster (so_far corpus script h) q
      by_parent (Some p) e = ties.within p (ask_of t h) q (sym (child_request cluster (scripted script) t p h ties.lawful e) ∙ asked)
      by_parent None e =
          let root = by_command (scripted script) t h q e asked in
          root_within cluster (so_far corpus script h) (command_at script root.0) root.1 q root.2
