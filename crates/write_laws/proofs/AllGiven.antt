-- No shard failed in the pages of a context where none failed in the replies of the tasks that show them.
use Rattle.std.proofs.Common.{◌≡◌, Bool, true, false, cond, List, [], ◌∷◌, Some, refl, arith}
use Rattle.task_ids.specs.declared.cluster.Cluster.{Cluster}
use Rattle.task_ids.specs.declared.task_id.TaskId.{TaskId}
use Rattle.task_events.specs.declared.event.Event.{Event}
use Rattle.task_events.specs.declared.event.Event.TheVariants.{End, Put, Refuse, Root}
use Rattle.task_events.specs.declared.reply.Reply.{Reply}
use Rattle.task_events.specs.declared.reply.ShardCount.{ShardCount}
use Rattle.task_events.specs.Lawful.{Lawful}
use Rattle.task_events.specs.Requests.{Scripted, request_of}
use Rattle.task_events.specs.Tasks.{reply_of}
use Rattle.task_laws.proofs.Asks.{ask_facts}
use Rattle.task_laws.proofs.Same.{same_tests}
use Rattle.world_moves.proofs.OwnTasks.{ended_apart, fresh_ended, replied_ended}
use Rattle.world_steps.specs.PagesFollow.{all_given, gave_all, is_of_context}

module _ (cluster : Cluster) (said : Scripted) (id : TaskId) (kept : List ShardCount) where
  -- each reply of a task of the context has all that is kept
  abbrev pub EachGives : List Event → Type 0
  EachGives h = (u : TaskId) (reply : Reply) → reply_of u h ≡ Some reply → is_of_context id u (request_of said u h) ≡ true → gave_all kept reply ≡ true

  -- so it was before
  gave_before : (e : Event) (h : List Event) → Lawful cluster (e ∷ h) → EachGives (e ∷ h) → EachGives h
  gave_before (Root k v) h l each u reply told own =
      let other = ended_apart u v h (replied_ended u h reply told) (fresh_ended cluster said h (ask_facts cluster h l.1) v l.0.takes.next) in
      each u reply told (rw other own)
  gave_before (Put v q j) h l each u reply told own =
      let other = ended_apart u v h (replied_ended u h reply told) (fresh_ended cluster said h (ask_facts cluster h l.1) v l.0.takes.next) in
      each u reply told (rw other own)
  gave_before (Refuse v c) h l each u reply told own =
      let other = ended_apart u v h (replied_ended u h reply told) ((ask_facts cluster h l.1).live_or_ended v l.0.live) in
      each u reply (rw other told) own
  gave_before (End v last) h l each u reply told own =
      let other = ended_apart u v h (replied_ended u h reply told) ((ask_facts cluster h l.1).live_or_ended v l.0.goes_on.live) in
      each u reply (rw other told) own
  gave_before _ h l each u reply told own = each u reply told own

  pub given_by_each : (h : List Event) → Lawful cluster h → EachGives h → all_given kept said id h ≡ true
  given_by_each [] l each = refl
  given_by_each (End v last ∷ h) l each = rw (given_by_each h l.1 (gave_before (End v last) h l each)) (by_context (is_of_context id v (request_of said v h)) refl)
    where
      by_context : (b : Bool) → is_of_context id v (request_of said v h) ≡ b → cond b (gave_all kept last) true ≡ true
      by_context true own = each v last (grind (arith, same_tests)) own
      by_context false other = refl
  given_by_each (e ∷ h) l each = given_by_each h l.1 (gave_before e h l each)
