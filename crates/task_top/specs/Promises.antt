-- What is promised of every moment of what happened, and of its end.
use Rattle.std.specs.Prelude.{◌≡◌, ℕ, false, List, ◌∷◌, ◌++◌, Some, None, option_map, ⊤}
use Rattle.task_ids.specs.declared.task_id.TaskId.{TaskId}
use Rattle.task_events.specs.declared.event.Event.{Event}
use Rattle.task_events.specs.declared.event.Event.TheVariants.{Ask, Pass, Listed, Acked, Work, AnswerPlaced, AnswerDone}
use Rattle.task_events.specs.declared.reply.Reply.{Reply}
use Rattle.task_events.specs.Allowed.{cancellation_in}
use Rattle.task_events.specs.Bans.{ban_put, mark_of, standing_ban}
use Rattle.task_events.specs.Laws.{OnePlace, OneStage, RefusesLateChildren, LetsNoChildEscape, ListsAllChildren, HasListedAll, HasStoppedChildren, HasStoppedTrees, StopsPlacedTrees, IsCalledOff, WaitsForDescendants, LeavesNoBan, PlacesBans, CancelsWithCause, IsDrained}
use Rattle.task_events.specs.Tasks.{parent_of, ancestors, is_live, reply_of}
use Rattle.task_results.specs.Stands.{ResultStands}
use Rattle.script_lang.specs.declared.command.Script.{Script}
use Rattle.command_roots.specs.Results.{keeping}
use Rattle.world_moves.specs.Cancels.{AllAnswered}
use Rattle.line_print.specs.Lines.{started}

-- A child passes only where no ban of its parent was ever put on its node.
abbrev pub PassesUnbanned : List Event → Type 0
PassesUnbanned (Pass t ∷ h) = (p : TaskId) → parent_of t h ≡ Some p → ban_put t.node p h ≡ None
PassesUnbanned _ = ⊤

-- Where a listing has just ended, each child there has ended or is marked. Where a ban has just been acknowledged, each of those children has ended or has its own bans placed. Where a cancel has just been answered, the listings of its tasks have ended, and their whole trees have stopped.
abbrev pub EndsListings : List Event → Type 0
EndsListings (Listed n p ∷ h) = ListsAllChildren n p h
EndsListings (Acked p n ∷ h) = HasStoppedChildren n p h
EndsListings (AnswerPlaced c ∷ h) = HasListedAll c h × HasStoppedTrees c h
EndsListings (AnswerDone c ∷ h) = HasListedAll c h × HasStoppedTrees c h
EndsListings _ = ⊤

-- What passes is no descendant of a task that an answered cancel named, and what asks or works is neither such a task nor a descendant of one.
abbrev pub StartsNothingStopped : List Event → Type 0
StartsNothingStopped (Pass t ∷ h) = IsCalledOff (ancestors t h) h → ⊥
StartsNothingStopped (Ask t k n r ∷ h) = IsCalledOff (t ∷ ancestors t h) h → ⊥
StartsNothingStopped (Work t ∷ h) = IsCalledOff (t ∷ ancestors t h) h → ⊥
StartsNothingStopped _ = ⊤

-- A fact holds at each moment of what happened: of all that had happened by then.
abbrev pub AtEachMoment : (List Event → Type 0) → List Event → Type 0
AtEachMoment Holds whole = (later h : List Event) → later ++ h ≡ whole → Holds h

-- The laws of one moment.
pub record KeepsAllLaws (h : List Event) : Type 0 where
  -- an unanswered ask is in one place: its request is in flight, or its child is live, or its answer is in flight
  pub one_place : OnePlace h
  -- the ban of a marked task on a banned node is in one stage, from its sending up to its removal
  pub one_stage : OneStage h
  -- a child that registers after its parent's ban on its node never passes, and is refused with the ban's number
  pub late_children : RefusesLateChildren h
  -- a child that passes was not banned
  pub no_pass : PassesUnbanned h
  -- once a listing has ended, a live child there is marked, or it came after the ban
  pub early_children : LetsNoChildEscape h
  -- a listing ends with every child there ended or marked, a ban is acknowledged when each of them has ended or has its bans placed, and a cancel is answered when the whole trees of its tasks have stopped
  pub listings : EndsListings h
  -- where the bans of a task are placed, a ban stands over each live descendant, which is marked or has not passed
  pub placed_trees : StopsPlacedTrees h
  -- after the answer of a cancel nothing of its tasks' trees starts, and nothing goes on
  pub stopped_trees : StartsNothingStopped h
  -- where nothing is in flight and no listing is open, the bans of each marked task are placed: no acknowledgement waits for ever
  pub placed_bans : PlacesBans h
  -- once a waiting cancel is answered, no task that it named and no descendant of one is live
  pub waiting : WaitsForDescendants h
  -- once its messages are handled, an ended task has no ban
  pub drained_bans : LeavesNoBan h
  -- a task is cancelled only by a cancel that named it or an ancestor
  pub causes : CancelsWithCause h

-- After a whole run nothing is live, in flight or listed, no ban stands, and every cancel that named a task has its answer.
pub record IsOver (h : List Event) : Type 0 where
  pub nothing_left : IsDrained h
  pub no_ban : (n : ℕ) (p : TaskId) → standing_ban n p h ≡ None
  pub answered : AllAnswered h

-- A result stands only of a task that has ended, and it is the reply with which that ended. So no get tells a result of a live task, and
-- what it tells is what the line of the task's own command does, whatever came between.
pub record TellsResults (script : Script) (h : List Event) : Type 0 where
  pub ended : (t : TaskId) (reply : Reply) → ResultStands (keeping script) t reply h → is_live t h ≡ false
  pub same : (t : TaskId) (reply : Reply) → ResultStands (keeping script) t reply h → reply_of t h ≡ Some reply

-- The reply of a command's task is cancelled exactly where the task was marked, with the number of its mark.
abbrev pub CancelsExactly : List Event → Type 0
CancelsExactly h = (k : ℕ) (t : TaskId) (reply : Reply) → started k h ≡ Some t → reply_of t h ≡ Some reply → cancellation_in reply ≡ option_map (λ c. (t, c)) (mark_of t h)
