-- What a task that has others write knows of its asks.
use Rattle.std.specs.Prelude.{◌≡◌, ℕ, ◌+◌, List, length, map, get_or, not, is_some, slice_get, Bool, true, Option, Some, None}
use Rattle.task_events.specs.declared.reply.Reply.{Reply}
use Rattle.task_events.specs.declared.request.Request.{Request}
use Rattle.task_events.specs.declared.step.Asked.{Asked}
use Rattle.task_events.specs.Kinds.{can_have}

-- It knows which asks are answered, and takes for each other one the replies that its request can have. Asks are numbered from 1.
pub record KnowsAsks (shards : ℕ) (takes : ℕ → Reply → Bool) (asked : List Asked) (requests : List Request) (awaited : List (Option ℕ)) : Type 0 where
  pub as_many : length requests ≡ length asked
  pub answered : map (λ a. is_some a.answer) asked ≡ map (λ o. not (is_some o)) awaited
  pub takes_each : (i : ℕ) (r : Request) (reply : Reply) → slice_get requests i ≡ Some r → is_some (get_or awaited i None) ≡ true → can_have shards r reply ≡ true → takes (1 + i) reply ≡ true
