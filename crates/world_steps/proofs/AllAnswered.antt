-- Where the bans of all marked tasks are placed and they have ended, every cancel that named a task is answered.
use Rattle.std.proofs.Common.{◌≡◌, ◌≢◌, ℕ, Bool, true, List, [], ◌∷◌, None, refl, sym, ◌∙◌, arith}
use Rattle.std.specs.List.{list_any, list_all}
use Rattle.task_ids.specs.declared.task_id.TaskId.{TaskId}
use Rattle.task_ids.specs.declared.cluster.Cluster.{Cluster}
use Rattle.task_events.specs.declared.event.Event.{Event}
use Rattle.task_events.specs.Bans.{mark_of, bans_are_placed}
use Rattle.task_events.specs.Cancels.{is_named}
use Rattle.task_events.specs.Lawful.{AwaitsNoMark, Lawful}
use Rattle.task_events.specs.Same.{same_task}
use Rattle.task_events.specs.Tasks.{has_ended}
use Rattle.task_laws.proofs.Named.{named_marked}
use Rattle.task_laws.proofs.Same.{same_tests}
use Rattle.world_moves.specs.Cancels.{is_answered, is_through, tasks_named}
use Rattle.world_moves.specs.Left.{HasLeft}
use Rattle.world_moves.proofs.TasksNamed.{task_in, due_where_none}

all_pass : (p : TaskId → Bool) (ts : List TaskId) → ((t : TaskId) → list_any (same_task t) ts ≡ true → p t ≡ true) → list_all p ts ≡ true
all_pass p [] each = refl
all_pass p (t ∷ ts) each =
    let first : p t ≡ true = each t (grind (arith, same_tests)) in
    let rest = all_pass p ts (λ u i. each u (grind (arith, i))) in
    grind (arith, first, rest)

pub all_answered : (cluster : Cluster) (h : List Event) (left : ℕ → ℕ) → Lawful cluster h → AwaitsNoMark h → HasLeft None h left → ((t : TaskId) → mark_of t h ≢ None → (bans_are_placed t h ≡ true) × (has_ended t h ≡ true))
    → (c : ℕ) (t : TaskId) → is_named c t h ≡ true → is_answered c h ≡ true
all_answered cluster h left lawful awaits has over c t named = has.answered c t named ∙ sym (due_where_none c h) ∙ all_pass (is_through h c) (tasks_named c h) (λ u i. through u (sym (task_in c u h) ∙ i))
  where
    through : (u : TaskId) → is_named c u h ≡ true → is_through h c u ≡ true
    through u n = let gone = over u (named_marked cluster h lawful awaits c u n) in let placed = gone.0 in let ended = gone.1 in grind (arith, placed, ended)
