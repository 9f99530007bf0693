-- What the calls on a table of contexts come to.
use Rattle.std.proofs.Common.{◌≡◌, ℕ, ◌↔◌, Bool, true, false, ◌&&◌, Option, Some, None, refl, sym, ◌∙◌, subst}
use Rattle.std.specs.Prelude.{Result, Ok, Err, OnErr, IsSomeAnd, IsSome, ◌==◌}
use Rattle.std.specs.FinMap as finite
use Rattle.std.specs.Option.{option_map_or}
use Rattle.task_ids.specs.declared.task_id.TaskId.{TaskId}
use Rattle.task_events.specs.declared.context.Context.{Context}
use Rattle.task_events.specs.declared.request.ScrollAsk.{ScrollAsk}
use Rattle.task_events.specs.Contexts.{with_use}
use Rattle.scroll_table.specs.declared.context.PageError.{PageError}
use Rattle.data_parts.specs.Slices.{Contexts, if_ok, used, is_used_by}

-- a task uses a context, where the table lets it
pub used_is : {T : Type 0} (answer : Result Context PageError) (told : Result T PageError) (old new : Contexts) (task : TaskId) (ask : ScrollAsk) (now : ℕ)
    → ((e : PageError) → (told ≡ Err e) ↔ (answer ≡ Err e)) → ((c : Context) → answer ≡ Ok c → new ≡ finite.insert old ask.id (with_use now ask.keep task c)) → OnErr told (new ≡ old)
    → new ≡ used old task ask now (if_ok answer)
used_is (Ok c) told old new task ask now refused takes stays = takes c refl
used_is {T = T} (Err e) told old new task ask now refused takes stays = subst (λ (r : Result T PageError). OnErr r (new ≡ old)) ((refused e).1 refl) stays

-- what a task uses is busy
pub busy_is : (task : TaskId) (uses : Bool) (o : Option Context) → (o ≡ None → uses ≡ false) → ((c : Context) → o ≡ Some c → uses ≡ is_used_by task c) → uses ≡ true → IsSomeAnd o (λ c. IsSome c.busy)
busy_is task uses None none some is = absurd (let f : false ≡ true = sym (none refl) ∙ is in cc)
busy_is task uses (Some c) none some is = by c.busy (sym (some c refl) ∙ is)
  where
    by : (user : Option TaskId) → option_map_or (λ (u : TaskId). (task.node == u.node) && (task.number == u.number)) user false ≡ true → IsSome user
    by None e = e
    by (Some u) e = refl
