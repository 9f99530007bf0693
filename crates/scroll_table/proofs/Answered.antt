-- Who is told that a context is the one to use finds that one.
use Rattle.std.proofs.Common.{◌≡◌, ℕ, Bool, true, false, not, ◌&&◌, cond, Option, None, Some, Result, Ok, Err, IsSomeAnd, refl, ap}
use Rattle.task_ids.specs.declared.task_id.TaskId.{TaskId}
use Rattle.task_events.specs.declared.context.Context.{Context}
use Rattle.scroll_table.specs.declared.context.PageError.{PageError}
use Rattle.scroll_table.specs.declared.context.PageError.TheVariants.{Missing, Busy}
use Rattle.task_events.specs.Contexts.{is_owned_by, is_expired, is_busy}
use Rattle.scroll_table.specs.Contexts.{answer_for}

abbrev missing : Result Context PageError
missing = Err Missing

abbrev busy : Result Context PageError
busy = Err Busy

told : (there used : Bool) (c found : Context) → cond there (cond used busy (Ok c)) missing ≡ Ok found → c ≡ found
told true true c found e = absurd (cc)
told true false c found e = cc
told false used c found e = absurd (cc)

pub there_to_use : (by : Option TaskId) (now : ℕ) (o : Option Context) (found : Context) → answer_for by now o ≡ Ok found → o ≡ Some found
there_to_use by now None found e = absurd (cc)
there_to_use by now (Some c) found e = ap Some (told (is_owned_by by c && not (is_expired now c)) (is_busy c) c found e)

pub one_there : (o : Option Context) (P : Context → Type 0) → IsSomeAnd o P → (c : Context) × (o ≡ Some c)
one_there None P h = absurd h
one_there (Some c) P h = (c, refl)
