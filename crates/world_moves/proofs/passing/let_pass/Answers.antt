use Rattle.std.proofs.Common.{◌∙◌, false, Some, refl, ap, sym}
use Rattle.std.specs.Option.{option_copied_mut}
use Rattle.corpus_shards.proofs.Cases.{some_of}
use Rattle.world_moves.specs.Ties.{task_at}
use Rattle.world_moves.proofs.PassesNow.{once_passed}
use Rattle.world_moves.proofs.passing.let_pass.Goals as goal

pub returns-in-Some-work : goal.returns-in-Some-work
returns-in-Some-work c =
    let r = c.get_mut-running.result.now in
    let w = record r { work = c.in-Some-work.work; is_new = false } in
    let was = sym c.get_mut.ensures.value ∙ ap option_copied_mut c.in-Some.is ∙ ap Some (sym c.get_mut-running.ensures.value) in
    let changed = ((c.get_mut.follows.holds w).3 (some_of _ _ was)).0 in
    once_passed c.args.task c.args.work r w (task_at c.args.tasks.now) _ was (rw c.in-Some-work.is refl) changed
