-- The task has taken a turn over the shard of its work, and no other shard has changed.
use Rattle.std.proofs.Common.{◌≡◌, ◌<◌, Some, refl, sym, ap, ◌∙◌, subst}
use Rattle.std.specs.Prelude.{vec_len, IfOk}
use Rattle.std.specs.List.{position_or_len}
use Rattle.task_ids.specs.declared.task_id.TaskId.{TaskId}
use Rattle.held_shards.specs.Held.{is_row, with_shard}
use Rattle.live_tasks.specs.declared.entry.Entry.{Entry}
use Rattle.live_tasks.specs.Live.{entry_at}
use Rattle.entry_facts.proofs.Cores.{shards_same}
use Rattle.data_core.specs.Steps.{Works}
use Rattle.data_core.proofs.Stepping.{found_is, its_id}
use Rattle.data_core.proofs.Working.{turn_at, turns_there, turned_sound, broken_sound, placed_sound, turned_here, works_so}
use Rattle.data_core.proofs.WorkingOn.{broken_stays, turned_stays}
use Rattle.data_core.proofs.step.work_on.Goals as goal

pub get_mut-requires : goal.get_mut-requires
get_mut-requires g c =
    let held = c.place-2.new.self in
    let place = subst (λ r. IfOk r (λ n. (n ≡ position_or_len (is_row c.as_str.result.now c.in-Some-place.shard) held.rows.items) × (n < vec_len held.rows))) c.in_ok-place.ensures.ok c.place-2.ensures.place in
    place.1

pub turn-requires-clause-next : goal.turn-requires-clause-next
turn-requires-clause-next g c =
    let old = c.args.core.now in
    let held = c.place-2.new.self in
    let p = c.in_ok-place.place in
    let x = c.in-Some.entry.now in
    let s = c.get_mut.result.now in
    let turn = turn_at old held p s x _ c.as_str.result.now c.in-Some-place.shard c.place-2.result c.in-Some-place.ensures (c.as_str.ensures ∙ c.get-2.ensures) c.place-2.ensures.same c.place-2.ensures.numbers c.place-2.ensures.place c.in_ok-place.ensures.ok c.get_mut.ensures.value in
    turns_there old held p s x turn (entry_at old.live c.args.task.number) (sym c.in-Some.ensures) c.requires.turns

pub returns-in_err-place-clause-sound : goal.returns-in_err-place-clause-sound
returns-in_err-place-clause-sound g c = placed_sound _ _ _ _ _ c.args.core.now c.place-2.new.self c.requires.sound c.place-2.ensures.same

pub returns-in_err-notes-clause-sound : goal.returns-in_err-notes-clause-sound
returns-in_err-notes-clause-sound g c =
    let old = c.args.core.now in
    let held = c.place-2.new.self in
    let p = c.in_ok-place.place in
    let x = c.in-Some.entry.now in
    let s = c.get_mut.result.now in
    let turn = turn_at old held p s x _ c.as_str.result.now c.in-Some-place.shard c.place-2.result c.in-Some-place.ensures (c.as_str.ensures ∙ c.get-2.ensures) c.place-2.ensures.same c.place-2.ensures.numbers c.place-2.ensures.place c.in_ok-place.ensures.ok c.get_mut.ensures.value in
    let live = c.turn.new.self in
    let left = c.turn.new.shard in
    let is = sym c.in-Some.ensures in
    let turned = c.in_err-notes.ensures.turned x is in
    broken_sound old held p s x turn left turned.0 _ _ _ _ _ c.requires.sound live c.args.task.number is c.turn.ensures.together c.turn.ensures.core turned.1 turned.3

pub returns-in_err-place-clause-of_run : goal.returns-in_err-place-clause-of_run
returns-in_err-place-clause-of_run g c =
    let old = c.args.core.now in
    shards_same g.W.Run.setting old.cluster.shards old.shards old.live c.requires.of_run c.place-2.new.self c.place-2.ensures.same c.place-2.ensures.numbers

pub returns-in_err-notes-clause-of_run : goal.returns-in_err-notes-clause-of_run
returns-in_err-notes-clause-of_run g c =
    let old = c.args.core.now in
    let held = c.place-2.new.self in
    let p = c.in_ok-place.place in
    let x = c.in-Some.entry.now in
    let s = c.get_mut.result.now in
    let turn = turn_at old held p s x _ c.as_str.result.now c.in-Some-place.shard c.place-2.result c.in-Some-place.ensures (c.as_str.ensures ∙ c.get-2.ensures) c.place-2.ensures.same c.place-2.ensures.numbers c.place-2.ensures.place c.in_ok-place.ensures.ok c.get_mut.ensures.value in
    let live = c.turn.new.self in
    let left = c.turn.new.shard in
    let is = sym c.in-Some.ensures in
    let turned = c.in_err-notes.ensures.turned x is in
    broken_stays g.W.Run.setting old c.requires.of_run held p s x turn left turned.0 live c.args.task.number is turned.1 turned.3

pub returns-clause-of_run : goal.returns-clause-of_run
returns-clause-of_run g c =
    let old = c.args.core.now in
    let held = c.place-2.new.self in
    let p = c.in_ok-place.place in
    let x = c.in-Some.entry.now in
    let s = c.get_mut.result.now in
    let turn = turn_at old held p s x _ c.as_str.result.now c.in-Some-place.shard c.place-2.result c.in-Some-place.ensures (c.as_str.ensures ∙ c.get-2.ensures) c.place-2.ensures.same c.place-2.ensures.numbers c.place-2.ensures.place c.in_ok-place.ensures.ok c.get_mut.ensures.value in
    let live = c.turn.new.self in
    let left = c.turn.new.shard in
    let is = sym c.in-Some.ensures in
    let turned = c.in_ok-notes.ensures.turned x is in
    turned_stays g.W.Run.setting old c.requires.of_run held p s x turn left turned.0 live c.args.task.number is turned.1 turned.2

pub returns-in_err-notes-clause-own : goal.returns-in_err-notes-clause-own
returns-in_err-notes-clause-own g c = record { node = refl; worker = refl; cluster = refl; pool = refl; numbers = c.place-2.ensures.numbers; core = c.turn.ensures.core }

pub returns-clause-sound : goal.returns-clause-sound
returns-clause-sound g c =
    let old = c.args.core.now in
    let held = c.place-2.new.self in
    let p = c.in_ok-place.place in
    let x = c.in-Some.entry.now in
    let s = c.get_mut.result.now in
    let turn = turn_at old held p s x _ c.as_str.result.now c.in-Some-place.shard c.place-2.result c.in-Some-place.ensures (c.as_str.ensures ∙ c.get-2.ensures) c.place-2.ensures.same c.place-2.ensures.numbers c.place-2.ensures.place c.in_ok-place.ensures.ok c.get_mut.ensures.value in
    let live = c.turn.new.self in
    let left = c.turn.new.shard in
    let is = sym c.in-Some.ensures in
    let turned = c.in_ok-notes.ensures.turned x is in
    turned_sound old held p s x turn left turned.0 _ _ _ _ _ c.requires.sound live c.args.task.number is c.turn.ensures.together c.turn.ensures.core turned.1 turned.2

pub returns-clause-own : goal.returns-clause-own
returns-clause-own g c = record { node = refl; worker = refl; cluster = refl; pool = refl; numbers = c.place-2.ensures.numbers; core = c.turn.ensures.core }

pub returns-clause-works : goal.returns-clause-works
returns-clause-works g c = λ e at.
    let old = c.args.core.now in
    let held = c.place-2.new.self in
    let p = c.in_ok-place.place in
    let x = c.in-Some.entry.now in
    let s = c.get_mut.result.now in
    let turn = turn_at old held p s x _ c.as_str.result.now c.in-Some-place.shard c.place-2.result c.in-Some-place.ensures (c.as_str.ensures ∙ c.get-2.ensures) c.place-2.ensures.same c.place-2.ensures.numbers c.place-2.ensures.place c.in_ok-place.ensures.ok c.get_mut.ensures.value in
    let live = c.turn.new.self in
    let left = c.turn.new.shard in
    let is = sym c.in-Some.ensures in
    let turned = c.in_ok-notes.ensures.turned x is in
    let same = found_is _ x e c.in-Some.ensures at in
    let id = its_id c.args.task _ x c.requires.live is in
    let after = with_shard held p left in
    let new = record old { live = live; shards = after } in
    let b = c.args.board.now in
    let given = Some c.new.result.items in
    subst (λ (y : Entry). Works g.B.DataBoard.rests y b old given new b) (sym same)
    (works_so g.B.DataBoard.rests x b old live after c.args.task.number turned.0 given (ap Some c.new.ensures.items) (sym (ap (λ (t : TaskId). t.number) id)) turned.1 (turned_here old held p s x turn left turned.0 turned.2))
