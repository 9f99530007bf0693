use Rattle.std.proofs.Common.{rules, ◌≡◌, ◌∙◌, ◌∷◌, length, Some, refl, ap, sym, subst}
use Rattle.std.specs.Prelude.{OnSome, OnOk, OnErr}
use Rattle.task_ids.specs.declared.task_id.TaskId.{TaskId}
use Rattle.task_work.specs.Works.{place_of}
use Rattle.task_events.specs.declared.event.Event.TheVariants.{Work}
use Rattle.task_events.specs.declared.history.TheConstants.{MAX_EVENTS}
use Rattle.task_events.specs.Written.{with_notes}
use Rattle.shard_docs.specs.ShardView.{ShardView, has_dead}
use Rattle.corpus_shards.specs.Stored.{AllNoted, Replaces, is_noted}
use Rattle.corpus_shards.proofs.Cases.{some_of, then_ok, then_err}
use Rattle.corpus_shards.proofs.Notes.{made_noted, noted_after}
use Rattle.world_moves.specs.declared.state.State.{State}
use Rattle.world_moves.specs.Good.{so_far}
use Rattle.world_moves.specs.Moves.{IsPartOf, IsCutShort}
use Rattle.world_moves.specs.Ties.{IsTied, task_at, turned_in}
use Rattle.world_moves.proofs.KeptTasks.{at_changed, off_changed}
use Rattle.world_moves.proofs.NoteParts.{turn_unbegun, turn_misses}
use Rattle.world_moves.proofs.Parts.{part_lawful, part_plain, part_alone}
use Rattle.world_moves.proofs.TurnTies.{placed, shard_there, works_on, turns_over, noted_is, turn_tied}
use Rattle.world_moves.proofs.turns.turn.Goals as goal
use Rattle.command_roots.specs.Roots.{scripted}

pub unreachable-requires-in_default-place : goal.unreachable-requires-in_default-place
unreachable-requires-in_default-place c =
    placed c.args.state.now c.requires.tied c.args.task c.get_mut-running.result.now c.requires.live c.requires.passed c.requires.unmarked (sym c.in-Some.ensures.value ∙ ap Some (sym c.get_mut-running.ensures.value)) c.requires.next (sym c.in_default-place.ensures)

-- nothing has come yet
unbegun : (s : State) (t : TaskId) → IsPartOf s.history s.history (turned_in s t)
unbegun s t = turn_unbegun s.cluster s.corpus.now (scripted s.script.now) t s.history

-- the history was full from the start
pub returns-then-len-eq-MAX_EVENTS-clause-part : goal.returns-then-len-eq-MAX_EVENTS-clause-part
returns-then-len-eq-MAX_EVENTS-clause-part c = unbegun c.args.state.now c.args.task

pub returns-then-len-eq-MAX_EVENTS-clause-full : goal.returns-then-len-eq-MAX_EVENTS-clause-full
returns-then-len-eq-MAX_EVENTS-clause-full c = λ failed.
    let s = c.args.state.now in
    let full : length s.history ≡ MAX_EVENTS = search rules in
    turn_misses s.cluster s.corpus.now (scripted s.script.now) c.args.task s.history full

-- memory ran out before
pub returns-in_default-copy-clause-part : goal.returns-in_default-copy-clause-part
returns-in_default-copy-clause-part c = unbegun c.args.state.now c.args.task

pub returns-in_default-make-clause-part : goal.returns-in_default-make-clause-part
returns-in_default-make-clause-part c = unbegun c.args.state.now c.args.task

pub returns-in_default-turn-clause-part : goal.returns-in_default-turn-clause-part
returns-in_default-turn-clause-part c = unbegun c.args.state.now c.args.task

pub get_mut-requires-2 : goal.get_mut-requires-2
get_mut-requires-2 c =
    let s = c.args.state.now in
    let name : c.as_str-2.result.now ≡ c.in-Some-place.index.now = c.as_str-2.ensures ∙ c.get-2.ensures ∙ c.in-Ok.ensures in
    let place : place_of c.get_mut-running.result.now.work ≡ Some (c.as_str-2.result.now, c.in-Some-place.number) = sym c.in-Some-place.ensures ∙ ap (λ index. Some (index, c.in-Some-place.number)) (sym name) in
    let has = c.in-Ok-make.ensures.written (so_far s.corpus.now s.script.now s.history) s.cluster.shards c.requires.tied.oldest c.requires.tied.shards.has in
    shard_there c.args.state.now c.requires.tied c.args.task c.get_mut-running.result.now c.requires.live c.requires.passed c.requires.unmarked (sym c.in-Some.ensures.value ∙ ap Some (sym c.get_mut-running.ensures.value)) c.requires.next c.as_str-2.result.now c.in-Some-place.number place c.make.new.self c.make.new.self has

pub returns-in_default-note_dead-clause-part : goal.returns-in_default-note_dead-clause-part
returns-in_default-note_dead-clause-part c = unbegun c.args.state.now c.args.task

pub turn-requires : goal.turn-requires
turn-requires c =
    let s = c.args.state.now in
    let name : c.as_str-2.result.now ≡ c.in-Some-place.index.now = c.as_str-2.ensures ∙ c.get-2.ensures ∙ c.in-Ok.ensures in
    let place : place_of c.get_mut-running.result.now.work ≡ Some (c.as_str-2.result.now, c.in-Some-place.number) = sym c.in-Some-place.ensures ∙ ap (λ index. Some (index, c.in-Some-place.number)) (sym name) in
    let has = c.in-Ok-make.ensures.written (so_far s.corpus.now s.script.now s.history) s.cluster.shards c.requires.tied.oldest c.requires.tied.shards.has in
    turns_over c.args.state.now c.requires.tied c.args.task c.get_mut-running.result.now c.requires.live c.requires.passed c.requires.unmarked (sym c.in-Some.ensures.value ∙ ap Some (sym c.get_mut-running.ensures.value)) c.requires.next c.as_str-2.result.now c.in-Some-place.number place c.make.new.self c.make.new.self has c.in-Some-get_mut.shard.now.writes (ap (λ (v : ShardView). v.writes) c.in-Some-get_mut.ensures.shard)

-- the notes are those of the turn
noted : (c : goal.After-drop-notes-2) → turned_in c.args.state.now c.args.task ≡ with_notes c.as_slice.result.now (Work c.args.task ∷ c.args.state.now.history)
noted c =
    let s = c.args.state.now in
    let name : c.as_str-2.result.now ≡ c.in-Some-place.index.now = c.as_str-2.ensures ∙ c.get-2.ensures ∙ c.in-Ok.ensures in
    let place : place_of c.get_mut-running.result.now.work ≡ Some (c.as_str-2.result.now, c.in-Some-place.number) = sym c.in-Some-place.ensures ∙ ap (λ index. Some (index, c.in-Some-place.number)) (sym name) in
    let has = c.in-Ok-make.ensures.written (so_far s.corpus.now s.script.now s.history) s.cluster.shards c.requires.tied.oldest c.requires.tied.shards.has in
    noted_is c.args.state.now c.requires.tied c.args.task c.get_mut-running.result.now c.requires.live c.requires.passed c.requires.unmarked (sym c.in-Some.ensures.value ∙ ap Some (sym c.get_mut-running.ensures.value)) c.requires.next c.as_str-2.result.now c.in-Some-place.number place c.make.new.self c.make.new.self has c.in-Some-get_mut.shard.now.writes (ap (λ (v : ShardView). v.writes) c.in-Some-get_mut.ensures.shard)
    c.as_slice.result.now (c.as_slice.ensures.value ∙ c.in-Ok-turn.ensures.notes)

-- each shard is noted in which rows have died
all_noted : (c : goal.After-drop-notes-2) → AllNoted c.note_dead.new.shards
all_noted c =
    let s = c.args.state.now in
    let old = c.make.new.self in
    let old_noted : AllNoted old = made_noted s.shards old c.make.ensures.same c.make.ensures.stale c.requires.tied.shards.noted in
    let replaces = subst (λ o. OnSome o (Replaces c.as_str-2.result.now c.in-Some-place.number c.turn.new.shard c.make.new.self (c.get_mut-2.follows.lender c.turn.new.shard))) c.in-Some-get_mut.is (c.get_mut-2.follows.holds c.turn.new.shard) in
    noted_after old (c.get_mut-2.follows.lender c.turn.new.shard) c.note_dead.new.shards c.as_str-2.result.now c.in-Some-place.number c.turn.new.shard c.has_dead-had_dead.result c.has_dead-has_dead.result
    old_noted replaces c.note_dead.ensures.as_new (c.has_dead-had_dead.ensures ∙ ap has_dead c.in-Some-get_mut.ensures.shard) c.has_dead-has_dead.ensures
    (λ had has. ap (λ i. is_noted c.note_dead.new.shards i c.in-Some-place.number) (c.as_str-2.ensures ∙ c.get-2.ensures) ∙ c.in-Ok-note_dead.ensures.noted had has)

-- and the tables fit the past after all of it
tied_then : (c : goal.After-drop-notes-2) → IsTied (record c.args.state.now {
  shards = c.note_dead.new.shards;
  history = turned_in c.args.state.now c.args.task;
  tasks = c.get_mut.follows.lender (record c.get_mut-running.result.now { work = c.turn.new.self });
})
tied_then c =
    let s = c.args.state.now in
    let w = record c.get_mut-running.result.now { work = c.turn.new.self } in
    let changed = ((c.get_mut.follows.holds w).3 (some_of _ _ (sym c.in-Some.ensures.value ∙ ap Some (sym c.get_mut-running.ensures.value)))).0 in
    let name : c.as_str-2.result.now ≡ c.in-Some-place.index.now = c.as_str-2.ensures ∙ c.get-2.ensures ∙ c.in-Ok.ensures in
    let place : place_of c.get_mut-running.result.now.work ≡ Some (c.as_str-2.result.now, c.in-Some-place.number) = sym c.in-Some-place.ensures ∙ ap (λ index. Some (index, c.in-Some-place.number)) (sym name) in
    let has = c.in-Ok-make.ensures.written (so_far s.corpus.now s.script.now s.history) s.cluster.shards c.requires.tied.oldest c.requires.tied.shards.has in
    let was_on = works_on c.args.state.now c.requires.tied c.args.task c.get_mut-running.result.now c.requires.live c.requires.passed c.requires.unmarked (sym c.in-Some.ensures.value ∙ ap Some (sym c.get_mut-running.ensures.value)) c.requires.next c.as_str-2.result.now c.in-Some-place.number place c.make.new.self c.make.new.self has c.in-Some-get_mut.shard.now.writes (ap (λ (v : ShardView). v.writes) c.in-Some-get_mut.ensures.shard) in
    turn_tied c.args.state.now c.requires.tied c.args.task c.get_mut-running.result.now c.requires.live c.requires.passed c.requires.unmarked (sym c.in-Some.ensures.value ∙ ap Some (sym c.get_mut-running.ensures.value)) c.requires.next c.as_str-2.result.now c.in-Some-place.number place c.make.new.self (c.get_mut-2.follows.lender c.turn.new.shard) has c.in-Some-get_mut.shard.now.writes (ap (λ (v : ShardView). v.writes) c.in-Some-get_mut.ensures.shard)
    c.turn.new.self c.turn.new.shard (c.in-Ok-turn.ensures.ok was_on) c.in-Ok-turn.ensures.written (c.turn.ensures.oldest ∙ ap (λ (v : ShardView). v.oldest) c.in-Some-get_mut.ensures.shard) (search rules) (subst (λ o. OnSome o (Replaces c.as_str-2.result.now c.in-Some-place.number c.turn.new.shard c.make.new.self (c.get_mut-2.follows.lender c.turn.new.shard))) c.in-Some-get_mut.is (c.get_mut-2.follows.holds c.turn.new.shard)) c.make.ensures.from_start c.note_dead.new.shards c.note_dead.ensures.as_new (all_noted c) (c.get_mut.follows.lender w)
    (at_changed c.args.task (Some w) (task_at s.tasks) _ changed) (off_changed c.args.task (Some w) (task_at s.tasks) _ changed)

pub returns-clause-tied : goal.returns-clause-tied
returns-clause-tied c =
    let s = c.args.state.now in
    then_ok c.note_turn.result _ _ c.note_turn.ensures.happened (λ happened. subst (λ past. IsTied (record s {
      shards = c.note_dead.new.shards;
      history = past;
      tasks = c.get_mut.follows.lender (record c.get_mut-running.result.now { work = c.turn.new.self });
    })) (noted c ∙ sym happened) (tied_then c))

pub returns-clause-happened : goal.returns-clause-happened
returns-clause-happened c = subst (λ past. OnOk c.note_turn.result (c.note_turn.new.history ≡ past)) (sym (noted c)) c.note_turn.ensures.happened

pub returns-clause-part : goal.returns-clause-part
returns-clause-part c = subst (λ past. OnErr c.note_turn.result (IsPartOf c.args.state.now.history c.note_turn.new.history past)) (sym (noted c)) c.note_turn.ensures.part

pub returns-clause-laws : goal.returns-clause-laws
returns-clause-laws c =
    let s = c.args.state.now in
    let after = tied_then c in
    then_err c.note_turn.result _ _ c.note_turn.ensures.part (λ part.
    let first = subst (IsPartOf s.history c.note_turn.new.history) (sym (noted c)) part in
    record {
      lawful = part_lawful s.cluster s.corpus.now s.script.now s.history c.note_turn.new.history (turned_in s c.args.task) first after.ties.lawful;
      plain = part_plain s.cluster s.corpus.now s.script.now s.history c.note_turn.new.history (turned_in s c.args.task) first after.ties.plain;
      alone = part_alone (scripted s.script.now) s.history c.note_turn.new.history (turned_in s c.args.task) first after.pages.alone;
    })

pub returns-clause-full : goal.returns-clause-full
returns-clause-full c = λ failed. subst (λ past. IsCutShort (λ new. IsPartOf c.args.state.now.history new past) c.note_turn.new.history) (sym (noted c)) (c.note_turn.ensures.full failed)
