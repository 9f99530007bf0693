use Rattle.std.proofs.Common.{◌≡◌, ◌∙◌, [], ap, sym, subst, arith, length}
use Rattle.std.specs.BTreeSet.{contains}
use Rattle.std.specs.Option.{option_copied}
use Rattle.task_ids.specs.TaskIdOrder.{task_id_cmp}
use Rattle.world_moves.proofs.ByPlace.{event_from_oldest}
use Rattle.world_steps.specs.Alarms.{alarm_at}
use Rattle.world_steps.specs.Draining.{due_of}
use Rattle.world_steps.specs.Results.{KnowsResults}
use Rattle.world_steps.specs.World.{alarm_in, is_ready, past_of, ready_in}
use Rattle.world_steps.proofs.Readiness.{none_noted, one_noted, other_noted, all_noted, next_past, past_before}
use Rattle.world_steps.proofs.ready.note_events.Goals as goal
use Rattle.world_steps.proofs.ready.note_events.Goals.{in-Some-task_of+in_ok-note_ready+in_ok-note_alarm, in_default-task_of}

pub loop-at-init : goal.loop-at-init
loop-at-init c =
    let s = c.args.state.now in
    let before = past_of c.args.before s.history in
    record {
      tasks = none_noted (ready_in s) (is_ready s.cluster s.corpus.now s.script.now before) c.args.before s.history (contains task_id_cmp c.args.ready.now.tasks) c.requires.had.tasks;
      kept = c.requires.had.kept;
      alarms = none_noted (alarm_in s) (λ t. due_of s.cluster s.corpus.now s.script.now t before) c.args.before s.history (alarm_at c.args.ready.now.alarms) c.requires.had.alarms;
      results = c.requires.had.results;
    }

pub note_result-requires-clause-event : goal.note_result-requires-clause-event
note_result-requires-clause-event c =
    let s = c.args.state.now in
    let here = event_from_oldest c.loop-at.at s.history ∙ sym c.get.ensures ∙ ap option_copied c.in-Some.is in
    next_past c.loop-at.at s.history c.in-Some.event.now here

pub loop-at-preserved : goal.loop-at-preserved
loop-at-preserved c =
    let s = c.args.state.now in
    let before = past_of c.args.before s.history in
    let here = event_from_oldest c.loop-at.at s.history ∙ sym c.get.ensures ∙ ap option_copied c.in-Some.is in
    elim c.match-task_of.branch [
      | in-Some-task_of+in_ok-note_ready+in_ok-note_alarm w ↦
          let about = sym c.task_of.ensures ∙ w.in-Some-task_of.is in
          rw w.ready-is (record {
            tasks = one_noted (ready_in s) (is_ready s.cluster s.corpus.now s.script.now before) c.args.before s.history c.loop-at.at c.in-Some.event.now w.in-Some-task_of.task (contains task_id_cmp c.loop-at.ready.tasks) _ c.loop-at.auto.at here about w.in_ok-note_ready.ensures.known c.loop-at.invariant.tasks;
            kept = w.note_alarm.ensures.kept;
            alarms = one_noted (alarm_in s) (λ t. due_of s.cluster s.corpus.now s.script.now t before) c.args.before s.history c.loop-at.at c.in-Some.event.now w.in-Some-task_of.task (alarm_at c.loop-at.ready.alarms) _ c.loop-at.auto.at here about w.in_ok-note_alarm.ensures.known c.loop-at.invariant.alarms;
            results = c.in_ok-note_result.ensures.known;
          })
      | in_default-task_of w ↦
          let about = sym c.task_of.ensures ∙ w.in_default-task_of.is in
          rw w.ready-is (record {
            tasks = other_noted (ready_in s) (is_ready s.cluster s.corpus.now s.script.now before) c.args.before s.history c.loop-at.at c.in-Some.event.now (contains task_id_cmp c.loop-at.ready.tasks) c.loop-at.auto.at here about c.loop-at.invariant.tasks;
            kept = c.loop-at.invariant.kept;
            alarms = other_noted (alarm_in s) (λ t. due_of s.cluster s.corpus.now s.script.now t before) c.args.before s.history c.loop-at.at c.in-Some.event.now (alarm_at c.loop-at.ready.alarms) c.loop-at.auto.at here about c.loop-at.invariant.alarms;
            results = c.in_ok-note_result.ensures.known;
          })
    ]

pub returns-clause-noted : goal.returns-clause-noted
returns-clause-noted c =
    let s = c.args.state.now in
    let before = past_of c.args.before s.history in
    let low = c.requires.before in
    let last = c.loop-at-test.false in
    let within = c.loop-at.auto.at-end (omega (arith, low, c.len-at-end.ensures)) in
    let all : c.loop-at.at ≡ length s.history = omega (arith, last, within, c.len-at-end.ensures) in
    record {
      tasks = all_noted (ready_in s) (is_ready s.cluster s.corpus.now s.script.now before) c.args.before s.history c.loop-at.at (contains task_id_cmp c.loop-at.ready.tasks) all c.loop-at.invariant.tasks;
      kept = c.loop-at.invariant.kept;
      alarms = all_noted (alarm_in s) (λ t. due_of s.cluster s.corpus.now s.script.now t before) c.args.before s.history c.loop-at.at (alarm_at c.loop-at.ready.alarms) all c.loop-at.invariant.alarms;
      results = subst (λ g. KnowsResults s.script.now g c.loop-at.ready.results) (ap (λ n. past_of n s.history) all ∙ past_before [] s.history) c.loop-at.invariant.results;
    }
