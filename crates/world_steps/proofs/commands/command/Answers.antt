use Rattle.std.proofs.Common.{◌∙◌, ◌-◌, ◌*◌, ◌≤◌, ap, sym, subst, inr, arith, ◌≡◌, ◌∷◌, length}
use Rattle.task_events.specs.Cancels.{last_command}
use Rattle.task_events.specs.Clock.{clock}
use Rattle.script_lang.specs.KeepAlives.{day_ms}
use Rattle.world_steps.specs.Scripts.{Does, PartlyDoes, PartlyCommands, CanDo, StopsDoing}
use Rattle.world_steps.proofs.Commanded.{part_of_begin, partly_begun, at_number, can_do, carried, day_more, from_get_or, keeps_on}
use Rattle.task_events.specs.declared.event.Event.TheVariants.{Begin}
use Rattle.world_moves.specs.Moves.{IsPartly}
use Rattle.world_moves.proofs.Outcomes.{stops_as}
use Rattle.world_steps.proofs.commands.command.Goals as goal

pub returns-in-Err : goal.returns-in-Err
returns-in-Err c =
    let s = c.args.state.now in
    record {
      done = tt;
      tied = tt;
      known = tt;
      keeps = c.in-Err.ensures.keeps;
      part = partly_begun s.cluster s.corpus.now s.script.now c.args.k (omega (arith, c.requires.next)) c.requires.there s.history c.begin_and_refresh.new.state.history c.in-Err.ensures.part;
      laws = c.in-Err.ensures.laws;
      stop = stops_as (IsPartly (λ x y. y ≡ Begin c.args.k ∷ x) s.history) (PartlyCommands s.cluster s.corpus.now s.script.now c.args.k s.history) _ _ c.begin_and_refresh.new.state.history c.in-Err.stop
          (λ past part. partly_begun s.cluster s.corpus.now s.script.now c.args.k (omega (arith, c.requires.next)) c.requires.there s.history past (part_of_begin c.args.k s.history past part)) (λ never. absurd never) c.in-Err.ensures.stop;
    }

pub act_on-requires-clause-there : goal.act_on-requires-clause-there
act_on-requires-clause-there c =
    let found = c.in-Some.ensures.lookup.3 in
    let at = from_get_or c.as_slice.result.now (c.args.k - 1) c.in-Some.command.now found.0 found.1 in
    at_number c.begin_and_refresh.new.state.script.now c.args.k c.in-Some.command.now (omega (arith, c.requires.next)) (rw c.as_slice.ensures at at)

pub act_on-requires-clause-can : goal.act_on-requires-clause-can
act_on-requires-clause-can c =
    let s = c.args.state.now in
    let found = c.in-Some.ensures.lookup.3 in
    let at = from_get_or c.as_slice.result.now (c.args.k - 1) c.in-Some.command.now found.0 found.1 in
    let there = rw (c.as_slice.ensures ∙ ap (λ script. script.commands) c.in-Ok.ensures.keeps.script) at at in
    subst (λ cluster. CanDo cluster.nodes c.in-Some.command.now) (sym c.in-Ok.ensures.keeps.cluster) (can_do s.cluster.nodes s.script.now.commands c.requires.can (c.args.k - 1) c.in-Some.command.now there)

pub returns-in-Ok-act_on : goal.returns-in-Ok-act_on
returns-in-Ok-act_on c =
    let s = c.args.state.now in
    let found = c.in-Some.ensures.lookup.3 in
    let at = from_get_or c.as_slice.result.now (c.args.k - 1) c.in-Some.command.now found.0 found.1 in
    let there = rw (c.as_slice.ensures ∙ ap (λ script. script.commands) c.in-Ok.ensures.keeps.script) at at in
    let known = at_number s.script.now c.args.k c.in-Some.command.now (omega (arith, c.requires.next)) there in
    record {
      done = (
        c.in-Some.command.now,
        known,
        carried (λ cluster corpus script h. Does cluster corpus script c.args.k c.in-Some.command.now h c.act_on.new.state.history) _ _ _ _ _ _ _ _
            c.in-Ok.ensures.keeps.cluster c.in-Ok.ensures.keeps.corpus c.in-Ok.ensures.keeps.script c.in-Ok.ensures.happened c.in-Ok-act_on.ensures.done,
      );
      tied = c.in-Ok-act_on.ensures.tied;
      known = c.in-Ok-act_on.ensures.known;
      keeps = keeps_on c.in-Ok.ensures.keeps c.in-Ok-act_on.ensures.keeps;
      part = tt;
      laws = c.in-Ok-act_on.ensures.laws;
      stop = tt;
    }

pub returns-in-Err-act_on : goal.returns-in-Err-act_on
returns-in-Err-act_on c =
    let s = c.args.state.now in
    let found = c.in-Some.ensures.lookup.3 in
    let at = from_get_or c.as_slice.result.now (c.args.k - 1) c.in-Some.command.now found.0 found.1 in
    let there = rw (c.as_slice.ensures ∙ ap (λ script. script.commands) c.in-Ok.ensures.keeps.script) at at in
    let known = at_number s.script.now c.args.k c.in-Some.command.now (omega (arith, c.requires.next)) there in
    record {
      done = tt;
      tied = tt;
      known = tt;
      keeps = keeps_on c.in-Ok.ensures.keeps c.in-Err-act_on.ensures.keeps;
      part = inr (
        c.in-Some.command.now,
        known,
        carried (λ cluster corpus script h. PartlyDoes cluster corpus script c.args.k c.in-Some.command.now h c.act_on.new.state.history) _ _ _ _ _ _ _ _
            c.in-Ok.ensures.keeps.cluster c.in-Ok.ensures.keeps.corpus c.in-Ok.ensures.keeps.script c.in-Ok.ensures.happened c.in-Err-act_on.ensures.part,
      );
      laws = c.in-Err-act_on.ensures.laws;
      stop = stops_as (PartlyDoes s.cluster s.corpus.now s.script.now c.args.k c.in-Some.command.now (Begin c.args.k ∷ s.history)) (PartlyCommands s.cluster s.corpus.now s.script.now c.args.k s.history) _ _ c.act_on.new.state.history c.in-Err-act_on.stop
          (λ past part. inr (c.in-Some.command.now, known, part)) (λ lacks. (c.in-Some.command.now, known, lacks))
          (carried (λ cluster corpus script h. StopsDoing cluster corpus script c.args.k c.in-Some.command.now h c.act_on.new.state.history c.in-Err-act_on.stop) _ _ _ _ _ _ _ _
          c.in-Ok.ensures.keeps.cluster c.in-Ok.ensures.keeps.corpus c.in-Ok.ensures.keeps.script c.in-Ok.ensures.happened c.in-Err-act_on.ensures.stop);
    }

pub act_on-requires-clause-low : goal.act_on-requires-clause-low
act_on-requires-clause-low c =
    let s = c.args.state.now in
    let tells = c.requires.tied.tells in
    let before : last_command s.history ≤ length s.script.now.commands = omega (arith, c.requires.next, c.requires.there) in
    let so_far = tells.clock_low before in
    let low : clock s.history ≤ last_command s.history * day_ms = omega (arith, tells.clock_is, so_far) in
    rw c.in-Ok.ensures.happened (day_more (last_command s.history) c.args.k (clock s.history) c.requires.next low)
