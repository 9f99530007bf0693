use Rattle.std.proofs.Common.{◌≡◌, ◌∙◌, ◌+◌, List, ◌∷◌, length, ap, subst, inr}
use Rattle.task_events.specs.declared.event.Event.TheVariants.{Begin}
use Rattle.script_lang.specs.declared.command.Command.{Command}
use Rattle.world_steps.specs.Draining.{Empties, PartlyEmpties, StopsEmptying}
use Rattle.world_steps.specs.Scripts.{closing, PartlyDrains}
use Rattle.world_steps.proofs.Commanded.{carried, keeps_on, part_of_drain}
use Rattle.world_steps.proofs.AllAnswered.{all_answered}
use Rattle.world_moves.specs.Moves.{IsPartly, StopsMove}
use Rattle.world_moves.proofs.Outcomes.{stops_as}
use Rattle.world_steps.proofs.commands.drain.Goals as goal

pub returns-in-Ok-empty : goal.returns-in-Ok-empty
returns-in-Ok-empty c =
    let s = c.args.state.now in
    let begun : c.begin_and_refresh.new.state.history ≡ Begin (closing s.script.now) ∷ s.history = c.in-Ok.ensures.happened ∙ ap (λ (commands : List Command). Begin (length commands + 1) ∷ s.history) c.as_slice.ensures in
    let now = c.empty.new.state in
    let tied = c.in-Ok-empty.ensures.tied in
    let over = c.in-Ok-empty.ensures.over in
    record {
      drained = carried (λ cluster corpus script h. Empties cluster corpus script h now.history) _ _ _ _ _ _ _ _ c.in-Ok.ensures.keeps.cluster c.in-Ok.ensures.keeps.corpus c.in-Ok.ensures.keeps.script begun c.in-Ok-empty.ensures.emptied;
      over = over;
      answered = all_answered now.cluster now.history _ tied.ties.lawful tied.awaits tied.counts (c.drained_bans.ensures.all now.cluster now.history tied.ties.lawful over).1;
      tied = tied;
      known = c.in-Ok-empty.ensures.known;
      keeps = keeps_on c.in-Ok.ensures.keeps c.in-Ok-empty.ensures.keeps;
      part = tt;
      laws = c.in-Ok-empty.ensures.laws;
      stop = tt;
    }

pub returns-in-Err-empty : goal.returns-in-Err-empty
returns-in-Err-empty c =
    let s = c.args.state.now in
    let begun : c.begin_and_refresh.new.state.history ≡ Begin (closing s.script.now) ∷ s.history = c.in-Ok.ensures.happened ∙ ap (λ (commands : List Command). Begin (length commands + 1) ∷ s.history) c.as_slice.ensures in
    record {
      drained = tt;
      over = tt;
      answered = tt;
      tied = tt;
      known = tt;
      keeps = keeps_on c.in-Ok.ensures.keeps c.in-Err-empty.ensures.keeps;
      part = inr (carried (λ cluster corpus script h. PartlyEmpties cluster corpus script h c.empty.new.state.history) _ _ _ _ _ _ _ _ c.in-Ok.ensures.keeps.cluster c.in-Ok.ensures.keeps.corpus c.in-Ok.ensures.keeps.script begun c.in-Err-empty.ensures.part);
      laws = c.in-Err-empty.ensures.laws;
      stop = stops_as (PartlyEmpties s.cluster s.corpus.now s.script.now (Begin (closing s.script.now) ∷ s.history)) (PartlyDrains s.cluster s.corpus.now s.script.now s.history) _ _ c.empty.new.state.history c.in-Err-empty.stop
          (λ past part. inr part) (λ lacks. lacks)
          (carried (λ cluster corpus script h. StopsEmptying cluster corpus script h c.empty.new.state.history c.in-Err-empty.stop) _ _ _ _ _ _ _ _ c.in-Ok.ensures.keeps.cluster c.in-Ok.ensures.keeps.corpus c.in-Ok.ensures.keeps.script begun c.in-Err-empty.ensures.stop);
    }

pub returns-in-Err-clause-stop : goal.returns-in-Err-clause-stop
returns-in-Err-clause-stop c =
    let s = c.args.state.now in
    let number : length c.as_slice.result.now + 1 ≡ closing s.script.now = ap (λ (commands : List Command). length commands + 1) c.as_slice.ensures in
    let begins = subst (λ k. StopsMove (λ h new. new ≡ Begin k ∷ h) s.history c.begin_and_refresh.new.state.history c.in-Err.stop) number c.in-Err.ensures.stop in
    stops_as (IsPartly (λ h new. new ≡ Begin (closing s.script.now) ∷ h) s.history) (PartlyDrains s.cluster s.corpus.now s.script.now s.history) _ _ c.begin_and_refresh.new.state.history c.in-Err.stop
    (λ past part. part_of_drain s.cluster s.corpus.now s.script.now s.history past part) (λ never. absurd never) begins
