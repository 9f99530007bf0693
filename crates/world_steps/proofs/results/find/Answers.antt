use Rattle.std.proofs.Common.{◌≡◌, ◌∙◌, Bool, true, false, cond, List, Some, ap, sym, refl}
use Rattle.std.specs.Prelude.{is_some}
use Rattle.task_ids.specs.declared.task_id.TaskId.{TaskId}
use Rattle.task_events.specs.declared.event.Event.{Event}
use Rattle.task_events.specs.Tasks.{is_live}
use Rattle.script_lang.specs.declared.command.Script.{Script}
use Rattle.command_roots.specs.declared.results.TaskFound.TheVariants.{Live, Ended, Missing}
use Rattle.command_roots.specs.Results.{found_at, has_result}
use Rattle.world_moves.proofs.Lent.{copied_alike}
use Rattle.world_moves.proofs.StepsAfter.{kept_where_live}
use Rattle.world_steps.proofs.ResultsFollow.{table_has}
use Rattle.world_steps.proofs.results.find.Goals as goal

-- what is found of a task, by whether it is live and has a result
found_by : (script : Script) (t : TaskId) (h : List Event) (live has : Bool) → is_live t h ≡ live → has_result script (Some t) h ≡ has → cond live (Live t) (cond has (Ended t) (Missing (Some t))) ≡ found_at script (Some t) h
found_by script t h live has lives stands = sym (ap (λ b. cond b (Live t) (cond (has_result script (Some t) h) (Ended t) (Missing (Some t)))) lives ∙ ap (λ b. cond live (Live t) (cond b (Ended t) (Missing (Some t)))) stands)

pub returns-in_default : goal.returns-in_default
returns-in_default c =
    let s = c.args.state.now in
    ap (λ o. found_at s.script.now o s.history) (sym c.in_default.is ∙ c.named.ensures s.history c.requires.known.roots)

pub returns-then-is_some : goal.returns-then-is_some
returns-then-is_some c =
    let s = c.args.state.now in
    let t = c.in-Some.task in
    let lives = sym (kept_where_live s.cluster s.corpus.now s.script.now s.history _ _ _ c.requires.tied.ties t) ∙ ap is_some (sym c.get.ensures.value) ∙ copied_alike c.get.result ∙ sym c.is_some.ensures ∙ c.if-is_some.true in
    found_by s.script.now t s.history true (has_result s.script.now (Some t) s.history) lives refl
    ∙ ap (λ o. found_at s.script.now o s.history) (sym c.in-Some.is ∙ c.named.ensures s.history c.requires.known.roots)

pub returns-then-is_some-2 : goal.returns-then-is_some-2
returns-then-is_some-2 c =
    let s = c.args.state.now in
    let t = c.in-Some.task in
    let lives = sym (kept_where_live s.cluster s.corpus.now s.script.now s.history _ _ _ c.requires.tied.ties t) ∙ ap is_some (sym c.get.ensures.value) ∙ copied_alike c.get.result ∙ sym c.is_some.ensures ∙ c.if-is_some.false in
    let stands = ap is_some (sym (table_has s.script.now s.history c.args.results.now c.requires.known t) ∙ sym c.get-else-is_some.ensures) ∙ copied_alike c.get-else-is_some.result ∙ sym c.is_some-else-is_some.ensures ∙ c.if-is_some-2.true in
    found_by s.script.now t s.history false true lives stands
    ∙ ap (λ o. found_at s.script.now o s.history) (sym c.in-Some.is ∙ c.named.ensures s.history c.requires.known.roots)

pub returns-else-is_some-2 : goal.returns-else-is_some-2
returns-else-is_some-2 c =
    let s = c.args.state.now in
    let t = c.in-Some.task in
    let lives = sym (kept_where_live s.cluster s.corpus.now s.script.now s.history _ _ _ c.requires.tied.ties t) ∙ ap is_some (sym c.get.ensures.value) ∙ copied_alike c.get.result ∙ sym c.is_some.ensures ∙ c.if-is_some.false in
    let stands = ap is_some (sym (table_has s.script.now s.history c.args.results.now c.requires.known t) ∙ sym c.get-else-is_some.ensures) ∙ copied_alike c.get-else-is_some.result ∙ sym c.is_some-else-is_some.ensures ∙ c.if-is_some-2.false in
    found_by s.script.now t s.history false false lives stands
    ∙ ap (λ o. found_at s.script.now o s.history) (sym c.in-Some.is ∙ c.named.ensures s.history c.requires.known.roots)
