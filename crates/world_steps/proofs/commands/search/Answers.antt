use Rattle.std.proofs.Common.{◌∙◌, ap, sym, rules, ◌≡◌, Bool, true, Err}
use Rattle.std.specs.Prelude.{if◌then◌else◌}
use Rattle.query_parse.specs.Bodies.{body_at}
use Rattle.command_roots.specs.Roots.{body_or_none}
use Rattle.world_steps.specs.Scripts.{can_start, StartsWhere}
use Rattle.world_steps.proofs.Commanded.{index_known, unknown_index, comes, partly_comes, can_come}
use Rattle.world_steps.proofs.HadBefore.{had_ready, not_past, wholly}
use Rattle.world_steps.proofs.Turning.{started_there}
use Rattle.task_events.specs.declared.stop.Stop.TheVariants.{HistoryFull, NumbersSpent}
use Rattle.world_moves.specs.Moves.{IsPartly, NodeLacksNumber, Starts}
use Rattle.world_moves.proofs.CutShort.{cut_as}
use Rattle.world_moves.proofs.Outcomes.{stops}
use Rattle.world_steps.proofs.commands.search.Goals as goal

pub returns-then-not-has-clause-done : goal.returns-then-not-has-clause-done
returns-then-not-has-clause-done c =
    let s = c.args.state.now in
    unknown_index s.cluster s.corpus.now s.script.now.commands c.args.index.now c.args.scroll c.args.body.now c.args.number c.args.node s.history (index_known s c.requires.tied c.args.index.now _ _ c.as_str.ensures c.if-not-has.ensures)

pub refresh-requires-clause-before : goal.refresh-requires-clause-before
refresh-requires-clause-before c =
    let s = c.args.state.now in
    not_past s.history c.start.new.state.history c.len-before.result c.len-before.ensures (started_there s.cluster s.history c.args.number c.args.node c.in_ok-start.field-0 c.start.new.state.history c.in_ok-start.ensures.started)

pub refresh-requires-clause-had : goal.refresh-requires-clause-had
refresh-requires-clause-had c =
    let s = c.args.state.now in
    had_ready s c.start.new.state c.args.ready.now c.len-before.result c.len-before.ensures c.requires.known c.in_ok-start.ensures.keeps (started_there s.cluster s.history c.args.number c.args.node c.in_ok-start.field-0 c.start.new.state.history c.in_ok-start.ensures.started)

pub returns-in-Ok-refresh-clause-done : goal.returns-in-Ok-refresh-clause-done
returns-in-Ok-refresh-clause-done c =
    let s = c.args.state.now in
    comes s.cluster s.corpus.now s.script.now.commands c.args.index.now c.args.scroll c.args.body.now c.args.number c.args.node c.in-Some.body s.history c.start.new.state.history
    (ap (λ b. body_or_none (body_at b (if b then 1 else 0) c.args.body.now)) (sym c.is_some.ensures) ∙ sym c.in-Ok.ensures ∙ c.in-Some.is) (index_known s c.requires.tied c.args.index.now _ _ c.as_str.ensures c.if-not-has.ensures) c.in_ok-start.field-0 c.in_ok-start.ensures.started

pub returns-in-Err-clause-part : goal.returns-in-Err-clause-part
returns-in-Err-clause-part c =
    let s = c.args.state.now in
    wholly (StartsWhere s.cluster (can_start s.corpus.now s.script.now.commands c.args.index.now c.args.scroll c.args.body.now) c.args.number c.args.node) s.history c.start.new.state.history
    (comes s.cluster s.corpus.now s.script.now.commands c.args.index.now c.args.scroll c.args.body.now c.args.number c.args.node c.in-Some.body s.history c.start.new.state.history
    (ap (λ b. body_or_none (body_at b (if b then 1 else 0) c.args.body.now)) (sym c.is_some.ensures) ∙ sym c.in-Ok.ensures ∙ c.in-Some.is) (index_known s c.requires.tied c.args.index.now _ _ c.as_str.ensures c.if-not-has.ensures) c.in_ok-start.field-0 c.in_ok-start.ensures.started)
    (started_there s.cluster s.history c.args.number c.args.node c.in_ok-start.field-0 c.start.new.state.history c.in_ok-start.ensures.started)

pub returns-in_err-start-clause-stop : goal.returns-in_err-start-clause-stop
returns-in_err-start-clause-stop c =
    let s = c.args.state.now in
    let good = ap (λ b. body_or_none (body_at b (if b then 1 else 0) c.args.body.now)) (sym c.is_some.ensures) ∙ sym c.in-Ok.ensures ∙ c.in-Some.is in
    let known = index_known s c.requires.tied c.args.index.now _ _ c.as_str.ensures c.if-not-has.ensures in
    stops c.from_residual.result (IsPartly (StartsWhere s.cluster (can_start s.corpus.now s.script.now.commands c.args.index.now c.args.scroll c.args.body.now) c.args.number c.args.node) s.history)
    ((can_start s.corpus.now s.script.now.commands c.args.index.now c.args.scroll c.args.body.now ≡ true) × NodeLacksNumber s.cluster s.history c.args.node × (c.start.new.state.history ≡ s.history)) c.start.new.state.history
    (λ failed. (let is_err : c.start.result ≡ Err HistoryFull = search rules in
    cut_as (IsPartly (λ h new. (started : Bool) × Starts s.cluster h c.args.number c.args.node started new) s.history) (IsPartly (StartsWhere s.cluster (can_start s.corpus.now s.script.now.commands c.args.index.now c.args.scroll c.args.body.now) c.args.number c.args.node) s.history) c.start.new.state.history
    (λ past. partly_comes s.cluster s.corpus.now s.script.now.commands c.args.index.now c.args.scroll c.args.body.now c.args.number c.args.node c.in-Some.body s.history past good known) (c.start.ensures.full is_err)))
    (λ failed. (let is_err : c.start.result ≡ Err NumbersSpent = search rules in
    (can_come s.cluster s.corpus.now s.script.now.commands c.args.index.now c.args.scroll c.args.body.now c.args.number c.args.node c.in-Some.body good known, (c.start.ensures.spent.0 is_err), c.in_err-start.ensures.err)))
