use Rattle.std.proofs.Common.{◌∙◌, ap, sym, rules, ◌≡◌, Bool, true, Err, Option}
use Rattle.std.specs.Prelude.{option_map, option_and_then}
use Rattle.query_parse.specs.declared.reindex_body.ReindexBody.{ReindexBody}
use Rattle.task_events.specs.declared.request.ReindexAsk.{ReindexAsk}
use Rattle.task_events.specs.declared.request.Request.TheVariants as asks
use Rattle.command_roots.specs.Reindexes.{reindex_ask}
use Rattle.world_steps.specs.Scripts.{can_copy, StartsWhere}
use Rattle.world_steps.proofs.Commanded.{copy_known, stays_where, comes_where, partly_comes_where}
use Rattle.world_steps.proofs.HadBefore.{had_ready, not_past, wholly}
use Rattle.world_steps.proofs.Turning.{started_there}
use Rattle.task_events.specs.declared.stop.Stop.TheVariants.{HistoryFull, NumbersSpent}
use Rattle.world_moves.specs.Moves.{IsPartly, NodeLacksNumber, Starts}
use Rattle.world_moves.proofs.CutShort.{cut_as}
use Rattle.world_moves.proofs.Outcomes.{stops}
use Rattle.world_steps.proofs.commands.reindex.Goals as goal

pub returns-then-not-has-clause-done : goal.returns-then-not-has-clause-done
returns-then-not-has-clause-done c =
    let s = c.args.state.now in
    stays_where s.cluster (can_copy s.corpus.now s.script.now.commands c.args.body.now) c.args.number c.args.node
    (copy_known s c.requires.tied c.args.body.now c.in-Some.body _ _ (sym c.in-Ok.ensures.value ∙ c.in-Some.is) c.as_str.ensures c.if-not-has.ensures) s.history

pub start_reindex-requires-clause-asked : goal.start_reindex-requires-clause-asked
start_reindex-requires-clause-asked c =
    c.requires.asked
    ∙ ap (λ (o : Option ReindexBody). option_map asks.Reindex (option_and_then (λ read. reindex_ask read c.args.slices c.args.rate) o)) (sym c.in-Ok.ensures.value ∙ c.in-Some.is)
    ∙ ap (λ (o : Option ReindexAsk). option_map asks.Reindex o) c.in-Ok-reindex_ask.ensures

pub refresh-requires-clause-before : goal.refresh-requires-clause-before
refresh-requires-clause-before c =
    let s = c.args.state.now in
    not_past s.history c.start_reindex.new.state.history c.len-before.result c.len-before.ensures (started_there s.cluster s.history c.args.number c.args.node c.in_ok-start_reindex.field-0 c.start_reindex.new.state.history c.in_ok-start_reindex.ensures.started)

pub refresh-requires-clause-had : goal.refresh-requires-clause-had
refresh-requires-clause-had c =
    let s = c.args.state.now in
    had_ready s c.start_reindex.new.state c.args.ready.now c.len-before.result c.len-before.ensures c.requires.known c.in_ok-start_reindex.ensures.keeps (started_there s.cluster s.history c.args.number c.args.node c.in_ok-start_reindex.field-0 c.start_reindex.new.state.history c.in_ok-start_reindex.ensures.started)

pub returns-in-Ok-refresh-clause-done : goal.returns-in-Ok-refresh-clause-done
returns-in-Ok-refresh-clause-done c =
    let s = c.args.state.now in
    let can = copy_known s c.requires.tied c.args.body.now c.in-Some.body _ _ (sym c.in-Ok.ensures.value ∙ c.in-Some.is) c.as_str.ensures c.if-not-has.ensures in
    comes_where s.cluster (can_copy s.corpus.now s.script.now.commands c.args.body.now) c.args.number c.args.node can s.history c.start_reindex.new.state.history c.in_ok-start_reindex.field-0 c.in_ok-start_reindex.ensures.started

pub returns-in-Err-clause-part : goal.returns-in-Err-clause-part
returns-in-Err-clause-part c =
    let s = c.args.state.now in
    let can = copy_known s c.requires.tied c.args.body.now c.in-Some.body _ _ (sym c.in-Ok.ensures.value ∙ c.in-Some.is) c.as_str.ensures c.if-not-has.ensures in
    wholly (StartsWhere s.cluster (can_copy s.corpus.now s.script.now.commands c.args.body.now) c.args.number c.args.node) s.history c.start_reindex.new.state.history
    (comes_where s.cluster (can_copy s.corpus.now s.script.now.commands c.args.body.now) c.args.number c.args.node can s.history c.start_reindex.new.state.history c.in_ok-start_reindex.field-0 c.in_ok-start_reindex.ensures.started)
    (started_there s.cluster s.history c.args.number c.args.node c.in_ok-start_reindex.field-0 c.start_reindex.new.state.history c.in_ok-start_reindex.ensures.started)

pub returns-in_err-start_reindex-clause-stop : goal.returns-in_err-start_reindex-clause-stop
returns-in_err-start_reindex-clause-stop c =
    let s = c.args.state.now in
    let can = copy_known s c.requires.tied c.args.body.now c.in-Some.body _ _ (sym c.in-Ok.ensures.value ∙ c.in-Some.is) c.as_str.ensures c.if-not-has.ensures in
    stops c.from_residual.result (IsPartly (StartsWhere s.cluster (can_copy s.corpus.now s.script.now.commands c.args.body.now) c.args.number c.args.node) s.history)
    ((can_copy s.corpus.now s.script.now.commands c.args.body.now ≡ true) × NodeLacksNumber s.cluster s.history c.args.node × (c.start_reindex.new.state.history ≡ s.history)) c.start_reindex.new.state.history
    (λ failed. (let is_err : c.start_reindex.result ≡ Err HistoryFull = search rules in
    cut_as (IsPartly (λ h new. (started : Bool) × Starts s.cluster h c.args.number c.args.node started new) s.history) (IsPartly (StartsWhere s.cluster (can_copy s.corpus.now s.script.now.commands c.args.body.now) c.args.number c.args.node) s.history) c.start_reindex.new.state.history
    (λ past. partly_comes_where s.cluster (can_copy s.corpus.now s.script.now.commands c.args.body.now) c.args.number c.args.node can s.history past) (c.start_reindex.ensures.full is_err)))
    (λ failed. (let is_err : c.start_reindex.result ≡ Err NumbersSpent = search rules in
    (can, (c.start_reindex.ensures.spent.0 is_err), c.in_err-start_reindex.ensures.err)))
