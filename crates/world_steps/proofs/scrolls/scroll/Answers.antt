use Rattle.std.proofs.Common.{◌≡◌, ◌∙◌, Bool, true, false, rules, Some, None, Err, ap, sym, subst}
use Rattle.std.specs.Prelude.{is_some, is_ok}
use Rattle.std.specs.Option.{option_map_or}
use Rattle.task_ids.specs.declared.task_id.TaskId.{TaskId}
use Rattle.task_events.specs.declared.stop.Stop.TheVariants.{HistoryFull, NumbersSpent}
use Rattle.scroll_table.specs.Contexts.{answer_for}
use Rattle.command_roots.specs.Roots.{context_named, page_answer, page_at}
use Rattle.world_moves.specs.Moves.{IsPartly, NodeLacksNumber, Starts}
use Rattle.world_moves.proofs.CutShort.{cut_as}
use Rattle.world_moves.proofs.Outcomes.{stops}
use Rattle.world_steps.specs.Scripts.{can_page, error_in, page_node, StartsWhere}
use Rattle.world_steps.proofs.Commanded.{comes_where, has_no_page, has_page, partly_comes_where, stays_where}
use Rattle.world_steps.proofs.HadBefore.{had_ready, not_past, wholly}
use Rattle.world_steps.proofs.Turning.{started_there}
use Rattle.world_steps.proofs.scrolls.scroll.Goals as goal

pub returns-then-is_some-clause-done : goal.returns-then-is_some-clause-done
returns-then-is_some-clause-done c =
    let s = c.args.state.now in
    let target = c.args.target.now in
    let no_page : is_some (error_in (page_answer s.script.now target s.history)) ≡ true = ap is_some (sym c.no_page.ensures) ∙ sym c.is_some.ensures ∙ c.if-is_some.true in
    stays_where s.cluster (can_page s.script.now target s.history) c.args.number (page_node target s.history) (has_no_page (page_answer s.script.now target s.history) no_page) s.history

pub unreachable-requires : goal.unreachable-requires
unreachable-requires c =
    let s = c.args.state.now in
    let target = c.args.target.now in
    let page : is_some (error_in (page_answer s.script.now target s.history)) ≡ false = ap is_some (sym c.no_page.ensures) ∙ sym c.is_some.ensures ∙ c.if-is_some.false in
    let none : context_named target s.history ≡ None = sym c.named.ensures ∙ c.in_default.is in
    let f : true ≡ false = sym (ap (λ o. is_some (error_in (page_at s.script.now o s.history))) none) ∙ page in
    cc

pub start_page-requires-clause-asked : goal.start_page-requires-clause-asked
start_page-requires-clause-asked c = c.requires.asked c.in-Some.id (sym c.named.ensures ∙ c.in-Some.is)

pub start_page-requires-clause-usable : goal.start_page-requires-clause-usable
start_page-requires-clause-usable c =
    let s = c.args.state.now in
    let target = c.args.target.now in
    let id = c.in-Some.id in
    let page : is_some (error_in (page_answer s.script.now target s.history)) ≡ false = ap is_some (sym c.no_page.ensures) ∙ sym c.is_some.ensures ∙ c.if-is_some.false in
    let named : context_named target s.history ≡ Some id = sym c.named.ensures ∙ c.in-Some.is in
    let there = sym (ap (λ o. is_ok (page_at s.script.now o s.history)) named) ∙ has_page (page_answer s.script.now target s.history) page in
    (λ i. is_ok (answer_for None (c.requires.tied.tells.clock_is i) (c.requires.tied.pages.stand id i))) ∙ there

pub refresh-requires-clause-before : goal.refresh-requires-clause-before
refresh-requires-clause-before c =
    let s = c.args.state.now in
    not_past s.history c.start_page.new.state.history c.len-before.result c.len-before.ensures
    (started_there s.cluster s.history c.args.number c.in-Some.id.node c.in_ok-start_page.field-0 c.start_page.new.state.history c.in_ok-start_page.ensures.started)

pub refresh-requires-clause-had : goal.refresh-requires-clause-had
refresh-requires-clause-had c =
    let s = c.args.state.now in
    had_ready s c.start_page.new.state c.args.ready.now c.len-before.result c.len-before.ensures c.requires.known c.in_ok-start_page.ensures.keeps
    (started_there s.cluster s.history c.args.number c.in-Some.id.node c.in_ok-start_page.field-0 c.start_page.new.state.history c.in_ok-start_page.ensures.started)

pub returns-in-Ok-clause-done : goal.returns-in-Ok-clause-done
returns-in-Ok-clause-done c =
    let s = c.args.state.now in
    let target = c.args.target.now in
    let page : is_some (error_in (page_answer s.script.now target s.history)) ≡ false = ap is_some (sym c.no_page.ensures) ∙ sym c.is_some.ensures ∙ c.if-is_some.false in
    let node : page_node target s.history ≡ c.in-Some.id.node = ap (λ o. option_map_or (λ (id : TaskId). id.node) o 0) (sym c.named.ensures ∙ c.in-Some.is) in
    comes_where s.cluster (can_page s.script.now target s.history) c.args.number (page_node target s.history) (has_page (page_answer s.script.now target s.history) page) s.history c.start_page.new.state.history c.in_ok-start_page.field-0
    (subst (λ n. Starts s.cluster s.history c.args.number n c.in_ok-start_page.field-0 c.start_page.new.state.history) (sym node) c.in_ok-start_page.ensures.started)

pub returns-in-Err-clause-part : goal.returns-in-Err-clause-part
returns-in-Err-clause-part c =
    let s = c.args.state.now in
    let target = c.args.target.now in
    let page : is_some (error_in (page_answer s.script.now target s.history)) ≡ false = ap is_some (sym c.no_page.ensures) ∙ sym c.is_some.ensures ∙ c.if-is_some.false in
    let node : page_node target s.history ≡ c.in-Some.id.node = ap (λ o. option_map_or (λ (id : TaskId). id.node) o 0) (sym c.named.ensures ∙ c.in-Some.is) in
    wholly (StartsWhere s.cluster (can_page s.script.now target s.history) c.args.number (page_node target s.history)) s.history c.start_page.new.state.history
    (comes_where s.cluster (can_page s.script.now target s.history) c.args.number (page_node target s.history) (has_page (page_answer s.script.now target s.history) page) s.history c.start_page.new.state.history c.in_ok-start_page.field-0
    (subst (λ n. Starts s.cluster s.history c.args.number n c.in_ok-start_page.field-0 c.start_page.new.state.history) (sym node) c.in_ok-start_page.ensures.started))
    (started_there s.cluster s.history c.args.number c.in-Some.id.node c.in_ok-start_page.field-0 c.start_page.new.state.history c.in_ok-start_page.ensures.started)

pub returns-in_err-start_page-clause-stop : goal.returns-in_err-start_page-clause-stop
returns-in_err-start_page-clause-stop c =
    let s = c.args.state.now in
    let target = c.args.target.now in
    let id = c.in-Some.id in
    let number = c.args.number in
    let page : is_some (error_in (page_answer s.script.now target s.history)) ≡ false = ap is_some (sym c.no_page.ensures) ∙ sym c.is_some.ensures ∙ c.if-is_some.false in
    let can = has_page (page_answer s.script.now target s.history) page in
    let node : page_node target s.history ≡ id.node = ap (λ o. option_map_or (λ (id : TaskId). id.node) o 0) (sym c.named.ensures ∙ c.in-Some.is) in
    stops c.from_residual.result (IsPartly (StartsWhere s.cluster (can_page s.script.now target s.history) number (page_node target s.history)) s.history)
    ((can_page s.script.now target s.history ≡ true) × NodeLacksNumber s.cluster s.history (page_node target s.history) × (c.start_page.new.state.history ≡ s.history)) c.start_page.new.state.history
    (λ failed. (let is_err : c.start_page.result ≡ Err HistoryFull = search rules in
    cut_as (IsPartly (λ h new. (started : Bool) × Starts s.cluster h number id.node started new) s.history) (IsPartly (StartsWhere s.cluster (can_page s.script.now target s.history) number (page_node target s.history)) s.history) c.start_page.new.state.history
    (λ past part. partly_comes_where s.cluster (can_page s.script.now target s.history) number (page_node target s.history) can s.history past
    (subst (λ n. IsPartly (λ h new. (started : Bool) × Starts s.cluster h number n started new) s.history past) (sym node) part)) (c.start_page.ensures.full is_err)))
    (λ failed. (let is_err : c.start_page.result ≡ Err NumbersSpent = search rules in
    (can, subst (NodeLacksNumber s.cluster s.history) (sym node) ((c.start_page.ensures.spent.0 is_err)), c.in_err-start_page.ensures.err)))
