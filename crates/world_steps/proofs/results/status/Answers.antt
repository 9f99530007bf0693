use Rattle.std.proofs.Common.{◌≡◌, ◌∙◌, None, Some, ap, sym, refl}
use Rattle.std.specs.Prelude.{is_some}
use Rattle.std.specs.Option.{option_copied}
use Rattle.task_events.specs.Requests.{request_of}
use Rattle.reindex.specs.declared.root.ReindexRoot.{ReindexRoot}
use Rattle.task_work.specs.declared.work.Work.{Work}
use Rattle.task_work.specs.declared.work.Work.TheVariants as works
use Rattle.task_events.specs.Tasks.{is_new}
use Rattle.command_roots.specs.Roots.{scripted}
use Rattle.world_moves.specs.Facts.{awaited_by, facts_of, requested_by}
use Rattle.world_moves.specs.Good.{so_far}
use Rattle.world_moves.specs.Ties.{progress_from}
use Rattle.world_moves.proofs.StepsAfter.{is_kept, runs_of}
use Rattle.world_steps.proofs.StatusKept.{counts_kept, none_of_page, status_told}
use Rattle.world_steps.proofs.results.status.Goals as goal

no_reindex : (work : Work) → ((root : ReindexRoot) → work ≡ works.Reindex root → ⊥) → counts_kept work ≡ None
no_reindex (works.Reindex root) other = absurd (other root refl)
no_reindex _ other = refl

pub returns-in_err-kept : goal.returns-in_err-kept
returns-in_err-kept c =
    let s = c.args.state.now in
    absurd (is_kept s.cluster s.corpus.now s.script.now s.history _ _ _ c.requires.tied.ties c.args.task c.requires.live (sym c.get.ensures.value ∙ ap option_copied c.in_err-kept.was))

pub returns-then-is_some : goal.returns-then-is_some
returns-then-is_some c =
    let s = c.args.state.now in
    let kept = sym c.get.ensures.value ∙ ap option_copied c.in_ok-kept.was ∙ ap Some (sym c.get-running.ensures) in
    let runs = runs_of s.cluster s.corpus.now s.script.now s.history _ _ _ c.requires.tied.ties c.args.task c.get-running.result.now kept in
    sym (none_of_page c.args.task s.history (request_of (scripted s.script.now) c.args.task s.history) (ap is_some (sym runs.page) ∙ sym c.is_some.ensures ∙ c.if-is_some.true))

pub returns-in-Reindex : goal.returns-in-Reindex
returns-in-Reindex c =
    let s = c.args.state.now in
    let t = c.args.task in
    let kept = sym c.get.ensures.value ∙ ap option_copied c.in_ok-kept.was ∙ ap Some (sym c.get-running.ensures) in
    let runs = runs_of s.cluster s.corpus.now s.script.now s.history _ _ _ c.requires.tied.ties t c.get-running.result.now kept in
    ap Some c.counts.ensures.counts ∙ sym (ap counts_kept c.in-Reindex.is)
    ∙ status_told s.cluster (so_far s.corpus.now s.script.now s.history) t s.history (is_new t s.history) (progress_from s.cluster (so_far s.corpus.now s.script.now) (facts_of (scripted s.script.now) t s.history)) (requested_by t s.history) (awaited_by t s.history)
    (request_of (scripted s.script.now) t s.history) c.get-running.result.now.work refl (ap is_some (sym runs.page) ∙ sym c.is_some.ensures ∙ c.if-is_some.false) runs.works

pub returns-in_default : goal.returns-in_default
returns-in_default c =
    let s = c.args.state.now in
    let t = c.args.task in
    let kept = sym c.get.ensures.value ∙ ap option_copied c.in_ok-kept.was ∙ ap Some (sym c.get-running.ensures) in
    let runs = runs_of s.cluster s.corpus.now s.script.now s.history _ _ _ c.requires.tied.ties t c.get-running.result.now kept in
    sym (no_reindex c.get-running.result.now.work c.in_default.not-Reindex)
    ∙ status_told s.cluster (so_far s.corpus.now s.script.now s.history) t s.history (is_new t s.history) (progress_from s.cluster (so_far s.corpus.now s.script.now) (facts_of (scripted s.script.now) t s.history)) (requested_by t s.history) (awaited_by t s.history)
    (request_of (scripted s.script.now) t s.history) c.get-running.result.now.work refl (ap is_some (sym runs.page) ∙ sym c.is_some.ensures ∙ c.if-is_some.false) runs.works
