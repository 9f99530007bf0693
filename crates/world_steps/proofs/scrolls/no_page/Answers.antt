use Rattle.std.proofs.Common.{◌≡◌, ◌∙◌, None, Bor, refl, ap, sym}
use Rattle.std.specs.Prelude.{Result, Ok, Err}
use Rattle.std.specs.Result.{result_err}
use Rattle.task_events.specs.declared.context.Context.{Context}
use Rattle.scroll_table.specs.declared.context.PageError.{PageError}
use Rattle.scroll_table.specs.Contexts.{answer_for, lent}
use Rattle.command_roots.specs.Roots.{page_at}
use Rattle.world_moves.specs.Paging.{context_in}
use Rattle.world_steps.specs.Scripts.{error_in}
use Rattle.world_steps.proofs.scrolls.no_page.Goals as goal

same_error : (r : Result (Bor Context) PageError) → result_err r ≡ error_in (lent r)
same_error (Ok c) = refl
same_error (Err e) = refl

pub returns-in-Some : goal.returns-in-Some
returns-in-Some c =
    let s = c.args.state.now in
    let id = c.in-Some.id in
    c.err.ensures.value ∙ same_error c.peek.result ∙ ap error_in (c.peek.ensures ∙ ap (λ tables. answer_for None s.clock (context_in tables id)) c.as_slice.ensures.value ∙ (λ i. answer_for None (c.requires.tied.tells.clock_is i) (c.requires.tied.pages.stand id i)))
    ∙ ap (λ o. error_in (page_at s.script.now o s.history)) (sym c.in-Some.is ∙ c.named.ensures)
