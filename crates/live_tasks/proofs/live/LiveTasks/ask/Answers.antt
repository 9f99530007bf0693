-- The task has one ask more, or is as it was.
use Rattle.std.proofs.Common.{◌≡◌, Some, refl, ap, subst, ◌∙◌}
use Rattle.std.specs.Prelude.{◌+◌, Option, None, IfSome, length}
use Rattle.live_tasks.specs.declared.entry.Entry.{Entry}
use Rattle.live_tasks.specs.Answering.{CanAsk}
use Rattle.live_tasks.specs.Entries.{after_ask}
use Rattle.live_tasks.specs.Live.{entry_at}
use Rattle.live_tasks.specs.Ties.{IsEntry}
use Rattle.live_tasks.proofs.Belonging.{some_entry, stays_changed}
use Rattle.live_tasks.proofs.Remaining.{asked_remains, same_remains}
use Rattle.live_tasks.proofs.live.LiveTasks.ask.Goals as goal

pub note_ask-requires-clause-placed : goal.note_ask-requires-clause-placed
note_ask-requires-clause-placed c = placed_of (entry_at c.args.self.now c.args.number) (c.requires.tasks.entries c.args.number)
  where
    placed_of : (o : Option Entry) → IfSome o (IsEntry c.args.self.now.node c.args.number) → IfSome o (λ e. length e.asked ≡ length e.running.track.asks)
    placed_of None h = tt
    placed_of (Some e) h = h.placed

pub returns-in-Ok-clause-together : goal.returns-in-Ok-clause-together
returns-in-Ok-clause-together c =
    let found = some_entry CanAsk (entry_at c.args.self.now c.args.number) (λ h. h) c.requires.can in
    let one = c.in-Ok.ensures.asked found.0 found.1 in
    stays_changed c.args.self.now _ c.args.number found.0 (after_ask found.0 c.args.to c.args.place) c.requires.tasks (refl, refl) found.1 (one.0, (λ p. refl), one.1, refl) (asked_remains found.0 c.args.to c.args.place c.requires.node) refl

pub returns-in-Err-clause-together : goal.returns-in-Err-clause-together
returns-in-Err-clause-together c =
    let found = some_entry CanAsk (entry_at c.args.self.now c.args.number) (λ h. h) c.requires.can in
    let one = c.in-Err.ensures.err found.0 found.1 in
    stays_changed c.args.self.now _ c.args.number found.0 found.0 c.requires.tasks (refl, refl) found.1 (one.0, (λ p. refl), one.1, refl) (same_remains found.0) refl

pub returns-in-Ok-clause-token : goal.returns-in-Ok-clause-token
returns-in-Ok-clause-token c = λ e was.
    let entry = subst (λ o. IfSome o (IsEntry c.args.self.now.node c.args.number)) was (c.requires.tasks.entries c.args.number) in
    c.in-Ok.ensures.token e was ∙ ap (λ t. record { parent = t; ask = length e.running.track.asks + 1 }) entry.tracked
