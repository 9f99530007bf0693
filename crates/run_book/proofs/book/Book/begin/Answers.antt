-- The next command begins.
use Rattle.std.proofs.Common.{◌≡◌, ℕ, ◌+◌, ◌∷◌, ◌++◌, [], List, None, Some, refl, sym, ap, subst, ◌∙◌, length}
use Rattle.script_lang.specs.declared.command.Command.{Command}
use Rattle.run_book.specs.declared.entry.Entry.{Entry}
use Rattle.run_book.specs.Begun.{Begins}
use Rattle.run_book.specs.Contexts.{AreOpened}
use Rattle.run_book.proofs.Beginning.{begins_fit}
use Rattle.run_book.proofs.Opened.{left_opened}
use Rattle.run_book.proofs.Keeping.{begun, same_run}
use Rattle.run_book.proofs.book.Book.begin.Goals as goal

pub returns-clause-keeps : goal.returns-clause-keeps
returns-clause-keeps g c =
    let book = c.args.self.now in
    let state = c.in_ok-state.field-0.state in
    let entry : Entry = record { root = None; state = state } in
    let there = sym c.in-Some.ensures in
    let fits = begins_fit _ g.W.Run.setting book (length book.entries.items + 1) c.in-Some.command.now state c.in_ok-state.field-0.posts.items c.requires.keeps refl there (subst (λ (k : ℕ). Begins book k c.in-Some.command.now state c.in_ok-state.field-0.posts.items) c.next_number-number.ensures c.in_ok-state.ensures.begins) in
    let new = c.in_ok-enter.ensures.entered ∙ ap (λ (l : List Entry). l ++ entry ∷ []) (c.note_paging.ensures.entries ∙ c.begun.ensures.entries) in
    let contexts = c.enter.ensures.contexts ∙ c.note_paging.ensures.contexts in
    let opened = subst (AreOpened g.W.Run.setting) (sym contexts) (left_opened g.W.Run.setting book c.requires.keeps.contexts c.in-Some.command.now c.begun.new.self.contexts c.in_ok-state.ensures.contexts) in
    begun _ g.W.Run.setting book c.enter.new.self entry c.in-Some.command.now there fits new (c.enter.ensures.clock ∙ c.note_paging.ensures.clock ∙ c.in_ok-state.ensures.clock) opened (same_run _ _ _ c.begun.ensures.run (same_run _ _ _ c.note_paging.ensures.run c.enter.ensures.run)) c.requires.keeps

pub returns-clause-all_begun : goal.returns-clause-all_begun
returns-clause-all_begun g c = λ none. absurd (let wrong : Some c.in-Some.command.now ≡ None = c.in-Some.ensures ∙ none in cc)

pub returns-clause-next : goal.returns-clause-next
returns-clause-next g c = λ d at.
    let book = c.args.self.now in
    let state = c.in_ok-state.field-0.state in
    let entry : Entry = record { root = None; state = state } in
    let posts = c.in_ok-state.field-0.posts.items in
    let both : Some c.in-Some.command.now ≡ Some d = c.in-Some.ensures ∙ at in
    let same : c.in-Some.command.now ≡ d = cc in
    let begins = subst (λ (k : ℕ). Begins book k c.in-Some.command.now state posts) c.next_number-number.ensures c.in_ok-state.ensures.begins in
    (state, c.in_ok-enter.ensures.entered ∙ ap (λ (l : List Entry). l ++ entry ∷ []) (c.note_paging.ensures.entries ∙ c.begun.ensures.entries), subst (λ (x : Command). Begins book (length book.entries.items + 1) x state posts) same begins)
