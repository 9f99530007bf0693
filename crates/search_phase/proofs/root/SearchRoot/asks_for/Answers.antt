use Rattle.std.proofs.Common.{◌≡◌, sym, ◌∙◌, ap, subst, false, Option, Some, None, position}
use Rattle.std.specs.Prelude.{◌↔◌, IsSomeAnd, IsTrue}
use Rattle.task_events.specs.declared.request.Request.{Request}
use Rattle.search_phase.specs.Awaiting.{LooksAlike}
use Rattle.search_phase.specs.Searching.{Searching, awaited, is_open}
use Rattle.search_phase.proofs.Roots.{awaits_at, awaits_none}
use Rattle.search_phase.proofs.root.SearchRoot.asks_for.Goals as goal

pub returns-in-Some : goal.returns-in-Some
returns-in-Some c =
    let s : Searching = record { reading = c.self.inside.reading; asked = c.self.inside.asked.items } in
    let place : position (is_open c.args.ask) s.asked ≡ Some c.in-Some.place = ap (position (is_open c.args.ask)) (sym c.as_slice.ensures.value) ∙ sym c.place_of.ensures ∙ c.in-Some.is in
    let Asks : Option Request → Type 0 = λ o. IsTrue c.is_request_at.result ↔ IsSomeAnd o (λ own. LooksAlike own c.args.request.now) in
    subst (λ (v : Searching). Asks (awaited v c.args.ask)) c.self.view_is
    (subst Asks (sym (awaits_at s c.self.inside.fetching _ c.self.invariant c.args.ask c.in-Some.place place)) c.is_request_at.ensures)

pub returns-in-None : goal.returns-in-None
returns-in-None c =
    let s : Searching = record { reading = c.self.inside.reading; asked = c.self.inside.asked.items } in
    let none : position (is_open c.args.ask) s.asked ≡ None = ap (position (is_open c.args.ask)) (sym c.as_slice.ensures.value) ∙ sym c.place_of.ensures ∙ c.in-None.is in
    let Asks : Option Request → Type 0 = λ o. IsTrue false ↔ IsSomeAnd o (λ own. LooksAlike own c.args.request.now) in
    subst (λ (v : Searching). Asks (awaited v c.args.ask)) c.self.view_is (subst Asks (sym (awaits_none s c.args.ask none)) (λ yes. absurd (cc), λ is. absurd is))
