use Rattle.std.proofs.Common.{◌≡◌, sym, ◌∙◌, ap, Some, None, length, position}
use Rattle.search_phase.specs.Searching.{Searching, is_open, takes}
use Rattle.search_phase.proofs.Roots.{takes_at, takes_none}
use Rattle.search_phase.proofs.root.SearchRoot.takes.Goals as goal

pub returns-in-Some : goal.returns-in-Some
returns-in-Some c =
    let s : Searching = record { reading = c.self.inside.reading; asked = c.self.inside.asked.items } in
    let place : position (is_open c.args.ask) s.asked ≡ Some c.in-Some.place = ap (position (is_open c.args.ask)) (sym c.as_slice.ensures.value) ∙ sym c.place_of.ensures ∙ c.in-Some.is in
    c.can_answer.ensures (length s.reading.shards) ∙ sym (takes_at s c.self.inside.fetching _ c.self.invariant c.args.ask c.args.reply.now c.in-Some.place place) ∙ ap (λ s. takes s c.args.ask c.args.reply.now) c.self.view_is

pub returns-in-None : goal.returns-in-None
returns-in-None c =
    let s : Searching = record { reading = c.self.inside.reading; asked = c.self.inside.asked.items } in
    let none : position (is_open c.args.ask) s.asked ≡ None = ap (position (is_open c.args.ask)) (sym c.as_slice.ensures.value) ∙ sym c.place_of.ensures ∙ c.in-None.is in
    sym (takes_none s c.args.ask c.args.reply.now none) ∙ ap (λ s. takes s c.args.ask c.args.reply.now) c.self.view_is
