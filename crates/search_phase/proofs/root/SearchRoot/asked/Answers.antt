use Rattle.std.proofs.Common.{◌≡◌, ◌<◌, ◌≤◌, sym, ◌∙◌, ap, true, arith, subst, length, List}
use Rattle.std.specs.Prelude.{vec_capacity, vec_len}
use Rattle.task_events.specs.declared.step.Asked.{Asked}
use Rattle.search_phase.specs.Searching.{Searching, next_step, wants_to_ask, is_above}
use Rattle.search_phase.specs.Roots.{IsRoot}
use Rattle.search_phase.proofs.Roots.{room_for_ask, IsRoot-ask}
use Rattle.search_phase.proofs.root.SearchRoot.asked.Goals as goal

pub unreachable-requires : goal.unreachable-requires
unreachable-requires c =
    let s : Searching = record { reading = c.self.inside.reading; asked = c.self.inside.asked.items } in
    let plans : wants_to_ask (next_step s) ≡ true = ap (λ s. wants_to_ask (next_step s)) c.self.view_is ∙ c.requires.planned in
    let room : length c.self.inside.asked.items < vec_capacity c.self.inside.asked = room_for_ask s c.self.inside.fetching _ c.self.invariant plans in
    let full : vec_capacity c.self.inside.asked ≤ vec_len c.self.inside.asked = c.in-Err.ensures.full in
    omega arith

pub invariant_of-self : goal.invariant_of-self
invariant_of-self c =
    let s : Searching = record { reading = c.self.inside.reading; asked = c.self.inside.asked.items } in
    let plans : wants_to_ask (next_step s) ≡ true = ap (λ s. wants_to_ask (next_step s)) c.self.view_is ∙ c.requires.planned in
    let above : is_above c.args.ask s.asked ≡ true = ap (λ (s : Searching). is_above c.args.ask s.asked) c.self.view_is ∙ c.requires.above in
    let Q : List Asked → Type 0 = λ l. IsRoot (record { reading = c.self.inside.reading; asked = l }) c.self.inside.fetching (vec_capacity c.push.new.self) in
    subst Q (sym c.in-Ok.ensures.items) (IsRoot-ask s c.self.inside.fetching (vec_capacity c.self.inside.asked) c.self.invariant c.args.ask (vec_capacity c.push.new.self) plans above (omega arith))
