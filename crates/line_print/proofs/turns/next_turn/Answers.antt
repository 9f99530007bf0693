use Rattle.std.proofs.Common.{◌≡◌, ◌+◌, ◌-◌, ◌∙◌, ap, sym, subst, drop, arith}
use Rattle.std.specs.List.{position_or_len}
use Rattle.task_events.specs.Turns.{is_begin}
use Rattle.line_print.specs.Ends.{AreEndsBefore, IsRest}
use Rattle.line_print.proofs.PassLemmas.{found_in, rest_after, ends_after}
use Rattle.line_print.proofs.TurnLemmas.{place_within, without_begin}
use Rattle.line_print.proofs.turns.next_turn.Goals as goal

pub take_front-turn-requires : goal.take_front-turn-requires
take_front-turn-requires c =
    let found = found_in c.args.history.now c.args.rest.now c.requires.rest c.len.result c.len-2.result c.in_ok-begin.begin c.len.ensures c.len-2.ensures c.in_ok-begin.ensures.place in
    omega (arith, found, c.len.ensures, c.len-2.ensures, place_within c.args.rest.now)

pub returns-clause-after : goal.returns-clause-after
returns-clause-after c =
    let found = found_in c.args.history.now c.args.rest.now c.requires.rest c.len.result c.len-2.result c.in_ok-begin.begin c.len.ensures c.len-2.ensures c.in_ok-begin.ensures.place in
    let count : c.in_ok-begin.begin - (c.len.result - c.len-2.result) ≡ position_or_len is_begin c.args.rest.now = omega (arith, found, c.len.ensures, c.len-2.ensures) in
    without_begin c.args.rest.now c.take_front-turn.new.self c.next.new.self c.next.result (c.take_front-turn.ensures.left ∙ ap (λ n. drop n c.args.rest.now) count) c.next.ensures.steps

pub returns-clause-rest : goal.returns-clause-rest
returns-clause-rest c =
    subst (IsRest c.args.history.now) (sym (returns-clause-after c)) (rest_after c.args.history.now c.args.rest.now c.requires.rest (position_or_len is_begin c.args.rest.now + 1))

pub returns-clause-ends : goal.returns-clause-ends
returns-clause-ends c =
    let found = found_in c.args.history.now c.args.rest.now c.requires.rest c.len.result c.len-2.result c.in_ok-begin.begin c.len.ensures c.len-2.ensures c.in_ok-begin.ensures.place in
    subst (λ rest. AreEndsBefore c.args.history.now rest c.next_begin.new.ends) (sym (returns-clause-after c))
    (ends_after c.args.history.now c.args.rest.now c.requires.rest c.next_begin.new.ends (position_or_len is_begin c.args.rest.now) c.in_ok-begin.begin (place_within c.args.rest.now) found c.in_ok-begin.ensures.ends)
