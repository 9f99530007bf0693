use Rattle.std.proofs.Common.{rules, ◌≡◌, ℕ, ◌<◌, [], ◌∷◌, sym, ap, ◌∙◌, subst}
use Rattle.child_track.specs.Token.{token_parent}
use Rattle.race_board.specs.Words.{number, parent, cancel, task_word}
use Rattle.race_board.specs.Events.{put}
use Rattle.race_board.specs.Kinds.{claims}
use Rattle.race_board.specs.Keys.{parent_key}
use Rattle.race_board.specs.Walks.{Walks}
use Rattle.race_board.specs.Calls.{Takes, TakesAt}
use Rattle.race_board.proofs.Parts.{number_task, parent_task, cancel_task}
use Rattle.race_board.proofs.Tickets.{claimed}
use Rattle.race_board.proofs.board.RaceBoard.claim.Goals as goal

pub take_slot-requires-clause-word : goal.take_slot-requires-clause-word
take_slot-requires-clause-word g c = let seat = c.args.seat.now in let n : ℕ = c.args.number in let p : ℕ = parent_key c.args.parent in let word = c.task_of-word.ensures in
    let small : n < 1048576 = subst (λ (k : ℕ). k < 1048576) c.requires.drawn.0 seat.drawn in let key : p < 16777216 = search rules in
    let is : c.task_of-word.result ≡ task_word n p = search rules in
    ((λ e. c.requires.drawn.1 (sym c.requires.drawn.0 ∙ e)), ap number is ∙ (number_task n p small ∙ sym c.requires.drawn.0), ap cancel is ∙ cancel_task n p small key)

pub returns-in-Some-clause-takes : goal.returns-in-Some-clause-takes
returns-in-Some-clause-takes g c = let seat = c.args.seat.now in let n : ℕ = c.args.number in let p : ℕ = parent_key c.args.parent in
    let small : n < 1048576 = subst (λ (k : ℕ). k < 1048576) c.requires.drawn.0 seat.drawn in let key : p < 16777216 = search rules in
    let is : c.task_of-word.result ≡ task_word n p = search rules in
    let numbered : number c.task_of-word.result ≡ n = ap number is ∙ number_task n p small in let child : parent c.task_of-word.result ≡ p = ap parent is ∙ parent_task n p small key in
    (c.in-Some.field-0, subst (λ (q : ℕ × ℕ). TakesAt seat.place.me.0 c.take_slot.new.seat.place.me.0 c.in-Some.field-0 q.0 q.1) (λ k. (numbered k, child k)) c.in-Some.ensures.taken)

pub returns-in-Some-clause-held : goal.returns-in-Some-clause-held
returns-in-Some-clause-held g c = let seat = c.args.seat.now in let token_is : c.args.token ≡ c.new.result.token = search rules in let number_is : c.args.number ≡ c.new.result.id.number = search rules in claimed seat.place.me.0 c.take_slot.new.seat.place.me.0 c.new.result (parent_key c.args.parent) (sym seat.sized.1) (subst (λ (n : ℕ). Takes seat.place.me.0 c.take_slot.new.seat.place.me.0 n (parent_key c.args.parent)) number_is (returns-in-Some-clause-takes g c)) (ap parent_key (sym c.requires.token ∙ ap token_parent token_is))

pub returns-in-Some-clause-moments : goal.returns-in-Some-clause-moments
returns-in-Some-clause-moments g c = let seat = c.args.seat.now in let n : ℕ = c.args.number in let p : ℕ = parent_key c.args.parent in let y : ℕ = c.task_of-word.result in
    let small : n < 1048576 = subst (λ (k : ℕ). k < 1048576) c.requires.drawn.0 seat.drawn in let key : p < 16777216 = search rules in
    let is : y ≡ task_word n p = search rules in let numbered : number y ≡ n = ap number is ∙ number_task n p small in let child : parent y ≡ p = ap parent is ∙ parent_task n p small key in
    subst (λ (q : ℕ × ℕ × ℕ). Walks (claims q.0) seat.place.me.0 c.take_slot.new.seat.place.me.0 (put q.1 q.2 ∷ [])) (λ k. (is k, numbered k, child k)) c.in-Some.ensures.moments
