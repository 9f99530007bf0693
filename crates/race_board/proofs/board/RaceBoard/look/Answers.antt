use Rattle.race_board.proofs.Walking.{walk_one, stride, tale}
use Rattle.std.proofs.Common.{arith, ◌≡◌, ℕ, ◌+◌, ◌<◌, refl, sym, ap, ◌∙◌}
use Rattle.race_board.specs.Board.{hold}
use Rattle.race_board.specs.Checks.{look_events}
use Rattle.race_board.specs.Kinds.{looks}
use Rattle.race_board.proofs.Doing.{on_task, look_tells}
use Rattle.race_board.specs.declared.views.Size.{Size}
use Rattle.race_board.specs.declared.views.View.{View}
use Rattle.race_board.proofs.board.RaceBoard.look.Goals as goal

pub returns-clause-moments : goal.returns-clause-moments
returns-clause-moments g c = let v : View = c.args.seat.now.place.me.0 in let w : View = c.look.new.seat.me.0 in let n : ℕ = c.look.result in
    let i : ℕ = c.slot_of-slot.result in let t : ℕ = c.args.ticket.now.id.number in let is : (hold v i).number ≡ t = c.slot_of-slot.ensures.1 ∙ ap (λ x. x.number) c.id.ensures in
    let low : i < c.args.self.now.words.size.slots = (let a = c.slot_of-slot.ensures.0 in let b = c.args.seat.now.sized.0 in let d = ap (λ (z : Size). z.slots) c.requires.fits.1 in omega arith) in
    walk_one looks v w (look_events t c.mark_in.result) (stride looks v w (i + 1) n n n _ _ (ap tale c.look.ensures.looks) c.look.ensures.turn (i, on_task v c.args.self.now.words.size i c.requires.fits.1 low, refl, refl) (look_tells (hold v i) n t is ∙ ap (look_events t) (sym c.mark_in.ensures)))
