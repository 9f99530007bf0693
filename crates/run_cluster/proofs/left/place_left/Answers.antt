use Rattle.std.proofs.Common.{ap, ◌∙◌, refl}
use Rattle.run_cluster.proofs.left.place_left.Goals as goal

pub returns : goal.returns
returns g c =
    let left = c.in_ok-seats.ensures in
    record {
      control_seat = c.into_seat.ensures.seat ∙ ap (λ (b : _). b.seat) c.into_board.ensures;
      seats = left.seats;
      control_ends = refl;
      ends = left.ends;
    }
