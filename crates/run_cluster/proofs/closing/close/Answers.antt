use Rattle.std.proofs.Common.{◌≡◌, ℕ, ◌+◌, length, Some, sym, ap, ◌∙◌, arith}
use Rattle.std.specs.Prelude.{slice_get}
use Rattle.run_facts.specs.Inboxes.{control_of, data_of, driver_of}
use Rattle.run_inboxes.proofs.Pairs.{pairs_length, pairs_get}
use Rattle.run_cluster.specs.Boards.{AreSeatsOf}
use Rattle.run_cluster.specs.Closing.{IsClosedBoard}
use Rattle.run_cluster.proofs.closing.close.Goals as goal

pub notes_of-requires-clause-few : goal.notes_of-requires-clause-few
notes_of-requires-clause-few g c =
    let a = pairs_length AreSeatsOf _ _ c.requires.seats in
    let b = pairs_length IsClosedBoard _ _ c.in_ok-boards.ensures in
    let few = c.requires.few in
    omega arith

pub notes_of-requires-clause-inboxes : goal.notes_of-requires-clause-inboxes
notes_of-requires-clause-inboxes g c =
    let a = pairs_length AreSeatsOf _ _ c.requires.seats in
    let b = pairs_length IsClosedBoard _ _ c.in_ok-boards.ensures in
    c.in_ok-inboxes.ensures.count ∙ c.requires.ends ∙ ap (λ (n : ℕ). driver_of c.args.workers n + 1) (sym (b ∙ a))

pub returns : goal.returns
returns g c =
    let told = c.in_ok-inboxes.ensures in
    let notes = c.in_ok-notes.ensures in
    let w = c.args.workers in
    let count = pairs_length IsClosedBoard _ _ c.in_ok-boards.ensures in
    let tally = λ (k : ℕ) (t : _) (at : slice_get c.in_ok-inboxes.inboxes.items k ≡ Some t) (e : _) (there : slice_get c.args.left.inboxes.items k ≡ Some e).
    told.each k e t there at in
    record {
      count = notes.count ∙ count;
      each = λ k note at. (let n = notes.each k note at in record {
        node = n.node;
        board = λ s there. pairs_get IsClosedBoard _ _ c.in_ok-boards.ensures k s note.closed there n.board;
        control = tally (control_of w (k + 1)) note.control n.control;
        count = n.count;
        own = λ worker t here. tally (data_of w (k + 1) worker) t (n.own worker t here);
      });
      driver = tally (driver_of w (length c.args.left.boards.items)) c.in_ok-notes.notes.driver
          (ap (λ (n : ℕ). slice_get c.in_ok-inboxes.inboxes.items (driver_of w n)) (sym count) ∙ notes.driver);
    }
