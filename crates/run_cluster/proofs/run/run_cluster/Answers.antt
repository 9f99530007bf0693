use Rattle.std.proofs.Common.{◌≡◌, ◌+◌, List, length, ap, ◌∙◌, subst, arith}
use Rattle.run_facts.specs.Inboxes.{driver_of}
use Rattle.run_inboxes.specs.Pairs.{Pairwise}
use Rattle.run_inboxes.proofs.Pairs.{pairs_length}
use Rattle.run_cluster.specs.Boards.{AreSeatsOf}
use Rattle.run_cluster.specs.Crews.{AllWorked}
use Rattle.run_cluster.proofs.Whole.{all_clear}
use Rattle.run_cluster.proofs.Running.{run_of}
use Rattle.run_cluster.proofs.run.run_cluster.Goals as goal

pub close-requires-clause-few : goal.close-requires-clause-few
close-requires-clause-few g c =
    let many = c.in_ok-boards.ensures.boards_count in
    let few = c.args.cluster.now.nodes_in_range in
    omega arith

pub close-requires-clause-ends : goal.close-requires-clause-ends
close-requires-clause-ends g c = c.in_ok-left.ensures.ends ∙ ap (λ (bs : List _). driver_of c.args.workers (length bs) + 1) c.as_slice.ensures.value

pub returns-clause-clear : goal.returns-clause-clear
returns-clause-clear g c =
    let left = c.in_ok-left.left.boards.items in
    let long : length left ≡ c.args.cluster.now.nodes = pairs_length AreSeatsOf _ _ c.in_ok-left.ensures.seats ∙ ap length c.as_slice.ensures.value ∙ c.in_ok-boards.ensures.boards_count in
    all_clear c.args.cluster.now.nodes c.args.workers left c.in_ok-left.left.inboxes.items c.in_ok-notes.notes long c.in_ok-left.ensures.none c.in_ok-notes.ensures

pub returns-clause-run : goal.returns-clause-run
returns-clause-run g c =
    let left = c.in_ok-left.left in
    let made = c.in_ok-left.ensures in
    let cluster = c.args.cluster.now in
    let corpus = c.args.corpus.now in
    let workers = c.args.workers in
    let boards = c.in_ok-boards.field-0.boards.items in
    let same = c.as_slice.ensures.value in
    let worked = subst (λ (bs : List _). AllWorked cluster corpus workers bs left.boards.items left.inboxes.items) same made.worked in
    let seats = subst (λ (bs : List _). Pairwise AreSeatsOf bs left.boards.items) same made.seats in
    run_of left.inboxes.items made.linked cluster corpus workers boards c.in_ok-boards.field-0.seats.items left.boards.items c.in_ok-notes.notes
    c.in_ok-boards.ensures
    (made.ends ∙ ap (λ (bs : List _). driver_of workers (length bs) + 1) same) (pairs_length AreSeatsOf _ _ seats) worked c.in_ok-notes.ensures
