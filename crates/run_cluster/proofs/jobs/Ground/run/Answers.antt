use denote.Param.Send.{sendable}
use Rattle.std.proofs.Common.{◌≡◌, ◌+◌, ℕ, length, sym, ap, ◌∙◌, arith}
use Rattle.std.proofs.Crossing.{crosses}
use Rattle.std.proofs.lemmas.List.{length-map}
use Rattle.node_boards.proofs.race_control.RaceControl.TheSendSync as race_control
use Rattle.node_boards.proofs.race_data.RaceData.TheSendSync as race_data
use Rattle.node_worker.proofs.control.ControlKind.TheSendSync as control
use Rattle.data_worker.proofs.KindSends.{kind_send}
use Rattle.run_facts.specs.Inboxes.{driver_of}
use Rattle.run_inboxes.specs.Ends.{SameEnds}
use Rattle.run_inboxes.proofs.Pairs.{pairs_length}
use Rattle.run_threads.specs.Jobs.{lists_of}
use Rattle.run_cluster.specs.Crews.{IsControlOn, AreDatasOn}
use Rattle.run_cluster.proofs.Dealing.{few_inboxes}
use Rattle.run_cluster.proofs.Leaving.{controls_left, datas_left, seats_after, ends_kept}
use Rattle.run_cluster.proofs.Linked.{linked_still}
use Rattle.run_cluster.proofs.Staying.{of_boards, hold_nothing}
use Rattle.run_cluster.proofs.Working.{all_worked}
use Rattle.run_cluster.proofs.jobs.Ground.run.Goals as goal

pub run_workers-requires-send-C : goal.run_workers-requires-send-C
run_workers-requires-send-C g c κs within = let s = c.type_bounds.send-W in let y = c.type_bounds.sync-G in search (control.the_send, race_control.the_send, sendable, crosses) depth 20

pub run_workers-requires-send-D : goal.run_workers-requires-send-D
run_workers-requires-send-D g c κs within = let s = c.type_bounds.send-W in let y = c.type_bounds.sync-G in search (kind_send, race_data.the_send, sendable, crosses) depth 20

pub overflow_add-count : goal.overflow_add-count
overflow_add-count g c =
    let few = few_inboxes c.args.self.now.workers c.args.self.now.cluster.nodes c.requires.workers.1 c.args.self.now.cluster.nodes_in_range.1 in
    let is = c.driver_of-count.ensures in
    omega arith

pub left_of-requires : goal.left_of-requires
left_of-requires g c =
    let w = c.in_ok-workers in
    let r = c.in_ok-rest in
    let workers = c.args.self.now.workers in
    let a = pairs_length (IsControlOn c.args.self.now.cluster workers) c.args.boards.now w.workers.controls.items w.ensures.controls in
    let b = pairs_length (AreDatasOn c.args.self.now.cluster c.args.self.now.corpus.now workers) c.args.boards.now (lists_of w.workers.datas.items) w.ensures.datas in
    let d : length r.rest.controls.items ≡ length w.workers.controls.items = pairs_length _ _ _ r.ensures.controls in
    let e : length (lists_of r.rest.datas.items) ≡ length (lists_of w.workers.datas.items) = pairs_length _ _ _ r.ensures.datas in
    let f : length (lists_of r.rest.datas.items) ≡ length r.rest.datas.items = length-map r.rest.datas.items (λ own. own.items) in
    (record { shared = c.type_bounds.sync-G.shared }, (omega arith))

pub returns-clause-seats : goal.returns-clause-seats
returns-clause-seats g c =
    let boards = c.args.boards.now in
    let cluster = c.args.self.now.cluster in
    let workers = c.args.self.now.workers in
    let w = c.in_ok-workers in
    let r = c.in_ok-rest in
    let left = c.in_ok-left.left.boards.items in
    let are = c.in_ok-left.ensures in
    of_boards boards left
    (seats_after cluster workers boards c.args.seats.items left r.rest.controls.items (lists_of r.rest.datas.items) are.places c.requires.boards
    (controls_left cluster workers _ boards w.workers.controls.items r.rest.controls.items w.ensures.controls r.ensures.controls)
    (datas_left cluster c.args.self.now.corpus.now workers _ _ (λ v f. f.0) boards (lists_of w.workers.datas.items) (lists_of r.rest.datas.items) w.ensures.datas r.ensures.datas)
    are.left are.dealt.boards_are)

pub returns-clause-none : goal.returns-clause-none
returns-clause-none g c =
    let boards = c.args.boards.now in
    let cluster = c.args.self.now.cluster in
    let workers = c.args.self.now.workers in
    let w = c.in_ok-workers in
    let r = c.in_ok-rest in
    let left = c.in_ok-left.left.boards.items in
    let are = c.in_ok-left.ensures in
    hold_nothing boards left
    (seats_after cluster workers boards c.args.seats.items left r.rest.controls.items (lists_of r.rest.datas.items) are.places c.requires.boards
    (controls_left cluster workers _ boards w.workers.controls.items r.rest.controls.items w.ensures.controls r.ensures.controls)
    (datas_left cluster c.args.self.now.corpus.now workers _ _ (λ v f. f.0) boards (lists_of w.workers.datas.items) (lists_of r.rest.datas.items) w.ensures.datas r.ensures.datas)
    are.left are.dealt.boards_are)

pub returns-clause-linked : goal.returns-clause-linked
returns-clause-linked g c =
    let w = c.in_ok-workers in
    let r = c.in_ok-rest in
    let ends = c.in_ok-ends.ends.items in
    let back = c.in_ok-left.left.inboxes.items in
    let are = c.in_ok-left.ensures in
    linked_still ends back
    (ends_kept _ _ _ _ _ _ c.args.self.now.workers c.args.seats.items ends w.workers.controls.items (lists_of w.workers.datas.items) w.workers.driver r.rest.driver r.rest.controls.items (lists_of r.rest.datas.items) are.places back
    w.ensures.manned r.ensures.controls r.ensures.datas r.ensures.driver are.left are.dealt.inboxes_are)
    c.in_ok-ends.ensures.linked

pub returns-clause-ends : goal.returns-clause-ends
returns-clause-ends g c =
    let w = c.in_ok-workers in
    let r = c.in_ok-rest in
    let ends = c.in_ok-ends.ends.items in
    let back = c.in_ok-left.left.inboxes.items in
    let are = c.in_ok-left.ensures in
    let long = pairs_length SameEnds ends back
    (ends_kept _ _ _ _ _ _ c.args.self.now.workers c.args.seats.items ends w.workers.controls.items (lists_of w.workers.datas.items) w.workers.driver r.rest.driver r.rest.controls.items (lists_of r.rest.datas.items) are.places back
    w.ensures.manned r.ensures.controls r.ensures.datas r.ensures.driver are.left are.dealt.inboxes_are) in
    long ∙ c.in_ok-ends.ensures.count ∙ ap (λ (n : ℕ). n + 1) c.driver_of-count.ensures ∙ ap (λ (n : ℕ). driver_of c.args.self.now.workers n + 1) (sym c.requires.boards.boards_count)

pub returns-clause-worked : goal.returns-clause-worked
returns-clause-worked g c =
    let w = c.in_ok-workers in
    let r = c.in_ok-rest in
    let left = c.in_ok-left in
    all_worked c.args.self.now.cluster c.args.self.now.corpus.now c.args.self.now.workers _ c.args.boards.now c.args.seats.items left.left.boards.items c.in_ok-ends.ends.items left.left.inboxes.items
    w.workers.controls.items (lists_of w.workers.datas.items) w.workers.driver r.rest.driver r.rest.controls.items (lists_of r.rest.datas.items) c.in_ok-ends.ensures.new w.ensures.manned w.ensures.datas r.ensures.datas left.ensures
    _ w.ensures.controls r.ensures.controls
