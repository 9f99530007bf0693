-- A new core belongs to a seat with no ban, and its worker has done nothing.
use Rattle.std.proofs.Common.{ℕ, sym, ap, ◌∙◌, subst}
use Rattle.control_worker.specs.View.{view_of, new_view}
use Rattle.control_worker.proofs.Belonging.{together_new}
use Rattle.race_board.specs.Seats.{board_size, control_view}
use Rattle.node_worker.specs.Control as control
use Rattle.run_cluster.specs.Workers.{IsNewControl}
use Rattle.run_cluster.proofs.jobs.Ground.control.Goals as goal

pub new-kind-requires-clause-together : goal.new-kind-requires-clause-together
new-kind-requires-clause-together g c κs within =
    let b = c.new-board.ensures in
    together_new _ _ _ (view_of c.in_ok-core.core) c.args.node c.args.self.now.workers b.fresh (c.in_ok-core.ensures.new ∙ ap (new_view c.args.node c.args.self.now.workers) (sym (ap (λ (x : _). (board_size x).slots) b.is.0 ∙ c.requires.slots)))

pub returns-clause-new : goal.returns-clause-new
returns-clause-new g c =
    let b = c.new-board.ensures in
    let k = c.new-kind.ensures in
    let same = ap (λ (w : _). w.worker) c.new-2.ensures in
    subst (λ (kind : _). IsNewControl c.args.self.now.cluster c.args.self.now.workers c.args.board.now (control.seen kind.state)) (sym same) (record {
      over = ap (λ (x : _). x.board.now) k.is.2 ∙ b.is.0;
      seat = ap (λ (x : _). control_view x.seat) k.is.2 ∙ ap control_view b.is.1 ∙ c.requires.new;
      core = ap view_of k.is.1 ∙ c.in_ok-core.ensures.new ∙ ap (λ (n : ℕ). new_view n c.args.self.now.workers c.args.self.now.cluster.slots) (sym c.requires.own);
      nodes = k.is.0;
      nobody_left = k.nobody_left;
    })

pub returns-clause-ends : goal.returns-clause-ends
returns-clause-ends g c = record { inbox = ap (λ (w : _). w.inbox) c.new-2.ensures; senders = ap (λ (w : _). w.senders) c.new-2.ensures }
