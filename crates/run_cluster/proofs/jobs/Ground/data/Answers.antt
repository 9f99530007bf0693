-- A new core belongs to a fresh seat, and its worker has done nothing.
use Rattle.std.proofs.Common.{ℕ, refl, sym, ap, ◌∙◌, subst}
use Rattle.std.specs.Global.{Vec}
use Rattle.data_core.specs.Cores.{IsNewDataCore}
use Rattle.data_core.proofs.Beginning.{new_of_setting}
use Rattle.data_core.proofs.Sound.{new_sound}
use Rattle.entry_facts.specs.Entries.{IsCoreOfRun}
use Rattle.race_board.specs.declared.board.RaceBoard.{RaceBoard}
use Rattle.race_board.specs.Checks.{IsClear}
use Rattle.race_board.specs.Seats.{seat_view, IsNew}
use Rattle.data_worker.specs.Data as own
use Rattle.run_cluster.specs.Workers.{HoldsShards, IsNewData}
use Rattle.run_cluster.proofs.Pools.{same_shards}
use Rattle.run_facts.specs.Cancels.{cancels_of}
use Rattle.run_cluster.proofs.jobs.Ground.data.Goals as goal

pub new-kind-requires-clause-fits : goal.new-kind-requires-clause-fits
new-kind-requires-clause-fits g c κs within =
    let b = c.new-board.ensures in
    let core = c.in_ok-core.core in
    let here = ap (λ (x : RaceBoard _). x.node) b.is.0 ∙ c.requires.own in
    new_sound _ _ _ _ _ core (subst (λ (n : ℕ). IsNewDataCore n core) (sym here) c.in_ok-core.ensures.new) b.fresh

-- it keeps what is known of the run
pub new-kind-requires-clause-of_run : goal.new-kind-requires-clause-of_run
new-kind-requires-clause-of_run g c κs within =
    let made = c.in_ok-core in
    new_of_setting g.W.Run.setting c.args.node c.args.self.now.cluster c.args.self.now.corpus.now made.core made.ensures.new made.ensures.lines made.ensures.own.2 c.requires.setting

pub new-requires-2 : goal.new-requires-2
new-requires-2 g c =
    let b = c.new-board.ensures in
    let is = c.new-kind.ensures.is in
    let core = c.in_ok-core.core in
    let here = ap (λ (x : RaceBoard _). x.node) b.is.0 ∙ c.requires.own in
    let sound = new_sound (cancels_of g.W.Run.cancels) _ _ _ (IsClear (seat_view c.new-board.result.seat)) core (subst (λ (n : ℕ). IsNewDataCore n core) (sym here) c.in_ok-core.ensures.new) b.fresh in
    let first = rw (sym is.0) at sound in
    let second = rw (sym is.1) at first in
    let made = c.in_ok-core in
    let known = new_of_setting g.W.Run.setting c.args.node c.args.self.now.cluster c.args.self.now.corpus.now core made.ensures.new made.ensures.lines made.ensures.own.2 c.requires.setting in
    (second, subst (λ (k : _). IsCoreOfRun g.W.Run.setting k.cluster.shards k.shards k.live) (sym is.0) known)

pub returns-clause-new : goal.returns-clause-new
returns-clause-new g c =
    let b = c.new-board.ensures in
    let k = c.new-kind.ensures.is in
    let made = c.in_ok-core in
    let pool = made.ensures.pool in
    let node = c.args.node in
    let worker = c.args.worker in
    let cluster = c.args.self.now.cluster in
    let held = ap (λ (v : Vec ℕ). v.items) made.ensures.held ∙ c.in_ok-shards.ensures.held ∙ same_shards cluster.nodes cluster.shards c.args.self.now.workers node worker made.core.pool pool.nodes pool.shards pool.workers in
    let same = ap (λ (w : _). own.seen w.worker.state) c.new-2.ensures
    ∙ (λ i. record { core = k.0 i; board = k.1 i; last = k.2 i; has_said = k.3 i }) in
    subst (λ (v : _). IsNewData c.args.self.now.cluster c.args.self.now.corpus.now c.args.self.now.workers c.args.board.now worker v) (sym same) (record {
      over = b.is.0;
      seat = subst (IsNew c.args.board.now) (sym b.is.1) c.requires.new;
      core = subst (λ (n : ℕ). IsNewDataCore n made.core) (sym c.requires.own) made.ensures.new;
      number = made.ensures.own.1;
      pool = pool;
      shards = subst (λ (n : ℕ). HoldsShards c.args.self.now.cluster c.args.self.now.corpus.now n worker made.core) (sym c.requires.own) (record { numbers = held; lines = made.ensures.lines });
      contexts = made.ensures.contexts;
      begins = made.ensures.begins;
      cluster_is = made.ensures.own.2;
      quota = made.ensures.own.3 ∙ c.quota_of-quota.ensures;
      last = refl;
      unsaid = refl;
    })

pub returns-clause-ends : goal.returns-clause-ends
returns-clause-ends g c = record { inbox = ap (λ (w : _). w.inbox) c.new-2.ensures; senders = ap (λ (w : _). w.senders) c.new-2.ensures }
