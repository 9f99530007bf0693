-- A new core belongs to a new seat and to its run, and a worker may go to another thread, since its seat and its gate may.
use denote.Param.Send.{sendable}
use Rattle.std.proofs.Common.{ℕ, sym, ap, subst, ◌∙◌}
use Rattle.std.specs.Prelude.{[], IfSome}
use Rattle.std.proofs.Crossing.{crosses}
use Rattle.control_worker.specs.View.{view_of, new_view}
use Rattle.control_worker.proofs.Belonging.{together_new}
use Rattle.reply_facts.specs.Settings.{only}
use Rattle.entry_facts.specs.Entries.{IsEntryOfRun}
use Rattle.data_core.specs.Cores.{IsNewDataCore}
use Rattle.data_core.proofs.Sound.{new_sound}
use Rattle.data_worker.proofs.KindSends.{kind_send}
use Rattle.node_worker.proofs.control.ControlKind.TheSendSync as control
use Rattle.node_tests.proofs.boards.on_board.Goals as goal

pub new-control-requires-clause-together : goal.new-control-requires-clause-together
new-control-requires-clause-together g c κs within = together_new _ _ _ (view_of c.in_ok-core.core) 1 1 c.requires.no_ban (c.in_ok-core.ensures.new ∙ ap (new_view 1 1) (sym c.requires.slots))

pub new-data-requires-clause-fits : goal.new-data-requires-clause-fits
new-data-requires-clause-fits g c κs within =
    let own = c.in-Some.own in
    new_sound _ _ _ _ _ own (subst (λ (n : ℕ). IsNewDataCore n own) (sym c.requires.own) c.in-Some.ensures.new) c.requires.fresh

pub new-data-requires-clause-of_run : goal.new-data-requires-clause-of_run
new-data-requires-clause-of_run g c κs within =
    let own = c.in-Some.own in
    record {
      tasks = λ n. subst (λ o. IfSome o (IsEntryOfRun (only (record { lines = [] }) 2) own.shards)) (sym (c.in-Some.ensures.new.live.tasks n)) tt;
      steady = λ index shard stays. absurd cc;
      as_many = c.in-Some.ensures.shards;
    }

pub run-requires-send-C : goal.run-requires-send-C
run-requires-send-C g c κs within = let s = c.type_bounds.send-C in let y = c.type_bounds.sync-G in search (control.the_send, sendable, crosses) depth 20

pub run-requires-send-D : goal.run-requires-send-D
run-requires-send-D g c κs within = let s = c.type_bounds.send-D in let y = c.type_bounds.sync-G in search (kind_send, sendable, crosses) depth 20
