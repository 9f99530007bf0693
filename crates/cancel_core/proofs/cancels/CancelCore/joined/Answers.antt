use Rattle.std.proofs.Common.{List, Option, Some, IsSome, ◌++◌, refl, ap, sym, subst, ◌∙◌}
use Rattle.cancel_core.specs.declared.act.Act.{Act}
use Rattle.cancel_core.specs.Cancellation.{Cancellation}
use Rattle.cancel_core.specs.Cancellations.{entry_of}
use Rattle.cancel_core.specs.Acts.{join_acts, joined_by}
use Rattle.cancel_core.proofs.Entries.{entry_there, entry_changed, entries_same, on_err}
use Rattle.cancel_core.proofs.cancels.CancelCore.joined.Goals as goal

pub join_in-requires : goal.join_in-requires
join_in-requires c =
    subst (λ (o : Option Cancellation). IsSome o) (sym (entry_there c.self.inside.node c.self.inside.entries.entries c.self.inside.listings c.args.self.now c.self.view_is c.args.task c.requires.has)) refl

pub returns-in_err-join_in-clause-err : goal.returns-in_err-join_in-clause-err
returns-in_err-join_in-clause-err c =
    on_err c.from_residual.result _ (entries_same c.self.inside.node c.self.inside.entries.entries c.self.inside.listings c.args.self.now c.self.view_is c.join_in.new.entries.entries c.in_err-join_in.ensures.err)

pub returns-clause-acts : goal.returns-clause-acts
returns-clause-acts c =
    let there = entry_there c.self.inside.node c.self.inside.entries.entries c.self.inside.listings c.args.self.now c.self.view_is c.args.task c.requires.has in
    c.in_ok-join_in.ensures.acts (entry_of c.args.self.now c.args.task) there
    ∙ ap (λ (acts : List Act). acts ++ join_acts c.args.task (entry_of c.args.self.now c.args.task) c.args.waiter) c.new-acts.ensures.items

pub returns-clause-joined : goal.returns-clause-joined
returns-clause-joined c =
    let there = entry_there c.self.inside.node c.self.inside.entries.entries c.self.inside.listings c.args.self.now c.self.view_is c.args.task c.requires.has in
    entry_changed c.self.inside.node c.self.inside.entries.entries c.self.inside.listings c.args.self.now c.self.view_is c.join_in.new.entries.entries c.args.task
    (Some (joined_by (entry_of c.args.self.now c.args.task) c.args.waiter)) (c.in_ok-join_in.ensures.joined (entry_of c.args.self.now c.args.task) there)

pub returns-in_err-join_in-clause-waiting : goal.returns-in_err-join_in-clause-waiting
returns-in_err-join_in-clause-waiting c =
    let there = entry_there c.self.inside.node c.self.inside.entries.entries c.self.inside.listings c.args.self.now c.self.view_is c.args.task c.requires.has in
    c.in_err-join_in.ensures.waiting (entry_of c.args.self.now c.args.task) there

pub returns-clause-waiting : goal.returns-clause-waiting
returns-clause-waiting c =
    let there = entry_there c.self.inside.node c.self.inside.entries.entries c.self.inside.listings c.args.self.now c.self.view_is c.args.task c.requires.has in
    c.in_ok-join_in.ensures.waiting (entry_of c.args.self.now c.args.task) there
