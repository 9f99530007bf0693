use Rattle.task_laws.proofs.DeepExamples.{deep_for}
use Rattle.task_laws.proofs.deep_example_is_lawful.Goals as goal

pub returns : goal.returns
returns c =
    let found = deep_for c.args.cluster c.requires.nodes c.requires.slots c.args.root c.args.child c.args.grandchild c.requires.root c.requires.child c.requires.grandchild in
    record { lawful = found.lawful; awaits = found.awaits; before = found.before; after = found.after }
