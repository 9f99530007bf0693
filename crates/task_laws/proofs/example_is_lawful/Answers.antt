use Rattle.task_laws.proofs.Examples.{lawful_for}
use Rattle.task_laws.proofs.example_is_lawful.Goals as goal

pub returns : goal.returns
returns c =
    let found = lawful_for c.args.cluster c.requires.nodes c.requires.slots c.args.root c.args.early c.args.late c.requires.root c.requires.early c.requires.late in
    record { lawful = found.0; late = found.1 }
