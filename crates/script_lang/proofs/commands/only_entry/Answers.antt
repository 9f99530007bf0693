use Rattle.std.proofs.Common.{Some, ap, ◌∙◌, arith}
use Rattle.serde_json.specs.View.{view}
use Rattle.script_lang.proofs.Shapes.{only_entry-one, only_entry-other}
use Rattle.script_lang.proofs.commands.only_entry.Goals as goal

pub returns-then-len-ne1 : goal.returns-then-len-ne1
returns-then-len-ne1 c = only_entry-other c.args.members.now.entries (λ e. omega arith)

pub returns-in-Some : goal.returns-in-Some
returns-in-Some c =
    ap (λ s. Some (s, view c.in-Some.value.now)) c.as_str.ensures.value
    ∙ only_entry-one c.args.members.now.entries (c.in-Some.key.now, c.in-Some.value.now) (omega arith) c.in-Some.ensures.first
