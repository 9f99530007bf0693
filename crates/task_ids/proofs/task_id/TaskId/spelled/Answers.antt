-- Each exit but the last is one where no id is spelled: the text lacks the letter or the colon, or what stands round the colon is no number in range.
use Rattle.std.proofs.Common.{◌∷◌, ◌++◌, decimal, Some, None, refl, ap, lit<}
use Rattle.std.proofs.lemmas.Str.Pattern.{strip_prefix_char, split_parts}
use Rattle.task_ids.proofs.SameId.{same_id}
use Rattle.task_ids.proofs.Spelling.{split_id, joined, none_spelled}
use Rattle.task_ids.proofs.task_id.TaskId.spelled.Goals as goal

pub returns-in_err-strip_prefix : goal.returns-in_err-strip_prefix
returns-in_err-strip_prefix c = none_spelled _ c.args.text.now c.from_residual.ensures (λ t e.
    strip_prefix_char 110 c.args.text.now None c.in_err-strip_prefix.ensures.cases (lit< tt) (decimal t.node ++ (58 ∷ decimal t.number)) e)

pub returns-in_err-node : goal.returns-in_err-node
returns-in_err-node c =
    let prefix = strip_prefix_char 110 c.args.text.now (Some c.in_ok-strip_prefix.field-0) c.in_ok-strip_prefix.ensures.cases (lit< tt) in
    none_spelled _ c.args.text.now c.from_residual-in_err-node.ensures (λ t e.
    split_id t c.args.text.now c.in_ok-strip_prefix.field-0.now None c.in_err-node.ensures.cases prefix e)

pub returns-in_err-node-2 : goal.returns-in_err-node-2
returns-in_err-node-2 c =
    let prefix = strip_prefix_char 110 c.args.text.now (Some c.in_ok-strip_prefix.field-0) c.in_ok-strip_prefix.ensures.cases (lit< tt) in
    none_spelled _ c.args.text.now c.from_residual-in_err-node-2.ensures (λ t e.
    let parts = split_id t c.args.text.now c.in_ok-strip_prefix.field-0.now (Some (c.in_ok-node.node, c.in_ok-node.number)) c.in_ok-node.ensures.cases prefix e in
    let wrong = (c.in_err-node-2.ensures t.node).1 (t.node_in_range.0, t.node_in_range.1, parts.0) in absurd (cc))

pub returns-in_err-number : goal.returns-in_err-number
returns-in_err-number c =
    let prefix = strip_prefix_char 110 c.args.text.now (Some c.in_ok-strip_prefix.field-0) c.in_ok-strip_prefix.ensures.cases (lit< tt) in
    none_spelled _ c.args.text.now c.from_residual-in_err-number.ensures (λ t e.
    let parts = split_id t c.args.text.now c.in_ok-strip_prefix.field-0.now (Some (c.in_ok-node.node, c.in_ok-node.number)) c.in_ok-node.ensures.cases prefix e in
    let wrong = (c.in_err-number.ensures t.number).1 (t.number_in_range.0, t.number_in_range.1, parts.1) in absurd (cc))

pub invariant_of-result : goal.invariant_of-result
invariant_of-result c =
    let node = (c.in_ok-node-2.ensures c.in_ok-node-2.node).0 refl in
    let number = (c.in_ok-number.ensures c.in_ok-number.number).0 refl in
    record { node_in_range = (node.0, node.1); number_in_range = (number.0, number.1) }

pub returns : goal.returns
returns c t =
    let prefix = strip_prefix_char 110 c.args.text.now (Some c.in_ok-strip_prefix.field-0) c.in_ok-strip_prefix.ensures.cases (lit< tt) in
    let parts = split_parts 58 c.in_ok-strip_prefix.field-0.now (Some (c.in_ok-node.node, c.in_ok-node.number)) c.in_ok-node.ensures.cases (lit< tt) in
    let node = (c.in_ok-node-2.ensures c.in_ok-node-2.node).0 refl in
    let number = (c.in_ok-number.ensures c.in_ok-number.number).0 refl in (
      (λ h. joined _ t c.args.text.now c.in_ok-strip_prefix.field-0.now c.in_ok-node.node.now c.in_ok-node.number.now h prefix parts.0 node.2 number.2),
      (λ e.
          let cut = split_id t c.args.text.now c.in_ok-strip_prefix.field-0.now (Some (c.in_ok-node.node, c.in_ok-node.number)) c.in_ok-node.ensures.cases prefix e in
          let same_node = (c.in_ok-node-2.ensures t.node).1 (t.node_in_range.0, t.node_in_range.1, cut.0) in
          let same_number = (c.in_ok-number.ensures t.number).1 (t.number_in_range.0, t.number_in_range.1, cut.1) in
          ap Some (same_id _ t (cc) (cc))),
    )
