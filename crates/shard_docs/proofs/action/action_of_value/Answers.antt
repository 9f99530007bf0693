use Rattle.std.proofs.lemmas.Result.{err_from_is_err_and}
use Rattle.serde_json.specs.View.{view}
use Rattle.shard_docs.proofs.ActionLemmas.{target_whole, id_says}
use Rattle.shard_docs.proofs.action.action_of_value.Goals as goal

pub id_of-requires : goal.id_of-requires
id_of-requires c = target_whole (view c.args.value.now) (c.in_ok-kind.kind, view c.in_ok-kind.target.now) c.requires c.in_ok-kind.ensures.kind

pub returns-in_err-id_of-clause-action : goal.returns-in_err-id_of-clause-action
returns-in_err-id_of-clause-action c =
    let p = err_from_is_err_and c.from_residual-in_err-id_of.result c.from_residual-in_err-id_of.ensures.1 in
    rw (p.1, p.2)
    (id_says c.args.number (view c.args.value.now) (c.in_ok-kind.kind, view c.in_ok-kind.target.now) c.in-Some.index.now c.in_err-id_of.field-0.0 c.in_ok-kind.ensures.kind c.in-Some.ensures c.in_err-id_of.ensures.id)
