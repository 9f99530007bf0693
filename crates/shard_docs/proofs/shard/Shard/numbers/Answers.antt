use Rattle.std.proofs.Common.{◌≤◌, List, sym, subst, arith}
use Rattle.std.specs.List.{AllByRecursion}
use Rattle.task_ids.specs.declared.doc.Doc.{Doc}
use Rattle.shard_docs.specs.Numbers.{IsNumberAt, numbers_of}
use Rattle.shard_docs.specs.declared.numbers.NumberAt.{NumberAt}
use Rattle.shard_docs.proofs.Numbered.{told_at}
use Rattle.shard_docs.proofs.ShardParts.{same_writes}
use Rattle.shard_docs.proofs.shard.Shard.numbers.Goals as goal

pub returns-then-oldest-version : goal.returns-then-oldest-version
returns-then-oldest-version c =
    let s = c.self.inside.rows in
    let f = c.args.field.now in
    let version = c.args.version in
    let readable : s.oldest ≤ version = omega (arith, c.if-oldest-version.true, c.oldest.ensures) in
    subst (λ (l : List NumberAt). AllByRecursion (IsNumberAt f version c.args.self.now.writes) l) (sym c.at.ensures)
    (subst (λ (writes : List Doc). AllByRecursion (IsNumberAt f version writes) (numbers_of c.self.inside.numbers f)) (same_writes c.self.view_is) (told_at f version s c.self.invariant.0.0.died readable c.self.inside.numbers c.self.invariant.0.4))
