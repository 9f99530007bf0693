use Rattle.std.proofs.Common.{◌≡◌, List, [], ◌∷◌, ◌∙◌, rules, subst, sym}
use Rattle.std.specs.List.{AllByRecursion}
use Rattle.serde_json.specs.Data.{Data, object}
use Rattle.serde_json.specs.View.{view}
use Rattle.task_ids.specs.declared.source.Member.{Member}
use Rattle.task_ids.specs.Source.{members_in, values_at}
use Rattle.task_ids.proofs.Members.{each_alone}
use Rattle.task_ids.proofs.source.DocSource.members.Goals as goal

pub returns-clause-alone : goal.returns-clause-alone
returns-clause-alone c =
    let ms = c.self.inside.members in
    let whole : object (members_in ms) ≡ c.args.self.now = search rules in
    let given : c.as_slice.result.now ≡ ms = c.as_slice.ensures ∙ c.get.ensures in
    subst (λ (l : List Member). AllByRecursion (λ m. values_at m.key c.args.self.now ≡ view m.value ∷ []) l) (sym given)
    (subst (λ (d : Data). AllByRecursion (λ m. values_at m.key d ≡ view m.value ∷ []) ms) whole (each_alone ms c.self.invariant.1))
