use Rattle.std.proofs.Common.{◌∙◌, sym, ap, Some}
use Rattle.std.proofs.lemmas.Option.{same_Some}
use Rattle.task_ids.proofs.SameId.{same_id-from_test, test-from_same_id}
use Rattle.child_track.proofs.track.ChildTrack.is_parent_in.Goals as goal

pub returns-in-Some : goal.returns-in-Some
returns-in-Some c =
    let task_is = ap (λ t. t.task) c.self.view_is in
    let parent_is = c.in-Some.ensures in (
      λ equal. sym parent_is ∙ ap Some (same_id-from_test _ _ (sym c.eq.ensures ∙ equal) ∙ task_is),
      λ same. c.eq.ensures ∙ test-from_same_id _ _ (same_Some _ _ (parent_is ∙ same) ∙ sym task_is),
    )
