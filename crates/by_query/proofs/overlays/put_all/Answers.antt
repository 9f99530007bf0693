-- One member more, from the last to the first.
use Rattle.std.proofs.Common.{◌≡◌, string_bytes, ap, ◌∙◌, rules}
use Rattle.serde_json.specs.Data.{put}
use Rattle.serde_json.specs.View.{view, members_view}
use Rattle.serde_json.proofs.Views.{members_view-insert_entry}
use Rattle.by_query.proofs.OverlayLemmas.{put_back}
use Rattle.by_query.proofs.overlays.put_all.Goals as goal

pub loop-later-preserved : goal.loop-later-preserved
loop-later-preserved c =
    let old = c.loop-later.all.entries in
    let name : string_bytes c.in_ok-key.key ≡ c.index-members-members.result.key = search rules in
    let value : view c.in_ok-clone.field-0 ≡ view c.index-members-members.result.value = search rules in
    ap members_view c.in_ok-insert.ensures.entries ∙ members_view-insert_entry old c.in_ok-key.key c.in_ok-clone.field-0 ∙ (λ i. put (name i) (value i) (members_view old))
    ∙ put_back c.args.members.now c.loop-later.later c.index-members-members.result _ _ c.loop-later-test.true c.index-members-members.is c.loop-later.invariant
