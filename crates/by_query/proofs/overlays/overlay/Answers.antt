-- What was put together is the overlay, and a source.
use Rattle.std.proofs.Common.{◌≡◌, ◌≤◌, false, true≢false, is_some, sym, ap, subst, ◌∙◌}
use Rattle.serde_json.specs.Data.{Data, object, no_members, depth}
use Rattle.serde_json.specs.Find.{as_object, get}
use Rattle.serde_json.specs.Read.{max_depth}
use Rattle.serde_json.specs.View.{view, members_view}
use Rattle.serde_json.specs.Written.{has_float}
use Rattle.serde_json.specs.declared.value.Value.TheVariants.{Object}
use Rattle.serde_json.proofs.Views.{view-Object}
use Rattle.task_ids.specs.Source.{IsSource, members_in}
use Rattle.by_query.specs.Overlays.{overlay, with_members}
use Rattle.by_query.proofs.OverlayLemmas.{get-overlay, memory_left, nests_overlay, whole_overlay}
use Rattle.by_query.proofs.overlays.overlay.Goals as goal

pub new-requires : goal.new-requires
new-requires c =
    let seen : view (Object c.put_all-2.new.all) ≡ object (with_members (members_in c.members-2.result.now) (with_members (members_in c.members.result.now) no_members)) =
    view-Object c.put_all-2.new.all
    ∙ ap object (c.in_ok-put_all-2.ensures ∙ ap (with_members (members_in c.members-2.result.now)) (c.in_ok-put_all.ensures ∙ ap (λ es. with_members (members_in c.members.result.now) (members_view es)) c.new-members.ensures.empty)) in
    subst (λ (d : Data). depth d ≤ max_depth) (sym seen)
    (nests_overlay (members_in c.members.result.now) (members_in c.members-2.result.now) (subst IsSource (sym c.members.ensures.all) c.know.ensures) (subst IsSource (sym c.members-2.ensures.all) c.know-2.ensures))

pub returns-in-Ok-clause-values : goal.returns-in-Ok-clause-values
returns-in-Ok-clause-values c =
    let seen : view (Object c.put_all-2.new.all) ≡ overlay (object (members_in c.members.result.now)) (object (members_in c.members-2.result.now)) =
    view-Object c.put_all-2.new.all
    ∙ ap object (c.in_ok-put_all-2.ensures ∙ ap (with_members (members_in c.members-2.result.now)) (c.in_ok-put_all.ensures ∙ ap (λ es. with_members (members_in c.members.result.now) (members_view es)) c.new-members.ensures.empty)) in
    let made : c.in-Ok.made ≡ overlay c.args.source.now c.args.set.now = c.in-Ok.ensures.ok ∙ seen ∙ (λ i. overlay (c.members.ensures.all i) (c.members-2.ensures.all i)) in
    λ key. ap (get key) made ∙ get-overlay c.args.source.now c.args.set.now key

pub only_memory-requires : goal.only_memory-requires
only_memory-requires c =
    let made = with_members (members_in c.members-2.result.now) (with_members (members_in c.members.result.now) no_members) in
    let seen : view (Object c.put_all-2.new.all) ≡ object made =
    view-Object c.put_all-2.new.all
    ∙ ap object (c.in_ok-put_all-2.ensures ∙ ap (with_members (members_in c.members-2.result.now)) (c.in_ok-put_all.ensures ∙ ap (λ es. with_members (members_in c.members.result.now) (members_view es)) c.new-members.ensures.empty)) in
    let whole : has_float (view (Object c.put_all-2.new.all)) ≡ false =
    subst (λ (d : Data). has_float d ≡ false) (sym seen)
    (whole_overlay (members_in c.members.result.now) (members_in c.members-2.result.now) (subst IsSource (sym c.members.ensures.all) c.know.ensures) (subst IsSource (sym c.members-2.ensures.all) c.know-2.ensures)) in
    memory_left c.new.result c.in-Err.fault c.in-Err.is (λ e. true≢false (sym (c.new.ensures.not_whole.0 e) ∙ whole)) (λ e. true≢false (sym (ap (λ d. is_some (as_object d)) seen) ∙ (c.new.ensures.not_object.0 e).1))
