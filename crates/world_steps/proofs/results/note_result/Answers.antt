use Rattle.std.proofs.Common.{◌≡◌, ◌∙◌, ◌∷◌, ◌+◌, ◌-◌, ℕ, false, refl, sym, ap, subst, length}
use Rattle.task_ids.specs.declared.task_id.TaskId.{TaskId}
use Rattle.task_events.specs.declared.event.Event.{Event}
use Rattle.task_events.specs.declared.event.Event.TheVariants.{Begin, Root, End}
use Rattle.task_events.specs.declared.reply.Reply.{Reply}
use Rattle.task_events.specs.Lawful.{Lawful}
use Rattle.corpus_shards.proofs.Cases.{then_ok}
use Rattle.world_steps.specs.Results.{KnowsResults}
use Rattle.world_steps.specs.World.{past_of}
use Rattle.world_steps.proofs.Readiness.{lawful_before}
use Rattle.world_steps.proofs.ResultsFollow.{ends_without, is_of_results, starts_apart, other_known}
use Rattle.world_steps.proofs.results.note_result.Goals as goal

-- what is left where an event is none of the three
of_others : (e : Event) → ((k : ℕ) → e ≡ Begin k → ⊥) → ((k : ℕ) (t : TaskId) → e ≡ Root k t → ⊥) → ((t : TaskId) (reply : Reply) → e ≡ End t reply → ⊥) → is_of_results e ≡ false
of_others (Begin k) begin root end = absurd (begin k refl)
of_others (Root k t) begin root end = absurd (root k t refl)
of_others (End t reply) begin root end = absurd (end t reply refl)
of_others _ begin root end = refl

pub note_root-requires : goal.note_root-requires
note_root-requires c =
    let s = c.args.state.now in
    let past = past_of c.args.at s.history in
    let happened = c.requires.event ∙ ap (λ e. e ∷ past) c.in-Root.is in
    record {
      fresh = starts_apart s.script.now past c.args.results.now c.requires.known s.cluster c.in-Root.command c.in-Root.task
          (subst (Lawful s.cluster) happened (lawful_before s.cluster (length s.history - (c.args.at + 1)) s.history c.requires.tied.ties.lawful));
    }

pub note_end-requires : goal.note_end-requires
note_end-requires c =
    let s = c.args.state.now in
    let past = past_of c.args.at s.history in
    let happened = c.requires.event ∙ ap (λ e. e ∷ past) c.in-End.is in
    record {
      none = ends_without s.script.now past c.args.results.now c.requires.known s.cluster c.in-End.task c.in-End.reply
          (subst (Lawful s.cluster) happened (lawful_before s.cluster (length s.history - (c.args.at + 1)) s.history c.requires.tied.ties.lawful));
    }

pub returns-in-Begin-clause-known : goal.returns-in-Begin-clause-known
returns-in-Begin-clause-known c =
    let s = c.args.state.now in
    let past = past_of c.args.at s.history in
    let happened = c.requires.event ∙ ap (λ e. e ∷ past) c.in-Begin.is in
    subst (λ h. KnowsResults s.script.now h c.note_begin.new.results) (sym happened) (c.note_begin.ensures past c.requires.known)

pub returns-in-Root-clause-known : goal.returns-in-Root-clause-known
returns-in-Root-clause-known c =
    let s = c.args.state.now in
    let past = past_of c.args.at s.history in
    let happened = c.requires.event ∙ ap (λ e. e ∷ past) c.in-Root.is in
    then_ok c.note_root.result _ _ c.note_root.ensures.known (λ on. subst (λ h. KnowsResults s.script.now h c.note_root.new.results) (sym happened) (on past c.requires.known))

pub returns-in-End-clause-known : goal.returns-in-End-clause-known
returns-in-End-clause-known c =
    let s = c.args.state.now in
    let past = past_of c.args.at s.history in
    let happened = c.requires.event ∙ ap (λ e. e ∷ past) c.in-End.is in
    then_ok c.note_end.result _ _ c.note_end.ensures.known (λ on. subst (λ h. KnowsResults s.script.now h c.note_end.new.results) (sym happened) (on s.script.now past c.requires.known))

pub returns-in_default-clause-known : goal.returns-in_default-clause-known
returns-in_default-clause-known c =
    let s = c.args.state.now in
    let past = past_of c.args.at s.history in
    let other = of_others c.args.event.now c.in_default.not-Begin c.in_default.not-Root c.in_default.not-End in
    subst (λ h. KnowsResults s.script.now h c.args.results.now) (sym c.requires.event) (other_known s.script.now c.args.event.now past c.args.results.now other c.requires.known)
