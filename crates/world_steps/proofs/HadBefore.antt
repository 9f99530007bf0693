-- What was known before a move, and what a move leaves when it came to its end.
use Rattle.std.proofs.Common.{◌≡◌, ℕ, ◌+◌, ◌≤◌, List, [], ◌++◌, length, refl, sym, ap, subst, ◌∙◌, inl, inr, arith}
use Rattle.world_steps.specs.declared.ready.Ready.{Ready}
use Rattle.std.proofs.lemmas.List.{length-append}
use Rattle.task_ids.specs.declared.task_id.TaskId.{TaskId}
use Rattle.task_events.specs.declared.event.Event.{Event}
use Rattle.world_moves.specs.declared.state.State.{State}
use Rattle.world_moves.specs.Moves.{IsPartly}
use Rattle.world_moves.specs.Ties.{Keeps}
use Rattle.world_steps.specs.World.{HasReady, HadReady}
use Rattle.task_ids.specs.declared.cluster.Cluster.{Cluster}
use Rattle.task_ids.specs.declared.corpus.Corpus.{Corpus}
use Rattle.script_lang.specs.declared.command.Script.{Script}
use Rattle.world_steps.specs.declared.acting.Stepped.{Stepped}
use Rattle.world_steps.specs.declared.acting.Stepped.TheVariants.{Done, Waiting, NotRunning}
use Rattle.node_parts.specs.declared.listing.Listing.{Listing}
use Rattle.world_moves.specs.declared.listings.ListStep.{ListStep}
use Rattle.world_moves.specs.declared.listings.ListStep.TheVariants.{Done as Listing_done, NoListing}
use Rattle.world_moves.specs.Listings.{AnswersListing, ListSteps}
use Rattle.world_steps.specs.Runs.{AnswersStep, Steps}
use Rattle.world_steps.proofs.Readiness.{had_ready as ready_before}
use Rattle.world_steps.proofs.Turning.{Follows, stepped_there, listed_after}

pub had_ready_by : (old new : State) (ready : Ready) (before : ℕ) → before ≡ length old.history → HasReady old ready → Keeps old new → (events : List Event) → new.history ≡ events ++ old.history → HadReady new before ready
had_ready_by old new ready before so_many known keeps events same = subst (λ n. HadReady new n ready) (sym so_many) (ready_before old new ready events known keeps same)

pub had_ready : (old new : State) (ready : Ready) (before : ℕ) → before ≡ length old.history → HasReady old ready → Keeps old new → Follows old.history new.history → HadReady new before ready
had_ready old new ready before so_many known keeps (events, same, none) = had_ready_by old new ready before so_many known keeps events same

pub not_past : (h new : List Event) (before : ℕ) → before ≡ length h → Follows h new → before ≤ length new
not_past h new before so_many (events, same, none) = let all : length new ≡ length events + length h = ap length same ∙ length-append events h in omega (arith, all, so_many)

-- a move that came to its end
pub wholly : (Moves : List Event → List Event → Type 0) (h new : List Event) → Moves h new → Follows h new → IsPartly Moves h new
wholly Moves h new moves (events, same, none) = inr (new, moves, ([], events, refl, same))

module _ (cluster : Cluster) (corpus : Corpus) (script : Script) (t : TaskId) (h new : List Event) where
  pub partly_stepped : (stepped : Stepped) → AnswersStep cluster corpus script t h stepped new → IsPartly (Steps cluster corpus script t) h new
  partly_stepped Done steps = wholly (Steps cluster corpus script t) h new steps (stepped_there cluster corpus script t h new Done steps)
  partly_stepped Waiting (live, waits, same) = inl same
  partly_stepped NotRunning (gone, same) = inl same

pub partly_listed : (l : Listing) (h new : List Event) (stepped : ListStep) → AnswersListing l h stepped new → IsPartly (ListSteps l) h new
partly_listed l h new Listing_done steps = wholly (ListSteps l) h new steps (listed_after l h new steps)
partly_listed l h new NoListing (closed, same) = inl same
