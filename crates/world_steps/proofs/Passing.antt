-- Some first moves and one more.
use Rattle.std.proofs.lemmas.List.{length-append}
use Rattle.std.proofs.Common.{◌<◌, ◌≤◌, map, reverse, ℕ, ◌-◌, List, [], ◌∷◌, ◌++◌, length, refl, sym, subst, ◌∙◌, inl, inr, arith}
use Rattle.task_ids.specs.declared.cluster.Cluster.{Cluster}
use Rattle.task_ids.specs.declared.corpus.Corpus.{Corpus}
use Rattle.task_events.specs.declared.event.Event.{Event}
use Rattle.script_lang.specs.declared.command.Script.{Script}
use Rattle.task_events.specs.declared.event.Event.TheVariants.{Refuse, Acked, Work, End}
use Rattle.task_events.specs.declared.request.WriteNote.{WriteNote}
use Rattle.task_events.specs.Requests.{request_of}
use Rattle.task_events.specs.Steps.{turns_of}
use Rattle.task_events.specs.Written.{corpus_at, turn_notes, with_notes, write_of}
use Rattle.command_roots.specs.Roots.{scripted}
use Rattle.std.specs.Option.{option_map_or}
use Rattle.world_moves.specs.Cancels.{answer_to, due_for, with_due}
use Rattle.task_events.specs.declared.stop.Stop.{Stop}
use Rattle.world_moves.specs.Moves.{IsPartly, DeliveryLacksNumber}
use Rattle.world_moves.proofs.Outcomes.{stops_as}
use Rattle.world_steps.specs.declared.ready.Ready.{Ready}
use Rattle.world_steps.specs.Runs.{after_step, FirstMoves, FirstLacksNumber, Passes, PartlySettles, SettlingLacksNumber, StopsFirst, StopsSettling}
use Rattle.world_moves.specs.declared.state.State.{State}
use Rattle.world_moves.specs.Ties.{IsTied, Keeps}
use Rattle.world_steps.specs.World.{HasReady, HasSettled}

module _ (cluster : Cluster) (corpus : Corpus) (script : Script) where
  further : (h : List Event) (between : List (List Event)) (m n : List Event) → Passes cluster corpus script h between m → FirstMoves cluster corpus script m n → Passes cluster corpus script h (between ++ n ∷ []) n
  further h [] m n same moves = (subst (λ x. FirstMoves cluster corpus script x n) (sym same) moves, refl)
  further h (next ∷ later) m n passes moves = (passes.0, further next later m n passes.1 moves)

  abbrev pub HasPassed : List Event → List Event → Type 0
  HasPassed h m = (between : List (List Event)) × Passes cluster corpus script h between m

  pub one_more : (h m n : List Event) → HasPassed h m → FirstMoves cluster corpus script m n → HasPassed h n
  one_more h m n (between, passes) moves = (between ++ n ∷ [], further h between m n passes moves)

  pub partly_more : (h m n : List Event) → HasPassed h m → IsPartly (FirstMoves cluster corpus script) m n → PartlySettles cluster corpus script h n
  partly_more h m n (between, passes) part = (between, m, passes, part)

  -- why its next first move comes to an early end is why settling does
  pub settling_stops : (h m n : List Event) (stop : Stop) → HasPassed h m → StopsFirst cluster corpus script m n stop → StopsSettling cluster corpus script h n stop
  settling_stops h m n stop (between, passes) =
      stops_as (IsPartly (FirstMoves cluster corpus script) m) (PartlySettles cluster corpus script h) (FirstLacksNumber cluster corpus script m n) (SettlingLacksNumber cluster corpus script h n) n stop
      (λ past part. partly_more h m past (between, passes) part)
      (λ lacks. (between, subst (λ x. Passes cluster corpus script h between x) (sym lacks.1) passes, subst (λ x. DeliveryLacksNumber cluster x 0) (sym lacks.1) lacks.0))

-- an event makes the past longer, with the answers that come due
pub due_longer : (e : Event) (h : List Event) → length h < length (with_due e h)
due_longer (Refuse t c) h = omega (arith, length-append (reverse (map (answer_to (Refuse t c ∷ h)) (due_for t (Refuse t c ∷ h)))) (Refuse t c ∷ h))
due_longer (End t reply) h = omega (arith, length-append (reverse (map (answer_to (End t reply ∷ h)) (due_for t (End t reply ∷ h)))) (End t reply ∷ h))
due_longer (Acked p n) h = omega (arith, length-append (reverse (map (answer_to (Acked p n ∷ h)) (due_for p (Acked p n ∷ h)))) (Acked p n ∷ h))
due_longer e h = omega arith

-- and so do the writes of a turn
noted_longer : (notes : List WriteNote) (h : List Event) → length h ≤ length (with_notes notes h)
noted_longer [] h = omega arith
noted_longer (note ∷ notes) h = let more = noted_longer notes (write_of note ∷ h) in omega (arith, more)

module _ (cluster : Cluster) (corpus : Corpus) (script : Script) where
  pub step_longer : (e : Event) (h : List Event) → length h < length (after_step cluster corpus script e h)
  step_longer (Work t) h =
      let more = noted_longer (option_map_or (λ request. turn_notes cluster (corpus_at corpus (scripted script) h) request (turns_of t h)) (request_of (scripted script) t h) []) (Work t ∷ h) in
      omega (arith, more)
  step_longer e h = due_longer e h

  pub move_longer : (h new : List Event) → FirstMoves cluster corpus script h new → length h < length new
  move_longer h new (inl (m, e, at, is, same)) = rw same (due_longer e h)
  move_longer h new (inr (inl (none, (l, first, (e, opened, is, same))))) = rw same (omega arith)
  move_longer h new (inr (inr (none, closed, (t, first, (e, live, next, same))))) = rw same (step_longer e h)

-- the measure of settling falls
pub less_left : (most n m : ℕ) → m ≤ most → n < m → most - m < most - n
less_left most n m room longer = omega (arith, room, longer)

-- settling goes on by a first move
module _ (start now next : State) (ready : Ready) where
  moves_from_start : Keeps start now → FirstMoves now.cluster now.corpus.now now.script.now now.history next.history → FirstMoves start.cluster start.corpus.now start.script.now now.history next.history
  moves_from_start k m =
      subst (λ x. FirstMoves x start.corpus.now start.script.now now.history next.history) k.cluster
      (subst (λ x. FirstMoves now.cluster x start.script.now now.history next.history) k.corpus
      (subst (λ x. FirstMoves now.cluster now.corpus.now x now.history next.history) k.script m))

  pub settled_on : (after : Ready) → HasSettled start now ready → IsTied next → HasReady next after → Keeps now next → FirstMoves now.cluster now.corpus.now now.script.now now.history next.history → HasSettled start next after
  settled_on after s tied known keeps moved = record {
    tied = tied;
    known = known;
    keeps = record {
      cluster = keeps.cluster ∙ s.keeps.cluster;
      corpus = keeps.corpus ∙ s.keeps.corpus;
      script = keeps.script ∙ s.keeps.script;
    };
    passes = one_more start.cluster start.corpus.now start.script.now start.history now.history next.history s.passes (moves_from_start s.keeps moved);
  }

  pub partly_on : HasSettled start now ready → IsPartly (FirstMoves now.cluster now.corpus.now now.script.now) now.history next.history → PartlySettles start.cluster start.corpus.now start.script.now start.history next.history
  partly_on s part =
      partly_more start.cluster start.corpus.now start.script.now start.history now.history next.history s.passes
      (subst (λ x. IsPartly (FirstMoves x start.corpus.now start.script.now) now.history next.history) s.keeps.cluster
      (subst (λ x. IsPartly (FirstMoves now.cluster x start.script.now) now.history next.history) s.keeps.corpus
      (subst (λ x. IsPartly (FirstMoves now.cluster now.corpus.now x) now.history next.history) s.keeps.script part)))

  pub stops_on : HasSettled start now ready → (stop : Stop) → StopsFirst now.cluster now.corpus.now now.script.now now.history next.history stop → StopsSettling start.cluster start.corpus.now start.script.now start.history next.history stop
  stops_on s stop cut =
      settling_stops start.cluster start.corpus.now start.script.now start.history now.history next.history stop s.passes
      (subst (λ x. StopsFirst x start.corpus.now start.script.now now.history next.history stop) s.keeps.cluster
      (subst (λ x. StopsFirst now.cluster x start.script.now now.history next.history stop) s.keeps.corpus
      (subst (λ x. StopsFirst now.cluster now.corpus.now x now.history next.history stop) s.keeps.script cut)))
