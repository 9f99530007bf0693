-- A shuffle goes on by one move.
use Rattle.std.proofs.Common.{◌≡◌, ℕ, suc, ◌+◌, ◌-◌, ◌<◌, List, Result, Ok, Err, IfErr, refl, sym, subst, inl, inr, arith}
use Rattle.task_ids.specs.declared.task_id.TaskId.{TaskId}
use Rattle.task_ids.specs.declared.cluster.Cluster.{Cluster}
use Rattle.task_ids.specs.declared.corpus.Corpus.{Corpus}
use Rattle.task_events.specs.declared.event.Event.{Event}
use Rattle.task_events.specs.declared.stop.Stop.{Stop}
use Rattle.node_parts.specs.declared.listing.Listing.{Listing}
use Rattle.script_lang.specs.declared.command.Script.{Script}
use Rattle.script_lang.specs.Generator.{next_number}
use Rattle.world_moves.specs.declared.state.State.{State}
use Rattle.world_moves.specs.Listings.{ListSteps}
use Rattle.world_moves.specs.Moves.{IsPartly, StopsDelivery, StopsMove}
use Rattle.world_moves.specs.Ties.{IsTied, Keeps}
use Rattle.world_moves.proofs.Outcomes.{stops_as}
use Rattle.world_steps.specs.declared.ready.Ready.{Ready}
use Rattle.world_steps.specs.declared.shuffling.Move.{Move}
use Rattle.world_steps.specs.declared.shuffling.Move.TheVariants as moves
use Rattle.world_steps.specs.Runs.{IsSettled, Steps}
use Rattle.world_steps.specs.Shuffling.{Chooses, Makes, MoveLacksNumber, MovesBy, PartlyShuffles, Shuffles, ShufflingLacksNumber, StopsMaking, StopsShuffling}
use Rattle.world_steps.specs.World.{HasReady}
use Rattle.world_steps.proofs.Commanded.{carried, keeps_on}

module _ (cluster : Cluster) (corpus : Corpus) (script : Script) where
  -- a part of a move that a number of chance chooses
  pub partly_by : (chance : ℕ) (move : Move) (h new : List Event) → Chooses cluster corpus script chance move h → IsPartly (Makes cluster corpus script move) h new → IsPartly (MovesBy cluster corpus script chance) h new
  partly_by chance move h new chosen (inl same) = inl same
  partly_by chance move h new chosen (inr (whole, makes, part)) = inr (whole, (move, chosen, makes), part)

module _ (start : State) (seed moves : ℕ) where
  -- What the other moves of a shuffle make of a past is what the shuffle makes of the first one: so many moves are made, and the number of chance is this.
  pub record Continues (h : List Event) (made chance : ℕ) : Type 0 where
    pub whole : (new : List Event) → Shuffles start.cluster start.corpus.now start.script.now chance (moves - made) h new → Shuffles start.cluster start.corpus.now start.script.now seed moves start.history new
    pub partly : (new : List Event) → PartlyShuffles start.cluster start.corpus.now start.script.now chance (moves - made) h new → PartlyShuffles start.cluster start.corpus.now start.script.now seed moves start.history new
    pub lacks : (new : List Event) → ShufflingLacksNumber start.cluster start.corpus.now start.script.now chance (moves - made) h new → ShufflingLacksNumber start.cluster start.corpus.now start.script.now seed moves start.history new

  -- A shuffle has come so far.
  pub record HasShuffled (now : State) (ready : Ready) (made chance : ℕ) : Type 0 where
    pub tied : IsTied now
    pub known : HasReady now ready
    pub keeps : Keeps start now
    pub continues : Continues now.history made chance

  module _ (h : List Event) (made chance : ℕ) (below : made < moves) (so_far : Continues h made chance) where
    left : moves - made ≡ suc (moves - (made + 1))
    left = omega (arith, below)

    whole_of : (new : List Event) → Shuffles start.cluster start.corpus.now start.script.now chance (suc (moves - (made + 1))) h new → Shuffles start.cluster start.corpus.now start.script.now seed moves start.history new
    whole_of new s = so_far.whole new (subst (λ n. Shuffles start.cluster start.corpus.now start.script.now chance n h new) (sym left) s)

    partly_of : (new : List Event) → PartlyShuffles start.cluster start.corpus.now start.script.now chance (suc (moves - (made + 1))) h new → PartlyShuffles start.cluster start.corpus.now start.script.now seed moves start.history new
    partly_of new s = so_far.partly new (subst (λ n. PartlyShuffles start.cluster start.corpus.now start.script.now chance n h new) (sym left) s)

    lacks_of : (new : List Event) → ShufflingLacksNumber start.cluster start.corpus.now start.script.now chance (suc (moves - (made + 1))) h new → ShufflingLacksNumber start.cluster start.corpus.now start.script.now seed moves start.history new
    lacks_of new s = so_far.lacks new (subst (λ n. ShufflingLacksNumber start.cluster start.corpus.now start.script.now chance n h new) (sym left) s)

    -- no move is left
    pub rests : IsSettled start.cluster start.corpus.now start.script.now h → Shuffles start.cluster start.corpus.now start.script.now seed moves start.history h
    rests settled = whole_of h (inl (settled, refl))

    -- one move more
    pub goes_on : (next : List Event) → MovesBy start.cluster start.corpus.now start.script.now (next_number chance) h next → Continues next (made + 1) (next_number chance)
    goes_on next moved = record {
      whole = λ new rest. whole_of new (inr (next, moved, rest));
      partly = λ new rest. partly_of new (inr (next, moved, rest));
      lacks = λ new rest. lacks_of new (inr (next, moved, rest));
    }

    -- the next move comes to an early end
    pub cut : (new : List Event) → IsPartly (MovesBy start.cluster start.corpus.now start.script.now (next_number chance)) h new → PartlyShuffles start.cluster start.corpus.now start.script.now seed moves start.history new
    cut new part = partly_of new (inl part)

    pub stops : (move : Move) (new : List Event) (stop : Stop) → Chooses start.cluster start.corpus.now start.script.now (next_number chance) move h → StopsMaking start.cluster start.corpus.now start.script.now move h new stop
        → StopsShuffling start.cluster start.corpus.now start.script.now seed moves start.history new stop
    stops move new stop chosen =
        stops_as (IsPartly (Makes start.cluster start.corpus.now start.script.now move) h) (PartlyShuffles start.cluster start.corpus.now start.script.now seed moves start.history)
        (MoveLacksNumber start.cluster start.corpus.now start.script.now move h × (new ≡ h)) (ShufflingLacksNumber start.cluster start.corpus.now start.script.now seed moves start.history new) new stop
        (λ past part. cut past (partly_by start.cluster start.corpus.now start.script.now (next_number chance) move h past chosen part))
        (λ lacks. lacks_of new (inl ((move, chosen, lacks.0), lacks.1)))

  -- what a later state says, said of the first
  pub of_first : (P : Cluster → Corpus → Script → List Event → Type 0) (now : State) → Keeps start now → (h : List Event) → P now.cluster now.corpus.now now.script.now h → P start.cluster start.corpus.now start.script.now h
  of_first P now k h p = carried P now.cluster start.cluster now.corpus.now start.corpus.now now.script.now start.script.now h h k.cluster k.corpus k.script refl p

-- ---- a move of a shuffle that is under way

module _ (start now : State) (seed moves : ℕ) (ready : Ready) (made chance number : ℕ) (below : made < moves) (s : HasShuffled start seed moves now ready made chance) (same : number ≡ next_number chance) where
  of_start : (P : Cluster → Corpus → Script → Type 0) → P now.cluster now.corpus.now now.script.now → P start.cluster start.corpus.now start.script.now
  of_start P p = of_first start seed moves (λ cluster corpus script h. P cluster corpus script) now s.keeps now.history p

  -- there is none
  pub none_left : IsSettled now.cluster now.corpus.now now.script.now now.history → Shuffles start.cluster start.corpus.now start.script.now seed moves start.history now.history
  none_left settled = rests start seed moves now.history made chance below s.continues (of_start (λ cluster corpus script. IsSettled cluster corpus script now.history) settled)

  module _ (move : Move) (chosen : Chooses now.cluster now.corpus.now now.script.now number move now.history) where
    is_chosen : Chooses start.cluster start.corpus.now start.script.now (next_number chance) move now.history
    is_chosen = subst (λ n. Chooses start.cluster start.corpus.now start.script.now n move now.history) same (of_start (λ cluster corpus script. Chooses cluster corpus script number move now.history) chosen)

    pub part_of_shuffle : (new : List Event) → IsPartly (Makes now.cluster now.corpus.now now.script.now move) now.history new → PartlyShuffles start.cluster start.corpus.now start.script.now seed moves start.history new
    part_of_shuffle new part =
        cut start seed moves now.history made chance below s.continues new
        (partly_by start.cluster start.corpus.now start.script.now (next_number chance) move now.history new is_chosen (of_start (λ cluster corpus script. IsPartly (Makes cluster corpus script move) now.history new) part))

    pub stop_of_shuffle : (new : List Event) (stop : Stop) → StopsMaking now.cluster now.corpus.now now.script.now move now.history new stop → StopsShuffling start.cluster start.corpus.now start.script.now seed moves start.history new stop
    stop_of_shuffle new stop why =
        stops start seed moves now.history made chance below s.continues move new stop is_chosen (of_start (λ cluster corpus script. StopsMaking cluster corpus script move now.history new stop) why)

    pub shuffled_on : (next : State) (after : Ready) → IsTied next → HasReady next after → Keeps now next → Makes now.cluster now.corpus.now now.script.now move now.history next.history → HasShuffled start seed moves next after (made + 1) number
    shuffled_on next after tied known keeps makes = record {
      tied = tied;
      known = known;
      keeps = keeps_on s.keeps keeps;
      continues = subst (λ n. Continues start seed moves next.history (made + 1) n) (sym same)
          (goes_on start seed moves now.history made chance below s.continues next.history (move, is_chosen, of_start (λ cluster corpus script. Makes cluster corpus script move now.history next.history) makes));
    }

-- ---- a move

module _ (cluster : Cluster) (corpus : Corpus) (script : Script) (move : Move) (h new : List Event) where
  -- why the delivery of a message comes to an early end is why the move does
  pub delivery_stops_move : (nth : ℕ) (r : Result (Unit {0}) Stop) → move ≡ moves.Deliver nth → IfErr r (λ stop. StopsDelivery cluster h nth new stop) → IfErr r (λ stop. StopsMaking cluster corpus script move h new stop)
  delivery_stops_move nth (Ok x) is why = tt
  delivery_stops_move nth (Err stop) is why = subst (λ m. StopsMaking cluster corpus script m h new stop) (sym is) why

  -- and likewise for a listing and for a task
  pub listing_stops_move : (l : Listing) (stop : Stop) → move ≡ moves.List l → StopsMove (ListSteps l) h new stop → StopsMaking cluster corpus script move h new stop
  listing_stops_move l stop is why =
      subst (λ m. StopsMaking cluster corpus script m h new stop) (sym is)
      (stops_as (IsPartly (ListSteps l) h) (IsPartly (ListSteps l) h) ⊥ (⊥ × (new ≡ h)) new stop (λ past part. part) (λ lacks. absurd lacks) why)

  pub step_stops_move : (t : TaskId) (stop : Stop) → move ≡ moves.Step t → StopsMove (Steps cluster corpus script t) h new stop → StopsMaking cluster corpus script move h new stop
  step_stops_move t stop is why =
      subst (λ m. StopsMaking cluster corpus script m h new stop) (sym is)
      (stops_as (IsPartly (Steps cluster corpus script t) h) (IsPartly (Steps cluster corpus script t) h) ⊥ (⊥ × (new ≡ h)) new stop (λ past part. part) (λ lacks. absurd lacks) why)
