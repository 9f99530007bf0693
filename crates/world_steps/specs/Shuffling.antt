-- Shuffles: moves that look like chance.
use Rattle.std.specs.Prelude.{◌≡◌, ◌⊎◌, ◌<◌, ℕ, zero, suc, ◌/◌, ◌%◌, ◌^◌, true, List, ◌++◌, map, length, slice_get, Some}
use Rattle.std.specs.BTreeMap.{is_at}
use Rattle.std.specs.List.{list_any, range_with_len}
use Rattle.std.specs.List.Sorted.{IsStrictlySortedBy}
use Rattle.task_ids.specs.declared.task_id.TaskId.{TaskId}
use Rattle.task_ids.specs.declared.cluster.Cluster.{Cluster}
use Rattle.task_ids.specs.declared.corpus.Corpus.{Corpus}
use Rattle.task_ids.specs.TaskIdOrder.{task_id_cmp}
use Rattle.task_events.specs.declared.event.Event.{Event}
use Rattle.task_events.specs.declared.stop.Stop.{Stop}
use Rattle.task_events.specs.Messages.{in_flight}
use Rattle.node_parts.specs.declared.listing.Listing.{Listing}
use Rattle.script_lang.specs.declared.command.Script.{Script}
use Rattle.script_lang.specs.Generator.{next_number}
use Rattle.world_moves.specs.Listings.{is_open, listing_cmp, ListSteps}
use Rattle.world_moves.specs.Moves.{Delivers, DeliveryLacksNumber, IsPartly, Stops}
use Rattle.world_steps.specs.declared.shuffling.Move.{Move}
use Rattle.world_steps.specs.declared.shuffling.Move.TheVariants as moves
use Rattle.world_steps.specs.Runs.{is_ready, IsSettled, Steps}

-- all moves: each message in its order, each listing, each task
abbrev pub moves_of : List Event → List Listing → List TaskId → List Move
moves_of h listings tasks = map moves.Deliver (range_with_len 0 (length (in_flight h))) ++ (map moves.List listings ++ map moves.Step tasks)

-- the place of a move among so many by a number of chance: its upper bits, which repeat latest
abbrev pub chosen_of : (chance count : ℕ) → ℕ
chosen_of chance count = (chance / 2 ^ 33) % count

module _ (cluster : Cluster) (corpus : Corpus) (script : Script) where
  -- These are the open listings and the live tasks that do not wait, in order.
  pub record CanMove (listings : List Listing) (tasks : List TaskId) (h : List Event) : Type 0 where
    pub listings_ascend : IsStrictlySortedBy listing_cmp listings
    pub listings_open : (l : Listing) → list_any (is_at (listing_cmp l)) listings ≡ is_open l h
    pub tasks_ascend : IsStrictlySortedBy task_id_cmp tasks
    pub tasks_ready : (t : TaskId) → list_any (is_at (task_id_cmp t)) tasks ≡ is_ready cluster corpus script h t

  -- the move can be made
  abbrev pub IsMove : Move → List Event → Type 0
  IsMove (moves.Deliver nth) h = nth < length (in_flight h)
  IsMove (moves.List l) h = is_open l h ≡ true
  IsMove (moves.Step t) h = is_ready cluster corpus script h t ≡ true

  -- the past after a move
  abbrev pub Makes : Move → List Event → List Event → Type 0
  Makes (moves.Deliver nth) h new = Delivers cluster h nth new
  Makes (moves.List l) h new = ListSteps l h new
  Makes (moves.Step t) h new = Steps cluster corpus script t h new

  -- a move for which a number is lacking
  abbrev pub MoveLacksNumber : Move → List Event → Type 0
  MoveLacksNumber (moves.Deliver nth) h = DeliveryLacksNumber cluster h nth
  MoveLacksNumber _ h = ⊥

  -- why a move comes to an early end
  abbrev pub StopsMaking : Move → List Event → List Event → Stop → Type 0
  StopsMaking move h new stop = Stops (IsPartly (Makes move) h) (MoveLacksNumber move h × (new ≡ h)) new stop

  -- the move that a number of chance chooses among all that there are
  abbrev pub Chooses : ℕ → Move → List Event → Type 0
  Chooses chance move h =
      (listings : List Listing) × (tasks : List TaskId) × CanMove listings tasks h
      × (slice_get (moves_of h listings tasks) (chosen_of chance (length (moves_of h listings tasks))) ≡ Some move)

  -- the past after the move of a number of chance
  abbrev pub MovesBy : ℕ → List Event → List Event → Type 0
  MovesBy chance h new = (move : Move) × Chooses chance move h × Makes move h new

  abbrev pub LacksBy : ℕ → List Event → Type 0
  LacksBy chance h = (move : Move) × Chooses chance move h × MoveLacksNumber move h

  -- The past after so many moves, or as many as there are: each takes the number of chance after the one before.
  abbrev pub Shuffles : (chance moves : ℕ) → List Event → List Event → Type 0
  Shuffles chance zero h new = new ≡ h
  Shuffles chance (suc more) h new =
      (IsSettled cluster corpus script h × (new ≡ h))
      ⊎ ((next : List Event) × MovesBy (next_number chance) h next × Shuffles (next_number chance) more next new)

  -- a first part of that
  abbrev pub PartlyShuffles : (chance moves : ℕ) → List Event → List Event → Type 0
  PartlyShuffles chance zero h new = new ≡ h
  PartlyShuffles chance (suc more) h new =
      IsPartly (MovesBy (next_number chance)) h new
      ⊎ ((next : List Event) × MovesBy (next_number chance) h next × PartlyShuffles (next_number chance) more next new)

  -- it has come to a move for which a number is lacking
  abbrev pub ShufflingLacksNumber : (chance moves : ℕ) → List Event → List Event → Type 0
  ShufflingLacksNumber chance zero h new = ⊥
  ShufflingLacksNumber chance (suc more) h new =
      (LacksBy (next_number chance) h × (new ≡ h))
      ⊎ ((next : List Event) × MovesBy (next_number chance) h next × ShufflingLacksNumber (next_number chance) more next new)

  -- why it comes to an early end
  abbrev pub StopsShuffling : (chance moves : ℕ) → List Event → List Event → Stop → Type 0
  StopsShuffling chance moves h new stop = Stops (PartlyShuffles chance moves h) (ShufflingLacksNumber chance moves h new) new stop
