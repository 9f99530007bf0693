-- The first of the tasks that do not wait makes its step.
use Rattle.std.proofs.Common.{◌≡◌, ◌≢◌, ◌≤◌, Bool, true, false, ◌&&◌, List, [], ◌∷◌, length, map, Option, Some, None, refl, sym, ◌∙◌, inl, inr}
use Rattle.std.specs.Prelude.{is_some}
use Rattle.std.specs.declared.cmp.Ordering.{Ordering}
use Rattle.std.specs.declared.cmp.Ordering.TheVariants.{Less, Equal, Greater}
use Rattle.std.specs.BTreeSet.{BTreeSet, contains, IsLowerBound}
use Rattle.std.specs.Ordering.{is_le, is_gt}
use Rattle.task_ids.specs.declared.task_id.TaskId.{TaskId}
use Rattle.task_ids.specs.declared.cluster.Cluster.{Cluster}
use Rattle.task_ids.specs.declared.corpus.Corpus.{Corpus}
use Rattle.task_ids.specs.TaskIdOrder.{task_id_cmp}
use Rattle.task_events.specs.declared.event.Event.{Event}
use Rattle.task_events.specs.declared.history.TheConstants.{MAX_EVENTS}
use Rattle.task_events.specs.Tasks.{is_live}
use Rattle.task_events.specs.Messages.{Message, in_flight}
use Rattle.script_lang.specs.declared.command.Script.{Script}
use Rattle.world_steps.specs.declared.acting.Stepped.{Stepped}
use Rattle.world_steps.specs.declared.acting.Stepped.TheVariants.{Done, Waiting, NotRunning}
use Rattle.world_moves.specs.declared.flight.Sent.{Sent}
use Rattle.world_moves.specs.Flights.{message_of}
use Rattle.node_parts.specs.declared.listing.Listing.{Listing}
use Rattle.world_moves.specs.Listings.{is_open}
use Rattle.world_moves.specs.Moves.{IsPartly}
use Rattle.world_steps.specs.Runs.{next_of, Steps, AnswersStep, IsReady, IsFirstReady, FirstMoves, HasRoom}
use Rattle.world_steps.specs.World.{is_ready}

-- no entry, no message
pub nothing_in_flight : (h : List Event) (queue : List Sent) (ms : List Message) → map (message_of h) queue ≡ map Some ms → length queue ≡ 0 → ms ≡ []
nothing_in_flight h [] [] e n = refl
nothing_in_flight h [] (m ∷ ms) e n = absurd (cc)
nothing_in_flight h (s ∷ queue) ms e n = absurd (cc)

both_true : (a b : Bool) → (a && b) ≡ true → (a ≡ true) × (b ≡ true)
both_true true true e = (refl, refl)
both_true true false e = absurd (cc)
both_true false b e = absurd (cc)

not_none : {A : Type 0} (o : Option A) → is_some o ≡ true → o ≢ None
not_none None e = λ n. cc
not_none (Some a) e = λ n. cc

some_is : {A : Type 0} (o : Option A) → o ≢ None → is_some o ≡ true
some_is None n = absurd (n refl)
some_is (Some a) n = refl

not_above : (o : Ordering) → is_gt o ≡ false → is_le o ≡ true
not_above Less e = refl
not_above Equal e = refl
not_above Greater e = absurd (cc)

module _ (cluster : Cluster) (corpus : Corpus) (script : Script) (h : List Event) where
  ready : (t : TaskId) → is_ready cluster corpus script h t ≡ true → IsReady cluster corpus script t h
  ready t e = let parts = both_true (is_live t h) (is_some (next_of cluster corpus script t h)) e in (parts.0, not_none (next_of cluster corpus script t h) parts.1)

  is_in : (t : TaskId) → IsReady cluster corpus script t h → is_ready cluster corpus script h t ≡ true
  is_in t r = rw r.0 (some_is (next_of cluster corpus script t h) r.1)

  pub first_ready : (set : BTreeSet TaskId) (t : TaskId) → ((q : TaskId) → contains task_id_cmp set q ≡ is_ready cluster corpus script h q) → contains task_id_cmp set t ≡ true → IsLowerBound task_id_cmp set t
      → IsFirstReady cluster corpus script t h
  first_ready set t known member least = (ready t (sym (known t) ∙ member), λ u r. not_above (task_id_cmp t u) (least u (known u ∙ is_in u r)))

  -- a ready task does not wait
  pub makes_step : (t : TaskId) (stepped : Stepped) (new : List Event) → IsReady cluster corpus script t h → AnswersStep cluster corpus script t h stepped new → Steps cluster corpus script t h new
  makes_step t Done new r a = a
  makes_step t Waiting new r (l, waits, same) = absurd (r.1 waits)
  makes_step t NotRunning new r a = absurd (let x = sym r.0 ∙ a.0 in cc)

  has_room : (t : TaskId) (stepped : Stepped) (new : List Event) → IsReady cluster corpus script t h → AnswersStep cluster corpus script t h stepped new → HasRoom stepped new → length new ≤ MAX_EVENTS
  has_room t Done new r a room = room
  has_room t Waiting new r (l, waits, same) room = absurd (r.1 waits)
  has_room t NotRunning new r a room = absurd (let x = sym r.0 ∙ a.0 in cc)

  pub first_has_room : (set : BTreeSet TaskId) (t : TaskId) → ((q : TaskId) → contains task_id_cmp set q ≡ is_ready cluster corpus script h q) → contains task_id_cmp set t ≡ true → IsLowerBound task_id_cmp set t
      → (stepped : Stepped) (new : List Event) → AnswersStep cluster corpus script t h stepped new → HasRoom stepped new → length new ≤ MAX_EVENTS
  first_has_room set t known member least stepped new a room = has_room t stepped new (first_ready set t known member least).0 a room

  -- the step of the first ready task is a first move where nothing is in flight and no listing is open
  pub first_move : (set : BTreeSet TaskId) (t : TaskId) → ((q : TaskId) → contains task_id_cmp set q ≡ is_ready cluster corpus script h q) → contains task_id_cmp set t ≡ true → IsLowerBound task_id_cmp set t
      → in_flight h ≡ [] → ((l : Listing) → is_open l h ≡ false) → (stepped : Stepped) (new : List Event) → AnswersStep cluster corpus script t h stepped new → FirstMoves cluster corpus script h new
  first_move set t known member least none closed stepped new a =
      let first = first_ready set t known member least in
      inr (inr (none, closed, (t, first, makes_step t stepped new first.0 a)))

  pub first_part : (set : BTreeSet TaskId) (t : TaskId) → ((q : TaskId) → contains task_id_cmp set q ≡ is_ready cluster corpus script h q) → contains task_id_cmp set t ≡ true → IsLowerBound task_id_cmp set t
      → in_flight h ≡ [] → ((l : Listing) → is_open l h ≡ false) → (new : List Event) → IsPartly (Steps cluster corpus script t) h new → IsPartly (FirstMoves cluster corpus script) h new
  first_part set t known member least none closed new (inl same) = inl same
  first_part set t known member least none closed new (inr (whole, steps, part)) = inr (whole, inr (inr (none, closed, (t, first_ready set t known member least, steps))), part)
