-- The list of all moves, and the places of its messages, listings and tasks.
use Rattle.std.proofs.Common.{◌≡◌, ℕ, ◌+◌, ◌-◌, ◌<◌, ◌≤◌, List, [], ◌∷◌, ◌++◌, map, length, slice_get, Bool, true, Option, Some, None, option_map, refl, sym, ap, ◌∙◌, arith}
use Rattle.std.specs.BTreeMap.{is_at}
use Rattle.std.specs.BTreeSet.{BTreeSet, contains, IsOrdered}
use Rattle.std.specs.List.{list_any, range_with_len}
use Rattle.std.proofs.lemmas.List.{length-append, length-map}
use Rattle.std.proofs.lemmas.List.FromFn.{get_or-range_with_len, length-range_with_len}
use Rattle.std.proofs.lemmas.Map.Views.{btree_set_contains_iff}
use Rattle.std.proofs.lemmas.Option.{slice_get-get_or, slice_get-map, slice_get_within, get_or_from_slice_get}
use Rattle.search_phase.proofs.Requests.{slice_get-append_left, slice_get-append_right}
use Rattle.task_ids.specs.declared.task_id.TaskId.{TaskId}
use Rattle.task_ids.specs.declared.cluster.Cluster.{Cluster}
use Rattle.task_ids.specs.declared.corpus.Corpus.{Corpus}
use Rattle.task_ids.specs.TaskIdOrder.{task_id_cmp}
use Rattle.task_events.specs.declared.event.Event.{Event}
use Rattle.task_events.specs.Messages.{Message, in_flight}
use Rattle.world_moves.specs.declared.flight.Sent.{Sent}
use Rattle.world_moves.specs.Flights.{message_of}
use Rattle.node_parts.specs.declared.listing.Listing.{Listing}
use Rattle.script_lang.specs.declared.command.Script.{Script}
use Rattle.world_moves.specs.Listings.{is_open, listing_cmp}
use Rattle.world_steps.specs.declared.shuffling.Move.{Move}
use Rattle.world_steps.specs.declared.shuffling.Move.TheVariants as moves
use Rattle.world_steps.specs.Runs.{is_ready}
use Rattle.world_steps.specs.Shuffling.{CanMove, Chooses, chosen_of, moves_of}

module _ (h : List Event) (listings : List Listing) (tasks : List TaskId) where
  abbrev messages : List Move
  messages = map moves.Deliver (range_with_len 0 (length (in_flight h)))

  as_many : length messages ≡ length (in_flight h)
  as_many = length-map (range_with_len 0 (length (in_flight h))) moves.Deliver ∙ length-range_with_len 0 (length (in_flight h))

  pub count_of : length (moves_of h listings tasks) ≡ length (in_flight h) + (length listings + length tasks)
  count_of =
      omega (arith, length-append messages (map moves.List listings ++ map moves.Step tasks), as_many, length-append (map moves.List listings) (map moves.Step tasks), length-map listings moves.List, length-map tasks moves.Step)

  pub message_at : (at : ℕ) → at < length (in_flight h) → slice_get (moves_of h listings tasks) at ≡ Some (moves.Deliver at)
  message_at at low =
      slice_get-append_left at messages (map moves.List listings ++ map moves.Step tasks) (omega (arith, as_many, low))
      ∙ slice_get-map moves.Deliver (range_with_len 0 (length (in_flight h))) at
      ∙ ap (option_map moves.Deliver) (in_range at (length (in_flight h)) low)
    where
      in_range : (at n : ℕ) → at < n → slice_get (range_with_len 0 n) at ≡ Some at
      in_range at n below =
          let same : 0 + at ≡ at = omega arith in
          slice_get-get_or (range_with_len 0 n) at at (omega (arith, below, length-range_with_len 0 n)) ∙ ap Some (get_or-range_with_len 0 n at at below ∙ same)

  pub listing_at : (place at : ℕ) (l : Listing) → at ≡ length (in_flight h) + place → slice_get listings place ≡ Some l → slice_get (moves_of h listings tasks) at ≡ Some (moves.List l)
  listing_at place at l is there =
      let low = slice_get_within listings place l there in
      let same : at ≡ place + length (in_flight h) = omega (arith, is) in
      ap (slice_get (moves_of h listings tasks)) same
      ∙ slice_get-append_right place (length (in_flight h)) messages (map moves.List listings ++ map moves.Step tasks) as_many
      ∙ slice_get-append_left place (map moves.List listings) (map moves.Step tasks) (omega (arith, length-map listings moves.List, low))
      ∙ slice_get-map moves.List listings place
      ∙ ap (option_map moves.List) there

  pub task_at : (place at : ℕ) (t : TaskId) → at ≡ length (in_flight h) + (length listings + place) → slice_get tasks place ≡ Some t → slice_get (moves_of h listings tasks) at ≡ Some (moves.Step t)
  task_at place at t is there =
      let same : at ≡ (place + length listings) + length (in_flight h) = omega (arith, is) in
      ap (slice_get (moves_of h listings tasks)) same
      ∙ slice_get-append_right (place + length listings) (length (in_flight h)) messages (map moves.List listings ++ map moves.Step tasks) as_many
      ∙ slice_get-append_right place (length listings) (map moves.List listings) (map moves.Step tasks) (length-map listings moves.List)
      ∙ slice_get-map moves.Step tasks place
      ∙ ap (option_map moves.Step) there

-- as many messages are in flight as are kept
pub as_many_sent : (h : List Event) (queue : List Sent) (ms : List Message) → map (message_of h) queue ≡ map Some ms → length queue ≡ length ms
as_many_sent h queue ms e = sym (length-map queue (message_of h)) ∙ ap length e ∙ length-map ms Some

-- what two sets have that are kept beside a past is all that can move
pub can_move : (cluster : Cluster) (corpus : Corpus) (script : Script) (h : List Event) (listings : BTreeSet Listing) (tasks : BTreeSet TaskId)
    → ((l : Listing) → contains listing_cmp listings l ≡ is_open l h) → ((t : TaskId) → contains task_id_cmp tasks t ≡ is_ready cluster corpus script h t)
    → IsOrdered listing_cmp listings → IsOrdered task_id_cmp tasks → CanMove cluster corpus script listings.keys tasks.keys h
can_move cluster corpus script h listings tasks opened ready in_order_too in_order = record {
  listings_ascend = in_order_too;
  listings_open = opened;
  tasks_ascend = in_order;
  tasks_ready = ready;
}

-- The place that a number of chance chooses among so many messages, listings and tasks is that of a move.
module _ (cluster : Cluster) (corpus : Corpus) (script : Script) (h : List Event) (listings : List Listing) (tasks : List TaskId) (can : CanMove cluster corpus script listings tasks h)
    (chance messages opened ready at : ℕ) (sent : messages ≡ length (in_flight h)) (listed : opened ≡ length listings) (waiting : ready ≡ length tasks) (chosen : at ≡ chosen_of chance (messages + opened + ready)) where
  same_count : messages + opened + ready ≡ length (moves_of h listings tasks)
  same_count = omega (arith, sent, listed, waiting, count_of h listings tasks)

  chooses : (move : Move) → slice_get (moves_of h listings tasks) at ≡ Some move → Chooses cluster corpus script chance move h
  chooses move there = (listings, tasks, can, ap (λ count. slice_get (moves_of h listings tasks) (chosen_of chance count)) (sym same_count) ∙ ap (slice_get (moves_of h listings tasks)) (sym chosen) ∙ there)

  pub message_chosen : at < messages → Chooses cluster corpus script chance (moves.Deliver at) h
  message_chosen low = chooses (moves.Deliver at) (message_at h listings tasks at (omega (arith, sent, low)))

  pub listing_chosen : (place : ℕ) (l : Listing) → at ≡ messages + place → slice_get listings place ≡ Some l → Chooses cluster corpus script chance (moves.List l) h
  listing_chosen place l is there = chooses (moves.List l) (listing_at h listings tasks place at l (omega (arith, sent, is)) there)

  pub task_chosen : (place : ℕ) (t : TaskId) → at ≡ messages + (opened + place) → slice_get tasks place ≡ Some t → Chooses cluster corpus script chance (moves.Step t) h
  task_chosen place t is there = chooses (moves.Step t) (task_at h listings tasks place at t (omega (arith, sent, listed, is)) there)
