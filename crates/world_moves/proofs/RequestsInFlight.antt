-- What is so of a request that reaches its node.
use Rattle.std.proofs.Common.{◌≡◌, ◌<◌, ◌≤◌, ℕ, List, Option, Some, None, refl, sym, ◌∙◌}
use Rattle.std.specs.Prelude.{slice_get, remove, option_map, option_and_then}
use Rattle.task_ids.specs.declared.task_id.TaskId.{TaskId}
use Rattle.task_ids.specs.declared.task_info.Headers.{Headers}
use Rattle.task_ids.specs.declared.cluster.Cluster.{Cluster}
use Rattle.task_ids.specs.declared.corpus.Corpus.{Corpus}
use Rattle.child_track.specs.Token.{Token}
use Rattle.task_table.specs.Table.{Table}
use Rattle.task_events.specs.declared.request.Request.{Request as AskedFor}
use Rattle.task_events.specs.declared.event.Event.{Event}
use Rattle.task_events.specs.Asks.{node_of_ask, request_of_ask}
use Rattle.task_events.specs.Messages.{Message, in_flight, is_request, without, number_in_flight}
use Rattle.task_events.specs.Messages.Message.{Request}
use Rattle.task_events.specs.Laws.{IsTold}
use Rattle.task_laws.proofs.Same.{same_pair_refl}
use Rattle.task_laws.proofs.Asks.{ask_facts}
use Rattle.task_laws.proofs.Bans.{ban_facts}
use Rattle.task_laws.proofs.Once.{once_each}
use Rattle.task_laws.proofs.Places.{at_place}
use Rattle.task_laws.proofs.Content.{told}
use Rattle.task_laws.proofs.Reach.{reach_facts}
use Rattle.script_lang.specs.declared.command.Script.{Script}
use Rattle.world_moves.specs.declared.flight.Sent.{Sent}
use Rattle.world_moves.specs.declared.flight.Sent.TheVariants as sent
use Rattle.node_parts.specs.declared.running.Running.{Running}
use Rattle.world_moves.specs.Flights.{event_at, message_of, request_in}
use Rattle.world_moves.specs.Ties.{Ties}
use Rattle.task_ids.proofs.Each.{all_here}
use Rattle.world_moves.proofs.ByPlace.{pair_at}

-- The entry is the request of an ask to the node, and stands in flight at its place.
pub record Arrives (cluster : Cluster) (h : List Event) (nth : ℕ) (token : Token) (to at : ℕ) : Type 0 where
  pub asked : AskedFor
  pub stands : option_and_then request_in (event_at at h) ≡ Some asked
  pub here : slice_get (in_flight h) nth ≡ Some (Request token.parent token.ask to asked)
  pub requested : 0 < number_in_flight (is_request token.parent token.ask) h
  pub taken : without (is_request token.parent token.ask) (in_flight h) ≡ remove (in_flight h) nth
  pub node : node_of_ask token.parent token.ask h ≡ Some to
  pub request : request_of_ask token.parent token.ask h ≡ Some asked
  pub low : 1 ≤ to
  pub high : to ≤ cluster.nodes

message_is : (token : Token) (to : ℕ) (o : Option AskedFor) (m : Message) → option_map (λ r. Request token.parent token.ask to r) o ≡ Some m → (r : AskedFor) × (o ≡ Some r) × (Some m ≡ Some (Request token.parent token.ask to r))
message_is token to None m e = absurd (cc)
message_is token to (Some r) m e = (r, refl, sym e)

module _ (cluster : Cluster) (corpus : Corpus) (script : Script) (h : List Event) (tasks : TaskId → Option Running) (tables : List Table) (flight : List Sent) (ties : Ties cluster corpus script h tasks tables flight) where
  pub arrives : (nth : ℕ) (token : Token) (to at : ℕ) (headers : Headers) → slice_get flight nth ≡ Some (sent.Request token to at headers) → Arrives cluster h nth token to at
  arrives nth token to at headers e =
      let p = pair_at (message_of h) flight (in_flight h) nth (sent.Request token to at headers) ties.sent e in
      let m = message_is token to (option_and_then request_in (event_at at h)) p.0 p.2 in
      let stands_here = p.1 ∙ m.2 in
      let once = (once_each h (ask_facts cluster h ties.lawful) (ban_facts cluster h ties.lawful)).request token.parent token.ask in
      let place = at_place (is_request token.parent token.ask) h nth (Request token.parent token.ask to m.0) once stands_here (same_pair_refl token.parent token.ask) in
      let said = all_here (λ x. IsTold x h) (in_flight h) nth (Request token.parent token.ask to m.0) (told cluster h ties.lawful) stands_here in
      let reach = reach_facts cluster h ties.lawful in
      record {
        asked = m.0;
        stands = m.1;
        here = stands_here;
        requested = place.0;
        taken = place.1;
        node = said.0;
        request = said.1;
        low = reach.low token.parent token.ask to said.0;
        high = reach.high token.parent token.ask to said.0;
      }
