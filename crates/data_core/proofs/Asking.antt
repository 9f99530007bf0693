-- What a task asks for: it may, of a node that there is, and the letter says so.
use Rattle.std.proofs.Common.{◌≡◌, ℕ, ◌%◌, ◌<◌, ◌≤◌, true, List, [], ◌∷◌, Option, Some, None, sym, ap, ◌∙◌, subst, arith}
use Rattle.std.specs.Option.{option_map_or}
use Rattle.task_ids.specs.Limits.{IsNode}
use Rattle.task_ids.specs.Placing.{node_of}
use Rattle.task_ids.specs.declared.cluster.Cluster.{Cluster}
use Rattle.task_ids.specs.declared.task_id.TaskId.{TaskId}
use Rattle.task_events.specs.Kinds.{kind_of, node_for}
use Rattle.task_events.specs.declared.request.Request.{Request}
use Rattle.task_work.specs.Works.{can_ask}
use Rattle.task_ids.specs.declared.task_info.Headers.{Headers}
use Rattle.child_track.specs.Token.{Token}
use Rattle.node_link.specs.declared.body.Body.{Body}
use Rattle.node_link.specs.declared.body.Body.TheVariants as says
use Rattle.node_link.specs.declared.body.Place.{Place}
use Rattle.node_parts.specs.Running.{next_number}
use Rattle.data_pool.specs.Workers.{worker_of}
use Rattle.data_pool.specs.declared.pool.Pool.{Pool}
use Rattle.run_facts.specs.declared.To.TheVariants as towards
use Rattle.live_tasks.specs.declared.entry.Entry.{Entry}
use Rattle.live_tasks.specs.Answering.{CanAsk}
use Rattle.data_parts.specs.Places.{child_place}
use Rattle.data_core.specs.Plans.{IsOpen, MayAsk}
use Rattle.data_core.specs.Steps.{asked_post}
use Rattle.data_core.specs.Turns.{Posts, post}

-- a request is worked on a node of the cluster
pub node_there : (cluster : Cluster) (t : TaskId) (request : Request) → IsNode (node_for cluster t request)
node_there cluster t request = by (kind_of request).place
  where
    by : (o : Option (List ℕ × ℕ)) → IsNode (option_map_or (λ place. node_of place.1 cluster.nodes) o t.node)
    by None = t.node_in_range
    by (Some place) =
        let some : 1 ≤ cluster.nodes = cluster.nodes_in_range.0 in
        let most : cluster.nodes ≤ 15 = cluster.nodes_in_range.1 in
        let low : place.1 % cluster.nodes < cluster.nodes = omega arith in
        (omega arith, omega arith)

-- one that is open and whose plan is to ask may ask
pub can_ask_there : (o : Option Entry) → IsOpen o → MayAsk o → CanAsk o
can_ask_there None is may = is
can_ask_there (Some e) is may = (is, may)

pub can_ask_now : (o : Option Entry) (e : Entry) → o ≡ Some e → MayAsk o → can_ask e.running.work (next_number e.running) ≡ true
can_ask_now o e at may = subst MayAsk at may

-- the letter that asks
module _ (pool : Pool) (e x : Entry) (same : e ≡ x) (to : ℕ) (request : Request) where
  abbrev says_so : Place → Token → Headers → Body
  says_so place token headers = says.Request (record { to = to; place = place; token = token; request = request; headers = headers })

  pub asked_so : (worker : ℕ) (place : Place) (token : Token) (headers : Headers) (letter : Body) (posts : Posts) → worker ≡ worker_of pool request → place ≡ child_place x.place request → token ≡ record { parent = e.running.ticket.id; ask = next_number e.running } → headers ≡ x.running.headers
      → letter ≡ says_so place token headers → posts ≡ record { to = towards.Data to worker; letter = letter } ∷ [] → Some posts ≡ Some (asked_post pool e to request)
  asked_so worker place token headers letter posts worker_is place_is token_is headers_is letter_is sent =
      let at : place ≡ child_place e.place request = place_is ∙ ap (λ (y : Entry). child_place y.place request) (sym same) in
      let carries : headers ≡ e.running.headers = headers_is ∙ ap (λ (y : Entry). y.running.headers) (sym same) in
      let says_this : letter ≡ says_so (child_place e.place request) (record { parent = e.running.ticket.id; ask = next_number e.running }) e.running.headers =
      letter_is ∙ ap (λ p. says_so p token headers) at ∙ ap (λ t. says_so (child_place e.place request) t headers) token_is ∙ ap (λ h. says_so (child_place e.place request) (record { parent = e.running.ticket.id; ask = next_number e.running }) h) carries in
      ap Some (sent ∙ ap (λ (b : Body). record { to = towards.Data to worker; letter = b } ∷ []) says_this ∙ ap (λ (w : ℕ). post (towards.Data to w) (says_so (child_place e.place request) (record { parent = e.running.ticket.id; ask = next_number e.running }) e.running.headers)) worker_is)
