-- The letters that the driver sends, with their addresses.
use Rattle.std.specs.Prelude.{ℕ, zero, suc, ◌+◌, List, [], ◌∷◌, ◌++◌, map, Option}
use Rattle.command_roots.specs.Roots.{opaque_id_in}
use Rattle.node_link.specs.declared.body.Body.{Body}
use Rattle.node_link.specs.declared.body.Body.TheVariants as says
use Rattle.node_link.specs.declared.body.Place.{Place}
use Rattle.node_link.specs.declared.body.Start.{Start}
use Rattle.node_link.specs.declared.page.Page.{Page}
use Rattle.run_facts.specs.declared.Post.{Post}
use Rattle.run_facts.specs.declared.To.{To}
use Rattle.run_facts.specs.declared.To.TheVariants.{Data}
use Rattle.script_lang.specs.declared.command.Command.{Command}
use Rattle.task_events.specs.declared.request.Request.{Request}
use Rattle.task_events.specs.declared.request.Request.TheVariants as asks
use Rattle.task_ids.specs.declared.action.Action.{Action}
use Rattle.task_ids.specs.declared.action.Action.TheVariants as actions

abbrev pub post : To → Body → Post Body
post to body = record { to = to; letter = body }

-- the data workers of a node, of which it has so many
abbrev pub workers_on : ℕ → ℕ → List To
workers_on node zero = []
workers_on node (suc worker) = workers_on node worker ++ Data node worker ∷ []

-- the data workers of so many nodes, each of which has so many: those of the first node first
abbrev pub data_workers : ℕ → ℕ → List To
data_workers zero workers = []
data_workers (suc before) workers = data_workers before workers ++ workers_on (before + 1) workers

-- one letter to each of them
abbrev pub to_each : ℕ → ℕ → Body → List (Post Body)
to_each nodes workers body = map (λ to. post to body) (data_workers nodes workers)

-- the action of a root with this request
abbrev pub action_of : Request → Action
action_of (asks.Search ask) = actions.Search
action_of (asks.Query ask) = actions.Search
action_of (asks.Fetch ask) = actions.Search
action_of (asks.Scroll ask) = actions.Scroll
action_of (asks.Reindex ask) = actions.Reindex
action_of (asks.Slice ask) = actions.Search
action_of (asks.Bulk ask) = actions.Search
action_of (asks.BulkShard ask) = actions.Search

-- the place of the root of the command of this number, which looks through what the search of a command found
abbrev pub root_place : ℕ → ℕ → Request → Place
root_place k search request = record { command = k; search = search; slice = 0; action = action_of request; shard = 0 }

-- what starts it
abbrev pub start_of : ℕ → ℕ → Command → Request → Option Page → Start
start_of k search command request page = record { place = root_place k search request; request = request; headers = record { opaque_id = opaque_id_in command }; page = page }

-- and it goes to the first data worker of a node
abbrev pub start_posts : ℕ → ℕ → Command → ℕ → Request → Option Page → List (Post Body)
start_posts k search command node request page = post (Data node 0) (says.Start (start_of k search command request page)) ∷ []
