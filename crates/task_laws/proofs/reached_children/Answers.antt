use Rattle.task_ids.specs.declared.cluster.Cluster.{Cluster}
use Rattle.std.proofs.Common.{List}
use Rattle.task_events.specs.declared.event.Event.{Event}
use Rattle.task_events.specs.Laws.{ReachesEveryChild}
use Rattle.task_laws.proofs.Asks.{AskFacts, ask_facts}
use Rattle.task_laws.proofs.Reach.{ReachFacts, reach_facts, reach_live}
use Rattle.task_laws.proofs.reached_children.Goals as goal

law : (cluster : Cluster) (h : List Event) → AskFacts h → ReachFacts cluster h → ReachesEveryChild h
law cluster h f r = record { asked = r.reach; live = λ t p i e l. reach_live cluster t p h f r i e l }

pub returns-clause-reached : goal.returns-clause-reached
returns-clause-reached c = λ cluster h l. law cluster h (ask_facts cluster h l) (reach_facts cluster h l)

pub returns-clause-nodes : goal.returns-clause-nodes
returns-clause-nodes c = λ cluster h l t i. (reach_facts cluster h l).live_in t i
