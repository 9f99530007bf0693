use Rattle.std.proofs.Common.{◌≡◌, List, [], ◌∷◌, Some, None}
use Rattle.task_ids.specs.declared.task_id.TaskId.{TaskId}
use Rattle.task_ids.specs.declared.cluster.Cluster.{Cluster}
use Rattle.task_events.specs.declared.event.Event.{Event}
use Rattle.task_events.specs.declared.event.Event.TheVariants.{Ask, Pass, Listed, Acked, Work, AnswerPlaced, AnswerDone}
use Rattle.task_events.specs.Bans.{ban_put}
use Rattle.task_events.specs.Lawful.{Lawful}
use Rattle.task_events.specs.Laws.{CancelsEarlyChildren, StartsNothingLater}
use Rattle.task_events.specs.Tasks.{parent_of}
use Rattle.task_top.specs.Promises.{PassesUnbanned, EndsListings, StartsNothingStopped}
use Rattle.task_top.proofs.RootLaws.{cancels_exactly}
use Rattle.task_top.proofs.laws.all_laws.Goals as goal

no_pass : (cluster : Cluster) → ((h : List Event) (t p : TaskId) → Lawful cluster (Pass t ∷ h) → parent_of t h ≡ Some p → ban_put t.node p h ≡ None)
    → (h : List Event) → Lawful cluster h → PassesUnbanned h
no_pass cluster law (Pass t ∷ h) l = λ p e. law h t p l e
no_pass cluster law [] l = tt
no_pass cluster law (_ ∷ h) l = tt

listings : (cluster : Cluster) → CancelsEarlyChildren cluster → (h : List Event) → Lawful cluster h → EndsListings h
listings cluster law (Listed n p ∷ h) l = law.listed n p h l
listings cluster law (Acked p n ∷ h) l = law.acked n p h l
listings cluster law (AnswerPlaced c ∷ h) l = law.placed c h l
listings cluster law (AnswerDone c ∷ h) l = law.done c h l
listings cluster law [] l = tt
listings cluster law (_ ∷ h) l = tt

stopped_trees : (cluster : Cluster) → StartsNothingLater cluster → (h : List Event) → Lawful cluster h → StartsNothingStopped h
stopped_trees cluster law (Pass t ∷ h) l = law.passes t h l
stopped_trees cluster law (Ask t k n r ∷ h) l = law.asks t k n r h l
stopped_trees cluster law (Work t ∷ h) l = law.works t h l
stopped_trees cluster law [] l = tt
stopped_trees cluster law (_ ∷ h) l = tt

pub returns-clause-laws : goal.returns-clause-laws
returns-clause-laws c = λ cluster h l. record {
  one_place = c.one_place.ensures cluster h l;
  one_stage = c.one_stage.ensures cluster h l;
  late_children = c.late_children.ensures.refused cluster h l;
  no_pass = no_pass cluster (c.late_children.ensures.no_pass cluster) h l;
  early_children = c.early_children.ensures.later cluster h l;
  listings = listings cluster (c.early_children.ensures.listed cluster) h l;
  placed_trees = c.early_children.ensures.trees cluster h l;
  stopped_trees = stopped_trees cluster (c.stopped_trees.ensures cluster) h l;
  placed_bans = c.drained_bans.ensures.placed cluster h l;
  waiting = c.waiting.ensures.ended cluster h l;
  drained_bans = c.drained_bans.ensures.ended cluster h l;
  causes = c.causes.ensures.named cluster h l;
}

pub returns-clause-over : goal.returns-clause-over
returns-clause-over c = λ cluster h l drained. (c.drained_bans.ensures.all cluster h l drained).0

pub returns-clause-cancelled : goal.returns-clause-cancelled
returns-clause-cancelled c = λ cluster h l. cancels_exactly cluster h l (c.causes.ensures.named cluster h l)

pub returns-clause-results : goal.returns-clause-results
returns-clause-results c = λ cluster script h l. record {
  ended = λ t reply. c.results_stand.ensures.ended cluster script h t reply l;
  same = λ t reply. c.results_stand.ensures.same cluster script h t reply l;
}
