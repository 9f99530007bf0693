-- What a command begins with is the first that it does.
use Rattle.std.proofs.Common.{◌≡◌, ◌≢◌, ◌+◌, ◌≤◌, ℕ, Bool, true, false, List, [], ◌∷◌, Option, Some, None, refl, arith}
use Rattle.task_ids.specs.declared.task_id.TaskId.{TaskId}
use Rattle.task_ids.specs.declared.cluster.Cluster.{Cluster}
use Rattle.task_events.specs.declared.event.Event.{Event}
use Rattle.task_events.specs.declared.event.Event.TheVariants.{Begin, Root, RootRejected, Cancel, NotFound, Work, Write, AnswerPlaced, AnswerDone}
use Rattle.task_events.specs.Tasks.{is_live}
use Rattle.task_events.specs.Bans.{mark_of}
use Rattle.task_events.specs.Cancels.{last_command, beginning, has_acted, waits, turn_of}
use Rattle.task_events.specs.Lawful.{Lawful}
use Rattle.task_laws.proofs.Same.{same_tests}

-- the command that is beginning is the last one
pub beginning_last : (k : ℕ) (h : List Event) → beginning h ≡ Some k → last_command h ≡ k
beginning_last k (Begin c ∷ h) b = grind arith
beginning_last k [] b = absurd (cc)
beginning_last k (_ ∷ h) b = absurd (cc)

-- what has named a task has acted
waits_acted : (c : ℕ) (b : Bool) (h : List Event) → waits c h ≡ Some b → has_acted c h ≡ true
waits_acted c b [] w = absurd (cc)
waits_acted c b (Root d t ∷ h) w = grind (arith, same_tests, waits_acted c b h)
waits_acted c b (RootRejected d n ∷ h) w = grind (arith, same_tests, waits_acted c b h)
waits_acted c b (NotFound d ∷ h) w = grind (arith, same_tests, waits_acted c b h)
waits_acted c b (Cancel d t v ∷ h) w = grind (arith, same_tests, waits_acted c b h)
waits_acted c b (AnswerPlaced d ∷ h) w = grind (arith, same_tests, waits_acted c b h)
waits_acted c b (AnswerDone d ∷ h) w = grind (arith, same_tests, waits_acted c b h)
waits_acted c b (_ ∷ h) w = waits_acted c b h w

-- a cancellation that is due has begun
answered_begun : (h : List Event) (c : ℕ) → (has_acted c h ≡ true → c ≤ last_command h) → (o : Option Bool) → waits c h ≡ o → (waits c h ≡ None → beginning h ≡ Some c) → c ≤ last_command h
answered_begun h c before None w once = let last = beginning_last c h (once w) in omega arith
answered_begun h c before (Some b) w once = before (waits_acted c b h w)

-- a command that has acted has begun
pub acted_begun : (cluster : Cluster) (h : List Event) → Lawful cluster h → (k : ℕ) → has_acted k h ≡ true → k ≤ last_command h
acted_begun cluster [] l k a = absurd (cc)
acted_begun cluster (Begin c ∷ h) l k a = let before = acted_begun cluster h l.1 k a in let next = l.0 in omega arith
acted_begun cluster (Root c t ∷ h) l k a = let last = beginning_last c h l.0.begins in grind (arith, same_tests, acted_begun cluster h l.1 k)
acted_begun cluster (RootRejected c n ∷ h) l k a = let last = beginning_last c h l.0.begins in grind (arith, same_tests, acted_begun cluster h l.1 k)
acted_begun cluster (NotFound c ∷ h) l k a = let last = beginning_last c h l.0 in grind (arith, same_tests, acted_begun cluster h l.1 k)
acted_begun cluster (Cancel c t w ∷ h) l k a = let last = l.0.current in grind (arith, same_tests, acted_begun cluster h l.1 k)
acted_begun cluster (AnswerPlaced c ∷ h) l k a = grind (arith, same_tests, acted_begun cluster h l.1 k, answered_begun h c (acted_begun cluster h l.1 c) (waits c h) refl l.0.due.at_once)
acted_begun cluster (AnswerDone c ∷ h) l k a = grind (arith, same_tests, acted_begun cluster h l.1 k, answered_begun h c (acted_begun cluster h l.1 c) (waits c h) refl l.0.due.at_once)
acted_begun cluster (_ ∷ h) l k a = acted_begun cluster h l.1 k a

-- a command that begins has done nothing yet
new_begun : (k n : ℕ) (b : Bool) → (b ≡ true → k ≤ n) → k ≡ n + 1 → b ≡ false
new_begun k n true before next = absurd (let i = before refl in omega arith)
new_begun k n false before next = refl

pub begun_first : (cluster : Cluster) (h : List Event) → Lawful cluster h → (k : ℕ) → k ≡ last_command h + 1 → has_acted k h ≡ false
begun_first cluster h l k next = new_begun k (last_command h) (has_acted k h) (acted_begun cluster h l k) next

pub beginning_first : (cluster : Cluster) (h : List Event) → Lawful cluster h → (k : ℕ) → beginning h ≡ Some k → has_acted k h ≡ false
beginning_first cluster (Begin c ∷ h) l k b = begun_first cluster h l.1 k (let next = l.0 in grind arith)
beginning_first cluster [] l k b = absurd (cc)
beginning_first cluster (_ ∷ h) l k b = absurd (cc)

-- a turn is one of a live task without a mark
pub in_turn : (cluster : Cluster) (h : List Event) → Lawful cluster h → turn_of h ≢ None → (t : TaskId) × (turn_of h ≡ Some t) × (is_live t h ≡ true) × (mark_of t h ≡ None)
in_turn cluster (Work t ∷ h) l i = (t, refl, l.0.goes_on.live, l.0.unmarked)
in_turn cluster (Write index shard outcome id ∷ h) l i = let before = in_turn cluster h l.1 i in (before.0, before.1, before.2, before.3)
in_turn cluster [] l i = absurd (i refl)
in_turn cluster (_ ∷ h) l i = absurd (i refl)
