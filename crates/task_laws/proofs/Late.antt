-- The third layer: a child that is put after the ban of its parent never passes.
use Rattle.std.proofs.Common.{◌≡◌, ◌≤◌, ◌<◌, ℕ, true, false, List, [], ◌∷◌, Option, Some, None, refl, arith}
use Rattle.std.specs.Prelude.{option_and_then}
use Rattle.task_ids.specs.declared.task_id.TaskId.{TaskId}
use Rattle.task_ids.specs.declared.cluster.Cluster.{Cluster}
use Rattle.task_events.specs.declared.event.Event.{Event}
use Rattle.task_events.specs.declared.event.Event.TheVariants.{Root, Put, Pass, Refuse, Mark, BanPut, BanGone, End}
use Rattle.task_events.specs.Tasks.{is_live, has_ended, is_new, has_passed, refusal_of, parent_of, last_number}
use Rattle.task_events.specs.Bans.{mark_of, standing_ban, ban_put, late_ban, ban_over}
use Rattle.task_events.specs.Messages.{is_unban, number_in_flight}
use Rattle.task_events.specs.Allowed.{Allowed}
use Rattle.task_events.specs.Lawful.{Lawful}
use Rattle.task_laws.proofs.Same.{same_tests}
use Rattle.task_laws.proofs.InFlight.{unbans_in_flight}
use Rattle.task_laws.proofs.Asks.{AskFacts, ask_facts, parent_live}
use Rattle.task_laws.proofs.Bans.{BanFacts, ban_facts}

-- the number of the ban of its parent that was last put on the task's node
abbrev pub ban_put_over : TaskId → List Event → Option ℕ
ban_put_over t h = option_and_then (λ p. ban_put t.node p h) (parent_of t h)

pub record LateFacts (h : List Event) : Type 0 where
  -- the number of a ban that was put is its task's mark, and it stands until the task ends
  pub put_number : (n : ℕ) (p : TaskId) (c : ℕ) → ban_put n p h ≡ Some c → mark_of p h ≡ Some c
  pub put_stands : (n : ℕ) (p : TaskId) (c : ℕ) → ban_put n p h ≡ Some c → has_ended p h ≡ false → standing_ban n p h ≡ Some c
  pub still_put : (t : TaskId) (c : ℕ) → late_ban t h ≡ Some c → ban_put_over t h ≡ Some c
  pub late_born : (t : TaskId) (c : ℕ) → late_ban t h ≡ Some c → t.number ≤ last_number t.node h
  pub unborn_passed : (t : TaskId) → last_number t.node h < t.number → has_passed t h ≡ false
  pub still_new : (t : TaskId) (c : ℕ) → late_ban t h ≡ Some c → is_live t h ≡ true → is_new t h ≡ true
  pub not_passed : (t : TaskId) (c : ℕ) → late_ban t h ≡ Some c → has_passed t h ≡ false
  pub refused : (t : TaskId) (c : ℕ) → late_ban t h ≡ Some c → has_ended t h ≡ true → refusal_of t h ≡ Some c

-- over a live child the ban that was put stands
pub put_over_stands : (t : TaskId) (c : ℕ) (h : List Event) → AskFacts h → LateFacts h → is_live t h ≡ true → (o : Option TaskId) → parent_of t h ≡ o → option_and_then (λ p. ban_put t.node p h) o ≡ Some c → option_and_then (λ p. standing_ban t.node p h) o ≡ Some c
put_over_stands t c h f g l None e b = absurd (cc)
put_over_stands t c h f g l (Some p) e b = g.put_stands t.node p c b (f.live_or_ended p (parent_live t p h f e l))

late_stands : (t : TaskId) (c : ℕ) (h : List Event) → AskFacts h → LateFacts h → is_live t h ≡ true → late_ban t h ≡ Some c → ban_over t h ≡ Some c
late_stands t c h f g l b = put_over_stands t c h f g l (parent_of t h) refl (g.still_put t c b)

-- a ban goes only where its task has ended
gone_ended : (n : ℕ) (p : TaskId) (h : List Event) → BanFacts h → 0 < number_in_flight (is_unban n p) h → has_ended p h ≡ true
gone_ended n p h b i = grind (arith, b.going n p, unbans_in_flight n p h)

module _ (cluster : Cluster) where
  keep_put_number : (e : Event) (h : List Event) → Allowed cluster e h → LateFacts h → (n : ℕ) (p : TaskId) (c : ℕ) → ban_put n p (e ∷ h) ≡ Some c → mark_of p (e ∷ h) ≡ Some c
  keep_put_number (Mark q d) h a g n p c e = grind (arith, same_tests, g.put_number n p c)
  keep_put_number (BanPut m q d) h a g n p c e = grind (arith, same_tests, g.put_number n p c)
  keep_put_number _ h a g n p c e = g.put_number n p c e

  keep_put_stands : (e : Event) (h : List Event) → Allowed cluster e h → BanFacts h → LateFacts h → (n : ℕ) (p : TaskId) (c : ℕ) → ban_put n p (e ∷ h) ≡ Some c → has_ended p (e ∷ h) ≡ false → standing_ban n p (e ∷ h) ≡ Some c
  keep_put_stands (Refuse q d) h a b g n p c e i = grind (arith, same_tests, g.put_stands n p c)
  keep_put_stands (End q r) h a b g n p c e i = grind (arith, same_tests, g.put_stands n p c)
  keep_put_stands (BanPut m q d) h a b g n p c e i = grind (arith, same_tests, g.put_stands n p c)
  keep_put_stands (BanGone m q) h a b g n p c e i = let x = gone_ended m q h b a in grind (arith, same_tests, g.put_stands n p c)
  keep_put_stands _ h a b g n p c e i = g.put_stands n p c e i

  keep_still_put : (e : Event) (h : List Event) → Allowed cluster e h → LateFacts h → (t : TaskId) (c : ℕ) → late_ban t (e ∷ h) ≡ Some c → ban_put_over t (e ∷ h) ≡ Some c
  keep_still_put (Put u q k) h a g t c e = grind (arith, same_tests, g.still_put t c)
  keep_still_put (BanPut m q d) h a g t c e = grind (arith, same_tests, g.still_put t c, g.put_number m q c)
  keep_still_put _ h a g t c e = g.still_put t c e

  keep_unborn_passed : (e : Event) (h : List Event) → Allowed cluster e h → AskFacts h → LateFacts h → (t : TaskId) → last_number t.node (e ∷ h) < t.number → has_passed t (e ∷ h) ≡ false
  keep_unborn_passed (Root c u) h a f g t l = grind (arith, same_tests, g.unborn_passed t)
  keep_unborn_passed (Put u p k) h a f g t l = grind (arith, same_tests, g.unborn_passed t)
  keep_unborn_passed (Pass u) h a f g t l = grind (arith, same_tests, g.unborn_passed t, f.born u a.live)
  keep_unborn_passed _ h a f g t l = g.unborn_passed t l

  keep_still_new : (e : Event) (h : List Event) → Allowed cluster e h → AskFacts h → LateFacts h → (t : TaskId) (c : ℕ) → late_ban t (e ∷ h) ≡ Some c → is_live t (e ∷ h) ≡ true → is_new t (e ∷ h) ≡ true
  keep_still_new (Root d u) h a f g t c b l = grind (arith, same_tests, g.still_new t c, g.late_born t c)
  keep_still_new (Put u p k) h a f g t c b l = grind (arith, same_tests, g.still_new t c)
  keep_still_new (Pass u) h a f g t c b l = grind (arith, same_tests, g.still_new t c, late_stands t c h f g)
  keep_still_new (Refuse u d) h a f g t c b l = grind (arith, same_tests, g.still_new t c)
  keep_still_new (End u r) h a f g t c b l = grind (arith, same_tests, g.still_new t c)
  keep_still_new _ h a f g t c b l = g.still_new t c b l

  keep_late_born : (e : Event) (h : List Event) → Allowed cluster e h → LateFacts h → (t : TaskId) (c : ℕ) → late_ban t (e ∷ h) ≡ Some c → t.number ≤ last_number t.node (e ∷ h)
  keep_late_born (Root d u) h a g t c b = grind (arith, same_tests, g.late_born t c)
  keep_late_born (Put u p k) h a g t c b = grind (arith, same_tests, g.late_born t c)
  keep_late_born _ h a g t c b = g.late_born t c b

  keep_not_passed : (e : Event) (h : List Event) → Allowed cluster e h → AskFacts h → LateFacts h → (t : TaskId) (c : ℕ) → late_ban t (e ∷ h) ≡ Some c → has_passed t (e ∷ h) ≡ false
  keep_not_passed (Put u p k) h a f g t c b = grind (arith, same_tests, g.not_passed t c, g.unborn_passed t)
  keep_not_passed (Pass u) h a f g t c b = grind (arith, same_tests, g.not_passed t c, late_stands t c h f g)
  keep_not_passed _ h a f g t c b = g.not_passed t c b

  keep_refused : (e : Event) (h : List Event) → Allowed cluster e h → AskFacts h → LateFacts h → (t : TaskId) (c : ℕ) → late_ban t (e ∷ h) ≡ Some c → has_ended t (e ∷ h) ≡ true → refusal_of t (e ∷ h) ≡ Some c
  keep_refused (Put u p k) h a f g t c b i = grind (arith, same_tests, g.refused t c, f.unborn_ended t)
  keep_refused (Refuse u d) h a f g t c b i = grind (arith, same_tests, g.refused t c, late_stands t c h f g)
  keep_refused (End u r) h a f g t c b i = grind (arith, same_tests, g.refused t c, g.still_new t c)
  keep_refused _ h a f g t c b i = g.refused t c b i

  keep_late : (e : Event) (h : List Event) → Allowed cluster e h → AskFacts h → BanFacts h → LateFacts h → LateFacts (e ∷ h)
  keep_late e h a f b g = record {
    put_number = keep_put_number e h a g;
    put_stands = keep_put_stands e h a b g;
    still_put = keep_still_put e h a g;
    late_born = keep_late_born e h a g;
    unborn_passed = keep_unborn_passed e h a f g;
    still_new = keep_still_new e h a f g;
    not_passed = keep_not_passed e h a f g;
    refused = keep_refused e h a f g;
  }

  pub late_facts : (h : List Event) → Lawful cluster h → LateFacts h
  late_facts [] l = record {
    put_number = λ n p c e. cc;
    put_stands = λ n p c e i. cc;
    still_put = λ t c e. cc;
    late_born = λ t c e. absurd (cc);
    unborn_passed = λ t e. refl;
    still_new = λ t c e i. cc;
    not_passed = λ t c e. refl;
    refused = λ t c e i. cc;
  }
  late_facts (e ∷ h) l = keep_late e h l.0 (ask_facts cluster h l.1) (ban_facts cluster h l.1) (late_facts h l.1)
