-- Where nothing of a task's bans is on its way, and each child that was listed is stopped, its bans are placed. What is
-- awaited is marked too, and was born later; so where nothing at all is on its way the bans of each marked task are.
use Rattle.std.proofs.Common.{◌≡◌, ◌≢◌, ◌+◌, ◌≤◌, ◌<◌, ℕ, zero, suc, Bool, true, false, ◌||◌, List, [], length, Option, Some, None, refl, arith}
use Rattle.std.specs.Prelude.{◌==◌}
use Rattle.task_ids.specs.declared.task_id.TaskId.{TaskId}
use Rattle.task_ids.specs.declared.cluster.Cluster.{Cluster}
use Rattle.task_events.specs.declared.event.Event.{Event}
use Rattle.task_events.specs.Tasks.{is_live, has_ended, parent_of}
use Rattle.task_events.specs.Bans.{mark_of, banned_nodes, listing_is_open, is_listed, is_acked, bans_are_placed, is_stopped}
use Rattle.task_events.specs.Messages.{in_flight}
use Rattle.task_events.specs.Lawful.{Lawful}
use Rattle.task_events.specs.Laws.{IsQuiet, PlacesBans}
use Rattle.task_laws.proofs.Numbers.{all_pass, number_itself}
use Rattle.task_laws.proofs.Counts.{banned}
use Rattle.task_laws.proofs.InFlight.{bans_in_flight, acks_in_flight}
use Rattle.task_laws.proofs.Asks.{AskFacts, ask_facts, parent_live}
use Rattle.task_laws.proofs.Stops.{StopFacts, times_listed, listed_over, stop_facts}
use Rattle.task_laws.proofs.Dues.{due_where}
use Rattle.task_laws.proofs.Bans.{BanFacts, ban_facts}
use Rattle.task_laws.proofs.Rest.{birth, birth-le, child_after}

-- where nothing moves at all, all is quiet
pub quiet : (p : TaskId) (h : List Event) → in_flight h ≡ [] → ((n : ℕ) (q : TaskId) → listing_is_open n q h ≡ false) → IsQuiet p h
quiet p h nothing closed = record {
  no_ban = λ n. rw nothing;
  no_listing = λ n. closed n p;
  no_ack = λ n. rw nothing;
  no_unban = λ n. rw nothing;
}

-- no listing for p awaits a child
abbrev AwaitsNone : TaskId → List Event → Type 0
AwaitsNone p h = (n : ℕ) (t : TaskId) → 0 < times_listed n p t h → is_stopped t h ≡ true

acked_there : (n : ℕ) (p : TaskId) (h : List Event) → BanFacts h → IsQuiet p h → AwaitsNone p h → 0 < banned n p h → is_acked n p h ≡ true
acked_there n p h b q none i =
    let listed : is_listed n p h ≡ true = grind (arith, b.course n p, bans_in_flight n p h, q.no_ban n, q.no_listing n) in
    let due = due_where n p h listed (none n) in
    grind (arith, b.acking n p, acks_in_flight n p h, q.no_ack n)

placed_where : (p : TaskId) (h : List Event) → BanFacts h → IsQuiet p h → AwaitsNone p h → (o : Option ℕ) → mark_of p h ≡ o → mark_of p h ≢ None → bans_are_placed p h ≡ true
placed_where p h b q none None o m = absurd (m o)
placed_where p h b q none (Some c) o m = rw (o, all_pass (λ n k. n == k) number_itself (λ n. is_acked n p h) (banned_nodes p h) (λ n i. acked_there n p h b q none i))

-- what has ended is stopped
stopped_end : (t : TaskId) (h : List Event) → has_ended t h ≡ true → is_stopped t h ≡ true
stopped_end t h e = rw e

-- and what was put and is not live has ended
not_awaited : (n : ℕ) (p t : TaskId) (h : List Event) → AskFacts h → StopFacts h → 0 < times_listed n p t h → is_live t h ≡ false → is_stopped t h ≡ true
not_awaited n p t h f s i e = stopped_end t h (f.put_lives t p (listed_over n p t h s i).0 e)

-- a task that has ended has no live child
pub ended_placed : (p : TaskId) (h : List Event) → AskFacts h → StopFacts h → BanFacts h → has_ended p h ≡ true → IsQuiet p h → mark_of p h ≢ None → bans_are_placed p h ≡ true
ended_placed p h f s b e q m = placed_where p h b q (λ n t i. not_awaited n p t h f s i (no_child t (listed_over n p t h s i).0)) (mark_of p h) refl m
  where
    no_child : (t : TaskId) → parent_of t h ≡ Some p → is_live t h ≡ false
    no_child t o = grind (arith, f.live_or_ended p, parent_live t p h f o)

module _ (cluster : Cluster) (h : List Event) (l : Lawful cluster h) (nothing : in_flight h ≡ []) (closed : (n : ℕ) (p : TaskId) → listing_is_open n p h ≡ false) where
  placed_stopped : (t : TaskId) → bans_are_placed t h ≡ true → is_stopped t h ≡ true
  placed_stopped t e = of_either (has_ended t h) (bans_are_placed t h) e
    where
      of_either : (b c : Bool) → c ≡ true → (b || c) ≡ true
      of_either true c e = refl
      of_either false c e = e

  -- a listed child is not live, or marked
  none_awaited : (p : TaskId) → ((t : TaskId) → parent_of t h ≡ Some p → mark_of t h ≢ None → bans_are_placed t h ≡ true) → AwaitsNone p h
  none_awaited p placed n t i = of_live (is_live t h) refl
    where
      s : StopFacts h
      s = stop_facts cluster h l

      of_live : (b : Bool) → is_live t h ≡ b → is_stopped t h ≡ true
      of_live true e = placed_stopped t (placed t (listed_over n p t h s i).0 (s.listed_marked n p t i e))
      of_live false e = not_awaited n p t h (ask_facts cluster h l) s i e

  placed_over : (p : TaskId) → mark_of p h ≢ None → ((t : TaskId) → parent_of t h ≡ Some p → mark_of t h ≢ None → bans_are_placed t h ≡ true) → bans_are_placed p h ≡ true
  placed_over p m placed = placed_where p h (ban_facts cluster h l) (quiet p h nothing closed) (none_awaited p placed) (mark_of p h) refl m

  placed_within : (n : ℕ) (p : TaskId) → length h ≤ birth p h + n → mark_of p h ≢ None → bans_are_placed p h ≡ true
  placed_within zero p b m = placed_over p m (λ t o _. absurd (let after = child_after cluster h l t p o in let early = birth-le t h in omega arith))
  placed_within (suc n) p b m = placed_over p m (λ t o. placed_within n t (let after = child_after cluster h l t p o in omega arith))

pub placed_each : (cluster : Cluster) (h : List Event) → Lawful cluster h → PlacesBans h
placed_each cluster h l nothing closed p m = placed_within cluster h l nothing closed (length h) p (omega arith) m
