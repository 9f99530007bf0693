-- The second layer: marks, bans, listings, acknowledgements and unbans.
use Rattle.std.proofs.Common.{◌≡◌, ◌+◌, ◌≤◌, ◌<◌, ℕ, Bool, true, false, cond, List, [], ◌∷◌, Some, None, refl, ◌∙◌, arith}
use Rattle.std.specs.Prelude.{◌==◌, is_some}
use Rattle.std.specs.List.{list_any}
use Rattle.task_ids.specs.declared.task_id.TaskId.{TaskId}
use Rattle.task_ids.specs.declared.cluster.Cluster.{Cluster}
use Rattle.task_events.specs.declared.event.Event.{Event}
use Rattle.task_events.specs.declared.event.Event.TheVariants.{Refuse, Mark, BanPut, Listed, Acked, BanGone, End}
use Rattle.task_events.specs.Same.{same_task}
use Rattle.task_events.specs.Asks.{unanswered}
use Rattle.task_events.specs.Bans.{mark_of, banned_nodes, standing_ban, listing_is_open, is_listed, is_acked, is_gone, bans_are_placed, ack_is_due}
use Rattle.task_events.specs.Messages.{is_unban, number_in_flight}
use Rattle.task_events.specs.Allowed.{Allowed}
use Rattle.task_events.specs.Lawful.{Lawful}
use Rattle.task_laws.proofs.Same.{same_tests}
use Rattle.task_laws.proofs.Numbers.{number, passes_of_all, same_number, both}
use Rattle.task_laws.proofs.Nodes.{once}
use Rattle.task_laws.proofs.Counts.{bans, acks, unbans, banned, freed}
use Rattle.task_laws.proofs.InFlight.{bans_in_flight, acks_in_flight, unbans_in_flight}
use Rattle.task_laws.proofs.Asks.{AskFacts, ask_facts}
use Rattle.task_laws.proofs.Stops.{StopFacts, stop_facts}
use Rattle.task_laws.proofs.Dues.{acked_other, end_adds, refuse_adds, acked_adds, listed_adds, due_at_mark}

pub record BanFacts (h : List Event) : Type 0 where
  pub once : (n : ℕ) (p : TaskId) → banned n p h ≤ 1
  pub unmarked : (p : TaskId) → mark_of p h ≡ None → banned_nodes p h ≡ []
  -- a ban is in flight, or its listing is open, or has ended
  pub course : (n : ℕ) (p : TaskId) → bans n p h + cond (listing_is_open n p h) 1 0 + cond (is_listed n p h) 1 0 ≡ banned n p h
  -- where its acknowledgement is due it is in flight, or the ban is acknowledged
  pub acking : (n : ℕ) (p : TaskId) → acks n p h + cond (is_acked n p h) 1 0 ≡ cond (ack_is_due n p h) 1 0
  -- it is in flight, or stands, or is gone
  pub stay : (n : ℕ) (p : TaskId) → bans n p h + cond (is_some (standing_ban n p h)) 1 0 + cond (is_gone n p h) 1 0 ≡ banned n p h
  -- once the unbans are sent, an unban is in flight or the ban is gone
  pub going : (n : ℕ) (p : TaskId) → unbans n p h + cond (is_gone n p h) 1 0 ≡ freed n p h
  pub reason : (n : ℕ) (p : TaskId) (c : ℕ) → standing_ban n p h ≡ Some c → mark_of p h ≡ Some c

-- where the bans are placed, each banned node has acknowledged
pub placed_acked : (n : ℕ) (p : TaskId) (h : List Event) → bans_are_placed p h ≡ true → 0 < banned n p h → is_acked n p h ≡ true
placed_acked n p h e i = passes_of_all (λ n m. n == m) same_number (λ m. is_acked m p h) n (banned_nodes p h) (both (is_some (mark_of p h)) _ e).1 i

-- what is due has been listed
pub due_listed : (n : ℕ) (p : TaskId) (h : List Event) → ack_is_due n p h ≡ true → is_listed n p h ≡ true
due_listed n p h d = (both (is_listed n p h) _ d).0

-- the ban that is acknowledged has been listed
pub acked_listed : (n : ℕ) (p : TaskId) (h : List Event) → BanFacts h → is_acked n p h ≡ true → is_listed n p h ≡ true
acked_listed n p h b a = due_listed n p h (grind (arith, b.acking n p))

-- the ban whose acknowledgement is in flight is that of a banned node, and not acknowledged
pub before_acked : (n : ℕ) (p : TaskId) (h : List Event) → BanFacts h → 0 < acks n p h → (is_acked n p h ≡ false) × (0 < banned n p h)
before_acked n p h b i =
    let due : ack_is_due n p h ≡ true = grind (arith, b.acking n p) in
    let listed = due_listed n p h due in
    (grind (arith, b.acking n p), grind (arith, b.course n p))

-- a listing that is open has not ended
pub open_unlisted : (n : ℕ) (p : TaskId) (h : List Event) → BanFacts h → listing_is_open n p h ≡ true → is_listed n p h ≡ false
open_unlisted n p h b o = grind (arith, b.course n p, b.once n p)

-- an unban is in flight only where the ban is acknowledged
unban_acked : (n : ℕ) (p : TaskId) (h : List Event) → BanFacts h → 0 < unbans n p h → is_acked n p h ≡ true
unban_acked n p h b i = grind (arith, b.going n p, placed_acked n p h)

-- a ban that is about to go stands and is not on its way
before_gone : (n : ℕ) (p : TaskId) (h : List Event) → BanFacts h → 0 < number_in_flight (is_unban n p) h → (bans n p h ≡ 0) × (is_gone n p h ≡ false) × (is_some (standing_ban n p h) ≡ true)
before_gone n p h b i =
    let sent : 0 < unbans n p h = omega (arith, unbans_in_flight n p h) in
    let acked = unban_acked n p h b sent in
    let listed = acked_listed n p h b acked in
    let none : bans n p h ≡ 0 = grind (arith, b.course n p, b.once n p) in
    let here : is_gone n p h ≡ false = grind (arith, b.going n p, b.once n p) in
    let some : is_some (standing_ban n p h) ≡ true = grind (arith, b.course n p, b.stay n p) in
    (none, here, some)

-- one of two lists that have each node once
either_once : (n : ℕ) (c : Bool) (xs ys : List ℕ) → number (λ m. n == m) xs ≤ 1 → number (λ m. n == m) ys ≤ 1 → number (λ m. n == m) (cond c xs ys) ≤ 1
either_once n true xs ys x y = x
either_once n false xs ys x y = y

-- a number that is 1 and grows stays 1
more : (b c : Bool) (x : ℕ) → cond b 1 0 + x ≡ cond c 1 0 → b ≡ true → c ≡ true
more b c x e d = grind arith

module _ (cluster : Cluster) where
  keep_once : (e : Event) (h : List Event) → Allowed cluster e h → AskFacts h → BanFacts h → (n : ℕ) (p : TaskId) → banned n p (e ∷ h) ≤ 1
  keep_once (Mark q c) h a f b n p = either_once n (same_task p q) _ _ (once (λ m. list_any (λ a. a.node == m) (unanswered p h)) n) (b.once n p)
  keep_once _ h a f b n p = b.once n p

  keep_unmarked : (e : Event) (h : List Event) → Allowed cluster e h → AskFacts h → BanFacts h → (p : TaskId) → mark_of p (e ∷ h) ≡ None → banned_nodes p (e ∷ h) ≡ []
  keep_unmarked (Mark q c) h a f b p e = grind (arith, same_tests, b.unmarked p)
  keep_unmarked _ h a f b p e = b.unmarked p e

  keep_course : (e : Event) (h : List Event) → Allowed cluster e h → AskFacts h → BanFacts h → (n : ℕ) (p : TaskId) → bans n p (e ∷ h) + cond (listing_is_open n p (e ∷ h)) 1 0 + cond (is_listed n p (e ∷ h)) 1 0 ≡ banned n p (e ∷ h)
  keep_course (Mark q c) h a f b n p = grind (arith, same_tests, b.course n p, b.unmarked p)
  keep_course (BanPut m q c) h a f b n p = grind (arith, same_tests, b.course n p, b.once n p, bans_in_flight n p h)
  keep_course (Listed m q) h a f b n p = grind (arith, same_tests, b.course n p, b.once n p)
  keep_course _ h a f b n p = b.course n p

  keep_acking : (e : Event) (h : List Event) → Allowed cluster e h → StopFacts h → BanFacts h → (n : ℕ) (p : TaskId) → acks n p (e ∷ h) + cond (is_acked n p (e ∷ h)) 1 0 ≡ cond (ack_is_due n p (e ∷ h)) 1 0
  keep_acking (Refuse t c) h a s b n p = let x = refuse_adds cluster n p t c h a s in let y = b.acking n p in omega arith
  keep_acking (End t r) h a s b n p = let x = end_adds cluster n p t r h a s in let y = b.acking n p in omega arith
  keep_acking (Listed m q) h a s b n p = let x = listed_adds n p m q h (open_unlisted m q h b a.opened) in let y = b.acking n p in omega arith
  keep_acking (Mark t c) h a s b n p = rw (due_at_mark cluster n p t c h a s) (b.acking n p)
  keep_acking (Acked q m) h a s b n p =
      let x = acked_adds cluster n p q m h a s in
      let i : 0 < acks m q h = omega (arith, acks_in_flight m q h) in
      let before = before_acked m q h b i in
      grind (arith, same_tests, b.acking n p, before.0)
  keep_acking _ h a s b n p = b.acking n p

  keep_stay : (e : Event) (h : List Event) → Allowed cluster e h → AskFacts h → BanFacts h → (n : ℕ) (p : TaskId) → bans n p (e ∷ h) + cond (is_some (standing_ban n p (e ∷ h))) 1 0 + cond (is_gone n p (e ∷ h)) 1 0 ≡ banned n p (e ∷ h)
  keep_stay (Mark q c) h a f b n p = grind (arith, same_tests, b.stay n p, b.unmarked p)
  keep_stay (BanPut m q c) h a f b n p = grind (arith, same_tests, b.stay n p, b.once n p, bans_in_flight n p h)
  keep_stay (BanGone m q) h a f b n p = let g = before_gone m q h b a in grind (arith, same_tests, b.stay n p, g.0, g.1, g.2)
  keep_stay _ h a f b n p = b.stay n p

  keep_going : (e : Event) (h : List Event) → Allowed cluster e h → AskFacts h → BanFacts h → (n : ℕ) (p : TaskId) → unbans n p (e ∷ h) + cond (is_gone n p (e ∷ h)) 1 0 ≡ freed n p (e ∷ h)
  keep_going (Mark q c) h a f b n p = grind (arith, same_tests, b.going n p, f.live_or_ended q)
  keep_going (Refuse q c) h a f b n p = grind (arith, same_tests, b.going n p, f.live_or_ended q)
  keep_going (End q r) h a f b n p = grind (arith, same_tests, b.going n p, f.live_or_ended q)
  keep_going (Acked q m) h a f b n p =
      let before = before_acked m q h b (omega (arith, acks_in_flight m q h)) in
      grind (arith, same_tests, b.going n p, before.0, before.1, placed_acked m q h, acked_other p q m h)
  keep_going (BanGone m q) h a f b n p = grind (arith, same_tests, b.going n p, b.once n p, unbans_in_flight n p h)
  keep_going _ h a f b n p = b.going n p

  keep_reason : (e : Event) (h : List Event) → Allowed cluster e h → AskFacts h → BanFacts h → (n : ℕ) (p : TaskId) (c : ℕ) → standing_ban n p (e ∷ h) ≡ Some c → mark_of p (e ∷ h) ≡ Some c
  keep_reason (Mark q d) h a f b n p c e = grind (arith, same_tests, b.reason n p c)
  keep_reason (BanPut m q d) h a f b n p c e = grind (arith, same_tests, b.reason n p c)
  keep_reason (BanGone m q) h a f b n p c e = grind (arith, same_tests, b.reason n p c)
  keep_reason _ h a f b n p c e = b.reason n p c e

  keep_bans : (e : Event) (h : List Event) → Allowed cluster e h → AskFacts h → StopFacts h → BanFacts h → BanFacts (e ∷ h)
  keep_bans e h a f s b = record {
    once = keep_once e h a f b;
    unmarked = keep_unmarked e h a f b;
    course = keep_course e h a f b;
    acking = keep_acking e h a s b;
    stay = keep_stay e h a f b;
    going = keep_going e h a f b;
    reason = keep_reason e h a f b;
  }

  -- what is due stays due
  pub still_due : (e : Event) (h : List Event) → Allowed cluster e h → StopFacts h → BanFacts h → (n : ℕ) (p : TaskId) → ack_is_due n p h ≡ true → ack_is_due n p (e ∷ h) ≡ true
  still_due (Refuse t c) h a s b n p d = more _ _ _ (refuse_adds cluster n p t c h a s) d
  still_due (End t r) h a s b n p d = more _ _ _ (end_adds cluster n p t r h a s) d
  still_due (Acked q m) h a s b n p d = more _ _ _ (acked_adds cluster n p q m h a s) d
  still_due (Listed m q) h a s b n p d = more _ _ _ (listed_adds n p m q h (open_unlisted m q h b a.opened)) d
  still_due (Mark t c) h a s b n p d = due_at_mark cluster n p t c h a s ∙ d
  still_due _ h a s b n p d = d

  pub ban_facts : (h : List Event) → Lawful cluster h → BanFacts h
  ban_facts [] l = record {
    once = λ n p. omega arith;
    unmarked = λ p e. refl;
    course = λ n p. refl;
    acking = λ n p. refl;
    stay = λ n p. refl;
    going = λ n p. refl;
    reason = λ n p c e. cc;
  }
  ban_facts (e ∷ h) l = keep_bans e h l.0 (ask_facts cluster h l.1) (stop_facts cluster h l.1) (ban_facts h l.1)
