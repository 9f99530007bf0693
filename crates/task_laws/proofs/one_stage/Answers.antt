use Rattle.std.proofs.Common.{◌≡◌, ◌≢◌, ◌+◌, ℕ, Bool, true, cond, ◌&&◌, not, List, None, arith}
use Rattle.task_ids.specs.declared.task_id.TaskId.{TaskId}
use Rattle.task_events.specs.declared.event.Event.{Event}
use Rattle.task_events.specs.Tasks.{has_ended}
use Rattle.task_events.specs.Bans.{mark_of, banned_nodes, listing_is_open, is_listed, is_acked, is_gone, bans_are_placed, unbans_are_sent, ack_is_due}
use Rattle.task_events.specs.Messages.{is_ban, is_ack, is_unban, number_in_flight}
use Rattle.task_events.specs.Laws.{OneStage, one_if, stands, is_banned, awaits_children}
use Rattle.task_laws.proofs.Numbers.{in_list, both}
use Rattle.task_laws.proofs.Counts.{banned}
use Rattle.task_laws.proofs.InFlight.{bans_in_flight, acks_in_flight, unbans_in_flight}
use Rattle.task_laws.proofs.Bans.{BanFacts, ban_facts, placed_acked, due_listed}
use Rattle.task_laws.proofs.one_stage.Goals as goal

-- seven numbers that are 0 or 1, with the sums that each event keeps
seven : (b k u : ℕ) (st l w a s g : Bool) → b + one_if l + one_if w + k + one_if a ≡ 1 → b + one_if st + one_if g ≡ 1 → u + one_if g ≡ one_if s → (s ≡ true → a ≡ true) →
    b + one_if (st && l) + one_if (st && w) + cond st k 0 + one_if (st && (a && not s)) + cond st u 0 + one_if g ≡ 1
seven b k u st l w a s g c y d p = grind (arith, p)

-- a listing that has ended awaits children, or the acknowledgement is due
awaits_or_due : (l d : Bool) → (d ≡ true → l ≡ true) → one_if l ≡ one_if (l && not d) + one_if d
awaits_or_due l d f = grind (arith, f)

module _ (h : List Event) (b : BanFacts h) where
  one_banned : (n : ℕ) (p : TaskId) → banned n p h ≡ one_if (is_banned n p h)
  one_banned n p = in_list n (banned_nodes p h) (b.once n p)

  acking : (n : ℕ) (p : TaskId) → number_in_flight (is_ack n p) h + one_if (is_acked n p h) ≡ one_if (ack_is_due n p h)
  acking n p =
      let x = acks_in_flight n p h in
      let w = b.acking n p in
      omega arith

  placing : (n : ℕ) (p : TaskId) → number_in_flight (is_ban n p) h + one_if (listing_is_open n p h) + one_if (awaits_children n p h) + number_in_flight (is_ack n p) h + one_if (is_acked n p h) ≡ one_if (is_banned n p h)
  placing n p =
      let x = bans_in_flight n p h in
      let w = b.course n p in
      let o = one_banned n p in
      let k = acking n p in
      let l = awaits_or_due (is_listed n p h) (ack_is_due n p h) (due_listed n p h) in
      omega arith

  standing : (n : ℕ) (p : TaskId) → number_in_flight (is_ban n p) h + one_if (stands n p h) + one_if (is_gone n p h) ≡ one_if (is_banned n p h)
  standing n p =
      let x = bans_in_flight n p h in
      let w = b.stay n p in
      let o = one_banned n p in
      omega arith

  where_sent : (i s : Bool) (n : ℕ) → n ≡ one_if i → cond s n 0 ≡ one_if (i && s)
  where_sent i s n e = grind arith

  going : (n : ℕ) (p : TaskId) → number_in_flight (is_unban n p) h + one_if (is_gone n p h) ≡ one_if (is_banned n p h && unbans_are_sent p h)
  going n p =
      let x = unbans_in_flight n p h in
      let w = b.going n p in
      let s = where_sent (is_banned n p h) (unbans_are_sent p h) (banned n p h) (one_banned n p) in
      omega arith

  -- the unbans are sent only where each banned node has acknowledged
  sent_acked : (n : ℕ) (p : TaskId) → is_banned n p h ≡ true → unbans_are_sent p h ≡ true → is_acked n p h ≡ true
  sent_acked n p e s =
      let o = one_banned n p in
      let one = rw e at o in
      placed_acked n p h (both (has_ended p h) (bans_are_placed p h) s).1 (omega arith)

  stage : (n : ℕ) (p : TaskId) → is_banned n p h ≡ true →
      number_in_flight (is_ban n p) h + one_if (stands n p h && listing_is_open n p h) + one_if (stands n p h && awaits_children n p h) + cond (stands n p h) (number_in_flight (is_ack n p) h) 0
      + one_if (stands n p h && (is_acked n p h && not (unbans_are_sent p h))) + cond (stands n p h) (number_in_flight (is_unban n p) h) 0 + one_if (is_gone n p h) ≡ 1
  stage n p e =
      seven (number_in_flight (is_ban n p) h) (number_in_flight (is_ack n p) h) (number_in_flight (is_unban n p) h) (stands n p h) (listing_is_open n p h) (awaits_children n p h) (is_acked n p h) (unbans_are_sent p h) (is_gone n p h)
      (rw e at (placing n p)) (rw e at (standing n p)) (rw e at (going n p)) (sent_acked n p e)

  marked : (n : ℕ) (p : TaskId) → is_banned n p h ≡ true → mark_of p h ≢ None
  marked n p e m = let none = b.unmarked p m in let no = rw none at e in absurd (cc)

  law : OneStage h
  law = record { stage = stage; placing = placing; acking = acking; standing = standing; going = going; marked = marked; number = b.reason }

pub returns : goal.returns
returns c = λ cluster h l. law h (ban_facts cluster h l)
