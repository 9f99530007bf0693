-- The numbers of a summary are at most as many as the events.
use Rattle.std.proofs.Common.{◌≡◌, ℕ, suc, ◌≤◌, List, [], ◌∷◌, length, reverse, arith}
use Rattle.std.proofs.lemmas.List.{length-reverse}
use Rattle.task_events.specs.declared.event.Event.{Event}
use Rattle.task_events.specs.declared.event.Event.TheVariants.{Root, Put, Refuse, BanPut, BanGone, Write, End}
use Rattle.task_events.specs.declared.history.TheConstants.{MAX_EVENTS}
use Rattle.task_events.specs.declared.reply.Reply.TheVariants.{Cancelled}
use Rattle.task_events.specs.declared.summary.Summary.{Summary}
use Rattle.task_events.specs.Summaries.{StaysLow, after, summary_of}

-- no number of a summary is above n
record AreWithin (n : ℕ) (s : Summary) : Type 0 where
  pub bans : s.bans ≤ n
  pub cancelled : s.cancelled ≤ n
  pub ended : s.ended ≤ n
  pub refused : s.refused ≤ n
  pub tasks : s.tasks ≤ n
  pub unbans : s.unbans ≤ n
  pub writes : s.writes ≤ n

within_after : (e : Event) (s : Summary) (n : ℕ) → AreWithin n s → AreWithin (suc n) (after e s)
within_after (Root c t) s n w = grind (arith, w)
within_after (Put t p k) s n w = grind (arith, w)
within_after (Refuse t c) s n w = grind (arith, w)
within_after (End t (Cancelled u c counts)) s n w = grind (arith, w)
within_after (End t reply) s n w = grind (arith, w)
within_after (BanPut n' p c) s n w = grind (arith, w)
within_after (BanGone n' p) s n w = grind (arith, w)
within_after (Write index shard outcome id) s n w = grind (arith, w)
within_after _ s n w = grind (arith, w)

within_length : (h : List Event) → AreWithin (length h) (summary_of h)
within_length [] = grind arith
within_length (e ∷ h) = within_after e (summary_of h) (length h) (within_length h)

-- the summary of a history that lies in a list, the oldest event first, stays low
pub stays_low : (joined : List Event) (s : Summary) → length joined ≤ MAX_EVENTS → s ≡ summary_of (reverse joined) → StaysLow s
stays_low joined s fits is =
    let w = within_length (reverse joined) in
    let many : length (reverse joined) ≤ MAX_EVENTS = omega (arith, length-reverse joined, fits) in
    grind (arith, w, many, is)
