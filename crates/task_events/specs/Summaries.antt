-- How many tasks, bans and writes came and went in a history.
use Rattle.std.specs.Prelude.{◌+◌, ◌≤◌, List, [], ◌∷◌}
use Rattle.task_events.specs.declared.event.Event.{Event}
use Rattle.task_events.specs.declared.event.Event.TheVariants.{Root, Put, Refuse, BanPut, BanGone, Write, End}
use Rattle.task_events.specs.declared.history.TheConstants.{MAX_EVENTS}
use Rattle.task_events.specs.declared.reply.Reply.TheVariants.{Cancelled}
use Rattle.task_events.specs.declared.summary.Summary.{Summary}

-- nothing came
abbrev pub nothing : Summary
nothing = record { bans = 0; cancelled = 0; ended = 0; refused = 0; tasks = 0; unbans = 0; writes = 0 }

-- One event more: a root or a child that is put starts a task, an end ends one, a refusal refuses one and is no end, a ban comes or goes, or a
-- document is written. Other events count nothing.
abbrev pub after : Event → Summary → Summary
after (Root c t) s = record s { tasks = s.tasks + 1 }
after (Put t p k) s = record s { tasks = s.tasks + 1 }
after (Refuse t c) s = record s { refused = s.refused + 1 }
after (End t (Cancelled u c counts)) s = record s { ended = s.ended + 1; cancelled = s.cancelled + 1 }
after (End t reply) s = record s { ended = s.ended + 1 }
after (BanPut n p c) s = record s { bans = s.bans + 1 }
after (BanGone n p) s = record s { unbans = s.unbans + 1 }
after (Write index shard outcome id) s = record s { writes = s.writes + 1 }
after _ s = s

-- the summary of a history
abbrev pub summary_of : List Event → Summary
summary_of [] = nothing
summary_of (e ∷ h) = after e (summary_of h)

-- no number of it is above that of the events which a history holds
pub record StaysLow (s : Summary) : Type 0 where
  pub bans : s.bans ≤ MAX_EVENTS
  pub cancelled : s.cancelled ≤ MAX_EVENTS
  pub ended : s.ended ≤ MAX_EVENTS
  pub refused : s.refused ≤ MAX_EVENTS
  pub tasks : s.tasks ≤ MAX_EVENTS
  pub unbans : s.unbans ≤ MAX_EVENTS
  pub writes : s.writes ≤ MAX_EVENTS
