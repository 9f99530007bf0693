-- What follows from what a live task does next by its plan.
use Rattle.std.proofs.Common.{◌≡◌, ℕ, Option, Some, sym, subst}
use Rattle.task_events.specs.declared.reply.Reply.{Reply}
use Rattle.task_events.specs.declared.request.Request.{Request}
use Rattle.task_events.specs.declared.step.Do.TheVariants.{AskNext, Turn, Finish}
use Rattle.task_work.specs.Works.{place_of, next_of, due_in}
use Rattle.node_link.specs.Lawful.{IsLawfulReply}
use Rattle.node_parts.specs.Running.{next_number}
use Rattle.held_shards.specs.declared.HeldShards.{HeldShards}
use Rattle.live_tasks.specs.declared.entry.Entry.{Entry}
use Rattle.data_parts.specs.declared.clock.Clock.{Clock}
use Rattle.data_parts.specs.Clocks.{moment_by}
use Rattle.data_parts.proofs.Moves.{may_ask, turn_place, lawful_end}
use Rattle.entry_facts.specs.Entries.{writes_for}
use Rattle.data_core.specs.Cores.{IsGoodEntry}
use Rattle.data_core.specs.Plans.{plan_for, MayAsk, TurnsNext}

-- the moment by which it goes on
abbrev pub moment : HeldShards → Clock → Entry → ℕ
moment held clock e = moment_by clock.ms clock.draining (due_in (next_of e.running.work (writes_for held (place_of e.running.work)) clock.ms))

module _ (allowed : ℕ → Type 0) (held : HeldShards) (clock : Clock) (e : Entry) (good : IsGoodEntry allowed held e) (o : Option Entry) (at : o ≡ Some e) where
  pub plan_asks : (request : Request) → AskNext request ≡ plan_for held clock e → MayAsk o
  plan_asks request is = subst MayAsk (sym at) (may_ask (writes_for held (place_of e.running.work)) (moment held clock e) e.running.work request (next_number e.running) good.asks (sym is))

  pub plan_turns : Turn ≡ plan_for held clock e → TurnsNext held o
  plan_turns is = subst (TurnsNext held) (sym at) ((moment held clock e, sym is), turn_place (writes_for held (place_of e.running.work)) (moment held clock e) e.running.work (sym is))

  pub plan_ends : (reply : Reply) → Finish reply ≡ plan_for held clock e → IsLawfulReply allowed reply
  plan_ends reply is = lawful_end allowed (writes_for held (place_of e.running.work)) (moment held clock e) e.running.work reply good.replies (sym is)
