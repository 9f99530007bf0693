-- The contexts that belong to tasks are as they should be where nothing is done to tasks.
use Rattle.std.proofs.Common.{ℕ, List, Option, Some, None, sym, ◌∙◌}
use Rattle.task_ids.specs.declared.task_id.TaskId.{TaskId}
use Rattle.task_events.specs.declared.event.Event.{Event}
use Rattle.task_events.specs.declared.request.ScrollAsk.{ScrollAsk}
use Rattle.task_events.specs.Requests.{Scripted}
use Rattle.world_moves.specs.Owning.{IsSearchOf, IsUsedByOwn, Stands, IsOwnPage, AwaitsPage, Owning}
use Rattle.world_moves.proofs.QuietEvents.{IsAsBefore}

module _ (said : Scripted) (h later : List Event) (same : IsAsBefore said h later) where
  search_before : (owner search : TaskId) → IsSearchOf said owner search later → IsSearchOf said owner search h
  search_before owner search s = record { ask = s.ask; found = s.found; parent = sym (same.parent search) ∙ s.parent; asked = sym (same.request search) ∙ s.asked; own = s.own; ended = sym (same.reply search) ∙ s.ended }

  search_later : (owner search : TaskId) → IsSearchOf said owner search h → IsSearchOf said owner search later
  search_later owner search s = record { ask = s.ask; found = s.found; parent = same.parent search ∙ s.parent; asked = same.request search ∙ s.asked; own = s.own; ended = same.reply search ∙ s.ended }

  used_later : (owner id : TaskId) (user : Option TaskId) → IsUsedByOwn said owner id h user → IsUsedByOwn said owner id later user
  used_later owner id None used = tt
  used_later owner id (Some t) s = record { ask = s.ask; live = same.live t ∙ s.live; passed = same.new t ∙ s.passed; parent = same.parent t ∙ s.parent; asked = same.request t ∙ s.asked; shows = s.shows }

  stands_later : (owner id : TaskId) → Stands said owner id h → Stands said owner id later
  stands_later owner id s = record { context = s.context; there = same.context id ∙ s.there; owned = s.owned; kept = s.kept; used = used_later owner id s.context.busy s.used }

  page_later : (p : TaskId) (ask : ScrollAsk) → IsOwnPage said p ask h → IsOwnPage said p ask later
  page_later p ask own = record { own = own.own; no_keep = own.no_keep; opened = search_later p ask.id own.opened }

  waits_before : (p : TaskId) (k : ℕ) → AwaitsPage p k later → AwaitsPage p k h
  waits_before p k waits = record { ask = waits.ask; waits = same.waits p k waits.waits; asked = sym (same.asked p k) ∙ waits.asked }

  pub same_owning : Owning said h → Owning said later
  same_owning o = record {
    stands = λ owner search s goes_on. stands_later owner search (o.stands owner search (search_before owner search s) (sym (same.ended owner) ∙ goes_on));
    searches = λ p k ask is. o.searches p k ask (sym (same.asked p k) ∙ is);
    pages = λ p k ask is. page_later p ask (o.pages p k ask (sym (same.asked p k) ∙ is));
    alone = λ p j k one other. o.alone p j k (waits_before p j one) (waits_before p k other);
  }
