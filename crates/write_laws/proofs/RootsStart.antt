-- What is so where the root of a command comes: the command could start it. If that shows a page, it finds its context free, and of nobody: the command was told so.
use Rattle.std.proofs.Common.{◌≡◌, ℕ, true, false, List, Option, Some, None, is_ok, refl, sym, subst}
use Rattle.std.specs.Prelude.{IsSomeAnd, option_and_then, option_map}
use Rattle.task_ids.specs.declared.corpus.Corpus.{Corpus}
use Rattle.task_ids.specs.declared.task_id.TaskId.{TaskId}
use Rattle.task_events.specs.declared.context.Context.{Context}
use Rattle.task_events.specs.declared.event.Event.{Event}
use Rattle.task_events.specs.declared.request.ReindexAsk.{ReindexAsk}
use Rattle.task_events.specs.declared.request.Request.TheVariants as asks
use Rattle.task_events.specs.declared.request.SearchAsk.{SearchAsk}
use Rattle.task_events.specs.Clock.{clock}
use Rattle.task_events.specs.Contexts.{context_at, is_busy}
use Rattle.script_lang.specs.declared.command.Command.{Command}
use Rattle.script_lang.specs.declared.command.Command.TheVariants.{Search, Scroll, Reindex}
use Rattle.script_lang.specs.declared.command.ContextTarget.{ContextTarget}
use Rattle.script_lang.specs.declared.command.Script.{Script}
use Rattle.command_roots.specs.Roots.{command_at, context_named, page_at, request_in, root_request, scripted}
use Rattle.world_steps.specs.Scripts.{can_copy, can_page, can_start}
use Rattle.world_steps.proofs.PagesStart.{usable_found}
use Rattle.write_laws.proofs.RootsFit.{RootFits}

-- the command could start its root
abbrev pub CouldStart : Corpus → Script → Command → List Event → Type 0
CouldStart corpus script (Search index node scroll body opaque_id) h = can_start corpus script.commands index scroll body ≡ true
CouldStart corpus script (Scroll target keep opaque_id) h = can_page script target h ≡ true
CouldStart corpus script (Reindex node body slices rate opaque_id store) h = can_copy corpus script.commands body ≡ true
CouldStart corpus script _ h = ⊥

-- the command of this number could start its root, and what that asks for fits
pub record StartFits (corpus : Corpus) (script : Script) (k : ℕ) (h : List Event) : Type 0 where
  pub fits : RootFits (scripted script) (root_request script k h) h
  pub command : Command
  pub at : command_at script k ≡ Some command
  pub could : CouldStart corpus script command h

module _ (script : Script) (k : ℕ) (h : List Event) where
  pub command_fits : (corpus : Corpus) (command : Command) → command_at script k ≡ Some command → CouldStart corpus script command h → RootFits (scripted script) (request_in command h) h → StartFits corpus script k h
  command_fits corpus command at could fits = record {
    fits = subst (λ o. RootFits (scripted script) (option_and_then (λ c. request_in c h) o) h) (sym at) fits;
    command = command;
    at = at;
    could = could;
  }

  -- no search and no reindex shows a page
  pub search_fits : (o : Option SearchAsk) → RootFits (scripted script) (option_map asks.Search o) h
  search_fits None = (tt, tt)
  search_fits (Some ask) = (tt, tt)

  pub reindex_fits : (o : Option ReindexAsk) → RootFits (scripted script) (option_map asks.Reindex o) h
  reindex_fits None = (tt, tt)
  reindex_fits (Some ask) = (tt, tt)

  -- who asks for nobody is given a context of nobody
  of_nobody : (id : TaskId) (c : Context) → context_at (scripted script) id h ≡ Some c → is_ok (page_at script (Some id) h) ≡ true → c.owner ≡ None
  of_nobody id c there ok = by_owner c.owner refl
    where
      by_owner : (o : Option TaskId) → c.owner ≡ o → c.owner ≡ None
      by_owner None e = e
      by_owner (Some u) e = absurd (let no : false ≡ true = rw (there, e) at ok in cc)

  of_named : (keep : Option ℕ) (o : Option TaskId) → is_ok (page_at script o h) ≡ true → RootFits (scripted script) (option_map (λ id. asks.Scroll (record { id = id; keep = keep; owner = None })) o) h
  of_named keep None ok = (tt, tt)
  of_named keep (Some id) ok =
      let found = usable_found None (clock h) (context_at (scripted script) id h) ok in
      (subst (λ o. IsSomeAnd o (λ c. is_busy c ≡ false)) (sym found.1) found.2, λ c there. of_nobody id c there ok)

  pub page_fits : (target : ContextTarget) (keep : Option ℕ) → can_page script target h ≡ true → RootFits (scripted script) (option_map (λ id. asks.Scroll (record { id = id; keep = keep; owner = None })) (context_named target h)) h
  page_fits target keep can = of_named keep (context_named target h) can
