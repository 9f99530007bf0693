-- What a scroll is told of its context is the same before it begins and after.
use Rattle.std.proofs.Common.{◌≡◌, ◌∙◌, ℕ, List, ◌∷◌, Option, Some, None, refl, ap}
use Rattle.std.specs.Prelude.{option_and_then, is_ok}
use Rattle.task_ids.specs.declared.task_id.TaskId.{TaskId}
use Rattle.task_events.specs.declared.event.Event.{Event}
use Rattle.task_events.specs.declared.event.Event.TheVariants.{Begin}
use Rattle.task_events.specs.Clock.{clock}
use Rattle.task_events.specs.Contexts.{after_begin, context_at}
use Rattle.scroll_table.specs.Contexts.{answer_for}
use Rattle.script_lang.specs.declared.command.Command.TheVariants.{Scroll}
use Rattle.script_lang.specs.declared.command.ContextTarget.{ContextTarget}
use Rattle.script_lang.specs.declared.command.ContextTarget.TheVariants.{Id, Command}
use Rattle.script_lang.specs.declared.command.Script.{Script}
use Rattle.command_roots.specs.Roots.{cleared, cleared_in, command_at, context_named, page_at, scripted}
use Rattle.world_steps.specs.Scripts.{can_page, page_node}

module _ (k : ℕ) (h : List Event) where
  named_before : (target : ContextTarget) → context_named target (Begin k ∷ h) ≡ context_named target h
  named_before (Id id) = refl
  named_before (Command j) = refl

  pub node_before : (target : ContextTarget) → page_node target (Begin k ∷ h) ≡ page_node target h
  node_before (Id id) = refl
  node_before (Command j) = refl

  module _ (script : Script) (target : ContextTarget) (keep : Option ℕ) (opaque_id : Option (List ℕ)) (at : command_at script k ≡ Some (Scroll target keep opaque_id)) where
    -- a scroll clears no context
    clears_none : cleared script k h ≡ None
    clears_none = ap (option_and_then (λ command. cleared_in command h)) at

    same_page : (o : Option TaskId) → page_at script o (Begin k ∷ h) ≡ page_at script o h
    same_page None = refl
    same_page (Some id) = ap (λ o. answer_for None (clock h) (after_begin o id (context_at (scripted script) id h))) clears_none

    pub page_before : can_page script target (Begin k ∷ h) ≡ can_page script target h
    page_before = ap is_ok (ap (λ o. page_at script o (Begin k ∷ h)) (named_before target) ∙ same_page (context_named target h))
