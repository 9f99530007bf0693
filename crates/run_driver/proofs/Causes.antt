-- The cause that a letter tells.
use Rattle.std.proofs.Common.{◌≡◌, ◌⊎◌, inl, inr, List, Contains, sym, subst}
use Rattle.std.proofs.lemmas.List.Elements.{Contains-push}
use Rattle.task_events.specs.declared.stop.Stop.{Stop}
use Rattle.task_events.specs.declared.stop.Stop.TheVariants.{Memory}
use Rattle.node_link.specs.declared.body.Body.{Body}
use Rattle.node_link.specs.declared.body.Body.TheVariants.{Stopped}
use Rattle.node_link.specs.declared.ends.Receiver.{Receiver}
use Rattle.node_link.specs.declared.rule.Tagged.{Tagged}
use Rattle.node_link.specs.Inbox.{got, TookOne}
use Rattle.run_driver.specs.Causes.{HasHeard, IsCauseAt}

told : (old new : Receiver Body) (stop : Stop) → TookOne old new (Stopped stop) → HasHeard new stop
told old new stop one = (one.0, subst (λ (l : List (Tagged Body)). Contains l (record { from = one.0; letter = Stopped stop })) (sym one.1) (Contains-push (got old) (record { from = one.0; letter = Stopped stop })))

-- a letter was taken, and told the cause where it was not want of memory
pub heard : (old new : Receiver Body) (letter : Body) (stop : Stop) → TookOne old new letter → (letter ≡ Stopped stop) ⊎ (stop ≡ Memory) → IsCauseAt new stop
heard old new letter stop one (inl is) = inl (told old new stop (subst (λ (l : Body). TookOne old new l) is one))
heard old new letter stop one (inr memory) = inr memory
