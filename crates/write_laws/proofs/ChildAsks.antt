-- What a task has asked for: its children were asked to do that.
use Rattle.std.proofs.Common.{◌≡◌, ℕ, zero, suc, Bool, true, false, List, [], ◌∷◌, length, length-append, Option, Some, None, refl, ap, ◌∙◌, arith}
use Rattle.std.proofs.lemmas.List.{length-map}
use Rattle.task_ids.specs.declared.cluster.Cluster.{Cluster}
use Rattle.task_ids.specs.declared.corpus.Corpus.{Corpus}
use Rattle.task_ids.specs.declared.task_id.TaskId.{TaskId}
use Rattle.task_events.specs.declared.event.Event.{Event}
use Rattle.task_events.specs.declared.event.Event.TheVariants.{Root, Ask, Put}
use Rattle.task_events.specs.declared.reply.Reply.{Reply}
use Rattle.task_events.specs.declared.request.Request.{Request}
use Rattle.task_events.specs.declared.step.Do.TheVariants.{AskNext, Finish}
use Rattle.task_events.specs.Asks.{last_ask, request_of_ask, up_to}
use Rattle.task_events.specs.Lawful.{Lawful}
use Rattle.task_events.specs.Requests.{Scripted, request_of}
use Rattle.task_events.specs.Same.{same_pair}
use Rattle.task_events.specs.SearchTask.{ask_or_end}
use Rattle.task_events.specs.Steps.{asked_by}
use Rattle.task_events.specs.Tasks.{child_of}
use Rattle.task_laws.proofs.Asks.{ask_facts}
use Rattle.task_laws.proofs.Same.{same_tests}
use Rattle.write_laws.proofs.AskedInOrder.{asked_at, asked_in_order}

pub length_up_to : (n : ℕ) → length (up_to n) ≡ n
length_up_to zero = refl
length_up_to (suc n) = let rest = length_up_to n in let longer = length-append (up_to n) (suc n ∷ []) in omega (arith, rest, longer)

-- a task has as many asks as the number of its last one
pub asks_made : (cluster : Cluster) (t : TaskId) (h : List Event) → Lawful cluster h → length (asked_by t h) ≡ last_ask t h
asks_made cluster t h l = ap length (asked_in_order cluster t h l) ∙ length-map (up_to (last_ask t h)) (asked_at t h) ∙ length_up_to (last_ask t h)

-- what is asked for in the end
pub asks_next : (o : Option Request) (answered : Bool) (reply : Reply) (child : Request) → ask_or_end o answered reply ≡ AskNext child → o ≡ Some child
asks_next (Some made) answered reply child e = cc
asks_next None true reply child e = absurd (cc)
asks_next None false reply child e = absurd (cc)

pub ends_none : (o : Option Request) (answered : Bool) (reply last : Reply) → ask_or_end o answered reply ≡ Finish last → (o ≡ None) × (answered ≡ true) × (reply ≡ last)
ends_none (Some made) answered reply last e = absurd (cc)
ends_none None true reply last e = (refl, refl, cc)
ends_none None false reply last e = absurd (cc)

module _ (cluster : Cluster) (corpus : Corpus) (said : Scripted) where
  -- a child was asked to do what its parent asked for
  pub child_request : (h : List Event) → Lawful cluster h → (p : TaskId) (k : ℕ) (c : TaskId) → child_of p k h ≡ Some c → request_of said c h ≡ request_of_ask p k h
  child_request [] l p k c e = absurd (cc)
  child_request (Root n u ∷ h) l p k c e = let f = ask_facts cluster h l.1 in let before = child_request h l.1 p k c e in grind (arith, same_tests, before, f.child_born p k c, l.0.takes.next)
  child_request (Put u q j ∷ h) l p k c e = by_pair (same_pair p k q j) refl (child_request h l.1 p k c)
    where
      by_pair : (b : Bool) → same_pair p k q j ≡ b → (child_of p k h ≡ Some c → request_of said c h ≡ request_of_ask p k h) → request_of said c (Put u q j ∷ h) ≡ request_of_ask p k h
      by_pair true one before = grind (arith, same_tests)
      by_pair false other before = let f = ask_facts cluster h l.1 in grind (arith, same_tests, before, f.child_born p k c, l.0.takes.next)
  child_request (Ask q j n made ∷ h) l p k c e = let f = ask_facts cluster h l.1 in let before = child_request h l.1 p k c e in grind (arith, same_tests, before, f.no_child p k, l.0.next)
  child_request (_ ∷ h) l p k c e = child_request h l.1 p k c e
