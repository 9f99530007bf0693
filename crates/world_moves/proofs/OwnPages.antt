-- A child that is asked for a page finds the context of it: it stands from the ask on, and is free when the child passes.
use Rattle.std.proofs.Common.{◌≡◌, ℕ, true, false, List, Option, Some, None, refl, sym, ap, ◌∙◌, arith}
use Rattle.task_ids.specs.declared.cluster.Cluster.{Cluster}
use Rattle.task_ids.specs.declared.task_id.TaskId.{TaskId}
use Rattle.task_events.specs.declared.event.Event.{Event}
use Rattle.task_events.specs.declared.request.Request.TheVariants as asks
use Rattle.task_events.specs.declared.request.ScrollAsk.{ScrollAsk}
use Rattle.task_events.specs.Asks.{request_of_ask, is_unanswered}
use Rattle.task_events.specs.Lawful.{Lawful}
use Rattle.task_events.specs.Requests.{Scripted, request_of}
use Rattle.task_events.specs.Tasks.{is_live, is_new, parent_of, ask_of, child_of}
use Rattle.task_laws.proofs.Asks.{AskFacts, ask_facts, child_unanswered}
use Rattle.task_laws.proofs.Counts.{is_child_of}
use Rattle.task_laws.proofs.Same.{same_tests}
use Rattle.world_moves.specs.Owning.{IsShownBy, IsUsedByOwn, Stands, AwaitsPage, Owning}
use Rattle.world_moves.proofs.Children.{child_request}
use Rattle.world_moves.proofs.OwningAfter.{new_child}

module _ (cluster : Cluster) (said : Scripted) (h : List Event) (lawful : Lawful cluster h) (o : Owning said h) where
  facts : AskFacts h
  facts = ask_facts cluster h lawful

  -- the context of a page that is awaited stands
  pub awaited_stands : (p : TaskId) (k : ℕ) (ask : ScrollAsk) → is_unanswered p k h ≡ true → request_of_ask p k h ≡ Some (asks.Scroll ask) → Stands said p ask.id h
  awaited_stands p k ask waits asked = o.stands p ask.id (o.pages p k ask asked).opened (facts.live_or_ended p (facts.live_asker p k waits))

  -- what a live child is asked for is awaited
  child_waits : (t p : TaskId) (ask : ScrollAsk) → is_live t h ≡ true → parent_of t h ≡ Some p → request_of said t h ≡ Some (asks.Scroll ask) → AwaitsPage p (ask_of t h) h
  child_waits t p ask live parent asked = record { ask = ask; waits = child_unanswered t p h facts parent live; asked = sym (child_request cluster said t p h lawful parent) ∙ asked }

  is_child : (t p : TaskId) → parent_of t h ≡ Some p → child_of p (ask_of t h) h ≡ Some t
  is_child t p parent = let mine : is_child_of p (ask_of t h) t h ≡ true = rw parent (grind (arith, same_tests)) in facts.ask_knows p (ask_of t h) t mine

  -- the context that a child is to take is its parent's, and no task uses it
  pub record FindsFree (ask : ScrollAsk) : Type 0 where
    pub parent : TaskId
    pub stands : Stands said parent ask.id h
    pub own : ask.owner ≡ Some parent
    pub free : stands.context.busy ≡ None

  module _ (t : TaskId) (live : is_live t h ≡ true) (first : is_new t h ≡ true) (ask : ScrollAsk) (asked : request_of said t h ≡ Some (asks.Scroll ask)) where
    parent : (p : TaskId) × (parent_of t h ≡ Some p)
    parent = new_child t h first

    its_ask : request_of_ask parent.0 (ask_of t h) h ≡ Some (asks.Scroll ask)
    its_ask = sym (child_request cluster said t parent.0 h lawful parent.1) ∙ asked

    stands : Stands said parent.0 ask.id h
    stands = awaited_stands parent.0 (ask_of t h) ask (child_unanswered t parent.0 h facts parent.1 live) its_ask

    -- another child would be waited for too
    not_shown : (user : TaskId) → IsShownBy said parent.0 ask.id user h → ⊥
    not_shown user shown =
        let number : ask_of user h ≡ ask_of t h = o.alone parent.0 (ask_of user h) (ask_of t h) (child_waits user parent.0 shown.ask shown.live shown.parent shown.asked) (child_waits t parent.0 ask live parent.1 asked) in
        let both : Some user ≡ Some t = sym (is_child user parent.0 shown.parent) ∙ ap (λ k. child_of parent.0 k h) number ∙ is_child t parent.0 parent.1 in
        let one : user ≡ t = cc in
        let f : false ≡ true = sym shown.passed ∙ ap (λ x. is_new x h) one ∙ first in
        cc

    is_free : (user : Option TaskId) → IsUsedByOwn said parent.0 ask.id h user → user ≡ None
    is_free None used = refl
    is_free (Some user) used = absurd (not_shown user used)

    pub finds_free : FindsFree ask
    finds_free = record { parent = parent.0; stands = stands; own = (o.pages parent.0 (ask_of t h) ask its_ask).own; free = is_free stands.context.busy stands.used }
