-- What a task asks for of contexts is of its own, where its work shows that.
use Rattle.std.proofs.Common.{◌≡◌, ◌<◌, ℕ, zero, suc, ◌+◌, true, false, List, Option, Some, None, refl, sym, ap, subst, ◌∙◌, arith}
use Rattle.std.specs.Prelude.{is_some, option_and_then}
use Rattle.std.specs.FinMap.{FinMap}
use Rattle.task_ids.specs.TaskIdOrder.{task_id_cmp}
use Rattle.task_ids.specs.declared.cluster.Cluster.{Cluster}
use Rattle.task_ids.specs.declared.corpus.Corpus.{Corpus}
use Rattle.task_ids.specs.declared.task_id.TaskId.{TaskId}
use Rattle.script_lang.specs.declared.command.Script.{Script}
use Rattle.task_events.specs.declared.context.Context.{Context}
use Rattle.task_events.specs.declared.event.Event.{Event}
use Rattle.task_events.specs.declared.reply.Reply.TheVariants.{Search, Rejected}
use Rattle.task_events.specs.declared.request.Request.{Request}
use Rattle.task_events.specs.declared.request.Request.TheVariants as asks
use Rattle.task_events.specs.declared.request.SearchAsk.{SearchAsk}
use Rattle.task_events.specs.Asks.{request_of_ask, is_unanswered, rejection_of, answer_or}
use Rattle.task_events.specs.Contexts.{context_of, asked_page}
use Rattle.task_events.specs.Lawful.{Lawful}
use Rattle.task_events.specs.Messages.{is_request, number_in_flight}
use Rattle.task_events.specs.Requests.{request_of}
use Rattle.task_events.specs.Steps.{asked_by}
use Rattle.task_events.specs.Tasks.{parent_of, ask_of, child_of, reply_of}
use Rattle.task_laws.proofs.Asks.{ask_facts}
use Rattle.task_laws.proofs.InFlight.{requests_in_flight}
use Rattle.task_work.specs.Works.{is_page}
use Rattle.command_roots.specs.Roots.{scripted}
use Rattle.world_moves.specs.Facts.{awaited_by, requested_by, none_awaited}
use Rattle.world_moves.specs.Owning.{IsSearchOf, MayAskOwn}
use Rattle.world_moves.specs.Paging.{Paging, context_in}
use Rattle.world_moves.specs.Plain.{AnswersPlainly}
use Rattle.world_moves.proofs.AsksCounted.{awaited_at, requested_at}
use Rattle.world_moves.proofs.AsksFor.{answer_told}
use Rattle.world_moves.proofs.Children.{child_request}
use Rattle.world_moves.proofs.ContextsNamed.{named}
use Rattle.world_moves.proofs.KindLaws.{AsksOwn, HasOpened}
use Rattle.world_moves.proofs.NoneAwaited.{none_there}
use Rattle.world_moves.proofs.OwnPages.{awaited_stands}
use Rattle.world_moves.proofs.ReadInTime.{put_for}

module _ (cluster : Cluster) (corpus : Corpus) (script : Script) (h : List Event) (lawful : Lawful cluster h) (plain : AnswersPlainly cluster corpus script h) where
  -- where nothing is awaited no ask is unanswered
  none_waits : (t : TaskId) → none_awaited (awaited_by t h) ≡ true → (j : ℕ) → is_unanswered t j h ≡ false
  none_waits t none zero = (ask_facts cluster h lawful).first_ask t
  none_waits t none (suc k) = let e : suc k ≡ k + 1 = omega arith in ap (λ n. is_unanswered t n h) e ∙ awaited_at cluster t k h lawful ∙ none_there (awaited_by t h) none k

  -- the context that a search was opened for has the search's own id
  own_id : (u t : TaskId) (ask : SearchAsk) → ask.owner ≡ Some t → context_of u ask ≡ Some u
  own_id u t ask own = of_keep ask.scroll refl
    where
      of_keep : (keep : Option ℕ) → ask.scroll ≡ keep → context_of u ask ≡ Some u
      of_keep None e = rw (e, own) refl
      of_keep (Some ms) e = rw e refl

  -- the search whose answer named a context is one of the task
  module _ (t : TaskId) (id : TaskId) (o : HasOpened t (asked_by t h) (requested_by t h) id) where
    its_request : request_of_ask t (o.place + 1) h ≡ Some (asks.Search o.ask)
    its_request = requested_at cluster t o.place h lawful ∙ o.requested

    of_child : (u : TaskId) → child_of t (o.place + 1) h ≡ Some u → reply_of u h ≡ Some (Search o.found) → IsSearchOf (scripted script) t id h
    of_child u is told =
        let put = put_for t (o.place + 1) (parent_of u h) (ask_of u h) ((ask_facts cluster h lawful).child_knows t (o.place + 1) u is) in
        let asked : request_of (scripted script) u h ≡ Some (asks.Search o.ask) = child_request cluster (scripted script) u t h lawful put.0 ∙ ap (λ j. request_of_ask t j h) put.1 ∙ its_request in
        let both : Some u ≡ Some id = sym (own_id u t o.ask o.own) ∙ sym (named cluster corpus script u o.ask o.found h lawful plain told asked) ∙ o.named in
        let one : u ≡ id = cc in
        subst (λ x. IsSearchOf (scripted script) t x h) one (record { ask = o.ask; found = o.found; parent = put.0; asked = asked; own = o.own; ended = told })

    pub its_search : IsSearchOf (scripted script) t id h
    its_search = by_answer (rejection_of t (o.place + 1) h) (child_of t (o.place + 1) h) refl (answer_told cluster t h lawful o.place _ (Search o.found) o.answered refl)
      where
        by_answer : (rejected : Option ℕ) (child : Option TaskId) → child_of t (o.place + 1) h ≡ child → answer_or rejected (option_and_then (λ u. reply_of u h) child) ≡ Some (Search o.found) → IsSearchOf (scripted script) t id h
        by_answer (Some n) child is e = absurd (let f : Some (Rejected n) ≡ Some (Search o.found) = e in cc)
        by_answer None None is e = absurd (cc)
        by_answer None (Some u) is e = of_child u is e

  pub may_ask_own : (t : TaskId) (r : Request) → AsksOwn t (asked_by t h) (requested_by t h) (awaited_by t h) r → MayAskOwn (scripted script) t r h
  may_ask_own t (asks.Search ask) owns = owns
  may_ask_own t (asks.Query ask) owns = tt
  may_ask_own t (asks.Fetch ask) owns = tt
  may_ask_own t (asks.Reindex ask) owns = tt
  may_ask_own t (asks.Slice ask) owns = tt
  may_ask_own t (asks.Bulk ask) owns = tt
  may_ask_own t (asks.BulkShard ask) owns = tt
  may_ask_own t (asks.Scroll ask) owns = (record { own = owns.0; no_keep = owns.1; opened = its_search t ask.id owns.3 }, none_waits t owns.2)

-- the context of a page whose request is in flight is in its table
module _ (cluster : Cluster) (corpus : Corpus) (script : Script) (h : List Event) (lawful : Lawful cluster h) (tables : List (FinMap task_id_cmp Context)) (pages : Paging cluster corpus script h tables) (p : TaskId) (k : ℕ) where
  pub sent_there : (r : Request) → 0 < number_in_flight (is_request p k) h → request_of_ask p k h ≡ Some r → is_some (asked_page (λ id. context_in tables id) (Some r)) ≡ is_page r
  sent_there (asks.Search ask) sent asked = refl
  sent_there (asks.Query ask) sent asked = refl
  sent_there (asks.Fetch ask) sent asked = refl
  sent_there (asks.Reindex ask) sent asked = refl
  sent_there (asks.Slice ask) sent asked = refl
  sent_there (asks.Bulk ask) sent asked = refl
  sent_there (asks.BulkShard ask) sent asked = refl
  sent_there (asks.Scroll ask) sent asked =
      let counted = requests_in_flight p k h in
      let place = (ask_facts cluster h lawful).place p k in
      let waits : is_unanswered p k h ≡ true = grind (arith, sent, counted, place) in
      let s = awaited_stands cluster (scripted script) h lawful pages.owns p k ask waits asked in
      ap is_some (pages.stand ask.id ∙ s.there)
