-- Acknowledgements that are sent: each is good, and none of them answers a cancel.
use Rattle.std.proofs.Common.{◌≡◌, ℕ, Bool, true, false, cond, not, List, [], ◌∷◌, ◌++◌, map, Option, Some, None, refl, sym, ap, ◌∙◌}
use Rattle.std.specs.Prelude.{◌&&◌, nat_lt}
use Rattle.std.specs.List.{AllByRecursion}
use Rattle.std.specs.FinMap.{get}
use Rattle.std.proofs.lemmas.List.{map-append, append-nil}
use Rattle.std.proofs.lemmas.List.Elements.{filter_map-append}
use Rattle.task_ids.specs.declared.task_id.TaskId.{TaskId}
use Rattle.task_ids.specs.declared.cluster.Cluster.{Cluster}
use Rattle.task_ids.specs.declared.corpus.Corpus.{Corpus}
use Rattle.cancel_core.specs.declared.act.Act.{Act}
use Rattle.cancel_core.specs.declared.act.Act.TheVariants.{SendAck}
use Rattle.cancel_core.specs.Cancellations.{Cancellations}
use Rattle.cancel_core.specs.Listings.{awaited_by, ack_acts, leaving_acts}
use Rattle.task_events.specs.declared.event.Event.{Event}
use Rattle.task_events.specs.Bans.{ack_is_due}
use Rattle.task_events.specs.Messages.{Message, ack_from, ack_over}
use Rattle.task_events.specs.Messages.Message.{Ack}
use Rattle.world_moves.specs.Acts.{message_in, messages_in, answer_in, offered_in}
use Rattle.world_moves.specs.Flights.{message_of}
use Rattle.world_moves.specs.Ties.{IsGood}

module _ (cluster : Cluster) (corpus : Corpus) (past : List Event) where
  pub from_good : (n : ℕ) (p : TaskId) (earlier later : List Event) → AllByRecursion (IsGood cluster corpus past) (ack_from n p earlier later)
  from_good n p earlier later = by_due (ack_is_due n p later && not (ack_is_due n p earlier))
    where
      by_due : (b : Bool) → AllByRecursion (IsGood cluster corpus past) (cond b (Ack p n ∷ []) [])
      by_due true = (tt, tt)
      by_due false = tt

  pub over_good : (o : Option TaskId) (n : ℕ) (earlier later : List Event) → AllByRecursion (IsGood cluster corpus past) (ack_over o n earlier later)
  over_good None n earlier later = tt
  over_good (Some p) n earlier later = from_good n p earlier later

-- what acts one after the other send
pub acts_say : (past : List Event) (node : ℕ) (xs ys : List Act) (ms ns : List Message) → map (message_of past) (messages_in node xs) ≡ map Some ms → map (message_of past) (messages_in node ys) ≡ map Some ns
    → map (message_of past) (messages_in node (xs ++ ys)) ≡ map Some (ms ++ ns)
acts_say past node xs ys ms ns e f =
    ap (map (message_of past)) (filter_map-append (message_in node) xs ys) ∙ map-append (message_of past) (messages_in node xs) (messages_in node ys) ∙ (λ i. e i ++ f i) ∙ sym (map-append Some ms ns)

-- the acknowledgement at the end of acts offers no answer
pub offers_no_more : (core : Cancellations) (t : TaskId) (stopped : Bool) (acts : List Act) → offered_in (acts ++ leaving_acts core t stopped) ≡ offered_in acts
offers_no_more core t stopped acts = filter_map-append answer_in acts (leaving_acts core t stopped) ∙ ap (λ es. offered_in acts ++ es) (none stopped) ∙ append-nil (offered_in acts)
  where
    by_number : (p : TaskId) (b : Bool) → offered_in (cond b [] (SendAck p.node p ∷ [])) ≡ []
    by_number p true = refl
    by_number p false = refl

    by_wait : (o : Option TaskId) → offered_in (ack_acts core o) ≡ []
    by_wait None = refl
    by_wait (Some p) = by_number p (nat_lt 1 (awaited_by core p))

    none : (b : Bool) → offered_in (cond b (ack_acts core (get core.waits t)) []) ≡ []
    none false = refl
    none true = by_wait (get core.waits t)
