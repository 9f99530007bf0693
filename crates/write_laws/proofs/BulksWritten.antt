-- A bulk that has ended without a failure has written each of its documents once.
use Rattle.std.proofs.Common.{◌≡◌, ◌-◌, ◌≤◌, ℕ, zero, suc, Bool, true, false, cond, List, [], ◌∷◌, length, map, Option, Some, None, refl, sym, ap, ◌∙◌, arith}
use Rattle.std.specs.Option.{option_map_or}
use Rattle.std.specs.Prelude.{count_by, option_map, slice_get}
use Rattle.std.proofs.lemmas.List.{length-map}
use Rattle.std.proofs.lemmas.List.Sums.{sum_by-cons}
use Rattle.std.proofs.lemmas.Option.{slice_get-map, slice_get_within}
use Rattle.task_ids.specs.declared.cluster.Cluster.{Cluster}
use Rattle.task_ids.specs.declared.corpus.Corpus.{Corpus}
use Rattle.task_ids.specs.declared.doc.Doc.{Doc}
use Rattle.task_ids.specs.declared.task_id.TaskId.{TaskId}
use Rattle.task_events.specs.declared.event.Event.{Event}
use Rattle.task_events.specs.declared.event.Outcome.{Outcome}
use Rattle.task_events.specs.declared.reply.Counts.{Counts}
use Rattle.task_events.specs.declared.reply.Reply.{Reply}
use Rattle.task_events.specs.declared.request.BulkAsk.{BulkAsk}
use Rattle.task_events.specs.declared.request.BulkShardAsk.{BulkShardAsk}
use Rattle.task_events.specs.declared.request.Request.{Request}
use Rattle.task_events.specs.declared.request.Request.TheVariants.{Bulk, BulkShard}
use Rattle.task_events.specs.declared.step.Asked.{Asked}
use Rattle.task_events.specs.Asks.{last_ask}
use Rattle.task_events.specs.BulkTask.{parts_of}
use Rattle.task_events.specs.Counting.{answers_in, failures_of, written_in}
use Rattle.task_events.specs.Lawful.{Lawful}
use Rattle.task_events.specs.Requests.{Scripted, request_of}
use Rattle.task_events.specs.Steps.{asked_by}
use Rattle.task_events.specs.Tasks.{reply_of}
use Rattle.task_events.specs.Written.{next_doc}
use Rattle.write_laws.specs.Copied.{HasWritten}
use Rattle.write_laws.specs.KindsAsked.{KeepsToKinds}
use Rattle.write_laws.specs.TreeWrites.{tree_number}
use Rattle.write_laws.proofs.AskedForAll.{IsDone, IsGoodAsk, all_done, as_many_asks, good_ask, only_children}
use Rattle.write_laws.proofs.GoodAnswers.{good_alive}
use Rattle.write_laws.proofs.PartsWritten.{parts_written}
use Rattle.write_laws.proofs.SplitDocs.{of_part, parts_count}
use Rattle.write_laws.proofs.StepCases.{is_cancelled}
use Rattle.write_laws.proofs.Sums.{sum_of_list, sum_to, sums_agree_to}
use Rattle.write_laws.proofs.Trees.{child_number}
use Rattle.write_laws.proofs.WholeTurns.{AllPlanned}

-- past the end there is nothing
pub past_end : {X : Type 0} (xs : List X) (i : ℕ) → slice_get xs i ≡ None → length xs ≤ i
past_end [] i e = omega arith
past_end (x ∷ xs) zero e = absurd (cc)
past_end (x ∷ xs) (suc i) e = let rest = past_end xs i e in omega (arith, rest)

pub count_all : (docs : List Doc) → count_by (λ doc. true) docs ≡ length docs
count_all [] = refl
count_all (doc ∷ docs) = let rest = count_all docs in omega (arith, rest, sum_by-cons (λ d. cond true 1 0) doc docs)

module _ (cluster : Cluster) (corpus : Corpus) (said : Scripted) (ask : BulkAsk) where
  abbrev parts : List Request
  parts = map BulkShard (parts_of ask cluster.shards)

  -- a bulk asks for its parts, in order
  abbrev wanted : ℕ → Option Request
  wanted i = slice_get parts i

  abbrev told : List Asked → Counts
  told asked = written_in (answers_in asked)

  module _ (h : List Event) (l : Lawful cluster h) (keeps : KeepsToKinds said h) (planned : AllPlanned cluster corpus said h) (t : TaskId) (last : Reply) (good : failures_of last ≡ 0) (replied : reply_of t h ≡ Some last) (asked : request_of said t h ≡ Some (Bulk ask)) where
    done : IsDone wanted (asked_by t h)
    done = all_done cluster corpus said (Bulk ask) wanted told (λ u made q now. refl) (λ xs. refl) h l keeps planned t last good replied asked

    as_many : last_ask t h ≡ length (parts_of ask cluster.shards)
    as_many =
        as_many_asks cluster corpus said (Bulk ask) wanted told (λ u made q now. refl) h l planned t last replied asked done (length parts) (past_end parts) (λ i child e. slice_get_within parts i child e)
        ∙ length-map (parts_of ask cluster.shards) BulkShard

    module _ (passes : Outcome → List Event → Bool) (test : Doc → Bool)
        (each : (c : TaskId) (reply : Reply) (part : BulkShardAsk) → is_cancelled reply ≡ false → reply_of c h ≡ Some reply → request_of said c h ≡ Some (BulkShard part) → tree_number passes c h ≡ count_by test part.docs) where
      of_ask : (k : ℕ) → 1 ≤ k → k ≤ last_ask t h → child_number passes t h k ≡ option_map_or (of_part test) (slice_get (parts_of ask cluster.shards) (k - 1)) 0
      of_ask k low high = by_part (slice_get (parts_of ask cluster.shards) (k - 1)) (sym (slice_get-map BulkShard (parts_of ask cluster.shards) (k - 1)) ∙ one.wants)
        where
          one : IsGoodAsk said wanted t h k
          one = good_ask cluster corpus said (Bulk ask) wanted told (λ u made q now. refl) h l planned t last replied asked done k low high

          by_part : (o : Option BulkShardAsk) → option_map BulkShard o ≡ Some one.child → child_number passes t h k ≡ option_map_or (of_part test) o 0
          by_part None is = absurd (cc)
          by_part (Some part) is = ap (λ o. option_map_or (λ c. tree_number passes c h) o 0) one.put ∙ each one.task one.reply part (good_alive one.reply one.unfailing) one.replied (one.asked ∙ sym is)

      bulk_number : tree_number passes t h ≡ count_by test ask.docs
      bulk_number =
          only_children cluster said passes h l keeps t (Bulk ask) asked refl ∙ sums_agree_to (child_number passes t h) (λ k. option_map_or (of_part test) (slice_get (parts_of ask cluster.shards) (k - 1)) 0) (last_ask t h) of_ask
          ∙ ap (sum_to (λ k. option_map_or (of_part test) (slice_get (parts_of ask cluster.shards) (k - 1)) 0)) as_many ∙ sum_of_list (of_part test) (parts_of ask cluster.shards) ∙ parts_count test ask cluster.shards cluster.shards_in_range.0

pub bulks_written : (cluster : Cluster) (corpus : Corpus) (said : Scripted) (h : List Event) → Lawful cluster h → KeepsToKinds said h → AllPlanned cluster corpus said h → (t : TaskId) (reply : Reply) (ask : BulkAsk)
    → failures_of reply ≡ 0 → reply_of t h ≡ Some reply → request_of said t h ≡ Some (Bulk ask) → HasWritten said t h ask.docs
bulks_written cluster corpus said h l keeps planned t reply ask good replied asked = record {
  each = λ test. number (λ outcome past. option_map_or test (next_doc said past) false) test (λ c last part alive e made. (written c last part alive e made).each test);
  no_more = number (λ outcome past. true) (λ doc. true) (λ c last part alive e made. (written c last part alive e made).no_more ∙ sym (count_all part.docs)) ∙ count_all ask.docs;
}
  where
    written : (c : TaskId) (last : Reply) (part : BulkShardAsk) → is_cancelled last ≡ false → reply_of c h ≡ Some last → request_of said c h ≡ Some (BulkShard part) → HasWritten said c h part.docs
    written c last part alive e made = parts_written cluster corpus said h l keeps planned c last part alive e made

    number : (passes : Outcome → List Event → Bool) (test : Doc → Bool)
        → ((c : TaskId) (last : Reply) (part : BulkShardAsk) → is_cancelled last ≡ false → reply_of c h ≡ Some last → request_of said c h ≡ Some (BulkShard part) → tree_number passes c h ≡ count_by test part.docs)
        → tree_number passes t h ≡ count_by test ask.docs
    number = bulk_number cluster corpus said ask h l keeps planned t reply good replied asked
