-- A part of a bulk that has ended, and was not cancelled, has written each of its documents once.
use Rattle.std.proofs.Common.{◌≡◌, ◌*◌, ◌≤◌, ℕ, min, Bool, true, false, List, ◌∷◌, length, take_all, Some, refl, ap, ◌∙◌, arith}
use Rattle.std.specs.Option.{option_map_or}
use Rattle.std.specs.Prelude.{count_by, ◌&&◌, nat_le, nat_lt}
use Rattle.std.proofs.lemmas.Bool.Decides.{nat_tests}
use Rattle.task_ids.specs.declared.cluster.Cluster.{Cluster}
use Rattle.task_ids.specs.declared.corpus.Corpus.{Corpus}
use Rattle.task_ids.specs.declared.task_id.TaskId.{TaskId}
use Rattle.task_events.specs.declared.event.Event.{Event}
use Rattle.task_events.specs.declared.event.Event.TheVariants.{End}
use Rattle.task_events.specs.declared.event.Outcome.{Outcome}
use Rattle.task_events.specs.declared.reply.Reply.{Reply}
use Rattle.task_events.specs.declared.request.BulkShardAsk.{BulkShardAsk}
use Rattle.task_events.specs.declared.request.Request.TheVariants.{BulkShard}
use Rattle.task_events.specs.declared.step.Do.TheVariants.{Finish}
use Rattle.task_events.specs.Lawful.{Lawful}
use Rattle.task_events.specs.Looking.{is_done, rows_per_turn, work_or_end}
use Rattle.task_events.specs.Requests.{Scripted, request_of}
use Rattle.task_events.specs.Steps.{turns_of}
use Rattle.task_events.specs.Tasks.{reply_of}
use Rattle.task_events.specs.Written.{next_doc, writes_by}
use Rattle.write_laws.specs.Copied.{HasWritten}
use Rattle.write_laws.specs.KindsAsked.{KeepsToKinds}
use Rattle.write_laws.specs.TreeWrites.{tree_number}
use Rattle.write_laws.proofs.ByKind.{part_alone}
use Rattle.write_laws.proofs.DocsWritten.{own_docs_first, whole_wrote, wrote}
use Rattle.write_laws.proofs.EndedWritten.{ended_written}
use Rattle.write_laws.proofs.StepCases.{ends_by_plan, is_cancelled}
use Rattle.write_laws.proofs.Trees.{children_number, number_by_children, own_number, own_writes}
use Rattle.write_laws.proofs.WholeTurns.{AllPlanned}

-- work that ends is done
ends_done : (done : Bool) (reply last : Reply) → work_or_end done reply ≡ Finish last → done ≡ true
ends_done true reply last e = refl
ends_done false reply last e = absurd (cc)

all_looked_at : (turns much : ℕ) → is_done turns much ≡ true → much ≤ turns * rows_per_turn
all_looked_at turns much e = by_product (turns * rows_per_turn) e
  where
    by_product : (x : ℕ) → (nat_lt 0 turns && nat_le much x) ≡ true → much ≤ x
    by_product x e = grind (arith, nat_tests)

module _ (cluster : Cluster) (corpus : Corpus) (said : Scripted) where
  -- ---- at the end of a part

  module _ (h : List Event) (l : Lawful cluster h) (keeps : KeepsToKinds said h) (t : TaskId) (ask : BulkShardAsk) (asked : request_of said t h ≡ Some (BulkShard ask)) where
    -- it asks for nothing
    own_tree : (passes : Outcome → List Event → Bool) → tree_number passes t h ≡ own_number passes t h
    own_tree passes =
        let none : children_number passes t h ≡ 0 = rw (part_alone cluster said h l keeps t (rw asked refl)) refl in
        omega (arith, none, number_by_children cluster passes h l t)

    part_end : (last : Reply) → is_cancelled last ≡ false → AllPlanned cluster corpus said (End t last ∷ h) → HasWritten said t h ask.docs
    part_end last good p = record {
      each = λ test. own_tree (λ outcome past. option_map_or test (next_doc said past) false) ∙ own_docs_first cluster corpus said t test h l ∙ rw asked (rw all (ap (count_by test) (take_all (length ask.docs) ask.docs (omega arith))));
      no_more = own_tree (λ outcome past. true) ∙ own_writes (λ outcome. true) t h ∙ all;
    }
      where
        done : is_done (turns_of t h) (length ask.docs) ≡ true
        done = ends_done (is_done (turns_of t h) (length ask.docs)) _ last (ends_by_plan cluster corpus said h (End t last) p.0.0 t last (BulkShard ask) refl good asked)

        much : writes_by (λ outcome. true) t h ≡ min (turns_of t h * rows_per_turn) (length ask.docs)
        much = let written = whole_wrote cluster corpus said t h p.0.1 (wrote cluster corpus said t h l p.1) in rw asked at written

        all : writes_by (λ outcome. true) t h ≡ length ask.docs
        all = much ∙ of_product (turns_of t h * rows_per_turn) (all_looked_at (turns_of t h) (length ask.docs) done)
          where
            of_product : (x : ℕ) → length ask.docs ≤ x → min x (length ask.docs) ≡ length ask.docs
            of_product x i = omega (arith, i)

  pub parts_written : (h : List Event) → Lawful cluster h → KeepsToKinds said h → AllPlanned cluster corpus said h → (t : TaskId) (reply : Reply) (ask : BulkShardAsk)
      → is_cancelled reply ≡ false → reply_of t h ≡ Some reply → request_of said t h ≡ Some (BulkShard ask) → HasWritten said t h ask.docs
  parts_written h l keeps p t reply ask =
      ended_written cluster corpus said (BulkShard ask) ask.docs (λ last. is_cancelled last ≡ false) (λ u c good. absurd (cc)) (λ past u last lawful kept planned asked good. part_end past lawful.1 kept u ask asked last good planned) h l keeps p t reply
