-- A cancel begins to name tasks, and is answered once it has named them all where it waits at none.
use Rattle.std.proofs.Common.{◌≡◌, ℕ, Bool, true, false, not, List, ◌∷◌, Option, Some, None, refl, sym, ap, ◌∙◌, arith}
use Rattle.std.specs.Prelude.{◌==◌, ◌&&◌}
use Rattle.std.proofs.lemmas.Bool.Decides.{nat_tests}
use Rattle.std.specs.BTreeSet.{BTreeSet}
use Rattle.std.specs.FinMap.{FinMap}
use Rattle.cancel_core.specs.Cancellations.{Cancellations}
use Rattle.task_ids.specs.declared.task_id.TaskId.{TaskId}
use Rattle.task_ids.specs.TaskIdOrder.{task_id_cmp}
use Rattle.task_ids.specs.declared.cluster.Cluster.{Cluster}
use Rattle.task_ids.specs.declared.corpus.Corpus.{Corpus}
use Rattle.task_table.specs.Table.{Table}
use Rattle.script_lang.specs.declared.command.Script.{Script}
use Rattle.task_events.specs.declared.event.Event.{Event}
use Rattle.task_events.specs.declared.event.Event.TheVariants.{AnswerPlaced, AnswerDone}
use Rattle.task_events.specs.Allowed.{IsDue}
use Rattle.task_events.specs.Cancels.{beginning, is_named}
use Rattle.task_events.specs.Lawful.{AwaitsNoMark, Lawful}
use Rattle.task_laws.proofs.Commands.{beginning_first, beginning_last}
use Rattle.command_roots.specs.Roots.{scripted}
use Rattle.node_parts.specs.declared.listing.Listing.{Listing}
use Rattle.node_parts.specs.declared.running.Running.{Running}
use Rattle.world_moves.specs.Reads.{Oldest, ReadsFrom}
use Rattle.world_moves.specs.declared.flight.Sent.{Sent}
use Rattle.world_moves.specs.Cancelling.{Cancelling}
use Rattle.world_moves.specs.Cancels.{answer_by, is_answered, is_due, left_of, waiting_for, waits_for_end, with_answer}
use Rattle.world_moves.specs.Describing.{Describing}
use Rattle.corpus_shards.specs.declared.Shards.{Shards}
use Rattle.world_moves.specs.Good.{so_far}
use Rattle.world_moves.specs.Paging.{Paging}
use Rattle.world_moves.proofs.ReadsAfter.{reads_after}
use Rattle.world_moves.proofs.PagesAfter.{quiet_pages}
use Rattle.task_events.specs.declared.context.Context.{Context}
use Rattle.world_moves.specs.Left.{HasLeft}
use Rattle.world_moves.specs.Ties.{HoldsShards, Ties}
use Rattle.world_moves.proofs.CancelAnswersAfter.{all_through}
use Rattle.world_moves.proofs.CancelsUntouched.{noted}
use Rattle.world_moves.proofs.DescriptionsAfter.{quiet}
use Rattle.world_moves.proofs.FlightAfter.{all_stay}
use Rattle.world_moves.proofs.KeptTasks.{kept_same}
use Rattle.world_moves.proofs.NamedCancels.{named_waits}
use Rattle.world_moves.proofs.NodeTablesSame.{listed_same}
use Rattle.world_moves.proofs.TasksNamed.{due_where_none}
use Rattle.world_steps.specs.Naming.{IsNaming}
use Rattle.world_steps.proofs.Unacted.{IsUnacted, unacted}

-- ---- the beginning

module _ (cluster : Cluster) (h : List Event) (c : ℕ) (begun : beginning h ≡ Some c) (l : Lawful cluster h) where
  pub nothing_named : IsUnacted c h
  nothing_named = unacted c h (beginning_first cluster h l c begun)

  pub begins_naming : (wait : Bool) → IsNaming c wait h
  begins_naming wait = record {
    current = beginning_last c h begun;
    one_kind = λ other e. absurd (let none = sym nothing_named.waits_not ∙ e in cc);
    at_once = λ none. begun;
    not_placed = nothing_named.placed;
    not_done = nothing_named.done;
    not_missing = nothing_named.found;
  }

  pub counts_begin : (left : ℕ → ℕ) → HasLeft None h left → HasLeft (Some c) h left
  counts_begin left has = record { counts = has.counts; answered = λ k u n. has.answered k u n ∙ ap (λ b. not b && (left_of k h == 0)) (other k u n) }
    where
      other : (k : ℕ) (u : TaskId) → is_named k u h ≡ true → false ≡ (k == c)
      other k u n = by_number (k == c) refl
        where
          by_number : (b : Bool) → (k == c) ≡ b → false ≡ b
          by_number true e = absurd (let same : k ≡ c = grind (arith, nat_tests) in let none = ap (λ j. is_named j u h) same ∙ nothing_named.names u in cc)
          by_number false e = refl

-- ---- the end

module _ (cluster : Cluster) (h : List Event) (c : ℕ) (wait : Bool) (naming : IsNaming c wait h) (l : Lawful cluster h) (awaits : AwaitsNoMark h) where
  due : IsDue c h
  due = record { placed_once = naming.not_placed; done_once = naming.not_done; found = naming.not_missing; at_once = naming.at_once }

  as_named : (u : TaskId) → is_named c u h ≡ true → waits_for_end c h ≡ wait
  as_named u n = sym (naming.one_kind (waits_for_end c h) (named_waits c u h n))

  answer_lawful : is_due h c ≡ true → (b : Bool) → wait ≡ b → Lawful cluster (answer_by b c ∷ h)
  answer_lawful d true w = (
    record {
      due = due;
      kind = λ e. let other = naming.one_kind false e in cc;
      placed = λ u n. (all_through c h d u n).0;
      ended = λ u n. (all_through c h d u n).1 (as_named u n ∙ w);
    },
    l,
    awaits,
  )
  answer_lawful d false w = (record { due = due; kind = λ e. let other = naming.one_kind true e in cc; placed = λ u n. (all_through c h d u n).0 }, l, awaits)

  ties_by : (corpus : Corpus) (script : Script) (tasks : TaskId → Option Running) (tables : List Table) (flight : List Sent) → Ties cluster corpus script h tasks tables flight
      → (b : Bool) → Lawful cluster (answer_by b c ∷ h) → Ties cluster corpus script (answer_by b c ∷ h) tasks tables flight
  ties_by corpus script tasks tables flight ties true lawful = record {
    lawful = lawful;
    kept = kept_same cluster corpus (scripted script) (AnswerDone c) h tasks refl refl ties.kept;
    listed = λ place. listed_same cluster (AnswerDone c) h (λ n. refl) refl place _ (ties.listed place);
    sent = all_stay (AnswerDone c) h flight _ ties.sent;
    good = ties.good;
    within = ties.within;
    plain = ties.plain;
  }
  ties_by corpus script tasks tables flight ties false lawful = record {
    lawful = lawful;
    kept = kept_same cluster corpus (scripted script) (AnswerPlaced c) h tasks refl refl ties.kept;
    listed = λ place. listed_same cluster (AnswerPlaced c) h (λ n. refl) refl place _ (ties.listed place);
    sent = all_stay (AnswerPlaced c) h flight _ ties.sent;
    good = ties.good;
    within = ties.within;
    plain = ties.plain;
  }

  pub ties_after_answer : is_due h c ≡ true → (corpus : Corpus) (script : Script) (tasks : TaskId → Option Running) (tables : List Table) (flight : List Sent) → Ties cluster corpus script h tasks tables flight
      → Ties cluster corpus script (answer_by wait c ∷ h) tasks tables flight
  ties_after_answer d corpus script tasks tables flight ties = ties_by corpus script tasks tables flight ties wait (answer_lawful d wait refl)

  cancels_by : (tables : List Table) (roots : ℕ → Option TaskId) (bans : List (FinMap task_id_cmp ℕ)) (cores : List Cancellations) (listings : BTreeSet Listing)
      → Cancelling cluster (λ u. waiting_for u h) h tables roots bans cores listings → (b : Bool) → Cancelling cluster (λ u. waiting_for u (answer_by b c ∷ h)) (answer_by b c ∷ h) tables roots bans cores listings
  cancels_by tables roots bans cores listings known true = noted cluster (λ u. waiting_for u h) h tables roots bans cores listings known (AnswerDone c) refl refl
  cancels_by tables roots bans cores listings known false = noted cluster (λ u. waiting_for u h) h tables roots bans cores listings known (AnswerPlaced c) refl refl

  pub cancels_after_answer : (tables : List Table) (roots : ℕ → Option TaskId) (bans : List (FinMap task_id_cmp ℕ)) (cores : List Cancellations) (listings : BTreeSet Listing)
      → Cancelling cluster (λ u. waiting_for u h) h tables roots bans cores listings → Cancelling cluster (λ u. waiting_for u (answer_by wait c ∷ h)) (answer_by wait c ∷ h) tables roots bans cores listings
  cancels_after_answer tables roots bans cores listings known = cancels_by tables roots bans cores listings known wait

  tells_by : (script : Script) (tables : List Table) (flight : List Sent) (now : ℕ) → Describing script h tables flight now → (b : Bool) → Describing script (answer_by b c ∷ h) tables flight now
  tells_by script tables flight now d true = quiet script h tables flight now (AnswerDone c) refl d
  tells_by script tables flight now d false = quiet script h tables flight now (AnswerPlaced c) refl d

  pub tells_after_answer : (script : Script) (tables : List Table) (flight : List Sent) (now : ℕ) → Describing script h tables flight now → Describing script (answer_by wait c ∷ h) tables flight now
  tells_after_answer script tables flight now d = tells_by script tables flight now d wait

  pages_by : (corpus : Corpus) (script : Script) (contexts : List (FinMap task_id_cmp Context)) → Paging cluster corpus script h contexts → (b : Bool) → Paging cluster corpus script (answer_by b c ∷ h) contexts
  pages_by corpus script contexts p true = quiet_pages cluster corpus script h contexts p (AnswerDone c) refl
  pages_by corpus script contexts p false = quiet_pages cluster corpus script h contexts p (AnswerPlaced c) refl

  pub pages_after_answer : (corpus : Corpus) (script : Script) (contexts : List (FinMap task_id_cmp Context)) → Paging cluster corpus script h contexts → Paging cluster corpus script (answer_by wait c ∷ h) contexts
  pages_after_answer corpus script contexts p = pages_by corpus script contexts p wait

  pub shards_after_answer : (corpus : Corpus) (script : Script) (oldest : Oldest) (shards : Shards) → HoldsShards (so_far corpus script h) corpus script.commands cluster.shards oldest shards
      → HoldsShards (so_far corpus script (answer_by wait c ∷ h)) corpus script.commands cluster.shards oldest shards
  shards_after_answer corpus script oldest shards = by_kind wait
    where
      by_kind : (b : Bool) → HoldsShards (so_far corpus script h) corpus script.commands cluster.shards oldest shards → HoldsShards (so_far corpus script (answer_by b c ∷ h)) corpus script.commands cluster.shards oldest shards
      by_kind true has = has
      by_kind false has = has

  reads_by : (oldest : Oldest) (corpus : Corpus) (script : Script) → ReadsFrom oldest cluster corpus script h → (b : Bool) → ReadsFrom oldest cluster corpus script (answer_by b c ∷ h)
  reads_by oldest corpus script reads true = reads_after oldest cluster corpus script h reads l (AnswerDone c) tt
  reads_by oldest corpus script reads false = reads_after oldest cluster corpus script h reads l (AnswerPlaced c) tt

  pub reads_after_answer : (oldest : Oldest) (corpus : Corpus) (script : Script) → ReadsFrom oldest cluster corpus script h → ReadsFrom oldest cluster corpus script (answer_by wait c ∷ h)
  reads_after_answer oldest corpus script reads = reads_by oldest corpus script reads wait

  no_mark_by : (b : Bool) → AwaitsNoMark (answer_by b c ∷ h)
  no_mark_by true = tt
  no_mark_by false = tt

  pub no_mark_after : AwaitsNoMark (answer_by wait c ∷ h)
  no_mark_after = no_mark_by wait

  unanswered : is_answered c h ≡ false
  unanswered = rw (naming.not_placed, naming.not_done) refl

  -- it is answered where it waits at none, as every cancel is
  answers_alone : (k : ℕ) (u : TaskId) (left : ℕ → ℕ) → HasLeft (Some c) h left → is_named k u h ≡ true → (k == c) ≡ false → is_answered k h ≡ (left_of k h == 0)
  answers_alone k u left has n e = has.answered k u n ∙ (rw e refl)

  answered_by : (left : ℕ → ℕ) → HasLeft (Some c) h left → is_due h c ≡ true → (b : Bool) (k : ℕ) (u : TaskId) → is_named k u h ≡ true → is_answered k (answer_by b c ∷ h) ≡ (left_of k h == 0)
  answered_by left has d b k u n = by_number (k == c) refl
    where
      now_too : (b : Bool) → (k == c) ≡ true → is_answered k (answer_by b c ∷ h) ≡ true
      now_too true e = grind (arith, e)
      now_too false e = grind (arith, e)

      as_it_was : (b : Bool) → (k == c) ≡ false → is_answered k (answer_by b c ∷ h) ≡ is_answered k h
      as_it_was true e = rw e refl
      as_it_was false e = rw e refl

      by_number : (e : Bool) → (k == c) ≡ e → is_answered k (answer_by b c ∷ h) ≡ (left_of k h == 0)
      by_number true e = let same : c ≡ k = grind (arith, nat_tests) in now_too b e ∙ sym (ap (λ j. left_of j h == 0) (sym same) ∙ sym (due_where_none c h) ∙ d)
      by_number false e = as_it_was b e ∙ answers_alone k u left has n e

  counts_by : (left : ℕ → ℕ) → HasLeft (Some c) h left → is_due h c ≡ true → (b : Bool) → HasLeft None (answer_by b c ∷ h) left
  counts_by left has d true = record { counts = has.counts; answered = answered_by left has d true }
  counts_by left has d false = record { counts = has.counts; answered = answered_by left has d false }

  pub counts_answered : (left : ℕ → ℕ) → HasLeft (Some c) h left → is_due h c ≡ true → HasLeft None (answer_by wait c ∷ h) left
  counts_answered left has d = counts_by left has d wait

  pub counts_open : (left : ℕ → ℕ) → HasLeft (Some c) h left → is_due h c ≡ false → HasLeft None h left
  counts_open left has d = record { counts = has.counts; answered = λ k u n. by_number k u n (k == c) refl }
    where
      by_number : (k : ℕ) (u : TaskId) → is_named k u h ≡ true → (e : Bool) → (k == c) ≡ e → is_answered k h ≡ (left_of k h == 0)
      by_number k u n true e = let same : k ≡ c = grind (arith, nat_tests) in ap (λ j. is_answered j h) same ∙ unanswered ∙ sym (ap (λ j. left_of j h == 0) same ∙ sym (due_where_none c h) ∙ d)
      by_number k u n false e = answers_alone k u left has n e

  pub is_answer_now : is_due h c ≡ true → with_answer c wait h ≡ answer_by wait c ∷ h
  is_answer_now d = rw d refl

  pub no_answer_now : is_due h c ≡ false → with_answer c wait h ≡ h
  no_answer_now d = rw d refl
