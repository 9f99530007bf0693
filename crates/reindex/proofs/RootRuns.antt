-- A reindex is as far as its asks and their answers say, whether it does the work of its one slice itself or asks for several, and so it does what its kind says.
use Rattle.std.proofs.Common.{◌≡◌, ◌≢◌, ℕ, ◌+◌, ◌-◌, Bool, true, false, List, [], ◌∷◌, ◌++◌, length, map, Some, None, refl, sym, ap, ◌∙◌, length-set}
use Rattle.std.specs.Prelude.{◌==◌, slice_set, if◌then◌else◌}
use Rattle.std.proofs.lemmas.Bool.{eq-eqb, ne_eqb}
use Rattle.std.proofs.lemmas.List.{length_push}
use Rattle.task_ids.specs.declared.task_id.TaskId.{TaskId}
use Rattle.task_events.specs.declared.request.ReindexAsk.{ReindexAsk}
use Rattle.task_events.specs.declared.request.Request.{Request}
use Rattle.task_events.specs.declared.reply.Reply.{Reply}
use Rattle.task_events.specs.declared.step.Asked.{Asked}
use Rattle.task_events.specs.declared.step.Do.TheVariants.{AskNext}
use Rattle.task_events.specs.Counting.{answers_in, sums_of}
use Rattle.task_events.specs.ReindexTask.{cut_step, reindex_step, reindex_counts}
use Rattle.task_events.specs.SliceTask.{slice_step, slice_counts}
use Rattle.task_events.specs.Steps.{with_answer}
use Rattle.reindex.specs.declared.root.ReindexRoot.{ReindexRoot}
use Rattle.reindex.specs.declared.root.ReindexRoot.TheVariants.{Alone, Cut}
use Rattle.reindex.specs.RootWork.{IsNewRoot, IsRootWork, IsRootAt, root_next, root_may_ask, root_with_ask, root_takes, root_with_answer, root_counts}
use Rattle.reindex.proofs.CutRuns.{cut_first, cut_follows, cut_counted, cut_may_ask_when, cut_one_more, cut_answered}
use Rattle.reindex.proofs.FedSums.{row, fed_length}
use Rattle.reindex.proofs.SliceRuns.{slice_first, slice_follows, slice_counted, slice_may_ask_when, slice_one_more, slice_answered}

pub root_may_ask_when : (r : ReindexRoot) (request : Request) (now : ℕ) → root_next r now ≡ AskNext request → root_may_ask r ≡ true
root_may_ask_when (Alone s) request now e = slice_may_ask_when s request now e
root_may_ask_when (Cut c) request now e = cut_may_ask_when c request e

-- ---- one slice, or several

module _ (ask : ReindexAsk) where
  pub one_slice : ask.slices ≡ 1 → (ask.slices == 1) ≡ true
  one_slice one = eq-eqb ask.slices 1 one

  pub more_slices : ask.slices ≢ 1 → (ask.slices == 1) ≡ false
  more_slices more = ne_eqb ask.slices 1 more

  -- what its kind says of it then
  pub alone_steps : (t : TaskId) (shards : ℕ) (asked : List Asked) (came : List ℕ) (now : ℕ) → ask.slices ≡ 1 → reindex_step t ask shards asked came now ≡ slice_step t ask 0 shards asked came now
  alone_steps t shards asked came now one = ap (λ (b : Bool). if b then slice_step t ask 0 shards asked came now else cut_step ask asked) (one_slice one)

  pub cut_steps : (t : TaskId) (shards : ℕ) (asked : List Asked) (came : List ℕ) (now : ℕ) → ask.slices ≢ 1 → reindex_step t ask shards asked came now ≡ cut_step ask asked
  cut_steps t shards asked came now more = ap (λ (b : Bool). if b then slice_step t ask 0 shards asked came now else cut_step ask asked) (more_slices more)

  pub alone_counts : (asked : List Asked) → ask.slices ≡ 1 → reindex_counts ask asked ≡ slice_counts asked
  alone_counts asked one = ap (λ (b : Bool). if b then slice_counts asked else sums_of (answers_in asked)) (one_slice one)

  pub cut_counts : (asked : List Asked) → ask.slices ≢ 1 → reindex_counts ask asked ≡ sums_of (answers_in asked)
  cut_counts asked more = ap (λ (b : Bool). if b then slice_counts asked else sums_of (answers_in asked)) (more_slices more)

-- ---- how far it has come

pub root_first : (t : TaskId) (ask : ReindexAsk) (shards : ℕ) (r : ReindexRoot) → IsNewRoot t ask shards r → IsRootAt t ask shards [] [] r
root_first t ask shards (Alone s) new = record { moments = refl; work = (new.0, slice_first new.1) }
root_first t ask shards (Cut c) new = record { moments = refl; work = (new.0, cut_first new.1) }

follows_in : (t : TaskId) (ask : ReindexAsk) (shards : ℕ) (asked : List Asked) (came : List ℕ) (now : ℕ) (r : ReindexRoot) → IsRootWork t ask shards asked came r → reindex_step t ask shards asked came now ≡ root_next r now
follows_in t ask shards asked came now (Alone s) at = alone_steps ask t shards asked came now at.0 ∙ slice_follows at.1 now
follows_in t ask shards asked came now (Cut c) at = cut_steps ask t shards asked came now at.0 ∙ cut_follows at.1

counted_in : (t : TaskId) (ask : ReindexAsk) (shards : ℕ) (asked : List Asked) (came : List ℕ) (r : ReindexRoot) → IsRootWork t ask shards asked came r → reindex_counts ask asked ≡ root_counts r
counted_in t ask shards asked came (Alone s) at = alone_counts ask asked at.0 ∙ slice_counted at.1
counted_in t ask shards asked came (Cut c) at = cut_counts ask asked at.0 ∙ cut_counted at.1

asked_in : (t : TaskId) (ask : ReindexAsk) (shards : ℕ) (asked : List Asked) (came : List ℕ) (r : ReindexRoot) → root_may_ask r ≡ true → IsRootWork t ask shards asked came r
    → IsRootWork t ask shards (asked ++ record { ask = length asked + 1; answer = None } ∷ []) (came ++ 0 ∷ []) (root_with_ask r (length asked + 1))
asked_in t ask shards asked came (Alone s) may at = (at.0, slice_one_more at.1 may)
asked_in t ask shards asked came (Cut c) may at = (at.0, cut_one_more at.1 may)

answered_in : (t : TaskId) (ask : ReindexAsk) (shards : ℕ) (asked : List Asked) (came : List ℕ) (k : ℕ) (reply : Reply) (now : ℕ) (r : ReindexRoot) → root_takes r k reply ≡ true → IsRootWork t ask shards asked came r
    → IsRootWork t ask shards (map (with_answer k (Some reply)) asked) (slice_set came (k - 1) now) (root_with_answer r k reply now)
answered_in t ask shards asked came k reply now (Alone s) takes at = (at.0, slice_answered at.1 k reply now takes)
answered_in t ask shards asked came k reply now (Cut c) takes at = (at.0, cut_answered at.1 k reply takes)

module _ {t : TaskId} {ask : ReindexAsk} {shards : ℕ} {asked : List Asked} {came : List ℕ} {r : ReindexRoot} (at : IsRootAt t ask shards asked came r) where
  pub root_follows : (now : ℕ) → reindex_step t ask shards asked came now ≡ root_next r now
  root_follows now = follows_in t ask shards asked came now r at.work

  pub root_counted : reindex_counts ask asked ≡ root_counts r
  root_counted = counted_in t ask shards asked came r at.work

  pub root_one_more : root_may_ask r ≡ true → IsRootAt t ask shards (asked ++ record { ask = length asked + 1; answer = None } ∷ []) (came ++ 0 ∷ []) (root_with_ask r (length asked + 1))
  root_one_more may = record {
    moments = length_push came 0 ∙ ap (λ n. n + 1) at.moments ∙ sym (length_push asked (row (length asked + 1) None));
    work = asked_in t ask shards asked came r may at.work;
  }

  pub root_answered : (k : ℕ) (reply : Reply) (now : ℕ) → root_takes r k reply ≡ true → IsRootAt t ask shards (map (with_answer k (Some reply)) asked) (slice_set came (k - 1) now) (root_with_answer r k reply now)
  root_answered k reply now takes = record {
    moments = length-set came (k - 1) now ∙ at.moments ∙ sym (fed_length k (Some reply) asked);
    work = answered_in t ask shards asked came k reply now r takes at.work;
  }
