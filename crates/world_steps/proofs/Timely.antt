-- How plans wait, for every kind of task: by what came to them and the moment, and not by what is written.
use Rattle.std.proofs.Common.{◌≡◌, ◌<◌, ◌≤◌, ℕ, ◌-◌, Bool, true, false, cond, List, length, Option, Some, None, refl, sym, ap, ◌∙◌, arith}
use Rattle.std.specs.Prelude.{◌%◌, ◌==◌, nat_le, nat_lt, option_and_then}
use Rattle.std.proofs.lemmas.Bool.Decides.{nat_tests}
use Rattle.task_ids.specs.declared.task_id.TaskId.{TaskId}
use Rattle.task_ids.specs.declared.cluster.Cluster.{Cluster}
use Rattle.task_ids.specs.declared.corpus.Corpus.{Corpus}
use Rattle.task_events.specs.declared.context.Context.{Context}
use Rattle.task_events.specs.declared.request.Request.{Request}
use Rattle.task_events.specs.declared.request.Request.TheVariants as asks
use Rattle.task_events.specs.declared.reply.Reply.{Reply}
use Rattle.task_events.specs.declared.reply.Reply.TheVariants.{Wrote}
use Rattle.task_events.specs.declared.request.ReindexAsk.{ReindexAsk}
use Rattle.task_events.specs.declared.step.Asked.{Asked}
use Rattle.task_events.specs.declared.step.Do.{Do}
use Rattle.task_events.specs.declared.step.Do.TheVariants.{AskNext, Wait, Finish}
use Rattle.task_events.specs.BulkTask.{bulk_step}
use Rattle.task_events.specs.Counting.{is_batch}
use Rattle.task_events.specs.Kind.{Progress}
use Rattle.task_events.specs.Kinds.{kind_of}
use Rattle.task_events.specs.Looking.{work_or_end}
use Rattle.task_events.specs.Readings.{Reading, page_reading, search_reading}
use Rattle.task_events.specs.ReindexTask.{reindex_step, cut_step}
use Rattle.task_events.specs.ScrollTask.{scroll_step}
use Rattle.task_events.specs.SearchTask.{ask_or_end, search_step}
use Rattle.task_events.specs.SliceTask.{slice_step, slice_counts, first_page, later_page, page_from, after_page, after_bulk, due_after, answer_at, context_in, is_clean, most_asks}
use Rattle.search_phase.proofs.Sorting.{by_test}
use Rattle.task_work.specs.Works.{due_in}

-- how a plan waits: not at all, or for a moment, or for answers
abbrev pub waits_for : Do → Option (Option ℕ)
waits_for (Wait due) = Some due
waits_for _ = None

-- A plan by the moment. Where it waits for a moment, that is to come, it stays so until then, and waits for none from then on; else it stays as it is.
pub record IsTimely (plan : ℕ → Do) : Type 0 where
  pub ahead : (now due : ℕ) → plan now ≡ Wait (Some due) → now < due
  pub rests : (now due later : ℕ) → plan now ≡ Wait (Some due) → now ≤ later → later < due → plan later ≡ Wait (Some due)
  pub over : (now due later : ℕ) → plan now ≡ Wait (Some due) → due ≤ later → due_in (plan later) ≡ None
  pub stays : (now later : ℕ) → due_in (plan now) ≡ None → now ≤ later → plan later ≡ plan now

-- a plan that passes over the moment, and never waits for one
whenever : (step : Do) → due_in step ≡ None → IsTimely (λ now. step)
whenever step none = record {
  ahead = λ now due waits. absurd (let some = sym none ∙ ap due_in waits in cc);
  rests = λ now due later waits low high. waits;
  over = λ now due later waits high. none;
  stays = λ now later same low. refl;
}

-- ---- these wait for answers alone

pub ask_or_end_waits : (o : Option Request) (answered : Bool) (reply : Reply) → due_in (ask_or_end o answered reply) ≡ None
ask_or_end_waits (Some request) answered reply = refl
ask_or_end_waits None true reply = refl
ask_or_end_waits None false reply = refl

pub search_waits : (r : Reading) (asked : List Asked) → due_in (search_step r asked) ≡ None
search_waits r asked = ask_or_end_waits _ _ _

pub page_waits : (page : Option Context) (asked : List Asked) → due_in (scroll_step page asked) ≡ None
page_waits None asked = refl
page_waits (Some context) asked = search_waits (page_reading context) asked

pub work_waits : (b : Bool) (reply : Reply) → due_in (work_or_end b reply) ≡ None
work_waits false reply = refl
work_waits true reply = refl

work_never : (b : Bool) (reply : Reply) → waits_for (work_or_end b reply) ≡ None
work_never false reply = refl
work_never true reply = refl

-- ---- a slice waits for the moment of its next page

-- of two plans that go by the moment
either : (b : Bool) (f g : ℕ → Do) → IsTimely f → IsTimely g → IsTimely (λ now. cond b (f now) (g now))
either true f g one other = one
either false f g one other = other

page_timely : (t : TaskId) (context : Option TaskId) (due : ℕ) → IsTimely (λ now. page_from t context due now)
page_timely t None due = whenever (Wait None) refl
page_timely t (Some id) due = record {
  ahead = λ now d waits. by_test (nat_le due now)
      (λ yes. absurd (let f : asks_it ≡ Wait (Some d) = rw yes at waits in cc))
      (λ no. let f : Wait (Some due) ≡ Wait (Some d) = rw no at waits in let same : due ≡ d = cc in grind (arith, nat_tests));
  rests = λ now d later waits low high. by_test (nat_le due now)
      (λ yes. absurd (let f : asks_it ≡ Wait (Some d) = rw yes at waits in cc))
      (λ no. let f : Wait (Some due) ≡ Wait (Some d) = rw no at waits in let same : due ≡ d = cc in let not_yet : nat_le due later ≡ false = grind (arith, nat_tests) in rw not_yet f);
  over = λ now d later waits high. by_test (nat_le due now)
      (λ yes. absurd (let f : asks_it ≡ Wait (Some d) = rw yes at waits in cc))
      (λ no. let f : Wait (Some due) ≡ Wait (Some d) = rw no at waits in let same : due ≡ d = cc in let passed : nat_le due later ≡ true = grind (arith, nat_tests) in rw passed refl);
  stays = λ now later none low. by_test (nat_le due now)
      (λ yes. let passed : nat_le due later ≡ true = grind (arith, nat_tests) in rw (yes, passed) refl)
      (λ no. absurd (let f : Some due ≡ None = rw no at none in cc));
}
  where
    asks_it : Do
    asks_it = AskNext (later_page t id)

bulk_timely : (goes_on : ℕ → Do) (end : Do) (answer : Option Reply) → IsTimely goes_on → due_in end ≡ None → IsTimely (λ now. after_bulk (goes_on now) end answer)
bulk_timely goes_on end None timely ends = whenever (Wait None) refl
bulk_timely goes_on end (Some reply) timely ends = either (is_clean reply) goes_on (λ now. end) timely (whenever end ends)

page_never : (ask : ReindexAsk) (end : Do) (answer : Option Reply) → due_in end ≡ None → due_in (after_page ask end answer) ≡ None
page_never ask end None ends = refl
page_never ask end (Some page) ends = by_test (is_batch page) (λ yes. rw yes refl) (λ no. rw no ends)

slice_timely : (t : TaskId) (ask : ReindexAsk) (slice shards : ℕ) (asked : List Asked) (came : List ℕ) → IsTimely (λ now. slice_step t ask slice shards asked came now)
slice_timely t ask slice shards asked came =
    let made = length asked in
    let newest = made - 1 in
    let end : Do = Finish (Wrote (slice_counts asked)) in
    let context = option_and_then context_in (answer_at asked 0) in
    let due = due_after ask asked came newest in
    either (made == 0) (λ now. AskNext (first_page t ask slice shards)) _ (whenever (AskNext (first_page t ask slice shards)) refl)
    (either (made % 2 == 1) (λ now. after_page ask end (answer_at asked newest)) _ (whenever _ (page_never ask end (answer_at asked newest) refl))
    (bulk_timely (λ now. cond (nat_lt made most_asks) (page_from t context due now) (Wait None)) end (answer_at asked newest) (either (nat_lt made most_asks) (λ now. page_from t context due now) (λ now. Wait None) (page_timely t context due) (whenever (Wait None) refl)) refl))

cut_timely : (ask : ReindexAsk) (asked : List Asked) → IsTimely (λ now. cut_step ask asked)
cut_timely ask asked = whenever (cut_step ask asked) (ask_or_end_waits _ _ _)

-- ---- every kind

module _ (cluster : Cluster) (t : TaskId) where
  pub timely : (r : Request) (corpus : Corpus) (p : Progress) → IsTimely (λ now. (kind_of r).step cluster corpus t p now)
  timely (asks.Search ask) corpus p = whenever _ (search_waits (search_reading t ask cluster.shards) p.asked)
  timely (asks.Scroll ask) corpus p = whenever _ (page_waits p.page p.asked)
  timely (asks.Query ask) corpus p = whenever _ (work_waits _ _)
  timely (asks.Fetch ask) corpus p = whenever _ (work_waits _ _)
  timely (asks.Slice s) corpus p = slice_timely t s.reindex s.slice cluster.shards p.asked p.came
  timely (asks.Reindex ask) corpus p = either (ask.slices == 1) _ (λ now. cut_step ask p.asked) (slice_timely t ask 0 cluster.shards p.asked p.came) (cut_timely ask p.asked)
  timely (asks.Bulk ask) corpus p = whenever (bulk_step ask cluster.shards p.asked) (ask_or_end_waits _ _ _)
  timely (asks.BulkShard ask) corpus p = whenever _ (work_waits _ _)

  -- what a task waits for goes by the page that it shows, its asks and their answers, when these came, and how many turns it has taken
  pub waits_alike : (r : Request) (corpus later : Corpus) (p q : Progress) (now : ℕ) → p.page ≡ q.page → p.asked ≡ q.asked → p.came ≡ q.came → p.turns ≡ q.turns
      → waits_for ((kind_of r).step cluster corpus t p now) ≡ waits_for ((kind_of r).step cluster later t q now)
  waits_alike (asks.Search ask) corpus later p q now page asked came turns = ap (λ xs. waits_for (search_step (search_reading t ask cluster.shards) xs)) asked
  waits_alike (asks.Scroll ask) corpus later p q now page asked came turns = ap (λ xs. waits_for (scroll_step p.page xs)) asked ∙ ap (λ c. waits_for (scroll_step c q.asked)) page
  waits_alike (asks.Query ask) corpus later p q now page asked came turns = work_never _ _ ∙ sym (work_never _ _)
  waits_alike (asks.Fetch ask) corpus later p q now page asked came turns = work_never _ _ ∙ sym (work_never _ _)
  waits_alike (asks.Slice s) corpus later p q now page asked came turns = λ i. waits_for (slice_step t s.reindex s.slice cluster.shards (asked i) (came i) now)
  waits_alike (asks.Reindex ask) corpus later p q now page asked came turns = λ i. waits_for (reindex_step t ask cluster.shards (asked i) (came i) now)
  waits_alike (asks.Bulk ask) corpus later p q now page asked came turns = λ i. waits_for (bulk_step ask cluster.shards (asked i))
  waits_alike (asks.BulkShard ask) corpus later p q now page asked came turns = work_never _ _ ∙ sym (work_never _ _)
