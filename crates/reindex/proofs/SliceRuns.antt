-- The state of a slice is tied to its asks, and so it follows the kind of its task.
use Rattle.std.proofs.Common.{◌≡◌, ℕ, zero, suc, ◌+◌, ◌-◌, ◌%◌, ◌^◌, ◌<◌, ◌≤◌, Bool, true, false, not, List, [], ◌∷◌, ◌++◌, length, map, take, get_or, Option, Some, None, refl, sym, ap, subst, ◌∙◌, arith, cond}
use Rattle.std.specs.Prelude.{is_some, ◌==◌, ◌&&◌, nat_lt, nat_le, slice_set, option_and_then, if◌then◌else◌}
use Rattle.std.specs.List.{sum_by, count_by}
use Rattle.std.specs.Option.{option_map_or}
use Rattle.std.proofs.lemmas.Bool.{and_parts, and_from, ltb-true, eqb-true, eqb-false, eq-eqb, ne_eqb}
use Rattle.std.proofs.lemmas.List.{length_push, map-append, get_or_push, get_or_append_left}
use Rattle.throttle.specs.Waits.{per_second, wait_at, wait_of}
use Rattle.task_ids.specs.declared.doc.Doc.{Doc}
use Rattle.task_ids.specs.declared.task_id.TaskId.{TaskId}
use Rattle.task_events.specs.declared.request.ReindexAsk.{ReindexAsk}
use Rattle.task_events.specs.declared.request.Request.{Request}
use Rattle.task_events.specs.declared.request.Request.TheVariants as asks
use Rattle.task_events.specs.declared.reply.Reply.{Reply}
use Rattle.task_events.specs.declared.reply.Reply.TheVariants.{Search, Top, Hits, AllFailed, Wrote, Cancelled, Rejected}
use Rattle.task_events.specs.declared.step.Asked.{Asked}
use Rattle.task_events.specs.declared.step.Do.{Do}
use Rattle.task_events.specs.declared.step.Do.TheVariants.{AskNext, Wait, Finish}
use Rattle.task_events.specs.declared.reply.Counts.{Counts}
use Rattle.task_events.specs.Counting.{answers_in, carried, failures_of, is_batch, written_in}
use Rattle.task_events.specs.Kinds.{can_have}
use Rattle.task_events.specs.Searches.{are_answered}
use Rattle.task_events.specs.SliceTask.{first_page, later_page, docs_on, context_in, total_in, answer_at, is_clean, slice_counts, most_asks, after_page, page_from, due_after, after_bulk, slice_step}
use Rattle.task_events.specs.Steps.{with_answer}
use Rattle.reindex.specs.declared.phase.Phase.{Phase}
use Rattle.reindex.specs.declared.phase.Phase.TheVariants.{First, Reads, Holds, Writes, Rests, Over}
use Rattle.reindex.specs.Answers.{writer_can_have}
use Rattle.reindex.specs.OpenAsks.{AreNumbered}
use Rattle.reindex.specs.Slices.{Slicing, IsNewSlice, is_open, next_in, slice_next, may_ask_in, slice_may_ask, phase_with, slice_with_ask, page_asked, takes_in, slice_takes, phase_after, context_after, counts_after, slice_with_answer}
use Rattle.reindex.specs.SliceRuns.{newest, newest_answer, is_for_page, AwaitsPage, HasPage, AwaitsBulk, HasEnded, IsPhaseAt, IsSliceAt}
use Rattle.reindex.proofs.AskLists.{some_ends, newest_is, newest_answer_is, answer_before, earlier_is, set_last, answered_more, answers_more, sum_more, first_context_open, newest_number, before_unchanged, renumbered}
use Rattle.reindex.proofs.FedSums.{row, asked_answers, asked_numbered}
pub use Rattle.reindex.proofs.SliceFed.{slice_low}

most_is : most_asks ≡ 2000000
unfolding most_asks
most_is = refl

-- ---- at first

pub slice_first : {t : TaskId} {ask : ReindexAsk} {slice shards : ℕ} {s : Slicing} → IsNewSlice t ask slice shards s → IsSliceAt t ask slice shards [] [] s
slice_first {ask = ask} {s = s} new = record {
  task_is = new.task_is;
  shards_are = new.shards_are;
  first_is = new.first_is;
  dest_is = new.dest_is;
  slices_are = new.slices_are;
  rate_is = new.rate_is;
  numbered = refl;
  few = omega (arith, most_is);
  moments = refl;
  earlier = refl;
  made_is = new.made_is;
  context_is = new.context_is;
  counts_are = new.counts_are;
  phase_is = let at : IsPhaseAt ask [] [] First = refl in subst (λ (phase : Phase). IsPhaseAt ask [] [] phase) (sym new.phase_is) at;
}

-- ---- what it does next

-- what the kind does, by whether nothing was asked for yet, whether the newest ask was for a page, and the answer to it
abbrev step_by : ReindexAsk → Request → (goes_on end : Do) → (none for_page : Bool) → Option Reply → Do
step_by ask first goes_on end none for_page answer = if none then AskNext first else if for_page then after_page ask end answer else after_bulk goes_on end answer

abbrev goes_on_by : TaskId → ReindexAsk → List Asked → List ℕ → ℕ → Do
goes_on_by t ask asked came now =
    if nat_lt (length asked) most_asks then page_from t (option_and_then context_in (answer_at asked 0)) (due_after ask asked came (newest asked)) now else Wait None

kind_steps : (t : TaskId) (ask : ReindexAsk) (slice shards : ℕ) (asked : List Asked) (came : List ℕ) (now : ℕ) (none for_page : Bool) (answer : Option Reply)
    → (length asked == 0) ≡ none → is_for_page asked ≡ for_page → newest_answer asked ≡ answer
    → slice_step t ask slice shards asked came now ≡ step_by ask (first_page t ask slice shards) (goes_on_by t ask asked came now) (Finish (Wrote (slice_counts asked))) none for_page answer
kind_steps t ask slice shards asked came now none for_page answer p q r =
    λ i. step_by ask (first_page t ask slice shards) (goes_on_by t ask asked came now) (Finish (Wrote (slice_counts asked))) (p i) (q i) (r i)

some_asked : (n : ℕ) → 1 ≤ n → (n == 0) ≡ false
some_asked n some = ne_eqb n 0 (λ none. omega arith)

-- an odd number is not 0
for_page_some : (n : ℕ) → (n % 2 == 1) ≡ true → 1 ≤ n
for_page_some zero odd = absurd cc
for_page_some (suc n) odd = omega arith

module _ {t : TaskId} {ask : ReindexAsk} {slice shards : ℕ} {asked : List Asked} {came : List ℕ} {s : Slicing} (h : IsSliceAt t ask slice shards asked came s) where
  goes_on_same : (now until : ℕ) → until ≡ due_after ask asked came (newest asked) → goes_on_by t ask asked came now ≡ (if nat_lt s.made 2000000 then page_from s.task s.context until now else Wait None)
  goes_on_same now until is =
      λ i. if nat_lt (sym h.made_is i) (most_is i) then page_from (sym h.task_is i) (sym h.context_is i) (sym is i) now else Wait None

  follows_in : (now : ℕ) (phase : Phase) → IsPhaseAt ask asked came phase → slice_step t ask slice shards asked came now ≡ next_in s now phase
  follows_in now First none =
      let empty : (length asked == 0) ≡ true = ap (λ xs. length xs == 0) none in
      kind_steps t ask slice shards asked came now true (is_for_page asked) (newest_answer asked) empty refl refl ∙ ap AskNext (sym h.first_is)
  follows_in now (Reads open_ask) at = kind_steps t ask slice shards asked came now false true None (some_asked _ (for_page_some _ at.for_page)) at.for_page at.open_yet
  follows_in now (Holds docs moment) at =
      kind_steps t ask slice shards asked came now false true (Some at.page) (some_asked _ (for_page_some _ at.for_page)) at.for_page at.answered
      ∙ rw at.batch (λ i. AskNext (asks.Bulk (record { dest = sym h.dest_is i; docs = sym at.docs_are i })))
  follows_in now (Writes open_ask docs moment) at = kind_steps t ask slice shards asked came now false false None (some_asked _ (omega (arith, at.some))) at.for_bulk at.open_yet
  follows_in now (Rests until) at =
      kind_steps t ask slice shards asked came now false false (Some at.bulk) (some_asked _ (omega (arith, at.some))) at.for_bulk at.answered
      ∙ rw at.clean (goes_on_same now until at.until_is)
  follows_in now Over at = ended (is_for_page asked) refl
    where
      ended : (for_page : Bool) → is_for_page asked ≡ for_page → slice_step t ask slice shards asked came now ≡ Finish (Wrote s.counts)
      ended true is =
          let stops : is_batch at.last ≡ false = ap (λ b. if b then is_batch at.last else is_clean at.last) (sym is) ∙ at.ended in
          kind_steps t ask slice shards asked came now false true (Some at.last) (some_asked _ at.some) is at.answered ∙ rw stops (ap (λ counts. Finish (Wrote counts)) (sym h.counts_are))
      ended false is =
          let stops : is_clean at.last ≡ false = ap (λ b. if b then is_batch at.last else is_clean at.last) (sym is) ∙ at.ended in
          kind_steps t ask slice shards asked came now false false (Some at.last) (some_asked _ at.some) is at.answered ∙ rw stops (ap (λ counts. Finish (Wrote counts)) (sym h.counts_are))

-- it does what its kind says
pub slice_follows : {t : TaskId} {ask : ReindexAsk} {slice shards : ℕ} {asked : List Asked} {came : List ℕ} {s : Slicing} → IsSliceAt t ask slice shards asked came s → (now : ℕ)
    → slice_step t ask slice shards asked came now ≡ slice_next s now
slice_follows {s = s} h now = follows_in h now s.phase h.phase_is

-- ---- whether all are answered

-- all asks are answered exactly where the newest is
settled_by : (asked : List Asked) → 1 ≤ length asked → are_answered (take (newest asked) asked) ≡ true → are_answered asked ≡ is_some (newest_answer asked)
settled_by asked some earlier =
    let e = some_ends asked some in
    let back : are_answered (take (newest (e.before ++ e.last ∷ [])) (e.before ++ e.last ∷ [])) ≡ true = subst (λ (xs : List Asked). are_answered (take (newest xs) xs) ≡ true) e.is earlier in
    let before : are_answered e.before ≡ true = ap are_answered (sym (earlier_is e.before e.last)) ∙ back in
    ap are_answered e.is ∙ answered_more e.before e.last ∙ ap (λ b. b && (is_some e.last.answer && true)) before ∙ and_true (is_some e.last.answer)
    ∙ ap (λ (o : Option Reply). is_some o) (sym (newest_answer_is e.before e.last) ∙ ap newest_answer (sym e.is))
  where
    and_true : (b : Bool) → (true && (b && true)) ≡ b
    and_true true = refl
    and_true false = refl

settled_in : (ask : ReindexAsk) (asked : List Asked) (came : List ℕ) (phase : Phase) → are_answered (take (newest asked) asked) ≡ true → IsPhaseAt ask asked came phase → are_answered asked ≡ not (is_open phase)
settled_in ask asked came First earlier none = ap are_answered none
settled_in ask asked came (Reads open_ask) earlier at = settled_by asked (for_page_some _ at.for_page) earlier ∙ ap (λ (o : Option Reply). is_some o) at.open_yet
settled_in ask asked came (Holds docs moment) earlier at = settled_by asked (for_page_some _ at.for_page) earlier ∙ ap (λ (o : Option Reply). is_some o) at.answered
settled_in ask asked came (Writes open_ask docs moment) earlier at = settled_by asked (omega (arith, at.some)) earlier ∙ ap (λ (o : Option Reply). is_some o) at.open_yet
settled_in ask asked came (Rests until) earlier at = settled_by asked (omega (arith, at.some)) earlier ∙ ap (λ (o : Option Reply). is_some o) at.answered
settled_in ask asked came Over earlier at = settled_by asked at.some earlier ∙ ap (λ (o : Option Reply). is_some o) at.answered

-- all asks are answered where it waits for none
pub slice_settled : {t : TaskId} {ask : ReindexAsk} {slice shards : ℕ} {asked : List Asked} {came : List ℕ} {s : Slicing} → IsSliceAt t ask slice shards asked came s → are_answered asked ≡ not (is_open s.phase)
slice_settled {ask = ask} {asked = asked} {came = came} {s = s} h = settled_in ask asked came s.phase h.earlier h.phase_is

pub slice_counted : {t : TaskId} {ask : ReindexAsk} {slice shards : ℕ} {asked : List Asked} {came : List ℕ} {s : Slicing} → IsSliceAt t ask slice shards asked came s → slice_counts asked ≡ s.counts
slice_counted h = sym h.counts_are

-- ---- one ask more

-- what it asks for from a moment on, where it does: a later page of its context, while asks are left
pub record AsksLater (s : Slicing) (request : Request) : Type 0 where
  pub left : nat_lt s.made 2000000 ≡ true
  pub context : TaskId
  pub context_is : s.context ≡ Some context
  pub request_is : request ≡ later_page s.task context

later_due : (t : TaskId) (context : TaskId) (until now : ℕ) (request : Request) (due : Bool) → (if due then AskNext (later_page t context) else Wait (Some until)) ≡ AskNext request → request ≡ later_page t context
later_due t context until now request true e = cc
later_due t context until now request false e = absurd cc

asks_later : (s : Slicing) (until now : ℕ) (request : Request) (left : Bool) (context : Option TaskId) → nat_lt s.made 2000000 ≡ left → s.context ≡ context
    → (if left then page_from s.task context until now else Wait None) ≡ AskNext request → AsksLater s request
asks_later s until now request true None left is e = absurd cc
asks_later s until now request true (Some context) left is e = record { left = left; context = context; context_is = is; request_is = later_due s.task context until now request (nat_le until now) e }
asks_later s until now request false context left is e = absurd cc

may_ask_by : (s : Slicing) (request : Request) (now : ℕ) (phase : Phase) → next_in s now phase ≡ AskNext request → may_ask_in s.made phase ≡ true
may_ask_by s request now First e = refl
may_ask_by s request now (Holds docs came) e = refl
may_ask_by s request now (Rests until) e = (asks_later s until now request (nat_lt s.made 2000000) s.context refl refl e).left
may_ask_by s request now (Reads open_ask) e = absurd cc
may_ask_by s request now (Writes open_ask docs came) e = absurd cc
may_ask_by s request now Over e = absurd cc

pub slice_may_ask_when : (s : Slicing) (request : Request) (now : ℕ) → slice_next s now ≡ AskNext request → slice_may_ask s ≡ true
slice_may_ask_when s request now e = may_ask_by s request now s.phase e

-- a bulk can have the same replies, whichever its documents are
bulk_replies : (shards : ℕ) (bulk : _) (reply : Reply) → can_have shards (asks.Bulk bulk) reply ≡ writer_can_have (2 ^ 22) reply
bulk_replies shards bulk (Search page) = refl
bulk_replies shards bulk (Top top) = refl
bulk_replies shards bulk (Hits hits) = refl
bulk_replies shards bulk (AllFailed failed) = refl
bulk_replies shards bulk (Wrote counts) = refl
bulk_replies shards bulk (Cancelled task cancel counts) = refl
bulk_replies shards bulk (Rejected node) = refl

odd_more : (n : ℕ) → (n % 2 == 1) ≡ true → ((n + 1) % 2 == 1) ≡ false
odd_more n odd = let is : n % 2 ≡ 1 = eqb-true _ _ odd in ne_eqb _ _ (λ same. omega arith)

even_more : (n : ℕ) → (n % 2 == 1) ≡ false → ((n + 1) % 2 == 1) ≡ true
even_more n even = let is : n % 2 ≡ 1 → ⊥ = eqb-false _ _ even in eq-eqb _ _ (omega arith)

-- a page more
page_more : (asked : List Asked) → is_for_page asked ≡ false → AwaitsPage (asked ++ row (length asked + 1) None ∷ []) (length asked + 1)
page_more asked even =
    let long : length (asked ++ row (length asked + 1) None ∷ []) ≡ length asked + 1 = length_push asked (row (length asked + 1) None) in
    record {
      ask_is = sym long;
      for_page = ap (λ n. n % 2 == 1) long ∙ even_more (length asked) even;
      open_yet = newest_answer_is asked (row (length asked + 1) None);
    }

-- a bulk more
bulk_more : (asked : List Asked) (came : List ℕ) (docs : List Doc) (moment : ℕ) → length came ≡ length asked → HasPage asked came docs moment
    → AwaitsBulk (asked ++ row (length asked + 1) None ∷ []) (came ++ 0 ∷ []) (length asked + 1) (length docs) moment
bulk_more asked came docs moment long at =
    let a : Asked = row (length asked + 1) None in
    let longer : length (asked ++ a ∷ []) ≡ length asked + 1 = length_push asked a in
    let some : 1 ≤ length asked = for_page_some (length asked) at.for_page in
    let page_place : newest (asked ++ a ∷ []) - 1 ≡ newest asked = omega (arith, newest_is asked a) in
    let page_there : answer_at (asked ++ a ∷ []) (newest (asked ++ a ∷ []) - 1) ≡ Some at.page =
    ap (answer_at (asked ++ a ∷ [])) page_place ∙ answer_before asked (a ∷ []) (newest asked) (omega arith) ∙ at.answered in
    record {
      ask_is = sym longer;
      for_bulk = ap (λ n. n % 2 == 1) longer ∙ odd_more (length asked) at.for_page;
      some = omega arith;
      open_yet = newest_answer_is asked a;
      docs_are = ap length at.docs_are ∙ sym (ap (λ o. option_map_or (λ (reply : Reply). length (docs_on reply)) o 0) page_there);
      moment_is = at.moment_is ∙ sym (get_or_append_left came (0 ∷ []) 0 (newest asked) (omega arith)) ∙ ap (λ n. get_or (came ++ 0 ∷ []) n 0) (sym page_place);
    }

-- the counts of these answers, with this total
abbrev counts_said : ℕ → List Reply → Counts
counts_said total answers = record (written_in answers) { total = total; batches = count_by is_batch answers }

abbrev first_total : List Asked → ℕ
first_total asked = option_map_or total_in (answer_at asked 0) 0

counts_open : (k : ℕ) (asked : List Asked) → slice_counts (asked ++ row k None ∷ []) ≡ slice_counts asked
counts_open k asked = let total = same_total asked in λ i. counts_said (total i) (asked_answers k asked i)
  where
    same_total : (xs : List Asked) → first_total (xs ++ row k None ∷ []) ≡ first_total xs
    same_total [] = refl
    same_total (x ∷ xs) = refl

asked_phase : (ask : ReindexAsk) (asked : List Asked) (came : List ℕ) (made : ℕ) (phase : Phase) → length came ≡ length asked → may_ask_in made phase ≡ true
    → IsPhaseAt ask asked came phase → IsPhaseAt ask (asked ++ row (length asked + 1) None ∷ []) (came ++ 0 ∷ []) (phase_with phase (length asked + 1))
asked_phase ask asked came made First long may none = page_more asked (ap is_for_page none)
asked_phase ask asked came made (Rests until) long may at = page_more asked at.for_bulk
asked_phase ask asked came made (Holds docs moment) long may at = bulk_more asked came docs moment long at
asked_phase ask asked came made (Reads open_ask) long may at = absurd cc
asked_phase ask asked came made (Writes open_ask docs moment) long may at = absurd cc
asked_phase ask asked came made Over long may at = absurd cc

asked_few : (ask : ReindexAsk) (asked : List Asked) (came : List ℕ) (made : ℕ) (phase : Phase) → made ≡ length asked → length asked ≤ most_asks → may_ask_in made phase ≡ true
    → IsPhaseAt ask asked came phase → length asked + 1 ≤ most_asks
asked_few ask asked came made First same few may none = let empty : length asked ≡ 0 = ap length none in omega (arith, most_is)
asked_few ask asked came made (Rests until) same few may at = let left : made < 2000000 = ltb-true _ _ may in omega (arith, most_is)
asked_few ask asked came made (Holds docs moment) same few may at = let odd : length asked % 2 ≡ 1 = eqb-true _ _ at.for_page in omega (arith, most_is)
asked_few ask asked came made (Reads open_ask) same few may at = absurd cc
asked_few ask asked came made (Writes open_ask docs moment) same few may at = absurd cc
asked_few ask asked came made Over same few may at = absurd cc

none_open : (made : ℕ) (phase : Phase) → may_ask_in made phase ≡ true → not (is_open phase) ≡ true
none_open made First may = refl
none_open made (Rests until) may = refl
none_open made (Holds docs moment) may = refl
none_open made (Reads open_ask) may = absurd cc
none_open made (Writes open_ask docs moment) may = absurd cc
none_open made Over may = absurd cc

-- with one ask more, where it may ask
pub slice_one_more : {t : TaskId} {ask : ReindexAsk} {slice shards : ℕ} {asked : List Asked} {came : List ℕ} {s : Slicing} → IsSliceAt t ask slice shards asked came s → slice_may_ask s ≡ true
    → IsSliceAt t ask slice shards (asked ++ record { ask = length asked + 1; answer = None } ∷ []) (came ++ 0 ∷ []) (slice_with_ask s (length asked + 1))
slice_one_more {ask = ask} {asked = asked} {came = came} {s = s} h may =
    let a : Asked = row (length asked + 1) None in
    record {
      task_is = h.task_is;
      shards_are = h.shards_are;
      first_is = h.first_is;
      dest_is = h.dest_is;
      slices_are = h.slices_are;
      rate_is = h.rate_is;
      numbered = asked_numbered asked h.numbered;
      few = let fits = asked_few ask asked came s.made s.phase h.made_is h.few may h.phase_is in omega (arith, length_push asked a);
      moments = let long = h.moments in omega (arith, length_push asked a, length_push came 0);
      earlier = ap are_answered (earlier_is asked a) ∙ slice_settled h ∙ none_open s.made s.phase may;
      made_is = let made = h.made_is in omega (arith, length_push asked a);
      context_is = h.context_is ∙ sym (first_context_open (length asked + 1) asked);
      counts_are = h.counts_are ∙ sym (counts_open (length asked + 1) asked);
      phase_is = asked_phase ask asked came s.made s.phase h.moments may h.phase_is;
    }

-- with the ask of what comes next
pub slice_asked : {t : TaskId} {ask : ReindexAsk} {slice shards : ℕ} {asked : List Asked} {came : List ℕ} {s : Slicing} → IsSliceAt t ask slice shards asked came s → (request : Request) (now : ℕ)
    → slice_next s now ≡ AskNext request
    → IsSliceAt t ask slice shards (asked ++ record { ask = length asked + 1; answer = None } ∷ []) (came ++ 0 ∷ []) (slice_with_ask s (length asked + 1))
slice_asked {s = s} h request now e = slice_one_more h (slice_may_ask_when s request now e)

same_request : {request other : Request} → AskNext request ≡ AskNext other → request ≡ other
same_request e = cc

may_take_in : (s : Slicing) (ask : ReindexAsk) (asked : List Asked) (came : List ℕ) (shards n : ℕ) (request : Request) (now : ℕ) (reply : Reply) (phase : Phase) → s.shards ≡ shards
    → s.context ≡ option_and_then context_in (answer_at asked 0) → IsPhaseAt ask asked came phase → next_in s now phase ≡ AskNext request → can_have shards request reply ≡ true
    → takes_in (record s { phase = phase_with phase n; made = s.made + 1 }) n reply (phase_with phase n) ≡ true
may_take_in s ask asked came shards n request now reply First shards_are context_is none e can =
    let after : Slicing = record s { phase = Reads n; made = s.made + 1 } in
    let context : s.context ≡ None = context_is ∙ ap (λ xs. option_and_then context_in (answer_at xs 0)) none in
    let page : page_asked after s.context ≡ request = ap (page_asked after) context ∙ same_request e in
    and_from _ _ (eq-eqb n n refl) ((λ i. can_have (shards_are i) (page i) reply) ∙ can)
may_take_in s ask asked came shards n request now reply (Rests until) shards_are context_is at e can =
    let after : Slicing = record s { phase = Reads n; made = s.made + 1 } in
    let later = asks_later s until now request (nat_lt s.made 2000000) s.context refl refl e in
    let page : page_asked after s.context ≡ request = ap (page_asked after) later.context_is ∙ sym later.request_is in
    and_from _ _ (eq-eqb n n refl) ((λ i. can_have (shards_are i) (page i) reply) ∙ can)
may_take_in s ask asked came shards n request now reply (Holds docs moment) shards_are context_is at e can =
    and_from _ _ (eq-eqb n n refl) (sym (bulk_replies shards (record { dest = s.dest; docs = docs }) reply) ∙ ap (λ r. can_have shards r reply) (same_request e) ∙ can)
may_take_in s ask asked came shards n request now reply (Reads open_ask) shards_are context_is at e can = absurd cc
may_take_in s ask asked came shards n request now reply (Writes open_ask docs moment) shards_are context_is at e can = absurd cc
may_take_in s ask asked came shards n request now reply Over shards_are context_is at e can = absurd cc

-- it takes each reply that what it asks for can have
pub slice_may_take : {t : TaskId} {ask : ReindexAsk} {slice shards : ℕ} {asked : List Asked} {came : List ℕ} {s : Slicing} → IsSliceAt t ask slice shards asked came s → (request : Request) (now : ℕ)
    → slice_next s now ≡ AskNext request → (reply : Reply) → can_have shards request reply ≡ true → slice_takes (slice_with_ask s (length asked + 1)) (length asked + 1) reply ≡ true
slice_may_take {ask = ask} {shards = shards} {asked = asked} {came = came} {s = s} h request now e reply can =
    may_take_in s ask asked came shards (length asked + 1) request now reply s.phase h.shards_are h.context_is h.phase_is e can

-- ---- one answer more

counts_fed : (before : List Asked) (k made : ℕ) (reply : Reply) → made ≡ length before + 1 → counts_after made (slice_counts before) reply ≡ slice_counts (before ++ row k (Some reply) ∷ [])
counts_fed before k made reply is =
    λ i. record {
      total = total_fed before is i;
      created = sum_fed (λ (r : Reply). (carried r).created) i;
      updated = sum_fed (λ (r : Reply). (carried r).updated) i;
      batches = sum_fed (λ (r : Reply). cond (is_batch r) 1 0) i;
      failures = sum_fed failures_of i;
    }
  where
    sum_fed : (f : Reply → ℕ) → sum_by f (answers_in before) + f reply ≡ sum_by f (answers_in (before ++ row k (Some reply) ∷ []))
    sum_fed f = sym (ap (sum_by f) (answers_more k reply before) ∙ sum_more f (answers_in before) reply)

    total_fed : (xs : List Asked) → made ≡ length xs + 1 → (if made == 1 then total_in reply else first_total xs) ≡ first_total (xs ++ row k (Some reply) ∷ [])
    total_fed [] one = let first : (made == 1) ≡ true = eq-eqb made 1 one in rw first refl
    total_fed (x ∷ xs) more = let later : (made == 1) ≡ false = ne_eqb made 1 (λ same. omega arith) in rw later refl

context_fed : (before : List Asked) (k made : ℕ) (context : Option TaskId) (reply : Reply) → made ≡ length before + 1 → context ≡ option_and_then context_in (answer_at (before ++ row k None ∷ []) 0)
    → context_after made context reply ≡ option_and_then context_in (answer_at (before ++ row k (Some reply) ∷ []) 0)
context_fed [] k made context reply one is = let first : (made == 1) ≡ true = eq-eqb made 1 one in rw first refl
context_fed (x ∷ xs) k made context reply more is = let later : (made == 1) ≡ false = ne_eqb made 1 (λ same. omega arith) in rw later is

-- the moment of the newest answer, and that before it
moment_last : (before : List Asked) (a : Asked) (earlier : List ℕ) (now : ℕ) → length earlier ≡ length before → get_or (earlier ++ now ∷ []) (newest (before ++ a ∷ [])) 0 ≡ now
moment_last before a earlier now long = ap (λ n. get_or (earlier ++ now ∷ []) n 0) (newest_is before a) ∙ get_or_push earlier now 0 (length before) long

moment_before : (before : List Asked) (a : Asked) (earlier : List ℕ) (now : ℕ) → length earlier ≡ length before → 1 ≤ length before
    → get_or (earlier ++ now ∷ []) (newest (before ++ a ∷ []) - 1) 0 ≡ get_or earlier (length before - 1) 0
moment_before before a earlier now long some = ap (λ n. get_or (earlier ++ now ∷ []) (n - 1) 0) (newest_is before a) ∙ get_or_append_left earlier (now ∷ []) 0 (length before - 1) (omega arith)

page_before : (before : List Asked) (a : Asked) → 1 ≤ length before → answer_at (before ++ a ∷ []) (newest (before ++ a ∷ []) - 1) ≡ answer_at before (length before - 1)
page_before before a some = ap (λ n. answer_at (before ++ a ∷ []) (n - 1)) (newest_is before a) ∙ answer_before before (a ∷ []) (length before - 1) (omega arith)

same_turn : (before : List Asked) (a b : Asked) → is_for_page (before ++ a ∷ []) ≡ is_for_page (before ++ b ∷ [])
same_turn before a b = ap (λ n. n % 2 == 1) (length_push before a ∙ sym (length_push before b))

-- its newest ask is answered now, and it ends
ended_by : (before : List Asked) (k : ℕ) (reply : Reply) (for_page : Bool) → is_for_page (before ++ row k (Some reply) ∷ []) ≡ for_page → (if for_page then is_batch reply else is_clean reply) ≡ false
    → HasEnded (before ++ row k (Some reply) ∷ [])
ended_by before k reply for_page is stops = record {
  some = omega (arith, length_push before (row k (Some reply)));
  last = reply;
  answered = newest_answer_is before (row k (Some reply));
  ended = ap (λ b. if b then is_batch reply else is_clean reply) is ∙ stops;
}

after_read : (ask : ReindexAsk) (before : List Asked) (earlier : List ℕ) (k open_ask : ℕ) (reply : Reply) (now : ℕ) → length earlier ≡ length before → AwaitsPage (before ++ row k None ∷ []) open_ask
    → (batch : Bool) → is_batch reply ≡ batch → IsPhaseAt ask (before ++ row k (Some reply) ∷ []) (earlier ++ now ∷ []) (if batch then Holds (docs_on reply) now else Over)
after_read ask before earlier k open_ask reply now long at true batch = record {
  for_page = same_turn before (row k (Some reply)) (row k None) ∙ at.for_page;
  page = reply;
  answered = newest_answer_is before (row k (Some reply));
  batch = batch;
  docs_are = refl;
  moment_is = sym (moment_last before (row k (Some reply)) earlier now long);
}
after_read ask before earlier k open_ask reply now long at false batch = ended_by before k reply true (same_turn before (row k (Some reply)) (row k None) ∙ at.for_page) batch

-- the due moment
due_is : (ask : ReindexAsk) (before : List Asked) (earlier : List ℕ) (k docs moment was : ℕ) (s : Slicing) (reply : Reply) (now open_ask : ℕ) → s.slices ≡ ask.slices → per_second s.rate ≡ ask.rate
    → length earlier ≡ length before → AwaitsBulk (before ++ row k None ∷ []) (earlier ++ was ∷ []) open_ask docs moment
    → now + wait_of docs s.slices s.rate (now - moment) ≡ due_after ask (before ++ row k (Some reply) ∷ []) (earlier ++ now ∷ []) (newest (before ++ row k (Some reply) ∷ []))
due_is ask before earlier k docs moment was s reply now open_ask slices_are rate_is long at =
    let a : Asked = row k (Some reply) in
    let some : 1 ≤ length before = let two = at.some in omega (arith, length_push before (row k None)) in
    let answered : now ≡ get_or (earlier ++ now ∷ []) (newest (before ++ a ∷ [])) 0 = sym (moment_last before a earlier now long) in
    let came : moment ≡ get_or (earlier ++ now ∷ []) (newest (before ++ a ∷ []) - 1) 0 = at.moment_is ∙ moment_before before (row k None) earlier was long some ∙ sym (moment_before before a earlier now long some) in
    let page : answer_at (before ++ row k None ∷ []) (newest (before ++ row k None ∷ []) - 1) ≡ answer_at (before ++ a ∷ []) (newest (before ++ a ∷ []) - 1) =
    page_before before (row k None) some ∙ sym (page_before before a some) in
    let batch : docs ≡ option_map_or (λ (r : Reply). length (docs_on r)) (answer_at (before ++ a ∷ []) (newest (before ++ a ∷ []) - 1)) 0 =
    at.docs_are ∙ ap (λ o. option_map_or (λ (r : Reply). length (docs_on r)) o 0) page in
    λ i. answered i + wait_at (rate_is i) (batch i) (slices_are i) (answered i - came i)

after_write : (ask : ReindexAsk) (before : List Asked) (earlier : List ℕ) (k docs moment was : ℕ) (s : Slicing) (reply : Reply) (now open_ask : ℕ) → s.slices ≡ ask.slices → per_second s.rate ≡ ask.rate
    → length earlier ≡ length before → AwaitsBulk (before ++ row k None ∷ []) (earlier ++ was ∷ []) open_ask docs moment → (clean : Bool) → is_clean reply ≡ clean
    → IsPhaseAt ask (before ++ row k (Some reply) ∷ []) (earlier ++ now ∷ []) (if clean then Rests (now + wait_of docs s.slices s.rate (now - moment)) else Over)
after_write ask before earlier k docs moment was s reply now open_ask slices_are rate_is long at true clean = record {
  for_bulk = same_turn before (row k (Some reply)) (row k None) ∙ at.for_bulk;
  some = let two = at.some in omega (arith, length_push before (row k None), length_push before (row k (Some reply)));
  bulk = reply;
  answered = newest_answer_is before (row k (Some reply));
  clean = clean;
  until_is = due_is ask before earlier k docs moment was s reply now open_ask slices_are rate_is long at;
}
after_write ask before earlier k docs moment was s reply now open_ask slices_are rate_is long at false clean = ended_by before k reply false (same_turn before (row k (Some reply)) (row k None) ∙ at.for_bulk) clean

fed_phase : (s : Slicing) (ask : ReindexAsk) (before : List Asked) (earlier : List ℕ) (k was : ℕ) (reply : Reply) (now : ℕ) (phase : Phase) → s.slices ≡ ask.slices → per_second s.rate ≡ ask.rate
    → length earlier ≡ length before → IsPhaseAt ask (before ++ row k None ∷ []) (earlier ++ was ∷ []) phase → takes_in s k reply phase ≡ true
    → IsPhaseAt ask (before ++ row k (Some reply) ∷ []) (earlier ++ now ∷ []) (phase_after s.slices s.rate phase reply now)
fed_phase s ask before earlier k was reply now (Reads open_ask) slices_are rate_is long at takes = after_read ask before earlier k open_ask reply now long at (is_batch reply) refl
fed_phase s ask before earlier k was reply now (Writes open_ask docs moment) slices_are rate_is long at takes = after_write ask before earlier k docs moment was s reply now open_ask slices_are rate_is long at (is_clean reply) refl
fed_phase s ask before earlier k was reply now First slices_are rate_is long at takes = absurd cc
fed_phase s ask before earlier k was reply now (Holds docs moment) slices_are rate_is long at takes = absurd cc
fed_phase s ask before earlier k was reply now (Rests until) slices_are rate_is long at takes = absurd cc
fed_phase s ask before earlier k was reply now Over slices_are rate_is long at takes = absurd cc

-- the answer to the newest ask
fed_newest : {t : TaskId} {ask : ReindexAsk} {slice shards : ℕ} {s : Slicing} (before : List Asked) (earlier : List ℕ) (k was : ℕ) (reply : Reply) (now : ℕ)
    → IsSliceAt t ask slice shards (before ++ row k None ∷ []) (earlier ++ was ∷ []) s → length earlier ≡ length before → slice_takes s k reply ≡ true
    → IsSliceAt t ask slice shards (before ++ row k (Some reply) ∷ []) (earlier ++ now ∷ []) (slice_with_answer s k reply now)
fed_newest {ask = ask} {s = s} before earlier k was reply now h long takes =
    let a : Asked = row k (Some reply) in
    let made : s.made ≡ length before + 1 = h.made_is ∙ length_push before (row k None) in
    let same : length (before ++ row k None ∷ []) ≡ length (before ++ a ∷ []) = length_push before (row k None) ∙ sym (length_push before a) in
    record {
      task_is = h.task_is;
      shards_are = h.shards_are;
      first_is = h.first_is;
      dest_is = h.dest_is;
      slices_are = h.slices_are;
      rate_is = h.rate_is;
      numbered = renumbered before k None (Some reply) h.numbered;
      few = let few = h.few in omega (arith, same);
      moments = omega (arith, length_push earlier now, length_push before a);
      earlier = ap are_answered (earlier_is before a) ∙ sym (ap are_answered (earlier_is before (row k None))) ∙ h.earlier;
      made_is = h.made_is ∙ same;
      context_is = context_fed before k s.made s.context reply made h.context_is;
      counts_are = ap (λ counts. counts_after s.made counts reply) (h.counts_are ∙ counts_open k before) ∙ counts_fed before k s.made reply made;
      phase_is = fed_phase s ask before earlier k was reply now s.phase h.slices_are h.rate_is long h.phase_is takes;
    }

-- what it takes answers its newest ask
record AnswersNewest (asked : List Asked) (k : ℕ) : Type 0 where
  is_newest : k ≡ length asked
  some : 1 ≤ length asked
  open_yet : newest_answer asked ≡ None

answers_newest : (s : Slicing) (ask : ReindexAsk) (asked : List Asked) (came : List ℕ) (k : ℕ) (reply : Reply) (phase : Phase) → IsPhaseAt ask asked came phase → takes_in s k reply phase ≡ true → AnswersNewest asked k
answers_newest s ask asked came k reply (Reads open_ask) at takes =
    let same : open_ask ≡ k = eqb-true _ _ (and_parts _ _ takes).0 in
    record { is_newest = sym same ∙ at.ask_is; some = for_page_some _ at.for_page; open_yet = at.open_yet }
answers_newest s ask asked came k reply (Writes open_ask docs moment) at takes =
    let same : open_ask ≡ k = eqb-true _ _ (and_parts _ _ takes).0 in
    record { is_newest = sym same ∙ at.ask_is; some = let two = at.some in omega arith; open_yet = at.open_yet }
answers_newest s ask asked came k reply First at takes = absurd cc
answers_newest s ask asked came k reply (Holds docs moment) at takes = absurd cc
answers_newest s ask asked came k reply (Rests until) at takes = absurd cc
answers_newest s ask asked came k reply Over at takes = absurd cc

-- with the answer to an ask at a moment
pub slice_answered : {t : TaskId} {ask : ReindexAsk} {slice shards : ℕ} {asked : List Asked} {came : List ℕ} {s : Slicing} → IsSliceAt t ask slice shards asked came s → (k : ℕ) (reply : Reply) (now : ℕ)
    → slice_takes s k reply ≡ true → IsSliceAt t ask slice shards (map (with_answer k (Some reply)) asked) (slice_set came (k - 1) now) (slice_with_answer s k reply now)
slice_answered {t} {ask} {slice} {shards} {asked} {came} {s} h k reply now takes =
    let newest_one = answers_newest s ask asked came k reply s.phase h.phase_is takes in
    let e = some_ends asked newest_one.some in
    let m = some_ends came (let some = newest_one.some in let long = h.moments in omega arith) in
    let some : length asked ≡ length e.before + 1 = ap length e.is ∙ length_push e.before e.last in
    let k_is : k ≡ length e.before + 1 = newest_one.is_newest ∙ some in
    let number : e.last.ask ≡ k = newest_number e.before e.last (subst AreNumbered e.is h.numbered) ∙ sym k_is in
    let no_answer : e.last.answer ≡ None = sym (newest_answer_is e.before e.last) ∙ ap newest_answer (sym e.is) ∙ newest_one.open_yet in
    let asked_is : asked ≡ e.before ++ row k None ∷ [] = e.is ∙ (λ i. e.before ++ row (number i) (no_answer i) ∷ []) in
    let long : length m.before ≡ length e.before = let moments = h.moments in omega (arith, ap length m.is, length_push m.before m.last) in
    let was : IsSliceAt t ask slice shards (e.before ++ row k None ∷ []) (m.before ++ m.last ∷ []) s =
    subst (λ ms. IsSliceAt t ask slice shards (e.before ++ row k None ∷ []) ms s) m.is (subst (λ xs. IsSliceAt t ask slice shards xs came s) asked_is h) in
    let fed = fed_newest e.before m.before k m.last reply now was long takes in
    let unchanged : map (with_answer k (Some reply)) e.before ≡ e.before = before_unchanged k (Some reply) e.before (row k None) was.numbered k_is in
    let at_newest : with_answer k (Some reply) (row k None) ≡ row k (Some reply) = let itself : (k == k) ≡ true = eq-eqb k k refl in rw itself refl in
    let asked_now : map (with_answer k (Some reply)) asked ≡ e.before ++ row k (Some reply) ∷ [] =
    ap (map (with_answer k (Some reply))) asked_is ∙ map-append (with_answer k (Some reply)) e.before (row k None ∷ []) ∙ (λ i. unchanged i ++ at_newest i ∷ []) in
    let place : k - 1 ≡ length m.before = omega arith in
    let came_now : slice_set came (k - 1) now ≡ m.before ++ now ∷ [] = (λ i. slice_set (m.is i) (place i) now) ∙ set_last m.before m.last now in
    subst (λ xs. IsSliceAt t ask slice shards xs (slice_set came (k - 1) now) (slice_with_answer s k reply now)) (sym asked_now)
    (subst (λ ms. IsSliceAt t ask slice shards (e.before ++ row k (Some reply) ∷ []) ms (slice_with_answer s k reply now)) (sym came_now) fed)
