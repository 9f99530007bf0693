-- The state of a reindex that is cut into slices is tied to its asks, whatever the order of their answers, and so it follows its kind.
use Rattle.std.proofs.Common.{◌≡◌, ℕ, ◌+◌, ◌^◌, ◌<◌, ◌≤◌, Bool, true, false, List, [], ◌∷◌, ◌++◌, length, map, Option, Some, None, refl, sym, ap, ◌∙◌, ⊎_elim, arith}
use Rattle.std.specs.Prelude.{◌==◌, option_map}
use Rattle.std.proofs.lemmas.Bool.{and_parts, and_from, cases_lt, eq-eqb, lt-ltb, ltb-true, or_right}
use Rattle.std.proofs.lemmas.List.{length_push}
use Rattle.task_events.specs.declared.request.ReindexAsk.{ReindexAsk}
use Rattle.task_events.specs.declared.request.Request.{Request}
use Rattle.task_events.specs.declared.request.Request.TheVariants as asks
use Rattle.task_events.specs.declared.request.SliceAsk.{SliceAsk}
use Rattle.task_events.specs.declared.reply.Reply.{Reply}
use Rattle.task_events.specs.declared.reply.Reply.TheVariants.{Search, Top, Hits, AllFailed, Wrote, Cancelled, Rejected}
use Rattle.task_events.specs.declared.step.Asked.{Asked}
use Rattle.task_events.specs.declared.step.Do.TheVariants.{AskNext}
use Rattle.task_events.specs.Counting.{are_below, answers_in, carried, failures_of, sums_of}
use Rattle.task_events.specs.Kinds.{can_have}
use Rattle.task_events.specs.ReindexTask.{cut_step}
use Rattle.task_events.specs.SearchTask.{ask_or_end}
use Rattle.task_events.specs.Searches.{are_answered}
use Rattle.task_events.specs.Slicing.{slice_at}
use Rattle.task_events.specs.Steps.{with_answer}
use Rattle.reindex.specs.Answers.{writer_can_have}
use Rattle.reindex.specs.Bulks.{is_open, without}
use Rattle.reindex.specs.OpenAsks.{open_in, is_settled}
use Rattle.reindex.specs.Roots.{Cutting, IsNewCut, cut_next, cut_may_ask, cut_with_ask, cut_takes, sum_with, cut_with_answer, IsCutAt}
use Rattle.reindex.specs.RootFields.{IsCut}
use Rattle.reindex.proofs.Answers.{below_all}
use Rattle.reindex.proofs.BulkRuns.{open_last}
use Rattle.reindex.proofs.FedSums.{row, fed_sum, fed_open, fed_numbered, fed_length, asked_numbered, asked_open, asked_answers, settled}
use Rattle.reindex.proofs.SliceLemmas.{slice_is, slice_none}

pub cut_first : {ask : ReindexAsk} {c : Cutting} → IsNewCut ask c → IsCutAt ask [] c
cut_first new = record {
  ask_is = new.ask_is;
  numbered = refl;
  few = omega arith;
  made_is = new.made_is;
  open_are = new.open_is;
  counts_are = new.counts_are;
}

-- each number of such a reindex is below 2^56
pub cut_low : {c : Cutting} {capacity : ℕ} → IsCut c capacity → are_below (2 ^ 56) c.counts ≡ true
cut_low {c} h =
    below_all (2 ^ 56) c.counts
    (record {
      total = omega (arith, h.bounded.total);
      created = omega (arith, h.bounded.created);
      updated = omega (arith, h.bounded.updated);
      batches = omega (arith, h.bounded.batches);
      failures = omega (arith, h.bounded.failures);
    })

-- all asks are answered exactly where none is open
pub cut_settled : {ask : ReindexAsk} {asked : List Asked} {c : Cutting} → IsCutAt ask asked c → are_answered asked ≡ is_settled c.open_asks
cut_settled {asked = asked} h = settled asked ∙ ap is_settled (sym h.open_are)

-- it does what its kind says
pub cut_follows : {ask : ReindexAsk} {asked : List Asked} {c : Cutting} → IsCutAt ask asked c → cut_step ask asked ≡ cut_next c
cut_follows h = let open_are = cut_settled h in λ i. ask_or_end (option_map asks.Slice (slice_at (sym h.ask_is i) (sym h.made_is i))) (open_are i) (Wrote (sym h.counts_are i))

pub cut_counted : {ask : ReindexAsk} {asked : List Asked} {c : Cutting} → IsCutAt ask asked c → sums_of (answers_in asked) ≡ c.counts
cut_counted h = sym h.counts_are

-- ---- one ask more

-- the slice for which it asks
record AsksSlice (c : Cutting) (request : Request) : Type 0 where
  left : c.made < c.ask.slices
  slice : SliceAsk
  request_is : request ≡ asks.Slice slice

asks_slice : (c : Cutting) (request : Request) → cut_next c ≡ AskNext request → AsksSlice c request
asks_slice c request e =
    ⊎_elim
    (λ (below : c.made < c.ask.slices).
    let a : SliceAsk = record { reindex = c.ask; slice = c.made; slice_in_range = below } in
    let next : ask_or_end (option_map asks.Slice (Some a)) (is_settled c.open_asks) (Wrote c.counts) ≡ AskNext request = at_slice (sym (slice_is c.ask c.made below)) ∙ e in
    record { left = below; slice = a; request_is = same next })
    (λ (past : c.ask.slices ≤ c.made).
    let next : ask_or_end (option_map asks.Slice None) (is_settled c.open_asks) (Wrote c.counts) ≡ AskNext request = at_slice (sym (slice_none c.ask c.made past)) ∙ e in
    absurd (none (is_settled c.open_asks) next))
    (cases_lt c.made c.ask.slices)
  where
    at_slice : {o p : Option SliceAsk} → o ≡ p → ask_or_end (option_map asks.Slice o) (is_settled c.open_asks) (Wrote c.counts) ≡ ask_or_end (option_map asks.Slice p) (is_settled c.open_asks) (Wrote c.counts)
    at_slice is = λ i. ask_or_end (option_map asks.Slice (is i)) (is_settled c.open_asks) (Wrote c.counts)

    same : {other : Request} → AskNext other ≡ AskNext request → request ≡ other
    same next = cc

    none : (answered : Bool) → ask_or_end None answered (Wrote c.counts) ≡ AskNext request → ⊥
    none true next = cc
    none false next = cc

pub cut_may_ask_when : (c : Cutting) (request : Request) → cut_next c ≡ AskNext request → cut_may_ask c ≡ true
cut_may_ask_when c request e = lt-ltb c.made c.ask.slices (asks_slice c request e).left

-- with one ask more, where it may ask
pub cut_one_more : {ask : ReindexAsk} {asked : List Asked} {c : Cutting} → IsCutAt ask asked c → cut_may_ask c ≡ true
    → IsCutAt ask (asked ++ record { ask = length asked + 1; answer = None } ∷ []) (cut_with_ask c (length asked + 1))
cut_one_more {ask = ask} {asked = asked} {c = c} h may =
    let a : Asked = row (length asked + 1) None in
    let slices : c.ask.slices ≡ ask.slices = ap (λ (r : ReindexAsk). r.slices) h.ask_is in
    let left : c.made < c.ask.slices = ltb-true c.made c.ask.slices may in
    record {
      ask_is = h.ask_is;
      numbered = asked_numbered asked h.numbered;
      few = let made = h.made_is in omega (arith, length_push asked a);
      made_is = let made = h.made_is in omega (arith, length_push asked a);
      open_are = ap (λ ks. ks ++ (length asked + 1) ∷ []) h.open_are ∙ sym (asked_open (length asked + 1) asked);
      counts_are = h.counts_are ∙ ap sums_of (sym (asked_answers (length asked + 1) asked));
    }

-- with the ask of its next slice
pub cut_asked : {ask : ReindexAsk} {asked : List Asked} {c : Cutting} → IsCutAt ask asked c → (request : Request) → cut_next c ≡ AskNext request
    → IsCutAt ask (asked ++ record { ask = length asked + 1; answer = None } ∷ []) (cut_with_ask c (length asked + 1))
cut_asked {c = c} h request e = cut_one_more h (cut_may_ask_when c request e)

-- all slices can have the same replies
slice_replies : (shards : ℕ) (a : SliceAsk) (reply : Reply) → can_have shards (asks.Slice a) reply ≡ writer_can_have (2 ^ 50) reply
slice_replies shards a (Search page) = refl
slice_replies shards a (Top top) = refl
slice_replies shards a (Hits hits) = refl
slice_replies shards a (AllFailed failed) = refl
slice_replies shards a (Wrote counts) = refl
slice_replies shards a (Cancelled task cancel counts) = refl
slice_replies shards a (Rejected node) = refl

-- it takes each reply that the slice for which it asks can have
pub cut_may_take : {ask : ReindexAsk} {asked : List Asked} {c : Cutting} → IsCutAt ask asked c → (shards : ℕ) (request : Request) → cut_next c ≡ AskNext request → (reply : Reply) → can_have shards request reply ≡ true
    → cut_takes (cut_with_ask c (length asked + 1)) (length asked + 1) reply ≡ true
cut_may_take {asked = asked} {c = c} h shards request e reply can =
    let asks_for = asks_slice c request e in
    and_from _ _ (open_last (length asked + 1) c.open_asks) (sym (slice_replies shards asks_for.slice reply) ∙ ap (λ r. can_have shards r reply) (sym asks_for.request_is) ∙ can)

-- ---- one answer more

-- with the answer to any ask that is open
pub cut_answered : {ask : ReindexAsk} {asked : List Asked} {c : Cutting} → IsCutAt ask asked c → (k : ℕ) (reply : Reply) → cut_takes c k reply ≡ true
    → IsCutAt ask (map (with_answer k (Some reply)) asked) (cut_with_answer c k reply)
cut_answered {ask = ask} {asked = asked} {c = c} h k reply takes =
    let open_yet : is_open k (open_in asked) ≡ true = ap (is_open k) (sym h.open_are) ∙ (and_parts _ _ takes).0 in
    record {
      ask_is = h.ask_is;
      numbered = fed_numbered k (Some reply) asked h.numbered;
      few = let few = h.few in omega (arith, fed_length k (Some reply) asked);
      made_is = h.made_is ∙ sym (fed_length k (Some reply) asked);
      open_are = ap (without k) h.open_are ∙ sym (fed_open k reply asked);
      counts_are = ap (λ counts. sum_with counts reply) h.counts_are ∙ sums_fed open_yet;
    }
  where
    sums_fed : is_open k (open_in asked) ≡ true → sum_with (sums_of (answers_in asked)) reply ≡ sums_of (answers_in (map (with_answer k (Some reply)) asked))
    sums_fed open_yet =
        λ i. record {
          total = sym (fed_sum (λ r. (carried r).total) k reply asked h.numbered open_yet) i;
          created = sym (fed_sum (λ r. (carried r).created) k reply asked h.numbered open_yet) i;
          updated = sym (fed_sum (λ r. (carried r).updated) k reply asked h.numbered open_yet) i;
          batches = sym (fed_sum (λ r. (carried r).batches) k reply asked h.numbered open_yet) i;
          failures = sym (fed_sum failures_of k reply asked h.numbered open_yet) i;
        }
