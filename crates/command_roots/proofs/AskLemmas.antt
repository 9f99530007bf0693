-- What a reindex is asked to do is what its body, its slices and its rate say.
use Rattle.std.proofs.Common.{◌≡◌, ℕ, ◌≤◌, Bool, true, false, Option, Some, None, refl, ap}
use Rattle.std.specs.Option.{ForSome}
use native.Mathlib.Bridge.{le_prop}
use mathlib.Core.HLevel.{is_prop→PathP}
use Rattle.query_parse.specs.declared.reindex_body.ReindexBody.{ReindexBody}
use Rattle.task_events.specs.declared.request.ReindexAsk.{ReindexAsk}
use Rattle.script_lang.specs.Fields.{from_1_to, max_slices, max_rate}
use Rattle.script_lang.proofs.Ranges.{passes}
use Rattle.command_roots.specs.Reindexes.{is_batch, is_rate, are_in_range, ask_if, reindex_ask}

-- copies with the same parts are one: the ranges that the type keeps have one proof each
same_ask : (a b : ReindexAsk) → a.source ≡ b.source → a.query ≡ b.query → a.batch ≡ b.batch → a.dest ≡ b.dest → a.slices ≡ b.slices → a.rate ≡ b.rate → a ≡ b
same_ask a b sources queries batches dests slices rates = λ i. record {
  source = sources i;
  query = queries i;
  batch = batches i;
  dest = dests i;
  slices = slices i;
  rate = rates i;
  batch_in_range = is_prop→PathP (λ j. (1 ≤ batches j) × (batches j ≤ 10000)) (λ j p q k. (le_prop p.0 q.0 k, le_prop p.1 q.1 k)) a.batch_in_range b.batch_in_range i;
  slices_in_range = is_prop→PathP (λ j. (1 ≤ slices j) × (slices j ≤ 32)) (λ j p q k. (le_prop p.0 q.0 k, le_prop p.1 q.1 k)) a.slices_in_range b.slices_in_range i;
  rate_in_range = is_prop→PathP (λ j. ForSome (rates j) (λ r. (1 ≤ r) × (r ≤ 1000000))) (λ j p q k r e. (le_prop (p r e).0 (q r e).0 k, le_prop (p r e).1 (q r e).1 k)) a.rate_in_range b.rate_in_range i;
}

rate_passes : (rate : Option ℕ) → ForSome rate (λ r. (1 ≤ r) × (r ≤ 1000000)) → is_rate rate ≡ true
rate_passes None is = refl
rate_passes (Some r) is = let here = is r refl in passes max_rate r here.0 here.1

module _ (body : ReindexBody) (slices : ℕ) (rate : Option ℕ) (ask : ReindexAsk) (sources : body.source ≡ ask.source) (queries : body.query ≡ ask.query) (batches : body.batch ≡ ask.batch) (dests : body.dest ≡ ask.dest) (cuts : slices ≡ ask.slices) (rates : rate ≡ ask.rate) where
  all_pass : are_in_range body.batch slices rate ≡ true
  all_pass =
      let batch : is_batch ask.batch ≡ true = passes 10000 ask.batch (ask.batch_in_range.0) (ask.batch_in_range.1) in
      let count : from_1_to max_slices ask.slices ≡ true = passes max_slices ask.slices (ask.slices_in_range.0) (ask.slices_in_range.1) in
      let bounded : is_rate ask.rate ≡ true = rate_passes ask.rate ask.rate_in_range in
      rw (batches, cuts, rates, batch, count) bounded

  pub ask_is : reindex_ask body slices rate ≡ Some ask
  unfolding ask_if
  ask_is = by_test (are_in_range body.batch slices rate) refl all_pass
    where
      by_test : (b : Bool) (e : are_in_range body.batch slices rate ≡ b) → b ≡ true → ask_if body slices rate b e ≡ Some ask
      by_test true e pass = ap Some (same_ask _ ask sources queries batches dests cuts rates)
      by_test false e pass = cc

-- where each number is in its range there is such a copy
pub ask_there : (body : ReindexBody) (slices : ℕ) (rate : Option ℕ) → (1 ≤ body.batch) × (body.batch ≤ 10000) → (1 ≤ slices) × (slices ≤ max_slices) → ForSome rate (λ r. (1 ≤ r) × (r ≤ max_rate))
    → (ask : ReindexAsk) × (reindex_ask body slices rate ≡ Some ask)
ask_there body slices rate batch count bounded = (the_ask, ask_is body slices rate the_ask refl refl refl refl refl refl)
  where
    the_ask : ReindexAsk
    the_ask = record {
      source = body.source;
      query = body.query;
      batch = body.batch;
      dest = body.dest;
      slices = slices;
      rate = rate;
      batch_in_range = batch;
      slices_in_range = count;
      rate_in_range = bounded;
    }
