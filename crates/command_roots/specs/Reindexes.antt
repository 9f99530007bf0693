-- The copy of documents that the body of a reindex, its slices and its rate ask for.
use Rattle.std.specs.Prelude.{◌≡◌, refl, ℕ, ◌≤◌, Bool, true, false, ◌&&◌, Option, Some, None}
use Rattle.std.specs.Option.{option_map_or, ForSome}
use Rattle.std.proofs.Common.{subst}
use Rattle.query_parse.specs.declared.reindex_body.ReindexBody.{ReindexBody}
use Rattle.task_events.specs.declared.request.ReindexAsk.{ReindexAsk}
use Rattle.script_lang.specs.Fields.{from_1_to, max_slices, max_rate}
use Rattle.script_lang.proofs.Ranges.{in_range}

-- how many documents are read at a time, and how many are written in a second, where that is bounded
abbrev pub is_batch : ℕ → Bool
is_batch batch = from_1_to 10000 batch

abbrev pub is_rate : Option ℕ → Bool
is_rate rate = option_map_or (from_1_to max_rate) rate true

-- each number is in its range
abbrev pub are_in_range : ℕ → ℕ → Option ℕ → Bool
are_in_range batch slices rate = is_batch batch && (from_1_to max_slices slices && is_rate rate)

pub rate_in_range : (rate : Option ℕ) → is_rate rate ≡ true → ForSome rate (λ r. (1 ≤ r) × (r ≤ max_rate))
rate_in_range None is = λ x none. cc
rate_in_range (Some r) is = λ x some. let same : r ≡ x = cc in subst (λ k. (1 ≤ k) × (k ≤ max_rate)) same (in_range max_rate r is)

pub all_three : (a b c : Bool) → (a && (b && c)) ≡ true → (a ≡ true) × (b ≡ true) × (c ≡ true)
all_three true true c all = (refl, refl, all)
all_three true false c all = cc
all_three false b c all = cc

unfoldable pub ask_if : (body : ReindexBody) (slices : ℕ) (rate : Option ℕ) (b : Bool) → are_in_range body.batch slices rate ≡ b → Option ReindexAsk
ask_if body slices rate true are =
    let each = all_three (is_batch body.batch) (from_1_to max_slices slices) (is_rate rate) are in
    Some (record {
      source = body.source;
      query = body.query;
      batch = body.batch;
      dest = body.dest;
      slices = slices;
      rate = rate;
      batch_in_range = in_range 10000 body.batch each.0;
      slices_in_range = in_range max_slices slices each.1;
      rate_in_range = rate_in_range rate each.2;
    })
ask_if body slices rate false are = None

-- The copy that a body asks for, in so many slices and at this rate. Each number is in its range, as those are that were read.
abbrev pub reindex_ask : ReindexBody → ℕ → Option ℕ → Option ReindexAsk
reindex_ask body slices rate = ask_if body slices rate (are_in_range body.batch slices rate) refl
