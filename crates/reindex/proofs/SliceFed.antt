-- What holds of the fields of a slice still holds once it was answered.
use Rattle.std.proofs.Common.{◌≡◌, ℕ, ◌+◌, ◌^◌, ◌<◌, ◌≤◌, Bool, true, false, [], length, refl, ap, Option, Some, None, arith}
use Rattle.std.specs.Prelude.{◌==◌, nat_lt, nat_le, if◌then◌else◌}
use Rattle.std.proofs.lemmas.Bool.{and_parts, ltb-true, leb-true, eqb-true}
use Rattle.std.proofs.lemmas.List.{length-map}
use Rattle.task_events.specs.declared.reply.Counts.{Counts}
use Rattle.task_events.specs.declared.reply.Hit.{Hit}
use Rattle.task_events.specs.declared.reply.Reply.{Reply}
use Rattle.task_events.specs.declared.reply.Reply.TheVariants.{Search, Top, Hits, AllFailed, Wrote, Cancelled, Rejected}
use Rattle.task_events.specs.declared.reply.SearchReply.{SearchReply}
use Rattle.task_events.specs.declared.request.Request.TheVariants as asks
use Rattle.task_events.specs.declared.request.SearchAsk.{SearchAsk}
use Rattle.task_events.specs.declared.request.ScrollAsk.{ScrollAsk}
use Rattle.task_events.specs.Counting.{are_below, carried, failures_of, is_batch}
use Rattle.task_events.specs.Kinds.{can_have}
use Rattle.task_events.specs.SliceTask.{docs_on, total_in, is_clean}
use Rattle.reindex.specs.declared.phase.Phase.{Phase}
use Rattle.reindex.specs.declared.phase.Phase.TheVariants.{First, Reads, Holds, Writes, Rests, Over}
use Rattle.reindex.specs.Answers.{writer_can_have}
use Rattle.reindex.specs.Counts.{AreBelow}
use Rattle.reindex.specs.Slices.{Slicing, page_asked, takes_in, slice_takes, phase_after, counts_after, slice_with_answer}
use Rattle.reindex.specs.SliceFields.{IsSlice, open_asks, in_hand, most_failures, most_made}
use Rattle.reindex.proofs.Answers.{below_each, below_all, told_low}

-- What the answer to an ask of a slice tells is small.
pub record IsSmall (reply : Reply) : Type 0 where
  pub total : total_in reply < 2 ^ 36
  pub carries : AreBelow (2 ^ 22) (carried reply)
  pub failures : failures_of reply ≤ 2 ^ 32
  pub docs : length (docs_on reply) ≤ 10000

none_below : (limit : ℕ) → 0 < limit → AreBelow limit (record { total = 0; created = 0; updated = 0; batches = 0; failures = 0 })
none_below limit some = record { total = some; created = some; updated = some; batches = some; failures = some }

below_more : (counts : Counts) → are_below 1 counts ≡ true → AreBelow (2 ^ 22) counts
below_more counts below =
    let each = below_each 1 counts below in
    record { total = omega (arith, each.total); created = omega (arith, each.created); updated = omega (arith, each.updated); batches = omega (arith, each.batches); failures = omega (arith, each.failures) }

small_search : (page : SearchReply) (shards hits : ℕ) → nat_lt (length page.failed) shards ≡ true → nat_le (length page.hits) hits ≡ true → nat_lt page.total (2 ^ 36) ≡ true → shards < 2 ^ 32 → hits ≤ 10000 → IsSmall (Search page)
small_search page shards hits failed found total few most = record {
  total = ltb-true _ _ total;
  carries = none_below (2 ^ 22) (omega arith);
  failures = let some : length page.failed < shards = ltb-true _ _ failed in omega arith;
  docs = let some : length page.hits ≤ hits = leb-true _ _ found in omega (arith, length-map page.hits (λ (hit : Hit). hit.doc));
}

small_failed : (limit : ℕ) (reply : Reply) → total_in reply ≡ 0 → docs_on reply ≡ [] → AreBelow (2 ^ 22) (carried reply) → failures_of reply ≤ 2 ^ 22 → IsSmall reply
small_failed limit reply total docs carries failures = record {
  total = omega arith;
  carries = carries;
  failures = omega arith;
  docs = let none : length (docs_on reply) ≡ 0 = ap length docs in omega arith;
}

cancelled_small : (task : _) (cancel : ℕ) (counts : Counts) → are_below 1 counts ≡ true → IsSmall (Cancelled task cancel counts)
cancelled_small task cancel counts below = let carries = below_more counts below in small_failed 1 (Cancelled task cancel counts) refl refl carries (omega (arith, carries.failures))

rejected_small : (node : ℕ) → IsSmall (Rejected node)
rejected_small node = small_failed 1 (Rejected node) refl refl (none_below (2 ^ 22) (omega arith)) (omega arith)

all_failed_small : (failed : _) → IsSmall (AllFailed failed)
all_failed_small failed = small_failed 1 (AllFailed failed) refl refl (none_below (2 ^ 22) (omega arith)) (omega arith)

search_small : (shards : ℕ) (ask : SearchAsk) (reply : Reply) → shards < 2 ^ 32 → ask.body.size ≤ 10000 → can_have shards (asks.Search ask) reply ≡ true → IsSmall reply
search_small shards ask (Search page) few most can =
    let context = and_parts _ _ can in
    let failed = and_parts _ _ context.0 in
    let hits = and_parts _ _ failed.0 in
    small_search page shards ask.body.size hits.1 failed.1 context.1 few most
search_small shards ask (AllFailed failed) few most can = all_failed_small failed
search_small shards ask (Cancelled task cancel counts) few most can = cancelled_small task cancel counts can
search_small shards ask (Rejected node) few most can = rejected_small node
search_small shards ask (Wrote counts) few most can = absurd cc
search_small shards ask (Top top) few most can = absurd cc
search_small shards ask (Hits hits) few most can = absurd cc

scroll_small : (shards : ℕ) (ask : ScrollAsk) (reply : Reply) → shards < 2 ^ 32 → can_have shards (asks.Scroll ask) reply ≡ true → IsSmall reply
scroll_small shards ask (Search page) few can =
    let context = and_parts _ _ can in
    let failed = and_parts _ _ context.0 in
    let hits = and_parts _ _ failed.0 in
    small_search page shards 10000 hits.1 failed.1 context.1 few ten_thousand
  where
    ten_thousand : 10000 ≤ 10000
    ten_thousand = omega arith
scroll_small shards ask (AllFailed failed) few can = all_failed_small failed
scroll_small shards ask (Cancelled task cancel counts) few can = cancelled_small task cancel counts can
scroll_small shards ask (Rejected node) few can = rejected_small node
scroll_small shards ask (Wrote counts) few can = absurd cc
scroll_small shards ask (Top top) few can = absurd cc
scroll_small shards ask (Hits hits) few can = absurd cc

bulk_small : (reply : Reply) → writer_can_have (2 ^ 22) reply ≡ true → IsSmall reply
bulk_small (Wrote counts) can = let low = told_low (2 ^ 22) (Wrote counts) (omega arith) can in small_failed 1 (Wrote counts) refl refl low.carries low.tells
bulk_small (Cancelled task cancel counts) can = let low = told_low (2 ^ 22) (Cancelled task cancel counts) (omega arith) can in small_failed 1 (Cancelled task cancel counts) refl refl low.carries low.tells
bulk_small (Rejected node) can = rejected_small node
bulk_small (Search page) can = absurd cc
bulk_small (Top top) can = absurd cc
bulk_small (Hits hits) can = absurd cc
bulk_small (AllFailed failed) can = absurd cc

page_small : (s : Slicing) (context : Option _) (reply : Reply) → s.shards < 2 ^ 32 → s.first.body.size ≤ 10000 → can_have s.shards (page_asked s context) reply ≡ true → IsSmall reply
page_small s None reply few most can = search_small s.shards s.first reply few most can
page_small s (Some context) reply few most can = scroll_small s.shards (record { id = context; keep = None; owner = Some s.task }) reply few can

small_in : (s : Slicing) (ask : ℕ) (reply : Reply) (phase : Phase) → s.shards < 2 ^ 32 → s.first.body.size ≤ 10000 → takes_in s ask reply phase ≡ true → IsSmall reply
small_in s ask reply (Reads open_ask) few most takes = page_small s s.context reply few most (and_parts _ _ takes).1
small_in s ask reply (Writes open_ask docs came) few most takes = bulk_small reply (and_parts _ _ takes).1
small_in s ask reply First few most takes = absurd cc
small_in s ask reply (Holds docs came) few most takes = absurd cc
small_in s ask reply (Rests until) few most takes = absurd cc
small_in s ask reply Over few most takes = absurd cc

-- what a slice takes is small
pub taken_small : (s : Slicing) (ask : ℕ) (reply : Reply) → IsSlice s → slice_takes s ask reply ≡ true → IsSmall reply
taken_small s ask reply h takes = small_in s ask reply s.phase h.shards_in_range h.batch_in_range takes

-- ---- no failure where it goes on

batch_unfailed : (reply : Reply) → is_batch reply ≡ true → failures_of reply ≡ 0
batch_unfailed (Search page) batch = eqb-true _ _ (and_parts _ _ batch).0
batch_unfailed (Top top) batch = absurd cc
batch_unfailed (Hits hits) batch = absurd cc
batch_unfailed (AllFailed failed) batch = absurd cc
batch_unfailed (Wrote counts) batch = absurd cc
batch_unfailed (Cancelled task cancel counts) batch = absurd cc
batch_unfailed (Rejected node) batch = absurd cc

clean_unfailed : (reply : Reply) → is_clean reply ≡ true → failures_of reply ≡ 0
clean_unfailed (Wrote counts) clean = eqb-true _ _ clean
clean_unfailed (Search page) clean = absurd cc
clean_unfailed (Top top) clean = absurd cc
clean_unfailed (Hits hits) clean = absurd cc
clean_unfailed (AllFailed failed) clean = absurd cc
clean_unfailed (Cancelled task cancel counts) clean = absurd cc
clean_unfailed (Rejected node) clean = absurd cc

-- ---- the fields after an answer

-- What an answer leaves of the fields, by how far it has come then.
pub record IsAfter (was : Phase) (s : Slicing) (reply : Reply) (phase : Phase) : Type 0 where
  pub was_open : open_asks was ≡ 1
  pub closed : open_asks phase ≡ 0
  pub more : most_made was ≤ most_made phase
  pub docs : in_hand phase ≤ 10000
  pub failures : s.counts.failures + failures_of reply ≤ most_failures phase

batches_more : (reply : Reply) → (if is_batch reply then 1 else 0) ≤ 1
batches_more reply = by (is_batch reply)
  where
    by : (b : Bool) → (if b then 1 else 0) ≤ 1
    by true = omega arith
    by false = omega arith

total_after : (made : ℕ) (counts : Counts) (reply : Reply) → counts.total < 2 ^ 36 → total_in reply < 2 ^ 36 → (if made == 1 then total_in reply else counts.total) < 2 ^ 36
total_after made counts reply was now = by (made == 1)
  where
    by : (b : Bool) → (if b then total_in reply else counts.total) < 2 ^ 36
    by true = now
    by false = was

fed : (s : Slicing) (context : Option _) (reply : Reply) (phase : Phase) → IsSlice s → IsSmall reply → IsAfter s.phase s reply phase
    → IsSlice (record s { context = context; phase = phase; counts = counts_after s.made s.counts reply })
fed s context reply phase h small after =
    let batches = batches_more reply in
    record {
      slices_in_range = h.slices_in_range;
      shards_in_range = h.shards_in_range;
      batch_in_range = h.batch_in_range;
      few = omega (arith, h.few, after.more);
      asked = omega (arith, after.closed);
      docs = after.docs;
      total = total_after s.made s.counts reply h.total small.total;
      created = omega (arith, h.created, h.asked, after.was_open, after.closed, small.carries.created);
      updated = omega (arith, h.updated, h.asked, after.was_open, after.closed, small.carries.updated);
      batches = omega (arith, h.batches, after.was_open, after.closed, batches);
      failures = after.failures;
    }

after_page : (s : Slicing) (ask : ℕ) (reply : Reply) (now : ℕ) → s.counts.failures ≤ 0 → IsSmall reply → (batch : Bool) → is_batch reply ≡ batch
    → IsAfter (Reads ask) s reply (if batch then Holds (docs_on reply) now else Over)
after_page s ask reply now none small true batch = let clear = batch_unfailed reply batch in record {
  was_open = refl;
  closed = refl;
  more = omega arith;
  docs = small.docs;
  failures = omega arith;
}
after_page s ask reply now none small false batch = record { was_open = refl; closed = refl; more = omega arith; docs = omega arith; failures = omega (arith, small.failures) }

after_bulk : (s : Slicing) (ask docs came until : ℕ) (reply : Reply) → s.counts.failures ≤ 0 → IsSmall reply → (clean : Bool) → is_clean reply ≡ clean
    → IsAfter (Writes ask docs came) s reply (if clean then Rests until else Over)
after_bulk s ask docs came until reply none small true clean = let clear = clean_unfailed reply clean in record {
  was_open = refl;
  closed = refl;
  more = omega arith;
  docs = omega arith;
  failures = omega arith;
}
after_bulk s ask docs came until reply none small false clean = record { was_open = refl; closed = refl; more = omega arith; docs = omega arith; failures = omega (arith, small.failures) }

after_in : (s : Slicing) (ask : ℕ) (reply : Reply) (now : ℕ) (phase : Phase) → s.counts.failures ≤ most_failures phase → IsSmall reply → takes_in s ask reply phase ≡ true
    → IsAfter phase s reply (phase_after s.slices s.rate phase reply now)
after_in s ask reply now (Reads open_ask) failures small takes = after_page s open_ask reply now failures small (is_batch reply) refl
after_in s ask reply now (Writes open_ask docs came) failures small takes = after_bulk s open_ask docs came _ reply failures small (is_clean reply) refl
after_in s ask reply now First failures small takes = absurd cc
after_in s ask reply now (Holds docs came) failures small takes = absurd cc
after_in s ask reply now (Rests until) failures small takes = absurd cc
after_in s ask reply now Over failures small takes = absurd cc

pub slice_fed : (s : Slicing) (ask : ℕ) (reply : Reply) (now : ℕ) → IsSlice s → slice_takes s ask reply ≡ true → IsSlice (slice_with_answer s ask reply now)
slice_fed s ask reply now h takes =
    let small = taken_small s ask reply h takes in
    fed s _ reply _ h small (after_in s ask reply now s.phase h.failures small takes)

-- ---- room for the sums

pub slice_below : (s : Slicing) → IsSlice s → AreBelow (2 ^ 50) s.counts
slice_below s h =
    let made : s.made ≤ 2000001 = most (s.phase) h.few in
    let failures : s.counts.failures ≤ 2 ^ 32 = fewest s.phase h.failures in
    record { total = omega (arith, h.total); created = omega (arith, h.created); updated = omega (arith, h.updated); batches = omega (arith, h.batches); failures = omega arith }
  where
    most : (phase : Phase) → s.made ≤ most_made phase → s.made ≤ 2000001
    most First few = omega arith
    most (Reads ask) few = omega arith
    most (Holds docs came) few = omega arith
    most (Writes ask docs came) few = few
    most (Rests until) few = few
    most Over few = few

    fewest : (phase : Phase) → s.counts.failures ≤ most_failures phase → s.counts.failures ≤ 2 ^ 32
    fewest First few = omega arith
    fewest (Reads ask) few = omega arith
    fewest (Holds docs came) few = omega arith
    fewest (Writes ask docs came) few = omega arith
    fewest (Rests until) few = omega arith
    fewest Over few = few

-- each number of a slice is below 2^50
pub slice_low : {s : Slicing} → IsSlice s → are_below (2 ^ 50) s.counts ≡ true
slice_low {s} h = below_all (2 ^ 50) s.counts (slice_below s h)

-- ---- there is room for what an answer adds

pub room : (s : Slicing) → IsSlice s → AreBelow (2 ^ 62) s.counts
room s h = let low = slice_below s h in record { total = omega (arith, low.total); created = omega (arith, low.created); updated = omega (arith, low.updated); batches = omega (arith, low.batches); failures = omega (arith, low.failures) }

pub told_low_enough : (s : Slicing) (ask : ℕ) (reply : Reply) → IsSlice s → slice_takes s ask reply ≡ true → are_below (2 ^ 62) (carried reply) ≡ true
told_low_enough s ask reply h takes =
    let small = taken_small s ask reply h takes in
    below_all (2 ^ 62) (carried reply)
    (record {
      total = omega (arith, small.carries.total);
      created = omega (arith, small.carries.created);
      updated = omega (arith, small.carries.updated);
      batches = omega (arith, small.carries.batches);
      failures = omega (arith, small.carries.failures);
    })

pub told_few_enough : (s : Slicing) (ask : ℕ) (reply : Reply) → IsSlice s → slice_takes s ask reply ≡ true → failures_of reply < 2 ^ 62
told_few_enough s ask reply h takes = let small = taken_small s ask reply h takes in omega (arith, small.failures)
