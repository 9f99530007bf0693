-- A reindex of several slices that has ended without a failure has had each of its slices done, and has written what they have.
use Rattle.std.proofs.Common.{◌≡◌, ◌+◌, ◌-◌, ◌≤◌, ◌<◌, ℕ, Bool, true, false, List, length, Option, Some, None, refl, sym, ap, ◌∙◌, arith, ltb-true}
use Rattle.std.specs.List.{flat_map}
use Rattle.std.specs.Option.{option_map_or}
use Rattle.std.specs.Prelude.{◌==◌, count_by, nat_lt, option_map, slice_get}
use Rattle.std.proofs.lemmas.Bool.Decides.{nat_tests}
use Rattle.std.proofs.lemmas.Option.{same_Some}
use Rattle.task_ids.specs.declared.cluster.Cluster.{Cluster}
use Rattle.task_ids.specs.declared.corpus.Corpus.{Corpus}
use Rattle.task_ids.specs.declared.doc.Doc.{Doc}
use Rattle.task_ids.specs.declared.task_id.TaskId.{TaskId}
use Rattle.task_events.specs.declared.event.Event.{Event}
use Rattle.task_events.specs.declared.event.Event.TheVariants.{End}
use Rattle.task_events.specs.declared.event.Outcome.{Outcome}
use Rattle.task_events.specs.declared.reply.Counts.{Counts}
use Rattle.task_events.specs.declared.reply.Reply.{Reply}
use Rattle.task_events.specs.declared.reply.Reply.TheVariants.{Wrote}
use Rattle.task_events.specs.declared.request.ReindexAsk.{ReindexAsk}
use Rattle.task_events.specs.declared.request.Request.{Request}
use Rattle.task_events.specs.declared.request.Request.TheVariants as asks
use Rattle.task_events.specs.declared.request.SliceAsk.{SliceAsk}
use Rattle.task_events.specs.declared.step.Asked.{Asked}
use Rattle.task_events.specs.Asks.{last_ask}
use Rattle.task_events.specs.Clock.{clock}
use Rattle.task_events.specs.Counting.{answers_in, failures_of, sums_of}
use Rattle.task_events.specs.Kind.{Progress}
use Rattle.task_events.specs.Kinds.{kind_of}
use Rattle.task_events.specs.Lawful.{Lawful}
use Rattle.task_events.specs.Requests.{Scripted, request_of}
use Rattle.task_events.specs.SearchTask.{ask_or_end}
use Rattle.task_events.specs.Searches.{are_answered}
use Rattle.task_events.specs.SliceTask.{slice_counts}
use Rattle.task_events.specs.Slicing.{slice_at, slice_if}
use Rattle.task_events.specs.Steps.{asked_by, came_by}
use Rattle.task_events.specs.Tasks.{child_of, reply_of}
use Rattle.task_events.specs.Written.{next_doc}
use Rattle.write_laws.specs.CopiedSlices.{CopiesSlices, HasDone}
use Rattle.write_laws.specs.KindsAsked.{KeepsToKinds}
use Rattle.write_laws.specs.TreeWrites.{tree_number}
use Rattle.write_laws.proofs.AskedForAll.{IsDone, IsGoodAsk, all_done, as_many_asks, good_ask, only_children}
use Rattle.write_laws.proofs.BulksWritten.{count_all, past_end}
use Rattle.write_laws.proofs.EndedWritten.{ended_says}
use Rattle.write_laws.proofs.GoodAnswers.{good_alive}
use Rattle.write_laws.proofs.JoinedDocs.{count_joined}
use Rattle.write_laws.proofs.SliceAsks.{slice_ends}
use Rattle.write_laws.proofs.StepCases.{ends_by_plan}
use Rattle.write_laws.proofs.Sums.{sum_of_list, sum_to, sums_agree_to}
use Rattle.write_laws.proofs.Trees.{child_number}
use Rattle.write_laws.proofs.WholeTurns.{AllPlanned}

-- ---- the slices of a reindex

slice_within : (ask : ReindexAsk) (i : ℕ) (b : Bool) (e : nat_lt i ask.slices ≡ b) (slice : SliceAsk) → slice_if ask i b e ≡ Some slice → (i < ask.slices) × (slice.reindex ≡ ask) × (slice.slice ≡ i)
slice_within ask i true e slice is = let same = sym (same_Some _ _ is) in (ltb-true i ask.slices e, ap (λ (s : SliceAsk). s.reindex) same, ap (λ (s : SliceAsk). s.slice) same)
slice_within ask i false e slice is = absurd (cc)

-- a slice of a reindex has its number and its request
pub is_slice_at : (ask : ReindexAsk) (i : ℕ) (slice : SliceAsk) → slice_at ask i ≡ Some slice → (i < ask.slices) × (slice.reindex ≡ ask) × (slice.slice ≡ i)
is_slice_at ask i slice is = slice_within ask i (nat_lt i ask.slices) refl slice is

-- below the number of slices there is one
pub has_slice : (ask : ReindexAsk) (i : ℕ) → i < ask.slices → (slice : SliceAsk) × (slice_at ask i ≡ Some slice)
has_slice ask i low = by_test (nat_lt i ask.slices) refl
  where
    by_test : (b : Bool) (e : nat_lt i ask.slices ≡ b) → (slice : SliceAsk) × (slice_if ask i b e ≡ Some slice)
    by_test true e = (record { reindex = ask; slice = i; slice_in_range = ltb-true i ask.slices e }, refl)
    by_test false e = absurd (grind (arith, nat_tests))

-- a number other than one is not one
pub other_than_one : (n : ℕ) → (n ≡ 1 → ⊥) → (n == 1) ≡ false
other_than_one n apart = by_test (n == 1) refl
  where
    by_test : (b : Bool) → (n == 1) ≡ b → b ≡ false
    by_test true e = absurd (apart (let one : n ≡ 1 = grind (arith, nat_tests) in one))
    by_test false e = refl

module _ (cluster : Cluster) (corpus : Corpus) (said : Scripted) where
  -- a slice that did not fail has replied with what it wrote
  slice_wrote : (h : List Event) → Lawful cluster h → KeepsToKinds said h → AllPlanned cluster corpus said h → (t : TaskId) (reply : Reply) (slice : SliceAsk)
      → failures_of reply ≡ 0 → reply_of t h ≡ Some reply → request_of said t h ≡ Some (asks.Slice slice) → (counts : Counts) × (reply ≡ Wrote counts) × (counts.failures ≡ 0)
  slice_wrote h l keeps planned t reply slice good e asked =
      ended_says cluster corpus said (asks.Slice slice) (λ last. (last ≡ reply) × (failures_of last ≡ 0)) (λ u c fits. absurd (omega (arith, fits.1))) (λ t h. (counts : Counts) × (reply ≡ Wrote counts) × (counts.failures ≡ 0)) (λ e h t l ended says. says)
      (λ t last h says. says)
      (λ past u last lawful kept steps made fits.
      let ends = slice_ends u slice.reindex slice.slice cluster.shards (asked_by u past) (came_by u past) (clock past) last (ends_by_plan cluster corpus said past (End u last) steps.0.0 u last (asks.Slice slice) refl (good_alive last fits.1) made) in
      (slice_counts (asked_by u past), sym fits.0 ∙ sym ends.1, ap failures_of ends.1 ∙ fits.1)) h l keeps planned t reply (refl, good) e asked

  module _ (ask : ReindexAsk) (several : (ask.slices == 1) ≡ false) where
    -- it asks for its slices, in order
    abbrev wanted : ℕ → Option Request
    wanted i = option_map asks.Slice (slice_at ask i)

    abbrev told : List Asked → Counts
    told asked = sums_of (answers_in asked)

    does : (t : TaskId) (made : Corpus) (q : Progress) (now : ℕ) → (kind_of (asks.Reindex ask)).step cluster made t q now ≡ ask_or_end (wanted (length q.asked)) (are_answered q.asked) (Wrote (told q.asked))
    does t made q now = rw several refl

    past_slices : (i : ℕ) → wanted i ≡ None → ask.slices ≤ i
    past_slices i none = by_test (nat_lt i ask.slices) refl none
      where
        by_test : (b : Bool) (e : nat_lt i ask.slices ≡ b) → option_map asks.Slice (slice_if ask i b e) ≡ None → ask.slices ≤ i
        by_test true e none = absurd (cc)
        by_test false e none = grind (arith, nat_tests)

    within_slices : (i : ℕ) (child : Request) → wanted i ≡ Some child → i < ask.slices
    within_slices i child some = by_test (nat_lt i ask.slices) refl some
      where
        by_test : (b : Bool) (e : nat_lt i ask.slices ≡ b) → option_map asks.Slice (slice_if ask i b e) ≡ Some child → i < ask.slices
        by_test true e some = ltb-true i ask.slices e
        by_test false e some = absurd (cc)

    module _ (h : List Event) (l : Lawful cluster h) (keeps : KeepsToKinds said h) (planned : AllPlanned cluster corpus said h) (t : TaskId) (last : Reply) (good : failures_of last ≡ 0) (replied : reply_of t h ≡ Some last)
        (asked : request_of said t h ≡ Some (asks.Reindex ask)) where
      done : IsDone wanted (asked_by t h)
      done = all_done cluster corpus said (asks.Reindex ask) wanted told does (λ xs. refl) h l keeps planned t last good replied asked

      as_many : last_ask t h ≡ ask.slices
      as_many = as_many_asks cluster corpus said (asks.Reindex ask) wanted told does h l planned t last replied asked done ask.slices past_slices within_slices

      one_ask : (k : ℕ) → 1 ≤ k → k ≤ last_ask t h → IsGoodAsk said wanted t h k
      one_ask = good_ask cluster corpus said (asks.Reindex ask) wanted told does h l planned t last replied asked done

      one_done : (i : ℕ) (slice : SliceAsk) → slice_at ask i ≡ Some slice → HasDone said t h i slice
      one_done i slice is = record { task = one.task; put = one.put; asked = made; counts = wrote.0; replied = one.replied ∙ ap Some wrote.1; unfailing = wrote.2 }
        where
          one : IsGoodAsk said wanted t h (i + 1)
          one = let within = is_slice_at ask i slice is in one_ask (i + 1) (omega arith) (omega (arith, within.0, as_many))

          made : request_of said one.task h ≡ Some (asks.Slice slice)
          made = one.asked ∙ sym one.wants ∙ ap wanted (let number : i + 1 - 1 ≡ i = omega arith in number) ∙ ap (option_map asks.Slice) is

          wrote : (counts : Counts) × (one.reply ≡ Wrote counts) × (counts.failures ≡ 0)
          wrote = slice_wrote h l keeps planned one.task one.reply slice one.unfailing one.replied made

      module _ (docs : List (List Doc)) (number : length docs ≡ ask.slices) (passes : Outcome → List Event → Bool) (test : Doc → Bool)
          (each : (i : ℕ) (c : TaskId) (own : List Doc) → child_of t (i + 1) h ≡ Some c → slice_get docs i ≡ Some own → tree_number passes c h ≡ count_by test own) where
        of_ask : (k : ℕ) → 1 ≤ k → k ≤ last_ask t h → child_number passes t h k ≡ option_map_or (count_by test) (slice_get docs (k - 1)) 0
        of_ask k low high = by_list (slice_get docs (k - 1)) refl
          where
            one : IsGoodAsk said wanted t h k
            one = one_ask k low high

            put : child_of t (k - 1 + 1) h ≡ Some one.task
            put = ap (λ j. child_of t j h) (let same : k - 1 + 1 ≡ k = omega (arith, low) in same) ∙ one.put

            by_list : (o : Option (List Doc)) → slice_get docs (k - 1) ≡ o → child_number passes t h k ≡ option_map_or (count_by test) o 0
            by_list None e = absurd (let past = past_end docs (k - 1) e in omega (arith, past, number, as_many, low, high))
            by_list (Some own) e = ap (λ o. option_map_or (λ c. tree_number passes c h) o 0) one.put ∙ each (k - 1) one.task own put e

        slices_number : tree_number passes t h ≡ count_by test (flat_map (λ own. own) docs)
        slices_number =
            only_children cluster said passes h l keeps t (asks.Reindex ask) asked refl ∙ sums_agree_to (child_number passes t h) (λ k. option_map_or (count_by test) (slice_get docs (k - 1)) 0) (last_ask t h) of_ask
            ∙ ap (sum_to (λ k. option_map_or (count_by test) (slice_get docs (k - 1)) 0)) (as_many ∙ sym number) ∙ sum_of_list (count_by test) docs ∙ count_joined (λ own. own) test docs

      pub slices_done : CopiesSlices said t ask h
      slices_done = record {
        as_many = as_many;
        each = one_done;
        written = λ docs number each. record {
          each = λ test. slices_number docs number (λ outcome past. option_map_or test (next_doc said past) false) test (λ i c own put at. (each i c own put at).each test);
          no_more = slices_number docs number (λ outcome past. true) (λ doc. true) (λ i c own put at. (each i c own put at).no_more ∙ sym (count_all own)) ∙ count_all (flat_map (λ own. own) docs);
        };
      }
