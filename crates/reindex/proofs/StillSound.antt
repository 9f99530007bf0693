-- What holds of the fields of a slice, and of a reindex that is cut into slices, at first and after an ask.
use Rattle.std.proofs.Common.{◌≡◌, ◌≤◌, ℕ, ◌+◌, ◌-◌, ◌*◌, ◌^◌, true, [], ◌∷◌, ◌++◌, length, refl, sym, subst, arith, length-append}
use Rattle.std.specs.Prelude.{⊤}
use Rattle.std.proofs.lemmas.Bool.{and_parts, and_from, ltb-true}
use Rattle.task_ids.specs.declared.task_id.TaskId.{TaskId}
use Rattle.task_events.specs.declared.reply.Reply.{Reply}
use Rattle.task_events.specs.declared.request.ReindexAsk.{ReindexAsk}
use Rattle.task_events.specs.declared.request.Request.{Request}
use Rattle.task_events.specs.declared.request.Request.TheVariants as asks
use Rattle.reindex.specs.BulkFields.{AreUpTo}
use Rattle.reindex.specs.declared.phase.Phase.{Phase}
use Rattle.reindex.specs.declared.phase.Phase.TheVariants.{First, Reads, Holds, Writes, Rests, Over}
use Rattle.reindex.specs.RootFields.{IsCut}
use Rattle.reindex.specs.Roots.{Cutting, IsNewCut, cut_may_ask, cut_with_ask, cut_takes, cut_with_answer}
use Rattle.reindex.specs.SliceFields.{IsSlice, open_asks, in_hand, most_failures, most_made}
use Rattle.reindex.specs.Slices.{Slicing, IsNewSlice, slice_may_ask, may_ask_in, phase_with, slice_with_ask}
use Rattle.reindex.proofs.BulkRuns.{open_before, open_beside}

-- ---- a slice

abbrev of_first : ℕ → Request → Type 0
of_first size (asks.Search ask) = ask.body.size ≤ size
of_first size _ = ⊤

pub new_sound : (t : TaskId) (ask : ReindexAsk) (slice shards : ℕ) (s : Slicing) → IsNewSlice t ask slice shards s → shards ≤ 15 → IsSlice s
new_sound t ask slice shards s new few = record {
  slices_in_range = let most = ask.slices_in_range.1 in omega (arith, new.slices_are, most);
  shards_in_range = omega (arith, new.shards_are, few);
  batch_in_range = subst (of_first 10000) (sym new.first_is) ask.batch_in_range.1;
  few = rw new.phase_is (omega (arith, new.made_is));
  asked = rw new.phase_is (omega arith);
  docs = rw new.phase_is (omega arith);
  total = rw new.counts_are (omega arith);
  created = rw new.counts_are (omega arith);
  updated = rw new.counts_are (omega arith);
  batches = rw (new.phase_is, new.counts_are) (omega arith);
  failures = rw (new.phase_is, new.counts_are) (omega arith);
}

pub asked_sound : (s : Slicing) (k : ℕ) → IsSlice s → slice_may_ask s ≡ true → IsSlice (slice_with_ask s k)
asked_sound s k h may =
    let shut = none_open s.phase may in
    let more = one_open s.phase may in
    let same : s.made + 1 - open_asks (phase_with s.phase k) ≡ s.made - open_asks s.phase = omega (arith, shut, more) in
    record {
      slices_in_range = h.slices_in_range;
      shards_in_range = h.shards_in_range;
      batch_in_range = h.batch_in_range;
      few = room s.phase may h.few;
      asked = omega (arith, more);
      docs = hand s.phase may h.docs;
      total = h.total;
      created = subst (λ n. s.counts.created ≤ n * 2 ^ 22) (sym same) h.created;
      updated = subst (λ n. s.counts.updated ≤ n * 2 ^ 22) (sym same) h.updated;
      batches = let before = h.batches in omega (arith, before, shut, more);
      failures = failed s.phase may h.failures;
    }
  where
    none_open : (phase : Phase) → may_ask_in s.made phase ≡ true → open_asks phase ≡ 0
    none_open First may = refl
    none_open (Holds docs came) may = refl
    none_open (Rests until) may = refl
    none_open (Reads ask) may = absurd (cc)
    none_open (Writes ask docs came) may = absurd (cc)
    none_open Over may = absurd (cc)

    one_open : (phase : Phase) → may_ask_in s.made phase ≡ true → open_asks (phase_with phase k) ≡ 1
    one_open First may = refl
    one_open (Holds docs came) may = refl
    one_open (Rests until) may = refl
    one_open (Reads ask) may = absurd (cc)
    one_open (Writes ask docs came) may = absurd (cc)
    one_open Over may = absurd (cc)

    room : (phase : Phase) → may_ask_in s.made phase ≡ true → s.made ≤ most_made phase → s.made + 1 ≤ most_made (phase_with phase k)
    room First may few = omega (arith, few)
    room (Holds docs came) may few = omega (arith, few)
    room (Rests until) may few = let left = ltb-true s.made 2000000 may in omega (arith, left)
    room (Reads ask) may few = absurd (cc)
    room (Writes ask docs came) may few = absurd (cc)
    room Over may few = absurd (cc)

    hand : (phase : Phase) → may_ask_in s.made phase ≡ true → in_hand phase ≤ 10000 → in_hand (phase_with phase k) ≤ 10000
    hand First may few = omega arith
    hand (Holds docs came) may few = few
    hand (Rests until) may few = omega arith
    hand (Reads ask) may few = absurd (cc)
    hand (Writes ask docs came) may few = absurd (cc)
    hand Over may few = absurd (cc)

    failed : (phase : Phase) → may_ask_in s.made phase ≡ true → s.counts.failures ≤ most_failures phase → s.counts.failures ≤ most_failures (phase_with phase k)
    failed First may few = few
    failed (Holds docs came) may few = few
    failed (Rests until) may few = few
    failed (Reads ask) may few = absurd (cc)
    failed (Writes ask docs came) may few = absurd (cc)
    failed Over may few = absurd (cc)

-- ---- a reindex that is cut

pub cut_new_sound : (ask : ReindexAsk) (c : Cutting) → IsNewCut ask c → IsCut c 32
cut_new_sound ask c new = record {
  in_order = rw new.made_is (omega arith);
  few = subst (λ (a : ReindexAsk). a.slices ≤ 32) (sym new.ask_is) ask.slices_in_range.1;
  asked = rw (new.made_is, new.open_is) (omega arith);
  room = subst (λ (a : ReindexAsk). a.slices ≤ 32) (sym new.ask_is) ask.slices_in_range.1;
  bounded = rw (new.made_is, new.open_is, new.counts_are) (record { total = omega arith; created = omega arith; updated = omega arith; batches = omega arith; failures = omega arith });
}

pub cut_asked_sound : (c : Cutting) (k : ℕ) → IsCut c 32 → cut_may_ask c ≡ true → IsCut (cut_with_ask c k) 32
cut_asked_sound c k h may =
    let left = ltb-true c.made c.ask.slices may in
    let more = length-append c.open_asks (k ∷ []) in
    let before = h.asked in
    let same : c.made + 1 - length (c.open_asks ++ k ∷ []) ≡ c.made - length c.open_asks = omega (arith, more, before) in
    record {
      in_order = omega (arith, left);
      few = h.few;
      asked = omega (arith, more, before);
      room = h.room;
      bounded = subst (λ n. AreUpTo (n * 2 ^ 50) c.counts) (sym same) h.bounded;
    }

-- a reply that it takes it takes after one ask more too, and after the answer to another
pub cut_takes_after_ask : (c : Cutting) (k j : ℕ) (reply : Reply) → cut_takes c k reply ≡ true → cut_takes (cut_with_ask c j) k reply ≡ true
cut_takes_after_ask c k j reply took = let both = and_parts _ _ took in and_from _ _ (open_before k j c.open_asks both.0) both.1

pub cut_takes_after_answer : (c : Cutting) (k j : ℕ) (reply other : Reply) → (k ≡ j → ⊥) → cut_takes c k reply ≡ true → cut_takes (cut_with_answer c j other) k reply ≡ true
cut_takes_after_answer c k j reply other apart took = let both = and_parts _ _ took in and_from _ _ (open_beside k j c.open_asks apart both.0) both.1
