-- Which slices a reindex has, and which documents each of them reads.
use Rattle.std.proofs.Common.{◌≡◌, ℕ, ◌<◌, ◌≤◌, Bool, true, false, refl, Some, None}
use Rattle.std.specs.Prelude.{◌==◌, nat_lt}
use Rattle.std.specs.Coded.{le_prop}
use Rattle.std.proofs.lemmas.Bool.{lt-ltb, le-ltb, ltb-true}
use Rattle.task_events.specs.declared.request.ReindexAsk.{ReindexAsk}
use Rattle.task_events.specs.declared.request.SliceAsk.{SliceAsk}
use Rattle.task_events.specs.declared.request.SlicePick.{SlicePick}
use Rattle.task_events.specs.Slicing.{pick_if, pick_of, slice_if, slice_at}

pick_if_is : (slice slices shards : ℕ) (p : 0 < shards) (q : slice < slices) (some : Bool) (hs : nat_lt 0 shards ≡ some) (within : Bool) (hw : nat_lt slice slices ≡ within)
    → let pick : SlicePick = record { slice = slice; slices = slices; shards = shards; shards_in_range = p; slice_in_range = q } in Some pick ≡ pick_if slice slices shards some hs within hw
pick_if_is slice slices shards p q true hs true hw =
    λ i. Some (record {
      slice = slice;
      slices = slices;
      shards = shards;
      shards_in_range = le_prop p (ltb-true 0 shards hs) i;
      slice_in_range = le_prop q (ltb-true slice slices hw) i;
    })
pick_if_is slice slices shards p q true hs false hw = let yes : nat_lt slice slices ≡ true = lt-ltb slice slices q in absurd cc
pick_if_is slice slices shards p q false hs within hw = let yes : nat_lt 0 shards ≡ true = lt-ltb 0 shards p in absurd cc

pub pick_is : (slice slices shards : ℕ) (p : 0 < shards) (q : slice < slices) → (slices == 1) ≡ false
    → let pick : SlicePick = record { slice = slice; slices = slices; shards = shards; shards_in_range = p; slice_in_range = q } in Some pick ≡ pick_of slice slices shards
pick_is slice slices shards p q more = rw more (pick_if_is slice slices shards p q (nat_lt 0 shards) refl (nat_lt slice slices) refl)

slice_if_is : (ask : ReindexAsk) (slice : ℕ) (p : slice < ask.slices) (within : Bool) (hw : nat_lt slice ask.slices ≡ within)
    → let a : SliceAsk = record { reindex = ask; slice = slice; slice_in_range = p } in slice_if ask slice within hw ≡ Some a
slice_if_is ask slice p true hw = λ i. Some (record { reindex = ask; slice = slice; slice_in_range = le_prop (ltb-true slice ask.slices hw) p i })
slice_if_is ask slice p false hw = let yes : nat_lt slice ask.slices ≡ true = lt-ltb slice ask.slices p in absurd cc

-- the slice of a number below that of its slices
pub slice_is : (ask : ReindexAsk) (slice : ℕ) (p : slice < ask.slices) → let a : SliceAsk = record { reindex = ask; slice = slice; slice_in_range = p } in slice_at ask slice ≡ Some a
slice_is ask slice p = slice_if_is ask slice p (nat_lt slice ask.slices) refl

slice_if_none : (ask : ReindexAsk) (slice : ℕ) → ask.slices ≤ slice → (within : Bool) (hw : nat_lt slice ask.slices ≡ within) → slice_if ask slice within hw ≡ None
slice_if_none ask slice past true hw = let no : nat_lt slice ask.slices ≡ false = le-ltb slice ask.slices past in absurd cc
slice_if_none ask slice past false hw = refl

pub slice_none : (ask : ReindexAsk) (slice : ℕ) → ask.slices ≤ slice → slice_at ask slice ≡ None
slice_none ask slice past = slice_if_none ask slice past (nat_lt slice ask.slices) refl
