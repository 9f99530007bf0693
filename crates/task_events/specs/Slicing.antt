-- Into which slices a reindex cuts the documents that it reads.
use Rattle.std.specs.Prelude.{◌≡◌, ℕ, Bool, true, false, ◌==◌, nat_lt, Option, Some, None, if◌then◌else◌}
use Rattle.std.proofs.Common.{refl, ltb-true}
use Rattle.task_events.specs.declared.request.ReindexAsk.{ReindexAsk}
use Rattle.task_events.specs.declared.request.SliceAsk.{SliceAsk}
use Rattle.task_events.specs.declared.request.SlicePick.{SlicePick}

-- a slice of so many, of an index with so many shards, where there is such a slice
abbrev pub pick_if : (slice slices shards : ℕ) (some : Bool) → nat_lt 0 shards ≡ some → (within : Bool) → nat_lt slice slices ≡ within → Option SlicePick
pick_if slice slices shards true has_shards true is_slice = Some (record { slice = slice; slices = slices; shards = shards; shards_in_range = ltb-true 0 shards has_shards; slice_in_range = ltb-true slice slices is_slice })
pick_if slice slices shards true has_shards false no_slice = None
pick_if slice slices shards false no_shards within is_slice = None

-- the documents of a slice that are read: all, where there is one slice
abbrev pub pick_of : (slice slices shards : ℕ) → Option SlicePick
pick_of slice slices shards = if slices == 1 then None else pick_if slice slices shards (nat_lt 0 shards) refl (nat_lt slice slices) refl

abbrev pub slice_if : (ask : ReindexAsk) (slice : ℕ) (within : Bool) → nat_lt slice ask.slices ≡ within → Option SliceAsk
slice_if ask slice true is_slice = Some (record { reindex = ask; slice = slice; slice_in_range = ltb-true slice ask.slices is_slice })
slice_if ask slice false no_slice = None

-- the slice of this number, where the reindex has one
abbrev pub slice_at : ReindexAsk → ℕ → Option SliceAsk
slice_at ask slice = slice_if ask slice (nat_lt slice ask.slices) refl
