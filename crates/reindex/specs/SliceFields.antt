-- What holds of the fields of a slice.
use Rattle.std.specs.Prelude.{ℕ, ◌+◌, ◌-◌, ◌*◌, ◌^◌, ◌<◌, ◌≤◌, length}
use Rattle.reindex.specs.declared.phase.Phase.{Phase}
use Rattle.reindex.specs.declared.phase.Phase.TheVariants.{First, Reads, Holds, Writes, Rests, Over}
use Rattle.reindex.specs.Slices.{Slicing}

-- 1 where it waits for an answer, and else 0
abbrev pub open_asks : Phase → ℕ
open_asks (Reads ask) = 1
open_asks (Writes ask docs came) = 1
open_asks First = 0
open_asks (Holds docs came) = 0
open_asks (Rests until) = 0
open_asks Over = 0

-- how many documents are in hand
abbrev pub in_hand : Phase → ℕ
in_hand (Holds docs came) = length docs
in_hand (Writes ask docs came) = docs
in_hand First = 0
in_hand (Reads ask) = 0
in_hand (Rests until) = 0
in_hand Over = 0

-- a failure ends it
abbrev pub most_failures : Phase → ℕ
most_failures Over = 2 ^ 32
most_failures First = 0
most_failures (Reads ask) = 0
most_failures (Holds docs came) = 0
most_failures (Writes ask docs came) = 0
most_failures (Rests until) = 0

-- none has been asked for at first
abbrev pub most_made : Phase → ℕ
most_made First = 0
most_made (Reads ask) = 2000000
most_made (Holds docs came) = 2000000
most_made (Writes ask docs came) = 2000001
most_made (Rests until) = 2000001
most_made Over = 2000001

pub record IsSlice (s : Slicing) : Type 0 where
  pub slices_in_range : s.slices ≤ 32
  pub shards_in_range : s.shards < 2 ^ 32
  pub batch_in_range : s.first.body.size ≤ 10000
  pub few : s.made ≤ most_made s.phase
  pub asked : open_asks s.phase ≤ s.made
  pub docs : in_hand s.phase ≤ 10000
  pub total : s.counts.total < 2 ^ 36
  -- an answer adds less than 2^22
  pub created : s.counts.created ≤ (s.made - open_asks s.phase) * 2 ^ 22
  pub updated : s.counts.updated ≤ (s.made - open_asks s.phase) * 2 ^ 22
  pub batches : s.counts.batches + open_asks s.phase ≤ s.made
  pub failures : s.counts.failures ≤ most_failures s.phase
