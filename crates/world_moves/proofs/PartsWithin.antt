-- The parts of a bulk have the documents of their shards, and no more than it has itself.
use Rattle.std.proofs.Common.{◌≡◌, ◌<◌, ◌≤◌, ℕ, zero, suc, ◌+◌, Bool, true, false, cond, List, [], ◌∷◌, ◌++◌, length, map, filter, Some, refl, sym, arith}
use Rattle.std.specs.Prelude.{◌==◌, slice_get}
use Rattle.std.specs.List.{AllByRecursion, flat_map, range_with_len}
use Rattle.std.proofs.lemmas.Bool.{eqb-true}
use Rattle.task_ids.specs.declared.cluster.Cluster.{Cluster}
use Rattle.task_ids.specs.declared.doc.Doc.{Doc}
use Rattle.task_ids.specs.Placing.{shard_of}
use Rattle.task_events.specs.declared.request.BulkAsk.{BulkAsk}
use Rattle.task_events.specs.declared.request.BulkShardAsk.{BulkShardAsk}
use Rattle.task_events.specs.BulkTask.{docs_in, part_with, parts_of}
use Rattle.world_moves.specs.Good.{IsPartWithin}

module _ (cluster : Cluster) (shard : ℕ) where
  abbrev in_it : Doc → Bool
  in_it doc = shard_of doc.id cluster.shards == shard

  fewer : (docs : List Doc) → length (filter in_it docs) ≤ length docs
  fewer [] = omega arith
  fewer (doc ∷ docs) = of_test (in_it doc) (fewer docs)
    where
      of_test : (b : Bool) → length (filter in_it docs) ≤ length docs → length (cond b (doc ∷ filter in_it docs) (filter in_it docs)) ≤ length (doc ∷ docs)
      of_test true low = omega (arith, low)
      of_test false low = omega (arith, low)

  all_in : (docs : List Doc) → AllByRecursion (λ doc. shard_of doc.id cluster.shards ≡ shard) (filter in_it docs)
  all_in [] = tt
  all_in (doc ∷ docs) = of_test (in_it doc) refl (all_in docs)
    where
      of_test : (b : Bool) → in_it doc ≡ b → AllByRecursion (λ doc. shard_of doc.id cluster.shards ≡ shard) (filter in_it docs) → AllByRecursion (λ doc. shard_of doc.id cluster.shards ≡ shard) (cond b (doc ∷ filter in_it docs) (filter in_it docs))
      of_test true e all = (eqb-true (shard_of doc.id cluster.shards) shard e, all)
      of_test false e all = all

module _ (cluster : Cluster) (ask : BulkAsk) (few : length ask.docs ≤ 10000) where
  one_part : (shard : ℕ) → shard < cluster.shards → (docs : List Doc) → length docs ≤ length ask.docs → AllByRecursion (λ doc. shard_of doc.id cluster.shards ≡ shard) docs → (rest : List BulkShardAsk) → AllByRecursion (IsPartWithin cluster) rest
      → AllByRecursion (IsPartWithin cluster) (part_with ask.dest shard docs ++ rest)
  one_part shard low [] many all rest rests = rests
  one_part shard low (doc ∷ docs) many all rest rests = (record { shard = low; few = omega (arith, many, few); in_shard = all }, rests)

  from_shard : (from many : ℕ) → from + many ≤ cluster.shards → AllByRecursion (IsPartWithin cluster) (flat_map (λ shard. part_with ask.dest shard (docs_in ask.docs cluster.shards shard)) (range_with_len from many))
  from_shard from zero low = tt
  from_shard from (suc many) low =
      one_part from (omega (arith, low)) (docs_in ask.docs cluster.shards from) (fewer cluster from ask.docs) (all_in cluster from ask.docs) _ (from_shard (from + 1) many (omega (arith, low)))

  pub all_within : AllByRecursion (IsPartWithin cluster) (parts_of ask cluster.shards)
  all_within = from_shard 0 cluster.shards (omega arith)

-- what is at a place of mapped things
pub map_at : {X Y : Type 0} (f : X → Y) (xs : List X) (i : ℕ) (y : Y) → slice_get (map f xs) i ≡ Some y → (x : X) × (slice_get xs i ≡ Some x) × (y ≡ f x)
map_at f [] i y e = absurd (cc)
map_at f (x ∷ xs) zero y e = (x, refl, let same : f x ≡ y = cc in sym same)
map_at f (x ∷ xs) (suc i) y e = map_at f xs i y e
