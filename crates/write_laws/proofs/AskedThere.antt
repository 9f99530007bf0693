-- What a task asks to be written goes where it was asked to write itself.
use Rattle.std.proofs.Common.{◌≡◌, ◌%◌, ℕ, zero, suc, Bool, true, false, cond, List, [], ◌∷◌, ◌++◌, length, map, ltb-true, Some, None, refl, sym, ap, ◌∙◌, arith}
use Rattle.std.specs.List.{flat_map, range_with_len}
use Rattle.std.specs.Prelude.{◌==◌, nat_lt, option_map, slice_get}
use Rattle.std.proofs.lemmas.Bool.Decides.{nat_tests}
use Rattle.task_ids.specs.declared.cluster.Cluster.{Cluster}
use Rattle.task_ids.specs.declared.corpus.Corpus.{Corpus}
use Rattle.task_ids.specs.declared.doc.Doc.{Doc}
use Rattle.task_ids.specs.declared.task_id.TaskId.{TaskId}
use Rattle.task_events.specs.declared.request.BulkAsk.{BulkAsk}
use Rattle.task_events.specs.declared.request.BulkShardAsk.{BulkShardAsk}
use Rattle.task_events.specs.declared.request.ReindexAsk.{ReindexAsk}
use Rattle.task_events.specs.declared.request.Request.{Request}
use Rattle.task_events.specs.declared.request.Request.TheVariants as asks
use Rattle.task_events.specs.declared.request.SliceAsk.{SliceAsk}
use Rattle.task_events.specs.declared.step.Do.TheVariants.{AskNext}
use Rattle.task_events.specs.BulkTask.{docs_in, part_with}
use Rattle.task_events.specs.Kind.{Progress}
use Rattle.task_events.specs.Kinds.{kind_of}
use Rattle.task_events.specs.ReindexTask.{cut_step}
use Rattle.task_events.specs.SliceTask.{slice_step}
use Rattle.task_events.specs.Slicing.{slice_if}
use Rattle.write_laws.specs.Destinations.{dest_in}
use Rattle.write_laws.specs.KindsAsked.{may_ask, reads_shard}
use Rattle.write_laws.proofs.AsksByKind.{asks_by_kind, asks_only}
use Rattle.write_laws.proofs.ChildAsks.{asks_next}
use Rattle.write_laws.proofs.SliceAsks.{is_reading, slice_asks_next}

-- where a child is asked to write, it is asked to write there
abbrev pub GoesThere : Request → Request → Type 0
GoesThere request child = (dest : List ℕ) → dest_in child ≡ Some dest → dest_in request ≡ Some dest

-- what reads has nothing written
shard_read_quiet : (child : Request) → reads_shard child ≡ true → dest_in child ≡ None
shard_read_quiet (asks.Query ask) e = refl
shard_read_quiet (asks.Fetch ask) e = refl
shard_read_quiet (asks.Search ask) e = refl
shard_read_quiet (asks.Scroll ask) e = refl
shard_read_quiet (asks.Reindex ask) e = absurd (cc)
shard_read_quiet (asks.Slice ask) e = absurd (cc)
shard_read_quiet (asks.Bulk ask) e = absurd (cc)
shard_read_quiet (asks.BulkShard ask) e = absurd (cc)

page_quiet : (child : Request) → is_reading child ≡ true → dest_in child ≡ None
page_quiet (asks.Search ask) e = refl
page_quiet (asks.Scroll ask) e = refl
page_quiet (asks.Query ask) e = refl
page_quiet (asks.Fetch ask) e = refl
page_quiet (asks.Reindex ask) e = absurd (cc)
page_quiet (asks.Slice ask) e = absurd (cc)
page_quiet (asks.Bulk ask) e = absurd (cc)
page_quiet (asks.BulkShard ask) e = absurd (cc)

quiet_there : (request child : Request) → dest_in child ≡ None → GoesThere request child
quiet_there request child quiet dest told = absurd (let no : None ≡ Some dest = sym quiet ∙ told in cc)

-- ---- bulks

-- each of some parts is for this index
abbrev AreFor : List ℕ → List BulkShardAsk → Type 0
AreFor dest parts = (n : ℕ) (child : Request) → slice_get (map asks.BulkShard parts) n ≡ Some child → dest_in child ≡ Some dest

join_for : (dest : List ℕ) (xs ys : List BulkShardAsk) → AreFor dest xs → AreFor dest ys → AreFor dest (xs ++ ys)
join_for dest [] ys each rest n child e = rest n child e
join_for dest (x ∷ xs) ys each rest zero child e = each zero child e
join_for dest (x ∷ xs) ys each rest (suc n) child e = join_for dest xs ys (λ m c f. each (suc m) c f) rest n child e

part_for : (dest : List ℕ) (shard : ℕ) (docs : List Doc) → AreFor dest (part_with dest shard docs)
part_for dest shard [] n child e = absurd (cc)
part_for dest shard (doc ∷ docs) zero child e = let same : asks.BulkShard (record { dest = dest; shard = shard; docs = doc ∷ docs }) ≡ child = cc in ap dest_in (sym same)
part_for dest shard (doc ∷ docs) (suc n) child e = absurd (cc)

parts_for : (ask : BulkAsk) (shards : ℕ) (ss : List ℕ) → AreFor ask.dest (flat_map (λ shard. part_with ask.dest shard (docs_in ask.docs shards shard)) ss)
parts_for ask shards [] n child e = absurd (cc)
parts_for ask shards (s ∷ ss) n child e =
    join_for ask.dest (part_with ask.dest s (docs_in ask.docs shards s)) (flat_map (λ shard. part_with ask.dest shard (docs_in ask.docs shards shard)) ss) (part_for ask.dest s (docs_in ask.docs shards s)) (parts_for ask shards ss) n child e

-- ---- slices and reindexes

of_slice : (s : SliceAsk) (child : Request) → Some (asks.Slice s) ≡ Some child → dest_in child ≡ Some s.reindex.dest
of_slice s child e = let same : asks.Slice s ≡ child = cc in ap dest_in (sym same)

cut_for : (ask : ReindexAsk) (n : ℕ) (b : Bool) (e : nat_lt n ask.slices ≡ b) (child : Request) → option_map asks.Slice (slice_if ask n b e) ≡ Some child → dest_in child ≡ Some ask.dest
cut_for ask n true is child e = of_slice (record { reindex = ask; slice = n; slice_in_range = ltb-true n ask.slices is }) child e
cut_for ask n false is child e = absurd (cc)

module _ (cluster : Cluster) (t : TaskId) (made : Corpus) (q : Progress) (now : ℕ) (child : Request) where
  slice_there : (request : Request) (ask : ReindexAsk) (slice : ℕ) → dest_in request ≡ Some ask.dest → slice_step t ask slice cluster.shards q.asked q.came now ≡ AskNext child → GoesThere request child
  slice_there request ask slice is step = by_parity (length q.asked % 2 == 1) refl
    where
      by_parity : (b : Bool) → (length q.asked % 2 == 1) ≡ b → GoesThere request child
      by_parity true e dest told =
          let bulk = (slice_asks_next t ask slice cluster.shards q.asked q.came now child step).bulk (grind (arith, nat_tests)) in
          is ∙ sym (ap dest_in bulk.2) ∙ told
      by_parity false e dest told = quiet_there request child (page_quiet child ((slice_asks_next t ask slice cluster.shards q.asked q.came now child step).page (grind (arith, nat_tests)))) dest told

  may : (request : Request) → (kind_of request).step cluster made t q now ≡ AskNext child → may_ask request child ≡ true
  may request step = ap (asks_only (may_ask request)) (sym step) ∙ asks_by_kind request cluster made t q now

  pub asks_there : (request : Request) → (kind_of request).step cluster made t q now ≡ AskNext child → GoesThere request child
  asks_there (asks.Search ask) step = quiet_there (asks.Search ask) child (shard_read_quiet child (may (asks.Search ask) step))
  asks_there (asks.Scroll ask) step = quiet_there (asks.Scroll ask) child (shard_read_quiet child (may (asks.Scroll ask) step))
  asks_there (asks.Query ask) step = absurd (let no : false ≡ true = may (asks.Query ask) step in cc)
  asks_there (asks.Fetch ask) step = absurd (let no : false ≡ true = may (asks.Fetch ask) step in cc)
  asks_there (asks.BulkShard ask) step = absurd (let no : false ≡ true = may (asks.BulkShard ask) step in cc)
  asks_there (asks.Bulk ask) step = λ dest told. sym (parts_for ask cluster.shards (range_with_len 0 cluster.shards) (length q.asked) child (asks_next _ _ _ child step)) ∙ told
  asks_there (asks.Slice ask) step = slice_there (asks.Slice ask) ask.reindex ask.slice refl step
  asks_there (asks.Reindex ask) step = by_slices (ask.slices == 1) step
    where
      by_slices : (b : Bool) → cond b (slice_step t ask 0 cluster.shards q.asked q.came now) (cut_step ask q.asked) ≡ AskNext child → GoesThere (asks.Reindex ask) child
      by_slices true step = slice_there (asks.Reindex ask) ask 0 refl step
      by_slices false step = λ dest told. sym (cut_for ask (length q.asked) (nat_lt (length q.asked) ask.slices) refl child (asks_next _ _ _ child step)) ∙ told
