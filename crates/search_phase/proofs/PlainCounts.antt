-- Where each top is what its shard's writes say, their counts and their keys are those of the plain answer.
use Rattle.std.specs.Prelude.{◌≡◌, ℕ, ◌≤◌, ◌==◌, List, [], ◌∷◌, ◌++◌, true, Option, Some, None, option_map, option_and_then, map, filter, filter_map, take, zip, length, refl}
use Rattle.std.proofs.Common.{sym, ◌∙◌, ap, subst}
use Rattle.std.proofs.lemmas.Bool.{eqb-true}
use Rattle.std.specs.List.{flat_map, AllByRecursion}
use Rattle.std.specs.Option.{option_map_or}
use Rattle.task_ids.specs.declared.doc.Doc.{Doc}
use Rattle.task_events.specs.declared.reading.ShardRead.{ShardRead}
use Rattle.task_events.specs.declared.reading.ShardRead.TheVariants.{Newest, Kept}
use Rattle.task_events.specs.declared.request.HitKey.{HitKey}
use Rattle.task_events.specs.declared.request.SearchAsk.{SearchAsk}
use Rattle.task_events.specs.declared.reply.ShardCount.{ShardCount}
use Rattle.task_events.specs.declared.reply.ShardTop.{ShardTop}
use Rattle.task_events.specs.declared.step.Asked.{Asked}
use Rattle.task_events.specs.HitOrder.{in_hit_order, is_after}
use Rattle.task_events.specs.Answers.{ShardVersion, window, matching_keys, shard_top, found_keys, winners, count_read, read_at}
use Rattle.task_events.specs.Readings.{Reading, shard_read, version_read}
use Rattle.task_events.specs.Searches.{query_of, top_of, winners_among, counted}
use Rattle.search_phase.specs.FetchPhase.{tops_of, count_for}
use Rattle.search_phase.proofs.Cut.{window_before_merging}
use Rattle.search_phase.proofs.Filtered.{filter-in_hit_order, filter-flat_map}
use Rattle.search_phase.proofs.Lookups.{Beside}
use Rattle.search_phase.proofs.QueryTops.{IsAnswered}

-- a shard and the version of it that its top was read at
abbrev pub version_of : ShardTop → ShardVersion
version_of top = (top.shard, top.version)

-- the top is what the writes of its shard say at its version
abbrev pub IsPlainTop : Reading → (ℕ → List Doc) → ShardTop → Type 0
IsPlainTop r writes top = top ≡ shard_top (query_of r (Newest top.shard)) top.version (writes top.shard)

-- the top of a shard that is read is what its writes say, at the version that is asked for, where one is
pub record IsHonestRead (r : Reading) (writes : ℕ → List Doc) (at : ShardRead) (top : ShardTop) : Type 0 where
  pub honest : top ≡ shard_top (query_of r at) top.version (writes (shard_read at))
  pub within : top.version ≤ length (writes (shard_read at))
  pub version : option_map_or (λ version. top.version == version) (version_read at) true ≡ true

-- the answer to the query of a shard is such a top, where it is a top
abbrev pub IsQueryAnswer : Reading → (ℕ → List Doc) → ShardRead → Asked → Type 0
IsQueryAnswer r writes at a = IsAnswered (IsHonestRead r writes) at a

-- the keys of a shard at a version
abbrev pub keys_at : SearchAsk → (ℕ → List Doc) → ShardVersion → List HitKey
keys_at ask writes at = matching_keys ask.body ask.slice at.0 at.1 (writes at.0)

-- how many rows match in a shard as the plain answer has it
abbrev pub plain_count : Reading → (ℕ → List Doc) → ShardRead × Asked → Option ShardCount
plain_count r writes p = option_map (λ top. count_read r.ask writes p.0 top.version) (option_and_then top_of p.1.answer)

module _ (r : Reading) (writes : ℕ → List Doc) where
  -- ---- the counts

  pub honest_shard : (at : ShardRead) (top : ShardTop) → IsHonestRead r writes at top → top.shard ≡ shard_read at
  honest_shard at top h = ap (λ (t : ShardTop). t.shard) h.honest

  honest_count : (at : ShardRead) (top : ShardTop) → IsHonestRead r writes at top → counted at top ≡ count_read r.ask writes at top.version
  honest_count (Newest shard) top h =
      let own : top.shard ≡ shard = honest_shard (Newest shard) top h in
      let many : top.count ≡ length (keys_at r.ask writes (shard, top.version)) = ap (λ (t : ShardTop). t.count) h.honest in
      λ i. record { shard = own i; version = top.version; count = many i }
  honest_count (Kept kept) top h = refl

  honest_version : (at : ShardRead) (top : ShardTop) → IsHonestRead r writes at top → read_at (count_read r.ask writes at top.version) ≡ version_of top
  honest_version (Newest shard) top h = let own : top.shard ≡ shard = honest_shard (Newest shard) top h in λ i. (sym own i, top.version)
  honest_version (Kept kept) top h =
      let own : top.shard ≡ kept.shard = honest_shard (Kept kept) top h in
      let same : top.version ≡ kept.version = eqb-true top.version kept.version h.version in
      λ i. (sym own i, sym same i)

  pub counts_are_plain : (ats : List ShardRead) (asked : List Asked) → Beside (IsQueryAnswer r writes) ats asked → filter_map count_for (zip ats asked) ≡ filter_map (plain_count r writes) (zip ats asked)
  counts_are_plain [] asked h = refl
  counts_are_plain (at ∷ ats) [] h = refl
  counts_are_plain (at ∷ ats) (a ∷ asked) h = of_top (option_and_then top_of a.answer) refl (counts_are_plain ats asked h.1)
    where
      of_top : (o : Option ShardTop) → option_and_then top_of a.answer ≡ o → filter_map count_for (zip ats asked) ≡ filter_map (plain_count r writes) (zip ats asked)
          → filter_map count_for (zip (at ∷ ats) (a ∷ asked)) ≡ filter_map (plain_count r writes) (zip (at ∷ ats) (a ∷ asked))
      of_top None e rest = rw e rest
      of_top (Some top) e rest = let here : counted at top ≡ count_read r.ask writes at top.version = honest_count at top (h.0 top e) in rw e (λ i. here i ∷ rest i)

  -- the shards that answered, each at the version of its top
  pub versions_are : (ats : List ShardRead) (asked : List Asked) → Beside (IsQueryAnswer r writes) ats asked
      → map read_at (filter_map (plain_count r writes) (zip ats asked)) ≡ map version_of (tops_of (take (length ats) asked))
  versions_are [] asked h = refl
  versions_are (at ∷ ats) [] h = refl
  versions_are (at ∷ ats) (a ∷ asked) h = of_top (option_and_then top_of a.answer) refl (versions_are ats asked h.1)
    where
      of_top : (o : Option ShardTop) → option_and_then top_of a.answer ≡ o
          → map read_at (filter_map (plain_count r writes) (zip ats asked)) ≡ map version_of (tops_of (take (length ats) asked))
          → map read_at (filter_map (plain_count r writes) (zip (at ∷ ats) (a ∷ asked))) ≡ map version_of (tops_of (take (length (at ∷ ats)) (a ∷ asked)))
      of_top None e rest = rw e rest
      of_top (Some top) e rest = let here : read_at (count_read r.ask writes at top.version) ≡ version_of top = honest_version at top (h.0 top e) in rw e (λ i. here i ∷ rest i)

  pub honest_tops : (ats : List ShardRead) (asked : List Asked) → Beside (IsQueryAnswer r writes) ats asked → AllByRecursion (IsPlainTop r writes) (tops_of (take (length ats) asked))
  honest_tops [] asked h = tt
  honest_tops (at ∷ ats) [] h = tt
  honest_tops (at ∷ ats) (a ∷ asked) h = of_top (option_and_then top_of a.answer) refl (honest_tops ats asked h.1)
    where
      of_top : (o : Option ShardTop) → option_and_then top_of a.answer ≡ o → AllByRecursion (IsPlainTop r writes) (tops_of (take (length ats) asked))
          → AllByRecursion (IsPlainTop r writes) (tops_of (take (length (at ∷ ats)) (a ∷ asked)))
      of_top None e rest = rw e rest
      of_top (Some top) e rest =
          let here : IsHonestRead r writes at top = h.0 top e in
          let P : ℕ → Type 0 = λ n. top ≡ shard_top (query_of r (Newest n)) top.version (writes n) in
          rw e (subst P (sym (honest_shard at top here)) here.honest, rest)

  -- ---- the keys

  -- those of a shard at a version after the cursor
  abbrev pub keys_after : ShardVersion → List HitKey
  keys_after at = filter (is_after r.after) (keys_at r.ask writes at)

  -- the keys that a shard answers: those that it shows, of all its keys after the cursor
  abbrev pub cut_keys_at : ShardVersion → List HitKey
  cut_keys_at at = take (window r.ask.body) (in_hit_order (keys_after at))

  pub top_keys : (top : ShardTop) → IsPlainTop r writes top → top.keys ≡ cut_keys_at (version_of top)
  top_keys top h = ap (λ (t : ShardTop). t.keys) h

  keys_of_tops : (tops : List ShardTop) → AllByRecursion (IsPlainTop r writes) tops → flat_map (λ top. top.keys) tops ≡ flat_map cut_keys_at (map version_of tops)
  keys_of_tops [] h = refl
  keys_of_tops (top ∷ tops) h =
      let here : top.keys ≡ cut_keys_at (version_of top) = top_keys top h.0 in
      let later : flat_map (λ top. top.keys) tops ≡ flat_map cut_keys_at (map version_of tops) = keys_of_tops tops h.1 in
      λ i. here i ++ later i

  pub winners_are_plain : (tops : List ShardTop) → AllByRecursion (IsPlainTop r writes) tops
      → winners_among r.ask.body tops ≡ winners r.ask.body (filter (is_after r.after) (found_keys r.ask writes (map version_of tops)))
  winners_are_plain tops h =
      let versions : List ShardVersion = map version_of tops in
      ap (λ (l : List HitKey). winners r.ask.body (in_hit_order l)) (keys_of_tops tops h)
      ∙ window_before_merging r.ask.body.from r.ask.body.size keys_after versions
      ∙ ap (λ (l : List HitKey). winners r.ask.body (in_hit_order l)) (sym (filter-flat_map (is_after r.after) (keys_at r.ask writes) versions))
      ∙ ap (winners r.ask.body) (sym (filter-in_hit_order (is_after r.after) (flat_map (keys_at r.ask writes) versions)))
