-- Work over a shard that shows the same from where the work reads it is the same work.
use Rattle.std.proofs.Common.{◌≡◌, ℕ, ◌+◌, ◌≤◌, Bool, ◌*◌, not, List, [], ◌∷◌, ◌++◌, length, take, Option, Some, None, option_map, refl, sym, ap, subst, ◌∙◌, arith}
use Rattle.std.specs.Prelude.{filter_map, unwrap_or, ◌==◌, if◌then◌else◌}
use Rattle.std.specs.Map.{lookup}
use Rattle.std.proofs.lemmas.List.{length-append}
use Rattle.task_ids.specs.declared.doc.Doc.{Doc}
use Rattle.task_ids.specs.Rows.{Row, rows_at}
use Rattle.task_events.specs.declared.request.WriteNote.{WriteNote}
use Rattle.task_events.specs.declared.reply.Hit.{Hit}
use Rattle.task_events.specs.declared.reply.Reply.TheVariants.{Hits}
use Rattle.task_events.specs.Answers.{shard_top, hit_at}
use Rattle.task_events.specs.FetchTask.{fetch_step}
use Rattle.task_events.specs.Looking.{rows_per_turn, is_done, work_or_end}
use Rattle.task_events.specs.QueryTask.{query_step, rows_for}
use Rattle.task_events.specs.Written.{note_of, notes_of, notes_at}
use Rattle.shard_docs.specs.Shown.{ShowsFrom}
use Rattle.shard_docs.proofs.ShownMore.{same_alive, shows_more}
use Rattle.search_phase.specs.Queries.{QueryState, IsQueried, version_at, queried}
use Rattle.search_phase.specs.Fetches.{FetchState, has_fetched, fetched_in}
use Rattle.search_phase.proofs.Runs.{queried_version}
use Rattle.reindex.specs.Writing.{next_docs, with_notes}
use Rattle.task_work.specs.declared.work.Work.{Work}
use Rattle.task_work.specs.declared.work.Work.TheVariants.{Search, Query, Fetch, Scroll, Reindex, Slice, Bulk, BulkShard}
use Rattle.task_work.specs.Reads.{WorkReadsFrom}
use Rattle.task_work.specs.Works.{IsWorkOn, found_top, found_hits, with_turn, query_after, fetch_after, work_notes, place_of, docs_next}

-- the notes of documents that are written
notes_same : (from : ℕ) (index : List ℕ) (shard : ℕ) (docs own shown : List Doc) → ShowsFrom from own shown → from ≤ length own → notes_of index shard shown docs ≡ notes_of index shard own docs
notes_same from index shard [] own shown shows low = refl
notes_same from index shard (doc ∷ docs) own shown shows low =
    let many = length-append own (doc ∷ []) in
    ap (λ alive. note alive ∷ (notes_of index shard (shown ++ doc ∷ []) docs)) (same_alive from own shown shows low doc.id)
    ∙ ap (λ notes. note_of index shard own doc ∷ notes) (notes_same from index shard docs (own ++ doc ∷ []) (shown ++ doc ∷ []) (shows_more from own shown shows low (doc ∷ [])) (omega (arith, low, many)))
  where
    note : Bool → WriteNote
    note alive = record { index = index; shard = shard; created = not alive; id = doc.id }

-- work reads from a version on what its query reads from there on
abbrev QueryReads : ℕ → QueryState → Type 0
QueryReads from q = (version : ℕ) → q.version ≡ Some version → from ≤ version

-- what a fetch finds at a place among the rows that are alive
abbrev hit_in : List ℕ → List Row → ℕ → Option Hit
hit_in index rows place = option_map (λ doc. record { index = index; doc = doc; place = place }) (lookup (λ other. place == other) rows)

module _ (from : ℕ) (own shown : List Doc) (shows : ShowsFrom from own shown) (low : from ≤ length own) where
  -- ---- a query

  version_same : (q : QueryState) → version_at q shown ≡ version_at q own
  version_same q = ap (unwrap_or q.version) shows.as_many

  version_above : (q : QueryState) → QueryReads from q → from ≤ version_at q own
  version_above q reads = of_version q.version reads
    where
      of_version : (o : Option ℕ) → ((version : ℕ) → o ≡ Some version → from ≤ version) → from ≤ unwrap_or o (length own)
      of_version None reads = low
      of_version (Some version) reads = reads version refl

  module _ (q : QueryState) (reads : QueryReads from q) where
    abbrev reading : ℕ
    reading = version_at q own

    rows : rows_at reading shown ≡ rows_at reading own
    rows = shows.rows reading (version_above q reads)

    top_same : found_top q shown ≡ found_top q own
    top_same = ap (λ v. if is_done q.turns (length (rows_for q.ask v shown)) then Some (shard_top q.ask v shown) else None) (version_same q) ∙ rw rows refl

    step_same : query_step q.ask (version_at q shown) q.turns shown ≡ query_step q.ask reading q.turns own
    step_same = ap (λ v. query_step q.ask v q.turns shown) (version_same q) ∙ rw rows refl

    queried_same : (turns : ℕ) → queried q.ask (version_at q shown) turns shown ≡ queried q.ask reading turns own
    queried_same turns = ap (λ v. queried q.ask v turns shown) (version_same q) ∙ rw rows refl

    is_queried : IsQueried q own → IsQueried q shown
    is_queried is = record {
      version_asked = is.version_asked;
      version_fixed = is.version_fixed;
      looked = ap (λ v. record q { version = Some v }) (version_same q) ∙ is.looked ∙ sym (queried_same q.turns);
    }

  -- after a turn it reads the same version
  reads_then : (q : QueryState) (turns : ℕ) → QueryReads from q → QueryReads from (queried q.ask (version_at q own) turns own)
  reads_then q turns reads version e =
      let same : Some (version_at q own) ≡ Some version = sym (queried_version q.ask (version_at q own) turns own) ∙ e in
      let is : version_at q own ≡ version = cc in
      subst (λ v. from ≤ v) is (version_above q reads)

  -- ---- a fetch

  module _ (f : FetchState) (reads : from ≤ f.ask.version) where
    looked_up : rows_at f.ask.version shown ≡ rows_at f.ask.version own
    looked_up = shows.rows f.ask.version reads

    hits_at : (places : List ℕ) → filter_map (hit_at f.ask.index f.ask.version shown) places ≡ filter_map (hit_at f.ask.index f.ask.version own) places
    hits_at places = ap (λ rows. filter_map (hit_in f.ask.index rows) places) looked_up

    hits_same : found_hits f shown ≡ found_hits f own
    hits_same = ap (λ hits. if has_fetched f then Some hits else None) (hits_at f.ask.places)

    fetch_same : fetch_step f.ask f.turns shown ≡ fetch_step f.ask f.turns own
    fetch_same = ap (λ hits. work_or_end (is_done f.turns (length f.ask.places)) (Hits hits)) (hits_at f.ask.places)

    fetched_same : (turns : ℕ) → fetched_in f.ask turns shown ≡ fetched_in f.ask turns own
    fetched_same turns = ap (λ hits. record { ask = f.ask; turns = turns; hits = if is_done turns (length f.ask.places) then [] else hits }) (hits_at (take (turns * rows_per_turn) f.ask.places))

  -- ---- any work

  pub works_on_shown : (work : Work) → WorkReadsFrom from work → IsWorkOn work own → IsWorkOn work shown
  works_on_shown (Search s) reads on = on
  works_on_shown (Query q top) reads on = (is_queried q reads on.0, on.1 ∙ sym (top_same q reads))
  works_on_shown (Fetch f hits) reads on = (on.0 ∙ sym (fetched_same f reads f.turns), on.1 ∙ sym (hits_same f reads))
  works_on_shown (Scroll s) reads on = on
  works_on_shown (Reindex r) reads on = on
  works_on_shown (Slice s) reads on = on
  works_on_shown (Bulk b) reads on = on
  works_on_shown (BulkShard w) reads on = on

  pub notes_shown : (work : Work) → work_notes work shown ≡ work_notes work own
  notes_shown work = of_place (place_of work)
    where
      of_place : (o : Option (List ℕ × ℕ)) → notes_at o shown (docs_next work) ≡ notes_at o own (docs_next work)
      of_place None = refl
      of_place (Some place) = notes_same from place.0 place.1 (docs_next work) own shown shows low

  pub turn_shown : (work : Work) → WorkReadsFrom from work → with_turn work shown ≡ with_turn work own
  turn_shown (Search s) reads = refl
  turn_shown (Query q top) reads =
      ap (λ r. query_after r shown) (queried_same q reads (q.turns + 1))
      ∙ ap (Query (queried q.ask (version_at q own) (q.turns + 1) own)) (top_same (queried q.ask (version_at q own) (q.turns + 1) own) (reads_then q (q.turns + 1) reads))
  turn_shown (Fetch f hits) reads =
      ap (λ g. fetch_after g shown) (fetched_same f reads (f.turns + 1)) ∙ ap (Fetch (fetched_in f.ask (f.turns + 1) own)) (hits_same (fetched_in f.ask (f.turns + 1) own) reads)
  turn_shown (Scroll s) reads = refl
  turn_shown (Reindex r) reads = refl
  turn_shown (Slice s) reads = refl
  turn_shown (Bulk b) reads = refl
  turn_shown (BulkShard w) reads = ap (λ notes. BulkShard (with_notes w notes)) (notes_same from w.index w.shard (next_docs w) own shown shows low)
