-- What the shards of an index say at versions within their writes stays when they grow: so do honest answers, and the plain answer.
use Rattle.std.specs.Prelude.{◌≡◌, ℕ, ◌≤◌, ◌==◌, List, [], ◌∷◌, ◌++◌, Bool, ◌&&◌, map, filter, filter_map, length, refl}
use Rattle.std.specs.List.{flat_map}
use Rattle.std.proofs.Common.{sym, ◌∙◌, ap, subst, arith}
use Rattle.std.proofs.lemmas.Bool.{eqb-true}
use Rattle.std.proofs.lemmas.List.{length-append, append-nil, append_assoc, map-append}
use Rattle.std.proofs.lemmas.List.Elements.{filter-append}
use Rattle.std.specs.Str.{bytes_eq}
use Rattle.task_ids.specs.declared.corpus.Corpus.{Corpus}
use Rattle.task_ids.specs.declared.corpus.CorpusLine.{CorpusLine}
use Rattle.task_ids.specs.declared.doc.Doc.{Doc}
use Rattle.task_ids.specs.Placing.{shard_of}
use Rattle.task_events.specs.declared.request.HitKey.{HitKey}
use Rattle.task_events.specs.declared.request.SearchAsk.{SearchAsk}
use Rattle.task_events.specs.declared.request.Request.{Request}
use Rattle.task_events.specs.declared.request.Request.TheVariants as asks
use Rattle.task_events.specs.declared.reply.Reply.{Reply}
use Rattle.task_events.specs.declared.reply.Reply.TheVariants.{Search, Top, Hits, AllFailed, Wrote, Cancelled, Rejected}
use Rattle.task_events.specs.Answers.{ShardVersion, matching_keys, shard_top, hit_at, fetched, found_keys, hit_of}
use Rattle.task_events.specs.Documents.{writes_of}
use Rattle.task_events.specs.HitOrder.{in_hit_order}
use Rattle.search_phase.specs.Growth.{HaveGrown, AreWithin}
use Rattle.search_phase.specs.Searching.{IsHonest}
use Rattle.search_phase.proofs.Growing.{matching_keys-grow, shard_top-grow, fetched-grow, hit_at-grow}
use Rattle.search_phase.proofs.Sorting.{by_test}

-- ---- shards that grow

-- writes that have grown, and have grown again
pub grown_twice : (first second third : ℕ → List Doc) → HaveGrown first second → HaveGrown second third → HaveGrown first third
grown_twice first second third once again shard =
    let more : List Doc = (once shard).0 in
    let later : List Doc = (again shard).0 in
    (more ++ later, (again shard).1 ∙ ap (λ writes. writes ++ later) (once shard).1 ∙ append_assoc (first shard) more later)

pub not_grown : (writes : ℕ → List Doc) → HaveGrown writes writes
not_grown writes shard = ([], sym (append-nil (writes shard)))

-- the shards of an index grow when lines come to a corpus
pub writes_of-grow : (corpus : Corpus) (more : List CorpusLine) (shards : ℕ) (index : List ℕ)
    → HaveGrown (writes_of corpus shards index) (writes_of (record { lines = corpus.lines ++ more }) shards index)
writes_of-grow corpus more shards index shard = (
  map (λ line. line.doc) (filter own more),
  ap (map (λ line. line.doc)) (filter-append own corpus.lines more) ∙ map-append (λ (line : CorpusLine). line.doc) (filter own corpus.lines) (filter own more),
)
  where
    own : CorpusLine → Bool
    own line = bytes_eq index line.index && (shard_of line.doc.id shards == shard)

module _ (earlier later : ℕ → List Doc) (grown : HaveGrown earlier later) where
  -- what more writes of a shard leave as it was stays
  pub same_later : {X : Type 0} (f : List Doc → X) (shard : ℕ) → ((more : List Doc) → f (earlier shard ++ more) ≡ f (earlier shard)) → f (later shard) ≡ f (earlier shard)
  same_later f shard same = ap f (grown shard).1 ∙ same (grown shard).0

  pub within_later : (shard version : ℕ) → version ≤ length (earlier shard) → version ≤ length (later shard)
  within_later shard version within = omega (arith, within, ap length (grown shard).1, length-append (earlier shard) (grown shard).0)

  pub AreWithin-grow : (versions : List ShardVersion) → AreWithin earlier versions → AreWithin later versions
  AreWithin-grow [] within = tt
  AreWithin-grow (at ∷ versions) within = (within_later at.0 at.1 within.0, AreWithin-grow versions within.1)

  -- ---- honest answers

  pub IsHonest-grow : (request : Request) (reply : Reply) → IsHonest earlier request reply → IsHonest later request reply
  IsHonest-grow (asks.Query ask) (Top top) h = record {
    within = within_later ask.shard top.version h.within;
    says = h.says ∙ sym (same_later (shard_top ask top.version) ask.shard (λ more. shard_top-grow ask top.version (earlier ask.shard) more h.within));
  }
  IsHonest-grow (asks.Fetch ask) (Hits hits) h = record {
    within = within_later ask.shard ask.version h.within;
    says = h.says ∙ sym (same_later (fetched ask) ask.shard (λ more. fetched-grow ask (earlier ask.shard) more h.within));
  }
  IsHonest-grow (asks.Query ask) (Search reply) h = tt
  IsHonest-grow (asks.Query ask) (Hits hits) h = tt
  IsHonest-grow (asks.Query ask) (AllFailed failed) h = tt
  IsHonest-grow (asks.Query ask) (Wrote counts) h = tt
  IsHonest-grow (asks.Query ask) (Cancelled task cancel counts) h = tt
  IsHonest-grow (asks.Query ask) (Rejected node) h = tt
  IsHonest-grow (asks.Fetch ask) (Search reply) h = tt
  IsHonest-grow (asks.Fetch ask) (Top top) h = tt
  IsHonest-grow (asks.Fetch ask) (AllFailed failed) h = tt
  IsHonest-grow (asks.Fetch ask) (Wrote counts) h = tt
  IsHonest-grow (asks.Fetch ask) (Cancelled task cancel counts) h = tt
  IsHonest-grow (asks.Fetch ask) (Rejected node) h = tt
  IsHonest-grow (asks.Search ask) reply h = tt
  IsHonest-grow (asks.Scroll ask) reply h = tt
  IsHonest-grow (asks.Reindex ask) reply h = tt
  IsHonest-grow (asks.Slice ask) reply h = tt
  IsHonest-grow (asks.Bulk ask) reply h = tt
  IsHonest-grow (asks.BulkShard ask) reply h = tt

  -- ---- the plain answer

  keys-grow : (ask : SearchAsk) (versions : List ShardVersion) → AreWithin earlier versions
      → flat_map (λ at. matching_keys ask.body ask.slice at.0 at.1 (later at.0)) versions ≡ flat_map (λ at. matching_keys ask.body ask.slice at.0 at.1 (earlier at.0)) versions
  keys-grow ask [] within = refl
  keys-grow ask (at ∷ versions) within =
      let here : matching_keys ask.body ask.slice at.0 at.1 (later at.0) ≡ matching_keys ask.body ask.slice at.0 at.1 (earlier at.0) =
      same_later (matching_keys ask.body ask.slice at.0 at.1) at.0 (λ more. matching_keys-grow ask.body ask.slice at.0 at.1 (earlier at.0) more within.0) in
      let rest = keys-grow ask versions within.1 in
      λ i. here i ++ rest i

  pub found_keys-grow : (ask : SearchAsk) (versions : List ShardVersion) → AreWithin earlier versions → found_keys ask later versions ≡ found_keys ask earlier versions
  found_keys-grow ask versions within = ap in_hit_order (keys-grow ask versions within)

  pub hit_of-grow : (index : List ℕ) (versions : List ShardVersion) (key : HitKey) → AreWithin earlier versions → hit_of index later versions key ≡ hit_of index earlier versions key
  hit_of-grow index [] key within = refl
  hit_of-grow index (at ∷ versions) key within =
      by_test (key.shard == at.0)
      (λ own. rw own (same_later (λ writes. hit_at index at.1 writes key.place) key.shard
      (λ more. hit_at-grow index at.1 key.place (earlier key.shard) more (subst (λ shard. at.1 ≤ length (earlier shard)) (sym (eqb-true key.shard at.0 own)) within.0))))
      (λ other. rw other (hit_of-grow index versions key within.1))

  -- all rows that match
  pub listed-grow : (ask : SearchAsk) (versions : List ShardVersion) → AreWithin earlier versions
      → filter_map (hit_of ask.index later versions) (found_keys ask later versions) ≡ filter_map (hit_of ask.index earlier versions) (found_keys ask earlier versions)
  listed-grow ask versions within = λ i. filter_map (λ key. hit_of-grow ask.index versions key within i) (found_keys-grow ask versions within i)
