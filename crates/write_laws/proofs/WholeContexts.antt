-- A search of which no shard failed keeps each shard of its index.
use Rattle.std.proofs.Common.{◌≡◌, ◌≢◌, ◌⊎◌, inl, inr, ℕ, Bool, true, false, cond, not, ◌||◌, List, [], ◌∷◌, map, filter, filter_map, Option, Some, None, is_some, refl, sym, ap, subst, ◌∙◌}
use Rattle.std.specs.List.{range_with_len}
use Rattle.task_ids.specs.declared.cluster.Cluster.{Cluster}
use Rattle.task_ids.specs.declared.corpus.Corpus.{Corpus}
use Rattle.task_ids.specs.declared.doc.Doc.{Doc}
use Rattle.task_ids.specs.declared.task_id.TaskId.{TaskId}
use Rattle.task_events.specs.declared.context.Context.{Context}
use Rattle.task_events.specs.declared.event.Event.{Event}
use Rattle.task_events.specs.declared.event.Event.TheVariants.{End, Put, Refuse, Root}
use Rattle.task_events.specs.declared.reading.ShardRead.TheVariants.{Newest}
use Rattle.task_events.specs.declared.reply.Counts.{Counts}
use Rattle.task_events.specs.declared.reply.FailedShard.{FailedShard}
use Rattle.task_events.specs.declared.reply.Reply.TheVariants.{AllFailed, Search}
use Rattle.task_events.specs.declared.reply.SearchReply.{SearchReply}
use Rattle.task_events.specs.declared.reply.ShardCount.{ShardCount}
use Rattle.task_events.specs.declared.reply.ShardTop.{ShardTop}
use Rattle.task_events.specs.declared.request.Request.TheVariants as asks
use Rattle.task_events.specs.declared.request.SearchAsk.{SearchAsk}
use Rattle.task_events.specs.Bans.{mark_of}
use Rattle.task_events.specs.Contexts.{page_of}
use Rattle.task_events.specs.Documents.{writes_of}
use Rattle.task_events.specs.Lawful.{Lawful}
use Rattle.task_events.specs.Readings.{search_reading, shard_read}
use Rattle.task_events.specs.Requests.{request_of}
use Rattle.task_events.specs.Same.{same_task}
use Rattle.task_events.specs.ShardOutcomes.{answered_shards, count_found, failed_shards, fetch_failed, found_in, shard_failed}
use Rattle.task_events.specs.Steps.{counted}
use Rattle.task_events.specs.Tasks.{reply_of}
use Rattle.script_lang.specs.declared.command.Script.{Script}
use Rattle.command_roots.specs.Roots.{scripted}
use Rattle.task_laws.proofs.Same.{same_task_tells}
use Rattle.world_moves.specs.Good.{so_far}
use Rattle.world_moves.specs.Plain.{AnswersPlainly, EndsPlainly, IsPlainReply}
use Rattle.task_laws.proofs.Asks.{ask_facts}
use Rattle.world_moves.proofs.OwnTasks.{ended_apart, fresh_ended, replied_ended}

-- ---- the reply of a search is the plain answer at its end

module _ (cluster : Cluster) (corpus : Corpus) (script : Script) (id : TaskId) (ask : SearchAsk) (found : SearchReply) where
  -- what happened before its end, and the plain answer by that
  abbrev pub IsPlainAtEnd : Type 0
  IsPlainAtEnd = (past : List Event) × IsPlainReply cluster (so_far corpus script) id (search_reading id ask cluster.shards) past (Search found)

  of_mark : (mark : Option ℕ) (page : Option Context) (counts : Counts) (past : List Event) → EndsPlainly cluster (so_far corpus script) id page mark counts (Some (asks.Search ask)) past (Search found) → IsPlainAtEnd
  of_mark (Some c) page counts past plain = absurd (cc)
  of_mark None page counts past plain = (past, plain)

  pub plain_at_end : (h : List Event) → Lawful cluster h → AnswersPlainly cluster corpus script h → reply_of id h ≡ Some (Search found) → request_of (scripted script) id h ≡ Some (asks.Search ask) → IsPlainAtEnd
  plain_at_end [] l plain told asked = absurd (cc)
  plain_at_end (Root k u ∷ h) l plain told asked = let apart = ended_apart id u h (replied_ended id h (Search found) told) (fresh_ended cluster (scripted script) h (ask_facts cluster h l.1) u l.0.takes.next) in plain_at_end h l.1 plain told (rw apart at asked)
  plain_at_end (Put u q j ∷ h) l plain told asked = let apart = ended_apart id u h (replied_ended id h (Search found) told) (fresh_ended cluster (scripted script) h (ask_facts cluster h l.1) u l.0.takes.next) in plain_at_end h l.1 plain told (rw apart at asked)
  plain_at_end (Refuse u c ∷ h) l plain told asked = by_case (same_task_tells id u) (λ was. plain_at_end h l.1 plain was asked)
    where
      by_case : ((same_task id u ≡ true) × (id ≡ u)) ⊎ ((same_task id u ≡ false) × (id ≢ u)) → (reply_of id h ≡ Some (Search found) → IsPlainAtEnd) → IsPlainAtEnd
      by_case (inl (is_one, same)) before = absurd (let f = rw is_one at told in cc)
      by_case (inr (differs, apart)) before = before (rw differs at told)
  plain_at_end (End u reply ∷ h) l plain told asked = by_case (same_task_tells id u) (λ was. plain_at_end h l.1 plain.1 was asked)
    where
      by_case : ((same_task id u ≡ true) × (id ≡ u)) ⊎ ((same_task id u ≡ false) × (id ≢ u)) → (reply_of id h ≡ Some (Search found) → IsPlainAtEnd) → IsPlainAtEnd
      by_case (inl (is_one, same)) before =
          let replied = rw is_one at told in
          let good : reply ≡ Search found = cc in
          let own : EndsPlainly cluster (so_far corpus script) id (page_of (scripted script) id h) (mark_of id h) (counted cluster corpus (scripted script) id h) (request_of (scripted script) id h) h reply =
          subst (λ x. EndsPlainly cluster (so_far corpus script) x (page_of (scripted script) x h) (mark_of x h) (counted cluster corpus (scripted script) x h) (request_of (scripted script) x h) h reply) (sym same) plain.0 in
          of_mark (mark_of id h) (page_of (scripted script) id h) (counted cluster corpus (scripted script) id h) h
          (subst (λ r. EndsPlainly cluster (so_far corpus script) id (page_of (scripted script) id h) (mark_of id h) (counted cluster corpus (scripted script) id h) (Some (asks.Search ask)) h r) good
          (subst (λ q. EndsPlainly cluster (so_far corpus script) id (page_of (scripted script) id h) (mark_of id h) (counted cluster corpus (scripted script) id h) q h reply) asked own))
      by_case (inr (differs, apart)) before = before (rw differs at told)
  plain_at_end (_ ∷ h) l plain told asked = plain_at_end h l.1 plain told asked

-- ---- its shards

-- a plain answer shows the shards that answered, and those that failed
plain_shows : (b : Bool) (failed : List FailedShard) (x found : SearchReply) → Search found ≡ cond b (AllFailed failed) (Search x) → found ≡ x
plain_shows true failed x found e = absurd (cc)
plain_shows false failed x found e = cc

module _ (ask : SearchAsk) (writes : ℕ → List Doc) (id : TaskId) (past : List Event) where
  answers : (shard : ℕ) → (a : Bool) → (not (is_some (found_in id past shard)) || a) ≡ false → (top : ShardTop) × (found_in id past shard ≡ Some top)
  answers shard a fine = by_top (found_in id past shard) refl fine
    where
      by_top : (o : Option ShardTop) → found_in id past shard ≡ o → (not (is_some o) || a) ≡ false → (top : ShardTop) × (o ≡ Some top)
      by_top None e fine = absurd (cc)
      by_top (Some top) e fine = (top, refl)

  all_answered : (shards : List ℕ) → filter (shard_failed id past) (map shard_read (map Newest shards)) ≡ [] → map (λ (n : ShardCount). n.shard) (filter_map (count_found ask writes id past) (map Newest shards)) ≡ shards
  all_answered [] none = refl
  all_answered (shard ∷ shards) none = by_test (shard_failed id past shard) refl none (all_answered shards)
    where
      by_test : (b : Bool) → shard_failed id past shard ≡ b → cond b (shard ∷ filter (shard_failed id past) (map shard_read (map Newest shards))) (filter (shard_failed id past) (map shard_read (map Newest shards))) ≡ []
          → (filter (shard_failed id past) (map shard_read (map Newest shards)) ≡ [] → map (λ (n : ShardCount). n.shard) (filter_map (count_found ask writes id past) (map Newest shards)) ≡ shards)
          → map (λ (n : ShardCount). n.shard) (filter_map (count_found ask writes id past) (map Newest (shard ∷ shards))) ≡ shard ∷ shards
      by_test true failed rest later = absurd (cc)
      by_test false fine rest later = let top = answers shard (fetch_failed id past shard) fine in rw top.1 (ap (λ xs. shard ∷ xs) (later rest))

module _ (cluster : Cluster) (look : List Event → Corpus) (id : TaskId) (ask : SearchAsk) (found : SearchReply) (past : List Event) (plain : IsPlainReply cluster look id (search_reading id ask cluster.shards) past (Search found)) where
  -- what it shows of shards is what the plain answer shows
  shows : (found.shards ≡ answered_shards (search_reading id ask cluster.shards) (writes_of (look past) cluster.shards ask.index) id past) × (found.failed ≡ failed_shards (search_reading id ask cluster.shards) id past)
  shows = let is = plain_shows _ _ _ found plain.answer in (ap (λ (x : SearchReply). x.shards) is, ap (λ (x : SearchReply). x.failed) is)

  whole_reply : found.failed ≡ [] → map (λ (n : ShardCount). n.shard) found.shards ≡ range_with_len 0 cluster.shards
  whole_reply fine =
      ap (map (λ (n : ShardCount). n.shard)) shows.0
      ∙ all_answered ask (writes_of (look past) cluster.shards ask.index) id past (range_with_len 0 cluster.shards) (sym plain.failed ∙ ap (map (λ (f : FailedShard). f.shard)) (sym shows.1 ∙ fine))

pub keeps_whole : (cluster : Cluster) (corpus : Corpus) (script : Script) (h : List Event) → Lawful cluster h → AnswersPlainly cluster corpus script h → (id : TaskId) (ask : SearchAsk) (found : SearchReply)
    → reply_of id h ≡ Some (Search found) → request_of (scripted script) id h ≡ Some (asks.Search ask) → found.failed ≡ [] → map (λ (n : ShardCount). n.shard) found.shards ≡ range_with_len 0 cluster.shards
keeps_whole cluster corpus script h l plain id ask found told asked fine =
    let end = plain_at_end cluster corpus script id ask found h l plain told asked in
    whole_reply cluster (so_far corpus script) id ask found end.0 end.1 fine
