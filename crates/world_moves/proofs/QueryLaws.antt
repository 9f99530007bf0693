-- What a query shows of its work.
use Rattle.std.proofs.Common.{if◌then◌else◌, ◌≡◌, ◌≤◌, ℕ, ◌+◌, Bool, true, false, List, [], ◌++◌, length, Option, Some, None, refl, sym, ap, subst, ◌∙◌, inl, arith, length-append}
use Rattle.std.specs.Prelude.{unwrap_or, ◌==◌}
use Rattle.std.specs.Option.{option_map_or, option_or}
use Rattle.std.proofs.lemmas.Bool.Decides.{nat_tests}
use Rattle.task_ids.specs.declared.task_id.TaskId.{TaskId}
use Rattle.task_ids.specs.declared.cluster.Cluster.{Cluster}
use Rattle.task_ids.specs.declared.corpus.Corpus.{Corpus}
use Rattle.task_ids.specs.declared.doc.Doc.{Doc}
use Rattle.task_events.specs.declared.request.Request.{Request}
use Rattle.task_events.specs.declared.request.Request.TheVariants as asks
use Rattle.task_events.specs.declared.request.ShardAsk.{ShardAsk}
use Rattle.task_events.specs.declared.reply.Reply.TheVariants.{Top, Cancelled, Rejected}
use Rattle.task_events.specs.Answers.{shard_top}
use Rattle.task_events.specs.Looking.{is_done}
use Rattle.task_events.specs.QueryTask.{rows_for, query_step}
use Rattle.task_events.specs.declared.reply.Counts.{Counts}
use Rattle.task_events.specs.Kind.{Progress}
use Rattle.task_events.specs.Counting.{are_below}
use Rattle.corpus_shards.specs.Placed.{AreFew}
use Rattle.search_phase.specs.Queries.{new_query, version_at}
use Rattle.search_phase.proofs.Runs.{query_first}
use Rattle.task_work.specs.declared.work.Work.{Work}
use Rattle.task_work.specs.declared.work.Work.TheVariants as works
use Rattle.task_work.specs.Reads.{ReadsWithin}
use Rattle.task_work.specs.Works.{with_turn}
use Rattle.task_work.proofs.Growing.{work_grown, fixed_within, within_grown, within_turned}
use Rattle.task_work.proofs.Plans.{work_turned}
use Rattle.world_moves.specs.Facts.{none_awaited}
use Rattle.world_moves.specs.Good.{IsGoodReply, IsWithin, Grows, written}
use Rattle.world_moves.specs.QueryRuns.{RunsQuery}
use Rattle.world_moves.proofs.KindLaws.{KindLaws, IsPlain, asks_something}
use Rattle.world_moves.proofs.LookingLaws.{asks_nothing, work_ends, looks_on, no_docs}
use Rattle.world_moves.proofs.PossibleTops.{tops_possible}

module _ (cluster : Cluster) (corpus : Corpus) (ask : ShardAsk) where
  pub query_starts : (w : Work) → (works.Query (new_query ask) None) ≡ w → IsWithin cluster corpus (asks.Query ask) → RunsQuery cluster corpus None 0 [] ask w
  query_starts w is within = subst (RunsQuery cluster corpus None 0 [] ask) is (record { here = query_first ask (written cluster corpus ask.index ask.shard); found = refl; asks_nothing = refl; within = within.1 })

  pub query_rejected : (n : ℕ) → IsGoodReply cluster corpus (asks.Query ask) (Rejected n)
  query_rejected n = (refl, tt)

  pub query_cancelled : (t : TaskId) (c : ℕ) (counts : Counts) → are_below 1 counts ≡ true → IsGoodReply cluster corpus (asks.Query ask) (Cancelled t c counts)
  query_cancelled t c counts low = (low, tt)

  query_good : AreFew corpus.lines cluster.shards → (v : ℕ) → option_map_or (λ asked. v == asked) ask.version true ≡ true → v ≤ length (written cluster corpus ask.index ask.shard)
      → IsGoodReply cluster corpus (asks.Query ask) (Top (shard_top ask v (written cluster corpus ask.index ask.shard)))
  query_good few v asked within = (tops_possible ask v (written cluster corpus ask.index ask.shard) asked (few ask.index ask.shard), record { within = within; says = refl })

-- it stays where more is written
module _ (cluster : Cluster) (corpus later : Corpus) (grows : Grows cluster corpus later) (t : TaskId) (p : Progress) (awaited : List (Option ℕ)) where
  pub query_grows : (ask : ShardAsk) (w : Work) → RunsQuery cluster corpus p.version p.turns awaited ask w → RunsQuery cluster later p.version p.turns awaited ask w
  query_grows ask (works.Query q top) x =
      let grown = work_grown t cluster.shards p (written cluster corpus ask.index ask.shard) more.0 (asks.Query ask) (works.Query q top) x.within (x.here, x.found) in
      rw more.1 (record { here = grown.0; found = grown.1; asks_nothing = x.asks_nothing; within = within_grown (written cluster corpus ask.index ask.shard) more.0 (works.Query q top) x.within })
    where
      more : (docs : List Doc) × (written cluster later ask.index ask.shard ≡ written cluster corpus ask.index ask.shard ++ docs)
      more = grows ask.index ask.shard
  query_grows ask _ x = absurd x

module _ (cluster : Cluster) (corpus : Corpus) (t : TaskId) (p : Progress) (requests : List Request) (awaited : List (Option ℕ)) where
  pub query_laws : (ask : ShardAsk) (w : Work) → RunsQuery cluster corpus p.version p.turns awaited ask w → KindLaws cluster corpus t p requests awaited (Some (asks.Query ask)) w
  query_laws ask (works.Query q top) x = record {
    at = (x.here, x.found);
    low = refl;
    place = ap (λ k. Some (k.index, k.shard)) x.here.ask_is;
    docs = sym (no_docs p.turns);
    full = inl refl;
    in_shard = λ place at. tt;
    turns_there = λ writes now e. refl;
    turned = λ now later next grows same.
        let so = work_turned t cluster.shards p mine (asks.Query ask) (works.Query q top) _ _ refl same (x.here, x.found) in
        record {
          here = so.0;
          found = so.1;
          asks_nothing = x.asks_nothing;
          within = subst (λ docs. ReadsWithin docs (with_turn (works.Query q top) mine)) (sym same) (within_grown mine [] (with_turn (works.Query q top) mine) (within_turned mine (works.Query q top) x.within));
        };
    asks = λ request now plan. absurd (asks_nothing _ _ request (plan mine (x.here.on, x.found)));
    takes_answer = λ i r reply now there unanswered good. absurd (asks_something awaited i unanswered x.asks_nothing);
    moves = λ few writes now none. looks_on _ _;
    none_left = λ writes now end e. ap none_awaited x.asks_nothing;
    plain = λ writes now end e. subst IsPlain (sym (work_ends _ (Top (shard_top q.ask (version_at q writes) writes)) end e)) (refl, refl);
    ends_well = λ few now end e.
        let top_is : shard_top q.ask (version_at q mine) mine ≡ shard_top ask (version_at q mine) mine = ap (λ k. shard_top k (version_at q mine) mine) x.here.ask_is in
        let asked = asked_version q.version ask.version p.version x.here.version_is in
        subst (IsGoodReply cluster corpus (asks.Query ask)) (sym (work_ends _ _ end e ∙ ap Top top_is)) (query_good cluster corpus ask few (version_at q mine) asked (fixed_within q.version (length mine) x.within));
  }
    where
      mine : List Doc
      mine = written cluster corpus ask.index ask.shard

      asked_version : (fixed o version : Option ℕ) → fixed ≡ option_or o version → option_map_or (λ asked. unwrap_or fixed (length mine) == asked) o true ≡ true
      asked_version fixed None version e = refl
      asked_version fixed (Some a) version e = let same : unwrap_or fixed (length mine) ≡ a = ap (λ x. unwrap_or x (length mine)) e in grind (arith, nat_tests)
  query_laws ask _ x = absurd x
