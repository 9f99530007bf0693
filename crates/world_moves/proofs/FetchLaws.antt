-- What a fetch shows of its work.
use Rattle.std.proofs.Common.{◌≡◌, ◌≤◌, ℕ, true, List, [], ◌++◌, length, Option, Some, refl, sym, ap, subst, ◌∙◌, inl, arith, None, length-append}
use Rattle.task_ids.specs.declared.task_id.TaskId.{TaskId}
use Rattle.task_ids.specs.declared.cluster.Cluster.{Cluster}
use Rattle.task_ids.specs.declared.corpus.Corpus.{Corpus}
use Rattle.task_ids.specs.declared.doc.Doc.{Doc}
use Rattle.task_events.specs.declared.request.Request.{Request}
use Rattle.task_events.specs.declared.request.Request.TheVariants as asks
use Rattle.task_events.specs.declared.request.FetchAsk.{FetchAsk}
use Rattle.task_events.specs.declared.reply.Reply.TheVariants.{Hits, Cancelled, Rejected}
use Rattle.task_events.specs.Answers.{fetched}
use Rattle.task_events.specs.declared.reply.Counts.{Counts}
use Rattle.task_events.specs.Kind.{Progress}
use Rattle.task_events.specs.Counting.{are_below}
use Rattle.search_phase.specs.Fetches.{new_fetch}
use Rattle.search_phase.proofs.Runs.{fetch_first}
use Rattle.task_work.specs.declared.work.Work.{Work}
use Rattle.task_work.specs.declared.work.Work.TheVariants as works
use Rattle.task_work.proofs.Growing.{work_grown}
use Rattle.task_work.proofs.Plans.{work_turned}
use Rattle.world_moves.specs.Facts.{none_awaited}
use Rattle.world_moves.specs.FetchRuns.{RunsFetch}
use Rattle.world_moves.specs.Good.{IsGoodReply, IsWithin, Grows, written}
use Rattle.world_moves.proofs.KindLaws.{KindLaws, IsPlain, asks_something}
use Rattle.world_moves.proofs.LookingLaws.{asks_nothing, work_ends, looks_on, no_docs}
use Rattle.world_moves.proofs.PossibleHits.{hits_possible}

module _ (cluster : Cluster) (corpus : Corpus) (ask : FetchAsk) where
  pub fetch_starts : (w : Work) → (works.Fetch (new_fetch ask) None) ≡ w → IsWithin cluster corpus (asks.Fetch ask) → RunsFetch cluster corpus 0 [] ask w
  fetch_starts w is within = subst (RunsFetch cluster corpus 0 [] ask) is (record { here = fetch_first ask (written cluster corpus ask.index ask.shard); found = refl; asks_nothing = refl; within = within.1 ask.version refl })

  pub fetch_rejected : (n : ℕ) → IsGoodReply cluster corpus (asks.Fetch ask) (Rejected n)
  fetch_rejected n = (refl, tt)

  pub fetch_cancelled : (t : TaskId) (c : ℕ) (counts : Counts) → are_below 1 counts ≡ true → IsGoodReply cluster corpus (asks.Fetch ask) (Cancelled t c counts)
  fetch_cancelled t c counts low = (low, tt)

-- it stays where more is written
module _ (cluster : Cluster) (corpus later : Corpus) (grows : Grows cluster corpus later) (t : TaskId) (p : Progress) (awaited : List (Option ℕ)) where
  pub fetch_grows : (ask : FetchAsk) (w : Work) → RunsFetch cluster corpus p.turns awaited ask w → RunsFetch cluster later p.turns awaited ask w
  fetch_grows ask (works.Fetch f hits) x =
      let here : f.ask.version ≤ length mine = subst (λ (k : FetchAsk). k.version ≤ length mine) (sym x.here.ask_is) x.within in
      let grown = work_grown t cluster.shards p mine more.0 (asks.Fetch ask) (works.Fetch f hits) here (x.here, x.found) in
      rw more.1 (record { here = grown.0; found = grown.1; asks_nothing = x.asks_nothing; within = omega (arith, x.within, length-append mine more.0) })
    where
      mine : List Doc
      mine = written cluster corpus ask.index ask.shard

      more : (docs : List Doc) × (written cluster later ask.index ask.shard ≡ written cluster corpus ask.index ask.shard ++ docs)
      more = grows ask.index ask.shard
  fetch_grows ask _ x = absurd x

module _ (cluster : Cluster) (corpus : Corpus) (t : TaskId) (p : Progress) (requests : List Request) (awaited : List (Option ℕ)) where
  pub fetch_laws : (ask : FetchAsk) (w : Work) → RunsFetch cluster corpus p.turns awaited ask w → KindLaws cluster corpus t p requests awaited (Some (asks.Fetch ask)) w
  fetch_laws ask (works.Fetch f hits) x = record {
    at = (x.here, x.found);
    low = refl;
    place = ap (λ k. Some (k.index, k.shard)) x.here.ask_is;
    docs = sym (no_docs p.turns);
    full = inl refl;
    in_shard = λ place at. tt;
    turns_there = λ writes now e. refl;
    turned = λ now later next grows same.
        let so = work_turned t cluster.shards p mine (asks.Fetch ask) (works.Fetch f hits) _ _ refl same (x.here, x.found) in
        let more = grows ask.index ask.shard in
        let low = x.within in
        record { here = so.0; found = so.1; asks_nothing = x.asks_nothing; within = rw more.1 (omega (arith, low, length-append mine more.0)) };
    asks = λ request now plan. absurd (asks_nothing _ _ request (plan mine (x.here.on, x.found)));
    takes_answer = λ i r reply now there unanswered good. absurd (asks_something awaited i unanswered x.asks_nothing);
    moves = λ few writes now none. looks_on _ _;
    none_left = λ writes now end e. ap none_awaited x.asks_nothing;
    plain = λ writes now end e. subst IsPlain (sym (work_ends _ (Hits (fetched f.ask writes)) end e)) (refl, refl);
    ends_well = λ few now end e.
        let hits_are : fetched f.ask mine ≡ fetched ask mine = ap (λ k. fetched k mine) x.here.ask_is in
        subst (IsGoodReply cluster corpus (asks.Fetch ask)) (sym (work_ends _ _ end e ∙ ap Hits hits_are)) (hits_possible ask mine, record { within = x.within; says = refl });
  }
    where
      mine : List Doc
      mine = written cluster corpus ask.index ask.shard
  fetch_laws ask _ x = absurd x
