-- What the part of a bulk in a shard shows of its work: it writes its documents there by turns, in order.
use Rattle.std.proofs.Common.{◌≡◌, ℕ, zero, suc, ◌*◌, ◌^◌, true, List, [], ◌∷◌, take, Option, Some, refl, sym, ap, subst, ◌∙◌, arith}
use Rattle.std.specs.Prelude.{drop}
use Rattle.std.specs.List.{AllByRecursion}
use Rattle.task_ids.specs.declared.cluster.Cluster.{Cluster}
use Rattle.task_ids.specs.declared.corpus.Corpus.{Corpus}
use Rattle.task_ids.specs.declared.doc.Doc.{Doc}
use Rattle.task_ids.specs.declared.task_id.TaskId.{TaskId}
use Rattle.task_ids.specs.Placing.{shard_of}
use Rattle.task_events.specs.declared.context.Context.{Context}
use Rattle.task_events.specs.declared.reply.Counts.{Counts}
use Rattle.task_events.specs.declared.reply.Reply.TheVariants.{Wrote, Cancelled, Rejected}
use Rattle.task_events.specs.declared.request.BulkShardAsk.{BulkShardAsk}
use Rattle.task_events.specs.declared.request.Request.{Request}
use Rattle.task_events.specs.declared.request.Request.TheVariants as asks
use Rattle.task_events.specs.Counting.{are_below}
use Rattle.task_events.specs.Kind.{Progress}
use Rattle.task_events.specs.Looking.{rows_per_turn}
use Rattle.reindex.specs.Writing.{Writing, next_docs, writing_counts}
use Rattle.reindex.proofs.WritingRuns.{writing_first, writing_docs, writing_full, writing_low}
use Rattle.task_work.specs.declared.work.Work.{Work}
use Rattle.task_work.specs.declared.work.Work.TheVariants as works
use Rattle.task_work.specs.Plans.{no_progress}
use Rattle.task_work.specs.Works.{IsNewWork}
use Rattle.task_work.proofs.Plans.{work_turned}
use Rattle.world_moves.specs.BulkRuns.{RunsPart}
use Rattle.world_moves.specs.Facts.{none_awaited}
use Rattle.world_moves.specs.Good.{IsGoodReply, IsWithin, written}
use Rattle.world_moves.proofs.KindLaws.{KindLaws, IsPlain, asks_something}
use Rattle.world_moves.proofs.LookingLaws.{asks_nothing, work_ends, looks_on}

one_work : (b : Writing) (w : Work) → Some (works.BulkShard b) ≡ Some w → works.BulkShard b ≡ w
one_work b w e = cc

-- the documents of a turn are of those of the request
all_after : (P : Doc → Type 0) (n : ℕ) (docs : List Doc) → AllByRecursion P docs → AllByRecursion P (drop n docs)
all_after P zero docs all = all
all_after P (suc n) [] all = tt
all_after P (suc n) (doc ∷ docs) all = all_after P n docs all.1

all_before : (P : Doc → Type 0) (n : ℕ) (docs : List Doc) → AllByRecursion P docs → AllByRecursion P (take n docs)
all_before P zero docs all = tt
all_before P (suc n) [] all = tt
all_before P (suc n) (doc ∷ docs) all = (all.0, all_before P n docs all.1)

module _ (cluster : Cluster) (corpus : Corpus) (ask : BulkShardAsk) where
  pub part_starts : (t : TaskId) (page shown : Option Context) (w : Work) → IsNewWork t (asks.BulkShard ask) cluster.shards page w → IsWithin cluster corpus (asks.BulkShard ask) → RunsPart cluster (no_progress shown) [] ask w
  part_starts t page shown w new within = subst (RunsPart cluster (no_progress shown) [] ask) (one_work _ w new) (record { here = writing_first ask; asks_nothing = refl; within = within })

  pub part_rejected : (n : ℕ) → IsGoodReply cluster corpus (asks.BulkShard ask) (Rejected n)
  part_rejected n = (refl, tt)

  pub part_cancelled : (t : TaskId) (c : ℕ) (counts : Counts) → are_below (2 ^ 18) counts ≡ true → IsGoodReply cluster corpus (asks.BulkShard ask) (Cancelled t c counts)
  part_cancelled t c counts low = (low, tt)

module _ (cluster : Cluster) (corpus : Corpus) (t : TaskId) (p : Progress) (requests : List Request) (awaited : List (Option ℕ)) where
  pub part_laws : (ask : BulkShardAsk) (w : Work) → RunsPart cluster p awaited ask w → KindLaws cluster corpus t p requests awaited (Some (asks.BulkShard ask)) w
  part_laws ask (works.BulkShard w) x = record {
    at = x.here;
    low = low;
    place = λ i. Some (x.here.index_is i, x.here.shard_is i);
    docs = writing_docs x.here;
    full = writing_full x.here;
    in_shard = in_shard;
    turns_there = λ writes now e. refl;
    turned = λ now later next grows same. record { here = work_turned t cluster.shards p (written cluster corpus ask.dest ask.shard) (asks.BulkShard ask) (works.BulkShard w) _ _ refl same x.here; asks_nothing = x.asks_nothing; within = x.within };
    asks = λ request now plan. absurd (asks_nothing _ _ request (plan [] tt));
    takes_answer = λ i r reply now there unanswered good. absurd (asks_something awaited i unanswered x.asks_nothing);
    moves = λ few writes now none. looks_on _ _;
    none_left = λ writes now end e. ap none_awaited x.asks_nothing;
    plain = λ writes now end e. subst IsPlain (sym (work_ends _ (Wrote (writing_counts w)) end e)) (refl, refl);
    ends_well = λ few now end e. subst (IsGoodReply cluster corpus (asks.BulkShard ask)) (sym (work_ends _ (Wrote (writing_counts w)) end e)) (low, tt);
  }
    where
      low : are_below (2 ^ 18) (writing_counts w) ≡ true
      low = let few = x.within.few in writing_low x.here (omega (arith, few))

      in_shard : (place : List ℕ × ℕ) → Some (w.index, w.shard) ≡ Some place → AllByRecursion (λ doc. shard_of doc.id cluster.shards ≡ place.1) (next_docs w)
      in_shard place at =
          let same : w.shard ≡ place.1 = (let both : (w.index, w.shard) ≡ place = cc in ap (λ (q : List ℕ × ℕ). q.1) both) in
          subst (λ k. AllByRecursion (λ doc. shard_of doc.id cluster.shards ≡ k) (next_docs w)) (sym x.here.shard_is ∙ same)
          (subst (AllByRecursion (λ doc. shard_of doc.id cluster.shards ≡ ask.shard)) (sym (writing_docs x.here))
          (all_before (λ doc. shard_of doc.id cluster.shards ≡ ask.shard) rows_per_turn (drop (p.turns * rows_per_turn) ask.docs) (all_after (λ doc. shard_of doc.id cluster.shards ≡ ask.shard) (p.turns * rows_per_turn) ask.docs x.within.in_shard)))
  part_laws ask _ x = absurd x
