-- What a bulk shows of its work: it asks for its parts in order, and ends once all have answered.
use Rattle.std.proofs.Common.{◌≡◌, ℕ, ◌+◌, ◌^◌, true, List, [], ◌∷◌, ◌++◌, length, Option, Some, None, refl, sym, ap, subst, ◌∙◌, inl, arith}
use Rattle.std.specs.Prelude.{slice_get}
use Rattle.task_ids.specs.declared.cluster.Cluster.{Cluster}
use Rattle.task_ids.specs.declared.corpus.Corpus.{Corpus}
use Rattle.task_ids.specs.declared.task_id.TaskId.{TaskId}
use Rattle.task_events.specs.declared.context.Context.{Context}
use Rattle.task_events.specs.declared.reply.Counts.{Counts}
use Rattle.task_events.specs.declared.reply.Reply.TheVariants.{Wrote, Cancelled, Rejected}
use Rattle.task_events.specs.declared.request.BulkAsk.{BulkAsk}
use Rattle.task_events.specs.declared.request.BulkShardAsk.{BulkShardAsk}
use Rattle.task_events.specs.declared.request.Request.{Request}
use Rattle.task_events.specs.declared.request.Request.TheVariants as asks
use Rattle.task_events.specs.declared.step.Do.TheVariants.{AskNext}
use Rattle.task_events.specs.BulkTask.{parts_of}
use Rattle.task_events.specs.Counting.{are_below}
use Rattle.task_events.specs.Kind.{Progress}
use Rattle.reindex.specs.BulkRuns.{IsBulkAt}
use Rattle.reindex.specs.Bulks.{Bulking, new_bulk, bulk_next, bulk_with_ask, bulk_takes, bulk_with_answer}
use Rattle.reindex.specs.OpenAsks.{is_settled}
use Rattle.reindex.proofs.BulkRuns.{bulk_first, bulk_few, bulk_low, bulk_settled, bulk_asked, bulk_may_ask_when, bulk_may_take, bulk_answered, bulk_takes_after_ask, bulk_takes_after_answer}
use Rattle.task_work.specs.declared.work.Work.{Work}
use Rattle.task_work.specs.declared.work.Work.TheVariants as works
use Rattle.task_work.specs.Works.{IsNewWork}
use Rattle.world_moves.specs.BulkRuns.{RunsBulk}
use Rattle.world_moves.specs.Facts.{none_awaited}
use Rattle.world_moves.specs.Good.{IsGoodReply, IsWithin, IsPartWithin}
use Rattle.world_moves.proofs.AsksKept.{knows_none, awaited_long, knows_more, knows_answer}
use Rattle.task_ids.proofs.Each.{all_here}
use Rattle.world_moves.proofs.KindLaws.{KindLaws, IsPlain}
use Rattle.world_moves.proofs.LookingLaws.{no_docs}
use Rattle.world_moves.proofs.NoneAwaited.{all_answered}
use Rattle.world_moves.proofs.PartsWithin.{all_within, map_at}
use Rattle.world_moves.proofs.ReindexLaws.{asks_some}
use Rattle.world_moves.proofs.SearchLaws.{all_known, ends_or_asks, no_turn, search_ends}

one_work : (b : Bulking) (w : Work) → Some (works.Bulk b) ≡ Some w → works.Bulk b ≡ w
one_work b w e = cc

module _ (cluster : Cluster) (corpus : Corpus) (ask : BulkAsk) where
  pub bulk_starts : (t : TaskId) (page : Option Context) (w : Work) → IsNewWork t (asks.Bulk ask) cluster.shards page w → IsWithin cluster corpus (asks.Bulk ask) → RunsBulk cluster.shards [] [] [] ask w
  bulk_starts t page w new few = subst (RunsBulk cluster.shards [] [] [] ask) (one_work _ w new) (record { here = bulk_first ask cluster.shards; few = few; knows = knows_none cluster.shards (bulk_takes (new_bulk ask cluster.shards)) })

  pub bulk_rejected : (n : ℕ) → IsGoodReply cluster corpus (asks.Bulk ask) (Rejected n)
  bulk_rejected n = (refl, tt)

  pub bulk_cancelled : (t : TaskId) (c : ℕ) (counts : Counts) → are_below (2 ^ 22) counts ≡ true → IsGoodReply cluster corpus (asks.Bulk ask) (Cancelled t c counts)
  bulk_cancelled t c counts low = (low, tt)

module _ (cluster : Cluster) (corpus : Corpus) (t : TaskId) (p : Progress) (requests : List Request) (awaited : List (Option ℕ)) where
  pub bulk_laws : (ask : BulkAsk) (w : Work) → RunsBulk cluster.shards p.asked requests awaited ask w → KindLaws cluster corpus t p requests awaited (Some (asks.Bulk ask)) w
  bulk_laws ask (works.Bulk b) x = record {
    at = x.here;
    low = low;
    place = refl;
    docs = sym (no_docs p.turns);
    full = inl refl;
    in_shard = λ place at. tt;
    turns_there = λ writes now e. absurd (no_turn _ _ _ e);
    turned = λ now later next grows same. absurd (no_turn _ _ _ next);
    asks = λ request now plan. let part = its_part request (plan [] tt) in record {
      few = let made = bulk_few x.here in let most = cluster.shards_in_range.1 in omega (arith, long, made, most);
      may = bulk_may_ask_when b request (plan [] tt);
      after = λ n. record {
        here = subst (λ k. IsBulkAt ask cluster.shards (p.asked ++ record { ask = k + 1; answer = None } ∷ []) (bulk_with_ask b (k + 1))) (sym long) (bulk_asked x.here request (plan [] tt));
        few = x.few;
        knows = knows_more cluster.shards (bulk_takes (bulk_with_ask b (length awaited + 1))) request n (bulk_takes b) p.asked requests awaited (length awaited + 1) x.knows (λ j reply took. bulk_takes_after_ask b j (length awaited + 1) reply took)
            (λ reply can.
            let number : 1 + length p.asked ≡ length p.asked + 1 = omega arith in
            ap (λ k. bulk_takes (bulk_with_ask b (k + 1)) (1 + length p.asked) reply) long ∙ ap (λ k. bulk_takes (bulk_with_ask b (length p.asked + 1)) k reply) number
            ∙ bulk_may_take x.here request (plan [] tt) reply can);
      };
      within = subst (IsWithin cluster corpus) (sym part.1) part.2;
      owns = rw part.1 tt;
    };
    takes_answer = λ i q reply now there unanswered good. let took = x.knows.takes_each i q reply there unanswered good.0 in record {
      takes = took;
      after = λ answer known. rw known (record {
        here = bulk_answered x.here (1 + i) reply took;
        few = x.few;
        knows = knows_answer cluster.shards (bulk_takes b) (bulk_takes (bulk_with_answer b (1 + i) reply)) p.asked requests awaited x.knows x.here.numbered i reply (λ j other takes apart. bulk_takes_after_answer b j (1 + i) other reply apart takes);
      });
    };
    moves = λ few writes now none. ends_or_asks _ _ _ (settled none);
    none_left = λ writes now end e. all_answered p.asked awaited x.knows.answered (bulk_settled x.here ∙ (search_ends _ _ _ end e).0);
    plain = λ writes now end e. subst IsPlain (sym (search_ends _ _ (Wrote b.counts) end e).1) (refl, refl);
    ends_well = λ few now end e. subst (IsGoodReply cluster corpus (asks.Bulk ask)) (sym (search_ends _ _ (Wrote b.counts) end e).1) (low, tt);
  }
    where
      long : length awaited ≡ length p.asked
      long = awaited_long p.asked awaited x.knows.answered

      low : are_below (2 ^ 22) b.counts ≡ true
      low = bulk_low x.here cluster.shards_in_range.1

      settled : none_awaited awaited ≡ true → is_settled b.open_asks ≡ true
      settled none = sym (bulk_settled x.here) ∙ all_known p.asked awaited x.knows.answered none

      its_part : (r : Request) → bulk_next b ≡ AskNext r → (part : BulkShardAsk) × (r ≡ asks.BulkShard part) × IsPartWithin cluster part
      its_part r e =
          let found = map_at asks.BulkShard b.parts b.made r (asks_some _ _ _ r e) in
          (found.0, found.2, all_here (IsPartWithin cluster) (parts_of ask cluster.shards) b.made found.0 (all_within cluster ask x.few) (ap (λ parts. slice_get parts b.made) (sym x.here.parts_are) ∙ found.1))
  bulk_laws ask _ x = absurd x
