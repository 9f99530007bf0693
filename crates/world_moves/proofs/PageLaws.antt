-- What a page shows of its work: what a search does, over the context that stood when its task started.
use Rattle.std.proofs.Common.{◌≡◌, ℕ, zero, suc, ◌+◌, Bool, true, false, List, [], ◌∷◌, ◌++◌, length, map, Option, Some, None, refl, sym, ap, subst, ◌∙◌, inl, arith}
use Rattle.std.specs.Prelude.{slice_get, slice_set}
use Rattle.std.proofs.lemmas.List.{length-map}
use Rattle.task_ids.specs.declared.task_id.TaskId.{TaskId}
use Rattle.task_ids.specs.declared.cluster.Cluster.{Cluster}
use Rattle.task_ids.specs.declared.corpus.Corpus.{Corpus}
use Rattle.task_events.specs.declared.context.Context.{Context}
use Rattle.task_events.specs.declared.reading.ShardRead.{ShardRead}
use Rattle.task_events.specs.declared.reading.ShardRead.TheVariants.{Kept}
use Rattle.task_events.specs.declared.request.Request.{Request}
use Rattle.task_events.specs.declared.request.Request.TheVariants as asks
use Rattle.task_events.specs.declared.request.ScrollAsk.{ScrollAsk}
use Rattle.task_events.specs.declared.reply.Reply.TheVariants.{Cancelled, Rejected}
use Rattle.task_events.specs.declared.step.Asked.{Asked}
use Rattle.task_events.specs.Counts.{AreCounts}
use Rattle.task_events.specs.Readings.{Reading, page_reading, shard_read, version_read}
use Rattle.task_events.specs.Steps.{with_answer as asked_with_answer}
use Rattle.task_events.specs.Kind.{Progress}
use Rattle.task_events.specs.Counting.{are_below}
use Rattle.task_events.specs.Kinds.{can_have}
use Rattle.task_events.specs.declared.reply.Counts.{Counts}
use Rattle.task_events.specs.declared.reply.ShardCount.{ShardCount}
use Rattle.search_phase.specs.Searching.{new_search}
use Rattle.search_phase.proofs.Readings.{page_is_reading}
use Rattle.search_phase.proofs.PossibleReply.{page_is_possible}
use Rattle.task_work.specs.declared.work.Work.{Work}
use Rattle.task_work.specs.declared.work.Work.TheVariants as works
use Rattle.task_work.specs.Plans.{IsPageAt}
use Rattle.task_work.specs.Works.{work_with_ask, work_with_answer}
use Rattle.world_moves.specs.Good.{IsGoodReply, IsContextWithin, IsShardWithin, Grows}
use Rattle.world_moves.specs.SearchRuns.{RunsPage}
use Rattle.world_moves.proofs.KindLaws.{KindLaws}
use Rattle.world_moves.proofs.SearchAsks as asking
use Rattle.world_moves.proofs.LookingLaws.{no_docs}
use Rattle.world_moves.proofs.SearchLaws.{starts_so, never_turns, takes_so, answered_so, moves_so, none_left_so, plain_so, possible_so, search_grows}

module _ (cluster : Cluster) (corpus : Corpus) (ask : ScrollAsk) where
  pub page_starts : (new : Bool) (c : Context) → c.id ≡ ask.id → AreCounts c.shards → IsContextWithin cluster corpus c → RunsPage cluster corpus ask.id new (Some c) [] [] [] (works.Scroll (new_search (page_reading c)))
  page_starts new c own counts within =
      let many : length (page_reading c).shards ≡ length c.shards = length-map c.shards Kept in
      let few = within.few in
      (own, starts_so cluster corpus (page_reading c) (page_is_reading c counts) (omega arith) within.shown (kept_within c.shards within.shards))
    where
      kept_within : (counts : List ShardCount) → ((place : ℕ) (n : ShardCount) → slice_get counts place ≡ Some n → IsShardWithin cluster corpus c.ask.index n.shard (Some n.version)) → (place : ℕ) (at : ShardRead) → slice_get (map Kept counts) place ≡ Some at → IsShardWithin cluster corpus c.ask.index (shard_read at) (version_read at)
      kept_within [] each place at is = absurd (cc)
      kept_within (m ∷ counts) each zero at is = subst (λ x. IsShardWithin cluster corpus c.ask.index (shard_read x) (version_read x)) (let same : Kept m ≡ at = cc in same) (each zero m refl)
      kept_within (m ∷ counts) each (suc place) at is = kept_within counts (λ k x e. each (suc k) x e) place at is

  pub page_rejected : (n : ℕ) → IsGoodReply cluster corpus (asks.Scroll ask) (Rejected n)
  page_rejected n = (refl, tt)

  pub page_cancelled : (t : TaskId) (c : ℕ) (counts : Counts) → are_below 1 counts ≡ true → IsGoodReply cluster corpus (asks.Scroll ask) (Cancelled t c counts)
  page_cancelled t c counts low = (low, tt)

-- it stays where more is written
module _ (cluster : Cluster) (corpus later : Corpus) (grows : Grows cluster corpus later) (id : TaskId) (new : Bool) (asked : List Asked) (requests : List Request) (awaited : List (Option ℕ)) where
  pub page_grows : (page : Option Context) (w : Work) → RunsPage cluster corpus id new page asked requests awaited w → RunsPage cluster later id new page asked requests awaited w
  page_grows (Some c) (works.Scroll s) (own, x) = (own, search_grows cluster corpus later grows (page_reading c) asked requests awaited s x)
  page_grows None w x = x
  page_grows (Some c) _ x = absurd x

module _ (cluster : Cluster) (corpus : Corpus) (t : TaskId) (p : Progress) (requests : List Request) (awaited : List (Option ℕ)) where
  page_of_context : (page : Option Context) → p.page ≡ page → (ask : ScrollAsk) (w : Work) → RunsPage cluster corpus ask.id false page p.asked requests awaited w → KindLaws cluster corpus t p requests awaited (Some (asks.Scroll ask)) w
  page_of_context (Some c) is ask (works.Scroll s) (own, x) =
      let r : Reading = page_reading c in
      record {
        at = subst (λ page. IsPageAt page p.asked (works.Scroll s)) (sym is) x.state_is;
        low = refl;
        place = refl;
        docs = sym (no_docs p.turns);
        full = inl refl;
        in_shard = λ place at. tt;
        turns_there = λ writes now e. absurd (never_turns cluster corpus r p.asked requests awaited s x e);
        turned = λ now later next grows same. absurd (never_turns cluster corpus r p.asked requests awaited s x next);
        asks = λ request now plan. record {
          few = asking.few_asks cluster corpus r p.asked requests awaited request s x (plan [] tt);
          may = asking.may_ask cluster corpus r p.asked requests awaited request s x (plan [] tt);
          after = λ n. subst (λ page. RunsPage cluster corpus ask.id false page (p.asked ++ record { ask = length awaited + 1; answer = None } ∷ []) (requests ++ request ∷ []) (awaited ++ Some n ∷ []) (work_with_ask (works.Scroll s) (length awaited + 1))) (sym is)
              (own, asking.searches_on cluster corpus r p.asked requests awaited request s (length awaited + 1) n x (plan [] tt) refl);
          within = asking.asks_within cluster corpus r p.asked requests awaited request s x (plan [] tt);
          owns = asking.asks_own cluster corpus r p.asked requests awaited request s x (plan [] tt) t;
        };
        takes_answer = λ i q reply now there unanswered good. record {
          takes = takes_so cluster corpus r p.asked requests awaited s x i q reply there unanswered good;
          after = λ answer known. subst (λ page. RunsPage cluster corpus ask.id false page (map (asked_with_answer (1 + i) answer) p.asked) requests (slice_set awaited i None) (work_with_answer (works.Scroll s) (1 + i) reply now)) (sym is)
              (own, answered_so cluster corpus r p.asked requests awaited s x i q reply there unanswered good answer known);
        };
        moves = λ few writes now none. moves_so cluster corpus r p.asked requests awaited s x none;
        none_left = λ writes now end e. none_left_so cluster corpus r p.asked requests awaited s x end e;
        plain = λ writes now end e. plain_so cluster corpus r p.asked requests awaited s x end e;
        ends_well = λ few now end e.
            let so = possible_so cluster corpus r p.asked requests awaited s x end e in
            let shards : length (page_reading c).shards ≡ length c.shards = length-map c.shards Kept in
            let some = x.few in
            let most = cluster.shards_in_range.1 in
            (ap (can_have cluster.shards (asks.Scroll ask)) so.2 ∙ page_is_possible _ so.0 c ask cluster.shards (sym own) (omega arith) most x.shown refl, tt);
      }
  page_of_context None is ask w x = absurd (let f : false ≡ true = x.0 in cc)
  page_of_context (Some c) is ask _ x = absurd x

  pub page_laws : (ask : ScrollAsk) (w : Work) → RunsPage cluster corpus ask.id false p.page p.asked requests awaited w → KindLaws cluster corpus t p requests awaited (Some (asks.Scroll ask)) w
  page_laws ask w x = page_of_context p.page refl ask w x
