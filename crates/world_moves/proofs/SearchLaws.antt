-- What a search shows of its work.
use Rattle.std.proofs.Common.{◌≡◌, ◌≢◌, ◌<◌, ◌≤◌, ℕ, zero, suc, ◌+◌, Bool, true, false, cond, List, [], ◌∷◌, ◌++◌, length, map, get_or, Option, Some, None, refl, sym, ap, subst, ◌∙◌, inl, arith}
use Rattle.std.specs.Prelude.{is_some, not, slice_get, slice_set, ◌==◌}
use Rattle.std.specs.List.{range_with_len}
use Rattle.std.proofs.lemmas.List.{length-map}
use Rattle.std.proofs.lemmas.List.FromFn.{length-range_with_len}
use Rattle.task_ids.specs.declared.task_id.TaskId.{TaskId}
use Rattle.task_ids.specs.declared.cluster.Cluster.{Cluster}
use Rattle.task_ids.specs.declared.corpus.Corpus.{Corpus}
use Rattle.task_events.specs.declared.reading.ShardRead.TheVariants.{Newest}
use Rattle.task_events.specs.declared.request.Request.{Request}
use Rattle.task_events.specs.declared.request.Request.TheVariants as asks
use Rattle.task_events.specs.declared.request.SearchAsk.{SearchAsk}
use Rattle.task_events.specs.declared.reply.Reply.{Reply}
use Rattle.task_events.specs.declared.reply.Reply.TheVariants.{Search, AllFailed, Cancelled, Rejected}
use Rattle.task_events.specs.declared.reply.SearchReply.{SearchReply}
use Rattle.task_events.specs.declared.step.Asked.{Asked}
use Rattle.task_events.specs.declared.step.Do.TheVariants.{Turn, Finish}
use Rattle.task_events.specs.SearchTask.{ask_or_end}
use Rattle.task_events.specs.Readings.{Reading, search_reading, shard_read, version_read}
use Rattle.task_events.specs.Searches.{are_answered, search_reply, failed_in}
use Rattle.task_events.specs.Steps.{with_answer as asked_with_answer}
use Rattle.task_events.specs.Kind.{Progress}
use Rattle.task_events.specs.Counting.{are_below}
use Rattle.task_events.specs.Kinds.{kind_of, can_have}
use Rattle.task_events.specs.declared.reply.Counts.{Counts}
use Rattle.task_events.specs.declared.reading.ShardRead.{ShardRead}
use Rattle.task_ids.specs.declared.doc.Doc.{Doc}
use Rattle.search_phase.specs.Searching.{Searching, IsReading, IsSearching, new_search, next_step, has_ended, takes, answered_by, with_answer, reply_of}
use Rattle.search_phase.proofs.Readings.{search_is_reading}
use Rattle.search_phase.proofs.Runs.{noted_alike}
use Rattle.search_phase.proofs.PossibleReply.{search_is_possible}
use Rattle.search_phase.proofs.Growth.{IsHonest-grow}
use Rattle.search_phase.specs.Growth.{HaveGrown}
use Rattle.task_work.specs.declared.work.Work.{Work}
use Rattle.task_work.specs.declared.work.Work.TheVariants as works
use Rattle.task_work.specs.Works.{does_wait, due_in}
use Rattle.world_moves.specs.Facts.{none_awaited}
use Rattle.world_moves.specs.Good.{IsGoodReply, IsShardWithin, Grows, writes_for, index_writes}
use Rattle.world_moves.specs.SearchRuns.{RunsSearch, SearchesFor}
use Rattle.world_moves.proofs.NoneAwaited.{all_answered}
use Rattle.world_moves.proofs.KindLaws.{KindLaws, IsPlain}
use Rattle.world_moves.proofs.Growing.{version_grown}
use Rattle.world_moves.proofs.LookingLaws.{no_docs}
use Rattle.world_moves.proofs.Numbered.{is_searching}
use Rattle.world_moves.proofs.SearchAnswers.{takes_it, searches_on}
use Rattle.world_moves.proofs.SearchAsks as asking

pub search_ends : (o : Option Request) (b : Bool) (reply end : Reply) → ask_or_end o b reply ≡ Finish end → (b ≡ true) × (end ≡ reply)
search_ends None true reply end e = (refl, cc)
search_ends None false reply end e = absurd (cc)
search_ends (Some r) b reply end e = absurd (cc)

search_plain : (r : Reading) (asked : List Asked) → IsPlain (search_reply r asked)
search_plain r asked = here (length (failed_in r asked) == length r.shards) _
  where
    here : (b : Bool) (x : SearchReply) → IsPlain (cond b (AllFailed (failed_in r asked)) (Search x))
    here true x = (refl, refl)
    here false x = (refl, refl)

-- a search takes no turn
pub no_turn : (o : Option Request) (b : Bool) (reply : Reply) → ask_or_end o b reply ≢ Turn
no_turn None true reply e = cc
no_turn None false reply e = cc
no_turn (Some request) b reply e = cc

-- with all answers it does not wait
pub ends_or_asks : (next : Option Request) (answered : Bool) (reply : Reply) → answered ≡ true → does_wait (ask_or_end next answered reply) ≡ is_some (due_in (ask_or_end next answered reply))
ends_or_asks (Some request) answered reply all = refl
ends_or_asks None true reply all = refl
ends_or_asks None false reply all = absurd (cc)

-- no ask is awaited, so all are answered
pub all_known : (asked : List Asked) (awaited : List (Option ℕ)) → map (λ a. is_some a.answer) asked ≡ map (λ o. not (is_some o)) awaited → none_awaited awaited ≡ true → are_answered asked ≡ true
all_known [] awaited e none = refl
all_known (a ∷ asked) [] e none = absurd (cc)
all_known (a ∷ asked) (Some n ∷ awaited) e none = absurd (cc)
all_known (a ∷ asked) (None ∷ awaited) e none =
    let here : is_some a.answer ≡ true = cc in
    rw here (all_known asked awaited (cc) none)

-- ---- what is so of every search and every page

module _ (cluster : Cluster) (corpus : Corpus) (r : Reading) where
  -- nothing was asked yet
  pub starts_so : IsReading r → length r.shards ≤ cluster.shards → r.ask.body.size ≤ 10000 → ((place : ℕ) (at : ShardRead) → slice_get r.shards place ≡ Some at → IsShardWithin cluster corpus r.ask.index (shard_read at) (version_read at)) → SearchesFor cluster corpus r [] [] [] (new_search r)
  starts_so sound few shown within = record { within = within; state_is = refl; reading_is = sound; few = few; shown = shown; numbered = refl; planned = refl; as_many = refl; answered = refl; good = λ place a request reply at asks answered. absurd (cc) }

module _ (cluster : Cluster) (corpus : Corpus) (r : Reading) (asked : List Asked) (requests : List Request) (awaited : List (Option ℕ)) (s : Searching) (x : SearchesFor cluster corpus r asked requests awaited s) where
  whole : SearchesFor cluster corpus r asked requests awaited (record { reading = r; asked = asked })
  whole = subst (SearchesFor cluster corpus r asked requests awaited) x.state_is x

  pub never_turns : next_step s ≢ Turn
  never_turns = no_turn _ _ _

  pub takes_so : (i : ℕ) (q : Request) (reply : Reply) → slice_get requests i ≡ Some q → is_some (get_or awaited i None) ≡ true → IsGoodReply cluster corpus q reply → takes s (1 + i) reply ≡ true
  takes_so i q reply there unanswered good = subst (λ z. takes z (1 + i) reply ≡ true) (sym x.state_is) (takes_it cluster corpus r asked requests awaited i q reply there unanswered good whole)

  pub answered_so : (i : ℕ) (q : Request) (reply : Reply) → slice_get requests i ≡ Some q → is_some (get_or awaited i None) ≡ true → IsGoodReply cluster corpus q reply → (answer : Option Reply) → answer ≡ Some reply
      → SearchesFor cluster corpus r (map (asked_with_answer (1 + i) answer) asked) requests (slice_set awaited i None) (with_answer s (1 + i) reply)
  answered_so i q reply there unanswered good answer is = rw (is, noted_alike (1 + i) reply asked)
      (subst (λ z. SearchesFor cluster corpus r (map (answered_by (1 + i) reply) asked) requests (slice_set awaited i None) (with_answer z (1 + i) reply)) (sym x.state_is)
      (searches_on cluster corpus r asked requests awaited i q reply there unanswered good whole))

  pub moves_so : none_awaited awaited ≡ true → does_wait (next_step s) ≡ is_some (due_in (next_step s))
  moves_so none = ends_or_asks _ (are_answered s.asked) _ (ap (λ (z : Searching). are_answered z.asked) x.state_is ∙ all_known asked awaited x.answered none)

  pub none_left_so : (end : Reply) → next_step s ≡ Finish end → none_awaited awaited ≡ true
  none_left_so end e = all_answered asked awaited x.answered (ap (λ (z : Searching). are_answered z.asked) (sym x.state_is) ∙ (search_ends _ _ _ end e).0)

  pub plain_so : (end : Reply) → next_step s ≡ Finish end → IsPlain end
  plain_so end e = subst IsPlain (sym (search_ends _ _ _ end e).1) (search_plain s.reading s.asked)

  -- its reply is one that it can have
  pub possible_so : (end : Reply) → next_step s ≡ Finish end → IsSearching (record { reading = r; asked = asked }) × (has_ended (next_step (record { reading = r; asked = asked })) ≡ true) × (end ≡ reply_of (record { reading = r; asked = asked }))
  possible_so end e =
      let ends : next_step (record { reading = r; asked = asked }) ≡ Finish end = ap next_step (sym x.state_is) ∙ e in
      (is_searching cluster corpus r asked requests awaited whole, ap has_ended ends, (search_ends _ _ _ end ends).1)

-- ---- more is written

-- what a request reads has grown
reads_grown : (cluster : Cluster) (corpus later : Corpus) → Grows cluster corpus later → (q : Request) → HaveGrown (writes_for cluster corpus q) (writes_for cluster later q)
reads_grown cluster corpus later grows q shard = by_place (kind_of q).place
  where
    by_place : (o : Option (List ℕ × ℕ)) → (more : List Doc) × (index_writes cluster later o shard ≡ index_writes cluster corpus o shard ++ more)
    by_place None = ([], refl)
    by_place (Some place) = grows place.0 shard

pub good_grown : (cluster : Cluster) (corpus later : Corpus) → Grows cluster corpus later → (q : Request) (reply : Reply) → IsGoodReply cluster corpus q reply → IsGoodReply cluster later q reply
good_grown cluster corpus later grows q reply good = (good.0, IsHonest-grow (writes_for cluster corpus q) (writes_for cluster later q) (reads_grown cluster corpus later grows q) q reply good.1)

pub search_grows : (cluster : Cluster) (corpus later : Corpus) → Grows cluster corpus later → (r : Reading) (asked : List Asked) (requests : List Request) (awaited : List (Option ℕ)) (s : Searching)
    → SearchesFor cluster corpus r asked requests awaited s → SearchesFor cluster later r asked requests awaited s
search_grows cluster corpus later grows r asked requests awaited s x = record {
  state_is = x.state_is;
  reading_is = x.reading_is;
  few = x.few;
  shown = x.shown;
  numbered = x.numbered;
  planned = x.planned;
  as_many = x.as_many;
  answered = x.answered;
  within = λ place at is. version_grown cluster corpus later grows r.ask.index (shard_read at) (version_read at) (x.within place at is);
  good = λ place a q reply at wants answered. good_grown cluster corpus later grows q reply (x.good place a q reply at wants answered);
}

-- ---- the laws of a search

module _ (cluster : Cluster) (corpus : Corpus) (ask : SearchAsk) where
  pub search_starts : (t : TaskId) → ask.body.size ≤ 10000 → RunsSearch cluster corpus (search_reading t ask cluster.shards) [] [] [] (works.Search (new_search (search_reading t ask cluster.shards)))
  search_starts t shown =
      let few : cluster.shards ≤ 15 = cluster.shards_in_range.1 in
      let many : length (search_reading t ask cluster.shards).shards ≡ cluster.shards = length-map (range_with_len 0 cluster.shards) Newest ∙ length-range_with_len 0 cluster.shards in
      starts_so cluster corpus (search_reading t ask cluster.shards) (search_is_reading t ask cluster.shards (omega arith)) (omega arith) shown (λ place at is. newest_within 0 cluster.shards (omega arith) place at is)
    where
      newest_so : (shard : ℕ) (at : ShardRead) → shard < cluster.shards → Newest shard ≡ at → IsShardWithin cluster corpus ask.index (shard_read at) (version_read at)
      newest_so shard at low is = subst (λ x. IsShardWithin cluster corpus ask.index (shard_read x) (version_read x)) is (low, λ v e. absurd (let f : None ≡ Some v = e in cc))

      newest_within : (from many : ℕ) → from + many ≤ cluster.shards → (place : ℕ) (at : ShardRead) → slice_get (map Newest (range_with_len from many)) place ≡ Some at → IsShardWithin cluster corpus ask.index (shard_read at) (version_read at)
      newest_within from zero low place at is = absurd (cc)
      newest_within from (suc many) low zero at is = newest_so from at (omega arith) (cc)
      newest_within from (suc many) low (suc place) at is = newest_within (from + 1) many (omega arith) place at is

  pub search_rejected : (n : ℕ) → IsGoodReply cluster corpus (asks.Search ask) (Rejected n)
  search_rejected n = (refl, tt)

  pub search_cancelled : (t : TaskId) (c : ℕ) (counts : Counts) → are_below 1 counts ≡ true → IsGoodReply cluster corpus (asks.Search ask) (Cancelled t c counts)
  search_cancelled t c counts low = (low, tt)

module _ (cluster : Cluster) (corpus : Corpus) (t : TaskId) (p : Progress) (requests : List Request) (awaited : List (Option ℕ)) where
  pub search_laws : (ask : SearchAsk) (w : Work) → RunsSearch cluster corpus (search_reading t ask cluster.shards) p.asked requests awaited w → KindLaws cluster corpus t p requests awaited (Some (asks.Search ask)) w
  search_laws ask (works.Search s) x =
      let r : Reading = search_reading t ask cluster.shards in
      record {
        at = x.state_is;
        low = refl;
        place = refl;
        docs = sym (no_docs p.turns);
        full = inl refl;
        in_shard = λ place at. tt;
        turns_there = λ writes now e. absurd (never_turns cluster corpus r p.asked requests awaited s x e);
        turned = λ now later next grows same. absurd (never_turns cluster corpus r p.asked requests awaited s x next);
        asks = λ request now plan. record {
          few = asking.few_asks cluster corpus r p.asked requests awaited request s x (plan [] tt);
          may = asking.may_ask cluster corpus r p.asked requests awaited request s x (plan [] tt);
          after = λ n. asking.searches_on cluster corpus r p.asked requests awaited request s (length awaited + 1) n x (plan [] tt) refl;
          within = asking.asks_within cluster corpus r p.asked requests awaited request s x (plan [] tt);
          owns = asking.asks_own cluster corpus r p.asked requests awaited request s x (plan [] tt) t;
        };
        takes_answer = λ i q reply now there unanswered good. record {
          takes = takes_so cluster corpus r p.asked requests awaited s x i q reply there unanswered good;
          after = λ answer is. answered_so cluster corpus r p.asked requests awaited s x i q reply there unanswered good answer is;
        };
        moves = λ few writes now none. moves_so cluster corpus r p.asked requests awaited s x none;
        none_left = λ writes now end e. none_left_so cluster corpus r p.asked requests awaited s x end e;
        plain = λ writes now end e. plain_so cluster corpus r p.asked requests awaited s x end e;
        ends_well = λ few now end e.
            let so = possible_so cluster corpus r p.asked requests awaited s x end e in
            (ap (can_have cluster.shards (asks.Search ask)) so.2 ∙ search_is_possible _ so.0 t ask cluster.shards cluster.shards_in_range refl, tt);
      }
  search_laws ask _ x = absurd x
