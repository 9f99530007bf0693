-- The reply with which work ends tells what the run's lines say, as its letter is to.
use Rattle.std.specs.Prelude.{◌≡◌, ℕ, List, Option, Some, None, IfSome, length, option_map, refl}
use Rattle.std.proofs.Common.{sym, ◌∙◌, ap, subst}
use Rattle.search_phase.specs.Queries.{version_at}
use Rattle.search_phase.specs.Searching.{IsSearching, Searching, next_step, reply_of}
use Rattle.task_ids.specs.declared.doc.Doc.{Doc}
use Rattle.task_ids.specs.declared.task_id.TaskId.{TaskId}
use Rattle.task_events.specs.Answers.{fetched, shard_top}
use Rattle.task_events.specs.Readings.{Reading, page_reading, search_reading}
use Rattle.task_events.specs.Searches.{failure_in}
use Rattle.task_events.specs.declared.answered.AnsweredRequest.{AnsweredRequest}
use Rattle.task_events.specs.declared.answered.AnsweredRequest.TheVariants as told
use Rattle.task_events.specs.declared.reply.Hit.{Hit}
use Rattle.task_events.specs.declared.reply.Reply.{Reply}
use Rattle.task_events.specs.declared.reply.Reply.TheVariants.{Top, Hits}
use Rattle.task_events.specs.declared.reply.ShardFailure.{ShardFailure}
use Rattle.task_events.specs.declared.reply.ShardTop.{ShardTop}
use Rattle.task_events.specs.declared.request.FetchAsk.{FetchAsk}
use Rattle.task_events.specs.declared.request.ShardAsk.{ShardAsk}
use Rattle.task_events.specs.declared.step.Do.TheVariants.{Finish}
use Rattle.task_work.specs.Works.{next_of}
use Rattle.task_work.specs.declared.work.Work.{Work}
use Rattle.task_work.specs.declared.work.Work.TheVariants as works
use Rattle.node_link.specs.declared.body.Place.{Place}
use Rattle.node_link.specs.declared.page.Page.{Page}
use Rattle.reply_facts.specs.Letters.{IsAnswerAt, IsFetchFor, IsPageAt, IsRequestAt, RepliesTo, context_of_page}
use Rattle.reply_facts.specs.Plainly.{IsPlainOver, top_over}
use Rattle.reply_facts.specs.Settings.{IsSteady, Setting, Sought, lines_in, sought_at}
use Rattle.work_facts.specs.Works.{IsLookFor, IsSearchFor, IsWorkOfRun, Keeps, look_in, reading_in}
use Rattle.work_facts.proofs.Ends.{ends_plainly}
use Rattle.work_facts.proofs.Looks.{top_found}
use Rattle.work_facts.proofs.Moves.{IsOverLines}
use Rattle.task_work.proofs.Steps.{search_ends, search_over, working_ends}
use Rattle.work_facts.proofs.Told.{failure_tells}

module _ (run : Setting) (place : Place) (rows : List Doc) (now : ℕ) (reply : Reply) where
  -- ---- a search and a page

  abbrev IsPlainFor : Reading → Type 0
  IsPlainFor r = IsPlainOver (lines_in run r.ask.index) r reply

  search_replies : (q : Sought) (s : Searching) → IsSteady run q.index → IsSearching s → IsSearchFor run q s → next_step s ≡ Finish reply → IsPlainFor s.reading
  search_replies q s steady sound h e =
      let plain : IsPlainOver (lines_in run q.index) s.reading (reply_of s) = ends_plainly (lines_in run q.index) s (h.plain steady) sound (search_over s reply e) in
      subst (λ i. IsPlainOver (lines_in run i) s.reading reply) (sym (ap (λ (k : Sought). k.index) h.looks))
      (subst (IsPlainOver (lines_in run q.index) s.reading) (search_ends s reply e) plain)

  -- work that looks through this
  reading_replies : (work : Work) (r : Reading) (q : Sought) → reading_in work ≡ Some r → sought_at run place ≡ Some q → IsSteady run q.index → Keeps run place work → next_of work rows now ≡ Finish reply → IsPlainFor r
  reading_replies (works.Search s) r q of is steady h e =
      let same : s.reading ≡ r = cc in
      subst IsPlainFor same (search_replies q s steady h.0 (subst (λ o. IfSome o (λ q. IsSearchFor run q s)) is h.1) e)
  reading_replies (works.Scroll s) r q of is steady h e =
      let same : s.reading ≡ r = cc in
      subst IsPlainFor same (search_replies q s steady h.0 (subst (λ o. IfSome o (λ q. IsSearchFor run q s)) is h.1) e)
  reading_replies (works.Query k top) r q of is steady h e = absurd cc
  reading_replies (works.Fetch f hits) r q of is steady h e = absurd cc
  reading_replies (works.Reindex x) r q of is steady h e = absurd cc
  reading_replies (works.Slice s) r q of is steady h e = absurd cc
  reading_replies (works.Bulk b) r q of is steady h e = absurd cc
  reading_replies (works.BulkShard w) r q of is steady h e = absurd cc

  -- ---- a query and a fetch

  abbrev TellsTop : ShardAsk → Type 0
  TellsTop ask = (top : ShardTop) → reply ≡ Top top → top ≡ top_over ask (lines_in run ask.index ask.shard)

  abbrev TellsHits : FetchAsk → Type 0
  TellsHits ask = (hits : List Hit) → reply ≡ Hits hits → hits ≡ fetched ask (lines_in run ask.index ask.shard)

  query_replies : (work : Work) (ask : ShardAsk) (k : Sought) → look_in work ≡ Some (told.Query ask) → sought_at run place ≡ Some k → IsSteady run k.index → IsOverLines run place work rows → Keeps run place work → next_of work rows now ≡ Finish reply → TellsTop ask
  query_replies (works.Query q found) ask k of is steady over h e =
      let same : q.ask ≡ ask = cc in
      let look : IsLookFor run k q = subst (λ o. IfSome o (λ k. IsLookFor run k q)) is h in
      let stays : IsSteady run q.ask.index = subst (IsSteady run) (sym look.over) steady in
      let lines : rows ≡ lines_in run q.ask.index q.ask.shard = over stays in
      let read : version_at q (lines_in run q.ask.index q.ask.shard) ≡ length (lines_in run q.ask.index q.ask.shard) =
      subst (λ i. version_at q (lines_in run i q.ask.shard) ≡ length (lines_in run i q.ask.shard)) (sym look.over) (look.reads steady) in
      let top_is : Top (shard_top q.ask (version_at q rows) rows) ≡ reply = working_ends _ _ reply e in
      subst TellsTop same (λ top f.
      let told_top : Top (shard_top q.ask (version_at q rows) rows) ≡ Top top = top_is ∙ f in
      let is_top : shard_top q.ask (version_at q rows) rows ≡ top = cc in
      sym is_top ∙ ap (λ docs. shard_top q.ask (version_at q docs) docs) lines ∙ top_found q (lines_in run q.ask.index q.ask.shard) read)
  query_replies (works.Fetch f hits) ask k of is steady over h e = absurd cc
  query_replies (works.Search s) ask k of is steady over h e = absurd cc
  query_replies (works.Scroll s) ask k of is steady over h e = absurd cc
  query_replies (works.Reindex x) ask k of is steady over h e = absurd cc
  query_replies (works.Slice s) ask k of is steady over h e = absurd cc
  query_replies (works.Bulk b) ask k of is steady over h e = absurd cc
  query_replies (works.BulkShard w) ask k of is steady over h e = absurd cc

  fetch_replies : (work : Work) (ask : FetchAsk) → look_in work ≡ Some (told.Fetch ask) → IsSteady run ask.index → IsOverLines run place work rows → next_of work rows now ≡ Finish reply → TellsHits ask
  fetch_replies (works.Fetch f found) ask of steady over e =
      let same : f.ask ≡ ask = cc in
      let stays : IsSteady run f.ask.index = ap (λ (a : FetchAsk). run.is_written a.index) same ∙ steady in
      let lines : rows ≡ lines_in run f.ask.index f.ask.shard = over stays in
      let hits_are : Hits (fetched f.ask rows) ≡ reply = working_ends _ _ reply e in
      subst TellsHits same (λ hits g.
      let told_hits : Hits (fetched f.ask rows) ≡ Hits hits = hits_are ∙ g in
      let is_hits : fetched f.ask rows ≡ hits = cc in
      sym is_hits ∙ ap (fetched f.ask) lines)
  fetch_replies (works.Query q top) ask of steady over e = absurd cc
  fetch_replies (works.Search s) ask of steady over e = absurd cc
  fetch_replies (works.Scroll s) ask of steady over e = absurd cc
  fetch_replies (works.Reindex x) ask of steady over e = absurd cc
  fetch_replies (works.Slice s) ask of steady over e = absurd cc
  fetch_replies (works.Bulk b) ask of steady over e = absurd cc
  fetch_replies (works.BulkShard w) ask of steady over e = absurd cc

-- ---- any work

module _ (run : Setting) (place : Place) (rows : List Doc) (now : ℕ) (id : TaskId) (page : Option Page) (work : Work) where
  replies_to : (request : AnsweredRequest) (q : Sought) (reply : Reply) → IsWorkOfRun run place id request page work → IsRequestAt run place request → IsOverLines run place work rows → sought_at run place ≡ Some q → IsSteady run q.index
      → next_of work rows now ≡ Finish reply → RepliesTo run request page reply
  replies_to (told.Search ask) q reply h asked over is steady e = λ none. (
    id,
    reading_replies run place rows now reply work (search_reading id ask run.shards) q (subst (λ o. IfSome o (λ q. reading_in work ≡ Some (search_reading id ask run.shards))) is h.reads) is steady h.keeps e,
  )
  replies_to (told.Scroll ask) q reply h asked over is steady e = λ none. of_page page (subst (λ o. IfSome o (λ q. reading_in work ≡ option_map (λ p. page_reading (context_of_page ask p)) page)) is h.reads)
    where
      of_page : (o : Option Page) → reading_in work ≡ option_map (λ p. page_reading (context_of_page ask p)) o → IfSome o (λ p. IsPlainOver (lines_in run p.ask.index) (page_reading (context_of_page ask p)) reply)
      of_page None reads = tt
      of_page (Some p) reads = reading_replies run place rows now reply work (page_reading (context_of_page ask p)) q reads is steady h.keeps e
  replies_to (told.Query ask) q reply h asked over is steady e = query_replies run place rows now reply work ask q h.looks is steady over h.keeps e
  replies_to (told.Fetch ask) q reply h asked over is steady e =
      let fetch : IsFetchFor run q ask = subst (λ o. IfSome o (λ q. IsFetchFor run q ask)) is asked in
      fetch_replies run place rows now reply work ask h.looks (subst (IsSteady run) (sym fetch.index) steady) over e
  replies_to (told.Reindex ask) q reply h asked over is steady e = tt
  replies_to (told.Slice ask) q reply h asked over is steady e = tt
  replies_to (told.Bulk dest docs) q reply h asked over is steady e = tt
  replies_to (told.BulkShard dest shard docs) q reply h asked over is steady e = tt

  module _ (request : AnsweredRequest) (asked : IsRequestAt run place request) (shown : IfSome page (IsPageAt run place)) where
    -- where a task ends as its plan says
    pub finish_tells : (reply : Reply) → IsWorkOfRun run place id request page work → IsOverLines run place work rows → next_of work rows now ≡ Finish reply → IsAnswerAt run place request page reply
    finish_tells reply h over e = record { asked = asked; shown = shown; replied = of_sought (sought_at run place) refl }
      where
        of_sought : (o : Option Sought) → sought_at run place ≡ o → IfSome o (λ q. IsSteady run q.index → RepliesTo run request page reply)
        of_sought None is = tt
        of_sought (Some q) is = λ steady. replies_to request q reply h asked over is steady e

-- and where it was cancelled or rejected
module _ (run : Setting) (place : Place) (request : AnsweredRequest) (asked : IsRequestAt run place request) (page : Option Page) (shown : IfSome page (IsPageAt run place)) where
  pub end_tells : (reply : Reply) (f : ShardFailure) → failure_in reply ≡ Some f → IsAnswerAt run place request page reply
  end_tells reply f e = record { asked = asked; shown = shown; replied = of_sought (sought_at run place) }
    where
      of_sought : (o : Option Sought) → IfSome o (λ q. IsSteady run q.index → RepliesTo run request page reply)
      of_sought None = tt
      of_sought (Some q) = λ steady. failure_tells run request page reply f e
