-- What the answer of a root tells of its command: a search shows the plain answer, a scroll a page of one, and the context that a search opens counts all lines.
use Rattle.std.proofs.Common.{◌≡◌, ℕ, false, Option, Some, None, refl, sym, ap, ◌∙◌, subst}
use Rattle.std.specs.Prelude.{IfSome, IsSome, IsSomeAnd, option_map}
use Rattle.command_roots.specs.Roots.{search_of}
use Rattle.script_lang.specs.declared.command.Command.{Command}
use Rattle.script_lang.specs.declared.command.Command.TheVariants.{Search, Scroll, Reindex}
use Rattle.task_events.specs.Allowed.{is_rejection}
use Rattle.task_events.specs.Searches.{failure_in}
use Rattle.task_events.specs.Readings.{page_reading, search_reading}
use Rattle.task_events.specs.declared.answered.AnsweredRequest.{AnsweredRequest}
use Rattle.task_events.specs.declared.answered.AnsweredRequest.TheVariants as told
use Rattle.task_events.specs.declared.reply.Reply.{Reply}
use Rattle.task_events.specs.declared.reply.Reply.TheVariants as replies
use Rattle.task_events.specs.declared.reply.SearchReply.{SearchReply}
use Rattle.task_events.specs.declared.request.ScrollAsk.{ScrollAsk}
use Rattle.task_events.specs.declared.request.SearchAsk.{SearchAsk}
use Rattle.task_ids.specs.declared.task_id.TaskId.{TaskId}
use Rattle.node_link.specs.Lawful.{IsCommand, IsLawfulRootAnswer, TellsPage}
use Rattle.node_link.specs.declared.body.Place.{Place}
use Rattle.node_link.specs.declared.body.RootAnswered.{RootAnswered}
use Rattle.node_link.specs.declared.page.Page.{Page}
use Rattle.reply_facts.specs.Letters.{IsAnswerAt, IsPageFor, RepliesTo, context_of_page}
use Rattle.reply_facts.specs.Plainly.{AreWhole, IsPlainOver}
use Rattle.reply_facts.specs.Settings.{IsSteady, Setting, Sought, lines_in, sought_at, sought_by}
use Rattle.run_book.specs.declared.entry.RootAsk.{RootAsk}
use Rattle.run_book.specs.declared.entry.RootAsk.TheVariants as roots
use Rattle.run_book.specs.declared.entry.SentPage.{SentPage}
use Rattle.run_book.specs.Answering.{IsAnswerTo, IsFor, page_noted}
use Rattle.run_book.specs.Contexts.{MayOpen, opened, opening, page_of}
use Rattle.run_book.specs.Entries.{IsRootOf}
use Rattle.run_book.specs.Notes.{IsTaskNote}
use Rattle.run_book.specs.Runs.{IsPlainPage, ShowsPlainly}

no_rejection : (reply : Reply) → failure_in reply ≡ None → is_rejection reply ≡ false
no_rejection (replies.Search answer) none = refl
no_rejection (replies.Top top) none = refl
no_rejection (replies.Hits hits) none = refl
no_rejection (replies.AllFailed failed) none = refl
no_rejection (replies.Wrote counts) none = refl
no_rejection (replies.Cancelled task cancel counts) none = refl
no_rejection (replies.Rejected node) none = absurd cc

module _ (run : Setting) (place : Place) (q : Sought) (at : sought_at run place ≡ Some q) where
  -- it is known what is looked for at the place
  known_at : (P : Sought → Type 0) → IfSome (sought_at run place) P → P q
  known_at P is = subst (λ o. IfSome o P) at is

  -- ---- a search

  module _ (ask : SearchAsk) (page : Option Page) (reply : Reply) (tells : IsAnswerAt run place (told.Search ask) page reply) where
    looks : sought_by ask ≡ q
    looks = known_at (λ s. sought_by ask ≡ s) tells.asked

    same_index : ask.index ≡ q.index
    same_index = ap (λ (s : Sought). s.index) looks

    answers : IsSteady run q.index → failure_in reply ≡ None → (task : TaskId) × IsPlainOver (lines_in run ask.index) (search_reading task ask run.shards) reply
    answers = known_at (λ s. IsSteady run s.index → RepliesTo run (told.Search ask) page reply) tells.replied

    plainly : (own : SearchAsk) → sought_by own ≡ q → ShowsPlainly run own reply
    plainly own of = λ steady none.
        let index : own.index ≡ q.index = ap (λ (s : Sought). s.index) of in
        let is = answers (subst (IsSteady run) index steady) none in
        (ask, looks ∙ sym of, is.0, subst (λ i. IsPlainOver (lines_in run i) (search_reading is.0 ask run.shards) reply) (same_index ∙ sym index) is.1)

  -- the context that it opens
  context_counts : (ask : SearchAsk) (page : Option Page) (answer : SearchReply) → IsAnswerAt run place (told.Search ask) page (replies.Search answer) → (id : TaskId) (now : ℕ) → IsPageFor run q (page_of (opened id ask answer now))
  context_counts ask page answer tells = λ id now. record {
    looks = looks ask page (replies.Search answer) tells;
    counts = λ steady. subst (λ i. AreWhole ask (lines_in run i) answer.shards) (same_index ask page (replies.Search answer) tells) ((answers ask page (replies.Search answer) tells steady refl).1.counts);
  }

  -- ---- a page

  module _ (ask : ScrollAsk) (reply : Reply) where
    of_page : (page : Page) → IsAnswerAt run place (told.Scroll ask) (Some page) reply → IsSteady run q.index → failure_in reply ≡ None → IsPlainPage run q page.after reply
    of_page page tells steady none =
        let context : IsPageFor run q page = known_at (λ s. IsPageFor run s page) tells.shown in
        let plain : IsPlainOver (lines_in run page.ask.index) (page_reading (context_of_page ask page)) reply = known_at (λ s. IsSteady run s.index → RepliesTo run (told.Scroll ask) (Some page) reply) tells.replied steady none in
        record {
          ask = ask;
          page = page;
          context = context;
          cursor = refl;
          plain = subst (λ i. IsPlainOver (lines_in run i) (page_reading (context_of_page ask page)) reply) (ap (λ (s : Sought). s.index) context.looks) plain;
        }

    pages : (sent : SentPage) (page : Option Page) → IsFor (roots.Page sent) (told.Scroll ask) page → TellsPage (told.Scroll ask) reply page → IsAnswerAt run place (told.Scroll ask) page reply → IsSteady run q.index → failure_in reply ≡ None → IsPlainPage run q sent.page.after reply
    pages sent None to tells_page tells steady none = absurd (let there = tells_page.1 refl (no_rejection reply none) in cc)
    pages sent (Some page) to tells_page tells steady none = subst (λ after. IsPlainPage run q after reply) to.cursor (of_page page tells steady none)

-- ---- by what the root was asked for

module _ (run : Setting) (k : ℕ) (place : Place) (page : Option Page) (reply : Reply) where
  search_note : (own : Option SearchAsk) → run.sought k ≡ option_map sought_by own → IsSome own → place.search ≡ k → (request : AnsweredRequest) → IsFor roots.Search request page → IsAnswerAt run place request page reply
      → IsSomeAnd own (λ ask. ShowsPlainly run ask reply)
  search_note None sought is same request to tells = absurd cc
  search_note (Some own) sought is same (told.Search ask) to tells = plainly run place (sought_by own) (ap run.sought same ∙ sought) ask page reply tells own refl
  search_note (Some own) sought is same _ to tells = absurd to

  page_note : (sent : SentPage) (q : Option Sought) → run.sought sent.page.search ≡ q → IsSome q → place.search ≡ sent.page.search → (request : AnsweredRequest) → IsFor (roots.Page sent) request page → TellsPage request reply page → IsAnswerAt run place request page reply
      → IsSomeAnd q (λ s. IsSteady run s.index → failure_in reply ≡ None → IsPlainPage run s sent.page.after reply)
  page_note sent None sought is same request to tells_page tells = absurd cc
  page_note sent (Some q) sought is same (told.Scroll ask) to tells_page tells = pages run place q (ap run.sought same ∙ sought) ask reply sent page to tells_page tells
  page_note sent (Some q) sought is same _ to tells_page tells = absurd to

  -- what a search opens with this answer
  opens_for : (q : Option Sought) → run.sought k ≡ q → IsSome q → place.search ≡ k → IsCommand k → (request : AnsweredRequest) → IsFor roots.Search request page → IsAnswerAt run place request page reply → MayOpen run k (opening request reply)
  opens_for None sought is same command request to tells = absurd cc
  opens_for (Some q) sought is same command (told.Search ask) to tells = by_reply reply tells
    where
      by_context : (answer : SearchReply) → IsAnswerAt run place (told.Search ask) page (replies.Search answer) → (context : Option TaskId) → MayOpen run k (option_map (λ id. (id, ask, answer)) context)
      by_context answer tells None = tt
      by_context answer tells (Some id) = λ now. (command, subst (λ o. IsSomeAnd o (λ s. IsPageFor run s (page_of (opened id ask answer now)))) (sym sought) (context_counts run place q (ap run.sought same ∙ sought) ask page answer tells id now))

      by_reply : (r : Reply) → IsAnswerAt run place (told.Search ask) page r → MayOpen run k (opening (told.Search ask) r)
      by_reply (replies.Search answer) tells = by_context answer tells answer.context
      by_reply _ tells = tt
  opens_for (Some q) sought is same command _ to tells = absurd to

  nothing_opens : (request : AnsweredRequest) (asked : RootAsk) → IsFor asked request page → (asked ≡ roots.Search → ⊥) → MayOpen run k (opening request reply)
  nothing_opens (told.Search ask) roots.Search to other = absurd (other refl)
  nothing_opens (told.Search ask) (roots.Page sent) to other = absurd to
  nothing_opens (told.Search ask) roots.Reindex to other = absurd to
  nothing_opens _ asked to other = tt

module _ (allowed : ℕ → Type 0) (run : Setting) (a : RootAnswered) (lawful : IsLawfulRootAnswer allowed a) (tells : IsAnswerAt run a.place a.request a.page a.reply) where
  -- what a command comes to by the answer of its root
  pub task_note : (command : Command) → run.sought a.place.command ≡ option_map sought_by (search_of command) → (asked : RootAsk) → IsRootOf run command asked → IsAnswerTo asked a → IsTaskNote allowed run command (page_noted asked) a.reply
  task_note (Search index node scroll body opaque_id) sought roots.Search of to = record {
    starts = refl;
    lawful = lawful.reply;
    shows = search_note run a.place.command a.place a.page a.reply (search_of (Search index node scroll body opaque_id)) sought of to.search a.request to.kind tells;
  }
  task_note (Scroll context keep opaque_id) sought (roots.Page sent) of to = record {
    starts = refl;
    lawful = lawful.reply;
    shows = page_note run a.place.command a.place a.page a.reply sent (run.sought sent.page.search) refl of to.search a.request to.kind lawful.page tells;
  }
  task_note (Reindex node body slices rate opaque_id store) sought roots.Reindex of to = record { starts = refl; lawful = lawful.reply; shows = tt }
  task_note _ sought _ of to = absurd of

  some_sought : (own : Option SearchAsk) → IsSome own → IsSome (option_map sought_by own)
  some_sought None is = is
  some_sought (Some ask) is = refl

  -- and which context it may open
  pub may_open : (command : Command) → run.sought a.place.command ≡ option_map sought_by (search_of command) → (asked : RootAsk) → IsRootOf run command asked → IsAnswerTo asked a → MayOpen run a.place.command (opening a.request a.reply)
  may_open (Search index node scroll body opaque_id) sought roots.Search of to =
      let some : IsSome (run.sought a.place.command) = subst IsSome (sym sought) (some_sought (search_of (Search index node scroll body opaque_id)) of) in
      opens_for run a.place.command a.place a.page a.reply (run.sought a.place.command) refl some to.search lawful.place.0 a.request to.kind tells
  may_open command sought (roots.Page sent) of to = nothing_opens run a.place.command a.place a.page a.reply a.request (roots.Page sent) to.kind (λ e. absurd cc)
  may_open command sought roots.Reindex of to = nothing_opens run a.place.command a.place a.page a.reply a.request roots.Reindex to.kind (λ e. absurd cc)
  may_open _ sought roots.Search of to = absurd of
