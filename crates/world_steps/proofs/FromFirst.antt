-- The search that opens a context passes over no rows and shows some: with a keep-alive `from` is 0, and `size` is not.
use Rattle.std.proofs.Common.{cond, ◌≡◌, ◌≢◌, ◌⊎◌, inl, inr, ℕ, Bool, true, false, List, [], ◌∷◌, Option, Some, None, refl, sym, ap, subst, ◌∙◌}
use Rattle.std.specs.Prelude.{◌||◌, ◌==◌, nat_le, not, is_some, option_map, option_and_then, Result, Ok, Err, codes}
use Rattle.std.specs.Option.{option_or}
use Rattle.std.proofs.lemmas.Bool.{eqb-true}
use Rattle.serde_json.specs.Data.{Data}
use Rattle.serde_json.specs.Find.{get_member}
use Rattle.query_match.specs.declared.body.SearchBody.{SearchBody}
use Rattle.query_parse.specs.declared.fault.BodyError.{BodyError}
use Rattle.query_parse.specs.Bodies.{size_passing, count_or, from_of, size_of, body_at}
use Rattle.query_parse.proofs.Windows.{body_so}
use Rattle.task_ids.specs.declared.task_id.TaskId.{TaskId}
use Rattle.task_events.specs.declared.context.Context.{Context}
use Rattle.task_events.specs.declared.event.Event.{Event}
use Rattle.task_events.specs.declared.event.Event.TheVariants.{Root, Ask, Put, Pass, End}
use Rattle.task_events.specs.declared.reply.Reply.{Reply}
use Rattle.task_events.specs.declared.reply.Reply.TheVariants.{Search as Found, Top, Hits, AllFailed, Wrote, Cancelled, Rejected}
use Rattle.task_events.specs.declared.request.Request.{Request}
use Rattle.task_events.specs.declared.request.Request.TheVariants as asks
use Rattle.task_events.specs.declared.request.ReindexAsk.{ReindexAsk}
use Rattle.task_events.specs.declared.request.SearchAsk.{SearchAsk}
use Rattle.task_events.specs.Clock.{clock}
use Rattle.task_events.specs.Contexts.{opens_context, opened, after_end}
use Rattle.task_events.specs.Requests.{Scripted, request_of}
use Rattle.task_events.specs.Asks.{request_of_ask}
use Rattle.task_events.specs.Same.{same_task, same_pair}
use Rattle.script_lang.specs.declared.command.Command.{Command}
use Rattle.script_lang.specs.declared.command.Command.TheVariants.{Search, Scroll, ClearScroll, Reindex, Cancel, ListTasks, GetTask, ForgetTask, ListResults, Tick, Deliver, Step, ListStep, Settle, Shuffle, WaitFor, History, Summary}
use Rattle.script_lang.specs.declared.command.Script.{Script}
use Rattle.command_roots.specs.Roots.{scripted, command_at, root_request, request_in, context_named, reindex_of, search_ask, body_or_none, least_size}
use Rattle.search_phase.proofs.Sorting.{by_test}
use Rattle.task_laws.proofs.Same.{same_pair_tells}
use Rattle.world_moves.specs.Owning.{AsksForOwn, IsOwnSearch, OneAtATime}
use Rattle.world_steps.specs.PagesFollow.{first_context}

-- ---- a body

passes : (name : List ℕ) (o : Option ℕ) (n : ℕ) → size_passing name (λ n. not true || n == 0) o ≡ Ok n → n ≡ 0
passes name None n e = absurd (cc)
passes name (Some m) n e =
    by_test (m == 0)
    (λ yes. let f : Ok m ≡ Ok n = rw yes at e in let same : m ≡ n = cc in sym same ∙ eqb-true m 0 yes)
    (λ no. absurd (let f : Err _ ≡ Ok n = rw no at e in cc))

from_none : (d : Option Data) (n : ℕ) → from_of true d ≡ Ok n → n ≡ 0
unfolding from_of
from_none d n e = passes (codes "from") (count_or 0 d) n e

at_least : (least : ℕ) (name : List ℕ) (o : Option ℕ) (n : ℕ) → size_passing name (λ n. nat_le least n) o ≡ Ok n → nat_le least n ≡ true
at_least least name None n e = absurd (cc)
at_least least name (Some m) n e =
    by_test (nat_le least m)
    (λ yes. let f : Ok m ≡ Ok n = rw yes at e in let same : m ≡ n = cc in ap (nat_le least) (sym same) ∙ yes)
    (λ no. absurd (let f : Err _ ≡ Ok n = rw no at e in cc))

size_low : (least : ℕ) (d : Option Data) (n : ℕ) → size_of least d ≡ Ok n → nat_le least n ≡ true
unfolding size_of
size_low least d n e = at_least least (codes "size") (count_or 10 d) n e

-- from the first row on, and so many at least
abbrev AtLeast : ℕ → ℕ → ℕ → Type 0
AtLeast least from size = (from ≡ 0) × (nat_le least size ≡ true)

body_shown : (least : ℕ) (d : Data) (body : SearchBody) → body_at true least d ≡ Ok body → AtLeast least body.from body.size
body_shown least d body e =
    body_so true least (AtLeast least) (λ ms from size from_is size_is low. (from_none (get_member (codes "from") ms) from from_is, size_low least (get_member (codes "size") ms) size size_is)) d body e

-- ---- a command

-- it passes over no rows and shows one at least
pub record ShowsFromFirst (ask : SearchAsk) : Type 0 where
  pub from : ask.body.from ≡ 0
  pub size : nat_le 1 ask.body.size ≡ true

search_shown : (index : List ℕ) (scroll : Option ℕ) (r : Result SearchBody BodyError) (ask : SearchAsk) → ((body : SearchBody) → r ≡ Ok body → is_some scroll ≡ true → AtLeast 1 body.from body.size)
    → option_map asks.Search (option_map (search_ask index scroll) (body_or_none r)) ≡ Some (asks.Search ask) → opens_context ask ≡ true → ShowsFromFirst ask
search_shown index scroll (Err fault) ask shown e opens = absurd (cc)
search_shown index scroll (Ok body) ask shown e opens =
    let same : search_ask index scroll body ≡ ask = cc in
    let kept : is_some scroll || false ≡ true = ap opens_context same ∙ opens in
    let so = shown body refl (or_none (is_some scroll) kept) in
    subst ShowsFromFirst same (record { from = so.0; size = so.1 })
  where
    or_none : (b : Bool) → (b || false) ≡ true → b ≡ true
    or_none true e = refl
    or_none false e = e

scroll_asks_none : (o : Option TaskId) (keep : Option ℕ) (ask : SearchAsk) → option_map (λ id. asks.Scroll (record { id = id; keep = keep; owner = None })) o ≡ Some (asks.Search ask) → ⊥
scroll_asks_none None keep ask e = cc
scroll_asks_none (Some id) keep ask e = cc

reindex_asks_none : (o : Option ReindexAsk) (ask : SearchAsk) → option_map asks.Reindex o ≡ Some (asks.Search ask) → ⊥
reindex_asks_none None ask e = cc
reindex_asks_none (Some copy) ask e = cc

command_shown : (command : Command) (h : List Event) (ask : SearchAsk) → request_in command h ≡ Some (asks.Search ask) → opens_context ask ≡ true → ShowsFromFirst ask
command_shown (Search index node scroll body opaque_id) h ask e opens = search_shown index scroll (body_at (is_some scroll) (least_size scroll) body) ask of_body e opens
  where
    of_body : (b : SearchBody) → body_at (is_some scroll) (least_size scroll) body ≡ Ok b → is_some scroll ≡ true → AtLeast 1 b.from b.size
    of_body b read kept =
        body_shown 1 body b (ap (λ k. body_at k (cond k 1 0) body) (sym kept) ∙ read)
command_shown (Scroll context keep opaque_id) h ask e opens = absurd (scroll_asks_none (context_named context h) keep ask e)
command_shown (Reindex node body slices rate opaque_id store) h ask e opens = absurd (reindex_asks_none (reindex_of (Reindex node body slices rate opaque_id store)) ask e)
command_shown (ClearScroll context) h ask e opens = absurd (cc)
command_shown (Cancel target reason wait) h ask e opens = absurd (cc)
command_shown (ListTasks wanted group detailed) h ask e opens = absurd (cc)
command_shown (GetTask task wait) h ask e opens = absurd (cc)
command_shown (ForgetTask task) h ask e opens = absurd (cc)
command_shown ListResults h ask e opens = absurd (cc)
command_shown (Tick ms) h ask e opens = absurd (cc)
command_shown (Deliver nth) h ask e opens = absurd (cc)
command_shown (Step task) h ask e opens = absurd (cc)
command_shown (ListStep node parent) h ask e opens = absurd (cc)
command_shown Settle h ask e opens = absurd (cc)
command_shown (Shuffle seed moves) h ask e opens = absurd (cc)
command_shown (WaitFor waited) h ask e opens = absurd (cc)
command_shown History h ask e opens = absurd (cc)
command_shown Summary h ask e opens = absurd (cc)

root_shown : (script : Script) (k : ℕ) (h : List Event) (ask : SearchAsk) → root_request script k h ≡ Some (asks.Search ask) → opens_context ask ≡ true → ShowsFromFirst ask
root_shown script k h ask e opens = of_command (command_at script k) e
  where
    of_command : (o : Option Command) → option_and_then (λ command. request_in command h) o ≡ Some (asks.Search ask) → ShowsFromFirst ask
    of_command None f = absurd (cc)
    of_command (Some command) f = command_shown command h ask f opens

-- ---- every past

-- a search that a task asks for is its own
asked_own : (said : Scripted) (p : TaskId) (k : ℕ) (h : List Event) → OneAtATime said h → (ask : SearchAsk) → request_of_ask p k h ≡ Some (asks.Search ask) → IsOwnSearch p ask
asked_own said p k [] alone ask e = absurd (cc)
asked_own said p k (Root j t ∷ h) alone ask e = asked_own said p k h alone.1 ask e
asked_own said p k (Pass t ∷ h) alone ask e = asked_own said p k h alone.1 ask e
asked_own said p k (Ask q j n made ∷ h) alone ask e =
    by_test (same_pair p k q j)
    (λ one.
    let is : Some made ≡ Some (asks.Search ask) = rw one at e in
    let same : made ≡ asks.Search ask = cc in
    subst (λ x. IsOwnSearch x ask) (sym (asker p k q j one)) (subst (AsksForOwn q) same alone.0))
    (λ other. asked_own said p k h alone.1 ask (rw other at e))
  where
    asker : (p : TaskId) (k : ℕ) (q : TaskId) (j : ℕ) → same_pair p k q j ≡ true → p ≡ q
    asker p k q j one = of_case (same_pair_tells p k q j)
      where
        of_case : ((same_pair p k q j ≡ true) × (p ≡ q) × (k ≡ j)) ⊎ ((same_pair p k q j ≡ false) × (p ≡ q → k ≢ j)) → p ≡ q
        of_case (inl (is_one, same, place)) = same
        of_case (inr (differs, apart)) = absurd (let f : false ≡ true = sym differs ∙ one in cc)
asked_own said p k (_ ∷ h) alone ask e = asked_own said p k h alone ask e

module _ (script : Script) where
  abbrev said : Scripted
  said = scripted script

  task_shown : (t : TaskId) (h : List Event) → OneAtATime said h → (ask : SearchAsk) → request_of said t h ≡ Some (asks.Search ask) → opens_context ask ≡ true → ShowsFromFirst ask
  task_shown t [] alone ask e opens = absurd (cc)
  task_shown t (Root k u ∷ h) alone ask e opens =
      by_test (same_task t u)
      (λ own. root_shown script k h ask (rw own at e) opens)
      (λ other. task_shown t h alone.1 ask (rw other at e) opens)
  task_shown t (Put u p k ∷ h) alone ask e opens =
      by_test (same_task t u)
      (λ own. let first = asked_own said p k h alone ask (rw own at e) in record { from = first.from; size = first.some })
      (λ other. task_shown t h alone ask (rw other at e) opens)
  task_shown t (Ask p k n r ∷ h) alone ask e opens = task_shown t h alone.1 ask e opens
  task_shown t (Pass u ∷ h) alone ask e opens = task_shown t h alone.1 ask e opens
  task_shown t (_ ∷ h) alone ask e opens = task_shown t h alone ask e opens

  -- the end that opens a context is that of a search which opens one
  opened_by : (now : ℕ) (t : TaskId) (q : Option Request) (reply : Reply) (id : TaskId) (c : Context) → after_end now t q reply id None ≡ Some c → (q ≡ Some (asks.Search c.ask)) × (opens_context c.ask ≡ true)
  opened_by now t None reply id c e = absurd (cc)
  opened_by now t (Some (asks.Query ask)) reply id c e = absurd (cc)
  opened_by now t (Some (asks.Fetch ask)) reply id c e = absurd (cc)
  opened_by now t (Some (asks.Reindex ask)) reply id c e = absurd (cc)
  opened_by now t (Some (asks.Slice ask)) reply id c e = absurd (cc)
  opened_by now t (Some (asks.Bulk ask)) reply id c e = absurd (cc)
  opened_by now t (Some (asks.BulkShard ask)) reply id c e = absurd (cc)
  opened_by now t (Some (asks.Scroll ask)) reply id c e = by_test (same_task ask.id id) (λ own. absurd (let f : None ≡ Some c = rw own at e in cc)) (λ other. absurd (let f : None ≡ Some c = rw other at e in cc))
  opened_by now t (Some (asks.Search ask)) (Top top) id c e = absurd (cc)
  opened_by now t (Some (asks.Search ask)) (Hits hits) id c e = absurd (cc)
  opened_by now t (Some (asks.Search ask)) (Wrote counts) id c e = absurd (cc)
  opened_by now t (Some (asks.Search ask)) (AllFailed failed) id c e = absurd (cc)
  opened_by now t (Some (asks.Search ask)) (Cancelled task cancel counts) id c e = absurd (cc)
  opened_by now t (Some (asks.Search ask)) (Rejected node) id c e = absurd (cc)
  opened_by now t (Some (asks.Search ask)) (Found found) id c e =
      by_test (same_task t id)
      (λ own. by_test (opens_context ask)
      (λ opens.
      let f : Some (opened id ask found now) ≡ Some c = rw (own, opens) at e in
      let same : opened id ask found now ≡ c = cc in
      let asked : ask ≡ c.ask = ap (λ (x : Context). x.ask) same in
      (ap (λ a. Some (asks.Search a)) asked, ap opens_context (sym asked) ∙ opens))
      (λ none. absurd (let f : None ≡ Some c = rw (own, none) at e in cc)))
      (λ other. absurd (let f : None ≡ Some c = rw other at e in cc))

  pub context_shown : (id : TaskId) (h : List Event) → OneAtATime said h → (c : Context) → first_context said id h ≡ Some c → ShowsFromFirst c.ask
  context_shown id [] alone c e = absurd (cc)
  context_shown id (Root k u ∷ h) alone c e = context_shown id h alone.1 c e
  context_shown id (Ask p k n r ∷ h) alone c e = context_shown id h alone.1 c e
  context_shown id (Pass t ∷ h) alone c e = context_shown id h alone.1 c e
  context_shown id (End t reply ∷ h) alone c e = of_end (after_end (clock h) t (request_of said t h) reply id None) refl e (context_shown id h alone c)
    where
      of_end : (o : Option Context) → after_end (clock h) t (request_of said t h) reply id None ≡ o → option_or o (first_context said id h) ≡ Some c → (first_context said id h ≡ Some c → ShowsFromFirst c.ask) → ShowsFromFirst c.ask
      of_end None is f earlier = earlier f
      of_end (Some d) is f earlier = let o = opened_by (clock h) t (request_of said t h) reply id c (is ∙ f) in task_shown t h alone c.ask o.0 o.1
  context_shown id (_ ∷ h) alone c e = context_shown id h alone c e
