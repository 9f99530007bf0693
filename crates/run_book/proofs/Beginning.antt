-- A command is as far as it can be as it begins.
use Rattle.std.proofs.Common.{◌≡◌, ◌⊎◌, inl, inr, ℕ, ◌+◌, Bool, true, false, List, length, take, Option, None, Some, Result, Ok, Err, refl, sym, ap, subst, ◌∙◌, arith}
use Rattle.std.specs.Prelude.{IsSome, IsSomeAnd, is_some, slice_get}
use Rattle.std.proofs.lemmas.Bool.{cases_Bool}
use Rattle.std.proofs.lemmas.List.{length-replicate}
use Rattle.command_roots.specs.Reindexes.{reindex_ask}
use Rattle.command_roots.specs.Roots.{least_size}
use Rattle.node_link.specs.declared.body.Body.{Body}
use Rattle.query_match.specs.declared.body.SearchBody.{SearchBody}
use Rattle.query_parse.specs.Bodies.{body_at}
use Rattle.query_parse.specs.Reindexes.{reindex_at}
use Rattle.query_parse.specs.declared.fault.BodyError.{BodyError}
use Rattle.query_parse.specs.declared.fault.ReindexError.{ReindexError}
use Rattle.query_parse.specs.declared.reindex_body.ReindexBody.{ReindexBody}
use Rattle.reply_facts.specs.Settings.{Setting}
use Rattle.run_facts.specs.Cancels.{cancels_of}
use Rattle.run_facts.specs.declared.Post.{Post}
use Rattle.script_lang.specs.declared.command.CancelTarget.{CancelTarget}
use Rattle.script_lang.specs.declared.command.CancelTarget.TheVariants as targets
use Rattle.script_lang.specs.declared.command.Command.{Command}
use Rattle.script_lang.specs.declared.command.Command.TheVariants.{Search, Scroll, ClearScroll, Reindex, Cancel, ListTasks, GetTask, ForgetTask, ListResults, Tick, Deliver, Step, ListStep, Settle, Shuffle, WaitFor, History, Summary}
use Rattle.task_events.specs.declared.request.ReindexAsk.{ReindexAsk}
use Rattle.task_ids.specs.declared.task_id.TaskId.{TaskId}
use Rattle.node_link.specs.declared.page.Page.{Page}
use Rattle.run_book.specs.declared.book.Book.{Book}
use Rattle.run_book.specs.declared.entry.State.{State}
use Rattle.run_book.specs.declared.starts.Asks.{Asks}
use Rattle.run_book.specs.declared.starts.Asks.TheVariants as asked
use Rattle.line_print.specs.declared.reply.LineReply.TheVariants as replies
use Rattle.task_events.specs.declared.request.Request.TheVariants as requests
use Rattle.run_book.specs.Notes.{moment_after, names_one, tick_of}
use Rattle.run_book.specs.Begun.{Begins, cancelled, cancelled_if, cancelled_task, context_in, is_node_of, opener_in, page_at, reindex_asks, scrolled, scrolled_if, search_asks, started}
use Rattle.run_book.specs.Entries.{IsState, Keeps, is_known_to, parts_in, root_of}
use Rattle.run_book.proofs.Opened.{page_sought}
use Rattle.run_book.proofs.Sums.{next_moment}

-- a reindex whose source is known starts with what its body asks
pub asks_for : (known : List ℕ → Bool) (slices : ℕ) (rate : Option ℕ) (read : ReindexBody) (ask : ReindexAsk) → known read.source ≡ true → reindex_ask read slices rate ≡ Some ask → reindex_asks known slices rate (Ok read) ≡ Some (asked.Task (requests.Reindex ask))
asks_for known slices rate read ask is some = rw (is, some) refl

module _ (allowed : ℕ → Type 0) (run : Setting) (known : List ℕ → Bool) (script : List Command) (parts k : ℕ) where
  abbrev Fit : Command → State → Type 0
  Fit c s = IsState allowed run known script parts k c s

  -- ---- searches

  search_fits : (index : List ℕ) (node : ℕ) (scroll : Option ℕ) (body : _) (opaque_id : _) (read : Result SearchBody BodyError) → body_at (is_some scroll) (least_size scroll) body ≡ read
      → Fit (Search index node scroll body opaque_id) (started k (Search index node scroll body opaque_id) node (search_asks known index scroll read)).0
  search_fits index node scroll body opaque_id (Err fault) is = rw is refl
  search_fits index node scroll body opaque_id (Ok read) is = by_test (cases_Bool (known index))
    where
      by_test : (known index ≡ true) ⊎ (known index ≡ false) → Fit (Search index node scroll body opaque_id) (started k (Search index node scroll body opaque_id) node (search_asks known index scroll (Ok read))).0
      by_test (inl holds) = rw (holds, is) refl
      by_test (inr fails) = rw (fails, is) (refl, fails)

  -- ---- reindexes

  reindex_fits : (node : ℕ) (body : _) (slices : ℕ) (rate : Option ℕ) (opaque_id : _) (store : Bool) (read : Result ReindexBody ReindexError) (asks : Asks) → reindex_at body ≡ read → reindex_asks known slices rate read ≡ Some asks
      → Fit (Reindex node body slices rate opaque_id store) (started k (Reindex node body slices rate opaque_id store) node asks).0
  reindex_fits node body slices rate opaque_id store (Err fault) asks is asked_is =
      let it : asked.Nothing (replies.BadReindex fault) ≡ asks = cc in
      rw (← it) is
  reindex_fits node body slices rate opaque_id store (Ok read) asks is asked_is = by_test (cases_Bool (known read.source))
    where
      by_ask : known read.source ≡ true → (ask : Option _) → reindex_ask read slices rate ≡ ask → Fit (Reindex node body slices rate opaque_id store) (started k (Reindex node body slices rate opaque_id store) node asks).0
      by_ask holds None none = let it = rw (holds, none) at asked_is in absurd (cc)
      by_ask holds (Some ask) some =
          let it = rw (holds, some) at asked_is in
          let of : asked.Task (requests.Reindex ask) ≡ asks = cc in
          rw (← of) tt

      by_test : (known read.source ≡ true) ⊎ (known read.source ≡ false) → Fit (Reindex node body slices rate opaque_id store) (started k (Reindex node body slices rate opaque_id store) node asks).0
      by_test (inl holds) = by_ask holds (reindex_ask read slices rate) refl
      by_test (inr fails) =
          let it = rw fails at asked_is in
          let of : asked.Nothing (replies.NoIndex read.source) ≡ asks = cc in
          rw (← of, is) (refl, fails)

  -- ---- scrolls

  page_fits : (context : _) (keep : Option ℕ) (opaque_id : _) (id : TaskId) (search : ℕ) (page : Option Page) → ((p : Page) → page ≡ Some p → IsSome (run.sought search)) → Fit (Scroll context keep opaque_id) (scrolled k (Scroll context keep opaque_id) id keep search page).0
  page_fits context keep opaque_id id search None sought = refl
  page_fits context keep opaque_id id search (Some page) sought = sought page refl

  scroll_fits : (context : _) (keep : Option ℕ) (opaque_id : _) (opener_in : TaskId → ℕ) (page_at : TaskId → Option Page) → ((id : TaskId) (p : Page) → page_at id ≡ Some p → IsSome (run.sought (opener_in id)))
      → (named : Option TaskId) → Fit (Scroll context keep opaque_id) (scrolled_if k (Scroll context keep opaque_id) keep opener_in page_at named).0
  scroll_fits context keep opaque_id opener_in page_at sought None = refl
  scroll_fits context keep opaque_id opener_in page_at sought (Some id) = page_fits context keep opaque_id id (opener_in id) (page_at id) (sought id)

  -- ---- cancels

  task_fits : (target : CancelTarget) (reason : _) (wait : Bool) (nodes : ℕ) (task : TaskId) → names_one target ≡ true → Fit (Cancel target reason wait) (cancelled_task nodes k task wait).0
  task_fits target reason wait nodes task one = by_test (cases_Bool (is_node_of nodes task.node))
    where
      by_test : (is_node_of nodes task.node ≡ true) ⊎ (is_node_of nodes task.node ≡ false) → Fit (Cancel target reason wait) (cancelled_task nodes k task wait).0
      by_test (inl holds) = rw holds (one, refl)
      by_test (inr fails) = rw fails one

  root_fits : (number : ℕ) (reason : _) (wait : Bool) (nodes : ℕ) (root : Option TaskId) → Fit (Cancel (targets.Command number) reason wait) (cancelled_if nodes k root wait).0
  root_fits number reason wait nodes None = refl
  root_fits number reason wait nodes (Some task) = task_fits (targets.Command number) reason wait nodes task refl

  cancel_fits : (target : CancelTarget) (reason : _) (wait : Bool) (nodes workers : ℕ) (root : ℕ → Option TaskId) → Fit (Cancel target reason wait) (cancelled nodes workers root k target wait).0
  cancel_fits (targets.Task task) reason wait nodes workers root = task_fits (targets.Task task) reason wait nodes task refl
  cancel_fits (targets.Command number) reason wait nodes workers root = root_fits number reason wait nodes (root number)
  cancel_fits (targets.Matching filter) reason wait nodes workers root = (refl, refl)

-- what an option gives satisfies a predicate that holds of it
given : {T : Type 0} (o : Option T) (P : T → Type 0) → IsSomeAnd o P → (x : T) × (o ≡ Some x) × P x
given None P p = absurd p
given (Some x) P p = (x, refl, p)

module _ {W : Type 0} (cancels : ℕ → Type 0) (run : Setting) (book : Book W) where
  abbrev Now : ℕ → Command → State → Type 0
  Now k c s = IsState (cancels_of cancels) run (is_known_to book) book.script.now (parts_in book) k c s

  moved : (c : Command) → Keeps cancels run book → slice_get book.script.now (length book.entries.items) ≡ Some c → book.clock + tick_of c ≡ moment_after (take (length book.entries.items + 1) book.script.now)
  moved c keeps there = ap (λ (n : ℕ). n + tick_of c) keeps.clock ∙ sym (next_moment book.script.now (length book.entries.items) c there)

  stands : (c : Command) → tick_of c ≡ 0 → Keeps cancels run book → slice_get book.script.now (length book.entries.items) ≡ Some c → book.clock ≡ moment_after (take (length book.entries.items + 1) book.script.now)
  stands c none keeps there = let it = moved c keeps there in let zero_more : book.clock + tick_of c ≡ book.clock = omega (arith, none) in sym zero_more ∙ it

  -- what a command comes to that begins next fits it
  pub begins_fit : (k : ℕ) (c : Command) (state : State) (posts : List (Post Body)) → Keeps cancels run book → k ≡ length book.entries.items + 1 → slice_get book.script.now (length book.entries.items) ≡ Some c → Begins book k c state posts → Now k c state
  begins_fit k (Search index node scroll body opaque_id) state posts keeps is there begins = subst (Now k (Search index node scroll body opaque_id)) (sym begins.0) (search_fits (cancels_of cancels) run (is_known_to book) book.script.now (parts_in book) k index node scroll body opaque_id (body_at (is_some scroll) (least_size scroll) body) refl)
  begins_fit k (Scroll context keep opaque_id) state posts keeps is there begins = subst (Now k (Scroll context keep opaque_id)) (sym begins.0) (scroll_fits (cancels_of cancels) run (is_known_to book) book.script.now (parts_in book) k context keep opaque_id (opener_in book k) (page_at book) (page_sought run book keeps.contexts k) (context_in book context))
  begins_fit k (ClearScroll context) state posts keeps is there begins = subst (Now k (ClearScroll context)) (sym begins.0) refl
  begins_fit k (Reindex node body slices rate opaque_id store) state posts keeps is there begins =
      let it = given (reindex_asks (is_known_to book) slices rate (reindex_at body)) _ begins in
      subst (Now k (Reindex node body slices rate opaque_id store)) (sym it.2.0) (reindex_fits (cancels_of cancels) run (is_known_to book) book.script.now (parts_in book) k node body slices rate opaque_id store (reindex_at body) it.0 refl it.1)
  begins_fit k (Cancel target reason wait) state posts keeps is there begins = subst (Now k (Cancel target reason wait)) (sym begins.0) (cancel_fits (cancels_of cancels) run (is_known_to book) book.script.now (parts_in book) k target reason wait book.nodes book.workers (root_of book.entries.items))
  begins_fit k (ListTasks filter group detailed) state posts keeps is there begins = subst (Now k (ListTasks filter group detailed)) (sym begins.0) (refl, rw is (stands (ListTasks filter group detailed) refl keeps there), length-replicate (parts_in book) false)
  begins_fit k (GetTask task wait) state posts keeps is there begins = subst (Now k (GetTask task wait)) (sym begins.0) refl
  begins_fit k (ForgetTask task) state posts keeps is there begins = subst (Now k (ForgetTask task)) (sym begins.0) refl
  begins_fit k ListResults state posts keeps is there begins = subst (Now k ListResults) (sym begins.0) refl
  begins_fit k (Tick ms) state posts keeps is there begins = subst (Now k (Tick ms)) (sym begins.0) (refl, rw is (moved (Tick ms) keeps there))
  begins_fit k (Deliver nth) state posts keeps is there begins = subst (Now k (Deliver nth)) (sym begins.0) refl
  begins_fit k (Step task) state posts keeps is there begins = subst (Now k (Step task)) (sym begins.0) refl
  begins_fit k (ListStep node parent) state posts keeps is there begins = subst (Now k (ListStep node parent)) (sym begins.0) refl
  begins_fit k Settle state posts keeps is there begins = subst (Now k Settle) (sym begins.0) refl
  begins_fit k (Shuffle seed moves) state posts keeps is there begins = subst (Now k (Shuffle seed moves)) (sym begins.0) refl
  begins_fit k (WaitFor command) state posts keeps is there begins = subst (Now k (WaitFor command)) (sym begins.0) refl
  begins_fit k History state posts keeps is there begins = subst (Now k History) (sym begins.0) refl
  begins_fit k Summary state posts keeps is there begins = subst (Now k Summary) (sym begins.0) refl
