-- Each context was opened by a search of the script, as one more opens, as a page turns one, and as some go.
use Rattle.std.proofs.Common.{◌≡◌, ◌⊎◌, inl, inr, ℕ, ◌+◌, Bool, true, false, not, ◌&&◌, cond, Option, None, Some, Result, Ok, Err, refl, sym, ap, ◌∙◌, subst}
use Rattle.std.specs.Prelude.{IsSome, IsSomeAnd}
use Rattle.std.specs.FinMap.{empty, get, insert, remove, get-empty, get-insert, get-remove}
use Rattle.std.specs.Option.{unwrap_or}
use Rattle.std.specs.Ordering.{eq_by_cmp, is_eq}
use Rattle.std.specs.declared.cmp.Ordering.{Ordering}
use Rattle.std.specs.declared.cmp.Ordering.TheVariants.{Less, Equal, Greater}
use Rattle.std.proofs.lemmas.Bool.{cases_Bool}
use Rattle.scroll_table.specs.Contexts.{answer_for}
use Rattle.scroll_table.specs.declared.context.PageError.{PageError}
use Rattle.script_lang.specs.declared.command.Command.{Command}
use Rattle.script_lang.specs.declared.command.Command.TheVariants.{ClearScroll, Tick}
use Rattle.task_events.specs.Allowed.{is_rejection}
use Rattle.task_events.specs.Contexts.{can_clear, given_back, is_busy, is_expired, is_owned_by, unexpired, with_use}
use Rattle.task_events.specs.declared.context.Context.{Context}
use Rattle.task_events.specs.declared.reply.Reply.{Reply}
use Rattle.task_events.specs.declared.request.ScrollAsk.{ScrollAsk}
use Rattle.task_ids.proofs.TaskIdKeys.{exact_ids, ids_total}
use Rattle.task_ids.specs.TaskIdOrder.{task_id_cmp}
use Rattle.task_ids.specs.declared.task_id.TaskId.{TaskId}
use Rattle.node_link.specs.Lawful.{IsCommand}
use Rattle.node_link.specs.declared.page.Page.{Page}
use Rattle.reply_facts.specs.Letters.{IsPageFor}
use Rattle.reply_facts.specs.Plainly.{AreWhole}
use Rattle.reply_facts.specs.Settings.{Setting, Sought, lines_in, sought_by}
use Rattle.run_book.specs.declared.book.Book.{Book}
use Rattle.run_book.specs.declared.contexts.Contexts.{Contexts}
use Rattle.run_book.specs.Begun.{Leaves, context_in, contexts_without, opener_in, page_at}
use Rattle.run_book.specs.Contexts.{AreOpened, IsOpenedBy, Table, after_page, cursor_of, page_in, page_of, turned_by}

pub none_opened : (run : Setting) → AreOpened run (record { table = empty; openers = empty })
none_opened run = λ id c there. absurd (let none : Some c ≡ None = sym there ∙ get-empty task_id_cmp id in cc)

-- a context that is lent stands there
stands : (now : ℕ) (o : Option Context) (c : Context) → answer_for None now o ≡ Ok c → o ≡ Some c
stands now None c e = absurd cc
stands now (Some d) c e = by_use (cases_Bool (is_owned_by None d && not (is_expired now d))) (cases_Bool (is_busy d))
  where
    by_use : ((is_owned_by None d && not (is_expired now d)) ≡ true) ⊎ ((is_owned_by None d && not (is_expired now d)) ≡ false) → (is_busy d ≡ true) ⊎ (is_busy d ≡ false) → Some d ≡ Some c
    by_use (inl may) (inl busy) = absurd (let it = rw (may, busy) at e in cc)
    by_use (inl may) (inr free) = (let it = rw (may, free) at e in cc)
    by_use (inr may) use_of = absurd (let it = rw may at e in cc)

same_key : (q id : TaskId) → eq_by_cmp task_id_cmp q id ≡ true → q ≡ id
same_key q id e = exact_ids q id (tied (task_id_cmp q id) e)
  where
    tied : (o : Ordering) → is_eq o ≡ true → o ≡ Equal
    tied Less e = absurd cc
    tied Equal e = refl
    tied Greater e = absurd cc

module _ (run : Setting) (contexts : Contexts) (are : AreOpened run contexts) where
  -- ---- one more

  module _ (id : TaskId) (c : Context) (k : ℕ) (is : IsOpenedBy run c k) where
    by_key : (q : TaskId) (d : Context) (b : Bool) → cond b (Some c) (get contexts.table q) ≡ Some d → IsSomeAnd (cond b (Some k) (get contexts.openers q)) (IsOpenedBy run d)
    by_key q d true there = let same : c ≡ d = cc in subst (λ x. IsOpenedBy run x k) same is
    by_key q d false there = are q d there

    pub one_more : (after : Contexts) → after.table ≡ insert contexts.table id c → after.openers ≡ insert contexts.openers id k → AreOpened run after
    one_more after table openers = λ q d there.
        let at : get after.table q ≡ cond (eq_by_cmp task_id_cmp q id) (Some c) (get contexts.table q) = ap (λ (t : Table). get t q) table ∙ get-insert ids_total contexts.table id c q in
        let of : get after.openers q ≡ cond (eq_by_cmp task_id_cmp q id) (Some k) (get contexts.openers q) = ap (λ o. get o q) openers ∙ get-insert ids_total contexts.openers id k q in
        subst (λ o. IsSomeAnd o (IsOpenedBy run d)) (sym of) (by_key q d (eq_by_cmp task_id_cmp q id) (sym at ∙ there))

  -- ---- others that stand for the same pages but for the cursor

  abbrev StandsFor : TaskId → Context → Type 0
  StandsFor q d = (e : Context) × (get contexts.table q ≡ Some e) × (e.ask ≡ d.ask) × (e.shards ≡ d.shards)

  same_page : (e d : Context) (k : ℕ) → e.ask ≡ d.ask → e.shards ≡ d.shards → IsOpenedBy run e k → IsOpenedBy run d k
  same_page e d k ask shards is = (is.0, by_sought (run.sought k) is.1)
    where
      of_page : (q : Sought) → IsPageFor run q (page_of e) → IsPageFor run q (page_of d)
      of_page q page = record {
        looks = ap sought_by (sym ask) ∙ page.looks;
        counts = λ steady. subst (λ a. AreWhole a (lines_in run q.index) d.shards) ask (subst (λ s. AreWhole e.ask (lines_in run q.index) s) shards (page.counts steady));
      }

      by_sought : (o : Option Sought) → IsSomeAnd o (λ q. IsPageFor run q (page_of e)) → IsSomeAnd o (λ q. IsPageFor run q (page_of d))
      by_sought None none = none
      by_sought (Some q) page = of_page q page

  pub same_pages : (after : Contexts) → after.openers ≡ contexts.openers → ((q : TaskId) (d : Context) → get after.table q ≡ Some d → StandsFor q d) → AreOpened run after
  same_pages after openers same = λ q d there. by_pair q d (same q d there)
    where
      by_opener : (e d : Context) → e.ask ≡ d.ask → e.shards ≡ d.shards → (o : Option ℕ) → IsSomeAnd o (IsOpenedBy run e) → IsSomeAnd o (IsOpenedBy run d)
      by_opener e d ask shards None none = none
      by_opener e d ask shards (Some k) is = same_page e d k ask shards is

      by_pair : (q : TaskId) (d : Context) → StandsFor q d → IsSomeAnd (get after.openers q) (IsOpenedBy run d)
      by_pair q d (e, there, ask, shards) = subst (λ o. IsSomeAnd (get o q) (IsOpenedBy run d)) (sym openers) (by_opener e d ask shards (get contexts.openers q) (are q e there))

  -- a page turns one
  pub page_turned : (now : ℕ) (ask : ScrollAsk) (reply : Reply) → AreOpened run (after_page contexts now ask reply)
  page_turned now ask reply = by_test (cases_Bool (is_rejection reply))
    where
      turned : Result Context PageError → Contexts
      turned answer = record contexts { table = turned_by answer contexts.table ask (cursor_of reply) now }

      by_context : (c : Context) → get contexts.table ask.id ≡ Some c → AreOpened run (turned (Ok c))
      by_context c at = same_pages (turned (Ok c)) refl (λ q d there.
          by_key_of q d (eq_by_cmp task_id_cmp q ask.id) refl
          (ap (cond (eq_by_cmp task_id_cmp q ask.id) (Some back)) (sym (get-insert ids_total contexts.table ask.id used q)) ∙ sym (get-insert ids_total (insert contexts.table ask.id used) ask.id back q) ∙ there))
        where
          used : Context
          used = with_use now ask.keep ask.id c

          back : Context
          back = given_back (cursor_of reply) now used

          by_key_of : (q : TaskId) (d : Context) (b : Bool) → eq_by_cmp task_id_cmp q ask.id ≡ b → cond b (Some back) (cond b (Some used) (get contexts.table q)) ≡ Some d → StandsFor q d
          by_key_of q d true same there =
              let is : back ≡ d = cc in
              (c, ap (get contexts.table) (same_key q ask.id same) ∙ at, ap (λ (x : Context). x.ask) is, ap (λ (x : Context). x.shards) is)
          by_key_of q d false same there = (d, there, refl, refl)

      by_answer : (answer : Result Context PageError) → answer_for None now (get contexts.table ask.id) ≡ answer → AreOpened run (turned answer)
      by_answer (Ok c) e = by_context c (stands now (get contexts.table ask.id) c e)
      by_answer (Err error) e = are

      by_test : (is_rejection reply ≡ true) ⊎ (is_rejection reply ≡ false) → AreOpened run (after_page contexts now ask reply)
      by_test (inl holds) = rw holds are
      by_test (inr fails) = rw fails (by_answer (answer_for None now (get contexts.table ask.id)) refl)

  -- ---- those that are left

  one_less : (id : TaskId) → AreOpened run (record contexts { table = remove contexts.table id })
  one_less id = same_pages (record contexts { table = remove contexts.table id }) refl (λ q d there. by_key_of q d (eq_by_cmp task_id_cmp q id) (sym (get-remove ids_total contexts.table id q) ∙ there))
    where
      by_key_of : (q : TaskId) (d : Context) (b : Bool) → cond b None (get contexts.table q) ≡ Some d → StandsFor q d
      by_key_of q d true there = absurd cc
      by_key_of q d false there = (d, there, refl, refl)

  left : (now : ℕ) (o : Option Context) (d : Context) → unexpired now o ≡ Some d → o ≡ Some d
  left now None d e = absurd cc
  left now (Some c) d e = by_test (cases_Bool (is_expired now c))
    where
      by_test : (is_expired now c ≡ true) ⊎ (is_expired now c ≡ false) → Some c ≡ Some d
      by_test (inl holds) = absurd (let it = rw holds at e in cc)
      by_test (inr fails) = rw fails at e

  unexpired_stay : (after : Contexts) (now : ℕ) → after.openers ≡ contexts.openers → ((id : TaskId) → get after.table id ≡ unexpired now (get contexts.table id)) → AreOpened run after
  unexpired_stay after now openers is = same_pages after openers (λ q d there. (d, left now (get contexts.table q) d (sym (is q) ∙ there), refl, refl))

-- after a command has begun
module _ {W : Type 0} (run : Setting) (book : Book W) (are : AreOpened run book.contexts) where
  cleared : (named : Option TaskId) → AreOpened run (contexts_without book named)
  cleared None = are
  cleared (Some id) = by_test (cases_Bool (can_clear None (get book.contexts.table id)))
    where
      by_test : (can_clear None (get book.contexts.table id) ≡ true) ⊎ (can_clear None (get book.contexts.table id) ≡ false) → AreOpened run (contexts_without book (Some id))
      by_test (inl holds) = rw holds (one_less run book.contexts are id)
      by_test (inr fails) = rw fails are

  pub left_opened : (command : Command) (after : Contexts) → Leaves book command after → AreOpened run after
  left_opened (ClearScroll context) after is = subst (AreOpened run) (sym is) (cleared (context_in book context))
  left_opened (Tick ms) after is = unexpired_stay run book.contexts are after (book.clock + ms) is.1 is.0
  left_opened _ after is = subst (AreOpened run) (sym is) are

  -- ---- the page of a scroll

  -- the context at which it stands, and the search that opened that
  shown_by : (id : TaskId) (page : Page) → page_at book id ≡ Some page → (c : Context) × (get book.contexts.table id ≡ Some c) × (page_of c ≡ page)
  shown_by id page at = by_answer (answer_for None book.clock (get book.contexts.table id)) refl at
    where
      by_answer : (answer : Result Context PageError) → answer_for None book.clock (get book.contexts.table id) ≡ answer → page_in answer ≡ Some page → (c : Context) × (get book.contexts.table id ≡ Some c) × (page_of c ≡ page)
      by_answer (Ok c) e some = (c, stands book.clock (get book.contexts.table id) c e, (let same : page_of c ≡ page = cc in same))
      by_answer (Err error) e some = absurd cc

  pub page_opened : (k : ℕ) (id : TaskId) (page : Page) → page_at book id ≡ Some page → IsCommand (opener_in book k id) × IsSomeAnd (run.sought (opener_in book k id)) (λ q. IsPageFor run q page)
  page_opened k id page at =
      let by = shown_by id page at in
      of_opener by.0 by.2 (get book.contexts.openers id) (are id by.0 by.1)
    where
      of_opener : (c : Context) → page_of c ≡ page → (o : Option ℕ) → IsSomeAnd o (IsOpenedBy run c) → IsCommand (unwrap_or o k) × IsSomeAnd (run.sought (unwrap_or o k)) (λ q. IsPageFor run q page)
      of_opener c same None is = absurd is
      of_opener c same (Some search) is = (is.0, subst (λ p. IsSomeAnd (run.sought search) (λ q. IsPageFor run q p)) same is.1)

  known : {T : Type 0} (o : Option T) (P : T → Type 0) → IsSomeAnd o P → IsSome o
  known None P is = absurd is
  known (Some x) P is = refl

  pub page_sought : (k : ℕ) (id : TaskId) (page : Page) → page_at book id ≡ Some page → IsSome (run.sought (opener_in book k id))
  page_sought k id page at = known (run.sought (opener_in book k id)) (λ q. IsPageFor run q page) (page_opened k id page at).1
