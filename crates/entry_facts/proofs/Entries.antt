-- What a core keeps of a live task stays with each thing that it notes of the task.
use Rattle.std.proofs.Common.{◌≡◌, ℕ, ◌-◌, true, List, [], ◌∷◌, Option, Some, None, sym, ap, subst}
use Rattle.std.specs.Prelude.{◌==◌, IfSome, option_copied, slice_get}
use Rattle.std.specs.List.{list_any}
use Rattle.child_track.specs.Token.{Token}
use Rattle.task_ids.proofs.Each.{all_here, all_joined}
use Rattle.task_ids.specs.declared.doc.Doc.{Doc}
use Rattle.task_ids.specs.declared.task_id.TaskId.{TaskId}
use Rattle.task_events.specs.Answered.{as_answered}
use Rattle.task_events.specs.Kinds.{kind_of}
use Rattle.task_events.specs.declared.answered.AnsweredRequest.{AnsweredRequest}
use Rattle.task_events.specs.declared.reply.Reply.{Reply}
use Rattle.task_work.specs.Works.{BrokeOff, can_ask, place_of, work_takes, work_with_answer, work_with_ask}
use Rattle.task_work.specs.declared.work.Work.{Work}
use Rattle.node_link.specs.declared.body.Place.{Place}
use Rattle.node_link.specs.declared.page.Page.{Page}
use Rattle.node_parts.specs.Running.{next_number}
use Rattle.data_parts.proofs.Grown.{answered_place, asked_place, lost_place, new_place, turned_place}
use Rattle.held_shards.specs.Held.{holds}
use Rattle.held_shards.specs.declared.HeldShards.{HeldShards}
use Rattle.live_tasks.specs.Entries.{after_answer, after_ask, after_look, closed, passed, with_work}
use Rattle.live_tasks.specs.Registers.{IsNewEntry, new_entry}
use Rattle.live_tasks.specs.Turning.{TurnedOn}
use Rattle.live_tasks.specs.declared.entry.Entry.{Entry}
use Rattle.live_tasks.specs.declared.wanted.Wanted.{Wanted}
use Rattle.reply_facts.specs.Letters.{IsAnswerAt, IsPageAt, IsRequestAt}
use Rattle.reply_facts.specs.Settings.{Setting}
use Rattle.work_facts.specs.Works.{IsWorkOfRun}
use Rattle.task_work.specs.Awaiting.{IsAskedBy}
use Rattle.work_facts.proofs.Moves.{KeepsOn, answer_keeps_on, ask_keeps_on, loss_keeps_on, turn_keeps_on, work_keeps_on}
use Rattle.work_facts.proofs.New.{IsOver, new_work_keeps}
use Rattle.entry_facts.specs.Entries.{AreSteady, IsEntryOfRun, writes_for}
use Rattle.entry_facts.proofs.Shards.{over_lines}

module _ (run : Setting) (held : HeldShards) where
  abbrev IsHeld : Option (List ℕ × ℕ) → Type 0
  IsHeld o = IfSome o (λ p. holds held p.1 ≡ true)

  -- ---- its check and its mark

  pub passed_of_run : (e : Entry) → IsEntryOfRun run held e → IsEntryOfRun run held (passed e)
  passed_of_run e h = record { asked = h.asked; shown = h.shown; work = h.work; on = h.on; children = h.children }

  pub closed_of_run : (e : Entry) (cancel : ℕ) → IsEntryOfRun run held e → IsEntryOfRun run held (closed e cancel)
  closed_of_run e cancel h = record { asked = h.asked; shown = h.shown; work = h.work; on = h.on; children = h.children }

  pub looked_of_run : (e : Entry) (mark : Option ℕ) → IsEntryOfRun run held e → IsEntryOfRun run held (after_look e mark)
  looked_of_run e None h = h
  looked_of_run e (Some cancel) h = closed_of_run e cancel h

  -- ---- its asks and their answers

  pub asked_of_run : (e : Entry) (to : ℕ) (child : Place) → child.search ≡ e.place.search → can_ask e.running.work (next_number e.running) ≡ true → IsEntryOfRun run held e → IsEntryOfRun run held (after_ask e to child)
  asked_of_run e to child own can h =
      let w = e.running.work in
      let n = next_number e.running in
      record {
        asked = h.asked;
        shown = h.shown;
        work = work_keeps_on run e.place e.running.ticket.id e.request e.page w (work_with_ask w n) h.work (ask_keeps_on run e.place w n can h.work.keeps);
        on = subst IsHeld (sym (asked_place w n)) h.on;
        children = all_joined (λ (p : Place). p.search ≡ e.place.search) e.asked (child ∷ []) h.children (own, tt);
      }

  -- the answer is of the place that was asked for, and to what was asked
  pub answered_of_run : (e : Entry) (ask : ℕ) (child : Place) (request : AnsweredRequest) (page : Option Page) (reply : Reply) (now : ℕ) → slice_get e.asked (ask - 1) ≡ Some child → work_takes e.running.work ask reply ≡ true → IsAskedBy e.running.work ask request
      → IsAnswerAt run child request page reply → IsEntryOfRun run held e → IsEntryOfRun run held (after_answer e ask reply now)
  answered_of_run e ask child request page reply now at t by_it tells h =
      let w = e.running.work in
      let own : child.search ≡ e.place.search = all_here (λ (p : Place). p.search ≡ e.place.search) e.asked (ask - 1) child h.children at in
      record {
        asked = h.asked;
        shown = h.shown;
        work = work_keeps_on run e.place e.running.ticket.id e.request e.page w (work_with_answer w ask reply now) h.work
            (answer_keeps_on run e.place child (ap run.sought own) request page reply tells ask w now t by_it h.work.keeps);
        on = subst IsHeld (sym (answered_place w ask reply now)) h.on;
        children = h.children;
      }

-- ---- other shards are held, of the same numbers

pub held_of_run : (run : Setting) (old new : HeldShards) (e : Entry) → new.numbers ≡ old.numbers → IsEntryOfRun run old e → IsEntryOfRun run new e
held_of_run run old new e same h = record {
  asked = h.asked;
  shown = h.shown;
  work = h.work;
  on = subst (λ numbers. IfSome (place_of e.running.work) (λ p. list_any (λ n. n == p.1) numbers.items ≡ true)) (sym same) h.on;
  children = h.children;
}

-- ---- its turns

module _ (run : Setting) (held : HeldShards) (steady : AreSteady run held) (e : Entry) (w : Work) (h : IsEntryOfRun run held e) where
  abbrev v : Work
  v = e.running.work

  abbrev rows : List Doc
  rows = writes_for held (place_of v)

  goes_on : KeepsOn run e.place v w → place_of w ≡ place_of v → IsEntryOfRun run held (with_work e w)
  goes_on on same = record {
    asked = h.asked;
    shown = h.shown;
    work = work_keeps_on run e.place e.running.ticket.id e.request e.page v w h.work on;
    on = subst (IsHeld run held) (sym same) h.on;
    children = h.children;
  }

  pub turned_of_run : (after : List Doc) → TurnedOn v w rows after → IsEntryOfRun run held (with_work e w)
  turned_of_run after turned = goes_on (turn_keeps_on run e.place v w rows turned.turned (over_lines run held e.place v steady h.on) h.work.keeps) (turned_place v rows w turned.turned)

  pub broken_of_run : (after : List Doc) → BrokeOff v w rows after → IsEntryOfRun run held (with_work e w)
  broken_of_run after broke = goes_on (loss_keeps_on run e.place v w broke.work_is h.work.keeps) (lost_place v w broke.work_is)

-- ---- a task that was just registered

pub new_of_run : (run : Setting) (held : HeldShards) (id : TaskId) (token : Option Token) (wanted : Wanted) (now : ℕ) (e : Entry) → IsNewEntry id token wanted run.shards now e → IsRequestAt run wanted.place (as_answered wanted.request.now)
    → IsOver run wanted.place wanted.request.now (option_copied wanted.page) (option_copied wanted.context) → IfSome (kind_of wanted.request.now).place (λ p. holds held p.1 ≡ true) → IsEntryOfRun run held e
new_of_run run held id token wanted now e new asked over on =
    let request = wanted.request.now in
    let page = option_copied wanted.page in
    let p = new.parts in
    let made = new.made in
    let first : Entry = new_entry (record { id = id; token = token }) p in
    let works = new_work_keeps run wanted.place id request page (option_copied wanted.context) p.work asked over made.work.new made.work.sound in
    let at : place_of p.work ≡ (kind_of request).place = new_place id request run.shards (option_copied wanted.context) p.work made.work.new in
    let of_run : IsEntryOfRun run held first = record {
      asked = subst (λ q. IsRequestAt run q p.request) (sym made.place) (subst (IsRequestAt run wanted.place) (sym made.request) asked);
      shown = subst (λ o. IfSome o (IsPageAt run p.place)) (sym made.page) (subst (λ q. IfSome page (IsPageAt run q)) (sym made.place) over.shown);
      work = subst (λ q. IsWorkOfRun run q id p.request p.page p.work) (sym made.place) (subst (λ r. IsWorkOfRun run wanted.place id r p.page p.work) (sym made.request) (subst (λ o. IsWorkOfRun run wanted.place id (as_answered request) o p.work) (sym made.page) works));
      on = subst (IsHeld run held) (sym at) on;
      children = tt;
    } in
    subst (IsEntryOfRun run held) (sym new.is) of_run
