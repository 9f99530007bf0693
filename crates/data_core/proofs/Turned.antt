-- Turns and steps, from what their parts did.
use Rattle.std.proofs.Common.{◌≡◌, ℕ, [], Option, Some, None, refl, ap, ◌∙◌, subst}
use Rattle.std.specs.Prelude.{Result, Ok, Err, IfOk, OnOk}
use Rattle.task_ids.specs.declared.task_id.TaskId.{TaskId}
use Rattle.child_track.specs.Token.{ReceiptParts}
use Rattle.child_track.specs.Track.{sealed}
use Rattle.task_events.specs.declared.reply.Reply.{Reply}
use Rattle.node_boards.specs.Calls.{DataCall}
use Rattle.node_boards.specs.Calls as call
use Rattle.node_link.specs.declared.body.Answered.{Answered}
use Rattle.live_tasks.specs.declared.entry.Entry.{Entry}
use Rattle.live_tasks.specs.declared.entry.EndedTask.{EndedTask}
use Rattle.live_tasks.specs.declared.live.LiveTasks.{LiveTasks}
use Rattle.live_tasks.specs.Answering.{Fits, asker, left_by, untracking}
use Rattle.live_tasks.specs.Chains.{Chain}
use Rattle.live_tasks.specs.Entries.{after_answer, ended}
use Rattle.live_tasks.specs.Live.{entry_at, number_at, ChangesAt, ChangesTask}
use Rattle.data_parts.specs.declared.ending.Ending.{Ending}
use Rattle.data_parts.specs.Endings.{reply_of}
use Rattle.data_parts.specs.Slices.{Contexts, Settles}
use Rattle.data_core.specs.declared.state.DataCore.{DataCore}
use Rattle.data_core.specs.Turns.{Posts, OnlyTasks, Answers}
use Rattle.data_core.specs.Steps.{Ends, letters_of, number_of, shown_by}

module _ {B : Type 0} (rests : B → B → DataCall → Type 0) where
  -- an answer that fits was taken
  pub fed_answers : {P E : Type 0} (r : Result P E) (items : P → Posts) (a : Answered) (b : B) (old new : DataCore) (c : B) → IfOk r (λ p. items p ≡ [])
      → ((e : Entry) → asker old.live a.receipt.parent ≡ Some e → OnOk r (ChangesTask old.live new.live e.running.ticket.id.number (after_answer e a.receipt.ask a.reply old.clock.ms)))
      → ((e : Entry) → asker old.live a.receipt.parent ≡ Some e → OnOk r (Chain rests b (untracking e.running.ticket (left_by e.running.track a.receipt.ask)) c))
      → OnlyTasks old new → Fits old.live a.receipt a.place a.request a.reply → IfOk r (λ p. Answers rests a b old (items p) new c)
  fed_answers (Ok p) items a b old new c none taken calls rest fits = record { none = none; taken = λ f e at. (taken e at, calls e at); passed = λ none_fits. absurd (none_fits fits); rest = rest }
  fed_answers (Err e) items a b old new c none taken calls rest fits = tt

  -- one that does not was passed over
  pub passed_answers : (a : Answered) (b : B) (old : DataCore) (posts : Posts) → posts ≡ [] → (Fits old.live a.receipt a.place a.request a.reply → ⊥) → Answers rests a b old posts old b
  passed_answers a b old posts none none_fits = record { none = none; taken = λ fits. absurd (none_fits fits); passed = λ also. record { none = none; same = refl; uncalled = refl }; rest = refl }

  -- a task has ended, and its letters are sent
  module _ (ending : Ending) (e : Entry) (b : B) (old : DataCore) (live : LiveTasks) (contexts : Contexts) (c : B) (task : TaskId) (mark : Option ℕ) (left : EndedTask) (receipt : ReceiptParts) (reply : Reply) (page : Option TaskId) (posts : Posts) where
    pub ends_so : task ≡ e.running.ticket.id → left ≡ ended e → receipt ≡ sealed e.running.track e.running.ticket.token → reply ≡ reply_of task ending mark left.work → page ≡ shown_by e
        → rests b c (call.end e.running.ticket mark) → ChangesAt (entry_at old.live) (entry_at live) (number_of e) None → ChangesAt (number_at old.live) (number_at live) left.place None
        → posts ≡ letters_of old.node left receipt reply mark → Settles old.contexts contexts task page left.work reply old.clock.ms
        → Ends rests ending e b old (Some posts) (record old { live = live; contexts = contexts }) c
    ends_so task_is left_is receipt_is reply_is page_is called gone free sent settles =
        let id = e.running.ticket.id in
        let now = old.clock.ms in
        let its : reply ≡ reply_of id ending mark e.running.work = reply_is ∙ ap (λ t. reply_of t ending mark left.work) task_is ∙ ap (λ (l : EndedTask). reply_of id ending mark l.work) left_is in
        record {
          mark = mark;
          called = called;
          gone = gone;
          free = subst (λ (l : EndedTask). ChangesAt (number_at old.live) (number_at live) l.place None) left_is free;
          sends = ap Some (sent ∙ ap (λ l. letters_of old.node l receipt reply mark) left_is ∙ ap (λ r. letters_of old.node (ended e) r reply mark) receipt_is ∙ ap (λ r. letters_of old.node (ended e) (sealed e.running.track e.running.ticket.token) r mark) its);
          contexts = subst (λ r. Settles old.contexts contexts id (shown_by e) e.running.work r now) its
              (subst (λ (l : EndedTask). Settles old.contexts contexts id (shown_by e) l.work reply now) left_is
              (subst (λ p. Settles old.contexts contexts id p left.work reply now) page_is (subst (λ t. Settles old.contexts contexts t page left.work reply now) task_is settles)));
          rest = refl;
        }
