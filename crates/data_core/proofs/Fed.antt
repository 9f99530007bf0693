-- The task that asked, when it has taken an answer: it is live, and stays one of its run.
use Rattle.std.proofs.Common.{◌≡◌, ℕ, true, false, Option, Some, None, refl, ap, subst}
use Rattle.std.specs.Prelude.{IfSome, is_some}
use Rattle.task_ids.specs.declared.task_id.TaskId.{TaskId}
use Rattle.child_track.specs.Token.{ReceiptParts}
use Rattle.task_events.specs.declared.reply.Reply.{Reply}
use Rattle.node_link.specs.declared.body.Answered.{Answered}
use Rattle.held_shards.specs.declared.HeldShards.{HeldShards}
use Rattle.live_tasks.specs.declared.entry.Entry.{Entry}
use Rattle.live_tasks.specs.declared.live.LiveTasks.{LiveTasks}
use Rattle.live_tasks.specs.Answering.{Fits, IsAnswer, IsOfPlace, IsToAsk, asker}
use Rattle.live_tasks.specs.Entries.{after_answer}
use Rattle.live_tasks.specs.Live.{entry_at}
use Rattle.reply_facts.specs.Letters.{IsAnswerAt}
use Rattle.reply_facts.specs.Settings.{Setting}
use Rattle.entry_facts.specs.Entries.{EachLive, IsEntryOfRun}
use Rattle.entry_facts.proofs.Entries.{answered_of_run}

-- there is one, where the receipt is an answer
pub asker_there : (live : LiveTasks) (receipt : ReceiptParts) (reply : Reply) → IsAnswer receipt reply (asker live receipt.parent) → (e : Entry) × (asker live receipt.parent ≡ Some e)
asker_there live receipt reply is = by (asker live receipt.parent) refl is
  where
    by : (o : Option Entry) → asker live receipt.parent ≡ o → IsAnswer receipt reply o → (e : Entry) × (asker live receipt.parent ≡ Some e)
    by None at f = absurd f
    by (Some e) at f = (e, at)

-- and it is live under the number of the task that the receipt tells
pub asker_at : (P : Entry → Type 0) (live : LiveTasks) (parent : Option TaskId) (e : Entry) → ((n : ℕ) → IfSome (entry_at live n) P) → asker live parent ≡ Some e → P e
asker_at P live None e all at = absurd (let f : false ≡ true = ap is_some at in cc)
asker_at P live (Some parent) e all at = subst (λ o. IfSome o P) at (all parent.number)

-- it stays one of its run, where the answer fits and tells what it answers
pub fed_of_run : (run : Setting) (held : HeldShards) (live : LiveTasks) (a : Answered) (now : ℕ) (e : Entry) → asker live a.receipt.parent ≡ Some e → Fits live a.receipt a.place a.request a.reply → IsAnswerAt run a.place a.request a.page a.reply
    → EachLive (IsEntryOfRun run held) live → IsEntryOfRun run held (after_answer e a.receipt.ask a.reply now)
fed_of_run run held live a now e at fits tells each =
    let of_e = subst (λ o. IsAnswer a.receipt a.reply o × IsOfPlace a.receipt a.place o × IsToAsk a.receipt a.request o) at fits in
    answered_of_run run held e a.receipt.ask a.place a.request a.page a.reply now of_e.1 of_e.0.1 of_e.2 tells (asker_at (IsEntryOfRun run held) live a.receipt.parent e each at)
