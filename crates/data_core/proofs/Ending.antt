-- What a task tells when it ends.
use Rattle.std.proofs.Common.{◌≡◌, ℕ, Option, Some, None, sym, ap, ◌∙◌, subst}
use Rattle.std.specs.Prelude.{IfSome}
use Rattle.task_ids.specs.declared.task_id.TaskId.{TaskId}
use Rattle.task_events.specs.declared.reply.Reply.{Reply}
use Rattle.node_link.specs.Lawful.{IsCancelOfRun, IsLawfulReply}
use Rattle.task_work.specs.declared.work.Work.{Work}
use Rattle.live_tasks.specs.declared.entry.Entry.{Entry}
use Rattle.live_tasks.specs.declared.entry.EndedTask.{EndedTask}
use Rattle.live_tasks.specs.Entries.{ended}
use Rattle.held_shards.specs.declared.HeldShards.{HeldShards}
use Rattle.data_parts.specs.declared.ending.Ending.{Ending}
use Rattle.data_parts.specs.declared.ending.Ending.TheVariants.{Refused, Marked, Finished}
use Rattle.data_parts.specs.Endings.{reply_of}
use Rattle.reply_facts.specs.Letters.{IsAnswerAt}
use Rattle.reply_facts.specs.Settings.{Setting}
use Rattle.data_core.specs.Cores.{IsGoodEntry}
use Rattle.data_core.specs.Letters.{IsLawfulEnding, IsLawfulEnd}

module _ (allowed : ℕ → Type 0) where
  -- its reply is lawful, where why it ends and its mark are of the run
  pub ending_lawful : (task : TaskId) (ending : Ending) (mark : Option ℕ) (w : Work) → IsLawfulEnding allowed ending → IfSome mark (IsCancelOfRun allowed) → IsLawfulReply allowed (reply_of task ending mark w)
  ending_lawful task (Refused cancel) mark w is told = is
  ending_lawful task (Marked cancel) mark w is told = is
  ending_lawful task (Finished reply) (Some cancel) w is told = told
  ending_lawful task (Finished reply) None w is told = is

  pub end_lawful : (held : HeldShards) (e : Entry) (left : EndedTask) (reply : Reply) → IsGoodEntry allowed held e → left ≡ ended e → IsLawfulReply allowed reply → IsLawfulEnd allowed left reply
  end_lawful held e left reply good is lawful = subst (λ (l : EndedTask). IsLawfulEnd allowed l reply) (sym is) (record { place = good.place; page = good.page; lawful = lawful })

-- what it leaves tells, with its reply, as it does itself
pub left_tells : (run : Setting) (e : Entry) (left : EndedTask) (task : TaskId) (ending : Ending) (mark : Option ℕ) (reply : Reply) → left ≡ ended e → e.running.ticket.id ≡ task → reply ≡ reply_of task ending mark left.work
    → IsAnswerAt run e.place e.request e.page (reply_of e.running.ticket.id ending mark e.running.work) → IsAnswerAt run left.place left.request left.page reply
left_tells run e left task ending mark reply is id reply_is tells =
    let its : reply ≡ reply_of e.running.ticket.id ending mark e.running.work = reply_is ∙ ap (λ (l : EndedTask). reply_of task ending mark l.work) is ∙ ap (λ t. reply_of t ending mark e.running.work) (sym id) in
    subst (λ (l : EndedTask). IsAnswerAt run l.place l.request l.page reply) (sym is) (subst (IsAnswerAt run e.place e.request e.page) (sym its) tells)
