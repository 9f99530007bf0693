-- What each letter of a run keeps, over the numbers of cancellations that its boards may be told of.
use Rattle.std.specs.Prelude.{◌≡◌, ℕ, ◌<◌, ◌≤◌, Bool, true, false, Option, Some, is_some, IsSome, IfSome, All}
use Rattle.task_ids.specs.Limits.{IsNode, IsCancel}
use Rattle.task_ids.specs.declared.task_info.TaskInfo.{TaskInfo}
use Rattle.task_events.specs.Allowed.{is_rejection}
use Rattle.task_events.specs.Answered.{as_answered}
use Rattle.task_events.specs.declared.answered.AnsweredRequest.{AnsweredRequest}
use Rattle.task_events.specs.declared.answered.AnsweredRequest.TheVariants as told
use Rattle.task_events.specs.declared.reply.FailedShard.{FailedShard}
use Rattle.task_events.specs.declared.reply.ShardFailure.{ShardFailure}
use Rattle.task_events.specs.declared.reply.ShardFailure.TheVariants as failures
use Rattle.task_events.specs.declared.reply.Reply.{Reply}
use Rattle.task_events.specs.declared.reply.Reply.TheVariants as replies
use Rattle.node_link.specs.declared.body.Place.{Place}
use Rattle.node_link.specs.declared.body.Start.{Start}
use Rattle.node_link.specs.declared.body.Asked.{Asked}
use Rattle.node_link.specs.declared.body.Answered.{Answered}
use Rattle.node_link.specs.declared.body.RootAnswered.{RootAnswered}
use Rattle.node_link.specs.declared.page.Page.{Page}
use Rattle.node_link.specs.declared.body.Body.{Body}
use Rattle.node_link.specs.declared.body.Body.TheVariants as says

-- commands are numbered from 1 to 65,535
abbrev pub IsCommand : ℕ → Type 0
IsCommand n = (1 ≤ n) × (n ≤ 65535)

-- a node has at most four data workers, numbered from 0
abbrev pub IsWorker : ℕ → Type 0
IsWorker w = w < 4

-- a tick is a day at most
abbrev pub IsTick : ℕ → Type 0
IsTick ms = ms ≤ 86400000

-- it belongs to a command's tree, and looks through a search's rows; a reindex has at most 32 slices, and an index at most 15 shards
abbrev pub IsPlace : Place → Type 0
IsPlace p = IsCommand p.command × IsCommand p.search × (p.slice ≤ 32) × (p.shard < 15)

abbrev pub is_page : AnsweredRequest → Bool
is_page (told.Search ask) = false
is_page (told.Query ask) = false
is_page (told.Fetch ask) = false
is_page (told.Scroll ask) = true
is_page (told.Reindex ask) = false
is_page (told.Slice ask) = false
is_page (told.Bulk dest docs) = false
is_page (told.BulkShard dest shard docs) = false

-- only the answer to a scroll tells a page, and it does unless the scroll was rejected
abbrev pub TellsPage : AnsweredRequest → Reply → Option Page → Type 0
TellsPage request reply page = (IsSome page → is_page request ≡ true) × (is_page request ≡ true → is_rejection reply ≡ false → IsSome page)

module _ (allowed : ℕ → Type 0) where
  -- a cancellation of the run: its boards may be told of it
  abbrev pub IsCancelOfRun : ℕ → Type 0
  IsCancelOfRun c = IsCancel c × allowed c

  abbrev pub IsLawfulFailure : ShardFailure → Type 0
  IsLawfulFailure (failures.Cancelled task cancel) = IsCancelOfRun cancel
  IsLawfulFailure (failures.Rejected node) = IsNode node

  -- each cancellation that a reply tells, its own or that of a failed shard, is one of the run
  abbrev pub IsLawfulReply : Reply → Type 0
  IsLawfulReply (replies.Search answer) = All (λ (f : FailedShard). IsLawfulFailure f.failure) answer.failed
  IsLawfulReply (replies.Top top) = Unit {0}
  IsLawfulReply (replies.Hits hits) = Unit {0}
  IsLawfulReply (replies.AllFailed failed) = All (λ (f : FailedShard). IsLawfulFailure f.failure) failed
  IsLawfulReply (replies.Wrote counts) = Unit {0}
  IsLawfulReply (replies.Cancelled task cancel counts) = IsCancelOfRun cancel
  IsLawfulReply (replies.Rejected node) = IsNode node

  -- a live task whose mark, if it has one, is that of a cancellation of the run
  abbrev pub IsLawfulRow : TaskInfo → Type 0
  IsLawfulRow row = IfSome row.cancelled IsCancelOfRun

  -- only a scroll has a page
  pub record IsLawfulStart (s : Start) : Type 0 where
    pub place : IsPlace s.place
    pub page : is_some s.page ≡ is_page (as_answered s.request)

  pub record IsLawfulAsk (a : Asked) : Type 0 where
    pub to : IsNode a.to
    pub place : IsPlace a.place

  pub record IsLawfulAnswer (a : Answered) : Type 0 where
    pub place : IsPlace a.place
    pub reply : IsLawfulReply a.reply
    pub page : TellsPage a.request a.reply a.page

  pub record IsLawfulRootAnswer (a : RootAnswered) : Type 0 where
    pub place : IsPlace a.place
    pub reply : IsLawfulReply a.reply
    pub page : TellsPage a.request a.reply a.page

  -- What a letter may say. Each cancellation in it is one of the run, so who takes the letter may tell its board of it; nodes, workers and commands are in range; a marked task that has ended has a receipt, and so has one whose cancellation is done.
  abbrev pub IsLawful : Body → Type 0
  IsLawful (says.Request asked) = IsLawfulAsk asked
  IsLawful (says.Answer answered) = IsLawfulAnswer answered
  IsLawful (says.Ban parent cancel to) = IsCancelOfRun cancel × IsNode to
  IsLawful (says.Ack parent from) = IsNode from
  IsLawful (says.Unban parent to) = IsNode to
  IsLawful (says.Start start) = IsLawfulStart start
  IsLawful (says.Cancel cancel task wait) = IsCancelOfRun cancel
  IsLawful (says.CancelMatching cancel filter wait) = IsCancelOfRun cancel
  IsLawful (says.List command) = IsCommand command
  IsLawful (says.Tick ms) = IsTick ms
  IsLawful says.Drain = Unit {0}
  IsLawful says.Leave = Unit {0}
  IsLawful (says.Stop cause) = Unit {0}
  IsLawful (says.Matches worker cancel rows wait) = IsWorker worker × IsCancelOfRun cancel × All IsLawfulRow rows
  IsLawful (says.Ended receipt) = IsSome receipt.task
  IsLawful (says.DataLeft worker) = IsWorker worker
  IsLawful (says.ControlLeft node) = IsNode node
  IsLawful (says.Root command task) = IsCommand command
  IsLawful (says.RootAnswer answered) = IsLawfulRootAnswer answered
  IsLawful (says.Rows node worker command rows) = IsNode node × IsWorker worker × IsCommand command × All IsLawfulRow rows
  IsLawful (says.AnswerPlaced cancel task) = IsCancelOfRun cancel
  IsLawful (says.AnswerDone cancel task receipt) = IsCancelOfRun cancel × (receipt.task ≡ Some task)
  IsLawful (says.NotFound cancel) = IsCancelOfRun cancel
  IsLawful (says.Named node cancel tasks) = IsNode node × IsCancelOfRun cancel
  IsLawful (says.Stopped cause) = Unit {0}
