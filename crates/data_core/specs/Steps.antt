-- What a core does with a step of one of its live tasks.
use Rattle.std.specs.Prelude.{◌≡◌, ℕ, Bool, true, false, [], ◌∷◌, Option, None, Some, option_map}
use Rattle.task_ids.specs.declared.task_id.TaskId.{TaskId}
use Rattle.child_track.specs.Token.{ReceiptParts}
use Rattle.child_track.specs.Track.{unanswered, sealed}
use Rattle.task_table.specs.declared.answers.Check.{Check}
use Rattle.task_table.specs.declared.answers.Check.TheVariants as checks
use Rattle.task_table.specs.declared.answers.Track.{Track}
use Rattle.task_table.specs.declared.answers.Track.TheVariants as tracks
use Rattle.task_events.specs.declared.reply.Reply.{Reply}
use Rattle.task_events.specs.declared.request.Request.{Request}
use Rattle.task_events.specs.declared.step.Do.{Do}
use Rattle.task_events.specs.declared.step.Do.TheVariants as steps
use Rattle.task_events.specs.Kinds.{node_for}
use Rattle.task_work.specs.declared.work.Work.{Work}
use Rattle.task_work.specs.Works.{place_of}
use Rattle.node_boards.specs.Calls.{DataCall}
use Rattle.node_boards.specs.Calls as call
use Rattle.node_link.specs.declared.body.Body.{Body}
use Rattle.node_link.specs.declared.body.Body.TheVariants as says
use Rattle.node_parts.specs.Running.{next_number}
use Rattle.data_pool.specs.Workers.{worker_of}
use Rattle.data_pool.specs.declared.pool.Pool.{Pool}
use Rattle.run_facts.specs.declared.Post.{Post}
use Rattle.run_facts.specs.declared.To.TheVariants as to
use Rattle.live_tasks.specs.declared.entry.Entry.{Entry}
use Rattle.live_tasks.specs.declared.entry.EndedTask.{EndedTask}
use Rattle.live_tasks.specs.Entries.{passed, after_track, after_look, after_ask, with_work, ended}
use Rattle.live_tasks.specs.Live.{entry_at, number_at, ChangesAt, ChangesTask}
use Rattle.live_tasks.specs.Turning.{TurnedOn}
use Rattle.data_parts.specs.Endings.{reply_of}
use Rattle.data_parts.specs.Places.{child_place}
use Rattle.data_parts.specs.Slices.{Settles}
use Rattle.data_parts.specs.declared.ending.Ending.{Ending}
use Rattle.data_parts.specs.declared.ending.Ending.TheVariants.{Refused, Marked, Finished}
use Rattle.entry_facts.specs.Entries.{writes_for}
use Rattle.data_core.specs.declared.state.DataCore.{DataCore}
use Rattle.data_core.specs.Plans.{plan_for}
use Rattle.data_core.specs.Turns.{Posts, post, OnlyTasks}

-- ---- what a task that has ended sends

-- its answer, to worker 0 of the node of its parent, since a task that asks works on no shard, or a root's to the driver
abbrev pub answer_to : Option TaskId → EndedTask → ReceiptParts → Reply → Post Body
answer_to (Some parent) e receipt reply = record { to = to.Data parent.node 0; letter = says.Answer (record { place = e.place; receipt = receipt; request = e.request; reply = reply; page = e.page }) }
answer_to None e receipt reply = record { to = to.Driver; letter = says.RootAnswer (record { place = e.place; request = e.request; reply = reply; page = e.page }) }

-- where it was marked, the control worker of its node is told that it has ended
abbrev pub told_ended : ℕ → Option ℕ → ReceiptParts → Posts
told_ended node None receipt = []
told_ended node (Some cancel) receipt = post (to.Control node) (says.Ended receipt)

abbrev pub letters_of : ℕ → EndedTask → ReceiptParts → Reply → Option ℕ → Posts
letters_of node e receipt reply mark = answer_to receipt.parent e receipt reply ∷ told_ended node mark receipt

abbrev pub number_of : Entry → ℕ
number_of e = e.running.ticket.id.number

-- the page that it shows, by the search that opened its context
abbrev pub shown_by : Entry → Option TaskId
shown_by e = option_map (λ page. page.id) e.running.page

-- what a step gives: letters, or none where it waits
abbrev pub Given : Type 0
Given = Option Posts

-- one call on the board was made, of which the core notes this of the task
pub record Noted (e after : Entry) (old mid : DataCore) : Type 0 where
  pub noted : ChangesTask old.live mid.live (number_of e) after
  pub rest : OnlyTasks old mid

-- the request goes to its node and to its worker there, with the token of the ask
abbrev pub asked_post : Pool → Entry → ℕ → Request → Posts
asked_post pool e node request = post (to.Data node (worker_of pool request)) (says.Request (record {
  to = node;
  place = child_place e.place request;
  token = record { parent = e.running.ticket.id; ask = next_number e.running };
  request = request;
  headers = e.running.headers;
}))

module _ {B : Type 0} (rests : B → B → DataCall → Type 0) where
  -- nothing is given, asked or changed
  pub record Waits (b : B) (old : DataCore) (given : Given) (new : DataCore) (c : B) : Type 0 where
    pub none : given ≡ None
    pub same : new ≡ old
    pub uncalled : c ≡ b

  -- ---- the end

  -- the task ends so: the board gives its mark, it is live no more, and it sends its letters
  pub record Ends (ending : Ending) (e : Entry) (b : B) (old : DataCore) (given : Given) (new : DataCore) (c : B) : Type 0 where
    pub mark : Option ℕ
    pub called : rests b c (call.end e.running.ticket mark)
    pub gone : ChangesAt (entry_at old.live) (entry_at new.live) (number_of e) None
    pub free : ChangesAt (number_at old.live) (number_at new.live) e.place None
    pub sends : given ≡ Some (letters_of old.node (ended e) (sealed e.running.track e.running.ticket.token) (reply_of e.running.ticket.id ending mark e.running.work) mark)
    pub contexts : Settles old.contexts new.contexts e.running.ticket.id (shown_by e) e.running.work (reply_of e.running.ticket.id ending mark e.running.work) old.clock.ms
    pub rest : new ≡ record old { live = new.live; contexts = new.contexts }

  -- it ends once no ask of it is unanswered, and else it waits
  pub record Finishes (ending : Ending) (e : Entry) (b : B) (old : DataCore) (given : Given) (new : DataCore) (c : B) : Type 0 where
    pub ended : unanswered e.running.track ≡ 0 → Ends ending e b old given new c
    pub waits : (unanswered e.running.track ≡ 0 → ⊥) → Waits b old given new c

  -- ---- the first step of a child

  abbrev pub AfterCheck : Check → Entry → B → DataCore → DataCore → Given → DataCore → B → Type 0
  AfterCheck checks.Clear e d old mid given new c = (given ≡ Some []) × Noted e (passed e) old mid × (new ≡ mid) × (c ≡ d)
  AfterCheck (checks.Banned cancel) e d old mid given new c = Noted e e old mid × Finishes (Refused cancel) e d mid given new c

  abbrev pub Checks : Entry → B → DataCore → Given → DataCore → B → Type 0
  Checks e b old given new c = (told : Check) × (d : B) × (mid : DataCore) × rests b d (call.check e.running.ticket told) × AfterCheck told e d old mid given new c

  -- ---- the plan

  -- a mark ends it, and without one it goes on
  abbrev pub UnlessMarked : (B → DataCore → Given → DataCore → B → Type 0) → Option ℕ → Entry → B → DataCore → Given → DataCore → B → Type 0
  UnlessMarked GoesOn None e d mid given new c = GoesOn d mid given new c
  UnlessMarked GoesOn (Some cancel) e d mid given new c = Finishes (Marked cancel) (after_look e (Some cancel)) d mid given new c

  -- its mark is looked at first
  abbrev pub Looks : (B → DataCore → Given → DataCore → B → Type 0) → Entry → B → DataCore → Given → DataCore → B → Type 0
  Looks GoesOn e b old given new c = (mark : Option ℕ) × (d : B) × (mid : DataCore) × rests b d (call.look e.running.ticket mark)
      × Noted e (after_look e mark) old mid × UnlessMarked GoesOn mark e d mid given new c

  abbrev pub AfterTrack : Track → Request → ℕ → Entry → B → DataCore → DataCore → Given → DataCore → B → Type 0
  AfterTrack tracks.Cleared request node e d old mid given new c = Noted e (after_ask e node (child_place e.place request)) old new × (given ≡ Some (asked_post old.pool e node request)) × (c ≡ d)
  AfterTrack (tracks.Cancelled cancel) request node e d old mid given new c = Noted e (after_track e (tracks.Cancelled cancel)) old mid × Finishes (Marked cancel) (after_track e (tracks.Cancelled cancel)) d mid given new c

  -- it asks for the child that comes next, unless the board tells that it is marked
  abbrev pub Asks : Request → Entry → B → DataCore → Given → DataCore → B → Type 0
  Asks request e b old given new c = let node = node_for old.cluster e.running.ticket.id request in
      (told : Track) × (d : B) × (mid : DataCore) × rests b d (call.track e.running.ticket node told) × AfterTrack told request node e d old mid given new c

  -- it takes a turn of work over its shard, and no other shard changes
  pub record Works (e : Entry) (b : B) (old : DataCore) (given : Given) (new : DataCore) (c : B) : Type 0 where
    pub none : given ≡ Some []
    pub uncalled : c ≡ b
    pub after : Work
    pub noted : ChangesTask old.live new.live (number_of e) (with_work e after)
    pub turned : TurnedOn e.running.work after (writes_for old.shards (place_of e.running.work)) (writes_for new.shards (place_of e.running.work))
    pub rest : new ≡ record old { live = new.live; shards = new.shards }

  abbrev pub DoesPlan : Do → Entry → B → DataCore → Given → DataCore → B → Type 0
  DoesPlan (steps.AskNext request) e b old given new c = Asks request e b old given new c
  DoesPlan steps.Turn e b old given new c = Looks (Works e) e b old given new c
  DoesPlan (steps.Wait None) e b old given new c = Waits b old given new c
  DoesPlan (steps.Wait (Some due)) e b old given new c = Looks Waits e b old given new c
  DoesPlan (steps.Finish reply) e b old given new c = Finishes (Finished reply) e b old given new c

  -- ---- all steps

  abbrev pub DoesNext : Bool → Option ℕ → Entry → B → DataCore → Given → DataCore → B → Type 0
  DoesNext true mark e b old given new c = Checks e b old given new c
  DoesNext false (Some cancel) e b old given new c = Finishes (Marked cancel) e b old given new c
  DoesNext false None e b old given new c = DoesPlan (plan_for old.shards old.clock e) e b old given new c

  -- What a core does with a step of a live task.
  abbrev pub Stepped : Entry → B → DataCore → Given → DataCore → B → Type 0
  Stepped e b old given new c = DoesNext e.running.is_new e.running.track.closed e b old given new c
