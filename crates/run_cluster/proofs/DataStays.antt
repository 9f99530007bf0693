-- What no call of its board changes, a data worker keeps.
use Rattle.std.proofs.Common.{◌≡◌, ℕ, inl, inr, Bool, true, false, cond, not, ◌&&◌, ◌||◌, ◌==◌, is_some, List, [], ◌∷◌, Option, None, Some, ap, ◌∙◌}
use Rattle.std.specs.Prelude.{nat_le}
use Rattle.std.proofs.lemmas.Bool.{cases_eq}
use Rattle.task_ids.specs.declared.task_id.TaskId.{TaskId}
use Rattle.task_ids.specs.declared.task_info.TaskInfo.{TaskInfo}
use Rattle.child_track.specs.Track.{unanswered}
use Rattle.task_events.specs.declared.request.Request.{Request}
use Rattle.task_events.specs.declared.step.Do.{Do}
use Rattle.task_events.specs.declared.step.Do.TheVariants as steps
use Rattle.task_events.specs.Kinds.{node_for}
use Rattle.task_table.specs.declared.answers.Check.{Check}
use Rattle.task_table.specs.declared.answers.Check.TheVariants as checks
use Rattle.task_table.specs.declared.answers.Track.{Track}
use Rattle.task_table.specs.declared.answers.Track.TheVariants as tracks
use Rattle.node_boards.specs.Calls.{DataCall}
use Rattle.node_boards.specs.Calls as call
use Rattle.node_link.specs.declared.body.Answered.{Answered}
use Rattle.node_link.specs.declared.body.Asked.{Asked}
use Rattle.node_link.specs.declared.body.Body.{Body}
use Rattle.node_link.specs.declared.body.Body.TheVariants as says
use Rattle.node_link.specs.declared.body.Place.{Place}
use Rattle.node_link.specs.declared.body.Start.{Start}
use Rattle.node_worker.specs.declared.post.Post.{Post}
use Rattle.node_worker.specs.Turns as worker
use Rattle.live_tasks.specs.declared.entry.Entry.{Entry}
use Rattle.live_tasks.specs.declared.live.LiveTasks.{LiveTasks}
use Rattle.live_tasks.specs.Answering.{asker, left_by, untracking}
use Rattle.live_tasks.specs.Chains.{Chain}
use Rattle.live_tasks.specs.Entries.{after_look, after_track}
use Rattle.live_tasks.specs.Live.{number_at, count}
use Rattle.live_tasks.specs.Registers.{registering}
use Rattle.data_parts.specs.declared.ending.Ending.{Ending}
use Rattle.data_parts.specs.declared.ending.Ending.TheVariants.{Refused, Marked, Finished}
use Rattle.data_core.specs.declared.state.DataCore.{DataCore}
use Rattle.data_core.specs.Admitting.{admission_of, has_shard, may_use}
use Rattle.data_core.specs.Plans.{plan_for}
use Rattle.data_core.specs.Steps as step
use Rattle.data_core.specs.Turns as turn
use Rattle.data_worker.specs.Data.{Seen, Took, Stepped, Said, Waited, Does}
use Rattle.run_cluster.proofs.Fitting.{fits_or_not}

-- the tests by which a letter is admitted
abbrev is_passed_over : DataCore → Place → Request → Bool
is_passed_over core place request = is_some (number_at core.live place) || not (has_shard core.shards request)

abbrev is_full : DataCore → Bool
is_full core = nat_le core.live.quota (count core.live)

module _ {B X : Type 0} (rests : B → B → DataCall → Type 0) (f : B → X) (keeps : (b c : B) (call : DataCall) → rests b c call → f c ≡ f b) where
  chain_keeps : (b : B) (calls : List DataCall) (c : B) → Chain rests b calls c → f c ≡ f b
  chain_keeps b [] c same = ap f same
  chain_keeps b (call ∷ calls) c (m, rest, chain) = chain_keeps m calls c chain ∙ keeps b m call rest

  -- ---- a turn over a letter

  -- a test chooses what becomes of a letter
  by_test : {A E : Type 0} (Becomes : A → E → B → DataCore → turn.Posts → DataCore → B → Type 0) (asked : E) (b : B) (old : DataCore) (posts : turn.Posts) (new : DataCore) (c : B) (test : Bool) (x y : A)
      → Becomes (cond test x y) asked b old posts new c → (Becomes x asked b old posts new c → f c ≡ f b) → (Becomes y asked b old posts new c → f c ≡ f b) → f c ≡ f b
  by_test Becomes asked b old posts new c true x y t first second = first t
  by_test Becomes asked b old posts new c false x y t first second = second t

  requested_keeps : (asked : Asked) (b : B) (old : DataCore) (posts : turn.Posts) (new : DataCore) (c : B) → turn.Requested rests asked b old posts new c → f c ≡ f b
  requested_keeps asked b old posts new c (inl (id, none, live, is)) = chain_keeps b (registering old.live.drawn id.number (Some asked.token.parent) true) c live.calls
  requested_keeps asked b old posts new c (inr (sent, full, rest)) = chain_keeps b (registering old.live.drawn full.number (Some asked.token.parent) false) c full.calls

  started_keeps : (start : Start) (b : B) (old : DataCore) (posts : turn.Posts) (new : DataCore) (c : B) → turn.Started rests start b old posts new c → f c ≡ f b
  started_keeps start b old posts new c (inl (id, sent, live, is)) = chain_keeps b (registering old.live.drawn id.number None true) c live.calls
  started_keeps start b old posts new c (inr (sent, full, rest)) = chain_keeps b (registering old.live.drawn full.number None false) c full.calls

  answers_keep : (a : Answered) (b : B) (old : DataCore) (posts : turn.Posts) (new : DataCore) (c : B) → turn.Answers rests a b old posts new c → f c ≡ f b
  answers_keep a b old posts new c r = elim (fits_or_not a.receipt a.place a.request a.reply (asker old.live a.receipt.parent)) [
    | inl (e, at, fits) ↦ chain_keeps b (untracking e.running.ticket (left_by e.running.track a.receipt.ask)) c (r.taken fits e at).1
    | inr never ↦ ap f (r.passed never).uncalled
  ]

  lists_keep : (after : Option TaskId) (rows : List TaskInfo) (b : B) (old new : LiveTasks) (c : B) → turn.Lists rests after rows b old new c → f c ≡ f b
  lists_keep after [] b old new c (none, same, uncalled) = ap f uncalled
  lists_keep after (row ∷ rows) b old new c (e, mid, d, next, looked, changes, more) = lists_keep (Some row.id) rows d mid new c more ∙ keeps b d (call.look e.running.ticket row.cancelled) looked

  turned_keeps : (letter : Body) (b : B) (old : DataCore) (posts : turn.Posts) (new : DataCore) (c : B) → turn.Turned rests letter b old posts new c → f c ≡ f b
  turned_keeps (says.Request asked) b old posts new c t =
      let choose = by_test (turn.RequestBecomes rests) asked b old posts new c in
      choose ((asked.to == old.node) && may_use old.contexts asked.request old.clock.ms) (admission_of old asked.place asked.request) _ t
      (λ mine. choose (is_passed_over old asked.place asked.request) _ _ mine (λ over. ap f over.uncalled) (λ free. choose (is_full old) _ _ free (λ sends. ap f sends.uncalled) (requested_keeps asked b old posts new c)))
      (λ over. ap f over.uncalled)
  turned_keeps (says.Start start) b old posts new c t =
      let choose = by_test (turn.StartBecomes rests) start b old posts new c in
      choose (is_passed_over old start.place start.request) _ _ t (λ over. ap f over.uncalled) (λ free. choose (is_full old) _ _ free (λ sends. ap f sends.uncalled) (started_keeps start b old posts new c))
  turned_keeps (says.Answer answered) b old posts new c t = answers_keep answered b old posts new c t
  turned_keeps (says.List command) b old posts new c (rows, is, lists, rest) = lists_keep None rows b old.live new.live c lists
  turned_keeps (says.CancelMatching cancel wanted wait) b old posts new c (rows, is, lists, rest) = lists_keep None rows b old.live new.live c lists
  turned_keeps (says.Tick ms) b old posts new c t = ap f t.1
  turned_keeps says.Drain b old posts new c t = ap f t.1
  turned_keeps says.Leave b old posts new c t = ap f t.1
  turned_keeps letter b old posts new c t = ap f t.uncalled

  -- ---- a step of a live task

  finishes_keep : (ending : Ending) (e : Entry) (b : B) (old : DataCore) (given : step.Given) (new : DataCore) (c : B) → step.Finishes rests ending e b old given new c → f c ≡ f b
  finishes_keep ending e b old given new c r = elim (cases_eq (unanswered e.running.track) 0) [
    | inl none ↦ let end = r.ended none in keeps b c (call.end e.running.ticket end.mark) end.called
    | inr some ↦ ap f (r.waits some).uncalled
  ]

  check_keeps : (told : Check) (e : Entry) (d : B) (old mid : DataCore) (given : step.Given) (new : DataCore) (c : B) → step.AfterCheck rests told e d old mid given new c → f c ≡ f d
  check_keeps checks.Clear e d old mid given new c (none, noted, same, uncalled) = ap f uncalled
  check_keeps (checks.Banned cancel) e d old mid given new c (noted, finishes) = finishes_keep (Refused cancel) e d mid given new c finishes

  track_keeps : (told : Track) (request : Request) (node : ℕ) (e : Entry) (d : B) (old mid : DataCore) (given : step.Given) (new : DataCore) (c : B) → step.AfterTrack rests told request node e d old mid given new c → f c ≡ f d
  track_keeps tracks.Cleared request node e d old mid given new c (noted, sent, uncalled) = ap f uncalled
  track_keeps (tracks.Cancelled cancel) request node e d old mid given new c (noted, finishes) = finishes_keep (Marked cancel) (after_track e (tracks.Cancelled cancel)) d mid given new c finishes

  -- after a look, what it goes on with keeps it too
  module _ (GoesOn : B → DataCore → step.Given → DataCore → B → Type 0) (on : (d : B) (mid : DataCore) (given : step.Given) (new : DataCore) (c : B) → GoesOn d mid given new c → f c ≡ f d) where
    unless_keeps : (mark : Option ℕ) (e : Entry) (d : B) (mid : DataCore) (given : step.Given) (new : DataCore) (c : B) → step.UnlessMarked rests GoesOn mark e d mid given new c → f c ≡ f d
    unless_keeps None e d mid given new c goes = on d mid given new c goes
    unless_keeps (Some cancel) e d mid given new c finishes = finishes_keep (Marked cancel) (after_look e (Some cancel)) d mid given new c finishes

    looks_keep : (e : Entry) (b : B) (old : DataCore) (given : step.Given) (new : DataCore) (c : B) → step.Looks rests GoesOn e b old given new c → f c ≡ f b
    looks_keep e b old given new c (mark, d, mid, looked, noted, after) = unless_keeps mark e d mid given new c after ∙ keeps b d (call.look e.running.ticket mark) looked

  plan_keeps : (plan : Do) (e : Entry) (b : B) (old : DataCore) (given : step.Given) (new : DataCore) (c : B) → step.DoesPlan rests plan e b old given new c → f c ≡ f b
  plan_keeps (steps.AskNext request) e b old given new c (told, d, mid, tracked, after) =
      let node = node_for old.cluster e.running.ticket.id request in
      track_keeps told request node e d old mid given new c after ∙ keeps b d (call.track e.running.ticket node told) tracked
  plan_keeps steps.Turn e b old given new c looks = looks_keep (step.Works rests e) (λ d mid g n k works. ap f works.uncalled) e b old given new c looks
  plan_keeps (steps.Wait None) e b old given new c waits = ap f waits.uncalled
  plan_keeps (steps.Wait (Some due)) e b old given new c looks = looks_keep (step.Waits rests) (λ d mid g n k waits. ap f waits.uncalled) e b old given new c looks
  plan_keeps (steps.Finish reply) e b old given new c finishes = finishes_keep (Finished reply) e b old given new c finishes

  next_keeps : (is_new : Bool) (mark : Option ℕ) (e : Entry) (b : B) (old : DataCore) (given : step.Given) (new : DataCore) (c : B) → step.DoesNext rests is_new mark e b old given new c → f c ≡ f b
  next_keeps true mark e b old given new c (told, d, mid, checked, after) = check_keeps told e d old mid given new c after ∙ keeps b d (call.check e.running.ticket told) checked
  next_keeps false (Some cancel) e b old given new c finishes = finishes_keep (Marked cancel) e b old given new c finishes
  next_keeps false None e b old given new c plan = plan_keeps (plan_for old.shards old.clock e) e b old given new c plan

  stepped_keeps : (e : Entry) (b : B) (old : DataCore) (given : step.Given) (new : DataCore) (c : B) → step.Stepped rests e b old given new c → f c ≡ f b
  stepped_keeps e b old given new c r = next_keeps e.running.is_new e.running.track.closed e b old given new c r

  -- ---- all turns and steps

  pub does_keeps : (v : Seen B) (given : worker.Given) (posts : List (Post Body)) (w : Seen B) → Does rests v given posts w → f w.board ≡ f v.board
  unfolding Took Stepped Said Waited
  does_keeps v (worker.took letter) posts w t = turned_keeps letter v.board v.core t.gave w.core w.board t.turned
  does_keeps v worker.stepped posts w (inl (gave, s, sent)) = stepped_keeps s.entry v.board v.core (Some gave) w.core w.board s.stepped
  does_keeps v worker.stepped posts w (inr said) = ap (λ (u : Seen B). f u.board) said.now
  does_keeps v worker.waited posts w (none, inl s) = stepped_keeps s.entry v.board v.core None w.core w.board s.stepped
  does_keeps v worker.waited posts w (none, inr (idle, quiet, same)) = ap (λ (u : Seen B). f u.board) same
