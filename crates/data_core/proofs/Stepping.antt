-- What a step of a task comes to by its parts: a call on the board, and what follows it.
use Rattle.std.proofs.Common.{◌≡◌, ℕ, Bool, true, false, [], Option, Some, None, refl, sym, ap, ◌∙◌, subst}
use Rattle.task_ids.specs.declared.task_id.TaskId.{TaskId}
use Rattle.task_table.specs.declared.answers.Check.TheVariants as checks
use Rattle.task_table.specs.declared.answers.Track.TheVariants as tracks
use Rattle.task_events.specs.declared.request.Request.{Request}
use Rattle.task_events.specs.Kinds.{node_for}
use Rattle.node_boards.specs.Calls.{DataCall}
use Rattle.node_boards.specs.Calls as call
use Rattle.live_tasks.specs.declared.entry.Entry.{Entry}
use Rattle.live_tasks.specs.declared.live.LiveTasks.{LiveTasks}
use Rattle.live_tasks.specs.Entries.{passed, after_look, after_track, after_ask}
use Rattle.live_tasks.specs.Live.{entry_at, ChangesTask, HasId, SameCore}
use Rattle.data_core.specs.declared.state.DataCore.{DataCore}
use Rattle.data_core.specs.Cores.{SameSelf}
use Rattle.data_core.specs.Plans.{plan_for}
use Rattle.data_core.specs.Steps.{Given, Noted, Checks, Looks, UnlessMarked, Asks, Finishes, DoesPlan, DoesNext, Stepped, asked_post, number_of}
use Rattle.data_parts.specs.Places.{child_place}
use Rattle.data_parts.specs.declared.ending.Ending.TheVariants.{Refused, Marked}

-- ---- one live task

-- the task of this id is under its number
pub its_id : (t : TaskId) (o : Option Entry) (e : Entry) → HasId t o → o ≡ Some e → e.running.ticket.id ≡ t
its_id t o e is at = subst (HasId t) at is

-- the task that was found is that task
pub found_is : (o : Option Entry) (x e : Entry) → Some x ≡ o → o ≡ Some e → e ≡ x
found_is o x e found at = let both : Some x ≡ Some e = found ∙ at in cc

-- a change and another one
pub change_then : (a b c : LiveTasks) (n : ℕ) (e f : Entry) → ChangesTask a b n e → ChangesTask b c n f → ChangesTask a c n f
change_then a b c n e f first second = (
  (second.0.0, λ m other. second.0.1 m other ∙ first.0.1 m other),
  (λ p. second.1 p ∙ first.1 p),
  second.2 ∙ first.2,
  second.3 ∙ first.3,
)

-- the task is live under its number after a change that keeps its ticket
pub still_live : (a b : LiveTasks) (t : TaskId) (f : Entry) → ChangesTask a b t.number f → f.running.ticket.id ≡ t → HasId t (entry_at b t.number)
still_live a b t f change id = subst (HasId t) (sym change.0.0) id

-- ---- the core after a call

pub noted_so : (old : DataCore) (live : LiveTasks) (t : TaskId) (e f : Entry) → e.running.ticket.id ≡ t → ChangesTask old.live live t.number f → Noted e f old (record old { live = live })
noted_so old live t e f id change = record { noted = subst (λ (u : TaskId). ChangesTask old.live live u.number f) (sym id) change; rest = refl }

pub tasks_self : (old : DataCore) (live : LiveTasks) → SameCore old.live live → SameSelf old (record old { live = live })
tasks_self old live core = record { node = refl; worker = refl; cluster = refl; pool = refl; numbers = refl; core = core }

-- what is known of a live task is still known where it is as it was
pub stays_so : (P : Option Entry → Type 0) (a b : LiveTasks) (n : ℕ) (e : Entry) → entry_at a n ≡ Some e → ChangesTask a b n e → P (entry_at a n) → P (entry_at b n)
stays_so P a b n e at change p = subst P (at ∙ sym change.0.0) p

-- and it was so before
pub stays_back : (a b : LiveTasks) (n : ℕ) (e f : Entry) → entry_at a n ≡ Some e → ChangesTask a b n e → entry_at b n ≡ Some f → entry_at a n ≡ Some f
stays_back a b n e f at change is = at ∙ sym change.0.0 ∙ is

module _ {B : Type 0} (rests : B → B → DataCall → Type 0) (e : Entry) (b d : B) (old : DataCore) (live : LiveTasks) (t : TaskId) (id : e.running.ticket.id ≡ t) (given : Given) (new : DataCore) (c : B) where
  abbrev mid : DataCore
  mid = record old { live = live }

  -- its mark was looked at
  pub looks_so : (GoesOn : B → DataCore → Given → DataCore → B → Type 0) (mark : Option ℕ) → rests b d (call.look e.running.ticket mark) → ChangesTask old.live live t.number (after_look e mark)
      → UnlessMarked rests GoesOn mark e d mid given new c → Looks rests GoesOn e b old given new c
  looks_so GoesOn mark called change after = (mark, d, mid, called, noted_so old live t e (after_look e mark) id change, after)

  -- its check found a ban
  pub refused_so : (cancel : ℕ) → rests b d (call.check e.running.ticket (checks.Banned cancel)) → ChangesTask old.live live t.number e → Finishes rests (Refused cancel) e d mid given new c → Checks rests e b old given new c
  refused_so cancel called change after = (checks.Banned cancel, d, mid, called, (noted_so old live t e e id change, after))

  -- its check was clear
  pub passes_so : rests b d (call.check e.running.ticket checks.Clear) → ChangesTask old.live live t.number (passed e) → given ≡ Some [] → new ≡ mid → c ≡ d → Checks rests e b old given new c
  passes_so called change none same uncalled = (checks.Clear, d, mid, called, (none, noted_so old live t e (passed e) id change, same, uncalled))

  module _ (request : Request) (to : ℕ) (to_is : to ≡ node_for old.cluster t request) where
    its_node : to ≡ node_for old.cluster e.running.ticket.id request
    its_node = to_is ∙ ap (λ u. node_for old.cluster u request) (sym id)

    -- the board tells that it is marked
    pub marked_so : (cancel : ℕ) → rests b d (call.track e.running.ticket to (tracks.Cancelled cancel)) → ChangesTask old.live live t.number (after_track e (tracks.Cancelled cancel))
        → Finishes rests (Marked cancel) (after_track e (tracks.Cancelled cancel)) d mid given new c → Asks rests request e b old given new c
    marked_so cancel called change after =
        (tracks.Cancelled cancel, d, mid, subst (λ n. rests b d (call.track e.running.ticket n (tracks.Cancelled cancel))) its_node called, (noted_so old live t e (after_track e (tracks.Cancelled cancel)) id change, after))

    -- it has asked
    pub asks_so : rests b d (call.track e.running.ticket to tracks.Cleared) → ChangesTask old.live live t.number e → Noted e (after_ask e to (child_place e.place request)) mid new → given ≡ Some (asked_post old.pool e to request) → c ≡ d → Asks rests request e b old given new c
    asks_so called change noted sent uncalled =
        let place = child_place e.place request in
        let first = noted_so old live t e e id change in
        let all : Noted e (after_ask e to place) old new = record { noted = change_then old.live live new.live (number_of e) e (after_ask e to place) first.noted noted.noted; rest = noted.rest } in (
          tracks.Cleared,
          d,
          mid,
          subst (λ n. rests b d (call.track e.running.ticket n tracks.Cleared)) its_node called,
          (
            subst (λ n. Noted e (after_ask e n place) old new) its_node all,
            subst (λ n. given ≡ Some (asked_post old.pool e n request)) its_node sent,
            uncalled,
          ),
        )

-- ---- which step it is

module _ {B : Type 0} (rests : B → B → DataCall → Type 0) (e : Entry) (b : B) (old : DataCore) (given : Given) (new : DataCore) (c : B) where
  abbrev Next : Bool → Option ℕ → Type 0
  Next is_new mark = DoesNext rests is_new mark e b old given new c

  pub new_step : e.running.is_new ≡ true → Checks rests e b old given new c → Stepped rests e b old given new c
  new_step is_new checks = subst (λ n. Next n e.running.track.closed) (sym is_new) checks

  pub marked_step : (cancel : ℕ) → e.running.is_new ≡ false → e.running.track.closed ≡ Some cancel → Finishes rests (Marked cancel) e b old given new c → Stepped rests e b old given new c
  marked_step cancel is_old marked finishes = subst (λ n. Next n e.running.track.closed) (sym is_old) (subst (Next false) (sym marked) finishes)

  pub planned_step : e.running.is_new ≡ false → e.running.track.closed ≡ None → DoesPlan rests (plan_for old.shards old.clock e) e b old given new c → Stepped rests e b old given new c
  planned_step is_old unmarked does = subst (λ n. Next n e.running.track.closed) (sym is_old) (subst (Next false) (sym unmarked) does)
