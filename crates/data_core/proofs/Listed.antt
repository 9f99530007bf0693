-- The rows of a list, one after another.
use Rattle.std.proofs.Common.{◌≡◌, ℕ, Bool, ◌+◌, ◌-◌, ◌<◌, ◌^◌, List, [], ◌∷◌, ◌++◌, Option, Some, None, refl, sym, ap, ◌∙◌, subst, append_assoc, append-nil}
use Rattle.std.specs.Prelude.{IfSome, IfOk, Result, Ok, Err}
use Rattle.task_ids.specs.declared.task_id.TaskId.{TaskId}
use Rattle.task_ids.specs.declared.task_info.TaskInfo.{TaskInfo}
use Rattle.task_events.specs.declared.stop.Stop.{Stop}
use Rattle.node_link.specs.declared.body.Body.{Body}
use Rattle.node_link.specs.declared.body.Body.TheVariants as says
use Rattle.run_facts.specs.declared.To.TheVariants as to
use Rattle.run_facts.specs.declared.Post.{Post}
use Rattle.node_boards.specs.Calls.{DataCall}
use Rattle.node_boards.specs.Calls as call
use Rattle.live_tasks.specs.declared.entry.Entry.{Entry}
use Rattle.live_tasks.specs.declared.live.LiveTasks.{LiveTasks}
use Rattle.live_tasks.specs.Entries.{after_look}
use Rattle.live_tasks.specs.Live.{entry_at, ChangesTask, IsBeyond}
use Rattle.node_link.specs.Lawful.{IsCancelOfRun, IsLawfulRow}
use Rattle.run_facts.specs.Cancels.{cancels_of}
use Rattle.data_core.specs.declared.state.DataCore.{DataCore}
use Rattle.data_core.specs.Letters.{row_of}
use Rattle.data_core.specs.Turns.{IsNext, Lists, OnlyTasks, Posts, Tells, post}
use Rattle.data_core.proofs.Cases.{told_of_run}

module _ {B : Type 0} (rests : B → B → DataCall → Type 0) (b : B) (old : LiveTasks) where
  -- what is listed from here on makes a whole list with what was listed before
  abbrev pub ListedSoFar : Option TaskId → List TaskInfo → LiveTasks → B → Type 0
  ListedSoFar after rows mid d = (more : List TaskInfo) (new : LiveTasks) (c : B) → Lists rests after more d mid new c → Lists rests None (rows ++ more) b old new c

  pub listed_one : (after : Option TaskId) (rows : List TaskInfo) (mid next : LiveTasks) (d f : B) (row : TaskInfo) (e : Entry) → ListedSoFar after rows mid d
      → IsNext rests mid after row e → rests d f (call.look e.running.ticket row.cancelled) → ChangesTask mid next row.id.number (after_look e row.cancelled)
      → ListedSoFar (Some row.id) (rows ++ row ∷ []) next f
  listed_one after rows mid next d f row e so_far comes called change more new c rest =
      subst (λ (all : List TaskInfo). Lists rests None all b old new c) (sym (append_assoc rows (row ∷ []) more)) (so_far (row ∷ more) new c (e, next, f, comes, called, change, rest))

  pub listed_next : (after : Option TaskId) (rows : List TaskInfo) (mid next : LiveTasks) (d f : B) (t : TaskId) (row : TaskInfo) (e : Entry) → ListedSoFar after rows mid d
      → IsBeyond after t.number → ((n : ℕ) → IsBeyond after n → n < t.number → entry_at mid n ≡ None) → entry_at mid t.number ≡ Some e → e.running.ticket.id ≡ t
      → (row ≡ row_of e row.cancelled) × rests d f (call.look e.running.ticket row.cancelled) × ChangesTask mid next t.number (after_look e row.cancelled)
      → ListedSoFar (Some t) (rows ++ row ∷ []) next f
  listed_next after rows mid next d f t row e so_far beyond lowest at id looked =
      let same : t ≡ row.id = sym (ap (λ (r : TaskInfo). r.id) looked.0 ∙ id) in
      subst (λ i. ListedSoFar (Some i) (rows ++ row ∷ []) next f) (sym same)
      (listed_one after rows mid next d f row e so_far (record {
        live_is = subst (λ i. entry_at mid i.number ≡ Some e) same at;
        row_is = looked.0;
        beyond = subst (λ i. IsBeyond after i.number) same beyond;
        lowest = subst (λ i. (n : ℕ) → IsBeyond after n → n < i.number → entry_at mid n ≡ None) same lowest;
      }) looked.1 (subst (λ i. ChangesTask mid next i.number (after_look e row.cancelled)) same looked.2))

  pub listed_all : (after : Option TaskId) (rows : List TaskInfo) (mid : LiveTasks) (d : B) → ListedSoFar after rows mid d → ((n : ℕ) → IsBeyond after n → entry_at mid n ≡ None) → Lists rests None rows b old mid d
  listed_all after rows mid d so_far none = subst (λ (all : List TaskInfo). Lists rests None all b old mid d) (append-nil rows) (so_far [] mid d (none, refl, refl))

-- how many numbers are above that of a task
abbrev pub above : Option TaskId → ℕ
above None = 2 ^ 32 + 1
above (Some t) = 2 ^ 32 - t.number

-- ---- the row of one task

row_after_look : (e : Entry) (mark : Option ℕ) → row_of (after_look e mark) mark ≡ row_of e mark
row_after_look e None = refl
row_after_look e (Some cancel) = refl

-- what the row of a task is that was looked at
pub looked_row : (e : Entry) (mark : Option ℕ) (row : TaskInfo) → row ≡ row_of (after_look e mark) mark → row ≡ row_of e mark
looked_row e mark row made = made ∙ row_after_look e mark

-- it tells the mark that the look told
pub looked_so : {B : Type 0} (rests : B → B → DataCall → Type 0) (b d : B) (old live : LiveTasks) (n : ℕ) (e : Entry) (mark : Option ℕ) (row : TaskInfo) → row ≡ row_of e mark → rests b d (call.look e.running.ticket mark) → ChangesTask old live n (after_look e mark)
    → (row ≡ row_of e row.cancelled) × rests b d (call.look e.running.ticket row.cancelled) × ChangesTask old live n (after_look e row.cancelled)
looked_so rests b d old live n e mark row made called change =
    subst (λ m. (row ≡ row_of e m) × rests b d (call.look e.running.ticket m) × ChangesTask old live n (after_look e m)) (sym (ap (λ (r : TaskInfo). r.cancelled) made)) (made, called, change)

pub looked_lawful : (cancels : ℕ → Type 0) (e : Entry) (mark : Option ℕ) (row : TaskInfo) → row ≡ row_of e mark → IfSome mark (cancels_of cancels) → IsLawfulRow (cancels_of cancels) row
looked_lawful cancels e mark row made told = subst (λ m. IfSome m (IsCancelOfRun (cancels_of cancels))) (sym (ap (λ (r : TaskInfo). r.cancelled) made)) (told_of_run cancels mark told)

-- only the live tasks have changed, also over two calls
pub then_tasks : (a b c : DataCore) → OnlyTasks a b → OnlyTasks b c → OnlyTasks a c
then_tasks a b c first second = second ∙ ap (λ (m : DataCore). record m { live = c.live }) first

-- ---- the letter that tells the rows

-- the rows are sent in one letter
pub tells_so : {B P : Type 0} (rests : B → B → DataCall → Type 0) (items : P → Posts) (r : Result P Stop) (x : Post Body) (sent : List TaskInfo → Posts) (rows : List TaskInfo) (b : B) (old new : DataCore) (c : B)
    → IfOk r (λ p. items p ≡ x ∷ []) → x ∷ [] ≡ sent rows → Lists rests None rows b old.live new.live c → OnlyTasks old new → IfOk r (λ p. Tells rests sent b old (items p) new c)
tells_so rests items (Ok p) x sent rows b old new c is same lists rest = (rows, is ∙ same, lists, rest)
tells_so rests items (Err e) x sent rows b old new c is same lists rest = tt

-- the same worker tells the same
pub rows_same : (command : ℕ) (rows : List TaskInfo) (old new : DataCore) → OnlyTasks old new → post to.Driver (says.Rows new.node new.worker command rows) ≡ post to.Driver (says.Rows old.node old.worker command rows)
rows_same command rows old new rest = ap (λ (k : DataCore). post to.Driver (says.Rows k.node k.worker command rows)) rest

pub matches_same : (cancel : ℕ) (wait : Bool) (rows some : List TaskInfo) (old new : DataCore) → OnlyTasks old new → rows ≡ some → post (to.Control new.node) (says.Matches new.worker cancel rows wait) ≡ post (to.Control old.node) (says.Matches old.worker cancel some wait)
matches_same cancel wait rows some old new rest same =
    ap (λ (k : DataCore). post (to.Control k.node) (says.Matches k.worker cancel rows wait)) rest ∙ ap (λ (l : List TaskInfo). post (to.Control old.node) (says.Matches old.worker cancel l wait)) same
