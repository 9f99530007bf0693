-- Steps of a turn: how a core, the calls of its board with their answers, and the acts that are given belong together.
use Rattle.std.specs.Prelude.{◌≡◌, ◌⊎◌, Bool, true, List, [], ◌∷◌, ◌++◌, MatchBool, Option, Some, All, Contains}
use Rattle.task_ids.specs.declared.task_id.TaskId.{TaskId}
use Rattle.cancel_core.specs.declared.act.Waiter.{Waiter}
use Rattle.cancel_core.specs.Cancellations.{entry_of}
use Rattle.node_boards.specs.Calls.{ControlCall}
use Rattle.control_worker.specs.declared.act.ControlAct.{ControlAct}
use Rattle.control_worker.specs.declared.control_core.ControlCore.{ControlCore}
use Rattle.control_worker.specs.View.{View, view_of}

-- the core before, the calls with their answers, the acts, and the core after
abbrev pub Step : Type 1
Step = View → List ControlCall → List ControlAct → View → Type 0

-- nothing is asked, given or changed
unfoldable pub Nothing : Step
Nothing v calls acts w = (calls ≡ []) × (acts ≡ []) × (w ≡ v)

-- one step, and then another
unfoldable pub Then : Step → Step → Step
Then S T v calls acts w = (u : View) × (first later : List ControlCall) × (given more : List ControlAct)
    × S v first given u × T u later more w × (calls ≡ first ++ later) × (acts ≡ given ++ more)

-- one of two steps
unfoldable pub Either : Step → Step → Step
Either S T v calls acts w = S v calls acts w ⊎ T v calls acts w

-- a step of a core that passes the test
unfoldable pub Only : (View → Bool) → Step → Step
Only test S v calls acts w = (test v ≡ true) × S v calls acts w

-- one step where the core passes the test, and else the other
unfoldable pub Where : (View → Bool) → Step → Step → Step
Where test S T v calls acts w = MatchBool (test v) (S v calls acts w) (T v calls acts w)

-- the board is asked, and the core stays
unfoldable pub Asks : ControlCall → Step
Asks call v calls acts w = (calls ≡ call ∷ []) × (acts ≡ []) × (w ≡ v)

-- an act is given
unfoldable pub Gives : ControlAct → Step
Gives act v calls acts w = (calls ≡ []) × (acts ≡ act ∷ []) × (w ≡ v)

-- one step for each, in order
abbrev pub Each : {X : Type 0} → (X → Step) → List X → Step
Each S [] = Nothing
Each S (x ∷ xs) = Then (S x) (Each S xs)

-- a step that asks nothing of the board was made, with its acts behind those that were given before
unfoldable pub Quietly : Step → View → List ControlAct → View → List ControlAct → Type 0
Quietly S v old w new = (acts : List ControlAct) × S v [] acts w × (new ≡ old ++ acts)

-- each of these waited before, but for this one
abbrev pub Waited : Option Waiter → List Waiter → List Waiter → Type 0
Waited but old new = All (λ x. Contains old x ⊎ (but ≡ Some x)) new

-- the core's bans and its room are the same, and whoever waits for a task waited before, but for this one
pub record Stays (but : Option Waiter) (v w : View) : Type 0 where
  pub bans : w.bans ≡ v.bans
  pub kept : w.kept ≡ v.kept
  pub slots : w.slots ≡ v.slots
  pub waiting : (task : TaskId) → Waited but (entry_of v.cancels task).waiters (entry_of w.cancels task).waiters

-- a board and a core, and the acts that were given so far
pub record Moment (B : Type 0) : Type 0 where
  pub board : B
  pub core : View
  pub given : List ControlAct

abbrev pub at : {B : Type 0} → B → ControlCore → List ControlAct → Moment B
at board core given = record { board = board; core = view_of core; given = given }

module _ {B : Type 0} (rests : B → B → ControlCall → Type 0) where
  -- the seat goes from one state to another by exactly these calls
  abbrev pub Chain : B → List ControlCall → B → Type 0
  Chain b [] c = b ≡ c
  Chain b (call ∷ calls) c = (m : B) × rests b m call × Chain m calls c

  -- from one moment to another the step was made
  unfoldable pub Makes : Step → Moment B → Moment B → Type 0
  Makes S s t = (calls : List ControlCall) × (acts : List ControlAct) × Chain s.board calls t.board × S s.core calls acts t.core × (t.given ≡ s.given ++ acts)
