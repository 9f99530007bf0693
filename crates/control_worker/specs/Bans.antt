-- What a control worker does with a ban and an unban.
use Rattle.std.specs.Prelude.{◌≡◌, ℕ, nat_le, Bool, not, true, false, ◌&&◌, List, [], ◌∷◌, ◌++◌, map, filter, Option, Some, None, Ok, Err, option_to_list, All}
use Rattle.std.specs.FinMap.{insert, remove}
use Rattle.task_ids.specs.declared.task_id.TaskId.{TaskId}
use Rattle.cancel_core.specs.Listings.{with_listing, listing_act}
use Rattle.node_boards.specs.Calls.{ControlCall}
use Rattle.node_boards.specs.Calls as call
use Rattle.control_worker.specs.declared.act.ControlAct.TheVariants as act
use Rattle.control_worker.specs.declared.control_core.Ban.{Ban}
use Rattle.control_worker.specs.View.{is_to, is_under_way, is_banned, is_of, is_kept_back}
use Rattle.control_worker.specs.Steps.{Step, Nothing, Then, Either, Only, Where, Asks, Each, Moment, Makes}
use Rattle.control_worker.specs.Cancels.{with_cancels, Begins}

-- a number that a task may have, 1 to 1,048,575
abbrev pub is_number : ℕ → Bool
is_number n = nat_le 1 n && nat_le n 1048575

-- the tasks of the node with these numbers, but for those that no task may have
pub record AreTasks (node : ℕ) (numbers : List ℕ) (tasks : List TaskId) : Type 0 where
  pub numbered : map (λ (t : TaskId). t.number) tasks ≡ filter is_number numbers
  pub here : All (λ (t : TaskId). t.node ≡ node) tasks

-- a child that was just marked, and has no cancellation yet, gets the ban's
abbrev pub BeginsChild : ℕ → TaskId → Step
BeginsChild cancel child = Where (is_under_way child) Nothing (Begins child cancel None)

-- the ban is acknowledged once the children have stopped, which may be at once
unfoldable pub Awaits : TaskId → List TaskId → Step
Awaits parent children v calls acts w = (calls ≡ [])
    × (acts ≡ map act.Core (option_to_list (listing_act v.cancels parent children)))
    × (w ≡ with_cancels v (with_listing v.cancels parent children))

-- a ban that was put is listed: its children are cancelled, and then it waits for them
unfoldable pub Lists : Ban → ℕ → Step
Lists ban place v calls acts w = (numbers : List ℕ) × (children : List TaskId) × AreTasks v.node numbers children
    × Then (Asks (call.list place numbers)) (Then (Each (BeginsChild ban.cancel) children) (Awaits ban.parent children)) v calls acts w

-- a ban is put at a place of the board
unfoldable pub Places : Ban → ℕ → Step
Places ban place v calls acts w = (calls ≡ call.ban ban.parent ban.cancel (Ok place) ∷ []) × (acts ≡ []) × (w ≡ record v { bans = insert v.bans ban.parent ban.cancel })

-- a ban is put and listed
unfoldable pub Put : Ban → Step
Put ban v calls acts w = (place : ℕ) × Then (Places ban place) (Lists ban place) v calls acts w

-- a second ban of a parent is passed over
abbrev pub Puts : Ban → Step
Puts ban = Where (is_banned ban.parent) Nothing (Put ban)

-- there is no room for the ban
abbrev pub IsFull : Ban → Step
IsFull ban = Asks (call.ban ban.parent ban.cancel (Err (record {})))

-- the place at which a ban was put, and none where there was no room
abbrev pub PlacesOrNot : Ban → Option ℕ → Step
PlacesOrNot ban (Some place) = Places ban place
PlacesOrNot ban None = IsFull ban

-- a ban was put, or passed over as a second one; or there was no room
abbrev pub PutsOrNot : Ban → Bool → Step
PutsOrNot ban true = Puts ban
PutsOrNot ban false = Only (λ v. not (is_banned ban.parent v)) (IsFull ban)

unfoldable pub KeepsBack : Ban → Step
KeepsBack ban v calls acts w = (calls ≡ []) × (acts ≡ []) × (w ≡ record v { kept = v.kept ++ ban ∷ [] })

-- a ban for which there is no room is kept back
abbrev pub PutsOrKeeps : Ban → Step
PutsOrKeeps ban = Either (PutsOrNot ban true) (Then (PutsOrNot ban false) (KeepsBack ban))

-- a ban letter; one for another node, and one of a parent whose ban is kept back, is passed over
abbrev pub TakesBan : Ban → ℕ → Step
TakesBan ban to = Where (is_to to) (Where (is_kept_back ban.parent) Nothing (PutsOrKeeps ban)) Nothing

-- the bans that are kept back are these now
unfoldable pub Keeps : List Ban → Step
Keeps kept v calls acts w = (calls ≡ []) × (acts ≡ []) × (w ≡ record v { kept = kept })

-- kept bans are put, oldest first, until there is no room
abbrev pub Tries : List Ban → Step
Tries [] = Nothing
Tries (ban ∷ bans) = Either (PutsOrNot ban false) (Then (PutsOrNot ban true) (Then (Keeps bans) (Tries bans)))

unfoldable pub TriesKept : Step
TriesKept v = Tries v.kept v

-- the oldest was put, so what is left to try leads to all; or nothing is left to try now
unfoldable pub TriesOldest : {B : Type 0} → (B → B → ControlCall → Type 0) → List Ban → List Ban → Moment B → Moment B → Bool → Type 0
TriesOldest {B} rests old new s m true = (t : Moment B) → Makes rests (Tries new) m t → Makes rests (Tries old) s t
TriesOldest rests old new s m false = Makes rests (Tries old) s m

-- the parent's ban is taken away, also if it is kept back
unfoldable pub Lifts : TaskId → Step
Lifts parent v calls acts w = (had : Bool) × (calls ≡ call.unban parent had ∷ []) × (acts ≡ [])
    × (w ≡ record v { bans = remove v.bans parent; kept = filter (λ ban. not (is_of parent ban)) v.kept })

-- an unban letter
abbrev pub TakesUnban : TaskId → ℕ → Step
TakesUnban parent to = Where (is_to to) (Then (Lifts parent) TriesKept) Nothing
