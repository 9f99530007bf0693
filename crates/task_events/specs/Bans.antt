-- Marks, the nodes that a mark bans, and how far the bans have come.
use Rattle.std.specs.Prelude.{ℕ, Bool, true, false, ◌&&◌, ◌||◌, List, [], ◌∷◌, Option, Some, None, is_some, option_and_then, if◌then◌else◌}
use Rattle.std.specs.List.{list_all}
use Rattle.task_ids.specs.declared.task_id.TaskId.{TaskId}
use Rattle.task_events.specs.declared.event.Event.{Event}
use Rattle.task_events.specs.declared.event.Event.TheVariants.{Put, Mark, BanPut, Listed, Acked, BanGone}
use Rattle.task_events.specs.Same.{same_task, same_pair}
use Rattle.task_events.specs.Tasks.{parent_of, has_ended}
use Rattle.task_events.specs.Asks.{unanswered_nodes}

-- the number of the cancellation with which the task is marked
abbrev pub mark_of : TaskId → List Event → Option ℕ
mark_of t [] = None
mark_of t (Mark u c ∷ h) = if same_task t u then Some c else mark_of t h
mark_of t (_ ∷ h) = mark_of t h

-- the nodes of the asks that were unanswered when the task was marked, ascending
abbrev pub banned_nodes : TaskId → List Event → List ℕ
banned_nodes t [] = []
banned_nodes t (Mark u c ∷ h) = if same_task t u then unanswered_nodes t h else banned_nodes t h
banned_nodes t (_ ∷ h) = banned_nodes t h

-- the number of the ban of p that stands on n
abbrev pub standing_ban : ℕ → TaskId → List Event → Option ℕ
standing_ban n p [] = None
standing_ban n p (BanPut m q c ∷ h) = if same_pair p n q m then Some c else standing_ban n p h
standing_ban n p (BanGone m q ∷ h) = if same_pair p n q m then None else standing_ban n p h
standing_ban n p (_ ∷ h) = standing_ban n p h

-- the listing of a ban is open from the putting of the ban up to the listing's end
abbrev pub listing_is_open : ℕ → TaskId → List Event → Bool
listing_is_open n p [] = false
listing_is_open n p (BanPut m q c ∷ h) = if same_pair p n q m then true else listing_is_open n p h
listing_is_open n p (Listed m q ∷ h) = if same_pair p n q m then false else listing_is_open n p h
listing_is_open n p (_ ∷ h) = listing_is_open n p h

-- the listing for p on n has ended
abbrev pub is_listed : ℕ → TaskId → List Event → Bool
is_listed n p [] = false
is_listed n p (Listed m q ∷ h) = if same_pair p n q m then true else is_listed n p h
is_listed n p (_ ∷ h) = is_listed n p h

-- the ban of p on n is acknowledged
abbrev pub is_acked : ℕ → TaskId → List Event → Bool
is_acked n p [] = false
is_acked n p (Acked q m ∷ h) = if same_pair p n q m then true else is_acked n p h
is_acked n p (_ ∷ h) = is_acked n p h

-- the ban of p was taken away from n
abbrev pub is_gone : ℕ → TaskId → List Event → Bool
is_gone n p [] = false
is_gone n p (BanGone m q ∷ h) = if same_pair p n q m then true else is_gone n p h
is_gone n p (_ ∷ h) = is_gone n p h

-- the number of the ban of p that was last put on n, also after it is gone
abbrev pub ban_put : ℕ → TaskId → List Event → Option ℕ
ban_put n p [] = None
ban_put n p (BanPut m q c ∷ h) = if same_pair p n q m then Some c else ban_put n p h
ban_put n p (_ ∷ h) = ban_put n p h

-- the task is marked, and all its bans are acknowledged
abbrev pub bans_are_placed : TaskId → List Event → Bool
bans_are_placed t h = is_some (mark_of t h) && list_all (λ n. is_acked n t h) (banned_nodes t h)

-- the unbans of a task are sent as soon as it has ended and its bans are placed
abbrev pub unbans_are_sent : TaskId → List Event → Bool
unbans_are_sent t h = has_ended t h && bans_are_placed t h

-- the number of the ban of the task's parent that stands on the task's node
abbrev pub ban_over : TaskId → List Event → Option ℕ
ban_over t h = option_and_then (λ p. standing_ban t.node p h) (parent_of t h)

-- the number of that ban where its listing is open
abbrev pub open_ban_over : TaskId → List Event → Option ℕ
open_ban_over t h = option_and_then (λ p. if listing_is_open t.node p h then standing_ban t.node p h else None) (parent_of t h)

-- the number of the ban of its parent that had been put on the task's node before the task was
abbrev pub late_ban : TaskId → List Event → Option ℕ
late_ban t [] = None
late_ban t (Put u p k ∷ h) = if same_task t u then ban_put u.node p h else late_ban t h
late_ban t (_ ∷ h) = late_ban t h

-- ---- when the acknowledgement of a ban is due

-- the children of p that were put on n, the youngest first
abbrev pub put_for : ℕ → TaskId → List Event → List TaskId
put_for n p [] = []
put_for n p (Put t q k ∷ h) = if same_pair p n q t.node then t ∷ put_for n p h else put_for n p h
put_for n p (_ ∷ h) = put_for n p h

-- those of them that were put before the listing for p on n ended
abbrev pub listed_children : ℕ → TaskId → List Event → List TaskId
listed_children n p [] = []
listed_children n p (Listed m q ∷ h) = if same_pair p n q m then put_for n p h else listed_children n p h
listed_children n p (_ ∷ h) = listed_children n p h

-- the task has ended, or its own bans are placed: it starts nothing any more
abbrev pub is_stopped : TaskId → List Event → Bool
is_stopped t h = has_ended t h || bans_are_placed t h

-- The acknowledgement of the ban of p on n is due once its listing has ended and each child that was put there before is stopped.
abbrev pub ack_is_due : ℕ → TaskId → List Event → Bool
ack_is_due n p h = is_listed n p h && list_all (λ t. is_stopped t h) (listed_children n p h)
