-- Whom the control seat marked, and that a new one has no ban.
use Rattle.std.proofs.Common.{◌≡◌, ◌≢◌, ℕ, zero, suc, ◌<◌, ◌≤◌, List, [], ◌∷◌, ◌++◌, length, get_or, take, inl, inr, refl, sym, ap, ◌∙◌, subst, arith}
use Rattle.task_ids.specs.declared.task_id.TaskId.{TaskId}
use Rattle.race_board.specs.Keys.{task_key}
use Rattle.race_board.specs.Board.{In, ban, newcomer}
use Rattle.race_board.specs.Lists.{NoneOf, Marks, KnownBy}
use Rattle.task_table.specs.declared.ended.MarkAnswer.{MarkAnswer}
use Rattle.task_table.specs.declared.ended.MarkAnswer.TheVariants.{Marked, Already, NotFound}
use Rattle.race_board.specs.declared.views.Size.{Size}
use Rattle.race_board.specs.declared.views.Ban.{Ban}
use Rattle.race_board.specs.declared.views.View.{View}
use Rattle.race_board.proofs.Controls.{all_lifted}

pub in_behind : (n : ℕ) (l ms : List ℕ) → In n ms → In n (l ++ ms)
in_behind n [] ms h = h
in_behind n (x ∷ xs) ms h = inr (in_behind n xs ms h)

pub in_taken : (ms : List ℕ) (c k : ℕ) → k < c → c ≤ length ms → In (get_or ms k 0) (take c ms)
in_taken [] c k l m = absurd (omega arith)
in_taken (x ∷ xs) zero k l m = absurd (omega arith)
in_taken (x ∷ xs) (suc c) zero l m = inl refl
in_taken (x ∷ xs) (suc c) (suc k) l m = inr (in_taken xs c k (omega arith) (omega arith))

pub known_by : (v w : View) (z : Size) (n c : ℕ) (a : MarkAnswer) → Marks v w z n c a → KnownBy w n a
known_by v w z n c Marked t = subst (In n) (sym (ap (λ (q : View). q.marked) t.6)) (in_behind n v.marked (n ∷ []) (inl refl))
known_by v w z n c (Already k) t = tt
known_by v w z n c NotFound t = tt

key_some : (t : TaskId) → task_key t ≢ 0
unfolding task_key
key_some t e = let a = t.number_in_range in absurd (omega arith)

pub no_ban_yet : (z : Size) (v : View) (k : ℕ) → v ≡ newcomer z 1 k → (t : TaskId) → NoneOf v z (task_key t)
no_ban_yet z v k is t j l e = key_some t (sym e ∙ (ap (λ (q : View). (ban q j).parent) is ∙ ap (λ (b : Ban). b.parent) (all_lifted z.bans j)))
