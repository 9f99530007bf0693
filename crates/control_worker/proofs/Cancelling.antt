-- What a cancel, an acknowledgement and an end did, from what the node's cancellations answered.
use Rattle.std.proofs.Common.{◌≡◌, ℕ, zero, suc, ◌==◌, ◌||◌, ◌↔◌, Bool, true, false, arith, Contains, eq-eqb, List, [], ◌∷◌, ◌++◌, map, Option, Some, refl, sym, ap, subst}
use Rattle.std.specs.List.{list_any}
use Rattle.std.proofs.lemmas.Bool.{eqb-true}
use Rattle.task_ids.specs.declared.task_id.TaskId.{TaskId}
use Rattle.child_track.specs.declared.nodes.NodeSet.{NodeSet}
use Rattle.child_track.specs.NodeSet.{nodes_of}
use Rattle.child_track.specs.Token.{ReceiptParts}
use Rattle.task_table.specs.declared.ended.MarkAnswer.TheVariants.{Marked, Already, NotFound}
use Rattle.cancel_core.specs.declared.act.Act.{Act}
use Rattle.cancel_core.specs.declared.act.Waiter.{Waiter}
use Rattle.cancel_core.specs.Cancellation.{Cancellation, with_ack, with_receipt, rest_of}
use Rattle.cancel_core.specs.Cancellations.{entry_of, with_entry}
use Rattle.cancel_core.specs.Acts.{ban_acts, first_acts, begun, join_acts, joined_by, due_acts}
use Rattle.cancel_core.specs.Listings.{is_stopped, left_by, leaving_acts}
use Rattle.node_boards.specs.Calls.{ControlCall}
use Rattle.node_boards.specs.Calls as call
use Rattle.control_worker.specs.declared.act.ControlAct.{ControlAct}
use Rattle.control_worker.specs.declared.act.ControlAct.TheVariants as act
use Rattle.control_worker.specs.View.{View, is_here}
use Rattle.control_worker.specs.Steps.{Step, Nothing, Then, Either, Asks, Gives, Moment, Makes, Quietly}
use Rattle.control_worker.specs.Cancels.{with_cancels, with_mark, Begins, Joined, Joins, Starts, Seeks, Cancels, Moves, Acked, Ended, Ends, EndsOf}
use Rattle.control_worker.proofs.Making.{moment, makes_then, makes_first, makes_second, makes_only, makes_yes, makes_no, makes_asks, makes_gives, makes_quietly, makes_nothing}

or_right : (a b : Bool) → b ≡ true → (a || b) ≡ true
or_right true b e = refl
or_right false b e = e

-- who is on a list is found there
any_of : (ns : List ℕ) (n : ℕ) → Contains ns n → list_any (λ m. m == n) ns ≡ true
any_of [] n (k, l, is) = absurd (omega (arith, l))
any_of (m ∷ ns) n (zero, l, is) = ap (λ b. b || list_any (λ x. x == n) ns) (eq-eqb m n is)
any_of (m ∷ ns) n (suc k, l, is) = or_right (m == n) (list_any (λ x. x == n) ns) (any_of ns n (k, omega (arith, l), is))

of_any : (ns : List ℕ) (n : ℕ) → list_any (λ m. m == n) ns ≡ true → Contains ns n
of_any [] n e = absurd (cc)
of_any (m ∷ ns) n e = one (m == n) refl (of_any ns n) e
  where
    one : (b : Bool) → (m == n) ≡ b → (list_any (λ x. x == n) ns ≡ true → Contains ns n) → (b || list_any (λ x. x == n) ns) ≡ true → Contains (m ∷ ns) n
    one true is later found = (0, omega arith, eqb-true m n is)
    one false is later found = let (k, l, there) = later found in (suc k, omega (arith, l), there)

pub awaited_is : (ns : List ℕ) (n : ℕ) (told : Bool) → (told ≡ true) ↔ Contains ns n → told ≡ list_any (λ m. m == n) ns
awaited_is ns n true both = sym (any_of ns n (both.0 refl))
awaited_is ns n false both = one (list_any (λ m. m == n) ns) refl
  where
    one : (b : Bool) → list_any (λ m. m == n) ns ≡ b → false ≡ b
    one true found = both.1 (of_any ns n found)
    one false found = refl

pub quiet_joined : (v w : View) (old new : List ControlAct) (task : TaskId) (waiter : Waiter) (more : List Act) → new ≡ old ++ map act.Core more → more ≡ join_acts task (entry_of v.cancels task) waiter
    → w ≡ with_cancels v (with_entry v.cancels task (Some (joined_by (entry_of v.cancels task) waiter))) → Quietly (Joined task waiter) v old w new
unfolding Quietly Joined
quiet_joined v w old new task waiter more given acts is = (map act.Core more, (refl, ap (map act.Core) acts, is), given)

pub quiet_moves : (v w : View) (old new : List ControlAct) (task : TaskId) (c : Cancellation) (stopped : Bool) (more : List Act) → new ≡ old ++ map act.Core more → more ≡ due_acts task c ++ leaving_acts v.cancels task stopped
    → w ≡ with_cancels v (left_by (with_entry v.cancels task (rest_of c)) task stopped) → Quietly (Moves task c stopped) v old w new
unfolding Quietly Moves
quiet_moves v w old new task c stopped more given acts is = (map act.Core more, (refl, ap (map act.Core) acts, is), given)

pub quiet_acked : (v w : View) (old new : List ControlAct) (parent : TaskId) (from : ℕ) (more : List Act) → new ≡ old ++ map act.Core more
    → more ≡ due_acts parent (with_ack (entry_of v.cancels parent) from) ++ leaving_acts v.cancels parent (is_stopped (with_ack (entry_of v.cancels parent) from))
    → w ≡ with_cancels v (left_by (with_entry v.cancels parent (rest_of (with_ack (entry_of v.cancels parent) from))) parent (is_stopped (with_ack (entry_of v.cancels parent) from)))
    → Quietly (Acked parent from) v old w new
unfolding Quietly
quiet_acked v w old new parent from more given acts is =
    let c = with_ack (entry_of v.cancels parent) from in
    let (gained, made, all) = quiet_moves v w old new parent c (is_stopped c) more given acts is in (gained, made, all)

pub quiet_ended : (v w : View) (old new : List ControlAct) (task : TaskId) (receipt : ReceiptParts) (more : List Act) → new ≡ old ++ map act.Core more
    → more ≡ due_acts task (with_receipt (entry_of v.cancels task) receipt) ++ leaving_acts v.cancels task true
    → w ≡ with_cancels v (left_by (with_entry v.cancels task (rest_of (with_receipt (entry_of v.cancels task) receipt))) task true)
    → Quietly (Ended task receipt) v old w new
unfolding Quietly
quiet_ended v w old new task receipt more given acts is =
    let (gained, made, all) = quiet_moves v w old new task (with_receipt (entry_of v.cancels task) receipt) true more given acts is in (gained, made, all)

pub quiet_ends : (v w : View) (old new : List ControlAct) (o : Option TaskId) (task : TaskId) (receipt : ReceiptParts) → o ≡ Some task → Quietly (Ends task receipt) v old w new → Quietly (EndsOf o receipt) v old w new
quiet_ends v w old new o task receipt is made = subst (λ (p : Option TaskId). Quietly (EndsOf p receipt) v old w new) (sym is) made

module _ {B : Type 0} (rests : B → B → ControlCall → Type 0) where
  pub makes_begins : (b c : B) (v w : View) (old new : List ControlAct) (task : TaskId) (cancel : ℕ) (waiter : Option Waiter) (nodes : NodeSet) (more : List Act) → rests b c (call.mask task.number nodes)
      → new ≡ old ++ map act.Core more → more ≡ ban_acts task cancel (nodes_of nodes) ++ first_acts task cancel (nodes_of nodes) waiter
      → w ≡ with_mark (with_cancels v (with_entry v.cancels task (Some (begun cancel (nodes_of nodes) waiter))))
      → Makes rests (Begins task cancel waiter) (moment b v old) (moment c w new)
  unfolding Makes Begins
  makes_begins b c v w old new task cancel waiter nodes more rest given acts is =
      (call.mask task.number nodes ∷ [], map act.Core more, (c, rest, refl), (nodes, refl, ap (map act.Core) acts, is), given)

  -- a task of this node was marked
  pub finds_marked : (b m : B) (t : Moment B) (v : View) (given : List ControlAct) (task : TaskId) (waiter : Waiter) → is_here task v ≡ true → rests b m (call.mark task.number waiter.cancel Marked)
      → Makes rests (Starts task waiter) (moment m v given) t → Makes rests (Seeks task waiter true) (moment b v given) t
  finds_marked b m t v given task waiter here rest started =
      let s = moment b v given in
      let asks : Step = Asks (call.mark task.number waiter.cancel Marked) in
      let later : Step = λ u calls acts w. (mark : ℕ) × Then (Asks (call.mark task.number waiter.cancel (Already mark))) (Joins task waiter) u calls acts w in
      makes_only rests (is_here task) (Either (Then asks (Starts task waiter)) later) s t here
      (makes_first rests (Then asks (Starts task waiter)) later s t
      (makes_then rests asks (Starts task waiter) s (moment m v given) t (makes_asks rests b m v given (call.mark task.number waiter.cancel Marked) rest) started))

  some_mark : (S : ℕ → Step) (k : ℕ) (s t : Moment B) → Makes rests (S k) s t → Makes rests (λ u calls acts w. (mark : ℕ) × S mark u calls acts w) s t
  unfolding Makes
  some_mark S k s t (calls, acts, chain, made, given) = (calls, acts, chain, (k, made), given)

  -- it had a mark
  pub finds_known : (b m : B) (v w : View) (old new : List ControlAct) (task : TaskId) (waiter : Waiter) (k : ℕ) → is_here task v ≡ true → rests b m (call.mark task.number waiter.cancel (Already k))
      → Quietly (Joins task waiter) v old w new → Makes rests (Seeks task waiter true) (moment b v old) (moment m w new)
  finds_known b m v w old new task waiter k here rest joined =
      let s = moment b v old in
      let t = moment m w new in
      let first : Step = Then (Asks (call.mark task.number waiter.cancel Marked)) (Starts task waiter) in
      let asks : ℕ → Step = λ mark. Asks (call.mark task.number waiter.cancel (Already mark)) in
      let later : ℕ → Step = λ mark. Then (asks mark) (Joins task waiter) in
      makes_only rests (is_here task) (Either first (λ u calls acts x. (mark : ℕ) × later mark u calls acts x)) s t here
      (makes_second rests first (λ u calls acts x. (mark : ℕ) × later mark u calls acts x) s t
      (some_mark later k s t
      (makes_then rests (asks k) (Joins task waiter) s (moment m v old) t (makes_asks rests b m v old (call.mark task.number waiter.cancel (Already k)) rest)
      (makes_quietly rests (Joins task waiter) m v w old new joined))))

  -- no live task of this node has its number
  pub misses_number : (b m : B) (v : View) (given : List ControlAct) (task : TaskId) (waiter : Waiter) → is_here task v ≡ true → rests b m (call.mark task.number waiter.cancel NotFound)
      → Makes rests (Seeks task waiter false) (moment b v given) (moment m v given)
  misses_number b m v given task waiter here rest =
      makes_yes rests (is_here task) (Asks (call.mark task.number waiter.cancel NotFound)) Nothing (moment b v given) (moment m v given) here
      (makes_asks rests b m v given (call.mark task.number waiter.cancel NotFound) rest)

  -- it is a task of another node
  pub misses_other : (b : B) (v : View) (given : List ControlAct) (task : TaskId) (waiter : Waiter) → is_here task v ≡ false → Makes rests (Seeks task waiter false) (moment b v given) (moment b v given)
  misses_other b v given task waiter other =
      makes_no rests (is_here task) (Asks (call.mark task.number waiter.cancel NotFound)) Nothing (moment b v given) (moment b v given) other (makes_nothing rests (moment b v given))

  pub cancels_found : (s t : Moment B) (task : TaskId) (waiter : Waiter) → Makes rests (Seeks task waiter true) s t → Makes rests (Cancels task waiter) s t
  cancels_found s t task waiter found = makes_first rests (Seeks task waiter true) (Then (Seeks task waiter false) (Gives (act.NotFound waiter.cancel))) s t found

  pub cancels_missed : (s : Moment B) (b : B) (v : View) (old new : List ControlAct) (task : TaskId) (waiter : Waiter) → Makes rests (Seeks task waiter false) s (moment b v old) → new ≡ old ++ act.NotFound waiter.cancel ∷ []
      → Makes rests (Cancels task waiter) s (moment b v new)
  cancels_missed s b v old new task waiter missed given =
      let told : Step = Gives (act.NotFound waiter.cancel) in
      makes_second rests (Seeks task waiter true) (Then (Seeks task waiter false) told) s (moment b v new)
      (makes_then rests (Seeks task waiter false) told s (moment b v old) (moment b v new) missed (makes_gives rests b v old new (act.NotFound waiter.cancel) given))
