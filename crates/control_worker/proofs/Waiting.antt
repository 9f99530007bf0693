-- Who waits for a task after a cancellation changed.
use Rattle.std.proofs.Common.{◌≡◌, ◌⊎◌, ◌&&◌, inl, inr, ℕ, nat_lt, Bool, true, false, not, if◌then◌else◌, List, [], ◌∷◌, take, drop, filter, Option, Some, None, unwrap_or, refl, sym, subst, All, Contains, arith}
use Rattle.std.specs.List.{position_or_len}
use Rattle.std.specs.FinMap.{FinMap, get}
use Rattle.std.specs.Ordering.{eq_by_cmp}
use Rattle.std.proofs.lemmas.List.Elements.{All-nil, All-cons, All-append, All-take, All-drop, All-filter, All-weaker, All-contains, All-contains_itself}
use Rattle.task_ids.specs.declared.task_id.TaskId.{TaskId}
use Rattle.task_ids.specs.TaskIdOrder.{task_id_cmp}
use Rattle.child_track.specs.Token.{ReceiptParts}
use Rattle.cancel_core.specs.declared.act.Waiter.{Waiter}
use Rattle.cancel_core.specs.Cancellation.{Cancellation, opened, is_placed, is_done, with_waiter, with_ack, with_receipt, still_waiting, rest_of}
use Rattle.cancel_core.specs.Cancellations.{Cancellations, entry_of, with_entry, changed}
use Rattle.cancel_core.specs.Acts.{begun, joined_by}
use Rattle.cancel_core.specs.Listings.{is_stopped, left_by, without_wait, with_listing}
use Rattle.control_worker.specs.View.{View}
use Rattle.control_worker.specs.Steps.{Waited, Stays}
use Rattle.control_worker.proofs.Parents.{alike, inserted_value, insert_other, removed_value, remove_other}

-- what holds of all who waited, and of this one, holds of all who wait
pub all_waited : (P : Waiter → Type 0) (but : Option Waiter) (old new : List Waiter) → Waited but old new → All P old → ((x : Waiter) → but ≡ Some x → P x) → All P new
all_waited P but old new waited all one = All-weaker (λ x. Contains old x ⊎ (but ≡ Some x)) P (λ x is. by x is) new waited
  where
    by : (x : Waiter) → Contains old x ⊎ (but ≡ Some x) → P x
    by x (inl has) = All-contains P old x all has
    by x (inr is) = one x is

pub waited_same : (but : Option Waiter) (ws : List Waiter) → Waited but ws ws
waited_same but ws = All-weaker (Contains ws) (λ x. Contains ws x ⊎ (but ≡ Some x)) (λ x has. inl has) ws (All-contains_itself ws)

waited_few : (but : Option Waiter) (p : Waiter → Bool) (ws : List Waiter) → Waited but ws (filter p ws)
waited_few but p ws = All-filter p (λ x. Contains ws x ⊎ (but ≡ Some x)) ws (waited_same but ws)

waited_none : (but : Option Waiter) (ws : List Waiter) → Waited but ws []
waited_none but ws = All-nil (λ x. Contains ws x ⊎ (but ≡ Some x))

waited_more : (w : Waiter) (ws : List Waiter) → Waited (Some w) ws (with_waiter ws w)
waited_more w ws =
    let P : Waiter → Type 0 = λ x. Contains ws x ⊎ (Some w ≡ Some x) in
    let i = position_or_len (λ (v : Waiter). nat_lt w.cancel v.cancel) ws in
    let all : All P ws = waited_same (Some w) ws in
    All-append P (take i ws) (w ∷ drop i ws) (All-take P i ws all) (All-cons P w (drop i ws) (inr refl) (All-drop P i ws all))

joined_waits : (c : Cancellation) (w : Waiter) → Waited (Some w) c.waiters (joined_by c w).waiters
joined_waits c w = by (is_placed c && not w.wait)
  where
    by : (b : Bool) → Waited (Some w) c.waiters (if b then c else record c { waiters = with_waiter c.waiters w }).waiters
    by true = waited_same (Some w) c.waiters
    by false = waited_more w c.waiters

-- nobody waited before
anew : (but : Option Waiter) (old new : List Waiter) → Waited but [] new → Waited but old new
anew but old new waited = All-weaker (λ x. Contains [] x ⊎ (but ≡ Some x)) (λ x. Contains old x ⊎ (but ≡ Some x)) (λ x is. by x is) new waited
  where
    by : (x : Waiter) → Contains [] x ⊎ (but ≡ Some x) → Contains old x ⊎ (but ≡ Some x)
    by x (inl (k, within, is)) = absurd (omega (arith, within))
    by x (inr is) = inr is

begun_waits : (cancel : ℕ) (nodes : List ℕ) (waiter : Option Waiter) (old : List Waiter) → Waited waiter old (begun cancel nodes waiter).waiters
begun_waits cancel nodes None old = waited_none None old
begun_waits cancel nodes (Some w) old = anew (Some w) old (joined_by (opened cancel nodes) w).waiters (joined_waits (opened cancel nodes) w)

rest_waits : (c : Cancellation) → Waited None c.waiters (unwrap_or (rest_of c) (opened 0 [])).waiters
rest_waits c = by (is_done c)
  where
    still : (b : Bool) → Waited None c.waiters (if b then record c { waiters = filter (λ w. w.wait) c.waiters } else c).waiters
    still true = waited_few None (λ w. w.wait) c.waiters
    still false = waited_same None c.waiters

    by : (b : Bool) → Waited None c.waiters (unwrap_or (if b then None else Some (still_waiting c)) (opened 0 [])).waiters
    by true = waited_none None c.waiters
    by false = still (is_placed c)

changed_at : (m : FinMap task_id_cmp Cancellation) (task : TaskId) (o : Option Cancellation) → get (changed m task o) task ≡ o
changed_at m task None = removed_value m task
changed_at m task (Some c) = inserted_value m task c

changed_other : (m : FinMap task_id_cmp Cancellation) (task q : TaskId) (o : Option Cancellation) → eq_by_cmp task_id_cmp q task ≡ false → get (changed m task o) q ≡ get m q
changed_other m task q None other = remove_other m task q other
changed_other m task q (Some c) other = insert_other m task c q other

-- the task's own entry alone is another
pub entry_waits : (but : Option Waiter) (k : Cancellations) (task q : TaskId) (o : Option Cancellation) → Waited but (entry_of k task).waiters (unwrap_or o (opened 0 [])).waiters
    → Waited but (entry_of k q).waiters (entry_of (with_entry k task o) q).waiters
entry_waits but k task q o waited = elim (alike q task) [
  | inl same ↦ subst (λ (r : TaskId). Waited but (entry_of k r).waiters (entry_of (with_entry k task o) r).waiters) (sym same)
      (subst (λ (p : Option Cancellation). Waited but (entry_of k task).waiters (unwrap_or p (opened 0 [])).waiters) (sym (changed_at k.entries task o)) waited)
  | inr other ↦ subst (λ (p : Option Cancellation). Waited but (entry_of k q).waiters (unwrap_or p (opened 0 [])).waiters) (sym (changed_other k.entries task q o other)) (waited_same but (entry_of k q).waiters)
]

-- who leaves a listing leaves each entry
left_entry : (k : Cancellations) (task q : TaskId) (stopped : Bool) → entry_of (left_by k task stopped) q ≡ entry_of k q
left_entry k task q false = refl
left_entry k task q true = by (get k.waits task)
  where
    by : (o : Option TaskId) → entry_of (without_wait k task o) q ≡ entry_of k q
    by None = refl
    by (Some parent) = refl

-- the cancellation of a task begins
pub begins_waits : (k : Cancellations) (task q : TaskId) (cancel : ℕ) (nodes : List ℕ) (waiter : Option Waiter)
    → Waited waiter (entry_of k q).waiters (entry_of (with_entry k task (Some (begun cancel nodes waiter))) q).waiters
begins_waits k task q cancel nodes waiter = entry_waits waiter k task q (Some (begun cancel nodes waiter)) (begun_waits cancel nodes waiter (entry_of k task).waiters)

-- one more waits
pub joins_waits : (k : Cancellations) (task q : TaskId) (w : Waiter) → Waited (Some w) (entry_of k q).waiters (entry_of (with_entry k task (Some (joined_by (entry_of k task) w))) q).waiters
joins_waits k task q w = entry_waits (Some w) k task q (Some (joined_by (entry_of k task) w)) (joined_waits (entry_of k task) w)

-- a cancellation goes on, with those who waited
pub moves_waits : (k : Cancellations) (task q : TaskId) (c : Cancellation) (stopped : Bool) → c.waiters ≡ (entry_of k task).waiters
    → Waited None (entry_of k q).waiters (entry_of (left_by (with_entry k task (rest_of c)) task stopped) q).waiters
moves_waits k task q c stopped same =
    subst (λ (e : Cancellation). Waited None (entry_of k q).waiters e.waiters) (sym (left_entry (with_entry k task (rest_of c)) task q stopped))
    (entry_waits None k task q (rest_of c) (subst (λ (ws : List Waiter). Waited None ws (unwrap_or (rest_of c) (opened 0 [])).waiters) same (rest_waits c)))

module _ (v w : View) where
  -- no cancellation changed
  pub stays_unmoved : (but : Option Waiter) → w.cancels ≡ v.cancels → w.bans ≡ v.bans → w.kept ≡ v.kept → w.slots ≡ v.slots → Stays but v w
  stays_unmoved but same bans kept slots = record {
    bans = bans;
    kept = kept;
    slots = slots;
    waiting = λ q. subst (λ (k : Cancellations). Waited but (entry_of v.cancels q).waiters (entry_of k q).waiters) (sym same) (waited_same but (entry_of v.cancels q).waiters);
  }

  pub stays_begun : (task : TaskId) (cancel : ℕ) (nodes : List ℕ) (waiter : Option Waiter) → w.cancels ≡ with_entry v.cancels task (Some (begun cancel nodes waiter)) → w.bans ≡ v.bans → w.kept ≡ v.kept → w.slots ≡ v.slots
      → Stays waiter v w
  stays_begun task cancel nodes waiter is bans kept slots = record {
    bans = bans;
    kept = kept;
    slots = slots;
    waiting = λ q. subst (λ (k : Cancellations). Waited waiter (entry_of v.cancels q).waiters (entry_of k q).waiters) (sym is) (begins_waits v.cancels task q cancel nodes waiter);
  }

  pub stays_joined : (task : TaskId) (waiter : Waiter) → w.cancels ≡ with_entry v.cancels task (Some (joined_by (entry_of v.cancels task) waiter)) → w.bans ≡ v.bans → w.kept ≡ v.kept → w.slots ≡ v.slots → Stays (Some waiter) v w
  stays_joined task waiter is bans kept slots = record {
    bans = bans;
    kept = kept;
    slots = slots;
    waiting = λ q. subst (λ (k : Cancellations). Waited (Some waiter) (entry_of v.cancels q).waiters (entry_of k q).waiters) (sym is) (joins_waits v.cancels task q waiter);
  }

  stays_moved : (task : TaskId) (c : Cancellation) (stopped : Bool) → c.waiters ≡ (entry_of v.cancels task).waiters → w.cancels ≡ left_by (with_entry v.cancels task (rest_of c)) task stopped → w.bans ≡ v.bans → w.kept ≡ v.kept
      → w.slots ≡ v.slots → Stays None v w
  stays_moved task c stopped same is bans kept slots = record {
    bans = bans;
    kept = kept;
    slots = slots;
    waiting = λ q. subst (λ (k : Cancellations). Waited None (entry_of v.cancels q).waiters (entry_of k q).waiters) (sym is) (moves_waits v.cancels task q c stopped same);
  }

  pub stays_acked : (parent : TaskId) (from : ℕ)
      → w.cancels ≡ left_by (with_entry v.cancels parent (rest_of (with_ack (entry_of v.cancels parent) from))) parent (is_stopped (with_ack (entry_of v.cancels parent) from)) → w.bans ≡ v.bans → w.kept ≡ v.kept → w.slots ≡ v.slots
      → Stays None v w
  stays_acked parent from is bans kept slots = stays_moved parent (with_ack (entry_of v.cancels parent) from) (is_stopped (with_ack (entry_of v.cancels parent) from)) refl is bans kept slots

  pub stays_ended : (task : TaskId) (receipt : ReceiptParts) → w.cancels ≡ left_by (with_entry v.cancels task (rest_of (with_receipt (entry_of v.cancels task) receipt))) task true → w.bans ≡ v.bans → w.kept ≡ v.kept → w.slots ≡ v.slots
      → Stays None v w
  stays_ended task receipt is bans kept slots = stays_moved task (with_receipt (entry_of v.cancels task) receipt) true refl is bans kept slots

  pub stays_listed : (parent : TaskId) (children : List TaskId) → w.cancels ≡ with_listing v.cancels parent children → w.bans ≡ v.bans → w.kept ≡ v.kept → w.slots ≡ v.slots → Stays None v w
  stays_listed parent children is bans kept slots = record {
    bans = bans;
    kept = kept;
    slots = slots;
    waiting = λ q. subst (λ (k : Cancellations). Waited None (entry_of v.cancels q).waiters (entry_of k q).waiters) (sym is) (waited_same None (entry_of v.cancels q).waiters);
  }
