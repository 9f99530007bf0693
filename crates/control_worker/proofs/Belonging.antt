-- A core and its board go on belonging together.
use Rattle.std.proofs.Common.{◌≡◌, ◌≢◌, ℕ, inl, inr, true, false, not, filter, is_some, unwrap_or, List, [], Option, Some, None, sym, ap, ◌∙◌, subst, All}
use Rattle.std.specs.FinMap.{get, insert, remove, get-empty}
use Rattle.std.proofs.lemmas.Bool.{false_from_ne_true}
use Rattle.std.proofs.lemmas.List.Elements.{All-nil, All-filter}
use Rattle.task_ids.specs.declared.task_id.TaskId.{TaskId}
use Rattle.task_ids.specs.TaskIdOrder.{task_id_cmp}
use Rattle.cancel_core.specs.declared.act.Waiter.{Waiter}
use Rattle.cancel_core.specs.Acts.{begun}
use Rattle.cancel_core.specs.Cancellation.{Cancellation, opened}
use Rattle.cancel_core.specs.Cancellations.{Cancellations, entry_of, with_entry}
use Rattle.race_board.specs.Keys.{task_key}
use Rattle.node_boards.specs.Seats.{HasBanOf, HasNoBan, SameBans, OneBanMore, OneBanLess}
use Rattle.node_boards.proofs.PlacedBans.{same_task}
use Rattle.control_worker.specs.View.{View, has_ban, is_of, new_view}
use Rattle.control_worker.specs.Steps.{Stays}
use Rattle.control_worker.specs.Together.{Together, MayPut, MayHear}
use Rattle.control_worker.proofs.Parents.{alike, differs, inserted, insert_other, removed, remove_other}
use Rattle.control_worker.proofs.Waiting.{all_waited, stays_unmoved, stays_begun}

some_same : (w x : Waiter) → Some w ≡ Some x → w ≡ x
some_same w x is = ap (λ o. unwrap_or o w) is

module _ (bans bans' : ℕ → ℕ → ℕ → Type 0) (slots slots' : ℕ) (allowed : ℕ → Type 0) (v w : View) where
  -- nothing of what they share has changed, and who waits may
  pub together_moves : (but : Option Waiter) → ((x : Waiter) → but ≡ Some x → MayHear allowed x) → Together bans slots allowed v → SameBans bans bans' → slots' ≡ slots → Stays but v w → Together bans' slots' allowed w
  unfolding Together
  together_moves but one t same size stays = record {
    on_board = λ p has. let (j, c, is) = t.on_board p (ap (λ m. is_some (get m p)) (sym stays.bans) ∙ has) in (j, c, (same j (task_key p) c).1 is);
    in_core = λ j q c is. let (p, key, has) = t.in_core j q c ((same j q c).0 is) in (p, key, ap (λ m. is_some (get m p)) stays.bans ∙ has);
    room = stays.slots ∙ t.room ∙ sym size;
    kept = subst (All (MayPut allowed)) (sym stays.kept) t.kept;
    waiting = λ q. all_waited (MayHear allowed) but (entry_of v.cancels q).waiters (entry_of w.cancels q).waiters (stays.waiting q) (t.waiting q) one;
  }

  pub together_stays : Together bans slots allowed v → SameBans bans bans' → slots' ≡ slots → Stays None v w → Together bans' slots' allowed w
  together_stays t same size stays = together_moves None (λ x is. absurd (cc)) t same size stays

  -- one more waits
  pub together_joined : (waiter : Waiter) → MayHear allowed waiter → Together bans slots allowed v → SameBans bans bans' → slots' ≡ slots → Stays (Some waiter) v w → Together bans' slots' allowed w
  together_joined waiter may t same size stays = together_moves (Some waiter) (λ x is. subst (MayHear allowed) (some_same waiter x is) may) t same size stays

  -- no cancellation has changed either
  pub together_unmoved : Together bans slots allowed v → SameBans bans bans' → slots' ≡ slots → w.cancels ≡ v.cancels → w.bans ≡ v.bans → w.kept ≡ v.kept → w.slots ≡ v.slots → Together bans' slots' allowed w
  together_unmoved t same size cancels now kept room = together_stays t same size (stays_unmoved v w None cancels now kept room)

  -- the cancellation of a task began
  pub together_begun : (task : TaskId) (cancel : ℕ) (nodes : List ℕ) (waiter : Option Waiter) → Together bans slots allowed v → SameBans bans bans' → slots' ≡ slots → ((x : Waiter) → waiter ≡ Some x → MayHear allowed x)
      → w.cancels ≡ with_entry v.cancels task (Some (begun cancel nodes waiter)) → w.bans ≡ v.bans → w.kept ≡ v.kept → w.slots ≡ v.slots → Together bans' slots' allowed w
  together_begun task cancel nodes waiter t same size may cancels now kept room = together_moves waiter may t same size (stays_begun v w task cancel nodes waiter cancels now kept room)

  same_waiting : Together bans slots allowed v → w.cancels ≡ v.cancels → (task : TaskId) → All (MayHear allowed) (entry_of w.cancels task).waiters
  unfolding Together
  same_waiting t same task = subst (λ (k : Cancellations). All (MayHear allowed) (entry_of k task).waiters) (sym same) (t.waiting task)

  -- one ban more is on the board
  pub together_put : (j c : ℕ) (p : TaskId) → Together bans slots allowed v → OneBanMore bans bans' j (task_key p) c → slots' ≡ slots
      → w.bans ≡ insert v.bans p c → w.kept ≡ v.kept → w.slots ≡ v.slots → w.cancels ≡ v.cancels → Together bans' slots' allowed w
  unfolding Together
  together_put j c p t more size now kept room cancels = record {
    on_board = λ q has. elim (alike q p) [
      | inl same ↦ subst (λ (r : TaskId). HasBanOf bans' (task_key r)) (sym same) (j, c, more.1)
      | inr other ↦
          let before = ap (λ o. is_some o) (sym (insert_other v.bans p c q other)) ∙ ap (λ m. is_some (get m q)) (sym now) ∙ has in
          let (k, d, is) = t.on_board q before in (k, d, (more.2 k (task_key q) d).1 (inl is))
    ];
    in_core = λ k q d is. elim ((more.2 k q d).0 is) [
      | inl was ↦ let (r, key, had) = t.in_core k q d was in (
        r,
        key,
        ap (λ m. is_some (get m r)) now ∙ elim (alike r p) [
          | inl same ↦ ap (λ x. is_some (get (insert v.bans p c) x)) same ∙ inserted v.bans p c
          | inr other ↦ ap (λ o. is_some o) (insert_other v.bans p c r other) ∙ had
        ],
      )
      | inr new ↦ (p, new.1, ap (λ m. is_some (get m p)) now ∙ inserted v.bans p c)
    ];
    room = room ∙ t.room ∙ sym size;
    kept = subst (All (MayPut allowed)) (sym kept) t.kept;
    waiting = same_waiting t cancels;
  }

  -- the ban of a parent is gone
  pub together_lifted : (p : TaskId) → Together bans slots allowed v → OneBanLess bans bans' (task_key p) → slots' ≡ slots
      → w.bans ≡ remove v.bans p → w.kept ≡ filter (λ ban. not (is_of p ban)) v.kept → w.slots ≡ v.slots → w.cancels ≡ v.cancels → Together bans' slots' allowed w
  unfolding Together
  together_lifted p t less size now kept room cancels = record {
    on_board = λ q has. elim (alike q p) [
      | inl same ↦
          let gone : has_ban w q ≡ false = ap (λ m. is_some (get m q)) now ∙ ap (λ x. is_some (get (remove v.bans p) x)) same ∙ removed v.bans p in
          let wrong : true ≡ false = sym has ∙ gone in absurd (cc)
      | inr other ↦
          let before = ap (λ o. is_some o) (sym (remove_other v.bans p q other)) ∙ ap (λ m. is_some (get m q)) (sym now) ∙ has in
          let (k, d, is) = t.on_board q before in
          let apart : task_key q ≢ task_key p = λ e. differs q p (same_task q p e) other in
          (k, d, (less.1 k (task_key q) d).1 (apart, is))
    ];
    in_core = λ k q d is.
        let old = (less.1 k q d).0 is in
        let (r, key, had) = t.in_core k q d old.1 in (
          r,
          key,
          ap (λ m. is_some (get m r)) now ∙ elim (alike r p) [
            | inl same ↦ absurd (old.0 (key ∙ ap task_key same))
            | inr other ↦ ap (λ o. is_some o) (remove_other v.bans p r other) ∙ had
          ],
        );
    room = room ∙ t.room ∙ sym size;
    kept = subst (All (MayPut allowed)) (sym kept) (All-filter (λ ban. not (is_of p ban)) (MayPut allowed) v.kept t.kept);
    waiting = same_waiting t cancels;
  }

module _ (bans : ℕ → ℕ → ℕ → Type 0) (slots : ℕ) (allowed : ℕ → Type 0) (v w : View) where
  -- other bans are kept back
  pub together_keeps : Together bans slots allowed v → w.bans ≡ v.bans → w.slots ≡ v.slots → w.cancels ≡ v.cancels → All (MayPut allowed) w.kept → Together bans slots allowed w
  unfolding Together
  together_keeps t same room cancels kept = record {
    on_board = λ p has. t.on_board p (ap (λ m. is_some (get m p)) (sym same) ∙ has);
    in_core = λ j q c is. let (p, key, has) = t.in_core j q c is in (p, key, ap (λ m. is_some (get m p)) same ∙ has);
    room = room ∙ t.room;
    kept = kept;
    waiting = λ q. subst (λ (k : Cancellations). All (MayHear allowed) (entry_of k q).waiters) (sym cancels) (t.waiting q);
  }

  pub may_put : Together bans slots allowed v → All (MayPut allowed) v.kept
  unfolding Together
  may_put t = t.kept

  pub may_hear : Together bans slots allowed v → (task : TaskId) → All (MayHear allowed) (entry_of v.cancels task).waiters
  unfolding Together
  may_hear t = t.waiting

  pub has_room : Together bans slots allowed v → v.slots ≡ slots
  unfolding Together
  has_room t = t.room

  -- a parent of whose ban the core does not know has none on the board
  pub not_banned : (p : TaskId) → Together bans slots allowed v → has_ban v p ≡ false → ¬ HasBanOf bans (task_key p)
  unfolding Together
  not_banned p t none (j, c, is) =
      let (r, key, has) = t.in_core j (task_key p) c is in
      let wrong : true ≡ false = sym has ∙ ap (has_ban v) (sym (same_task p r key)) ∙ none in absurd (cc)

  -- a core that has no ban belongs to a seat with none
  pub no_bans : Together bans slots allowed v → ((p : TaskId) → has_ban v p ≡ false) → HasNoBan bans
  unfolding Together
  no_bans t none j q c is =
      let (r, key, has) = t.in_core j q c is in
      let wrong : true ≡ false = sym has ∙ none r in absurd (cc)

  -- and a core that belongs to a seat with no ban has none
  pub none_banned : Together bans slots allowed v → HasNoBan bans → (p : TaskId) → has_ban v p ≡ false
  unfolding Together
  none_banned t none p = false_from_ne_true (has_ban v p) (λ has. let (j, c, is) = t.on_board p has in none j (task_key p) c is)

-- a new core belongs to a seat with no ban that has as many slots
pub together_new : (bans : ℕ → ℕ → ℕ → Type 0) (slots : ℕ) (allowed : ℕ → Type 0) (v : View) (node workers : ℕ) → HasNoBan bans → v ≡ new_view node workers slots → Together bans slots allowed v
unfolding Together
together_new bans slots allowed v node workers none new = record {
  on_board = λ p has. let wrong : true ≡ false = sym has ∙ ap (λ u. has_ban u p) new ∙ ap (λ o. is_some o) (get-empty task_id_cmp p) in absurd (cc);
  in_core = λ j q c is. absurd (none j q c is);
  room = ap (λ u. u.slots) new;
  kept = subst (All (MayPut allowed)) (sym (ap (λ u. u.kept) new)) (All-nil (MayPut allowed));
  waiting = λ q. subst (λ (ws : List Waiter). All (MayHear allowed) ws)
      (sym (ap (λ u. (entry_of u.cancels q).waiters) new ∙ ap (λ (o : Option Cancellation). (unwrap_or o (opened 0 [])).waiters) (get-empty task_id_cmp q))) (All-nil (MayHear allowed));
}
