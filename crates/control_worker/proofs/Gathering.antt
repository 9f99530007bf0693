-- What is gathered of the matches of filters, and what is done with the last part.
use Rattle.std.proofs.Common.{◌≡◌, ℕ, zero, suc, ◌<◌, ◌≤◌, nat_lt, Bool, true, false, cond, if◌then◌else◌, List, [], ◌∷◌, Option, Some, None, is_some, unwrap_or, length, refl, sym, ap, ◌∙◌, subst, arith}
use Rattle.std.specs.Cmp.{nat_cmp_total, eq_by_cmp_equiv}
use Rattle.std.specs.Ordering.{nat_cmp, eq_by_cmp}
use Rattle.std.specs.Map.{lookup}
use Rattle.std.specs.BTreeMap.{is_at}
use Rattle.std.specs.FinMap.{FinMap, get, insert, remove, from_entries, find, get-from_entries, get-insert, get-remove, same_map}
use Rattle.std.proofs.lemmas.Bool.Decides.{nat_tests}
use Rattle.std.proofs.lemmas.Map.Lookups.{exact_unsigned}
use Rattle.task_ids.specs.declared.task_info.TaskInfo.{TaskInfo}
use Rattle.cancel_core.specs.declared.act.Waiter.{Waiter}
use Rattle.data_pool.specs.Gathered.{Gathered, nothing_given, takes, with_part, is_whole, in_id_order, answer_of, left_by}
use Rattle.node_boards.specs.Calls.{ControlCall}
use Rattle.control_worker.specs.declared.act.ControlAct.{ControlAct}
use Rattle.control_worker.specs.View.{View}
use Rattle.control_worker.specs.Steps.{Moment, Makes}
use Rattle.control_worker.specs.Matches.{Matches}
use Rattle.control_worker.specs.Gathers.{gather_for, gathered_by, put, after_part, MatchesIn, Gathers}
use Rattle.control_worker.proofs.Making.{moment, makes_nothing}

-- a tree of numbers, and the map of its entries
module _ {X : Type 0} where
  abbrev pub value_at : List (ℕ × X) → ℕ → Option X
  value_at es n = lookup (is_at (nat_cmp n)) es

  find_number : (es : List (ℕ × X)) (n : ℕ) → find nat_cmp n es ≡ value_at es n
  find_number [] n = refl
  find_number (e ∷ es) n = ap (cond (is_at (nat_cmp n) e.0) (Some e.1)) (find_number es n)

  pub get_number : (es : List (ℕ × X)) (n : ℕ) → get (from_entries {R = nat_cmp} es) n ≡ value_at es n
  get_number es n = get-from_entries nat_cmp_total es n ∙ find_number es n

  pub number_put : (es fs : List (ℕ × X)) (n : ℕ) (x : X) → ((q : ℕ) → value_at fs q ≡ cond (is_at (nat_cmp n) q) (Some x) (value_at es q)) → from_entries {R = nat_cmp} fs ≡ insert (from_entries es) n x
  number_put es fs n x h = same_map nat_cmp_total exact_unsigned _ _ (λ q.
      get_number fs q ∙ h q ∙ ap (λ b. cond b (Some x) (value_at es q)) ((eq_by_cmp_equiv nat_cmp_total).symm n q)
      ∙ sym (get-insert nat_cmp_total (from_entries es) n x q ∙ ap (cond (eq_by_cmp nat_cmp q n) (Some x)) (get_number es q)))

  pub number_removed : (es fs : List (ℕ × X)) (n : ℕ) → ((q : ℕ) → value_at fs q ≡ cond (is_at (nat_cmp n) q) None (value_at es q)) → from_entries {R = nat_cmp} fs ≡ remove (from_entries es) n
  number_removed es fs n h = same_map nat_cmp_total exact_unsigned _ _ (λ q.
      get_number fs q ∙ h q ∙ ap (λ b. cond b None (value_at es q)) ((eq_by_cmp_equiv nat_cmp_total).symm n q)
      ∙ sym (get-remove nat_cmp_total (from_entries es) n q ∙ ap (cond (eq_by_cmp nat_cmp q n) None) (get_number es q)))

  -- what is put where something was taken out stands as if that had stayed
  pub put_anew : (m : FinMap nat_cmp X) (n : ℕ) (x : X) → insert (remove m n) n x ≡ insert m n x
  put_anew m n x = same_map nat_cmp_total exact_unsigned _ _ (λ q.
      get-insert nat_cmp_total (remove m n) n x q ∙ ap (cond (eq_by_cmp nat_cmp q n) (Some x)) (get-remove nat_cmp_total m n q) ∙ once (eq_by_cmp nat_cmp q n) (get m q)
      ∙ sym (get-insert nat_cmp_total m n x q))
    where
      once : (b : Bool) (o : Option X) → cond b (Some x) (cond b None o) ≡ cond b (Some x) o
      once true o = refl
      once false o = refl

  no_value : (es : List (ℕ × X)) (n : ℕ) → length es ≡ 0 → value_at es n ≡ None
  no_value [] n none = refl
  no_value (e ∷ es) n none = absurd (omega (arith, none))

  -- a tree with no entry has no number, and where there is no number, the tree has no entry
  pub no_number : (es : List (ℕ × X)) (n : ℕ) → length es ≡ 0 → is_some (get (from_entries {R = nat_cmp} es) n) ≡ false
  no_number es n none = ap (λ o. is_some o) (get_number es n ∙ no_value es n none)

  pub no_entries : (es : List (ℕ × X)) → ((n : ℕ) → is_some (get (from_entries {R = nat_cmp} es) n) ≡ false) → length es ≡ 0
  no_entries [] none = refl
  no_entries (e ∷ es) none =
      let there : value_at (e ∷ es) e.0 ≡ Some e.1 = ap (λ b. cond b (Some e.1) (value_at es e.0)) ((eq_by_cmp_equiv nat_cmp_total).refl e.0) in
      let wrong : true ≡ false = ap (λ o. is_some o) (sym (get_number (e ∷ es) e.0 ∙ there)) ∙ none e.0 in absurd (cc)

-- what is gathered for a cancel, as its tree has it
pub found_gather : (es : List (ℕ × Gathered)) (cancel workers : ℕ) (g : Gathered) → Some g ≡ value_at es cancel → g ≡ unwrap_or (get (from_entries {R = nat_cmp} es) cancel) (nothing_given workers)
found_gather es cancel workers g is = ap (λ (o : Option Gathered). unwrap_or o (nothing_given workers)) (is ∙ sym (get_number es cancel))

pub new_gather : (es : List (ℕ × Gathered)) (cancel workers : ℕ) → None ≡ value_at es cancel → nothing_given workers ≡ unwrap_or (get (from_entries {R = nat_cmp} es) cancel) (nothing_given workers)
new_gather es cancel workers is = ap (λ (o : Option Gathered). unwrap_or o (nothing_given workers)) (is ∙ sym (get_number es cancel))

-- at first each worker's part is missing
is_below : (a b : ℕ) → a < b → true ≡ nat_lt a b
is_below a b less = grind (arith, nat_tests, less)

not_below : (a b : ℕ) → b ≤ a → false ≡ nat_lt a b
not_below a b most = grind (arith, nat_tests, most)

one_lower : (a b : ℕ) → nat_lt a b ≡ nat_lt (suc a) (suc b)
one_lower a b = grind (arith, nat_tests)

pub missing : (workers worker : ℕ) → takes (nothing_given workers) worker ≡ nat_lt worker workers
missing zero worker = not_below worker 0 (omega arith)
missing (suc n) zero = is_below 0 (suc n) (omega arith)
missing (suc n) (suc k) = missing n k ∙ one_lower k n

module _ (worker cancel : ℕ) (rows : List TaskInfo) (v : View) where
  abbrev part : Gathered
  part = with_part (gather_for cancel v) worker rows

  -- a part that is passed over
  pub passed_answer : takes (gather_for cancel v) worker ≡ false → None ≡ gathered_by worker cancel rows v
  passed_answer not_so = sym (ap (λ b. if b then answer_of part else None) not_so)

  pub passed_after : takes (gather_for cancel v) worker ≡ false → v ≡ after_part worker cancel rows v
  passed_after not_so = λ i. record v { gathers = sym (ap (λ b. if b then put v.gathers cancel part else v.gathers) not_so) i }

  answered : (o : Option (List TaskInfo)) → takes (gather_for cancel v) worker ≡ true → o ≡ answer_of part → o ≡ gathered_by worker cancel rows v
  answered o does is = is ∙ sym (ap (λ b. if b then answer_of part else None) does)

  kept : (b : Bool) → takes (gather_for cancel v) worker ≡ true → is_whole part ≡ b → record v { gathers = if b then remove v.gathers cancel else insert v.gathers cancel part } ≡ after_part worker cancel rows v
  kept b does whole =
      (λ i. record v { gathers = if sym whole i then remove v.gathers cancel else insert v.gathers cancel part })
      ∙ (λ i. record v { gathers = sym (ap (λ t. if t then put v.gathers cancel part else v.gathers) does) i })

  -- only a gather that is whole answers
  whole_of : (b : Bool) (all : List TaskInfo) → Some all ≡ (if b then Some (in_id_order part.rows) else None) → b ≡ true
  whole_of true all is = refl
  whole_of false all is = absurd (cc)

  part_of : (b : Bool) → None ≡ (if b then Some (in_id_order part.rows) else None) → b ≡ false
  part_of true is = absurd (cc)
  part_of false is = refl

  whole : (g : Gathered) (o : Option (List TaskInfo)) → g ≡ gather_for cancel v → o ≡ answer_of (with_part g worker rows) → o ≡ answer_of part
  whole g o own is = is ∙ ap (λ (x : Gathered). answer_of (with_part x worker rows)) own

  -- the part of a gather that was taken out: the last one
  pub last_answer : (g : Gathered) (all : List TaskInfo) → takes (gather_for cancel v) worker ≡ true → g ≡ gather_for cancel v → Some all ≡ answer_of (with_part g worker rows) → Some all ≡ gathered_by worker cancel rows v
  last_answer g all does own is = answered (Some all) does (whole g (Some all) own is)

  pub last_after : (g : Gathered) (all : List TaskInfo) (out : FinMap nat_cmp Gathered) → takes (gather_for cancel v) worker ≡ true → g ≡ gather_for cancel v → Some all ≡ answer_of (with_part g worker rows) → out ≡ remove v.gathers cancel
      → record v { gathers = out } ≡ after_part worker cancel rows v
  last_after g all out does own is gone = (λ i. record v { gathers = gone i }) ∙ kept true does (whole_of (is_whole part) all (whole g (Some all) own is))

  -- and one that is not the last
  pub one_answer : (g : Gathered) → takes (gather_for cancel v) worker ≡ true → g ≡ gather_for cancel v → None ≡ answer_of (with_part g worker rows) → None ≡ gathered_by worker cancel rows v
  one_answer g does own is = answered None does (whole g None own is)

  pub one_after : (g h : Gathered) (out left : FinMap nat_cmp Gathered) → takes (gather_for cancel v) worker ≡ true → g ≡ gather_for cancel v → None ≡ answer_of (with_part g worker rows) → h ≡ left_by (with_part g worker rows)
      → out ≡ remove v.gathers cancel → left ≡ insert out cancel h → record v { gathers = left } ≡ after_part worker cancel rows v
  one_after g h out left does own is now gone again =
      let not_so : is_whole part ≡ false = part_of (is_whole part) (whole g None own is) in
      let same : h ≡ part = now ∙ ap (λ (x : Gathered). left_by (with_part x worker rows)) own ∙ ap (λ b. if b then record part { rows = [] } else part) not_so in
      let all : left ≡ insert v.gathers cancel part = again ∙ (λ i. insert (gone i) cancel (same i)) ∙ put_anew v.gathers cancel part in
      (λ i. record v { gathers = all i }) ∙ kept false does not_so

module _ {B : Type 0} (rests : B → B → ControlCall → Type 0) (worker : ℕ) (waiter : Waiter) (rows : List TaskInfo) (b : B) (v u : View) (given : List ControlAct) where
  makes_in : (t : Moment B) (all : Option (List TaskInfo)) → all ≡ gathered_by worker waiter.cancel rows v → u ≡ after_part worker waiter.cancel rows v → Makes rests (MatchesIn all waiter) (moment b u given) t
      → Makes rests (Gathers worker waiter rows) (moment b v given) t
  unfolding Makes Gathers
  makes_in t all is now (calls, acts, chain, made, are) = (
    calls,
    acts,
    chain,
    subst (λ (o : Option (List TaskInfo)). MatchesIn o waiter (after_part worker waiter.cancel rows v) calls acts t.core) is (subst (λ (x : View). MatchesIn all waiter x calls acts t.core) now made),
    are,
  )

  -- the last part leads to the matches, and another one to nothing more
  pub makes_last : (t : Moment B) (all : List TaskInfo) → Some all ≡ gathered_by worker waiter.cancel rows v → u ≡ after_part worker waiter.cancel rows v → Makes rests (Matches waiter all) (moment b u given) t
      → Makes rests (Gathers worker waiter rows) (moment b v given) t
  makes_last t all is now made = makes_in t (Some all) is now made

  pub makes_missing : None ≡ gathered_by worker waiter.cancel rows v → u ≡ after_part worker waiter.cancel rows v → Makes rests (Gathers worker waiter rows) (moment b v given) (moment b u given)
  makes_missing is now = makes_in (moment b u given) None is now (makes_nothing rests (moment b u given))
