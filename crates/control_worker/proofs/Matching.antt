-- What a filter's cancel did.
use Rattle.std.proofs.Common.{◌≡◌, ℕ, Bool, true, false, List, [], ◌∷◌, ◌++◌, cond, refl, sym, ap, ◌∙◌, subst, append_assoc, append-nil}
use Rattle.std.specs.Prelude.{IsPermutation, IsSorted}
use Rattle.task_ids.specs.declared.task_id.TaskId.{TaskId}
use Rattle.task_ids.specs.declared.task_info.TaskInfo.{TaskInfo}
use Rattle.task_ids.specs.TaskIdOrder.{task_id_cmp}
use Rattle.cancel_core.specs.declared.act.Waiter.{Waiter}
use Rattle.node_boards.specs.Calls.{ControlCall}
use Rattle.control_worker.specs.declared.act.ControlAct.{ControlAct}
use Rattle.control_worker.specs.declared.act.ControlAct.TheVariants as act
use Rattle.control_worker.specs.View.{View}
use Rattle.control_worker.specs.Steps.{Each, Moment, Makes}
use Rattle.control_worker.specs.Cancels.{Seeks}
use Rattle.control_worker.specs.Matches.{found_of, Tries, SeeksOne, SeeksEach, Names, Matches}
use Rattle.control_worker.proofs.Making.{moment, makes_nothing, makes_then, makes_gives}

module _ {B : Type 0} (rests : B → B → ControlCall → Type 0) (waiter : Waiter) where
  pub seeks_none : (s : Moment B) → SeeksEach rests waiter [] [] s s
  unfolding SeeksEach
  seeks_none s = ([], refl, refl, makes_nothing rests s)

  -- one row more is found, or not
  pub seeks_found : (s m t : Moment B) (row : TaskInfo) (rows : List TaskInfo) (found : List TaskId) → Makes rests (Seeks row.id waiter true) s m → SeeksEach rests waiter rows found m t → SeeksEach rests waiter (row ∷ rows) (row.id ∷ found) s t
  unfolding SeeksEach
  seeks_found s m t row rows found one (tried, are, is, later) = (
    record { task = row.id; is_found = true } ∷ tried,
    ap (λ ids. row.id ∷ ids) are,
    ap (λ ids. row.id ∷ ids) is,
    makes_then rests (Seeks row.id waiter true) (Each (Tries waiter) tried) s m t one later,
  )

  pub seeks_missed : (s m t : Moment B) (row : TaskInfo) (rows : List TaskInfo) (found : List TaskId) → Makes rests (Seeks row.id waiter false) s m → SeeksEach rests waiter rows found m t → SeeksEach rests waiter (row ∷ rows) found s t
  unfolding SeeksEach
  seeks_missed s m t row rows found one (tried, are, is, later) = (
    record { task = row.id; is_found = false } ∷ tried,
    ap (λ ids. row.id ∷ ids) are,
    is,
    makes_then rests (Seeks row.id waiter false) (Each (Tries waiter) tried) s m t one later,
  )

  pub one_found : (s t : Moment B) (task : TaskId) (old new : List TaskId) → Makes rests (Seeks task waiter true) s t → new ≡ old ++ task ∷ [] → SeeksOne rests waiter task old new s t
  unfolding SeeksOne
  one_found s t task old new made is = (true, is, made)

  pub one_missed : (s t : Moment B) (task : TaskId) (old : List TaskId) → Makes rests (Seeks task waiter false) s t → SeeksOne rests waiter task old old s t
  unfolding SeeksOne
  one_missed s t task old made = (false, sym (append-nil old), made)

  -- what is left after one row more leads to all, with what was found before in front
  pub seeks_on : (start s m : Moment B) (all rest : List TaskInfo) (row : TaskInfo) (old new : List TaskId)
      → ((u : Moment B) (more : List TaskId) → SeeksEach rests waiter (row ∷ rest) more s u → SeeksEach rests waiter all (old ++ more) start u)
      → SeeksOne rests waiter row.id old new s m
      → (u : Moment B) (more : List TaskId) → SeeksEach rests waiter rest more m u → SeeksEach rests waiter all (new ++ more) start u
  unfolding SeeksOne
  seeks_on start s m all rest row old new left (is_found, is, made) u more later = by_found is_found is made
    where
      by_found : (b : Bool) → new ≡ old ++ cond b (row.id ∷ []) [] → Makes rests (Seeks row.id waiter b) s m → SeeksEach rests waiter all (new ++ more) start u
      by_found true now one =
          subst (λ (l : List TaskId). SeeksEach rests waiter all l start u) (sym (ap (λ l. l ++ more) now ∙ append_assoc old (row.id ∷ []) more))
          (left u (row.id ∷ more) (seeks_found s m u row rest more one later))
      by_found false now one =
          subst (λ (l : List TaskId). SeeksEach rests waiter all l start u) (sym (ap (λ l. l ++ more) (now ∙ append-nil old)))
          (left u more (seeks_missed s m u row rest more one later))

  makes_names : (b : B) (v : View) (old new : List ControlAct) (cancel : ℕ) (found named : List TaskId) → IsPermutation found named → IsSorted task_id_cmp named → new ≡ old ++ act.Named v.node cancel named ∷ []
      → Makes rests (Names cancel found) (moment b v old) (moment b v new)
  unfolding Makes Names
  makes_names b v old new cancel found named same sorted given =
      let (calls, acts, chain, made, is) = makes_gives rests b v old new (act.Named v.node cancel named) given in
      (calls, acts, chain, (named, same, sorted, made), is)

  pub matches : (s : Moment B) (b : B) (v : View) (old new : List ControlAct) (rows : List TaskInfo) (found named : List TaskId) → SeeksEach rests waiter rows found s (moment b v old) → IsPermutation found named
      → IsSorted task_id_cmp named → new ≡ old ++ act.Named v.node waiter.cancel named ∷ [] → Makes rests (Matches waiter rows) s (moment b v new)
  unfolding Makes Matches SeeksEach
  matches s b v old new rows found named (tried, are, is, sought) same sorted given =
      let named' = makes_names b v old new waiter.cancel (found_of tried) named (subst (λ (ids : List TaskId). IsPermutation ids named) (sym is) same) sorted given in
      let (calls, acts, chain, made, more) = makes_then rests (Each (Tries waiter) tried) (Names waiter.cancel (found_of tried)) s (moment b v old) (moment b v new) sought named' in
      (calls, acts, chain, (tried, are, made), more)
