-- The tables of contexts after one of them has changed.
use Rattle.std.proofs.Common.{◌≡◌, ◌≢◌, ◌⊎◌, ◌<◌, ◌≤◌, nat_lt, get_or, ℕ, ◌+◌, ◌-◌, Bool, true, false, cond, List, length, Option, Some, None, refl, sym, ap, subst, ◌∙◌, inl, inr, arith}
use Rattle.std.specs.Prelude.{IsSome, IsSomeAnd, ◌&&◌, not, slice_get, slice_set, option_map, option_and_then, Result, Ok, Err, IsOk}
use Rattle.std.proofs.lemmas.Bool.{cases_eq}
use Rattle.std.proofs.lemmas.Bool.Decides.{nat_tests}
use Rattle.std.proofs.lemmas.Option.{slice_get_past, slice_get_read, slice_get_within}
use Rattle.std.specs.FinMap.{FinMap, get, insert, remove, get-insert, get-remove}
use Rattle.task_ids.specs.TaskIdOrder.{task_id_cmp}
use Rattle.task_ids.specs.declared.task_id.TaskId.{TaskId}
use Rattle.task_ids.proofs.TaskIdKeys.{ids_total}
use Rattle.task_events.specs.declared.context.Context.{Context}
use Rattle.task_events.specs.Contexts.{can_clear, after_begin, after_taking, unexpired, is_busy, is_expired, is_owned_by}
use Rattle.task_events.specs.Same.{same_task}
use Rattle.task_laws.proofs.Same.{same_task_tells, same_tests}
use Rattle.task_events.specs.declared.request.Request.TheVariants.{Scroll}
use Rattle.task_events.specs.declared.request.ScrollAsk.{ScrollAsk}
use Rattle.scroll_table.specs.Contexts.{answer_for}
use Rattle.scroll_table.specs.declared.context.PageError.{PageError}
use Rattle.scroll_table.specs.declared.context.PageError.TheVariants.{Missing, Busy}
use Rattle.search_phase.proofs.Sorting.{by_test}
use Rattle.task_events.specs.declared.request.HitKey.{HitKey}
use Rattle.world_moves.specs.Paging.{context_in, after_return, after_opening}
use Rattle.world_moves.proofs.ByPlace.{set_same, set_other}
use Rattle.world_moves.proofs.KeptTasks.{is_at_task}

abbrev Contexts : Type 0
Contexts = FinMap task_id_cmp Context

-- ---- one table

other_node : (t q : TaskId) → same_task t q ≡ true → t.node ≡ q.node
other_node t q e = of_case (same_task_tells t q)
  where
    of_case : ((same_task t q ≡ true) × (t ≡ q)) ⊎ ((same_task t q ≡ false) × (t ≢ q)) → t.node ≡ q.node
    of_case (inl (is_one, same)) = ap (λ (x : TaskId). x.node) same
    of_case (inr (differs, apart)) = absurd (let f : true ≡ false = sym e ∙ differs in cc)

-- an id of another node is another id
pub elsewhere : (t q : TaskId) → q.node - 1 ≢ t.node - 1 → same_task t q ≡ false
elsewhere t q apart = by_test (same_task t q) (λ same. absurd (apart (ap (λ n. n - 1) (sym (other_node t q same))))) (λ other. other)

module _ (tables : List Contexts) (place : ℕ) (table after : Contexts) (there : slice_get tables place ≡ Some table) where
  -- what is made of a context in its table is made of it in the tables
  pub one_changed : (makes : TaskId → Option Context → Option Context) → ((q : TaskId) → get after q ≡ makes q (get table q)) → ((q : TaskId) → q.node - 1 ≢ place → (o : Option Context) → makes q o ≡ o)
      → (q : TaskId) → context_in (slice_set tables place after) q ≡ makes q (context_in tables q)
  one_changed makes here others q = by_case (cases_eq place (q.node - 1))
    where
      by_case : (place ≡ q.node - 1) ⊎ (place ≢ q.node - 1) → context_in (slice_set tables place after) q ≡ makes q (context_in tables q)
      by_case (inl same) =
          let now : slice_get (slice_set tables place after) (q.node - 1) ≡ Some after = subst (λ i. slice_get (slice_set tables place after) i ≡ Some after) same (set_same tables place table after there) in
          let was : slice_get tables (q.node - 1) ≡ Some table = subst (λ i. slice_get tables i ≡ Some table) same there in
          ap (option_and_then (λ x. get x q)) now ∙ here q ∙ sym (ap (λ o. makes q (option_and_then (λ x. get x q) o)) was)
      by_case (inr apart) = ap (option_and_then (λ x. get x q)) (set_other tables place (q.node - 1) after apart) ∙ sym (others q (λ e. apart (sym e)) (context_in tables q))

  -- the context of an id of its node
  pub one_there : (id : TaskId) → id.node - 1 ≡ place → context_in tables id ≡ get table id
  one_there id same = ap (option_and_then (λ x. get x id)) (ap (slice_get tables) same ∙ there)

-- ---- what the calls of a table make of each context

turned : (t q : TaskId) → same_task q t ≡ same_task t q
turned t q = by_test (same_task t q) (λ yes. (let back : same_task q t ≡ true = grind (arith, same_tests) in back ∙ sym yes)) (λ no. (let back : same_task q t ≡ false = grind (arith, same_tests) in back ∙ sym no))

-- another in the place of one
pub inserted : (table : Contexts) (id : TaskId) (c : Context) (q : TaskId) → get (insert table id c) q ≡ cond (same_task id q) (Some c) (get table q)
inserted table id c q = get-insert ids_total table id c q ∙ ap (λ b. cond b (Some c) (get table q)) (is_at_task q id ∙ turned id q)

pub removed : (table : Contexts) (id q : TaskId) → get (remove table id) q ≡ cond (same_task id q) None (get table q)
removed table id q = get-remove ids_total table id q ∙ ap (λ b. cond b None (get table q)) (is_at_task q id ∙ turned id q)

-- a change of the one at an id
pub changed_one : (table : Contexts) (id : TaskId) (f : Context → Context) (c : Context) → get table id ≡ Some c → (q : TaskId) → get (insert table id (f c)) q ≡ cond (same_task id q) (option_map f (get table q)) (get table q)
changed_one table id f c there q = inserted table id (f c) q ∙ of_case (same_task_tells id q)
  where
    of_case : ((same_task id q ≡ true) × (id ≡ q)) ⊎ ((same_task id q ≡ false) × (id ≢ q)) → cond (same_task id q) (Some (f c)) (get table q) ≡ cond (same_task id q) (option_map f (get table q)) (get table q)
    of_case (inl (is_one, same)) = rw is_one (sym (ap (option_map f) (ap (get table) (sym same) ∙ there)))
    of_case (inr (differs, apart)) = rw differs refl

-- a clear
pub cleared_one : (table : Contexts) (id : TaskId) (b : Bool) → b ≡ can_clear None (get table id) → (q : TaskId) → get (cond b (remove table id) table) q ≡ after_begin (Some id) q (get table q)
cleared_one table id true is q = removed table id q ∙ of_case (same_task_tells id q)
  where
    of_case : ((same_task id q ≡ true) × (id ≡ q)) ⊎ ((same_task id q ≡ false) × (id ≢ q)) → cond (same_task id q) None (get table q) ≡ cond (same_task id q && can_clear None (get table q)) None (get table q)
    of_case (inl (is_one, same)) = let can : can_clear None (get table q) ≡ true = ap (λ x. can_clear None (get table x)) (sym same) ∙ sym is in rw (is_one, can) refl
    of_case (inr (differs, apart)) = rw differs refl
cleared_one table id false is q = of_case (same_task_tells id q)
  where
    of_case : ((same_task id q ≡ true) × (id ≡ q)) ⊎ ((same_task id q ≡ false) × (id ≢ q)) → get table q ≡ cond (same_task id q && can_clear None (get table q)) None (get table q)
    of_case (inl (is_one, same)) = let can : can_clear None (get table q) ≡ false = ap (λ x. can_clear None (get table x)) (sym same) ∙ sym is in rw (is_one, can) refl
    of_case (inr (differs, apart)) = rw differs refl

-- who may use a context finds one
pub found_ok : (r : Result Context PageError) → IsOk r → (c : Context) × (r ≡ Ok c)
found_ok (Ok c) ok = (c, refl)
found_ok (Err e) ok = absurd (cc)

-- ---- a call on the table of one node

-- the table at a place below the length, where it is read there
pub read_at : (tables : List Contexts) (place : ℕ) (table : Contexts) → place < length tables → table ≡ get_or tables place table → slice_get tables place ≡ Some table
read_at tables place table within is = slice_get_read tables (length tables) place table refl within is

module _ (tables : List Contexts) (id : TaskId) (table after : Contexts) (there : slice_get tables (id.node - 1) ≡ Some table) where
  -- a call that changes the context of one id alone
  pub called : (makes : TaskId → Option Context → Option Context) → ((q : TaskId) → get after q ≡ makes q (get table q)) → ((q : TaskId) (o : Option Context) → same_task id q ≡ false → makes q o ≡ o)
      → (q : TaskId) → context_in (slice_set tables (id.node - 1) after) q ≡ makes q (context_in tables q)
  called makes here others = one_changed tables (id.node - 1) table after there makes here (λ q apart o. others q o (elsewhere id q apart))

  pub own : context_in tables id ≡ get table id
  own = one_there tables (id.node - 1) table after there id refl

-- no table stands there
pub none_there : (tables : List Contexts) (id : TaskId) → length tables ≤ id.node - 1 → context_in tables id ≡ None
none_there tables id past = ap (option_and_then (λ x. get x id)) (slice_get_past tables (id.node - 1) past)

-- so nothing is cleared there
pub clears_none : (tables : List Contexts) (id q : TaskId) → context_in tables id ≡ None → context_in tables q ≡ after_begin (Some id) q (context_in tables q)
clears_none tables id q none = of_case (same_task_tells id q)
  where
    of_case : ((same_task id q ≡ true) × (id ≡ q)) ⊎ ((same_task id q ≡ false) × (id ≢ q)) → context_in tables q ≡ cond (same_task id q && can_clear None (context_in tables q)) None (context_in tables q)
    of_case (inl (is_one, same)) = let gone : context_in tables q ≡ None = ap (context_in tables) (sym same) ∙ none in rw (is_one, gone) refl
    of_case (inr (differs, apart)) = rw differs refl

pub clears_another : (id q : TaskId) (o : Option Context) → same_task id q ≡ false → after_begin (Some id) q o ≡ o
clears_another id q o differs = rw differs refl

-- who is answered with a context is answered with the one that stands
pub stands_for : (by : Option TaskId) (now : ℕ) (o : Option Context) (c : Context) → answer_for by now o ≡ Ok c → o ≡ Some c
stands_for by now None c e = absurd (cc)
stands_for by now (Some d) c e =
    by_test (is_owned_by by d && not (is_expired now d))
    (λ may. by_test (is_busy d) (λ busy. absurd (let f : Err Busy ≡ Ok c = rw (may, busy) at e in cc)) (λ free. let f : Ok d ≡ Ok c = rw (may, free) at e in cc))
    (λ not_so. absurd (let f : Err Missing ≡ Ok c = rw not_so at e in cc))

pub takes_another : (now : ℕ) (user : TaskId) (ask : ScrollAsk) (q : TaskId) (o : Option Context) → same_task ask.id q ≡ false → after_taking now user (Some (Scroll ask)) q o ≡ o
takes_another now user ask q o differs = rw differs refl

-- ---- tables that go over the clock one by one

-- the contexts where the tables before a place have gone over it
abbrev pub over_to : ℕ → ℕ → List Contexts → TaskId → Option Context
over_to now place tables q = cond (nat_lt (q.node - 1) place) (unexpired now (context_in tables q)) (context_in tables q)

-- where the tables before a place have made this of each of their contexts
abbrev pub each_to : (Option Context → Option Context) → ℕ → List Contexts → TaskId → Option Context
each_to makes place tables q = cond (nat_lt (q.node - 1) place) (makes (context_in tables q)) (context_in tables q)

-- one table more
pub each_more : (makes : Option Context → Option Context) (tables items : List Contexts) (place : ℕ) (table after : Contexts) → slice_get items place ≡ Some table → ((q : TaskId) → context_in items q ≡ each_to makes place tables q) → ((q : TaskId) → get after q ≡ makes (get table q))
    → (q : TaskId) → context_in (slice_set items place after) q ≡ each_to makes (place + 1) tables q
each_more makes tables items place table after there so_far here q = by_case (cases_eq place (q.node - 1))
  where
    by_case : (place ≡ q.node - 1) ⊎ (place ≢ q.node - 1) → context_in (slice_set items place after) q ≡ each_to makes (place + 1) tables q
    by_case (inl same) =
        let now = one_there (slice_set items place after) place after after (set_same items place table after there) q (sym same) in
        let was = one_there items place table table there q (sym same) in
        let not_yet : nat_lt (q.node - 1) place ≡ false = grind (arith, nat_tests) in
        let done : nat_lt (q.node - 1) (place + 1) ≡ true = grind (arith, nat_tests) in
        let before : context_in items q ≡ context_in tables q = so_far q ∙ rw not_yet refl in
        now ∙ here q ∙ ap makes (sym was ∙ before) ∙ sym (rw done refl)
    by_case (inr apart) =
        let still : nat_lt (q.node - 1) (place + 1) ≡ nat_lt (q.node - 1) place = grind (arith, nat_tests) in
        ap (option_and_then (λ x. get x q)) (set_other items place (q.node - 1) after apart) ∙ so_far q ∙ sym (ap (λ b. cond b (makes (context_in tables q)) (context_in tables q)) still)

-- all tables
pub each_done : (makes : Option Context → Option Context) (tables items : List Contexts) → makes None ≡ None → ((q : TaskId) → context_in items q ≡ each_to makes (length tables) tables q) → (q : TaskId) → context_in items q ≡ makes (context_in tables q)
each_done makes tables items none over q =
    by_test (nat_lt (q.node - 1) (length tables))
    (λ inside. over q ∙ rw inside refl)
    (λ past.
    let high : length tables ≤ q.node - 1 = grind (arith, nat_tests) in
    let gone = none_there tables q high in
    over q ∙ rw past (gone ∙ sym (ap makes gone ∙ none)))

-- a context stands in the table of its node
pub within : (tables : List Contexts) (id : TaskId) (c : Context) → context_in tables id ≡ Some c → id.node - 1 < length tables
within tables id c e = of_case (slice_get tables (id.node - 1)) refl e
  where
    of_case : (o : Option Contexts) → slice_get tables (id.node - 1) ≡ o → option_and_then (λ x. get x id) o ≡ Some c → id.node - 1 < length tables
    of_case (Some table) there f = slice_get_within tables (id.node - 1) table there
    of_case None there f = absurd (cc)

pub returns_another : (now : ℕ) (id : TaskId) (after : Option HitKey) (q : TaskId) (o : Option Context) → same_task id q ≡ false → after_return now (Some id) after q o ≡ o
returns_another now id after q o differs = rw differs refl

pub opens_another : (task : TaskId) (c : Context) (q : TaskId) (o : Option Context) → same_task task q ≡ false → after_opening (Some c) task q o ≡ o
opens_another task c q o differs = rw differs refl

-- who is used stands
pub stands_used : (o : Option Context) → IsSomeAnd o (λ c. IsSome c.busy) → (c : Context) × (o ≡ Some c) × IsSome c.busy
stands_used None used = absurd used
stands_used (Some c) used = (c, refl, used)
