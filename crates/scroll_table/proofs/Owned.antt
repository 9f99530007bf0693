-- The owners that are kept are those of the contexts, also after a change of one of them.
use Rattle.std.proofs.Common.{◌≡◌, ℕ, ◌<◌, Bool, true, false, ◌&&◌, cond, Option, None, Some, refl, sym, ap, arith, ◌∙◌}
use Rattle.std.specs.Prelude.{◌==◌}
use Rattle.std.specs.Option.{option_eq}
use Rattle.std.specs.Ordering.{nat_cmp, is_eq, MatchOrdering}
use Rattle.std.specs.declared.cmp.Ordering.{Ordering}
use Rattle.std.specs.declared.cmp.Ordering.TheVariants.{Less, Equal, Greater}
use Rattle.std.specs.Cmp.{tied_then}
use Rattle.std.specs.BTreeMap.{BTreeMap, get, is_at}
use Rattle.std.proofs.lemmas.Bool.Decides.{nat_tests}
use Rattle.std.proofs.lemmas.Cmp.{ranked}
use Rattle.task_ids.specs.TaskIdOrder.{task_id_cmp}
use Rattle.task_ids.specs.declared.task_id.TaskId.{TaskId}
use Rattle.task_events.specs.declared.context.Context.{Context}
use Rattle.scroll_table.specs.declared.owners.Owners.{Owners}
use Rattle.scroll_table.specs.Owners.{owns, is_pair, is_of, AreOwnersOf}
use Rattle.scroll_table.proofs.Places.{same_at}

pub one_number : (x y : ℕ) → is_eq (nat_cmp x y) ≡ (x == y)
one_number x y = by_case (nat_cmp x y) (ranked x y (nat_cmp x y) refl)
  where
    by_case : (r : Ordering) → MatchOrdering r (x < y) (x ≡ y) (y < x) → is_eq r ≡ (x == y)
    by_case Less h = let e : (x == y) ≡ false = grind (arith, nat_tests) in sym e
    by_case Equal h = let e : (x == y) ≡ true = grind (arith, nat_tests) in sym e
    by_case Greater h = let e : (x == y) ≡ false = grind (arith, nat_tests) in sym e

abbrev is_one : TaskId → TaskId → Bool
is_one a b = (a.node == b.node) && (a.number == b.number)

one_id : (a b : TaskId) → is_at (task_id_cmp a) b ≡ is_one a b
one_id a b = sym (tied_then (nat_cmp a.node b.node) (nat_cmp a.number b.number)) ∙ ap (λ t. t && is_eq (nat_cmp a.number b.number)) (one_number a.node b.node) ∙ ap (λ t. (a.node == b.node) && t) (one_number a.number b.number)

-- who a context belongs to, by the tests that pairs are kept by
abbrev belongs : Option TaskId → TaskId → Bool
belongs by o = option_eq is_one by (Some o)

pair_here : (by : Option TaskId) (id o q : TaskId) → is_at (task_id_cmp id) q ≡ true → is_pair by id o q ≡ belongs by o
pair_here None id o q e = refl
pair_here (Some owner) id o q e = ap (λ t. is_at (task_id_cmp owner) o && t) e ∙ and_true (is_at (task_id_cmp owner) o) ∙ one_id owner o
  where
    and_true : (b : Bool) → (b && true) ≡ b
    and_true true = refl
    and_true false = refl

pair_elsewhere : (by : Option TaskId) (id o q : TaskId) → is_at (task_id_cmp id) q ≡ false → is_pair by id o q ≡ false
pair_elsewhere None id o q e = refl
pair_elsewhere (Some owner) id o q e = ap (λ t. is_at (task_id_cmp owner) o && t) e ∙ and_false (is_at (task_id_cmp owner) o)
  where
    and_false : (b : Bool) → (b && false) ≡ false
    and_false true = refl
    and_false false = refl

module _ (a : Owners) (old new : BTreeMap TaskId Context) (id : TaskId) (are : AreOwnersOf a old) where
  -- a context is another, of the same owner
  pub owner_stays : (c d : Context) → get task_id_cmp old id ≡ Some c → d.owner ≡ c.owner → ((q : TaskId) → get task_id_cmp new q ≡ cond (is_at (task_id_cmp id) q) (Some d) (get task_id_cmp old q)) → AreOwnersOf a new
  owner_stays c d there same changed o q = are o q ∙ by_case (is_at (task_id_cmp id) q) refl ∙ sym (ap (is_of o) (changed q))
    where
      by_case : (t : Bool) → is_at (task_id_cmp id) q ≡ t → is_of o (get task_id_cmp old q) ≡ is_of o (cond (is_at (task_id_cmp id) q) (Some d) (get task_id_cmp old q))
      by_case true e =
          ap (λ k. is_of o (get task_id_cmp old k)) (sym (same_at id q e)) ∙ ap (is_of o) there ∙ ap (λ by. belongs by o) (sym same)
          ∙ sym (ap (λ t. is_of o (cond t (Some d) (get task_id_cmp old q))) e)
      by_case false e = sym (ap (λ t. is_of o (cond t (Some d) (get task_id_cmp old q))) e)

  module _ (b : Owners) where
    -- one more
    pub owner_added : (c : Context) → get task_id_cmp old id ≡ None → ((q : TaskId) → get task_id_cmp new q ≡ cond (is_at (task_id_cmp id) q) (Some c) (get task_id_cmp old q))
        → ((o q : TaskId) → owns b o q ≡ cond (is_pair c.owner id o q) true (owns a o q)) → AreOwnersOf b new
    owner_added c none changed added o q = added o q ∙ by_case (is_at (task_id_cmp id) q) refl ∙ sym (ap (is_of o) (changed q))
      where
        or_false : (t : Bool) → cond t true false ≡ t
        or_false true = refl
        or_false false = refl

        by_case : (t : Bool) → is_at (task_id_cmp id) q ≡ t → cond (is_pair c.owner id o q) true (owns a o q) ≡ is_of o (cond (is_at (task_id_cmp id) q) (Some c) (get task_id_cmp old q))
        by_case true e =
            ap (cond (is_pair c.owner id o q) true) (are o q ∙ ap (λ k. is_of o (get task_id_cmp old k)) (sym (same_at id q e)) ∙ ap (is_of o) none)
            ∙ or_false (is_pair c.owner id o q) ∙ pair_here c.owner id o q e ∙ sym (ap (λ t. is_of o (cond t (Some c) (get task_id_cmp old q))) e)
        by_case false e =
            ap (λ t. cond t true (owns a o q)) (pair_elsewhere c.owner id o q e) ∙ are o q ∙ sym (ap (λ t. is_of o (cond t (Some c) (get task_id_cmp old q))) e)

    -- one is gone
    pub owner_gone : (c : Context) → get task_id_cmp old id ≡ Some c → ((q : TaskId) → get task_id_cmp new q ≡ cond (is_at (task_id_cmp id) q) None (get task_id_cmp old q))
        → ((o q : TaskId) → owns b o q ≡ cond (is_pair c.owner id o q) false (owns a o q)) → AreOwnersOf b new
    owner_gone c there changed gone o q = gone o q ∙ by_case (is_at (task_id_cmp id) q) refl ∙ sym (ap (is_of o) (changed q))
      where
        none_left : (t : Bool) → cond t false t ≡ false
        none_left true = refl
        none_left false = refl

        by_case : (t : Bool) → is_at (task_id_cmp id) q ≡ t → cond (is_pair c.owner id o q) false (owns a o q) ≡ is_of o (cond (is_at (task_id_cmp id) q) None (get task_id_cmp old q))
        by_case true e =
            ap (cond (is_pair c.owner id o q) false) (are o q ∙ ap (λ k. is_of o (get task_id_cmp old k)) (sym (same_at id q e)) ∙ ap (is_of o) there)
            ∙ ap (λ t. cond t false (belongs c.owner o)) (pair_here c.owner id o q e) ∙ none_left (belongs c.owner o) ∙ sym (ap (λ t. is_of o (cond t None (get task_id_cmp old q))) e)
        by_case false e =
            ap (λ t. cond t false (owns a o q)) (pair_elsewhere c.owner id o q e) ∙ are o q ∙ sym (ap (λ t. is_of o (cond t None (get task_id_cmp old q))) e)

-- one more was noted, and no more is
pub owner_back : (a b d : Owners) (contexts : BTreeMap TaskId Context) (id : TaskId) (by : Option TaskId) → AreOwnersOf a contexts → get task_id_cmp contexts id ≡ None
    → ((o q : TaskId) → owns b o q ≡ cond (is_pair by id o q) true (owns a o q)) → ((o q : TaskId) → owns d o q ≡ cond (is_pair by id o q) false (owns b o q)) → AreOwnersOf d contexts
owner_back a b d contexts id by are none added removed o q = removed o q ∙ ap (cond (is_pair by id o q) false) (added o q) ∙ by_case (is_at (task_id_cmp id) q) refl ∙ are o q
  where
    none_owned : (t : Bool) → cond t false (cond t true false) ≡ false
    none_owned true = refl
    none_owned false = refl

    by_case : (t : Bool) → is_at (task_id_cmp id) q ≡ t → cond (is_pair by id o q) false (cond (is_pair by id o q) true (owns a o q)) ≡ owns a o q
    by_case true e =
        let unowned : owns a o q ≡ false = are o q ∙ ap (λ k. is_of o (get task_id_cmp contexts k)) (sym (same_at id q e)) ∙ ap (is_of o) none in
        ap (λ t. cond (is_pair by id o q) false (cond (is_pair by id o q) true t)) unowned ∙ none_owned (is_pair by id o q) ∙ sym unowned
    by_case false e = ap (λ t. cond t false (cond t true (owns a o q))) (pair_elsewhere by id o q e)
