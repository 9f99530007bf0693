-- The deaths that a shard keeps, while it is written to and when it forgets rows.
use Rattle.std.proofs.Common.{◌≡◌, ℕ, suc, zero, ◌+◌, ◌-◌, ◌<◌, ◌≤◌, ◌⊎◌, inl, inr, Bool, cond, List, [], ◌∷◌, ◌++◌, length, drop, filter, get_or, Option, None, Some, is_some, refl, sym, ap, subst, ◌∙◌, arith}
use Rattle.std.specs.Prelude.{count_by, nat_le, nat_lt, ◌==◌, not}
use Rattle.std.specs.List.{All}
use Rattle.std.specs.List.Sorted.{IsNonDecreasing}
use Rattle.std.proofs.lemmas.Bool.{cases_lt, lt-ltb, le-ltb, le-leb}
use Rattle.std.proofs.lemmas.Bool.Decides.{nat_tests}
use Rattle.std.proofs.lemmas.List.{length_push}
use Rattle.std.proofs.lemmas.List.Elements.{All-nil, All-head, All-tail, All-push, All-weaker, All-filter}
use Rattle.std.proofs.lemmas.List.Kept.{IsNonDecreasingBy-filter}
use Rattle.std.proofs.lemmas.List.Sorted.{IsNonDecreasingBy-push, IsNonDecreasingBy-short}
use Rattle.std.proofs.lemmas.List.Sums.{sum_by-cons, sum_by_push}
use Rattle.task_ids.specs.declared.doc.Doc.{Doc}
use Rattle.shard_docs.specs.Shown.{ShowsFrom}
use Rattle.shard_docs.specs.ShardView.{dead_rows, has_dead}
use Rattle.shard_docs.specs.Tables.{last_place, AreDeaths}
use Rattle.shard_docs.proofs.DeadRows.{dead_more, dead_then, dead_now, dead_within, dead_same}

abbrev one_if : Bool → ℕ
one_if b = cond b 1 0

abbrev pub up_to : ℕ → List ℕ → ℕ
up_to version deaths = count_by (λ died. nat_le died version) deaths

abbrev pub above : ℕ → List ℕ → List ℕ
above version deaths = filter (λ died. nat_lt version died) deaths

up_to-cons : (version died : ℕ) (deaths : List ℕ) → up_to version (died ∷ deaths) ≡ one_if (nat_le died version) + up_to version deaths
up_to-cons version died deaths = sum_by-cons (λ d. one_if (nat_le d version)) died deaths

up_to-push : (version died : ℕ) (deaths : List ℕ) → up_to version (deaths ++ died ∷ []) ≡ up_to version deaths + one_if (nat_le died version)
up_to-push version died deaths = sum_by_push (λ d. one_if (nat_le d version)) deaths died

-- all are up to a version that none is above
all_up_to : (version : ℕ) (deaths : List ℕ) → All (λ died. died ≤ version) deaths → up_to version deaths ≡ length deaths
all_up_to version [] within = refl
all_up_to version (died ∷ deaths) within =
    let here = All-head (λ d. d ≤ version) died deaths within in
    let first = up_to-cons version died deaths in
    let one : one_if (nat_le died version) ≡ 1 = ap one_if (le-leb died version here) in
    let rest = all_up_to version deaths (All-tail (λ d. d ≤ version) died deaths within) in
    omega (arith, first, one, rest)

-- those up to a version are those up to an earlier one, and of the others those up to it
up_to-above : (early late : ℕ) (deaths : List ℕ) → early ≤ late → up_to early deaths + up_to late (above early deaths) ≡ up_to late deaths
up_to-above early late [] below = refl
up_to-above early late (died ∷ deaths) below =
    let rest = up_to-above early late deaths below in
    let first = up_to-cons early died deaths in
    let second = up_to-cons late died deaths in
    by (cases_lt early died) first second rest
  where
    by : (early < died) ⊎ (died ≤ early) → up_to early (died ∷ deaths) ≡ one_if (nat_le died early) + up_to early deaths
        → up_to late (died ∷ deaths) ≡ one_if (nat_le died late) + up_to late deaths → up_to early deaths + up_to late (above early deaths) ≡ up_to late deaths
        → up_to early (died ∷ deaths) + up_to late (above early (died ∷ deaths)) ≡ up_to late (died ∷ deaths)
    by (inl later) first second rest =
        let kept : above early (died ∷ deaths) ≡ died ∷ above early deaths = ap (λ b. cond b (died ∷ above early deaths) (above early deaths)) (lt-ltb early died later) in
        let third = ap (up_to late) kept ∙ up_to-cons late died (above early deaths) in
        let none : one_if (nat_le died early) ≡ 0 = grind (arith, nat_tests) in
        omega (arith, first, second, third, rest, none)
    by (inr early_one) first second rest =
        let gone : above early (died ∷ deaths) ≡ above early deaths = ap (λ b. cond b (died ∷ above early deaths) (above early deaths)) (le-ltb early died early_one) in
        let third = ap (up_to late) gone in
        let one : one_if (nat_le died early) ≡ 1 = ap one_if (le-leb died early early_one) in
        let too : one_if (nat_le died late) ≡ 1 = ap one_if (le-leb died late (omega arith)) in
        omega (arith, first, second, third, rest, one, too)

-- ---- taking out of the front those up to a version

-- those that stand behind one above it are above it too
none_behind : (version died : ℕ) (deaths : List ℕ) → version < died → All (λ d. died ≤ d) deaths → (above version deaths ≡ deaths) × (up_to version deaths ≡ 0)
none_behind version died [] later all = (refl, refl)
none_behind version died (next ∷ deaths) later all =
    let here : version < next = let low = All-head (λ d. died ≤ d) next deaths all in omega arith in
    let rest = none_behind version died deaths later (All-tail (λ d. died ≤ d) next deaths all) in
    let none : one_if (nat_le next version) ≡ 0 = grind (arith, nat_tests) in (
      ap (λ b. cond b (next ∷ above version deaths) (above version deaths)) (lt-ltb version next here) ∙ ap (λ l. next ∷ l) rest.0,
      omega (arith, up_to-cons version next deaths, none, rest.1),
    )

later_ones : (died : ℕ) (deaths : List ℕ) → IsNonDecreasing (died ∷ deaths) → All (λ d. died ≤ d) deaths
later_ones died deaths ascend = λ k d within. ascend 0 (suc k) d (omega arith) (omega arith)

behind_first : (died : ℕ) (deaths : List ℕ) → IsNonDecreasing (died ∷ deaths) → IsNonDecreasing deaths
behind_first died deaths ascend = λ i j d low within. ascend (suc i) (suc j) d (omega arith) (omega arith)

-- so many were taken, and the next is above it, if there is one
pub taken : (version n : ℕ) (deaths : List ℕ) → IsNonDecreasing deaths → n ≤ length deaths → ((k : ℕ) → k < n → get_or deaths k 0 ≤ version) → (n < length deaths → version < get_or deaths n 0)
    → (n ≡ up_to version deaths) × (drop n deaths ≡ above version deaths)
taken version zero [] ascend low before next = (refl, refl)
taken version (suc n) [] ascend low before next = absurd (omega arith)
taken version zero (died ∷ deaths) ascend low before next =
    let here : version < died = next (omega arith) in
    let rest = none_behind version died deaths here (later_ones died deaths ascend) in
    let none : one_if (nat_le died version) ≡ 0 = grind (arith, nat_tests) in (
      omega (arith, up_to-cons version died deaths, none, rest.1),
      sym (ap (λ b. cond b (died ∷ above version deaths) (above version deaths)) (lt-ltb version died here) ∙ ap (λ l. died ∷ l) rest.0),
    )
taken version (suc n) (died ∷ deaths) ascend low before next =
    let here : died ≤ version = before 0 (omega arith) in
    let one : one_if (nat_le died version) ≡ 1 = ap one_if (le-leb died version here) in
    let rest = taken version n deaths (behind_first died deaths ascend) (omega arith) (λ k below. before (suc k) (omega arith)) (λ within. next (omega arith)) in (
      omega (arith, up_to-cons version died deaths, one, rest.0),
      rest.1 ∙ sym (ap (λ b. cond b (died ∷ above version deaths) (above version deaths)) (le-ltb version died here)),
    )

-- ---- what is kept

pub none_kept : AreDeaths 0 [] []
none_kept = record {
  ascend = IsNonDecreasingBy-short (λ d. d) [] (omega arith);
  within = All-nil (λ d. d ≤ 0);
  counted = λ version from. let first = dead_now 0 [] (omega arith) in let then = dead_now version [] (omega arith) in omega (arith, first, then);
}

module _ (oldest : ℕ) (writes : List Doc) (deaths : List ℕ) (are : AreDeaths oldest writes deaths) where
  pub kept_count : (version : ℕ) → oldest ≤ version → up_to version deaths ≡ dead_rows version writes - dead_rows oldest writes
  kept_count version from = let at = are.counted version from in omega arith

  -- as many as rows are dead and not forgotten
  pub many_kept : oldest ≤ length writes → dead_rows oldest writes + length deaths ≡ dead_rows (length writes) writes
  many_kept low = let at = are.counted (length writes) low in let all = all_up_to (length writes) deaths are.within in omega arith

  pub few_kept : oldest ≤ length writes → length deaths ≤ length writes
  few_kept low = let many = many_kept low in let within = dead_within (length writes) writes in omega arith

  -- there is one exactly where a row is dead that is not forgotten
  pub some_kept : oldest ≤ length writes → (empty : Bool) → empty ≡ (length deaths == 0) → not empty ≡ has_dead (record { writes = writes; oldest = oldest })
  some_kept low empty is = let many = many_kept low in grind (arith, nat_tests)

  -- one more write
  module _ (doc : Doc) (low : oldest ≤ length writes) where
    abbrev more : List Doc
    more = writes ++ doc ∷ []

    still_within : All (λ died. died ≤ length more) deaths
    still_within = let many = length_push writes doc in All-weaker (λ d. d ≤ length writes) (λ d. d ≤ length more) (λ d within. omega arith) deaths are.within

    before : dead_rows oldest more ≡ dead_rows oldest writes
    before = dead_then oldest writes (doc ∷ []) low

    -- which leaves so many more dead
    newest : (version : ℕ) → length writes < version → dead_rows version more ≡ dead_rows version writes + one_if (is_some (last_place doc.id writes))
    newest version later =
        let many = length_push writes doc in
        dead_now version more (omega arith) ∙ dead_more writes doc ∙ ap (λ n. n + one_if (is_some (last_place doc.id writes))) (sym (dead_now version writes (omega arith)))

    pub none_more : last_place doc.id writes ≡ None → AreDeaths oldest more deaths
    none_more none = record {
      ascend = are.ascend;
      within = still_within;
      counted = λ version from. counted version from (cases_lt (length writes) version);
    }
      where
        counted : (version : ℕ) → oldest ≤ version → (length writes < version) ⊎ (version ≤ length writes) → dead_rows oldest more + up_to version deaths ≡ dead_rows version more
        counted version from (inl later) =
            let added : one_if (is_some (last_place doc.id writes)) ≡ 0 = ap (λ (l : Option ℕ). one_if (is_some l)) none in
            omega (arith, before, newest version later, added, are.counted version from)
        counted version from (inr within) = omega (arith, before, dead_then version writes (doc ∷ []) within, are.counted version from)

    pub one_more : (place version : ℕ) → last_place doc.id writes ≡ Some place → version ≡ suc (length writes) → AreDeaths oldest more (deaths ++ version ∷ [])
    one_more place died some at = record {
      ascend = IsNonDecreasingBy-push (λ d. d) deaths died are.ascend (λ d some_there. let last = are.within (length deaths - 1) d (omega arith) in omega arith);
      within = let many = length_push writes doc in All-push (λ d. d ≤ length more) deaths died still_within (omega arith);
      counted = λ version from. counted version from (cases_lt (length writes) version);
    }
      where
        counted : (version : ℕ) → oldest ≤ version → (length writes < version) ⊎ (version ≤ length writes) → dead_rows oldest more + up_to version (deaths ++ died ∷ []) ≡ dead_rows version more
        counted version from (inl later) =
            let added : one_if (is_some (last_place doc.id writes)) ≡ 1 = ap (λ (l : Option ℕ). one_if (is_some l)) some in
            let one : one_if (nat_le died version) ≡ 1 = ap one_if (le-leb died version (omega arith)) in
            omega (arith, before, newest version later, added, one, up_to-push version died deaths, are.counted version from)
        counted version from (inr within) =
            let none : one_if (nat_le died version) ≡ 0 = grind (arith, nat_tests) in
            omega (arith, before, dead_then version writes (doc ∷ []) within, none, up_to-push version died deaths, are.counted version from)

  -- rows are forgotten
  pub kept_above : (version : ℕ) (shown : List Doc) → oldest ≤ version → ShowsFrom version writes shown → AreDeaths version shown (above version deaths)
  kept_above version shown from shows = record {
    ascend = IsNonDecreasingBy-filter (λ d. d) (λ died. nat_lt version died) deaths are.ascend;
    within = All-filter (λ died. nat_lt version died) (λ d. d ≤ length shown) deaths (subst (λ n. All (λ d. d ≤ n) deaths) (sym shows.as_many) are.within);
    counted = λ later above_it.
        omega
        (arith, dead_same version writes shown shows version (omega arith), dead_same version writes shown shows later above_it, up_to-above version later deaths above_it, are.counted version from, are.counted later (omega arith));
  }
