-- A shard that shows from a version on what was written goes on doing so while more is written.
use Rattle.std.proofs.Common.{◌≡◌, ℕ, suc, ◌+◌, ◌-◌, ◌<◌, ◌≤◌, ◌⊎◌, inl, inr, Bool, true, false, cond, not, ◌||◌, List, [], ◌∷◌, ◌++◌, length, take, filter, refl, sym, ap, subst, ◌∙◌, arith}
use Rattle.std.specs.List.{list_any}
use Rattle.std.specs.Str.{bytes_eq}
use Rattle.std.proofs.Math.Seq.{take-append-add}
use Rattle.std.proofs.lemmas.Bool.{cases_lt}
use Rattle.std.proofs.lemmas.List.{take-append-le, take_all, length-append}
use Rattle.std.proofs.lemmas.List.Folds.{list_any-append}
use Rattle.task_ids.specs.declared.doc.Doc.{Doc}
use Rattle.task_ids.specs.Rows.{Row, has_id, living_rows, rows_at, is_alive}
use Rattle.shard_docs.specs.Shown.{ShowsFrom}

-- none of the later writes has the id of the row
abbrev survives : List Doc → Row → Bool
survives more row = not (has_id row.1.id more)

-- the rows that later writes leave alive, and then those of the later writes
living_append : (place : ℕ) (docs more : List Doc) → living_rows place (docs ++ more) ≡ filter (survives more) (living_rows place docs) ++ living_rows (place + length docs) more
living_append place [] more = let same : place ≡ place + 0 = omega arith in ap (λ p. living_rows p more) same
living_append place (doc ∷ later) more =
    let next : suc place + length later ≡ place + suc (length later) = omega arith in
    let rest = living_append (suc place) later more ∙ ap (λ p. filter (survives more) (living_rows (suc place) later) ++ living_rows p more) next in
    ap (λ b. cond b (living_rows (suc place) (later ++ more)) ((place, doc) ∷ living_rows (suc place) (later ++ more))) (list_any-append (λ other. bytes_eq doc.id other.id) later more)
    ∙ step (has_id doc.id later) (has_id doc.id more) (living_rows (suc place) later) (living_rows (suc place) (later ++ more)) (living_rows (place + suc (length later)) more) refl rest
  where
    step : (dead gone : Bool) (old new past : List Row) → has_id doc.id more ≡ gone → new ≡ filter (survives more) old ++ past
        → cond (dead || gone) new ((place, doc) ∷ new) ≡ filter (survives more) (cond dead old ((place, doc) ∷ old)) ++ past
    step true gone old new past e rest = rest
    step false true old new past e rest = rest ∙ sym (ap (λ b. cond (not b) ((place, doc) ∷ filter (survives more) old) (filter (survives more) old) ++ past) e)
    step false false old new past e rest =
        ap (λ rows. (place, doc) ∷ rows) rest ∙ sym (ap (λ b. cond (not b) ((place, doc) ∷ filter (survives more) old) (filter (survives more) old) ++ past) e)

-- all that was written shows itself
pub shows_all : (from : ℕ) (writes : List Doc) → ShowsFrom from writes writes
shows_all from writes = record { as_many = refl; rows = λ version above. refl }

-- what shows from a version on what shows from another one on
pub shows_then : (old from top : ℕ) (writes between shown : List Doc) → ShowsFrom old writes between → ShowsFrom from between shown → old ≤ top → from ≤ top → ShowsFrom top writes shown
shows_then old from top writes between shown first then above too = record {
  as_many = then.as_many ∙ first.as_many;
  rows = λ version later. then.rows version (omega (arith, too, later)) ∙ first.rows version (omega (arith, above, later));
}

module _ (from : ℕ) (writes shown : List Doc) (shows : ShowsFrom from writes shown) (low : from ≤ length writes) where
  -- the same rows are alive after all writes
  pub same_living : living_rows 0 shown ≡ living_rows 0 writes
  same_living =
      let few : length shown ≤ length writes = subst (λ n. n ≤ length writes) (sym shows.as_many) (omega arith) in
      sym (ap (living_rows 0) (take_all (length writes) shown few)) ∙ shows.rows (length writes) low ∙ ap (living_rows 0) (take_all (length writes) writes (omega arith))

  -- so a write does the same
  pub same_alive : (id : List ℕ) → is_alive id shown ≡ is_alive id writes
  same_alive id = ap (list_any (λ row. bytes_eq id row.1.id)) same_living

  module _ (more : List Doc) where
    -- at a version of the later writes
    later_rows : (version : ℕ) → length writes < version → (docs : List Doc) → length docs ≡ length writes
        → rows_at version (docs ++ more) ≡ filter (survives (take (version - length writes) more)) (living_rows 0 docs) ++ living_rows (length writes) (take (version - length writes) more)
    later_rows version above docs many =
        let is : version ≡ length docs + (version - length writes) = omega (arith, above, many) in
        let at : 0 + length docs ≡ length writes = omega (arith, many) in
        ap (λ v. rows_at v (docs ++ more)) is ∙ ap (living_rows 0) (take-append-add docs more (version - length writes))
        ∙ living_append 0 docs (take (version - length writes) more)
        ∙ ap (λ p. filter (survives (take (version - length writes) more)) (living_rows 0 docs) ++ living_rows p (take (version - length writes) more)) at

    same_rows : (version : ℕ) → from ≤ version → (length writes < version) ⊎ (version ≤ length writes) → rows_at version (shown ++ more) ≡ rows_at version (writes ++ more)
    same_rows version above (inl later) =
        later_rows version later shown shows.as_many
        ∙ ap (λ rows. filter (survives (take (version - length writes) more)) rows ++ living_rows (length writes) (take (version - length writes) more)) same_living
        ∙ sym (later_rows version later writes refl)
    same_rows version above (inr within) =
        let fits : version ≤ length shown = subst (λ n. version ≤ n) (sym shows.as_many) within in
        ap (living_rows 0) (take-append-le version shown more fits) ∙ shows.rows version above ∙ sym (ap (living_rows 0) (take-append-le version writes more within))

    pub shows_more : ShowsFrom from (writes ++ more) (shown ++ more)
    shows_more = record {
      as_many = length-append shown more ∙ ap (λ n. n + length more) shows.as_many ∙ sym (length-append writes more);
      rows = λ version above. same_rows version above (cases_lt (length writes) version);
    }
