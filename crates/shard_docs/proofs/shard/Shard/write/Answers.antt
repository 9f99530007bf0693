use Rattle.std.proofs.Common.{◌≡◌, ◌+◌, ◌<◌, ◌∷◌, ◌++◌, [], length, set, arith, get_or, string_bytes, ◌∙◌, sym, ap, subst, Some, None, cond, true, ℕ, is_some, refl, length-set}
use Rattle.std.proofs.lemmas.List.{length-map, length_push}
use Rattle.std.proofs.lemmas.Option.{get_or_from_slice_get}
use Rattle.std.specs.List.{slice_get}
use Rattle.std.specs.Prelude.{IfSome}
use Rattle.std.specs.HashMap.{Updates}
use Rattle.std.specs.String.{string_eq}
use Rattle.shard_docs.specs.SeenRows.{SeenRow, new_row}
use Rattle.shard_docs.specs.Tables.{IsTables}
use Rattle.shard_docs.specs.declared.shard.Written.TheVariants.{Created, Updated}
use Rattle.shard_docs.proofs.Indexed.{with_row, get_before}
use Rattle.shard_docs.proofs.Numbered.{one_more_row}
use Rattle.shard_docs.proofs.ShardParts.{same_writes, same_oldest, alike, alike_deaths, prepared, written, written_deaths, replaced, replaced_deaths, with_next}
use Rattle.shard_docs.proofs.TableLemmas.{created, updated, docs_more, docs_same, docs_of, found_place, place_within, alive_is_written, same_tables, living_row_is}
use Rattle.shard_docs.proofs.shard.Shard.write.Goals as goal

pub invariant_of-self : goal.invariant_of-self
invariant_of-self c =
    (prepared c.self.inside.rows c.self.inside.living c.self.inside.index c.add.new.self c.len-place.result c.self.inside.spoiled true c.self.inside.numbers c.len-place.ensures c.add.ensures.others c.self.invariant.0, c.self.invariant.1)

pub invariant_of-self-in_err-id : goal.invariant_of-self-in_err-id
invariant_of-self-in_err-id c =
    (prepared c.self.inside.rows c.self.inside.living c.self.inside.index c.add.new.self c.len-place.result c.self.inside.spoiled true c.self.inside.numbers c.len-place.ensures c.add.ensures.others c.self.invariant.0, c.self.invariant.1)

pub invariant_of-self-in_err-reserve : goal.invariant_of-self-in_err-reserve
invariant_of-self-in_err-reserve c =
    let now =
    alike c.self.inside.rows c.reserve.new.self c.self.inside.living c.add.new.self true c.self.inside.numbers c.reserve.ensures.rows c.reserve.ensures.oldest
    (prepared c.self.inside.rows c.self.inside.living c.self.inside.index c.add.new.self c.len-place.result c.self.inside.spoiled true c.self.inside.numbers c.len-place.ensures c.add.ensures.others c.self.invariant.0) in
    (now, alike_deaths c.self.inside.rows c.reserve.new.self c.self.inside.deaths.items c.self.inside.deaths.items c.reserve.ensures.rows c.reserve.ensures.oldest refl c.self.invariant.1)

pub invariant_of-self-in_err-reserve-2 : goal.invariant_of-self-in_err-reserve-2
invariant_of-self-in_err-reserve-2 c =
    let now =
    alike c.self.inside.rows c.reserve.new.self c.self.inside.living c.add.new.self true c.self.inside.numbers c.reserve.ensures.rows c.reserve.ensures.oldest
    (prepared c.self.inside.rows c.self.inside.living c.self.inside.index c.add.new.self c.len-place.result c.self.inside.spoiled true c.self.inside.numbers c.len-place.ensures c.add.ensures.others c.self.invariant.0) in
    (now, alike_deaths c.self.inside.rows c.reserve.new.self c.self.inside.deaths.items c.reserve-2.new.self.items c.reserve.ensures.rows c.reserve.ensures.oldest c.reserve-2.ensures.items c.self.invariant.1)

pub invariant_of-self-in_default : goal.invariant_of-self-in_default
invariant_of-self-in_default c =
    let now =
    alike c.self.inside.rows c.reserve.new.self c.self.inside.living c.add.new.self true c.self.inside.numbers c.reserve.ensures.rows c.reserve.ensures.oldest
    (prepared c.self.inside.rows c.self.inside.living c.self.inside.index c.add.new.self c.len-place.result c.self.inside.spoiled true c.self.inside.numbers c.len-place.ensures c.add.ensures.others c.self.invariant.0) in
    let deaths = alike_deaths c.self.inside.rows c.reserve.new.self c.self.inside.deaths.items c.reserve-2.new.self.items c.reserve.ensures.rows c.reserve.ensures.oldest c.reserve-2.ensures.items c.self.invariant.1 in
    ((same_tables c.reserve.new.self.rows c.self.inside.living c.insert.new.self c.in_default.ensures.err now.0, now.1, now.2, now.3, now.4), deaths)

pub invariant_of-self-in_default-replaced : goal.invariant_of-self-in_default-replaced
invariant_of-self-in_default-replaced c =
    let rows = c.self.inside.rows.rows in
    let named : string_bytes c.in_ok-id.id ≡ c.args.doc.id = c.in_ok-id.ensures.ok ∙ c.as_str.ensures ∙ c.get.ensures in
    let none = found_place rows c.self.inside.living c.args.doc c.in_ok-id.id c.in-Ok.replaced None c.self.invariant.0.0 named c.in-Ok.ensures.old c.in_default-replaced.is in
    let counted : c.len-place.result ≡ length rows = c.len-place.ensures in
    let room = c.push.new.self.room in
    let with_new : rows ++ new_row c.args.doc ∷ [] ≡ c.push.new.self.rows = sym (c.push.ensures.rows ∙ ap (λ l. l ++ new_row c.args.doc ∷ []) c.reserve.ensures.rows) in
    let oldest : c.push.new.self.oldest ≡ c.self.inside.rows.oldest = c.push.ensures.oldest ∙ c.reserve.ensures.oldest in
    let writes : Updates string_eq c.self.inside.living c.insert.new.self c.in_ok-id.id (Some (length rows)) =
    subst (λ (n : ℕ). Updates string_eq c.self.inside.living c.insert.new.self c.in_ok-id.id (Some n)) counted c.in-Ok.ensures.updates in
    let places =
    written c.self.inside.rows c.args.doc room c.len-place.result c.self.inside.index c.add.new.self c.self.inside.spoiled counted c.add.ensures.others
    c.in_ok-add.ensures.added c.add.ensures.kept
    c.self.invariant.0.2 c.self.invariant.0.3 in
    let tables = created rows c.self.inside.living c.insert.new.self c.args.doc c.in_ok-id.id c.self.invariant.0.0 named writes (omega arith) none in
    let known = one_more_row c.self.inside.rows c.args.doc room c.len-place.result c.self.inside.numbers c.add-2.new.self counted c.add-2.ensures c.self.invariant.0.4 in
    let now =
    alike (with_row c.self.inside.rows c.args.doc room) c.push.new.self c.insert.new.self c.add.new.self c.self.inside.spoiled c.add-2.new.self (sym with_new) oldest
    (tables, with_next c.self.inside.rows c.args.doc c.self.invariant.0.1, places.0, places.1, known) in
    let docs = ap docs_of (sym with_new) ∙ docs_more rows c.args.doc in
    (now, written_deaths c.self.inside.rows c.push.new.self c.args.doc c.self.inside.deaths.items c.reserve-2.new.self.items c.self.invariant.0.1 none docs oldest c.reserve-2.ensures.items c.self.invariant.1)

pub returns-in_default-replaced-clause-outcome : goal.returns-in_default-replaced-clause-outcome
returns-in_default-replaced-clause-outcome c =
    let rows = c.self.inside.rows.rows in
    let named : string_bytes c.in_ok-id.id ≡ c.args.doc.id = c.in_ok-id.ensures.ok ∙ c.as_str.ensures ∙ c.get.ensures in
    let none = found_place rows c.self.inside.living c.args.doc c.in_ok-id.id c.in-Ok.replaced None c.self.invariant.0.0 named c.in-Ok.ensures.old c.in_default-replaced.is in
    rw (← same_writes c.self.view_is) (sym (ap (λ b. cond b Updated Created) (alive_is_written c.args.doc.id (docs_of rows) ∙ ap is_some none)))

pub kill-requires-clause-alive : goal.kill-requires-clause-alive
kill-requires-clause-alive c =
    let rows = c.self.inside.rows.rows in
    let named : string_bytes c.in_ok-id.id ≡ c.args.doc.id = c.in_ok-id.ensures.ok ∙ c.as_str.ensures ∙ c.get.ensures in
    let found = found_place rows c.self.inside.living c.args.doc c.in_ok-id.id c.in-Ok.replaced (Some c.in-Some.replaced) c.self.invariant.0.0 named c.in-Ok.ensures.old c.in-Some.is in
    let below : c.in-Some.replaced < length rows = omega (arith, place_within c.args.doc.id (docs_of rows) c.in-Some.replaced found, length-map rows (λ (r : SeenRow). r.doc)) in
    let all = rows ++ new_row c.args.doc ∷ [] in
    let with_new : all ≡ c.push.new.self.rows = sym (c.push.ensures.rows ∙ ap (λ l. l ++ new_row c.args.doc ∷ []) c.reserve.ensures.rows) in
    let living = living_row_is rows c.self.inside.living c.args.doc.id c.in-Some.replaced c.self.invariant.0.0 found in
    let there : slice_get all c.in-Some.replaced ≡ Some living.0 = sym (get_before rows (new_row c.args.doc) c.in-Some.replaced below) ∙ living.1 in
    subst (λ o. IfSome o (λ (row : SeenRow). row.died ≡ None)) (sym (ap (λ l. slice_get l c.in-Some.replaced) (sym with_new) ∙ there)) living.2

pub kill-requires-clause-behind : goal.kill-requires-clause-behind
kill-requires-clause-behind c =
    let rows = c.self.inside.rows.rows in
    let named : string_bytes c.in_ok-id.id ≡ c.args.doc.id = c.in_ok-id.ensures.ok ∙ c.as_str.ensures ∙ c.get.ensures in
    let found = found_place rows c.self.inside.living c.args.doc c.in_ok-id.id c.in-Ok.replaced (Some c.in-Some.replaced) c.self.invariant.0.0 named c.in-Ok.ensures.old c.in-Some.is in
    let below : c.in-Some.replaced < length rows = omega (arith, place_within c.args.doc.id (docs_of rows) c.in-Some.replaced found, length-map rows (λ (r : SeenRow). r.doc)) in
    omega (arith, below, length_push rows (new_row c.args.doc), ap length c.push.ensures.rows, ap length c.reserve.ensures.rows, length_push c.reserve.new.self.rows (new_row c.args.doc))

pub kill-requires-clause-later : goal.kill-requires-clause-later
kill-requires-clause-later c =
    let rows = c.self.inside.rows.rows in
    let named : string_bytes c.in_ok-id.id ≡ c.args.doc.id = c.in_ok-id.ensures.ok ∙ c.as_str.ensures ∙ c.get.ensures in
    let found = found_place rows c.self.inside.living c.args.doc c.in_ok-id.id c.in-Ok.replaced (Some c.in-Some.replaced) c.self.invariant.0.0 named c.in-Ok.ensures.old c.in-Some.is in
    let below : c.in-Some.replaced < length rows = omega (arith, place_within c.args.doc.id (docs_of rows) c.in-Some.replaced found, length-map rows (λ (r : SeenRow). r.doc)) in
    omega (arith, below, c.len-place.ensures)

pub invariant_of-self-2 : goal.invariant_of-self-2
invariant_of-self-2 c =
    let rows = c.self.inside.rows.rows in
    let named : string_bytes c.in_ok-id.id ≡ c.args.doc.id = c.in_ok-id.ensures.ok ∙ c.as_str.ensures ∙ c.get.ensures in
    let found = found_place rows c.self.inside.living c.args.doc c.in_ok-id.id c.in-Ok.replaced (Some c.in-Some.replaced) c.self.invariant.0.0 named c.in-Ok.ensures.old c.in-Some.is in
    let below : c.in-Some.replaced < length rows = omega (arith, place_within c.args.doc.id (docs_of rows) c.in-Some.replaced found, length-map rows (λ (r : SeenRow). r.doc)) in
    let all = rows ++ new_row c.args.doc ∷ [] in
    let with_new : all ≡ c.push.new.self.rows = sym (c.push.ensures.rows ∙ ap (λ l. l ++ new_row c.args.doc ∷ []) c.reserve.ensures.rows) in
    let living = living_row_is rows c.self.inside.living c.args.doc.id c.in-Some.replaced c.self.invariant.0.0 found in
    let there : slice_get all c.in-Some.replaced ≡ Some living.0 = sym (get_before rows (new_row c.args.doc) c.in-Some.replaced below) ∙ living.1 in
    let version = c.len-place.result + 1 in
    let dead : SeenRow = record living.0 { died = Some version } in
    let now : c.kill.new.self.rows ≡ set all c.in-Some.replaced dead =
    subst (λ l. c.kill.new.self.rows ≡ set l c.in-Some.replaced dead) (sym with_new)
    (subst (λ o. IfSome o (λ (row : SeenRow). c.kill.new.self.rows ≡ set c.push.new.self.rows c.in-Some.replaced (record row { died = Some version }))) (ap (λ l. slice_get l c.in-Some.replaced) (sym with_new) ∙ there) c.kill.ensures.rows) in
    let is_row : living.0 ≡ get_or all c.in-Some.replaced living.0 = sym (get_or_from_slice_get all c.in-Some.replaced living.0 living.0 there) in
    let counted : c.len-place.result ≡ length rows = c.len-place.ensures in
    let room = c.push.new.self.room in
    let s = with_row c.self.inside.rows c.args.doc room in
    let oldest : c.kill.new.self.oldest ≡ c.self.inside.rows.oldest = c.kill.ensures.oldest ∙ c.push.ensures.oldest ∙ c.reserve.ensures.oldest in
    let writes : Updates string_eq c.self.inside.living c.insert.new.self c.in_ok-id.id (Some (length rows)) =
    subst (λ (n : ℕ). Updates string_eq c.self.inside.living c.insert.new.self c.in_ok-id.id (Some n)) counted c.in-Ok.ensures.updates in
    let places =
    written c.self.inside.rows c.args.doc room c.len-place.result c.self.inside.index c.add.new.self c.self.inside.spoiled counted c.add.ensures.others
    c.in_ok-add.ensures.added c.add.ensures.kept
    c.self.invariant.0.2 c.self.invariant.0.3 in
    let low = c.self.invariant.0.1 in
    let known = one_more_row c.self.inside.rows c.args.doc room c.len-place.result c.self.inside.numbers c.add-2.new.self counted c.add-2.ensures c.self.invariant.0.4 in
    let told = replaced s c.kill.new.self c.in-Some.replaced version living.0 c.add.new.self c.self.inside.spoiled c.add-2.new.self there living.2 (omega arith) now oldest places.0 places.1 known in
    let tables = updated rows c.self.inside.living c.insert.new.self c.args.doc c.in_ok-id.id c.self.invariant.0.0 named writes c.in-Some.replaced version living.0 found (omega arith) is_row (omega arith) in
    let docs = ap docs_of now ∙ docs_same rows c.args.doc c.in-Some.replaced version living.0 is_row in
    let pushed = c.push_back_reserved.ensures.items ∙ ap (λ l. l ++ version ∷ []) c.reserve-2.ensures.items in
    let died = replaced_deaths c.self.inside.rows c.kill.new.self c.args.doc c.in-Some.replaced version c.self.inside.deaths.items c.push_back_reserved.new.self.items low found (omega arith) docs oldest pushed c.self.invariant.1 in (
      (
        subst (λ l. IsTables l c.insert.new.self) (sym now) tables,
        omega (arith, oldest, low, ap length now, length-set all c.in-Some.replaced dead, length_push rows (new_row c.args.doc)),
        told.0,
        told.1,
        told.2,
      ),
      died,
    )

pub returns-clause-outcome : goal.returns-clause-outcome
returns-clause-outcome c =
    let rows = c.self.inside.rows.rows in
    let named : string_bytes c.in_ok-id.id ≡ c.args.doc.id = c.in_ok-id.ensures.ok ∙ c.as_str.ensures ∙ c.get.ensures in
    let found = found_place rows c.self.inside.living c.args.doc c.in_ok-id.id c.in-Ok.replaced (Some c.in-Some.replaced) c.self.invariant.0.0 named c.in-Ok.ensures.old c.in-Some.is in
    rw (← same_writes c.self.view_is) (sym (ap (λ b. cond b Updated Created) (alive_is_written c.args.doc.id (docs_of rows) ∙ ap is_some found)))

pub returns-clause-ok : goal.returns-clause-ok
returns-clause-ok c =
    let rows = c.self.inside.rows.rows in
    let named : string_bytes c.in_ok-id.id ≡ c.args.doc.id = c.in_ok-id.ensures.ok ∙ c.as_str.ensures ∙ c.get.ensures in
    let found = found_place rows c.self.inside.living c.args.doc c.in_ok-id.id c.in-Ok.replaced (Some c.in-Some.replaced) c.self.invariant.0.0 named c.in-Ok.ensures.old c.in-Some.is in
    let below : c.in-Some.replaced < length rows = omega (arith, place_within c.args.doc.id (docs_of rows) c.in-Some.replaced found, length-map rows (λ (r : SeenRow). r.doc)) in
    let all = rows ++ new_row c.args.doc ∷ [] in
    let with_new : all ≡ c.push.new.self.rows = sym (c.push.ensures.rows ∙ ap (λ l. l ++ new_row c.args.doc ∷ []) c.reserve.ensures.rows) in
    let living = living_row_is rows c.self.inside.living c.args.doc.id c.in-Some.replaced c.self.invariant.0.0 found in
    let there : slice_get all c.in-Some.replaced ≡ Some living.0 = sym (get_before rows (new_row c.args.doc) c.in-Some.replaced below) ∙ living.1 in
    let version = c.len-place.result + 1 in
    let dead : SeenRow = record living.0 { died = Some version } in
    let now : c.kill.new.self.rows ≡ set all c.in-Some.replaced dead =
    subst (λ l. c.kill.new.self.rows ≡ set l c.in-Some.replaced dead) (sym with_new)
    (subst (λ o. IfSome o (λ (row : SeenRow). c.kill.new.self.rows ≡ set c.push.new.self.rows c.in-Some.replaced (record row { died = Some version }))) (ap (λ l. slice_get l c.in-Some.replaced) (sym with_new) ∙ there) c.kill.ensures.rows) in
    let is_row : living.0 ≡ get_or all c.in-Some.replaced living.0 = sym (get_or_from_slice_get all c.in-Some.replaced living.0 living.0 there) in
    ap docs_of now ∙ docs_same rows c.args.doc c.in-Some.replaced version living.0 is_row ∙ ap (λ l. l ++ c.args.doc ∷ []) (same_writes c.self.view_is)

pub returns-clause-oldest : goal.returns-clause-oldest
returns-clause-oldest c = c.kill.ensures.oldest ∙ c.push.ensures.oldest ∙ c.reserve.ensures.oldest ∙ same_oldest c.self.view_is

pub returns-in_default-replaced-clause-oldest : goal.returns-in_default-replaced-clause-oldest
returns-in_default-replaced-clause-oldest c = c.push.ensures.oldest ∙ c.reserve.ensures.oldest ∙ same_oldest c.self.view_is
