-- The row of an id that is alive is that of its last place.
use Rattle.std.proofs.Common.{◌≡◌, ℕ, ◌+◌, zero, suc, Bool, true, false, cond, List, [], ◌∷◌, Option, Some, None, option_map, is_some, string_bytes, IsUtf8, refl, sym, ap, subst, ◌∙◌, arith, ⊎_elim, true≢false}
use Rattle.std.proofs.lemmas.Map.Entries.{place_from_lookup}
use Rattle.std.proofs.lemmas.Option.{slice_get-map}
use Rattle.std.proofs.lemmas.Slice.Eq.{bytes_eq-Decides}
use Rattle.std.proofs.lemmas.Str.{IsUtf8-string_bytes}
use Rattle.std.specs.HashMap.{get_by_text}
use Rattle.std.specs.List.{find, slice_get}
use Rattle.std.specs.Str.{bytes_eq}
use Rattle.task_ids.specs.declared.doc.Doc.{Doc}
use Rattle.task_ids.specs.Rows.{Row, has_id, living_rows}
use Rattle.shard_docs.specs.SeenRows.{SeenRow}
use Rattle.shard_docs.specs.Candidates.{living_row}
use Rattle.shard_docs.specs.Tables.{further, last_place, IsTables}
use Rattle.shard_docs.proofs.Ids.{same_or_other}
use Rattle.shard_docs.proofs.TableLemmas.{Living, docs_of, some_place}

module _ (id : List ℕ) where
  abbrev found_in : List Row → Option Row
  found_in rows = find (λ row. bytes_eq id row.1.id) rows

  abbrev here_if : Bool → Option ℕ
  here_if same = cond same (Some 0) None

  -- a row that is another id's, or dead, is passed over
  passed : (dead other : Bool) (row : Row) (rows : List Row) → other ≡ bytes_eq id row.1.id → (dead ≡ false → other ≡ false) → found_in (cond dead rows (row ∷ rows)) ≡ found_in rows
  passed true other row rows is apart = refl
  passed false other row rows is apart = ap (λ b. cond b (Some row) (found_in rows)) (sym is ∙ apart refl)

  -- it is not found where it has no last place
  none_last : (last : Option ℕ) (same : Bool) → further last (here_if same) ≡ None → (last ≡ None) × (same ≡ false)
  none_last None true h = absurd cc
  none_last None false h = (refl, refl)
  none_last (Some p) same h = absurd cc

  none_living : (first : ℕ) (docs : List Doc) → last_place id docs ≡ None → found_in (living_rows first docs) ≡ None
  none_living first [] h = refl
  none_living first (doc ∷ later) h =
      let both = none_last (last_place id later) (bytes_eq id doc.id) h in
      passed (has_id doc.id later) (bytes_eq id doc.id) (first, doc) (living_rows (suc first) later) refl (λ _. both.1) ∙ none_living (suc first) later both.0

  -- an id that is written later is no more alive here
  written_later : (doc : Doc) (later : List Doc) (p : ℕ) → last_place id later ≡ Some p → has_id doc.id later ≡ false → bytes_eq id doc.id ≡ false
  written_later doc later p last alive =
      ⊎_elim
      (λ same. absurd (true≢false (sym (ap is_some last) ∙ some_place id later ∙ ap (λ i. has_id i later) same.2 ∙ alive)))
      (λ other. other.0)
      (same_or_other id doc.id)

  -- the last place, in the first write or in the later ones
  at_last : (last : Option ℕ) (same : Bool) (first place : ℕ) (doc found : Doc) (later : List Doc) → last ≡ last_place id later → same ≡ bytes_eq id doc.id
      → further last (here_if same) ≡ Some place → slice_get (doc ∷ later) place ≡ Some found
      → ((p : ℕ) → last ≡ Some p → slice_get later p ≡ Some found → found_in (living_rows (suc first) later) ≡ Some (suc first + p, found))
      → found_in (living_rows first (doc ∷ later)) ≡ Some (first + place, found)
  at_last None false first place doc found later is same h there rest = absurd cc
  at_last None true first zero doc found later is same h there rest =
      let one : id ≡ doc.id = (bytes_eq-Decides id doc.id).0 (sym same) in
      let alive : has_id doc.id later ≡ false = sym (ap (λ i. has_id i later) one) ∙ sym (some_place id later) ∙ sym (ap is_some is) in
      let row : Row = (first, doc) in
      ap (λ b. found_in (cond b (living_rows (suc first) later) (row ∷ living_rows (suc first) later))) alive
      ∙ ap (λ b. cond b (Some row) (found_in (living_rows (suc first) later))) (sym same)
      ∙ (λ i. Some (at_first i, is_found i))
    where
      at_first : first ≡ first + 0
      at_first = omega arith

      is_found : doc ≡ found
      is_found = cc
  at_last None true first (suc place) doc found later is same h there rest = absurd cc
  at_last (Some p) same first zero doc found later is same' h there rest = absurd cc
  at_last (Some p) same first (suc place) doc found later is same' h there rest =
      let one : p ≡ place = cc in
      let next : suc first + p ≡ first + suc place = omega arith in
      passed (has_id doc.id later) (bytes_eq id doc.id) (first, doc) (living_rows (suc first) later) refl (written_later doc later p (sym is))
      ∙ rest p refl (ap (slice_get later) one ∙ there) ∙ ap (λ n. Some (n, found)) next

  some_living : (first place : ℕ) (docs : List Doc) (found : Doc) → last_place id docs ≡ Some place → slice_get docs place ≡ Some found → found_in (living_rows first docs) ≡ Some (first + place, found)
  some_living first place [] found h there = absurd cc
  some_living first place (doc ∷ later) found h there =
      at_last (last_place id later) (bytes_eq id doc.id) first place doc found later refl refl h there (λ p last here. some_living (suc first) p later found last here)

  pub not_living : (rows : List SeenRow) (living : Living) → IsTables rows living → get_by_text living id ≡ None → living_row id (docs_of rows) ≡ None
  not_living rows living tables none = none_living 0 (docs_of rows) (sym (tables.places id) ∙ none)

  pub is_living : (rows : List SeenRow) (living : Living) (place : ℕ) (doc : Doc) → IsTables rows living → get_by_text living id ≡ Some place → Some doc ≡ option_map (λ (row : SeenRow). row.doc) (slice_get rows place)
      → living_row id (docs_of rows) ≡ Some (place, doc)
  is_living rows living place doc tables at is =
      let there : slice_get (docs_of rows) place ≡ Some doc = slice_get-map (λ r. r.doc) rows place ∙ sym is in
      let none : 0 + place ≡ place = omega arith in
      some_living 0 place (docs_of rows) doc (sym (tables.places id) ∙ at) there ∙ ap (λ n. Some (n, doc)) none

  -- only texts are ids
  pub no_text : (living : Living) (found : Option ℕ) → get_by_text living id ≡ found → (IsUtf8 id → ⊥) → get_by_text living id ≡ None
  no_text living None e bad = e
  no_text living (Some place) e bad =
      let entry = place_from_lookup (λ key. bytes_eq id (string_bytes key)) living.entries place e in
      absurd (bad (subst IsUtf8 (sym ((bytes_eq-Decides id (string_bytes entry.1)).0 entry.3)) (IsUtf8-string_bytes entry.1)))
