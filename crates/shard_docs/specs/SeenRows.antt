-- What contracts see of the rows of a shard: one for each write, also of those that are forgotten.
use Rattle.std.specs.Prelude.{ℕ, suc, List, [], ◌∷◌, ◌++◌, Option, Some, None, option_and_then, if◌then◌else◌, refl}
use Rattle.std.specs.Coded.{Coded, code_by, coded×, coded_ℕ, coded_list, coded_option}
use Rattle.task_ids.specs.declared.doc.Doc.{Doc}
use Rattle.task_ids.specs.contracts.doc.Doc as doc
use Rattle.shard_docs.specs.Deaths.{is_alive_before}

-- a document that was written, and the version at which another took its place
pub record SeenRow : Type 0 where
  pub doc : Doc
  pub died : Option ℕ

-- the rows in order, the version from which on they can be read, and for how many more there is room
pub record SeenRows : Type 0 where
  pub rows : List SeenRow
  pub oldest : ℕ
  pub room : ℕ

abbrev pub coded_row : Coded SeenRow
coded_row = code_by (Doc × Option ℕ) (coded× doc.the_row.coded (coded_option coded_ℕ)) (λ r. (r.doc, r.died)) (λ p. record { doc = p.0; died = p.1 }) (λ _. refl)

abbrev pub coded_rows : Coded SeenRows
coded_rows =
    code_by (List SeenRow × (ℕ × ℕ)) (coded× (coded_list coded_row) (coded× coded_ℕ coded_ℕ)) (λ s. (s.rows, (s.oldest, s.room))) (λ p. record { rows = p.0; oldest = p.1.0; room = p.1.1 }) (λ _. refl)

-- a document that no other has replaced
abbrev pub new_row : Doc → SeenRow
new_row doc = record { doc = doc; died = None }

-- the document of a row that is alive at a version
abbrev pub doc_alive : ℕ → Option SeenRow → Option Doc
doc_alive version row = option_and_then (λ r. if is_alive_before version r.died then Some r.doc else None) row

-- ---- forgetting

-- A row that is forgotten is seen as one of the next row's document, which takes its place at once.
abbrev pub as_next : ℕ → List SeenRow → List SeenRow
as_next place [] = []
as_next place (next ∷ later) = record { doc = next.doc; died = Some (suc (suc place)) } ∷ []

-- some rows, of which the first has this place, once those that died before a version are forgotten
abbrev pub forgotten : ℕ → ℕ → List SeenRow → List SeenRow
forgotten oldest place [] = []
forgotten oldest place (row ∷ later) = (if is_alive_before oldest row.died then row ∷ [] else as_next place (forgotten oldest (suc place) later)) ++ forgotten oldest (suc place) later
