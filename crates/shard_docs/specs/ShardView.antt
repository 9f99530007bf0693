-- What contracts see of a shard.
use Rattle.std.specs.Prelude.{ℕ, ◌-◌, Bool, nat_lt, List, [], length, take, refl}
use Rattle.std.specs.Coded.{Coded, code_by, coded×, coded_ℕ, coded_list}
use Rattle.task_ids.specs.declared.doc.Doc.{Doc}
use Rattle.task_ids.specs.contracts.doc.Doc as doc
use Rattle.task_ids.specs.Rows.{rows_at}

-- all writes, and a version: the rows that are dead there are forgotten
pub record ShardView : Type 0 where
  pub writes : List Doc
  pub oldest : ℕ

abbrev pub coded_shard : Coded ShardView
coded_shard = code_by (List Doc × ℕ) (coded× (coded_list doc.the_row.coded) coded_ℕ) (λ s. (s.writes, s.oldest)) (λ p. record { writes = p.0; oldest = p.1 }) (λ _. refl)

-- nothing was written, so nothing is forgotten
abbrev pub empty_shard : ShardView
empty_shard = record { writes = []; oldest = 0 }

-- how many rows are dead at a version: those that were written by then and are not alive
unfoldable pub dead_rows : ℕ → List Doc → ℕ
dead_rows version writes = length (take version writes) - length (rows_at version writes)

-- a row has died that is not forgotten
abbrev pub has_dead : ShardView → Bool
has_dead s = nat_lt (dead_rows s.oldest s.writes) (dead_rows (length s.writes) s.writes)
