-- Shards that grow while they are read, and versions of them that stay.
use Rattle.std.specs.Prelude.{◌≡◌, ℕ, ◌≤◌, List, ◌++◌, length}
use Rattle.std.specs.List.{AllByRecursion}
use Rattle.task_ids.specs.declared.doc.Doc.{Doc}
use Rattle.task_events.specs.Answers.{ShardVersion}

-- each shard's later writes are its earlier ones and some more
abbrev pub HaveGrown : (ℕ → List Doc) → (ℕ → List Doc) → Type 0
HaveGrown earlier later = (shard : ℕ) → (more : List Doc) × (later shard ≡ earlier shard ++ more)

-- the version of a shard lies within its writes
abbrev pub IsWithin : (ℕ → List Doc) → ShardVersion → Type 0
IsWithin writes at = at.1 ≤ length (writes at.0)

-- and so does each of these
abbrev pub AreWithin : (ℕ → List Doc) → List ShardVersion → Type 0
AreWithin writes versions = AllByRecursion (IsWithin writes) versions
