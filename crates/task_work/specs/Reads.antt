-- Which versions of its shard the work of a task reads.
use Rattle.std.specs.Prelude.{◌≡◌, ℕ, ◌≤◌, List, length, Some}
use Rattle.task_ids.specs.declared.doc.Doc.{Doc}
use Rattle.task_work.specs.declared.work.Work.{Work}
use Rattle.task_work.specs.declared.work.Work.TheVariants.{Query, Fetch}

-- It reads no version below it. What is not fixed yet will be the newest version.
abbrev pub WorkReadsFrom : ℕ → Work → Type 0
WorkReadsFrom from (Query q top) = (version : ℕ) → q.version ≡ Some version → from ≤ version
WorkReadsFrom from (Fetch f hits) = from ≤ f.ask.version
WorkReadsFrom from _ = Unit {0}

-- The version that it reads, once it is fixed, was written to the shard.
abbrev pub ReadsWithin : List Doc → Work → Type 0
ReadsWithin writes (Query q top) = (version : ℕ) → q.version ≡ Some version → version ≤ length writes
ReadsWithin writes (Fetch f hits) = f.ask.version ≤ length writes
ReadsWithin writes _ = Unit {0}
