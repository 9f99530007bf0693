-- What work does next, and what its letters rest on.
use Rattle.std.specs.Prelude.{◌≡◌, ℕ, ◌≤◌, List, length, Bool, true, false, not, is_none, Some, IfSome, ⊤}
use Rattle.std.specs.List.{AllByRecursion}
use Rattle.task_ids.specs.declared.doc.Doc.{Doc}
use Rattle.task_events.specs.declared.request.Request.{Request}
use Rattle.task_events.specs.declared.request.Request.TheVariants as asks
use Rattle.task_events.specs.declared.step.Asked.{Asked}
use Rattle.node_link.specs.Lawful.{IsLawfulReply}
use Rattle.search_phase.specs.Searching.{is_above}
use Rattle.reindex.specs.Writing.{is_written}
use Rattle.task_work.specs.declared.work.Work.{Work}
use Rattle.task_work.specs.declared.work.Work.TheVariants.{Search, Query, Fetch, Scroll, BulkShard}
use Rattle.task_work.specs.Reads.{ReadsWithin}
use Rattle.task_work.specs.Works.{IsWorkOn}

-- a query and a fetch until they have found what is asked for, and a part of a bulk until it is written
abbrev pub takes_turn : Work → Bool
takes_turn (Query q found) = is_none found
takes_turn (Fetch f found) = is_none found
takes_turn (BulkShard w) = not (is_written w)
takes_turn _ = false

-- an answer, where it has come, is one that a letter of the run may tell
abbrev pub IsLawfulAnswered : (ℕ → Type 0) → Asked → Type 0
IsLawfulAnswered allowed a = IfSome a.answer (IsLawfulReply allowed)

-- each answer that a search keeps is one that a letter of the run may tell
abbrev pub HasLawfulReplies : (ℕ → Type 0) → Work → Type 0
HasLawfulReplies allowed (Search s) = AllByRecursion (IsLawfulAnswered allowed) s.asked
HasLawfulReplies allowed (Scroll s) = AllByRecursion (IsLawfulAnswered allowed) s.asked
HasLawfulReplies allowed _ = ⊤

-- a search has asked with lower numbers alone
abbrev pub AsksBelow : ℕ → Work → Type 0
AsksBelow next (Search s) = is_above next s.asked ≡ true
AsksBelow next (Scroll s) = is_above next s.asked ≡ true
AsksBelow next _ = ⊤

-- The work has come so far by turns over these writes, of which it reads no later version.
abbrev pub HasCome : Work → List Doc → Type 0
HasCome work writes = IsWorkOn work writes × ReadsWithin writes work

-- the shard has the version that a request reads, where it reads one
abbrev pub ReadsHeld : List Doc → Request → Type 0
ReadsHeld writes (asks.Query ask) = (version : ℕ) → ask.version ≡ Some version → version ≤ length writes
ReadsHeld writes (asks.Fetch ask) = ask.version ≤ length writes
ReadsHeld writes _ = ⊤
