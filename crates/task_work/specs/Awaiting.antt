-- Which answers work waits for, as far as a run compares them, and what the search in it keeps.
use Rattle.std.specs.Prelude.{ℕ, IsSomeAnd, ⊤}
use Rattle.search_phase.specs.Awaiting.{LooksAlike}
use Rattle.search_phase.specs.Searching.{IsSearching, Searching, awaited}
use Rattle.task_events.specs.declared.answered.AnsweredRequest.{AnsweredRequest}
use Rattle.task_work.specs.declared.work.Work.{Work}
use Rattle.task_work.specs.declared.work.Work.TheVariants.{Search, Scroll}

-- the search waits for an answer to the ask of this number, and the request looks as what it asked for
abbrev pub IsAskOfSearch : Searching → ℕ → AnsweredRequest → Type 0
IsAskOfSearch s ask request = IsSomeAnd (awaited s ask) (λ own. LooksAlike own request)

-- A search and a page take the answer to what they asked for, and other work the answer to any ask of the number.
abbrev pub IsAskedBy : Work → ℕ → AnsweredRequest → Type 0
IsAskedBy (Search s) ask request = IsAskOfSearch s ask request
IsAskedBy (Scroll s) ask request = IsAskOfSearch s ask request
IsAskedBy _ ask request = ⊤

-- where it is a search or a page, that is one
abbrev pub IsSoundSearch : Work → Type 0
IsSoundSearch (Search s) = IsSearching s
IsSoundSearch (Scroll s) = IsSearching s
IsSoundSearch _ = ⊤
