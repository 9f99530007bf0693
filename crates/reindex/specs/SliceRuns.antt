-- The state of a slice is what its asks, with their answers and the moments of these, say.
use Rattle.std.specs.Prelude.{◌≡◌, ℕ, ◌-◌, ◌%◌, ◌≤◌, List, [], length, take, get_or, Bool, true, false, ◌==◌, Option, Some, None, option_and_then, if◌then◌else◌}
use Rattle.std.specs.Option.{option_map_or}
use Rattle.throttle.specs.Waits.{per_second}
use Rattle.task_ids.specs.declared.doc.Doc.{Doc}
use Rattle.task_ids.specs.declared.task_id.TaskId.{TaskId}
use Rattle.task_events.specs.declared.request.ReindexAsk.{ReindexAsk}
use Rattle.task_events.specs.declared.request.Request.TheVariants as asks
use Rattle.task_events.specs.declared.reply.Reply.{Reply}
use Rattle.task_events.specs.declared.step.Asked.{Asked}
use Rattle.task_events.specs.Counting.{is_batch}
use Rattle.task_events.specs.Searches.{are_answered}
use Rattle.task_events.specs.SliceTask.{first_page, docs_on, context_in, answer_at, is_clean, slice_counts, due_after, most_asks}
use Rattle.reindex.specs.declared.phase.Phase.{Phase}
use Rattle.reindex.specs.declared.phase.Phase.TheVariants.{First, Reads, Holds, Writes, Rests, Over}
use Rattle.reindex.specs.OpenAsks.{AreNumbered}
use Rattle.reindex.specs.Slices.{Slicing}

-- where its newest ask stands, counted from 0
abbrev pub newest : List Asked → ℕ
newest asked = length asked - 1

-- the answer to it, if there is one yet
abbrev pub newest_answer : List Asked → Option Reply
newest_answer asked = answer_at asked (newest asked)

-- it was for a page: so is every second one, from the first on
abbrev pub is_for_page : List Asked → Bool
is_for_page asked = length asked % 2 == 1

-- ---- how far it has come

-- it waits for a page
pub record AwaitsPage (asked : List Asked) (ask : ℕ) : Type 0 where
  pub ask_is : ask ≡ length asked
  pub for_page : is_for_page asked ≡ true
  pub open_yet : newest_answer asked ≡ None

-- it has a page that is a batch, since this moment
pub record HasPage (asked : List Asked) (came : List ℕ) (docs : List Doc) (moment : ℕ) : Type 0 where
  pub for_page : is_for_page asked ≡ true
  pub page : Reply
  pub answered : newest_answer asked ≡ Some page
  pub batch : is_batch page ≡ true
  pub docs_are : docs ≡ docs_on page
  pub moment_is : moment ≡ get_or came (newest asked) 0

-- it waits for the bulk of so many documents of the page before, which came at this moment
pub record AwaitsBulk (asked : List Asked) (came : List ℕ) (ask docs moment : ℕ) : Type 0 where
  pub ask_is : ask ≡ length asked
  pub for_bulk : is_for_page asked ≡ false
  pub some : 2 ≤ length asked
  pub open_yet : newest_answer asked ≡ None
  pub docs_are : docs ≡ option_map_or (λ reply. length (docs_on reply)) (answer_at asked (newest asked - 1)) 0
  pub moment_is : moment ≡ get_or came (newest asked - 1) 0

-- its newest bulk was clean, and the next page is due at this moment
pub record HasWritten (ask : ReindexAsk) (asked : List Asked) (came : List ℕ) (until : ℕ) : Type 0 where
  pub for_bulk : is_for_page asked ≡ false
  pub some : 2 ≤ length asked
  pub bulk : Reply
  pub answered : newest_answer asked ≡ Some bulk
  pub clean : is_clean bulk ≡ true
  pub until_is : until ≡ due_after ask asked came (newest asked)

-- its newest answer was a page that is no batch, or a bulk that was not clean
pub record HasEnded (asked : List Asked) : Type 0 where
  pub some : 1 ≤ length asked
  pub last : Reply
  pub answered : newest_answer asked ≡ Some last
  pub ended : (if is_for_page asked then is_batch last else is_clean last) ≡ false

abbrev pub IsPhaseAt : ReindexAsk → List Asked → List ℕ → Phase → Type 0
IsPhaseAt ask asked came First = asked ≡ []
IsPhaseAt ask asked came (Reads open_ask) = AwaitsPage asked open_ask
IsPhaseAt ask asked came (Holds docs moment) = HasPage asked came docs moment
IsPhaseAt ask asked came (Writes open_ask docs moment) = AwaitsBulk asked came open_ask docs moment
IsPhaseAt ask asked came (Rests until) = HasWritten ask asked came until
IsPhaseAt ask asked came Over = HasEnded asked

-- ---- the state

-- This slice of a reindex of an index with so many shards has made these asks, which were answered at these moments, and is in this state.
pub record IsSliceAt (t : TaskId) (ask : ReindexAsk) (slice shards : ℕ) (asked : List Asked) (came : List ℕ) (s : Slicing) : Type 0 where
  -- what it is asked to do
  pub task_is : s.task ≡ t
  pub shards_are : s.shards ≡ shards
  pub first_is : asks.Search s.first ≡ first_page t ask slice shards
  pub dest_is : s.dest ≡ ask.dest
  pub slices_are : s.slices ≡ ask.slices
  pub rate_is : per_second s.rate ≡ ask.rate
  -- its asks: each has the next number and a moment, and all but the newest are answered
  pub numbered : AreNumbered asked
  pub few : length asked ≤ most_asks
  pub moments : length came ≡ length asked
  pub earlier : are_answered (take (newest asked) asked) ≡ true
  -- what they say
  pub made_is : s.made ≡ length asked
  pub context_is : s.context ≡ option_and_then context_in (answer_at asked 0)
  pub counts_are : s.counts ≡ slice_counts asked
  pub phase_is : IsPhaseAt ask asked came s.phase
