-- What each kind of task shows of its work where that is as far as the past says: it stays so after each step, and ends with a good reply.
-- SearchLaws, PageLaws, QueryLaws and FetchLaws show it, and AllKinds for any kind.
use Rattle.std.proofs.Common.{◌≡◌, ◌⊎◌, ◌<◌, ℕ, ◌+◌, ◌*◌, true, false, List, [], ◌∷◌, ◌++◌, length, map, get_or, Option, Some, None, sym, ap, ◌∙◌}
use Rattle.std.specs.Prelude.{is_some, option_map, option_and_then, slice_get, slice_set, count_by, not}
use Rattle.std.specs.List.{AllByRecursion}
use Rattle.std.specs.Option.{option_map_or, option_or}
use Rattle.task_ids.specs.declared.task_id.TaskId.{TaskId}
use Rattle.task_ids.specs.declared.cluster.Cluster.{Cluster}
use Rattle.task_ids.specs.declared.corpus.Corpus.{Corpus}
use Rattle.task_ids.specs.declared.doc.Doc.{Doc}
use Rattle.task_events.specs.declared.request.Request.{Request}
use Rattle.task_events.specs.declared.request.Request.TheVariants as wants
use Rattle.task_events.specs.declared.request.SearchAsk.{SearchAsk}
use Rattle.task_events.specs.declared.request.WriteNote.{WriteNote}
use Rattle.task_events.specs.declared.reply.Reply.{Reply}
use Rattle.task_events.specs.declared.reply.Reply.TheVariants.{Search}
use Rattle.task_events.specs.declared.reply.SearchReply.{SearchReply}
use Rattle.task_events.specs.declared.step.Asked.{Asked}
use Rattle.task_events.specs.declared.step.Do.TheVariants.{AskNext, Turn, Finish}
use Rattle.task_ids.specs.Placing.{shard_of}
use Rattle.task_events.specs.Allowed.{cancellation_in, is_rejection}
use Rattle.task_events.specs.Looking.{rows_per_turn}
use Rattle.task_events.specs.Kind.{Progress}
use Rattle.task_events.specs.Counting.{are_below}
use Rattle.task_events.specs.Kinds.{kind_of}
use Rattle.task_events.specs.SliceTask.{most_asks}
use Rattle.task_events.specs.Steps.{with_answer}
use Rattle.task_events.specs.Tasks.{no_counts}
use Rattle.task_events.specs.Written.{docs_of, docs_of_turn}
use Rattle.corpus_shards.specs.Placed.{AreFew}
use Rattle.task_work.specs.declared.work.Work.{Work}
use Rattle.task_work.specs.Plans.{IsWorkAt, progress_with_turn}
use Rattle.task_work.proofs.Plans.{work_plans, work_counted, work_on}
use Rattle.task_work.specs.Works.{IsWorkOn, next_of, with_turn, can_ask, work_with_ask, work_takes, work_with_answer, work_notes, docs_next, counts_of, place_of, does_wait, due_in}
use Rattle.world_moves.specs.Facts.{none_awaited}
use Rattle.world_moves.specs.Good.{IsGoodReply, IsWithin, Grows, own_writes}
use Rattle.world_moves.specs.Owning.{IsOwnSearch}
use Rattle.world_moves.specs.Ties.{WorksFor}
use Rattle.world_moves.proofs.SearchParts.{IsPart}

-- the reply is neither cancelled nor a rejection
abbrev pub IsPlain : Reply → Type 0
IsPlain reply = (cancellation_in reply ≡ None) × (is_rejection reply ≡ false)

-- the end of a request says what its shard's writes say
abbrev pub IsGoodEnd : Cluster → Corpus → Option Request → Reply → Type 0
IsGoodEnd cluster corpus None end = Unit {0}
IsGoodEnd cluster corpus (Some r) end = IsGoodReply cluster corpus r end

-- its work has come exactly so far, for what it was asked to do
abbrev pub IsAt : Cluster → Corpus → TaskId → Progress → Option Request → Work → Type 0
IsAt cluster corpus t p None w = ⊥
IsAt cluster corpus t p (Some r) w = IsWorkAt t r cluster.shards p (own_writes cluster corpus (Some r)) w

-- A search of its own was answered with hits, and named its context.
pub record HasOpened (t : TaskId) (asked : List Asked) (requests : List Request) (id : TaskId) : Type 0 where
  pub place : ℕ
  pub ask : SearchAsk
  pub found : SearchReply
  pub requested : slice_get requests place ≡ Some (wants.Search ask)
  pub own : ask.owner ≡ Some t
  pub answered : slice_get asked place ≡ Some (record { ask = place + 1; answer = Some (Search found) })
  pub named : found.context ≡ Some id

-- it asks for a context of its own, or once nothing is awaited for a page of one
abbrev pub AsksOwn : TaskId → List Asked → List Request → List (Option ℕ) → Request → Type 0
AsksOwn t asked requests awaited (wants.Search ask) = IsOwnSearch t ask
AsksOwn t asked requests awaited (wants.Scroll ask) = (ask.owner ≡ Some t) × (ask.keep ≡ None) × (none_awaited awaited ≡ true) × HasOpened t asked requests ask.id
AsksOwn t asked requests awaited _ = Unit {0}

-- a query and a fetch have no context
pub part_owns : (t : TaskId) (asked : List Asked) (requests : List Request) (awaited : List (Option ℕ)) (r : Request) → IsPart r → AsksOwn t asked requests awaited r
part_owns t asked requests awaited (wants.Query ask) part = tt
part_owns t asked requests awaited (wants.Fetch ask) part = tt
part_owns t asked requests awaited (wants.BulkShard ask) part = tt
part_owns t asked requests awaited (wants.Search ask) part = absurd (let f : false ≡ true = part in cc)
part_owns t asked requests awaited (wants.Scroll ask) part = absurd (let f : false ≡ true = part in cc)
part_owns t asked requests awaited (wants.Reindex ask) part = absurd (let f : false ≡ true = part in cc)
part_owns t asked requests awaited (wants.Slice ask) part = absurd (let f : false ≡ true = part in cc)
part_owns t asked requests awaited (wants.Bulk ask) part = absurd (let f : false ≡ true = part in cc)

-- the work of a task that has passed
module _ (cluster : Cluster) (corpus : Corpus) (t : TaskId) (p : Progress) (requests : List Request) (awaited : List (Option ℕ)) (o : Option Request) (w : Work) where
  -- it asks for this
  pub record Asks (request : Request) : Type 0 where
    pub few : length awaited + 1 < 4294967296
    pub may : can_ask w (length awaited + 1) ≡ true
    pub after : (n : ℕ) → WorksFor cluster corpus t false (record p { asked = p.asked ++ record { ask = length awaited + 1; answer = None } ∷ []; came = p.came ++ 0 ∷ [] }) (requests ++ request ∷ []) (awaited ++ Some n ∷ []) o (work_with_ask w (length awaited + 1))
    pub within : IsWithin cluster corpus request
    pub owns : AsksOwn t p.asked requests awaited request

  -- it takes this answer to an ask, counted from 0, at this moment
  pub record Takes (i : ℕ) (reply : Reply) (now : ℕ) : Type 0 where
    pub takes : work_takes w (1 + i) reply ≡ true
    pub after : (answer : Option Reply) → answer ≡ Some reply → WorksFor cluster corpus t false (record p { asked = map (with_answer (1 + i) answer) p.asked; came = slice_set p.came i now }) requests (slice_set awaited i None) o (work_with_answer w (1 + i) reply now)

  pub record KindLaws : Type 0 where
    -- it has come as far as the past says
    pub at : IsAt cluster corpus t p o w
    -- what it has counted is low enough for its kind
    pub low : option_map_or (λ r. are_below (kind_of r).limit (counts_of w)) o true ≡ true
    -- it looks at its shard, and writes its documents there
    pub place : place_of w ≡ option_and_then (λ r. (kind_of r).place) o
    pub docs : docs_next w ≡ docs_of_turn (docs_of o) p.turns
    -- all turns before one that writes were full
    pub full : (docs_next w ≡ []) ⊎ (p.created + p.updated ≡ p.turns * rows_per_turn)
    -- what it writes lies in its shard
    pub in_shard : (place : List ℕ × ℕ) → place_of w ≡ Some place → AllByRecursion (λ doc. shard_of doc.id cluster.shards ≡ place.1) (docs_next w)
    -- a turn is one over a shard
    pub turns_there : (writes : List Doc) (now : ℕ) → next_of w writes now ≡ Turn → is_some (place_of w) ≡ true
    -- it stays as the past says after a turn, an ask and an answer
    pub turned : (now : ℕ) (later : Corpus) → next_of w (own_writes cluster corpus o) now ≡ Turn → Grows cluster corpus later → own_writes cluster later o ≡ own_writes cluster corpus o ++ docs_next w
        → WorksFor cluster later t false (progress_with_turn p (own_writes cluster corpus o) (work_notes w (own_writes cluster corpus o))) requests awaited o (with_turn w (own_writes cluster corpus o))
    pub asks : (request : Request) (now : ℕ) → ((writes : List Doc) → IsWorkOn w writes → next_of w writes now ≡ AskNext request) → Asks request
    pub takes_answer : (i : ℕ) (r : Request) (reply : Reply) (now : ℕ) → slice_get requests i ≡ Some r → is_some (get_or awaited i None) ≡ true → IsGoodReply cluster corpus r reply → Takes i reply now
    -- where all its asks are answered, and they are not too many, it waits for a moment at most
    pub moves : length p.asked < most_asks → (writes : List Doc) (now : ℕ) → none_awaited awaited ≡ true → does_wait (next_of w writes now) ≡ is_some (due_in (next_of w writes now))
    -- at its end all its asks are answered, and the reply is its own
    pub none_left : (writes : List Doc) (now : ℕ) (end : Reply) → next_of w writes now ≡ Finish end → none_awaited awaited ≡ true
    pub plain : (writes : List Doc) (now : ℕ) (end : Reply) → next_of w writes now ≡ Finish end → IsPlain end
    pub ends_well : AreFew corpus.lines cluster.shards → (now : ℕ) (end : Reply) → next_of w (own_writes cluster corpus o) now ≡ Finish end → IsGoodEnd cluster corpus o end

-- where nothing is asked no answer is awaited
pub asks_something : (awaited : List (Option ℕ)) (i : ℕ) → is_some (get_or awaited i None) ≡ true → awaited ≡ [] → ⊥
asks_something awaited i unanswered e = let f : false ≡ true = sym (ap (λ xs. is_some (get_or xs i None)) e) ∙ unanswered in cc

-- so it does and counts what the plan says, over the writes of its shard
module _ {cluster : Cluster} {corpus : Corpus} {t : TaskId} {p : Progress} {requests : List Request} {awaited : List (Option ℕ)} {o : Option Request} {w : Work} (laws : KindLaws cluster corpus t p requests awaited o w) where
  pub follows : (now : ℕ) → option_map (λ r. (kind_of r).step cluster corpus t p now) o ≡ Some (next_of w (own_writes cluster corpus o) now)
  follows now = of_request o laws.at
    where
      of_request : (o : Option Request) → IsAt cluster corpus t p o w → option_map (λ r. (kind_of r).step cluster corpus t p now) o ≡ Some (next_of w (own_writes cluster corpus o) now)
      of_request None at = absurd at
      of_request (Some r) at = ap Some (work_plans cluster corpus t r p now w at)

  pub has_counted : option_map_or (λ r. (kind_of r).counts p) o no_counts ≡ counts_of w
  has_counted = of_request o laws.at
    where
      of_request : (o : Option Request) → IsAt cluster corpus t p o w → option_map_or (λ r. (kind_of r).counts p) o no_counts ≡ counts_of w
      of_request None at = absurd at
      of_request (Some r) at = work_counted t cluster.shards r p _ w at

  pub is_on : IsWorkOn w (own_writes cluster corpus o)
  is_on = of_request o laws.at
    where
      of_request : (o : Option Request) → IsAt cluster corpus t p o w → IsWorkOn w (own_writes cluster corpus o)
      of_request None at = absurd at
      of_request (Some r) at = work_on t cluster.shards r p _ w at
