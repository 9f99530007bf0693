-- The body of a search that a JSON value is, or the first fault in it.
use Rattle.std.specs.Prelude.{◌≡◌, ℕ, ◌+◌, ◌^◌, List, [], ◌∷◌, Bool, true, false, not, ◌||◌, ◌==◌, Option, Some, None, option_and_then, find, Result, Ok, Err, nat_lt, nat_le, if◌then◌else◌, codes}
use Rattle.std.specs.Option.{option_map_or}
use Rattle.serde_json.specs.Data.{Data, null, boolean, number, string, array, object, Items, no_items, item, Members}
use Rattle.serde_json.specs.Events.{items_len}
use Rattle.serde_json.specs.Find.{get_member, as_str, as_number, as_u64}
use Rattle.query_parse.specs.declared.fault.QueryFault.TheVariants.{BadValue}
use Rattle.query_parse.specs.declared.fault.QueryError.{QueryError}
use Rattle.query_parse.specs.declared.fault.QueryError.TheVariants.{Bad}
use Rattle.query_parse.specs.declared.fault.QueryError.TheVariants as queries
use Rattle.query_parse.specs.declared.fault.BodyError.{BodyError}
use Rattle.query_parse.specs.declared.fault.BodyError.TheVariants.{UnknownField, BadQuery, BadSort, BadSize, WindowTooLarge, Memory}
use Rattle.query_match.specs.declared.body.SearchBody.{SearchBody}
use Rattle.query_match.specs.declared.sort.SortBy.{SortBy}
use Rattle.query_parse.specs.Answers.{◌>>=◌}
use Rattle.query_match.specs.Query.{Query, match_all}
use Rattle.query_parse.specs.Reading.{is_one_of, member_keys, only_member, only_named, query_at}
use Rattle.query_match.specs.Values.{same_bytes}

-- ---- what a reader answers beside the function that it computes

abbrev pub Fails : {Y : Type 0} → BodyError → Result Y BodyError → Type 0
Fails Memory read = Unit {0}
Fails (UnknownField f) read = read ≡ Err (UnknownField f)
Fails (BadQuery p k) read = read ≡ Err (BadQuery p k)
Fails (BadSort f) read = read ≡ Err (BadSort f)
Fails (BadSize f) read = read ≡ Err (BadSize f)
Fails (WindowTooLarge n) read = read ≡ Err (WindowTooLarge n)

-- What a reader returned is what reading gives, unless memory ran out.
abbrev pub Gives : {X Y : Type 0} → (X → Y) → Result X BodyError → Result Y BodyError → Type 0
Gives view (Ok x) read = read ≡ Ok (view x)
Gives view (Err e) read = Fails e read

-- ---- sorts

abbrev pub direction_named : List ℕ → Option Bool
direction_named t = if same_bytes t (codes "asc") then Some false else (if same_bytes t (codes "desc") then Some true else None)

-- whether it descends, for "asc", "desc" or one of them at the key `order` alone
abbrev pub direction_of : Data → Option Bool
direction_of d = option_and_then direction_named (option_map_or as_str (only_named (codes "order") d) (as_str d))

-- the field that an entry names, and its direction, if that is one
abbrev pub named_entry : Data → Option (List ℕ × Option Bool)
named_entry (string f) = Some (f, Some false)
named_entry (object ms) = option_and_then (λ m. Some (m.0, direction_of m.1)) (only_member (object ms))
named_entry null = None
named_entry (boolean b) = None
named_entry (number n) = None
named_entry (array ds) = None

abbrev pub entry_from : Option (List ℕ × Option Bool) → Result SortBy BodyError
entry_from None = Err (BadSort (codes "sort"))
entry_from (Some (f, None)) = Err (BadSort f)
entry_from (Some (f, Some descending)) = if same_bytes f (codes "_score") then Err (BadSort f) else Ok (record { field = f; descending = descending })

abbrev pub entry_of : Data → Result SortBy BodyError
entry_of d = entry_from (named_entry d)

abbrev pub entries_of : Items → Result (List SortBy) BodyError
entries_of no_items = Ok []
entries_of (item d ds) = entry_of d >>= λ e. entries_of ds >>= λ es. Ok (e ∷ es)

abbrev pub listed_entries : Items → Result (List SortBy) BodyError
listed_entries ds = if nat_le (items_len ds) 8 then entries_of ds else Err (BadSort (codes "sort"))

-- one entry, or a list of at most 8
abbrev pub all_entries : Data → Result (List SortBy) BodyError
all_entries (array ds) = listed_entries ds
all_entries null = entry_of null >>= λ e. Ok (e ∷ [])
all_entries (boolean b) = entry_of (boolean b) >>= λ e. Ok (e ∷ [])
all_entries (number n) = entry_of (number n) >>= λ e. Ok (e ∷ [])
all_entries (string s) = entry_of (string s) >>= λ e. Ok (e ∷ [])
all_entries (object ms) = entry_of (object ms) >>= λ e. Ok (e ∷ [])

abbrev pub is_doc_alone : List SortBy → Bool
is_doc_alone [] = false
is_doc_alone (e ∷ []) = same_bytes e.field (codes "_doc")
is_doc_alone (e ∷ f ∷ es) = false

-- `_doc` alone is no sort
abbrev pub without_doc : List SortBy → List SortBy
without_doc es = if is_doc_alone es then [] else es

unfoldable pub sort_of : Option Data → Result (List SortBy) BodyError
sort_of None = Ok []
sort_of (Some d) = all_entries d >>= λ es. Ok (without_doc es)

-- ---- numbers

-- a whole number from 0 to 2^32-1
abbrev pub count_of : Data → Option ℕ
count_of d = option_and_then (λ n. if nat_lt n (2 ^ 32) then Some n else None) (option_and_then as_u64 (as_number d))

abbrev pub count_or : ℕ → Option Data → Option ℕ
count_or default None = Some default
count_or default (Some d) = count_of d

-- a number that passes the test
abbrev pub size_passing : List ℕ → (ℕ → Bool) → Option ℕ → Result ℕ BodyError
size_passing name test None = Err (BadSize name)
size_passing name test (Some n) = if test n then Ok n else Err (BadSize name)

unfoldable pub from_of : Bool → Option Data → Result ℕ BodyError
from_of zero d = size_passing (codes "from") (λ n. not zero || n == 0) (count_or 0 d)

unfoldable pub size_of : ℕ → Option Data → Result ℕ BodyError
size_of least d = size_passing (codes "size") (λ n. nat_le least n) (count_or 10 d)

-- ---- the body

abbrev pub is_body_field : List ℕ → Bool
is_body_field = is_one_of (codes "query" ∷ codes "sort" ∷ codes "from" ∷ codes "size" ∷ codes "track_total_hits" ∷ [])

-- the first key that no body has
abbrev pub unknown_field : Members → Option (List ℕ)
unknown_field ms = find (λ k. not (is_body_field k)) (member_keys ms)

abbrev pub body_error : QueryError → BodyError
body_error (Bad p k) = BadQuery p k
body_error queries.Memory = Memory

abbrev pub as_body_fault : {A : Type 0} → Result A QueryError → Result A BodyError
as_body_fault (Ok x) = Ok x
as_body_fault (Err e) = Err (body_error e)

unfoldable pub query_of : Option Data → Result Query BodyError
query_of None = Ok match_all
query_of (Some d) = as_body_fault (query_at (codes "query") d)

-- how many hits are passed over and how many are shown, 10,000 together at most
unfoldable pub window_at : Bool → ℕ → Members → Result (ℕ × ℕ) BodyError
window_at zero least ms = do
  from ← from_of zero (get_member (codes "from") ms)
  size ← size_of least (get_member (codes "size") ms)
  if nat_le (from + size) 10000 then Ok (from, size) else Err (WindowTooLarge (from + size))

-- the sort of the hits, and their window
unfoldable pub hits_at : Bool → ℕ → Members → Result (List SortBy × (ℕ × ℕ)) BodyError
hits_at zero least ms = do
  sort ← sort_of (get_member (codes "sort") ms)
  window ← window_at zero least ms
  Ok (sort, window)

abbrev pub body_of : Query → List SortBy × (ℕ × ℕ) → SearchBody
body_of query hits = record { query = query; sort = hits.0; from = hits.1.0; size = hits.1.1 }

unfoldable pub known_body_at : Bool → ℕ → Members → Result SearchBody BodyError
known_body_at zero least ms = do
  query ← query_of (get_member (codes "query") ms)
  hits ← hits_at zero least ms
  Ok (body_of query hits)

abbrev pub body_unless : Option (List ℕ) → Result SearchBody BodyError → Result SearchBody BodyError
body_unless None read = read
body_unless (Some f) read = Err (UnknownField f)

-- What is no object has the wrong shape at the path of the body itself, which is empty.
abbrev pub body_at : Bool → ℕ → Data → Result SearchBody BodyError
body_at zero least (object ms) = body_unless (unknown_field ms) (known_body_at zero least ms)
body_at zero least null = Err (BadQuery [] BadValue)
body_at zero least (boolean b) = Err (BadQuery [] BadValue)
body_at zero least (number n) = Err (BadQuery [] BadValue)
body_at zero least (string s) = Err (BadQuery [] BadValue)
body_at zero least (array ds) = Err (BadQuery [] BadValue)
