-- The body of a reindex that a JSON value is, or the first fault in it.
use Rattle.std.specs.Prelude.{◌≡◌, ℕ, List, [], ◌∷◌, Bool, true, false, not, ◌&&◌, Option, Some, None, option_map, option_and_then, find, Result, Ok, Err, nat_le, if◌then◌else◌, codes}
use Rattle.serde_json.specs.Data.{Data, null, boolean, number, string, array, object, Members}
use Rattle.serde_json.specs.Find.{get_member, as_str, as_object, as_number, as_u64}
use Rattle.query_parse.specs.declared.fault.QueryError.{QueryError}
use Rattle.query_parse.specs.declared.fault.QueryError.TheVariants.{Bad}
use Rattle.query_parse.specs.declared.fault.QueryError.TheVariants as queries
use Rattle.query_parse.specs.declared.fault.ReindexError.{ReindexError}
use Rattle.query_parse.specs.declared.fault.ReindexError.TheVariants.{UnknownField, BadReindex, BadQuery, Memory}
use Rattle.query_parse.specs.declared.reindex_body.ReindexBody.{ReindexBody}
use Rattle.query_parse.specs.Answers.{◌>>=◌}
use Rattle.query_match.specs.Query.{Query, match_all}
use Rattle.query_match.specs.Values.{same_bytes}
use Rattle.query_parse.specs.Reading.{under, is_one_of, member_keys, query_at}

-- ---- what a reader answers beside the function that it computes

abbrev pub Fails : {Y : Type 0} → ReindexError → Result Y ReindexError → Type 0
Fails Memory read = Unit {0}
Fails (UnknownField f) read = read ≡ Err (UnknownField f)
Fails (BadReindex f) read = read ≡ Err (BadReindex f)
Fails (BadQuery p k) read = read ≡ Err (BadQuery p k)

-- What a reader returned is what reading gives, unless memory ran out.
abbrev pub Gives : {X Y : Type 0} → (X → Y) → Result X ReindexError → Result Y ReindexError → Type 0
Gives view (Ok x) read = read ≡ Ok (view x)
Gives view (Err e) read = Fails e read

-- the error of a wrong field, unless memory ran out
abbrev pub IsBad : ReindexError → List ℕ → Type 0
IsBad Memory path = Unit {0}
IsBad (UnknownField f) path = ⊥
IsBad (BadReindex f) path = f ≡ path
IsBad (BadQuery p k) path = ⊥

abbrev pub needs : {A : Type 0} → List ℕ → Option A → Result A ReindexError
needs path (Some x) = Ok x
needs path None = Err (BadReindex path)

abbrev pub expects : List ℕ → Bool → Result (Unit {0}) ReindexError
expects path true = Ok tt
expects path false = Err (BadReindex path)

-- ---- unknown fields

-- the first key that is none of some names
abbrev pub first_unknown : List (List ℕ) → Members → Option (List ℕ)
first_unknown known ms = find (λ k. not (is_one_of known k)) (member_keys ms)

-- the first such key of the object at a key, by its path
abbrev pub first_unknown_in : List ℕ → List (List ℕ) → Members → Option (List ℕ)
first_unknown_in part known ms = option_map (under part) (option_and_then (first_unknown known) (option_and_then as_object (get_member part ms)))

abbrev pub body_fields : List (List ℕ)
body_fields = codes "source" ∷ codes "dest" ∷ []

abbrev pub source_fields : List (List ℕ)
source_fields = codes "index" ∷ codes "query" ∷ codes "size" ∷ []

abbrev pub dest_fields : List (List ℕ)
dest_fields = codes "index" ∷ codes "op_type" ∷ []

abbrev pub refuses : Option (List ℕ) → Result (Unit {0}) ReindexError
refuses None = Ok tt
refuses (Some path) = Err (UnknownField path)

-- no unknown field stands in the body, then in `source`, then in `dest`
unfoldable pub fields_at : Members → Result (Unit {0}) ReindexError
fields_at ms = do
  _ ← refuses (first_unknown body_fields ms)
  _ ← refuses (first_unknown_in (codes "source") source_fields ms)
  refuses (first_unknown_in (codes "dest") dest_fields ms)

-- ---- where documents are read, and where they are written

-- the object at `source`, and its index
unfoldable pub source_at : Members → Result (Members × List ℕ) ReindexError
source_at ms = do
  part ← needs (codes "source") (option_and_then as_object (get_member (codes "source") ms))
  index ← needs (codes "source.index") (option_and_then as_str (get_member (codes "index") part))
  Ok (part, index)

-- a document replaces another of its id, which `index` says and is the default
abbrev pub is_op_type : Option Data → Bool
is_op_type None = true
is_op_type (Some (string s)) = same_bytes s (codes "index")
is_op_type (Some _) = false

-- the index at `dest`, another one than the source's
unfoldable pub dest_at : List ℕ → Members → Result (List ℕ) ReindexError
dest_at source ms = do
  part ← needs (codes "dest") (option_and_then as_object (get_member (codes "dest") ms))
  index ← needs (codes "dest.index") (option_and_then as_str (get_member (codes "index") part))
  _ ← expects (codes "dest.index") (not (same_bytes index source))
  _ ← expects (codes "dest.op_type") (is_op_type (get_member (codes "op_type") part))
  Ok index

-- ---- what is read, and how much of it at a time

abbrev pub reindex_error : QueryError → ReindexError
reindex_error (Bad p k) = BadQuery p k
reindex_error queries.Memory = Memory

abbrev pub as_reindex_fault : {A : Type 0} → Result A QueryError → Result A ReindexError
as_reindex_fault (Ok x) = Ok x
as_reindex_fault (Err e) = Err (reindex_error e)

-- all documents where no query is given
unfoldable pub query_of : Option Data → Result Query ReindexError
query_of None = Ok match_all
query_of (Some d) = as_reindex_fault (query_at (codes "query") d)

-- a whole number from 1 to 10,000, and 1,000 where none is given
abbrev pub batch_of : Option Data → Option ℕ
batch_of None = Some 1000
batch_of (Some d) = option_and_then (λ n. if nat_le 1 n && nat_le n 10000 then Some n else None) (option_and_then as_u64 (as_number d))

-- the query and the batch at `source`
unfoldable pub reading_at : Members → Result (Query × ℕ) ReindexError
reading_at source = do
  query ← query_of (get_member (codes "query") source)
  batch ← needs (codes "source.size") (batch_of (get_member (codes "size") source))
  Ok (query, batch)

-- ---- the body

abbrev pub reindex_of : List ℕ → List ℕ → Query × ℕ → ReindexBody
reindex_of source dest read = record { source = source; query = read.0; batch = read.1; dest = dest }

unfoldable pub known_reindex_at : Members → Result ReindexBody ReindexError
known_reindex_at ms = do
  source ← source_at ms
  dest ← dest_at source.1 ms
  read ← reading_at source.0
  Ok (reindex_of source.1 dest read)

-- What is no object has the wrong shape at the path of the body itself, which is empty.
abbrev pub reindex_at : Data → Result ReindexBody ReindexError
reindex_at (object ms) = fields_at ms >>= λ _. known_reindex_at ms
reindex_at null = Err (BadReindex [])
reindex_at (boolean b) = Err (BadReindex [])
reindex_at (number n) = Err (BadReindex [])
reindex_at (string s) = Err (BadReindex [])
reindex_at (array ds) = Err (BadReindex [])
