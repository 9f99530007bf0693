-- How the logic stores a query: as a tree of numbers.
use Rattle.std.specs.Prelude.{◌≡◌, ℕ, zero, suc, pos, negsuc, List, [], ◌∷◌, true, false, Option, None, Some, refl}
use Rattle.std.specs.Coded.{Coded, code_by}
use Rattle.std.proofs.Common.{ap}
use base.Stored.{Gv, gnil, gnum, gcons, num}
use denote.Struct.Codes.{itself}
use Rattle.query_match.specs.declared.scalar.Scalar.{Scalar}
use Rattle.query_match.specs.declared.scalar.Scalar.TheVariants.{Whole, Text, Bool as Truth}
use Rattle.query_match.specs.declared.query.Test.{Test}
use Rattle.query_match.specs.declared.query.Test.TheVariants.{Equals, OneOf, Within, Starts, Exists}
use Rattle.query_match.specs.declared.query.Range.{Range}
use Rattle.query_match.specs.Query.{Query, match_all, match_none, field, ids, bool, Queries, no_queries, query}

abbrev put_bytes : List ℕ → Gv
put_bytes [] = gnil
put_bytes (n ∷ ns) = gcons (gnum n) (put_bytes ns)

abbrev get_bytes : Gv → List ℕ
get_bytes gnil = []
get_bytes (gnum n) = []
get_bytes (gcons a b) = num a ∷ get_bytes b

pub bytes_back : (s : List ℕ) → get_bytes (put_bytes s) ≡ s
bytes_back [] = refl
bytes_back (n ∷ ns) = ap (λ (t : List ℕ). n ∷ t) (bytes_back ns)

abbrev put_texts : List (List ℕ) → Gv
put_texts [] = gnil
put_texts (s ∷ ss) = gcons (put_bytes s) (put_texts ss)

abbrev get_texts : Gv → List (List ℕ)
get_texts gnil = []
get_texts (gnum n) = []
get_texts (gcons a b) = get_bytes a ∷ get_texts b

pub texts_back : (ss : List (List ℕ)) → get_texts (put_texts ss) ≡ ss
texts_back [] = refl
texts_back (s ∷ ss) = λ i. bytes_back s i ∷ texts_back ss i

-- the tag of a case, and what it holds
abbrev put_scalar : Scalar → Gv
put_scalar (Whole (pos n)) = gcons (gnum 0) (gnum n)
put_scalar (Whole (negsuc n)) = gcons (gnum 1) (gnum n)
put_scalar (Text s) = gcons (gnum 2) (put_bytes s)
put_scalar (Truth true) = gcons (gnum 3) gnil
put_scalar (Truth false) = gnil

abbrev scalar_by : ℕ → Gv → Scalar
scalar_by zero g = Whole (pos (num g))
scalar_by (suc zero) g = Whole (negsuc (num g))
scalar_by (suc (suc zero)) g = Text (get_bytes g)
scalar_by (suc (suc (suc n))) g = Truth true

abbrev get_scalar : Gv → Scalar
get_scalar gnil = Truth false
get_scalar (gnum n) = Truth false
get_scalar (gcons a b) = scalar_by (num a) b

pub scalar_back : (x : Scalar) → get_scalar (put_scalar x) ≡ x
scalar_back (Whole (pos n)) = refl
scalar_back (Whole (negsuc n)) = refl
scalar_back (Text s) = ap Text (bytes_back s)
scalar_back (Truth true) = refl
scalar_back (Truth false) = refl

abbrev put_scalars : List Scalar → Gv
put_scalars [] = gnil
put_scalars (x ∷ xs) = gcons (put_scalar x) (put_scalars xs)

abbrev get_scalars : Gv → List Scalar
get_scalars gnil = []
get_scalars (gnum n) = []
get_scalars (gcons a b) = get_scalar a ∷ get_scalars b

pub scalars_back : (xs : List Scalar) → get_scalars (put_scalars xs) ≡ xs
scalars_back [] = refl
scalars_back (x ∷ xs) = λ i. scalar_back x i ∷ scalars_back xs i

abbrev put_bound : Option Scalar → Gv
put_bound None = gnil
put_bound (Some x) = gcons (put_scalar x) gnil

abbrev get_bound : Gv → Option Scalar
get_bound gnil = None
get_bound (gnum n) = None
get_bound (gcons a b) = Some (get_scalar a)

pub bound_back : (o : Option Scalar) → get_bound (put_bound o) ≡ o
bound_back None = refl
bound_back (Some x) = ap Some (scalar_back x)

abbrev first : Gv → Gv
first gnil = gnil
first (gnum n) = gnil
first (gcons a b) = a

abbrev rest : Gv → Gv
rest gnil = gnil
rest (gnum n) = gnil
rest (gcons a b) = b

abbrev put_range : Range → Gv
put_range r = gcons (put_bound r.above) (gcons (put_bound r.from) (gcons (put_bound r.below) (put_bound r.to)))

abbrev get_range : Gv → Range
get_range g = record { above = get_bound (first g); from = get_bound (first (rest g)); below = get_bound (first (rest (rest g))); to = get_bound (rest (rest (rest g))) }

pub range_back : (r : Range) → get_range (put_range r) ≡ r
range_back r = λ i. record { above = bound_back r.above i; from = bound_back r.from i; below = bound_back r.below i; to = bound_back r.to i }

abbrev put_test : Test → Gv
put_test (Equals x) = gcons (gnum 0) (put_scalar x)
put_test (OneOf xs) = gcons (gnum 1) (put_scalars xs)
put_test (Within r) = gcons (gnum 2) (put_range r)
put_test (Starts s) = gcons (gnum 3) (put_bytes s)
put_test Exists = gnil

abbrev test_by : ℕ → Gv → Test
test_by zero g = Equals (get_scalar g)
test_by (suc zero) g = OneOf (get_scalars g)
test_by (suc (suc zero)) g = Within (get_range g)
test_by (suc (suc (suc n))) g = Starts (get_bytes g)

abbrev get_test : Gv → Test
get_test gnil = Exists
get_test (gnum n) = Exists
get_test (gcons a b) = test_by (num a) b

pub test_back : (t : Test) → get_test (put_test t) ≡ t
test_back (Equals x) = ap Equals (scalar_back x)
test_back (OneOf xs) = ap OneOf (scalars_back xs)
test_back (Within r) = ap Within (range_back r)
test_back (Starts s) = ap Starts (bytes_back s)
test_back Exists = refl

abbrev mutual
  put_query : Query → Gv
  put_query match_all = gnil
  put_query match_none = gnum 0
  put_query (field f t) = gcons gnil (gcons (put_bytes f) (put_test t))
  put_query (ids ss) = gcons (gnum 0) (put_texts ss)
  put_query (bool a b c d n) = gcons (gcons (put_queries a) (put_queries b)) (gcons (gcons (put_queries c) (put_queries d)) (gnum n))

  put_queries : Queries → Gv
  put_queries no_queries = gnil
  put_queries (query q qs) = gcons (put_query q) (put_queries qs)

abbrev mutual
  get_query : Gv → Query
  get_query gnil = match_all
  get_query (gnum n) = match_none
  get_query (gcons gnil g) = field (get_bytes (first g)) (get_test (rest g))
  get_query (gcons (gnum n) g) = ids (get_texts g)
  get_query (gcons (gcons a b) (gcons (gcons c d) e)) = bool (get_queries a) (get_queries b) (get_queries c) (get_queries d) (num e)
  get_query (gcons (gcons a b) _) = match_all

  get_queries : Gv → Queries
  get_queries gnil = no_queries
  get_queries (gnum n) = no_queries
  get_queries (gcons q qs) = query (get_query q) (get_queries qs)

mutual
  pub query_back : (q : Query) → get_query (put_query q) ≡ q
  query_back match_all = refl
  query_back match_none = refl
  query_back (field f t) = λ i. field (bytes_back f i) (test_back t i)
  query_back (ids ss) = ap ids (texts_back ss)
  query_back (bool a b c d n) = λ i. bool (queries_back a i) (queries_back b i) (queries_back c i) (queries_back d i) n

  pub queries_back : (qs : Queries) → get_queries (put_queries qs) ≡ qs
  queries_back no_queries = refl
  queries_back (query q qs) = λ i. query (query_back q i) (queries_back qs i)

abbrev pub query_code : Coded Query
query_code = code_by Gv itself put_query get_query query_back
