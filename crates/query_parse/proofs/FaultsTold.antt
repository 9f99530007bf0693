-- A body that cannot be read has a fault that is told: reading a body never says that memory ran out.
use Rattle.std.proofs.Common.{◌≡◌, ◌≢◌, ℕ, ◌+◌, Bool, true, false, List, [], ◌∷◌, Option, Some, None, Result, Ok, Err, subst, codes}
use Rattle.std.specs.Prelude.{◌||◌, ◌==◌, not, nat_le, decimal, if◌then◌else◌}
use Rattle.std.specs.declared.cmp.Ordering.{Ordering}
use Rattle.std.specs.declared.cmp.Ordering.TheVariants.{Less, Equal, Greater}
use Rattle.std.specs.Ordering.{nat_cmp, match_ordering}
use Rattle.std.specs.Cmp.Lexicographic.{slice_cmp}
use Rattle.serde_json.specs.Data.{Data, null, boolean, number, string, array, object, Items, no_items, item, Members, no_members, member}
use Rattle.serde_json.specs.Events.{items_len}
use Rattle.serde_json.specs.Find.{get_member, as_array, as_object, as_str}
use Rattle.query_match.specs.declared.body.SearchBody.{SearchBody}
use Rattle.query_match.specs.Query.{Queries}
use Rattle.query_match.specs.Values.{same_bytes, value_of}
use Rattle.query_parse.specs.Answers.{◌>>=◌}
use Rattle.query_parse.specs.declared.fault.BodyError.{BodyError}
use Rattle.query_parse.specs.declared.fault.BodyError.TheVariants as bodies
use Rattle.query_parse.specs.declared.fault.QueryError.{QueryError}
use Rattle.query_parse.specs.declared.fault.QueryError.TheVariants as queries
use Rattle.query_parse.specs.declared.form.Form.{Form}
use Rattle.query_parse.specs.declared.form.Form.TheVariants as forms
use Rattle.query_parse.specs.declared.leaf.Asked.{Asked}
use Rattle.query_parse.specs.declared.leaf.Asked.TheVariants as asked
use Rattle.query_parse.specs.Bodies as body
use Rattle.query_parse.specs.Reading as reading

-- ---- results with a fault that is told

abbrev IsTold : {A E : Type 0} → (E → Type 0) → Result A E → Type 0
IsTold P (Ok x) = Unit {0}
IsTold P (Err e) = P e

then_told : {A B E : Type 0} (P : E → Type 0) (r : Result A E) (f : A → Result B E) → IsTold P r → ((x : A) → IsTold P (f x)) → IsTold P (r >>= f)
then_told P (Ok x) f told each = each x
then_told P (Err e) f told each = told

either_told : {A E : Type 0} (P : E → Type 0) (b : Bool) (r s : Result A E) → IsTold P r → IsTold P s → IsTold P (if b then r else s)
either_told P true r s a c = a
either_told P false r s a c = c

-- ---- queries

abbrev IsQueryFault : QueryError → Type 0
IsQueryFault (queries.Bad path kind) = Unit {0}
IsQueryFault queries.Memory = ⊥

abbrev Reads : {A : Type 0} → Result A QueryError → Type 0
Reads r = IsTold IsQueryFault r

needs_told : {A : Type 0} (path : List ℕ) (o : Option A) → Reads (reading.needs path o)
needs_told path None = tt
needs_told path (Some x) = tt

expects_told : (path : List ℕ) (b : Bool) → Reads (reading.expects path b)
expects_told path true = tt
expects_told path false = tt

each_told : {A : Type 0} (reads : Data → Option A) (path : List ℕ) (i : ℕ) (ds : Items) → Reads (reading.each_at reads path i ds)
unfolding reading.each_at
each_told reads path i no_items = tt
each_told reads path i (item d ds) = then_told IsQueryFault _ _ (needs_told _ (reads d)) (λ x. then_told IsQueryFault _ _ (each_told reads path (i + 1) ds) (λ xs. tt))

empty_told : (path : List ℕ) (d : Data) → Reads (reading.empty_at path d)
unfolding reading.empty_at
empty_told path (object no_members) = tt
empty_told path (object (member k d ms)) = tt
empty_told path null = tt
empty_told path (boolean b) = tt
empty_told path (number n) = tt
empty_told path (string s) = tt
empty_told path (array ds) = tt

equals_told : (path : List ℕ) (d : Data) → Reads (reading.equals_at path d)
unfolding reading.equals_at
equals_told path d = then_told IsQueryFault _ _ (needs_told (reading.unwrapped path d).0 (value_of (reading.unwrapped path d).1)) (λ v. tt)

one_of_told : (path : List ℕ) (d : Data) → Reads (reading.one_of_at path d)
unfolding reading.one_of_at
one_of_told path d = then_told IsQueryFault _ _ (needs_told path (as_array d)) (λ ds. then_told IsQueryFault _ _ (each_told value_of path 0 ds) (λ vs. tt))

optional_told : {A : Type 0} (reads : Data → Option A) (path : List ℕ) (o : Option Data) → Reads (reading.optional_at reads path o)
optional_told reads path None = tt
optional_told reads path (Some d) = then_told IsQueryFault _ _ (needs_told path (reads d)) (λ x. tt)

bound_told : (path name : List ℕ) (ms : Members) → Reads (reading.bound_at path name ms)
unfolding reading.bound_at
bound_told path name ms = optional_told reading.bound_of _ (get_member name ms)

side_told : (path strict weak : List ℕ) (ms : Members) → Reads (reading.side_at path strict weak ms)
unfolding reading.side_at
side_told path strict weak ms = then_told IsQueryFault _ _ (bound_told path strict ms) (λ first. then_told IsQueryFault _ _ (bound_told path weak ms) (λ second. tt))

bounds_told : (path : List ℕ) (ms : Members) → Reads (reading.bounds_at path ms)
unfolding reading.bounds_at
bounds_told path ms =
    then_told IsQueryFault _ _ (expects_told path _)
    (λ x. then_told IsQueryFault _ _ (side_told path _ _ ms) (λ low. then_told IsQueryFault _ _ (side_told path _ _ ms) (λ high. tt)))

within_told : (path : List ℕ) (d : Data) → Reads (reading.within_at path d)
unfolding reading.within_at
within_told path d = then_told IsQueryFault _ _ (needs_told path (as_object d)) (λ ms. then_told IsQueryFault _ _ (bounds_told path ms) (λ range. tt))

starts_told : (path : List ℕ) (d : Data) → Reads (reading.starts_at path d)
unfolding reading.starts_at
starts_told path d = then_told IsQueryFault _ _ (needs_told (reading.unwrapped path d).0 (as_str (reading.unwrapped path d).1)) (λ front. tt)

test_told : (asks : Asked) (path : List ℕ) (d : Data) → Reads (reading.test_at asks path d)
test_told asked.Equal path d = equals_told path d
test_told asked.OneOf path d = one_of_told path d
test_told asked.Within path d = within_told path d
test_told asked.Start path d = starts_told path d

field_told : (asks : Asked) (path : List ℕ) (d : Data) → Reads (reading.field_at asks path d)
unfolding reading.field_at
field_told asks path d = then_told IsQueryFault _ _ (needs_told path (reading.only_member d)) (λ m. then_told IsQueryFault _ _ (test_told asks (reading.under path m.0) m.1) (λ t. tt))

exists_told : (path : List ℕ) (d : Data) → Reads (reading.exists_at path d)
unfolding reading.exists_at
exists_told path d =
    then_told IsQueryFault _ _ (needs_told path (reading.only_named (codes "field") d)) (λ e. then_told IsQueryFault _ _ (needs_told (reading.under path (codes "field")) (as_str e)) (λ f. tt))

ids_told : (path : List ℕ) (d : Data) → Reads (reading.ids_at path d)
unfolding reading.ids_at
ids_told path d =
    then_told IsQueryFault _ _ (needs_told path (reading.only_named (codes "values") d))
    (λ e. then_told IsQueryFault _ _ (needs_told (reading.under path (codes "values")) (as_array e)) (λ ds. then_told IsQueryFault _ _ (each_told as_str (reading.under path (codes "values")) 0 ds) (λ ts. tt)))

leaf_told : (form : Option Form) (path : List ℕ) (d : Data) → Reads (reading.leaf_at form path d)
leaf_told None path d = tt
leaf_told (Some forms.All) path d = then_told IsQueryFault _ _ (empty_told path d) (λ x. tt)
leaf_told (Some forms.Nothing) path d = then_told IsQueryFault _ _ (empty_told path d) (λ x. tt)
leaf_told (Some forms.Term) path d = field_told asked.Equal path d
leaf_told (Some forms.Terms) path d = field_told asked.OneOf path d
leaf_told (Some forms.Range) path d = field_told asked.Within path d
leaf_told (Some forms.Prefix) path d = field_told asked.Start path d
leaf_told (Some forms.Exists) path d = exists_told path d
leaf_told (Some forms.Ids) path d = ids_told path d
leaf_told (Some forms.Bool) path d = tt

minimum_told : (path : List ℕ) (ms : Members) → Reads (reading.minimum_at path ms)
unfolding reading.minimum_at
minimum_told path ms = optional_told reading.minimum_of (reading.under path (codes "minimum_should_match")) (get_member (codes "minimum_should_match") ms)

bool_told : (path : List ℕ) (ms : Members) (filter must must_not should : Result Queries QueryError) → Reads filter → Reads must → Reads must_not → Reads should → Reads (reading.bool_of path ms filter must must_not should)
unfolding reading.bool_of
bool_told path ms filter must must_not should f m n s =
    then_told IsQueryFault _ _ (expects_told path _)
    (λ x. then_told IsQueryFault _ _ f (λ fs. then_told IsQueryFault _ _ (minimum_told path ms) (λ least. then_told IsQueryFault _ _ m (λ ms. then_told IsQueryFault _ _ n (λ ns. then_told IsQueryFault _ _ s (λ ss. tt))))))

ordered_told : (o : Ordering) (r s u : Result Queries QueryError) → Reads r → Reads s → Reads u → Reads (match_ordering o r s u)
ordered_told Less r s u a b c = a
ordered_told Equal r s u a b c = b
ordered_told Greater r s u a b c = c

mutual
  query_told : (path : List ℕ) (d : Data) → Reads (reading.query_at path d)
  query_told path null = tt
  query_told path (boolean b) = tt
  query_told path (number n) = tt
  query_told path (string s) = tt
  query_told path (array ds) = tt
  query_told path (object ms) = query_in_told path ms

  query_in_told : (path : List ℕ) (ms : Members) → Reads (reading.query_in path ms)
  query_in_told path no_members = tt
  query_in_told path (member k d no_members) = query_of_told (reading.form_named k) (reading.under path k) d
  query_in_told path (member k d (member l e ms)) = tt

  query_of_told : (form : Option Form) (path : List ℕ) (d : Data) → Reads (reading.query_of form path d)
  query_of_told (Some forms.Bool) path (object ms) =
      bool_told path ms _ _ _ _ (clause_in_told path (codes "filter") ms) (clause_in_told path (codes "must") ms) (clause_in_told path (codes "must_not") ms) (clause_in_told path (codes "should") ms)
  query_of_told (Some forms.Bool) path null = tt
  query_of_told (Some forms.Bool) path (boolean b) = tt
  query_of_told (Some forms.Bool) path (number n) = tt
  query_of_told (Some forms.Bool) path (string s) = tt
  query_of_told (Some forms.Bool) path (array ds) = tt
  query_of_told None path d = leaf_told None path d
  query_of_told (Some forms.All) path d = leaf_told (Some forms.All) path d
  query_of_told (Some forms.Nothing) path d = leaf_told (Some forms.Nothing) path d
  query_of_told (Some forms.Term) path d = leaf_told (Some forms.Term) path d
  query_of_told (Some forms.Terms) path d = leaf_told (Some forms.Terms) path d
  query_of_told (Some forms.Range) path d = leaf_told (Some forms.Range) path d
  query_of_told (Some forms.Prefix) path d = leaf_told (Some forms.Prefix) path d
  query_of_told (Some forms.Exists) path d = leaf_told (Some forms.Exists) path d
  query_of_told (Some forms.Ids) path d = leaf_told (Some forms.Ids) path d

  clause_in_told : (path name : List ℕ) (ms : Members) → Reads (reading.clause_in path name ms)
  clause_in_told path name no_members = tt
  clause_in_told path name (member k d ms) = ordered_told (slice_cmp nat_cmp name k) _ _ _ (clause_in_told path name ms) (clause_told (reading.under path name) d) (clause_in_told path name ms)

  clause_told : (path : List ℕ) (d : Data) → Reads (reading.clause_at path d)
  clause_told path null = tt
  clause_told path (boolean b) = tt
  clause_told path (number n) = tt
  clause_told path (string s) = tt
  clause_told path (array ds) = queries_told path 0 ds
  clause_told path (object ms) = then_told IsQueryFault _ _ (query_in_told path ms) (λ q. tt)

  queries_told : (path : List ℕ) (i : ℕ) (ds : Items) → Reads (reading.queries_at path i ds)
  queries_told path i no_items = tt
  queries_told path i (item d ds) = then_told IsQueryFault _ _ (query_told (reading.under path (decimal i)) d) (λ q. then_told IsQueryFault _ _ (queries_told path (i + 1) ds) (λ qs. tt))

-- ---- bodies

abbrev IsFault : BodyError → Type 0
IsFault bodies.Memory = ⊥
IsFault _ = Unit {0}

abbrev IsRead : {A : Type 0} → Result A BodyError → Type 0
IsRead r = IsTold IsFault r

as_body_told : {A : Type 0} (r : Result A QueryError) → Reads r → IsRead (body.as_body_fault r)
as_body_told (Ok x) told = tt
as_body_told (Err (queries.Bad path kind)) told = tt
as_body_told (Err queries.Memory) told = absurd told

body_query_told : (o : Option Data) → IsRead (body.query_of o)
unfolding body.query_of
body_query_told None = tt
body_query_told (Some d) = as_body_told _ (query_told (codes "query") d)

entry_from_told : (o : Option (List ℕ × Option Bool)) → IsRead (body.entry_from o)
entry_from_told None = tt
entry_from_told (Some (f, None)) = tt
entry_from_told (Some (f, Some descending)) = either_told IsFault (same_bytes f (codes "_score")) _ _ tt tt

entries_told : (ds : Items) → IsRead (body.entries_of ds)
entries_told no_items = tt
entries_told (item d ds) = then_told IsFault _ _ (entry_from_told (body.named_entry d)) (λ e. then_told IsFault _ _ (entries_told ds) (λ es. tt))

one_entry : (d : Data) → IsRead (body.entry_of d >>= λ e. Ok (e ∷ []))
one_entry d = then_told IsFault _ _ (entry_from_told (body.named_entry d)) (λ e. tt)

all_entries_told : (d : Data) → IsRead (body.all_entries d)
all_entries_told (array ds) = either_told IsFault (nat_le (items_len ds) 8) _ _ (entries_told ds) tt
all_entries_told null = one_entry null
all_entries_told (boolean b) = one_entry (boolean b)
all_entries_told (number n) = one_entry (number n)
all_entries_told (string s) = one_entry (string s)
all_entries_told (object ms) = one_entry (object ms)

sort_told : (o : Option Data) → IsRead (body.sort_of o)
unfolding body.sort_of
sort_told None = tt
sort_told (Some d) = then_told IsFault _ _ (all_entries_told d) (λ es. tt)

size_passing_told : (name : List ℕ) (test : ℕ → Bool) (o : Option ℕ) → IsRead (body.size_passing name test o)
size_passing_told name test None = tt
size_passing_told name test (Some n) = either_told IsFault (test n) _ _ tt tt

from_told : (zero : Bool) (o : Option Data) → IsRead (body.from_of zero o)
unfolding body.from_of
from_told zero o = size_passing_told (codes "from") (λ n. not zero || n == 0) (body.count_or 0 o)

size_told : (least : ℕ) (o : Option Data) → IsRead (body.size_of least o)
unfolding body.size_of
size_told least o = size_passing_told (codes "size") (nat_le least) (body.count_or 10 o)

window_told : (zero : Bool) (least : ℕ) (ms : Members) → IsRead (body.window_at zero least ms)
unfolding body.window_at
window_told zero least ms = then_told IsFault _ _ (from_told zero _) (λ from. then_told IsFault _ _ (size_told least _) (λ size. either_told IsFault (nat_le (from + size) 10000) _ _ tt tt))

hits_told : (zero : Bool) (least : ℕ) (ms : Members) → IsRead (body.hits_at zero least ms)
unfolding body.hits_at
hits_told zero least ms = then_told IsFault _ _ (sort_told _) (λ sort. then_told IsFault _ _ (window_told zero least ms) (λ window. tt))

known_told : (zero : Bool) (least : ℕ) (ms : Members) → IsRead (body.known_body_at zero least ms)
unfolding body.known_body_at
known_told zero least ms = then_told IsFault _ _ (body_query_told _) (λ query. then_told IsFault _ _ (hits_told zero least ms) (λ hits. tt))

unless_told : (o : Option (List ℕ)) (r : Result SearchBody BodyError) → IsRead r → IsRead (body.body_unless o r)
unless_told None r told = told
unless_told (Some f) r told = tt

body_told : (zero : Bool) (least : ℕ) (d : Data) → IsRead (body.body_at zero least d)
body_told zero least (object ms) = unless_told _ _ (known_told zero least ms)
body_told zero least null = tt
body_told zero least (boolean b) = tt
body_told zero least (number n) = tt
body_told zero least (string s) = tt
body_told zero least (array ds) = tt

no_memory : (fault : BodyError) → IsFault fault → fault ≢ bodies.Memory
no_memory fault told same = absurd (subst IsFault same told)

-- a body that cannot be read has a fault
pub fault_told : (zero : Bool) (least : ℕ) (d : Data) (fault : BodyError) → body.body_at zero least d ≡ Err fault → fault ≢ bodies.Memory
fault_told zero least d fault e = no_memory fault (subst (IsTold IsFault) e (body_told zero least d))
