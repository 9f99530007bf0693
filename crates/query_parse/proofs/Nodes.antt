-- The queries that nodes stand for, and reading them one after the other, as a loop does.
use Rattle.std.proofs.Common.{◌≡◌, ℕ, ◌+◌, ◌<◌, ◌≤◌, List, [], ◌∷◌, ◌++◌, length, drop, get_or, nat_eq, true, Option, Some, None, Result, Ok, Err, Vec, Global, refl, sym, ap, ◌∙◌, Ordering, Less, Equal, Greater, nat_cmp, arith, rules}
use Rattle.std.specs.Prelude.{decimal}
use Rattle.std.specs.List.{list_all}
use Rattle.std.specs.Ordering.{match_ordering}
use Rattle.std.specs.Cmp.Lexicographic.{slice_cmp}
use Rattle.std.proofs.lemmas.List.{drop_all}
use Rattle.std.proofs.lemmas.Bool.Decides.{nat_tests}
use Rattle.serde_json.specs.Data.{Data, item, Members, no_members, member}
use Rattle.serde_json.specs.Find.{get_member}
use Rattle.task_ids.specs.Json.{json_view, json_items}
use Rattle.task_ids.specs.declared.json_value.Json.{Json}
use Rattle.query_parse.specs.declared.fault.QueryFault.TheVariants.{NotOneKey}
use Rattle.query_parse.specs.declared.fault.QueryError.{QueryError}
use Rattle.query_parse.specs.declared.fault.QueryError.TheVariants.{Bad, Memory}
use Rattle.query_match.specs.declared.query.Node.{Node, Bool as Clauses, the_lemmas}
use Rattle.query_parse.specs.Answers.{◌>>=◌, Fails}
use Rattle.query_match.specs.Query.{Query, bool, Queries, no_queries, query}
use Rattle.query_parse.specs.Reading.{under, are_none, form_named, is_clause_name, member_keys, minimum_at, bool_of, only_entry, query_at, query_in, query_of, clause_in, clause_at, queries_at}
use Rattle.query_match.specs.View.{query_view, queries_view}
use Rattle.query_parse.proofs.Each.{drop_here}

pub view-Bool : (must filter should must_not : Vec Node Global) (least : ℕ) → query_view (Clauses must filter should must_not least) ≡ bool (queries_view must.items) (queries_view filter.items) (queries_view should.items) (queries_view must_not.items) least
view-Bool must filter should must_not least = search (rules, the_lemmas)

pub are_none-queries_view : (ns : List Node) → are_none (queries_view ns) ≡ nat_eq (length ns) 0
are_none-queries_view [] = refl
are_none-queries_view (n ∷ ns) = grind (arith, nat_tests)

-- ---- one key, and a key among others

entry_query : List ℕ → Option (List ℕ × Data) → Result Query QueryError
entry_query path None = Err (Bad path NotOneKey)
entry_query path (Some m) = query_of (form_named m.0) (under path m.0) m.1

entry_query-is : (path : List ℕ) (ms : Members) → query_in path ms ≡ entry_query path (only_entry ms)
unfolding entry_query
entry_query-is path no_members = refl
entry_query-is path (member k d no_members) = refl
entry_query-is path (member k d (member l e ms)) = refl

pub query_in-some : (path : List ℕ) (ms : Members) (k : List ℕ) (d : Data) → Some (k, d) ≡ only_entry ms → query_in path ms ≡ query_of (form_named k) (under path k) d
unfolding entry_query
query_in-some path ms k d h = entry_query-is path ms ∙ ap (entry_query path) (sym h)

member_clause : List ℕ → List ℕ → Option Data → Result Queries QueryError
member_clause path name None = Ok no_queries
member_clause path name (Some d) = clause_at (under path name) d

by_ordering : (o : Ordering) (path name : List ℕ) (d : Data) (ms : Members) → clause_in path name ms ≡ member_clause path name (get_member name ms)
    → match_ordering o (clause_in path name ms) (clause_at (under path name) d) (clause_in path name ms) ≡ member_clause path name (match_ordering o (get_member name ms) (Some d) (get_member name ms))
unfolding member_clause
by_ordering Less path name d ms h = h
by_ordering Equal path name d ms h = refl
by_ordering Greater path name d ms h = h

member_clause-is : (path name : List ℕ) (ms : Members) → clause_in path name ms ≡ member_clause path name (get_member name ms)
unfolding member_clause
member_clause-is path name no_members = refl
member_clause-is path name (member k d ms) = by_ordering (slice_cmp nat_cmp name k) path name d ms (member_clause-is path name ms)

pub clause_in-none : (path name : List ℕ) (ms : Members) → None ≡ get_member name ms → clause_in path name ms ≡ Ok no_queries
unfolding member_clause
clause_in-none path name ms h = member_clause-is path name ms ∙ ap (member_clause path name) (sym h)

pub clause_in-some : (path name : List ℕ) (ms : Members) (d : Data) → Some d ≡ get_member name ms → clause_in path name ms ≡ clause_at (under path name) d
unfolding member_clause
clause_in-some path name ms d h = member_clause-is path name ms ∙ ap (member_clause path name) (sym h)

-- ---- the clauses of a `bool`, of which one fails

first_fails : {X Y : Type 0} (e : QueryError) (read : Result X QueryError) (rest : X → Result Y QueryError) → Fails e read → Fails e (read >>= rest)
first_fails Memory read rest h = tt
first_fails (Bad p k) read rest h = ap (λ r. r >>= rest) h

pub fails_at_filter : (e : QueryError) (path : List ℕ) (ms : Members) (filter must must_not should : Result Queries QueryError) → list_all is_clause_name (member_keys ms) ≡ true → Fails e filter → Fails e (bool_of path ms filter must must_not should)
unfolding bool_of
fails_at_filter e path ms filter must must_not should known h = rw known (first_fails e filter _ h)

pub fails_at_minimum : (e : QueryError) (path : List ℕ) (ms : Members) (filter must must_not should : Result Queries QueryError) (fs : Queries) → list_all is_clause_name (member_keys ms) ≡ true → filter ≡ Ok fs → Fails e (minimum_at path ms)
    → Fails e (bool_of path ms filter must must_not should)
unfolding bool_of
fails_at_minimum e path ms filter must must_not should fs known f h = rw (known, f) (first_fails e (minimum_at path ms) _ h)

pub fails_at_must : (e : QueryError) (path : List ℕ) (ms : Members) (filter must must_not should : Result Queries QueryError) (fs : Queries) (least : Option ℕ) → list_all is_clause_name (member_keys ms) ≡ true → filter ≡ Ok fs → minimum_at path ms ≡ Ok least
    → Fails e must → Fails e (bool_of path ms filter must must_not should)
unfolding bool_of
fails_at_must e path ms filter must must_not should fs least known f l h = rw (known, f, l) (first_fails e must _ h)

pub fails_at_must_not : (e : QueryError) (path : List ℕ) (ms : Members) (filter must must_not should : Result Queries QueryError) (fs qs : Queries) (least : Option ℕ) → list_all is_clause_name (member_keys ms) ≡ true → filter ≡ Ok fs → minimum_at path ms ≡ Ok least
    → must ≡ Ok qs → Fails e must_not → Fails e (bool_of path ms filter must must_not should)
unfolding bool_of
fails_at_must_not e path ms filter must must_not should fs qs least known f l m h = rw (known, f, l, m) (first_fails e must_not _ h)

pub fails_at_should : (e : QueryError) (path : List ℕ) (ms : Members) (filter must must_not should : Result Queries QueryError) (fs qs ns : Queries) (least : Option ℕ) → list_all is_clause_name (member_keys ms) ≡ true → filter ≡ Ok fs → minimum_at path ms ≡ Ok least
    → must ≡ Ok qs → must_not ≡ Ok ns → Fails e should → Fails e (bool_of path ms filter must must_not should)
unfolding bool_of
fails_at_should e path ms filter must must_not should fs qs ns least known f l m n h = rw (known, f, l, m, n) (first_fails e should _ h)

-- ---- a list of queries

-- the queries of the nodes, and these after them
abbrev pub before : List Node → Queries → Queries
before [] qs = qs
before (n ∷ ns) qs = query (query_view n) (before ns qs)

pub before-push : (ns : List Node) (n : Node) (qs : Queries) → before (ns ++ n ∷ []) qs ≡ before ns (query (query_view n) qs)
before-push [] n qs = refl
before-push (m ∷ ns) n qs = ap (query (query_view m)) (before-push ns n qs)

pub before-none : (ns : List Node) → before ns no_queries ≡ queries_view ns
before-none [] = refl
before-none (n ∷ ns) = ap (query (query_view n)) (before-none ns)

-- what was read before, and what is still read
abbrev pub with_nodes : List Node → Result Queries QueryError → Result Queries QueryError
with_nodes ns read = read >>= λ qs. Ok (before ns qs)

with_nodes-push : (ns : List Node) (n : Node) (read : Result Queries QueryError) → with_nodes ns (read >>= λ qs. Ok (query (query_view n) qs)) ≡ with_nodes (ns ++ n ∷ []) read
with_nodes-push ns n (Ok qs) = ap Ok (sym (before-push ns n qs))
with_nodes-push ns n (Err e) = refl

at_place : (path : List ℕ) (i : ℕ) (vs : List Json) (v : Json) (ns : List Node) (total : Result Queries QueryError) → i < length vs → v ≡ get_or vs i v
    → with_nodes ns (queries_at path i (json_items (drop i vs))) ≡ total → with_nodes ns (queries_at path i (item (json_view v) (json_items (drop (i + 1) vs)))) ≡ total
at_place path i vs v ns total lt is so_far = ap (λ ws. with_nodes ns (queries_at path i (json_items ws))) (sym (drop_here vs i v lt is)) ∙ so_far

pub goes_on : (path : List ℕ) (i : ℕ) (vs : List Json) (v : Json) (ns : List Node) (n : Node) (place : List ℕ) (total : Result Queries QueryError) → i < length vs → v ≡ get_or vs i v
    → with_nodes ns (queries_at path i (json_items (drop i vs))) ≡ total → place ≡ under path (decimal i) → query_at place (json_view v) ≡ Ok (query_view n)
    → with_nodes (ns ++ n ∷ []) (queries_at path (i + 1) (json_items (drop (i + 1) vs))) ≡ total
goes_on path i vs v ns n place total lt is so_far at h =
    let here : query_at (under path (decimal i)) (json_view v) ≡ Ok (query_view n) = rw (← at) h in
    sym (with_nodes-push ns n (queries_at path (i + 1) (json_items (drop (i + 1) vs)))) ∙ (rw here at (at_place path i vs v ns total lt is so_far))

pub ends : (e : QueryError) (path : List ℕ) (i : ℕ) (vs : List Json) (v : Json) (ns : List Node) (place : List ℕ) (total : Result Queries QueryError) → i < length vs → v ≡ get_or vs i v
    → with_nodes ns (queries_at path i (json_items (drop i vs))) ≡ total → place ≡ under path (decimal i) → Fails e (query_at place (json_view v)) → Fails e total
ends Memory path i vs v ns place total lt is so_far at h = tt
ends (Bad p k) path i vs v ns place total lt is so_far at h =
    let here : query_at (under path (decimal i)) (json_view v) ≡ Err (Bad p k) = rw (← at) h in
    sym (rw here at (at_place path i vs v ns total lt is so_far))

pub is_done : (path : List ℕ) (i : ℕ) (vs : List Json) (ns : List Node) (total : Result Queries QueryError) → length vs ≤ i → with_nodes ns (queries_at path i (json_items (drop i vs))) ≡ total → total ≡ Ok (queries_view ns)
is_done path i vs ns total le so_far = sym so_far ∙ ap (λ ws. with_nodes ns (queries_at path i (json_items ws))) (drop_all i vs le) ∙ ap Ok (before-none ns)
