-- Reading the items of a list one after the other, as a loop does.
use Rattle.std.proofs.Common.{◌≡◌, ℕ, ◌+◌, ◌<◌, ◌≤◌, List, [], ◌∷◌, ◌++◌, length, drop, get_or, Option, Some, None, Result, Ok, Err, refl, sym, ap, ◌∙◌, append_assoc, add-one}
use Rattle.std.specs.Prelude.{decimal}
use Rattle.std.proofs.lemmas.List.{append-nil, drop_all}
use Rattle.std.proofs.Math.Seq.{drop-cons}
use Rattle.serde_json.specs.Data.{Data, Items, no_items, item}
use Rattle.query_parse.specs.declared.fault.QueryError.{QueryError}
use Rattle.task_ids.specs.Json.{json_view, json_items}
use Rattle.task_ids.specs.declared.json_value.Json.{Json}
use Rattle.query_parse.specs.declared.fault.QueryFault.{QueryFault}
use Rattle.query_parse.specs.declared.fault.QueryFault.TheVariants.{BadValue}
use Rattle.query_parse.specs.declared.fault.QueryError.TheVariants.{Bad, Memory}
use Rattle.query_parse.specs.Answers.{◌>>=◌, Fails, IsFault}
use Rattle.query_parse.specs.Reading.{each_at, under, bad_value}

-- what was read before, and what is still read
abbrev pub with_front : {A : Type 0} → List A → Result (List A) QueryError → Result (List A) QueryError
with_front front read = read >>= λ xs. Ok (front ++ xs)

regroup : {A : Type 0} (front : List A) (x : A) (read : Result (List A) QueryError) → with_front front (read >>= λ xs. Ok (x ∷ xs)) ≡ with_front (front ++ x ∷ []) read
regroup front x (Ok xs) = ap Ok (sym (append_assoc front (x ∷ []) xs))
regroup front x (Err e) = refl

pub goes_on : {A : Type 0} (reads : Data → Option A) (path : List ℕ) (front : List A) (i : ℕ) (d : Data) (ds : Items) (x : A) (total : Result (List A) QueryError)
    → reads d ≡ Some x → with_front front (each_at reads path i (item d ds)) ≡ total → with_front (front ++ x ∷ []) (each_at reads path (i + 1) ds) ≡ total
unfolding each_at
goes_on reads path front i d ds x total h so_far = sym (regroup front x (each_at reads path (i + 1) ds)) ∙ (rw h at so_far)

pub ends : {A : Type 0} (reads : Data → Option A) (path : List ℕ) (front : List A) (i : ℕ) (d : Data) (ds : Items) (total : Result (List A) QueryError)
    → reads d ≡ None → with_front front (each_at reads path i (item d ds)) ≡ total → total ≡ bad_value (under path (decimal i))
unfolding each_at
ends reads path front i d ds total h so_far = sym (rw h at so_far)

pub is_done : {A : Type 0} (reads : Data → Option A) (path : List ℕ) (front : List A) (i : ℕ) (total : Result (List A) QueryError) → with_front front (each_at reads path i no_items) ≡ total → total ≡ Ok front
unfolding each_at
is_done reads path front i total so_far = sym so_far ∙ ap Ok (append-nil front)

-- ---- the same for a list of values, at a place

pub drop_here : (vs : List Json) (i : ℕ) (v : Json) → i < length vs → v ≡ get_or vs i v → drop i vs ≡ v ∷ drop (i + 1) vs
drop_here vs i v lt is = drop-cons vs i v lt ∙ rw (← is, add-one) refl

pub goes_on_at : {A : Type 0} (reads : Data → Option A) (path : List ℕ) (front : List A) (i : ℕ) (vs : List Json) (v : Json) (x : A) (total : Result (List A) QueryError)
    → i < length vs → v ≡ get_or vs i v → Some x ≡ reads (json_view v) → with_front front (each_at reads path i (json_items (drop i vs))) ≡ total
    → with_front (front ++ x ∷ []) (each_at reads path (i + 1) (json_items (drop (i + 1) vs))) ≡ total
goes_on_at reads path front i vs v x total lt is h so_far =
    goes_on reads path front i (json_view v) (json_items (drop (i + 1) vs)) x total (sym h) (ap (λ ws. with_front front (each_at reads path i (json_items ws))) (sym (drop_here vs i v lt is)) ∙ so_far)

pub fails_of_fault : {Y : Type 0} (e : QueryError) (path : List ℕ) (kind : QueryFault) (read : Result Y QueryError) → IsFault e path kind → read ≡ Err (Bad path kind) → Fails e read
fails_of_fault Memory path kind read h is = tt
fails_of_fault (Bad p k) path kind read h is = is ∙ (λ i. Err (Bad (sym h.0 i) (sym h.1 i)))

pub ends_at : {A : Type 0} (reads : Data → Option A) (path : List ℕ) (front : List A) (i : ℕ) (vs : List Json) (v : Json) (total : Result (List A) QueryError) (e : QueryError) (place : List ℕ)
    → i < length vs → v ≡ get_or vs i v → None ≡ reads (json_view v) → with_front front (each_at reads path i (json_items (drop i vs))) ≡ total
    → place ≡ under path (decimal i) → IsFault e place BadValue → Fails e total
ends_at reads path front i vs v total e place lt is h so_far at fault =
    let first = ap (λ ws. with_front front (each_at reads path i (json_items ws))) (sym (drop_here vs i v lt is)) ∙ so_far in
    fails_of_fault e place BadValue total fault (ends reads path front i (json_view v) (json_items (drop (i + 1) vs)) total (sym h) first ∙ rw at refl)

pub is_done_at : {A : Type 0} (reads : Data → Option A) (path : List ℕ) (front : List A) (i : ℕ) (vs : List Json) (total : Result (List A) QueryError)
    → length vs ≤ i → with_front front (each_at reads path i (json_items (drop i vs))) ≡ total → total ≡ Ok front
is_done_at reads path front i vs total le so_far = is_done reads path front i total (ap (λ ws. with_front front (each_at reads path i (json_items ws))) (sym (drop_all i vs le)) ∙ so_far)
