-- Reading the entries of a sort one after the other, as a loop does.
use Rattle.std.proofs.Common.{◌≡◌, ℕ, ◌+◌, ◌<◌, ◌≤◌, List, [], ◌∷◌, ◌++◌, length, drop, get_or, Result, Ok, Err, refl, sym, ap, ◌∙◌, append_assoc}
use Rattle.std.proofs.lemmas.List.{append-nil, drop_all}
use Rattle.serde_json.specs.Data.{Items, item}
use Rattle.task_ids.specs.Json.{json_view, json_items}
use Rattle.task_ids.specs.declared.json_value.Json.{Json}
use Rattle.task_ids.proofs.Jsons.{items_len-json_items}
use Rattle.query_parse.specs.declared.fault.BodyError.{BodyError}
use Rattle.query_parse.specs.declared.fault.BodyError.TheVariants.{UnknownField, BadQuery, BadSort, BadSize, WindowTooLarge, Memory}
use Rattle.query_match.specs.declared.sort.SortBy.{SortBy}
use Rattle.query_parse.specs.Answers.{◌>>=◌}
use Rattle.query_parse.specs.Bodies.{Fails, entry_of, entries_of}
use Rattle.query_parse.proofs.Each.{drop_here}

abbrev Entries : Type 0
Entries = Result (List SortBy) BodyError

-- what was read before, and what is still read
abbrev pub with_entries : List SortBy → Result (List SortBy) BodyError → Result (List SortBy) BodyError
with_entries front read = read >>= λ es. Ok (front ++ es)

regroup : (front : List SortBy) (e : SortBy) (read : Entries) → with_entries front (read >>= λ es. Ok (e ∷ es)) ≡ with_entries (front ++ e ∷ []) read
regroup front e (Ok es) = ap Ok (sym (append_assoc front (e ∷ []) es))
regroup front e (Err x) = refl

at_place : (front : List SortBy) (i : ℕ) (vs : List Json) (v : Json) (total : Entries) → i < length vs → v ≡ get_or vs i v → with_entries front (entries_of (json_items (drop i vs))) ≡ total
    → with_entries front (entries_of (item (json_view v) (json_items (drop (i + 1) vs)))) ≡ total
at_place front i vs v total lt is so_far = ap (λ ws. with_entries front (entries_of (json_items ws))) (sym (drop_here vs i v lt is)) ∙ so_far

pub goes_on : (front : List SortBy) (i : ℕ) (vs : List Json) (v : Json) (e : SortBy) (total : Result (List SortBy) BodyError) → i < length vs → v ≡ get_or vs i v → entry_of (json_view v) ≡ Ok e
    → with_entries front (entries_of (json_items (drop i vs))) ≡ total → with_entries (front ++ e ∷ []) (entries_of (json_items (drop (i + 1) vs))) ≡ total
goes_on front i vs v e total lt is h so_far = sym (regroup front e (entries_of (json_items (drop (i + 1) vs)))) ∙ (rw h at (at_place front i vs v total lt is so_far))

-- an error of the next entry is the answer
fails_first : (x : BodyError) (read : Result SortBy BodyError) (front : List SortBy) (ds : Items) (total : Entries) → Fails x read → with_entries front (read >>= λ e. entries_of ds >>= λ es. Ok (e ∷ es)) ≡ total → Fails x total
fails_first Memory read front ds total h so_far = tt
fails_first (UnknownField f) read front ds total h so_far = sym (rw h at so_far)
fails_first (BadQuery p k) read front ds total h so_far = sym (rw h at so_far)
fails_first (BadSort f) read front ds total h so_far = sym (rw h at so_far)
fails_first (BadSize f) read front ds total h so_far = sym (rw h at so_far)
fails_first (WindowTooLarge n) read front ds total h so_far = sym (rw h at so_far)

pub ends : (x : BodyError) (front : List SortBy) (i : ℕ) (vs : List Json) (v : Json) (total : Result (List SortBy) BodyError) → i < length vs → v ≡ get_or vs i v → Fails x (entry_of (json_view v))
    → with_entries front (entries_of (json_items (drop i vs))) ≡ total → Fails x total
ends x front i vs v total lt is h so_far = fails_first x (entry_of (json_view v)) front (json_items (drop (i + 1) vs)) total h (at_place front i vs v total lt is so_far)

pub is_done : (front : List SortBy) (i : ℕ) (vs : List Json) (total : Result (List SortBy) BodyError) → length vs ≤ i → with_entries front (entries_of (json_items (drop i vs))) ≡ total → total ≡ Ok front
is_done front i vs total le so_far = sym so_far ∙ ap (λ ws. with_entries front (entries_of (json_items ws))) (drop_all i vs le) ∙ ap Ok (append-nil front)

pub ruleset lengths = (items_len-json_items)
