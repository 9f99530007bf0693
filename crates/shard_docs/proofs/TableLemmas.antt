-- The tables of a shard after one more write.
use Rattle.std.proofs.Common.{◌≡◌, ℕ, suc, ◌+◌, ◌<◌, ◌^◌, Bool, true, false, ◌||◌, cond, List, [], ◌∷◌, ◌++◌, length, map, set, get_or, Option, Some, None, option_map, is_some, String, string_bytes, refl, sym, ap, ◌∙◌, arith, ⊎_elim, length-append, length-set}
use Rattle.std.proofs.lemmas.Bool.{cases_Bool}
use Rattle.std.proofs.lemmas.List.{map_push, map-set, set-append_left, length-map}
use Rattle.std.proofs.Math.Seq.{map-set_same}
use Rattle.std.proofs.lemmas.Map.Text.{hash_map_updates_text}
use Rattle.std.specs.HashMap.{HashMap, get, get_by_text, Updates}
use Rattle.std.proofs.lemmas.Option.{slice_get-map}
use Rattle.std.proofs.lemmas.Slice.Eq.{bytes_eq-Decides}
use Rattle.std.specs.List.{list_any, slice_get}
use Rattle.std.specs.Map.{lookup}
use Rattle.std.specs.Str.{bytes_eq}
use Rattle.std.specs.String.{string_eq}
use Rattle.std.specs.declared.alloc.Global.{Global}
use Rattle.std.specs.declared.hash.FoldHasher.{FoldHasher}
use Rattle.std.specs.declared.hash.BuildHasherDefault.{BuildHasherDefault}
use Rattle.task_ids.specs.declared.doc.Doc.{Doc}
use Rattle.task_ids.specs.Rows.{has_id, living_rows, is_alive}
use Rattle.shard_docs.specs.SeenRows.{SeenRow}
use Rattle.shard_docs.specs.Tables.{died_at, deaths, further, last_place, IsTables}
use Rattle.shard_docs.proofs.Ids.{same_or_other}

abbrev pub docs_of : List SeenRow → List Doc
docs_of rows = map (λ row. row.doc) rows

-- an id has a last place exactly where it was written
some_further : (last here : Option ℕ) → is_some (further last here) ≡ (is_some here || is_some last)
some_further None None = refl
some_further None (Some p) = refl
some_further (Some p) None = refl
some_further (Some p) (Some q) = refl

-- the place of a write among those from it on, if it is of the id
abbrev pub here_if : Bool → Option ℕ
here_if same = cond same (Some 0) None

some_here : (same : Bool) → is_some (here_if same) ≡ same
some_here true = refl
some_here false = refl

pub some_place : (id : List ℕ) (writes : List Doc) → is_some (last_place id writes) ≡ has_id id writes
some_place id [] = refl
some_place id (doc ∷ later) =
    some_further (last_place id later) (here_if (bytes_eq id doc.id)) ∙ ap (λ b. is_some (here_if (bytes_eq id doc.id)) || b) (some_place id later)
    ∙ ap (λ b. b || has_id id later) (some_here (bytes_eq id doc.id))

-- and it dies by later writes exactly where it is among them
pub some_death : (id : List ℕ) (place : ℕ) (later : List Doc) → is_some (died_at id place later) ≡ has_id id later
some_death id place [] = refl
some_death id place (doc ∷ later) = first_or_later (bytes_eq id doc.id) (died_at id (suc place) later) ∙ ap (λ b. bytes_eq id doc.id || b) (some_death id (suc place) later)
  where
    first_or_later : (b : Bool) (died : Option ℕ) → is_some (cond b (Some (suc place)) died) ≡ (b || is_some died)
    first_or_later true died = refl
    first_or_later false died = refl

-- the last place of an id is one of the writes'
pub place_within : (id : List ℕ) (writes : List Doc) (place : ℕ) → last_place id writes ≡ Some place → place < length writes
place_within id [] place e = cc
place_within id (doc ∷ later) place e = head (last_place id later) (bytes_eq id doc.id) e (place_within id later)
  where
    head : (last : Option ℕ) (b : Bool) → further last (cond b (Some 0) None) ≡ Some place → ((p : ℕ) → last ≡ Some p → p < length later) → place < suc (length later)
    head None true h within = let e : 0 ≡ place = cc in omega arith
    head None false h within = cc
    head (Some p) b h within = let e : suc p ≡ place = cc in let below = within p refl in omega arith

-- an id is alive after some writes exactly where it was written
alive_if_written : (id : List ℕ) (first : ℕ) (writes : List Doc) → list_any (λ row. bytes_eq id row.1.id) (living_rows first writes) ≡ has_id id writes
alive_if_written id first [] = refl
alive_if_written id first (doc ∷ later) =
    let rest = alive_if_written id (suc first) later in
    ⊎_elim
    (λ dead. rw dead (rest ∙ sym (written_later dead)))
    (λ alive. rw alive (ap (λ b. bytes_eq id doc.id || b) rest))
    (cases_Bool (has_id doc.id later))
  where
    written_later : has_id doc.id later ≡ true → (bytes_eq id doc.id || has_id id later) ≡ has_id id later
    written_later dead =
        ⊎_elim
        (λ same. ap (λ b. b || has_id id later) same.0 ∙ sym (ap (λ i. has_id i later) same.2 ∙ dead))
        (λ other. ap (λ b. b || has_id id later) other.0)
        (same_or_other id doc.id)

pub alive_is_written : (id : List ℕ) (writes : List Doc) → is_alive id writes ≡ is_some (last_place id writes)
alive_is_written id writes = alive_if_written id 0 writes ∙ sym (some_place id writes)

-- the last place of an id after one more write
last_place-more : (id : List ℕ) (writes : List Doc) (doc : Doc) → last_place id (writes ++ doc ∷ []) ≡ cond (bytes_eq id doc.id) (Some (length writes)) (last_place id writes)
last_place-more id [] doc = refl
last_place-more id (first ∷ later) doc =
    ap (λ last. further last (cond (bytes_eq id first.id) (Some 0) None)) (last_place-more id later doc) ∙ moved (bytes_eq id doc.id)
  where
    moved : (b : Bool) → further (cond b (Some (length later)) (last_place id later)) (cond (bytes_eq id first.id) (Some 0) None)
        ≡ cond b (Some (suc (length later))) (further (last_place id later) (cond (bytes_eq id first.id) (Some 0) None))
    moved true = refl
    moved false = refl

-- the first death, and else the second
abbrev or_death : Option ℕ → Option ℕ → Option ℕ
or_death None later = later
or_death (Some died) later = Some died

died_at-more : (id : List ℕ) (place next : ℕ) (later : List Doc) (doc : Doc) → next ≡ place + length later
    → died_at id place (later ++ doc ∷ []) ≡ or_death (died_at id place later) (cond (bytes_eq id doc.id) (Some (suc next)) None)
died_at-more id place next [] doc e =
    let same : place ≡ next = omega arith in
    ap (λ n. cond (bytes_eq id doc.id) (Some (suc n)) None) same
died_at-more id place next (first ∷ later) doc e =
    ap (cond (bytes_eq id first.id) (Some (suc place))) (died_at-more id (suc place) next later doc (omega arith)) ∙ at_once (bytes_eq id first.id) (died_at id (suc place) later) (cond (bytes_eq id doc.id) (Some (suc next)) None)
  where
    at_once : (b : Bool) (died last : Option ℕ) → cond b (Some (suc place)) (or_death died last) ≡ or_death (cond b (Some (suc place)) died) last
    at_once true died last = refl
    at_once false died last = refl

-- the row of a place dies, if there is one
abbrev pub kill : Option ℕ → ℕ → List (Option ℕ) → List (Option ℕ)
kill None version ds = ds
kill (Some place) version ds = set ds place (Some version)

-- the first of some deaths after the row of a place died
abbrev first_death : Option ℕ → Bool → ℕ → Option ℕ → Option ℕ
first_death (Some place) here version died = died
first_death None true version died = Some version
first_death None false version died = died

kill_parts : (last : Option ℕ) (here : Bool) (version : ℕ) (died : Option ℕ) (ds : List (Option ℕ))
    → kill (further last (cond here (Some 0) None)) version (died ∷ ds) ≡ first_death last here version died ∷ kill last version ds
kill_parts (Some place) here version died ds = refl
kill_parts None true version died ds = refl
kill_parts None false version died ds = refl

-- a later write of the id is the first of its deaths only where the row is the last of the id
first_dies : (died last : Option ℕ) (same : Bool) (version : ℕ) → (same ≡ true → is_some died ≡ is_some last)
    → or_death died (cond same (Some version) None) ≡ first_death last same version died
first_dies None None true version h = refl
first_dies None None false version h = refl
first_dies None (Some p) true version h = let e : false ≡ true = h refl in cc
first_dies None (Some p) false version h = refl
first_dies (Some d) None true version h = let e : true ≡ false = h refl in cc
first_dies (Some d) None false version h = refl
first_dies (Some d) (Some p) true version h = refl
first_dies (Some d) (Some p) false version h = refl

-- one more write kills the last row of its id, and is alive itself
pub deaths-more : (place next : ℕ) (writes : List Doc) (doc : Doc) → next ≡ place + length writes
    → deaths place (writes ++ doc ∷ []) ≡ kill (last_place doc.id writes) (suc next) (deaths place writes) ++ None ∷ []
deaths-more place next [] doc e = refl
deaths-more place next (first ∷ later) doc e =
    let rest = deaths-more (suc place) next later doc (omega arith) in
    let died = died_at-more first.id (suc place) next later doc (omega arith) ∙ dies in
    ap (λ ds. died_at first.id (suc place) (later ++ doc ∷ []) ∷ ds) rest
    ∙ ap (λ d. d ∷ (kill (last_place doc.id later) (suc next) (deaths (suc place) later) ++ None ∷ [])) died
    ∙ sym (ap (λ ds. ds ++ None ∷ []) (kill_parts (last_place doc.id later) (bytes_eq doc.id first.id) (suc next) (died_at first.id (suc place) later) (deaths (suc place) later)))
  where
    dies : or_death (died_at first.id (suc place) later) (cond (bytes_eq first.id doc.id) (Some (suc next)) None)
        ≡ first_death (last_place doc.id later) (bytes_eq doc.id first.id) (suc next) (died_at first.id (suc place) later)
    dies =
        ⊎_elim
        (λ same.
        rw (same.0, same.1) (first_dies (died_at first.id (suc place) later) (last_place doc.id later) true (suc next)
        (λ _. some_death first.id (suc place) later ∙ ap (λ id. has_id id later) same.2 ∙ sym (some_place doc.id later))))
        (λ other. rw (other.0, other.1) (first_dies (died_at first.id (suc place) later) (last_place doc.id later) false (suc next) (λ no. cc)))
        (same_or_other first.id doc.id)

none_dies : (died : Option ℕ) → is_some died ≡ false → died ≡ None
none_dies None e = refl
none_dies (Some d) e = cc

some_same : (a b : ℕ) → Some a ≡ Some b → a ≡ b
some_same a b e = cc

none_some : (b : ℕ) → None ≡ Some b → ⊥
none_some b e = cc

abbrev pub Living : Type 0
Living = HashMap (String Global) ℕ (BuildHasherDefault FoldHasher)

-- a table with the same entries
pub same_tables : (rows : List SeenRow) (living same : Living) → same.entries ≡ living.entries → IsTables rows living → IsTables rows same
same_tables rows living same e tables = record {
  few = tables.few;
  died = tables.died;
  places = λ id. ap (λ es. lookup (λ key. bytes_eq id (string_bytes key)) es) e ∙ tables.places id;
}

-- what the table had for the id
pub found_place : (rows : List SeenRow) (living : Living) (doc : Doc) (key : String Global) (old found : Option ℕ) → IsTables rows living → string_bytes key ≡ doc.id
    → old ≡ get string_eq living key → old ≡ found → last_place doc.id (docs_of rows) ≡ found
found_place rows living doc key old found tables named is_old is_found =
    sym (ap (λ id. last_place id (docs_of rows)) named) ∙ sym (tables.places (string_bytes key)) ∙ sym is_old ∙ is_found

-- the last row of an id is alive
pub last_alive : (id : List ℕ) (first place : ℕ) (writes : List Doc) → last_place id writes ≡ Some place → slice_get (deaths first writes) place ≡ Some None
last_alive id first place [] e = cc
last_alive id first place (doc ∷ later) e = by (last_place id later) refl place refl (λ p is. last_alive id (suc first) p later is)
  where
    never : last_place id later ≡ None → bytes_eq id doc.id ≡ true → died_at doc.id (suc first) later ≡ None
    never none same =
        let one : id ≡ doc.id = (bytes_eq-Decides id doc.id).0 same in
        none_dies (died_at doc.id (suc first) later) (some_death doc.id (suc first) later ∙ ap (λ i. has_id i later) (sym one) ∙ sym (some_place id later) ∙ ap is_some none)

    by : (last : Option ℕ) → last_place id later ≡ last → (p : ℕ) → place ≡ p → ((q : ℕ) → last_place id later ≡ Some q → slice_get (deaths (suc first) later) q ≡ Some None) → slice_get (deaths first (doc ∷ later)) place ≡ Some None
    by (Some q) is p at rest =
        let here : suc q ≡ place = some_same (suc q) place (sym (ap (λ l. further l (here_if (bytes_eq id doc.id))) is) ∙ e) in
        ap (slice_get (deaths first (doc ∷ later))) (sym here) ∙ rest q is
    by None is p at rest =
        ⊎_elim
        (λ same.
        let here : 0 ≡ place = some_same 0 place (sym (ap (λ l. further l (here_if (bytes_eq id doc.id))) is ∙ ap (λ b. further None (here_if b)) same) ∙ e) in
        ap (slice_get (deaths first (doc ∷ later))) (sym here) ∙ ap Some (never is same))
        (λ other. absurd (none_some place (sym (ap (λ l. further l (here_if (bytes_eq id doc.id))) is ∙ ap (λ b. further None (here_if b)) other) ∙ e)))
        (cases_Bool (bytes_eq id doc.id))

-- the row that the table has for an id is alive
pub living_row_is : (rows : List SeenRow) (living : Living) (id : List ℕ) (place : ℕ) → IsTables rows living → last_place id (docs_of rows) ≡ Some place → (row : SeenRow) × (slice_get rows place ≡ Some row) × (row.died ≡ None)
living_row_is rows living id place tables last = by (slice_get rows place) refl
  where
    died : slice_get (map (λ row. row.died) rows) place ≡ Some None
    died = ap (λ ds. slice_get ds place) tables.died ∙ last_alive id 0 place (docs_of rows) last

    by : (o : Option SeenRow) → slice_get rows place ≡ o → (row : SeenRow) × (slice_get rows place ≡ Some row) × (row.died ≡ None)
    by None e = let none : None ≡ Some None = sym (slice_get-map (λ (row : SeenRow). row.died) rows place ∙ ap (option_map (λ (row : SeenRow). row.died)) e) ∙ died in cc
    by (Some row) e = let some : Some row.died ≡ Some None = sym (slice_get-map (λ (row : SeenRow). row.died) rows place ∙ ap (option_map (λ (row : SeenRow). row.died)) e) ∙ died in (row, e, cc)

-- the documents of the rows after a row was added
pub docs_more : (rows : List SeenRow) (doc : Doc) → docs_of (rows ++ record { doc = doc; died = None } ∷ []) ≡ docs_of rows ++ doc ∷ []
docs_more rows doc = map_push (λ row. row.doc) rows (record { doc = doc; died = None })

-- and another died
pub docs_same : (rows : List SeenRow) (doc : Doc) (place version : ℕ) (row : SeenRow) → row ≡ get_or (rows ++ record { doc = doc; died = None } ∷ []) place row
    → docs_of (set (rows ++ record { doc = doc; died = None } ∷ []) place (record { doc = row.doc; died = Some version })) ≡ docs_of rows ++ doc ∷ []
docs_same rows doc place version row is_row =
    map-set_same (λ r. r.doc) (rows ++ record { doc = doc; died = None } ∷ []) place (record { doc = row.doc; died = Some version }) row (ap (λ r. r.doc) is_row) ∙ docs_more rows doc

module _ (rows : List SeenRow) (living more : Living) (doc : Doc) (key : String Global) (tables : IsTables rows living) (named : string_bytes key ≡ doc.id)
    (updates : Updates string_eq living more key (Some (length rows))) where
  -- the table after the write has the place of the last write of each id
  places_more : (id : List ℕ) → get_by_text more id ≡ last_place id (docs_of rows ++ doc ∷ [])
  places_more id =
      hash_map_updates_text (string_bytes key) living more (Some (length rows)) updates id
      ∙ ap (λ bytes. cond (bytes_eq bytes id) (Some (length rows)) (get_by_text living id)) named
      ∙ ap (λ last. cond (bytes_eq doc.id id) (Some (length rows)) last) (tables.places id)
      ∙ ⊎_elim (λ same. rw (same.0, same.1) (ap Some (sym (length-map rows (λ row. row.doc))))) (λ other. rw (other.0, other.1) refl) (same_or_other doc.id id)
      ∙ sym (last_place-more id (docs_of rows) doc)

  deaths_more : deaths 0 (docs_of rows ++ doc ∷ []) ≡ kill (last_place doc.id (docs_of rows)) (suc (length rows)) (map (λ row. row.died) rows) ++ None ∷ []
  deaths_more =
      deaths-more 0 (length rows) (docs_of rows) doc (omega (arith, length-map rows (λ row. row.doc)))
      ∙ ap (λ ds. kill (last_place doc.id (docs_of rows)) (suc (length rows)) ds ++ None ∷ []) (sym tables.died)

  -- a write of an id that is new
  pub created : length rows + 1 < 2 ^ 32 → last_place doc.id (docs_of rows) ≡ None → IsTables (rows ++ record { doc = doc; died = None } ∷ []) more
  created room none = record {
    few = omega (arith, length-append rows (record { doc = doc; died = None } ∷ []));
    died =
        map_push (λ row. row.died) rows (record { doc = doc; died = None })
        ∙ sym (ap (deaths 0) (docs_more rows doc) ∙ deaths_more ∙ ap (λ last. kill last (suc (length rows)) (map (λ row. row.died) rows) ++ None ∷ []) none);
    places = λ id. places_more id ∙ ap (last_place id) (sym (docs_more rows doc));
  }

  -- a write of an id that is alive in a row
  module _ (place version : ℕ) (row : SeenRow) (found : last_place doc.id (docs_of rows) ≡ Some place) (newest : version ≡ suc (length rows))
      (is_row : row ≡ get_or (rows ++ record { doc = doc; died = None } ∷ []) place row) where
    deaths_same : map (λ r. r.died) (set (rows ++ record { doc = doc; died = None } ∷ []) place (record { doc = row.doc; died = Some version })) ≡ set (map (λ r. r.died) rows) place (Some version) ++ None ∷ []
    deaths_same =
        let within : place < length (map (λ r. r.died) rows) = omega (arith, place_within doc.id (docs_of rows) place found, length-map rows (λ r. r.died), length-map rows (λ r. r.doc)) in
        map-set (λ r. r.died) (rows ++ record { doc = doc; died = None } ∷ []) place (record { doc = row.doc; died = Some version })
        ∙ ap (λ ds. set ds place (Some version)) (map_push (λ r. r.died) rows (record { doc = doc; died = None }))
        ∙ set-append_left (map (λ r. r.died) rows) (None ∷ []) place (Some version) within

    pub updated : length rows + 1 < 2 ^ 32 → IsTables (set (rows ++ record { doc = doc; died = None } ∷ []) place (record { doc = row.doc; died = Some version })) more
    updated room = record {
      few =
          omega
          (arith, length-set (rows ++ record { doc = doc; died = None } ∷ []) place (record { doc = row.doc; died = Some version }), length-append rows (record { doc = doc; died = None } ∷ []));
      died =
          deaths_same
          ∙ sym (ap (deaths 0) (docs_same rows doc place version row is_row) ∙ deaths_more ∙ ap (λ last. kill last (suc (length rows)) (map (λ r. r.died) rows) ++ None ∷ []) found
          ∙ ap (λ v. set (map (λ r. r.died) rows) place (Some v) ++ None ∷ []) (sym newest));
      places = λ id. places_more id ∙ ap (last_place id) (sym (docs_same rows doc place version row is_row));
    }
