-- One more turn of a loop over lent tasks.
use Rattle.std.proofs.Common.{◌≡◌, ℕ, ◌+◌, ◌<◌, List, [], ◌∷◌, ◌++◌, map, take, length, get_or, Bor, sym, ap, ◌∙◌}
use Rattle.std.proofs.lemmas.List.{take_more, map-append}
use Rattle.std.proofs.lemmas.List.Sums.{fold-append}
use Rattle.serde_json.specs.Data.{Data, Members, put}
use Rattle.tasks_api.specs.Objects.{with_each}

taken : {X : Type 0} (rows : List (Bor X)) (i : ℕ) (row : Bor X) → i < length rows → row ≡ get_or rows i row → map (λ r. r.now) (take (i + 1) rows) ≡ map (λ r. r.now) (take i rows) ++ row.now ∷ []
taken rows i row lt is =
    ap (map (λ r. r.now)) (take_more rows i row lt) ∙ map-append (λ r. r.now) (take i rows) (get_or rows i row ∷ [])
    ∙ ap (λ r. map (λ q. q.now) (take i rows) ++ r.now ∷ []) (sym is)

-- a list that has what f makes of each task so far
pub one_more : {X Y : Type 0} (f : X → Y) (rows : List (Bor X)) (i : ℕ) (row : Bor X) (done now : List Y) → i < length rows → row ≡ get_or rows i row
    → done ≡ map f (map (λ r. r.now) (take i rows)) → now ≡ done ++ f row.now ∷ [] → now ≡ map f (map (λ r. r.now) (take (i + 1) rows))
one_more f rows i row done now lt is before pushed =
    pushed ∙ ap (λ l. l ++ f row.now ∷ []) before ∙ sym (map-append f (map (λ r. r.now) (take i rows)) (row.now ∷ [])) ∙ ap (map f) (sym (taken rows i row lt is))

-- members that have one for each task so far
pub one_put : {X : Type 0} (key : X → List ℕ) (value : X → Data) (members : Members) (rows : List (Bor X)) (i : ℕ) (row : Bor X) (done now : Members) → i < length rows → row ≡ get_or rows i row
    → done ≡ with_each key value members (map (λ r. r.now) (take i rows)) → now ≡ put (key row.now) (value row.now) done → now ≡ with_each key value members (map (λ r. r.now) (take (i + 1) rows))
one_put key value members rows i row done now lt is before did =
    did ∙ ap (put (key row.now) (value row.now)) before
    ∙ sym (fold-append (λ ms x. put (key x) (value x) ms) members (map (λ r. r.now) (take i rows)) (row.now ∷ []))
    ∙ ap (with_each key value members) (sym (taken rows i row lt is))
