-- In lists that are joined as many documents pass a test as in all of them.
use Rattle.std.proofs.Common.{◌≡◌, ◌+◌, Bool, cond, List, [], ◌∷◌, refl, sym, ap, ◌∙◌}
use Rattle.std.specs.List.{flat_map, sum_by}
use Rattle.std.specs.Prelude.{count_by}
use Rattle.std.proofs.lemmas.List.Concat.{flat_map-cons}
use Rattle.std.proofs.lemmas.List.Sums.{sum_by-append, sum_by-cons}
use Rattle.task_ids.specs.declared.doc.Doc.{Doc}

pub count_joined : {X : Type 0} (docs : X → List Doc) (test : Doc → Bool) (xs : List X) → sum_by (λ x. count_by test (docs x)) xs ≡ count_by test (flat_map docs xs)
count_joined docs test [] = refl
count_joined docs test (x ∷ xs) =
    sum_by-cons (λ y. count_by test (docs y)) x xs ∙ ap (λ n. count_by test (docs x) + n) (count_joined docs test xs)
    ∙ sym (sum_by-append (λ doc. cond (test doc) 1 0) (docs x) (flat_map docs xs)) ∙ ap (count_by test) (sym (flat_map-cons docs x xs))
