-- A task's members are put part by part.
use Rattle.std.proofs.Common.{◌≡◌, ℕ, List, ◌++◌, ◌∙◌, sym, ap}
use Rattle.std.proofs.lemmas.List.Sums.{fold-append}
use Rattle.serde_json.specs.Data.{Data, object, Members, no_members}
use Rattle.tasks_api.specs.Objects.{with_members, object_with}

abbrev Named : Type 0
Named = List (List ℕ × Data)

with_both : (m : Members) (xs ys : Named) → with_members m (xs ++ ys) ≡ with_members (with_members m xs) ys
with_both m xs ys = fold-append _ m xs ys

then_part : (m n : Members) (xs ys : Named) → m ≡ with_members no_members xs → n ≡ with_members m ys → n ≡ with_members no_members (xs ++ ys)
then_part m n xs ys h e = e ∙ ap (λ k. with_members k ys) h ∙ sym (with_both no_members xs ys)

pub part_by_part : (m0 m1 m2 m3 m4 m5 m6 : Members) (a b c d e f : Named) → m0 ≡ no_members
    → m1 ≡ with_members m0 a → m2 ≡ with_members m1 b → m3 ≡ with_members m2 c → m4 ≡ with_members m3 d → m5 ≡ with_members m4 e → m6 ≡ with_members m5 f
    → object m6 ≡ object_with (a ++ b ++ c ++ d ++ e ++ f)
part_by_part m0 m1 m2 m3 m4 m5 m6 a b c d e f h0 h1 h2 h3 h4 h5 h6 =
    let e1 = h1 ∙ ap (λ m. with_members m a) h0 in
    let e2 = then_part m1 m2 a b e1 h2 in
    let e3 = then_part m2 m3 (a ++ b) c e2 h3 in
    let e4 = then_part m3 m4 (a ++ b ++ c) d e3 h4 in
    let e5 = then_part m4 m5 (a ++ b ++ c ++ d) e e4 h5 in
    ap object (then_part m5 m6 (a ++ b ++ c ++ d ++ e) f e5 h6)
