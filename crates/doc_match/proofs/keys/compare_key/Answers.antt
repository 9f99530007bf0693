-- The first pair of parts that differ decides, and a pair that ties leaves it to those after it.
use Rattle.std.proofs.Common.{◌≡◌, ℕ, ◌+◌, ◌<◌, true, false, List, ◌∷◌, drop, length, get_or, refl, sym, ap, ◌∙◌}
use Rattle.std.specs.declared.cmp.Ordering.{Ordering}
use Rattle.std.specs.declared.cmp.Ordering.TheVariants.{Less, Equal, Greater}
use Rattle.std.specs.Ordering.{is_ne, ordering_then}
use Rattle.std.proofs.lemmas.List.{drop_more}
use Rattle.serde_json.specs.Data.{Data}
use Rattle.query_match.specs.declared.sort.SortBy.{SortBy}
use Rattle.query_match.specs.declared.sort.KeyPart.{KeyPart}
use Rattle.query_match.specs.Sorting.{part_at, part_cmp, key_of, key_cmp}
use Rattle.doc_match.proofs.keys.compare_key.Goals as goal

decides : (order later : Ordering) → is_ne order ≡ true → ordering_then order later ≡ order
decides Less later h = refl
decides Equal later h = absurd cc
decides Greater later h = refl

ties : (order later : Ordering) → is_ne order ≡ false → ordering_then order later ≡ later
ties Less later h = absurd cc
ties Equal later h = refl
ties Greater later h = absurd cc

one_pair : (source : Data) (sort : List SortBy) (i : ℕ) (by : SortBy) (rest : List KeyPart) (part : KeyPart) (later : List KeyPart) (order : Ordering)
    → i < length sort → by ≡ get_or sort i by → rest ≡ part ∷ later → order ≡ part_cmp (part_at source by) part
    → key_cmp (key_of (drop i sort) source) rest ≡ ordering_then order (key_cmp (key_of (drop (i + 1) sort) source) later)
one_pair source sort i by rest part later order l is split compared =
    let here : drop i sort ≡ by ∷ drop (i + 1) sort = drop_more sort i by l ∙ ap (λ x. x ∷ drop (i + 1) sort) (sym is) in
    ap (key_cmp (key_of (drop i sort) source)) split ∙ ap (λ s. key_cmp (key_of s source) (part ∷ later)) here
    ∙ ap (λ o. ordering_then o (key_cmp (key_of (drop (i + 1) sort) source) later)) (sym compared)

pub returns-then-is_ne : goal.returns-then-is_ne
returns-then-is_ne c =
    let source = c.args.source.now in
    let sort = c.args.sort.now in
    let order = c.compare_part-order.result in
    let later = key_cmp (key_of (drop (c.loop-by.by-index + 1) sort) source) c.in-Some.later.now in
    let here = one_pair source sort c.loop-by.by-index c.by-item.result c.loop-by.rest.now c.in-Some.part.now c.in-Some.later.now order
    c.loop-by-test.true c.by-item.is c.in-Some.ensures.cases.0 c.compare_part-order.ensures in
    sym (ap (key_cmp (key_of sort source)) (sym c.as_slice-rest.ensures) ∙ c.loop-by.invariant ∙ here ∙ decides order later (sym c.is_ne.ensures ∙ c.if-is_ne.true))

pub loop-by-preserved : goal.loop-by-preserved
loop-by-preserved c =
    let source = c.args.source.now in
    let sort = c.args.sort.now in
    let order = c.compare_part-order.result in
    let later = key_cmp (key_of (drop (c.loop-by.by-index + 1) sort) source) c.in-Some.later.now in
    let here = one_pair source sort c.loop-by.by-index c.by-item.result c.loop-by.rest.now c.in-Some.part.now c.in-Some.later.now order
    c.loop-by-test.true c.by-item.is c.in-Some.ensures.cases.0 c.compare_part-order.ensures in
    c.loop-by.invariant ∙ here ∙ ties order later (sym c.is_ne.ensures ∙ c.if-is_ne.false)
