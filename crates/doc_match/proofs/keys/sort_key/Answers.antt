use Rattle.std.proofs.Common.{◌≡◌, ◌+◌, [], ◌∷◌, ◌++◌, take, sym, ap, ◌∙◌}
use Rattle.std.proofs.lemmas.List.{map_push, take_more}
use Rattle.query_match.specs.Sorting.{part_at}
use Rattle.doc_match.proofs.keys.sort_key.Goals as goal

pub loop-by-preserved : goal.loop-by-preserved
loop-by-preserved c =
    let sort = c.args.sort.now in
    let i = c.loop-by.by-index in
    let by = c.by-item.result in
    let more : take (i + 1) sort ≡ take i sort ++ by ∷ [] = take_more sort i by c.loop-by-test.true ∙ ap (λ x. take i sort ++ x ∷ []) (sym c.by-item.is) in
    rw (c.in_ok-push.ensures.items, c.loop-by.invariant, c.in_ok-key_part.ensures, more) (sym (map_push (part_at c.args.source.now) (take i sort) by))
