use Rattle.std.proofs.Common.{ap, ◌∙◌, arith, get_or}
use Rattle.shard_docs.specs.KeptRows.{below}
use Rattle.shard_docs.specs.SeenRows.{SeenRows}
use Rattle.shard_docs.proofs.KeptDeaths.{not_last, still_kept, now_shown}
use Rattle.shard_docs.proofs.rows.Rows.kill.Goals as goal

pub index_mut-requires : goal.index_mut-requires
index_mut-requires c =
    let kept = c.self.inside.kept.items in
    let low = not_last c.self.inside.oldest c.args.place kept c.args.self.now.rows c.self.invariant (ap (λ (s : SeenRows). s.rows) c.self.view_is) c.requires.alive (omega (arith, c.requires.behind)) in
    let at = c.position-at.ensures.count ∙ ap (below c.args.place) c.as_slice.ensures.value in
    omega (arith, low, at)

pub invariant_of-self : goal.invariant_of-self
invariant_of-self c =
    let kept = c.self.inside.kept.items in
    let at = c.position-at.ensures.count ∙ ap (below c.args.place) c.as_slice.ensures.value in
    rw at (still_kept c.self.inside.oldest c.args.place kept c.args.self.now.rows c.self.invariant (ap (λ (s : SeenRows). s.rows) c.self.view_is) c.requires.alive (omega (arith, c.requires.behind))
    c.args.version (omega (arith, c.requires.later)) (omega (arith, c.requires.kept, ap (λ (s : SeenRows). s.oldest) c.self.view_is)) c.index_mut.result.now (c.index_mut.ensures.value ∙ ap (λ i. get_or kept i c.index_mut.result.now) at))

pub returns-clause-rows : goal.returns-clause-rows
returns-clause-rows c =
    let kept = c.self.inside.kept.items in
    let at = c.position-at.ensures.count ∙ ap (below c.args.place) c.as_slice.ensures.value in
    rw at (now_shown c.self.inside.oldest c.args.place kept c.args.self.now.rows c.self.invariant (ap (λ (s : SeenRows). s.rows) c.self.view_is) c.requires.alive (omega (arith, c.requires.behind))
    c.args.version (omega (arith, c.requires.later)) (omega (arith, c.requires.kept, ap (λ (s : SeenRows). s.oldest) c.self.view_is)) c.index_mut.result.now (c.index_mut.ensures.value ∙ ap (λ i. get_or kept i c.index_mut.result.now) at))
