-- A letter has its inbox, or has none.
use Rattle.std.proofs.Common.{◌∷◌, [], ◌++◌, refl, sym, ap, ◌∙◌, append_assoc}
use Rattle.data_worker.specs.Posts.{addressed}
use Rattle.node_worker.proofs.Posting.{post_more, post_none}
use Rattle.data_worker.proofs.posts.all_addressed.Goals as goal

pub loop-post-preserved-in-Continue-1 : goal.loop-post-preserved-in-Continue-1
loop-post-preserved-in-Continue-1 g c =
    let post = c.in-Some.post in
    let rest = c.next.new.self.rest.items in
    let xs = c.loop-post.yielded in
    let steps = c.in-Some.ensures.steps.0 in
    let i = c.loop-post.invariant in (
      tt,
      tt,
      post_more (addressed c.args.nodes c.args.workers) xs post _ _ _ i.2 c.in_ok-push.ensures.items (cc),
      append_assoc xs (post ∷ []) rest ∙ (ap (λ l. xs ++ l) (sym steps) ∙ i.3),
    )

pub loop-post-preserved : goal.loop-post-preserved
loop-post-preserved g c =
    let post = c.in-Some.post in
    let rest = c.next.new.self.rest.items in
    let xs = c.loop-post.yielded in
    let steps = c.in-Some.ensures.steps.0 in
    let i = c.loop-post.invariant in (
      tt,
      tt,
      post_none (addressed c.args.nodes c.args.workers) xs post _ _ i.2 (cc) refl,
      append_assoc xs (post ∷ []) rest ∙ (ap (λ l. xs ++ l) (sym steps) ∙ i.3),
    )
