-- An act has its letter, or has none.
use Rattle.std.proofs.Common.{◌∷◌, [], ◌++◌, List, All, refl, sym, ap, ◌∙◌, subst, append_assoc}
use Rattle.std.proofs.lemmas.List.Elements.{All-tail}
use Rattle.control_worker.specs.Lawful.{IsLawfulAct}
use Rattle.control_worker.specs.declared.act.ControlAct.{ControlAct}
use Rattle.node_worker.specs.ControlPosts.{act_post}
use Rattle.node_worker.proofs.Posting.{post_more, post_none}
use Rattle.node_worker.proofs.control_posts.act_posts.Goals as goal

pub loop-act-preserved-in-Continue-1 : goal.loop-act-preserved-in-Continue-1
loop-act-preserved-in-Continue-1 g c =
    let act = c.in-Some.act in
    let rest = c.next.new.self.rest.items in
    let xs = c.loop-act.yielded in
    let steps = c.in-Some.ensures.steps.0 in
    let i = c.loop-act.invariant in (
      tt,
      tt,
      All-tail (IsLawfulAct g.N.BoardName.allowed) act rest (subst (λ (l : List ControlAct). All (IsLawfulAct g.N.BoardName.allowed) l) steps i.2),
      post_more (act_post c.args.workers c.args.nodes c.args.node) xs act _ _ _ i.3 c.in_ok-push.ensures.items (cc),
      append_assoc xs (act ∷ []) rest ∙ (ap (λ (l : List ControlAct). xs ++ l) (sym steps) ∙ i.4),
    )

pub loop-act-preserved : goal.loop-act-preserved
loop-act-preserved g c =
    let act = c.in-Some.act in
    let rest = c.next.new.self.rest.items in
    let xs = c.loop-act.yielded in
    let steps = c.in-Some.ensures.steps.0 in
    let i = c.loop-act.invariant in (
      tt,
      tt,
      All-tail (IsLawfulAct g.N.BoardName.allowed) act rest (subst (λ (l : List ControlAct). All (IsLawfulAct g.N.BoardName.allowed) l) steps i.2),
      post_none (act_post c.args.workers c.args.nodes c.args.node) xs act _ _ i.3 (cc) refl,
      append_assoc xs (act ∷ []) rest ∙ (ap (λ (l : List ControlAct). xs ++ l) (sym steps) ∙ i.4),
    )
