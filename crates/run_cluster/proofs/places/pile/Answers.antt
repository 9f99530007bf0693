use Rattle.std.proofs.Common.{List, [], ◌∷◌, ◌++◌, sym, ap, ◌∙◌, append_assoc}
use Rattle.std.specs.Prelude.{map}
use Rattle.std.proofs.lemmas.List.{map-append}
use Rattle.node_link.proofs.Counts.{no_more}
use Rattle.run_cluster.specs.Places.{inboxes_of}
use Rattle.run_cluster.proofs.Dealing.{piled_one}
use Rattle.run_cluster.proofs.places.pile.Goals as goal

pub loop-place-preserved : goal.loop-place-preserved
loop-place-preserved g c =
    let i = c.loop-place.invariant in
    let x = c.in-Some.place in
    let before = c.loop-place.yielded in
    let goes = ap (λ (l : List _). before ++ l) (sym c.in-Some.ensures.steps.0) ∙ i.2 in
    let ends = c.in_ok-append.ensures.items ∙ ap (λ (l : List _). l ++ x.datas.items) c.in_ok-push-2.ensures.items in (
      tt,
      tt,
      append_assoc before (x ∷ []) c.next.new.self.rest.items ∙ goes,
      map-append (λ p. p.board) before (x ∷ []) ∙ ap (λ (l : List _). l ++ x.board ∷ []) i.3 ∙ sym c.in_ok-push.ensures.items,
      piled_one before x ∙ ap (λ (l : List _). (l ++ x.control ∷ []) ++ x.datas.items) i.4 ∙ sym ends,
    )

pub returns : goal.returns
returns g c =
    let i = c.loop-place.invariant in
    let rest = c.loop-place.place-iterator.rest in
    let all = no_more c.loop-place.yielded rest.items c.args.dealt.places.items i.2 (sym rest.ok.0 ∙ c.in-None.ensures.steps.0) in
    record {
      boards_are = ap (map (λ p. p.board)) (sym all) ∙ i.3;
      inboxes_are = ap (λ (l : List _). inboxes_of l ++ c.args.dealt.driver ∷ []) (sym all) ∙ ap (λ (l : List _). l ++ c.args.dealt.driver ∷ []) i.4 ∙ sym c.in_ok-push-3.ensures.items;
    }
