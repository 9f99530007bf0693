use Rattle.std.proofs.Common.{List, [], ◌∷◌, ◌++◌, sym, ap, ◌∙◌, append_assoc}
use Rattle.std.specs.Prelude.{map}
use Rattle.std.proofs.lemmas.List.{map-append}
use Rattle.node_link.proofs.Counts.{no_more}
use Rattle.run_cluster.specs.Crews.{seat_left, ends_left}
use Rattle.run_cluster.proofs.left.datas_left.Goals as goal

pub loop-own-preserved : goal.loop-own-preserved
loop-own-preserved g c =
    let i = c.loop-own.invariant in
    let x = c.in-Some.own in
    let before = c.loop-own.yielded in
    let goes = ap (λ (l : List _). before ++ l) (sym c.in-Some.ensures.steps.0) ∙ i.2 in
    let seat = c.into_seat.ensures.seat ∙ ap (λ (b : _). b.seat) c.into_board.ensures in (
      tt,
      tt,
      append_assoc before (x ∷ []) c.next.new.self.rest.items ∙ goes,
      map-append seat_left before (x ∷ []) ∙ (λ j. i.3 j ++ sym seat j ∷ []) ∙ sym c.in_ok-push-2.ensures.items,
      map-append ends_left before (x ∷ []) ∙ ap (λ (l : List _). l ++ ends_left x ∷ []) i.4 ∙ sym c.in_ok-push.ensures.items,
    )

pub returns-clause-seats : goal.returns-clause-seats
returns-clause-seats g c =
    let i = c.loop-own.invariant in
    let rest = c.loop-own.own-iterator.rest in
    let all = no_more c.loop-own.yielded rest.items c.args.datas.items i.2 (sym rest.ok.0 ∙ c.in-None.ensures.steps.0) in
    sym i.3 ∙ ap (map seat_left) all

pub returns-clause-ends : goal.returns-clause-ends
returns-clause-ends g c =
    let i = c.loop-own.invariant in
    let rest = c.loop-own.own-iterator.rest in
    let all = no_more c.loop-own.yielded rest.items c.args.datas.items i.2 (sym rest.ok.0 ∙ c.in-None.ensures.steps.0) in
    sym i.4 ∙ ap (map ends_left) all
