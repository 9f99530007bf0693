use Rattle.std.proofs.Common.{rules, arith, refl, ◌<◌, ◌+◌, ℕ, List, [], ◌∷◌, ◌++◌, length, length-append, sym, ap, ◌∙◌, subst, append_assoc}
use Rattle.std.proofs.lemmas.List.{map-append}
use Rattle.std.proofs.lemmas.Grind.{common_steps}
use Rattle.node_link.proofs.Counts.{no_more}
use Rattle.run_inboxes.specs.Pairs.{Threewise}
use Rattle.run_inboxes.proofs.Pairs.{taken_off, none_left, pop_is, more_left, none_more, threes_push}
use Rattle.run_threads.specs.Jobs.{lists_of}
use Rattle.run_cluster.specs.Crews.{IsLeftBy}
use Rattle.run_cluster.proofs.left.places_left.Goals as goal

pub loop-control-init : goal.loop-control-init
loop-control-init g c = (
  tt,
  tt,
  first_of (search rules, grind (arith, common_steps)),
  ([], first_of (search rules, grind (arith, common_steps)), refl, rw c.new-places.ensures.items tt),
)

pub unwrap-own-requires : goal.unwrap-own-requires
unwrap-own-requires g c =
    let i = c.loop-control.invariant in
    let d = i.3 in
    let goes = ap (λ (l : List _). c.loop-control.yielded ++ l) (sym c.in-Some.ensures.steps.0) ∙ i.2 in
    let left = c.loop-control.datas in
    let long = more_left d.0 left.items c.args.datas.now.items c.loop-control.yielded c.next.new.self.rest.items c.args.controls.items c.in-Some.control d.1 goes d.2 c.requires in
    c.pop.ensures.variant.1 (subst (λ (n : ℕ). 0 < n) (sym left.ok.0) long)

pub loop-control-preserved : goal.loop-control-preserved
loop-control-preserved g c =
    let i = c.loop-control.invariant in
    let d = i.3 in
    let before = c.loop-control.yielded in
    let x = c.in-Some.control in
    let y = c.unwrap-own.result in
    let p = c.in_ok-place_left.field-0 in
    let goes = ap (λ (l : List _). before ++ l) (sym c.in-Some.ensures.steps.0) ∙ i.2 in
    let popped = pop_is _ _ _ _ c.pop.ensures.items c.unwrap-own.ensures in (
      tt,
      tt,
      append_assoc before (x ∷ []) c.next.new.self.rest.items ∙ goes,
      (
        d.0 ++ y ∷ [],
        taken_off d.0 c.loop-control.datas.items c.pop.new.self.items c.args.datas.now.items y d.1 popped,
        length-append d.0 (y ∷ []) ∙ ap (λ (n : ℕ). n + 1) d.2 ∙ sym (length-append before (x ∷ [])),
        subst (λ (l : List _). Threewise IsLeftBy (before ++ x ∷ []) (lists_of (d.0 ++ y ∷ [])) l) (sym c.in_ok-push.ensures.items)
            (subst (λ (l : List (List _)). Threewise IsLeftBy (before ++ x ∷ []) l (c.loop-control.places.items ++ p ∷ [])) (sym (map-append (λ own. own.items) d.0 (y ∷ [])))
            (threes_push IsLeftBy before (lists_of d.0) c.loop-control.places.items x y.items p d.3 c.in_ok-place_left.ensures)),
      ),
    )

pub returns : goal.returns
returns g c =
    let i = c.loop-control.invariant in
    let d = i.3 in
    let left = c.loop-control.datas.items in
    let rest = c.loop-control.control-iterator.rest in
    let all = no_more c.loop-control.yielded rest.items c.args.controls.items i.2 (sym rest.ok.0 ∙ c.in-None.ensures.steps.0) in
    let none = none_more d.0 left c.args.datas.now.items c.loop-control.yielded d.1 d.2 (c.requires ∙ sym (ap length all)) in
    let same = none_left d.0 left c.args.datas.now.items d.1 none in
    subst (λ (l : List _). Threewise IsLeftBy l (lists_of c.args.datas.now.items) c.loop-control.places.items) all
    (subst (λ (l : List _). Threewise IsLeftBy c.loop-control.yielded (lists_of l) c.loop-control.places.items) same d.3)
