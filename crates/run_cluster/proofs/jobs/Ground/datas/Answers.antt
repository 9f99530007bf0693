use Rattle.std.proofs.Common.{◌≡◌, ◌<◌, ◌+◌, ℕ, List, [], ◌∷◌, ◌++◌, length, length-append, refl, sym, ap, ◌∙◌, subst, append_assoc, Some, rules, arith}
use Rattle.std.specs.Prelude.{slice_get}
use Rattle.std.proofs.lemmas.Grind.{common_steps}
use Rattle.node_link.proofs.Counts.{each_more, no_more}
use Rattle.race_board.specs.Seats.{IsNew}
use Rattle.run_inboxes.specs.Pairs.{Pairwise}
use Rattle.run_inboxes.proofs.Pairs.{pairs_length, pairs_push, taken_off, next_there, pop_is, more_left, within}
use Rattle.run_cluster.specs.Crews.{BeginsWith, IsDataOn}
use Rattle.run_cluster.proofs.Manning.{all_there}
use Rattle.run_cluster.proofs.jobs.Ground.datas.Goals as goal

pub loop-own-init : goal.loop-own-init
loop-own-init g c = (
  tt,
  tt,
  first_of (search rules, grind (arith, common_steps)),
  ([], first_of (search rules, grind (arith, common_steps)), refl),
  refl,
  subst (λ (l : List _). Pairwise BeginsWith [] l) (sym c.new-datas.ensures.items) tt,
  λ k w at. absurd (let none : slice_get [] k ≡ Some w = ap (λ (l : List _). slice_get l k) (sym c.new-datas.ensures.items) ∙ at in cc),
)

pub unwrap-seat-requires : goal.unwrap-seat-requires
unwrap-seat-requires g c =
    let i = c.loop-own.invariant in
    let d = i.3 in
    let goes = ap (λ (l : List _). c.loop-own.yielded ++ l) (sym c.in-Some.ensures.steps.0) ∙ i.2 in
    let left = c.loop-own.seats in
    let long = more_left d.0 left.items c.args.seats.items c.loop-own.yielded c.next.new.self.rest.items c.args.ends.items c.in-Some.own d.1 goes d.2 (c.requires.seats ∙ sym c.requires.ends) in
    c.pop.ensures.variant.1 (subst (λ (n : ℕ). 0 < n) (sym left.ok.0) long)

pub data-requires-clause-worker : goal.data-requires-clause-worker
data-requires-clause-worker g c κs w =
    let i = c.loop-own.invariant in
    let goes = ap (λ (l : List _). c.loop-own.yielded ++ l) (sym c.in-Some.ensures.steps.0) ∙ i.2 in
    let low = within c.loop-own.yielded c.next.new.self.rest.items c.args.ends.items c.in-Some.own goes in
    let same = i.4 in
    let many = c.requires.ends in
    omega arith

pub data-requires-clause-new : goal.data-requires-clause-new
data-requires-clause-new g c κs w =
    let i = c.loop-own.invariant in
    let d = i.3 in
    let popped = pop_is _ _ _ _ c.pop.ensures.items c.unwrap-seat.ensures in
    let at = next_there d.0 c.loop-own.seats.items c.pop.new.self.items c.args.seats.items c.unwrap-seat.result d.1 popped in
    all_there (IsNew c.args.board.now) c.args.seats.items (length d.0) c.unwrap-seat.result c.requires.new at

pub overflow_add-worker : goal.overflow_add-worker
overflow_add-worker g c =
    let i = c.loop-own.invariant in
    let goes = ap (λ (l : List _). c.loop-own.yielded ++ l) (sym c.in-Some.ensures.steps.0) ∙ i.2 in
    let low = within c.loop-own.yielded c.next.new.self.rest.items c.args.ends.items c.in-Some.own goes in
    let same = i.4 in
    let many = c.requires.ends in
    let few = c.requires.workers.1 in
    omega arith

pub loop-own-preserved : goal.loop-own-preserved
loop-own-preserved g c =
    let i = c.loop-own.invariant in
    let d = i.3 in
    let before = c.loop-own.yielded in
    let x = c.in-Some.own in
    let y = c.unwrap-seat.result in
    let made = c.loop-own.datas.items in
    let v = c.in_ok-data.field-0 in
    let goes = ap (λ (l : List _). before ++ l) (sym c.in-Some.ensures.steps.0) ∙ i.2 in
    let popped = pop_is _ _ _ _ c.pop.ensures.items c.unwrap-seat.ensures in
    let items = c.in_ok-push.ensures.items in
    let on = IsDataOn c.args.self.now.cluster c.args.self.now.corpus.now c.args.self.now.workers c.args.board.now in (
      tt,
      tt,
      append_assoc before (x ∷ []) c.next.new.self.rest.items ∙ goes,
      (
        d.0 ++ y ∷ [],
        taken_off d.0 c.loop-own.seats.items c.pop.new.self.items c.args.seats.items y d.1 popped,
        length-append d.0 (y ∷ []) ∙ ap (λ (n : ℕ). n + 1) d.2 ∙ sym (length-append before (x ∷ [])),
      ),
      ap (λ (n : ℕ). n + 1) i.4 ∙ sym (length-append before (x ∷ [])),
      subst (λ (l : List _). Pairwise BeginsWith (before ++ x ∷ []) l) (sym items) (pairs_push BeginsWith before made x v i.5 c.in_ok-data.ensures.ends),
      subst (λ (l : List _). (k : ℕ) (w : _) → slice_get l k ≡ Some w → on k w) (sym items)
          (each_more on made v i.6 (subst (λ (n : ℕ). on n v) (i.4 ∙ sym (pairs_length BeginsWith before made i.5)) c.in_ok-data.ensures.new)),
    )

pub returns-clause-new : goal.returns-clause-new
returns-clause-new g c =
    let i = c.loop-own.invariant in
    let rest = c.loop-own.own-iterator.rest in
    let all = no_more c.loop-own.yielded rest.items c.args.ends.items i.2 (sym rest.ok.0 ∙ c.in-None.ensures.steps.0) in
    record { count = pairs_length BeginsWith c.loop-own.yielded c.loop-own.datas.items i.5 ∙ ap length all ∙ c.requires.ends; each = i.6 }

pub returns-clause-ends : goal.returns-clause-ends
returns-clause-ends g c =
    let i = c.loop-own.invariant in
    let rest = c.loop-own.own-iterator.rest in
    let all = no_more c.loop-own.yielded rest.items c.args.ends.items i.2 (sym rest.ok.0 ∙ c.in-None.ensures.steps.0) in
    subst (λ (l : List _). Pairwise BeginsWith l c.loop-own.datas.items) all i.5
