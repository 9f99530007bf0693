use Rattle.std.proofs.Common.{◌≡◌, ℕ, ◌+◌, ◌<◌, List, [], ◌∷◌, ◌++◌, length, Some, arith, ap, sym, ◌∙◌, append_assoc}
use Rattle.std.specs.Prelude.{slice_get}
use Rattle.node_link.specs.declared.ends.SenderEnd.{SenderEnd}
use Rattle.node_link.specs.Rule.{of}
use Rattle.node_link.specs.Inbox.{got, senders_of, sent_by}
use Rattle.node_link.proofs.Counts.{added, each_more, counts, all_or_less, get_at, total_append, no_more}
use Rattle.std.proofs.lemmas.Option.{slice_get_within}
use Rattle.node_link.proofs.ends.Receiver.finish.Goals as goal

pub loop-end-preserved : goal.loop-end-preserved
loop-end-preserved g c =
    let i = c.loop-end.invariant in
    let t = c.take_in-more.ensures in
    let e = c.in-Some.end in
    let k = length c.loop-end.yielded in
    let whole : c.loop-end.yielded ++ e ∷ c.next.new.self.rest.items ≡ c.args.ends.items = ap (λ l. c.loop-end.yielded ++ l) (sym c.in-Some.ensures.steps.0) ∙ i.7 in
    let number : e.number ≡ k = (c.requires.1 k e (ap (λ l. slice_get l k) (sym whole) ∙ get_at c.loop-end.yielded e c.next.new.self.rest.items)).1 in
    let P : ℕ → SenderEnd g.row.L.Denot → Type 0 = λ n s. (rest : List g.row.L.Denot) × (sent_by s ≡ of (0 + n) (got c.args.self) ++ rest) in
    let place : e.number ≡ 0 + k = omega arith in
    let mine : P k e = (t.order.0, t.order.1 ∙ ap (λ (l : List _). of e.number l ++ t.order.0) i.3.1 ∙ ap (λ (n : ℕ). of n (got c.args.self) ++ t.order.0) place) in (
      tt,
      tt,
      t.seated,
      (t.kept.0, t.kept.1 ∙ i.3.1, t.kept.2 ∙ i.3.2),
      each_more P c.loop-end.yielded e i.4 mine,
      (λ _ p le. ap (of p) (sym i.3.1) ∙ t.known p (let m = i.3.2 in omega arith)),
      c.added_up-sent.ensures ∙ (let s = i.6 in let n = t.count in let a = total_append (λ (x : SenderEnd g.row.L.Denot). length (sent_by x)) c.loop-end.yielded e in omega arith),
      append_assoc c.loop-end.yielded (e ∷ []) c.next.new.self.rest.items ∙ whole,
    )

pub returns-clause-all : goal.returns-clause-all
returns-clause-all g c same k e is =
    let i = c.loop-end.invariant in
    let whole : c.loop-end.yielded ≡ c.args.ends.items = no_more c.loop-end.yielded c.loop-end.end-iterator.rest.items c.args.ends.items i.7 (sym c.loop-end.end-iterator.rest.ok.0 ∙ c.in-None.ensures.steps.0) in
    let r = got c.args.self in
    let there : slice_get c.loop-end.yielded k ≡ Some e = ap (λ l. slice_get l k) whole ∙ is in
    let all = all_or_less sent_by r 0 c.loop-end.yielded i.4 in
    let many : length c.loop-end.yielded ≡ senders_of c.args.self = ap length whole ∙ c.requires.0 in
    let within = slice_get_within c.loop-end.yielded k e there in
    let some : 0 < length c.loop-end.yielded = omega arith in
    let count = counts (senders_of c.args.self) r (i.5 some) in
    let place : 0 + k ≡ k = omega arith in
    ap (λ n. of n r) (sym place) ∙ all.1 (ap (added (λ n. length (of n r)) 0) many ∙ count ∙ sym c.args.self.counted ∙ sym same ∙ i.6) k e there

pub returns-clause-most : goal.returns-clause-most
returns-clause-most g c some =
    let i = c.loop-end.invariant in
    let whole : c.loop-end.yielded ≡ c.args.ends.items = no_more c.loop-end.yielded c.loop-end.end-iterator.rest.items c.args.ends.items i.7 (sym c.loop-end.end-iterator.rest.ok.0 ∙ c.in-None.ensures.steps.0) in
    let r = got c.args.self in
    let all = all_or_less sent_by r 0 c.loop-end.yielded i.4 in
    let many : length c.loop-end.yielded ≡ senders_of c.args.self = ap length whole ∙ c.requires.0 in
    let there : 0 < length c.loop-end.yielded = omega arith in
    let count = counts (senders_of c.args.self) r (i.5 there) in
    let low = all.0 in
    let sum = ap (added (λ n. length (of n r)) 0) many in
    let taken = c.args.self.counted in
    let sent = i.6 in
    omega arith
