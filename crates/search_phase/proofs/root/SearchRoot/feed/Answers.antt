use Rattle.std.proofs.Common.{ℕ, ◌≡◌, sym, ◌∙◌, ap, true, Some, arith, subst, length, List, position, is_some}
use Rattle.std.specs.Prelude.{vec_capacity}
use Rattle.task_events.specs.declared.step.Asked.{Asked}
use Rattle.search_phase.specs.Searching.{Searching, is_open, takes, with_answer}
use Rattle.search_phase.specs.FetchPhase.{fetching_in}
use Rattle.search_phase.specs.Roots.{IsRoot}
use Rattle.search_phase.proofs.Roots.{IsRoot-answer, fetching_kept}
use Rattle.search_phase.proofs.AnswerParts.{an_ask_waits, IsFed, is_fed, answer_dropped, still_below}
use Rattle.search_phase.proofs.root.SearchRoot.feed.Goals as goal

pub unreachable-requires : goal.unreachable-requires
unreachable-requires c =
    let s : Searching = record { reading = c.self.inside.reading; asked = c.self.inside.asked.items } in
    let t : takes s c.args.ask c.args.reply ≡ true = ap (λ s. takes s c.args.ask c.args.reply) c.self.view_is ∙ c.requires in
    an_ask_waits s c.args.ask c.args.reply t (ap (position (is_open c.args.ask)) (sym c.as_slice.ensures.value) ∙ sym c.place_of.ensures ∙ c.in_default.is)

pub invariant_of-self : goal.invariant_of-self
invariant_of-self c =
    let s : Searching = record { reading = c.self.inside.reading; asked = c.self.inside.asked.items } in
    let ask = c.args.ask in
    let reply = c.args.reply in
    let fed : IsFed s ask reply c.in-Some.place c.set_answer.new.asked.items = is_fed s _ ask reply _ _ _ _ c.self.invariant.search c.self.view_is c.requires c.as_slice.ensures.value c.place_of.ensures c.in-Some.is c.set_answer.ensures.items in
    let view : List Asked → Searching = λ l. record { reading = c.self.inside.reading; asked = l } in
    let room : vec_capacity c.set_answer.new.asked ≡ vec_capacity c.self.inside.asked = c.set_answer.ensures.room in
    let known : is_some c.self.inside.fetching ≡ true = sym c.is_some.ensures ∙ c.if-is_some.true in
    let Q : List Asked → Type 0 = λ l. IsRoot (view l) c.self.inside.fetching (vec_capacity c.set_answer.new.asked) in
    subst Q (sym fed.same) (IsRoot-answer s c.self.inside.fetching (vec_capacity c.self.inside.asked) c.self.invariant ask reply c.self.inside.fetching (vec_capacity c.set_answer.new.asked) fed.taken
    (fetching_kept s c.self.inside.fetching (vec_capacity c.self.inside.asked) c.self.invariant ask reply fed.taken known) (omega arith))

pub returns-then-is_some-clause-ok : goal.returns-then-is_some-clause-ok
returns-then-is_some-clause-ok c =
    let s : Searching = record { reading = c.self.inside.reading; asked = c.self.inside.asked.items } in
    let ask = c.args.ask in
    let reply = c.args.reply in
    let fed : IsFed s ask reply c.in-Some.place c.set_answer.new.asked.items = is_fed s _ ask reply _ _ _ _ c.self.invariant.search c.self.view_is c.requires c.as_slice.ensures.value c.place_of.ensures c.in-Some.is c.set_answer.ensures.items in
    let view : List Asked → Searching = λ l. record { reading = c.self.inside.reading; asked = l } in
    ap view fed.same ∙ ap (λ s. with_answer s ask reply) c.self.view_is

pub invariant_of-self-in-Ok : goal.invariant_of-self-in-Ok
invariant_of-self-in-Ok c =
    let s : Searching = record { reading = c.self.inside.reading; asked = c.self.inside.asked.items } in
    let ask = c.args.ask in
    let reply = c.args.reply in
    let fed : IsFed s ask reply c.in-Some.place c.set_answer.new.asked.items = is_fed s _ ask reply _ _ _ _ c.self.invariant.search c.self.view_is c.requires c.as_slice.ensures.value c.place_of.ensures c.in-Some.is c.set_answer.ensures.items in
    let view : List Asked → Searching = λ l. record { reading = c.self.inside.reading; asked = l } in
    let room : vec_capacity c.set_answer.new.asked ≡ vec_capacity c.self.inside.asked = c.set_answer.ensures.room in
    let later : c.in-Ok.fetching ≡ fetching_in s.reading.ask (length s.reading.shards) (with_answer s ask reply).asked = c.in-Ok.ensures ∙ (λ i. fetching_in (c.ask.ensures i) (length (c.shards-shards.ensures i)) ((c.as_slice-2.ensures.value ∙ fed.same) i)) in
    let Q : List Asked → Type 0 = λ l. IsRoot (view l) c.in-Ok.fetching (vec_capacity c.set_answer.new.asked) in
    subst Q (sym fed.same) (IsRoot-answer s c.self.inside.fetching (vec_capacity c.self.inside.asked) c.self.invariant ask reply c.in-Ok.fetching (vec_capacity c.set_answer.new.asked) fed.taken later (omega arith))

pub returns-in-Ok-clause-ok : goal.returns-in-Ok-clause-ok
returns-in-Ok-clause-ok c =
    let s : Searching = record { reading = c.self.inside.reading; asked = c.self.inside.asked.items } in
    let ask = c.args.ask in
    let reply = c.args.reply in
    let fed : IsFed s ask reply c.in-Some.place c.set_answer.new.asked.items = is_fed s _ ask reply _ _ _ _ c.self.invariant.search c.self.view_is c.requires c.as_slice.ensures.value c.place_of.ensures c.in-Some.is c.set_answer.ensures.items in
    let view : List Asked → Searching = λ l. record { reading = c.self.inside.reading; asked = l } in
    ap view fed.same ∙ ap (λ s. with_answer s ask reply) c.self.view_is

pub set_answer-requires-in-Err : goal.set_answer-requires-in-Err
set_answer-requires-in-Err c =
    let s : Searching = record { reading = c.self.inside.reading; asked = c.self.inside.asked.items } in
    let ask = c.args.ask in
    let reply = c.args.reply in
    let fed : IsFed s ask reply c.in-Some.place c.set_answer.new.asked.items = is_fed s _ ask reply _ _ _ _ c.self.invariant.search c.self.view_is c.requires c.as_slice.ensures.value c.place_of.ensures c.in-Some.is c.set_answer.ensures.items in
    still_below c.set_answer.new.asked.items c.in-Some.place s.asked (record { ask = fed.asks.ask; answer = Some reply }) fed.waits.below fed.put

pub invariant_of-self-in-Err : goal.invariant_of-self-in-Err
invariant_of-self-in-Err c =
    let s : Searching = record { reading = c.self.inside.reading; asked = c.self.inside.asked.items } in
    let ask = c.args.ask in
    let reply = c.args.reply in
    let fed : IsFed s ask reply c.in-Some.place c.set_answer.new.asked.items = is_fed s _ ask reply _ _ _ _ c.self.invariant.search c.self.view_is c.requires c.as_slice.ensures.value c.place_of.ensures c.in-Some.is c.set_answer.ensures.items in
    let view : List Asked → Searching = λ l. record { reading = c.self.inside.reading; asked = l } in
    let back : c.set_answer-in-Err.new.asked.items ≡ s.asked = answer_dropped s ask reply c.in-Some.place fed.asks c.set_answer.new.asked.items c.set_answer-in-Err.new.asked.items fed.waits fed.put c.set_answer-in-Err.ensures.items in
    let room : vec_capacity c.set_answer.new.asked ≡ vec_capacity c.self.inside.asked = c.set_answer.ensures.room in
    let room_still : vec_capacity c.set_answer-in-Err.new.asked ≡ vec_capacity c.set_answer.new.asked = c.set_answer-in-Err.ensures.room in
    let Q : List Asked → Type 0 = λ l. IsRoot (view l) c.self.inside.fetching (vec_capacity c.set_answer-in-Err.new.asked) in
    let P : ℕ → Type 0 = λ n. IsRoot s c.self.inside.fetching n in
    subst Q (sym back) (subst P (sym (room_still ∙ room)) c.self.invariant)

pub returns-in-Err-clause-err : goal.returns-in-Err-clause-err
returns-in-Err-clause-err c =
    let s : Searching = record { reading = c.self.inside.reading; asked = c.self.inside.asked.items } in
    let ask = c.args.ask in
    let reply = c.args.reply in
    let fed : IsFed s ask reply c.in-Some.place c.set_answer.new.asked.items = is_fed s _ ask reply _ _ _ _ c.self.invariant.search c.self.view_is c.requires c.as_slice.ensures.value c.place_of.ensures c.in-Some.is c.set_answer.ensures.items in
    let view : List Asked → Searching = λ l. record { reading = c.self.inside.reading; asked = l } in
    let back : c.set_answer-in-Err.new.asked.items ≡ s.asked = answer_dropped s ask reply c.in-Some.place fed.asks c.set_answer.new.asked.items c.set_answer-in-Err.new.asked.items fed.waits fed.put c.set_answer-in-Err.ensures.items in
    ap view back ∙ c.self.view_is
