use Rattle.std.proofs.Common.{◌≡◌, ◌<◌, ◌^◌, sym, ◌∙◌, ap, true, length, List, subst}
use Rattle.std.specs.List.{sum_by}
use Rattle.std.proofs.lemmas.Result.{IfOk-weaker}
use Rattle.task_events.specs.declared.request.Request.TheVariants as asks
use Rattle.task_events.specs.declared.reply.ShardCount.{ShardCount}
use Rattle.task_events.specs.declared.reply.SearchReply.{SearchReply}
use Rattle.task_events.specs.declared.step.Asked.{Asked}
use Rattle.task_events.specs.Kinds.{can_have}
use Rattle.task_events.specs.Searches.{counts_in}
use Rattle.search_phase.specs.Searching.{Searching, IsSearching, has_ended, next_step, search_answer, answer_of, reply_with}
use Rattle.search_phase.proofs.AnswerParts.{ended_is_known}
use Rattle.search_phase.proofs.CountsFit.{total_fits}
use Rattle.search_phase.proofs.Plain.{honest_search_is_plain}
use Rattle.search_phase.proofs.PossibleReply.{search_is_possible, page_is_possible}
use Rattle.search_phase.proofs.root.SearchRoot.finish.Goals as goal

pub unreachable-requires : goal.unreachable-requires
unreachable-requires c =
    let s : Searching = record { reading = c.self.inside.reading; asked = c.self.inside.asked.items } in
    ended_is_known s c.self.inside.fetching _ c.self.invariant (ap (λ s. has_ended (next_step s)) c.self.view_is ∙ c.requires) c.in_default.is

pub answer-requires-clause-total : goal.answer-requires-clause-total
answer-requires-clause-total c =
    let s : Searching = record { reading = c.self.inside.reading; asked = c.self.inside.asked.items } in
    let P : List Asked → Type 0 = λ l. sum_by (λ (n : ShardCount). n.count) (counts_in s.reading l) < 2 ^ 64 in
    subst P (sym c.as_slice.ensures.value) (total_fits s c.self.invariant.search)

pub returns-clause-answer : goal.returns-clause-answer
returns-clause-answer c =
    let s : Searching = record { reading = c.self.inside.reading; asked = c.self.inside.asked.items } in
    IfOk-weaker c.answer.result _ _ (λ answer e. e ∙ ap (search_answer s.reading) c.as_slice.ensures.value ∙ ap answer_of c.self.view_is) c.answer.ensures

pub returns-clause-plain : goal.returns-clause-plain
returns-clause-plain c = λ writes honest.
    let s : Searching = record { reading = c.self.inside.reading; asked = c.self.inside.asked.items } in
    let sound : IsSearching c.args.self.now = subst IsSearching c.self.view_is c.self.invariant.search in
    let same : search_answer s.reading c.as_slice.result.now ≡ answer_of c.args.self.now = ap (search_answer s.reading) c.as_slice.ensures.value ∙ ap answer_of c.self.view_is in
    IfOk-weaker c.answer.result _ _ (λ answer e. ap (reply_with (length c.args.self.now.reading.shards)) (e ∙ same) ∙ honest_search_is_plain writes c.args.self.now sound c.requires honest) c.answer.ensures

pub returns-clause-possible : goal.returns-clause-possible
returns-clause-possible c = λ task ask shards few is.
    let s : Searching = record { reading = c.self.inside.reading; asked = c.self.inside.asked.items } in
    let sound : IsSearching c.args.self.now = subst IsSearching c.self.view_is c.self.invariant.search in
    let same : search_answer s.reading c.as_slice.result.now ≡ answer_of c.args.self.now = ap (search_answer s.reading) c.as_slice.ensures.value ∙ ap answer_of c.self.view_is in
    let P : SearchReply → Type 0 = λ answer. can_have shards (asks.Search ask) (reply_with (length c.args.self.now.reading.shards) answer) ≡ true in
    IfOk-weaker c.answer.result _ _ (λ answer e. subst P (sym (e ∙ same)) (search_is_possible c.args.self.now sound task ask shards few is)) c.answer.ensures

pub returns-clause-page_possible : goal.returns-clause-page_possible
returns-clause-page_possible c = λ context ask shards own few most size is.
    let s : Searching = record { reading = c.self.inside.reading; asked = c.self.inside.asked.items } in
    let sound : IsSearching c.args.self.now = subst IsSearching c.self.view_is c.self.invariant.search in
    let same : search_answer s.reading c.as_slice.result.now ≡ answer_of c.args.self.now = ap (search_answer s.reading) c.as_slice.ensures.value ∙ ap answer_of c.self.view_is in
    let P : SearchReply → Type 0 = λ answer. can_have shards (asks.Scroll ask) (reply_with (length c.args.self.now.reading.shards) answer) ≡ true in
    IfOk-weaker c.answer.result _ _ (λ answer e. subst P (sym (e ∙ same)) (page_is_possible c.args.self.now sound context ask shards own few most size is)) c.answer.ensures
