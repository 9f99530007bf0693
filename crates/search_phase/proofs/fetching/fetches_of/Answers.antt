-- Each top with a winner adds a fetch.
use Rattle.std.proofs.Common.{sym, ◌∙◌, ap, ◌++◌, [], ◌∷◌, map, filter, take, Bor}
use Rattle.std.proofs.lemmas.List.{take_all, map_push}
use Rattle.task_events.specs.declared.reply.ShardTop.{ShardTop}
use Rattle.task_events.specs.Searches.{fetch_of, has_winner}
use Rattle.search_phase.specs.FetchPhase.{fetches_for}
use Rattle.search_phase.proofs.FetchAnswers.{one_more}
use Rattle.search_phase.proofs.Kept.{filter_in, filter_out}
use Rattle.search_phase.proofs.fetching.fetches_of.Goals as goal
use Rattle.search_phase.proofs.fetching.fetches_of.Goals.{then-has_winner+in_ok-fetch_of+in_ok-push, else-has_winner}

pub loop-top-init : goal.loop-top-init
loop-top-init c = c.new-fetches.ensures.items

pub loop-top-preserved : goal.loop-top-preserved
loop-top-preserved c =
    let now = λ (top : Bor ShardTop). top.now in
    let ask = c.args.ask.now in
    let won = c.args.won.now in
    let tops = map now (take c.loop-top.top-index c.args.tops.now) in
    let top = c.top-item.result in
    let more = ap (λ l. fetches_for ask won (map now l)) (one_more c.args.tops.now c.loop-top.top-index top c.loop-top-test.true c.top-item.is)
    ∙ ap (fetches_for ask won) (map_push now (take c.loop-top.top-index c.args.tops.now) top) in
    elim c.if-has_winner.branch [
      | then-has_winner+in_ok-fetch_of+in_ok-push w ↦
          ap (λ v. v.items) w.fetches-is ∙ w.in_ok-push.ensures.items ∙ (λ i. c.loop-top.invariant i ++ w.in_ok-fetch_of.ensures i ∷ [])
          ∙ sym (more ∙ ap (map (fetch_of ask won)) (filter_in (has_winner won) tops top.now (sym c.has_winner.ensures ∙ w.if-has_winner.true))
          ∙ map_push (fetch_of ask won) (filter (has_winner won) tops) top.now)
      | else-has_winner w ↦
          ap (λ v. v.items) w.fetches-is ∙ c.loop-top.invariant
          ∙ sym (more ∙ ap (map (fetch_of ask won)) (filter_out (has_winner won) tops top.now (sym c.has_winner.ensures ∙ w.if-has_winner.false)))
    ]

pub returns : goal.returns
returns c =
    c.from_vec.ensures ∙ c.loop-top.invariant
    ∙ ap (λ l. fetches_for c.args.ask.now c.args.won.now (map (λ (top : Bor ShardTop). top.now) l)) (take_all c.loop-top.top-index c.args.tops.now c.loop-top-test.false)
