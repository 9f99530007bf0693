-- The answer is put together from what the fields say.
use Rattle.std.proofs.Common.{◌≡◌, ◌-◌, List, length, take, drop, ◌∙◌, ap, arith, filter_map}
use Rattle.std.specs.Prelude.{None, zip}
use Rattle.std.specs.List.{last_or}
use Rattle.std.proofs.lemmas.List.{take_all, length-drop}
use Rattle.task_events.specs.declared.reading.ShardRead.{ShardRead}
use Rattle.task_events.specs.Searches.{tops_in, fetches_of, winners_among, failed_in}
use Rattle.search_phase.specs.declared.fetching.Fetching.{Fetching}
use Rattle.search_phase.specs.FetchPhase.{failed_by, hit_by}
use Rattle.search_phase.proofs.FetchAnswers.{failed_is, hits_are}
use Rattle.search_phase.proofs.AnswerParts.{answer_by_parts}
use Rattle.search_phase.proofs.answer.answer.Goals as goal

pub returns : goal.returns
returns c =
    let r = c.args.reading.now in
    let asked = c.args.asked.now in
    let shards = length r.shards in
    let tops = tops_in shards asked in
    let fetches : c.args.fetching.now.fetches ≡ fetches_of r.ask tops = ap (λ (f : Fetching). f.fetches) c.requires.fetching in
    let won : c.args.fetching.now.won ≡ winners_among r.ask.body tops = ap (λ (f : Fetching). f.won) c.requires.fetching in
    let all : c.shards-shards.result.now ≡ r.shards = c.shards-shards.ensures in
    let n = length c.shards-shards.result.now in
    let answers : take (length asked - n) (drop n asked) ≡ drop shards asked =
    take_all (length asked - n) (drop n asked) (omega (arith, length-drop n asked)) ∙ ap (λ (l : List ShardRead). drop (length l) asked) all in
    let failed : c.in_ok-failed.failed ≡ failed_in r asked =
    c.in_ok-failed.ensures ∙ (λ i. filter_map (failed_by ((c.as_slice-fetches.ensures ∙ fetches) i) (answers i)) (zip (all i) asked)) ∙ failed_is r asked in
    let counted = c.in_ok-counts.ensures in
    let shown = c.in_ok-hits.ensures in
    let hits = (λ i. (shown i).0) ∙ (λ i. filter_map (hit_by (fetches i) (answers i)) (won i)) ∙ hits_are r.ask shards asked (winners_among r.ask.body tops) in
    let last = (λ i. (shown i).1) ∙ ap (last_or None) won in
    answer_by_parts r asked _ c.context.ensures (λ i. (counted i).0) failed (λ i. (counted i).1) hits last
