use Rattle.std.proofs.Common.{◌≤◌, subst, rules, length}
use Rattle.std.proofs.lemmas.Option.{slice_get_past}
use Rattle.search_phase.proofs.SameRequests.{fetch_told, none_told}
use Rattle.search_phase.proofs.same.is_request_at.Goals as goal

pub returns-in-Some-fetch_at : goal.returns-in-Some-fetch_at
returns-in-Some-fetch_at c =
    let past : length c.shards-shards.result.now ≤ c.args.place = rw c.in_default.is at c.get.ensures.lookup.3 in
    let none = slice_get_past c.args.reading.now.shards c.args.place (subst (λ l. length l ≤ c.args.place) c.shards-shards.ensures past) in
    fetch_told c.args.reading.now c.args.fetching.now c.args.place c.args.request.now none c.in-Some-fetch_at.fetch.now c.is_its_fetch.result (search rules) c.is_its_fetch.ensures

pub returns-in-None : goal.returns-in-None
returns-in-None c =
    let past : length c.shards-shards.result.now ≤ c.args.place = rw c.in_default.is at c.get.ensures.lookup.3 in
    let none = slice_get_past c.args.reading.now.shards c.args.place (subst (λ l. length l ≤ c.args.place) c.shards-shards.ensures past) in
    none_told c.args.reading.now c.args.fetching.now c.args.place c.args.request.now none (search rules)
