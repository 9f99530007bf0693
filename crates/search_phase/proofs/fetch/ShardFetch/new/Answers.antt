use Rattle.std.proofs.Common.{sym, subst}
use Rattle.search_phase.specs.Fetches.{IsFetched}
use Rattle.search_phase.proofs.Growing.{new_fetch-fetched}
use Rattle.search_phase.proofs.fetch.ShardFetch.new.Goals as goal

pub returns-clause-fetched : goal.returns-clause-fetched
returns-clause-fetched c = λ writes. subst (λ hits. IsFetched (record { ask = c.args.ask; turns = 0; hits = hits }) writes) (sym c.new.ensures.items) (new_fetch-fetched c.args.ask writes)
