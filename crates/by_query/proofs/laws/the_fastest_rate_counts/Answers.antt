use Rattle.by_query.proofs.RateLemmas.{due_at}
use Rattle.by_query.proofs.laws.the_fastest_rate_counts.Goals as goal

pub returns : goal.returns
returns c = λ pace batch spent now later. due_at pace batch spent now later
