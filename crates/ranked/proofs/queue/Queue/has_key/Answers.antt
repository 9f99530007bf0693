use Rattle.std.proofs.Common.{◌≡◌, ◌∙◌, subst, is_ok}
use Rattle.std.specs.List.{list_any}
use Rattle.std.specs.BTreeMap.{is_at}
use Rattle.ranked.specs.Pieces.{joined, rank, rank_or_end}
use Rattle.ranked.proofs.Keys.{contains_answer}
use Rattle.ranked.proofs.queue.Queue.has_key.Goals as goal

pub returns : goal.returns
returns g c =
    let pieces = c.self.inside.pieces.items in
    c.is_ok.ensures.value ∙ subst (λ keys. is_ok c.search.result ≡ list_any (is_at (g.K.Ord.cmp c.args.key.now)) keys) c.self.view_is (contains_answer g.met.K.Ord.total c.args.key.now (joined pieces) (rank pieces) (rank_or_end pieces) c.search.result c.search.ensures.found c.search.ensures.absent)
