use Rattle.std.proofs.Common.{◌≡◌, true, sym, subst}
use Rattle.corpus_shards.specs.Stored.{is_among}
use Rattle.corpus_shards.proofs.Notes.{push_notes, of_itself}
use Rattle.corpus_shards.proofs.Shards.note_stale.Goals as goal

pub returns-clause-ok : goal.returns-clause-ok
returns-clause-ok c =
    subst (λ those. is_among those c.args.index c.args.shard ≡ true) (sym c.in_ok-push.ensures.items)
    (push_notes c.args.self.now.stale.items (record { index = c.args.index; shard = c.args.shard }) c.args.index c.args.shard (of_itself c.args.index c.args.shard))
