use Rattle.std.proofs.Common.{◌≡◌, ◌∙◌, true, ap}
use Rattle.reindex.specs.Bulks.{Bulking, bulk_takes}
use Rattle.reindex.proofs.BatchLemmas.{bulk_sound_answered}
use Rattle.reindex.proofs.bulk.Bulk.feed.Goals as goal

pub invariant_of-self : goal.invariant_of-self
invariant_of-self c =
    let was : Bulking = record { parts = c.self.inside.parts.items; made = c.self.inside.made; open_asks = c.self.inside.open.items; counts = c.self.inside.counts } in
    let takes : bulk_takes was c.args.ask c.args.reply.now ≡ true = ap (λ (b : Bulking). bulk_takes b c.args.ask c.args.reply.now) c.self.view_is ∙ c.requires.takes in
    rw (c.close.ensures.room, c.close.ensures.items, c.with_written-self-inside.ensures)
    (bulk_sound_answered was _ c.args.ask c.args.reply.now c.self.invariant takes)
