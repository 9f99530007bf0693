use Rattle.std.proofs.Common.{◌≡◌, ◌∙◌, ap, true}
use Rattle.reindex.specs.Roots.{Cutting, cut_takes}
use Rattle.reindex.proofs.RootLemmas.{cut_fed, cut_small, told_small, told_few}
use Rattle.reindex.proofs.slices.Slices.feed.Goals as goal

pub sum_with-self-inside-requires : goal.sum_with-self-inside-requires
sum_with-self-inside-requires c = record {
  counts = cut_small _ _ c.self.invariant;
  told = told_small c.args.self.now c.args.ask c.args.reply.now c.requires;
  told_failures = told_few c.args.self.now c.args.ask c.args.reply.now c.requires;
}

pub invariant_of-self : goal.invariant_of-self
invariant_of-self c =
    let was : Cutting = record { ask = c.self.inside.ask; made = c.self.inside.made; open_asks = c.self.inside.open.items; counts = c.self.inside.counts } in
    let takes : cut_takes was c.args.ask c.args.reply.now ≡ true = ap (λ (s : Cutting). cut_takes s c.args.ask c.args.reply.now) c.self.view_is ∙ c.requires in
    rw (c.close.ensures.room, c.close.ensures.items, c.sum_with-self-inside.ensures) (cut_fed was _ c.args.ask c.args.reply.now c.self.invariant takes)
