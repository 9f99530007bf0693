use Rattle.std.proofs.Common.{◌≡◌, ◌∙◌, ap, subst, true}
use Rattle.reindex.specs.Slices.{Slicing, slice_takes}
use Rattle.reindex.specs.SliceFields.{IsSlice}
use Rattle.reindex.proofs.SliceFed.{slice_fed, told_low_enough, told_few_enough}
use Rattle.reindex.proofs.slice.Slice.feed.Goals as goal

pub counts_after-self-inside-requires-clause-told : goal.counts_after-self-inside-requires-clause-told
counts_after-self-inside-requires-clause-told c =
    told_low_enough c.args.self.now c.args.ask c.args.reply (subst (λ (s : Slicing). IsSlice s) c.self.view_is c.self.invariant) c.requires.takes

pub counts_after-self-inside-requires-clause-told_failures : goal.counts_after-self-inside-requires-clause-told_failures
counts_after-self-inside-requires-clause-told_failures c =
    told_few_enough c.args.self.now c.args.ask c.args.reply (subst (λ (s : Slicing). IsSlice s) c.self.view_is c.self.invariant) c.requires.takes

pub invariant_of-self : goal.invariant_of-self
invariant_of-self c =
    let was : Slicing = record {
      task = c.self.inside.task;
      shards = c.self.inside.shards;
      first = c.self.inside.first;
      dest = c.self.inside.dest;
      slices = c.self.inside.slices;
      rate = c.self.inside.rate;
      context = c.self.inside.context;
      phase = c.self.inside.phase;
      made = c.self.inside.made;
      counts = c.self.inside.counts;
    } in
    let takes : slice_takes was c.args.ask c.args.reply ≡ true = ap (λ (s : Slicing). slice_takes s c.args.ask c.args.reply) c.self.view_is ∙ c.requires.takes in
    rw (c.counts_after-self-inside.ensures, c.context_after-self-inside.ensures, c.in_ok-phase.ensures) (slice_fed was c.args.ask c.args.reply c.args.now c.self.invariant takes)
