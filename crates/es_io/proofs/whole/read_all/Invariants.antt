-- The text so far is what the source gave, within the limit; each turn takes a byte of what the limit still allows.
use Rattle.std.proofs.Common.{◌≡◌, ◌≤◌, ◌<◌, ◌-◌, vec_len}
use Rattle.es_io.proofs.Reading.{SplitsInto}
use Rattle.es_io.proofs.whole.read_all.Given as goal

abbrev pub invariant-loop-text : goal.invariant-loop-text
invariant-loop-text g l = record {
  has_room : 0 < vec_len l.room;
  within : vec_len l.text ≤ l.limit;
  split : SplitsInto (g.S.Source.left l.initial.source) (g.S.Source.left l.source) l.text.items;
  quiet : g.S.Source.faults l.source ≡ g.S.Source.faults l.initial.source;
}

abbrev pub decreases-loop-text : goal.decreases-loop-text
decreases-loop-text g l = l.limit - vec_len l.text
