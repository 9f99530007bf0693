-- The sink took the first bytes, and each turn sends a byte more.
use Rattle.std.proofs.Common.{◌≡◌, ◌≤◌, ◌-◌, length, take}
use Rattle.es_io.specs.Bytes.{Appends}
use Rattle.es_io.proofs.whole.write_all_of.Given as goal

abbrev pub invariant-loop-sent : goal.invariant-loop-sent
invariant-loop-sent g l = record {
  within : l.sent ≤ length l.bytes;
  taken : Appends (g.K.Sink.written l.initial.sink) (g.K.Sink.written l.sink) (take l.sent l.bytes);
  quiet : g.K.Sink.faults l.sink ≡ g.K.Sink.faults l.initial.sink;
}

abbrev pub decreases-loop-sent : goal.decreases-loop-sent
decreases-loop-sent g l = length l.bytes - l.sent
