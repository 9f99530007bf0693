-- The source and the sink over memory, as contracts see them.
use Rattle.std.specs.Prelude.{ℕ, List, Bool, ◌==◌}
use Rattle.std.specs.List.{list_any}

-- a source over memory
pub record SourceState : Type 0 where
  -- the bytes still to come
  pub left : List ℕ
  -- the most bytes that a call gives
  pub piece : ℕ
  -- the calls that fail, counted from 1
  pub failing : List ℕ
  -- the calls so far
  pub calls : ℕ
  -- the failures so far
  pub faults : ℕ

-- a sink over memory
pub record SinkState : Type 0 where
  -- the bytes that it took
  pub written : List ℕ
  -- the most bytes that a call takes
  pub piece : ℕ
  -- the calls that fail, counted from 1
  pub failing : List ℕ
  -- the calls so far
  pub calls : ℕ
  -- the failures so far
  pub faults : ℕ

-- this call is one of those that fail
abbrev pub is_failing : List ℕ → ℕ → Bool
is_failing failing call = list_any (λ k. k == call) failing
