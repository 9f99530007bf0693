-- The jobs of threads, and the spawner for tests, as contracts see them.
use Rattle.std.specs.Prelude.{ℕ, List}
use Rattle.es_io.specs.declared.worker.Started.{Started}

-- a spawner that fails at the calls that it was told
pub record SpawnerState : Type 0 where
  -- the calls that fail, counted from 1
  pub failing : List ℕ
  -- the calls so far
  pub calls : ℕ
  -- the failures so far
  pub faults : ℕ

-- the job that this thread runs
abbrev pub job_of : {J O : Type 0} → Started J O → J
job_of s = s.handle.promise.0.value
