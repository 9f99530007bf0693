-- A core and its seat stay together: what is to be shown after calls on the board.
use Rattle.std.proofs.Common.{ℕ, Option, refl, sym, ◌∙◌, subst}
use Rattle.live_tasks.specs.declared.live.LiveTasks.{LiveTasks}
use Rattle.live_tasks.specs.Live.{SameCore}
use Rattle.std.specs.Prelude.{IfSome}
use Rattle.node_boards.specs.Seats.{IsFresh}
use Rattle.live_tasks.specs.Ties.{Together, StaysTogether}
use Rattle.live_tasks.proofs.Belonging.{together_new, together_stays}
use Rattle.node_link.specs.Lawful.{IsWorker}
use Rattle.data_parts.specs.Slices.{Contexts}
use Rattle.data_core.specs.declared.state.DataCore.{DataCore}
use Rattle.data_core.specs.Cores.{IsSound, IsNewDataCore, IsGoodEntry, AreGood, SameSelf}

module _ (allowed : ℕ → Type 0) (n m : ℕ) (has held : ℕ → ℕ → Type 0) (drawn unused : Option ℕ) (clear passed : ℕ → Type 0) (old new : DataCore) where
  pub sound_after : IsSound allowed n has drawn clear old → Together m held unused passed new.live → SameSelf old new → AreGood allowed new.shards new.live → IsSound allowed m held unused passed new
  sound_after sound together same good = record {
    together = together;
    own = same.node ∙ sound.own ∙ sym sound.together.of_node ∙ sym same.core.0 ∙ together.of_node;
    worker = subst IsWorker (sym same.worker) sound.worker;
    good = good;
  }

pub then_self : (a b c : DataCore) → SameSelf a b → SameSelf b c → SameSelf a c
then_self a b c first second = record {
  node = second.node ∙ first.node;
  worker = second.worker ∙ first.worker;
  cluster = second.cluster ∙ first.cluster;
  pool = second.pool ∙ first.pool;
  numbers = second.numbers ∙ first.numbers;
  core = (second.core.0 ∙ first.core.0, second.core.1 ∙ first.core.1);
}

pub new_sound : (allowed : ℕ → Type 0) (node : ℕ) (has : ℕ → ℕ → Type 0) (drawn : Option ℕ) (clear : ℕ → Type 0) (core : DataCore) → IsNewDataCore node core → IsFresh has drawn → IsSound allowed node has drawn clear core
new_sound allowed node has drawn clear core new fresh = record {
  together = together_new node has drawn clear core.live new.live fresh;
  own = new.own;
  worker = new.worker;
  good = λ n. subst (λ o. IfSome o (IsGoodEntry allowed core.shards)) (sym (new.live.tasks n)) tt;
}

-- a core whose live tasks stay with the seat, without a call
pub sound_stays : (allowed : ℕ → Type 0) (node : ℕ) (has : ℕ → ℕ → Type 0) (drawn : Option ℕ) (clear : ℕ → Type 0) (old new : DataCore) → IsSound allowed node has drawn clear old → StaysTogether old.live new.live → SameSelf old new → AreGood allowed new.shards new.live → IsSound allowed node has drawn clear new
sound_stays allowed node has drawn clear old new sound stays same good =
    sound_after allowed node node has has drawn drawn clear clear old new sound (together_stays node has drawn clear old.live new.live sound.together stays) same good

-- only its live tasks have changed, by calls on the board
module _ (allowed : ℕ → Type 0) (n m : ℕ) (has held : ℕ → ℕ → Type 0) (drawn unused : Option ℕ) (clear passed : ℕ → Type 0) (old : DataCore) (live : LiveTasks) where
  pub tasks_sound : IsSound allowed n has drawn clear old → Together m held unused passed live → SameCore old.live live → AreGood allowed old.shards live → IsSound allowed m held unused passed (record old { live = live })
  tasks_sound sound together core good = sound_after allowed n m has held drawn unused clear passed old (record old { live = live }) sound together (record { node = refl; worker = refl; cluster = refl; pool = refl; numbers = refl; core = core }) good

-- and the contexts of its slices may change
module _ (allowed : ℕ → Type 0) (n : ℕ) (has : ℕ → ℕ → Type 0) (drawn : Option ℕ) (clear : ℕ → Type 0) (core : DataCore) (contexts : Contexts) where
  pub contexts_sound : IsSound allowed n has drawn clear core → IsSound allowed n has drawn clear (record core { contexts = contexts })
  contexts_sound s = record { together = s.together; own = s.own; worker = s.worker; good = s.good }
