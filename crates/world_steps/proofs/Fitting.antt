-- The commands that are read of a script are those that the world can do.
use Rattle.std.proofs.Common.{ℕ, List, [], ◌∷◌, ◌++◌}
use Rattle.script_lang.specs.declared.command.Command.{Command}
use Rattle.script_lang.specs.declared.command.Command.TheVariants.{Search, Scroll, ClearScroll, Reindex, Cancel, ListTasks, GetTask, ForgetTask, ListResults, Tick, Deliver, Step, ListStep, Settle, Shuffle, WaitFor, History, Summary}
use Rattle.script_lang.specs.Fits.{Fits, AllFit}
use Rattle.world_steps.specs.Scripts.{CanDo, CanRun}

one_can : (nodes : ℕ) (before : List Command) (command : Command) → Fits nodes before command → CanDo nodes command
one_can nodes before (Search index node scroll body opaque_id) fits = fits
one_can nodes before (Scroll target keep opaque_id) fits = tt
one_can nodes before (ClearScroll target) fits = tt
one_can nodes before (Reindex node body slices rate opaque_id store) fits = fits
one_can nodes before (Tick ms) fits = fits
one_can nodes before (Cancel target reason wait) fits = tt
one_can nodes before (ListTasks wanted group detailed) fits = tt
one_can nodes before (GetTask task wait) fits = tt
one_can nodes before (ForgetTask task) fits = tt
one_can nodes before ListResults fits = tt
one_can nodes before (Deliver nth) fits = tt
one_can nodes before (Step task) fits = tt
one_can nodes before (ListStep node parent) fits = tt
one_can nodes before Settle fits = tt
one_can nodes before (Shuffle seed moves) fits = tt
one_can nodes before (WaitFor waited) fits = tt
one_can nodes before History fits = tt
one_can nodes before Summary fits = tt

pub all_can : (nodes : ℕ) (before commands : List Command) → AllFit nodes before commands → CanRun nodes commands
all_can nodes before [] fits = tt
all_can nodes before (command ∷ rest) fits = (one_can nodes before command fits.0, all_can nodes (before ++ command ∷ []) rest fits.1)
