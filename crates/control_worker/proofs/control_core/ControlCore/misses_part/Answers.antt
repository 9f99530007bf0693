-- A gather that is not there misses each part.
use Rattle.std.proofs.Common.{sym, ap, ◌∙◌}
use Rattle.data_pool.specs.Gathered.{Gathered, takes}
use Rattle.control_worker.proofs.Gathering.{found_gather, new_gather, missing}
use Rattle.control_worker.proofs.control_core.ControlCore.misses_part.Goals as goal

pub returns-in-Some : goal.returns-in-Some
returns-in-Some c =
    let core = c.args.self.now in
    c.takes.ensures ∙ ap (λ (g : Gathered). takes g c.args.worker) (found_gather core.gathers.entries c.args.cancel core.workers c.in-Some.gather.now c.in-Some.ensures.value)

pub returns-in-None : goal.returns-in-None
returns-in-None c =
    let core = c.args.self.now in
    sym (missing core.workers c.args.worker) ∙ ap (λ (g : Gathered). takes g c.args.worker) (new_gather core.gathers.entries c.args.cancel core.workers c.in-None.ensures.value)
