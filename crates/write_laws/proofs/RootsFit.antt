-- What is so where each root of a history came. One that shows a page finds its context free, and takes none that belongs to a task.
use Rattle.std.proofs.Common.{ℕ, List, [], ◌∷◌, Option}
use Rattle.std.specs.Prelude.{⊤}
use Rattle.task_events.specs.declared.event.Event.{Event}
use Rattle.task_events.specs.declared.event.Event.TheVariants.{Root}
use Rattle.task_events.specs.declared.request.Request.{Request}
use Rattle.task_events.specs.Contexts.{context_at}
use Rattle.task_events.specs.Requests.{Scripted}
use Rattle.world_moves.specs.Owning.{FindsFree, MayTakeFree}

-- so it was where each root came, of the command of this number
abbrev pub EachRoot : (ℕ → List Event → Type 0) → List Event → Type 0
EachRoot So [] = ⊤
EachRoot So (Root k t ∷ h) = So k h × EachRoot So h
EachRoot So (_ ∷ h) = EachRoot So h

-- so it was at each earlier moment
pub roots_before : (So : ℕ → List Event → Type 0) (e : Event) (h : List Event) → EachRoot So (e ∷ h) → EachRoot So h
roots_before So (Root k t) h each = each.1
roots_before So _ h each = each

-- what a root asks for: where it is a page, its context stands, no task uses it, and it belongs to none
abbrev pub RootFits : Scripted → Option Request → List Event → Type 0
RootFits said request h = FindsFree (λ id. context_at said id h) request × MayTakeFree said request h

abbrev pub RootsFit : Scripted → List Event → Type 0
RootsFit said h = EachRoot (λ k past. RootFits said (said.root k past) past) h

pub fit_before : (said : Scripted) (e : Event) (h : List Event) → RootsFit said (e ∷ h) → RootsFit said h
fit_before said e h fit = roots_before (λ k past. RootFits said (said.root k past) past) e h fit
