-- What was to be done is cut short where the history is full.
use Rattle.std.proofs.Common.{◌≡◌, ◌++◌, ◌∷◌, List, [], length, ap, subst, sym, refl, inr, ◌∙◌}
use Rattle.task_events.specs.declared.event.Event.{Event}
use Rattle.task_events.specs.declared.history.TheConstants.{MAX_EVENTS}
use Rattle.world_moves.specs.Moves.{IsPartOf, IsPartly, IsCutShort}

-- what is a first part of one thing that is to be done is a first part of another
pub cut_as : (P Q : List Event → Type 0) (new : List Event) → ((past : List Event) → P past → Q past) → IsCutShort P new → IsCutShort Q new
cut_as P Q new f (full, e, part) = (full, e, f (e ∷ new) part)

-- where the first event of a whole past does not fit
pub cut_first : (h new due : List Event) (e : Event) → length h ≡ MAX_EVENTS → new ≡ h → IsCutShort (λ past. IsPartOf h past (due ++ (e ∷ h))) new
cut_first h new due e full same = (ap length same ∙ full, e, subst (λ n. IsPartOf h (e ∷ n) (due ++ (e ∷ h))) (sym same) (due, e ∷ [], refl, refl))

-- what leads to a whole past does so partly
pub cut_move : (Moves : List Event → List Event → Type 0) (h new whole : List Event) → Moves h whole → IsCutShort (λ past. IsPartOf h past whole) new → IsCutShort (IsPartly Moves h) new
cut_move Moves h new whole moves = cut_as (λ past. IsPartOf h past whole) (IsPartly Moves h) new (λ past part. inr (whole, moves, part))

-- where the one event of a move does not fit
pub cut_only : (Moves : List Event → List Event → Type 0) (h new : List Event) (e : Event) → Moves h (e ∷ h) → length h ≡ MAX_EVENTS → new ≡ h → IsCutShort (IsPartly Moves h) new
cut_only Moves h new e moves full same = cut_move Moves h new (e ∷ h) moves (cut_first h new [] e full same)
