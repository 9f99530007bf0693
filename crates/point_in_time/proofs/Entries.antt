-- When two entries of a sort are one.
use Rattle.std.proofs.Common.{◌≡◌, List, ℕ, Bool, ◌&&◌, ap, ◌∙◌}
use Rattle.std.specs.Bool.{Decides}
use Rattle.std.specs.Cmp.{booleans_Decides}
use Rattle.std.specs.Str.{bytes_eq}
use Rattle.std.proofs.Math.Bool.{beq}
use Rattle.std.proofs.lemmas.Bool.Decides.{Decides-and}
use Rattle.std.proofs.lemmas.Slice.Eq.{bytes_eq-Decides}
use Rattle.query_match.specs.declared.sort.SortBy.{SortBy}

-- a test of both fields tells it
pub entry_decides : (a b : SortBy) → Decides (bytes_eq a.field b.field && beq a.descending b.descending) (a ≡ b)
entry_decides a b =
    let both = Decides-and (bytes_eq a.field b.field) (beq a.descending b.descending) (bytes_eq-Decides a.field b.field) (booleans_Decides a.descending b.descending) in (
      λ t. ap (λ (f : List ℕ). record { field = f; descending = a.descending }) (both.0 t).0 ∙ ap (λ (d : Bool). record { field = b.field; descending = d }) (both.0 t).1,
      λ e. both.1 (ap (λ (x : SortBy). x.field) e, ap (λ (x : SortBy). x.descending) e),
    )
