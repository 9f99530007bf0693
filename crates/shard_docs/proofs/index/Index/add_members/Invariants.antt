use Rattle.std.proofs.Common.{◌≡◌, ℕ, List, true, false, drop, ◌⊎◌}
use Rattle.std.specs.List.{list_any}
use Rattle.task_ids.specs.Source.{members_in}
use Rattle.query_match.specs.Matching.{holds}
use Rattle.query_match.specs.Values.{is_key, held_at}
use Rattle.query_match.specs.declared.query.Test.TheVariants.{Equals}
use Rattle.query_match.specs.declared.scalar.Scalar.{Scalar}
use Rattle.shard_docs.specs.Places.{places_of, MayAdd, HasAdded}
use Rattle.shard_docs.proofs.index.Index.add_members.Given as goal

-- what is not added yet is at the keys that are left, and what is at none of them stays
abbrev pub invariant-loop-member : goal.invariant-loop-member
invariant-loop-member l = MayAdd l.place l.initial.self l.self
    × ((f : List ℕ) (v : Scalar) → is_key f ≡ true → list_any (holds (Equals v)) (held_at f (members_in l.members)) ≡ true
    → HasAdded l.place f v l.initial.self l.self ⊎ (list_any (holds (Equals v)) (held_at f (members_in (drop l.member-index l.members))) ≡ true))
    × ((f : List ℕ) (v : Scalar) → list_any (holds (Equals v)) (held_at f (members_in l.members)) ≡ false
    → (places_of l.self f v ≡ places_of l.initial.self f v) × (list_any (holds (Equals v)) (held_at f (members_in (drop l.member-index l.members))) ≡ false))
