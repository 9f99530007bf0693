-- The members of an object, one after the other.
use Rattle.std.proofs.Common.{◌≡◌, ℕ, ◌+◌, ◌<◌, Bool, cond, List, [], ◌∷◌, length, drop, get_or, Some, None, refl, sym, ap, ◌∙◌}
use Rattle.std.specs.Bool.{nat_eq}
use Rattle.std.specs.Cmp.Lexicographic.{pointwise}
use Rattle.std.proofs.lemmas.List.{drop_more}
use Rattle.serde_json.specs.Data.{object}
use Rattle.serde_json.specs.Find.{get_member}
use Rattle.task_ids.specs.declared.json_value.JsonMember.{JsonMember}
use Rattle.task_ids.specs.Json.{json_view, json_members}
use Rattle.task_ids.proofs.Members.{look}
use Rattle.query_parse.specs.Reading.{only_entry, empty_at, bad_value}

pub only_entry-other : (ms : List JsonMember) → (length ms ≡ 1 → ⊥) → None ≡ only_entry (json_members ms)
only_entry-other [] n = refl
only_entry-other (x ∷ []) n = absurd (n refl)
only_entry-other (x ∷ y ∷ ms) n = refl

pub empty-other : (path : List ℕ) (ms : List JsonMember) → (length ms ≡ 0 → ⊥) → empty_at path (object (json_members ms)) ≡ bad_value path
unfolding empty_at
empty-other path [] n = absurd (n refl)
empty-other path (x ∷ ms) n = refl

-- the next member is the one that is looked for, or it is passed over
pub one_look : (k : List ℕ) (ms : List JsonMember) (i : ℕ) (m : JsonMember) (b : Bool) → i < length ms → m ≡ get_or ms i m → b ≡ pointwise nat_eq k m.key
    → get_member k (json_members (drop i ms)) ≡ cond b (Some (json_view m.value)) (get_member k (json_members (drop (i + 1) ms)))
one_look k ms i m b l is same =
    ap (λ xs. get_member k (json_members xs)) (drop_more ms i m l ∙ ap (λ x. x ∷ drop (i + 1) ms) (sym is))
    ∙ look k m.key (json_view m.value) (json_members (drop (i + 1) ms)) b (sym same)
