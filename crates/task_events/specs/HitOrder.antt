-- Hit order: by the keys of the sort, then by shard, then by place.
use Rattle.std.specs.Prelude.{Bool, true, List, [], ◌∷◌, Option, if◌then◌else◌}
use Rattle.std.specs.declared.cmp.Ordering.{Ordering}
use Rattle.std.specs.Ordering.{nat_cmp, ordering_then, is_lt, is_le}
use Rattle.std.specs.Option.{option_map_or}
use Rattle.query_match.specs.Sorting.{key_cmp}
use Rattle.task_events.specs.declared.request.HitKey.{HitKey}

abbrev pub hit_cmp : HitKey → HitKey → Ordering
hit_cmp a b = ordering_then (key_cmp a.sort b.sort) (ordering_then (nat_cmp a.shard b.shard) (nat_cmp a.place b.place))

-- the key put where it stands among keys in hit order
abbrev pub placed : HitKey → List HitKey → List HitKey
placed key [] = key ∷ []
placed key (next ∷ later) = if is_le (hit_cmp key next) then key ∷ next ∷ later else next ∷ placed key later

abbrev pub in_hit_order : List HitKey → List HitKey
in_hit_order [] = []
in_hit_order (key ∷ keys) = placed key (in_hit_order keys)

-- the key stands after the cursor, where there is one
abbrev pub is_after : Option HitKey → HitKey → Bool
is_after cursor key = option_map_or (λ last. is_lt (hit_cmp last key)) cursor true
