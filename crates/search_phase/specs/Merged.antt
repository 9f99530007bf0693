-- The keys of several shards as one list.
use Rattle.std.specs.Prelude.{List}
use Rattle.std.specs.List.{flat_map}
use Rattle.task_events.specs.declared.request.HitKey.{HitKey}
use Rattle.task_events.specs.declared.reply.ShardTop.{ShardTop}
use Rattle.task_events.specs.HitOrder.{in_hit_order}

-- the keys of all tops, in hit order
abbrev pub merged_keys : List ShardTop → List HitKey
merged_keys tops = in_hit_order (flat_map (λ top. top.keys) tops)
