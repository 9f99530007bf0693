-- Shards ascend where each is below the next.
use Rattle.std.proofs.Common.{◌≡◌, ◌↔◌, Bool, true, false, IsTrue, List, [], ◌∷◌, nat_lt, arith, rules}
use Rattle.std.specs.List.{IsAllAdjacentAnswer}
use Rattle.std.proofs.lemmas.Bool.Decides.{nat_tests}
use Rattle.task_events.specs.declared.reply.ShardCount.{ShardCount}
use Rattle.task_events.specs.Counts.{Ascend}

-- what a test of each two neighbours says
pub ascend_by_answer : (counts : List ShardCount) (r : Bool) → IsAllAdjacentAnswer (λ one next b. b ≡ nat_lt one.shard next.shard) counts r → IsTrue r ↔ Ascend counts
ascend_by_answer counts true h = ((λ _ k d within. let below = h k d within in grind (arith, nat_tests)), (λ _. search rules))
ascend_by_answer [] false h = absurd (let within = h.1 in omega (arith, within))
ascend_by_answer (n ∷ ns) false h = (
  (λ wrong. absurd (cc)),
  (λ ascends.
      let below = ascends h.0 n h.1 in
      let above = h.2 n in
      absurd (grind (arith, nat_tests))),
)
