use Rattle.std.proofs.Common.{◌≡◌, ℕ, ◌-◌, ◌≤◌, List, sym, ap, subst, ◌∙◌, arith, length}
use Rattle.std.proofs.lemmas.List.{length-map}
use Rattle.shard_docs.specs.SeenRows.{SeenRow, SeenRows}
use Rattle.shard_docs.specs.ShardView.{ShardView, dead_rows}
use Rattle.shard_docs.specs.Shown.{ShowsFrom}
use Rattle.shard_docs.specs.Tables.{AreDeaths}
use Rattle.shard_docs.proofs.DeadRows.{dead_grows}
use Rattle.shard_docs.proofs.DeathQueue.{up_to, few_kept, kept_count}
use Rattle.shard_docs.proofs.ShardParts.{same_writes, same_oldest, purged, deaths_left, shows}
use Rattle.shard_docs.proofs.TableLemmas.{docs_of}
use Rattle.shard_docs.proofs.shard.Shard.purge.Goals as goal

-- nothing is left to forget
pub returns-then-oldest-clause-count : goal.returns-then-oldest-clause-count
returns-then-oldest-clause-count c =
    let s = c.args.self.now in
    let low : c.args.oldest ≤ s.oldest = omega (arith, c.if-oldest.true, c.oldest.ensures, same_oldest c.self.view_is) in
    omega (arith, dead_grows c.args.oldest s.oldest s.writes low)

pub take_deaths-count-requires-clause-few : goal.take_deaths-count-requires-clause-few
take_deaths-count-requires-clause-few c =
    let s = c.self.inside.rows in
    let many = length-map s.rows (λ (r : SeenRow). r.doc) in
    omega (arith, few_kept s.oldest (docs_of s.rows) c.self.inside.deaths.items c.self.invariant.1 (omega (arith, c.self.invariant.0.1, many)), many, c.self.invariant.0.0.few)

pub invariant_of-self : goal.invariant_of-self
invariant_of-self c =
    let s = c.self.inside.rows in
    let many = ap length (same_writes c.self.view_is) in
    let above : s.oldest ≤ c.args.oldest = omega (arith, c.if-oldest.false, c.oldest.ensures) in (
      purged s c.forget.new.self c.self.inside.living c.self.inside.index c.self.inside.spoiled c.self.inside.numbers c.args.oldest c.forget.ensures.rows c.forget.ensures.oldest above
          (omega (arith, c.requires, many, length-map s.rows (λ (r : SeenRow). r.doc))) c.self.invariant.0,
      deaths_left s c.forget.new.self c.args.oldest c.self.inside.deaths.items c.take_deaths-count.new.deaths.items c.forget.ensures.rows c.forget.ensures.oldest above c.self.invariant.0.0.died c.take_deaths-count.ensures.left c.self.invariant.1,
    )

pub invariant_of-self-else-self-stored : goal.invariant_of-self-else-self-stored
invariant_of-self-else-self-stored c =
    let s = c.self.inside.rows in
    let many = ap length (same_writes c.self.view_is) in
    let above : s.oldest ≤ c.args.oldest = omega (arith, c.if-oldest.false, c.oldest.ensures) in (
      purged s c.forget.new.self c.self.inside.living c.self.inside.index c.self.inside.spoiled c.self.inside.numbers c.args.oldest c.forget.ensures.rows c.forget.ensures.oldest above
          (omega (arith, c.requires, many, length-map s.rows (λ (r : SeenRow). r.doc))) c.self.invariant.0,
      deaths_left s c.forget.new.self c.args.oldest c.self.inside.deaths.items c.take_deaths-count.new.deaths.items c.forget.ensures.rows c.forget.ensures.oldest above c.self.invariant.0.0.died c.take_deaths-count.ensures.left c.self.invariant.1,
    )

pub returns-then-self-stored-clause-shows : goal.returns-then-self-stored-clause-shows
returns-then-self-stored-clause-shows c =
    let s = c.self.inside.rows in
    subst (λ l. ShowsFrom c.args.oldest c.args.self.now.writes l) (sym (same_writes c.give_back.ensures))
    (subst (λ l. ShowsFrom c.args.oldest l (docs_of c.forget.new.self.rows)) (same_writes c.self.view_is) (shows s c.forget.new.self c.args.oldest c.forget.ensures.rows c.self.invariant.0.0.died))

pub returns-else-self-stored-clause-shows : goal.returns-else-self-stored-clause-shows
returns-else-self-stored-clause-shows c =
    let s = c.self.inside.rows in
    subst (λ l. ShowsFrom c.args.oldest l (docs_of c.forget.new.self.rows)) (same_writes c.self.view_is) (shows s c.forget.new.self c.args.oldest c.forget.ensures.rows c.self.invariant.0.0.died)

pub returns-then-self-stored-clause-oldest : goal.returns-then-self-stored-clause-oldest
returns-then-self-stored-clause-oldest c = omega (arith, same_oldest c.give_back.ensures, c.forget.ensures.oldest, same_oldest c.self.view_is, c.if-oldest.false, c.oldest.ensures)

pub returns-else-self-stored-clause-oldest : goal.returns-else-self-stored-clause-oldest
returns-else-self-stored-clause-oldest c = omega (arith, c.forget.ensures.oldest, same_oldest c.self.view_is, c.if-oldest.false, c.oldest.ensures)

-- as many were taken as rows died since
counted : (s : SeenRows) (deaths : List ℕ) (view : ShardView) (version count : ℕ) → record { writes = docs_of s.rows; oldest = s.oldest } ≡ view → AreDeaths s.oldest (docs_of s.rows) deaths → count ≡ up_to version deaths → s.oldest ≤ version
    → count ≡ dead_rows version view.writes - dead_rows view.oldest view.writes
counted s deaths view version count is are taken from =
    subst (λ (v : ShardView). count ≡ dead_rows version v.writes - dead_rows v.oldest v.writes) is (taken ∙ kept_count s.oldest (docs_of s.rows) deaths are version from)

pub returns-then-self-stored-clause-count : goal.returns-then-self-stored-clause-count
returns-then-self-stored-clause-count c = counted c.self.inside.rows c.self.inside.deaths.items c.args.self.now c.args.oldest c.take_deaths-count.result c.self.view_is c.self.invariant.1 c.take_deaths-count.ensures.count (omega (arith, c.if-oldest.false, c.oldest.ensures))

pub returns-else-self-stored-clause-count : goal.returns-else-self-stored-clause-count
returns-else-self-stored-clause-count c = counted c.self.inside.rows c.self.inside.deaths.items c.args.self.now c.args.oldest c.take_deaths-count.result c.self.view_is c.self.invariant.1 c.take_deaths-count.ensures.count (omega (arith, c.if-oldest.false, c.oldest.ensures))
