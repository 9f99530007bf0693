-- What a core keeps of its live tasks stays where one of its shards grows.
use Rattle.std.proofs.Common.{◌≡◌, ℕ, Bool, true, false, ◌&&◌, List, [], ◌∷◌, ◌++◌, Option, Some, None, refl, sym, ap, ◌∙◌, subst, arith}
use Rattle.std.specs.Prelude.{◌==◌}
use Rattle.std.specs.Str.{bytes_eq}
use Rattle.std.proofs.lemmas.Bool.Decides.{nat_tests}
use Rattle.std.proofs.lemmas.Slice.Eq.{bytes_eq-Decides}
use Rattle.task_ids.specs.declared.task_id.TaskId.{TaskId}
use Rattle.task_ids.specs.declared.doc.Doc.{Doc}
use Rattle.shard_docs.specs.ShardView.{ShardView}
use Rattle.task_work.specs.declared.work.Work.{Work}
use Rattle.task_work.specs.Works.{place_of}
use Rattle.held_shards.specs.declared.HeldShards.{HeldShards}
use Rattle.held_shards.specs.Held.{shard_at, SameShards, Replaces}
use Rattle.live_tasks.specs.declared.entry.Entry.{Entry}
use Rattle.live_tasks.specs.declared.live.LiveTasks.{LiveTasks}
use Rattle.data_parts.specs.Steps.{HasCome}
use Rattle.data_parts.proofs.Grown.{come_grown}
use Rattle.entry_facts.specs.Entries.{writes_for}
use Rattle.entry_facts.proofs.Live.{weaker_each}
use Rattle.data_core.specs.Cores.{IsGoodEntry, AreGood}
use Rattle.held_shards.proofs.Rows.{both_true}

-- the writes of each shard are those before and some more
abbrev pub HaveGrown : HeldShards → HeldShards → Type 0
HaveGrown old new = (place : Option (List ℕ × ℕ)) → (more : List Doc) × (writes_for new place ≡ writes_for old place ++ more)

no_more : (xs : List Doc) → xs ≡ xs ++ []
no_more [] = refl
no_more (x ∷ xs) = ap (λ ys. x ∷ ys) (no_more xs)

pub same_grown : (old new : HeldShards) → SameShards old new → HaveGrown old new
same_grown old new same None = ([], refl)
same_grown old new same (Some place) = ([], ap (λ (s : ShardView). s.writes) (same place.0 place.1) ∙ no_more (shard_at old place.0 place.1).writes)

-- one shard has grown, and the others are as they were
pub one_grown : (old new : HeldShards) (index : List ℕ) (number : ℕ) (shard : ShardView) (more : List Doc) → Replaces index number shard old new → shard.writes ≡ (shard_at old index number).writes ++ more → HaveGrown old new
one_grown old new index number shard more replaces grown None = ([], refl)
one_grown old new index number shard more replaces grown (Some place) = by (bytes_eq place.0 index && (number == place.1)) refl
  where
    writes : HeldShards → List ℕ → ℕ → List Doc
    writes held q k = (shard_at held q k).writes

    by : (b : Bool) → (bytes_eq place.0 index && (number == place.1)) ≡ b → (more : List Doc) × ((shard_at new place.0 place.1).writes ≡ (shard_at old place.0 place.1).writes ++ more)
    by true on =
        let both = both_true (bytes_eq place.0 index) (number == place.1) on in
        let name : place.0 ≡ index = (bytes_eq-Decides place.0 index).0 both.0 in
        let at : number ≡ place.1 = grind (arith, nat_tests, both.1) in
        let here : (shard_at new index number).writes ≡ (shard_at old index number).writes ++ more = ap (λ (s : ShardView). s.writes) replaces.here ∙ grown in
        (more, subst (λ k. (shard_at new place.0 k).writes ≡ (shard_at old place.0 k).writes ++ more) at (subst (λ q. (shard_at new q number).writes ≡ (shard_at old q number).writes ++ more) (sym name) here))
    by false off = ([], ap (λ (s : ShardView). s.writes) (replaces.elsewhere place.0 place.1 off) ∙ no_more (shard_at old place.0 place.1).writes)

module _ (allowed : ℕ → Type 0) (old new : HeldShards) (grown : HaveGrown old new) where
  come_on : (task : TaskId) (w : Work) → HasCome w (writes_for old (place_of w)) → HasCome w (writes_for new (place_of w))
  come_on task w come =
      let more = grown (place_of w) in
      subst (HasCome w) (sym more.1) (come_grown task (writes_for old (place_of w)) more.0 w come)

  pub grown_good : (e : Entry) → IsGoodEntry allowed old e → IsGoodEntry allowed new e
  grown_good e g = record { place = g.place; mark = g.mark; page = g.page; replies = g.replies; asks = g.asks; come = come_on e.running.ticket.id e.running.work g.come }

  pub all_grown : (live : LiveTasks) → AreGood allowed old live → AreGood allowed new live
  all_grown live good = weaker_each (IsGoodEntry allowed old) (IsGoodEntry allowed new) grown_good live good
