-- The shards of an index that the run does not write stay as its lines make them.
use Rattle.std.proofs.Common.{◌≡◌, ℕ, Bool, true, false, ◌&&◌, List, [], ◌++◌, Option, Some, None, refl, sym, ap, ◌∙◌, subst, arith}
use Rattle.std.specs.Prelude.{◌==◌, IfSome, cond}
use Rattle.std.specs.List.{list_any}
use Rattle.std.specs.Str.{bytes_eq}
use Rattle.std.proofs.lemmas.Bool.Decides.{nat_tests}
use Rattle.std.proofs.lemmas.List.{append-nil}
use Rattle.std.proofs.lemmas.Slice.Eq.{bytes_eq-Decides}
use Rattle.shard_docs.specs.ShardView.{ShardView, empty_shard}
use Rattle.task_ids.specs.declared.doc.Doc.{Doc}
use Rattle.task_work.specs.Works.{docs_next, place_of}
use Rattle.task_work.specs.declared.work.Work.{Work}
use Rattle.task_work.specs.declared.work.Work.TheVariants as works
use Rattle.held_shards.proofs.Rows.{both_true}
use Rattle.held_shards.specs.Held.{HasLines, Replaces, SameShards, holds, shard_at, shard_with}
use Rattle.held_shards.specs.declared.HeldShards.{HeldShards}
use Rattle.node_link.specs.declared.body.Place.{Place}
use Rattle.reply_facts.specs.Settings.{IsSteady, Setting, lines_in}
use Rattle.work_facts.specs.Works.{Keeps}
use Rattle.work_facts.proofs.Moves.{IsOverLines}
use Rattle.entry_facts.specs.Entries.{AreSteady, writes_for}

module _ (run : Setting) where
  -- a core begins with the lines of its run
  pub lines_steady : (held : HeldShards) → HasLines run.corpus.lines run.shards held → AreSteady run held
  lines_steady held has index shard steady holds_it = ap (λ (s : ShardView). s.writes) (has index shard ∙ by (holds held shard) holds_it)
    where
      by : (b : Bool) → b ≡ true → cond b (shard_with run.corpus.lines run.shards index shard) empty_shard ≡ shard_with run.corpus.lines run.shards index shard
      by true e = refl
      by false e = absurd cc

  holds_still : (old new : HeldShards) (shard : ℕ) → new.numbers ≡ old.numbers → holds new shard ≡ true → holds old shard ≡ true
  holds_still old new shard same here = ap (λ numbers. list_any (λ n. n == shard) numbers.items) (sym same) ∙ here

  pub same_steady : (old new : HeldShards) → SameShards old new → new.numbers ≡ old.numbers → AreSteady run old → AreSteady run new
  same_steady old new same numbers steady index shard stays here = ap (λ (s : ShardView). s.writes) (same index shard) ∙ steady index shard stays (holds_still old new shard numbers here)

  -- where one shard grows, its index may be written or nothing was added
  pub grown_steady : (old new : HeldShards) (index : List ℕ) (number : ℕ) (left : ShardView) (more : List Doc) → Replaces index number left old new → left.writes ≡ (shard_at old index number).writes ++ more
      → (IsSteady run index → more ≡ []) → new.numbers ≡ old.numbers → AreSteady run old → AreSteady run new
  grown_steady old new index number left more replaces grown none numbers steady q k stays here = by (bytes_eq q index && (number == k)) refl
    where
      before : (shard_at old q k).writes ≡ lines_in run q k
      before = steady q k stays (holds_still old new k numbers here)

      by : (b : Bool) → (bytes_eq q index && (number == k)) ≡ b → (shard_at new q k).writes ≡ lines_in run q k
      by true on =
          let both = both_true (bytes_eq q index) (number == k) on in
          let name : q ≡ index = (bytes_eq-Decides q index).0 both.0 in
          let at : number ≡ k = grind (arith, nat_tests, both.1) in
          let nothing : more ≡ [] = none (subst (IsSteady run) name stays) in
          let there : (shard_at new index number).writes ≡ (shard_at old index number).writes =
          ap (λ (s : ShardView). s.writes) replaces.here ∙ grown ∙ ap (λ docs. (shard_at old index number).writes ++ docs) nothing ∙ append-nil (shard_at old index number).writes in
          subst (λ n. (shard_at new q n).writes ≡ (shard_at old q n).writes) at (subst (λ i. (shard_at new i number).writes ≡ (shard_at old i number).writes) (sym name) there) ∙ before
      by false off = ap (λ (s : ShardView). s.writes) (replaces.elsewhere q k off) ∙ before

  abbrev index_in : Option (List ℕ × ℕ) → List ℕ
  index_in None = []
  index_in (Some p) = p.0

  -- only a part of a bulk writes, and to an index that the run may write
  pub writes_nothing : (place : Place) (work : Work) (index : List ℕ) (number : ℕ) → place_of work ≡ Some (index, number) → Keeps run place work → IsSteady run index → docs_next work ≡ []
  writes_nothing place (works.BulkShard w) index number at keeps steady =
      let here : w.index ≡ index = ap index_in at in
      absurd (let f : false ≡ true = sym (ap run.is_written here ∙ steady) ∙ keeps in cc)
  writes_nothing place (works.Query q top) index number at keeps steady = refl
  writes_nothing place (works.Fetch f hits) index number at keeps steady = refl
  writes_nothing place (works.Search s) index number at keeps steady = refl
  writes_nothing place (works.Scroll s) index number at keeps steady = refl
  writes_nothing place (works.Reindex r) index number at keeps steady = refl
  writes_nothing place (works.Slice s) index number at keeps steady = refl
  writes_nothing place (works.Bulk b) index number at keeps steady = refl

  -- a task works over the lines of its shard
  pub over_lines : (held : HeldShards) (place : Place) (work : Work) → AreSteady run held → IfSome (place_of work) (λ p. holds held p.1 ≡ true) → IsOverLines run place work (writes_for held (place_of work))
  over_lines held place work steady on = by (place_of work) on
    where
      by : (o : Option (List ℕ × ℕ)) → IfSome o (λ p. holds held p.1 ≡ true) → IfSome o (λ p. IsSteady run p.0 → writes_for held o ≡ lines_in run p.0 p.1)
      by None on = tt
      by (Some p) on = λ stays. steady p.0 p.1 stays on
