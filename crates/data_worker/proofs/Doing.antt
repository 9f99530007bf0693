-- What a data worker did as a kind of worker.
use Rattle.std.proofs.Common.{◌≡◌, inl, inr, ℕ, true, List, Option, None, Some, filter_map, refl, subst, ◌∙◌}
use Rattle.task_ids.specs.declared.task_id.TaskId.{TaskId}
use Rattle.node_boards.specs.Calls.{DataCall}
use Rattle.node_link.specs.declared.body.Body.{Body}
use Rattle.node_link.specs.declared.body.Body.TheVariants as says
use Rattle.run_facts.specs.declared.To.TheVariants as to
use Rattle.live_tasks.specs.declared.entry.Entry.{Entry}
use Rattle.live_tasks.specs.Live.{entry_at, HasId}
use Rattle.data_core.specs.Turns.{Posts, post, Turned}
use Rattle.data_core.specs.Steps as core
use Rattle.data_worker.specs.Posts.{addressed}
use Rattle.data_worker.specs.Data.{Seen, sent, HasNone, MaySay, Said, Took, Stepped, Waited, IsNextInTurn}
use Rattle.node_worker.specs.declared.post.Post.{Post}

-- a task with this id is live
pub some_live : (task : TaskId) (o : Option Entry) → HasId task o → (e : Entry) × (o ≡ Some e)
some_live task None h = absurd h
some_live task (Some e) h = (e, refl)

module _ {B : Type 0} where
  pub said_once : (v w : Seen B) (posts : List (Post Body)) (nodes workers node worker : ℕ) → MaySay v → nodes ≡ v.core.cluster.nodes → workers ≡ v.core.pool.workers → node ≡ v.core.node → worker ≡ v.core.worker
      → posts ≡ filter_map (addressed nodes workers) (post (to.Control node) (says.DataLeft worker)) → w ≡ record v { has_said = true } → Said posts v w
  unfolding Said
  said_once v w posts nodes workers node worker may ns many own number given now = record {
    may = may;
    given = given ∙ (λ i. filter_map (addressed (ns i) (many i)) (post (to.Control (own i)) (says.DataLeft (number i))));
    now = now;
  }

module _ {B : Type 0} (rests : B → B → DataCall → Type 0) where
  pub took_letter : (v w : Seen B) (letter : Body) (posts : List (Post Body)) (gave : Posts) (nodes workers : ℕ) → Turned rests letter v.board v.core gave w.core w.board → nodes ≡ v.core.cluster.nodes → workers ≡ v.core.pool.workers
      → posts ≡ filter_map (addressed nodes workers) gave → w.last ≡ v.last → w.has_said ≡ v.has_said → Took rests letter posts v w
  unfolding Took
  took_letter v w letter posts gave nodes workers turned ns many given last said = record {
    gave = gave;
    turned = turned;
    given = given ∙ (λ i. filter_map (addressed (ns i) (many i)) gave);
    last = last;
    said = said;
  }

  pub stepped_on : (v w : Seen B) (posts : List (Post Body)) (gave : Posts) (given : core.Given) (nodes workers : ℕ) (task : TaskId) (e : Entry) → IsNextInTurn v.last task v.core.live → entry_at v.core.live task.number ≡ Some e
      → core.Stepped rests e v.board v.core given w.core w.board → given ≡ Some gave → nodes ≡ v.core.cluster.nodes → workers ≡ v.core.pool.workers → posts ≡ filter_map (addressed nodes workers) gave → w.last ≡ Some task → w.has_said ≡ v.has_said → Stepped rests posts v w
  unfolding Stepped
  stepped_on v w posts gave given nodes workers task e next live stepped is ns many sent last said =
      (gave, record { task = task; next = next; entry = e; live = live; stepped = subst (λ (g : core.Given). core.Stepped rests e v.board v.core g w.core w.board) is stepped; last = last; said = said }, sent ∙ (λ i. filter_map (addressed (ns i) (many i)) gave))

  pub waited_on : (v w : Seen B) (given : core.Given) (task : TaskId) (e : Entry) → IsNextInTurn v.last task v.core.live → entry_at v.core.live task.number ≡ Some e
      → core.Stepped rests e v.board v.core given w.core w.board → given ≡ None → w.last ≡ Some task → w.has_said ≡ v.has_said → Waited rests v w
  unfolding Waited
  waited_on v w given task e next live stepped is last said =
      inl (record { task = task; next = next; entry = e; live = live; stepped = subst (λ (g : core.Given). core.Stepped rests e v.board v.core g w.core w.board) is stepped; last = last; said = said })

  pub waited_idle : (v w : Seen B) → HasNone v.core.live → (MaySay v → ⊥) → w ≡ v → Waited rests v w
  unfolding Waited
  waited_idle v w none idle same = inr (none, idle, same)
