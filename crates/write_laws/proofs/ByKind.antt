-- What each task was asked to do, by what its parent was; so which tasks ask for nothing, and which write nothing.
use Rattle.std.proofs.Common.{◌≡◌, ◌≤◌, ◌<◌, ℕ, Bool, true, false, List, [], ◌∷◌, Option, Some, None, refl, sym, ap, ◌∙◌, arith}
use Rattle.std.specs.List.{list_any}
use Rattle.std.specs.Option.{option_map_or}
use Rattle.std.specs.Prelude.{option_and_then}
use Rattle.task_ids.specs.declared.task_id.TaskId.{TaskId}
use Rattle.task_ids.specs.declared.cluster.Cluster.{Cluster}
use Rattle.task_events.specs.declared.event.Event.{Event}
use Rattle.task_events.specs.declared.event.Event.TheVariants.{Root, Ask, Put, Write}
use Rattle.task_events.specs.declared.event.Outcome.{Outcome}
use Rattle.task_events.specs.declared.request.Request.{Request}
use Rattle.task_events.specs.declared.request.Request.TheVariants.{Search, Query, Fetch, Scroll, Reindex, Slice, Bulk, BulkShard}
use Rattle.task_events.specs.Asks.{last_ask, node_of_ask, request_of_ask}
use Rattle.task_events.specs.Cancels.{turn_of}
use Rattle.task_events.specs.Lawful.{Lawful}
use Rattle.task_events.specs.Requests.{Scripted, request_of}
use Rattle.task_events.specs.Same.{same_task}
use Rattle.task_events.specs.Tasks.{ancestors, last_number, parent_of}
use Rattle.task_events.specs.Written.{writes_by}
use Rattle.task_laws.proofs.Asks.{AskFacts, ask_facts, requested_live}
use Rattle.task_laws.proofs.Same.{same_tests}
use Rattle.task_laws.proofs.Tree.{TreeFacts, parent_first, tree_facts}
use Rattle.write_laws.specs.KindsAsked.{KeepsToKinds, is_part, may_ask, reads_shard}
use Rattle.write_laws.specs.TreeWrites.{is_in_tree, is_to_write, tree_writes}

-- ---- requests

abbrev pub may_have_asked : Option Request → Option Request → Bool
may_have_asked None child = false
may_have_asked (Some request) None = false
may_have_asked (Some request) (Some child) = may_ask request child

abbrev pub part_asked : Option Request → Bool
part_asked request = option_map_or is_part request false

abbrev pub writing_asked : Option Request → Bool
writing_asked request = option_map_or is_to_write request false

-- the reading of a shard writes nothing
reading_quiet : (child : Request) → reads_shard child ≡ true → is_to_write child ≡ false
reading_quiet (Query ask) e = refl
reading_quiet (Fetch ask) e = refl
reading_quiet (Search ask) e = refl
reading_quiet (Scroll ask) e = refl
reading_quiet (Reindex ask) e = sym e
reading_quiet (Slice ask) e = sym e
reading_quiet (Bulk ask) e = sym e
reading_quiet (BulkShard ask) e = sym e

-- only what writes asks for what writes
asks_to_write : (request child : Request) → may_ask request child ≡ true → is_to_write child ≡ true → is_to_write request ≡ true
asks_to_write (Search ask) child may writes = sym (reading_quiet child may) ∙ writes
asks_to_write (Scroll ask) child may writes = sym (reading_quiet child may) ∙ writes
asks_to_write (Query ask) child may writes = may
asks_to_write (Fetch ask) child may writes = may
asks_to_write (Reindex ask) child may writes = refl
asks_to_write (Slice ask) child may writes = refl
asks_to_write (Bulk ask) child may writes = refl
asks_to_write (BulkShard ask) child may writes = refl

writes_above : (request child : Option Request) → may_have_asked request child ≡ true → writing_asked child ≡ true → writing_asked request ≡ true
writes_above None child may writes = may
writes_above (Some request) None may writes = absurd (cc)
writes_above (Some request) (Some child) may writes = asks_to_write request child may writes

part_writes : (request : Option Request) → part_asked request ≡ true → writing_asked request ≡ true
part_writes None e = e
part_writes (Some (Search ask)) e = e
part_writes (Some (Query ask)) e = e
part_writes (Some (Fetch ask)) e = e
part_writes (Some (Scroll ask)) e = e
part_writes (Some (Reindex ask)) e = refl
part_writes (Some (Slice ask)) e = refl
part_writes (Some (Bulk ask)) e = refl
part_writes (Some (BulkShard ask)) e = refl

-- a part asks for nothing
part_asks : (request : Option Request) (child : Request) → part_asked request ≡ true → option_map_or (λ made. may_ask made child) request false ≡ false
part_asks None child e = refl
part_asks (Some (Search ask)) child e = absurd (cc)
part_asks (Some (Query ask)) child e = refl
part_asks (Some (Fetch ask)) child e = refl
part_asks (Some (Scroll ask)) child e = absurd (cc)
part_asks (Some (Reindex ask)) child e = absurd (cc)
part_asks (Some (Slice ask)) child e = absurd (cc)
part_asks (Some (Bulk ask)) child e = absurd (cc)
part_asks (Some (BulkShard ask)) child e = refl

asked_both : (request : Option Request) (child : Request) → option_map_or (λ made. may_ask made child) request false ≡ true → may_have_asked request (Some child) ≡ true
asked_both None child e = e
asked_both (Some request) child e = e

module _ (cluster : Cluster) (said : Scripted) where
  -- ---- what was asked for

  pub unborn_request : (h : List Event) → Lawful cluster h → (t : TaskId) → last_number t.node h < t.number → request_of said t h ≡ None
  unborn_request [] l t i = refl
  unborn_request (Root c u ∷ h) l t i = grind (arith, same_tests, unborn_request h l.1 t, l.0.takes.next)
  unborn_request (Put u p k ∷ h) l t i = grind (arith, same_tests, unborn_request h l.1 t, l.0.takes.next)
  unborn_request (_ ∷ h) l t i = unborn_request h l.1 t i

  -- a task that has asked exists
  asker_born : (h : List Event) → Lawful cluster h → (p : TaskId) (k n : ℕ) → node_of_ask p k h ≡ Some n → p.number ≤ last_number p.node h
  asker_born [] l p k n e = absurd (cc)
  asker_born (Root c u ∷ h) l p k n e = grind (arith, same_tests, asker_born h l.1 p k n, l.0.takes.next)
  asker_born (Put u q j ∷ h) l p k n e = grind (arith, same_tests, asker_born h l.1 p k n, l.0.takes.next)
  asker_born (Ask q j m child ∷ h) l p k n e = let f = ask_facts cluster h l.1 in grind (arith, same_tests, asker_born h l.1 p k n, f.born q, l.0.goes_on.live)
  asker_born (_ ∷ h) l p k n e = asker_born h l.1 p k n e

  -- the request of a task that exists stays
  born_at_root : (h : List Event) (c : ℕ) (u p : TaskId) → Lawful cluster (Root c u ∷ h) → p.number ≤ last_number p.node h → request_of said p (Root c u ∷ h) ≡ request_of said p h
  born_at_root h c u p l born = grind (arith, same_tests, l.0.takes.next)

  born_at_put : (h : List Event) (u q : TaskId) (j : ℕ) (p : TaskId) → Lawful cluster (Put u q j ∷ h) → p.number ≤ last_number p.node h → request_of said p (Put u q j ∷ h) ≡ request_of said p h
  born_at_put h u q j p l born = grind (arith, same_tests, l.0.takes.next)

  new_ask : (h : List Event) (q : TaskId) (j m : ℕ) (child : Request) (p : TaskId) (k n : ℕ) → may_have_asked (request_of said q h) (Some child) ≡ true
      → (node_of_ask p k h ≡ Some n → may_have_asked (request_of said p h) (request_of_ask p k h) ≡ true) → node_of_ask p k (Ask q j m child ∷ h) ≡ Some n
      → may_have_asked (request_of said p h) (request_of_ask p k (Ask q j m child ∷ h)) ≡ true
  new_ask h q j m child p k n made before e = grind (arith, same_tests, made, before)

  pub asked_kind : (h : List Event) → Lawful cluster h → KeepsToKinds said h → (p : TaskId) (k n : ℕ) → node_of_ask p k h ≡ Some n → may_have_asked (request_of said p h) (request_of_ask p k h) ≡ true
  asked_kind [] l keeps p k n e = absurd (cc)
  asked_kind (Root c u ∷ h) l keeps p k n e = rw (born_at_root h c u p l (asker_born h l.1 p k n e)) (asked_kind h l.1 keeps.1 p k n e)
  asked_kind (Put u q j ∷ h) l keeps p k n e = rw (born_at_put h u q j p l (asker_born h l.1 p k n e)) (asked_kind h l.1 keeps.1 p k n e)
  asked_kind (Ask q j m child ∷ h) l keeps p k n e = new_ask h q j m child p k n (asked_both (request_of said q h) child keeps.0) (asked_kind h l.1 keeps.1 p k n) e
  asked_kind (Write index shard outcome id ∷ h) l keeps p k n e = asked_kind h l.1 keeps.1 p k n e
  asked_kind (_ ∷ h) l keeps p k n e = asked_kind h l.1 keeps.1 p k n e

  pub child_kind : (h : List Event) → Lawful cluster h → KeepsToKinds said h → (u p : TaskId) → parent_of u h ≡ Some p → may_have_asked (request_of said p h) (request_of said u h) ≡ true
  child_kind [] l keeps u p e = absurd (cc)
  child_kind (Root c v ∷ h) l keeps u p e =
      let f = ask_facts cluster h l.1 in
      rw (born_at_root h c v p l (f.parent_born u p e), born_at_root h c v u l (f.child_is_born u p e)) (child_kind h l.1 keeps.1 u p e)
  child_kind (Put v q j ∷ h) l keeps u p e = by_task (same_task u v) refl (child_kind h l.1 keeps.1 u p)
    where
      f : AskFacts h
      f = ask_facts cluster h l.1

      by_task : (b : Bool) → same_task u v ≡ b → (parent_of u h ≡ Some p → may_have_asked (request_of said p h) (request_of said u h) ≡ true) → may_have_asked (request_of said p (Put v q j ∷ h)) (request_of said u (Put v q j ∷ h)) ≡ true
      by_task true own before =
          let same : q ≡ p = let told : Some q ≡ Some p = rw own at e in cc in
          let born = f.born q (requested_live q j h f l.0.requested) in
          let asked = asked_kind h l.1 keeps.1 q j v.node l.0.node in
          let stays : request_of said p (Put v q j ∷ h) ≡ request_of said q h = ap (λ x. request_of said x (Put v q j ∷ h)) (sym same) ∙ born_at_put h v q j q l born in
          rw own (rw stays asked)
      by_task false other before =
          let above : parent_of u h ≡ Some p = rw other at e in
          let stays = born_at_put h v q j p l (f.parent_born u p above) in
          rw other (rw stays (before above))
  child_kind (Ask q j m child ∷ h) l keeps u p e = child_kind h l.1 keeps.1 u p e
  child_kind (Write index shard outcome id ∷ h) l keeps u p e = child_kind h l.1 keeps.1 u p e
  child_kind (_ ∷ h) l keeps u p e = child_kind h l.1 keeps.1 u p e

  -- ---- what does not write

  -- a part of a bulk asks for nothing
  pub part_alone : (h : List Event) → Lawful cluster h → KeepsToKinds said h → (t : TaskId) → part_asked (request_of said t h) ≡ true → last_ask t h ≡ 0
  part_alone [] l keeps t e = refl
  part_alone (Root c u ∷ h) l keeps t e = let f = ask_facts cluster h l.1 in grind (arith, same_tests, part_alone h l.1 keeps.1 t, f.unborn_asks t, l.0.takes.next)
  part_alone (Put u q j ∷ h) l keeps t e = let f = ask_facts cluster h l.1 in grind (arith, same_tests, part_alone h l.1 keeps.1 t, f.unborn_asks t, l.0.takes.next)
  part_alone (Ask q j m child ∷ h) l keeps t e = let none = part_asks (request_of said q h) child in grind (arith, same_tests, part_alone h l.1 keeps.1 t, none, keeps.0)
  part_alone (Write index shard outcome id ∷ h) l keeps t e = part_alone h l.1 keeps.1 t e
  part_alone (_ ∷ h) l keeps t e = part_alone h l.1 keeps.1 t e

  -- what is asked of a task is asked of it from its start on
  was_no_part : (e : Event) (h : List Event) → Lawful cluster (e ∷ h) → (t : TaskId) → part_asked (request_of said t (e ∷ h)) ≡ false → part_asked (request_of said t h) ≡ false
  was_no_part (Root c u) h l t i = let none = unborn_request h l.1 t in grind (arith, same_tests, none, l.0.takes.next)
  was_no_part (Put u q j) h l t i = let none = unborn_request h l.1 t in grind (arith, same_tests, none, l.0.takes.next)
  was_no_part _ h l t i = i

  was_no_writer : (e : Event) (h : List Event) → Lawful cluster (e ∷ h) → (t : TaskId) → writing_asked (request_of said t (e ∷ h)) ≡ false → writing_asked (request_of said t h) ≡ false
  was_no_writer (Root c u) h l t i = let none = unborn_request h l.1 t in grind (arith, same_tests, none, l.0.takes.next)
  was_no_writer (Put u q j) h l t i = let none = unborn_request h l.1 t in grind (arith, same_tests, none, l.0.takes.next)
  was_no_writer _ h l t i = i

  -- whose turn it is, where documents are written, is a part of a bulk
  own_apart : (h : List Event) (t : TaskId) → part_asked (request_of said t h) ≡ false → (o : Option TaskId) → part_asked (option_and_then (λ w. request_of said w h) o) ≡ true → option_map_or (same_task t) o false ≡ false
  own_apart h t i None e = refl
  own_apart h t i (Some w) e = grind (arith, same_tests)

  -- what asked for a task that writes writes too, and so on
  writers_above : (h : List Event) → TreeFacts h → Lawful cluster h → KeepsToKinds said h → (t : TaskId) → writing_asked (request_of said t h) ≡ false
      → (xs : List TaskId) (w : TaskId) → ancestors w h ≡ xs → writing_asked (request_of said w h) ≡ true → list_any (same_task t) xs ≡ false
  writers_above h g l keeps t i [] w e writes = refl
  writers_above h g l keeps t i (x ∷ ys) w e writes =
      let first = parent_first w x ys h g e (parent_of w h) refl in
      let above = writes_above (request_of said x h) (request_of said w h) (child_kind h l keeps w x first.0) writes in
      let rest = writers_above h g l keeps t i ys x first.1 above in
      grind (arith, same_tests, above, rest)

  tree_apart : (h : List Event) → Lawful cluster h → KeepsToKinds said h → (t : TaskId) → writing_asked (request_of said t h) ≡ false
      → (o : Option TaskId) → part_asked (option_and_then (λ w. request_of said w h) o) ≡ true → option_map_or (λ w. is_in_tree t w h) o false ≡ false
  tree_apart h l keeps t i None e = refl
  tree_apart h l keeps t i (Some w) e =
      let writes = part_writes (request_of said w h) e in
      let above = writers_above h (tree_facts cluster h l) l keeps t i (ancestors w h) w refl writes in
      grind (arith, same_tests, writes, above)

  module _ (test : Outcome → Bool) where
    -- only a part of a bulk writes itself
    pub own_none : (h : List Event) → Lawful cluster h → KeepsToKinds said h → (t : TaskId) → part_asked (request_of said t h) ≡ false → writes_by test t h ≡ 0
    own_none [] l keeps t i = refl
    own_none (Ask q j m child ∷ h) l keeps t i = own_none h l.1 keeps.1 t i
    own_none (Write index shard outcome id ∷ h) l keeps t i = let apart = own_apart h t i (turn_of h) keeps.0 in rw apart (own_none h l.1 keeps.1 t i)
    own_none (Root c u ∷ h) l keeps t i = own_none h l.1 keeps.1 t (was_no_part (Root c u) h l t i)
    own_none (Put u q j ∷ h) l keeps t i = own_none h l.1 keeps.1 t (was_no_part (Put u q j) h l t i)
    own_none (_ ∷ h) l keeps t i = own_none h l.1 keeps.1 t i

    -- and below a task that is not to write nothing is written
    pub tree_none : (h : List Event) → Lawful cluster h → KeepsToKinds said h → (t : TaskId) → writing_asked (request_of said t h) ≡ false → tree_writes test t h ≡ 0
    tree_none [] l keeps t i = refl
    tree_none (Ask q j m child ∷ h) l keeps t i = tree_none h l.1 keeps.1 t i
    tree_none (Write index shard outcome id ∷ h) l keeps t i = let apart = tree_apart h l.1 keeps.1 t i (turn_of h) keeps.0 in rw apart (tree_none h l.1 keeps.1 t i)
    tree_none (Root c u ∷ h) l keeps t i = tree_none h l.1 keeps.1 t (was_no_writer (Root c u) h l t i)
    tree_none (Put u q j ∷ h) l keeps t i = tree_none h l.1 keeps.1 t (was_no_writer (Put u q j) h l t i)
    tree_none (_ ∷ h) l keeps t i = tree_none h l.1 keeps.1 t i
