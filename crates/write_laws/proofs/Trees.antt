-- What the tree of a task has written, by its children.
use Rattle.std.proofs.Common.{◌≡◌, ◌+◌, ◌<◌, ℕ, zero, suc, Bool, true, false, cond, ◌&&◌, List, [], ◌∷◌, Option, Some, None, refl, sym, ap, ◌∙◌, arith}
use Rattle.std.specs.Option.{option_map_or}
use Rattle.std.specs.Prelude.{if◌then◌else◌}
use Rattle.task_ids.specs.declared.task_id.TaskId.{TaskId}
use Rattle.task_ids.specs.declared.cluster.Cluster.{Cluster}
use Rattle.task_ids.specs.declared.text.Text.{Text}
use Rattle.task_events.specs.declared.event.Event.{Event}
use Rattle.task_events.specs.declared.event.Event.TheVariants.{Root, Ask, Put, Write}
use Rattle.task_events.specs.declared.event.Outcome.{Outcome}
use Rattle.task_events.specs.declared.request.Request.{Request}
use Rattle.task_events.specs.Asks.{last_ask}
use Rattle.task_events.specs.Cancels.{turn_of}
use Rattle.task_events.specs.Lawful.{Lawful}
use Rattle.task_events.specs.Same.{same_task}
use Rattle.task_events.specs.Tasks.{ancestors, child_of, is_live, last_number}
use Rattle.task_events.specs.Written.{is_writing, writes_by}
use Rattle.task_laws.proofs.Asks.{AskFacts, ask_facts}
use Rattle.task_laws.proofs.Commands.{in_turn}
use Rattle.task_laws.proofs.InFlight.{requests_in_flight}
use Rattle.task_laws.proofs.Numbers.{number}
use Rattle.task_laws.proofs.Same.{same_tests}
use Rattle.task_laws.proofs.Tree.{tree_facts}
use Rattle.write_laws.specs.TreeWrites.{is_in_tree, tree_is_writing, tree_number, tree_writes}
use Rattle.write_laws.proofs.ByChild.{by_child, child_above, no_child_of_0}
use Rattle.write_laws.proofs.Chains.{chain_facts, found_once, times_above}
use Rattle.write_laws.proofs.Sums.{sum_to, sums_agree, sum_of_sums}

-- how many writes of a task itself pass a test of their outcome and of what happened before
abbrev pub own_number : (Outcome → List Event → Bool) → TaskId → List Event → ℕ
own_number passes t [] = 0
own_number passes t (Write index shard outcome id ∷ h) = if is_writing t h && passes outcome h then 1 + own_number passes t h else own_number passes t h
own_number passes t (_ ∷ h) = own_number passes t h

pub own_writes : (test : Outcome → Bool) (t : TaskId) (h : List Event) → own_number (λ outcome past. test outcome) t h ≡ writes_by test t h
own_writes test t [] = refl
own_writes test t (Write index shard outcome id ∷ h) = ap (λ n. cond (is_writing t h && test outcome) (1 + n) n) (own_writes test t h)
own_writes test t (_ ∷ h) = own_writes test t h

-- how many writes in the tree of the child of an ask do, 0 where no child was put
abbrev pub child_number : (Outcome → List Event → Bool) → TaskId → List Event → ℕ → ℕ
child_number passes t h k = option_map_or (λ c. tree_number passes c h) (child_of t k h) 0

abbrev pub children_number : (Outcome → List Event → Bool) → TaskId → List Event → ℕ
children_number passes t h = sum_to (child_number passes t h) (last_ask t h)

-- what the tree of the child of an ask has written
abbrev pub child_writes : (Outcome → Bool) → TaskId → List Event → ℕ → ℕ
child_writes test t h k = child_number (λ outcome past. test outcome) t h k

abbrev pub children_writes : (Outcome → Bool) → TaskId → List Event → ℕ
children_writes test t h = sum_to (child_writes test t h) (last_ask t h)

-- one more where a test passes
abbrev one_more : (counts passes : Bool) → ℕ → ℕ
one_more counts passes n = cond (counts && passes) (1 + n) n

weighed : (counts passes : Bool) (n : ℕ) → one_more counts passes n ≡ cond passes (cond counts 1 0) 0 + n
weighed true true n = refl
weighed true false n = omega arith
weighed false true n = omega arith
weighed false false n = omega arith

sum_where : (b : Bool) (f : ℕ → ℕ) (n : ℕ) → sum_to (λ k. cond b (f k) 0) n ≡ cond b (sum_to f n) 0
sum_where true f n = refl
sum_where false f n = none n
  where
    none : (n : ℕ) → sum_to (λ k. 0) n ≡ 0
    none zero = refl
    none (suc n) = let rest = none n in omega (arith, rest)

-- a last part that is 0 adds nothing
up : (n j : ℕ) (f : ℕ → ℕ) → j ≡ n + 1 → f j ≡ 0 → sum_to f j ≡ sum_to f n
up n zero f e nothing = absurd (omega (arith, e))
up n (suc j) f e nothing = let same : j ≡ n = omega (arith, e) in omega (arith, nothing, ap (sum_to f) same)

-- the task that writes is live, so it exists
pub turn_is_live : (cluster : Cluster) (h : List Event) → Lawful cluster h → (w : TaskId) → turn_of h ≡ Some w → is_live w h ≡ true
turn_is_live cluster h l w e = let turn = in_turn cluster h l (λ none. cc) in let same : turn.0 ≡ w = cc in ap (λ u. is_live u h) (sym same) ∙ turn.2

module _ (cluster : Cluster) (passes : Outcome → List Event → Bool) where
  -- what does not exist yet has written nothing
  unborn_quiet : (h : List Event) → Lawful cluster h → (t : TaskId) → last_number t.node h < t.number → (o : Option TaskId) → turn_of h ≡ o → option_map_or (λ w. is_in_tree t w h) o false ≡ false
  unborn_quiet h l t i None e = refl
  unborn_quiet h l t i (Some w) e =
      let f = ask_facts cluster h l in
      let g = chain_facts cluster h l in
      let born = f.born w (turn_is_live cluster h l w e) in
      let none = g.unborn t w i in
      let found = found_once (same_task t) (ancestors w h) (omega (arith, none)) in
      grind (arith, same_tests, born, none, found)

  pub unborn_writes : (h : List Event) → Lawful cluster h → (t : TaskId) → last_number t.node h < t.number → tree_number passes t h ≡ 0
  unborn_writes [] l t i = refl
  unborn_writes (Root c u ∷ h) l t i = unborn_writes h l.1 t (grind (arith, same_tests, l.0.takes.next))
  unborn_writes (Put u p k ∷ h) l t i = unborn_writes h l.1 t (grind (arith, same_tests, l.0.takes.next))
  unborn_writes (Write index shard outcome id ∷ h) l t i = let quiet = unborn_quiet h l.1 t i (turn_of h) refl in rw quiet (unborn_writes h l.1 t i)
  unborn_writes (_ ∷ h) l t i = unborn_writes h l.1 t i

  module _ (h : List Event) (l : Lawful cluster h) (w : TaskId) (turn : turn_of h ≡ Some w) (outcome : Outcome) where
    weight : (t : TaskId) → cond (tree_is_writing t h) 1 0 ≡ times_above t w h
    weight t = let g = chain_facts cluster h l in rw turn (found_once (same_task t) (w ∷ ancestors w h) (g.once t w))

    tree_grows : (t : TaskId) → one_more (tree_is_writing t h) (passes outcome h) (tree_number passes t h) ≡ cond (passes outcome h) (times_above t w h) 0 + tree_number passes t h
    tree_grows t = weighed (tree_is_writing t h) (passes outcome h) (tree_number passes t h) ∙ ap (λ n. cond (passes outcome h) n 0 + tree_number passes t h) (weight t)

    own_grows : (t : TaskId) → one_more (is_writing t h) (passes outcome h) (own_number passes t h) ≡ cond (passes outcome h) (cond (same_task t w) 1 0) 0 + own_number passes t h
    own_grows t = rw turn (weighed (same_task t w) (passes outcome h) (own_number passes t h))

    module _ (index id : Text) (shard : ℕ) where
      abbrev written : List Event
      written = Write index shard outcome id ∷ h

      child_grows : (t : TaskId) (k : ℕ) → child_number passes t written k ≡ cond (passes outcome h) (child_above t w h k) 0 + child_number passes t h k
      child_grows t k = by_option (child_of t k h)
        where
          by_option : (o : Option TaskId) → option_map_or (λ c. tree_number passes c written) o 0 ≡ cond (passes outcome h) (option_map_or (λ c. times_above c w h) o 0) 0 + option_map_or (λ c. tree_number passes c h) o 0
          by_option None = none (passes outcome h)
            where
              none : (b : Bool) → 0 ≡ cond b 0 0 + 0
              none true = refl
              none false = refl
          by_option (Some c) = tree_grows c

      children_grow : (t : TaskId) → children_number passes t written ≡ cond (passes outcome h) (sum_to (child_above t w h) (last_ask t h)) 0 + children_number passes t h
      children_grow t =
          sums_agree (child_number passes t written) _ (child_grows t) (last_ask t h)
          ∙ sum_of_sums (λ k. cond (passes outcome h) (child_above t w h k) 0) (child_number passes t h) (last_ask t h)
          ∙ ap (λ n. n + children_number passes t h) (sum_where (passes outcome h) (child_above t w h) (last_ask t h))

      one_write : (t : TaskId) → tree_number passes t h ≡ own_number passes t h + children_number passes t h → tree_number passes t written ≡ own_number passes t written + children_number passes t written
      one_write t before =
          let above = by_child t h (ask_facts cluster h l) (tree_facts cluster h l) (no_child_of_0 cluster t h l) (ancestors w h) w refl in
          let whole = tree_grows t in
          let own = own_grows t in
          let parts = children_grow t in
          by_outcome (passes outcome h) (tree_number passes t written) (own_number passes t written) (children_number passes t written) whole own parts above
        where
          by_outcome : (b : Bool) (tree one many : ℕ) → tree ≡ cond b (times_above t w h) 0 + tree_number passes t h → one ≡ cond b (cond (same_task t w) 1 0) 0 + own_number passes t h
              → many ≡ cond b (sum_to (child_above t w h) (last_ask t h)) 0 + children_number passes t h → number (same_task t) (ancestors w h) ≡ sum_to (child_above t w h) (last_ask t h) → tree ≡ one + many
          by_outcome true tree one many x y z above = omega (arith, x, y, z, above, before)
          by_outcome false tree one many x y z above = omega (arith, x, y, z, before)

  -- a child that was just put has written nothing
  put_nothing : (h : List Event) (u q : TaskId) (j : ℕ) → Lawful cluster (Put u q j ∷ h) → (t : TaskId) (k : ℕ) → child_number passes t (Put u q j ∷ h) k ≡ child_number passes t h k
  put_nothing h u q j l t k = by_option (child_of t k h) refl
    where
      none : tree_number passes u h ≡ 0
      none = unborn_writes h l.1 u (omega (arith, l.0.takes.next))

      by_option : (o : Option TaskId) → child_of t k h ≡ o → child_number passes t (Put u q j ∷ h) k ≡ option_map_or (λ c. tree_number passes c h) o 0
      by_option None e = grind (arith, same_tests, none)
      by_option (Some c) e = let f = ask_facts cluster h l.1 in grind (arith, same_tests, f.child_put t k c, l.0.requested, requests_in_flight q j h)

  -- nor has one that was just asked for, which does not exist yet
  ask_nothing : (h : List Event) (q : TaskId) (j n : ℕ) (r : Request) → Lawful cluster (Ask q j n r ∷ h) → (t : TaskId) → children_number passes t (Ask q j n r ∷ h) ≡ children_number passes t h
  ask_nothing h q j n r l t = by_task (same_task t q) refl
    where
      f : AskFacts h
      f = ask_facts cluster h l.1

      by_task : (b : Bool) → same_task t q ≡ b → sum_to (child_number passes t h) (cond b j (last_ask t h)) ≡ children_number passes t h
      by_task false other = refl
      by_task true own =
          let last : j ≡ last_ask t h + 1 = grind (arith, same_tests, l.0.next) in
          let none : child_of t j h ≡ None = f.no_child t j (omega (arith, last)) in
          let nothing : child_number passes t h j ≡ 0 = rw none refl in
          up (last_ask t h) j (child_number passes t h) last nothing

  -- the writes in the tree of a task are those of the task itself, and those in the trees of its children
  pub number_by_children : (h : List Event) → Lawful cluster h → (t : TaskId) → tree_number passes t h ≡ own_number passes t h + children_number passes t h
  number_by_children [] l t = refl
  number_by_children (Ask q j n r ∷ h) l t = number_by_children h l.1 t ∙ ap (λ n. own_number passes t h + n) (sym (ask_nothing h q j n r l t))
  number_by_children (Put u q j ∷ h) l t = number_by_children h l.1 t ∙ ap (λ n. own_number passes t h + n) (sym (sums_agree _ _ (put_nothing h u q j l t) (last_ask t h)))
  number_by_children (Write index shard outcome id ∷ h) l t =
      let turn = in_turn cluster h l.1 l.0 in
      one_write h l.1 turn.0 turn.1 outcome index id shard t (number_by_children h l.1 t)
  number_by_children (_ ∷ h) l t = number_by_children h l.1 t

-- the tree of a task has written what the task has written itself, and what the trees of its children have
pub by_children : (cluster : Cluster) (test : Outcome → Bool) (h : List Event) → Lawful cluster h → (t : TaskId) → tree_writes test t h ≡ writes_by test t h + children_writes test t h
by_children cluster test h l t = number_by_children cluster (λ outcome past. test outcome) h l t ∙ ap (λ n. n + children_writes test t h) (own_writes test t h)
