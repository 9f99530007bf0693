use Rattle.std.proofs.Common.{◌≡◌, ◌≢◌, ◌⊎◌, inl, inr, ◌<◌, ℕ, Bool, true, false, ◌||◌, List, [], ◌∷◌, None, refl, arith}
use Rattle.std.specs.List.{AllByRecursion, list_all}
use Rattle.std.proofs.lemmas.List.Elements.{All-from_recursion, All-contains}
use Rattle.task_ids.specs.declared.task_id.TaskId.{TaskId}
use Rattle.task_events.specs.declared.event.Event.{Event}
use Rattle.task_events.specs.Tasks.{has_ended}
use Rattle.task_events.specs.Bans.{mark_of, banned_nodes, is_listed, listed_children, bans_are_placed, is_stopped, ack_is_due}
use Rattle.task_events.specs.Messages.{is_ack, number_in_flight}
use Rattle.task_events.specs.Cancels.{is_named}
use Rattle.task_events.specs.Allowed.{HasAllMarked}
use Rattle.task_events.specs.Laws.{ListsAllChildren, HasStoppedChildren, HasListedAll, HasStoppedTrees, StopsPlacedTrees}
use Rattle.task_laws.proofs.Numbers.{in_list, both}
use Rattle.task_laws.proofs.InFlight.{acks_in_flight}
use Rattle.task_laws.proofs.Asks.{AskFacts, ask_facts}
use Rattle.task_laws.proofs.Stops.{stop_facts}
use Rattle.task_laws.proofs.Bans.{BanFacts, ban_facts, placed_acked, acked_listed}
use Rattle.task_laws.proofs.Escapes.{escape_facts, no_escape}
use Rattle.task_laws.proofs.Trees.{placed_marked, stopped_trees}
use Rattle.task_laws.proofs.early_children.Goals as goal

listed : (n : ℕ) (p : TaskId) (h : List Event) → AskFacts h → HasAllMarked n p h → ListsAllChildren n p h
listed n p h f m t e i l = m t e i (grind (arith, f.put_lives t p e))

each_passes : (test : TaskId → Bool) (ts : List TaskId) → list_all test ts ≡ true → AllByRecursion (λ t. test t ≡ true) ts
each_passes test [] e = tt
each_passes test (t ∷ ts) e = let parts = both (test t) _ e in (parts.0, each_passes test ts parts.1)

-- what is stopped has ended, or its bans are placed
ended_or_placed : (b c : Bool) → (b || c) ≡ true → (b ≡ true) ⊎ (c ≡ true)
ended_or_placed true c e = inl refl
ended_or_placed false c e = inr e

stopped : (n : ℕ) (p : TaskId) (h : List Event) → BanFacts h → 0 < number_in_flight (is_ack n p) h → HasStoppedChildren n p h
stopped n p h b i t here =
    let due : ack_is_due n p h ≡ true = grind (arith, b.acking n p, acks_in_flight n p h) in
    let all = each_passes (λ u. is_stopped u h) (listed_children n p h) (both (is_listed n p h) _ due).1 in
    let this = All-contains (λ u. is_stopped u h ≡ true) (listed_children n p h) t (All-from_recursion (λ u. is_stopped u h ≡ true) (listed_children n p h) all) here in
    with_mark (ended_or_placed (has_ended t h) (bans_are_placed t h) this)
  where
    with_mark : (has_ended t h ≡ true) ⊎ (bans_are_placed t h ≡ true) → (has_ended t h ≡ true) ⊎ ((mark_of t h ≢ None) × (bans_are_placed t h ≡ true))
    with_mark = elim [ inl ended ↦ inl ended | inr placed ↦ inr (placed_marked t h placed, placed) ]

all_listed : (c : ℕ) (h : List Event) → BanFacts h → ((t : TaskId) → is_named c t h ≡ true → bans_are_placed t h ≡ true) → HasListedAll c h
all_listed c h b placed t n i e =
    let here = rw e at (in_list n (banned_nodes t h) (b.once n t)) in
    acked_listed n t h b (placed_acked n t h (placed t i) (omega arith))

-- the trees of the tasks whose bans are placed
all_stopped : (c : ℕ) (h : List Event) → StopsPlacedTrees h → ((t : TaskId) → is_named c t h ≡ true → bans_are_placed t h ≡ true) → HasStoppedTrees c h
all_stopped c h trees placed a i = trees a (placed a i)

pub returns-clause-listed : goal.returns-clause-listed
returns-clause-listed c = λ cluster. record {
  listed = λ n p h l. listed n p h (ask_facts cluster h l.1) l.0.all_marked;
  acked = λ n p h l. stopped n p h (ban_facts cluster h l.1) l.0;
  placed = λ d h l. (all_listed d h (ban_facts cluster h l.1) l.0.placed, all_stopped d h (stopped_trees cluster h l.1) l.0.placed);
  done = λ d h l. (all_listed d h (ban_facts cluster h l.1) l.0.placed, all_stopped d h (stopped_trees cluster h l.1) l.0.placed);
}

pub returns-clause-trees : goal.returns-clause-trees
returns-clause-trees c = λ cluster h l. stopped_trees cluster h l

pub returns-clause-later : goal.returns-clause-later
returns-clause-later c = λ cluster h l t p e o i m. no_escape t p h (stop_facts cluster h l) (escape_facts cluster h l) e o i m
