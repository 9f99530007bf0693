-- Where a listing has ended, no child of the banned task goes on there.
use Rattle.std.proofs.Common.{◌≡◌, ◌≢◌, ℕ, true, List, [], ◌∷◌, Some, None, refl, arith}
use Rattle.task_ids.specs.declared.task_id.TaskId.{TaskId}
use Rattle.task_ids.specs.declared.cluster.Cluster.{Cluster}
use Rattle.task_events.specs.declared.event.Event.{Event}
use Rattle.task_events.specs.declared.event.Event.TheVariants.{Put, Mark, BanPut, Listed}
use Rattle.task_events.specs.Tasks.{is_live, parent_of}
use Rattle.task_events.specs.Bans.{mark_of, ban_put, late_ban, is_listed, listing_is_open}
use Rattle.task_events.specs.Allowed.{Allowed}
use Rattle.task_events.specs.Lawful.{Lawful}
use Rattle.task_laws.proofs.Same.{same_tests, same_pair_refl}
use Rattle.task_laws.proofs.Counts.{banned}
use Rattle.task_laws.proofs.Stops.{StopFacts, is_put_for, times_listed, stop_facts}
use Rattle.task_laws.proofs.Dues.{unmarked_not_listed}
use Rattle.task_laws.proofs.Bans.{BanFacts, ban_facts}

-- a listing, open or ended, is that of a marked task
open_marked : (n : ℕ) (p : TaskId) (h : List Event) → BanFacts h → listing_is_open n p h ≡ true → mark_of p h ≢ None
open_marked n p h b o m =
    let none = b.unmarked p m in
    let zero : banned n p h ≡ 0 = rw none in
    grind (arith, b.course n p)

listed_marked : (n : ℕ) (p : TaskId) (h : List Event) → BanFacts h → is_listed n p h ≡ true → mark_of p h ≢ None
listed_marked n p h b o m =
    let none = b.unmarked p m in
    let zero : banned n p h ≡ 0 = rw none in
    grind (arith, b.course n p)

pub record EscapeFacts (h : List Event) : Type 0 where
  pub open_put : (n : ℕ) (p : TaskId) → listing_is_open n p h ≡ true → ban_put n p h ≡ mark_of p h
  pub listed_put : (n : ℕ) (p : TaskId) → is_listed n p h ≡ true → ban_put n p h ≡ mark_of p h
  -- a child that was not listed was put late
  pub not_listed : (t p : TaskId) → parent_of t h ≡ Some p → is_listed t.node p h ≡ true → times_listed t.node p t h ≡ 0 → late_ban t h ≡ mark_of p h

-- and one that is listed and live is marked
pub no_escape : (t p : TaskId) (h : List Event) → StopFacts h → EscapeFacts h → parent_of t h ≡ Some p → is_listed t.node p h ≡ true → is_live t h ≡ true → mark_of t h ≡ None → late_ban t h ≡ mark_of p h
no_escape t p h g s e o l m = s.not_listed t p e o (unmarked_not_listed t.node p t h g l m)

module _ (cluster : Cluster) where
  keep_open_put : (e : Event) (h : List Event) → Allowed cluster e h → BanFacts h → EscapeFacts h → (n : ℕ) (p : TaskId) → listing_is_open n p (e ∷ h) ≡ true → ban_put n p (e ∷ h) ≡ mark_of p (e ∷ h)
  keep_open_put (Mark q c) h a b s n p o = grind (arith, same_tests, s.open_put n p o, open_marked n p h b o)
  keep_open_put (BanPut m q c) h a b s n p o = grind (arith, same_tests, s.open_put n p)
  keep_open_put (Listed m q) h a b s n p o = grind (arith, same_tests, s.open_put n p)
  keep_open_put _ h a b s n p o = s.open_put n p o

  keep_listed_put : (e : Event) (h : List Event) → Allowed cluster e h → BanFacts h → EscapeFacts h → (n : ℕ) (p : TaskId) → is_listed n p (e ∷ h) ≡ true → ban_put n p (e ∷ h) ≡ mark_of p (e ∷ h)
  keep_listed_put (Mark q c) h a b s n p o = grind (arith, same_tests, s.listed_put n p o, listed_marked n p h b o)
  keep_listed_put (BanPut m q c) h a b s n p o = grind (arith, same_tests, s.listed_put n p)
  keep_listed_put (Listed m q) h a b s n p o = grind (arith, same_tests, s.listed_put n p, s.open_put n p)
  keep_listed_put _ h a b s n p o = s.listed_put n p o

  keep_not_listed : (e : Event) (h : List Event) → Allowed cluster e h → StopFacts h → BanFacts h → EscapeFacts h → (t p : TaskId) → parent_of t (e ∷ h) ≡ Some p → is_listed t.node p (e ∷ h) ≡ true → times_listed t.node p t (e ∷ h) ≡ 0 → late_ban t (e ∷ h) ≡ mark_of p (e ∷ h)
  keep_not_listed (Put u q k) h a g b s t p e o i = grind (arith, same_tests, s.not_listed t p, s.listed_put t.node p o)
  keep_not_listed (Mark u c) h a g b s t p e o i = grind (arith, same_tests, s.not_listed t p, listed_marked t.node p h b o)
  keep_not_listed (Listed n q) h a g b s t p e o i =
      let put : is_put_for t.node p t h ≡ true = rw e (same_pair_refl p t.node) in
      grind (arith, same_tests, s.not_listed t p, g.put_once t.node p t)
  keep_not_listed _ h a g b s t p e o i = s.not_listed t p e o i

  pub escape_facts : (h : List Event) → Lawful cluster h → EscapeFacts h
  escape_facts [] l = record { open_put = λ n p o. refl; listed_put = λ n p o. refl; not_listed = λ t p e o i. refl }
  escape_facts (e ∷ h) l =
      let b = ban_facts cluster h l.1 in
      let s = escape_facts h l.1 in
      record {
        open_put = keep_open_put e h l.0 b s;
        listed_put = keep_listed_put e h l.0 b s;
        not_listed = keep_not_listed e h l.0 (stop_facts cluster h l.1) b s;
      }
