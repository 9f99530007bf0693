-- The deep example is lawful, event by event. Its ids are numbers, so that each question about it computes.
use Rattle.std.proofs.Common.{◌≡◌, ◌≢◌, true, false, List, [], ◌∷◌, Some, None, refl, sym, ap, arith, subst}
use Rattle.task_ids.specs.declared.task_id.TaskId.{TaskId}
use Rattle.task_ids.specs.declared.cluster.Cluster.{Cluster}
use Rattle.task_events.specs.declared.event.Event.{Event}
use Rattle.task_events.specs.declared.event.Event.TheVariants.{Begin, Cancel, Mark, BanPut, Listed, Acked}
use Rattle.task_events.specs.Same.{same_task, same_pair}
use Rattle.task_events.specs.Tasks.{is_live, parent_of}
use Rattle.task_events.specs.Asks.{all_nodes}
use Rattle.task_events.specs.Bans.{mark_of, bans_are_placed}
use Rattle.task_events.specs.Messages.{in_flight}
use Rattle.task_events.specs.Messages.Message.{Ack}
use Rattle.task_events.specs.Cancels.{is_named}
use Rattle.task_events.specs.Lawful.{Lawful}
use Rattle.task_events.specs.Laws.{awaits_children}
use Rattle.task_laws.proofs.Same.{same_tests, same_fields}
use Rattle.task_laws.specs.Example.{IsId}
use Rattle.task_laws.specs.DeepExample.{until_deep_cancel, until_deep_listed, deep_example}

abbrev pub root : TaskId
root = record { node = 1; number = 1; node_in_range = omega arith; number_in_range = omega arith }

abbrev pub child : TaskId
child = record { node = 2; number = 1; node_in_range = omega arith; number_in_range = omega arith }

abbrev pub grandchild : TaskId
grandchild = record { node = 3; number = 1; node_in_range = omega arith; number_in_range = omega arith }

-- what has happened by the time each listing ends
abbrev before_listed : List Event
before_listed = Mark child 2 ∷ BanPut 2 root 2 ∷ Mark root 2 ∷ Cancel 2 root false ∷ Begin 2 ∷ until_deep_cancel root child grandchild

abbrev before_deep_listed : List Event
before_deep_listed = Mark grandchild 2 ∷ BanPut 3 child 2 ∷ Listed 2 root ∷ before_listed

other_node : child ≢ root
other_node e = let nodes = ap (λ (t : TaskId). t.node) e in omega arith

all_marked : (t : TaskId) → parent_of t before_listed ≡ Some root → t.node ≡ 2 → is_live t before_listed ≡ true → mark_of t before_listed ≢ None
all_marked t p _ l = λ m. grind (arith, same_tests, other_node)

all_marked_below : (t : TaskId) → parent_of t before_deep_listed ≡ Some child → t.node ≡ 3 → is_live t before_deep_listed ≡ true → mark_of t before_deep_listed ≢ None
all_marked_below t p n l = λ m. grind (arith, same_tests)

abbrev before_placed : List Event
before_placed = Acked root 2 ∷ Acked child 3 ∷ until_deep_listed root child grandchild

named_is_root : (t : TaskId) → is_named 2 t before_placed ≡ true → t ≡ root
named_is_root t e = grind (arith, same_tests)

root_placed : bans_are_placed root before_placed ≡ true
unfolding same_task same_pair all_nodes
root_placed = refl

named_placed : (t : TaskId) → is_named 2 t before_placed ≡ true → bans_are_placed t before_placed ≡ true
named_placed t e = subst (λ u. bans_are_placed u before_placed ≡ true) (sym (named_is_root t e)) root_placed

-- what is said of the example
pub record IsDeep (cluster : Cluster) (r c g : TaskId) : Type 0 where
  pub lawful : Lawful cluster (deep_example r c g)
  pub awaits : awaits_children 2 r (until_deep_listed r c g) ≡ true
  pub before : in_flight (until_deep_listed r c g) ≡ Ack c 3 ∷ []
  pub after : in_flight (Acked c 3 ∷ until_deep_listed r c g) ≡ Ack r 2 ∷ []

module _ (cluster : Cluster) (nodes : cluster.nodes ≡ 3) (slots : cluster.slots ≡ 2) where
  begun : Lawful cluster (until_deep_cancel root child grandchild)
  unfolding same_task same_pair all_nodes
  begun = (
    record { live = refl; first = refl; no_ban = refl },
    (
      record { requested = omega arith; node = refl; takes = record { next = refl; free = omega arith } },
      (
        record { goes_on = record { live = refl; passed = refl }; unmarked = refl; next = refl; low = omega arith; high = omega arith },
        (
          record { live = refl; first = refl; no_ban = refl },
          (
            record { requested = omega arith; node = refl; takes = record { next = refl; free = omega arith } },
            (
              record { goes_on = record { live = refl; passed = refl }; unmarked = refl; next = refl; low = omega arith; high = omega arith },
              (
                record { begins = refl; in_cluster = omega arith; takes = record { next = refl; free = omega arith } },
                (
                  refl,
                  tt,
                  tt,
                ),
                tt,
              ),
              tt,
            ),
            tt,
          ),
          tt,
        ),
        tt,
      ),
      tt,
    ),
    tt,
  )

  listed : Lawful cluster (until_deep_listed root child grandchild)
  unfolding same_task same_pair all_nodes
  listed = (
    record { opened = refl; all_marked = all_marked_below },
    (
      record { live = refl; unmarked = refl; cause = refl; lowest = λ n u p o l m. omega (arith, u.number_in_range.0) },
      (
        record { sent = omega arith; number = refl },
        (
          record { opened = refl; all_marked = all_marked },
          (
            record { live = refl; unmarked = refl; cause = refl; lowest = λ n u p o l m. omega (arith, u.number_in_range.0) },
            (
              record { sent = omega arith; number = refl },
              (
                record { live = refl; unmarked = refl; cause = refl; lowest = λ n. absurd (cc) },
                (
                  record { current = refl; live = refl; once = refl; one_kind = λ o e. absurd (cc); not_placed = refl; not_done = refl; not_missing = refl },
                  (
                    refl,
                    begun,
                    tt,
                  ),
                  tt,
                ),
                λ m. refl,
              ),
              tt,
            ),
            tt,
          ),
          tt,
        ),
        tt,
      ),
      tt,
    ),
    tt,
  )

  is_lawful : Lawful cluster (deep_example root child grandchild)
  unfolding same_task same_pair all_nodes
  is_lawful = (
    record { due = record { placed_once = refl; done_once = refl; found = refl; at_once = λ e. absurd (cc) }; kind = λ e. cc; placed = named_placed },
    (
      omega arith,
      (
        omega arith,
        listed,
        tt,
      ),
      tt,
    ),
    tt,
  )

  is_deep : IsDeep cluster root child grandchild
  unfolding same_task same_pair all_nodes
  is_deep = record { lawful = is_lawful; awaits = refl; before = refl; after = refl }

  pub deep_for : (r c g : TaskId) → IsId r 1 1 → IsId c 2 1 → IsId g 3 1 → IsDeep cluster r c g
  deep_for r c g i j k =
      subst (λ x. IsDeep cluster x c g) (sym (same_fields r root i.0 i.1))
      (subst (λ x. IsDeep cluster root x g) (sym (same_fields c child j.0 j.1))
      (subst (λ x. IsDeep cluster root child x) (sym (same_fields g grandchild k.0 k.1))
      is_deep))
