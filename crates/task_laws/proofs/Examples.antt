-- The example is lawful, event by event. Its ids are numbers, so that each question about it computes.
use Rattle.std.proofs.Common.{◌≡◌, ◌≢◌, true, List, ◌∷◌, Some, None, refl, sym, arith, subst}
use Rattle.task_ids.specs.declared.task_id.TaskId.{TaskId}
use Rattle.task_ids.specs.declared.cluster.Cluster.{Cluster}
use Rattle.task_events.specs.declared.reply.Reply.TheVariants.{Cancelled}
use Rattle.task_events.specs.declared.event.Event.{Event}
use Rattle.task_events.specs.declared.event.Event.TheVariants.{Begin, Put, Reject, Refuse, Cancel, Mark, BanPut, Acked, Answered, End}
use Rattle.task_events.specs.Same.{same_task, same_pair}
use Rattle.task_events.specs.Tasks.{no_counts, is_live, has_ended, parent_of}
use Rattle.task_events.specs.Asks.{all_nodes}
use Rattle.task_events.specs.Bans.{mark_of, bans_are_placed, late_ban}
use Rattle.task_events.specs.Cancels.{is_named}
use Rattle.task_events.specs.Lawful.{Lawful}
use Rattle.task_laws.proofs.Same.{same_tests, same_fields}
use Rattle.task_laws.specs.Example.{IsId, until_cancel, until_listed, example}

abbrev pub root : TaskId
root = record { node = 1; number = 1; node_in_range = omega arith; number_in_range = omega arith }

abbrev pub early : TaskId
early = record { node = 2; number = 1; node_in_range = omega arith; number_in_range = omega arith }

abbrev pub late : TaskId
late = record { node = 2; number = 2; node_in_range = omega arith; number_in_range = omega arith }

-- what has happened by the time the listing ends, before and after the mark of the early child
abbrev before_mark : List Event
before_mark = Refuse late 2 ∷ Reject 2 root 3 ∷ Put late root 2 ∷ BanPut 2 root 2 ∷ Mark root 2 ∷ Cancel 2 root true ∷ Begin 2 ∷ until_cancel root early

all_marked : (t : TaskId) → parent_of t (Mark early 2 ∷ before_mark) ≡ Some root → t.node ≡ 2 → is_live t (Mark early 2 ∷ before_mark) ≡ true → mark_of t (Mark early 2 ∷ before_mark) ≢ None
all_marked t p n l = λ m. grind (arith, same_tests)

abbrev before_done : List Event
before_done = End root (Cancelled root 2 no_counts) ∷ Answered root 1 ∷ End early (Cancelled early 2 no_counts) ∷ Answered root 3 ∷ Answered root 2 ∷ Acked root 2 ∷ until_listed root early late

named_is_root : (t : TaskId) → is_named 2 t before_done ≡ true → t ≡ root
named_is_root t e = grind (arith, same_tests)

root_placed : bans_are_placed root before_done ≡ true
unfolding same_task same_pair all_nodes
root_placed = refl

root_ended : has_ended root before_done ≡ true
unfolding same_task
root_ended = refl

named_placed : (t : TaskId) → is_named 2 t before_done ≡ true → bans_are_placed t before_done ≡ true
named_placed t e = subst (λ u. bans_are_placed u before_done ≡ true) (sym (named_is_root t e)) root_placed

named_ended : (t : TaskId) → is_named 2 t before_done ≡ true → has_ended t before_done ≡ true
named_ended t e = subst (λ u. has_ended u before_done ≡ true) (sym (named_is_root t e)) root_ended

module _ (cluster : Cluster) (nodes : cluster.nodes ≡ 2) (slots : cluster.slots ≡ 2) where
  begun : Lawful cluster (until_cancel root early)
  unfolding same_task same_pair all_nodes
  begun = (
    record { goes_on = record { live = refl; passed = refl }; unmarked = refl },
    (
      record { live = refl; first = refl; no_ban = refl },
      (
        record { requested = omega arith; node = refl; takes = record { next = refl; free = omega arith } },
        (
          record { goes_on = record { live = refl; passed = refl }; unmarked = refl; next = refl; low = omega arith; high = omega arith },
          (
            record { goes_on = record { live = refl; passed = refl }; unmarked = refl; next = refl; low = omega arith; high = omega arith },
            (
              record { goes_on = record { live = refl; passed = refl }; unmarked = refl; next = refl; low = omega arith; high = omega arith },
              (
                record { begins = refl; in_cluster = omega arith; takes = record { next = refl; free = omega arith } },
                (
                  refl,
                  tt,
                  tt,
                ),
                tt,
              ),
              tt,
            ),
            tt,
          ),
          tt,
        ),
        tt,
      ),
      tt,
    ),
    tt,
  )

  pub listed : Lawful cluster (until_listed root early late)
  unfolding same_task same_pair all_nodes
  listed = (
    record { opened = refl; all_marked = all_marked },
    (
      record { live = refl; unmarked = refl; cause = refl; lowest = λ n u p o l m. omega (arith, u.number_in_range.0) },
      (
        record { live = refl; first = refl; ban = refl },
        (
          record { requested = omega arith; node = refl; full = omega arith },
          (
            record { requested = omega arith; node = refl; takes = record { next = refl; free = omega arith } },
            (
              record { sent = omega arith; number = refl },
              (
                record { live = refl; unmarked = refl; cause = refl; lowest = λ n. absurd (cc) },
                (
                  record { current = refl; live = refl; once = refl; one_kind = λ o e. absurd (cc); not_placed = refl; not_done = refl; not_missing = refl },
                  (
                    refl,
                    begun,
                    tt,
                  ),
                  tt,
                ),
                λ m. refl,
              ),
              tt,
            ),
            tt,
          ),
          tt,
        ),
        tt,
      ),
      tt,
    ),
    tt,
  )

  pub lawful : Lawful cluster (example root early late)
  unfolding same_task same_pair all_nodes
  lawful = (
    omega arith,
    (
      record { due = record { placed_once = refl; done_once = refl; found = refl; at_once = λ e. absurd (cc) }; kind = λ e. cc; placed = named_placed; ended = named_ended },
      (
        record { goes_on = record { live = refl; passed = refl }; answered = refl; cancelled = refl; no_rejection = refl },
        (
          omega arith,
          (
            record { goes_on = record { live = refl; passed = refl }; answered = refl; cancelled = refl; no_rejection = refl },
            (
              omega arith,
              (
                omega arith,
                (
                  omega arith,
                  listed,
                  tt,
                ),
                tt,
              ),
              tt,
            ),
            tt,
          ),
          tt,
        ),
        tt,
      ),
      tt,
    ),
    tt,
  )

  late_is_late : late_ban late (example root early late) ≡ Some 2
  unfolding same_task same_pair
  late_is_late = refl

  pub lawful_for : (r e l : TaskId) → IsId r 1 1 → IsId e 2 1 → IsId l 2 2 → Lawful cluster (example r e l) × (late_ban l (example r e l) ≡ Some 2)
  lawful_for r e l i j k =
      let is_root = same_fields r root i.0 i.1 in
      let is_early = same_fields e early j.0 j.1 in
      let is_late = same_fields l late k.0 k.1 in
      subst (λ x. Lawful cluster (example x e l) × (late_ban l (example x e l) ≡ Some 2)) (sym is_root)
      (subst (λ x. Lawful cluster (example root x l) × (late_ban l (example root x l) ≡ Some 2)) (sym is_early)
      (subst (λ x. Lawful cluster (example root early x) × (late_ban x (example root early x) ≡ Some 2)) (sym is_late)
      (lawful, late_is_late)))
