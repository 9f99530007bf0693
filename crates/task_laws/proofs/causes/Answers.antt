use Rattle.std.proofs.Common.{◌≡◌, ◌≤◌, ℕ, Bool, true, false, ◌||◌, List, ◌∷◌, Option, Some, None, refl, sym, ap, ◌∙◌, arith, subst}
use Rattle.task_ids.specs.declared.task_id.TaskId.{TaskId}
use Rattle.task_events.specs.declared.reply.Reply.{Reply}
use Rattle.task_events.specs.declared.reply.Reply.TheVariants.{Cancelled}
use Rattle.task_events.specs.declared.event.Event.{Event}
use Rattle.task_events.specs.Tasks.{no_counts, live_on, refusal_of, reply_of, ancestors}
use Rattle.task_events.specs.Bans.{mark_of}
use Rattle.task_events.specs.Cancels.{is_named, names_one_of}
use Rattle.task_events.specs.Allowed.{cancellation_in}
use Rattle.task_events.specs.Laws.{CancelsWithCause}
use Rattle.task_laws.proofs.Marks.{CauseFacts, cause_facts, marked_by, refused_under}
use Rattle.task_laws.proofs.Named.{named_marked}
use Rattle.task_laws.proofs.causes.Goals as goal

abbrev second : Option (TaskId × ℕ) → ℕ
second None = 0
second (Some p) = p.1

abbrev first : TaskId → Option (TaskId × ℕ) → TaskId
first t None = t
first t (Some p) = p.0

also : (a b : Bool) → b ≡ true → (a || b) ≡ true
also true b e = refl
also false b e = e

-- a cancelled reply, by whether the task was refused and whether it is marked
named_by : (slots : ℕ) (h : List Event) → CauseFacts slots h → (t u : TaskId) (c : ℕ) (r : Reply) → reply_of t h ≡ Some r → cancellation_in r ≡ Some (u, c)
    → (o : Option ℕ) → refusal_of t h ≡ o → (m : Option ℕ) → mark_of t h ≡ m → (u ≡ t) × (names_one_of c (t ∷ ancestors t h) h ≡ true)
named_by slots h k t u c r e i (Some d) o m q =
    let refused = k.refused_reply t d o in
    let is : r ≡ Cancelled t d no_counts = cc in
    let told : Some (t, d) ≡ Some (u, c) = rw is at i in
    let same : d ≡ c = ap (λ x. second x) told in
    (sym (ap (λ x. first t x) told), also (is_named c t h) _ (subst (λ x. names_one_of x (ancestors t h) h ≡ true) same (k.refusal t d o)))
named_by slots h k t u c r e i None o None q = absurd (let x = k.ended_reply t r e o in let y = rw q at x in cc)
named_by slots h k t u c r e i None o (Some d) q =
    let x = rw q at (k.ended_reply t r e o) in
    let told : Some (t, d) ≡ Some (u, c) = sym x ∙ i in
    let same : d ≡ c = ap (λ x. second x) told in
    (sym (ap (λ x. first t x) told), subst (λ x. names_one_of x (t ∷ ancestors t h) h ≡ true) same (k.mark t d q))

law : (slots : ℕ) (h : List Event) → CauseFacts slots h → CancelsWithCause h
law slots h k = record {
  mark = k.mark;
  refusal = k.refusal;
  refused_reply = k.refused_reply;
  ended_reply = k.ended_reply;
  no_rejection = k.no_rejection;
  reply = λ t u c r e i. named_by slots h k t u c r e i (refusal_of t h) refl (mark_of t h) refl;
}

-- a node on which as many tasks are live as it has slots, or more, has as many
full : (slots n : ℕ) (h : List Event) → CauseFacts slots h → slots ≤ live_on n h → live_on n h ≡ slots
full slots n h k l = let r = k.room n in omega arith

pub returns-clause-named : goal.returns-clause-named
returns-clause-named c = λ cluster h l. law cluster.slots h (cause_facts cluster h l)

pub returns-clause-events : goal.returns-clause-events
returns-clause-events c = λ cluster. record {
  marked_once = λ t d h l. l.0.unmarked;
  marked_by = λ t d h l. marked_by t d h l.0.cause;
  refused_by = λ t d h l. refused_under t d h l.0.ban;
  ended_by = λ t r h l. l.0.cancelled;
  asks = λ p k n r h l. (l.0.unmarked, l.0.goes_on.passed, l.0.goes_on.live);
  works = λ t h l. (l.0.unmarked, l.0.goes_on.passed, l.0.goes_on.live);
  rejected = λ n p k h l. (full cluster.slots n h (cause_facts cluster h l.1) l.0.full, l.0.node);
  root_rejected = λ k n h l. (full cluster.slots n h (cause_facts cluster h l.1) l.0.full, l.0.low, l.0.high);
  put = λ t p k h l. (l.0.takes.free, l.0.node);
  root = λ k t h l. l.0.takes.free;
}

pub returns-clause-marked : goal.returns-clause-marked
returns-clause-marked c = named_marked
