use Rattle.std.proofs.Common.{◌≡◌, ◌≢◌, ℕ, true, cond, List, Option, Some, None, refl, arith}
use Rattle.std.specs.Prelude.{is_some}
use Rattle.task_ids.specs.declared.task_id.TaskId.{TaskId}
use Rattle.task_events.specs.declared.event.Event.{Event}
use Rattle.task_events.specs.Tasks.{has_ended}
use Rattle.task_events.specs.Bans.{mark_of, standing_ban, is_gone, unbans_are_sent}
use Rattle.task_events.specs.Laws.{IsQuiet, IsDrained}
use Rattle.task_laws.proofs.Counts.{banned, freed}
use Rattle.task_laws.proofs.InFlight.{unbans_in_flight}
use Rattle.task_laws.proofs.Asks.{AskFacts, ask_facts}
use Rattle.task_laws.proofs.Stops.{StopFacts, stop_facts}
use Rattle.task_laws.proofs.Bans.{BanFacts, ban_facts}
use Rattle.task_laws.proofs.Marks.{CauseFacts, cause_facts}
use Rattle.task_laws.proofs.Quiet.{quiet, ended_placed, placed_each}
use Rattle.task_laws.proofs.drained_bans.Goals as goal

-- an unmarked task has no ban
unmarked_none : (n : ℕ) (p : TaskId) (h : List Event) → BanFacts h → mark_of p h ≡ None → standing_ban n p h ≡ None
unmarked_none n p h b e =
    let no_nodes = b.unmarked p e in
    let none : banned n p h ≡ 0 = rw no_nodes in
    grind (arith, b.stay n p)

-- a marked one that has ended has sent its unbans, and they have come
marked_none : (n : ℕ) (p : TaskId) (h : List Event) → AskFacts h → StopFacts h → BanFacts h → has_ended p h ≡ true → IsQuiet p h → mark_of p h ≢ None → standing_ban n p h ≡ None
marked_none n p h f s b e q m =
    let placed = ended_placed p h f s b e q m in
    let sent : unbans_are_sent p h ≡ true = rw e placed in
    let freed_all : freed n p h ≡ banned n p h = rw sent in
    let x = unbans_in_flight n p h in
    let y = q.no_unban n in
    let z = b.going n p in
    let w = b.stay n p in
    let gone : cond {A = ℕ} (is_gone n p h) 1 0 ≡ banned n p h = omega arith in
    let none : cond {A = ℕ} (is_some (standing_ban n p h)) 1 0 ≡ 0 = omega arith in
    not_some (standing_ban n p h) none
  where
    not_some : (o : Option ℕ) → cond {A = ℕ} (is_some o) 1 0 ≡ 0 → o ≡ None
    not_some None e = refl
    not_some (Some c) e = absurd (omega arith)

drained : (n : ℕ) (p : TaskId) (h : List Event) → AskFacts h → StopFacts h → BanFacts h → has_ended p h ≡ true → IsQuiet p h → (o : Option ℕ) → mark_of p h ≡ o → standing_ban n p h ≡ None
drained n p h f s b e q None m = unmarked_none n p h b m
drained n p h f s b e q (Some c) m = marked_none n p h f s b e q (λ none. absurd (cc))

marked_ended : (slots : ℕ) (h : List Event) → CauseFacts slots h → IsDrained h → (p : TaskId) (c : ℕ) → mark_of p h ≡ Some c → has_ended p h ≡ true
marked_ended slots h k d p c m = k.marked_lives p c m (d.nothing_live p)

no_ban_left : (slots : ℕ) (h : List Event) → AskFacts h → StopFacts h → BanFacts h → CauseFacts slots h → IsDrained h → (n : ℕ) (p : TaskId) (o : Option ℕ) → mark_of p h ≡ o → standing_ban n p h ≡ None
no_ban_left slots h f s b k d n p None m = unmarked_none n p h b m
no_ban_left slots h f s b k d n p (Some c) m = drained n p h f s b (marked_ended slots h k d p c m) (quiet p h d.nothing_in_flight d.no_listing) (mark_of p h) refl

each_ended : (slots : ℕ) (h : List Event) → CauseFacts slots h → IsDrained h → (p : TaskId) (o : Option ℕ) → mark_of p h ≡ o → mark_of p h ≢ None → has_ended p h ≡ true
each_ended slots h k d p None m i = absurd (i m)
each_ended slots h k d p (Some c) m i = marked_ended slots h k d p c m

pub returns-clause-ended : goal.returns-clause-ended
returns-clause-ended c = λ cluster h l p e q n. drained n p h (ask_facts cluster h l) (stop_facts cluster h l) (ban_facts cluster h l) e q (mark_of p h) refl

pub returns-clause-placed : goal.returns-clause-placed
returns-clause-placed c = λ cluster h l. placed_each cluster h l

pub returns-clause-all : goal.returns-clause-all
returns-clause-all c = λ cluster h l d.
    let f = ask_facts cluster h l in
    let s = stop_facts cluster h l in
    let b = ban_facts cluster h l in
    let k = cause_facts cluster h l in (
      λ n p. no_ban_left cluster.slots h f s b k d n p (mark_of p h) refl,
      λ t i. (placed_each cluster h l d.nothing_in_flight d.no_listing t i, each_ended cluster.slots h k d t (mark_of t h) refl i),
    )
