-- What is so of a message about bans that reaches its node.
use Rattle.std.proofs.Common.{◌≡◌, ◌≤◌, ◌<◌, ◌==◌, ℕ, Bool, true, false, not, List, [], ◌∷◌, Option, Some, None, filter, refl, sym, ap, subst, ◌∙◌, arith}
use Rattle.std.specs.Prelude.{slice_get, is_some}
use Rattle.std.specs.List.{list_any}
use Rattle.task_ids.specs.declared.task_id.TaskId.{TaskId}
use Rattle.task_ids.specs.declared.cluster.Cluster.{Cluster}
use Rattle.task_ids.specs.declared.corpus.Corpus.{Corpus}
use Rattle.task_ids.specs.Limits.{IsCancel}
use Rattle.task_table.specs.Table.{Table}
use Rattle.task_events.specs.declared.event.Event.{Event}
use Rattle.task_events.specs.declared.event.Event.TheVariants.{Ask, Answered, Mark}
use Rattle.task_events.specs.Same.{same_task}
use Rattle.task_events.specs.Asks.{unanswered, all_nodes}
use Rattle.task_events.specs.Bans.{mark_of, banned_nodes, standing_ban, is_acked}
use Rattle.task_events.specs.Lawful.{Lawful}
use Rattle.task_events.specs.Laws.{IsTold, IsDeliveredAt, is_banned}
use Rattle.task_events.specs.Messages.{in_flight, is_ban, is_ack, is_unban}
use Rattle.task_events.specs.Messages.Message.{Ban, Ack, Unban}
use Rattle.task_laws.proofs.Asks.{AskFacts, ask_facts}
use Rattle.task_laws.proofs.Bans.{BanFacts, ban_facts, before_acked}
use Rattle.task_laws.proofs.Content.{told}
use Rattle.task_laws.proofs.Counts.{banned}
use Rattle.task_laws.proofs.InFlight.{bans_in_flight, acks_in_flight}
use Rattle.task_laws.proofs.Numbers.{in_list}
use Rattle.task_laws.proofs.Once.{once_each}
use Rattle.task_laws.proofs.Places.{at_place}
use Rattle.task_laws.proofs.Same.{same_pair_refl, same_tests}
use Rattle.script_lang.specs.declared.command.Script.{Script}
use Rattle.node_parts.specs.declared.notice.Notice.{Notice}
use Rattle.node_parts.specs.declared.notice.Notice.TheVariants as notices
use Rattle.world_moves.specs.declared.flight.Sent.{Sent}
use Rattle.world_moves.specs.declared.flight.Sent.TheVariants as sent
use Rattle.node_parts.specs.declared.running.Running.{Running}
use Rattle.world_moves.specs.Flights.{message_of, message_of_notice}
use Rattle.world_moves.specs.Ties.{Ties, IsGood}
use Rattle.task_ids.proofs.Each.{all_here}
use Rattle.world_moves.proofs.ByPlace.{pair_at}
use Rattle.world_moves.specs.Good.{so_far}

-- ---- the nodes of bans

any_of_filter : {X : Type 0} (f g : X → Bool) (xs : List X) → list_any f (filter g xs) ≡ true → list_any f xs ≡ true
any_of_filter f g [] e = e
any_of_filter f g (x ∷ xs) e = let rest = any_of_filter f g xs in grind arith

passes_filter : (test : ℕ → Bool) (n : ℕ) (ns : List ℕ) → list_any (λ m. n == m) (filter test ns) ≡ true → test n ≡ true
passes_filter test n [] e = absurd (cc)
passes_filter test n (m ∷ ns) e = let rest = passes_filter test n ns in grind (arith, same_tests)

abbrev IsIn : Cluster → ℕ → Type 0
IsIn cluster n = (1 ≤ n) × (n ≤ cluster.nodes)

-- what holds in either case
either : (P : Type 0) (b : Bool) → (b ≡ true → P) → (b ≡ false → P) → P
either P true f g = f refl
either P false f g = g refl

-- an unanswered ask is one to a node of the cluster
asked_in : (cluster : Cluster) (p : TaskId) (n : ℕ) (h : List Event) → Lawful cluster h → list_any (λ a. a.node == n) (unanswered p h) ≡ true → IsIn cluster n
asked_in cluster p n [] l e = absurd (cc)
asked_in cluster p n (Ask q k m r ∷ h) l e =
    let before = asked_in cluster p n h l.1 in
    either (IsIn cluster n) (same_task p q)
    (λ s. either (IsIn cluster n) (m == n) (λ i. let same : m ≡ n = grind (arith, same_tests) in subst (IsIn cluster) same (l.0.low, l.0.high)) (λ i. before (rw i at (rw s at e))))
    (λ s. before (rw s at e))
asked_in cluster p n (Answered q k ∷ h) l e =
    let before = asked_in cluster p n h l.1 in
    either (IsIn cluster n) (same_task p q) (λ s. before (any_of_filter (λ a. a.node == n) (λ a. not (a.ask == k)) (unanswered p h) (rw s at e))) (λ s. before (rw s at e))
asked_in cluster p n (_ ∷ h) l e = asked_in cluster p n h l.1 e

-- a banned node is one of the cluster
pub banned_in : (cluster : Cluster) (p : TaskId) (n : ℕ) (h : List Event) → Lawful cluster h → is_banned n p h ≡ true → IsIn cluster n
banned_in cluster p n [] l e = absurd (cc)
banned_in cluster p n (Mark q c ∷ h) l e =
    let before = banned_in cluster p n h l.1 in
    either (IsIn cluster n) (same_task p q)
    (λ s. asked_in cluster p n h l.1 (passes_filter (λ m. list_any (λ a. a.node == m) (unanswered p h)) n all_nodes (rw s at e)))
    (λ s. before (rw s at e))
banned_in cluster p n (_ ∷ h) l e = banned_in cluster p n h l.1 e

-- ---- the messages

module _ (cluster : Cluster) (corpus : Corpus) (script : Script) (h : List Event) (tasks : TaskId → Option Running) (tables : List Table) (flight : List Sent) (ties : Ties cluster corpus script h tasks tables flight) (nth : ℕ) where
  asks : AskFacts h
  asks = ask_facts cluster h ties.lawful

  facts : BanFacts h
  facts = ban_facts cluster h ties.lawful

  notice_here : (notice : Notice) → slice_get flight nth ≡ Some (sent.Notice notice) → slice_get (in_flight h) nth ≡ Some (message_of_notice notice)
  notice_here notice e = let p = pair_at (message_of h) flight (in_flight h) nth (sent.Notice notice) ties.sent e in p.1 ∙ sym p.2

  module _ (p : TaskId) (c n : ℕ) (here : slice_get flight nth ≡ Some (sent.Notice (notices.Ban p c n))) where
    pub ban_here : slice_get (in_flight h) nth ≡ Some (Ban p c n)
    ban_here = notice_here (notices.Ban p c n) here

    pub ban_taken : IsDeliveredAt nth (is_ban n p) h
    ban_taken = at_place (is_ban n p) h nth (Ban p c n) ((once_each h asks facts).ban n p) ban_here (same_pair_refl p n)

    ban_told : IsTold (Ban p c n) h
    ban_told = all_here (λ m. IsTold m h) (in_flight h) nth (Ban p c n) (told cluster h ties.lawful) ban_here

    pub ban_mark : mark_of p h ≡ Some c
    ban_mark = ban_told.0

    pub ban_number : IsCancel c
    ban_number = all_here (IsGood cluster (so_far corpus script h) h) (in_flight h) nth (Ban p c n) ties.good ban_here

    pub ban_in : IsIn cluster n
    ban_in = banned_in cluster p n h ties.lawful ban_told.1

    -- no ban of it stands there yet
    pub ban_free : standing_ban n p h ≡ None
    ban_free = by_ban (standing_ban n p h) refl
      where
        by_ban : (o : Option ℕ) → standing_ban n p h ≡ o → standing_ban n p h ≡ None
        by_ban None e = e
        by_ban (Some d) e = absurd (let away = ban_taken.0 in let some : is_some (standing_ban n p h) ≡ true = ap is_some e in grind (arith, bans_in_flight n p h, facts.stay n p, facts.once n p))

  module _ (p : TaskId) (n : ℕ) (here : slice_get flight nth ≡ Some (sent.Notice (notices.Ack p n))) where
    pub ack_here : slice_get (in_flight h) nth ≡ Some (Ack p n)
    ack_here = notice_here (notices.Ack p n) here

    pub ack_taken : IsDeliveredAt nth (is_ack n p) h
    ack_taken = at_place (is_ack n p) h nth (Ack p n) ((once_each h asks facts).ack n p) ack_here (same_pair_refl p n)

    -- its node is banned, and has not acknowledged
    not_yet : (is_acked n p h ≡ false) × (0 < banned n p h)
    not_yet = before_acked n p h facts (let away = ack_taken.0 in grind (arith, acks_in_flight n p h))

    pub ack_new : is_acked n p h ≡ false
    ack_new = not_yet.0

    pub ack_banned : is_banned n p h ≡ true
    ack_banned = let some = not_yet.1 in grind (arith, some, in_list n (banned_nodes p h) (facts.once n p))

  module _ (p : TaskId) (n : ℕ) (here : slice_get flight nth ≡ Some (sent.Notice (notices.Unban p n))) where
    pub unban_here : slice_get (in_flight h) nth ≡ Some (Unban p n)
    unban_here = notice_here (notices.Unban p n) here

    pub unban_taken : IsDeliveredAt nth (is_unban n p) h
    unban_taken = at_place (is_unban n p) h nth (Unban p n) ((once_each h asks facts).unban n p) unban_here (same_pair_refl p n)

    unban_told : IsTold (Unban p n) h
    unban_told = all_here (λ m. IsTold m h) (in_flight h) nth (Unban p n) (told cluster h ties.lawful) unban_here

    pub unban_in : IsIn cluster n
    unban_in = banned_in cluster p n h ties.lawful unban_told.1
