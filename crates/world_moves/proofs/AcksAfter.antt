-- The tables fit the past after an acknowledgement has come, with the answers, the unbans and the acknowledgement of the ban above that come due with it.
use Rattle.std.proofs.Common.{◌≡◌, ◌≤◌, ◌-◌, ◌==◌, ℕ, Bool, true, false, cond, not, List, [], ◌∷◌, ◌++◌, map, filter, Option, Some, None, refl, sym, ap, subst, ◌∙◌, inr, arith, append_assoc}
use Rattle.std.specs.Prelude.{◌&&◌, slice_get, slice_set, remove, is_some, Contains}
use Rattle.std.specs.List.{AllByRecursion}
use Rattle.std.specs.BTreeSet.{BTreeSet}
use Rattle.std.specs.FinMap.{FinMap, get}
use Rattle.std.proofs.lemmas.List.{map-append}
use Rattle.std.proofs.lemmas.Map.Views.{Contains-from_any, exact_unsigned_eq}
use Rattle.task_ids.specs.declared.task_id.TaskId.{TaskId}
use Rattle.task_ids.specs.declared.cluster.Cluster.{Cluster}
use Rattle.task_ids.specs.declared.corpus.Corpus.{Corpus}
use Rattle.task_ids.specs.TaskIdOrder.{task_id_cmp}
use Rattle.task_table.specs.Table.{Table}
use Rattle.cancel_core.specs.Acts.{due_acts}
use Rattle.cancel_core.specs.declared.act.Act.{Act}
use Rattle.cancel_core.specs.Cancellation.{Cancellation, with_ack, rest_of}
use Rattle.cancel_core.specs.Cancellations.{Cancellations, with_entry}
use Rattle.cancel_core.specs.Listings.{is_stopped, left_by, leaving_acts}
use Rattle.task_events.specs.declared.event.Event.{Event}
use Rattle.task_events.specs.declared.event.Event.TheVariants.{Acked}
use Rattle.task_events.specs.Same.{same_task}
use Rattle.task_events.specs.Bans.{mark_of, banned_nodes, is_acked, unbans_are_sent}
use Rattle.task_events.specs.Lawful.{AwaitsNoMark, Lawful}
use Rattle.task_events.specs.Tasks.{parent_of}
use Rattle.task_events.specs.Messages.{Message, in_flight, unbans_from, ack_over}
use Rattle.task_events.specs.Messages.Message.{Ack, Unban}
use Rattle.task_laws.proofs.Bans.{BanFacts, ban_facts, placed_acked}
use Rattle.task_laws.proofs.Numbers.{in_list}
use Rattle.task_laws.proofs.Same.{same_tests}
use Rattle.task_laws.proofs.Stops.{stop_facts}
use Rattle.script_lang.specs.declared.command.Script.{Script}
use Rattle.node_parts.specs.declared.notice.Notice.TheVariants as notices
use Rattle.world_moves.specs.declared.flight.Sent.{Sent}
use Rattle.world_moves.specs.declared.flight.Sent.TheVariants as sent
use Rattle.node_parts.specs.declared.listing.Listing.{Listing}
use Rattle.node_parts.specs.declared.running.Running.{Running}
use Rattle.world_moves.specs.Acts.{messages_in, offered_in, left_after, answers_of, answers_in}
use Rattle.world_moves.specs.Cancels.{waiting_for, with_answers, answer_to}
use Rattle.world_moves.specs.Left.{HasLeft}
use Rattle.world_moves.specs.Cancelling.{Cancelling, HasCoreAt, IsCancellationOf, IsEntryOf, KnowsListings, is_under_way}
use Rattle.world_moves.specs.Flights.{message_of}
use Rattle.world_moves.specs.Moves.{Delivers, IsPartOf, IsPartly}
use Rattle.world_moves.specs.Plain.{AnswersPlainly}
use Rattle.command_roots.specs.Roots.{scripted}
use Rattle.world_moves.specs.Ties.{Ties, IsGood}
use Rattle.world_moves.proofs.AtOneTask.{at_ack}
use Rattle.world_moves.proofs.CancelAnswersAfter.{answers_tied, answers_noted}
use Rattle.world_moves.proofs.CountsAfter.{let_go, still_waiting, others_wait, answers_then, counts_then}
use Rattle.world_moves.proofs.BansInFlight.{ack_here, ack_taken, ack_new, ack_banned}
use Rattle.world_moves.proofs.ByPlace.{pairs_left, all_left}
use Rattle.world_moves.proofs.CancelFrame.{entry_frame}
use Rattle.world_moves.proofs.AcksSent.{over_good, acts_say, offers_no_more}
use Rattle.world_moves.proofs.CoresAfter.{marked_in, core_on, its_entry, cores_after, entries_left}
use Rattle.world_moves.proofs.DueActs.{due_answered, due_sent, due_left, knows_stopped}
use Rattle.world_moves.proofs.FlightAfter.{all_stay}
use Rattle.world_moves.proofs.KeptTasks.{kept_same}
use Rattle.world_moves.proofs.NodeTablesSame.{listed_same}
use Rattle.world_moves.proofs.NamedCancels.{is_in, in_filter}
use Rattle.world_moves.proofs.OneStops.{StopsAtMost}
use Rattle.world_moves.proofs.Parts.{part_lawful, part_plain, part_alone, later_part}
use Rattle.world_moves.proofs.WaitsAfter.{acks_due, waits_after}
use Rattle.world_moves.proofs.WhoStops.{ack_stops}
use Rattle.world_moves.specs.Good.{so_far}
use Rattle.world_moves.proofs.CoresAfterLeave.{answers_alone}
use Rattle.world_moves.specs.Owning.{OneAtATime}

-- ---- tasks and messages

all_append : {X : Type 0} (P : X → Type 0) (xs ys : List X) → AllByRecursion P xs → AllByRecursion P ys → AllByRecursion P (xs ++ ys)
all_append P [] ys a b = b
all_append P (x ∷ xs) ys a b = (a.0, all_append P xs ys a.1 b)

module _ (cluster : Cluster) (corpus : Corpus) (past : List Event) (p : TaskId) where
  good_each : (ns : List ℕ) → AllByRecursion (IsGood cluster corpus past) (map (Unban p) ns)
  good_each [] = tt
  good_each (n ∷ ns) = (tt, good_each ns)

  good_unbans : (b : Bool) (ns : List ℕ) → AllByRecursion (IsGood cluster corpus past) (cond b (map (Unban p) ns) [])
  good_unbans true ns = good_each ns
  good_unbans false ns = tt

module _ (cluster : Cluster) (corpus : Corpus) (script : Script) (h : List Event) (tasks : TaskId → Option Running) (tables : List Table) (flight : List Sent) (ties : Ties cluster corpus script h tasks tables flight) (awaits : AwaitsNoMark h) (nth : ℕ) (p : TaskId) (n : ℕ) (here : slice_get flight nth ≡ Some (sent.Notice (notices.Ack p n))) where
  -- what it sends
  abbrev sent_with : List Message
  sent_with = unbans_from p (Acked p n ∷ h) ++ ack_over (parent_of p h) p.node h (Acked p n ∷ h)

  pub tied_ack : (more : List Sent) → map (message_of (Acked p n ∷ h)) more ≡ map Some sent_with → Ties cluster corpus script (Acked p n ∷ h) tasks tables (remove flight nth ++ more)
  tied_ack more says =
      let taken = ack_taken cluster corpus script h tasks tables flight ties nth p n here in
      record {
        lawful = (taken.0, ties.lawful, awaits);
        kept = kept_same cluster corpus (scripted script) (Acked p n) h tasks refl refl ties.kept;
        listed = λ place. listed_same cluster (Acked p n) h (λ m. refl) refl place _ (ties.listed place);
        sent = map-append (message_of (Acked p n ∷ h)) (remove flight nth) more
            ∙ ap (λ ms. ms ++ map (message_of (Acked p n ∷ h)) more) (all_stay (Acked p n) h (remove flight nth) (remove (in_flight h) nth) (pairs_left (message_of h) flight (in_flight h) nth ties.sent))
            ∙ ap (λ ms. map Some (remove (in_flight h) nth) ++ ms) says
            ∙ sym (map-append Some (remove (in_flight h) nth) sent_with)
            ∙ ap (map Some) (sym (append_assoc (remove (in_flight h) nth) (unbans_from p (Acked p n ∷ h)) (ack_over (parent_of p h) p.node h (Acked p n ∷ h))))
            ∙ ap (λ ms. map Some (ms ++ unbans_from p (Acked p n ∷ h) ++ ack_over (parent_of p h) p.node h (Acked p n ∷ h))) (sym taken.1);
        good = rw taken.1 (all_append (IsGood cluster (so_far corpus script h) (Acked p n ∷ h)) (remove (in_flight h) nth ++ unbans_from p (Acked p n ∷ h)) (ack_over (parent_of p h) p.node h (Acked p n ∷ h))
            (all_append (IsGood cluster (so_far corpus script h) (Acked p n ∷ h)) (remove (in_flight h) nth) (unbans_from p (Acked p n ∷ h)) (all_left (IsGood cluster (so_far corpus script h) h) (in_flight h) nth ties.good)
            (good_unbans cluster (so_far corpus script h) (Acked p n ∷ h) p (unbans_are_sent p (Acked p n ∷ h)) (banned_nodes p h)))
            (over_good cluster (so_far corpus script h) (Acked p n ∷ h) (parent_of p h) p.node h (Acked p n ∷ h)));
        within = ties.within;
        plain = ties.plain;
      }

  -- of the listed children the task may stop with it
  pub ack_stopping : StopsAtMost p h (Acked p n ∷ h)
  ack_stopping = ack_stops cluster p h n (ack_taken cluster corpus script h tasks tables flight ties nth p n here).0

  facts : BanFacts h
  facts = ban_facts cluster h ties.lawful

  pub ack_marked : is_some (mark_of p h) ≡ true
  ack_marked = by_mark (mark_of p h) refl
    where
      by_mark : (o : Option ℕ) → mark_of p h ≡ o → is_some (mark_of p h) ≡ true
      by_mark (Some c) e = rw e refl
      by_mark None e =
          let banned = ack_banned cluster corpus script h tasks tables flight ties nth p n here in
          let none = facts.unmarked p e in
          absurd (let b = rw none at banned in cc)

  -- the cancellation of its task is under way
  pub ack_under_way : is_under_way p h ≡ true
  ack_under_way =
      let fresh = ack_new cluster corpus script h tasks tables flight ties nth p n here in
      let banned = ack_banned cluster corpus script h tasks tables flight ties nth p n here in
      let acked = placed_acked n p h in
      let marked = ack_marked in
      grind (arith, in_list n (banned_nodes p h) (facts.once n p), acked)

  -- the core of its task awaits the node
  module _ (cores : List Cancellations) (are : (place : ℕ) → HasCoreAt cluster (λ t. waiting_for t h) place h (slice_get cores place)) where
    pub ack_high : p.node ≤ cluster.nodes
    ack_high = marked_in cluster p h ties.lawful ack_marked

    pub ack_core : (core : Cancellations) × (slice_get cores (p.node - 1) ≡ Some core)
    ack_core = core_on cluster (λ t. waiting_for t h) h cores are p ack_high

    pub ack_entry : (core : Cancellations) → slice_get cores (p.node - 1) ≡ Some core → (c : Cancellation) × (get core.entries p ≡ Some c) × IsCancellationOf (waiting_for p h) p h c
    ack_entry core on = its_entry cluster (λ t. waiting_for t h) h cores are p ack_high core on ack_under_way

  pub ack_awaited : (c : Cancellation) → IsCancellationOf (waiting_for p h) p h c → Contains c.awaited n
  ack_awaited c known =
      let fresh = ack_new cluster corpus script h tasks tables flight ties nth p n here in
      let banned = ack_banned cluster corpus script h tasks tables flight ties nth p n here in
      let stays = in_filter (λ m. not (is_acked m p h)) n (banned_nodes p h) ∙ ap (λ b. b && is_in n (banned_nodes p h)) (ap not fresh) in
      subst (λ ns. Contains ns n) (sym known.2) (Contains-from_any exact_unsigned_eq n (filter (λ m. not (is_acked m p h)) (banned_nodes p h)) (stays ∙ banned))

-- ---- the cancellation

module _ (h : List Event) (p : TaskId) (n : ℕ) where
  awaited_now : (ns : List ℕ) → filter (λ m. not (m == n)) (filter (λ m. not (is_acked m p h)) ns) ≡ filter (λ m. not (is_acked m p (Acked p n ∷ h))) ns
  awaited_now [] = refl
  awaited_now (m ∷ ns) = let rest = awaited_now ns in grind (arith, same_tests)

  -- a core knows that the node has acknowledged
  pub acked_known : (c : Cancellation) → IsCancellationOf (waiting_for p h) p h c → IsCancellationOf (waiting_for p h) p (Acked p n ∷ h) (with_ack c n)
  acked_known c known = (known.0, known.1, ap (filter (λ m. not (m == n))) known.2 ∙ awaited_now (banned_nodes p h), known.3, known.4)

  -- the core then
  abbrev pub after_ack : Cancellations → Cancellation → Cancellations
  after_ack core c = left_by (with_entry core p (rest_of (with_ack c n))) p (is_stopped (with_ack c n))

  -- what it has to do
  abbrev pub acts_then : Cancellations → Cancellation → List Act
  acts_then core c = due_acts p (with_ack c n) ++ leaving_acts core p (is_stopped (with_ack c n))

  others_stay : (cluster : Cluster) → Lawful cluster h → (u : TaskId) → same_task p u ≡ false → (o : Option Cancellation) → IsEntryOf (waiting_for u h) u h o → IsEntryOf (waiting_for u (Acked p n ∷ h)) u (Acked p n ∷ h) o
  others_stay cluster lawful u differs o has =
      let turned : same_task u p ≡ false = grind (arith, same_tests) in
      rw (others_wait cluster p (Acked p n) h lawful (at_ack p n h) u differs) (entry_frame (waiting_for u h) u h (Acked p n) o turned tt has)

  pub noted_ack : (cluster : Cluster) (tables : List Table) (roots : ℕ → Option TaskId) (bans : List (FinMap task_id_cmp ℕ)) (cores : List Cancellations) (listings : BTreeSet Listing) → Lawful cluster h
      → Cancelling cluster (λ t. waiting_for t h) h tables roots bans cores listings → p.node ≤ cluster.nodes
      → (core : Cancellations) → slice_get cores (p.node - 1) ≡ Some core → (c : Cancellation) → IsCancellationOf (waiting_for p h) p h c → StopsAtMost p h (Acked p n ∷ h)
      → Cancelling cluster (λ t. waiting_for t (Acked p n ∷ h)) (Acked p n ∷ h) tables roots bans (slice_set cores (p.node - 1) (after_ack core c)) listings
  noted_ack cluster tables roots bans cores listings lawful ties high core here c known at_most = record {
    rows_are = ties.rows_are;
    roots_are = ties.roots_are;
    bans_are = ties.bans_are;
    cores_are = cores_after cluster (λ t. waiting_for t h) h cores ties.cores_are p high core here (after_ack core c) (λ t. waiting_for t (Acked p n ∷ h)) (Acked p n ∷ h) (rest_of (with_ack c n))
        (entries_left (with_entry core p (rest_of (with_ack c n))) p (is_stopped (with_ack c n))) this (others_stay cluster lawful);
    waits_are = waits_after p h (Acked p n ∷ h) (stop_facts cluster h lawful) at_most cores core here ties.waits_are (with_entry core p (rest_of (with_ack c n))) refl refl
        (is_stopped (with_ack c n)) (knows_stopped (waiting_for p h) p (Acked p n ∷ h) (with_ack c n) (acked_known c known));
    listings_are = ties.listings_are;
  }
    where
      this : IsEntryOf (waiting_for p (Acked p n ∷ h)) p (Acked p n ∷ h) (rest_of (with_ack c n))
      this = subst (λ ks. IsEntryOf ks p (Acked p n ∷ h) (rest_of (with_ack c n))) (still_waiting cluster p (Acked p n) h lawful (at_ack p n h)) (due_left (waiting_for p h) p (Acked p n ∷ h) (with_ack c n) (acked_known c known))

-- ---- the whole of it

module _ (cluster : Cluster) (corpus : Corpus) (script : Script) (h : List Event) (tasks : TaskId → Option Running) (tables : List Table) (flight : List Sent) (ties : Ties cluster corpus script h tasks tables flight) (awaits : AwaitsNoMark h) (nth : ℕ) (p : TaskId) (n : ℕ) (here : slice_get flight nth ≡ Some (sent.Notice (notices.Ack p n)))
    (core : Cancellations) (knows : KnowsListings p.node h core) (c : Cancellation) (known : IsCancellationOf (waiting_for p h) p h c) (left : ℕ → ℕ) (has : HasLeft None h left) where
  -- the acknowledgement of the ban above is sent where it falls due
  ack_sent : map (message_of (Acked p n ∷ h)) (messages_in p.node (leaving_acts core p (is_stopped (with_ack c n)))) ≡ map Some (ack_over (parent_of p h) p.node h (Acked p n ∷ h))
  ack_sent =
      ap (λ b. map (message_of (Acked p n ∷ h)) (messages_in p.node (leaving_acts core p b))) (knows_stopped (waiting_for p h) p (Acked p n ∷ h) (with_ack c n) (acked_known h p n c known))
      ∙ acks_due p h (Acked p n ∷ h) (stop_facts cluster h ties.lawful) (ack_stopping cluster corpus script h tasks tables flight ties awaits nth p n here) core knows (Acked p n ∷ h)

  tied_now : Ties cluster corpus script (Acked p n ∷ h) tasks tables (remove flight nth ++ messages_in p.node (acts_then h p n core c))
  tied_now =
      tied_ack cluster corpus script h tasks tables flight ties awaits nth p n here (messages_in p.node (acts_then h p n core c))
      (acts_say (Acked p n ∷ h) p.node (due_acts p (with_ack c n)) (leaving_acts core p (is_stopped (with_ack c n))) (unbans_from p (Acked p n ∷ h)) (ack_over (parent_of p h) p.node h (Acked p n ∷ h))
      (due_sent (waiting_for p h) p (Acked p n ∷ h) (with_ack c n) (acked_known h p n c known) p.node (Acked p n ∷ h)) ack_sent)

  pub tied_after : Ties cluster corpus script (with_answers p (Acked p n ∷ h)) tasks tables (remove flight nth ++ messages_in p.node (acts_then h p n core c))
  tied_after = answers_tied cluster p (Acked p n ∷ h) corpus script tasks tables _ tied_now tt

  offered : (acts : List Act) → acts ≡ acts_then h p n core c → offered_in acts ≡ map (answer_to (Acked p n ∷ h)) (let_go p (Acked p n) h)
  offered acts are = ap offered_in are ∙ offers_no_more core p (is_stopped (with_ack c n)) (due_acts p (with_ack c n)) ∙ due_answered (waiting_for p h) p (Acked p n ∷ h) (with_ack c n) (acked_known h p n c known)

  -- the past after the answers
  pub ack_happened : (past new : List Event) (acts : List Act) → past ≡ Acked p n ∷ h → acts ≡ acts_then h p n core c → new ≡ answers_in acts left ++ past → new ≡ with_answers p (Acked p n ∷ h)
  ack_happened past new acts is are happened =
      happened ∙ (λ i. answers_of (offered acts are i) left ++ is i) ∙ answers_then cluster p (Acked p n) h ties.lawful (at_ack p n h) left has

  pub ack_counted : (acts : List Act) → acts ≡ acts_then h p n core c → (after : ℕ → ℕ) → ((k : ℕ) → after k ≡ left_after (offered_in acts) left k) → HasLeft None (with_answers p (Acked p n ∷ h)) after
  ack_counted acts are after is = counts_then cluster p (Acked p n) h ties.lawful (at_ack p n h) left has after (λ k. is k ∙ ap (λ es. left_after es left k) (offered acts are))

  pub noted_after : (roots : ℕ → Option TaskId) (bans : List (FinMap task_id_cmp ℕ)) (cores : List Cancellations) (listings : BTreeSet Listing)
      → Cancelling cluster (λ t. waiting_for t h) h tables roots bans cores listings → p.node ≤ cluster.nodes
      → slice_get cores (p.node - 1) ≡ Some core
      → Cancelling cluster (λ t. waiting_for t (with_answers p (Acked p n ∷ h))) (with_answers p (Acked p n ∷ h)) tables roots bans (slice_set cores (p.node - 1) (after_ack h p n core c)) listings
  noted_after roots bans cores listings cancels high on =
      answers_noted cluster p (Acked p n ∷ h) tables roots bans _ listings
      (noted_ack h p n cluster tables roots bans cores listings ties.lawful cancels high core on c known (ack_stopping cluster corpus script h tasks tables flight ties awaits nth p n here))

  pub delivers_ack : Delivers cluster h nth (with_answers p (Acked p n ∷ h))
  delivers_ack = (Ack p n, Acked p n, ack_here cluster corpus script h tasks tables flight ties nth p n here, (refl, refl), refl)

  -- where only a part has come
  module _ (past new : List Event) (acts : List Act) (is : past ≡ Acked p n ∷ h) (are : acts ≡ acts_then h p n core c) (part : IsPartOf past new (answers_in acts left ++ past)) where
    part_of : IsPartOf h new (with_answers p (Acked p n ∷ h))
    part_of = later_part (Acked p n) h new _ (subst (λ x. IsPartOf x new (with_answers p (Acked p n ∷ h))) is (subst (IsPartOf past new) (ack_happened past _ acts is are refl) part))

    pub partly_ack : IsPartly (λ x y. Delivers cluster x nth y) h new
    partly_ack = inr (with_answers p (Acked p n ∷ h), delivers_ack, part_of)

    pub part_laws : OneAtATime (scripted script) h → Lawful cluster new × AnswersPlainly cluster corpus script new × OneAtATime (scripted script) new
    part_laws alone = (part_lawful cluster corpus script h new _ part_of tied_after.lawful, part_plain cluster corpus script h new _ part_of tied_after.plain, part_alone (scripted script) h new _ part_of (answers_alone (scripted script) p (Acked p n ∷ h) alone))
