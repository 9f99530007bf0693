-- What the messages in flight say.
use Rattle.std.proofs.Common.{◌≡◌, ◌≤◌, ◌<◌, ℕ, Bool, true, false, cond, not, ◌&&◌, List, [], ◌∷◌, ◌++◌, map, Option, Some, None, refl, sym, ◌∙◌, arith}
use Rattle.std.specs.Prelude.{is_some, ◌==◌}
use Rattle.std.specs.List.{AllByRecursion, list_any}
use Rattle.task_ids.specs.declared.task_id.TaskId.{TaskId}
use Rattle.task_ids.specs.declared.cluster.Cluster.{Cluster}
use Rattle.task_events.specs.declared.reply.Reply.{Reply}
use Rattle.task_events.specs.declared.reply.Reply.TheVariants.{Cancelled, Rejected}
use Rattle.task_events.specs.declared.request.Request.{Request as AskedFor}
use Rattle.task_events.specs.declared.event.Event.{Event}
use Rattle.task_events.specs.declared.event.Event.TheVariants.{Ask, Put, Reject, Refuse, Mark, BanPut, Listed, Acked, BanGone, Answered, End}
use Rattle.task_events.specs.Same.{same_task}
use Rattle.task_events.specs.Tasks.{no_counts, is_live, has_ended, reply_of, child_of, parent_of, ask_of}
use Rattle.task_events.specs.Asks.{last_ask, node_of_ask, request_of_ask, rejection_of, answer_of, unanswered_nodes}
use Rattle.task_events.specs.Bans.{mark_of, banned_nodes, bans_are_placed, unbans_are_sent, ack_is_due}
use Rattle.task_events.specs.Messages.{Message, is_request, is_answer, is_ban, is_ack, is_unban, without, answer_from, unbans_from, ack_from, ack_over, in_flight, number_in_flight}
use Rattle.task_events.specs.Messages.Message.{Request, Answer, Ban, Ack, Unban}
use Rattle.task_events.specs.Allowed.{Allowed}
use Rattle.task_events.specs.Lawful.{Lawful}
use Rattle.task_events.specs.Laws.{IsTold, is_banned}
use Rattle.task_laws.proofs.Same.{same_tests}
use Rattle.task_laws.proofs.Numbers.{both}
use Rattle.task_laws.proofs.Counts.{requests, is_child_of}
use Rattle.task_laws.proofs.InFlight.{requests_in_flight}
use Rattle.task_laws.proofs.Asks.{AskFacts, ask_facts}
use Rattle.task_laws.proofs.Still.{still_ended, still_placed}
use Rattle.task_laws.proofs.Stops.{StopFacts, stop_facts}
use Rattle.task_laws.proofs.Bans.{BanFacts, ban_facts, still_due}

pub record AnswerFacts (h : List Event) : Type 0 where
  pub node_asked : (p : TaskId) (k n : ℕ) → node_of_ask p k h ≡ Some n → k ≤ last_ask p h
  pub rejected_asked : (p : TaskId) (k n : ℕ) → rejection_of p k h ≡ Some n → k ≤ last_ask p h
  pub rejected_put : (p : TaskId) (k n : ℕ) → rejection_of p k h ≡ Some n → (requests p k h ≡ 0) × (child_of p k h ≡ None)
  pub reply_ended : (t : TaskId) (r : Reply) → reply_of t h ≡ Some r → has_ended t h ≡ true

-- what is said of each message stays when one is delivered, and when more are sent
each_either : (P : Message → Type 0) (b : Bool) (xs ys : List Message) → AllByRecursion P xs → AllByRecursion P ys → AllByRecursion P (cond b xs ys)
each_either P true xs ys a b = a
each_either P false xs ys a b = b

each_without : (P : Message → Type 0) (kind : Message → Bool) (ms : List Message) → AllByRecursion P ms → AllByRecursion P (without kind ms)
each_without P kind [] a = a
each_without P kind (m ∷ ms) a = each_either P (kind m) ms (m ∷ without kind ms) a.1 (a.0, each_without P kind ms a.1)

each_append : (P : Message → Type 0) (xs ys : List Message) → AllByRecursion P xs → AllByRecursion P ys → AllByRecursion P (xs ++ ys)
each_append P [] ys a b = b
each_append P (x ∷ xs) ys a b = (a.0, each_append P xs ys a.1 b)

each_grow : {X : Type 0} (P Q : X → Type 0) → ((x : X) → P x → Q x) → (xs : List X) → AllByRecursion P xs → AllByRecursion Q xs
each_grow P Q g [] a = a
each_grow P Q g (x ∷ xs) a = (g x a.0, each_grow P Q g xs a.1)

each_map : (P : Message → Type 0) (f : ℕ → Message) (ns : List ℕ) → AllByRecursion (λ n. P (f n)) ns → AllByRecursion P (map f ns)
each_map P f [] a = a
each_map P f (n ∷ ns) a = (a.0, each_map P f ns a.1)

members : (ns : List ℕ) → AllByRecursion (λ n. list_any (λ m. n == m) ns ≡ true) ns
members [] = tt
members (n ∷ ns) = (
  grind (arith, same_tests),
  each_grow (λ x. list_any (λ m. x == m) ns ≡ true) (λ x. list_any (λ m. x == m) (n ∷ ns) ≡ true) (λ x e. grind arith) ns (members ns),
)

module _ (cluster : Cluster) where
  keep_node_asked : (e : Event) (h : List Event) → Allowed cluster e h → AnswerFacts h → (p : TaskId) (k n : ℕ) → node_of_ask p k (e ∷ h) ≡ Some n → k ≤ last_ask p (e ∷ h)
  keep_node_asked (Ask q j m w) h a g p k n e = grind (arith, same_tests, g.node_asked p k n)
  keep_node_asked _ h a g p k n e = g.node_asked p k n e

  -- the ask whose request is in flight was asked
  requested_asked : (q : TaskId) (j : ℕ) (h : List Event) → AskFacts h → 0 < number_in_flight (is_request q j) h → j ≤ last_ask q h
  requested_asked q j h f i = grind (arith, same_tests, f.not_asked q j, f.place q j, requests_in_flight q j h)

  keep_rejected_asked : (e : Event) (h : List Event) → Allowed cluster e h → AskFacts h → AnswerFacts h → (p : TaskId) (k n : ℕ) → rejection_of p k (e ∷ h) ≡ Some n → k ≤ last_ask p (e ∷ h)
  keep_rejected_asked (Ask q j m w) h a f g p k n e = grind (arith, same_tests, g.rejected_asked p k n)
  keep_rejected_asked (Reject m q j) h a f g p k n e = grind (arith, same_tests, g.rejected_asked p k n, requested_asked q j h f a.requested)
  keep_rejected_asked _ h a f g p k n e = g.rejected_asked p k n e

  keep_rejected_put : (e : Event) (h : List Event) → Allowed cluster e h → AskFacts h → AnswerFacts h → (p : TaskId) (k n : ℕ) → rejection_of p k (e ∷ h) ≡ Some n → (requests p k (e ∷ h) ≡ 0) × (child_of p k (e ∷ h) ≡ None)
  keep_rejected_put (Ask q j m w) h a f g p k n e = grind (arith, same_tests, g.rejected_put p k n, g.rejected_asked p k n)
  keep_rejected_put (Put t q j) h a f g p k n e = grind (arith, same_tests, g.rejected_put p k n, requests_in_flight q j h)
  keep_rejected_put (Reject m q j) h a f g p k n e = grind (arith, same_tests, g.rejected_put p k n, requests_in_flight q j h, f.child_put p k, f.place p k)
  keep_rejected_put _ h a f g p k n e = g.rejected_put p k n e

  keep_reply_ended : (e : Event) (h : List Event) → Allowed cluster e h → AnswerFacts h → (t : TaskId) (r : Reply) → reply_of t (e ∷ h) ≡ Some r → has_ended t (e ∷ h) ≡ true
  keep_reply_ended (Refuse u c) h a g t r e = grind (arith, same_tests, g.reply_ended t r)
  keep_reply_ended (End u s) h a g t r e = grind (arith, same_tests, g.reply_ended t r)
  keep_reply_ended _ h a g t r e = g.reply_ended t r e

  pub answer_facts : (h : List Event) → Lawful cluster h → AnswerFacts h
  answer_facts [] l = record {
    node_asked = λ p k n e. absurd (cc);
    rejected_asked = λ p k n e. absurd (cc);
    rejected_put = λ p k n e. absurd (cc);
    reply_ended = λ t r e. cc;
  }
  answer_facts (e ∷ h) l =
      let f = ask_facts cluster h l.1 in
      let g = answer_facts h l.1 in
      record {
        node_asked = keep_node_asked e h l.0 g;
        rejected_asked = keep_rejected_asked e h l.0 f g;
        rejected_put = keep_rejected_put e h l.0 f g;
        reply_ended = keep_reply_ended e h l.0 g;
      }

  -- What a message says stays so. An answer stays the answer, since its ask has been answered by then.
  pub still_answer : (e : Event) (h : List Event) → Allowed cluster e h → AskFacts h → AnswerFacts h → (p : TaskId) (k : ℕ) (r : Reply) → answer_of p k h ≡ Some r → answer_of p k (e ∷ h) ≡ Some r
  still_answer (Put t q j) h a f g p k r e = grind (arith, same_tests, requests_in_flight q j h, f.child_put p k, g.rejected_put p k)
  still_answer (Reject n q j) h a f g p k r e = grind (arith, same_tests, requests_in_flight q j h, f.child_put p k, g.rejected_put p k)
  still_answer (Refuse u c) h a f g p k r e = grind (arith, same_tests, g.reply_ended u, f.live_or_ended u)
  still_answer (End u s) h a f g p k r e = grind (arith, same_tests, g.reply_ended u, f.live_or_ended u)
  still_answer _ h a f g p k r e = e

  still_request : (e : Event) (h : List Event) → Allowed cluster e h → AnswerFacts h → (p : TaskId) (k n : ℕ) (r : AskedFor) → (node_of_ask p k h ≡ Some n) × (request_of_ask p k h ≡ Some r) → (node_of_ask p k (e ∷ h) ≡ Some n) × (request_of_ask p k (e ∷ h) ≡ Some r)
  still_request (Ask q j m w) h a g p k n r e =
      let i = g.node_asked p k n e.0 in
      let f = e.0 in
      let d = e.1 in
      (grind (arith, same_tests), grind (arith, same_tests))
  still_request _ h a g p k n r e = e

  still_marked : (e : Event) (h : List Event) → Allowed cluster e h → (p : TaskId) (c : ℕ) → mark_of p h ≡ Some c → mark_of p (e ∷ h) ≡ Some c
  still_marked (Mark q d) h a p c e = grind (arith, same_tests)
  still_marked _ h a p c e = e

  still_banned : (e : Event) (h : List Event) → Allowed cluster e h → (p : TaskId) (c n : ℕ) → mark_of p h ≡ Some c → is_banned n p h ≡ true → is_banned n p (e ∷ h) ≡ true
  still_banned (Mark q d) h a p c n m e = grind (arith, same_tests)
  still_banned _ h a p c n m e = e

  still_sent : (e : Event) (h : List Event) → Allowed cluster e h → (p : TaskId) → unbans_are_sent p h ≡ true → unbans_are_sent p (e ∷ h) ≡ true
  still_sent e h a p s =
      let parts = both (has_ended p h) (bans_are_placed p h) s in
      rw (still_ended e h p parts.0) (still_placed cluster e h a p parts.1)

  sent_marked : (p : TaskId) (h : List Event) → unbans_are_sent p h ≡ true → is_some (mark_of p h) ≡ true
  sent_marked p h e = let parts = both (has_ended p h) (bans_are_placed p h) e in let placed = both (is_some (mark_of p h)) _ parts.1 in placed.0

  still_banned_sent : (e : Event) (h : List Event) → Allowed cluster e h → (p : TaskId) (n : ℕ) (o : Option ℕ) → mark_of p h ≡ o → is_some o ≡ true → is_banned n p h ≡ true → is_banned n p (e ∷ h) ≡ true
  still_banned_sent e h a p n None m s b = absurd (cc)
  still_banned_sent e h a p n (Some c) m s b = still_banned e h a p c n m b

  still_told : (e : Event) (h : List Event) → Allowed cluster e h → AskFacts h → StopFacts h → BanFacts h → AnswerFacts h → (m : Message) → IsTold m h → IsTold m (e ∷ h)
  still_told e h a f s b g (Request p k n r) t = still_request e h a g p k n r t
  still_told e h a f s b g (Answer p k r) t = still_answer e h a f g p k r t
  still_told e h a f s b g (Ban p c n) t = (still_marked e h a p c t.0, still_banned e h a p c n t.0 t.1)
  still_told e h a f s b g (Ack p n) t = still_due cluster e h a s b n p t
  still_told e h a f s b g (Unban p n) t = (still_sent e h a p t.0, still_banned_sent e h a p n (mark_of p h) refl (sent_marked p h t.0) t.1)

  -- the answer of an ending child
  new_answer : (t : TaskId) (r : Reply) (h g : List Event) → AskFacts h → AnswerFacts h → is_live t h ≡ true → reply_of t g ≡ Some r → ((p : TaskId) (k : ℕ) → rejection_of p k g ≡ rejection_of p k h) → ((p : TaskId) (k : ℕ) → child_of p k g ≡ child_of p k h)
      → (o : Option TaskId) → parent_of t h ≡ o → AllByRecursion (λ m. IsTold m g) (answer_from o (ask_of t h) r)
  new_answer t r h g f x l y s d None o = tt
  new_answer t r h g f x l y s d (Some p) o =
      let mine : is_child_of p (ask_of t h) t h ≡ true = rw o (grind (arith, same_tests)) in
      let child = f.ask_knows p (ask_of t h) t mine in
      let same = s p (ask_of t h) in
      let same' = d p (ask_of t h) in
      (no_rejection p (ask_of t h) t r g (same' ∙ child) y (rejection_of p (ask_of t h) g) refl (λ n i. let z = x.rejected_put p (ask_of t h) n (sym same ∙ i) in absurd (let w = z.1 in cc)), tt)
    where
      no_rejection : (p : TaskId) (k : ℕ) (t : TaskId) (r : Reply) (g : List Event) → child_of p k g ≡ Some t → reply_of t g ≡ Some r → (o : Option ℕ) → rejection_of p k g ≡ o → ((n : ℕ) → rejection_of p k g ≡ Some n → answer_of p k g ≡ Some r) → answer_of p k g ≡ Some r
      no_rejection p k t r g c y None i other = rw (i, c, y)
      no_rejection p k t r g c y (Some n) i other = other n i

  -- the unbans of a task
  new_unbans : (t : TaskId) (h : List Event) (b : Bool) → unbans_are_sent t h ≡ b → AllByRecursion (λ m. IsTold m h) (cond b (map (Unban t) (banned_nodes t h)) [])
  new_unbans t h false e = tt
  new_unbans t h true e =
      each_map (λ m. IsTold m h) (Unban t) (banned_nodes t h)
      (each_grow (λ n. list_any (λ m. n == m) (banned_nodes t h) ≡ true) (λ n. IsTold (Unban t n) h) (λ n i. (e, i)) (banned_nodes t h) (members (banned_nodes t h)))

  -- the acknowledgement that is sent is due
  new_ack : (p : TaskId) (n : ℕ) (h g : List Event) (b : Bool) → (ack_is_due n p g && not (ack_is_due n p h)) ≡ b → AllByRecursion (λ m. IsTold m g) (cond b (Ack p n ∷ []) [])
  new_ack p n h g false e = tt
  new_ack p n h g true e = ((both (ack_is_due n p g) _ e).0, tt)

  new_over : (o : Option TaskId) (n : ℕ) (h g : List Event) → AllByRecursion (λ m. IsTold m g) (ack_over o n h g)
  new_over None n h g = tt
  new_over (Some p) n h g = new_ack p n h g (ack_is_due n p g && not (ack_is_due n p h)) refl

  -- the bans of a mark
  new_bans : (t : TaskId) (c : ℕ) (h : List Event) → AllByRecursion (λ m. IsTold m (Mark t c ∷ h)) (map (Ban t c) (unanswered_nodes t h))
  new_bans t c h =
      each_map (λ m. IsTold m (Mark t c ∷ h)) (Ban t c) (unanswered_nodes t h)
      (each_grow (λ n. list_any (λ m. n == m) (unanswered_nodes t h) ≡ true) (λ n. IsTold (Ban t c n) (Mark t c ∷ h)) (λ n i. (mark_now, banned_now n i)) (unanswered_nodes t h) (members (unanswered_nodes t h)))
    where
      mark_now : mark_of t (Mark t c ∷ h) ≡ Some c
      mark_now = grind (arith, same_tests)

      same : same_task t t ≡ true
      same = grind (arith, same_tests)

      banned_now : (n : ℕ) → list_any (λ m. n == m) (unanswered_nodes t h) ≡ true → is_banned n t (Mark t c ∷ h) ≡ true
      banned_now n i = rw same i

  old_told : (e : Event) (h : List Event) → Allowed cluster e h → AskFacts h → StopFacts h → BanFacts h → AnswerFacts h → AllByRecursion (λ m. IsTold m h) (in_flight h) → AllByRecursion (λ m. IsTold m (e ∷ h)) (in_flight h)
  old_told e h a f s b g all = each_grow (λ m. IsTold m h) (λ m. IsTold m (e ∷ h)) (still_told e h a f s b g) (in_flight h) all

  -- what an ending task sends: its answer, its unbans and the acknowledgement of the ban over it
  ending : (t : TaskId) (h g : List Event) (r : Reply) → AllByRecursion (λ m. IsTold m g) (in_flight h) → AllByRecursion (λ m. IsTold m g) (answer_from (parent_of t h) (ask_of t h) r) →
      AllByRecursion (λ m. IsTold m g) (in_flight h ++ answer_from (parent_of t h) (ask_of t h) r ++ unbans_from t g ++ ack_over (parent_of t h) t.node h g)
  ending t h g r all answer =
      let T = λ (m : Message). IsTold m g in
      each_append T (in_flight h ++ answer_from (parent_of t h) (ask_of t h) r ++ unbans_from t g) (ack_over (parent_of t h) t.node h g)
      (each_append T (in_flight h ++ answer_from (parent_of t h) (ask_of t h) r) (unbans_from t g)
      (each_append T (in_flight h) (answer_from (parent_of t h) (ask_of t h) r) all answer)
      (new_unbans t g (unbans_are_sent t g) refl))
      (new_over (parent_of t h) t.node h g)

  keep_told : (e : Event) (h : List Event) → Allowed cluster e h → AskFacts h → AnswerFacts h → AllByRecursion (λ m. IsTold m (e ∷ h)) (in_flight h) → AllByRecursion (λ m. IsTold m (e ∷ h)) (in_flight (e ∷ h))
  keep_told (Ask p k n w) h a f g all = each_append (λ m. IsTold m (Ask p k n w ∷ h)) (in_flight h) (Request p k n w ∷ []) all ((grind (arith, same_tests), grind (arith, same_tests)), tt)
  keep_told (Put t p k) h a f g all = each_without (λ m. IsTold m (Put t p k ∷ h)) (is_request p k) (in_flight h) all
  keep_told (Reject n p k) h a f g all =
      each_append (λ m. IsTold m (Reject n p k ∷ h)) (without (is_request p k) (in_flight h)) (Answer p k (Rejected n) ∷ [])
      (each_without (λ m. IsTold m (Reject n p k ∷ h)) (is_request p k) (in_flight h) all) (grind (arith, same_tests), tt)
  keep_told (Answered p k) h a f g all = each_without (λ m. IsTold m (Answered p k ∷ h)) (is_answer p k) (in_flight h) all
  keep_told (BanPut n p c) h a f g all = each_without (λ m. IsTold m (BanPut n p c ∷ h)) (is_ban n p) (in_flight h) all
  keep_told (BanGone n p) h a f g all = each_without (λ m. IsTold m (BanGone n p ∷ h)) (is_unban n p) (in_flight h) all
  keep_told (Listed n p) h a f g all = each_append (λ m. IsTold m (Listed n p ∷ h)) (in_flight h) (ack_from n p h (Listed n p ∷ h)) all (new_over (Some p) n h (Listed n p ∷ h))
  keep_told (Mark t c) h a f g all = each_append (λ m. IsTold m (Mark t c ∷ h)) (in_flight h) (map (Ban t c) (unanswered_nodes t h)) all (new_bans t c h)
  keep_told (Acked p n) h a f g all =
      let T = λ (m : Message). IsTold m (Acked p n ∷ h) in
      each_append T (without (is_ack n p) (in_flight h) ++ unbans_from p (Acked p n ∷ h)) (ack_over (parent_of p h) p.node h (Acked p n ∷ h))
      (each_append T (without (is_ack n p) (in_flight h)) (unbans_from p (Acked p n ∷ h))
      (each_without T (is_ack n p) (in_flight h) all)
      (new_unbans p (Acked p n ∷ h) (unbans_are_sent p (Acked p n ∷ h)) refl))
      (new_over (parent_of p h) p.node h (Acked p n ∷ h))
  keep_told (Refuse t c) h a f g all =
      ending t h (Refuse t c ∷ h) (Cancelled t c no_counts) all
      (new_answer t (Cancelled t c no_counts) h (Refuse t c ∷ h) f g a.live (grind (arith, same_tests)) (λ p k. refl) (λ p k. refl) (parent_of t h) refl)
  keep_told (End t r) h a f g all =
      ending t h (End t r ∷ h) r all
      (new_answer t r h (End t r ∷ h) f g a.goes_on.live (grind (arith, same_tests)) (λ p k. refl) (λ p k. refl) (parent_of t h) refl)
  keep_told _ h a f g all = all

  pub told : (h : List Event) → Lawful cluster h → AllByRecursion (λ m. IsTold m h) (in_flight h)
  told [] l = tt
  told (e ∷ h) l =
      let f = ask_facts cluster h l.1 in
      let g = answer_facts h l.1 in
      let s = stop_facts cluster h l.1 in
      let b = ban_facts cluster h l.1 in
      keep_told e h l.0 f g (old_told e h l.0 f s b g (told h l.1))
