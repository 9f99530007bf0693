-- The counts are those of the list of messages.
use Rattle.std.proofs.Common.{◌≡◌, ◌+◌, ◌-◌, ℕ, Bool, true, false, cond, not, ◌&&◌, List, [], ◌∷◌, ◌++◌, map, Option, Some, None, refl, ◌∙◌, arith}
use Rattle.std.specs.Prelude.{◌==◌}
use Rattle.task_ids.specs.declared.task_id.TaskId.{TaskId}
use Rattle.task_events.specs.declared.reply.Reply.{Reply}
use Rattle.task_events.specs.declared.reply.Reply.TheVariants.{Cancelled, Rejected}
use Rattle.task_events.specs.declared.request.Request.{Request as AskedFor}
use Rattle.task_events.specs.declared.event.Event.{Event}
use Rattle.task_events.specs.declared.event.Event.TheVariants.{Ask, Put, Reject, Refuse, Mark, BanPut, Listed, Acked, BanGone, Answered, End}
use Rattle.task_events.specs.Same.{same_task, same_pair}
use Rattle.task_events.specs.Tasks.{no_counts, parent_of, ask_of}
use Rattle.task_events.specs.Asks.{unanswered_nodes}
use Rattle.task_events.specs.Bans.{banned_nodes, unbans_are_sent, ack_is_due}
use Rattle.task_events.specs.Messages.{Message, is_request, is_answer, is_ban, is_ack, is_unban, without, answer_from, ack_from, ack_over, in_flight, number_in_flight}
use Rattle.task_events.specs.Messages.Message.{Request, Answer, Ban, Ack, Unban}
use Rattle.task_laws.proofs.Same.{same_tests}
use Rattle.task_laws.proofs.Counts.{is_for, due_over, requests, answers, bans, acks, unbans}
use Rattle.task_laws.proofs.Numbers.{number, number_is, number-append, number-without, number-none, number-nodes}

-- A kind of message is one of the five, of one ask or of one task and node.
pub data Kind : Type 0 where
  of_request : (p : TaskId) (k : ℕ) → Kind
  of_answer : (p : TaskId) (k : ℕ) → Kind
  of_ban : (n : ℕ) (p : TaskId) → Kind
  of_ack : (n : ℕ) (p : TaskId) → Kind
  of_unban : (n : ℕ) (p : TaskId) → Kind

abbrev pub test_of : Kind → Message → Bool
test_of (of_request p k) = is_request p k
test_of (of_answer p k) = is_answer p k
test_of (of_ban n p) = is_ban n p
test_of (of_ack n p) = is_ack n p
test_of (of_unban n p) = is_unban n p

-- two kinds are one
abbrev pub same_kind : Kind → Kind → Bool
same_kind (of_request p k) (of_request q j) = same_pair p k q j
same_kind (of_answer p k) (of_answer q j) = same_pair p k q j
same_kind (of_ban n p) (of_ban m q) = same_pair p n q m
same_kind (of_ack n p) (of_ack m q) = same_pair p n q m
same_kind (of_unban n p) (of_unban m q) = same_pair p n q m
same_kind _ _ = false

tells_each : (a b : Kind) (m : Message) → test_of b m ≡ true → test_of a m ≡ same_kind a b
tells_each (of_request p k) (of_request q j) (Request r i n w) e = grind (arith, same_tests)
tells_each (of_answer p k) (of_answer q j) (Answer r i n) e = grind (arith, same_tests)
tells_each (of_ban n p) (of_ban m q) (Ban r c i) e = grind (arith, same_tests)
tells_each (of_ack n p) (of_ack m q) (Ack r i) e = grind (arith, same_tests)
tells_each (of_unban n p) (of_unban m q) (Unban r i) e = grind (arith, same_tests)
tells_each _ _ _ e = grind arith

tells_all : (a b : Kind) → same_kind a b ≡ true → (m : Message) → test_of a m ≡ true → test_of b m ≡ true
tells_all (of_request p k) (of_request q j) s (Request r i n w) e = grind (arith, same_tests)
tells_all (of_answer p k) (of_answer q j) s (Answer r i n) e = grind (arith, same_tests)
tells_all (of_ban n p) (of_ban m q) s (Ban r c i) e = grind (arith, same_tests)
tells_all (of_ack n p) (of_ack m q) s (Ack r i) e = grind (arith, same_tests)
tells_all (of_unban n p) (of_unban m q) s (Unban r i) e = grind (arith, same_tests)
tells_all _ _ s _ e = grind arith

-- how many messages of a kind are left without one that is delivered
left : (a b : Kind) (ms : List Message) → number (test_of a) (without (test_of b) ms) ≡ number (test_of a) ms - cond (same_kind a b) 1 0
left a b ms = number-without (test_of a) (test_of b) (same_kind a b) (tells_each a b) (tells_all a b) ms

-- the number of messages of a kind, event by event
abbrev count_of : Kind → List Event → ℕ
count_of (of_request p k) h = requests p k h
count_of (of_answer p k) h = answers p k h
count_of (of_ban n p) h = bans n p h
count_of (of_ack n p) h = acks n p h
count_of (of_unban n p) h = unbans n p h

pair_is : (p : TaskId) (n : ℕ) (q : TaskId) (m : ℕ) → same_pair p n q m ≡ (same_task p q && (n == m))
pair_is p n q m = grind (arith, same_tests)

-- the answer of an ending child, by kind
answer_count : Kind → Option TaskId → ℕ → ℕ
answer_count (of_answer p k) o j = cond (is_for p k o j) 1 0
answer_count _ o j = 0

answered_by : (a : Kind) (o : Option TaskId) (j : ℕ) (r : Reply) → number (test_of a) (answer_from o j r) ≡ answer_count a o j
unfolding answer_count
answered_by (of_answer p k) None j r = refl
answered_by (of_answer p k) (Some q) j r = omega arith
answered_by _ None j r = refl
answered_by _ (Some q) j r = refl

-- the bans of a mark, by kind
ban_count : Kind → TaskId → List ℕ → ℕ
ban_count (of_ban n p) t ns = cond (same_task p t) (number (λ m. n == m) ns) 0
ban_count _ t ns = 0

banned_by : (a : Kind) (t : TaskId) (c : ℕ) (ns : List ℕ) → number (test_of a) (map (Ban t c) ns) ≡ ban_count a t ns
unfolding ban_count
banned_by (of_ban n p) t c ns = number-nodes (is_ban n p) (Ban t c) (same_task p t) n (pair_is p n t) ns
banned_by a t c ns = number-none (test_of a) (Ban t c) (λ n. refl) ns

-- the unbans of a task, by kind
unban_count : Kind → TaskId → Bool → List ℕ → ℕ
unban_count (of_unban n p) t b ns = cond (same_task p t) (cond b (number (λ m. n == m) ns) 0) 0
unban_count _ t b ns = 0

unbanned_by : (a : Kind) (t : TaskId) (b : Bool) (ns : List ℕ) → number (test_of a) (cond b (map (Unban t) ns) []) ≡ unban_count a t b ns
unfolding unban_count
unbanned_by (of_unban n p) t true ns = number-nodes (is_unban n p) (Unban t) (same_task p t) n (pair_is p n t) ns
unbanned_by (of_unban n p) t false ns = grind arith
unbanned_by a t true ns = number-none (test_of a) (Unban t) (λ n. refl) ns
unbanned_by a t false ns = refl

-- an acknowledgement that is due, by kind
due_count : Kind → ℕ → TaskId → Bool → ℕ
due_count (of_ack n p) m q b = cond (same_pair p n q m) (cond b 1 0) 0
due_count _ m q b = 0

due_by : (a : Kind) (m : ℕ) (q : TaskId) (b : Bool) → number (test_of a) (cond b (Ack q m ∷ []) []) ≡ due_count a m q b
unfolding due_count
due_by (of_ack n p) m q b = grind arith
due_by a m q true = refl
due_by a m q false = refl

-- that of the ban over a task
over_count : Kind → Option TaskId → ℕ → List Event → List Event → ℕ
over_count (of_ack n p) o m h g = due_over n p o m h g
over_count _ o m h g = 0

over_by : (a : Kind) (o : Option TaskId) (m : ℕ) (h g : List Event) → number (test_of a) (ack_over o m h g) ≡ over_count a o m h g
unfolding over_count due_count
over_by (of_ack n p) None m h g = refl
over_by (of_ack n p) (Some q) m h g = due_by (of_ack n p) m q (ack_is_due m q g && not (ack_is_due m q h))
over_by a None m h g = refl
over_by a (Some q) m h g = due_by a m q (ack_is_due m q g && not (ack_is_due m q h))

-- each event changes the list as it changes the count
at_ask : (a : Kind) (q : TaskId) (j n : ℕ) (w : AskedFor) (h : List Event) → number (test_of a) (in_flight h) ≡ count_of a h → number (test_of a) (in_flight (Ask q j n w ∷ h)) ≡ count_of a (Ask q j n w ∷ h)
at_ask (of_request p k) q j n w h e = let x = number-append (is_request p k) (in_flight h) (Request q j n w ∷ []) in omega arith
at_ask a q j n w h e = let x = number-append (test_of a) (in_flight h) (Request q j n w ∷ []) in omega arith

at_put : (a : Kind) (t q : TaskId) (j : ℕ) (h : List Event) → number (test_of a) (in_flight h) ≡ count_of a h → number (test_of a) (in_flight (Put t q j ∷ h)) ≡ count_of a (Put t q j ∷ h)
at_put (of_request p k) t q j h e = let x = left (of_request p k) (of_request q j) (in_flight h) in omega arith
at_put a t q j h e = let x = left a (of_request q j) (in_flight h) in omega arith

at_reject : (a : Kind) (n : ℕ) (q : TaskId) (j : ℕ) (h : List Event) → number (test_of a) (in_flight h) ≡ count_of a h → number (test_of a) (in_flight (Reject n q j ∷ h)) ≡ count_of a (Reject n q j ∷ h)
at_reject (of_request p k) n q j h e = let x = left (of_request p k) (of_request q j) (in_flight h) in let y = number-append (is_request p k) (without (is_request q j) (in_flight h)) (Answer q j (Rejected n) ∷ []) in omega arith
at_reject a n q j h e = let x = left a (of_request q j) (in_flight h) in let y = number-append (test_of a) (without (is_request q j) (in_flight h)) (Answer q j (Rejected n) ∷ []) in omega arith

at_answered : (a : Kind) (q : TaskId) (j : ℕ) (h : List Event) → number (test_of a) (in_flight h) ≡ count_of a h → number (test_of a) (in_flight (Answered q j ∷ h)) ≡ count_of a (Answered q j ∷ h)
at_answered (of_request p k) q j h e = let x = left (of_request p k) (of_answer q j) (in_flight h) in omega arith
at_answered a q j h e = let x = left a (of_answer q j) (in_flight h) in omega arith

at_mark : (a : Kind) (t : TaskId) (c : ℕ) (h : List Event) → number (test_of a) (in_flight h) ≡ count_of a h → number (test_of a) (in_flight (Mark t c ∷ h)) ≡ count_of a (Mark t c ∷ h)
unfolding ban_count
at_mark (of_ban n p) t c h e = let x = banned_by (of_ban n p) t c (unanswered_nodes t h) in let y = number-append (is_ban n p) (in_flight h) (map (Ban t c) (unanswered_nodes t h)) in omega arith
at_mark a t c h e = let x = banned_by a t c (unanswered_nodes t h) in let y = number-append (test_of a) (in_flight h) (map (Ban t c) (unanswered_nodes t h)) in omega arith

at_ban_put : (a : Kind) (m : ℕ) (q : TaskId) (c : ℕ) (h : List Event) → number (test_of a) (in_flight h) ≡ count_of a h → number (test_of a) (in_flight (BanPut m q c ∷ h)) ≡ count_of a (BanPut m q c ∷ h)
at_ban_put (of_request p k) m q c h e = let x = left (of_request p k) (of_ban m q) (in_flight h) in omega arith
at_ban_put a m q c h e = let x = left a (of_ban m q) (in_flight h) in omega arith

at_listed : (a : Kind) (m : ℕ) (q : TaskId) (h : List Event) → number (test_of a) (in_flight h) ≡ count_of a h → number (test_of a) (in_flight (Listed m q ∷ h)) ≡ count_of a (Listed m q ∷ h)
unfolding over_count
at_listed (of_request p k) m q h e = let x = number-append (is_request p k) (in_flight h) (ack_from m q h (Listed m q ∷ h)) in let y = over_by (of_request p k) (Some q) m h (Listed m q ∷ h) in omega arith
at_listed a m q h e = let x = number-append (test_of a) (in_flight h) (ack_from m q h (Listed m q ∷ h)) in let y = over_by a (Some q) m h (Listed m q ∷ h) in omega arith

at_ban_gone : (a : Kind) (m : ℕ) (q : TaskId) (h : List Event) → number (test_of a) (in_flight h) ≡ count_of a h → number (test_of a) (in_flight (BanGone m q ∷ h)) ≡ count_of a (BanGone m q ∷ h)
at_ban_gone (of_request p k) m q h e = let x = left (of_request p k) (of_unban m q) (in_flight h) in omega arith
at_ban_gone a m q h e = let x = left a (of_unban m q) (in_flight h) in omega arith

three : (a : Kind) (ms xs ys : List Message) (n m u : ℕ) → number (test_of a) ms ≡ n → number (test_of a) xs ≡ m → number (test_of a) ys ≡ u → number (test_of a) ((ms ++ xs) ++ ys) ≡ (n + m) + u
three a ms xs ys n m u e f g = let x = number-append (test_of a) (ms ++ xs) ys in let y = number-append (test_of a) ms xs in omega arith

at_acked : (a : Kind) (q : TaskId) (m : ℕ) (h : List Event) → number (test_of a) (in_flight h) ≡ count_of a h → number (test_of a) (in_flight (Acked q m ∷ h)) ≡ count_of a (Acked q m ∷ h)
unfolding unban_count over_count
at_acked (of_request p k) q m h e =
    let x = left (of_request p k) (of_ack m q) (in_flight h) in
    let y = three (of_request p k) _ _ _ _ _ _ x (unbanned_by (of_request p k) q (unbans_are_sent q (Acked q m ∷ h)) (banned_nodes q (Acked q m ∷ h))) (over_by (of_request p k) (parent_of q h) q.node h (Acked q m ∷ h)) in
    omega arith
at_acked a q m h e =
    let x = left a (of_ack m q) (in_flight h) in
    let y = three a _ _ _ _ _ _ x (unbanned_by a q (unbans_are_sent q (Acked q m ∷ h)) (banned_nodes q (Acked q m ∷ h))) (over_by a (parent_of q h) q.node h (Acked q m ∷ h)) in
    omega arith

ending : (a : Kind) (ms xs ys zs : List Message) (n m u v : ℕ) → number (test_of a) ms ≡ n → number (test_of a) xs ≡ m → number (test_of a) ys ≡ u → number (test_of a) zs ≡ v → number (test_of a) (((ms ++ xs) ++ ys) ++ zs) ≡ ((n + m) + u) + v
ending a ms xs ys zs n m u v e f g i = let x = number-append (test_of a) ((ms ++ xs) ++ ys) zs in let y = three a ms xs ys n m u e f g in omega arith

at_refuse : (a : Kind) (t : TaskId) (c : ℕ) (h : List Event) → number (test_of a) (in_flight h) ≡ count_of a h → number (test_of a) (in_flight (Refuse t c ∷ h)) ≡ count_of a (Refuse t c ∷ h)
unfolding unban_count answer_count over_count
at_refuse (of_request p k) t c h e = let x = ending (of_request p k) _ _ _ _ _ _ _ _ e (answered_by (of_request p k) (parent_of t h) (ask_of t h) (Cancelled t c no_counts)) (unbanned_by (of_request p k) t (unbans_are_sent t (Refuse t c ∷ h)) (banned_nodes t (Refuse t c ∷ h))) (over_by (of_request p k) (parent_of t h) t.node h (Refuse t c ∷ h)) in omega arith
at_refuse a t c h e = let x = ending a _ _ _ _ _ _ _ _ e (answered_by a (parent_of t h) (ask_of t h) (Cancelled t c no_counts)) (unbanned_by a t (unbans_are_sent t (Refuse t c ∷ h)) (banned_nodes t (Refuse t c ∷ h))) (over_by a (parent_of t h) t.node h (Refuse t c ∷ h)) in omega arith

at_end : (a : Kind) (t : TaskId) (r : Reply) (h : List Event) → number (test_of a) (in_flight h) ≡ count_of a h → number (test_of a) (in_flight (End t r ∷ h)) ≡ count_of a (End t r ∷ h)
unfolding unban_count answer_count over_count
at_end (of_request p k) t r h e = let x = ending (of_request p k) _ _ _ _ _ _ _ _ e (answered_by (of_request p k) (parent_of t h) (ask_of t h) r) (unbanned_by (of_request p k) t (unbans_are_sent t (End t r ∷ h)) (banned_nodes t (End t r ∷ h))) (over_by (of_request p k) (parent_of t h) t.node h (End t r ∷ h)) in omega arith
at_end a t r h e = let x = ending a _ _ _ _ _ _ _ _ e (answered_by a (parent_of t h) (ask_of t h) r) (unbanned_by a t (unbans_are_sent t (End t r ∷ h)) (banned_nodes t (End t r ∷ h))) (over_by a (parent_of t h) t.node h (End t r ∷ h)) in omega arith

at_start : (a : Kind) → number (test_of a) (in_flight []) ≡ count_of a []
at_start (of_request p k) = refl
at_start a = refl

of_list : (a : Kind) (h : List Event) → number (test_of a) (in_flight h) ≡ count_of a h
of_list a [] = at_start a
of_list a (Ask q j n w ∷ h) = at_ask a q j n w h (of_list a h)
of_list a (Put t q j ∷ h) = at_put a t q j h (of_list a h)
of_list a (Reject n q j ∷ h) = at_reject a n q j h (of_list a h)
of_list a (Answered q j ∷ h) = at_answered a q j h (of_list a h)
of_list a (Mark t c ∷ h) = at_mark a t c h (of_list a h)
of_list a (BanPut m q c ∷ h) = at_ban_put a m q c h (of_list a h)
of_list a (Listed m q ∷ h) = at_listed a m q h (of_list a h)
of_list a (Acked q m ∷ h) = at_acked a q m h (of_list a h)
of_list a (BanGone m q ∷ h) = at_ban_gone a m q h (of_list a h)
of_list a (Refuse t c ∷ h) = at_refuse a t c h (of_list a h)
of_list a (End t r ∷ h) = at_end a t r h (of_list a h)
of_list (of_request p k) (_ ∷ h) = of_list (of_request p k) h
of_list (of_answer p k) (_ ∷ h) = of_list (of_answer p k) h
of_list (of_ban n p) (_ ∷ h) = of_list (of_ban n p) h
of_list (of_ack n p) (_ ∷ h) = of_list (of_ack n p) h
of_list (of_unban n p) (_ ∷ h) = of_list (of_unban n p) h

pub requests_in_flight : (p : TaskId) (k : ℕ) (h : List Event) → number_in_flight (is_request p k) h ≡ requests p k h
requests_in_flight p k h = number_is (is_request p k) (in_flight h) ∙ of_list (of_request p k) h

pub answers_in_flight : (p : TaskId) (k : ℕ) (h : List Event) → number_in_flight (is_answer p k) h ≡ answers p k h
answers_in_flight p k h = number_is (is_answer p k) (in_flight h) ∙ of_list (of_answer p k) h

pub bans_in_flight : (n : ℕ) (p : TaskId) (h : List Event) → number_in_flight (is_ban n p) h ≡ bans n p h
bans_in_flight n p h = number_is (is_ban n p) (in_flight h) ∙ of_list (of_ban n p) h

pub acks_in_flight : (n : ℕ) (p : TaskId) (h : List Event) → number_in_flight (is_ack n p) h ≡ acks n p h
acks_in_flight n p h = number_is (is_ack n p) (in_flight h) ∙ of_list (of_ack n p) h

pub unbans_in_flight : (n : ℕ) (p : TaskId) (h : List Event) → number_in_flight (is_unban n p) h ≡ unbans n p h
unbans_in_flight n p h = number_is (is_unban n p) (in_flight h) ∙ of_list (of_unban n p) h
