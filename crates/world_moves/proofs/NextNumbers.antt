-- Which event a request or a root can have next at its node: a task takes a slot there, or none is free, unless no number is left.
use Rattle.std.proofs.Common.{if◌then◌else◌, ◌≡◌, ◌<◌, ◌≤◌, ◌+◌, ◌⊎◌, ◌==◌, ℕ, Bool, true, false, List, [], ◌∷◌, length, map, reverse, Option, Some, None, sym, ap, inl, inr, refl, arith}
use Rattle.std.specs.Prelude.{slice_get, option_map, option_and_then}
use Rattle.std.proofs.lemmas.Option.{slice_get_cases}
use native.Mathlib.Decide.{dec_lt}
use Rattle.task_ids.specs.declared.task_id.TaskId.{TaskId}
use Rattle.task_ids.specs.declared.task_info.Headers.{Headers}
use Rattle.task_ids.specs.declared.cluster.Cluster.{Cluster}
use Rattle.child_track.specs.Token.{Token}
use Rattle.task_events.specs.declared.event.Event.{Event}
use Rattle.task_events.specs.declared.event.Event.TheVariants.{Root, Put, Reject, Answered, BanPut, Acked, BanGone}
use Rattle.task_events.specs.declared.history.TheConstants.{MAX_EVENTS}
use Rattle.task_events.specs.declared.reply.Reply.{Reply}
use Rattle.task_events.specs.declared.request.Request.{Request as AskedFor}
use Rattle.task_events.specs.Allowed.{TakesSlot}
use Rattle.task_events.specs.Messages.{Message, in_flight}
use Rattle.task_events.specs.Messages.Message.{Request, Answer, Ban, Ack, Unban}
use Rattle.task_events.specs.Tasks.{live_on, last_number}
use Rattle.node_parts.specs.declared.notice.Notice.TheVariants as notices
use Rattle.world_moves.specs.declared.flight.Sent.{Sent}
use Rattle.world_moves.specs.declared.flight.Sent.TheVariants as sent
use Rattle.world_moves.specs.Cancels.{answer_to, due_for}
use Rattle.world_moves.specs.Flights.{event_at, message_of, node_asked, reply_in}
use Rattle.world_moves.specs.Moves.{Delivers, IsCutShort, IsPartly, LacksNumber, NodeLacksNumber, greatest_number}
use Rattle.world_moves.proofs.CutShort.{cut_first, cut_move, cut_only}
use Rattle.world_moves.proofs.RequestsInFlight.{Arrives}

one_low : (b : Bool) (x y : ℕ) → x ≤ 1048575 → y ≤ 1048575 → (if b then x else y) ≤ 1048575
one_low true x y low lower = low
one_low false x y low lower = lower

-- no node gives a number above the last
low_number : (n : ℕ) (h : List Event) → last_number n h ≤ 1048575
low_number n [] = omega arith
low_number n (Root c t ∷ h) = one_low (n == t.node) t.number (last_number n h) t.number_in_range.1 (low_number n h)
low_number n (Put t p k ∷ h) = one_low (n == t.node) t.number (last_number n h) t.number_in_range.1 (low_number n h)
low_number n (_ ∷ h) = low_number n h

-- the greatest number is that of the limits
is_greatest : greatest_number ≡ 1048575
unfolding greatest_number
is_greatest = refl

-- The next task of a node takes a slot there.
abbrev pub CanTakeSlot : Cluster → List Event → ℕ → Type 0
CanTakeSlot cluster h n = (t : TaskId) × (t.node ≡ n) × TakesSlot cluster t h

module _ (cluster : Cluster) (h : List Event) (n : ℕ) (low : 1 ≤ n) (high : n ≤ cluster.nodes) where
  next_takes : live_on n h < cluster.slots → last_number n h + 1 ≤ 1048575 → CanTakeSlot cluster h n
  next_takes free left =
      let most = cluster.nodes_in_range.1 in
      (record { node = n; number = last_number n h + 1; node_in_range = (low, omega arith); number_in_range = (omega arith, left) }, refl, record { next = refl; free = free })

  pub slot_or_none : (NodeLacksNumber cluster h n → ⊥) → CanTakeSlot cluster h n ⊎ (cluster.slots ≤ live_on n h)
  slot_or_none has = elim (dec_lt (live_on n h) cluster.slots) [
    | yes free ↦ inl (next_takes free (left free))
    | no none ↦ inr (omega arith)
  ]
    where
      left : live_on n h < cluster.slots → last_number n h + 1 ≤ 1048575
      left free = elim (dec_lt (last_number n h) 1048575) [
        | yes below ↦ omega arith
        | no last ↦ absurd (let most = low_number n h in let greatest = is_greatest in has (free, omega arith))
      ]

-- A request that does not lack a number is cut short by a full history.
pub request_cut : (cluster : Cluster) (h : List Event) (nth : ℕ) (token : Token) (to at : ℕ) → Arrives cluster h nth token to at → (NodeLacksNumber cluster h to → ⊥) → length h ≡ MAX_EVENTS
    → IsCutShort (IsPartly (λ x y. Delivers cluster x nth y) h) h
request_cut cluster h nth token to at a has full = elim (slot_or_none cluster h to a.low a.high has) [
  | inl takes ↦ cut_only (λ x y. Delivers cluster x nth y) h h (Put takes.0 token.parent token.ask) (Request token.parent token.ask to a.asked, Put takes.0 token.parent token.ask, a.here, (takes.2, takes.1, refl, refl), refl) full refl
  | inr none ↦ cut_only (λ x y. Delivers cluster x nth y) h h (Reject to token.parent token.ask) (Request token.parent token.ask to a.asked, Reject to token.parent token.ask, a.here, (none, refl, refl, refl), refl) full refl
]

-- there is an entry at each place below the end
pub entry_there : (flight : List Sent) (nth : ℕ) → nth < length flight → (s : Sent) × (slice_get flight nth ≡ Some s)
entry_there flight nth inside = elim (slice_get_cases flight nth).1 [
  | inl there ↦ (there.0, there.2)
  | inr past ↦ absurd (let most = past.0 in omega (arith, most, inside))
]

-- an entry that is a request
pub request_there : (o : Option Sent) (n : ℕ) → node_asked o ≡ Some n → (token : Token) × (at : ℕ) × (headers : Headers) × (o ≡ Some (sent.Request token n at headers))
request_there (Some (sent.Request token to at headers)) n e = (token, at, headers, ap (λ (x : ℕ). Some (sent.Request token x at headers)) (only to n e))
  where
    only : (a b : ℕ) → Some a ≡ Some b → a ≡ b
    only a b is = cc
request_there (Some (sent.Answer receipt at)) n e = absurd (cc)
request_there (Some (sent.Notice notice)) n e = absurd (cc)
request_there None n e = absurd (cc)

-- an entry that is none is no request in flight either
pub no_request : (h : List Event) (s : Sent) → node_asked (Some s) ≡ None → (p : TaskId) (k n : ℕ) (r : AskedFor) → message_of h s ≡ Some (Request p k n r) → ⊥
no_request h (sent.Request token to at headers) none p k n r is = absurd (cc)
no_request h (sent.Answer receipt at) none p k n r is = answered receipt.parent (option_and_then reply_in (event_at at h)) is
  where
    answered : (o : Option TaskId) (q : Option Reply) → option_and_then (λ t. option_map (λ reply. Answer t receipt.ask reply) q) o ≡ Some (Request p k n r) → ⊥
    answered None q e = absurd (cc)
    answered (Some t) None e = absurd (cc)
    answered (Some t) (Some reply) e = absurd (cc)
no_request h (sent.Notice (notices.Ban parent cancel to)) none p k n r is = absurd (cc)
no_request h (sent.Notice (notices.Ack parent from)) none p k n r is = absurd (cc)
no_request h (sent.Notice (notices.Unban parent to)) none p k n r is = absurd (cc)

-- what lacks a number is a request to a node that has none
pub lacks_at : (cluster : Cluster) (h : List Event) (m : Message) → LacksNumber cluster h m → (p : TaskId) × (k n : ℕ) × (r : AskedFor) × (m ≡ Request p k n r)
lacks_at cluster h (Request p k n r) lacks = (p, k, n, r, refl)
lacks_at cluster h (Answer p k reply) lacks = absurd lacks
lacks_at cluster h (Ban p c n) lacks = absurd lacks
lacks_at cluster h (Ack p n) lacks = absurd lacks
lacks_at cluster h (Unban p n) lacks = absurd lacks

-- Any other message in flight is cut short by a full history.
pub other_cut : (cluster : Cluster) (h : List Event) (nth : ℕ) (m : Message) → slice_get (in_flight h) nth ≡ Some m → ((p : TaskId) (k n : ℕ) (r : AskedFor) → m ≡ Request p k n r → ⊥) → length h ≡ MAX_EVENTS
    → IsCutShort (IsPartly (λ x y. Delivers cluster x nth y) h) h
other_cut cluster h nth (Request p k n r) here other full = absurd (other p k n r refl)
other_cut cluster h nth (Answer p k reply) here other full = cut_only (λ x y. Delivers cluster x nth y) h h (Answered p k) (Answer p k reply, Answered p k, here, (refl, refl), refl) full refl
other_cut cluster h nth (Ban p c n) here other full = cut_only (λ x y. Delivers cluster x nth y) h h (BanPut n p c) (Ban p c n, BanPut n p c, here, (refl, refl, refl), refl) full refl
other_cut cluster h nth (Ack p n) here other full =
    cut_move (λ x y. Delivers cluster x nth y) h h _ (Ack p n, Acked p n, here, (refl, refl), refl)
    (cut_first h h (reverse (map (answer_to (Acked p n ∷ h)) (due_for p (Acked p n ∷ h)))) (Acked p n) full refl)
other_cut cluster h nth (Unban p n) here other full = cut_only (λ x y. Delivers cluster x nth y) h h (BanGone n p) (Unban p n, BanGone n p, here, (refl, refl), refl) full refl
