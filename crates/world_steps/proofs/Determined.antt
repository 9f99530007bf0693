-- A script has one run: each move has one outcome, settling ends in one past, and so do commands.
use Rattle.std.proofs.Common.{◌≡◌, ◌⊎◌, ◌≤◌, ℕ, zero, suc, ◌+◌, Bool, true, false, List, [], ◌∷◌, length, Option, Some, None, sym, ap, subst, ◌∙◌, inl, inr, arith}
use Rattle.std.specs.Prelude.{slice_get}
use Rattle.std.specs.Ordering.{is_le}
use Rattle.std.proofs.lemmas.Option.{slice_get_within}
use Rattle.task_ids.specs.declared.task_id.TaskId.{TaskId}
use Rattle.task_ids.specs.declared.cluster.Cluster.{Cluster}
use Rattle.task_ids.specs.declared.corpus.Corpus.{Corpus}
use Rattle.task_ids.specs.TaskIdOrder.{task_id_cmp}
use Rattle.task_ids.proofs.OneValue.{one_value}
use Rattle.task_ids.proofs.TaskIdKeys.{exact_ids, ids_total}
use Rattle.task_events.specs.declared.request.Request.{Request as AskedFor}
use Rattle.task_events.specs.declared.reply.Reply.{Reply}
use Rattle.task_events.specs.declared.event.Event.{Event}
use Rattle.task_events.specs.declared.event.Event.TheVariants.{Begin, Root, RootRejected, Put, Reject, Mark, Listed, Answered, BanPut, Acked, BanGone}
use Rattle.task_events.specs.Allowed.{TakesSlot, HasAllMarked}
use Rattle.task_events.specs.Messages.{Message, in_flight}
use Rattle.task_events.specs.Messages.Message.{Request, Answer, Ban, Ack, Unban}
use Rattle.task_events.specs.Tasks.{live_on, last_number, parent_of}
use Rattle.task_laws.proofs.Same.{same_fields}
use Rattle.script_lang.specs.declared.command.Command.{Command}
use Rattle.script_lang.specs.declared.command.Command.TheVariants.{Search, Scroll, ClearScroll, Reindex, Cancel, ListTasks, GetTask, ForgetTask, ListResults, Tick, Deliver, Step, ListStep, Settle, Shuffle, WaitFor, History, Summary}
use Rattle.script_lang.specs.declared.command.Script.{Script}
use Rattle.world_steps.specs.declared.acting.Stepped.{Stepped}
use Rattle.world_steps.specs.declared.acting.Stepped.TheVariants.{Done, Waiting, NotRunning}
use Rattle.node_parts.specs.declared.listing.Listing.{Listing}
use Rattle.world_moves.specs.Cancels.{with_due}
use Rattle.world_moves.specs.Listings.{IsNextChild, IsListStep, ListSteps}
use Rattle.world_moves.specs.Moves.{IsDelivery, Delivers, IsStart, Starts}
use Rattle.std.proofs.lemmas.Map.Lookups.{btree_set_from_contains}
use Rattle.script_lang.specs.Generator.{next_number}
use Rattle.world_steps.specs.declared.shuffling.Move.{Move}
use Rattle.world_steps.specs.declared.shuffling.Move.TheVariants as moves
use Rattle.world_steps.specs.Shuffling.{CanMove, Chooses, Makes, Shuffles, chosen_of, moves_of}
use Rattle.world_steps.proofs.ListingKeys.{exact_listings, listings_total, one_listing}
use Rattle.command_roots.specs.Roots.{command_at}
use Rattle.world_steps.specs.Draining.{IsNextDue, NoneLive, StartsAgain, Empties, ticked_to}
use Rattle.world_steps.specs.Runs.{after_step, Steps, AnswersStep, FirstMoves, IsSettled, Passes, Settles}
use Rattle.world_steps.specs.Scripts.{can_copy, can_start, can_page, page_node, StartsWhere, DeliversWhere, ListsWhere, Does, Commands, HasRun, IsRun}

some_one : {A : Type 0} (o : Option A) (x y : A) → o ≡ Some x → o ≡ Some y → x ≡ y
some_one o x y e f = let both : Some x ≡ Some y = sym e ∙ f in cc

none_some : {A : Type 0} (o : Option A) (x : A) → o ≡ None → o ≡ Some x → ⊥
none_some o x e f = let both : None ≡ Some x = sym e ∙ f in cc

one_newest : (h new other : List Event) (e f : Event) → new ≡ e ∷ h → other ≡ f ∷ h → e ≡ f → new ≡ other
one_newest h new other e f is_new is_other same = is_new ∙ ap (λ x. x ∷ h) same ∙ sym is_other

-- one event has the same answers that come due with it
one_with_due : (h new other : List Event) (e f : Event) → new ≡ with_due e h → other ≡ with_due f h → e ≡ f → new ≡ other
one_with_due h new other e f is_new is_other same = is_new ∙ ap (λ x. with_due x h) same ∙ sym is_other

module _ (cluster : Cluster) (h : List Event) where
  -- ---- deliveries

  -- a task that takes the next slot of a node
  one_task : (t u : TaskId) (n : ℕ) → TakesSlot cluster t h → t.node ≡ n → TakesSlot cluster u h → u.node ≡ n → t ≡ u
  one_task t u n a at b bt =
      let nodes : t.node ≡ u.node = at ∙ sym bt in
      same_fields t u nodes (a.next ∙ ap (λ node. last_number node h + 1) nodes ∙ sym b.next)

  -- what a request's delivery is: its child is put in a free slot, or it is rejected where there is none
  abbrev Requested : TaskId → ℕ → ℕ → Event → Type 0
  Requested p k n e = ((t : TaskId) × (e ≡ Put t p k) × TakesSlot cluster t h × (t.node ≡ n)) ⊎ ((e ≡ Reject n p k) × (cluster.slots ≤ live_on n h))

  requested : (p : TaskId) (k n : ℕ) (r : AskedFor) (e : Event) → IsDelivery cluster h (Request p k n r) e → Requested p k n e
  requested p k n r (Put t q j) (takes, at, asker, ask) = inl (t, cc (asker, ask), takes, at)
  requested p k n r (Reject m q j) (full, at, asker, ask) = inr (cc (at, asker, ask), full)
  requested p k n r _ d = absurd d

  one_request : (p : TaskId) (k n : ℕ) (e f : Event) → Requested p k n e → Requested p k n f → e ≡ f
  one_request p k n e f (inl (t, is, takes, at)) (inl (u, is_too, takes_too, at_too)) = is ∙ ap (λ x. Put x p k) (one_task t u n takes at takes_too at_too) ∙ sym is_too
  one_request p k n e f (inl (t, is, takes, at)) (inr (is_too, full)) = absurd (let free = rw at at takes.free in omega (arith, free, full))
  one_request p k n e f (inr (is, full)) (inl (u, is_too, takes, at)) = absurd (let free = rw at at takes.free in omega (arith, free, full))
  one_request p k n e f (inr (is, full)) (inr (is_too, full_too)) = is ∙ sym is_too

  answered : (p : TaskId) (k : ℕ) (reply : Reply) (e : Event) → IsDelivery cluster h (Answer p k reply) e → e ≡ Answered p k
  answered p k reply (Answered q j) (asker, ask) = cc (asker, ask)
  answered p k reply _ d = absurd d

  banned : (p : TaskId) (c n : ℕ) (e : Event) → IsDelivery cluster h (Ban p c n) e → e ≡ BanPut n p c
  banned p c n (BanPut m q d) (at, parent, cancel) = cc (at, parent, cancel)
  banned p c n _ d = absurd d

  acked : (p : TaskId) (n : ℕ) (e : Event) → IsDelivery cluster h (Ack p n) e → e ≡ Acked p n
  acked p n (Acked q m) (parent, at) = cc (parent, at)
  acked p n _ d = absurd d

  unbanned : (p : TaskId) (n : ℕ) (e : Event) → IsDelivery cluster h (Unban p n) e → e ≡ BanGone n p
  unbanned p n (BanGone m q) (at, parent) = cc (at, parent)
  unbanned p n _ d = absurd d

  one_delivery : (m : Message) (e f : Event) → IsDelivery cluster h m e → IsDelivery cluster h m f → e ≡ f
  one_delivery (Request p k n r) e f d g = one_request p k n e f (requested p k n r e d) (requested p k n r f g)
  one_delivery (Answer p k reply) e f d g = answered p k reply e d ∙ sym (answered p k reply f g)
  one_delivery (Ban p c n) e f d g = banned p c n e d ∙ sym (banned p c n f g)
  one_delivery (Ack p n) e f d g = acked p n e d ∙ sym (acked p n f g)
  one_delivery (Unban p n) e f d g = unbanned p n e d ∙ sym (unbanned p n f g)

  delivers_one : (nth : ℕ) (new other : List Event) → Delivers cluster h nth new → Delivers cluster h nth other → new ≡ other
  delivers_one nth new other (m, e, at, is, same) (l, f, at_too, is_too, same_too) =
      let one : m ≡ l = some_one (slice_get (in_flight h) nth) m l at at_too in
      one_with_due h new other e f same same_too (one_delivery l e f (subst (λ x. IsDelivery cluster h x e) one is) is_too)

  none_delivered : (nth : ℕ) (new : List Event) → length (in_flight h) ≤ nth → Delivers cluster h nth new → ⊥
  none_delivered nth new past (m, e, at, is, same) = let low = slice_get_within (in_flight h) nth m at in omega arith

  -- ---- starts

  abbrev Started : ℕ → ℕ → Event → Type 0
  Started k node e = ((t : TaskId) × (e ≡ Root k t) × TakesSlot cluster t h × (t.node ≡ node)) ⊎ ((e ≡ RootRejected k node) × (cluster.slots ≤ live_on node h))

  started_so : (k node : ℕ) (e : Event) → IsStart cluster h k node true e → Started k node e
  started_so k node (Root c t) (takes, at, command) = inl (t, cc command, takes, at)
  started_so k node _ s = absurd s

  rejected_so : (k node : ℕ) (e : Event) → IsStart cluster h k node false e → Started k node e
  rejected_so k node (RootRejected c n) (full, at, command) = inr (cc (at, command), full)
  rejected_so k node _ s = absurd s

  either : (k node : ℕ) (started : Bool) (e : Event) → IsStart cluster h k node started e → Started k node e
  either k node true e s = started_so k node e s
  either k node false e s = rejected_so k node e s

  one_start : (k node : ℕ) (e f : Event) → Started k node e → Started k node f → e ≡ f
  one_start k node e f (inl (t, is, takes, at)) (inl (u, is_too, takes_too, at_too)) = is ∙ ap (λ x. Root k x) (one_task t u node takes at takes_too at_too) ∙ sym is_too
  one_start k node e f (inl (t, is, takes, at)) (inr (is_too, full)) = absurd (let free = rw at at takes.free in omega (arith, free, full))
  one_start k node e f (inr (is, full)) (inl (u, is_too, takes, at)) = absurd (let free = rw at at takes.free in omega (arith, free, full))
  one_start k node e f (inr (is, full)) (inr (is_too, full_too)) = is ∙ sym is_too

  starts_one : (k node : ℕ) (b d : Bool) (new other : List Event) → Starts cluster h k node b new → Starts cluster h k node d other → new ≡ other
  starts_one k node b d new other (e, is, same) (f, is_too, same_too) = one_newest h new other e f same same_too (one_start k node e f (either k node b e is) (either k node d f is_too))

-- ---- steps

-- ids that are not above each other are one
one_id : (t u : TaskId) → is_le (task_id_cmp t u) ≡ true → is_le (task_id_cmp u t) ≡ true → t ≡ u
one_id = one_value task_id_cmp ids_total exact_ids

-- ---- listings

module _ (cluster : Cluster) (h : List Event) where
  -- the next child of a listing is one task
  one_child : (l : Listing) (t u : TaskId) → IsNextChild l t h → IsNextChild l u h → t ≡ u
  one_child l t u a b =
      let nodes : t.node ≡ u.node = a.there ∙ sym b.there in
      let parents : parent_of t h ≡ parent_of u h = a.child ∙ sym b.child in
      let low : t.number ≤ u.number = a.lowest u (sym parents) (sym nodes) b.live b.unmarked in
      let high : u.number ≤ t.number = b.lowest t parents nodes a.live a.unmarked in
      same_fields t u nodes (omega (arith, low, high))

  -- a listing in which a child is left does not end
  not_over : (l : Listing) (t : TaskId) → IsNextChild l t h → HasAllMarked l.node l.parent h → ⊥
  not_over l t next all = all t next.child next.there next.live next.unmarked

  one_list_step : (l : Listing) (e f : Event) → IsListStep l h e → IsListStep l h f → e ≡ f
  one_list_step l (Mark t c) (Mark u d) (a, ban) (b, ban_too) =
      let same : Some c ≡ Some d = sym ban ∙ ban_too in
      let child = one_child l t u a b in
      let number : c ≡ d = cc in
      λ i. Mark (child i) (number i)
  one_list_step l (Mark t c) (Listed n p) (a, ban) (at, parent, all) = absurd (not_over l t a all)
  one_list_step l (Listed n p) (Mark t c) (at, parent, all) (a, ban) = absurd (not_over l t a all)
  one_list_step l (Listed n p) (Listed m q) (at, parent, all) (at_too, parent_too, all_too) = cc (at, parent, at_too, parent_too)
  one_list_step l (Mark t c) _ a b = absurd b
  one_list_step l (Listed n p) _ a b = absurd b
  one_list_step l _ f a b = absurd a

  lists_one : (l : Listing) (new other : List Event) → ListSteps l h new → ListSteps l h other → new ≡ other
  lists_one l new other (e, opened, is, same) (f, opened_too, is_too, same_too) = one_newest h new other e f same same_too (one_list_step l e f is is_too)

  lists_where_one : (l : Listing) (new other : List Event) → ListsWhere l h new → ListsWhere l h other → new ≡ other
  lists_where_one l new other (inl a) (inl b) = lists_one l new other a b
  lists_where_one l new other (inl (e, opened, is, same)) (inr (closed, same_too)) = absurd (cc (opened, closed))
  lists_where_one l new other (inr (closed, same_too)) (inl (e, opened, is, same)) = absurd (cc (opened, closed))
  lists_where_one l new other (inr (closed, same)) (inr (closed_too, same_too)) = same ∙ sym same_too

module _ (cluster : Cluster) (corpus : Corpus) (script : Script) where
  steps_one : (t : TaskId) (h new other : List Event) → Steps cluster corpus script t h new → Steps cluster corpus script t h other → new ≡ other
  steps_one t h new other (e, live, next, same) (f, live_too, next_too, same_too) = same ∙ ap (λ x. after_step cluster corpus script x h) (some_one _ e f next next_too) ∙ sym same_too

  answers_one : (t : TaskId) (h new other : List Event) (a b : Stepped) → AnswersStep cluster corpus script t h a new → AnswersStep cluster corpus script t h b other → new ≡ other
  answers_one t h new other Done Done a b = steps_one t h new other a b
  answers_one t h new other Done Waiting (e, live, next, same) (live_too, waits, same_too) = absurd (none_some _ e waits next)
  answers_one t h new other Done NotRunning (e, live, next, same) (gone, same_too) = absurd (cc (live, gone))
  answers_one t h new other Waiting Done (live_too, waits, same_too) (e, live, next, same) = absurd (none_some _ e waits next)
  answers_one t h new other Waiting Waiting (live, waits, same) (live_too, waits_too, same_too) = same ∙ sym same_too
  answers_one t h new other Waiting NotRunning (live, waits, same) (gone, same_too) = same ∙ sym same_too
  answers_one t h new other NotRunning Done (gone, same_too) (e, live, next, same) = absurd (cc (live, gone))
  answers_one t h new other NotRunning Waiting (gone, same_too) (live, waits, same) = same_too ∙ sym same
  answers_one t h new other NotRunning NotRunning (gone, same) (gone_too, same_too) = same ∙ sym same_too

  -- ---- settling

  nothing_at : (h new : List Event) → in_flight h ≡ [] → Delivers cluster h 0 new → ⊥
  nothing_at h new none d = none_delivered cluster h 0 new (rw none (omega arith)) d

  pub first_one : (h new other : List Event) → FirstMoves cluster corpus script h new → FirstMoves cluster corpus script h other → new ≡ other
  first_one h new other (inl d) (inl g) = delivers_one cluster h 0 new other d g
  first_one h new other (inl d) (inr (inl (none, rest))) = absurd (nothing_at h new none d)
  first_one h new other (inl d) (inr (inr (none, closed, rest))) = absurd (nothing_at h new none d)
  first_one h new other (inr (inl (none, rest))) (inl d) = absurd (nothing_at h other none d)
  first_one h new other (inr (inr (none, closed, rest))) (inl d) = absurd (nothing_at h other none d)
  first_one h new other (inr (inl (none, (l, first, lists)))) (inr (inl (none_too, (m, first_too, lists_too)))) =
      let one : l ≡ m = one_listing l m (first.1 m first_too.0) (first_too.1 l first.0) in
      lists_one cluster h m new other (subst (λ x. ListSteps x h new) one lists) lists_too
  first_one h new other (inr (inl (none, (l, first, lists)))) (inr (inr (none_too, closed, rest))) = absurd (let here = closed l in let there = first.0 in cc)
  first_one h new other (inr (inr (none_too, closed, rest))) (inr (inl (none, (l, first, lists)))) = absurd (let here = closed l in let there = first.0 in cc)
  first_one h new other (inr (inr (none, closed, (t, first, steps)))) (inr (inr (none_too, closed_too, (u, first_too, steps_too)))) =
      let one : t ≡ u = one_id t u (first.1 u first_too.0) (first_too.1 t first.0) in
      steps_one u h new other (subst (λ x. Steps cluster corpus script x h new) one steps) steps_too

  pub settled_rests : (h new : List Event) → IsSettled cluster corpus script h → FirstMoves cluster corpus script h new → ⊥
  settled_rests h new s (inl d) = nothing_at h new s.nothing_in_flight d
  settled_rests h new s (inr (inl (none, (l, first, lists)))) = let here = s.no_listing l in let there = first.0 in cc
  settled_rests h new s (inr (inr (none, closed, (t, first, (e, live, next, same))))) = none_some _ e (s.all_wait t live) next

  passes_one : (h : List Event) (between : List (List Event)) (new : List Event) (others : List (List Event)) (other : List Event)
      → Passes cluster corpus script h between new → IsSettled cluster corpus script new → Passes cluster corpus script h others other → IsSettled cluster corpus script other → new ≡ other
  passes_one h [] new [] other p s q t = sym p ∙ q
  passes_one h [] new (next ∷ later) other p s q t = absurd (settled_rests h next (subst (IsSettled cluster corpus script) (sym p) s) q.0)
  passes_one h (next ∷ later) new [] other p s q t = absurd (settled_rests h next (subst (IsSettled cluster corpus script) (sym q) t) p.0)
  passes_one h (next ∷ later) new (step ∷ more) other p s q t =
      let one : step ≡ next = first_one h step next q.0 p.0 in
      passes_one next later new more other p.1 s (subst (λ x. Passes cluster corpus script x more other) one q.1) t

  pub settles_one : (h new other : List Event) → Settles cluster corpus script h new → Settles cluster corpus script h other → new ≡ other
  settles_one h new other (s, (between, p)) (t, (others, q)) = passes_one h between new others other p s q t

  -- ---- shuffles

  -- the open listings in order are one list, and so are the tasks that do not wait
  one_listings : (ls ms : List Listing) (ts us : List TaskId) (h : List Event) → CanMove cluster corpus script ls ts h → CanMove cluster corpus script ms us h → ls ≡ ms
  one_listings ls ms ts us h a b =
      btree_set_from_contains listings_total (record { keys = ls }) (record { keys = ms }) a.listings_ascend b.listings_ascend (λ l. a.listings_open l ∙ sym (b.listings_open l)) exact_listings

  one_tasks : (ls ms : List Listing) (ts us : List TaskId) (h : List Event) → CanMove cluster corpus script ls ts h → CanMove cluster corpus script ms us h → ts ≡ us
  one_tasks ls ms ts us h a b =
      btree_set_from_contains ids_total (record { keys = ts }) (record { keys = us }) a.tasks_ascend b.tasks_ascend (λ t. a.tasks_ready t ∙ sym (b.tasks_ready t)) exact_ids

  pub chooses_one : (chance : ℕ) (m n : Move) (h : List Event) → Chooses cluster corpus script chance m h → Chooses cluster corpus script chance n h → m ≡ n
  chooses_one chance m n h (ls, ts, can, at) (ms, us, can_too, at_too) =
      let listings = one_listings ls ms ts us h can can_too in
      let tasks = one_tasks ls ms ts us h can can_too in
      let same : moves_of h ls ts ≡ moves_of h ms us = λ i. moves_of h (listings i) (tasks i) in
      some_one (slice_get (moves_of h ls ts) (chosen_of chance (length (moves_of h ls ts)))) m n at (ap (λ all. slice_get all (chosen_of chance (length all))) same ∙ at_too)

  pub makes_one : (move : Move) (h new other : List Event) → Makes cluster corpus script move h new → Makes cluster corpus script move h other → new ≡ other
  makes_one (moves.Deliver nth) h new other a b = delivers_one cluster h nth new other a b
  makes_one (moves.List l) h new other a b = lists_one cluster h l new other a b
  makes_one (moves.Step t) h new other a b = steps_one t h new other a b

  -- where all has settled no move can be made
  pub settled_makes_none : (move : Move) (h new : List Event) → IsSettled cluster corpus script h → Makes cluster corpus script move h new → ⊥
  settled_makes_none (moves.Deliver nth) h new s d = none_delivered cluster h nth new (rw s.nothing_in_flight (omega arith)) d
  settled_makes_none (moves.List l) h new s (e, opened, is, same) = let closed = s.no_listing l in cc (opened, closed)
  settled_makes_none (moves.Step t) h new s (e, live, next, same) = none_some _ e (s.all_wait t live) next

  shuffles_one : (chance count : ℕ) (h new other : List Event) → Shuffles cluster corpus script chance count h new → Shuffles cluster corpus script chance count h other → new ≡ other
  shuffles_one chance zero h new other same same_too = same ∙ sym same_too
  shuffles_one chance (suc more) h new other (inl (s, same)) (inl (t, same_too)) = same ∙ sym same_too
  shuffles_one chance (suc more) h new other (inl (s, same)) (inr (next, (move, chosen, made), later)) = absurd (settled_makes_none move h next s made)
  shuffles_one chance (suc more) h new other (inr (next, (move, chosen, made), later)) (inl (s, same)) = absurd (settled_makes_none move h next s made)
  shuffles_one chance (suc more) h new other (inr (next, (move, chosen, made), later)) (inr (step, (n, chosen_too, made_too), later_too)) =
      let one : n ≡ move = chooses_one (next_number chance) n move h chosen_too chosen in
      let same : step ≡ next = makes_one move h step next (subst (λ m. Makes cluster corpus script m h step) one made_too) made in
      shuffles_one (next_number chance) more next new other later (subst (λ x. Shuffles cluster corpus script (next_number chance) more x other) same later_too)

  -- ---- draining

  -- the soonest moment is one
  pub one_due : (h : List Event) (due other : ℕ) → IsNextDue cluster corpus script due h → IsNextDue cluster corpus script other h → due ≡ other
  one_due h due other (there, least) (there_too, least_too) =
      let low = least there_too.0 other there_too.1 in
      let high = least_too there.0 due there.1 in
      omega (arith, low, high)

  -- who waits for a moment is live
  pub none_due : (h : List Event) (due : ℕ) → NoneLive h → IsNextDue cluster corpus script due h → ⊥
  none_due h due none ((t, e), least) = let gone = none t in let it = rw gone at e in cc

  starts_one_way : (h : List Event) (between : List (List Event)) (start new : List Event) (others : List (List Event)) (begun other : List Event)
      → StartsAgain cluster corpus script h between start → Settles cluster corpus script start new → NoneLive new
      → StartsAgain cluster corpus script h others begun → Settles cluster corpus script begun other → NoneLive other → new ≡ other
  starts_one_way h [] start new [] begun other same s none same_too t none_too =
      settles_one h new other (subst (λ x. Settles cluster corpus script x new) same s) (subst (λ x. Settles cluster corpus script x other) same_too t)
  starts_one_way h [] start new (rested ∷ more) begun other same s none (first, (due, next, rest)) t none_too =
      let one : new ≡ rested = settles_one h new rested (subst (λ x. Settles cluster corpus script x new) same s) first in
      absurd (none_due rested due (subst NoneLive one none) next)
  starts_one_way h (rested ∷ later) start new [] begun other (first, (due, next, rest)) s none same t none_too =
      let one : other ≡ rested = settles_one h other rested (subst (λ x. Settles cluster corpus script x other) same t) first in
      absurd (none_due rested due (subst NoneLive one none_too) next)
  starts_one_way h (rested ∷ later) start new (resting ∷ more) begun other (first, (due, next, rest)) s none (first_too, (moment, next_too, rest_too)) t none_too =
      let one : resting ≡ rested = settles_one h resting rested first_too first in
      let soonest : moment ≡ due = one_due rested moment due (subst (λ x. IsNextDue cluster corpus script moment x) one next_too) next in
      starts_one_way (ticked_to due rested) later start new more begun other rest s none
      (subst (λ x. StartsAgain cluster corpus script (ticked_to x rested) more begun) soonest (subst (λ x. StartsAgain cluster corpus script (ticked_to moment x) more begun) one rest_too)) t none_too

  empties_one : (h new other : List Event) → Empties cluster corpus script h new → Empties cluster corpus script h other → new ≡ other
  empties_one h new other (none, (between, start, starts, s)) (none_too, (others, begun, starts_too, t)) = starts_one_way h between start new others begun other starts s none starts_too t none_too

  -- ---- commands

  where_one : (b : Bool) (k node : ℕ) (h new other : List Event) → StartsWhere cluster b k node h new → StartsWhere cluster b k node h other → new ≡ other
  where_one true k node h new other (b, s) (d, t) = starts_one cluster h k node b d new other s t
  where_one false k node h new other same same_too = same ∙ sym same_too

  place_one : (nth : ℕ) (h new other : List Event) → DeliversWhere cluster nth h new → DeliversWhere cluster nth h other → new ≡ other
  place_one nth h new other (inl d) (inl g) = delivers_one cluster h nth new other d g
  place_one nth h new other (inl d) (inr (past, same)) = absurd (none_delivered cluster h nth new past d)
  place_one nth h new other (inr (past, same)) (inl d) = absurd (none_delivered cluster h nth other past d)
  place_one nth h new other (inr (past, same)) (inr (past_too, same_too)) = same ∙ sym same_too

  pub does_one : (k : ℕ) (command : Command) (h new other : List Event) → Does cluster corpus script k command h new → Does cluster corpus script k command h other → new ≡ other
  does_one k (Search index node scroll body opaque_id) h new other a b = where_one (can_start corpus script.commands index scroll body) k node h new other a b
  does_one k (Scroll target keep opaque_id) h new other a b = where_one (can_page script target h) k (page_node target h) h new other a b
  does_one k (ClearScroll target) h new other a b = a ∙ sym b
  does_one k (Reindex node body slices rate opaque_id store) h new other a b = where_one (can_copy corpus script.commands body) k node h new other a b
  does_one k (Tick ms) h new other a b = a ∙ sym b
  does_one k (Cancel target reason wait) h new other a b = a ∙ sym b
  does_one k (ListTasks wanted group detailed) h new other a b = a ∙ sym b
  does_one k (GetTask task wait) h new other a b = a ∙ sym b
  does_one k (ForgetTask task) h new other a b = a ∙ sym b
  does_one k ListResults h new other a b = a ∙ sym b
  does_one k (Deliver nth) h new other a b = place_one nth h new other a b
  does_one k (Step task) h new other (a, s) (b, t) = answers_one task h new other a b s t
  does_one k (ListStep node parent) h new other a b = lists_where_one cluster h (record { node = node; parent = parent }) new other a b
  does_one k Settle h new other a b = settles_one h new other a b
  does_one k (Shuffle seed moves) h new other a b = shuffles_one seed moves h new other a b
  does_one k (WaitFor command) h new other a b = settles_one h new other a b
  does_one k History h new other a b = a ∙ sym b
  does_one k Summary h new other a b = a ∙ sym b

  commands_one : (k : ℕ) (h new other : List Event) → Commands cluster corpus script k h new → Commands cluster corpus script k h other → new ≡ other
  commands_one k h new other (c, at, a) (d, at_too, b) =
      let one : c ≡ d = some_one (command_at script k) c d at at_too in
      does_one k d (Begin k ∷ h) new other (subst (λ x. Does cluster corpus script k x (Begin k ∷ h) new) one a) b

  pub has_run_one : (n : ℕ) (h g : List Event) → HasRun cluster corpus script n h → HasRun cluster corpus script n g → h ≡ g
  has_run_one zero h g a b = a ∙ sym b
  has_run_one (suc n) h g (before, ran, a) (earlier, ran_too, b) =
      let one : before ≡ earlier = has_run_one n before earlier ran ran_too in
      commands_one (suc n) earlier h g (subst (λ x. Commands cluster corpus script (suc n) x h) one a) b

  pub run_one : (h g : List Event) → IsRun cluster corpus script h → IsRun cluster corpus script g → h ≡ g
  run_one h g (before, ran, a) (earlier, ran_too, b) =
      let one : before ≡ earlier = has_run_one (length script.commands) before earlier ran ran_too in
      empties_one (Begin (length script.commands + 1) ∷ earlier) h g (subst (λ x. Empties cluster corpus script (Begin (length script.commands + 1) ∷ x) h) one a) b
