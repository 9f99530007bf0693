-- The cancellations that acts name are of the run.
use Rattle.std.proofs.Common.{◌≡◌, inl, inr, ◌&&◌, ℕ, Bool, true, false, not, if◌then◌else◌, nat_lt, List, [], ◌∷◌, ◌++◌, map, filter, Option, Some, None, option_to_list, Err, MatchBool, refl, sym, ap, subst, All}
use Rattle.std.specs.FinMap.{get}
use Rattle.std.proofs.lemmas.List.Elements.{All-nil, All-cons, All-head, All-tail, All-append, All-filter, All-map}
use Rattle.task_ids.specs.declared.task_id.TaskId.{TaskId}
use Rattle.task_ids.specs.declared.task_info.TaskInfo.{TaskInfo}
use Rattle.child_track.specs.NodeSet.{nodes_of}
use Rattle.child_track.specs.Token.{ReceiptParts}
use Rattle.task_table.specs.declared.ended.MarkAnswer.TheVariants.{Marked, Already, NotFound}
use Rattle.cancel_core.specs.declared.act.Act.{Act}
use Rattle.cancel_core.specs.declared.act.Act.TheVariants.{SendUnban, SendBan}
use Rattle.cancel_core.specs.declared.act.Waiter.{Waiter}
use Rattle.cancel_core.specs.Cancellation.{Cancellation, opened, is_placed, with_ack, with_receipt}
use Rattle.cancel_core.specs.Cancellations.{Cancellations, entry_of}
use Rattle.cancel_core.specs.Acts.{ban_acts, unban_acts, answer_act, placed_acts, due_acts, join_acts, first_acts}
use Rattle.cancel_core.specs.Listings.{is_stopped, ack_acts, awaited_by, leaving_acts, listing_act, number_noted}
use Rattle.node_link.specs.declared.body.Body.{Body}
use Rattle.node_link.specs.declared.body.Body.TheVariants as says
use Rattle.node_link.specs.Lawful.{IsLawful, IsCancelOfRun}
use Rattle.node_boards.specs.Calls.{ControlCall}
use Rattle.node_boards.specs.Calls as call
use Rattle.control_worker.specs.declared.act.ControlAct.{ControlAct}
use Rattle.control_worker.specs.declared.act.ControlAct.TheVariants as act
use Rattle.control_worker.specs.declared.control_core.Ban.{Ban}
use Rattle.control_worker.specs.View.{View, is_to, is_here, is_under_way, is_open, is_banned, is_of, is_kept_back}
use Rattle.control_worker.specs.Steps.{Step, Nothing, Then, Either, Only, Where, Asks, Gives, Each}
use Rattle.control_worker.specs.Cancels.{Begins, Joined, Joins, Starts, Seeks, Cancels, is_awaited, Moves, Acked, Acks, Ended, EndsOf}
use Rattle.control_worker.specs.Bans.{BeginsChild, Awaits, Lists, Places, Put, IsFull, PutsOrNot, KeepsBack, PutsOrKeeps, TakesBan, Keeps, Tries, TriesKept, Lifts, TakesUnban}
use Rattle.control_worker.specs.Matches.{Tried, found_of, Tries as TriesRow, Names, Matches}
use Rattle.control_worker.specs.Gathers.{gathered_by, after_part, MatchesIn, Gathers}
use Rattle.control_worker.specs.Turn.{Takes, Turned}
use Rattle.control_worker.specs.Together.{Together, MayPut, MayHear}
use Rattle.control_worker.specs.Lawful.{IsLawfulCore, IsLawfulAct}
use Rattle.control_worker.proofs.Belonging.{may_put, may_hear}
use Rattle.control_worker.proofs.Waiting.{all_waited, begins_waits, joins_waits, moves_waits}

module _ (allowed : ℕ → Type 0) where
  -- the cancels that a core knows of are of the run
  record OfRun (v : View) : Type 0 where
    pub kept : All (MayPut allowed) v.kept
    pub waiting : (task : TaskId) → All (MayHear allowed) (entry_of v.cancels task).waiters

  -- the acts that cancellations give
  each_ban : (task : TaskId) (cancel : ℕ) (nodes : List ℕ) → IsCancelOfRun allowed cancel → All (IsLawfulCore allowed) (ban_acts task cancel nodes)
  each_ban task cancel nodes is = All-map (IsLawfulCore allowed) (λ node. SendBan node task cancel) nodes (λ k d within. is)

  each_unban : (task : TaskId) (nodes : List ℕ) → All (IsLawfulCore allowed) (unban_acts task nodes)
  each_unban task nodes = All-map (IsLawfulCore allowed) (λ node. SendUnban node task) nodes (λ k d within. tt)

  when_joined : (task : TaskId) (c : Cancellation) (w : Waiter) → MayHear allowed w → All (IsLawfulCore allowed) (join_acts task c w)
  when_joined task c w may = by (is_placed c && not w.wait)
    where
      by : (b : Bool) → All (IsLawfulCore allowed) (if b then Act.AnswerPlaced w.cancel task ∷ [] else [])
      by true = All-cons (IsLawfulCore allowed) (Act.AnswerPlaced w.cancel task) [] may (All-nil (IsLawfulCore allowed))
      by false = All-nil (IsLawfulCore allowed)

  at_first : (task : TaskId) (cancel : ℕ) (nodes : List ℕ) (waiter : Option Waiter) → ((x : Waiter) → waiter ≡ Some x → MayHear allowed x) → All (IsLawfulCore allowed) (first_acts task cancel nodes waiter)
  at_first task cancel nodes None may = All-nil (IsLawfulCore allowed)
  at_first task cancel nodes (Some w) may = when_joined task (opened cancel nodes) w (may w refl)

  one_answer : (task : TaskId) (receipt : ReceiptParts) (w : Waiter) → MayHear allowed w → IsLawfulCore allowed (answer_act task receipt w)
  one_answer task receipt w may = by w.wait
    where
      by : (b : Bool) → IsLawfulCore allowed (if b then Act.AnswerDone w.cancel task receipt else Act.AnswerPlaced w.cancel task)
      by true = may
      by false = may

  when_placed : (task : TaskId) (c : Cancellation) (o : Option ReceiptParts) → All (MayHear allowed) c.waiters → All (IsLawfulCore allowed) (placed_acts task c o)
  when_placed task c None all =
      All-map (IsLawfulCore allowed) (λ (w : Waiter). Act.AnswerPlaced w.cancel task) (filter (λ (w : Waiter). not w.wait) c.waiters) (All-filter (λ (w : Waiter). not w.wait) (MayHear allowed) c.waiters all)
  when_placed task c (Some receipt) all =
      All-append (IsLawfulCore allowed) (unban_acts task c.banned) (map (answer_act task receipt) c.waiters) (each_unban task c.banned)
      (All-map (IsLawfulCore allowed) (answer_act task receipt) c.waiters (λ k d within. one_answer task receipt _ (all k d within)))

  when_due : (task : TaskId) (c : Cancellation) → All (MayHear allowed) c.waiters → All (IsLawfulCore allowed) (due_acts task c)
  when_due task c all = by (is_placed c)
    where
      by : (b : Bool) → All (IsLawfulCore allowed) (if b then placed_acts task c c.receipt else [])
      by true = when_placed task c c.receipt all
      by false = All-nil (IsLawfulCore allowed)

  when_acked : (k : Cancellations) (o : Option TaskId) → All (IsLawfulCore allowed) (ack_acts k o)
  when_acked k None = All-nil (IsLawfulCore allowed)
  when_acked k (Some parent) = by (nat_lt 1 (awaited_by k parent))
    where
      by : (b : Bool) → All (IsLawfulCore allowed) (if b then [] else Act.SendAck parent.node parent ∷ [])
      by true = All-nil (IsLawfulCore allowed)
      by false = All-cons (IsLawfulCore allowed) (Act.SendAck parent.node parent) [] tt (All-nil (IsLawfulCore allowed))

  when_left : (k : Cancellations) (task : TaskId) (stopped : Bool) → All (IsLawfulCore allowed) (leaving_acts k task stopped)
  when_left k task true = when_acked k (get k.waits task)
  when_left k task false = All-nil (IsLawfulCore allowed)

  when_listed : (k : Cancellations) (parent : TaskId) (children : List TaskId) → All (IsLawfulCore allowed) (option_to_list (listing_act k parent children))
  when_listed k parent children = by (nat_lt 0 (number_noted k.entries parent children k.waits))
    where
      by : (b : Bool) → All (IsLawfulCore allowed) (option_to_list (if b then None else Some (Act.SendAck parent.node parent)))
      by true = All-nil (IsLawfulCore allowed)
      by false = All-cons (IsLawfulCore allowed) (Act.SendAck parent.node parent) [] tt (All-nil (IsLawfulCore allowed))

  of_core : (acts : List ControlAct) (more : List Act) → acts ≡ map act.Core more → All (IsLawfulCore allowed) more → All (IsLawfulAct allowed) acts
  of_core acts more is all = subst (All (IsLawfulAct allowed)) (sym is) (All-map (IsLawfulAct allowed) act.Core more all)

  -- from a core whose cancels are of the run a step leads to another such, with acts that name none but such cancels
  abbrev Keeping : Step → Type 0
  Keeping S = (v w : View) (calls : List ControlCall) (acts : List ControlAct) → S v calls acts w → OfRun v → OfRun w × All (IsLawfulAct allowed) acts

  without : (v w : View) (acts : List ControlAct) → acts ≡ [] → OfRun w → OfRun w × All (IsLawfulAct allowed) acts
  without v w acts none is = (is, subst (All (IsLawfulAct allowed)) (sym none) (All-nil (IsLawfulAct allowed)))

  nothing : Keeping Nothing
  unfolding Nothing
  nothing v w calls acts (c, none, same) is = without v w acts none (subst OfRun (sym same) is)

  one_then : (S T : Step) → Keeping S → Keeping T → Keeping (Then S T)
  unfolding Then
  one_then S T first second v w calls acts (u, cs, ds, given, more, one, two, all, are) is =
      let (middle, lawful) = first v u cs given one is in
      let (end, also) = second u w ds more two middle in
      (end, subst (All (IsLawfulAct allowed)) (sym are) (All-append (IsLawfulAct allowed) given more lawful also))

  either : (S T : Step) → Keeping S → Keeping T → Keeping (Either S T)
  unfolding Either
  either S T first second v w calls acts (inl one) is = first v w calls acts one is
  either S T first second v w calls acts (inr two) is = second v w calls acts two is

  only : (test : View → Bool) (S : Step) → Keeping S → Keeping (Only test S)
  unfolding Only
  only test S keeps v w calls acts (passed, made) is = keeps v w calls acts made is

  one_where : (test : View → Bool) (S T : Step) → Keeping S → Keeping T → Keeping (Where test S T)
  unfolding Where
  one_where test S T first second v w calls acts made is = by (test v) made
    where
      by : (b : Bool) → MatchBool b (S v calls acts w) (T v calls acts w) → OfRun w × All (IsLawfulAct allowed) acts
      by true one = first v w calls acts one is
      by false two = second v w calls acts two is

  asks : (call : ControlCall) → Keeping (Asks call)
  unfolding Asks
  asks call v w calls acts (c, none, same) is = without v w acts none (subst OfRun (sym same) is)

  gives : (one : ControlAct) → IsLawfulAct allowed one → Keeping (Gives one)
  unfolding Gives
  gives one lawful v w calls acts (c, given, same) is =
      (subst OfRun (sym same) is, subst (All (IsLawfulAct allowed)) (sym given) (All-cons (IsLawfulAct allowed) one [] lawful (All-nil (IsLawfulAct allowed))))

  each : {X : Type 0} (S : X → Step) → ((x : X) → Keeping (S x)) → (xs : List X) → Keeping (Each S xs)
  each S keeps [] = nothing
  each S keeps (x ∷ xs) = one_then (S x) (Each S xs) (keeps x) (each S keeps xs)

  some_one : (S : ℕ → Step) → ((k : ℕ) → Keeping (S k)) → Keeping (λ v calls acts w. (k : ℕ) × S k v calls acts w)
  some_one S keeps v w calls acts (k, made) is = keeps k v w calls acts made is

  -- cancels
  begins : (task : TaskId) (cancel : ℕ) (waiter : Option Waiter) → IsCancelOfRun allowed cancel → ((x : Waiter) → waiter ≡ Some x → MayHear allowed x) → Keeping (Begins task cancel waiter)
  unfolding Begins
  begins task cancel waiter of_run may v w calls acts (nodes, asked, given, now) is = (
    subst OfRun (sym now) (record {
      kept = is.kept;
      waiting = λ q. all_waited (MayHear allowed) waiter (entry_of v.cancels q).waiters _ (begins_waits v.cancels task q cancel (nodes_of nodes) waiter) (is.waiting q) may;
    }),
    of_core acts (ban_acts task cancel (nodes_of nodes) ++ first_acts task cancel (nodes_of nodes) waiter) given
        (All-append (IsLawfulCore allowed) (ban_acts task cancel (nodes_of nodes)) (first_acts task cancel (nodes_of nodes) waiter) (each_ban task cancel (nodes_of nodes) of_run) (at_first task cancel (nodes_of nodes) waiter may)),
  )

  this_one : (waiter : Waiter) → MayHear allowed waiter → (x : Waiter) → Some waiter ≡ Some x → MayHear allowed x
  this_one waiter may x same = subst (MayHear allowed) (some_is waiter x same) may
    where
      some_is : (a b : Waiter) → Some a ≡ Some b → a ≡ b
      some_is a b e = ap (λ (o : Option Waiter). value o) e
        where
          value : Option Waiter → Waiter
          value None = waiter
          value (Some c) = c

  no_one : (x : Waiter) → None ≡ Some x → MayHear allowed x
  no_one x same = absurd (cc)

  joined : (task : TaskId) (waiter : Waiter) → MayHear allowed waiter → Keeping (Joined task waiter)
  unfolding Joined
  joined task waiter may v w calls acts (asked, given, now) is = (
    subst OfRun (sym now) (record {
      kept = is.kept;
      waiting = λ q. all_waited (MayHear allowed) (Some waiter) (entry_of v.cancels q).waiters _ (joins_waits v.cancels task q waiter) (is.waiting q) (this_one waiter may);
    }),
    of_core acts (join_acts task (entry_of v.cancels task) waiter) given (when_joined task (entry_of v.cancels task) waiter may),
  )

  joins : (task : TaskId) (waiter : Waiter) → MayHear allowed waiter → Keeping (Joins task waiter)
  joins task waiter may = one_where (is_open task) (Joined task waiter) Nothing (joined task waiter may) nothing

  starts : (task : TaskId) (waiter : Waiter) → MayHear allowed waiter → Keeping (Starts task waiter)
  starts task waiter may = one_where (is_under_way task) (Joins task waiter) (Begins task waiter.cancel (Some waiter)) (joins task waiter may) (begins task waiter.cancel (Some waiter) may (this_one waiter may))

  seeks : (task : TaskId) (waiter : Waiter) (found : Bool) → MayHear allowed waiter → Keeping (Seeks task waiter found)
  seeks task waiter true may =
      let now : Step = Then (Asks (call.mark task.number waiter.cancel Marked)) (Starts task waiter) in
      let later : ℕ → Step = λ mark. Then (Asks (call.mark task.number waiter.cancel (Already mark))) (Joins task waiter) in
      only (is_here task) (Either now (λ v calls acts w. (mark : ℕ) × later mark v calls acts w))
      (either now (λ v calls acts w. (mark : ℕ) × later mark v calls acts w)
      (one_then (Asks (call.mark task.number waiter.cancel Marked)) (Starts task waiter) (asks (call.mark task.number waiter.cancel Marked)) (starts task waiter may))
      (some_one later (λ mark. one_then (Asks (call.mark task.number waiter.cancel (Already mark))) (Joins task waiter) (asks (call.mark task.number waiter.cancel (Already mark))) (joins task waiter may))))
  seeks task waiter false may = one_where (is_here task) (Asks (call.mark task.number waiter.cancel NotFound)) Nothing (asks (call.mark task.number waiter.cancel NotFound)) nothing

  cancels : (task : TaskId) (waiter : Waiter) → MayHear allowed waiter → Keeping (Cancels task waiter)
  cancels task waiter may =
      let told : Step = Gives (act.NotFound waiter.cancel) in
      either (Seeks task waiter true) (Then (Seeks task waiter false) told) (seeks task waiter true may)
      (one_then (Seeks task waiter false) told (seeks task waiter false may) (gives (act.NotFound waiter.cancel) may))

  moves : (task : TaskId) (c : Cancellation) (stopped : Bool) (v w : View) (calls : List ControlCall) (acts : List ControlAct) → c.waiters ≡ (entry_of v.cancels task).waiters → Moves task c stopped v calls acts w → OfRun v
      → OfRun w × All (IsLawfulAct allowed) acts
  unfolding Moves
  moves task c stopped v w calls acts same (asked, given, now) is = (
    subst OfRun (sym now) (record {
      kept = is.kept;
      waiting = λ q. all_waited (MayHear allowed) None (entry_of v.cancels q).waiters _ (moves_waits v.cancels task q c stopped same) (is.waiting q) no_one;
    }),
    of_core acts (due_acts task c ++ leaving_acts v.cancels task stopped) given
        (All-append (IsLawfulCore allowed) (due_acts task c) (leaving_acts v.cancels task stopped) (when_due task c (subst (All (MayHear allowed)) (sym same) (is.waiting task))) (when_left v.cancels task stopped)),
  )

  acks : (parent : TaskId) (from : ℕ) → Keeping (Acks parent from)
  acks parent from = one_where (is_awaited parent from) (Acked parent from) Nothing
      (λ v w calls acts made is. let c = with_ack (entry_of v.cancels parent) from in moves parent c (is_stopped c) v w calls acts refl made is) nothing

  ends_of : (o : Option TaskId) (receipt : ReceiptParts) → Keeping (EndsOf o receipt)
  ends_of None receipt = nothing
  ends_of (Some task) receipt = one_where (is_open task) (Ended task receipt) Nothing (λ v w calls acts made is. moves task (with_receipt (entry_of v.cancels task) receipt) true v w calls acts refl made is) nothing

  -- bans
  awaits : (parent : TaskId) (children : List TaskId) → Keeping (Awaits parent children)
  unfolding Awaits
  awaits parent children v w calls acts (asked, given, now) is = (
    subst OfRun (sym now) (record { kept = is.kept; waiting = is.waiting }),
    of_core acts (option_to_list (listing_act v.cancels parent children)) given (when_listed v.cancels parent children),
  )

  lists : (ban : Ban) (place : ℕ) → MayPut allowed ban → Keeping (Lists ban place)
  unfolding Lists
  lists ban place may v w calls acts (numbers, children, are, made) is =
      let all : Step = Each (BeginsChild ban.cancel) children in
      one_then (Asks (call.list place numbers)) (Then all (Awaits ban.parent children)) (asks (call.list place numbers))
      (one_then all (Awaits ban.parent children)
      (each (BeginsChild ban.cancel) (λ child. one_where (is_under_way child) Nothing (Begins child ban.cancel None) nothing (begins child ban.cancel None may no_one)) children)
      (awaits ban.parent children)) v w calls acts made is

  places : (ban : Ban) (place : ℕ) → Keeping (Places ban place)
  unfolding Places
  places ban place v w calls acts (asked, none, now) is = without v w acts none (subst OfRun (sym now) (record { kept = is.kept; waiting = is.waiting }))

  put : (ban : Ban) → MayPut allowed ban → Keeping (Put ban)
  unfolding Put
  put ban may v w calls acts (place, made) is = one_then (Places ban place) (Lists ban place) (places ban place) (lists ban place may) v w calls acts made is

  puts_or_not : (ban : Ban) (done : Bool) → MayPut allowed ban → Keeping (PutsOrNot ban done)
  puts_or_not ban true may = one_where (is_banned ban.parent) Nothing (Put ban) nothing (put ban may)
  puts_or_not ban false may = only (λ v. not (is_banned ban.parent v)) (IsFull ban) (asks (call.ban ban.parent ban.cancel (Err (record {}))))

  keeps_back : (ban : Ban) → MayPut allowed ban → Keeping (KeepsBack ban)
  unfolding KeepsBack
  keeps_back ban may v w calls acts (asked, none, now) is =
      without v w acts none (subst OfRun (sym now) (record { kept = All-append (MayPut allowed) v.kept (ban ∷ []) is.kept (All-cons (MayPut allowed) ban [] may (All-nil (MayPut allowed))); waiting = is.waiting }))

  takes_ban : (ban : Ban) (to : ℕ) → MayPut allowed ban → Keeping (TakesBan ban to)
  takes_ban ban to may =
      let more : Step = Then (PutsOrNot ban false) (KeepsBack ban) in
      one_where (is_to to) (Where (is_kept_back ban.parent) Nothing (PutsOrKeeps ban)) Nothing
      (one_where (is_kept_back ban.parent) Nothing (PutsOrKeeps ban) nothing
      (either (PutsOrNot ban true) more (puts_or_not ban true may) (one_then (PutsOrNot ban false) (KeepsBack ban) (puts_or_not ban false may) (keeps_back ban may)))) nothing

  keeps : (kept : List Ban) → All (MayPut allowed) kept → Keeping (Keeps kept)
  unfolding Keeps
  keeps kept may v w calls acts (asked, none, now) is = without v w acts none (subst OfRun (sym now) (record { kept = may; waiting = is.waiting }))

  tries : (bans : List Ban) → All (MayPut allowed) bans → Keeping (Tries bans)
  tries [] may = nothing
  tries (ban ∷ bans) may =
      let this : MayPut allowed ban = All-head (MayPut allowed) ban bans may in
      let others : All (MayPut allowed) bans = All-tail (MayPut allowed) ban bans may in
      let rest : Step = Then (Keeps bans) (Tries bans) in
      either (PutsOrNot ban false) (Then (PutsOrNot ban true) rest) (puts_or_not ban false this)
      (one_then (PutsOrNot ban true) rest (puts_or_not ban true this) (one_then (Keeps bans) (Tries bans) (keeps bans others) (tries bans others)))

  tries_kept : Keeping TriesKept
  unfolding TriesKept
  tries_kept v w calls acts made is = tries v.kept is.kept v w calls acts made is

  lifts : (parent : TaskId) → Keeping (Lifts parent)
  unfolding Lifts
  lifts parent v w calls acts (had, asked, none, now) is =
      without v w acts none (subst OfRun (sym now) (record { kept = All-filter (λ ban. not (is_of parent ban)) (MayPut allowed) v.kept is.kept; waiting = is.waiting }))

  takes_unban : (parent : TaskId) (to : ℕ) → Keeping (TakesUnban parent to)
  takes_unban parent to = one_where (is_to to) (Then (Lifts parent) TriesKept) Nothing (one_then (Lifts parent) TriesKept (lifts parent) tries_kept) nothing

  -- filters
  names : (cancel : ℕ) (found : List TaskId) → IsCancelOfRun allowed cancel → Keeping (Names cancel found)
  unfolding Names
  names cancel found may v w calls acts (named, same, sorted, made) is = gives (act.Named v.node cancel named) may v w calls acts made is

  matches : (waiter : Waiter) (rows : List TaskInfo) → MayHear allowed waiter → Keeping (Matches waiter rows)
  unfolding Matches
  matches waiter rows may v w calls acts (tried, are, made) is =
      let all : Step = Each (TriesRow waiter) tried in
      one_then all (Names waiter.cancel (found_of tried)) (each (TriesRow waiter) (λ (t : Tried). seeks t.task waiter t.is_found may) tried) (names waiter.cancel (found_of tried) may) v w calls acts made is

  matches_in : (all : Option (List TaskInfo)) (waiter : Waiter) → MayHear allowed waiter → Keeping (MatchesIn all waiter)
  matches_in None waiter may = nothing
  matches_in (Some rows) waiter may = matches waiter rows may

  gathers : (worker : ℕ) (waiter : Waiter) (rows : List TaskInfo) → MayHear allowed waiter → Keeping (Gathers worker waiter rows)
  unfolding Gathers
  gathers worker waiter rows may v w calls acts made is =
      matches_in (gathered_by worker waiter.cancel rows v) waiter may (after_part worker waiter.cancel rows v) w calls acts made (record { kept = is.kept; waiting = is.waiting })

  takes : (letter : Body) → IsLawful allowed letter → Keeping (Takes letter)
  takes (says.Request asked) lawful = nothing
  takes (says.Answer answered) lawful = nothing
  takes (says.Ban parent cancel to) lawful = takes_ban (record { parent = parent; cancel = cancel }) to lawful.0
  takes (says.Ack parent from) lawful = acks parent from
  takes (says.Unban parent to) lawful = takes_unban parent to
  takes (says.Start start) lawful = nothing
  takes (says.Cancel cancel task wait) lawful = cancels task (record { cancel = cancel; wait = wait }) lawful
  takes (says.CancelMatching cancel test wait) lawful = nothing
  takes (says.List command) lawful = nothing
  takes (says.Tick ms) lawful = nothing
  takes says.Drain lawful = nothing
  takes says.Leave lawful = nothing
  takes (says.Stop cause) lawful = nothing
  takes (says.Matches worker cancel rows wait) lawful = gathers worker (record { cancel = cancel; wait = wait }) rows lawful.1
  takes (says.Ended receipt) lawful = ends_of receipt.task receipt
  takes (says.DataLeft worker) lawful = nothing
  takes (says.ControlLeft node) lawful = nothing
  takes (says.Root command task) lawful = nothing
  takes (says.RootAnswer answered) lawful = nothing
  takes (says.Rows node worker command rows) lawful = nothing
  takes (says.AnswerPlaced cancel task) lawful = nothing
  takes (says.AnswerDone cancel task receipt) lawful = nothing
  takes (says.NotFound cancel) lawful = nothing
  takes (says.Named node cancel tasks) lawful = nothing
  takes (says.Stopped cause) lawful = nothing

  -- a turn over a letter of the run gives such acts
  pub turn_lawful : {B : Type 0} (rests : B → B → ControlCall → Type 0) (bans : ℕ → ℕ → ℕ → Type 0) (slots : ℕ) (b c : B) (v w : View) (letter : Body) (acts : List ControlAct) → Together bans slots allowed v → IsLawful allowed letter
      → Turned rests b v letter acts w c → All (IsLawfulAct allowed) acts
  unfolding Turned
  turn_lawful rests bans slots b c v w letter acts t lawful (calls, chain, made) =
      (takes letter lawful v w calls acts made (record { kept = may_put bans slots allowed v v t; waiting = may_hear bans slots allowed v v t })).1
