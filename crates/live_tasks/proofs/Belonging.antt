-- A core and its seat belong together after each call.
use Rattle.std.proofs.Common.{◌≡◌, ◌≢◌, ℕ, ◌⊎◌, ◌↔◌, inl, inr, length, Option, None, Some, refl, sym, ap, subst, ◌∙◌}
use Rattle.std.specs.Prelude.{IfSome}
use Rattle.std.specs.BTreeMap.{get}
use Rattle.task_ids.specs.Limits.{IsNode, IsNumber}
use Rattle.child_track.specs.Token.{token_parent}
use Rattle.race_board.specs.Keys.{parent_key}
use Rattle.node_boards.specs.Seats.{IsFresh, HasTicket, SameTickets, OneMore, OneLess, Keeps, KeepsOthers}
use Rattle.live_tasks.specs.declared.entry.Entry.{Entry}
use Rattle.live_tasks.specs.declared.live.LiveTasks.{LiveTasks}
use Rattle.live_tasks.specs.Live.{entry_at, number_at, ChangesAt, ChangesOne, ChangesTask, SameCore, SameTasks}
use Rattle.live_tasks.specs.Order.{place_cmp}
use Rattle.live_tasks.specs.Ties.{AreTasks, AskedOnNodes, IsEntry, HasParent, HasPlace, HasPassed, KeepsRight, StaysTogether, IsNewCore, Together}
use Rattle.live_tasks.proofs.Keys.{by_number}
use Rattle.live_tasks.proofs.Changes.{tasks_changed, tasks_more, tasks_less}
use Rattle.live_tasks.proofs.Seated.{has_ticket, fresh_number, seated_changed, seated_more, seated_less, both}

-- what stays of a live task through each of its changes
pub record Remains (e f : Entry) : Type 0 where
  pub ticket : f.running.ticket ≡ e.running.ticket
  pub task : f.running.track.task ≡ e.running.track.task
  pub place : f.place ≡ e.place
  pub placed : length e.asked ≡ length e.running.track.asks → length f.asked ≡ length f.running.track.asks
  pub on_nodes : AskedOnNodes e.running.track → AskedOnNodes f.running.track

pub remains_entry : (node n : ℕ) (e f : Entry) → Remains e f → IsEntry node n e → IsEntry node n f
remains_entry node n e f r is = record {
  of_node = ap (λ t. t.id.node) r.ticket ∙ is.of_node;
  numbered = ap (λ t. t.id.number) r.ticket ∙ is.numbered;
  tracked = r.task ∙ is.tracked ∙ sym (ap (λ t. t.id) r.ticket);
  placed = r.placed is.placed;
  on_nodes = r.on_nodes is.on_nodes;
}

pub changes_none : (live : LiveTasks) (n : ℕ) (e : Entry) → entry_at live n ≡ Some e → ChangesTask live live n e
changes_none live n e was = ((was, λ m other. refl), (λ p. refl), refl, refl)

pub same_tickets : (has : ℕ → ℕ → Type 0) → SameTickets has has
same_tickets has n p = ((λ h. h), (λ h. h))

pub keeps_others : (clear now : ℕ → Type 0) (n : ℕ) → Keeps clear now → KeepsOthers clear now n
keeps_others clear now n keeps m other h = keeps m h

module _ (node : ℕ) (has : ℕ → ℕ → Type 0) (drawn : Option ℕ) (clear : ℕ → Type 0) (live : LiveTasks) (all : Together node has drawn clear live) where
  pub entry_is : (n : ℕ) (e : Entry) → entry_at live n ≡ Some e → IsEntry live.node n e
  entry_is n e was = subst (λ o. IfSome o (IsEntry live.node n)) was (all.tasks.entries n)

  pub ticket_of : (n : ℕ) (e : Entry) → entry_at live n ≡ Some e → HasTicket has e.running.ticket
  ticket_of n e was = has_ticket has clear (entry_at live) n all.seated e was (entry_is n e was).numbered

  pub passed_of : (n : ℕ) (e : Entry) → entry_at live n ≡ Some e → HasPassed clear n e
  passed_of n e was = subst (λ o. IfSome o (HasPassed clear n)) was (all.seated.passed n)

  module _ (node' : ℕ) (has' : ℕ → ℕ → Type 0) (drawn' : Option ℕ) (clear' : ℕ → Type 0) (live' : LiveTasks) (same_node : node' ≡ node) (core : SameCore live live') where
    -- one live task changes
    pub together_changed : (n : ℕ) (e f : Entry) → entry_at live n ≡ Some e → ChangesTask live live' n f → Remains e f → SameTickets has has' → drawn' ≡ drawn → KeepsOthers clear clear' n → HasPassed clear' n f → Together node' has' drawn' clear' live'
    together_changed n e f was change remains tickets same_drawn keeps passed = record {
      of_node = core.0 ∙ all.of_node ∙ sym same_node;
      in_range = subst IsNode (sym core.0) all.in_range;
      number = same_drawn ∙ all.number ∙ sym change.3;
      numbered = subst (λ o. IfSome o IsNumber) (sym change.3) all.numbered;
      tasks = subst (λ m. AreTasks m (entry_at live') (number_at live')) (sym core.0)
          (tasks_changed live.node n (entry_at live) (entry_at live') (number_at live) (number_at live') all.tasks e f was change.0 change.1 remains.place (remains_entry live.node n e f remains (entry_is n e was)));
      seated = seated_changed has clear (entry_at live) n all.seated has' clear' (entry_at live') keeps e f was change.0 tickets remains.ticket passed;
    }

    -- the same tasks are live
    pub together_same : SameTasks live live' → SameTickets has has' → Keeps clear clear' → drawn' ≡ live'.drawn → IfSome live'.drawn IsNumber → Together node' has' drawn' clear' live'
    together_same same tickets keeps number numbered = record {
      of_node = core.0 ∙ all.of_node ∙ sym same_node;
      in_range = subst IsNode (sym core.0) all.in_range;
      number = number;
      numbered = numbered;
      tasks = record {
        entries = λ n. subst (λ m. IfSome (entry_at live' n) (IsEntry m n)) (sym core.0) (subst (λ o. IfSome o (IsEntry live.node n)) (sym (same.0 n)) (all.tasks.entries n));
        places = λ p n. subst (λ o. (o ≡ Some n) ↔ HasPlace p (entry_at live' n)) (sym (same.1 p)) (subst (λ o. (number_at live p ≡ Some n) ↔ HasPlace p o) (sym (same.0 n)) (all.tasks.places p n));
      };
      seated = record {
        tickets = λ n p. both (tickets n p) (subst (λ o. has n p ↔ HasParent p o) (sym (same.0 n)) (all.seated.tickets n p));
        passed = λ n. subst (λ o. IfSome o (HasPassed clear' n)) (sym (same.0 n)) (passed_still n (entry_at live n) (all.seated.passed n));
      };
    }
      where
        passed_still : (n : ℕ) (o : Option Entry) → IfSome o (HasPassed clear n) → IfSome o (HasPassed clear' n)
        passed_still n None h = tt
        passed_still n (Some e) h = λ old. keeps n (h old)

    -- one task comes, with the number that was drawn
    pub together_more : (n key : ℕ) (e : Entry) → ChangesAt (entry_at live) (entry_at live') n (Some e) → ChangesAt (number_at live) (number_at live') e.place (Some n) → number_at live e.place ≡ None
        → OneMore has has' n key → KeepsOthers clear clear' n → parent_key (token_parent e.running.ticket.token) ≡ key → HasPassed clear' n e → IsEntry live.node n e
        → drawn' ≡ None → live'.drawn ≡ None → Together node' has' drawn' clear' live'
    together_more n key e change put free more keeps is passed entry none used = record {
      of_node = core.0 ∙ all.of_node ∙ sym same_node;
      in_range = subst IsNode (sym core.0) all.in_range;
      number = none ∙ sym used;
      numbered = subst (λ o. IfSome o IsNumber) (sym used) tt;
      tasks = subst (λ m. AreTasks m (entry_at live') (number_at live')) (sym core.0)
          (tasks_more live.node n (entry_at live) (entry_at live') (number_at live) (number_at live') all.tasks e (fresh_number has clear (entry_at live) n all.seated more.0) free change put entry);
      seated = seated_more has clear (entry_at live) n all.seated has' clear' (entry_at live') keeps e key change more is passed;
    }

    -- one task goes
    pub together_less : (n : ℕ) (e : Entry) → entry_at live n ≡ Some e → ChangesAt (entry_at live) (entry_at live') n None → ChangesAt (number_at live) (number_at live') e.place None
        → OneLess has has' n → KeepsOthers clear clear' n → drawn' ≡ drawn → live'.drawn ≡ live.drawn → Together node' has' drawn' clear' live'
    together_less n e was change left less keeps same_drawn kept = record {
      of_node = core.0 ∙ all.of_node ∙ sym same_node;
      in_range = subst IsNode (sym core.0) all.in_range;
      number = same_drawn ∙ all.number ∙ sym kept;
      numbered = subst (λ o. IfSome o IsNumber) (sym kept) all.numbered;
      tasks = subst (λ m. AreTasks m (entry_at live') (number_at live')) (sym core.0)
          (tasks_less live.node n (entry_at live) (entry_at live') (number_at live) (number_at live') all.tasks e was change left);
      seated = seated_less has clear (entry_at live) n all.seated has' clear' (entry_at live') keeps change less;
    }

    -- one was claimed, and has ended unkept
    pub together_back : (mid : ℕ → ℕ → Type 0) (between : ℕ → Type 0) (n key : ℕ) → SameTasks live live' → OneMore has mid n key → OneLess mid has' n → KeepsOthers clear between n → KeepsOthers between clear' n
        → drawn' ≡ None → live'.drawn ≡ None → Together node' has' drawn' clear' live'
    together_back mid between n key same more less kept keeps none used = record {
      of_node = core.0 ∙ all.of_node ∙ sym same_node;
      in_range = subst IsNode (sym core.0) all.in_range;
      number = none ∙ sym used;
      numbered = subst (λ o. IfSome o IsNumber) (sym used) tt;
      tasks = record {
        entries = λ m. subst (λ k. IfSome (entry_at live' m) (IsEntry k m)) (sym core.0) (subst (λ o. IfSome o (IsEntry live.node m)) (sym (same.0 m)) (all.tasks.entries m));
        places = λ p m. subst (λ o. (o ≡ Some m) ↔ HasPlace p (entry_at live' m)) (sym (same.1 p)) (subst (λ o. (number_at live p ≡ Some m) ↔ HasPlace p o) (sym (same.0 m)) (all.tasks.places p m));
      };
      seated = seated_less has clear (entry_at live) n all.seated has' clear' (entry_at live') (λ m other h. keeps m other (kept m other h)) (gone, λ m other. same.0 m) dropped;
    }
      where
        gone : entry_at live' n ≡ None
        gone = same.0 n ∙ fresh_number has clear (entry_at live) n all.seated more.0

        older : (m q : ℕ) → m ≢ n → has m q ⊎ ((m ≡ n) × (q ≡ key)) → has m q
        older m q other (inl h) = h
        older m q other (inr s) = absurd (other s.0)

        dropped : OneLess has has' n
        dropped = (
          less.0,
          λ m q. (
            (λ h. let r = (less.1 m q).0 h in (r.0, older m q r.0 ((more.2 m q).0 r.1))),
            (λ h. (less.1 m q).1 (h.0, (more.2 m q).1 (inl h.1))),
          ),
        )

-- a core with no task belongs to each fresh seat of its node
pub together_new : (node : ℕ) (has : ℕ → ℕ → Type 0) (drawn : Option ℕ) (clear : ℕ → Type 0) (live : LiveTasks) → IsNewCore node live → IsFresh has drawn → Together node has drawn clear live
together_new node has drawn clear live new fresh = record {
  of_node = new.of_node;
  in_range = subst IsNode (sym new.of_node) new.in_range;
  number = fresh.1 ∙ sym new.drawn;
  numbered = subst (λ o. IfSome o IsNumber) (sym new.drawn) tt;
  tasks = record {
    entries = λ n. subst (λ o. IfSome o (IsEntry live.node n)) (sym (new.tasks n)) tt;
    places = λ p n. ((λ e. absurd (nothing n (sym (new.places p) ∙ e))), (λ h. absurd (subst (HasPlace p) (new.tasks n) h)));
  };
  seated = record {
    tickets = λ n p. ((λ h. absurd (fresh.0 n p h)), (λ h. absurd (subst (HasParent p) (new.tasks n) h)));
    passed = λ n. subst (λ o. IfSome o (HasPassed clear n)) (sym (new.tasks n)) tt;
  };
}
  where
    nothing : (n : ℕ) → ◌≡◌ {A = Option ℕ} None (Some n) → ⊥
    nothing n e = cc

-- a change that keeps the ticket of one live task
pub stays_changed : (live live' : LiveTasks) (n : ℕ) (e f : Entry) → AreTasks live.node (entry_at live) (number_at live) → SameCore live live' → entry_at live n ≡ Some e → ChangesTask live live' n f → Remains e f → f.running.is_new ≡ e.running.is_new → StaysTogether live live'
stays_changed live live' n e f tasks core was change remains new = record {
  of_node = core.0;
  drawn = change.3;
  tasks = subst (λ m. AreTasks m (entry_at live') (number_at live')) (sym core.0)
      (tasks_changed live.node n (entry_at live) (entry_at live') (number_at live) (number_at live') tasks e f was change.0 change.1 remains.place
      (remains_entry live.node n e f remains (subst (λ o. IfSome o (IsEntry live.node n)) was (tasks.entries n))));
  rights = by_number (λ m o. KeepsRight (entry_at live m) o) (entry_at live) (entry_at live') n (Some f) change.0 (subst (λ o. KeepsRight o (Some f)) (sym was) (remains.ticket, new)) (λ m other. itself (entry_at live m));
}
  where
    itself : (o : Option Entry) → KeepsRight o o
    itself None = tt
    itself (Some x) = (refl, refl)

-- whichever seat it was
pub together_stays : (node : ℕ) (has : ℕ → ℕ → Type 0) (drawn : Option ℕ) (clear : ℕ → Type 0) (live live' : LiveTasks) → Together node has drawn clear live → StaysTogether live live' → Together node has drawn clear live'
together_stays node has drawn clear live live' all stays = record {
  of_node = stays.of_node ∙ all.of_node;
  in_range = subst IsNode (sym stays.of_node) all.in_range;
  number = all.number ∙ sym stays.drawn;
  numbered = subst (λ o. IfSome o IsNumber) (sym stays.drawn) all.numbered;
  tasks = stays.tasks;
  seated = record {
    tickets = λ n p. both (all.seated.tickets n p) (same_parent p (entry_at live n) (entry_at live' n) (stays.rights n));
    passed = λ n. same_passed n (entry_at live n) (entry_at live' n) (stays.rights n) (all.seated.passed n);
  };
}
  where
    same_parent : (p : ℕ) (o q : Option Entry) → KeepsRight o q → HasParent p o ↔ HasParent p q
    same_parent p None None k = ((λ h. h), (λ h. h))
    same_parent p None (Some f) k = absurd k
    same_parent p (Some e) None k = absurd k
    same_parent p (Some e) (Some f) k = ((λ h. ap (λ t. parent_key (token_parent t.token)) k.0 ∙ h), (λ h. sym (ap (λ t. parent_key (token_parent t.token)) k.0) ∙ h))

    same_passed : (n : ℕ) (o q : Option Entry) → KeepsRight o q → IfSome o (HasPassed clear n) → IfSome q (HasPassed clear n)
    same_passed n None None k h = tt
    same_passed n None (Some f) k h = absurd k
    same_passed n (Some e) None k h = absurd k
    same_passed n (Some e) (Some f) k h = λ old. h (sym k.1 ∙ old)

-- what holds of no missing task holds of a live one
pub some_entry : (P : Option Entry → Type 0) (o : Option Entry) → (P None → ⊥) → P o → (e : Entry) × (o ≡ Some e)
some_entry P None missing p = absurd (missing p)
some_entry P (Some e) missing p = (e, refl)

-- a change in the table of tasks alone
pub of_one : (live live' : LiveTasks) (n : ℕ) (f : Entry) → live'.places ≡ live.places → live'.drawn ≡ live.drawn → ChangesOne live.tasks live'.tasks n f → ChangesTask live live' n f
of_one live live' n f places drawn one = (one.0, (λ p i. get place_cmp (places i) p), one.1, drawn)

pub one_entry : (e f : Entry) → ◌≡◌ {A = Option Entry} (Some e) (Some f) → e ≡ f
one_entry e f s = cc
