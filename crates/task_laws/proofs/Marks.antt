-- Where marks and refusals come from, and how many tasks are live on a node.
use Rattle.std.proofs.Common.{◌≡◌, ◌⊎◌, ◌≤◌, ℕ, Bool, true, false, cond, ◌||◌, List, [], ◌∷◌, Option, Some, None, refl, arith}
use Rattle.std.specs.Prelude.{option_and_then, option_map}
use Rattle.std.proofs.Common.{inl, inr}
use Rattle.task_ids.specs.declared.task_id.TaskId.{TaskId}
use Rattle.task_ids.specs.declared.cluster.Cluster.{Cluster}
use Rattle.task_events.specs.declared.reply.Reply.{Reply}
use Rattle.task_events.specs.declared.reply.Reply.TheVariants.{Cancelled}
use Rattle.task_events.specs.declared.event.Event.{Event}
use Rattle.task_events.specs.declared.event.Event.TheVariants.{Root, Put, Refuse, Cancel, Mark, End}
use Rattle.task_events.specs.Same.{same_task}
use Rattle.task_events.specs.Tasks.{no_counts, is_live, has_ended, refusal_of, reply_of, parent_of, ancestors, last_number, live_on}
use Rattle.task_events.specs.Bans.{mark_of, standing_ban, listing_is_open, ban_over, open_ban_over}
use Rattle.task_events.specs.Cancels.{is_named, names_one_of}
use Rattle.task_events.specs.Laws.{IsUnderBan, IsUnderListing}
use Rattle.task_events.specs.Allowed.{Allowed, EndAllowed, cancellation_in, is_number, is_rejection}
use Rattle.task_events.specs.Lawful.{Lawful}
use Rattle.task_laws.proofs.Same.{same_tests}
use Rattle.task_laws.proofs.Asks.{AskFacts, ask_facts}
use Rattle.task_laws.proofs.Bans.{BanFacts, ban_facts}
use Rattle.task_laws.proofs.Tree.{TreeFacts, tree_facts}

-- the ban that stands over a task is one of its parent
under_ban : (t : TaskId) (c : ℕ) (h : List Event) (o : Option TaskId) → parent_of t h ≡ o → option_and_then (λ p. standing_ban t.node p h) o ≡ Some c → IsUnderBan t c h
under_ban t c h None e b = absurd (cc)
under_ban t c h (Some p) e b = (p, e, b)

pub refused_under : (t : TaskId) (c : ℕ) (h : List Event) → ban_over t h ≡ Some c → IsUnderBan t c h
refused_under t c h b = under_ban t c h (parent_of t h) refl b

-- the same of a ban whose listing is open
opened : (t p : TaskId) (c : ℕ) (h : List Event) → parent_of t h ≡ Some p → (b : Bool) → listing_is_open t.node p h ≡ b → (o : Option ℕ) → standing_ban t.node p h ≡ o → is_number c (cond b o None) ≡ true → IsUnderListing t c h
opened t p c h e false i o s n = absurd (cc)
opened t p c h e true i None s n = absurd (cc)
opened t p c h e true i (Some d) s n =
    let same : c ≡ d = grind (arith, same_tests) in
    (p, e, rw same s, i)

under_listing : (t : TaskId) (c : ℕ) (h : List Event) (o : Option TaskId) → parent_of t h ≡ o → is_number c (option_and_then (λ p. cond (listing_is_open t.node p h) (standing_ban t.node p h) None) o) ≡ true → IsUnderListing t c h
under_listing t c h None e b = absurd (cc)
under_listing t c h (Some p) e b = opened t p c h e (listing_is_open t.node p h) refl (standing_ban t.node p h) refl b

either : (a b : Bool) → (a || b) ≡ true → (a ≡ true) ⊎ (b ≡ true)
either a b e = grind arith

either_cause : (t : TaskId) (c : ℕ) (h : List Event) → (is_named c t h ≡ true) ⊎ (is_number c (open_ban_over t h) ≡ true) → (is_named c t h ≡ true) ⊎ IsUnderListing t c h
either_cause t c h = elim [ inl n ↦ inl n | inr b ↦ inr (under_listing t c h (parent_of t h) refl b) ]

pub marked_by : (t : TaskId) (c : ℕ) (h : List Event) → (is_named c t h || is_number c (open_ban_over t h)) ≡ true → (is_named c t h ≡ true) ⊎ IsUnderListing t c h
marked_by t c h e = either_cause t c h (either _ _ e)

pub record CauseFacts (slots : ℕ) (h : List Event) : Type 0 where
  pub mark_born : (t : TaskId) (c : ℕ) → mark_of t h ≡ Some c → t.number ≤ last_number t.node h
  pub mark : (t : TaskId) (c : ℕ) → mark_of t h ≡ Some c → names_one_of c (t ∷ ancestors t h) h ≡ true
  pub refusal_ended : (t : TaskId) (c : ℕ) → refusal_of t h ≡ Some c → has_ended t h ≡ true
  pub refusal : (t : TaskId) (c : ℕ) → refusal_of t h ≡ Some c → names_one_of c (ancestors t h) h ≡ true
  pub refused_reply : (t : TaskId) (c : ℕ) → refusal_of t h ≡ Some c → reply_of t h ≡ Some (Cancelled t c no_counts)
  pub reply_ended : (t : TaskId) (r : Reply) → reply_of t h ≡ Some r → has_ended t h ≡ true
  pub ended_reply : (t : TaskId) (r : Reply) → reply_of t h ≡ Some r → refusal_of t h ≡ None → cancellation_in r ≡ option_map (λ c. (t, c)) (mark_of t h)
  pub no_rejection : (t : TaskId) (r : Reply) → reply_of t h ≡ Some r → is_rejection r ≡ false
  -- a marked task is live or has ended
  pub marked_lives : (t : TaskId) (c : ℕ) → mark_of t h ≡ Some c → is_live t h ≡ false → has_ended t h ≡ true
  pub room : (n : ℕ) → live_on n h ≤ slots

-- a cancellation that names one more task named what it named before
more_named : (d : ℕ) (u : TaskId) (w : Bool) (c : ℕ) (h : List Event) (ts : List TaskId) → names_one_of c ts h ≡ true → names_one_of c ts (Cancel d u w ∷ h) ≡ true
more_named d u w c h [] e = e
more_named d u w c h (t ∷ ts) e = let rest = more_named d u w c h ts in grind (arith, rest)

-- what is under a ban with the number c has an ancestor that c named
under_named : (slots : ℕ) (t p : TaskId) (c : ℕ) (h : List Event) → BanFacts h → TreeFacts h → CauseFacts slots h → parent_of t h ≡ Some p → standing_ban t.node p h ≡ Some c → names_one_of c (ancestors t h) h ≡ true
under_named slots t p c h b g k e s =
    let named = k.mark p c (b.reason t.node p c s) in
    let above = rw e at (g.above t) in
    rw above named

module _ (cluster : Cluster) where
  keep_mark_born : (e : Event) (h : List Event) → Allowed cluster e h → AskFacts h → CauseFacts cluster.slots h → (t : TaskId) (c : ℕ) → mark_of t (e ∷ h) ≡ Some c → t.number ≤ last_number t.node (e ∷ h)
  keep_mark_born (Root d u) h a f k t c e = grind (arith, same_tests, k.mark_born t c)
  keep_mark_born (Put u q j) h a f k t c e = grind (arith, same_tests, k.mark_born t c)
  keep_mark_born (Mark u d) h a f k t c e = let l = f.born u a.live in grind (arith, same_tests, k.mark_born t c)
  keep_mark_born _ h a f k t c e = k.mark_born t c e

  keep_refusal_ended : (e : Event) (h : List Event) → Allowed cluster e h → CauseFacts cluster.slots h → (t : TaskId) (c : ℕ) → refusal_of t (e ∷ h) ≡ Some c → has_ended t (e ∷ h) ≡ true
  keep_refusal_ended (Refuse u d) h a k t c e = grind (arith, same_tests, k.refusal_ended t c)
  keep_refusal_ended (End u r) h a k t c e = grind (arith, same_tests, k.refusal_ended t c)
  keep_refusal_ended _ h a k t c e = k.refusal_ended t c e

  keep_refused_reply : (e : Event) (h : List Event) → Allowed cluster e h → CauseFacts cluster.slots h → AskFacts h → (t : TaskId) (c : ℕ) → refusal_of t (e ∷ h) ≡ Some c → reply_of t (e ∷ h) ≡ Some (Cancelled t c no_counts)
  keep_refused_reply (Refuse u d) h a k f t c e = grind (arith, same_tests, k.refused_reply t c)
  keep_refused_reply (End u r) h a k f t c e = grind (arith, same_tests, k.refused_reply t c, k.refusal_ended t c, f.live_or_ended u)
  keep_refused_reply _ h a k f t c e = k.refused_reply t c e

  keep_reply_ended : (e : Event) (h : List Event) → Allowed cluster e h → CauseFacts cluster.slots h → (t : TaskId) (r : Reply) → reply_of t (e ∷ h) ≡ Some r → has_ended t (e ∷ h) ≡ true
  keep_reply_ended (Refuse u d) h a k t r e = grind (arith, same_tests, k.reply_ended t r)
  keep_reply_ended (End u s) h a k t r e = grind (arith, same_tests, k.reply_ended t r)
  keep_reply_ended _ h a k t r e = k.reply_ended t r e

  -- the reply of the task that ends now, and the replies of the others
  end_reply : (u : TaskId) (s : Reply) (h : List Event) → EndAllowed u s h → CauseFacts cluster.slots h → (t : TaskId) (r : Reply) (b : Bool) → same_task t u ≡ b → cond b (Some s) (reply_of t h) ≡ Some r → refusal_of t h ≡ None → cancellation_in r ≡ option_map (λ c. (t, c)) (mark_of t h)
  end_reply u s h a k t r true b e i = let same : t ≡ u = grind (arith, same_tests) in let is : r ≡ s = cc in rw (same, is) a.cancelled
  end_reply u s h a k t r false b e i = k.ended_reply t r e i

  keep_ended_reply : (e : Event) (h : List Event) → Allowed cluster e h → CauseFacts cluster.slots h → AskFacts h → (t : TaskId) (r : Reply) → reply_of t (e ∷ h) ≡ Some r → refusal_of t (e ∷ h) ≡ None → cancellation_in r ≡ option_map (λ c. (t, c)) (mark_of t (e ∷ h))
  keep_ended_reply (Refuse u d) h a k f t r e i = k.ended_reply t r (grind (arith, same_tests)) (grind (arith, same_tests))
  keep_ended_reply (End u s) h a k f t r e i = end_reply u s h a k t r (same_task t u) refl e i
  keep_ended_reply (Mark u d) h a k f t r e i = let other : same_task t u ≡ false = grind (arith, same_tests, k.reply_ended t r, f.live_or_ended u) in rw other (k.ended_reply t r e i)
  keep_ended_reply _ h a k f t r e i = k.ended_reply t r e i

  keep_no_rejection : (e : Event) (h : List Event) → Allowed cluster e h → CauseFacts cluster.slots h → (t : TaskId) (r : Reply) → reply_of t (e ∷ h) ≡ Some r → is_rejection r ≡ false
  keep_no_rejection (Refuse u d) h a k t r e = grind (arith, same_tests, k.no_rejection t r)
  keep_no_rejection (End u s) h a k t r e = grind (arith, same_tests, k.no_rejection t r)
  keep_no_rejection _ h a k t r e = k.no_rejection t r e

  keep_marked_lives : (e : Event) (h : List Event) → Allowed cluster e h → CauseFacts cluster.slots h → (t : TaskId) (c : ℕ) → mark_of t (e ∷ h) ≡ Some c → is_live t (e ∷ h) ≡ false → has_ended t (e ∷ h) ≡ true
  keep_marked_lives (Root d u) h a k t c e i = grind (arith, same_tests, k.marked_lives t c)
  keep_marked_lives (Put u q j) h a k t c e i = grind (arith, same_tests, k.marked_lives t c)
  keep_marked_lives (Refuse u d) h a k t c e i = grind (arith, same_tests, k.marked_lives t c)
  keep_marked_lives (End u r) h a k t c e i = grind (arith, same_tests, k.marked_lives t c)
  keep_marked_lives (Mark u d) h a k t c e i = grind (arith, same_tests, k.marked_lives t c)
  keep_marked_lives _ h a k t c e i = k.marked_lives t c e i

  keep_room : (e : Event) (h : List Event) → Allowed cluster e h → CauseFacts cluster.slots h → (n : ℕ) → live_on n (e ∷ h) ≤ cluster.slots
  keep_room (Root d u) h a k n = grind (arith, same_tests, k.room n)
  keep_room (Put u q j) h a k n = grind (arith, same_tests, k.room n)
  keep_room (Refuse u d) h a k n = grind (arith, same_tests, k.room n)
  keep_room (End u r) h a k n = grind (arith, same_tests, k.room n)
  keep_room _ h a k n = k.room n

  -- the mark that comes now
  new_mark : (t : TaskId) (c : ℕ) (h : List Event) → BanFacts h → TreeFacts h → CauseFacts cluster.slots h → (is_named c t h ≡ true) ⊎ IsUnderListing t c h → names_one_of c (t ∷ ancestors t h) h ≡ true
  new_mark t c h b g k = elim [
    | inl n ↦ rw n
    | inr u ↦ let above = under_named cluster.slots t u.0 c h b g k u.1 u.2 in grind arith
  ]

  keep_mark : (e : Event) (h : List Event) → Allowed cluster e h → AskFacts h → BanFacts h → TreeFacts h → CauseFacts cluster.slots h → (t : TaskId) (c : ℕ) → mark_of t (e ∷ h) ≡ Some c → names_one_of c (t ∷ ancestors t (e ∷ h)) (e ∷ h) ≡ true
  keep_mark (Mark u d) h a f b g k t c e = let n = new_mark u d h b g k (marked_by u d h a.cause) in grind (arith, same_tests, k.mark t c)
  keep_mark (Put u q j) h a f b g k t c e = let l = k.mark_born t c e in grind (arith, same_tests, k.mark t c)
  keep_mark (Cancel d u w) h a f b g k t c e = more_named d u w c h (t ∷ ancestors t h) (k.mark t c e)
  keep_mark _ h a f b g k t c e = k.mark t c e

  keep_refusal : (e : Event) (h : List Event) → Allowed cluster e h → AskFacts h → BanFacts h → TreeFacts h → CauseFacts cluster.slots h → (t : TaskId) (c : ℕ) → refusal_of t (e ∷ h) ≡ Some c → names_one_of c (ancestors t (e ∷ h)) (e ∷ h) ≡ true
  keep_refusal (Refuse u d) h a f b g k t c e =
      let under = refused_under u d h a.ban in
      let n = under_named cluster.slots u under.0 d h b g k under.1 under.2 in
      grind (arith, same_tests, k.refusal t c)
  keep_refusal (Put u q j) h a f b g k t c e = let l = k.refusal_ended t c e in grind (arith, same_tests, k.refusal t c, f.unborn_ended t)
  keep_refusal (Cancel d u w) h a f b g k t c e = more_named d u w c h (ancestors t h) (k.refusal t c e)
  keep_refusal _ h a f b g k t c e = k.refusal t c e

  pub cause_facts : (h : List Event) → Lawful cluster h → CauseFacts cluster.slots h
  cause_facts [] l = record {
    mark_born = λ t c e. absurd (cc);
    mark = λ t c e. cc;
    refusal_ended = λ t c e. cc;
    refusal = λ t c e. cc;
    refused_reply = λ t c e. absurd (cc);
    reply_ended = λ t r e. cc;
    ended_reply = λ t r e i. absurd (cc);
    no_rejection = λ t r e. absurd (cc);
    marked_lives = λ t c e i. cc;
    room = λ n. omega arith;
  }
  cause_facts (e ∷ h) l =
      let f = ask_facts cluster h l.1 in
      let b = ban_facts cluster h l.1 in
      let g = tree_facts cluster h l.1 in
      let k = cause_facts h l.1 in
      record {
        mark_born = keep_mark_born e h l.0 f k;
        mark = keep_mark e h l.0 f b g k;
        refusal_ended = keep_refusal_ended e h l.0 k;
        refusal = keep_refusal e h l.0 f b g k;
        refused_reply = keep_refused_reply e h l.0 k f;
        reply_ended = keep_reply_ended e h l.0 k;
        ended_reply = keep_ended_reply e h l.0 k f;
        no_rejection = keep_no_rejection e h l.0 k;
        marked_lives = keep_marked_lives e h l.0 k;
        room = keep_room e h l.0 k;
      }
