-- What a ban and an unban did.
use Rattle.std.proofs.Common.{◌≡◌, ℕ, Bool, true, false, not, ◌||◌, List, [], ◌∷◌, ◌++◌, filter, Some, None, Result, Ok, Err, OnOk, refl, sym, ap, ◌∙◌, subst, append-nil, ◌<◌, length, get_or, drop, arith, All, eq-eqb, ◌==◌}
use Rattle.std.specs.FinMap.{insert, remove}
use Rattle.std.proofs.lemmas.List.Elements.{All-push}
use Rattle.task_ids.specs.declared.task_id.TaskId.{TaskId}
use Rattle.task_table.specs.declared.answers.NoRoom.{NoRoom}
use Rattle.cancel_core.specs.Listings.{has_listing}
use Rattle.node_boards.specs.Calls.{ControlCall}
use Rattle.node_boards.specs.Calls as call
use Rattle.control_worker.specs.declared.act.ControlAct.{ControlAct}
use Rattle.control_worker.specs.declared.control_core.Ban.{Ban}
use Rattle.control_worker.specs.View.{View, is_to, has_ban, is_banned, is_kept_back, is_of}
use Rattle.control_worker.specs.Steps.{Step, Nothing, Then, Where, Moment, Makes}
use Rattle.control_worker.specs.Bans.{Places, IsFull, PlacesOrNot, Lists, Put, PutsOrNot, PutsOrKeeps, KeepsBack, TakesBan, Keeps, Tries, TriesOldest, TriesKept, Lifts, TakesUnban}
use Rattle.control_worker.specs.Together.{MayPut}
use Rattle.control_worker.proofs.Making.{moment, makes_nothing, makes_then, makes_first, makes_second, makes_only, makes_yes, makes_no, makes_asks}

or_parts : (a b : Bool) → (a || b) ≡ false → (a ≡ false) × (b ≡ false)
or_parts true b e = absurd (cc)
or_parts false b e = (refl, e)

-- neither has the board a ban of the parent, nor does a listing of its children wait
pub not_known : (p : TaskId) (v : View) → is_banned p v ≡ false → (has_ban v p ≡ false) × (has_listing v.cancels p ≡ false)
not_known p v e = or_parts (has_ban v p) (has_listing v.cancels p) e

-- the oldest that is kept back may be put
pub may_oldest : (allowed : ℕ → Type 0) (kept : List Ban) (ban : Ban) → All (MayPut allowed) kept → 0 < length kept → ban ≡ get_or kept 0 ban → MayPut allowed ban
may_oldest allowed kept ban all some is = subst (MayPut allowed) (sym is) (all 0 ban some)

pub is_same : (a b n : ℕ) → b ≡ n → a ≡ b → (a == n) ≡ true
is_same a b n node e = eq-eqb a n (e ∙ node)

pub none_first : (old : List Ban) → (0 < length old → ⊥) → old ≡ []
none_first [] none = refl
none_first (b ∷ bs) none = absurd (none (omega arith))

first_is : (old : List Ban) (ban : Ban) → 0 < length old → ban ≡ get_or old 0 ban → old ≡ ban ∷ drop 1 old
first_is [] ban some is = absurd (omega (arith, some))
first_is (b ∷ bs) ban some is = ap (λ x. x ∷ bs) (sym is)

-- one more is kept back
pub all_kept : (allowed : ℕ → Type 0) (v w : View) (ban : Ban) → All (MayPut allowed) v.kept → MayPut allowed ban → w.kept ≡ v.kept ++ ban ∷ [] → All (MayPut allowed) w.kept
all_kept allowed v w ban all may is = subst (All (MayPut allowed)) (sym is) (All-push (MayPut allowed) v.kept ban all may)

module _ {B : Type 0} (rests : B → B → ControlCall → Type 0) where
  pub makes_places : (b c : B) (v w : View) (given : List ControlAct) (ban : Ban) (place : ℕ) → rests b c (call.ban ban.parent ban.cancel (Ok place)) → w ≡ record v { bans = insert v.bans ban.parent ban.cancel }
      → Makes rests (PlacesOrNot ban (Some place)) (moment b v given) (moment c w given)
  unfolding Makes Places
  makes_places b c v w given ban place rest is = (call.ban ban.parent ban.cancel (Ok place) ∷ [], [], (c, rest, refl), (refl, refl, is), sym (append-nil given))

  pub makes_full : (b c : B) (v w : View) (given : List ControlAct) (ban : Ban) (full : NoRoom) → rests b c (call.ban ban.parent ban.cancel (Err full)) → w ≡ v
      → Makes rests (PlacesOrNot ban None) (moment b v given) (moment c w given)
  makes_full b c v w given ban full rest is =
      subst (λ (u : View). Makes rests (IsFull ban) (moment b v given) (moment c u given)) (sym is) (makes_asks rests b c v given (call.ban ban.parent ban.cancel (Err full)) rest)

  pub puts_second : (s : Moment B) (ban : Ban) → is_banned ban.parent s.core ≡ true → Makes rests (PutsOrNot ban true) s s
  puts_second s ban banned = makes_yes rests (is_banned ban.parent) Nothing (Put ban) s s banned (makes_nothing rests s)

  makes_put : (s m t : Moment B) (ban : Ban) (place : ℕ) → Makes rests (Places ban place) s m → Makes rests (Lists ban place) m t → Makes rests (Put ban) s t
  unfolding Makes Put
  makes_put s m t ban place placed listed =
      let (calls, acts, chain, made, given) = makes_then rests (Places ban place) (Lists ban place) s m t placed listed in
      (calls, acts, chain, (place, made), given)

  pub puts_first : (s m t : Moment B) (ban : Ban) (place : ℕ) → is_banned ban.parent s.core ≡ false → Makes rests (PlacesOrNot ban (Some place)) s m → Makes rests (Lists ban place) m t → Makes rests (PutsOrNot ban true) s t
  puts_first s m t ban place new placed listed = makes_no rests (is_banned ban.parent) Nothing (Put ban) s t new (makes_put s m t ban place placed listed)

  pub puts_none : (s t : Moment B) (ban : Ban) → is_banned ban.parent s.core ≡ false → Makes rests (PlacesOrNot ban None) s t → Makes rests (PutsOrNot ban false) s t
  puts_none s t ban new full = makes_only rests (λ v. not (is_banned ban.parent v)) (IsFull ban) s t (ap not new) full

  pub keeps_none : (s t : Moment B) (ban : Ban) → Makes rests (PutsOrNot ban true) s t → Makes rests (PutsOrKeeps ban) s t
  keeps_none s t ban put = makes_first rests (PutsOrNot ban true) (Then (PutsOrNot ban false) (KeepsBack ban)) s t put

  makes_back : (b : B) (v w : View) (given : List ControlAct) (ban : Ban) → w ≡ record v { kept = v.kept ++ ban ∷ [] } → Makes rests (KeepsBack ban) (moment b v given) (moment b w given)
  unfolding Makes KeepsBack
  makes_back b v w given ban is = ([], [], refl, (refl, refl, is), sym (append-nil given))

  pub keeps_one : (s : Moment B) (b : B) (v w : View) (given : List ControlAct) (ban : Ban) → Makes rests (PutsOrNot ban false) s (moment b v given) → w ≡ record v { kept = v.kept ++ ban ∷ [] }
      → Makes rests (PutsOrKeeps ban) s (moment b w given)
  keeps_one s b v w given ban full is =
      makes_second rests (PutsOrNot ban true) (Then (PutsOrNot ban false) (KeepsBack ban)) s (moment b w given)
      (makes_then rests (PutsOrNot ban false) (KeepsBack ban) s (moment b v given) (moment b w given) full (makes_back b v w given ban is))

  pub takes_here : (s t : Moment B) (ban : Ban) (to : ℕ) → is_to to s.core ≡ true → is_kept_back ban.parent s.core ≡ false → Makes rests (PutsOrKeeps ban) s t → Makes rests (TakesBan ban to) s t
  takes_here s t ban to here new put =
      makes_yes rests (is_to to) (Where (is_kept_back ban.parent) Nothing (PutsOrKeeps ban)) Nothing s t here
      (makes_no rests (is_kept_back ban.parent) Nothing (PutsOrKeeps ban) s t new put)

  pub takes_kept : (s : Moment B) (ban : Ban) (to : ℕ) → is_to to s.core ≡ true → is_kept_back ban.parent s.core ≡ true → Makes rests (TakesBan ban to) s s
  takes_kept s ban to here kept =
      makes_yes rests (is_to to) (Where (is_kept_back ban.parent) Nothing (PutsOrKeeps ban)) Nothing s s here
      (makes_yes rests (is_kept_back ban.parent) Nothing (PutsOrKeeps ban) s s kept (makes_nothing rests s))

  pub takes_other : (s : Moment B) (ban : Ban) (to : ℕ) → is_to to s.core ≡ false → Makes rests (TakesBan ban to) s s
  takes_other s ban to other = makes_no rests (is_to to) (Where (is_kept_back ban.parent) Nothing (PutsOrKeeps ban)) Nothing s s other (makes_nothing rests s)

  makes_keeps : (b : B) (v w : View) (given : List ControlAct) (kept : List Ban) → w ≡ record v { kept = kept } → Makes rests (Keeps kept) (moment b v given) (moment b w given)
  unfolding Makes Keeps
  makes_keeps b v w given kept is = ([], [], refl, (refl, refl, is), sym (append-nil given))

  -- the oldest was put, and what is left is tried
  pub tries_more : (s : Moment B) (b : B) (v w : View) (given : List ControlAct) (t : Moment B) (ban : Ban) (bans : List Ban) → Makes rests (PutsOrNot ban true) s (moment b v given) → w ≡ record v { kept = bans }
      → Makes rests (Tries bans) (moment b w given) t → Makes rests (Tries (ban ∷ bans)) s t
  tries_more s b v w given t ban bans put is later =
      let rest : Step = Then (Keeps bans) (Tries bans) in
      makes_second rests (PutsOrNot ban false) (Then (PutsOrNot ban true) rest) s t
      (makes_then rests (PutsOrNot ban true) rest s (moment b v given) t put
      (makes_then rests (Keeps bans) (Tries bans) (moment b v given) (moment b w given) t (makes_keeps b v w given bans is) later))

  -- there was no room for the oldest
  pub tries_full : (s t : Moment B) (ban : Ban) (bans : List Ban) → Makes rests (PutsOrNot ban false) s t → Makes rests (Tries (ban ∷ bans)) s t
  tries_full s t ban bans full = makes_first rests (PutsOrNot ban false) (Then (PutsOrNot ban true) (Then (Keeps bans) (Tries bans))) s t full

  pub tries_kept : (s t : Moment B) → Makes rests (Tries s.core.kept) s t → Makes rests TriesKept s t
  unfolding Makes TriesKept
  tries_kept s t tried = tried

  pub makes_lifts : (b c : B) (v w : View) (given : List ControlAct) (parent : TaskId) (had : Bool) → rests b c (call.unban parent had)
      → w ≡ record v { bans = remove v.bans parent; kept = filter (λ ban. not (is_of parent ban)) v.kept } → Makes rests (Lifts parent) (moment b v given) (moment c w given)
  unfolding Makes Lifts
  makes_lifts b c v w given parent had rest is = (call.unban parent had ∷ [], [], (c, rest, refl), (had, refl, refl, is), sym (append-nil given))

  pub unbans_here : (s m t : Moment B) (parent : TaskId) (to : ℕ) → is_to to s.core ≡ true → Makes rests (Lifts parent) s m → Makes rests TriesKept m t → Makes rests (TakesUnban parent to) s t
  unbans_here s m t parent to here lifted tried = makes_yes rests (is_to to) (Then (Lifts parent) TriesKept) Nothing s t here (makes_then rests (Lifts parent) TriesKept s m t lifted tried)

  pub unbans_on : {E : Type 0} (s m t : Moment B) (parent : TaskId) (to : ℕ) (r : Result (Unit {0}) E) → is_to to s.core ≡ true → Makes rests (Lifts parent) s m → OnOk r (Makes rests TriesKept m t) → OnOk r (Makes rests (TakesUnban parent to) s t)
  unbans_on s m t parent to (Ok done) here lifted tried = unbans_here s m t parent to here lifted tried
  unbans_on s m t parent to (Err e) here lifted tried = tried

  pub unbans_other : (s : Moment B) (parent : TaskId) (to : ℕ) → is_to to s.core ≡ false → Makes rests (TakesUnban parent to) s s
  unbans_other s parent to other = makes_no rests (is_to to) (Then (Lifts parent) TriesKept) Nothing s s other (makes_nothing rests s)

  pub oldest_none : (s : Moment B) (old : List Ban) → old ≡ [] → TriesOldest rests old old s s false
  unfolding TriesOldest
  oldest_none s old none = subst (λ (l : List Ban). Makes rests (Tries l) s s) (sym none) (makes_nothing rests s)

  pub oldest_full : (s t : Moment B) (ban : Ban) (old new : List Ban) → 0 < length old → ban ≡ get_or old 0 ban → Makes rests (PutsOrNot ban false) s t → TriesOldest rests old new s t false
  unfolding TriesOldest
  oldest_full s t ban old new some is full = subst (λ (l : List Ban). Makes rests (Tries l) s t) (sym (first_is old ban some is)) (tries_full s t ban (drop 1 old) full)

  pub oldest_put : (s : Moment B) (b : B) (v w : View) (given : List ControlAct) (ban : Ban) (old new : List Ban) → 0 < length old → ban ≡ get_or old 0 ban → new ≡ drop 1 old → Makes rests (PutsOrNot ban true) s (moment b v given)
      → w ≡ record v { kept = new } → TriesOldest rests old new s (moment b w given) true
  unfolding TriesOldest
  oldest_put s b v w given ban old new some is left put now = λ t later.
      subst (λ (l : List Ban). Makes rests (Tries l) s t) (sym (first_is old ban some is ∙ ap (λ l. ban ∷ l) (sym left))) (tries_more s b v w given t ban new put now later)

  pub tries_on : (start s m t : Moment B) (all old new : List Ban) → ((u : Moment B) → Makes rests (Tries old) s u → Makes rests (Tries all) start u) → TriesOldest rests old new s m true → Makes rests (Tries new) m t → Makes rests (Tries all) start t
  unfolding TriesOldest
  tries_on start s m t all old new left put later = left t (put t later)

  pub tries_end : (start s m : Moment B) (all old new : List Ban) → ((u : Moment B) → Makes rests (Tries old) s u → Makes rests (Tries all) start u) → TriesOldest rests old new s m false → Makes rests (Tries all) start m
  unfolding TriesOldest
  tries_end start s m all old new left done = left m done
