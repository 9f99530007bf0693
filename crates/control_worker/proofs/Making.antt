-- How steps are made: none, one after another, one of two, and one for each.
use Rattle.std.proofs.Common.{◌≡◌, Bool, true, false, List, [], ◌∷◌, ◌++◌, refl, sym, ap, ◌∙◌, subst, inl, inr, append_assoc, append-nil, MatchBool, Result, Ok, Err, OnOk}
use Rattle.node_boards.specs.Calls.{ControlCall}
use Rattle.control_worker.specs.declared.act.ControlAct.{ControlAct}
use Rattle.control_worker.specs.View.{View}
use Rattle.node_link.specs.declared.body.Body.{Body}
use Rattle.control_worker.specs.Turn.{Takes, Turned}
use Rattle.control_worker.specs.Steps.{Step, Nothing, Then, Either, Only, Where, Asks, Gives, Moment, Chain, Makes, Quietly}

pub on_ok : {A E P Q : Type 0} (r : Result A E) → (P → Q) → OnOk r P → OnOk r Q
on_ok (Ok a) then holds = then holds
on_ok (Err e) then holds = holds

abbrev pub moment : {B : Type 0} → B → View → List ControlAct → Moment B
moment b v given = record { board = b; core = v; given = given }

-- without a call of the board
pub quiet_nothing : (v : View) (given : List ControlAct) → Quietly Nothing v given v given
unfolding Quietly Nothing
quiet_nothing v given = ([], (refl, refl, refl), sym (append-nil given))

pub quiet_yes : (test : View → Bool) (S T : Step) (v w : View) (old new : List ControlAct) → test v ≡ true → Quietly S v old w new → Quietly (Where test S T) v old w new
unfolding Quietly Where
quiet_yes test S T v w old new e (acts, made, is) = (acts, subst (λ b. MatchBool b (S v [] acts w) (T v [] acts w)) (sym e) made, is)

pub quiet_no : (test : View → Bool) (S T : Step) (v w : View) (old new : List ControlAct) → test v ≡ false → Quietly T v old w new → Quietly (Where test S T) v old w new
unfolding Quietly Where
quiet_no test S T v w old new e (acts, made, is) = (acts, subst (λ b. MatchBool b (S v [] acts w) (T v [] acts w)) (sym e) made, is)

module _ {B : Type 0} (rests : B → B → ControlCall → Type 0) where
  -- the calls of two chains
  chain_on : (a b c : B) (xs ys : List ControlCall) → Chain rests a xs b → Chain rests b ys c → Chain rests a (xs ++ ys) c
  chain_on a b c [] ys e more = subst (λ k. Chain rests k ys c) (sym e) more
  chain_on a b c (x ∷ xs) ys first more = (first.0, first.1, chain_on first.0 b c xs ys first.2 more)

  pub makes_nothing : (s : Moment B) → Makes rests Nothing s s
  unfolding Makes Nothing
  makes_nothing s = ([], [], refl, (refl, refl, refl), sym (append-nil s.given))

  pub makes_then : (S T : Step) (s m t : Moment B) → Makes rests S s m → Makes rests T m t → Makes rests (Then S T) s t
  unfolding Makes Then
  makes_then S T s m t (calls, acts, chain, made, given) (later, more, on, next, is) = (
    calls ++ later,
    acts ++ more,
    chain_on s.board m.board t.board calls later chain on,
    (m.core, calls, later, acts, more, made, next, refl, refl),
    is ∙ ap (λ g. g ++ more) given ∙ append_assoc s.given acts more,
  )

  pub makes_first : (S T : Step) (s t : Moment B) → Makes rests S s t → Makes rests (Either S T) s t
  unfolding Makes Either
  makes_first S T s t (calls, acts, chain, made, given) = (calls, acts, chain, inl made, given)

  pub makes_second : (S T : Step) (s t : Moment B) → Makes rests T s t → Makes rests (Either S T) s t
  unfolding Makes Either
  makes_second S T s t (calls, acts, chain, made, given) = (calls, acts, chain, inr made, given)

  pub makes_only : (test : View → Bool) (S : Step) (s t : Moment B) → test s.core ≡ true → Makes rests S s t → Makes rests (Only test S) s t
  unfolding Makes Only
  makes_only test S s t e (calls, acts, chain, made, given) = (calls, acts, chain, (e, made), given)

  pub makes_yes : (test : View → Bool) (S T : Step) (s t : Moment B) → test s.core ≡ true → Makes rests S s t → Makes rests (Where test S T) s t
  unfolding Makes Where
  makes_yes test S T s t e (calls, acts, chain, made, given) =
      (calls, acts, chain, subst (λ b. MatchBool b (S s.core calls acts t.core) (T s.core calls acts t.core)) (sym e) made, given)

  pub makes_no : (test : View → Bool) (S T : Step) (s t : Moment B) → test s.core ≡ false → Makes rests T s t → Makes rests (Where test S T) s t
  unfolding Makes Where
  makes_no test S T s t e (calls, acts, chain, made, given) =
      (calls, acts, chain, subst (λ b. MatchBool b (S s.core calls acts t.core) (T s.core calls acts t.core)) (sym e) made, given)

  -- one call
  pub makes_asks : (b c : B) (v : View) (given : List ControlAct) (call : ControlCall) → rests b c call → Makes rests (Asks call) (moment b v given) (moment c v given)
  unfolding Makes Asks
  makes_asks b c v given call rest = (call ∷ [], [], (c, rest, refl), (refl, refl, refl), sym (append-nil given))

  pub makes_gives : (b : B) (v : View) (old new : List ControlAct) (act : ControlAct) → new ≡ old ++ act ∷ [] → Makes rests (Gives act) (moment b v old) (moment b v new)
  unfolding Makes Gives
  makes_gives b v old new act is = ([], act ∷ [], refl, (refl, refl, refl), is)

  -- a step without a call
  pub makes_quietly : (S : Step) (b : B) (v w : View) (old new : List ControlAct) → Quietly S v old w new → Makes rests S (moment b v old) (moment b w new)
  unfolding Makes Quietly
  makes_quietly S b v w old new (acts, made, is) = ([], acts, refl, made, is)

  pub makes_quietly_on : {E : Type 0} (S : Step) (b : B) (v w : View) (old new : List ControlAct) (r : Result (Unit {0}) E) → OnOk r (Quietly S v old w new) → OnOk r (Makes rests S (moment b v old) (moment b w new))
  makes_quietly_on S b v w old new (Ok u) made = makes_quietly S b v w old new made
  makes_quietly_on S b v w old new (Err e) made = made

  -- a turn that gave these acts
  pub turned : (b c : B) (v w : View) (letter : Body) (old acts : List ControlAct) → old ≡ [] → Makes rests (Takes letter) (moment b v old) (moment c w acts) → Turned rests b v letter acts w c
  unfolding Makes Turned
  turned b c v w letter old acts none (calls, gained, chain, made, given) =
      (calls, chain, subst (λ (l : List ControlAct). Takes letter v calls l w) (sym (given ∙ ap (λ l. l ++ gained) none)) made)
