-- What a listing did.
use Rattle.std.proofs.Common.{◌≡◌, ℕ, zero, suc, ◌<◌, ◌+◌, cond, nat_le, length, get_or, take, drop, drop-cons, arith, append-nil, true, false, List, [], ◌∷◌, ◌++◌, map, filter, Option, None, refl, sym, ap, ◌∙◌, subst, All, Contains, option_to_list, Result, Ok, Err, OnOk}
use Rattle.std.proofs.lemmas.List.Elements.{All-nil, All-push, All-append, All-filter, Contains-get_or}
use Rattle.std.proofs.Math.Seq.{take-length}
use Rattle.std.proofs.lemmas.List.{length-map, drop_all}
use Rattle.std.proofs.lemmas.Bool.{and_parts}
use Rattle.std.proofs.lemmas.Bool.Decides.{nat_tests}
use Rattle.task_ids.specs.Limits.{IsNumber}
use Rattle.task_ids.specs.declared.task_id.TaskId.{TaskId}
use Rattle.cancel_core.specs.declared.act.Act.{Act}
use Rattle.cancel_core.specs.Listings.{with_listing, listing_act}
use Rattle.node_boards.specs.Calls.{ControlCall}
use Rattle.node_boards.specs.Calls as call
use Rattle.control_worker.specs.declared.act.ControlAct.{ControlAct}
use Rattle.control_worker.specs.declared.act.ControlAct.TheVariants as act
use Rattle.control_worker.specs.declared.control_core.Ban.{Ban}
use Rattle.control_worker.specs.View.{View, is_under_way}
use Rattle.control_worker.specs.Steps.{Step, Nothing, Then, Asks, Each, Moment, Makes, Quietly}
use Rattle.control_worker.specs.Cancels.{with_cancels, Begins}
use Rattle.control_worker.specs.Bans.{is_number, AreTasks, BeginsChild, Awaits, Lists}
use Rattle.control_worker.proofs.Making.{moment, makes_nothing, makes_then, makes_yes, makes_no, makes_asks, makes_quietly}

pub number_in_range : (n : ℕ) → is_number n ≡ true → IsNumber n
number_in_range n is = let parts = and_parts (nat_le 1 n) (nat_le n 1048575) is in (grind (arith, nat_tests, parts.0), grind (arith, nat_tests, parts.1))

-- one number more
pub tasks_none : (node : ℕ) → AreTasks node [] []
tasks_none node = record { numbered = refl; here = All-nil (λ (t : TaskId). t.node ≡ node) }

filter_on : (ns : List ℕ) (n : ℕ) → filter is_number (ns ++ n ∷ []) ≡ filter is_number ns ++ filter is_number (n ∷ [])
filter_on [] n = refl
filter_on (m ∷ ns) n = elim (is_number m) as (λ b. cond b (m ∷ filter is_number (ns ++ n ∷ [])) (filter is_number (ns ++ n ∷ [])) ≡ cond b (m ∷ filter is_number ns) (filter is_number ns) ++ filter is_number (n ∷ [])) [
  | true ↦ ap (λ l. m ∷ l) (filter_on ns n)
  | false ↦ filter_on ns n
]

numbers_on : (ts : List TaskId) (t : TaskId) → map (λ (x : TaskId). x.number) (ts ++ t ∷ []) ≡ map (λ (x : TaskId). x.number) ts ++ t.number ∷ []
numbers_on [] t = refl
numbers_on (s ∷ ts) t = ap (λ l. s.number ∷ l) (numbers_on ts t)

all_one : (node : ℕ) (t : TaskId) → t.node ≡ node → All (λ (x : TaskId). x.node ≡ node) (t ∷ [])
all_one node t is = All-push (λ (x : TaskId). x.node ≡ node) [] t (All-nil (λ (x : TaskId). x.node ≡ node)) is

pub tasks_more : (node n : ℕ) (ns : List ℕ) (ts : List TaskId) (t : TaskId) → AreTasks node ns ts → is_number n ≡ true → t.node ≡ node → t.number ≡ n → AreTasks node (ns ++ n ∷ []) (ts ++ t ∷ [])
tasks_more node n ns ts t are is here number = record {
  numbered = numbers_on ts t ∙ (λ i. are.numbered i ++ number i ∷ []) ∙ ap (λ b. filter is_number ns ++ cond b (n ∷ []) []) (sym is) ∙ sym (filter_on ns n);
  here = All-append (λ (x : TaskId). x.node ≡ node) ts (t ∷ []) are.here (all_one node t here);
}

pub tasks_past : (node n : ℕ) (ns : List ℕ) (ts : List TaskId) → AreTasks node ns ts → is_number n ≡ false → AreTasks node (ns ++ n ∷ []) ts
tasks_past node n ns ts are is = record {
  numbered = are.numbered ∙ sym (append-nil (filter is_number ns)) ∙ ap (λ b. filter is_number ns ++ cond b (n ∷ []) []) (sym is) ∙ sym (filter_on ns n);
  here = are.here;
}

all_of : (P : ℕ → Type 0) (ns : List ℕ) → ((n : ℕ) → Contains ns n → P n) → All P ns
all_of P ns each = λ k d within. each (get_or ns k d) (Contains-get_or ns k d within)

number_at : (ts : List TaskId) (k : ℕ) (d : TaskId) → get_or (map (λ (t : TaskId). t.number) ts) k d.number ≡ (get_or ts k d).number
number_at [] k d = refl
number_at (t ∷ ts) zero d = refl
number_at (t ∷ ts) (suc k) d = number_at ts k d

unmapped : (P : ℕ → Type 0) (ts : List TaskId) → All P (map (λ (t : TaskId). t.number) ts) → All (λ (t : TaskId). P t.number) ts
unmapped P ts held = λ k d within. subst P (number_at ts k d) (held k d.number (omega (arith, length-map ts (λ (t : TaskId). t.number))))

-- what holds of each of the numbers holds of the number of each of the tasks
pub all_tasks : (P : ℕ → Type 0) (node : ℕ) (ns : List ℕ) (ts : List TaskId) → AreTasks node ns ts → ((n : ℕ) → Contains ns n → P n) → All (λ (t : TaskId). P t.number) ts
all_tasks P node ns ts are each = unmapped P ts (subst (All P) (sym are.numbered) (All-filter is_number P ns (all_of P ns each)))

-- what is left of a list from a place where there is one more
pub rest_is : {X : Type 0} (xs : List X) (i : ℕ) (x : X) → i < length xs → x ≡ get_or xs i x → drop i xs ≡ x ∷ drop (i + 1) xs
rest_is {X} xs i x within is =
    let more : suc i ≡ i + 1 = omega arith in
    drop-cons xs i x within ∙ ap (λ (y : X). y ∷ drop (suc i) xs) (sym is) ∙ ap (λ (n : ℕ). x ∷ drop n xs) more

-- a whole list was written over another of its length
pub with_whole : (len : ℕ) (new old : List ℕ) → length new ≡ len → length old ≡ len → take len (new ++ drop (length new) old) ≡ new
with_whole len new old now was =
    ap (λ (l : List ℕ). take len (new ++ l)) (drop_all (length new) old (omega arith)) ∙ ap (λ (l : List ℕ). take len l) (append-nil new) ∙ ap (λ (n : ℕ). take n new) (sym now) ∙ take-length new

pub quiet_awaits : (v w : View) (old new : List ControlAct) (parent : TaskId) (children : List TaskId) (told : Option Act) → told ≡ listing_act v.cancels parent children → new ≡ old ++ map act.Core (option_to_list told)
    → w ≡ with_cancels v (with_listing v.cancels parent children) → Quietly (Awaits parent children) v old w new
unfolding Quietly Awaits
quiet_awaits v w old new parent children told acts given is = (map act.Core (option_to_list told), (refl, ap (λ (o : Option Act). map act.Core (option_to_list o)) acts, is), given)

module _ {B : Type 0} (rests : B → B → ControlCall → Type 0) where
  pub child_known : (s : Moment B) (cancel : ℕ) (child : TaskId) → is_under_way child s.core ≡ true → Makes rests (BeginsChild cancel child) s s
  child_known s cancel child has = makes_yes rests (is_under_way child) Nothing (Begins child cancel None) s s has (makes_nothing rests s)

  pub child_new : (s t : Moment B) (cancel : ℕ) (child : TaskId) → is_under_way child s.core ≡ false → Makes rests (Begins child cancel None) s t → Makes rests (BeginsChild cancel child) s t
  child_new s t cancel child none begun = makes_no rests (is_under_way child) Nothing (Begins child cancel None) s t none begun

  -- one of a list, and then the others
  pub each_more : {X : Type 0} (S : X → Step) (s m t : Moment B) (x : X) (xs : List X) → Makes rests (S x) s m → Makes rests (Each S xs) m t → Makes rests (Each S (x ∷ xs)) s t
  each_more S s m t x xs one later = makes_then rests (S x) (Each S xs) s m t one later

  makes_lists : (s t : Moment B) (ban : Ban) (place : ℕ) (numbers : List ℕ) (children : List TaskId) → AreTasks s.core.node numbers children
      → Makes rests (Then (Asks (call.list place numbers)) (Then (Each (BeginsChild ban.cancel) children) (Awaits ban.parent children))) s t → Makes rests (Lists ban place) s t
  unfolding Makes Lists
  makes_lists s t ban place numbers children are (calls, acts, chain, made, given) = (calls, acts, chain, (numbers, children, are, made), given)

  pub lists : (b c d : B) (v u w : View) (old mid new : List ControlAct) (ban : Ban) (place : ℕ) (numbers : List ℕ) (children : List TaskId) → rests b c (call.list place numbers) → AreTasks v.node numbers children
      → Makes rests (Each (BeginsChild ban.cancel) children) (moment c v old) (moment d u mid) → Quietly (Awaits ban.parent children) u mid w new → Makes rests (Lists ban place) (moment b v old) (moment d w new)
  lists b c d v u w old mid new ban place numbers children rest are begun awaits =
      let s = moment b v old in
      let t = moment d w new in
      let each : Step = Each (BeginsChild ban.cancel) children in
      let wait : Step = Awaits ban.parent children in
      makes_lists s t ban place numbers children are
      (makes_then rests (Asks (call.list place numbers)) (Then each wait) s (moment c v old) t (makes_asks rests b c v old (call.list place numbers) rest)
      (makes_then rests each wait (moment c v old) (moment d u mid) t begun (makes_quietly rests wait d u w mid new awaits)))

  pub lists_on : {E : Type 0} (b c d : B) (v u w : View) (old mid new : List ControlAct) (ban : Ban) (place : ℕ) (numbers : List ℕ) (children : List TaskId) (r : Result (Unit {0}) E) → rests b c (call.list place numbers)
      → AreTasks v.node numbers children → Makes rests (Each (BeginsChild ban.cancel) children) (moment c v old) (moment d u mid) → OnOk r (Quietly (Awaits ban.parent children) u mid w new)
      → OnOk r (Makes rests (Lists ban place) (moment b v old) (moment d w new))
  lists_on b c d v u w old mid new ban place numbers children (Ok done) rest are begun awaits = lists b c d v u w old mid new ban place numbers children rest are begun awaits
  lists_on b c d v u w old mid new ban place numbers children (Err e) rest are begun awaits = awaits
