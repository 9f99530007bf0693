-- A check on its way.
use Rattle.std.proofs.Common.{◌≡◌, ◌≢◌, ℕ, zero, suc, ◌+◌, ◌<◌, ◌⊎◌, inl, inr, cond, [], ◌∷◌, ◌++◌, length, get_or, set, sym, refl, ap, ◌∙◌, subst, arith, eqb, eq-eqb, ne_eqb, get_or-set_same, get_or-set_other, List}
use Rattle.std.proofs.lemmas.List.{set-set, set-get_or}
use mathlib.Core.Logic.{dite}
use native.Mathlib.Decide.{ℕ_discrete}
use Rattle.race_board.specs.Words.{banned, by}
use Rattle.race_board.specs.Board.{hold, no_hold}
use Rattle.race_board.specs.Steps.{did, noted, with_check}
use Rattle.task_table.specs.TicketParts.{TicketParts}
use Rattle.race_board.specs.Calls.{Longer, Saw, SawNoBan, HasTicket}
use Rattle.race_board.specs.Checks.{Checked, ticket_parent}
use Rattle.race_board.specs.declared.views.Did.{Did}
use Rattle.race_board.specs.declared.views.Hold.{Hold}
use Rattle.race_board.specs.declared.views.Progress.{Progress}
use Rattle.race_board.specs.declared.views.Progress.TheVariants.{Next, Clear, Banned}
use Rattle.race_board.specs.declared.views.View.{View}
use Rattle.race_board.proofs.Gained.{Distinct, saw_more, saw_now}

-- the state before the place j is loaded, of b places, where it was k at first
abbrev pub before : ℕ → ℕ → Progress
before j b = cond (eqb j b) Clear (Next j)

abbrev pub reached : ℕ → ℕ → Progress → Progress
reached zero b k = k
reached (suc j) b k = before (suc j) b

before_end : (b : ℕ) → before b b ≡ Clear
before_end b = ap (λ x. let k : Progress = cond x Clear (Next b) in k) (eq-eqb b b refl)

before_more : (j b : ℕ) → j ≢ b → before j b ≡ Next j
before_more j b n = ap (λ x. let k : Progress = cond x Clear (Next j) in k) (ne_eqb j b n)

pub reached_next : (j b : ℕ) (k : Progress) → j < b → (j ≡ 0) ⊎ (reached j b k ≡ Next j)
reached_next zero b k l = inl refl
reached_next (suc j) b k l = inr (before_more (suc j) b (omega arith))

reached_more : (j b : ℕ) (k : Progress) → reached (j + 1) b k ≡ before (j + 1) b
reached_more j b k = let e : j + 1 ≡ suc j = omega arith in ap (λ (n : ℕ). reached n b k) e ∙ ap (λ (n : ℕ). before n b) (sym e)

pub reached_end : (j b : ℕ) (k : Progress) → 0 < b → j ≡ b → reached j b k ≡ Clear
reached_end zero b k some e = absurd (omega arith)
reached_end (suc j) b k some e = ap (λ (n : ℕ). before n b) e ∙ before_end b

pub checked_at_first : (v : View) (i : ℕ) → Checked v v i (hold v i).check
checked_at_first v i = let held : v.held ≡ set v.held i (record (hold v i) { check = (hold v i).check }) = sym (set-get_or v.held i no_hold) in λ x. let r : View = record v { held = held x } in r

pub checked_hold : (v u : View) (i : ℕ) (k : Progress) → i < length v.held → Checked v u i k → hold u i ≡ record (hold v i) { check = k }
checked_hold v u i k l e = ap (λ (q : View). get_or q.held i no_hold) e ∙ get_or-set_same v.held i (record (hold v i) { check = k }) no_hold l

pub checked_goes : (v u w : View) (i : ℕ) (k k' : Progress) (d : Did) → i < length v.held → Checked v u i k → w ≡ noted (with_check u i k') d → Checked v w i k'
checked_goes v u w i k k' d l on e = let steps : w.steps ≡ u.steps ++ d ∷ [] = ap (λ (q : View). q.steps) e in let here = checked_hold v u i k l on in
    let old : Hold = record (hold v i) { check = k } in let new : Hold = record (hold v i) { check = k' } in
    let turns : (let a : Hold = record (hold u i) { check = k' } in a) ≡ new = ap (λ (h : Hold). let r : Hold = record h { check = k' } in r) here in
    let held : set u.held i (record (hold u i) { check = k' }) ≡ set v.held i new = (λ x. set ((ap (λ (q : View). q.held) on) x) i (turns x)) ∙ set-set v.held i old new in
    e ∙ ((λ x. let r : View = record u { steps = sym steps x; held = held x } in r) ∙ ap (λ (q : View). let r : View = record q { steps = w.steps; held = set v.held i new } in r) on)

-- the place j held no ban of the parent
pub checked_on : (v u w : View) (i j b : ℕ) (k : Progress) (d : Did) → i < length v.held → Checked v u i (reached j b k) → (j + 1 ≡ b → w ≡ noted (with_check u i Clear) d) → (j + 1 ≢ b → w ≡ noted (with_check u i (Next (j + 1))) d) → Checked v w i (reached (j + 1) b k)
checked_on v u w i j b k d l on last more = dite (ℕ_discrete (j + 1) b)
    (λ e. subst (Checked v w i) (sym (reached_more j b k ∙ (ap (λ (n : ℕ). before n b) e ∙ before_end b))) (checked_goes v u w i (reached j b k) Clear d l on (last e)))
    (λ e. subst (Checked v w i) (sym (reached_more j b k ∙ before_more (j + 1) b e)) (checked_goes v u w i (reached j b k) (Next (j + 1)) d l on (more e)))

pub steps_on : (u w : View) (i j b : ℕ) (d : Did) → (j + 1 ≡ b → w ≡ noted (with_check u i Clear) d) → (j + 1 ≢ b → w ≡ noted (with_check u i (Next (j + 1))) d) → w.steps ≡ u.steps ++ d ∷ []
steps_on u w i j b d last more = dite (ℕ_discrete (j + 1) b) (λ e. ap (λ (q : View). q.steps) (last e)) (λ e. ap (λ (q : View). q.steps) (more e))

pub none_more : (v u w : View) (slots j p n : ℕ) → Longer v u → SawNoBan v u slots j p → banned n ≢ p → w.steps ≡ u.steps ++ did (slots + j + 1) n n ∷ [] → SawNoBan v w slots (j + 1) p
none_more v u w slots j p n long before_that miss e k l = dite (ℕ_discrete k j)
    (λ f. (n, subst (λ (q : ℕ). Saw v w (slots + q + 1) n) (sym f) (saw_now v u w (slots + j + 1) n n long e), miss))
    (λ f. let t = before_that k (omega arith) in (t.0, saw_more v u w (did (slots + j + 1) n n) (slots + k + 1) t.0 e t.1, t.2))

-- a seat's ticket, at its slot
pub ticket_at : (v : View) (t : TicketParts) (i : ℕ) → Distinct v.held → HasTicket v t → t.id.number ≢ 0 → (hold v i).number ≡ t.id.number → (hold v i).parent ≡ ticket_parent t
ticket_at v t i distinct has some is = let same : has.0 ≡ i = distinct has.0 i (λ e. some (sym has.1 ∙ e)) (has.1 ∙ sym is) in ap (λ (k : ℕ). (hold v k).parent) (sym same) ∙ has.2

-- a step of the check changes how far the check has come alone
pub check_fields : (hs : List Hold) (i : ℕ) (k : Progress) (q : ℕ) → i < length hs → let a : Hold = get_or (set hs i (record (get_or hs i no_hold) { check = k })) q no_hold in let b : Hold = get_or hs q no_hold in (a.number ≡ b.number) × (a.parent ≡ b.parent) × (a.seek ≡ b.seek)
check_fields hs i k q l = let new : Hold = record (get_or hs i no_hold) { check = k } in dite (ℕ_discrete q i)
    (λ e. let f : get_or (set hs i new) q no_hold ≡ new = ap (λ (x : ℕ). get_or (set hs i new) x no_hold) e ∙ get_or-set_same hs i new no_hold l in let back : get_or hs i no_hold ≡ get_or hs q no_hold = ap (λ (x : ℕ). get_or hs x no_hold) (sym e) in
    (ap (λ (h : Hold). h.number) f ∙ ap (λ (h : Hold). h.number) back, ap (λ (h : Hold). h.parent) f ∙ ap (λ (h : Hold). h.parent) back, ap (λ (h : Hold). h.seek) f ∙ ap (λ (h : Hold). h.seek) back))
    (λ e. let f = get_or-set_other hs i q new no_hold e in (ap (λ (h : Hold). h.number) f, ap (λ (h : Hold). h.parent) f, ap (λ (h : Hold). h.seek) f))

pub some_check : (u w : View) (i j b p n : ℕ) (d : Did) → (banned n ≡ p → w ≡ noted (with_check u i (Banned (by n))) d) → (banned n ≢ p → j + 1 ≡ b → w ≡ noted (with_check u i Clear) d) → (banned n ≢ p → j + 1 ≢ b → w ≡ noted (with_check u i (Next (j + 1))) d)
    → (k : Progress) × (w ≡ noted (with_check u i k) d)
some_check u w i j b p n d hit last more = dite (ℕ_discrete (banned n) p) (λ e. (Banned (by n), hit e)) (λ e. dite (ℕ_discrete (j + 1) b) (λ f. (Clear, last e f)) (λ f. (Next (j + 1), more e f)))
