-- What a call leaves of the tickets of its seat.
use Rattle.std.proofs.Common.{◌≡◌, ◌≢◌, ℕ, ◌<◌, List, length, cond, get_or, set, eq-eqb, sym, ap, ◌∙◌, arith, get_or-set_same, get_or-set_other}
use Rattle.std.proofs.lemmas.List.{get_or_past}
use mathlib.Core.Logic.{dite}
use native.Mathlib.Decide.{ℕ_discrete, dec_lt}
use Rattle.task_table.specs.TicketParts.{TicketParts}
use Rattle.race_board.specs.Board.{hold, no_hold}
use Rattle.race_board.specs.Words.{cancel}
use Rattle.race_board.specs.Steps.{noted, fresh, with_hold, seeking, cleared_hold}
use Rattle.race_board.specs.declared.views.Did.{Did}
use Rattle.race_board.specs.Calls.{HasTicket, Takes, ticket}
use Rattle.race_board.specs.Checks.{Becomes, IsClear, ticket_parent}
use Rattle.race_board.specs.declared.views.Hold.{Hold}
use Rattle.race_board.specs.declared.views.Progress.{Progress}
use Rattle.race_board.specs.declared.views.Progress.TheVariants.{Next, Clear}
use Rattle.race_board.specs.declared.views.View.{View}
use Rattle.race_board.proofs.Gained.{Distinct}
use Rattle.race_board.proofs.Tracked.{after_both}

-- a root's check is clear
abbrev pub Roots : List Hold → Type 0
Roots hs = (i : ℕ) → (get_or hs i no_hold).parent ≡ 0 → (get_or hs i no_hold).check ≡ Clear

pub fresh_root : (p : ℕ) → p ≡ 0 → fresh p ≡ Clear
fresh_root p e = ap (λ b. let k : Progress = cond b Clear (Next 0) in k) (eq-eqb p 0 e)

pub roots_set : (hs : List Hold) (i : ℕ) (h : Hold) → i < length hs → (h.parent ≡ 0 → h.check ≡ Clear) → Roots hs → Roots (set hs i h)
roots_set hs i h l new all q root = dite (ℕ_discrete q i)
    (λ e. let here : get_or (set hs i h) q no_hold ≡ h = ap (λ (x : ℕ). get_or (set hs i h) x no_hold) e ∙ get_or-set_same hs i h no_hold l in ap (λ (x : Hold). x.check) here ∙ new (sym (ap (λ (x : Hold). x.parent) here) ∙ root))
    (λ n. let else = get_or-set_other hs i q h no_hold n in ap (λ (x : Hold). x.check) else ∙ all q (sym (ap (λ (x : Hold). x.parent) else) ∙ root))

inside_held : (v : View) (i : ℕ) → (hold v i).number ≢ 0 → i < length v.held
inside_held v i n = elim (dec_lt i (length v.held)) [
  | yes l ↦ l
  | no m ↦ absurd (n (ap (λ (h : Hold). h.number) (get_or_past v.held i no_hold (omega arith))))
]

module _ (v w : View) (i : ℕ) (h : Hold) (e : Becomes v w i h) where
  becomes_here : i < length v.held → (q : ℕ) → q ≡ i → hold w q ≡ h
  becomes_here l q f = ap (λ (u : View). hold u q) e ∙ (ap (λ (x : ℕ). get_or (set v.held i h) x no_hold) f ∙ get_or-set_same v.held i h no_hold l)

  becomes_else : (q : ℕ) → q ≢ i → hold w q ≡ hold v q
  becomes_else q n = ap (λ (u : View). hold u q) e ∙ get_or-set_other v.held i q h no_hold n

  -- it is the only one with its number
  pub now_clear : (n : ℕ) → n ≢ 0 → Distinct v.held → (hold v i).number ≡ n → h.check ≡ Clear → IsClear w n
  now_clear n some distinct is clear q same = let l = inside_held v i (λ f. some (sym is ∙ f)) in dite (ℕ_discrete q i)
      (λ f. ap (λ (x : Hold). x.check) (becomes_here l q f) ∙ clear)
      (λ f. let was : (hold v q).number ≡ n = sym (ap (λ (x : Hold). x.number) (becomes_else q f)) ∙ same in absurd (f (distinct q i (λ g. some (sym was ∙ g)) (was ∙ sym is))))

-- a ticket that was just claimed
pub claimed : (v w : View) (t : TicketParts) (p : ℕ) → v.size.slots ≡ length v.held → Takes v w t.id.number p → p ≡ ticket_parent t → HasTicket w t
claimed v w t p wide (i, at) same = let low = at.0 in let l : i < length v.held = omega arith in let here : hold w i ≡ ticket t.id.number p = ap (λ (u : View). hold u i) at.2 ∙ get_or-set_same v.held i (ticket t.id.number p) no_hold l in
    (i, ap (λ (x : Hold). x.number) here, ap (λ (x : Hold). x.parent) here ∙ same)

-- a track keeps the check clear
pub tracked_clear : (v u w : View) (i bit n m : ℕ) (d d' : Did) → i < length v.held → u ≡ noted (with_hold v i (seeking (hold v i) bit)) d → (cancel n ≡ 0 → w ≡ noted (with_hold u i (cleared_hold (hold u i))) d') → (cancel n ≢ 0 → w ≡ noted (with_hold u i (seeking (hold u i) 0)) d')
    → m ≢ 0 → (hold v i).number ≡ m → Distinct v.held → IsClear v m → IsClear w m
tracked_clear v u w i bit n m d d' l sets cleared marked some is distinct clear = let t = after_both v u w i bit n d d' l sets cleared marked in now_clear v w i t.0 t.1 m some distinct is (t.5 ∙ clear i is)
