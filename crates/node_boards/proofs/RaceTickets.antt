-- What a data seat of a race board has after a claim and after an untrack.
use Rattle.std.proofs.Common.{◌≡◌, ◌≢◌, ℕ, ◌<◌, List, length, get_or, set, refl, sym, ap, ◌∙◌, arith, Option, None, Result, Ok, Err, OnOk, get_or-set_same, get_or-set_other}
use Rattle.std.proofs.lemmas.List.{get_or_past}
use mathlib.Core.Logic.{dite}
use native.Mathlib.Decide.{ℕ_discrete, dec_lt}
use Rattle.race_board.specs.Board.{hold, no_hold}
use Rattle.race_board.specs.Steps.{kept_hold}
use Rattle.race_board.specs.Calls.{Takes, ticket}
use Rattle.race_board.specs.Checks.{Untracks, IsClear, all_but}
use Rattle.race_board.specs.declared.views.Size.{Size}
use Rattle.race_board.specs.declared.views.Hold.{Hold}
use Rattle.race_board.specs.declared.views.Progress.TheVariants.{Clear}
use Rattle.race_board.specs.declared.views.View.{View}
use Rattle.node_boards.specs.Seats.{SameTickets, OneMore, Keeps}
use Rattle.node_boards.specs.Race.{IsHold, HoldsTicket, unused}
use Rattle.node_boards.proofs.Lookups.{Writes, one_more, same, keeps}

pub on_ok : {A E P Q : Type 0} (r : Result A E) → (P → Q) → OnOk r P → OnOk r Q
on_ok (Ok a) then holds = then holds
on_ok (Err e) then holds = holds

inside_held : (v : View) (i : ℕ) → (hold v i).number ≢ 0 → i < length v.held
inside_held v i n = elim (dec_lt i (length v.held)) [
  | yes l ↦ l
  | no m ↦ absurd (n (ap (λ (h : Hold). h.number) (get_or_past v.held i no_hold (omega arith))))
]

writes_held : (v w : View) (i : ℕ) (h : Hold) → w.held ≡ set v.held i h → i < length v.held → Writes (hold v) (hold w) i h
writes_held v w i h e l = record {
  here = ap (λ hs. get_or hs i no_hold) e ∙ get_or-set_same v.held i h no_hold l;
  else = λ j n. ap (λ hs. get_or hs j no_hold) e ∙ get_or-set_other v.held i j h no_hold n;
}

-- the number had no ticket, since it has one now, at a slot that had none
pub taken_more : (v w : View) (n p : ℕ) → n ≢ 0 → length v.held ≡ v.size.slots → ((i j : ℕ) → (hold w i).number ≢ 0 → (hold w i).number ≡ (hold w j).number → i ≡ j) → Takes v w n p
    → (unused w ≡ None) × OneMore (HoldsTicket v) (HoldsTicket w) n p
taken_more v w n p some sized distinct (i, at) =
    let inside = at.0 in
    let writes = writes_held v w i (ticket n p) (ap (λ u. u.held) at.2) (omega arith) in
    let here : (hold w i).number ≡ n = ap (λ (h : Hold). h.number) writes.here in (
      ap unused at.2,
      one_more writes IsHold n p
          (λ m q is. is.2 (sym is.0 ∙ at.3))
          (refl, refl, some)
          (λ m q is. (sym is.0, sym is.1))
          (λ q (j, is). dite (ℕ_discrete j i)
          (λ e. some (sym is.0 ∙ ap (λ (k : ℕ). (hold v k).number) e ∙ at.3))
          (λ other. let there : (hold w j).number ≡ n = ap (λ (h : Hold). h.number) (writes.else j other) ∙ is.0 in
          other (sym (distinct i j (λ e. some (sym here ∙ e)) (here ∙ sym there))))),
    )

pub untracked : (v w : View) (z : Size) (n node : ℕ) → n ≢ 0 → Untracks v w z n node → SameTickets (HoldsTicket v) (HoldsTicket w) × Keeps (IsClear v) (IsClear w)
untracked v w z n node some (i, seen, is, e) =
    let writes = writes_held v w i (kept_hold (hold v i) (all_but node)) (ap (λ u. u.held) e) (inside_held v i (λ f. some (sym is ∙ f))) in
    (same writes IsHold (λ m q. ((λ was. was), (λ was. was))), keeps writes (λ m h. h.number ≡ m → h.check ≡ Clear) (λ m was. was))
