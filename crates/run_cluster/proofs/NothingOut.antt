-- A seat that holds nothing has nothing out when its board closes.
use Rattle.std.proofs.Common.{◌≡◌, ◌≢◌, ℕ, inl, inr, suc, Bool, not, ◌==◌, false, cond, List, [], ◌∷◌, get_or, refl, ap, ◌∙◌, eq-eqb, arith}
use Rattle.std.specs.Prelude.{count_by}
use Rattle.std.proofs.lemmas.Bool.{cases_eq}
use Rattle.std.proofs.lemmas.List.Sums.{sum_by-cons}
use Rattle.race_board.specs.Board.{hold, ban, no_hold, no_ban, is_out, tickets_out}
use Rattle.race_board.specs.Closing.{is_banned, bans_out}
use Rattle.race_board.specs.declared.views.View.{View}
use Rattle.node_boards.specs.Seats.{HasNoBan}
use Rattle.node_boards.specs.Race.{HoldsBan, HoldsTicket}

-- none passes the test
none_counted : {A : Type 0} (test : A → Bool) (d : A) (xs : List A) → ((i : ℕ) → test (get_or xs i d) ≡ false) → count_by test xs ≡ 0
none_counted test d [] none = refl
none_counted test d (x ∷ xs) none =
    let rest = none_counted test d xs (λ i. none (suc i)) in
    let first : test x ≡ false = none 0 in
    sum_by-cons (λ a. cond (test a) 1 0) x xs ∙ rw first (omega arith)

not_some : (n : ℕ) → (n ≢ 0 → ⊥) → not (n == 0) ≡ false
not_some n none = elim (cases_eq n 0) [
  | inl e ↦ ap not (eq-eqb n 0 e)
  | inr some ↦ absurd (none some)
]

pub no_ban_out : (v : View) → HasNoBan (HoldsBan v) → bans_out v ≡ 0
no_ban_out v none = none_counted is_banned no_ban v.bans (λ j. not_some (ban v j).parent (λ some. none j (ban v j).parent (ban v j).cancel (refl, refl, some)))

pub no_ticket_out : (v : View) → ((n p : ℕ) → ¬ HoldsTicket v n p) → tickets_out v ≡ 0
no_ticket_out v none = none_counted is_out no_hold v.held (λ i. not_some (hold v i).number (λ some. none (hold v i).number (hold v i).parent (i, (refl, refl, some))))
