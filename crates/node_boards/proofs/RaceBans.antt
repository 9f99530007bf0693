-- What a control seat of a race board has after a ban, and whether it had one.
use Rattle.std.proofs.Common.{◌≡◌, ◌≢◌, ℕ, ◌+◌, ◌*◌, ◌<◌, ◌⊎◌, ◌↔◌, inl, inr, Bool, true, false, List, length, get_or, set, refl, sym, ap, ◌∙◌, arith, Result, Ok, Err, IfOk, MatchBool, get_or-set_same, get_or-set_other}
use Rattle.std.proofs.lemmas.List.{get_or_past}
use native.Mathlib.Decide.{dec_lt}
use Rattle.task_ids.specs.declared.task_id.TaskId.{TaskId}
use Rattle.task_table.specs.declared.answers.NoRoom.{NoRoom}
use Rattle.race_board.specs.Keys.{task_key}
use Rattle.race_board.specs.Board.{ban, no_ban}
use Rattle.race_board.specs.Steps.{banning}
use Rattle.race_board.specs.Lists.{Bans, NoneOf, Unbans}
use Rattle.race_board.specs.declared.views.Size.{Size}
use Rattle.race_board.specs.declared.views.Ban.{Ban}
use Rattle.race_board.specs.declared.views.View.{View}
use Rattle.node_boards.specs.Seats.{HasBanOf, OneBanMore}
use Rattle.node_boards.specs.Race.{HoldsBan, IsUnlisted}
use Rattle.node_boards.proofs.Lookups.{Writes, at_place, still}

pub key_named : (t : TaskId) → task_key t ≢ 0
unfolding task_key
key_named t e = let least = t.node_in_range in absurd (omega arith)

pub none_of : (v : View) (z : Size) (t : TaskId) → ¬ HasBanOf (HoldsBan v) (task_key t) → NoneOf v z (task_key t)
none_of v z t none j l e = none (j, (ban v j).cancel, (e, refl, key_named t))

-- a free place gets a ban
bans_more : (v w : View) (z : Size) (p c j : ℕ) → p ≢ 0 → length v.bans ≡ z.bans → Bans v w z p c j
    → (j < z.bans) × OneBanMore (HoldsBan v) (HoldsBan w) j p c × IsUnlisted w j
bans_more v w z p c j some sized (within, free, e) =
    let here : ban w j ≡ banning p c 0 = ap (λ u. ban u j) e ∙ get_or-set_same v.bans j (banning p c 0) no_ban (omega arith) in
    let writes : Writes (ban v) (ban w) j (banning p c 0) = record { here = here; else = λ k n. ap (λ u. ban u k) e ∙ get_or-set_other v.bans j k (banning p c 0) no_ban n } in
    let Is : ℕ → ℕ → Ban → Type 0 = λ q d b. (b.parent ≡ q) × (b.cancel ≡ d) × (q ≢ 0) in (
      within,
      (
        (λ (q, d, is). is.2 (sym is.0 ∙ free)),
        (ap (λ (x : Ban). x.parent) here, ap (λ (x : Ban). x.cancel) here, some),
        (λ k q d. (
          (λ is. elim (at_place writes (Is q d) k is) [
            | inl (at, now) ↦ inr (at, sym now.0, sym now.1)
            | inr (n, was) ↦ inl was
          ]),
          (λ old. elim old [
            | inl was ↦ still writes (Is q d) k (λ f. was.2 (sym was.0 ∙ ap (λ (i : ℕ). (ban v i).parent) f ∙ free)) was
            | inr (at, a, b) ↦ let there = ap (ban w) at ∙ here in (ap (λ (x : Ban). x.parent) there ∙ sym a, ap (λ (x : Ban). x.cancel) there ∙ sym b, (λ f. some (sym a ∙ f)))
          ]),
        )),
      ),
      ap (λ (x : Ban). x.next) here,
    )

pub bans_put : (v w : View) (z : Size) (p c : ℕ) (told : Result ℕ NoRoom) → p ≢ 0 → length v.bans ≡ z.bans → IfOk told (λ j. Bans v w z p c j)
    → IfOk told (λ j. (j < z.bans) × OneBanMore (HoldsBan v) (HoldsBan w) j p c × IsUnlisted w j)
bans_put v w z p c (Ok j) some sized put = bans_more v w z p c j some sized put
bans_put v w z p c (Err full) some sized put = put

-- a ban was taken away exactly where there was one
pub unbans_had : (v w : View) (z : Size) (p : ℕ) (told : Bool) → p ≢ 0 → length v.bans ≡ z.bans → MatchBool told (Unbans v w z p) ((w ≡ v) × NoneOf v z p)
    → (told ≡ true) ↔ HasBanOf (HoldsBan v) p
unbans_had v w z p true some sized (j, within, is, e) = ((λ _. (j, (ban v j).cancel, (is, refl, some))), (λ _. refl))
unbans_had v w z p false some sized (same, none) = (
  (λ e. cc),
  (λ (j, c, is). absurd (elim (dec_lt j (length v.bans)) [
    | yes l ↦ none j (omega arith) is.0
    | no m ↦ some (sym is.0 ∙ ap (λ (x : Ban). x.parent) (get_or_past v.bans j no_ban (omega arith)))
  ])),
)
