-- The two steps of a track.
use Rattle.std.proofs.Common.{◌≡◌, ◌≢◌, ℕ, ◌<◌, [], ◌∷◌, ◌++◌, length, get_or, set, sym, refl, ap, ◌∙◌, get_or-set_same, get_or-set_other}
use Rattle.std.proofs.lemmas.List.{set-set}
use mathlib.Core.Logic.{dite}
use native.Mathlib.Decide.{ℕ_discrete}
use Rattle.race_board.specs.Words.{cancel}
use Rattle.race_board.specs.Board.{hold, no_hold}
use Rattle.race_board.specs.Steps.{noted, with_hold, seeking, cleared_hold}
use Rattle.race_board.specs.Checks.{Becomes}
use Rattle.race_board.specs.declared.views.Did.{Did}
use Rattle.race_board.specs.declared.views.Hold.{Hold}
use Rattle.race_board.specs.declared.views.View.{View}

-- a ticket that a second step changes again
pub twice : (v u w : View) (i : ℕ) (h : Hold) (f : Hold → Hold) (d d' : Did) → i < length v.held → u ≡ noted (with_hold v i h) d → w ≡ noted (with_hold u i (f (hold u i))) d' → Becomes v w i (f h)
twice v u w i h f d d' l a b = let steps : w.steps ≡ u.steps ++ d' ∷ [] = ap (λ (q : View). q.steps) b in
    let here : hold u i ≡ h = ap (λ (q : View). hold q i) a ∙ get_or-set_same v.held i h no_hold l in
    let held : set u.held i (f (hold u i)) ≡ set v.held i (f h) = (λ y. set (ap (λ (q : View). q.held) a y) i (f (here y))) ∙ set-set v.held i h (f h) in
    b ∙ ((λ y. let r : View = record u { steps = sym steps y; held = held y } in r) ∙ ap (λ (q : View). let r : View = record q { steps = w.steps; held = set v.held i (f h) } in r) a)

-- the ticket after both
pub after_both : (v u w : View) (i bit n : ℕ) (d d' : Did) → i < length v.held → u ≡ noted (with_hold v i (seeking (hold v i) bit)) d → (cancel n ≡ 0 → w ≡ noted (with_hold u i (cleared_hold (hold u i))) d') → (cancel n ≢ 0 → w ≡ noted (with_hold u i (seeking (hold u i) 0)) d')
    → (h : Hold) × Becomes v w i h × (h.number ≡ (hold v i).number) × (h.parent ≡ (hold v i).parent) × (h.seek ≡ 0) × (h.check ≡ (hold v i).check)
after_both v u w i bit n d d' l a free marked = let h : Hold = seeking (hold v i) bit in dite (ℕ_discrete (cancel n) 0)
    (λ e. (cleared_hold h, twice v u w i h cleared_hold d d' l a (free e), refl, refl, refl, refl))
    (λ e. (seeking h 0, twice v u w i h (λ q. seeking q 0) d d' l a (marked e), refl, refl, refl, refl))

pub becomes_fields : (v w : View) (i : ℕ) (h : Hold) → i < length v.held → Becomes v w i h → h.number ≡ (hold v i).number → h.parent ≡ (hold v i).parent → h.seek ≡ 0 → ((q : ℕ) → (hold v q).seek ≡ 0)
    → (q : ℕ) → ((hold w q).number ≡ (hold v q).number) × ((hold w q).parent ≡ (hold v q).parent) × ((hold w q).seek ≡ 0)
becomes_fields v w i h l e number parent free calm q = let now : hold w q ≡ get_or (set v.held i h) q no_hold = ap (λ (x : View). hold x q) e in dite (ℕ_discrete q i)
    (λ f. let g : hold w q ≡ h = now ∙ (ap (λ (x : ℕ). get_or (set v.held i h) x no_hold) f ∙ get_or-set_same v.held i h no_hold l) in
    (ap (λ (x : Hold). x.number) g ∙ (number ∙ ap (λ (x : ℕ). (hold v x).number) (sym f)), ap (λ (x : Hold). x.parent) g ∙ (parent ∙ ap (λ (x : ℕ). (hold v x).parent) (sym f)), ap (λ (x : Hold). x.seek) g ∙ free))
    (λ f. let g : hold w q ≡ hold v q = now ∙ get_or-set_other v.held i q h no_hold f in (ap (λ (x : Hold). x.number) g, ap (λ (x : Hold). x.parent) g, ap (λ (x : Hold). x.seek) g ∙ calm q))
