-- Steps that follow one another.
use Rattle.std.proofs.Common.{◌≡◌, ◌≢◌, ℕ, zero, suc, List, [], ◌∷◌, ◌++◌, refl, sym, ap, ◌∙◌, subst, append_assoc, append-nil}
use mathlib.Core.Logic.{dite}
use native.Mathlib.Decide.{ℕ_discrete}
use Rattle.race_board.specs.Events.{Event}
use Rattle.race_board.specs.Kinds.{Kind, IsStep}
use Rattle.race_board.specs.Steps.{did}
use Rattle.race_board.specs.Turn.{Turn}
use Rattle.race_board.specs.Walks.{Stride, Walk, Walks}
use Rattle.race_board.specs.declared.views.Did.{Did}
use Rattle.race_board.specs.declared.views.Size.{Size}
use Rattle.race_board.specs.declared.views.View.{View}

-- one step of such a call, with these events
abbrev pub Went : Kind → View → View → List Event → Type 0
Went kind v w es = (s : Stride v w) × IsStep kind v s.step.word s.step.seen s.left s.events × (s.events ≡ es)

pub walk_none : (kind : Kind) (v : View) → Walks kind v v []
walk_none kind v = (zero, (refl, refl))

pub walk_more : (kind : Kind) (v u w : View) (es fs : List Event) → Walks kind v u es → Went kind u w fs → Walks kind v w (es ++ fs)
walk_more kind v u w es fs (n, walk) (s, is, e) = (suc n, (u, es, walk, (s, is, ap (λ (l : List Event). es ++ l) (sym e))))

-- a step without events
pub walk_still : (kind : Kind) (v u w : View) (es : List Event) → Walks kind v u es → Went kind u w [] → Walks kind v w es
walk_still kind v u w es walks went = subst (Walks kind v w) (append-nil es) (walk_more kind v u w es [] walks went)

pub walk_one : (kind : Kind) (v w : View) (fs : List Event) → Went kind v w fs → Walks kind v w fs
walk_one kind v w fs went = walk_more kind v v w [] fs (walk_none kind v) went

pub walk_on : (kind : Kind) (n : ℕ) (v u w : View) (es fs : List Event) → Walks kind v u es → Walk kind n u w fs → Walks kind v w (es ++ fs)
walk_on kind zero v u w es fs walks (same, none) = subst (λ (t : View × List Event). Walks kind v t.0 (es ++ t.1)) (λ i. (same i, sym none i)) (subst (Walks kind v u) (sym (append-nil es)) walks)
walk_on kind (suc n) v u w es fs walks (x, fs', walk, (s, is, e)) = let on = walk_on kind n v u x es fs' walks walk in
    (suc on.0, (x, es ++ fs', on.1, (s, is, ap (λ (l : List Event). es ++ l) e ∙ sym (append_assoc es fs' s.events))))

-- of a view what a stride speaks of
abbrev pub tale : View → List Did × Size
tale v = (v.steps, v.size)

abbrev pub Tells : View → View → Did → Type 0
Tells v w d = tale w ≡ (v.steps ++ d ∷ [], v.size)

-- a step that saw n
abbrev pub stride_of : (v w : View) (x n y left : ℕ) (es : List Event) → Tells v w (did x n y) → Turn v.size v w x n left es → Stride v w
stride_of v w x n y left es tells turn = record { step = did x n y; left = left; events = es; size = ap (λ (t : List Did × Size). t.1) tells; noted = ap (λ (t : List Did × Size). t.0) tells; turn = turn }

pub stride : (kind : Kind) (v w : View) (x n y left : ℕ) (es fs : List Event) → Tells v w (did x n y) → Turn v.size v w x n left es → IsStep kind v x n left es → es ≡ fs → Went kind v w fs
stride kind v w x n y left es fs tells turn is e = (stride_of v w x n y left es tells turn, is, e)

-- a compare and exchange
pub stride_either : (kind : Kind) (v w : View) (x n a y left : ℕ) (es fs : List Event) → (n ≡ a → Tells v w (did x a y)) → (n ≢ a → Tells v w (did x n n)) → Turn v.size v w x n left es → IsStep kind v x n left es → es ≡ fs → Went kind v w fs
stride_either kind v w x n a y left es fs hit miss turn is same = dite (ℕ_discrete n a)
    (λ e. stride kind v w x a y left es fs (hit e) (subst (λ (q : ℕ). Turn v.size v w x q left es) e turn) (subst (λ (q : ℕ). IsStep kind v x q left es) e is) same)
    (λ f. stride kind v w x n n left es fs (miss f) turn is same)

-- whatever the load of a scan found
pub either_way : (u w : View) (d : Did) (p q n : ℕ) → ((p ≡ q) × (n ≡ 0) → Tells u w d) → (¬ ((p ≡ q) × (n ≡ 0)) → Tells u w d) → Tells u w d
either_way u w d p q n yes_way no_way = dite (ℕ_discrete p q)
    (λ e. dite (ℕ_discrete n 0) (λ f. yes_way (e, f)) (λ f. no_way (λ t. f t.1)))
    (λ e. no_way (λ t. e t.0))

-- whether or not two numbers are one
pub same_or_not : (u w : View) (d : Did) (n m : ℕ) → (n ≡ m → Tells u w d) → (n ≢ m → Tells u w d) → Tells u w d
same_or_not u w d n m free marked = dite (ℕ_discrete n m) free marked
