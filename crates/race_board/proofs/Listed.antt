-- The calls of the control seat, over one step.
use Rattle.std.proofs.Common.{◌≡◌, ◌≢◌, ℕ, ◌+◌, ◌<◌, List, [], ◌++◌, length, get_or, set, sym, refl, ap, ◌∙◌, subst, arith, Option, get_or-set_other, get_or-set_same, append-nil}
use Rattle.std.proofs.lemmas.List.{set-set, set-get_or}
use mathlib.Core.Logic.{dite}
use native.Mathlib.Decide.{ℕ_discrete}
use Rattle.race_board.specs.Words.{number, banned, by, ban_word}
use Rattle.race_board.specs.Board.{ban, no_ban}
use Rattle.race_board.specs.Steps.{did, noted, banning, with_ban}
use Rattle.race_board.specs.Calls.{Longer, Saw}
use Rattle.race_board.specs.Lists.{new_to, as_list, last_with, Listing, Passes, SawNone}
use Rattle.race_board.specs.declared.views.Ban.{Ban}
use Rattle.race_board.specs.declared.views.View.{View}
use Rattle.race_board.proofs.Parts.{banned_ban, by_ban}
use Rattle.race_board.proofs.Gained.{saw_more, saw_now}

-- the plain words of the bans, where the place i gets a ban
pub bans_set : (ws : List ℕ) (bs : List Ban) (i : ℕ) (b : Ban) → i < length ws → i < length bs → b.parent < 16777216 → b.cancel < 65536 → (b.parent ≢ 0 → b.cancel ≢ 0)
    → ((j : ℕ) → (get_or ws j 0 ≡ ban_word (get_or bs j no_ban).parent (get_or bs j no_ban).cancel) × ((get_or bs j no_ban).parent < 16777216) × ((get_or bs j no_ban).cancel < 65536) × ((get_or bs j no_ban).parent ≢ 0 → (get_or bs j no_ban).cancel ≢ 0))
    → (j : ℕ) → (get_or (set ws i (ban_word b.parent b.cancel)) j 0 ≡ ban_word (get_or (set bs i b) j no_ban).parent (get_or (set bs i b) j no_ban).cancel) × ((get_or (set bs i b) j no_ban).parent < 16777216) × ((get_or (set bs i b) j no_ban).cancel < 65536)
    × ((get_or (set bs i b) j no_ban).parent ≢ 0 → (get_or (set bs i b) j no_ban).cancel ≢ 0)
bans_set ws bs i b l m p q r all j = let Of : ℕ → Ban → Type 0 = λ x y. (x ≡ ban_word y.parent y.cancel) × (y.parent < 16777216) × (y.cancel < 65536) × (y.parent ≢ 0 → y.cancel ≢ 0) in
    let x : ℕ = ban_word b.parent b.cancel in dite (ℕ_discrete j i)
    (λ e. let f : get_or (set ws i x) j 0 ≡ x = ap (λ (k : ℕ). get_or (set ws i x) k 0) e ∙ get_or-set_same ws i x 0 l in let g : get_or (set bs i b) j no_ban ≡ b = ap (λ (k : ℕ). get_or (set bs i b) k no_ban) e ∙ get_or-set_same bs i b no_ban m in
    subst (λ (t : ℕ × Ban). Of t.0 t.1) (λ k. (sym f k, sym g k)) (refl, p, q, r))
    (λ e. let f = get_or-set_other ws i j x 0 e in let g = get_or-set_other bs i j b no_ban e in subst (λ (t : ℕ × Ban). Of t.0 t.1) (λ k. (sym f k, sym g k)) (all j))

pub listing_ban : (v u : View) (j i : ℕ) (ns : List ℕ) → j < length v.bans → Listing v u j i ns → ban u j ≡ banning (ban v j).parent (ban v j).cancel i
listing_ban v u j i ns l on = ap (λ (q : View). ban q j) on ∙ get_or-set_same v.bans j (banning (ban v j).parent (ban v j).cancel i) no_ban l

pub listing_passes : (v u w : View) (j i : ℕ) (ns ms : List ℕ) (got : Option ℕ) → j < length v.bans → Listing v u j i ns → new_to u (as_list got) ≡ ms → Passes u w j i got → Listing v w j (i + 1) (ns ++ ms)
listing_passes v u w j i ns ms got l on news pass = let here = listing_ban v u j i ns l on in let old : Ban = banning (ban v j).parent (ban v j).cancel i in let new : Ban = banning (ban v j).parent (ban v j).cancel (i + 1) in
    let bans : set u.bans j (banning (ban u j).parent (ban u j).cancel (i + 1)) ≡ set v.bans j new = (λ y. set (ap (λ (q : View). q.bans) on y) j (banning (here y).parent (here y).cancel (i + 1))) ∙ set-set v.bans j old new in
    let marked : u.marked ++ new_to u (as_list got) ≡ ns ++ ms = (λ y. (ap (λ (q : View). q.marked) on) y ++ news y) in
    let last : w.last ≡ last_with u.last i got = ap (λ (q : View). q.last) pass in
    pass ∙ ((λ y. let r : View = record u { steps = w.steps; bans = bans y; about = 0; loaded = 0; marked = marked y; last = sym last y } in r)
    ∙ ap (λ (q : View). let r : View = record q { steps = w.steps; bans = set v.bans j new; about = 0; loaded = 0; marked = ns ++ ms; last = w.last } in r) on)

pub listing_marked : (v w : View) (j i : ℕ) (ns ms : List ℕ) → ns ≡ ms → Listing v w j i ns → Listing v w j i ms
listing_marked v w j i ns ms e on = subst (Listing v w j i) e on

pub none_seen : (v u w : View) (i n x : ℕ) → Longer v u → SawNone v u i n → (x ≢ 0 → number x ≢ n) → w ≡ noted u (did (i + 1) x x) → SawNone v w (i + 1) n
none_seen v u w i n x long none other e k l = dite (ℕ_discrete k i)
    (λ f. (x, subst (λ (q : ℕ). Saw v w (q + 1) x) (sym f) (saw_now v u w (i + 1) x x long (ap (λ (q : View). q.steps) e)), other))
    (λ f. let t = none k (omega arith) in (t.0, saw_more v u w (did (i + 1) x x) (k + 1) t.0 (ap (λ (q : View). q.steps) e) t.1, t.2))

-- the ban that a word puts
pub put_is : (v w : View) (j x p c y : ℕ) → p < 16777216 → y ≡ ban_word p c → w ≡ noted (with_ban v j (banning (banned y) (by y) 0)) (did x 0 y) → w ≡ noted (with_ban v j (banning p c 0)) (did x 0 (ban_word p c))
put_is v w j x p c y small is e = e ∙ ((λ k. noted (with_ban v j (banning (banned (is k)) (by (is k)) 0)) (did x 0 (is k))) ∙ (λ k. noted (with_ban v j (banning (banned_ban p c small k) (by_ban p c small k) 0)) (did x 0 (ban_word p c))))

-- no slot is passed yet
pub listing_first : (v : View) (j : ℕ) → j < length v.bans → (ban v j).next ≡ 0 → v.about ≡ 0 → v.loaded ≡ 0 → Listing v v j 0 (v.marked ++ [])
listing_first v j l none about loaded = let same : ban v j ≡ banning (ban v j).parent (ban v j).cancel 0 = (λ k. banning (ban v j).parent (ban v j).cancel (none k)) in
    let bans : v.bans ≡ set v.bans j (banning (ban v j).parent (ban v j).cancel 0) = sym (set-get_or v.bans j no_ban) ∙ ap (set v.bans j) same in
    let marked : v.marked ≡ v.marked ++ [] = sym (append-nil v.marked) in
    λ k. let r : View = record v { bans = bans k; about = about k; loaded = loaded k; marked = marked k } in r

-- the plain words of the bans are those of these bans
abbrev pub AllStand : List ℕ → List Ban → Type 0
AllStand ws bs = (j : ℕ) → (get_or ws j 0 ≡ ban_word (get_or bs j no_ban).parent (get_or bs j no_ban).cancel) × ((get_or bs j no_ban).parent < 16777216) × ((get_or bs j no_ban).cancel < 65536) × ((get_or bs j no_ban).parent ≢ 0 → (get_or bs j no_ban).cancel ≢ 0)

pub stands_on : (ws : List ℕ) (bs cs : List Ban) → cs ≡ bs → AllStand ws bs → AllStand ws cs
stands_on ws bs cs e all = subst (AllStand ws) (sym e) all

-- a scan goes on, and the bans stay
pub stands_past : (ws : List ℕ) (bs : List Ban) (i n : ℕ) → i < length bs → AllStand ws bs → AllStand ws (set bs i (banning (get_or bs i no_ban).parent (get_or bs i no_ban).cancel n))
stands_past ws bs i n l all j = let b : Ban = banning (get_or bs i no_ban).parent (get_or bs i no_ban).cancel n in dite (ℕ_discrete j i)
    (λ e. let here : get_or (set bs i b) j no_ban ≡ b = ap (λ (k : ℕ). get_or (set bs i b) k no_ban) e ∙ get_or-set_same bs i b no_ban l in
    subst (λ (q : Ban). (get_or ws j 0 ≡ ban_word q.parent q.cancel) × (q.parent < 16777216) × (q.cancel < 65536) × (q.parent ≢ 0 → q.cancel ≢ 0)) (sym here)
    (subst (λ (k : ℕ). (get_or ws j 0 ≡ ban_word (get_or bs k no_ban).parent (get_or bs k no_ban).cancel) × ((get_or bs k no_ban).parent < 16777216) × ((get_or bs k no_ban).cancel < 65536) × ((get_or bs k no_ban).parent ≢ 0 → (get_or bs k no_ban).cancel ≢ 0)) e (all j)))
    (λ e. subst (λ (q : Ban). (get_or ws j 0 ≡ ban_word q.parent q.cancel) × (q.parent < 16777216) × (q.cancel < 65536) × (q.parent ≢ 0 → q.cancel ≢ 0)) (sym (get_or-set_other bs i j b no_ban e)) (all j))
