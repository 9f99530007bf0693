-- A data seat is joined to the control seat.
use Rattle.std.proofs.Common.{◌≡◌, ◌≢◌, ℕ, zero, suc, ◌+◌, ◌<◌, List, [], ◌∷◌, get_or, set, sym, refl, ap, ◌∙◌, subst, arith, length-set, Bool, not, cond, count_by, eq-eqb, inl, inr}
use Rattle.std.proofs.lemmas.List.Sums.{sum_by-cons}
use mathlib.Core.Logic.{dite}
use mathlib.Core.Option.{some, some-injective}
use native.Mathlib.Decide.{ℕ_discrete}
use lib.ListN.{get_elem?}
use Rattle.atomic_table.specs.Table.{State, Joins}
use Rattle.atomic_table.proofs.Lists.{set_else}
use Rattle.race_board.specs.declared.views.Size.{Size}
use Rattle.race_board.specs.declared.views.Hold.{Hold}
use Rattle.race_board.specs.declared.views.View.{View}
use Rattle.race_board.specs.Board.{hold, no_hold, HoldOk, SeatOk, WordOk, BoardAt, BoardOk, merge, pick_hold, both, spent, is_out, tickets_out}
use Rattle.race_board.proofs.Boards.{told-set, gone-set, each, same_late}
use Rattle.race_board.proofs.Controls.{as_first, at_zero}

abbrev Now : Type 0
Now = State (Unit {0}) View

abbrev pick : {P : Type 0} → Dec P → ℕ → ℕ → ℕ
pick (yes _) a b = a
pick (no _) a b = b

-- the slots of the seat go to the control seat
moved : (ℕ → ℕ) → ℕ → ℕ → ℕ
moved f other i = pick (ℕ_discrete (f i) other) 0 (f i)

moved_here : (f : ℕ → ℕ) (other i : ℕ) → f i ≡ other → moved f other i ≡ 0
unfolding moved
moved_here f other i e = go (ℕ_discrete (f i) other)
  where
    go : (d : Dec (f i ≡ other)) → pick d 0 (f i) ≡ 0
    go (yes _) = refl
    go (no n) = absurd (n e)

moved_else : (f : ℕ → ℕ) (other i : ℕ) → f i ≢ other → moved f other i ≡ f i
unfolding moved
moved_else f other i n = go (ℕ_discrete (f i) other)
  where
    go : (d : Dec (f i ≡ other)) → pick d 0 (f i) ≡ f i
    go (yes e) = absurd (n e)
    go (no _) = refl

empty_at : (i : ℕ) → get_or [] i no_hold ≡ no_hold
empty_at zero = refl
empty_at (suc i) = refl

picks_second : (n : ℕ) (a b : Hold) → n ≡ 0 → pick_hold n a b ≡ b
picks_second n a b e = ap (λ (k : ℕ). pick_hold k a b) e

picks_first : (n : ℕ) (a b : Hold) → n ≢ 0 → pick_hold n a b ≡ a
picks_first zero a b h = absurd (h refl)
picks_first (suc n) a b h = refl

-- where the first has a ticket, it stays
pub merge_first : (a b : List Hold) (i : ℕ) → (get_or a i no_hold).number ≢ 0 → get_or (merge a b) i no_hold ≡ get_or a i no_hold
merge_first [] b i n = absurd (n (ap (λ (h : Hold). h.number) (empty_at i)))
merge_first (x ∷ xs) [] i n = refl
merge_first (x ∷ xs) (y ∷ ys) zero n = picks_first x.number x y n
merge_first (x ∷ xs) (y ∷ ys) (suc i) n = merge_first xs ys i n

-- and where it has none, the second's comes, if any
pub merge_second : (a b : List Hold) (i : ℕ) → (get_or a i no_hold).number ≡ 0 → (get_or (merge a b) i no_hold).number ≢ 0 → get_or (merge a b) i no_hold ≡ get_or b i no_hold
merge_second [] b i e n = refl
merge_second (x ∷ xs) [] i e n = absurd (n e)
merge_second (x ∷ xs) (y ∷ ys) zero e n = picks_second x.number x y e
merge_second (x ∷ xs) (y ∷ ys) (suc i) e n = merge_second xs ys i e n

pub merge_else : (a b : List Hold) (i : ℕ) → (get_or a i no_hold).number ≡ 0 → (get_or b i no_hold).number ≢ 0 → get_or (merge a b) i no_hold ≡ get_or b i no_hold
merge_else [] b i e n = refl
merge_else (x ∷ xs) [] i e n = absurd (n (ap (λ (h : Hold). h.number) (empty_at i)))
merge_else (x ∷ xs) (y ∷ ys) zero e n = picks_second x.number x y e
merge_else (x ∷ xs) (y ∷ ys) (suc i) e n = merge_else xs ys i e n

abbrev one_if : Bool → ℕ
one_if b = cond b 1 0

count_cons : (q : Hold) (l : List Hold) → count_by is_out (q ∷ l) ≡ one_if (is_out q) + count_by is_out l
count_cons q l = sum_by-cons (λ (k : Hold). one_if (is_out k)) q l

count_pick : (p q : Hold) → (p.number ≢ 0 → q.number ≡ 0) → one_if (is_out (pick_hold p.number p q)) ≡ one_if (is_out p) + one_if (is_out q)
count_pick p q f = dite (ℕ_discrete p.number 0)
    (λ e. ap (λ (k : Hold). one_if (is_out k)) (picks_second p.number p q e) ∙ (let a : one_if (is_out p) ≡ 0 = ap (λ (k : Bool). one_if (not k)) (eq-eqb p.number 0 e) in omega arith))
    (λ n. ap (λ (k : Hold). one_if (is_out k)) (picks_first p.number p q n) ∙ (let a : one_if (is_out q) ≡ 0 = ap (λ (k : Bool). one_if (not k)) (eq-eqb q.number 0 (f n)) in omega arith))

-- where no place has two tickets, none is lost
merge_count : (a b : List Hold) → ((i : ℕ) → (get_or a i no_hold).number ≢ 0 → (get_or b i no_hold).number ≡ 0) → count_by is_out (merge a b) ≡ count_by is_out a + count_by is_out b
merge_count [] b h = let e : count_by is_out b ≡ 0 + count_by is_out b = omega arith in e
merge_count (x ∷ xs) [] h = let e : count_by is_out (x ∷ xs) + 0 ≡ count_by is_out (x ∷ xs) = omega arith in sym e
merge_count (x ∷ xs) (y ∷ ys) h = let more = merge_count xs ys (λ i. h (suc i)) in let one = count_pick x y (h 0) in
    count_cons (pick_hold x.number x y) (merge xs ys) ∙ (let a = count_cons x xs in let b = count_cons y ys in omega arith)

module _ (z : Size) (v w : View) (other : ℕ) where
  go : (s : Now) → BoardAt z v s → get_elem? s.views 0 ≡ some v → other ≢ 0 → get_elem? (set s.views 0 (both v w)) other ≡ some w → w.gone ≡ 0 → BoardOk z record { words = s.words; homes = s.homes; views = set (set s.views 0 (both v w)) other spent }
  go s r there apart at_other fresh = (
    both v w,
    record {
      owner = moved r.owner other;
      at = r.at;
      wide = r.wide;
      few = r.few;
      leads = r.leads;
      lasts = r.lasts;
      dealt = ap (λ (n : ℕ). n + v.to_deal) (length-set vs other spent ∙ length-set s.views 0 c) ∙ r.dealt;
      first = first;
      joins = ((let a = gone-set vs other w spent at_other in let d = gone-set s.views 0 v c there in let e = r.joins.0 in omega arith), r.joins.1);
      taken = merge_count v.held w.held apart_slots ∙ ap (λ (n : ℕ). n + tickets_out w) r.taken;
      counted = (let a = told-set vs other w spent at_other in let d = told-set s.views 0 v c there in let e = r.counted in let f = once in omega arith);
      unborn = r.unborn;
      seats = each (SeatOk z c o r.at s.words) vs other spent gone (λ k u n e. each (λ q x. q ≢ other → SeatOk z c o r.at s.words q x) s.views 0 c (λ _. mine) (λ q x m f g. rest q x m g (r.seats q x f)) k u e n);
      tasks = λ i l n. let t = r.tasks i l n in let f = found i t in record { stands = t.stands; view = f.0; seated = f.1; is = t.is ∙ f.2; named = t.named; marked = t.marked; unmarked = t.unmarked; latest = t.latest };
      bans = r.bans;
      marks = r.marks;
      known = r.known;
      nearly = r.nearly;
    },
  )
    where
      c : View
      c = both v w

      vs : List View
      vs = set s.views 0 c

      o : ℕ → ℕ
      o = moved r.owner other

      old_other : get_elem? s.views other ≡ some w
      old_other = sym (set_else s.views 0 other c apart) ∙ at_other

      once : w.told < 2
      once = (r.seats other w old_other).once

      first : get_elem? (set vs other spent) 0 ≡ some c
      first = set_else vs other 0 spent (λ e. apart (sym e)) ∙ at_zero s.views v c there

      -- a ticket whose owner's number goes over
      keeps_hold : (k k' i : ℕ) (h : Hold) → (r.owner i ≡ k → o i ≡ k') → HoldOk z v r.owner s.words k i h → HoldOk z c o s.words k' i h
      keeps_hold k k' i h owned ok = record {
        inside = ok.inside;
        owned = owned ok.owned;
        is = ok.is;
        child_of = ok.child_of;
        race = λ j l. ok.race j (same_late z v c s.words s.words i j refl refl l.unseen l);
        masked = ok.masked;
        caught = ok.caught;
        halfway = ok.halfway;
      }

      -- no slot is held by both
      apart_slots : (i : ℕ) → (hold v i).number ≢ 0 → (hold w i).number ≡ 0
      apart_slots i n = dite (ℕ_discrete (hold w i).number 0) (λ e. e) (λ f. absurd (apart (sym ((r.seats other w old_other).holds i f).owned ∙ ((r.seats 0 v there).holds i n).owned)))

      gone : SeatOk z c o r.at s.words other spent
      gone = record { once = omega arith; left = inr (refl, refl); leads = λ n. absurd (n refl); unused = λ n. absurd (n refl); holds = λ i n. absurd (n (ap (λ (h : Hold). h.number) (empty_at i))) }

      rest : (k : ℕ) (u : View) → k ≢ 0 → k ≢ other → SeatOk z v r.owner r.at s.words k u → SeatOk z c o r.at s.words k u
      rest k u m n ok = record { once = ok.once; leads = ok.leads; unused = ok.unused; left = ok.left; holds = λ i f. keeps_hold k k i (hold u i) (λ e. moved_else r.owner other i (λ g. n (sym e ∙ g)) ∙ e) (ok.holds i f) }

      mine : SeatOk z c o r.at s.words 0 c
      mine = let ok = r.seats 0 v there in let ok' = r.seats other w old_other in record {
        once = ok.once;
        left = inl r.joins.1;
        leads = λ _. refl;
        unused = ok.unused;
        holds = λ i n. dite (ℕ_discrete (hold v i).number 0)
            (λ e. let f : hold c i ≡ hold w i = merge_second v.held w.held i e n in
            subst (HoldOk z c o s.words 0 i) (sym f) (keeps_hold other 0 i (hold w i) (moved_here r.owner other i) (ok'.holds i (λ g. n (ap (λ (h : Hold). h.number) f ∙ g)))))
            (λ e. let f : hold c i ≡ hold v i = merge_first v.held w.held i e in
            subst (HoldOk z c o s.words 0 i) (sym f) (keeps_hold 0 0 i (hold v i) (λ g. moved_else r.owner other i (λ q. apart (sym q ∙ g)) ∙ g) (ok.holds i e)));
      }

      found : (i : ℕ) (t : WordOk v r.owner r.at s.words s.views i) → (u : View) × (get_elem? (set vs other spent) (o i) ≡ some u) × ((hold t.view i).number ≡ (hold u i).number)
      found i t = let full : (hold t.view i).number ≢ 0 = λ e. t.named (t.is ∙ e) in dite (ℕ_discrete (r.owner i) other)
          (λ e. let same : t.view ≡ w = some-injective t.view w (sym t.seated ∙ (ap (get_elem? s.views) e ∙ old_other)) in let same_number : (hold t.view i).number ≡ (hold w i).number = ap (λ (x : View). (hold x i).number) same in
          let free : (hold v i).number ≡ 0 = dite (ℕ_discrete (hold v i).number 0) (λ f. f) (λ f. absurd (apart (sym e ∙ ((r.seats 0 v there).holds i f).owned))) in
          (c, ap (get_elem? (set vs other spent)) (moved_here r.owner other i e) ∙ first, same_number ∙ ap (λ (h : Hold). h.number) (sym (merge_else v.held w.held i free (λ f. full (same_number ∙ f))))))
          (λ n. dite (ℕ_discrete (r.owner i) 0)
          (λ e. let same : t.view ≡ v = some-injective t.view v (sym t.seated ∙ (ap (get_elem? s.views) e ∙ there)) in (
            c,
            ap (get_elem? (set vs other spent)) (moved_else r.owner other i n ∙ e) ∙ first,
            ap (λ (x : View). (hold x i).number) same ∙ ap (λ (h : Hold). h.number) (sym (merge_first v.held w.held i (λ f. full (ap (λ (x : View). (hold x i).number) same ∙ f)))),
          ))
          (λ m. (t.view, ap (get_elem? (set vs other spent)) (moved_else r.owner other i n) ∙ (set_else vs other (r.owner i) spent n ∙ (set_else s.views 0 (r.owner i) c m ∙ t.seated)), refl)))

pub joins : (z : Size) (id : ℕ) (v : View) (other : ℕ) (w : View) → v.lead ≡ 1 → w.gone ≡ 0 → Joins (BoardOk z) id v other w (both v w) spent
joins z id v other w lead fresh s (c, q) there apart at_other = let first : id ≡ 0 = (q.seats id v there).leads (λ e. absurd (omega arith)) in let seat : get_elem? s.views 0 ≡ some v = ap (get_elem? s.views) (sym first) ∙ there in
    subst (λ (k : ℕ). BoardOk z record { words = s.words; homes = s.homes; views = set (set s.views k (both v w)) other spent }) (sym first)
    (go z v w other s (as_first z s v (c, q) seat) seat (λ e. apart (e ∙ sym first)) (ap (λ (k : ℕ). get_elem? (set s.views k (both v w)) other) (sym first) ∙ at_other) fresh)
