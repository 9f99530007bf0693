-- The steps of the control seat keep the rule, and so do the start and a split.
use Rattle.std.proofs.Common.{◌≡◌, ◌≢◌, ℕ, zero, suc, ◌+◌, ◌-◌, ◌*◌, ◌%◌, ◌<◌, ◌≤◌, ◌⊎◌, List, [], ◌∷◌, ◌++◌, length, replicate, get_or, set, sym, refl, ap, ◌∙◌, subst, ⊎_elim, inl, inr, arith, eqb, eq-eqb, ne_eqb, get_or-set_other, get_or-set_same, length-set, length-append, count_by}
use mathlib.Core.Logic.{dite}
use mathlib.Core.Option.{none, some, some-injective, some-ne-none}
use native.Mathlib.Decide.{ℕ_discrete}
use lib.ListN.{get_elem?}
use lib.Seq.{set-get_or}
use lib.ListN.{length-replicate}
use prog.Atomic.{either}
use Rattle.atomic_table.specs.Table.{State, Me, step, keeps, Allows, Splits, opening}
use Rattle.atomic_table.proofs.Lists.{at_set, set_else, at_snoc, at_longer}
use Rattle.race_board.specs.declared.views.Size.{Size}
use Rattle.race_board.specs.declared.views.Hold.{Hold}
use Rattle.race_board.specs.declared.views.Ban.{Ban}
use Rattle.race_board.specs.declared.views.View.{View}
use Rattle.std.specs.Int.{bit_at}
use Rattle.race_board.specs.Words.{number, parent, cancel, banned, by, ban_word, with_mark}
use Rattle.race_board.specs.Board.{hold, ban, no_hold, no_ban, newcomer, task, mask, Has, told_count, gone_count, is_out, In, Behind, Late, HoldOk, SeatOk, WordOk, BanOk, BoardAt, BoardOk}
use Rattle.race_board.specs.Steps.{Goes, did, noted, with_ban, past, struck, missed, Wanted, after_half, after_whole, after_lift, after_note, after_ban, after_scan, after_mark}
use Rattle.race_board.proofs.Parts.{zero_number, zero_parent, zero_cancel, ban_none, whole_ban, banned_small, number_mark, parent_mark, cancel_mark}
use Rattle.race_board.proofs.Boards.{told-set, gone-set, each, left_same, same_late}

abbrev Now : Type 0
Now = State (Unit {0}) View

abbrev M : Type 0
M = Me (Unit {0}) View

goes : (me : M) (w : View) → me.1 ≡ [] → Goes (w, me.1) w
goes me w e = λ i. (w, e i)

back_one : (i : ℕ) → i ≡ i + 1 - 1
back_one i = omega arith

pub all_free : (n i : ℕ) → get_or (replicate n no_hold) i no_hold ≡ no_hold
all_free zero i = refl
all_free (suc n) zero = refl
all_free (suc n) (suc i) = all_free n i

-- a seat that has done nothing has no ticket
none_out : (n : ℕ) → count_by is_out (replicate n no_hold) ≡ 0
none_out zero = refl
none_out (suc n) = none_out n

pub all_lifted : (n i : ℕ) → get_or (replicate n no_ban) i no_ban ≡ no_ban
all_lifted zero i = refl
all_lifted (suc n) zero = refl
all_lifted (suc n) (suc i) = all_lifted n i

in_more : (n m : ℕ) (l : List ℕ) → In n (l ++ m ∷ []) → In n l ⊎ (n ≡ m)
in_more n m [] h = ⊎_elim (λ (e : n ≡ m). inr e) (λ (e : ⊥). absurd e) h
in_more n m (x ∷ xs) h = ⊎_elim (λ (e : n ≡ x). inl (inl e)) (λ (a : In n (xs ++ m ∷ [])). ⊎_elim (λ (b : In n xs). inl (inr b)) (λ (b : n ≡ m). inr b) (in_more n m xs a)) h

pub in_last : (n : ℕ) (l : List ℕ) → In n (l ++ n ∷ [])
in_last n [] = inl refl
in_last n (x ∷ xs) = inr (in_last n xs)

pub in_front : (n : ℕ) (l ms : List ℕ) → In n l → In n (l ++ ms)
in_front n [] ms h = absurd h
in_front n (x ∷ xs) ms h = ⊎_elim (λ (e : n ≡ x). inl e) (λ (e : In n xs). inr (in_front n xs ms e)) h

-- a seat that has done nothing
blank_seat : (z : Size) (c : View) (owner at : ℕ → ℕ) (ws : List ℕ) (k lead deal : ℕ) → (lead ≢ 0 → k ≡ 0) → SeatOk z c owner at ws k (newcomer z lead deal)
blank_seat z c owner at ws k lead deal leads = record {
  leads = leads;
  once = omega arith;
  unused = λ f. absurd (f refl);
  holds = λ i f. absurd (f (ap (λ (h : Hold). h.number) (all_free z.slots i)));
  left = inl refl;
}

-- the rule names the control's view, which is that of the seat 0
pub as_first : (z : Size) (s : Now) (v : View) → BoardOk z s → get_elem? s.views 0 ≡ some v → BoardAt z v s
as_first z s v (c, r) there = subst (λ (x : View). BoardAt z x s) (some-injective c v (sym r.first ∙ there)) r

pub at_zero : (vs : List View) (v w : View) → get_elem? vs 0 ≡ some v → get_elem? (set vs 0 w) 0 ≡ some w
at_zero [] v w e = absurd (some-ne-none v (sym e))
at_zero (x ∷ xs) v w e = refl

module _ (z : Size) (v : View) (s : Now) (r : BoardAt z v s) where
  -- a ticket, where the control goes to w and its slot's words stay
  pub hold_control : (w : View) (ws : List ℕ) (k i : ℕ) (h : Hold) → task ws i ≡ task s.words i → mask z ws i ≡ mask z s.words i → ((j : ℕ) → Late z w ws i j → Behind j h.check)
      → ((m : ℕ) → Has h.number m w.masks → Has h.number m v.masks) → (w.half ≡ i + 1 → (v.half ≡ i + 1) × (v.half_mask ≡ w.half_mask)) → HoldOk z v r.owner s.words k i h → HoldOk z w r.owner ws k i h
  hold_control w ws k i h t m race masks half ok = record {
    inside = ok.inside;
    owned = ok.owned;
    is = ap number t ∙ ok.is;
    child_of = ap parent t ∙ ok.child_of;
    race = race;
    masked = λ x a. ap (λ (n : ℕ). bit_at n x) m ∙ ok.masked x a;
    caught = λ n x a b. ok.caught n x (masks n a) b;
    halfway = λ x a n b. let q = half a in ap (λ (n : ℕ). bit_at n x) (sym q.1) ∙ ok.halfway x q.0 (λ e. n (ap cancel t ∙ e)) b;
  }

  -- a step of the control seat, to the view w, whose own slots stay as they are
  control_step : (w : View) (x y : ℕ) → get_elem? s.views 0 ≡ some v → w.size ≡ v.size → w.lead ≡ v.lead → w.held ≡ v.held → w.drawn ≡ v.drawn → w.told ≡ v.told → w.to_deal ≡ v.to_deal → (w.joined ≡ v.joined) × (w.gone ≡ v.gone) × (w.taken ≡ v.taken) → length w.bans ≡ length v.bans → length w.last ≡ length v.last → x ≢ 0
      → ((i : ℕ) → i < z.slots → task (set s.words x y) i ≢ 0 → (number (task (set s.words x y) i) ≡ number (task s.words i)) × (task s.words i ≢ 0))
      → ((i : ℕ) → i < z.slots → task (set s.words x y) i ≢ 0 → (cancel (task (set s.words x y) i) ≢ 0 → In (number (task (set s.words x y) i)) w.marked) × (cancel (task (set s.words x y) i) ≡ 0 → ¬ In (number (task (set s.words x y) i)) w.marked) × (cancel (task (set s.words x y) i) ≢ 0 → get_or w.last i 0 ≡ number (task (set s.words x y) i)))
      → ((k i : ℕ) (h : Hold) → h.number ≢ 0 → HoldOk z v r.owner s.words k i h → HoldOk z w r.owner (set s.words x y) k i h)
      → ((j : ℕ) → j < z.bans → BanOk (set s.words x y) (z.slots + j + 1) (ban w j))
      → ((n : ℕ) → In n w.marked → r.at n % 2 ≡ 1)
      → ((n m : ℕ) → Has n m w.masks → In n w.marked)
      → (w.about ≢ 0 → r.at (number w.loaded) % 2 ≡ 1)
      → BoardOk z record { words = set s.words x y; homes = s.homes; views = set s.views 0 w }
  control_step w x y there size lead held drawn told deal stay bans_size last_size late same iff holds bans marked known nearly = (
    w,
    record {
      owner = r.owner;
      at = r.at;
      wide = length-set s.words x y ∙ r.wide;
      few = r.few;
      leads = lead ∙ r.leads;
      lasts = last_size ∙ r.lasts;
      dealt = (λ i. length-set s.views 0 w i + deal i) ∙ r.dealt;
      first = at_zero s.views v w there;
      joins = ((let a = gone-set s.views 0 v w there in let b = r.joins.0 in let c = stay.0 in let d = stay.1 in omega arith), stay.1 ∙ r.joins.1);
      taken = ap (count_by is_out) held ∙ (r.taken ∙ sym stay.2);
      counted = (let sum = told-set s.views 0 v w there in let total = r.counted in let front : get_or ws 0 0 ≡ get_or s.words 0 0 = get_or-set_other s.words x 0 y 0 (λ e. late (sym e)) in omega arith);
      unborn = λ n l. r.unborn n (subst (λ (q : ℕ). q < n) (get_or-set_other s.words x 0 y 0 (λ e. late (sym e))) l);
      seats = each (SeatOk z w r.owner r.at ws) s.views 0 w mine (λ k u _ e. other k u (r.seats k u e));
      tasks = λ i l n. let q = same i l n in let t = r.tasks i l q.1 in let f = iff i l n in record {
        stands = ap r.at q.0 ∙ t.stands;
        view = (found i t).0;
        seated = (found i t).1;
        is = q.0 ∙ (t.is ∙ (found i t).2);
        named = λ g. t.named (sym q.0 ∙ g);
        marked = f.0;
        unmarked = f.1;
        latest = f.2;
      };
      bans = bans;
      marks = marked;
      known = known;
      nearly = nearly;
    },
  )
    where
      ws : List ℕ
      ws = set s.words x y

      other : (k : ℕ) (u : View) → SeatOk z v r.owner r.at s.words k u → SeatOk z w r.owner r.at ws k u
      other k u ok = record { once = ok.once; leads = ok.leads; unused = ok.unused; holds = λ i n. holds k i (hold u i) n (ok.holds i n); left = ok.left }

      mine : SeatOk z w r.owner r.at ws 0 w
      mine = let ok = other 0 v (r.seats 0 v there) in record {
        leads = λ _. refl;
        once = subst (λ (n : ℕ). n < 2) (sym told) ok.once;
        unused = λ n. let u = ok.unused (λ e. n (drawn ∙ e)) in (ap r.at drawn ∙ u.0, subst (λ (n : ℕ). n < 1048576) (sym drawn) u.1);
        holds = λ i n. let e : hold w i ≡ hold v i = ap (λ (l : List Hold). get_or l i no_hold) held in subst (HoldOk z w r.owner ws 0 i) (sym e) (ok.holds i (λ f. n (ap (λ (h : Hold). h.number) e ∙ f)));
        left = inl (stay.1 ∙ r.joins.1);
      }

      found : (i : ℕ) (t : WordOk v r.owner r.at s.words s.views i) → (u : View) × (get_elem? (set s.views 0 w) (r.owner i) ≡ some u) × ((hold t.view i).number ≡ (hold u i).number)
      found i t = dite (ℕ_discrete (r.owner i) 0)
          (λ e. (w, ap (get_elem? (set s.views 0 w)) e ∙ at_zero s.views v w there, ap (λ (x : View). (hold x i).number) (some-injective t.view v (sym t.seated ∙ (ap (get_elem? s.views) e ∙ there))) ∙ ap (λ (l : List Hold). (get_or l i no_hold).number) (sym held)))
          (λ n. (t.view, set_else s.views 0 (r.owner i) w n ∙ t.seated, refl))

  -- the same where no task word changes, and the marks stay
  control_calm : (w : View) (x y : ℕ) → get_elem? s.views 0 ≡ some v → w.size ≡ v.size → w.lead ≡ v.lead → w.held ≡ v.held → w.drawn ≡ v.drawn → w.told ≡ v.told → w.to_deal ≡ v.to_deal → (w.joined ≡ v.joined) × (w.gone ≡ v.gone) × (w.taken ≡ v.taken) → length w.bans ≡ length v.bans → length w.last ≡ length v.last → x ≢ 0 → w.marked ≡ v.marked → w.last ≡ v.last
      → ((i : ℕ) → i < z.slots → task (set s.words x y) i ≡ task s.words i)
      → ((k i : ℕ) (h : Hold) → h.number ≢ 0 → HoldOk z v r.owner s.words k i h → HoldOk z w r.owner (set s.words x y) k i h)
      → ((j : ℕ) → j < z.bans → BanOk (set s.words x y) (z.slots + j + 1) (ban w j))
      → ((n m : ℕ) → Has n m w.masks → In n w.marked)
      → (w.about ≢ 0 → r.at (number w.loaded) % 2 ≡ 1)
      → BoardOk z record { words = set s.words x y; homes = s.homes; views = set s.views 0 w }
  control_calm w x y there size lead held drawn told deal stay bans_size last_size late marked last still holds bans known nearly = control_step w x y there size lead held drawn told deal stay bans_size last_size late
      (λ i l n. (ap number (still i l), λ e. n (still i l ∙ e)))
      (λ i l n. let t = r.tasks i l (λ e. n (still i l ∙ e)) in (
        (λ f. subst (λ (q : ℕ × List ℕ). In (number q.0) q.1) (λ y. (sym (still i l) y, sym marked y)) (t.marked (λ e. f (ap cancel (still i l) ∙ e)))),
        (λ e f. t.unmarked (sym (ap cancel (still i l)) ∙ e) (subst (λ (q : ℕ × List ℕ). In (number q.0) q.1) (λ y. (still i l y, marked y)) f)),
        λ f. ap (λ (q : List ℕ). get_or q i 0) last ∙ (t.latest (λ e. f (ap cancel (still i l) ∙ e)) ∙ sym (ap number (still i l))),
      ))
      holds bans (λ n h. r.marks n (subst (In n) marked h)) known nearly

  -- a load whose view keeps what it knows of masks
  pub control_quiet : (w : View) (x : ℕ) → get_elem? s.views 0 ≡ some v → w.size ≡ v.size → w.lead ≡ v.lead → w.held ≡ v.held → w.drawn ≡ v.drawn → w.told ≡ v.told → w.to_deal ≡ v.to_deal → (w.joined ≡ v.joined) × (w.gone ≡ v.gone) × (w.taken ≡ v.taken) → length w.bans ≡ length v.bans → length w.last ≡ length v.last → x ≢ 0 → w.marked ≡ v.marked → w.last ≡ v.last → w.masks ≡ v.masks → w.half ≡ v.half → w.half_mask ≡ v.half_mask
      → ((i j : ℕ) → i < z.slots → Late z w s.words i j → Late z v s.words i j)
      → ((j : ℕ) → j < z.bans → BanOk s.words (z.slots + j + 1) (ban w j))
      → (w.about ≢ 0 → r.at (number w.loaded) % 2 ≡ 1)
      → BoardOk z record { words = set s.words x (get_or s.words x 0); homes = s.homes; views = set s.views 0 w }
  control_quiet w x there size lead held drawn told deal stay bans_size last_size late marked last masks half half_mask race bans nearly = let ws : List ℕ = set s.words x (get_or s.words x 0) in let e : ws ≡ s.words = set-get_or s.words x 0 in
      control_calm w x (get_or s.words x 0) there size lead held drawn told deal stay bans_size last_size late marked last (λ i l. ap (λ (q : List ℕ). task q i) e)
      (λ k i h n ok. hold_control w ws k i h (ap (λ (q : List ℕ). task q i) e) (ap (λ (q : List ℕ). mask z q i) e) (λ j l. ok.race j (race i j ok.inside (subst (λ (q : List ℕ). Late z w q i j) e l)))
      (λ m f. subst (Has h.number m) masks f) (λ f. (sym half ∙ f, sym half_mask)) ok)
      (λ j l. subst (λ (q : List ℕ). BanOk q (z.slots + j + 1) (ban w j)) (sym e) (bans j l)) (λ n m f. subst (In n) (sym marked) (r.known n m (subst (Has n m) masks f))) nearly

-- the control seat is the seat 0
pub at_first : (z : Size) (slots x : ℕ) (me : M) (f : ℕ → ℕ) (then : ℕ → M → Type 0) (id : ℕ) → me.0.lead ≡ 1
    → ((s : Now) → BoardAt z me.0 s → get_elem? s.views 0 ≡ some me.0 → (w : View) × BoardOk z record { words = set s.words x (f (get_or s.words x 0)); homes = s.homes; views = set s.views 0 w } × then (get_or s.words x 0) (w, me.1))
    → Allows (BoardOk z) slots id me x f then
at_first z slots x me f then id lead h s (c, r) deep there small = let first : id ≡ 0 = (r.seats id me.0 there).leads (λ e. absurd (omega arith)) in
    let seat : get_elem? s.views 0 ≡ some me.0 = ap (get_elem? s.views) (sym first) ∙ there in let t = h s (as_first z s me.0 (c, r) seat) seat in
    (t.0, keeps, tt, subst (λ (k : ℕ). BoardOk z record { words = set s.words x (f (get_or s.words x 0)); homes = s.homes; views = set s.views k t.0 }) (sym first) t.1, t.2)

module _ (z : Size) where
  pub puts : (slots id : ℕ) (me : M) (j word : ℕ) → me.0.lead ≡ 1 → me.1 ≡ [] → j < z.bans → me.0.size ≡ z → length me.0.bans ≡ z.bans → banned word ≢ 0
      → Allows (BoardOk z) slots id me (z.slots + j + 1) (λ n. either (eqb n 0) word n) (after_ban (step slots (z.slots + j + 1) 0 word none) me)
  puts slots id me j word first bare inside size sized some_parent = let x : ℕ = z.slots + j + 1 in at_first z slots x me (λ n. either (eqb n 0) word n) (after_ban (step slots x 0 word none) me) id first (λ s r there. let n : ℕ = get_or s.words x 0 in let wide = r.wide in
      dite (ℕ_discrete n 0)
      (λ hit. let b : Ban = record { parent = banned word; cancel = by word; next = 0 } in let w : View = noted (with_ban me.0 j b) (did x 0 word) in let ws : List ℕ = set s.words x word in
      let here : ban w j ≡ b = get_or-set_same me.0.bans j b no_ban (omega arith) in let rest : (k : ℕ) → k ≢ j → ban w k ≡ ban me.0 k = λ k e. get_or-set_other me.0.bans j k b no_ban e in
      let still : (i : ℕ) → i < z.slots → task ws i ≡ task s.words i = λ i l. get_or-set_other s.words x (i + 1) word 0 (λ e. omega arith) in
      let place : j ≡ x - me.0.size.slots - 1 = (let q : me.0.size.slots ≡ z.slots = ap (λ (y : Size). y.slots) size in omega arith) in (
        w,
        subst (λ e. BoardOk z record { words = set s.words x (either e word n); homes = s.homes; views = set s.views 0 w }) (sym (eq-eqb n 0 hit))
            (control_calm z me.0 s r w x word there refl refl refl refl refl refl (refl, refl, refl) (length-set me.0.bans j b) refl (λ e. omega arith) refl refl still
            (λ k i h n ok. hold_control z me.0 s r w ws k i h (still i ok.inside) (get_or-set_other s.words x (z.slots + z.bans + i + 1) word 0 (λ e. omega arith))
            (λ q t. dite (ℕ_discrete q j)
            (λ e. let none_yet : i < 0 = subst (λ (y : Ban). i < y.next) (ap (ban w) e ∙ here) t.passed in absurd (omega arith))
            (λ e. ok.race q (same_late z me.0 w s.words ws i q (still i ok.inside) (rest q e) (λ f g. t.unseen f (g ∙ sym (still i ok.inside))) t)))
            (λ m f. f) (λ f. (f, refl)) ok)
            (λ q l. dite (ℕ_discrete q j)
            (λ e. subst (λ (y : ℕ × Ban). BanOk ws y.0 y.1) (λ a. (z.slots + sym e a + 1, (sym here ∙ ap (ban w) (sym e)) a))
            record { stands = get_or-set_same s.words x word 0 (omega arith) ∙ sym (whole_ban word); none_yet = λ f. absurd (some_parent f); small = banned_small word })
            (λ e. let o = r.bans q l in subst (λ (y : Ban). BanOk ws (z.slots + q + 1) y) (sym (rest q e))
            record { stands = get_or-set_other s.words x (z.slots + q + 1) word 0 (λ f. e (omega arith)) ∙ o.stands; none_yet = o.none_yet; small = o.small }))
            r.known r.nearly),
        ((λ _. goes me w bare ∙ (λ i. (noted (with_ban me.0 (place i) b) (did x 0 word), []))), λ f. absurd (f hit)),
      ))
      (λ miss. let w : View = noted me.0 (did x n n) in (
        w,
        subst (λ e. BoardOk z record { words = set s.words x (either e word n); homes = s.homes; views = set s.views 0 w }) (sym (ne_eqb n 0 miss))
            (control_quiet z me.0 s r w x there refl refl refl refl refl refl (refl, refl, refl) refl refl (λ e. omega arith) refl refl refl refl refl (λ i q _ t. same_late z me.0 w s.words s.words i q refl refl t.unseen t) r.bans r.nearly),
        ((λ e. absurd (miss e)), λ _. goes me w bare),
      )))

  pub control_notes : (slots id : ℕ) (me : M) (x : ℕ) → me.0.lead ≡ 1 → me.1 ≡ [] → x ≢ 0 → Allows (BoardOk z) slots id me x (λ n. n) (after_note (step slots x 0 0 none) me)
  control_notes slots id me x first bare late = at_first z slots x me (λ n. n) (after_note (step slots x 0 0 none) me) id first (λ s r there. let n : ℕ = get_or s.words x 0 in let w : View = noted me.0 (did x n n) in
      (w, control_quiet z me.0 s r w x there refl refl refl refl refl refl (refl, refl, refl) refl refl late refl refl refl refl refl (λ i j _ t. same_late z me.0 w s.words s.words i j refl refl t.unseen t) r.bans r.nearly, goes me w bare))

  pub scans : (slots id : ℕ) (me : M) (i j : ℕ) → me.0.lead ≡ 1 → me.1 ≡ [] → i < z.slots → j < z.bans → length me.0.bans ≡ z.bans → (ban me.0 j).parent ≢ 0 → (ban me.0 j).next ≡ i → me.0.about ≡ 0
      → Allows (BoardOk z) slots id me (i + 1) (λ n. n) (after_scan j (step slots (i + 1) 0 0 none) me)
  scans slots id me i j first bare inside known sized standing at_i idle = let x : ℕ = i + 1 in let o : Ban = ban me.0 j in at_first z slots x me (λ n. n) (after_scan j (step slots x 0 0 none) me) id first (λ s r there. let n : ℕ = get_or s.words x 0 in
      let W : ℕ → ℕ → View = λ about loaded. noted (past me.0 j i about loaded) (did x n n) in let b : Ban = record { parent = o.parent; cancel = o.cancel; next = i + 1 } in
      let here : (a l : ℕ) → ban (W a l) j ≡ b = λ a l. get_or-set_same me.0.bans j b no_ban (omega arith) in let rest : (a l k : ℕ) → k ≢ j → ban (W a l) k ≡ ban me.0 k = λ a l k e. get_or-set_other me.0.bans j k b no_ban e in
      -- the slot i is no exception, and every other is as it was
      let step_to : (a l : ℕ) → (Wanted me j n → (a ≡ i + 1) × (l ≡ n)) → (a ≢ 0 → r.at (number l) % 2 ≡ 1) → BoardOk z record { words = set s.words x n; homes = s.homes; views = set s.views 0 (W a l) } = λ a l wanted near.
      control_quiet z me.0 s r (W a l) x there refl refl refl refl refl refl (refl, refl, refl) (length-set me.0.bans j b) refl (λ e. omega arith) refl refl refl refl refl
      (λ q p _ t. dite (ℕ_discrete p j)
      (λ e. let new : ban (W a l) p ≡ b = ap (ban (W a l)) e ∙ here a l in let old : ban me.0 p ≡ o = ap (ban me.0) e in let upto : q < i + 1 = subst (λ (f : Ban). q < f.next) new t.passed in
      let child : parent (task s.words q) ≡ o.parent = t.child ∙ ap (λ (f : Ban). f.parent) new in
      dite (ℕ_discrete q i)
      (λ f. let got = wanted (ap (λ (g : ℕ). parent (task s.words g)) (sym f) ∙ child, ap (λ (g : ℕ). cancel (task s.words g)) (sym f) ∙ t.unmarked) in absurd (t.unseen (got.0 ∙ ap (λ (g : ℕ). g + 1) (sym f)) (got.1 ∙ ap (task s.words) (sym f))))
      (λ f. record {
        stands = λ g. standing (sym (ap (λ (y : Ban). y.parent) old) ∙ g);
        known = t.known;
        passed = subst (λ (g : Ban). q < g.next) (sym old) (let lower : q < o.next = omega arith in lower);
        child = child ∙ sym (ap (λ (y : Ban). y.parent) old);
        unmarked = t.unmarked;
        unseen = λ g. absurd (omega arith);
      }))
      (λ e. same_late z me.0 (W a l) s.words s.words q p refl (rest a l p e) (λ g. absurd (omega arith)) t))
      (λ p y. dite (ℕ_discrete p j)
      (λ e. let f = r.bans p y in let old : ban me.0 p ≡ o = ap (ban me.0) e in subst (λ (g : Ban). BanOk s.words (z.slots + p + 1) g) (sym (ap (ban (W a l)) e ∙ here a l))
      record { stands = f.stands ∙ ap (λ (g : Ban). ban_word g.parent g.cancel) old; none_yet = λ g. absurd (standing g); small = subst (λ (g : Ban). g.parent < 16777216) old f.small })
      (λ e. subst (λ (g : Ban). BanOk s.words (z.slots + p + 1) g) (sym (rest a l p e)) (r.bans p y)))
      near in
      let pass : (a l : ℕ) → Goes (W a l, me.1) (noted (past me.0 j (i + 1 - 1) a l) (did x n n)) = λ a l. goes me (W a l) bare ∙ (λ q. (noted (past me.0 j (back_one i q) a l) (did x n n), [])) in
      dite (ℕ_discrete (parent n) o.parent)
      (λ child. dite (ℕ_discrete (cancel n) 0)
      (λ unmarked. let full : n ≢ 0 = λ e. standing (sym child ∙ (ap parent e ∙ zero_parent)) in let t = (r.tasks i inside full).stands in
      (W x n, step_to x n (λ _. (refl, refl)) (λ _. ap (λ (q : ℕ). q % 2) t ∙ (let odd : (2 * i + 3) % 2 ≡ 1 = omega arith in odd)), ((λ _. pass x n), λ f. absurd (f (child, unmarked)))))
      (λ marked. (W 0 0, step_to 0 0 (λ f. absurd (marked f.1)) (λ f. absurd (f refl)), ((λ f. absurd (marked f.1)), λ _. pass 0 0))))
      (λ stranger. (W 0 0, step_to 0 0 (λ f. absurd (stranger f.0)) (λ f. absurd (f refl)), ((λ f. absurd (stranger f.0)), λ _. pass 0 0))))

  pub strikes : (slots id : ℕ) (me : M) (i old c : ℕ) → me.0.lead ≡ 1 → me.1 ≡ [] → i < z.slots → old ≢ 0 → cancel old ≡ 0 → c ≢ 0 → (me.0.about ≢ 0 → (me.0.about ≡ i + 1) × (me.0.loaded ≡ old)) → me.0.half ≡ 0
      → Allows (BoardOk z) slots id me (i + 1) (λ n. either (eqb n old) (with_mark old c) n) (after_mark (step slots (i + 1) old (with_mark old c) none) me)
  strikes slots id me i old c first bare inside full unmarked some_cancel about whole = let x : ℕ = i + 1 in let new : ℕ = with_mark old c in at_first z slots x me (λ n. either (eqb n old) new n) (after_mark (step slots x old new none) me) id first (λ s r there. let n : ℕ = get_or s.words x 0 in let wide = r.wide in
      dite (ℕ_discrete n old)
      (λ hit. let w : View = noted (struck me.0 i (number n)) (did x n new) in let ws : List ℕ = set s.words x new in
      let here : task ws i ≡ new = get_or-set_same s.words x new 0 (omega arith) in let rest : (k : ℕ) → k ≢ i → task ws k ≡ task s.words k = λ k e. get_or-set_other s.words x (k + 1) new 0 (λ f. e (omega arith)) in
      let t = (r.tasks i inside (λ e. full (sym hit ∙ e))).stands in
      let mask_rest : (k : ℕ) → mask z ws k ≡ mask z s.words k = λ k. get_or-set_other s.words x (z.slots + z.bans + k + 1) new 0 (λ e. omega arith) in
      let same_number : (k : ℕ) → k ≡ i → number (task ws k) ≡ number (task s.words k) = λ k e. ap (λ (q : ℕ). number (task ws q)) e ∙ (ap number here ∙ (number_mark old c ∙ (ap number (sym hit) ∙ ap (λ (q : ℕ). number (task s.words q)) (sym e)))) in
      let now_cancel : (k : ℕ) → k ≡ i → cancel (task ws k) ≡ c = λ k e. ap (λ (q : ℕ). cancel (task ws q)) e ∙ (ap cancel here ∙ cancel_mark old c unmarked) in (
        w,
        subst (λ e. BoardOk z record { words = set s.words x (either e new n); homes = s.homes; views = set s.views 0 w }) (sym (eq-eqb n old hit))
            (control_step z me.0 s r w x new there refl refl refl refl refl refl (refl, refl, refl) refl (length-set me.0.last i (number n)) (λ e. omega arith)
            (λ k l some_word. dite (ℕ_discrete k i) (λ e. (same_number k e, λ f. full (sym hit ∙ (ap (task s.words) (sym e) ∙ f)))) (λ e. (ap number (rest k e), λ f. some_word (rest k e ∙ f))))
            (λ k l some_word. dite (ℕ_discrete k i)
            (λ e. ((λ _. subst (λ (q : ℕ). In q w.marked) (sym (same_number k e ∙ ap (λ (q : ℕ). number (task s.words q)) e)) (in_last (number n) me.0.marked)), (λ f. absurd (some_cancel (sym (now_cancel k e) ∙ f))), λ _. ap (λ (q : ℕ). get_or w.last q 0) e ∙ (get_or-set_same me.0.last i (number n) 0 (let l = r.lasts in omega arith) ∙ sym (same_number k e ∙ ap (λ (q : ℕ). number (task s.words q)) e))))
            (λ e. let u = r.tasks k l (λ f. some_word (rest k e ∙ f)) in (
              (λ f. subst (λ (q : ℕ). In (number q) w.marked) (sym (rest k e)) (in_front (number (task s.words k)) me.0.marked (number n ∷ []) (u.marked (λ g. f (ap cancel (rest k e) ∙ g))))),
              (λ f g. ⊎_elim (λ (a : In (number (task ws k)) me.0.marked). u.unmarked (sym (ap cancel (rest k e)) ∙ f) (subst (λ (q : ℕ). In (number q) me.0.marked) (rest k e) a))
                  (λ (a : number (task ws k) ≡ number n). let p = u.stands in let same_at : r.at (number (task s.words k)) ≡ r.at (number n) = ap r.at (sym (ap number (rest k e)) ∙ a) in e (omega arith))
                  (in_more (number (task ws k)) (number n) me.0.marked g)),
              λ f. get_or-set_other me.0.last i k (number n) 0 e ∙ (u.latest (λ g. f (ap cancel (rest k e) ∙ g)) ∙ sym (ap number (rest k e))),
            )))
            (λ k q h y ok. dite (ℕ_discrete q i)
            (λ e. record {
              inside = ok.inside;
              owned = ok.owned;
              is = same_number q e ∙ ok.is;
              child_of = ap (λ (f : ℕ). parent (task ws f)) e ∙ (ap parent here ∙ (parent_mark old c ∙ (ap parent (sym hit) ∙ (ap (λ (f : ℕ). parent (task s.words f)) (sym e) ∙ ok.child_of))));
              race = λ p t. absurd (some_cancel (sym (now_cancel q e) ∙ t.unmarked));
              masked = λ b a. ap (λ (m : ℕ). bit_at m b) (mask_rest q) ∙ ok.masked b a;
              caught = ok.caught;
              halfway = λ b a. absurd (omega arith);
            })
            (λ e. hold_control z me.0 s r w ws k q h (rest q e) (mask_rest q)
            (λ p t. ok.race p (same_late z me.0 w s.words ws q p (rest q e) refl (λ f. absurd (let g = (about (λ a. let b : 0 ≡ q + 1 = sym a ∙ f in omega arith)).0 in e (omega arith))) t))
            (λ m f. f) (λ f. (f, refl)) ok))
            (λ j l. let o = r.bans j l in record { stands = get_or-set_other s.words x (z.slots + j + 1) new 0 (λ e. omega arith) ∙ o.stands; none_yet = o.none_yet; small = o.small })
            (λ m h. ⊎_elim (λ (a : In m me.0.marked). r.marks m a) (λ (a : m ≡ number n). ap (λ (q : ℕ). r.at q % 2) a ∙ (ap (λ (q : ℕ). q % 2) t ∙ (let odd : (2 * i + 3) % 2 ≡ 1 = omega arith in odd))) (in_more m (number n) me.0.marked h))
            (λ a m f. in_front a me.0.marked (number n ∷ []) (r.known a m f))
            (λ f. absurd (f refl))),
        ((λ _. goes me w bare ∙ (λ q. (noted (struck me.0 (back_one i q) (number n)) (did x n new), []))), λ f. absurd (f hit)),
      ))
      (λ miss. let w : View = noted (missed me.0) (did x n n) in (
        w,
        subst (λ e. BoardOk z record { words = set s.words x (either e new n); homes = s.homes; views = set s.views 0 w }) (sym (ne_eqb n old miss))
            (control_quiet z me.0 s r w x there refl refl refl refl refl refl (refl, refl, refl) refl refl (λ e. omega arith) refl refl refl refl refl
            (λ q p _ y. same_late z me.0 w s.words s.words q p refl refl
            (λ f g. let a = about (λ b. let d : 0 ≡ q + 1 = sym b ∙ f in omega arith) in let same : q ≡ i = (let b = a.0 in omega arith) in miss (sym (ap (task s.words) same) ∙ (sym g ∙ a.1))) y)
            r.bans (λ f. absurd (f refl))),
        ((λ e. absurd (miss e)), λ _. goes me w bare),
      )))

  -- all words are 0 at the start
  pub starts : (ws : List ℕ) → length ws ≡ 2 * z.slots + z.bans + 1 → ((i : ℕ) → get_or ws i 0 ≡ 0) → z.seats ≤ 4 → BoardOk z (opening ws [] (newcomer z 1 z.seats))
  starts ws wide blank few = (
    v,
    record {
      owner = λ _. 0;
      at = λ _. 0;
      wide = wide;
      few = few;
      leads = refl;
      lasts = length-replicate z.slots 0;
      dealt = (let e : 1 + z.seats ≡ z.seats + 1 = omega arith in e);
      first = refl;
      joins = (refl, refl);
      taken = none_out z.slots;
      counted = (let e = blank 0 in omega arith);
      unborn = λ _ _. refl;
      seats = λ k u e. ⊎_elim (λ (t : (k ≡ 0) × (v ≡ u)). subst (λ (y : ℕ × View). SeatOk z v (λ _. 0) (λ _. 0) ws y.0 y.1) (λ i. (sym t.0 i, t.1 i)) (blank_seat z v (λ _. 0) (λ _. 0) ws 0 1 z.seats (λ _. refl)))
          (λ (t : (k ≢ 0) × (get_elem? (v ∷ []) k ≡ some u)). absurd (beyond k u t.0 t.1)) (at_set (v ∷ []) 0 k v u e);
      tasks = λ i _ n. absurd (n (blank (i + 1)));
      bans = λ j _. subst (BanOk ws (z.slots + j + 1)) (sym (all_lifted z.bans j)) record { stands = blank (z.slots + j + 1) ∙ sym (ban_none 0 0 refl refl); none_yet = λ _. refl; small = omega arith };
      marks = λ _ h. absurd h;
      known = λ _ _ h. absurd h;
      nearly = λ f. absurd (f refl);
    },
  )
    where
      v : View
      v = newcomer z 1 z.seats

      beyond : (j : ℕ) (d : View) → j ≢ 0 → get_elem? (v ∷ []) j ≡ some d → ⊥
      beyond zero d other e = other refl
      beyond (suc j) d other e = some-ne-none d (sym e)

  pub deals : (id : ℕ) (v : View) → v.lead ≡ 1 → v.size ≡ z → 0 < v.to_deal → Splits (BoardOk z) id v (record v { to_deal = v.to_deal - 1 }) (newcomer v.size 0 0)
  deals id v lead size left s (c, q) there = let first : id ≡ 0 = (q.seats id v there).leads (λ e. absurd (omega arith)) in let seat : get_elem? s.views 0 ≡ some v = ap (get_elem? s.views) (sym first) ∙ there in
      subst (λ (k : ℕ). BoardOk z record { words = s.words; homes = s.homes; views = set s.views k w ++ newcomer v.size 0 0 ∷ [] }) (sym first)
      (subst (λ (x : Size). BoardOk z record { words = s.words; homes = s.homes; views = set s.views 0 w ++ newcomer x 0 0 ∷ [] }) (sym size) (go s (as_first z s v (c, q) seat) seat))
    where
      w : View
      w = record v { to_deal = v.to_deal - 1 }

      o : View
      o = newcomer z 0 0

      told-more : (l : List View) → told_count (l ++ o ∷ []) ≡ told_count l
      told-more [] = refl
      told-more (x ∷ xs) = ap (λ (n : ℕ). x.told + n) (told-more xs)

      gone-more : (l : List View) → gone_count (l ++ o ∷ []) ≡ gone_count l
      gone-more [] = refl
      gone-more (x ∷ xs) = ap (λ (n : ℕ). x.gone + n) (gone-more xs)

      go : (s : Now) → BoardAt z v s → get_elem? s.views 0 ≡ some v → BoardOk z record { words = s.words; homes = s.homes; views = set s.views 0 w ++ o ∷ [] }
      go s r there = (
        w,
        record {
          owner = r.owner;
          at = r.at;
          wide = r.wide;
          few = r.few;
          leads = r.leads;
          lasts = r.lasts;
          dealt = (let a = length-append (set s.views 0 w) (o ∷ []) in let b = length-set s.views 0 w in let c = r.dealt in omega arith);
          first = at_longer (set s.views 0 w) (o ∷ []) 0 w (at_zero s.views v w there);
          joins = ((let a = gone-more (set s.views 0 w) in let b = gone-set s.views 0 v w there in let c = r.joins.0 in omega arith), r.joins.1);
          taken = r.taken;
          counted = (let a = told-more (set s.views 0 w) in let b = told-set s.views 0 v w there in let c = r.counted in omega arith);
          unborn = r.unborn;
          seats = λ k u e. ⊎_elim (λ (f : get_elem? (set s.views 0 w) k ≡ some u). each (SeatOk z w r.owner r.at s.words) s.views 0 w (moved 0 v w refl refl refl refl refl refl refl (r.seats 0 v there)) (λ i y _ g. moved i y y refl refl refl refl refl refl refl (r.seats i y g)) k u f)
              (λ (f : o ≡ u). subst (SeatOk z w r.owner r.at s.words k) f (blank_seat z w r.owner r.at s.words k 0 0 (λ f. absurd (f refl)))) (at_snoc (set s.views 0 w) o u k e);
          tasks = λ i l n. let t = r.tasks i l n in let f = found i t in record { stands = t.stands; view = f.0; seated = at_longer (set s.views 0 w) (o ∷ []) (r.owner i) f.0 f.1; is = t.is ∙ f.2; named = t.named; marked = t.marked; unmarked = t.unmarked; latest = t.latest };
          bans = r.bans;
          marks = r.marks;
          known = r.known;
          nearly = r.nearly;
        },
      )
        where
          moved : (k : ℕ) (u y : View) → y.size ≡ u.size → y.lead ≡ u.lead → y.held ≡ u.held → y.drawn ≡ u.drawn → y.told ≡ u.told → y.bans ≡ u.bans → y.gone ≡ u.gone → SeatOk z v r.owner r.at s.words k u → SeatOk z w r.owner r.at s.words k y
          moved k u y size_is lead held drawn told bans stay ok = record {
            left = left_same u y stay (λ e. held ∙ e) ok.left;
            leads = λ n. ok.leads (λ e. n (lead ∙ e));
            once = subst (λ (n : ℕ). n < 2) (sym told) ok.once;
            unused = λ n. let t = ok.unused (λ e. n (drawn ∙ e)) in (ap r.at drawn ∙ t.0, subst (λ (n : ℕ). n < 1048576) (sym drawn) t.1);
            holds = λ i n. let e : hold y i ≡ hold u i = ap (λ (l : List Hold). get_or l i no_hold) held in subst (HoldOk z w r.owner s.words k i) (sym e)
                (let o = ok.holds i (λ f. n (ap (λ (h : Hold). h.number) e ∙ f)) in hold_control z v s r w s.words k i (hold u i) refl refl (λ q l. o.race q (same_late z v w s.words s.words i q refl refl l.unseen l)) (λ m f. f) (λ f. (f, refl)) o);
          }

          found : (i : ℕ) (t : WordOk v r.owner r.at s.words s.views i) → (u : View) × (get_elem? (set s.views 0 w) (r.owner i) ≡ some u) × ((hold t.view i).number ≡ (hold u i).number)
          found i t = dite (ℕ_discrete (r.owner i) 0)
              (λ e. (w, ap (get_elem? (set s.views 0 w)) e ∙ at_zero s.views v w there, ap (λ (x : View). (hold x i).number) (some-injective t.view v (sym t.seated ∙ (ap (get_elem? s.views) e ∙ there)))))
              (λ n. (t.view, set_else s.views 0 (r.owner i) w n ∙ t.seated, refl))

  -- a mask is loaded of the slot i
  pub halves : (slots id : ℕ) (me : M) (i : ℕ) → me.0.lead ≡ 1 → me.1 ≡ [] → i < z.slots → me.0.size ≡ z → Allows (BoardOk z) slots id me (z.slots + z.bans + i + 1) (λ n. n) (after_half (step slots (z.slots + z.bans + i + 1) 0 0 none) me)
  halves slots id me i first bare inside size = let x : ℕ = z.slots + z.bans + i + 1 in at_first z slots x me (λ n. n) (after_half (step slots x 0 0 none) me) id first (λ s r there. let n : ℕ = get_or s.words x 0 in let ws : List ℕ = set s.words x n in let e : ws ≡ s.words = set-get_or s.words x 0 in
      let at : i ≡ x - me.0.size.slots - me.0.size.bans - 1 = (let b : me.0.size.slots ≡ z.slots = ap (λ (q : Size). q.slots) size in let d : me.0.size.bans ≡ z.bans = ap (λ (q : Size). q.bans) size in omega arith) in
      let w : View = noted (record me.0 { half = i + 1; half_mask = n }) (did x n n) in (
        w,
        control_calm z me.0 s r w x n there refl refl refl refl refl refl (refl, refl, refl) refl refl (λ f. omega arith) refl refl (λ k _. ap (λ (q : List ℕ). task q k) e)
            (λ k q h _ ok. let t : task ws q ≡ task s.words q = ap (λ (l : List ℕ). task l q) e in record {
              inside = ok.inside;
              owned = ok.owned;
              is = ap number t ∙ ok.is;
              child_of = ap parent t ∙ ok.child_of;
              race = λ j l. ok.race j (same_late z me.0 w s.words ws q j t refl (λ f g. l.unseen f (g ∙ sym t)) l);
              masked = λ b a. ap (λ (l : List ℕ). bit_at (mask z l q) b) e ∙ ok.masked b a;
              caught = ok.caught;
              halfway = λ b a _ o. let same : q ≡ i = omega arith in ap (λ (k : ℕ). bit_at (mask z s.words k) b) (sym same) ∙ ok.masked b (inl o);
            })
            (λ j l. subst (λ (q : List ℕ). BanOk q (z.slots + j + 1) (ban w j)) (sym e) (r.bans j l)) r.known r.nearly,
        goes me w bare ∙ (λ q. (noted (record me.0 { half = at q + 1; half_mask = n }) (did x n n), [])),
      ))

  -- and then its word
  pub wholes : (slots id : ℕ) (me : M) (i : ℕ) → me.0.lead ≡ 1 → me.1 ≡ [] → i < z.slots → me.0.half ≡ i + 1 → Allows (BoardOk z) slots id me (i + 1) (λ n. n) (after_whole (step slots (i + 1) 0 0 none) me)
  wholes slots id me i first bare inside half = let x : ℕ = i + 1 in at_first z slots x me (λ n. n) (after_whole (step slots x 0 0 none) me) id first (λ s r there. let n : ℕ = get_or s.words x 0 in let ws : List ℕ = set s.words x n in let e : ws ≡ s.words = set-get_or s.words x 0 in
      dite (ℕ_discrete (cancel n) 0)
      (λ unmarked. let w : View = noted (record me.0 { half = 0; half_mask = 0 }) (did x n n) in (
        w,
        control_calm z me.0 s r w x n there refl refl refl refl refl refl (refl, refl, refl) refl refl (λ f. omega arith) refl refl (λ k _. ap (λ (q : List ℕ). task q k) e)
            (λ k q h _ ok. hold_control z me.0 s r w ws k q h (ap (λ (l : List ℕ). task l q) e) (ap (λ (l : List ℕ). mask z l q) e)
            (λ j l. ok.race j (same_late z me.0 w s.words ws q j (ap (λ (b : List ℕ). task b q) e) refl (λ f g. l.unseen f (g ∙ sym (ap (λ (b : List ℕ). task b q) e))) l)) (λ m f. f) (λ f. absurd (omega arith)) ok)
            (λ j l. subst (λ (q : List ℕ). BanOk q (z.slots + j + 1) (ban w j)) (sym e) (r.bans j l)) r.known r.nearly,
        ((λ f. absurd (f unmarked)), λ _. goes me w bare),
      ))
      (λ marked. let w : View = noted (record me.0 { half = 0; half_mask = 0; masks = record { number = number n; nodes = me.0.half_mask } ∷ me.0.masks }) (did x n n) in
      let full : n ≢ 0 = λ f. marked (ap cancel f ∙ zero_cancel) in let here = r.tasks i inside full in let stands = here.stands in (
        w,
        control_calm z me.0 s r w x n there refl refl refl refl refl refl (refl, refl, refl) refl refl (λ f. omega arith) refl refl (λ k _. ap (λ (q : List ℕ). task q k) e)
            (λ k q h some_number ok. let t : task ws q ≡ task s.words q = ap (λ (l : List ℕ). task l q) e in record {
              inside = ok.inside;
              owned = ok.owned;
              is = ap number t ∙ ok.is;
              child_of = ap parent t ∙ ok.child_of;
              race = λ j l. ok.race j (same_late z me.0 w s.words ws q j t refl (λ f g. l.unseen f (g ∙ sym t)) l);
              masked = λ b a. ap (λ (l : List ℕ). bit_at (mask z l q) b) e ∙ ok.masked b a;
              caught = λ m b f o. ⊎_elim
                  (λ (g : (h.number ≡ number n) × (m ≡ me.0.half_mask)). let word = (r.tasks q ok.inside (λ f. some_number (sym ok.is ∙ (ap number f ∙ zero_number)))).stands in let same_at : r.at (number (task s.words q)) ≡ r.at (number n) = ap r.at (ok.is ∙ g.0) in
                  let same : q ≡ i = omega arith in ap (λ (y : ℕ). bit_at y b) g.1 ∙ ok.halfway b (half ∙ ap (λ (y : ℕ). y + 1) (sym same)) (λ f. marked (ap (λ (y : ℕ). cancel (task s.words y)) (sym same) ∙ f)) o)
                  (λ (g : Has h.number m me.0.masks). ok.caught m b g o) f;
              halfway = λ b a _ _. absurd (omega arith);
            })
            (λ j l. subst (λ (q : List ℕ). BanOk q (z.slots + j + 1) (ban w j)) (sym e) (r.bans j l))
            (λ a m f. ⊎_elim (λ (g : (a ≡ number n) × (m ≡ me.0.half_mask)). subst (λ (y : ℕ). In y me.0.marked) (sym g.0) (here.marked marked)) (λ (g : Has a m me.0.masks). r.known a m g) f) r.nearly,
        ((λ _. goes me w bare), λ f. absurd (marked f)),
      )))

  pub lifts : (slots id : ℕ) (me : M) (j : ℕ) → me.0.lead ≡ 1 → me.1 ≡ [] → j < z.bans → me.0.size ≡ z → length me.0.bans ≡ z.bans → Allows (BoardOk z) slots id me (z.slots + j + 1) (λ _. 0) (after_lift (step slots (z.slots + j + 1) 0 0 none) me)
  lifts slots id me j first bare inside size sized = let x : ℕ = z.slots + j + 1 in at_first z slots x me (λ _. 0) (after_lift (step slots x 0 0 none) me) id first (λ s r there. let n : ℕ = get_or s.words x 0 in let wide = r.wide in
      let w : View = noted (with_ban me.0 j no_ban) (did x n 0) in let ws : List ℕ = set s.words x 0 in
      let here : ban w j ≡ no_ban = get_or-set_same me.0.bans j no_ban no_ban (omega arith) in let rest : (k : ℕ) → k ≢ j → ban w k ≡ ban me.0 k = λ k e. get_or-set_other me.0.bans j k no_ban no_ban e in
      let still : (i : ℕ) → i < z.slots → task ws i ≡ task s.words i = λ i l. get_or-set_other s.words x (i + 1) 0 0 (λ e. omega arith) in
      let place : j ≡ x - me.0.size.slots - 1 = (let q : me.0.size.slots ≡ z.slots = ap (λ (y : Size). y.slots) size in omega arith) in (
        w,
        control_calm z me.0 s r w x 0 there refl refl refl refl refl refl (refl, refl, refl) (length-set me.0.bans j no_ban) refl (λ e. omega arith) refl refl still
            (λ k i h m ok. hold_control z me.0 s r w ws k i h (still i ok.inside) (get_or-set_other s.words x (z.slots + z.bans + i + 1) 0 0 (λ e. omega arith))
            (λ q t. dite (ℕ_discrete q j) (λ e. absurd (t.stands (ap (λ (y : Ban). y.parent) (ap (ban w) e ∙ here)))) (λ e. ok.race q (same_late z me.0 w s.words ws i q (still i ok.inside) (rest q e) (λ f g. t.unseen f (g ∙ sym (still i ok.inside))) t)))
            (λ a f. f) (λ f. (f, refl)) ok)
            (λ q l. dite (ℕ_discrete q j)
            (λ e. subst (λ (y : ℕ × Ban). BanOk ws y.0 y.1) (λ a. (z.slots + sym e a + 1, (sym here ∙ ap (ban w) (sym e)) a))
            record { stands = get_or-set_same s.words x 0 0 (omega arith) ∙ sym (ban_none 0 0 refl refl); none_yet = λ _. refl; small = omega arith })
            (λ e. let o = r.bans q l in subst (λ (y : Ban). BanOk ws (z.slots + q + 1) y) (sym (rest q e))
            record { stands = get_or-set_other s.words x (z.slots + q + 1) 0 0 (λ f. e (omega arith)) ∙ o.stands; none_yet = o.none_yet; small = o.small }))
            r.known r.nearly,
        ((r.bans j inside).stands ∙ ap (λ (k : ℕ). ban_word (ban me.0 k).parent (ban me.0 k).cancel) place, goes me w bare ∙ (λ q. (noted (with_ban me.0 (place q) no_ban) (did x n 0), []))),
      ))
