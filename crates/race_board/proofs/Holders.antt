-- The steps of a data seat keep the rule.
use Rattle.std.proofs.Common.{◌≡◌, ◌≢◌, ℕ, zero, suc, ◌+◌, ◌-◌, ◌*◌, ◌%◌, ◌^◌, ◌<◌, ◌≤◌, ◌⊎◌, List, [], ◌∷◌, length, get_or, set, sym, refl, ap, ◌∙◌, subst, max, bit_or, bit_and, ⊎_elim, inl, inr, arith, eqb, eq-eqb, ne_eqb, get_or-set_other, get_or-set_same, length-set}
use mathlib.Core.Logic.{dite}
use mathlib.Core.Option.{none, some, some-injective, some-ne-none}
use native.Mathlib.Decide.{ℕ_discrete, dec_le}
use lib.ListN.{get_elem?}
use lib.Seq.{set-get_or}
use prog.Atomic.{either}
use Rattle.atomic_table.specs.Table.{State, Me, step, keeps, stepped, Allows}
use Rattle.atomic_table.proofs.Lists.{set_else}
use Rattle.race_board.specs.declared.views.Size.{Size}
use Rattle.race_board.specs.declared.views.Did.{Did}
use Rattle.race_board.specs.declared.views.Hold.{Hold}
use Rattle.race_board.specs.declared.views.Progress.{Progress}
use Rattle.race_board.specs.declared.views.Progress.TheVariants.{Next, Clear, Banned}
use Rattle.race_board.specs.declared.views.View.{View}
use Rattle.std.specs.Int.{bit_at}
use Rattle.std.proofs.lemmas.Nat.Bits.{bit_at-zero, bit_at_or, bit_at_and, bit_at-lt}
use Rattle.race_board.specs.Words.{number, parent, cancel, banned, by}
use Rattle.race_board.specs.Board.{hold, ban, no_hold, task, mask, In, Has, Tracked, told_count, Behind, Late, HoldOk, SeatOk, WordOk, BoardAt, BoardOk}
use Rattle.race_board.specs.Steps.{Goes, did, noted, drew, refused, took, fresh, with_hold, with_check, after_track, after_untrack, after_look, after_draw, after_claim, after_glance, after_check, after_end}
use Rattle.race_board.proofs.Parts.{zero_number, banned_ban}
use Rattle.race_board.proofs.Boards.{put, put_here, put_else, told-set, gone-set, told-most, each, left_same, left_set, same_late, hold_stays, other_seat, same_word}

abbrev Now : Type 0
Now = State (Unit {0}) View

abbrev M : Type 0
M = Me (Unit {0}) View

module _ (z : Size) (c : View) (s : Now) (r : BoardAt z c s) where
  -- a step of the seat id, from the view v to w, which sets the word x to y
  data_step : (id : ℕ) (v w : View) (x y : ℕ) (owner' at' : ℕ → ℕ) → get_elem? s.views id ≡ some v → id ≢ 0 → w.gone ≡ v.gone
      → get_or (set s.words x y) 0 0 ≤ 1048575 + told_count (set s.views id w) → ((n : ℕ) → get_or (set s.words x y) 0 0 < n → at' n ≡ 0)
      → SeatOk z c owner' at' (set s.words x y) id w
      → ((k n : ℕ) → k ≢ id → r.at n ≡ 2 * k + 2 → at' n ≡ 2 * k + 2)
      → ((i : ℕ) → i < z.slots → r.owner i ≢ id → number (task s.words i) ≢ 0 → (owner' i ≡ r.owner i) × (task (set s.words x y) i ≡ task s.words i) × (mask z (set s.words x y) i ≡ mask z s.words i))
      → ((n : ℕ) → r.at n % 2 ≡ 1 → at' n % 2 ≡ 1)
      → ((i : ℕ) → i < z.slots → task (set s.words x y) i ≢ 0 → WordOk c owner' at' (set s.words x y) (set s.views id w) i)
      → ((j : ℕ) → j < z.bans → get_or (set s.words x y) (z.slots + j + 1) 0 ≡ get_or s.words (z.slots + j + 1) 0)
      → BoardOk z record { words = set s.words x y; homes = s.homes; views = set s.views id w }
  data_step id v w x y owner' at' there holder here counted unborn mine drawn kept odd tasks bans = (
    c,
    record {
      owner = owner';
      at = at';
      wide = length-set s.words x y ∙ r.wide;
      few = r.few;
      leads = r.leads;
      lasts = r.lasts;
      dealt = ap (λ (n : ℕ). n + c.to_deal) (length-set s.views id w) ∙ r.dealt;
      first = set_else s.views id 0 w (λ e. holder (sym e)) ∙ r.first;
      joins = ((let a = gone-set s.views id v w there in let b = r.joins.0 in omega arith), r.joins.1);
      taken = r.taken;
      counted = counted;
      unborn = unborn;
      seats = each (SeatOk z c owner' at' (set s.words x y)) s.views id w mine
          (λ k u other e. other_seat z c r.owner r.at owner' at' s.words (set s.words x y) id k u other (λ n. drawn k n other) kept (r.seats k u e));
      tasks = tasks;
      bans = λ j l. let b = r.bans j l in record { stands = bans j l ∙ b.stands; none_yet = b.none_yet; small = b.small };
      marks = λ n m. odd n (r.marks n m);
      known = r.known;
      nearly = λ a. odd (number c.loaded) (r.nearly a);
    },
  )

  -- a load, or a compare-exchange that fails: the seat's slots keep their tickets
  quiet : (id : ℕ) (v w : View) (x : ℕ) → get_elem? s.views id ≡ some v → id ≢ 0 → w.told ≡ v.told → w.gone ≡ v.gone → ((i : ℕ) → (hold w i).number ≡ (hold v i).number) → SeatOk z c r.owner r.at s.words id w
      → BoardOk z record { words = set s.words x (get_or s.words x 0); homes = s.homes; views = set s.views id w }
  quiet id v w x there holder told gone same mine = let ws : List ℕ = set s.words x (get_or s.words x 0) in let e : ws ≡ s.words = set-get_or s.words x 0 in
      let sum = told-set s.views id v w there in let total = r.counted in let first : get_or ws 0 0 ≡ get_or s.words 0 0 = ap (λ (l : List ℕ). get_or l 0 0) e in
      data_step id v w x (get_or s.words x 0) r.owner r.at there holder gone (omega arith) (λ n l. r.unborn n (omega arith)) (subst (λ (l : List ℕ). SeatOk z c r.owner r.at l id w) (sym e) mine)
      (λ k n _ h. h) (λ i _ _ _. (refl, ap (λ (l : List ℕ). task l i) e, ap (λ (l : List ℕ). mask z l i) e)) (λ n h. h)
      (λ i l n. let old : task s.words i ≢ 0 = λ f. n (ap (λ (l : List ℕ). task l i) e ∙ f) in
      same_word z c r.owner r.at r.owner r.at s.words ws s.views id v w i there refl (ap (λ (l : List ℕ). task l i) e) refl (same i) (r.tasks i l old))
      (λ j _. ap (λ (l : List ℕ). get_or l (z.slots + j + 1) 0) e)

  -- the same slots
  alike : (id : ℕ) (v w : View) → w.size ≡ v.size → w.lead ≡ v.lead → w.held ≡ v.held → w.drawn ≡ v.drawn → w.told ≡ v.told → w.bans ≡ v.bans → w.gone ≡ v.gone → SeatOk z c r.owner r.at s.words id v → SeatOk z c r.owner r.at s.words id w
  alike id v w size lead held drawn told bans gone ok = record {
    left = left_same v w gone (λ e. held ∙ e) ok.left;
    once = subst (λ (n : ℕ). n < 2) (sym told) ok.once;
    leads = λ n. ok.leads (λ e. n (lead ∙ e));
    unused = λ n. let u = ok.unused (λ e. n (drawn ∙ e)) in (ap r.at drawn ∙ u.0, subst (λ (n : ℕ). n < 1048576) (sym drawn) u.1);
    holds = λ i n. let e : hold w i ≡ hold v i = ap (λ (l : List Hold). get_or l i no_hold) held in subst (HoldOk z c r.owner s.words id i) (sym e) (ok.holds i (λ f. n (ap (λ (h : Hold). h.number) e ∙ f)));
  }

stays_there : (l : List View) (k : ℕ) (a b : View) → get_elem? l k ≡ some a → get_elem? (set l k b) k ≡ some b
stays_there [] k a b e = absurd (some-ne-none a (sym e))
stays_there (x ∷ xs) zero a b e = refl
stays_there (x ∷ xs) (suc k) a b e = stays_there xs k a b e

back_one : (i : ℕ) → i ≡ i + 1 - 1
back_one i = omega arith

-- a data seat is not the first
apart_from_first : (z : Size) (c : View) (s : Now) (r : BoardAt z c s) (id : ℕ) (v : View) → get_elem? s.views id ≡ some v → v.lead ≡ 0 → id ≢ 0
apart_from_first z c s r id v there idle e = let same : c.lead ≡ v.lead = ap (λ (x : View). x.lead) (some-injective c v (sym r.first ∙ (ap (get_elem? s.views) (sym e) ∙ there))) in let one = r.leads in absurd (omega arith)

goes : (me : M) (w : View) → me.1 ≡ [] → Goes (w, me.1) w
goes me w e = λ i. (w, e i)

module _ (z : Size) where
  -- a load of the seat's own task word
  pub glances : (slots id : ℕ) (me : M) (i : ℕ) → me.0.lead ≡ 0 → me.1 ≡ [] → (hold me.0 i).number ≢ 0 → Allows (BoardOk z) slots id me (i + 1) (λ n. n) (after_glance (step slots (i + 1) 0 0 none) me)
  glances slots id me i idle bare full s (c, r) _ there _ = let holder = apart_from_first z c s r id me.0 there idle in let n : ℕ = get_or s.words (i + 1) 0 in let w : View = noted me.0 (did (i + 1) n n) in
      let a = (r.seats id me.0 there).holds i full in (
        w,
        keeps,
        tt,
        quiet z c s r id me.0 w (i + 1) there holder refl refl (λ i. refl) (alike z c s r id me.0 w refl refl refl refl refl refl refl (r.seats id me.0 there)),
        (a.is ∙ ap (λ (k : ℕ). (hold me.0 k).number) (back_one i), a.child_of ∙ ap (λ (k : ℕ). (hold me.0 k).parent) (back_one i), goes me w bare),
      )

  pub draws : (slots id : ℕ) (me : M) → me.0.lead ≡ 0 → me.1 ≡ [] → me.0.drawn ≡ 0 → me.0.told ≡ 0 → Allows (BoardOk z) slots id me 0 (λ n. (n + 1) % 2 ^ 64) (after_draw (step slots 0 1 0 none) me)
  draws slots id me idle bare free untold s (c, r) _ there small = let holder = apart_from_first z c s r id me.0 there idle in let n : ℕ = get_or s.words 0 0 in let ok = r.seats id me.0 there in
      let most : n ≤ 1048575 + told_count s.views = r.counted in let fewer : told_count s.views ≤ length s.views = told-most s.views (λ k v e. (r.seats k v e).once) in let dealt = r.dealt in let few = r.few in
      let next : (n + 1) % 18446744073709551616 ≡ n + 1 = omega arith in let wide = r.wide in
      let here : get_or (set s.words 0 (n + 1)) 0 0 ≡ n + 1 = get_or-set_same s.words 0 (n + 1) 0 (omega arith) in let rest : (i : ℕ) → task (set s.words 0 (n + 1)) i ≡ task s.words i = λ i. get_or-set_other s.words 0 (i + 1) (n + 1) 0 (λ e. omega arith) in
      let mask_rest : (i : ℕ) → mask z (set s.words 0 (n + 1)) i ≡ mask z s.words i = λ i. get_or-set_other s.words 0 (z.slots + z.bans + i + 1) (n + 1) 0 (λ e. omega arith) in
      let ban_rest : (j : ℕ) → get_or (set s.words 0 (n + 1)) (z.slots + j + 1) 0 ≡ get_or s.words (z.slots + j + 1) 0 = λ j. get_or-set_other s.words 0 (z.slots + j + 1) (n + 1) 0 (λ e. omega arith) in
      let T : View → Type 0 = λ w. BoardOk z record { words = set s.words 0 ((n + 1) % 18446744073709551616); homes = s.homes; views = set s.views id w } in
      let back : (w : View) → BoardOk z record { words = set s.words 0 (n + 1); homes = s.homes; views = set s.views id w } → T w = λ w. subst (λ (y : ℕ). BoardOk z record { words = set s.words 0 y; homes = s.homes; views = set s.views id w }) (sym next) in
      elim (dec_le 1048575 n) [
        | yes full ↦ (let w : View = noted (refused me.0) (did 0 n (n + 1)) in let sum = told-set s.views id me.0 w there in (
          w,
          keeps,
          tt,
          back w (data_step z c s r id me.0 w 0 (n + 1) r.owner r.at there holder refl (omega arith) (λ m l. r.unborn m (omega arith))
              (record {
                once = omega arith;
                leads = ok.leads;
                left = ok.left;
                unused = ok.unused;
                holds = λ i h. hold_stays z c r.owner r.owner s.words (set s.words 0 (n + 1)) id i (hold w i) refl (rest i) (mask_rest i) (ok.holds i h);
              })
              (λ k m _ h. h) (λ i _ _ _. (refl, rest i, mask_rest i)) (λ m h. h)
              (λ i l h. same_word z c r.owner r.at r.owner r.at s.words (set s.words 0 (n + 1)) s.views id me.0 w i there refl (rest i) refl refl (r.tasks i l (λ e. h (rest i ∙ e))))
              (λ j _. ban_rest j)),
          ((λ l. absurd (omega arith)), λ _. goes me w bare),
        ))
        | no room ↦ (let w : View = noted (drew me.0 (n + 1)) (did 0 n (n + 1)) in let sum = told-set s.views id me.0 w there in let at' = put r.at (n + 1) (2 * id + 2) in
            let new : r.at (n + 1) ≡ 0 = r.unborn (n + 1) (omega arith) in let else : (m : ℕ) → r.at m ≢ 0 → at' m ≡ r.at m = λ m h. put_else r.at (n + 1) (2 * id + 2) m (λ e. h (ap r.at e ∙ new)) in (
              w,
              keeps,
              tt,
              back w (data_step z c s r id me.0 w 0 (n + 1) r.owner at' there holder refl (omega arith) (λ m l. put_else r.at (n + 1) (2 * id + 2) m (λ e. omega arith) ∙ r.unborn m (omega arith))
                  (record {
                    once = ok.once;
                    leads = ok.leads;
                    left = ok.left;
                    unused = λ _. (put_here r.at (n + 1) (2 * id + 2), omega arith);
                    holds = λ i h. hold_stays z c r.owner r.owner s.words (set s.words 0 (n + 1)) id i (hold w i) refl (rest i) (mask_rest i) (ok.holds i h);
                  })
                  (λ k m _ h. else m (λ e. omega arith) ∙ h) (λ i _ _ _. (refl, rest i, mask_rest i)) (λ m h. ap (λ (q : ℕ). q % 2) (else m (λ e. omega arith)) ∙ h)
                  (λ i l h. let t = r.tasks i l (λ e. h (rest i ∙ e)) in let a = t.stands in same_word z c r.owner r.at r.owner at' s.words (set s.words 0 (n + 1)) s.views id me.0 w i there refl (rest i) (else (number (task s.words i)) (λ e. omega arith)) refl t)
                  (λ j _. ban_rest j)),
              ((λ _. goes me w bare), λ l. absurd (room l)),
            ))
      ]

  pub claims : (slots id : ℕ) (me : M) (i word : ℕ) → me.0.lead ≡ 0 → me.1 ≡ [] → length me.0.held ≡ z.slots → i < z.slots → me.0.drawn ≢ 0 → number word ≡ me.0.drawn → cancel word ≡ 0
      → Allows (BoardOk z) slots id me (i + 1) (λ n. either (eqb n 0) word n) (after_claim (step slots (i + 1) 0 word none) me)
  claims slots id me i word idle bare sz inside drawn named unmarked s (c, r) _ there _ = let holder = apart_from_first z c s r id me.0 there idle in let n : ℕ = get_or s.words (i + 1) 0 in let ok = r.seats id me.0 there in let wide = r.wide in
      let others : (k : ℕ) → (hold me.0 k).number ≢ 0 → (hold me.0 k).number ≢ me.0.drawn = λ k full e. let a = ok.holds k full in let b = (ok.unused drawn).0 in
      let t = (r.tasks k a.inside (λ f. full (sym a.is ∙ (ap number f ∙ zero_number)))).stands in let f : r.at (number (task s.words k)) ≡ r.at me.0.drawn = ap r.at (a.is ∙ e) in omega arith in
      let free : n ≡ 0 → (hold me.0 (i + 1 - 1)).number ≡ 0 = λ e. sym (ap (λ (k : ℕ). (hold me.0 k).number) (back_one i)) ∙ dite (ℕ_discrete (hold me.0 i).number 0) (λ f. f) (λ f. absurd (f (sym (ok.holds i f).is ∙ (ap number e ∙ zero_number)))) in
      dite (ℕ_discrete n 0)
      (λ hit. let ws : List ℕ = set s.words (i + 1) word in let new : Hold = record { number = number word; parent = parent word; check = fresh (parent word); cleared = 0; seek = 0 } in let w : View = noted (took me.0 i word) (did (i + 1) 0 word) in
      let owner' = put r.owner i id in let m : ℕ = me.0.drawn in let at' = put r.at m (2 * i + 3) in let mine = ok.unused drawn in let was : r.at m ≡ 2 * id + 2 = mine.0 in
      let here : task ws i ≡ word = get_or-set_same s.words (i + 1) word 0 (omega arith) in
      let rest : (k : ℕ) → k ≢ i → task ws k ≡ task s.words k = λ k e. get_or-set_other s.words (i + 1) (k + 1) word 0 (λ f. e (omega arith)) in
      let mask_rest : (k : ℕ) → mask z ws k ≡ mask z s.words k = λ k. get_or-set_other s.words (i + 1) (z.slots + z.bans + k + 1) word 0 (λ e. omega arith) in
      let held_here : hold w i ≡ new = get_or-set_same me.0.held i new no_hold (omega arith) in
      let held_rest : (k : ℕ) → k ≢ i → hold w k ≡ hold me.0 k = λ k e. get_or-set_other me.0.held i k new no_hold e in
      let empty : number (task s.words i) ≡ 0 = ap number hit ∙ zero_number in
      let front : get_or ws 0 0 ≡ get_or s.words 0 0 = get_or-set_other s.words (i + 1) 0 word 0 (λ e. omega arith) in
      let sum = told-set s.views id me.0 w there in let total = r.counted in
      let now_at : at' (number word) ≡ 2 * i + 3 = ap at' named ∙ put_here r.at m (2 * i + 3) in
      let kept_at : (k : ℕ) → r.at k ≢ 2 * id + 2 → at' k ≡ r.at k = λ k h. put_else r.at m (2 * i + 3) k (λ e. h (ap r.at e ∙ was)) in (
        w,
        keeps,
        tt,
        subst (λ b. BoardOk z (stepped s (i + 1) (either b word n) id me.1 w keeps)) (sym (eq-eqb n 0 hit))
            (data_step z c s r id me.0 w (i + 1) word owner' at' there holder refl (omega arith)
            (λ k l. let born : r.at k ≡ 0 = r.unborn k (omega arith) in kept_at k (λ e. omega arith) ∙ born)
            (record {
              once = ok.once;
              leads = ok.leads;
              left = left_set me.0 w i _ refl refl ok.left;
              unused = λ f. absurd (f refl);
              holds = λ k h. dite (ℕ_discrete k i)
                  (λ e. subst (λ (q : ℕ). HoldOk z c owner' ws id q (hold w q)) (sym e) (subst (HoldOk z c owner' ws id i) (sym held_here) record {
                    inside = inside;
                    owned = put_here r.owner i id;
                    is = ap number here;
                    child_of = ap parent here;
                    race = λ j l. let child : parent word ≢ 0 = λ f. l.stands (sym l.child ∙ (ap parent here ∙ f)) in subst (λ b. Behind j (Rattle.std.proofs.Common.cond b Clear (Next 0))) (sym (ne_eqb (parent word) 0 child)) (omega arith);
                    masked = λ x f. let none_yet = bit_at-zero x in ⊎_elim (λ (g : bit_at 0 x ≡ 1). absurd (omega arith)) (λ (g : bit_at 0 x ≡ 1). absurd (omega arith)) f;
                    caught = λ m x _ g. let none_yet = bit_at-zero x in absurd (omega arith);
                    halfway = λ x _ _ g. let none_yet = bit_at-zero x in absurd (omega arith);
                  }))
                  (λ e. let f = held_rest k e in subst (HoldOk z c owner' ws id k) (sym f) (hold_stays z c r.owner owner' s.words ws id k (hold me.0 k) (put_else r.owner i id k e) (rest k e) (mask_rest k) (ok.holds k (λ g. h (ap (λ (q : Hold). q.number) f ∙ g)))));
            })
            (λ k q other h. kept_at q (λ e. other (omega arith)) ∙ h)
            (λ k l other h. let apart : k ≢ i = λ e. h (ap (λ (q : ℕ). number (task s.words q)) e ∙ empty) in (put_else r.owner i id k apart, rest k apart, mask_rest k))
            (λ q h. let same : at' q ≡ r.at q = kept_at q (λ e. omega arith) in ap (λ (x : ℕ). x % 2) same ∙ h)
            (λ k l h. dite (ℕ_discrete k i)
            (λ e. record {
              stands = ap (λ (q : ℕ). at' (number (task ws q))) e ∙ (ap (λ (x : ℕ). at' (number x)) here ∙ (now_at ∙ ap (λ (q : ℕ). 2 * q + 3) (sym e)));
              view = w;
              seated = ap (get_elem? (set s.views id w)) (ap owner' e ∙ put_here r.owner i id) ∙ stays_there s.views id me.0 w there;
              is = ap (λ (q : ℕ). number (task ws q)) e ∙ (ap number here ∙ sym (ap (λ (q : Hold). q.number) (ap (hold w) e ∙ held_here)));
              named = λ f. drawn (sym named ∙ (sym (ap number here) ∙ (sym (ap (λ (q : ℕ). number (task ws q)) e) ∙ f)));
              marked = λ f. absurd (f (ap (λ (q : ℕ). cancel (task ws q)) e ∙ (ap cancel here ∙ unmarked)));
              unmarked = λ _ f. let g = r.marks m (subst (λ (q : ℕ). In q c.marked) (ap (λ (q : ℕ). number (task ws q)) e ∙ (ap number here ∙ named)) f) in absurd (omega arith);
              latest = λ f. absurd (f (ap (λ (q : ℕ). cancel (task ws q)) e ∙ (ap cancel here ∙ unmarked)));
            })
            (λ e. let t = r.tasks k l (λ f. h (rest k e ∙ f)) in let st = t.stands in
            same_word z c r.owner r.at owner' at' s.words ws s.views id me.0 w k there (put_else r.owner i id k e) (rest k e) (kept_at (number (task s.words k)) (λ f. omega arith)) (ap (λ (q : Hold). q.number) (held_rest k e)) t))
            (λ j _. get_or-set_other s.words (i + 1) (z.slots + j + 1) word 0 (λ e. omega arith))),
        ((λ _. goes me w bare ∙ (λ q. (noted (took me.0 (back_one i q) word) (did (i + 1) 0 word), []))), (λ f. absurd (f hit)), others, free),
      ))
      (λ miss. let w : View = noted me.0 (did (i + 1) n n) in (
        w,
        keeps,
        tt,
        subst (λ b. BoardOk z (stepped s (i + 1) (either b word n) id me.1 w keeps)) (sym (ne_eqb n 0 miss))
            (quiet z c s r id me.0 w (i + 1) there holder refl refl (λ k. refl) (alike z c s r id me.0 w refl refl refl refl refl refl refl ok)),
        ((λ e. absurd (miss e)), (λ _. goes me w bare), others, free),
      ))

  pub checks : (slots id : ℕ) (me : M) (i j : ℕ) → me.0.lead ≡ 0 → me.1 ≡ [] → length me.0.held ≡ z.slots → me.0.size ≡ z → (hold me.0 i).number ≢ 0 → (j ≡ 0) ⊎ ((hold me.0 i).check ≡ Next j) → j < z.bans
      → Allows (BoardOk z) slots id me (z.slots + j + 1) (λ n. n) (after_check i (step slots (z.slots + j + 1) 0 0 none) me)
  checks slots id me i j idle bare sz size there next inside s (c, r) _ seat _ = let holder = apart_from_first z c s r id me.0 seat idle in let x : ℕ = z.slots + j + 1 in let n : ℕ = get_or s.words x 0 in let ok = r.seats id me.0 seat in let h : Hold = hold me.0 i in let slots_are : me.0.size.slots ≡ z.slots = ap (λ (q : Size). q.slots) size in let bans_are : me.0.size.bans ≡ z.bans = ap (λ (q : Size). q.bans) size in let a = ok.holds i there in
      let W : Progress → View = λ k. noted (with_check me.0 i k) (did x n n) in
      let new : Progress → Hold = λ k. record h { check = k } in
      let here : (k : Progress) → hold (W k) i ≡ new k = λ k. get_or-set_same me.0.held i (new k) no_hold (omega arith) in
      let rest : (k : Progress) (q : ℕ) → q ≢ i → hold (W k) q ≡ hold me.0 q = λ k q e. get_or-set_other me.0.held i q (new k) no_hold e in
      let number_of : (k : Progress) (q : ℕ) → (hold (W k) q).number ≡ (hold me.0 q).number = λ k q. dite (ℕ_discrete q i)
      (λ e. ap (λ (y : ℕ). (hold (W k) y).number) e ∙ (ap (λ (y : Hold). y.number) (here k) ∙ sym (ap (λ (y : ℕ). (hold me.0 y).number) e))) (λ e. ap (λ (y : Hold). y.number) (rest k q e)) in
      let old : (b : ℕ) → Late z c s.words i b → j ≤ b = λ b l. ⊎_elim (λ (e : j ≡ 0). let low : j ≤ b = omega arith in low) (λ (e : (hold me.0 i).check ≡ Next j). let f = a.race b l in subst (Behind b) e f) next in
      -- the ban that is late for the slot stands at the place that is loaded
      let met : (b : ℕ) → Late z c s.words i b → b ≡ j → banned n ≡ h.parent = λ b l e. let k = r.bans j inside in ap banned k.stands ∙ (banned_ban (ban c j).parent (ban c j).cancel k.small ∙ (sym (l.child ∙ ap (λ (y : ℕ). (ban c y).parent) e) ∙ a.child_of)) in
      let mine : (k : Progress) → ((b : ℕ) → Late z c s.words i b → Behind b k) → SeatOk z c r.owner r.at s.words id (W k) = λ k fits. record {
        once = ok.once;
        leads = ok.leads;
        left = left_set me.0 (W k) i _ refl refl ok.left;
        unused = ok.unused;
        holds = λ q some_there. dite (ℕ_discrete q i)
            (λ e. subst (λ (y : ℕ). HoldOk z c r.owner s.words id y (hold (W k) y)) (sym e) (subst (HoldOk z c r.owner s.words id i) (sym (here k))
            record { inside = a.inside; owned = a.owned; is = a.is; child_of = a.child_of; race = fits; masked = a.masked; caught = a.caught; halfway = a.halfway }))
            (λ e. subst (HoldOk z c r.owner s.words id q) (sym (rest k q e)) (ok.holds q (λ f. some_there (number_of k q ∙ f))));
      } in
      let step_to : (k : Progress) → ((b : ℕ) → Late z c s.words i b → Behind b k) → BoardOk z record { words = set s.words x n; homes = s.homes; views = set s.views id (W k) } = λ k fits. quiet z c s r id me.0 (W k) x seat holder refl refl (number_of k) (mine k fits) in
      dite (ℕ_discrete (banned n) h.parent)
      (λ hit. (W (Banned (by n)), keeps, tt, step_to (Banned (by n)) (λ b l. tt), ((λ _. goes me (W (Banned (by n))) bare), (λ f. absurd (f hit)), λ f. absurd (f hit))))
      (λ miss. dite (ℕ_discrete x (me.0.size.slots + me.0.size.bans))
      (λ last. (W Clear, keeps, tt, step_to Clear (λ b l. let f = old b l in let g = l.known in let apart : b ≢ j = λ e. miss (met b l e) in omega arith), ((λ e. absurd (miss e)), (λ _ _. goes me (W Clear) bare), λ _ f. absurd (f last))))
      (λ more. let k : Progress = Next (x - me.0.size.slots) in
      (W k, keeps, tt, step_to k (λ b l. let f = old b l in let apart : b ≢ j = λ e. miss (met b l e) in omega arith), ((λ e. absurd (miss e)), (λ _ f. absurd (more f)), λ _ _. goes me (W k) bare))))

  pub ends : (slots id : ℕ) (me : M) (i : ℕ) → me.0.lead ≡ 0 → me.1 ≡ [] → length me.0.held ≡ z.slots → (hold me.0 i).number ≢ 0 → Allows (BoardOk z) slots id me (i + 1) (λ _. 0) (after_end (step slots (i + 1) 0 0 none) me)
  ends slots id me i idle bare sz there s (c, r) _ seat _ = let holder = apart_from_first z c s r id me.0 seat idle in let n : ℕ = get_or s.words (i + 1) 0 in let ok = r.seats id me.0 seat in let h : Hold = hold me.0 i in let a = ok.holds i there in let wide = r.wide in
      let inside = a.inside in let ws : List ℕ = set s.words (i + 1) 0 in let w : View = noted (with_hold me.0 i no_hold) (did (i + 1) n 0) in let m : ℕ = number n in let at' = put r.at m 1 in
      let full : n ≢ 0 = λ e. there (sym a.is ∙ (ap number e ∙ zero_number)) in let was : r.at m ≡ 2 * i + 3 = (r.tasks i inside full).stands in
      let here : task ws i ≡ 0 = get_or-set_same s.words (i + 1) 0 0 (omega arith) in
      let rest : (k : ℕ) → k ≢ i → task ws k ≡ task s.words k = λ k e. get_or-set_other s.words (i + 1) (k + 1) 0 0 (λ f. e (omega arith)) in
      let mask_rest : (k : ℕ) → mask z ws k ≡ mask z s.words k = λ k. get_or-set_other s.words (i + 1) (z.slots + z.bans + k + 1) 0 0 (λ e. omega arith) in
      let held_here : hold w i ≡ no_hold = get_or-set_same me.0.held i no_hold no_hold (omega arith) in
      let held_rest : (k : ℕ) → k ≢ i → hold w k ≡ hold me.0 k = λ k e. get_or-set_other me.0.held i k no_hold no_hold e in
      let kept_at : (k : ℕ) → r.at k ≢ 2 * i + 3 → at' k ≡ r.at k = λ k f. put_else r.at m 1 k (λ e. f (ap r.at e ∙ was)) in
      let apart : (k : ℕ) → (hold w k).number ≢ 0 → k ≢ i = λ k f e. f (ap (λ (q : Hold). q.number) (ap (hold w) e ∙ held_here)) in
      let front : get_or ws 0 0 ≡ get_or s.words 0 0 = get_or-set_other s.words (i + 1) 0 0 0 (λ e. omega arith) in
      let sum = told-set s.views id me.0 w seat in let total = r.counted in (
        w,
        keeps,
        tt,
        data_step z c s r id me.0 w (i + 1) 0 r.owner at' seat holder refl (omega arith)
            (λ k l. let born : r.at k ≡ 0 = r.unborn k (omega arith) in kept_at k (λ e. omega arith) ∙ born)
            (record {
              once = ok.once;
              leads = ok.leads;
              left = left_set me.0 w i _ refl refl ok.left;
              unused = λ f. let u = ok.unused f in let v = u.0 in (kept_at me.0.drawn (λ e. omega arith) ∙ u.0, u.1);
              holds = λ k f. let e = apart k f in let g = held_rest k e in subst (HoldOk z c r.owner ws id k) (sym g) (hold_stays z c r.owner r.owner s.words ws id k (hold me.0 k) refl (rest k e) (mask_rest k) (ok.holds k (λ y. f (ap (λ (q : Hold). q.number) g ∙ y))));
            })
            (λ k q other f. kept_at q (λ e. omega arith) ∙ f)
            (λ k l other f. (refl, rest k (λ e. other (ap r.owner e ∙ a.owned)), mask_rest k))
            (λ q f. dite (ℕ_discrete q m) (λ e. ap (λ (y : ℕ). at' y % 2) e ∙ ap (λ (y : ℕ). y % 2) (put_here r.at m 1)) (λ e. ap (λ (y : ℕ). y % 2) (put_else r.at m 1 q e) ∙ f))
            (λ k l f. let e : k ≢ i = λ y. f (ap (task ws) y ∙ here) in let t = r.tasks k l (λ y. f (rest k e ∙ y)) in let st = t.stands in
            same_word z c r.owner r.at r.owner at' s.words ws s.views id me.0 w k seat refl (rest k e) (kept_at (number (task s.words k)) (λ y. omega arith)) (ap (λ (q : Hold). q.number) (held_rest k e)) t)
            (λ j _. get_or-set_other s.words (i + 1) (z.slots + j + 1) 0 0 (λ e. omega arith)),
        (a.is ∙ ap (λ (k : ℕ). (hold me.0 k).number) (back_one i), a.child_of ∙ ap (λ (k : ℕ). (hold me.0 k).parent) (back_one i), goes me w bare ∙ (λ q. (noted (with_hold me.0 (back_one i q) no_hold) (did (i + 1) n 0), []))),
      )

  -- the ticket at the slot i becomes h, at a step on the word x
  own_seat : (c : View) (s : Now) (r : BoardAt z c s) (id : ℕ) (v w : View) (i : ℕ) (h : Hold) (ws : List ℕ) → SeatOk z c r.owner r.at s.words id v → w ≡ record v { steps = w.steps; held = set v.held i h } → i < length v.held → HoldOk z c r.owner ws id i h
      → ((k : ℕ) → k ≢ i → (task ws k ≡ task s.words k) × (mask z ws k ≡ mask z s.words k)) → SeatOk z c r.owner r.at ws id w
  own_seat c s r id v w i h ws ok e near new rest = subst (SeatOk z c r.owner r.at ws id) (sym e) record {
    once = ok.once;
    leads = ok.leads;
    left = left_set v (record v { steps = w.steps; held = set v.held i h }) i h refl refl ok.left;
    unused = ok.unused;
    holds = λ k n. dite (ℕ_discrete k i)
        (λ f. subst (λ (y : ℕ). HoldOk z c r.owner ws id y (get_or (set v.held i h) y no_hold)) (sym f) (subst (HoldOk z c r.owner ws id i) (sym (get_or-set_same v.held i h no_hold near)) new))
        (λ f. let g = get_or-set_other v.held i k h no_hold f in let t = rest k f in
        subst (HoldOk z c r.owner ws id k) (sym g) (hold_stays z c r.owner r.owner s.words ws id k (hold v k) refl t.0 t.1 (ok.holds k (λ y. n (ap (λ (q : Hold). q.number) g ∙ y)))));
  }

  -- a step on the mask word of the slot i, which leaves y there
  mask_step : (c : View) (s : Now) (r : BoardAt z c s) (id : ℕ) (me : M) (i y : ℕ) (h : Hold) (d : Did) → get_elem? s.views id ≡ some me.0 → me.0.lead ≡ 0 → length me.0.held ≡ z.slots → (hold me.0 i).number ≢ 0 → h.number ≡ (hold me.0 i).number → h.parent ≡ (hold me.0 i).parent → h.check ≡ (hold me.0 i).check
      → ((x : ℕ) → Tracked h x → bit_at y x ≡ 1) → ((x : ℕ) → bit_at h.cleared x ≡ 1 → bit_at (hold me.0 i).cleared x ≡ 1)
      → BoardOk z record { words = set s.words (z.slots + z.bans + i + 1) y; homes = s.homes; views = set s.views id (noted (with_hold me.0 i h) d) }
  mask_step c s r id me i y h d seat idle sz full n p k fits fewer = let x : ℕ = z.slots + z.bans + i + 1 in let ws : List ℕ = set s.words x y in let w : View = noted (with_hold me.0 i h) d in let holder = apart_from_first z c s r id me.0 seat idle in
      let ok = r.seats id me.0 seat in let a = ok.holds i full in let wide = r.wide in let inside = a.inside in let sum = told-set s.views id me.0 w seat in let total = r.counted in
      let here : mask z ws i ≡ y = get_or-set_same s.words x y 0 (omega arith) in
      let tasks : (q : ℕ) → q < z.slots → task ws q ≡ task s.words q = λ q l. get_or-set_other s.words x (q + 1) y 0 (λ e. omega arith) in
      let masks : (q : ℕ) → q ≢ i → mask z ws q ≡ mask z s.words q = λ q e. get_or-set_other s.words x (z.slots + z.bans + q + 1) y 0 (λ f. e (omega arith)) in
      let front : get_or ws 0 0 ≡ get_or s.words 0 0 = get_or-set_other s.words x 0 y 0 (λ e. omega arith) in
      let number_of : (q : ℕ) → (hold w q).number ≡ (hold me.0 q).number = λ q. dite (ℕ_discrete q i)
      (λ e. ap (λ (b : ℕ). (hold w b).number) e ∙ (ap (λ (b : Hold). b.number) (get_or-set_same me.0.held i h no_hold (omega arith)) ∙ (n ∙ ap (λ (b : ℕ). (hold me.0 b).number) (sym e)))) (λ e. ap (λ (b : Hold). b.number) (get_or-set_other me.0.held i q h no_hold e)) in
      let t = tasks i inside in
      data_step z c s r id me.0 w x y r.owner r.at seat holder refl (omega arith) (λ q l. r.unborn q (omega arith))
      (record {
        once = ok.once;
        leads = ok.leads;
        left = left_set me.0 w i h refl refl ok.left;
        unused = ok.unused;
        holds = λ q f. dite (ℕ_discrete q i)
            (λ e. subst (λ (b : ℕ). HoldOk z c r.owner ws id b (hold w b)) (sym e) (subst (HoldOk z c r.owner ws id i) (sym (get_or-set_same me.0.held i h no_hold (omega arith))) record {
              inside = inside;
              owned = a.owned;
              is = ap number t ∙ (a.is ∙ sym n);
              child_of = ap parent t ∙ (a.child_of ∙ sym p);
              race = λ j l. subst (Behind j) (sym k) (a.race j (same_late z c c s.words ws i j t refl (λ b g. l.unseen b (g ∙ sym t)) l));
              masked = λ b g. ap (λ (o : ℕ). bit_at o b) here ∙ fits b g;
              caught = λ m b g o. a.caught m b (subst (λ (u : ℕ). Has u m c.masks) n g) (fewer b o);
              halfway = λ b g o u. a.halfway b g (λ f. o (ap cancel t ∙ f)) (fewer b u);
            }))
            (λ e. let g = get_or-set_other me.0.held i q h no_hold e in let old = ok.holds q (λ b. f (ap (λ (o : Hold). o.number) g ∙ b)) in
            subst (HoldOk z c r.owner ws id q) (sym g) (hold_stays z c r.owner r.owner s.words ws id q (hold me.0 q) refl (tasks q old.inside) (masks q e) old));
      })
      (λ b q _ f. f)
      (λ q l other f. (refl, tasks q l, masks q (λ e. other (ap r.owner e ∙ a.owned))))
      (λ q f. f)
      (λ q l f. same_word z c r.owner r.at r.owner r.at s.words ws s.views id me.0 w q seat refl (tasks q l) refl (number_of q) (r.tasks q l (λ b. f (tasks q l ∙ b))))
      (λ j l. get_or-set_other s.words x (z.slots + j + 1) y 0 (λ e. omega arith))

  one_of : (a b : ℕ) → a < 2 → max a b ≡ 1 → (a ≡ 1) ⊎ (b ≡ 1)
  one_of a b l e = dite (ℕ_discrete a 1) (λ f. inl f) (λ f. inr (omega arith))

  pub tracks : (slots id : ℕ) (me : M) (i k : ℕ) → me.0.lead ≡ 0 → me.1 ≡ [] → length me.0.held ≡ z.slots → (hold me.0 i).number ≢ 0 → (hold me.0 i).seek ≡ 0 → me.0.size ≡ z
      → Allows (BoardOk z) slots id me (z.slots + z.bans + i + 1) (λ n. bit_or n k) (after_track (step slots (z.slots + z.bans + i + 1) k 0 none) me)
  tracks slots id me i k idle bare sz full free size s (c, r) _ seat _ = let x : ℕ = z.slots + z.bans + i + 1 in let n : ℕ = get_or s.words x 0 in let h : Hold = record (hold me.0 i) { seek = k } in let a = (r.seats id me.0 seat).holds i full in
      let at : i ≡ x - me.0.size.slots - me.0.size.bans - 1 = (let b : me.0.size.slots ≡ z.slots = ap (λ (q : Size). q.slots) size in let d : me.0.size.bans ≡ z.bans = ap (λ (q : Size). q.bans) size in omega arith) in (
        noted (with_hold me.0 i h) (did x n (bit_or n k)),
        keeps,
        tt,
        mask_step c s r id me i (bit_or n k) h (did x n (bit_or n k)) seat idle sz full refl refl refl
            (λ b g. let or = bit_at_or n k b in let low = bit_at-lt n b in let low' = bit_at-lt k b in ⊎_elim (λ (f : bit_at (hold me.0 i).cleared b ≡ 1). let o = a.masked b (inl f) in omega arith) (λ (f : bit_at k b ≡ 1). omega arith) g)
            (λ b g. g),
        goes me (noted (with_hold me.0 i h) (did x n (bit_or n k))) bare ∙ (λ q. (noted (with_hold me.0 (at q) (record (hold me.0 (at q)) { seek = k })) (did x n (bit_or n k)), [])),
      )

  pub untracks : (slots id : ℕ) (me : M) (i k : ℕ) → me.0.lead ≡ 0 → me.1 ≡ [] → length me.0.held ≡ z.slots → (hold me.0 i).number ≢ 0 → me.0.size ≡ z
      → Allows (BoardOk z) slots id me (z.slots + z.bans + i + 1) (λ n. bit_and n k) (after_untrack (step slots (z.slots + z.bans + i + 1) k 0 none) me)
  untracks slots id me i k idle bare sz full size s (c, r) _ seat _ = let x : ℕ = z.slots + z.bans + i + 1 in let n : ℕ = get_or s.words x 0 in let o : Hold = hold me.0 i in let h : Hold = record o { cleared = bit_and o.cleared k; seek = 0 } in let a = (r.seats id me.0 seat).holds i full in
      let at : i ≡ x - me.0.size.slots - me.0.size.bans - 1 = (let b : me.0.size.slots ≡ z.slots = ap (λ (q : Size). q.slots) size in let d : me.0.size.bans ≡ z.bans = ap (λ (q : Size). q.bans) size in omega arith) in
      let both : (b : ℕ) → bit_at (bit_and o.cleared k) b ≡ 1 → (bit_at o.cleared b ≡ 1) × (bit_at k b ≡ 1) = λ b g. let e = bit_at_and o.cleared k b in let low = bit_at-lt o.cleared b in let low' = bit_at-lt k b in (omega arith, omega arith) in (
        noted (with_hold me.0 i h) (did x n (bit_and n k)),
        keeps,
        tt,
        mask_step c s r id me i (bit_and n k) h (did x n (bit_and n k)) seat idle sz full refl refl refl
            (λ b g. let and = bit_at_and n k b in ⊎_elim (λ (f : bit_at (bit_and o.cleared k) b ≡ 1). let t = both b f in let old = a.masked b (inl t.0) in let u = t.1 in omega arith) (λ (f : bit_at 0 b ≡ 1). let e = bit_at-zero b in absurd (omega arith)) g)
            (λ b g. (both b g).0),
        goes me (noted (with_hold me.0 i h) (did x n (bit_and n k))) bare ∙ (λ q. (noted (with_hold me.0 (at q) (record (hold me.0 (at q)) { cleared = bit_and (hold me.0 (at q)).cleared k; seek = 0 })) (did x n (bit_and n k)), [])),
      )

  pub looks : (slots id : ℕ) (me : M) (i : ℕ) → me.0.lead ≡ 0 → me.1 ≡ [] → length me.0.held ≡ z.slots → (hold me.0 i).number ≢ 0 → Allows (BoardOk z) slots id me (i + 1) (λ n. n) (after_look (step slots (i + 1) 0 0 none) me)
  looks slots id me i idle bare sz full s (c, r) _ seat _ = let x : ℕ = i + 1 in let n : ℕ = get_or s.words x 0 in let o : Hold = hold me.0 i in let ok = r.seats id me.0 seat in let a = ok.holds i full in let holder = apart_from_first z c s r id me.0 seat idle in let inside = a.inside in
      let W : Hold → View = λ h. noted (with_hold me.0 i h) (did x n n) in let word = r.tasks i inside (λ e. full (sym a.is ∙ (ap number e ∙ zero_number))) in
      let number_of : (h : Hold) → h.number ≡ o.number → (q : ℕ) → (hold (W h) q).number ≡ (hold me.0 q).number = λ h e q. dite (ℕ_discrete q i)
      (λ f. ap (λ (b : ℕ). (hold (W h) b).number) f ∙ (ap (λ (b : Hold). b.number) (get_or-set_same me.0.held i h no_hold (omega arith)) ∙ (e ∙ ap (λ (b : ℕ). (hold me.0 b).number) (sym f)))) (λ f. ap (λ (b : Hold). b.number) (get_or-set_other me.0.held i q h no_hold f)) in
      let goes_to : (h : Hold) → h.number ≡ o.number → HoldOk z c r.owner s.words id i h → BoardOk z record { words = set s.words x n; homes = s.homes; views = set s.views id (W h) } =
      λ h e new. quiet z c s r id me.0 (W h) x seat holder refl refl (number_of h e) (own_seat c s r id me.0 (W h) i h s.words ok refl (omega arith) new (λ _ _. (refl, refl))) in
      let at : i ≡ x - 1 = omega arith in
      dite (ℕ_discrete (cancel n) 0)
      (λ unmarked. let h : Hold = record o { cleared = bit_or o.cleared o.seek; seek = 0 } in
      let either_bit : (b : ℕ) → bit_at (bit_or o.cleared o.seek) b ≡ 1 → Tracked o b = λ b g. one_of (bit_at o.cleared b) (bit_at o.seek b) (bit_at-lt o.cleared b) (sym (bit_at_or o.cleared o.seek b) ∙ g) in (
        W h,
        keeps,
        tt,
        goes_to h refl (record {
          inside = a.inside;
          owned = a.owned;
          is = a.is;
          child_of = a.child_of;
          race = a.race;
          masked = λ b g. ⊎_elim (λ (f : bit_at (bit_or o.cleared o.seek) b ≡ 1). a.masked b (either_bit b f)) (λ (f : bit_at 0 b ≡ 1). let e = bit_at-zero b in absurd (omega arith)) g;
          caught = λ m b g _. absurd (word.unmarked unmarked (subst (λ (q : ℕ). In q c.marked) (sym a.is) (r.known o.number m g)));
          halfway = λ b _ g _. absurd (g unmarked);
        }),
        ((λ _. goes me (W h) bare ∙ (λ q. (noted (with_hold me.0 (at q) (record (hold me.0 (at q)) { cleared = bit_or (hold me.0 (at q)).cleared (hold me.0 (at q)).seek; seek = 0 })) (did x n n), []))), λ f. absurd (f unmarked)),
      ))
      (λ marked. let h : Hold = record o { seek = 0 } in (
        W h,
        keeps,
        tt,
        goes_to h refl (record {
          inside = a.inside;
          owned = a.owned;
          is = a.is;
          child_of = a.child_of;
          race = a.race;
          masked = λ b g. ⊎_elim (λ (f : bit_at o.cleared b ≡ 1). a.masked b (inl f)) (λ (f : bit_at 0 b ≡ 1). let e = bit_at-zero b in absurd (omega arith)) g;
          caught = a.caught;
          halfway = a.halfway;
        }),
        ((λ f. absurd (marked f)), λ _. goes me (W h) bare ∙ (λ q. (noted (with_hold me.0 (at q) (record (hold me.0 (at q)) { seek = 0 })) (did x n n), []))),
      ))
