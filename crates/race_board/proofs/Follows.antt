-- Each step changes the live tasks and the bans as its events do.
use Rattle.std.proofs.Common.{◌≡◌, ◌≢◌, ℕ, zero, suc, ◌+◌, ◌<◌, ◌⊎◌, cond, Bool, true, false, List, [], ◌∷◌, get_or, set, sym, refl, ap, ◌∙◌, subst, ⊎_elim, inl, inr, arith, eqb, eq-eqb, ne_eqb, get_or-set_other, get_or-set_same}
use mathlib.Core.Logic.{dite}
use native.Mathlib.Decide.{ℕ_discrete}
use lib.Seq.{set-get_or}
use Rattle.atomic_table.specs.Table.{State}
use Rattle.race_board.specs.Words.{number, parent, cancel, banned, by, ban_word, with_mark}
use Rattle.race_board.specs.Board.{task, BoardAt}
use Rattle.race_board.specs.Events.{Event, put, passed, refused, ended, asked, worked, marked, ban_put, listed, ban_gone, Live, After, AfterAll, bans_after, Follows}
use Rattle.race_board.specs.StepEvents.{of_end, of_claim, of_ban, of_unban, of_mark, closing}
use Rattle.race_board.specs.declared.views.Hold.{Hold}
use Rattle.race_board.specs.declared.views.Progress.{Progress}
use Rattle.race_board.specs.declared.views.Progress.TheVariants.{Next, Clear, Banned}
use Rattle.race_board.specs.declared.views.Size.{Size}
use Rattle.race_board.specs.declared.views.View.{View}
use Rattle.race_board.proofs.Parts.{whole_ban, number_mark, parent_mark, cancel_mark}

-- events that change neither the live tasks nor the bans
abbrev pub Silent : List Event → Type 0
Silent [] = Unit {0}
Silent (passed n ∷ es) = Silent es
Silent (asked n ∷ es) = Silent es
Silent (worked n ∷ es) = Silent es
Silent (listed i ∷ es) = Silent es
Silent (put n p ∷ es) = ⊥
Silent (refused n k ∷ es) = ⊥
Silent (ended n ∷ es) = ⊥
Silent (marked n k ∷ es) = ⊥
Silent (ban_put i p k ∷ es) = ⊥
Silent (ban_gone i ∷ es) = ⊥

abbrev Tasks : Type 1
Tasks = ℕ → ℕ → ℕ → Type 0

silent_live : (live : Tasks) (es : List Event) → Silent es → (a b c : ℕ) → (live a b c → AfterAll live es a b c) × (AfterAll live es a b c → live a b c)
silent_live live [] s a b c = ((λ t. t), λ t. t)
silent_live live (passed n ∷ es) s a b c = silent_live (After live (passed n)) es s a b c
silent_live live (asked n ∷ es) s a b c = silent_live (After live (asked n)) es s a b c
silent_live live (worked n ∷ es) s a b c = silent_live (After live (worked n)) es s a b c
silent_live live (listed i ∷ es) s a b c = silent_live (After live (listed i)) es s a b c
silent_live live (put n p ∷ es) s a b c = absurd s
silent_live live (refused n k ∷ es) s a b c = absurd s
silent_live live (ended n ∷ es) s a b c = absurd s
silent_live live (marked n k ∷ es) s a b c = absurd s
silent_live live (ban_put i p k ∷ es) s a b c = absurd s
silent_live live (ban_gone i ∷ es) s a b c = absurd s

silent_bans : (es : List Event) → Silent es → (j w : ℕ) → bans_after es j w ≡ w
silent_bans [] s j w = refl
silent_bans (passed n ∷ es) s j w = silent_bans es s j w
silent_bans (asked n ∷ es) s j w = silent_bans es s j w
silent_bans (worked n ∷ es) s j w = silent_bans es s j w
silent_bans (listed i ∷ es) s j w = silent_bans es s j w
silent_bans (put n p ∷ es) s j w = absurd s
silent_bans (refused n k ∷ es) s j w = absurd s
silent_bans (ended n ∷ es) s j w = absurd s
silent_bans (marked n k ∷ es) s j w = absurd s
silent_bans (ban_put i p k ∷ es) s j w = absurd s
silent_bans (ban_gone i ∷ es) s j w = absurd s

pub silent_either : (b : Bool) (x y : List Event) → Silent x → Silent y → Silent (cond b x y)
silent_either true x y p q = p
silent_either false x y p q = q

pub silent_closing : (done : ℕ) → Silent (closing done)
silent_closing zero = tt
silent_closing (suc j) = tt

keeps_live : (z : Size) (ws ws' : List ℕ) → ((i : ℕ) → i < z.slots → task ws' i ≡ task ws i) → (a b c : ℕ) → Live z ws a b c → Live z ws' a b c
keeps_live z ws ws' same a b c t = let e = same t.slot t.inside in record { slot = t.slot; inside = t.inside; word = λ f. t.word (sym e ∙ f); is = ap number e ∙ t.is; child = ap parent e ∙ t.child; with = ap cancel e ∙ t.with }

-- a step that leaves the task words
pub same_tasks : (z : Size) (ws ws' : List ℕ) (es : List Event) → Silent es → ((i : ℕ) → i < z.slots → task ws' i ≡ task ws i) → (a b c : ℕ) → (Live z ws' a b c → AfterAll (Live z ws) es a b c) × (AfterAll (Live z ws) es a b c → Live z ws' a b c)
same_tasks z ws ws' es s same a b c = let q = silent_live (Live z ws) es s a b c in ((λ t. q.0 (keeps_live z ws' ws (λ i l. sym (same i l)) a b c t)), λ t. keeps_live z ws ws' same a b c (q.1 t))

pub same_follows : (z : Size) (ws ws' : List ℕ) (es : List Event) → Silent es → ((i : ℕ) → i < z.slots → task ws' i ≡ task ws i) → ((j : ℕ) → j < z.bans → get_or ws' (z.slots + j + 1) 0 ≡ get_or ws (z.slots + j + 1) 0) → Follows z ws ws' es
same_follows z ws ws' es s tasks bans = record { tasks = same_tasks z ws ws' es s tasks; bans = λ j l. bans j l ∙ sym (silent_bans es s j (get_or ws (z.slots + j + 1) 0)) }

pub calm_follows : (z : Size) (ws ws' : List ℕ) (es : List Event) → Silent es → ws' ≡ ws → Follows z ws ws' es
calm_follows z ws ws' es s e = same_follows z ws ws' es s (λ i _. ap (λ (l : List ℕ). task l i) e) (λ j _. ap (λ (l : List ℕ). get_or l (z.slots + j + 1) 0) e)

module _ (z : Size) (c : View) (s : State (Unit {0}) View) (r : BoardAt z c s) (i : ℕ) (inside : i < z.slots) where
  ws : ℕ → List ℕ
  ws y = set s.words (i + 1) y

  here : (y : ℕ) → task (set s.words (i + 1) y) i ≡ y
  here y = let wide = r.wide in get_or-set_same s.words (i + 1) y 0 (omega arith)

  rest : (y k : ℕ) → k ≢ i → task (set s.words (i + 1) y) k ≡ task s.words k
  rest y k n = get_or-set_other s.words (i + 1) (k + 1) y 0 (λ e. n (omega arith))

  -- a live task at another slot has another number
  apart : (k : ℕ) → k < z.slots → task s.words k ≢ 0 → task s.words i ≢ 0 → number (task s.words k) ≡ number (task s.words i) → k ≡ i
  apart k l f g e = let a = (r.tasks k l f).stands in let b = (r.tasks i inside g).stands in let d : r.at (number (task s.words k)) ≡ r.at (number (task s.words i)) = ap r.at e in omega arith

  moves : (y n p m : ℕ) → (k : ℕ) → k ≢ i → k < z.slots → task s.words k ≢ 0 → number (task s.words k) ≡ n → parent (task s.words k) ≡ p → cancel (task s.words k) ≡ m → Live z (set s.words (i + 1) y) n p m
  moves y n p m k other l f a b d = let e = rest y k other in record { slot = k; inside = l; word = λ g. f (sym e ∙ g); is = ap number e ∙ a; child = ap parent e ∙ b; with = ap cancel e ∙ d }

  abbrev back : (y n p m : ℕ) (t : Live z (set s.words (i + 1) y) n p m) → t.slot ≢ i → Live z s.words n p m
  back y n p m t other = let e = rest y t.slot other in record { slot = t.slot; inside = t.inside; word = λ g. t.word (e ∙ g); is = ap number (sym e) ∙ t.is; child = ap parent (sym e) ∙ t.child; with = ap cancel (sym e) ∙ t.with }

  -- the ban words stay
  bans_stay : (y j : ℕ) → j < z.bans → get_or (set s.words (i + 1) y) (z.slots + j + 1) 0 ≡ get_or s.words (z.slots + j + 1) 0
  bans_stay y j l = get_or-set_other s.words (i + 1) (z.slots + j + 1) y 0 (λ e. omega arith)

  ended_tasks : task s.words i ≢ 0 → (a b d : ℕ) → (Live z (set s.words (i + 1) 0) a b d → Live z s.words a b d × (a ≢ number (task s.words i))) × (Live z s.words a b d × (a ≢ number (task s.words i)) → Live z (set s.words (i + 1) 0) a b d)
  ended_tasks full a b d = (
    (λ t. let other : t.slot ≢ i = λ e. t.word (ap (task (set s.words (i + 1) 0)) e ∙ here 0) in let o = back 0 a b d t other in
        (o, λ e. other (apart t.slot t.inside (λ g. t.word (rest 0 t.slot other ∙ g)) full (o.is ∙ e)))),
    (λ t. let o = t.0 in moves 0 a b d o.slot (λ e. t.1 (sym o.is ∙ ap (λ (k : ℕ). number (task s.words k)) e)) o.inside o.word o.is o.child o.with),
  )

  marked_tasks : (k : ℕ) → task s.words i ≢ 0 → cancel (task s.words i) ≡ 0 → with_mark (task s.words i) k ≢ 0 → (a b d : ℕ)
      → (Live z (set s.words (i + 1) (with_mark (task s.words i) k)) a b d → (Live z s.words a b d × (a ≢ number (task s.words i))) ⊎ ((a ≡ number (task s.words i)) × (d ≡ k) × Live z s.words a b 0))
      × ((Live z s.words a b d × (a ≢ number (task s.words i))) ⊎ ((a ≡ number (task s.words i)) × (d ≡ k) × Live z s.words a b 0) → Live z (set s.words (i + 1) (with_mark (task s.words i) k)) a b d)
  marked_tasks k full unmarked still a b d = let w : ℕ = task s.words i in let y : ℕ = with_mark w k in (
    (λ t. dite (ℕ_discrete t.slot i)
        (λ e. let now : task (set s.words (i + 1) y) t.slot ≡ y = ap (task (set s.words (i + 1) y)) e ∙ here y in
        inr (
          sym t.is ∙ (ap number now ∙ number_mark w k),
          sym t.with ∙ (ap cancel now ∙ cancel_mark w k unmarked),
          record { slot = i; inside = inside; word = full; is = sym (number_mark w k) ∙ (sym (ap number now) ∙ t.is); child = sym (parent_mark w k) ∙ (sym (ap parent now) ∙ t.child); with = unmarked },
        ))
        (λ e. let o = back y a b d t e in inl (o, λ f. e (apart t.slot t.inside (λ g. t.word (rest y t.slot e ∙ g)) full (o.is ∙ f))))),
    (λ t. ⊎_elim
        (λ (u : Live z s.words a b d × (a ≢ number w)). let o = u.0 in moves y a b d o.slot (λ e. u.1 (sym o.is ∙ ap (λ (q : ℕ). number (task s.words q)) e)) o.inside o.word o.is o.child o.with)
        (λ (u : (a ≡ number w) × (d ≡ k) × Live z s.words a b 0). let o = u.2 in let same = apart o.slot o.inside o.word full (o.is ∙ u.0) in record {
          slot = i;
          inside = inside;
          word = λ g. still (sym (here y) ∙ g);
          is = ap number (here y) ∙ (number_mark w k ∙ sym u.0);
          child = ap parent (here y) ∙ (parent_mark w k ∙ (ap (λ (q : ℕ). parent (task s.words q)) (sym same) ∙ o.child));
          with = ap cancel (here y) ∙ (cancel_mark w k unmarked ∙ sym u.1);
        }) t),
  )

  pub end_follows : (h : Hold) (k : Progress) → task s.words i ≢ 0 → number (task s.words i) ≡ h.number → Follows z s.words (set s.words (i + 1) 0) (of_end h k)
  end_follows h k full is = go k
    where
      tasks : (a b d : ℕ) → (Live z (set s.words (i + 1) 0) a b d → Live z s.words a b d × (a ≢ h.number)) × (Live z s.words a b d × (a ≢ h.number) → Live z (set s.words (i + 1) 0) a b d)
      tasks a b d = subst (λ (n : ℕ). (Live z (set s.words (i + 1) 0) a b d → Live z s.words a b d × (a ≢ n)) × (Live z s.words a b d × (a ≢ n) → Live z (set s.words (i + 1) 0) a b d)) is (ended_tasks full a b d)

      go : (p : Progress) → Follows z s.words (set s.words (i + 1) 0) (of_end h p)
      go (Next j) = record { tasks = tasks; bans = bans_stay 0 }
      go Clear = record { tasks = tasks; bans = bans_stay 0 }
      go (Banned c) = record { tasks = tasks; bans = bans_stay 0 }

  put_tasks : (y : ℕ) → task s.words i ≡ 0 → y ≢ 0 → cancel y ≡ 0 → (a b d : ℕ)
      → (Live z (set s.words (i + 1) y) a b d → Live z s.words a b d ⊎ ((a ≡ number y) × (b ≡ parent y) × (d ≡ 0)))
      × (Live z s.words a b d ⊎ ((a ≡ number y) × (b ≡ parent y) × (d ≡ 0)) → Live z (set s.words (i + 1) y) a b d)
  put_tasks y free full unmarked a b d = (
    (λ t. dite (ℕ_discrete t.slot i)
        (λ e. let now : task (set s.words (i + 1) y) t.slot ≡ y = ap (task (set s.words (i + 1) y)) e ∙ here y in inr (sym t.is ∙ ap number now, sym t.child ∙ ap parent now, sym t.with ∙ (ap cancel now ∙ unmarked)))
        (λ e. inl (back y a b d t e))),
    (λ t. ⊎_elim (λ (o : Live z s.words a b d). moves y a b d o.slot (λ e. o.word (ap (task s.words) e ∙ free)) o.inside o.word o.is o.child o.with)
        (λ (u : (a ≡ number y) × (b ≡ parent y) × (d ≡ 0)). record {
          slot = i;
          inside = inside;
          word = λ g. full (sym (here y) ∙ g);
          is = ap number (here y) ∙ sym u.0;
          child = ap parent (here y) ∙ sym u.1;
          with = ap cancel (here y) ∙ (unmarked ∙ sym u.2);
        }) t),
  )

  pub claim_follows : (y : ℕ) → y ≢ 0 → cancel y ≡ 0 → (w : ℕ) → (task s.words i ≡ 0 → w ≡ y) → (task s.words i ≢ 0 → w ≡ task s.words i) → Follows z s.words (set s.words (i + 1) w) (of_claim (task s.words i) y)
  claim_follows y full unmarked w hit miss = dite (ℕ_discrete (task s.words i) 0)
      (λ e. subst (λ (b : Bool). Follows z s.words (set s.words (i + 1) w) (cond b (put (number y) (parent y) ∷ []) [])) (sym (eq-eqb (task s.words i) 0 e))
      (subst (λ (q : ℕ). Follows z s.words (set s.words (i + 1) q) (put (number y) (parent y) ∷ [])) (sym (hit e)) record { tasks = put_tasks y e full unmarked; bans = bans_stay y }))
      (λ n. subst (λ (b : Bool). Follows z s.words (set s.words (i + 1) w) (cond b (put (number y) (parent y) ∷ []) [])) (sym (ne_eqb (task s.words i) 0 n))
      (subst (λ (q : ℕ). Follows z s.words (set s.words (i + 1) q) []) (sym (miss n)) (calm_follows z s.words (set s.words (i + 1) (task s.words i)) [] tt (set-get_or s.words (i + 1) 0))))

  pub mark_follows : (done old k w : ℕ) → old ≢ 0 → cancel old ≡ 0 → with_mark old k ≢ 0 → (task s.words i ≡ old → w ≡ with_mark old k) → (task s.words i ≢ old → w ≡ task s.words i)
      → Follows z s.words (set s.words (i + 1) w) (of_mark done (task s.words i) old (with_mark old k))
  mark_follows done old k w full unmarked still hit miss = dite (ℕ_discrete (task s.words i) old)
      (λ e. let full' : task s.words i ≢ 0 = λ f. full (sym e ∙ f) in let free : cancel (task s.words i) ≡ 0 = ap cancel e ∙ unmarked in let still' : with_mark (task s.words i) k ≢ 0 = λ f. still (ap (λ (q : ℕ). with_mark q k) (sym e) ∙ f) in
      let by : cancel (with_mark old k) ≡ k = cancel_mark old k unmarked in
      let M : Event = marked (number (task s.words i)) (cancel (with_mark old k)) in
      let tasks : (a b d : ℕ) → (Live z (set s.words (i + 1) w) a b d → After (Live z s.words) M a b d) × (After (Live z s.words) M a b d → Live z (set s.words (i + 1) w) a b d) = λ a b d.
      subst (λ (q : ℕ × ℕ). (Live z (set s.words (i + 1) q.0) a b d → After (Live z s.words) (marked (number (task s.words i)) q.1) a b d) × (After (Live z s.words) (marked (number (task s.words i)) q.1) a b d → Live z (set s.words (i + 1) q.0) a b d))
      (λ y. ((sym (hit e ∙ ap (λ (q : ℕ). with_mark q k) (sym e))) y, sym by y)) (marked_tasks k full' free still' a b d) in
      subst (λ (b : Bool). Follows z s.words (set s.words (i + 1) w) (cond b (M ∷ closing done) (closing done))) (sym (eq-eqb (task s.words i) old e))
      record {
        tasks = λ a b d. let q = silent_live (After (Live z s.words) M) (closing done) (silent_closing done) a b d in let t = tasks a b d in ((λ u. q.0 (t.0 u)), λ u. t.1 (q.1 u));
        bans = λ j l. bans_stay w j l ∙ sym (silent_bans (closing done) (silent_closing done) j (get_or s.words (z.slots + j + 1) 0));
      })
      (λ n. subst (λ (b : Bool). Follows z s.words (set s.words (i + 1) w) (cond b (marked (number (task s.words i)) (cancel (with_mark old k)) ∷ closing done) (closing done))) (sym (ne_eqb (task s.words i) old n))
      (subst (λ (q : ℕ). Follows z s.words (set s.words (i + 1) q) (closing done)) (sym (miss n)) (calm_follows z s.words (set s.words (i + 1) (task s.words i)) (closing done) (silent_closing done) (set-get_or s.words (i + 1) 0))))

module _ (z : Size) (c : View) (s : State (Unit {0}) View) (r : BoardAt z c s) (i : ℕ) (inside : i < z.bans) where
  tasks_stay : (y k : ℕ) → k < z.slots → task (set s.words (z.slots + i + 1) y) k ≡ task s.words k
  tasks_stay y k l = get_or-set_other s.words (z.slots + i + 1) (k + 1) y 0 (λ e. omega arith)

  -- the word at the place becomes y
  placed : (y w q : ℕ) → w ≡ y → get_or (set s.words (z.slots + i + 1) w) (z.slots + q + 1) 0 ≡ cond (eqb q i) y (get_or s.words (z.slots + q + 1) 0)
  placed y w q e = dite (ℕ_discrete q i)
      (λ f. (λ k. get_or (set s.words (z.slots + i + 1) w) (z.slots + f k + 1) 0) ∙ (get_or-set_same s.words (z.slots + i + 1) w 0 (let wide = r.wide in omega arith) ∙ (e ∙ sym (ap (λ b. cond b y (get_or s.words (z.slots + q + 1) 0)) (eq-eqb q i f)))))
      (λ f. get_or-set_other s.words (z.slots + i + 1) (z.slots + q + 1) w 0 (λ g. f (omega arith)) ∙ sym (ap (λ b. cond b y (get_or s.words (z.slots + q + 1) 0)) (ne_eqb q i f)))

  pub ban_follows : (y w : ℕ) → (get_or s.words (z.slots + i + 1) 0 ≡ 0 → w ≡ y) → (get_or s.words (z.slots + i + 1) 0 ≢ 0 → w ≡ get_or s.words (z.slots + i + 1) 0)
      → Follows z s.words (set s.words (z.slots + i + 1) w) (of_ban i (get_or s.words (z.slots + i + 1) 0) y)
  ban_follows y w hit miss = let n : ℕ = get_or s.words (z.slots + i + 1) 0 in let es : List Event = ban_put i (banned y) (by y) ∷ [] in dite (ℕ_discrete n 0)
      (λ e. subst (λ (b : Bool). Follows z s.words (set s.words (z.slots + i + 1) w) (cond b es [])) (sym (eq-eqb n 0 e)) record {
        tasks = same_tasks z s.words (set s.words (z.slots + i + 1) w) [] tt (tasks_stay w);
        bans = λ q _. placed (ban_word (banned y) (by y)) w q (hit e ∙ sym (whole_ban y));
      })
      (λ e. subst (λ (b : Bool). Follows z s.words (set s.words (z.slots + i + 1) w) (cond b es [])) (sym (ne_eqb n 0 e))
      (subst (λ (q : ℕ). Follows z s.words (set s.words (z.slots + i + 1) q) []) (sym (miss e)) (calm_follows z s.words (set s.words (z.slots + i + 1) n) [] tt (set-get_or s.words (z.slots + i + 1) 0))))

  pub unban_follows : Follows z s.words (set s.words (z.slots + i + 1) 0) (of_unban i)
  unban_follows = record { tasks = same_tasks z s.words (set s.words (z.slots + i + 1) 0) [] tt (tasks_stay 0); bans = λ q _. placed 0 0 q refl }
