-- The rule gives the theorem at each moment.
use Rattle.std.proofs.Common.{◌≡◌, ◌≢◌, ℕ, ◌+◌, ◌*◌, ◌<◌, ◌≤◌, get_or, sym, ap, ◌∙◌, subst, arith}
use mathlib.Core.Logic.{dite}
use mathlib.Core.Option.{some-injective}
use native.Mathlib.Decide.{ℕ_discrete, dec_le}
use lib.ListN.{get_elem?}
use Rattle.race_board.specs.Words.{number, parent, cancel}
use Rattle.race_board.specs.Board.{hold, ban, task, Has, BoardAt, BoardOk}
use Rattle.race_board.specs.Theorem.{Moment, Sits, Against, Held, Asked, Holds}
use Rattle.race_board.specs.declared.views.Size.{Size}
use Rattle.race_board.specs.declared.views.View.{View}
use Rattle.race_board.proofs.Parts.{zero_cancel, zero_number, zero_parent, ban_none}

module _ (z : Size) (c : View) (s : Moment) (r : BoardAt z c s) where
  -- a number that is anywhere is given
  given : (n : ℕ) → r.at n ≢ 0 → n ≤ get_or s.words 0 0
  given n h = elim (dec_le n (get_or s.words 0 0)) [
    | yes l ↦ l
    | no l ↦ absurd (h (r.unborn n (omega arith)))
  ]

  stands_at : (k i : ℕ) (u : View) → Sits s k u → (hold u i).number ≢ 0 → (i < z.slots) × (task s.words i ≢ 0) × (r.at (hold u i).number ≡ 2 * i + 3) × (r.owner i ≡ k) × (number (task s.words i) ≡ (hold u i).number)
  stands_at k i u there some_number = let h = (r.seats k u there).holds i some_number in let full : task s.words i ≢ 0 = λ e. some_number (sym h.is ∙ (ap number e ∙ zero_number)) in
      (h.inside, full, ap r.at (sym h.is) ∙ (r.tasks i h.inside full).stands, h.owned, h.is)

  holder : (i : ℕ) → i < z.slots → task s.words i ≢ 0 → (u : View) × Sits s (r.owner i) u × ((hold u i).number ≡ number (task s.words i)) × ((hold u i).parent ≡ parent (task s.words i)) × ((hold u i).number ≢ 0)
  holder i l full = let t = r.tasks i l full in let n : (hold t.view i).number ≢ 0 = λ e. t.named (t.is ∙ e) in let h = (r.seats (r.owner i) t.view t.seated).holds i n in (t.view, t.seated, sym t.is, sym h.child_of, n)

  against : Against z s c
  against = record {
    stands = λ j l _. (r.bans j l).stands;
    free = λ j l e. let b = r.bans j l in b.stands ∙ ban_none (ban c j).parent (ban c j).cancel e (b.none_yet e);
    told = λ i j l late. let full : task s.words i ≢ 0 = λ e. late.stands (sym late.child ∙ (ap parent e ∙ zero_parent)) in let h = holder i l full in
        (r.owner i, h.0, h.1, sym h.2, ((r.seats (r.owner i) h.0 h.1).holds i h.4).race j late);
  }

  held : Held z s c
  held = record {
    one = λ i l full. let h = holder i l full in (r.owner i, h.0, h.1, h.2, h.3, h.4);
    live = λ k i u there n. let a = stands_at k i u there n in (a.0, a.1, a.4);
    words_apart = λ i j l m f g e. let a = (r.tasks i l f).stands in let b = (r.tasks j m g).stands in let d : r.at (number (task s.words i)) ≡ r.at (number (task s.words j)) = ap r.at e in omega arith;
    tickets_apart = λ k l i j u w a b n e. let p = stands_at k i u a n in let q = stands_at l j w b (λ f. n (e ∙ f)) in let d : r.at (hold u i).number ≡ r.at (hold w j).number = ap r.at e in
        let p2 = p.2 in let q2 = q.2 in let same : i ≡ j = omega arith in (sym p.3 ∙ (ap r.owner same ∙ q.3), same);
    unused_ticket = λ k l i u w a b n e. let p = ((r.seats k u a).unused n).0 in let q = (stands_at l i w b (λ f. n (sym e ∙ f))).2 in let d : r.at (hold w i).number ≡ r.at u.drawn = ap r.at e in omega arith;
    unused_apart = λ k l u w a b n e. let p = ((r.seats k u a).unused n).0 in let q = ((r.seats l w b).unused (λ f. n (e ∙ f))).0 in let d : r.at u.drawn ≡ r.at w.drawn = ap r.at e in omega arith;
    unused_marked = λ k u a n m. let p = ((r.seats k u a).unused n).0 in let q = r.marks u.drawn m in omega arith;
    unused_loaded = λ k u a n f e. let p = ((r.seats k u a).unused n).0 in let q = r.nearly f in let d : r.at (number c.loaded) ≡ r.at u.drawn = ap r.at e in omega arith;
    drawn_given = λ k u a. dite (ℕ_discrete u.drawn 0) (λ e. omega arith) (λ n. let p = ((r.seats k u a).unused n).0 in given u.drawn (λ e. omega arith));
    words_given = λ i l. dite (ℕ_discrete (task s.words i) 0) (λ e. let f : number (task s.words i) ≡ 0 = ap number e ∙ zero_number in omega arith) (λ n. let p = (r.tasks i l n).stands in given (number (task s.words i)) (λ e. omega arith));
    marked_given = λ n m. let p = r.marks n m in given n (λ e. omega arith);
    counted = r.counted;
  }

  asked : Asked z s c
  asked = record {
    masked = λ k i x u there n t. ((r.seats k u there).holds i n).masked x t;
    marked = λ i l n. let t = r.tasks i l n in (t.marked, t.unmarked);
    latest = λ i l n. let full : task s.words i ≢ 0 = λ e. n (ap cancel e ∙ zero_cancel) in (r.tasks i l full).latest n;
    known = r.known;
    caught = λ k i n m x u there full e h o. ((r.seats k u there).holds i full).caught m x (subst (λ (q : ℕ). Has q m c.masks) (sym e) h) o;
  }

pub moment : (z : Size) (s : Moment) → BoardOk z s → Holds z s
moment z s (c, r) = record { control = c; first = r.first; leads = λ k u there lead. some-injective u c (sym there ∙ (ap (get_elem? s.views) ((r.seats k u there).leads lead) ∙ r.first)); against = against z c s r; held = held z c s r; asked = asked z c s r }
