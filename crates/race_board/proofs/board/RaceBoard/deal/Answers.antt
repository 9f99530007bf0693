use Rattle.std.proofs.Common.{rules, arith, ◌≡◌, ℕ, ◌<◌, length, sym, ap, ◌∙◌, subst}
use lib.ListN.{length-replicate}
use Rattle.race_board.specs.Words.{number, parent}
use Rattle.race_board.specs.Board.{hold, no_hold, newcomer}
use Rattle.race_board.specs.Steps.{Sat}
use Rattle.race_board.specs.declared.views.Size.{Size}
use Rattle.race_board.specs.declared.views.Hold.{Hold}
use Rattle.race_board.specs.declared.views.View.{View}
use Rattle.race_board.proofs.Parts.{zero_number, zero_parent}
use Rattle.race_board.proofs.Controls.{deals, all_free}
use Rattle.race_board.proofs.board.RaceBoard.deal.Goals as goal

pub split_seat-place-requires : goal.split_seat-place-requires
split_seat-place-requires g c = let place = c.args.control.now in let size : c.args.self.now.words.table.shared.key ≡ c.args.self.now.words.size = search rules in
    (search rules, search rules, λ s rule there. (deals c.args.self.now.words.table.shared.key place.id place.me.0 c.requires.fits.2 (c.requires.fits.1 ∙ sym size) c.requires.fits.3 s rule.0 there, rule.1))

pub invariant_of-result : goal.invariant_of-result
invariant_of-result g c = let w : View = c.split_seat-place.result.me.0 in let z : Size = c.args.self.now.words.size in let size : c.args.control.now.me.0.size ≡ z = c.requires.fits.1 in
    let is : w ≡ newcomer z 0 0 = ap (λ (m : Sat). m.0) c.split_seat-place.ensures.4 ∙ ap (λ (q : Size). newcomer q 0 0) size in
    let free : (i : ℕ) → hold w i ≡ no_hold = λ i. ap (λ (v : View). hold v i) is ∙ all_free z.slots i in
    record {
      bare = ap (λ (m : Sat). m.1) c.split_seat-place.ensures.4;
      role = ap (λ (v : View). v.lead) is;
      sized = (c.requires.blank.0 ∙ sym (ap (λ (v : View). v.size.slots) is), ap (λ (v : View). length v.held) is ∙ (length-replicate z.slots no_hold ∙ sym (ap (λ (v : View). v.size.slots) is)));
      tickets = λ i. (ap number (c.requires.blank.1 i) ∙ (zero_number ∙ sym (ap (λ (h : Hold). h.number) (free i))), ap parent (c.requires.blank.1 i) ∙ (zero_parent ∙ sym (ap (λ (h : Hold). h.parent) (free i))));
      distinct = λ i j f. absurd (f (ap (λ (h : Hold). h.number) (free i)));
      roots = λ i _. ap (λ (h : Hold). h.check) (free i);
      calm = λ i. ap (λ (h : Hold). h.seek) (free i);
      refused = ((λ _. ap (λ (v : View). v.told) is), λ e. search rules);
      drawn = subst (λ (n : ℕ). n < 1048576) (sym (ap (λ (v : View). v.drawn) is)) (omega arith);
      greatest = ap (λ (v : View). v.most) is;
      present = ap (λ (v : View). v.gone) is;
    }
