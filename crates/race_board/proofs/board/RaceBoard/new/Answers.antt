use Rattle.std.proofs.Common.{rules, arith, ◌≡◌, ◌≢◌, ℕ, ◌+◌, ◌-◌, ◌<◌, ◌≤◌, [], ◌∷◌, All, get_or, length, replicate, slice_index, refl, sym, ap, ◌∙◌, subst}
use lib.ListN.{length-replicate}
use Rattle.std.proofs.lemmas.List.Elements.{All-append}
use Rattle.race_board.specs.Words.{ban_word}
use Rattle.race_board.specs.Board.{ban, no_ban, newcomer}
use Rattle.race_board.specs.Seats.{dealt, IsNew}
use Rattle.race_board.specs.Steps.{Sat}
use Rattle.race_board.specs.declared.views.Size.{Size}
use Rattle.race_board.specs.declared.views.Ban.{Ban}
use Rattle.race_board.specs.declared.views.View.{View}
use Rattle.race_board.proofs.Parts.{ban_none}
use Rattle.race_board.proofs.Controls.{all_lifted}
use Rattle.race_board.proofs.Own.{lasts_blank}
use Rattle.race_board.proofs.Known.{no_ban_yet}
use Rattle.race_board.proofs.board.RaceBoard.new.Goals as goal

pub invariant_of-control : goal.invariant_of-control
invariant_of-control g c = let v : View = c.loop.place.me.0 in let z : Size = c.in_ok-board.board.words.size in let is : v ≡ dealt z c.loop.counter = ap (λ (m : Sat). m.0) c.loop.invariant.me in
    let lifted : (j : ℕ) → ban v j ≡ no_ban = λ j. ap (λ (q : View). ban q j) is ∙ all_lifted z.bans j in let bans_are : z.bans ≡ c.args.bans = search rules in let slots_are : z.slots ≡ c.args.slots = search rules in
    let blank : (length c.in_ok-bans.bans.items ≡ c.args.bans) × ((i : ℕ) → slice_index c.in_ok-bans.bans.items i ≡ 0) = search rules in
    let none : (length c.in_ok-marked.marked.items ≡ c.args.slots) × (c.in_ok-marked.marked.items ≡ replicate c.args.slots 0) = search rules in
    record {
      bare = ap (λ (m : Sat). m.1) c.loop.invariant.me;
      role = ap (λ (q : View). q.lead) is;
      sized = (blank.0 ∙ (sym bans_are ∙ sym (ap (λ (q : View). q.size.bans) is)), ap (λ (q : View). length q.bans) is ∙ (length-replicate z.bans no_ban ∙ sym (ap (λ (q : View). q.size.bans) is)));
      latest = (none.0 ∙ (sym slots_are ∙ sym (ap (λ (q : View). q.size.slots) is)), none.1 ∙ (ap (λ (n : ℕ). replicate n 0) (sym slots_are) ∙ sym (ap (λ (q : View). q.last) is)));
      lasts = lasts_blank v z.slots (ap (λ (q : View). q.last) is);
      idle = (ap (λ (q : View). q.about) is, ap (λ (q : View). q.loaded) is, ap (λ (q : View). q.half) is);
      whole = (ap (λ (q : View). q.to_deal) is ∙ (let a : c.args.data_seats ≤ c.loop.counter = search rules in let b : z.seats ≡ c.args.data_seats = search rules in omega arith), ap (λ (q : View). q.joined) is, ap (λ (q : View). q.taken) is);
      standing = λ j. let Of : Ban → Type 0 = λ b. (slice_index c.in_ok-bans.bans.items j ≡ ban_word b.parent b.cancel) × (b.parent < 16777216) × (b.cancel < 65536) × (b.parent ≢ 0 → b.cancel ≢ 0) in
          subst Of (sym (lifted j)) (blank.1 j ∙ sym (ban_none 0 0 refl refl), omega arith, omega arith, λ f. absurd (f refl));
    }

pub loop-preserved : goal.loop-preserved
loop-preserved g c = let v : View = c.loop.place.me.0 in let z : Size = c.in_ok-board.board.words.size in let n : ℕ = c.loop.counter in let is : v ≡ dealt z n = ap (λ (m : Sat). m.0) c.loop.invariant.me in
    let less : z.seats - n - 1 ≡ z.seats - (n + 1) = omega arith in record {
      table = search rules;
      me = c.deal.ensures.control.1 ∙ (ap (λ (q : View). let m : Sat = (record q { to_deal = q.to_deal - 1 }, []) in m) is ∙ (λ i. let m : Sat = (newcomer z 1 (less i), []) in m));
      count = search rules;
      all = subst (All (IsNew c.in_ok-board.board)) (sym c.in_ok-push.ensures.items) (All-append (IsNew c.in_ok-board.board) c.loop.seats.items (c.deal.result ∷ []) c.loop.invariant.all (λ k d l. subst (λ (q : ℕ). IsNew c.in_ok-board.board (get_or (c.deal.result ∷ []) q d)) (let e : 0 ≡ k = omega arith in e) c.deal.ensures.seat));
    }

pub returns-clause-free : goal.returns-clause-free
returns-clause-free g c = let z : Size = c.in_ok-board.board.words.size in no_ban_yet z c.loop.place.me.0 (z.seats - c.loop.counter) (ap (λ (m : Sat). m.0) c.loop.invariant.me)
