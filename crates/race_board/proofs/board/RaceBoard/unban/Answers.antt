use Rattle.std.proofs.Common.{arith, ◌≡◌, ◌≢◌, ℕ, ◌+◌, ◌<◌, List, [], ◌∷◌, length, slice_index, get_or, set, length-set, sym, refl, ap, ◌∙◌, subst}
use Rattle.race_board.specs.Words.{ban_word}
use Rattle.race_board.specs.Board.{no_ban}
use Rattle.race_board.specs.Steps.{did, noted, with_ban}
use Rattle.race_board.specs.declared.views.Size.{Size}
use Rattle.race_board.specs.declared.views.Ban.{Ban}
use Rattle.race_board.specs.declared.views.View.{View}
use Rattle.race_board.proofs.Parts.{ban_none}
use Rattle.race_board.proofs.Listed.{bans_set}
use Rattle.race_board.specs.Events.{ban_gone}
use Rattle.race_board.specs.Kinds.{unbans}
use Rattle.race_board.proofs.Doing.{on_ban}
use Rattle.race_board.proofs.Own.{lasts_same}
use Rattle.race_board.proofs.Walking.{walk_one, stride, tale}
use Rattle.race_board.proofs.board.RaceBoard.unban.Goals as goal

pub invariant_of-seat : goal.invariant_of-seat
invariant_of-seat g c = let seat = c.args.seat.now in let v : View = seat.place.me.0 in let w : View = c.lift.new.seat.me.0 in let z : Size = c.args.self.now.words.size in let j : ℕ = c.in-Some.place in
    let near : j < length seat.bans.items = c.in-Some.ensures.found.0 in let inside : j < length v.bans = (let a = seat.sized in omega arith) in
    let e : w ≡ noted (with_ban v j no_ban) (did (z.slots + j + 1) c.lift.result 0) = c.lift.ensures.lifts in
    let bans_are : w.bans ≡ set v.bans j no_ban = ap (λ (q : View). q.bans) e in let size : w.size ≡ v.size = ap (λ (q : View). q.size) e in
    record {
      bare = c.lift.ensures.fits.1;
      role = ap (λ (q : View). q.lead) e ∙ seat.role;
      sized = (length-set seat.bans.items j 0 ∙ (seat.sized.0 ∙ sym (ap (λ (q : Size). q.bans) size)), ap length bans_are ∙ (length-set v.bans j no_ban ∙ (seat.sized.1 ∙ sym (ap (λ (q : Size). q.bans) size))));
      latest = (seat.latest.0 ∙ sym (ap (λ (q : Size). q.slots) size), seat.latest.1 ∙ sym (ap (λ (q : View). q.last) e));
      lasts = lasts_same v w (ap (λ (q : View). q.last) e) (ap (λ (q : View). q.marked) e) seat.lasts;
      idle = (ap (λ (q : View). q.about) e ∙ seat.idle.0, ap (λ (q : View). q.loaded) e ∙ seat.idle.1, ap (λ (q : View). q.half) e ∙ seat.idle.2);
      whole = (ap (λ (q : View). q.to_deal) e ∙ seat.whole.0, ap (λ (q : View). q.joined) e ∙ seat.whole.1, ap (λ (q : View). q.taken) e ∙ seat.whole.2);
      standing = subst (λ (x : ℕ × List Ban). (i : ℕ) → (slice_index (set seat.bans.items j x.0) i ≡ ban_word (get_or x.1 i no_ban).parent (get_or x.1 i no_ban).cancel) × ((get_or x.1 i no_ban).parent < 16777216) × ((get_or x.1 i no_ban).cancel < 65536) × ((get_or x.1 i no_ban).parent ≢ 0 → (get_or x.1 i no_ban).cancel ≢ 0))
          (λ i. (ban_none 0 0 refl refl i, sym bans_are i)) (bans_set seat.bans.items v.bans j no_ban near inside (omega arith) (omega arith) (λ f. absurd (f refl)) seat.standing);
    }

pub returns-clause-moments : goal.returns-clause-moments
returns-clause-moments g c = let v : View = c.args.seat.now.place.me.0 in let w : View = c.lift.new.seat.me.0 in let x : ℕ = c.args.self.now.words.size.slots + c.in-Some.place + 1 in
    let j : ℕ = c.in-Some.place in let t = c.in-Some.ensures.found in let low : j < c.args.self.now.words.size.bans = (let a = t.0 in let b = c.args.seat.now.sized.0 in let d = ap (λ (q : Size). q.bans) c.requires.fits.1 in omega arith) in
    λ _. (j, t.1 ∙ c.key_of.ensures.key, walk_one unbans v w (ban_gone j ∷ []) (stride unbans v w x c.lift.result 0 0 _ _ (ap tale c.lift.ensures.lifts) c.lift.ensures.turn (j, on_ban v c.args.self.now.words.size j c.requires.fits.1 low, refl, refl) refl))
