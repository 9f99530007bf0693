use Rattle.std.proofs.Common.{rules, arith, ◌≡◌, ◌≢◌, ℕ, ◌+◌, ◌<◌, List, [], ◌∷◌, refl, length, slice_index, get_or, set, length-set, sym, ap, ◌∙◌, subst}
use Rattle.race_board.specs.Words.{banned, by, ban_word}
use Rattle.race_board.specs.Board.{no_ban}
use Rattle.race_board.specs.Steps.{did, noted, banning, with_ban}
use Rattle.race_board.specs.declared.views.Size.{Size}
use Rattle.race_board.specs.declared.views.Ban.{Ban}
use Rattle.race_board.specs.declared.views.View.{View}
use Rattle.race_board.proofs.Parts.{banned_ban, by_ban}
use Rattle.race_board.proofs.Listed.{put_is, bans_set}
use Rattle.race_board.specs.Events.{ban_put}
use Rattle.race_board.specs.Keys.{task_key}
use Rattle.race_board.specs.Kinds.{bans}
use Rattle.race_board.specs.StepEvents.{of_ban}
use Rattle.race_board.specs.Walks.{Walks}
use Rattle.race_board.proofs.Doing.{where_same, on_ban}
use Rattle.race_board.proofs.Own.{lasts_same}
use Rattle.race_board.proofs.Walking.{walk_one, stride_either, tale}
use Rattle.race_board.proofs.board.RaceBoard.ban.Goals as goal

pub put-requires-clause-word : goal.put-requires-clause-word
put-requires-clause-word g c = let p : ℕ = c.key_of.result in let k : ℕ = c.args.cancel in let y : ℕ = c.ban_of-word.result in let is : y ≡ ban_word p k = search rules in
    let child : banned y ≡ p = ap banned is ∙ banned_ban p k c.key_of.ensures.some.1 in let number_is : by y ≡ k = ap by is ∙ by_ban p k c.key_of.ensures.some.1 in
    ((λ e. c.key_of.ensures.some.0 (sym child ∙ e)), subst g.N.BoardName.allowed (sym number_is) c.requires.cancel.1, (let a = c.requires.cancel.0 in omega arith))

pub returns-clause-put : goal.returns-clause-put
returns-clause-put g c = let v : View = c.args.seat.now.place.me.0 in let w : View = c.put.new.seat.me.0 in let z : Size = c.args.self.now.words.size in let p : ℕ = c.key_of.result in let k : ℕ = c.args.cancel in let y : ℕ = c.ban_of-word.result in let is : y ≡ ban_word p k = search rules in
    let j : ℕ = c.in-Some.place in let t = c.in-Some.ensures.found in (
      (let a = t.0 in let b = c.args.seat.now.sized.0 in let d = ap (λ (q : Size). q.bans) c.requires.fits.1 in omega arith),
      t.1,
      subst (λ (q : ℕ). w ≡ noted (with_ban v j (banning q k 0)) (did (z.slots + j + 1) 0 (ban_word q k))) c.key_of.ensures.key (put_is v w j (z.slots + j + 1) p k y c.key_of.ensures.some.1 is c.put.ensures.puts),
    )

pub invariant_of-seat : goal.invariant_of-seat
invariant_of-seat g c = let seat = c.args.seat.now in let v : View = seat.place.me.0 in let w : View = c.put.new.seat.me.0 in let z : Size = c.args.self.now.words.size in let p : ℕ = c.key_of.result in let k : ℕ = c.args.cancel in let y : ℕ = c.ban_of-word.result in let is : y ≡ ban_word p k = search rules in
    let j : ℕ = c.in-Some.place in let b : Ban = banning p k 0 in let near : j < length seat.bans.items = c.in-Some.ensures.found.0 in let inside : j < length v.bans = (let a = seat.sized in omega arith) in
    let e : w ≡ noted (with_ban v j b) (did (z.slots + j + 1) 0 (ban_word p k)) = put_is v w j (z.slots + j + 1) p k y c.key_of.ensures.some.1 is c.put.ensures.puts in
    let bans_are : w.bans ≡ set v.bans j b = ap (λ (q : View). q.bans) e in let size : w.size ≡ v.size = ap (λ (q : View). q.size) e in
    record {
      bare = c.put.ensures.fits.1;
      role = ap (λ (q : View). q.lead) e ∙ seat.role;
      sized = (length-set seat.bans.items j y ∙ (seat.sized.0 ∙ sym (ap (λ (q : Size). q.bans) size)), ap length bans_are ∙ (length-set v.bans j b ∙ (seat.sized.1 ∙ sym (ap (λ (q : Size). q.bans) size))));
      latest = (seat.latest.0 ∙ sym (ap (λ (q : Size). q.slots) size), seat.latest.1 ∙ sym (ap (λ (q : View). q.last) e));
      lasts = lasts_same v w (ap (λ (q : View). q.last) e) (ap (λ (q : View). q.marked) e) seat.lasts;
      idle = (ap (λ (q : View). q.about) e ∙ seat.idle.0, ap (λ (q : View). q.loaded) e ∙ seat.idle.1, ap (λ (q : View). q.half) e ∙ seat.idle.2);
      whole = (ap (λ (q : View). q.to_deal) e ∙ seat.whole.0, ap (λ (q : View). q.joined) e ∙ seat.whole.1, ap (λ (q : View). q.taken) e ∙ seat.whole.2);
      standing = subst (λ (x : ℕ × List Ban). (i : ℕ) → (slice_index (set seat.bans.items j x.0) i ≡ ban_word (get_or x.1 i no_ban).parent (get_or x.1 i no_ban).cancel) × ((get_or x.1 i no_ban).parent < 16777216) × ((get_or x.1 i no_ban).cancel < 65536) × ((get_or x.1 i no_ban).parent ≢ 0 → (get_or x.1 i no_ban).cancel ≢ 0))
          (λ i. (sym is i, sym bans_are i)) (bans_set seat.bans.items v.bans j b near inside c.key_of.ensures.some.1 (let a = c.requires.cancel.0 in let small : k < 65536 = omega arith in small) (λ _ f. let a = c.requires.cancel.0 in absurd (omega arith)) seat.standing);
    }

pub returns-clause-moments : goal.returns-clause-moments
returns-clause-moments g c = let v : View = c.args.seat.now.place.me.0 in let w : View = c.put.new.seat.me.0 in let x : ℕ = c.args.self.now.words.size.slots + c.in-Some.place + 1 in
    let j : ℕ = c.in-Some.place in let n : ℕ = c.put.result in let y : ℕ = c.ban_of-word.result in let z : Size = c.args.self.now.words.size in let k : ℕ = c.args.cancel in let p : ℕ = task_key c.args.parent in
    let put_word : y ≡ ban_word c.key_of.result k = search rules in let is : y ≡ ban_word p k = put_word ∙ ap (λ (q : ℕ). ban_word q k) c.key_of.ensures.key in let small : p < 16777216 = subst (λ (q : ℕ). q < 16777216) c.key_of.ensures.key c.key_of.ensures.some.1 in
    let low : j < z.bans = (let a = c.in-Some.ensures.found.0 in let b = c.args.seat.now.sized.0 in let d = ap (λ (q : Size). q.bans) c.requires.fits.1 in omega arith) in
    let events : of_ban j n y ≡ ban_put j p k ∷ [] = where_same n 0 (ban_put j (banned y) (by y) ∷ []) [] c.put.ensures.free ∙ (λ i. ban_put j ((ap banned is ∙ banned_ban p k small) i) ((ap by is ∙ by_ban p k small) i) ∷ []) in
    subst (λ (q : ℕ). Walks (bans q) v w (ban_put j p k ∷ [])) is (walk_one (bans y) v w (ban_put j p k ∷ []) (stride_either (bans y) v w x n 0 y _ _ (ban_put j p k ∷ []) (λ _. ap tale c.put.ensures.puts) (λ f. absurd (f c.put.ensures.free)) c.put.ensures.turn (j, on_ban v z j c.requires.fits.1 low, refl, refl) events))
