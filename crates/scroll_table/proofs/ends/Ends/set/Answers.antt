use Rattle.std.proofs.Common.{arith, ◌∙◌, sym}
use Rattle.std.proofs.lemmas.Option.{slice_get_within}
use Rattle.scroll_table.specs.Moments.{moment_at}
use Rattle.scroll_table.proofs.Places.{at_other, set_kept}
use Rattle.scroll_table.proofs.ends.Ends.set.Goals as goal

pub set-requires-clause-within : goal.set-requires-clause-within
set-requires-clause-within c =
    let within = slice_get_within c.args.self.now.ids.items c.in-Some.place.now c.args.id.now (c.requires.here c.args.id.now c.in-Some.place.now (sym c.in-Some.ensures.value)) in
    omega (arith, within, c.requires.room)

pub returns-in-Some-clause-ends : goal.returns-in-Some-clause-ends
returns-in-Some-clause-ends c =
    let within = slice_get_within c.args.self.now.ids.items c.in-Some.place.now c.args.id.now (c.requires.here c.args.id.now c.in-Some.place.now (sym c.in-Some.ensures.value)) in
    record {
      tree = c.set.ensures.tree;
      room = omega (arith, c.requires.room, c.set.ensures.places);
      spare = λ k le low. c.set.ensures.set k (omega (arith, low, c.set.ensures.places)) ∙ at_other k c.in-Some.place.now _ _ (λ e. absurd (omega (arith, e, le, within))) ∙ c.requires.spare k le (omega (arith, low, c.set.ensures.places));
      here = c.requires.here;
      back = c.requires.back;
    }

pub returns-in-Some-clause-set : goal.returns-in-Some-clause-set
returns-in-Some-clause-set c =
    set_kept c.args.self.now.moments.places (moment_at c.args.self.now.moments) (moment_at c.set.new.self) c.args.self.now.ids.items c.args.self.now.slots c.args.id.now c.in-Some.place.now c.args.moment
    c.requires.here c.requires.room (sym c.in-Some.ensures.value) c.set.ensures.set
