use Rattle.std.proofs.Common.{◌≡◌, suc, ◌-◌, length, vec_len, arith, refl, sym, ◌∙◌}
use Rattle.std.proofs.lemmas.Option.{slice_get_within, slice_get_read}
use Rattle.scroll_table.specs.Moments.{moment_at}
use Rattle.scroll_table.proofs.Places.{gone_last, gone_before, gone_here, gone_back, gone_spare, gone_kept, taken_by_last, others_stay, moved_moments}
use Rattle.scroll_table.proofs.ends.Ends.remove.Goals as goal

pub overflow_sub-last : goal.overflow_sub-last
overflow_sub-last c =
    let within = slice_get_within c.args.self.now.ids.items c.in-Some.place c.args.id.now (c.requires.here c.args.id.now c.in-Some.place (sym c.in-Some.ensures.value)) in
    omega (arith, within, c.len-last.ensures)

pub swap_remove-requires : goal.swap_remove-requires
swap_remove-requires c =
    let within = slice_get_within c.args.self.now.ids.items c.in-Some.place c.args.id.now (c.requires.here c.args.id.now c.in-Some.place (sym c.in-Some.ensures.value)) in
    omega (arith, within)

pub move_to-requires-clause-to : goal.move_to-requires-clause-to
move_to-requires-clause-to c =
    let within = slice_get_within c.args.self.now.ids.items c.in-Some.place c.args.id.now (c.requires.here c.args.id.now c.in-Some.place (sym c.in-Some.ensures.value)) in
    omega (arith, within, c.requires.room)

pub returns-then-place-last-clause-ends : goal.returns-then-place-last-clause-ends
returns-then-place-last-clause-ends c =
    let ids = c.args.self.now.ids.items in
    let less = c.swap_remove.new.self.items in
    let there = sym c.in-Some.ensures.value in
    let len : suc (length less) ≡ length ids = omega (arith, c.swap_remove.ensures.len) in
    let last : c.len-last.result - 1 ≡ length less = omega (arith, c.len-last.ensures, len) in
    let taken = taken_by_last ids less c.in-Some.place (vec_len c.args.self.now.ids) (omega arith) len c.args.id.now c.swap_remove.ensures.by_index.0 in
    let others = others_stay ids less c.in-Some.place (vec_len c.args.self.now.ids) (omega arith) len c.args.id.now c.swap_remove.ensures.by_index.1 in
    let at_last = sym (taken (omega (arith, c.if-place-last.true, last))) ∙ slice_get_read less (length less) c.in-Some.place c.index.result.now refl (omega (arith, c.if-place-last.true, last)) c.index.ensures in
    let is = gone_before ids less c.args.self.now.slots c.remove.new.self c.args.id.now c.in-Some.place c.requires.here c.requires.back there c.in-Some.ensures.updates.0 (length less) c.index.result.now c.point.new.slots at_last c.point.ensures in
    let moments = moved_moments c.args.self.now.moments.places (c.len-last.result - 1) (length less) c.in-Some.place (moment_at c.args.self.now.moments) (moment_at c.move_to.new.self) last c.move_to.ensures.moved in
    record {
      tree = c.move_to.ensures.tree;
      room = omega (arith, len, c.requires.room, c.move_to.ensures.places);
      spare = λ k le low. gone_spare ids less c.args.self.now.slots c.remove.new.self c.args.id.now c.in-Some.place c.requires.here c.requires.back there c.in-Some.ensures.updates.0 c.point.new.slots len taken others is c.args.self.now.moments.places (moment_at c.args.self.now.moments) (moment_at c.move_to.new.self) c.requires.room moments c.requires.spare k le (omega (arith, low, c.move_to.ensures.places));
      here = gone_here ids less c.args.self.now.slots c.remove.new.self c.args.id.now c.in-Some.place c.requires.here c.requires.back there c.in-Some.ensures.updates.0 c.point.new.slots len taken others is;
      back = gone_back ids less c.args.self.now.slots c.remove.new.self c.args.id.now c.in-Some.place c.requires.here c.requires.back there c.in-Some.ensures.updates.0 c.point.new.slots len taken others is;
    }

pub returns-then-place-last-clause-removed : goal.returns-then-place-last-clause-removed
returns-then-place-last-clause-removed c =
    let ids = c.args.self.now.ids.items in
    let less = c.swap_remove.new.self.items in
    let there = sym c.in-Some.ensures.value in
    let len : suc (length less) ≡ length ids = omega (arith, c.swap_remove.ensures.len) in
    let last : c.len-last.result - 1 ≡ length less = omega (arith, c.len-last.ensures, len) in
    let taken = taken_by_last ids less c.in-Some.place (vec_len c.args.self.now.ids) (omega arith) len c.args.id.now c.swap_remove.ensures.by_index.0 in
    let others = others_stay ids less c.in-Some.place (vec_len c.args.self.now.ids) (omega arith) len c.args.id.now c.swap_remove.ensures.by_index.1 in
    let at_last = sym (taken (omega (arith, c.if-place-last.true, last))) ∙ slice_get_read less (length less) c.in-Some.place c.index.result.now refl (omega (arith, c.if-place-last.true, last)) c.index.ensures in
    let is = gone_before ids less c.args.self.now.slots c.remove.new.self c.args.id.now c.in-Some.place c.requires.here c.requires.back there c.in-Some.ensures.updates.0 (length less) c.index.result.now c.point.new.slots at_last c.point.ensures in
    let moments = moved_moments c.args.self.now.moments.places (c.len-last.result - 1) (length less) c.in-Some.place (moment_at c.args.self.now.moments) (moment_at c.move_to.new.self) last c.move_to.ensures.moved in
    gone_kept ids less c.args.self.now.slots c.remove.new.self c.args.id.now c.in-Some.place c.requires.here c.requires.back there c.in-Some.ensures.updates.0 c.point.new.slots len taken others is c.args.self.now.moments.places (moment_at c.args.self.now.moments) (moment_at c.move_to.new.self) c.requires.room moments

pub returns-else-place-last-clause-ends : goal.returns-else-place-last-clause-ends
returns-else-place-last-clause-ends c =
    let ids = c.args.self.now.ids.items in
    let less = c.swap_remove.new.self.items in
    let there = sym c.in-Some.ensures.value in
    let len : suc (length less) ≡ length ids = omega (arith, c.swap_remove.ensures.len) in
    let last : c.len-last.result - 1 ≡ length less = omega (arith, c.len-last.ensures, len) in
    let taken = taken_by_last ids less c.in-Some.place (vec_len c.args.self.now.ids) (omega arith) len c.args.id.now c.swap_remove.ensures.by_index.0 in
    let others = others_stay ids less c.in-Some.place (vec_len c.args.self.now.ids) (omega arith) len c.args.id.now c.swap_remove.ensures.by_index.1 in
    let within = slice_get_within ids c.in-Some.place c.args.id.now (c.requires.here c.args.id.now c.in-Some.place there) in
    let is = gone_last ids less c.args.self.now.slots c.remove.new.self c.args.id.now c.in-Some.place c.requires.here c.requires.back there c.in-Some.ensures.updates.0 (length less) (omega (arith, c.if-place-last.false, last, within)) in
    let moments = moved_moments c.args.self.now.moments.places (c.len-last.result - 1) (length less) c.in-Some.place (moment_at c.args.self.now.moments) (moment_at c.move_to.new.self) last c.move_to.ensures.moved in
    record {
      tree = c.move_to.ensures.tree;
      room = omega (arith, len, c.requires.room, c.move_to.ensures.places);
      spare = λ k le low. gone_spare ids less c.args.self.now.slots c.remove.new.self c.args.id.now c.in-Some.place c.requires.here c.requires.back there c.in-Some.ensures.updates.0 c.remove.new.self len taken others is c.args.self.now.moments.places (moment_at c.args.self.now.moments) (moment_at c.move_to.new.self) c.requires.room moments c.requires.spare k le (omega (arith, low, c.move_to.ensures.places));
      here = gone_here ids less c.args.self.now.slots c.remove.new.self c.args.id.now c.in-Some.place c.requires.here c.requires.back there c.in-Some.ensures.updates.0 c.remove.new.self len taken others is;
      back = gone_back ids less c.args.self.now.slots c.remove.new.self c.args.id.now c.in-Some.place c.requires.here c.requires.back there c.in-Some.ensures.updates.0 c.remove.new.self len taken others is;
    }

pub returns-else-place-last-clause-removed : goal.returns-else-place-last-clause-removed
returns-else-place-last-clause-removed c =
    let ids = c.args.self.now.ids.items in
    let less = c.swap_remove.new.self.items in
    let there = sym c.in-Some.ensures.value in
    let len : suc (length less) ≡ length ids = omega (arith, c.swap_remove.ensures.len) in
    let last : c.len-last.result - 1 ≡ length less = omega (arith, c.len-last.ensures, len) in
    let taken = taken_by_last ids less c.in-Some.place (vec_len c.args.self.now.ids) (omega arith) len c.args.id.now c.swap_remove.ensures.by_index.0 in
    let others = others_stay ids less c.in-Some.place (vec_len c.args.self.now.ids) (omega arith) len c.args.id.now c.swap_remove.ensures.by_index.1 in
    let within = slice_get_within ids c.in-Some.place c.args.id.now (c.requires.here c.args.id.now c.in-Some.place there) in
    let is = gone_last ids less c.args.self.now.slots c.remove.new.self c.args.id.now c.in-Some.place c.requires.here c.requires.back there c.in-Some.ensures.updates.0 (length less) (omega (arith, c.if-place-last.false, last, within)) in
    let moments = moved_moments c.args.self.now.moments.places (c.len-last.result - 1) (length less) c.in-Some.place (moment_at c.args.self.now.moments) (moment_at c.move_to.new.self) last c.move_to.ensures.moved in
    gone_kept ids less c.args.self.now.slots c.remove.new.self c.args.id.now c.in-Some.place c.requires.here c.requires.back there c.in-Some.ensures.updates.0 c.remove.new.self len taken others is c.args.self.now.moments.places (moment_at c.args.self.now.moments) (moment_at c.move_to.new.self) c.requires.room moments
