-- A part that is there stays.
use Rattle.std.proofs.Common.{arith, length, refl, rules, sym}
use Rattle.std.proofs.lemmas.Bool.{ltb-true}
use Rattle.std.proofs.lemmas.Option.{slice_get_read}
use Rattle.run_book.proofs.Telling.{stays}
use Rattle.run_book.proofs.parts.Parts.put.Goals as goal

pub returns-else-is_none : goal.returns-else-is_none
returns-else-is_none g c =
    let items = c.self.inside.parts.items in
    let slot = c.in-Some-get_mut.slot.now in
    let there = slice_get_read items (length items) c.in-Some.place slot refl (ltb-true _ _ (sym c.in-Some-get_mut.ensures.item.0)) c.in-Some-get_mut.ensures.value in
    rw (← c.self.view_is) (stays items c.args.node c.in-Some.place c.args.part slot (omega (arith, c.in-Some.ensures)) there (search rules))
