use Rattle.std.proofs.Common.{◌≡◌, ◌∙◌, ◌<◌, true, false, Err, Some, length, refl, subst, sym, ap, arith}
use Rattle.std.proofs.lemmas.Option.{get_or_from_slice_get}
use Rattle.task_table.specs.Table.{Table}
use Rattle.world_moves.specs.Moves.{greatest_number}
use Rattle.world_moves.proofs.Tables.{table_of, node_has_table, no_number, spent_table}
use Rattle.world_moves.proofs.starting.check_room.Goals as goal

pub index-requires : goal.index-requires
index-requires c =
    let s = c.args.state.now in
    let many = node_has_table s.cluster s.history s.tables.items c.requires.tied.ties.listed c.args.node c.requires.low c.requires.high in
    let low = c.requires.low in
    omega (arith, low, many)

pub returns-then-is_spent-clause-spent : goal.returns-then-is_spent-clause-spent
unfolding greatest_number
returns-then-is_spent-clause-spent c =
    let s = c.args.state.now in (
      λ _. no_number s.cluster s.history s.tables.items c.requires.tied.ties.listed c.args.node c.requires.low c.requires.high c.requires.tied.ties.lawful (λ table e.
          let same = c.index.ensures ∙ get_or_from_slice_get s.tables.items _ table _ e in
          subst (λ (x : Table). (length x.live < x.slots) × (x.last ≡ greatest_number)) same (c.is_spent.ensures.0 c.if-is_spent.true)),
      λ _. refl,
    )

pub returns-then-len-eq-MAX_EVENTS-clause-spent : goal.returns-then-len-eq-MAX_EVENTS-clause-spent
unfolding greatest_number
returns-then-len-eq-MAX_EVENTS-clause-spent c =
    let s = c.args.state.now in
    let its = table_of s.cluster s.history s.tables.items c.requires.tied.ties.listed c.args.node c.requires.low c.requires.high in
    let same = c.index.ensures ∙ get_or_from_slice_get s.tables.items _ its.0 _ its.1 in (
      λ e. absurd (cc),
      λ lacks. absurd (
          let spent = spent_table s.cluster s.history s.tables.items c.requires.tied.ties.listed c.args.node c.requires.low c.requires.high c.requires.tied.ties.lawful lacks in
          let yes = c.is_spent.ensures.1 (subst (λ (x : Table). (length x.live < x.slots) × (x.last ≡ greatest_number)) (sym same) spent) in
          let no : false ≡ true = sym c.if-is_spent.false ∙ yes in cc),
    )

pub returns-clause-spent : goal.returns-clause-spent
unfolding greatest_number
returns-clause-spent c =
    let s = c.args.state.now in
    let its = table_of s.cluster s.history s.tables.items c.requires.tied.ties.listed c.args.node c.requires.low c.requires.high in
    let same = c.index.ensures ∙ get_or_from_slice_get s.tables.items _ its.0 _ its.1 in (
      λ e. absurd (cc),
      λ lacks. absurd (
          let spent = spent_table s.cluster s.history s.tables.items c.requires.tied.ties.listed c.args.node c.requires.low c.requires.high c.requires.tied.ties.lawful lacks in
          let yes = c.is_spent.ensures.1 (subst (λ (x : Table). (length x.live < x.slots) × (x.last ≡ greatest_number)) (sym same) spent) in
          let no : false ≡ true = sym c.if-is_spent.false ∙ yes in cc),
    )
