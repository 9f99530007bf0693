use Rattle.std.proofs.Common.{◌∙◌, ◌-◌, refl, sym, arith}
use Rattle.std.proofs.lemmas.Option.{slice_get_within}
use Rattle.world_moves.proofs.BansAfter.{has_bans, bans_tell, bans_on}
use Rattle.world_moves.proofs.LiveRows.{read_at}
use Rattle.world_moves.proofs.NextChild.{open_in, open_stands, child_found, child_number, none_left, table_read, on_none}
use Rattle.world_moves.proofs.Tables.{node_has_table}
use Rattle.world_moves.proofs.listings.next_child.Goals as goal

pub overflow_sub-place : goal.overflow_sub-place
overflow_sub-place c =
    let s = c.args.state.now in
    let l = c.args.listing in
    let node = open_in s.cluster s.history l.node l.parent c.requires.tied.ties.lawful c.requires.opened in
    node.0

pub index-requires : goal.index-requires
index-requires c =
    let s = c.args.state.now in
    let l = c.args.listing in
    let node = open_in s.cluster s.history l.node l.parent c.requires.tied.ties.lawful c.requires.opened in
    let low = node.0 in
    let many = node_has_table s.cluster s.history s.tables.items c.requires.tied.ties.listed l.node node.0 node.1 in
    omega (arith, low, many, s.tables.ok.0)

pub returns-in_err-number-clause-none : goal.returns-in_err-number-clause-none
returns-in_err-number-clause-none c =
    let s = c.args.state.now in
    let l = c.args.listing in
    let node = open_in s.cluster s.history l.node l.parent c.requires.tied.ties.lawful c.requires.opened in
    let fits = table_read s.cluster s.history s.tables.items l.node c.index.result.now c.requires.tied.ties.listed c.requires.tied.cancels.rows_are node.0 node.1 c.index.ensures in
    on_none c.from_residual.result _ (none_left s.cluster s.history l c.requires.tied.ties.lawful c.index.result.now fits.0 fits.1 c.in_err-number.ensures.none)

pub index-requires-2 : goal.index-requires-2
index-requires-2 c =
    let s = c.args.state.now in
    let l = c.args.listing in
    let node = open_in s.cluster s.history l.node l.parent c.requires.tied.ties.lawful c.requires.opened in
    let many = has_bans s.cluster s.history _ _ s.bans.items _ _ c.requires.tied.cancels l.node node.0 node.1 in
    omega (arith, many, s.bans.ok.0)

pub unreachable-requires : goal.unreachable-requires
unreachable-requires c =
    let s = c.args.state.now in
    let l = c.args.listing in
    let node = open_in s.cluster s.history l.node l.parent c.requires.tied.ties.lawful c.requires.opened in
    let on = bans_on s.cluster s.history _ _ s.bans.items _ _ c.requires.tied.cancels l.node node.0 node.1 in
    let here = read_at s.bans.items (l.node - 1) c.index-2.result.now (slice_get_within s.bans.items (l.node - 1) on.0 on.1) c.index-2.ensures in
    let tells = bans_tell s.cluster s.history _ _ s.bans.items _ _ c.requires.tied.cancels l.node node.0 node.1 c.index-2.result.now here l.parent in
    open_stands s.cluster s.history l.node l.parent c.requires.tied.ties.lawful c.requires.opened (sym tells ∙ sym c.find.ensures.found ∙ c.in_default.is)

pub invariant_of-task : goal.invariant_of-task
invariant_of-task c =
    let s = c.args.state.now in
    let l = c.args.listing in
    let node = open_in s.cluster s.history l.node l.parent c.requires.tied.ties.lawful c.requires.opened in
    let fits = table_read s.cluster s.history s.tables.items l.node c.index.result.now c.requires.tied.ties.listed c.requires.tied.cancels.rows_are node.0 node.1 c.index.ensures in
    let high = node.1 in
    let most = s.cluster.nodes_in_range.1 in
    record { node_in_range = (node.0, omega (arith, high, most)); number_in_range = child_number s.cluster s.history l c.requires.tied.ties.lawful c.index.result.now fits.0 fits.1 c.in_ok-number.number c.in_ok-number.ensures.found }

pub returns-clause-child : goal.returns-clause-child
returns-clause-child c =
    let s = c.args.state.now in
    let l = c.args.listing in
    let node = open_in s.cluster s.history l.node l.parent c.requires.tied.ties.lawful c.requires.opened in
    let fits = table_read s.cluster s.history s.tables.items l.node c.index.result.now c.requires.tied.ties.listed c.requires.tied.cancels.rows_are node.0 node.1 c.index.ensures in
    let on = bans_on s.cluster s.history _ _ s.bans.items _ _ c.requires.tied.cancels l.node node.0 node.1 in
    let here = read_at s.bans.items (l.node - 1) c.index-2.result.now (slice_get_within s.bans.items (l.node - 1) on.0 on.1) c.index-2.ensures in
    let tells = bans_tell s.cluster s.history _ _ s.bans.items _ _ c.requires.tied.cancels l.node node.0 node.1 c.index-2.result.now here l.parent in
    (child_found s.cluster s.history l c.requires.tied.ties.lawful c.index.result.now fits.0 fits.1 c.in_ok-number.number c.in_ok-number.ensures.found c.in_ok-number.ensures.lowest _ refl refl, sym tells ∙ sym c.find.ensures.found ∙ c.in-Some.is)
