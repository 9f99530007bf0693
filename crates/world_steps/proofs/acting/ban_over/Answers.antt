use Rattle.std.proofs.Common.{◌∙◌, Some, ap, sym, arith}
use Rattle.std.specs.Option.{option_copied}
use Rattle.child_track.specs.Token.{token_parent}
use Rattle.world_moves.specs.Facts.{facts_of}
use Rattle.command_roots.specs.Roots.{scripted}
use Rattle.world_steps.proofs.BansOver.{parent_told, no_parent, with_parent, has_place, found}
use Rattle.world_moves.proofs.StepsAfter.{is_kept, runs_of}
use Rattle.world_steps.proofs.acting.ban_over.Goals as goal

pub returns-in_err-running : goal.returns-in_err-running
returns-in_err-running c =
    let s = c.args.state.now in
    absurd (is_kept s.cluster s.corpus.now s.script.now s.history _ _ _ c.requires.tied.ties c.args.task c.requires.live (sym c.get.ensures.value ∙ ap option_copied c.in_err-running.was))

pub returns-in_err-parent : goal.returns-in_err-parent
returns-in_err-parent c =
    let s = c.args.state.now in
    let kept = sym c.get.ensures.value ∙ ap option_copied c.in_ok-running.was ∙ ap Some (sym c.get-2.ensures) in
    let runs = runs_of s.cluster s.corpus.now s.script.now s.history _ _ _ c.requires.tied.ties c.args.task c.get-2.result.now kept in
    let parent = sym (parent_told (facts_of (scripted s.script.now) c.args.task s.history)) ∙ ap token_parent (sym runs.token) ∙ sym c.parent.ensures ∙ c.in_err-parent.was in
    c.from_residual-in_err-parent.ensures ∙ sym (no_parent c.args.task s.history parent)

pub index-requires : goal.index-requires
index-requires c =
    let s = c.args.state.now in
    let there = has_place s.cluster s.history s.bans.items c.requires.tied.ties.lawful c.requires.tied.cancels.bans_are c.args.task c.requires.live in
    omega (arith, there)

pub returns : goal.returns
returns c =
    let s = c.args.state.now in
    let kept = sym c.get.ensures.value ∙ ap option_copied c.in_ok-running.was ∙ ap Some (sym c.get-2.ensures) in
    let runs = runs_of s.cluster s.corpus.now s.script.now s.history _ _ _ c.requires.tied.ties c.args.task c.get-2.result.now kept in
    let parent = sym (parent_told (facts_of (scripted s.script.now) c.args.task s.history)) ∙ ap token_parent (sym runs.token) ∙ sym c.parent.ensures ∙ c.in_ok-parent.was in
    let bans = found s.cluster s.history s.bans.items c.requires.tied.ties.lawful c.requires.tied.cancels.bans_are c.args.task c.requires.live c.index.result.now c.index.ensures c.in_ok-parent.parent in
    c.find.ensures.found ∙ bans ∙ sym (with_parent c.args.task s.history c.in_ok-parent.parent parent)
