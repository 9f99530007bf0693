use Rattle.std.proofs.Common.{◌≡◌, ◌<◌, ◌≤◌, ◌∙◌, Some, length, ap, subst, refl, rules}
use Rattle.std.specs.Prelude.{IfSome}
use Rattle.std.specs.List.{slice_get}
use Rattle.std.proofs.lemmas.Option.{slice_get_read, get_or_from_slice_get}
use Rattle.corpus_shards.specs.declared.Stale.{Stale}
use Rattle.corpus_shards.specs.Stored.{Forgets, bound_of, shard_in}
use Rattle.corpus_shards.proofs.Notes.{bound_kept}
use Rattle.world_moves.specs.Purging.{oldest_in}
use Rattle.world_moves.proofs.PurgedTies.{forgotten}
use Rattle.world_moves.proofs.purging.forget_at.Goals as goal

-- what the contexts keep of the shard of the note
kept : (c : goal.After-forget_noted) → c.oldest_kept-kept.result ≡ oldest_in c.index-stale.result.now.index c.index-stale.result.now.shard c.args.state.now.contexts.items
kept c =
    let note = c.index-stale.result.now in
    c.oldest_kept-kept.ensures ∙ ap (λ i. oldest_in i note.shard c.as_slice.result.now) (c.as_str-index.ensures ∙ c.get.ensures) ∙ ap (oldest_in note.index note.shard) c.as_slice.ensures.value

pub returns-clause-tied : goal.returns-clause-tied
returns-clause-tied c =
    let s = c.args.state.now in
    let notes = s.shards.stale.items in
    let note = c.index-stale.result.now in
    let within : c.args.place < length notes = search rules in
    let at = slice_get_read notes (length notes) c.args.place note refl within c.index-stale.ensures in
    let version = bound_of c.oldest_kept-kept.result (shard_in s.shards note.index note.shard) in
    let forgets = c.forget_noted.ensures.forgets note at in
    forgotten s c.requires.tied c.requires.none_live note.index note.shard version
    (subst (λ o. IfSome o (λ least. version ≤ least)) (kept c) (bound_kept c.oldest_kept-kept.result (shard_in s.shards note.index note.shard)))
    c.forget_noted.new.self (forgets.written _ s.cluster.shards c.requires.tied.oldest c.requires.tied.shards.has) forgets.from_start (c.forget_noted.ensures.noted c.requires.tied.shards.noted)

pub returns-clause-forgets : goal.returns-clause-forgets
returns-clause-forgets c = λ note at.
    let s = c.args.state.now in
    let there = c.index-stale.result.now in
    let same : there ≡ note = c.index-stale.ensures ∙ get_or_from_slice_get s.shards.stale.items c.args.place note there at in
    subst (λ o. Forgets note.index note.shard (bound_of o (shard_in s.shards note.index note.shard)) s.shards c.forget_noted.new.self) (kept c ∙ ap (λ (n : Stale). oldest_in n.index n.shard s.contexts.items) same)
    (c.forget_noted.ensures.forgets note at)
