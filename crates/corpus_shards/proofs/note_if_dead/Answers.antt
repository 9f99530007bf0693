use Rattle.std.proofs.Common.{◌≡◌, ◌&&◌, true, sym, ap, subst, ◌∙◌}
use Rattle.std.specs.Prelude.{◌==◌}
use Rattle.std.specs.Str.{bytes_eq}
use Rattle.corpus_shards.specs.Stored.{is_among}
use Rattle.corpus_shards.proofs.Notes.{push_notes, of_itself}
use Rattle.corpus_shards.proofs.note_if_dead.Goals as goal

pub returns-clause-noted : goal.returns-clause-noted
returns-clause-noted c = λ dead.
    let index = c.args.index.now in
    let named : c.in_ok-index.index ≡ index = c.in_ok-index.ensures.ok ∙ c.new-name.ensures ∙ c.in_ok-from_str.ensures.ok in
    subst (λ those. is_among those index c.args.number ≡ true) (sym c.in_ok-push.ensures.items)
    (push_notes c.args.stale.now.items (record { index = c.in_ok-index.index; shard = c.args.number }) index c.args.number (ap (λ i. bytes_eq index i && (c.args.number == c.args.number)) named ∙ of_itself index c.args.number))
