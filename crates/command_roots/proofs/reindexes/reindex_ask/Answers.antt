use Rattle.std.proofs.Common.{sym, refl, ◌∙◌}
use Rattle.command_roots.proofs.AskLemmas.{ask_is}
use Rattle.command_roots.proofs.reindexes.reindex_ask.Goals as goal

pub returns : goal.returns
returns c =
    ask_is c.args.body c.args.slices c.args.rate _
    (sym (c.in-Ok-Ok.ensures.ok ∙ c.new-source.ensures ∙ c.into_string.ensures)) refl refl
    (sym (c.in-Ok-Ok.ensures'.ok ∙ c.new-dest.ensures ∙ c.into_string-2.ensures)) refl refl
