-- The indices that are known are those of the corpus and those that reindexes write to.
use Rattle.std.proofs.Common.{◌≡◌, ◌∙◌, ◌||◌, ℕ, List, Bool, ap, subst}
use Rattle.std.specs.Prelude.{IfOk}
use Rattle.std.specs.HashSet.{contains_by}
use Rattle.std.specs.List.{list_any}
use Rattle.std.specs.Str.{bytes_eq}
use Rattle.command_roots.specs.Known.{dests_of, is_known, is_of_corpus}
use Rattle.run_book.specs.Runs.{setting_of}
use Rattle.run_driver.specs.Drives.{AreNotes}
use Rattle.run_top.specs.Kept.{IsCancelOf}
use Rattle.run_top.proofs.running.run_script.Goals as goal

pub returns-clause-lines : goal.returns-clause-lines
returns-clause-lines g c =
    let corpus = c.args.corpus.now in
    let script = c.args.script.now in
    let dests : c.as_slice.result.now ≡ dests_of script = c.as_slice.ensures.value ∙ c.in_ok-dests.ensures in
    let same : (λ (index : List ℕ). contains_by (λ k. bytes_eq index k.now) c.in_ok-known.known) ≡ is_known corpus script
    = λ i. λ index. (c.in_ok-known.ensures index ∙ ap (λ ds. is_of_corpus corpus index || list_any (bytes_eq index) ds) dests) i in
    subst (λ (known : List ℕ → Bool). IfOk c.run_known.result (λ ran. AreNotes (IsCancelOf script) (setting_of c.args.cluster.now corpus script) known script ran.lines.items)) same c.run_known.ensures.lines
