-- Which indices there are: those of the corpus, and those that the reindexes of the script write to.
use Rattle.std.specs.Prelude.{ℕ, List, Bool, ◌||◌, Option, None, option_map, filter_map}
use Rattle.std.specs.List.{list_any}
use Rattle.std.specs.Result.{result_ok}
use Rattle.std.specs.Str.{bytes_eq}
use Rattle.query_parse.specs.Reindexes.{reindex_at}
use Rattle.task_ids.specs.declared.corpus.Corpus.{Corpus}
use Rattle.script_lang.specs.declared.command.Command.{Command}
use Rattle.script_lang.specs.declared.command.Command.TheVariants.{Reindex}

-- some document of the input is in the index
abbrev pub is_of_corpus : Corpus → List ℕ → Bool
is_of_corpus corpus index = list_any (λ line. bytes_eq index line.index) corpus.lines

-- the index to which a command writes, where it is a reindex whose body has no fault
abbrev pub dest_of : Command → Option (List ℕ)
dest_of (Reindex node body slices rate opaque_id store) = option_map (λ read. read.dest) (result_ok (reindex_at body))
dest_of _ = None

-- the indices to which the reindexes among some commands write, but for those whose body has a fault
abbrev pub dests_of : List Command → List (List ℕ)
dests_of commands = filter_map dest_of commands

-- An index is known from the start where a document of the input is in it, or a reindex of the script writes to it whose body has no fault.
abbrev pub is_known : Corpus → List Command → List ℕ → Bool
is_known corpus commands index = is_of_corpus corpus index || list_any (bytes_eq index) (dests_of commands)
