-- The command of the program, as clap's definitions see it.
use Rattle.std.specs.Prelude.{ℕ, List, [], ◌∷◌, ◌++◌, Some, true, false, pos, codes}
use Rattle.clap.specs.Walk.{Rule}
use Rattle.clap.specs.Simple.{App, Shape, new_rule, new_shape}
use Rattle.clap.specs.declared.builder.value_parser.ValueParser.TheVariants.{Signed, Unsigned}

-- an option with a number from 1 to `most`, which may be left out
abbrev pub optional_number : (name : List ℕ) (most : ℕ) → Rule
optional_number name most = record (new_rule name) {
  long = Some name;
  parser = Some (Signed (pos 1) (pos most));
}

-- the same, with the text of a default
abbrev pub number_option : (name : List ℕ) (most : ℕ) (default : List ℕ) → Rule
number_option name most default = record (optional_number name most) { defaults = default ∷ [] }

-- the number that has to follow, of 64 bits
abbrev pub number_argument : Rule
number_argument = record (new_rule (codes "number")) {
  required = true;
  parser = Some (Unsigned 0 18446744073709551615);
}

-- a subcommand with the size of a cluster: 1 to 15 nodes, or else 3; 1 to 15 shards, or else 2; 1 to 1,024 slots, or else 256
abbrev pub cluster_command : (name : List ℕ) → Shape
cluster_command name = record (new_shape name) {
  rules = number_option (codes "nodes") 15 (codes "3")
      ∷ number_option (codes "shards") 15 (codes "2")
      ∷ number_option (codes "slots") 1024 (codes "256") ∷ [];
}

-- the same for `run`, with 1 to 4 data workers on each node, where the words say how many
abbrev pub run_command : Shape
run_command = record (cluster_command (codes "run")) { rules = (cluster_command (codes "run")).rules ++ optional_number (codes "data") 4 ∷ [] }

abbrev pub gen_command : Shape
gen_command = record (new_shape (codes "gen")) { rules = number_argument ∷ [] }

-- The command: one of three subcommands has to follow, and nothing asks for help or the version.
unfoldable pub tasktree : App
tasktree = record {
  top = record (new_shape (codes "tasktree")) {
    is_leaf = false;
    no_binary_name = true;
    disable_help_flag = true;
    disable_help_subcommand = true;
    disable_version_flag = true;
    subcommand_required = true;
  };
  subs = cluster_command (codes "sim") ∷ run_command ∷ gen_command ∷ [];
}
