-- What the matches of a subcommand have, where the command takes the words.
use Rattle.std.specs.Prelude.{◌≡◌, ◌⊎◌, ℕ, List, codes, pos, Option, Some, None, false}
use Rattle.clap.specs.Walk.{Row, one_of}
use Rattle.clap.specs.Values.{Accepts, read_as, reading_of}
use Rattle.clap.specs.declared.builder.value_parser.ValueParser.{ValueParser}
use Rattle.clap.specs.declared.builder.value_parser.ValueParser.TheVariants.{Signed, Unsigned}

-- an argument has a text that its parser takes, and is read as that parser says
abbrev pub HasText : ValueParser → List ℕ → List Row → Type 0
HasText parser name rows = (text : List ℕ) × (one_of name rows ≡ Some (read_as (reading_of parser) text)) × Accepts false parser text

-- an option has a number from 1 to `most`
abbrev pub HasUpTo : ℕ → List ℕ → List Row → Type 0
HasUpTo most name rows = HasText (Signed (pos 1) (pos most)) name rows

-- an option was left out, or has its number
abbrev pub MayHaveUpTo : ℕ → List ℕ → List Row → Type 0
MayHaveUpTo most name rows = (one_of name rows ≡ None) ⊎ HasUpTo most name rows

-- all three options of a cluster have theirs
pub record HasSize (rows : List Row) : Type 0 where
  pub nodes : HasUpTo 15 (codes "nodes") rows
  pub shards : HasUpTo 15 (codes "shards") rows
  pub slots : HasUpTo 1024 (codes "slots") rows

-- so they have for a run, which may have a number of data workers
pub record HasRun (rows : List Row) : Type 0 where
  pub size : HasSize rows
  pub workers : MayHaveUpTo 4 (codes "data") rows

-- the argument of `gen` has its number
abbrev pub HasNumber : List Row → Type 0
HasNumber rows = HasText (Unsigned 0 18446744073709551615) (codes "number") rows

-- the matches of a subcommand of some name
abbrev pub HasMatches : List ℕ → List Row → Type 0
HasMatches name rows = ((name ≡ codes "sim") × HasSize rows) ⊎ ((name ≡ codes "run") × HasRun rows) ⊎ ((name ≡ codes "gen") × HasNumber rows)

-- a subcommand was found, with its matches
abbrev pub IsFound : Option (List ℕ × List Row) → Type 0
IsFound found = (p : List ℕ × List Row) × (found ≡ Some p) × HasMatches p.0 p.1
