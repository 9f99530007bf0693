-- What words ask for that the command takes.
use Rattle.std.proofs.Common.{◌≡◌, ◌∙◌, ◌⊎◌, inl, inr, ℕ, ◌&&◌, ◌||◌, Bool, cond, true, false, not, List, [], ◌∷◌, Option, Some, None, codes, refl, sym, ap, subst, is_some, true≢false}
use Rattle.std.specs.Prelude.{option_map, option_and_then}
use Rattle.std.specs.List.{find, list_any}
use Rattle.std.specs.Option.{option_map_or}
use Rattle.std.specs.Str.{bytes_eq}
use Rattle.std.proofs.lemmas.Bool.{cases_Bool}
use Rattle.clap.specs.Faults.{is_simple_and_free, check_fault, defaults_fault, entered_fault, level_fault, settle_fault, walk_fault}
use Rattle.clap.specs.Kinds.{IsAmong, Kinds, check_kinds}
use Rattle.clap.specs.Matches.{found_of, subcommand_name_of}
use Rattle.std.specs.Box.{box_value}
use Rattle.std.proofs.lemmas.Option.{none-some, same_Some}
use Rattle.clap.specs.declared.parser.matches.ArgMatches.TheViews.{out-ArgMatches, out-SubCommand}
use Rattle.clap.specs.declared.error.kind.ErrorKind.TheVariants.{OutOfMemory}
use Rattle.clap.proofs.OnLiterals.{clap_on_literals}
use Rattle.clap.specs.declared.parser.matches.ArgMatches.{ArgMatches}
use Rattle.clap.specs.Simple.{is_simple, subcommand_rows_of, App, Shape, built, entered, filled, label_of, names_of, rows_at, subcommand_of, with_index}
use Rattle.clap.specs.Takes.{is_given}
use Rattle.clap.specs.Walk.{Held, Names, is_empty, one_of, rows_of, Row, Rule, Text, answers_to, arg_by_id, finished, has_row, nothing_held, rows_after, settled, stop_after, walk, walk_from, with_default}
use Rattle.clap.specs.Values.{read_as, reading_of}
use Rattle.clap.specs.ValueTests.{accepts}
use Rattle.clap.specs.Facts.{explicit_source, parser_of_value}
use Rattle.clap.specs.declared.builder.value_parser.ValueParser.{ValueParser}
use Rattle.clap.specs.declared.error.kind.ErrorKind.{ErrorKind}
use Rattle.clap.proofs.ValueTestLemmas.{accepts-Accepts}
use Rattle.command_line.specs.Command.{number_option, number_argument, optional_number, tasktree}
use Rattle.std.specs.Prelude.{if◌then◌else◌}
use Rattle.command_line.specs.Plan.{Asked, Size, Takes, asked, asked_by, asked_in, number_of, run_in, size_in, to_make, to_replay}
use Rattle.command_line.specs.Takes.{HasMatches, IsFound, HasRun, HasSize, HasNumber, HasText}
use Rattle.command_line.proofs.TakenMatches.{Each, IsOption, AreGood, found_in, level_keeps, first_empty, next_empty, no_text, stays_there, text_of, there_by_default, there_if_given}

-- ---- the parts of one level

pub record Passes (s : Shape) (names : Names) (h : Held) (words : List Text) (has_subcommand : Bool) (below : Kinds) : Type 0 where
  pub walks : walk_fault s names (walk_from h) words ≡ []
  pub enters : below ≡ []
  pub settles : settle_fault s.rules s.args_override_self (walk s.rules names h words).held ≡ []
  pub fills : defaults_fault (settled s.rules (walk s.rules names h words).held).rows s.rules ≡ []
  pub checks : check_fault s (finished s.rules (walk s.rules names h words).held) has_subcommand ≡ []

pub parts : (s : Shape) (names : Names) (h : Held) (words : List Text) (has_subcommand : Bool) (below : Kinds) → level_fault s names h words has_subcommand below ≡ [] → Passes s names h words has_subcommand below
parts s names h words has below e =
    let walks = walk_fault s names (walk_from h) words in
    let settles = settle_fault s.rules s.args_override_self (walk s.rules names h words).held in
    let fills = defaults_fault (settled s.rules (walk s.rules names h words).held).rows s.rules in
    let after = next_empty walks _ e in
    let later = next_empty below _ after in
    let last = next_empty settles _ later in
    record {
      walks = first_empty walks _ e;
      enters = first_empty below _ after;
      settles = first_empty settles _ later;
      fills = first_empty fills _ last;
      checks = next_empty fills _ last;
    }

-- ---- a subcommand with the size of a cluster

abbrev nodes_rule : Rule
nodes_rule = with_index 1 (filled (number_option (codes "nodes") 15 (codes "3")))

abbrev shards_rule : Rule
shards_rule = with_index 1 (filled (number_option (codes "shards") 15 (codes "2")))

abbrev slots_rule : Rule
slots_rule = with_index 1 (filled (number_option (codes "slots") 1024 (codes "256")))

-- the options as they are built
abbrev pub cluster_rules : List Rule
cluster_rules = nodes_rule ∷ shards_rule ∷ slots_rule ∷ []

cluster_options : Each (IsOption cluster_rules) cluster_rules
cluster_options = (record { set = refl; range = refl; found = refl; default = tt }, (record { set = refl; range = refl; found = refl; default = tt }, (record { set = refl; range = refl; found = refl; default = tt }, tt)))

text_in : (c : List Rule) (rows : List Row) (a : Rule) (parser : ValueParser) → AreGood c rows → has_row a.id rows ≡ true → arg_by_id c a.id ≡ Some a → a.parser ≡ Some parser → a.ignore_case ≡ false → HasText parser a.id rows
text_in c rows a parser good there found is plain =
    let text = text_of c rows a.id a good there found in (
      text.0,
      text.1 ∙ ap (λ p. Some (read_as (reading_of (parser_of_value p)) text.0)) is,
      accepts-Accepts false parser text.0 (subst (λ i. accepts i parser text.0 ≡ true) plain (subst (λ p. accepts a.ignore_case (parser_of_value p) text.0 ≡ true) is text.2)),
    )

cluster_told : (s : Shape) → s.rules ≡ cluster_rules → s.args_override_self ≡ false → (words : List Text) → level_fault s [] nothing_held words false [] ≡ [] → HasSize (rows_after s.rules [] words)
cluster_told s rules again words e =
    let good = level_keeps cluster_rules s rules again cluster_options (λ x. refl) words e in
    let walked = (settled cluster_rules (walk cluster_rules [] nothing_held words).held).rows in
    let first = with_default walked nodes_rule in
    let second = with_default first shards_rule in
    let all = rows_after cluster_rules [] words in
    let nodes = stays_there nodes_rule.id second slots_rule (stays_there nodes_rule.id first shards_rule (there_by_default walked nodes_rule _ refl)) in
    let shards = stays_there shards_rule.id second slots_rule (there_by_default first shards_rule _ refl) in
    let slots = there_by_default second slots_rule _ refl in
    subst (λ r. HasSize (rows_after r [] words)) (sym rules) (record {
      nodes = text_in cluster_rules all nodes_rule _ good nodes refl refl refl;
      shards = text_in cluster_rules all shards_rule _ good shards refl refl refl;
      slots = text_in cluster_rules all slots_rule _ good slots refl refl refl;
    })

-- ---- the subcommand that runs a script, which may have a number of data workers besides

abbrev data_rule : Rule
data_rule = with_index 1 (filled (optional_number (codes "data") 4))

abbrev pub run_rules : List Rule
run_rules = nodes_rule ∷ shards_rule ∷ slots_rule ∷ data_rule ∷ []

run_options : Each (IsOption run_rules) run_rules
run_options = (
  record { set = refl; range = refl; found = refl; default = tt },
  (
    record { set = refl; range = refl; found = refl; default = tt },
    (
      record { set = refl; range = refl; found = refl; default = tt },
      (record { set = refl; range = refl; found = refl; default = tt }, tt),
    ),
  ),
)

text_if_there : (c : List Rule) (rows : List Row) (a : Rule) (parser : ValueParser) → AreGood c rows → arg_by_id c a.id ≡ Some a → a.parser ≡ Some parser → a.ignore_case ≡ false → (one_of a.id rows ≡ None) ⊎ HasText parser a.id rows
text_if_there c rows a parser good found is plain = by_row (cases_Bool (has_row a.id rows))
  where
    by_row : (has_row a.id rows ≡ true) ⊎ (has_row a.id rows ≡ false) → (one_of a.id rows ≡ None) ⊎ HasText parser a.id rows
    by_row (inl there) = inr (text_in c rows a parser good there found is plain)
    by_row (inr none) = inl (no_text a.id rows none)

run_told : (s : Shape) → s.rules ≡ run_rules → s.args_override_self ≡ false → (words : List Text) → level_fault s [] nothing_held words false [] ≡ [] → HasRun (rows_after s.rules [] words)
run_told s rules again words e =
    let good = level_keeps run_rules s rules again run_options (λ x. refl) words e in
    let walked = (settled run_rules (walk run_rules [] nothing_held words).held).rows in
    let first = with_default walked nodes_rule in
    let second = with_default first shards_rule in
    let third = with_default second slots_rule in
    let all = rows_after run_rules [] words in
    let nodes = stays_there nodes_rule.id third data_rule (stays_there nodes_rule.id second slots_rule (stays_there nodes_rule.id first shards_rule (there_by_default walked nodes_rule _ refl))) in
    let shards = stays_there shards_rule.id third data_rule (stays_there shards_rule.id second slots_rule (there_by_default first shards_rule _ refl)) in
    let slots = stays_there slots_rule.id third data_rule (there_by_default second slots_rule _ refl) in
    subst (λ r. HasRun (rows_after r [] words)) (sym rules) (record {
      size = record {
        nodes = text_in run_rules all nodes_rule _ good nodes refl refl refl;
        shards = text_in run_rules all shards_rule _ good shards refl refl refl;
        slots = text_in run_rules all slots_rule _ good slots refl refl refl;
      };
      workers = text_if_there run_rules all data_rule _ good refl refl refl;
    })

-- ---- the subcommand with a number

abbrev number_rule : Rule
number_rule = with_index 1 (filled number_argument)

abbrev pub gen_rules : List Rule
gen_rules = number_rule ∷ []

gen_options : Each (IsOption gen_rules) gen_rules
gen_options = (record { set = refl; range = refl; found = refl; default = tt }, tt)

is_required : (given : Bool) (k : ErrorKind) → cond (not given || false) (k ∷ []) [] ≡ [] → given ≡ true
is_required true k e = refl
is_required false k e = absurd (cc)

gen_told : (s : Shape) → s.rules ≡ gen_rules → s.args_override_self ≡ false → s.arg_required_else_help ≡ false → s.subcommand_required ≡ false → s.subcommand_negates_reqs ≡ false → (words : List Text)
    → level_fault s [] nothing_held words false [] ≡ [] → HasNumber (rows_after s.rules [] words)
gen_told s rules again help wanted negates words e =
    let good = level_keeps gen_rules s rules again gen_options (λ x. refl) words e in
    let checks = (parts s [] nothing_held words false [] e).checks in
    let all = rows_after gen_rules [] words in
    let given = subst (λ b. check_kinds (true && (b && not (list_any (λ r. explicit_source r.source) all))) (true && false) (not (false && false) && list_any (λ a. a.required && not (is_given a.id all)) gen_rules) ≡ []) help
    (subst (λ b. check_kinds (true && (s.arg_required_else_help && not (list_any (λ r. explicit_source r.source) all))) (true && b) (not (false && false) && list_any (λ a. a.required && not (is_given a.id all)) gen_rules) ≡ []) wanted
    (subst (λ b. check_kinds (true && (s.arg_required_else_help && not (list_any (λ r. explicit_source r.source) all))) (true && s.subcommand_required) (not (b && false) && list_any (λ a. a.required && not (is_given a.id all)) gen_rules) ≡ []) negates
    (subst (λ r. check_fault_of s r (rows_after r [] words) ≡ []) rules checks))) in
    subst (λ r. HasNumber (rows_after r [] words)) (sym rules) (text_in gen_rules all number_rule _ good (there_if_given number_rule.id all (is_required _ _ given)) refl refl refl)
  where
    check_fault_of : Shape → List Rule → List Row → Kinds
    check_fault_of s r rows = check_kinds
        (true && (s.arg_required_else_help && not (list_any (λ r. explicit_source r.source) rows)))
        (true && s.subcommand_required)
        (not (s.subcommand_negates_reqs && false) && list_any (λ a. a.required && not (is_given a.id rows)) r)

-- ---- the command

abbrev IsTold : Shape → Type 0
IsTold s = (words : List Text) → level_fault s [] nothing_held words false [] ≡ [] → HasMatches s.name (rows_after s.rules [] words)

all_told : Each IsTold (built tasktree).subs
unfolding tasktree
all_told = (λ words e. inl (refl, cluster_told _ refl refl words e), (λ words e. inr (inl (refl, run_told _ refl refl words e)), (λ words e. inr (inr (refl, gen_told _ refl refl refl refl refl words e)), tt)))

at_stop : (a : App) → Each IsTold a.subs → (stop : Option (Text × List Text)) → is_some (entered a stop) ≡ true → entered_fault a stop ≡ [] → IsFound (entered a stop)
at_stop a told None there e = absurd (true≢false (sym there))
at_stop a told (Some q) there e = go (find (λ s. answers_to q.0 (label_of s)) a.subs) (λ s found. found_in IsTold _ a.subs s told found) there e
  where
    go : (found : Option Shape) → ((s : Shape) → found ≡ Some s → IsTold s) → is_some (option_map (λ s. rows_at s q.1) found) ≡ true → option_map_or (λ s. level_fault s [] nothing_held q.1 false []) found [] ≡ []
        → (p : Text × List Row) × (option_map (λ s. rows_at s q.1) found ≡ Some p) × HasMatches p.0 p.1
    go None is there e = absurd (true≢false (sym there))
    go (Some s) is there e = (rows_at s q.1, refl, is s refl q.1 e)

-- a subcommand has to be there
wants : (has wants_help wants_argument : Bool) → check_kinds (not has && wants_help) (not has && true) wants_argument ≡ [] → has ≡ true
wants true wants_help wants_argument e = refl
wants false true wants_argument e = absurd (cc)
wants false false wants_argument e = absurd (cc)

told_of : (a : App) → Each IsTold a.subs → a.top.subcommand_required ≡ true → (words : List Text)
    → level_fault a.top (names_of a) nothing_held words (is_some (entered a (stop_after a.top.rules (names_of a) words))) (entered_fault a (stop_after a.top.rules (names_of a) words)) ≡ []
    → IsFound (entered a (stop_after a.top.rules (names_of a) words))
told_of a told wanted words e =
    let stop = stop_after a.top.rules (names_of a) words in
    let passed = parts a.top (names_of a) nothing_held words (is_some (entered a stop)) (entered_fault a stop) e in
    let rows = finished a.top.rules (walk a.top.rules (names_of a) nothing_held words).held in
    let there = wants (is_some (entered a stop)) _ _ (subst (λ b. check_kinds (not (is_some (entered a stop)) && (a.top.arg_required_else_help && not (list_any (λ r. explicit_source r.source) rows))) (not (is_some (entered a stop)) && b)
    (not (a.top.subcommand_negates_reqs && is_some (entered a stop)) && list_any (λ a. a.required && not (is_given a.id rows)) a.top.rules) ≡ []) wanted passed.checks) in
    at_stop a told stop there passed.enters

-- Where the command takes the words, they are those of a subcommand, with what it wants.
pub told : (words : List Text) → Takes words → IsFound (subcommand_of tasktree words)
unfolding tasktree
told words e = told_of (built tasktree) all_told refl words e

-- ---- what is asked

pub sized : (rows : List Row) (nodes shards slots : ℕ) → number_of (codes "nodes") rows ≡ Some nodes → number_of (codes "shards") rows ≡ Some shards → number_of (codes "slots") rows ≡ Some slots
    → size_in rows ≡ Some (record { nodes = nodes; shards = shards; slots = slots })
sized rows nodes shards slots e f g =
    ap (λ n. option_and_then (λ nodes. option_and_then (λ shards. option_and_then (λ slots. Some (record { nodes = nodes; shards = shards; slots = slots })) (number_of (codes "slots") rows)) (number_of (codes "shards") rows)) n) e
    ∙ ap (λ n. option_and_then (λ shards. option_and_then (λ slots. Some (record { nodes = nodes; shards = shards; slots = slots })) (number_of (codes "slots") rows)) n) f
    ∙ ap (λ n. option_and_then (λ slots. Some (record { nodes = nodes; shards = shards; slots = slots })) n) g

pub asked_where : (words : List Text) → Takes words → asked words ≡ asked_in (subcommand_of tasktree words)
unfolding asked
asked_where words takes = ap (λ kinds. if is_empty kinds then asked_in (subcommand_of tasktree words) else None) takes

-- what `sim`, `gen` and `run` ask for
pub asked_sim : (found : Option (Text × List Row)) (p : Text × List Row) (size : Size) → found ≡ Some p → p.0 ≡ codes "sim" → size_in p.1 ≡ Some size → asked_in found ≡ Some (to_replay size)
unfolding asked_by
asked_sim found p size met name is = ap asked_in met ∙ ap (λ name. asked_by name p.1) name ∙ ap (option_map to_replay) is

pub asked_gen : (found : Option (Text × List Row)) (p : Text × List Row) (n : ℕ) → found ≡ Some p → p.0 ≡ codes "gen" → number_of (codes "number") p.1 ≡ Some n → asked_in found ≡ Some (to_make n)
unfolding asked_by
asked_gen found p n met name is = ap asked_in met ∙ ap (λ name. asked_by name p.1) name ∙ ap (option_map to_make) is

pub asked_run : (found : Option (Text × List Row)) (p : Text × List Row) (is_asked : Asked) → found ≡ Some p → p.0 ≡ codes "run" → run_in p.1 ≡ Some is_asked → asked_in found ≡ Some is_asked
unfolding asked_by
asked_run found p is_asked met name is = ap asked_in met ∙ ap (λ name. asked_by name p.1) name ∙ is

-- ---- by the name of the subcommand

pub is_sim : (p : Text × List Row) → HasMatches p.0 p.1 → p.0 ≡ codes "sim" → HasSize p.1
is_sim p (inl sim) name = sim.1
is_sim p (inr (inl run)) name = absurd (true≢false (ap (λ text. bytes_eq text (codes "run")) (sym run.0 ∙ name)))
is_sim p (inr (inr gen)) name = absurd (true≢false (ap (λ text. bytes_eq text (codes "sim")) (sym name ∙ gen.0)))

pub is_gen : (p : Text × List Row) → HasMatches p.0 p.1 → p.0 ≡ codes "gen" → HasNumber p.1
is_gen p (inl sim) name = absurd (true≢false (ap (λ text. bytes_eq text (codes "gen")) (sym name ∙ sim.0)))
is_gen p (inr (inl run)) name = absurd (true≢false (ap (λ text. bytes_eq text (codes "gen")) (sym name ∙ run.0)))
is_gen p (inr (inr gen)) name = gen.1

pub is_run : (p : Text × List Row) → HasMatches p.0 p.1 → p.0 ≡ codes "run" → HasRun p.1
is_run p (inl sim) name = absurd (true≢false (ap (λ text. bytes_eq text (codes "run")) (sym name ∙ sim.0)))
is_run p (inr (inl run)) name = run.1
is_run p (inr (inr gen)) name = absurd (true≢false (ap (λ text. bytes_eq text (codes "run")) (sym name ∙ gen.0)))

-- there is no fourth
pub no_other : (p : Text × List Row) → HasMatches p.0 p.1 → (p.0 ≡ codes "sim" → ⊥) → (p.0 ≡ codes "run" → ⊥) → (p.0 ≡ codes "gen" → ⊥) → ⊥
no_other p (inl sim) not_sim not_run not_gen = not_sim sim.0
no_other p (inr (inl run)) not_sim not_run not_gen = not_run run.0
no_other p (inr (inr gen)) not_sim not_run not_gen = not_gen gen.0

-- ---- the matches as they are given

parts_at : {B : Type 0} (row : B → Text × List Row) (sub : Option B) (p : Text × List Row) (name : Text) (rows : List Row) → option_map row sub ≡ Some p → Some name ≡ option_map (λ b. (row b).0) sub
    → Some rows ≡ option_map (λ q. q.1) (option_map row sub) → (p.0 ≡ name) × (p.1 ≡ rows)
parts_at row None p name rows is named shown = absurd (none-some p is)
parts_at row (Some b) p name rows is named shown =
    let same = sym (same_Some (row b) p is) in
    (ap (λ q. q.0) same ∙ sym (same_Some name (row b).0 named), ap (λ q. q.1) same ∙ sym (same_Some rows (row b).1 shown))

-- the name and the rows of the subcommand that a parse entered
pub parts_met : (m : ArgMatches) (p : Text × List Row) (name : Text) (rows : List Row) → subcommand_rows_of m ≡ Some p → Some name ≡ subcommand_name_of m → Some rows ≡ option_map (λ p. p.1) (subcommand_rows_of m) → (p.0 ≡ name) × (p.1 ≡ rows)
parts_met m p name rows is named shown =
    parts_at (λ b. ((out-SubCommand (box_value b)).name.now, rows_of (found_of (out-SubCommand (box_value b)).matches))) (out-ArgMatches m).subcommand p name rows is named shown

-- ---- the command is one of which clap tells all

pub is_known : is_simple_and_free tasktree ≡ true
unfolding tasktree clap_on_literals
is_known = refl

pub is_known_simple : is_simple tasktree ≡ true
unfolding tasktree clap_on_literals
is_known_simple = refl

-- an error that is no want of memory is one where the command does not take the words
pub not_taken : (kinds : Kinds) (kind : ErrorKind) → (kind ≡ OutOfMemory) ⊎ IsAmong kind kinds → (kind ≡ OutOfMemory → ⊥) → kinds ≡ [] → ⊥
not_taken kinds kind (inl memory) other e = other memory
not_taken kinds kind (inr among) other e = subst (IsAmong kind) e among
