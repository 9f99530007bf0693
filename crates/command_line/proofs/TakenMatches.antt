-- Where a subcommand takes words, each match that it has is one text, which the parser of its argument takes.
use Rattle.std.proofs.Common.{◌≡◌, ◌∙◌, ℕ, ◌==◌, ◌&&◌, ◌||◌, Bool, cond, true, false, not, zero, suc, List, [], ◌∷◌, ◌++◌, length, Option, Some, None, is_some, refl, sym, ap, subst, arith, true≢false, append-nil}
use Rattle.std.specs.Prelude.{⊤, option_map, option_and_then, slice_get}
use Rattle.std.specs.List.{find, fold, list_any}
use Rattle.std.specs.Option.{option_map_or}
use Rattle.std.specs.Str.{bytes_eq, chars}
use Rattle.std.proofs.lemmas.Bool.{eqb-true}
use Rattle.std.proofs.lemmas.Option.{same_Some}
use Rattle.std.proofs.lemmas.Slice.Eq.{bytes_eq-Decides}
use Rattle.clap.specs.Lexer.{long_of, short_of}
use Rattle.clap.specs.Facts.{explicit_source, unwrap_or_range}
use Rattle.clap.specs.Kinds.{Kinds, or_else, range_kinds, request_kinds}
use Rattle.clap.specs.Values.{read_as}
use Rattle.clap.specs.Walk.{Held, bundle, bundle_step, flag_met, option_met, Outcome, done, waits, plain, refused, Row, Rule, Step, Text, Waiting, idle, option, positional, Walk, action_of, after_flag, after_step, arg_by_id, arg_by_index, arg_by_long, arg_by_short, at_row, bundle_met, default_rows, has_row, is_pending, long_met, long_or_other, more_values, nothing_held, rows_after, next, trailing, subcommand, value, one_of, option_word, plain_word, positional_held, reading_by, row_text, settled, settled_rows, short_or_plain, subcommand_met, subcommand_or_other, takes_several, takes_values, to_positional, used, used_as, used_by_id, values_or_missing, walk, walk_from, walked, walked_from, with_default, with_values, without, word_met}
use Rattle.clap.specs.Simple.{Shape}
use Rattle.clap.specs.Takes.{is_given, value_passes}
use Rattle.clap.specs.Faults.{action_fault, default_fault, react_fault, given_default_fault, defaults_fault, flag_word_fault, level_fault, long_fault, option_fault, other_fault, positional_fault, set_fault, settle_fault, step_fault, stray_fault, turn_fault, use_fault, values_fault, walk_fault, word_fault}
use Rattle.clap.specs.declared.builder.action.ArgAction.{ArgAction}
use Rattle.clap.specs.declared.builder.action.ArgAction.TheVariants.{Set}
use Rattle.clap.specs.declared.builder.range.ValueRange.{ValueRange}
use Rattle.clap.specs.declared.builder.value_parser.Reading.{Reading}
use Rattle.clap.specs.declared.error.kind.ErrorKind.{ErrorKind}
use Rattle.clap.specs.declared.error.kind.ErrorKind.TheVariants.{InvalidValue, TooManyValues, WrongNumberOfValues}
use Rattle.clap.specs.declared.parser.matches.ValueSource.{ValueSource}
use Rattle.clap.specs.declared.parser.matches.ValueSource.TheVariants.{CommandLine, DefaultValue}

-- ---- lists

abbrev pub Each : {X : Type 0} → (X → Type 0) → List X → Type 0
Each P [] = ⊤
Each P (x ∷ xs) = P x × Each P xs

each_more : {X : Type 0} (P : X → Type 0) (xs : List X) (x : X) → Each P xs → P x → Each P (xs ++ x ∷ [])
each_more P [] x h p = (p, tt)
each_more P (y ∷ ys) x h p = (h.0, each_more P ys x h.1 p)

pub found_in : {X : Type 0} (P : X → Type 0) (p : X → Bool) (xs : List X) (x : X) → Each P xs → find p xs ≡ Some x → P x
found_in P p [] x h e = absurd (cc)
found_in P p (y ∷ ys) x h e = go (p y) e (λ later. found_in P p ys x h.1 later)
  where
    go : (b : Bool) → cond b (Some y) (find p ys) ≡ Some x → (find p ys ≡ Some x → P x) → P x
    go true e later = subst P (same_Some y x e) h.0
    go false e later = later e

single : {X : Type 0} (xs : List X) → length xs ≡ 1 → (x : X) × (xs ≡ x ∷ [])
single [] e = absurd (omega arith)
single (x ∷ []) e = (x, refl)
single (x ∷ y ∷ ys) e = absurd (omega arith)

same_bytes : (text : List ℕ) → bytes_eq text text ≡ true
same_bytes text = (bytes_eq-Decides text text).1 refl

any_before : {X : Type 0} (p : X → Bool) (xs more : List X) → list_any p xs ≡ true → list_any p (xs ++ more) ≡ true
any_before p [] more e = absurd (true≢false (sym e))
any_before p (x ∷ xs) more e = go (p x) e (any_before p xs more)
  where
    go : (b : Bool) → (b || list_any p xs) ≡ true → (list_any p xs ≡ true → list_any p (xs ++ more) ≡ true) → (b || list_any p (xs ++ more)) ≡ true
    go true e later = refl
    go false e later = later e

any_last : {X : Type 0} (p : X → Bool) (xs : List X) (x : X) → p x ≡ true → list_any p (xs ++ x ∷ []) ≡ true
any_last p [] x e = rw e refl
any_last p (y ∷ ys) x e = go (p y) (any_last p ys x e)
  where
    go : (b : Bool) → list_any p (ys ++ x ∷ []) ≡ true → (b || list_any p (ys ++ x ∷ [])) ≡ true
    go true later = refl
    go false later = later

-- ---- kinds of errors

pub first_empty : (a b : Kinds) → or_else a b ≡ [] → a ≡ []
first_empty [] b e = refl
first_empty (k ∷ ks) b e = e

pub next_empty : (a b : Kinds) → or_else a b ≡ [] → b ≡ []
next_empty [] b e = e
next_empty (k ∷ ks) b e = absurd (cc)

one_value : (n : ℕ) → range_kinds 1 1 n ≡ [] → n ≡ 1
one_value n e = go (n == 0) (1 == n) (eqb-true 1 n) e
  where
    go : (none one : Bool) → (one ≡ true → 1 ≡ n) → cond none (InvalidValue ∷ []) (cond one [] (WrongNumberOfValues ∷ [])) ≡ [] → n ≡ 1
    go true one is e = absurd (cc)
    go false true is e = sym (is refl)
    go false false is e = absurd (cc)

passes : (b : Bool) (k : ErrorKind) → or_else (cond b [] (k ∷ [])) [] ≡ [] → b ≡ true
passes true k e = refl
passes false k e = absurd (cc)

is_new : (there : Bool) (k : ErrorKind) → cond (there && not false) (k ∷ []) [] ≡ [] → there ≡ false
is_new true k e = absurd (cc)
is_new false k e = refl

-- ---- rows

appended : (id : Text) (change : Row → List Row) (missing : List Row) (rows : List Row) → has_row id rows ≡ false → at_row id change missing rows ≡ rows ++ missing
appended id change missing [] e = refl
appended id change missing (r ∷ rs) e = go (bytes_eq r.id id) e (appended id change missing rs)
  where
    go : (b : Bool) → (b || has_row id rs) ≡ false → (has_row id rs ≡ false → at_row id change missing rs ≡ rs ++ missing) → cond b (change r ++ rs) (r ∷ at_row id change missing rs) ≡ r ∷ (rs ++ missing)
    go true e later = absurd (true≢false e)
    go false e later = ap (λ l. r ∷ l) (later e)

abbrev row_with : Text → Reading → ValueSource → List Text → Row
row_with id how source values = record { id = id; values = values; count = None; source = Some source; reading = how }

put_last : (id : Text) (how : Reading) (source : ValueSource) (values : List Text) (rows : List Row) → has_row id rows ≡ false → with_values id how source values rows ≡ rows ++ row_with id how source values ∷ []
put_last id how source values rows e = appended id (more_values source values) _ rows e

gone : (id : Text) (rows : List Row) → has_row id rows ≡ false → without id rows ≡ rows
gone id rows e = appended id (λ _. []) [] rows e ∙ append-nil rows

abbrev IsOneOrNone : List Text → Type 0
IsOneOrNone [] = ⊤
IsOneOrNone (text ∷ []) = ⊤
IsOneOrNone (text ∷ again ∷ more) = ⊥

module _ (c : List Rule) where
  -- an argument that takes one value, once
  pub record IsOption (a : Rule) : Type 0 where
    pub set : action_of a ≡ Set
    pub range : unwrap_or_range a.range ≡ record { start_inclusive = 1; end_inclusive = 1 }
    pub found : arg_by_id c a.id ≡ Some a
    pub default : IsOneOrNone a.defaults

  -- a match that is one text, which the parser of its argument takes
  pub record IsGood (r : Row) : Type 0 where
    pub text : Text
    pub alone : r.values ≡ text ∷ []
    pub fits : (a : Rule) → arg_by_id c r.id ≡ Some a → (value_passes a text ≡ true) × (r.reading ≡ reading_by a)

  abbrev pub AreGood : List Row → Type 0
  AreGood rows = Each IsGood rows

  good_row : (a : Rule) (source : ValueSource) (text : Text) → arg_by_id c a.id ≡ Some a → value_passes a text ≡ true → IsGood (row_with a.id (reading_by a) source (text ∷ []))
  good_row a source text found passed = record {
    text = text;
    alone = refl;
    fits = λ b e. let same = same_Some a b (sym found ∙ e) in subst (λ b. (value_passes b text ≡ true) × (reading_by a ≡ reading_by b)) same (passed, refl);
  }

  -- ---- one use

  used_once : (a : Rule) (text : Text) (rows : List Row) → arg_by_id c a.id ≡ Some a → set_fault false a (text ∷ []) rows ≡ [] → AreGood rows
      → AreGood (with_values a.id (reading_by a) CommandLine (text ∷ []) (without a.id rows))
  used_once a text rows found e h =
      let new = is_new (has_row a.id rows) _ (first_empty _ (values_fault a (text ∷ [])) e) in
      let passed = passes (value_passes a text) _ (next_empty _ (values_fault a (text ∷ [])) e) in
      let same = gone a.id rows new in
      let put = ap (with_values a.id (reading_by a) CommandLine (text ∷ [])) same ∙ put_last a.id (reading_by a) CommandLine (text ∷ []) rows new in
      subst AreGood (sym put) (each_more IsGood rows _ h (good_row a CommandLine text found passed))

  used_at : (x : ArgAction) (range : ValueRange) (a : Rule) (values : List Text) (rows : List Row) → x ≡ Set → range ≡ record { start_inclusive = 1; end_inclusive = 1 } → arg_by_id c a.id ≡ Some a
      → or_else (range_kinds range.start_inclusive range.end_inclusive (length values)) (action_fault x false a (values_or_missing a values) rows) ≡ [] → AreGood rows
      → AreGood (used_as x a.id (reading_by a) (values_or_missing a values) rows)
  used_at x range a values rows set one found e h =
      let counted = subst (λ r. range_kinds r.start_inclusive r.end_inclusive (length values) ≡ []) one (first_empty _ (action_fault x false a (values_or_missing a values) rows) e) in
      let v = single values (one_value (length values) counted) in
      let acted = subst (λ x. action_fault x false a (values_or_missing a values) rows ≡ []) set (next_empty (range_kinds range.start_inclusive range.end_inclusive (length values)) _ e) in
      let once = subst (λ vs. action_fault Set false a (values_or_missing a vs) rows ≡ []) v.1 acted in
      subst (λ x. AreGood (used_as x a.id (reading_by a) (values_or_missing a values) rows)) (sym set)
      (subst (λ vs. AreGood (used_as Set a.id (reading_by a) (values_or_missing a vs) rows)) (sym v.1) (used_once a v.0 rows found once h))

  use_keeps : (a : Rule) (values : List Text) (rows : List Row) → IsOption a → use_fault false a values rows ≡ [] → AreGood rows → AreGood (used a values rows)
  use_keeps a values rows is e h = used_at (action_of a) (unwrap_or_range a.range) a values rows is.set is.range is.found e h

  -- ---- the walk

  module _ (all : Each IsOption c) (no_short : (x : ℕ) → arg_by_short c x ≡ None) where
    by_id : (values : List Text) (rows : List Row) (found : Option Rule) → ((a : Rule) → found ≡ Some a → IsOption a) → option_map_or (λ a. use_fault false a values rows) found [] ≡ [] → AreGood rows
        → AreGood (used_by_id found values rows)
    by_id values rows None is e h = h
    by_id values rows (Some a) is e h = use_keeps a values rows (is a refl) e h

    settle_at : (pending : Option (Text × List Text)) (rows : List Row)
        → option_map_or (λ p. option_map_or (λ a. use_fault false a p.1 rows) (arg_by_id c p.0) []) pending [] ≡ [] → AreGood rows → AreGood (settled_rows c pending rows)
    settle_at None rows e h = h
    settle_at (Some p) rows e h = by_id p.1 rows (arg_by_id c p.0) (λ a found. found_in IsOption _ c a all found) e h

    settle_keeps : (h : Held) → settle_fault c false h ≡ [] → AreGood h.rows → AreGood (settled c h).rows
    settle_keeps h e good = settle_at h.pending h.rows e good

    met_keeps : (a : Rule) (v : Option Text) (h : Held) → IsOption a → long_fault c false (Some a) v h ≡ [] → AreGood h.rows → AreGood (long_met c (Some a) v h).0.rows
    met_keeps a v h is e good = go (takes_values a) v e
      where
        go : (b : Bool) (v : Option Text) → cond b (option_fault c false a v h) (cond (is_some v) (TooManyValues ∷ []) (react_fault c false a [] h)) ≡ [] → AreGood (cond b (option_met c a v h) (flag_met c a v h)).0.rows
        go true (Some v) e = use_keeps a (v ∷ []) (settled c h).rows is (next_empty (settle_fault c false h) _ e) (settle_keeps h (first_empty (settle_fault c false h) _ e) good)
        go true None e = settle_keeps h e good
        go false (Some v) e = absurd (cc)
        go false None e = use_keeps a [] (settled c h).rows is (next_empty (settle_fault c false h) _ e) (settle_keeps h (first_empty (settle_fault c false h) _ e) good)

    long_keeps : (found : Option Rule) (v : Option Text) (h : Held) → ((a : Rule) → found ≡ Some a → IsOption a) → long_fault c false found v h ≡ [] → AreGood h.rows → AreGood (long_met c found v h).0.rows
    long_keeps None v h is e good = absurd (cc)
    long_keeps (Some a) v h is e good = met_keeps a v h (is a refl) e good

    -- a word that is no flag leaves the rows alone
    plain_same : (waiting : Waiting) (word : Text) (h : Held) → (plain_word c waiting word h).0.rows ≡ h.rows
    plain_same idle word h = refl
    plain_same positional word h = refl
    plain_same (option id) word h = go (arg_by_id c id)
      where
        go : (found : Option Rule) → (option_word found id word h).0.rows ≡ h.rows
        go None = refl
        go (Some a) = refl

    after_same : (waiting : Waiting) (word : Text) (h : Held) (outcome : Outcome) → (after_flag c waiting word h outcome).0.rows ≡ h.rows
    after_same waiting word h done = refl
    after_same waiting word h (waits id) = refl
    after_same waiting word h plain = plain_same waiting word h
    after_same waiting word h refused = plain_same waiting word h

    step_same : (k : ℕ) → ((flags : Text) (skip : ℕ) (so_far : Outcome) (h : Held) → (bundle_met c k flags skip so_far h).0.rows ≡ h.rows)
        → (x : Option ℕ) (flags : Text) (skip : ℕ) (so_far : Outcome) (h : Held) → (bundle_step c x flags skip so_far h (bundle_met c k)).0.rows ≡ h.rows
    step_same k later None flags skip so_far h = refl
    step_same k later (Some x) flags zero so_far h = rw (no_short x) refl
    step_same k later (Some x) flags (suc skip) so_far h = later _ skip so_far h

    -- no more does a word of short flags, which it has not
    bundle_same : (k : ℕ) (flags : Text) (skip : ℕ) (so_far : Outcome) (h : Held) → (bundle_met c k flags skip so_far h).0.rows ≡ h.rows
    unfolding bundle_met
    bundle_same zero flags skip so_far h = refl
    bundle_same (suc k) flags skip so_far h = step_same k (bundle_same k) (slice_get (chars flags) 0) flags skip so_far h

    short_keeps : (waiting : Waiting) (word : Text) (flags : Option Text) (h : Held) → (short_or_plain c waiting word flags h).0.rows ≡ h.rows
    short_keeps waiting word (Some flags) h = after_same waiting word (bundle c flags h).0 (bundle c flags h).1 ∙ bundle_same (length flags) flags h.skip plain (record h { skip = 0 })
    short_keeps waiting word None h = plain_same waiting word h

    flags_keep : (waiting : Waiting) (word : Text) (p : Option (Text × Option Text)) (h : Held) → flag_word_fault c false p word h ≡ [] → AreGood h.rows → AreGood (long_or_other c waiting word p h).0.rows
    flags_keep waiting word (Some p) h e good =
        subst AreGood (sym (after_same waiting word (long_met c (arg_by_long c p.0) p.1 h).0 (long_met c (arg_by_long c p.0) p.1 h).1))
        (long_keeps (arg_by_long c p.0) p.1 h (λ a found. found_in IsOption _ c a all found) e good)
    flags_keep waiting word None h e good = subst AreGood (sym (short_keeps waiting word (short_of word) h)) good

    none_met : (waiting : Waiting) (word : Text) → subcommand_met [] waiting word ≡ None
    none_met idle word = refl
    none_met positional word = refl
    none_met (option id) word = refl

    module _ (s : Shape) (rules : s.rules ≡ c) (again : s.args_override_self ≡ false) where
      other_keeps : (b : Bool) (waiting : Waiting) (position : ℕ) (word : Text) (h : Held) → cond b [] (flag_word_fault s.rules s.args_override_self (long_of word) word h) ≡ [] → AreGood h.rows
          → AreGood (cond b (h, trailing position) (long_or_other c waiting word (long_of word) h)).0.rows
      other_keeps true waiting position word h e good = good
      other_keeps false waiting position word h e good =
          flags_keep waiting word (long_of word) h (subst (λ b. flag_word_fault c b (long_of word) word h ≡ []) again (subst (λ r. flag_word_fault r s.args_override_self (long_of word) word h ≡ []) rules e)) good

      word_keeps : (is_trailing : Bool) (waiting : Waiting) (position : ℕ) (word : Text) (h : Held) → word_fault s [] is_trailing waiting word h ≡ [] → AreGood h.rows
          → AreGood (word_met c [] is_trailing waiting position word h).0.rows
      word_keeps true waiting position word h e good = good
      word_keeps false waiting position word h e good =
          subst (λ met. AreGood (subcommand_or_other c met waiting position word h).0.rows) (sym (none_met waiting word))
          (other_keeps (bytes_eq word (45 ∷ 45 ∷ [])) waiting position word h (subst (λ met. other_fault s met word h ≡ []) (none_met waiting word) e) good)

      place_keeps : (a : Rule) (word : Text) (h : Held) → positional_fault s.rules s.args_override_self a h ≡ [] → AreGood h.rows → AreGood (positional_held c a word h).rows
      place_keeps a word h e good = go (is_pending a h.pending && takes_several a) e
        where
          go : (b : Bool) → cond b [] (settle_fault s.rules s.args_override_self h) ≡ [] → AreGood (cond b h (settled c h)).rows
          go true e = good
          go false e = settle_keeps h (subst (λ b. settle_fault c b h ≡ []) again (subst (λ r. settle_fault r s.args_override_self h ≡ []) rules e)) good

      value_keeps : (found : Option Rule) (word : Text) (w : Walk) (h : Held) → option_map_or (λ a. positional_fault s.rules s.args_override_self a h) found (stray_fault s) ≡ [] → AreGood h.rows
          → AreGood (to_positional c found word w h).held.rows
      value_keeps None word w h e good = good
      value_keeps (Some a) word w h e good = place_keeps a word h e good

      after_keeps : (word : Text) (w : Walk) (h : Held) (step : Step) → step_fault s w.position h step ≡ [] → AreGood h.rows → AreGood (after_step c word w h step).held.rows
      after_keeps word w h (next waiting) e good = good
      after_keeps word w h (trailing position) e good = good
      after_keeps word w h (subcommand name) e good = good
      after_keeps word w h value e good = value_keeps (arg_by_index c w.position) word w h (subst (λ r. option_map_or (λ a. positional_fault s.rules s.args_override_self a h) (arg_by_index r w.position) (stray_fault s) ≡ []) rules e) good

      turn_at : (stopped : Option (Text × List Text)) (w : Walk) (word : Text)
          → cond (is_some stopped) [] (or_else (word_fault s [] w.is_trailing w.waiting word w.held) (step_fault s w.position (word_met s.rules [] w.is_trailing w.waiting w.position word w.held).0 (word_met s.rules [] w.is_trailing w.waiting w.position word w.held).1)) ≡ []
          → AreGood w.held.rows → AreGood (walked_from c [] stopped w word).held.rows
      turn_at (Some p) w word e good = good
      turn_at None w word e good =
          let met = word_met c [] w.is_trailing w.waiting w.position word w.held in
          after_keeps word w met.0 met.1
          (subst (λ r. step_fault s w.position (word_met r [] w.is_trailing w.waiting w.position word w.held).0 (word_met r [] w.is_trailing w.waiting w.position word w.held).1 ≡ []) rules (next_empty (word_fault s [] w.is_trailing w.waiting word w.held) _ e))
          (word_keeps w.is_trailing w.waiting w.position word w.held (first_empty (word_fault s [] w.is_trailing w.waiting word w.held) _ e) good)

      walk_keeps : (w : Walk) (words : List Text) → walk_fault s [] w words ≡ [] → AreGood w.held.rows → AreGood (fold (walked c []) w words).held.rows
      unfolding walked walk_fault
      walk_keeps w [] e good = good
      walk_keeps w (word ∷ words) e good =
          walk_keeps (walked c [] w word) words
          (subst (λ r. walk_fault s [] (walked r [] w word) words ≡ []) rules (next_empty (turn_fault s [] w word) _ e))
          (turn_at w.stopped w word (first_empty (turn_fault s [] w word) _ e) good)

  -- ---- defaults

  default_keeps : (rows : List Row) (a : Rule) → IsOption a → default_fault rows a ≡ [] → AreGood rows → AreGood (with_default rows a)
  default_keeps rows a is e good = go (has_row a.id rows) refl a.defaults is.default e
    where
      go : (there : Bool) → has_row a.id rows ≡ there → (defaults : List Text) → IsOneOrNone defaults → cond (there || (length defaults == 0)) [] (given_default_fault a defaults) ≡ []
          → AreGood (cond there rows (default_rows a.id (reading_by a) defaults rows))
      go true new defaults one e = good
      go false new [] one e = good
      go false new (text ∷ []) one e =
          subst AreGood (sym (put_last a.id (reading_by a) DefaultValue (text ∷ []) rows new))
          (each_more IsGood rows _ good (good_row a DefaultValue text is.found (passes (value_passes a text) _ (next_empty (request_kinds (action_of a)) _ e))))
      go false new (text ∷ again ∷ more) one e = absurd one

  defaults_keep : (rows : List Row) (rules : List Rule) → Each IsOption rules → defaults_fault rows rules ≡ [] → AreGood rows → AreGood (fold with_default rows rules)
  unfolding defaults_fault
  defaults_keep rows [] is e good = good
  defaults_keep rows (a ∷ rules) is e good = defaults_keep (with_default rows a) rules is.1 (next_empty (default_fault rows a) _ e) (default_keeps rows a is.0 (first_empty (default_fault rows a) _ e) good)

  -- ---- the matches of a subcommand that takes the words

  pub level_keeps : (s : Shape) → s.rules ≡ c → s.args_override_self ≡ false → Each IsOption c → ((x : ℕ) → arg_by_short c x ≡ None) → (words : List Text)
      → level_fault s [] nothing_held words false [] ≡ [] → AreGood (rows_after c [] words)
  level_keeps s rules again all no_short words e =
      let end = (walk c [] nothing_held words).held in
      let same : (walk s.rules [] nothing_held words).held ≡ end = ap (λ r. (walk r [] nothing_held words).held) rules in
      let first = first_empty (walk_fault s [] (walk_from nothing_held) words) _ e in
      let later = next_empty (walk_fault s [] (walk_from nothing_held) words) _ e in
      let settles = first_empty (settle_fault s.rules s.args_override_self (walk s.rules [] nothing_held words).held) _ later in
      let filled = first_empty (defaults_fault (settled s.rules (walk s.rules [] nothing_held words).held).rows s.rules) _ (next_empty (settle_fault s.rules s.args_override_self (walk s.rules [] nothing_held words).held) _ later) in
      let walked = walk_keeps all no_short s rules again (walk_from nothing_held) words first tt in
      let settled = settle_keeps all no_short end (subst (λ b. settle_fault c b end ≡ []) again (subst (λ r. settle_fault r s.args_override_self (walk r [] nothing_held words).held ≡ []) rules settles)) walked in
      defaults_keep _ c all (subst (λ r. defaults_fault (settled_at r).rows r ≡ []) rules filled) settled
    where
      settled_at : List Rule → Held
      settled_at r = settled r (walk r [] nothing_held words).held

  -- the text of a match
  pub text_of : (rows : List Row) (id : Text) (a : Rule) → AreGood rows → has_row id rows ≡ true → arg_by_id c id ≡ Some a
      → (text : Text) × (one_of id rows ≡ Some (read_as (reading_by a) text)) × (value_passes a text ≡ true)
  text_of [] id a good there found = absurd (true≢false (sym there))
  text_of (r ∷ rows) id a good there found = go (bytes_eq r.id id) refl there (λ there. text_of rows id a good.1 there found)
    where
      go : (b : Bool) → bytes_eq r.id id ≡ b → (b || has_row id rows) ≡ true → (has_row id rows ≡ true → (text : Text) × (one_of id rows ≡ Some (read_as (reading_by a) text)) × (value_passes a text ≡ true))
          → (text : Text) × (option_and_then row_text (cond b (Some r) (find (λ r. bytes_eq r.id id) rows)) ≡ Some (read_as (reading_by a) text)) × (value_passes a text ≡ true)
      go true is there later =
          let same = (bytes_eq-Decides r.id id).0 is in
          let fits = good.0.fits a (subst (λ id. arg_by_id c id ≡ Some a) (sym same) found) in
          (good.0.text, ap (λ values. option_map (read_as r.reading) (slice_get values 0)) good.0.alone ∙ ap (λ how. Some (read_as how good.0.text)) fits.1, fits.0)
      go false is there later = later there

-- ---- which matches there are

pub stays_there : (id : Text) (rows : List Row) (a : Rule) → has_row id rows ≡ true → has_row id (with_default rows a) ≡ true
stays_there id rows a there = go (has_row a.id rows) refl a.defaults
  where
    go : (b : Bool) → has_row a.id rows ≡ b → (defaults : List Text) → has_row id (cond b rows (default_rows a.id (reading_by a) defaults rows)) ≡ true
    go true new defaults = there
    go false new [] = there
    go false new (text ∷ more) = subst (λ rows. has_row id rows ≡ true) (sym (put_last a.id (reading_by a) DefaultValue (text ∷ more) rows new)) (any_before _ rows _ there)

pub there_by_default : (rows : List Row) (a : Rule) (text : Text) → a.defaults ≡ text ∷ [] → has_row a.id (with_default rows a) ≡ true
there_by_default rows a text e = go (has_row a.id rows) refl
  where
    go : (b : Bool) → has_row a.id rows ≡ b → has_row a.id (cond b rows (default_rows a.id (reading_by a) a.defaults rows)) ≡ true
    go true there = there
    go false new =
        subst (λ defaults. has_row a.id (default_rows a.id (reading_by a) defaults rows) ≡ true) (sym e)
        (subst (λ rows. has_row a.id rows ≡ true) (sym (put_last a.id (reading_by a) DefaultValue (text ∷ []) rows new)) (any_last _ rows _ (same_bytes a.id)))

pub no_text : (id : Text) (rows : List Row) → has_row id rows ≡ false → one_of id rows ≡ None
no_text id [] e = refl
no_text id (r ∷ rows) e = go (bytes_eq r.id id) e (no_text id rows)
  where
    go : (b : Bool) → (b || has_row id rows) ≡ false → (has_row id rows ≡ false → one_of id rows ≡ None) → option_and_then row_text (cond b (Some r) (find (λ r. bytes_eq r.id id) rows)) ≡ None
    go true e later = absurd (true≢false e)
    go false e later = later e

pub there_if_given : (id : Text) (rows : List Row) → is_given id rows ≡ true → has_row id rows ≡ true
there_if_given id [] e = absurd (true≢false (sym e))
there_if_given id (r ∷ rows) e = go (bytes_eq r.id id) e (there_if_given id rows)
  where
    go : (b : Bool) → option_map_or (λ r. explicit_source r.source) (cond b (Some r) (find (λ r. bytes_eq r.id id) rows)) false ≡ true → (is_given id rows ≡ true → has_row id rows ≡ true) → (b || has_row id rows) ≡ true
    go true e later = refl
    go false e later = later e
