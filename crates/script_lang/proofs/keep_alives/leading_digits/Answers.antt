use Rattle.std.proofs.Common.{sym, ◌∙◌, subst, rules, tests}
use Rattle.std.proofs.lemmas.Iterator.Adapters.{YieldsList-from_bytes}
use Rattle.std.proofs.lemmas.Iterator.Consumers.{count_from_yields_List}
use Rattle.std.proofs.lemmas.Iterator.Search.{YieldsList-from_take_while}
use Rattle.std.proofs.lemmas.List.Folds.{length-prefix_len}
use Rattle.std.specs.Char.{is_ascii_digit}
use Rattle.std.specs.Str.{IsCharBoundary}
use Rattle.script_lang.proofs.KeepAliveLemmas.{cut_after_digits}
use Rattle.script_lang.proofs.keep_alives.leading_digits.Goals as goal

pub returns-clause-value : goal.returns-clause-value
returns-clause-value c =
    count_from_yields_List _ _ c.count.ensures.ran
    (YieldsList-from_take_while _ is_ascii_digit (YieldsList-from_bytes c.args.text.now cc) c.take_while.ensures.closure c.take_while.ensures.done (λ x b q k. search (rules, tests)))
    ∙ length-prefix_len is_ascii_digit c.args.text.now

pub returns-clause-cut : goal.returns-clause-cut
returns-clause-cut c = subst (IsCharBoundary c.args.text.now) (sym (returns-clause-value c)) (cut_after_digits c.args.text.now c.utf8.text)
