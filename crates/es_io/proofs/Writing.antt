-- What was written so far, against what there is to write.
use Rattle.std.proofs.Common.{◌≡◌, ℕ, ◌+◌, ◌-◌, List, ◌++◌, length, take, drop, Some, None, IfSome, sym, ap, ◌∙◌, subst, append_assoc}
use Rattle.std.proofs.Math.Seq.{take-add}
use Rattle.std.proofs.lemmas.List.{take_rest}
use Rattle.std.specs.declared.option.Option.{Option}
use Rattle.es_io.specs.Bytes.{Appends}

-- two writes, one after the other
pub appends_both : (a b c : Option (List ℕ)) (text more : List ℕ) → Appends a b text → Appends b c more → Appends a c (text ++ more)
appends_both None b c text more first second = tt
appends_both (Some bytes) b c text more first second =
    subst (λ o. IfSome o (λ w. c ≡ Some (w ++ more))) first second ∙ ap Some (append_assoc bytes text more)

-- one write more: the sink took the next n bytes of all
pub appends_more : (a b c : Option (List ℕ)) (all : List ℕ) (sent n : ℕ) → Appends a b (take sent all)
    → Appends b c (take n (take (length all - sent) (drop sent all))) → Appends a c (take (sent + n) all)
appends_more a b c all sent n first second =
    let piece : take sent all ++ take n (take (length all - sent) (drop sent all)) ≡ take (sent + n) all =
    ap (λ l. take sent all ++ take n l) (take_rest all sent) ∙ sym (take-add sent n all) in
    subst (Appends a c) piece (appends_both a b c _ _ first second)
