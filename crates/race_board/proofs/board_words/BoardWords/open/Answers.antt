use Rattle.std.proofs.Common.{◌≡◌, ℕ, zero, suc, ◌+◌, ◌*◌, List, length, replicate, get_or, refl, sym, ap, ◌∙◌, subst, ◌<◌, arith, rules}
use Rattle.std.proofs.lemmas.List.{length-replicate}
use Rattle.race_board.specs.Words.{cancel}
use Rattle.race_board.proofs.Parts.{zero_cancel}
use Rattle.race_board.proofs.Controls.{starts}
use Rattle.race_board.proofs.board_words.BoardWords.open.Goals as goal

blank : (n i : ℕ) → (let z : ℕ = get_or (replicate n 0) i 0 in z) ≡ 0
blank zero i = refl
blank (suc n) zero = refl
blank (suc n) (suc i) = blank n i

pub of_words-requires : goal.of_words-requires
of_words-requires g c = let z = c.args.size in let e = c.as_slice.ensures.value in let f : c.in_ok-words.words.items ≡ replicate (2 * z.slots + z.bans + 1) 0 = search rules in
    let all : c.as_slice.result.now ≡ replicate (2 * z.slots + z.bans + 1) 0 = e ∙ f in let free : (i : ℕ) → get_or c.as_slice.result.now i 0 ≡ 0 = λ i. ap (λ (l : List ℕ). get_or l i 0) all ∙ blank (2 * z.slots + z.bans + 1) i in (
      starts z c.as_slice.result.now (ap length all ∙ length-replicate (2 * z.slots + z.bans + 1) 0) free (search rules),
      record { marks = λ i _ n. absurd (n (ap cancel (free (i + 1)) ∙ zero_cancel)); bans = λ j _ n. absurd (n (free (z.slots + j + 1))); masks = λ i _. subst (λ (n : ℕ). n < 65536) (sym (free (z.slots + z.bans + i + 1))) (omega arith) },
    )
