-- The parts of a word that was put together.
use Rattle.std.proofs.Common.{◌≡◌, ◌≢◌, ℕ, ◌<◌, arith}
use Rattle.race_board.specs.Words.{number, parent, cancel, banned, by, task_word, ban_word, with_mark}

pub zero_number : number 0 ≡ 0
unfolding number
zero_number = omega arith

pub zero_cancel : cancel 0 ≡ 0
unfolding cancel
zero_cancel = omega arith

pub banned_small : (w : ℕ) → banned w < 16777216
unfolding banned
banned_small w = omega arith

pub number_task : (n p : ℕ) → n < 1048576 → number (task_word n p) ≡ n
unfolding number task_word
number_task n p h = omega arith

pub parent_task : (n p : ℕ) → n < 1048576 → p < 16777216 → parent (task_word n p) ≡ p
unfolding parent task_word
parent_task n p h k = omega arith

pub cancel_task : (n p : ℕ) → n < 1048576 → p < 16777216 → cancel (task_word n p) ≡ 0
unfolding cancel task_word
cancel_task n p h k = omega arith

pub number_mark : (w c : ℕ) → number (with_mark w c) ≡ number w
unfolding number with_mark
number_mark w c = omega arith

pub parent_mark : (w c : ℕ) → parent (with_mark w c) ≡ parent w
unfolding parent with_mark
parent_mark w c = omega arith

pub cancel_mark : (w c : ℕ) → cancel w ≡ 0 → cancel (with_mark w c) ≡ c
unfolding cancel with_mark
cancel_mark w c h = omega arith

pub banned_ban : (p c : ℕ) → p < 16777216 → banned (ban_word p c) ≡ p
unfolding banned ban_word
banned_ban p c h = omega arith

pub by_ban : (p c : ℕ) → p < 16777216 → by (ban_word p c) ≡ c
unfolding by ban_word
by_ban p c h = omega arith

-- a word is put together from its parts again
pub whole_ban : (w : ℕ) → ban_word (banned w) (by w) ≡ w
unfolding banned by ban_word
whole_ban w = omega arith

pub ban_none : (p c : ℕ) → p ≡ 0 → c ≡ 0 → ban_word p c ≡ 0
unfolding ban_word
ban_none p c h k = omega arith

pub ban_some : (p c : ℕ) → p ≢ 0 → ban_word p c ≢ 0
unfolding ban_word
ban_some p c h = λ e. h (omega arith)

pub zero_parent : parent 0 ≡ 0
unfolding parent
zero_parent = omega arith

pub mark_some : (w c : ℕ) → w ≢ 0 → with_mark w c ≢ 0
unfolding with_mark
mark_some w c h = λ e. h (omega arith)

pub banned_some : (w : ℕ) → banned w ≢ 0 → w ≢ 0
unfolding banned
banned_some w h = λ e. h (omega arith)
