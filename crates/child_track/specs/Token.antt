-- What contracts see of tokens and receipts.
use Rattle.std.specs.Prelude.{ℕ, Option, None, Some}
use Rattle.task_ids.specs.declared.task_id.TaskId.{TaskId}

-- the task that asked, and the number of the ask among its own, from 1
pub record Token : Type 0 where
  pub parent : TaskId
  pub ask : ℕ

-- the task that ended (none: the request was rejected), and the task that asked with the number of its ask (none and 0: a root)
pub record ReceiptParts : Type 0 where
  pub task : Option TaskId
  pub parent : Option TaskId
  pub ask : ℕ

-- the task whose token it is
abbrev pub token_parent : Option Token → Option TaskId
token_parent None = None
token_parent (Some token) = Some token.parent

-- the number of the token's ask, and 0 where there is none
abbrev pub token_ask : Option Token → ℕ
token_ask None = 0
token_ask (Some token) = token.ask
