-- What is shown to the user for each cause of a refusal.
use Rattle.std.specs.Prelude.{ℕ, List, codes}
use Rattle.task_ids.specs.declared.cause.Cause.{Cause}
use Rattle.task_ids.specs.declared.cause.Cause.TheVariants.{TooLong, TooManyLines, LineTooLong, NoSource, BadUtf8, BadJson, NotWhole, NotObject, UnknownAction, BadAction, Conflict, UnknownCommand, ScheduleLineInRun, UnknownField, BadField, BadTaskId, UnknownNode, BadReference, NotWaitable}

abbrev pub cause_text : Cause → List ℕ
cause_text TooLong = codes "input is too long"
cause_text TooManyLines = codes "too many commands"
cause_text LineTooLong = codes "line is too long"
cause_text NoSource = codes "source line is missing"
cause_text BadUtf8 = codes "not UTF-8"
cause_text BadJson = codes "not JSON"
cause_text NotWhole = codes "number is not whole"
cause_text NotObject = codes "not an object"
cause_text UnknownAction = codes "unknown action"
cause_text BadAction = codes "bad action"
cause_text Conflict = codes "document is there"
cause_text UnknownCommand = codes "unknown command"
cause_text ScheduleLineInRun = codes "schedule line in run"
cause_text UnknownField = codes "unknown field"
cause_text BadField = codes "bad field"
cause_text BadTaskId = codes "bad task id"
cause_text UnknownNode = codes "unknown node"
cause_text BadReference = codes "bad reference"
cause_text NotWaitable = codes "can not be waited for"
