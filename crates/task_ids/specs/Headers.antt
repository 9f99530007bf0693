-- What requests carry.
use Rattle.std.specs.Prelude.{None}
use Rattle.task_ids.specs.declared.task_info.Headers.{Headers}

abbrev pub no_headers : Headers
no_headers = record { opaque_id = None }
