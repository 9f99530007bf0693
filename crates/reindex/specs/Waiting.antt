-- Whether what comes next is to wait.
pub use Rattle.task_events.specs.Waiting.{does_wait}
