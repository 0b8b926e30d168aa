-- Entries that no caller has touched.
pub use Rattle.flow_task.specs.Untouched.{AllUntouched, IsUntouched, passed}
