-- The words of this crate's contracts.
pub use Rattle.pb_facts.specs.Facts.{Held, IsBlock, empty_held, row_of, value_at, with_value}
pub use Rattle.pb_facts.specs.Variables.{VariablesAreRead, VariablesArePut}
