-- The words of this crate that the contracts of others cite, from one place.
pub use Rattle.pb_batches.specs.Batches.{AreBatchesOf, IsBatchOf, are_known}
