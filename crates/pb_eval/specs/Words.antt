-- The words of this crate that the contracts of others cite, from one place.
pub use Rattle.pb_eval.specs.OwnWorld.{own_world, shown}
pub use Rattle.pb_eval.specs.Worth.{worth_of}
