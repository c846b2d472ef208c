-- The words of this crate that the contracts of others cite, from one place.
pub use Rattle.pb_rules.specs.Handlers.{handlers_names, names_of}
pub use Rattle.pb_rules.specs.Broken.{code_of, first_broken, refusal_of, sooner}
pub use Rattle.pb_rules.specs.Names.{names_in}
pub use Rattle.pb_rules.specs.Rules.{all_asked, steps_broken}
