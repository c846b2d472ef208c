-- What is so of a module of a file: its shapes keep the laws of modules.
use Rattle.std.specs.Prelude.{◌≡◌, true, ◌&&◌}
use Rattle.pb_semantics.specs.Kind.{KindData}
use Rattle.pb_semantics.specs.Signature.{has_message}
use Rattle.pb_language.specs.Cases.{is_lawful_shape}

pub record IsLawful (ok failure : KindData) : Type 0 where
  pub lawful : is_lawful_shape ok && is_lawful_shape failure ≡ true
  pub message : has_message failure ≡ true
