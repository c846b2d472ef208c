-- The modules of a run with those of a file of signatures.
use Rattle.std.specs.Prelude.{ℕ, List, ◌++◌, Result, Ok, Err}
use Rattle.pb_semantics.specs.Signature.{ModuleData}
use Rattle.pb_sig.specs.Signatures.{Offence, signatures_of}
use Rattle.pb_language.specs.Builtins.{builtins}

abbrev pub with_built : Result (List ModuleData) Offence → Result (List ModuleData) Offence
with_built (Ok ms) = Ok (builtins ++ ms)
with_built (Err o) = Err o

-- of the text of the file
abbrev pub registry_of : List ℕ → Result (List ModuleData) Offence
registry_of bs = with_built (signatures_of bs)
