-- Which files are standard input, and how many.
use Rattle.std.specs.Prelude.{ℕ, List, [], ◌∷◌, ◌+◌, Bool, cond, codes, option_map, string_bytes}
use Rattle.std.specs.Option.{option_to_list}
use Rattle.std.specs.Str.{bytes_eq}
use Rattle.clap.specs.Words.{Text}
use Rattle.pb_options.specs.declared.words.Options.{Options}
use Rattle.pb_options.specs.declared.words.Options.TheVariants.{Check, Run}
use Rattle.pb_options.specs.declared.words.Source.{Source}
use Rattle.pb_options.specs.declared.words.Source.TheVariants.{Answers, Modules}
use Rattle.pb_options.specs.declared.words.Subject.{Subject}

abbrev pub is_input : Text → Bool
is_input name = bytes_eq name (codes "-")

abbrev pub inputs_at : Text → ℕ
inputs_at name = cond (is_input name) 1 0

abbrev pub inputs_in : List Text → ℕ
inputs_in [] = 0
inputs_in (name ∷ names) = inputs_at name + inputs_in names

abbrev pub subject_names : Subject → List Text
subject_names s = string_bytes s.book ∷ string_bytes s.inventory
    ∷ option_to_list (option_map string_bytes s.signatures)

-- a folder is no file
abbrev pub source_inputs : Source → ℕ
source_inputs (Answers name) = inputs_at (string_bytes name)
source_inputs (Modules name) = 0

-- how many of the files that the options name are standard input
abbrev pub inputs_of : Options → ℕ
inputs_of (Check s) = inputs_in (subject_names s)
inputs_of (Run s n a c) = source_inputs a + inputs_in (subject_names s)
