-- A file of signatures printed in the plainest form: a list of its modules, in their order.
use Rattle.std.specs.Prelude.{◌≡◌, List, [], ◌∷◌, length, true, false, ◌||◌, nat_le, Some, Ok}
use Rattle.pb_semantics.specs.Data.{Data, Items, list, no_items, item}
use Rattle.pb_semantics.specs.Keeps.{is_among}
use Rattle.pb_semantics.specs.Signature.{ModuleData}
use Rattle.pb_language.specs.Theorem.{are_distinct}
use Rattle.pb_sig.specs.Printed.{is_declarable, printed_module}
use Rattle.pb_sig.specs.Signatures.{has_taken_prefix, keeps_laws, keeps_limits, most_modules}
use Rattle.pb_sig.specs.Signatures.{names_of, signatures_in, taken_names}

abbrev pub printed_modules : List ModuleData → Items
printed_modules [] = no_items
printed_modules (m ∷ ms) = item (printed_module m) (printed_modules ms)

abbrev pub printed_signatures : List ModuleData → Data
printed_signatures ms = list (printed_modules ms)

-- a file can say the module, whose name means nothing else
pub record IsSignature (m : ModuleData) : Type 0 where
  pub form : is_declarable m ≡ true
  pub laws : keeps_laws m ≡ true
  pub free : is_among m.name taken_names || has_taken_prefix m.name ≡ false
  pub within : keeps_limits m ≡ true

abbrev pub AreSignatures : List ModuleData → Type 0
AreSignatures [] = Unit {0}
AreSignatures (m ∷ ms) = IsSignature m × AreSignatures ms

-- no two modules have one name, and there are no more than may be
pub record ArePrintable (ms : List ModuleData) : Type 0 where
  pub modules : AreSignatures ms
  pub apart : are_distinct (names_of ms) ≡ true
  pub few : nat_le (length ms) most_modules ≡ true

abbrev pub SignaturesAreReadBack : Type 0
SignaturesAreReadBack = (ms : List ModuleData) → ArePrintable ms
    → signatures_in (Some (printed_signatures ms)) ≡ Ok ms
