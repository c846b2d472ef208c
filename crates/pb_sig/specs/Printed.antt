-- A declared module, printed in its plainest form, which is read back as that module.
use Rattle.std.specs.Prelude.{◌≡◌, pos, List, [], ◌∷◌, Bool, true, false, not, ◌&&◌, Option, Some}
use Rattle.std.specs.Prelude.{None, codes}
use Rattle.pb_semantics.specs.Data.{Data, Fields, null, boolean, int, text, rec, no_fields, field}
use Rattle.pb_semantics.specs.Kind.{KindData, Slots, booleans, ints, texts, lists, recs, no_slots}
use Rattle.pb_semantics.specs.Kind.{slot, is_listed}
use Rattle.pb_semantics.specs.Signature.{ModuleData, ParameterData}
use Rattle.pb_language.specs.Expression.{Name}
use Rattle.pb_language.specs.Rules.{is_variable_name}
use Rattle.pb_sig.specs.Signatures.{is_module_name, module_in}

-- the fields of an object stand in the order of their names' bytes
abbrev mutual
  pub printed_kind : KindData → Data
  printed_kind booleans = text (codes "bool")
  printed_kind ints = text (codes "int")
  printed_kind texts = text (codes "text")
  printed_kind (lists k n) =
      rec (field (codes "list") (printed_kind k) (field (codes "max") (int (pos n)) no_fields))
  printed_kind (recs ss) = rec (field (codes "rec") (rec (printed_slots ss)) no_fields)
  printed_kind k = null

  pub printed_slots : Slots → Fields
  printed_slots no_slots = no_fields
  printed_slots (slot n a k ss) = field n (rec (field (codes "always") (boolean a)
      (field (codes "kind") (printed_kind k) no_fields))) (printed_slots ss)

abbrev pub printed_shape : KindData → Data
printed_shape (recs ss) = rec (printed_slots ss)
printed_shape k = null

abbrev pub printed_parameter : ParameterData → Data
printed_parameter p = rec (field (codes "kind") (printed_kind p.kind)
    (field (codes "required") (boolean p.required) no_fields))

abbrev pub printed_parameters : List ParameterData → Fields
printed_parameters [] = no_fields
printed_parameters (p ∷ ps) = field p.name (printed_parameter p) (printed_parameters ps)

abbrev pub printed_module : ModuleData → Data
printed_module m = rec (field (codes "failure") (printed_shape m.failure)
    (field (codes "name") (text m.name) (field (codes "ok") (printed_shape m.ok)
    (field (codes "params") (rec (printed_parameters m.params)) no_fields))))

-- what a file can say: kinds without hosts and results, and names of variables, each once in a
-- record
abbrev mutual
  pub is_printable : KindData → Bool
  is_printable booleans = true
  is_printable ints = true
  is_printable texts = true
  is_printable (lists k n) = is_printable k
  is_printable (recs ss) = are_printable ss
  is_printable k = false

  pub are_printable : Slots → Bool
  are_printable no_slots = true
  are_printable (slot n a k ss) = (is_variable_name n && not (is_listed n ss))
      && (is_printable k && are_printable ss)

abbrev pub is_shape : KindData → Bool
is_shape (recs ss) = are_printable ss
is_shape k = false

abbrev pub are_parameters : List ParameterData → Bool
are_parameters [] = true
are_parameters (p ∷ ps) =
    is_variable_name p.name && (is_printable p.kind && are_parameters ps)

abbrev pub is_none : Option Name → Bool
is_none None = true
is_none (Some n) = false

abbrev pub is_declarable : ModuleData → Bool
is_declarable m = (is_module_name m.name && is_none m.free)
    && (are_parameters m.params && (is_shape m.ok && is_shape m.failure))

abbrev pub ModulesAreReadBack : Type 0
ModulesAreReadBack =
    (m : ModuleData) → is_declarable m ≡ true → module_in (printed_module m) ≡ Some m
