-- A declared module, printed, is read back as that module.
use Rattle.std.proofs.Common.{◌≡◌, List, [], ◌∷◌, true, false, not, ◌&&◌, cond, Option, Some, None, codes, refl, ap, ◌∙◌, true≢false, sym}
use Rattle.pb_semantics.specs.Kind.{KindData, Slots, never, nulls, booleans, ints, texts, hosts, lists, recs, results, anything, no_slots, slot, spot, is_listed}
use Rattle.pb_semantics.specs.Signature.{ModuleData, ParameterData}
use Rattle.pb_semantics.proofs.Bools.{and-left, and-right}
use Rattle.pb_language.specs.Expression.{Name}
use Rattle.pb_language.specs.Rules.{is_variable_name}
use Rattle.pb_sig.specs.Signatures.{declared, field_spot, is_module_name, kind_in, list_kind, module_in, parameter_before, parameter_form, parameters_in, record_kind, slot_before, slots_in}
use Rattle.pb_sig.specs.Printed.{ModulesAreReadBack, are_parameters, are_printable, is_none, is_printable, is_shape, printed_kind, printed_module, printed_parameters, printed_slots}

no : {A : Type 0} → false ≡ true → A
no h = absurd (true≢false (sym h))

mutual
  kind_in-printed : (k : KindData) → is_printable k ≡ true → kind_in (printed_kind k) ≡ Some k
  kind_in-printed never h = no h
  kind_in-printed nulls h = no h
  kind_in-printed booleans h = refl
  kind_in-printed ints h = refl
  kind_in-printed texts h = refl
  kind_in-printed (hosts ns) h = no h
  kind_in-printed (lists k n) h = ap (λ x. list_kind (codes "list") (codes "max") x (Some n)) (kind_in-printed k h)
  kind_in-printed (recs ss) h = ap (λ x. record_kind (codes "rec") x) (slots_in-printed ss h)
  kind_in-printed (results cs r) h = no h
  kind_in-printed anything h = no h

  slots_in-printed : (ss : Slots) → are_printable ss ≡ true → slots_in (printed_slots ss) ≡ Some ss
  slots_in-printed no_slots h = refl
  slots_in-printed (slot n a k ss) h =
      let named = is_variable_name n && not (is_listed n ss) in
      let more = and-right named (is_printable k && are_printable ss) h in
      ap (λ x. slot_before n (field_spot (codes "always") (codes "kind") (Some a) x) (slots_in (printed_slots ss))) (kind_in-printed k (and-left (is_printable k) (are_printable ss) more))
      ∙ ap (λ x. slot_before n (spot a k) x) (slots_in-printed ss (and-right (is_printable k) (are_printable ss) more))
      ∙ ap (λ q. cond q (Some (slot n a k ss)) None) (and-left named (is_printable k && are_printable ss) h)

parameters_in-printed : (ps : List ParameterData) → are_parameters ps ≡ true → parameters_in (printed_parameters ps) ≡ Some ps
parameters_in-printed [] h = refl
parameters_in-printed (p ∷ ps) h =
    let others = is_printable p.kind && are_parameters ps in
    let more = and-right (is_variable_name p.name) others h in
    ap (λ x. parameter_before (parameter_form p.name x (Some p.required)) (parameters_in (printed_parameters ps))) (kind_in-printed p.kind (and-left (is_printable p.kind) (are_parameters ps) more))
    ∙ ap (λ q. parameter_before (cond q (Some p) None) (parameters_in (printed_parameters ps))) (and-left (is_variable_name p.name) others h)
    ∙ ap (parameter_before (Some p)) (parameters_in-printed ps (and-right (is_printable p.kind) (are_parameters ps) more))

-- the module of these parts
abbrev module_of : Name → List ParameterData → KindData → KindData → Option Name → ModuleData
module_of n ps o f x = record { name = n; params = ps; ok = o; failure = f; free = x }

module_in-shapes : (n : Name) (ps : List ParameterData) (o f : Slots) → is_module_name n ≡ true → are_parameters ps ≡ true → are_printable o ≡ true → are_printable f ≡ true
    → module_in (printed_module (module_of n ps (recs o) (recs f) None)) ≡ Some (module_of n ps (recs o) (recs f) None)
module_in-shapes n ps o f named given ok failure =
    ap (λ q. declared (cond q (Some n) None) (parameters_in (printed_parameters ps)) (slots_in (printed_slots o)) (slots_in (printed_slots f))) named
    ∙ ap (λ x. declared (Some n) x (slots_in (printed_slots o)) (slots_in (printed_slots f))) (parameters_in-printed ps given)
    ∙ ap (λ x. declared (Some n) (Some ps) x (slots_in (printed_slots f))) (slots_in-printed o ok)
    ∙ ap (λ x. declared (Some n) (Some ps) (Some o) x) (slots_in-printed f failure)

module_in-failure : (n : Name) (ps : List ParameterData) (o : Slots) (f : KindData) → is_module_name n ≡ true → are_parameters ps ≡ true → are_printable o ≡ true → is_shape f ≡ true
    → module_in (printed_module (module_of n ps (recs o) f None)) ≡ Some (module_of n ps (recs o) f None)
module_in-failure n ps o never a b c h = no h
module_in-failure n ps o nulls a b c h = no h
module_in-failure n ps o booleans a b c h = no h
module_in-failure n ps o ints a b c h = no h
module_in-failure n ps o texts a b c h = no h
module_in-failure n ps o (hosts ns) a b c h = no h
module_in-failure n ps o (lists k m) a b c h = no h
module_in-failure n ps o (recs f) a b c h = module_in-shapes n ps o f a b c h
module_in-failure n ps o (results cs r) a b c h = no h
module_in-failure n ps o anything a b c h = no h

module_in-ok : (n : Name) (ps : List ParameterData) (o f : KindData) → is_module_name n ≡ true → are_parameters ps ≡ true → is_shape o ≡ true → is_shape f ≡ true
    → module_in (printed_module (module_of n ps o f None)) ≡ Some (module_of n ps o f None)
module_in-ok n ps never f a b h c = no h
module_in-ok n ps nulls f a b h c = no h
module_in-ok n ps booleans f a b h c = no h
module_in-ok n ps ints f a b h c = no h
module_in-ok n ps texts f a b h c = no h
module_in-ok n ps (hosts ns) f a b h c = no h
module_in-ok n ps (lists k m) f a b h c = no h
module_in-ok n ps (recs o) f a b h c = module_in-failure n ps o f a b h c
module_in-ok n ps (results cs r) f a b h c = no h
module_in-ok n ps anything f a b h c = no h

module_in-free : (n : Name) (ps : List ParameterData) (o f : KindData) (x : Option Name) → is_module_name n ≡ true → is_none x ≡ true → are_parameters ps ≡ true → is_shape o ≡ true → is_shape f ≡ true
    → module_in (printed_module (module_of n ps o f x)) ≡ Some (module_of n ps o f x)
module_in-free n ps o f None a h b c d = module_in-ok n ps o f a b c d
module_in-free n ps o f (Some m) a h b c d = no h

pub modules_are_read_back : ModulesAreReadBack
modules_are_read_back m h =
    let head = is_module_name m.name && is_none m.free in
    let shapes = is_shape m.ok && is_shape m.failure in
    let rest = are_parameters m.params && shapes in
    let named = and-left head rest h in
    let more = and-right head rest h in
    let both = and-right (are_parameters m.params) shapes more in
    module_in-free m.name m.params m.ok m.failure m.free (and-left (is_module_name m.name) (is_none m.free) named) (and-right (is_module_name m.name) (is_none m.free) named)
    (and-left (are_parameters m.params) shapes more) (and-left (is_shape m.ok) (is_shape m.failure) both) (and-right (is_shape m.ok) (is_shape m.failure) both)
