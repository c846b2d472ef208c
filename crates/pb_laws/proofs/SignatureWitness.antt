-- A file of two modules is printable, and is read back: the law is not about nothing.
use Rattle.std.specs.Prelude.{◌≡◌, refl, List, [], ◌∷◌, true, false, Some, None, Ok, codes}
use Rattle.pb_semantics.specs.Kind.{KindData, Slots, booleans, ints, texts, lists, recs, no_slots, slot}
use Rattle.pb_semantics.specs.Signature.{ModuleData}
use Rattle.pb_sig.specs.Signatures.{signatures_in}
use Rattle.pb_laws.specs.PrintedSignatures.{ArePrintable, printed_signatures}

abbrev pub changes : Slots → KindData
changes ss = recs (slot (codes "changed") true booleans ss)

abbrev pub message : Slots
message = slot (codes "msg") true texts no_slots

abbrev pub user_record : KindData
user_record = recs (slot (codes "name") true texts (slot (codes "uid") false ints no_slots))

abbrev pub user : ModuleData
user = record {
  name = codes "user";
  params = record { name = codes "groups"; kind = lists texts 64; required = false }
      ∷ record { name = codes "name"; kind = texts; required = true } ∷ [];
  ok = changes (slot (codes "created") false (lists user_record 16) no_slots);
  failure = changes message;
  free = None;
}

abbrev pub apt : ModuleData
apt = record { name = codes "apt"; params = []; ok = changes no_slots; failure = changes message; free = None }

abbrev pub signatures : List ModuleData
signatures = user ∷ apt ∷ []

pub signatures_are_printable : ArePrintable signatures
signatures_are_printable = record {
  modules = (record { form = refl; laws = refl; free = refl; within = refl }, (record { form = refl; laws = refl; free = refl; within = refl }, tt));
  apart = refl;
  few = refl;
}

pub signatures_are_read : signatures_in (Some (printed_signatures signatures)) ≡ Ok signatures
signatures_are_read = refl
