-- The modules that are there in every book (this project's profile of Ansible's modules).
use Rattle.std.specs.Prelude.{ℕ, List, [], ◌∷◌, Bool, true, false, Some, None, codes}
use Rattle.pb_semantics.specs.Kind.{KindData, Slots, booleans, ints, texts, lists, recs, no_slots}
use Rattle.pb_semantics.specs.Kind.{put_slot}
use Rattle.pb_semantics.specs.Limits.{most_output_lines}
use Rattle.pb_semantics.specs.Signature.{ParameterData, ModuleData}
use Rattle.pb_language.specs.Book.{Registry}

-- a field of a shape, or a parameter; certain or required where it says so
pub record Entry : Type 0 where
  pub name : List ℕ
  pub certain : Bool
  pub kind : KindData

abbrev pub always : List ℕ → KindData → Entry
always n k = record { name = n; certain = true; kind = k }

abbrev pub maybe : List ℕ → KindData → Entry
maybe n k = record { name = n; certain = false; kind = k }

abbrev pub slots : List Entry → Slots
slots [] = no_slots
slots (e ∷ es) = put_slot e.name e.certain e.kind (slots es)

abbrev pub parameters : List Entry → List ParameterData
parameters [] = []
parameters (e ∷ es) = record { name = e.name; kind = e.kind; required = e.certain } ∷ parameters es

-- a module by its parameters, the fields of its ok shape and those of its failure shape, beside
-- `changed` and `msg`
abbrev pub signature : List ℕ → List Entry → List Entry → List Entry → ModuleData
signature n ps ok failure = record {
  name = n;
  params = parameters ps;
  ok = recs (slots (always (codes "changed") booleans ∷ ok));
  failure = recs (slots (always (codes "changed") booleans ∷ always (codes "msg") texts ∷ failure));
  free = None;
}

-- the lines that a program wrote
abbrev pub lines : KindData
lines = lists texts most_output_lines

-- what a program that ran left behind
abbrev pub program_fields : List Entry
program_fields = always (codes "rc") ints ∷ always (codes "stdout") texts
    ∷ always (codes "stderr") texts ∷ always (codes "stdout_lines") lines
    ∷ always (codes "stderr_lines") lines ∷ []

abbrev pub program_parameters : List Entry
program_parameters = always (codes "cmd") texts ∷ maybe (codes "chdir") texts
    ∷ maybe (codes "creates") texts ∷ maybe (codes "removes") texts ∷ []

-- a module that runs a program; a text in place of its arguments is the program's command line
abbrev pub program : List ℕ → ModuleData
program n = record (signature n program_parameters program_fields program_fields)
    { free = Some (codes "cmd") }

abbrev pub ping : ModuleData
ping =
    signature (codes "ping") (maybe (codes "data") texts ∷ []) (always (codes "ping") texts ∷ []) []

abbrev pub command : ModuleData
command = program (codes "command")

abbrev pub shell : ModuleData
shell = program (codes "shell")

abbrev pub file_facts : List Entry
file_facts = always (codes "exists") booleans ∷ maybe (codes "isdir") booleans
    ∷ maybe (codes "isreg") booleans ∷ maybe (codes "size") ints ∷ maybe (codes "mode") texts ∷ []

abbrev pub stat : ModuleData
stat = signature (codes "stat") (always (codes "path") texts ∷ [])
    (always (codes "stat") (recs (slots file_facts)) ∷ []) []

abbrev pub copy : ModuleData
copy =
    signature (codes "copy") (always (codes "dest") texts ∷ maybe (codes "src") texts
    ∷ maybe (codes "content") texts ∷ maybe (codes "mode") texts ∷ [])
    (always (codes "dest") texts ∷ []) []

abbrev pub file : ModuleData
file =
    signature (codes "file") (always (codes "path") texts ∷ maybe (codes "state") texts
    ∷ maybe (codes "mode") texts ∷ maybe (codes "owner") texts ∷ maybe (codes "group") texts
    ∷ [])
    (maybe (codes "path") texts ∷ maybe (codes "state") texts ∷ []) []

abbrev pub service : ModuleData
service =
    signature (codes "service")
    (always (codes "name") texts ∷ maybe (codes "state") texts
    ∷ maybe (codes "enabled") booleans ∷ [])
    (always (codes "name") texts ∷ maybe (codes "state") texts ∷ maybe (codes "enabled") booleans
    ∷ []) []

abbrev pub host_facts : List Entry
host_facts =
    always (codes "ansible_hostname") texts ∷ always (codes "ansible_system") texts
    ∷ maybe (codes "ansible_os_family") texts ∷ maybe (codes "ansible_distribution") texts
    ∷ maybe (codes "ansible_processor_vcpus") ints ∷ maybe (codes "ansible_memtotal_mb") ints ∷ []

abbrev pub setup : ModuleData
setup = signature (codes "setup") (maybe (codes "gather_subset") (lists texts 64) ∷ [])
    (always (codes "ansible_facts") (recs (slots host_facts)) ∷ []) []

abbrev pub builtins : Registry
builtins = ping ∷ command ∷ shell ∷ stat ∷ copy ∷ file ∷ service ∷ setup ∷ []
