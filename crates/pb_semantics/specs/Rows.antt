-- Worked rows of the definitions, each named after what it shows.
use Rattle.std.specs.Prelude.{◌≡◌, ℕ, pos, negsuc, List, [], ◌∷◌, Bool, true, false, Some, None}
use Rattle.std.specs.Prelude.{codes}
use Rattle.pb_semantics.specs.Data.{Data, Fields, null, boolean, int, text, list, rec, opaque}
use Rattle.pb_semantics.specs.Data.{no_items, item, no_fields, field, put_field}
use Rattle.pb_semantics.specs.Kind.{Slots, Cases, never, nulls, booleans, ints, texts, hosts, lists}
use Rattle.pb_semantics.specs.Kind.{recs, results, anything, no_slots, slot, no_cases, one}
use Rattle.pb_semantics.specs.Kind.{ok_shape, failure_shape, skipped_shape}
use Rattle.pb_semantics.specs.Keeps.{keeps}
use Rattle.pb_semantics.specs.Below.{below}
use Rattle.pb_semantics.specs.Join.{join}
use Rattle.pb_semantics.specs.Project.{projected}
use Rattle.pb_semantics.specs.Render.{rendered}
use Rattle.pb_semantics.specs.Well.{Well}

abbrev name : List ℕ
name = codes "name"

abbrev port : List ℕ
port = codes "port"

abbrev web : List ℕ
web = codes "web"

abbrev db : List ℕ
db = codes "db"

abbrev cache : List ℕ
cache = codes "cache"

abbrev ping : List ℕ
ping = codes "ping"

-- a port for certain, and perhaps a name
abbrev service : Slots
service = slot name false texts (slot port true ints no_slots)

abbrev named : Fields
named = field name (text web) no_fields

abbrev full : Fields
full = field name (text web) (field port (int (pos 80)) no_fields)

abbrev unnamed : Fields
unnamed = field port (int (pos 80)) no_fields

abbrev two : Data
two = list (item (int (pos 1)) (item (int (pos 2)) no_items))

-- the fields of a result
abbrev pub status : Slots
status = slot (codes "failed") true booleans no_slots

abbrev skips : Slots
skips = slot (codes "changed") true booleans
    (slot (codes "failed") true booleans (slot (codes "skipped") true booleans no_slots))

abbrev went : Cases
went = one ping ok_shape false (recs status) no_cases

abbrev failed : Cases
failed = one ping failure_shape true (recs status) no_cases

abbrev skipped : Cases
skipped = one ping skipped_shape false (recs skips) no_cases

abbrev any_way : Cases
any_way = one ping ok_shape false (recs status) (one ping failure_shape true (recs status) no_cases)

abbrev flags : Bool → Bool → Bool → Fields
flags changed fails skips = field (codes "changed") (boolean changed)
    (field (codes "failed") (boolean fails) (field (codes "skipped") (boolean skips) no_fields))

abbrev fails : Bool → Data
fails b = rec (field (codes "failed") (boolean b) no_fields)

pub record KeepsRows : Type 0 where
  pub full_record : keeps (rec full) (recs service) ≡ true
  pub certain_field_is_missing : keeps (rec named) (recs service) ≡ false
  pub uncertain_field_is_missing : keeps (rec unnamed) (recs service) ≡ true
  pub field_too_many : keeps (rec full) (recs (slot port true ints no_slots)) ≡ false
  pub field_of_another_kind : keeps (rec (field port (text web) no_fields)) (recs service) ≡ false
  pub one_of_the_hosts : keeps (text db) (hosts (web ∷ db ∷ [])) ≡ true
  pub none_of_the_hosts : keeps (text cache) (hosts (web ∷ db ∷ [])) ≡ false
  pub list_that_is_short : keeps two (lists ints 2) ≡ true
  pub list_that_is_long : keeps two (lists ints 1) ≡ false
  pub item_of_another_kind : keeps two (lists texts 2) ≡ false
  pub empty_list_of_nothing : keeps (list no_items) (lists never 0) ≡ true
  pub result_that_went : keeps (fails false) (results went (recs status)) ≡ true
  pub result_that_failed : keeps (fails true) (results failed (recs status)) ≡ true
  pub result_of_another_status : keeps (fails true) (results went (recs status)) ≡ false
  pub result_of_either_case : keeps (fails true) (results any_way (recs status)) ≡ true
  pub result_of_no_case : keeps (fails true) (results no_cases never) ≡ false
  pub result_that_was_skipped : keeps (rec (flags false false true)) (results skipped (recs skips))
      ≡ true
  pub skipped_result_that_changed : keeps (rec (flags true false true))
      (results skipped (recs skips)) ≡ false
  pub skipped_result_that_does_not_say_so : keeps (rec (flags false false false))
      (results skipped (recs skips)) ≡ false
  pub opaque_among_all : keeps opaque anything ≡ true
  pub opaque_is_no_text : keeps opaque texts ≡ false
  pub nothing_is_never : keeps null never ≡ false

pub record BelowRows : Type 0 where
  pub hosts_are_texts : below (hosts (web ∷ [])) texts ≡ true
  pub texts_are_no_hosts : below texts (hosts (web ∷ [])) ≡ false
  pub fewer_hosts : below (hosts (db ∷ [])) (hosts (web ∷ db ∷ [])) ≡ true
  pub more_hosts : below (hosts (web ∷ db ∷ [])) (hosts (db ∷ [])) ≡ false
  pub shorter_list : below (lists ints 1) (lists ints 2) ≡ true
  pub longer_list : below (lists ints 2) (lists ints 1) ≡ false
  pub list_of_lower_items : below (lists (hosts (web ∷ [])) 1) (lists texts 1) ≡ true
  pub list_of_higher_items : below (lists texts 1) (lists (hosts (web ∷ [])) 1) ≡ false
  pub field_becomes_uncertain : below (recs (slot port true ints no_slots)) (recs service) ≡ true
  pub certain_field_is_lost : below (recs (slot name true texts no_slots)) (recs service) ≡ false
  pub certainty_is_lost : below (recs (slot port false ints no_slots)) (recs service) ≡ false
  pub field_too_many : below (recs service) (recs (slot port true ints no_slots)) ≡ false
  pub result_below_its_record : below (results any_way (recs status)) (recs status) ≡ true
  pub record_above_no_result : below (recs status) (results any_way (recs status)) ≡ false
  pub fewer_cases : below (results went (recs status)) (results any_way (recs status)) ≡ true
  pub more_cases : below (results any_way (recs status)) (results went (recs status)) ≡ false
  pub never_is_lowest : below never nulls ≡ true
  pub anything_is_highest : below (results any_way (recs status)) anything ≡ true

pub record JoinRows : Type 0 where
  pub hosts_of_both : join (hosts (web ∷ db ∷ [])) (hosts (cache ∷ db ∷ []))
      ≡ hosts (cache ∷ db ∷ web ∷ [])
  pub hosts_and_texts : join (hosts (web ∷ [])) texts ≡ texts
  pub lists_of_both : join (lists (hosts (web ∷ [])) 3) (lists texts 2) ≡ lists texts 3
  pub field_in_one_only : join (recs (slot port true ints no_slots))
      (recs (slot name true texts (slot port true ints no_slots))) ≡ recs service
  pub field_of_two_kinds : join (recs (slot port true ints no_slots))
      (recs (slot port true texts no_slots)) ≡ recs (slot port true anything no_slots)
  pub result_and_record : join (results went (recs status)) (recs no_slots)
      ≡ recs (slot (codes "failed") false booleans no_slots)
  pub record_and_result : join (recs no_slots) (results went (recs status))
      ≡ recs (slot (codes "failed") false booleans no_slots)
  pub cases_of_both : join (results went (recs status)) (results any_way (recs status))
      ≡ results any_way (recs status)
  pub never_and_another : join never texts ≡ texts
  pub two_kinds : join texts ints ≡ anything

pub record ProjectRows : Type 0 where
  pub field_too_many_is_dropped : projected (rec full) (recs (slot port true ints no_slots))
      ≡ Some (rec unnamed)
  pub uncertain_field_may_be_missing : projected (rec unnamed) (recs service) ≡ Some (rec unnamed)
  pub certain_field_is_missing : projected (rec named) (recs service) ≡ None
  pub field_of_another_kind : projected (rec (field port (text web) no_fields)) (recs service)
      ≡ None
  pub kind_is_another : projected two texts ≡ None
  pub list_that_is_long : projected two (lists ints 1) ≡ None

pub record DataRows : Type 0 where
  pub fields_are_in_order : put_field name (text web) unnamed ≡ full
  pub field_is_written_anew : put_field port (int (pos 80)) (field port null no_fields) ≡ unnamed
  pub true_is_a_word : rendered (boolean true) ≡ codes "True"
  pub false_is_a_word : rendered (boolean false) ≡ codes "False"
  pub number_has_its_sign : rendered (int (negsuc 4)) ≡ codes "-5"
  pub text_is_itself : rendered (text web) ≡ codes "web"

pub record WellRows : Type 0 where
  pub result_of_its_least_record : Well (results any_way (recs status))
  pub result_of_no_case : Well (results no_cases never)
  pub record_above_no_case : Well (results no_cases (recs no_slots)) → ⊥
  pub name_that_stands_twice : Well (recs (slot port true ints (slot port true ints no_slots))) → ⊥

abbrev pub Rows : Type 0
Rows = KeepsRows × BelowRows × JoinRows × ProjectRows × DataRows × WellRows
