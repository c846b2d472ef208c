-- The words of this crate that the contracts of others cite, from one place.
pub use Rattle.pb_semantics.specs.Admission.{admission, changed_fields, ended, failed_of}
pub use Rattle.pb_semantics.specs.Ascending.{are_ascending}
pub use Rattle.pb_semantics.specs.Below.{all_cases, are_among, below, is_covered, names_among}
pub use Rattle.pb_semantics.specs.Below.{record_below, same_case, slots_below, spot_below}
pub use Rattle.pb_semantics.specs.Data.{Data, Fields, boolean, count_of, field_value, int, list}
pub use Rattle.pb_semantics.specs.Data.{no_fields, null, put_all, put_field, rec, text}
pub use Rattle.pb_semantics.specs.Equal.{data_eq, fields_eq, is_item, is_part, items_eq}
pub use Rattle.pb_semantics.specs.Fit.{any_case_holds, any_slot_holds, holds_any, is_any}
pub use Rattle.pb_semantics.specs.Fit.{is_boolean}
pub use Rattle.pb_semantics.specs.Gives.{FaultGives, Gives}
pub use Rattle.pb_semantics.specs.Grown.{all_sure, is_sure, marked, met, met_slots, puts}
pub use Rattle.pb_semantics.specs.Join.{add_cases, add_names, append_cases, join, join_slots}
pub use Rattle.pb_semantics.specs.Join.{joined, kind_with, new_cases, presence_with, record_with}
pub use Rattle.pb_semantics.specs.Join.{with_others}
pub use Rattle.pb_semantics.specs.Keeps.{all_items, all_listed, cases_kept, flag_is, has_status}
pub use Rattle.pb_semantics.specs.Keeps.{is_among, keeps, slots_kept}
pub use Rattle.pb_semantics.specs.Kind.{Cases, Slots, booleans, hosts, is_listed, lists, never}
pub use Rattle.pb_semantics.specs.Kind.{no_cases, no_slots, ok_shape, one, put_slot, recs, results}
pub use Rattle.pb_semantics.specs.Kind.{shape_eq, skipped_shape, slot_at, spot, texts}
pub use Rattle.pb_semantics.specs.Limits.{most_answer_bytes, most_book_bytes, most_hosts}
pub use Rattle.pb_semantics.specs.Limits.{most_inventory_bytes, most_kind_weight, most_levels}
pub use Rattle.pb_semantics.specs.Limits.{most_nesting, most_output_lines, most_path_steps}
pub use Rattle.pb_semantics.specs.Limits.{most_tasks, most_value_weight, most_weight_levels}
pub use Rattle.pb_semantics.specs.Project.{projected, projected_fields, projected_items}
pub use Rattle.pb_semantics.specs.Render.{is_plain, rendered}
pub use Rattle.pb_semantics.specs.Signature.{ModuleData, is_failure_shape, is_shape}
