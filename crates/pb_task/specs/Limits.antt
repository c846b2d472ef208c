-- The limits of a task, but for those of its texts.
use Rattle.std.specs.Prelude.{Bool, ◌&&◌, codes}
use Rattle.pb_semantics.specs.Data.{Fields, field_value}
use Rattle.pb_language.specs.Keywords.{Standing}
use Rattle.pb_language.specs.TaskForm.{is_loop_within, is_record_within, is_work_within, lone}
use Rattle.pb_language.specs.TaskForm.{short_conditions, works_in}

abbrev pub are_values_within_limits : Standing → Fields → Bool
are_values_within_limits s fs = is_loop_within (field_value (codes "loop") fs)
    && (is_record_within (field_value (codes "vars") fs)
    && is_work_within (lone (works_in s fs)))

abbrev pub are_keywords_within : Standing → Fields → Bool
are_keywords_within s fs = short_conditions (field_value (codes "when") fs)
    && (short_conditions (field_value (codes "changed_when") fs)
    && (short_conditions (field_value (codes "failed_when") fs)
    && (short_conditions (field_value (codes "until") fs) && are_values_within_limits s fs)))
