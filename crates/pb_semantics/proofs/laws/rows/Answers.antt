use Rattle.std.proofs.Common.{◌≡◌, true, ◌&&◌, refl, sym, true≢false, negsuc, codes}
use Rattle.std.specs.Fmt.{digits}
use Rattle.pb_semantics.specs.Data.{int}
use Rattle.pb_semantics.specs.Render.{rendered}
use Rattle.pb_semantics.specs.Rows.{KeepsRows, BelowRows, JoinRows, ProjectRows, DataRows, WellRows, status}
use Rattle.pb_semantics.specs.Kind.{KindData, never, recs}
use Rattle.pb_semantics.specs.Below.{below}
use Rattle.pb_semantics.specs.Well.{Well}
use Rattle.pb_semantics.proofs.Bools.{and-left}
use Rattle.pb_semantics.proofs.Through.{never_below}
use Rattle.pb_semantics.proofs.laws.rows.Goals as goal

minus_five : rendered (int (negsuc 4)) ≡ codes "-5"
unfolding digits
minus_five = refl

keeps_rows : KeepsRows
keeps_rows = record { full_record = refl; certain_field_is_missing = refl; uncertain_field_is_missing = refl; field_too_many = refl; field_of_another_kind = refl; one_of_the_hosts = refl; none_of_the_hosts = refl; list_that_is_short = refl; list_that_is_long = refl; item_of_another_kind = refl; empty_list_of_nothing = refl; result_that_went = refl; result_that_failed = refl; result_of_another_status = refl; result_of_either_case = refl; result_of_no_case = refl; result_that_was_skipped = refl; skipped_result_that_changed = refl; skipped_result_that_does_not_say_so = refl; opaque_among_all = refl; opaque_is_no_text = refl; nothing_is_never = refl }

below_rows : BelowRows
below_rows = record { hosts_are_texts = refl; texts_are_no_hosts = refl; fewer_hosts = refl; more_hosts = refl; shorter_list = refl; longer_list = refl; list_of_lower_items = refl; list_of_higher_items = refl; field_becomes_uncertain = refl; certain_field_is_lost = refl; certainty_is_lost = refl; field_too_many = refl; result_below_its_record = refl; record_above_no_result = refl; fewer_cases = refl; more_cases = refl; never_is_lowest = refl; anything_is_highest = refl }

join_rows : JoinRows
join_rows = record { hosts_of_both = refl; hosts_and_texts = refl; lists_of_both = refl; field_in_one_only = refl; field_of_two_kinds = refl; result_and_record = refl; record_and_result = refl; cases_of_both = refl; never_and_another = refl; two_kinds = refl }

project_rows : ProjectRows
project_rows = record { field_too_many_is_dropped = refl; uncertain_field_may_be_missing = refl; certain_field_is_missing = refl; field_of_another_kind = refl; kind_is_another = refl; list_that_is_long = refl }

data_rows : DataRows
data_rows = record { fields_are_in_order = refl; field_is_written_anew = refl; true_is_a_word = refl; false_is_a_word = refl; number_has_its_sign = minus_five; text_is_itself = refl }

status_least : (h : KindData) → below (recs status) h && (below (recs status) h && true) ≡ true → below (recs status) h ≡ true
status_least h x = and-left (below (recs status) h) (below (recs status) h && true) x

status_well : Well (recs status)
status_well = (refl, (tt, tt))

well_rows : WellRows
well_rows = record {
  result_of_its_least_record = (
    (refl, status_well, (refl, status_well, tt)),
    status_well,
    record {
      known = refl;
      above = refl;
      least = status_least;
    },
  );
  result_of_no_case = (tt, tt, record { known = refl; above = refl; least = λ h x. never_below h });
  record_above_no_case = λ w. true≢false (sym (w.2.least never refl));
  name_that_stands_twice = λ w. true≢false (sym w.0);
}

pub returns : goal.returns
returns c = (keeps_rows, below_rows, join_rows, project_rows, data_rows, well_rows)
