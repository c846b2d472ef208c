-- The words of this crate that the contracts of others cite, from one place.
pub use Rattle.pb_language.specs.Book.{Registry, set_fact_work}
pub use Rattle.pb_language.specs.Builtins.{command, ping}
pub use Rattle.pb_language.specs.Cases.{changed_slots, ended_kind, failure_case, is_conditional}
pub use Rattle.pb_language.specs.Cases.{parts_set, set_spot, skipped_slots}
pub use Rattle.pb_language.specs.Evaluates.{is_unreadable}
pub use Rattle.pb_language.specs.Evaluation.{any_field_opaque, any_item_opaque, character_count}
pub use Rattle.pb_language.specs.Evaluation.{compared, counted, equal_values, eval, eval_all}
pub use Rattle.pb_language.specs.Evaluation.{eval_any, eval_items, eval_parts, eval_text}
pub use Rattle.pb_language.specs.Evaluation.{field_count, found, found_in, has_statuses}
pub use Rattle.pb_language.specs.Evaluation.{holds_opaque, is_truth, joined, joined_items}
pub use Rattle.pb_language.specs.Evaluation.{may_be_truth, negated, read, status_name, status_of}
pub use Rattle.pb_language.specs.Evaluation.{stuck, value, value_below, wrong_sort}
pub use Rattle.pb_language.specs.Expansion.{part_named}
pub use Rattle.pb_language.specs.Expression.{Expression, Name, Parts, at_most, equal, expression}
pub use Rattle.pb_language.specs.Expression.{less, literal, no_expressions, no_parts, path_or}
pub use Rattle.pb_language.specs.Expression.{variable}
pub use Rattle.pb_language.specs.Fit.{are_booleans, are_plain, asks, can_compare, can_find}
pub use Rattle.pb_language.specs.Fit.{chain_fault, fault, fields_fault, first, has_length, is_any}
pub use Rattle.pb_language.specs.Fit.{is_boolean, is_flag, is_int, is_plain_kind, is_plain_list}
pub use Rattle.pb_language.specs.Fit.{is_result, is_status_record, is_text, items_fault}
pub use Rattle.pb_language.specs.Fit.{may_be_flag, parts_fault, read_fault, steps_fault, wrong_kind}
pub use Rattle.pb_language.specs.Give.{Answer, object, skip_fields}
pub use Rattle.pb_language.specs.Grammar.{expression_of, is_mark, template_of}
pub use Rattle.pb_language.specs.Judged.{judged}
pub use Rattle.pb_language.specs.Judgement.{action_fault, arguments_fault, conditions_fault}
pub use Rattle.pb_language.specs.Judgement.{parameter_kind}
pub use Rattle.pb_language.specs.Kinds.{count, default_kind, items_kind, kind_of, known_items}
pub use Rattle.pb_language.specs.Kinds.{known_kind, known_slots, parts_slots, path_spot, root_spot}
pub use Rattle.pb_language.specs.Kinds.{step_spot}
pub use Rattle.pb_language.specs.Machine.{enabled, start, turn}
pub use Rattle.pb_language.specs.Narrow.{results_of}
pub use Rattle.pb_language.specs.Plays.{argument_or, module_named}
pub use Rattle.pb_language.specs.Rules.{any_among, are_known, are_name_bytes, are_parameters}
pub use Rattle.pb_language.specs.Rules.{can_be_set, has_part, has_required, is_digit, is_letter}
pub use Rattle.pb_language.specs.Rules.{is_parameter, is_variable_name, is_well_formed, part_names}
pub use Rattle.pb_language.specs.Rules.{reserved_names, set_names, written_names}
pub use Rattle.pb_language.specs.Scope.{spot_kind}
pub use Rattle.pb_language.specs.Setting.{names_list}
pub use Rattle.pb_language.specs.Start.{acts, all_changes, calls, eval_action, plan_of, planned}
pub use Rattle.pb_language.specs.Start.{unchanged, with_pass}
pub use Rattle.pb_language.specs.Tables.{written_spot}
pub use Rattle.pb_language.specs.Task.{call_of}
pub use Rattle.pb_language.specs.Tokens.{Tokens, a_number, are_digits, escape_of, is_quote}
pub use Rattle.pb_language.specs.Tokens.{number_then, quoted, sign_then, token, tokens_from}
pub use Rattle.pb_language.specs.Tokens.{tokens_of, unreadable, word_token}
pub use Rattle.pb_language.specs.Verdict.{accepted, code_of}
pub use Rattle.pb_language.specs.World.{World}
