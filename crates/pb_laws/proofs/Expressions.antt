-- Conditions, values, texts and works, as they are written, are read as themselves.
use Rattle.std.proofs.Common.{◌≡◌, List, [], ◌∷◌, Bool, true, false, not, ◌||◌, ◌==◌, cond, Option, Some, None, option_map, bytes_eq, codes, refl, sym, ap, ◌∙◌}
use Rattle.std.specs.List.{list_all, list_any, starts_with}
use Rattle.pb_semantics.specs.Data.{Data, null, boolean, int, text, list, rec, field, field_value, opaque}
use Rattle.pb_semantics.specs.Keeps.{is_among}
use Rattle.pb_semantics.proofs.Bools.{untrue, and-both, neither-left, neither-right, neither-both}
use Rattle.pb_language.specs.Book.{Asserted, not_given, not_well_formed, conditions_are, Registry, Work, module_work, debug_work, set_fact_work, assert_work, fail_work}
use Rattle.pb_language.specs.Expression.{Name, Expressions, Parts, no_expressions, expression, no_parts, part}
use Rattle.pb_language.specs.Inventories.{has_opening}
use Rattle.pb_language.specs.Keywords.{as_handler, is_left_out, keywords_of}
use Rattle.pb_language.specs.Nesting.{holds, some_field_holds, some_item_holds}
use Rattle.pb_language.specs.Rules.{is_variable_name, part_names}
use Rattle.pb_language.specs.TaskForm.{are_plain_texts, arguments_in, asserted_in, assertion, asserts, builtin_prefix, conditions_found, conditions_given, free_form, is_action, is_missing, is_vars, keys_of, module_at, names_in, topics_in, vars_found, without_field, work_of}
use Rattle.pb_language.specs.Texts.{are_conditions, each_condition, is_condition, is_opaque, parts_of, value_of, with_item, with_part}
use Rattle.pb_laws.specs.PrintedBook.{Writing, arguments, conditions, given_conditions, some_list, some_record, texts, values, work_key}
use Rattle.pb_laws.specs.PrintableBook.{AreConditions, AreValues, AreVars, IsAsserted, IsWork, Where, is_taken}

-- conditions

pub conditions_read : (w : Writing) (es : Expressions) → AreConditions w es → each_condition (conditions w es) ≡ Some es
conditions_read w no_expressions h = refl
conditions_read w (expression e es) h = ap (λ x. with_item x (each_condition (conditions w es))) h.0.read ∙ ap (with_item (Some e)) (conditions_read w es h.1)

pub conditions_fit : (w : Writing) (es : Expressions) → AreConditions w es → are_conditions (conditions w es) ≡ true
conditions_fit w no_expressions h = refl
conditions_fit w (expression e es) h = and-both (is_condition (w.condition e)) (are_conditions (conditions w es)) h.0.form (conditions_fit w es h.1)

-- a condition is a truth value or a text
clear_condition : (d : Data) → is_condition d ≡ true → holds is_opaque d ≡ false
clear_condition null h = untrue h
clear_condition (boolean b) h = refl
clear_condition (int z) h = untrue h
clear_condition (text bs) h = refl
clear_condition (list ds) h = untrue h
clear_condition (rec fs) h = untrue h
clear_condition opaque h = untrue h

pub conditions_clear : (w : Writing) (es : Expressions) → AreConditions w es → some_item_holds is_opaque (conditions w es) ≡ false
conditions_clear w no_expressions h = refl
conditions_clear w (expression e es) h = neither-both (holds is_opaque (w.condition e)) (some_item_holds is_opaque (conditions w es)) (clear_condition (w.condition e) h.0.form) (conditions_clear w es h.1)

pub found_read : (w : Writing) (es : Expressions) → AreConditions w es → conditions_found (some_list (conditions w es)) ≡ Some es
found_read w no_expressions h = refl
found_read w (expression e es) h = conditions_read w (expression e es) h

pub given_read : (w : Writing) (o : Option Expressions) → Where (AreConditions w) o → conditions_given (given_conditions w o) ≡ o
given_read w None h = refl
given_read w (Some es) h = conditions_read w es h

pub given_found : (w : Writing) (o : Option Expressions) → Where (AreConditions w) o → is_missing (conditions_found (given_conditions w o)) ≡ false
given_found w None h = refl
given_found w (Some es) h = ap is_missing (conditions_read w es h)

-- values

pub values_read : (w : Writing) (ps : Parts) → AreValues w ps → parts_of (values w ps) ≡ Some ps
values_read w no_parts h = refl
values_read w (part n e ps) h = ap (λ x. with_part n x (parts_of (values w ps))) h.0.read ∙ ap (with_part n (Some e)) (values_read w ps h.1)

pub values_clear : (w : Writing) (ps : Parts) → AreValues w ps → some_field_holds is_opaque (values w ps) ≡ false
values_clear w no_parts h = refl
values_clear w (part n e ps) h = neither-both (holds is_opaque (w.value e)) (some_field_holds is_opaque (values w ps)) h.0.numbers (values_clear w ps h.1)

pub names_written : (w : Writing) (ps : Parts) → keys_of (values w ps) ≡ part_names ps
names_written w no_parts = refl
names_written w (part n e ps) = ap (◌∷◌ n) (names_written w ps)

pub vars_read : (w : Writing) (ps : Parts) → AreVars w ps → vars_found (some_record (values w ps)) ≡ Some ps
vars_read w no_parts h = refl
vars_read w (part n e ps) h = values_read w (part n e ps) h.values

pub vars_fit : (w : Writing) (ps : Parts) → AreVars w ps → is_vars (rec (values w ps)) ≡ true
vars_fit w ps h = ap (list_all is_variable_name) (names_written w ps) ∙ h.names

-- texts

pub texts_read : (ns : List Name) → topics_in (some_list (texts ns)) ≡ ns
texts_read [] = refl
texts_read (n ∷ ns) = ap (◌∷◌ n) (names_read ns) where
  names_read : (ms : List Name) → names_in (texts ms) ≡ ms
  names_read [] = refl
  names_read (m ∷ ms) = ap (◌∷◌ m) (names_read ms)

pub texts_plain : (ns : List Name) → list_any has_opening ns ≡ false → are_plain_texts (texts ns) ≡ true
texts_plain [] h = refl
texts_plain (n ∷ ns) h =
    and-both (not (has_opening n)) (are_plain_texts (texts ns)) (ap not (neither-left (has_opening n) (list_any has_opening ns) h)) (texts_plain ns (neither-right (has_opening n) (list_any has_opening ns) h))

pub texts_clear : (ns : List Name) → some_item_holds is_opaque (texts ns) ≡ false
texts_clear [] = refl
texts_clear (n ∷ ns) = texts_clear ns

-- works

-- the key of a module means nothing else
pub record MeansModule (n : Name) : Type 0 where
  pub word : is_among n (keywords_of as_handler) ≡ false
  pub left_out : is_left_out as_handler n ≡ false
  pub action : is_action n ≡ false
  pub meta : bytes_eq n (codes "meta") ≡ false
  pub prefix : starts_with (λ a b. a == b) n builtin_prefix ≡ false

pub means_module : (n : Name) → is_taken n ≡ false → MeansModule n
means_module n h =
    let a = is_among n (keywords_of as_handler) in
    let b = is_left_out as_handler n in
    let c = is_action n in
    let d = bytes_eq n (codes "meta") in
    let e = starts_with (λ x y. x == y) n builtin_prefix in
    let more : b || (c || (d || e)) ≡ false = neither-right a (b || (c || (d || e))) h in
    let others : c || (d || e) ≡ false = neither-right b (c || (d || e)) more in
    let last : d || e ≡ false = neither-right c (d || e) others in
    record {
      word = neither-left a (b || (c || (d || e))) h;
      left_out = neither-left b (c || (d || e)) more;
      action = neither-left c (d || e) others;
      meta = neither-left d e last;
      prefix = neither-right d e last;
    }

-- `that` is no other part of what is asserted
without_that : (n : Name) (w : Writing) (ps : Parts) → is_among n (part_names ps) ≡ false → without_field n (values w ps) ≡ values w ps
without_that n w no_parts h = refl
without_that n w (part m e ps) h =
    ap (λ q. cond q (without_field n (values w ps)) (field m (w.value e) (without_field n (values w ps)))) (neither-left (bytes_eq n m) (is_among n (part_names ps)) h)
    ∙ ap (field m (w.value e)) (without_that n w ps (neither-right (bytes_eq n m) (is_among n (part_names ps)) h))

no_that : (n : Name) (w : Writing) (ps : Parts) → is_among n (part_names ps) ≡ false → field_value n (values w ps) ≡ None
no_that n w no_parts h = refl
no_that n w (part m e ps) h =
    ap (λ q. cond q (Some (w.value e)) (field_value n (values w ps))) (neither-left (bytes_eq n m) (is_among n (part_names ps)) h)
    ∙ no_that n w ps (neither-right (bytes_eq n m) (is_among n (part_names ps)) h)

asserted_read : (w : Writing) (es : Expressions) → AreConditions w es → asserted_in (Some (list (conditions w es))) ≡ Some (conditions_are es)
asserted_read w es h =
    ap (λ q. cond q (option_map conditions_are (each_condition (conditions w es))) (option_map (λ e. not_well_formed) (value_of (list (conditions w es))))) (conditions_fit w es h)
    ∙ ap (option_map conditions_are) (conditions_read w es h)

assertion_read : (w : Writing) (a : Asserted) (ps : Parts) → IsAsserted w a → is_among (codes "that") (part_names ps) ≡ false → AreValues w ps
    → assertion (rec (arguments w (assert_work a ps))) ≡ Some (assert_work a ps)
assertion_read w not_given ps h i j =
    ap (λ x. asserts (asserted_in x) (parts_of (without_field (codes "that") (values w ps)))) (no_that (codes "that") w ps i)
    ∙ ap (λ x. asserts (Some not_given) (parts_of x)) (without_that (codes "that") w ps i)
    ∙ ap (asserts (Some not_given)) (values_read w ps j)
assertion_read w not_well_formed ps h i j =
    ap (λ x. asserts (Some not_well_formed) (parts_of x)) (without_that (codes "that") w ps i)
    ∙ ap (asserts (Some not_well_formed)) (values_read w ps j)
assertion_read w (conditions_are es) ps h i j =
    ap (λ x. asserts x (parts_of (without_field (codes "that") (values w ps)))) (asserted_read w es h)
    ∙ ap (λ x. asserts (Some (conditions_are es)) (parts_of x)) (without_that (codes "that") w ps i)
    ∙ ap (asserts (Some (conditions_are es))) (values_read w ps j)

pub module_read : (a b c d : Bool) (o p q r s : Option Work) → a || (b || (c || (d || false))) ≡ false → cond a o (cond b p (cond d q (cond c r s))) ≡ s
module_read true b c d o p q r s h = untrue (sym h)
module_read false true c d o p q r s h = untrue (sym h)
module_read false false true d o p q r s h = untrue (sym h)
module_read false false false true o p q r s h = untrue (sym h)
module_read false false false false o p q r s h = refl

pub work_read : (ms : Registry) (w : Writing) (x : Work) → IsWork ms w x → work_of ms (work_key x) (rec (arguments w x)) ≡ Some x
work_read ms w (module_work n ps) h =
    let found = option_map (module_work n) (arguments_in (free_form (module_at n ms)) (rec (values w ps))) in
    module_read (bytes_eq n (codes "debug")) (bytes_eq n (codes "set_fact")) (bytes_eq n (codes "assert")) (bytes_eq n (codes "fail"))
    (option_map debug_work (parts_of (values w ps))) (option_map set_fact_work (parts_of (values w ps))) (option_map fail_work (parts_of (values w ps))) (assertion (rec (values w ps))) found (means_module n h.0.free).action
    ∙ ap (option_map (module_work n)) (values_read w ps h.1)
work_read ms w (debug_work ps) h = ap (option_map debug_work) (values_read w ps h)
work_read ms w (set_fact_work ps) h = ap (option_map set_fact_work) (values_read w ps h)
work_read ms w (assert_work a ps) h = assertion_read w a ps h.0 h.1 h.2
work_read ms w (fail_work ps) h = ap (option_map fail_work) (values_read w ps h)

pub work_clear : (ms : Registry) (w : Writing) (x : Work) → IsWork ms w x → some_field_holds is_opaque (arguments w x) ≡ false
work_clear ms w (module_work n ps) h = values_clear w ps h.1
work_clear ms w (debug_work ps) h = values_clear w ps h
work_clear ms w (set_fact_work ps) h = values_clear w ps h
work_clear ms w (assert_work not_given ps) h = values_clear w ps h.2
work_clear ms w (assert_work not_well_formed ps) h = values_clear w ps h.2
work_clear ms w (assert_work (conditions_are es) ps) h = neither-both (some_item_holds is_opaque (conditions w es)) (some_field_holds is_opaque (values w ps)) (conditions_clear w es h.0) (values_clear w ps h.2)
work_clear ms w (fail_work ps) h = values_clear w ps h
