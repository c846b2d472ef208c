-- Blocks and lists of steps, printed, are read as themselves, line by line.
use Rattle.std.proofs.Common.{◌≡◌, ℕ, suc, [], ◌∷◌, Bool, true, false, not, ◌&&◌, ◌||◌, cond, Option, Some, None, option_map, unwrap_or, Ok, bytes_eq, codes, refl, sym, ap, ◌∙◌}
use Rattle.std.specs.List.{list_all, list_any}
use Rattle.pb_semantics.specs.Data.{Data, Items, Fields, boolean, list, rec, no_items, item, no_fields, field, field_value}
use Rattle.pb_semantics.specs.Keeps.{is_among}
use Rattle.pb_language.specs.Book.{BlockData, Registry, Steps, block_step, flush_step, no_steps, task_step}
use Rattle.pb_language.specs.BookForm.{Reading, and_then, block_of, block_offence, changed, fits, has_other_key, has_wrong_block_value, is_large_block, is_list, is_unreadable_block, own_fields, part_in, part_of, step_in, steps_in, unless}
use Rattle.pb_language.specs.Expression.{Name, no_expressions, no_parts}
use Rattle.pb_language.specs.Keywords.{block_keywords, in_block, part_keywords}
use Rattle.pb_language.specs.Nesting.{some_field_holds}
use Rattle.pb_language.specs.TaskForm.{boolean_in, code_where, conditions_found, fits_keyword, has_key, is_boolean, is_missing, is_vars, vars_found}
use Rattle.pb_language.specs.Texts.{has_conditions, is_opaque}
use Rattle.pb_laws.specs.PrintedBook.{Writing, block_entries, conditions, printed_block, printed_flush, printed_steps, some_list, some_record, values}
use Rattle.pb_laws.specs.PrintableBook.{AreSteps, IsBlock, behind}
use Rattle.pb_laws.proofs.Entries.{no_key_written, none_of_own_written, own_entry, value_written}
use Rattle.pb_laws.proofs.Expressions.{conditions_clear, found_read, values_clear, vars_read}
use Rattle.pb_laws.proofs.Tasks.{boolean_clear, boolean_form, conditions_form, list_clear, record_clear, vars_form}
use Rattle.pb_laws.proofs.TasksRead.{boolean_read, flush_read, task_in_read}

-- what fields say of a block with these steps
record SaysBlock (w : Writing) (fs : Fields) (b : BlockData) (xs ys zs : Items) : Type 0 where
  keys : has_other_key block_keywords fs ≡ false
  clear : some_field_holds is_opaque (own_fields part_keywords fs) ≡ false
  name : field_value (codes "name") fs ≡ None
  body : field_value (codes "block") fs ≡ Some (list xs)
  rescue : field_value (codes "rescue") fs ≡ some_list ys
  always : field_value (codes "always") fs ≡ some_list zs
  condition : field_value (codes "when") fs ≡ some_list (conditions w b.condition)
  vars : field_value (codes "vars") fs ≡ some_record (values w b.vars)
  ignore_errors : field_value (codes "ignore_errors") fs ≡ option_map boolean b.ignore_errors

block_clear : (w : Writing) (k l : ℕ) (b : BlockData) (xs ys zs : Steps) (body rescue always : Items) → IsBlock w k l b xs ys zs → list_any (own_entry is_opaque part_keywords) (block_entries w b body rescue always) ≡ false
block_clear w k l b xs ys zs body rescue always h = λ i. list_clear (conditions w b.condition) (conditions_clear w b.condition h.condition) i
    || (record_clear (values w b.vars) (values_clear w b.vars h.vars.values) i || (boolean_clear b.ignore_errors i || false))

says_block : (w : Writing) (k l : ℕ) (b : BlockData) (xs ys zs : Steps) (body rescue always : Items) → IsBlock w k l b xs ys zs → SaysBlock w (printed_block w b body rescue always) b body rescue always
says_block w k l b xs ys zs body rescue always h =
    let es = block_entries w b body rescue always in
    record {
      keys = no_key_written (λ n. not (is_among n block_keywords)) es no_fields refl refl;
      clear = none_of_own_written is_opaque part_keywords es (block_clear w k l b xs ys zs body rescue always h);
      name = value_written (codes "name") es no_fields;
      body = value_written (codes "block") es no_fields;
      rescue = value_written (codes "rescue") es no_fields;
      always = value_written (codes "always") es no_fields;
      condition = value_written (codes "when") es no_fields;
      vars = value_written (codes "vars") es no_fields;
      ignore_errors = value_written (codes "ignore_errors") es no_fields;
    }

pub some_is_list : (ds : Items) → is_list (some_list ds) ≡ true
some_is_list no_items = refl
some_is_list (item d ds) = refl

block_unrefused : (w : Writing) (k l : ℕ) (b : BlockData) (xs ys zs : Steps) (fs : Fields) (body rescue always : Items) → IsBlock w k l b xs ys zs → SaysBlock w fs b body rescue always → is_large_block k fs ≡ false → block_offence k l fs ≡ None
block_unrefused w k l b xs ys zs fs body rescue always h f large =
    let lists : list_all (λ n. is_list (field_value n fs)) part_keywords ≡ true =
    (λ i. is_list (f.body i) && (is_list (f.rescue i) && (is_list (f.always i) && true))) ∙ (λ i. some_is_list rescue i && (some_is_list always i && true)) in
    let forms : list_all (λ n. fits (fits_keyword in_block n) (field_value n fs)) (codes "name" ∷ codes "when" ∷ codes "vars" ∷ codes "ignore_errors" ∷ []) ≡ true =
    (λ i. fits (fits_keyword in_block (codes "name")) (f.name i) && (fits has_conditions (f.condition i) && (fits is_vars (f.vars i) && (fits is_boolean (f.ignore_errors i) && true))))
    ∙ (λ i. conditions_form w b.condition h.condition i && (vars_form w b.vars h.vars i && (boolean_form b.ignore_errors i && true))) in
    let wrong : has_wrong_block_value fs ≡ false = λ i. f.clear i || (not (lists i) || not (forms i)) in
    let condition = ap conditions_found f.condition ∙ found_read w b.condition h.condition in
    let vars = ap vars_found f.vars ∙ vars_read w b.vars h.vars in
    let unreadable : is_unreadable_block fs ≡ false = λ i. is_missing (condition i) || is_missing (vars i) in
    λ i. code_where (f.keys i) 3 (code_where (wrong i) 4 (code_where (unreadable i) 7 (code_where (large i || h.line.few i) 8 None)))

block_said : (w : Writing) (k l : ℕ) (b : BlockData) (xs ys zs : Steps) (fs : Fields) (body rescue always : Items) → IsBlock w k l b xs ys zs → SaysBlock w fs b body rescue always → block_of l fs ≡ b
block_said w k l b xs ys zs fs body rescue always h f =
    let condition = ap conditions_found f.condition ∙ found_read w b.condition h.condition in
    let vars = ap vars_found f.vars ∙ vars_read w b.vars h.vars in
    let ignores = ap boolean_in f.ignore_errors ∙ boolean_read b.ignore_errors in
    λ i. record { line = sym h.line.number i; condition = unwrap_or (condition i) no_expressions; vars = unwrap_or (vars i) no_parts; ignore_errors = ignores i }

-- the part of a block that stands under its key

abbrev given_part : Registry → ℕ → ℕ → Option Data → Reading Steps
given_part ms k l None = Ok (no_steps, l)
given_part ms k l (Some d) = part_of ms k l d

part_given : (p : Name) (ms : Registry) (k l : ℕ) (fs : Fields) → part_in p ms k l fs ≡ given_part ms k l (field_value p fs)
part_given p ms k l no_fields = refl
part_given p ms k l (field n d fs) = either (bytes_eq p n) (part_given p ms k l fs) where
  either : (q : Bool) → part_in p ms k l fs ≡ given_part ms k l (field_value p fs) → cond q (part_of ms k l d) (part_in p ms k l fs) ≡ given_part ms k l (cond q (Some d) (field_value p fs))
  either true h = refl
  either false h = h

some_part : (ms : Registry) (k l : ℕ) (ds : Items) → given_part ms k l (some_list ds) ≡ steps_in ms k l ds
some_part ms k l no_items = refl
some_part ms k l (item d ds) = refl

block_key : (ms : Registry) (k l : ℕ) (fs : Fields) → has_key (codes "block") fs ≡ true
    → step_in ms k l (rec fs) ≡ unless l (block_offence k l fs) (and_then (part_in (codes "block") ms (suc k) (suc l) fs) (λ body next. and_then (part_in (codes "rescue") ms (suc k) next fs)
    (λ rescue then. changed (λ always ss. block_step (block_of l fs) body rescue always ss) (part_in (codes "always") ms (suc k) then fs))))
block_key ms k l fs h = rw h refl

block_read : (ms : Registry) (w : Writing) (k l : ℕ) (b : BlockData) (body rescue always : Steps) → IsBlock w k l b body rescue always
    → steps_in ms (suc k) (suc l) (printed_steps w body) ≡ Ok (body, behind (suc l) body)
    → steps_in ms (suc k) (behind (suc l) body) (printed_steps w rescue) ≡ Ok (rescue, behind (behind (suc l) body) rescue)
    → steps_in ms (suc k) (behind (behind (suc l) body) rescue) (printed_steps w always) ≡ Ok (always, behind (behind (behind (suc l) body) rescue) always)
    → step_in ms k l (rec (printed_block w b (printed_steps w body) (printed_steps w rescue) (printed_steps w always))) ≡ Ok (block_step b body rescue always, behind (behind (behind (suc l) body) rescue) always)
block_read ms w k l b body rescue always h first then last =
    let xs = printed_steps w body in
    let ys = printed_steps w rescue in
    let zs = printed_steps w always in
    let fs = printed_block w b xs ys zs in
    let f = says_block w k l b body rescue always xs ys zs h in
    let a = suc l in
    let c = behind a body in
    let d = behind c rescue in
    let read_body : part_in (codes "block") ms (suc k) a fs ≡ Ok (body, c) = part_given (codes "block") ms (suc k) a fs ∙ ap (given_part ms (suc k) a) f.body ∙ first in
    let read_rescue : part_in (codes "rescue") ms (suc k) c fs ≡ Ok (rescue, d) = part_given (codes "rescue") ms (suc k) c fs ∙ ap (given_part ms (suc k) c) f.rescue ∙ some_part ms (suc k) c ys ∙ then in
    let read_always : part_in (codes "always") ms (suc k) d fs ≡ Ok (always, behind d always) = part_given (codes "always") ms (suc k) d fs ∙ ap (given_part ms (suc k) d) f.always ∙ some_part ms (suc k) d zs ∙ last in
    let said = block_said w k l b body rescue always fs xs ys zs h f in
    let unrefused = block_unrefused w k l b body rescue always fs xs ys zs h f h.within in
    block_key ms k l fs refl
    ∙ (λ i. unless l (unrefused i) (and_then (read_body i) (λ body next. and_then (part_in (codes "rescue") ms (suc k) next fs)
    (λ rescue then. changed (λ always ss. block_step (said i) body rescue always ss) (part_in (codes "always") ms (suc k) then fs)))))
    ∙ (λ i. and_then (read_rescue i) (λ rescue then. changed (λ always ss. block_step b body rescue always ss) (part_in (codes "always") ms (suc k) then fs)))
    ∙ (λ i. changed (λ always ss. block_step b body rescue always ss) (read_always i))

pub steps_read : (ms : Registry) (w : Writing) (k l : ℕ) (ss : Steps) → AreSteps ms w k l ss → steps_in ms k l (printed_steps w ss) ≡ Ok (ss, behind l ss)
steps_read ms w k l no_steps h = refl
steps_read ms w k l (task_step t ss) h =
    (λ i. and_then (task_in_read ms w k l t h.0 i) (λ before next. changed before (steps_in ms k next (printed_steps w ss))))
    ∙ (λ i. changed (task_step t) (steps_read ms w k (suc l) ss h.1 i))
steps_read ms w k l (block_step b body rescue always ss) h =
    let next = behind (behind (behind (suc l) body) rescue) always in
    let step = block_read ms w k l b body rescue always h.0 (steps_read ms w (suc k) (suc l) body h.1) (steps_read ms w (suc k) (behind (suc l) body) rescue h.2) (steps_read ms w (suc k) (behind (behind (suc l) body) rescue) always h.3) in
    (λ i. and_then (step i) (λ before next. changed before (steps_in ms k next (printed_steps w ss))))
    ∙ (λ i. changed (block_step b body rescue always) (steps_read ms w k next ss h.4 i))
steps_read ms w k l (flush_step m ss) h =
    let step : step_in ms k l (rec printed_flush) ≡ Ok (flush_step m, suc l) = ap (λ j. step_in ms j l (rec printed_flush)) h.0 ∙ flush_read ms l m h.1 in
    (λ i. and_then (step i) (λ before next. changed before (steps_in ms k next (printed_steps w ss))))
    ∙ (λ i. changed (flush_step m) (steps_read ms w k (suc l) ss h.2 i))
