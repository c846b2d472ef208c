-- What stands at a block or at a play itself, by its form, its texts and its limits.
use Rattle.std.proofs.Common.{◌≤◌, ◌<◌, suc, ◌≡◌, ℕ, Bool, true, false, not, ◌||◌, ◌&&◌, Option, Some, None, unwrap_or, Ok, Err, codes, nat_lt, refl, sym, ap, ◌∙◌}
use Rattle.std.proofs.lemmas.Bool.{ltb-false}
use Rattle.pb_semantics.specs.Data.{Fields, field_value}
use Rattle.pb_language.specs.Book.{BlockData}
use Rattle.pb_language.specs.BookForm.{block_offence, block_of, fits, has_other_key, has_wrong_block_value, has_wrong_play_value, is_large_block, is_large_play, is_unreadable_block, most_block_nesting, most_lines, other_lines, own_fields}
use Rattle.pb_language.specs.BookForm.{is_pattern, is_serial, is_strategy}
use Rattle.pb_language.specs.Expression.{Expressions, no_expressions, Parts, no_parts}
use Rattle.pb_language.specs.Keywords.{block_keywords, play_keywords}
use Rattle.pb_language.specs.Nesting.{some_field_holds}
use Rattle.pb_language.specs.TaskForm.{boolean_in, code_where, conditions_found, has_key, is_boolean, is_missing, is_text, is_vars, vars_found}
use Rattle.pb_language.specs.Texts.{is_opaque}
use Rattle.pb_play.specs.Blocks.{block_form_offence, head_from, head_read, head_with, refused_or}
use Rattle.pb_play.specs.Heads.{are_other_lists, has_wrong_form, play_form_offence, play_head_read, play_head_with}
use Rattle.pb_play.proofs.Tasks.{or-false}

-- the codes behind those of the form
abbrev behind : Bool → Bool → Option ℕ
behind unread large = code_where unread 7 (code_where large 8 None)

-- ---- blocks

form-some : (a b : Bool) (n : ℕ) (o : Option ℕ) → code_where a 3 (code_where b 4 None) ≡ Some n → code_where a 3 (code_where b 4 o) ≡ Some n
form-some true b n o h = h
form-some false true n o h = h
form-some false false n o h = absurd (cc)

form-none : (a b : Bool) (o : Option ℕ) → code_where a 3 (code_where b 4 None) ≡ None → code_where a 3 (code_where b 4 o) ≡ o
form-none true b o h = absurd (cc)
form-none false true o h = absurd (cc)
form-none false false o h = refl

pub block-misformed : (k l n : ℕ) (fs : Fields) → block_form_offence fs ≡ Some n → head_read k l fs ≡ Err (record { line = l; code = n })
block-misformed k l n fs h =
    ap (λ o. refused_or l o (block_of l fs)) (form-some (has_other_key block_keywords fs) (has_wrong_block_value fs) n (behind (is_unreadable_block fs) (is_large_block k fs || nat_lt most_lines l)) h)

block-formed : (k l : ℕ) (fs : Fields) → block_form_offence fs ≡ None → block_offence k l fs ≡ behind (is_unreadable_block fs) (is_large_block k fs || nat_lt most_lines l)
block-formed k l fs h = form-none (has_other_key block_keywords fs) (has_wrong_block_value fs) (behind (is_unreadable_block fs) (is_large_block k fs || nat_lt most_lines l)) h

-- the texts of a block are read or they aren't
texts-none : (l : ℕ) (i : Option Bool) (w : Option Expressions) (v : Option Parts) → head_with l i w v ≡ None → is_missing w || is_missing v ≡ true
texts-none l i None v h = refl
texts-none l i (Some w) None h = refl
texts-none l i (Some w) (Some v) h = absurd (cc)

texts-some : (l : ℕ) (i : Option Bool) (w : Option Expressions) (v : Option Parts) (b : BlockData) → head_with l i w v ≡ Some b
    → (is_missing w || is_missing v ≡ false) × (◌≡◌ {A = BlockData} (record { line = l; condition = unwrap_or w no_expressions; vars = unwrap_or v no_parts; ignore_errors = i }) b)
texts-some l i None v b h = absurd (cc)
texts-some l i (Some w) None b h = absurd (cc)
texts-some l i (Some w) (Some v) b h = (refl, (cc))

pub block-unread : (k l : ℕ) (fs : Fields) → block_form_offence fs ≡ None → head_from l fs ≡ None → head_read k l fs ≡ Err (record { line = l; code = 7 })
block-unread k l fs h t =
    let un = texts-none l (boolean_in (field_value (codes "ignore_errors") fs)) (conditions_found (field_value (codes "when") fs)) (vars_found (field_value (codes "vars") fs)) t in
    ap (λ o. refused_or l o (block_of l fs)) (block-formed k l fs h ∙ ap (λ u. behind u (is_large_block k fs || nat_lt most_lines l)) un)

block-by : (k l : ℕ) (fs : Fields) (b : BlockData) (large : Bool) → block_form_offence fs ≡ None → head_from l fs ≡ Some b → is_large_block k fs || nat_lt most_lines l ≡ large
    → head_read k l fs ≡ refused_or l (code_where large 8 None) b
block-by k l fs b large h t e =
    let p = texts-some l (boolean_in (field_value (codes "ignore_errors") fs)) (conditions_found (field_value (codes "when") fs)) (vars_found (field_value (codes "vars") fs)) b t in
    ap (λ o. refused_or l o (block_of l fs)) (block-formed k l fs h ∙ ap (λ u. behind u (is_large_block k fs || nat_lt most_lines l)) p.0 ∙ ap (λ x. code_where x 8 None) e)
    ∙ ap (λ x. refused_or l (code_where large 8 None) x) p.1

pub block-large : (k l : ℕ) (fs : Fields) (b : BlockData) → block_form_offence fs ≡ None → head_from l fs ≡ Some b → is_large_block k fs || nat_lt most_lines l ≡ true → head_read k l fs ≡ Err (record { line = l; code = 8 })
block-large k l fs b h t e = block-by k l fs b true h t e

pub block-said : (k l : ℕ) (fs : Fields) (b : BlockData) → block_form_offence fs ≡ None → head_from l fs ≡ Some b → is_large_block k fs || nat_lt most_lines l ≡ false → head_read k l fs ≡ Ok b
block-said k l fs b h t e = block-by k l fs b false h t e

-- within the limits
pub block-small : (k l : ℕ) (fs : Fields) → is_large_block k fs || nat_lt most_lines l ≡ false → (k < most_block_nesting) × (l ≤ most_lines)
block-small k l fs h =
    let a = or-false (is_large_block k fs) (nat_lt most_lines l) h in
    let b = or-false (nat_lt most_block_nesting (suc k)) _ a.0 in
    (ltb-false most_block_nesting (suc k) b.0, ltb-false most_lines l a.1)

-- ---- plays

play-form-some : (a b c : Bool) (n : ℕ) (o : Option ℕ) → code_where a 2 (code_where b 3 (code_where c 4 None)) ≡ Some n → code_where a 2 (code_where b 3 (code_where c 4 o)) ≡ Some n
play-form-some true b c n o h = h
play-form-some false true c n o h = h
play-form-some false false true n o h = h
play-form-some false false false n o h = absurd (cc)

play-form-none : (a b c : Bool) (o : Option ℕ) → code_where a 2 (code_where b 3 (code_where c 4 None)) ≡ None → code_where a 2 (code_where b 3 (code_where c 4 o)) ≡ o
play-form-none true b c o h = absurd (cc)
play-form-none false true c o h = absurd (cc)
play-form-none false false true o h = absurd (cc)
play-form-none false false false o h = refl

pub play-misformed : (i l n : ℕ) (fs : Fields) → play_form_offence fs ≡ Some n → play_head_read i l fs ≡ Err (record { line = l; code = n })
play-misformed i l n fs h =
    ap (λ o. refused_or l o (play_head_with (unwrap_or (vars_found (field_value (codes "vars") fs)) no_parts) fs))
    (play-form-some (not (has_key (codes "hosts") fs)) (has_other_key play_keywords fs) (has_wrong_play_value fs) n (behind (is_missing (vars_found (field_value (codes "vars") fs))) (is_large_play i fs || nat_lt most_lines l)) h)

play-by : (i l : ℕ) (fs : Fields) (o : Option Parts) (large : Bool) → play_form_offence fs ≡ None → vars_found (field_value (codes "vars") fs) ≡ o → is_large_play i fs || nat_lt most_lines l ≡ large
    → play_head_read i l fs ≡ refused_or l (behind (is_missing o) large) (play_head_with (unwrap_or o no_parts) fs)
play-by i l fs o large h v e =
    ap (λ x. refused_or l x (play_head_with (unwrap_or (vars_found (field_value (codes "vars") fs)) no_parts) fs))
    (play-form-none (not (has_key (codes "hosts") fs)) (has_other_key play_keywords fs) (has_wrong_play_value fs) (behind (is_missing (vars_found (field_value (codes "vars") fs))) (is_large_play i fs || nat_lt most_lines l)) h)
    ∙ ap (λ x. refused_or l (behind (is_missing x) (is_large_play i fs || nat_lt most_lines l)) (play_head_with (unwrap_or x no_parts) fs)) v
    ∙ ap (λ x. refused_or l (behind (is_missing o) x) (play_head_with (unwrap_or o no_parts) fs)) e

pub play-unread : (i l : ℕ) (fs : Fields) → play_form_offence fs ≡ None → vars_found (field_value (codes "vars") fs) ≡ None → play_head_read i l fs ≡ Err (record { line = l; code = 7 })
play-unread i l fs h v = play-by i l fs None (is_large_play i fs || nat_lt most_lines l) h v refl

pub play-large : (i l : ℕ) (fs : Fields) (ps : Parts) → play_form_offence fs ≡ None → vars_found (field_value (codes "vars") fs) ≡ Some ps → is_large_play i fs || nat_lt most_lines l ≡ true → play_head_read i l fs ≡ Err (record { line = l; code = 8 })
play-large i l fs ps h v e = play-by i l fs (Some ps) true h v e

pub play-said : (i l : ℕ) (fs : Fields) (ps : Parts) → play_form_offence fs ≡ None → vars_found (field_value (codes "vars") fs) ≡ Some ps → is_large_play i fs || nat_lt most_lines l ≡ false → play_head_read i l fs ≡ Ok (play_head_with ps fs)
play-said i l fs ps h v e = play-by i l fs (Some ps) false h v e

-- the forms of a play's keywords, one after the other
not-both : (a b : Bool) → not (a && b) ≡ not a || not b
not-both true b = refl
not-both false b = refl

pub play-wrong : (fs : Fields) → has_wrong_play_value fs ≡ some_field_holds is_opaque (own_fields other_lines fs) || has_wrong_form fs
play-wrong fs =
    let a = fits is_pattern (field_value (codes "hosts") fs) in
    let b = fits is_text (field_value (codes "name") fs) in
    let c = fits is_boolean (field_value (codes "gather_facts") fs) in
    let d = fits is_vars (field_value (codes "vars") fs) in
    let e = fits is_strategy (field_value (codes "strategy") fs) in
    let f = fits is_serial (field_value (codes "serial") fs) in
    let g = fits is_boolean (field_value (codes "force_handlers") fs) in
    let all = not-both a (b && (c && (d && (e && (f && g))))) ∙ ap (λ x. not a || x) (not-both b (c && (d && (e && (f && g)))) ∙ ap (λ x. not b || x) (not-both c (d && (e && (f && g)))
    ∙ ap (λ x. not c || x) (not-both d (e && (f && g)) ∙ ap (λ x. not d || x) (not-both e (f && g) ∙ ap (λ x. not e || x) (not-both f g))))) in
    ap (λ x. some_field_holds is_opaque (own_fields other_lines fs) || (not (are_other_lists fs) || x)) (sym all)

pub play-small : (i l : ℕ) (fs : Fields) → is_large_play i fs || nat_lt most_lines l ≡ false → l ≤ most_lines
play-small i l fs h = ltb-false most_lines l (or-false (is_large_play i fs) (nat_lt most_lines l) h).1
