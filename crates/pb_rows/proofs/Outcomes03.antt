-- What expressions come to, computed.
use Rattle.std.specs.Prelude.{◌≡◌, refl, pos, negsuc, [], ◌∷◌, true, false, codes}
use Rattle.std.specs.Fmt.{digits}
use Rattle.pb_semantics.specs.Data.{null, boolean, int, text, list, rec, opaque, no_items, item, no_fields, field}
use Rattle.pb_language.specs.Expression.{equal, less, is_failed, is_changed, is_skipped, named_host, item_host, literal, path, negation, conjunction, disjunction, comparison, membership, in_batch, defined, path_status, path_or, length_of, joined_by, concatenation, list_of, record_of, variable, other, member, no_expressions, expression, no_parts, part}
use Rattle.pb_language.specs.World.{World}
use Rattle.pb_language.specs.Evaluation.{no_field, wrong_sort, value, stuck, eval}

abbrev no_item : World
no_item = record { mine = (field (codes "dark") opaque (field (codes "dark_list") (list (item opaque (no_items))) (field (codes "holds_dark") (rec (field (codes "k") opaque (no_fields))) (field (codes "l") (list (item (int (pos 1)) (item (int (pos 2)) (no_items)))) (field (codes "m") (rec (field (codes "in") (rec (field (codes "x") (text (codes "y")) (no_fields))) (field (codes "k") (int (pos 1)) (no_fields)))) (field (codes "n") (int (pos 3)) (field (codes "names") (list (item (text (codes "a")) (item (text (codes "b")) (no_items)))) (field (codes "none_there") null (field (codes "odd") (rec (field (codes "changed") (boolean true) (field (codes "failed") (text (codes "no")) (no_fields)))) (field (codes "r") (rec (field (codes "changed") (boolean true) (field (codes "failed") (boolean false) (no_fields)))) (field (codes "s") (rec (field (codes "changed") (boolean false) (field (codes "failed") (boolean false) (field (codes "skipped") (boolean true) (no_fields))))) (field (codes "strange") (rec (field (codes "changed") (boolean true) (field (codes "failed") (boolean false) (field (codes "skipped") (text (codes "yes")) (no_fields))))) (field (codes "t") (text (codes "ab")) (field (codes "yes") (boolean true) (no_fields))))))))))))))); this = (codes "a"); hosts = (record { name = (codes "a"); variables = (field (codes "v") (int (pos 1)) (no_fields)) } ∷ record { name = (codes "b"); variables = (field (codes "w") (rec (field (codes "k") (int (pos 2)) (no_fields))) (no_fields)) } ∷ []); batch = ((codes "a") ∷ []); groups = (record { name = (codes "g"); hosts = ((codes "a") ∷ (codes "b") ∷ []) } ∷ []) }

abbrev item_b : World
item_b = record { mine = (field (codes "dark") opaque (field (codes "dark_list") (list (item opaque (no_items))) (field (codes "holds_dark") (rec (field (codes "k") opaque (no_fields))) (field (codes "item") (text (codes "b")) (field (codes "l") (list (item (int (pos 1)) (item (int (pos 2)) (no_items)))) (field (codes "m") (rec (field (codes "in") (rec (field (codes "x") (text (codes "y")) (no_fields))) (field (codes "k") (int (pos 1)) (no_fields)))) (field (codes "n") (int (pos 3)) (field (codes "names") (list (item (text (codes "a")) (item (text (codes "b")) (no_items)))) (field (codes "none_there") null (field (codes "odd") (rec (field (codes "changed") (boolean true) (field (codes "failed") (text (codes "no")) (no_fields)))) (field (codes "r") (rec (field (codes "changed") (boolean true) (field (codes "failed") (boolean false) (no_fields)))) (field (codes "s") (rec (field (codes "changed") (boolean false) (field (codes "failed") (boolean false) (field (codes "skipped") (boolean true) (no_fields))))) (field (codes "strange") (rec (field (codes "changed") (boolean true) (field (codes "failed") (boolean false) (field (codes "skipped") (text (codes "yes")) (no_fields))))) (field (codes "t") (text (codes "ab")) (field (codes "yes") (boolean true) (no_fields)))))))))))))))); this = (codes "a"); hosts = (record { name = (codes "a"); variables = (field (codes "v") (int (pos 1)) (no_fields)) } ∷ record { name = (codes "b"); variables = (field (codes "w") (rec (field (codes "k") (int (pos 2)) (no_fields))) (no_fields)) } ∷ []); batch = ((codes "a") ∷ []); groups = (record { name = (codes "g"); hosts = ((codes "a") ∷ (codes "b") ∷ []) } ∷ []) }

abbrev item_5 : World
item_5 = record { mine = (field (codes "dark") opaque (field (codes "dark_list") (list (item opaque (no_items))) (field (codes "holds_dark") (rec (field (codes "k") opaque (no_fields))) (field (codes "item") (int (pos 5)) (field (codes "l") (list (item (int (pos 1)) (item (int (pos 2)) (no_items)))) (field (codes "m") (rec (field (codes "in") (rec (field (codes "x") (text (codes "y")) (no_fields))) (field (codes "k") (int (pos 1)) (no_fields)))) (field (codes "n") (int (pos 3)) (field (codes "names") (list (item (text (codes "a")) (item (text (codes "b")) (no_items)))) (field (codes "none_there") null (field (codes "odd") (rec (field (codes "changed") (boolean true) (field (codes "failed") (text (codes "no")) (no_fields)))) (field (codes "r") (rec (field (codes "changed") (boolean true) (field (codes "failed") (boolean false) (no_fields)))) (field (codes "s") (rec (field (codes "changed") (boolean false) (field (codes "failed") (boolean false) (field (codes "skipped") (boolean true) (no_fields))))) (field (codes "strange") (rec (field (codes "changed") (boolean true) (field (codes "failed") (boolean false) (field (codes "skipped") (text (codes "yes")) (no_fields))))) (field (codes "t") (text (codes "ab")) (field (codes "yes") (boolean true) (no_fields)))))))))))))))); this = (codes "a"); hosts = (record { name = (codes "a"); variables = (field (codes "v") (int (pos 1)) (no_fields)) } ∷ record { name = (codes "b"); variables = (field (codes "w") (rec (field (codes "k") (int (pos 2)) (no_fields))) (no_fields)) } ∷ []); batch = ((codes "a") ∷ []); groups = (record { name = (codes "g"); hosts = ((codes "a") ∷ (codes "b") ∷ []) } ∷ []) }

abbrev item_dark : World
item_dark = record { mine = (field (codes "dark") opaque (field (codes "dark_list") (list (item opaque (no_items))) (field (codes "holds_dark") (rec (field (codes "k") opaque (no_fields))) (field (codes "item") opaque (field (codes "l") (list (item (int (pos 1)) (item (int (pos 2)) (no_items)))) (field (codes "m") (rec (field (codes "in") (rec (field (codes "x") (text (codes "y")) (no_fields))) (field (codes "k") (int (pos 1)) (no_fields)))) (field (codes "n") (int (pos 3)) (field (codes "names") (list (item (text (codes "a")) (item (text (codes "b")) (no_items)))) (field (codes "none_there") null (field (codes "odd") (rec (field (codes "changed") (boolean true) (field (codes "failed") (text (codes "no")) (no_fields)))) (field (codes "r") (rec (field (codes "changed") (boolean true) (field (codes "failed") (boolean false) (no_fields)))) (field (codes "s") (rec (field (codes "changed") (boolean false) (field (codes "failed") (boolean false) (field (codes "skipped") (boolean true) (no_fields))))) (field (codes "strange") (rec (field (codes "changed") (boolean true) (field (codes "failed") (boolean false) (field (codes "skipped") (text (codes "yes")) (no_fields))))) (field (codes "t") (text (codes "ab")) (field (codes "yes") (boolean true) (no_fields)))))))))))))))); this = (codes "a"); hosts = (record { name = (codes "a"); variables = (field (codes "v") (int (pos 1)) (no_fields)) } ∷ record { name = (codes "b"); variables = (field (codes "w") (rec (field (codes "k") (int (pos 2)) (no_fields))) (no_fields)) } ∷ []); batch = ((codes "a") ∷ []); groups = (record { name = (codes "g"); hosts = ((codes "a") ∷ (codes "b") ∷ []) } ∷ []) }

-- "a {{ dark }}"
outcome_108 : eval no_item (concatenation (expression (literal (text (codes "a "))) (expression (path (variable (codes "dark")) ([])) (no_expressions)))) ≡ stuck wrong_sort
unfolding digits
outcome_108 = refl

-- {"a": "{{ dark }}"}
outcome_109 : eval no_item (record_of (part (codes "a") (path (variable (codes "dark")) ([])) (no_parts))) ≡ stuck wrong_sort
unfolding digits
outcome_109 = refl

-- "{{ n }} {{ m.zz }}"
outcome_110 : eval no_item (concatenation (expression (path (variable (codes "n")) ([])) (expression (literal (text (codes " "))) (expression (path (variable (codes "m")) ((codes "zz") ∷ [])) (no_expressions))))) ≡ stuck no_field
unfolding digits
outcome_110 = refl

-- "yes or zz"
outcome_111 : eval no_item (disjunction (expression (path (variable (codes "yes")) ([])) (expression (path (variable (codes "zz")) ([])) (no_expressions)))) ≡ value (boolean true)
unfolding digits
outcome_111 = refl

-- "not (not yes and zz)"
outcome_112 : eval no_item (negation (conjunction (expression (negation (path (variable (codes "yes")) ([]))) (expression (path (variable (codes "zz")) ([])) (no_expressions))))) ≡ value (boolean true)
unfolding digits
outcome_112 = refl

-- "yes or n"
outcome_113 : eval no_item (disjunction (expression (path (variable (codes "yes")) ([])) (expression (path (variable (codes "n")) ([])) (no_expressions)))) ≡ value (boolean true)
unfolding digits
outcome_113 = refl

-- "zz is undefined"
outcome_114 : eval no_item (negation (defined (variable (codes "zz")) ([]))) ≡ value (boolean true)
unfolding digits
outcome_114 = refl

-- "m.in.x is defined"
outcome_115 : eval no_item (defined (variable (codes "m")) ((codes "in") ∷ (codes "x") ∷ [])) ≡ value (boolean true)
unfolding digits
outcome_115 = refl

-- "dark is defined"
outcome_116 : eval no_item (defined (variable (codes "dark")) ([])) ≡ value (boolean true)
unfolding digits
outcome_116 = refl

-- "hostvars['b'].w.k is defined"
outcome_117 : eval no_item (defined (other (named_host (codes "b")) (codes "w")) ((codes "k") ∷ [])) ≡ value (boolean true)
unfolding digits
outcome_117 = refl

-- "s is skipped"
outcome_118 : eval no_item (path_status is_skipped (variable (codes "s")) ([])) ≡ value (boolean true)
unfolding digits
outcome_118 = refl

-- "r is succeeded"
outcome_119 : eval no_item (negation (path_status is_failed (variable (codes "r")) ([]))) ≡ value (boolean true)
unfolding digits
outcome_119 = refl

-- "r is changed"
outcome_120 : eval no_item (path_status is_changed (variable (codes "r")) ([])) ≡ value (boolean true)
unfolding digits
outcome_120 = refl

-- "none == none"
outcome_121 : eval no_item (comparison equal (literal null) (literal null)) ≡ value (boolean true)
unfolding digits
outcome_121 = refl

-- "l == [1, 2]"
outcome_122 : eval no_item (comparison equal (path (variable (codes "l")) ([])) (list_of (expression (literal (int (pos 1))) (expression (literal (int (pos 2))) (no_expressions))))) ≡ value (boolean true)
unfolding digits
outcome_122 = refl

-- "t in t"
outcome_123 : eval no_item (membership (path (variable (codes "t")) ([])) (path (variable (codes "t")) ([]))) ≡ value (boolean true)
unfolding digits
outcome_123 = refl

-- "'k' in m"
outcome_124 : eval no_item (membership (literal (text (codes "k"))) (path (variable (codes "m")) ([]))) ≡ value (boolean true)
unfolding digits
outcome_124 = refl

-- "1 in l"
outcome_125 : eval no_item (membership (literal (int (pos 1))) (path (variable (codes "l")) ([]))) ≡ value (boolean true)
unfolding digits
outcome_125 = refl

-- "'b' in names"
outcome_126 : eval no_item (membership (literal (text (codes "b"))) (path (variable (codes "names")) ([]))) ≡ value (boolean true)
unfolding digits
outcome_126 = refl

-- "9 not in l"
outcome_127 : eval no_item (negation (membership (literal (int (pos 9))) (path (variable (codes "l")) ([])))) ≡ value (boolean true)
unfolding digits
outcome_127 = refl

-- "'a' in ansible_play_batch"
outcome_128 : eval no_item (in_batch (named_host (codes "a"))) ≡ value (boolean true)
unfolding digits
outcome_128 = refl

-- "-1 < 0"
outcome_129 : eval no_item (comparison less (literal (int (negsuc 0))) (literal (int (pos 0)))) ≡ value (boolean true)
unfolding digits
outcome_129 = refl

-- "1 != 'x'"
outcome_130 : eval no_item (negation (comparison equal (literal (int (pos 1))) (literal (text (codes "x"))))) ≡ value (boolean true)
unfolding digits
outcome_130 = refl

-- "not yes and zz"
outcome_131 : eval no_item (conjunction (expression (negation (path (variable (codes "yes")) ([]))) (expression (path (variable (codes "zz")) ([])) (no_expressions)))) ≡ value (boolean false)
unfolding digits
outcome_131 = refl

-- "not yes and n"
outcome_132 : eval no_item (conjunction (expression (negation (path (variable (codes "yes")) ([]))) (expression (path (variable (codes "n")) ([])) (no_expressions)))) ≡ value (boolean false)
unfolding digits
outcome_132 = refl

-- "zz is defined"
outcome_133 : eval no_item (defined (variable (codes "zz")) ([])) ≡ value (boolean false)
unfolding digits
outcome_133 = refl

-- "m.zz is defined"
outcome_134 : eval no_item (defined (variable (codes "m")) ((codes "zz") ∷ [])) ≡ value (boolean false)
unfolding digits
outcome_134 = refl

-- "m.k.zz is defined"
outcome_135 : eval no_item (defined (variable (codes "m")) ((codes "k") ∷ (codes "zz") ∷ [])) ≡ value (boolean false)
unfolding digits
outcome_135 = refl

-- "n.k is defined"
outcome_136 : eval no_item (defined (variable (codes "n")) ((codes "k") ∷ [])) ≡ value (boolean false)
unfolding digits
outcome_136 = refl

-- "dark.k is defined"
outcome_137 : eval no_item (defined (variable (codes "dark")) ((codes "k") ∷ [])) ≡ value (boolean false)
unfolding digits
outcome_137 = refl

-- "hostvars['zz'].v is defined"
outcome_138 : eval no_item (defined (other (named_host (codes "zz")) (codes "v")) ([])) ≡ value (boolean false)
unfolding digits
outcome_138 = refl

-- "hostvars[item].v is defined"
outcome_139 : eval no_item (defined (other item_host (codes "v")) ([])) ≡ value (boolean false)
unfolding digits
outcome_139 = refl

-- "groups['g'][7] is defined"
outcome_140 : eval no_item (defined (member (codes "g") 7) ([])) ≡ value (boolean false)
unfolding digits
outcome_140 = refl

-- "r is skipped"
outcome_141 : eval no_item (path_status is_skipped (variable (codes "r")) ([])) ≡ value (boolean false)
unfolding digits
outcome_141 = refl

-- "r is failed"
outcome_142 : eval no_item (path_status is_failed (variable (codes "r")) ([])) ≡ value (boolean false)
unfolding digits
outcome_142 = refl

-- "'x' == 1"
outcome_143 : eval no_item (comparison equal (literal (text (codes "x"))) (literal (int (pos 1)))) ≡ value (boolean false)
unfolding digits
outcome_143 = refl

-- "1 == true"
outcome_144 : eval no_item (comparison equal (literal (int (pos 1))) (literal (boolean true))) ≡ value (boolean false)
unfolding digits
outcome_144 = refl

-- "item in ansible_play_batch"
outcome_145 : eval item_b (in_batch item_host) ≡ value (boolean false)
unfolding digits
outcome_145 = refl

-- "item in ansible_play_batch"
outcome_146 : eval item_5 (in_batch item_host) ≡ value (boolean false)
unfolding digits
outcome_146 = refl

-- "zz | default(1)"
outcome_147 : eval no_item (path_or (variable (codes "zz")) ([]) (literal (int (pos 1)))) ≡ value (int (pos 1))
unfolding digits
outcome_147 = refl

-- "m.zz | default('x')"
outcome_148 : eval no_item (path_or (variable (codes "m")) ((codes "zz") ∷ []) (literal (text (codes "x")))) ≡ value (text (codes "x"))
unfolding digits
outcome_148 = refl

-- "n.k | default(2)"
outcome_149 : eval no_item (path_or (variable (codes "n")) ((codes "k") ∷ []) (literal (int (pos 2)))) ≡ value (int (pos 2))
unfolding digits
outcome_149 = refl

-- "n | default(zz)"
outcome_150 : eval no_item (path_or (variable (codes "n")) ([]) (path (variable (codes "zz")) ([]))) ≡ value (int (pos 3))
unfolding digits
outcome_150 = refl

-- "m.k.zz | default(5)"
outcome_151 : eval no_item (path_or (variable (codes "m")) ((codes "k") ∷ (codes "zz") ∷ []) (literal (int (pos 5)))) ≡ value (int (pos 5))
unfolding digits
outcome_151 = refl

-- "dark.k | default(4)"
outcome_152 : eval no_item (path_or (variable (codes "dark")) ((codes "k") ∷ []) (literal (int (pos 4)))) ≡ value (int (pos 4))
unfolding digits
outcome_152 = refl

-- "hostvars['zz'].v | default(7)"
outcome_153 : eval no_item (path_or (other (named_host (codes "zz")) (codes "v")) ([]) (literal (int (pos 7)))) ≡ value (int (pos 7))
unfolding digits
outcome_153 = refl

-- "[] | length"
outcome_154 : eval no_item (length_of (list_of (no_expressions))) ≡ value (int (pos 0))
unfolding digits
outcome_154 = refl

-- "m | length"
outcome_155 : eval no_item (length_of (path (variable (codes "m")) ([]))) ≡ value (int (pos 2))
unfolding digits
outcome_155 = refl

-- "[] | join(',')"
outcome_156 : eval no_item (joined_by (list_of (no_expressions)) (literal (text (codes ",")))) ≡ value (text ([]))
unfolding digits
outcome_156 = refl

-- "[yes, 1, 'x'] | join('-')"
outcome_157 : eval no_item (joined_by (list_of (expression (path (variable (codes "yes")) ([])) (expression (literal (int (pos 1))) (expression (literal (text (codes "x"))) (no_expressions))))) (literal (text (codes "-")))) ≡ value (text (codes "True-1-x"))
unfolding digits
outcome_157 = refl

-- "n {{ n }} {{ yes }}"
outcome_158 : eval no_item (concatenation (expression (literal (text (codes "n "))) (expression (path (variable (codes "n")) ([])) (expression (literal (text (codes " "))) (expression (path (variable (codes "yes")) ([])) (no_expressions)))))) ≡ value (text (codes "n 3 True"))
unfolding digits
outcome_158 = refl
