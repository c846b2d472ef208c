-- What expressions come to, computed.
use Rattle.std.specs.Prelude.{◌≡◌, refl, pos, [], ◌∷◌, true, false, codes}
use Rattle.std.specs.Fmt.{digits}
use Rattle.pb_semantics.specs.Data.{null, boolean, int, text, list, rec, opaque, no_items, item, no_fields, field}
use Rattle.pb_language.specs.Expression.{is_failed, is_changed, is_skipped, item_host, group_member, literal, path, negation, conjunction, membership, in_batch, defined, undefinable, path_status, value_status, path_or, value_or, length_of, joined_by, concatenation, list_of, record_of, variable, other, no_expressions, expression, no_parts, part}
use Rattle.pb_language.specs.World.{World}
use Rattle.pb_language.specs.Evaluation.{undefined, no_field, wrong_sort, stuck, eval}

abbrev no_item : World
no_item = record { mine = (field (codes "dark") opaque (field (codes "dark_list") (list (item opaque (no_items))) (field (codes "holds_dark") (rec (field (codes "k") opaque (no_fields))) (field (codes "l") (list (item (int (pos 1)) (item (int (pos 2)) (no_items)))) (field (codes "m") (rec (field (codes "in") (rec (field (codes "x") (text (codes "y")) (no_fields))) (field (codes "k") (int (pos 1)) (no_fields)))) (field (codes "n") (int (pos 3)) (field (codes "names") (list (item (text (codes "a")) (item (text (codes "b")) (no_items)))) (field (codes "none_there") null (field (codes "odd") (rec (field (codes "changed") (boolean true) (field (codes "failed") (text (codes "no")) (no_fields)))) (field (codes "r") (rec (field (codes "changed") (boolean true) (field (codes "failed") (boolean false) (no_fields)))) (field (codes "s") (rec (field (codes "changed") (boolean false) (field (codes "failed") (boolean false) (field (codes "skipped") (boolean true) (no_fields))))) (field (codes "strange") (rec (field (codes "changed") (boolean true) (field (codes "failed") (boolean false) (field (codes "skipped") (text (codes "yes")) (no_fields))))) (field (codes "t") (text (codes "ab")) (field (codes "yes") (boolean true) (no_fields))))))))))))))); this = (codes "a"); hosts = (record { name = (codes "a"); variables = (field (codes "v") (int (pos 1)) (no_fields)) } ∷ record { name = (codes "b"); variables = (field (codes "w") (rec (field (codes "k") (int (pos 2)) (no_fields))) (no_fields)) } ∷ []); batch = ((codes "a") ∷ []); groups = (record { name = (codes "g"); hosts = ((codes "a") ∷ (codes "b") ∷ []) } ∷ []) }

abbrev item_b : World
item_b = record { mine = (field (codes "dark") opaque (field (codes "dark_list") (list (item opaque (no_items))) (field (codes "holds_dark") (rec (field (codes "k") opaque (no_fields))) (field (codes "item") (text (codes "b")) (field (codes "l") (list (item (int (pos 1)) (item (int (pos 2)) (no_items)))) (field (codes "m") (rec (field (codes "in") (rec (field (codes "x") (text (codes "y")) (no_fields))) (field (codes "k") (int (pos 1)) (no_fields)))) (field (codes "n") (int (pos 3)) (field (codes "names") (list (item (text (codes "a")) (item (text (codes "b")) (no_items)))) (field (codes "none_there") null (field (codes "odd") (rec (field (codes "changed") (boolean true) (field (codes "failed") (text (codes "no")) (no_fields)))) (field (codes "r") (rec (field (codes "changed") (boolean true) (field (codes "failed") (boolean false) (no_fields)))) (field (codes "s") (rec (field (codes "changed") (boolean false) (field (codes "failed") (boolean false) (field (codes "skipped") (boolean true) (no_fields))))) (field (codes "strange") (rec (field (codes "changed") (boolean true) (field (codes "failed") (boolean false) (field (codes "skipped") (text (codes "yes")) (no_fields))))) (field (codes "t") (text (codes "ab")) (field (codes "yes") (boolean true) (no_fields)))))))))))))))); this = (codes "a"); hosts = (record { name = (codes "a"); variables = (field (codes "v") (int (pos 1)) (no_fields)) } ∷ record { name = (codes "b"); variables = (field (codes "w") (rec (field (codes "k") (int (pos 2)) (no_fields))) (no_fields)) } ∷ []); batch = ((codes "a") ∷ []); groups = (record { name = (codes "g"); hosts = ((codes "a") ∷ (codes "b") ∷ []) } ∷ []) }

abbrev item_5 : World
item_5 = record { mine = (field (codes "dark") opaque (field (codes "dark_list") (list (item opaque (no_items))) (field (codes "holds_dark") (rec (field (codes "k") opaque (no_fields))) (field (codes "item") (int (pos 5)) (field (codes "l") (list (item (int (pos 1)) (item (int (pos 2)) (no_items)))) (field (codes "m") (rec (field (codes "in") (rec (field (codes "x") (text (codes "y")) (no_fields))) (field (codes "k") (int (pos 1)) (no_fields)))) (field (codes "n") (int (pos 3)) (field (codes "names") (list (item (text (codes "a")) (item (text (codes "b")) (no_items)))) (field (codes "none_there") null (field (codes "odd") (rec (field (codes "changed") (boolean true) (field (codes "failed") (text (codes "no")) (no_fields)))) (field (codes "r") (rec (field (codes "changed") (boolean true) (field (codes "failed") (boolean false) (no_fields)))) (field (codes "s") (rec (field (codes "changed") (boolean false) (field (codes "failed") (boolean false) (field (codes "skipped") (boolean true) (no_fields))))) (field (codes "strange") (rec (field (codes "changed") (boolean true) (field (codes "failed") (boolean false) (field (codes "skipped") (text (codes "yes")) (no_fields))))) (field (codes "t") (text (codes "ab")) (field (codes "yes") (boolean true) (no_fields)))))))))))))))); this = (codes "a"); hosts = (record { name = (codes "a"); variables = (field (codes "v") (int (pos 1)) (no_fields)) } ∷ record { name = (codes "b"); variables = (field (codes "w") (rec (field (codes "k") (int (pos 2)) (no_fields))) (no_fields)) } ∷ []); batch = ((codes "a") ∷ []); groups = (record { name = (codes "g"); hosts = ((codes "a") ∷ (codes "b") ∷ []) } ∷ []) }

abbrev item_dark : World
item_dark = record { mine = (field (codes "dark") opaque (field (codes "dark_list") (list (item opaque (no_items))) (field (codes "holds_dark") (rec (field (codes "k") opaque (no_fields))) (field (codes "item") opaque (field (codes "l") (list (item (int (pos 1)) (item (int (pos 2)) (no_items)))) (field (codes "m") (rec (field (codes "in") (rec (field (codes "x") (text (codes "y")) (no_fields))) (field (codes "k") (int (pos 1)) (no_fields)))) (field (codes "n") (int (pos 3)) (field (codes "names") (list (item (text (codes "a")) (item (text (codes "b")) (no_items)))) (field (codes "none_there") null (field (codes "odd") (rec (field (codes "changed") (boolean true) (field (codes "failed") (text (codes "no")) (no_fields)))) (field (codes "r") (rec (field (codes "changed") (boolean true) (field (codes "failed") (boolean false) (no_fields)))) (field (codes "s") (rec (field (codes "changed") (boolean false) (field (codes "failed") (boolean false) (field (codes "skipped") (boolean true) (no_fields))))) (field (codes "strange") (rec (field (codes "changed") (boolean true) (field (codes "failed") (boolean false) (field (codes "skipped") (text (codes "yes")) (no_fields))))) (field (codes "t") (text (codes "ab")) (field (codes "yes") (boolean true) (no_fields)))))))))))))))); this = (codes "a"); hosts = (record { name = (codes "a"); variables = (field (codes "v") (int (pos 1)) (no_fields)) } ∷ record { name = (codes "b"); variables = (field (codes "w") (rec (field (codes "k") (int (pos 2)) (no_fields))) (no_fields)) } ∷ []); batch = ((codes "a") ∷ []); groups = (record { name = (codes "g"); hosts = ((codes "a") ∷ (codes "b") ∷ []) } ∷ []) }

-- "1 in n"
outcome_054 : eval no_item (membership (literal (int (pos 1))) (path (variable (codes "n")) ([]))) ≡ stuck wrong_sort
unfolding digits
outcome_054 = refl

-- "n in t"
outcome_055 : eval no_item (membership (path (variable (codes "n")) ([])) (path (variable (codes "t")) ([]))) ≡ stuck wrong_sort
unfolding digits
outcome_055 = refl

-- "n in m"
outcome_056 : eval no_item (membership (path (variable (codes "n")) ([])) (path (variable (codes "m")) ([]))) ≡ stuck wrong_sort
unfolding digits
outcome_056 = refl

-- "yes in yes"
outcome_057 : eval no_item (membership (path (variable (codes "yes")) ([])) (path (variable (codes "yes")) ([]))) ≡ stuck wrong_sort
unfolding digits
outcome_057 = refl

-- "t in none"
outcome_058 : eval no_item (membership (path (variable (codes "t")) ([])) (literal null)) ≡ stuck wrong_sort
unfolding digits
outcome_058 = refl

-- "dark in l"
outcome_059 : eval no_item (membership (path (variable (codes "dark")) ([])) (path (variable (codes "l")) ([]))) ≡ stuck wrong_sort
unfolding digits
outcome_059 = refl

-- "1 in dark_list"
outcome_060 : eval no_item (membership (literal (int (pos 1))) (path (variable (codes "dark_list")) ([]))) ≡ stuck wrong_sort
unfolding digits
outcome_060 = refl

-- "1 not in n"
outcome_061 : eval no_item (negation (membership (literal (int (pos 1))) (path (variable (codes "n")) ([])))) ≡ stuck wrong_sort
unfolding digits
outcome_061 = refl

-- "zz in l"
outcome_062 : eval no_item (membership (path (variable (codes "zz")) ([])) (path (variable (codes "l")) ([]))) ≡ stuck undefined
unfolding digits
outcome_062 = refl

-- "1 in zz"
outcome_063 : eval no_item (membership (literal (int (pos 1))) (path (variable (codes "zz")) ([]))) ≡ stuck undefined
unfolding digits
outcome_063 = refl

-- "item in ansible_play_batch"
outcome_064 : eval no_item (in_batch item_host) ≡ stuck undefined
unfolding digits
outcome_064 = refl

-- "groups['g'][7] in ansible_play_batch"
outcome_065 : eval no_item (in_batch (group_member (codes "g") 7)) ≡ stuck undefined
unfolding digits
outcome_065 = refl

-- "item in ansible_play_batch"
outcome_066 : eval item_dark (in_batch item_host) ≡ stuck wrong_sort
unfolding digits
outcome_066 = refl

-- "1 is defined"
outcome_067 : eval no_item (undefinable (literal (int (pos 1)))) ≡ stuck wrong_sort
unfolding digits
outcome_067 = refl

-- "n | default(1) is defined"
outcome_068 : eval no_item (undefinable (path_or (variable (codes "n")) ([]) (literal (int (pos 1))))) ≡ stuck wrong_sort
unfolding digits
outcome_068 = refl

-- "n is failed"
outcome_069 : eval no_item (path_status is_failed (variable (codes "n")) ([])) ≡ stuck wrong_sort
unfolding digits
outcome_069 = refl

-- "m is changed"
outcome_070 : eval no_item (path_status is_changed (variable (codes "m")) ([])) ≡ stuck wrong_sort
unfolding digits
outcome_070 = refl

-- "odd is failed"
outcome_071 : eval no_item (path_status is_failed (variable (codes "odd")) ([])) ≡ stuck wrong_sort
unfolding digits
outcome_071 = refl

-- "odd is changed"
outcome_072 : eval no_item (path_status is_changed (variable (codes "odd")) ([])) ≡ stuck wrong_sort
unfolding digits
outcome_072 = refl

-- "strange is skipped"
outcome_073 : eval no_item (path_status is_skipped (variable (codes "strange")) ([])) ≡ stuck wrong_sort
unfolding digits
outcome_073 = refl

-- "strange is failed"
outcome_074 : eval no_item (path_status is_failed (variable (codes "strange")) ([])) ≡ stuck wrong_sort
unfolding digits
outcome_074 = refl

-- "m is skipped"
outcome_075 : eval no_item (path_status is_skipped (variable (codes "m")) ([])) ≡ stuck wrong_sort
unfolding digits
outcome_075 = refl

-- "l is succeeded"
outcome_076 : eval no_item (negation (path_status is_failed (variable (codes "l")) ([]))) ≡ stuck wrong_sort
unfolding digits
outcome_076 = refl

-- "(n | default(1)) is failed"
outcome_077 : eval no_item (value_status is_failed (path_or (variable (codes "n")) ([]) (literal (int (pos 1))))) ≡ stuck wrong_sort
unfolding digits
outcome_077 = refl

-- "zz | length is defined"
outcome_078 : eval no_item (undefinable (length_of (path (variable (codes "zz")) ([])))) ≡ stuck undefined
unfolding digits
outcome_078 = refl

-- "zz is failed"
outcome_079 : eval no_item (path_status is_failed (variable (codes "zz")) ([])) ≡ stuck undefined
unfolding digits
outcome_079 = refl

-- "r.zz is failed"
outcome_080 : eval no_item (path_status is_failed (variable (codes "r")) ((codes "zz") ∷ [])) ≡ stuck no_field
unfolding digits
outcome_080 = refl

-- "hostvars[item].v is defined"
outcome_081 : eval item_5 (defined (other item_host (codes "v")) ([])) ≡ stuck wrong_sort
unfolding digits
outcome_081 = refl

-- "zz | default(m.zz)"
outcome_082 : eval no_item (path_or (variable (codes "zz")) ([]) (path (variable (codes "m")) ((codes "zz") ∷ []))) ≡ stuck no_field
unfolding digits
outcome_082 = refl

-- "m.zz | default(zz)"
outcome_083 : eval no_item (path_or (variable (codes "m")) ((codes "zz") ∷ []) (path (variable (codes "zz")) ([]))) ≡ stuck undefined
unfolding digits
outcome_083 = refl

-- "(yes and zz) | default(1)"
outcome_084 : eval no_item (value_or (conjunction (expression (path (variable (codes "yes")) ([])) (expression (path (variable (codes "zz")) ([])) (no_expressions)))) (literal (int (pos 1)))) ≡ stuck undefined
unfolding digits
outcome_084 = refl

-- "zz | default(dark)"
outcome_085 : eval no_item (path_or (variable (codes "zz")) ([]) (path (variable (codes "dark")) ([]))) ≡ stuck wrong_sort
unfolding digits
outcome_085 = refl

-- "n | length"
outcome_086 : eval no_item (length_of (path (variable (codes "n")) ([]))) ≡ stuck wrong_sort
unfolding digits
outcome_086 = refl

-- "yes | length"
outcome_087 : eval no_item (length_of (path (variable (codes "yes")) ([]))) ≡ stuck wrong_sort
unfolding digits
outcome_087 = refl

-- "none | length"
outcome_088 : eval no_item (length_of (literal null)) ≡ stuck wrong_sort
unfolding digits
outcome_088 = refl

-- "dark | length"
outcome_089 : eval no_item (length_of (path (variable (codes "dark")) ([]))) ≡ stuck wrong_sort
unfolding digits
outcome_089 = refl

-- "n | join(',')"
outcome_090 : eval no_item (joined_by (path (variable (codes "n")) ([])) (literal (text (codes ",")))) ≡ stuck wrong_sort
unfolding digits
outcome_090 = refl

-- "m | join"
outcome_091 : eval no_item (joined_by (path (variable (codes "m")) ([])) (literal (text []))) ≡ stuck wrong_sort
unfolding digits
outcome_091 = refl

-- "l | join(1)"
outcome_092 : eval no_item (joined_by (path (variable (codes "l")) ([])) (literal (int (pos 1)))) ≡ stuck wrong_sort
unfolding digits
outcome_092 = refl

-- "[m] | join"
outcome_093 : eval no_item (joined_by (list_of (expression (path (variable (codes "m")) ([])) (no_expressions))) (literal (text []))) ≡ stuck wrong_sort
unfolding digits
outcome_093 = refl

-- "[none] | join"
outcome_094 : eval no_item (joined_by (list_of (expression (literal null) (no_expressions))) (literal (text []))) ≡ stuck wrong_sort
unfolding digits
outcome_094 = refl

-- "dark_list | join(',')"
outcome_095 : eval no_item (joined_by (path (variable (codes "dark_list")) ([])) (literal (text (codes ",")))) ≡ stuck wrong_sort
unfolding digits
outcome_095 = refl

-- "zz | length"
outcome_096 : eval no_item (length_of (path (variable (codes "zz")) ([]))) ≡ stuck undefined
unfolding digits
outcome_096 = refl

-- "zz | join"
outcome_097 : eval no_item (joined_by (path (variable (codes "zz")) ([])) (literal (text []))) ≡ stuck undefined
unfolding digits
outcome_097 = refl

-- "l | join(zz)"
outcome_098 : eval no_item (joined_by (path (variable (codes "l")) ([])) (path (variable (codes "zz")) ([]))) ≡ stuck undefined
unfolding digits
outcome_098 = refl

-- "[zz]"
outcome_099 : eval no_item (list_of (expression (path (variable (codes "zz")) ([])) (no_expressions))) ≡ stuck undefined
unfolding digits
outcome_099 = refl

-- "[1, zz]"
outcome_100 : eval no_item (list_of (expression (literal (int (pos 1))) (expression (path (variable (codes "zz")) ([])) (no_expressions)))) ≡ stuck undefined
unfolding digits
outcome_100 = refl

-- "[1, dark]"
outcome_101 : eval no_item (list_of (expression (literal (int (pos 1))) (expression (path (variable (codes "dark")) ([])) (no_expressions)))) ≡ stuck wrong_sort
unfolding digits
outcome_101 = refl

-- "[m.zz]"
outcome_102 : eval no_item (list_of (expression (path (variable (codes "m")) ((codes "zz") ∷ [])) (no_expressions))) ≡ stuck no_field
unfolding digits
outcome_102 = refl

-- "x {{ zz }}"
outcome_103 : eval no_item (concatenation (expression (literal (text (codes "x "))) (expression (path (variable (codes "zz")) ([])) (no_expressions)))) ≡ stuck undefined
unfolding digits
outcome_103 = refl

-- {"a": "{{ zz }}"}
outcome_104 : eval no_item (record_of (part (codes "a") (path (variable (codes "zz")) ([])) (no_parts))) ≡ stuck undefined
unfolding digits
outcome_104 = refl

-- ["{{ n }}", "{{ zz }}"]
outcome_105 : eval no_item (list_of (expression (path (variable (codes "n")) ([])) (expression (path (variable (codes "zz")) ([])) (no_expressions)))) ≡ stuck undefined
unfolding digits
outcome_105 = refl

-- "x {{ m }}"
outcome_106 : eval no_item (concatenation (expression (literal (text (codes "x "))) (expression (path (variable (codes "m")) ([])) (no_expressions)))) ≡ stuck wrong_sort
unfolding digits
outcome_106 = refl

-- "{{ n }}{{ none_there }}"
outcome_107 : eval no_item (concatenation (expression (path (variable (codes "n")) ([])) (expression (path (variable (codes "none_there")) ([])) (no_expressions)))) ≡ stuck wrong_sort
unfolding digits
outcome_107 = refl
