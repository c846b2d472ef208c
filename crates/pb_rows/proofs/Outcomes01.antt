-- What expressions come to, computed.
use Rattle.std.specs.Prelude.{◌≡◌, refl, pos, [], ◌∷◌, true, false, Some, None, codes}
use Rattle.std.specs.Fmt.{digits}
use Rattle.pb_semantics.specs.Data.{null, boolean, int, text, list, rec, opaque, no_items, item, no_fields, field}
use Rattle.pb_language.specs.Expression.{equal, less, at_most, more, at_least, named_host, item_host, group_member, literal, path, hostvars_alone, negation, conjunction, disjunction, comparison, variable, other, member, no_expressions, expression}
use Rattle.pb_language.specs.World.{World}
use Rattle.pb_language.specs.Evaluation.{undefined, no_field, wrong_sort, stuck, eval}

abbrev no_item : World
no_item = record { mine = (field (codes "dark") opaque (field (codes "dark_list") (list (item opaque (no_items))) (field (codes "holds_dark") (rec (field (codes "k") opaque (no_fields))) (field (codes "l") (list (item (int (pos 1)) (item (int (pos 2)) (no_items)))) (field (codes "m") (rec (field (codes "in") (rec (field (codes "x") (text (codes "y")) (no_fields))) (field (codes "k") (int (pos 1)) (no_fields)))) (field (codes "n") (int (pos 3)) (field (codes "names") (list (item (text (codes "a")) (item (text (codes "b")) (no_items)))) (field (codes "none_there") null (field (codes "odd") (rec (field (codes "changed") (boolean true) (field (codes "failed") (text (codes "no")) (no_fields)))) (field (codes "r") (rec (field (codes "changed") (boolean true) (field (codes "failed") (boolean false) (no_fields)))) (field (codes "s") (rec (field (codes "changed") (boolean false) (field (codes "failed") (boolean false) (field (codes "skipped") (boolean true) (no_fields))))) (field (codes "strange") (rec (field (codes "changed") (boolean true) (field (codes "failed") (boolean false) (field (codes "skipped") (text (codes "yes")) (no_fields))))) (field (codes "t") (text (codes "ab")) (field (codes "yes") (boolean true) (no_fields))))))))))))))); this = (codes "a"); hosts = (record { name = (codes "a"); variables = (field (codes "v") (int (pos 1)) (no_fields)) } ∷ record { name = (codes "b"); variables = (field (codes "w") (rec (field (codes "k") (int (pos 2)) (no_fields))) (no_fields)) } ∷ []); batch = ((codes "a") ∷ []); groups = (record { name = (codes "g"); hosts = ((codes "a") ∷ (codes "b") ∷ []) } ∷ []) }

abbrev item_b : World
item_b = record { mine = (field (codes "dark") opaque (field (codes "dark_list") (list (item opaque (no_items))) (field (codes "holds_dark") (rec (field (codes "k") opaque (no_fields))) (field (codes "item") (text (codes "b")) (field (codes "l") (list (item (int (pos 1)) (item (int (pos 2)) (no_items)))) (field (codes "m") (rec (field (codes "in") (rec (field (codes "x") (text (codes "y")) (no_fields))) (field (codes "k") (int (pos 1)) (no_fields)))) (field (codes "n") (int (pos 3)) (field (codes "names") (list (item (text (codes "a")) (item (text (codes "b")) (no_items)))) (field (codes "none_there") null (field (codes "odd") (rec (field (codes "changed") (boolean true) (field (codes "failed") (text (codes "no")) (no_fields)))) (field (codes "r") (rec (field (codes "changed") (boolean true) (field (codes "failed") (boolean false) (no_fields)))) (field (codes "s") (rec (field (codes "changed") (boolean false) (field (codes "failed") (boolean false) (field (codes "skipped") (boolean true) (no_fields))))) (field (codes "strange") (rec (field (codes "changed") (boolean true) (field (codes "failed") (boolean false) (field (codes "skipped") (text (codes "yes")) (no_fields))))) (field (codes "t") (text (codes "ab")) (field (codes "yes") (boolean true) (no_fields)))))))))))))))); this = (codes "a"); hosts = (record { name = (codes "a"); variables = (field (codes "v") (int (pos 1)) (no_fields)) } ∷ record { name = (codes "b"); variables = (field (codes "w") (rec (field (codes "k") (int (pos 2)) (no_fields))) (no_fields)) } ∷ []); batch = ((codes "a") ∷ []); groups = (record { name = (codes "g"); hosts = ((codes "a") ∷ (codes "b") ∷ []) } ∷ []) }

abbrev item_5 : World
item_5 = record { mine = (field (codes "dark") opaque (field (codes "dark_list") (list (item opaque (no_items))) (field (codes "holds_dark") (rec (field (codes "k") opaque (no_fields))) (field (codes "item") (int (pos 5)) (field (codes "l") (list (item (int (pos 1)) (item (int (pos 2)) (no_items)))) (field (codes "m") (rec (field (codes "in") (rec (field (codes "x") (text (codes "y")) (no_fields))) (field (codes "k") (int (pos 1)) (no_fields)))) (field (codes "n") (int (pos 3)) (field (codes "names") (list (item (text (codes "a")) (item (text (codes "b")) (no_items)))) (field (codes "none_there") null (field (codes "odd") (rec (field (codes "changed") (boolean true) (field (codes "failed") (text (codes "no")) (no_fields)))) (field (codes "r") (rec (field (codes "changed") (boolean true) (field (codes "failed") (boolean false) (no_fields)))) (field (codes "s") (rec (field (codes "changed") (boolean false) (field (codes "failed") (boolean false) (field (codes "skipped") (boolean true) (no_fields))))) (field (codes "strange") (rec (field (codes "changed") (boolean true) (field (codes "failed") (boolean false) (field (codes "skipped") (text (codes "yes")) (no_fields))))) (field (codes "t") (text (codes "ab")) (field (codes "yes") (boolean true) (no_fields)))))))))))))))); this = (codes "a"); hosts = (record { name = (codes "a"); variables = (field (codes "v") (int (pos 1)) (no_fields)) } ∷ record { name = (codes "b"); variables = (field (codes "w") (rec (field (codes "k") (int (pos 2)) (no_fields))) (no_fields)) } ∷ []); batch = ((codes "a") ∷ []); groups = (record { name = (codes "g"); hosts = ((codes "a") ∷ (codes "b") ∷ []) } ∷ []) }

abbrev item_dark : World
item_dark = record { mine = (field (codes "dark") opaque (field (codes "dark_list") (list (item opaque (no_items))) (field (codes "holds_dark") (rec (field (codes "k") opaque (no_fields))) (field (codes "item") opaque (field (codes "l") (list (item (int (pos 1)) (item (int (pos 2)) (no_items)))) (field (codes "m") (rec (field (codes "in") (rec (field (codes "x") (text (codes "y")) (no_fields))) (field (codes "k") (int (pos 1)) (no_fields)))) (field (codes "n") (int (pos 3)) (field (codes "names") (list (item (text (codes "a")) (item (text (codes "b")) (no_items)))) (field (codes "none_there") null (field (codes "odd") (rec (field (codes "changed") (boolean true) (field (codes "failed") (text (codes "no")) (no_fields)))) (field (codes "r") (rec (field (codes "changed") (boolean true) (field (codes "failed") (boolean false) (no_fields)))) (field (codes "s") (rec (field (codes "changed") (boolean false) (field (codes "failed") (boolean false) (field (codes "skipped") (boolean true) (no_fields))))) (field (codes "strange") (rec (field (codes "changed") (boolean true) (field (codes "failed") (boolean false) (field (codes "skipped") (text (codes "yes")) (no_fields))))) (field (codes "t") (text (codes "ab")) (field (codes "yes") (boolean true) (no_fields)))))))))))))))); this = (codes "a"); hosts = (record { name = (codes "a"); variables = (field (codes "v") (int (pos 1)) (no_fields)) } ∷ record { name = (codes "b"); variables = (field (codes "w") (rec (field (codes "k") (int (pos 2)) (no_fields))) (no_fields)) } ∷ []); batch = ((codes "a") ∷ []); groups = (record { name = (codes "g"); hosts = ((codes "a") ∷ (codes "b") ∷ []) } ∷ []) }

-- "zz"
outcome_000 : eval no_item (path (variable (codes "zz")) ([])) ≡ stuck undefined
unfolding digits
outcome_000 = refl

-- "zz.a.b"
outcome_001 : eval no_item (path (variable (codes "zz")) ((codes "a") ∷ (codes "b") ∷ [])) ≡ stuck undefined
unfolding digits
outcome_001 = refl

-- "hostvars['b'].zz"
outcome_002 : eval no_item (path (other (named_host (codes "b")) (codes "zz")) ([])) ≡ stuck undefined
unfolding digits
outcome_002 = refl

-- "hostvars['zz'].v"
outcome_003 : eval no_item (path (other (named_host (codes "zz")) (codes "v")) ([])) ≡ stuck undefined
unfolding digits
outcome_003 = refl

-- "hostvars[groups['g'][7]].v"
outcome_004 : eval no_item (path (other (group_member (codes "g") 7) (codes "v")) ([])) ≡ stuck undefined
unfolding digits
outcome_004 = refl

-- "groups['g'][7]"
outcome_005 : eval no_item (path (member (codes "g") 7) ([])) ≡ stuck undefined
unfolding digits
outcome_005 = refl

-- "groups['zz'][0]"
outcome_006 : eval no_item (path (member (codes "zz") 0) ([])) ≡ stuck undefined
unfolding digits
outcome_006 = refl

-- "hostvars[item].w"
outcome_007 : eval no_item (path (other item_host (codes "w")) ([])) ≡ stuck undefined
unfolding digits
outcome_007 = refl

-- "m.zz"
outcome_008 : eval no_item (path (variable (codes "m")) ((codes "zz") ∷ [])) ≡ stuck no_field
unfolding digits
outcome_008 = refl

-- "m.in.zz"
outcome_009 : eval no_item (path (variable (codes "m")) ((codes "in") ∷ (codes "zz") ∷ [])) ≡ stuck no_field
unfolding digits
outcome_009 = refl

-- "hostvars['b'].w.zz"
outcome_010 : eval no_item (path (other (named_host (codes "b")) (codes "w")) ((codes "zz") ∷ [])) ≡ stuck no_field
unfolding digits
outcome_010 = refl

-- "n.k"
outcome_011 : eval no_item (path (variable (codes "n")) ((codes "k") ∷ [])) ≡ stuck wrong_sort
unfolding digits
outcome_011 = refl

-- "t.k"
outcome_012 : eval no_item (path (variable (codes "t")) ((codes "k") ∷ [])) ≡ stuck wrong_sort
unfolding digits
outcome_012 = refl

-- "l.k"
outcome_013 : eval no_item (path (variable (codes "l")) ((codes "k") ∷ [])) ≡ stuck wrong_sort
unfolding digits
outcome_013 = refl

-- "none_there.k"
outcome_014 : eval no_item (path (variable (codes "none_there")) ((codes "k") ∷ [])) ≡ stuck wrong_sort
unfolding digits
outcome_014 = refl

-- "dark.k"
outcome_015 : eval no_item (path (variable (codes "dark")) ((codes "k") ∷ [])) ≡ stuck wrong_sort
unfolding digits
outcome_015 = refl

-- "yes.k"
outcome_016 : eval no_item (path (variable (codes "yes")) ((codes "k") ∷ [])) ≡ stuck wrong_sort
unfolding digits
outcome_016 = refl

-- "m.k.zz"
outcome_017 : eval no_item (path (variable (codes "m")) ((codes "k") ∷ (codes "zz") ∷ [])) ≡ stuck wrong_sort
unfolding digits
outcome_017 = refl

-- "hostvars['a'].v.k"
outcome_018 : eval no_item (path (other (named_host (codes "a")) (codes "v")) ((codes "k") ∷ [])) ≡ stuck wrong_sort
unfolding digits
outcome_018 = refl

-- "hostvars"
outcome_019 : eval no_item (hostvars_alone None) ≡ stuck wrong_sort
unfolding digits
outcome_019 = refl

-- "hostvars['b']"
outcome_020 : eval no_item (hostvars_alone (Some (named_host (codes "b")))) ≡ stuck wrong_sort
unfolding digits
outcome_020 = refl

-- "hostvars[item]"
outcome_021 : eval item_b (hostvars_alone (Some item_host)) ≡ stuck wrong_sort
unfolding digits
outcome_021 = refl

-- "hostvars[item].zz"
outcome_022 : eval item_b (path (other item_host (codes "zz")) ([])) ≡ stuck undefined
unfolding digits
outcome_022 = refl

-- "hostvars[item].w"
outcome_023 : eval item_5 (path (other item_host (codes "w")) ([])) ≡ stuck wrong_sort
unfolding digits
outcome_023 = refl

-- "not n"
outcome_024 : eval no_item (negation (path (variable (codes "n")) ([]))) ≡ stuck wrong_sort
unfolding digits
outcome_024 = refl

-- "not t"
outcome_025 : eval no_item (negation (path (variable (codes "t")) ([]))) ≡ stuck wrong_sort
unfolding digits
outcome_025 = refl

-- "not none"
outcome_026 : eval no_item (negation (literal null)) ≡ stuck wrong_sort
unfolding digits
outcome_026 = refl

-- "not m"
outcome_027 : eval no_item (negation (path (variable (codes "m")) ([]))) ≡ stuck wrong_sort
unfolding digits
outcome_027 = refl

-- "not dark"
outcome_028 : eval no_item (negation (path (variable (codes "dark")) ([]))) ≡ stuck wrong_sort
unfolding digits
outcome_028 = refl

-- "not zz"
outcome_029 : eval no_item (negation (path (variable (codes "zz")) ([]))) ≡ stuck undefined
unfolding digits
outcome_029 = refl

-- "not m.zz"
outcome_030 : eval no_item (negation (path (variable (codes "m")) ((codes "zz") ∷ []))) ≡ stuck no_field
unfolding digits
outcome_030 = refl

-- "zz and yes"
outcome_031 : eval no_item (conjunction (expression (path (variable (codes "zz")) ([])) (expression (path (variable (codes "yes")) ([])) (no_expressions)))) ≡ stuck undefined
unfolding digits
outcome_031 = refl

-- "yes and zz"
outcome_032 : eval no_item (conjunction (expression (path (variable (codes "yes")) ([])) (expression (path (variable (codes "zz")) ([])) (no_expressions)))) ≡ stuck undefined
unfolding digits
outcome_032 = refl

-- "zz or yes"
outcome_033 : eval no_item (disjunction (expression (path (variable (codes "zz")) ([])) (expression (path (variable (codes "yes")) ([])) (no_expressions)))) ≡ stuck undefined
unfolding digits
outcome_033 = refl

-- "n and yes"
outcome_034 : eval no_item (conjunction (expression (path (variable (codes "n")) ([])) (expression (path (variable (codes "yes")) ([])) (no_expressions)))) ≡ stuck wrong_sort
unfolding digits
outcome_034 = refl

-- "yes and n"
outcome_035 : eval no_item (conjunction (expression (path (variable (codes "yes")) ([])) (expression (path (variable (codes "n")) ([])) (no_expressions)))) ≡ stuck wrong_sort
unfolding digits
outcome_035 = refl

-- "yes and t"
outcome_036 : eval no_item (conjunction (expression (path (variable (codes "yes")) ([])) (expression (path (variable (codes "t")) ([])) (no_expressions)))) ≡ stuck wrong_sort
unfolding digits
outcome_036 = refl

-- "not yes or n"
outcome_037 : eval no_item (disjunction (expression (negation (path (variable (codes "yes")) ([]))) (expression (path (variable (codes "n")) ([])) (no_expressions)))) ≡ stuck wrong_sort
unfolding digits
outcome_037 = refl

-- "t or yes"
outcome_038 : eval no_item (disjunction (expression (path (variable (codes "t")) ([])) (expression (path (variable (codes "yes")) ([])) (no_expressions)))) ≡ stuck wrong_sort
unfolding digits
outcome_038 = refl

-- "not yes or m.zz"
outcome_039 : eval no_item (disjunction (expression (negation (path (variable (codes "yes")) ([]))) (expression (path (variable (codes "m")) ((codes "zz") ∷ [])) (no_expressions)))) ≡ stuck no_field
unfolding digits
outcome_039 = refl

-- "zz == 1"
outcome_040 : eval no_item (comparison equal (path (variable (codes "zz")) ([])) (literal (int (pos 1)))) ≡ stuck undefined
unfolding digits
outcome_040 = refl

-- "1 == zz"
outcome_041 : eval no_item (comparison equal (literal (int (pos 1))) (path (variable (codes "zz")) ([]))) ≡ stuck undefined
unfolding digits
outcome_041 = refl

-- "zz < t"
outcome_042 : eval no_item (comparison less (path (variable (codes "zz")) ([])) (path (variable (codes "t")) ([]))) ≡ stuck undefined
unfolding digits
outcome_042 = refl

-- "dark == 1"
outcome_043 : eval no_item (comparison equal (path (variable (codes "dark")) ([])) (literal (int (pos 1)))) ≡ stuck wrong_sort
unfolding digits
outcome_043 = refl

-- "1 == holds_dark"
outcome_044 : eval no_item (comparison equal (literal (int (pos 1))) (path (variable (codes "holds_dark")) ([]))) ≡ stuck wrong_sort
unfolding digits
outcome_044 = refl

-- "dark_list == l"
outcome_045 : eval no_item (comparison equal (path (variable (codes "dark_list")) ([])) (path (variable (codes "l")) ([]))) ≡ stuck wrong_sort
unfolding digits
outcome_045 = refl

-- "m != dark"
outcome_046 : eval no_item (negation (comparison equal (path (variable (codes "m")) ([])) (path (variable (codes "dark")) ([])))) ≡ stuck wrong_sort
unfolding digits
outcome_046 = refl

-- "t < 1"
outcome_047 : eval no_item (comparison less (path (variable (codes "t")) ([])) (literal (int (pos 1)))) ≡ stuck wrong_sort
unfolding digits
outcome_047 = refl

-- "1 < t"
outcome_048 : eval no_item (comparison less (literal (int (pos 1))) (path (variable (codes "t")) ([]))) ≡ stuck wrong_sort
unfolding digits
outcome_048 = refl

-- "'a' < 'b'"
outcome_049 : eval no_item (comparison less (literal (text (codes "a"))) (literal (text (codes "b")))) ≡ stuck wrong_sort
unfolding digits
outcome_049 = refl

-- "l <= l"
outcome_050 : eval no_item (comparison at_most (path (variable (codes "l")) ([])) (path (variable (codes "l")) ([]))) ≡ stuck wrong_sort
unfolding digits
outcome_050 = refl

-- "yes > n"
outcome_051 : eval no_item (comparison more (path (variable (codes "yes")) ([])) (path (variable (codes "n")) ([]))) ≡ stuck wrong_sort
unfolding digits
outcome_051 = refl

-- "none >= 1"
outcome_052 : eval no_item (comparison at_least (literal null) (literal (int (pos 1)))) ≡ stuck wrong_sort
unfolding digits
outcome_052 = refl

-- "n < m.zz"
outcome_053 : eval no_item (comparison less (path (variable (codes "n")) ([])) (path (variable (codes "m")) ((codes "zz") ∷ []))) ≡ stuck no_field
unfolding digits
outcome_053 = refl
