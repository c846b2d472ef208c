-- The trees of expressions of cases, computed.
use Rattle.std.specs.Prelude.{◌≡◌, refl, pos, negsuc, [], ◌∷◌, true, false, Some, None, codes}
use Rattle.pb_semantics.specs.Data.{boolean, int, text}
use Rattle.pb_language.specs.Expression.{equal, less, is_failed, is_changed, is_skipped, this_host, item_host, literal, path, negation, conjunction, disjunction, comparison, defined, path_status, path_or, value_or, joined_by, list_of, variable, other, no_expressions, expression}
use Rattle.pb_language.specs.Grammar.{expression_of}

text_0 : expression_of ([]) ≡ None
text_0 = refl

text_1 : expression_of (codes " ") ≡ None
text_1 = refl

text_2 : expression_of (codes " ((not False)) ") ≡ Some (negation (literal (boolean false)))
text_2 = refl

text_3 : expression_of (codes " ((not r3.failed)) ") ≡ Some (negation (path (variable (codes "r3")) ((codes "failed") ∷ [])))
text_3 = refl

text_4 : expression_of (codes " (1) ") ≡ Some (literal (int (pos 1)))
text_4 = refl

text_5 : expression_of (codes " (9223372036854775807) ") ≡ Some (literal (int (pos 9223372036854775807)))
text_5 = refl

text_6 : expression_of (codes " (True != inventory_hostname) ") ≡ Some (negation (comparison equal (literal (boolean true)) (path (variable (codes "inventory_hostname")) ([]))))
text_6 = refl

text_7 : expression_of (codes " (True) ") ≡ Some (literal (boolean true))
text_7 = refl

text_8 : expression_of (codes " (ansible_facts) == (r3.stderr) ") ≡ Some (comparison equal (path (variable (codes "ansible_facts")) ([])) (path (variable (codes "r3")) ((codes "stderr") ∷ [])))
text_8 = refl

text_9 : expression_of (codes " (ansible_facts.hostname) == (r2.failed) ") ≡ Some (comparison equal (path (variable (codes "ansible_facts")) ((codes "hostname") ∷ [])) (path (variable (codes "r2")) ((codes "failed") ∷ [])))
text_9 = refl

text_10 : expression_of (codes " (ansible_facts.hostname) == (s2) ") ≡ Some (comparison equal (path (variable (codes "ansible_facts")) ((codes "hostname") ∷ [])) (path (variable (codes "s2")) ([])))
text_10 = refl

text_11 : expression_of (codes " (ansible_failed_result.msg) == (ansible_failed_result.msg) ") ≡ Some (comparison equal (path (variable (codes "ansible_failed_result")) ((codes "msg") ∷ [])) (path (variable (codes "ansible_failed_result")) ((codes "msg") ∷ [])))
text_11 = refl

text_12 : expression_of (codes " (ansible_hostname) == (r2.failed) ") ≡ Some (comparison equal (path (variable (codes "ansible_hostname")) ([])) (path (variable (codes "r2")) ((codes "failed") ∷ [])))
text_12 = refl

text_13 : expression_of (codes " (ansible_hostname.msg < 3) and (r.rc is failed) ") ≡ Some (conjunction (expression (comparison less (path (variable (codes "ansible_hostname")) ((codes "msg") ∷ [])) (literal (int (pos 3)))) (expression (path_status is_failed (variable (codes "r")) ((codes "rc") ∷ [])) (no_expressions))))
text_13 = refl

text_14 : expression_of (codes " (ansible_os_family) == (op) ") ≡ Some (comparison equal (path (variable (codes "ansible_os_family")) ([])) (path (variable (codes "op")) ([])))
text_14 = refl

text_15 : expression_of (codes " (ansible_play_batch) == (op) ") ≡ Some (comparison equal (path (variable (codes "ansible_play_batch")) ([])) (path (variable (codes "op")) ([])))
text_15 = refl

text_16 : expression_of (codes " (ansible_play_batch) == (r3) ") ≡ Some (comparison equal (path (variable (codes "ansible_play_batch")) ([])) (path (variable (codes "r3")) ([])))
text_16 = refl

text_17 : expression_of (codes " (ansible_play_batch) or (groups.g < 3) ") ≡ Some (disjunction (expression (path (variable (codes "ansible_play_batch")) ([])) (expression (comparison less (path (variable (codes "groups")) ((codes "g") ∷ [])) (literal (int (pos 3)))) (no_expressions))))
text_17 = refl

text_18 : expression_of (codes " (false == 9223372036854775807) ") ≡ Some (comparison equal (literal (boolean false)) (literal (int (pos 9223372036854775807))))
text_18 = refl

text_19 : expression_of (codes " (false) and group_names ") ≡ Some (conjunction (expression (literal (boolean false)) (expression (path (variable (codes "group_names")) ([])) (no_expressions))))
text_19 = refl

text_20 : expression_of (codes " (group_names == 1) and (s.stat.isdir is skipped) ") ≡ Some (conjunction (expression (comparison equal (path (variable (codes "group_names")) ([])) (literal (int (pos 1)))) (expression (path_status is_skipped (variable (codes "s")) ((codes "stat") ∷ (codes "isdir") ∷ [])) (no_expressions))))
text_20 = refl

text_21 : expression_of (codes " (group_names) ") ≡ Some (path (variable (codes "group_names")) ([]))
text_21 = refl

text_22 : expression_of (codes " (group_names) == (i1) ") ≡ Some (comparison equal (path (variable (codes "group_names")) ([])) (path (variable (codes "i1")) ([])))
text_22 = refl

text_23 : expression_of (codes " (group_names) == (r1.changed) ") ≡ Some (comparison equal (path (variable (codes "group_names")) ([])) (path (variable (codes "r1")) ((codes "changed") ∷ [])))
text_23 = refl

text_24 : expression_of (codes " (group_names.changed is skipped) or (ansible_play_batch.stdout_lines is skipped) ") ≡ Some (disjunction (expression (path_status is_skipped (variable (codes "group_names")) ((codes "changed") ∷ [])) (expression (path_status is_skipped (variable (codes "ansible_play_batch")) ((codes "stdout_lines") ∷ [])) (no_expressions))))
text_24 = refl

text_25 : expression_of (32 ∷ 40 ∷ 103 ∷ 114 ∷ 111 ∷ 117 ∷ 112 ∷ 115 ∷ 46 ∷ 103 ∷ 32 ∷ 105 ∷ 115 ∷ 32 ∷ 102 ∷ 97 ∷ 105 ∷ 108 ∷ 101 ∷ 100 ∷ 41 ∷ 32 ∷ 111 ∷ 114 ∷ 32 ∷ 40 ∷ 104 ∷ 111 ∷ 115 ∷ 116 ∷ 118 ∷ 97 ∷ 114 ∷ 115 ∷ 91 ∷ 105 ∷ 116 ∷ 101 ∷ 109 ∷ 93 ∷ 46 ∷ 105 ∷ 110 ∷ 118 ∷ 32 ∷ 105 ∷ 115 ∷ 32 ∷ 115 ∷ 107 ∷ 105 ∷ 112 ∷ 112 ∷ 101 ∷ 100 ∷ 41 ∷ 32 ∷ []) ≡ Some (disjunction (expression (path_status is_failed (variable (codes "groups")) ((codes "g") ∷ [])) (expression (path_status is_skipped (other item_host (codes "inv")) ([])) (no_expressions))))
text_25 = refl

text_26 : expression_of (32 ∷ 40 ∷ 104 ∷ 111 ∷ 115 ∷ 116 ∷ 118 ∷ 97 ∷ 114 ∷ 115 ∷ 91 ∷ 105 ∷ 110 ∷ 118 ∷ 101 ∷ 110 ∷ 116 ∷ 111 ∷ 114 ∷ 121 ∷ 95 ∷ 104 ∷ 111 ∷ 115 ∷ 116 ∷ 110 ∷ 97 ∷ 109 ∷ 101 ∷ 93 ∷ 46 ∷ 105 ∷ 49 ∷ 46 ∷ 114 ∷ 99 ∷ 41 ∷ 32 ∷ 61 ∷ 61 ∷ 32 ∷ 40 ∷ 97 ∷ 110 ∷ 115 ∷ 105 ∷ 98 ∷ 108 ∷ 101 ∷ 95 ∷ 102 ∷ 97 ∷ 99 ∷ 116 ∷ 115 ∷ 46 ∷ 104 ∷ 111 ∷ 115 ∷ 116 ∷ 110 ∷ 97 ∷ 109 ∷ 101 ∷ 41 ∷ 32 ∷ []) ≡ Some (comparison equal (path (other this_host (codes "i1")) ((codes "rc") ∷ [])) (path (variable (codes "ansible_facts")) ((codes "hostname") ∷ [])))
text_26 = refl

text_27 : expression_of (32 ∷ 40 ∷ 104 ∷ 111 ∷ 115 ∷ 116 ∷ 118 ∷ 97 ∷ 114 ∷ 115 ∷ 91 ∷ 105 ∷ 110 ∷ 118 ∷ 101 ∷ 110 ∷ 116 ∷ 111 ∷ 114 ∷ 121 ∷ 95 ∷ 104 ∷ 111 ∷ 115 ∷ 116 ∷ 110 ∷ 97 ∷ 109 ∷ 101 ∷ 93 ∷ 46 ∷ 114 ∷ 49 ∷ 41 ∷ 32 ∷ 61 ∷ 61 ∷ 32 ∷ 40 ∷ 105 ∷ 50 ∷ 41 ∷ 32 ∷ []) ≡ Some (comparison equal (path (other this_host (codes "r1")) ([])) (path (variable (codes "i2")) ([])))
text_27 = refl

text_28 : expression_of (32 ∷ 40 ∷ 104 ∷ 111 ∷ 115 ∷ 116 ∷ 118 ∷ 97 ∷ 114 ∷ 115 ∷ 91 ∷ 105 ∷ 116 ∷ 101 ∷ 109 ∷ 93 ∷ 46 ∷ 105 ∷ 50 ∷ 41 ∷ 32 ∷ 61 ∷ 61 ∷ 32 ∷ 40 ∷ 114 ∷ 51 ∷ 46 ∷ 99 ∷ 104 ∷ 97 ∷ 110 ∷ 103 ∷ 101 ∷ 100 ∷ 41 ∷ 32 ∷ []) ≡ Some (comparison equal (path (other item_host (codes "i2")) ([])) (path (variable (codes "r3")) ((codes "changed") ∷ [])))
text_28 = refl

text_29 : expression_of (32 ∷ 40 ∷ 104 ∷ 111 ∷ 115 ∷ 116 ∷ 118 ∷ 97 ∷ 114 ∷ 115 ∷ 91 ∷ 105 ∷ 116 ∷ 101 ∷ 109 ∷ 93 ∷ 46 ∷ 105 ∷ 110 ∷ 118 ∷ 32 ∷ 105 ∷ 115 ∷ 32 ∷ 110 ∷ 111 ∷ 116 ∷ 32 ∷ 100 ∷ 101 ∷ 102 ∷ 105 ∷ 110 ∷ 101 ∷ 100 ∷ 41 ∷ 32 ∷ 97 ∷ 110 ∷ 100 ∷ 32 ∷ 40 ∷ 104 ∷ 111 ∷ 115 ∷ 116 ∷ 118 ∷ 97 ∷ 114 ∷ 115 ∷ 91 ∷ 105 ∷ 110 ∷ 118 ∷ 101 ∷ 110 ∷ 116 ∷ 111 ∷ 114 ∷ 121 ∷ 95 ∷ 104 ∷ 111 ∷ 115 ∷ 116 ∷ 110 ∷ 97 ∷ 109 ∷ 101 ∷ 93 ∷ 46 ∷ 105 ∷ 110 ∷ 118 ∷ 32 ∷ 105 ∷ 115 ∷ 32 ∷ 110 ∷ 111 ∷ 116 ∷ 32 ∷ 115 ∷ 107 ∷ 105 ∷ 112 ∷ 112 ∷ 101 ∷ 100 ∷ 41 ∷ 32 ∷ []) ≡ Some (conjunction (expression (negation (defined (other item_host (codes "inv")) ([]))) (expression (negation (path_status is_skipped (other this_host (codes "inv")) ([]))) (no_expressions))))
text_29 = refl

text_30 : expression_of (32 ∷ 40 ∷ 104 ∷ 111 ∷ 115 ∷ 116 ∷ 118 ∷ 97 ∷ 114 ∷ 115 ∷ 91 ∷ 105 ∷ 116 ∷ 101 ∷ 109 ∷ 93 ∷ 46 ∷ 111 ∷ 112 ∷ 113 ∷ 46 ∷ 115 ∷ 116 ∷ 100 ∷ 111 ∷ 117 ∷ 116 ∷ 32 ∷ 105 ∷ 115 ∷ 32 ∷ 110 ∷ 111 ∷ 116 ∷ 32 ∷ 115 ∷ 107 ∷ 105 ∷ 112 ∷ 112 ∷ 101 ∷ 100 ∷ 41 ∷ 32 ∷ 111 ∷ 114 ∷ 32 ∷ 40 ∷ 114 ∷ 46 ∷ 99 ∷ 104 ∷ 97 ∷ 110 ∷ 103 ∷ 101 ∷ 100 ∷ 32 ∷ 105 ∷ 115 ∷ 32 ∷ 99 ∷ 104 ∷ 97 ∷ 110 ∷ 103 ∷ 101 ∷ 100 ∷ 41 ∷ 32 ∷ []) ≡ Some (disjunction (expression (negation (path_status is_skipped (other item_host (codes "opq")) ((codes "stdout") ∷ []))) (expression (path_status is_changed (variable (codes "r")) ((codes "changed") ∷ [])) (no_expressions))))
text_30 = refl

text_31 : expression_of (32 ∷ 40 ∷ 104 ∷ 111 ∷ 115 ∷ 116 ∷ 118 ∷ 97 ∷ 114 ∷ 115 ∷ 91 ∷ 105 ∷ 116 ∷ 101 ∷ 109 ∷ 93 ∷ 46 ∷ 114 ∷ 49 ∷ 41 ∷ 32 ∷ 61 ∷ 61 ∷ 32 ∷ 40 ∷ 114 ∷ 49 ∷ 46 ∷ 114 ∷ 101 ∷ 115 ∷ 117 ∷ 108 ∷ 116 ∷ 115 ∷ 41 ∷ 32 ∷ []) ≡ Some (comparison equal (path (other item_host (codes "r1")) ([])) (path (variable (codes "r1")) ((codes "results") ∷ [])))
text_31 = refl

text_32 : expression_of (32 ∷ 40 ∷ 104 ∷ 111 ∷ 115 ∷ 116 ∷ 118 ∷ 97 ∷ 114 ∷ 115 ∷ 91 ∷ 105 ∷ 116 ∷ 101 ∷ 109 ∷ 93 ∷ 46 ∷ 114 ∷ 49 ∷ 46 ∷ 99 ∷ 104 ∷ 97 ∷ 110 ∷ 103 ∷ 101 ∷ 100 ∷ 41 ∷ 32 ∷ 61 ∷ 61 ∷ 32 ∷ 40 ∷ 114 ∷ 50 ∷ 46 ∷ 102 ∷ 97 ∷ 105 ∷ 108 ∷ 101 ∷ 100 ∷ 41 ∷ 32 ∷ []) ≡ Some (comparison equal (path (other item_host (codes "r1")) ((codes "changed") ∷ [])) (path (variable (codes "r2")) ((codes "failed") ∷ [])))
text_32 = refl

text_33 : expression_of (32 ∷ 40 ∷ 104 ∷ 111 ∷ 115 ∷ 116 ∷ 118 ∷ 97 ∷ 114 ∷ 115 ∷ 91 ∷ 105 ∷ 116 ∷ 101 ∷ 109 ∷ 93 ∷ 46 ∷ 114 ∷ 49 ∷ 46 ∷ 102 ∷ 97 ∷ 105 ∷ 108 ∷ 101 ∷ 100 ∷ 41 ∷ 32 ∷ 61 ∷ 61 ∷ 32 ∷ 40 ∷ 114 ∷ 49 ∷ 46 ∷ 102 ∷ 97 ∷ 105 ∷ 108 ∷ 101 ∷ 100 ∷ 41 ∷ 32 ∷ []) ≡ Some (comparison equal (path (other item_host (codes "r1")) ((codes "failed") ∷ [])) (path (variable (codes "r1")) ((codes "failed") ∷ [])))
text_33 = refl

text_34 : expression_of (32 ∷ 40 ∷ 104 ∷ 111 ∷ 115 ∷ 116 ∷ 118 ∷ 97 ∷ 114 ∷ 115 ∷ 91 ∷ 105 ∷ 116 ∷ 101 ∷ 109 ∷ 93 ∷ 46 ∷ 114 ∷ 50 ∷ 46 ∷ 99 ∷ 104 ∷ 97 ∷ 110 ∷ 103 ∷ 101 ∷ 100 ∷ 41 ∷ 32 ∷ 61 ∷ 61 ∷ 32 ∷ 40 ∷ 105 ∷ 116 ∷ 101 ∷ 109 ∷ 46 ∷ 114 ∷ 99 ∷ 41 ∷ 32 ∷ []) ≡ Some (comparison equal (path (other item_host (codes "r2")) ((codes "changed") ∷ [])) (path (variable (codes "item")) ((codes "rc") ∷ [])))
text_34 = refl

text_35 : expression_of (32 ∷ 40 ∷ 104 ∷ 111 ∷ 115 ∷ 116 ∷ 118 ∷ 97 ∷ 114 ∷ 115 ∷ 91 ∷ 105 ∷ 116 ∷ 101 ∷ 109 ∷ 93 ∷ 46 ∷ 114 ∷ 50 ∷ 46 ∷ 115 ∷ 116 ∷ 100 ∷ 101 ∷ 114 ∷ 114 ∷ 41 ∷ 32 ∷ 61 ∷ 61 ∷ 32 ∷ 40 ∷ 114 ∷ 51 ∷ 46 ∷ 115 ∷ 116 ∷ 100 ∷ 111 ∷ 117 ∷ 116 ∷ 95 ∷ 108 ∷ 105 ∷ 110 ∷ 101 ∷ 115 ∷ 41 ∷ 32 ∷ []) ≡ Some (comparison equal (path (other item_host (codes "r2")) ((codes "stderr") ∷ [])) (path (variable (codes "r3")) ((codes "stdout_lines") ∷ [])))
text_35 = refl

text_36 : expression_of (32 ∷ 40 ∷ 104 ∷ 111 ∷ 115 ∷ 116 ∷ 118 ∷ 97 ∷ 114 ∷ 115 ∷ 91 ∷ 105 ∷ 116 ∷ 101 ∷ 109 ∷ 93 ∷ 46 ∷ 114 ∷ 51 ∷ 41 ∷ 32 ∷ 61 ∷ 61 ∷ 32 ∷ 40 ∷ 115 ∷ 50 ∷ 41 ∷ 32 ∷ []) ≡ Some (comparison equal (path (other item_host (codes "r3")) ([])) (path (variable (codes "s2")) ([])))
text_36 = refl

text_37 : expression_of (codes " (i1) == (ansible_play_batch) ") ≡ Some (comparison equal (path (variable (codes "i1")) ([])) (path (variable (codes "ansible_play_batch")) ([])))
text_37 = refl

text_38 : expression_of (codes " (i1) == (r1.skipped) ") ≡ Some (comparison equal (path (variable (codes "i1")) ([])) (path (variable (codes "r1")) ((codes "skipped") ∷ [])))
text_38 = refl

text_39 : expression_of (codes " (i1) == (r2.ping) ") ≡ Some (comparison equal (path (variable (codes "i1")) ([])) (path (variable (codes "r2")) ((codes "ping") ∷ [])))
text_39 = refl

text_40 : expression_of (codes " (i2) == (ansible_os_family) ") ≡ Some (comparison equal (path (variable (codes "i2")) ([])) (path (variable (codes "ansible_os_family")) ([])))
text_40 = refl

text_41 : expression_of (codes " (i2) == (r1.failed) ") ≡ Some (comparison equal (path (variable (codes "i2")) ([])) (path (variable (codes "r1")) ((codes "failed") ∷ [])))
text_41 = refl

text_42 : expression_of (codes " (i2) == (r2.changed) ") ≡ Some (comparison equal (path (variable (codes "i2")) ([])) (path (variable (codes "r2")) ((codes "changed") ∷ [])))
text_42 = refl

text_43 : expression_of (codes " (i2) == (r3) ") ≡ Some (comparison equal (path (variable (codes "i2")) ([])) (path (variable (codes "r3")) ([])))
text_43 = refl

text_44 : expression_of (codes " (i2) == (s1) ") ≡ Some (comparison equal (path (variable (codes "i2")) ([])) (path (variable (codes "s1")) ([])))
text_44 = refl

text_45 : expression_of (codes " (i2) == (s1.changed) ") ≡ Some (comparison equal (path (variable (codes "i2")) ([])) (path (variable (codes "s1")) ((codes "changed") ∷ [])))
text_45 = refl

text_46 : expression_of (codes " (inv is changed) and (y is skipped) ") ≡ Some (conjunction (expression (path_status is_changed (variable (codes "inv")) ([])) (expression (path_status is_skipped (variable (codes "y")) ([])) (no_expressions))))
text_46 = refl

text_47 : expression_of (codes " (inventory_hostname) == (r1.failed) ") ≡ Some (comparison equal (path (variable (codes "inventory_hostname")) ([])) (path (variable (codes "r1")) ((codes "failed") ∷ [])))
text_47 = refl

text_48 : expression_of (codes " (inventory_hostname.os_family is skipped) and (inv.stat.isdir == 1) ") ≡ Some (conjunction (expression (path_status is_skipped (variable (codes "inventory_hostname")) ((codes "os_family") ∷ [])) (expression (comparison equal (path (variable (codes "inv")) ((codes "stat") ∷ (codes "isdir") ∷ [])) (literal (int (pos 1)))) (no_expressions))))
text_48 = refl

text_49 : expression_of (codes " (item) == (r3.rc) ") ≡ Some (comparison equal (path (variable (codes "item")) ([])) (path (variable (codes "r3")) ((codes "rc") ∷ [])))
text_49 = refl

text_50 : expression_of (codes " (item) == (s3) ") ≡ Some (comparison equal (path (variable (codes "item")) ([])) (path (variable (codes "s3")) ([])))
text_50 = refl

text_51 : expression_of (codes " (item.os_family is changed) and (y is changed) ") ≡ Some (conjunction (expression (path_status is_changed (variable (codes "item")) ((codes "os_family") ∷ [])) (expression (path_status is_changed (variable (codes "y")) ([])) (no_expressions))))
text_51 = refl

text_52 : expression_of (32 ∷ 40 ∷ 105 ∷ 116 ∷ 101 ∷ 109 ∷ 46 ∷ 114 ∷ 99 ∷ 41 ∷ 32 ∷ 61 ∷ 61 ∷ 32 ∷ 40 ∷ 104 ∷ 111 ∷ 115 ∷ 116 ∷ 118 ∷ 97 ∷ 114 ∷ 115 ∷ 91 ∷ 105 ∷ 116 ∷ 101 ∷ 109 ∷ 93 ∷ 46 ∷ 114 ∷ 49 ∷ 46 ∷ 102 ∷ 97 ∷ 105 ∷ 108 ∷ 101 ∷ 100 ∷ 41 ∷ 32 ∷ []) ≡ Some (comparison equal (path (variable (codes "item")) ((codes "rc") ∷ [])) (path (other item_host (codes "r1")) ((codes "failed") ∷ [])))
text_52 = refl

text_53 : expression_of (codes " (item.rc) == (s1.rc) ") ≡ Some (comparison equal (path (variable (codes "item")) ((codes "rc") ∷ [])) (path (variable (codes "s1")) ((codes "rc") ∷ [])))
text_53 = refl

text_54 : expression_of (codes " (nope.x) ") ≡ Some (path (variable (codes "nope")) ((codes "x") ∷ []))
text_54 = refl

text_55 : expression_of (codes " (not 1) == zz ") ≡ Some (comparison equal (negation (literal (int (pos 1)))) (path (variable (codes "zz")) ([])))
text_55 = refl

text_56 : expression_of (codes " (not not r1.changed) ") ≡ Some (negation (negation (path (variable (codes "r1")) ((codes "changed") ∷ []))))
text_56 = refl

text_57 : expression_of (codes " (not r2.f or nope.x) ") ≡ Some (disjunction (expression (negation (path (variable (codes "r2")) ((codes "f") ∷ []))) (expression (path (variable (codes "nope")) ((codes "x") ∷ [])) (no_expressions))))
text_57 = refl

text_58 : expression_of (codes " (op) == (ansible_os_family) ") ≡ Some (comparison equal (path (variable (codes "op")) ([])) (path (variable (codes "ansible_os_family")) ([])))
text_58 = refl

text_59 : expression_of (codes " (op) == (r2) ") ≡ Some (comparison equal (path (variable (codes "op")) ([])) (path (variable (codes "r2")) ([])))
text_59 = refl

text_60 : expression_of (codes " (op) == (r2.changed) ") ≡ Some (comparison equal (path (variable (codes "op")) ([])) (path (variable (codes "r2")) ((codes "changed") ∷ [])))
text_60 = refl

text_61 : expression_of (codes " (op) == (r2.msg) ") ≡ Some (comparison equal (path (variable (codes "op")) ([])) (path (variable (codes "r2")) ((codes "msg") ∷ [])))
text_61 = refl

text_62 : expression_of (codes " (op) == (r2.stat.exists) ") ≡ Some (comparison equal (path (variable (codes "op")) ([])) (path (variable (codes "r2")) ((codes "stat") ∷ (codes "exists") ∷ [])))
text_62 = refl

text_63 : expression_of (codes " (op) == (r2.stderr) ") ≡ Some (comparison equal (path (variable (codes "op")) ([])) (path (variable (codes "r2")) ((codes "stderr") ∷ [])))
text_63 = refl

text_64 : expression_of (codes " (op.rc) == (r2.results) ") ≡ Some (comparison equal (path (variable (codes "op")) ((codes "rc") ∷ [])) (path (variable (codes "r2")) ((codes "results") ∷ [])))
text_64 = refl

text_65 : expression_of (codes " (r.changed is not skipped) and (y.stdout is defined) ") ≡ Some (conjunction (expression (negation (path_status is_skipped (variable (codes "r")) ((codes "changed") ∷ []))) (expression (defined (variable (codes "y")) ((codes "stdout") ∷ [])) (no_expressions))))
text_65 = refl

text_66 : expression_of (codes " (r.changed is succeeded) or (inventory_hostname == 1) ") ≡ Some (disjunction (expression (negation (path_status is_failed (variable (codes "r")) ((codes "changed") ∷ []))) (expression (comparison equal (path (variable (codes "inventory_hostname")) ([])) (literal (int (pos 1)))) (no_expressions))))
text_66 = refl

text_67 : expression_of (codes " (r.changed is undefined) and (r.results < 3) ") ≡ Some (conjunction (expression (negation (defined (variable (codes "r")) ((codes "changed") ∷ []))) (expression (comparison less (path (variable (codes "r")) ((codes "results") ∷ [])) (literal (int (pos 3)))) (no_expressions))))
text_67 = refl

text_68 : expression_of (codes " (r.results is defined) and (y is not skipped) ") ≡ Some (conjunction (expression (defined (variable (codes "r")) ((codes "results") ∷ [])) (expression (negation (path_status is_skipped (variable (codes "y")) ([]))) (no_expressions))))
text_68 = refl

text_69 : expression_of (codes " (r.results is not skipped) and (item.k is failed) ") ≡ Some (conjunction (expression (negation (path_status is_skipped (variable (codes "r")) ((codes "results") ∷ []))) (expression (path_status is_failed (variable (codes "item")) ((codes "k") ∷ [])) (no_expressions))))
text_69 = refl

text_70 : expression_of (codes " (r1) ") ≡ Some (path (variable (codes "r1")) ([]))
text_70 = refl

text_71 : expression_of (codes " (r1) == (ansible_failed_result.msg) ") ≡ Some (comparison equal (path (variable (codes "r1")) ([])) (path (variable (codes "ansible_failed_result")) ((codes "msg") ∷ [])))
text_71 = refl

text_72 : expression_of (32 ∷ 40 ∷ 114 ∷ 49 ∷ 41 ∷ 32 ∷ 61 ∷ 61 ∷ 32 ∷ 40 ∷ 104 ∷ 111 ∷ 115 ∷ 116 ∷ 118 ∷ 97 ∷ 114 ∷ 115 ∷ 91 ∷ 105 ∷ 110 ∷ 118 ∷ 101 ∷ 110 ∷ 116 ∷ 111 ∷ 114 ∷ 121 ∷ 95 ∷ 104 ∷ 111 ∷ 115 ∷ 116 ∷ 110 ∷ 97 ∷ 109 ∷ 101 ∷ 93 ∷ 46 ∷ 115 ∷ 50 ∷ 41 ∷ 32 ∷ []) ≡ Some (comparison equal (path (variable (codes "r1")) ([])) (path (other this_host (codes "s2")) ([])))
text_72 = refl

text_73 : expression_of (codes " (r1) == (i1) ") ≡ Some (comparison equal (path (variable (codes "r1")) ([])) (path (variable (codes "i1")) ([])))
text_73 = refl

text_74 : expression_of (codes " (r1) == (s2.g) ") ≡ Some (comparison equal (path (variable (codes "r1")) ([])) (path (variable (codes "s2")) ((codes "g") ∷ [])))
text_74 = refl

text_75 : expression_of (codes " (r1.changed) == (r1.failed) ") ≡ Some (comparison equal (path (variable (codes "r1")) ((codes "changed") ∷ [])) (path (variable (codes "r1")) ((codes "failed") ∷ [])))
text_75 = refl

text_76 : expression_of (codes " (r1.changed) == (r3.failed) ") ≡ Some (comparison equal (path (variable (codes "r1")) ((codes "changed") ∷ [])) (path (variable (codes "r3")) ((codes "failed") ∷ [])))
text_76 = refl

text_77 : expression_of (codes " (r1.changed) == (s3.stdout) ") ≡ Some (comparison equal (path (variable (codes "r1")) ((codes "changed") ∷ [])) (path (variable (codes "s3")) ((codes "stdout") ∷ [])))
text_77 = refl

text_78 : expression_of (codes " (r1.changed) == (v3.changed) ") ≡ Some (comparison equal (path (variable (codes "r1")) ((codes "changed") ∷ [])) (path (variable (codes "v3")) ((codes "changed") ∷ [])))
text_78 = refl

text_79 : expression_of (codes " (r1.failed) == (ansible_facts.hostname) ") ≡ Some (comparison equal (path (variable (codes "r1")) ((codes "failed") ∷ [])) (path (variable (codes "ansible_facts")) ((codes "hostname") ∷ [])))
text_79 = refl

text_80 : expression_of (codes " (r1.failed) == (ansible_failed_result.msg) ") ≡ Some (comparison equal (path (variable (codes "r1")) ((codes "failed") ∷ [])) (path (variable (codes "ansible_failed_result")) ((codes "msg") ∷ [])))
text_80 = refl

text_81 : expression_of (codes " (r1.failed) == (r2) ") ≡ Some (comparison equal (path (variable (codes "r1")) ((codes "failed") ∷ [])) (path (variable (codes "r2")) ([])))
text_81 = refl

text_82 : expression_of (codes " (r1.failed) == (r2.failed) ") ≡ Some (comparison equal (path (variable (codes "r1")) ((codes "failed") ∷ [])) (path (variable (codes "r2")) ((codes "failed") ∷ [])))
text_82 = refl

text_83 : expression_of (codes " (r1.failed) == (r3) ") ≡ Some (comparison equal (path (variable (codes "r1")) ((codes "failed") ∷ [])) (path (variable (codes "r3")) ([])))
text_83 = refl

text_84 : expression_of (codes " (r1.msg) == (r2.skip_reason) ") ≡ Some (comparison equal (path (variable (codes "r1")) ((codes "msg") ∷ [])) (path (variable (codes "r2")) ((codes "skip_reason") ∷ [])))
text_84 = refl

text_85 : expression_of (codes " (r1.skip_reason) == (groups.all) ") ≡ Some (comparison equal (path (variable (codes "r1")) ((codes "skip_reason") ∷ [])) (path (variable (codes "groups")) ((codes "all") ∷ [])))
text_85 = refl

text_86 : expression_of (codes " (r1.skip_reason) == (op) ") ≡ Some (comparison equal (path (variable (codes "r1")) ((codes "skip_reason") ∷ [])) (path (variable (codes "op")) ([])))
text_86 = refl

text_87 : expression_of (32 ∷ 40 ∷ 114 ∷ 49 ∷ 46 ∷ 115 ∷ 107 ∷ 105 ∷ 112 ∷ 112 ∷ 101 ∷ 100 ∷ 41 ∷ 32 ∷ 61 ∷ 61 ∷ 32 ∷ 40 ∷ 104 ∷ 111 ∷ 115 ∷ 116 ∷ 118 ∷ 97 ∷ 114 ∷ 115 ∷ 91 ∷ 105 ∷ 110 ∷ 118 ∷ 101 ∷ 110 ∷ 116 ∷ 111 ∷ 114 ∷ 121 ∷ 95 ∷ 104 ∷ 111 ∷ 115 ∷ 116 ∷ 110 ∷ 97 ∷ 109 ∷ 101 ∷ 93 ∷ 46 ∷ 114 ∷ 51 ∷ 41 ∷ 32 ∷ []) ≡ Some (comparison equal (path (variable (codes "r1")) ((codes "skipped") ∷ [])) (path (other this_host (codes "r3")) ([])))
text_87 = refl

text_88 : expression_of (codes " (r1.skipped) == (r1) ") ≡ Some (comparison equal (path (variable (codes "r1")) ((codes "skipped") ∷ [])) (path (variable (codes "r1")) ([])))
text_88 = refl

text_89 : expression_of (codes " (r1.stderr) == (r2.stdout_lines) ") ≡ Some (comparison equal (path (variable (codes "r1")) ((codes "stderr") ∷ [])) (path (variable (codes "r2")) ((codes "stdout_lines") ∷ [])))
text_89 = refl

text_90 : expression_of (codes " (r1.stdout) == (i2) ") ≡ Some (comparison equal (path (variable (codes "r1")) ((codes "stdout") ∷ [])) (path (variable (codes "i2")) ([])))
text_90 = refl

text_91 : expression_of (codes " (r2) == (ansible_facts.hostname) ") ≡ Some (comparison equal (path (variable (codes "r2")) ([])) (path (variable (codes "ansible_facts")) ((codes "hostname") ∷ [])))
text_91 = refl

text_92 : expression_of (codes " (r2) == (r1.changed) ") ≡ Some (comparison equal (path (variable (codes "r2")) ([])) (path (variable (codes "r1")) ((codes "changed") ∷ [])))
text_92 = refl

text_93 : expression_of (codes " (r2) == (r3.changed) ") ≡ Some (comparison equal (path (variable (codes "r2")) ([])) (path (variable (codes "r3")) ((codes "changed") ∷ [])))
text_93 = refl

text_94 : expression_of (codes " (r2) == (r3.failed) ") ≡ Some (comparison equal (path (variable (codes "r2")) ([])) (path (variable (codes "r3")) ((codes "failed") ∷ [])))
text_94 = refl

text_95 : expression_of (codes " (r2) == (s1) ") ≡ Some (comparison equal (path (variable (codes "r2")) ([])) (path (variable (codes "s1")) ([])))
text_95 = refl

text_96 : expression_of (codes " (r2) == (s1.stdout) ") ≡ Some (comparison equal (path (variable (codes "r2")) ([])) (path (variable (codes "s1")) ((codes "stdout") ∷ [])))
text_96 = refl

text_97 : expression_of (codes " (r2.changed) == (ansible_failed_result.msg) ") ≡ Some (comparison equal (path (variable (codes "r2")) ((codes "changed") ∷ [])) (path (variable (codes "ansible_failed_result")) ((codes "msg") ∷ [])))
text_97 = refl

text_98 : expression_of (codes " (r2.changed) == (ansible_play_batch) ") ≡ Some (comparison equal (path (variable (codes "r2")) ((codes "changed") ∷ [])) (path (variable (codes "ansible_play_batch")) ([])))
text_98 = refl

text_99 : expression_of (codes " (r2.changed) == (item.f) ") ≡ Some (comparison equal (path (variable (codes "r2")) ((codes "changed") ∷ [])) (path (variable (codes "item")) ((codes "f") ∷ [])))
text_99 = refl

text_100 : expression_of (codes " (r2.changed) == (r2.failed) ") ≡ Some (comparison equal (path (variable (codes "r2")) ((codes "changed") ∷ [])) (path (variable (codes "r2")) ((codes "failed") ∷ [])))
text_100 = refl

text_101 : expression_of (codes " (r2.changed) == (s1) ") ≡ Some (comparison equal (path (variable (codes "r2")) ((codes "changed") ∷ [])) (path (variable (codes "s1")) ([])))
text_101 = refl

text_102 : expression_of (codes " (r2.deep) == (i1.stdout) ") ≡ Some (comparison equal (path (variable (codes "r2")) ((codes "deep") ∷ [])) (path (variable (codes "i1")) ((codes "stdout") ∷ [])))
text_102 = refl

text_103 : expression_of (codes " (r2.failed) == (ansible_failed_result.msg) ") ≡ Some (comparison equal (path (variable (codes "r2")) ((codes "failed") ∷ [])) (path (variable (codes "ansible_failed_result")) ((codes "msg") ∷ [])))
text_103 = refl

text_104 : expression_of (codes " (r2.failed) == (r3.changed) ") ≡ Some (comparison equal (path (variable (codes "r2")) ((codes "failed") ∷ [])) (path (variable (codes "r3")) ((codes "changed") ∷ [])))
text_104 = refl

text_105 : expression_of (codes " (r2.failed) == (s3) ") ≡ Some (comparison equal (path (variable (codes "r2")) ((codes "failed") ∷ [])) (path (variable (codes "s3")) ([])))
text_105 = refl

text_106 : expression_of (codes " (r2.msg) == (s1.changed) ") ≡ Some (comparison equal (path (variable (codes "r2")) ((codes "msg") ∷ [])) (path (variable (codes "s1")) ((codes "changed") ∷ [])))
text_106 = refl

text_107 : expression_of (codes " (r2.skipped) == (group_names) ") ≡ Some (comparison equal (path (variable (codes "r2")) ((codes "skipped") ∷ [])) (path (variable (codes "group_names")) ([])))
text_107 = refl

text_108 : expression_of (codes " (r2.skipped) == (i1) ") ≡ Some (comparison equal (path (variable (codes "r2")) ((codes "skipped") ∷ [])) (path (variable (codes "i1")) ([])))
text_108 = refl

text_109 : expression_of (codes " (r2.skipped) == (r2.changed) ") ≡ Some (comparison equal (path (variable (codes "r2")) ((codes "skipped") ∷ [])) (path (variable (codes "r2")) ((codes "changed") ∷ [])))
text_109 = refl

text_110 : expression_of (codes " (r2.stderr) == (r2.rc) ") ≡ Some (comparison equal (path (variable (codes "r2")) ((codes "stderr") ∷ [])) (path (variable (codes "r2")) ((codes "rc") ∷ [])))
text_110 = refl

text_111 : expression_of (codes " (r3) == (ansible_facts) ") ≡ Some (comparison equal (path (variable (codes "r3")) ([])) (path (variable (codes "ansible_facts")) ([])))
text_111 = refl

text_112 : expression_of (codes " (r3) == (i1) ") ≡ Some (comparison equal (path (variable (codes "r3")) ([])) (path (variable (codes "i1")) ([])))
text_112 = refl

text_113 : expression_of (codes " (r3) == (r1) ") ≡ Some (comparison equal (path (variable (codes "r3")) ([])) (path (variable (codes "r1")) ([])))
text_113 = refl

text_114 : expression_of (codes " (r3) == (r1.changed) ") ≡ Some (comparison equal (path (variable (codes "r3")) ([])) (path (variable (codes "r1")) ((codes "changed") ∷ [])))
text_114 = refl

text_115 : expression_of (codes " (r3) == (r2.failed) ") ≡ Some (comparison equal (path (variable (codes "r3")) ([])) (path (variable (codes "r2")) ((codes "failed") ∷ [])))
text_115 = refl

text_116 : expression_of (codes " (r3) == (r2.results) ") ≡ Some (comparison equal (path (variable (codes "r3")) ([])) (path (variable (codes "r2")) ((codes "results") ∷ [])))
text_116 = refl

text_117 : expression_of (codes " (r3) == (r3.changed) ") ≡ Some (comparison equal (path (variable (codes "r3")) ([])) (path (variable (codes "r3")) ((codes "changed") ∷ [])))
text_117 = refl

text_118 : expression_of (codes " (r3) == (r3.rc) ") ≡ Some (comparison equal (path (variable (codes "r3")) ([])) (path (variable (codes "r3")) ((codes "rc") ∷ [])))
text_118 = refl

text_119 : expression_of (codes " (r3.changed) == (ansible_hostname) ") ≡ Some (comparison equal (path (variable (codes "r3")) ((codes "changed") ∷ [])) (path (variable (codes "ansible_hostname")) ([])))
text_119 = refl

text_120 : expression_of (codes " (r3.changed) == (group_names) ") ≡ Some (comparison equal (path (variable (codes "r3")) ((codes "changed") ∷ [])) (path (variable (codes "group_names")) ([])))
text_120 = refl

text_121 : expression_of (codes " (r3.changed) == (i1) ") ≡ Some (comparison equal (path (variable (codes "r3")) ((codes "changed") ∷ [])) (path (variable (codes "i1")) ([])))
text_121 = refl

text_122 : expression_of (codes " (r3.changed) == (r2) ") ≡ Some (comparison equal (path (variable (codes "r3")) ((codes "changed") ∷ [])) (path (variable (codes "r2")) ([])))
text_122 = refl

text_123 : expression_of (codes " (r3.changed) == (r3) ") ≡ Some (comparison equal (path (variable (codes "r3")) ((codes "changed") ∷ [])) (path (variable (codes "r3")) ([])))
text_123 = refl

text_124 : expression_of (codes " (r3.changed) == (r3.changed) ") ≡ Some (comparison equal (path (variable (codes "r3")) ((codes "changed") ∷ [])) (path (variable (codes "r3")) ((codes "changed") ∷ [])))
text_124 = refl

text_125 : expression_of (codes " (r3.changed) == (r3.failed) ") ≡ Some (comparison equal (path (variable (codes "r3")) ((codes "changed") ∷ [])) (path (variable (codes "r3")) ((codes "failed") ∷ [])))
text_125 = refl

text_126 : expression_of (codes " (r3.changed) == (r3.stat.size) ") ≡ Some (comparison equal (path (variable (codes "r3")) ((codes "changed") ∷ [])) (path (variable (codes "r3")) ((codes "stat") ∷ (codes "size") ∷ [])))
text_126 = refl

text_127 : expression_of (codes " (r3.deep.b) == (r2.failed) ") ≡ Some (comparison equal (path (variable (codes "r3")) ((codes "deep") ∷ (codes "b") ∷ [])) (path (variable (codes "r2")) ((codes "failed") ∷ [])))
text_127 = refl

text_128 : expression_of (codes " (r3.failed) == (inventory_hostname) ") ≡ Some (comparison equal (path (variable (codes "r3")) ((codes "failed") ∷ [])) (path (variable (codes "inventory_hostname")) ([])))
text_128 = refl

text_129 : expression_of (codes " (r3.failed) == (r1.results) ") ≡ Some (comparison equal (path (variable (codes "r3")) ((codes "failed") ∷ [])) (path (variable (codes "r1")) ((codes "results") ∷ [])))
text_129 = refl

text_130 : expression_of (codes " (r3.failed) == (r2.changed) ") ≡ Some (comparison equal (path (variable (codes "r3")) ((codes "failed") ∷ [])) (path (variable (codes "r2")) ((codes "changed") ∷ [])))
text_130 = refl

text_131 : expression_of (codes " (r3.failed) == (r3) ") ≡ Some (comparison equal (path (variable (codes "r3")) ((codes "failed") ∷ [])) (path (variable (codes "r3")) ([])))
text_131 = refl

text_132 : expression_of (codes " (r3.failed) == (r3.failed) ") ≡ Some (comparison equal (path (variable (codes "r3")) ((codes "failed") ∷ [])) (path (variable (codes "r3")) ((codes "failed") ∷ [])))
text_132 = refl

text_133 : expression_of (32 ∷ 40 ∷ 114 ∷ 51 ∷ 46 ∷ 109 ∷ 115 ∷ 103 ∷ 41 ∷ 32 ∷ 61 ∷ 61 ∷ 32 ∷ 40 ∷ 104 ∷ 111 ∷ 115 ∷ 116 ∷ 118 ∷ 97 ∷ 114 ∷ 115 ∷ 91 ∷ 105 ∷ 110 ∷ 118 ∷ 101 ∷ 110 ∷ 116 ∷ 111 ∷ 114 ∷ 121 ∷ 95 ∷ 104 ∷ 111 ∷ 115 ∷ 116 ∷ 110 ∷ 97 ∷ 109 ∷ 101 ∷ 93 ∷ 46 ∷ 114 ∷ 50 ∷ 46 ∷ 99 ∷ 104 ∷ 97 ∷ 110 ∷ 103 ∷ 101 ∷ 100 ∷ 41 ∷ 32 ∷ []) ≡ Some (comparison equal (path (variable (codes "r3")) ((codes "msg") ∷ [])) (path (other this_host (codes "r2")) ((codes "changed") ∷ [])))
text_133 = refl

text_134 : expression_of (32 ∷ 40 ∷ 114 ∷ 51 ∷ 46 ∷ 109 ∷ 115 ∷ 103 ∷ 41 ∷ 32 ∷ 61 ∷ 61 ∷ 32 ∷ 40 ∷ 104 ∷ 111 ∷ 115 ∷ 116 ∷ 118 ∷ 97 ∷ 114 ∷ 115 ∷ 91 ∷ 105 ∷ 110 ∷ 118 ∷ 101 ∷ 110 ∷ 116 ∷ 111 ∷ 114 ∷ 121 ∷ 95 ∷ 104 ∷ 111 ∷ 115 ∷ 116 ∷ 110 ∷ 97 ∷ 109 ∷ 101 ∷ 93 ∷ 46 ∷ 114 ∷ 51 ∷ 46 ∷ 109 ∷ 115 ∷ 103 ∷ 41 ∷ 32 ∷ []) ≡ Some (comparison equal (path (variable (codes "r3")) ((codes "msg") ∷ [])) (path (other this_host (codes "r3")) ((codes "msg") ∷ [])))
text_134 = refl

text_135 : expression_of (codes " (r3.msg) == (r2.msg) ") ≡ Some (comparison equal (path (variable (codes "r3")) ((codes "msg") ∷ [])) (path (variable (codes "r2")) ((codes "msg") ∷ [])))
text_135 = refl

text_136 : expression_of (codes " (r3.msg) == (r3.skip_reason) ") ≡ Some (comparison equal (path (variable (codes "r3")) ((codes "msg") ∷ [])) (path (variable (codes "r3")) ((codes "skip_reason") ∷ [])))
text_136 = refl

text_137 : expression_of (codes " (r3.rc) == (r3.stdout_lines) ") ≡ Some (comparison equal (path (variable (codes "r3")) ((codes "rc") ∷ [])) (path (variable (codes "r3")) ((codes "stdout_lines") ∷ [])))
text_137 = refl

text_138 : expression_of (codes " (r3.skip_reason) == (groups.all) ") ≡ Some (comparison equal (path (variable (codes "r3")) ((codes "skip_reason") ∷ [])) (path (variable (codes "groups")) ((codes "all") ∷ [])))
text_138 = refl

text_139 : expression_of (codes " (r3.skipped) == (i1) ") ≡ Some (comparison equal (path (variable (codes "r3")) ((codes "skipped") ∷ [])) (path (variable (codes "i1")) ([])))
text_139 = refl

text_140 : expression_of (32 ∷ 40 ∷ 114 ∷ 51 ∷ 46 ∷ 115 ∷ 116 ∷ 100 ∷ 111 ∷ 117 ∷ 116 ∷ 95 ∷ 108 ∷ 105 ∷ 110 ∷ 101 ∷ 115 ∷ 41 ∷ 32 ∷ 61 ∷ 61 ∷ 32 ∷ 40 ∷ 104 ∷ 111 ∷ 115 ∷ 116 ∷ 118 ∷ 97 ∷ 114 ∷ 115 ∷ 91 ∷ 105 ∷ 110 ∷ 118 ∷ 101 ∷ 110 ∷ 116 ∷ 111 ∷ 114 ∷ 121 ∷ 95 ∷ 104 ∷ 111 ∷ 115 ∷ 116 ∷ 110 ∷ 97 ∷ 109 ∷ 101 ∷ 93 ∷ 46 ∷ 105 ∷ 50 ∷ 41 ∷ 32 ∷ []) ≡ Some (comparison equal (path (variable (codes "r3")) ((codes "stdout_lines") ∷ [])) (path (other this_host (codes "i2")) ([])))
text_140 = refl

text_141 : expression_of (codes " (s.changed is not skipped) or (y == 1) ") ≡ Some (disjunction (expression (negation (path_status is_skipped (variable (codes "s")) ((codes "changed") ∷ []))) (expression (comparison equal (path (variable (codes "y")) ([])) (literal (int (pos 1)))) (no_expressions))))
text_141 = refl

text_142 : expression_of (codes " (s.stdout) or (group_names is skipped) ") ≡ Some (disjunction (expression (path (variable (codes "s")) ((codes "stdout") ∷ [])) (expression (path_status is_skipped (variable (codes "group_names")) ([])) (no_expressions))))
text_142 = refl

text_143 : expression_of (codes " (s.stdout_lines is skipped) or (ansible_facts.hostname is not defined) ") ≡ Some (disjunction (expression (path_status is_skipped (variable (codes "s")) ((codes "stdout_lines") ∷ [])) (expression (negation (defined (variable (codes "ansible_facts")) ((codes "hostname") ∷ []))) (no_expressions))))
text_143 = refl

text_144 : expression_of (codes " (s1) ") ≡ Some (path (variable (codes "s1")) ([]))
text_144 = refl

text_145 : expression_of (codes " (s1) == (ansible_failed_result.msg) ") ≡ Some (comparison equal (path (variable (codes "s1")) ([])) (path (variable (codes "ansible_failed_result")) ((codes "msg") ∷ [])))
text_145 = refl

text_146 : expression_of (codes " (s1) == (ansible_os_family) ") ≡ Some (comparison equal (path (variable (codes "s1")) ([])) (path (variable (codes "ansible_os_family")) ([])))
text_146 = refl

text_147 : expression_of (codes " (s1) == (groups.all) ") ≡ Some (comparison equal (path (variable (codes "s1")) ([])) (path (variable (codes "groups")) ((codes "all") ∷ [])))
text_147 = refl

text_148 : expression_of (32 ∷ 40 ∷ 115 ∷ 49 ∷ 41 ∷ 32 ∷ 61 ∷ 61 ∷ 32 ∷ 40 ∷ 104 ∷ 111 ∷ 115 ∷ 116 ∷ 118 ∷ 97 ∷ 114 ∷ 115 ∷ 91 ∷ 105 ∷ 110 ∷ 118 ∷ 101 ∷ 110 ∷ 116 ∷ 111 ∷ 114 ∷ 121 ∷ 95 ∷ 104 ∷ 111 ∷ 115 ∷ 116 ∷ 110 ∷ 97 ∷ 109 ∷ 101 ∷ 93 ∷ 46 ∷ 114 ∷ 51 ∷ 46 ∷ 99 ∷ 104 ∷ 97 ∷ 110 ∷ 103 ∷ 101 ∷ 100 ∷ 41 ∷ 32 ∷ []) ≡ Some (comparison equal (path (variable (codes "s1")) ([])) (path (other this_host (codes "r3")) ((codes "changed") ∷ [])))
text_148 = refl

text_149 : expression_of (codes " (s1) == (op) ") ≡ Some (comparison equal (path (variable (codes "s1")) ([])) (path (variable (codes "op")) ([])))
text_149 = refl

text_150 : expression_of (codes " (s1) == (r1.changed) ") ≡ Some (comparison equal (path (variable (codes "s1")) ([])) (path (variable (codes "r1")) ((codes "changed") ∷ [])))
text_150 = refl

text_151 : expression_of (codes " (s1) == (r1.failed) ") ≡ Some (comparison equal (path (variable (codes "s1")) ([])) (path (variable (codes "r1")) ((codes "failed") ∷ [])))
text_151 = refl

text_152 : expression_of (codes " (s1) == (r2) ") ≡ Some (comparison equal (path (variable (codes "s1")) ([])) (path (variable (codes "r2")) ([])))
text_152 = refl

text_153 : expression_of (codes " (s1) == (r3.changed) ") ≡ Some (comparison equal (path (variable (codes "s1")) ([])) (path (variable (codes "r3")) ((codes "changed") ∷ [])))
text_153 = refl

text_154 : expression_of (codes " (s1) == (r3.failed) ") ≡ Some (comparison equal (path (variable (codes "s1")) ([])) (path (variable (codes "r3")) ((codes "failed") ∷ [])))
text_154 = refl

text_155 : expression_of (codes " (s1) == (s1) ") ≡ Some (comparison equal (path (variable (codes "s1")) ([])) (path (variable (codes "s1")) ([])))
text_155 = refl

text_156 : expression_of (codes " (s1) == (s2) ") ≡ Some (comparison equal (path (variable (codes "s1")) ([])) (path (variable (codes "s2")) ([])))
text_156 = refl

text_157 : expression_of (32 ∷ 40 ∷ 115 ∷ 49 ∷ 46 ∷ 114 ∷ 99 ∷ 41 ∷ 32 ∷ 61 ∷ 61 ∷ 32 ∷ 40 ∷ 104 ∷ 111 ∷ 115 ∷ 116 ∷ 118 ∷ 97 ∷ 114 ∷ 115 ∷ 91 ∷ 105 ∷ 110 ∷ 118 ∷ 101 ∷ 110 ∷ 116 ∷ 111 ∷ 114 ∷ 121 ∷ 95 ∷ 104 ∷ 111 ∷ 115 ∷ 116 ∷ 110 ∷ 97 ∷ 109 ∷ 101 ∷ 93 ∷ 46 ∷ 114 ∷ 49 ∷ 41 ∷ 32 ∷ []) ≡ Some (comparison equal (path (variable (codes "s1")) ((codes "rc") ∷ [])) (path (other this_host (codes "r1")) ([])))
text_157 = refl

text_158 : expression_of (codes " (s2) == (r1.failed) ") ≡ Some (comparison equal (path (variable (codes "s2")) ([])) (path (variable (codes "r1")) ((codes "failed") ∷ [])))
text_158 = refl

text_159 : expression_of (codes " (s2) == (s1.stdout) ") ≡ Some (comparison equal (path (variable (codes "s2")) ([])) (path (variable (codes "s1")) ((codes "stdout") ∷ [])))
text_159 = refl

text_160 : expression_of (codes " (s2.f) == (r3.changed) ") ≡ Some (comparison equal (path (variable (codes "s2")) ((codes "f") ∷ [])) (path (variable (codes "r3")) ((codes "changed") ∷ [])))
text_160 = refl

text_161 : expression_of (codes " (s3 or true) or r1.changed ") ≡ Some (disjunction (expression (disjunction (expression (path (variable (codes "s3")) ([])) (expression (literal (boolean true)) (no_expressions)))) (expression (path (variable (codes "r1")) ((codes "changed") ∷ [])) (no_expressions))))
text_161 = refl

text_162 : expression_of (codes " (s3) == (inventory_hostname) ") ≡ Some (comparison equal (path (variable (codes "s3")) ([])) (path (variable (codes "inventory_hostname")) ([])))
text_162 = refl

text_163 : expression_of (codes " (s3) == (op) ") ≡ Some (comparison equal (path (variable (codes "s3")) ([])) (path (variable (codes "op")) ([])))
text_163 = refl

text_164 : expression_of (codes " (s3) == (r1.failed) ") ≡ Some (comparison equal (path (variable (codes "s3")) ([])) (path (variable (codes "r1")) ((codes "failed") ∷ [])))
text_164 = refl

text_165 : expression_of (codes " (s3) == (r2.failed) ") ≡ Some (comparison equal (path (variable (codes "s3")) ([])) (path (variable (codes "r2")) ((codes "failed") ∷ [])))
text_165 = refl

text_166 : expression_of (codes " (s3) == (v1) ") ≡ Some (comparison equal (path (variable (codes "s3")) ([])) (path (variable (codes "v1")) ([])))
text_166 = refl

text_167 : expression_of (codes " (s3.stdout) == (r1.failed) ") ≡ Some (comparison equal (path (variable (codes "s3")) ((codes "stdout") ∷ [])) (path (variable (codes "r1")) ((codes "failed") ∷ [])))
text_167 = refl

text_168 : expression_of (codes " (v2) == (s1) ") ≡ Some (comparison equal (path (variable (codes "v2")) ([])) (path (variable (codes "s1")) ([])))
text_168 = refl

text_169 : expression_of (32 ∷ 40 ∷ 122 ∷ 122 ∷ 41 ∷ 32 ∷ 124 ∷ 32 ∷ 100 ∷ 101 ∷ 102 ∷ 97 ∷ 117 ∷ 108 ∷ 116 ∷ 40 ∷ 49 ∷ 41 ∷ 32 ∷ []) ≡ Some (path_or (variable (codes "zz")) ([]) (literal (int (pos 1))))
text_169 = refl

text_170 : expression_of (codes " -3 ") ≡ Some (literal (int (negsuc 2)))
text_170 = refl

text_171 : expression_of (codes " 0 ") ≡ Some (literal (int (pos 0)))
text_171 = refl

text_172 : expression_of (codes " 1 ") ≡ Some (literal (int (pos 1)))
text_172 = refl

text_173 : expression_of (codes " 1 == 1 ") ≡ Some (comparison equal (literal (int (pos 1))) (literal (int (pos 1))))
text_173 = refl

text_174 : expression_of (codes " 1 == True ") ≡ Some (comparison equal (literal (int (pos 1))) (literal (boolean true)))
text_174 = refl

text_175 : expression_of (codes " 1 and r1.f ") ≡ Some (conjunction (expression (literal (int (pos 1))) (expression (path (variable (codes "r1")) ((codes "f") ∷ [])) (no_expressions))))
text_175 = refl

text_176 : expression_of (32 ∷ 49 ∷ 32 ∷ 123 ∷ 35 ∷ 32 ∷ []) ≡ None
text_176 = refl

text_177 : expression_of (32 ∷ 49 ∷ 32 ∷ 124 ∷ 32 ∷ 100 ∷ 101 ∷ 102 ∷ 97 ∷ 117 ∷ 108 ∷ 116 ∷ 40 ∷ 122 ∷ 122 ∷ 41 ∷ 32 ∷ []) ≡ Some (value_or (literal (int (pos 1))) (path (variable (codes "zz")) ([])))
text_177 = refl

text_178 : expression_of (codes " 5 ") ≡ Some (literal (int (pos 5)))
text_178 = refl

text_179 : expression_of (codes " 9223372036854775807 ") ≡ Some (literal (int (pos 9223372036854775807)))
text_179 = refl

text_180 : expression_of (codes " 9223372036854775807 != nope ") ≡ Some (negation (comparison equal (literal (int (pos 9223372036854775807))) (path (variable (codes "nope")) ([]))))
text_180 = refl

text_181 : expression_of (codes " False ") ≡ Some (literal (boolean false))
text_181 = refl

text_182 : expression_of (codes " False and 0 == false ") ≡ Some (conjunction (expression (literal (boolean false)) (expression (comparison equal (literal (int (pos 0))) (literal (boolean false))) (no_expressions))))
text_182 = refl

text_183 : expression_of (codes " False and False == -3 ") ≡ Some (conjunction (expression (literal (boolean false)) (expression (comparison equal (literal (boolean false)) (literal (int (negsuc 2)))) (no_expressions))))
text_183 = refl

text_184 : expression_of (codes " True ") ≡ Some (literal (boolean true))
text_184 = refl

text_185 : expression_of (32 ∷ 91 ∷ 49 ∷ 44 ∷ 32 ∷ 50 ∷ 93 ∷ 32 ∷ []) ≡ Some (list_of (expression (literal (int (pos 1))) (expression (literal (int (pos 2))) (no_expressions))))
text_185 = refl

text_186 : expression_of (32 ∷ 91 ∷ 49 ∷ 44 ∷ 32 ∷ 50 ∷ 93 ∷ 32 ∷ 124 ∷ 32 ∷ 106 ∷ 111 ∷ 105 ∷ 110 ∷ 32 ∷ []) ≡ Some (joined_by (list_of (expression (literal (int (pos 1))) (expression (literal (int (pos 2))) (no_expressions)))) (literal (text [])))
text_186 = refl

text_187 : expression_of (32 ∷ 91 ∷ 49 ∷ 93 ∷ 32 ∷ []) ≡ Some (list_of (expression (literal (int (pos 1))) (no_expressions)))
text_187 = refl

text_188 : expression_of (32 ∷ 91 ∷ 49 ∷ 93 ∷ 32 ∷ 124 ∷ 32 ∷ 106 ∷ 111 ∷ 105 ∷ 110 ∷ 40 ∷ 122 ∷ 122 ∷ 41 ∷ 32 ∷ []) ≡ Some (joined_by (list_of (expression (literal (int (pos 1))) (no_expressions))) (path (variable (codes "zz")) ([])))
text_188 = refl

text_189 : expression_of (32 ∷ 91 ∷ 97 ∷ 110 ∷ 115 ∷ 105 ∷ 98 ∷ 108 ∷ 101 ∷ 95 ∷ 102 ∷ 97 ∷ 99 ∷ 116 ∷ 115 ∷ 44 ∷ 32 ∷ 97 ∷ 110 ∷ 115 ∷ 105 ∷ 98 ∷ 108 ∷ 101 ∷ 95 ∷ 102 ∷ 97 ∷ 99 ∷ 116 ∷ 115 ∷ 93 ∷ 32 ∷ []) ≡ Some (list_of (expression (path (variable (codes "ansible_facts")) ([])) (expression (path (variable (codes "ansible_facts")) ([])) (no_expressions))))
text_189 = refl

text_190 : expression_of (32 ∷ 91 ∷ 97 ∷ 110 ∷ 115 ∷ 105 ∷ 98 ∷ 108 ∷ 101 ∷ 95 ∷ 102 ∷ 97 ∷ 99 ∷ 116 ∷ 115 ∷ 46 ∷ 104 ∷ 111 ∷ 115 ∷ 116 ∷ 110 ∷ 97 ∷ 109 ∷ 101 ∷ 44 ∷ 32 ∷ 49 ∷ 93 ∷ 32 ∷ []) ≡ Some (list_of (expression (path (variable (codes "ansible_facts")) ((codes "hostname") ∷ [])) (expression (literal (int (pos 1))) (no_expressions))))
text_190 = refl

text_191 : expression_of (32 ∷ 91 ∷ 97 ∷ 110 ∷ 115 ∷ 105 ∷ 98 ∷ 108 ∷ 101 ∷ 95 ∷ 111 ∷ 115 ∷ 95 ∷ 102 ∷ 97 ∷ 109 ∷ 105 ∷ 108 ∷ 121 ∷ 44 ∷ 32 ∷ 49 ∷ 93 ∷ 32 ∷ []) ≡ Some (list_of (expression (path (variable (codes "ansible_os_family")) ([])) (expression (literal (int (pos 1))) (no_expressions))))
text_191 = refl

text_192 : expression_of (32 ∷ 91 ∷ 97 ∷ 110 ∷ 115 ∷ 105 ∷ 98 ∷ 108 ∷ 101 ∷ 95 ∷ 111 ∷ 115 ∷ 95 ∷ 102 ∷ 97 ∷ 109 ∷ 105 ∷ 108 ∷ 121 ∷ 44 ∷ 32 ∷ 97 ∷ 110 ∷ 115 ∷ 105 ∷ 98 ∷ 108 ∷ 101 ∷ 95 ∷ 111 ∷ 115 ∷ 95 ∷ 102 ∷ 97 ∷ 109 ∷ 105 ∷ 108 ∷ 121 ∷ 93 ∷ 32 ∷ []) ≡ Some (list_of (expression (path (variable (codes "ansible_os_family")) ([])) (expression (path (variable (codes "ansible_os_family")) ([])) (no_expressions))))
text_192 = refl

text_193 : expression_of (32 ∷ 91 ∷ 97 ∷ 110 ∷ 115 ∷ 105 ∷ 98 ∷ 108 ∷ 101 ∷ 95 ∷ 112 ∷ 108 ∷ 97 ∷ 121 ∷ 95 ∷ 98 ∷ 97 ∷ 116 ∷ 99 ∷ 104 ∷ 44 ∷ 32 ∷ 49 ∷ 93 ∷ 32 ∷ []) ≡ Some (list_of (expression (path (variable (codes "ansible_play_batch")) ([])) (expression (literal (int (pos 1))) (no_expressions))))
text_193 = refl

text_194 : expression_of (32 ∷ 91 ∷ 97 ∷ 110 ∷ 115 ∷ 105 ∷ 98 ∷ 108 ∷ 101 ∷ 95 ∷ 112 ∷ 108 ∷ 97 ∷ 121 ∷ 95 ∷ 98 ∷ 97 ∷ 116 ∷ 99 ∷ 104 ∷ 44 ∷ 32 ∷ 97 ∷ 110 ∷ 115 ∷ 105 ∷ 98 ∷ 108 ∷ 101 ∷ 95 ∷ 112 ∷ 108 ∷ 97 ∷ 121 ∷ 95 ∷ 98 ∷ 97 ∷ 116 ∷ 99 ∷ 104 ∷ 93 ∷ 32 ∷ []) ≡ Some (list_of (expression (path (variable (codes "ansible_play_batch")) ([])) (expression (path (variable (codes "ansible_play_batch")) ([])) (no_expressions))))
text_194 = refl

text_195 : expression_of (32 ∷ 91 ∷ 103 ∷ 114 ∷ 111 ∷ 117 ∷ 112 ∷ 95 ∷ 110 ∷ 97 ∷ 109 ∷ 101 ∷ 115 ∷ 44 ∷ 32 ∷ 49 ∷ 93 ∷ 32 ∷ []) ≡ Some (list_of (expression (path (variable (codes "group_names")) ([])) (expression (literal (int (pos 1))) (no_expressions))))
text_195 = refl

text_196 : expression_of (32 ∷ 91 ∷ 103 ∷ 114 ∷ 111 ∷ 117 ∷ 112 ∷ 95 ∷ 110 ∷ 97 ∷ 109 ∷ 101 ∷ 115 ∷ 44 ∷ 32 ∷ 103 ∷ 114 ∷ 111 ∷ 117 ∷ 112 ∷ 95 ∷ 110 ∷ 97 ∷ 109 ∷ 101 ∷ 115 ∷ 93 ∷ 32 ∷ []) ≡ Some (list_of (expression (path (variable (codes "group_names")) ([])) (expression (path (variable (codes "group_names")) ([])) (no_expressions))))
text_196 = refl

text_197 : expression_of (32 ∷ 91 ∷ 103 ∷ 114 ∷ 111 ∷ 117 ∷ 112 ∷ 115 ∷ 46 ∷ 97 ∷ 108 ∷ 108 ∷ 44 ∷ 32 ∷ 49 ∷ 93 ∷ 32 ∷ []) ≡ Some (list_of (expression (path (variable (codes "groups")) ((codes "all") ∷ [])) (expression (literal (int (pos 1))) (no_expressions))))
text_197 = refl

text_198 : expression_of (32 ∷ 91 ∷ 103 ∷ 114 ∷ 111 ∷ 117 ∷ 112 ∷ 115 ∷ 46 ∷ 97 ∷ 108 ∷ 108 ∷ 44 ∷ 32 ∷ 103 ∷ 114 ∷ 111 ∷ 117 ∷ 112 ∷ 115 ∷ 46 ∷ 97 ∷ 108 ∷ 108 ∷ 93 ∷ 32 ∷ []) ≡ Some (list_of (expression (path (variable (codes "groups")) ((codes "all") ∷ [])) (expression (path (variable (codes "groups")) ((codes "all") ∷ [])) (no_expressions))))
text_198 = refl

text_199 : expression_of (32 ∷ 91 ∷ 104 ∷ 111 ∷ 115 ∷ 116 ∷ 118 ∷ 97 ∷ 114 ∷ 115 ∷ 91 ∷ 105 ∷ 110 ∷ 118 ∷ 101 ∷ 110 ∷ 116 ∷ 111 ∷ 114 ∷ 121 ∷ 95 ∷ 104 ∷ 111 ∷ 115 ∷ 116 ∷ 110 ∷ 97 ∷ 109 ∷ 101 ∷ 93 ∷ 46 ∷ 105 ∷ 50 ∷ 46 ∷ 102 ∷ 44 ∷ 32 ∷ 49 ∷ 93 ∷ 32 ∷ []) ≡ Some (list_of (expression (path (other this_host (codes "i2")) ((codes "f") ∷ [])) (expression (literal (int (pos 1))) (no_expressions))))
text_199 = refl

text_200 : expression_of (32 ∷ 91 ∷ 104 ∷ 111 ∷ 115 ∷ 116 ∷ 118 ∷ 97 ∷ 114 ∷ 115 ∷ 91 ∷ 105 ∷ 110 ∷ 118 ∷ 101 ∷ 110 ∷ 116 ∷ 111 ∷ 114 ∷ 121 ∷ 95 ∷ 104 ∷ 111 ∷ 115 ∷ 116 ∷ 110 ∷ 97 ∷ 109 ∷ 101 ∷ 93 ∷ 46 ∷ 114 ∷ 49 ∷ 46 ∷ 99 ∷ 104 ∷ 97 ∷ 110 ∷ 103 ∷ 101 ∷ 100 ∷ 44 ∷ 32 ∷ 104 ∷ 111 ∷ 115 ∷ 116 ∷ 118 ∷ 97 ∷ 114 ∷ 115 ∷ 91 ∷ 105 ∷ 110 ∷ 118 ∷ 101 ∷ 110 ∷ 116 ∷ 111 ∷ 114 ∷ 121 ∷ 95 ∷ 104 ∷ 111 ∷ 115 ∷ 116 ∷ 110 ∷ 97 ∷ 109 ∷ 101 ∷ 93 ∷ 46 ∷ 114 ∷ 49 ∷ 46 ∷ 99 ∷ 104 ∷ 97 ∷ 110 ∷ 103 ∷ 101 ∷ 100 ∷ 93 ∷ 32 ∷ []) ≡ Some (list_of (expression (path (other this_host (codes "r1")) ((codes "changed") ∷ [])) (expression (path (other this_host (codes "r1")) ((codes "changed") ∷ [])) (no_expressions))))
text_200 = refl

text_201 : expression_of (32 ∷ 91 ∷ 104 ∷ 111 ∷ 115 ∷ 116 ∷ 118 ∷ 97 ∷ 114 ∷ 115 ∷ 91 ∷ 105 ∷ 110 ∷ 118 ∷ 101 ∷ 110 ∷ 116 ∷ 111 ∷ 114 ∷ 121 ∷ 95 ∷ 104 ∷ 111 ∷ 115 ∷ 116 ∷ 110 ∷ 97 ∷ 109 ∷ 101 ∷ 93 ∷ 46 ∷ 114 ∷ 49 ∷ 46 ∷ 102 ∷ 97 ∷ 105 ∷ 108 ∷ 101 ∷ 100 ∷ 44 ∷ 32 ∷ 49 ∷ 93 ∷ 32 ∷ []) ≡ Some (list_of (expression (path (other this_host (codes "r1")) ((codes "failed") ∷ [])) (expression (literal (int (pos 1))) (no_expressions))))
text_201 = refl

text_202 : expression_of (32 ∷ 91 ∷ 104 ∷ 111 ∷ 115 ∷ 116 ∷ 118 ∷ 97 ∷ 114 ∷ 115 ∷ 91 ∷ 105 ∷ 110 ∷ 118 ∷ 101 ∷ 110 ∷ 116 ∷ 111 ∷ 114 ∷ 121 ∷ 95 ∷ 104 ∷ 111 ∷ 115 ∷ 116 ∷ 110 ∷ 97 ∷ 109 ∷ 101 ∷ 93 ∷ 46 ∷ 114 ∷ 50 ∷ 46 ∷ 115 ∷ 116 ∷ 100 ∷ 101 ∷ 114 ∷ 114 ∷ 44 ∷ 32 ∷ 49 ∷ 93 ∷ 32 ∷ []) ≡ Some (list_of (expression (path (other this_host (codes "r2")) ((codes "stderr") ∷ [])) (expression (literal (int (pos 1))) (no_expressions))))
text_202 = refl

text_203 : expression_of (32 ∷ 91 ∷ 104 ∷ 111 ∷ 115 ∷ 116 ∷ 118 ∷ 97 ∷ 114 ∷ 115 ∷ 91 ∷ 105 ∷ 116 ∷ 101 ∷ 109 ∷ 93 ∷ 46 ∷ 114 ∷ 49 ∷ 46 ∷ 99 ∷ 104 ∷ 97 ∷ 110 ∷ 103 ∷ 101 ∷ 100 ∷ 44 ∷ 32 ∷ 49 ∷ 93 ∷ 32 ∷ []) ≡ Some (list_of (expression (path (other item_host (codes "r1")) ((codes "changed") ∷ [])) (expression (literal (int (pos 1))) (no_expressions))))
text_203 = refl

text_204 : expression_of (32 ∷ 91 ∷ 104 ∷ 111 ∷ 115 ∷ 116 ∷ 118 ∷ 97 ∷ 114 ∷ 115 ∷ 91 ∷ 105 ∷ 116 ∷ 101 ∷ 109 ∷ 93 ∷ 46 ∷ 114 ∷ 49 ∷ 46 ∷ 99 ∷ 104 ∷ 97 ∷ 110 ∷ 103 ∷ 101 ∷ 100 ∷ 44 ∷ 32 ∷ 104 ∷ 111 ∷ 115 ∷ 116 ∷ 118 ∷ 97 ∷ 114 ∷ 115 ∷ 91 ∷ 105 ∷ 116 ∷ 101 ∷ 109 ∷ 93 ∷ 46 ∷ 114 ∷ 49 ∷ 46 ∷ 99 ∷ 104 ∷ 97 ∷ 110 ∷ 103 ∷ 101 ∷ 100 ∷ 93 ∷ 32 ∷ []) ≡ Some (list_of (expression (path (other item_host (codes "r1")) ((codes "changed") ∷ [])) (expression (path (other item_host (codes "r1")) ((codes "changed") ∷ [])) (no_expressions))))
text_204 = refl

text_205 : expression_of (32 ∷ 91 ∷ 104 ∷ 111 ∷ 115 ∷ 116 ∷ 118 ∷ 97 ∷ 114 ∷ 115 ∷ 91 ∷ 105 ∷ 116 ∷ 101 ∷ 109 ∷ 93 ∷ 46 ∷ 115 ∷ 50 ∷ 46 ∷ 102 ∷ 44 ∷ 32 ∷ 104 ∷ 111 ∷ 115 ∷ 116 ∷ 118 ∷ 97 ∷ 114 ∷ 115 ∷ 91 ∷ 105 ∷ 116 ∷ 101 ∷ 109 ∷ 93 ∷ 46 ∷ 115 ∷ 50 ∷ 46 ∷ 102 ∷ 93 ∷ 32 ∷ []) ≡ Some (list_of (expression (path (other item_host (codes "s2")) ((codes "f") ∷ [])) (expression (path (other item_host (codes "s2")) ((codes "f") ∷ [])) (no_expressions))))
text_205 = refl

text_206 : expression_of (32 ∷ 91 ∷ 105 ∷ 49 ∷ 44 ∷ 32 ∷ 49 ∷ 93 ∷ 32 ∷ []) ≡ Some (list_of (expression (path (variable (codes "i1")) ([])) (expression (literal (int (pos 1))) (no_expressions))))
text_206 = refl

text_207 : expression_of (32 ∷ 91 ∷ 105 ∷ 49 ∷ 46 ∷ 102 ∷ 44 ∷ 32 ∷ 105 ∷ 49 ∷ 46 ∷ 102 ∷ 93 ∷ 32 ∷ []) ≡ Some (list_of (expression (path (variable (codes "i1")) ((codes "f") ∷ [])) (expression (path (variable (codes "i1")) ((codes "f") ∷ [])) (no_expressions))))
text_207 = refl

text_208 : expression_of (32 ∷ 91 ∷ 105 ∷ 50 ∷ 44 ∷ 32 ∷ 49 ∷ 93 ∷ 32 ∷ []) ≡ Some (list_of (expression (path (variable (codes "i2")) ([])) (expression (literal (int (pos 1))) (no_expressions))))
text_208 = refl

text_209 : expression_of (32 ∷ 91 ∷ 105 ∷ 50 ∷ 44 ∷ 32 ∷ 105 ∷ 50 ∷ 93 ∷ 32 ∷ []) ≡ Some (list_of (expression (path (variable (codes "i2")) ([])) (expression (path (variable (codes "i2")) ([])) (no_expressions))))
text_209 = refl

text_210 : expression_of (32 ∷ 91 ∷ 105 ∷ 50 ∷ 46 ∷ 102 ∷ 44 ∷ 32 ∷ 49 ∷ 93 ∷ 32 ∷ []) ≡ Some (list_of (expression (path (variable (codes "i2")) ((codes "f") ∷ [])) (expression (literal (int (pos 1))) (no_expressions))))
text_210 = refl

text_211 : expression_of (32 ∷ 91 ∷ 105 ∷ 110 ∷ 118 ∷ 101 ∷ 110 ∷ 116 ∷ 111 ∷ 114 ∷ 121 ∷ 95 ∷ 104 ∷ 111 ∷ 115 ∷ 116 ∷ 110 ∷ 97 ∷ 109 ∷ 101 ∷ 44 ∷ 32 ∷ 105 ∷ 110 ∷ 118 ∷ 101 ∷ 110 ∷ 116 ∷ 111 ∷ 114 ∷ 121 ∷ 95 ∷ 104 ∷ 111 ∷ 115 ∷ 116 ∷ 110 ∷ 97 ∷ 109 ∷ 101 ∷ 93 ∷ 32 ∷ []) ≡ Some (list_of (expression (path (variable (codes "inventory_hostname")) ([])) (expression (path (variable (codes "inventory_hostname")) ([])) (no_expressions))))
text_211 = refl

text_212 : expression_of (32 ∷ 91 ∷ 105 ∷ 116 ∷ 101 ∷ 109 ∷ 46 ∷ 102 ∷ 44 ∷ 32 ∷ 105 ∷ 116 ∷ 101 ∷ 109 ∷ 46 ∷ 102 ∷ 93 ∷ 32 ∷ []) ≡ Some (list_of (expression (path (variable (codes "item")) ((codes "f") ∷ [])) (expression (path (variable (codes "item")) ((codes "f") ∷ [])) (no_expressions))))
text_212 = refl

text_213 : expression_of (32 ∷ 91 ∷ 105 ∷ 116 ∷ 101 ∷ 109 ∷ 46 ∷ 114 ∷ 99 ∷ 44 ∷ 32 ∷ 49 ∷ 93 ∷ 32 ∷ []) ≡ Some (list_of (expression (path (variable (codes "item")) ((codes "rc") ∷ [])) (expression (literal (int (pos 1))) (no_expressions))))
text_213 = refl

text_214 : expression_of (32 ∷ 91 ∷ 105 ∷ 116 ∷ 101 ∷ 109 ∷ 93 ∷ 32 ∷ []) ≡ Some (list_of (expression (path (variable (codes "item")) ([])) (no_expressions)))
text_214 = refl

text_215 : expression_of (32 ∷ 91 ∷ 110 ∷ 111 ∷ 116 ∷ 32 ∷ 49 ∷ 44 ∷ 32 ∷ 122 ∷ 122 ∷ 93 ∷ 32 ∷ []) ≡ Some (list_of (expression (negation (literal (int (pos 1)))) (expression (path (variable (codes "zz")) ([])) (no_expressions))))
text_215 = refl

text_216 : expression_of (32 ∷ 91 ∷ 111 ∷ 112 ∷ 44 ∷ 32 ∷ 49 ∷ 93 ∷ 32 ∷ []) ≡ Some (list_of (expression (path (variable (codes "op")) ([])) (expression (literal (int (pos 1))) (no_expressions))))
text_216 = refl

text_217 : expression_of (32 ∷ 91 ∷ 111 ∷ 112 ∷ 46 ∷ 102 ∷ 44 ∷ 32 ∷ 49 ∷ 93 ∷ 32 ∷ []) ≡ Some (list_of (expression (path (variable (codes "op")) ((codes "f") ∷ [])) (expression (literal (int (pos 1))) (no_expressions))))
text_217 = refl

text_218 : expression_of (32 ∷ 91 ∷ 111 ∷ 117 ∷ 116 ∷ 32 ∷ 105 ∷ 115 ∷ 32 ∷ 110 ∷ 111 ∷ 116 ∷ 32 ∷ 115 ∷ 107 ∷ 105 ∷ 112 ∷ 112 ∷ 101 ∷ 100 ∷ 93 ∷ 32 ∷ 124 ∷ 32 ∷ 106 ∷ 111 ∷ 105 ∷ 110 ∷ 32 ∷ []) ≡ Some (joined_by (list_of (expression (negation (path_status is_skipped (variable (codes "out")) ([]))) (no_expressions))) (literal (text [])))
text_218 = refl

text_219 : expression_of (32 ∷ 91 ∷ 114 ∷ 49 ∷ 44 ∷ 32 ∷ 49 ∷ 93 ∷ 32 ∷ []) ≡ Some (list_of (expression (path (variable (codes "r1")) ([])) (expression (literal (int (pos 1))) (no_expressions))))
text_219 = refl

text_220 : expression_of (32 ∷ 91 ∷ 114 ∷ 49 ∷ 44 ∷ 32 ∷ 114 ∷ 49 ∷ 93 ∷ 32 ∷ []) ≡ Some (list_of (expression (path (variable (codes "r1")) ([])) (expression (path (variable (codes "r1")) ([])) (no_expressions))))
text_220 = refl

text_221 : expression_of (32 ∷ 91 ∷ 114 ∷ 49 ∷ 46 ∷ 99 ∷ 104 ∷ 97 ∷ 110 ∷ 103 ∷ 101 ∷ 100 ∷ 44 ∷ 32 ∷ 49 ∷ 93 ∷ 32 ∷ []) ≡ Some (list_of (expression (path (variable (codes "r1")) ((codes "changed") ∷ [])) (expression (literal (int (pos 1))) (no_expressions))))
text_221 = refl

text_222 : expression_of (32 ∷ 91 ∷ 114 ∷ 49 ∷ 46 ∷ 102 ∷ 97 ∷ 105 ∷ 108 ∷ 101 ∷ 100 ∷ 44 ∷ 32 ∷ 49 ∷ 93 ∷ 32 ∷ []) ≡ Some (list_of (expression (path (variable (codes "r1")) ((codes "failed") ∷ [])) (expression (literal (int (pos 1))) (no_expressions))))
text_222 = refl

text_223 : expression_of (32 ∷ 91 ∷ 114 ∷ 49 ∷ 46 ∷ 102 ∷ 97 ∷ 105 ∷ 108 ∷ 101 ∷ 100 ∷ 44 ∷ 32 ∷ 114 ∷ 49 ∷ 46 ∷ 102 ∷ 97 ∷ 105 ∷ 108 ∷ 101 ∷ 100 ∷ 93 ∷ 32 ∷ []) ≡ Some (list_of (expression (path (variable (codes "r1")) ((codes "failed") ∷ [])) (expression (path (variable (codes "r1")) ((codes "failed") ∷ [])) (no_expressions))))
text_223 = refl

text_224 : expression_of (32 ∷ 91 ∷ 114 ∷ 49 ∷ 46 ∷ 114 ∷ 111 ∷ 119 ∷ 115 ∷ 44 ∷ 32 ∷ 49 ∷ 93 ∷ 32 ∷ []) ≡ Some (list_of (expression (path (variable (codes "r1")) ((codes "rows") ∷ [])) (expression (literal (int (pos 1))) (no_expressions))))
text_224 = refl

text_225 : expression_of (32 ∷ 91 ∷ 114 ∷ 49 ∷ 46 ∷ 115 ∷ 107 ∷ 105 ∷ 112 ∷ 112 ∷ 101 ∷ 100 ∷ 44 ∷ 32 ∷ 49 ∷ 93 ∷ 32 ∷ []) ≡ Some (list_of (expression (path (variable (codes "r1")) ((codes "skipped") ∷ [])) (expression (literal (int (pos 1))) (no_expressions))))
text_225 = refl

text_226 : expression_of (32 ∷ 91 ∷ 114 ∷ 49 ∷ 46 ∷ 115 ∷ 116 ∷ 97 ∷ 116 ∷ 46 ∷ 115 ∷ 105 ∷ 122 ∷ 101 ∷ 44 ∷ 32 ∷ 114 ∷ 49 ∷ 46 ∷ 115 ∷ 116 ∷ 97 ∷ 116 ∷ 46 ∷ 115 ∷ 105 ∷ 122 ∷ 101 ∷ 93 ∷ 32 ∷ []) ≡ Some (list_of (expression (path (variable (codes "r1")) ((codes "stat") ∷ (codes "size") ∷ [])) (expression (path (variable (codes "r1")) ((codes "stat") ∷ (codes "size") ∷ [])) (no_expressions))))
text_226 = refl

text_227 : expression_of (32 ∷ 91 ∷ 114 ∷ 49 ∷ 46 ∷ 115 ∷ 116 ∷ 100 ∷ 111 ∷ 117 ∷ 116 ∷ 95 ∷ 108 ∷ 105 ∷ 110 ∷ 101 ∷ 115 ∷ 44 ∷ 32 ∷ 49 ∷ 93 ∷ 32 ∷ []) ≡ Some (list_of (expression (path (variable (codes "r1")) ((codes "stdout_lines") ∷ [])) (expression (literal (int (pos 1))) (no_expressions))))
text_227 = refl

text_228 : expression_of (32 ∷ 91 ∷ 114 ∷ 49 ∷ 46 ∷ 118 ∷ 44 ∷ 32 ∷ 49 ∷ 93 ∷ 32 ∷ []) ≡ Some (list_of (expression (path (variable (codes "r1")) ((codes "v") ∷ [])) (expression (literal (int (pos 1))) (no_expressions))))
text_228 = refl

text_229 : expression_of (32 ∷ 91 ∷ 114 ∷ 49 ∷ 46 ∷ 119 ∷ 104 ∷ 121 ∷ 44 ∷ 32 ∷ 49 ∷ 93 ∷ 32 ∷ []) ≡ Some (list_of (expression (path (variable (codes "r1")) ((codes "why") ∷ [])) (expression (literal (int (pos 1))) (no_expressions))))
text_229 = refl

text_230 : expression_of (32 ∷ 91 ∷ 114 ∷ 50 ∷ 44 ∷ 32 ∷ 49 ∷ 93 ∷ 32 ∷ []) ≡ Some (list_of (expression (path (variable (codes "r2")) ([])) (expression (literal (int (pos 1))) (no_expressions))))
text_230 = refl

text_231 : expression_of (32 ∷ 91 ∷ 114 ∷ 50 ∷ 44 ∷ 32 ∷ 114 ∷ 50 ∷ 93 ∷ 32 ∷ []) ≡ Some (list_of (expression (path (variable (codes "r2")) ([])) (expression (path (variable (codes "r2")) ([])) (no_expressions))))
text_231 = refl

text_232 : expression_of (32 ∷ 91 ∷ 114 ∷ 50 ∷ 46 ∷ 97 ∷ 110 ∷ 115 ∷ 105 ∷ 98 ∷ 108 ∷ 101 ∷ 95 ∷ 102 ∷ 97 ∷ 99 ∷ 116 ∷ 115 ∷ 46 ∷ 97 ∷ 110 ∷ 115 ∷ 105 ∷ 98 ∷ 108 ∷ 101 ∷ 95 ∷ 111 ∷ 115 ∷ 95 ∷ 102 ∷ 97 ∷ 109 ∷ 105 ∷ 108 ∷ 121 ∷ 44 ∷ 32 ∷ 49 ∷ 93 ∷ 32 ∷ []) ≡ Some (list_of (expression (path (variable (codes "r2")) ((codes "ansible_facts") ∷ (codes "ansible_os_family") ∷ [])) (expression (literal (int (pos 1))) (no_expressions))))
text_232 = refl

text_233 : expression_of (32 ∷ 91 ∷ 114 ∷ 50 ∷ 46 ∷ 99 ∷ 104 ∷ 97 ∷ 110 ∷ 103 ∷ 101 ∷ 100 ∷ 44 ∷ 32 ∷ 49 ∷ 93 ∷ 32 ∷ []) ≡ Some (list_of (expression (path (variable (codes "r2")) ((codes "changed") ∷ [])) (expression (literal (int (pos 1))) (no_expressions))))
text_233 = refl

text_234 : expression_of (32 ∷ 91 ∷ 114 ∷ 50 ∷ 46 ∷ 99 ∷ 104 ∷ 97 ∷ 110 ∷ 103 ∷ 101 ∷ 100 ∷ 44 ∷ 32 ∷ 114 ∷ 50 ∷ 46 ∷ 99 ∷ 104 ∷ 97 ∷ 110 ∷ 103 ∷ 101 ∷ 100 ∷ 93 ∷ 32 ∷ []) ≡ Some (list_of (expression (path (variable (codes "r2")) ((codes "changed") ∷ [])) (expression (path (variable (codes "r2")) ((codes "changed") ∷ [])) (no_expressions))))
text_234 = refl

text_235 : expression_of (32 ∷ 91 ∷ 114 ∷ 50 ∷ 46 ∷ 100 ∷ 101 ∷ 101 ∷ 112 ∷ 44 ∷ 32 ∷ 49 ∷ 93 ∷ 32 ∷ []) ≡ Some (list_of (expression (path (variable (codes "r2")) ((codes "deep") ∷ [])) (expression (literal (int (pos 1))) (no_expressions))))
text_235 = refl

text_236 : expression_of (32 ∷ 91 ∷ 114 ∷ 50 ∷ 46 ∷ 102 ∷ 97 ∷ 105 ∷ 108 ∷ 101 ∷ 100 ∷ 44 ∷ 32 ∷ 49 ∷ 93 ∷ 32 ∷ []) ≡ Some (list_of (expression (path (variable (codes "r2")) ((codes "failed") ∷ [])) (expression (literal (int (pos 1))) (no_expressions))))
text_236 = refl

text_237 : expression_of (32 ∷ 91 ∷ 114 ∷ 50 ∷ 46 ∷ 102 ∷ 97 ∷ 105 ∷ 108 ∷ 101 ∷ 100 ∷ 44 ∷ 32 ∷ 114 ∷ 50 ∷ 46 ∷ 102 ∷ 97 ∷ 105 ∷ 108 ∷ 101 ∷ 100 ∷ 93 ∷ 32 ∷ []) ≡ Some (list_of (expression (path (variable (codes "r2")) ((codes "failed") ∷ [])) (expression (path (variable (codes "r2")) ((codes "failed") ∷ [])) (no_expressions))))
text_237 = refl

text_238 : expression_of (32 ∷ 91 ∷ 114 ∷ 50 ∷ 46 ∷ 109 ∷ 115 ∷ 103 ∷ 44 ∷ 32 ∷ 49 ∷ 93 ∷ 32 ∷ []) ≡ Some (list_of (expression (path (variable (codes "r2")) ((codes "msg") ∷ [])) (expression (literal (int (pos 1))) (no_expressions))))
text_238 = refl

text_239 : expression_of (32 ∷ 91 ∷ 114 ∷ 50 ∷ 46 ∷ 109 ∷ 115 ∷ 103 ∷ 44 ∷ 32 ∷ 114 ∷ 50 ∷ 46 ∷ 109 ∷ 115 ∷ 103 ∷ 93 ∷ 32 ∷ []) ≡ Some (list_of (expression (path (variable (codes "r2")) ((codes "msg") ∷ [])) (expression (path (variable (codes "r2")) ((codes "msg") ∷ [])) (no_expressions))))
text_239 = refl

text_240 : expression_of (32 ∷ 91 ∷ 114 ∷ 50 ∷ 46 ∷ 114 ∷ 101 ∷ 115 ∷ 117 ∷ 108 ∷ 116 ∷ 115 ∷ 44 ∷ 32 ∷ 114 ∷ 50 ∷ 46 ∷ 114 ∷ 101 ∷ 115 ∷ 117 ∷ 108 ∷ 116 ∷ 115 ∷ 93 ∷ 32 ∷ []) ≡ Some (list_of (expression (path (variable (codes "r2")) ((codes "results") ∷ [])) (expression (path (variable (codes "r2")) ((codes "results") ∷ [])) (no_expressions))))
text_240 = refl

text_241 : expression_of (32 ∷ 91 ∷ 114 ∷ 50 ∷ 46 ∷ 114 ∷ 111 ∷ 119 ∷ 115 ∷ 44 ∷ 32 ∷ 114 ∷ 50 ∷ 46 ∷ 114 ∷ 111 ∷ 119 ∷ 115 ∷ 93 ∷ 32 ∷ []) ≡ Some (list_of (expression (path (variable (codes "r2")) ((codes "rows") ∷ [])) (expression (path (variable (codes "r2")) ((codes "rows") ∷ [])) (no_expressions))))
text_241 = refl

text_242 : expression_of (32 ∷ 91 ∷ 114 ∷ 50 ∷ 46 ∷ 115 ∷ 107 ∷ 105 ∷ 112 ∷ 95 ∷ 114 ∷ 101 ∷ 97 ∷ 115 ∷ 111 ∷ 110 ∷ 44 ∷ 32 ∷ 114 ∷ 50 ∷ 46 ∷ 115 ∷ 107 ∷ 105 ∷ 112 ∷ 95 ∷ 114 ∷ 101 ∷ 97 ∷ 115 ∷ 111 ∷ 110 ∷ 93 ∷ 32 ∷ []) ≡ Some (list_of (expression (path (variable (codes "r2")) ((codes "skip_reason") ∷ [])) (expression (path (variable (codes "r2")) ((codes "skip_reason") ∷ [])) (no_expressions))))
text_242 = refl

text_243 : expression_of (32 ∷ 91 ∷ 114 ∷ 51 ∷ 44 ∷ 32 ∷ 49 ∷ 93 ∷ 32 ∷ []) ≡ Some (list_of (expression (path (variable (codes "r3")) ([])) (expression (literal (int (pos 1))) (no_expressions))))
text_243 = refl

text_244 : expression_of (32 ∷ 91 ∷ 114 ∷ 51 ∷ 44 ∷ 32 ∷ 114 ∷ 51 ∷ 93 ∷ 32 ∷ []) ≡ Some (list_of (expression (path (variable (codes "r3")) ([])) (expression (path (variable (codes "r3")) ([])) (no_expressions))))
text_244 = refl

text_245 : expression_of (32 ∷ 91 ∷ 114 ∷ 51 ∷ 46 ∷ 99 ∷ 104 ∷ 97 ∷ 110 ∷ 103 ∷ 101 ∷ 100 ∷ 44 ∷ 32 ∷ 49 ∷ 93 ∷ 32 ∷ []) ≡ Some (list_of (expression (path (variable (codes "r3")) ((codes "changed") ∷ [])) (expression (literal (int (pos 1))) (no_expressions))))
text_245 = refl

text_246 : expression_of (32 ∷ 91 ∷ 114 ∷ 51 ∷ 46 ∷ 99 ∷ 104 ∷ 97 ∷ 110 ∷ 103 ∷ 101 ∷ 100 ∷ 44 ∷ 32 ∷ 114 ∷ 51 ∷ 46 ∷ 99 ∷ 104 ∷ 97 ∷ 110 ∷ 103 ∷ 101 ∷ 100 ∷ 93 ∷ 32 ∷ []) ≡ Some (list_of (expression (path (variable (codes "r3")) ((codes "changed") ∷ [])) (expression (path (variable (codes "r3")) ((codes "changed") ∷ [])) (no_expressions))))
text_246 = refl

text_247 : expression_of (32 ∷ 91 ∷ 114 ∷ 51 ∷ 46 ∷ 102 ∷ 97 ∷ 105 ∷ 108 ∷ 101 ∷ 100 ∷ 44 ∷ 32 ∷ 49 ∷ 93 ∷ 32 ∷ []) ≡ Some (list_of (expression (path (variable (codes "r3")) ((codes "failed") ∷ [])) (expression (literal (int (pos 1))) (no_expressions))))
text_247 = refl

text_248 : expression_of (32 ∷ 91 ∷ 114 ∷ 51 ∷ 46 ∷ 102 ∷ 97 ∷ 105 ∷ 108 ∷ 101 ∷ 100 ∷ 44 ∷ 32 ∷ 114 ∷ 51 ∷ 46 ∷ 102 ∷ 97 ∷ 105 ∷ 108 ∷ 101 ∷ 100 ∷ 93 ∷ 32 ∷ []) ≡ Some (list_of (expression (path (variable (codes "r3")) ((codes "failed") ∷ [])) (expression (path (variable (codes "r3")) ((codes "failed") ∷ [])) (no_expressions))))
text_248 = refl

text_249 : expression_of (32 ∷ 91 ∷ 114 ∷ 51 ∷ 46 ∷ 109 ∷ 115 ∷ 103 ∷ 44 ∷ 32 ∷ 49 ∷ 93 ∷ 32 ∷ []) ≡ Some (list_of (expression (path (variable (codes "r3")) ((codes "msg") ∷ [])) (expression (literal (int (pos 1))) (no_expressions))))
text_249 = refl
