-- The trees of expressions of cases, computed.
use Rattle.std.specs.Prelude.{◌≡◌, refl, pos, negsuc, [], ◌∷◌, true, false, Some, None, codes}
use Rattle.pb_semantics.specs.Data.{boolean, int, null}
use Rattle.pb_language.specs.Expression.{equal, less, is_failed, is_changed, is_skipped, named_host, this_host, item_host, group_member, literal, path, hostvars_alone, negation, conjunction, disjunction, comparison, membership, defined, undefinable, path_status, value_status, path_or, length_of, list_of, variable, other, member, no_expressions, expression}
use Rattle.pb_language.specs.Grammar.{expression_of}

text_1000 : expression_of (40 ∷ 115 ∷ 46 ∷ 109 ∷ 115 ∷ 103 ∷ 32 ∷ 105 ∷ 115 ∷ 32 ∷ 100 ∷ 101 ∷ 102 ∷ 105 ∷ 110 ∷ 101 ∷ 100 ∷ 41 ∷ 32 ∷ 97 ∷ 110 ∷ 100 ∷ 32 ∷ 40 ∷ 110 ∷ 111 ∷ 116 ∷ 32 ∷ 40 ∷ 104 ∷ 111 ∷ 115 ∷ 116 ∷ 118 ∷ 97 ∷ 114 ∷ 115 ∷ 91 ∷ 105 ∷ 116 ∷ 101 ∷ 109 ∷ 93 ∷ 46 ∷ 105 ∷ 110 ∷ 118 ∷ 32 ∷ 105 ∷ 115 ∷ 32 ∷ 102 ∷ 97 ∷ 105 ∷ 108 ∷ 101 ∷ 100 ∷ 41 ∷ 41 ∷ []) ≡ Some (conjunction (expression (defined (variable (codes "s")) ((codes "msg") ∷ [])) (expression (negation (path_status is_failed (other item_host (codes "inv")) ([]))) (no_expressions))))
text_1000 = refl

text_1001 : expression_of (40 ∷ 115 ∷ 49 ∷ 32 ∷ 33 ∷ 61 ∷ 32 ∷ 91 ∷ 49 ∷ 93 ∷ 41 ∷ 32 ∷ 97 ∷ 110 ∷ 100 ∷ 32 ∷ 40 ∷ 97 ∷ 110 ∷ 115 ∷ 105 ∷ 98 ∷ 108 ∷ 101 ∷ 95 ∷ 104 ∷ 111 ∷ 115 ∷ 116 ∷ 110 ∷ 97 ∷ 109 ∷ 101 ∷ 32 ∷ 105 ∷ 115 ∷ 32 ∷ 100 ∷ 101 ∷ 102 ∷ 105 ∷ 110 ∷ 101 ∷ 100 ∷ 41 ∷ []) ≡ Some (conjunction (expression (negation (comparison equal (path (variable (codes "s1")) ([])) (list_of (expression (literal (int (pos 1))) (no_expressions))))) (expression (defined (variable (codes "ansible_hostname")) ([])) (no_expressions))))
text_1001 = refl

text_1002 : expression_of (40 ∷ 115 ∷ 49 ∷ 32 ∷ 33 ∷ 61 ∷ 32 ∷ 91 ∷ 49 ∷ 93 ∷ 41 ∷ 32 ∷ 111 ∷ 114 ∷ 32 ∷ 40 ∷ 105 ∷ 49 ∷ 32 ∷ 105 ∷ 115 ∷ 32 ∷ 100 ∷ 101 ∷ 102 ∷ 105 ∷ 110 ∷ 101 ∷ 100 ∷ 41 ∷ []) ≡ Some (disjunction (expression (negation (comparison equal (path (variable (codes "s1")) ([])) (list_of (expression (literal (int (pos 1))) (no_expressions))))) (expression (defined (variable (codes "i1")) ([])) (no_expressions))))
text_1002 = refl

text_1003 : expression_of (40 ∷ 115 ∷ 50 ∷ 32 ∷ 105 ∷ 115 ∷ 32 ∷ 100 ∷ 101 ∷ 102 ∷ 105 ∷ 110 ∷ 101 ∷ 100 ∷ 41 ∷ 32 ∷ 111 ∷ 114 ∷ 32 ∷ 40 ∷ 115 ∷ 49 ∷ 32 ∷ 61 ∷ 61 ∷ 32 ∷ 91 ∷ 49 ∷ 93 ∷ 41 ∷ []) ≡ Some (disjunction (expression (defined (variable (codes "s2")) ([])) (expression (comparison equal (path (variable (codes "s1")) ([])) (list_of (expression (literal (int (pos 1))) (no_expressions)))) (no_expressions))))
text_1003 = refl

text_1004 : expression_of (40 ∷ 118 ∷ 49 ∷ 46 ∷ 103 ∷ 32 ∷ 124 ∷ 32 ∷ 100 ∷ 101 ∷ 102 ∷ 97 ∷ 117 ∷ 108 ∷ 116 ∷ 40 ∷ 102 ∷ 97 ∷ 108 ∷ 115 ∷ 101 ∷ 41 ∷ 41 ∷ 32 ∷ 111 ∷ 114 ∷ 32 ∷ 40 ∷ 110 ∷ 111 ∷ 116 ∷ 32 ∷ 40 ∷ 114 ∷ 50 ∷ 46 ∷ 100 ∷ 101 ∷ 101 ∷ 112 ∷ 32 ∷ 105 ∷ 115 ∷ 32 ∷ 100 ∷ 101 ∷ 102 ∷ 105 ∷ 110 ∷ 101 ∷ 100 ∷ 41 ∷ 41 ∷ []) ≡ Some (disjunction (expression (path_or (variable (codes "v1")) ((codes "g") ∷ []) (literal (boolean false))) (expression (negation (defined (variable (codes "r2")) ((codes "deep") ∷ []))) (no_expressions))))
text_1004 = refl

text_1005 : expression_of (codes "(v2 is not defined) or (v1.k == 1)") ≡ Some (disjunction (expression (negation (defined (variable (codes "v2")) ([]))) (expression (comparison equal (path (variable (codes "v1")) ((codes "k") ∷ [])) (literal (int (pos 1)))) (no_expressions))))
text_1005 = refl

text_1006 : expression_of (codes "(v2.hostname == 1) or (r.results is skipped)") ≡ Some (disjunction (expression (comparison equal (path (variable (codes "v2")) ((codes "hostname") ∷ [])) (literal (int (pos 1)))) (expression (path_status is_skipped (variable (codes "r")) ((codes "results") ∷ [])) (no_expressions))))
text_1006 = refl

text_1007 : expression_of (codes "(zz.changed is undefined) or (not (s.changed == 1))") ≡ Some (disjunction (expression (negation (defined (variable (codes "zz")) ((codes "changed") ∷ []))) (expression (negation (comparison equal (path (variable (codes "s")) ((codes "changed") ∷ [])) (literal (int (pos 1))))) (no_expressions))))
text_1007 = refl

text_1008 : expression_of (codes "--1") ≡ None
text_1008 = refl

text_1009 : expression_of (codes "-0") ≡ Some (literal (int (pos 0)))
text_1009 = refl

text_1010 : expression_of (codes "-1") ≡ Some (literal (int (negsuc 0)))
text_1010 = refl

text_1011 : expression_of (codes "-9223372036854775808") ≡ Some (literal (int (negsuc 9223372036854775807)))
text_1011 = refl

text_1012 : expression_of (codes "-9223372036854775809") ≡ None
text_1012 = refl

text_1013 : expression_of (codes "0 == -3") ≡ Some (comparison equal (literal (int (pos 0))) (literal (int (negsuc 2))))
text_1013 = refl

text_1014 : expression_of (codes "01") ≡ None
text_1014 = refl

text_1015 : expression_of (codes "1") ≡ Some (literal (int (pos 1)))
text_1015 = refl

text_1016 : expression_of (codes "1 != 2") ≡ Some (negation (comparison equal (literal (int (pos 1))) (literal (int (pos 2)))))
text_1016 = refl

text_1017 : expression_of (codes "1 + (((((((((((((((((((((((((((((((((") ≡ None
text_1017 = refl

text_1018 : expression_of (codes "1 < 2") ≡ Some (comparison less (literal (int (pos 1))) (literal (int (pos 2))))
text_1018 = refl

text_1019 : expression_of (codes "1 < 2 < 3") ≡ None
text_1019 = refl

text_1020 : expression_of (codes "1 = 1") ≡ None
text_1020 = refl

text_1021 : expression_of (codes "1 == 1") ≡ Some (comparison equal (literal (int (pos 1))) (literal (int (pos 1))))
text_1021 = refl

text_1022 : expression_of (codes "1 == 1 ") ≡ Some (comparison equal (literal (int (pos 1))) (literal (int (pos 1))))
text_1022 = refl

text_1023 : expression_of (49 ∷ 32 ∷ 105 ∷ 110 ∷ 32 ∷ 91 ∷ 49 ∷ 93 ∷ []) ≡ Some (membership (literal (int (pos 1))) (list_of (expression (literal (int (pos 1))) (no_expressions))))
text_1023 = refl

text_1024 : expression_of (49 ∷ 32 ∷ 105 ∷ 115 ∷ 32 ∷ 105 ∷ 110 ∷ 32 ∷ 91 ∷ 49 ∷ 93 ∷ []) ≡ None
text_1024 = refl

text_1025 : expression_of (codes "1 is not failed") ≡ Some (negation (value_status is_failed (literal (int (pos 1)))))
text_1025 = refl

text_1026 : expression_of (49 ∷ 32 ∷ 110 ∷ 111 ∷ 116 ∷ 32 ∷ 105 ∷ 110 ∷ 32 ∷ 91 ∷ 49 ∷ 93 ∷ []) ≡ Some (negation (membership (literal (int (pos 1))) (list_of (expression (literal (int (pos 1))) (no_expressions)))))
text_1026 = refl

text_1027 : expression_of (codes "1.5") ≡ None
text_1027 = refl

text_1028 : expression_of (codes "1e3") ≡ None
text_1028 = refl

text_1029 : expression_of (codes "9223372036854775807") ≡ Some (literal (int (pos 9223372036854775807)))
text_1029 = refl

text_1030 : expression_of (codes "9223372036854775808") ≡ None
text_1030 = refl

text_1031 : expression_of (codes "False") ≡ Some (literal (boolean false))
text_1031 = refl

text_1032 : expression_of (codes "False or true") ≡ Some (disjunction (expression (literal (boolean false)) (expression (literal (boolean true)) (no_expressions))))
text_1032 = refl

text_1033 : expression_of (codes "None") ≡ Some (literal null)
text_1033 = refl

text_1034 : expression_of (codes "TRUE") ≡ Some (path (variable (codes "TRUE")) ([]))
text_1034 = refl

text_1035 : expression_of (codes "True") ≡ Some (literal (boolean true))
text_1035 = refl

text_1036 : expression_of (91 ∷ 44 ∷ 49 ∷ 93 ∷ []) ≡ None
text_1036 = refl

text_1037 : expression_of (91 ∷ 49 ∷ 32 ∷ 50 ∷ 93 ∷ []) ≡ None
text_1037 = refl

text_1038 : expression_of (91 ∷ 49 ∷ 93 ∷ 32 ∷ 61 ∷ 61 ∷ 32 ∷ 91 ∷ 49 ∷ 93 ∷ []) ≡ Some (comparison equal (list_of (expression (literal (int (pos 1))) (no_expressions))) (list_of (expression (literal (int (pos 1))) (no_expressions))))
text_1038 = refl

text_1039 : expression_of (91 ∷ 49 ∷ 93 ∷ 32 ∷ 124 ∷ 32 ∷ 108 ∷ 101 ∷ 110 ∷ 103 ∷ 116 ∷ 104 ∷ []) ≡ Some (length_of (list_of (expression (literal (int (pos 1))) (no_expressions))))
text_1039 = refl

text_1040 : expression_of (91 ∷ 91 ∷ 91 ∷ 91 ∷ 91 ∷ 91 ∷ 91 ∷ 91 ∷ 91 ∷ 91 ∷ 91 ∷ 91 ∷ 91 ∷ 91 ∷ 91 ∷ 91 ∷ 91 ∷ 91 ∷ 91 ∷ 91 ∷ 91 ∷ 91 ∷ 91 ∷ 91 ∷ 91 ∷ 91 ∷ 91 ∷ 91 ∷ 91 ∷ 91 ∷ 91 ∷ 91 ∷ 91 ∷ 93 ∷ 93 ∷ 93 ∷ 93 ∷ 93 ∷ 93 ∷ 93 ∷ 93 ∷ 93 ∷ 93 ∷ 93 ∷ 93 ∷ 93 ∷ 93 ∷ 93 ∷ 93 ∷ 93 ∷ 93 ∷ 93 ∷ 93 ∷ 93 ∷ 93 ∷ 93 ∷ 93 ∷ 93 ∷ 93 ∷ 93 ∷ 93 ∷ 93 ∷ 93 ∷ 93 ∷ 93 ∷ 93 ∷ 32 ∷ 61 ∷ 61 ∷ 32 ∷ 49 ∷ []) ≡ None
text_1040 = refl

text_1041 : expression_of (91 ∷ 91 ∷ 91 ∷ 91 ∷ 91 ∷ 91 ∷ 91 ∷ 91 ∷ 91 ∷ 91 ∷ 91 ∷ 91 ∷ 91 ∷ 91 ∷ 91 ∷ 91 ∷ 91 ∷ 91 ∷ 91 ∷ 91 ∷ 91 ∷ 91 ∷ 91 ∷ 91 ∷ 91 ∷ 91 ∷ 91 ∷ 91 ∷ 91 ∷ 91 ∷ 91 ∷ 91 ∷ 93 ∷ 93 ∷ 93 ∷ 93 ∷ 93 ∷ 93 ∷ 93 ∷ 93 ∷ 93 ∷ 93 ∷ 93 ∷ 93 ∷ 93 ∷ 93 ∷ 93 ∷ 93 ∷ 93 ∷ 93 ∷ 93 ∷ 93 ∷ 93 ∷ 93 ∷ 93 ∷ 93 ∷ 93 ∷ 93 ∷ 93 ∷ 93 ∷ 93 ∷ 93 ∷ 93 ∷ 93 ∷ 32 ∷ 61 ∷ 61 ∷ 32 ∷ 49 ∷ []) ≡ Some (comparison equal (list_of (expression (list_of (expression (list_of (expression (list_of (expression (list_of (expression (list_of (expression (list_of (expression (list_of (expression (list_of (expression (list_of (expression (list_of (expression (list_of (expression (list_of (expression (list_of (expression (list_of (expression (list_of (expression (list_of (expression (list_of (expression (list_of (expression (list_of (expression (list_of (expression (list_of (expression (list_of (expression (list_of (expression (list_of (expression (list_of (expression (list_of (expression (list_of (expression (list_of (expression (list_of (expression (list_of (expression (list_of (no_expressions)) (no_expressions))) (no_expressions))) (no_expressions))) (no_expressions))) (no_expressions))) (no_expressions))) (no_expressions))) (no_expressions))) (no_expressions))) (no_expressions))) (no_expressions))) (no_expressions))) (no_expressions))) (no_expressions))) (no_expressions))) (no_expressions))) (no_expressions))) (no_expressions))) (no_expressions))) (no_expressions))) (no_expressions))) (no_expressions))) (no_expressions))) (no_expressions))) (no_expressions))) (no_expressions))) (no_expressions))) (no_expressions))) (no_expressions))) (no_expressions))) (no_expressions))) (literal (int (pos 1))))
text_1041 = refl

text_1042 : expression_of (91 ∷ 110 ∷ 111 ∷ 116 ∷ 93 ∷ []) ≡ None
text_1042 = refl

text_1043 : expression_of (97 ∷ 11 ∷ []) ≡ None
text_1043 = refl

text_1044 : expression_of (97 ∷ 32 ∷ 38 ∷ 38 ∷ 32 ∷ 98 ∷ []) ≡ None
text_1044 = refl

text_1045 : expression_of (codes "a + b") ≡ None
text_1045 = refl

text_1046 : expression_of (codes "a - b") ≡ None
text_1046 = refl

text_1047 : expression_of (codes "a -1") ≡ None
text_1047 = refl

text_1048 : expression_of (codes "a . b") ≡ Some (path (variable (codes "a")) ((codes "b") ∷ []))
text_1048 = refl

text_1049 : expression_of (codes "a ==") ≡ None
text_1049 = refl

text_1050 : expression_of (97 ∷ 32 ∷ 61 ∷ 61 ∷ 10 ∷ []) ≡ None
text_1050 = refl

text_1051 : expression_of (codes "a and b is defined") ≡ Some (conjunction (expression (path (variable (codes "a")) ([])) (expression (defined (variable (codes "b")) ([])) (no_expressions))))
text_1051 = refl

text_1052 : expression_of (codes "a b") ≡ None
text_1052 = refl

text_1053 : expression_of (codes "a is defined == true") ≡ None
text_1053 = refl

text_1054 : expression_of (codes "a is none") ≡ None
text_1054 = refl

text_1055 : expression_of (codes "a is not not defined") ≡ None
text_1055 = refl

text_1056 : expression_of (codes "a isdefined") ≡ None
text_1056 = refl

text_1057 : expression_of (codes "a not is b") ≡ None
text_1057 = refl

text_1058 : expression_of (97 ∷ 32 ∷ 124 ∷ 32 ∷ 100 ∷ 101 ∷ 102 ∷ 97 ∷ 117 ∷ 108 ∷ 116 ∷ []) ≡ None
text_1058 = refl

text_1059 : expression_of (97 ∷ 32 ∷ 124 ∷ 32 ∷ 100 ∷ 101 ∷ 102 ∷ 97 ∷ 117 ∷ 108 ∷ 116 ∷ 40 ∷ 49 ∷ 44 ∷ 32 ∷ 116 ∷ 114 ∷ 117 ∷ 101 ∷ 41 ∷ []) ≡ None
text_1059 = refl

text_1060 : expression_of (97 ∷ 32 ∷ 124 ∷ 32 ∷ 108 ∷ 101 ∷ 110 ∷ 103 ∷ 116 ∷ 104 ∷ 32 ∷ 105 ∷ 115 ∷ 32 ∷ 100 ∷ 101 ∷ 102 ∷ 105 ∷ 110 ∷ 101 ∷ 100 ∷ []) ≡ Some (undefinable (length_of (path (variable (codes "a")) ([]))))
text_1060 = refl

text_1061 : expression_of (97 ∷ 32 ∷ 124 ∷ 32 ∷ 117 ∷ 112 ∷ 112 ∷ 101 ∷ 114 ∷ []) ≡ None
text_1061 = refl

text_1062 : expression_of (97 ∷ 35 ∷ 98 ∷ []) ≡ None
text_1062 = refl

text_1063 : expression_of (codes "a*b") ≡ None
text_1063 = refl

text_1064 : expression_of (codes "a.") ≡ None
text_1064 = refl

text_1065 : expression_of (codes "a..b") ≡ None
text_1065 = refl

text_1066 : expression_of (codes "a.b.b.b.b.b.b.b.b.b.b.b.b.b.b.b.b is defined") ≡ Some (defined (variable (codes "a")) ((codes "b") ∷ (codes "b") ∷ (codes "b") ∷ (codes "b") ∷ (codes "b") ∷ (codes "b") ∷ (codes "b") ∷ (codes "b") ∷ (codes "b") ∷ (codes "b") ∷ (codes "b") ∷ (codes "b") ∷ (codes "b") ∷ (codes "b") ∷ (codes "b") ∷ (codes "b") ∷ []))
text_1066 = refl

text_1067 : expression_of (codes "a.b.b.b.b.b.b.b.b.b.b.b.b.b.b.b.b.b +") ≡ None
text_1067 = refl

text_1068 : expression_of (codes "a.in.is") ≡ Some (path (variable (codes "a")) ((codes "in") ∷ (codes "is") ∷ []))
text_1068 = refl

text_1069 : expression_of (codes "a.not") ≡ Some (path (variable (codes "a")) ((codes "not") ∷ []))
text_1069 = refl

text_1070 : expression_of (codes "a?b") ≡ None
text_1070 = refl

text_1071 : expression_of (97 ∷ 91 ∷ 48 ∷ 93 ∷ []) ≡ None
text_1071 = refl

text_1072 : expression_of (codes "ansible_facts == 1") ≡ Some (comparison equal (path (variable (codes "ansible_facts")) ([])) (literal (int (pos 1))))
text_1072 = refl

text_1073 : expression_of (codes "ansible_facts is defined") ≡ Some (defined (variable (codes "ansible_facts")) ([]))
text_1073 = refl

text_1074 : expression_of (codes "ansible_facts is failed") ≡ Some (path_status is_failed (variable (codes "ansible_facts")) ([]))
text_1074 = refl

text_1075 : expression_of (codes "ansible_facts is not defined") ≡ Some (negation (defined (variable (codes "ansible_facts")) ([])))
text_1075 = refl

text_1076 : expression_of (codes "ansible_facts is not failed") ≡ Some (negation (path_status is_failed (variable (codes "ansible_facts")) ([])))
text_1076 = refl

text_1077 : expression_of (codes "ansible_facts is not failed and ansible_facts.hostname == 1") ≡ Some (conjunction (expression (negation (path_status is_failed (variable (codes "ansible_facts")) ([]))) (expression (comparison equal (path (variable (codes "ansible_facts")) ((codes "hostname") ∷ [])) (literal (int (pos 1)))) (no_expressions))))
text_1077 = refl

text_1078 : expression_of (codes "ansible_facts is not skipped") ≡ Some (negation (path_status is_skipped (variable (codes "ansible_facts")) ([])))
text_1078 = refl

text_1079 : expression_of (codes "ansible_facts is skipped") ≡ Some (path_status is_skipped (variable (codes "ansible_facts")) ([]))
text_1079 = refl

text_1080 : expression_of (codes "ansible_facts is undefined") ≡ Some (negation (defined (variable (codes "ansible_facts")) ([])))
text_1080 = refl

text_1081 : expression_of (codes "ansible_facts.changed is succeeded") ≡ Some (negation (path_status is_failed (variable (codes "ansible_facts")) ((codes "changed") ∷ [])))
text_1081 = refl

text_1082 : expression_of (codes "ansible_facts.hostname is defined") ≡ Some (defined (variable (codes "ansible_facts")) ((codes "hostname") ∷ []))
text_1082 = refl

text_1083 : expression_of (codes "ansible_facts.hostname is not defined") ≡ Some (negation (defined (variable (codes "ansible_facts")) ((codes "hostname") ∷ [])))
text_1083 = refl

text_1084 : expression_of (codes "ansible_facts.hostname is undefined") ≡ Some (negation (defined (variable (codes "ansible_facts")) ((codes "hostname") ∷ [])))
text_1084 = refl

text_1085 : expression_of (97 ∷ 110 ∷ 115 ∷ 105 ∷ 98 ∷ 108 ∷ 101 ∷ 95 ∷ 102 ∷ 97 ∷ 99 ∷ 116 ∷ 115 ∷ 46 ∷ 104 ∷ 111 ∷ 115 ∷ 116 ∷ 110 ∷ 97 ∷ 109 ∷ 101 ∷ 32 ∷ 124 ∷ 32 ∷ 100 ∷ 101 ∷ 102 ∷ 97 ∷ 117 ∷ 108 ∷ 116 ∷ 40 ∷ 102 ∷ 97 ∷ 108 ∷ 115 ∷ 101 ∷ 41 ∷ []) ≡ Some (path_or (variable (codes "ansible_facts")) ((codes "hostname") ∷ []) (literal (boolean false)))
text_1085 = refl

text_1086 : expression_of (codes "ansible_facts.os_family < 3") ≡ Some (comparison less (path (variable (codes "ansible_facts")) ((codes "os_family") ∷ [])) (literal (int (pos 3))))
text_1086 = refl

text_1087 : expression_of (codes "ansible_facts.os_family is defined") ≡ Some (defined (variable (codes "ansible_facts")) ((codes "os_family") ∷ []))
text_1087 = refl

text_1088 : expression_of (codes "ansible_failed_result < 3") ≡ Some (comparison less (path (variable (codes "ansible_failed_result")) ([])) (literal (int (pos 3))))
text_1088 = refl

text_1089 : expression_of (codes "ansible_failed_result is failed") ≡ Some (path_status is_failed (variable (codes "ansible_failed_result")) ([]))
text_1089 = refl

text_1090 : expression_of (codes "ansible_failed_result is not failed") ≡ Some (negation (path_status is_failed (variable (codes "ansible_failed_result")) ([])))
text_1090 = refl

text_1091 : expression_of (codes "ansible_failed_result is not skipped") ≡ Some (negation (path_status is_skipped (variable (codes "ansible_failed_result")) ([])))
text_1091 = refl

text_1092 : expression_of (codes "ansible_failed_result is not skipped and ansible_failed_result.msg == 1") ≡ Some (conjunction (expression (negation (path_status is_skipped (variable (codes "ansible_failed_result")) ([]))) (expression (comparison equal (path (variable (codes "ansible_failed_result")) ((codes "msg") ∷ [])) (literal (int (pos 1)))) (no_expressions))))
text_1092 = refl

text_1093 : expression_of (codes "ansible_failed_result is succeeded") ≡ Some (negation (path_status is_failed (variable (codes "ansible_failed_result")) ([])))
text_1093 = refl

text_1094 : expression_of (codes "ansible_failed_result.msg != true") ≡ Some (negation (comparison equal (path (variable (codes "ansible_failed_result")) ((codes "msg") ∷ [])) (literal (boolean true))))
text_1094 = refl

text_1095 : expression_of (codes "ansible_failed_result.msg is defined") ≡ Some (defined (variable (codes "ansible_failed_result")) ((codes "msg") ∷ []))
text_1095 = refl

text_1096 : expression_of (codes "ansible_failed_result.msg is not defined") ≡ Some (negation (defined (variable (codes "ansible_failed_result")) ((codes "msg") ∷ [])))
text_1096 = refl

text_1097 : expression_of (codes "ansible_failed_result.msg is undefined") ≡ Some (negation (defined (variable (codes "ansible_failed_result")) ((codes "msg") ∷ [])))
text_1097 = refl

text_1098 : expression_of (97 ∷ 110 ∷ 115 ∷ 105 ∷ 98 ∷ 108 ∷ 101 ∷ 95 ∷ 102 ∷ 97 ∷ 105 ∷ 108 ∷ 101 ∷ 100 ∷ 95 ∷ 114 ∷ 101 ∷ 115 ∷ 117 ∷ 108 ∷ 116 ∷ 46 ∷ 109 ∷ 115 ∷ 103 ∷ 32 ∷ 124 ∷ 32 ∷ 100 ∷ 101 ∷ 102 ∷ 97 ∷ 117 ∷ 108 ∷ 116 ∷ 40 ∷ 102 ∷ 97 ∷ 108 ∷ 115 ∷ 101 ∷ 41 ∷ []) ≡ Some (path_or (variable (codes "ansible_failed_result")) ((codes "msg") ∷ []) (literal (boolean false)))
text_1098 = refl

text_1099 : expression_of (codes "ansible_failed_result.rc == 1") ≡ Some (comparison equal (path (variable (codes "ansible_failed_result")) ((codes "rc") ∷ [])) (literal (int (pos 1))))
text_1099 = refl

text_1100 : expression_of (codes "ansible_failed_result.stat.isdir is succeeded") ≡ Some (negation (path_status is_failed (variable (codes "ansible_failed_result")) ((codes "stat") ∷ (codes "isdir") ∷ [])))
text_1100 = refl

text_1101 : expression_of (codes "ansible_hostname != 1") ≡ Some (negation (comparison equal (path (variable (codes "ansible_hostname")) ([])) (literal (int (pos 1)))))
text_1101 = refl

text_1102 : expression_of (codes "ansible_hostname != true") ≡ Some (negation (comparison equal (path (variable (codes "ansible_hostname")) ([])) (literal (boolean true))))
text_1102 = refl

text_1103 : expression_of (codes "ansible_hostname is undefined") ≡ Some (negation (defined (variable (codes "ansible_hostname")) ([])))
text_1103 = refl

text_1104 : expression_of (codes "ansible_hostname.stdout is not skipped") ≡ Some (negation (path_status is_skipped (variable (codes "ansible_hostname")) ((codes "stdout") ∷ [])))
text_1104 = refl

text_1105 : expression_of (codes "ansible_hostname.stdout is skipped") ≡ Some (path_status is_skipped (variable (codes "ansible_hostname")) ((codes "stdout") ∷ []))
text_1105 = refl

text_1106 : expression_of (codes "ansible_os_family == 1") ≡ Some (comparison equal (path (variable (codes "ansible_os_family")) ([])) (literal (int (pos 1))))
text_1106 = refl

text_1107 : expression_of (codes "ansible_os_family is defined") ≡ Some (defined (variable (codes "ansible_os_family")) ([]))
text_1107 = refl

text_1108 : expression_of (codes "ansible_os_family is not defined") ≡ Some (negation (defined (variable (codes "ansible_os_family")) ([])))
text_1108 = refl

text_1109 : expression_of (codes "ansible_os_family is undefined") ≡ Some (negation (defined (variable (codes "ansible_os_family")) ([])))
text_1109 = refl

text_1110 : expression_of (97 ∷ 110 ∷ 115 ∷ 105 ∷ 98 ∷ 108 ∷ 101 ∷ 95 ∷ 111 ∷ 115 ∷ 95 ∷ 102 ∷ 97 ∷ 109 ∷ 105 ∷ 108 ∷ 121 ∷ 32 ∷ 124 ∷ 32 ∷ 100 ∷ 101 ∷ 102 ∷ 97 ∷ 117 ∷ 108 ∷ 116 ∷ 40 ∷ 102 ∷ 97 ∷ 108 ∷ 115 ∷ 101 ∷ 41 ∷ []) ≡ Some (path_or (variable (codes "ansible_os_family")) ([]) (literal (boolean false)))
text_1110 = refl

text_1111 : expression_of (97 ∷ 110 ∷ 115 ∷ 105 ∷ 98 ∷ 108 ∷ 101 ∷ 95 ∷ 112 ∷ 108 ∷ 97 ∷ 121 ∷ 95 ∷ 98 ∷ 97 ∷ 116 ∷ 99 ∷ 104 ∷ 32 ∷ 33 ∷ 61 ∷ 32 ∷ 91 ∷ 49 ∷ 93 ∷ []) ≡ Some (negation (comparison equal (path (variable (codes "ansible_play_batch")) ([])) (list_of (expression (literal (int (pos 1))) (no_expressions)))))
text_1111 = refl

text_1112 : expression_of (codes "ansible_play_batch != true") ≡ Some (negation (comparison equal (path (variable (codes "ansible_play_batch")) ([])) (literal (boolean true))))
text_1112 = refl

text_1113 : expression_of (97 ∷ 110 ∷ 115 ∷ 105 ∷ 98 ∷ 108 ∷ 101 ∷ 95 ∷ 112 ∷ 108 ∷ 97 ∷ 121 ∷ 95 ∷ 98 ∷ 97 ∷ 116 ∷ 99 ∷ 104 ∷ 32 ∷ 61 ∷ 61 ∷ 32 ∷ 91 ∷ 49 ∷ 93 ∷ []) ≡ Some (comparison equal (path (variable (codes "ansible_play_batch")) ([])) (list_of (expression (literal (int (pos 1))) (no_expressions))))
text_1113 = refl

text_1114 : expression_of (codes "ansible_play_batch is defined") ≡ Some (defined (variable (codes "ansible_play_batch")) ([]))
text_1114 = refl

text_1115 : expression_of (codes "ansible_play_batch is not defined") ≡ Some (negation (defined (variable (codes "ansible_play_batch")) ([])))
text_1115 = refl

text_1116 : expression_of (codes "ansible_play_batch is undefined") ≡ Some (negation (defined (variable (codes "ansible_play_batch")) ([])))
text_1116 = refl

text_1117 : expression_of (97 ∷ 110 ∷ 115 ∷ 105 ∷ 98 ∷ 108 ∷ 101 ∷ 95 ∷ 112 ∷ 108 ∷ 97 ∷ 121 ∷ 95 ∷ 98 ∷ 97 ∷ 116 ∷ 99 ∷ 104 ∷ 32 ∷ 124 ∷ 32 ∷ 100 ∷ 101 ∷ 102 ∷ 97 ∷ 117 ∷ 108 ∷ 116 ∷ 40 ∷ 102 ∷ 97 ∷ 108 ∷ 115 ∷ 101 ∷ 41 ∷ []) ≡ Some (path_or (variable (codes "ansible_play_batch")) ([]) (literal (boolean false)))
text_1117 = refl

text_1118 : expression_of (codes "ansible_play_batch.os_family is changed") ≡ Some (path_status is_changed (variable (codes "ansible_play_batch")) ((codes "os_family") ∷ []))
text_1118 = refl

text_1119 : expression_of (codes "ansible_play_batch.results is skipped") ≡ Some (path_status is_skipped (variable (codes "ansible_play_batch")) ((codes "results") ∷ []))
text_1119 = refl

text_1120 : expression_of (codes "ansible_play_batch.stat.isdir") ≡ Some (path (variable (codes "ansible_play_batch")) ((codes "stat") ∷ (codes "isdir") ∷ []))
text_1120 = refl

text_1121 : expression_of (codes "ansible_play_batch.stdout is changed") ≡ Some (path_status is_changed (variable (codes "ansible_play_batch")) ((codes "stdout") ∷ []))
text_1121 = refl

text_1122 : expression_of (codes "ansible_play_batch.stdout_lines is not skipped") ≡ Some (negation (path_status is_skipped (variable (codes "ansible_play_batch")) ((codes "stdout_lines") ∷ [])))
text_1122 = refl

text_1123 : expression_of (codes "false") ≡ Some (literal (boolean false))
text_1123 = refl

text_1124 : expression_of (codes "false and r1==r1.f") ≡ Some (conjunction (expression (literal (boolean false)) (expression (comparison equal (path (variable (codes "r1")) ([])) (path (variable (codes "r1")) ((codes "f") ∷ []))) (no_expressions))))
text_1124 = refl

text_1125 : expression_of (codes "group_names") ≡ Some (path (variable (codes "group_names")) ([]))
text_1125 = refl

text_1126 : expression_of (codes "group_names != true") ≡ Some (negation (comparison equal (path (variable (codes "group_names")) ([])) (literal (boolean true))))
text_1126 = refl

text_1127 : expression_of (103 ∷ 114 ∷ 111 ∷ 117 ∷ 112 ∷ 95 ∷ 110 ∷ 97 ∷ 109 ∷ 101 ∷ 115 ∷ 32 ∷ 61 ∷ 61 ∷ 32 ∷ 91 ∷ 49 ∷ 93 ∷ []) ≡ Some (comparison equal (path (variable (codes "group_names")) ([])) (list_of (expression (literal (int (pos 1))) (no_expressions))))
text_1127 = refl

text_1128 : expression_of (codes "group_names is defined") ≡ Some (defined (variable (codes "group_names")) ([]))
text_1128 = refl

text_1129 : expression_of (codes "group_names is not defined") ≡ Some (negation (defined (variable (codes "group_names")) ([])))
text_1129 = refl

text_1130 : expression_of (codes "group_names is succeeded") ≡ Some (negation (path_status is_failed (variable (codes "group_names")) ([])))
text_1130 = refl

text_1131 : expression_of (103 ∷ 114 ∷ 111 ∷ 117 ∷ 112 ∷ 95 ∷ 110 ∷ 97 ∷ 109 ∷ 101 ∷ 115 ∷ 32 ∷ 124 ∷ 32 ∷ 100 ∷ 101 ∷ 102 ∷ 97 ∷ 117 ∷ 108 ∷ 116 ∷ 40 ∷ 102 ∷ 97 ∷ 108 ∷ 115 ∷ 101 ∷ 41 ∷ []) ≡ Some (path_or (variable (codes "group_names")) ([]) (literal (boolean false)))
text_1131 = refl

text_1132 : expression_of (codes "group_names.hostname == 1") ≡ Some (comparison equal (path (variable (codes "group_names")) ((codes "hostname") ∷ [])) (literal (int (pos 1))))
text_1132 = refl

text_1133 : expression_of (codes "group_names.os_family is changed") ≡ Some (path_status is_changed (variable (codes "group_names")) ((codes "os_family") ∷ []))
text_1133 = refl

text_1134 : expression_of (codes "group_names.os_family is failed") ≡ Some (path_status is_failed (variable (codes "group_names")) ((codes "os_family") ∷ []))
text_1134 = refl

text_1135 : expression_of (codes "group_names.rc == 1") ≡ Some (comparison equal (path (variable (codes "group_names")) ((codes "rc") ∷ [])) (literal (int (pos 1))))
text_1135 = refl

text_1136 : expression_of (codes "group_names.results is defined") ≡ Some (defined (variable (codes "group_names")) ((codes "results") ∷ []))
text_1136 = refl

text_1137 : expression_of (codes "group_names.stdout_lines is succeeded") ≡ Some (negation (path_status is_failed (variable (codes "group_names")) ((codes "stdout_lines") ∷ [])))
text_1137 = refl

text_1138 : expression_of (codes "group_names==-3") ≡ Some (comparison equal (path (variable (codes "group_names")) ([])) (literal (int (negsuc 2))))
text_1138 = refl

text_1139 : expression_of (codes "groups") ≡ Some (path (variable (codes "groups")) ([]))
text_1139 = refl

text_1140 : expression_of (codes "groups is not skipped") ≡ Some (negation (path_status is_skipped (variable (codes "groups")) ([])))
text_1140 = refl

text_1141 : expression_of (codes "groups is succeeded") ≡ Some (negation (path_status is_failed (variable (codes "groups")) ([])))
text_1141 = refl

text_1142 : expression_of (codes "groups.all") ≡ Some (path (variable (codes "groups")) ((codes "all") ∷ []))
text_1142 = refl

text_1143 : expression_of (codes "groups.all == 1") ≡ Some (comparison equal (path (variable (codes "groups")) ((codes "all") ∷ [])) (literal (int (pos 1))))
text_1143 = refl

text_1144 : expression_of (103 ∷ 114 ∷ 111 ∷ 117 ∷ 112 ∷ 115 ∷ 46 ∷ 97 ∷ 108 ∷ 108 ∷ 32 ∷ 61 ∷ 61 ∷ 32 ∷ 91 ∷ 49 ∷ 93 ∷ []) ≡ Some (comparison equal (path (variable (codes "groups")) ((codes "all") ∷ [])) (list_of (expression (literal (int (pos 1))) (no_expressions))))
text_1144 = refl

text_1145 : expression_of (codes "groups.all is defined") ≡ Some (defined (variable (codes "groups")) ((codes "all") ∷ []))
text_1145 = refl

text_1146 : expression_of (codes "groups.all is not defined") ≡ Some (negation (defined (variable (codes "groups")) ((codes "all") ∷ [])))
text_1146 = refl

text_1147 : expression_of (codes "groups.all is undefined") ≡ Some (negation (defined (variable (codes "groups")) ((codes "all") ∷ [])))
text_1147 = refl

text_1148 : expression_of (103 ∷ 114 ∷ 111 ∷ 117 ∷ 112 ∷ 115 ∷ 46 ∷ 97 ∷ 108 ∷ 108 ∷ 32 ∷ 124 ∷ 32 ∷ 100 ∷ 101 ∷ 102 ∷ 97 ∷ 117 ∷ 108 ∷ 116 ∷ 40 ∷ 102 ∷ 97 ∷ 108 ∷ 115 ∷ 101 ∷ 41 ∷ []) ≡ Some (path_or (variable (codes "groups")) ((codes "all") ∷ []) (literal (boolean false)))
text_1148 = refl

text_1149 : expression_of (codes "groups.all.b.b.b.b.b.b.b.b.b.b.b.b.b.b.b is defined") ≡ Some (defined (variable (codes "groups")) ((codes "all") ∷ (codes "b") ∷ (codes "b") ∷ (codes "b") ∷ (codes "b") ∷ (codes "b") ∷ (codes "b") ∷ (codes "b") ∷ (codes "b") ∷ (codes "b") ∷ (codes "b") ∷ (codes "b") ∷ (codes "b") ∷ (codes "b") ∷ (codes "b") ∷ (codes "b") ∷ []))
text_1149 = refl

text_1150 : expression_of (codes "groups.all.x") ≡ Some (path (variable (codes "groups")) ((codes "all") ∷ (codes "x") ∷ []))
text_1150 = refl

text_1151 : expression_of (103 ∷ 114 ∷ 111 ∷ 117 ∷ 112 ∷ 115 ∷ 46 ∷ 97 ∷ 108 ∷ 108 ∷ 91 ∷ 45 ∷ 49 ∷ 93 ∷ []) ≡ None
text_1151 = refl

text_1152 : expression_of (103 ∷ 114 ∷ 111 ∷ 117 ∷ 112 ∷ 115 ∷ 46 ∷ 97 ∷ 108 ∷ 108 ∷ 91 ∷ 48 ∷ 93 ∷ []) ≡ Some (path (member (codes "all") 0) ([]))
text_1152 = refl

text_1153 : expression_of (103 ∷ 114 ∷ 111 ∷ 117 ∷ 112 ∷ 115 ∷ 46 ∷ 97 ∷ 108 ∷ 108 ∷ 91 ∷ 48 ∷ 93 ∷ 46 ∷ 120 ∷ []) ≡ None
text_1153 = refl

text_1154 : expression_of (103 ∷ 114 ∷ 111 ∷ 117 ∷ 112 ∷ 115 ∷ 46 ∷ 97 ∷ 108 ∷ 108 ∷ 91 ∷ 49 ∷ 93 ∷ []) ≡ Some (path (member (codes "all") 1) ([]))
text_1154 = refl

text_1155 : expression_of (103 ∷ 114 ∷ 111 ∷ 117 ∷ 112 ∷ 115 ∷ 46 ∷ 97 ∷ 108 ∷ 108 ∷ 91 ∷ 57 ∷ 57 ∷ 57 ∷ 57 ∷ 57 ∷ 57 ∷ 57 ∷ 57 ∷ 57 ∷ 57 ∷ 57 ∷ 57 ∷ 57 ∷ 57 ∷ 57 ∷ 57 ∷ 57 ∷ 57 ∷ 57 ∷ 57 ∷ 93 ∷ []) ≡ Some (path (member (codes "all") 1024) ([]))
text_1155 = refl

text_1156 : expression_of (codes "groups.zz is undefined") ≡ Some (negation (defined (variable (codes "groups")) ((codes "zz") ∷ [])))
text_1156 = refl

text_1157 : expression_of (codes "hostvars.zz") ≡ Some (hostvars_alone (Some (named_host (codes "zz"))))
text_1157 = refl

text_1158 : expression_of (104 ∷ 111 ∷ 115 ∷ 116 ∷ 118 ∷ 97 ∷ 114 ∷ 115 ∷ 91 ∷ 40 ∷ 105 ∷ 116 ∷ 101 ∷ 109 ∷ 41 ∷ 93 ∷ 46 ∷ 120 ∷ []) ≡ None
text_1158 = refl

text_1159 : expression_of (104 ∷ 111 ∷ 115 ∷ 116 ∷ 118 ∷ 97 ∷ 114 ∷ 115 ∷ 91 ∷ 48 ∷ 93 ∷ []) ≡ None
text_1159 = refl

text_1160 : expression_of (104 ∷ 111 ∷ 115 ∷ 116 ∷ 118 ∷ 97 ∷ 114 ∷ 115 ∷ 91 ∷ 103 ∷ 114 ∷ 111 ∷ 117 ∷ 112 ∷ 115 ∷ 46 ∷ 97 ∷ 108 ∷ 108 ∷ 91 ∷ 48 ∷ 93 ∷ 93 ∷ 46 ∷ 105 ∷ 110 ∷ 118 ∷ []) ≡ Some (path (other (group_member (codes "all") 0) (codes "inv")) ([]))
text_1160 = refl

text_1161 : expression_of (104 ∷ 111 ∷ 115 ∷ 116 ∷ 118 ∷ 97 ∷ 114 ∷ 115 ∷ 91 ∷ 103 ∷ 114 ∷ 111 ∷ 117 ∷ 112 ∷ 115 ∷ 46 ∷ 97 ∷ 108 ∷ 108 ∷ 93 ∷ 46 ∷ 120 ∷ []) ≡ None
text_1161 = refl

text_1162 : expression_of (104 ∷ 111 ∷ 115 ∷ 116 ∷ 118 ∷ 97 ∷ 114 ∷ 115 ∷ 91 ∷ 105 ∷ 110 ∷ 118 ∷ 101 ∷ 110 ∷ 116 ∷ 111 ∷ 114 ∷ 121 ∷ 95 ∷ 104 ∷ 111 ∷ 115 ∷ 116 ∷ 110 ∷ 97 ∷ 109 ∷ 101 ∷ 93 ∷ 46 ∷ 105 ∷ 49 ∷ 32 ∷ 105 ∷ 115 ∷ 32 ∷ 117 ∷ 110 ∷ 100 ∷ 101 ∷ 102 ∷ 105 ∷ 110 ∷ 101 ∷ 100 ∷ []) ≡ Some (negation (defined (other this_host (codes "i1")) ([])))
text_1162 = refl

text_1163 : expression_of (104 ∷ 111 ∷ 115 ∷ 116 ∷ 118 ∷ 97 ∷ 114 ∷ 115 ∷ 91 ∷ 105 ∷ 110 ∷ 118 ∷ 101 ∷ 110 ∷ 116 ∷ 111 ∷ 114 ∷ 121 ∷ 95 ∷ 104 ∷ 111 ∷ 115 ∷ 116 ∷ 110 ∷ 97 ∷ 109 ∷ 101 ∷ 93 ∷ 46 ∷ 105 ∷ 110 ∷ 118 ∷ []) ≡ Some (path (other this_host (codes "inv")) ([]))
text_1163 = refl

text_1164 : expression_of (104 ∷ 111 ∷ 115 ∷ 116 ∷ 118 ∷ 97 ∷ 114 ∷ 115 ∷ 91 ∷ 105 ∷ 110 ∷ 118 ∷ 101 ∷ 110 ∷ 116 ∷ 111 ∷ 114 ∷ 121 ∷ 95 ∷ 104 ∷ 111 ∷ 115 ∷ 116 ∷ 110 ∷ 97 ∷ 109 ∷ 101 ∷ 93 ∷ 46 ∷ 105 ∷ 110 ∷ 118 ∷ 32 ∷ 105 ∷ 115 ∷ 32 ∷ 99 ∷ 104 ∷ 97 ∷ 110 ∷ 103 ∷ 101 ∷ 100 ∷ []) ≡ Some (path_status is_changed (other this_host (codes "inv")) ([]))
text_1164 = refl

text_1165 : expression_of (104 ∷ 111 ∷ 115 ∷ 116 ∷ 118 ∷ 97 ∷ 114 ∷ 115 ∷ 91 ∷ 105 ∷ 110 ∷ 118 ∷ 101 ∷ 110 ∷ 116 ∷ 111 ∷ 114 ∷ 121 ∷ 95 ∷ 104 ∷ 111 ∷ 115 ∷ 116 ∷ 110 ∷ 97 ∷ 109 ∷ 101 ∷ 93 ∷ 46 ∷ 105 ∷ 110 ∷ 118 ∷ 32 ∷ 105 ∷ 115 ∷ 32 ∷ 100 ∷ 101 ∷ 102 ∷ 105 ∷ 110 ∷ 101 ∷ 100 ∷ []) ≡ Some (defined (other this_host (codes "inv")) ([]))
text_1165 = refl

text_1166 : expression_of (104 ∷ 111 ∷ 115 ∷ 116 ∷ 118 ∷ 97 ∷ 114 ∷ 115 ∷ 91 ∷ 105 ∷ 110 ∷ 118 ∷ 101 ∷ 110 ∷ 116 ∷ 111 ∷ 114 ∷ 121 ∷ 95 ∷ 104 ∷ 111 ∷ 115 ∷ 116 ∷ 110 ∷ 97 ∷ 109 ∷ 101 ∷ 93 ∷ 46 ∷ 105 ∷ 110 ∷ 118 ∷ 32 ∷ 105 ∷ 115 ∷ 32 ∷ 102 ∷ 97 ∷ 105 ∷ 108 ∷ 101 ∷ 100 ∷ []) ≡ Some (path_status is_failed (other this_host (codes "inv")) ([]))
text_1166 = refl

text_1167 : expression_of (104 ∷ 111 ∷ 115 ∷ 116 ∷ 118 ∷ 97 ∷ 114 ∷ 115 ∷ 91 ∷ 105 ∷ 110 ∷ 118 ∷ 101 ∷ 110 ∷ 116 ∷ 111 ∷ 114 ∷ 121 ∷ 95 ∷ 104 ∷ 111 ∷ 115 ∷ 116 ∷ 110 ∷ 97 ∷ 109 ∷ 101 ∷ 93 ∷ 46 ∷ 105 ∷ 110 ∷ 118 ∷ 32 ∷ 105 ∷ 115 ∷ 32 ∷ 110 ∷ 111 ∷ 116 ∷ 32 ∷ 100 ∷ 101 ∷ 102 ∷ 105 ∷ 110 ∷ 101 ∷ 100 ∷ []) ≡ Some (negation (defined (other this_host (codes "inv")) ([])))
text_1167 = refl

text_1168 : expression_of (104 ∷ 111 ∷ 115 ∷ 116 ∷ 118 ∷ 97 ∷ 114 ∷ 115 ∷ 91 ∷ 105 ∷ 110 ∷ 118 ∷ 101 ∷ 110 ∷ 116 ∷ 111 ∷ 114 ∷ 121 ∷ 95 ∷ 104 ∷ 111 ∷ 115 ∷ 116 ∷ 110 ∷ 97 ∷ 109 ∷ 101 ∷ 93 ∷ 46 ∷ 105 ∷ 110 ∷ 118 ∷ 32 ∷ 105 ∷ 115 ∷ 32 ∷ 110 ∷ 111 ∷ 116 ∷ 32 ∷ 115 ∷ 107 ∷ 105 ∷ 112 ∷ 112 ∷ 101 ∷ 100 ∷ []) ≡ Some (negation (path_status is_skipped (other this_host (codes "inv")) ([])))
text_1168 = refl

text_1169 : expression_of (104 ∷ 111 ∷ 115 ∷ 116 ∷ 118 ∷ 97 ∷ 114 ∷ 115 ∷ 91 ∷ 105 ∷ 110 ∷ 118 ∷ 101 ∷ 110 ∷ 116 ∷ 111 ∷ 114 ∷ 121 ∷ 95 ∷ 104 ∷ 111 ∷ 115 ∷ 116 ∷ 110 ∷ 97 ∷ 109 ∷ 101 ∷ 93 ∷ 46 ∷ 105 ∷ 110 ∷ 118 ∷ 32 ∷ 105 ∷ 115 ∷ 32 ∷ 117 ∷ 110 ∷ 100 ∷ 101 ∷ 102 ∷ 105 ∷ 110 ∷ 101 ∷ 100 ∷ []) ≡ Some (negation (defined (other this_host (codes "inv")) ([])))
text_1169 = refl

text_1170 : expression_of (104 ∷ 111 ∷ 115 ∷ 116 ∷ 118 ∷ 97 ∷ 114 ∷ 115 ∷ 91 ∷ 105 ∷ 110 ∷ 118 ∷ 101 ∷ 110 ∷ 116 ∷ 111 ∷ 114 ∷ 121 ∷ 95 ∷ 104 ∷ 111 ∷ 115 ∷ 116 ∷ 110 ∷ 97 ∷ 109 ∷ 101 ∷ 93 ∷ 46 ∷ 111 ∷ 112 ∷ 32 ∷ 105 ∷ 115 ∷ 32 ∷ 100 ∷ 101 ∷ 102 ∷ 105 ∷ 110 ∷ 101 ∷ 100 ∷ []) ≡ Some (defined (other this_host (codes "op")) ([]))
text_1170 = refl

text_1171 : expression_of (104 ∷ 111 ∷ 115 ∷ 116 ∷ 118 ∷ 97 ∷ 114 ∷ 115 ∷ 91 ∷ 105 ∷ 110 ∷ 118 ∷ 101 ∷ 110 ∷ 116 ∷ 111 ∷ 114 ∷ 121 ∷ 95 ∷ 104 ∷ 111 ∷ 115 ∷ 116 ∷ 110 ∷ 97 ∷ 109 ∷ 101 ∷ 93 ∷ 46 ∷ 111 ∷ 112 ∷ 113 ∷ 46 ∷ 104 ∷ 111 ∷ 115 ∷ 116 ∷ 110 ∷ 97 ∷ 109 ∷ 101 ∷ 32 ∷ 61 ∷ 61 ∷ 32 ∷ 49 ∷ []) ≡ Some (comparison equal (path (other this_host (codes "opq")) ((codes "hostname") ∷ [])) (literal (int (pos 1))))
text_1171 = refl

text_1172 : expression_of (104 ∷ 111 ∷ 115 ∷ 116 ∷ 118 ∷ 97 ∷ 114 ∷ 115 ∷ 91 ∷ 105 ∷ 110 ∷ 118 ∷ 101 ∷ 110 ∷ 116 ∷ 111 ∷ 114 ∷ 121 ∷ 95 ∷ 104 ∷ 111 ∷ 115 ∷ 116 ∷ 110 ∷ 97 ∷ 109 ∷ 101 ∷ 93 ∷ 46 ∷ 111 ∷ 112 ∷ 113 ∷ 46 ∷ 104 ∷ 111 ∷ 115 ∷ 116 ∷ 110 ∷ 97 ∷ 109 ∷ 101 ∷ 32 ∷ 105 ∷ 115 ∷ 32 ∷ 115 ∷ 117 ∷ 99 ∷ 99 ∷ 101 ∷ 101 ∷ 100 ∷ 101 ∷ 100 ∷ []) ≡ Some (negation (path_status is_failed (other this_host (codes "opq")) ((codes "hostname") ∷ [])))
text_1172 = refl

text_1173 : expression_of (104 ∷ 111 ∷ 115 ∷ 116 ∷ 118 ∷ 97 ∷ 114 ∷ 115 ∷ 91 ∷ 105 ∷ 110 ∷ 118 ∷ 101 ∷ 110 ∷ 116 ∷ 111 ∷ 114 ∷ 121 ∷ 95 ∷ 104 ∷ 111 ∷ 115 ∷ 116 ∷ 110 ∷ 97 ∷ 109 ∷ 101 ∷ 93 ∷ 46 ∷ 114 ∷ 46 ∷ 111 ∷ 115 ∷ 95 ∷ 102 ∷ 97 ∷ 109 ∷ 105 ∷ 108 ∷ 121 ∷ 32 ∷ 105 ∷ 115 ∷ 32 ∷ 110 ∷ 111 ∷ 116 ∷ 32 ∷ 100 ∷ 101 ∷ 102 ∷ 105 ∷ 110 ∷ 101 ∷ 100 ∷ []) ≡ Some (negation (defined (other this_host (codes "r")) ((codes "os_family") ∷ [])))
text_1173 = refl

text_1174 : expression_of (104 ∷ 111 ∷ 115 ∷ 116 ∷ 118 ∷ 97 ∷ 114 ∷ 115 ∷ 91 ∷ 105 ∷ 110 ∷ 118 ∷ 101 ∷ 110 ∷ 116 ∷ 111 ∷ 114 ∷ 121 ∷ 95 ∷ 104 ∷ 111 ∷ 115 ∷ 116 ∷ 110 ∷ 97 ∷ 109 ∷ 101 ∷ 93 ∷ 46 ∷ 114 ∷ 49 ∷ 46 ∷ 102 ∷ 97 ∷ 105 ∷ 108 ∷ 101 ∷ 100 ∷ 32 ∷ 105 ∷ 115 ∷ 32 ∷ 100 ∷ 101 ∷ 102 ∷ 105 ∷ 110 ∷ 101 ∷ 100 ∷ []) ≡ Some (defined (other this_host (codes "r1")) ((codes "failed") ∷ []))
text_1174 = refl

text_1175 : expression_of (104 ∷ 111 ∷ 115 ∷ 116 ∷ 118 ∷ 97 ∷ 114 ∷ 115 ∷ 91 ∷ 105 ∷ 110 ∷ 118 ∷ 101 ∷ 110 ∷ 116 ∷ 111 ∷ 114 ∷ 121 ∷ 95 ∷ 104 ∷ 111 ∷ 115 ∷ 116 ∷ 110 ∷ 97 ∷ 109 ∷ 101 ∷ 93 ∷ 46 ∷ 114 ∷ 50 ∷ 32 ∷ 105 ∷ 115 ∷ 32 ∷ 100 ∷ 101 ∷ 102 ∷ 105 ∷ 110 ∷ 101 ∷ 100 ∷ []) ≡ Some (defined (other this_host (codes "r2")) ([]))
text_1175 = refl

text_1176 : expression_of (104 ∷ 111 ∷ 115 ∷ 116 ∷ 118 ∷ 97 ∷ 114 ∷ 115 ∷ 91 ∷ 105 ∷ 110 ∷ 118 ∷ 101 ∷ 110 ∷ 116 ∷ 111 ∷ 114 ∷ 121 ∷ 95 ∷ 104 ∷ 111 ∷ 115 ∷ 116 ∷ 110 ∷ 97 ∷ 109 ∷ 101 ∷ 93 ∷ 46 ∷ 114 ∷ 50 ∷ 46 ∷ 102 ∷ 97 ∷ 105 ∷ 108 ∷ 101 ∷ 100 ∷ 32 ∷ 105 ∷ 115 ∷ 32 ∷ 100 ∷ 101 ∷ 102 ∷ 105 ∷ 110 ∷ 101 ∷ 100 ∷ []) ≡ Some (defined (other this_host (codes "r2")) ((codes "failed") ∷ []))
text_1176 = refl

text_1177 : expression_of (104 ∷ 111 ∷ 115 ∷ 116 ∷ 118 ∷ 97 ∷ 114 ∷ 115 ∷ 91 ∷ 105 ∷ 110 ∷ 118 ∷ 101 ∷ 110 ∷ 116 ∷ 111 ∷ 114 ∷ 121 ∷ 95 ∷ 104 ∷ 111 ∷ 115 ∷ 116 ∷ 110 ∷ 97 ∷ 109 ∷ 101 ∷ 93 ∷ 46 ∷ 114 ∷ 51 ∷ 46 ∷ 99 ∷ 104 ∷ 97 ∷ 110 ∷ 103 ∷ 101 ∷ 100 ∷ 32 ∷ 124 ∷ 32 ∷ 100 ∷ 101 ∷ 102 ∷ 97 ∷ 117 ∷ 108 ∷ 116 ∷ 40 ∷ 102 ∷ 97 ∷ 108 ∷ 115 ∷ 101 ∷ 41 ∷ []) ≡ Some (path_or (other this_host (codes "r3")) ((codes "changed") ∷ []) (literal (boolean false)))
text_1177 = refl

text_1178 : expression_of (104 ∷ 111 ∷ 115 ∷ 116 ∷ 118 ∷ 97 ∷ 114 ∷ 115 ∷ 91 ∷ 105 ∷ 110 ∷ 118 ∷ 101 ∷ 110 ∷ 116 ∷ 111 ∷ 114 ∷ 121 ∷ 95 ∷ 104 ∷ 111 ∷ 115 ∷ 116 ∷ 110 ∷ 97 ∷ 109 ∷ 101 ∷ 93 ∷ 46 ∷ 115 ∷ 49 ∷ 32 ∷ 124 ∷ 32 ∷ 100 ∷ 101 ∷ 102 ∷ 97 ∷ 117 ∷ 108 ∷ 116 ∷ 40 ∷ 102 ∷ 97 ∷ 108 ∷ 115 ∷ 101 ∷ 41 ∷ []) ≡ Some (path_or (other this_host (codes "s1")) ([]) (literal (boolean false)))
text_1178 = refl

text_1179 : expression_of (104 ∷ 111 ∷ 115 ∷ 116 ∷ 118 ∷ 97 ∷ 114 ∷ 115 ∷ 91 ∷ 105 ∷ 110 ∷ 118 ∷ 101 ∷ 110 ∷ 116 ∷ 111 ∷ 114 ∷ 121 ∷ 95 ∷ 104 ∷ 111 ∷ 115 ∷ 116 ∷ 110 ∷ 97 ∷ 109 ∷ 101 ∷ 93 ∷ 46 ∷ 115 ∷ 50 ∷ 32 ∷ 105 ∷ 115 ∷ 32 ∷ 100 ∷ 101 ∷ 102 ∷ 105 ∷ 110 ∷ 101 ∷ 100 ∷ []) ≡ Some (defined (other this_host (codes "s2")) ([]))
text_1179 = refl

text_1180 : expression_of (104 ∷ 111 ∷ 115 ∷ 116 ∷ 118 ∷ 97 ∷ 114 ∷ 115 ∷ 91 ∷ 105 ∷ 110 ∷ 118 ∷ 101 ∷ 110 ∷ 116 ∷ 111 ∷ 114 ∷ 121 ∷ 95 ∷ 104 ∷ 111 ∷ 115 ∷ 116 ∷ 110 ∷ 97 ∷ 109 ∷ 101 ∷ 93 ∷ 46 ∷ 121 ∷ 32 ∷ 61 ∷ 61 ∷ 32 ∷ 49 ∷ []) ≡ Some (comparison equal (path (other this_host (codes "y")) ([])) (literal (int (pos 1))))
text_1180 = refl

text_1181 : expression_of (104 ∷ 111 ∷ 115 ∷ 116 ∷ 118 ∷ 97 ∷ 114 ∷ 115 ∷ 91 ∷ 105 ∷ 110 ∷ 118 ∷ 101 ∷ 110 ∷ 116 ∷ 111 ∷ 114 ∷ 121 ∷ 95 ∷ 104 ∷ 111 ∷ 115 ∷ 116 ∷ 110 ∷ 97 ∷ 109 ∷ 101 ∷ 93 ∷ 46 ∷ 121 ∷ 46 ∷ 114 ∷ 99 ∷ 32 ∷ 105 ∷ 115 ∷ 32 ∷ 99 ∷ 104 ∷ 97 ∷ 110 ∷ 103 ∷ 101 ∷ 100 ∷ []) ≡ Some (path_status is_changed (other this_host (codes "y")) ((codes "rc") ∷ []))
text_1181 = refl

text_1182 : expression_of (104 ∷ 111 ∷ 115 ∷ 116 ∷ 118 ∷ 97 ∷ 114 ∷ 115 ∷ 91 ∷ 105 ∷ 116 ∷ 101 ∷ 109 ∷ 93 ∷ 46 ∷ 97 ∷ 110 ∷ 115 ∷ 105 ∷ 98 ∷ 108 ∷ 101 ∷ 95 ∷ 104 ∷ 111 ∷ 115 ∷ 116 ∷ 110 ∷ 97 ∷ 109 ∷ 101 ∷ 46 ∷ 104 ∷ 111 ∷ 115 ∷ 116 ∷ 110 ∷ 97 ∷ 109 ∷ 101 ∷ 32 ∷ 105 ∷ 115 ∷ 32 ∷ 99 ∷ 104 ∷ 97 ∷ 110 ∷ 103 ∷ 101 ∷ 100 ∷ []) ≡ Some (path_status is_changed (other item_host (codes "ansible_hostname")) ((codes "hostname") ∷ []))
text_1182 = refl

text_1183 : expression_of (104 ∷ 111 ∷ 115 ∷ 116 ∷ 118 ∷ 97 ∷ 114 ∷ 115 ∷ 91 ∷ 105 ∷ 116 ∷ 101 ∷ 109 ∷ 93 ∷ 46 ∷ 105 ∷ 49 ∷ 32 ∷ 105 ∷ 115 ∷ 32 ∷ 100 ∷ 101 ∷ 102 ∷ 105 ∷ 110 ∷ 101 ∷ 100 ∷ []) ≡ Some (defined (other item_host (codes "i1")) ([]))
text_1183 = refl

text_1184 : expression_of (104 ∷ 111 ∷ 115 ∷ 116 ∷ 118 ∷ 97 ∷ 114 ∷ 115 ∷ 91 ∷ 105 ∷ 116 ∷ 101 ∷ 109 ∷ 93 ∷ 46 ∷ 105 ∷ 49 ∷ 32 ∷ 105 ∷ 115 ∷ 32 ∷ 110 ∷ 111 ∷ 116 ∷ 32 ∷ 100 ∷ 101 ∷ 102 ∷ 105 ∷ 110 ∷ 101 ∷ 100 ∷ []) ≡ Some (negation (defined (other item_host (codes "i1")) ([])))
text_1184 = refl

text_1185 : expression_of (104 ∷ 111 ∷ 115 ∷ 116 ∷ 118 ∷ 97 ∷ 114 ∷ 115 ∷ 91 ∷ 105 ∷ 116 ∷ 101 ∷ 109 ∷ 93 ∷ 46 ∷ 105 ∷ 50 ∷ 32 ∷ 33 ∷ 61 ∷ 32 ∷ 116 ∷ 114 ∷ 117 ∷ 101 ∷ []) ≡ Some (negation (comparison equal (path (other item_host (codes "i2")) ([])) (literal (boolean true))))
text_1185 = refl

text_1186 : expression_of (104 ∷ 111 ∷ 115 ∷ 116 ∷ 118 ∷ 97 ∷ 114 ∷ 115 ∷ 91 ∷ 105 ∷ 116 ∷ 101 ∷ 109 ∷ 93 ∷ 46 ∷ 105 ∷ 110 ∷ 118 ∷ []) ≡ Some (path (other item_host (codes "inv")) ([]))
text_1186 = refl

text_1187 : expression_of (104 ∷ 111 ∷ 115 ∷ 116 ∷ 118 ∷ 97 ∷ 114 ∷ 115 ∷ 91 ∷ 105 ∷ 116 ∷ 101 ∷ 109 ∷ 93 ∷ 46 ∷ 105 ∷ 110 ∷ 118 ∷ 32 ∷ 60 ∷ 32 ∷ 51 ∷ []) ≡ Some (comparison less (path (other item_host (codes "inv")) ([])) (literal (int (pos 3))))
text_1187 = refl

text_1188 : expression_of (104 ∷ 111 ∷ 115 ∷ 116 ∷ 118 ∷ 97 ∷ 114 ∷ 115 ∷ 91 ∷ 105 ∷ 116 ∷ 101 ∷ 109 ∷ 93 ∷ 46 ∷ 105 ∷ 110 ∷ 118 ∷ 32 ∷ 105 ∷ 115 ∷ 32 ∷ 110 ∷ 111 ∷ 116 ∷ 32 ∷ 115 ∷ 107 ∷ 105 ∷ 112 ∷ 112 ∷ 101 ∷ 100 ∷ []) ≡ Some (negation (path_status is_skipped (other item_host (codes "inv")) ([])))
text_1188 = refl

text_1189 : expression_of (104 ∷ 111 ∷ 115 ∷ 116 ∷ 118 ∷ 97 ∷ 114 ∷ 115 ∷ 91 ∷ 105 ∷ 116 ∷ 101 ∷ 109 ∷ 93 ∷ 46 ∷ 111 ∷ 112 ∷ 32 ∷ 105 ∷ 115 ∷ 32 ∷ 117 ∷ 110 ∷ 100 ∷ 101 ∷ 102 ∷ 105 ∷ 110 ∷ 101 ∷ 100 ∷ []) ≡ Some (negation (defined (other item_host (codes "op")) ([])))
text_1189 = refl

text_1190 : expression_of (104 ∷ 111 ∷ 115 ∷ 116 ∷ 118 ∷ 97 ∷ 114 ∷ 115 ∷ 91 ∷ 105 ∷ 116 ∷ 101 ∷ 109 ∷ 93 ∷ 46 ∷ 111 ∷ 112 ∷ 113 ∷ 46 ∷ 109 ∷ 115 ∷ 103 ∷ 32 ∷ 105 ∷ 115 ∷ 32 ∷ 115 ∷ 117 ∷ 99 ∷ 99 ∷ 101 ∷ 101 ∷ 100 ∷ 101 ∷ 100 ∷ []) ≡ Some (negation (path_status is_failed (other item_host (codes "opq")) ((codes "msg") ∷ [])))
text_1190 = refl

text_1191 : expression_of (104 ∷ 111 ∷ 115 ∷ 116 ∷ 118 ∷ 97 ∷ 114 ∷ 115 ∷ 91 ∷ 105 ∷ 116 ∷ 101 ∷ 109 ∷ 93 ∷ 46 ∷ 111 ∷ 112 ∷ 113 ∷ 46 ∷ 114 ∷ 99 ∷ 32 ∷ 60 ∷ 32 ∷ 51 ∷ []) ≡ Some (comparison less (path (other item_host (codes "opq")) ((codes "rc") ∷ [])) (literal (int (pos 3))))
text_1191 = refl

text_1192 : expression_of (104 ∷ 111 ∷ 115 ∷ 116 ∷ 118 ∷ 97 ∷ 114 ∷ 115 ∷ 91 ∷ 105 ∷ 116 ∷ 101 ∷ 109 ∷ 93 ∷ 46 ∷ 111 ∷ 112 ∷ 113 ∷ 46 ∷ 115 ∷ 116 ∷ 100 ∷ 111 ∷ 117 ∷ 116 ∷ 95 ∷ 108 ∷ 105 ∷ 110 ∷ 101 ∷ 115 ∷ 32 ∷ 105 ∷ 115 ∷ 32 ∷ 102 ∷ 97 ∷ 105 ∷ 108 ∷ 101 ∷ 100 ∷ []) ≡ Some (path_status is_failed (other item_host (codes "opq")) ((codes "stdout_lines") ∷ []))
text_1192 = refl

text_1193 : expression_of (104 ∷ 111 ∷ 115 ∷ 116 ∷ 118 ∷ 97 ∷ 114 ∷ 115 ∷ 91 ∷ 105 ∷ 116 ∷ 101 ∷ 109 ∷ 93 ∷ 46 ∷ 114 ∷ 49 ∷ 32 ∷ 105 ∷ 115 ∷ 32 ∷ 100 ∷ 101 ∷ 102 ∷ 105 ∷ 110 ∷ 101 ∷ 100 ∷ 32 ∷ 97 ∷ 110 ∷ 100 ∷ 32 ∷ 104 ∷ 111 ∷ 115 ∷ 116 ∷ 118 ∷ 97 ∷ 114 ∷ 115 ∷ 91 ∷ 105 ∷ 116 ∷ 101 ∷ 109 ∷ 93 ∷ 46 ∷ 114 ∷ 49 ∷ 32 ∷ 61 ∷ 61 ∷ 32 ∷ 49 ∷ []) ≡ Some (conjunction (expression (defined (other item_host (codes "r1")) ([])) (expression (comparison equal (path (other item_host (codes "r1")) ([])) (literal (int (pos 1)))) (no_expressions))))
text_1193 = refl

text_1194 : expression_of (104 ∷ 111 ∷ 115 ∷ 116 ∷ 118 ∷ 97 ∷ 114 ∷ 115 ∷ 91 ∷ 105 ∷ 116 ∷ 101 ∷ 109 ∷ 93 ∷ 46 ∷ 114 ∷ 49 ∷ 46 ∷ 102 ∷ 97 ∷ 105 ∷ 108 ∷ 101 ∷ 100 ∷ 32 ∷ 105 ∷ 115 ∷ 32 ∷ 110 ∷ 111 ∷ 116 ∷ 32 ∷ 100 ∷ 101 ∷ 102 ∷ 105 ∷ 110 ∷ 101 ∷ 100 ∷ []) ≡ Some (negation (defined (other item_host (codes "r1")) ((codes "failed") ∷ [])))
text_1194 = refl

text_1195 : expression_of (104 ∷ 111 ∷ 115 ∷ 116 ∷ 118 ∷ 97 ∷ 114 ∷ 115 ∷ 91 ∷ 105 ∷ 116 ∷ 101 ∷ 109 ∷ 93 ∷ 46 ∷ 114 ∷ 49 ∷ 46 ∷ 102 ∷ 97 ∷ 105 ∷ 108 ∷ 101 ∷ 100 ∷ 32 ∷ 105 ∷ 115 ∷ 32 ∷ 117 ∷ 110 ∷ 100 ∷ 101 ∷ 102 ∷ 105 ∷ 110 ∷ 101 ∷ 100 ∷ []) ≡ Some (negation (defined (other item_host (codes "r1")) ((codes "failed") ∷ [])))
text_1195 = refl

text_1196 : expression_of (104 ∷ 111 ∷ 115 ∷ 116 ∷ 118 ∷ 97 ∷ 114 ∷ 115 ∷ 91 ∷ 105 ∷ 116 ∷ 101 ∷ 109 ∷ 93 ∷ 46 ∷ 114 ∷ 50 ∷ 32 ∷ 105 ∷ 115 ∷ 32 ∷ 100 ∷ 101 ∷ 102 ∷ 105 ∷ 110 ∷ 101 ∷ 100 ∷ []) ≡ Some (defined (other item_host (codes "r2")) ([]))
text_1196 = refl

text_1197 : expression_of (104 ∷ 111 ∷ 115 ∷ 116 ∷ 118 ∷ 97 ∷ 114 ∷ 115 ∷ 91 ∷ 105 ∷ 116 ∷ 101 ∷ 109 ∷ 93 ∷ 46 ∷ 114 ∷ 50 ∷ 32 ∷ 105 ∷ 115 ∷ 32 ∷ 110 ∷ 111 ∷ 116 ∷ 32 ∷ 100 ∷ 101 ∷ 102 ∷ 105 ∷ 110 ∷ 101 ∷ 100 ∷ []) ≡ Some (negation (defined (other item_host (codes "r2")) ([])))
text_1197 = refl

text_1198 : expression_of (104 ∷ 111 ∷ 115 ∷ 116 ∷ 118 ∷ 97 ∷ 114 ∷ 115 ∷ 91 ∷ 105 ∷ 116 ∷ 101 ∷ 109 ∷ 93 ∷ 46 ∷ 114 ∷ 50 ∷ 46 ∷ 99 ∷ 104 ∷ 97 ∷ 110 ∷ 103 ∷ 101 ∷ 100 ∷ 32 ∷ 105 ∷ 115 ∷ 32 ∷ 117 ∷ 110 ∷ 100 ∷ 101 ∷ 102 ∷ 105 ∷ 110 ∷ 101 ∷ 100 ∷ []) ≡ Some (negation (defined (other item_host (codes "r2")) ((codes "changed") ∷ [])))
text_1198 = refl

text_1199 : expression_of (104 ∷ 111 ∷ 115 ∷ 116 ∷ 118 ∷ 97 ∷ 114 ∷ 115 ∷ 91 ∷ 105 ∷ 116 ∷ 101 ∷ 109 ∷ 93 ∷ 46 ∷ 114 ∷ 50 ∷ 46 ∷ 100 ∷ 101 ∷ 101 ∷ 112 ∷ 32 ∷ 105 ∷ 115 ∷ 32 ∷ 100 ∷ 101 ∷ 102 ∷ 105 ∷ 110 ∷ 101 ∷ 100 ∷ []) ≡ Some (defined (other item_host (codes "r2")) ((codes "deep") ∷ []))
text_1199 = refl

text_1200 : expression_of (104 ∷ 111 ∷ 115 ∷ 116 ∷ 118 ∷ 97 ∷ 114 ∷ 115 ∷ 91 ∷ 105 ∷ 116 ∷ 101 ∷ 109 ∷ 93 ∷ 46 ∷ 114 ∷ 50 ∷ 46 ∷ 100 ∷ 101 ∷ 101 ∷ 112 ∷ 46 ∷ 98 ∷ 32 ∷ 105 ∷ 115 ∷ 32 ∷ 110 ∷ 111 ∷ 116 ∷ 32 ∷ 100 ∷ 101 ∷ 102 ∷ 105 ∷ 110 ∷ 101 ∷ 100 ∷ []) ≡ Some (negation (defined (other item_host (codes "r2")) ((codes "deep") ∷ (codes "b") ∷ [])))
text_1200 = refl

text_1201 : expression_of (104 ∷ 111 ∷ 115 ∷ 116 ∷ 118 ∷ 97 ∷ 114 ∷ 115 ∷ 91 ∷ 105 ∷ 116 ∷ 101 ∷ 109 ∷ 93 ∷ 46 ∷ 114 ∷ 50 ∷ 46 ∷ 119 ∷ 104 ∷ 121 ∷ 32 ∷ 124 ∷ 32 ∷ 100 ∷ 101 ∷ 102 ∷ 97 ∷ 117 ∷ 108 ∷ 116 ∷ 40 ∷ 102 ∷ 97 ∷ 108 ∷ 115 ∷ 101 ∷ 41 ∷ []) ≡ Some (path_or (other item_host (codes "r2")) ((codes "why") ∷ []) (literal (boolean false)))
text_1201 = refl

text_1202 : expression_of (104 ∷ 111 ∷ 115 ∷ 116 ∷ 118 ∷ 97 ∷ 114 ∷ 115 ∷ 91 ∷ 105 ∷ 116 ∷ 101 ∷ 109 ∷ 93 ∷ 46 ∷ 114 ∷ 51 ∷ 46 ∷ 102 ∷ 97 ∷ 105 ∷ 108 ∷ 101 ∷ 100 ∷ 32 ∷ 105 ∷ 115 ∷ 32 ∷ 110 ∷ 111 ∷ 116 ∷ 32 ∷ 100 ∷ 101 ∷ 102 ∷ 105 ∷ 110 ∷ 101 ∷ 100 ∷ []) ≡ Some (negation (defined (other item_host (codes "r3")) ((codes "failed") ∷ [])))
text_1202 = refl

text_1203 : expression_of (104 ∷ 111 ∷ 115 ∷ 116 ∷ 118 ∷ 97 ∷ 114 ∷ 115 ∷ 91 ∷ 105 ∷ 116 ∷ 101 ∷ 109 ∷ 93 ∷ 46 ∷ 115 ∷ 46 ∷ 104 ∷ 111 ∷ 115 ∷ 116 ∷ 110 ∷ 97 ∷ 109 ∷ 101 ∷ 32 ∷ 105 ∷ 115 ∷ 32 ∷ 115 ∷ 117 ∷ 99 ∷ 99 ∷ 101 ∷ 101 ∷ 100 ∷ 101 ∷ 100 ∷ []) ≡ Some (negation (path_status is_failed (other item_host (codes "s")) ((codes "hostname") ∷ [])))
text_1203 = refl

text_1204 : expression_of (104 ∷ 111 ∷ 115 ∷ 116 ∷ 118 ∷ 97 ∷ 114 ∷ 115 ∷ 91 ∷ 105 ∷ 116 ∷ 101 ∷ 109 ∷ 93 ∷ 46 ∷ 115 ∷ 49 ∷ 32 ∷ 105 ∷ 115 ∷ 32 ∷ 100 ∷ 101 ∷ 102 ∷ 105 ∷ 110 ∷ 101 ∷ 100 ∷ []) ≡ Some (defined (other item_host (codes "s1")) ([]))
text_1204 = refl

text_1205 : expression_of (104 ∷ 111 ∷ 115 ∷ 116 ∷ 118 ∷ 97 ∷ 114 ∷ 115 ∷ 91 ∷ 105 ∷ 116 ∷ 101 ∷ 109 ∷ 93 ∷ 46 ∷ 115 ∷ 50 ∷ 32 ∷ 105 ∷ 115 ∷ 32 ∷ 100 ∷ 101 ∷ 102 ∷ 105 ∷ 110 ∷ 101 ∷ 100 ∷ []) ≡ Some (defined (other item_host (codes "s2")) ([]))
text_1205 = refl

text_1206 : expression_of (104 ∷ 111 ∷ 115 ∷ 116 ∷ 118 ∷ 97 ∷ 114 ∷ 115 ∷ 91 ∷ 105 ∷ 116 ∷ 101 ∷ 109 ∷ 93 ∷ 46 ∷ 120 ∷ []) ≡ Some (path (other item_host (codes "x")) ([]))
text_1206 = refl

text_1207 : expression_of (105 ∷ 49 ∷ 32 ∷ 33 ∷ 61 ∷ 32 ∷ 91 ∷ 49 ∷ 93 ∷ []) ≡ Some (negation (comparison equal (path (variable (codes "i1")) ([])) (list_of (expression (literal (int (pos 1))) (no_expressions)))))
text_1207 = refl

text_1208 : expression_of (codes "i1 == 1") ≡ Some (comparison equal (path (variable (codes "i1")) ([])) (literal (int (pos 1))))
text_1208 = refl

text_1209 : expression_of (codes "i1 is defined") ≡ Some (defined (variable (codes "i1")) ([]))
text_1209 = refl

text_1210 : expression_of (codes "i1 is not skipped") ≡ Some (negation (path_status is_skipped (variable (codes "i1")) ([])))
text_1210 = refl

text_1211 : expression_of (codes "i1 is succeeded") ≡ Some (negation (path_status is_failed (variable (codes "i1")) ([])))
text_1211 = refl

text_1212 : expression_of (codes "i1 is undefined") ≡ Some (negation (defined (variable (codes "i1")) ([])))
text_1212 = refl

text_1213 : expression_of (105 ∷ 49 ∷ 32 ∷ 124 ∷ 32 ∷ 100 ∷ 101 ∷ 102 ∷ 97 ∷ 117 ∷ 108 ∷ 116 ∷ 40 ∷ 102 ∷ 97 ∷ 108 ∷ 115 ∷ 101 ∷ 41 ∷ []) ≡ Some (path_or (variable (codes "i1")) ([]) (literal (boolean false)))
text_1213 = refl

text_1214 : expression_of (codes "i1.changed != 1") ≡ Some (negation (comparison equal (path (variable (codes "i1")) ((codes "changed") ∷ [])) (literal (int (pos 1)))))
text_1214 = refl

text_1215 : expression_of (105 ∷ 49 ∷ 46 ∷ 99 ∷ 104 ∷ 97 ∷ 110 ∷ 103 ∷ 101 ∷ 100 ∷ 32 ∷ 124 ∷ 32 ∷ 100 ∷ 101 ∷ 102 ∷ 97 ∷ 117 ∷ 108 ∷ 116 ∷ 40 ∷ 102 ∷ 97 ∷ 108 ∷ 115 ∷ 101 ∷ 41 ∷ []) ≡ Some (path_or (variable (codes "i1")) ((codes "changed") ∷ []) (literal (boolean false)))
text_1215 = refl

text_1216 : expression_of (codes "i1.f is defined") ≡ Some (defined (variable (codes "i1")) ((codes "f") ∷ []))
text_1216 = refl

text_1217 : expression_of (codes "i1.f is undefined") ≡ Some (negation (defined (variable (codes "i1")) ((codes "f") ∷ [])))
text_1217 = refl

text_1218 : expression_of (codes "i1.rc is defined") ≡ Some (defined (variable (codes "i1")) ((codes "rc") ∷ []))
text_1218 = refl

text_1219 : expression_of (codes "i1.stdout is defined") ≡ Some (defined (variable (codes "i1")) ((codes "stdout") ∷ []))
text_1219 = refl

text_1220 : expression_of (codes "i2 != 1") ≡ Some (negation (comparison equal (path (variable (codes "i2")) ([])) (literal (int (pos 1)))))
text_1220 = refl

text_1221 : expression_of (105 ∷ 50 ∷ 32 ∷ 33 ∷ 61 ∷ 32 ∷ 91 ∷ 49 ∷ 93 ∷ []) ≡ Some (negation (comparison equal (path (variable (codes "i2")) ([])) (list_of (expression (literal (int (pos 1))) (no_expressions)))))
text_1221 = refl

text_1222 : expression_of (codes "i2 != true") ≡ Some (negation (comparison equal (path (variable (codes "i2")) ([])) (literal (boolean true))))
text_1222 = refl

text_1223 : expression_of (codes "i2 == 1") ≡ Some (comparison equal (path (variable (codes "i2")) ([])) (literal (int (pos 1))))
text_1223 = refl

text_1224 : expression_of (codes "i2 is defined") ≡ Some (defined (variable (codes "i2")) ([]))
text_1224 = refl

text_1225 : expression_of (codes "i2 is failed") ≡ Some (path_status is_failed (variable (codes "i2")) ([]))
text_1225 = refl

text_1226 : expression_of (codes "i2 is not defined") ≡ Some (negation (defined (variable (codes "i2")) ([])))
text_1226 = refl

text_1227 : expression_of (codes "i2 is not failed") ≡ Some (negation (path_status is_failed (variable (codes "i2")) ([])))
text_1227 = refl

text_1228 : expression_of (codes "i2 is not skipped") ≡ Some (negation (path_status is_skipped (variable (codes "i2")) ([])))
text_1228 = refl

text_1229 : expression_of (codes "i2 is undefined") ≡ Some (negation (defined (variable (codes "i2")) ([])))
text_1229 = refl

text_1230 : expression_of (105 ∷ 50 ∷ 32 ∷ 124 ∷ 32 ∷ 100 ∷ 101 ∷ 102 ∷ 97 ∷ 117 ∷ 108 ∷ 116 ∷ 40 ∷ 102 ∷ 97 ∷ 108 ∷ 115 ∷ 101 ∷ 41 ∷ []) ≡ Some (path_or (variable (codes "i2")) ([]) (literal (boolean false)))
text_1230 = refl

text_1231 : expression_of (codes "i2.changed is defined") ≡ Some (defined (variable (codes "i2")) ((codes "changed") ∷ []))
text_1231 = refl

text_1232 : expression_of (codes "i2.f is defined") ≡ Some (defined (variable (codes "i2")) ((codes "f") ∷ []))
text_1232 = refl

text_1233 : expression_of (codes "i2.f is not defined") ≡ Some (negation (defined (variable (codes "i2")) ((codes "f") ∷ [])))
text_1233 = refl

text_1234 : expression_of (codes "i2.g is defined") ≡ Some (defined (variable (codes "i2")) ((codes "g") ∷ []))
text_1234 = refl

text_1235 : expression_of (codes "i2.rc is defined") ≡ Some (defined (variable (codes "i2")) ((codes "rc") ∷ []))
text_1235 = refl

text_1236 : expression_of (codes "i2.stdout is defined") ≡ Some (defined (variable (codes "i2")) ((codes "stdout") ∷ []))
text_1236 = refl

text_1237 : expression_of (codes "inv < 3") ≡ Some (comparison less (path (variable (codes "inv")) ([])) (literal (int (pos 3))))
text_1237 = refl

text_1238 : expression_of (codes "inv is changed") ≡ Some (path_status is_changed (variable (codes "inv")) ([]))
text_1238 = refl

text_1239 : expression_of (codes "inv is not skipped") ≡ Some (negation (path_status is_skipped (variable (codes "inv")) ([])))
text_1239 = refl

text_1240 : expression_of (codes "inv is skipped") ≡ Some (path_status is_skipped (variable (codes "inv")) ([]))
text_1240 = refl

text_1241 : expression_of (codes "inv is succeeded") ≡ Some (negation (path_status is_failed (variable (codes "inv")) ([])))
text_1241 = refl

text_1242 : expression_of (codes "inv.hostname is not defined") ≡ Some (negation (defined (variable (codes "inv")) ((codes "hostname") ∷ [])))
text_1242 = refl

text_1243 : expression_of (codes "inv.k < 3") ≡ Some (comparison less (path (variable (codes "inv")) ((codes "k") ∷ [])) (literal (int (pos 3))))
text_1243 = refl

text_1244 : expression_of (codes "inv.os_family < 3") ≡ Some (comparison less (path (variable (codes "inv")) ((codes "os_family") ∷ [])) (literal (int (pos 3))))
text_1244 = refl

text_1245 : expression_of (codes "inv.os_family is not skipped") ≡ Some (negation (path_status is_skipped (variable (codes "inv")) ((codes "os_family") ∷ [])))
text_1245 = refl

text_1246 : expression_of (codes "inv.results is undefined") ≡ Some (negation (defined (variable (codes "inv")) ((codes "results") ∷ [])))
text_1246 = refl

text_1247 : expression_of (codes "inv.stat.isdir < 3") ≡ Some (comparison less (path (variable (codes "inv")) ((codes "stat") ∷ (codes "isdir") ∷ [])) (literal (int (pos 3))))
text_1247 = refl

text_1248 : expression_of (codes "inv.stdout") ≡ Some (path (variable (codes "inv")) ((codes "stdout") ∷ []))
text_1248 = refl

text_1249 : expression_of (codes "inventory_hostname") ≡ Some (path (variable (codes "inventory_hostname")) ([]))
text_1249 = refl
