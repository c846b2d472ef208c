-- The trees of expressions of cases, computed.
use Rattle.std.specs.Prelude.{◌≡◌, refl, pos, [], ◌∷◌, true, false, Some, None, codes}
use Rattle.pb_semantics.specs.Data.{boolean, int, null, text}
use Rattle.pb_language.specs.Expression.{equal, less, is_failed, is_skipped, this_host, item_host, literal, path, negation, conjunction, disjunction, comparison, in_batch, defined, path_status, path_or, length_of, concatenation, list_of, variable, other, no_expressions, expression}
use Rattle.pb_language.specs.Grammar.{template_of}

text_2000 : template_of (120 ∷ 123 ∷ 123 ∷ 32 ∷ 91 ∷ 111 ∷ 112 ∷ 46 ∷ 102 ∷ 44 ∷ 32 ∷ 49 ∷ 93 ∷ 32 ∷ 125 ∷ 125 ∷ []) ≡ Some (concatenation (expression (literal (text (codes "x"))) (expression (list_of (expression (path (variable (codes "op")) ((codes "f") ∷ [])) (expression (literal (int (pos 1))) (no_expressions)))) (no_expressions))))
text_2000 = refl

text_2001 : template_of (120 ∷ 123 ∷ 123 ∷ 32 ∷ 91 ∷ 114 ∷ 49 ∷ 46 ∷ 99 ∷ 104 ∷ 97 ∷ 110 ∷ 103 ∷ 101 ∷ 100 ∷ 44 ∷ 32 ∷ 49 ∷ 93 ∷ 32 ∷ 125 ∷ 125 ∷ []) ≡ Some (concatenation (expression (literal (text (codes "x"))) (expression (list_of (expression (path (variable (codes "r1")) ((codes "changed") ∷ [])) (expression (literal (int (pos 1))) (no_expressions)))) (no_expressions))))
text_2001 = refl

text_2002 : template_of (120 ∷ 123 ∷ 123 ∷ 32 ∷ 91 ∷ 114 ∷ 49 ∷ 46 ∷ 99 ∷ 104 ∷ 97 ∷ 110 ∷ 103 ∷ 101 ∷ 100 ∷ 44 ∷ 32 ∷ 114 ∷ 49 ∷ 46 ∷ 99 ∷ 104 ∷ 97 ∷ 110 ∷ 103 ∷ 101 ∷ 100 ∷ 93 ∷ 32 ∷ 125 ∷ 125 ∷ []) ≡ Some (concatenation (expression (literal (text (codes "x"))) (expression (list_of (expression (path (variable (codes "r1")) ((codes "changed") ∷ [])) (expression (path (variable (codes "r1")) ((codes "changed") ∷ [])) (no_expressions)))) (no_expressions))))
text_2002 = refl

text_2003 : template_of (120 ∷ 123 ∷ 123 ∷ 32 ∷ 91 ∷ 114 ∷ 50 ∷ 46 ∷ 99 ∷ 104 ∷ 97 ∷ 110 ∷ 103 ∷ 101 ∷ 100 ∷ 44 ∷ 32 ∷ 49 ∷ 93 ∷ 32 ∷ 125 ∷ 125 ∷ []) ≡ Some (concatenation (expression (literal (text (codes "x"))) (expression (list_of (expression (path (variable (codes "r2")) ((codes "changed") ∷ [])) (expression (literal (int (pos 1))) (no_expressions)))) (no_expressions))))
text_2003 = refl

text_2004 : template_of (120 ∷ 123 ∷ 123 ∷ 32 ∷ 91 ∷ 114 ∷ 50 ∷ 46 ∷ 102 ∷ 97 ∷ 105 ∷ 108 ∷ 101 ∷ 100 ∷ 44 ∷ 32 ∷ 114 ∷ 50 ∷ 46 ∷ 102 ∷ 97 ∷ 105 ∷ 108 ∷ 101 ∷ 100 ∷ 93 ∷ 32 ∷ 125 ∷ 125 ∷ []) ≡ Some (concatenation (expression (literal (text (codes "x"))) (expression (list_of (expression (path (variable (codes "r2")) ((codes "failed") ∷ [])) (expression (path (variable (codes "r2")) ((codes "failed") ∷ [])) (no_expressions)))) (no_expressions))))
text_2004 = refl

text_2005 : template_of (120 ∷ 123 ∷ 123 ∷ 32 ∷ 91 ∷ 114 ∷ 50 ∷ 46 ∷ 115 ∷ 107 ∷ 105 ∷ 112 ∷ 95 ∷ 114 ∷ 101 ∷ 97 ∷ 115 ∷ 111 ∷ 110 ∷ 44 ∷ 32 ∷ 114 ∷ 50 ∷ 46 ∷ 115 ∷ 107 ∷ 105 ∷ 112 ∷ 95 ∷ 114 ∷ 101 ∷ 97 ∷ 115 ∷ 111 ∷ 110 ∷ 93 ∷ 32 ∷ 125 ∷ 125 ∷ []) ≡ Some (concatenation (expression (literal (text (codes "x"))) (expression (list_of (expression (path (variable (codes "r2")) ((codes "skip_reason") ∷ [])) (expression (path (variable (codes "r2")) ((codes "skip_reason") ∷ [])) (no_expressions)))) (no_expressions))))
text_2005 = refl

text_2006 : template_of (120 ∷ 123 ∷ 123 ∷ 32 ∷ 91 ∷ 114 ∷ 51 ∷ 44 ∷ 32 ∷ 49 ∷ 93 ∷ 32 ∷ 125 ∷ 125 ∷ []) ≡ Some (concatenation (expression (literal (text (codes "x"))) (expression (list_of (expression (path (variable (codes "r3")) ([])) (expression (literal (int (pos 1))) (no_expressions)))) (no_expressions))))
text_2006 = refl

text_2007 : template_of (120 ∷ 123 ∷ 123 ∷ 32 ∷ 91 ∷ 114 ∷ 51 ∷ 46 ∷ 100 ∷ 101 ∷ 101 ∷ 112 ∷ 44 ∷ 32 ∷ 49 ∷ 93 ∷ 32 ∷ 125 ∷ 125 ∷ []) ≡ Some (concatenation (expression (literal (text (codes "x"))) (expression (list_of (expression (path (variable (codes "r3")) ((codes "deep") ∷ [])) (expression (literal (int (pos 1))) (no_expressions)))) (no_expressions))))
text_2007 = refl

text_2008 : template_of (120 ∷ 123 ∷ 123 ∷ 32 ∷ 91 ∷ 114 ∷ 51 ∷ 46 ∷ 100 ∷ 101 ∷ 101 ∷ 112 ∷ 46 ∷ 98 ∷ 44 ∷ 32 ∷ 114 ∷ 51 ∷ 46 ∷ 100 ∷ 101 ∷ 101 ∷ 112 ∷ 46 ∷ 98 ∷ 93 ∷ 32 ∷ 125 ∷ 125 ∷ []) ≡ Some (concatenation (expression (literal (text (codes "x"))) (expression (list_of (expression (path (variable (codes "r3")) ((codes "deep") ∷ (codes "b") ∷ [])) (expression (path (variable (codes "r3")) ((codes "deep") ∷ (codes "b") ∷ [])) (no_expressions)))) (no_expressions))))
text_2008 = refl

text_2009 : template_of (120 ∷ 123 ∷ 123 ∷ 32 ∷ 91 ∷ 114 ∷ 51 ∷ 46 ∷ 102 ∷ 97 ∷ 105 ∷ 108 ∷ 101 ∷ 100 ∷ 44 ∷ 32 ∷ 49 ∷ 93 ∷ 32 ∷ 125 ∷ 125 ∷ []) ≡ Some (concatenation (expression (literal (text (codes "x"))) (expression (list_of (expression (path (variable (codes "r3")) ((codes "failed") ∷ [])) (expression (literal (int (pos 1))) (no_expressions)))) (no_expressions))))
text_2009 = refl

text_2010 : template_of (120 ∷ 123 ∷ 123 ∷ 32 ∷ 91 ∷ 114 ∷ 51 ∷ 46 ∷ 115 ∷ 116 ∷ 100 ∷ 101 ∷ 114 ∷ 114 ∷ 44 ∷ 32 ∷ 49 ∷ 93 ∷ 32 ∷ 125 ∷ 125 ∷ []) ≡ Some (concatenation (expression (literal (text (codes "x"))) (expression (list_of (expression (path (variable (codes "r3")) ((codes "stderr") ∷ [])) (expression (literal (int (pos 1))) (no_expressions)))) (no_expressions))))
text_2010 = refl

text_2011 : template_of (120 ∷ 123 ∷ 123 ∷ 32 ∷ 91 ∷ 114 ∷ 51 ∷ 46 ∷ 115 ∷ 116 ∷ 100 ∷ 111 ∷ 117 ∷ 116 ∷ 44 ∷ 32 ∷ 49 ∷ 93 ∷ 32 ∷ 125 ∷ 125 ∷ []) ≡ Some (concatenation (expression (literal (text (codes "x"))) (expression (list_of (expression (path (variable (codes "r3")) ((codes "stdout") ∷ [])) (expression (literal (int (pos 1))) (no_expressions)))) (no_expressions))))
text_2011 = refl

text_2012 : template_of (120 ∷ 123 ∷ 123 ∷ 32 ∷ 91 ∷ 114 ∷ 51 ∷ 46 ∷ 115 ∷ 116 ∷ 100 ∷ 111 ∷ 117 ∷ 116 ∷ 95 ∷ 108 ∷ 105 ∷ 110 ∷ 101 ∷ 115 ∷ 44 ∷ 32 ∷ 49 ∷ 93 ∷ 32 ∷ 125 ∷ 125 ∷ []) ≡ Some (concatenation (expression (literal (text (codes "x"))) (expression (list_of (expression (path (variable (codes "r3")) ((codes "stdout_lines") ∷ [])) (expression (literal (int (pos 1))) (no_expressions)))) (no_expressions))))
text_2012 = refl

text_2013 : template_of (120 ∷ 123 ∷ 123 ∷ 32 ∷ 91 ∷ 115 ∷ 49 ∷ 44 ∷ 32 ∷ 49 ∷ 93 ∷ 32 ∷ 125 ∷ 125 ∷ []) ≡ Some (concatenation (expression (literal (text (codes "x"))) (expression (list_of (expression (path (variable (codes "s1")) ([])) (expression (literal (int (pos 1))) (no_expressions)))) (no_expressions))))
text_2013 = refl

text_2014 : template_of (120 ∷ 123 ∷ 123 ∷ 32 ∷ 91 ∷ 115 ∷ 50 ∷ 44 ∷ 32 ∷ 115 ∷ 50 ∷ 93 ∷ 32 ∷ 125 ∷ 125 ∷ []) ≡ Some (concatenation (expression (literal (text (codes "x"))) (expression (list_of (expression (path (variable (codes "s2")) ([])) (expression (path (variable (codes "s2")) ([])) (no_expressions)))) (no_expressions))))
text_2014 = refl

text_2015 : template_of (120 ∷ 123 ∷ 123 ∷ 32 ∷ 91 ∷ 115 ∷ 50 ∷ 46 ∷ 99 ∷ 104 ∷ 97 ∷ 110 ∷ 103 ∷ 101 ∷ 100 ∷ 44 ∷ 32 ∷ 115 ∷ 50 ∷ 46 ∷ 99 ∷ 104 ∷ 97 ∷ 110 ∷ 103 ∷ 101 ∷ 100 ∷ 93 ∷ 32 ∷ 125 ∷ 125 ∷ []) ≡ Some (concatenation (expression (literal (text (codes "x"))) (expression (list_of (expression (path (variable (codes "s2")) ((codes "changed") ∷ [])) (expression (path (variable (codes "s2")) ((codes "changed") ∷ [])) (no_expressions)))) (no_expressions))))
text_2015 = refl

text_2016 : template_of (120 ∷ 123 ∷ 123 ∷ 32 ∷ 91 ∷ 115 ∷ 51 ∷ 44 ∷ 32 ∷ 49 ∷ 93 ∷ 32 ∷ 125 ∷ 125 ∷ []) ≡ Some (concatenation (expression (literal (text (codes "x"))) (expression (list_of (expression (path (variable (codes "s3")) ([])) (expression (literal (int (pos 1))) (no_expressions)))) (no_expressions))))
text_2016 = refl

text_2017 : template_of (120 ∷ 123 ∷ 123 ∷ 32 ∷ 97 ∷ 110 ∷ 115 ∷ 105 ∷ 98 ∷ 108 ∷ 101 ∷ 95 ∷ 102 ∷ 97 ∷ 99 ∷ 116 ∷ 115 ∷ 32 ∷ 124 ∷ 32 ∷ 100 ∷ 101 ∷ 102 ∷ 97 ∷ 117 ∷ 108 ∷ 116 ∷ 40 ∷ 91 ∷ 93 ∷ 41 ∷ 32 ∷ 125 ∷ 125 ∷ []) ≡ Some (concatenation (expression (literal (text (codes "x"))) (expression (path_or (variable (codes "ansible_facts")) ([]) (list_of (no_expressions))) (no_expressions))))
text_2017 = refl

text_2018 : template_of (120 ∷ 123 ∷ 123 ∷ 32 ∷ 97 ∷ 110 ∷ 115 ∷ 105 ∷ 98 ∷ 108 ∷ 101 ∷ 95 ∷ 102 ∷ 97 ∷ 99 ∷ 116 ∷ 115 ∷ 32 ∷ 124 ∷ 32 ∷ 108 ∷ 101 ∷ 110 ∷ 103 ∷ 116 ∷ 104 ∷ 32 ∷ 125 ∷ 125 ∷ []) ≡ Some (concatenation (expression (literal (text (codes "x"))) (expression (length_of (path (variable (codes "ansible_facts")) ([]))) (no_expressions))))
text_2018 = refl

text_2019 : template_of (120 ∷ 123 ∷ 123 ∷ 32 ∷ 97 ∷ 110 ∷ 115 ∷ 105 ∷ 98 ∷ 108 ∷ 101 ∷ 95 ∷ 102 ∷ 97 ∷ 99 ∷ 116 ∷ 115 ∷ 32 ∷ 125 ∷ 125 ∷ []) ≡ Some (concatenation (expression (literal (text (codes "x"))) (expression (path (variable (codes "ansible_facts")) ([])) (no_expressions))))
text_2019 = refl

text_2020 : template_of (120 ∷ 123 ∷ 123 ∷ 32 ∷ 97 ∷ 110 ∷ 115 ∷ 105 ∷ 98 ∷ 108 ∷ 101 ∷ 95 ∷ 102 ∷ 97 ∷ 99 ∷ 116 ∷ 115 ∷ 46 ∷ 104 ∷ 111 ∷ 115 ∷ 116 ∷ 110 ∷ 97 ∷ 109 ∷ 101 ∷ 32 ∷ 124 ∷ 32 ∷ 100 ∷ 101 ∷ 102 ∷ 97 ∷ 117 ∷ 108 ∷ 116 ∷ 40 ∷ 49 ∷ 41 ∷ 32 ∷ 125 ∷ 125 ∷ []) ≡ Some (concatenation (expression (literal (text (codes "x"))) (expression (path_or (variable (codes "ansible_facts")) ((codes "hostname") ∷ []) (literal (int (pos 1)))) (no_expressions))))
text_2020 = refl

text_2021 : template_of (120 ∷ 123 ∷ 123 ∷ 32 ∷ 97 ∷ 110 ∷ 115 ∷ 105 ∷ 98 ∷ 108 ∷ 101 ∷ 95 ∷ 102 ∷ 97 ∷ 99 ∷ 116 ∷ 115 ∷ 46 ∷ 104 ∷ 111 ∷ 115 ∷ 116 ∷ 110 ∷ 97 ∷ 109 ∷ 101 ∷ 32 ∷ 124 ∷ 32 ∷ 108 ∷ 101 ∷ 110 ∷ 103 ∷ 116 ∷ 104 ∷ 32 ∷ 125 ∷ 125 ∷ []) ≡ Some (concatenation (expression (literal (text (codes "x"))) (expression (length_of (path (variable (codes "ansible_facts")) ((codes "hostname") ∷ []))) (no_expressions))))
text_2021 = refl

text_2022 : template_of (120 ∷ 123 ∷ 123 ∷ 32 ∷ 97 ∷ 110 ∷ 115 ∷ 105 ∷ 98 ∷ 108 ∷ 101 ∷ 95 ∷ 102 ∷ 97 ∷ 99 ∷ 116 ∷ 115 ∷ 46 ∷ 104 ∷ 111 ∷ 115 ∷ 116 ∷ 110 ∷ 97 ∷ 109 ∷ 101 ∷ 32 ∷ 125 ∷ 125 ∷ []) ≡ Some (concatenation (expression (literal (text (codes "x"))) (expression (path (variable (codes "ansible_facts")) ((codes "hostname") ∷ [])) (no_expressions))))
text_2022 = refl

text_2023 : template_of (120 ∷ 123 ∷ 123 ∷ 32 ∷ 97 ∷ 110 ∷ 115 ∷ 105 ∷ 98 ∷ 108 ∷ 101 ∷ 95 ∷ 102 ∷ 97 ∷ 105 ∷ 108 ∷ 101 ∷ 100 ∷ 95 ∷ 114 ∷ 101 ∷ 115 ∷ 117 ∷ 108 ∷ 116 ∷ 46 ∷ 99 ∷ 104 ∷ 97 ∷ 110 ∷ 103 ∷ 101 ∷ 100 ∷ 32 ∷ 124 ∷ 32 ∷ 108 ∷ 101 ∷ 110 ∷ 103 ∷ 116 ∷ 104 ∷ 32 ∷ 125 ∷ 125 ∷ []) ≡ Some (concatenation (expression (literal (text (codes "x"))) (expression (length_of (path (variable (codes "ansible_failed_result")) ((codes "changed") ∷ []))) (no_expressions))))
text_2023 = refl

text_2024 : template_of (120 ∷ 123 ∷ 123 ∷ 32 ∷ 97 ∷ 110 ∷ 115 ∷ 105 ∷ 98 ∷ 108 ∷ 101 ∷ 95 ∷ 102 ∷ 97 ∷ 105 ∷ 108 ∷ 101 ∷ 100 ∷ 95 ∷ 114 ∷ 101 ∷ 115 ∷ 117 ∷ 108 ∷ 116 ∷ 46 ∷ 107 ∷ 32 ∷ 125 ∷ 125 ∷ []) ≡ Some (concatenation (expression (literal (text (codes "x"))) (expression (path (variable (codes "ansible_failed_result")) ((codes "k") ∷ [])) (no_expressions))))
text_2024 = refl

text_2025 : template_of (120 ∷ 123 ∷ 123 ∷ 32 ∷ 97 ∷ 110 ∷ 115 ∷ 105 ∷ 98 ∷ 108 ∷ 101 ∷ 95 ∷ 102 ∷ 97 ∷ 105 ∷ 108 ∷ 101 ∷ 100 ∷ 95 ∷ 114 ∷ 101 ∷ 115 ∷ 117 ∷ 108 ∷ 116 ∷ 46 ∷ 109 ∷ 115 ∷ 103 ∷ 32 ∷ 125 ∷ 125 ∷ []) ≡ Some (concatenation (expression (literal (text (codes "x"))) (expression (path (variable (codes "ansible_failed_result")) ((codes "msg") ∷ [])) (no_expressions))))
text_2025 = refl

text_2026 : template_of (120 ∷ 123 ∷ 123 ∷ 32 ∷ 97 ∷ 110 ∷ 115 ∷ 105 ∷ 98 ∷ 108 ∷ 101 ∷ 95 ∷ 102 ∷ 97 ∷ 105 ∷ 108 ∷ 101 ∷ 100 ∷ 95 ∷ 114 ∷ 101 ∷ 115 ∷ 117 ∷ 108 ∷ 116 ∷ 46 ∷ 114 ∷ 101 ∷ 115 ∷ 117 ∷ 108 ∷ 116 ∷ 115 ∷ 32 ∷ 125 ∷ 125 ∷ []) ≡ Some (concatenation (expression (literal (text (codes "x"))) (expression (path (variable (codes "ansible_failed_result")) ((codes "results") ∷ [])) (no_expressions))))
text_2026 = refl

text_2027 : template_of (120 ∷ 123 ∷ 123 ∷ 32 ∷ 97 ∷ 110 ∷ 115 ∷ 105 ∷ 98 ∷ 108 ∷ 101 ∷ 95 ∷ 102 ∷ 97 ∷ 105 ∷ 108 ∷ 101 ∷ 100 ∷ 95 ∷ 114 ∷ 101 ∷ 115 ∷ 117 ∷ 108 ∷ 116 ∷ 46 ∷ 115 ∷ 116 ∷ 97 ∷ 116 ∷ 46 ∷ 105 ∷ 115 ∷ 100 ∷ 105 ∷ 114 ∷ 32 ∷ 125 ∷ 125 ∷ []) ≡ Some (concatenation (expression (literal (text (codes "x"))) (expression (path (variable (codes "ansible_failed_result")) ((codes "stat") ∷ (codes "isdir") ∷ [])) (no_expressions))))
text_2027 = refl

text_2028 : template_of (120 ∷ 123 ∷ 123 ∷ 32 ∷ 97 ∷ 110 ∷ 115 ∷ 105 ∷ 98 ∷ 108 ∷ 101 ∷ 95 ∷ 104 ∷ 111 ∷ 115 ∷ 116 ∷ 110 ∷ 97 ∷ 109 ∷ 101 ∷ 32 ∷ 124 ∷ 32 ∷ 100 ∷ 101 ∷ 102 ∷ 97 ∷ 117 ∷ 108 ∷ 116 ∷ 40 ∷ 91 ∷ 93 ∷ 41 ∷ 32 ∷ 125 ∷ 125 ∷ []) ≡ Some (concatenation (expression (literal (text (codes "x"))) (expression (path_or (variable (codes "ansible_hostname")) ([]) (list_of (no_expressions))) (no_expressions))))
text_2028 = refl

text_2029 : template_of (120 ∷ 123 ∷ 123 ∷ 32 ∷ 97 ∷ 110 ∷ 115 ∷ 105 ∷ 98 ∷ 108 ∷ 101 ∷ 95 ∷ 104 ∷ 111 ∷ 115 ∷ 116 ∷ 110 ∷ 97 ∷ 109 ∷ 101 ∷ 32 ∷ 125 ∷ 125 ∷ []) ≡ Some (concatenation (expression (literal (text (codes "x"))) (expression (path (variable (codes "ansible_hostname")) ([])) (no_expressions))))
text_2029 = refl

text_2030 : template_of (120 ∷ 123 ∷ 123 ∷ 32 ∷ 97 ∷ 110 ∷ 115 ∷ 105 ∷ 98 ∷ 108 ∷ 101 ∷ 95 ∷ 104 ∷ 111 ∷ 115 ∷ 116 ∷ 110 ∷ 97 ∷ 109 ∷ 101 ∷ 46 ∷ 104 ∷ 111 ∷ 115 ∷ 116 ∷ 110 ∷ 97 ∷ 109 ∷ 101 ∷ 32 ∷ 124 ∷ 32 ∷ 108 ∷ 101 ∷ 110 ∷ 103 ∷ 116 ∷ 104 ∷ 32 ∷ 125 ∷ 125 ∷ []) ≡ Some (concatenation (expression (literal (text (codes "x"))) (expression (length_of (path (variable (codes "ansible_hostname")) ((codes "hostname") ∷ []))) (no_expressions))))
text_2030 = refl

text_2031 : template_of (120 ∷ 123 ∷ 123 ∷ 32 ∷ 97 ∷ 110 ∷ 115 ∷ 105 ∷ 98 ∷ 108 ∷ 101 ∷ 95 ∷ 104 ∷ 111 ∷ 115 ∷ 116 ∷ 110 ∷ 97 ∷ 109 ∷ 101 ∷ 46 ∷ 109 ∷ 115 ∷ 103 ∷ 32 ∷ 125 ∷ 125 ∷ []) ≡ Some (concatenation (expression (literal (text (codes "x"))) (expression (path (variable (codes "ansible_hostname")) ((codes "msg") ∷ [])) (no_expressions))))
text_2031 = refl

text_2032 : template_of (120 ∷ 123 ∷ 123 ∷ 32 ∷ 97 ∷ 110 ∷ 115 ∷ 105 ∷ 98 ∷ 108 ∷ 101 ∷ 95 ∷ 104 ∷ 111 ∷ 115 ∷ 116 ∷ 110 ∷ 97 ∷ 109 ∷ 101 ∷ 46 ∷ 111 ∷ 115 ∷ 95 ∷ 102 ∷ 97 ∷ 109 ∷ 105 ∷ 108 ∷ 121 ∷ 32 ∷ 125 ∷ 125 ∷ []) ≡ Some (concatenation (expression (literal (text (codes "x"))) (expression (path (variable (codes "ansible_hostname")) ((codes "os_family") ∷ [])) (no_expressions))))
text_2032 = refl

text_2033 : template_of (120 ∷ 123 ∷ 123 ∷ 32 ∷ 97 ∷ 110 ∷ 115 ∷ 105 ∷ 98 ∷ 108 ∷ 101 ∷ 95 ∷ 111 ∷ 115 ∷ 95 ∷ 102 ∷ 97 ∷ 109 ∷ 105 ∷ 108 ∷ 121 ∷ 32 ∷ 124 ∷ 32 ∷ 100 ∷ 101 ∷ 102 ∷ 97 ∷ 117 ∷ 108 ∷ 116 ∷ 40 ∷ 91 ∷ 93 ∷ 41 ∷ 32 ∷ 125 ∷ 125 ∷ []) ≡ Some (concatenation (expression (literal (text (codes "x"))) (expression (path_or (variable (codes "ansible_os_family")) ([]) (list_of (no_expressions))) (no_expressions))))
text_2033 = refl

text_2034 : template_of (120 ∷ 123 ∷ 123 ∷ 32 ∷ 97 ∷ 110 ∷ 115 ∷ 105 ∷ 98 ∷ 108 ∷ 101 ∷ 95 ∷ 111 ∷ 115 ∷ 95 ∷ 102 ∷ 97 ∷ 109 ∷ 105 ∷ 108 ∷ 121 ∷ 32 ∷ 124 ∷ 32 ∷ 108 ∷ 101 ∷ 110 ∷ 103 ∷ 116 ∷ 104 ∷ 32 ∷ 125 ∷ 125 ∷ []) ≡ Some (concatenation (expression (literal (text (codes "x"))) (expression (length_of (path (variable (codes "ansible_os_family")) ([]))) (no_expressions))))
text_2034 = refl

text_2035 : template_of (120 ∷ 123 ∷ 123 ∷ 32 ∷ 97 ∷ 110 ∷ 115 ∷ 105 ∷ 98 ∷ 108 ∷ 101 ∷ 95 ∷ 111 ∷ 115 ∷ 95 ∷ 102 ∷ 97 ∷ 109 ∷ 105 ∷ 108 ∷ 121 ∷ 32 ∷ 125 ∷ 125 ∷ []) ≡ Some (concatenation (expression (literal (text (codes "x"))) (expression (path (variable (codes "ansible_os_family")) ([])) (no_expressions))))
text_2035 = refl

text_2036 : template_of (120 ∷ 123 ∷ 123 ∷ 32 ∷ 97 ∷ 110 ∷ 115 ∷ 105 ∷ 98 ∷ 108 ∷ 101 ∷ 95 ∷ 112 ∷ 108 ∷ 97 ∷ 121 ∷ 95 ∷ 98 ∷ 97 ∷ 116 ∷ 99 ∷ 104 ∷ 32 ∷ 124 ∷ 32 ∷ 100 ∷ 101 ∷ 102 ∷ 97 ∷ 117 ∷ 108 ∷ 116 ∷ 40 ∷ 49 ∷ 41 ∷ 32 ∷ 125 ∷ 125 ∷ []) ≡ Some (concatenation (expression (literal (text (codes "x"))) (expression (path_or (variable (codes "ansible_play_batch")) ([]) (literal (int (pos 1)))) (no_expressions))))
text_2036 = refl

text_2037 : template_of (120 ∷ 123 ∷ 123 ∷ 32 ∷ 97 ∷ 110 ∷ 115 ∷ 105 ∷ 98 ∷ 108 ∷ 101 ∷ 95 ∷ 112 ∷ 108 ∷ 97 ∷ 121 ∷ 95 ∷ 98 ∷ 97 ∷ 116 ∷ 99 ∷ 104 ∷ 32 ∷ 124 ∷ 32 ∷ 108 ∷ 101 ∷ 110 ∷ 103 ∷ 116 ∷ 104 ∷ 32 ∷ 125 ∷ 125 ∷ []) ≡ Some (concatenation (expression (literal (text (codes "x"))) (expression (length_of (path (variable (codes "ansible_play_batch")) ([]))) (no_expressions))))
text_2037 = refl

text_2038 : template_of (120 ∷ 123 ∷ 123 ∷ 32 ∷ 97 ∷ 110 ∷ 115 ∷ 105 ∷ 98 ∷ 108 ∷ 101 ∷ 95 ∷ 112 ∷ 108 ∷ 97 ∷ 121 ∷ 95 ∷ 98 ∷ 97 ∷ 116 ∷ 99 ∷ 104 ∷ 32 ∷ 125 ∷ 125 ∷ []) ≡ Some (concatenation (expression (literal (text (codes "x"))) (expression (path (variable (codes "ansible_play_batch")) ([])) (no_expressions))))
text_2038 = refl

text_2039 : template_of (120 ∷ 123 ∷ 123 ∷ 32 ∷ 97 ∷ 110 ∷ 115 ∷ 105 ∷ 98 ∷ 108 ∷ 101 ∷ 95 ∷ 112 ∷ 108 ∷ 97 ∷ 121 ∷ 95 ∷ 98 ∷ 97 ∷ 116 ∷ 99 ∷ 104 ∷ 46 ∷ 104 ∷ 111 ∷ 115 ∷ 116 ∷ 110 ∷ 97 ∷ 109 ∷ 101 ∷ 32 ∷ 105 ∷ 115 ∷ 32 ∷ 117 ∷ 110 ∷ 100 ∷ 101 ∷ 102 ∷ 105 ∷ 110 ∷ 101 ∷ 100 ∷ 32 ∷ 125 ∷ 125 ∷ []) ≡ Some (concatenation (expression (literal (text (codes "x"))) (expression (negation (defined (variable (codes "ansible_play_batch")) ((codes "hostname") ∷ []))) (no_expressions))))
text_2039 = refl

text_2040 : template_of (120 ∷ 123 ∷ 123 ∷ 32 ∷ 97 ∷ 110 ∷ 115 ∷ 105 ∷ 98 ∷ 108 ∷ 101 ∷ 95 ∷ 112 ∷ 108 ∷ 97 ∷ 121 ∷ 95 ∷ 98 ∷ 97 ∷ 116 ∷ 99 ∷ 104 ∷ 46 ∷ 115 ∷ 116 ∷ 100 ∷ 111 ∷ 117 ∷ 116 ∷ 32 ∷ 124 ∷ 32 ∷ 100 ∷ 101 ∷ 102 ∷ 97 ∷ 117 ∷ 108 ∷ 116 ∷ 40 ∷ 49 ∷ 41 ∷ 32 ∷ 125 ∷ 125 ∷ []) ≡ Some (concatenation (expression (literal (text (codes "x"))) (expression (path_or (variable (codes "ansible_play_batch")) ((codes "stdout") ∷ []) (literal (int (pos 1)))) (no_expressions))))
text_2040 = refl

text_2041 : template_of (120 ∷ 123 ∷ 123 ∷ 32 ∷ 103 ∷ 114 ∷ 111 ∷ 117 ∷ 112 ∷ 95 ∷ 110 ∷ 97 ∷ 109 ∷ 101 ∷ 115 ∷ 32 ∷ 124 ∷ 32 ∷ 100 ∷ 101 ∷ 102 ∷ 97 ∷ 117 ∷ 108 ∷ 116 ∷ 40 ∷ 49 ∷ 41 ∷ 32 ∷ 125 ∷ 125 ∷ []) ≡ Some (concatenation (expression (literal (text (codes "x"))) (expression (path_or (variable (codes "group_names")) ([]) (literal (int (pos 1)))) (no_expressions))))
text_2041 = refl

text_2042 : template_of (120 ∷ 123 ∷ 123 ∷ 32 ∷ 103 ∷ 114 ∷ 111 ∷ 117 ∷ 112 ∷ 95 ∷ 110 ∷ 97 ∷ 109 ∷ 101 ∷ 115 ∷ 32 ∷ 124 ∷ 32 ∷ 108 ∷ 101 ∷ 110 ∷ 103 ∷ 116 ∷ 104 ∷ 32 ∷ 125 ∷ 125 ∷ []) ≡ Some (concatenation (expression (literal (text (codes "x"))) (expression (length_of (path (variable (codes "group_names")) ([]))) (no_expressions))))
text_2042 = refl

text_2043 : template_of (120 ∷ 123 ∷ 123 ∷ 32 ∷ 103 ∷ 114 ∷ 111 ∷ 117 ∷ 112 ∷ 95 ∷ 110 ∷ 97 ∷ 109 ∷ 101 ∷ 115 ∷ 32 ∷ 125 ∷ 125 ∷ []) ≡ Some (concatenation (expression (literal (text (codes "x"))) (expression (path (variable (codes "group_names")) ([])) (no_expressions))))
text_2043 = refl

text_2044 : template_of (120 ∷ 123 ∷ 123 ∷ 32 ∷ 103 ∷ 114 ∷ 111 ∷ 117 ∷ 112 ∷ 95 ∷ 110 ∷ 97 ∷ 109 ∷ 101 ∷ 115 ∷ 46 ∷ 109 ∷ 115 ∷ 103 ∷ 32 ∷ 125 ∷ 125 ∷ []) ≡ Some (concatenation (expression (literal (text (codes "x"))) (expression (path (variable (codes "group_names")) ((codes "msg") ∷ [])) (no_expressions))))
text_2044 = refl

text_2045 : template_of (120 ∷ 123 ∷ 123 ∷ 32 ∷ 103 ∷ 114 ∷ 111 ∷ 117 ∷ 112 ∷ 95 ∷ 110 ∷ 97 ∷ 109 ∷ 101 ∷ 115 ∷ 46 ∷ 114 ∷ 101 ∷ 115 ∷ 117 ∷ 108 ∷ 116 ∷ 115 ∷ 32 ∷ 105 ∷ 115 ∷ 32 ∷ 115 ∷ 117 ∷ 99 ∷ 99 ∷ 101 ∷ 101 ∷ 100 ∷ 101 ∷ 100 ∷ 32 ∷ 125 ∷ 125 ∷ []) ≡ Some (concatenation (expression (literal (text (codes "x"))) (expression (negation (path_status is_failed (variable (codes "group_names")) ((codes "results") ∷ []))) (no_expressions))))
text_2045 = refl

text_2046 : template_of (120 ∷ 123 ∷ 123 ∷ 32 ∷ 103 ∷ 114 ∷ 111 ∷ 117 ∷ 112 ∷ 115 ∷ 46 ∷ 97 ∷ 108 ∷ 108 ∷ 32 ∷ 124 ∷ 32 ∷ 100 ∷ 101 ∷ 102 ∷ 97 ∷ 117 ∷ 108 ∷ 116 ∷ 40 ∷ 91 ∷ 93 ∷ 41 ∷ 32 ∷ 125 ∷ 125 ∷ []) ≡ Some (concatenation (expression (literal (text (codes "x"))) (expression (path_or (variable (codes "groups")) ((codes "all") ∷ []) (list_of (no_expressions))) (no_expressions))))
text_2046 = refl

text_2047 : template_of (120 ∷ 123 ∷ 123 ∷ 32 ∷ 103 ∷ 114 ∷ 111 ∷ 117 ∷ 112 ∷ 115 ∷ 46 ∷ 97 ∷ 108 ∷ 108 ∷ 32 ∷ 124 ∷ 32 ∷ 108 ∷ 101 ∷ 110 ∷ 103 ∷ 116 ∷ 104 ∷ 32 ∷ 125 ∷ 125 ∷ []) ≡ Some (concatenation (expression (literal (text (codes "x"))) (expression (length_of (path (variable (codes "groups")) ((codes "all") ∷ []))) (no_expressions))))
text_2047 = refl

text_2048 : template_of (120 ∷ 123 ∷ 123 ∷ 32 ∷ 103 ∷ 114 ∷ 111 ∷ 117 ∷ 112 ∷ 115 ∷ 46 ∷ 97 ∷ 108 ∷ 108 ∷ 32 ∷ 125 ∷ 125 ∷ []) ≡ Some (concatenation (expression (literal (text (codes "x"))) (expression (path (variable (codes "groups")) ((codes "all") ∷ [])) (no_expressions))))
text_2048 = refl

text_2049 : template_of (120 ∷ 123 ∷ 123 ∷ 32 ∷ 103 ∷ 114 ∷ 111 ∷ 117 ∷ 112 ∷ 115 ∷ 46 ∷ 103 ∷ 32 ∷ 124 ∷ 32 ∷ 100 ∷ 101 ∷ 102 ∷ 97 ∷ 117 ∷ 108 ∷ 116 ∷ 40 ∷ 49 ∷ 41 ∷ 32 ∷ 125 ∷ 125 ∷ []) ≡ Some (concatenation (expression (literal (text (codes "x"))) (expression (path_or (variable (codes "groups")) ((codes "g") ∷ []) (literal (int (pos 1)))) (no_expressions))))
text_2049 = refl

text_2050 : template_of (120 ∷ 123 ∷ 123 ∷ 32 ∷ 104 ∷ 111 ∷ 115 ∷ 116 ∷ 118 ∷ 97 ∷ 114 ∷ 115 ∷ 91 ∷ 105 ∷ 110 ∷ 118 ∷ 101 ∷ 110 ∷ 116 ∷ 111 ∷ 114 ∷ 121 ∷ 95 ∷ 104 ∷ 111 ∷ 115 ∷ 116 ∷ 110 ∷ 97 ∷ 109 ∷ 101 ∷ 93 ∷ 46 ∷ 97 ∷ 110 ∷ 115 ∷ 105 ∷ 98 ∷ 108 ∷ 101 ∷ 95 ∷ 104 ∷ 111 ∷ 115 ∷ 116 ∷ 110 ∷ 97 ∷ 109 ∷ 101 ∷ 46 ∷ 115 ∷ 116 ∷ 100 ∷ 111 ∷ 117 ∷ 116 ∷ 95 ∷ 108 ∷ 105 ∷ 110 ∷ 101 ∷ 115 ∷ 32 ∷ 124 ∷ 32 ∷ 100 ∷ 101 ∷ 102 ∷ 97 ∷ 117 ∷ 108 ∷ 116 ∷ 40 ∷ 49 ∷ 41 ∷ 32 ∷ 125 ∷ 125 ∷ []) ≡ Some (concatenation (expression (literal (text (codes "x"))) (expression (path_or (other this_host (codes "ansible_hostname")) ((codes "stdout_lines") ∷ []) (literal (int (pos 1)))) (no_expressions))))
text_2050 = refl

text_2051 : template_of (120 ∷ 123 ∷ 123 ∷ 32 ∷ 104 ∷ 111 ∷ 115 ∷ 116 ∷ 118 ∷ 97 ∷ 114 ∷ 115 ∷ 91 ∷ 105 ∷ 110 ∷ 118 ∷ 101 ∷ 110 ∷ 116 ∷ 111 ∷ 114 ∷ 121 ∷ 95 ∷ 104 ∷ 111 ∷ 115 ∷ 116 ∷ 110 ∷ 97 ∷ 109 ∷ 101 ∷ 93 ∷ 46 ∷ 105 ∷ 49 ∷ 46 ∷ 102 ∷ 32 ∷ 124 ∷ 32 ∷ 100 ∷ 101 ∷ 102 ∷ 97 ∷ 117 ∷ 108 ∷ 116 ∷ 40 ∷ 49 ∷ 41 ∷ 32 ∷ 125 ∷ 125 ∷ []) ≡ Some (concatenation (expression (literal (text (codes "x"))) (expression (path_or (other this_host (codes "i1")) ((codes "f") ∷ []) (literal (int (pos 1)))) (no_expressions))))
text_2051 = refl

text_2052 : template_of (120 ∷ 123 ∷ 123 ∷ 32 ∷ 104 ∷ 111 ∷ 115 ∷ 116 ∷ 118 ∷ 97 ∷ 114 ∷ 115 ∷ 91 ∷ 105 ∷ 110 ∷ 118 ∷ 101 ∷ 110 ∷ 116 ∷ 111 ∷ 114 ∷ 121 ∷ 95 ∷ 104 ∷ 111 ∷ 115 ∷ 116 ∷ 110 ∷ 97 ∷ 109 ∷ 101 ∷ 93 ∷ 46 ∷ 105 ∷ 50 ∷ 32 ∷ 125 ∷ 125 ∷ []) ≡ Some (concatenation (expression (literal (text (codes "x"))) (expression (path (other this_host (codes "i2")) ([])) (no_expressions))))
text_2052 = refl

text_2053 : template_of (120 ∷ 123 ∷ 123 ∷ 32 ∷ 104 ∷ 111 ∷ 115 ∷ 116 ∷ 118 ∷ 97 ∷ 114 ∷ 115 ∷ 91 ∷ 105 ∷ 110 ∷ 118 ∷ 101 ∷ 110 ∷ 116 ∷ 111 ∷ 114 ∷ 121 ∷ 95 ∷ 104 ∷ 111 ∷ 115 ∷ 116 ∷ 110 ∷ 97 ∷ 109 ∷ 101 ∷ 93 ∷ 46 ∷ 105 ∷ 110 ∷ 118 ∷ 32 ∷ 125 ∷ 125 ∷ []) ≡ Some (concatenation (expression (literal (text (codes "x"))) (expression (path (other this_host (codes "inv")) ([])) (no_expressions))))
text_2053 = refl

text_2054 : template_of (120 ∷ 123 ∷ 123 ∷ 32 ∷ 104 ∷ 111 ∷ 115 ∷ 116 ∷ 118 ∷ 97 ∷ 114 ∷ 115 ∷ 91 ∷ 105 ∷ 110 ∷ 118 ∷ 101 ∷ 110 ∷ 116 ∷ 111 ∷ 114 ∷ 121 ∷ 95 ∷ 104 ∷ 111 ∷ 115 ∷ 116 ∷ 110 ∷ 97 ∷ 109 ∷ 101 ∷ 93 ∷ 46 ∷ 114 ∷ 32 ∷ 124 ∷ 32 ∷ 108 ∷ 101 ∷ 110 ∷ 103 ∷ 116 ∷ 104 ∷ 32 ∷ 125 ∷ 125 ∷ []) ≡ Some (concatenation (expression (literal (text (codes "x"))) (expression (length_of (path (other this_host (codes "r")) ([]))) (no_expressions))))
text_2054 = refl

text_2055 : template_of (120 ∷ 123 ∷ 123 ∷ 32 ∷ 104 ∷ 111 ∷ 115 ∷ 116 ∷ 118 ∷ 97 ∷ 114 ∷ 115 ∷ 91 ∷ 105 ∷ 110 ∷ 118 ∷ 101 ∷ 110 ∷ 116 ∷ 111 ∷ 114 ∷ 121 ∷ 95 ∷ 104 ∷ 111 ∷ 115 ∷ 116 ∷ 110 ∷ 97 ∷ 109 ∷ 101 ∷ 93 ∷ 46 ∷ 114 ∷ 46 ∷ 115 ∷ 116 ∷ 100 ∷ 111 ∷ 117 ∷ 116 ∷ 95 ∷ 108 ∷ 105 ∷ 110 ∷ 101 ∷ 115 ∷ 32 ∷ 125 ∷ 125 ∷ []) ≡ Some (concatenation (expression (literal (text (codes "x"))) (expression (path (other this_host (codes "r")) ((codes "stdout_lines") ∷ [])) (no_expressions))))
text_2055 = refl

text_2056 : template_of (120 ∷ 123 ∷ 123 ∷ 32 ∷ 104 ∷ 111 ∷ 115 ∷ 116 ∷ 118 ∷ 97 ∷ 114 ∷ 115 ∷ 91 ∷ 105 ∷ 110 ∷ 118 ∷ 101 ∷ 110 ∷ 116 ∷ 111 ∷ 114 ∷ 121 ∷ 95 ∷ 104 ∷ 111 ∷ 115 ∷ 116 ∷ 110 ∷ 97 ∷ 109 ∷ 101 ∷ 93 ∷ 46 ∷ 114 ∷ 49 ∷ 32 ∷ 125 ∷ 125 ∷ []) ≡ Some (concatenation (expression (literal (text (codes "x"))) (expression (path (other this_host (codes "r1")) ([])) (no_expressions))))
text_2056 = refl

text_2057 : template_of (120 ∷ 123 ∷ 123 ∷ 32 ∷ 104 ∷ 111 ∷ 115 ∷ 116 ∷ 118 ∷ 97 ∷ 114 ∷ 115 ∷ 91 ∷ 105 ∷ 110 ∷ 118 ∷ 101 ∷ 110 ∷ 116 ∷ 111 ∷ 114 ∷ 121 ∷ 95 ∷ 104 ∷ 111 ∷ 115 ∷ 116 ∷ 110 ∷ 97 ∷ 109 ∷ 101 ∷ 93 ∷ 46 ∷ 114 ∷ 50 ∷ 32 ∷ 125 ∷ 125 ∷ []) ≡ Some (concatenation (expression (literal (text (codes "x"))) (expression (path (other this_host (codes "r2")) ([])) (no_expressions))))
text_2057 = refl

text_2058 : template_of (120 ∷ 123 ∷ 123 ∷ 32 ∷ 104 ∷ 111 ∷ 115 ∷ 116 ∷ 118 ∷ 97 ∷ 114 ∷ 115 ∷ 91 ∷ 105 ∷ 110 ∷ 118 ∷ 101 ∷ 110 ∷ 116 ∷ 111 ∷ 114 ∷ 121 ∷ 95 ∷ 104 ∷ 111 ∷ 115 ∷ 116 ∷ 110 ∷ 97 ∷ 109 ∷ 101 ∷ 93 ∷ 46 ∷ 114 ∷ 50 ∷ 46 ∷ 102 ∷ 97 ∷ 105 ∷ 108 ∷ 101 ∷ 100 ∷ 32 ∷ 124 ∷ 32 ∷ 100 ∷ 101 ∷ 102 ∷ 97 ∷ 117 ∷ 108 ∷ 116 ∷ 40 ∷ 49 ∷ 41 ∷ 32 ∷ 125 ∷ 125 ∷ []) ≡ Some (concatenation (expression (literal (text (codes "x"))) (expression (path_or (other this_host (codes "r2")) ((codes "failed") ∷ []) (literal (int (pos 1)))) (no_expressions))))
text_2058 = refl

text_2059 : template_of (120 ∷ 123 ∷ 123 ∷ 32 ∷ 104 ∷ 111 ∷ 115 ∷ 116 ∷ 118 ∷ 97 ∷ 114 ∷ 115 ∷ 91 ∷ 105 ∷ 110 ∷ 118 ∷ 101 ∷ 110 ∷ 116 ∷ 111 ∷ 114 ∷ 121 ∷ 95 ∷ 104 ∷ 111 ∷ 115 ∷ 116 ∷ 110 ∷ 97 ∷ 109 ∷ 101 ∷ 93 ∷ 46 ∷ 114 ∷ 50 ∷ 46 ∷ 102 ∷ 97 ∷ 105 ∷ 108 ∷ 101 ∷ 100 ∷ 32 ∷ 125 ∷ 125 ∷ []) ≡ Some (concatenation (expression (literal (text (codes "x"))) (expression (path (other this_host (codes "r2")) ((codes "failed") ∷ [])) (no_expressions))))
text_2059 = refl

text_2060 : template_of (120 ∷ 123 ∷ 123 ∷ 32 ∷ 104 ∷ 111 ∷ 115 ∷ 116 ∷ 118 ∷ 97 ∷ 114 ∷ 115 ∷ 91 ∷ 105 ∷ 110 ∷ 118 ∷ 101 ∷ 110 ∷ 116 ∷ 111 ∷ 114 ∷ 121 ∷ 95 ∷ 104 ∷ 111 ∷ 115 ∷ 116 ∷ 110 ∷ 97 ∷ 109 ∷ 101 ∷ 93 ∷ 46 ∷ 114 ∷ 50 ∷ 46 ∷ 118 ∷ 32 ∷ 125 ∷ 125 ∷ []) ≡ Some (concatenation (expression (literal (text (codes "x"))) (expression (path (other this_host (codes "r2")) ((codes "v") ∷ [])) (no_expressions))))
text_2060 = refl

text_2061 : template_of (120 ∷ 123 ∷ 123 ∷ 32 ∷ 104 ∷ 111 ∷ 115 ∷ 116 ∷ 118 ∷ 97 ∷ 114 ∷ 115 ∷ 91 ∷ 105 ∷ 110 ∷ 118 ∷ 101 ∷ 110 ∷ 116 ∷ 111 ∷ 114 ∷ 121 ∷ 95 ∷ 104 ∷ 111 ∷ 115 ∷ 116 ∷ 110 ∷ 97 ∷ 109 ∷ 101 ∷ 93 ∷ 46 ∷ 114 ∷ 51 ∷ 46 ∷ 99 ∷ 104 ∷ 97 ∷ 110 ∷ 103 ∷ 101 ∷ 100 ∷ 32 ∷ 124 ∷ 32 ∷ 108 ∷ 101 ∷ 110 ∷ 103 ∷ 116 ∷ 104 ∷ 32 ∷ 125 ∷ 125 ∷ []) ≡ Some (concatenation (expression (literal (text (codes "x"))) (expression (length_of (path (other this_host (codes "r3")) ((codes "changed") ∷ []))) (no_expressions))))
text_2061 = refl

text_2062 : template_of (120 ∷ 123 ∷ 123 ∷ 32 ∷ 104 ∷ 111 ∷ 115 ∷ 116 ∷ 118 ∷ 97 ∷ 114 ∷ 115 ∷ 91 ∷ 105 ∷ 110 ∷ 118 ∷ 101 ∷ 110 ∷ 116 ∷ 111 ∷ 114 ∷ 121 ∷ 95 ∷ 104 ∷ 111 ∷ 115 ∷ 116 ∷ 110 ∷ 97 ∷ 109 ∷ 101 ∷ 93 ∷ 46 ∷ 114 ∷ 51 ∷ 46 ∷ 99 ∷ 104 ∷ 97 ∷ 110 ∷ 103 ∷ 101 ∷ 100 ∷ 32 ∷ 125 ∷ 125 ∷ []) ≡ Some (concatenation (expression (literal (text (codes "x"))) (expression (path (other this_host (codes "r3")) ((codes "changed") ∷ [])) (no_expressions))))
text_2062 = refl

text_2063 : template_of (120 ∷ 123 ∷ 123 ∷ 32 ∷ 104 ∷ 111 ∷ 115 ∷ 116 ∷ 118 ∷ 97 ∷ 114 ∷ 115 ∷ 91 ∷ 105 ∷ 110 ∷ 118 ∷ 101 ∷ 110 ∷ 116 ∷ 111 ∷ 114 ∷ 121 ∷ 95 ∷ 104 ∷ 111 ∷ 115 ∷ 116 ∷ 110 ∷ 97 ∷ 109 ∷ 101 ∷ 93 ∷ 46 ∷ 114 ∷ 51 ∷ 46 ∷ 102 ∷ 97 ∷ 105 ∷ 108 ∷ 101 ∷ 100 ∷ 32 ∷ 125 ∷ 125 ∷ []) ≡ Some (concatenation (expression (literal (text (codes "x"))) (expression (path (other this_host (codes "r3")) ((codes "failed") ∷ [])) (no_expressions))))
text_2063 = refl

text_2064 : template_of (120 ∷ 123 ∷ 123 ∷ 32 ∷ 104 ∷ 111 ∷ 115 ∷ 116 ∷ 118 ∷ 97 ∷ 114 ∷ 115 ∷ 91 ∷ 105 ∷ 110 ∷ 118 ∷ 101 ∷ 110 ∷ 116 ∷ 111 ∷ 114 ∷ 121 ∷ 95 ∷ 104 ∷ 111 ∷ 115 ∷ 116 ∷ 110 ∷ 97 ∷ 109 ∷ 101 ∷ 93 ∷ 46 ∷ 115 ∷ 49 ∷ 32 ∷ 125 ∷ 125 ∷ []) ≡ Some (concatenation (expression (literal (text (codes "x"))) (expression (path (other this_host (codes "s1")) ([])) (no_expressions))))
text_2064 = refl

text_2065 : template_of (120 ∷ 123 ∷ 123 ∷ 32 ∷ 104 ∷ 111 ∷ 115 ∷ 116 ∷ 118 ∷ 97 ∷ 114 ∷ 115 ∷ 91 ∷ 105 ∷ 116 ∷ 101 ∷ 109 ∷ 93 ∷ 46 ∷ 105 ∷ 110 ∷ 118 ∷ 32 ∷ 124 ∷ 32 ∷ 108 ∷ 101 ∷ 110 ∷ 103 ∷ 116 ∷ 104 ∷ 32 ∷ 125 ∷ 125 ∷ []) ≡ Some (concatenation (expression (literal (text (codes "x"))) (expression (length_of (path (other item_host (codes "inv")) ([]))) (no_expressions))))
text_2065 = refl

text_2066 : template_of (120 ∷ 123 ∷ 123 ∷ 32 ∷ 104 ∷ 111 ∷ 115 ∷ 116 ∷ 118 ∷ 97 ∷ 114 ∷ 115 ∷ 91 ∷ 105 ∷ 116 ∷ 101 ∷ 109 ∷ 93 ∷ 46 ∷ 105 ∷ 110 ∷ 118 ∷ 32 ∷ 125 ∷ 125 ∷ []) ≡ Some (concatenation (expression (literal (text (codes "x"))) (expression (path (other item_host (codes "inv")) ([])) (no_expressions))))
text_2066 = refl

text_2067 : template_of (120 ∷ 123 ∷ 123 ∷ 32 ∷ 104 ∷ 111 ∷ 115 ∷ 116 ∷ 118 ∷ 97 ∷ 114 ∷ 115 ∷ 91 ∷ 105 ∷ 116 ∷ 101 ∷ 109 ∷ 93 ∷ 46 ∷ 105 ∷ 110 ∷ 118 ∷ 46 ∷ 114 ∷ 99 ∷ 32 ∷ 125 ∷ 125 ∷ []) ≡ Some (concatenation (expression (literal (text (codes "x"))) (expression (path (other item_host (codes "inv")) ((codes "rc") ∷ [])) (no_expressions))))
text_2067 = refl

text_2068 : template_of (120 ∷ 123 ∷ 123 ∷ 32 ∷ 104 ∷ 111 ∷ 115 ∷ 116 ∷ 118 ∷ 97 ∷ 114 ∷ 115 ∷ 91 ∷ 105 ∷ 116 ∷ 101 ∷ 109 ∷ 93 ∷ 46 ∷ 111 ∷ 112 ∷ 46 ∷ 102 ∷ 32 ∷ 124 ∷ 32 ∷ 100 ∷ 101 ∷ 102 ∷ 97 ∷ 117 ∷ 108 ∷ 116 ∷ 40 ∷ 91 ∷ 93 ∷ 41 ∷ 32 ∷ 125 ∷ 125 ∷ []) ≡ Some (concatenation (expression (literal (text (codes "x"))) (expression (path_or (other item_host (codes "op")) ((codes "f") ∷ []) (list_of (no_expressions))) (no_expressions))))
text_2068 = refl

text_2069 : template_of (120 ∷ 123 ∷ 123 ∷ 32 ∷ 104 ∷ 111 ∷ 115 ∷ 116 ∷ 118 ∷ 97 ∷ 114 ∷ 115 ∷ 91 ∷ 105 ∷ 116 ∷ 101 ∷ 109 ∷ 93 ∷ 46 ∷ 111 ∷ 112 ∷ 113 ∷ 32 ∷ 125 ∷ 125 ∷ []) ≡ Some (concatenation (expression (literal (text (codes "x"))) (expression (path (other item_host (codes "opq")) ([])) (no_expressions))))
text_2069 = refl

text_2070 : template_of (120 ∷ 123 ∷ 123 ∷ 32 ∷ 104 ∷ 111 ∷ 115 ∷ 116 ∷ 118 ∷ 97 ∷ 114 ∷ 115 ∷ 91 ∷ 105 ∷ 116 ∷ 101 ∷ 109 ∷ 93 ∷ 46 ∷ 111 ∷ 112 ∷ 113 ∷ 46 ∷ 115 ∷ 116 ∷ 97 ∷ 116 ∷ 46 ∷ 105 ∷ 115 ∷ 100 ∷ 105 ∷ 114 ∷ 32 ∷ 125 ∷ 125 ∷ []) ≡ Some (concatenation (expression (literal (text (codes "x"))) (expression (path (other item_host (codes "opq")) ((codes "stat") ∷ (codes "isdir") ∷ [])) (no_expressions))))
text_2070 = refl

text_2071 : template_of (120 ∷ 123 ∷ 123 ∷ 32 ∷ 104 ∷ 111 ∷ 115 ∷ 116 ∷ 118 ∷ 97 ∷ 114 ∷ 115 ∷ 91 ∷ 105 ∷ 116 ∷ 101 ∷ 109 ∷ 93 ∷ 46 ∷ 114 ∷ 32 ∷ 125 ∷ 125 ∷ []) ≡ Some (concatenation (expression (literal (text (codes "x"))) (expression (path (other item_host (codes "r")) ([])) (no_expressions))))
text_2071 = refl

text_2072 : template_of (120 ∷ 123 ∷ 123 ∷ 32 ∷ 104 ∷ 111 ∷ 115 ∷ 116 ∷ 118 ∷ 97 ∷ 114 ∷ 115 ∷ 91 ∷ 105 ∷ 116 ∷ 101 ∷ 109 ∷ 93 ∷ 46 ∷ 114 ∷ 46 ∷ 99 ∷ 104 ∷ 97 ∷ 110 ∷ 103 ∷ 101 ∷ 100 ∷ 32 ∷ 125 ∷ 125 ∷ []) ≡ Some (concatenation (expression (literal (text (codes "x"))) (expression (path (other item_host (codes "r")) ((codes "changed") ∷ [])) (no_expressions))))
text_2072 = refl

text_2073 : template_of (120 ∷ 123 ∷ 123 ∷ 32 ∷ 104 ∷ 111 ∷ 115 ∷ 116 ∷ 118 ∷ 97 ∷ 114 ∷ 115 ∷ 91 ∷ 105 ∷ 116 ∷ 101 ∷ 109 ∷ 93 ∷ 46 ∷ 114 ∷ 46 ∷ 109 ∷ 115 ∷ 103 ∷ 32 ∷ 125 ∷ 125 ∷ []) ≡ Some (concatenation (expression (literal (text (codes "x"))) (expression (path (other item_host (codes "r")) ((codes "msg") ∷ [])) (no_expressions))))
text_2073 = refl

text_2074 : template_of (120 ∷ 123 ∷ 123 ∷ 32 ∷ 104 ∷ 111 ∷ 115 ∷ 116 ∷ 118 ∷ 97 ∷ 114 ∷ 115 ∷ 91 ∷ 105 ∷ 116 ∷ 101 ∷ 109 ∷ 93 ∷ 46 ∷ 114 ∷ 50 ∷ 32 ∷ 124 ∷ 32 ∷ 108 ∷ 101 ∷ 110 ∷ 103 ∷ 116 ∷ 104 ∷ 32 ∷ 125 ∷ 125 ∷ []) ≡ Some (concatenation (expression (literal (text (codes "x"))) (expression (length_of (path (other item_host (codes "r2")) ([]))) (no_expressions))))
text_2074 = refl

text_2075 : template_of (120 ∷ 123 ∷ 123 ∷ 32 ∷ 104 ∷ 111 ∷ 115 ∷ 116 ∷ 118 ∷ 97 ∷ 114 ∷ 115 ∷ 91 ∷ 105 ∷ 116 ∷ 101 ∷ 109 ∷ 93 ∷ 46 ∷ 114 ∷ 50 ∷ 46 ∷ 99 ∷ 104 ∷ 97 ∷ 110 ∷ 103 ∷ 101 ∷ 100 ∷ 32 ∷ 125 ∷ 125 ∷ []) ≡ Some (concatenation (expression (literal (text (codes "x"))) (expression (path (other item_host (codes "r2")) ((codes "changed") ∷ [])) (no_expressions))))
text_2075 = refl

text_2076 : template_of (120 ∷ 123 ∷ 123 ∷ 32 ∷ 104 ∷ 111 ∷ 115 ∷ 116 ∷ 118 ∷ 97 ∷ 114 ∷ 115 ∷ 91 ∷ 105 ∷ 116 ∷ 101 ∷ 109 ∷ 93 ∷ 46 ∷ 114 ∷ 51 ∷ 46 ∷ 99 ∷ 104 ∷ 97 ∷ 110 ∷ 103 ∷ 101 ∷ 100 ∷ 32 ∷ 124 ∷ 32 ∷ 108 ∷ 101 ∷ 110 ∷ 103 ∷ 116 ∷ 104 ∷ 32 ∷ 125 ∷ 125 ∷ []) ≡ Some (concatenation (expression (literal (text (codes "x"))) (expression (length_of (path (other item_host (codes "r3")) ((codes "changed") ∷ []))) (no_expressions))))
text_2076 = refl

text_2077 : template_of (120 ∷ 123 ∷ 123 ∷ 32 ∷ 105 ∷ 49 ∷ 32 ∷ 125 ∷ 125 ∷ []) ≡ Some (concatenation (expression (literal (text (codes "x"))) (expression (path (variable (codes "i1")) ([])) (no_expressions))))
text_2077 = refl

text_2078 : template_of (120 ∷ 123 ∷ 123 ∷ 32 ∷ 105 ∷ 49 ∷ 46 ∷ 103 ∷ 32 ∷ 124 ∷ 32 ∷ 100 ∷ 101 ∷ 102 ∷ 97 ∷ 117 ∷ 108 ∷ 116 ∷ 40 ∷ 49 ∷ 41 ∷ 32 ∷ 125 ∷ 125 ∷ []) ≡ Some (concatenation (expression (literal (text (codes "x"))) (expression (path_or (variable (codes "i1")) ((codes "g") ∷ []) (literal (int (pos 1)))) (no_expressions))))
text_2078 = refl

text_2079 : template_of (120 ∷ 123 ∷ 123 ∷ 32 ∷ 105 ∷ 49 ∷ 46 ∷ 115 ∷ 116 ∷ 100 ∷ 111 ∷ 117 ∷ 116 ∷ 32 ∷ 124 ∷ 32 ∷ 100 ∷ 101 ∷ 102 ∷ 97 ∷ 117 ∷ 108 ∷ 116 ∷ 40 ∷ 49 ∷ 41 ∷ 32 ∷ 125 ∷ 125 ∷ []) ≡ Some (concatenation (expression (literal (text (codes "x"))) (expression (path_or (variable (codes "i1")) ((codes "stdout") ∷ []) (literal (int (pos 1)))) (no_expressions))))
text_2079 = refl

text_2080 : template_of (120 ∷ 123 ∷ 123 ∷ 32 ∷ 105 ∷ 50 ∷ 32 ∷ 124 ∷ 32 ∷ 100 ∷ 101 ∷ 102 ∷ 97 ∷ 117 ∷ 108 ∷ 116 ∷ 40 ∷ 115 ∷ 49 ∷ 41 ∷ 32 ∷ 125 ∷ 125 ∷ []) ≡ Some (concatenation (expression (literal (text (codes "x"))) (expression (path_or (variable (codes "i2")) ([]) (path (variable (codes "s1")) ([]))) (no_expressions))))
text_2080 = refl

text_2081 : template_of (120 ∷ 123 ∷ 123 ∷ 32 ∷ 105 ∷ 50 ∷ 32 ∷ 125 ∷ 125 ∷ []) ≡ Some (concatenation (expression (literal (text (codes "x"))) (expression (path (variable (codes "i2")) ([])) (no_expressions))))
text_2081 = refl

text_2082 : template_of (120 ∷ 123 ∷ 123 ∷ 32 ∷ 105 ∷ 50 ∷ 46 ∷ 103 ∷ 32 ∷ 125 ∷ 125 ∷ []) ≡ Some (concatenation (expression (literal (text (codes "x"))) (expression (path (variable (codes "i2")) ((codes "g") ∷ [])) (no_expressions))))
text_2082 = refl

text_2083 : template_of (120 ∷ 123 ∷ 123 ∷ 32 ∷ 105 ∷ 110 ∷ 118 ∷ 32 ∷ 124 ∷ 32 ∷ 108 ∷ 101 ∷ 110 ∷ 103 ∷ 116 ∷ 104 ∷ 32 ∷ 125 ∷ 125 ∷ []) ≡ Some (concatenation (expression (literal (text (codes "x"))) (expression (length_of (path (variable (codes "inv")) ([]))) (no_expressions))))
text_2083 = refl

text_2084 : template_of (120 ∷ 123 ∷ 123 ∷ 32 ∷ 105 ∷ 110 ∷ 118 ∷ 32 ∷ 125 ∷ 125 ∷ []) ≡ Some (concatenation (expression (literal (text (codes "x"))) (expression (path (variable (codes "inv")) ([])) (no_expressions))))
text_2084 = refl

text_2085 : template_of (120 ∷ 123 ∷ 123 ∷ 32 ∷ 105 ∷ 110 ∷ 118 ∷ 46 ∷ 104 ∷ 111 ∷ 115 ∷ 116 ∷ 110 ∷ 97 ∷ 109 ∷ 101 ∷ 32 ∷ 125 ∷ 125 ∷ []) ≡ Some (concatenation (expression (literal (text (codes "x"))) (expression (path (variable (codes "inv")) ((codes "hostname") ∷ [])) (no_expressions))))
text_2085 = refl

text_2086 : template_of (120 ∷ 123 ∷ 123 ∷ 32 ∷ 105 ∷ 110 ∷ 118 ∷ 46 ∷ 109 ∷ 115 ∷ 103 ∷ 32 ∷ 124 ∷ 32 ∷ 100 ∷ 101 ∷ 102 ∷ 97 ∷ 117 ∷ 108 ∷ 116 ∷ 40 ∷ 91 ∷ 93 ∷ 41 ∷ 32 ∷ 125 ∷ 125 ∷ []) ≡ Some (concatenation (expression (literal (text (codes "x"))) (expression (path_or (variable (codes "inv")) ((codes "msg") ∷ []) (list_of (no_expressions))) (no_expressions))))
text_2086 = refl

text_2087 : template_of (120 ∷ 123 ∷ 123 ∷ 32 ∷ 105 ∷ 110 ∷ 118 ∷ 46 ∷ 115 ∷ 116 ∷ 97 ∷ 116 ∷ 46 ∷ 105 ∷ 115 ∷ 100 ∷ 105 ∷ 114 ∷ 32 ∷ 125 ∷ 125 ∷ []) ≡ Some (concatenation (expression (literal (text (codes "x"))) (expression (path (variable (codes "inv")) ((codes "stat") ∷ (codes "isdir") ∷ [])) (no_expressions))))
text_2087 = refl

text_2088 : template_of (120 ∷ 123 ∷ 123 ∷ 32 ∷ 105 ∷ 110 ∷ 118 ∷ 101 ∷ 110 ∷ 116 ∷ 111 ∷ 114 ∷ 121 ∷ 95 ∷ 104 ∷ 111 ∷ 115 ∷ 116 ∷ 110 ∷ 97 ∷ 109 ∷ 101 ∷ 32 ∷ 105 ∷ 110 ∷ 32 ∷ 97 ∷ 110 ∷ 115 ∷ 105 ∷ 98 ∷ 108 ∷ 101 ∷ 95 ∷ 112 ∷ 108 ∷ 97 ∷ 121 ∷ 95 ∷ 98 ∷ 97 ∷ 116 ∷ 99 ∷ 104 ∷ 32 ∷ 125 ∷ 125 ∷ []) ≡ Some (concatenation (expression (literal (text (codes "x"))) (expression (in_batch this_host) (no_expressions))))
text_2088 = refl

text_2089 : template_of (120 ∷ 123 ∷ 123 ∷ 32 ∷ 105 ∷ 110 ∷ 118 ∷ 101 ∷ 110 ∷ 116 ∷ 111 ∷ 114 ∷ 121 ∷ 95 ∷ 104 ∷ 111 ∷ 115 ∷ 116 ∷ 110 ∷ 97 ∷ 109 ∷ 101 ∷ 32 ∷ 124 ∷ 32 ∷ 100 ∷ 101 ∷ 102 ∷ 97 ∷ 117 ∷ 108 ∷ 116 ∷ 40 ∷ 49 ∷ 41 ∷ 32 ∷ 125 ∷ 125 ∷ []) ≡ Some (concatenation (expression (literal (text (codes "x"))) (expression (path_or (variable (codes "inventory_hostname")) ([]) (literal (int (pos 1)))) (no_expressions))))
text_2089 = refl

text_2090 : template_of (120 ∷ 123 ∷ 123 ∷ 32 ∷ 105 ∷ 110 ∷ 118 ∷ 101 ∷ 110 ∷ 116 ∷ 111 ∷ 114 ∷ 121 ∷ 95 ∷ 104 ∷ 111 ∷ 115 ∷ 116 ∷ 110 ∷ 97 ∷ 109 ∷ 101 ∷ 32 ∷ 125 ∷ 125 ∷ []) ≡ Some (concatenation (expression (literal (text (codes "x"))) (expression (path (variable (codes "inventory_hostname")) ([])) (no_expressions))))
text_2090 = refl

text_2091 : template_of (120 ∷ 123 ∷ 123 ∷ 32 ∷ 105 ∷ 110 ∷ 118 ∷ 101 ∷ 110 ∷ 116 ∷ 111 ∷ 114 ∷ 121 ∷ 95 ∷ 104 ∷ 111 ∷ 115 ∷ 116 ∷ 110 ∷ 97 ∷ 109 ∷ 101 ∷ 46 ∷ 109 ∷ 115 ∷ 103 ∷ 32 ∷ 124 ∷ 32 ∷ 100 ∷ 101 ∷ 102 ∷ 97 ∷ 117 ∷ 108 ∷ 116 ∷ 40 ∷ 91 ∷ 93 ∷ 41 ∷ 32 ∷ 125 ∷ 125 ∷ []) ≡ Some (concatenation (expression (literal (text (codes "x"))) (expression (path_or (variable (codes "inventory_hostname")) ((codes "msg") ∷ []) (list_of (no_expressions))) (no_expressions))))
text_2091 = refl

text_2092 : template_of (120 ∷ 123 ∷ 123 ∷ 32 ∷ 105 ∷ 110 ∷ 118 ∷ 101 ∷ 110 ∷ 116 ∷ 111 ∷ 114 ∷ 121 ∷ 95 ∷ 104 ∷ 111 ∷ 115 ∷ 116 ∷ 110 ∷ 97 ∷ 109 ∷ 101 ∷ 46 ∷ 115 ∷ 116 ∷ 97 ∷ 116 ∷ 46 ∷ 105 ∷ 115 ∷ 100 ∷ 105 ∷ 114 ∷ 32 ∷ 124 ∷ 32 ∷ 108 ∷ 101 ∷ 110 ∷ 103 ∷ 116 ∷ 104 ∷ 32 ∷ 125 ∷ 125 ∷ []) ≡ Some (concatenation (expression (literal (text (codes "x"))) (expression (length_of (path (variable (codes "inventory_hostname")) ((codes "stat") ∷ (codes "isdir") ∷ []))) (no_expressions))))
text_2092 = refl

text_2093 : template_of (120 ∷ 123 ∷ 123 ∷ 32 ∷ 105 ∷ 116 ∷ 101 ∷ 109 ∷ 32 ∷ 105 ∷ 110 ∷ 32 ∷ 97 ∷ 110 ∷ 115 ∷ 105 ∷ 98 ∷ 108 ∷ 101 ∷ 95 ∷ 112 ∷ 108 ∷ 97 ∷ 121 ∷ 95 ∷ 98 ∷ 97 ∷ 116 ∷ 99 ∷ 104 ∷ 32 ∷ 125 ∷ 125 ∷ []) ≡ Some (concatenation (expression (literal (text (codes "x"))) (expression (in_batch item_host) (no_expressions))))
text_2093 = refl

text_2094 : template_of (120 ∷ 123 ∷ 123 ∷ 32 ∷ 105 ∷ 116 ∷ 101 ∷ 109 ∷ 32 ∷ 125 ∷ 125 ∷ []) ≡ Some (concatenation (expression (literal (text (codes "x"))) (expression (path (variable (codes "item")) ([])) (no_expressions))))
text_2094 = refl

text_2095 : template_of (120 ∷ 123 ∷ 123 ∷ 32 ∷ 105 ∷ 116 ∷ 101 ∷ 109 ∷ 46 ∷ 99 ∷ 104 ∷ 97 ∷ 110 ∷ 103 ∷ 101 ∷ 100 ∷ 32 ∷ 124 ∷ 32 ∷ 100 ∷ 101 ∷ 102 ∷ 97 ∷ 117 ∷ 108 ∷ 116 ∷ 40 ∷ 49 ∷ 41 ∷ 32 ∷ 125 ∷ 125 ∷ []) ≡ Some (concatenation (expression (literal (text (codes "x"))) (expression (path_or (variable (codes "item")) ((codes "changed") ∷ []) (literal (int (pos 1)))) (no_expressions))))
text_2095 = refl

text_2096 : template_of (120 ∷ 123 ∷ 123 ∷ 32 ∷ 105 ∷ 116 ∷ 101 ∷ 109 ∷ 46 ∷ 99 ∷ 104 ∷ 97 ∷ 110 ∷ 103 ∷ 101 ∷ 100 ∷ 32 ∷ 125 ∷ 125 ∷ []) ≡ Some (concatenation (expression (literal (text (codes "x"))) (expression (path (variable (codes "item")) ((codes "changed") ∷ [])) (no_expressions))))
text_2096 = refl

text_2097 : template_of (120 ∷ 123 ∷ 123 ∷ 32 ∷ 105 ∷ 116 ∷ 101 ∷ 109 ∷ 46 ∷ 102 ∷ 32 ∷ 124 ∷ 32 ∷ 108 ∷ 101 ∷ 110 ∷ 103 ∷ 116 ∷ 104 ∷ 32 ∷ 125 ∷ 125 ∷ []) ≡ Some (concatenation (expression (literal (text (codes "x"))) (expression (length_of (path (variable (codes "item")) ((codes "f") ∷ []))) (no_expressions))))
text_2097 = refl

text_2098 : template_of (120 ∷ 123 ∷ 123 ∷ 32 ∷ 105 ∷ 116 ∷ 101 ∷ 109 ∷ 46 ∷ 102 ∷ 32 ∷ 125 ∷ 125 ∷ []) ≡ Some (concatenation (expression (literal (text (codes "x"))) (expression (path (variable (codes "item")) ((codes "f") ∷ [])) (no_expressions))))
text_2098 = refl

text_2099 : template_of (120 ∷ 123 ∷ 123 ∷ 32 ∷ 105 ∷ 116 ∷ 101 ∷ 109 ∷ 46 ∷ 111 ∷ 115 ∷ 95 ∷ 102 ∷ 97 ∷ 109 ∷ 105 ∷ 108 ∷ 121 ∷ 32 ∷ 124 ∷ 32 ∷ 100 ∷ 101 ∷ 102 ∷ 97 ∷ 117 ∷ 108 ∷ 116 ∷ 40 ∷ 118 ∷ 50 ∷ 46 ∷ 99 ∷ 104 ∷ 97 ∷ 110 ∷ 103 ∷ 101 ∷ 100 ∷ 41 ∷ 32 ∷ 125 ∷ 125 ∷ []) ≡ Some (concatenation (expression (literal (text (codes "x"))) (expression (path_or (variable (codes "item")) ((codes "os_family") ∷ []) (path (variable (codes "v2")) ((codes "changed") ∷ []))) (no_expressions))))
text_2099 = refl

text_2100 : template_of (120 ∷ 123 ∷ 123 ∷ 32 ∷ 105 ∷ 116 ∷ 101 ∷ 109 ∷ 46 ∷ 114 ∷ 99 ∷ 32 ∷ 124 ∷ 32 ∷ 100 ∷ 101 ∷ 102 ∷ 97 ∷ 117 ∷ 108 ∷ 116 ∷ 40 ∷ 115 ∷ 49 ∷ 41 ∷ 32 ∷ 125 ∷ 125 ∷ []) ≡ Some (concatenation (expression (literal (text (codes "x"))) (expression (path_or (variable (codes "item")) ((codes "rc") ∷ []) (path (variable (codes "s1")) ([]))) (no_expressions))))
text_2100 = refl

text_2101 : template_of (120 ∷ 123 ∷ 123 ∷ 32 ∷ 105 ∷ 116 ∷ 101 ∷ 109 ∷ 46 ∷ 114 ∷ 99 ∷ 32 ∷ 125 ∷ 125 ∷ []) ≡ Some (concatenation (expression (literal (text (codes "x"))) (expression (path (variable (codes "item")) ((codes "rc") ∷ [])) (no_expressions))))
text_2101 = refl

text_2102 : template_of (120 ∷ 123 ∷ 123 ∷ 32 ∷ 105 ∷ 116 ∷ 101 ∷ 109 ∷ 46 ∷ 115 ∷ 107 ∷ 105 ∷ 112 ∷ 112 ∷ 101 ∷ 100 ∷ 32 ∷ 125 ∷ 125 ∷ []) ≡ Some (concatenation (expression (literal (text (codes "x"))) (expression (path (variable (codes "item")) ((codes "skipped") ∷ [])) (no_expressions))))
text_2102 = refl

text_2103 : template_of (120 ∷ 123 ∷ 123 ∷ 32 ∷ 105 ∷ 116 ∷ 101 ∷ 109 ∷ 46 ∷ 115 ∷ 116 ∷ 97 ∷ 116 ∷ 46 ∷ 105 ∷ 115 ∷ 100 ∷ 105 ∷ 114 ∷ 32 ∷ 125 ∷ 125 ∷ []) ≡ Some (concatenation (expression (literal (text (codes "x"))) (expression (path (variable (codes "item")) ((codes "stat") ∷ (codes "isdir") ∷ [])) (no_expressions))))
text_2103 = refl

text_2104 : template_of (120 ∷ 123 ∷ 123 ∷ 32 ∷ 105 ∷ 116 ∷ 101 ∷ 109 ∷ 46 ∷ 115 ∷ 116 ∷ 100 ∷ 111 ∷ 117 ∷ 116 ∷ 95 ∷ 108 ∷ 105 ∷ 110 ∷ 101 ∷ 115 ∷ 32 ∷ 125 ∷ 125 ∷ []) ≡ Some (concatenation (expression (literal (text (codes "x"))) (expression (path (variable (codes "item")) ((codes "stdout_lines") ∷ [])) (no_expressions))))
text_2104 = refl

text_2105 : template_of (120 ∷ 123 ∷ 123 ∷ 32 ∷ 110 ∷ 111 ∷ 110 ∷ 101 ∷ 32 ∷ 125 ∷ 125 ∷ []) ≡ Some (concatenation (expression (literal (text (codes "x"))) (expression (literal null) (no_expressions))))
text_2105 = refl

text_2106 : template_of (120 ∷ 123 ∷ 123 ∷ 32 ∷ 111 ∷ 112 ∷ 32 ∷ 124 ∷ 32 ∷ 100 ∷ 101 ∷ 102 ∷ 97 ∷ 117 ∷ 108 ∷ 116 ∷ 40 ∷ 49 ∷ 41 ∷ 32 ∷ 125 ∷ 125 ∷ []) ≡ Some (concatenation (expression (literal (text (codes "x"))) (expression (path_or (variable (codes "op")) ([]) (literal (int (pos 1)))) (no_expressions))))
text_2106 = refl

text_2107 : template_of (120 ∷ 123 ∷ 123 ∷ 32 ∷ 111 ∷ 112 ∷ 32 ∷ 124 ∷ 32 ∷ 100 ∷ 101 ∷ 102 ∷ 97 ∷ 117 ∷ 108 ∷ 116 ∷ 40 ∷ 115 ∷ 49 ∷ 41 ∷ 32 ∷ 125 ∷ 125 ∷ []) ≡ Some (concatenation (expression (literal (text (codes "x"))) (expression (path_or (variable (codes "op")) ([]) (path (variable (codes "s1")) ([]))) (no_expressions))))
text_2107 = refl

text_2108 : template_of (120 ∷ 123 ∷ 123 ∷ 32 ∷ 111 ∷ 112 ∷ 32 ∷ 124 ∷ 32 ∷ 108 ∷ 101 ∷ 110 ∷ 103 ∷ 116 ∷ 104 ∷ 32 ∷ 125 ∷ 125 ∷ []) ≡ Some (concatenation (expression (literal (text (codes "x"))) (expression (length_of (path (variable (codes "op")) ([]))) (no_expressions))))
text_2108 = refl

text_2109 : template_of (120 ∷ 123 ∷ 123 ∷ 32 ∷ 111 ∷ 112 ∷ 32 ∷ 125 ∷ 125 ∷ []) ≡ Some (concatenation (expression (literal (text (codes "x"))) (expression (path (variable (codes "op")) ([])) (no_expressions))))
text_2109 = refl

text_2110 : template_of (120 ∷ 123 ∷ 123 ∷ 32 ∷ 111 ∷ 112 ∷ 46 ∷ 99 ∷ 104 ∷ 97 ∷ 110 ∷ 103 ∷ 101 ∷ 100 ∷ 32 ∷ 125 ∷ 125 ∷ []) ≡ Some (concatenation (expression (literal (text (codes "x"))) (expression (path (variable (codes "op")) ((codes "changed") ∷ [])) (no_expressions))))
text_2110 = refl

text_2111 : template_of (120 ∷ 123 ∷ 123 ∷ 32 ∷ 111 ∷ 112 ∷ 46 ∷ 115 ∷ 116 ∷ 100 ∷ 111 ∷ 117 ∷ 116 ∷ 32 ∷ 125 ∷ 125 ∷ []) ≡ Some (concatenation (expression (literal (text (codes "x"))) (expression (path (variable (codes "op")) ((codes "stdout") ∷ [])) (no_expressions))))
text_2111 = refl

text_2112 : template_of (120 ∷ 123 ∷ 123 ∷ 32 ∷ 111 ∷ 112 ∷ 113 ∷ 46 ∷ 114 ∷ 101 ∷ 115 ∷ 117 ∷ 108 ∷ 116 ∷ 115 ∷ 32 ∷ 125 ∷ 125 ∷ []) ≡ Some (concatenation (expression (literal (text (codes "x"))) (expression (path (variable (codes "opq")) ((codes "results") ∷ [])) (no_expressions))))
text_2112 = refl

text_2113 : template_of (120 ∷ 123 ∷ 123 ∷ 32 ∷ 111 ∷ 112 ∷ 113 ∷ 46 ∷ 115 ∷ 116 ∷ 97 ∷ 116 ∷ 46 ∷ 105 ∷ 115 ∷ 100 ∷ 105 ∷ 114 ∷ 32 ∷ 124 ∷ 32 ∷ 100 ∷ 101 ∷ 102 ∷ 97 ∷ 117 ∷ 108 ∷ 116 ∷ 40 ∷ 49 ∷ 41 ∷ 32 ∷ 125 ∷ 125 ∷ []) ≡ Some (concatenation (expression (literal (text (codes "x"))) (expression (path_or (variable (codes "opq")) ((codes "stat") ∷ (codes "isdir") ∷ []) (literal (int (pos 1)))) (no_expressions))))
text_2113 = refl

text_2114 : template_of (120 ∷ 123 ∷ 123 ∷ 32 ∷ 114 ∷ 32 ∷ 124 ∷ 32 ∷ 108 ∷ 101 ∷ 110 ∷ 103 ∷ 116 ∷ 104 ∷ 32 ∷ 125 ∷ 125 ∷ []) ≡ Some (concatenation (expression (literal (text (codes "x"))) (expression (length_of (path (variable (codes "r")) ([]))) (no_expressions))))
text_2114 = refl

text_2115 : template_of (120 ∷ 123 ∷ 123 ∷ 32 ∷ 114 ∷ 46 ∷ 99 ∷ 104 ∷ 97 ∷ 110 ∷ 103 ∷ 101 ∷ 100 ∷ 32 ∷ 125 ∷ 125 ∷ []) ≡ Some (concatenation (expression (literal (text (codes "x"))) (expression (path (variable (codes "r")) ((codes "changed") ∷ [])) (no_expressions))))
text_2115 = refl

text_2116 : template_of (120 ∷ 123 ∷ 123 ∷ 32 ∷ 114 ∷ 46 ∷ 114 ∷ 99 ∷ 32 ∷ 125 ∷ 125 ∷ []) ≡ Some (concatenation (expression (literal (text (codes "x"))) (expression (path (variable (codes "r")) ((codes "rc") ∷ [])) (no_expressions))))
text_2116 = refl

text_2117 : template_of (120 ∷ 123 ∷ 123 ∷ 32 ∷ 114 ∷ 46 ∷ 114 ∷ 101 ∷ 115 ∷ 117 ∷ 108 ∷ 116 ∷ 115 ∷ 32 ∷ 60 ∷ 32 ∷ 51 ∷ 32 ∷ 125 ∷ 125 ∷ []) ≡ Some (concatenation (expression (literal (text (codes "x"))) (expression (comparison less (path (variable (codes "r")) ((codes "results") ∷ [])) (literal (int (pos 3)))) (no_expressions))))
text_2117 = refl

text_2118 : template_of (120 ∷ 123 ∷ 123 ∷ 32 ∷ 114 ∷ 46 ∷ 115 ∷ 116 ∷ 100 ∷ 111 ∷ 117 ∷ 116 ∷ 32 ∷ 125 ∷ 125 ∷ []) ≡ Some (concatenation (expression (literal (text (codes "x"))) (expression (path (variable (codes "r")) ((codes "stdout") ∷ [])) (no_expressions))))
text_2118 = refl

text_2119 : template_of (120 ∷ 123 ∷ 123 ∷ 32 ∷ 114 ∷ 49 ∷ 32 ∷ 124 ∷ 32 ∷ 100 ∷ 101 ∷ 102 ∷ 97 ∷ 117 ∷ 108 ∷ 116 ∷ 40 ∷ 49 ∷ 41 ∷ 32 ∷ 125 ∷ 125 ∷ []) ≡ Some (concatenation (expression (literal (text (codes "x"))) (expression (path_or (variable (codes "r1")) ([]) (literal (int (pos 1)))) (no_expressions))))
text_2119 = refl

text_2120 : template_of (120 ∷ 123 ∷ 123 ∷ 32 ∷ 114 ∷ 49 ∷ 32 ∷ 124 ∷ 32 ∷ 100 ∷ 101 ∷ 102 ∷ 97 ∷ 117 ∷ 108 ∷ 116 ∷ 40 ∷ 91 ∷ 93 ∷ 41 ∷ 32 ∷ 125 ∷ 125 ∷ []) ≡ Some (concatenation (expression (literal (text (codes "x"))) (expression (path_or (variable (codes "r1")) ([]) (list_of (no_expressions))) (no_expressions))))
text_2120 = refl

text_2121 : template_of (120 ∷ 123 ∷ 123 ∷ 32 ∷ 114 ∷ 49 ∷ 32 ∷ 124 ∷ 32 ∷ 108 ∷ 101 ∷ 110 ∷ 103 ∷ 116 ∷ 104 ∷ 32 ∷ 125 ∷ 125 ∷ []) ≡ Some (concatenation (expression (literal (text (codes "x"))) (expression (length_of (path (variable (codes "r1")) ([]))) (no_expressions))))
text_2121 = refl

text_2122 : template_of (120 ∷ 123 ∷ 123 ∷ 32 ∷ 114 ∷ 49 ∷ 32 ∷ 125 ∷ 125 ∷ []) ≡ Some (concatenation (expression (literal (text (codes "x"))) (expression (path (variable (codes "r1")) ([])) (no_expressions))))
text_2122 = refl

text_2123 : template_of (120 ∷ 123 ∷ 123 ∷ 32 ∷ 114 ∷ 49 ∷ 46 ∷ 97 ∷ 110 ∷ 115 ∷ 105 ∷ 98 ∷ 108 ∷ 101 ∷ 95 ∷ 102 ∷ 97 ∷ 99 ∷ 116 ∷ 115 ∷ 46 ∷ 97 ∷ 110 ∷ 115 ∷ 105 ∷ 98 ∷ 108 ∷ 101 ∷ 95 ∷ 104 ∷ 111 ∷ 115 ∷ 116 ∷ 110 ∷ 97 ∷ 109 ∷ 101 ∷ 32 ∷ 124 ∷ 32 ∷ 100 ∷ 101 ∷ 102 ∷ 97 ∷ 117 ∷ 108 ∷ 116 ∷ 40 ∷ 115 ∷ 49 ∷ 41 ∷ 32 ∷ 125 ∷ 125 ∷ []) ≡ Some (concatenation (expression (literal (text (codes "x"))) (expression (path_or (variable (codes "r1")) ((codes "ansible_facts") ∷ (codes "ansible_hostname") ∷ []) (path (variable (codes "s1")) ([]))) (no_expressions))))
text_2123 = refl

text_2124 : template_of (120 ∷ 123 ∷ 123 ∷ 32 ∷ 114 ∷ 49 ∷ 46 ∷ 99 ∷ 104 ∷ 97 ∷ 110 ∷ 103 ∷ 101 ∷ 100 ∷ 32 ∷ 124 ∷ 32 ∷ 100 ∷ 101 ∷ 102 ∷ 97 ∷ 117 ∷ 108 ∷ 116 ∷ 40 ∷ 115 ∷ 49 ∷ 41 ∷ 32 ∷ 125 ∷ 125 ∷ []) ≡ Some (concatenation (expression (literal (text (codes "x"))) (expression (path_or (variable (codes "r1")) ((codes "changed") ∷ []) (path (variable (codes "s1")) ([]))) (no_expressions))))
text_2124 = refl

text_2125 : template_of (120 ∷ 123 ∷ 123 ∷ 32 ∷ 114 ∷ 49 ∷ 46 ∷ 99 ∷ 104 ∷ 97 ∷ 110 ∷ 103 ∷ 101 ∷ 100 ∷ 32 ∷ 125 ∷ 125 ∷ []) ≡ Some (concatenation (expression (literal (text (codes "x"))) (expression (path (variable (codes "r1")) ((codes "changed") ∷ [])) (no_expressions))))
text_2125 = refl

text_2126 : template_of (120 ∷ 123 ∷ 123 ∷ 32 ∷ 114 ∷ 49 ∷ 46 ∷ 100 ∷ 101 ∷ 101 ∷ 112 ∷ 46 ∷ 97 ∷ 32 ∷ 125 ∷ 125 ∷ []) ≡ Some (concatenation (expression (literal (text (codes "x"))) (expression (path (variable (codes "r1")) ((codes "deep") ∷ (codes "a") ∷ [])) (no_expressions))))
text_2126 = refl

text_2127 : template_of (120 ∷ 123 ∷ 123 ∷ 32 ∷ 114 ∷ 49 ∷ 46 ∷ 102 ∷ 97 ∷ 105 ∷ 108 ∷ 101 ∷ 100 ∷ 32 ∷ 125 ∷ 125 ∷ []) ≡ Some (concatenation (expression (literal (text (codes "x"))) (expression (path (variable (codes "r1")) ((codes "failed") ∷ [])) (no_expressions))))
text_2127 = refl

text_2128 : template_of (120 ∷ 123 ∷ 123 ∷ 32 ∷ 114 ∷ 49 ∷ 46 ∷ 109 ∷ 115 ∷ 103 ∷ 32 ∷ 125 ∷ 125 ∷ []) ≡ Some (concatenation (expression (literal (text (codes "x"))) (expression (path (variable (codes "r1")) ((codes "msg") ∷ [])) (no_expressions))))
text_2128 = refl

text_2129 : template_of (120 ∷ 123 ∷ 123 ∷ 32 ∷ 114 ∷ 49 ∷ 46 ∷ 112 ∷ 105 ∷ 110 ∷ 103 ∷ 32 ∷ 125 ∷ 125 ∷ []) ≡ Some (concatenation (expression (literal (text (codes "x"))) (expression (path (variable (codes "r1")) ((codes "ping") ∷ [])) (no_expressions))))
text_2129 = refl

text_2130 : template_of (120 ∷ 123 ∷ 123 ∷ 32 ∷ 114 ∷ 49 ∷ 46 ∷ 114 ∷ 101 ∷ 115 ∷ 117 ∷ 108 ∷ 116 ∷ 115 ∷ 32 ∷ 125 ∷ 125 ∷ []) ≡ Some (concatenation (expression (literal (text (codes "x"))) (expression (path (variable (codes "r1")) ((codes "results") ∷ [])) (no_expressions))))
text_2130 = refl

text_2131 : template_of (120 ∷ 123 ∷ 123 ∷ 32 ∷ 114 ∷ 49 ∷ 46 ∷ 115 ∷ 107 ∷ 105 ∷ 112 ∷ 95 ∷ 114 ∷ 101 ∷ 97 ∷ 115 ∷ 111 ∷ 110 ∷ 32 ∷ 124 ∷ 32 ∷ 100 ∷ 101 ∷ 102 ∷ 97 ∷ 117 ∷ 108 ∷ 116 ∷ 40 ∷ 91 ∷ 93 ∷ 41 ∷ 32 ∷ 125 ∷ 125 ∷ []) ≡ Some (concatenation (expression (literal (text (codes "x"))) (expression (path_or (variable (codes "r1")) ((codes "skip_reason") ∷ []) (list_of (no_expressions))) (no_expressions))))
text_2131 = refl

text_2132 : template_of (120 ∷ 123 ∷ 123 ∷ 32 ∷ 114 ∷ 49 ∷ 46 ∷ 115 ∷ 107 ∷ 105 ∷ 112 ∷ 95 ∷ 114 ∷ 101 ∷ 97 ∷ 115 ∷ 111 ∷ 110 ∷ 32 ∷ 125 ∷ 125 ∷ []) ≡ Some (concatenation (expression (literal (text (codes "x"))) (expression (path (variable (codes "r1")) ((codes "skip_reason") ∷ [])) (no_expressions))))
text_2132 = refl

text_2133 : template_of (120 ∷ 123 ∷ 123 ∷ 32 ∷ 114 ∷ 49 ∷ 46 ∷ 115 ∷ 116 ∷ 97 ∷ 116 ∷ 32 ∷ 125 ∷ 125 ∷ []) ≡ Some (concatenation (expression (literal (text (codes "x"))) (expression (path (variable (codes "r1")) ((codes "stat") ∷ [])) (no_expressions))))
text_2133 = refl

text_2134 : template_of (120 ∷ 123 ∷ 123 ∷ 32 ∷ 114 ∷ 49 ∷ 46 ∷ 115 ∷ 116 ∷ 100 ∷ 101 ∷ 114 ∷ 114 ∷ 32 ∷ 124 ∷ 32 ∷ 100 ∷ 101 ∷ 102 ∷ 97 ∷ 117 ∷ 108 ∷ 116 ∷ 40 ∷ 49 ∷ 41 ∷ 32 ∷ 125 ∷ 125 ∷ []) ≡ Some (concatenation (expression (literal (text (codes "x"))) (expression (path_or (variable (codes "r1")) ((codes "stderr") ∷ []) (literal (int (pos 1)))) (no_expressions))))
text_2134 = refl

text_2135 : template_of (120 ∷ 123 ∷ 123 ∷ 32 ∷ 114 ∷ 49 ∷ 46 ∷ 115 ∷ 116 ∷ 100 ∷ 101 ∷ 114 ∷ 114 ∷ 32 ∷ 124 ∷ 32 ∷ 100 ∷ 101 ∷ 102 ∷ 97 ∷ 117 ∷ 108 ∷ 116 ∷ 40 ∷ 115 ∷ 49 ∷ 41 ∷ 32 ∷ 125 ∷ 125 ∷ []) ≡ Some (concatenation (expression (literal (text (codes "x"))) (expression (path_or (variable (codes "r1")) ((codes "stderr") ∷ []) (path (variable (codes "s1")) ([]))) (no_expressions))))
text_2135 = refl

text_2136 : template_of (120 ∷ 123 ∷ 123 ∷ 32 ∷ 114 ∷ 49 ∷ 46 ∷ 115 ∷ 116 ∷ 100 ∷ 101 ∷ 114 ∷ 114 ∷ 32 ∷ 125 ∷ 125 ∷ []) ≡ Some (concatenation (expression (literal (text (codes "x"))) (expression (path (variable (codes "r1")) ((codes "stderr") ∷ [])) (no_expressions))))
text_2136 = refl

text_2137 : template_of (120 ∷ 123 ∷ 123 ∷ 32 ∷ 114 ∷ 49 ∷ 46 ∷ 115 ∷ 116 ∷ 100 ∷ 111 ∷ 117 ∷ 116 ∷ 32 ∷ 125 ∷ 125 ∷ []) ≡ Some (concatenation (expression (literal (text (codes "x"))) (expression (path (variable (codes "r1")) ((codes "stdout") ∷ [])) (no_expressions))))
text_2137 = refl

text_2138 : template_of (120 ∷ 123 ∷ 123 ∷ 32 ∷ 114 ∷ 49 ∷ 46 ∷ 115 ∷ 116 ∷ 100 ∷ 111 ∷ 117 ∷ 116 ∷ 95 ∷ 108 ∷ 105 ∷ 110 ∷ 101 ∷ 115 ∷ 32 ∷ 125 ∷ 125 ∷ []) ≡ Some (concatenation (expression (literal (text (codes "x"))) (expression (path (variable (codes "r1")) ((codes "stdout_lines") ∷ [])) (no_expressions))))
text_2138 = refl

text_2139 : template_of (120 ∷ 123 ∷ 123 ∷ 32 ∷ 114 ∷ 49 ∷ 46 ∷ 118 ∷ 32 ∷ 125 ∷ 125 ∷ []) ≡ Some (concatenation (expression (literal (text (codes "x"))) (expression (path (variable (codes "r1")) ((codes "v") ∷ [])) (no_expressions))))
text_2139 = refl

text_2140 : template_of (120 ∷ 123 ∷ 123 ∷ 32 ∷ 114 ∷ 49 ∷ 46 ∷ 119 ∷ 104 ∷ 121 ∷ 32 ∷ 125 ∷ 125 ∷ []) ≡ Some (concatenation (expression (literal (text (codes "x"))) (expression (path (variable (codes "r1")) ((codes "why") ∷ [])) (no_expressions))))
text_2140 = refl

text_2141 : template_of (120 ∷ 123 ∷ 123 ∷ 32 ∷ 114 ∷ 50 ∷ 32 ∷ 124 ∷ 32 ∷ 100 ∷ 101 ∷ 102 ∷ 97 ∷ 117 ∷ 108 ∷ 116 ∷ 40 ∷ 115 ∷ 49 ∷ 41 ∷ 32 ∷ 125 ∷ 125 ∷ []) ≡ Some (concatenation (expression (literal (text (codes "x"))) (expression (path_or (variable (codes "r2")) ([]) (path (variable (codes "s1")) ([]))) (no_expressions))))
text_2141 = refl

text_2142 : template_of (120 ∷ 123 ∷ 123 ∷ 32 ∷ 114 ∷ 50 ∷ 32 ∷ 124 ∷ 32 ∷ 108 ∷ 101 ∷ 110 ∷ 103 ∷ 116 ∷ 104 ∷ 32 ∷ 125 ∷ 125 ∷ []) ≡ Some (concatenation (expression (literal (text (codes "x"))) (expression (length_of (path (variable (codes "r2")) ([]))) (no_expressions))))
text_2142 = refl

text_2143 : template_of (120 ∷ 123 ∷ 123 ∷ 32 ∷ 114 ∷ 50 ∷ 32 ∷ 125 ∷ 125 ∷ []) ≡ Some (concatenation (expression (literal (text (codes "x"))) (expression (path (variable (codes "r2")) ([])) (no_expressions))))
text_2143 = refl

text_2144 : template_of (120 ∷ 123 ∷ 123 ∷ 32 ∷ 114 ∷ 50 ∷ 46 ∷ 99 ∷ 104 ∷ 97 ∷ 110 ∷ 103 ∷ 101 ∷ 100 ∷ 32 ∷ 124 ∷ 32 ∷ 100 ∷ 101 ∷ 102 ∷ 97 ∷ 117 ∷ 108 ∷ 116 ∷ 40 ∷ 49 ∷ 41 ∷ 32 ∷ 125 ∷ 125 ∷ []) ≡ Some (concatenation (expression (literal (text (codes "x"))) (expression (path_or (variable (codes "r2")) ((codes "changed") ∷ []) (literal (int (pos 1)))) (no_expressions))))
text_2144 = refl

text_2145 : template_of (120 ∷ 123 ∷ 123 ∷ 32 ∷ 114 ∷ 50 ∷ 46 ∷ 99 ∷ 104 ∷ 97 ∷ 110 ∷ 103 ∷ 101 ∷ 100 ∷ 32 ∷ 124 ∷ 32 ∷ 108 ∷ 101 ∷ 110 ∷ 103 ∷ 116 ∷ 104 ∷ 32 ∷ 125 ∷ 125 ∷ []) ≡ Some (concatenation (expression (literal (text (codes "x"))) (expression (length_of (path (variable (codes "r2")) ((codes "changed") ∷ []))) (no_expressions))))
text_2145 = refl

text_2146 : template_of (120 ∷ 123 ∷ 123 ∷ 32 ∷ 114 ∷ 50 ∷ 46 ∷ 99 ∷ 104 ∷ 97 ∷ 110 ∷ 103 ∷ 101 ∷ 100 ∷ 32 ∷ 125 ∷ 125 ∷ []) ≡ Some (concatenation (expression (literal (text (codes "x"))) (expression (path (variable (codes "r2")) ((codes "changed") ∷ [])) (no_expressions))))
text_2146 = refl

text_2147 : template_of (120 ∷ 123 ∷ 123 ∷ 32 ∷ 114 ∷ 50 ∷ 46 ∷ 102 ∷ 97 ∷ 105 ∷ 108 ∷ 101 ∷ 100 ∷ 32 ∷ 125 ∷ 125 ∷ []) ≡ Some (concatenation (expression (literal (text (codes "x"))) (expression (path (variable (codes "r2")) ((codes "failed") ∷ [])) (no_expressions))))
text_2147 = refl

text_2148 : template_of (120 ∷ 123 ∷ 123 ∷ 32 ∷ 114 ∷ 50 ∷ 46 ∷ 114 ∷ 99 ∷ 32 ∷ 125 ∷ 125 ∷ []) ≡ Some (concatenation (expression (literal (text (codes "x"))) (expression (path (variable (codes "r2")) ((codes "rc") ∷ [])) (no_expressions))))
text_2148 = refl

text_2149 : template_of (120 ∷ 123 ∷ 123 ∷ 32 ∷ 114 ∷ 50 ∷ 46 ∷ 114 ∷ 101 ∷ 115 ∷ 117 ∷ 108 ∷ 116 ∷ 115 ∷ 32 ∷ 124 ∷ 32 ∷ 100 ∷ 101 ∷ 102 ∷ 97 ∷ 117 ∷ 108 ∷ 116 ∷ 40 ∷ 91 ∷ 93 ∷ 41 ∷ 32 ∷ 125 ∷ 125 ∷ []) ≡ Some (concatenation (expression (literal (text (codes "x"))) (expression (path_or (variable (codes "r2")) ((codes "results") ∷ []) (list_of (no_expressions))) (no_expressions))))
text_2149 = refl

text_2150 : template_of (120 ∷ 123 ∷ 123 ∷ 32 ∷ 114 ∷ 50 ∷ 46 ∷ 114 ∷ 101 ∷ 115 ∷ 117 ∷ 108 ∷ 116 ∷ 115 ∷ 32 ∷ 124 ∷ 32 ∷ 108 ∷ 101 ∷ 110 ∷ 103 ∷ 116 ∷ 104 ∷ 32 ∷ 125 ∷ 125 ∷ []) ≡ Some (concatenation (expression (literal (text (codes "x"))) (expression (length_of (path (variable (codes "r2")) ((codes "results") ∷ []))) (no_expressions))))
text_2150 = refl

text_2151 : template_of (120 ∷ 123 ∷ 123 ∷ 32 ∷ 114 ∷ 50 ∷ 46 ∷ 115 ∷ 107 ∷ 105 ∷ 112 ∷ 95 ∷ 114 ∷ 101 ∷ 97 ∷ 115 ∷ 111 ∷ 110 ∷ 32 ∷ 124 ∷ 32 ∷ 100 ∷ 101 ∷ 102 ∷ 97 ∷ 117 ∷ 108 ∷ 116 ∷ 40 ∷ 49 ∷ 41 ∷ 32 ∷ 125 ∷ 125 ∷ []) ≡ Some (concatenation (expression (literal (text (codes "x"))) (expression (path_or (variable (codes "r2")) ((codes "skip_reason") ∷ []) (literal (int (pos 1)))) (no_expressions))))
text_2151 = refl

text_2152 : template_of (120 ∷ 123 ∷ 123 ∷ 32 ∷ 114 ∷ 50 ∷ 46 ∷ 115 ∷ 107 ∷ 105 ∷ 112 ∷ 95 ∷ 114 ∷ 101 ∷ 97 ∷ 115 ∷ 111 ∷ 110 ∷ 32 ∷ 125 ∷ 125 ∷ []) ≡ Some (concatenation (expression (literal (text (codes "x"))) (expression (path (variable (codes "r2")) ((codes "skip_reason") ∷ [])) (no_expressions))))
text_2152 = refl

text_2153 : template_of (120 ∷ 123 ∷ 123 ∷ 32 ∷ 114 ∷ 50 ∷ 46 ∷ 115 ∷ 107 ∷ 105 ∷ 112 ∷ 112 ∷ 101 ∷ 100 ∷ 32 ∷ 124 ∷ 32 ∷ 100 ∷ 101 ∷ 102 ∷ 97 ∷ 117 ∷ 108 ∷ 116 ∷ 40 ∷ 91 ∷ 93 ∷ 41 ∷ 32 ∷ 125 ∷ 125 ∷ []) ≡ Some (concatenation (expression (literal (text (codes "x"))) (expression (path_or (variable (codes "r2")) ((codes "skipped") ∷ []) (list_of (no_expressions))) (no_expressions))))
text_2153 = refl

text_2154 : template_of (120 ∷ 123 ∷ 123 ∷ 32 ∷ 114 ∷ 50 ∷ 46 ∷ 115 ∷ 116 ∷ 100 ∷ 101 ∷ 114 ∷ 114 ∷ 32 ∷ 124 ∷ 32 ∷ 100 ∷ 101 ∷ 102 ∷ 97 ∷ 117 ∷ 108 ∷ 116 ∷ 40 ∷ 115 ∷ 49 ∷ 41 ∷ 32 ∷ 125 ∷ 125 ∷ []) ≡ Some (concatenation (expression (literal (text (codes "x"))) (expression (path_or (variable (codes "r2")) ((codes "stderr") ∷ []) (path (variable (codes "s1")) ([]))) (no_expressions))))
text_2154 = refl

text_2155 : template_of (120 ∷ 123 ∷ 123 ∷ 32 ∷ 114 ∷ 50 ∷ 46 ∷ 115 ∷ 116 ∷ 100 ∷ 101 ∷ 114 ∷ 114 ∷ 32 ∷ 125 ∷ 125 ∷ []) ≡ Some (concatenation (expression (literal (text (codes "x"))) (expression (path (variable (codes "r2")) ((codes "stderr") ∷ [])) (no_expressions))))
text_2155 = refl

text_2156 : template_of (120 ∷ 123 ∷ 123 ∷ 32 ∷ 114 ∷ 50 ∷ 46 ∷ 115 ∷ 116 ∷ 100 ∷ 111 ∷ 117 ∷ 116 ∷ 32 ∷ 125 ∷ 125 ∷ []) ≡ Some (concatenation (expression (literal (text (codes "x"))) (expression (path (variable (codes "r2")) ((codes "stdout") ∷ [])) (no_expressions))))
text_2156 = refl

text_2157 : template_of (120 ∷ 123 ∷ 123 ∷ 32 ∷ 114 ∷ 51 ∷ 32 ∷ 124 ∷ 32 ∷ 100 ∷ 101 ∷ 102 ∷ 97 ∷ 117 ∷ 108 ∷ 116 ∷ 40 ∷ 91 ∷ 93 ∷ 41 ∷ 32 ∷ 125 ∷ 125 ∷ []) ≡ Some (concatenation (expression (literal (text (codes "x"))) (expression (path_or (variable (codes "r3")) ([]) (list_of (no_expressions))) (no_expressions))))
text_2157 = refl

text_2158 : template_of (120 ∷ 123 ∷ 123 ∷ 32 ∷ 114 ∷ 51 ∷ 32 ∷ 124 ∷ 32 ∷ 100 ∷ 101 ∷ 102 ∷ 97 ∷ 117 ∷ 108 ∷ 116 ∷ 40 ∷ 115 ∷ 49 ∷ 41 ∷ 32 ∷ 125 ∷ 125 ∷ []) ≡ Some (concatenation (expression (literal (text (codes "x"))) (expression (path_or (variable (codes "r3")) ([]) (path (variable (codes "s1")) ([]))) (no_expressions))))
text_2158 = refl

text_2159 : template_of (120 ∷ 123 ∷ 123 ∷ 32 ∷ 114 ∷ 51 ∷ 32 ∷ 124 ∷ 32 ∷ 108 ∷ 101 ∷ 110 ∷ 103 ∷ 116 ∷ 104 ∷ 32 ∷ 125 ∷ 125 ∷ []) ≡ Some (concatenation (expression (literal (text (codes "x"))) (expression (length_of (path (variable (codes "r3")) ([]))) (no_expressions))))
text_2159 = refl

text_2160 : template_of (120 ∷ 123 ∷ 123 ∷ 32 ∷ 114 ∷ 51 ∷ 32 ∷ 125 ∷ 125 ∷ []) ≡ Some (concatenation (expression (literal (text (codes "x"))) (expression (path (variable (codes "r3")) ([])) (no_expressions))))
text_2160 = refl

text_2161 : template_of (120 ∷ 123 ∷ 123 ∷ 32 ∷ 114 ∷ 51 ∷ 46 ∷ 99 ∷ 104 ∷ 97 ∷ 110 ∷ 103 ∷ 101 ∷ 100 ∷ 32 ∷ 124 ∷ 32 ∷ 100 ∷ 101 ∷ 102 ∷ 97 ∷ 117 ∷ 108 ∷ 116 ∷ 40 ∷ 91 ∷ 93 ∷ 41 ∷ 32 ∷ 125 ∷ 125 ∷ []) ≡ Some (concatenation (expression (literal (text (codes "x"))) (expression (path_or (variable (codes "r3")) ((codes "changed") ∷ []) (list_of (no_expressions))) (no_expressions))))
text_2161 = refl

text_2162 : template_of (120 ∷ 123 ∷ 123 ∷ 32 ∷ 114 ∷ 51 ∷ 46 ∷ 99 ∷ 104 ∷ 97 ∷ 110 ∷ 103 ∷ 101 ∷ 100 ∷ 32 ∷ 124 ∷ 32 ∷ 100 ∷ 101 ∷ 102 ∷ 97 ∷ 117 ∷ 108 ∷ 116 ∷ 40 ∷ 115 ∷ 49 ∷ 41 ∷ 32 ∷ 125 ∷ 125 ∷ []) ≡ Some (concatenation (expression (literal (text (codes "x"))) (expression (path_or (variable (codes "r3")) ((codes "changed") ∷ []) (path (variable (codes "s1")) ([]))) (no_expressions))))
text_2162 = refl

text_2163 : template_of (120 ∷ 123 ∷ 123 ∷ 32 ∷ 114 ∷ 51 ∷ 46 ∷ 99 ∷ 104 ∷ 97 ∷ 110 ∷ 103 ∷ 101 ∷ 100 ∷ 32 ∷ 124 ∷ 32 ∷ 108 ∷ 101 ∷ 110 ∷ 103 ∷ 116 ∷ 104 ∷ 32 ∷ 125 ∷ 125 ∷ []) ≡ Some (concatenation (expression (literal (text (codes "x"))) (expression (length_of (path (variable (codes "r3")) ((codes "changed") ∷ []))) (no_expressions))))
text_2163 = refl

text_2164 : template_of (120 ∷ 123 ∷ 123 ∷ 32 ∷ 114 ∷ 51 ∷ 46 ∷ 99 ∷ 104 ∷ 97 ∷ 110 ∷ 103 ∷ 101 ∷ 100 ∷ 32 ∷ 125 ∷ 125 ∷ []) ≡ Some (concatenation (expression (literal (text (codes "x"))) (expression (path (variable (codes "r3")) ((codes "changed") ∷ [])) (no_expressions))))
text_2164 = refl

text_2165 : template_of (120 ∷ 123 ∷ 123 ∷ 32 ∷ 114 ∷ 51 ∷ 46 ∷ 100 ∷ 101 ∷ 101 ∷ 112 ∷ 46 ∷ 97 ∷ 32 ∷ 124 ∷ 32 ∷ 100 ∷ 101 ∷ 102 ∷ 97 ∷ 117 ∷ 108 ∷ 116 ∷ 40 ∷ 49 ∷ 41 ∷ 32 ∷ 125 ∷ 125 ∷ []) ≡ Some (concatenation (expression (literal (text (codes "x"))) (expression (path_or (variable (codes "r3")) ((codes "deep") ∷ (codes "a") ∷ []) (literal (int (pos 1)))) (no_expressions))))
text_2165 = refl

text_2166 : template_of (120 ∷ 123 ∷ 123 ∷ 32 ∷ 114 ∷ 51 ∷ 46 ∷ 100 ∷ 101 ∷ 101 ∷ 112 ∷ 46 ∷ 97 ∷ 32 ∷ 124 ∷ 32 ∷ 100 ∷ 101 ∷ 102 ∷ 97 ∷ 117 ∷ 108 ∷ 116 ∷ 40 ∷ 115 ∷ 49 ∷ 41 ∷ 32 ∷ 125 ∷ 125 ∷ []) ≡ Some (concatenation (expression (literal (text (codes "x"))) (expression (path_or (variable (codes "r3")) ((codes "deep") ∷ (codes "a") ∷ []) (path (variable (codes "s1")) ([]))) (no_expressions))))
text_2166 = refl

text_2167 : template_of (120 ∷ 123 ∷ 123 ∷ 32 ∷ 114 ∷ 51 ∷ 46 ∷ 100 ∷ 101 ∷ 101 ∷ 112 ∷ 46 ∷ 97 ∷ 32 ∷ 125 ∷ 125 ∷ []) ≡ Some (concatenation (expression (literal (text (codes "x"))) (expression (path (variable (codes "r3")) ((codes "deep") ∷ (codes "a") ∷ [])) (no_expressions))))
text_2167 = refl

text_2168 : template_of (120 ∷ 123 ∷ 123 ∷ 32 ∷ 114 ∷ 51 ∷ 46 ∷ 102 ∷ 97 ∷ 105 ∷ 108 ∷ 101 ∷ 100 ∷ 32 ∷ 124 ∷ 32 ∷ 100 ∷ 101 ∷ 102 ∷ 97 ∷ 117 ∷ 108 ∷ 116 ∷ 40 ∷ 49 ∷ 41 ∷ 32 ∷ 125 ∷ 125 ∷ []) ≡ Some (concatenation (expression (literal (text (codes "x"))) (expression (path_or (variable (codes "r3")) ((codes "failed") ∷ []) (literal (int (pos 1)))) (no_expressions))))
text_2168 = refl

text_2169 : template_of (120 ∷ 123 ∷ 123 ∷ 32 ∷ 114 ∷ 51 ∷ 46 ∷ 102 ∷ 97 ∷ 105 ∷ 108 ∷ 101 ∷ 100 ∷ 32 ∷ 124 ∷ 32 ∷ 100 ∷ 101 ∷ 102 ∷ 97 ∷ 117 ∷ 108 ∷ 116 ∷ 40 ∷ 115 ∷ 49 ∷ 41 ∷ 32 ∷ 125 ∷ 125 ∷ []) ≡ Some (concatenation (expression (literal (text (codes "x"))) (expression (path_or (variable (codes "r3")) ((codes "failed") ∷ []) (path (variable (codes "s1")) ([]))) (no_expressions))))
text_2169 = refl

text_2170 : template_of (120 ∷ 123 ∷ 123 ∷ 32 ∷ 114 ∷ 51 ∷ 46 ∷ 102 ∷ 97 ∷ 105 ∷ 108 ∷ 101 ∷ 100 ∷ 32 ∷ 124 ∷ 32 ∷ 108 ∷ 101 ∷ 110 ∷ 103 ∷ 116 ∷ 104 ∷ 32 ∷ 125 ∷ 125 ∷ []) ≡ Some (concatenation (expression (literal (text (codes "x"))) (expression (length_of (path (variable (codes "r3")) ((codes "failed") ∷ []))) (no_expressions))))
text_2170 = refl

text_2171 : template_of (120 ∷ 123 ∷ 123 ∷ 32 ∷ 114 ∷ 51 ∷ 46 ∷ 102 ∷ 97 ∷ 105 ∷ 108 ∷ 101 ∷ 100 ∷ 32 ∷ 125 ∷ 125 ∷ []) ≡ Some (concatenation (expression (literal (text (codes "x"))) (expression (path (variable (codes "r3")) ((codes "failed") ∷ [])) (no_expressions))))
text_2171 = refl

text_2172 : template_of (120 ∷ 123 ∷ 123 ∷ 32 ∷ 114 ∷ 51 ∷ 46 ∷ 109 ∷ 115 ∷ 103 ∷ 32 ∷ 124 ∷ 32 ∷ 108 ∷ 101 ∷ 110 ∷ 103 ∷ 116 ∷ 104 ∷ 32 ∷ 125 ∷ 125 ∷ []) ≡ Some (concatenation (expression (literal (text (codes "x"))) (expression (length_of (path (variable (codes "r3")) ((codes "msg") ∷ []))) (no_expressions))))
text_2172 = refl

text_2173 : template_of (120 ∷ 123 ∷ 123 ∷ 32 ∷ 114 ∷ 51 ∷ 46 ∷ 109 ∷ 115 ∷ 103 ∷ 32 ∷ 125 ∷ 125 ∷ []) ≡ Some (concatenation (expression (literal (text (codes "x"))) (expression (path (variable (codes "r3")) ((codes "msg") ∷ [])) (no_expressions))))
text_2173 = refl

text_2174 : template_of (120 ∷ 123 ∷ 123 ∷ 32 ∷ 114 ∷ 51 ∷ 46 ∷ 112 ∷ 105 ∷ 110 ∷ 103 ∷ 32 ∷ 124 ∷ 32 ∷ 100 ∷ 101 ∷ 102 ∷ 97 ∷ 117 ∷ 108 ∷ 116 ∷ 40 ∷ 115 ∷ 49 ∷ 41 ∷ 32 ∷ 125 ∷ 125 ∷ []) ≡ Some (concatenation (expression (literal (text (codes "x"))) (expression (path_or (variable (codes "r3")) ((codes "ping") ∷ []) (path (variable (codes "s1")) ([]))) (no_expressions))))
text_2174 = refl

text_2175 : template_of (120 ∷ 123 ∷ 123 ∷ 32 ∷ 114 ∷ 51 ∷ 46 ∷ 114 ∷ 111 ∷ 119 ∷ 115 ∷ 32 ∷ 125 ∷ 125 ∷ []) ≡ Some (concatenation (expression (literal (text (codes "x"))) (expression (path (variable (codes "r3")) ((codes "rows") ∷ [])) (no_expressions))))
text_2175 = refl

text_2176 : template_of (120 ∷ 123 ∷ 123 ∷ 32 ∷ 114 ∷ 51 ∷ 46 ∷ 115 ∷ 107 ∷ 105 ∷ 112 ∷ 95 ∷ 114 ∷ 101 ∷ 97 ∷ 115 ∷ 111 ∷ 110 ∷ 32 ∷ 124 ∷ 32 ∷ 100 ∷ 101 ∷ 102 ∷ 97 ∷ 117 ∷ 108 ∷ 116 ∷ 40 ∷ 115 ∷ 49 ∷ 41 ∷ 32 ∷ 125 ∷ 125 ∷ []) ≡ Some (concatenation (expression (literal (text (codes "x"))) (expression (path_or (variable (codes "r3")) ((codes "skip_reason") ∷ []) (path (variable (codes "s1")) ([]))) (no_expressions))))
text_2176 = refl

text_2177 : template_of (120 ∷ 123 ∷ 123 ∷ 32 ∷ 114 ∷ 51 ∷ 46 ∷ 115 ∷ 107 ∷ 105 ∷ 112 ∷ 112 ∷ 101 ∷ 100 ∷ 32 ∷ 124 ∷ 32 ∷ 100 ∷ 101 ∷ 102 ∷ 97 ∷ 117 ∷ 108 ∷ 116 ∷ 40 ∷ 91 ∷ 93 ∷ 41 ∷ 32 ∷ 125 ∷ 125 ∷ []) ≡ Some (concatenation (expression (literal (text (codes "x"))) (expression (path_or (variable (codes "r3")) ((codes "skipped") ∷ []) (list_of (no_expressions))) (no_expressions))))
text_2177 = refl

text_2178 : template_of (120 ∷ 123 ∷ 123 ∷ 32 ∷ 114 ∷ 51 ∷ 46 ∷ 115 ∷ 107 ∷ 105 ∷ 112 ∷ 112 ∷ 101 ∷ 100 ∷ 32 ∷ 125 ∷ 125 ∷ []) ≡ Some (concatenation (expression (literal (text (codes "x"))) (expression (path (variable (codes "r3")) ((codes "skipped") ∷ [])) (no_expressions))))
text_2178 = refl

text_2179 : template_of (120 ∷ 123 ∷ 123 ∷ 32 ∷ 114 ∷ 51 ∷ 46 ∷ 115 ∷ 116 ∷ 97 ∷ 116 ∷ 46 ∷ 115 ∷ 105 ∷ 122 ∷ 101 ∷ 32 ∷ 124 ∷ 32 ∷ 100 ∷ 101 ∷ 102 ∷ 97 ∷ 117 ∷ 108 ∷ 116 ∷ 40 ∷ 91 ∷ 93 ∷ 41 ∷ 32 ∷ 125 ∷ 125 ∷ []) ≡ Some (concatenation (expression (literal (text (codes "x"))) (expression (path_or (variable (codes "r3")) ((codes "stat") ∷ (codes "size") ∷ []) (list_of (no_expressions))) (no_expressions))))
text_2179 = refl

text_2180 : template_of (120 ∷ 123 ∷ 123 ∷ 32 ∷ 114 ∷ 51 ∷ 46 ∷ 115 ∷ 116 ∷ 100 ∷ 111 ∷ 117 ∷ 116 ∷ 95 ∷ 108 ∷ 105 ∷ 110 ∷ 101 ∷ 115 ∷ 32 ∷ 124 ∷ 32 ∷ 108 ∷ 101 ∷ 110 ∷ 103 ∷ 116 ∷ 104 ∷ 32 ∷ 125 ∷ 125 ∷ []) ≡ Some (concatenation (expression (literal (text (codes "x"))) (expression (length_of (path (variable (codes "r3")) ((codes "stdout_lines") ∷ []))) (no_expressions))))
text_2180 = refl

text_2181 : template_of (120 ∷ 123 ∷ 123 ∷ 32 ∷ 114 ∷ 51 ∷ 46 ∷ 115 ∷ 116 ∷ 100 ∷ 111 ∷ 117 ∷ 116 ∷ 95 ∷ 108 ∷ 105 ∷ 110 ∷ 101 ∷ 115 ∷ 32 ∷ 125 ∷ 125 ∷ []) ≡ Some (concatenation (expression (literal (text (codes "x"))) (expression (path (variable (codes "r3")) ((codes "stdout_lines") ∷ [])) (no_expressions))))
text_2181 = refl

text_2182 : template_of (120 ∷ 123 ∷ 123 ∷ 32 ∷ 115 ∷ 32 ∷ 125 ∷ 125 ∷ []) ≡ Some (concatenation (expression (literal (text (codes "x"))) (expression (path (variable (codes "s")) ([])) (no_expressions))))
text_2182 = refl

text_2183 : template_of (120 ∷ 123 ∷ 123 ∷ 32 ∷ 115 ∷ 46 ∷ 99 ∷ 104 ∷ 97 ∷ 110 ∷ 103 ∷ 101 ∷ 100 ∷ 32 ∷ 60 ∷ 32 ∷ 51 ∷ 32 ∷ 125 ∷ 125 ∷ []) ≡ Some (concatenation (expression (literal (text (codes "x"))) (expression (comparison less (path (variable (codes "s")) ((codes "changed") ∷ [])) (literal (int (pos 3)))) (no_expressions))))
text_2183 = refl

text_2184 : template_of (120 ∷ 123 ∷ 123 ∷ 32 ∷ 115 ∷ 46 ∷ 99 ∷ 104 ∷ 97 ∷ 110 ∷ 103 ∷ 101 ∷ 100 ∷ 32 ∷ 124 ∷ 32 ∷ 100 ∷ 101 ∷ 102 ∷ 97 ∷ 117 ∷ 108 ∷ 116 ∷ 40 ∷ 104 ∷ 111 ∷ 115 ∷ 116 ∷ 118 ∷ 97 ∷ 114 ∷ 115 ∷ 91 ∷ 105 ∷ 116 ∷ 101 ∷ 109 ∷ 93 ∷ 46 ∷ 114 ∷ 46 ∷ 111 ∷ 115 ∷ 95 ∷ 102 ∷ 97 ∷ 109 ∷ 105 ∷ 108 ∷ 121 ∷ 41 ∷ 32 ∷ 125 ∷ 125 ∷ []) ≡ Some (concatenation (expression (literal (text (codes "x"))) (expression (path_or (variable (codes "s")) ((codes "changed") ∷ []) (path (other item_host (codes "r")) ((codes "os_family") ∷ []))) (no_expressions))))
text_2184 = refl

text_2185 : template_of (120 ∷ 123 ∷ 123 ∷ 32 ∷ 115 ∷ 46 ∷ 99 ∷ 104 ∷ 97 ∷ 110 ∷ 103 ∷ 101 ∷ 100 ∷ 32 ∷ 125 ∷ 125 ∷ []) ≡ Some (concatenation (expression (literal (text (codes "x"))) (expression (path (variable (codes "s")) ((codes "changed") ∷ [])) (no_expressions))))
text_2185 = refl

text_2186 : template_of (120 ∷ 123 ∷ 123 ∷ 32 ∷ 115 ∷ 49 ∷ 32 ∷ 124 ∷ 32 ∷ 100 ∷ 101 ∷ 102 ∷ 97 ∷ 117 ∷ 108 ∷ 116 ∷ 40 ∷ 49 ∷ 41 ∷ 32 ∷ 125 ∷ 125 ∷ []) ≡ Some (concatenation (expression (literal (text (codes "x"))) (expression (path_or (variable (codes "s1")) ([]) (literal (int (pos 1)))) (no_expressions))))
text_2186 = refl

text_2187 : template_of (120 ∷ 123 ∷ 123 ∷ 32 ∷ 115 ∷ 49 ∷ 32 ∷ 124 ∷ 32 ∷ 100 ∷ 101 ∷ 102 ∷ 97 ∷ 117 ∷ 108 ∷ 116 ∷ 40 ∷ 91 ∷ 93 ∷ 41 ∷ 32 ∷ 125 ∷ 125 ∷ []) ≡ Some (concatenation (expression (literal (text (codes "x"))) (expression (path_or (variable (codes "s1")) ([]) (list_of (no_expressions))) (no_expressions))))
text_2187 = refl

text_2188 : template_of (120 ∷ 123 ∷ 123 ∷ 32 ∷ 115 ∷ 49 ∷ 32 ∷ 124 ∷ 32 ∷ 108 ∷ 101 ∷ 110 ∷ 103 ∷ 116 ∷ 104 ∷ 32 ∷ 125 ∷ 125 ∷ []) ≡ Some (concatenation (expression (literal (text (codes "x"))) (expression (length_of (path (variable (codes "s1")) ([]))) (no_expressions))))
text_2188 = refl

text_2189 : template_of (120 ∷ 123 ∷ 123 ∷ 32 ∷ 115 ∷ 49 ∷ 32 ∷ 125 ∷ 125 ∷ []) ≡ Some (concatenation (expression (literal (text (codes "x"))) (expression (path (variable (codes "s1")) ([])) (no_expressions))))
text_2189 = refl

text_2190 : template_of (120 ∷ 123 ∷ 123 ∷ 32 ∷ 115 ∷ 49 ∷ 46 ∷ 99 ∷ 104 ∷ 97 ∷ 110 ∷ 103 ∷ 101 ∷ 100 ∷ 32 ∷ 124 ∷ 32 ∷ 100 ∷ 101 ∷ 102 ∷ 97 ∷ 117 ∷ 108 ∷ 116 ∷ 40 ∷ 115 ∷ 49 ∷ 41 ∷ 32 ∷ 125 ∷ 125 ∷ []) ≡ Some (concatenation (expression (literal (text (codes "x"))) (expression (path_or (variable (codes "s1")) ((codes "changed") ∷ []) (path (variable (codes "s1")) ([]))) (no_expressions))))
text_2190 = refl

text_2191 : template_of (120 ∷ 123 ∷ 123 ∷ 32 ∷ 115 ∷ 49 ∷ 46 ∷ 102 ∷ 32 ∷ 125 ∷ 125 ∷ []) ≡ Some (concatenation (expression (literal (text (codes "x"))) (expression (path (variable (codes "s1")) ((codes "f") ∷ [])) (no_expressions))))
text_2191 = refl

text_2192 : template_of (120 ∷ 123 ∷ 123 ∷ 32 ∷ 115 ∷ 49 ∷ 46 ∷ 114 ∷ 99 ∷ 32 ∷ 125 ∷ 125 ∷ []) ≡ Some (concatenation (expression (literal (text (codes "x"))) (expression (path (variable (codes "s1")) ((codes "rc") ∷ [])) (no_expressions))))
text_2192 = refl

text_2193 : template_of (120 ∷ 123 ∷ 123 ∷ 32 ∷ 115 ∷ 49 ∷ 46 ∷ 115 ∷ 116 ∷ 100 ∷ 111 ∷ 117 ∷ 116 ∷ 32 ∷ 124 ∷ 32 ∷ 100 ∷ 101 ∷ 102 ∷ 97 ∷ 117 ∷ 108 ∷ 116 ∷ 40 ∷ 115 ∷ 49 ∷ 41 ∷ 32 ∷ 125 ∷ 125 ∷ []) ≡ Some (concatenation (expression (literal (text (codes "x"))) (expression (path_or (variable (codes "s1")) ((codes "stdout") ∷ []) (path (variable (codes "s1")) ([]))) (no_expressions))))
text_2193 = refl

text_2194 : template_of (120 ∷ 123 ∷ 123 ∷ 32 ∷ 115 ∷ 49 ∷ 46 ∷ 115 ∷ 116 ∷ 100 ∷ 111 ∷ 117 ∷ 116 ∷ 32 ∷ 125 ∷ 125 ∷ []) ≡ Some (concatenation (expression (literal (text (codes "x"))) (expression (path (variable (codes "s1")) ((codes "stdout") ∷ [])) (no_expressions))))
text_2194 = refl

text_2195 : template_of (120 ∷ 123 ∷ 123 ∷ 32 ∷ 115 ∷ 50 ∷ 32 ∷ 124 ∷ 32 ∷ 108 ∷ 101 ∷ 110 ∷ 103 ∷ 116 ∷ 104 ∷ 32 ∷ 125 ∷ 125 ∷ []) ≡ Some (concatenation (expression (literal (text (codes "x"))) (expression (length_of (path (variable (codes "s2")) ([]))) (no_expressions))))
text_2195 = refl

text_2196 : template_of (120 ∷ 123 ∷ 123 ∷ 32 ∷ 115 ∷ 50 ∷ 32 ∷ 125 ∷ 125 ∷ []) ≡ Some (concatenation (expression (literal (text (codes "x"))) (expression (path (variable (codes "s2")) ([])) (no_expressions))))
text_2196 = refl

text_2197 : template_of (120 ∷ 123 ∷ 123 ∷ 32 ∷ 115 ∷ 51 ∷ 32 ∷ 124 ∷ 32 ∷ 100 ∷ 101 ∷ 102 ∷ 97 ∷ 117 ∷ 108 ∷ 116 ∷ 40 ∷ 49 ∷ 41 ∷ 32 ∷ 125 ∷ 125 ∷ []) ≡ Some (concatenation (expression (literal (text (codes "x"))) (expression (path_or (variable (codes "s3")) ([]) (literal (int (pos 1)))) (no_expressions))))
text_2197 = refl

text_2198 : template_of (120 ∷ 123 ∷ 123 ∷ 32 ∷ 115 ∷ 51 ∷ 32 ∷ 125 ∷ 125 ∷ []) ≡ Some (concatenation (expression (literal (text (codes "x"))) (expression (path (variable (codes "s3")) ([])) (no_expressions))))
text_2198 = refl

text_2199 : template_of (120 ∷ 123 ∷ 123 ∷ 32 ∷ 115 ∷ 51 ∷ 46 ∷ 102 ∷ 32 ∷ 125 ∷ 125 ∷ []) ≡ Some (concatenation (expression (literal (text (codes "x"))) (expression (path (variable (codes "s3")) ((codes "f") ∷ [])) (no_expressions))))
text_2199 = refl

text_2200 : template_of (120 ∷ 123 ∷ 123 ∷ 32 ∷ 115 ∷ 51 ∷ 46 ∷ 115 ∷ 116 ∷ 100 ∷ 111 ∷ 117 ∷ 116 ∷ 32 ∷ 125 ∷ 125 ∷ []) ≡ Some (concatenation (expression (literal (text (codes "x"))) (expression (path (variable (codes "s3")) ((codes "stdout") ∷ [])) (no_expressions))))
text_2200 = refl

text_2201 : template_of (120 ∷ 123 ∷ 123 ∷ 32 ∷ 116 ∷ 114 ∷ 117 ∷ 101 ∷ 32 ∷ 125 ∷ 125 ∷ []) ≡ Some (concatenation (expression (literal (text (codes "x"))) (expression (literal (boolean true)) (no_expressions))))
text_2201 = refl

text_2202 : template_of (120 ∷ 123 ∷ 123 ∷ 32 ∷ 118 ∷ 49 ∷ 32 ∷ 125 ∷ 125 ∷ []) ≡ Some (concatenation (expression (literal (text (codes "x"))) (expression (path (variable (codes "v1")) ([])) (no_expressions))))
text_2202 = refl

text_2203 : template_of (120 ∷ 123 ∷ 123 ∷ 32 ∷ 118 ∷ 49 ∷ 46 ∷ 111 ∷ 115 ∷ 95 ∷ 102 ∷ 97 ∷ 109 ∷ 105 ∷ 108 ∷ 121 ∷ 32 ∷ 124 ∷ 32 ∷ 108 ∷ 101 ∷ 110 ∷ 103 ∷ 116 ∷ 104 ∷ 32 ∷ 125 ∷ 125 ∷ []) ≡ Some (concatenation (expression (literal (text (codes "x"))) (expression (length_of (path (variable (codes "v1")) ((codes "os_family") ∷ []))) (no_expressions))))
text_2203 = refl

text_2204 : template_of (120 ∷ 123 ∷ 123 ∷ 32 ∷ 118 ∷ 49 ∷ 46 ∷ 114 ∷ 99 ∷ 32 ∷ 125 ∷ 125 ∷ []) ≡ Some (concatenation (expression (literal (text (codes "x"))) (expression (path (variable (codes "v1")) ((codes "rc") ∷ [])) (no_expressions))))
text_2204 = refl

text_2205 : template_of (120 ∷ 123 ∷ 123 ∷ 32 ∷ 118 ∷ 49 ∷ 46 ∷ 114 ∷ 101 ∷ 115 ∷ 117 ∷ 108 ∷ 116 ∷ 115 ∷ 32 ∷ 125 ∷ 125 ∷ []) ≡ Some (concatenation (expression (literal (text (codes "x"))) (expression (path (variable (codes "v1")) ((codes "results") ∷ [])) (no_expressions))))
text_2205 = refl

text_2206 : template_of (120 ∷ 123 ∷ 123 ∷ 32 ∷ 118 ∷ 49 ∷ 46 ∷ 115 ∷ 116 ∷ 97 ∷ 116 ∷ 46 ∷ 105 ∷ 115 ∷ 100 ∷ 105 ∷ 114 ∷ 32 ∷ 124 ∷ 32 ∷ 108 ∷ 101 ∷ 110 ∷ 103 ∷ 116 ∷ 104 ∷ 32 ∷ 125 ∷ 125 ∷ []) ≡ Some (concatenation (expression (literal (text (codes "x"))) (expression (length_of (path (variable (codes "v1")) ((codes "stat") ∷ (codes "isdir") ∷ []))) (no_expressions))))
text_2206 = refl

text_2207 : template_of (120 ∷ 123 ∷ 123 ∷ 32 ∷ 118 ∷ 49 ∷ 46 ∷ 115 ∷ 116 ∷ 97 ∷ 116 ∷ 46 ∷ 105 ∷ 115 ∷ 100 ∷ 105 ∷ 114 ∷ 32 ∷ 125 ∷ 125 ∷ []) ≡ Some (concatenation (expression (literal (text (codes "x"))) (expression (path (variable (codes "v1")) ((codes "stat") ∷ (codes "isdir") ∷ [])) (no_expressions))))
text_2207 = refl

text_2208 : template_of (120 ∷ 123 ∷ 123 ∷ 32 ∷ 118 ∷ 50 ∷ 46 ∷ 104 ∷ 111 ∷ 115 ∷ 116 ∷ 110 ∷ 97 ∷ 109 ∷ 101 ∷ 32 ∷ 125 ∷ 125 ∷ []) ≡ Some (concatenation (expression (literal (text (codes "x"))) (expression (path (variable (codes "v2")) ((codes "hostname") ∷ [])) (no_expressions))))
text_2208 = refl

text_2209 : template_of (120 ∷ 123 ∷ 123 ∷ 32 ∷ 118 ∷ 50 ∷ 46 ∷ 114 ∷ 99 ∷ 32 ∷ 125 ∷ 125 ∷ []) ≡ Some (concatenation (expression (literal (text (codes "x"))) (expression (path (variable (codes "v2")) ((codes "rc") ∷ [])) (no_expressions))))
text_2209 = refl

text_2210 : template_of (120 ∷ 123 ∷ 123 ∷ 32 ∷ 118 ∷ 50 ∷ 46 ∷ 115 ∷ 116 ∷ 100 ∷ 111 ∷ 117 ∷ 116 ∷ 95 ∷ 108 ∷ 105 ∷ 110 ∷ 101 ∷ 115 ∷ 32 ∷ 125 ∷ 125 ∷ []) ≡ Some (concatenation (expression (literal (text (codes "x"))) (expression (path (variable (codes "v2")) ((codes "stdout_lines") ∷ [])) (no_expressions))))
text_2210 = refl

text_2211 : template_of (120 ∷ 123 ∷ 123 ∷ 32 ∷ 118 ∷ 51 ∷ 46 ∷ 99 ∷ 104 ∷ 97 ∷ 110 ∷ 103 ∷ 101 ∷ 100 ∷ 32 ∷ 125 ∷ 125 ∷ []) ≡ Some (concatenation (expression (literal (text (codes "x"))) (expression (path (variable (codes "v3")) ((codes "changed") ∷ [])) (no_expressions))))
text_2211 = refl

text_2212 : template_of (120 ∷ 123 ∷ 123 ∷ 32 ∷ 118 ∷ 51 ∷ 46 ∷ 115 ∷ 116 ∷ 100 ∷ 111 ∷ 117 ∷ 116 ∷ 32 ∷ 125 ∷ 125 ∷ []) ≡ Some (concatenation (expression (literal (text (codes "x"))) (expression (path (variable (codes "v3")) ((codes "stdout") ∷ [])) (no_expressions))))
text_2212 = refl

text_2213 : template_of (120 ∷ 123 ∷ 123 ∷ 32 ∷ 121 ∷ 32 ∷ 124 ∷ 32 ∷ 108 ∷ 101 ∷ 110 ∷ 103 ∷ 116 ∷ 104 ∷ 32 ∷ 125 ∷ 125 ∷ []) ≡ Some (concatenation (expression (literal (text (codes "x"))) (expression (length_of (path (variable (codes "y")) ([]))) (no_expressions))))
text_2213 = refl

text_2214 : template_of (120 ∷ 123 ∷ 123 ∷ 32 ∷ 121 ∷ 46 ∷ 99 ∷ 104 ∷ 97 ∷ 110 ∷ 103 ∷ 101 ∷ 100 ∷ 32 ∷ 125 ∷ 125 ∷ []) ≡ Some (concatenation (expression (literal (text (codes "x"))) (expression (path (variable (codes "y")) ((codes "changed") ∷ [])) (no_expressions))))
text_2214 = refl

text_2215 : template_of (120 ∷ 123 ∷ 123 ∷ 32 ∷ 121 ∷ 46 ∷ 109 ∷ 115 ∷ 103 ∷ 32 ∷ 125 ∷ 125 ∷ []) ≡ Some (concatenation (expression (literal (text (codes "x"))) (expression (path (variable (codes "y")) ((codes "msg") ∷ [])) (no_expressions))))
text_2215 = refl

text_2216 : template_of (120 ∷ 123 ∷ 123 ∷ 32 ∷ 121 ∷ 46 ∷ 115 ∷ 116 ∷ 100 ∷ 111 ∷ 117 ∷ 116 ∷ 95 ∷ 108 ∷ 105 ∷ 110 ∷ 101 ∷ 115 ∷ 32 ∷ 125 ∷ 125 ∷ []) ≡ Some (concatenation (expression (literal (text (codes "x"))) (expression (path (variable (codes "y")) ((codes "stdout_lines") ∷ [])) (no_expressions))))
text_2216 = refl

text_2217 : template_of (120 ∷ 123 ∷ 123 ∷ 32 ∷ 122 ∷ 122 ∷ 46 ∷ 114 ∷ 101 ∷ 115 ∷ 117 ∷ 108 ∷ 116 ∷ 115 ∷ 32 ∷ 125 ∷ 125 ∷ []) ≡ Some (concatenation (expression (literal (text (codes "x"))) (expression (path (variable (codes "zz")) ((codes "results") ∷ [])) (no_expressions))))
text_2217 = refl

text_2218 : template_of (120 ∷ 123 ∷ 123 ∷ 32 ∷ 122 ∷ 122 ∷ 46 ∷ 115 ∷ 116 ∷ 100 ∷ 111 ∷ 117 ∷ 116 ∷ 32 ∷ 124 ∷ 32 ∷ 108 ∷ 101 ∷ 110 ∷ 103 ∷ 116 ∷ 104 ∷ 32 ∷ 125 ∷ 125 ∷ []) ≡ Some (concatenation (expression (literal (text (codes "x"))) (expression (length_of (path (variable (codes "zz")) ((codes "stdout") ∷ []))) (no_expressions))))
text_2218 = refl

text_2219 : template_of (123 ∷ 32 ∷ 37 ∷ []) ≡ Some (literal (text (123 ∷ 32 ∷ 37 ∷ [])))
text_2219 = refl

text_2220 : template_of (123 ∷ 32 ∷ 120 ∷ []) ≡ Some (literal (text (123 ∷ 32 ∷ 120 ∷ [])))
text_2220 = refl

text_2221 : template_of (123 ∷ 32 ∷ 123 ∷ 49 ∷ 125 ∷ 32 ∷ 125 ∷ []) ≡ Some (literal (text (123 ∷ 32 ∷ 123 ∷ 49 ∷ 125 ∷ 32 ∷ 125 ∷ [])))
text_2221 = refl

text_2222 : template_of (123 ∷ 37 ∷ []) ≡ None
text_2222 = refl

text_2223 : template_of (123 ∷ 37 ∷ 32 ∷ 105 ∷ 102 ∷ 32 ∷ 120 ∷ 32 ∷ 37 ∷ 125 ∷ []) ≡ None
text_2223 = refl

text_2224 : template_of (123 ∷ 37 ∷ 32 ∷ 120 ∷ []) ≡ None
text_2224 = refl

text_2225 : template_of (123 ∷ 37 ∷ 32 ∷ 123 ∷ 123 ∷ 32 ∷ 49 ∷ 32 ∷ 125 ∷ 125 ∷ []) ≡ None
text_2225 = refl

text_2226 : template_of (123 ∷ 123 ∷ []) ≡ None
text_2226 = refl

text_2227 : template_of (123 ∷ 123 ∷ 32 ∷ 40 ∷ 40 ∷ 40 ∷ 40 ∷ 40 ∷ 40 ∷ 40 ∷ 40 ∷ 40 ∷ 40 ∷ 40 ∷ 40 ∷ 40 ∷ 40 ∷ 40 ∷ 40 ∷ 40 ∷ 40 ∷ 40 ∷ 40 ∷ 40 ∷ 40 ∷ 40 ∷ 40 ∷ 40 ∷ 40 ∷ 40 ∷ 40 ∷ 40 ∷ 40 ∷ 40 ∷ 40 ∷ 40 ∷ []) ≡ None
text_2227 = refl

text_2228 : template_of (123 ∷ 123 ∷ 32 ∷ 40 ∷ 40 ∷ 110 ∷ 111 ∷ 116 ∷ 32 ∷ 70 ∷ 97 ∷ 108 ∷ 115 ∷ 101 ∷ 41 ∷ 41 ∷ 32 ∷ 125 ∷ 125 ∷ []) ≡ Some (negation (literal (boolean false)))
text_2228 = refl

text_2229 : template_of (123 ∷ 123 ∷ 32 ∷ 40 ∷ 40 ∷ 110 ∷ 111 ∷ 116 ∷ 32 ∷ 114 ∷ 51 ∷ 46 ∷ 102 ∷ 97 ∷ 105 ∷ 108 ∷ 101 ∷ 100 ∷ 41 ∷ 41 ∷ 32 ∷ 125 ∷ 125 ∷ []) ≡ Some (negation (path (variable (codes "r3")) ((codes "failed") ∷ [])))
text_2229 = refl

text_2230 : template_of (123 ∷ 123 ∷ 32 ∷ 40 ∷ 49 ∷ 41 ∷ 32 ∷ 125 ∷ 125 ∷ []) ≡ Some (literal (int (pos 1)))
text_2230 = refl

text_2231 : template_of (123 ∷ 123 ∷ 32 ∷ 40 ∷ 57 ∷ 50 ∷ 50 ∷ 51 ∷ 51 ∷ 55 ∷ 50 ∷ 48 ∷ 51 ∷ 54 ∷ 56 ∷ 53 ∷ 52 ∷ 55 ∷ 55 ∷ 53 ∷ 56 ∷ 48 ∷ 55 ∷ 41 ∷ 32 ∷ 125 ∷ 125 ∷ []) ≡ Some (literal (int (pos 9223372036854775807)))
text_2231 = refl

text_2232 : template_of (123 ∷ 123 ∷ 32 ∷ 40 ∷ 84 ∷ 114 ∷ 117 ∷ 101 ∷ 32 ∷ 33 ∷ 61 ∷ 32 ∷ 105 ∷ 110 ∷ 118 ∷ 101 ∷ 110 ∷ 116 ∷ 111 ∷ 114 ∷ 121 ∷ 95 ∷ 104 ∷ 111 ∷ 115 ∷ 116 ∷ 110 ∷ 97 ∷ 109 ∷ 101 ∷ 41 ∷ 32 ∷ 125 ∷ 125 ∷ []) ≡ Some (negation (comparison equal (literal (boolean true)) (path (variable (codes "inventory_hostname")) ([]))))
text_2232 = refl

text_2233 : template_of (123 ∷ 123 ∷ 32 ∷ 40 ∷ 84 ∷ 114 ∷ 117 ∷ 101 ∷ 41 ∷ 32 ∷ 125 ∷ 125 ∷ []) ≡ Some (literal (boolean true))
text_2233 = refl

text_2234 : template_of (123 ∷ 123 ∷ 32 ∷ 40 ∷ 97 ∷ 110 ∷ 115 ∷ 105 ∷ 98 ∷ 108 ∷ 101 ∷ 95 ∷ 102 ∷ 97 ∷ 99 ∷ 116 ∷ 115 ∷ 41 ∷ 32 ∷ 61 ∷ 61 ∷ 32 ∷ 40 ∷ 114 ∷ 51 ∷ 46 ∷ 115 ∷ 116 ∷ 100 ∷ 101 ∷ 114 ∷ 114 ∷ 41 ∷ 32 ∷ 125 ∷ 125 ∷ []) ≡ Some (comparison equal (path (variable (codes "ansible_facts")) ([])) (path (variable (codes "r3")) ((codes "stderr") ∷ [])))
text_2234 = refl

text_2235 : template_of (123 ∷ 123 ∷ 32 ∷ 40 ∷ 97 ∷ 110 ∷ 115 ∷ 105 ∷ 98 ∷ 108 ∷ 101 ∷ 95 ∷ 102 ∷ 97 ∷ 99 ∷ 116 ∷ 115 ∷ 46 ∷ 104 ∷ 111 ∷ 115 ∷ 116 ∷ 110 ∷ 97 ∷ 109 ∷ 101 ∷ 41 ∷ 32 ∷ 61 ∷ 61 ∷ 32 ∷ 40 ∷ 114 ∷ 50 ∷ 46 ∷ 102 ∷ 97 ∷ 105 ∷ 108 ∷ 101 ∷ 100 ∷ 41 ∷ 32 ∷ 125 ∷ 125 ∷ []) ≡ Some (comparison equal (path (variable (codes "ansible_facts")) ((codes "hostname") ∷ [])) (path (variable (codes "r2")) ((codes "failed") ∷ [])))
text_2235 = refl

text_2236 : template_of (123 ∷ 123 ∷ 32 ∷ 40 ∷ 97 ∷ 110 ∷ 115 ∷ 105 ∷ 98 ∷ 108 ∷ 101 ∷ 95 ∷ 102 ∷ 97 ∷ 99 ∷ 116 ∷ 115 ∷ 46 ∷ 104 ∷ 111 ∷ 115 ∷ 116 ∷ 110 ∷ 97 ∷ 109 ∷ 101 ∷ 41 ∷ 32 ∷ 61 ∷ 61 ∷ 32 ∷ 40 ∷ 115 ∷ 50 ∷ 41 ∷ 32 ∷ 125 ∷ 125 ∷ []) ≡ Some (comparison equal (path (variable (codes "ansible_facts")) ((codes "hostname") ∷ [])) (path (variable (codes "s2")) ([])))
text_2236 = refl

text_2237 : template_of (123 ∷ 123 ∷ 32 ∷ 40 ∷ 97 ∷ 110 ∷ 115 ∷ 105 ∷ 98 ∷ 108 ∷ 101 ∷ 95 ∷ 102 ∷ 97 ∷ 105 ∷ 108 ∷ 101 ∷ 100 ∷ 95 ∷ 114 ∷ 101 ∷ 115 ∷ 117 ∷ 108 ∷ 116 ∷ 46 ∷ 109 ∷ 115 ∷ 103 ∷ 41 ∷ 32 ∷ 61 ∷ 61 ∷ 32 ∷ 40 ∷ 97 ∷ 110 ∷ 115 ∷ 105 ∷ 98 ∷ 108 ∷ 101 ∷ 95 ∷ 102 ∷ 97 ∷ 105 ∷ 108 ∷ 101 ∷ 100 ∷ 95 ∷ 114 ∷ 101 ∷ 115 ∷ 117 ∷ 108 ∷ 116 ∷ 46 ∷ 109 ∷ 115 ∷ 103 ∷ 41 ∷ 32 ∷ 125 ∷ 125 ∷ []) ≡ Some (comparison equal (path (variable (codes "ansible_failed_result")) ((codes "msg") ∷ [])) (path (variable (codes "ansible_failed_result")) ((codes "msg") ∷ [])))
text_2237 = refl

text_2238 : template_of (123 ∷ 123 ∷ 32 ∷ 40 ∷ 97 ∷ 110 ∷ 115 ∷ 105 ∷ 98 ∷ 108 ∷ 101 ∷ 95 ∷ 104 ∷ 111 ∷ 115 ∷ 116 ∷ 110 ∷ 97 ∷ 109 ∷ 101 ∷ 41 ∷ 32 ∷ 61 ∷ 61 ∷ 32 ∷ 40 ∷ 114 ∷ 50 ∷ 46 ∷ 102 ∷ 97 ∷ 105 ∷ 108 ∷ 101 ∷ 100 ∷ 41 ∷ 32 ∷ 125 ∷ 125 ∷ []) ≡ Some (comparison equal (path (variable (codes "ansible_hostname")) ([])) (path (variable (codes "r2")) ((codes "failed") ∷ [])))
text_2238 = refl

text_2239 : template_of (123 ∷ 123 ∷ 32 ∷ 40 ∷ 97 ∷ 110 ∷ 115 ∷ 105 ∷ 98 ∷ 108 ∷ 101 ∷ 95 ∷ 104 ∷ 111 ∷ 115 ∷ 116 ∷ 110 ∷ 97 ∷ 109 ∷ 101 ∷ 46 ∷ 109 ∷ 115 ∷ 103 ∷ 32 ∷ 60 ∷ 32 ∷ 51 ∷ 41 ∷ 32 ∷ 97 ∷ 110 ∷ 100 ∷ 32 ∷ 40 ∷ 114 ∷ 46 ∷ 114 ∷ 99 ∷ 32 ∷ 105 ∷ 115 ∷ 32 ∷ 102 ∷ 97 ∷ 105 ∷ 108 ∷ 101 ∷ 100 ∷ 41 ∷ 32 ∷ 125 ∷ 125 ∷ []) ≡ Some (conjunction (expression (comparison less (path (variable (codes "ansible_hostname")) ((codes "msg") ∷ [])) (literal (int (pos 3)))) (expression (path_status is_failed (variable (codes "r")) ((codes "rc") ∷ [])) (no_expressions))))
text_2239 = refl

text_2240 : template_of (123 ∷ 123 ∷ 32 ∷ 40 ∷ 97 ∷ 110 ∷ 115 ∷ 105 ∷ 98 ∷ 108 ∷ 101 ∷ 95 ∷ 111 ∷ 115 ∷ 95 ∷ 102 ∷ 97 ∷ 109 ∷ 105 ∷ 108 ∷ 121 ∷ 41 ∷ 32 ∷ 61 ∷ 61 ∷ 32 ∷ 40 ∷ 111 ∷ 112 ∷ 41 ∷ 32 ∷ 125 ∷ 125 ∷ []) ≡ Some (comparison equal (path (variable (codes "ansible_os_family")) ([])) (path (variable (codes "op")) ([])))
text_2240 = refl

text_2241 : template_of (123 ∷ 123 ∷ 32 ∷ 40 ∷ 97 ∷ 110 ∷ 115 ∷ 105 ∷ 98 ∷ 108 ∷ 101 ∷ 95 ∷ 112 ∷ 108 ∷ 97 ∷ 121 ∷ 95 ∷ 98 ∷ 97 ∷ 116 ∷ 99 ∷ 104 ∷ 41 ∷ 32 ∷ 61 ∷ 61 ∷ 32 ∷ 40 ∷ 111 ∷ 112 ∷ 41 ∷ 32 ∷ 125 ∷ 125 ∷ []) ≡ Some (comparison equal (path (variable (codes "ansible_play_batch")) ([])) (path (variable (codes "op")) ([])))
text_2241 = refl

text_2242 : template_of (123 ∷ 123 ∷ 32 ∷ 40 ∷ 97 ∷ 110 ∷ 115 ∷ 105 ∷ 98 ∷ 108 ∷ 101 ∷ 95 ∷ 112 ∷ 108 ∷ 97 ∷ 121 ∷ 95 ∷ 98 ∷ 97 ∷ 116 ∷ 99 ∷ 104 ∷ 41 ∷ 32 ∷ 61 ∷ 61 ∷ 32 ∷ 40 ∷ 114 ∷ 51 ∷ 41 ∷ 32 ∷ 125 ∷ 125 ∷ []) ≡ Some (comparison equal (path (variable (codes "ansible_play_batch")) ([])) (path (variable (codes "r3")) ([])))
text_2242 = refl

text_2243 : template_of (123 ∷ 123 ∷ 32 ∷ 40 ∷ 97 ∷ 110 ∷ 115 ∷ 105 ∷ 98 ∷ 108 ∷ 101 ∷ 95 ∷ 112 ∷ 108 ∷ 97 ∷ 121 ∷ 95 ∷ 98 ∷ 97 ∷ 116 ∷ 99 ∷ 104 ∷ 41 ∷ 32 ∷ 111 ∷ 114 ∷ 32 ∷ 40 ∷ 103 ∷ 114 ∷ 111 ∷ 117 ∷ 112 ∷ 115 ∷ 46 ∷ 103 ∷ 32 ∷ 60 ∷ 32 ∷ 51 ∷ 41 ∷ 32 ∷ 125 ∷ 125 ∷ []) ≡ Some (disjunction (expression (path (variable (codes "ansible_play_batch")) ([])) (expression (comparison less (path (variable (codes "groups")) ((codes "g") ∷ [])) (literal (int (pos 3)))) (no_expressions))))
text_2243 = refl

text_2244 : template_of (123 ∷ 123 ∷ 32 ∷ 40 ∷ 102 ∷ 97 ∷ 108 ∷ 115 ∷ 101 ∷ 32 ∷ 61 ∷ 61 ∷ 32 ∷ 57 ∷ 50 ∷ 50 ∷ 51 ∷ 51 ∷ 55 ∷ 50 ∷ 48 ∷ 51 ∷ 54 ∷ 56 ∷ 53 ∷ 52 ∷ 55 ∷ 55 ∷ 53 ∷ 56 ∷ 48 ∷ 55 ∷ 41 ∷ 32 ∷ 125 ∷ 125 ∷ []) ≡ Some (comparison equal (literal (boolean false)) (literal (int (pos 9223372036854775807))))
text_2244 = refl

text_2245 : template_of (123 ∷ 123 ∷ 32 ∷ 40 ∷ 102 ∷ 97 ∷ 108 ∷ 115 ∷ 101 ∷ 41 ∷ 32 ∷ 97 ∷ 110 ∷ 100 ∷ 32 ∷ 103 ∷ 114 ∷ 111 ∷ 117 ∷ 112 ∷ 95 ∷ 110 ∷ 97 ∷ 109 ∷ 101 ∷ 115 ∷ 32 ∷ 125 ∷ 125 ∷ []) ≡ Some (conjunction (expression (literal (boolean false)) (expression (path (variable (codes "group_names")) ([])) (no_expressions))))
text_2245 = refl

text_2246 : template_of (123 ∷ 123 ∷ 32 ∷ 40 ∷ 103 ∷ 114 ∷ 111 ∷ 117 ∷ 112 ∷ 95 ∷ 110 ∷ 97 ∷ 109 ∷ 101 ∷ 115 ∷ 32 ∷ 61 ∷ 61 ∷ 32 ∷ 49 ∷ 41 ∷ 32 ∷ 97 ∷ 110 ∷ 100 ∷ 32 ∷ 40 ∷ 115 ∷ 46 ∷ 115 ∷ 116 ∷ 97 ∷ 116 ∷ 46 ∷ 105 ∷ 115 ∷ 100 ∷ 105 ∷ 114 ∷ 32 ∷ 105 ∷ 115 ∷ 32 ∷ 115 ∷ 107 ∷ 105 ∷ 112 ∷ 112 ∷ 101 ∷ 100 ∷ 41 ∷ 32 ∷ 125 ∷ 125 ∷ []) ≡ Some (conjunction (expression (comparison equal (path (variable (codes "group_names")) ([])) (literal (int (pos 1)))) (expression (path_status is_skipped (variable (codes "s")) ((codes "stat") ∷ (codes "isdir") ∷ [])) (no_expressions))))
text_2246 = refl

text_2247 : template_of (123 ∷ 123 ∷ 32 ∷ 40 ∷ 103 ∷ 114 ∷ 111 ∷ 117 ∷ 112 ∷ 95 ∷ 110 ∷ 97 ∷ 109 ∷ 101 ∷ 115 ∷ 41 ∷ 32 ∷ 61 ∷ 61 ∷ 32 ∷ 40 ∷ 105 ∷ 49 ∷ 41 ∷ 32 ∷ 125 ∷ 125 ∷ []) ≡ Some (comparison equal (path (variable (codes "group_names")) ([])) (path (variable (codes "i1")) ([])))
text_2247 = refl

text_2248 : template_of (123 ∷ 123 ∷ 32 ∷ 40 ∷ 103 ∷ 114 ∷ 111 ∷ 117 ∷ 112 ∷ 95 ∷ 110 ∷ 97 ∷ 109 ∷ 101 ∷ 115 ∷ 41 ∷ 32 ∷ 61 ∷ 61 ∷ 32 ∷ 40 ∷ 114 ∷ 49 ∷ 46 ∷ 99 ∷ 104 ∷ 97 ∷ 110 ∷ 103 ∷ 101 ∷ 100 ∷ 41 ∷ 32 ∷ 125 ∷ 125 ∷ []) ≡ Some (comparison equal (path (variable (codes "group_names")) ([])) (path (variable (codes "r1")) ((codes "changed") ∷ [])))
text_2248 = refl

text_2249 : template_of (123 ∷ 123 ∷ 32 ∷ 40 ∷ 103 ∷ 114 ∷ 111 ∷ 117 ∷ 112 ∷ 95 ∷ 110 ∷ 97 ∷ 109 ∷ 101 ∷ 115 ∷ 41 ∷ 32 ∷ 125 ∷ 125 ∷ []) ≡ Some (path (variable (codes "group_names")) ([]))
text_2249 = refl
