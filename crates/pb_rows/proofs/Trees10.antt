-- The trees of expressions of cases, computed.
use Rattle.std.specs.Prelude.{◌≡◌, refl, pos, negsuc, [], ◌∷◌, true, false, Some, None, codes}
use Rattle.pb_semantics.specs.Data.{boolean, int, text}
use Rattle.pb_language.specs.Expression.{equal, less, is_failed, is_changed, is_skipped, this_host, item_host, literal, path, negation, conjunction, disjunction, comparison, defined, path_status, path_or, value_or, length_of, joined_by, concatenation, list_of, variable, other, no_expressions, expression}
use Rattle.pb_language.specs.Grammar.{template_of}

text_2250 : template_of (123 ∷ 123 ∷ 32 ∷ 40 ∷ 103 ∷ 114 ∷ 111 ∷ 117 ∷ 112 ∷ 95 ∷ 110 ∷ 97 ∷ 109 ∷ 101 ∷ 115 ∷ 46 ∷ 99 ∷ 104 ∷ 97 ∷ 110 ∷ 103 ∷ 101 ∷ 100 ∷ 32 ∷ 105 ∷ 115 ∷ 32 ∷ 115 ∷ 107 ∷ 105 ∷ 112 ∷ 112 ∷ 101 ∷ 100 ∷ 41 ∷ 32 ∷ 111 ∷ 114 ∷ 32 ∷ 40 ∷ 97 ∷ 110 ∷ 115 ∷ 105 ∷ 98 ∷ 108 ∷ 101 ∷ 95 ∷ 112 ∷ 108 ∷ 97 ∷ 121 ∷ 95 ∷ 98 ∷ 97 ∷ 116 ∷ 99 ∷ 104 ∷ 46 ∷ 115 ∷ 116 ∷ 100 ∷ 111 ∷ 117 ∷ 116 ∷ 95 ∷ 108 ∷ 105 ∷ 110 ∷ 101 ∷ 115 ∷ 32 ∷ 105 ∷ 115 ∷ 32 ∷ 115 ∷ 107 ∷ 105 ∷ 112 ∷ 112 ∷ 101 ∷ 100 ∷ 41 ∷ 32 ∷ 125 ∷ 125 ∷ []) ≡ Some (disjunction (expression (path_status is_skipped (variable (codes "group_names")) ((codes "changed") ∷ [])) (expression (path_status is_skipped (variable (codes "ansible_play_batch")) ((codes "stdout_lines") ∷ [])) (no_expressions))))
text_2250 = refl

text_2251 : template_of (123 ∷ 123 ∷ 32 ∷ 40 ∷ 103 ∷ 114 ∷ 111 ∷ 117 ∷ 112 ∷ 115 ∷ 46 ∷ 103 ∷ 32 ∷ 105 ∷ 115 ∷ 32 ∷ 102 ∷ 97 ∷ 105 ∷ 108 ∷ 101 ∷ 100 ∷ 41 ∷ 32 ∷ 111 ∷ 114 ∷ 32 ∷ 40 ∷ 104 ∷ 111 ∷ 115 ∷ 116 ∷ 118 ∷ 97 ∷ 114 ∷ 115 ∷ 91 ∷ 105 ∷ 116 ∷ 101 ∷ 109 ∷ 93 ∷ 46 ∷ 105 ∷ 110 ∷ 118 ∷ 32 ∷ 105 ∷ 115 ∷ 32 ∷ 115 ∷ 107 ∷ 105 ∷ 112 ∷ 112 ∷ 101 ∷ 100 ∷ 41 ∷ 32 ∷ 125 ∷ 125 ∷ []) ≡ Some (disjunction (expression (path_status is_failed (variable (codes "groups")) ((codes "g") ∷ [])) (expression (path_status is_skipped (other item_host (codes "inv")) ([])) (no_expressions))))
text_2251 = refl

text_2252 : template_of (123 ∷ 123 ∷ 32 ∷ 40 ∷ 104 ∷ 111 ∷ 115 ∷ 116 ∷ 118 ∷ 97 ∷ 114 ∷ 115 ∷ 91 ∷ 105 ∷ 110 ∷ 118 ∷ 101 ∷ 110 ∷ 116 ∷ 111 ∷ 114 ∷ 121 ∷ 95 ∷ 104 ∷ 111 ∷ 115 ∷ 116 ∷ 110 ∷ 97 ∷ 109 ∷ 101 ∷ 93 ∷ 46 ∷ 105 ∷ 49 ∷ 46 ∷ 114 ∷ 99 ∷ 41 ∷ 32 ∷ 61 ∷ 61 ∷ 32 ∷ 40 ∷ 97 ∷ 110 ∷ 115 ∷ 105 ∷ 98 ∷ 108 ∷ 101 ∷ 95 ∷ 102 ∷ 97 ∷ 99 ∷ 116 ∷ 115 ∷ 46 ∷ 104 ∷ 111 ∷ 115 ∷ 116 ∷ 110 ∷ 97 ∷ 109 ∷ 101 ∷ 41 ∷ 32 ∷ 125 ∷ 125 ∷ []) ≡ Some (comparison equal (path (other this_host (codes "i1")) ((codes "rc") ∷ [])) (path (variable (codes "ansible_facts")) ((codes "hostname") ∷ [])))
text_2252 = refl

text_2253 : template_of (123 ∷ 123 ∷ 32 ∷ 40 ∷ 104 ∷ 111 ∷ 115 ∷ 116 ∷ 118 ∷ 97 ∷ 114 ∷ 115 ∷ 91 ∷ 105 ∷ 110 ∷ 118 ∷ 101 ∷ 110 ∷ 116 ∷ 111 ∷ 114 ∷ 121 ∷ 95 ∷ 104 ∷ 111 ∷ 115 ∷ 116 ∷ 110 ∷ 97 ∷ 109 ∷ 101 ∷ 93 ∷ 46 ∷ 114 ∷ 49 ∷ 41 ∷ 32 ∷ 61 ∷ 61 ∷ 32 ∷ 40 ∷ 105 ∷ 50 ∷ 41 ∷ 32 ∷ 125 ∷ 125 ∷ []) ≡ Some (comparison equal (path (other this_host (codes "r1")) ([])) (path (variable (codes "i2")) ([])))
text_2253 = refl

text_2254 : template_of (123 ∷ 123 ∷ 32 ∷ 40 ∷ 104 ∷ 111 ∷ 115 ∷ 116 ∷ 118 ∷ 97 ∷ 114 ∷ 115 ∷ 91 ∷ 105 ∷ 116 ∷ 101 ∷ 109 ∷ 93 ∷ 46 ∷ 105 ∷ 50 ∷ 41 ∷ 32 ∷ 61 ∷ 61 ∷ 32 ∷ 40 ∷ 114 ∷ 51 ∷ 46 ∷ 99 ∷ 104 ∷ 97 ∷ 110 ∷ 103 ∷ 101 ∷ 100 ∷ 41 ∷ 32 ∷ 125 ∷ 125 ∷ []) ≡ Some (comparison equal (path (other item_host (codes "i2")) ([])) (path (variable (codes "r3")) ((codes "changed") ∷ [])))
text_2254 = refl

text_2255 : template_of (123 ∷ 123 ∷ 32 ∷ 40 ∷ 104 ∷ 111 ∷ 115 ∷ 116 ∷ 118 ∷ 97 ∷ 114 ∷ 115 ∷ 91 ∷ 105 ∷ 116 ∷ 101 ∷ 109 ∷ 93 ∷ 46 ∷ 105 ∷ 110 ∷ 118 ∷ 32 ∷ 105 ∷ 115 ∷ 32 ∷ 110 ∷ 111 ∷ 116 ∷ 32 ∷ 100 ∷ 101 ∷ 102 ∷ 105 ∷ 110 ∷ 101 ∷ 100 ∷ 41 ∷ 32 ∷ 97 ∷ 110 ∷ 100 ∷ 32 ∷ 40 ∷ 104 ∷ 111 ∷ 115 ∷ 116 ∷ 118 ∷ 97 ∷ 114 ∷ 115 ∷ 91 ∷ 105 ∷ 110 ∷ 118 ∷ 101 ∷ 110 ∷ 116 ∷ 111 ∷ 114 ∷ 121 ∷ 95 ∷ 104 ∷ 111 ∷ 115 ∷ 116 ∷ 110 ∷ 97 ∷ 109 ∷ 101 ∷ 93 ∷ 46 ∷ 105 ∷ 110 ∷ 118 ∷ 32 ∷ 105 ∷ 115 ∷ 32 ∷ 110 ∷ 111 ∷ 116 ∷ 32 ∷ 115 ∷ 107 ∷ 105 ∷ 112 ∷ 112 ∷ 101 ∷ 100 ∷ 41 ∷ 32 ∷ 125 ∷ 125 ∷ []) ≡ Some (conjunction (expression (negation (defined (other item_host (codes "inv")) ([]))) (expression (negation (path_status is_skipped (other this_host (codes "inv")) ([]))) (no_expressions))))
text_2255 = refl

text_2256 : template_of (123 ∷ 123 ∷ 32 ∷ 40 ∷ 104 ∷ 111 ∷ 115 ∷ 116 ∷ 118 ∷ 97 ∷ 114 ∷ 115 ∷ 91 ∷ 105 ∷ 116 ∷ 101 ∷ 109 ∷ 93 ∷ 46 ∷ 111 ∷ 112 ∷ 113 ∷ 46 ∷ 115 ∷ 116 ∷ 100 ∷ 111 ∷ 117 ∷ 116 ∷ 32 ∷ 105 ∷ 115 ∷ 32 ∷ 110 ∷ 111 ∷ 116 ∷ 32 ∷ 115 ∷ 107 ∷ 105 ∷ 112 ∷ 112 ∷ 101 ∷ 100 ∷ 41 ∷ 32 ∷ 111 ∷ 114 ∷ 32 ∷ 40 ∷ 114 ∷ 46 ∷ 99 ∷ 104 ∷ 97 ∷ 110 ∷ 103 ∷ 101 ∷ 100 ∷ 32 ∷ 105 ∷ 115 ∷ 32 ∷ 99 ∷ 104 ∷ 97 ∷ 110 ∷ 103 ∷ 101 ∷ 100 ∷ 41 ∷ 32 ∷ 125 ∷ 125 ∷ []) ≡ Some (disjunction (expression (negation (path_status is_skipped (other item_host (codes "opq")) ((codes "stdout") ∷ []))) (expression (path_status is_changed (variable (codes "r")) ((codes "changed") ∷ [])) (no_expressions))))
text_2256 = refl

text_2257 : template_of (123 ∷ 123 ∷ 32 ∷ 40 ∷ 104 ∷ 111 ∷ 115 ∷ 116 ∷ 118 ∷ 97 ∷ 114 ∷ 115 ∷ 91 ∷ 105 ∷ 116 ∷ 101 ∷ 109 ∷ 93 ∷ 46 ∷ 114 ∷ 49 ∷ 41 ∷ 32 ∷ 61 ∷ 61 ∷ 32 ∷ 40 ∷ 114 ∷ 49 ∷ 46 ∷ 114 ∷ 101 ∷ 115 ∷ 117 ∷ 108 ∷ 116 ∷ 115 ∷ 41 ∷ 32 ∷ 125 ∷ 125 ∷ []) ≡ Some (comparison equal (path (other item_host (codes "r1")) ([])) (path (variable (codes "r1")) ((codes "results") ∷ [])))
text_2257 = refl

text_2258 : template_of (123 ∷ 123 ∷ 32 ∷ 40 ∷ 104 ∷ 111 ∷ 115 ∷ 116 ∷ 118 ∷ 97 ∷ 114 ∷ 115 ∷ 91 ∷ 105 ∷ 116 ∷ 101 ∷ 109 ∷ 93 ∷ 46 ∷ 114 ∷ 49 ∷ 46 ∷ 99 ∷ 104 ∷ 97 ∷ 110 ∷ 103 ∷ 101 ∷ 100 ∷ 41 ∷ 32 ∷ 61 ∷ 61 ∷ 32 ∷ 40 ∷ 114 ∷ 50 ∷ 46 ∷ 102 ∷ 97 ∷ 105 ∷ 108 ∷ 101 ∷ 100 ∷ 41 ∷ 32 ∷ 125 ∷ 125 ∷ []) ≡ Some (comparison equal (path (other item_host (codes "r1")) ((codes "changed") ∷ [])) (path (variable (codes "r2")) ((codes "failed") ∷ [])))
text_2258 = refl

text_2259 : template_of (123 ∷ 123 ∷ 32 ∷ 40 ∷ 104 ∷ 111 ∷ 115 ∷ 116 ∷ 118 ∷ 97 ∷ 114 ∷ 115 ∷ 91 ∷ 105 ∷ 116 ∷ 101 ∷ 109 ∷ 93 ∷ 46 ∷ 114 ∷ 49 ∷ 46 ∷ 102 ∷ 97 ∷ 105 ∷ 108 ∷ 101 ∷ 100 ∷ 41 ∷ 32 ∷ 61 ∷ 61 ∷ 32 ∷ 40 ∷ 114 ∷ 49 ∷ 46 ∷ 102 ∷ 97 ∷ 105 ∷ 108 ∷ 101 ∷ 100 ∷ 41 ∷ 32 ∷ 125 ∷ 125 ∷ []) ≡ Some (comparison equal (path (other item_host (codes "r1")) ((codes "failed") ∷ [])) (path (variable (codes "r1")) ((codes "failed") ∷ [])))
text_2259 = refl

text_2260 : template_of (123 ∷ 123 ∷ 32 ∷ 40 ∷ 104 ∷ 111 ∷ 115 ∷ 116 ∷ 118 ∷ 97 ∷ 114 ∷ 115 ∷ 91 ∷ 105 ∷ 116 ∷ 101 ∷ 109 ∷ 93 ∷ 46 ∷ 114 ∷ 50 ∷ 46 ∷ 99 ∷ 104 ∷ 97 ∷ 110 ∷ 103 ∷ 101 ∷ 100 ∷ 41 ∷ 32 ∷ 61 ∷ 61 ∷ 32 ∷ 40 ∷ 105 ∷ 116 ∷ 101 ∷ 109 ∷ 46 ∷ 114 ∷ 99 ∷ 41 ∷ 32 ∷ 125 ∷ 125 ∷ []) ≡ Some (comparison equal (path (other item_host (codes "r2")) ((codes "changed") ∷ [])) (path (variable (codes "item")) ((codes "rc") ∷ [])))
text_2260 = refl

text_2261 : template_of (123 ∷ 123 ∷ 32 ∷ 40 ∷ 104 ∷ 111 ∷ 115 ∷ 116 ∷ 118 ∷ 97 ∷ 114 ∷ 115 ∷ 91 ∷ 105 ∷ 116 ∷ 101 ∷ 109 ∷ 93 ∷ 46 ∷ 114 ∷ 50 ∷ 46 ∷ 115 ∷ 116 ∷ 100 ∷ 101 ∷ 114 ∷ 114 ∷ 41 ∷ 32 ∷ 61 ∷ 61 ∷ 32 ∷ 40 ∷ 114 ∷ 51 ∷ 46 ∷ 115 ∷ 116 ∷ 100 ∷ 111 ∷ 117 ∷ 116 ∷ 95 ∷ 108 ∷ 105 ∷ 110 ∷ 101 ∷ 115 ∷ 41 ∷ 32 ∷ 125 ∷ 125 ∷ []) ≡ Some (comparison equal (path (other item_host (codes "r2")) ((codes "stderr") ∷ [])) (path (variable (codes "r3")) ((codes "stdout_lines") ∷ [])))
text_2261 = refl

text_2262 : template_of (123 ∷ 123 ∷ 32 ∷ 40 ∷ 104 ∷ 111 ∷ 115 ∷ 116 ∷ 118 ∷ 97 ∷ 114 ∷ 115 ∷ 91 ∷ 105 ∷ 116 ∷ 101 ∷ 109 ∷ 93 ∷ 46 ∷ 114 ∷ 51 ∷ 41 ∷ 32 ∷ 61 ∷ 61 ∷ 32 ∷ 40 ∷ 115 ∷ 50 ∷ 41 ∷ 32 ∷ 125 ∷ 125 ∷ []) ≡ Some (comparison equal (path (other item_host (codes "r3")) ([])) (path (variable (codes "s2")) ([])))
text_2262 = refl

text_2263 : template_of (123 ∷ 123 ∷ 32 ∷ 40 ∷ 105 ∷ 49 ∷ 41 ∷ 32 ∷ 61 ∷ 61 ∷ 32 ∷ 40 ∷ 97 ∷ 110 ∷ 115 ∷ 105 ∷ 98 ∷ 108 ∷ 101 ∷ 95 ∷ 112 ∷ 108 ∷ 97 ∷ 121 ∷ 95 ∷ 98 ∷ 97 ∷ 116 ∷ 99 ∷ 104 ∷ 41 ∷ 32 ∷ 125 ∷ 125 ∷ []) ≡ Some (comparison equal (path (variable (codes "i1")) ([])) (path (variable (codes "ansible_play_batch")) ([])))
text_2263 = refl

text_2264 : template_of (123 ∷ 123 ∷ 32 ∷ 40 ∷ 105 ∷ 49 ∷ 41 ∷ 32 ∷ 61 ∷ 61 ∷ 32 ∷ 40 ∷ 114 ∷ 49 ∷ 46 ∷ 115 ∷ 107 ∷ 105 ∷ 112 ∷ 112 ∷ 101 ∷ 100 ∷ 41 ∷ 32 ∷ 125 ∷ 125 ∷ []) ≡ Some (comparison equal (path (variable (codes "i1")) ([])) (path (variable (codes "r1")) ((codes "skipped") ∷ [])))
text_2264 = refl

text_2265 : template_of (123 ∷ 123 ∷ 32 ∷ 40 ∷ 105 ∷ 49 ∷ 41 ∷ 32 ∷ 61 ∷ 61 ∷ 32 ∷ 40 ∷ 114 ∷ 50 ∷ 46 ∷ 112 ∷ 105 ∷ 110 ∷ 103 ∷ 41 ∷ 32 ∷ 125 ∷ 125 ∷ []) ≡ Some (comparison equal (path (variable (codes "i1")) ([])) (path (variable (codes "r2")) ((codes "ping") ∷ [])))
text_2265 = refl

text_2266 : template_of (123 ∷ 123 ∷ 32 ∷ 40 ∷ 105 ∷ 50 ∷ 41 ∷ 32 ∷ 61 ∷ 61 ∷ 32 ∷ 40 ∷ 97 ∷ 110 ∷ 115 ∷ 105 ∷ 98 ∷ 108 ∷ 101 ∷ 95 ∷ 111 ∷ 115 ∷ 95 ∷ 102 ∷ 97 ∷ 109 ∷ 105 ∷ 108 ∷ 121 ∷ 41 ∷ 32 ∷ 125 ∷ 125 ∷ []) ≡ Some (comparison equal (path (variable (codes "i2")) ([])) (path (variable (codes "ansible_os_family")) ([])))
text_2266 = refl

text_2267 : template_of (123 ∷ 123 ∷ 32 ∷ 40 ∷ 105 ∷ 50 ∷ 41 ∷ 32 ∷ 61 ∷ 61 ∷ 32 ∷ 40 ∷ 114 ∷ 49 ∷ 46 ∷ 102 ∷ 97 ∷ 105 ∷ 108 ∷ 101 ∷ 100 ∷ 41 ∷ 32 ∷ 125 ∷ 125 ∷ []) ≡ Some (comparison equal (path (variable (codes "i2")) ([])) (path (variable (codes "r1")) ((codes "failed") ∷ [])))
text_2267 = refl

text_2268 : template_of (123 ∷ 123 ∷ 32 ∷ 40 ∷ 105 ∷ 50 ∷ 41 ∷ 32 ∷ 61 ∷ 61 ∷ 32 ∷ 40 ∷ 114 ∷ 50 ∷ 46 ∷ 99 ∷ 104 ∷ 97 ∷ 110 ∷ 103 ∷ 101 ∷ 100 ∷ 41 ∷ 32 ∷ 125 ∷ 125 ∷ []) ≡ Some (comparison equal (path (variable (codes "i2")) ([])) (path (variable (codes "r2")) ((codes "changed") ∷ [])))
text_2268 = refl

text_2269 : template_of (123 ∷ 123 ∷ 32 ∷ 40 ∷ 105 ∷ 50 ∷ 41 ∷ 32 ∷ 61 ∷ 61 ∷ 32 ∷ 40 ∷ 114 ∷ 51 ∷ 41 ∷ 32 ∷ 125 ∷ 125 ∷ []) ≡ Some (comparison equal (path (variable (codes "i2")) ([])) (path (variable (codes "r3")) ([])))
text_2269 = refl

text_2270 : template_of (123 ∷ 123 ∷ 32 ∷ 40 ∷ 105 ∷ 50 ∷ 41 ∷ 32 ∷ 61 ∷ 61 ∷ 32 ∷ 40 ∷ 115 ∷ 49 ∷ 41 ∷ 32 ∷ 125 ∷ 125 ∷ []) ≡ Some (comparison equal (path (variable (codes "i2")) ([])) (path (variable (codes "s1")) ([])))
text_2270 = refl

text_2271 : template_of (123 ∷ 123 ∷ 32 ∷ 40 ∷ 105 ∷ 50 ∷ 41 ∷ 32 ∷ 61 ∷ 61 ∷ 32 ∷ 40 ∷ 115 ∷ 49 ∷ 46 ∷ 99 ∷ 104 ∷ 97 ∷ 110 ∷ 103 ∷ 101 ∷ 100 ∷ 41 ∷ 32 ∷ 125 ∷ 125 ∷ []) ≡ Some (comparison equal (path (variable (codes "i2")) ([])) (path (variable (codes "s1")) ((codes "changed") ∷ [])))
text_2271 = refl

text_2272 : template_of (123 ∷ 123 ∷ 32 ∷ 40 ∷ 105 ∷ 110 ∷ 118 ∷ 32 ∷ 105 ∷ 115 ∷ 32 ∷ 99 ∷ 104 ∷ 97 ∷ 110 ∷ 103 ∷ 101 ∷ 100 ∷ 41 ∷ 32 ∷ 97 ∷ 110 ∷ 100 ∷ 32 ∷ 40 ∷ 121 ∷ 32 ∷ 105 ∷ 115 ∷ 32 ∷ 115 ∷ 107 ∷ 105 ∷ 112 ∷ 112 ∷ 101 ∷ 100 ∷ 41 ∷ 32 ∷ 125 ∷ 125 ∷ []) ≡ Some (conjunction (expression (path_status is_changed (variable (codes "inv")) ([])) (expression (path_status is_skipped (variable (codes "y")) ([])) (no_expressions))))
text_2272 = refl

text_2273 : template_of (123 ∷ 123 ∷ 32 ∷ 40 ∷ 105 ∷ 110 ∷ 118 ∷ 101 ∷ 110 ∷ 116 ∷ 111 ∷ 114 ∷ 121 ∷ 95 ∷ 104 ∷ 111 ∷ 115 ∷ 116 ∷ 110 ∷ 97 ∷ 109 ∷ 101 ∷ 41 ∷ 32 ∷ 61 ∷ 61 ∷ 32 ∷ 40 ∷ 114 ∷ 49 ∷ 46 ∷ 102 ∷ 97 ∷ 105 ∷ 108 ∷ 101 ∷ 100 ∷ 41 ∷ 32 ∷ 125 ∷ 125 ∷ []) ≡ Some (comparison equal (path (variable (codes "inventory_hostname")) ([])) (path (variable (codes "r1")) ((codes "failed") ∷ [])))
text_2273 = refl

text_2274 : template_of (123 ∷ 123 ∷ 32 ∷ 40 ∷ 105 ∷ 110 ∷ 118 ∷ 101 ∷ 110 ∷ 116 ∷ 111 ∷ 114 ∷ 121 ∷ 95 ∷ 104 ∷ 111 ∷ 115 ∷ 116 ∷ 110 ∷ 97 ∷ 109 ∷ 101 ∷ 46 ∷ 111 ∷ 115 ∷ 95 ∷ 102 ∷ 97 ∷ 109 ∷ 105 ∷ 108 ∷ 121 ∷ 32 ∷ 105 ∷ 115 ∷ 32 ∷ 115 ∷ 107 ∷ 105 ∷ 112 ∷ 112 ∷ 101 ∷ 100 ∷ 41 ∷ 32 ∷ 97 ∷ 110 ∷ 100 ∷ 32 ∷ 40 ∷ 105 ∷ 110 ∷ 118 ∷ 46 ∷ 115 ∷ 116 ∷ 97 ∷ 116 ∷ 46 ∷ 105 ∷ 115 ∷ 100 ∷ 105 ∷ 114 ∷ 32 ∷ 61 ∷ 61 ∷ 32 ∷ 49 ∷ 41 ∷ 32 ∷ 125 ∷ 125 ∷ []) ≡ Some (conjunction (expression (path_status is_skipped (variable (codes "inventory_hostname")) ((codes "os_family") ∷ [])) (expression (comparison equal (path (variable (codes "inv")) ((codes "stat") ∷ (codes "isdir") ∷ [])) (literal (int (pos 1)))) (no_expressions))))
text_2274 = refl

text_2275 : template_of (123 ∷ 123 ∷ 32 ∷ 40 ∷ 105 ∷ 116 ∷ 101 ∷ 109 ∷ 41 ∷ 32 ∷ 61 ∷ 61 ∷ 32 ∷ 40 ∷ 114 ∷ 51 ∷ 46 ∷ 114 ∷ 99 ∷ 41 ∷ 32 ∷ 125 ∷ 125 ∷ []) ≡ Some (comparison equal (path (variable (codes "item")) ([])) (path (variable (codes "r3")) ((codes "rc") ∷ [])))
text_2275 = refl

text_2276 : template_of (123 ∷ 123 ∷ 32 ∷ 40 ∷ 105 ∷ 116 ∷ 101 ∷ 109 ∷ 41 ∷ 32 ∷ 61 ∷ 61 ∷ 32 ∷ 40 ∷ 115 ∷ 51 ∷ 41 ∷ 32 ∷ 125 ∷ 125 ∷ []) ≡ Some (comparison equal (path (variable (codes "item")) ([])) (path (variable (codes "s3")) ([])))
text_2276 = refl

text_2277 : template_of (123 ∷ 123 ∷ 32 ∷ 40 ∷ 105 ∷ 116 ∷ 101 ∷ 109 ∷ 46 ∷ 111 ∷ 115 ∷ 95 ∷ 102 ∷ 97 ∷ 109 ∷ 105 ∷ 108 ∷ 121 ∷ 32 ∷ 105 ∷ 115 ∷ 32 ∷ 99 ∷ 104 ∷ 97 ∷ 110 ∷ 103 ∷ 101 ∷ 100 ∷ 41 ∷ 32 ∷ 97 ∷ 110 ∷ 100 ∷ 32 ∷ 40 ∷ 121 ∷ 32 ∷ 105 ∷ 115 ∷ 32 ∷ 99 ∷ 104 ∷ 97 ∷ 110 ∷ 103 ∷ 101 ∷ 100 ∷ 41 ∷ 32 ∷ 125 ∷ 125 ∷ []) ≡ Some (conjunction (expression (path_status is_changed (variable (codes "item")) ((codes "os_family") ∷ [])) (expression (path_status is_changed (variable (codes "y")) ([])) (no_expressions))))
text_2277 = refl

text_2278 : template_of (123 ∷ 123 ∷ 32 ∷ 40 ∷ 105 ∷ 116 ∷ 101 ∷ 109 ∷ 46 ∷ 114 ∷ 99 ∷ 41 ∷ 32 ∷ 61 ∷ 61 ∷ 32 ∷ 40 ∷ 104 ∷ 111 ∷ 115 ∷ 116 ∷ 118 ∷ 97 ∷ 114 ∷ 115 ∷ 91 ∷ 105 ∷ 116 ∷ 101 ∷ 109 ∷ 93 ∷ 46 ∷ 114 ∷ 49 ∷ 46 ∷ 102 ∷ 97 ∷ 105 ∷ 108 ∷ 101 ∷ 100 ∷ 41 ∷ 32 ∷ 125 ∷ 125 ∷ []) ≡ Some (comparison equal (path (variable (codes "item")) ((codes "rc") ∷ [])) (path (other item_host (codes "r1")) ((codes "failed") ∷ [])))
text_2278 = refl

text_2279 : template_of (123 ∷ 123 ∷ 32 ∷ 40 ∷ 105 ∷ 116 ∷ 101 ∷ 109 ∷ 46 ∷ 114 ∷ 99 ∷ 41 ∷ 32 ∷ 61 ∷ 61 ∷ 32 ∷ 40 ∷ 115 ∷ 49 ∷ 46 ∷ 114 ∷ 99 ∷ 41 ∷ 32 ∷ 125 ∷ 125 ∷ []) ≡ Some (comparison equal (path (variable (codes "item")) ((codes "rc") ∷ [])) (path (variable (codes "s1")) ((codes "rc") ∷ [])))
text_2279 = refl

text_2280 : template_of (123 ∷ 123 ∷ 32 ∷ 40 ∷ 110 ∷ 111 ∷ 112 ∷ 101 ∷ 46 ∷ 120 ∷ 41 ∷ 32 ∷ 125 ∷ 125 ∷ []) ≡ Some (path (variable (codes "nope")) ((codes "x") ∷ []))
text_2280 = refl

text_2281 : template_of (123 ∷ 123 ∷ 32 ∷ 40 ∷ 110 ∷ 111 ∷ 116 ∷ 32 ∷ 49 ∷ 41 ∷ 32 ∷ 61 ∷ 61 ∷ 32 ∷ 122 ∷ 122 ∷ 32 ∷ 125 ∷ 125 ∷ []) ≡ Some (comparison equal (negation (literal (int (pos 1)))) (path (variable (codes "zz")) ([])))
text_2281 = refl

text_2282 : template_of (123 ∷ 123 ∷ 32 ∷ 40 ∷ 110 ∷ 111 ∷ 116 ∷ 32 ∷ 110 ∷ 111 ∷ 116 ∷ 32 ∷ 114 ∷ 49 ∷ 46 ∷ 99 ∷ 104 ∷ 97 ∷ 110 ∷ 103 ∷ 101 ∷ 100 ∷ 41 ∷ 32 ∷ 125 ∷ 125 ∷ []) ≡ Some (negation (negation (path (variable (codes "r1")) ((codes "changed") ∷ []))))
text_2282 = refl

text_2283 : template_of (123 ∷ 123 ∷ 32 ∷ 40 ∷ 110 ∷ 111 ∷ 116 ∷ 32 ∷ 114 ∷ 50 ∷ 46 ∷ 102 ∷ 32 ∷ 111 ∷ 114 ∷ 32 ∷ 110 ∷ 111 ∷ 112 ∷ 101 ∷ 46 ∷ 120 ∷ 41 ∷ 32 ∷ 125 ∷ 125 ∷ []) ≡ Some (disjunction (expression (negation (path (variable (codes "r2")) ((codes "f") ∷ []))) (expression (path (variable (codes "nope")) ((codes "x") ∷ [])) (no_expressions))))
text_2283 = refl

text_2284 : template_of (123 ∷ 123 ∷ 32 ∷ 40 ∷ 111 ∷ 112 ∷ 41 ∷ 32 ∷ 61 ∷ 61 ∷ 32 ∷ 40 ∷ 97 ∷ 110 ∷ 115 ∷ 105 ∷ 98 ∷ 108 ∷ 101 ∷ 95 ∷ 111 ∷ 115 ∷ 95 ∷ 102 ∷ 97 ∷ 109 ∷ 105 ∷ 108 ∷ 121 ∷ 41 ∷ 32 ∷ 125 ∷ 125 ∷ []) ≡ Some (comparison equal (path (variable (codes "op")) ([])) (path (variable (codes "ansible_os_family")) ([])))
text_2284 = refl

text_2285 : template_of (123 ∷ 123 ∷ 32 ∷ 40 ∷ 111 ∷ 112 ∷ 41 ∷ 32 ∷ 61 ∷ 61 ∷ 32 ∷ 40 ∷ 114 ∷ 50 ∷ 41 ∷ 32 ∷ 125 ∷ 125 ∷ []) ≡ Some (comparison equal (path (variable (codes "op")) ([])) (path (variable (codes "r2")) ([])))
text_2285 = refl

text_2286 : template_of (123 ∷ 123 ∷ 32 ∷ 40 ∷ 111 ∷ 112 ∷ 41 ∷ 32 ∷ 61 ∷ 61 ∷ 32 ∷ 40 ∷ 114 ∷ 50 ∷ 46 ∷ 99 ∷ 104 ∷ 97 ∷ 110 ∷ 103 ∷ 101 ∷ 100 ∷ 41 ∷ 32 ∷ 125 ∷ 125 ∷ []) ≡ Some (comparison equal (path (variable (codes "op")) ([])) (path (variable (codes "r2")) ((codes "changed") ∷ [])))
text_2286 = refl

text_2287 : template_of (123 ∷ 123 ∷ 32 ∷ 40 ∷ 111 ∷ 112 ∷ 41 ∷ 32 ∷ 61 ∷ 61 ∷ 32 ∷ 40 ∷ 114 ∷ 50 ∷ 46 ∷ 109 ∷ 115 ∷ 103 ∷ 41 ∷ 32 ∷ 125 ∷ 125 ∷ []) ≡ Some (comparison equal (path (variable (codes "op")) ([])) (path (variable (codes "r2")) ((codes "msg") ∷ [])))
text_2287 = refl

text_2288 : template_of (123 ∷ 123 ∷ 32 ∷ 40 ∷ 111 ∷ 112 ∷ 41 ∷ 32 ∷ 61 ∷ 61 ∷ 32 ∷ 40 ∷ 114 ∷ 50 ∷ 46 ∷ 115 ∷ 116 ∷ 97 ∷ 116 ∷ 46 ∷ 101 ∷ 120 ∷ 105 ∷ 115 ∷ 116 ∷ 115 ∷ 41 ∷ 32 ∷ 125 ∷ 125 ∷ []) ≡ Some (comparison equal (path (variable (codes "op")) ([])) (path (variable (codes "r2")) ((codes "stat") ∷ (codes "exists") ∷ [])))
text_2288 = refl

text_2289 : template_of (123 ∷ 123 ∷ 32 ∷ 40 ∷ 111 ∷ 112 ∷ 41 ∷ 32 ∷ 61 ∷ 61 ∷ 32 ∷ 40 ∷ 114 ∷ 50 ∷ 46 ∷ 115 ∷ 116 ∷ 100 ∷ 101 ∷ 114 ∷ 114 ∷ 41 ∷ 32 ∷ 125 ∷ 125 ∷ []) ≡ Some (comparison equal (path (variable (codes "op")) ([])) (path (variable (codes "r2")) ((codes "stderr") ∷ [])))
text_2289 = refl

text_2290 : template_of (123 ∷ 123 ∷ 32 ∷ 40 ∷ 111 ∷ 112 ∷ 46 ∷ 114 ∷ 99 ∷ 41 ∷ 32 ∷ 61 ∷ 61 ∷ 32 ∷ 40 ∷ 114 ∷ 50 ∷ 46 ∷ 114 ∷ 101 ∷ 115 ∷ 117 ∷ 108 ∷ 116 ∷ 115 ∷ 41 ∷ 32 ∷ 125 ∷ 125 ∷ []) ≡ Some (comparison equal (path (variable (codes "op")) ((codes "rc") ∷ [])) (path (variable (codes "r2")) ((codes "results") ∷ [])))
text_2290 = refl

text_2291 : template_of (123 ∷ 123 ∷ 32 ∷ 40 ∷ 114 ∷ 46 ∷ 99 ∷ 104 ∷ 97 ∷ 110 ∷ 103 ∷ 101 ∷ 100 ∷ 32 ∷ 105 ∷ 115 ∷ 32 ∷ 110 ∷ 111 ∷ 116 ∷ 32 ∷ 115 ∷ 107 ∷ 105 ∷ 112 ∷ 112 ∷ 101 ∷ 100 ∷ 41 ∷ 32 ∷ 97 ∷ 110 ∷ 100 ∷ 32 ∷ 40 ∷ 121 ∷ 46 ∷ 115 ∷ 116 ∷ 100 ∷ 111 ∷ 117 ∷ 116 ∷ 32 ∷ 105 ∷ 115 ∷ 32 ∷ 100 ∷ 101 ∷ 102 ∷ 105 ∷ 110 ∷ 101 ∷ 100 ∷ 41 ∷ 32 ∷ 125 ∷ 125 ∷ []) ≡ Some (conjunction (expression (negation (path_status is_skipped (variable (codes "r")) ((codes "changed") ∷ []))) (expression (defined (variable (codes "y")) ((codes "stdout") ∷ [])) (no_expressions))))
text_2291 = refl

text_2292 : template_of (123 ∷ 123 ∷ 32 ∷ 40 ∷ 114 ∷ 46 ∷ 99 ∷ 104 ∷ 97 ∷ 110 ∷ 103 ∷ 101 ∷ 100 ∷ 32 ∷ 105 ∷ 115 ∷ 32 ∷ 115 ∷ 117 ∷ 99 ∷ 99 ∷ 101 ∷ 101 ∷ 100 ∷ 101 ∷ 100 ∷ 41 ∷ 32 ∷ 111 ∷ 114 ∷ 32 ∷ 40 ∷ 105 ∷ 110 ∷ 118 ∷ 101 ∷ 110 ∷ 116 ∷ 111 ∷ 114 ∷ 121 ∷ 95 ∷ 104 ∷ 111 ∷ 115 ∷ 116 ∷ 110 ∷ 97 ∷ 109 ∷ 101 ∷ 32 ∷ 61 ∷ 61 ∷ 32 ∷ 49 ∷ 41 ∷ 32 ∷ 125 ∷ 125 ∷ []) ≡ Some (disjunction (expression (negation (path_status is_failed (variable (codes "r")) ((codes "changed") ∷ []))) (expression (comparison equal (path (variable (codes "inventory_hostname")) ([])) (literal (int (pos 1)))) (no_expressions))))
text_2292 = refl

text_2293 : template_of (123 ∷ 123 ∷ 32 ∷ 40 ∷ 114 ∷ 46 ∷ 99 ∷ 104 ∷ 97 ∷ 110 ∷ 103 ∷ 101 ∷ 100 ∷ 32 ∷ 105 ∷ 115 ∷ 32 ∷ 117 ∷ 110 ∷ 100 ∷ 101 ∷ 102 ∷ 105 ∷ 110 ∷ 101 ∷ 100 ∷ 41 ∷ 32 ∷ 97 ∷ 110 ∷ 100 ∷ 32 ∷ 40 ∷ 114 ∷ 46 ∷ 114 ∷ 101 ∷ 115 ∷ 117 ∷ 108 ∷ 116 ∷ 115 ∷ 32 ∷ 60 ∷ 32 ∷ 51 ∷ 41 ∷ 32 ∷ 125 ∷ 125 ∷ []) ≡ Some (conjunction (expression (negation (defined (variable (codes "r")) ((codes "changed") ∷ []))) (expression (comparison less (path (variable (codes "r")) ((codes "results") ∷ [])) (literal (int (pos 3)))) (no_expressions))))
text_2293 = refl

text_2294 : template_of (123 ∷ 123 ∷ 32 ∷ 40 ∷ 114 ∷ 46 ∷ 114 ∷ 101 ∷ 115 ∷ 117 ∷ 108 ∷ 116 ∷ 115 ∷ 32 ∷ 105 ∷ 115 ∷ 32 ∷ 100 ∷ 101 ∷ 102 ∷ 105 ∷ 110 ∷ 101 ∷ 100 ∷ 41 ∷ 32 ∷ 97 ∷ 110 ∷ 100 ∷ 32 ∷ 40 ∷ 121 ∷ 32 ∷ 105 ∷ 115 ∷ 32 ∷ 110 ∷ 111 ∷ 116 ∷ 32 ∷ 115 ∷ 107 ∷ 105 ∷ 112 ∷ 112 ∷ 101 ∷ 100 ∷ 41 ∷ 32 ∷ 125 ∷ 125 ∷ []) ≡ Some (conjunction (expression (defined (variable (codes "r")) ((codes "results") ∷ [])) (expression (negation (path_status is_skipped (variable (codes "y")) ([]))) (no_expressions))))
text_2294 = refl

text_2295 : template_of (123 ∷ 123 ∷ 32 ∷ 40 ∷ 114 ∷ 46 ∷ 114 ∷ 101 ∷ 115 ∷ 117 ∷ 108 ∷ 116 ∷ 115 ∷ 32 ∷ 105 ∷ 115 ∷ 32 ∷ 110 ∷ 111 ∷ 116 ∷ 32 ∷ 115 ∷ 107 ∷ 105 ∷ 112 ∷ 112 ∷ 101 ∷ 100 ∷ 41 ∷ 32 ∷ 97 ∷ 110 ∷ 100 ∷ 32 ∷ 40 ∷ 105 ∷ 116 ∷ 101 ∷ 109 ∷ 46 ∷ 107 ∷ 32 ∷ 105 ∷ 115 ∷ 32 ∷ 102 ∷ 97 ∷ 105 ∷ 108 ∷ 101 ∷ 100 ∷ 41 ∷ 32 ∷ 125 ∷ 125 ∷ []) ≡ Some (conjunction (expression (negation (path_status is_skipped (variable (codes "r")) ((codes "results") ∷ []))) (expression (path_status is_failed (variable (codes "item")) ((codes "k") ∷ [])) (no_expressions))))
text_2295 = refl

text_2296 : template_of (123 ∷ 123 ∷ 32 ∷ 40 ∷ 114 ∷ 49 ∷ 41 ∷ 32 ∷ 61 ∷ 61 ∷ 32 ∷ 40 ∷ 97 ∷ 110 ∷ 115 ∷ 105 ∷ 98 ∷ 108 ∷ 101 ∷ 95 ∷ 102 ∷ 97 ∷ 105 ∷ 108 ∷ 101 ∷ 100 ∷ 95 ∷ 114 ∷ 101 ∷ 115 ∷ 117 ∷ 108 ∷ 116 ∷ 46 ∷ 109 ∷ 115 ∷ 103 ∷ 41 ∷ 32 ∷ 125 ∷ 125 ∷ []) ≡ Some (comparison equal (path (variable (codes "r1")) ([])) (path (variable (codes "ansible_failed_result")) ((codes "msg") ∷ [])))
text_2296 = refl

text_2297 : template_of (123 ∷ 123 ∷ 32 ∷ 40 ∷ 114 ∷ 49 ∷ 41 ∷ 32 ∷ 61 ∷ 61 ∷ 32 ∷ 40 ∷ 104 ∷ 111 ∷ 115 ∷ 116 ∷ 118 ∷ 97 ∷ 114 ∷ 115 ∷ 91 ∷ 105 ∷ 110 ∷ 118 ∷ 101 ∷ 110 ∷ 116 ∷ 111 ∷ 114 ∷ 121 ∷ 95 ∷ 104 ∷ 111 ∷ 115 ∷ 116 ∷ 110 ∷ 97 ∷ 109 ∷ 101 ∷ 93 ∷ 46 ∷ 115 ∷ 50 ∷ 41 ∷ 32 ∷ 125 ∷ 125 ∷ []) ≡ Some (comparison equal (path (variable (codes "r1")) ([])) (path (other this_host (codes "s2")) ([])))
text_2297 = refl

text_2298 : template_of (123 ∷ 123 ∷ 32 ∷ 40 ∷ 114 ∷ 49 ∷ 41 ∷ 32 ∷ 61 ∷ 61 ∷ 32 ∷ 40 ∷ 105 ∷ 49 ∷ 41 ∷ 32 ∷ 125 ∷ 125 ∷ []) ≡ Some (comparison equal (path (variable (codes "r1")) ([])) (path (variable (codes "i1")) ([])))
text_2298 = refl

text_2299 : template_of (123 ∷ 123 ∷ 32 ∷ 40 ∷ 114 ∷ 49 ∷ 41 ∷ 32 ∷ 61 ∷ 61 ∷ 32 ∷ 40 ∷ 115 ∷ 50 ∷ 46 ∷ 103 ∷ 41 ∷ 32 ∷ 125 ∷ 125 ∷ []) ≡ Some (comparison equal (path (variable (codes "r1")) ([])) (path (variable (codes "s2")) ((codes "g") ∷ [])))
text_2299 = refl

text_2300 : template_of (123 ∷ 123 ∷ 32 ∷ 40 ∷ 114 ∷ 49 ∷ 41 ∷ 32 ∷ 125 ∷ 125 ∷ []) ≡ Some (path (variable (codes "r1")) ([]))
text_2300 = refl

text_2301 : template_of (123 ∷ 123 ∷ 32 ∷ 40 ∷ 114 ∷ 49 ∷ 46 ∷ 99 ∷ 104 ∷ 97 ∷ 110 ∷ 103 ∷ 101 ∷ 100 ∷ 41 ∷ 32 ∷ 61 ∷ 61 ∷ 32 ∷ 40 ∷ 114 ∷ 49 ∷ 46 ∷ 102 ∷ 97 ∷ 105 ∷ 108 ∷ 101 ∷ 100 ∷ 41 ∷ 32 ∷ 125 ∷ 125 ∷ []) ≡ Some (comparison equal (path (variable (codes "r1")) ((codes "changed") ∷ [])) (path (variable (codes "r1")) ((codes "failed") ∷ [])))
text_2301 = refl

text_2302 : template_of (123 ∷ 123 ∷ 32 ∷ 40 ∷ 114 ∷ 49 ∷ 46 ∷ 99 ∷ 104 ∷ 97 ∷ 110 ∷ 103 ∷ 101 ∷ 100 ∷ 41 ∷ 32 ∷ 61 ∷ 61 ∷ 32 ∷ 40 ∷ 114 ∷ 51 ∷ 46 ∷ 102 ∷ 97 ∷ 105 ∷ 108 ∷ 101 ∷ 100 ∷ 41 ∷ 32 ∷ 125 ∷ 125 ∷ []) ≡ Some (comparison equal (path (variable (codes "r1")) ((codes "changed") ∷ [])) (path (variable (codes "r3")) ((codes "failed") ∷ [])))
text_2302 = refl

text_2303 : template_of (123 ∷ 123 ∷ 32 ∷ 40 ∷ 114 ∷ 49 ∷ 46 ∷ 99 ∷ 104 ∷ 97 ∷ 110 ∷ 103 ∷ 101 ∷ 100 ∷ 41 ∷ 32 ∷ 61 ∷ 61 ∷ 32 ∷ 40 ∷ 115 ∷ 51 ∷ 46 ∷ 115 ∷ 116 ∷ 100 ∷ 111 ∷ 117 ∷ 116 ∷ 41 ∷ 32 ∷ 125 ∷ 125 ∷ []) ≡ Some (comparison equal (path (variable (codes "r1")) ((codes "changed") ∷ [])) (path (variable (codes "s3")) ((codes "stdout") ∷ [])))
text_2303 = refl

text_2304 : template_of (123 ∷ 123 ∷ 32 ∷ 40 ∷ 114 ∷ 49 ∷ 46 ∷ 99 ∷ 104 ∷ 97 ∷ 110 ∷ 103 ∷ 101 ∷ 100 ∷ 41 ∷ 32 ∷ 61 ∷ 61 ∷ 32 ∷ 40 ∷ 118 ∷ 51 ∷ 46 ∷ 99 ∷ 104 ∷ 97 ∷ 110 ∷ 103 ∷ 101 ∷ 100 ∷ 41 ∷ 32 ∷ 125 ∷ 125 ∷ []) ≡ Some (comparison equal (path (variable (codes "r1")) ((codes "changed") ∷ [])) (path (variable (codes "v3")) ((codes "changed") ∷ [])))
text_2304 = refl

text_2305 : template_of (123 ∷ 123 ∷ 32 ∷ 40 ∷ 114 ∷ 49 ∷ 46 ∷ 102 ∷ 97 ∷ 105 ∷ 108 ∷ 101 ∷ 100 ∷ 41 ∷ 32 ∷ 61 ∷ 61 ∷ 32 ∷ 40 ∷ 97 ∷ 110 ∷ 115 ∷ 105 ∷ 98 ∷ 108 ∷ 101 ∷ 95 ∷ 102 ∷ 97 ∷ 99 ∷ 116 ∷ 115 ∷ 46 ∷ 104 ∷ 111 ∷ 115 ∷ 116 ∷ 110 ∷ 97 ∷ 109 ∷ 101 ∷ 41 ∷ 32 ∷ 125 ∷ 125 ∷ []) ≡ Some (comparison equal (path (variable (codes "r1")) ((codes "failed") ∷ [])) (path (variable (codes "ansible_facts")) ((codes "hostname") ∷ [])))
text_2305 = refl

text_2306 : template_of (123 ∷ 123 ∷ 32 ∷ 40 ∷ 114 ∷ 49 ∷ 46 ∷ 102 ∷ 97 ∷ 105 ∷ 108 ∷ 101 ∷ 100 ∷ 41 ∷ 32 ∷ 61 ∷ 61 ∷ 32 ∷ 40 ∷ 97 ∷ 110 ∷ 115 ∷ 105 ∷ 98 ∷ 108 ∷ 101 ∷ 95 ∷ 102 ∷ 97 ∷ 105 ∷ 108 ∷ 101 ∷ 100 ∷ 95 ∷ 114 ∷ 101 ∷ 115 ∷ 117 ∷ 108 ∷ 116 ∷ 46 ∷ 109 ∷ 115 ∷ 103 ∷ 41 ∷ 32 ∷ 125 ∷ 125 ∷ []) ≡ Some (comparison equal (path (variable (codes "r1")) ((codes "failed") ∷ [])) (path (variable (codes "ansible_failed_result")) ((codes "msg") ∷ [])))
text_2306 = refl

text_2307 : template_of (123 ∷ 123 ∷ 32 ∷ 40 ∷ 114 ∷ 49 ∷ 46 ∷ 102 ∷ 97 ∷ 105 ∷ 108 ∷ 101 ∷ 100 ∷ 41 ∷ 32 ∷ 61 ∷ 61 ∷ 32 ∷ 40 ∷ 114 ∷ 50 ∷ 41 ∷ 32 ∷ 125 ∷ 125 ∷ []) ≡ Some (comparison equal (path (variable (codes "r1")) ((codes "failed") ∷ [])) (path (variable (codes "r2")) ([])))
text_2307 = refl

text_2308 : template_of (123 ∷ 123 ∷ 32 ∷ 40 ∷ 114 ∷ 49 ∷ 46 ∷ 102 ∷ 97 ∷ 105 ∷ 108 ∷ 101 ∷ 100 ∷ 41 ∷ 32 ∷ 61 ∷ 61 ∷ 32 ∷ 40 ∷ 114 ∷ 50 ∷ 46 ∷ 102 ∷ 97 ∷ 105 ∷ 108 ∷ 101 ∷ 100 ∷ 41 ∷ 32 ∷ 125 ∷ 125 ∷ []) ≡ Some (comparison equal (path (variable (codes "r1")) ((codes "failed") ∷ [])) (path (variable (codes "r2")) ((codes "failed") ∷ [])))
text_2308 = refl

text_2309 : template_of (123 ∷ 123 ∷ 32 ∷ 40 ∷ 114 ∷ 49 ∷ 46 ∷ 102 ∷ 97 ∷ 105 ∷ 108 ∷ 101 ∷ 100 ∷ 41 ∷ 32 ∷ 61 ∷ 61 ∷ 32 ∷ 40 ∷ 114 ∷ 51 ∷ 41 ∷ 32 ∷ 125 ∷ 125 ∷ []) ≡ Some (comparison equal (path (variable (codes "r1")) ((codes "failed") ∷ [])) (path (variable (codes "r3")) ([])))
text_2309 = refl

text_2310 : template_of (123 ∷ 123 ∷ 32 ∷ 40 ∷ 114 ∷ 49 ∷ 46 ∷ 109 ∷ 115 ∷ 103 ∷ 41 ∷ 32 ∷ 61 ∷ 61 ∷ 32 ∷ 40 ∷ 114 ∷ 50 ∷ 46 ∷ 115 ∷ 107 ∷ 105 ∷ 112 ∷ 95 ∷ 114 ∷ 101 ∷ 97 ∷ 115 ∷ 111 ∷ 110 ∷ 41 ∷ 32 ∷ 125 ∷ 125 ∷ []) ≡ Some (comparison equal (path (variable (codes "r1")) ((codes "msg") ∷ [])) (path (variable (codes "r2")) ((codes "skip_reason") ∷ [])))
text_2310 = refl

text_2311 : template_of (123 ∷ 123 ∷ 32 ∷ 40 ∷ 114 ∷ 49 ∷ 46 ∷ 115 ∷ 107 ∷ 105 ∷ 112 ∷ 95 ∷ 114 ∷ 101 ∷ 97 ∷ 115 ∷ 111 ∷ 110 ∷ 41 ∷ 32 ∷ 61 ∷ 61 ∷ 32 ∷ 40 ∷ 103 ∷ 114 ∷ 111 ∷ 117 ∷ 112 ∷ 115 ∷ 46 ∷ 97 ∷ 108 ∷ 108 ∷ 41 ∷ 32 ∷ 125 ∷ 125 ∷ []) ≡ Some (comparison equal (path (variable (codes "r1")) ((codes "skip_reason") ∷ [])) (path (variable (codes "groups")) ((codes "all") ∷ [])))
text_2311 = refl

text_2312 : template_of (123 ∷ 123 ∷ 32 ∷ 40 ∷ 114 ∷ 49 ∷ 46 ∷ 115 ∷ 107 ∷ 105 ∷ 112 ∷ 95 ∷ 114 ∷ 101 ∷ 97 ∷ 115 ∷ 111 ∷ 110 ∷ 41 ∷ 32 ∷ 61 ∷ 61 ∷ 32 ∷ 40 ∷ 111 ∷ 112 ∷ 41 ∷ 32 ∷ 125 ∷ 125 ∷ []) ≡ Some (comparison equal (path (variable (codes "r1")) ((codes "skip_reason") ∷ [])) (path (variable (codes "op")) ([])))
text_2312 = refl

text_2313 : template_of (123 ∷ 123 ∷ 32 ∷ 40 ∷ 114 ∷ 49 ∷ 46 ∷ 115 ∷ 107 ∷ 105 ∷ 112 ∷ 112 ∷ 101 ∷ 100 ∷ 41 ∷ 32 ∷ 61 ∷ 61 ∷ 32 ∷ 40 ∷ 104 ∷ 111 ∷ 115 ∷ 116 ∷ 118 ∷ 97 ∷ 114 ∷ 115 ∷ 91 ∷ 105 ∷ 110 ∷ 118 ∷ 101 ∷ 110 ∷ 116 ∷ 111 ∷ 114 ∷ 121 ∷ 95 ∷ 104 ∷ 111 ∷ 115 ∷ 116 ∷ 110 ∷ 97 ∷ 109 ∷ 101 ∷ 93 ∷ 46 ∷ 114 ∷ 51 ∷ 41 ∷ 32 ∷ 125 ∷ 125 ∷ []) ≡ Some (comparison equal (path (variable (codes "r1")) ((codes "skipped") ∷ [])) (path (other this_host (codes "r3")) ([])))
text_2313 = refl

text_2314 : template_of (123 ∷ 123 ∷ 32 ∷ 40 ∷ 114 ∷ 49 ∷ 46 ∷ 115 ∷ 107 ∷ 105 ∷ 112 ∷ 112 ∷ 101 ∷ 100 ∷ 41 ∷ 32 ∷ 61 ∷ 61 ∷ 32 ∷ 40 ∷ 114 ∷ 49 ∷ 41 ∷ 32 ∷ 125 ∷ 125 ∷ []) ≡ Some (comparison equal (path (variable (codes "r1")) ((codes "skipped") ∷ [])) (path (variable (codes "r1")) ([])))
text_2314 = refl

text_2315 : template_of (123 ∷ 123 ∷ 32 ∷ 40 ∷ 114 ∷ 49 ∷ 46 ∷ 115 ∷ 116 ∷ 100 ∷ 101 ∷ 114 ∷ 114 ∷ 41 ∷ 32 ∷ 61 ∷ 61 ∷ 32 ∷ 40 ∷ 114 ∷ 50 ∷ 46 ∷ 115 ∷ 116 ∷ 100 ∷ 111 ∷ 117 ∷ 116 ∷ 95 ∷ 108 ∷ 105 ∷ 110 ∷ 101 ∷ 115 ∷ 41 ∷ 32 ∷ 125 ∷ 125 ∷ []) ≡ Some (comparison equal (path (variable (codes "r1")) ((codes "stderr") ∷ [])) (path (variable (codes "r2")) ((codes "stdout_lines") ∷ [])))
text_2315 = refl

text_2316 : template_of (123 ∷ 123 ∷ 32 ∷ 40 ∷ 114 ∷ 49 ∷ 46 ∷ 115 ∷ 116 ∷ 100 ∷ 111 ∷ 117 ∷ 116 ∷ 41 ∷ 32 ∷ 61 ∷ 61 ∷ 32 ∷ 40 ∷ 105 ∷ 50 ∷ 41 ∷ 32 ∷ 125 ∷ 125 ∷ []) ≡ Some (comparison equal (path (variable (codes "r1")) ((codes "stdout") ∷ [])) (path (variable (codes "i2")) ([])))
text_2316 = refl

text_2317 : template_of (123 ∷ 123 ∷ 32 ∷ 40 ∷ 114 ∷ 50 ∷ 41 ∷ 32 ∷ 61 ∷ 61 ∷ 32 ∷ 40 ∷ 97 ∷ 110 ∷ 115 ∷ 105 ∷ 98 ∷ 108 ∷ 101 ∷ 95 ∷ 102 ∷ 97 ∷ 99 ∷ 116 ∷ 115 ∷ 46 ∷ 104 ∷ 111 ∷ 115 ∷ 116 ∷ 110 ∷ 97 ∷ 109 ∷ 101 ∷ 41 ∷ 32 ∷ 125 ∷ 125 ∷ []) ≡ Some (comparison equal (path (variable (codes "r2")) ([])) (path (variable (codes "ansible_facts")) ((codes "hostname") ∷ [])))
text_2317 = refl

text_2318 : template_of (123 ∷ 123 ∷ 32 ∷ 40 ∷ 114 ∷ 50 ∷ 41 ∷ 32 ∷ 61 ∷ 61 ∷ 32 ∷ 40 ∷ 114 ∷ 49 ∷ 46 ∷ 99 ∷ 104 ∷ 97 ∷ 110 ∷ 103 ∷ 101 ∷ 100 ∷ 41 ∷ 32 ∷ 125 ∷ 125 ∷ []) ≡ Some (comparison equal (path (variable (codes "r2")) ([])) (path (variable (codes "r1")) ((codes "changed") ∷ [])))
text_2318 = refl

text_2319 : template_of (123 ∷ 123 ∷ 32 ∷ 40 ∷ 114 ∷ 50 ∷ 41 ∷ 32 ∷ 61 ∷ 61 ∷ 32 ∷ 40 ∷ 114 ∷ 51 ∷ 46 ∷ 99 ∷ 104 ∷ 97 ∷ 110 ∷ 103 ∷ 101 ∷ 100 ∷ 41 ∷ 32 ∷ 125 ∷ 125 ∷ []) ≡ Some (comparison equal (path (variable (codes "r2")) ([])) (path (variable (codes "r3")) ((codes "changed") ∷ [])))
text_2319 = refl

text_2320 : template_of (123 ∷ 123 ∷ 32 ∷ 40 ∷ 114 ∷ 50 ∷ 41 ∷ 32 ∷ 61 ∷ 61 ∷ 32 ∷ 40 ∷ 114 ∷ 51 ∷ 46 ∷ 102 ∷ 97 ∷ 105 ∷ 108 ∷ 101 ∷ 100 ∷ 41 ∷ 32 ∷ 125 ∷ 125 ∷ []) ≡ Some (comparison equal (path (variable (codes "r2")) ([])) (path (variable (codes "r3")) ((codes "failed") ∷ [])))
text_2320 = refl

text_2321 : template_of (123 ∷ 123 ∷ 32 ∷ 40 ∷ 114 ∷ 50 ∷ 41 ∷ 32 ∷ 61 ∷ 61 ∷ 32 ∷ 40 ∷ 115 ∷ 49 ∷ 41 ∷ 32 ∷ 125 ∷ 125 ∷ []) ≡ Some (comparison equal (path (variable (codes "r2")) ([])) (path (variable (codes "s1")) ([])))
text_2321 = refl

text_2322 : template_of (123 ∷ 123 ∷ 32 ∷ 40 ∷ 114 ∷ 50 ∷ 41 ∷ 32 ∷ 61 ∷ 61 ∷ 32 ∷ 40 ∷ 115 ∷ 49 ∷ 46 ∷ 115 ∷ 116 ∷ 100 ∷ 111 ∷ 117 ∷ 116 ∷ 41 ∷ 32 ∷ 125 ∷ 125 ∷ []) ≡ Some (comparison equal (path (variable (codes "r2")) ([])) (path (variable (codes "s1")) ((codes "stdout") ∷ [])))
text_2322 = refl

text_2323 : template_of (123 ∷ 123 ∷ 32 ∷ 40 ∷ 114 ∷ 50 ∷ 46 ∷ 99 ∷ 104 ∷ 97 ∷ 110 ∷ 103 ∷ 101 ∷ 100 ∷ 41 ∷ 32 ∷ 61 ∷ 61 ∷ 32 ∷ 40 ∷ 97 ∷ 110 ∷ 115 ∷ 105 ∷ 98 ∷ 108 ∷ 101 ∷ 95 ∷ 102 ∷ 97 ∷ 105 ∷ 108 ∷ 101 ∷ 100 ∷ 95 ∷ 114 ∷ 101 ∷ 115 ∷ 117 ∷ 108 ∷ 116 ∷ 46 ∷ 109 ∷ 115 ∷ 103 ∷ 41 ∷ 32 ∷ 125 ∷ 125 ∷ []) ≡ Some (comparison equal (path (variable (codes "r2")) ((codes "changed") ∷ [])) (path (variable (codes "ansible_failed_result")) ((codes "msg") ∷ [])))
text_2323 = refl

text_2324 : template_of (123 ∷ 123 ∷ 32 ∷ 40 ∷ 114 ∷ 50 ∷ 46 ∷ 99 ∷ 104 ∷ 97 ∷ 110 ∷ 103 ∷ 101 ∷ 100 ∷ 41 ∷ 32 ∷ 61 ∷ 61 ∷ 32 ∷ 40 ∷ 97 ∷ 110 ∷ 115 ∷ 105 ∷ 98 ∷ 108 ∷ 101 ∷ 95 ∷ 112 ∷ 108 ∷ 97 ∷ 121 ∷ 95 ∷ 98 ∷ 97 ∷ 116 ∷ 99 ∷ 104 ∷ 41 ∷ 32 ∷ 125 ∷ 125 ∷ []) ≡ Some (comparison equal (path (variable (codes "r2")) ((codes "changed") ∷ [])) (path (variable (codes "ansible_play_batch")) ([])))
text_2324 = refl

text_2325 : template_of (123 ∷ 123 ∷ 32 ∷ 40 ∷ 114 ∷ 50 ∷ 46 ∷ 99 ∷ 104 ∷ 97 ∷ 110 ∷ 103 ∷ 101 ∷ 100 ∷ 41 ∷ 32 ∷ 61 ∷ 61 ∷ 32 ∷ 40 ∷ 105 ∷ 116 ∷ 101 ∷ 109 ∷ 46 ∷ 102 ∷ 41 ∷ 32 ∷ 125 ∷ 125 ∷ []) ≡ Some (comparison equal (path (variable (codes "r2")) ((codes "changed") ∷ [])) (path (variable (codes "item")) ((codes "f") ∷ [])))
text_2325 = refl

text_2326 : template_of (123 ∷ 123 ∷ 32 ∷ 40 ∷ 114 ∷ 50 ∷ 46 ∷ 99 ∷ 104 ∷ 97 ∷ 110 ∷ 103 ∷ 101 ∷ 100 ∷ 41 ∷ 32 ∷ 61 ∷ 61 ∷ 32 ∷ 40 ∷ 114 ∷ 50 ∷ 46 ∷ 102 ∷ 97 ∷ 105 ∷ 108 ∷ 101 ∷ 100 ∷ 41 ∷ 32 ∷ 125 ∷ 125 ∷ []) ≡ Some (comparison equal (path (variable (codes "r2")) ((codes "changed") ∷ [])) (path (variable (codes "r2")) ((codes "failed") ∷ [])))
text_2326 = refl

text_2327 : template_of (123 ∷ 123 ∷ 32 ∷ 40 ∷ 114 ∷ 50 ∷ 46 ∷ 99 ∷ 104 ∷ 97 ∷ 110 ∷ 103 ∷ 101 ∷ 100 ∷ 41 ∷ 32 ∷ 61 ∷ 61 ∷ 32 ∷ 40 ∷ 115 ∷ 49 ∷ 41 ∷ 32 ∷ 125 ∷ 125 ∷ []) ≡ Some (comparison equal (path (variable (codes "r2")) ((codes "changed") ∷ [])) (path (variable (codes "s1")) ([])))
text_2327 = refl

text_2328 : template_of (123 ∷ 123 ∷ 32 ∷ 40 ∷ 114 ∷ 50 ∷ 46 ∷ 100 ∷ 101 ∷ 101 ∷ 112 ∷ 41 ∷ 32 ∷ 61 ∷ 61 ∷ 32 ∷ 40 ∷ 105 ∷ 49 ∷ 46 ∷ 115 ∷ 116 ∷ 100 ∷ 111 ∷ 117 ∷ 116 ∷ 41 ∷ 32 ∷ 125 ∷ 125 ∷ []) ≡ Some (comparison equal (path (variable (codes "r2")) ((codes "deep") ∷ [])) (path (variable (codes "i1")) ((codes "stdout") ∷ [])))
text_2328 = refl

text_2329 : template_of (123 ∷ 123 ∷ 32 ∷ 40 ∷ 114 ∷ 50 ∷ 46 ∷ 102 ∷ 97 ∷ 105 ∷ 108 ∷ 101 ∷ 100 ∷ 41 ∷ 32 ∷ 61 ∷ 61 ∷ 32 ∷ 40 ∷ 97 ∷ 110 ∷ 115 ∷ 105 ∷ 98 ∷ 108 ∷ 101 ∷ 95 ∷ 102 ∷ 97 ∷ 105 ∷ 108 ∷ 101 ∷ 100 ∷ 95 ∷ 114 ∷ 101 ∷ 115 ∷ 117 ∷ 108 ∷ 116 ∷ 46 ∷ 109 ∷ 115 ∷ 103 ∷ 41 ∷ 32 ∷ 125 ∷ 125 ∷ []) ≡ Some (comparison equal (path (variable (codes "r2")) ((codes "failed") ∷ [])) (path (variable (codes "ansible_failed_result")) ((codes "msg") ∷ [])))
text_2329 = refl

text_2330 : template_of (123 ∷ 123 ∷ 32 ∷ 40 ∷ 114 ∷ 50 ∷ 46 ∷ 102 ∷ 97 ∷ 105 ∷ 108 ∷ 101 ∷ 100 ∷ 41 ∷ 32 ∷ 61 ∷ 61 ∷ 32 ∷ 40 ∷ 114 ∷ 51 ∷ 46 ∷ 99 ∷ 104 ∷ 97 ∷ 110 ∷ 103 ∷ 101 ∷ 100 ∷ 41 ∷ 32 ∷ 125 ∷ 125 ∷ []) ≡ Some (comparison equal (path (variable (codes "r2")) ((codes "failed") ∷ [])) (path (variable (codes "r3")) ((codes "changed") ∷ [])))
text_2330 = refl

text_2331 : template_of (123 ∷ 123 ∷ 32 ∷ 40 ∷ 114 ∷ 50 ∷ 46 ∷ 102 ∷ 97 ∷ 105 ∷ 108 ∷ 101 ∷ 100 ∷ 41 ∷ 32 ∷ 61 ∷ 61 ∷ 32 ∷ 40 ∷ 115 ∷ 51 ∷ 41 ∷ 32 ∷ 125 ∷ 125 ∷ []) ≡ Some (comparison equal (path (variable (codes "r2")) ((codes "failed") ∷ [])) (path (variable (codes "s3")) ([])))
text_2331 = refl

text_2332 : template_of (123 ∷ 123 ∷ 32 ∷ 40 ∷ 114 ∷ 50 ∷ 46 ∷ 109 ∷ 115 ∷ 103 ∷ 41 ∷ 32 ∷ 61 ∷ 61 ∷ 32 ∷ 40 ∷ 115 ∷ 49 ∷ 46 ∷ 99 ∷ 104 ∷ 97 ∷ 110 ∷ 103 ∷ 101 ∷ 100 ∷ 41 ∷ 32 ∷ 125 ∷ 125 ∷ []) ≡ Some (comparison equal (path (variable (codes "r2")) ((codes "msg") ∷ [])) (path (variable (codes "s1")) ((codes "changed") ∷ [])))
text_2332 = refl

text_2333 : template_of (123 ∷ 123 ∷ 32 ∷ 40 ∷ 114 ∷ 50 ∷ 46 ∷ 115 ∷ 107 ∷ 105 ∷ 112 ∷ 112 ∷ 101 ∷ 100 ∷ 41 ∷ 32 ∷ 61 ∷ 61 ∷ 32 ∷ 40 ∷ 103 ∷ 114 ∷ 111 ∷ 117 ∷ 112 ∷ 95 ∷ 110 ∷ 97 ∷ 109 ∷ 101 ∷ 115 ∷ 41 ∷ 32 ∷ 125 ∷ 125 ∷ []) ≡ Some (comparison equal (path (variable (codes "r2")) ((codes "skipped") ∷ [])) (path (variable (codes "group_names")) ([])))
text_2333 = refl

text_2334 : template_of (123 ∷ 123 ∷ 32 ∷ 40 ∷ 114 ∷ 50 ∷ 46 ∷ 115 ∷ 107 ∷ 105 ∷ 112 ∷ 112 ∷ 101 ∷ 100 ∷ 41 ∷ 32 ∷ 61 ∷ 61 ∷ 32 ∷ 40 ∷ 105 ∷ 49 ∷ 41 ∷ 32 ∷ 125 ∷ 125 ∷ []) ≡ Some (comparison equal (path (variable (codes "r2")) ((codes "skipped") ∷ [])) (path (variable (codes "i1")) ([])))
text_2334 = refl

text_2335 : template_of (123 ∷ 123 ∷ 32 ∷ 40 ∷ 114 ∷ 50 ∷ 46 ∷ 115 ∷ 107 ∷ 105 ∷ 112 ∷ 112 ∷ 101 ∷ 100 ∷ 41 ∷ 32 ∷ 61 ∷ 61 ∷ 32 ∷ 40 ∷ 114 ∷ 50 ∷ 46 ∷ 99 ∷ 104 ∷ 97 ∷ 110 ∷ 103 ∷ 101 ∷ 100 ∷ 41 ∷ 32 ∷ 125 ∷ 125 ∷ []) ≡ Some (comparison equal (path (variable (codes "r2")) ((codes "skipped") ∷ [])) (path (variable (codes "r2")) ((codes "changed") ∷ [])))
text_2335 = refl

text_2336 : template_of (123 ∷ 123 ∷ 32 ∷ 40 ∷ 114 ∷ 50 ∷ 46 ∷ 115 ∷ 116 ∷ 100 ∷ 101 ∷ 114 ∷ 114 ∷ 41 ∷ 32 ∷ 61 ∷ 61 ∷ 32 ∷ 40 ∷ 114 ∷ 50 ∷ 46 ∷ 114 ∷ 99 ∷ 41 ∷ 32 ∷ 125 ∷ 125 ∷ []) ≡ Some (comparison equal (path (variable (codes "r2")) ((codes "stderr") ∷ [])) (path (variable (codes "r2")) ((codes "rc") ∷ [])))
text_2336 = refl

text_2337 : template_of (123 ∷ 123 ∷ 32 ∷ 40 ∷ 114 ∷ 51 ∷ 41 ∷ 32 ∷ 61 ∷ 61 ∷ 32 ∷ 40 ∷ 97 ∷ 110 ∷ 115 ∷ 105 ∷ 98 ∷ 108 ∷ 101 ∷ 95 ∷ 102 ∷ 97 ∷ 99 ∷ 116 ∷ 115 ∷ 41 ∷ 32 ∷ 125 ∷ 125 ∷ []) ≡ Some (comparison equal (path (variable (codes "r3")) ([])) (path (variable (codes "ansible_facts")) ([])))
text_2337 = refl

text_2338 : template_of (123 ∷ 123 ∷ 32 ∷ 40 ∷ 114 ∷ 51 ∷ 41 ∷ 32 ∷ 61 ∷ 61 ∷ 32 ∷ 40 ∷ 105 ∷ 49 ∷ 41 ∷ 32 ∷ 125 ∷ 125 ∷ []) ≡ Some (comparison equal (path (variable (codes "r3")) ([])) (path (variable (codes "i1")) ([])))
text_2338 = refl

text_2339 : template_of (123 ∷ 123 ∷ 32 ∷ 40 ∷ 114 ∷ 51 ∷ 41 ∷ 32 ∷ 61 ∷ 61 ∷ 32 ∷ 40 ∷ 114 ∷ 49 ∷ 41 ∷ 32 ∷ 125 ∷ 125 ∷ []) ≡ Some (comparison equal (path (variable (codes "r3")) ([])) (path (variable (codes "r1")) ([])))
text_2339 = refl

text_2340 : template_of (123 ∷ 123 ∷ 32 ∷ 40 ∷ 114 ∷ 51 ∷ 41 ∷ 32 ∷ 61 ∷ 61 ∷ 32 ∷ 40 ∷ 114 ∷ 49 ∷ 46 ∷ 99 ∷ 104 ∷ 97 ∷ 110 ∷ 103 ∷ 101 ∷ 100 ∷ 41 ∷ 32 ∷ 125 ∷ 125 ∷ []) ≡ Some (comparison equal (path (variable (codes "r3")) ([])) (path (variable (codes "r1")) ((codes "changed") ∷ [])))
text_2340 = refl

text_2341 : template_of (123 ∷ 123 ∷ 32 ∷ 40 ∷ 114 ∷ 51 ∷ 41 ∷ 32 ∷ 61 ∷ 61 ∷ 32 ∷ 40 ∷ 114 ∷ 50 ∷ 46 ∷ 102 ∷ 97 ∷ 105 ∷ 108 ∷ 101 ∷ 100 ∷ 41 ∷ 32 ∷ 125 ∷ 125 ∷ []) ≡ Some (comparison equal (path (variable (codes "r3")) ([])) (path (variable (codes "r2")) ((codes "failed") ∷ [])))
text_2341 = refl

text_2342 : template_of (123 ∷ 123 ∷ 32 ∷ 40 ∷ 114 ∷ 51 ∷ 41 ∷ 32 ∷ 61 ∷ 61 ∷ 32 ∷ 40 ∷ 114 ∷ 50 ∷ 46 ∷ 114 ∷ 101 ∷ 115 ∷ 117 ∷ 108 ∷ 116 ∷ 115 ∷ 41 ∷ 32 ∷ 125 ∷ 125 ∷ []) ≡ Some (comparison equal (path (variable (codes "r3")) ([])) (path (variable (codes "r2")) ((codes "results") ∷ [])))
text_2342 = refl

text_2343 : template_of (123 ∷ 123 ∷ 32 ∷ 40 ∷ 114 ∷ 51 ∷ 41 ∷ 32 ∷ 61 ∷ 61 ∷ 32 ∷ 40 ∷ 114 ∷ 51 ∷ 46 ∷ 99 ∷ 104 ∷ 97 ∷ 110 ∷ 103 ∷ 101 ∷ 100 ∷ 41 ∷ 32 ∷ 125 ∷ 125 ∷ []) ≡ Some (comparison equal (path (variable (codes "r3")) ([])) (path (variable (codes "r3")) ((codes "changed") ∷ [])))
text_2343 = refl

text_2344 : template_of (123 ∷ 123 ∷ 32 ∷ 40 ∷ 114 ∷ 51 ∷ 41 ∷ 32 ∷ 61 ∷ 61 ∷ 32 ∷ 40 ∷ 114 ∷ 51 ∷ 46 ∷ 114 ∷ 99 ∷ 41 ∷ 32 ∷ 125 ∷ 125 ∷ []) ≡ Some (comparison equal (path (variable (codes "r3")) ([])) (path (variable (codes "r3")) ((codes "rc") ∷ [])))
text_2344 = refl

text_2345 : template_of (123 ∷ 123 ∷ 32 ∷ 40 ∷ 114 ∷ 51 ∷ 46 ∷ 99 ∷ 104 ∷ 97 ∷ 110 ∷ 103 ∷ 101 ∷ 100 ∷ 41 ∷ 32 ∷ 61 ∷ 61 ∷ 32 ∷ 40 ∷ 97 ∷ 110 ∷ 115 ∷ 105 ∷ 98 ∷ 108 ∷ 101 ∷ 95 ∷ 104 ∷ 111 ∷ 115 ∷ 116 ∷ 110 ∷ 97 ∷ 109 ∷ 101 ∷ 41 ∷ 32 ∷ 125 ∷ 125 ∷ []) ≡ Some (comparison equal (path (variable (codes "r3")) ((codes "changed") ∷ [])) (path (variable (codes "ansible_hostname")) ([])))
text_2345 = refl

text_2346 : template_of (123 ∷ 123 ∷ 32 ∷ 40 ∷ 114 ∷ 51 ∷ 46 ∷ 99 ∷ 104 ∷ 97 ∷ 110 ∷ 103 ∷ 101 ∷ 100 ∷ 41 ∷ 32 ∷ 61 ∷ 61 ∷ 32 ∷ 40 ∷ 103 ∷ 114 ∷ 111 ∷ 117 ∷ 112 ∷ 95 ∷ 110 ∷ 97 ∷ 109 ∷ 101 ∷ 115 ∷ 41 ∷ 32 ∷ 125 ∷ 125 ∷ []) ≡ Some (comparison equal (path (variable (codes "r3")) ((codes "changed") ∷ [])) (path (variable (codes "group_names")) ([])))
text_2346 = refl

text_2347 : template_of (123 ∷ 123 ∷ 32 ∷ 40 ∷ 114 ∷ 51 ∷ 46 ∷ 99 ∷ 104 ∷ 97 ∷ 110 ∷ 103 ∷ 101 ∷ 100 ∷ 41 ∷ 32 ∷ 61 ∷ 61 ∷ 32 ∷ 40 ∷ 105 ∷ 49 ∷ 41 ∷ 32 ∷ 125 ∷ 125 ∷ []) ≡ Some (comparison equal (path (variable (codes "r3")) ((codes "changed") ∷ [])) (path (variable (codes "i1")) ([])))
text_2347 = refl

text_2348 : template_of (123 ∷ 123 ∷ 32 ∷ 40 ∷ 114 ∷ 51 ∷ 46 ∷ 99 ∷ 104 ∷ 97 ∷ 110 ∷ 103 ∷ 101 ∷ 100 ∷ 41 ∷ 32 ∷ 61 ∷ 61 ∷ 32 ∷ 40 ∷ 114 ∷ 50 ∷ 41 ∷ 32 ∷ 125 ∷ 125 ∷ []) ≡ Some (comparison equal (path (variable (codes "r3")) ((codes "changed") ∷ [])) (path (variable (codes "r2")) ([])))
text_2348 = refl

text_2349 : template_of (123 ∷ 123 ∷ 32 ∷ 40 ∷ 114 ∷ 51 ∷ 46 ∷ 99 ∷ 104 ∷ 97 ∷ 110 ∷ 103 ∷ 101 ∷ 100 ∷ 41 ∷ 32 ∷ 61 ∷ 61 ∷ 32 ∷ 40 ∷ 114 ∷ 51 ∷ 41 ∷ 32 ∷ 125 ∷ 125 ∷ []) ≡ Some (comparison equal (path (variable (codes "r3")) ((codes "changed") ∷ [])) (path (variable (codes "r3")) ([])))
text_2349 = refl

text_2350 : template_of (123 ∷ 123 ∷ 32 ∷ 40 ∷ 114 ∷ 51 ∷ 46 ∷ 99 ∷ 104 ∷ 97 ∷ 110 ∷ 103 ∷ 101 ∷ 100 ∷ 41 ∷ 32 ∷ 61 ∷ 61 ∷ 32 ∷ 40 ∷ 114 ∷ 51 ∷ 46 ∷ 99 ∷ 104 ∷ 97 ∷ 110 ∷ 103 ∷ 101 ∷ 100 ∷ 41 ∷ 32 ∷ 125 ∷ 125 ∷ []) ≡ Some (comparison equal (path (variable (codes "r3")) ((codes "changed") ∷ [])) (path (variable (codes "r3")) ((codes "changed") ∷ [])))
text_2350 = refl

text_2351 : template_of (123 ∷ 123 ∷ 32 ∷ 40 ∷ 114 ∷ 51 ∷ 46 ∷ 99 ∷ 104 ∷ 97 ∷ 110 ∷ 103 ∷ 101 ∷ 100 ∷ 41 ∷ 32 ∷ 61 ∷ 61 ∷ 32 ∷ 40 ∷ 114 ∷ 51 ∷ 46 ∷ 102 ∷ 97 ∷ 105 ∷ 108 ∷ 101 ∷ 100 ∷ 41 ∷ 32 ∷ 125 ∷ 125 ∷ []) ≡ Some (comparison equal (path (variable (codes "r3")) ((codes "changed") ∷ [])) (path (variable (codes "r3")) ((codes "failed") ∷ [])))
text_2351 = refl

text_2352 : template_of (123 ∷ 123 ∷ 32 ∷ 40 ∷ 114 ∷ 51 ∷ 46 ∷ 99 ∷ 104 ∷ 97 ∷ 110 ∷ 103 ∷ 101 ∷ 100 ∷ 41 ∷ 32 ∷ 61 ∷ 61 ∷ 32 ∷ 40 ∷ 114 ∷ 51 ∷ 46 ∷ 115 ∷ 116 ∷ 97 ∷ 116 ∷ 46 ∷ 115 ∷ 105 ∷ 122 ∷ 101 ∷ 41 ∷ 32 ∷ 125 ∷ 125 ∷ []) ≡ Some (comparison equal (path (variable (codes "r3")) ((codes "changed") ∷ [])) (path (variable (codes "r3")) ((codes "stat") ∷ (codes "size") ∷ [])))
text_2352 = refl

text_2353 : template_of (123 ∷ 123 ∷ 32 ∷ 40 ∷ 114 ∷ 51 ∷ 46 ∷ 100 ∷ 101 ∷ 101 ∷ 112 ∷ 46 ∷ 98 ∷ 41 ∷ 32 ∷ 61 ∷ 61 ∷ 32 ∷ 40 ∷ 114 ∷ 50 ∷ 46 ∷ 102 ∷ 97 ∷ 105 ∷ 108 ∷ 101 ∷ 100 ∷ 41 ∷ 32 ∷ 125 ∷ 125 ∷ []) ≡ Some (comparison equal (path (variable (codes "r3")) ((codes "deep") ∷ (codes "b") ∷ [])) (path (variable (codes "r2")) ((codes "failed") ∷ [])))
text_2353 = refl

text_2354 : template_of (123 ∷ 123 ∷ 32 ∷ 40 ∷ 114 ∷ 51 ∷ 46 ∷ 102 ∷ 97 ∷ 105 ∷ 108 ∷ 101 ∷ 100 ∷ 41 ∷ 32 ∷ 61 ∷ 61 ∷ 32 ∷ 40 ∷ 105 ∷ 110 ∷ 118 ∷ 101 ∷ 110 ∷ 116 ∷ 111 ∷ 114 ∷ 121 ∷ 95 ∷ 104 ∷ 111 ∷ 115 ∷ 116 ∷ 110 ∷ 97 ∷ 109 ∷ 101 ∷ 41 ∷ 32 ∷ 125 ∷ 125 ∷ []) ≡ Some (comparison equal (path (variable (codes "r3")) ((codes "failed") ∷ [])) (path (variable (codes "inventory_hostname")) ([])))
text_2354 = refl

text_2355 : template_of (123 ∷ 123 ∷ 32 ∷ 40 ∷ 114 ∷ 51 ∷ 46 ∷ 102 ∷ 97 ∷ 105 ∷ 108 ∷ 101 ∷ 100 ∷ 41 ∷ 32 ∷ 61 ∷ 61 ∷ 32 ∷ 40 ∷ 114 ∷ 49 ∷ 46 ∷ 114 ∷ 101 ∷ 115 ∷ 117 ∷ 108 ∷ 116 ∷ 115 ∷ 41 ∷ 32 ∷ 125 ∷ 125 ∷ []) ≡ Some (comparison equal (path (variable (codes "r3")) ((codes "failed") ∷ [])) (path (variable (codes "r1")) ((codes "results") ∷ [])))
text_2355 = refl

text_2356 : template_of (123 ∷ 123 ∷ 32 ∷ 40 ∷ 114 ∷ 51 ∷ 46 ∷ 102 ∷ 97 ∷ 105 ∷ 108 ∷ 101 ∷ 100 ∷ 41 ∷ 32 ∷ 61 ∷ 61 ∷ 32 ∷ 40 ∷ 114 ∷ 50 ∷ 46 ∷ 99 ∷ 104 ∷ 97 ∷ 110 ∷ 103 ∷ 101 ∷ 100 ∷ 41 ∷ 32 ∷ 125 ∷ 125 ∷ []) ≡ Some (comparison equal (path (variable (codes "r3")) ((codes "failed") ∷ [])) (path (variable (codes "r2")) ((codes "changed") ∷ [])))
text_2356 = refl

text_2357 : template_of (123 ∷ 123 ∷ 32 ∷ 40 ∷ 114 ∷ 51 ∷ 46 ∷ 102 ∷ 97 ∷ 105 ∷ 108 ∷ 101 ∷ 100 ∷ 41 ∷ 32 ∷ 61 ∷ 61 ∷ 32 ∷ 40 ∷ 114 ∷ 51 ∷ 41 ∷ 32 ∷ 125 ∷ 125 ∷ []) ≡ Some (comparison equal (path (variable (codes "r3")) ((codes "failed") ∷ [])) (path (variable (codes "r3")) ([])))
text_2357 = refl

text_2358 : template_of (123 ∷ 123 ∷ 32 ∷ 40 ∷ 114 ∷ 51 ∷ 46 ∷ 102 ∷ 97 ∷ 105 ∷ 108 ∷ 101 ∷ 100 ∷ 41 ∷ 32 ∷ 61 ∷ 61 ∷ 32 ∷ 40 ∷ 114 ∷ 51 ∷ 46 ∷ 102 ∷ 97 ∷ 105 ∷ 108 ∷ 101 ∷ 100 ∷ 41 ∷ 32 ∷ 125 ∷ 125 ∷ []) ≡ Some (comparison equal (path (variable (codes "r3")) ((codes "failed") ∷ [])) (path (variable (codes "r3")) ((codes "failed") ∷ [])))
text_2358 = refl

text_2359 : template_of (123 ∷ 123 ∷ 32 ∷ 40 ∷ 114 ∷ 51 ∷ 46 ∷ 109 ∷ 115 ∷ 103 ∷ 41 ∷ 32 ∷ 61 ∷ 61 ∷ 32 ∷ 40 ∷ 104 ∷ 111 ∷ 115 ∷ 116 ∷ 118 ∷ 97 ∷ 114 ∷ 115 ∷ 91 ∷ 105 ∷ 110 ∷ 118 ∷ 101 ∷ 110 ∷ 116 ∷ 111 ∷ 114 ∷ 121 ∷ 95 ∷ 104 ∷ 111 ∷ 115 ∷ 116 ∷ 110 ∷ 97 ∷ 109 ∷ 101 ∷ 93 ∷ 46 ∷ 114 ∷ 50 ∷ 46 ∷ 99 ∷ 104 ∷ 97 ∷ 110 ∷ 103 ∷ 101 ∷ 100 ∷ 41 ∷ 32 ∷ 125 ∷ 125 ∷ []) ≡ Some (comparison equal (path (variable (codes "r3")) ((codes "msg") ∷ [])) (path (other this_host (codes "r2")) ((codes "changed") ∷ [])))
text_2359 = refl

text_2360 : template_of (123 ∷ 123 ∷ 32 ∷ 40 ∷ 114 ∷ 51 ∷ 46 ∷ 109 ∷ 115 ∷ 103 ∷ 41 ∷ 32 ∷ 61 ∷ 61 ∷ 32 ∷ 40 ∷ 104 ∷ 111 ∷ 115 ∷ 116 ∷ 118 ∷ 97 ∷ 114 ∷ 115 ∷ 91 ∷ 105 ∷ 110 ∷ 118 ∷ 101 ∷ 110 ∷ 116 ∷ 111 ∷ 114 ∷ 121 ∷ 95 ∷ 104 ∷ 111 ∷ 115 ∷ 116 ∷ 110 ∷ 97 ∷ 109 ∷ 101 ∷ 93 ∷ 46 ∷ 114 ∷ 51 ∷ 46 ∷ 109 ∷ 115 ∷ 103 ∷ 41 ∷ 32 ∷ 125 ∷ 125 ∷ []) ≡ Some (comparison equal (path (variable (codes "r3")) ((codes "msg") ∷ [])) (path (other this_host (codes "r3")) ((codes "msg") ∷ [])))
text_2360 = refl

text_2361 : template_of (123 ∷ 123 ∷ 32 ∷ 40 ∷ 114 ∷ 51 ∷ 46 ∷ 109 ∷ 115 ∷ 103 ∷ 41 ∷ 32 ∷ 61 ∷ 61 ∷ 32 ∷ 40 ∷ 114 ∷ 50 ∷ 46 ∷ 109 ∷ 115 ∷ 103 ∷ 41 ∷ 32 ∷ 125 ∷ 125 ∷ []) ≡ Some (comparison equal (path (variable (codes "r3")) ((codes "msg") ∷ [])) (path (variable (codes "r2")) ((codes "msg") ∷ [])))
text_2361 = refl

text_2362 : template_of (123 ∷ 123 ∷ 32 ∷ 40 ∷ 114 ∷ 51 ∷ 46 ∷ 109 ∷ 115 ∷ 103 ∷ 41 ∷ 32 ∷ 61 ∷ 61 ∷ 32 ∷ 40 ∷ 114 ∷ 51 ∷ 46 ∷ 115 ∷ 107 ∷ 105 ∷ 112 ∷ 95 ∷ 114 ∷ 101 ∷ 97 ∷ 115 ∷ 111 ∷ 110 ∷ 41 ∷ 32 ∷ 125 ∷ 125 ∷ []) ≡ Some (comparison equal (path (variable (codes "r3")) ((codes "msg") ∷ [])) (path (variable (codes "r3")) ((codes "skip_reason") ∷ [])))
text_2362 = refl

text_2363 : template_of (123 ∷ 123 ∷ 32 ∷ 40 ∷ 114 ∷ 51 ∷ 46 ∷ 114 ∷ 99 ∷ 41 ∷ 32 ∷ 61 ∷ 61 ∷ 32 ∷ 40 ∷ 114 ∷ 51 ∷ 46 ∷ 115 ∷ 116 ∷ 100 ∷ 111 ∷ 117 ∷ 116 ∷ 95 ∷ 108 ∷ 105 ∷ 110 ∷ 101 ∷ 115 ∷ 41 ∷ 32 ∷ 125 ∷ 125 ∷ []) ≡ Some (comparison equal (path (variable (codes "r3")) ((codes "rc") ∷ [])) (path (variable (codes "r3")) ((codes "stdout_lines") ∷ [])))
text_2363 = refl

text_2364 : template_of (123 ∷ 123 ∷ 32 ∷ 40 ∷ 114 ∷ 51 ∷ 46 ∷ 115 ∷ 107 ∷ 105 ∷ 112 ∷ 95 ∷ 114 ∷ 101 ∷ 97 ∷ 115 ∷ 111 ∷ 110 ∷ 41 ∷ 32 ∷ 61 ∷ 61 ∷ 32 ∷ 40 ∷ 103 ∷ 114 ∷ 111 ∷ 117 ∷ 112 ∷ 115 ∷ 46 ∷ 97 ∷ 108 ∷ 108 ∷ 41 ∷ 32 ∷ 125 ∷ 125 ∷ []) ≡ Some (comparison equal (path (variable (codes "r3")) ((codes "skip_reason") ∷ [])) (path (variable (codes "groups")) ((codes "all") ∷ [])))
text_2364 = refl

text_2365 : template_of (123 ∷ 123 ∷ 32 ∷ 40 ∷ 114 ∷ 51 ∷ 46 ∷ 115 ∷ 107 ∷ 105 ∷ 112 ∷ 112 ∷ 101 ∷ 100 ∷ 41 ∷ 32 ∷ 61 ∷ 61 ∷ 32 ∷ 40 ∷ 105 ∷ 49 ∷ 41 ∷ 32 ∷ 125 ∷ 125 ∷ []) ≡ Some (comparison equal (path (variable (codes "r3")) ((codes "skipped") ∷ [])) (path (variable (codes "i1")) ([])))
text_2365 = refl

text_2366 : template_of (123 ∷ 123 ∷ 32 ∷ 40 ∷ 114 ∷ 51 ∷ 46 ∷ 115 ∷ 116 ∷ 100 ∷ 111 ∷ 117 ∷ 116 ∷ 95 ∷ 108 ∷ 105 ∷ 110 ∷ 101 ∷ 115 ∷ 41 ∷ 32 ∷ 61 ∷ 61 ∷ 32 ∷ 40 ∷ 104 ∷ 111 ∷ 115 ∷ 116 ∷ 118 ∷ 97 ∷ 114 ∷ 115 ∷ 91 ∷ 105 ∷ 110 ∷ 118 ∷ 101 ∷ 110 ∷ 116 ∷ 111 ∷ 114 ∷ 121 ∷ 95 ∷ 104 ∷ 111 ∷ 115 ∷ 116 ∷ 110 ∷ 97 ∷ 109 ∷ 101 ∷ 93 ∷ 46 ∷ 105 ∷ 50 ∷ 41 ∷ 32 ∷ 125 ∷ 125 ∷ []) ≡ Some (comparison equal (path (variable (codes "r3")) ((codes "stdout_lines") ∷ [])) (path (other this_host (codes "i2")) ([])))
text_2366 = refl

text_2367 : template_of (123 ∷ 123 ∷ 32 ∷ 40 ∷ 115 ∷ 46 ∷ 99 ∷ 104 ∷ 97 ∷ 110 ∷ 103 ∷ 101 ∷ 100 ∷ 32 ∷ 105 ∷ 115 ∷ 32 ∷ 110 ∷ 111 ∷ 116 ∷ 32 ∷ 115 ∷ 107 ∷ 105 ∷ 112 ∷ 112 ∷ 101 ∷ 100 ∷ 41 ∷ 32 ∷ 111 ∷ 114 ∷ 32 ∷ 40 ∷ 121 ∷ 32 ∷ 61 ∷ 61 ∷ 32 ∷ 49 ∷ 41 ∷ 32 ∷ 125 ∷ 125 ∷ []) ≡ Some (disjunction (expression (negation (path_status is_skipped (variable (codes "s")) ((codes "changed") ∷ []))) (expression (comparison equal (path (variable (codes "y")) ([])) (literal (int (pos 1)))) (no_expressions))))
text_2367 = refl

text_2368 : template_of (123 ∷ 123 ∷ 32 ∷ 40 ∷ 115 ∷ 46 ∷ 115 ∷ 116 ∷ 100 ∷ 111 ∷ 117 ∷ 116 ∷ 41 ∷ 32 ∷ 111 ∷ 114 ∷ 32 ∷ 40 ∷ 103 ∷ 114 ∷ 111 ∷ 117 ∷ 112 ∷ 95 ∷ 110 ∷ 97 ∷ 109 ∷ 101 ∷ 115 ∷ 32 ∷ 105 ∷ 115 ∷ 32 ∷ 115 ∷ 107 ∷ 105 ∷ 112 ∷ 112 ∷ 101 ∷ 100 ∷ 41 ∷ 32 ∷ 125 ∷ 125 ∷ []) ≡ Some (disjunction (expression (path (variable (codes "s")) ((codes "stdout") ∷ [])) (expression (path_status is_skipped (variable (codes "group_names")) ([])) (no_expressions))))
text_2368 = refl

text_2369 : template_of (123 ∷ 123 ∷ 32 ∷ 40 ∷ 115 ∷ 46 ∷ 115 ∷ 116 ∷ 100 ∷ 111 ∷ 117 ∷ 116 ∷ 95 ∷ 108 ∷ 105 ∷ 110 ∷ 101 ∷ 115 ∷ 32 ∷ 105 ∷ 115 ∷ 32 ∷ 115 ∷ 107 ∷ 105 ∷ 112 ∷ 112 ∷ 101 ∷ 100 ∷ 41 ∷ 32 ∷ 111 ∷ 114 ∷ 32 ∷ 40 ∷ 97 ∷ 110 ∷ 115 ∷ 105 ∷ 98 ∷ 108 ∷ 101 ∷ 95 ∷ 102 ∷ 97 ∷ 99 ∷ 116 ∷ 115 ∷ 46 ∷ 104 ∷ 111 ∷ 115 ∷ 116 ∷ 110 ∷ 97 ∷ 109 ∷ 101 ∷ 32 ∷ 105 ∷ 115 ∷ 32 ∷ 110 ∷ 111 ∷ 116 ∷ 32 ∷ 100 ∷ 101 ∷ 102 ∷ 105 ∷ 110 ∷ 101 ∷ 100 ∷ 41 ∷ 32 ∷ 125 ∷ 125 ∷ []) ≡ Some (disjunction (expression (path_status is_skipped (variable (codes "s")) ((codes "stdout_lines") ∷ [])) (expression (negation (defined (variable (codes "ansible_facts")) ((codes "hostname") ∷ []))) (no_expressions))))
text_2369 = refl

text_2370 : template_of (123 ∷ 123 ∷ 32 ∷ 40 ∷ 115 ∷ 49 ∷ 41 ∷ 32 ∷ 61 ∷ 61 ∷ 32 ∷ 40 ∷ 97 ∷ 110 ∷ 115 ∷ 105 ∷ 98 ∷ 108 ∷ 101 ∷ 95 ∷ 102 ∷ 97 ∷ 105 ∷ 108 ∷ 101 ∷ 100 ∷ 95 ∷ 114 ∷ 101 ∷ 115 ∷ 117 ∷ 108 ∷ 116 ∷ 46 ∷ 109 ∷ 115 ∷ 103 ∷ 41 ∷ 32 ∷ 125 ∷ 125 ∷ []) ≡ Some (comparison equal (path (variable (codes "s1")) ([])) (path (variable (codes "ansible_failed_result")) ((codes "msg") ∷ [])))
text_2370 = refl

text_2371 : template_of (123 ∷ 123 ∷ 32 ∷ 40 ∷ 115 ∷ 49 ∷ 41 ∷ 32 ∷ 61 ∷ 61 ∷ 32 ∷ 40 ∷ 97 ∷ 110 ∷ 115 ∷ 105 ∷ 98 ∷ 108 ∷ 101 ∷ 95 ∷ 111 ∷ 115 ∷ 95 ∷ 102 ∷ 97 ∷ 109 ∷ 105 ∷ 108 ∷ 121 ∷ 41 ∷ 32 ∷ 125 ∷ 125 ∷ []) ≡ Some (comparison equal (path (variable (codes "s1")) ([])) (path (variable (codes "ansible_os_family")) ([])))
text_2371 = refl

text_2372 : template_of (123 ∷ 123 ∷ 32 ∷ 40 ∷ 115 ∷ 49 ∷ 41 ∷ 32 ∷ 61 ∷ 61 ∷ 32 ∷ 40 ∷ 103 ∷ 114 ∷ 111 ∷ 117 ∷ 112 ∷ 115 ∷ 46 ∷ 97 ∷ 108 ∷ 108 ∷ 41 ∷ 32 ∷ 125 ∷ 125 ∷ []) ≡ Some (comparison equal (path (variable (codes "s1")) ([])) (path (variable (codes "groups")) ((codes "all") ∷ [])))
text_2372 = refl

text_2373 : template_of (123 ∷ 123 ∷ 32 ∷ 40 ∷ 115 ∷ 49 ∷ 41 ∷ 32 ∷ 61 ∷ 61 ∷ 32 ∷ 40 ∷ 104 ∷ 111 ∷ 115 ∷ 116 ∷ 118 ∷ 97 ∷ 114 ∷ 115 ∷ 91 ∷ 105 ∷ 110 ∷ 118 ∷ 101 ∷ 110 ∷ 116 ∷ 111 ∷ 114 ∷ 121 ∷ 95 ∷ 104 ∷ 111 ∷ 115 ∷ 116 ∷ 110 ∷ 97 ∷ 109 ∷ 101 ∷ 93 ∷ 46 ∷ 114 ∷ 51 ∷ 46 ∷ 99 ∷ 104 ∷ 97 ∷ 110 ∷ 103 ∷ 101 ∷ 100 ∷ 41 ∷ 32 ∷ 125 ∷ 125 ∷ []) ≡ Some (comparison equal (path (variable (codes "s1")) ([])) (path (other this_host (codes "r3")) ((codes "changed") ∷ [])))
text_2373 = refl

text_2374 : template_of (123 ∷ 123 ∷ 32 ∷ 40 ∷ 115 ∷ 49 ∷ 41 ∷ 32 ∷ 61 ∷ 61 ∷ 32 ∷ 40 ∷ 111 ∷ 112 ∷ 41 ∷ 32 ∷ 125 ∷ 125 ∷ []) ≡ Some (comparison equal (path (variable (codes "s1")) ([])) (path (variable (codes "op")) ([])))
text_2374 = refl

text_2375 : template_of (123 ∷ 123 ∷ 32 ∷ 40 ∷ 115 ∷ 49 ∷ 41 ∷ 32 ∷ 61 ∷ 61 ∷ 32 ∷ 40 ∷ 114 ∷ 49 ∷ 46 ∷ 99 ∷ 104 ∷ 97 ∷ 110 ∷ 103 ∷ 101 ∷ 100 ∷ 41 ∷ 32 ∷ 125 ∷ 125 ∷ []) ≡ Some (comparison equal (path (variable (codes "s1")) ([])) (path (variable (codes "r1")) ((codes "changed") ∷ [])))
text_2375 = refl

text_2376 : template_of (123 ∷ 123 ∷ 32 ∷ 40 ∷ 115 ∷ 49 ∷ 41 ∷ 32 ∷ 61 ∷ 61 ∷ 32 ∷ 40 ∷ 114 ∷ 49 ∷ 46 ∷ 102 ∷ 97 ∷ 105 ∷ 108 ∷ 101 ∷ 100 ∷ 41 ∷ 32 ∷ 125 ∷ 125 ∷ []) ≡ Some (comparison equal (path (variable (codes "s1")) ([])) (path (variable (codes "r1")) ((codes "failed") ∷ [])))
text_2376 = refl

text_2377 : template_of (123 ∷ 123 ∷ 32 ∷ 40 ∷ 115 ∷ 49 ∷ 41 ∷ 32 ∷ 61 ∷ 61 ∷ 32 ∷ 40 ∷ 114 ∷ 50 ∷ 41 ∷ 32 ∷ 125 ∷ 125 ∷ []) ≡ Some (comparison equal (path (variable (codes "s1")) ([])) (path (variable (codes "r2")) ([])))
text_2377 = refl

text_2378 : template_of (123 ∷ 123 ∷ 32 ∷ 40 ∷ 115 ∷ 49 ∷ 41 ∷ 32 ∷ 61 ∷ 61 ∷ 32 ∷ 40 ∷ 114 ∷ 51 ∷ 46 ∷ 99 ∷ 104 ∷ 97 ∷ 110 ∷ 103 ∷ 101 ∷ 100 ∷ 41 ∷ 32 ∷ 125 ∷ 125 ∷ []) ≡ Some (comparison equal (path (variable (codes "s1")) ([])) (path (variable (codes "r3")) ((codes "changed") ∷ [])))
text_2378 = refl

text_2379 : template_of (123 ∷ 123 ∷ 32 ∷ 40 ∷ 115 ∷ 49 ∷ 41 ∷ 32 ∷ 61 ∷ 61 ∷ 32 ∷ 40 ∷ 114 ∷ 51 ∷ 46 ∷ 102 ∷ 97 ∷ 105 ∷ 108 ∷ 101 ∷ 100 ∷ 41 ∷ 32 ∷ 125 ∷ 125 ∷ []) ≡ Some (comparison equal (path (variable (codes "s1")) ([])) (path (variable (codes "r3")) ((codes "failed") ∷ [])))
text_2379 = refl

text_2380 : template_of (123 ∷ 123 ∷ 32 ∷ 40 ∷ 115 ∷ 49 ∷ 41 ∷ 32 ∷ 61 ∷ 61 ∷ 32 ∷ 40 ∷ 115 ∷ 49 ∷ 41 ∷ 32 ∷ 125 ∷ 125 ∷ []) ≡ Some (comparison equal (path (variable (codes "s1")) ([])) (path (variable (codes "s1")) ([])))
text_2380 = refl

text_2381 : template_of (123 ∷ 123 ∷ 32 ∷ 40 ∷ 115 ∷ 49 ∷ 41 ∷ 32 ∷ 61 ∷ 61 ∷ 32 ∷ 40 ∷ 115 ∷ 50 ∷ 41 ∷ 32 ∷ 125 ∷ 125 ∷ []) ≡ Some (comparison equal (path (variable (codes "s1")) ([])) (path (variable (codes "s2")) ([])))
text_2381 = refl

text_2382 : template_of (123 ∷ 123 ∷ 32 ∷ 40 ∷ 115 ∷ 49 ∷ 41 ∷ 32 ∷ 125 ∷ 125 ∷ []) ≡ Some (path (variable (codes "s1")) ([]))
text_2382 = refl

text_2383 : template_of (123 ∷ 123 ∷ 32 ∷ 40 ∷ 115 ∷ 49 ∷ 46 ∷ 114 ∷ 99 ∷ 41 ∷ 32 ∷ 61 ∷ 61 ∷ 32 ∷ 40 ∷ 104 ∷ 111 ∷ 115 ∷ 116 ∷ 118 ∷ 97 ∷ 114 ∷ 115 ∷ 91 ∷ 105 ∷ 110 ∷ 118 ∷ 101 ∷ 110 ∷ 116 ∷ 111 ∷ 114 ∷ 121 ∷ 95 ∷ 104 ∷ 111 ∷ 115 ∷ 116 ∷ 110 ∷ 97 ∷ 109 ∷ 101 ∷ 93 ∷ 46 ∷ 114 ∷ 49 ∷ 41 ∷ 32 ∷ 125 ∷ 125 ∷ []) ≡ Some (comparison equal (path (variable (codes "s1")) ((codes "rc") ∷ [])) (path (other this_host (codes "r1")) ([])))
text_2383 = refl

text_2384 : template_of (123 ∷ 123 ∷ 32 ∷ 40 ∷ 115 ∷ 50 ∷ 41 ∷ 32 ∷ 61 ∷ 61 ∷ 32 ∷ 40 ∷ 114 ∷ 49 ∷ 46 ∷ 102 ∷ 97 ∷ 105 ∷ 108 ∷ 101 ∷ 100 ∷ 41 ∷ 32 ∷ 125 ∷ 125 ∷ []) ≡ Some (comparison equal (path (variable (codes "s2")) ([])) (path (variable (codes "r1")) ((codes "failed") ∷ [])))
text_2384 = refl

text_2385 : template_of (123 ∷ 123 ∷ 32 ∷ 40 ∷ 115 ∷ 50 ∷ 41 ∷ 32 ∷ 61 ∷ 61 ∷ 32 ∷ 40 ∷ 115 ∷ 49 ∷ 46 ∷ 115 ∷ 116 ∷ 100 ∷ 111 ∷ 117 ∷ 116 ∷ 41 ∷ 32 ∷ 125 ∷ 125 ∷ []) ≡ Some (comparison equal (path (variable (codes "s2")) ([])) (path (variable (codes "s1")) ((codes "stdout") ∷ [])))
text_2385 = refl

text_2386 : template_of (123 ∷ 123 ∷ 32 ∷ 40 ∷ 115 ∷ 50 ∷ 46 ∷ 102 ∷ 41 ∷ 32 ∷ 61 ∷ 61 ∷ 32 ∷ 40 ∷ 114 ∷ 51 ∷ 46 ∷ 99 ∷ 104 ∷ 97 ∷ 110 ∷ 103 ∷ 101 ∷ 100 ∷ 41 ∷ 32 ∷ 125 ∷ 125 ∷ []) ≡ Some (comparison equal (path (variable (codes "s2")) ((codes "f") ∷ [])) (path (variable (codes "r3")) ((codes "changed") ∷ [])))
text_2386 = refl

text_2387 : template_of (123 ∷ 123 ∷ 32 ∷ 40 ∷ 115 ∷ 51 ∷ 32 ∷ 111 ∷ 114 ∷ 32 ∷ 116 ∷ 114 ∷ 117 ∷ 101 ∷ 41 ∷ 32 ∷ 111 ∷ 114 ∷ 32 ∷ 114 ∷ 49 ∷ 46 ∷ 99 ∷ 104 ∷ 97 ∷ 110 ∷ 103 ∷ 101 ∷ 100 ∷ 32 ∷ 125 ∷ 125 ∷ []) ≡ Some (disjunction (expression (disjunction (expression (path (variable (codes "s3")) ([])) (expression (literal (boolean true)) (no_expressions)))) (expression (path (variable (codes "r1")) ((codes "changed") ∷ [])) (no_expressions))))
text_2387 = refl

text_2388 : template_of (123 ∷ 123 ∷ 32 ∷ 40 ∷ 115 ∷ 51 ∷ 41 ∷ 32 ∷ 61 ∷ 61 ∷ 32 ∷ 40 ∷ 105 ∷ 110 ∷ 118 ∷ 101 ∷ 110 ∷ 116 ∷ 111 ∷ 114 ∷ 121 ∷ 95 ∷ 104 ∷ 111 ∷ 115 ∷ 116 ∷ 110 ∷ 97 ∷ 109 ∷ 101 ∷ 41 ∷ 32 ∷ 125 ∷ 125 ∷ []) ≡ Some (comparison equal (path (variable (codes "s3")) ([])) (path (variable (codes "inventory_hostname")) ([])))
text_2388 = refl

text_2389 : template_of (123 ∷ 123 ∷ 32 ∷ 40 ∷ 115 ∷ 51 ∷ 41 ∷ 32 ∷ 61 ∷ 61 ∷ 32 ∷ 40 ∷ 111 ∷ 112 ∷ 41 ∷ 32 ∷ 125 ∷ 125 ∷ []) ≡ Some (comparison equal (path (variable (codes "s3")) ([])) (path (variable (codes "op")) ([])))
text_2389 = refl

text_2390 : template_of (123 ∷ 123 ∷ 32 ∷ 40 ∷ 115 ∷ 51 ∷ 41 ∷ 32 ∷ 61 ∷ 61 ∷ 32 ∷ 40 ∷ 114 ∷ 49 ∷ 46 ∷ 102 ∷ 97 ∷ 105 ∷ 108 ∷ 101 ∷ 100 ∷ 41 ∷ 32 ∷ 125 ∷ 125 ∷ []) ≡ Some (comparison equal (path (variable (codes "s3")) ([])) (path (variable (codes "r1")) ((codes "failed") ∷ [])))
text_2390 = refl

text_2391 : template_of (123 ∷ 123 ∷ 32 ∷ 40 ∷ 115 ∷ 51 ∷ 41 ∷ 32 ∷ 61 ∷ 61 ∷ 32 ∷ 40 ∷ 114 ∷ 50 ∷ 46 ∷ 102 ∷ 97 ∷ 105 ∷ 108 ∷ 101 ∷ 100 ∷ 41 ∷ 32 ∷ 125 ∷ 125 ∷ []) ≡ Some (comparison equal (path (variable (codes "s3")) ([])) (path (variable (codes "r2")) ((codes "failed") ∷ [])))
text_2391 = refl

text_2392 : template_of (123 ∷ 123 ∷ 32 ∷ 40 ∷ 115 ∷ 51 ∷ 41 ∷ 32 ∷ 61 ∷ 61 ∷ 32 ∷ 40 ∷ 118 ∷ 49 ∷ 41 ∷ 32 ∷ 125 ∷ 125 ∷ []) ≡ Some (comparison equal (path (variable (codes "s3")) ([])) (path (variable (codes "v1")) ([])))
text_2392 = refl

text_2393 : template_of (123 ∷ 123 ∷ 32 ∷ 40 ∷ 115 ∷ 51 ∷ 46 ∷ 115 ∷ 116 ∷ 100 ∷ 111 ∷ 117 ∷ 116 ∷ 41 ∷ 32 ∷ 61 ∷ 61 ∷ 32 ∷ 40 ∷ 114 ∷ 49 ∷ 46 ∷ 102 ∷ 97 ∷ 105 ∷ 108 ∷ 101 ∷ 100 ∷ 41 ∷ 32 ∷ 125 ∷ 125 ∷ []) ≡ Some (comparison equal (path (variable (codes "s3")) ((codes "stdout") ∷ [])) (path (variable (codes "r1")) ((codes "failed") ∷ [])))
text_2393 = refl

text_2394 : template_of (123 ∷ 123 ∷ 32 ∷ 40 ∷ 118 ∷ 50 ∷ 41 ∷ 32 ∷ 61 ∷ 61 ∷ 32 ∷ 40 ∷ 115 ∷ 49 ∷ 41 ∷ 32 ∷ 125 ∷ 125 ∷ []) ≡ Some (comparison equal (path (variable (codes "v2")) ([])) (path (variable (codes "s1")) ([])))
text_2394 = refl

text_2395 : template_of (123 ∷ 123 ∷ 32 ∷ 40 ∷ 122 ∷ 122 ∷ 41 ∷ 32 ∷ 124 ∷ 32 ∷ 100 ∷ 101 ∷ 102 ∷ 97 ∷ 117 ∷ 108 ∷ 116 ∷ 40 ∷ 49 ∷ 41 ∷ 32 ∷ 125 ∷ 125 ∷ []) ≡ Some (path_or (variable (codes "zz")) ([]) (literal (int (pos 1))))
text_2395 = refl

text_2396 : template_of (123 ∷ 123 ∷ 32 ∷ 45 ∷ 51 ∷ 32 ∷ 125 ∷ 125 ∷ []) ≡ Some (literal (int (negsuc 2)))
text_2396 = refl

text_2397 : template_of (123 ∷ 123 ∷ 32 ∷ 48 ∷ 32 ∷ 125 ∷ 125 ∷ []) ≡ Some (literal (int (pos 0)))
text_2397 = refl

text_2398 : template_of (123 ∷ 123 ∷ 32 ∷ 49 ∷ 32 ∷ 37 ∷ 125 ∷ []) ≡ None
text_2398 = refl

text_2399 : template_of (123 ∷ 123 ∷ 32 ∷ 49 ∷ 32 ∷ 61 ∷ 61 ∷ 32 ∷ 49 ∷ 32 ∷ 125 ∷ 125 ∷ []) ≡ Some (comparison equal (literal (int (pos 1))) (literal (int (pos 1))))
text_2399 = refl

text_2400 : template_of (123 ∷ 123 ∷ 32 ∷ 49 ∷ 32 ∷ 61 ∷ 61 ∷ 32 ∷ 84 ∷ 114 ∷ 117 ∷ 101 ∷ 32 ∷ 125 ∷ 125 ∷ []) ≡ Some (comparison equal (literal (int (pos 1))) (literal (boolean true)))
text_2400 = refl

text_2401 : template_of (123 ∷ 123 ∷ 32 ∷ 49 ∷ 32 ∷ 97 ∷ 110 ∷ 100 ∷ 32 ∷ 114 ∷ 49 ∷ 46 ∷ 102 ∷ 32 ∷ 125 ∷ 125 ∷ []) ≡ Some (conjunction (expression (literal (int (pos 1))) (expression (path (variable (codes "r1")) ((codes "f") ∷ [])) (no_expressions))))
text_2401 = refl

text_2402 : template_of (123 ∷ 123 ∷ 32 ∷ 49 ∷ 32 ∷ 123 ∷ 35 ∷ 32 ∷ 125 ∷ 125 ∷ []) ≡ None
text_2402 = refl

text_2403 : template_of (123 ∷ 123 ∷ 32 ∷ 49 ∷ 32 ∷ 124 ∷ 32 ∷ 100 ∷ 101 ∷ 102 ∷ 97 ∷ 117 ∷ 108 ∷ 116 ∷ 40 ∷ 122 ∷ 122 ∷ 41 ∷ 32 ∷ 125 ∷ 125 ∷ []) ≡ Some (value_or (literal (int (pos 1))) (path (variable (codes "zz")) ([])))
text_2403 = refl

text_2404 : template_of (123 ∷ 123 ∷ 32 ∷ 49 ∷ 32 ∷ 125 ∷ []) ≡ None
text_2404 = refl

text_2405 : template_of (123 ∷ 123 ∷ 32 ∷ 49 ∷ 32 ∷ 125 ∷ 125 ∷ []) ≡ Some (literal (int (pos 1)))
text_2405 = refl

text_2406 : template_of (123 ∷ 123 ∷ 32 ∷ 49 ∷ 32 ∷ 125 ∷ 125 ∷ 32 ∷ 123 ∷ 123 ∷ 32 ∷ 116 ∷ 114 ∷ 117 ∷ 101 ∷ 32 ∷ 125 ∷ 125 ∷ []) ≡ Some (concatenation (expression (literal (int (pos 1))) (expression (literal (text (codes " "))) (expression (literal (boolean true)) (no_expressions)))))
text_2406 = refl

text_2407 : template_of (123 ∷ 123 ∷ 32 ∷ 49 ∷ 32 ∷ 125 ∷ 125 ∷ 123 ∷ 37 ∷ []) ≡ None
text_2407 = refl

text_2408 : template_of (123 ∷ 123 ∷ 32 ∷ 49 ∷ 32 ∷ 125 ∷ 125 ∷ 125 ∷ []) ≡ Some (concatenation (expression (literal (int (pos 1))) (expression (literal (text (125 ∷ []))) (no_expressions))))
text_2408 = refl

text_2409 : template_of (123 ∷ 123 ∷ 32 ∷ 53 ∷ 32 ∷ 125 ∷ 125 ∷ []) ≡ Some (literal (int (pos 5)))
text_2409 = refl

text_2410 : template_of (123 ∷ 123 ∷ 32 ∷ 57 ∷ 50 ∷ 50 ∷ 51 ∷ 51 ∷ 55 ∷ 50 ∷ 48 ∷ 51 ∷ 54 ∷ 56 ∷ 53 ∷ 52 ∷ 55 ∷ 55 ∷ 53 ∷ 56 ∷ 48 ∷ 55 ∷ 32 ∷ 33 ∷ 61 ∷ 32 ∷ 110 ∷ 111 ∷ 112 ∷ 101 ∷ 32 ∷ 125 ∷ 125 ∷ []) ≡ Some (negation (comparison equal (literal (int (pos 9223372036854775807))) (path (variable (codes "nope")) ([]))))
text_2410 = refl

text_2411 : template_of (123 ∷ 123 ∷ 32 ∷ 57 ∷ 50 ∷ 50 ∷ 51 ∷ 51 ∷ 55 ∷ 50 ∷ 48 ∷ 51 ∷ 54 ∷ 56 ∷ 53 ∷ 52 ∷ 55 ∷ 55 ∷ 53 ∷ 56 ∷ 48 ∷ 55 ∷ 32 ∷ 125 ∷ 125 ∷ []) ≡ Some (literal (int (pos 9223372036854775807)))
text_2411 = refl

text_2412 : template_of (123 ∷ 123 ∷ 32 ∷ 70 ∷ 97 ∷ 108 ∷ 115 ∷ 101 ∷ 32 ∷ 97 ∷ 110 ∷ 100 ∷ 32 ∷ 48 ∷ 32 ∷ 61 ∷ 61 ∷ 32 ∷ 102 ∷ 97 ∷ 108 ∷ 115 ∷ 101 ∷ 32 ∷ 125 ∷ 125 ∷ []) ≡ Some (conjunction (expression (literal (boolean false)) (expression (comparison equal (literal (int (pos 0))) (literal (boolean false))) (no_expressions))))
text_2412 = refl

text_2413 : template_of (123 ∷ 123 ∷ 32 ∷ 70 ∷ 97 ∷ 108 ∷ 115 ∷ 101 ∷ 32 ∷ 97 ∷ 110 ∷ 100 ∷ 32 ∷ 70 ∷ 97 ∷ 108 ∷ 115 ∷ 101 ∷ 32 ∷ 61 ∷ 61 ∷ 32 ∷ 45 ∷ 51 ∷ 32 ∷ 125 ∷ 125 ∷ []) ≡ Some (conjunction (expression (literal (boolean false)) (expression (comparison equal (literal (boolean false)) (literal (int (negsuc 2)))) (no_expressions))))
text_2413 = refl

text_2414 : template_of (123 ∷ 123 ∷ 32 ∷ 70 ∷ 97 ∷ 108 ∷ 115 ∷ 101 ∷ 32 ∷ 125 ∷ 125 ∷ []) ≡ Some (literal (boolean false))
text_2414 = refl

text_2415 : template_of (123 ∷ 123 ∷ 32 ∷ 84 ∷ 114 ∷ 117 ∷ 101 ∷ 32 ∷ 125 ∷ 125 ∷ []) ≡ Some (literal (boolean true))
text_2415 = refl

text_2416 : template_of (123 ∷ 123 ∷ 32 ∷ 91 ∷ 49 ∷ 44 ∷ 32 ∷ 50 ∷ 93 ∷ 32 ∷ 124 ∷ 32 ∷ 106 ∷ 111 ∷ 105 ∷ 110 ∷ 32 ∷ 125 ∷ 125 ∷ []) ≡ Some (joined_by (list_of (expression (literal (int (pos 1))) (expression (literal (int (pos 2))) (no_expressions)))) (literal (text [])))
text_2416 = refl

text_2417 : template_of (123 ∷ 123 ∷ 32 ∷ 91 ∷ 49 ∷ 44 ∷ 32 ∷ 50 ∷ 93 ∷ 32 ∷ 125 ∷ 125 ∷ []) ≡ Some (list_of (expression (literal (int (pos 1))) (expression (literal (int (pos 2))) (no_expressions))))
text_2417 = refl

text_2418 : template_of (123 ∷ 123 ∷ 32 ∷ 91 ∷ 49 ∷ 93 ∷ []) ≡ None
text_2418 = refl

text_2419 : template_of (123 ∷ 123 ∷ 32 ∷ 91 ∷ 49 ∷ 93 ∷ 32 ∷ 124 ∷ 32 ∷ 106 ∷ 111 ∷ 105 ∷ 110 ∷ 40 ∷ 122 ∷ 122 ∷ 41 ∷ 32 ∷ 125 ∷ 125 ∷ []) ≡ Some (joined_by (list_of (expression (literal (int (pos 1))) (no_expressions))) (path (variable (codes "zz")) ([])))
text_2419 = refl

text_2420 : template_of (123 ∷ 123 ∷ 32 ∷ 91 ∷ 49 ∷ 93 ∷ 32 ∷ 125 ∷ 125 ∷ []) ≡ Some (list_of (expression (literal (int (pos 1))) (no_expressions)))
text_2420 = refl

text_2421 : template_of (123 ∷ 123 ∷ 32 ∷ 91 ∷ 49 ∷ 93 ∷ 32 ∷ 125 ∷ 125 ∷ 32 ∷ 123 ∷ 123 ∷ 32 ∷ 122 ∷ 122 ∷ 32 ∷ 125 ∷ 125 ∷ []) ≡ Some (concatenation (expression (list_of (expression (literal (int (pos 1))) (no_expressions))) (expression (literal (text (codes " "))) (expression (path (variable (codes "zz")) ([])) (no_expressions)))))
text_2421 = refl

text_2422 : template_of (123 ∷ 123 ∷ 32 ∷ 91 ∷ 49 ∷ 93 ∷ 32 ∷ 125 ∷ 125 ∷ 123 ∷ 123 ∷ 32 ∷ 91 ∷ 50 ∷ 93 ∷ 32 ∷ 125 ∷ 125 ∷ []) ≡ Some (concatenation (expression (list_of (expression (literal (int (pos 1))) (no_expressions))) (expression (list_of (expression (literal (int (pos 2))) (no_expressions))) (no_expressions))))
text_2422 = refl

text_2423 : template_of (123 ∷ 123 ∷ 32 ∷ 91 ∷ 97 ∷ 110 ∷ 115 ∷ 105 ∷ 98 ∷ 108 ∷ 101 ∷ 95 ∷ 102 ∷ 97 ∷ 99 ∷ 116 ∷ 115 ∷ 44 ∷ 32 ∷ 97 ∷ 110 ∷ 115 ∷ 105 ∷ 98 ∷ 108 ∷ 101 ∷ 95 ∷ 102 ∷ 97 ∷ 99 ∷ 116 ∷ 115 ∷ 93 ∷ 32 ∷ 125 ∷ 125 ∷ []) ≡ Some (list_of (expression (path (variable (codes "ansible_facts")) ([])) (expression (path (variable (codes "ansible_facts")) ([])) (no_expressions))))
text_2423 = refl

text_2424 : template_of (123 ∷ 123 ∷ 32 ∷ 91 ∷ 97 ∷ 110 ∷ 115 ∷ 105 ∷ 98 ∷ 108 ∷ 101 ∷ 95 ∷ 102 ∷ 97 ∷ 99 ∷ 116 ∷ 115 ∷ 46 ∷ 104 ∷ 111 ∷ 115 ∷ 116 ∷ 110 ∷ 97 ∷ 109 ∷ 101 ∷ 44 ∷ 32 ∷ 49 ∷ 93 ∷ 32 ∷ 125 ∷ 125 ∷ []) ≡ Some (list_of (expression (path (variable (codes "ansible_facts")) ((codes "hostname") ∷ [])) (expression (literal (int (pos 1))) (no_expressions))))
text_2424 = refl

text_2425 : template_of (123 ∷ 123 ∷ 32 ∷ 91 ∷ 97 ∷ 110 ∷ 115 ∷ 105 ∷ 98 ∷ 108 ∷ 101 ∷ 95 ∷ 111 ∷ 115 ∷ 95 ∷ 102 ∷ 97 ∷ 109 ∷ 105 ∷ 108 ∷ 121 ∷ 44 ∷ 32 ∷ 49 ∷ 93 ∷ 32 ∷ 125 ∷ 125 ∷ []) ≡ Some (list_of (expression (path (variable (codes "ansible_os_family")) ([])) (expression (literal (int (pos 1))) (no_expressions))))
text_2425 = refl

text_2426 : template_of (123 ∷ 123 ∷ 32 ∷ 91 ∷ 97 ∷ 110 ∷ 115 ∷ 105 ∷ 98 ∷ 108 ∷ 101 ∷ 95 ∷ 111 ∷ 115 ∷ 95 ∷ 102 ∷ 97 ∷ 109 ∷ 105 ∷ 108 ∷ 121 ∷ 44 ∷ 32 ∷ 97 ∷ 110 ∷ 115 ∷ 105 ∷ 98 ∷ 108 ∷ 101 ∷ 95 ∷ 111 ∷ 115 ∷ 95 ∷ 102 ∷ 97 ∷ 109 ∷ 105 ∷ 108 ∷ 121 ∷ 93 ∷ 32 ∷ 125 ∷ 125 ∷ []) ≡ Some (list_of (expression (path (variable (codes "ansible_os_family")) ([])) (expression (path (variable (codes "ansible_os_family")) ([])) (no_expressions))))
text_2426 = refl

text_2427 : template_of (123 ∷ 123 ∷ 32 ∷ 91 ∷ 97 ∷ 110 ∷ 115 ∷ 105 ∷ 98 ∷ 108 ∷ 101 ∷ 95 ∷ 112 ∷ 108 ∷ 97 ∷ 121 ∷ 95 ∷ 98 ∷ 97 ∷ 116 ∷ 99 ∷ 104 ∷ 44 ∷ 32 ∷ 49 ∷ 93 ∷ 32 ∷ 125 ∷ 125 ∷ []) ≡ Some (list_of (expression (path (variable (codes "ansible_play_batch")) ([])) (expression (literal (int (pos 1))) (no_expressions))))
text_2427 = refl

text_2428 : template_of (123 ∷ 123 ∷ 32 ∷ 91 ∷ 97 ∷ 110 ∷ 115 ∷ 105 ∷ 98 ∷ 108 ∷ 101 ∷ 95 ∷ 112 ∷ 108 ∷ 97 ∷ 121 ∷ 95 ∷ 98 ∷ 97 ∷ 116 ∷ 99 ∷ 104 ∷ 44 ∷ 32 ∷ 97 ∷ 110 ∷ 115 ∷ 105 ∷ 98 ∷ 108 ∷ 101 ∷ 95 ∷ 112 ∷ 108 ∷ 97 ∷ 121 ∷ 95 ∷ 98 ∷ 97 ∷ 116 ∷ 99 ∷ 104 ∷ 93 ∷ 32 ∷ 125 ∷ 125 ∷ []) ≡ Some (list_of (expression (path (variable (codes "ansible_play_batch")) ([])) (expression (path (variable (codes "ansible_play_batch")) ([])) (no_expressions))))
text_2428 = refl

text_2429 : template_of (123 ∷ 123 ∷ 32 ∷ 91 ∷ 103 ∷ 114 ∷ 111 ∷ 117 ∷ 112 ∷ 95 ∷ 110 ∷ 97 ∷ 109 ∷ 101 ∷ 115 ∷ 44 ∷ 32 ∷ 49 ∷ 93 ∷ 32 ∷ 125 ∷ 125 ∷ []) ≡ Some (list_of (expression (path (variable (codes "group_names")) ([])) (expression (literal (int (pos 1))) (no_expressions))))
text_2429 = refl

text_2430 : template_of (123 ∷ 123 ∷ 32 ∷ 91 ∷ 103 ∷ 114 ∷ 111 ∷ 117 ∷ 112 ∷ 95 ∷ 110 ∷ 97 ∷ 109 ∷ 101 ∷ 115 ∷ 44 ∷ 32 ∷ 103 ∷ 114 ∷ 111 ∷ 117 ∷ 112 ∷ 95 ∷ 110 ∷ 97 ∷ 109 ∷ 101 ∷ 115 ∷ 93 ∷ 32 ∷ 125 ∷ 125 ∷ []) ≡ Some (list_of (expression (path (variable (codes "group_names")) ([])) (expression (path (variable (codes "group_names")) ([])) (no_expressions))))
text_2430 = refl

text_2431 : template_of (123 ∷ 123 ∷ 32 ∷ 91 ∷ 103 ∷ 114 ∷ 111 ∷ 117 ∷ 112 ∷ 115 ∷ 46 ∷ 97 ∷ 108 ∷ 108 ∷ 44 ∷ 32 ∷ 49 ∷ 93 ∷ 32 ∷ 125 ∷ 125 ∷ []) ≡ Some (list_of (expression (path (variable (codes "groups")) ((codes "all") ∷ [])) (expression (literal (int (pos 1))) (no_expressions))))
text_2431 = refl

text_2432 : template_of (123 ∷ 123 ∷ 32 ∷ 91 ∷ 103 ∷ 114 ∷ 111 ∷ 117 ∷ 112 ∷ 115 ∷ 46 ∷ 97 ∷ 108 ∷ 108 ∷ 44 ∷ 32 ∷ 103 ∷ 114 ∷ 111 ∷ 117 ∷ 112 ∷ 115 ∷ 46 ∷ 97 ∷ 108 ∷ 108 ∷ 93 ∷ 32 ∷ 125 ∷ 125 ∷ []) ≡ Some (list_of (expression (path (variable (codes "groups")) ((codes "all") ∷ [])) (expression (path (variable (codes "groups")) ((codes "all") ∷ [])) (no_expressions))))
text_2432 = refl

text_2433 : template_of (123 ∷ 123 ∷ 32 ∷ 91 ∷ 104 ∷ 111 ∷ 115 ∷ 116 ∷ 118 ∷ 97 ∷ 114 ∷ 115 ∷ 91 ∷ 105 ∷ 110 ∷ 118 ∷ 101 ∷ 110 ∷ 116 ∷ 111 ∷ 114 ∷ 121 ∷ 95 ∷ 104 ∷ 111 ∷ 115 ∷ 116 ∷ 110 ∷ 97 ∷ 109 ∷ 101 ∷ 93 ∷ 46 ∷ 105 ∷ 50 ∷ 46 ∷ 102 ∷ 44 ∷ 32 ∷ 49 ∷ 93 ∷ 32 ∷ 125 ∷ 125 ∷ []) ≡ Some (list_of (expression (path (other this_host (codes "i2")) ((codes "f") ∷ [])) (expression (literal (int (pos 1))) (no_expressions))))
text_2433 = refl

text_2434 : template_of (123 ∷ 123 ∷ 32 ∷ 91 ∷ 104 ∷ 111 ∷ 115 ∷ 116 ∷ 118 ∷ 97 ∷ 114 ∷ 115 ∷ 91 ∷ 105 ∷ 110 ∷ 118 ∷ 101 ∷ 110 ∷ 116 ∷ 111 ∷ 114 ∷ 121 ∷ 95 ∷ 104 ∷ 111 ∷ 115 ∷ 116 ∷ 110 ∷ 97 ∷ 109 ∷ 101 ∷ 93 ∷ 46 ∷ 114 ∷ 49 ∷ 46 ∷ 99 ∷ 104 ∷ 97 ∷ 110 ∷ 103 ∷ 101 ∷ 100 ∷ 44 ∷ 32 ∷ 104 ∷ 111 ∷ 115 ∷ 116 ∷ 118 ∷ 97 ∷ 114 ∷ 115 ∷ 91 ∷ 105 ∷ 110 ∷ 118 ∷ 101 ∷ 110 ∷ 116 ∷ 111 ∷ 114 ∷ 121 ∷ 95 ∷ 104 ∷ 111 ∷ 115 ∷ 116 ∷ 110 ∷ 97 ∷ 109 ∷ 101 ∷ 93 ∷ 46 ∷ 114 ∷ 49 ∷ 46 ∷ 99 ∷ 104 ∷ 97 ∷ 110 ∷ 103 ∷ 101 ∷ 100 ∷ 93 ∷ 32 ∷ 125 ∷ 125 ∷ []) ≡ Some (list_of (expression (path (other this_host (codes "r1")) ((codes "changed") ∷ [])) (expression (path (other this_host (codes "r1")) ((codes "changed") ∷ [])) (no_expressions))))
text_2434 = refl

text_2435 : template_of (123 ∷ 123 ∷ 32 ∷ 91 ∷ 104 ∷ 111 ∷ 115 ∷ 116 ∷ 118 ∷ 97 ∷ 114 ∷ 115 ∷ 91 ∷ 105 ∷ 110 ∷ 118 ∷ 101 ∷ 110 ∷ 116 ∷ 111 ∷ 114 ∷ 121 ∷ 95 ∷ 104 ∷ 111 ∷ 115 ∷ 116 ∷ 110 ∷ 97 ∷ 109 ∷ 101 ∷ 93 ∷ 46 ∷ 114 ∷ 49 ∷ 46 ∷ 102 ∷ 97 ∷ 105 ∷ 108 ∷ 101 ∷ 100 ∷ 44 ∷ 32 ∷ 49 ∷ 93 ∷ 32 ∷ 125 ∷ 125 ∷ []) ≡ Some (list_of (expression (path (other this_host (codes "r1")) ((codes "failed") ∷ [])) (expression (literal (int (pos 1))) (no_expressions))))
text_2435 = refl

text_2436 : template_of (123 ∷ 123 ∷ 32 ∷ 91 ∷ 104 ∷ 111 ∷ 115 ∷ 116 ∷ 118 ∷ 97 ∷ 114 ∷ 115 ∷ 91 ∷ 105 ∷ 110 ∷ 118 ∷ 101 ∷ 110 ∷ 116 ∷ 111 ∷ 114 ∷ 121 ∷ 95 ∷ 104 ∷ 111 ∷ 115 ∷ 116 ∷ 110 ∷ 97 ∷ 109 ∷ 101 ∷ 93 ∷ 46 ∷ 114 ∷ 50 ∷ 46 ∷ 115 ∷ 116 ∷ 100 ∷ 101 ∷ 114 ∷ 114 ∷ 44 ∷ 32 ∷ 49 ∷ 93 ∷ 32 ∷ 125 ∷ 125 ∷ []) ≡ Some (list_of (expression (path (other this_host (codes "r2")) ((codes "stderr") ∷ [])) (expression (literal (int (pos 1))) (no_expressions))))
text_2436 = refl

text_2437 : template_of (123 ∷ 123 ∷ 32 ∷ 91 ∷ 104 ∷ 111 ∷ 115 ∷ 116 ∷ 118 ∷ 97 ∷ 114 ∷ 115 ∷ 91 ∷ 105 ∷ 116 ∷ 101 ∷ 109 ∷ 93 ∷ 46 ∷ 114 ∷ 49 ∷ 46 ∷ 99 ∷ 104 ∷ 97 ∷ 110 ∷ 103 ∷ 101 ∷ 100 ∷ 44 ∷ 32 ∷ 49 ∷ 93 ∷ 32 ∷ 125 ∷ 125 ∷ []) ≡ Some (list_of (expression (path (other item_host (codes "r1")) ((codes "changed") ∷ [])) (expression (literal (int (pos 1))) (no_expressions))))
text_2437 = refl

text_2438 : template_of (123 ∷ 123 ∷ 32 ∷ 91 ∷ 104 ∷ 111 ∷ 115 ∷ 116 ∷ 118 ∷ 97 ∷ 114 ∷ 115 ∷ 91 ∷ 105 ∷ 116 ∷ 101 ∷ 109 ∷ 93 ∷ 46 ∷ 114 ∷ 49 ∷ 46 ∷ 99 ∷ 104 ∷ 97 ∷ 110 ∷ 103 ∷ 101 ∷ 100 ∷ 44 ∷ 32 ∷ 104 ∷ 111 ∷ 115 ∷ 116 ∷ 118 ∷ 97 ∷ 114 ∷ 115 ∷ 91 ∷ 105 ∷ 116 ∷ 101 ∷ 109 ∷ 93 ∷ 46 ∷ 114 ∷ 49 ∷ 46 ∷ 99 ∷ 104 ∷ 97 ∷ 110 ∷ 103 ∷ 101 ∷ 100 ∷ 93 ∷ 32 ∷ 125 ∷ 125 ∷ []) ≡ Some (list_of (expression (path (other item_host (codes "r1")) ((codes "changed") ∷ [])) (expression (path (other item_host (codes "r1")) ((codes "changed") ∷ [])) (no_expressions))))
text_2438 = refl

text_2439 : template_of (123 ∷ 123 ∷ 32 ∷ 91 ∷ 104 ∷ 111 ∷ 115 ∷ 116 ∷ 118 ∷ 97 ∷ 114 ∷ 115 ∷ 91 ∷ 105 ∷ 116 ∷ 101 ∷ 109 ∷ 93 ∷ 46 ∷ 115 ∷ 50 ∷ 46 ∷ 102 ∷ 44 ∷ 32 ∷ 104 ∷ 111 ∷ 115 ∷ 116 ∷ 118 ∷ 97 ∷ 114 ∷ 115 ∷ 91 ∷ 105 ∷ 116 ∷ 101 ∷ 109 ∷ 93 ∷ 46 ∷ 115 ∷ 50 ∷ 46 ∷ 102 ∷ 93 ∷ 32 ∷ 125 ∷ 125 ∷ []) ≡ Some (list_of (expression (path (other item_host (codes "s2")) ((codes "f") ∷ [])) (expression (path (other item_host (codes "s2")) ((codes "f") ∷ [])) (no_expressions))))
text_2439 = refl

text_2440 : template_of (123 ∷ 123 ∷ 32 ∷ 91 ∷ 105 ∷ 49 ∷ 44 ∷ 32 ∷ 49 ∷ 93 ∷ 32 ∷ 125 ∷ 125 ∷ []) ≡ Some (list_of (expression (path (variable (codes "i1")) ([])) (expression (literal (int (pos 1))) (no_expressions))))
text_2440 = refl

text_2441 : template_of (123 ∷ 123 ∷ 32 ∷ 91 ∷ 105 ∷ 49 ∷ 46 ∷ 102 ∷ 44 ∷ 32 ∷ 105 ∷ 49 ∷ 46 ∷ 102 ∷ 93 ∷ 32 ∷ 125 ∷ 125 ∷ []) ≡ Some (list_of (expression (path (variable (codes "i1")) ((codes "f") ∷ [])) (expression (path (variable (codes "i1")) ((codes "f") ∷ [])) (no_expressions))))
text_2441 = refl

text_2442 : template_of (123 ∷ 123 ∷ 32 ∷ 91 ∷ 105 ∷ 50 ∷ 44 ∷ 32 ∷ 49 ∷ 93 ∷ 32 ∷ 125 ∷ 125 ∷ []) ≡ Some (list_of (expression (path (variable (codes "i2")) ([])) (expression (literal (int (pos 1))) (no_expressions))))
text_2442 = refl

text_2443 : template_of (123 ∷ 123 ∷ 32 ∷ 91 ∷ 105 ∷ 50 ∷ 44 ∷ 32 ∷ 105 ∷ 50 ∷ 93 ∷ 32 ∷ 125 ∷ 125 ∷ []) ≡ Some (list_of (expression (path (variable (codes "i2")) ([])) (expression (path (variable (codes "i2")) ([])) (no_expressions))))
text_2443 = refl

text_2444 : template_of (123 ∷ 123 ∷ 32 ∷ 91 ∷ 105 ∷ 50 ∷ 46 ∷ 102 ∷ 44 ∷ 32 ∷ 49 ∷ 93 ∷ 32 ∷ 125 ∷ 125 ∷ []) ≡ Some (list_of (expression (path (variable (codes "i2")) ((codes "f") ∷ [])) (expression (literal (int (pos 1))) (no_expressions))))
text_2444 = refl

text_2445 : template_of (123 ∷ 123 ∷ 32 ∷ 91 ∷ 105 ∷ 110 ∷ 118 ∷ 101 ∷ 110 ∷ 116 ∷ 111 ∷ 114 ∷ 121 ∷ 95 ∷ 104 ∷ 111 ∷ 115 ∷ 116 ∷ 110 ∷ 97 ∷ 109 ∷ 101 ∷ 44 ∷ 32 ∷ 105 ∷ 110 ∷ 118 ∷ 101 ∷ 110 ∷ 116 ∷ 111 ∷ 114 ∷ 121 ∷ 95 ∷ 104 ∷ 111 ∷ 115 ∷ 116 ∷ 110 ∷ 97 ∷ 109 ∷ 101 ∷ 93 ∷ 32 ∷ 125 ∷ 125 ∷ []) ≡ Some (list_of (expression (path (variable (codes "inventory_hostname")) ([])) (expression (path (variable (codes "inventory_hostname")) ([])) (no_expressions))))
text_2445 = refl

text_2446 : template_of (123 ∷ 123 ∷ 32 ∷ 91 ∷ 105 ∷ 116 ∷ 101 ∷ 109 ∷ 46 ∷ 102 ∷ 44 ∷ 32 ∷ 105 ∷ 116 ∷ 101 ∷ 109 ∷ 46 ∷ 102 ∷ 93 ∷ 32 ∷ 125 ∷ 125 ∷ []) ≡ Some (list_of (expression (path (variable (codes "item")) ((codes "f") ∷ [])) (expression (path (variable (codes "item")) ((codes "f") ∷ [])) (no_expressions))))
text_2446 = refl

text_2447 : template_of (123 ∷ 123 ∷ 32 ∷ 91 ∷ 105 ∷ 116 ∷ 101 ∷ 109 ∷ 46 ∷ 114 ∷ 99 ∷ 44 ∷ 32 ∷ 49 ∷ 93 ∷ 32 ∷ 125 ∷ 125 ∷ []) ≡ Some (list_of (expression (path (variable (codes "item")) ((codes "rc") ∷ [])) (expression (literal (int (pos 1))) (no_expressions))))
text_2447 = refl

text_2448 : template_of (123 ∷ 123 ∷ 32 ∷ 91 ∷ 105 ∷ 116 ∷ 101 ∷ 109 ∷ 93 ∷ 32 ∷ 125 ∷ 125 ∷ []) ≡ Some (list_of (expression (path (variable (codes "item")) ([])) (no_expressions)))
text_2448 = refl

text_2449 : template_of (123 ∷ 123 ∷ 32 ∷ 91 ∷ 110 ∷ 111 ∷ 116 ∷ 32 ∷ 49 ∷ 44 ∷ 32 ∷ 122 ∷ 122 ∷ 93 ∷ 32 ∷ 125 ∷ 125 ∷ []) ≡ Some (list_of (expression (negation (literal (int (pos 1)))) (expression (path (variable (codes "zz")) ([])) (no_expressions))))
text_2449 = refl

text_2450 : template_of (123 ∷ 123 ∷ 32 ∷ 91 ∷ 111 ∷ 112 ∷ 44 ∷ 32 ∷ 49 ∷ 93 ∷ 32 ∷ 125 ∷ 125 ∷ []) ≡ Some (list_of (expression (path (variable (codes "op")) ([])) (expression (literal (int (pos 1))) (no_expressions))))
text_2450 = refl

text_2451 : template_of (123 ∷ 123 ∷ 32 ∷ 91 ∷ 111 ∷ 112 ∷ 46 ∷ 102 ∷ 44 ∷ 32 ∷ 49 ∷ 93 ∷ 32 ∷ 125 ∷ 125 ∷ []) ≡ Some (list_of (expression (path (variable (codes "op")) ((codes "f") ∷ [])) (expression (literal (int (pos 1))) (no_expressions))))
text_2451 = refl

text_2452 : template_of (123 ∷ 123 ∷ 32 ∷ 91 ∷ 111 ∷ 117 ∷ 116 ∷ 32 ∷ 105 ∷ 115 ∷ 32 ∷ 110 ∷ 111 ∷ 116 ∷ 32 ∷ 115 ∷ 107 ∷ 105 ∷ 112 ∷ 112 ∷ 101 ∷ 100 ∷ 93 ∷ 32 ∷ 124 ∷ 32 ∷ 106 ∷ 111 ∷ 105 ∷ 110 ∷ 32 ∷ 125 ∷ 125 ∷ []) ≡ Some (joined_by (list_of (expression (negation (path_status is_skipped (variable (codes "out")) ([]))) (no_expressions))) (literal (text [])))
text_2452 = refl

text_2453 : template_of (123 ∷ 123 ∷ 32 ∷ 91 ∷ 114 ∷ 49 ∷ 44 ∷ 32 ∷ 49 ∷ 93 ∷ 32 ∷ 125 ∷ 125 ∷ []) ≡ Some (list_of (expression (path (variable (codes "r1")) ([])) (expression (literal (int (pos 1))) (no_expressions))))
text_2453 = refl

text_2454 : template_of (123 ∷ 123 ∷ 32 ∷ 91 ∷ 114 ∷ 49 ∷ 44 ∷ 32 ∷ 114 ∷ 49 ∷ 93 ∷ 32 ∷ 125 ∷ 125 ∷ []) ≡ Some (list_of (expression (path (variable (codes "r1")) ([])) (expression (path (variable (codes "r1")) ([])) (no_expressions))))
text_2454 = refl

text_2455 : template_of (123 ∷ 123 ∷ 32 ∷ 91 ∷ 114 ∷ 49 ∷ 46 ∷ 99 ∷ 104 ∷ 97 ∷ 110 ∷ 103 ∷ 101 ∷ 100 ∷ 44 ∷ 32 ∷ 49 ∷ 93 ∷ 32 ∷ 125 ∷ 125 ∷ []) ≡ Some (list_of (expression (path (variable (codes "r1")) ((codes "changed") ∷ [])) (expression (literal (int (pos 1))) (no_expressions))))
text_2455 = refl

text_2456 : template_of (123 ∷ 123 ∷ 32 ∷ 91 ∷ 114 ∷ 49 ∷ 46 ∷ 102 ∷ 97 ∷ 105 ∷ 108 ∷ 101 ∷ 100 ∷ 44 ∷ 32 ∷ 49 ∷ 93 ∷ 32 ∷ 125 ∷ 125 ∷ []) ≡ Some (list_of (expression (path (variable (codes "r1")) ((codes "failed") ∷ [])) (expression (literal (int (pos 1))) (no_expressions))))
text_2456 = refl

text_2457 : template_of (123 ∷ 123 ∷ 32 ∷ 91 ∷ 114 ∷ 49 ∷ 46 ∷ 102 ∷ 97 ∷ 105 ∷ 108 ∷ 101 ∷ 100 ∷ 44 ∷ 32 ∷ 114 ∷ 49 ∷ 46 ∷ 102 ∷ 97 ∷ 105 ∷ 108 ∷ 101 ∷ 100 ∷ 93 ∷ 32 ∷ 125 ∷ 125 ∷ []) ≡ Some (list_of (expression (path (variable (codes "r1")) ((codes "failed") ∷ [])) (expression (path (variable (codes "r1")) ((codes "failed") ∷ [])) (no_expressions))))
text_2457 = refl

text_2458 : template_of (123 ∷ 123 ∷ 32 ∷ 91 ∷ 114 ∷ 49 ∷ 46 ∷ 114 ∷ 111 ∷ 119 ∷ 115 ∷ 44 ∷ 32 ∷ 49 ∷ 93 ∷ 32 ∷ 125 ∷ 125 ∷ []) ≡ Some (list_of (expression (path (variable (codes "r1")) ((codes "rows") ∷ [])) (expression (literal (int (pos 1))) (no_expressions))))
text_2458 = refl

text_2459 : template_of (123 ∷ 123 ∷ 32 ∷ 91 ∷ 114 ∷ 49 ∷ 46 ∷ 115 ∷ 107 ∷ 105 ∷ 112 ∷ 112 ∷ 101 ∷ 100 ∷ 44 ∷ 32 ∷ 49 ∷ 93 ∷ 32 ∷ 125 ∷ 125 ∷ []) ≡ Some (list_of (expression (path (variable (codes "r1")) ((codes "skipped") ∷ [])) (expression (literal (int (pos 1))) (no_expressions))))
text_2459 = refl

text_2460 : template_of (123 ∷ 123 ∷ 32 ∷ 91 ∷ 114 ∷ 49 ∷ 46 ∷ 115 ∷ 116 ∷ 97 ∷ 116 ∷ 46 ∷ 115 ∷ 105 ∷ 122 ∷ 101 ∷ 44 ∷ 32 ∷ 114 ∷ 49 ∷ 46 ∷ 115 ∷ 116 ∷ 97 ∷ 116 ∷ 46 ∷ 115 ∷ 105 ∷ 122 ∷ 101 ∷ 93 ∷ 32 ∷ 125 ∷ 125 ∷ []) ≡ Some (list_of (expression (path (variable (codes "r1")) ((codes "stat") ∷ (codes "size") ∷ [])) (expression (path (variable (codes "r1")) ((codes "stat") ∷ (codes "size") ∷ [])) (no_expressions))))
text_2460 = refl

text_2461 : template_of (123 ∷ 123 ∷ 32 ∷ 91 ∷ 114 ∷ 49 ∷ 46 ∷ 115 ∷ 116 ∷ 100 ∷ 111 ∷ 117 ∷ 116 ∷ 95 ∷ 108 ∷ 105 ∷ 110 ∷ 101 ∷ 115 ∷ 44 ∷ 32 ∷ 49 ∷ 93 ∷ 32 ∷ 125 ∷ 125 ∷ []) ≡ Some (list_of (expression (path (variable (codes "r1")) ((codes "stdout_lines") ∷ [])) (expression (literal (int (pos 1))) (no_expressions))))
text_2461 = refl

text_2462 : template_of (123 ∷ 123 ∷ 32 ∷ 91 ∷ 114 ∷ 49 ∷ 46 ∷ 118 ∷ 44 ∷ 32 ∷ 49 ∷ 93 ∷ 32 ∷ 125 ∷ 125 ∷ []) ≡ Some (list_of (expression (path (variable (codes "r1")) ((codes "v") ∷ [])) (expression (literal (int (pos 1))) (no_expressions))))
text_2462 = refl

text_2463 : template_of (123 ∷ 123 ∷ 32 ∷ 91 ∷ 114 ∷ 49 ∷ 46 ∷ 119 ∷ 104 ∷ 121 ∷ 44 ∷ 32 ∷ 49 ∷ 93 ∷ 32 ∷ 125 ∷ 125 ∷ []) ≡ Some (list_of (expression (path (variable (codes "r1")) ((codes "why") ∷ [])) (expression (literal (int (pos 1))) (no_expressions))))
text_2463 = refl

text_2464 : template_of (123 ∷ 123 ∷ 32 ∷ 91 ∷ 114 ∷ 50 ∷ 44 ∷ 32 ∷ 49 ∷ 93 ∷ 32 ∷ 125 ∷ 125 ∷ []) ≡ Some (list_of (expression (path (variable (codes "r2")) ([])) (expression (literal (int (pos 1))) (no_expressions))))
text_2464 = refl

text_2465 : template_of (123 ∷ 123 ∷ 32 ∷ 91 ∷ 114 ∷ 50 ∷ 44 ∷ 32 ∷ 114 ∷ 50 ∷ 93 ∷ 32 ∷ 125 ∷ 125 ∷ []) ≡ Some (list_of (expression (path (variable (codes "r2")) ([])) (expression (path (variable (codes "r2")) ([])) (no_expressions))))
text_2465 = refl

text_2466 : template_of (123 ∷ 123 ∷ 32 ∷ 91 ∷ 114 ∷ 50 ∷ 46 ∷ 97 ∷ 110 ∷ 115 ∷ 105 ∷ 98 ∷ 108 ∷ 101 ∷ 95 ∷ 102 ∷ 97 ∷ 99 ∷ 116 ∷ 115 ∷ 46 ∷ 97 ∷ 110 ∷ 115 ∷ 105 ∷ 98 ∷ 108 ∷ 101 ∷ 95 ∷ 111 ∷ 115 ∷ 95 ∷ 102 ∷ 97 ∷ 109 ∷ 105 ∷ 108 ∷ 121 ∷ 44 ∷ 32 ∷ 49 ∷ 93 ∷ 32 ∷ 125 ∷ 125 ∷ []) ≡ Some (list_of (expression (path (variable (codes "r2")) ((codes "ansible_facts") ∷ (codes "ansible_os_family") ∷ [])) (expression (literal (int (pos 1))) (no_expressions))))
text_2466 = refl

text_2467 : template_of (123 ∷ 123 ∷ 32 ∷ 91 ∷ 114 ∷ 50 ∷ 46 ∷ 99 ∷ 104 ∷ 97 ∷ 110 ∷ 103 ∷ 101 ∷ 100 ∷ 44 ∷ 32 ∷ 49 ∷ 93 ∷ 32 ∷ 125 ∷ 125 ∷ []) ≡ Some (list_of (expression (path (variable (codes "r2")) ((codes "changed") ∷ [])) (expression (literal (int (pos 1))) (no_expressions))))
text_2467 = refl

text_2468 : template_of (123 ∷ 123 ∷ 32 ∷ 91 ∷ 114 ∷ 50 ∷ 46 ∷ 99 ∷ 104 ∷ 97 ∷ 110 ∷ 103 ∷ 101 ∷ 100 ∷ 44 ∷ 32 ∷ 114 ∷ 50 ∷ 46 ∷ 99 ∷ 104 ∷ 97 ∷ 110 ∷ 103 ∷ 101 ∷ 100 ∷ 93 ∷ 32 ∷ 125 ∷ 125 ∷ []) ≡ Some (list_of (expression (path (variable (codes "r2")) ((codes "changed") ∷ [])) (expression (path (variable (codes "r2")) ((codes "changed") ∷ [])) (no_expressions))))
text_2468 = refl

text_2469 : template_of (123 ∷ 123 ∷ 32 ∷ 91 ∷ 114 ∷ 50 ∷ 46 ∷ 100 ∷ 101 ∷ 101 ∷ 112 ∷ 44 ∷ 32 ∷ 49 ∷ 93 ∷ 32 ∷ 125 ∷ 125 ∷ []) ≡ Some (list_of (expression (path (variable (codes "r2")) ((codes "deep") ∷ [])) (expression (literal (int (pos 1))) (no_expressions))))
text_2469 = refl

text_2470 : template_of (123 ∷ 123 ∷ 32 ∷ 91 ∷ 114 ∷ 50 ∷ 46 ∷ 102 ∷ 97 ∷ 105 ∷ 108 ∷ 101 ∷ 100 ∷ 44 ∷ 32 ∷ 49 ∷ 93 ∷ 32 ∷ 125 ∷ 125 ∷ []) ≡ Some (list_of (expression (path (variable (codes "r2")) ((codes "failed") ∷ [])) (expression (literal (int (pos 1))) (no_expressions))))
text_2470 = refl

text_2471 : template_of (123 ∷ 123 ∷ 32 ∷ 91 ∷ 114 ∷ 50 ∷ 46 ∷ 102 ∷ 97 ∷ 105 ∷ 108 ∷ 101 ∷ 100 ∷ 44 ∷ 32 ∷ 114 ∷ 50 ∷ 46 ∷ 102 ∷ 97 ∷ 105 ∷ 108 ∷ 101 ∷ 100 ∷ 93 ∷ 32 ∷ 125 ∷ 125 ∷ []) ≡ Some (list_of (expression (path (variable (codes "r2")) ((codes "failed") ∷ [])) (expression (path (variable (codes "r2")) ((codes "failed") ∷ [])) (no_expressions))))
text_2471 = refl

text_2472 : template_of (123 ∷ 123 ∷ 32 ∷ 91 ∷ 114 ∷ 50 ∷ 46 ∷ 109 ∷ 115 ∷ 103 ∷ 44 ∷ 32 ∷ 49 ∷ 93 ∷ 32 ∷ 125 ∷ 125 ∷ []) ≡ Some (list_of (expression (path (variable (codes "r2")) ((codes "msg") ∷ [])) (expression (literal (int (pos 1))) (no_expressions))))
text_2472 = refl

text_2473 : template_of (123 ∷ 123 ∷ 32 ∷ 91 ∷ 114 ∷ 50 ∷ 46 ∷ 109 ∷ 115 ∷ 103 ∷ 44 ∷ 32 ∷ 114 ∷ 50 ∷ 46 ∷ 109 ∷ 115 ∷ 103 ∷ 93 ∷ 32 ∷ 125 ∷ 125 ∷ []) ≡ Some (list_of (expression (path (variable (codes "r2")) ((codes "msg") ∷ [])) (expression (path (variable (codes "r2")) ((codes "msg") ∷ [])) (no_expressions))))
text_2473 = refl

text_2474 : template_of (123 ∷ 123 ∷ 32 ∷ 91 ∷ 114 ∷ 50 ∷ 46 ∷ 114 ∷ 101 ∷ 115 ∷ 117 ∷ 108 ∷ 116 ∷ 115 ∷ 44 ∷ 32 ∷ 114 ∷ 50 ∷ 46 ∷ 114 ∷ 101 ∷ 115 ∷ 117 ∷ 108 ∷ 116 ∷ 115 ∷ 93 ∷ 32 ∷ 125 ∷ 125 ∷ []) ≡ Some (list_of (expression (path (variable (codes "r2")) ((codes "results") ∷ [])) (expression (path (variable (codes "r2")) ((codes "results") ∷ [])) (no_expressions))))
text_2474 = refl

text_2475 : template_of (123 ∷ 123 ∷ 32 ∷ 91 ∷ 114 ∷ 50 ∷ 46 ∷ 114 ∷ 111 ∷ 119 ∷ 115 ∷ 44 ∷ 32 ∷ 114 ∷ 50 ∷ 46 ∷ 114 ∷ 111 ∷ 119 ∷ 115 ∷ 93 ∷ 32 ∷ 125 ∷ 125 ∷ []) ≡ Some (list_of (expression (path (variable (codes "r2")) ((codes "rows") ∷ [])) (expression (path (variable (codes "r2")) ((codes "rows") ∷ [])) (no_expressions))))
text_2475 = refl

text_2476 : template_of (123 ∷ 123 ∷ 32 ∷ 91 ∷ 114 ∷ 50 ∷ 46 ∷ 115 ∷ 107 ∷ 105 ∷ 112 ∷ 95 ∷ 114 ∷ 101 ∷ 97 ∷ 115 ∷ 111 ∷ 110 ∷ 44 ∷ 32 ∷ 114 ∷ 50 ∷ 46 ∷ 115 ∷ 107 ∷ 105 ∷ 112 ∷ 95 ∷ 114 ∷ 101 ∷ 97 ∷ 115 ∷ 111 ∷ 110 ∷ 93 ∷ 32 ∷ 125 ∷ 125 ∷ []) ≡ Some (list_of (expression (path (variable (codes "r2")) ((codes "skip_reason") ∷ [])) (expression (path (variable (codes "r2")) ((codes "skip_reason") ∷ [])) (no_expressions))))
text_2476 = refl

text_2477 : template_of (123 ∷ 123 ∷ 32 ∷ 91 ∷ 114 ∷ 51 ∷ 44 ∷ 32 ∷ 49 ∷ 93 ∷ 32 ∷ 125 ∷ 125 ∷ []) ≡ Some (list_of (expression (path (variable (codes "r3")) ([])) (expression (literal (int (pos 1))) (no_expressions))))
text_2477 = refl

text_2478 : template_of (123 ∷ 123 ∷ 32 ∷ 91 ∷ 114 ∷ 51 ∷ 44 ∷ 32 ∷ 114 ∷ 51 ∷ 93 ∷ 32 ∷ 125 ∷ 125 ∷ []) ≡ Some (list_of (expression (path (variable (codes "r3")) ([])) (expression (path (variable (codes "r3")) ([])) (no_expressions))))
text_2478 = refl

text_2479 : template_of (123 ∷ 123 ∷ 32 ∷ 91 ∷ 114 ∷ 51 ∷ 46 ∷ 99 ∷ 104 ∷ 97 ∷ 110 ∷ 103 ∷ 101 ∷ 100 ∷ 44 ∷ 32 ∷ 49 ∷ 93 ∷ 32 ∷ 125 ∷ 125 ∷ []) ≡ Some (list_of (expression (path (variable (codes "r3")) ((codes "changed") ∷ [])) (expression (literal (int (pos 1))) (no_expressions))))
text_2479 = refl

text_2480 : template_of (123 ∷ 123 ∷ 32 ∷ 91 ∷ 114 ∷ 51 ∷ 46 ∷ 99 ∷ 104 ∷ 97 ∷ 110 ∷ 103 ∷ 101 ∷ 100 ∷ 44 ∷ 32 ∷ 114 ∷ 51 ∷ 46 ∷ 99 ∷ 104 ∷ 97 ∷ 110 ∷ 103 ∷ 101 ∷ 100 ∷ 93 ∷ 32 ∷ 125 ∷ 125 ∷ []) ≡ Some (list_of (expression (path (variable (codes "r3")) ((codes "changed") ∷ [])) (expression (path (variable (codes "r3")) ((codes "changed") ∷ [])) (no_expressions))))
text_2480 = refl

text_2481 : template_of (123 ∷ 123 ∷ 32 ∷ 91 ∷ 114 ∷ 51 ∷ 46 ∷ 102 ∷ 97 ∷ 105 ∷ 108 ∷ 101 ∷ 100 ∷ 44 ∷ 32 ∷ 49 ∷ 93 ∷ 32 ∷ 125 ∷ 125 ∷ []) ≡ Some (list_of (expression (path (variable (codes "r3")) ((codes "failed") ∷ [])) (expression (literal (int (pos 1))) (no_expressions))))
text_2481 = refl

text_2482 : template_of (123 ∷ 123 ∷ 32 ∷ 91 ∷ 114 ∷ 51 ∷ 46 ∷ 102 ∷ 97 ∷ 105 ∷ 108 ∷ 101 ∷ 100 ∷ 44 ∷ 32 ∷ 114 ∷ 51 ∷ 46 ∷ 102 ∷ 97 ∷ 105 ∷ 108 ∷ 101 ∷ 100 ∷ 93 ∷ 32 ∷ 125 ∷ 125 ∷ []) ≡ Some (list_of (expression (path (variable (codes "r3")) ((codes "failed") ∷ [])) (expression (path (variable (codes "r3")) ((codes "failed") ∷ [])) (no_expressions))))
text_2482 = refl

text_2483 : template_of (123 ∷ 123 ∷ 32 ∷ 91 ∷ 114 ∷ 51 ∷ 46 ∷ 109 ∷ 115 ∷ 103 ∷ 44 ∷ 32 ∷ 49 ∷ 93 ∷ 32 ∷ 125 ∷ 125 ∷ []) ≡ Some (list_of (expression (path (variable (codes "r3")) ((codes "msg") ∷ [])) (expression (literal (int (pos 1))) (no_expressions))))
text_2483 = refl

text_2484 : template_of (123 ∷ 123 ∷ 32 ∷ 91 ∷ 114 ∷ 51 ∷ 46 ∷ 112 ∷ 105 ∷ 110 ∷ 103 ∷ 44 ∷ 32 ∷ 49 ∷ 93 ∷ 32 ∷ 125 ∷ 125 ∷ []) ≡ Some (list_of (expression (path (variable (codes "r3")) ((codes "ping") ∷ [])) (expression (literal (int (pos 1))) (no_expressions))))
text_2484 = refl

text_2485 : template_of (123 ∷ 123 ∷ 32 ∷ 91 ∷ 114 ∷ 51 ∷ 46 ∷ 114 ∷ 101 ∷ 115 ∷ 117 ∷ 108 ∷ 116 ∷ 115 ∷ 44 ∷ 32 ∷ 49 ∷ 93 ∷ 32 ∷ 125 ∷ 125 ∷ []) ≡ Some (list_of (expression (path (variable (codes "r3")) ((codes "results") ∷ [])) (expression (literal (int (pos 1))) (no_expressions))))
text_2485 = refl

text_2486 : template_of (123 ∷ 123 ∷ 32 ∷ 91 ∷ 114 ∷ 51 ∷ 46 ∷ 115 ∷ 107 ∷ 105 ∷ 112 ∷ 95 ∷ 114 ∷ 101 ∷ 97 ∷ 115 ∷ 111 ∷ 110 ∷ 44 ∷ 32 ∷ 49 ∷ 93 ∷ 32 ∷ 125 ∷ 125 ∷ []) ≡ Some (list_of (expression (path (variable (codes "r3")) ((codes "skip_reason") ∷ [])) (expression (literal (int (pos 1))) (no_expressions))))
text_2486 = refl

text_2487 : template_of (123 ∷ 123 ∷ 32 ∷ 91 ∷ 114 ∷ 51 ∷ 46 ∷ 115 ∷ 107 ∷ 105 ∷ 112 ∷ 112 ∷ 101 ∷ 100 ∷ 44 ∷ 32 ∷ 49 ∷ 93 ∷ 32 ∷ 125 ∷ 125 ∷ []) ≡ Some (list_of (expression (path (variable (codes "r3")) ((codes "skipped") ∷ [])) (expression (literal (int (pos 1))) (no_expressions))))
text_2487 = refl

text_2488 : template_of (123 ∷ 123 ∷ 32 ∷ 91 ∷ 114 ∷ 51 ∷ 46 ∷ 115 ∷ 107 ∷ 105 ∷ 112 ∷ 112 ∷ 101 ∷ 100 ∷ 44 ∷ 32 ∷ 114 ∷ 51 ∷ 46 ∷ 115 ∷ 107 ∷ 105 ∷ 112 ∷ 112 ∷ 101 ∷ 100 ∷ 93 ∷ 32 ∷ 125 ∷ 125 ∷ []) ≡ Some (list_of (expression (path (variable (codes "r3")) ((codes "skipped") ∷ [])) (expression (path (variable (codes "r3")) ((codes "skipped") ∷ [])) (no_expressions))))
text_2488 = refl

text_2489 : template_of (123 ∷ 123 ∷ 32 ∷ 91 ∷ 114 ∷ 51 ∷ 46 ∷ 119 ∷ 104 ∷ 121 ∷ 44 ∷ 32 ∷ 114 ∷ 51 ∷ 46 ∷ 119 ∷ 104 ∷ 121 ∷ 93 ∷ 32 ∷ 125 ∷ 125 ∷ []) ≡ Some (list_of (expression (path (variable (codes "r3")) ((codes "why") ∷ [])) (expression (path (variable (codes "r3")) ((codes "why") ∷ [])) (no_expressions))))
text_2489 = refl

text_2490 : template_of (123 ∷ 123 ∷ 32 ∷ 91 ∷ 115 ∷ 49 ∷ 44 ∷ 32 ∷ 49 ∷ 93 ∷ 32 ∷ 125 ∷ 125 ∷ []) ≡ Some (list_of (expression (path (variable (codes "s1")) ([])) (expression (literal (int (pos 1))) (no_expressions))))
text_2490 = refl

text_2491 : template_of (123 ∷ 123 ∷ 32 ∷ 91 ∷ 115 ∷ 49 ∷ 44 ∷ 32 ∷ 115 ∷ 49 ∷ 93 ∷ 32 ∷ 125 ∷ 125 ∷ []) ≡ Some (list_of (expression (path (variable (codes "s1")) ([])) (expression (path (variable (codes "s1")) ([])) (no_expressions))))
text_2491 = refl

text_2492 : template_of (123 ∷ 123 ∷ 32 ∷ 91 ∷ 115 ∷ 49 ∷ 46 ∷ 114 ∷ 99 ∷ 44 ∷ 32 ∷ 49 ∷ 93 ∷ 32 ∷ 125 ∷ 125 ∷ []) ≡ Some (list_of (expression (path (variable (codes "s1")) ((codes "rc") ∷ [])) (expression (literal (int (pos 1))) (no_expressions))))
text_2492 = refl

text_2493 : template_of (123 ∷ 123 ∷ 32 ∷ 91 ∷ 115 ∷ 50 ∷ 46 ∷ 115 ∷ 116 ∷ 100 ∷ 111 ∷ 117 ∷ 116 ∷ 44 ∷ 32 ∷ 49 ∷ 93 ∷ 32 ∷ 125 ∷ 125 ∷ []) ≡ Some (list_of (expression (path (variable (codes "s2")) ((codes "stdout") ∷ [])) (expression (literal (int (pos 1))) (no_expressions))))
text_2493 = refl

text_2494 : template_of (123 ∷ 123 ∷ 32 ∷ 91 ∷ 115 ∷ 51 ∷ 46 ∷ 99 ∷ 104 ∷ 97 ∷ 110 ∷ 103 ∷ 101 ∷ 100 ∷ 44 ∷ 32 ∷ 115 ∷ 51 ∷ 46 ∷ 99 ∷ 104 ∷ 97 ∷ 110 ∷ 103 ∷ 101 ∷ 100 ∷ 93 ∷ 32 ∷ 125 ∷ 125 ∷ []) ≡ Some (list_of (expression (path (variable (codes "s3")) ((codes "changed") ∷ [])) (expression (path (variable (codes "s3")) ((codes "changed") ∷ [])) (no_expressions))))
text_2494 = refl

text_2495 : template_of (123 ∷ 123 ∷ 32 ∷ 91 ∷ 115 ∷ 51 ∷ 46 ∷ 114 ∷ 99 ∷ 44 ∷ 32 ∷ 115 ∷ 51 ∷ 46 ∷ 114 ∷ 99 ∷ 93 ∷ 32 ∷ 125 ∷ 125 ∷ []) ≡ Some (list_of (expression (path (variable (codes "s3")) ((codes "rc") ∷ [])) (expression (path (variable (codes "s3")) ((codes "rc") ∷ [])) (no_expressions))))
text_2495 = refl

text_2496 : template_of (123 ∷ 123 ∷ 32 ∷ 91 ∷ 118 ∷ 49 ∷ 44 ∷ 32 ∷ 49 ∷ 93 ∷ 32 ∷ 125 ∷ 125 ∷ []) ≡ Some (list_of (expression (path (variable (codes "v1")) ([])) (expression (literal (int (pos 1))) (no_expressions))))
text_2496 = refl

text_2497 : template_of (123 ∷ 123 ∷ 32 ∷ 91 ∷ 118 ∷ 51 ∷ 44 ∷ 32 ∷ 118 ∷ 51 ∷ 93 ∷ 32 ∷ 125 ∷ 125 ∷ []) ≡ Some (list_of (expression (path (variable (codes "v3")) ([])) (expression (path (variable (codes "v3")) ([])) (no_expressions))))
text_2497 = refl

text_2498 : template_of (123 ∷ 123 ∷ 32 ∷ 91 ∷ 118 ∷ 51 ∷ 46 ∷ 99 ∷ 104 ∷ 97 ∷ 110 ∷ 103 ∷ 101 ∷ 100 ∷ 44 ∷ 32 ∷ 118 ∷ 51 ∷ 46 ∷ 99 ∷ 104 ∷ 97 ∷ 110 ∷ 103 ∷ 101 ∷ 100 ∷ 93 ∷ 32 ∷ 125 ∷ 125 ∷ []) ≡ Some (list_of (expression (path (variable (codes "v3")) ((codes "changed") ∷ [])) (expression (path (variable (codes "v3")) ((codes "changed") ∷ [])) (no_expressions))))
text_2498 = refl

text_2499 : template_of (123 ∷ 123 ∷ 32 ∷ 91 ∷ 120 ∷ 93 ∷ 32 ∷ 124 ∷ 32 ∷ 108 ∷ 101 ∷ 110 ∷ 103 ∷ 116 ∷ 104 ∷ 32 ∷ 125 ∷ 125 ∷ []) ≡ Some (length_of (list_of (expression (path (variable (codes "x")) ([])) (no_expressions))))
text_2499 = refl
