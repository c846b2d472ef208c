-- The trees of expressions of cases, computed.
use Rattle.std.specs.Prelude.{◌≡◌, refl, pos, [], ◌∷◌, false, Some, None, codes}
use Rattle.pb_semantics.specs.Data.{boolean, int}
use Rattle.pb_language.specs.Expression.{equal, is_failed, is_changed, is_skipped, this_host, item_host, literal, path, negation, comparison, defined, path_status, path_or, length_of, list_of, variable, other, no_expressions, expression}
use Rattle.pb_language.specs.Grammar.{expression_of}

text_250 : expression_of (32 ∷ 91 ∷ 114 ∷ 51 ∷ 46 ∷ 112 ∷ 105 ∷ 110 ∷ 103 ∷ 44 ∷ 32 ∷ 49 ∷ 93 ∷ 32 ∷ []) ≡ Some (list_of (expression (path (variable (codes "r3")) ((codes "ping") ∷ [])) (expression (literal (int (pos 1))) (no_expressions))))
text_250 = refl

text_251 : expression_of (32 ∷ 91 ∷ 114 ∷ 51 ∷ 46 ∷ 114 ∷ 101 ∷ 115 ∷ 117 ∷ 108 ∷ 116 ∷ 115 ∷ 44 ∷ 32 ∷ 49 ∷ 93 ∷ 32 ∷ []) ≡ Some (list_of (expression (path (variable (codes "r3")) ((codes "results") ∷ [])) (expression (literal (int (pos 1))) (no_expressions))))
text_251 = refl

text_252 : expression_of (32 ∷ 91 ∷ 114 ∷ 51 ∷ 46 ∷ 115 ∷ 107 ∷ 105 ∷ 112 ∷ 95 ∷ 114 ∷ 101 ∷ 97 ∷ 115 ∷ 111 ∷ 110 ∷ 44 ∷ 32 ∷ 49 ∷ 93 ∷ 32 ∷ []) ≡ Some (list_of (expression (path (variable (codes "r3")) ((codes "skip_reason") ∷ [])) (expression (literal (int (pos 1))) (no_expressions))))
text_252 = refl

text_253 : expression_of (32 ∷ 91 ∷ 114 ∷ 51 ∷ 46 ∷ 115 ∷ 107 ∷ 105 ∷ 112 ∷ 112 ∷ 101 ∷ 100 ∷ 44 ∷ 32 ∷ 49 ∷ 93 ∷ 32 ∷ []) ≡ Some (list_of (expression (path (variable (codes "r3")) ((codes "skipped") ∷ [])) (expression (literal (int (pos 1))) (no_expressions))))
text_253 = refl

text_254 : expression_of (32 ∷ 91 ∷ 114 ∷ 51 ∷ 46 ∷ 115 ∷ 107 ∷ 105 ∷ 112 ∷ 112 ∷ 101 ∷ 100 ∷ 44 ∷ 32 ∷ 114 ∷ 51 ∷ 46 ∷ 115 ∷ 107 ∷ 105 ∷ 112 ∷ 112 ∷ 101 ∷ 100 ∷ 93 ∷ 32 ∷ []) ≡ Some (list_of (expression (path (variable (codes "r3")) ((codes "skipped") ∷ [])) (expression (path (variable (codes "r3")) ((codes "skipped") ∷ [])) (no_expressions))))
text_254 = refl

text_255 : expression_of (32 ∷ 91 ∷ 114 ∷ 51 ∷ 46 ∷ 119 ∷ 104 ∷ 121 ∷ 44 ∷ 32 ∷ 114 ∷ 51 ∷ 46 ∷ 119 ∷ 104 ∷ 121 ∷ 93 ∷ 32 ∷ []) ≡ Some (list_of (expression (path (variable (codes "r3")) ((codes "why") ∷ [])) (expression (path (variable (codes "r3")) ((codes "why") ∷ [])) (no_expressions))))
text_255 = refl

text_256 : expression_of (32 ∷ 91 ∷ 115 ∷ 49 ∷ 44 ∷ 32 ∷ 49 ∷ 93 ∷ 32 ∷ []) ≡ Some (list_of (expression (path (variable (codes "s1")) ([])) (expression (literal (int (pos 1))) (no_expressions))))
text_256 = refl

text_257 : expression_of (32 ∷ 91 ∷ 115 ∷ 49 ∷ 44 ∷ 32 ∷ 115 ∷ 49 ∷ 93 ∷ 32 ∷ []) ≡ Some (list_of (expression (path (variable (codes "s1")) ([])) (expression (path (variable (codes "s1")) ([])) (no_expressions))))
text_257 = refl

text_258 : expression_of (32 ∷ 91 ∷ 115 ∷ 49 ∷ 46 ∷ 114 ∷ 99 ∷ 44 ∷ 32 ∷ 49 ∷ 93 ∷ 32 ∷ []) ≡ Some (list_of (expression (path (variable (codes "s1")) ((codes "rc") ∷ [])) (expression (literal (int (pos 1))) (no_expressions))))
text_258 = refl

text_259 : expression_of (32 ∷ 91 ∷ 115 ∷ 50 ∷ 46 ∷ 115 ∷ 116 ∷ 100 ∷ 111 ∷ 117 ∷ 116 ∷ 44 ∷ 32 ∷ 49 ∷ 93 ∷ 32 ∷ []) ≡ Some (list_of (expression (path (variable (codes "s2")) ((codes "stdout") ∷ [])) (expression (literal (int (pos 1))) (no_expressions))))
text_259 = refl

text_260 : expression_of (32 ∷ 91 ∷ 115 ∷ 51 ∷ 46 ∷ 99 ∷ 104 ∷ 97 ∷ 110 ∷ 103 ∷ 101 ∷ 100 ∷ 44 ∷ 32 ∷ 115 ∷ 51 ∷ 46 ∷ 99 ∷ 104 ∷ 97 ∷ 110 ∷ 103 ∷ 101 ∷ 100 ∷ 93 ∷ 32 ∷ []) ≡ Some (list_of (expression (path (variable (codes "s3")) ((codes "changed") ∷ [])) (expression (path (variable (codes "s3")) ((codes "changed") ∷ [])) (no_expressions))))
text_260 = refl

text_261 : expression_of (32 ∷ 91 ∷ 115 ∷ 51 ∷ 46 ∷ 114 ∷ 99 ∷ 44 ∷ 32 ∷ 115 ∷ 51 ∷ 46 ∷ 114 ∷ 99 ∷ 93 ∷ 32 ∷ []) ≡ Some (list_of (expression (path (variable (codes "s3")) ((codes "rc") ∷ [])) (expression (path (variable (codes "s3")) ((codes "rc") ∷ [])) (no_expressions))))
text_261 = refl

text_262 : expression_of (32 ∷ 91 ∷ 118 ∷ 49 ∷ 44 ∷ 32 ∷ 49 ∷ 93 ∷ 32 ∷ []) ≡ Some (list_of (expression (path (variable (codes "v1")) ([])) (expression (literal (int (pos 1))) (no_expressions))))
text_262 = refl

text_263 : expression_of (32 ∷ 91 ∷ 118 ∷ 51 ∷ 44 ∷ 32 ∷ 118 ∷ 51 ∷ 93 ∷ 32 ∷ []) ≡ Some (list_of (expression (path (variable (codes "v3")) ([])) (expression (path (variable (codes "v3")) ([])) (no_expressions))))
text_263 = refl

text_264 : expression_of (32 ∷ 91 ∷ 118 ∷ 51 ∷ 46 ∷ 99 ∷ 104 ∷ 97 ∷ 110 ∷ 103 ∷ 101 ∷ 100 ∷ 44 ∷ 32 ∷ 118 ∷ 51 ∷ 46 ∷ 99 ∷ 104 ∷ 97 ∷ 110 ∷ 103 ∷ 101 ∷ 100 ∷ 93 ∷ 32 ∷ []) ≡ Some (list_of (expression (path (variable (codes "v3")) ((codes "changed") ∷ [])) (expression (path (variable (codes "v3")) ((codes "changed") ∷ [])) (no_expressions))))
text_264 = refl

text_265 : expression_of (32 ∷ 91 ∷ 120 ∷ 93 ∷ 32 ∷ 124 ∷ 32 ∷ 108 ∷ 101 ∷ 110 ∷ 103 ∷ 116 ∷ 104 ∷ 32 ∷ []) ≡ Some (length_of (list_of (expression (path (variable (codes "x")) ([])) (no_expressions))))
text_265 = refl

text_266 : expression_of (codes " a ") ≡ Some (path (variable (codes "a")) ([]))
text_266 = refl

text_267 : expression_of (codes " a b ") ≡ None
text_267 = refl

text_268 : expression_of (codes " a is defined ") ≡ Some (defined (variable (codes "a")) ([]))
text_268 = refl

text_269 : expression_of (codes " a.k ") ≡ Some (path (variable (codes "a")) ((codes "k") ∷ []))
text_269 = refl

text_270 : expression_of (codes " ansible_facts ") ≡ Some (path (variable (codes "ansible_facts")) ([]))
text_270 = refl

text_271 : expression_of (32 ∷ 97 ∷ 110 ∷ 115 ∷ 105 ∷ 98 ∷ 108 ∷ 101 ∷ 95 ∷ 102 ∷ 97 ∷ 99 ∷ 116 ∷ 115 ∷ 32 ∷ 124 ∷ 32 ∷ 100 ∷ 101 ∷ 102 ∷ 97 ∷ 117 ∷ 108 ∷ 116 ∷ 40 ∷ 49 ∷ 41 ∷ 32 ∷ []) ≡ Some (path_or (variable (codes "ansible_facts")) ([]) (literal (int (pos 1))))
text_271 = refl

text_272 : expression_of (32 ∷ 97 ∷ 110 ∷ 115 ∷ 105 ∷ 98 ∷ 108 ∷ 101 ∷ 95 ∷ 102 ∷ 97 ∷ 99 ∷ 116 ∷ 115 ∷ 32 ∷ 124 ∷ 32 ∷ 100 ∷ 101 ∷ 102 ∷ 97 ∷ 117 ∷ 108 ∷ 116 ∷ 40 ∷ 91 ∷ 93 ∷ 41 ∷ 32 ∷ []) ≡ Some (path_or (variable (codes "ansible_facts")) ([]) (list_of (no_expressions)))
text_272 = refl

text_273 : expression_of (32 ∷ 97 ∷ 110 ∷ 115 ∷ 105 ∷ 98 ∷ 108 ∷ 101 ∷ 95 ∷ 102 ∷ 97 ∷ 99 ∷ 116 ∷ 115 ∷ 32 ∷ 124 ∷ 32 ∷ 100 ∷ 101 ∷ 102 ∷ 97 ∷ 117 ∷ 108 ∷ 116 ∷ 40 ∷ 115 ∷ 49 ∷ 41 ∷ 32 ∷ []) ≡ Some (path_or (variable (codes "ansible_facts")) ([]) (path (variable (codes "s1")) ([])))
text_273 = refl

text_274 : expression_of (32 ∷ 97 ∷ 110 ∷ 115 ∷ 105 ∷ 98 ∷ 108 ∷ 101 ∷ 95 ∷ 102 ∷ 97 ∷ 99 ∷ 116 ∷ 115 ∷ 32 ∷ 124 ∷ 32 ∷ 108 ∷ 101 ∷ 110 ∷ 103 ∷ 116 ∷ 104 ∷ 32 ∷ []) ≡ Some (length_of (path (variable (codes "ansible_facts")) ([])))
text_274 = refl

text_275 : expression_of (codes " ansible_facts.changed ") ≡ Some (path (variable (codes "ansible_facts")) ((codes "changed") ∷ []))
text_275 = refl

text_276 : expression_of (codes " ansible_facts.changed == 1 ") ≡ Some (comparison equal (path (variable (codes "ansible_facts")) ((codes "changed") ∷ [])) (literal (int (pos 1))))
text_276 = refl

text_277 : expression_of (codes " ansible_facts.hostname ") ≡ Some (path (variable (codes "ansible_facts")) ((codes "hostname") ∷ []))
text_277 = refl

text_278 : expression_of (32 ∷ 97 ∷ 110 ∷ 115 ∷ 105 ∷ 98 ∷ 108 ∷ 101 ∷ 95 ∷ 102 ∷ 97 ∷ 99 ∷ 116 ∷ 115 ∷ 46 ∷ 104 ∷ 111 ∷ 115 ∷ 116 ∷ 110 ∷ 97 ∷ 109 ∷ 101 ∷ 32 ∷ 124 ∷ 32 ∷ 100 ∷ 101 ∷ 102 ∷ 97 ∷ 117 ∷ 108 ∷ 116 ∷ 40 ∷ 49 ∷ 41 ∷ 32 ∷ []) ≡ Some (path_or (variable (codes "ansible_facts")) ((codes "hostname") ∷ []) (literal (int (pos 1))))
text_278 = refl

text_279 : expression_of (32 ∷ 97 ∷ 110 ∷ 115 ∷ 105 ∷ 98 ∷ 108 ∷ 101 ∷ 95 ∷ 102 ∷ 97 ∷ 99 ∷ 116 ∷ 115 ∷ 46 ∷ 104 ∷ 111 ∷ 115 ∷ 116 ∷ 110 ∷ 97 ∷ 109 ∷ 101 ∷ 32 ∷ 124 ∷ 32 ∷ 100 ∷ 101 ∷ 102 ∷ 97 ∷ 117 ∷ 108 ∷ 116 ∷ 40 ∷ 91 ∷ 93 ∷ 41 ∷ 32 ∷ []) ≡ Some (path_or (variable (codes "ansible_facts")) ((codes "hostname") ∷ []) (list_of (no_expressions)))
text_279 = refl

text_280 : expression_of (32 ∷ 97 ∷ 110 ∷ 115 ∷ 105 ∷ 98 ∷ 108 ∷ 101 ∷ 95 ∷ 102 ∷ 97 ∷ 99 ∷ 116 ∷ 115 ∷ 46 ∷ 104 ∷ 111 ∷ 115 ∷ 116 ∷ 110 ∷ 97 ∷ 109 ∷ 101 ∷ 32 ∷ 124 ∷ 32 ∷ 100 ∷ 101 ∷ 102 ∷ 97 ∷ 117 ∷ 108 ∷ 116 ∷ 40 ∷ 115 ∷ 49 ∷ 41 ∷ 32 ∷ []) ≡ Some (path_or (variable (codes "ansible_facts")) ((codes "hostname") ∷ []) (path (variable (codes "s1")) ([])))
text_280 = refl

text_281 : expression_of (32 ∷ 97 ∷ 110 ∷ 115 ∷ 105 ∷ 98 ∷ 108 ∷ 101 ∷ 95 ∷ 102 ∷ 97 ∷ 99 ∷ 116 ∷ 115 ∷ 46 ∷ 104 ∷ 111 ∷ 115 ∷ 116 ∷ 110 ∷ 97 ∷ 109 ∷ 101 ∷ 32 ∷ 124 ∷ 32 ∷ 108 ∷ 101 ∷ 110 ∷ 103 ∷ 116 ∷ 104 ∷ 32 ∷ []) ≡ Some (length_of (path (variable (codes "ansible_facts")) ((codes "hostname") ∷ [])))
text_281 = refl

text_282 : expression_of (codes " ansible_facts.k ") ≡ Some (path (variable (codes "ansible_facts")) ((codes "k") ∷ []))
text_282 = refl

text_283 : expression_of (32 ∷ 97 ∷ 110 ∷ 115 ∷ 105 ∷ 98 ∷ 108 ∷ 101 ∷ 95 ∷ 102 ∷ 97 ∷ 99 ∷ 116 ∷ 115 ∷ 46 ∷ 107 ∷ 32 ∷ 124 ∷ 32 ∷ 100 ∷ 101 ∷ 102 ∷ 97 ∷ 117 ∷ 108 ∷ 116 ∷ 40 ∷ 91 ∷ 93 ∷ 41 ∷ 32 ∷ []) ≡ Some (path_or (variable (codes "ansible_facts")) ((codes "k") ∷ []) (list_of (no_expressions)))
text_283 = refl

text_284 : expression_of (codes " ansible_facts.msg is defined ") ≡ Some (defined (variable (codes "ansible_facts")) ((codes "msg") ∷ []))
text_284 = refl

text_285 : expression_of (32 ∷ 97 ∷ 110 ∷ 115 ∷ 105 ∷ 98 ∷ 108 ∷ 101 ∷ 95 ∷ 102 ∷ 97 ∷ 99 ∷ 116 ∷ 115 ∷ 46 ∷ 109 ∷ 115 ∷ 103 ∷ 32 ∷ 124 ∷ 32 ∷ 108 ∷ 101 ∷ 110 ∷ 103 ∷ 116 ∷ 104 ∷ 32 ∷ []) ≡ Some (length_of (path (variable (codes "ansible_facts")) ((codes "msg") ∷ [])))
text_285 = refl

text_286 : expression_of (codes " ansible_facts.results ") ≡ Some (path (variable (codes "ansible_facts")) ((codes "results") ∷ []))
text_286 = refl

text_287 : expression_of (32 ∷ 97 ∷ 110 ∷ 115 ∷ 105 ∷ 98 ∷ 108 ∷ 101 ∷ 95 ∷ 102 ∷ 97 ∷ 99 ∷ 116 ∷ 115 ∷ 46 ∷ 114 ∷ 101 ∷ 115 ∷ 117 ∷ 108 ∷ 116 ∷ 115 ∷ 32 ∷ 124 ∷ 32 ∷ 108 ∷ 101 ∷ 110 ∷ 103 ∷ 116 ∷ 104 ∷ 32 ∷ []) ≡ Some (length_of (path (variable (codes "ansible_facts")) ((codes "results") ∷ [])))
text_287 = refl

text_288 : expression_of (codes " ansible_facts.stat.isdir ") ≡ Some (path (variable (codes "ansible_facts")) ((codes "stat") ∷ (codes "isdir") ∷ []))
text_288 = refl

text_289 : expression_of (codes " ansible_facts.stat.isdir is failed ") ≡ Some (path_status is_failed (variable (codes "ansible_facts")) ((codes "stat") ∷ (codes "isdir") ∷ []))
text_289 = refl

text_290 : expression_of (codes " ansible_facts.stdout_lines ") ≡ Some (path (variable (codes "ansible_facts")) ((codes "stdout_lines") ∷ []))
text_290 = refl

text_291 : expression_of (codes " ansible_failed_result ") ≡ Some (path (variable (codes "ansible_failed_result")) ([]))
text_291 = refl

text_292 : expression_of (codes " ansible_failed_result is undefined ") ≡ Some (negation (defined (variable (codes "ansible_failed_result")) ([])))
text_292 = refl

text_293 : expression_of (codes " ansible_failed_result.changed ") ≡ Some (path (variable (codes "ansible_failed_result")) ((codes "changed") ∷ []))
text_293 = refl

text_294 : expression_of (codes " ansible_failed_result.k ") ≡ Some (path (variable (codes "ansible_failed_result")) ((codes "k") ∷ []))
text_294 = refl

text_295 : expression_of (32 ∷ 97 ∷ 110 ∷ 115 ∷ 105 ∷ 98 ∷ 108 ∷ 101 ∷ 95 ∷ 102 ∷ 97 ∷ 105 ∷ 108 ∷ 101 ∷ 100 ∷ 95 ∷ 114 ∷ 101 ∷ 115 ∷ 117 ∷ 108 ∷ 116 ∷ 46 ∷ 107 ∷ 32 ∷ 124 ∷ 32 ∷ 108 ∷ 101 ∷ 110 ∷ 103 ∷ 116 ∷ 104 ∷ 32 ∷ []) ≡ Some (length_of (path (variable (codes "ansible_failed_result")) ((codes "k") ∷ [])))
text_295 = refl

text_296 : expression_of (codes " ansible_failed_result.msg ") ≡ Some (path (variable (codes "ansible_failed_result")) ((codes "msg") ∷ []))
text_296 = refl

text_297 : expression_of (32 ∷ 97 ∷ 110 ∷ 115 ∷ 105 ∷ 98 ∷ 108 ∷ 101 ∷ 95 ∷ 102 ∷ 97 ∷ 105 ∷ 108 ∷ 101 ∷ 100 ∷ 95 ∷ 114 ∷ 101 ∷ 115 ∷ 117 ∷ 108 ∷ 116 ∷ 46 ∷ 109 ∷ 115 ∷ 103 ∷ 32 ∷ 124 ∷ 32 ∷ 100 ∷ 101 ∷ 102 ∷ 97 ∷ 117 ∷ 108 ∷ 116 ∷ 40 ∷ 49 ∷ 41 ∷ 32 ∷ []) ≡ Some (path_or (variable (codes "ansible_failed_result")) ((codes "msg") ∷ []) (literal (int (pos 1))))
text_297 = refl

text_298 : expression_of (32 ∷ 97 ∷ 110 ∷ 115 ∷ 105 ∷ 98 ∷ 108 ∷ 101 ∷ 95 ∷ 102 ∷ 97 ∷ 105 ∷ 108 ∷ 101 ∷ 100 ∷ 95 ∷ 114 ∷ 101 ∷ 115 ∷ 117 ∷ 108 ∷ 116 ∷ 46 ∷ 109 ∷ 115 ∷ 103 ∷ 32 ∷ 124 ∷ 32 ∷ 100 ∷ 101 ∷ 102 ∷ 97 ∷ 117 ∷ 108 ∷ 116 ∷ 40 ∷ 91 ∷ 93 ∷ 41 ∷ 32 ∷ []) ≡ Some (path_or (variable (codes "ansible_failed_result")) ((codes "msg") ∷ []) (list_of (no_expressions)))
text_298 = refl

text_299 : expression_of (32 ∷ 97 ∷ 110 ∷ 115 ∷ 105 ∷ 98 ∷ 108 ∷ 101 ∷ 95 ∷ 102 ∷ 97 ∷ 105 ∷ 108 ∷ 101 ∷ 100 ∷ 95 ∷ 114 ∷ 101 ∷ 115 ∷ 117 ∷ 108 ∷ 116 ∷ 46 ∷ 109 ∷ 115 ∷ 103 ∷ 32 ∷ 124 ∷ 32 ∷ 100 ∷ 101 ∷ 102 ∷ 97 ∷ 117 ∷ 108 ∷ 116 ∷ 40 ∷ 115 ∷ 49 ∷ 41 ∷ 32 ∷ []) ≡ Some (path_or (variable (codes "ansible_failed_result")) ((codes "msg") ∷ []) (path (variable (codes "s1")) ([])))
text_299 = refl

text_300 : expression_of (32 ∷ 97 ∷ 110 ∷ 115 ∷ 105 ∷ 98 ∷ 108 ∷ 101 ∷ 95 ∷ 102 ∷ 97 ∷ 105 ∷ 108 ∷ 101 ∷ 100 ∷ 95 ∷ 114 ∷ 101 ∷ 115 ∷ 117 ∷ 108 ∷ 116 ∷ 46 ∷ 109 ∷ 115 ∷ 103 ∷ 32 ∷ 124 ∷ 32 ∷ 108 ∷ 101 ∷ 110 ∷ 103 ∷ 116 ∷ 104 ∷ 32 ∷ []) ≡ Some (length_of (path (variable (codes "ansible_failed_result")) ((codes "msg") ∷ [])))
text_300 = refl

text_301 : expression_of (codes " ansible_failed_result.results ") ≡ Some (path (variable (codes "ansible_failed_result")) ((codes "results") ∷ []))
text_301 = refl

text_302 : expression_of (codes " ansible_failed_result.stat.isdir ") ≡ Some (path (variable (codes "ansible_failed_result")) ((codes "stat") ∷ (codes "isdir") ∷ []))
text_302 = refl

text_303 : expression_of (codes " ansible_failed_result.stat.isdir == 1 ") ≡ Some (comparison equal (path (variable (codes "ansible_failed_result")) ((codes "stat") ∷ (codes "isdir") ∷ [])) (literal (int (pos 1))))
text_303 = refl

text_304 : expression_of (codes " ansible_failed_result.stdout_lines ") ≡ Some (path (variable (codes "ansible_failed_result")) ((codes "stdout_lines") ∷ []))
text_304 = refl

text_305 : expression_of (codes " ansible_hostname ") ≡ Some (path (variable (codes "ansible_hostname")) ([]))
text_305 = refl

text_306 : expression_of (32 ∷ 97 ∷ 110 ∷ 115 ∷ 105 ∷ 98 ∷ 108 ∷ 101 ∷ 95 ∷ 104 ∷ 111 ∷ 115 ∷ 116 ∷ 110 ∷ 97 ∷ 109 ∷ 101 ∷ 32 ∷ 124 ∷ 32 ∷ 100 ∷ 101 ∷ 102 ∷ 97 ∷ 117 ∷ 108 ∷ 116 ∷ 40 ∷ 49 ∷ 41 ∷ 32 ∷ []) ≡ Some (path_or (variable (codes "ansible_hostname")) ([]) (literal (int (pos 1))))
text_306 = refl

text_307 : expression_of (32 ∷ 97 ∷ 110 ∷ 115 ∷ 105 ∷ 98 ∷ 108 ∷ 101 ∷ 95 ∷ 104 ∷ 111 ∷ 115 ∷ 116 ∷ 110 ∷ 97 ∷ 109 ∷ 101 ∷ 32 ∷ 124 ∷ 32 ∷ 100 ∷ 101 ∷ 102 ∷ 97 ∷ 117 ∷ 108 ∷ 116 ∷ 40 ∷ 91 ∷ 93 ∷ 41 ∷ 32 ∷ []) ≡ Some (path_or (variable (codes "ansible_hostname")) ([]) (list_of (no_expressions)))
text_307 = refl

text_308 : expression_of (32 ∷ 97 ∷ 110 ∷ 115 ∷ 105 ∷ 98 ∷ 108 ∷ 101 ∷ 95 ∷ 104 ∷ 111 ∷ 115 ∷ 116 ∷ 110 ∷ 97 ∷ 109 ∷ 101 ∷ 32 ∷ 124 ∷ 32 ∷ 100 ∷ 101 ∷ 102 ∷ 97 ∷ 117 ∷ 108 ∷ 116 ∷ 40 ∷ 114 ∷ 46 ∷ 114 ∷ 99 ∷ 41 ∷ 32 ∷ []) ≡ Some (path_or (variable (codes "ansible_hostname")) ([]) (path (variable (codes "r")) ((codes "rc") ∷ [])))
text_308 = refl

text_309 : expression_of (32 ∷ 97 ∷ 110 ∷ 115 ∷ 105 ∷ 98 ∷ 108 ∷ 101 ∷ 95 ∷ 104 ∷ 111 ∷ 115 ∷ 116 ∷ 110 ∷ 97 ∷ 109 ∷ 101 ∷ 32 ∷ 124 ∷ 32 ∷ 100 ∷ 101 ∷ 102 ∷ 97 ∷ 117 ∷ 108 ∷ 116 ∷ 40 ∷ 115 ∷ 49 ∷ 41 ∷ 32 ∷ []) ≡ Some (path_or (variable (codes "ansible_hostname")) ([]) (path (variable (codes "s1")) ([])))
text_309 = refl

text_310 : expression_of (32 ∷ 97 ∷ 110 ∷ 115 ∷ 105 ∷ 98 ∷ 108 ∷ 101 ∷ 95 ∷ 104 ∷ 111 ∷ 115 ∷ 116 ∷ 110 ∷ 97 ∷ 109 ∷ 101 ∷ 32 ∷ 124 ∷ 32 ∷ 108 ∷ 101 ∷ 110 ∷ 103 ∷ 116 ∷ 104 ∷ 32 ∷ []) ≡ Some (length_of (path (variable (codes "ansible_hostname")) ([])))
text_310 = refl

text_311 : expression_of (codes " ansible_hostname.changed ") ≡ Some (path (variable (codes "ansible_hostname")) ((codes "changed") ∷ []))
text_311 = refl

text_312 : expression_of (codes " ansible_hostname.hostname ") ≡ Some (path (variable (codes "ansible_hostname")) ((codes "hostname") ∷ []))
text_312 = refl

text_313 : expression_of (codes " ansible_hostname.k ") ≡ Some (path (variable (codes "ansible_hostname")) ((codes "k") ∷ []))
text_313 = refl

text_314 : expression_of (codes " ansible_hostname.msg ") ≡ Some (path (variable (codes "ansible_hostname")) ((codes "msg") ∷ []))
text_314 = refl

text_315 : expression_of (codes " ansible_hostname.os_family ") ≡ Some (path (variable (codes "ansible_hostname")) ((codes "os_family") ∷ []))
text_315 = refl

text_316 : expression_of (32 ∷ 97 ∷ 110 ∷ 115 ∷ 105 ∷ 98 ∷ 108 ∷ 101 ∷ 95 ∷ 104 ∷ 111 ∷ 115 ∷ 116 ∷ 110 ∷ 97 ∷ 109 ∷ 101 ∷ 46 ∷ 115 ∷ 116 ∷ 97 ∷ 116 ∷ 46 ∷ 105 ∷ 115 ∷ 100 ∷ 105 ∷ 114 ∷ 32 ∷ 124 ∷ 32 ∷ 100 ∷ 101 ∷ 102 ∷ 97 ∷ 117 ∷ 108 ∷ 116 ∷ 40 ∷ 114 ∷ 46 ∷ 102 ∷ 97 ∷ 105 ∷ 108 ∷ 101 ∷ 100 ∷ 41 ∷ 32 ∷ []) ≡ Some (path_or (variable (codes "ansible_hostname")) ((codes "stat") ∷ (codes "isdir") ∷ []) (path (variable (codes "r")) ((codes "failed") ∷ [])))
text_316 = refl

text_317 : expression_of (codes " ansible_hostname.stdout ") ≡ Some (path (variable (codes "ansible_hostname")) ((codes "stdout") ∷ []))
text_317 = refl

text_318 : expression_of (codes " ansible_hostname.stdout_lines ") ≡ Some (path (variable (codes "ansible_hostname")) ((codes "stdout_lines") ∷ []))
text_318 = refl

text_319 : expression_of (codes " ansible_os_family ") ≡ Some (path (variable (codes "ansible_os_family")) ([]))
text_319 = refl

text_320 : expression_of (32 ∷ 97 ∷ 110 ∷ 115 ∷ 105 ∷ 98 ∷ 108 ∷ 101 ∷ 95 ∷ 111 ∷ 115 ∷ 95 ∷ 102 ∷ 97 ∷ 109 ∷ 105 ∷ 108 ∷ 121 ∷ 32 ∷ 124 ∷ 32 ∷ 100 ∷ 101 ∷ 102 ∷ 97 ∷ 117 ∷ 108 ∷ 116 ∷ 40 ∷ 49 ∷ 41 ∷ 32 ∷ []) ≡ Some (path_or (variable (codes "ansible_os_family")) ([]) (literal (int (pos 1))))
text_320 = refl

text_321 : expression_of (32 ∷ 97 ∷ 110 ∷ 115 ∷ 105 ∷ 98 ∷ 108 ∷ 101 ∷ 95 ∷ 111 ∷ 115 ∷ 95 ∷ 102 ∷ 97 ∷ 109 ∷ 105 ∷ 108 ∷ 121 ∷ 32 ∷ 124 ∷ 32 ∷ 108 ∷ 101 ∷ 110 ∷ 103 ∷ 116 ∷ 104 ∷ 32 ∷ []) ≡ Some (length_of (path (variable (codes "ansible_os_family")) ([])))
text_321 = refl

text_322 : expression_of (codes " ansible_play_batch ") ≡ Some (path (variable (codes "ansible_play_batch")) ([]))
text_322 = refl

text_323 : expression_of (32 ∷ 97 ∷ 110 ∷ 115 ∷ 105 ∷ 98 ∷ 108 ∷ 101 ∷ 95 ∷ 112 ∷ 108 ∷ 97 ∷ 121 ∷ 95 ∷ 98 ∷ 97 ∷ 116 ∷ 99 ∷ 104 ∷ 32 ∷ 124 ∷ 32 ∷ 100 ∷ 101 ∷ 102 ∷ 97 ∷ 117 ∷ 108 ∷ 116 ∷ 40 ∷ 49 ∷ 41 ∷ 32 ∷ []) ≡ Some (path_or (variable (codes "ansible_play_batch")) ([]) (literal (int (pos 1))))
text_323 = refl

text_324 : expression_of (32 ∷ 97 ∷ 110 ∷ 115 ∷ 105 ∷ 98 ∷ 108 ∷ 101 ∷ 95 ∷ 112 ∷ 108 ∷ 97 ∷ 121 ∷ 95 ∷ 98 ∷ 97 ∷ 116 ∷ 99 ∷ 104 ∷ 32 ∷ 124 ∷ 32 ∷ 100 ∷ 101 ∷ 102 ∷ 97 ∷ 117 ∷ 108 ∷ 116 ∷ 40 ∷ 91 ∷ 93 ∷ 41 ∷ 32 ∷ []) ≡ Some (path_or (variable (codes "ansible_play_batch")) ([]) (list_of (no_expressions)))
text_324 = refl

text_325 : expression_of (32 ∷ 97 ∷ 110 ∷ 115 ∷ 105 ∷ 98 ∷ 108 ∷ 101 ∷ 95 ∷ 112 ∷ 108 ∷ 97 ∷ 121 ∷ 95 ∷ 98 ∷ 97 ∷ 116 ∷ 99 ∷ 104 ∷ 32 ∷ 124 ∷ 32 ∷ 100 ∷ 101 ∷ 102 ∷ 97 ∷ 117 ∷ 108 ∷ 116 ∷ 40 ∷ 122 ∷ 122 ∷ 46 ∷ 115 ∷ 116 ∷ 100 ∷ 111 ∷ 117 ∷ 116 ∷ 95 ∷ 108 ∷ 105 ∷ 110 ∷ 101 ∷ 115 ∷ 41 ∷ 32 ∷ []) ≡ Some (path_or (variable (codes "ansible_play_batch")) ([]) (path (variable (codes "zz")) ((codes "stdout_lines") ∷ [])))
text_325 = refl

text_326 : expression_of (32 ∷ 97 ∷ 110 ∷ 115 ∷ 105 ∷ 98 ∷ 108 ∷ 101 ∷ 95 ∷ 112 ∷ 108 ∷ 97 ∷ 121 ∷ 95 ∷ 98 ∷ 97 ∷ 116 ∷ 99 ∷ 104 ∷ 32 ∷ 124 ∷ 32 ∷ 108 ∷ 101 ∷ 110 ∷ 103 ∷ 116 ∷ 104 ∷ 32 ∷ []) ≡ Some (length_of (path (variable (codes "ansible_play_batch")) ([])))
text_326 = refl

text_327 : expression_of (codes " ansible_play_batch.hostname ") ≡ Some (path (variable (codes "ansible_play_batch")) ((codes "hostname") ∷ []))
text_327 = refl

text_328 : expression_of (codes " ansible_play_batch.k ") ≡ Some (path (variable (codes "ansible_play_batch")) ((codes "k") ∷ []))
text_328 = refl

text_329 : expression_of (codes " ansible_play_batch.msg ") ≡ Some (path (variable (codes "ansible_play_batch")) ((codes "msg") ∷ []))
text_329 = refl

text_330 : expression_of (32 ∷ 97 ∷ 110 ∷ 115 ∷ 105 ∷ 98 ∷ 108 ∷ 101 ∷ 95 ∷ 112 ∷ 108 ∷ 97 ∷ 121 ∷ 95 ∷ 98 ∷ 97 ∷ 116 ∷ 99 ∷ 104 ∷ 46 ∷ 111 ∷ 115 ∷ 95 ∷ 102 ∷ 97 ∷ 109 ∷ 105 ∷ 108 ∷ 121 ∷ 32 ∷ 124 ∷ 32 ∷ 100 ∷ 101 ∷ 102 ∷ 97 ∷ 117 ∷ 108 ∷ 116 ∷ 40 ∷ 49 ∷ 41 ∷ 32 ∷ []) ≡ Some (path_or (variable (codes "ansible_play_batch")) ((codes "os_family") ∷ []) (literal (int (pos 1))))
text_330 = refl

text_331 : expression_of (codes " ansible_play_batch.results ") ≡ Some (path (variable (codes "ansible_play_batch")) ((codes "results") ∷ []))
text_331 = refl

text_332 : expression_of (32 ∷ 97 ∷ 110 ∷ 115 ∷ 105 ∷ 98 ∷ 108 ∷ 101 ∷ 95 ∷ 112 ∷ 108 ∷ 97 ∷ 121 ∷ 95 ∷ 98 ∷ 97 ∷ 116 ∷ 99 ∷ 104 ∷ 46 ∷ 114 ∷ 101 ∷ 115 ∷ 117 ∷ 108 ∷ 116 ∷ 115 ∷ 32 ∷ 124 ∷ 32 ∷ 108 ∷ 101 ∷ 110 ∷ 103 ∷ 116 ∷ 104 ∷ 32 ∷ []) ≡ Some (length_of (path (variable (codes "ansible_play_batch")) ((codes "results") ∷ [])))
text_332 = refl

text_333 : expression_of (codes " ansible_play_batch.stat.isdir ") ≡ Some (path (variable (codes "ansible_play_batch")) ((codes "stat") ∷ (codes "isdir") ∷ []))
text_333 = refl

text_334 : expression_of (32 ∷ 97 ∷ 110 ∷ 115 ∷ 105 ∷ 98 ∷ 108 ∷ 101 ∷ 95 ∷ 112 ∷ 108 ∷ 97 ∷ 121 ∷ 95 ∷ 98 ∷ 97 ∷ 116 ∷ 99 ∷ 104 ∷ 46 ∷ 115 ∷ 116 ∷ 97 ∷ 116 ∷ 46 ∷ 105 ∷ 115 ∷ 100 ∷ 105 ∷ 114 ∷ 32 ∷ 124 ∷ 32 ∷ 108 ∷ 101 ∷ 110 ∷ 103 ∷ 116 ∷ 104 ∷ 32 ∷ []) ≡ Some (length_of (path (variable (codes "ansible_play_batch")) ((codes "stat") ∷ (codes "isdir") ∷ [])))
text_334 = refl

text_335 : expression_of (codes " ansible_play_batch.stdout ") ≡ Some (path (variable (codes "ansible_play_batch")) ((codes "stdout") ∷ []))
text_335 = refl

text_336 : expression_of (codes " b ") ≡ Some (path (variable (codes "b")) ([]))
text_336 = refl

text_337 : expression_of (codes " false ") ≡ Some (literal (boolean false))
text_337 = refl

text_338 : expression_of (codes " group_names ") ≡ Some (path (variable (codes "group_names")) ([]))
text_338 = refl

text_339 : expression_of (codes " group_names is not defined ") ≡ Some (negation (defined (variable (codes "group_names")) ([])))
text_339 = refl

text_340 : expression_of (codes " group_names is not skipped ") ≡ Some (negation (path_status is_skipped (variable (codes "group_names")) ([])))
text_340 = refl

text_341 : expression_of (codes " group_names is skipped ") ≡ Some (path_status is_skipped (variable (codes "group_names")) ([]))
text_341 = refl

text_342 : expression_of (32 ∷ 103 ∷ 114 ∷ 111 ∷ 117 ∷ 112 ∷ 95 ∷ 110 ∷ 97 ∷ 109 ∷ 101 ∷ 115 ∷ 32 ∷ 124 ∷ 32 ∷ 100 ∷ 101 ∷ 102 ∷ 97 ∷ 117 ∷ 108 ∷ 116 ∷ 40 ∷ 49 ∷ 41 ∷ 32 ∷ []) ≡ Some (path_or (variable (codes "group_names")) ([]) (literal (int (pos 1))))
text_342 = refl

text_343 : expression_of (32 ∷ 103 ∷ 114 ∷ 111 ∷ 117 ∷ 112 ∷ 95 ∷ 110 ∷ 97 ∷ 109 ∷ 101 ∷ 115 ∷ 32 ∷ 124 ∷ 32 ∷ 100 ∷ 101 ∷ 102 ∷ 97 ∷ 117 ∷ 108 ∷ 116 ∷ 40 ∷ 91 ∷ 93 ∷ 41 ∷ 32 ∷ []) ≡ Some (path_or (variable (codes "group_names")) ([]) (list_of (no_expressions)))
text_343 = refl

text_344 : expression_of (32 ∷ 103 ∷ 114 ∷ 111 ∷ 117 ∷ 112 ∷ 95 ∷ 110 ∷ 97 ∷ 109 ∷ 101 ∷ 115 ∷ 32 ∷ 124 ∷ 32 ∷ 100 ∷ 101 ∷ 102 ∷ 97 ∷ 117 ∷ 108 ∷ 116 ∷ 40 ∷ 115 ∷ 49 ∷ 41 ∷ 32 ∷ []) ≡ Some (path_or (variable (codes "group_names")) ([]) (path (variable (codes "s1")) ([])))
text_344 = refl

text_345 : expression_of (32 ∷ 103 ∷ 114 ∷ 111 ∷ 117 ∷ 112 ∷ 95 ∷ 110 ∷ 97 ∷ 109 ∷ 101 ∷ 115 ∷ 32 ∷ 124 ∷ 32 ∷ 108 ∷ 101 ∷ 110 ∷ 103 ∷ 116 ∷ 104 ∷ 32 ∷ []) ≡ Some (length_of (path (variable (codes "group_names")) ([])))
text_345 = refl

text_346 : expression_of (codes " group_names.changed ") ≡ Some (path (variable (codes "group_names")) ((codes "changed") ∷ []))
text_346 = refl

text_347 : expression_of (32 ∷ 103 ∷ 114 ∷ 111 ∷ 117 ∷ 112 ∷ 95 ∷ 110 ∷ 97 ∷ 109 ∷ 101 ∷ 115 ∷ 46 ∷ 99 ∷ 104 ∷ 97 ∷ 110 ∷ 103 ∷ 101 ∷ 100 ∷ 32 ∷ 124 ∷ 32 ∷ 108 ∷ 101 ∷ 110 ∷ 103 ∷ 116 ∷ 104 ∷ 32 ∷ []) ≡ Some (length_of (path (variable (codes "group_names")) ((codes "changed") ∷ [])))
text_347 = refl

text_348 : expression_of (codes " group_names.hostname ") ≡ Some (path (variable (codes "group_names")) ((codes "hostname") ∷ []))
text_348 = refl

text_349 : expression_of (32 ∷ 103 ∷ 114 ∷ 111 ∷ 117 ∷ 112 ∷ 95 ∷ 110 ∷ 97 ∷ 109 ∷ 101 ∷ 115 ∷ 46 ∷ 104 ∷ 111 ∷ 115 ∷ 116 ∷ 110 ∷ 97 ∷ 109 ∷ 101 ∷ 32 ∷ 124 ∷ 32 ∷ 100 ∷ 101 ∷ 102 ∷ 97 ∷ 117 ∷ 108 ∷ 116 ∷ 40 ∷ 118 ∷ 50 ∷ 46 ∷ 107 ∷ 41 ∷ 32 ∷ []) ≡ Some (path_or (variable (codes "group_names")) ((codes "hostname") ∷ []) (path (variable (codes "v2")) ((codes "k") ∷ [])))
text_349 = refl

text_350 : expression_of (codes " group_names.k ") ≡ Some (path (variable (codes "group_names")) ((codes "k") ∷ []))
text_350 = refl

text_351 : expression_of (codes " group_names.msg ") ≡ Some (path (variable (codes "group_names")) ((codes "msg") ∷ []))
text_351 = refl

text_352 : expression_of (codes " group_names.os_family ") ≡ Some (path (variable (codes "group_names")) ((codes "os_family") ∷ []))
text_352 = refl

text_353 : expression_of (32 ∷ 103 ∷ 114 ∷ 111 ∷ 117 ∷ 112 ∷ 95 ∷ 110 ∷ 97 ∷ 109 ∷ 101 ∷ 115 ∷ 46 ∷ 111 ∷ 115 ∷ 95 ∷ 102 ∷ 97 ∷ 109 ∷ 105 ∷ 108 ∷ 121 ∷ 32 ∷ 124 ∷ 32 ∷ 100 ∷ 101 ∷ 102 ∷ 97 ∷ 117 ∷ 108 ∷ 116 ∷ 40 ∷ 121 ∷ 41 ∷ 32 ∷ []) ≡ Some (path_or (variable (codes "group_names")) ((codes "os_family") ∷ []) (path (variable (codes "y")) ([])))
text_353 = refl

text_354 : expression_of (codes " group_names.rc ") ≡ Some (path (variable (codes "group_names")) ((codes "rc") ∷ []))
text_354 = refl

text_355 : expression_of (codes " group_names.rc is undefined ") ≡ Some (negation (defined (variable (codes "group_names")) ((codes "rc") ∷ [])))
text_355 = refl

text_356 : expression_of (codes " group_names.results is not defined ") ≡ Some (negation (defined (variable (codes "group_names")) ((codes "results") ∷ [])))
text_356 = refl

text_357 : expression_of (codes " group_names.stdout ") ≡ Some (path (variable (codes "group_names")) ((codes "stdout") ∷ []))
text_357 = refl

text_358 : expression_of (codes " group_names.stdout is changed ") ≡ Some (path_status is_changed (variable (codes "group_names")) ((codes "stdout") ∷ []))
text_358 = refl

text_359 : expression_of (codes " group_names.stdout_lines ") ≡ Some (path (variable (codes "group_names")) ((codes "stdout_lines") ∷ []))
text_359 = refl

text_360 : expression_of (32 ∷ 103 ∷ 114 ∷ 111 ∷ 117 ∷ 112 ∷ 95 ∷ 110 ∷ 97 ∷ 109 ∷ 101 ∷ 115 ∷ 46 ∷ 115 ∷ 116 ∷ 100 ∷ 111 ∷ 117 ∷ 116 ∷ 95 ∷ 108 ∷ 105 ∷ 110 ∷ 101 ∷ 115 ∷ 32 ∷ 124 ∷ 32 ∷ 108 ∷ 101 ∷ 110 ∷ 103 ∷ 116 ∷ 104 ∷ 32 ∷ []) ≡ Some (length_of (path (variable (codes "group_names")) ((codes "stdout_lines") ∷ [])))
text_360 = refl

text_361 : expression_of (codes " groups.all ") ≡ Some (path (variable (codes "groups")) ((codes "all") ∷ []))
text_361 = refl

text_362 : expression_of (32 ∷ 103 ∷ 114 ∷ 111 ∷ 117 ∷ 112 ∷ 115 ∷ 46 ∷ 97 ∷ 108 ∷ 108 ∷ 32 ∷ 124 ∷ 32 ∷ 100 ∷ 101 ∷ 102 ∷ 97 ∷ 117 ∷ 108 ∷ 116 ∷ 40 ∷ 49 ∷ 41 ∷ 32 ∷ []) ≡ Some (path_or (variable (codes "groups")) ((codes "all") ∷ []) (literal (int (pos 1))))
text_362 = refl

text_363 : expression_of (32 ∷ 103 ∷ 114 ∷ 111 ∷ 117 ∷ 112 ∷ 115 ∷ 46 ∷ 97 ∷ 108 ∷ 108 ∷ 32 ∷ 124 ∷ 32 ∷ 100 ∷ 101 ∷ 102 ∷ 97 ∷ 117 ∷ 108 ∷ 116 ∷ 40 ∷ 91 ∷ 93 ∷ 41 ∷ 32 ∷ []) ≡ Some (path_or (variable (codes "groups")) ((codes "all") ∷ []) (list_of (no_expressions)))
text_363 = refl

text_364 : expression_of (32 ∷ 103 ∷ 114 ∷ 111 ∷ 117 ∷ 112 ∷ 115 ∷ 46 ∷ 97 ∷ 108 ∷ 108 ∷ 32 ∷ 124 ∷ 32 ∷ 100 ∷ 101 ∷ 102 ∷ 97 ∷ 117 ∷ 108 ∷ 116 ∷ 40 ∷ 115 ∷ 49 ∷ 41 ∷ 32 ∷ []) ≡ Some (path_or (variable (codes "groups")) ((codes "all") ∷ []) (path (variable (codes "s1")) ([])))
text_364 = refl

text_365 : expression_of (32 ∷ 103 ∷ 114 ∷ 111 ∷ 117 ∷ 112 ∷ 115 ∷ 46 ∷ 97 ∷ 108 ∷ 108 ∷ 32 ∷ 124 ∷ 32 ∷ 108 ∷ 101 ∷ 110 ∷ 103 ∷ 116 ∷ 104 ∷ 32 ∷ []) ≡ Some (length_of (path (variable (codes "groups")) ((codes "all") ∷ [])))
text_365 = refl

text_366 : expression_of (codes " groups.g ") ≡ Some (path (variable (codes "groups")) ((codes "g") ∷ []))
text_366 = refl

text_367 : expression_of (codes " groups.g == 1 ") ≡ Some (comparison equal (path (variable (codes "groups")) ((codes "g") ∷ [])) (literal (int (pos 1))))
text_367 = refl

text_368 : expression_of (32 ∷ 103 ∷ 114 ∷ 111 ∷ 117 ∷ 112 ∷ 115 ∷ 46 ∷ 103 ∷ 32 ∷ 124 ∷ 32 ∷ 108 ∷ 101 ∷ 110 ∷ 103 ∷ 116 ∷ 104 ∷ 32 ∷ []) ≡ Some (length_of (path (variable (codes "groups")) ((codes "g") ∷ [])))
text_368 = refl

text_369 : expression_of (32 ∷ 104 ∷ 111 ∷ 115 ∷ 116 ∷ 118 ∷ 97 ∷ 114 ∷ 115 ∷ 91 ∷ 105 ∷ 110 ∷ 118 ∷ 101 ∷ 110 ∷ 116 ∷ 111 ∷ 114 ∷ 121 ∷ 95 ∷ 104 ∷ 111 ∷ 115 ∷ 116 ∷ 110 ∷ 97 ∷ 109 ∷ 101 ∷ 93 ∷ 46 ∷ 105 ∷ 49 ∷ 32 ∷ []) ≡ Some (path (other this_host (codes "i1")) ([]))
text_369 = refl

text_370 : expression_of (32 ∷ 104 ∷ 111 ∷ 115 ∷ 116 ∷ 118 ∷ 97 ∷ 114 ∷ 115 ∷ 91 ∷ 105 ∷ 110 ∷ 118 ∷ 101 ∷ 110 ∷ 116 ∷ 111 ∷ 114 ∷ 121 ∷ 95 ∷ 104 ∷ 111 ∷ 115 ∷ 116 ∷ 110 ∷ 97 ∷ 109 ∷ 101 ∷ 93 ∷ 46 ∷ 105 ∷ 50 ∷ 32 ∷ []) ≡ Some (path (other this_host (codes "i2")) ([]))
text_370 = refl

text_371 : expression_of (32 ∷ 104 ∷ 111 ∷ 115 ∷ 116 ∷ 118 ∷ 97 ∷ 114 ∷ 115 ∷ 91 ∷ 105 ∷ 110 ∷ 118 ∷ 101 ∷ 110 ∷ 116 ∷ 111 ∷ 114 ∷ 121 ∷ 95 ∷ 104 ∷ 111 ∷ 115 ∷ 116 ∷ 110 ∷ 97 ∷ 109 ∷ 101 ∷ 93 ∷ 46 ∷ 105 ∷ 50 ∷ 46 ∷ 102 ∷ 32 ∷ []) ≡ Some (path (other this_host (codes "i2")) ((codes "f") ∷ []))
text_371 = refl

text_372 : expression_of (32 ∷ 104 ∷ 111 ∷ 115 ∷ 116 ∷ 118 ∷ 97 ∷ 114 ∷ 115 ∷ 91 ∷ 105 ∷ 110 ∷ 118 ∷ 101 ∷ 110 ∷ 116 ∷ 111 ∷ 114 ∷ 121 ∷ 95 ∷ 104 ∷ 111 ∷ 115 ∷ 116 ∷ 110 ∷ 97 ∷ 109 ∷ 101 ∷ 93 ∷ 46 ∷ 105 ∷ 110 ∷ 118 ∷ 32 ∷ []) ≡ Some (path (other this_host (codes "inv")) ([]))
text_372 = refl

text_373 : expression_of (32 ∷ 104 ∷ 111 ∷ 115 ∷ 116 ∷ 118 ∷ 97 ∷ 114 ∷ 115 ∷ 91 ∷ 105 ∷ 110 ∷ 118 ∷ 101 ∷ 110 ∷ 116 ∷ 111 ∷ 114 ∷ 121 ∷ 95 ∷ 104 ∷ 111 ∷ 115 ∷ 116 ∷ 110 ∷ 97 ∷ 109 ∷ 101 ∷ 93 ∷ 46 ∷ 105 ∷ 110 ∷ 118 ∷ 32 ∷ 105 ∷ 115 ∷ 32 ∷ 110 ∷ 111 ∷ 116 ∷ 32 ∷ 115 ∷ 107 ∷ 105 ∷ 112 ∷ 112 ∷ 101 ∷ 100 ∷ 32 ∷ []) ≡ Some (negation (path_status is_skipped (other this_host (codes "inv")) ([])))
text_373 = refl

text_374 : expression_of (32 ∷ 104 ∷ 111 ∷ 115 ∷ 116 ∷ 118 ∷ 97 ∷ 114 ∷ 115 ∷ 91 ∷ 105 ∷ 110 ∷ 118 ∷ 101 ∷ 110 ∷ 116 ∷ 111 ∷ 114 ∷ 121 ∷ 95 ∷ 104 ∷ 111 ∷ 115 ∷ 116 ∷ 110 ∷ 97 ∷ 109 ∷ 101 ∷ 93 ∷ 46 ∷ 105 ∷ 110 ∷ 118 ∷ 32 ∷ 105 ∷ 115 ∷ 32 ∷ 115 ∷ 117 ∷ 99 ∷ 99 ∷ 101 ∷ 101 ∷ 100 ∷ 101 ∷ 100 ∷ 32 ∷ []) ≡ Some (negation (path_status is_failed (other this_host (codes "inv")) ([])))
text_374 = refl

text_375 : expression_of (32 ∷ 104 ∷ 111 ∷ 115 ∷ 116 ∷ 118 ∷ 97 ∷ 114 ∷ 115 ∷ 91 ∷ 105 ∷ 110 ∷ 118 ∷ 101 ∷ 110 ∷ 116 ∷ 111 ∷ 114 ∷ 121 ∷ 95 ∷ 104 ∷ 111 ∷ 115 ∷ 116 ∷ 110 ∷ 97 ∷ 109 ∷ 101 ∷ 93 ∷ 46 ∷ 105 ∷ 110 ∷ 118 ∷ 32 ∷ 124 ∷ 32 ∷ 100 ∷ 101 ∷ 102 ∷ 97 ∷ 117 ∷ 108 ∷ 116 ∷ 40 ∷ 49 ∷ 41 ∷ 32 ∷ []) ≡ Some (path_or (other this_host (codes "inv")) ([]) (literal (int (pos 1))))
text_375 = refl

text_376 : expression_of (32 ∷ 104 ∷ 111 ∷ 115 ∷ 116 ∷ 118 ∷ 97 ∷ 114 ∷ 115 ∷ 91 ∷ 105 ∷ 110 ∷ 118 ∷ 101 ∷ 110 ∷ 116 ∷ 111 ∷ 114 ∷ 121 ∷ 95 ∷ 104 ∷ 111 ∷ 115 ∷ 116 ∷ 110 ∷ 97 ∷ 109 ∷ 101 ∷ 93 ∷ 46 ∷ 105 ∷ 110 ∷ 118 ∷ 32 ∷ 124 ∷ 32 ∷ 100 ∷ 101 ∷ 102 ∷ 97 ∷ 117 ∷ 108 ∷ 116 ∷ 40 ∷ 121 ∷ 46 ∷ 115 ∷ 116 ∷ 100 ∷ 111 ∷ 117 ∷ 116 ∷ 95 ∷ 108 ∷ 105 ∷ 110 ∷ 101 ∷ 115 ∷ 41 ∷ 32 ∷ []) ≡ Some (path_or (other this_host (codes "inv")) ([]) (path (variable (codes "y")) ((codes "stdout_lines") ∷ [])))
text_376 = refl

text_377 : expression_of (32 ∷ 104 ∷ 111 ∷ 115 ∷ 116 ∷ 118 ∷ 97 ∷ 114 ∷ 115 ∷ 91 ∷ 105 ∷ 110 ∷ 118 ∷ 101 ∷ 110 ∷ 116 ∷ 111 ∷ 114 ∷ 121 ∷ 95 ∷ 104 ∷ 111 ∷ 115 ∷ 116 ∷ 110 ∷ 97 ∷ 109 ∷ 101 ∷ 93 ∷ 46 ∷ 105 ∷ 110 ∷ 118 ∷ 32 ∷ 124 ∷ 32 ∷ 108 ∷ 101 ∷ 110 ∷ 103 ∷ 116 ∷ 104 ∷ 32 ∷ []) ≡ Some (length_of (path (other this_host (codes "inv")) ([])))
text_377 = refl

text_378 : expression_of (32 ∷ 104 ∷ 111 ∷ 115 ∷ 116 ∷ 118 ∷ 97 ∷ 114 ∷ 115 ∷ 91 ∷ 105 ∷ 110 ∷ 118 ∷ 101 ∷ 110 ∷ 116 ∷ 111 ∷ 114 ∷ 121 ∷ 95 ∷ 104 ∷ 111 ∷ 115 ∷ 116 ∷ 110 ∷ 97 ∷ 109 ∷ 101 ∷ 93 ∷ 46 ∷ 105 ∷ 110 ∷ 118 ∷ 46 ∷ 104 ∷ 111 ∷ 115 ∷ 116 ∷ 110 ∷ 97 ∷ 109 ∷ 101 ∷ 32 ∷ 105 ∷ 115 ∷ 32 ∷ 100 ∷ 101 ∷ 102 ∷ 105 ∷ 110 ∷ 101 ∷ 100 ∷ 32 ∷ []) ≡ Some (defined (other this_host (codes "inv")) ((codes "hostname") ∷ []))
text_378 = refl

text_379 : expression_of (32 ∷ 104 ∷ 111 ∷ 115 ∷ 116 ∷ 118 ∷ 97 ∷ 114 ∷ 115 ∷ 91 ∷ 105 ∷ 110 ∷ 118 ∷ 101 ∷ 110 ∷ 116 ∷ 111 ∷ 114 ∷ 121 ∷ 95 ∷ 104 ∷ 111 ∷ 115 ∷ 116 ∷ 110 ∷ 97 ∷ 109 ∷ 101 ∷ 93 ∷ 46 ∷ 105 ∷ 110 ∷ 118 ∷ 46 ∷ 109 ∷ 115 ∷ 103 ∷ 32 ∷ []) ≡ Some (path (other this_host (codes "inv")) ((codes "msg") ∷ []))
text_379 = refl

text_380 : expression_of (32 ∷ 104 ∷ 111 ∷ 115 ∷ 116 ∷ 118 ∷ 97 ∷ 114 ∷ 115 ∷ 91 ∷ 105 ∷ 110 ∷ 118 ∷ 101 ∷ 110 ∷ 116 ∷ 111 ∷ 114 ∷ 121 ∷ 95 ∷ 104 ∷ 111 ∷ 115 ∷ 116 ∷ 110 ∷ 97 ∷ 109 ∷ 101 ∷ 93 ∷ 46 ∷ 111 ∷ 112 ∷ 32 ∷ []) ≡ Some (path (other this_host (codes "op")) ([]))
text_380 = refl

text_381 : expression_of (32 ∷ 104 ∷ 111 ∷ 115 ∷ 116 ∷ 118 ∷ 97 ∷ 114 ∷ 115 ∷ 91 ∷ 105 ∷ 110 ∷ 118 ∷ 101 ∷ 110 ∷ 116 ∷ 111 ∷ 114 ∷ 121 ∷ 95 ∷ 104 ∷ 111 ∷ 115 ∷ 116 ∷ 110 ∷ 97 ∷ 109 ∷ 101 ∷ 93 ∷ 46 ∷ 111 ∷ 112 ∷ 32 ∷ 124 ∷ 32 ∷ 100 ∷ 101 ∷ 102 ∷ 97 ∷ 117 ∷ 108 ∷ 116 ∷ 40 ∷ 49 ∷ 41 ∷ 32 ∷ []) ≡ Some (path_or (other this_host (codes "op")) ([]) (literal (int (pos 1))))
text_381 = refl

text_382 : expression_of (32 ∷ 104 ∷ 111 ∷ 115 ∷ 116 ∷ 118 ∷ 97 ∷ 114 ∷ 115 ∷ 91 ∷ 105 ∷ 110 ∷ 118 ∷ 101 ∷ 110 ∷ 116 ∷ 111 ∷ 114 ∷ 121 ∷ 95 ∷ 104 ∷ 111 ∷ 115 ∷ 116 ∷ 110 ∷ 97 ∷ 109 ∷ 101 ∷ 93 ∷ 46 ∷ 111 ∷ 112 ∷ 32 ∷ 124 ∷ 32 ∷ 100 ∷ 101 ∷ 102 ∷ 97 ∷ 117 ∷ 108 ∷ 116 ∷ 40 ∷ 91 ∷ 93 ∷ 41 ∷ 32 ∷ []) ≡ Some (path_or (other this_host (codes "op")) ([]) (list_of (no_expressions)))
text_382 = refl

text_383 : expression_of (32 ∷ 104 ∷ 111 ∷ 115 ∷ 116 ∷ 118 ∷ 97 ∷ 114 ∷ 115 ∷ 91 ∷ 105 ∷ 110 ∷ 118 ∷ 101 ∷ 110 ∷ 116 ∷ 111 ∷ 114 ∷ 121 ∷ 95 ∷ 104 ∷ 111 ∷ 115 ∷ 116 ∷ 110 ∷ 97 ∷ 109 ∷ 101 ∷ 93 ∷ 46 ∷ 111 ∷ 112 ∷ 32 ∷ 124 ∷ 32 ∷ 108 ∷ 101 ∷ 110 ∷ 103 ∷ 116 ∷ 104 ∷ 32 ∷ []) ≡ Some (length_of (path (other this_host (codes "op")) ([])))
text_383 = refl

text_384 : expression_of (32 ∷ 104 ∷ 111 ∷ 115 ∷ 116 ∷ 118 ∷ 97 ∷ 114 ∷ 115 ∷ 91 ∷ 105 ∷ 110 ∷ 118 ∷ 101 ∷ 110 ∷ 116 ∷ 111 ∷ 114 ∷ 121 ∷ 95 ∷ 104 ∷ 111 ∷ 115 ∷ 116 ∷ 110 ∷ 97 ∷ 109 ∷ 101 ∷ 93 ∷ 46 ∷ 114 ∷ 46 ∷ 111 ∷ 115 ∷ 95 ∷ 102 ∷ 97 ∷ 109 ∷ 105 ∷ 108 ∷ 121 ∷ 32 ∷ 124 ∷ 32 ∷ 100 ∷ 101 ∷ 102 ∷ 97 ∷ 117 ∷ 108 ∷ 116 ∷ 40 ∷ 91 ∷ 93 ∷ 41 ∷ 32 ∷ []) ≡ Some (path_or (other this_host (codes "r")) ((codes "os_family") ∷ []) (list_of (no_expressions)))
text_384 = refl

text_385 : expression_of (32 ∷ 104 ∷ 111 ∷ 115 ∷ 116 ∷ 118 ∷ 97 ∷ 114 ∷ 115 ∷ 91 ∷ 105 ∷ 110 ∷ 118 ∷ 101 ∷ 110 ∷ 116 ∷ 111 ∷ 114 ∷ 121 ∷ 95 ∷ 104 ∷ 111 ∷ 115 ∷ 116 ∷ 110 ∷ 97 ∷ 109 ∷ 101 ∷ 93 ∷ 46 ∷ 114 ∷ 49 ∷ 32 ∷ []) ≡ Some (path (other this_host (codes "r1")) ([]))
text_385 = refl

text_386 : expression_of (32 ∷ 104 ∷ 111 ∷ 115 ∷ 116 ∷ 118 ∷ 97 ∷ 114 ∷ 115 ∷ 91 ∷ 105 ∷ 110 ∷ 118 ∷ 101 ∷ 110 ∷ 116 ∷ 111 ∷ 114 ∷ 121 ∷ 95 ∷ 104 ∷ 111 ∷ 115 ∷ 116 ∷ 110 ∷ 97 ∷ 109 ∷ 101 ∷ 93 ∷ 46 ∷ 114 ∷ 49 ∷ 46 ∷ 99 ∷ 104 ∷ 97 ∷ 110 ∷ 103 ∷ 101 ∷ 100 ∷ 32 ∷ []) ≡ Some (path (other this_host (codes "r1")) ((codes "changed") ∷ []))
text_386 = refl

text_387 : expression_of (32 ∷ 104 ∷ 111 ∷ 115 ∷ 116 ∷ 118 ∷ 97 ∷ 114 ∷ 115 ∷ 91 ∷ 105 ∷ 110 ∷ 118 ∷ 101 ∷ 110 ∷ 116 ∷ 111 ∷ 114 ∷ 121 ∷ 95 ∷ 104 ∷ 111 ∷ 115 ∷ 116 ∷ 110 ∷ 97 ∷ 109 ∷ 101 ∷ 93 ∷ 46 ∷ 114 ∷ 49 ∷ 46 ∷ 99 ∷ 104 ∷ 97 ∷ 110 ∷ 103 ∷ 101 ∷ 100 ∷ 32 ∷ 124 ∷ 32 ∷ 100 ∷ 101 ∷ 102 ∷ 97 ∷ 117 ∷ 108 ∷ 116 ∷ 40 ∷ 115 ∷ 49 ∷ 41 ∷ 32 ∷ []) ≡ Some (path_or (other this_host (codes "r1")) ((codes "changed") ∷ []) (path (variable (codes "s1")) ([])))
text_387 = refl

text_388 : expression_of (32 ∷ 104 ∷ 111 ∷ 115 ∷ 116 ∷ 118 ∷ 97 ∷ 114 ∷ 115 ∷ 91 ∷ 105 ∷ 110 ∷ 118 ∷ 101 ∷ 110 ∷ 116 ∷ 111 ∷ 114 ∷ 121 ∷ 95 ∷ 104 ∷ 111 ∷ 115 ∷ 116 ∷ 110 ∷ 97 ∷ 109 ∷ 101 ∷ 93 ∷ 46 ∷ 114 ∷ 49 ∷ 46 ∷ 102 ∷ 97 ∷ 105 ∷ 108 ∷ 101 ∷ 100 ∷ 32 ∷ []) ≡ Some (path (other this_host (codes "r1")) ((codes "failed") ∷ []))
text_388 = refl

text_389 : expression_of (32 ∷ 104 ∷ 111 ∷ 115 ∷ 116 ∷ 118 ∷ 97 ∷ 114 ∷ 115 ∷ 91 ∷ 105 ∷ 110 ∷ 118 ∷ 101 ∷ 110 ∷ 116 ∷ 111 ∷ 114 ∷ 121 ∷ 95 ∷ 104 ∷ 111 ∷ 115 ∷ 116 ∷ 110 ∷ 97 ∷ 109 ∷ 101 ∷ 93 ∷ 46 ∷ 114 ∷ 49 ∷ 46 ∷ 114 ∷ 99 ∷ 32 ∷ []) ≡ Some (path (other this_host (codes "r1")) ((codes "rc") ∷ []))
text_389 = refl

text_390 : expression_of (32 ∷ 104 ∷ 111 ∷ 115 ∷ 116 ∷ 118 ∷ 97 ∷ 114 ∷ 115 ∷ 91 ∷ 105 ∷ 110 ∷ 118 ∷ 101 ∷ 110 ∷ 116 ∷ 111 ∷ 114 ∷ 121 ∷ 95 ∷ 104 ∷ 111 ∷ 115 ∷ 116 ∷ 110 ∷ 97 ∷ 109 ∷ 101 ∷ 93 ∷ 46 ∷ 114 ∷ 49 ∷ 46 ∷ 115 ∷ 116 ∷ 100 ∷ 111 ∷ 117 ∷ 116 ∷ 32 ∷ []) ≡ Some (path (other this_host (codes "r1")) ((codes "stdout") ∷ []))
text_390 = refl

text_391 : expression_of (32 ∷ 104 ∷ 111 ∷ 115 ∷ 116 ∷ 118 ∷ 97 ∷ 114 ∷ 115 ∷ 91 ∷ 105 ∷ 110 ∷ 118 ∷ 101 ∷ 110 ∷ 116 ∷ 111 ∷ 114 ∷ 121 ∷ 95 ∷ 104 ∷ 111 ∷ 115 ∷ 116 ∷ 110 ∷ 97 ∷ 109 ∷ 101 ∷ 93 ∷ 46 ∷ 114 ∷ 49 ∷ 46 ∷ 118 ∷ 32 ∷ 124 ∷ 32 ∷ 100 ∷ 101 ∷ 102 ∷ 97 ∷ 117 ∷ 108 ∷ 116 ∷ 40 ∷ 91 ∷ 93 ∷ 41 ∷ 32 ∷ []) ≡ Some (path_or (other this_host (codes "r1")) ((codes "v") ∷ []) (list_of (no_expressions)))
text_391 = refl

text_392 : expression_of (32 ∷ 104 ∷ 111 ∷ 115 ∷ 116 ∷ 118 ∷ 97 ∷ 114 ∷ 115 ∷ 91 ∷ 105 ∷ 110 ∷ 118 ∷ 101 ∷ 110 ∷ 116 ∷ 111 ∷ 114 ∷ 121 ∷ 95 ∷ 104 ∷ 111 ∷ 115 ∷ 116 ∷ 110 ∷ 97 ∷ 109 ∷ 101 ∷ 93 ∷ 46 ∷ 114 ∷ 50 ∷ 32 ∷ []) ≡ Some (path (other this_host (codes "r2")) ([]))
text_392 = refl

text_393 : expression_of (32 ∷ 104 ∷ 111 ∷ 115 ∷ 116 ∷ 118 ∷ 97 ∷ 114 ∷ 115 ∷ 91 ∷ 105 ∷ 110 ∷ 118 ∷ 101 ∷ 110 ∷ 116 ∷ 111 ∷ 114 ∷ 121 ∷ 95 ∷ 104 ∷ 111 ∷ 115 ∷ 116 ∷ 110 ∷ 97 ∷ 109 ∷ 101 ∷ 93 ∷ 46 ∷ 114 ∷ 50 ∷ 32 ∷ 124 ∷ 32 ∷ 100 ∷ 101 ∷ 102 ∷ 97 ∷ 117 ∷ 108 ∷ 116 ∷ 40 ∷ 49 ∷ 41 ∷ 32 ∷ []) ≡ Some (path_or (other this_host (codes "r2")) ([]) (literal (int (pos 1))))
text_393 = refl

text_394 : expression_of (32 ∷ 104 ∷ 111 ∷ 115 ∷ 116 ∷ 118 ∷ 97 ∷ 114 ∷ 115 ∷ 91 ∷ 105 ∷ 110 ∷ 118 ∷ 101 ∷ 110 ∷ 116 ∷ 111 ∷ 114 ∷ 121 ∷ 95 ∷ 104 ∷ 111 ∷ 115 ∷ 116 ∷ 110 ∷ 97 ∷ 109 ∷ 101 ∷ 93 ∷ 46 ∷ 114 ∷ 50 ∷ 46 ∷ 99 ∷ 104 ∷ 97 ∷ 110 ∷ 103 ∷ 101 ∷ 100 ∷ 32 ∷ []) ≡ Some (path (other this_host (codes "r2")) ((codes "changed") ∷ []))
text_394 = refl

text_395 : expression_of (32 ∷ 104 ∷ 111 ∷ 115 ∷ 116 ∷ 118 ∷ 97 ∷ 114 ∷ 115 ∷ 91 ∷ 105 ∷ 110 ∷ 118 ∷ 101 ∷ 110 ∷ 116 ∷ 111 ∷ 114 ∷ 121 ∷ 95 ∷ 104 ∷ 111 ∷ 115 ∷ 116 ∷ 110 ∷ 97 ∷ 109 ∷ 101 ∷ 93 ∷ 46 ∷ 114 ∷ 50 ∷ 46 ∷ 99 ∷ 104 ∷ 97 ∷ 110 ∷ 103 ∷ 101 ∷ 100 ∷ 32 ∷ 124 ∷ 32 ∷ 100 ∷ 101 ∷ 102 ∷ 97 ∷ 117 ∷ 108 ∷ 116 ∷ 40 ∷ 49 ∷ 41 ∷ 32 ∷ []) ≡ Some (path_or (other this_host (codes "r2")) ((codes "changed") ∷ []) (literal (int (pos 1))))
text_395 = refl

text_396 : expression_of (32 ∷ 104 ∷ 111 ∷ 115 ∷ 116 ∷ 118 ∷ 97 ∷ 114 ∷ 115 ∷ 91 ∷ 105 ∷ 110 ∷ 118 ∷ 101 ∷ 110 ∷ 116 ∷ 111 ∷ 114 ∷ 121 ∷ 95 ∷ 104 ∷ 111 ∷ 115 ∷ 116 ∷ 110 ∷ 97 ∷ 109 ∷ 101 ∷ 93 ∷ 46 ∷ 114 ∷ 50 ∷ 46 ∷ 102 ∷ 97 ∷ 105 ∷ 108 ∷ 101 ∷ 100 ∷ 32 ∷ []) ≡ Some (path (other this_host (codes "r2")) ((codes "failed") ∷ []))
text_396 = refl

text_397 : expression_of (32 ∷ 104 ∷ 111 ∷ 115 ∷ 116 ∷ 118 ∷ 97 ∷ 114 ∷ 115 ∷ 91 ∷ 105 ∷ 110 ∷ 118 ∷ 101 ∷ 110 ∷ 116 ∷ 111 ∷ 114 ∷ 121 ∷ 95 ∷ 104 ∷ 111 ∷ 115 ∷ 116 ∷ 110 ∷ 97 ∷ 109 ∷ 101 ∷ 93 ∷ 46 ∷ 114 ∷ 50 ∷ 46 ∷ 102 ∷ 97 ∷ 105 ∷ 108 ∷ 101 ∷ 100 ∷ 32 ∷ 124 ∷ 32 ∷ 100 ∷ 101 ∷ 102 ∷ 97 ∷ 117 ∷ 108 ∷ 116 ∷ 40 ∷ 91 ∷ 93 ∷ 41 ∷ 32 ∷ []) ≡ Some (path_or (other this_host (codes "r2")) ((codes "failed") ∷ []) (list_of (no_expressions)))
text_397 = refl

text_398 : expression_of (32 ∷ 104 ∷ 111 ∷ 115 ∷ 116 ∷ 118 ∷ 97 ∷ 114 ∷ 115 ∷ 91 ∷ 105 ∷ 110 ∷ 118 ∷ 101 ∷ 110 ∷ 116 ∷ 111 ∷ 114 ∷ 121 ∷ 95 ∷ 104 ∷ 111 ∷ 115 ∷ 116 ∷ 110 ∷ 97 ∷ 109 ∷ 101 ∷ 93 ∷ 46 ∷ 114 ∷ 50 ∷ 46 ∷ 115 ∷ 116 ∷ 100 ∷ 101 ∷ 114 ∷ 114 ∷ 32 ∷ []) ≡ Some (path (other this_host (codes "r2")) ((codes "stderr") ∷ []))
text_398 = refl

text_399 : expression_of (32 ∷ 104 ∷ 111 ∷ 115 ∷ 116 ∷ 118 ∷ 97 ∷ 114 ∷ 115 ∷ 91 ∷ 105 ∷ 110 ∷ 118 ∷ 101 ∷ 110 ∷ 116 ∷ 111 ∷ 114 ∷ 121 ∷ 95 ∷ 104 ∷ 111 ∷ 115 ∷ 116 ∷ 110 ∷ 97 ∷ 109 ∷ 101 ∷ 93 ∷ 46 ∷ 114 ∷ 51 ∷ 32 ∷ []) ≡ Some (path (other this_host (codes "r3")) ([]))
text_399 = refl

text_400 : expression_of (32 ∷ 104 ∷ 111 ∷ 115 ∷ 116 ∷ 118 ∷ 97 ∷ 114 ∷ 115 ∷ 91 ∷ 105 ∷ 110 ∷ 118 ∷ 101 ∷ 110 ∷ 116 ∷ 111 ∷ 114 ∷ 121 ∷ 95 ∷ 104 ∷ 111 ∷ 115 ∷ 116 ∷ 110 ∷ 97 ∷ 109 ∷ 101 ∷ 93 ∷ 46 ∷ 114 ∷ 51 ∷ 46 ∷ 102 ∷ 97 ∷ 105 ∷ 108 ∷ 101 ∷ 100 ∷ 32 ∷ []) ≡ Some (path (other this_host (codes "r3")) ((codes "failed") ∷ []))
text_400 = refl

text_401 : expression_of (32 ∷ 104 ∷ 111 ∷ 115 ∷ 116 ∷ 118 ∷ 97 ∷ 114 ∷ 115 ∷ 91 ∷ 105 ∷ 110 ∷ 118 ∷ 101 ∷ 110 ∷ 116 ∷ 111 ∷ 114 ∷ 121 ∷ 95 ∷ 104 ∷ 111 ∷ 115 ∷ 116 ∷ 110 ∷ 97 ∷ 109 ∷ 101 ∷ 93 ∷ 46 ∷ 114 ∷ 51 ∷ 46 ∷ 114 ∷ 111 ∷ 119 ∷ 115 ∷ 32 ∷ 124 ∷ 32 ∷ 100 ∷ 101 ∷ 102 ∷ 97 ∷ 117 ∷ 108 ∷ 116 ∷ 40 ∷ 49 ∷ 41 ∷ 32 ∷ []) ≡ Some (path_or (other this_host (codes "r3")) ((codes "rows") ∷ []) (literal (int (pos 1))))
text_401 = refl

text_402 : expression_of (32 ∷ 104 ∷ 111 ∷ 115 ∷ 116 ∷ 118 ∷ 97 ∷ 114 ∷ 115 ∷ 91 ∷ 105 ∷ 110 ∷ 118 ∷ 101 ∷ 110 ∷ 116 ∷ 111 ∷ 114 ∷ 121 ∷ 95 ∷ 104 ∷ 111 ∷ 115 ∷ 116 ∷ 110 ∷ 97 ∷ 109 ∷ 101 ∷ 93 ∷ 46 ∷ 115 ∷ 46 ∷ 111 ∷ 115 ∷ 95 ∷ 102 ∷ 97 ∷ 109 ∷ 105 ∷ 108 ∷ 121 ∷ 32 ∷ 124 ∷ 32 ∷ 100 ∷ 101 ∷ 102 ∷ 97 ∷ 117 ∷ 108 ∷ 116 ∷ 40 ∷ 105 ∷ 110 ∷ 118 ∷ 41 ∷ 32 ∷ []) ≡ Some (path_or (other this_host (codes "s")) ((codes "os_family") ∷ []) (path (variable (codes "inv")) ([])))
text_402 = refl

text_403 : expression_of (32 ∷ 104 ∷ 111 ∷ 115 ∷ 116 ∷ 118 ∷ 97 ∷ 114 ∷ 115 ∷ 91 ∷ 105 ∷ 110 ∷ 118 ∷ 101 ∷ 110 ∷ 116 ∷ 111 ∷ 114 ∷ 121 ∷ 95 ∷ 104 ∷ 111 ∷ 115 ∷ 116 ∷ 110 ∷ 97 ∷ 109 ∷ 101 ∷ 93 ∷ 46 ∷ 115 ∷ 46 ∷ 115 ∷ 116 ∷ 97 ∷ 116 ∷ 46 ∷ 105 ∷ 115 ∷ 100 ∷ 105 ∷ 114 ∷ 32 ∷ []) ≡ Some (path (other this_host (codes "s")) ((codes "stat") ∷ (codes "isdir") ∷ []))
text_403 = refl

text_404 : expression_of (32 ∷ 104 ∷ 111 ∷ 115 ∷ 116 ∷ 118 ∷ 97 ∷ 114 ∷ 115 ∷ 91 ∷ 105 ∷ 110 ∷ 118 ∷ 101 ∷ 110 ∷ 116 ∷ 111 ∷ 114 ∷ 121 ∷ 95 ∷ 104 ∷ 111 ∷ 115 ∷ 116 ∷ 110 ∷ 97 ∷ 109 ∷ 101 ∷ 93 ∷ 46 ∷ 115 ∷ 49 ∷ 32 ∷ []) ≡ Some (path (other this_host (codes "s1")) ([]))
text_404 = refl

text_405 : expression_of (32 ∷ 104 ∷ 111 ∷ 115 ∷ 116 ∷ 118 ∷ 97 ∷ 114 ∷ 115 ∷ 91 ∷ 105 ∷ 110 ∷ 118 ∷ 101 ∷ 110 ∷ 116 ∷ 111 ∷ 114 ∷ 121 ∷ 95 ∷ 104 ∷ 111 ∷ 115 ∷ 116 ∷ 110 ∷ 97 ∷ 109 ∷ 101 ∷ 93 ∷ 46 ∷ 115 ∷ 49 ∷ 32 ∷ 124 ∷ 32 ∷ 108 ∷ 101 ∷ 110 ∷ 103 ∷ 116 ∷ 104 ∷ 32 ∷ []) ≡ Some (length_of (path (other this_host (codes "s1")) ([])))
text_405 = refl

text_406 : expression_of (32 ∷ 104 ∷ 111 ∷ 115 ∷ 116 ∷ 118 ∷ 97 ∷ 114 ∷ 115 ∷ 91 ∷ 105 ∷ 110 ∷ 118 ∷ 101 ∷ 110 ∷ 116 ∷ 111 ∷ 114 ∷ 121 ∷ 95 ∷ 104 ∷ 111 ∷ 115 ∷ 116 ∷ 110 ∷ 97 ∷ 109 ∷ 101 ∷ 93 ∷ 46 ∷ 115 ∷ 50 ∷ 32 ∷ []) ≡ Some (path (other this_host (codes "s2")) ([]))
text_406 = refl

text_407 : expression_of (32 ∷ 104 ∷ 111 ∷ 115 ∷ 116 ∷ 118 ∷ 97 ∷ 114 ∷ 115 ∷ 91 ∷ 105 ∷ 110 ∷ 118 ∷ 101 ∷ 110 ∷ 116 ∷ 111 ∷ 114 ∷ 121 ∷ 95 ∷ 104 ∷ 111 ∷ 115 ∷ 116 ∷ 110 ∷ 97 ∷ 109 ∷ 101 ∷ 93 ∷ 46 ∷ 115 ∷ 50 ∷ 32 ∷ 124 ∷ 32 ∷ 100 ∷ 101 ∷ 102 ∷ 97 ∷ 117 ∷ 108 ∷ 116 ∷ 40 ∷ 115 ∷ 49 ∷ 41 ∷ 32 ∷ []) ≡ Some (path_or (other this_host (codes "s2")) ([]) (path (variable (codes "s1")) ([])))
text_407 = refl

text_408 : expression_of (32 ∷ 104 ∷ 111 ∷ 115 ∷ 116 ∷ 118 ∷ 97 ∷ 114 ∷ 115 ∷ 91 ∷ 105 ∷ 110 ∷ 118 ∷ 101 ∷ 110 ∷ 116 ∷ 111 ∷ 114 ∷ 121 ∷ 95 ∷ 104 ∷ 111 ∷ 115 ∷ 116 ∷ 110 ∷ 97 ∷ 109 ∷ 101 ∷ 93 ∷ 46 ∷ 115 ∷ 50 ∷ 32 ∷ 124 ∷ 32 ∷ 108 ∷ 101 ∷ 110 ∷ 103 ∷ 116 ∷ 104 ∷ 32 ∷ []) ≡ Some (length_of (path (other this_host (codes "s2")) ([])))
text_408 = refl

text_409 : expression_of (32 ∷ 104 ∷ 111 ∷ 115 ∷ 116 ∷ 118 ∷ 97 ∷ 114 ∷ 115 ∷ 91 ∷ 105 ∷ 110 ∷ 118 ∷ 101 ∷ 110 ∷ 116 ∷ 111 ∷ 114 ∷ 121 ∷ 95 ∷ 104 ∷ 111 ∷ 115 ∷ 116 ∷ 110 ∷ 97 ∷ 109 ∷ 101 ∷ 93 ∷ 46 ∷ 115 ∷ 51 ∷ 46 ∷ 102 ∷ 32 ∷ 124 ∷ 32 ∷ 108 ∷ 101 ∷ 110 ∷ 103 ∷ 116 ∷ 104 ∷ 32 ∷ []) ≡ Some (length_of (path (other this_host (codes "s3")) ((codes "f") ∷ [])))
text_409 = refl

text_410 : expression_of (32 ∷ 104 ∷ 111 ∷ 115 ∷ 116 ∷ 118 ∷ 97 ∷ 114 ∷ 115 ∷ 91 ∷ 105 ∷ 110 ∷ 118 ∷ 101 ∷ 110 ∷ 116 ∷ 111 ∷ 114 ∷ 121 ∷ 95 ∷ 104 ∷ 111 ∷ 115 ∷ 116 ∷ 110 ∷ 97 ∷ 109 ∷ 101 ∷ 93 ∷ 46 ∷ 121 ∷ 46 ∷ 111 ∷ 115 ∷ 95 ∷ 102 ∷ 97 ∷ 109 ∷ 105 ∷ 108 ∷ 121 ∷ 32 ∷ []) ≡ Some (path (other this_host (codes "y")) ((codes "os_family") ∷ []))
text_410 = refl

text_411 : expression_of (32 ∷ 104 ∷ 111 ∷ 115 ∷ 116 ∷ 118 ∷ 97 ∷ 114 ∷ 115 ∷ 91 ∷ 105 ∷ 110 ∷ 118 ∷ 101 ∷ 110 ∷ 116 ∷ 111 ∷ 114 ∷ 121 ∷ 95 ∷ 104 ∷ 111 ∷ 115 ∷ 116 ∷ 110 ∷ 97 ∷ 109 ∷ 101 ∷ 93 ∷ 46 ∷ 121 ∷ 46 ∷ 115 ∷ 116 ∷ 100 ∷ 111 ∷ 117 ∷ 116 ∷ 32 ∷ 124 ∷ 32 ∷ 100 ∷ 101 ∷ 102 ∷ 97 ∷ 117 ∷ 108 ∷ 116 ∷ 40 ∷ 91 ∷ 93 ∷ 41 ∷ 32 ∷ []) ≡ Some (path_or (other this_host (codes "y")) ((codes "stdout") ∷ []) (list_of (no_expressions)))
text_411 = refl

text_412 : expression_of (32 ∷ 104 ∷ 111 ∷ 115 ∷ 116 ∷ 118 ∷ 97 ∷ 114 ∷ 115 ∷ 91 ∷ 105 ∷ 116 ∷ 101 ∷ 109 ∷ 93 ∷ 46 ∷ 97 ∷ 110 ∷ 115 ∷ 105 ∷ 98 ∷ 108 ∷ 101 ∷ 95 ∷ 104 ∷ 111 ∷ 115 ∷ 116 ∷ 110 ∷ 97 ∷ 109 ∷ 101 ∷ 46 ∷ 107 ∷ 32 ∷ 124 ∷ 32 ∷ 100 ∷ 101 ∷ 102 ∷ 97 ∷ 117 ∷ 108 ∷ 116 ∷ 40 ∷ 105 ∷ 110 ∷ 118 ∷ 46 ∷ 115 ∷ 116 ∷ 100 ∷ 111 ∷ 117 ∷ 116 ∷ 41 ∷ 32 ∷ []) ≡ Some (path_or (other item_host (codes "ansible_hostname")) ((codes "k") ∷ []) (path (variable (codes "inv")) ((codes "stdout") ∷ [])))
text_412 = refl

text_413 : expression_of (32 ∷ 104 ∷ 111 ∷ 115 ∷ 116 ∷ 118 ∷ 97 ∷ 114 ∷ 115 ∷ 91 ∷ 105 ∷ 116 ∷ 101 ∷ 109 ∷ 93 ∷ 46 ∷ 97 ∷ 110 ∷ 115 ∷ 105 ∷ 98 ∷ 108 ∷ 101 ∷ 95 ∷ 104 ∷ 111 ∷ 115 ∷ 116 ∷ 110 ∷ 97 ∷ 109 ∷ 101 ∷ 46 ∷ 115 ∷ 116 ∷ 100 ∷ 111 ∷ 117 ∷ 116 ∷ 32 ∷ []) ≡ Some (path (other item_host (codes "ansible_hostname")) ((codes "stdout") ∷ []))
text_413 = refl

text_414 : expression_of (32 ∷ 104 ∷ 111 ∷ 115 ∷ 116 ∷ 118 ∷ 97 ∷ 114 ∷ 115 ∷ 91 ∷ 105 ∷ 116 ∷ 101 ∷ 109 ∷ 93 ∷ 46 ∷ 105 ∷ 49 ∷ 32 ∷ 124 ∷ 32 ∷ 100 ∷ 101 ∷ 102 ∷ 97 ∷ 117 ∷ 108 ∷ 116 ∷ 40 ∷ 115 ∷ 49 ∷ 41 ∷ 32 ∷ []) ≡ Some (path_or (other item_host (codes "i1")) ([]) (path (variable (codes "s1")) ([])))
text_414 = refl

text_415 : expression_of (32 ∷ 104 ∷ 111 ∷ 115 ∷ 116 ∷ 118 ∷ 97 ∷ 114 ∷ 115 ∷ 91 ∷ 105 ∷ 116 ∷ 101 ∷ 109 ∷ 93 ∷ 46 ∷ 105 ∷ 49 ∷ 32 ∷ 124 ∷ 32 ∷ 108 ∷ 101 ∷ 110 ∷ 103 ∷ 116 ∷ 104 ∷ 32 ∷ []) ≡ Some (length_of (path (other item_host (codes "i1")) ([])))
text_415 = refl

text_416 : expression_of (32 ∷ 104 ∷ 111 ∷ 115 ∷ 116 ∷ 118 ∷ 97 ∷ 114 ∷ 115 ∷ 91 ∷ 105 ∷ 116 ∷ 101 ∷ 109 ∷ 93 ∷ 46 ∷ 105 ∷ 50 ∷ 32 ∷ []) ≡ Some (path (other item_host (codes "i2")) ([]))
text_416 = refl

text_417 : expression_of (32 ∷ 104 ∷ 111 ∷ 115 ∷ 116 ∷ 118 ∷ 97 ∷ 114 ∷ 115 ∷ 91 ∷ 105 ∷ 116 ∷ 101 ∷ 109 ∷ 93 ∷ 46 ∷ 105 ∷ 50 ∷ 46 ∷ 102 ∷ 32 ∷ []) ≡ Some (path (other item_host (codes "i2")) ((codes "f") ∷ []))
text_417 = refl

text_418 : expression_of (32 ∷ 104 ∷ 111 ∷ 115 ∷ 116 ∷ 118 ∷ 97 ∷ 114 ∷ 115 ∷ 91 ∷ 105 ∷ 116 ∷ 101 ∷ 109 ∷ 93 ∷ 46 ∷ 105 ∷ 110 ∷ 118 ∷ 32 ∷ []) ≡ Some (path (other item_host (codes "inv")) ([]))
text_418 = refl

text_419 : expression_of (32 ∷ 104 ∷ 111 ∷ 115 ∷ 116 ∷ 118 ∷ 97 ∷ 114 ∷ 115 ∷ 91 ∷ 105 ∷ 116 ∷ 101 ∷ 109 ∷ 93 ∷ 46 ∷ 105 ∷ 110 ∷ 118 ∷ 32 ∷ 124 ∷ 32 ∷ 108 ∷ 101 ∷ 110 ∷ 103 ∷ 116 ∷ 104 ∷ 32 ∷ []) ≡ Some (length_of (path (other item_host (codes "inv")) ([])))
text_419 = refl

text_420 : expression_of (32 ∷ 104 ∷ 111 ∷ 115 ∷ 116 ∷ 118 ∷ 97 ∷ 114 ∷ 115 ∷ 91 ∷ 105 ∷ 116 ∷ 101 ∷ 109 ∷ 93 ∷ 46 ∷ 105 ∷ 110 ∷ 118 ∷ 46 ∷ 104 ∷ 111 ∷ 115 ∷ 116 ∷ 110 ∷ 97 ∷ 109 ∷ 101 ∷ 32 ∷ []) ≡ Some (path (other item_host (codes "inv")) ((codes "hostname") ∷ []))
text_420 = refl

text_421 : expression_of (32 ∷ 104 ∷ 111 ∷ 115 ∷ 116 ∷ 118 ∷ 97 ∷ 114 ∷ 115 ∷ 91 ∷ 105 ∷ 116 ∷ 101 ∷ 109 ∷ 93 ∷ 46 ∷ 111 ∷ 112 ∷ 32 ∷ []) ≡ Some (path (other item_host (codes "op")) ([]))
text_421 = refl

text_422 : expression_of (32 ∷ 104 ∷ 111 ∷ 115 ∷ 116 ∷ 118 ∷ 97 ∷ 114 ∷ 115 ∷ 91 ∷ 105 ∷ 116 ∷ 101 ∷ 109 ∷ 93 ∷ 46 ∷ 111 ∷ 112 ∷ 113 ∷ 46 ∷ 114 ∷ 101 ∷ 115 ∷ 117 ∷ 108 ∷ 116 ∷ 115 ∷ 32 ∷ []) ≡ Some (path (other item_host (codes "opq")) ((codes "results") ∷ []))
text_422 = refl

text_423 : expression_of (32 ∷ 104 ∷ 111 ∷ 115 ∷ 116 ∷ 118 ∷ 97 ∷ 114 ∷ 115 ∷ 91 ∷ 105 ∷ 116 ∷ 101 ∷ 109 ∷ 93 ∷ 46 ∷ 111 ∷ 112 ∷ 113 ∷ 46 ∷ 115 ∷ 116 ∷ 97 ∷ 116 ∷ 46 ∷ 105 ∷ 115 ∷ 100 ∷ 105 ∷ 114 ∷ 32 ∷ []) ≡ Some (path (other item_host (codes "opq")) ((codes "stat") ∷ (codes "isdir") ∷ []))
text_423 = refl

text_424 : expression_of (32 ∷ 104 ∷ 111 ∷ 115 ∷ 116 ∷ 118 ∷ 97 ∷ 114 ∷ 115 ∷ 91 ∷ 105 ∷ 116 ∷ 101 ∷ 109 ∷ 93 ∷ 46 ∷ 111 ∷ 112 ∷ 113 ∷ 46 ∷ 115 ∷ 116 ∷ 97 ∷ 116 ∷ 46 ∷ 105 ∷ 115 ∷ 100 ∷ 105 ∷ 114 ∷ 32 ∷ 124 ∷ 32 ∷ 108 ∷ 101 ∷ 110 ∷ 103 ∷ 116 ∷ 104 ∷ 32 ∷ []) ≡ Some (length_of (path (other item_host (codes "opq")) ((codes "stat") ∷ (codes "isdir") ∷ [])))
text_424 = refl

text_425 : expression_of (32 ∷ 104 ∷ 111 ∷ 115 ∷ 116 ∷ 118 ∷ 97 ∷ 114 ∷ 115 ∷ 91 ∷ 105 ∷ 116 ∷ 101 ∷ 109 ∷ 93 ∷ 46 ∷ 111 ∷ 117 ∷ 116 ∷ 46 ∷ 114 ∷ 99 ∷ 32 ∷ []) ≡ Some (path (other item_host (codes "out")) ((codes "rc") ∷ []))
text_425 = refl

text_426 : expression_of (32 ∷ 104 ∷ 111 ∷ 115 ∷ 116 ∷ 118 ∷ 97 ∷ 114 ∷ 115 ∷ 91 ∷ 105 ∷ 116 ∷ 101 ∷ 109 ∷ 93 ∷ 46 ∷ 114 ∷ 46 ∷ 99 ∷ 104 ∷ 97 ∷ 110 ∷ 103 ∷ 101 ∷ 100 ∷ 32 ∷ []) ≡ Some (path (other item_host (codes "r")) ((codes "changed") ∷ []))
text_426 = refl

text_427 : expression_of (32 ∷ 104 ∷ 111 ∷ 115 ∷ 116 ∷ 118 ∷ 97 ∷ 114 ∷ 115 ∷ 91 ∷ 105 ∷ 116 ∷ 101 ∷ 109 ∷ 93 ∷ 46 ∷ 114 ∷ 46 ∷ 115 ∷ 116 ∷ 97 ∷ 116 ∷ 46 ∷ 105 ∷ 115 ∷ 100 ∷ 105 ∷ 114 ∷ 32 ∷ []) ≡ Some (path (other item_host (codes "r")) ((codes "stat") ∷ (codes "isdir") ∷ []))
text_427 = refl

text_428 : expression_of (32 ∷ 104 ∷ 111 ∷ 115 ∷ 116 ∷ 118 ∷ 97 ∷ 114 ∷ 115 ∷ 91 ∷ 105 ∷ 116 ∷ 101 ∷ 109 ∷ 93 ∷ 46 ∷ 114 ∷ 49 ∷ 32 ∷ []) ≡ Some (path (other item_host (codes "r1")) ([]))
text_428 = refl

text_429 : expression_of (32 ∷ 104 ∷ 111 ∷ 115 ∷ 116 ∷ 118 ∷ 97 ∷ 114 ∷ 115 ∷ 91 ∷ 105 ∷ 116 ∷ 101 ∷ 109 ∷ 93 ∷ 46 ∷ 114 ∷ 49 ∷ 32 ∷ 124 ∷ 32 ∷ 100 ∷ 101 ∷ 102 ∷ 97 ∷ 117 ∷ 108 ∷ 116 ∷ 40 ∷ 115 ∷ 49 ∷ 41 ∷ 32 ∷ []) ≡ Some (path_or (other item_host (codes "r1")) ([]) (path (variable (codes "s1")) ([])))
text_429 = refl

text_430 : expression_of (32 ∷ 104 ∷ 111 ∷ 115 ∷ 116 ∷ 118 ∷ 97 ∷ 114 ∷ 115 ∷ 91 ∷ 105 ∷ 116 ∷ 101 ∷ 109 ∷ 93 ∷ 46 ∷ 114 ∷ 49 ∷ 32 ∷ 124 ∷ 32 ∷ 108 ∷ 101 ∷ 110 ∷ 103 ∷ 116 ∷ 104 ∷ 32 ∷ []) ≡ Some (length_of (path (other item_host (codes "r1")) ([])))
text_430 = refl

text_431 : expression_of (32 ∷ 104 ∷ 111 ∷ 115 ∷ 116 ∷ 118 ∷ 97 ∷ 114 ∷ 115 ∷ 91 ∷ 105 ∷ 116 ∷ 101 ∷ 109 ∷ 93 ∷ 46 ∷ 114 ∷ 49 ∷ 46 ∷ 99 ∷ 104 ∷ 97 ∷ 110 ∷ 103 ∷ 101 ∷ 100 ∷ 32 ∷ []) ≡ Some (path (other item_host (codes "r1")) ((codes "changed") ∷ []))
text_431 = refl

text_432 : expression_of (32 ∷ 104 ∷ 111 ∷ 115 ∷ 116 ∷ 118 ∷ 97 ∷ 114 ∷ 115 ∷ 91 ∷ 105 ∷ 116 ∷ 101 ∷ 109 ∷ 93 ∷ 46 ∷ 114 ∷ 49 ∷ 46 ∷ 99 ∷ 104 ∷ 97 ∷ 110 ∷ 103 ∷ 101 ∷ 100 ∷ 32 ∷ 124 ∷ 32 ∷ 100 ∷ 101 ∷ 102 ∷ 97 ∷ 117 ∷ 108 ∷ 116 ∷ 40 ∷ 49 ∷ 41 ∷ 32 ∷ []) ≡ Some (path_or (other item_host (codes "r1")) ((codes "changed") ∷ []) (literal (int (pos 1))))
text_432 = refl

text_433 : expression_of (32 ∷ 104 ∷ 111 ∷ 115 ∷ 116 ∷ 118 ∷ 97 ∷ 114 ∷ 115 ∷ 91 ∷ 105 ∷ 116 ∷ 101 ∷ 109 ∷ 93 ∷ 46 ∷ 114 ∷ 49 ∷ 46 ∷ 102 ∷ 97 ∷ 105 ∷ 108 ∷ 101 ∷ 100 ∷ 32 ∷ []) ≡ Some (path (other item_host (codes "r1")) ((codes "failed") ∷ []))
text_433 = refl

text_434 : expression_of (32 ∷ 104 ∷ 111 ∷ 115 ∷ 116 ∷ 118 ∷ 97 ∷ 114 ∷ 115 ∷ 91 ∷ 105 ∷ 116 ∷ 101 ∷ 109 ∷ 93 ∷ 46 ∷ 114 ∷ 49 ∷ 46 ∷ 102 ∷ 97 ∷ 105 ∷ 108 ∷ 101 ∷ 100 ∷ 32 ∷ 124 ∷ 32 ∷ 100 ∷ 101 ∷ 102 ∷ 97 ∷ 117 ∷ 108 ∷ 116 ∷ 40 ∷ 49 ∷ 41 ∷ 32 ∷ []) ≡ Some (path_or (other item_host (codes "r1")) ((codes "failed") ∷ []) (literal (int (pos 1))))
text_434 = refl

text_435 : expression_of (32 ∷ 104 ∷ 111 ∷ 115 ∷ 116 ∷ 118 ∷ 97 ∷ 114 ∷ 115 ∷ 91 ∷ 105 ∷ 116 ∷ 101 ∷ 109 ∷ 93 ∷ 46 ∷ 114 ∷ 49 ∷ 46 ∷ 109 ∷ 115 ∷ 103 ∷ 32 ∷ 124 ∷ 32 ∷ 100 ∷ 101 ∷ 102 ∷ 97 ∷ 117 ∷ 108 ∷ 116 ∷ 40 ∷ 49 ∷ 41 ∷ 32 ∷ []) ≡ Some (path_or (other item_host (codes "r1")) ((codes "msg") ∷ []) (literal (int (pos 1))))
text_435 = refl

text_436 : expression_of (32 ∷ 104 ∷ 111 ∷ 115 ∷ 116 ∷ 118 ∷ 97 ∷ 114 ∷ 115 ∷ 91 ∷ 105 ∷ 116 ∷ 101 ∷ 109 ∷ 93 ∷ 46 ∷ 114 ∷ 49 ∷ 46 ∷ 114 ∷ 99 ∷ 32 ∷ []) ≡ Some (path (other item_host (codes "r1")) ((codes "rc") ∷ []))
text_436 = refl

text_437 : expression_of (32 ∷ 104 ∷ 111 ∷ 115 ∷ 116 ∷ 118 ∷ 97 ∷ 114 ∷ 115 ∷ 91 ∷ 105 ∷ 116 ∷ 101 ∷ 109 ∷ 93 ∷ 46 ∷ 114 ∷ 49 ∷ 46 ∷ 115 ∷ 116 ∷ 97 ∷ 116 ∷ 46 ∷ 115 ∷ 105 ∷ 122 ∷ 101 ∷ 32 ∷ []) ≡ Some (path (other item_host (codes "r1")) ((codes "stat") ∷ (codes "size") ∷ []))
text_437 = refl

text_438 : expression_of (32 ∷ 104 ∷ 111 ∷ 115 ∷ 116 ∷ 118 ∷ 97 ∷ 114 ∷ 115 ∷ 91 ∷ 105 ∷ 116 ∷ 101 ∷ 109 ∷ 93 ∷ 46 ∷ 114 ∷ 50 ∷ 46 ∷ 99 ∷ 104 ∷ 97 ∷ 110 ∷ 103 ∷ 101 ∷ 100 ∷ 32 ∷ []) ≡ Some (path (other item_host (codes "r2")) ((codes "changed") ∷ []))
text_438 = refl

text_439 : expression_of (32 ∷ 104 ∷ 111 ∷ 115 ∷ 116 ∷ 118 ∷ 97 ∷ 114 ∷ 115 ∷ 91 ∷ 105 ∷ 116 ∷ 101 ∷ 109 ∷ 93 ∷ 46 ∷ 114 ∷ 50 ∷ 46 ∷ 99 ∷ 104 ∷ 97 ∷ 110 ∷ 103 ∷ 101 ∷ 100 ∷ 32 ∷ 124 ∷ 32 ∷ 100 ∷ 101 ∷ 102 ∷ 97 ∷ 117 ∷ 108 ∷ 116 ∷ 40 ∷ 91 ∷ 93 ∷ 41 ∷ 32 ∷ []) ≡ Some (path_or (other item_host (codes "r2")) ((codes "changed") ∷ []) (list_of (no_expressions)))
text_439 = refl

text_440 : expression_of (32 ∷ 104 ∷ 111 ∷ 115 ∷ 116 ∷ 118 ∷ 97 ∷ 114 ∷ 115 ∷ 91 ∷ 105 ∷ 116 ∷ 101 ∷ 109 ∷ 93 ∷ 46 ∷ 114 ∷ 50 ∷ 46 ∷ 102 ∷ 97 ∷ 105 ∷ 108 ∷ 101 ∷ 100 ∷ 32 ∷ []) ≡ Some (path (other item_host (codes "r2")) ((codes "failed") ∷ []))
text_440 = refl

text_441 : expression_of (32 ∷ 104 ∷ 111 ∷ 115 ∷ 116 ∷ 118 ∷ 97 ∷ 114 ∷ 115 ∷ 91 ∷ 105 ∷ 116 ∷ 101 ∷ 109 ∷ 93 ∷ 46 ∷ 114 ∷ 50 ∷ 46 ∷ 102 ∷ 97 ∷ 105 ∷ 108 ∷ 101 ∷ 100 ∷ 32 ∷ 124 ∷ 32 ∷ 100 ∷ 101 ∷ 102 ∷ 97 ∷ 117 ∷ 108 ∷ 116 ∷ 40 ∷ 115 ∷ 49 ∷ 41 ∷ 32 ∷ []) ≡ Some (path_or (other item_host (codes "r2")) ((codes "failed") ∷ []) (path (variable (codes "s1")) ([])))
text_441 = refl

text_442 : expression_of (32 ∷ 104 ∷ 111 ∷ 115 ∷ 116 ∷ 118 ∷ 97 ∷ 114 ∷ 115 ∷ 91 ∷ 105 ∷ 116 ∷ 101 ∷ 109 ∷ 93 ∷ 46 ∷ 114 ∷ 51 ∷ 46 ∷ 99 ∷ 104 ∷ 97 ∷ 110 ∷ 103 ∷ 101 ∷ 100 ∷ 32 ∷ []) ≡ Some (path (other item_host (codes "r3")) ((codes "changed") ∷ []))
text_442 = refl

text_443 : expression_of (32 ∷ 104 ∷ 111 ∷ 115 ∷ 116 ∷ 118 ∷ 97 ∷ 114 ∷ 115 ∷ 91 ∷ 105 ∷ 116 ∷ 101 ∷ 109 ∷ 93 ∷ 46 ∷ 114 ∷ 51 ∷ 46 ∷ 102 ∷ 97 ∷ 105 ∷ 108 ∷ 101 ∷ 100 ∷ 32 ∷ 124 ∷ 32 ∷ 108 ∷ 101 ∷ 110 ∷ 103 ∷ 116 ∷ 104 ∷ 32 ∷ []) ≡ Some (length_of (path (other item_host (codes "r3")) ((codes "failed") ∷ [])))
text_443 = refl

text_444 : expression_of (32 ∷ 104 ∷ 111 ∷ 115 ∷ 116 ∷ 118 ∷ 97 ∷ 114 ∷ 115 ∷ 91 ∷ 105 ∷ 116 ∷ 101 ∷ 109 ∷ 93 ∷ 46 ∷ 114 ∷ 51 ∷ 46 ∷ 112 ∷ 105 ∷ 110 ∷ 103 ∷ 32 ∷ 124 ∷ 32 ∷ 100 ∷ 101 ∷ 102 ∷ 97 ∷ 117 ∷ 108 ∷ 116 ∷ 40 ∷ 49 ∷ 41 ∷ 32 ∷ []) ≡ Some (path_or (other item_host (codes "r3")) ((codes "ping") ∷ []) (literal (int (pos 1))))
text_444 = refl

text_445 : expression_of (32 ∷ 104 ∷ 111 ∷ 115 ∷ 116 ∷ 118 ∷ 97 ∷ 114 ∷ 115 ∷ 91 ∷ 105 ∷ 116 ∷ 101 ∷ 109 ∷ 93 ∷ 46 ∷ 114 ∷ 51 ∷ 46 ∷ 114 ∷ 99 ∷ 32 ∷ 124 ∷ 32 ∷ 100 ∷ 101 ∷ 102 ∷ 97 ∷ 117 ∷ 108 ∷ 116 ∷ 40 ∷ 49 ∷ 41 ∷ 32 ∷ []) ≡ Some (path_or (other item_host (codes "r3")) ((codes "rc") ∷ []) (literal (int (pos 1))))
text_445 = refl

text_446 : expression_of (32 ∷ 104 ∷ 111 ∷ 115 ∷ 116 ∷ 118 ∷ 97 ∷ 114 ∷ 115 ∷ 91 ∷ 105 ∷ 116 ∷ 101 ∷ 109 ∷ 93 ∷ 46 ∷ 114 ∷ 51 ∷ 46 ∷ 114 ∷ 111 ∷ 119 ∷ 115 ∷ 32 ∷ []) ≡ Some (path (other item_host (codes "r3")) ((codes "rows") ∷ []))
text_446 = refl

text_447 : expression_of (32 ∷ 104 ∷ 111 ∷ 115 ∷ 116 ∷ 118 ∷ 97 ∷ 114 ∷ 115 ∷ 91 ∷ 105 ∷ 116 ∷ 101 ∷ 109 ∷ 93 ∷ 46 ∷ 115 ∷ 46 ∷ 111 ∷ 115 ∷ 95 ∷ 102 ∷ 97 ∷ 109 ∷ 105 ∷ 108 ∷ 121 ∷ 32 ∷ []) ≡ Some (path (other item_host (codes "s")) ((codes "os_family") ∷ []))
text_447 = refl

text_448 : expression_of (32 ∷ 104 ∷ 111 ∷ 115 ∷ 116 ∷ 118 ∷ 97 ∷ 114 ∷ 115 ∷ 91 ∷ 105 ∷ 116 ∷ 101 ∷ 109 ∷ 93 ∷ 46 ∷ 115 ∷ 49 ∷ 32 ∷ []) ≡ Some (path (other item_host (codes "s1")) ([]))
text_448 = refl

text_449 : expression_of (32 ∷ 104 ∷ 111 ∷ 115 ∷ 116 ∷ 118 ∷ 97 ∷ 114 ∷ 115 ∷ 91 ∷ 105 ∷ 116 ∷ 101 ∷ 109 ∷ 93 ∷ 46 ∷ 115 ∷ 49 ∷ 32 ∷ 124 ∷ 32 ∷ 108 ∷ 101 ∷ 110 ∷ 103 ∷ 116 ∷ 104 ∷ 32 ∷ []) ≡ Some (length_of (path (other item_host (codes "s1")) ([])))
text_449 = refl

text_450 : expression_of (32 ∷ 104 ∷ 111 ∷ 115 ∷ 116 ∷ 118 ∷ 97 ∷ 114 ∷ 115 ∷ 91 ∷ 105 ∷ 116 ∷ 101 ∷ 109 ∷ 93 ∷ 46 ∷ 115 ∷ 50 ∷ 32 ∷ []) ≡ Some (path (other item_host (codes "s2")) ([]))
text_450 = refl

text_451 : expression_of (32 ∷ 104 ∷ 111 ∷ 115 ∷ 116 ∷ 118 ∷ 97 ∷ 114 ∷ 115 ∷ 91 ∷ 105 ∷ 116 ∷ 101 ∷ 109 ∷ 93 ∷ 46 ∷ 115 ∷ 50 ∷ 46 ∷ 102 ∷ 32 ∷ 124 ∷ 32 ∷ 108 ∷ 101 ∷ 110 ∷ 103 ∷ 116 ∷ 104 ∷ 32 ∷ []) ≡ Some (length_of (path (other item_host (codes "s2")) ((codes "f") ∷ [])))
text_451 = refl

text_452 : expression_of (32 ∷ 104 ∷ 111 ∷ 115 ∷ 116 ∷ 118 ∷ 97 ∷ 114 ∷ 115 ∷ 91 ∷ 105 ∷ 116 ∷ 101 ∷ 109 ∷ 93 ∷ 46 ∷ 120 ∷ 32 ∷ 105 ∷ 115 ∷ 32 ∷ 100 ∷ 101 ∷ 102 ∷ 105 ∷ 110 ∷ 101 ∷ 100 ∷ 32 ∷ []) ≡ Some (defined (other item_host (codes "x")) ([]))
text_452 = refl

text_453 : expression_of (32 ∷ 104 ∷ 111 ∷ 115 ∷ 116 ∷ 118 ∷ 97 ∷ 114 ∷ 115 ∷ 91 ∷ 105 ∷ 116 ∷ 101 ∷ 109 ∷ 93 ∷ 46 ∷ 121 ∷ 32 ∷ []) ≡ Some (path (other item_host (codes "y")) ([]))
text_453 = refl

text_454 : expression_of (32 ∷ 104 ∷ 111 ∷ 115 ∷ 116 ∷ 118 ∷ 97 ∷ 114 ∷ 115 ∷ 91 ∷ 105 ∷ 116 ∷ 101 ∷ 109 ∷ 93 ∷ 46 ∷ 121 ∷ 46 ∷ 104 ∷ 111 ∷ 115 ∷ 116 ∷ 110 ∷ 97 ∷ 109 ∷ 101 ∷ 32 ∷ []) ≡ Some (path (other item_host (codes "y")) ((codes "hostname") ∷ []))
text_454 = refl

text_455 : expression_of (32 ∷ 104 ∷ 111 ∷ 115 ∷ 116 ∷ 118 ∷ 97 ∷ 114 ∷ 115 ∷ 91 ∷ 105 ∷ 116 ∷ 101 ∷ 109 ∷ 93 ∷ 46 ∷ 121 ∷ 46 ∷ 107 ∷ 32 ∷ []) ≡ Some (path (other item_host (codes "y")) ((codes "k") ∷ []))
text_455 = refl

text_456 : expression_of (32 ∷ 104 ∷ 111 ∷ 115 ∷ 116 ∷ 118 ∷ 97 ∷ 114 ∷ 115 ∷ 91 ∷ 105 ∷ 116 ∷ 101 ∷ 109 ∷ 93 ∷ 46 ∷ 121 ∷ 46 ∷ 115 ∷ 116 ∷ 97 ∷ 116 ∷ 46 ∷ 105 ∷ 115 ∷ 100 ∷ 105 ∷ 114 ∷ 32 ∷ []) ≡ Some (path (other item_host (codes "y")) ((codes "stat") ∷ (codes "isdir") ∷ []))
text_456 = refl

text_457 : expression_of (codes " i1 ") ≡ Some (path (variable (codes "i1")) ([]))
text_457 = refl

text_458 : expression_of (32 ∷ 105 ∷ 49 ∷ 32 ∷ 124 ∷ 32 ∷ 100 ∷ 101 ∷ 102 ∷ 97 ∷ 117 ∷ 108 ∷ 116 ∷ 40 ∷ 49 ∷ 41 ∷ 32 ∷ []) ≡ Some (path_or (variable (codes "i1")) ([]) (literal (int (pos 1))))
text_458 = refl

text_459 : expression_of (32 ∷ 105 ∷ 49 ∷ 32 ∷ 124 ∷ 32 ∷ 100 ∷ 101 ∷ 102 ∷ 97 ∷ 117 ∷ 108 ∷ 116 ∷ 40 ∷ 91 ∷ 93 ∷ 41 ∷ 32 ∷ []) ≡ Some (path_or (variable (codes "i1")) ([]) (list_of (no_expressions)))
text_459 = refl

text_460 : expression_of (32 ∷ 105 ∷ 49 ∷ 32 ∷ 124 ∷ 32 ∷ 108 ∷ 101 ∷ 110 ∷ 103 ∷ 116 ∷ 104 ∷ 32 ∷ []) ≡ Some (length_of (path (variable (codes "i1")) ([])))
text_460 = refl

text_461 : expression_of (codes " i1.changed ") ≡ Some (path (variable (codes "i1")) ((codes "changed") ∷ []))
text_461 = refl

text_462 : expression_of (32 ∷ 105 ∷ 49 ∷ 46 ∷ 99 ∷ 104 ∷ 97 ∷ 110 ∷ 103 ∷ 101 ∷ 100 ∷ 32 ∷ 124 ∷ 32 ∷ 108 ∷ 101 ∷ 110 ∷ 103 ∷ 116 ∷ 104 ∷ 32 ∷ []) ≡ Some (length_of (path (variable (codes "i1")) ((codes "changed") ∷ [])))
text_462 = refl

text_463 : expression_of (codes " i1.f ") ≡ Some (path (variable (codes "i1")) ((codes "f") ∷ []))
text_463 = refl

text_464 : expression_of (32 ∷ 105 ∷ 49 ∷ 46 ∷ 103 ∷ 32 ∷ 124 ∷ 32 ∷ 100 ∷ 101 ∷ 102 ∷ 97 ∷ 117 ∷ 108 ∷ 116 ∷ 40 ∷ 91 ∷ 93 ∷ 41 ∷ 32 ∷ []) ≡ Some (path_or (variable (codes "i1")) ((codes "g") ∷ []) (list_of (no_expressions)))
text_464 = refl

text_465 : expression_of (codes " i1.rc ") ≡ Some (path (variable (codes "i1")) ((codes "rc") ∷ []))
text_465 = refl

text_466 : expression_of (32 ∷ 105 ∷ 49 ∷ 46 ∷ 114 ∷ 99 ∷ 32 ∷ 124 ∷ 32 ∷ 108 ∷ 101 ∷ 110 ∷ 103 ∷ 116 ∷ 104 ∷ 32 ∷ []) ≡ Some (length_of (path (variable (codes "i1")) ((codes "rc") ∷ [])))
text_466 = refl

text_467 : expression_of (codes " i1.stdout ") ≡ Some (path (variable (codes "i1")) ((codes "stdout") ∷ []))
text_467 = refl

text_468 : expression_of (32 ∷ 105 ∷ 49 ∷ 46 ∷ 115 ∷ 116 ∷ 100 ∷ 111 ∷ 117 ∷ 116 ∷ 32 ∷ 124 ∷ 32 ∷ 100 ∷ 101 ∷ 102 ∷ 97 ∷ 117 ∷ 108 ∷ 116 ∷ 40 ∷ 91 ∷ 93 ∷ 41 ∷ 32 ∷ []) ≡ Some (path_or (variable (codes "i1")) ((codes "stdout") ∷ []) (list_of (no_expressions)))
text_468 = refl

text_469 : expression_of (32 ∷ 105 ∷ 49 ∷ 46 ∷ 115 ∷ 116 ∷ 100 ∷ 111 ∷ 117 ∷ 116 ∷ 32 ∷ 124 ∷ 32 ∷ 108 ∷ 101 ∷ 110 ∷ 103 ∷ 116 ∷ 104 ∷ 32 ∷ []) ≡ Some (length_of (path (variable (codes "i1")) ((codes "stdout") ∷ [])))
text_469 = refl

text_470 : expression_of (codes " i2 ") ≡ Some (path (variable (codes "i2")) ([]))
text_470 = refl

text_471 : expression_of (32 ∷ 105 ∷ 50 ∷ 32 ∷ 124 ∷ 32 ∷ 100 ∷ 101 ∷ 102 ∷ 97 ∷ 117 ∷ 108 ∷ 116 ∷ 40 ∷ 49 ∷ 41 ∷ 32 ∷ []) ≡ Some (path_or (variable (codes "i2")) ([]) (literal (int (pos 1))))
text_471 = refl

text_472 : expression_of (32 ∷ 105 ∷ 50 ∷ 32 ∷ 124 ∷ 32 ∷ 100 ∷ 101 ∷ 102 ∷ 97 ∷ 117 ∷ 108 ∷ 116 ∷ 40 ∷ 91 ∷ 93 ∷ 41 ∷ 32 ∷ []) ≡ Some (path_or (variable (codes "i2")) ([]) (list_of (no_expressions)))
text_472 = refl

text_473 : expression_of (32 ∷ 105 ∷ 50 ∷ 32 ∷ 124 ∷ 32 ∷ 100 ∷ 101 ∷ 102 ∷ 97 ∷ 117 ∷ 108 ∷ 116 ∷ 40 ∷ 115 ∷ 49 ∷ 41 ∷ 32 ∷ []) ≡ Some (path_or (variable (codes "i2")) ([]) (path (variable (codes "s1")) ([])))
text_473 = refl

text_474 : expression_of (32 ∷ 105 ∷ 50 ∷ 32 ∷ 124 ∷ 32 ∷ 108 ∷ 101 ∷ 110 ∷ 103 ∷ 116 ∷ 104 ∷ 32 ∷ []) ≡ Some (length_of (path (variable (codes "i2")) ([])))
text_474 = refl

text_475 : expression_of (codes " i2.changed ") ≡ Some (path (variable (codes "i2")) ((codes "changed") ∷ []))
text_475 = refl

text_476 : expression_of (codes " i2.f ") ≡ Some (path (variable (codes "i2")) ((codes "f") ∷ []))
text_476 = refl

text_477 : expression_of (32 ∷ 105 ∷ 50 ∷ 46 ∷ 102 ∷ 32 ∷ 124 ∷ 32 ∷ 108 ∷ 101 ∷ 110 ∷ 103 ∷ 116 ∷ 104 ∷ 32 ∷ []) ≡ Some (length_of (path (variable (codes "i2")) ((codes "f") ∷ [])))
text_477 = refl

text_478 : expression_of (codes " i2.g ") ≡ Some (path (variable (codes "i2")) ((codes "g") ∷ []))
text_478 = refl

text_479 : expression_of (32 ∷ 105 ∷ 50 ∷ 46 ∷ 103 ∷ 32 ∷ 124 ∷ 32 ∷ 100 ∷ 101 ∷ 102 ∷ 97 ∷ 117 ∷ 108 ∷ 116 ∷ 40 ∷ 49 ∷ 41 ∷ 32 ∷ []) ≡ Some (path_or (variable (codes "i2")) ((codes "g") ∷ []) (literal (int (pos 1))))
text_479 = refl

text_480 : expression_of (32 ∷ 105 ∷ 50 ∷ 46 ∷ 103 ∷ 32 ∷ 124 ∷ 32 ∷ 100 ∷ 101 ∷ 102 ∷ 97 ∷ 117 ∷ 108 ∷ 116 ∷ 40 ∷ 91 ∷ 93 ∷ 41 ∷ 32 ∷ []) ≡ Some (path_or (variable (codes "i2")) ((codes "g") ∷ []) (list_of (no_expressions)))
text_480 = refl

text_481 : expression_of (codes " i2.rc ") ≡ Some (path (variable (codes "i2")) ((codes "rc") ∷ []))
text_481 = refl

text_482 : expression_of (codes " i2.stdout ") ≡ Some (path (variable (codes "i2")) ((codes "stdout") ∷ []))
text_482 = refl

text_483 : expression_of (32 ∷ 105 ∷ 50 ∷ 46 ∷ 115 ∷ 116 ∷ 100 ∷ 111 ∷ 117 ∷ 116 ∷ 32 ∷ 124 ∷ 32 ∷ 100 ∷ 101 ∷ 102 ∷ 97 ∷ 117 ∷ 108 ∷ 116 ∷ 40 ∷ 49 ∷ 41 ∷ 32 ∷ []) ≡ Some (path_or (variable (codes "i2")) ((codes "stdout") ∷ []) (literal (int (pos 1))))
text_483 = refl

text_484 : expression_of (32 ∷ 105 ∷ 50 ∷ 46 ∷ 115 ∷ 116 ∷ 100 ∷ 111 ∷ 117 ∷ 116 ∷ 32 ∷ 124 ∷ 32 ∷ 108 ∷ 101 ∷ 110 ∷ 103 ∷ 116 ∷ 104 ∷ 32 ∷ []) ≡ Some (length_of (path (variable (codes "i2")) ((codes "stdout") ∷ [])))
text_484 = refl

text_485 : expression_of (codes " inv ") ≡ Some (path (variable (codes "inv")) ([]))
text_485 = refl

text_486 : expression_of (codes " inv == 1 ") ≡ Some (comparison equal (path (variable (codes "inv")) ([])) (literal (int (pos 1))))
text_486 = refl

text_487 : expression_of (32 ∷ 105 ∷ 110 ∷ 118 ∷ 32 ∷ 124 ∷ 32 ∷ 100 ∷ 101 ∷ 102 ∷ 97 ∷ 117 ∷ 108 ∷ 116 ∷ 40 ∷ 49 ∷ 41 ∷ 32 ∷ []) ≡ Some (path_or (variable (codes "inv")) ([]) (literal (int (pos 1))))
text_487 = refl

text_488 : expression_of (32 ∷ 105 ∷ 110 ∷ 118 ∷ 32 ∷ 124 ∷ 32 ∷ 108 ∷ 101 ∷ 110 ∷ 103 ∷ 116 ∷ 104 ∷ 32 ∷ []) ≡ Some (length_of (path (variable (codes "inv")) ([])))
text_488 = refl

text_489 : expression_of (codes " inv.changed ") ≡ Some (path (variable (codes "inv")) ((codes "changed") ∷ []))
text_489 = refl

text_490 : expression_of (32 ∷ 105 ∷ 110 ∷ 118 ∷ 46 ∷ 99 ∷ 104 ∷ 97 ∷ 110 ∷ 103 ∷ 101 ∷ 100 ∷ 32 ∷ 124 ∷ 32 ∷ 108 ∷ 101 ∷ 110 ∷ 103 ∷ 116 ∷ 104 ∷ 32 ∷ []) ≡ Some (length_of (path (variable (codes "inv")) ((codes "changed") ∷ [])))
text_490 = refl

text_491 : expression_of (codes " inv.hostname ") ≡ Some (path (variable (codes "inv")) ((codes "hostname") ∷ []))
text_491 = refl

text_492 : expression_of (32 ∷ 105 ∷ 110 ∷ 118 ∷ 46 ∷ 104 ∷ 111 ∷ 115 ∷ 116 ∷ 110 ∷ 97 ∷ 109 ∷ 101 ∷ 32 ∷ 124 ∷ 32 ∷ 108 ∷ 101 ∷ 110 ∷ 103 ∷ 116 ∷ 104 ∷ 32 ∷ []) ≡ Some (length_of (path (variable (codes "inv")) ((codes "hostname") ∷ [])))
text_492 = refl

text_493 : expression_of (codes " inv.msg ") ≡ Some (path (variable (codes "inv")) ((codes "msg") ∷ []))
text_493 = refl

text_494 : expression_of (32 ∷ 105 ∷ 110 ∷ 118 ∷ 46 ∷ 109 ∷ 115 ∷ 103 ∷ 32 ∷ 124 ∷ 32 ∷ 108 ∷ 101 ∷ 110 ∷ 103 ∷ 116 ∷ 104 ∷ 32 ∷ []) ≡ Some (length_of (path (variable (codes "inv")) ((codes "msg") ∷ [])))
text_494 = refl

text_495 : expression_of (codes " inv.os_family is not defined ") ≡ Some (negation (defined (variable (codes "inv")) ((codes "os_family") ∷ [])))
text_495 = refl

text_496 : expression_of (codes " inv.rc ") ≡ Some (path (variable (codes "inv")) ((codes "rc") ∷ []))
text_496 = refl

text_497 : expression_of (32 ∷ 105 ∷ 110 ∷ 118 ∷ 46 ∷ 114 ∷ 99 ∷ 32 ∷ 124 ∷ 32 ∷ 108 ∷ 101 ∷ 110 ∷ 103 ∷ 116 ∷ 104 ∷ 32 ∷ []) ≡ Some (length_of (path (variable (codes "inv")) ((codes "rc") ∷ [])))
text_497 = refl

text_498 : expression_of (32 ∷ 105 ∷ 110 ∷ 118 ∷ 46 ∷ 115 ∷ 116 ∷ 97 ∷ 116 ∷ 46 ∷ 105 ∷ 115 ∷ 100 ∷ 105 ∷ 114 ∷ 32 ∷ 124 ∷ 32 ∷ 100 ∷ 101 ∷ 102 ∷ 97 ∷ 117 ∷ 108 ∷ 116 ∷ 40 ∷ 49 ∷ 41 ∷ 32 ∷ []) ≡ Some (path_or (variable (codes "inv")) ((codes "stat") ∷ (codes "isdir") ∷ []) (literal (int (pos 1))))
text_498 = refl

text_499 : expression_of (32 ∷ 105 ∷ 110 ∷ 118 ∷ 46 ∷ 115 ∷ 116 ∷ 97 ∷ 116 ∷ 46 ∷ 105 ∷ 115 ∷ 100 ∷ 105 ∷ 114 ∷ 32 ∷ 124 ∷ 32 ∷ 108 ∷ 101 ∷ 110 ∷ 103 ∷ 116 ∷ 104 ∷ 32 ∷ []) ≡ Some (length_of (path (variable (codes "inv")) ((codes "stat") ∷ (codes "isdir") ∷ [])))
text_499 = refl
