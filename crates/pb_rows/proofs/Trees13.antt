-- The trees of expressions of cases, computed.
use Rattle.std.specs.Prelude.{◌≡◌, refl, pos, [], ◌∷◌, true, false, Some, None, codes}
use Rattle.pb_semantics.specs.Data.{boolean, int, text}
use Rattle.pb_language.specs.Expression.{equal, less, is_failed, is_skipped, item_host, literal, path, negation, conjunction, comparison, defined, path_status, path_or, length_of, concatenation, list_of, variable, other, no_expressions, expression}
use Rattle.pb_language.specs.Grammar.{template_of}

text_3000 : template_of (123 ∷ 123 ∷ 32 ∷ 114 ∷ 51 ∷ 46 ∷ 115 ∷ 107 ∷ 105 ∷ 112 ∷ 95 ∷ 114 ∷ 101 ∷ 97 ∷ 115 ∷ 111 ∷ 110 ∷ 32 ∷ 124 ∷ 32 ∷ 100 ∷ 101 ∷ 102 ∷ 97 ∷ 117 ∷ 108 ∷ 116 ∷ 40 ∷ 49 ∷ 41 ∷ 32 ∷ 125 ∷ 125 ∷ []) ≡ Some (path_or (variable (codes "r3")) ((codes "skip_reason") ∷ []) (literal (int (pos 1))))
text_3000 = refl

text_3001 : template_of (123 ∷ 123 ∷ 32 ∷ 114 ∷ 51 ∷ 46 ∷ 115 ∷ 107 ∷ 105 ∷ 112 ∷ 95 ∷ 114 ∷ 101 ∷ 97 ∷ 115 ∷ 111 ∷ 110 ∷ 32 ∷ 125 ∷ 125 ∷ []) ≡ Some (path (variable (codes "r3")) ((codes "skip_reason") ∷ []))
text_3001 = refl

text_3002 : template_of (123 ∷ 123 ∷ 32 ∷ 114 ∷ 51 ∷ 46 ∷ 115 ∷ 107 ∷ 105 ∷ 112 ∷ 112 ∷ 101 ∷ 100 ∷ 32 ∷ 124 ∷ 32 ∷ 100 ∷ 101 ∷ 102 ∷ 97 ∷ 117 ∷ 108 ∷ 116 ∷ 40 ∷ 49 ∷ 41 ∷ 32 ∷ 125 ∷ 125 ∷ []) ≡ Some (path_or (variable (codes "r3")) ((codes "skipped") ∷ []) (literal (int (pos 1))))
text_3002 = refl

text_3003 : template_of (123 ∷ 123 ∷ 32 ∷ 114 ∷ 51 ∷ 46 ∷ 115 ∷ 107 ∷ 105 ∷ 112 ∷ 112 ∷ 101 ∷ 100 ∷ 32 ∷ 124 ∷ 32 ∷ 108 ∷ 101 ∷ 110 ∷ 103 ∷ 116 ∷ 104 ∷ 32 ∷ 125 ∷ 125 ∷ []) ≡ Some (length_of (path (variable (codes "r3")) ((codes "skipped") ∷ [])))
text_3003 = refl

text_3004 : template_of (123 ∷ 123 ∷ 32 ∷ 114 ∷ 51 ∷ 46 ∷ 115 ∷ 107 ∷ 105 ∷ 112 ∷ 112 ∷ 101 ∷ 100 ∷ 32 ∷ 125 ∷ 125 ∷ []) ≡ Some (path (variable (codes "r3")) ((codes "skipped") ∷ []))
text_3004 = refl

text_3005 : template_of (123 ∷ 123 ∷ 32 ∷ 114 ∷ 51 ∷ 46 ∷ 115 ∷ 116 ∷ 97 ∷ 116 ∷ 32 ∷ 124 ∷ 32 ∷ 100 ∷ 101 ∷ 102 ∷ 97 ∷ 117 ∷ 108 ∷ 116 ∷ 40 ∷ 49 ∷ 41 ∷ 32 ∷ 125 ∷ 125 ∷ []) ≡ Some (path_or (variable (codes "r3")) ((codes "stat") ∷ []) (literal (int (pos 1))))
text_3005 = refl

text_3006 : template_of (123 ∷ 123 ∷ 32 ∷ 114 ∷ 51 ∷ 46 ∷ 115 ∷ 116 ∷ 97 ∷ 116 ∷ 46 ∷ 101 ∷ 120 ∷ 105 ∷ 115 ∷ 116 ∷ 115 ∷ 32 ∷ 125 ∷ 125 ∷ []) ≡ Some (path (variable (codes "r3")) ((codes "stat") ∷ (codes "exists") ∷ []))
text_3006 = refl

text_3007 : template_of (123 ∷ 123 ∷ 32 ∷ 114 ∷ 51 ∷ 46 ∷ 115 ∷ 116 ∷ 97 ∷ 116 ∷ 46 ∷ 115 ∷ 105 ∷ 122 ∷ 101 ∷ 32 ∷ 125 ∷ 125 ∷ []) ≡ Some (path (variable (codes "r3")) ((codes "stat") ∷ (codes "size") ∷ []))
text_3007 = refl

text_3008 : template_of (123 ∷ 123 ∷ 32 ∷ 114 ∷ 51 ∷ 46 ∷ 115 ∷ 116 ∷ 100 ∷ 101 ∷ 114 ∷ 114 ∷ 32 ∷ 124 ∷ 32 ∷ 100 ∷ 101 ∷ 102 ∷ 97 ∷ 117 ∷ 108 ∷ 116 ∷ 40 ∷ 49 ∷ 41 ∷ 32 ∷ 125 ∷ 125 ∷ []) ≡ Some (path_or (variable (codes "r3")) ((codes "stderr") ∷ []) (literal (int (pos 1))))
text_3008 = refl

text_3009 : template_of (123 ∷ 123 ∷ 32 ∷ 114 ∷ 51 ∷ 46 ∷ 115 ∷ 116 ∷ 100 ∷ 101 ∷ 114 ∷ 114 ∷ 32 ∷ 124 ∷ 32 ∷ 108 ∷ 101 ∷ 110 ∷ 103 ∷ 116 ∷ 104 ∷ 32 ∷ 125 ∷ 125 ∷ []) ≡ Some (length_of (path (variable (codes "r3")) ((codes "stderr") ∷ [])))
text_3009 = refl

text_3010 : template_of (123 ∷ 123 ∷ 32 ∷ 114 ∷ 51 ∷ 46 ∷ 115 ∷ 116 ∷ 100 ∷ 101 ∷ 114 ∷ 114 ∷ 32 ∷ 125 ∷ 125 ∷ []) ≡ Some (path (variable (codes "r3")) ((codes "stderr") ∷ []))
text_3010 = refl

text_3011 : template_of (123 ∷ 123 ∷ 32 ∷ 114 ∷ 51 ∷ 46 ∷ 115 ∷ 116 ∷ 100 ∷ 111 ∷ 117 ∷ 116 ∷ 32 ∷ 125 ∷ 125 ∷ []) ≡ Some (path (variable (codes "r3")) ((codes "stdout") ∷ []))
text_3011 = refl

text_3012 : template_of (123 ∷ 123 ∷ 32 ∷ 114 ∷ 51 ∷ 46 ∷ 115 ∷ 116 ∷ 100 ∷ 111 ∷ 117 ∷ 116 ∷ 95 ∷ 108 ∷ 105 ∷ 110 ∷ 101 ∷ 115 ∷ 32 ∷ 124 ∷ 32 ∷ 100 ∷ 101 ∷ 102 ∷ 97 ∷ 117 ∷ 108 ∷ 116 ∷ 40 ∷ 91 ∷ 93 ∷ 41 ∷ 32 ∷ 125 ∷ 125 ∷ []) ≡ Some (path_or (variable (codes "r3")) ((codes "stdout_lines") ∷ []) (list_of (no_expressions)))
text_3012 = refl

text_3013 : template_of (123 ∷ 123 ∷ 32 ∷ 114 ∷ 51 ∷ 46 ∷ 115 ∷ 116 ∷ 100 ∷ 111 ∷ 117 ∷ 116 ∷ 95 ∷ 108 ∷ 105 ∷ 110 ∷ 101 ∷ 115 ∷ 32 ∷ 125 ∷ 125 ∷ []) ≡ Some (path (variable (codes "r3")) ((codes "stdout_lines") ∷ []))
text_3013 = refl

text_3014 : template_of (123 ∷ 123 ∷ 32 ∷ 114 ∷ 51 ∷ 46 ∷ 118 ∷ 32 ∷ 125 ∷ 125 ∷ []) ≡ Some (path (variable (codes "r3")) ((codes "v") ∷ []))
text_3014 = refl

text_3015 : template_of (123 ∷ 123 ∷ 32 ∷ 114 ∷ 51 ∷ 46 ∷ 119 ∷ 104 ∷ 121 ∷ 32 ∷ 125 ∷ 125 ∷ []) ≡ Some (path (variable (codes "r3")) ((codes "why") ∷ []))
text_3015 = refl

text_3016 : template_of (123 ∷ 123 ∷ 32 ∷ 115 ∷ 32 ∷ 105 ∷ 115 ∷ 32 ∷ 110 ∷ 111 ∷ 116 ∷ 32 ∷ 100 ∷ 101 ∷ 102 ∷ 105 ∷ 110 ∷ 101 ∷ 100 ∷ 32 ∷ 125 ∷ 125 ∷ []) ≡ Some (negation (defined (variable (codes "s")) ([])))
text_3016 = refl

text_3017 : template_of (123 ∷ 123 ∷ 32 ∷ 115 ∷ 32 ∷ 124 ∷ 32 ∷ 108 ∷ 101 ∷ 110 ∷ 103 ∷ 116 ∷ 104 ∷ 32 ∷ 125 ∷ 125 ∷ []) ≡ Some (length_of (path (variable (codes "s")) ([])))
text_3017 = refl

text_3018 : template_of (123 ∷ 123 ∷ 32 ∷ 115 ∷ 32 ∷ 125 ∷ 125 ∷ []) ≡ Some (path (variable (codes "s")) ([]))
text_3018 = refl

text_3019 : template_of (123 ∷ 123 ∷ 32 ∷ 115 ∷ 46 ∷ 99 ∷ 104 ∷ 97 ∷ 110 ∷ 103 ∷ 101 ∷ 100 ∷ 32 ∷ 124 ∷ 32 ∷ 100 ∷ 101 ∷ 102 ∷ 97 ∷ 117 ∷ 108 ∷ 116 ∷ 40 ∷ 103 ∷ 114 ∷ 111 ∷ 117 ∷ 112 ∷ 95 ∷ 110 ∷ 97 ∷ 109 ∷ 101 ∷ 115 ∷ 46 ∷ 115 ∷ 116 ∷ 100 ∷ 111 ∷ 117 ∷ 116 ∷ 41 ∷ 32 ∷ 125 ∷ 125 ∷ []) ≡ Some (path_or (variable (codes "s")) ((codes "changed") ∷ []) (path (variable (codes "group_names")) ((codes "stdout") ∷ [])))
text_3019 = refl

text_3020 : template_of (123 ∷ 123 ∷ 32 ∷ 115 ∷ 46 ∷ 99 ∷ 104 ∷ 97 ∷ 110 ∷ 103 ∷ 101 ∷ 100 ∷ 32 ∷ 124 ∷ 32 ∷ 108 ∷ 101 ∷ 110 ∷ 103 ∷ 116 ∷ 104 ∷ 32 ∷ 125 ∷ 125 ∷ []) ≡ Some (length_of (path (variable (codes "s")) ((codes "changed") ∷ [])))
text_3020 = refl

text_3021 : template_of (123 ∷ 123 ∷ 32 ∷ 115 ∷ 46 ∷ 99 ∷ 104 ∷ 97 ∷ 110 ∷ 103 ∷ 101 ∷ 100 ∷ 32 ∷ 125 ∷ 125 ∷ []) ≡ Some (path (variable (codes "s")) ((codes "changed") ∷ []))
text_3021 = refl

text_3022 : template_of (123 ∷ 123 ∷ 32 ∷ 115 ∷ 46 ∷ 104 ∷ 111 ∷ 115 ∷ 116 ∷ 110 ∷ 97 ∷ 109 ∷ 101 ∷ 32 ∷ 125 ∷ 125 ∷ []) ≡ Some (path (variable (codes "s")) ((codes "hostname") ∷ []))
text_3022 = refl

text_3023 : template_of (123 ∷ 123 ∷ 32 ∷ 115 ∷ 46 ∷ 111 ∷ 115 ∷ 95 ∷ 102 ∷ 97 ∷ 109 ∷ 105 ∷ 108 ∷ 121 ∷ 32 ∷ 124 ∷ 32 ∷ 108 ∷ 101 ∷ 110 ∷ 103 ∷ 116 ∷ 104 ∷ 32 ∷ 125 ∷ 125 ∷ []) ≡ Some (length_of (path (variable (codes "s")) ((codes "os_family") ∷ [])))
text_3023 = refl

text_3024 : template_of (123 ∷ 123 ∷ 32 ∷ 115 ∷ 46 ∷ 111 ∷ 115 ∷ 95 ∷ 102 ∷ 97 ∷ 109 ∷ 105 ∷ 108 ∷ 121 ∷ 32 ∷ 125 ∷ 125 ∷ []) ≡ Some (path (variable (codes "s")) ((codes "os_family") ∷ []))
text_3024 = refl

text_3025 : template_of (123 ∷ 123 ∷ 32 ∷ 115 ∷ 46 ∷ 115 ∷ 116 ∷ 97 ∷ 116 ∷ 46 ∷ 105 ∷ 115 ∷ 100 ∷ 105 ∷ 114 ∷ 32 ∷ 124 ∷ 32 ∷ 100 ∷ 101 ∷ 102 ∷ 97 ∷ 117 ∷ 108 ∷ 116 ∷ 40 ∷ 49 ∷ 41 ∷ 32 ∷ 125 ∷ 125 ∷ []) ≡ Some (path_or (variable (codes "s")) ((codes "stat") ∷ (codes "isdir") ∷ []) (literal (int (pos 1))))
text_3025 = refl

text_3026 : template_of (123 ∷ 123 ∷ 32 ∷ 115 ∷ 46 ∷ 115 ∷ 116 ∷ 97 ∷ 116 ∷ 46 ∷ 105 ∷ 115 ∷ 100 ∷ 105 ∷ 114 ∷ 32 ∷ 125 ∷ 125 ∷ []) ≡ Some (path (variable (codes "s")) ((codes "stat") ∷ (codes "isdir") ∷ []))
text_3026 = refl

text_3027 : template_of (123 ∷ 123 ∷ 32 ∷ 115 ∷ 46 ∷ 115 ∷ 116 ∷ 100 ∷ 111 ∷ 117 ∷ 116 ∷ 32 ∷ 105 ∷ 115 ∷ 32 ∷ 100 ∷ 101 ∷ 102 ∷ 105 ∷ 110 ∷ 101 ∷ 100 ∷ 32 ∷ 125 ∷ 125 ∷ []) ≡ Some (defined (variable (codes "s")) ((codes "stdout") ∷ []))
text_3027 = refl

text_3028 : template_of (123 ∷ 123 ∷ 32 ∷ 115 ∷ 46 ∷ 115 ∷ 116 ∷ 100 ∷ 111 ∷ 117 ∷ 116 ∷ 95 ∷ 108 ∷ 105 ∷ 110 ∷ 101 ∷ 115 ∷ 32 ∷ 124 ∷ 32 ∷ 108 ∷ 101 ∷ 110 ∷ 103 ∷ 116 ∷ 104 ∷ 32 ∷ 125 ∷ 125 ∷ []) ≡ Some (length_of (path (variable (codes "s")) ((codes "stdout_lines") ∷ [])))
text_3028 = refl

text_3029 : template_of (123 ∷ 123 ∷ 32 ∷ 115 ∷ 46 ∷ 115 ∷ 116 ∷ 100 ∷ 111 ∷ 117 ∷ 116 ∷ 95 ∷ 108 ∷ 105 ∷ 110 ∷ 101 ∷ 115 ∷ 32 ∷ 125 ∷ 125 ∷ []) ≡ Some (path (variable (codes "s")) ((codes "stdout_lines") ∷ []))
text_3029 = refl

text_3030 : template_of (123 ∷ 123 ∷ 32 ∷ 115 ∷ 49 ∷ 32 ∷ 124 ∷ 32 ∷ 100 ∷ 101 ∷ 102 ∷ 97 ∷ 117 ∷ 108 ∷ 116 ∷ 40 ∷ 49 ∷ 41 ∷ 32 ∷ 125 ∷ 125 ∷ []) ≡ Some (path_or (variable (codes "s1")) ([]) (literal (int (pos 1))))
text_3030 = refl

text_3031 : template_of (123 ∷ 123 ∷ 32 ∷ 115 ∷ 49 ∷ 32 ∷ 124 ∷ 32 ∷ 100 ∷ 101 ∷ 102 ∷ 97 ∷ 117 ∷ 108 ∷ 116 ∷ 40 ∷ 91 ∷ 93 ∷ 41 ∷ 32 ∷ 125 ∷ 125 ∷ []) ≡ Some (path_or (variable (codes "s1")) ([]) (list_of (no_expressions)))
text_3031 = refl

text_3032 : template_of (123 ∷ 123 ∷ 32 ∷ 115 ∷ 49 ∷ 32 ∷ 124 ∷ 32 ∷ 100 ∷ 101 ∷ 102 ∷ 97 ∷ 117 ∷ 108 ∷ 116 ∷ 40 ∷ 115 ∷ 49 ∷ 41 ∷ 32 ∷ 125 ∷ 125 ∷ []) ≡ Some (path_or (variable (codes "s1")) ([]) (path (variable (codes "s1")) ([])))
text_3032 = refl

text_3033 : template_of (123 ∷ 123 ∷ 32 ∷ 115 ∷ 49 ∷ 32 ∷ 124 ∷ 32 ∷ 108 ∷ 101 ∷ 110 ∷ 103 ∷ 116 ∷ 104 ∷ 32 ∷ 125 ∷ 125 ∷ []) ≡ Some (length_of (path (variable (codes "s1")) ([])))
text_3033 = refl

text_3034 : template_of (123 ∷ 123 ∷ 32 ∷ 115 ∷ 49 ∷ 32 ∷ 125 ∷ 125 ∷ []) ≡ Some (path (variable (codes "s1")) ([]))
text_3034 = refl

text_3035 : template_of (123 ∷ 123 ∷ 32 ∷ 115 ∷ 49 ∷ 46 ∷ 99 ∷ 104 ∷ 97 ∷ 110 ∷ 103 ∷ 101 ∷ 100 ∷ 32 ∷ 124 ∷ 32 ∷ 100 ∷ 101 ∷ 102 ∷ 97 ∷ 117 ∷ 108 ∷ 116 ∷ 40 ∷ 49 ∷ 41 ∷ 32 ∷ 125 ∷ 125 ∷ []) ≡ Some (path_or (variable (codes "s1")) ((codes "changed") ∷ []) (literal (int (pos 1))))
text_3035 = refl

text_3036 : template_of (123 ∷ 123 ∷ 32 ∷ 115 ∷ 49 ∷ 46 ∷ 99 ∷ 104 ∷ 97 ∷ 110 ∷ 103 ∷ 101 ∷ 100 ∷ 32 ∷ 124 ∷ 32 ∷ 100 ∷ 101 ∷ 102 ∷ 97 ∷ 117 ∷ 108 ∷ 116 ∷ 40 ∷ 91 ∷ 93 ∷ 41 ∷ 32 ∷ 125 ∷ 125 ∷ []) ≡ Some (path_or (variable (codes "s1")) ((codes "changed") ∷ []) (list_of (no_expressions)))
text_3036 = refl

text_3037 : template_of (123 ∷ 123 ∷ 32 ∷ 115 ∷ 49 ∷ 46 ∷ 99 ∷ 104 ∷ 97 ∷ 110 ∷ 103 ∷ 101 ∷ 100 ∷ 32 ∷ 124 ∷ 32 ∷ 108 ∷ 101 ∷ 110 ∷ 103 ∷ 116 ∷ 104 ∷ 32 ∷ 125 ∷ 125 ∷ []) ≡ Some (length_of (path (variable (codes "s1")) ((codes "changed") ∷ [])))
text_3037 = refl

text_3038 : template_of (123 ∷ 123 ∷ 32 ∷ 115 ∷ 49 ∷ 46 ∷ 99 ∷ 104 ∷ 97 ∷ 110 ∷ 103 ∷ 101 ∷ 100 ∷ 32 ∷ 125 ∷ 125 ∷ []) ≡ Some (path (variable (codes "s1")) ((codes "changed") ∷ []))
text_3038 = refl

text_3039 : template_of (123 ∷ 123 ∷ 32 ∷ 115 ∷ 49 ∷ 46 ∷ 102 ∷ 32 ∷ 124 ∷ 32 ∷ 100 ∷ 101 ∷ 102 ∷ 97 ∷ 117 ∷ 108 ∷ 116 ∷ 40 ∷ 115 ∷ 49 ∷ 41 ∷ 32 ∷ 125 ∷ 125 ∷ []) ≡ Some (path_or (variable (codes "s1")) ((codes "f") ∷ []) (path (variable (codes "s1")) ([])))
text_3039 = refl

text_3040 : template_of (123 ∷ 123 ∷ 32 ∷ 115 ∷ 49 ∷ 46 ∷ 102 ∷ 32 ∷ 124 ∷ 32 ∷ 108 ∷ 101 ∷ 110 ∷ 103 ∷ 116 ∷ 104 ∷ 32 ∷ 125 ∷ 125 ∷ []) ≡ Some (length_of (path (variable (codes "s1")) ((codes "f") ∷ [])))
text_3040 = refl

text_3041 : template_of (123 ∷ 123 ∷ 32 ∷ 115 ∷ 49 ∷ 46 ∷ 102 ∷ 32 ∷ 125 ∷ 125 ∷ []) ≡ Some (path (variable (codes "s1")) ((codes "f") ∷ []))
text_3041 = refl

text_3042 : template_of (123 ∷ 123 ∷ 32 ∷ 115 ∷ 49 ∷ 46 ∷ 102 ∷ 97 ∷ 105 ∷ 108 ∷ 101 ∷ 100 ∷ 32 ∷ 125 ∷ 125 ∷ []) ≡ Some (path (variable (codes "s1")) ((codes "failed") ∷ []))
text_3042 = refl

text_3043 : template_of (123 ∷ 123 ∷ 32 ∷ 115 ∷ 49 ∷ 46 ∷ 103 ∷ 32 ∷ 125 ∷ 125 ∷ []) ≡ Some (path (variable (codes "s1")) ((codes "g") ∷ []))
text_3043 = refl

text_3044 : template_of (123 ∷ 123 ∷ 32 ∷ 115 ∷ 49 ∷ 46 ∷ 114 ∷ 99 ∷ 32 ∷ 124 ∷ 32 ∷ 100 ∷ 101 ∷ 102 ∷ 97 ∷ 117 ∷ 108 ∷ 116 ∷ 40 ∷ 49 ∷ 41 ∷ 32 ∷ 125 ∷ 125 ∷ []) ≡ Some (path_or (variable (codes "s1")) ((codes "rc") ∷ []) (literal (int (pos 1))))
text_3044 = refl

text_3045 : template_of (123 ∷ 123 ∷ 32 ∷ 115 ∷ 49 ∷ 46 ∷ 114 ∷ 99 ∷ 32 ∷ 124 ∷ 32 ∷ 100 ∷ 101 ∷ 102 ∷ 97 ∷ 117 ∷ 108 ∷ 116 ∷ 40 ∷ 91 ∷ 93 ∷ 41 ∷ 32 ∷ 125 ∷ 125 ∷ []) ≡ Some (path_or (variable (codes "s1")) ((codes "rc") ∷ []) (list_of (no_expressions)))
text_3045 = refl

text_3046 : template_of (123 ∷ 123 ∷ 32 ∷ 115 ∷ 49 ∷ 46 ∷ 114 ∷ 99 ∷ 32 ∷ 124 ∷ 32 ∷ 100 ∷ 101 ∷ 102 ∷ 97 ∷ 117 ∷ 108 ∷ 116 ∷ 40 ∷ 115 ∷ 49 ∷ 41 ∷ 32 ∷ 125 ∷ 125 ∷ []) ≡ Some (path_or (variable (codes "s1")) ((codes "rc") ∷ []) (path (variable (codes "s1")) ([])))
text_3046 = refl

text_3047 : template_of (123 ∷ 123 ∷ 32 ∷ 115 ∷ 49 ∷ 46 ∷ 114 ∷ 99 ∷ 32 ∷ 125 ∷ 125 ∷ []) ≡ Some (path (variable (codes "s1")) ((codes "rc") ∷ []))
text_3047 = refl

text_3048 : template_of (123 ∷ 123 ∷ 32 ∷ 115 ∷ 49 ∷ 46 ∷ 115 ∷ 116 ∷ 100 ∷ 101 ∷ 114 ∷ 114 ∷ 95 ∷ 108 ∷ 105 ∷ 110 ∷ 101 ∷ 115 ∷ 32 ∷ 125 ∷ 125 ∷ []) ≡ Some (path (variable (codes "s1")) ((codes "stderr_lines") ∷ []))
text_3048 = refl

text_3049 : template_of (123 ∷ 123 ∷ 32 ∷ 115 ∷ 49 ∷ 46 ∷ 115 ∷ 116 ∷ 100 ∷ 111 ∷ 117 ∷ 116 ∷ 32 ∷ 124 ∷ 32 ∷ 100 ∷ 101 ∷ 102 ∷ 97 ∷ 117 ∷ 108 ∷ 116 ∷ 40 ∷ 115 ∷ 49 ∷ 41 ∷ 32 ∷ 125 ∷ 125 ∷ []) ≡ Some (path_or (variable (codes "s1")) ((codes "stdout") ∷ []) (path (variable (codes "s1")) ([])))
text_3049 = refl

text_3050 : template_of (123 ∷ 123 ∷ 32 ∷ 115 ∷ 49 ∷ 46 ∷ 115 ∷ 116 ∷ 100 ∷ 111 ∷ 117 ∷ 116 ∷ 32 ∷ 125 ∷ 125 ∷ []) ≡ Some (path (variable (codes "s1")) ((codes "stdout") ∷ []))
text_3050 = refl

text_3051 : template_of (123 ∷ 123 ∷ 32 ∷ 115 ∷ 49 ∷ 61 ∷ 61 ∷ 116 ∷ 114 ∷ 117 ∷ 101 ∷ 32 ∷ 97 ∷ 110 ∷ 100 ∷ 32 ∷ 110 ∷ 111 ∷ 116 ∷ 32 ∷ 102 ∷ 97 ∷ 108 ∷ 115 ∷ 101 ∷ 32 ∷ 125 ∷ 125 ∷ []) ≡ Some (conjunction (expression (comparison equal (path (variable (codes "s1")) ([])) (literal (boolean true))) (expression (negation (literal (boolean false))) (no_expressions))))
text_3051 = refl

text_3052 : template_of (123 ∷ 123 ∷ 32 ∷ 115 ∷ 50 ∷ 32 ∷ 61 ∷ 61 ∷ 32 ∷ 116 ∷ 114 ∷ 117 ∷ 101 ∷ 32 ∷ 125 ∷ 125 ∷ []) ≡ Some (comparison equal (path (variable (codes "s2")) ([])) (literal (boolean true)))
text_3052 = refl

text_3053 : template_of (123 ∷ 123 ∷ 32 ∷ 115 ∷ 50 ∷ 32 ∷ 124 ∷ 32 ∷ 100 ∷ 101 ∷ 102 ∷ 97 ∷ 117 ∷ 108 ∷ 116 ∷ 40 ∷ 49 ∷ 41 ∷ 32 ∷ 125 ∷ 125 ∷ []) ≡ Some (path_or (variable (codes "s2")) ([]) (literal (int (pos 1))))
text_3053 = refl

text_3054 : template_of (123 ∷ 123 ∷ 32 ∷ 115 ∷ 50 ∷ 32 ∷ 124 ∷ 32 ∷ 100 ∷ 101 ∷ 102 ∷ 97 ∷ 117 ∷ 108 ∷ 116 ∷ 40 ∷ 91 ∷ 93 ∷ 41 ∷ 32 ∷ 125 ∷ 125 ∷ []) ≡ Some (path_or (variable (codes "s2")) ([]) (list_of (no_expressions)))
text_3054 = refl

text_3055 : template_of (123 ∷ 123 ∷ 32 ∷ 115 ∷ 50 ∷ 32 ∷ 124 ∷ 32 ∷ 100 ∷ 101 ∷ 102 ∷ 97 ∷ 117 ∷ 108 ∷ 116 ∷ 40 ∷ 115 ∷ 49 ∷ 41 ∷ 32 ∷ 125 ∷ 125 ∷ []) ≡ Some (path_or (variable (codes "s2")) ([]) (path (variable (codes "s1")) ([])))
text_3055 = refl

text_3056 : template_of (123 ∷ 123 ∷ 32 ∷ 115 ∷ 50 ∷ 32 ∷ 124 ∷ 32 ∷ 108 ∷ 101 ∷ 110 ∷ 103 ∷ 116 ∷ 104 ∷ 32 ∷ 125 ∷ 125 ∷ []) ≡ Some (length_of (path (variable (codes "s2")) ([])))
text_3056 = refl

text_3057 : template_of (123 ∷ 123 ∷ 32 ∷ 115 ∷ 50 ∷ 32 ∷ 125 ∷ 125 ∷ []) ≡ Some (path (variable (codes "s2")) ([]))
text_3057 = refl

text_3058 : template_of (123 ∷ 123 ∷ 32 ∷ 115 ∷ 50 ∷ 46 ∷ 99 ∷ 104 ∷ 97 ∷ 110 ∷ 103 ∷ 101 ∷ 100 ∷ 32 ∷ 125 ∷ 125 ∷ []) ≡ Some (path (variable (codes "s2")) ((codes "changed") ∷ []))
text_3058 = refl

text_3059 : template_of (123 ∷ 123 ∷ 32 ∷ 115 ∷ 50 ∷ 46 ∷ 102 ∷ 32 ∷ 124 ∷ 32 ∷ 100 ∷ 101 ∷ 102 ∷ 97 ∷ 117 ∷ 108 ∷ 116 ∷ 40 ∷ 115 ∷ 49 ∷ 41 ∷ 32 ∷ 125 ∷ 125 ∷ []) ≡ Some (path_or (variable (codes "s2")) ((codes "f") ∷ []) (path (variable (codes "s1")) ([])))
text_3059 = refl

text_3060 : template_of (123 ∷ 123 ∷ 32 ∷ 115 ∷ 50 ∷ 46 ∷ 102 ∷ 32 ∷ 125 ∷ 125 ∷ []) ≡ Some (path (variable (codes "s2")) ((codes "f") ∷ []))
text_3060 = refl

text_3061 : template_of (123 ∷ 123 ∷ 32 ∷ 115 ∷ 50 ∷ 46 ∷ 103 ∷ 32 ∷ 124 ∷ 32 ∷ 108 ∷ 101 ∷ 110 ∷ 103 ∷ 116 ∷ 104 ∷ 32 ∷ 125 ∷ 125 ∷ []) ≡ Some (length_of (path (variable (codes "s2")) ((codes "g") ∷ [])))
text_3061 = refl

text_3062 : template_of (123 ∷ 123 ∷ 32 ∷ 115 ∷ 50 ∷ 46 ∷ 103 ∷ 32 ∷ 125 ∷ 125 ∷ []) ≡ Some (path (variable (codes "s2")) ((codes "g") ∷ []))
text_3062 = refl

text_3063 : template_of (123 ∷ 123 ∷ 32 ∷ 115 ∷ 50 ∷ 46 ∷ 114 ∷ 99 ∷ 32 ∷ 125 ∷ 125 ∷ []) ≡ Some (path (variable (codes "s2")) ((codes "rc") ∷ []))
text_3063 = refl

text_3064 : template_of (123 ∷ 123 ∷ 32 ∷ 115 ∷ 50 ∷ 46 ∷ 115 ∷ 116 ∷ 100 ∷ 101 ∷ 114 ∷ 114 ∷ 32 ∷ 125 ∷ 125 ∷ []) ≡ Some (path (variable (codes "s2")) ((codes "stderr") ∷ []))
text_3064 = refl

text_3065 : template_of (123 ∷ 123 ∷ 32 ∷ 115 ∷ 50 ∷ 46 ∷ 115 ∷ 116 ∷ 100 ∷ 111 ∷ 117 ∷ 116 ∷ 32 ∷ 124 ∷ 32 ∷ 108 ∷ 101 ∷ 110 ∷ 103 ∷ 116 ∷ 104 ∷ 32 ∷ 125 ∷ 125 ∷ []) ≡ Some (length_of (path (variable (codes "s2")) ((codes "stdout") ∷ [])))
text_3065 = refl

text_3066 : template_of (123 ∷ 123 ∷ 32 ∷ 115 ∷ 50 ∷ 46 ∷ 115 ∷ 116 ∷ 100 ∷ 111 ∷ 117 ∷ 116 ∷ 32 ∷ 125 ∷ 125 ∷ []) ≡ Some (path (variable (codes "s2")) ((codes "stdout") ∷ []))
text_3066 = refl

text_3067 : template_of (123 ∷ 123 ∷ 32 ∷ 115 ∷ 51 ∷ 32 ∷ 124 ∷ 32 ∷ 100 ∷ 101 ∷ 102 ∷ 97 ∷ 117 ∷ 108 ∷ 116 ∷ 40 ∷ 49 ∷ 41 ∷ 32 ∷ 125 ∷ 125 ∷ []) ≡ Some (path_or (variable (codes "s3")) ([]) (literal (int (pos 1))))
text_3067 = refl

text_3068 : template_of (123 ∷ 123 ∷ 32 ∷ 115 ∷ 51 ∷ 32 ∷ 124 ∷ 32 ∷ 100 ∷ 101 ∷ 102 ∷ 97 ∷ 117 ∷ 108 ∷ 116 ∷ 40 ∷ 91 ∷ 93 ∷ 41 ∷ 32 ∷ 125 ∷ 125 ∷ []) ≡ Some (path_or (variable (codes "s3")) ([]) (list_of (no_expressions)))
text_3068 = refl

text_3069 : template_of (123 ∷ 123 ∷ 32 ∷ 115 ∷ 51 ∷ 32 ∷ 124 ∷ 32 ∷ 100 ∷ 101 ∷ 102 ∷ 97 ∷ 117 ∷ 108 ∷ 116 ∷ 40 ∷ 115 ∷ 49 ∷ 41 ∷ 32 ∷ 125 ∷ 125 ∷ []) ≡ Some (path_or (variable (codes "s3")) ([]) (path (variable (codes "s1")) ([])))
text_3069 = refl

text_3070 : template_of (123 ∷ 123 ∷ 32 ∷ 115 ∷ 51 ∷ 32 ∷ 124 ∷ 32 ∷ 108 ∷ 101 ∷ 110 ∷ 103 ∷ 116 ∷ 104 ∷ 32 ∷ 125 ∷ 125 ∷ []) ≡ Some (length_of (path (variable (codes "s3")) ([])))
text_3070 = refl

text_3071 : template_of (123 ∷ 123 ∷ 32 ∷ 115 ∷ 51 ∷ 32 ∷ 125 ∷ 125 ∷ []) ≡ Some (path (variable (codes "s3")) ([]))
text_3071 = refl

text_3072 : template_of (123 ∷ 123 ∷ 32 ∷ 115 ∷ 51 ∷ 46 ∷ 99 ∷ 104 ∷ 97 ∷ 110 ∷ 103 ∷ 101 ∷ 100 ∷ 32 ∷ 125 ∷ 125 ∷ []) ≡ Some (path (variable (codes "s3")) ((codes "changed") ∷ []))
text_3072 = refl

text_3073 : template_of (123 ∷ 123 ∷ 32 ∷ 115 ∷ 51 ∷ 46 ∷ 102 ∷ 32 ∷ 124 ∷ 32 ∷ 100 ∷ 101 ∷ 102 ∷ 97 ∷ 117 ∷ 108 ∷ 116 ∷ 40 ∷ 91 ∷ 93 ∷ 41 ∷ 32 ∷ 125 ∷ 125 ∷ []) ≡ Some (path_or (variable (codes "s3")) ((codes "f") ∷ []) (list_of (no_expressions)))
text_3073 = refl

text_3074 : template_of (123 ∷ 123 ∷ 32 ∷ 115 ∷ 51 ∷ 46 ∷ 102 ∷ 32 ∷ 125 ∷ 125 ∷ []) ≡ Some (path (variable (codes "s3")) ((codes "f") ∷ []))
text_3074 = refl

text_3075 : template_of (123 ∷ 123 ∷ 32 ∷ 115 ∷ 51 ∷ 46 ∷ 103 ∷ 32 ∷ 124 ∷ 32 ∷ 100 ∷ 101 ∷ 102 ∷ 97 ∷ 117 ∷ 108 ∷ 116 ∷ 40 ∷ 49 ∷ 41 ∷ 32 ∷ 125 ∷ 125 ∷ []) ≡ Some (path_or (variable (codes "s3")) ((codes "g") ∷ []) (literal (int (pos 1))))
text_3075 = refl

text_3076 : template_of (123 ∷ 123 ∷ 32 ∷ 115 ∷ 51 ∷ 46 ∷ 103 ∷ 32 ∷ 125 ∷ 125 ∷ []) ≡ Some (path (variable (codes "s3")) ((codes "g") ∷ []))
text_3076 = refl

text_3077 : template_of (123 ∷ 123 ∷ 32 ∷ 115 ∷ 51 ∷ 46 ∷ 114 ∷ 99 ∷ 32 ∷ 124 ∷ 32 ∷ 100 ∷ 101 ∷ 102 ∷ 97 ∷ 117 ∷ 108 ∷ 116 ∷ 40 ∷ 49 ∷ 41 ∷ 32 ∷ 125 ∷ 125 ∷ []) ≡ Some (path_or (variable (codes "s3")) ((codes "rc") ∷ []) (literal (int (pos 1))))
text_3077 = refl

text_3078 : template_of (123 ∷ 123 ∷ 32 ∷ 115 ∷ 51 ∷ 46 ∷ 114 ∷ 99 ∷ 32 ∷ 124 ∷ 32 ∷ 108 ∷ 101 ∷ 110 ∷ 103 ∷ 116 ∷ 104 ∷ 32 ∷ 125 ∷ 125 ∷ []) ≡ Some (length_of (path (variable (codes "s3")) ((codes "rc") ∷ [])))
text_3078 = refl

text_3079 : template_of (123 ∷ 123 ∷ 32 ∷ 115 ∷ 51 ∷ 46 ∷ 114 ∷ 99 ∷ 32 ∷ 125 ∷ 125 ∷ []) ≡ Some (path (variable (codes "s3")) ((codes "rc") ∷ []))
text_3079 = refl

text_3080 : template_of (123 ∷ 123 ∷ 32 ∷ 115 ∷ 51 ∷ 46 ∷ 115 ∷ 116 ∷ 100 ∷ 111 ∷ 117 ∷ 116 ∷ 32 ∷ 124 ∷ 32 ∷ 108 ∷ 101 ∷ 110 ∷ 103 ∷ 116 ∷ 104 ∷ 32 ∷ 125 ∷ 125 ∷ []) ≡ Some (length_of (path (variable (codes "s3")) ((codes "stdout") ∷ [])))
text_3080 = refl

text_3081 : template_of (123 ∷ 123 ∷ 32 ∷ 115 ∷ 51 ∷ 46 ∷ 115 ∷ 116 ∷ 100 ∷ 111 ∷ 117 ∷ 116 ∷ 32 ∷ 125 ∷ 125 ∷ []) ≡ Some (path (variable (codes "s3")) ((codes "stdout") ∷ []))
text_3081 = refl

text_3082 : template_of (123 ∷ 123 ∷ 32 ∷ 116 ∷ 114 ∷ 117 ∷ 101 ∷ 32 ∷ 125 ∷ 125 ∷ []) ≡ Some (literal (boolean true))
text_3082 = refl

text_3083 : template_of (123 ∷ 123 ∷ 32 ∷ 118 ∷ 32 ∷ 60 ∷ 32 ∷ 49 ∷ 32 ∷ 125 ∷ 125 ∷ []) ≡ Some (comparison less (path (variable (codes "v")) ([])) (literal (int (pos 1))))
text_3083 = refl

text_3084 : template_of (123 ∷ 123 ∷ 32 ∷ 118 ∷ 32 ∷ 105 ∷ 115 ∷ 32 ∷ 100 ∷ 101 ∷ 102 ∷ 105 ∷ 110 ∷ 101 ∷ 100 ∷ 32 ∷ 125 ∷ 125 ∷ []) ≡ Some (defined (variable (codes "v")) ([]))
text_3084 = refl

text_3085 : template_of (123 ∷ 123 ∷ 32 ∷ 118 ∷ 32 ∷ 124 ∷ 32 ∷ 100 ∷ 101 ∷ 102 ∷ 97 ∷ 117 ∷ 108 ∷ 116 ∷ 40 ∷ 49 ∷ 41 ∷ 32 ∷ 125 ∷ 125 ∷ []) ≡ Some (path_or (variable (codes "v")) ([]) (literal (int (pos 1))))
text_3085 = refl

text_3086 : template_of (123 ∷ 123 ∷ 32 ∷ 118 ∷ 32 ∷ 125 ∷ 125 ∷ []) ≡ Some (path (variable (codes "v")) ([]))
text_3086 = refl

text_3087 : template_of (123 ∷ 123 ∷ 32 ∷ 118 ∷ 46 ∷ 97 ∷ 32 ∷ 125 ∷ 125 ∷ []) ≡ Some (path (variable (codes "v")) ((codes "a") ∷ []))
text_3087 = refl

text_3088 : template_of (123 ∷ 123 ∷ 32 ∷ 118 ∷ 49 ∷ 32 ∷ 124 ∷ 32 ∷ 100 ∷ 101 ∷ 102 ∷ 97 ∷ 117 ∷ 108 ∷ 116 ∷ 40 ∷ 105 ∷ 116 ∷ 101 ∷ 109 ∷ 41 ∷ 32 ∷ 125 ∷ 125 ∷ []) ≡ Some (path_or (variable (codes "v1")) ([]) (path (variable (codes "item")) ([])))
text_3088 = refl

text_3089 : template_of (123 ∷ 123 ∷ 32 ∷ 118 ∷ 49 ∷ 32 ∷ 124 ∷ 32 ∷ 108 ∷ 101 ∷ 110 ∷ 103 ∷ 116 ∷ 104 ∷ 32 ∷ 125 ∷ 125 ∷ []) ≡ Some (length_of (path (variable (codes "v1")) ([])))
text_3089 = refl

text_3090 : template_of (123 ∷ 123 ∷ 32 ∷ 118 ∷ 49 ∷ 32 ∷ 125 ∷ 125 ∷ []) ≡ Some (path (variable (codes "v1")) ([]))
text_3090 = refl

text_3091 : template_of (123 ∷ 123 ∷ 32 ∷ 118 ∷ 49 ∷ 46 ∷ 103 ∷ 32 ∷ 125 ∷ 125 ∷ []) ≡ Some (path (variable (codes "v1")) ((codes "g") ∷ []))
text_3091 = refl

text_3092 : template_of (123 ∷ 123 ∷ 32 ∷ 118 ∷ 49 ∷ 46 ∷ 111 ∷ 115 ∷ 95 ∷ 102 ∷ 97 ∷ 109 ∷ 105 ∷ 108 ∷ 121 ∷ 32 ∷ 124 ∷ 32 ∷ 100 ∷ 101 ∷ 102 ∷ 97 ∷ 117 ∷ 108 ∷ 116 ∷ 40 ∷ 49 ∷ 41 ∷ 32 ∷ 125 ∷ 125 ∷ []) ≡ Some (path_or (variable (codes "v1")) ((codes "os_family") ∷ []) (literal (int (pos 1))))
text_3092 = refl

text_3093 : template_of (123 ∷ 123 ∷ 32 ∷ 118 ∷ 49 ∷ 46 ∷ 111 ∷ 115 ∷ 95 ∷ 102 ∷ 97 ∷ 109 ∷ 105 ∷ 108 ∷ 121 ∷ 32 ∷ 124 ∷ 32 ∷ 108 ∷ 101 ∷ 110 ∷ 103 ∷ 116 ∷ 104 ∷ 32 ∷ 125 ∷ 125 ∷ []) ≡ Some (length_of (path (variable (codes "v1")) ((codes "os_family") ∷ [])))
text_3093 = refl

text_3094 : template_of (123 ∷ 123 ∷ 32 ∷ 118 ∷ 49 ∷ 46 ∷ 111 ∷ 115 ∷ 95 ∷ 102 ∷ 97 ∷ 109 ∷ 105 ∷ 108 ∷ 121 ∷ 32 ∷ 125 ∷ 125 ∷ []) ≡ Some (path (variable (codes "v1")) ((codes "os_family") ∷ []))
text_3094 = refl

text_3095 : template_of (123 ∷ 123 ∷ 32 ∷ 118 ∷ 49 ∷ 46 ∷ 114 ∷ 99 ∷ 32 ∷ 124 ∷ 32 ∷ 100 ∷ 101 ∷ 102 ∷ 97 ∷ 117 ∷ 108 ∷ 116 ∷ 40 ∷ 115 ∷ 49 ∷ 41 ∷ 32 ∷ 125 ∷ 125 ∷ []) ≡ Some (path_or (variable (codes "v1")) ((codes "rc") ∷ []) (path (variable (codes "s1")) ([])))
text_3095 = refl

text_3096 : template_of (123 ∷ 123 ∷ 32 ∷ 118 ∷ 49 ∷ 46 ∷ 114 ∷ 101 ∷ 115 ∷ 117 ∷ 108 ∷ 116 ∷ 115 ∷ 32 ∷ 125 ∷ 125 ∷ []) ≡ Some (path (variable (codes "v1")) ((codes "results") ∷ []))
text_3096 = refl

text_3097 : template_of (123 ∷ 123 ∷ 32 ∷ 118 ∷ 49 ∷ 46 ∷ 115 ∷ 116 ∷ 100 ∷ 111 ∷ 117 ∷ 116 ∷ 95 ∷ 108 ∷ 105 ∷ 110 ∷ 101 ∷ 115 ∷ 32 ∷ 105 ∷ 115 ∷ 32 ∷ 110 ∷ 111 ∷ 116 ∷ 32 ∷ 115 ∷ 107 ∷ 105 ∷ 112 ∷ 112 ∷ 101 ∷ 100 ∷ 32 ∷ 125 ∷ 125 ∷ []) ≡ Some (negation (path_status is_skipped (variable (codes "v1")) ((codes "stdout_lines") ∷ [])))
text_3097 = refl

text_3098 : template_of (123 ∷ 123 ∷ 32 ∷ 118 ∷ 50 ∷ 32 ∷ 124 ∷ 32 ∷ 100 ∷ 101 ∷ 102 ∷ 97 ∷ 117 ∷ 108 ∷ 116 ∷ 40 ∷ 91 ∷ 93 ∷ 41 ∷ 32 ∷ 125 ∷ 125 ∷ []) ≡ Some (path_or (variable (codes "v2")) ([]) (list_of (no_expressions)))
text_3098 = refl

text_3099 : template_of (123 ∷ 123 ∷ 32 ∷ 118 ∷ 50 ∷ 32 ∷ 124 ∷ 32 ∷ 100 ∷ 101 ∷ 102 ∷ 97 ∷ 117 ∷ 108 ∷ 116 ∷ 40 ∷ 111 ∷ 112 ∷ 113 ∷ 46 ∷ 115 ∷ 116 ∷ 100 ∷ 111 ∷ 117 ∷ 116 ∷ 95 ∷ 108 ∷ 105 ∷ 110 ∷ 101 ∷ 115 ∷ 41 ∷ 32 ∷ 125 ∷ 125 ∷ []) ≡ Some (path_or (variable (codes "v2")) ([]) (path (variable (codes "opq")) ((codes "stdout_lines") ∷ [])))
text_3099 = refl

text_3100 : template_of (123 ∷ 123 ∷ 32 ∷ 118 ∷ 50 ∷ 32 ∷ 124 ∷ 32 ∷ 108 ∷ 101 ∷ 110 ∷ 103 ∷ 116 ∷ 104 ∷ 32 ∷ 125 ∷ 125 ∷ []) ≡ Some (length_of (path (variable (codes "v2")) ([])))
text_3100 = refl

text_3101 : template_of (123 ∷ 123 ∷ 32 ∷ 118 ∷ 50 ∷ 32 ∷ 125 ∷ 125 ∷ []) ≡ Some (path (variable (codes "v2")) ([]))
text_3101 = refl

text_3102 : template_of (123 ∷ 123 ∷ 32 ∷ 118 ∷ 50 ∷ 46 ∷ 99 ∷ 104 ∷ 97 ∷ 110 ∷ 103 ∷ 101 ∷ 100 ∷ 32 ∷ 125 ∷ 125 ∷ []) ≡ Some (path (variable (codes "v2")) ((codes "changed") ∷ []))
text_3102 = refl

text_3103 : template_of (123 ∷ 123 ∷ 32 ∷ 118 ∷ 50 ∷ 46 ∷ 104 ∷ 111 ∷ 115 ∷ 116 ∷ 110 ∷ 97 ∷ 109 ∷ 101 ∷ 32 ∷ 124 ∷ 32 ∷ 100 ∷ 101 ∷ 102 ∷ 97 ∷ 117 ∷ 108 ∷ 116 ∷ 40 ∷ 49 ∷ 41 ∷ 32 ∷ 125 ∷ 125 ∷ []) ≡ Some (path_or (variable (codes "v2")) ((codes "hostname") ∷ []) (literal (int (pos 1))))
text_3103 = refl

text_3104 : template_of (123 ∷ 123 ∷ 32 ∷ 118 ∷ 50 ∷ 46 ∷ 107 ∷ 32 ∷ 124 ∷ 32 ∷ 100 ∷ 101 ∷ 102 ∷ 97 ∷ 117 ∷ 108 ∷ 116 ∷ 40 ∷ 49 ∷ 41 ∷ 32 ∷ 125 ∷ 125 ∷ []) ≡ Some (path_or (variable (codes "v2")) ((codes "k") ∷ []) (literal (int (pos 1))))
text_3104 = refl

text_3105 : template_of (123 ∷ 123 ∷ 32 ∷ 118 ∷ 50 ∷ 46 ∷ 111 ∷ 115 ∷ 95 ∷ 102 ∷ 97 ∷ 109 ∷ 105 ∷ 108 ∷ 121 ∷ 32 ∷ 125 ∷ 125 ∷ []) ≡ Some (path (variable (codes "v2")) ((codes "os_family") ∷ []))
text_3105 = refl

text_3106 : template_of (123 ∷ 123 ∷ 32 ∷ 118 ∷ 50 ∷ 46 ∷ 114 ∷ 99 ∷ 32 ∷ 105 ∷ 115 ∷ 32 ∷ 115 ∷ 107 ∷ 105 ∷ 112 ∷ 112 ∷ 101 ∷ 100 ∷ 32 ∷ 125 ∷ 125 ∷ []) ≡ Some (path_status is_skipped (variable (codes "v2")) ((codes "rc") ∷ []))
text_3106 = refl

text_3107 : template_of (123 ∷ 123 ∷ 32 ∷ 118 ∷ 50 ∷ 46 ∷ 114 ∷ 99 ∷ 32 ∷ 125 ∷ 125 ∷ []) ≡ Some (path (variable (codes "v2")) ((codes "rc") ∷ []))
text_3107 = refl

text_3108 : template_of (123 ∷ 123 ∷ 32 ∷ 118 ∷ 50 ∷ 46 ∷ 114 ∷ 101 ∷ 115 ∷ 117 ∷ 108 ∷ 116 ∷ 115 ∷ 32 ∷ 125 ∷ 125 ∷ []) ≡ Some (path (variable (codes "v2")) ((codes "results") ∷ []))
text_3108 = refl

text_3109 : template_of (123 ∷ 123 ∷ 32 ∷ 118 ∷ 50 ∷ 46 ∷ 115 ∷ 116 ∷ 97 ∷ 116 ∷ 46 ∷ 105 ∷ 115 ∷ 100 ∷ 105 ∷ 114 ∷ 32 ∷ 125 ∷ 125 ∷ []) ≡ Some (path (variable (codes "v2")) ((codes "stat") ∷ (codes "isdir") ∷ []))
text_3109 = refl

text_3110 : template_of (123 ∷ 123 ∷ 32 ∷ 118 ∷ 50 ∷ 46 ∷ 115 ∷ 116 ∷ 100 ∷ 111 ∷ 117 ∷ 116 ∷ 32 ∷ 124 ∷ 32 ∷ 108 ∷ 101 ∷ 110 ∷ 103 ∷ 116 ∷ 104 ∷ 32 ∷ 125 ∷ 125 ∷ []) ≡ Some (length_of (path (variable (codes "v2")) ((codes "stdout") ∷ [])))
text_3110 = refl

text_3111 : template_of (123 ∷ 123 ∷ 32 ∷ 118 ∷ 50 ∷ 46 ∷ 115 ∷ 116 ∷ 100 ∷ 111 ∷ 117 ∷ 116 ∷ 95 ∷ 108 ∷ 105 ∷ 110 ∷ 101 ∷ 115 ∷ 32 ∷ 61 ∷ 61 ∷ 32 ∷ 49 ∷ 32 ∷ 125 ∷ 125 ∷ []) ≡ Some (comparison equal (path (variable (codes "v2")) ((codes "stdout_lines") ∷ [])) (literal (int (pos 1))))
text_3111 = refl

text_3112 : template_of (123 ∷ 123 ∷ 32 ∷ 118 ∷ 50 ∷ 46 ∷ 115 ∷ 116 ∷ 100 ∷ 111 ∷ 117 ∷ 116 ∷ 95 ∷ 108 ∷ 105 ∷ 110 ∷ 101 ∷ 115 ∷ 32 ∷ 124 ∷ 32 ∷ 100 ∷ 101 ∷ 102 ∷ 97 ∷ 117 ∷ 108 ∷ 116 ∷ 40 ∷ 49 ∷ 41 ∷ 32 ∷ 125 ∷ 125 ∷ []) ≡ Some (path_or (variable (codes "v2")) ((codes "stdout_lines") ∷ []) (literal (int (pos 1))))
text_3112 = refl

text_3113 : template_of (123 ∷ 123 ∷ 32 ∷ 118 ∷ 50 ∷ 46 ∷ 115 ∷ 116 ∷ 100 ∷ 111 ∷ 117 ∷ 116 ∷ 95 ∷ 108 ∷ 105 ∷ 110 ∷ 101 ∷ 115 ∷ 32 ∷ 125 ∷ 125 ∷ []) ≡ Some (path (variable (codes "v2")) ((codes "stdout_lines") ∷ []))
text_3113 = refl

text_3114 : template_of (123 ∷ 123 ∷ 32 ∷ 118 ∷ 51 ∷ 32 ∷ 124 ∷ 32 ∷ 100 ∷ 101 ∷ 102 ∷ 97 ∷ 117 ∷ 108 ∷ 116 ∷ 40 ∷ 49 ∷ 41 ∷ 32 ∷ 125 ∷ 125 ∷ []) ≡ Some (path_or (variable (codes "v3")) ([]) (literal (int (pos 1))))
text_3114 = refl

text_3115 : template_of (123 ∷ 123 ∷ 32 ∷ 118 ∷ 51 ∷ 32 ∷ 125 ∷ 125 ∷ []) ≡ Some (path (variable (codes "v3")) ([]))
text_3115 = refl

text_3116 : template_of (123 ∷ 123 ∷ 32 ∷ 118 ∷ 51 ∷ 46 ∷ 102 ∷ 32 ∷ 125 ∷ 125 ∷ []) ≡ Some (path (variable (codes "v3")) ((codes "f") ∷ []))
text_3116 = refl

text_3117 : template_of (123 ∷ 123 ∷ 32 ∷ 120 ∷ []) ≡ None
text_3117 = refl

text_3118 : template_of (123 ∷ 123 ∷ 32 ∷ 120 ∷ 32 ∷ 105 ∷ 115 ∷ 32 ∷ 100 ∷ 101 ∷ 102 ∷ 105 ∷ 110 ∷ 101 ∷ 100 ∷ 32 ∷ 125 ∷ 125 ∷ []) ≡ Some (defined (variable (codes "x")) ([]))
text_3118 = refl

text_3119 : template_of (123 ∷ 123 ∷ 32 ∷ 120 ∷ 32 ∷ 124 ∷ 32 ∷ 100 ∷ 101 ∷ 102 ∷ 97 ∷ 117 ∷ 108 ∷ 116 ∷ 40 ∷ 49 ∷ 41 ∷ 32 ∷ 125 ∷ 125 ∷ []) ≡ Some (path_or (variable (codes "x")) ([]) (literal (int (pos 1))))
text_3119 = refl

text_3120 : template_of (123 ∷ 123 ∷ 32 ∷ 120 ∷ 32 ∷ 125 ∷ 125 ∷ []) ≡ Some (path (variable (codes "x")) ([]))
text_3120 = refl

text_3121 : template_of (123 ∷ 123 ∷ 32 ∷ 121 ∷ 32 ∷ 105 ∷ 115 ∷ 32 ∷ 102 ∷ 97 ∷ 105 ∷ 108 ∷ 101 ∷ 100 ∷ 32 ∷ 125 ∷ 125 ∷ []) ≡ Some (path_status is_failed (variable (codes "y")) ([]))
text_3121 = refl

text_3122 : template_of (123 ∷ 123 ∷ 32 ∷ 121 ∷ 32 ∷ 105 ∷ 115 ∷ 32 ∷ 117 ∷ 110 ∷ 100 ∷ 101 ∷ 102 ∷ 105 ∷ 110 ∷ 101 ∷ 100 ∷ 32 ∷ 125 ∷ 125 ∷ []) ≡ Some (negation (defined (variable (codes "y")) ([])))
text_3122 = refl

text_3123 : template_of (123 ∷ 123 ∷ 32 ∷ 121 ∷ 32 ∷ 124 ∷ 32 ∷ 100 ∷ 101 ∷ 102 ∷ 97 ∷ 117 ∷ 108 ∷ 116 ∷ 40 ∷ 91 ∷ 93 ∷ 41 ∷ 32 ∷ 125 ∷ 125 ∷ []) ≡ Some (path_or (variable (codes "y")) ([]) (list_of (no_expressions)))
text_3123 = refl

text_3124 : template_of (123 ∷ 123 ∷ 32 ∷ 121 ∷ 32 ∷ 124 ∷ 32 ∷ 108 ∷ 101 ∷ 110 ∷ 103 ∷ 116 ∷ 104 ∷ 32 ∷ 125 ∷ 125 ∷ []) ≡ Some (length_of (path (variable (codes "y")) ([])))
text_3124 = refl

text_3125 : template_of (123 ∷ 123 ∷ 32 ∷ 121 ∷ 32 ∷ 125 ∷ 125 ∷ []) ≡ Some (path (variable (codes "y")) ([]))
text_3125 = refl

text_3126 : template_of (123 ∷ 123 ∷ 32 ∷ 121 ∷ 46 ∷ 99 ∷ 104 ∷ 97 ∷ 110 ∷ 103 ∷ 101 ∷ 100 ∷ 32 ∷ 61 ∷ 61 ∷ 32 ∷ 49 ∷ 32 ∷ 125 ∷ 125 ∷ []) ≡ Some (comparison equal (path (variable (codes "y")) ((codes "changed") ∷ [])) (literal (int (pos 1))))
text_3126 = refl

text_3127 : template_of (123 ∷ 123 ∷ 32 ∷ 121 ∷ 46 ∷ 99 ∷ 104 ∷ 97 ∷ 110 ∷ 103 ∷ 101 ∷ 100 ∷ 32 ∷ 125 ∷ 125 ∷ []) ≡ Some (path (variable (codes "y")) ((codes "changed") ∷ []))
text_3127 = refl

text_3128 : template_of (123 ∷ 123 ∷ 32 ∷ 121 ∷ 46 ∷ 104 ∷ 111 ∷ 115 ∷ 116 ∷ 110 ∷ 97 ∷ 109 ∷ 101 ∷ 32 ∷ 124 ∷ 32 ∷ 108 ∷ 101 ∷ 110 ∷ 103 ∷ 116 ∷ 104 ∷ 32 ∷ 125 ∷ 125 ∷ []) ≡ Some (length_of (path (variable (codes "y")) ((codes "hostname") ∷ [])))
text_3128 = refl

text_3129 : template_of (123 ∷ 123 ∷ 32 ∷ 121 ∷ 46 ∷ 109 ∷ 115 ∷ 103 ∷ 32 ∷ 124 ∷ 32 ∷ 100 ∷ 101 ∷ 102 ∷ 97 ∷ 117 ∷ 108 ∷ 116 ∷ 40 ∷ 49 ∷ 41 ∷ 32 ∷ 125 ∷ 125 ∷ []) ≡ Some (path_or (variable (codes "y")) ((codes "msg") ∷ []) (literal (int (pos 1))))
text_3129 = refl

text_3130 : template_of (123 ∷ 123 ∷ 32 ∷ 121 ∷ 46 ∷ 109 ∷ 115 ∷ 103 ∷ 32 ∷ 124 ∷ 32 ∷ 100 ∷ 101 ∷ 102 ∷ 97 ∷ 117 ∷ 108 ∷ 116 ∷ 40 ∷ 91 ∷ 93 ∷ 41 ∷ 32 ∷ 125 ∷ 125 ∷ []) ≡ Some (path_or (variable (codes "y")) ((codes "msg") ∷ []) (list_of (no_expressions)))
text_3130 = refl

text_3131 : template_of (123 ∷ 123 ∷ 32 ∷ 121 ∷ 46 ∷ 111 ∷ 115 ∷ 95 ∷ 102 ∷ 97 ∷ 109 ∷ 105 ∷ 108 ∷ 121 ∷ 32 ∷ 124 ∷ 32 ∷ 108 ∷ 101 ∷ 110 ∷ 103 ∷ 116 ∷ 104 ∷ 32 ∷ 125 ∷ 125 ∷ []) ≡ Some (length_of (path (variable (codes "y")) ((codes "os_family") ∷ [])))
text_3131 = refl

text_3132 : template_of (123 ∷ 123 ∷ 32 ∷ 121 ∷ 46 ∷ 114 ∷ 99 ∷ 32 ∷ 105 ∷ 115 ∷ 32 ∷ 102 ∷ 97 ∷ 105 ∷ 108 ∷ 101 ∷ 100 ∷ 32 ∷ 125 ∷ 125 ∷ []) ≡ Some (path_status is_failed (variable (codes "y")) ((codes "rc") ∷ []))
text_3132 = refl

text_3133 : template_of (123 ∷ 123 ∷ 32 ∷ 121 ∷ 46 ∷ 114 ∷ 99 ∷ 32 ∷ 125 ∷ 125 ∷ []) ≡ Some (path (variable (codes "y")) ((codes "rc") ∷ []))
text_3133 = refl

text_3134 : template_of (123 ∷ 123 ∷ 32 ∷ 121 ∷ 46 ∷ 114 ∷ 101 ∷ 115 ∷ 117 ∷ 108 ∷ 116 ∷ 115 ∷ 32 ∷ 124 ∷ 32 ∷ 108 ∷ 101 ∷ 110 ∷ 103 ∷ 116 ∷ 104 ∷ 32 ∷ 125 ∷ 125 ∷ []) ≡ Some (length_of (path (variable (codes "y")) ((codes "results") ∷ [])))
text_3134 = refl

text_3135 : template_of (123 ∷ 123 ∷ 32 ∷ 121 ∷ 46 ∷ 115 ∷ 116 ∷ 97 ∷ 116 ∷ 46 ∷ 105 ∷ 115 ∷ 100 ∷ 105 ∷ 114 ∷ 32 ∷ 124 ∷ 32 ∷ 100 ∷ 101 ∷ 102 ∷ 97 ∷ 117 ∷ 108 ∷ 116 ∷ 40 ∷ 97 ∷ 110 ∷ 115 ∷ 105 ∷ 98 ∷ 108 ∷ 101 ∷ 95 ∷ 102 ∷ 97 ∷ 99 ∷ 116 ∷ 115 ∷ 46 ∷ 114 ∷ 101 ∷ 115 ∷ 117 ∷ 108 ∷ 116 ∷ 115 ∷ 41 ∷ 32 ∷ 125 ∷ 125 ∷ []) ≡ Some (path_or (variable (codes "y")) ((codes "stat") ∷ (codes "isdir") ∷ []) (path (variable (codes "ansible_facts")) ((codes "results") ∷ [])))
text_3135 = refl

text_3136 : template_of (123 ∷ 123 ∷ 32 ∷ 122 ∷ 122 ∷ 32 ∷ 61 ∷ 61 ∷ 32 ∷ 91 ∷ 110 ∷ 111 ∷ 116 ∷ 32 ∷ 49 ∷ 93 ∷ 32 ∷ 125 ∷ 125 ∷ []) ≡ Some (comparison equal (path (variable (codes "zz")) ([])) (list_of (expression (negation (literal (int (pos 1)))) (no_expressions))))
text_3136 = refl

text_3137 : template_of (123 ∷ 123 ∷ 32 ∷ 122 ∷ 122 ∷ 32 ∷ 125 ∷ 125 ∷ []) ≡ Some (path (variable (codes "zz")) ([]))
text_3137 = refl

text_3138 : template_of (123 ∷ 123 ∷ 32 ∷ 122 ∷ 122 ∷ 32 ∷ 125 ∷ 125 ∷ 32 ∷ 123 ∷ 123 ∷ 32 ∷ 91 ∷ 49 ∷ 93 ∷ 32 ∷ 125 ∷ 125 ∷ []) ≡ Some (concatenation (expression (path (variable (codes "zz")) ([])) (expression (literal (text (codes " "))) (expression (list_of (expression (literal (int (pos 1))) (no_expressions))) (no_expressions)))))
text_3138 = refl

text_3139 : template_of (123 ∷ 123 ∷ 32 ∷ 122 ∷ 122 ∷ 46 ∷ 99 ∷ 104 ∷ 97 ∷ 110 ∷ 103 ∷ 101 ∷ 100 ∷ 32 ∷ 124 ∷ 32 ∷ 100 ∷ 101 ∷ 102 ∷ 97 ∷ 117 ∷ 108 ∷ 116 ∷ 40 ∷ 49 ∷ 41 ∷ 32 ∷ 125 ∷ 125 ∷ []) ≡ Some (path_or (variable (codes "zz")) ((codes "changed") ∷ []) (literal (int (pos 1))))
text_3139 = refl

text_3140 : template_of (123 ∷ 123 ∷ 32 ∷ 122 ∷ 122 ∷ 46 ∷ 104 ∷ 111 ∷ 115 ∷ 116 ∷ 110 ∷ 97 ∷ 109 ∷ 101 ∷ 32 ∷ 124 ∷ 32 ∷ 100 ∷ 101 ∷ 102 ∷ 97 ∷ 117 ∷ 108 ∷ 116 ∷ 40 ∷ 104 ∷ 111 ∷ 115 ∷ 116 ∷ 118 ∷ 97 ∷ 114 ∷ 115 ∷ 91 ∷ 105 ∷ 116 ∷ 101 ∷ 109 ∷ 93 ∷ 46 ∷ 115 ∷ 46 ∷ 115 ∷ 116 ∷ 97 ∷ 116 ∷ 46 ∷ 105 ∷ 115 ∷ 100 ∷ 105 ∷ 114 ∷ 41 ∷ 32 ∷ 125 ∷ 125 ∷ []) ≡ Some (path_or (variable (codes "zz")) ((codes "hostname") ∷ []) (path (other item_host (codes "s")) ((codes "stat") ∷ (codes "isdir") ∷ [])))
text_3140 = refl

text_3141 : template_of (123 ∷ 123 ∷ 32 ∷ 122 ∷ 122 ∷ 46 ∷ 104 ∷ 111 ∷ 115 ∷ 116 ∷ 110 ∷ 97 ∷ 109 ∷ 101 ∷ 32 ∷ 125 ∷ 125 ∷ []) ≡ Some (path (variable (codes "zz")) ((codes "hostname") ∷ []))
text_3141 = refl

text_3142 : template_of (123 ∷ 123 ∷ 32 ∷ 122 ∷ 122 ∷ 46 ∷ 114 ∷ 101 ∷ 115 ∷ 117 ∷ 108 ∷ 116 ∷ 115 ∷ 32 ∷ 124 ∷ 32 ∷ 100 ∷ 101 ∷ 102 ∷ 97 ∷ 117 ∷ 108 ∷ 116 ∷ 40 ∷ 49 ∷ 41 ∷ 32 ∷ 125 ∷ 125 ∷ []) ≡ Some (path_or (variable (codes "zz")) ((codes "results") ∷ []) (literal (int (pos 1))))
text_3142 = refl

text_3143 : template_of (123 ∷ 123 ∷ 32 ∷ 122 ∷ 122 ∷ 46 ∷ 114 ∷ 101 ∷ 115 ∷ 117 ∷ 108 ∷ 116 ∷ 115 ∷ 32 ∷ 124 ∷ 32 ∷ 108 ∷ 101 ∷ 110 ∷ 103 ∷ 116 ∷ 104 ∷ 32 ∷ 125 ∷ 125 ∷ []) ≡ Some (length_of (path (variable (codes "zz")) ((codes "results") ∷ [])))
text_3143 = refl

text_3144 : template_of (123 ∷ 123 ∷ 32 ∷ 122 ∷ 122 ∷ 46 ∷ 115 ∷ 116 ∷ 97 ∷ 116 ∷ 46 ∷ 105 ∷ 115 ∷ 100 ∷ 105 ∷ 114 ∷ 32 ∷ 124 ∷ 32 ∷ 108 ∷ 101 ∷ 110 ∷ 103 ∷ 116 ∷ 104 ∷ 32 ∷ 125 ∷ 125 ∷ []) ≡ Some (length_of (path (variable (codes "zz")) ((codes "stat") ∷ (codes "isdir") ∷ [])))
text_3144 = refl

text_3145 : template_of (123 ∷ 123 ∷ 32 ∷ 122 ∷ 122 ∷ 46 ∷ 115 ∷ 116 ∷ 97 ∷ 116 ∷ 46 ∷ 105 ∷ 115 ∷ 100 ∷ 105 ∷ 114 ∷ 32 ∷ 125 ∷ 125 ∷ []) ≡ Some (path (variable (codes "zz")) ((codes "stat") ∷ (codes "isdir") ∷ []))
text_3145 = refl

text_3146 : template_of (123 ∷ 123 ∷ 32 ∷ 122 ∷ 122 ∷ 46 ∷ 115 ∷ 116 ∷ 100 ∷ 111 ∷ 117 ∷ 116 ∷ 95 ∷ 108 ∷ 105 ∷ 110 ∷ 101 ∷ 115 ∷ 32 ∷ 125 ∷ 125 ∷ []) ≡ Some (path (variable (codes "zz")) ((codes "stdout_lines") ∷ []))
text_3146 = refl

text_3147 : template_of (123 ∷ 123 ∷ 32 ∷ 123 ∷ 37 ∷ 32 ∷ 125 ∷ 125 ∷ []) ≡ None
text_3147 = refl

text_3148 : template_of (123 ∷ 123 ∷ 32 ∷ 123 ∷ 49 ∷ 125 ∷ 32 ∷ 125 ∷ 125 ∷ []) ≡ None
text_3148 = refl

text_3149 : template_of (123 ∷ 123 ∷ 32 ∷ 125 ∷ 125 ∷ []) ≡ None
text_3149 = refl

text_3150 : template_of (123 ∷ 123 ∷ 49 ∷ 125 ∷ 125 ∷ []) ≡ Some (literal (int (pos 1)))
text_3150 = refl

text_3151 : template_of (123 ∷ 123 ∷ 123 ∷ 32 ∷ 49 ∷ 32 ∷ 125 ∷ 125 ∷ 125 ∷ []) ≡ None
text_3151 = refl

text_3152 : template_of (123 ∷ 123 ∷ 123 ∷ 123 ∷ 32 ∷ 49 ∷ 32 ∷ 125 ∷ 125 ∷ 125 ∷ 125 ∷ []) ≡ None
text_3152 = refl

text_3153 : template_of (123 ∷ 123 ∷ 125 ∷ 125 ∷ []) ≡ None
text_3153 = refl

text_3154 : template_of (125 ∷ 125 ∷ 32 ∷ 123 ∷ 123 ∷ 32 ∷ 49 ∷ 32 ∷ 125 ∷ 125 ∷ []) ≡ Some (concatenation (expression (literal (text (125 ∷ 125 ∷ 32 ∷ []))) (expression (literal (int (pos 1))) (no_expressions))))
text_3154 = refl

text_3155 : template_of (125 ∷ 125 ∷ 32 ∷ 123 ∷ 123 ∷ 32 ∷ 49 ∷ 32 ∷ 125 ∷ 125 ∷ 32 ∷ 123 ∷ 32 ∷ 125 ∷ []) ≡ Some (concatenation (expression (literal (text (125 ∷ 125 ∷ 32 ∷ []))) (expression (literal (int (pos 1))) (expression (literal (text (32 ∷ 123 ∷ 32 ∷ 125 ∷ []))) (no_expressions)))))
text_3155 = refl
