-- The trees of expressions of cases, computed.
use Rattle.std.specs.Prelude.{◌≡◌, refl, pos, [], ◌∷◌, true, false, Some, codes}
use Rattle.pb_semantics.specs.Data.{boolean, int, null, text}
use Rattle.pb_language.specs.Expression.{equal, less, is_failed, is_changed, is_skipped, item_host, literal, path, negation, conjunction, disjunction, comparison, membership, in_batch, defined, path_status, path_or, length_of, concatenation, list_of, variable, no_expressions, expression}
use Rattle.pb_language.specs.Grammar.{template_of}

text_2750 : template_of (123 ∷ 123 ∷ 32 ∷ 105 ∷ 110 ∷ 118 ∷ 101 ∷ 110 ∷ 116 ∷ 111 ∷ 114 ∷ 121 ∷ 95 ∷ 104 ∷ 111 ∷ 115 ∷ 116 ∷ 110 ∷ 97 ∷ 109 ∷ 101 ∷ 46 ∷ 114 ∷ 101 ∷ 115 ∷ 117 ∷ 108 ∷ 116 ∷ 115 ∷ 32 ∷ 125 ∷ 125 ∷ []) ≡ Some (path (variable (codes "inventory_hostname")) ((codes "results") ∷ []))
text_2750 = refl

text_2751 : template_of (123 ∷ 123 ∷ 32 ∷ 105 ∷ 110 ∷ 118 ∷ 101 ∷ 110 ∷ 116 ∷ 111 ∷ 114 ∷ 121 ∷ 95 ∷ 104 ∷ 111 ∷ 115 ∷ 116 ∷ 110 ∷ 97 ∷ 109 ∷ 101 ∷ 46 ∷ 115 ∷ 116 ∷ 97 ∷ 116 ∷ 46 ∷ 105 ∷ 115 ∷ 100 ∷ 105 ∷ 114 ∷ 32 ∷ 124 ∷ 32 ∷ 108 ∷ 101 ∷ 110 ∷ 103 ∷ 116 ∷ 104 ∷ 32 ∷ 125 ∷ 125 ∷ []) ≡ Some (length_of (path (variable (codes "inventory_hostname")) ((codes "stat") ∷ (codes "isdir") ∷ [])))
text_2751 = refl

text_2752 : template_of (123 ∷ 123 ∷ 32 ∷ 105 ∷ 110 ∷ 118 ∷ 101 ∷ 110 ∷ 116 ∷ 111 ∷ 114 ∷ 121 ∷ 95 ∷ 104 ∷ 111 ∷ 115 ∷ 116 ∷ 110 ∷ 97 ∷ 109 ∷ 101 ∷ 46 ∷ 115 ∷ 116 ∷ 100 ∷ 111 ∷ 117 ∷ 116 ∷ 32 ∷ 125 ∷ 125 ∷ []) ≡ Some (path (variable (codes "inventory_hostname")) ((codes "stdout") ∷ []))
text_2752 = refl

text_2753 : template_of (123 ∷ 123 ∷ 32 ∷ 105 ∷ 116 ∷ 101 ∷ 109 ∷ 32 ∷ 105 ∷ 110 ∷ 32 ∷ 97 ∷ 110 ∷ 115 ∷ 105 ∷ 98 ∷ 108 ∷ 101 ∷ 95 ∷ 112 ∷ 108 ∷ 97 ∷ 121 ∷ 95 ∷ 98 ∷ 97 ∷ 116 ∷ 99 ∷ 104 ∷ 32 ∷ 125 ∷ 125 ∷ []) ≡ Some (in_batch item_host)
text_2753 = refl

text_2754 : template_of (123 ∷ 123 ∷ 32 ∷ 105 ∷ 116 ∷ 101 ∷ 109 ∷ 32 ∷ 124 ∷ 32 ∷ 108 ∷ 101 ∷ 110 ∷ 103 ∷ 116 ∷ 104 ∷ 32 ∷ 125 ∷ 125 ∷ []) ≡ Some (length_of (path (variable (codes "item")) ([])))
text_2754 = refl

text_2755 : template_of (123 ∷ 123 ∷ 32 ∷ 105 ∷ 116 ∷ 101 ∷ 109 ∷ 32 ∷ 125 ∷ 125 ∷ []) ≡ Some (path (variable (codes "item")) ([]))
text_2755 = refl

text_2756 : template_of (123 ∷ 123 ∷ 32 ∷ 105 ∷ 116 ∷ 101 ∷ 109 ∷ 46 ∷ 99 ∷ 104 ∷ 97 ∷ 110 ∷ 103 ∷ 101 ∷ 100 ∷ 32 ∷ 125 ∷ 125 ∷ []) ≡ Some (path (variable (codes "item")) ((codes "changed") ∷ []))
text_2756 = refl

text_2757 : template_of (123 ∷ 123 ∷ 32 ∷ 105 ∷ 116 ∷ 101 ∷ 109 ∷ 46 ∷ 102 ∷ 32 ∷ 124 ∷ 32 ∷ 100 ∷ 101 ∷ 102 ∷ 97 ∷ 117 ∷ 108 ∷ 116 ∷ 40 ∷ 49 ∷ 41 ∷ 32 ∷ 125 ∷ 125 ∷ []) ≡ Some (path_or (variable (codes "item")) ((codes "f") ∷ []) (literal (int (pos 1))))
text_2757 = refl

text_2758 : template_of (123 ∷ 123 ∷ 32 ∷ 105 ∷ 116 ∷ 101 ∷ 109 ∷ 46 ∷ 102 ∷ 32 ∷ 125 ∷ 125 ∷ []) ≡ Some (path (variable (codes "item")) ((codes "f") ∷ []))
text_2758 = refl

text_2759 : template_of (123 ∷ 123 ∷ 32 ∷ 105 ∷ 116 ∷ 101 ∷ 109 ∷ 46 ∷ 104 ∷ 111 ∷ 115 ∷ 116 ∷ 110 ∷ 97 ∷ 109 ∷ 101 ∷ 32 ∷ 125 ∷ 125 ∷ []) ≡ Some (path (variable (codes "item")) ((codes "hostname") ∷ []))
text_2759 = refl

text_2760 : template_of (123 ∷ 123 ∷ 32 ∷ 105 ∷ 116 ∷ 101 ∷ 109 ∷ 46 ∷ 107 ∷ 32 ∷ 125 ∷ 125 ∷ []) ≡ Some (path (variable (codes "item")) ((codes "k") ∷ []))
text_2760 = refl

text_2761 : template_of (123 ∷ 123 ∷ 32 ∷ 105 ∷ 116 ∷ 101 ∷ 109 ∷ 46 ∷ 114 ∷ 99 ∷ 32 ∷ 124 ∷ 32 ∷ 100 ∷ 101 ∷ 102 ∷ 97 ∷ 117 ∷ 108 ∷ 116 ∷ 40 ∷ 91 ∷ 93 ∷ 41 ∷ 32 ∷ 125 ∷ 125 ∷ []) ≡ Some (path_or (variable (codes "item")) ((codes "rc") ∷ []) (list_of (no_expressions)))
text_2761 = refl

text_2762 : template_of (123 ∷ 123 ∷ 32 ∷ 105 ∷ 116 ∷ 101 ∷ 109 ∷ 46 ∷ 114 ∷ 99 ∷ 32 ∷ 124 ∷ 32 ∷ 100 ∷ 101 ∷ 102 ∷ 97 ∷ 117 ∷ 108 ∷ 116 ∷ 40 ∷ 115 ∷ 49 ∷ 41 ∷ 32 ∷ 125 ∷ 125 ∷ []) ≡ Some (path_or (variable (codes "item")) ((codes "rc") ∷ []) (path (variable (codes "s1")) ([])))
text_2762 = refl

text_2763 : template_of (123 ∷ 123 ∷ 32 ∷ 105 ∷ 116 ∷ 101 ∷ 109 ∷ 46 ∷ 114 ∷ 99 ∷ 32 ∷ 124 ∷ 32 ∷ 108 ∷ 101 ∷ 110 ∷ 103 ∷ 116 ∷ 104 ∷ 32 ∷ 125 ∷ 125 ∷ []) ≡ Some (length_of (path (variable (codes "item")) ((codes "rc") ∷ [])))
text_2763 = refl

text_2764 : template_of (123 ∷ 123 ∷ 32 ∷ 105 ∷ 116 ∷ 101 ∷ 109 ∷ 46 ∷ 114 ∷ 99 ∷ 32 ∷ 125 ∷ 125 ∷ []) ≡ Some (path (variable (codes "item")) ((codes "rc") ∷ []))
text_2764 = refl

text_2765 : template_of (123 ∷ 123 ∷ 32 ∷ 105 ∷ 116 ∷ 101 ∷ 109 ∷ 46 ∷ 114 ∷ 101 ∷ 115 ∷ 117 ∷ 108 ∷ 116 ∷ 115 ∷ 32 ∷ 124 ∷ 32 ∷ 100 ∷ 101 ∷ 102 ∷ 97 ∷ 117 ∷ 108 ∷ 116 ∷ 40 ∷ 49 ∷ 41 ∷ 32 ∷ 125 ∷ 125 ∷ []) ≡ Some (path_or (variable (codes "item")) ((codes "results") ∷ []) (literal (int (pos 1))))
text_2765 = refl

text_2766 : template_of (123 ∷ 123 ∷ 32 ∷ 105 ∷ 116 ∷ 101 ∷ 109 ∷ 46 ∷ 114 ∷ 101 ∷ 115 ∷ 117 ∷ 108 ∷ 116 ∷ 115 ∷ 32 ∷ 125 ∷ 125 ∷ []) ≡ Some (path (variable (codes "item")) ((codes "results") ∷ []))
text_2766 = refl

text_2767 : template_of (123 ∷ 123 ∷ 32 ∷ 105 ∷ 116 ∷ 101 ∷ 109 ∷ 46 ∷ 115 ∷ 107 ∷ 105 ∷ 112 ∷ 112 ∷ 101 ∷ 100 ∷ 32 ∷ 124 ∷ 32 ∷ 100 ∷ 101 ∷ 102 ∷ 97 ∷ 117 ∷ 108 ∷ 116 ∷ 40 ∷ 49 ∷ 41 ∷ 32 ∷ 125 ∷ 125 ∷ []) ≡ Some (path_or (variable (codes "item")) ((codes "skipped") ∷ []) (literal (int (pos 1))))
text_2767 = refl

text_2768 : template_of (123 ∷ 123 ∷ 32 ∷ 105 ∷ 116 ∷ 101 ∷ 109 ∷ 46 ∷ 115 ∷ 107 ∷ 105 ∷ 112 ∷ 112 ∷ 101 ∷ 100 ∷ 32 ∷ 124 ∷ 32 ∷ 100 ∷ 101 ∷ 102 ∷ 97 ∷ 117 ∷ 108 ∷ 116 ∷ 40 ∷ 115 ∷ 49 ∷ 41 ∷ 32 ∷ 125 ∷ 125 ∷ []) ≡ Some (path_or (variable (codes "item")) ((codes "skipped") ∷ []) (path (variable (codes "s1")) ([])))
text_2768 = refl

text_2769 : template_of (123 ∷ 123 ∷ 32 ∷ 105 ∷ 116 ∷ 101 ∷ 109 ∷ 46 ∷ 115 ∷ 107 ∷ 105 ∷ 112 ∷ 112 ∷ 101 ∷ 100 ∷ 32 ∷ 125 ∷ 125 ∷ []) ≡ Some (path (variable (codes "item")) ((codes "skipped") ∷ []))
text_2769 = refl

text_2770 : template_of (123 ∷ 123 ∷ 32 ∷ 105 ∷ 116 ∷ 101 ∷ 109 ∷ 46 ∷ 115 ∷ 116 ∷ 100 ∷ 111 ∷ 117 ∷ 116 ∷ 32 ∷ 125 ∷ 125 ∷ []) ≡ Some (path (variable (codes "item")) ((codes "stdout") ∷ []))
text_2770 = refl

text_2771 : template_of (123 ∷ 123 ∷ 32 ∷ 105 ∷ 116 ∷ 101 ∷ 109 ∷ 46 ∷ 115 ∷ 116 ∷ 100 ∷ 111 ∷ 117 ∷ 116 ∷ 95 ∷ 108 ∷ 105 ∷ 110 ∷ 101 ∷ 115 ∷ 32 ∷ 125 ∷ 125 ∷ []) ≡ Some (path (variable (codes "item")) ((codes "stdout_lines") ∷ []))
text_2771 = refl

text_2772 : template_of (123 ∷ 123 ∷ 32 ∷ 110 ∷ 32 ∷ 125 ∷ 125 ∷ []) ≡ Some (path (variable (codes "n")) ([]))
text_2772 = refl

text_2773 : template_of (123 ∷ 123 ∷ 32 ∷ 110 ∷ 111 ∷ 110 ∷ 101 ∷ 32 ∷ 125 ∷ 125 ∷ []) ≡ Some (literal null)
text_2773 = refl

text_2774 : template_of (123 ∷ 123 ∷ 32 ∷ 110 ∷ 111 ∷ 112 ∷ 101 ∷ 32 ∷ 97 ∷ 110 ∷ 100 ∷ 32 ∷ 114 ∷ 49 ∷ 46 ∷ 115 ∷ 116 ∷ 100 ∷ 101 ∷ 114 ∷ 114 ∷ 32 ∷ 125 ∷ 125 ∷ []) ≡ Some (conjunction (expression (path (variable (codes "nope")) ([])) (expression (path (variable (codes "r1")) ((codes "stderr") ∷ [])) (no_expressions))))
text_2774 = refl

text_2775 : template_of (123 ∷ 123 ∷ 32 ∷ 110 ∷ 111 ∷ 112 ∷ 101 ∷ 46 ∷ 120 ∷ 32 ∷ 97 ∷ 110 ∷ 100 ∷ 32 ∷ 105 ∷ 110 ∷ 118 ∷ 101 ∷ 110 ∷ 116 ∷ 111 ∷ 114 ∷ 121 ∷ 95 ∷ 104 ∷ 111 ∷ 115 ∷ 116 ∷ 110 ∷ 97 ∷ 109 ∷ 101 ∷ 32 ∷ 125 ∷ 125 ∷ []) ≡ Some (conjunction (expression (path (variable (codes "nope")) ((codes "x") ∷ [])) (expression (path (variable (codes "inventory_hostname")) ([])) (no_expressions))))
text_2775 = refl

text_2776 : template_of (123 ∷ 123 ∷ 32 ∷ 110 ∷ 111 ∷ 112 ∷ 101 ∷ 46 ∷ 120 ∷ 32 ∷ 125 ∷ 125 ∷ []) ≡ Some (path (variable (codes "nope")) ((codes "x") ∷ []))
text_2776 = refl

text_2777 : template_of (123 ∷ 123 ∷ 32 ∷ 110 ∷ 111 ∷ 116 ∷ 32 ∷ 40 ∷ 97 ∷ 110 ∷ 115 ∷ 105 ∷ 98 ∷ 108 ∷ 101 ∷ 95 ∷ 112 ∷ 108 ∷ 97 ∷ 121 ∷ 95 ∷ 98 ∷ 97 ∷ 116 ∷ 99 ∷ 104 ∷ 46 ∷ 115 ∷ 116 ∷ 100 ∷ 111 ∷ 117 ∷ 116 ∷ 32 ∷ 105 ∷ 115 ∷ 32 ∷ 115 ∷ 107 ∷ 105 ∷ 112 ∷ 112 ∷ 101 ∷ 100 ∷ 41 ∷ 32 ∷ 125 ∷ 125 ∷ []) ≡ Some (negation (path_status is_skipped (variable (codes "ansible_play_batch")) ((codes "stdout") ∷ [])))
text_2777 = refl

text_2778 : template_of (123 ∷ 123 ∷ 32 ∷ 110 ∷ 111 ∷ 116 ∷ 32 ∷ 40 ∷ 103 ∷ 114 ∷ 111 ∷ 117 ∷ 112 ∷ 95 ∷ 110 ∷ 97 ∷ 109 ∷ 101 ∷ 115 ∷ 32 ∷ 105 ∷ 115 ∷ 32 ∷ 110 ∷ 111 ∷ 116 ∷ 32 ∷ 100 ∷ 101 ∷ 102 ∷ 105 ∷ 110 ∷ 101 ∷ 100 ∷ 41 ∷ 32 ∷ 125 ∷ 125 ∷ []) ≡ Some (negation (negation (defined (variable (codes "group_names")) ([]))))
text_2778 = refl

text_2779 : template_of (123 ∷ 123 ∷ 32 ∷ 110 ∷ 111 ∷ 116 ∷ 32 ∷ 40 ∷ 103 ∷ 114 ∷ 111 ∷ 117 ∷ 112 ∷ 95 ∷ 110 ∷ 97 ∷ 109 ∷ 101 ∷ 115 ∷ 46 ∷ 114 ∷ 99 ∷ 32 ∷ 105 ∷ 115 ∷ 32 ∷ 102 ∷ 97 ∷ 105 ∷ 108 ∷ 101 ∷ 100 ∷ 41 ∷ 32 ∷ 125 ∷ 125 ∷ []) ≡ Some (negation (path_status is_failed (variable (codes "group_names")) ((codes "rc") ∷ [])))
text_2779 = refl

text_2780 : template_of (123 ∷ 123 ∷ 32 ∷ 110 ∷ 111 ∷ 116 ∷ 32 ∷ 40 ∷ 103 ∷ 114 ∷ 111 ∷ 117 ∷ 112 ∷ 115 ∷ 46 ∷ 103 ∷ 32 ∷ 105 ∷ 115 ∷ 32 ∷ 115 ∷ 117 ∷ 99 ∷ 99 ∷ 101 ∷ 101 ∷ 100 ∷ 101 ∷ 100 ∷ 41 ∷ 32 ∷ 125 ∷ 125 ∷ []) ≡ Some (negation (negation (path_status is_failed (variable (codes "groups")) ((codes "g") ∷ []))))
text_2780 = refl

text_2781 : template_of (123 ∷ 123 ∷ 32 ∷ 110 ∷ 111 ∷ 116 ∷ 32 ∷ 40 ∷ 105 ∷ 116 ∷ 101 ∷ 109 ∷ 32 ∷ 105 ∷ 115 ∷ 32 ∷ 100 ∷ 101 ∷ 102 ∷ 105 ∷ 110 ∷ 101 ∷ 100 ∷ 41 ∷ 32 ∷ 125 ∷ 125 ∷ []) ≡ Some (negation (defined (variable (codes "item")) ([])))
text_2781 = refl

text_2782 : template_of (123 ∷ 123 ∷ 32 ∷ 110 ∷ 111 ∷ 116 ∷ 32 ∷ 40 ∷ 110 ∷ 111 ∷ 116 ∷ 32 ∷ 115 ∷ 49 ∷ 46 ∷ 102 ∷ 97 ∷ 105 ∷ 108 ∷ 101 ∷ 100 ∷ 41 ∷ 32 ∷ 125 ∷ 125 ∷ []) ≡ Some (negation (negation (path (variable (codes "s1")) ((codes "failed") ∷ []))))
text_2782 = refl

text_2783 : template_of (123 ∷ 123 ∷ 32 ∷ 110 ∷ 111 ∷ 116 ∷ 32 ∷ 40 ∷ 114 ∷ 46 ∷ 115 ∷ 116 ∷ 97 ∷ 116 ∷ 46 ∷ 105 ∷ 115 ∷ 100 ∷ 105 ∷ 114 ∷ 32 ∷ 60 ∷ 32 ∷ 51 ∷ 41 ∷ 32 ∷ 125 ∷ 125 ∷ []) ≡ Some (negation (comparison less (path (variable (codes "r")) ((codes "stat") ∷ (codes "isdir") ∷ [])) (literal (int (pos 3)))))
text_2783 = refl

text_2784 : template_of (123 ∷ 123 ∷ 32 ∷ 110 ∷ 111 ∷ 116 ∷ 32 ∷ 57 ∷ 50 ∷ 50 ∷ 51 ∷ 51 ∷ 55 ∷ 50 ∷ 48 ∷ 51 ∷ 54 ∷ 56 ∷ 53 ∷ 52 ∷ 55 ∷ 55 ∷ 53 ∷ 56 ∷ 48 ∷ 55 ∷ 32 ∷ 125 ∷ 125 ∷ []) ≡ Some (negation (literal (int (pos 9223372036854775807))))
text_2784 = refl

text_2785 : template_of (123 ∷ 123 ∷ 32 ∷ 110 ∷ 111 ∷ 116 ∷ 32 ∷ 84 ∷ 114 ∷ 117 ∷ 101 ∷ 32 ∷ 125 ∷ 125 ∷ []) ≡ Some (negation (literal (boolean true)))
text_2785 = refl

text_2786 : template_of (123 ∷ 123 ∷ 32 ∷ 110 ∷ 111 ∷ 116 ∷ 32 ∷ 110 ∷ 111 ∷ 116 ∷ 32 ∷ 70 ∷ 97 ∷ 108 ∷ 115 ∷ 101 ∷ 32 ∷ 125 ∷ 125 ∷ []) ≡ Some (negation (negation (literal (boolean false))))
text_2786 = refl

text_2787 : template_of (123 ∷ 123 ∷ 32 ∷ 110 ∷ 111 ∷ 116 ∷ 32 ∷ 114 ∷ 49 ∷ 46 ∷ 102 ∷ 97 ∷ 105 ∷ 108 ∷ 101 ∷ 100 ∷ 32 ∷ 97 ∷ 110 ∷ 100 ∷ 32 ∷ 114 ∷ 49 ∷ 46 ∷ 99 ∷ 104 ∷ 97 ∷ 110 ∷ 103 ∷ 101 ∷ 100 ∷ 32 ∷ 125 ∷ 125 ∷ []) ≡ Some (conjunction (expression (negation (path (variable (codes "r1")) ((codes "failed") ∷ []))) (expression (path (variable (codes "r1")) ((codes "changed") ∷ [])) (no_expressions))))
text_2787 = refl

text_2788 : template_of (123 ∷ 123 ∷ 32 ∷ 110 ∷ 111 ∷ 116 ∷ 32 ∷ 114 ∷ 50 ∷ 46 ∷ 102 ∷ 97 ∷ 105 ∷ 108 ∷ 101 ∷ 100 ∷ 32 ∷ 97 ∷ 110 ∷ 100 ∷ 32 ∷ 114 ∷ 50 ∷ 46 ∷ 99 ∷ 104 ∷ 97 ∷ 110 ∷ 103 ∷ 101 ∷ 100 ∷ 32 ∷ 125 ∷ 125 ∷ []) ≡ Some (conjunction (expression (negation (path (variable (codes "r2")) ((codes "failed") ∷ []))) (expression (path (variable (codes "r2")) ((codes "changed") ∷ [])) (no_expressions))))
text_2788 = refl

text_2789 : template_of (123 ∷ 123 ∷ 32 ∷ 110 ∷ 111 ∷ 116 ∷ 32 ∷ 114 ∷ 51 ∷ 46 ∷ 102 ∷ 32 ∷ 111 ∷ 114 ∷ 32 ∷ 40 ∷ 40 ∷ 103 ∷ 114 ∷ 111 ∷ 117 ∷ 112 ∷ 95 ∷ 110 ∷ 97 ∷ 109 ∷ 101 ∷ 115 ∷ 41 ∷ 41 ∷ 32 ∷ 125 ∷ 125 ∷ []) ≡ Some (disjunction (expression (negation (path (variable (codes "r3")) ((codes "f") ∷ []))) (expression (path (variable (codes "group_names")) ([])) (no_expressions))))
text_2789 = refl

text_2790 : template_of (123 ∷ 123 ∷ 32 ∷ 110 ∷ 111 ∷ 116 ∷ 32 ∷ 114 ∷ 51 ∷ 46 ∷ 102 ∷ 97 ∷ 105 ∷ 108 ∷ 101 ∷ 100 ∷ 32 ∷ 97 ∷ 110 ∷ 100 ∷ 32 ∷ 114 ∷ 51 ∷ 46 ∷ 99 ∷ 104 ∷ 97 ∷ 110 ∷ 103 ∷ 101 ∷ 100 ∷ 32 ∷ 125 ∷ 125 ∷ []) ≡ Some (conjunction (expression (negation (path (variable (codes "r3")) ((codes "failed") ∷ []))) (expression (path (variable (codes "r3")) ((codes "changed") ∷ [])) (no_expressions))))
text_2790 = refl

text_2791 : template_of (123 ∷ 123 ∷ 32 ∷ 110 ∷ 111 ∷ 116 ∷ 32 ∷ 114 ∷ 51 ∷ 46 ∷ 102 ∷ 97 ∷ 105 ∷ 108 ∷ 101 ∷ 100 ∷ 32 ∷ 110 ∷ 111 ∷ 116 ∷ 32 ∷ 105 ∷ 110 ∷ 32 ∷ 114 ∷ 51 ∷ 46 ∷ 114 ∷ 99 ∷ 32 ∷ 125 ∷ 125 ∷ []) ≡ Some (negation (negation (membership (path (variable (codes "r3")) ((codes "failed") ∷ [])) (path (variable (codes "r3")) ((codes "rc") ∷ [])))))
text_2791 = refl

text_2792 : template_of (123 ∷ 123 ∷ 32 ∷ 110 ∷ 111 ∷ 116 ∷ 32 ∷ 115 ∷ 51 ∷ 32 ∷ 97 ∷ 110 ∷ 100 ∷ 32 ∷ 115 ∷ 51 ∷ 46 ∷ 102 ∷ 32 ∷ 125 ∷ 125 ∷ []) ≡ Some (conjunction (expression (negation (path (variable (codes "s3")) ([]))) (expression (path (variable (codes "s3")) ((codes "f") ∷ [])) (no_expressions))))
text_2792 = refl

text_2793 : template_of (123 ∷ 123 ∷ 32 ∷ 110 ∷ 111 ∷ 116 ∷ 32 ∷ 116 ∷ 114 ∷ 117 ∷ 101 ∷ 32 ∷ 125 ∷ 125 ∷ []) ≡ Some (negation (literal (boolean true)))
text_2793 = refl

text_2794 : template_of (123 ∷ 123 ∷ 32 ∷ 111 ∷ 46 ∷ 109 ∷ 115 ∷ 103 ∷ 32 ∷ 125 ∷ 125 ∷ []) ≡ Some (path (variable (codes "o")) ((codes "msg") ∷ []))
text_2794 = refl

text_2795 : template_of (123 ∷ 123 ∷ 32 ∷ 111 ∷ 112 ∷ 32 ∷ 124 ∷ 32 ∷ 100 ∷ 101 ∷ 102 ∷ 97 ∷ 117 ∷ 108 ∷ 116 ∷ 40 ∷ 91 ∷ 93 ∷ 41 ∷ 32 ∷ 125 ∷ 125 ∷ []) ≡ Some (path_or (variable (codes "op")) ([]) (list_of (no_expressions)))
text_2795 = refl

text_2796 : template_of (123 ∷ 123 ∷ 32 ∷ 111 ∷ 112 ∷ 32 ∷ 124 ∷ 32 ∷ 100 ∷ 101 ∷ 102 ∷ 97 ∷ 117 ∷ 108 ∷ 116 ∷ 40 ∷ 115 ∷ 49 ∷ 41 ∷ 32 ∷ 125 ∷ 125 ∷ []) ≡ Some (path_or (variable (codes "op")) ([]) (path (variable (codes "s1")) ([])))
text_2796 = refl

text_2797 : template_of (123 ∷ 123 ∷ 32 ∷ 111 ∷ 112 ∷ 32 ∷ 125 ∷ 125 ∷ []) ≡ Some (path (variable (codes "op")) ([]))
text_2797 = refl

text_2798 : template_of (123 ∷ 123 ∷ 32 ∷ 111 ∷ 112 ∷ 46 ∷ 99 ∷ 104 ∷ 97 ∷ 110 ∷ 103 ∷ 101 ∷ 100 ∷ 32 ∷ 125 ∷ 125 ∷ []) ≡ Some (path (variable (codes "op")) ((codes "changed") ∷ []))
text_2798 = refl

text_2799 : template_of (123 ∷ 123 ∷ 32 ∷ 111 ∷ 112 ∷ 46 ∷ 102 ∷ 32 ∷ 125 ∷ 125 ∷ []) ≡ Some (path (variable (codes "op")) ((codes "f") ∷ []))
text_2799 = refl

text_2800 : template_of (123 ∷ 123 ∷ 32 ∷ 111 ∷ 112 ∷ 46 ∷ 103 ∷ 32 ∷ 124 ∷ 32 ∷ 100 ∷ 101 ∷ 102 ∷ 97 ∷ 117 ∷ 108 ∷ 116 ∷ 40 ∷ 91 ∷ 93 ∷ 41 ∷ 32 ∷ 125 ∷ 125 ∷ []) ≡ Some (path_or (variable (codes "op")) ((codes "g") ∷ []) (list_of (no_expressions)))
text_2800 = refl

text_2801 : template_of (123 ∷ 123 ∷ 32 ∷ 111 ∷ 112 ∷ 46 ∷ 103 ∷ 32 ∷ 124 ∷ 32 ∷ 100 ∷ 101 ∷ 102 ∷ 97 ∷ 117 ∷ 108 ∷ 116 ∷ 40 ∷ 115 ∷ 49 ∷ 41 ∷ 32 ∷ 125 ∷ 125 ∷ []) ≡ Some (path_or (variable (codes "op")) ((codes "g") ∷ []) (path (variable (codes "s1")) ([])))
text_2801 = refl

text_2802 : template_of (123 ∷ 123 ∷ 32 ∷ 111 ∷ 112 ∷ 46 ∷ 103 ∷ 32 ∷ 125 ∷ 125 ∷ []) ≡ Some (path (variable (codes "op")) ((codes "g") ∷ []))
text_2802 = refl

text_2803 : template_of (123 ∷ 123 ∷ 32 ∷ 111 ∷ 112 ∷ 46 ∷ 114 ∷ 99 ∷ 32 ∷ 124 ∷ 32 ∷ 108 ∷ 101 ∷ 110 ∷ 103 ∷ 116 ∷ 104 ∷ 32 ∷ 125 ∷ 125 ∷ []) ≡ Some (length_of (path (variable (codes "op")) ((codes "rc") ∷ [])))
text_2803 = refl

text_2804 : template_of (123 ∷ 123 ∷ 32 ∷ 111 ∷ 112 ∷ 46 ∷ 115 ∷ 116 ∷ 100 ∷ 111 ∷ 117 ∷ 116 ∷ 32 ∷ 125 ∷ 125 ∷ []) ≡ Some (path (variable (codes "op")) ((codes "stdout") ∷ []))
text_2804 = refl

text_2805 : template_of (123 ∷ 123 ∷ 32 ∷ 111 ∷ 112 ∷ 113 ∷ 32 ∷ 125 ∷ 125 ∷ []) ≡ Some (path (variable (codes "opq")) ([]))
text_2805 = refl

text_2806 : template_of (123 ∷ 123 ∷ 32 ∷ 111 ∷ 112 ∷ 113 ∷ 46 ∷ 99 ∷ 104 ∷ 97 ∷ 110 ∷ 103 ∷ 101 ∷ 100 ∷ 32 ∷ 105 ∷ 115 ∷ 32 ∷ 117 ∷ 110 ∷ 100 ∷ 101 ∷ 102 ∷ 105 ∷ 110 ∷ 101 ∷ 100 ∷ 32 ∷ 125 ∷ 125 ∷ []) ≡ Some (negation (defined (variable (codes "opq")) ((codes "changed") ∷ [])))
text_2806 = refl

text_2807 : template_of (123 ∷ 123 ∷ 32 ∷ 111 ∷ 112 ∷ 113 ∷ 46 ∷ 99 ∷ 104 ∷ 97 ∷ 110 ∷ 103 ∷ 101 ∷ 100 ∷ 32 ∷ 125 ∷ 125 ∷ []) ≡ Some (path (variable (codes "opq")) ((codes "changed") ∷ []))
text_2807 = refl

text_2808 : template_of (123 ∷ 123 ∷ 32 ∷ 111 ∷ 112 ∷ 113 ∷ 46 ∷ 104 ∷ 111 ∷ 115 ∷ 116 ∷ 110 ∷ 97 ∷ 109 ∷ 101 ∷ 32 ∷ 124 ∷ 32 ∷ 108 ∷ 101 ∷ 110 ∷ 103 ∷ 116 ∷ 104 ∷ 32 ∷ 125 ∷ 125 ∷ []) ≡ Some (length_of (path (variable (codes "opq")) ((codes "hostname") ∷ [])))
text_2808 = refl

text_2809 : template_of (123 ∷ 123 ∷ 32 ∷ 111 ∷ 112 ∷ 113 ∷ 46 ∷ 107 ∷ 32 ∷ 125 ∷ 125 ∷ []) ≡ Some (path (variable (codes "opq")) ((codes "k") ∷ []))
text_2809 = refl

text_2810 : template_of (123 ∷ 123 ∷ 32 ∷ 111 ∷ 112 ∷ 113 ∷ 46 ∷ 114 ∷ 101 ∷ 115 ∷ 117 ∷ 108 ∷ 116 ∷ 115 ∷ 32 ∷ 105 ∷ 115 ∷ 32 ∷ 110 ∷ 111 ∷ 116 ∷ 32 ∷ 115 ∷ 107 ∷ 105 ∷ 112 ∷ 112 ∷ 101 ∷ 100 ∷ 32 ∷ 125 ∷ 125 ∷ []) ≡ Some (negation (path_status is_skipped (variable (codes "opq")) ((codes "results") ∷ [])))
text_2810 = refl

text_2811 : template_of (123 ∷ 123 ∷ 32 ∷ 111 ∷ 112 ∷ 113 ∷ 46 ∷ 114 ∷ 101 ∷ 115 ∷ 117 ∷ 108 ∷ 116 ∷ 115 ∷ 32 ∷ 125 ∷ 125 ∷ []) ≡ Some (path (variable (codes "opq")) ((codes "results") ∷ []))
text_2811 = refl

text_2812 : template_of (123 ∷ 123 ∷ 32 ∷ 111 ∷ 112 ∷ 113 ∷ 46 ∷ 115 ∷ 116 ∷ 100 ∷ 111 ∷ 117 ∷ 116 ∷ 32 ∷ 125 ∷ 125 ∷ []) ≡ Some (path (variable (codes "opq")) ((codes "stdout") ∷ []))
text_2812 = refl

text_2813 : template_of (123 ∷ 123 ∷ 32 ∷ 111 ∷ 112 ∷ 113 ∷ 46 ∷ 115 ∷ 116 ∷ 100 ∷ 111 ∷ 117 ∷ 116 ∷ 95 ∷ 108 ∷ 105 ∷ 110 ∷ 101 ∷ 115 ∷ 32 ∷ 125 ∷ 125 ∷ []) ≡ Some (path (variable (codes "opq")) ((codes "stdout_lines") ∷ []))
text_2813 = refl

text_2814 : template_of (123 ∷ 123 ∷ 32 ∷ 111 ∷ 117 ∷ 116 ∷ 32 ∷ 105 ∷ 115 ∷ 32 ∷ 115 ∷ 107 ∷ 105 ∷ 112 ∷ 112 ∷ 101 ∷ 100 ∷ 32 ∷ 111 ∷ 114 ∷ 32 ∷ 111 ∷ 117 ∷ 116 ∷ 46 ∷ 114 ∷ 99 ∷ 32 ∷ 61 ∷ 61 ∷ 32 ∷ 48 ∷ 32 ∷ 125 ∷ 125 ∷ []) ≡ Some (disjunction (expression (path_status is_skipped (variable (codes "out")) ([])) (expression (comparison equal (path (variable (codes "out")) ((codes "rc") ∷ [])) (literal (int (pos 0)))) (no_expressions))))
text_2814 = refl

text_2815 : template_of (123 ∷ 123 ∷ 32 ∷ 111 ∷ 117 ∷ 116 ∷ 46 ∷ 109 ∷ 115 ∷ 103 ∷ 32 ∷ 125 ∷ 125 ∷ []) ≡ Some (path (variable (codes "out")) ((codes "msg") ∷ []))
text_2815 = refl

text_2816 : template_of (123 ∷ 123 ∷ 32 ∷ 111 ∷ 117 ∷ 116 ∷ 46 ∷ 114 ∷ 99 ∷ 32 ∷ 125 ∷ 125 ∷ []) ≡ Some (path (variable (codes "out")) ((codes "rc") ∷ []))
text_2816 = refl

text_2817 : template_of (123 ∷ 123 ∷ 32 ∷ 111 ∷ 117 ∷ 116 ∷ 46 ∷ 114 ∷ 99 ∷ 32 ∷ 125 ∷ 125 ∷ 120 ∷ []) ≡ Some (concatenation (expression (path (variable (codes "out")) ((codes "rc") ∷ [])) (expression (literal (text (codes "x"))) (no_expressions))))
text_2817 = refl

text_2818 : template_of (123 ∷ 123 ∷ 32 ∷ 111 ∷ 117 ∷ 116 ∷ 46 ∷ 114 ∷ 101 ∷ 115 ∷ 117 ∷ 108 ∷ 116 ∷ 115 ∷ 32 ∷ 125 ∷ 125 ∷ []) ≡ Some (path (variable (codes "out")) ((codes "results") ∷ []))
text_2818 = refl

text_2819 : template_of (123 ∷ 123 ∷ 32 ∷ 111 ∷ 117 ∷ 116 ∷ 46 ∷ 115 ∷ 116 ∷ 100 ∷ 111 ∷ 117 ∷ 116 ∷ 32 ∷ 125 ∷ 125 ∷ []) ≡ Some (path (variable (codes "out")) ((codes "stdout") ∷ []))
text_2819 = refl

text_2820 : template_of (123 ∷ 123 ∷ 32 ∷ 114 ∷ 32 ∷ 124 ∷ 32 ∷ 108 ∷ 101 ∷ 110 ∷ 103 ∷ 116 ∷ 104 ∷ 32 ∷ 125 ∷ 125 ∷ []) ≡ Some (length_of (path (variable (codes "r")) ([])))
text_2820 = refl

text_2821 : template_of (123 ∷ 123 ∷ 32 ∷ 114 ∷ 46 ∷ 99 ∷ 104 ∷ 97 ∷ 110 ∷ 103 ∷ 101 ∷ 100 ∷ 32 ∷ 61 ∷ 61 ∷ 32 ∷ 49 ∷ 32 ∷ 125 ∷ 125 ∷ []) ≡ Some (comparison equal (path (variable (codes "r")) ((codes "changed") ∷ [])) (literal (int (pos 1))))
text_2821 = refl

text_2822 : template_of (123 ∷ 123 ∷ 32 ∷ 114 ∷ 46 ∷ 99 ∷ 104 ∷ 97 ∷ 110 ∷ 103 ∷ 101 ∷ 100 ∷ 32 ∷ 124 ∷ 32 ∷ 108 ∷ 101 ∷ 110 ∷ 103 ∷ 116 ∷ 104 ∷ 32 ∷ 125 ∷ 125 ∷ []) ≡ Some (length_of (path (variable (codes "r")) ((codes "changed") ∷ [])))
text_2822 = refl

text_2823 : template_of (123 ∷ 123 ∷ 32 ∷ 114 ∷ 46 ∷ 99 ∷ 104 ∷ 97 ∷ 110 ∷ 103 ∷ 101 ∷ 100 ∷ 32 ∷ 125 ∷ 125 ∷ []) ≡ Some (path (variable (codes "r")) ((codes "changed") ∷ []))
text_2823 = refl

text_2824 : template_of (123 ∷ 123 ∷ 32 ∷ 114 ∷ 46 ∷ 102 ∷ 97 ∷ 105 ∷ 108 ∷ 101 ∷ 100 ∷ 32 ∷ 105 ∷ 115 ∷ 32 ∷ 102 ∷ 97 ∷ 105 ∷ 108 ∷ 101 ∷ 100 ∷ 32 ∷ 125 ∷ 125 ∷ []) ≡ Some (path_status is_failed (variable (codes "r")) ((codes "failed") ∷ []))
text_2824 = refl

text_2825 : template_of (123 ∷ 123 ∷ 32 ∷ 114 ∷ 46 ∷ 102 ∷ 97 ∷ 105 ∷ 108 ∷ 101 ∷ 100 ∷ 32 ∷ 124 ∷ 32 ∷ 100 ∷ 101 ∷ 102 ∷ 97 ∷ 117 ∷ 108 ∷ 116 ∷ 40 ∷ 91 ∷ 93 ∷ 41 ∷ 32 ∷ 125 ∷ 125 ∷ []) ≡ Some (path_or (variable (codes "r")) ((codes "failed") ∷ []) (list_of (no_expressions)))
text_2825 = refl

text_2826 : template_of (123 ∷ 123 ∷ 32 ∷ 114 ∷ 46 ∷ 102 ∷ 97 ∷ 105 ∷ 108 ∷ 101 ∷ 100 ∷ 32 ∷ 124 ∷ 32 ∷ 108 ∷ 101 ∷ 110 ∷ 103 ∷ 116 ∷ 104 ∷ 32 ∷ 125 ∷ 125 ∷ []) ≡ Some (length_of (path (variable (codes "r")) ((codes "failed") ∷ [])))
text_2826 = refl

text_2827 : template_of (123 ∷ 123 ∷ 32 ∷ 114 ∷ 46 ∷ 102 ∷ 97 ∷ 105 ∷ 108 ∷ 101 ∷ 100 ∷ 32 ∷ 125 ∷ 125 ∷ []) ≡ Some (path (variable (codes "r")) ((codes "failed") ∷ []))
text_2827 = refl

text_2828 : template_of (123 ∷ 123 ∷ 32 ∷ 114 ∷ 46 ∷ 104 ∷ 111 ∷ 115 ∷ 116 ∷ 110 ∷ 97 ∷ 109 ∷ 101 ∷ 32 ∷ 125 ∷ 125 ∷ []) ≡ Some (path (variable (codes "r")) ((codes "hostname") ∷ []))
text_2828 = refl

text_2829 : template_of (123 ∷ 123 ∷ 32 ∷ 114 ∷ 46 ∷ 114 ∷ 99 ∷ 32 ∷ 105 ∷ 115 ∷ 32 ∷ 99 ∷ 104 ∷ 97 ∷ 110 ∷ 103 ∷ 101 ∷ 100 ∷ 32 ∷ 125 ∷ 125 ∷ []) ≡ Some (path_status is_changed (variable (codes "r")) ((codes "rc") ∷ []))
text_2829 = refl

text_2830 : template_of (123 ∷ 123 ∷ 32 ∷ 114 ∷ 46 ∷ 114 ∷ 99 ∷ 32 ∷ 105 ∷ 115 ∷ 32 ∷ 115 ∷ 117 ∷ 99 ∷ 99 ∷ 101 ∷ 101 ∷ 100 ∷ 101 ∷ 100 ∷ 32 ∷ 125 ∷ 125 ∷ []) ≡ Some (negation (path_status is_failed (variable (codes "r")) ((codes "rc") ∷ [])))
text_2830 = refl

text_2831 : template_of (123 ∷ 123 ∷ 32 ∷ 114 ∷ 46 ∷ 114 ∷ 99 ∷ 32 ∷ 124 ∷ 32 ∷ 100 ∷ 101 ∷ 102 ∷ 97 ∷ 117 ∷ 108 ∷ 116 ∷ 40 ∷ 103 ∷ 114 ∷ 111 ∷ 117 ∷ 112 ∷ 95 ∷ 110 ∷ 97 ∷ 109 ∷ 101 ∷ 115 ∷ 41 ∷ 32 ∷ 125 ∷ 125 ∷ []) ≡ Some (path_or (variable (codes "r")) ((codes "rc") ∷ []) (path (variable (codes "group_names")) ([])))
text_2831 = refl

text_2832 : template_of (123 ∷ 123 ∷ 32 ∷ 114 ∷ 46 ∷ 114 ∷ 99 ∷ 32 ∷ 124 ∷ 32 ∷ 100 ∷ 101 ∷ 102 ∷ 97 ∷ 117 ∷ 108 ∷ 116 ∷ 40 ∷ 114 ∷ 46 ∷ 102 ∷ 97 ∷ 105 ∷ 108 ∷ 101 ∷ 100 ∷ 41 ∷ 32 ∷ 125 ∷ 125 ∷ []) ≡ Some (path_or (variable (codes "r")) ((codes "rc") ∷ []) (path (variable (codes "r")) ((codes "failed") ∷ [])))
text_2832 = refl

text_2833 : template_of (123 ∷ 123 ∷ 32 ∷ 114 ∷ 46 ∷ 114 ∷ 99 ∷ 32 ∷ 124 ∷ 32 ∷ 100 ∷ 101 ∷ 102 ∷ 97 ∷ 117 ∷ 108 ∷ 116 ∷ 40 ∷ 118 ∷ 49 ∷ 46 ∷ 109 ∷ 115 ∷ 103 ∷ 41 ∷ 32 ∷ 125 ∷ 125 ∷ []) ≡ Some (path_or (variable (codes "r")) ((codes "rc") ∷ []) (path (variable (codes "v1")) ((codes "msg") ∷ [])))
text_2833 = refl

text_2834 : template_of (123 ∷ 123 ∷ 32 ∷ 114 ∷ 46 ∷ 114 ∷ 99 ∷ 32 ∷ 124 ∷ 32 ∷ 108 ∷ 101 ∷ 110 ∷ 103 ∷ 116 ∷ 104 ∷ 32 ∷ 125 ∷ 125 ∷ []) ≡ Some (length_of (path (variable (codes "r")) ((codes "rc") ∷ [])))
text_2834 = refl

text_2835 : template_of (123 ∷ 123 ∷ 32 ∷ 114 ∷ 46 ∷ 114 ∷ 99 ∷ 32 ∷ 125 ∷ 125 ∷ []) ≡ Some (path (variable (codes "r")) ((codes "rc") ∷ []))
text_2835 = refl

text_2836 : template_of (123 ∷ 123 ∷ 32 ∷ 114 ∷ 46 ∷ 114 ∷ 101 ∷ 115 ∷ 117 ∷ 108 ∷ 116 ∷ 115 ∷ 32 ∷ 124 ∷ 32 ∷ 100 ∷ 101 ∷ 102 ∷ 97 ∷ 117 ∷ 108 ∷ 116 ∷ 40 ∷ 91 ∷ 93 ∷ 41 ∷ 32 ∷ 125 ∷ 125 ∷ []) ≡ Some (path_or (variable (codes "r")) ((codes "results") ∷ []) (list_of (no_expressions)))
text_2836 = refl

text_2837 : template_of (123 ∷ 123 ∷ 32 ∷ 114 ∷ 46 ∷ 114 ∷ 101 ∷ 115 ∷ 117 ∷ 108 ∷ 116 ∷ 115 ∷ 32 ∷ 124 ∷ 32 ∷ 100 ∷ 101 ∷ 102 ∷ 97 ∷ 117 ∷ 108 ∷ 116 ∷ 40 ∷ 97 ∷ 110 ∷ 115 ∷ 105 ∷ 98 ∷ 108 ∷ 101 ∷ 95 ∷ 102 ∷ 97 ∷ 99 ∷ 116 ∷ 115 ∷ 46 ∷ 115 ∷ 116 ∷ 97 ∷ 116 ∷ 46 ∷ 105 ∷ 115 ∷ 100 ∷ 105 ∷ 114 ∷ 41 ∷ 32 ∷ 125 ∷ 125 ∷ []) ≡ Some (path_or (variable (codes "r")) ((codes "results") ∷ []) (path (variable (codes "ansible_facts")) ((codes "stat") ∷ (codes "isdir") ∷ [])))
text_2837 = refl

text_2838 : template_of (123 ∷ 123 ∷ 32 ∷ 114 ∷ 46 ∷ 114 ∷ 101 ∷ 115 ∷ 117 ∷ 108 ∷ 116 ∷ 115 ∷ 32 ∷ 124 ∷ 32 ∷ 108 ∷ 101 ∷ 110 ∷ 103 ∷ 116 ∷ 104 ∷ 32 ∷ 125 ∷ 125 ∷ []) ≡ Some (length_of (path (variable (codes "r")) ((codes "results") ∷ [])))
text_2838 = refl

text_2839 : template_of (123 ∷ 123 ∷ 32 ∷ 114 ∷ 46 ∷ 114 ∷ 101 ∷ 115 ∷ 117 ∷ 108 ∷ 116 ∷ 115 ∷ 32 ∷ 125 ∷ 125 ∷ []) ≡ Some (path (variable (codes "r")) ((codes "results") ∷ []))
text_2839 = refl

text_2840 : template_of (123 ∷ 123 ∷ 32 ∷ 114 ∷ 46 ∷ 115 ∷ 116 ∷ 97 ∷ 116 ∷ 46 ∷ 105 ∷ 115 ∷ 100 ∷ 105 ∷ 114 ∷ 32 ∷ 124 ∷ 32 ∷ 108 ∷ 101 ∷ 110 ∷ 103 ∷ 116 ∷ 104 ∷ 32 ∷ 125 ∷ 125 ∷ []) ≡ Some (length_of (path (variable (codes "r")) ((codes "stat") ∷ (codes "isdir") ∷ [])))
text_2840 = refl

text_2841 : template_of (123 ∷ 123 ∷ 32 ∷ 114 ∷ 46 ∷ 115 ∷ 116 ∷ 100 ∷ 111 ∷ 117 ∷ 116 ∷ 32 ∷ 105 ∷ 115 ∷ 32 ∷ 115 ∷ 107 ∷ 105 ∷ 112 ∷ 112 ∷ 101 ∷ 100 ∷ 32 ∷ 125 ∷ 125 ∷ []) ≡ Some (path_status is_skipped (variable (codes "r")) ((codes "stdout") ∷ []))
text_2841 = refl

text_2842 : template_of (123 ∷ 123 ∷ 32 ∷ 114 ∷ 46 ∷ 115 ∷ 116 ∷ 100 ∷ 111 ∷ 117 ∷ 116 ∷ 32 ∷ 105 ∷ 115 ∷ 32 ∷ 117 ∷ 110 ∷ 100 ∷ 101 ∷ 102 ∷ 105 ∷ 110 ∷ 101 ∷ 100 ∷ 32 ∷ 125 ∷ 125 ∷ []) ≡ Some (negation (defined (variable (codes "r")) ((codes "stdout") ∷ [])))
text_2842 = refl

text_2843 : template_of (123 ∷ 123 ∷ 32 ∷ 114 ∷ 46 ∷ 115 ∷ 116 ∷ 100 ∷ 111 ∷ 117 ∷ 116 ∷ 32 ∷ 124 ∷ 32 ∷ 100 ∷ 101 ∷ 102 ∷ 97 ∷ 117 ∷ 108 ∷ 116 ∷ 40 ∷ 91 ∷ 93 ∷ 41 ∷ 32 ∷ 125 ∷ 125 ∷ []) ≡ Some (path_or (variable (codes "r")) ((codes "stdout") ∷ []) (list_of (no_expressions)))
text_2843 = refl

text_2844 : template_of (123 ∷ 123 ∷ 32 ∷ 114 ∷ 46 ∷ 115 ∷ 116 ∷ 100 ∷ 111 ∷ 117 ∷ 116 ∷ 32 ∷ 124 ∷ 32 ∷ 108 ∷ 101 ∷ 110 ∷ 103 ∷ 116 ∷ 104 ∷ 32 ∷ 125 ∷ 125 ∷ []) ≡ Some (length_of (path (variable (codes "r")) ((codes "stdout") ∷ [])))
text_2844 = refl

text_2845 : template_of (123 ∷ 123 ∷ 32 ∷ 114 ∷ 46 ∷ 115 ∷ 116 ∷ 100 ∷ 111 ∷ 117 ∷ 116 ∷ 32 ∷ 125 ∷ 125 ∷ []) ≡ Some (path (variable (codes "r")) ((codes "stdout") ∷ []))
text_2845 = refl

text_2846 : template_of (123 ∷ 123 ∷ 32 ∷ 114 ∷ 46 ∷ 115 ∷ 116 ∷ 100 ∷ 111 ∷ 117 ∷ 116 ∷ 95 ∷ 108 ∷ 105 ∷ 110 ∷ 101 ∷ 115 ∷ 32 ∷ 124 ∷ 32 ∷ 108 ∷ 101 ∷ 110 ∷ 103 ∷ 116 ∷ 104 ∷ 32 ∷ 125 ∷ 125 ∷ []) ≡ Some (length_of (path (variable (codes "r")) ((codes "stdout_lines") ∷ [])))
text_2846 = refl

text_2847 : template_of (123 ∷ 123 ∷ 32 ∷ 114 ∷ 46 ∷ 115 ∷ 116 ∷ 100 ∷ 111 ∷ 117 ∷ 116 ∷ 95 ∷ 108 ∷ 105 ∷ 110 ∷ 101 ∷ 115 ∷ 32 ∷ 125 ∷ 125 ∷ []) ≡ Some (path (variable (codes "r")) ((codes "stdout_lines") ∷ []))
text_2847 = refl

text_2848 : template_of (123 ∷ 123 ∷ 32 ∷ 114 ∷ 49 ∷ 32 ∷ 124 ∷ 32 ∷ 100 ∷ 101 ∷ 102 ∷ 97 ∷ 117 ∷ 108 ∷ 116 ∷ 40 ∷ 49 ∷ 41 ∷ 32 ∷ 125 ∷ 125 ∷ []) ≡ Some (path_or (variable (codes "r1")) ([]) (literal (int (pos 1))))
text_2848 = refl

text_2849 : template_of (123 ∷ 123 ∷ 32 ∷ 114 ∷ 49 ∷ 32 ∷ 124 ∷ 32 ∷ 100 ∷ 101 ∷ 102 ∷ 97 ∷ 117 ∷ 108 ∷ 116 ∷ 40 ∷ 91 ∷ 93 ∷ 41 ∷ 32 ∷ 125 ∷ 125 ∷ []) ≡ Some (path_or (variable (codes "r1")) ([]) (list_of (no_expressions)))
text_2849 = refl

text_2850 : template_of (123 ∷ 123 ∷ 32 ∷ 114 ∷ 49 ∷ 32 ∷ 124 ∷ 32 ∷ 100 ∷ 101 ∷ 102 ∷ 97 ∷ 117 ∷ 108 ∷ 116 ∷ 40 ∷ 115 ∷ 49 ∷ 41 ∷ 32 ∷ 125 ∷ 125 ∷ []) ≡ Some (path_or (variable (codes "r1")) ([]) (path (variable (codes "s1")) ([])))
text_2850 = refl

text_2851 : template_of (123 ∷ 123 ∷ 32 ∷ 114 ∷ 49 ∷ 32 ∷ 124 ∷ 32 ∷ 108 ∷ 101 ∷ 110 ∷ 103 ∷ 116 ∷ 104 ∷ 32 ∷ 125 ∷ 125 ∷ []) ≡ Some (length_of (path (variable (codes "r1")) ([])))
text_2851 = refl

text_2852 : template_of (123 ∷ 123 ∷ 32 ∷ 114 ∷ 49 ∷ 32 ∷ 125 ∷ 125 ∷ []) ≡ Some (path (variable (codes "r1")) ([]))
text_2852 = refl

text_2853 : template_of (123 ∷ 123 ∷ 32 ∷ 114 ∷ 49 ∷ 46 ∷ 97 ∷ 110 ∷ 115 ∷ 105 ∷ 98 ∷ 108 ∷ 101 ∷ 95 ∷ 102 ∷ 97 ∷ 99 ∷ 116 ∷ 115 ∷ 46 ∷ 97 ∷ 110 ∷ 115 ∷ 105 ∷ 98 ∷ 108 ∷ 101 ∷ 95 ∷ 104 ∷ 111 ∷ 115 ∷ 116 ∷ 110 ∷ 97 ∷ 109 ∷ 101 ∷ 32 ∷ 124 ∷ 32 ∷ 100 ∷ 101 ∷ 102 ∷ 97 ∷ 117 ∷ 108 ∷ 116 ∷ 40 ∷ 49 ∷ 41 ∷ 32 ∷ 125 ∷ 125 ∷ []) ≡ Some (path_or (variable (codes "r1")) ((codes "ansible_facts") ∷ (codes "ansible_hostname") ∷ []) (literal (int (pos 1))))
text_2853 = refl

text_2854 : template_of (123 ∷ 123 ∷ 32 ∷ 114 ∷ 49 ∷ 46 ∷ 97 ∷ 110 ∷ 115 ∷ 105 ∷ 98 ∷ 108 ∷ 101 ∷ 95 ∷ 102 ∷ 97 ∷ 99 ∷ 116 ∷ 115 ∷ 46 ∷ 97 ∷ 110 ∷ 115 ∷ 105 ∷ 98 ∷ 108 ∷ 101 ∷ 95 ∷ 104 ∷ 111 ∷ 115 ∷ 116 ∷ 110 ∷ 97 ∷ 109 ∷ 101 ∷ 32 ∷ 125 ∷ 125 ∷ []) ≡ Some (path (variable (codes "r1")) ((codes "ansible_facts") ∷ (codes "ansible_hostname") ∷ []))
text_2854 = refl

text_2855 : template_of (123 ∷ 123 ∷ 32 ∷ 114 ∷ 49 ∷ 46 ∷ 97 ∷ 110 ∷ 115 ∷ 105 ∷ 98 ∷ 108 ∷ 101 ∷ 95 ∷ 102 ∷ 97 ∷ 99 ∷ 116 ∷ 115 ∷ 46 ∷ 97 ∷ 110 ∷ 115 ∷ 105 ∷ 98 ∷ 108 ∷ 101 ∷ 95 ∷ 111 ∷ 115 ∷ 95 ∷ 102 ∷ 97 ∷ 109 ∷ 105 ∷ 108 ∷ 121 ∷ 32 ∷ 125 ∷ 125 ∷ []) ≡ Some (path (variable (codes "r1")) ((codes "ansible_facts") ∷ (codes "ansible_os_family") ∷ []))
text_2855 = refl

text_2856 : template_of (123 ∷ 123 ∷ 32 ∷ 114 ∷ 49 ∷ 46 ∷ 99 ∷ 104 ∷ 97 ∷ 110 ∷ 103 ∷ 101 ∷ 100 ∷ 32 ∷ 124 ∷ 32 ∷ 100 ∷ 101 ∷ 102 ∷ 97 ∷ 117 ∷ 108 ∷ 116 ∷ 40 ∷ 49 ∷ 41 ∷ 32 ∷ 125 ∷ 125 ∷ []) ≡ Some (path_or (variable (codes "r1")) ((codes "changed") ∷ []) (literal (int (pos 1))))
text_2856 = refl

text_2857 : template_of (123 ∷ 123 ∷ 32 ∷ 114 ∷ 49 ∷ 46 ∷ 99 ∷ 104 ∷ 97 ∷ 110 ∷ 103 ∷ 101 ∷ 100 ∷ 32 ∷ 124 ∷ 32 ∷ 100 ∷ 101 ∷ 102 ∷ 97 ∷ 117 ∷ 108 ∷ 116 ∷ 40 ∷ 91 ∷ 93 ∷ 41 ∷ 32 ∷ 125 ∷ 125 ∷ []) ≡ Some (path_or (variable (codes "r1")) ((codes "changed") ∷ []) (list_of (no_expressions)))
text_2857 = refl

text_2858 : template_of (123 ∷ 123 ∷ 32 ∷ 114 ∷ 49 ∷ 46 ∷ 99 ∷ 104 ∷ 97 ∷ 110 ∷ 103 ∷ 101 ∷ 100 ∷ 32 ∷ 124 ∷ 32 ∷ 100 ∷ 101 ∷ 102 ∷ 97 ∷ 117 ∷ 108 ∷ 116 ∷ 40 ∷ 115 ∷ 49 ∷ 41 ∷ 32 ∷ 125 ∷ 125 ∷ []) ≡ Some (path_or (variable (codes "r1")) ((codes "changed") ∷ []) (path (variable (codes "s1")) ([])))
text_2858 = refl

text_2859 : template_of (123 ∷ 123 ∷ 32 ∷ 114 ∷ 49 ∷ 46 ∷ 99 ∷ 104 ∷ 97 ∷ 110 ∷ 103 ∷ 101 ∷ 100 ∷ 32 ∷ 124 ∷ 32 ∷ 108 ∷ 101 ∷ 110 ∷ 103 ∷ 116 ∷ 104 ∷ 32 ∷ 125 ∷ 125 ∷ []) ≡ Some (length_of (path (variable (codes "r1")) ((codes "changed") ∷ [])))
text_2859 = refl

text_2860 : template_of (123 ∷ 123 ∷ 32 ∷ 114 ∷ 49 ∷ 46 ∷ 99 ∷ 104 ∷ 97 ∷ 110 ∷ 103 ∷ 101 ∷ 100 ∷ 32 ∷ 125 ∷ 125 ∷ []) ≡ Some (path (variable (codes "r1")) ((codes "changed") ∷ []))
text_2860 = refl

text_2861 : template_of (123 ∷ 123 ∷ 32 ∷ 114 ∷ 49 ∷ 46 ∷ 100 ∷ 101 ∷ 101 ∷ 112 ∷ 32 ∷ 124 ∷ 32 ∷ 100 ∷ 101 ∷ 102 ∷ 97 ∷ 117 ∷ 108 ∷ 116 ∷ 40 ∷ 115 ∷ 49 ∷ 41 ∷ 32 ∷ 125 ∷ 125 ∷ []) ≡ Some (path_or (variable (codes "r1")) ((codes "deep") ∷ []) (path (variable (codes "s1")) ([])))
text_2861 = refl

text_2862 : template_of (123 ∷ 123 ∷ 32 ∷ 114 ∷ 49 ∷ 46 ∷ 100 ∷ 101 ∷ 101 ∷ 112 ∷ 32 ∷ 125 ∷ 125 ∷ []) ≡ Some (path (variable (codes "r1")) ((codes "deep") ∷ []))
text_2862 = refl

text_2863 : template_of (123 ∷ 123 ∷ 32 ∷ 114 ∷ 49 ∷ 46 ∷ 100 ∷ 101 ∷ 101 ∷ 112 ∷ 46 ∷ 97 ∷ 32 ∷ 124 ∷ 32 ∷ 100 ∷ 101 ∷ 102 ∷ 97 ∷ 117 ∷ 108 ∷ 116 ∷ 40 ∷ 49 ∷ 41 ∷ 32 ∷ 125 ∷ 125 ∷ []) ≡ Some (path_or (variable (codes "r1")) ((codes "deep") ∷ (codes "a") ∷ []) (literal (int (pos 1))))
text_2863 = refl

text_2864 : template_of (123 ∷ 123 ∷ 32 ∷ 114 ∷ 49 ∷ 46 ∷ 100 ∷ 101 ∷ 101 ∷ 112 ∷ 46 ∷ 97 ∷ 32 ∷ 125 ∷ 125 ∷ []) ≡ Some (path (variable (codes "r1")) ((codes "deep") ∷ (codes "a") ∷ []))
text_2864 = refl

text_2865 : template_of (123 ∷ 123 ∷ 32 ∷ 114 ∷ 49 ∷ 46 ∷ 100 ∷ 101 ∷ 101 ∷ 112 ∷ 46 ∷ 98 ∷ 32 ∷ 125 ∷ 125 ∷ []) ≡ Some (path (variable (codes "r1")) ((codes "deep") ∷ (codes "b") ∷ []))
text_2865 = refl

text_2866 : template_of (123 ∷ 123 ∷ 32 ∷ 114 ∷ 49 ∷ 46 ∷ 102 ∷ 97 ∷ 105 ∷ 108 ∷ 101 ∷ 100 ∷ 32 ∷ 97 ∷ 110 ∷ 100 ∷ 32 ∷ 114 ∷ 49 ∷ 46 ∷ 99 ∷ 104 ∷ 97 ∷ 110 ∷ 103 ∷ 101 ∷ 100 ∷ 32 ∷ 125 ∷ 125 ∷ []) ≡ Some (conjunction (expression (path (variable (codes "r1")) ((codes "failed") ∷ [])) (expression (path (variable (codes "r1")) ((codes "changed") ∷ [])) (no_expressions))))
text_2866 = refl

text_2867 : template_of (123 ∷ 123 ∷ 32 ∷ 114 ∷ 49 ∷ 46 ∷ 102 ∷ 97 ∷ 105 ∷ 108 ∷ 101 ∷ 100 ∷ 32 ∷ 124 ∷ 32 ∷ 100 ∷ 101 ∷ 102 ∷ 97 ∷ 117 ∷ 108 ∷ 116 ∷ 40 ∷ 49 ∷ 41 ∷ 32 ∷ 125 ∷ 125 ∷ []) ≡ Some (path_or (variable (codes "r1")) ((codes "failed") ∷ []) (literal (int (pos 1))))
text_2867 = refl

text_2868 : template_of (123 ∷ 123 ∷ 32 ∷ 114 ∷ 49 ∷ 46 ∷ 102 ∷ 97 ∷ 105 ∷ 108 ∷ 101 ∷ 100 ∷ 32 ∷ 124 ∷ 32 ∷ 100 ∷ 101 ∷ 102 ∷ 97 ∷ 117 ∷ 108 ∷ 116 ∷ 40 ∷ 91 ∷ 93 ∷ 41 ∷ 32 ∷ 125 ∷ 125 ∷ []) ≡ Some (path_or (variable (codes "r1")) ((codes "failed") ∷ []) (list_of (no_expressions)))
text_2868 = refl

text_2869 : template_of (123 ∷ 123 ∷ 32 ∷ 114 ∷ 49 ∷ 46 ∷ 102 ∷ 97 ∷ 105 ∷ 108 ∷ 101 ∷ 100 ∷ 32 ∷ 124 ∷ 32 ∷ 100 ∷ 101 ∷ 102 ∷ 97 ∷ 117 ∷ 108 ∷ 116 ∷ 40 ∷ 115 ∷ 49 ∷ 41 ∷ 32 ∷ 125 ∷ 125 ∷ []) ≡ Some (path_or (variable (codes "r1")) ((codes "failed") ∷ []) (path (variable (codes "s1")) ([])))
text_2869 = refl

text_2870 : template_of (123 ∷ 123 ∷ 32 ∷ 114 ∷ 49 ∷ 46 ∷ 102 ∷ 97 ∷ 105 ∷ 108 ∷ 101 ∷ 100 ∷ 32 ∷ 124 ∷ 32 ∷ 108 ∷ 101 ∷ 110 ∷ 103 ∷ 116 ∷ 104 ∷ 32 ∷ 125 ∷ 125 ∷ []) ≡ Some (length_of (path (variable (codes "r1")) ((codes "failed") ∷ [])))
text_2870 = refl

text_2871 : template_of (123 ∷ 123 ∷ 32 ∷ 114 ∷ 49 ∷ 46 ∷ 102 ∷ 97 ∷ 105 ∷ 108 ∷ 101 ∷ 100 ∷ 32 ∷ 125 ∷ 125 ∷ []) ≡ Some (path (variable (codes "r1")) ((codes "failed") ∷ []))
text_2871 = refl

text_2872 : template_of (123 ∷ 123 ∷ 32 ∷ 114 ∷ 49 ∷ 46 ∷ 103 ∷ 32 ∷ 125 ∷ 125 ∷ []) ≡ Some (path (variable (codes "r1")) ((codes "g") ∷ []))
text_2872 = refl

text_2873 : template_of (123 ∷ 123 ∷ 32 ∷ 114 ∷ 49 ∷ 46 ∷ 109 ∷ 115 ∷ 103 ∷ 32 ∷ 124 ∷ 32 ∷ 100 ∷ 101 ∷ 102 ∷ 97 ∷ 117 ∷ 108 ∷ 116 ∷ 40 ∷ 49 ∷ 41 ∷ 32 ∷ 125 ∷ 125 ∷ []) ≡ Some (path_or (variable (codes "r1")) ((codes "msg") ∷ []) (literal (int (pos 1))))
text_2873 = refl

text_2874 : template_of (123 ∷ 123 ∷ 32 ∷ 114 ∷ 49 ∷ 46 ∷ 109 ∷ 115 ∷ 103 ∷ 32 ∷ 124 ∷ 32 ∷ 100 ∷ 101 ∷ 102 ∷ 97 ∷ 117 ∷ 108 ∷ 116 ∷ 40 ∷ 91 ∷ 93 ∷ 41 ∷ 32 ∷ 125 ∷ 125 ∷ []) ≡ Some (path_or (variable (codes "r1")) ((codes "msg") ∷ []) (list_of (no_expressions)))
text_2874 = refl

text_2875 : template_of (123 ∷ 123 ∷ 32 ∷ 114 ∷ 49 ∷ 46 ∷ 109 ∷ 115 ∷ 103 ∷ 32 ∷ 124 ∷ 32 ∷ 100 ∷ 101 ∷ 102 ∷ 97 ∷ 117 ∷ 108 ∷ 116 ∷ 40 ∷ 115 ∷ 49 ∷ 41 ∷ 32 ∷ 125 ∷ 125 ∷ []) ≡ Some (path_or (variable (codes "r1")) ((codes "msg") ∷ []) (path (variable (codes "s1")) ([])))
text_2875 = refl

text_2876 : template_of (123 ∷ 123 ∷ 32 ∷ 114 ∷ 49 ∷ 46 ∷ 109 ∷ 115 ∷ 103 ∷ 32 ∷ 125 ∷ 125 ∷ []) ≡ Some (path (variable (codes "r1")) ((codes "msg") ∷ []))
text_2876 = refl

text_2877 : template_of (123 ∷ 123 ∷ 32 ∷ 114 ∷ 49 ∷ 46 ∷ 112 ∷ 105 ∷ 110 ∷ 103 ∷ 32 ∷ 124 ∷ 32 ∷ 100 ∷ 101 ∷ 102 ∷ 97 ∷ 117 ∷ 108 ∷ 116 ∷ 40 ∷ 115 ∷ 49 ∷ 41 ∷ 32 ∷ 125 ∷ 125 ∷ []) ≡ Some (path_or (variable (codes "r1")) ((codes "ping") ∷ []) (path (variable (codes "s1")) ([])))
text_2877 = refl

text_2878 : template_of (123 ∷ 123 ∷ 32 ∷ 114 ∷ 49 ∷ 46 ∷ 112 ∷ 105 ∷ 110 ∷ 103 ∷ 32 ∷ 125 ∷ 125 ∷ []) ≡ Some (path (variable (codes "r1")) ((codes "ping") ∷ []))
text_2878 = refl

text_2879 : template_of (123 ∷ 123 ∷ 32 ∷ 114 ∷ 49 ∷ 46 ∷ 114 ∷ 99 ∷ 32 ∷ 124 ∷ 32 ∷ 100 ∷ 101 ∷ 102 ∷ 97 ∷ 117 ∷ 108 ∷ 116 ∷ 40 ∷ 115 ∷ 49 ∷ 41 ∷ 32 ∷ 125 ∷ 125 ∷ []) ≡ Some (path_or (variable (codes "r1")) ((codes "rc") ∷ []) (path (variable (codes "s1")) ([])))
text_2879 = refl

text_2880 : template_of (123 ∷ 123 ∷ 32 ∷ 114 ∷ 49 ∷ 46 ∷ 114 ∷ 99 ∷ 32 ∷ 124 ∷ 32 ∷ 108 ∷ 101 ∷ 110 ∷ 103 ∷ 116 ∷ 104 ∷ 32 ∷ 125 ∷ 125 ∷ []) ≡ Some (length_of (path (variable (codes "r1")) ((codes "rc") ∷ [])))
text_2880 = refl

text_2881 : template_of (123 ∷ 123 ∷ 32 ∷ 114 ∷ 49 ∷ 46 ∷ 114 ∷ 99 ∷ 32 ∷ 125 ∷ 125 ∷ []) ≡ Some (path (variable (codes "r1")) ((codes "rc") ∷ []))
text_2881 = refl

text_2882 : template_of (123 ∷ 123 ∷ 32 ∷ 114 ∷ 49 ∷ 46 ∷ 114 ∷ 101 ∷ 115 ∷ 117 ∷ 108 ∷ 116 ∷ 115 ∷ 32 ∷ 124 ∷ 32 ∷ 100 ∷ 101 ∷ 102 ∷ 97 ∷ 117 ∷ 108 ∷ 116 ∷ 40 ∷ 49 ∷ 41 ∷ 32 ∷ 125 ∷ 125 ∷ []) ≡ Some (path_or (variable (codes "r1")) ((codes "results") ∷ []) (literal (int (pos 1))))
text_2882 = refl

text_2883 : template_of (123 ∷ 123 ∷ 32 ∷ 114 ∷ 49 ∷ 46 ∷ 114 ∷ 101 ∷ 115 ∷ 117 ∷ 108 ∷ 116 ∷ 115 ∷ 32 ∷ 124 ∷ 32 ∷ 100 ∷ 101 ∷ 102 ∷ 97 ∷ 117 ∷ 108 ∷ 116 ∷ 40 ∷ 91 ∷ 93 ∷ 41 ∷ 32 ∷ 125 ∷ 125 ∷ []) ≡ Some (path_or (variable (codes "r1")) ((codes "results") ∷ []) (list_of (no_expressions)))
text_2883 = refl

text_2884 : template_of (123 ∷ 123 ∷ 32 ∷ 114 ∷ 49 ∷ 46 ∷ 114 ∷ 101 ∷ 115 ∷ 117 ∷ 108 ∷ 116 ∷ 115 ∷ 32 ∷ 124 ∷ 32 ∷ 100 ∷ 101 ∷ 102 ∷ 97 ∷ 117 ∷ 108 ∷ 116 ∷ 40 ∷ 115 ∷ 49 ∷ 41 ∷ 32 ∷ 125 ∷ 125 ∷ []) ≡ Some (path_or (variable (codes "r1")) ((codes "results") ∷ []) (path (variable (codes "s1")) ([])))
text_2884 = refl

text_2885 : template_of (123 ∷ 123 ∷ 32 ∷ 114 ∷ 49 ∷ 46 ∷ 114 ∷ 101 ∷ 115 ∷ 117 ∷ 108 ∷ 116 ∷ 115 ∷ 32 ∷ 124 ∷ 32 ∷ 108 ∷ 101 ∷ 110 ∷ 103 ∷ 116 ∷ 104 ∷ 32 ∷ 125 ∷ 125 ∷ []) ≡ Some (length_of (path (variable (codes "r1")) ((codes "results") ∷ [])))
text_2885 = refl

text_2886 : template_of (123 ∷ 123 ∷ 32 ∷ 114 ∷ 49 ∷ 46 ∷ 114 ∷ 101 ∷ 115 ∷ 117 ∷ 108 ∷ 116 ∷ 115 ∷ 32 ∷ 125 ∷ 125 ∷ []) ≡ Some (path (variable (codes "r1")) ((codes "results") ∷ []))
text_2886 = refl

text_2887 : template_of (123 ∷ 123 ∷ 32 ∷ 114 ∷ 49 ∷ 46 ∷ 114 ∷ 111 ∷ 119 ∷ 115 ∷ 32 ∷ 125 ∷ 125 ∷ []) ≡ Some (path (variable (codes "r1")) ((codes "rows") ∷ []))
text_2887 = refl

text_2888 : template_of (123 ∷ 123 ∷ 32 ∷ 114 ∷ 49 ∷ 46 ∷ 115 ∷ 107 ∷ 105 ∷ 112 ∷ 95 ∷ 114 ∷ 101 ∷ 97 ∷ 115 ∷ 111 ∷ 110 ∷ 32 ∷ 124 ∷ 32 ∷ 100 ∷ 101 ∷ 102 ∷ 97 ∷ 117 ∷ 108 ∷ 116 ∷ 40 ∷ 49 ∷ 41 ∷ 32 ∷ 125 ∷ 125 ∷ []) ≡ Some (path_or (variable (codes "r1")) ((codes "skip_reason") ∷ []) (literal (int (pos 1))))
text_2888 = refl

text_2889 : template_of (123 ∷ 123 ∷ 32 ∷ 114 ∷ 49 ∷ 46 ∷ 115 ∷ 107 ∷ 105 ∷ 112 ∷ 95 ∷ 114 ∷ 101 ∷ 97 ∷ 115 ∷ 111 ∷ 110 ∷ 32 ∷ 124 ∷ 32 ∷ 100 ∷ 101 ∷ 102 ∷ 97 ∷ 117 ∷ 108 ∷ 116 ∷ 40 ∷ 91 ∷ 93 ∷ 41 ∷ 32 ∷ 125 ∷ 125 ∷ []) ≡ Some (path_or (variable (codes "r1")) ((codes "skip_reason") ∷ []) (list_of (no_expressions)))
text_2889 = refl

text_2890 : template_of (123 ∷ 123 ∷ 32 ∷ 114 ∷ 49 ∷ 46 ∷ 115 ∷ 107 ∷ 105 ∷ 112 ∷ 95 ∷ 114 ∷ 101 ∷ 97 ∷ 115 ∷ 111 ∷ 110 ∷ 32 ∷ 124 ∷ 32 ∷ 100 ∷ 101 ∷ 102 ∷ 97 ∷ 117 ∷ 108 ∷ 116 ∷ 40 ∷ 115 ∷ 49 ∷ 41 ∷ 32 ∷ 125 ∷ 125 ∷ []) ≡ Some (path_or (variable (codes "r1")) ((codes "skip_reason") ∷ []) (path (variable (codes "s1")) ([])))
text_2890 = refl

text_2891 : template_of (123 ∷ 123 ∷ 32 ∷ 114 ∷ 49 ∷ 46 ∷ 115 ∷ 107 ∷ 105 ∷ 112 ∷ 95 ∷ 114 ∷ 101 ∷ 97 ∷ 115 ∷ 111 ∷ 110 ∷ 32 ∷ 125 ∷ 125 ∷ []) ≡ Some (path (variable (codes "r1")) ((codes "skip_reason") ∷ []))
text_2891 = refl

text_2892 : template_of (123 ∷ 123 ∷ 32 ∷ 114 ∷ 49 ∷ 46 ∷ 115 ∷ 107 ∷ 105 ∷ 112 ∷ 112 ∷ 101 ∷ 100 ∷ 32 ∷ 124 ∷ 32 ∷ 100 ∷ 101 ∷ 102 ∷ 97 ∷ 117 ∷ 108 ∷ 116 ∷ 40 ∷ 49 ∷ 41 ∷ 32 ∷ 125 ∷ 125 ∷ []) ≡ Some (path_or (variable (codes "r1")) ((codes "skipped") ∷ []) (literal (int (pos 1))))
text_2892 = refl

text_2893 : template_of (123 ∷ 123 ∷ 32 ∷ 114 ∷ 49 ∷ 46 ∷ 115 ∷ 107 ∷ 105 ∷ 112 ∷ 112 ∷ 101 ∷ 100 ∷ 32 ∷ 124 ∷ 32 ∷ 100 ∷ 101 ∷ 102 ∷ 97 ∷ 117 ∷ 108 ∷ 116 ∷ 40 ∷ 91 ∷ 93 ∷ 41 ∷ 32 ∷ 125 ∷ 125 ∷ []) ≡ Some (path_or (variable (codes "r1")) ((codes "skipped") ∷ []) (list_of (no_expressions)))
text_2893 = refl

text_2894 : template_of (123 ∷ 123 ∷ 32 ∷ 114 ∷ 49 ∷ 46 ∷ 115 ∷ 107 ∷ 105 ∷ 112 ∷ 112 ∷ 101 ∷ 100 ∷ 32 ∷ 124 ∷ 32 ∷ 108 ∷ 101 ∷ 110 ∷ 103 ∷ 116 ∷ 104 ∷ 32 ∷ 125 ∷ 125 ∷ []) ≡ Some (length_of (path (variable (codes "r1")) ((codes "skipped") ∷ [])))
text_2894 = refl

text_2895 : template_of (123 ∷ 123 ∷ 32 ∷ 114 ∷ 49 ∷ 46 ∷ 115 ∷ 107 ∷ 105 ∷ 112 ∷ 112 ∷ 101 ∷ 100 ∷ 32 ∷ 125 ∷ 125 ∷ []) ≡ Some (path (variable (codes "r1")) ((codes "skipped") ∷ []))
text_2895 = refl

text_2896 : template_of (123 ∷ 123 ∷ 32 ∷ 114 ∷ 49 ∷ 46 ∷ 115 ∷ 116 ∷ 97 ∷ 116 ∷ 32 ∷ 125 ∷ 125 ∷ []) ≡ Some (path (variable (codes "r1")) ((codes "stat") ∷ []))
text_2896 = refl

text_2897 : template_of (123 ∷ 123 ∷ 32 ∷ 114 ∷ 49 ∷ 46 ∷ 115 ∷ 116 ∷ 97 ∷ 116 ∷ 46 ∷ 101 ∷ 120 ∷ 105 ∷ 115 ∷ 116 ∷ 115 ∷ 32 ∷ 124 ∷ 32 ∷ 108 ∷ 101 ∷ 110 ∷ 103 ∷ 116 ∷ 104 ∷ 32 ∷ 125 ∷ 125 ∷ []) ≡ Some (length_of (path (variable (codes "r1")) ((codes "stat") ∷ (codes "exists") ∷ [])))
text_2897 = refl

text_2898 : template_of (123 ∷ 123 ∷ 32 ∷ 114 ∷ 49 ∷ 46 ∷ 115 ∷ 116 ∷ 97 ∷ 116 ∷ 46 ∷ 101 ∷ 120 ∷ 105 ∷ 115 ∷ 116 ∷ 115 ∷ 32 ∷ 125 ∷ 125 ∷ []) ≡ Some (path (variable (codes "r1")) ((codes "stat") ∷ (codes "exists") ∷ []))
text_2898 = refl

text_2899 : template_of (123 ∷ 123 ∷ 32 ∷ 114 ∷ 49 ∷ 46 ∷ 115 ∷ 116 ∷ 97 ∷ 116 ∷ 46 ∷ 115 ∷ 105 ∷ 122 ∷ 101 ∷ 32 ∷ 124 ∷ 32 ∷ 100 ∷ 101 ∷ 102 ∷ 97 ∷ 117 ∷ 108 ∷ 116 ∷ 40 ∷ 49 ∷ 41 ∷ 32 ∷ 125 ∷ 125 ∷ []) ≡ Some (path_or (variable (codes "r1")) ((codes "stat") ∷ (codes "size") ∷ []) (literal (int (pos 1))))
text_2899 = refl

text_2900 : template_of (123 ∷ 123 ∷ 32 ∷ 114 ∷ 49 ∷ 46 ∷ 115 ∷ 116 ∷ 97 ∷ 116 ∷ 46 ∷ 115 ∷ 105 ∷ 122 ∷ 101 ∷ 32 ∷ 125 ∷ 125 ∷ []) ≡ Some (path (variable (codes "r1")) ((codes "stat") ∷ (codes "size") ∷ []))
text_2900 = refl

text_2901 : template_of (123 ∷ 123 ∷ 32 ∷ 114 ∷ 49 ∷ 46 ∷ 115 ∷ 116 ∷ 100 ∷ 101 ∷ 114 ∷ 114 ∷ 32 ∷ 124 ∷ 32 ∷ 100 ∷ 101 ∷ 102 ∷ 97 ∷ 117 ∷ 108 ∷ 116 ∷ 40 ∷ 115 ∷ 49 ∷ 41 ∷ 32 ∷ 125 ∷ 125 ∷ []) ≡ Some (path_or (variable (codes "r1")) ((codes "stderr") ∷ []) (path (variable (codes "s1")) ([])))
text_2901 = refl

text_2902 : template_of (123 ∷ 123 ∷ 32 ∷ 114 ∷ 49 ∷ 46 ∷ 115 ∷ 116 ∷ 100 ∷ 101 ∷ 114 ∷ 114 ∷ 32 ∷ 124 ∷ 32 ∷ 108 ∷ 101 ∷ 110 ∷ 103 ∷ 116 ∷ 104 ∷ 32 ∷ 125 ∷ 125 ∷ []) ≡ Some (length_of (path (variable (codes "r1")) ((codes "stderr") ∷ [])))
text_2902 = refl

text_2903 : template_of (123 ∷ 123 ∷ 32 ∷ 114 ∷ 49 ∷ 46 ∷ 115 ∷ 116 ∷ 100 ∷ 101 ∷ 114 ∷ 114 ∷ 32 ∷ 125 ∷ 125 ∷ []) ≡ Some (path (variable (codes "r1")) ((codes "stderr") ∷ []))
text_2903 = refl

text_2904 : template_of (123 ∷ 123 ∷ 32 ∷ 114 ∷ 49 ∷ 46 ∷ 115 ∷ 116 ∷ 100 ∷ 101 ∷ 114 ∷ 114 ∷ 46 ∷ 102 ∷ 32 ∷ 125 ∷ 125 ∷ []) ≡ Some (path (variable (codes "r1")) ((codes "stderr") ∷ (codes "f") ∷ []))
text_2904 = refl

text_2905 : template_of (123 ∷ 123 ∷ 32 ∷ 114 ∷ 49 ∷ 46 ∷ 115 ∷ 116 ∷ 100 ∷ 111 ∷ 117 ∷ 116 ∷ 32 ∷ 124 ∷ 32 ∷ 100 ∷ 101 ∷ 102 ∷ 97 ∷ 117 ∷ 108 ∷ 116 ∷ 40 ∷ 49 ∷ 41 ∷ 32 ∷ 125 ∷ 125 ∷ []) ≡ Some (path_or (variable (codes "r1")) ((codes "stdout") ∷ []) (literal (int (pos 1))))
text_2905 = refl

text_2906 : template_of (123 ∷ 123 ∷ 32 ∷ 114 ∷ 49 ∷ 46 ∷ 115 ∷ 116 ∷ 100 ∷ 111 ∷ 117 ∷ 116 ∷ 32 ∷ 124 ∷ 32 ∷ 100 ∷ 101 ∷ 102 ∷ 97 ∷ 117 ∷ 108 ∷ 116 ∷ 40 ∷ 115 ∷ 49 ∷ 41 ∷ 32 ∷ 125 ∷ 125 ∷ []) ≡ Some (path_or (variable (codes "r1")) ((codes "stdout") ∷ []) (path (variable (codes "s1")) ([])))
text_2906 = refl

text_2907 : template_of (123 ∷ 123 ∷ 32 ∷ 114 ∷ 49 ∷ 46 ∷ 115 ∷ 116 ∷ 100 ∷ 111 ∷ 117 ∷ 116 ∷ 32 ∷ 125 ∷ 125 ∷ []) ≡ Some (path (variable (codes "r1")) ((codes "stdout") ∷ []))
text_2907 = refl

text_2908 : template_of (123 ∷ 123 ∷ 32 ∷ 114 ∷ 49 ∷ 46 ∷ 115 ∷ 116 ∷ 100 ∷ 111 ∷ 117 ∷ 116 ∷ 95 ∷ 108 ∷ 105 ∷ 110 ∷ 101 ∷ 115 ∷ 32 ∷ 124 ∷ 32 ∷ 100 ∷ 101 ∷ 102 ∷ 97 ∷ 117 ∷ 108 ∷ 116 ∷ 40 ∷ 91 ∷ 93 ∷ 41 ∷ 32 ∷ 125 ∷ 125 ∷ []) ≡ Some (path_or (variable (codes "r1")) ((codes "stdout_lines") ∷ []) (list_of (no_expressions)))
text_2908 = refl

text_2909 : template_of (123 ∷ 123 ∷ 32 ∷ 114 ∷ 49 ∷ 46 ∷ 115 ∷ 116 ∷ 100 ∷ 111 ∷ 117 ∷ 116 ∷ 95 ∷ 108 ∷ 105 ∷ 110 ∷ 101 ∷ 115 ∷ 32 ∷ 125 ∷ 125 ∷ []) ≡ Some (path (variable (codes "r1")) ((codes "stdout_lines") ∷ []))
text_2909 = refl

text_2910 : template_of (123 ∷ 123 ∷ 32 ∷ 114 ∷ 49 ∷ 46 ∷ 118 ∷ 32 ∷ 124 ∷ 32 ∷ 100 ∷ 101 ∷ 102 ∷ 97 ∷ 117 ∷ 108 ∷ 116 ∷ 40 ∷ 49 ∷ 41 ∷ 32 ∷ 125 ∷ 125 ∷ []) ≡ Some (path_or (variable (codes "r1")) ((codes "v") ∷ []) (literal (int (pos 1))))
text_2910 = refl

text_2911 : template_of (123 ∷ 123 ∷ 32 ∷ 114 ∷ 49 ∷ 46 ∷ 118 ∷ 32 ∷ 125 ∷ 125 ∷ []) ≡ Some (path (variable (codes "r1")) ((codes "v") ∷ []))
text_2911 = refl

text_2912 : template_of (123 ∷ 123 ∷ 32 ∷ 114 ∷ 49 ∷ 46 ∷ 119 ∷ 104 ∷ 121 ∷ 32 ∷ 124 ∷ 32 ∷ 108 ∷ 101 ∷ 110 ∷ 103 ∷ 116 ∷ 104 ∷ 32 ∷ 125 ∷ 125 ∷ []) ≡ Some (length_of (path (variable (codes "r1")) ((codes "why") ∷ [])))
text_2912 = refl

text_2913 : template_of (123 ∷ 123 ∷ 32 ∷ 114 ∷ 49 ∷ 46 ∷ 119 ∷ 104 ∷ 121 ∷ 32 ∷ 125 ∷ 125 ∷ []) ≡ Some (path (variable (codes "r1")) ((codes "why") ∷ []))
text_2913 = refl

text_2914 : template_of (123 ∷ 123 ∷ 32 ∷ 114 ∷ 49 ∷ 46 ∷ 122 ∷ 122 ∷ 32 ∷ 33 ∷ 61 ∷ 32 ∷ 114 ∷ 49 ∷ 46 ∷ 99 ∷ 104 ∷ 97 ∷ 110 ∷ 103 ∷ 101 ∷ 100 ∷ 32 ∷ 125 ∷ 125 ∷ []) ≡ Some (negation (comparison equal (path (variable (codes "r1")) ((codes "zz") ∷ [])) (path (variable (codes "r1")) ((codes "changed") ∷ []))))
text_2914 = refl

text_2915 : template_of (123 ∷ 123 ∷ 32 ∷ 114 ∷ 50 ∷ 32 ∷ 124 ∷ 32 ∷ 100 ∷ 101 ∷ 102 ∷ 97 ∷ 117 ∷ 108 ∷ 116 ∷ 40 ∷ 49 ∷ 41 ∷ 32 ∷ 125 ∷ 125 ∷ []) ≡ Some (path_or (variable (codes "r2")) ([]) (literal (int (pos 1))))
text_2915 = refl

text_2916 : template_of (123 ∷ 123 ∷ 32 ∷ 114 ∷ 50 ∷ 32 ∷ 124 ∷ 32 ∷ 100 ∷ 101 ∷ 102 ∷ 97 ∷ 117 ∷ 108 ∷ 116 ∷ 40 ∷ 91 ∷ 93 ∷ 41 ∷ 32 ∷ 125 ∷ 125 ∷ []) ≡ Some (path_or (variable (codes "r2")) ([]) (list_of (no_expressions)))
text_2916 = refl

text_2917 : template_of (123 ∷ 123 ∷ 32 ∷ 114 ∷ 50 ∷ 32 ∷ 124 ∷ 32 ∷ 100 ∷ 101 ∷ 102 ∷ 97 ∷ 117 ∷ 108 ∷ 116 ∷ 40 ∷ 115 ∷ 49 ∷ 41 ∷ 32 ∷ 125 ∷ 125 ∷ []) ≡ Some (path_or (variable (codes "r2")) ([]) (path (variable (codes "s1")) ([])))
text_2917 = refl

text_2918 : template_of (123 ∷ 123 ∷ 32 ∷ 114 ∷ 50 ∷ 32 ∷ 124 ∷ 32 ∷ 108 ∷ 101 ∷ 110 ∷ 103 ∷ 116 ∷ 104 ∷ 32 ∷ 125 ∷ 125 ∷ []) ≡ Some (length_of (path (variable (codes "r2")) ([])))
text_2918 = refl

text_2919 : template_of (123 ∷ 123 ∷ 32 ∷ 114 ∷ 50 ∷ 32 ∷ 125 ∷ 125 ∷ []) ≡ Some (path (variable (codes "r2")) ([]))
text_2919 = refl

text_2920 : template_of (123 ∷ 123 ∷ 32 ∷ 114 ∷ 50 ∷ 46 ∷ 97 ∷ 110 ∷ 115 ∷ 105 ∷ 98 ∷ 108 ∷ 101 ∷ 95 ∷ 102 ∷ 97 ∷ 99 ∷ 116 ∷ 115 ∷ 46 ∷ 97 ∷ 110 ∷ 115 ∷ 105 ∷ 98 ∷ 108 ∷ 101 ∷ 95 ∷ 104 ∷ 111 ∷ 115 ∷ 116 ∷ 110 ∷ 97 ∷ 109 ∷ 101 ∷ 32 ∷ 125 ∷ 125 ∷ []) ≡ Some (path (variable (codes "r2")) ((codes "ansible_facts") ∷ (codes "ansible_hostname") ∷ []))
text_2920 = refl

text_2921 : template_of (123 ∷ 123 ∷ 32 ∷ 114 ∷ 50 ∷ 46 ∷ 97 ∷ 110 ∷ 115 ∷ 105 ∷ 98 ∷ 108 ∷ 101 ∷ 95 ∷ 102 ∷ 97 ∷ 99 ∷ 116 ∷ 115 ∷ 46 ∷ 97 ∷ 110 ∷ 115 ∷ 105 ∷ 98 ∷ 108 ∷ 101 ∷ 95 ∷ 111 ∷ 115 ∷ 95 ∷ 102 ∷ 97 ∷ 109 ∷ 105 ∷ 108 ∷ 121 ∷ 32 ∷ 125 ∷ 125 ∷ []) ≡ Some (path (variable (codes "r2")) ((codes "ansible_facts") ∷ (codes "ansible_os_family") ∷ []))
text_2921 = refl

text_2922 : template_of (123 ∷ 123 ∷ 32 ∷ 114 ∷ 50 ∷ 46 ∷ 99 ∷ 104 ∷ 97 ∷ 110 ∷ 103 ∷ 101 ∷ 100 ∷ 32 ∷ 111 ∷ 114 ∷ 32 ∷ 116 ∷ 114 ∷ 117 ∷ 101 ∷ 32 ∷ 125 ∷ 125 ∷ []) ≡ Some (disjunction (expression (path (variable (codes "r2")) ((codes "changed") ∷ [])) (expression (literal (boolean true)) (no_expressions))))
text_2922 = refl

text_2923 : template_of (123 ∷ 123 ∷ 32 ∷ 114 ∷ 50 ∷ 46 ∷ 99 ∷ 104 ∷ 97 ∷ 110 ∷ 103 ∷ 101 ∷ 100 ∷ 32 ∷ 124 ∷ 32 ∷ 100 ∷ 101 ∷ 102 ∷ 97 ∷ 117 ∷ 108 ∷ 116 ∷ 40 ∷ 49 ∷ 41 ∷ 32 ∷ 125 ∷ 125 ∷ []) ≡ Some (path_or (variable (codes "r2")) ((codes "changed") ∷ []) (literal (int (pos 1))))
text_2923 = refl

text_2924 : template_of (123 ∷ 123 ∷ 32 ∷ 114 ∷ 50 ∷ 46 ∷ 99 ∷ 104 ∷ 97 ∷ 110 ∷ 103 ∷ 101 ∷ 100 ∷ 32 ∷ 124 ∷ 32 ∷ 100 ∷ 101 ∷ 102 ∷ 97 ∷ 117 ∷ 108 ∷ 116 ∷ 40 ∷ 91 ∷ 93 ∷ 41 ∷ 32 ∷ 125 ∷ 125 ∷ []) ≡ Some (path_or (variable (codes "r2")) ((codes "changed") ∷ []) (list_of (no_expressions)))
text_2924 = refl

text_2925 : template_of (123 ∷ 123 ∷ 32 ∷ 114 ∷ 50 ∷ 46 ∷ 99 ∷ 104 ∷ 97 ∷ 110 ∷ 103 ∷ 101 ∷ 100 ∷ 32 ∷ 124 ∷ 32 ∷ 100 ∷ 101 ∷ 102 ∷ 97 ∷ 117 ∷ 108 ∷ 116 ∷ 40 ∷ 115 ∷ 49 ∷ 41 ∷ 32 ∷ 125 ∷ 125 ∷ []) ≡ Some (path_or (variable (codes "r2")) ((codes "changed") ∷ []) (path (variable (codes "s1")) ([])))
text_2925 = refl

text_2926 : template_of (123 ∷ 123 ∷ 32 ∷ 114 ∷ 50 ∷ 46 ∷ 99 ∷ 104 ∷ 97 ∷ 110 ∷ 103 ∷ 101 ∷ 100 ∷ 32 ∷ 124 ∷ 32 ∷ 108 ∷ 101 ∷ 110 ∷ 103 ∷ 116 ∷ 104 ∷ 32 ∷ 125 ∷ 125 ∷ []) ≡ Some (length_of (path (variable (codes "r2")) ((codes "changed") ∷ [])))
text_2926 = refl

text_2927 : template_of (123 ∷ 123 ∷ 32 ∷ 114 ∷ 50 ∷ 46 ∷ 99 ∷ 104 ∷ 97 ∷ 110 ∷ 103 ∷ 101 ∷ 100 ∷ 32 ∷ 125 ∷ 125 ∷ []) ≡ Some (path (variable (codes "r2")) ((codes "changed") ∷ []))
text_2927 = refl

text_2928 : template_of (123 ∷ 123 ∷ 32 ∷ 114 ∷ 50 ∷ 46 ∷ 100 ∷ 101 ∷ 101 ∷ 112 ∷ 32 ∷ 125 ∷ 125 ∷ []) ≡ Some (path (variable (codes "r2")) ((codes "deep") ∷ []))
text_2928 = refl

text_2929 : template_of (123 ∷ 123 ∷ 32 ∷ 114 ∷ 50 ∷ 46 ∷ 100 ∷ 101 ∷ 101 ∷ 112 ∷ 46 ∷ 97 ∷ 32 ∷ 124 ∷ 32 ∷ 100 ∷ 101 ∷ 102 ∷ 97 ∷ 117 ∷ 108 ∷ 116 ∷ 40 ∷ 91 ∷ 93 ∷ 41 ∷ 32 ∷ 125 ∷ 125 ∷ []) ≡ Some (path_or (variable (codes "r2")) ((codes "deep") ∷ (codes "a") ∷ []) (list_of (no_expressions)))
text_2929 = refl

text_2930 : template_of (123 ∷ 123 ∷ 32 ∷ 114 ∷ 50 ∷ 46 ∷ 100 ∷ 101 ∷ 101 ∷ 112 ∷ 46 ∷ 97 ∷ 32 ∷ 124 ∷ 32 ∷ 108 ∷ 101 ∷ 110 ∷ 103 ∷ 116 ∷ 104 ∷ 32 ∷ 125 ∷ 125 ∷ []) ≡ Some (length_of (path (variable (codes "r2")) ((codes "deep") ∷ (codes "a") ∷ [])))
text_2930 = refl

text_2931 : template_of (123 ∷ 123 ∷ 32 ∷ 114 ∷ 50 ∷ 46 ∷ 100 ∷ 101 ∷ 101 ∷ 112 ∷ 46 ∷ 97 ∷ 32 ∷ 125 ∷ 125 ∷ []) ≡ Some (path (variable (codes "r2")) ((codes "deep") ∷ (codes "a") ∷ []))
text_2931 = refl

text_2932 : template_of (123 ∷ 123 ∷ 32 ∷ 114 ∷ 50 ∷ 46 ∷ 102 ∷ 97 ∷ 105 ∷ 108 ∷ 101 ∷ 100 ∷ 32 ∷ 97 ∷ 110 ∷ 100 ∷ 32 ∷ 114 ∷ 50 ∷ 46 ∷ 99 ∷ 104 ∷ 97 ∷ 110 ∷ 103 ∷ 101 ∷ 100 ∷ 32 ∷ 125 ∷ 125 ∷ []) ≡ Some (conjunction (expression (path (variable (codes "r2")) ((codes "failed") ∷ [])) (expression (path (variable (codes "r2")) ((codes "changed") ∷ [])) (no_expressions))))
text_2932 = refl

text_2933 : template_of (123 ∷ 123 ∷ 32 ∷ 114 ∷ 50 ∷ 46 ∷ 102 ∷ 97 ∷ 105 ∷ 108 ∷ 101 ∷ 100 ∷ 32 ∷ 124 ∷ 32 ∷ 100 ∷ 101 ∷ 102 ∷ 97 ∷ 117 ∷ 108 ∷ 116 ∷ 40 ∷ 49 ∷ 41 ∷ 32 ∷ 125 ∷ 125 ∷ []) ≡ Some (path_or (variable (codes "r2")) ((codes "failed") ∷ []) (literal (int (pos 1))))
text_2933 = refl

text_2934 : template_of (123 ∷ 123 ∷ 32 ∷ 114 ∷ 50 ∷ 46 ∷ 102 ∷ 97 ∷ 105 ∷ 108 ∷ 101 ∷ 100 ∷ 32 ∷ 124 ∷ 32 ∷ 100 ∷ 101 ∷ 102 ∷ 97 ∷ 117 ∷ 108 ∷ 116 ∷ 40 ∷ 91 ∷ 93 ∷ 41 ∷ 32 ∷ 125 ∷ 125 ∷ []) ≡ Some (path_or (variable (codes "r2")) ((codes "failed") ∷ []) (list_of (no_expressions)))
text_2934 = refl

text_2935 : template_of (123 ∷ 123 ∷ 32 ∷ 114 ∷ 50 ∷ 46 ∷ 102 ∷ 97 ∷ 105 ∷ 108 ∷ 101 ∷ 100 ∷ 32 ∷ 124 ∷ 32 ∷ 100 ∷ 101 ∷ 102 ∷ 97 ∷ 117 ∷ 108 ∷ 116 ∷ 40 ∷ 115 ∷ 49 ∷ 41 ∷ 32 ∷ 125 ∷ 125 ∷ []) ≡ Some (path_or (variable (codes "r2")) ((codes "failed") ∷ []) (path (variable (codes "s1")) ([])))
text_2935 = refl

text_2936 : template_of (123 ∷ 123 ∷ 32 ∷ 114 ∷ 50 ∷ 46 ∷ 102 ∷ 97 ∷ 105 ∷ 108 ∷ 101 ∷ 100 ∷ 32 ∷ 124 ∷ 32 ∷ 108 ∷ 101 ∷ 110 ∷ 103 ∷ 116 ∷ 104 ∷ 32 ∷ 125 ∷ 125 ∷ []) ≡ Some (length_of (path (variable (codes "r2")) ((codes "failed") ∷ [])))
text_2936 = refl

text_2937 : template_of (123 ∷ 123 ∷ 32 ∷ 114 ∷ 50 ∷ 46 ∷ 102 ∷ 97 ∷ 105 ∷ 108 ∷ 101 ∷ 100 ∷ 32 ∷ 125 ∷ 125 ∷ []) ≡ Some (path (variable (codes "r2")) ((codes "failed") ∷ []))
text_2937 = refl

text_2938 : template_of (123 ∷ 123 ∷ 32 ∷ 114 ∷ 50 ∷ 46 ∷ 109 ∷ 115 ∷ 103 ∷ 32 ∷ 124 ∷ 32 ∷ 100 ∷ 101 ∷ 102 ∷ 97 ∷ 117 ∷ 108 ∷ 116 ∷ 40 ∷ 49 ∷ 41 ∷ 32 ∷ 125 ∷ 125 ∷ []) ≡ Some (path_or (variable (codes "r2")) ((codes "msg") ∷ []) (literal (int (pos 1))))
text_2938 = refl

text_2939 : template_of (123 ∷ 123 ∷ 32 ∷ 114 ∷ 50 ∷ 46 ∷ 109 ∷ 115 ∷ 103 ∷ 32 ∷ 124 ∷ 32 ∷ 100 ∷ 101 ∷ 102 ∷ 97 ∷ 117 ∷ 108 ∷ 116 ∷ 40 ∷ 91 ∷ 93 ∷ 41 ∷ 32 ∷ 125 ∷ 125 ∷ []) ≡ Some (path_or (variable (codes "r2")) ((codes "msg") ∷ []) (list_of (no_expressions)))
text_2939 = refl

text_2940 : template_of (123 ∷ 123 ∷ 32 ∷ 114 ∷ 50 ∷ 46 ∷ 109 ∷ 115 ∷ 103 ∷ 32 ∷ 124 ∷ 32 ∷ 100 ∷ 101 ∷ 102 ∷ 97 ∷ 117 ∷ 108 ∷ 116 ∷ 40 ∷ 115 ∷ 49 ∷ 41 ∷ 32 ∷ 125 ∷ 125 ∷ []) ≡ Some (path_or (variable (codes "r2")) ((codes "msg") ∷ []) (path (variable (codes "s1")) ([])))
text_2940 = refl

text_2941 : template_of (123 ∷ 123 ∷ 32 ∷ 114 ∷ 50 ∷ 46 ∷ 109 ∷ 115 ∷ 103 ∷ 32 ∷ 124 ∷ 32 ∷ 108 ∷ 101 ∷ 110 ∷ 103 ∷ 116 ∷ 104 ∷ 32 ∷ 125 ∷ 125 ∷ []) ≡ Some (length_of (path (variable (codes "r2")) ((codes "msg") ∷ [])))
text_2941 = refl

text_2942 : template_of (123 ∷ 123 ∷ 32 ∷ 114 ∷ 50 ∷ 46 ∷ 109 ∷ 115 ∷ 103 ∷ 32 ∷ 125 ∷ 125 ∷ []) ≡ Some (path (variable (codes "r2")) ((codes "msg") ∷ []))
text_2942 = refl

text_2943 : template_of (123 ∷ 123 ∷ 32 ∷ 114 ∷ 50 ∷ 46 ∷ 112 ∷ 105 ∷ 110 ∷ 103 ∷ 32 ∷ 125 ∷ 125 ∷ []) ≡ Some (path (variable (codes "r2")) ((codes "ping") ∷ []))
text_2943 = refl

text_2944 : template_of (123 ∷ 123 ∷ 32 ∷ 114 ∷ 50 ∷ 46 ∷ 114 ∷ 99 ∷ 32 ∷ 124 ∷ 32 ∷ 100 ∷ 101 ∷ 102 ∷ 97 ∷ 117 ∷ 108 ∷ 116 ∷ 40 ∷ 115 ∷ 49 ∷ 41 ∷ 32 ∷ 125 ∷ 125 ∷ []) ≡ Some (path_or (variable (codes "r2")) ((codes "rc") ∷ []) (path (variable (codes "s1")) ([])))
text_2944 = refl

text_2945 : template_of (123 ∷ 123 ∷ 32 ∷ 114 ∷ 50 ∷ 46 ∷ 114 ∷ 99 ∷ 32 ∷ 125 ∷ 125 ∷ []) ≡ Some (path (variable (codes "r2")) ((codes "rc") ∷ []))
text_2945 = refl

text_2946 : template_of (123 ∷ 123 ∷ 32 ∷ 114 ∷ 50 ∷ 46 ∷ 114 ∷ 101 ∷ 115 ∷ 117 ∷ 108 ∷ 116 ∷ 115 ∷ 32 ∷ 124 ∷ 32 ∷ 100 ∷ 101 ∷ 102 ∷ 97 ∷ 117 ∷ 108 ∷ 116 ∷ 40 ∷ 91 ∷ 93 ∷ 41 ∷ 32 ∷ 125 ∷ 125 ∷ []) ≡ Some (path_or (variable (codes "r2")) ((codes "results") ∷ []) (list_of (no_expressions)))
text_2946 = refl

text_2947 : template_of (123 ∷ 123 ∷ 32 ∷ 114 ∷ 50 ∷ 46 ∷ 114 ∷ 101 ∷ 115 ∷ 117 ∷ 108 ∷ 116 ∷ 115 ∷ 32 ∷ 125 ∷ 125 ∷ []) ≡ Some (path (variable (codes "r2")) ((codes "results") ∷ []))
text_2947 = refl

text_2948 : template_of (123 ∷ 123 ∷ 32 ∷ 114 ∷ 50 ∷ 46 ∷ 114 ∷ 111 ∷ 119 ∷ 115 ∷ 32 ∷ 125 ∷ 125 ∷ []) ≡ Some (path (variable (codes "r2")) ((codes "rows") ∷ []))
text_2948 = refl

text_2949 : template_of (123 ∷ 123 ∷ 32 ∷ 114 ∷ 50 ∷ 46 ∷ 115 ∷ 107 ∷ 105 ∷ 112 ∷ 95 ∷ 114 ∷ 101 ∷ 97 ∷ 115 ∷ 111 ∷ 110 ∷ 32 ∷ 124 ∷ 32 ∷ 100 ∷ 101 ∷ 102 ∷ 97 ∷ 117 ∷ 108 ∷ 116 ∷ 40 ∷ 115 ∷ 49 ∷ 41 ∷ 32 ∷ 125 ∷ 125 ∷ []) ≡ Some (path_or (variable (codes "r2")) ((codes "skip_reason") ∷ []) (path (variable (codes "s1")) ([])))
text_2949 = refl

text_2950 : template_of (123 ∷ 123 ∷ 32 ∷ 114 ∷ 50 ∷ 46 ∷ 115 ∷ 107 ∷ 105 ∷ 112 ∷ 95 ∷ 114 ∷ 101 ∷ 97 ∷ 115 ∷ 111 ∷ 110 ∷ 32 ∷ 124 ∷ 32 ∷ 108 ∷ 101 ∷ 110 ∷ 103 ∷ 116 ∷ 104 ∷ 32 ∷ 125 ∷ 125 ∷ []) ≡ Some (length_of (path (variable (codes "r2")) ((codes "skip_reason") ∷ [])))
text_2950 = refl

text_2951 : template_of (123 ∷ 123 ∷ 32 ∷ 114 ∷ 50 ∷ 46 ∷ 115 ∷ 107 ∷ 105 ∷ 112 ∷ 95 ∷ 114 ∷ 101 ∷ 97 ∷ 115 ∷ 111 ∷ 110 ∷ 32 ∷ 125 ∷ 125 ∷ []) ≡ Some (path (variable (codes "r2")) ((codes "skip_reason") ∷ []))
text_2951 = refl

text_2952 : template_of (123 ∷ 123 ∷ 32 ∷ 114 ∷ 50 ∷ 46 ∷ 115 ∷ 107 ∷ 105 ∷ 112 ∷ 112 ∷ 101 ∷ 100 ∷ 32 ∷ 124 ∷ 32 ∷ 108 ∷ 101 ∷ 110 ∷ 103 ∷ 116 ∷ 104 ∷ 32 ∷ 125 ∷ 125 ∷ []) ≡ Some (length_of (path (variable (codes "r2")) ((codes "skipped") ∷ [])))
text_2952 = refl

text_2953 : template_of (123 ∷ 123 ∷ 32 ∷ 114 ∷ 50 ∷ 46 ∷ 115 ∷ 107 ∷ 105 ∷ 112 ∷ 112 ∷ 101 ∷ 100 ∷ 32 ∷ 125 ∷ 125 ∷ []) ≡ Some (path (variable (codes "r2")) ((codes "skipped") ∷ []))
text_2953 = refl

text_2954 : template_of (123 ∷ 123 ∷ 32 ∷ 114 ∷ 50 ∷ 46 ∷ 115 ∷ 116 ∷ 97 ∷ 116 ∷ 32 ∷ 125 ∷ 125 ∷ []) ≡ Some (path (variable (codes "r2")) ((codes "stat") ∷ []))
text_2954 = refl

text_2955 : template_of (123 ∷ 123 ∷ 32 ∷ 114 ∷ 50 ∷ 46 ∷ 115 ∷ 116 ∷ 97 ∷ 116 ∷ 46 ∷ 115 ∷ 105 ∷ 122 ∷ 101 ∷ 32 ∷ 125 ∷ 125 ∷ []) ≡ Some (path (variable (codes "r2")) ((codes "stat") ∷ (codes "size") ∷ []))
text_2955 = refl

text_2956 : template_of (123 ∷ 123 ∷ 32 ∷ 114 ∷ 50 ∷ 46 ∷ 115 ∷ 116 ∷ 100 ∷ 101 ∷ 114 ∷ 114 ∷ 32 ∷ 124 ∷ 32 ∷ 100 ∷ 101 ∷ 102 ∷ 97 ∷ 117 ∷ 108 ∷ 116 ∷ 40 ∷ 49 ∷ 41 ∷ 32 ∷ 125 ∷ 125 ∷ []) ≡ Some (path_or (variable (codes "r2")) ((codes "stderr") ∷ []) (literal (int (pos 1))))
text_2956 = refl

text_2957 : template_of (123 ∷ 123 ∷ 32 ∷ 114 ∷ 50 ∷ 46 ∷ 115 ∷ 116 ∷ 100 ∷ 101 ∷ 114 ∷ 114 ∷ 32 ∷ 124 ∷ 32 ∷ 108 ∷ 101 ∷ 110 ∷ 103 ∷ 116 ∷ 104 ∷ 32 ∷ 125 ∷ 125 ∷ []) ≡ Some (length_of (path (variable (codes "r2")) ((codes "stderr") ∷ [])))
text_2957 = refl

text_2958 : template_of (123 ∷ 123 ∷ 32 ∷ 114 ∷ 50 ∷ 46 ∷ 115 ∷ 116 ∷ 100 ∷ 101 ∷ 114 ∷ 114 ∷ 32 ∷ 125 ∷ 125 ∷ []) ≡ Some (path (variable (codes "r2")) ((codes "stderr") ∷ []))
text_2958 = refl

text_2959 : template_of (123 ∷ 123 ∷ 32 ∷ 114 ∷ 50 ∷ 46 ∷ 115 ∷ 116 ∷ 100 ∷ 111 ∷ 117 ∷ 116 ∷ 32 ∷ 124 ∷ 32 ∷ 100 ∷ 101 ∷ 102 ∷ 97 ∷ 117 ∷ 108 ∷ 116 ∷ 40 ∷ 91 ∷ 93 ∷ 41 ∷ 32 ∷ 125 ∷ 125 ∷ []) ≡ Some (path_or (variable (codes "r2")) ((codes "stdout") ∷ []) (list_of (no_expressions)))
text_2959 = refl

text_2960 : template_of (123 ∷ 123 ∷ 32 ∷ 114 ∷ 50 ∷ 46 ∷ 115 ∷ 116 ∷ 100 ∷ 111 ∷ 117 ∷ 116 ∷ 32 ∷ 124 ∷ 32 ∷ 108 ∷ 101 ∷ 110 ∷ 103 ∷ 116 ∷ 104 ∷ 32 ∷ 125 ∷ 125 ∷ []) ≡ Some (length_of (path (variable (codes "r2")) ((codes "stdout") ∷ [])))
text_2960 = refl

text_2961 : template_of (123 ∷ 123 ∷ 32 ∷ 114 ∷ 50 ∷ 46 ∷ 115 ∷ 116 ∷ 100 ∷ 111 ∷ 117 ∷ 116 ∷ 32 ∷ 125 ∷ 125 ∷ []) ≡ Some (path (variable (codes "r2")) ((codes "stdout") ∷ []))
text_2961 = refl

text_2962 : template_of (123 ∷ 123 ∷ 32 ∷ 114 ∷ 50 ∷ 46 ∷ 115 ∷ 116 ∷ 100 ∷ 111 ∷ 117 ∷ 116 ∷ 95 ∷ 108 ∷ 105 ∷ 110 ∷ 101 ∷ 115 ∷ 32 ∷ 124 ∷ 32 ∷ 100 ∷ 101 ∷ 102 ∷ 97 ∷ 117 ∷ 108 ∷ 116 ∷ 40 ∷ 91 ∷ 93 ∷ 41 ∷ 32 ∷ 125 ∷ 125 ∷ []) ≡ Some (path_or (variable (codes "r2")) ((codes "stdout_lines") ∷ []) (list_of (no_expressions)))
text_2962 = refl

text_2963 : template_of (123 ∷ 123 ∷ 32 ∷ 114 ∷ 50 ∷ 46 ∷ 115 ∷ 116 ∷ 100 ∷ 111 ∷ 117 ∷ 116 ∷ 95 ∷ 108 ∷ 105 ∷ 110 ∷ 101 ∷ 115 ∷ 32 ∷ 124 ∷ 32 ∷ 108 ∷ 101 ∷ 110 ∷ 103 ∷ 116 ∷ 104 ∷ 32 ∷ 125 ∷ 125 ∷ []) ≡ Some (length_of (path (variable (codes "r2")) ((codes "stdout_lines") ∷ [])))
text_2963 = refl

text_2964 : template_of (123 ∷ 123 ∷ 32 ∷ 114 ∷ 50 ∷ 46 ∷ 115 ∷ 116 ∷ 100 ∷ 111 ∷ 117 ∷ 116 ∷ 95 ∷ 108 ∷ 105 ∷ 110 ∷ 101 ∷ 115 ∷ 32 ∷ 125 ∷ 125 ∷ []) ≡ Some (path (variable (codes "r2")) ((codes "stdout_lines") ∷ []))
text_2964 = refl

text_2965 : template_of (123 ∷ 123 ∷ 32 ∷ 114 ∷ 50 ∷ 46 ∷ 118 ∷ 32 ∷ 124 ∷ 32 ∷ 108 ∷ 101 ∷ 110 ∷ 103 ∷ 116 ∷ 104 ∷ 32 ∷ 125 ∷ 125 ∷ []) ≡ Some (length_of (path (variable (codes "r2")) ((codes "v") ∷ [])))
text_2965 = refl

text_2966 : template_of (123 ∷ 123 ∷ 32 ∷ 114 ∷ 50 ∷ 46 ∷ 118 ∷ 32 ∷ 125 ∷ 125 ∷ []) ≡ Some (path (variable (codes "r2")) ((codes "v") ∷ []))
text_2966 = refl

text_2967 : template_of (123 ∷ 123 ∷ 32 ∷ 114 ∷ 50 ∷ 46 ∷ 119 ∷ 104 ∷ 121 ∷ 32 ∷ 124 ∷ 32 ∷ 100 ∷ 101 ∷ 102 ∷ 97 ∷ 117 ∷ 108 ∷ 116 ∷ 40 ∷ 49 ∷ 41 ∷ 32 ∷ 125 ∷ 125 ∷ []) ≡ Some (path_or (variable (codes "r2")) ((codes "why") ∷ []) (literal (int (pos 1))))
text_2967 = refl

text_2968 : template_of (123 ∷ 123 ∷ 32 ∷ 114 ∷ 50 ∷ 46 ∷ 119 ∷ 104 ∷ 121 ∷ 32 ∷ 125 ∷ 125 ∷ []) ≡ Some (path (variable (codes "r2")) ((codes "why") ∷ []))
text_2968 = refl

text_2969 : template_of (123 ∷ 123 ∷ 32 ∷ 114 ∷ 51 ∷ 32 ∷ 124 ∷ 32 ∷ 100 ∷ 101 ∷ 102 ∷ 97 ∷ 117 ∷ 108 ∷ 116 ∷ 40 ∷ 49 ∷ 41 ∷ 32 ∷ 125 ∷ 125 ∷ []) ≡ Some (path_or (variable (codes "r3")) ([]) (literal (int (pos 1))))
text_2969 = refl

text_2970 : template_of (123 ∷ 123 ∷ 32 ∷ 114 ∷ 51 ∷ 32 ∷ 124 ∷ 32 ∷ 100 ∷ 101 ∷ 102 ∷ 97 ∷ 117 ∷ 108 ∷ 116 ∷ 40 ∷ 91 ∷ 93 ∷ 41 ∷ 32 ∷ 125 ∷ 125 ∷ []) ≡ Some (path_or (variable (codes "r3")) ([]) (list_of (no_expressions)))
text_2970 = refl

text_2971 : template_of (123 ∷ 123 ∷ 32 ∷ 114 ∷ 51 ∷ 32 ∷ 124 ∷ 32 ∷ 100 ∷ 101 ∷ 102 ∷ 97 ∷ 117 ∷ 108 ∷ 116 ∷ 40 ∷ 115 ∷ 49 ∷ 41 ∷ 32 ∷ 125 ∷ 125 ∷ []) ≡ Some (path_or (variable (codes "r3")) ([]) (path (variable (codes "s1")) ([])))
text_2971 = refl

text_2972 : template_of (123 ∷ 123 ∷ 32 ∷ 114 ∷ 51 ∷ 32 ∷ 124 ∷ 32 ∷ 108 ∷ 101 ∷ 110 ∷ 103 ∷ 116 ∷ 104 ∷ 32 ∷ 125 ∷ 125 ∷ []) ≡ Some (length_of (path (variable (codes "r3")) ([])))
text_2972 = refl

text_2973 : template_of (123 ∷ 123 ∷ 32 ∷ 114 ∷ 51 ∷ 32 ∷ 125 ∷ 125 ∷ []) ≡ Some (path (variable (codes "r3")) ([]))
text_2973 = refl

text_2974 : template_of (123 ∷ 123 ∷ 32 ∷ 114 ∷ 51 ∷ 46 ∷ 97 ∷ 110 ∷ 115 ∷ 105 ∷ 98 ∷ 108 ∷ 101 ∷ 95 ∷ 102 ∷ 97 ∷ 99 ∷ 116 ∷ 115 ∷ 46 ∷ 97 ∷ 110 ∷ 115 ∷ 105 ∷ 98 ∷ 108 ∷ 101 ∷ 95 ∷ 104 ∷ 111 ∷ 115 ∷ 116 ∷ 110 ∷ 97 ∷ 109 ∷ 101 ∷ 32 ∷ 125 ∷ 125 ∷ []) ≡ Some (path (variable (codes "r3")) ((codes "ansible_facts") ∷ (codes "ansible_hostname") ∷ []))
text_2974 = refl

text_2975 : template_of (123 ∷ 123 ∷ 32 ∷ 114 ∷ 51 ∷ 46 ∷ 99 ∷ 104 ∷ 97 ∷ 110 ∷ 103 ∷ 101 ∷ 100 ∷ 32 ∷ 124 ∷ 32 ∷ 100 ∷ 101 ∷ 102 ∷ 97 ∷ 117 ∷ 108 ∷ 116 ∷ 40 ∷ 49 ∷ 41 ∷ 32 ∷ 125 ∷ 125 ∷ []) ≡ Some (path_or (variable (codes "r3")) ((codes "changed") ∷ []) (literal (int (pos 1))))
text_2975 = refl

text_2976 : template_of (123 ∷ 123 ∷ 32 ∷ 114 ∷ 51 ∷ 46 ∷ 99 ∷ 104 ∷ 97 ∷ 110 ∷ 103 ∷ 101 ∷ 100 ∷ 32 ∷ 124 ∷ 32 ∷ 100 ∷ 101 ∷ 102 ∷ 97 ∷ 117 ∷ 108 ∷ 116 ∷ 40 ∷ 91 ∷ 93 ∷ 41 ∷ 32 ∷ 125 ∷ 125 ∷ []) ≡ Some (path_or (variable (codes "r3")) ((codes "changed") ∷ []) (list_of (no_expressions)))
text_2976 = refl

text_2977 : template_of (123 ∷ 123 ∷ 32 ∷ 114 ∷ 51 ∷ 46 ∷ 99 ∷ 104 ∷ 97 ∷ 110 ∷ 103 ∷ 101 ∷ 100 ∷ 32 ∷ 124 ∷ 32 ∷ 100 ∷ 101 ∷ 102 ∷ 97 ∷ 117 ∷ 108 ∷ 116 ∷ 40 ∷ 115 ∷ 49 ∷ 41 ∷ 32 ∷ 125 ∷ 125 ∷ []) ≡ Some (path_or (variable (codes "r3")) ((codes "changed") ∷ []) (path (variable (codes "s1")) ([])))
text_2977 = refl

text_2978 : template_of (123 ∷ 123 ∷ 32 ∷ 114 ∷ 51 ∷ 46 ∷ 99 ∷ 104 ∷ 97 ∷ 110 ∷ 103 ∷ 101 ∷ 100 ∷ 32 ∷ 124 ∷ 32 ∷ 108 ∷ 101 ∷ 110 ∷ 103 ∷ 116 ∷ 104 ∷ 32 ∷ 125 ∷ 125 ∷ []) ≡ Some (length_of (path (variable (codes "r3")) ((codes "changed") ∷ [])))
text_2978 = refl

text_2979 : template_of (123 ∷ 123 ∷ 32 ∷ 114 ∷ 51 ∷ 46 ∷ 99 ∷ 104 ∷ 97 ∷ 110 ∷ 103 ∷ 101 ∷ 100 ∷ 32 ∷ 125 ∷ 125 ∷ []) ≡ Some (path (variable (codes "r3")) ((codes "changed") ∷ []))
text_2979 = refl

text_2980 : template_of (123 ∷ 123 ∷ 32 ∷ 114 ∷ 51 ∷ 46 ∷ 100 ∷ 101 ∷ 101 ∷ 112 ∷ 32 ∷ 125 ∷ 125 ∷ []) ≡ Some (path (variable (codes "r3")) ((codes "deep") ∷ []))
text_2980 = refl

text_2981 : template_of (123 ∷ 123 ∷ 32 ∷ 114 ∷ 51 ∷ 46 ∷ 100 ∷ 101 ∷ 101 ∷ 112 ∷ 46 ∷ 97 ∷ 32 ∷ 125 ∷ 125 ∷ []) ≡ Some (path (variable (codes "r3")) ((codes "deep") ∷ (codes "a") ∷ []))
text_2981 = refl

text_2982 : template_of (123 ∷ 123 ∷ 32 ∷ 114 ∷ 51 ∷ 46 ∷ 100 ∷ 101 ∷ 101 ∷ 112 ∷ 46 ∷ 98 ∷ 32 ∷ 125 ∷ 125 ∷ []) ≡ Some (path (variable (codes "r3")) ((codes "deep") ∷ (codes "b") ∷ []))
text_2982 = refl

text_2983 : template_of (123 ∷ 123 ∷ 32 ∷ 114 ∷ 51 ∷ 46 ∷ 102 ∷ 97 ∷ 105 ∷ 108 ∷ 101 ∷ 100 ∷ 32 ∷ 97 ∷ 110 ∷ 100 ∷ 32 ∷ 114 ∷ 49 ∷ 46 ∷ 99 ∷ 104 ∷ 97 ∷ 110 ∷ 103 ∷ 101 ∷ 100 ∷ 32 ∷ 125 ∷ 125 ∷ []) ≡ Some (conjunction (expression (path (variable (codes "r3")) ((codes "failed") ∷ [])) (expression (path (variable (codes "r1")) ((codes "changed") ∷ [])) (no_expressions))))
text_2983 = refl

text_2984 : template_of (123 ∷ 123 ∷ 32 ∷ 114 ∷ 51 ∷ 46 ∷ 102 ∷ 97 ∷ 105 ∷ 108 ∷ 101 ∷ 100 ∷ 32 ∷ 97 ∷ 110 ∷ 100 ∷ 32 ∷ 114 ∷ 51 ∷ 46 ∷ 99 ∷ 104 ∷ 97 ∷ 110 ∷ 103 ∷ 101 ∷ 100 ∷ 32 ∷ 125 ∷ 125 ∷ []) ≡ Some (conjunction (expression (path (variable (codes "r3")) ((codes "failed") ∷ [])) (expression (path (variable (codes "r3")) ((codes "changed") ∷ [])) (no_expressions))))
text_2984 = refl

text_2985 : template_of (123 ∷ 123 ∷ 32 ∷ 114 ∷ 51 ∷ 46 ∷ 102 ∷ 97 ∷ 105 ∷ 108 ∷ 101 ∷ 100 ∷ 32 ∷ 124 ∷ 32 ∷ 100 ∷ 101 ∷ 102 ∷ 97 ∷ 117 ∷ 108 ∷ 116 ∷ 40 ∷ 91 ∷ 93 ∷ 41 ∷ 32 ∷ 125 ∷ 125 ∷ []) ≡ Some (path_or (variable (codes "r3")) ((codes "failed") ∷ []) (list_of (no_expressions)))
text_2985 = refl

text_2986 : template_of (123 ∷ 123 ∷ 32 ∷ 114 ∷ 51 ∷ 46 ∷ 102 ∷ 97 ∷ 105 ∷ 108 ∷ 101 ∷ 100 ∷ 32 ∷ 124 ∷ 32 ∷ 100 ∷ 101 ∷ 102 ∷ 97 ∷ 117 ∷ 108 ∷ 116 ∷ 40 ∷ 115 ∷ 49 ∷ 41 ∷ 32 ∷ 125 ∷ 125 ∷ []) ≡ Some (path_or (variable (codes "r3")) ((codes "failed") ∷ []) (path (variable (codes "s1")) ([])))
text_2986 = refl

text_2987 : template_of (123 ∷ 123 ∷ 32 ∷ 114 ∷ 51 ∷ 46 ∷ 102 ∷ 97 ∷ 105 ∷ 108 ∷ 101 ∷ 100 ∷ 32 ∷ 124 ∷ 32 ∷ 108 ∷ 101 ∷ 110 ∷ 103 ∷ 116 ∷ 104 ∷ 32 ∷ 125 ∷ 125 ∷ []) ≡ Some (length_of (path (variable (codes "r3")) ((codes "failed") ∷ [])))
text_2987 = refl

text_2988 : template_of (123 ∷ 123 ∷ 32 ∷ 114 ∷ 51 ∷ 46 ∷ 102 ∷ 97 ∷ 105 ∷ 108 ∷ 101 ∷ 100 ∷ 32 ∷ 125 ∷ 125 ∷ []) ≡ Some (path (variable (codes "r3")) ((codes "failed") ∷ []))
text_2988 = refl

text_2989 : template_of (123 ∷ 123 ∷ 32 ∷ 114 ∷ 51 ∷ 46 ∷ 109 ∷ 115 ∷ 103 ∷ 32 ∷ 124 ∷ 32 ∷ 100 ∷ 101 ∷ 102 ∷ 97 ∷ 117 ∷ 108 ∷ 116 ∷ 40 ∷ 91 ∷ 93 ∷ 41 ∷ 32 ∷ 125 ∷ 125 ∷ []) ≡ Some (path_or (variable (codes "r3")) ((codes "msg") ∷ []) (list_of (no_expressions)))
text_2989 = refl

text_2990 : template_of (123 ∷ 123 ∷ 32 ∷ 114 ∷ 51 ∷ 46 ∷ 109 ∷ 115 ∷ 103 ∷ 32 ∷ 124 ∷ 32 ∷ 100 ∷ 101 ∷ 102 ∷ 97 ∷ 117 ∷ 108 ∷ 116 ∷ 40 ∷ 115 ∷ 49 ∷ 41 ∷ 32 ∷ 125 ∷ 125 ∷ []) ≡ Some (path_or (variable (codes "r3")) ((codes "msg") ∷ []) (path (variable (codes "s1")) ([])))
text_2990 = refl

text_2991 : template_of (123 ∷ 123 ∷ 32 ∷ 114 ∷ 51 ∷ 46 ∷ 109 ∷ 115 ∷ 103 ∷ 32 ∷ 124 ∷ 32 ∷ 108 ∷ 101 ∷ 110 ∷ 103 ∷ 116 ∷ 104 ∷ 32 ∷ 125 ∷ 125 ∷ []) ≡ Some (length_of (path (variable (codes "r3")) ((codes "msg") ∷ [])))
text_2991 = refl

text_2992 : template_of (123 ∷ 123 ∷ 32 ∷ 114 ∷ 51 ∷ 46 ∷ 109 ∷ 115 ∷ 103 ∷ 32 ∷ 125 ∷ 125 ∷ []) ≡ Some (path (variable (codes "r3")) ((codes "msg") ∷ []))
text_2992 = refl

text_2993 : template_of (123 ∷ 123 ∷ 32 ∷ 114 ∷ 51 ∷ 46 ∷ 112 ∷ 105 ∷ 110 ∷ 103 ∷ 32 ∷ 125 ∷ 125 ∷ []) ≡ Some (path (variable (codes "r3")) ((codes "ping") ∷ []))
text_2993 = refl

text_2994 : template_of (123 ∷ 123 ∷ 32 ∷ 114 ∷ 51 ∷ 46 ∷ 114 ∷ 99 ∷ 32 ∷ 125 ∷ 125 ∷ []) ≡ Some (path (variable (codes "r3")) ((codes "rc") ∷ []))
text_2994 = refl

text_2995 : template_of (123 ∷ 123 ∷ 32 ∷ 114 ∷ 51 ∷ 46 ∷ 114 ∷ 101 ∷ 115 ∷ 117 ∷ 108 ∷ 116 ∷ 115 ∷ 32 ∷ 124 ∷ 32 ∷ 100 ∷ 101 ∷ 102 ∷ 97 ∷ 117 ∷ 108 ∷ 116 ∷ 40 ∷ 91 ∷ 93 ∷ 41 ∷ 32 ∷ 125 ∷ 125 ∷ []) ≡ Some (path_or (variable (codes "r3")) ((codes "results") ∷ []) (list_of (no_expressions)))
text_2995 = refl

text_2996 : template_of (123 ∷ 123 ∷ 32 ∷ 114 ∷ 51 ∷ 46 ∷ 114 ∷ 101 ∷ 115 ∷ 117 ∷ 108 ∷ 116 ∷ 115 ∷ 32 ∷ 124 ∷ 32 ∷ 108 ∷ 101 ∷ 110 ∷ 103 ∷ 116 ∷ 104 ∷ 32 ∷ 125 ∷ 125 ∷ []) ≡ Some (length_of (path (variable (codes "r3")) ((codes "results") ∷ [])))
text_2996 = refl

text_2997 : template_of (123 ∷ 123 ∷ 32 ∷ 114 ∷ 51 ∷ 46 ∷ 114 ∷ 101 ∷ 115 ∷ 117 ∷ 108 ∷ 116 ∷ 115 ∷ 32 ∷ 125 ∷ 125 ∷ []) ≡ Some (path (variable (codes "r3")) ((codes "results") ∷ []))
text_2997 = refl

text_2998 : template_of (123 ∷ 123 ∷ 32 ∷ 114 ∷ 51 ∷ 46 ∷ 114 ∷ 111 ∷ 119 ∷ 115 ∷ 32 ∷ 124 ∷ 32 ∷ 100 ∷ 101 ∷ 102 ∷ 97 ∷ 117 ∷ 108 ∷ 116 ∷ 40 ∷ 49 ∷ 41 ∷ 32 ∷ 125 ∷ 125 ∷ []) ≡ Some (path_or (variable (codes "r3")) ((codes "rows") ∷ []) (literal (int (pos 1))))
text_2998 = refl

text_2999 : template_of (123 ∷ 123 ∷ 32 ∷ 114 ∷ 51 ∷ 46 ∷ 114 ∷ 111 ∷ 119 ∷ 115 ∷ 32 ∷ 125 ∷ 125 ∷ []) ≡ Some (path (variable (codes "r3")) ((codes "rows") ∷ []))
text_2999 = refl
