-- The trees of expressions of cases, computed.
use Rattle.std.specs.Prelude.{◌≡◌, refl, pos, [], ◌∷◌, true, false, Some, None, codes}
use Rattle.pb_semantics.specs.Data.{boolean, int}
use Rattle.pb_language.specs.Expression.{equal, less, is_failed, is_changed, is_skipped, this_host, item_host, literal, path, negation, conjunction, disjunction, comparison, in_batch, defined, path_status, path_or, length_of, list_of, variable, other, no_expressions, expression}
use Rattle.pb_language.specs.Grammar.{expression_of}

text_750 : expression_of (32 ∷ 114 ∷ 51 ∷ 46 ∷ 102 ∷ 97 ∷ 105 ∷ 108 ∷ 101 ∷ 100 ∷ 32 ∷ 124 ∷ 32 ∷ 100 ∷ 101 ∷ 102 ∷ 97 ∷ 117 ∷ 108 ∷ 116 ∷ 40 ∷ 91 ∷ 93 ∷ 41 ∷ 32 ∷ []) ≡ Some (path_or (variable (codes "r3")) ((codes "failed") ∷ []) (list_of (no_expressions)))
text_750 = refl

text_751 : expression_of (32 ∷ 114 ∷ 51 ∷ 46 ∷ 102 ∷ 97 ∷ 105 ∷ 108 ∷ 101 ∷ 100 ∷ 32 ∷ 124 ∷ 32 ∷ 100 ∷ 101 ∷ 102 ∷ 97 ∷ 117 ∷ 108 ∷ 116 ∷ 40 ∷ 115 ∷ 49 ∷ 41 ∷ 32 ∷ []) ≡ Some (path_or (variable (codes "r3")) ((codes "failed") ∷ []) (path (variable (codes "s1")) ([])))
text_751 = refl

text_752 : expression_of (32 ∷ 114 ∷ 51 ∷ 46 ∷ 102 ∷ 97 ∷ 105 ∷ 108 ∷ 101 ∷ 100 ∷ 32 ∷ 124 ∷ 32 ∷ 108 ∷ 101 ∷ 110 ∷ 103 ∷ 116 ∷ 104 ∷ 32 ∷ []) ≡ Some (length_of (path (variable (codes "r3")) ((codes "failed") ∷ [])))
text_752 = refl

text_753 : expression_of (codes " r3.msg ") ≡ Some (path (variable (codes "r3")) ((codes "msg") ∷ []))
text_753 = refl

text_754 : expression_of (32 ∷ 114 ∷ 51 ∷ 46 ∷ 109 ∷ 115 ∷ 103 ∷ 32 ∷ 124 ∷ 32 ∷ 100 ∷ 101 ∷ 102 ∷ 97 ∷ 117 ∷ 108 ∷ 116 ∷ 40 ∷ 91 ∷ 93 ∷ 41 ∷ 32 ∷ []) ≡ Some (path_or (variable (codes "r3")) ((codes "msg") ∷ []) (list_of (no_expressions)))
text_754 = refl

text_755 : expression_of (32 ∷ 114 ∷ 51 ∷ 46 ∷ 109 ∷ 115 ∷ 103 ∷ 32 ∷ 124 ∷ 32 ∷ 100 ∷ 101 ∷ 102 ∷ 97 ∷ 117 ∷ 108 ∷ 116 ∷ 40 ∷ 115 ∷ 49 ∷ 41 ∷ 32 ∷ []) ≡ Some (path_or (variable (codes "r3")) ((codes "msg") ∷ []) (path (variable (codes "s1")) ([])))
text_755 = refl

text_756 : expression_of (32 ∷ 114 ∷ 51 ∷ 46 ∷ 109 ∷ 115 ∷ 103 ∷ 32 ∷ 124 ∷ 32 ∷ 108 ∷ 101 ∷ 110 ∷ 103 ∷ 116 ∷ 104 ∷ 32 ∷ []) ≡ Some (length_of (path (variable (codes "r3")) ((codes "msg") ∷ [])))
text_756 = refl

text_757 : expression_of (codes " r3.ping ") ≡ Some (path (variable (codes "r3")) ((codes "ping") ∷ []))
text_757 = refl

text_758 : expression_of (codes " r3.rc ") ≡ Some (path (variable (codes "r3")) ((codes "rc") ∷ []))
text_758 = refl

text_759 : expression_of (codes " r3.results ") ≡ Some (path (variable (codes "r3")) ((codes "results") ∷ []))
text_759 = refl

text_760 : expression_of (32 ∷ 114 ∷ 51 ∷ 46 ∷ 114 ∷ 101 ∷ 115 ∷ 117 ∷ 108 ∷ 116 ∷ 115 ∷ 32 ∷ 124 ∷ 32 ∷ 100 ∷ 101 ∷ 102 ∷ 97 ∷ 117 ∷ 108 ∷ 116 ∷ 40 ∷ 91 ∷ 93 ∷ 41 ∷ 32 ∷ []) ≡ Some (path_or (variable (codes "r3")) ((codes "results") ∷ []) (list_of (no_expressions)))
text_760 = refl

text_761 : expression_of (32 ∷ 114 ∷ 51 ∷ 46 ∷ 114 ∷ 101 ∷ 115 ∷ 117 ∷ 108 ∷ 116 ∷ 115 ∷ 32 ∷ 124 ∷ 32 ∷ 108 ∷ 101 ∷ 110 ∷ 103 ∷ 116 ∷ 104 ∷ 32 ∷ []) ≡ Some (length_of (path (variable (codes "r3")) ((codes "results") ∷ [])))
text_761 = refl

text_762 : expression_of (codes " r3.rows ") ≡ Some (path (variable (codes "r3")) ((codes "rows") ∷ []))
text_762 = refl

text_763 : expression_of (32 ∷ 114 ∷ 51 ∷ 46 ∷ 114 ∷ 111 ∷ 119 ∷ 115 ∷ 32 ∷ 124 ∷ 32 ∷ 100 ∷ 101 ∷ 102 ∷ 97 ∷ 117 ∷ 108 ∷ 116 ∷ 40 ∷ 49 ∷ 41 ∷ 32 ∷ []) ≡ Some (path_or (variable (codes "r3")) ((codes "rows") ∷ []) (literal (int (pos 1))))
text_763 = refl

text_764 : expression_of (codes " r3.skip_reason ") ≡ Some (path (variable (codes "r3")) ((codes "skip_reason") ∷ []))
text_764 = refl

text_765 : expression_of (32 ∷ 114 ∷ 51 ∷ 46 ∷ 115 ∷ 107 ∷ 105 ∷ 112 ∷ 95 ∷ 114 ∷ 101 ∷ 97 ∷ 115 ∷ 111 ∷ 110 ∷ 32 ∷ 124 ∷ 32 ∷ 100 ∷ 101 ∷ 102 ∷ 97 ∷ 117 ∷ 108 ∷ 116 ∷ 40 ∷ 49 ∷ 41 ∷ 32 ∷ []) ≡ Some (path_or (variable (codes "r3")) ((codes "skip_reason") ∷ []) (literal (int (pos 1))))
text_765 = refl

text_766 : expression_of (codes " r3.skipped ") ≡ Some (path (variable (codes "r3")) ((codes "skipped") ∷ []))
text_766 = refl

text_767 : expression_of (32 ∷ 114 ∷ 51 ∷ 46 ∷ 115 ∷ 107 ∷ 105 ∷ 112 ∷ 112 ∷ 101 ∷ 100 ∷ 32 ∷ 124 ∷ 32 ∷ 100 ∷ 101 ∷ 102 ∷ 97 ∷ 117 ∷ 108 ∷ 116 ∷ 40 ∷ 49 ∷ 41 ∷ 32 ∷ []) ≡ Some (path_or (variable (codes "r3")) ((codes "skipped") ∷ []) (literal (int (pos 1))))
text_767 = refl

text_768 : expression_of (32 ∷ 114 ∷ 51 ∷ 46 ∷ 115 ∷ 107 ∷ 105 ∷ 112 ∷ 112 ∷ 101 ∷ 100 ∷ 32 ∷ 124 ∷ 32 ∷ 108 ∷ 101 ∷ 110 ∷ 103 ∷ 116 ∷ 104 ∷ 32 ∷ []) ≡ Some (length_of (path (variable (codes "r3")) ((codes "skipped") ∷ [])))
text_768 = refl

text_769 : expression_of (32 ∷ 114 ∷ 51 ∷ 46 ∷ 115 ∷ 116 ∷ 97 ∷ 116 ∷ 32 ∷ 124 ∷ 32 ∷ 100 ∷ 101 ∷ 102 ∷ 97 ∷ 117 ∷ 108 ∷ 116 ∷ 40 ∷ 49 ∷ 41 ∷ 32 ∷ []) ≡ Some (path_or (variable (codes "r3")) ((codes "stat") ∷ []) (literal (int (pos 1))))
text_769 = refl

text_770 : expression_of (codes " r3.stat.exists ") ≡ Some (path (variable (codes "r3")) ((codes "stat") ∷ (codes "exists") ∷ []))
text_770 = refl

text_771 : expression_of (codes " r3.stat.size ") ≡ Some (path (variable (codes "r3")) ((codes "stat") ∷ (codes "size") ∷ []))
text_771 = refl

text_772 : expression_of (codes " r3.stderr ") ≡ Some (path (variable (codes "r3")) ((codes "stderr") ∷ []))
text_772 = refl

text_773 : expression_of (32 ∷ 114 ∷ 51 ∷ 46 ∷ 115 ∷ 116 ∷ 100 ∷ 101 ∷ 114 ∷ 114 ∷ 32 ∷ 124 ∷ 32 ∷ 100 ∷ 101 ∷ 102 ∷ 97 ∷ 117 ∷ 108 ∷ 116 ∷ 40 ∷ 49 ∷ 41 ∷ 32 ∷ []) ≡ Some (path_or (variable (codes "r3")) ((codes "stderr") ∷ []) (literal (int (pos 1))))
text_773 = refl

text_774 : expression_of (32 ∷ 114 ∷ 51 ∷ 46 ∷ 115 ∷ 116 ∷ 100 ∷ 101 ∷ 114 ∷ 114 ∷ 32 ∷ 124 ∷ 32 ∷ 108 ∷ 101 ∷ 110 ∷ 103 ∷ 116 ∷ 104 ∷ 32 ∷ []) ≡ Some (length_of (path (variable (codes "r3")) ((codes "stderr") ∷ [])))
text_774 = refl

text_775 : expression_of (codes " r3.stdout ") ≡ Some (path (variable (codes "r3")) ((codes "stdout") ∷ []))
text_775 = refl

text_776 : expression_of (codes " r3.stdout_lines ") ≡ Some (path (variable (codes "r3")) ((codes "stdout_lines") ∷ []))
text_776 = refl

text_777 : expression_of (32 ∷ 114 ∷ 51 ∷ 46 ∷ 115 ∷ 116 ∷ 100 ∷ 111 ∷ 117 ∷ 116 ∷ 95 ∷ 108 ∷ 105 ∷ 110 ∷ 101 ∷ 115 ∷ 32 ∷ 124 ∷ 32 ∷ 100 ∷ 101 ∷ 102 ∷ 97 ∷ 117 ∷ 108 ∷ 116 ∷ 40 ∷ 91 ∷ 93 ∷ 41 ∷ 32 ∷ []) ≡ Some (path_or (variable (codes "r3")) ((codes "stdout_lines") ∷ []) (list_of (no_expressions)))
text_777 = refl

text_778 : expression_of (codes " r3.v ") ≡ Some (path (variable (codes "r3")) ((codes "v") ∷ []))
text_778 = refl

text_779 : expression_of (codes " r3.why ") ≡ Some (path (variable (codes "r3")) ((codes "why") ∷ []))
text_779 = refl

text_780 : expression_of (codes " s ") ≡ Some (path (variable (codes "s")) ([]))
text_780 = refl

text_781 : expression_of (codes " s is not defined ") ≡ Some (negation (defined (variable (codes "s")) ([])))
text_781 = refl

text_782 : expression_of (32 ∷ 115 ∷ 32 ∷ 124 ∷ 32 ∷ 108 ∷ 101 ∷ 110 ∷ 103 ∷ 116 ∷ 104 ∷ 32 ∷ []) ≡ Some (length_of (path (variable (codes "s")) ([])))
text_782 = refl

text_783 : expression_of (codes " s.changed ") ≡ Some (path (variable (codes "s")) ((codes "changed") ∷ []))
text_783 = refl

text_784 : expression_of (32 ∷ 115 ∷ 46 ∷ 99 ∷ 104 ∷ 97 ∷ 110 ∷ 103 ∷ 101 ∷ 100 ∷ 32 ∷ 124 ∷ 32 ∷ 100 ∷ 101 ∷ 102 ∷ 97 ∷ 117 ∷ 108 ∷ 116 ∷ 40 ∷ 103 ∷ 114 ∷ 111 ∷ 117 ∷ 112 ∷ 95 ∷ 110 ∷ 97 ∷ 109 ∷ 101 ∷ 115 ∷ 46 ∷ 115 ∷ 116 ∷ 100 ∷ 111 ∷ 117 ∷ 116 ∷ 41 ∷ 32 ∷ []) ≡ Some (path_or (variable (codes "s")) ((codes "changed") ∷ []) (path (variable (codes "group_names")) ((codes "stdout") ∷ [])))
text_784 = refl

text_785 : expression_of (32 ∷ 115 ∷ 46 ∷ 99 ∷ 104 ∷ 97 ∷ 110 ∷ 103 ∷ 101 ∷ 100 ∷ 32 ∷ 124 ∷ 32 ∷ 108 ∷ 101 ∷ 110 ∷ 103 ∷ 116 ∷ 104 ∷ 32 ∷ []) ≡ Some (length_of (path (variable (codes "s")) ((codes "changed") ∷ [])))
text_785 = refl

text_786 : expression_of (codes " s.hostname ") ≡ Some (path (variable (codes "s")) ((codes "hostname") ∷ []))
text_786 = refl

text_787 : expression_of (codes " s.os_family ") ≡ Some (path (variable (codes "s")) ((codes "os_family") ∷ []))
text_787 = refl

text_788 : expression_of (32 ∷ 115 ∷ 46 ∷ 111 ∷ 115 ∷ 95 ∷ 102 ∷ 97 ∷ 109 ∷ 105 ∷ 108 ∷ 121 ∷ 32 ∷ 124 ∷ 32 ∷ 108 ∷ 101 ∷ 110 ∷ 103 ∷ 116 ∷ 104 ∷ 32 ∷ []) ≡ Some (length_of (path (variable (codes "s")) ((codes "os_family") ∷ [])))
text_788 = refl

text_789 : expression_of (codes " s.stat.isdir ") ≡ Some (path (variable (codes "s")) ((codes "stat") ∷ (codes "isdir") ∷ []))
text_789 = refl

text_790 : expression_of (32 ∷ 115 ∷ 46 ∷ 115 ∷ 116 ∷ 97 ∷ 116 ∷ 46 ∷ 105 ∷ 115 ∷ 100 ∷ 105 ∷ 114 ∷ 32 ∷ 124 ∷ 32 ∷ 100 ∷ 101 ∷ 102 ∷ 97 ∷ 117 ∷ 108 ∷ 116 ∷ 40 ∷ 49 ∷ 41 ∷ 32 ∷ []) ≡ Some (path_or (variable (codes "s")) ((codes "stat") ∷ (codes "isdir") ∷ []) (literal (int (pos 1))))
text_790 = refl

text_791 : expression_of (codes " s.stdout is defined ") ≡ Some (defined (variable (codes "s")) ((codes "stdout") ∷ []))
text_791 = refl

text_792 : expression_of (codes " s.stdout_lines ") ≡ Some (path (variable (codes "s")) ((codes "stdout_lines") ∷ []))
text_792 = refl

text_793 : expression_of (32 ∷ 115 ∷ 46 ∷ 115 ∷ 116 ∷ 100 ∷ 111 ∷ 117 ∷ 116 ∷ 95 ∷ 108 ∷ 105 ∷ 110 ∷ 101 ∷ 115 ∷ 32 ∷ 124 ∷ 32 ∷ 108 ∷ 101 ∷ 110 ∷ 103 ∷ 116 ∷ 104 ∷ 32 ∷ []) ≡ Some (length_of (path (variable (codes "s")) ((codes "stdout_lines") ∷ [])))
text_793 = refl

text_794 : expression_of (codes " s1 ") ≡ Some (path (variable (codes "s1")) ([]))
text_794 = refl

text_795 : expression_of (32 ∷ 115 ∷ 49 ∷ 32 ∷ 124 ∷ 32 ∷ 100 ∷ 101 ∷ 102 ∷ 97 ∷ 117 ∷ 108 ∷ 116 ∷ 40 ∷ 49 ∷ 41 ∷ 32 ∷ []) ≡ Some (path_or (variable (codes "s1")) ([]) (literal (int (pos 1))))
text_795 = refl

text_796 : expression_of (32 ∷ 115 ∷ 49 ∷ 32 ∷ 124 ∷ 32 ∷ 100 ∷ 101 ∷ 102 ∷ 97 ∷ 117 ∷ 108 ∷ 116 ∷ 40 ∷ 91 ∷ 93 ∷ 41 ∷ 32 ∷ []) ≡ Some (path_or (variable (codes "s1")) ([]) (list_of (no_expressions)))
text_796 = refl

text_797 : expression_of (32 ∷ 115 ∷ 49 ∷ 32 ∷ 124 ∷ 32 ∷ 100 ∷ 101 ∷ 102 ∷ 97 ∷ 117 ∷ 108 ∷ 116 ∷ 40 ∷ 115 ∷ 49 ∷ 41 ∷ 32 ∷ []) ≡ Some (path_or (variable (codes "s1")) ([]) (path (variable (codes "s1")) ([])))
text_797 = refl

text_798 : expression_of (32 ∷ 115 ∷ 49 ∷ 32 ∷ 124 ∷ 32 ∷ 108 ∷ 101 ∷ 110 ∷ 103 ∷ 116 ∷ 104 ∷ 32 ∷ []) ≡ Some (length_of (path (variable (codes "s1")) ([])))
text_798 = refl

text_799 : expression_of (codes " s1.changed ") ≡ Some (path (variable (codes "s1")) ((codes "changed") ∷ []))
text_799 = refl

text_800 : expression_of (32 ∷ 115 ∷ 49 ∷ 46 ∷ 99 ∷ 104 ∷ 97 ∷ 110 ∷ 103 ∷ 101 ∷ 100 ∷ 32 ∷ 124 ∷ 32 ∷ 100 ∷ 101 ∷ 102 ∷ 97 ∷ 117 ∷ 108 ∷ 116 ∷ 40 ∷ 49 ∷ 41 ∷ 32 ∷ []) ≡ Some (path_or (variable (codes "s1")) ((codes "changed") ∷ []) (literal (int (pos 1))))
text_800 = refl

text_801 : expression_of (32 ∷ 115 ∷ 49 ∷ 46 ∷ 99 ∷ 104 ∷ 97 ∷ 110 ∷ 103 ∷ 101 ∷ 100 ∷ 32 ∷ 124 ∷ 32 ∷ 100 ∷ 101 ∷ 102 ∷ 97 ∷ 117 ∷ 108 ∷ 116 ∷ 40 ∷ 91 ∷ 93 ∷ 41 ∷ 32 ∷ []) ≡ Some (path_or (variable (codes "s1")) ((codes "changed") ∷ []) (list_of (no_expressions)))
text_801 = refl

text_802 : expression_of (32 ∷ 115 ∷ 49 ∷ 46 ∷ 99 ∷ 104 ∷ 97 ∷ 110 ∷ 103 ∷ 101 ∷ 100 ∷ 32 ∷ 124 ∷ 32 ∷ 108 ∷ 101 ∷ 110 ∷ 103 ∷ 116 ∷ 104 ∷ 32 ∷ []) ≡ Some (length_of (path (variable (codes "s1")) ((codes "changed") ∷ [])))
text_802 = refl

text_803 : expression_of (codes " s1.f ") ≡ Some (path (variable (codes "s1")) ((codes "f") ∷ []))
text_803 = refl

text_804 : expression_of (32 ∷ 115 ∷ 49 ∷ 46 ∷ 102 ∷ 32 ∷ 124 ∷ 32 ∷ 100 ∷ 101 ∷ 102 ∷ 97 ∷ 117 ∷ 108 ∷ 116 ∷ 40 ∷ 115 ∷ 49 ∷ 41 ∷ 32 ∷ []) ≡ Some (path_or (variable (codes "s1")) ((codes "f") ∷ []) (path (variable (codes "s1")) ([])))
text_804 = refl

text_805 : expression_of (32 ∷ 115 ∷ 49 ∷ 46 ∷ 102 ∷ 32 ∷ 124 ∷ 32 ∷ 108 ∷ 101 ∷ 110 ∷ 103 ∷ 116 ∷ 104 ∷ 32 ∷ []) ≡ Some (length_of (path (variable (codes "s1")) ((codes "f") ∷ [])))
text_805 = refl

text_806 : expression_of (codes " s1.failed ") ≡ Some (path (variable (codes "s1")) ((codes "failed") ∷ []))
text_806 = refl

text_807 : expression_of (codes " s1.g ") ≡ Some (path (variable (codes "s1")) ((codes "g") ∷ []))
text_807 = refl

text_808 : expression_of (codes " s1.rc ") ≡ Some (path (variable (codes "s1")) ((codes "rc") ∷ []))
text_808 = refl

text_809 : expression_of (32 ∷ 115 ∷ 49 ∷ 46 ∷ 114 ∷ 99 ∷ 32 ∷ 124 ∷ 32 ∷ 100 ∷ 101 ∷ 102 ∷ 97 ∷ 117 ∷ 108 ∷ 116 ∷ 40 ∷ 49 ∷ 41 ∷ 32 ∷ []) ≡ Some (path_or (variable (codes "s1")) ((codes "rc") ∷ []) (literal (int (pos 1))))
text_809 = refl

text_810 : expression_of (32 ∷ 115 ∷ 49 ∷ 46 ∷ 114 ∷ 99 ∷ 32 ∷ 124 ∷ 32 ∷ 100 ∷ 101 ∷ 102 ∷ 97 ∷ 117 ∷ 108 ∷ 116 ∷ 40 ∷ 91 ∷ 93 ∷ 41 ∷ 32 ∷ []) ≡ Some (path_or (variable (codes "s1")) ((codes "rc") ∷ []) (list_of (no_expressions)))
text_810 = refl

text_811 : expression_of (32 ∷ 115 ∷ 49 ∷ 46 ∷ 114 ∷ 99 ∷ 32 ∷ 124 ∷ 32 ∷ 100 ∷ 101 ∷ 102 ∷ 97 ∷ 117 ∷ 108 ∷ 116 ∷ 40 ∷ 115 ∷ 49 ∷ 41 ∷ 32 ∷ []) ≡ Some (path_or (variable (codes "s1")) ((codes "rc") ∷ []) (path (variable (codes "s1")) ([])))
text_811 = refl

text_812 : expression_of (codes " s1.stderr_lines ") ≡ Some (path (variable (codes "s1")) ((codes "stderr_lines") ∷ []))
text_812 = refl

text_813 : expression_of (codes " s1.stdout ") ≡ Some (path (variable (codes "s1")) ((codes "stdout") ∷ []))
text_813 = refl

text_814 : expression_of (32 ∷ 115 ∷ 49 ∷ 46 ∷ 115 ∷ 116 ∷ 100 ∷ 111 ∷ 117 ∷ 116 ∷ 32 ∷ 124 ∷ 32 ∷ 100 ∷ 101 ∷ 102 ∷ 97 ∷ 117 ∷ 108 ∷ 116 ∷ 40 ∷ 115 ∷ 49 ∷ 41 ∷ 32 ∷ []) ≡ Some (path_or (variable (codes "s1")) ((codes "stdout") ∷ []) (path (variable (codes "s1")) ([])))
text_814 = refl

text_815 : expression_of (codes " s1==true and not false ") ≡ Some (conjunction (expression (comparison equal (path (variable (codes "s1")) ([])) (literal (boolean true))) (expression (negation (literal (boolean false))) (no_expressions))))
text_815 = refl

text_816 : expression_of (codes " s2 ") ≡ Some (path (variable (codes "s2")) ([]))
text_816 = refl

text_817 : expression_of (codes " s2 == true ") ≡ Some (comparison equal (path (variable (codes "s2")) ([])) (literal (boolean true)))
text_817 = refl

text_818 : expression_of (32 ∷ 115 ∷ 50 ∷ 32 ∷ 124 ∷ 32 ∷ 100 ∷ 101 ∷ 102 ∷ 97 ∷ 117 ∷ 108 ∷ 116 ∷ 40 ∷ 49 ∷ 41 ∷ 32 ∷ []) ≡ Some (path_or (variable (codes "s2")) ([]) (literal (int (pos 1))))
text_818 = refl

text_819 : expression_of (32 ∷ 115 ∷ 50 ∷ 32 ∷ 124 ∷ 32 ∷ 100 ∷ 101 ∷ 102 ∷ 97 ∷ 117 ∷ 108 ∷ 116 ∷ 40 ∷ 91 ∷ 93 ∷ 41 ∷ 32 ∷ []) ≡ Some (path_or (variable (codes "s2")) ([]) (list_of (no_expressions)))
text_819 = refl

text_820 : expression_of (32 ∷ 115 ∷ 50 ∷ 32 ∷ 124 ∷ 32 ∷ 100 ∷ 101 ∷ 102 ∷ 97 ∷ 117 ∷ 108 ∷ 116 ∷ 40 ∷ 115 ∷ 49 ∷ 41 ∷ 32 ∷ []) ≡ Some (path_or (variable (codes "s2")) ([]) (path (variable (codes "s1")) ([])))
text_820 = refl

text_821 : expression_of (32 ∷ 115 ∷ 50 ∷ 32 ∷ 124 ∷ 32 ∷ 108 ∷ 101 ∷ 110 ∷ 103 ∷ 116 ∷ 104 ∷ 32 ∷ []) ≡ Some (length_of (path (variable (codes "s2")) ([])))
text_821 = refl

text_822 : expression_of (codes " s2.changed ") ≡ Some (path (variable (codes "s2")) ((codes "changed") ∷ []))
text_822 = refl

text_823 : expression_of (codes " s2.f ") ≡ Some (path (variable (codes "s2")) ((codes "f") ∷ []))
text_823 = refl

text_824 : expression_of (32 ∷ 115 ∷ 50 ∷ 46 ∷ 102 ∷ 32 ∷ 124 ∷ 32 ∷ 100 ∷ 101 ∷ 102 ∷ 97 ∷ 117 ∷ 108 ∷ 116 ∷ 40 ∷ 115 ∷ 49 ∷ 41 ∷ 32 ∷ []) ≡ Some (path_or (variable (codes "s2")) ((codes "f") ∷ []) (path (variable (codes "s1")) ([])))
text_824 = refl

text_825 : expression_of (codes " s2.g ") ≡ Some (path (variable (codes "s2")) ((codes "g") ∷ []))
text_825 = refl

text_826 : expression_of (32 ∷ 115 ∷ 50 ∷ 46 ∷ 103 ∷ 32 ∷ 124 ∷ 32 ∷ 108 ∷ 101 ∷ 110 ∷ 103 ∷ 116 ∷ 104 ∷ 32 ∷ []) ≡ Some (length_of (path (variable (codes "s2")) ((codes "g") ∷ [])))
text_826 = refl

text_827 : expression_of (codes " s2.rc ") ≡ Some (path (variable (codes "s2")) ((codes "rc") ∷ []))
text_827 = refl

text_828 : expression_of (codes " s2.stderr ") ≡ Some (path (variable (codes "s2")) ((codes "stderr") ∷ []))
text_828 = refl

text_829 : expression_of (codes " s2.stdout ") ≡ Some (path (variable (codes "s2")) ((codes "stdout") ∷ []))
text_829 = refl

text_830 : expression_of (32 ∷ 115 ∷ 50 ∷ 46 ∷ 115 ∷ 116 ∷ 100 ∷ 111 ∷ 117 ∷ 116 ∷ 32 ∷ 124 ∷ 32 ∷ 108 ∷ 101 ∷ 110 ∷ 103 ∷ 116 ∷ 104 ∷ 32 ∷ []) ≡ Some (length_of (path (variable (codes "s2")) ((codes "stdout") ∷ [])))
text_830 = refl

text_831 : expression_of (codes " s3 ") ≡ Some (path (variable (codes "s3")) ([]))
text_831 = refl

text_832 : expression_of (32 ∷ 115 ∷ 51 ∷ 32 ∷ 124 ∷ 32 ∷ 100 ∷ 101 ∷ 102 ∷ 97 ∷ 117 ∷ 108 ∷ 116 ∷ 40 ∷ 49 ∷ 41 ∷ 32 ∷ []) ≡ Some (path_or (variable (codes "s3")) ([]) (literal (int (pos 1))))
text_832 = refl

text_833 : expression_of (32 ∷ 115 ∷ 51 ∷ 32 ∷ 124 ∷ 32 ∷ 100 ∷ 101 ∷ 102 ∷ 97 ∷ 117 ∷ 108 ∷ 116 ∷ 40 ∷ 91 ∷ 93 ∷ 41 ∷ 32 ∷ []) ≡ Some (path_or (variable (codes "s3")) ([]) (list_of (no_expressions)))
text_833 = refl

text_834 : expression_of (32 ∷ 115 ∷ 51 ∷ 32 ∷ 124 ∷ 32 ∷ 100 ∷ 101 ∷ 102 ∷ 97 ∷ 117 ∷ 108 ∷ 116 ∷ 40 ∷ 115 ∷ 49 ∷ 41 ∷ 32 ∷ []) ≡ Some (path_or (variable (codes "s3")) ([]) (path (variable (codes "s1")) ([])))
text_834 = refl

text_835 : expression_of (32 ∷ 115 ∷ 51 ∷ 32 ∷ 124 ∷ 32 ∷ 108 ∷ 101 ∷ 110 ∷ 103 ∷ 116 ∷ 104 ∷ 32 ∷ []) ≡ Some (length_of (path (variable (codes "s3")) ([])))
text_835 = refl

text_836 : expression_of (codes " s3.changed ") ≡ Some (path (variable (codes "s3")) ((codes "changed") ∷ []))
text_836 = refl

text_837 : expression_of (codes " s3.f ") ≡ Some (path (variable (codes "s3")) ((codes "f") ∷ []))
text_837 = refl

text_838 : expression_of (32 ∷ 115 ∷ 51 ∷ 46 ∷ 102 ∷ 32 ∷ 124 ∷ 32 ∷ 100 ∷ 101 ∷ 102 ∷ 97 ∷ 117 ∷ 108 ∷ 116 ∷ 40 ∷ 91 ∷ 93 ∷ 41 ∷ 32 ∷ []) ≡ Some (path_or (variable (codes "s3")) ((codes "f") ∷ []) (list_of (no_expressions)))
text_838 = refl

text_839 : expression_of (codes " s3.g ") ≡ Some (path (variable (codes "s3")) ((codes "g") ∷ []))
text_839 = refl

text_840 : expression_of (32 ∷ 115 ∷ 51 ∷ 46 ∷ 103 ∷ 32 ∷ 124 ∷ 32 ∷ 100 ∷ 101 ∷ 102 ∷ 97 ∷ 117 ∷ 108 ∷ 116 ∷ 40 ∷ 49 ∷ 41 ∷ 32 ∷ []) ≡ Some (path_or (variable (codes "s3")) ((codes "g") ∷ []) (literal (int (pos 1))))
text_840 = refl

text_841 : expression_of (codes " s3.rc ") ≡ Some (path (variable (codes "s3")) ((codes "rc") ∷ []))
text_841 = refl

text_842 : expression_of (32 ∷ 115 ∷ 51 ∷ 46 ∷ 114 ∷ 99 ∷ 32 ∷ 124 ∷ 32 ∷ 100 ∷ 101 ∷ 102 ∷ 97 ∷ 117 ∷ 108 ∷ 116 ∷ 40 ∷ 49 ∷ 41 ∷ 32 ∷ []) ≡ Some (path_or (variable (codes "s3")) ((codes "rc") ∷ []) (literal (int (pos 1))))
text_842 = refl

text_843 : expression_of (32 ∷ 115 ∷ 51 ∷ 46 ∷ 114 ∷ 99 ∷ 32 ∷ 124 ∷ 32 ∷ 108 ∷ 101 ∷ 110 ∷ 103 ∷ 116 ∷ 104 ∷ 32 ∷ []) ≡ Some (length_of (path (variable (codes "s3")) ((codes "rc") ∷ [])))
text_843 = refl

text_844 : expression_of (codes " s3.stdout ") ≡ Some (path (variable (codes "s3")) ((codes "stdout") ∷ []))
text_844 = refl

text_845 : expression_of (32 ∷ 115 ∷ 51 ∷ 46 ∷ 115 ∷ 116 ∷ 100 ∷ 111 ∷ 117 ∷ 116 ∷ 32 ∷ 124 ∷ 32 ∷ 108 ∷ 101 ∷ 110 ∷ 103 ∷ 116 ∷ 104 ∷ 32 ∷ []) ≡ Some (length_of (path (variable (codes "s3")) ((codes "stdout") ∷ [])))
text_845 = refl

text_846 : expression_of (codes " true ") ≡ Some (literal (boolean true))
text_846 = refl

text_847 : expression_of (codes " v ") ≡ Some (path (variable (codes "v")) ([]))
text_847 = refl

text_848 : expression_of (codes " v < 1 ") ≡ Some (comparison less (path (variable (codes "v")) ([])) (literal (int (pos 1))))
text_848 = refl

text_849 : expression_of (codes " v is defined ") ≡ Some (defined (variable (codes "v")) ([]))
text_849 = refl

text_850 : expression_of (32 ∷ 118 ∷ 32 ∷ 124 ∷ 32 ∷ 100 ∷ 101 ∷ 102 ∷ 97 ∷ 117 ∷ 108 ∷ 116 ∷ 40 ∷ 49 ∷ 41 ∷ 32 ∷ []) ≡ Some (path_or (variable (codes "v")) ([]) (literal (int (pos 1))))
text_850 = refl

text_851 : expression_of (codes " v.a ") ≡ Some (path (variable (codes "v")) ((codes "a") ∷ []))
text_851 = refl

text_852 : expression_of (codes " v1 ") ≡ Some (path (variable (codes "v1")) ([]))
text_852 = refl

text_853 : expression_of (32 ∷ 118 ∷ 49 ∷ 32 ∷ 124 ∷ 32 ∷ 100 ∷ 101 ∷ 102 ∷ 97 ∷ 117 ∷ 108 ∷ 116 ∷ 40 ∷ 105 ∷ 116 ∷ 101 ∷ 109 ∷ 41 ∷ 32 ∷ []) ≡ Some (path_or (variable (codes "v1")) ([]) (path (variable (codes "item")) ([])))
text_853 = refl

text_854 : expression_of (32 ∷ 118 ∷ 49 ∷ 32 ∷ 124 ∷ 32 ∷ 108 ∷ 101 ∷ 110 ∷ 103 ∷ 116 ∷ 104 ∷ 32 ∷ []) ≡ Some (length_of (path (variable (codes "v1")) ([])))
text_854 = refl

text_855 : expression_of (codes " v1.g ") ≡ Some (path (variable (codes "v1")) ((codes "g") ∷ []))
text_855 = refl

text_856 : expression_of (codes " v1.os_family ") ≡ Some (path (variable (codes "v1")) ((codes "os_family") ∷ []))
text_856 = refl

text_857 : expression_of (32 ∷ 118 ∷ 49 ∷ 46 ∷ 111 ∷ 115 ∷ 95 ∷ 102 ∷ 97 ∷ 109 ∷ 105 ∷ 108 ∷ 121 ∷ 32 ∷ 124 ∷ 32 ∷ 100 ∷ 101 ∷ 102 ∷ 97 ∷ 117 ∷ 108 ∷ 116 ∷ 40 ∷ 49 ∷ 41 ∷ 32 ∷ []) ≡ Some (path_or (variable (codes "v1")) ((codes "os_family") ∷ []) (literal (int (pos 1))))
text_857 = refl

text_858 : expression_of (32 ∷ 118 ∷ 49 ∷ 46 ∷ 111 ∷ 115 ∷ 95 ∷ 102 ∷ 97 ∷ 109 ∷ 105 ∷ 108 ∷ 121 ∷ 32 ∷ 124 ∷ 32 ∷ 108 ∷ 101 ∷ 110 ∷ 103 ∷ 116 ∷ 104 ∷ 32 ∷ []) ≡ Some (length_of (path (variable (codes "v1")) ((codes "os_family") ∷ [])))
text_858 = refl

text_859 : expression_of (32 ∷ 118 ∷ 49 ∷ 46 ∷ 114 ∷ 99 ∷ 32 ∷ 124 ∷ 32 ∷ 100 ∷ 101 ∷ 102 ∷ 97 ∷ 117 ∷ 108 ∷ 116 ∷ 40 ∷ 115 ∷ 49 ∷ 41 ∷ 32 ∷ []) ≡ Some (path_or (variable (codes "v1")) ((codes "rc") ∷ []) (path (variable (codes "s1")) ([])))
text_859 = refl

text_860 : expression_of (codes " v1.results ") ≡ Some (path (variable (codes "v1")) ((codes "results") ∷ []))
text_860 = refl

text_861 : expression_of (codes " v1.stdout_lines is not skipped ") ≡ Some (negation (path_status is_skipped (variable (codes "v1")) ((codes "stdout_lines") ∷ [])))
text_861 = refl

text_862 : expression_of (codes " v2 ") ≡ Some (path (variable (codes "v2")) ([]))
text_862 = refl

text_863 : expression_of (32 ∷ 118 ∷ 50 ∷ 32 ∷ 124 ∷ 32 ∷ 100 ∷ 101 ∷ 102 ∷ 97 ∷ 117 ∷ 108 ∷ 116 ∷ 40 ∷ 91 ∷ 93 ∷ 41 ∷ 32 ∷ []) ≡ Some (path_or (variable (codes "v2")) ([]) (list_of (no_expressions)))
text_863 = refl

text_864 : expression_of (32 ∷ 118 ∷ 50 ∷ 32 ∷ 124 ∷ 32 ∷ 100 ∷ 101 ∷ 102 ∷ 97 ∷ 117 ∷ 108 ∷ 116 ∷ 40 ∷ 111 ∷ 112 ∷ 113 ∷ 46 ∷ 115 ∷ 116 ∷ 100 ∷ 111 ∷ 117 ∷ 116 ∷ 95 ∷ 108 ∷ 105 ∷ 110 ∷ 101 ∷ 115 ∷ 41 ∷ 32 ∷ []) ≡ Some (path_or (variable (codes "v2")) ([]) (path (variable (codes "opq")) ((codes "stdout_lines") ∷ [])))
text_864 = refl

text_865 : expression_of (32 ∷ 118 ∷ 50 ∷ 32 ∷ 124 ∷ 32 ∷ 108 ∷ 101 ∷ 110 ∷ 103 ∷ 116 ∷ 104 ∷ 32 ∷ []) ≡ Some (length_of (path (variable (codes "v2")) ([])))
text_865 = refl

text_866 : expression_of (codes " v2.changed ") ≡ Some (path (variable (codes "v2")) ((codes "changed") ∷ []))
text_866 = refl

text_867 : expression_of (32 ∷ 118 ∷ 50 ∷ 46 ∷ 104 ∷ 111 ∷ 115 ∷ 116 ∷ 110 ∷ 97 ∷ 109 ∷ 101 ∷ 32 ∷ 124 ∷ 32 ∷ 100 ∷ 101 ∷ 102 ∷ 97 ∷ 117 ∷ 108 ∷ 116 ∷ 40 ∷ 49 ∷ 41 ∷ 32 ∷ []) ≡ Some (path_or (variable (codes "v2")) ((codes "hostname") ∷ []) (literal (int (pos 1))))
text_867 = refl

text_868 : expression_of (32 ∷ 118 ∷ 50 ∷ 46 ∷ 107 ∷ 32 ∷ 124 ∷ 32 ∷ 100 ∷ 101 ∷ 102 ∷ 97 ∷ 117 ∷ 108 ∷ 116 ∷ 40 ∷ 49 ∷ 41 ∷ 32 ∷ []) ≡ Some (path_or (variable (codes "v2")) ((codes "k") ∷ []) (literal (int (pos 1))))
text_868 = refl

text_869 : expression_of (codes " v2.os_family ") ≡ Some (path (variable (codes "v2")) ((codes "os_family") ∷ []))
text_869 = refl

text_870 : expression_of (codes " v2.rc ") ≡ Some (path (variable (codes "v2")) ((codes "rc") ∷ []))
text_870 = refl

text_871 : expression_of (codes " v2.rc is skipped ") ≡ Some (path_status is_skipped (variable (codes "v2")) ((codes "rc") ∷ []))
text_871 = refl

text_872 : expression_of (codes " v2.results ") ≡ Some (path (variable (codes "v2")) ((codes "results") ∷ []))
text_872 = refl

text_873 : expression_of (codes " v2.stat.isdir ") ≡ Some (path (variable (codes "v2")) ((codes "stat") ∷ (codes "isdir") ∷ []))
text_873 = refl

text_874 : expression_of (32 ∷ 118 ∷ 50 ∷ 46 ∷ 115 ∷ 116 ∷ 100 ∷ 111 ∷ 117 ∷ 116 ∷ 32 ∷ 124 ∷ 32 ∷ 108 ∷ 101 ∷ 110 ∷ 103 ∷ 116 ∷ 104 ∷ 32 ∷ []) ≡ Some (length_of (path (variable (codes "v2")) ((codes "stdout") ∷ [])))
text_874 = refl

text_875 : expression_of (codes " v2.stdout_lines ") ≡ Some (path (variable (codes "v2")) ((codes "stdout_lines") ∷ []))
text_875 = refl

text_876 : expression_of (codes " v2.stdout_lines == 1 ") ≡ Some (comparison equal (path (variable (codes "v2")) ((codes "stdout_lines") ∷ [])) (literal (int (pos 1))))
text_876 = refl

text_877 : expression_of (32 ∷ 118 ∷ 50 ∷ 46 ∷ 115 ∷ 116 ∷ 100 ∷ 111 ∷ 117 ∷ 116 ∷ 95 ∷ 108 ∷ 105 ∷ 110 ∷ 101 ∷ 115 ∷ 32 ∷ 124 ∷ 32 ∷ 100 ∷ 101 ∷ 102 ∷ 97 ∷ 117 ∷ 108 ∷ 116 ∷ 40 ∷ 49 ∷ 41 ∷ 32 ∷ []) ≡ Some (path_or (variable (codes "v2")) ((codes "stdout_lines") ∷ []) (literal (int (pos 1))))
text_877 = refl

text_878 : expression_of (codes " v3 ") ≡ Some (path (variable (codes "v3")) ([]))
text_878 = refl

text_879 : expression_of (32 ∷ 118 ∷ 51 ∷ 32 ∷ 124 ∷ 32 ∷ 100 ∷ 101 ∷ 102 ∷ 97 ∷ 117 ∷ 108 ∷ 116 ∷ 40 ∷ 49 ∷ 41 ∷ 32 ∷ []) ≡ Some (path_or (variable (codes "v3")) ([]) (literal (int (pos 1))))
text_879 = refl

text_880 : expression_of (codes " v3.f ") ≡ Some (path (variable (codes "v3")) ((codes "f") ∷ []))
text_880 = refl

text_881 : expression_of (codes " x ") ≡ Some (path (variable (codes "x")) ([]))
text_881 = refl

text_882 : expression_of (codes " x is defined ") ≡ Some (defined (variable (codes "x")) ([]))
text_882 = refl

text_883 : expression_of (32 ∷ 120 ∷ 32 ∷ 124 ∷ 32 ∷ 100 ∷ 101 ∷ 102 ∷ 97 ∷ 117 ∷ 108 ∷ 116 ∷ 40 ∷ 49 ∷ 41 ∷ 32 ∷ []) ≡ Some (path_or (variable (codes "x")) ([]) (literal (int (pos 1))))
text_883 = refl

text_884 : expression_of (codes " y ") ≡ Some (path (variable (codes "y")) ([]))
text_884 = refl

text_885 : expression_of (codes " y is failed ") ≡ Some (path_status is_failed (variable (codes "y")) ([]))
text_885 = refl

text_886 : expression_of (codes " y is undefined ") ≡ Some (negation (defined (variable (codes "y")) ([])))
text_886 = refl

text_887 : expression_of (32 ∷ 121 ∷ 32 ∷ 124 ∷ 32 ∷ 100 ∷ 101 ∷ 102 ∷ 97 ∷ 117 ∷ 108 ∷ 116 ∷ 40 ∷ 91 ∷ 93 ∷ 41 ∷ 32 ∷ []) ≡ Some (path_or (variable (codes "y")) ([]) (list_of (no_expressions)))
text_887 = refl

text_888 : expression_of (32 ∷ 121 ∷ 32 ∷ 124 ∷ 32 ∷ 108 ∷ 101 ∷ 110 ∷ 103 ∷ 116 ∷ 104 ∷ 32 ∷ []) ≡ Some (length_of (path (variable (codes "y")) ([])))
text_888 = refl

text_889 : expression_of (codes " y.changed ") ≡ Some (path (variable (codes "y")) ((codes "changed") ∷ []))
text_889 = refl

text_890 : expression_of (codes " y.changed == 1 ") ≡ Some (comparison equal (path (variable (codes "y")) ((codes "changed") ∷ [])) (literal (int (pos 1))))
text_890 = refl

text_891 : expression_of (32 ∷ 121 ∷ 46 ∷ 104 ∷ 111 ∷ 115 ∷ 116 ∷ 110 ∷ 97 ∷ 109 ∷ 101 ∷ 32 ∷ 124 ∷ 32 ∷ 108 ∷ 101 ∷ 110 ∷ 103 ∷ 116 ∷ 104 ∷ 32 ∷ []) ≡ Some (length_of (path (variable (codes "y")) ((codes "hostname") ∷ [])))
text_891 = refl

text_892 : expression_of (32 ∷ 121 ∷ 46 ∷ 109 ∷ 115 ∷ 103 ∷ 32 ∷ 124 ∷ 32 ∷ 100 ∷ 101 ∷ 102 ∷ 97 ∷ 117 ∷ 108 ∷ 116 ∷ 40 ∷ 49 ∷ 41 ∷ 32 ∷ []) ≡ Some (path_or (variable (codes "y")) ((codes "msg") ∷ []) (literal (int (pos 1))))
text_892 = refl

text_893 : expression_of (32 ∷ 121 ∷ 46 ∷ 109 ∷ 115 ∷ 103 ∷ 32 ∷ 124 ∷ 32 ∷ 100 ∷ 101 ∷ 102 ∷ 97 ∷ 117 ∷ 108 ∷ 116 ∷ 40 ∷ 91 ∷ 93 ∷ 41 ∷ 32 ∷ []) ≡ Some (path_or (variable (codes "y")) ((codes "msg") ∷ []) (list_of (no_expressions)))
text_893 = refl

text_894 : expression_of (32 ∷ 121 ∷ 46 ∷ 111 ∷ 115 ∷ 95 ∷ 102 ∷ 97 ∷ 109 ∷ 105 ∷ 108 ∷ 121 ∷ 32 ∷ 124 ∷ 32 ∷ 108 ∷ 101 ∷ 110 ∷ 103 ∷ 116 ∷ 104 ∷ 32 ∷ []) ≡ Some (length_of (path (variable (codes "y")) ((codes "os_family") ∷ [])))
text_894 = refl

text_895 : expression_of (codes " y.rc ") ≡ Some (path (variable (codes "y")) ((codes "rc") ∷ []))
text_895 = refl

text_896 : expression_of (codes " y.rc is failed ") ≡ Some (path_status is_failed (variable (codes "y")) ((codes "rc") ∷ []))
text_896 = refl

text_897 : expression_of (32 ∷ 121 ∷ 46 ∷ 114 ∷ 101 ∷ 115 ∷ 117 ∷ 108 ∷ 116 ∷ 115 ∷ 32 ∷ 124 ∷ 32 ∷ 108 ∷ 101 ∷ 110 ∷ 103 ∷ 116 ∷ 104 ∷ 32 ∷ []) ≡ Some (length_of (path (variable (codes "y")) ((codes "results") ∷ [])))
text_897 = refl

text_898 : expression_of (32 ∷ 121 ∷ 46 ∷ 115 ∷ 116 ∷ 97 ∷ 116 ∷ 46 ∷ 105 ∷ 115 ∷ 100 ∷ 105 ∷ 114 ∷ 32 ∷ 124 ∷ 32 ∷ 100 ∷ 101 ∷ 102 ∷ 97 ∷ 117 ∷ 108 ∷ 116 ∷ 40 ∷ 97 ∷ 110 ∷ 115 ∷ 105 ∷ 98 ∷ 108 ∷ 101 ∷ 95 ∷ 102 ∷ 97 ∷ 99 ∷ 116 ∷ 115 ∷ 46 ∷ 114 ∷ 101 ∷ 115 ∷ 117 ∷ 108 ∷ 116 ∷ 115 ∷ 41 ∷ 32 ∷ []) ≡ Some (path_or (variable (codes "y")) ((codes "stat") ∷ (codes "isdir") ∷ []) (path (variable (codes "ansible_facts")) ((codes "results") ∷ [])))
text_898 = refl

text_899 : expression_of (codes " zz ") ≡ Some (path (variable (codes "zz")) ([]))
text_899 = refl

text_900 : expression_of (32 ∷ 122 ∷ 122 ∷ 32 ∷ 61 ∷ 61 ∷ 32 ∷ 91 ∷ 110 ∷ 111 ∷ 116 ∷ 32 ∷ 49 ∷ 93 ∷ 32 ∷ []) ≡ Some (comparison equal (path (variable (codes "zz")) ([])) (list_of (expression (negation (literal (int (pos 1)))) (no_expressions))))
text_900 = refl

text_901 : expression_of (32 ∷ 122 ∷ 122 ∷ 46 ∷ 99 ∷ 104 ∷ 97 ∷ 110 ∷ 103 ∷ 101 ∷ 100 ∷ 32 ∷ 124 ∷ 32 ∷ 100 ∷ 101 ∷ 102 ∷ 97 ∷ 117 ∷ 108 ∷ 116 ∷ 40 ∷ 49 ∷ 41 ∷ 32 ∷ []) ≡ Some (path_or (variable (codes "zz")) ((codes "changed") ∷ []) (literal (int (pos 1))))
text_901 = refl

text_902 : expression_of (codes " zz.hostname ") ≡ Some (path (variable (codes "zz")) ((codes "hostname") ∷ []))
text_902 = refl

text_903 : expression_of (32 ∷ 122 ∷ 122 ∷ 46 ∷ 104 ∷ 111 ∷ 115 ∷ 116 ∷ 110 ∷ 97 ∷ 109 ∷ 101 ∷ 32 ∷ 124 ∷ 32 ∷ 100 ∷ 101 ∷ 102 ∷ 97 ∷ 117 ∷ 108 ∷ 116 ∷ 40 ∷ 104 ∷ 111 ∷ 115 ∷ 116 ∷ 118 ∷ 97 ∷ 114 ∷ 115 ∷ 91 ∷ 105 ∷ 116 ∷ 101 ∷ 109 ∷ 93 ∷ 46 ∷ 115 ∷ 46 ∷ 115 ∷ 116 ∷ 97 ∷ 116 ∷ 46 ∷ 105 ∷ 115 ∷ 100 ∷ 105 ∷ 114 ∷ 41 ∷ 32 ∷ []) ≡ Some (path_or (variable (codes "zz")) ((codes "hostname") ∷ []) (path (other item_host (codes "s")) ((codes "stat") ∷ (codes "isdir") ∷ [])))
text_903 = refl

text_904 : expression_of (32 ∷ 122 ∷ 122 ∷ 46 ∷ 114 ∷ 101 ∷ 115 ∷ 117 ∷ 108 ∷ 116 ∷ 115 ∷ 32 ∷ 124 ∷ 32 ∷ 100 ∷ 101 ∷ 102 ∷ 97 ∷ 117 ∷ 108 ∷ 116 ∷ 40 ∷ 49 ∷ 41 ∷ 32 ∷ []) ≡ Some (path_or (variable (codes "zz")) ((codes "results") ∷ []) (literal (int (pos 1))))
text_904 = refl

text_905 : expression_of (32 ∷ 122 ∷ 122 ∷ 46 ∷ 114 ∷ 101 ∷ 115 ∷ 117 ∷ 108 ∷ 116 ∷ 115 ∷ 32 ∷ 124 ∷ 32 ∷ 108 ∷ 101 ∷ 110 ∷ 103 ∷ 116 ∷ 104 ∷ 32 ∷ []) ≡ Some (length_of (path (variable (codes "zz")) ((codes "results") ∷ [])))
text_905 = refl

text_906 : expression_of (codes " zz.stat.isdir ") ≡ Some (path (variable (codes "zz")) ((codes "stat") ∷ (codes "isdir") ∷ []))
text_906 = refl

text_907 : expression_of (32 ∷ 122 ∷ 122 ∷ 46 ∷ 115 ∷ 116 ∷ 97 ∷ 116 ∷ 46 ∷ 105 ∷ 115 ∷ 100 ∷ 105 ∷ 114 ∷ 32 ∷ 124 ∷ 32 ∷ 108 ∷ 101 ∷ 110 ∷ 103 ∷ 116 ∷ 104 ∷ 32 ∷ []) ≡ Some (length_of (path (variable (codes "zz")) ((codes "stat") ∷ (codes "isdir") ∷ [])))
text_907 = refl

text_908 : expression_of (codes " zz.stdout_lines ") ≡ Some (path (variable (codes "zz")) ((codes "stdout_lines") ∷ []))
text_908 = refl

text_909 : expression_of (32 ∷ 123 ∷ 37 ∷ 32 ∷ []) ≡ None
text_909 = refl

text_910 : expression_of (32 ∷ 123 ∷ 49 ∷ 125 ∷ 32 ∷ []) ≡ None
text_910 = refl

text_911 : expression_of (codes "!a") ≡ None
text_911 = refl

text_912 : expression_of (codes "(((((((((((((((((((((((((((((((((") ≡ None
text_912 = refl

text_913 : expression_of (codes "((((1))))") ≡ Some (literal (int (pos 1)))
text_913 = refl

text_914 : expression_of (codes "(((s1.changed)))") ≡ Some (path (variable (codes "s1")) ((codes "changed") ∷ []))
text_914 = refl

text_915 : expression_of (40 ∷ 40 ∷ 97 ∷ 110 ∷ 115 ∷ 105 ∷ 98 ∷ 108 ∷ 101 ∷ 95 ∷ 111 ∷ 115 ∷ 95 ∷ 102 ∷ 97 ∷ 109 ∷ 105 ∷ 108 ∷ 121 ∷ 32 ∷ 105 ∷ 115 ∷ 32 ∷ 117 ∷ 110 ∷ 100 ∷ 101 ∷ 102 ∷ 105 ∷ 110 ∷ 101 ∷ 100 ∷ 41 ∷ 32 ∷ 111 ∷ 114 ∷ 32 ∷ 40 ∷ 104 ∷ 111 ∷ 115 ∷ 116 ∷ 118 ∷ 97 ∷ 114 ∷ 115 ∷ 91 ∷ 105 ∷ 116 ∷ 101 ∷ 109 ∷ 93 ∷ 46 ∷ 115 ∷ 50 ∷ 32 ∷ 33 ∷ 61 ∷ 32 ∷ 49 ∷ 41 ∷ 41 ∷ 32 ∷ 111 ∷ 114 ∷ 32 ∷ 40 ∷ 110 ∷ 111 ∷ 116 ∷ 32 ∷ 40 ∷ 115 ∷ 51 ∷ 32 ∷ 105 ∷ 115 ∷ 32 ∷ 110 ∷ 111 ∷ 116 ∷ 32 ∷ 100 ∷ 101 ∷ 102 ∷ 105 ∷ 110 ∷ 101 ∷ 100 ∷ 41 ∷ 41 ∷ []) ≡ Some (disjunction (expression (disjunction (expression (negation (defined (variable (codes "ansible_os_family")) ([]))) (expression (negation (comparison equal (path (other item_host (codes "s2")) ([])) (literal (int (pos 1))))) (no_expressions)))) (expression (negation (negation (defined (variable (codes "s3")) ([])))) (no_expressions))))
text_915 = refl

text_916 : expression_of (codes "((inv is changed) or (item.hostname < 3)) and (ansible_facts is not defined)") ≡ Some (conjunction (expression (disjunction (expression (path_status is_changed (variable (codes "inv")) ([])) (expression (comparison less (path (variable (codes "item")) ((codes "hostname") ∷ [])) (literal (int (pos 3)))) (no_expressions)))) (expression (negation (defined (variable (codes "ansible_facts")) ([]))) (no_expressions))))
text_916 = refl

text_917 : expression_of (40 ∷ 40 ∷ 105 ∷ 110 ∷ 118 ∷ 46 ∷ 104 ∷ 111 ∷ 115 ∷ 116 ∷ 110 ∷ 97 ∷ 109 ∷ 101 ∷ 32 ∷ 61 ∷ 61 ∷ 32 ∷ 49 ∷ 41 ∷ 32 ∷ 111 ∷ 114 ∷ 32 ∷ 40 ∷ 115 ∷ 46 ∷ 99 ∷ 104 ∷ 97 ∷ 110 ∷ 103 ∷ 101 ∷ 100 ∷ 32 ∷ 105 ∷ 115 ∷ 32 ∷ 99 ∷ 104 ∷ 97 ∷ 110 ∷ 103 ∷ 101 ∷ 100 ∷ 41 ∷ 41 ∷ 32 ∷ 111 ∷ 114 ∷ 32 ∷ 40 ∷ 104 ∷ 111 ∷ 115 ∷ 116 ∷ 118 ∷ 97 ∷ 114 ∷ 115 ∷ 91 ∷ 105 ∷ 116 ∷ 101 ∷ 109 ∷ 93 ∷ 46 ∷ 105 ∷ 110 ∷ 118 ∷ 41 ∷ []) ≡ Some (disjunction (expression (disjunction (expression (comparison equal (path (variable (codes "inv")) ((codes "hostname") ∷ [])) (literal (int (pos 1)))) (expression (path_status is_changed (variable (codes "s")) ((codes "changed") ∷ [])) (no_expressions)))) (expression (path (other item_host (codes "inv")) ([])) (no_expressions))))
text_917 = refl

text_918 : expression_of (codes "((inventory_hostname.stdout is not skipped) and (s.changed)) or (inventory_hostname.results is defined)") ≡ Some (disjunction (expression (conjunction (expression (negation (path_status is_skipped (variable (codes "inventory_hostname")) ((codes "stdout") ∷ []))) (expression (path (variable (codes "s")) ((codes "changed") ∷ [])) (no_expressions)))) (expression (defined (variable (codes "inventory_hostname")) ((codes "results") ∷ [])) (no_expressions))))
text_918 = refl

text_919 : expression_of (codes "((item.msg < 3) or (r)) or (not (r.failed is succeeded))") ≡ Some (disjunction (expression (disjunction (expression (comparison less (path (variable (codes "item")) ((codes "msg") ∷ [])) (literal (int (pos 3)))) (expression (path (variable (codes "r")) ([])) (no_expressions)))) (expression (negation (negation (path_status is_failed (variable (codes "r")) ((codes "failed") ∷ [])))) (no_expressions))))
text_919 = refl

text_920 : expression_of (codes "((item.results is failed) and (r.stdout is defined)) or (inventory_hostname in ansible_play_batch)") ≡ Some (disjunction (expression (conjunction (expression (path_status is_failed (variable (codes "item")) ((codes "results") ∷ [])) (expression (defined (variable (codes "r")) ((codes "stdout") ∷ [])) (no_expressions)))) (expression (in_batch this_host) (no_expressions))))
text_920 = refl

text_921 : expression_of (codes "((op is defined) or (r1 is not failed)) or (r1 is not changed)") ≡ Some (disjunction (expression (disjunction (expression (defined (variable (codes "op")) ([])) (expression (negation (path_status is_failed (variable (codes "r1")) ([]))) (no_expressions)))) (expression (negation (path_status is_changed (variable (codes "r1")) ([]))) (no_expressions))))
text_921 = refl

text_922 : expression_of (codes "((opq.hostname) and (group_names.changed is not defined)) or (inventory_hostname.msg is changed)") ≡ Some (disjunction (expression (conjunction (expression (path (variable (codes "opq")) ((codes "hostname") ∷ [])) (expression (negation (defined (variable (codes "group_names")) ((codes "changed") ∷ []))) (no_expressions)))) (expression (path_status is_changed (variable (codes "inventory_hostname")) ((codes "msg") ∷ [])) (no_expressions))))
text_922 = refl

text_923 : expression_of (codes "((opq.hostname) and (opq.results is undefined)) and (item.results == 1)") ≡ Some (conjunction (expression (conjunction (expression (path (variable (codes "opq")) ((codes "hostname") ∷ [])) (expression (negation (defined (variable (codes "opq")) ((codes "results") ∷ []))) (no_expressions)))) (expression (comparison equal (path (variable (codes "item")) ((codes "results") ∷ [])) (literal (int (pos 1)))) (no_expressions))))
text_923 = refl

text_924 : expression_of (40 ∷ 40 ∷ 114 ∷ 49 ∷ 46 ∷ 99 ∷ 104 ∷ 97 ∷ 110 ∷ 103 ∷ 101 ∷ 100 ∷ 32 ∷ 124 ∷ 32 ∷ 100 ∷ 101 ∷ 102 ∷ 97 ∷ 117 ∷ 108 ∷ 116 ∷ 40 ∷ 102 ∷ 97 ∷ 108 ∷ 115 ∷ 101 ∷ 41 ∷ 41 ∷ 32 ∷ 111 ∷ 114 ∷ 32 ∷ 40 ∷ 103 ∷ 114 ∷ 111 ∷ 117 ∷ 112 ∷ 95 ∷ 110 ∷ 97 ∷ 109 ∷ 101 ∷ 115 ∷ 32 ∷ 105 ∷ 115 ∷ 32 ∷ 100 ∷ 101 ∷ 102 ∷ 105 ∷ 110 ∷ 101 ∷ 100 ∷ 41 ∷ 41 ∷ 32 ∷ 97 ∷ 110 ∷ 100 ∷ 32 ∷ 40 ∷ 115 ∷ 51 ∷ 32 ∷ 105 ∷ 115 ∷ 32 ∷ 100 ∷ 101 ∷ 102 ∷ 105 ∷ 110 ∷ 101 ∷ 100 ∷ 32 ∷ 97 ∷ 110 ∷ 100 ∷ 32 ∷ 115 ∷ 51 ∷ 32 ∷ 61 ∷ 61 ∷ 32 ∷ 49 ∷ 41 ∷ []) ≡ Some (conjunction (expression (disjunction (expression (path_or (variable (codes "r1")) ((codes "changed") ∷ []) (literal (boolean false))) (expression (defined (variable (codes "group_names")) ([])) (no_expressions)))) (expression (conjunction (expression (defined (variable (codes "s3")) ([])) (expression (comparison equal (path (variable (codes "s3")) ([])) (literal (int (pos 1)))) (no_expressions)))) (no_expressions))))
text_924 = refl

text_925 : expression_of (codes "((v1.hostname is skipped) or (v1 == 1)) and (inventory_hostname in ansible_play_batch)") ≡ Some (conjunction (expression (disjunction (expression (path_status is_skipped (variable (codes "v1")) ((codes "hostname") ∷ [])) (expression (comparison equal (path (variable (codes "v1")) ([])) (literal (int (pos 1)))) (no_expressions)))) (expression (in_batch this_host) (no_expressions))))
text_925 = refl

text_926 : expression_of (codes "((y < 3) and (r.changed is defined)) or (ansible_hostname.hostname is not skipped)") ≡ Some (disjunction (expression (conjunction (expression (comparison less (path (variable (codes "y")) ([])) (literal (int (pos 3)))) (expression (defined (variable (codes "r")) ((codes "changed") ∷ [])) (no_expressions)))) (expression (negation (path_status is_skipped (variable (codes "ansible_hostname")) ((codes "hostname") ∷ []))) (no_expressions))))
text_926 = refl

text_927 : expression_of (codes "((y is undefined) and (group_names is undefined)) or (not (r.rc is not defined))") ≡ Some (disjunction (expression (conjunction (expression (negation (defined (variable (codes "y")) ([]))) (expression (negation (defined (variable (codes "group_names")) ([]))) (no_expressions)))) (expression (negation (negation (defined (variable (codes "r")) ((codes "rc") ∷ [])))) (no_expressions))))
text_927 = refl

text_928 : expression_of (codes "(False)") ≡ Some (literal (boolean false))
text_928 = refl

text_929 : expression_of (codes "(True)") ≡ Some (literal (boolean true))
text_929 = refl

text_930 : expression_of (codes "(ansible_facts.stat.isdir is changed) or (s.changed is defined)") ≡ Some (disjunction (expression (path_status is_changed (variable (codes "ansible_facts")) ((codes "stat") ∷ (codes "isdir") ∷ [])) (expression (defined (variable (codes "s")) ((codes "changed") ∷ [])) (no_expressions))))
text_930 = refl

text_931 : expression_of (codes "(ansible_failed_result.changed is not defined) or (ansible_hostname.stat.isdir)") ≡ Some (disjunction (expression (negation (defined (variable (codes "ansible_failed_result")) ((codes "changed") ∷ []))) (expression (path (variable (codes "ansible_hostname")) ((codes "stat") ∷ (codes "isdir") ∷ [])) (no_expressions))))
text_931 = refl

text_932 : expression_of (40 ∷ 97 ∷ 110 ∷ 115 ∷ 105 ∷ 98 ∷ 108 ∷ 101 ∷ 95 ∷ 102 ∷ 97 ∷ 105 ∷ 108 ∷ 101 ∷ 100 ∷ 95 ∷ 114 ∷ 101 ∷ 115 ∷ 117 ∷ 108 ∷ 116 ∷ 46 ∷ 109 ∷ 115 ∷ 103 ∷ 32 ∷ 124 ∷ 32 ∷ 100 ∷ 101 ∷ 102 ∷ 97 ∷ 117 ∷ 108 ∷ 116 ∷ 40 ∷ 102 ∷ 97 ∷ 108 ∷ 115 ∷ 101 ∷ 41 ∷ 41 ∷ 32 ∷ 111 ∷ 114 ∷ 32 ∷ 40 ∷ 114 ∷ 50 ∷ 46 ∷ 114 ∷ 99 ∷ 32 ∷ 124 ∷ 32 ∷ 100 ∷ 101 ∷ 102 ∷ 97 ∷ 117 ∷ 108 ∷ 116 ∷ 40 ∷ 102 ∷ 97 ∷ 108 ∷ 115 ∷ 101 ∷ 41 ∷ 41 ∷ []) ≡ Some (disjunction (expression (path_or (variable (codes "ansible_failed_result")) ((codes "msg") ∷ []) (literal (boolean false))) (expression (path_or (variable (codes "r2")) ((codes "rc") ∷ []) (literal (boolean false))) (no_expressions))))
text_932 = refl

text_933 : expression_of (codes "(ansible_play_batch.rc) or (not (group_names.k is not defined))") ≡ Some (disjunction (expression (path (variable (codes "ansible_play_batch")) ((codes "rc") ∷ [])) (expression (negation (negation (defined (variable (codes "group_names")) ((codes "k") ∷ [])))) (no_expressions))))
text_933 = refl

text_934 : expression_of (codes "(ansible_play_batch.stdout_lines) or (r.failed is changed)") ≡ Some (disjunction (expression (path (variable (codes "ansible_play_batch")) ((codes "stdout_lines") ∷ [])) (expression (path_status is_changed (variable (codes "r")) ((codes "failed") ∷ [])) (no_expressions))))
text_934 = refl

text_935 : expression_of (codes "(group_names < 3) or ((opq.stdout_lines == 1) and (s.os_family is defined))") ≡ Some (disjunction (expression (comparison less (path (variable (codes "group_names")) ([])) (literal (int (pos 3)))) (expression (conjunction (expression (comparison equal (path (variable (codes "opq")) ((codes "stdout_lines") ∷ [])) (literal (int (pos 1)))) (expression (defined (variable (codes "s")) ((codes "os_family") ∷ [])) (no_expressions)))) (no_expressions))))
text_935 = refl

text_936 : expression_of (codes "(group_names is defined) or (r1 is not changed)") ≡ Some (disjunction (expression (defined (variable (codes "group_names")) ([])) (expression (negation (path_status is_changed (variable (codes "r1")) ([]))) (no_expressions))))
text_936 = refl

text_937 : expression_of (codes "(group_names is not skipped) and ((ansible_play_batch.hostname is succeeded) and (ansible_play_batch.rc is not skipped))") ≡ Some (conjunction (expression (negation (path_status is_skipped (variable (codes "group_names")) ([]))) (expression (conjunction (expression (negation (path_status is_failed (variable (codes "ansible_play_batch")) ((codes "hostname") ∷ []))) (expression (negation (path_status is_skipped (variable (codes "ansible_play_batch")) ((codes "rc") ∷ []))) (no_expressions)))) (no_expressions))))
text_937 = refl

text_938 : expression_of (codes "(groups.g < 3) and (r.results is changed)") ≡ Some (conjunction (expression (comparison less (path (variable (codes "groups")) ((codes "g") ∷ [])) (literal (int (pos 3)))) (expression (path_status is_changed (variable (codes "r")) ((codes "results") ∷ [])) (no_expressions))))
text_938 = refl

text_939 : expression_of (codes "(groups.g == 1) or ((opq.k is changed) or (opq.msg is changed))") ≡ Some (disjunction (expression (comparison equal (path (variable (codes "groups")) ((codes "g") ∷ [])) (literal (int (pos 1)))) (expression (disjunction (expression (path_status is_changed (variable (codes "opq")) ((codes "k") ∷ [])) (expression (path_status is_changed (variable (codes "opq")) ((codes "msg") ∷ [])) (no_expressions)))) (no_expressions))))
text_939 = refl

text_940 : expression_of (40 ∷ 104 ∷ 111 ∷ 115 ∷ 116 ∷ 118 ∷ 97 ∷ 114 ∷ 115 ∷ 91 ∷ 105 ∷ 110 ∷ 118 ∷ 101 ∷ 110 ∷ 116 ∷ 111 ∷ 114 ∷ 121 ∷ 95 ∷ 104 ∷ 111 ∷ 115 ∷ 116 ∷ 110 ∷ 97 ∷ 109 ∷ 101 ∷ 93 ∷ 46 ∷ 105 ∷ 49 ∷ 32 ∷ 124 ∷ 32 ∷ 100 ∷ 101 ∷ 102 ∷ 97 ∷ 117 ∷ 108 ∷ 116 ∷ 40 ∷ 102 ∷ 97 ∷ 108 ∷ 115 ∷ 101 ∷ 41 ∷ 41 ∷ 32 ∷ 111 ∷ 114 ∷ 32 ∷ 40 ∷ 97 ∷ 110 ∷ 115 ∷ 105 ∷ 98 ∷ 108 ∷ 101 ∷ 95 ∷ 102 ∷ 97 ∷ 105 ∷ 108 ∷ 101 ∷ 100 ∷ 95 ∷ 114 ∷ 101 ∷ 115 ∷ 117 ∷ 108 ∷ 116 ∷ 46 ∷ 109 ∷ 115 ∷ 103 ∷ 32 ∷ 105 ∷ 115 ∷ 32 ∷ 117 ∷ 110 ∷ 100 ∷ 101 ∷ 102 ∷ 105 ∷ 110 ∷ 101 ∷ 100 ∷ 41 ∷ []) ≡ Some (disjunction (expression (path_or (other this_host (codes "i1")) ([]) (literal (boolean false))) (expression (negation (defined (variable (codes "ansible_failed_result")) ((codes "msg") ∷ []))) (no_expressions))))
text_940 = refl

text_941 : expression_of (40 ∷ 104 ∷ 111 ∷ 115 ∷ 116 ∷ 118 ∷ 97 ∷ 114 ∷ 115 ∷ 91 ∷ 105 ∷ 110 ∷ 118 ∷ 101 ∷ 110 ∷ 116 ∷ 111 ∷ 114 ∷ 121 ∷ 95 ∷ 104 ∷ 111 ∷ 115 ∷ 116 ∷ 110 ∷ 97 ∷ 109 ∷ 101 ∷ 93 ∷ 46 ∷ 114 ∷ 32 ∷ 105 ∷ 115 ∷ 32 ∷ 110 ∷ 111 ∷ 116 ∷ 32 ∷ 115 ∷ 107 ∷ 105 ∷ 112 ∷ 112 ∷ 101 ∷ 100 ∷ 41 ∷ 32 ∷ 111 ∷ 114 ∷ 32 ∷ 40 ∷ 105 ∷ 110 ∷ 118 ∷ 32 ∷ 105 ∷ 115 ∷ 32 ∷ 115 ∷ 117 ∷ 99 ∷ 99 ∷ 101 ∷ 101 ∷ 100 ∷ 101 ∷ 100 ∷ 41 ∷ []) ≡ Some (disjunction (expression (negation (path_status is_skipped (other this_host (codes "r")) ([]))) (expression (negation (path_status is_failed (variable (codes "inv")) ([]))) (no_expressions))))
text_941 = refl

text_942 : expression_of (40 ∷ 104 ∷ 111 ∷ 115 ∷ 116 ∷ 118 ∷ 97 ∷ 114 ∷ 115 ∷ 91 ∷ 105 ∷ 110 ∷ 118 ∷ 101 ∷ 110 ∷ 116 ∷ 111 ∷ 114 ∷ 121 ∷ 95 ∷ 104 ∷ 111 ∷ 115 ∷ 116 ∷ 110 ∷ 97 ∷ 109 ∷ 101 ∷ 93 ∷ 46 ∷ 121 ∷ 32 ∷ 105 ∷ 115 ∷ 32 ∷ 99 ∷ 104 ∷ 97 ∷ 110 ∷ 103 ∷ 101 ∷ 100 ∷ 41 ∷ 32 ∷ 111 ∷ 114 ∷ 32 ∷ 40 ∷ 110 ∷ 111 ∷ 116 ∷ 32 ∷ 40 ∷ 114 ∷ 46 ∷ 114 ∷ 101 ∷ 115 ∷ 117 ∷ 108 ∷ 116 ∷ 115 ∷ 32 ∷ 105 ∷ 115 ∷ 32 ∷ 115 ∷ 107 ∷ 105 ∷ 112 ∷ 112 ∷ 101 ∷ 100 ∷ 41 ∷ 41 ∷ []) ≡ Some (disjunction (expression (path_status is_changed (other this_host (codes "y")) ([])) (expression (negation (path_status is_skipped (variable (codes "r")) ((codes "results") ∷ []))) (no_expressions))))
text_942 = refl

text_943 : expression_of (codes "(inventory_hostname < 3) or (s.results is not defined)") ≡ Some (disjunction (expression (comparison less (path (variable (codes "inventory_hostname")) ([])) (literal (int (pos 3)))) (expression (negation (defined (variable (codes "s")) ((codes "results") ∷ []))) (no_expressions))))
text_943 = refl

text_944 : expression_of (codes "(inventory_hostname in ansible_play_batch) and (item.msg is changed)") ≡ Some (conjunction (expression (in_batch this_host) (expression (path_status is_changed (variable (codes "item")) ((codes "msg") ∷ [])) (no_expressions))))
text_944 = refl

text_945 : expression_of (codes "(inventory_hostname in ansible_play_batch) or (ansible_failed_result.changed is succeeded)") ≡ Some (disjunction (expression (in_batch this_host) (expression (negation (path_status is_failed (variable (codes "ansible_failed_result")) ((codes "changed") ∷ []))) (no_expressions))))
text_945 = refl

text_946 : expression_of (codes "(inventory_hostname is changed) or (r is failed)") ≡ Some (disjunction (expression (path_status is_changed (variable (codes "inventory_hostname")) ([])) (expression (path_status is_failed (variable (codes "r")) ([])) (no_expressions))))
text_946 = refl

text_947 : expression_of (codes "(inventory_hostname is not defined) and (y.stdout is defined)") ≡ Some (conjunction (expression (negation (defined (variable (codes "inventory_hostname")) ([]))) (expression (defined (variable (codes "y")) ((codes "stdout") ∷ [])) (no_expressions))))
text_947 = refl

text_948 : expression_of (40 ∷ 105 ∷ 110 ∷ 118 ∷ 101 ∷ 110 ∷ 116 ∷ 111 ∷ 114 ∷ 121 ∷ 95 ∷ 104 ∷ 111 ∷ 115 ∷ 116 ∷ 110 ∷ 97 ∷ 109 ∷ 101 ∷ 32 ∷ 105 ∷ 115 ∷ 32 ∷ 115 ∷ 107 ∷ 105 ∷ 112 ∷ 112 ∷ 101 ∷ 100 ∷ 41 ∷ 32 ∷ 97 ∷ 110 ∷ 100 ∷ 32 ∷ 40 ∷ 104 ∷ 111 ∷ 115 ∷ 116 ∷ 118 ∷ 97 ∷ 114 ∷ 115 ∷ 91 ∷ 105 ∷ 110 ∷ 118 ∷ 101 ∷ 110 ∷ 116 ∷ 111 ∷ 114 ∷ 121 ∷ 95 ∷ 104 ∷ 111 ∷ 115 ∷ 116 ∷ 110 ∷ 97 ∷ 109 ∷ 101 ∷ 93 ∷ 46 ∷ 115 ∷ 46 ∷ 99 ∷ 104 ∷ 97 ∷ 110 ∷ 103 ∷ 101 ∷ 100 ∷ 32 ∷ 105 ∷ 115 ∷ 32 ∷ 117 ∷ 110 ∷ 100 ∷ 101 ∷ 102 ∷ 105 ∷ 110 ∷ 101 ∷ 100 ∷ 41 ∷ []) ≡ Some (conjunction (expression (path_status is_skipped (variable (codes "inventory_hostname")) ([])) (expression (negation (defined (other this_host (codes "s")) ((codes "changed") ∷ []))) (no_expressions))))
text_948 = refl

text_949 : expression_of (40 ∷ 105 ∷ 110 ∷ 118 ∷ 101 ∷ 110 ∷ 116 ∷ 111 ∷ 114 ∷ 121 ∷ 95 ∷ 104 ∷ 111 ∷ 115 ∷ 116 ∷ 110 ∷ 97 ∷ 109 ∷ 101 ∷ 46 ∷ 107 ∷ 32 ∷ 105 ∷ 115 ∷ 32 ∷ 115 ∷ 117 ∷ 99 ∷ 99 ∷ 101 ∷ 101 ∷ 100 ∷ 101 ∷ 100 ∷ 41 ∷ 32 ∷ 97 ∷ 110 ∷ 100 ∷ 32 ∷ 40 ∷ 40 ∷ 104 ∷ 111 ∷ 115 ∷ 116 ∷ 118 ∷ 97 ∷ 114 ∷ 115 ∷ 91 ∷ 105 ∷ 110 ∷ 118 ∷ 101 ∷ 110 ∷ 116 ∷ 111 ∷ 114 ∷ 121 ∷ 95 ∷ 104 ∷ 111 ∷ 115 ∷ 116 ∷ 110 ∷ 97 ∷ 109 ∷ 101 ∷ 93 ∷ 46 ∷ 105 ∷ 110 ∷ 118 ∷ 32 ∷ 105 ∷ 115 ∷ 32 ∷ 99 ∷ 104 ∷ 97 ∷ 110 ∷ 103 ∷ 101 ∷ 100 ∷ 41 ∷ 32 ∷ 111 ∷ 114 ∷ 32 ∷ 40 ∷ 122 ∷ 122 ∷ 46 ∷ 114 ∷ 99 ∷ 32 ∷ 105 ∷ 115 ∷ 32 ∷ 115 ∷ 107 ∷ 105 ∷ 112 ∷ 112 ∷ 101 ∷ 100 ∷ 41 ∷ 41 ∷ []) ≡ Some (conjunction (expression (negation (path_status is_failed (variable (codes "inventory_hostname")) ((codes "k") ∷ []))) (expression (disjunction (expression (path_status is_changed (other this_host (codes "inv")) ([])) (expression (path_status is_skipped (variable (codes "zz")) ((codes "rc") ∷ [])) (no_expressions)))) (no_expressions))))
text_949 = refl

text_950 : expression_of (codes "(inventory_hostname.os_family is failed) or (item is not defined)") ≡ Some (disjunction (expression (path_status is_failed (variable (codes "inventory_hostname")) ((codes "os_family") ∷ [])) (expression (negation (defined (variable (codes "item")) ([]))) (no_expressions))))
text_950 = refl

text_951 : expression_of (codes "(item in ansible_play_batch) and ((item.os_family is defined) and (r.results is defined))") ≡ Some (conjunction (expression (in_batch item_host) (expression (conjunction (expression (defined (variable (codes "item")) ((codes "os_family") ∷ [])) (expression (defined (variable (codes "r")) ((codes "results") ∷ [])) (no_expressions)))) (no_expressions))))
text_951 = refl

text_952 : expression_of (codes "(item in ansible_play_batch) or (ansible_failed_result.stdout_lines is succeeded)") ≡ Some (disjunction (expression (in_batch item_host) (expression (negation (path_status is_failed (variable (codes "ansible_failed_result")) ((codes "stdout_lines") ∷ []))) (no_expressions))))
text_952 = refl

text_953 : expression_of (40 ∷ 110 ∷ 111 ∷ 116 ∷ 32 ∷ 40 ∷ 103 ∷ 114 ∷ 111 ∷ 117 ∷ 112 ∷ 95 ∷ 110 ∷ 97 ∷ 109 ∷ 101 ∷ 115 ∷ 46 ∷ 104 ∷ 111 ∷ 115 ∷ 116 ∷ 110 ∷ 97 ∷ 109 ∷ 101 ∷ 32 ∷ 105 ∷ 115 ∷ 32 ∷ 110 ∷ 111 ∷ 116 ∷ 32 ∷ 100 ∷ 101 ∷ 102 ∷ 105 ∷ 110 ∷ 101 ∷ 100 ∷ 41 ∷ 41 ∷ 32 ∷ 97 ∷ 110 ∷ 100 ∷ 32 ∷ 40 ∷ 104 ∷ 111 ∷ 115 ∷ 116 ∷ 118 ∷ 97 ∷ 114 ∷ 115 ∷ 91 ∷ 105 ∷ 116 ∷ 101 ∷ 109 ∷ 93 ∷ 46 ∷ 105 ∷ 110 ∷ 118 ∷ 32 ∷ 61 ∷ 61 ∷ 32 ∷ 49 ∷ 41 ∷ []) ≡ Some (conjunction (expression (negation (negation (defined (variable (codes "group_names")) ((codes "hostname") ∷ [])))) (expression (comparison equal (path (other item_host (codes "inv")) ([])) (literal (int (pos 1)))) (no_expressions))))
text_953 = refl

text_954 : expression_of (40 ∷ 110 ∷ 111 ∷ 116 ∷ 32 ∷ 40 ∷ 104 ∷ 111 ∷ 115 ∷ 116 ∷ 118 ∷ 97 ∷ 114 ∷ 115 ∷ 91 ∷ 105 ∷ 110 ∷ 118 ∷ 101 ∷ 110 ∷ 116 ∷ 111 ∷ 114 ∷ 121 ∷ 95 ∷ 104 ∷ 111 ∷ 115 ∷ 116 ∷ 110 ∷ 97 ∷ 109 ∷ 101 ∷ 93 ∷ 46 ∷ 114 ∷ 46 ∷ 104 ∷ 111 ∷ 115 ∷ 116 ∷ 110 ∷ 97 ∷ 109 ∷ 101 ∷ 32 ∷ 105 ∷ 115 ∷ 32 ∷ 110 ∷ 111 ∷ 116 ∷ 32 ∷ 100 ∷ 101 ∷ 102 ∷ 105 ∷ 110 ∷ 101 ∷ 100 ∷ 41 ∷ 41 ∷ 32 ∷ 111 ∷ 114 ∷ 32 ∷ 40 ∷ 40 ∷ 104 ∷ 111 ∷ 115 ∷ 116 ∷ 118 ∷ 97 ∷ 114 ∷ 115 ∷ 91 ∷ 105 ∷ 116 ∷ 101 ∷ 109 ∷ 93 ∷ 46 ∷ 105 ∷ 110 ∷ 118 ∷ 41 ∷ 32 ∷ 111 ∷ 114 ∷ 32 ∷ 40 ∷ 104 ∷ 111 ∷ 115 ∷ 116 ∷ 118 ∷ 97 ∷ 114 ∷ 115 ∷ 91 ∷ 105 ∷ 110 ∷ 118 ∷ 101 ∷ 110 ∷ 116 ∷ 111 ∷ 114 ∷ 121 ∷ 95 ∷ 104 ∷ 111 ∷ 115 ∷ 116 ∷ 110 ∷ 97 ∷ 109 ∷ 101 ∷ 93 ∷ 46 ∷ 105 ∷ 110 ∷ 118 ∷ 32 ∷ 105 ∷ 115 ∷ 32 ∷ 110 ∷ 111 ∷ 116 ∷ 32 ∷ 115 ∷ 107 ∷ 105 ∷ 112 ∷ 112 ∷ 101 ∷ 100 ∷ 41 ∷ 41 ∷ []) ≡ Some (disjunction (expression (negation (negation (defined (other this_host (codes "r")) ((codes "hostname") ∷ [])))) (expression (disjunction (expression (path (other item_host (codes "inv")) ([])) (expression (negation (path_status is_skipped (other this_host (codes "inv")) ([]))) (no_expressions)))) (no_expressions))))
text_954 = refl

text_955 : expression_of (40 ∷ 110 ∷ 111 ∷ 116 ∷ 32 ∷ 40 ∷ 104 ∷ 111 ∷ 115 ∷ 116 ∷ 118 ∷ 97 ∷ 114 ∷ 115 ∷ 91 ∷ 105 ∷ 116 ∷ 101 ∷ 109 ∷ 93 ∷ 46 ∷ 114 ∷ 46 ∷ 99 ∷ 104 ∷ 97 ∷ 110 ∷ 103 ∷ 101 ∷ 100 ∷ 32 ∷ 105 ∷ 115 ∷ 32 ∷ 100 ∷ 101 ∷ 102 ∷ 105 ∷ 110 ∷ 101 ∷ 100 ∷ 41 ∷ 41 ∷ 32 ∷ 97 ∷ 110 ∷ 100 ∷ 32 ∷ 40 ∷ 40 ∷ 115 ∷ 46 ∷ 115 ∷ 116 ∷ 97 ∷ 116 ∷ 46 ∷ 105 ∷ 115 ∷ 100 ∷ 105 ∷ 114 ∷ 32 ∷ 61 ∷ 61 ∷ 32 ∷ 49 ∷ 41 ∷ 32 ∷ 97 ∷ 110 ∷ 100 ∷ 32 ∷ 40 ∷ 97 ∷ 110 ∷ 115 ∷ 105 ∷ 98 ∷ 108 ∷ 101 ∷ 95 ∷ 102 ∷ 97 ∷ 99 ∷ 116 ∷ 115 ∷ 32 ∷ 61 ∷ 61 ∷ 32 ∷ 49 ∷ 41 ∷ 41 ∷ []) ≡ Some (conjunction (expression (negation (defined (other item_host (codes "r")) ((codes "changed") ∷ []))) (expression (conjunction (expression (comparison equal (path (variable (codes "s")) ((codes "stat") ∷ (codes "isdir") ∷ [])) (literal (int (pos 1)))) (expression (comparison equal (path (variable (codes "ansible_facts")) ([])) (literal (int (pos 1)))) (no_expressions)))) (no_expressions))))
text_955 = refl

text_956 : expression_of (codes "(not (r1 is skipped)) or (ansible_failed_result.msg is undefined)") ≡ Some (disjunction (expression (negation (path_status is_skipped (variable (codes "r1")) ([]))) (expression (negation (defined (variable (codes "ansible_failed_result")) ((codes "msg") ∷ []))) (no_expressions))))
text_956 = refl

text_957 : expression_of (40 ∷ 110 ∷ 111 ∷ 116 ∷ 32 ∷ 40 ∷ 114 ∷ 50 ∷ 32 ∷ 105 ∷ 115 ∷ 32 ∷ 100 ∷ 101 ∷ 102 ∷ 105 ∷ 110 ∷ 101 ∷ 100 ∷ 32 ∷ 97 ∷ 110 ∷ 100 ∷ 32 ∷ 114 ∷ 50 ∷ 46 ∷ 99 ∷ 104 ∷ 97 ∷ 110 ∷ 103 ∷ 101 ∷ 100 ∷ 32 ∷ 105 ∷ 115 ∷ 32 ∷ 100 ∷ 101 ∷ 102 ∷ 105 ∷ 110 ∷ 101 ∷ 100 ∷ 32 ∷ 97 ∷ 110 ∷ 100 ∷ 32 ∷ 114 ∷ 50 ∷ 46 ∷ 99 ∷ 104 ∷ 97 ∷ 110 ∷ 103 ∷ 101 ∷ 100 ∷ 32 ∷ 61 ∷ 61 ∷ 32 ∷ 49 ∷ 41 ∷ 41 ∷ 32 ∷ 111 ∷ 114 ∷ 32 ∷ 40 ∷ 114 ∷ 51 ∷ 46 ∷ 112 ∷ 105 ∷ 110 ∷ 103 ∷ 32 ∷ 124 ∷ 32 ∷ 100 ∷ 101 ∷ 102 ∷ 97 ∷ 117 ∷ 108 ∷ 116 ∷ 40 ∷ 102 ∷ 97 ∷ 108 ∷ 115 ∷ 101 ∷ 41 ∷ 41 ∷ []) ≡ Some (disjunction (expression (negation (conjunction (expression (defined (variable (codes "r2")) ([])) (expression (defined (variable (codes "r2")) ((codes "changed") ∷ [])) (expression (comparison equal (path (variable (codes "r2")) ((codes "changed") ∷ [])) (literal (int (pos 1)))) (no_expressions)))))) (expression (path_or (variable (codes "r3")) ((codes "ping") ∷ []) (literal (boolean false))) (no_expressions))))
text_957 = refl

text_958 : expression_of (40 ∷ 110 ∷ 111 ∷ 116 ∷ 32 ∷ 40 ∷ 121 ∷ 41 ∷ 41 ∷ 32 ∷ 97 ∷ 110 ∷ 100 ∷ 32 ∷ 40 ∷ 40 ∷ 104 ∷ 111 ∷ 115 ∷ 116 ∷ 118 ∷ 97 ∷ 114 ∷ 115 ∷ 91 ∷ 105 ∷ 116 ∷ 101 ∷ 109 ∷ 93 ∷ 46 ∷ 105 ∷ 110 ∷ 118 ∷ 41 ∷ 32 ∷ 97 ∷ 110 ∷ 100 ∷ 32 ∷ 40 ∷ 121 ∷ 32 ∷ 105 ∷ 115 ∷ 32 ∷ 115 ∷ 117 ∷ 99 ∷ 99 ∷ 101 ∷ 101 ∷ 100 ∷ 101 ∷ 100 ∷ 41 ∷ 41 ∷ []) ≡ Some (conjunction (expression (negation (path (variable (codes "y")) ([]))) (expression (conjunction (expression (path (other item_host (codes "inv")) ([])) (expression (negation (path_status is_failed (variable (codes "y")) ([]))) (no_expressions)))) (no_expressions))))
text_958 = refl

text_959 : expression_of (codes "(not (zz is changed)) or (not (r.failed is not skipped))") ≡ Some (disjunction (expression (negation (path_status is_changed (variable (codes "zz")) ([]))) (expression (negation (negation (path_status is_skipped (variable (codes "r")) ((codes "failed") ∷ [])))) (no_expressions))))
text_959 = refl

text_960 : expression_of (codes "(op is undefined) or (r3 is not defined)") ≡ Some (disjunction (expression (negation (defined (variable (codes "op")) ([]))) (expression (negation (defined (variable (codes "r3")) ([]))) (no_expressions))))
text_960 = refl

text_961 : expression_of (codes "(op is undefined) or (s2 is defined)") ≡ Some (disjunction (expression (negation (defined (variable (codes "op")) ([]))) (expression (defined (variable (codes "s2")) ([])) (no_expressions))))
text_961 = refl

text_962 : expression_of (codes "(opq.rc) and (inventory_hostname in ansible_play_batch)") ≡ Some (conjunction (expression (path (variable (codes "opq")) ((codes "rc") ∷ [])) (expression (in_batch this_host) (no_expressions))))
text_962 = refl

text_963 : expression_of (codes "(r is undefined) and ((r.changed is succeeded) or (inv.hostname is not skipped))") ≡ Some (conjunction (expression (negation (defined (variable (codes "r")) ([]))) (expression (disjunction (expression (negation (path_status is_failed (variable (codes "r")) ((codes "changed") ∷ []))) (expression (negation (path_status is_skipped (variable (codes "inv")) ((codes "hostname") ∷ []))) (no_expressions)))) (no_expressions))))
text_963 = refl

text_964 : expression_of (codes "(r.changed) and (s.changed is skipped)") ≡ Some (conjunction (expression (path (variable (codes "r")) ((codes "changed") ∷ [])) (expression (path_status is_skipped (variable (codes "s")) ((codes "changed") ∷ [])) (no_expressions))))
text_964 = refl

text_965 : expression_of (codes "(r.failed is undefined) or (s.changed is failed)") ≡ Some (disjunction (expression (negation (defined (variable (codes "r")) ((codes "failed") ∷ []))) (expression (path_status is_failed (variable (codes "s")) ((codes "changed") ∷ [])) (no_expressions))))
text_965 = refl

text_966 : expression_of (codes "(r.rc is succeeded) or (group_names.stdout is not defined)") ≡ Some (disjunction (expression (negation (path_status is_failed (variable (codes "r")) ((codes "rc") ∷ []))) (expression (negation (defined (variable (codes "group_names")) ((codes "stdout") ∷ []))) (no_expressions))))
text_966 = refl

text_967 : expression_of (40 ∷ 114 ∷ 46 ∷ 114 ∷ 101 ∷ 115 ∷ 117 ∷ 108 ∷ 116 ∷ 115 ∷ 32 ∷ 105 ∷ 115 ∷ 32 ∷ 102 ∷ 97 ∷ 105 ∷ 108 ∷ 101 ∷ 100 ∷ 41 ∷ 32 ∷ 111 ∷ 114 ∷ 32 ∷ 40 ∷ 104 ∷ 111 ∷ 115 ∷ 116 ∷ 118 ∷ 97 ∷ 114 ∷ 115 ∷ 91 ∷ 105 ∷ 116 ∷ 101 ∷ 109 ∷ 93 ∷ 46 ∷ 111 ∷ 112 ∷ 113 ∷ 46 ∷ 111 ∷ 115 ∷ 95 ∷ 102 ∷ 97 ∷ 109 ∷ 105 ∷ 108 ∷ 121 ∷ 32 ∷ 105 ∷ 115 ∷ 32 ∷ 102 ∷ 97 ∷ 105 ∷ 108 ∷ 101 ∷ 100 ∷ 41 ∷ []) ≡ Some (disjunction (expression (path_status is_failed (variable (codes "r")) ((codes "results") ∷ [])) (expression (path_status is_failed (other item_host (codes "opq")) ((codes "os_family") ∷ [])) (no_expressions))))
text_967 = refl

text_968 : expression_of (codes "(r.stdout is not defined) or (item.stdout_lines)") ≡ Some (disjunction (expression (negation (defined (variable (codes "r")) ((codes "stdout") ∷ []))) (expression (path (variable (codes "item")) ((codes "stdout_lines") ∷ [])) (no_expressions))))
text_968 = refl

text_969 : expression_of (codes "(r1 is changed) and (s1 is defined)") ≡ Some (conjunction (expression (path_status is_changed (variable (codes "r1")) ([])) (expression (defined (variable (codes "s1")) ([])) (no_expressions))))
text_969 = refl

text_970 : expression_of (40 ∷ 114 ∷ 49 ∷ 32 ∷ 105 ∷ 115 ∷ 32 ∷ 102 ∷ 97 ∷ 105 ∷ 108 ∷ 101 ∷ 100 ∷ 41 ∷ 32 ∷ 97 ∷ 110 ∷ 100 ∷ 32 ∷ 40 ∷ 115 ∷ 49 ∷ 32 ∷ 124 ∷ 32 ∷ 100 ∷ 101 ∷ 102 ∷ 97 ∷ 117 ∷ 108 ∷ 116 ∷ 40 ∷ 102 ∷ 97 ∷ 108 ∷ 115 ∷ 101 ∷ 41 ∷ 41 ∷ []) ≡ Some (conjunction (expression (path_status is_failed (variable (codes "r1")) ([])) (expression (path_or (variable (codes "s1")) ([]) (literal (boolean false))) (no_expressions))))
text_970 = refl

text_971 : expression_of (codes "(r1 is not failed) and (i1 is defined)") ≡ Some (conjunction (expression (negation (path_status is_failed (variable (codes "r1")) ([]))) (expression (defined (variable (codes "i1")) ([])) (no_expressions))))
text_971 = refl

text_972 : expression_of (codes "(r1 is not failed) or (s3 is defined)") ≡ Some (disjunction (expression (negation (path_status is_failed (variable (codes "r1")) ([]))) (expression (defined (variable (codes "s3")) ([])) (no_expressions))))
text_972 = refl

text_973 : expression_of (codes "(r1 is skipped) and (r1 is changed)") ≡ Some (conjunction (expression (path_status is_skipped (variable (codes "r1")) ([])) (expression (path_status is_changed (variable (codes "r1")) ([])) (no_expressions))))
text_973 = refl

text_974 : expression_of (codes "(r1 is skipped) or (r3 is not succeeded)") ≡ Some (disjunction (expression (path_status is_skipped (variable (codes "r1")) ([])) (expression (negation (negation (path_status is_failed (variable (codes "r3")) ([])))) (no_expressions))))
text_974 = refl

text_975 : expression_of (40 ∷ 114 ∷ 49 ∷ 32 ∷ 105 ∷ 115 ∷ 32 ∷ 115 ∷ 107 ∷ 105 ∷ 112 ∷ 112 ∷ 101 ∷ 100 ∷ 41 ∷ 32 ∷ 111 ∷ 114 ∷ 32 ∷ 40 ∷ 115 ∷ 51 ∷ 46 ∷ 115 ∷ 116 ∷ 100 ∷ 111 ∷ 117 ∷ 116 ∷ 32 ∷ 124 ∷ 32 ∷ 100 ∷ 101 ∷ 102 ∷ 97 ∷ 117 ∷ 108 ∷ 116 ∷ 40 ∷ 102 ∷ 97 ∷ 108 ∷ 115 ∷ 101 ∷ 41 ∷ 41 ∷ []) ≡ Some (disjunction (expression (path_status is_skipped (variable (codes "r1")) ([])) (expression (path_or (variable (codes "s3")) ((codes "stdout") ∷ []) (literal (boolean false))) (no_expressions))))
text_975 = refl

text_976 : expression_of (40 ∷ 114 ∷ 49 ∷ 46 ∷ 102 ∷ 97 ∷ 105 ∷ 108 ∷ 101 ∷ 100 ∷ 32 ∷ 105 ∷ 115 ∷ 32 ∷ 100 ∷ 101 ∷ 102 ∷ 105 ∷ 110 ∷ 101 ∷ 100 ∷ 41 ∷ 32 ∷ 111 ∷ 114 ∷ 32 ∷ 40 ∷ 114 ∷ 50 ∷ 46 ∷ 102 ∷ 97 ∷ 105 ∷ 108 ∷ 101 ∷ 100 ∷ 32 ∷ 124 ∷ 32 ∷ 100 ∷ 101 ∷ 102 ∷ 97 ∷ 117 ∷ 108 ∷ 116 ∷ 40 ∷ 102 ∷ 97 ∷ 108 ∷ 115 ∷ 101 ∷ 41 ∷ 41 ∷ []) ≡ Some (disjunction (expression (defined (variable (codes "r1")) ((codes "failed") ∷ [])) (expression (path_or (variable (codes "r2")) ((codes "failed") ∷ []) (literal (boolean false))) (no_expressions))))
text_976 = refl

text_977 : expression_of (40 ∷ 114 ∷ 49 ∷ 46 ∷ 109 ∷ 115 ∷ 103 ∷ 32 ∷ 105 ∷ 115 ∷ 32 ∷ 100 ∷ 101 ∷ 102 ∷ 105 ∷ 110 ∷ 101 ∷ 100 ∷ 41 ∷ 32 ∷ 111 ∷ 114 ∷ 32 ∷ 40 ∷ 105 ∷ 49 ∷ 46 ∷ 102 ∷ 32 ∷ 124 ∷ 32 ∷ 100 ∷ 101 ∷ 102 ∷ 97 ∷ 117 ∷ 108 ∷ 116 ∷ 40 ∷ 102 ∷ 97 ∷ 108 ∷ 115 ∷ 101 ∷ 41 ∷ 41 ∷ []) ≡ Some (disjunction (expression (defined (variable (codes "r1")) ((codes "msg") ∷ [])) (expression (path_or (variable (codes "i1")) ((codes "f") ∷ []) (literal (boolean false))) (no_expressions))))
text_977 = refl

text_978 : expression_of (codes "(r2 is changed) or (r1.rows is undefined)") ≡ Some (disjunction (expression (path_status is_changed (variable (codes "r2")) ([])) (expression (negation (defined (variable (codes "r1")) ((codes "rows") ∷ []))) (no_expressions))))
text_978 = refl

text_979 : expression_of (codes "(r2 is failed) or (s1 is not defined)") ≡ Some (disjunction (expression (path_status is_failed (variable (codes "r2")) ([])) (expression (negation (defined (variable (codes "s1")) ([]))) (no_expressions))))
text_979 = refl

text_980 : expression_of (codes "(r2 is not changed) or (not (item.f is defined))") ≡ Some (disjunction (expression (negation (path_status is_changed (variable (codes "r2")) ([]))) (expression (negation (defined (variable (codes "item")) ((codes "f") ∷ []))) (no_expressions))))
text_980 = refl

text_981 : expression_of (codes "(r2 is skipped) or (r2 is not succeeded)") ≡ Some (disjunction (expression (path_status is_skipped (variable (codes "r2")) ([])) (expression (negation (negation (path_status is_failed (variable (codes "r2")) ([])))) (no_expressions))))
text_981 = refl

text_982 : expression_of (40 ∷ 114 ∷ 50 ∷ 32 ∷ 105 ∷ 115 ∷ 32 ∷ 117 ∷ 110 ∷ 100 ∷ 101 ∷ 102 ∷ 105 ∷ 110 ∷ 101 ∷ 100 ∷ 41 ∷ 32 ∷ 111 ∷ 114 ∷ 32 ∷ 40 ∷ 115 ∷ 51 ∷ 32 ∷ 124 ∷ 32 ∷ 100 ∷ 101 ∷ 102 ∷ 97 ∷ 117 ∷ 108 ∷ 116 ∷ 40 ∷ 102 ∷ 97 ∷ 108 ∷ 115 ∷ 101 ∷ 41 ∷ 41 ∷ []) ≡ Some (disjunction (expression (negation (defined (variable (codes "r2")) ([]))) (expression (path_or (variable (codes "s3")) ([]) (literal (boolean false))) (no_expressions))))
text_982 = refl

text_983 : expression_of (codes "(r2.changed is undefined) or (r2 is not failed)") ≡ Some (disjunction (expression (negation (defined (variable (codes "r2")) ((codes "changed") ∷ []))) (expression (negation (path_status is_failed (variable (codes "r2")) ([]))) (no_expressions))))
text_983 = refl

text_984 : expression_of (codes "(r2.failed == true) or (r3 is not skipped)") ≡ Some (disjunction (expression (comparison equal (path (variable (codes "r2")) ((codes "failed") ∷ [])) (literal (boolean true))) (expression (negation (path_status is_skipped (variable (codes "r3")) ([]))) (no_expressions))))
text_984 = refl

text_985 : expression_of (codes "(r2.failed is defined) or ((r3 is defined and r3.failed is defined and r3.failed == 1) and (r3 is skipped))") ≡ Some (disjunction (expression (defined (variable (codes "r2")) ((codes "failed") ∷ [])) (expression (conjunction (expression (conjunction (expression (defined (variable (codes "r3")) ([])) (expression (defined (variable (codes "r3")) ((codes "failed") ∷ [])) (expression (comparison equal (path (variable (codes "r3")) ((codes "failed") ∷ [])) (literal (int (pos 1)))) (no_expressions))))) (expression (path_status is_skipped (variable (codes "r3")) ([])) (no_expressions)))) (no_expressions))))
text_985 = refl

text_986 : expression_of (codes "(r2.failed is defined) or (r2 is not succeeded)") ≡ Some (disjunction (expression (defined (variable (codes "r2")) ((codes "failed") ∷ [])) (expression (negation (negation (path_status is_failed (variable (codes "r2")) ([])))) (no_expressions))))
text_986 = refl

text_987 : expression_of (codes "(r2.failed is not defined) and (r3.failed is defined)") ≡ Some (conjunction (expression (negation (defined (variable (codes "r2")) ((codes "failed") ∷ []))) (expression (defined (variable (codes "r3")) ((codes "failed") ∷ [])) (no_expressions))))
text_987 = refl

text_988 : expression_of (40 ∷ 114 ∷ 50 ∷ 46 ∷ 114 ∷ 101 ∷ 115 ∷ 117 ∷ 108 ∷ 116 ∷ 115 ∷ 32 ∷ 33 ∷ 61 ∷ 32 ∷ 91 ∷ 49 ∷ 93 ∷ 41 ∷ 32 ∷ 111 ∷ 114 ∷ 32 ∷ 40 ∷ 114 ∷ 49 ∷ 32 ∷ 105 ∷ 115 ∷ 32 ∷ 110 ∷ 111 ∷ 116 ∷ 32 ∷ 115 ∷ 117 ∷ 99 ∷ 99 ∷ 101 ∷ 101 ∷ 100 ∷ 101 ∷ 100 ∷ 41 ∷ []) ≡ Some (disjunction (expression (negation (comparison equal (path (variable (codes "r2")) ((codes "results") ∷ [])) (list_of (expression (literal (int (pos 1))) (no_expressions))))) (expression (negation (negation (path_status is_failed (variable (codes "r1")) ([])))) (no_expressions))))
text_988 = refl

text_989 : expression_of (codes "(r2.skipped == true) and ((r1 is changed) and (r1 is not succeeded))") ≡ Some (conjunction (expression (comparison equal (path (variable (codes "r2")) ((codes "skipped") ∷ [])) (literal (boolean true))) (expression (conjunction (expression (path_status is_changed (variable (codes "r1")) ([])) (expression (negation (negation (path_status is_failed (variable (codes "r1")) ([])))) (no_expressions)))) (no_expressions))))
text_989 = refl

text_990 : expression_of (codes "(r3 is changed) and (r3 is skipped)") ≡ Some (conjunction (expression (path_status is_changed (variable (codes "r3")) ([])) (expression (path_status is_skipped (variable (codes "r3")) ([])) (no_expressions))))
text_990 = refl

text_991 : expression_of (codes "(r3 is failed) or (r2 is not defined)") ≡ Some (disjunction (expression (path_status is_failed (variable (codes "r3")) ([])) (expression (negation (defined (variable (codes "r2")) ([]))) (no_expressions))))
text_991 = refl

text_992 : expression_of (codes "(r3 is not skipped) and (r3 is skipped)") ≡ Some (conjunction (expression (negation (path_status is_skipped (variable (codes "r3")) ([]))) (expression (path_status is_skipped (variable (codes "r3")) ([])) (no_expressions))))
text_992 = refl

text_993 : expression_of (codes "(r3 is not succeeded) and (not (r1 is skipped))") ≡ Some (conjunction (expression (negation (negation (path_status is_failed (variable (codes "r3")) ([])))) (expression (negation (path_status is_skipped (variable (codes "r1")) ([]))) (no_expressions))))
text_993 = refl

text_994 : expression_of (codes "(r3 is not succeeded) or (r2 is skipped)") ≡ Some (disjunction (expression (negation (negation (path_status is_failed (variable (codes "r3")) ([])))) (expression (path_status is_skipped (variable (codes "r2")) ([])) (no_expressions))))
text_994 = refl

text_995 : expression_of (40 ∷ 114 ∷ 51 ∷ 32 ∷ 105 ∷ 115 ∷ 32 ∷ 115 ∷ 107 ∷ 105 ∷ 112 ∷ 112 ∷ 101 ∷ 100 ∷ 41 ∷ 32 ∷ 111 ∷ 114 ∷ 32 ∷ 40 ∷ 104 ∷ 111 ∷ 115 ∷ 116 ∷ 118 ∷ 97 ∷ 114 ∷ 115 ∷ 91 ∷ 105 ∷ 110 ∷ 118 ∷ 101 ∷ 110 ∷ 116 ∷ 111 ∷ 114 ∷ 121 ∷ 95 ∷ 104 ∷ 111 ∷ 115 ∷ 116 ∷ 110 ∷ 97 ∷ 109 ∷ 101 ∷ 93 ∷ 46 ∷ 114 ∷ 50 ∷ 46 ∷ 99 ∷ 104 ∷ 97 ∷ 110 ∷ 103 ∷ 101 ∷ 100 ∷ 32 ∷ 124 ∷ 32 ∷ 100 ∷ 101 ∷ 102 ∷ 97 ∷ 117 ∷ 108 ∷ 116 ∷ 40 ∷ 102 ∷ 97 ∷ 108 ∷ 115 ∷ 101 ∷ 41 ∷ 41 ∷ []) ≡ Some (disjunction (expression (path_status is_skipped (variable (codes "r3")) ([])) (expression (path_or (other this_host (codes "r2")) ((codes "changed") ∷ []) (literal (boolean false))) (no_expressions))))
text_995 = refl

text_996 : expression_of (40 ∷ 114 ∷ 51 ∷ 32 ∷ 124 ∷ 32 ∷ 100 ∷ 101 ∷ 102 ∷ 97 ∷ 117 ∷ 108 ∷ 116 ∷ 40 ∷ 102 ∷ 97 ∷ 108 ∷ 115 ∷ 101 ∷ 41 ∷ 41 ∷ 32 ∷ 111 ∷ 114 ∷ 32 ∷ 40 ∷ 114 ∷ 50 ∷ 32 ∷ 105 ∷ 115 ∷ 32 ∷ 110 ∷ 111 ∷ 116 ∷ 32 ∷ 115 ∷ 117 ∷ 99 ∷ 99 ∷ 101 ∷ 101 ∷ 100 ∷ 101 ∷ 100 ∷ 41 ∷ []) ≡ Some (disjunction (expression (path_or (variable (codes "r3")) ([]) (literal (boolean false))) (expression (negation (negation (path_status is_failed (variable (codes "r2")) ([])))) (no_expressions))))
text_996 = refl

text_997 : expression_of (40 ∷ 114 ∷ 51 ∷ 46 ∷ 99 ∷ 104 ∷ 97 ∷ 110 ∷ 103 ∷ 101 ∷ 100 ∷ 32 ∷ 124 ∷ 32 ∷ 100 ∷ 101 ∷ 102 ∷ 97 ∷ 117 ∷ 108 ∷ 116 ∷ 40 ∷ 102 ∷ 97 ∷ 108 ∷ 115 ∷ 101 ∷ 41 ∷ 41 ∷ 32 ∷ 111 ∷ 114 ∷ 32 ∷ 40 ∷ 114 ∷ 49 ∷ 32 ∷ 105 ∷ 115 ∷ 32 ∷ 100 ∷ 101 ∷ 102 ∷ 105 ∷ 110 ∷ 101 ∷ 100 ∷ 32 ∷ 97 ∷ 110 ∷ 100 ∷ 32 ∷ 114 ∷ 49 ∷ 32 ∷ 105 ∷ 115 ∷ 32 ∷ 110 ∷ 111 ∷ 116 ∷ 32 ∷ 115 ∷ 107 ∷ 105 ∷ 112 ∷ 112 ∷ 101 ∷ 100 ∷ 32 ∷ 97 ∷ 110 ∷ 100 ∷ 32 ∷ 114 ∷ 49 ∷ 46 ∷ 102 ∷ 97 ∷ 105 ∷ 108 ∷ 101 ∷ 100 ∷ 32 ∷ 61 ∷ 61 ∷ 32 ∷ 49 ∷ 41 ∷ []) ≡ Some (disjunction (expression (path_or (variable (codes "r3")) ((codes "changed") ∷ []) (literal (boolean false))) (expression (conjunction (expression (defined (variable (codes "r1")) ([])) (expression (negation (path_status is_skipped (variable (codes "r1")) ([]))) (expression (comparison equal (path (variable (codes "r1")) ((codes "failed") ∷ [])) (literal (int (pos 1)))) (no_expressions))))) (no_expressions))))
text_997 = refl

text_998 : expression_of (40 ∷ 114 ∷ 51 ∷ 46 ∷ 102 ∷ 97 ∷ 105 ∷ 108 ∷ 101 ∷ 100 ∷ 32 ∷ 105 ∷ 115 ∷ 32 ∷ 110 ∷ 111 ∷ 116 ∷ 32 ∷ 100 ∷ 101 ∷ 102 ∷ 105 ∷ 110 ∷ 101 ∷ 100 ∷ 41 ∷ 32 ∷ 97 ∷ 110 ∷ 100 ∷ 32 ∷ 40 ∷ 110 ∷ 111 ∷ 116 ∷ 32 ∷ 40 ∷ 114 ∷ 51 ∷ 32 ∷ 124 ∷ 32 ∷ 100 ∷ 101 ∷ 102 ∷ 97 ∷ 117 ∷ 108 ∷ 116 ∷ 40 ∷ 102 ∷ 97 ∷ 108 ∷ 115 ∷ 101 ∷ 41 ∷ 41 ∷ 41 ∷ []) ≡ Some (conjunction (expression (negation (defined (variable (codes "r3")) ((codes "failed") ∷ []))) (expression (negation (path_or (variable (codes "r3")) ([]) (literal (boolean false)))) (no_expressions))))
text_998 = refl

text_999 : expression_of (codes "(s.changed < 3) or ((r.failed < 3) and (ansible_play_batch.stat.isdir is succeeded))") ≡ Some (disjunction (expression (comparison less (path (variable (codes "s")) ((codes "changed") ∷ [])) (literal (int (pos 3)))) (expression (conjunction (expression (comparison less (path (variable (codes "r")) ((codes "failed") ∷ [])) (literal (int (pos 3)))) (expression (negation (path_status is_failed (variable (codes "ansible_play_batch")) ((codes "stat") ∷ (codes "isdir") ∷ []))) (no_expressions)))) (no_expressions))))
text_999 = refl
