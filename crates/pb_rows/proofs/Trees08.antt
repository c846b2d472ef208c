-- The trees of expressions of cases, computed.
use Rattle.std.specs.Prelude.{◌≡◌, refl, pos, [], ◌∷◌, true, Some, None, codes}
use Rattle.pb_semantics.specs.Data.{boolean, int, null, text}
use Rattle.pb_language.specs.Expression.{equal, less, is_failed, is_changed, is_skipped, this_host, item_host, literal, path, negation, conjunction, disjunction, comparison, defined, path_status, path_or, length_of, concatenation, list_of, variable, other, no_expressions, expression}
use Rattle.pb_language.specs.Grammar.{expression_of, template_of}

text_1750 : expression_of (codes "v1.stdout_lines is not defined") ≡ Some (negation (defined (variable (codes "v1")) ((codes "stdout_lines") ∷ [])))
text_1750 = refl

text_1751 : expression_of (codes "v1.stdout_lines is not skipped") ≡ Some (negation (path_status is_skipped (variable (codes "v1")) ((codes "stdout_lines") ∷ [])))
text_1751 = refl

text_1752 : expression_of (codes "v1.stdout_lines is succeeded") ≡ Some (negation (path_status is_failed (variable (codes "v1")) ((codes "stdout_lines") ∷ [])))
text_1752 = refl

text_1753 : expression_of (118 ∷ 50 ∷ 32 ∷ 61 ∷ 61 ∷ 32 ∷ 91 ∷ 49 ∷ 93 ∷ []) ≡ Some (comparison equal (path (variable (codes "v2")) ([])) (list_of (expression (literal (int (pos 1))) (no_expressions))))
text_1753 = refl

text_1754 : expression_of (codes "v2.rc is defined") ≡ Some (defined (variable (codes "v2")) ((codes "rc") ∷ []))
text_1754 = refl

text_1755 : expression_of (codes "v2.stdout is undefined") ≡ Some (negation (defined (variable (codes "v2")) ((codes "stdout") ∷ [])))
text_1755 = refl

text_1756 : expression_of (codes "v3.stdout is defined") ≡ Some (defined (variable (codes "v3")) ((codes "stdout") ∷ []))
text_1756 = refl

text_1757 : expression_of (codes "w") ≡ Some (path (variable (codes "w")) ([]))
text_1757 = refl

text_1758 : expression_of (codes "x") ≡ Some (path (variable (codes "x")) ([]))
text_1758 = refl

text_1759 : expression_of (codes "y") ≡ Some (path (variable (codes "y")) ([]))
text_1759 = refl

text_1760 : expression_of (codes "y == 1") ≡ Some (comparison equal (path (variable (codes "y")) ([])) (literal (int (pos 1))))
text_1760 = refl

text_1761 : expression_of (codes "y == 3") ≡ Some (comparison equal (path (variable (codes "y")) ([])) (literal (int (pos 3))))
text_1761 = refl

text_1762 : expression_of (codes "y is failed") ≡ Some (path_status is_failed (variable (codes "y")) ([]))
text_1762 = refl

text_1763 : expression_of (codes "y is not skipped") ≡ Some (negation (path_status is_skipped (variable (codes "y")) ([])))
text_1763 = refl

text_1764 : expression_of (codes "y is succeeded") ≡ Some (negation (path_status is_failed (variable (codes "y")) ([])))
text_1764 = refl

text_1765 : expression_of (codes "y is undefined") ≡ Some (negation (defined (variable (codes "y")) ([])))
text_1765 = refl

text_1766 : expression_of (codes "y.changed is defined") ≡ Some (defined (variable (codes "y")) ((codes "changed") ∷ []))
text_1766 = refl

text_1767 : expression_of (codes "y.k is succeeded") ≡ Some (negation (path_status is_failed (variable (codes "y")) ((codes "k") ∷ [])))
text_1767 = refl

text_1768 : expression_of (codes "y.msg is defined") ≡ Some (defined (variable (codes "y")) ((codes "msg") ∷ []))
text_1768 = refl

text_1769 : expression_of (codes "y.os_family is not defined") ≡ Some (negation (defined (variable (codes "y")) ((codes "os_family") ∷ [])))
text_1769 = refl

text_1770 : expression_of (codes "y.os_family is skipped") ≡ Some (path_status is_skipped (variable (codes "y")) ((codes "os_family") ∷ []))
text_1770 = refl

text_1771 : expression_of (codes "zz") ≡ Some (path (variable (codes "zz")) ([]))
text_1771 = refl

text_1772 : expression_of (codes "zz == 1") ≡ Some (comparison equal (path (variable (codes "zz")) ([])) (literal (int (pos 1))))
text_1772 = refl

text_1773 : expression_of (codes "zz is changed") ≡ Some (path_status is_changed (variable (codes "zz")) ([]))
text_1773 = refl

text_1774 : expression_of (codes "zz is defined") ≡ Some (defined (variable (codes "zz")) ([]))
text_1774 = refl

text_1775 : expression_of (codes "zz is failed") ≡ Some (path_status is_failed (variable (codes "zz")) ([]))
text_1775 = refl

text_1776 : expression_of (codes "zz is not skipped") ≡ Some (negation (path_status is_skipped (variable (codes "zz")) ([])))
text_1776 = refl

text_1777 : expression_of (codes "zz.changed") ≡ Some (path (variable (codes "zz")) ((codes "changed") ∷ []))
text_1777 = refl

text_1778 : expression_of (codes "zz.hostname == 1") ≡ Some (comparison equal (path (variable (codes "zz")) ((codes "hostname") ∷ [])) (literal (int (pos 1))))
text_1778 = refl

text_1779 : expression_of (codes "zz.stdout_lines == 1") ≡ Some (comparison equal (path (variable (codes "zz")) ((codes "stdout_lines") ∷ [])) (literal (int (pos 1))))
text_1779 = refl

text_1780 : expression_of (123 ∷ 123 ∷ 32 ∷ 116 ∷ 114 ∷ 117 ∷ 101 ∷ 32 ∷ 125 ∷ 125 ∷ []) ≡ None
text_1780 = refl

text_1781 : expression_of (123 ∷ 125 ∷ []) ≡ None
text_1781 = refl

text_1782 : template_of (32 ∷ 123 ∷ 123 ∷ 32 ∷ 49 ∷ 32 ∷ 125 ∷ 125 ∷ []) ≡ Some (concatenation (expression (literal (text (codes " "))) (expression (literal (int (pos 1))) (no_expressions))))
text_1782 = refl

text_1783 : template_of (97 ∷ 32 ∷ 123 ∷ 32 ∷ 98 ∷ 32 ∷ 125 ∷ 32 ∷ 99 ∷ []) ≡ Some (literal (text (97 ∷ 32 ∷ 123 ∷ 32 ∷ 98 ∷ 32 ∷ 125 ∷ 32 ∷ 99 ∷ [])))
text_1783 = refl

text_1784 : template_of (97 ∷ 123 ∷ 98 ∷ 125 ∷ 99 ∷ []) ≡ Some (literal (text (97 ∷ 123 ∷ 98 ∷ 125 ∷ 99 ∷ [])))
text_1784 = refl

text_1785 : template_of (109 ∷ 32 ∷ 123 ∷ 123 ∷ 32 ∷ 49 ∷ 32 ∷ 125 ∷ 125 ∷ []) ≡ Some (concatenation (expression (literal (text (codes "m "))) (expression (literal (int (pos 1))) (no_expressions))))
text_1785 = refl

text_1786 : template_of (110 ∷ 61 ∷ 123 ∷ 123 ∷ 32 ∷ 49 ∷ 32 ∷ 125 ∷ 125 ∷ 32 ∷ 123 ∷ 123 ∷ 32 ∷ 116 ∷ 114 ∷ 117 ∷ 101 ∷ 32 ∷ 125 ∷ 125 ∷ []) ≡ Some (concatenation (expression (literal (text (codes "n="))) (expression (literal (int (pos 1))) (expression (literal (text (codes " "))) (expression (literal (boolean true)) (no_expressions))))))
text_1786 = refl

text_1787 : template_of (120 ∷ 32 ∷ 120 ∷ 123 ∷ 123 ∷ 32 ∷ 40 ∷ 114 ∷ 49 ∷ 41 ∷ 32 ∷ 61 ∷ 61 ∷ 32 ∷ 40 ∷ 114 ∷ 51 ∷ 46 ∷ 99 ∷ 104 ∷ 97 ∷ 110 ∷ 103 ∷ 101 ∷ 100 ∷ 41 ∷ 32 ∷ 125 ∷ 125 ∷ []) ≡ Some (concatenation (expression (literal (text (codes "x x"))) (expression (comparison equal (path (variable (codes "r1")) ([])) (path (variable (codes "r3")) ((codes "changed") ∷ []))) (no_expressions))))
text_1787 = refl

text_1788 : template_of (120 ∷ 32 ∷ 120 ∷ 123 ∷ 123 ∷ 32 ∷ 40 ∷ 114 ∷ 50 ∷ 46 ∷ 114 ∷ 111 ∷ 119 ∷ 115 ∷ 41 ∷ 32 ∷ 61 ∷ 61 ∷ 32 ∷ 40 ∷ 111 ∷ 112 ∷ 46 ∷ 103 ∷ 41 ∷ 32 ∷ 125 ∷ 125 ∷ []) ≡ Some (concatenation (expression (literal (text (codes "x x"))) (expression (comparison equal (path (variable (codes "r2")) ((codes "rows") ∷ [])) (path (variable (codes "op")) ((codes "g") ∷ []))) (no_expressions))))
text_1788 = refl

text_1789 : template_of (120 ∷ 32 ∷ 120 ∷ 123 ∷ 123 ∷ 32 ∷ 40 ∷ 115 ∷ 51 ∷ 41 ∷ 32 ∷ 61 ∷ 61 ∷ 32 ∷ 40 ∷ 118 ∷ 49 ∷ 41 ∷ 32 ∷ 125 ∷ 125 ∷ []) ≡ Some (concatenation (expression (literal (text (codes "x x"))) (expression (comparison equal (path (variable (codes "s3")) ([])) (path (variable (codes "v1")) ([]))) (no_expressions))))
text_1789 = refl

text_1790 : template_of (120 ∷ 32 ∷ 120 ∷ 123 ∷ 123 ∷ 32 ∷ 49 ∷ 32 ∷ 125 ∷ 125 ∷ []) ≡ Some (concatenation (expression (literal (text (codes "x x"))) (expression (literal (int (pos 1))) (no_expressions))))
text_1790 = refl

text_1791 : template_of (120 ∷ 32 ∷ 120 ∷ 123 ∷ 123 ∷ 32 ∷ 91 ∷ 114 ∷ 50 ∷ 46 ∷ 99 ∷ 104 ∷ 97 ∷ 110 ∷ 103 ∷ 101 ∷ 100 ∷ 44 ∷ 32 ∷ 114 ∷ 50 ∷ 46 ∷ 99 ∷ 104 ∷ 97 ∷ 110 ∷ 103 ∷ 101 ∷ 100 ∷ 93 ∷ 32 ∷ 125 ∷ 125 ∷ []) ≡ Some (concatenation (expression (literal (text (codes "x x"))) (expression (list_of (expression (path (variable (codes "r2")) ((codes "changed") ∷ [])) (expression (path (variable (codes "r2")) ((codes "changed") ∷ [])) (no_expressions)))) (no_expressions))))
text_1791 = refl

text_1792 : template_of (120 ∷ 32 ∷ 120 ∷ 123 ∷ 123 ∷ 32 ∷ 97 ∷ 110 ∷ 115 ∷ 105 ∷ 98 ∷ 108 ∷ 101 ∷ 95 ∷ 102 ∷ 97 ∷ 99 ∷ 116 ∷ 115 ∷ 32 ∷ 124 ∷ 32 ∷ 100 ∷ 101 ∷ 102 ∷ 97 ∷ 117 ∷ 108 ∷ 116 ∷ 40 ∷ 115 ∷ 49 ∷ 41 ∷ 32 ∷ 125 ∷ 125 ∷ []) ≡ Some (concatenation (expression (literal (text (codes "x x"))) (expression (path_or (variable (codes "ansible_facts")) ([]) (path (variable (codes "s1")) ([]))) (no_expressions))))
text_1792 = refl

text_1793 : template_of (120 ∷ 32 ∷ 120 ∷ 123 ∷ 123 ∷ 32 ∷ 97 ∷ 110 ∷ 115 ∷ 105 ∷ 98 ∷ 108 ∷ 101 ∷ 95 ∷ 102 ∷ 97 ∷ 99 ∷ 116 ∷ 115 ∷ 46 ∷ 104 ∷ 111 ∷ 115 ∷ 116 ∷ 110 ∷ 97 ∷ 109 ∷ 101 ∷ 32 ∷ 125 ∷ 125 ∷ []) ≡ Some (concatenation (expression (literal (text (codes "x x"))) (expression (path (variable (codes "ansible_facts")) ((codes "hostname") ∷ [])) (no_expressions))))
text_1793 = refl

text_1794 : template_of (120 ∷ 32 ∷ 120 ∷ 123 ∷ 123 ∷ 32 ∷ 97 ∷ 110 ∷ 115 ∷ 105 ∷ 98 ∷ 108 ∷ 101 ∷ 95 ∷ 104 ∷ 111 ∷ 115 ∷ 116 ∷ 110 ∷ 97 ∷ 109 ∷ 101 ∷ 32 ∷ 124 ∷ 32 ∷ 100 ∷ 101 ∷ 102 ∷ 97 ∷ 117 ∷ 108 ∷ 116 ∷ 40 ∷ 49 ∷ 41 ∷ 32 ∷ 125 ∷ 125 ∷ []) ≡ Some (concatenation (expression (literal (text (codes "x x"))) (expression (path_or (variable (codes "ansible_hostname")) ([]) (literal (int (pos 1)))) (no_expressions))))
text_1794 = refl

text_1795 : template_of (120 ∷ 32 ∷ 120 ∷ 123 ∷ 123 ∷ 32 ∷ 97 ∷ 110 ∷ 115 ∷ 105 ∷ 98 ∷ 108 ∷ 101 ∷ 95 ∷ 104 ∷ 111 ∷ 115 ∷ 116 ∷ 110 ∷ 97 ∷ 109 ∷ 101 ∷ 32 ∷ 125 ∷ 125 ∷ []) ≡ Some (concatenation (expression (literal (text (codes "x x"))) (expression (path (variable (codes "ansible_hostname")) ([])) (no_expressions))))
text_1795 = refl

text_1796 : template_of (120 ∷ 32 ∷ 120 ∷ 123 ∷ 123 ∷ 32 ∷ 104 ∷ 111 ∷ 115 ∷ 116 ∷ 118 ∷ 97 ∷ 114 ∷ 115 ∷ 91 ∷ 105 ∷ 110 ∷ 118 ∷ 101 ∷ 110 ∷ 116 ∷ 111 ∷ 114 ∷ 121 ∷ 95 ∷ 104 ∷ 111 ∷ 115 ∷ 116 ∷ 110 ∷ 97 ∷ 109 ∷ 101 ∷ 93 ∷ 46 ∷ 114 ∷ 50 ∷ 46 ∷ 102 ∷ 97 ∷ 105 ∷ 108 ∷ 101 ∷ 100 ∷ 32 ∷ 125 ∷ 125 ∷ []) ≡ Some (concatenation (expression (literal (text (codes "x x"))) (expression (path (other this_host (codes "r2")) ((codes "failed") ∷ [])) (no_expressions))))
text_1796 = refl

text_1797 : template_of (120 ∷ 32 ∷ 120 ∷ 123 ∷ 123 ∷ 32 ∷ 104 ∷ 111 ∷ 115 ∷ 116 ∷ 118 ∷ 97 ∷ 114 ∷ 115 ∷ 91 ∷ 105 ∷ 116 ∷ 101 ∷ 109 ∷ 93 ∷ 46 ∷ 115 ∷ 50 ∷ 32 ∷ 125 ∷ 125 ∷ []) ≡ Some (concatenation (expression (literal (text (codes "x x"))) (expression (path (other item_host (codes "s2")) ([])) (no_expressions))))
text_1797 = refl

text_1798 : template_of (120 ∷ 32 ∷ 120 ∷ 123 ∷ 123 ∷ 32 ∷ 105 ∷ 49 ∷ 32 ∷ 125 ∷ 125 ∷ []) ≡ Some (concatenation (expression (literal (text (codes "x x"))) (expression (path (variable (codes "i1")) ([])) (no_expressions))))
text_1798 = refl

text_1799 : template_of (120 ∷ 32 ∷ 120 ∷ 123 ∷ 123 ∷ 32 ∷ 105 ∷ 110 ∷ 118 ∷ 101 ∷ 110 ∷ 116 ∷ 111 ∷ 114 ∷ 121 ∷ 95 ∷ 104 ∷ 111 ∷ 115 ∷ 116 ∷ 110 ∷ 97 ∷ 109 ∷ 101 ∷ 32 ∷ 124 ∷ 32 ∷ 100 ∷ 101 ∷ 102 ∷ 97 ∷ 117 ∷ 108 ∷ 116 ∷ 40 ∷ 49 ∷ 41 ∷ 32 ∷ 125 ∷ 125 ∷ []) ≡ Some (concatenation (expression (literal (text (codes "x x"))) (expression (path_or (variable (codes "inventory_hostname")) ([]) (literal (int (pos 1)))) (no_expressions))))
text_1799 = refl

text_1800 : template_of (120 ∷ 32 ∷ 120 ∷ 123 ∷ 123 ∷ 32 ∷ 105 ∷ 110 ∷ 118 ∷ 101 ∷ 110 ∷ 116 ∷ 111 ∷ 114 ∷ 121 ∷ 95 ∷ 104 ∷ 111 ∷ 115 ∷ 116 ∷ 110 ∷ 97 ∷ 109 ∷ 101 ∷ 32 ∷ 124 ∷ 32 ∷ 108 ∷ 101 ∷ 110 ∷ 103 ∷ 116 ∷ 104 ∷ 32 ∷ 125 ∷ 125 ∷ []) ≡ Some (concatenation (expression (literal (text (codes "x x"))) (expression (length_of (path (variable (codes "inventory_hostname")) ([]))) (no_expressions))))
text_1800 = refl

text_1801 : template_of (120 ∷ 32 ∷ 120 ∷ 123 ∷ 123 ∷ 32 ∷ 111 ∷ 112 ∷ 32 ∷ 124 ∷ 32 ∷ 108 ∷ 101 ∷ 110 ∷ 103 ∷ 116 ∷ 104 ∷ 32 ∷ 125 ∷ 125 ∷ []) ≡ Some (concatenation (expression (literal (text (codes "x x"))) (expression (length_of (path (variable (codes "op")) ([]))) (no_expressions))))
text_1801 = refl

text_1802 : template_of (120 ∷ 32 ∷ 120 ∷ 123 ∷ 123 ∷ 32 ∷ 114 ∷ 49 ∷ 46 ∷ 99 ∷ 104 ∷ 97 ∷ 110 ∷ 103 ∷ 101 ∷ 100 ∷ 32 ∷ 125 ∷ 125 ∷ []) ≡ Some (concatenation (expression (literal (text (codes "x x"))) (expression (path (variable (codes "r1")) ((codes "changed") ∷ [])) (no_expressions))))
text_1802 = refl

text_1803 : template_of (120 ∷ 32 ∷ 120 ∷ 123 ∷ 123 ∷ 32 ∷ 114 ∷ 49 ∷ 46 ∷ 102 ∷ 97 ∷ 105 ∷ 108 ∷ 101 ∷ 100 ∷ 32 ∷ 124 ∷ 32 ∷ 108 ∷ 101 ∷ 110 ∷ 103 ∷ 116 ∷ 104 ∷ 32 ∷ 125 ∷ 125 ∷ []) ≡ Some (concatenation (expression (literal (text (codes "x x"))) (expression (length_of (path (variable (codes "r1")) ((codes "failed") ∷ []))) (no_expressions))))
text_1803 = refl

text_1804 : template_of (120 ∷ 32 ∷ 120 ∷ 123 ∷ 123 ∷ 32 ∷ 114 ∷ 49 ∷ 46 ∷ 102 ∷ 97 ∷ 105 ∷ 108 ∷ 101 ∷ 100 ∷ 32 ∷ 125 ∷ 125 ∷ []) ≡ Some (concatenation (expression (literal (text (codes "x x"))) (expression (path (variable (codes "r1")) ((codes "failed") ∷ [])) (no_expressions))))
text_1804 = refl

text_1805 : template_of (120 ∷ 32 ∷ 120 ∷ 123 ∷ 123 ∷ 32 ∷ 114 ∷ 49 ∷ 46 ∷ 109 ∷ 115 ∷ 103 ∷ 32 ∷ 124 ∷ 32 ∷ 100 ∷ 101 ∷ 102 ∷ 97 ∷ 117 ∷ 108 ∷ 116 ∷ 40 ∷ 115 ∷ 49 ∷ 41 ∷ 32 ∷ 125 ∷ 125 ∷ []) ≡ Some (concatenation (expression (literal (text (codes "x x"))) (expression (path_or (variable (codes "r1")) ((codes "msg") ∷ []) (path (variable (codes "s1")) ([]))) (no_expressions))))
text_1805 = refl

text_1806 : template_of (120 ∷ 32 ∷ 120 ∷ 123 ∷ 123 ∷ 32 ∷ 114 ∷ 49 ∷ 46 ∷ 115 ∷ 107 ∷ 105 ∷ 112 ∷ 112 ∷ 101 ∷ 100 ∷ 32 ∷ 125 ∷ 125 ∷ []) ≡ Some (concatenation (expression (literal (text (codes "x x"))) (expression (path (variable (codes "r1")) ((codes "skipped") ∷ [])) (no_expressions))))
text_1806 = refl

text_1807 : template_of (120 ∷ 32 ∷ 120 ∷ 123 ∷ 123 ∷ 32 ∷ 114 ∷ 49 ∷ 46 ∷ 115 ∷ 116 ∷ 100 ∷ 111 ∷ 117 ∷ 116 ∷ 95 ∷ 108 ∷ 105 ∷ 110 ∷ 101 ∷ 115 ∷ 32 ∷ 125 ∷ 125 ∷ []) ≡ Some (concatenation (expression (literal (text (codes "x x"))) (expression (path (variable (codes "r1")) ((codes "stdout_lines") ∷ [])) (no_expressions))))
text_1807 = refl

text_1808 : template_of (120 ∷ 32 ∷ 120 ∷ 123 ∷ 123 ∷ 32 ∷ 114 ∷ 50 ∷ 32 ∷ 124 ∷ 32 ∷ 100 ∷ 101 ∷ 102 ∷ 97 ∷ 117 ∷ 108 ∷ 116 ∷ 40 ∷ 91 ∷ 93 ∷ 41 ∷ 32 ∷ 125 ∷ 125 ∷ []) ≡ Some (concatenation (expression (literal (text (codes "x x"))) (expression (path_or (variable (codes "r2")) ([]) (list_of (no_expressions))) (no_expressions))))
text_1808 = refl

text_1809 : template_of (120 ∷ 32 ∷ 120 ∷ 123 ∷ 123 ∷ 32 ∷ 114 ∷ 50 ∷ 46 ∷ 115 ∷ 107 ∷ 105 ∷ 112 ∷ 95 ∷ 114 ∷ 101 ∷ 97 ∷ 115 ∷ 111 ∷ 110 ∷ 32 ∷ 124 ∷ 32 ∷ 108 ∷ 101 ∷ 110 ∷ 103 ∷ 116 ∷ 104 ∷ 32 ∷ 125 ∷ 125 ∷ []) ≡ Some (concatenation (expression (literal (text (codes "x x"))) (expression (length_of (path (variable (codes "r2")) ((codes "skip_reason") ∷ []))) (no_expressions))))
text_1809 = refl

text_1810 : template_of (120 ∷ 32 ∷ 120 ∷ 123 ∷ 123 ∷ 32 ∷ 114 ∷ 50 ∷ 46 ∷ 115 ∷ 116 ∷ 100 ∷ 111 ∷ 117 ∷ 116 ∷ 32 ∷ 125 ∷ 125 ∷ []) ≡ Some (concatenation (expression (literal (text (codes "x x"))) (expression (path (variable (codes "r2")) ((codes "stdout") ∷ [])) (no_expressions))))
text_1810 = refl

text_1811 : template_of (120 ∷ 32 ∷ 120 ∷ 123 ∷ 123 ∷ 32 ∷ 114 ∷ 51 ∷ 46 ∷ 99 ∷ 104 ∷ 97 ∷ 110 ∷ 103 ∷ 101 ∷ 100 ∷ 32 ∷ 125 ∷ 125 ∷ []) ≡ Some (concatenation (expression (literal (text (codes "x x"))) (expression (path (variable (codes "r3")) ((codes "changed") ∷ [])) (no_expressions))))
text_1811 = refl

text_1812 : template_of (120 ∷ 32 ∷ 120 ∷ 123 ∷ 123 ∷ 32 ∷ 114 ∷ 51 ∷ 46 ∷ 102 ∷ 97 ∷ 105 ∷ 108 ∷ 101 ∷ 100 ∷ 32 ∷ 125 ∷ 125 ∷ []) ≡ Some (concatenation (expression (literal (text (codes "x x"))) (expression (path (variable (codes "r3")) ((codes "failed") ∷ [])) (no_expressions))))
text_1812 = refl

text_1813 : template_of (120 ∷ 32 ∷ 120 ∷ 123 ∷ 123 ∷ 32 ∷ 114 ∷ 51 ∷ 46 ∷ 115 ∷ 116 ∷ 100 ∷ 111 ∷ 117 ∷ 116 ∷ 32 ∷ 125 ∷ 125 ∷ []) ≡ Some (concatenation (expression (literal (text (codes "x x"))) (expression (path (variable (codes "r3")) ((codes "stdout") ∷ [])) (no_expressions))))
text_1813 = refl

text_1814 : template_of (120 ∷ 32 ∷ 120 ∷ 123 ∷ 123 ∷ 32 ∷ 114 ∷ 51 ∷ 46 ∷ 115 ∷ 116 ∷ 100 ∷ 111 ∷ 117 ∷ 116 ∷ 95 ∷ 108 ∷ 105 ∷ 110 ∷ 101 ∷ 115 ∷ 32 ∷ 124 ∷ 32 ∷ 100 ∷ 101 ∷ 102 ∷ 97 ∷ 117 ∷ 108 ∷ 116 ∷ 40 ∷ 91 ∷ 93 ∷ 41 ∷ 32 ∷ 125 ∷ 125 ∷ []) ≡ Some (concatenation (expression (literal (text (codes "x x"))) (expression (path_or (variable (codes "r3")) ((codes "stdout_lines") ∷ []) (list_of (no_expressions))) (no_expressions))))
text_1814 = refl

text_1815 : template_of (120 ∷ 32 ∷ 120 ∷ 123 ∷ 123 ∷ 32 ∷ 115 ∷ 49 ∷ 32 ∷ 124 ∷ 32 ∷ 108 ∷ 101 ∷ 110 ∷ 103 ∷ 116 ∷ 104 ∷ 32 ∷ 125 ∷ 125 ∷ []) ≡ Some (concatenation (expression (literal (text (codes "x x"))) (expression (length_of (path (variable (codes "s1")) ([]))) (no_expressions))))
text_1815 = refl

text_1816 : template_of (120 ∷ 32 ∷ 120 ∷ 123 ∷ 123 ∷ 32 ∷ 115 ∷ 49 ∷ 32 ∷ 125 ∷ 125 ∷ []) ≡ Some (concatenation (expression (literal (text (codes "x x"))) (expression (path (variable (codes "s1")) ([])) (no_expressions))))
text_1816 = refl

text_1817 : template_of (120 ∷ 32 ∷ 120 ∷ 123 ∷ 123 ∷ 32 ∷ 115 ∷ 50 ∷ 32 ∷ 125 ∷ 125 ∷ []) ≡ Some (concatenation (expression (literal (text (codes "x x"))) (expression (path (variable (codes "s2")) ([])) (no_expressions))))
text_1817 = refl

text_1818 : template_of (120 ∷ 32 ∷ 120 ∷ 123 ∷ 123 ∷ 32 ∷ 115 ∷ 51 ∷ 32 ∷ 125 ∷ 125 ∷ []) ≡ Some (concatenation (expression (literal (text (codes "x x"))) (expression (path (variable (codes "s3")) ([])) (no_expressions))))
text_1818 = refl

text_1819 : template_of (120 ∷ 32 ∷ 120 ∷ 123 ∷ 123 ∷ 32 ∷ 116 ∷ 114 ∷ 117 ∷ 101 ∷ 32 ∷ 125 ∷ 125 ∷ []) ≡ Some (concatenation (expression (literal (text (codes "x x"))) (expression (literal (boolean true)) (no_expressions))))
text_1819 = refl

text_1820 : template_of (120 ∷ 32 ∷ 120 ∷ 123 ∷ 123 ∷ 32 ∷ 118 ∷ 51 ∷ 32 ∷ 125 ∷ 125 ∷ []) ≡ Some (concatenation (expression (literal (text (codes "x x"))) (expression (path (variable (codes "v3")) ([])) (no_expressions))))
text_1820 = refl

text_1821 : template_of (120 ∷ 32 ∷ 123 ∷ 123 ∷ 32 ∷ 40 ∷ 97 ∷ 110 ∷ 115 ∷ 105 ∷ 98 ∷ 108 ∷ 101 ∷ 95 ∷ 112 ∷ 108 ∷ 97 ∷ 121 ∷ 95 ∷ 98 ∷ 97 ∷ 116 ∷ 99 ∷ 104 ∷ 41 ∷ 32 ∷ 61 ∷ 61 ∷ 32 ∷ 40 ∷ 114 ∷ 49 ∷ 46 ∷ 99 ∷ 104 ∷ 97 ∷ 110 ∷ 103 ∷ 101 ∷ 100 ∷ 41 ∷ 32 ∷ 125 ∷ 125 ∷ []) ≡ Some (concatenation (expression (literal (text (codes "x "))) (expression (comparison equal (path (variable (codes "ansible_play_batch")) ([])) (path (variable (codes "r1")) ((codes "changed") ∷ []))) (no_expressions))))
text_1821 = refl

text_1822 : template_of (120 ∷ 32 ∷ 123 ∷ 123 ∷ 32 ∷ 40 ∷ 104 ∷ 111 ∷ 115 ∷ 116 ∷ 118 ∷ 97 ∷ 114 ∷ 115 ∷ 91 ∷ 105 ∷ 110 ∷ 118 ∷ 101 ∷ 110 ∷ 116 ∷ 111 ∷ 114 ∷ 121 ∷ 95 ∷ 104 ∷ 111 ∷ 115 ∷ 116 ∷ 110 ∷ 97 ∷ 109 ∷ 101 ∷ 93 ∷ 46 ∷ 105 ∷ 49 ∷ 46 ∷ 114 ∷ 99 ∷ 41 ∷ 32 ∷ 61 ∷ 61 ∷ 32 ∷ 40 ∷ 111 ∷ 112 ∷ 41 ∷ 32 ∷ 125 ∷ 125 ∷ []) ≡ Some (concatenation (expression (literal (text (codes "x "))) (expression (comparison equal (path (other this_host (codes "i1")) ((codes "rc") ∷ [])) (path (variable (codes "op")) ([]))) (no_expressions))))
text_1822 = refl

text_1823 : template_of (120 ∷ 32 ∷ 123 ∷ 123 ∷ 32 ∷ 40 ∷ 104 ∷ 111 ∷ 115 ∷ 116 ∷ 118 ∷ 97 ∷ 114 ∷ 115 ∷ 91 ∷ 105 ∷ 116 ∷ 101 ∷ 109 ∷ 93 ∷ 46 ∷ 114 ∷ 51 ∷ 46 ∷ 102 ∷ 97 ∷ 105 ∷ 108 ∷ 101 ∷ 100 ∷ 41 ∷ 32 ∷ 61 ∷ 61 ∷ 32 ∷ 40 ∷ 104 ∷ 111 ∷ 115 ∷ 116 ∷ 118 ∷ 97 ∷ 114 ∷ 115 ∷ 91 ∷ 105 ∷ 116 ∷ 101 ∷ 109 ∷ 93 ∷ 46 ∷ 114 ∷ 50 ∷ 46 ∷ 102 ∷ 97 ∷ 105 ∷ 108 ∷ 101 ∷ 100 ∷ 41 ∷ 32 ∷ 125 ∷ 125 ∷ []) ≡ Some (concatenation (expression (literal (text (codes "x "))) (expression (comparison equal (path (other item_host (codes "r3")) ((codes "failed") ∷ [])) (path (other item_host (codes "r2")) ((codes "failed") ∷ []))) (no_expressions))))
text_1823 = refl

text_1824 : template_of (120 ∷ 32 ∷ 123 ∷ 123 ∷ 32 ∷ 40 ∷ 105 ∷ 49 ∷ 41 ∷ 32 ∷ 61 ∷ 61 ∷ 32 ∷ 40 ∷ 114 ∷ 51 ∷ 41 ∷ 32 ∷ 125 ∷ 125 ∷ []) ≡ Some (concatenation (expression (literal (text (codes "x "))) (expression (comparison equal (path (variable (codes "i1")) ([])) (path (variable (codes "r3")) ([]))) (no_expressions))))
text_1824 = refl

text_1825 : template_of (120 ∷ 32 ∷ 123 ∷ 123 ∷ 32 ∷ 40 ∷ 111 ∷ 112 ∷ 41 ∷ 32 ∷ 61 ∷ 61 ∷ 32 ∷ 40 ∷ 114 ∷ 51 ∷ 46 ∷ 99 ∷ 104 ∷ 97 ∷ 110 ∷ 103 ∷ 101 ∷ 100 ∷ 41 ∷ 32 ∷ 125 ∷ 125 ∷ []) ≡ Some (concatenation (expression (literal (text (codes "x "))) (expression (comparison equal (path (variable (codes "op")) ([])) (path (variable (codes "r3")) ((codes "changed") ∷ []))) (no_expressions))))
text_1825 = refl

text_1826 : template_of (120 ∷ 32 ∷ 123 ∷ 123 ∷ 32 ∷ 40 ∷ 111 ∷ 112 ∷ 46 ∷ 99 ∷ 104 ∷ 97 ∷ 110 ∷ 103 ∷ 101 ∷ 100 ∷ 41 ∷ 32 ∷ 61 ∷ 61 ∷ 32 ∷ 40 ∷ 115 ∷ 50 ∷ 41 ∷ 32 ∷ 125 ∷ 125 ∷ []) ≡ Some (concatenation (expression (literal (text (codes "x "))) (expression (comparison equal (path (variable (codes "op")) ((codes "changed") ∷ [])) (path (variable (codes "s2")) ([]))) (no_expressions))))
text_1826 = refl

text_1827 : template_of (120 ∷ 32 ∷ 123 ∷ 123 ∷ 32 ∷ 40 ∷ 114 ∷ 49 ∷ 41 ∷ 32 ∷ 61 ∷ 61 ∷ 32 ∷ 40 ∷ 114 ∷ 50 ∷ 46 ∷ 109 ∷ 115 ∷ 103 ∷ 41 ∷ 32 ∷ 125 ∷ 125 ∷ []) ≡ Some (concatenation (expression (literal (text (codes "x "))) (expression (comparison equal (path (variable (codes "r1")) ([])) (path (variable (codes "r2")) ((codes "msg") ∷ []))) (no_expressions))))
text_1827 = refl

text_1828 : template_of (120 ∷ 32 ∷ 123 ∷ 123 ∷ 32 ∷ 40 ∷ 114 ∷ 50 ∷ 46 ∷ 102 ∷ 97 ∷ 105 ∷ 108 ∷ 101 ∷ 100 ∷ 41 ∷ 32 ∷ 61 ∷ 61 ∷ 32 ∷ 40 ∷ 97 ∷ 110 ∷ 115 ∷ 105 ∷ 98 ∷ 108 ∷ 101 ∷ 95 ∷ 102 ∷ 97 ∷ 105 ∷ 108 ∷ 101 ∷ 100 ∷ 95 ∷ 114 ∷ 101 ∷ 115 ∷ 117 ∷ 108 ∷ 116 ∷ 46 ∷ 109 ∷ 115 ∷ 103 ∷ 41 ∷ 32 ∷ 125 ∷ 125 ∷ []) ≡ Some (concatenation (expression (literal (text (codes "x "))) (expression (comparison equal (path (variable (codes "r2")) ((codes "failed") ∷ [])) (path (variable (codes "ansible_failed_result")) ((codes "msg") ∷ []))) (no_expressions))))
text_1828 = refl

text_1829 : template_of (120 ∷ 32 ∷ 123 ∷ 123 ∷ 32 ∷ 40 ∷ 115 ∷ 49 ∷ 41 ∷ 32 ∷ 61 ∷ 61 ∷ 32 ∷ 40 ∷ 114 ∷ 51 ∷ 46 ∷ 99 ∷ 104 ∷ 97 ∷ 110 ∷ 103 ∷ 101 ∷ 100 ∷ 41 ∷ 32 ∷ 125 ∷ 125 ∷ []) ≡ Some (concatenation (expression (literal (text (codes "x "))) (expression (comparison equal (path (variable (codes "s1")) ([])) (path (variable (codes "r3")) ((codes "changed") ∷ []))) (no_expressions))))
text_1829 = refl

text_1830 : template_of (120 ∷ 32 ∷ 123 ∷ 123 ∷ 32 ∷ 49 ∷ 32 ∷ 125 ∷ 125 ∷ []) ≡ Some (concatenation (expression (literal (text (codes "x "))) (expression (literal (int (pos 1))) (no_expressions))))
text_1830 = refl

text_1831 : template_of (120 ∷ 32 ∷ 123 ∷ 123 ∷ 32 ∷ 91 ∷ 49 ∷ 44 ∷ 32 ∷ 50 ∷ 93 ∷ 32 ∷ 125 ∷ 125 ∷ []) ≡ Some (concatenation (expression (literal (text (codes "x "))) (expression (list_of (expression (literal (int (pos 1))) (expression (literal (int (pos 2))) (no_expressions)))) (no_expressions))))
text_1831 = refl

text_1832 : template_of (120 ∷ 32 ∷ 123 ∷ 123 ∷ 32 ∷ 91 ∷ 97 ∷ 110 ∷ 115 ∷ 105 ∷ 98 ∷ 108 ∷ 101 ∷ 95 ∷ 102 ∷ 97 ∷ 99 ∷ 116 ∷ 115 ∷ 46 ∷ 104 ∷ 111 ∷ 115 ∷ 116 ∷ 110 ∷ 97 ∷ 109 ∷ 101 ∷ 44 ∷ 32 ∷ 49 ∷ 93 ∷ 32 ∷ 125 ∷ 125 ∷ []) ≡ Some (concatenation (expression (literal (text (codes "x "))) (expression (list_of (expression (path (variable (codes "ansible_facts")) ((codes "hostname") ∷ [])) (expression (literal (int (pos 1))) (no_expressions)))) (no_expressions))))
text_1832 = refl

text_1833 : template_of (120 ∷ 32 ∷ 123 ∷ 123 ∷ 32 ∷ 91 ∷ 97 ∷ 110 ∷ 115 ∷ 105 ∷ 98 ∷ 108 ∷ 101 ∷ 95 ∷ 102 ∷ 97 ∷ 99 ∷ 116 ∷ 115 ∷ 46 ∷ 104 ∷ 111 ∷ 115 ∷ 116 ∷ 110 ∷ 97 ∷ 109 ∷ 101 ∷ 44 ∷ 32 ∷ 97 ∷ 110 ∷ 115 ∷ 105 ∷ 98 ∷ 108 ∷ 101 ∷ 95 ∷ 102 ∷ 97 ∷ 99 ∷ 116 ∷ 115 ∷ 46 ∷ 104 ∷ 111 ∷ 115 ∷ 116 ∷ 110 ∷ 97 ∷ 109 ∷ 101 ∷ 93 ∷ 32 ∷ 125 ∷ 125 ∷ []) ≡ Some (concatenation (expression (literal (text (codes "x "))) (expression (list_of (expression (path (variable (codes "ansible_facts")) ((codes "hostname") ∷ [])) (expression (path (variable (codes "ansible_facts")) ((codes "hostname") ∷ [])) (no_expressions)))) (no_expressions))))
text_1833 = refl

text_1834 : template_of (120 ∷ 32 ∷ 123 ∷ 123 ∷ 32 ∷ 91 ∷ 97 ∷ 110 ∷ 115 ∷ 105 ∷ 98 ∷ 108 ∷ 101 ∷ 95 ∷ 104 ∷ 111 ∷ 115 ∷ 116 ∷ 110 ∷ 97 ∷ 109 ∷ 101 ∷ 44 ∷ 32 ∷ 49 ∷ 93 ∷ 32 ∷ 125 ∷ 125 ∷ []) ≡ Some (concatenation (expression (literal (text (codes "x "))) (expression (list_of (expression (path (variable (codes "ansible_hostname")) ([])) (expression (literal (int (pos 1))) (no_expressions)))) (no_expressions))))
text_1834 = refl

text_1835 : template_of (120 ∷ 32 ∷ 123 ∷ 123 ∷ 32 ∷ 91 ∷ 97 ∷ 110 ∷ 115 ∷ 105 ∷ 98 ∷ 108 ∷ 101 ∷ 95 ∷ 111 ∷ 115 ∷ 95 ∷ 102 ∷ 97 ∷ 109 ∷ 105 ∷ 108 ∷ 121 ∷ 44 ∷ 32 ∷ 97 ∷ 110 ∷ 115 ∷ 105 ∷ 98 ∷ 108 ∷ 101 ∷ 95 ∷ 111 ∷ 115 ∷ 95 ∷ 102 ∷ 97 ∷ 109 ∷ 105 ∷ 108 ∷ 121 ∷ 93 ∷ 32 ∷ 125 ∷ 125 ∷ []) ≡ Some (concatenation (expression (literal (text (codes "x "))) (expression (list_of (expression (path (variable (codes "ansible_os_family")) ([])) (expression (path (variable (codes "ansible_os_family")) ([])) (no_expressions)))) (no_expressions))))
text_1835 = refl

text_1836 : template_of (120 ∷ 32 ∷ 123 ∷ 123 ∷ 32 ∷ 91 ∷ 103 ∷ 114 ∷ 111 ∷ 117 ∷ 112 ∷ 95 ∷ 110 ∷ 97 ∷ 109 ∷ 101 ∷ 115 ∷ 44 ∷ 32 ∷ 103 ∷ 114 ∷ 111 ∷ 117 ∷ 112 ∷ 95 ∷ 110 ∷ 97 ∷ 109 ∷ 101 ∷ 115 ∷ 93 ∷ 32 ∷ 125 ∷ 125 ∷ []) ≡ Some (concatenation (expression (literal (text (codes "x "))) (expression (list_of (expression (path (variable (codes "group_names")) ([])) (expression (path (variable (codes "group_names")) ([])) (no_expressions)))) (no_expressions))))
text_1836 = refl

text_1837 : template_of (120 ∷ 32 ∷ 123 ∷ 123 ∷ 32 ∷ 91 ∷ 104 ∷ 111 ∷ 115 ∷ 116 ∷ 118 ∷ 97 ∷ 114 ∷ 115 ∷ 91 ∷ 105 ∷ 116 ∷ 101 ∷ 109 ∷ 93 ∷ 46 ∷ 115 ∷ 49 ∷ 44 ∷ 32 ∷ 104 ∷ 111 ∷ 115 ∷ 116 ∷ 118 ∷ 97 ∷ 114 ∷ 115 ∷ 91 ∷ 105 ∷ 116 ∷ 101 ∷ 109 ∷ 93 ∷ 46 ∷ 115 ∷ 49 ∷ 93 ∷ 32 ∷ 125 ∷ 125 ∷ []) ≡ Some (concatenation (expression (literal (text (codes "x "))) (expression (list_of (expression (path (other item_host (codes "s1")) ([])) (expression (path (other item_host (codes "s1")) ([])) (no_expressions)))) (no_expressions))))
text_1837 = refl

text_1838 : template_of (120 ∷ 32 ∷ 123 ∷ 123 ∷ 32 ∷ 91 ∷ 105 ∷ 49 ∷ 44 ∷ 32 ∷ 49 ∷ 93 ∷ 32 ∷ 125 ∷ 125 ∷ []) ≡ Some (concatenation (expression (literal (text (codes "x "))) (expression (list_of (expression (path (variable (codes "i1")) ([])) (expression (literal (int (pos 1))) (no_expressions)))) (no_expressions))))
text_1838 = refl

text_1839 : template_of (120 ∷ 32 ∷ 123 ∷ 123 ∷ 32 ∷ 91 ∷ 105 ∷ 110 ∷ 118 ∷ 101 ∷ 110 ∷ 116 ∷ 111 ∷ 114 ∷ 121 ∷ 95 ∷ 104 ∷ 111 ∷ 115 ∷ 116 ∷ 110 ∷ 97 ∷ 109 ∷ 101 ∷ 44 ∷ 32 ∷ 105 ∷ 110 ∷ 118 ∷ 101 ∷ 110 ∷ 116 ∷ 111 ∷ 114 ∷ 121 ∷ 95 ∷ 104 ∷ 111 ∷ 115 ∷ 116 ∷ 110 ∷ 97 ∷ 109 ∷ 101 ∷ 93 ∷ 32 ∷ 125 ∷ 125 ∷ []) ≡ Some (concatenation (expression (literal (text (codes "x "))) (expression (list_of (expression (path (variable (codes "inventory_hostname")) ([])) (expression (path (variable (codes "inventory_hostname")) ([])) (no_expressions)))) (no_expressions))))
text_1839 = refl

text_1840 : template_of (120 ∷ 32 ∷ 123 ∷ 123 ∷ 32 ∷ 91 ∷ 114 ∷ 49 ∷ 46 ∷ 109 ∷ 115 ∷ 103 ∷ 44 ∷ 32 ∷ 49 ∷ 93 ∷ 32 ∷ 125 ∷ 125 ∷ []) ≡ Some (concatenation (expression (literal (text (codes "x "))) (expression (list_of (expression (path (variable (codes "r1")) ((codes "msg") ∷ [])) (expression (literal (int (pos 1))) (no_expressions)))) (no_expressions))))
text_1840 = refl

text_1841 : template_of (120 ∷ 32 ∷ 123 ∷ 123 ∷ 32 ∷ 91 ∷ 114 ∷ 51 ∷ 44 ∷ 32 ∷ 49 ∷ 93 ∷ 32 ∷ 125 ∷ 125 ∷ []) ≡ Some (concatenation (expression (literal (text (codes "x "))) (expression (list_of (expression (path (variable (codes "r3")) ([])) (expression (literal (int (pos 1))) (no_expressions)))) (no_expressions))))
text_1841 = refl

text_1842 : template_of (120 ∷ 32 ∷ 123 ∷ 123 ∷ 32 ∷ 91 ∷ 114 ∷ 51 ∷ 46 ∷ 100 ∷ 101 ∷ 101 ∷ 112 ∷ 46 ∷ 98 ∷ 44 ∷ 32 ∷ 114 ∷ 51 ∷ 46 ∷ 100 ∷ 101 ∷ 101 ∷ 112 ∷ 46 ∷ 98 ∷ 93 ∷ 32 ∷ 125 ∷ 125 ∷ []) ≡ Some (concatenation (expression (literal (text (codes "x "))) (expression (list_of (expression (path (variable (codes "r3")) ((codes "deep") ∷ (codes "b") ∷ [])) (expression (path (variable (codes "r3")) ((codes "deep") ∷ (codes "b") ∷ [])) (no_expressions)))) (no_expressions))))
text_1842 = refl

text_1843 : template_of (120 ∷ 32 ∷ 123 ∷ 123 ∷ 32 ∷ 91 ∷ 114 ∷ 51 ∷ 46 ∷ 102 ∷ 97 ∷ 105 ∷ 108 ∷ 101 ∷ 100 ∷ 44 ∷ 32 ∷ 49 ∷ 93 ∷ 32 ∷ 125 ∷ 125 ∷ []) ≡ Some (concatenation (expression (literal (text (codes "x "))) (expression (list_of (expression (path (variable (codes "r3")) ((codes "failed") ∷ [])) (expression (literal (int (pos 1))) (no_expressions)))) (no_expressions))))
text_1843 = refl

text_1844 : template_of (120 ∷ 32 ∷ 123 ∷ 123 ∷ 32 ∷ 91 ∷ 115 ∷ 49 ∷ 46 ∷ 103 ∷ 44 ∷ 32 ∷ 49 ∷ 93 ∷ 32 ∷ 125 ∷ 125 ∷ []) ≡ Some (concatenation (expression (literal (text (codes "x "))) (expression (list_of (expression (path (variable (codes "s1")) ((codes "g") ∷ [])) (expression (literal (int (pos 1))) (no_expressions)))) (no_expressions))))
text_1844 = refl

text_1845 : template_of (120 ∷ 32 ∷ 123 ∷ 123 ∷ 32 ∷ 91 ∷ 115 ∷ 50 ∷ 46 ∷ 99 ∷ 104 ∷ 97 ∷ 110 ∷ 103 ∷ 101 ∷ 100 ∷ 44 ∷ 32 ∷ 115 ∷ 50 ∷ 46 ∷ 99 ∷ 104 ∷ 97 ∷ 110 ∷ 103 ∷ 101 ∷ 100 ∷ 93 ∷ 32 ∷ 125 ∷ 125 ∷ []) ≡ Some (concatenation (expression (literal (text (codes "x "))) (expression (list_of (expression (path (variable (codes "s2")) ((codes "changed") ∷ [])) (expression (path (variable (codes "s2")) ((codes "changed") ∷ [])) (no_expressions)))) (no_expressions))))
text_1845 = refl

text_1846 : template_of (120 ∷ 32 ∷ 123 ∷ 123 ∷ 32 ∷ 91 ∷ 115 ∷ 51 ∷ 44 ∷ 32 ∷ 115 ∷ 51 ∷ 93 ∷ 32 ∷ 125 ∷ 125 ∷ []) ≡ Some (concatenation (expression (literal (text (codes "x "))) (expression (list_of (expression (path (variable (codes "s3")) ([])) (expression (path (variable (codes "s3")) ([])) (no_expressions)))) (no_expressions))))
text_1846 = refl

text_1847 : template_of (120 ∷ 32 ∷ 123 ∷ 123 ∷ 32 ∷ 97 ∷ 110 ∷ 115 ∷ 105 ∷ 98 ∷ 108 ∷ 101 ∷ 95 ∷ 102 ∷ 97 ∷ 99 ∷ 116 ∷ 115 ∷ 32 ∷ 125 ∷ 125 ∷ []) ≡ Some (concatenation (expression (literal (text (codes "x "))) (expression (path (variable (codes "ansible_facts")) ([])) (no_expressions))))
text_1847 = refl

text_1848 : template_of (120 ∷ 32 ∷ 123 ∷ 123 ∷ 32 ∷ 97 ∷ 110 ∷ 115 ∷ 105 ∷ 98 ∷ 108 ∷ 101 ∷ 95 ∷ 102 ∷ 97 ∷ 99 ∷ 116 ∷ 115 ∷ 46 ∷ 104 ∷ 111 ∷ 115 ∷ 116 ∷ 110 ∷ 97 ∷ 109 ∷ 101 ∷ 32 ∷ 124 ∷ 32 ∷ 100 ∷ 101 ∷ 102 ∷ 97 ∷ 117 ∷ 108 ∷ 116 ∷ 40 ∷ 115 ∷ 49 ∷ 41 ∷ 32 ∷ 125 ∷ 125 ∷ []) ≡ Some (concatenation (expression (literal (text (codes "x "))) (expression (path_or (variable (codes "ansible_facts")) ((codes "hostname") ∷ []) (path (variable (codes "s1")) ([]))) (no_expressions))))
text_1848 = refl

text_1849 : template_of (120 ∷ 32 ∷ 123 ∷ 123 ∷ 32 ∷ 97 ∷ 110 ∷ 115 ∷ 105 ∷ 98 ∷ 108 ∷ 101 ∷ 95 ∷ 102 ∷ 97 ∷ 99 ∷ 116 ∷ 115 ∷ 46 ∷ 104 ∷ 111 ∷ 115 ∷ 116 ∷ 110 ∷ 97 ∷ 109 ∷ 101 ∷ 32 ∷ 125 ∷ 125 ∷ []) ≡ Some (concatenation (expression (literal (text (codes "x "))) (expression (path (variable (codes "ansible_facts")) ((codes "hostname") ∷ [])) (no_expressions))))
text_1849 = refl

text_1850 : template_of (120 ∷ 32 ∷ 123 ∷ 123 ∷ 32 ∷ 97 ∷ 110 ∷ 115 ∷ 105 ∷ 98 ∷ 108 ∷ 101 ∷ 95 ∷ 102 ∷ 97 ∷ 105 ∷ 108 ∷ 101 ∷ 100 ∷ 95 ∷ 114 ∷ 101 ∷ 115 ∷ 117 ∷ 108 ∷ 116 ∷ 46 ∷ 109 ∷ 115 ∷ 103 ∷ 32 ∷ 125 ∷ 125 ∷ []) ≡ Some (concatenation (expression (literal (text (codes "x "))) (expression (path (variable (codes "ansible_failed_result")) ((codes "msg") ∷ [])) (no_expressions))))
text_1850 = refl

text_1851 : template_of (120 ∷ 32 ∷ 123 ∷ 123 ∷ 32 ∷ 97 ∷ 110 ∷ 115 ∷ 105 ∷ 98 ∷ 108 ∷ 101 ∷ 95 ∷ 104 ∷ 111 ∷ 115 ∷ 116 ∷ 110 ∷ 97 ∷ 109 ∷ 101 ∷ 32 ∷ 124 ∷ 32 ∷ 100 ∷ 101 ∷ 102 ∷ 97 ∷ 117 ∷ 108 ∷ 116 ∷ 40 ∷ 49 ∷ 41 ∷ 32 ∷ 125 ∷ 125 ∷ []) ≡ Some (concatenation (expression (literal (text (codes "x "))) (expression (path_or (variable (codes "ansible_hostname")) ([]) (literal (int (pos 1)))) (no_expressions))))
text_1851 = refl

text_1852 : template_of (120 ∷ 32 ∷ 123 ∷ 123 ∷ 32 ∷ 97 ∷ 110 ∷ 115 ∷ 105 ∷ 98 ∷ 108 ∷ 101 ∷ 95 ∷ 111 ∷ 115 ∷ 95 ∷ 102 ∷ 97 ∷ 109 ∷ 105 ∷ 108 ∷ 121 ∷ 32 ∷ 125 ∷ 125 ∷ []) ≡ Some (concatenation (expression (literal (text (codes "x "))) (expression (path (variable (codes "ansible_os_family")) ([])) (no_expressions))))
text_1852 = refl

text_1853 : template_of (120 ∷ 32 ∷ 123 ∷ 123 ∷ 32 ∷ 97 ∷ 110 ∷ 115 ∷ 105 ∷ 98 ∷ 108 ∷ 101 ∷ 95 ∷ 112 ∷ 108 ∷ 97 ∷ 121 ∷ 95 ∷ 98 ∷ 97 ∷ 116 ∷ 99 ∷ 104 ∷ 32 ∷ 124 ∷ 32 ∷ 100 ∷ 101 ∷ 102 ∷ 97 ∷ 117 ∷ 108 ∷ 116 ∷ 40 ∷ 91 ∷ 93 ∷ 41 ∷ 32 ∷ 125 ∷ 125 ∷ []) ≡ Some (concatenation (expression (literal (text (codes "x "))) (expression (path_or (variable (codes "ansible_play_batch")) ([]) (list_of (no_expressions))) (no_expressions))))
text_1853 = refl

text_1854 : template_of (120 ∷ 32 ∷ 123 ∷ 123 ∷ 32 ∷ 97 ∷ 110 ∷ 115 ∷ 105 ∷ 98 ∷ 108 ∷ 101 ∷ 95 ∷ 112 ∷ 108 ∷ 97 ∷ 121 ∷ 95 ∷ 98 ∷ 97 ∷ 116 ∷ 99 ∷ 104 ∷ 32 ∷ 124 ∷ 32 ∷ 108 ∷ 101 ∷ 110 ∷ 103 ∷ 116 ∷ 104 ∷ 32 ∷ 125 ∷ 125 ∷ []) ≡ Some (concatenation (expression (literal (text (codes "x "))) (expression (length_of (path (variable (codes "ansible_play_batch")) ([]))) (no_expressions))))
text_1854 = refl

text_1855 : template_of (120 ∷ 32 ∷ 123 ∷ 123 ∷ 32 ∷ 103 ∷ 114 ∷ 111 ∷ 117 ∷ 112 ∷ 95 ∷ 110 ∷ 97 ∷ 109 ∷ 101 ∷ 115 ∷ 32 ∷ 125 ∷ 125 ∷ []) ≡ Some (concatenation (expression (literal (text (codes "x "))) (expression (path (variable (codes "group_names")) ([])) (no_expressions))))
text_1855 = refl

text_1856 : template_of (120 ∷ 32 ∷ 123 ∷ 123 ∷ 32 ∷ 103 ∷ 114 ∷ 111 ∷ 117 ∷ 112 ∷ 115 ∷ 46 ∷ 97 ∷ 108 ∷ 108 ∷ 32 ∷ 124 ∷ 32 ∷ 100 ∷ 101 ∷ 102 ∷ 97 ∷ 117 ∷ 108 ∷ 116 ∷ 40 ∷ 49 ∷ 41 ∷ 32 ∷ 125 ∷ 125 ∷ []) ≡ Some (concatenation (expression (literal (text (codes "x "))) (expression (path_or (variable (codes "groups")) ((codes "all") ∷ []) (literal (int (pos 1)))) (no_expressions))))
text_1856 = refl

text_1857 : template_of (120 ∷ 32 ∷ 123 ∷ 123 ∷ 32 ∷ 103 ∷ 114 ∷ 111 ∷ 117 ∷ 112 ∷ 115 ∷ 46 ∷ 97 ∷ 108 ∷ 108 ∷ 32 ∷ 125 ∷ 125 ∷ []) ≡ Some (concatenation (expression (literal (text (codes "x "))) (expression (path (variable (codes "groups")) ((codes "all") ∷ [])) (no_expressions))))
text_1857 = refl

text_1858 : template_of (120 ∷ 32 ∷ 123 ∷ 123 ∷ 32 ∷ 104 ∷ 111 ∷ 115 ∷ 116 ∷ 118 ∷ 97 ∷ 114 ∷ 115 ∷ 91 ∷ 105 ∷ 110 ∷ 118 ∷ 101 ∷ 110 ∷ 116 ∷ 111 ∷ 114 ∷ 121 ∷ 95 ∷ 104 ∷ 111 ∷ 115 ∷ 116 ∷ 110 ∷ 97 ∷ 109 ∷ 101 ∷ 93 ∷ 46 ∷ 105 ∷ 49 ∷ 32 ∷ 125 ∷ 125 ∷ []) ≡ Some (concatenation (expression (literal (text (codes "x "))) (expression (path (other this_host (codes "i1")) ([])) (no_expressions))))
text_1858 = refl

text_1859 : template_of (120 ∷ 32 ∷ 123 ∷ 123 ∷ 32 ∷ 104 ∷ 111 ∷ 115 ∷ 116 ∷ 118 ∷ 97 ∷ 114 ∷ 115 ∷ 91 ∷ 105 ∷ 110 ∷ 118 ∷ 101 ∷ 110 ∷ 116 ∷ 111 ∷ 114 ∷ 121 ∷ 95 ∷ 104 ∷ 111 ∷ 115 ∷ 116 ∷ 110 ∷ 97 ∷ 109 ∷ 101 ∷ 93 ∷ 46 ∷ 114 ∷ 49 ∷ 46 ∷ 99 ∷ 104 ∷ 97 ∷ 110 ∷ 103 ∷ 101 ∷ 100 ∷ 32 ∷ 125 ∷ 125 ∷ []) ≡ Some (concatenation (expression (literal (text (codes "x "))) (expression (path (other this_host (codes "r1")) ((codes "changed") ∷ [])) (no_expressions))))
text_1859 = refl

text_1860 : template_of (120 ∷ 32 ∷ 123 ∷ 123 ∷ 32 ∷ 104 ∷ 111 ∷ 115 ∷ 116 ∷ 118 ∷ 97 ∷ 114 ∷ 115 ∷ 91 ∷ 105 ∷ 110 ∷ 118 ∷ 101 ∷ 110 ∷ 116 ∷ 111 ∷ 114 ∷ 121 ∷ 95 ∷ 104 ∷ 111 ∷ 115 ∷ 116 ∷ 110 ∷ 97 ∷ 109 ∷ 101 ∷ 93 ∷ 46 ∷ 114 ∷ 49 ∷ 46 ∷ 115 ∷ 116 ∷ 100 ∷ 111 ∷ 117 ∷ 116 ∷ 95 ∷ 108 ∷ 105 ∷ 110 ∷ 101 ∷ 115 ∷ 32 ∷ 125 ∷ 125 ∷ []) ≡ Some (concatenation (expression (literal (text (codes "x "))) (expression (path (other this_host (codes "r1")) ((codes "stdout_lines") ∷ [])) (no_expressions))))
text_1860 = refl

text_1861 : template_of (120 ∷ 32 ∷ 123 ∷ 123 ∷ 32 ∷ 104 ∷ 111 ∷ 115 ∷ 116 ∷ 118 ∷ 97 ∷ 114 ∷ 115 ∷ 91 ∷ 105 ∷ 110 ∷ 118 ∷ 101 ∷ 110 ∷ 116 ∷ 111 ∷ 114 ∷ 121 ∷ 95 ∷ 104 ∷ 111 ∷ 115 ∷ 116 ∷ 110 ∷ 97 ∷ 109 ∷ 101 ∷ 93 ∷ 46 ∷ 114 ∷ 50 ∷ 32 ∷ 124 ∷ 32 ∷ 100 ∷ 101 ∷ 102 ∷ 97 ∷ 117 ∷ 108 ∷ 116 ∷ 40 ∷ 115 ∷ 49 ∷ 41 ∷ 32 ∷ 125 ∷ 125 ∷ []) ≡ Some (concatenation (expression (literal (text (codes "x "))) (expression (path_or (other this_host (codes "r2")) ([]) (path (variable (codes "s1")) ([]))) (no_expressions))))
text_1861 = refl

text_1862 : template_of (120 ∷ 32 ∷ 123 ∷ 123 ∷ 32 ∷ 104 ∷ 111 ∷ 115 ∷ 116 ∷ 118 ∷ 97 ∷ 114 ∷ 115 ∷ 91 ∷ 105 ∷ 110 ∷ 118 ∷ 101 ∷ 110 ∷ 116 ∷ 111 ∷ 114 ∷ 121 ∷ 95 ∷ 104 ∷ 111 ∷ 115 ∷ 116 ∷ 110 ∷ 97 ∷ 109 ∷ 101 ∷ 93 ∷ 46 ∷ 114 ∷ 50 ∷ 46 ∷ 99 ∷ 104 ∷ 97 ∷ 110 ∷ 103 ∷ 101 ∷ 100 ∷ 32 ∷ 124 ∷ 32 ∷ 108 ∷ 101 ∷ 110 ∷ 103 ∷ 116 ∷ 104 ∷ 32 ∷ 125 ∷ 125 ∷ []) ≡ Some (concatenation (expression (literal (text (codes "x "))) (expression (length_of (path (other this_host (codes "r2")) ((codes "changed") ∷ []))) (no_expressions))))
text_1862 = refl

text_1863 : template_of (120 ∷ 32 ∷ 123 ∷ 123 ∷ 32 ∷ 104 ∷ 111 ∷ 115 ∷ 116 ∷ 118 ∷ 97 ∷ 114 ∷ 115 ∷ 91 ∷ 105 ∷ 110 ∷ 118 ∷ 101 ∷ 110 ∷ 116 ∷ 111 ∷ 114 ∷ 121 ∷ 95 ∷ 104 ∷ 111 ∷ 115 ∷ 116 ∷ 110 ∷ 97 ∷ 109 ∷ 101 ∷ 93 ∷ 46 ∷ 114 ∷ 50 ∷ 46 ∷ 99 ∷ 104 ∷ 97 ∷ 110 ∷ 103 ∷ 101 ∷ 100 ∷ 32 ∷ 125 ∷ 125 ∷ []) ≡ Some (concatenation (expression (literal (text (codes "x "))) (expression (path (other this_host (codes "r2")) ((codes "changed") ∷ [])) (no_expressions))))
text_1863 = refl

text_1864 : template_of (120 ∷ 32 ∷ 123 ∷ 123 ∷ 32 ∷ 104 ∷ 111 ∷ 115 ∷ 116 ∷ 118 ∷ 97 ∷ 114 ∷ 115 ∷ 91 ∷ 105 ∷ 110 ∷ 118 ∷ 101 ∷ 110 ∷ 116 ∷ 111 ∷ 114 ∷ 121 ∷ 95 ∷ 104 ∷ 111 ∷ 115 ∷ 116 ∷ 110 ∷ 97 ∷ 109 ∷ 101 ∷ 93 ∷ 46 ∷ 114 ∷ 50 ∷ 46 ∷ 102 ∷ 97 ∷ 105 ∷ 108 ∷ 101 ∷ 100 ∷ 32 ∷ 124 ∷ 32 ∷ 100 ∷ 101 ∷ 102 ∷ 97 ∷ 117 ∷ 108 ∷ 116 ∷ 40 ∷ 115 ∷ 49 ∷ 41 ∷ 32 ∷ 125 ∷ 125 ∷ []) ≡ Some (concatenation (expression (literal (text (codes "x "))) (expression (path_or (other this_host (codes "r2")) ((codes "failed") ∷ []) (path (variable (codes "s1")) ([]))) (no_expressions))))
text_1864 = refl

text_1865 : template_of (120 ∷ 32 ∷ 123 ∷ 123 ∷ 32 ∷ 104 ∷ 111 ∷ 115 ∷ 116 ∷ 118 ∷ 97 ∷ 114 ∷ 115 ∷ 91 ∷ 105 ∷ 110 ∷ 118 ∷ 101 ∷ 110 ∷ 116 ∷ 111 ∷ 114 ∷ 121 ∷ 95 ∷ 104 ∷ 111 ∷ 115 ∷ 116 ∷ 110 ∷ 97 ∷ 109 ∷ 101 ∷ 93 ∷ 46 ∷ 114 ∷ 50 ∷ 46 ∷ 114 ∷ 99 ∷ 32 ∷ 124 ∷ 32 ∷ 100 ∷ 101 ∷ 102 ∷ 97 ∷ 117 ∷ 108 ∷ 116 ∷ 40 ∷ 115 ∷ 49 ∷ 41 ∷ 32 ∷ 125 ∷ 125 ∷ []) ≡ Some (concatenation (expression (literal (text (codes "x "))) (expression (path_or (other this_host (codes "r2")) ((codes "rc") ∷ []) (path (variable (codes "s1")) ([]))) (no_expressions))))
text_1865 = refl

text_1866 : template_of (120 ∷ 32 ∷ 123 ∷ 123 ∷ 32 ∷ 104 ∷ 111 ∷ 115 ∷ 116 ∷ 118 ∷ 97 ∷ 114 ∷ 115 ∷ 91 ∷ 105 ∷ 110 ∷ 118 ∷ 101 ∷ 110 ∷ 116 ∷ 111 ∷ 114 ∷ 121 ∷ 95 ∷ 104 ∷ 111 ∷ 115 ∷ 116 ∷ 110 ∷ 97 ∷ 109 ∷ 101 ∷ 93 ∷ 46 ∷ 114 ∷ 51 ∷ 46 ∷ 115 ∷ 116 ∷ 100 ∷ 101 ∷ 114 ∷ 114 ∷ 32 ∷ 125 ∷ 125 ∷ []) ≡ Some (concatenation (expression (literal (text (codes "x "))) (expression (path (other this_host (codes "r3")) ((codes "stderr") ∷ [])) (no_expressions))))
text_1866 = refl

text_1867 : template_of (120 ∷ 32 ∷ 123 ∷ 123 ∷ 32 ∷ 104 ∷ 111 ∷ 115 ∷ 116 ∷ 118 ∷ 97 ∷ 114 ∷ 115 ∷ 91 ∷ 105 ∷ 110 ∷ 118 ∷ 101 ∷ 110 ∷ 116 ∷ 111 ∷ 114 ∷ 121 ∷ 95 ∷ 104 ∷ 111 ∷ 115 ∷ 116 ∷ 110 ∷ 97 ∷ 109 ∷ 101 ∷ 93 ∷ 46 ∷ 115 ∷ 49 ∷ 32 ∷ 124 ∷ 32 ∷ 108 ∷ 101 ∷ 110 ∷ 103 ∷ 116 ∷ 104 ∷ 32 ∷ 125 ∷ 125 ∷ []) ≡ Some (concatenation (expression (literal (text (codes "x "))) (expression (length_of (path (other this_host (codes "s1")) ([]))) (no_expressions))))
text_1867 = refl

text_1868 : template_of (120 ∷ 32 ∷ 123 ∷ 123 ∷ 32 ∷ 104 ∷ 111 ∷ 115 ∷ 116 ∷ 118 ∷ 97 ∷ 114 ∷ 115 ∷ 91 ∷ 105 ∷ 116 ∷ 101 ∷ 109 ∷ 93 ∷ 46 ∷ 105 ∷ 49 ∷ 32 ∷ 125 ∷ 125 ∷ []) ≡ Some (concatenation (expression (literal (text (codes "x "))) (expression (path (other item_host (codes "i1")) ([])) (no_expressions))))
text_1868 = refl

text_1869 : template_of (120 ∷ 32 ∷ 123 ∷ 123 ∷ 32 ∷ 104 ∷ 111 ∷ 115 ∷ 116 ∷ 118 ∷ 97 ∷ 114 ∷ 115 ∷ 91 ∷ 105 ∷ 116 ∷ 101 ∷ 109 ∷ 93 ∷ 46 ∷ 114 ∷ 51 ∷ 46 ∷ 99 ∷ 104 ∷ 97 ∷ 110 ∷ 103 ∷ 101 ∷ 100 ∷ 32 ∷ 125 ∷ 125 ∷ []) ≡ Some (concatenation (expression (literal (text (codes "x "))) (expression (path (other item_host (codes "r3")) ((codes "changed") ∷ [])) (no_expressions))))
text_1869 = refl

text_1870 : template_of (120 ∷ 32 ∷ 123 ∷ 123 ∷ 32 ∷ 105 ∷ 49 ∷ 32 ∷ 125 ∷ 125 ∷ []) ≡ Some (concatenation (expression (literal (text (codes "x "))) (expression (path (variable (codes "i1")) ([])) (no_expressions))))
text_1870 = refl

text_1871 : template_of (120 ∷ 32 ∷ 123 ∷ 123 ∷ 32 ∷ 105 ∷ 49 ∷ 46 ∷ 102 ∷ 32 ∷ 125 ∷ 125 ∷ []) ≡ Some (concatenation (expression (literal (text (codes "x "))) (expression (path (variable (codes "i1")) ((codes "f") ∷ [])) (no_expressions))))
text_1871 = refl

text_1872 : template_of (120 ∷ 32 ∷ 123 ∷ 123 ∷ 32 ∷ 105 ∷ 50 ∷ 32 ∷ 124 ∷ 32 ∷ 100 ∷ 101 ∷ 102 ∷ 97 ∷ 117 ∷ 108 ∷ 116 ∷ 40 ∷ 115 ∷ 49 ∷ 41 ∷ 32 ∷ 125 ∷ 125 ∷ []) ≡ Some (concatenation (expression (literal (text (codes "x "))) (expression (path_or (variable (codes "i2")) ([]) (path (variable (codes "s1")) ([]))) (no_expressions))))
text_1872 = refl

text_1873 : template_of (120 ∷ 32 ∷ 123 ∷ 123 ∷ 32 ∷ 105 ∷ 50 ∷ 32 ∷ 125 ∷ 125 ∷ []) ≡ Some (concatenation (expression (literal (text (codes "x "))) (expression (path (variable (codes "i2")) ([])) (no_expressions))))
text_1873 = refl

text_1874 : template_of (120 ∷ 32 ∷ 123 ∷ 123 ∷ 32 ∷ 105 ∷ 110 ∷ 118 ∷ 101 ∷ 110 ∷ 116 ∷ 111 ∷ 114 ∷ 121 ∷ 95 ∷ 104 ∷ 111 ∷ 115 ∷ 116 ∷ 110 ∷ 97 ∷ 109 ∷ 101 ∷ 32 ∷ 124 ∷ 32 ∷ 100 ∷ 101 ∷ 102 ∷ 97 ∷ 117 ∷ 108 ∷ 116 ∷ 40 ∷ 91 ∷ 93 ∷ 41 ∷ 32 ∷ 125 ∷ 125 ∷ []) ≡ Some (concatenation (expression (literal (text (codes "x "))) (expression (path_or (variable (codes "inventory_hostname")) ([]) (list_of (no_expressions))) (no_expressions))))
text_1874 = refl

text_1875 : template_of (120 ∷ 32 ∷ 123 ∷ 123 ∷ 32 ∷ 105 ∷ 110 ∷ 118 ∷ 101 ∷ 110 ∷ 116 ∷ 111 ∷ 114 ∷ 121 ∷ 95 ∷ 104 ∷ 111 ∷ 115 ∷ 116 ∷ 110 ∷ 97 ∷ 109 ∷ 101 ∷ 32 ∷ 124 ∷ 32 ∷ 108 ∷ 101 ∷ 110 ∷ 103 ∷ 116 ∷ 104 ∷ 32 ∷ 125 ∷ 125 ∷ []) ≡ Some (concatenation (expression (literal (text (codes "x "))) (expression (length_of (path (variable (codes "inventory_hostname")) ([]))) (no_expressions))))
text_1875 = refl

text_1876 : template_of (120 ∷ 32 ∷ 123 ∷ 123 ∷ 32 ∷ 105 ∷ 110 ∷ 118 ∷ 101 ∷ 110 ∷ 116 ∷ 111 ∷ 114 ∷ 121 ∷ 95 ∷ 104 ∷ 111 ∷ 115 ∷ 116 ∷ 110 ∷ 97 ∷ 109 ∷ 101 ∷ 32 ∷ 125 ∷ 125 ∷ []) ≡ Some (concatenation (expression (literal (text (codes "x "))) (expression (path (variable (codes "inventory_hostname")) ([])) (no_expressions))))
text_1876 = refl

text_1877 : template_of (120 ∷ 32 ∷ 123 ∷ 123 ∷ 32 ∷ 105 ∷ 116 ∷ 101 ∷ 109 ∷ 32 ∷ 125 ∷ 125 ∷ []) ≡ Some (concatenation (expression (literal (text (codes "x "))) (expression (path (variable (codes "item")) ([])) (no_expressions))))
text_1877 = refl

text_1878 : template_of (120 ∷ 32 ∷ 123 ∷ 123 ∷ 32 ∷ 105 ∷ 116 ∷ 101 ∷ 109 ∷ 46 ∷ 102 ∷ 32 ∷ 124 ∷ 32 ∷ 108 ∷ 101 ∷ 110 ∷ 103 ∷ 116 ∷ 104 ∷ 32 ∷ 125 ∷ 125 ∷ []) ≡ Some (concatenation (expression (literal (text (codes "x "))) (expression (length_of (path (variable (codes "item")) ((codes "f") ∷ []))) (no_expressions))))
text_1878 = refl

text_1879 : template_of (120 ∷ 32 ∷ 123 ∷ 123 ∷ 32 ∷ 105 ∷ 116 ∷ 101 ∷ 109 ∷ 46 ∷ 115 ∷ 107 ∷ 105 ∷ 112 ∷ 112 ∷ 101 ∷ 100 ∷ 32 ∷ 125 ∷ 125 ∷ []) ≡ Some (concatenation (expression (literal (text (codes "x "))) (expression (path (variable (codes "item")) ((codes "skipped") ∷ [])) (no_expressions))))
text_1879 = refl

text_1880 : template_of (120 ∷ 32 ∷ 123 ∷ 123 ∷ 32 ∷ 110 ∷ 111 ∷ 110 ∷ 101 ∷ 32 ∷ 125 ∷ 125 ∷ []) ≡ Some (concatenation (expression (literal (text (codes "x "))) (expression (literal null) (no_expressions))))
text_1880 = refl

text_1881 : template_of (120 ∷ 32 ∷ 123 ∷ 123 ∷ 32 ∷ 111 ∷ 112 ∷ 32 ∷ 124 ∷ 32 ∷ 108 ∷ 101 ∷ 110 ∷ 103 ∷ 116 ∷ 104 ∷ 32 ∷ 125 ∷ 125 ∷ []) ≡ Some (concatenation (expression (literal (text (codes "x "))) (expression (length_of (path (variable (codes "op")) ([]))) (no_expressions))))
text_1881 = refl

text_1882 : template_of (120 ∷ 32 ∷ 123 ∷ 123 ∷ 32 ∷ 111 ∷ 112 ∷ 32 ∷ 125 ∷ 125 ∷ []) ≡ Some (concatenation (expression (literal (text (codes "x "))) (expression (path (variable (codes "op")) ([])) (no_expressions))))
text_1882 = refl

text_1883 : template_of (120 ∷ 32 ∷ 123 ∷ 123 ∷ 32 ∷ 111 ∷ 112 ∷ 46 ∷ 99 ∷ 104 ∷ 97 ∷ 110 ∷ 103 ∷ 101 ∷ 100 ∷ 32 ∷ 125 ∷ 125 ∷ []) ≡ Some (concatenation (expression (literal (text (codes "x "))) (expression (path (variable (codes "op")) ((codes "changed") ∷ [])) (no_expressions))))
text_1883 = refl

text_1884 : template_of (120 ∷ 32 ∷ 123 ∷ 123 ∷ 32 ∷ 114 ∷ 49 ∷ 32 ∷ 125 ∷ 125 ∷ []) ≡ Some (concatenation (expression (literal (text (codes "x "))) (expression (path (variable (codes "r1")) ([])) (no_expressions))))
text_1884 = refl

text_1885 : template_of (120 ∷ 32 ∷ 123 ∷ 123 ∷ 32 ∷ 114 ∷ 49 ∷ 46 ∷ 97 ∷ 110 ∷ 115 ∷ 105 ∷ 98 ∷ 108 ∷ 101 ∷ 95 ∷ 102 ∷ 97 ∷ 99 ∷ 116 ∷ 115 ∷ 46 ∷ 97 ∷ 110 ∷ 115 ∷ 105 ∷ 98 ∷ 108 ∷ 101 ∷ 95 ∷ 104 ∷ 111 ∷ 115 ∷ 116 ∷ 110 ∷ 97 ∷ 109 ∷ 101 ∷ 32 ∷ 124 ∷ 32 ∷ 108 ∷ 101 ∷ 110 ∷ 103 ∷ 116 ∷ 104 ∷ 32 ∷ 125 ∷ 125 ∷ []) ≡ Some (concatenation (expression (literal (text (codes "x "))) (expression (length_of (path (variable (codes "r1")) ((codes "ansible_facts") ∷ (codes "ansible_hostname") ∷ []))) (no_expressions))))
text_1885 = refl

text_1886 : template_of (120 ∷ 32 ∷ 123 ∷ 123 ∷ 32 ∷ 114 ∷ 49 ∷ 46 ∷ 99 ∷ 104 ∷ 97 ∷ 110 ∷ 103 ∷ 101 ∷ 100 ∷ 32 ∷ 124 ∷ 32 ∷ 100 ∷ 101 ∷ 102 ∷ 97 ∷ 117 ∷ 108 ∷ 116 ∷ 40 ∷ 115 ∷ 49 ∷ 41 ∷ 32 ∷ 125 ∷ 125 ∷ []) ≡ Some (concatenation (expression (literal (text (codes "x "))) (expression (path_or (variable (codes "r1")) ((codes "changed") ∷ []) (path (variable (codes "s1")) ([]))) (no_expressions))))
text_1886 = refl

text_1887 : template_of (120 ∷ 32 ∷ 123 ∷ 123 ∷ 32 ∷ 114 ∷ 49 ∷ 46 ∷ 99 ∷ 104 ∷ 97 ∷ 110 ∷ 103 ∷ 101 ∷ 100 ∷ 32 ∷ 124 ∷ 32 ∷ 108 ∷ 101 ∷ 110 ∷ 103 ∷ 116 ∷ 104 ∷ 32 ∷ 125 ∷ 125 ∷ []) ≡ Some (concatenation (expression (literal (text (codes "x "))) (expression (length_of (path (variable (codes "r1")) ((codes "changed") ∷ []))) (no_expressions))))
text_1887 = refl

text_1888 : template_of (120 ∷ 32 ∷ 123 ∷ 123 ∷ 32 ∷ 114 ∷ 49 ∷ 46 ∷ 99 ∷ 104 ∷ 97 ∷ 110 ∷ 103 ∷ 101 ∷ 100 ∷ 32 ∷ 125 ∷ 125 ∷ []) ≡ Some (concatenation (expression (literal (text (codes "x "))) (expression (path (variable (codes "r1")) ((codes "changed") ∷ [])) (no_expressions))))
text_1888 = refl

text_1889 : template_of (120 ∷ 32 ∷ 123 ∷ 123 ∷ 32 ∷ 114 ∷ 49 ∷ 46 ∷ 100 ∷ 101 ∷ 101 ∷ 112 ∷ 46 ∷ 97 ∷ 32 ∷ 125 ∷ 125 ∷ []) ≡ Some (concatenation (expression (literal (text (codes "x "))) (expression (path (variable (codes "r1")) ((codes "deep") ∷ (codes "a") ∷ [])) (no_expressions))))
text_1889 = refl

text_1890 : template_of (120 ∷ 32 ∷ 123 ∷ 123 ∷ 32 ∷ 114 ∷ 49 ∷ 46 ∷ 102 ∷ 97 ∷ 105 ∷ 108 ∷ 101 ∷ 100 ∷ 32 ∷ 124 ∷ 32 ∷ 100 ∷ 101 ∷ 102 ∷ 97 ∷ 117 ∷ 108 ∷ 116 ∷ 40 ∷ 49 ∷ 41 ∷ 32 ∷ 125 ∷ 125 ∷ []) ≡ Some (concatenation (expression (literal (text (codes "x "))) (expression (path_or (variable (codes "r1")) ((codes "failed") ∷ []) (literal (int (pos 1)))) (no_expressions))))
text_1890 = refl

text_1891 : template_of (120 ∷ 32 ∷ 123 ∷ 123 ∷ 32 ∷ 114 ∷ 49 ∷ 46 ∷ 102 ∷ 97 ∷ 105 ∷ 108 ∷ 101 ∷ 100 ∷ 32 ∷ 124 ∷ 32 ∷ 100 ∷ 101 ∷ 102 ∷ 97 ∷ 117 ∷ 108 ∷ 116 ∷ 40 ∷ 91 ∷ 93 ∷ 41 ∷ 32 ∷ 125 ∷ 125 ∷ []) ≡ Some (concatenation (expression (literal (text (codes "x "))) (expression (path_or (variable (codes "r1")) ((codes "failed") ∷ []) (list_of (no_expressions))) (no_expressions))))
text_1891 = refl

text_1892 : template_of (120 ∷ 32 ∷ 123 ∷ 123 ∷ 32 ∷ 114 ∷ 49 ∷ 46 ∷ 102 ∷ 97 ∷ 105 ∷ 108 ∷ 101 ∷ 100 ∷ 32 ∷ 124 ∷ 32 ∷ 100 ∷ 101 ∷ 102 ∷ 97 ∷ 117 ∷ 108 ∷ 116 ∷ 40 ∷ 115 ∷ 49 ∷ 41 ∷ 32 ∷ 125 ∷ 125 ∷ []) ≡ Some (concatenation (expression (literal (text (codes "x "))) (expression (path_or (variable (codes "r1")) ((codes "failed") ∷ []) (path (variable (codes "s1")) ([]))) (no_expressions))))
text_1892 = refl

text_1893 : template_of (120 ∷ 32 ∷ 123 ∷ 123 ∷ 32 ∷ 114 ∷ 49 ∷ 46 ∷ 102 ∷ 97 ∷ 105 ∷ 108 ∷ 101 ∷ 100 ∷ 32 ∷ 125 ∷ 125 ∷ []) ≡ Some (concatenation (expression (literal (text (codes "x "))) (expression (path (variable (codes "r1")) ((codes "failed") ∷ [])) (no_expressions))))
text_1893 = refl

text_1894 : template_of (120 ∷ 32 ∷ 123 ∷ 123 ∷ 32 ∷ 114 ∷ 49 ∷ 46 ∷ 109 ∷ 115 ∷ 103 ∷ 32 ∷ 124 ∷ 32 ∷ 108 ∷ 101 ∷ 110 ∷ 103 ∷ 116 ∷ 104 ∷ 32 ∷ 125 ∷ 125 ∷ []) ≡ Some (concatenation (expression (literal (text (codes "x "))) (expression (length_of (path (variable (codes "r1")) ((codes "msg") ∷ []))) (no_expressions))))
text_1894 = refl

text_1895 : template_of (120 ∷ 32 ∷ 123 ∷ 123 ∷ 32 ∷ 114 ∷ 49 ∷ 46 ∷ 112 ∷ 105 ∷ 110 ∷ 103 ∷ 32 ∷ 125 ∷ 125 ∷ []) ≡ Some (concatenation (expression (literal (text (codes "x "))) (expression (path (variable (codes "r1")) ((codes "ping") ∷ [])) (no_expressions))))
text_1895 = refl

text_1896 : template_of (120 ∷ 32 ∷ 123 ∷ 123 ∷ 32 ∷ 114 ∷ 49 ∷ 46 ∷ 114 ∷ 99 ∷ 32 ∷ 125 ∷ 125 ∷ []) ≡ Some (concatenation (expression (literal (text (codes "x "))) (expression (path (variable (codes "r1")) ((codes "rc") ∷ [])) (no_expressions))))
text_1896 = refl

text_1897 : template_of (120 ∷ 32 ∷ 123 ∷ 123 ∷ 32 ∷ 114 ∷ 49 ∷ 46 ∷ 114 ∷ 101 ∷ 115 ∷ 117 ∷ 108 ∷ 116 ∷ 115 ∷ 32 ∷ 125 ∷ 125 ∷ []) ≡ Some (concatenation (expression (literal (text (codes "x "))) (expression (path (variable (codes "r1")) ((codes "results") ∷ [])) (no_expressions))))
text_1897 = refl

text_1898 : template_of (120 ∷ 32 ∷ 123 ∷ 123 ∷ 32 ∷ 114 ∷ 49 ∷ 46 ∷ 115 ∷ 107 ∷ 105 ∷ 112 ∷ 95 ∷ 114 ∷ 101 ∷ 97 ∷ 115 ∷ 111 ∷ 110 ∷ 32 ∷ 125 ∷ 125 ∷ []) ≡ Some (concatenation (expression (literal (text (codes "x "))) (expression (path (variable (codes "r1")) ((codes "skip_reason") ∷ [])) (no_expressions))))
text_1898 = refl

text_1899 : template_of (120 ∷ 32 ∷ 123 ∷ 123 ∷ 32 ∷ 114 ∷ 49 ∷ 46 ∷ 115 ∷ 107 ∷ 105 ∷ 112 ∷ 112 ∷ 101 ∷ 100 ∷ 32 ∷ 124 ∷ 32 ∷ 100 ∷ 101 ∷ 102 ∷ 97 ∷ 117 ∷ 108 ∷ 116 ∷ 40 ∷ 49 ∷ 41 ∷ 32 ∷ 125 ∷ 125 ∷ []) ≡ Some (concatenation (expression (literal (text (codes "x "))) (expression (path_or (variable (codes "r1")) ((codes "skipped") ∷ []) (literal (int (pos 1)))) (no_expressions))))
text_1899 = refl

text_1900 : template_of (120 ∷ 32 ∷ 123 ∷ 123 ∷ 32 ∷ 114 ∷ 49 ∷ 46 ∷ 115 ∷ 107 ∷ 105 ∷ 112 ∷ 112 ∷ 101 ∷ 100 ∷ 32 ∷ 124 ∷ 32 ∷ 100 ∷ 101 ∷ 102 ∷ 97 ∷ 117 ∷ 108 ∷ 116 ∷ 40 ∷ 91 ∷ 93 ∷ 41 ∷ 32 ∷ 125 ∷ 125 ∷ []) ≡ Some (concatenation (expression (literal (text (codes "x "))) (expression (path_or (variable (codes "r1")) ((codes "skipped") ∷ []) (list_of (no_expressions))) (no_expressions))))
text_1900 = refl

text_1901 : template_of (120 ∷ 32 ∷ 123 ∷ 123 ∷ 32 ∷ 114 ∷ 49 ∷ 46 ∷ 115 ∷ 107 ∷ 105 ∷ 112 ∷ 112 ∷ 101 ∷ 100 ∷ 32 ∷ 125 ∷ 125 ∷ []) ≡ Some (concatenation (expression (literal (text (codes "x "))) (expression (path (variable (codes "r1")) ((codes "skipped") ∷ [])) (no_expressions))))
text_1901 = refl

text_1902 : template_of (120 ∷ 32 ∷ 123 ∷ 123 ∷ 32 ∷ 114 ∷ 49 ∷ 46 ∷ 115 ∷ 116 ∷ 100 ∷ 111 ∷ 117 ∷ 116 ∷ 32 ∷ 125 ∷ 125 ∷ []) ≡ Some (concatenation (expression (literal (text (codes "x "))) (expression (path (variable (codes "r1")) ((codes "stdout") ∷ [])) (no_expressions))))
text_1902 = refl

text_1903 : template_of (120 ∷ 32 ∷ 123 ∷ 123 ∷ 32 ∷ 114 ∷ 50 ∷ 32 ∷ 124 ∷ 32 ∷ 100 ∷ 101 ∷ 102 ∷ 97 ∷ 117 ∷ 108 ∷ 116 ∷ 40 ∷ 115 ∷ 49 ∷ 41 ∷ 32 ∷ 125 ∷ 125 ∷ []) ≡ Some (concatenation (expression (literal (text (codes "x "))) (expression (path_or (variable (codes "r2")) ([]) (path (variable (codes "s1")) ([]))) (no_expressions))))
text_1903 = refl

text_1904 : template_of (120 ∷ 32 ∷ 123 ∷ 123 ∷ 32 ∷ 114 ∷ 50 ∷ 32 ∷ 124 ∷ 32 ∷ 108 ∷ 101 ∷ 110 ∷ 103 ∷ 116 ∷ 104 ∷ 32 ∷ 125 ∷ 125 ∷ []) ≡ Some (concatenation (expression (literal (text (codes "x "))) (expression (length_of (path (variable (codes "r2")) ([]))) (no_expressions))))
text_1904 = refl

text_1905 : template_of (120 ∷ 32 ∷ 123 ∷ 123 ∷ 32 ∷ 114 ∷ 50 ∷ 32 ∷ 125 ∷ 125 ∷ []) ≡ Some (concatenation (expression (literal (text (codes "x "))) (expression (path (variable (codes "r2")) ([])) (no_expressions))))
text_1905 = refl

text_1906 : template_of (120 ∷ 32 ∷ 123 ∷ 123 ∷ 32 ∷ 114 ∷ 50 ∷ 46 ∷ 97 ∷ 110 ∷ 115 ∷ 105 ∷ 98 ∷ 108 ∷ 101 ∷ 95 ∷ 102 ∷ 97 ∷ 99 ∷ 116 ∷ 115 ∷ 46 ∷ 97 ∷ 110 ∷ 115 ∷ 105 ∷ 98 ∷ 108 ∷ 101 ∷ 95 ∷ 111 ∷ 115 ∷ 95 ∷ 102 ∷ 97 ∷ 109 ∷ 105 ∷ 108 ∷ 121 ∷ 32 ∷ 125 ∷ 125 ∷ []) ≡ Some (concatenation (expression (literal (text (codes "x "))) (expression (path (variable (codes "r2")) ((codes "ansible_facts") ∷ (codes "ansible_os_family") ∷ [])) (no_expressions))))
text_1906 = refl

text_1907 : template_of (120 ∷ 32 ∷ 123 ∷ 123 ∷ 32 ∷ 114 ∷ 50 ∷ 46 ∷ 99 ∷ 104 ∷ 97 ∷ 110 ∷ 103 ∷ 101 ∷ 100 ∷ 32 ∷ 124 ∷ 32 ∷ 100 ∷ 101 ∷ 102 ∷ 97 ∷ 117 ∷ 108 ∷ 116 ∷ 40 ∷ 49 ∷ 41 ∷ 32 ∷ 125 ∷ 125 ∷ []) ≡ Some (concatenation (expression (literal (text (codes "x "))) (expression (path_or (variable (codes "r2")) ((codes "changed") ∷ []) (literal (int (pos 1)))) (no_expressions))))
text_1907 = refl

text_1908 : template_of (120 ∷ 32 ∷ 123 ∷ 123 ∷ 32 ∷ 114 ∷ 50 ∷ 46 ∷ 99 ∷ 104 ∷ 97 ∷ 110 ∷ 103 ∷ 101 ∷ 100 ∷ 32 ∷ 124 ∷ 32 ∷ 100 ∷ 101 ∷ 102 ∷ 97 ∷ 117 ∷ 108 ∷ 116 ∷ 40 ∷ 115 ∷ 49 ∷ 41 ∷ 32 ∷ 125 ∷ 125 ∷ []) ≡ Some (concatenation (expression (literal (text (codes "x "))) (expression (path_or (variable (codes "r2")) ((codes "changed") ∷ []) (path (variable (codes "s1")) ([]))) (no_expressions))))
text_1908 = refl

text_1909 : template_of (120 ∷ 32 ∷ 123 ∷ 123 ∷ 32 ∷ 114 ∷ 50 ∷ 46 ∷ 99 ∷ 104 ∷ 97 ∷ 110 ∷ 103 ∷ 101 ∷ 100 ∷ 32 ∷ 124 ∷ 32 ∷ 108 ∷ 101 ∷ 110 ∷ 103 ∷ 116 ∷ 104 ∷ 32 ∷ 125 ∷ 125 ∷ []) ≡ Some (concatenation (expression (literal (text (codes "x "))) (expression (length_of (path (variable (codes "r2")) ((codes "changed") ∷ []))) (no_expressions))))
text_1909 = refl

text_1910 : template_of (120 ∷ 32 ∷ 123 ∷ 123 ∷ 32 ∷ 114 ∷ 50 ∷ 46 ∷ 99 ∷ 104 ∷ 97 ∷ 110 ∷ 103 ∷ 101 ∷ 100 ∷ 32 ∷ 125 ∷ 125 ∷ []) ≡ Some (concatenation (expression (literal (text (codes "x "))) (expression (path (variable (codes "r2")) ((codes "changed") ∷ [])) (no_expressions))))
text_1910 = refl

text_1911 : template_of (120 ∷ 32 ∷ 123 ∷ 123 ∷ 32 ∷ 114 ∷ 50 ∷ 46 ∷ 100 ∷ 101 ∷ 101 ∷ 112 ∷ 32 ∷ 125 ∷ 125 ∷ []) ≡ Some (concatenation (expression (literal (text (codes "x "))) (expression (path (variable (codes "r2")) ((codes "deep") ∷ [])) (no_expressions))))
text_1911 = refl

text_1912 : template_of (120 ∷ 32 ∷ 123 ∷ 123 ∷ 32 ∷ 114 ∷ 50 ∷ 46 ∷ 100 ∷ 101 ∷ 101 ∷ 112 ∷ 46 ∷ 98 ∷ 32 ∷ 125 ∷ 125 ∷ []) ≡ Some (concatenation (expression (literal (text (codes "x "))) (expression (path (variable (codes "r2")) ((codes "deep") ∷ (codes "b") ∷ [])) (no_expressions))))
text_1912 = refl

text_1913 : template_of (120 ∷ 32 ∷ 123 ∷ 123 ∷ 32 ∷ 114 ∷ 50 ∷ 46 ∷ 102 ∷ 97 ∷ 105 ∷ 108 ∷ 101 ∷ 100 ∷ 32 ∷ 124 ∷ 32 ∷ 100 ∷ 101 ∷ 102 ∷ 97 ∷ 117 ∷ 108 ∷ 116 ∷ 40 ∷ 115 ∷ 49 ∷ 41 ∷ 32 ∷ 125 ∷ 125 ∷ []) ≡ Some (concatenation (expression (literal (text (codes "x "))) (expression (path_or (variable (codes "r2")) ((codes "failed") ∷ []) (path (variable (codes "s1")) ([]))) (no_expressions))))
text_1913 = refl

text_1914 : template_of (120 ∷ 32 ∷ 123 ∷ 123 ∷ 32 ∷ 114 ∷ 50 ∷ 46 ∷ 102 ∷ 97 ∷ 105 ∷ 108 ∷ 101 ∷ 100 ∷ 32 ∷ 124 ∷ 32 ∷ 108 ∷ 101 ∷ 110 ∷ 103 ∷ 116 ∷ 104 ∷ 32 ∷ 125 ∷ 125 ∷ []) ≡ Some (concatenation (expression (literal (text (codes "x "))) (expression (length_of (path (variable (codes "r2")) ((codes "failed") ∷ []))) (no_expressions))))
text_1914 = refl

text_1915 : template_of (120 ∷ 32 ∷ 123 ∷ 123 ∷ 32 ∷ 114 ∷ 50 ∷ 46 ∷ 102 ∷ 97 ∷ 105 ∷ 108 ∷ 101 ∷ 100 ∷ 32 ∷ 125 ∷ 125 ∷ []) ≡ Some (concatenation (expression (literal (text (codes "x "))) (expression (path (variable (codes "r2")) ((codes "failed") ∷ [])) (no_expressions))))
text_1915 = refl

text_1916 : template_of (120 ∷ 32 ∷ 123 ∷ 123 ∷ 32 ∷ 114 ∷ 50 ∷ 46 ∷ 114 ∷ 99 ∷ 32 ∷ 124 ∷ 32 ∷ 100 ∷ 101 ∷ 102 ∷ 97 ∷ 117 ∷ 108 ∷ 116 ∷ 40 ∷ 49 ∷ 41 ∷ 32 ∷ 125 ∷ 125 ∷ []) ≡ Some (concatenation (expression (literal (text (codes "x "))) (expression (path_or (variable (codes "r2")) ((codes "rc") ∷ []) (literal (int (pos 1)))) (no_expressions))))
text_1916 = refl

text_1917 : template_of (120 ∷ 32 ∷ 123 ∷ 123 ∷ 32 ∷ 114 ∷ 50 ∷ 46 ∷ 114 ∷ 99 ∷ 32 ∷ 124 ∷ 32 ∷ 100 ∷ 101 ∷ 102 ∷ 97 ∷ 117 ∷ 108 ∷ 116 ∷ 40 ∷ 115 ∷ 49 ∷ 41 ∷ 32 ∷ 125 ∷ 125 ∷ []) ≡ Some (concatenation (expression (literal (text (codes "x "))) (expression (path_or (variable (codes "r2")) ((codes "rc") ∷ []) (path (variable (codes "s1")) ([]))) (no_expressions))))
text_1917 = refl

text_1918 : template_of (120 ∷ 32 ∷ 123 ∷ 123 ∷ 32 ∷ 114 ∷ 50 ∷ 46 ∷ 114 ∷ 99 ∷ 32 ∷ 125 ∷ 125 ∷ []) ≡ Some (concatenation (expression (literal (text (codes "x "))) (expression (path (variable (codes "r2")) ((codes "rc") ∷ [])) (no_expressions))))
text_1918 = refl

text_1919 : template_of (120 ∷ 32 ∷ 123 ∷ 123 ∷ 32 ∷ 114 ∷ 50 ∷ 46 ∷ 114 ∷ 101 ∷ 115 ∷ 117 ∷ 108 ∷ 116 ∷ 115 ∷ 32 ∷ 125 ∷ 125 ∷ []) ≡ Some (concatenation (expression (literal (text (codes "x "))) (expression (path (variable (codes "r2")) ((codes "results") ∷ [])) (no_expressions))))
text_1919 = refl

text_1920 : template_of (120 ∷ 32 ∷ 123 ∷ 123 ∷ 32 ∷ 114 ∷ 50 ∷ 46 ∷ 115 ∷ 107 ∷ 105 ∷ 112 ∷ 95 ∷ 114 ∷ 101 ∷ 97 ∷ 115 ∷ 111 ∷ 110 ∷ 32 ∷ 124 ∷ 32 ∷ 100 ∷ 101 ∷ 102 ∷ 97 ∷ 117 ∷ 108 ∷ 116 ∷ 40 ∷ 49 ∷ 41 ∷ 32 ∷ 125 ∷ 125 ∷ []) ≡ Some (concatenation (expression (literal (text (codes "x "))) (expression (path_or (variable (codes "r2")) ((codes "skip_reason") ∷ []) (literal (int (pos 1)))) (no_expressions))))
text_1920 = refl

text_1921 : template_of (120 ∷ 32 ∷ 123 ∷ 123 ∷ 32 ∷ 114 ∷ 50 ∷ 46 ∷ 115 ∷ 107 ∷ 105 ∷ 112 ∷ 95 ∷ 114 ∷ 101 ∷ 97 ∷ 115 ∷ 111 ∷ 110 ∷ 32 ∷ 125 ∷ 125 ∷ []) ≡ Some (concatenation (expression (literal (text (codes "x "))) (expression (path (variable (codes "r2")) ((codes "skip_reason") ∷ [])) (no_expressions))))
text_1921 = refl

text_1922 : template_of (120 ∷ 32 ∷ 123 ∷ 123 ∷ 32 ∷ 114 ∷ 50 ∷ 46 ∷ 115 ∷ 116 ∷ 97 ∷ 116 ∷ 46 ∷ 115 ∷ 105 ∷ 122 ∷ 101 ∷ 32 ∷ 125 ∷ 125 ∷ []) ≡ Some (concatenation (expression (literal (text (codes "x "))) (expression (path (variable (codes "r2")) ((codes "stat") ∷ (codes "size") ∷ [])) (no_expressions))))
text_1922 = refl

text_1923 : template_of (120 ∷ 32 ∷ 123 ∷ 123 ∷ 32 ∷ 114 ∷ 50 ∷ 46 ∷ 115 ∷ 116 ∷ 100 ∷ 101 ∷ 114 ∷ 114 ∷ 32 ∷ 125 ∷ 125 ∷ []) ≡ Some (concatenation (expression (literal (text (codes "x "))) (expression (path (variable (codes "r2")) ((codes "stderr") ∷ [])) (no_expressions))))
text_1923 = refl

text_1924 : template_of (120 ∷ 32 ∷ 123 ∷ 123 ∷ 32 ∷ 114 ∷ 50 ∷ 46 ∷ 115 ∷ 116 ∷ 100 ∷ 111 ∷ 117 ∷ 116 ∷ 32 ∷ 124 ∷ 32 ∷ 100 ∷ 101 ∷ 102 ∷ 97 ∷ 117 ∷ 108 ∷ 116 ∷ 40 ∷ 91 ∷ 93 ∷ 41 ∷ 32 ∷ 125 ∷ 125 ∷ []) ≡ Some (concatenation (expression (literal (text (codes "x "))) (expression (path_or (variable (codes "r2")) ((codes "stdout") ∷ []) (list_of (no_expressions))) (no_expressions))))
text_1924 = refl

text_1925 : template_of (120 ∷ 32 ∷ 123 ∷ 123 ∷ 32 ∷ 114 ∷ 50 ∷ 46 ∷ 115 ∷ 116 ∷ 100 ∷ 111 ∷ 117 ∷ 116 ∷ 32 ∷ 125 ∷ 125 ∷ []) ≡ Some (concatenation (expression (literal (text (codes "x "))) (expression (path (variable (codes "r2")) ((codes "stdout") ∷ [])) (no_expressions))))
text_1925 = refl

text_1926 : template_of (120 ∷ 32 ∷ 123 ∷ 123 ∷ 32 ∷ 114 ∷ 50 ∷ 46 ∷ 115 ∷ 116 ∷ 100 ∷ 111 ∷ 117 ∷ 116 ∷ 95 ∷ 108 ∷ 105 ∷ 110 ∷ 101 ∷ 115 ∷ 32 ∷ 125 ∷ 125 ∷ []) ≡ Some (concatenation (expression (literal (text (codes "x "))) (expression (path (variable (codes "r2")) ((codes "stdout_lines") ∷ [])) (no_expressions))))
text_1926 = refl

text_1927 : template_of (120 ∷ 32 ∷ 123 ∷ 123 ∷ 32 ∷ 114 ∷ 50 ∷ 46 ∷ 119 ∷ 104 ∷ 121 ∷ 32 ∷ 125 ∷ 125 ∷ []) ≡ Some (concatenation (expression (literal (text (codes "x "))) (expression (path (variable (codes "r2")) ((codes "why") ∷ [])) (no_expressions))))
text_1927 = refl

text_1928 : template_of (120 ∷ 32 ∷ 123 ∷ 123 ∷ 32 ∷ 114 ∷ 51 ∷ 32 ∷ 124 ∷ 32 ∷ 100 ∷ 101 ∷ 102 ∷ 97 ∷ 117 ∷ 108 ∷ 116 ∷ 40 ∷ 49 ∷ 41 ∷ 32 ∷ 125 ∷ 125 ∷ []) ≡ Some (concatenation (expression (literal (text (codes "x "))) (expression (path_or (variable (codes "r3")) ([]) (literal (int (pos 1)))) (no_expressions))))
text_1928 = refl

text_1929 : template_of (120 ∷ 32 ∷ 123 ∷ 123 ∷ 32 ∷ 114 ∷ 51 ∷ 32 ∷ 124 ∷ 32 ∷ 108 ∷ 101 ∷ 110 ∷ 103 ∷ 116 ∷ 104 ∷ 32 ∷ 125 ∷ 125 ∷ []) ≡ Some (concatenation (expression (literal (text (codes "x "))) (expression (length_of (path (variable (codes "r3")) ([]))) (no_expressions))))
text_1929 = refl

text_1930 : template_of (120 ∷ 32 ∷ 123 ∷ 123 ∷ 32 ∷ 114 ∷ 51 ∷ 32 ∷ 125 ∷ 125 ∷ []) ≡ Some (concatenation (expression (literal (text (codes "x "))) (expression (path (variable (codes "r3")) ([])) (no_expressions))))
text_1930 = refl

text_1931 : template_of (120 ∷ 32 ∷ 123 ∷ 123 ∷ 32 ∷ 114 ∷ 51 ∷ 46 ∷ 97 ∷ 110 ∷ 115 ∷ 105 ∷ 98 ∷ 108 ∷ 101 ∷ 95 ∷ 102 ∷ 97 ∷ 99 ∷ 116 ∷ 115 ∷ 46 ∷ 97 ∷ 110 ∷ 115 ∷ 105 ∷ 98 ∷ 108 ∷ 101 ∷ 95 ∷ 104 ∷ 111 ∷ 115 ∷ 116 ∷ 110 ∷ 97 ∷ 109 ∷ 101 ∷ 32 ∷ 125 ∷ 125 ∷ []) ≡ Some (concatenation (expression (literal (text (codes "x "))) (expression (path (variable (codes "r3")) ((codes "ansible_facts") ∷ (codes "ansible_hostname") ∷ [])) (no_expressions))))
text_1931 = refl

text_1932 : template_of (120 ∷ 32 ∷ 123 ∷ 123 ∷ 32 ∷ 114 ∷ 51 ∷ 46 ∷ 99 ∷ 104 ∷ 97 ∷ 110 ∷ 103 ∷ 101 ∷ 100 ∷ 32 ∷ 124 ∷ 32 ∷ 100 ∷ 101 ∷ 102 ∷ 97 ∷ 117 ∷ 108 ∷ 116 ∷ 40 ∷ 91 ∷ 93 ∷ 41 ∷ 32 ∷ 125 ∷ 125 ∷ []) ≡ Some (concatenation (expression (literal (text (codes "x "))) (expression (path_or (variable (codes "r3")) ((codes "changed") ∷ []) (list_of (no_expressions))) (no_expressions))))
text_1932 = refl

text_1933 : template_of (120 ∷ 32 ∷ 123 ∷ 123 ∷ 32 ∷ 114 ∷ 51 ∷ 46 ∷ 99 ∷ 104 ∷ 97 ∷ 110 ∷ 103 ∷ 101 ∷ 100 ∷ 32 ∷ 125 ∷ 125 ∷ []) ≡ Some (concatenation (expression (literal (text (codes "x "))) (expression (path (variable (codes "r3")) ((codes "changed") ∷ [])) (no_expressions))))
text_1933 = refl

text_1934 : template_of (120 ∷ 32 ∷ 123 ∷ 123 ∷ 32 ∷ 114 ∷ 51 ∷ 46 ∷ 100 ∷ 101 ∷ 101 ∷ 112 ∷ 32 ∷ 124 ∷ 32 ∷ 100 ∷ 101 ∷ 102 ∷ 97 ∷ 117 ∷ 108 ∷ 116 ∷ 40 ∷ 115 ∷ 49 ∷ 41 ∷ 32 ∷ 125 ∷ 125 ∷ []) ≡ Some (concatenation (expression (literal (text (codes "x "))) (expression (path_or (variable (codes "r3")) ((codes "deep") ∷ []) (path (variable (codes "s1")) ([]))) (no_expressions))))
text_1934 = refl

text_1935 : template_of (120 ∷ 32 ∷ 123 ∷ 123 ∷ 32 ∷ 114 ∷ 51 ∷ 46 ∷ 102 ∷ 97 ∷ 105 ∷ 108 ∷ 101 ∷ 100 ∷ 32 ∷ 124 ∷ 32 ∷ 100 ∷ 101 ∷ 102 ∷ 97 ∷ 117 ∷ 108 ∷ 116 ∷ 40 ∷ 49 ∷ 41 ∷ 32 ∷ 125 ∷ 125 ∷ []) ≡ Some (concatenation (expression (literal (text (codes "x "))) (expression (path_or (variable (codes "r3")) ((codes "failed") ∷ []) (literal (int (pos 1)))) (no_expressions))))
text_1935 = refl

text_1936 : template_of (120 ∷ 32 ∷ 123 ∷ 123 ∷ 32 ∷ 114 ∷ 51 ∷ 46 ∷ 102 ∷ 97 ∷ 105 ∷ 108 ∷ 101 ∷ 100 ∷ 32 ∷ 124 ∷ 32 ∷ 100 ∷ 101 ∷ 102 ∷ 97 ∷ 117 ∷ 108 ∷ 116 ∷ 40 ∷ 91 ∷ 93 ∷ 41 ∷ 32 ∷ 125 ∷ 125 ∷ []) ≡ Some (concatenation (expression (literal (text (codes "x "))) (expression (path_or (variable (codes "r3")) ((codes "failed") ∷ []) (list_of (no_expressions))) (no_expressions))))
text_1936 = refl

text_1937 : template_of (120 ∷ 32 ∷ 123 ∷ 123 ∷ 32 ∷ 114 ∷ 51 ∷ 46 ∷ 102 ∷ 97 ∷ 105 ∷ 108 ∷ 101 ∷ 100 ∷ 32 ∷ 124 ∷ 32 ∷ 108 ∷ 101 ∷ 110 ∷ 103 ∷ 116 ∷ 104 ∷ 32 ∷ 125 ∷ 125 ∷ []) ≡ Some (concatenation (expression (literal (text (codes "x "))) (expression (length_of (path (variable (codes "r3")) ((codes "failed") ∷ []))) (no_expressions))))
text_1937 = refl

text_1938 : template_of (120 ∷ 32 ∷ 123 ∷ 123 ∷ 32 ∷ 114 ∷ 51 ∷ 46 ∷ 102 ∷ 97 ∷ 105 ∷ 108 ∷ 101 ∷ 100 ∷ 32 ∷ 125 ∷ 125 ∷ []) ≡ Some (concatenation (expression (literal (text (codes "x "))) (expression (path (variable (codes "r3")) ((codes "failed") ∷ [])) (no_expressions))))
text_1938 = refl

text_1939 : template_of (120 ∷ 32 ∷ 123 ∷ 123 ∷ 32 ∷ 114 ∷ 51 ∷ 46 ∷ 109 ∷ 115 ∷ 103 ∷ 32 ∷ 125 ∷ 125 ∷ []) ≡ Some (concatenation (expression (literal (text (codes "x "))) (expression (path (variable (codes "r3")) ((codes "msg") ∷ [])) (no_expressions))))
text_1939 = refl

text_1940 : template_of (120 ∷ 32 ∷ 123 ∷ 123 ∷ 32 ∷ 114 ∷ 51 ∷ 46 ∷ 112 ∷ 105 ∷ 110 ∷ 103 ∷ 32 ∷ 124 ∷ 32 ∷ 108 ∷ 101 ∷ 110 ∷ 103 ∷ 116 ∷ 104 ∷ 32 ∷ 125 ∷ 125 ∷ []) ≡ Some (concatenation (expression (literal (text (codes "x "))) (expression (length_of (path (variable (codes "r3")) ((codes "ping") ∷ []))) (no_expressions))))
text_1940 = refl

text_1941 : template_of (120 ∷ 32 ∷ 123 ∷ 123 ∷ 32 ∷ 114 ∷ 51 ∷ 46 ∷ 112 ∷ 105 ∷ 110 ∷ 103 ∷ 32 ∷ 125 ∷ 125 ∷ []) ≡ Some (concatenation (expression (literal (text (codes "x "))) (expression (path (variable (codes "r3")) ((codes "ping") ∷ [])) (no_expressions))))
text_1941 = refl

text_1942 : template_of (120 ∷ 32 ∷ 123 ∷ 123 ∷ 32 ∷ 114 ∷ 51 ∷ 46 ∷ 114 ∷ 111 ∷ 119 ∷ 115 ∷ 32 ∷ 125 ∷ 125 ∷ []) ≡ Some (concatenation (expression (literal (text (codes "x "))) (expression (path (variable (codes "r3")) ((codes "rows") ∷ [])) (no_expressions))))
text_1942 = refl

text_1943 : template_of (120 ∷ 32 ∷ 123 ∷ 123 ∷ 32 ∷ 114 ∷ 51 ∷ 46 ∷ 115 ∷ 107 ∷ 105 ∷ 112 ∷ 95 ∷ 114 ∷ 101 ∷ 97 ∷ 115 ∷ 111 ∷ 110 ∷ 32 ∷ 125 ∷ 125 ∷ []) ≡ Some (concatenation (expression (literal (text (codes "x "))) (expression (path (variable (codes "r3")) ((codes "skip_reason") ∷ [])) (no_expressions))))
text_1943 = refl

text_1944 : template_of (120 ∷ 32 ∷ 123 ∷ 123 ∷ 32 ∷ 114 ∷ 51 ∷ 46 ∷ 115 ∷ 116 ∷ 97 ∷ 116 ∷ 32 ∷ 125 ∷ 125 ∷ []) ≡ Some (concatenation (expression (literal (text (codes "x "))) (expression (path (variable (codes "r3")) ((codes "stat") ∷ [])) (no_expressions))))
text_1944 = refl

text_1945 : template_of (120 ∷ 32 ∷ 123 ∷ 123 ∷ 32 ∷ 114 ∷ 51 ∷ 46 ∷ 115 ∷ 116 ∷ 97 ∷ 116 ∷ 46 ∷ 101 ∷ 120 ∷ 105 ∷ 115 ∷ 116 ∷ 115 ∷ 32 ∷ 125 ∷ 125 ∷ []) ≡ Some (concatenation (expression (literal (text (codes "x "))) (expression (path (variable (codes "r3")) ((codes "stat") ∷ (codes "exists") ∷ [])) (no_expressions))))
text_1945 = refl

text_1946 : template_of (120 ∷ 32 ∷ 123 ∷ 123 ∷ 32 ∷ 114 ∷ 51 ∷ 46 ∷ 115 ∷ 116 ∷ 100 ∷ 101 ∷ 114 ∷ 114 ∷ 32 ∷ 125 ∷ 125 ∷ []) ≡ Some (concatenation (expression (literal (text (codes "x "))) (expression (path (variable (codes "r3")) ((codes "stderr") ∷ [])) (no_expressions))))
text_1946 = refl

text_1947 : template_of (120 ∷ 32 ∷ 123 ∷ 123 ∷ 32 ∷ 115 ∷ 49 ∷ 32 ∷ 124 ∷ 32 ∷ 100 ∷ 101 ∷ 102 ∷ 97 ∷ 117 ∷ 108 ∷ 116 ∷ 40 ∷ 49 ∷ 41 ∷ 32 ∷ 125 ∷ 125 ∷ []) ≡ Some (concatenation (expression (literal (text (codes "x "))) (expression (path_or (variable (codes "s1")) ([]) (literal (int (pos 1)))) (no_expressions))))
text_1947 = refl

text_1948 : template_of (120 ∷ 32 ∷ 123 ∷ 123 ∷ 32 ∷ 115 ∷ 49 ∷ 32 ∷ 125 ∷ 125 ∷ []) ≡ Some (concatenation (expression (literal (text (codes "x "))) (expression (path (variable (codes "s1")) ([])) (no_expressions))))
text_1948 = refl

text_1949 : template_of (120 ∷ 32 ∷ 123 ∷ 123 ∷ 32 ∷ 115 ∷ 49 ∷ 46 ∷ 115 ∷ 116 ∷ 100 ∷ 111 ∷ 117 ∷ 116 ∷ 32 ∷ 125 ∷ 125 ∷ []) ≡ Some (concatenation (expression (literal (text (codes "x "))) (expression (path (variable (codes "s1")) ((codes "stdout") ∷ [])) (no_expressions))))
text_1949 = refl

text_1950 : template_of (120 ∷ 32 ∷ 123 ∷ 123 ∷ 32 ∷ 115 ∷ 50 ∷ 32 ∷ 125 ∷ 125 ∷ []) ≡ Some (concatenation (expression (literal (text (codes "x "))) (expression (path (variable (codes "s2")) ([])) (no_expressions))))
text_1950 = refl

text_1951 : template_of (120 ∷ 32 ∷ 123 ∷ 123 ∷ 32 ∷ 115 ∷ 50 ∷ 46 ∷ 114 ∷ 99 ∷ 32 ∷ 124 ∷ 32 ∷ 100 ∷ 101 ∷ 102 ∷ 97 ∷ 117 ∷ 108 ∷ 116 ∷ 40 ∷ 49 ∷ 41 ∷ 32 ∷ 125 ∷ 125 ∷ []) ≡ Some (concatenation (expression (literal (text (codes "x "))) (expression (path_or (variable (codes "s2")) ((codes "rc") ∷ []) (literal (int (pos 1)))) (no_expressions))))
text_1951 = refl

text_1952 : template_of (120 ∷ 32 ∷ 123 ∷ 123 ∷ 32 ∷ 115 ∷ 51 ∷ 32 ∷ 124 ∷ 32 ∷ 100 ∷ 101 ∷ 102 ∷ 97 ∷ 117 ∷ 108 ∷ 116 ∷ 40 ∷ 115 ∷ 49 ∷ 41 ∷ 32 ∷ 125 ∷ 125 ∷ []) ≡ Some (concatenation (expression (literal (text (codes "x "))) (expression (path_or (variable (codes "s3")) ([]) (path (variable (codes "s1")) ([]))) (no_expressions))))
text_1952 = refl

text_1953 : template_of (120 ∷ 32 ∷ 123 ∷ 123 ∷ 32 ∷ 115 ∷ 51 ∷ 32 ∷ 124 ∷ 32 ∷ 108 ∷ 101 ∷ 110 ∷ 103 ∷ 116 ∷ 104 ∷ 32 ∷ 125 ∷ 125 ∷ []) ≡ Some (concatenation (expression (literal (text (codes "x "))) (expression (length_of (path (variable (codes "s3")) ([]))) (no_expressions))))
text_1953 = refl

text_1954 : template_of (120 ∷ 32 ∷ 123 ∷ 123 ∷ 32 ∷ 115 ∷ 51 ∷ 32 ∷ 125 ∷ 125 ∷ []) ≡ Some (concatenation (expression (literal (text (codes "x "))) (expression (path (variable (codes "s3")) ([])) (no_expressions))))
text_1954 = refl

text_1955 : template_of (120 ∷ 32 ∷ 123 ∷ 123 ∷ 32 ∷ 116 ∷ 114 ∷ 117 ∷ 101 ∷ 32 ∷ 125 ∷ 125 ∷ []) ≡ Some (concatenation (expression (literal (text (codes "x "))) (expression (literal (boolean true)) (no_expressions))))
text_1955 = refl

text_1956 : template_of (120 ∷ 32 ∷ 123 ∷ 123 ∷ 32 ∷ 118 ∷ 50 ∷ 32 ∷ 124 ∷ 32 ∷ 100 ∷ 101 ∷ 102 ∷ 97 ∷ 117 ∷ 108 ∷ 116 ∷ 40 ∷ 49 ∷ 41 ∷ 32 ∷ 125 ∷ 125 ∷ []) ≡ Some (concatenation (expression (literal (text (codes "x "))) (expression (path_or (variable (codes "v2")) ([]) (literal (int (pos 1)))) (no_expressions))))
text_1956 = refl

text_1957 : template_of (120 ∷ 32 ∷ 123 ∷ 123 ∷ 32 ∷ 118 ∷ 50 ∷ 46 ∷ 114 ∷ 99 ∷ 32 ∷ 125 ∷ 125 ∷ []) ≡ Some (concatenation (expression (literal (text (codes "x "))) (expression (path (variable (codes "v2")) ((codes "rc") ∷ [])) (no_expressions))))
text_1957 = refl

text_1958 : template_of (120 ∷ 32 ∷ 123 ∷ 123 ∷ 32 ∷ 118 ∷ 51 ∷ 32 ∷ 124 ∷ 32 ∷ 100 ∷ 101 ∷ 102 ∷ 97 ∷ 117 ∷ 108 ∷ 116 ∷ 40 ∷ 91 ∷ 93 ∷ 41 ∷ 32 ∷ 125 ∷ 125 ∷ []) ≡ Some (concatenation (expression (literal (text (codes "x "))) (expression (path_or (variable (codes "v3")) ([]) (list_of (no_expressions))) (no_expressions))))
text_1958 = refl

text_1959 : template_of (120 ∷ 32 ∷ 123 ∷ 123 ∷ 32 ∷ 118 ∷ 51 ∷ 32 ∷ 125 ∷ 125 ∷ []) ≡ Some (concatenation (expression (literal (text (codes "x "))) (expression (path (variable (codes "v3")) ([])) (no_expressions))))
text_1959 = refl

text_1960 : template_of (120 ∷ 123 ∷ 123 ∷ 32 ∷ 40 ∷ 97 ∷ 110 ∷ 115 ∷ 105 ∷ 98 ∷ 108 ∷ 101 ∷ 95 ∷ 102 ∷ 97 ∷ 99 ∷ 116 ∷ 115 ∷ 46 ∷ 115 ∷ 116 ∷ 97 ∷ 116 ∷ 46 ∷ 105 ∷ 115 ∷ 100 ∷ 105 ∷ 114 ∷ 32 ∷ 105 ∷ 115 ∷ 32 ∷ 117 ∷ 110 ∷ 100 ∷ 101 ∷ 102 ∷ 105 ∷ 110 ∷ 101 ∷ 100 ∷ 41 ∷ 32 ∷ 97 ∷ 110 ∷ 100 ∷ 32 ∷ 40 ∷ 121 ∷ 32 ∷ 105 ∷ 115 ∷ 32 ∷ 102 ∷ 97 ∷ 105 ∷ 108 ∷ 101 ∷ 100 ∷ 41 ∷ 32 ∷ 125 ∷ 125 ∷ []) ≡ Some (concatenation (expression (literal (text (codes "x"))) (expression (conjunction (expression (negation (defined (variable (codes "ansible_facts")) ((codes "stat") ∷ (codes "isdir") ∷ []))) (expression (path_status is_failed (variable (codes "y")) ([])) (no_expressions)))) (no_expressions))))
text_1960 = refl

text_1961 : template_of (120 ∷ 123 ∷ 123 ∷ 32 ∷ 40 ∷ 97 ∷ 110 ∷ 115 ∷ 105 ∷ 98 ∷ 108 ∷ 101 ∷ 95 ∷ 112 ∷ 108 ∷ 97 ∷ 121 ∷ 95 ∷ 98 ∷ 97 ∷ 116 ∷ 99 ∷ 104 ∷ 41 ∷ 32 ∷ 61 ∷ 61 ∷ 32 ∷ 40 ∷ 104 ∷ 111 ∷ 115 ∷ 116 ∷ 118 ∷ 97 ∷ 114 ∷ 115 ∷ 91 ∷ 105 ∷ 116 ∷ 101 ∷ 109 ∷ 93 ∷ 46 ∷ 115 ∷ 50 ∷ 41 ∷ 32 ∷ 125 ∷ 125 ∷ []) ≡ Some (concatenation (expression (literal (text (codes "x"))) (expression (comparison equal (path (variable (codes "ansible_play_batch")) ([])) (path (other item_host (codes "s2")) ([]))) (no_expressions))))
text_1961 = refl

text_1962 : template_of (120 ∷ 123 ∷ 123 ∷ 32 ∷ 40 ∷ 97 ∷ 110 ∷ 115 ∷ 105 ∷ 98 ∷ 108 ∷ 101 ∷ 95 ∷ 112 ∷ 108 ∷ 97 ∷ 121 ∷ 95 ∷ 98 ∷ 97 ∷ 116 ∷ 99 ∷ 104 ∷ 41 ∷ 32 ∷ 61 ∷ 61 ∷ 32 ∷ 40 ∷ 118 ∷ 49 ∷ 46 ∷ 115 ∷ 116 ∷ 100 ∷ 111 ∷ 117 ∷ 116 ∷ 41 ∷ 32 ∷ 125 ∷ 125 ∷ []) ≡ Some (concatenation (expression (literal (text (codes "x"))) (expression (comparison equal (path (variable (codes "ansible_play_batch")) ([])) (path (variable (codes "v1")) ((codes "stdout") ∷ []))) (no_expressions))))
text_1962 = refl

text_1963 : template_of (120 ∷ 123 ∷ 123 ∷ 32 ∷ 40 ∷ 104 ∷ 111 ∷ 115 ∷ 116 ∷ 118 ∷ 97 ∷ 114 ∷ 115 ∷ 91 ∷ 105 ∷ 110 ∷ 118 ∷ 101 ∷ 110 ∷ 116 ∷ 111 ∷ 114 ∷ 121 ∷ 95 ∷ 104 ∷ 111 ∷ 115 ∷ 116 ∷ 110 ∷ 97 ∷ 109 ∷ 101 ∷ 93 ∷ 46 ∷ 114 ∷ 49 ∷ 46 ∷ 102 ∷ 97 ∷ 105 ∷ 108 ∷ 101 ∷ 100 ∷ 41 ∷ 32 ∷ 61 ∷ 61 ∷ 32 ∷ 40 ∷ 114 ∷ 51 ∷ 46 ∷ 115 ∷ 116 ∷ 100 ∷ 101 ∷ 114 ∷ 114 ∷ 41 ∷ 32 ∷ 125 ∷ 125 ∷ []) ≡ Some (concatenation (expression (literal (text (codes "x"))) (expression (comparison equal (path (other this_host (codes "r1")) ((codes "failed") ∷ [])) (path (variable (codes "r3")) ((codes "stderr") ∷ []))) (no_expressions))))
text_1963 = refl

text_1964 : template_of (120 ∷ 123 ∷ 123 ∷ 32 ∷ 40 ∷ 104 ∷ 111 ∷ 115 ∷ 116 ∷ 118 ∷ 97 ∷ 114 ∷ 115 ∷ 91 ∷ 105 ∷ 110 ∷ 118 ∷ 101 ∷ 110 ∷ 116 ∷ 111 ∷ 114 ∷ 121 ∷ 95 ∷ 104 ∷ 111 ∷ 115 ∷ 116 ∷ 110 ∷ 97 ∷ 109 ∷ 101 ∷ 93 ∷ 46 ∷ 114 ∷ 50 ∷ 46 ∷ 100 ∷ 101 ∷ 101 ∷ 112 ∷ 41 ∷ 32 ∷ 61 ∷ 61 ∷ 32 ∷ 40 ∷ 115 ∷ 50 ∷ 41 ∷ 32 ∷ 125 ∷ 125 ∷ []) ≡ Some (concatenation (expression (literal (text (codes "x"))) (expression (comparison equal (path (other this_host (codes "r2")) ((codes "deep") ∷ [])) (path (variable (codes "s2")) ([]))) (no_expressions))))
text_1964 = refl

text_1965 : template_of (120 ∷ 123 ∷ 123 ∷ 32 ∷ 40 ∷ 104 ∷ 111 ∷ 115 ∷ 116 ∷ 118 ∷ 97 ∷ 114 ∷ 115 ∷ 91 ∷ 105 ∷ 110 ∷ 118 ∷ 101 ∷ 110 ∷ 116 ∷ 111 ∷ 114 ∷ 121 ∷ 95 ∷ 104 ∷ 111 ∷ 115 ∷ 116 ∷ 110 ∷ 97 ∷ 109 ∷ 101 ∷ 93 ∷ 46 ∷ 115 ∷ 46 ∷ 114 ∷ 101 ∷ 115 ∷ 117 ∷ 108 ∷ 116 ∷ 115 ∷ 32 ∷ 60 ∷ 32 ∷ 51 ∷ 41 ∷ 32 ∷ 111 ∷ 114 ∷ 32 ∷ 40 ∷ 121 ∷ 46 ∷ 114 ∷ 99 ∷ 32 ∷ 60 ∷ 32 ∷ 51 ∷ 41 ∷ 32 ∷ 125 ∷ 125 ∷ []) ≡ Some (concatenation (expression (literal (text (codes "x"))) (expression (disjunction (expression (comparison less (path (other this_host (codes "s")) ((codes "results") ∷ [])) (literal (int (pos 3)))) (expression (comparison less (path (variable (codes "y")) ((codes "rc") ∷ [])) (literal (int (pos 3)))) (no_expressions)))) (no_expressions))))
text_1965 = refl

text_1966 : template_of (120 ∷ 123 ∷ 123 ∷ 32 ∷ 40 ∷ 105 ∷ 49 ∷ 46 ∷ 102 ∷ 41 ∷ 32 ∷ 61 ∷ 61 ∷ 32 ∷ 40 ∷ 105 ∷ 50 ∷ 46 ∷ 99 ∷ 104 ∷ 97 ∷ 110 ∷ 103 ∷ 101 ∷ 100 ∷ 41 ∷ 32 ∷ 125 ∷ 125 ∷ []) ≡ Some (concatenation (expression (literal (text (codes "x"))) (expression (comparison equal (path (variable (codes "i1")) ((codes "f") ∷ [])) (path (variable (codes "i2")) ((codes "changed") ∷ []))) (no_expressions))))
text_1966 = refl

text_1967 : template_of (120 ∷ 123 ∷ 123 ∷ 32 ∷ 40 ∷ 105 ∷ 110 ∷ 118 ∷ 101 ∷ 110 ∷ 116 ∷ 111 ∷ 114 ∷ 121 ∷ 95 ∷ 104 ∷ 111 ∷ 115 ∷ 116 ∷ 110 ∷ 97 ∷ 109 ∷ 101 ∷ 41 ∷ 32 ∷ 61 ∷ 61 ∷ 32 ∷ 40 ∷ 118 ∷ 50 ∷ 41 ∷ 32 ∷ 125 ∷ 125 ∷ []) ≡ Some (concatenation (expression (literal (text (codes "x"))) (expression (comparison equal (path (variable (codes "inventory_hostname")) ([])) (path (variable (codes "v2")) ([]))) (no_expressions))))
text_1967 = refl

text_1968 : template_of (120 ∷ 123 ∷ 123 ∷ 32 ∷ 40 ∷ 114 ∷ 46 ∷ 114 ∷ 101 ∷ 115 ∷ 117 ∷ 108 ∷ 116 ∷ 115 ∷ 32 ∷ 61 ∷ 61 ∷ 32 ∷ 49 ∷ 41 ∷ 32 ∷ 111 ∷ 114 ∷ 32 ∷ 40 ∷ 114 ∷ 46 ∷ 102 ∷ 97 ∷ 105 ∷ 108 ∷ 101 ∷ 100 ∷ 32 ∷ 105 ∷ 115 ∷ 32 ∷ 100 ∷ 101 ∷ 102 ∷ 105 ∷ 110 ∷ 101 ∷ 100 ∷ 41 ∷ 32 ∷ 125 ∷ 125 ∷ []) ≡ Some (concatenation (expression (literal (text (codes "x"))) (expression (disjunction (expression (comparison equal (path (variable (codes "r")) ((codes "results") ∷ [])) (literal (int (pos 1)))) (expression (defined (variable (codes "r")) ((codes "failed") ∷ [])) (no_expressions)))) (no_expressions))))
text_1968 = refl

text_1969 : template_of (120 ∷ 123 ∷ 123 ∷ 32 ∷ 40 ∷ 114 ∷ 49 ∷ 41 ∷ 32 ∷ 61 ∷ 61 ∷ 32 ∷ 40 ∷ 114 ∷ 51 ∷ 46 ∷ 99 ∷ 104 ∷ 97 ∷ 110 ∷ 103 ∷ 101 ∷ 100 ∷ 41 ∷ 32 ∷ 125 ∷ 125 ∷ []) ≡ Some (concatenation (expression (literal (text (codes "x"))) (expression (comparison equal (path (variable (codes "r1")) ([])) (path (variable (codes "r3")) ((codes "changed") ∷ []))) (no_expressions))))
text_1969 = refl

text_1970 : template_of (120 ∷ 123 ∷ 123 ∷ 32 ∷ 40 ∷ 114 ∷ 49 ∷ 41 ∷ 32 ∷ 61 ∷ 61 ∷ 32 ∷ 40 ∷ 115 ∷ 49 ∷ 41 ∷ 32 ∷ 125 ∷ 125 ∷ []) ≡ Some (concatenation (expression (literal (text (codes "x"))) (expression (comparison equal (path (variable (codes "r1")) ([])) (path (variable (codes "s1")) ([]))) (no_expressions))))
text_1970 = refl

text_1971 : template_of (120 ∷ 123 ∷ 123 ∷ 32 ∷ 40 ∷ 114 ∷ 49 ∷ 46 ∷ 99 ∷ 104 ∷ 97 ∷ 110 ∷ 103 ∷ 101 ∷ 100 ∷ 41 ∷ 32 ∷ 61 ∷ 61 ∷ 32 ∷ 40 ∷ 114 ∷ 51 ∷ 41 ∷ 32 ∷ 125 ∷ 125 ∷ []) ≡ Some (concatenation (expression (literal (text (codes "x"))) (expression (comparison equal (path (variable (codes "r1")) ((codes "changed") ∷ [])) (path (variable (codes "r3")) ([]))) (no_expressions))))
text_1971 = refl

text_1972 : template_of (120 ∷ 123 ∷ 123 ∷ 32 ∷ 40 ∷ 114 ∷ 49 ∷ 46 ∷ 100 ∷ 101 ∷ 101 ∷ 112 ∷ 46 ∷ 97 ∷ 41 ∷ 32 ∷ 61 ∷ 61 ∷ 32 ∷ 40 ∷ 104 ∷ 111 ∷ 115 ∷ 116 ∷ 118 ∷ 97 ∷ 114 ∷ 115 ∷ 91 ∷ 105 ∷ 116 ∷ 101 ∷ 109 ∷ 93 ∷ 46 ∷ 114 ∷ 49 ∷ 46 ∷ 114 ∷ 111 ∷ 119 ∷ 115 ∷ 41 ∷ 32 ∷ 125 ∷ 125 ∷ []) ≡ Some (concatenation (expression (literal (text (codes "x"))) (expression (comparison equal (path (variable (codes "r1")) ((codes "deep") ∷ (codes "a") ∷ [])) (path (other item_host (codes "r1")) ((codes "rows") ∷ []))) (no_expressions))))
text_1972 = refl

text_1973 : template_of (120 ∷ 123 ∷ 123 ∷ 32 ∷ 40 ∷ 114 ∷ 49 ∷ 46 ∷ 102 ∷ 97 ∷ 105 ∷ 108 ∷ 101 ∷ 100 ∷ 41 ∷ 32 ∷ 61 ∷ 61 ∷ 32 ∷ 40 ∷ 114 ∷ 51 ∷ 46 ∷ 114 ∷ 101 ∷ 115 ∷ 117 ∷ 108 ∷ 116 ∷ 115 ∷ 41 ∷ 32 ∷ 125 ∷ 125 ∷ []) ≡ Some (concatenation (expression (literal (text (codes "x"))) (expression (comparison equal (path (variable (codes "r1")) ((codes "failed") ∷ [])) (path (variable (codes "r3")) ((codes "results") ∷ []))) (no_expressions))))
text_1973 = refl

text_1974 : template_of (120 ∷ 123 ∷ 123 ∷ 32 ∷ 40 ∷ 114 ∷ 49 ∷ 46 ∷ 109 ∷ 115 ∷ 103 ∷ 41 ∷ 32 ∷ 61 ∷ 61 ∷ 32 ∷ 40 ∷ 114 ∷ 50 ∷ 46 ∷ 115 ∷ 116 ∷ 100 ∷ 111 ∷ 117 ∷ 116 ∷ 41 ∷ 32 ∷ 125 ∷ 125 ∷ []) ≡ Some (concatenation (expression (literal (text (codes "x"))) (expression (comparison equal (path (variable (codes "r1")) ((codes "msg") ∷ [])) (path (variable (codes "r2")) ((codes "stdout") ∷ []))) (no_expressions))))
text_1974 = refl

text_1975 : template_of (120 ∷ 123 ∷ 123 ∷ 32 ∷ 40 ∷ 114 ∷ 50 ∷ 46 ∷ 99 ∷ 104 ∷ 97 ∷ 110 ∷ 103 ∷ 101 ∷ 100 ∷ 41 ∷ 32 ∷ 61 ∷ 61 ∷ 32 ∷ 40 ∷ 114 ∷ 51 ∷ 46 ∷ 100 ∷ 101 ∷ 101 ∷ 112 ∷ 46 ∷ 98 ∷ 41 ∷ 32 ∷ 125 ∷ 125 ∷ []) ≡ Some (concatenation (expression (literal (text (codes "x"))) (expression (comparison equal (path (variable (codes "r2")) ((codes "changed") ∷ [])) (path (variable (codes "r3")) ((codes "deep") ∷ (codes "b") ∷ []))) (no_expressions))))
text_1975 = refl

text_1976 : template_of (120 ∷ 123 ∷ 123 ∷ 32 ∷ 40 ∷ 114 ∷ 50 ∷ 46 ∷ 99 ∷ 104 ∷ 97 ∷ 110 ∷ 103 ∷ 101 ∷ 100 ∷ 41 ∷ 32 ∷ 61 ∷ 61 ∷ 32 ∷ 40 ∷ 114 ∷ 51 ∷ 46 ∷ 114 ∷ 99 ∷ 41 ∷ 32 ∷ 125 ∷ 125 ∷ []) ≡ Some (concatenation (expression (literal (text (codes "x"))) (expression (comparison equal (path (variable (codes "r2")) ((codes "changed") ∷ [])) (path (variable (codes "r3")) ((codes "rc") ∷ []))) (no_expressions))))
text_1976 = refl

text_1977 : template_of (120 ∷ 123 ∷ 123 ∷ 32 ∷ 40 ∷ 114 ∷ 51 ∷ 41 ∷ 32 ∷ 61 ∷ 61 ∷ 32 ∷ 40 ∷ 114 ∷ 51 ∷ 46 ∷ 102 ∷ 97 ∷ 105 ∷ 108 ∷ 101 ∷ 100 ∷ 41 ∷ 32 ∷ 125 ∷ 125 ∷ []) ≡ Some (concatenation (expression (literal (text (codes "x"))) (expression (comparison equal (path (variable (codes "r3")) ([])) (path (variable (codes "r3")) ((codes "failed") ∷ []))) (no_expressions))))
text_1977 = refl

text_1978 : template_of (120 ∷ 123 ∷ 123 ∷ 32 ∷ 40 ∷ 114 ∷ 51 ∷ 46 ∷ 99 ∷ 104 ∷ 97 ∷ 110 ∷ 103 ∷ 101 ∷ 100 ∷ 41 ∷ 32 ∷ 61 ∷ 61 ∷ 32 ∷ 40 ∷ 114 ∷ 51 ∷ 46 ∷ 115 ∷ 116 ∷ 97 ∷ 116 ∷ 46 ∷ 101 ∷ 120 ∷ 105 ∷ 115 ∷ 116 ∷ 115 ∷ 41 ∷ 32 ∷ 125 ∷ 125 ∷ []) ≡ Some (concatenation (expression (literal (text (codes "x"))) (expression (comparison equal (path (variable (codes "r3")) ((codes "changed") ∷ [])) (path (variable (codes "r3")) ((codes "stat") ∷ (codes "exists") ∷ []))) (no_expressions))))
text_1978 = refl

text_1979 : template_of (120 ∷ 123 ∷ 123 ∷ 32 ∷ 40 ∷ 114 ∷ 51 ∷ 46 ∷ 99 ∷ 104 ∷ 97 ∷ 110 ∷ 103 ∷ 101 ∷ 100 ∷ 41 ∷ 32 ∷ 61 ∷ 61 ∷ 32 ∷ 40 ∷ 115 ∷ 50 ∷ 46 ∷ 103 ∷ 41 ∷ 32 ∷ 125 ∷ 125 ∷ []) ≡ Some (concatenation (expression (literal (text (codes "x"))) (expression (comparison equal (path (variable (codes "r3")) ((codes "changed") ∷ [])) (path (variable (codes "s2")) ((codes "g") ∷ []))) (no_expressions))))
text_1979 = refl

text_1980 : template_of (120 ∷ 123 ∷ 123 ∷ 32 ∷ 40 ∷ 114 ∷ 51 ∷ 46 ∷ 100 ∷ 101 ∷ 101 ∷ 112 ∷ 46 ∷ 97 ∷ 41 ∷ 32 ∷ 61 ∷ 61 ∷ 32 ∷ 40 ∷ 118 ∷ 49 ∷ 41 ∷ 32 ∷ 125 ∷ 125 ∷ []) ≡ Some (concatenation (expression (literal (text (codes "x"))) (expression (comparison equal (path (variable (codes "r3")) ((codes "deep") ∷ (codes "a") ∷ [])) (path (variable (codes "v1")) ([]))) (no_expressions))))
text_1980 = refl

text_1981 : template_of (120 ∷ 123 ∷ 123 ∷ 32 ∷ 40 ∷ 114 ∷ 51 ∷ 46 ∷ 102 ∷ 97 ∷ 105 ∷ 108 ∷ 101 ∷ 100 ∷ 41 ∷ 32 ∷ 61 ∷ 61 ∷ 32 ∷ 40 ∷ 97 ∷ 110 ∷ 115 ∷ 105 ∷ 98 ∷ 108 ∷ 101 ∷ 95 ∷ 102 ∷ 97 ∷ 99 ∷ 116 ∷ 115 ∷ 46 ∷ 104 ∷ 111 ∷ 115 ∷ 116 ∷ 110 ∷ 97 ∷ 109 ∷ 101 ∷ 41 ∷ 32 ∷ 125 ∷ 125 ∷ []) ≡ Some (concatenation (expression (literal (text (codes "x"))) (expression (comparison equal (path (variable (codes "r3")) ((codes "failed") ∷ [])) (path (variable (codes "ansible_facts")) ((codes "hostname") ∷ []))) (no_expressions))))
text_1981 = refl

text_1982 : template_of (120 ∷ 123 ∷ 123 ∷ 32 ∷ 40 ∷ 114 ∷ 51 ∷ 46 ∷ 102 ∷ 97 ∷ 105 ∷ 108 ∷ 101 ∷ 100 ∷ 41 ∷ 32 ∷ 61 ∷ 61 ∷ 32 ∷ 40 ∷ 105 ∷ 50 ∷ 41 ∷ 32 ∷ 125 ∷ 125 ∷ []) ≡ Some (concatenation (expression (literal (text (codes "x"))) (expression (comparison equal (path (variable (codes "r3")) ((codes "failed") ∷ [])) (path (variable (codes "i2")) ([]))) (no_expressions))))
text_1982 = refl

text_1983 : template_of (120 ∷ 123 ∷ 123 ∷ 32 ∷ 40 ∷ 114 ∷ 51 ∷ 46 ∷ 114 ∷ 101 ∷ 115 ∷ 117 ∷ 108 ∷ 116 ∷ 115 ∷ 41 ∷ 32 ∷ 61 ∷ 61 ∷ 32 ∷ 40 ∷ 114 ∷ 50 ∷ 46 ∷ 115 ∷ 107 ∷ 105 ∷ 112 ∷ 95 ∷ 114 ∷ 101 ∷ 97 ∷ 115 ∷ 111 ∷ 110 ∷ 41 ∷ 32 ∷ 125 ∷ 125 ∷ []) ≡ Some (concatenation (expression (literal (text (codes "x"))) (expression (comparison equal (path (variable (codes "r3")) ((codes "results") ∷ [])) (path (variable (codes "r2")) ((codes "skip_reason") ∷ []))) (no_expressions))))
text_1983 = refl

text_1984 : template_of (120 ∷ 123 ∷ 123 ∷ 32 ∷ 40 ∷ 114 ∷ 51 ∷ 46 ∷ 115 ∷ 107 ∷ 105 ∷ 112 ∷ 112 ∷ 101 ∷ 100 ∷ 41 ∷ 32 ∷ 61 ∷ 61 ∷ 32 ∷ 40 ∷ 114 ∷ 51 ∷ 46 ∷ 99 ∷ 104 ∷ 97 ∷ 110 ∷ 103 ∷ 101 ∷ 100 ∷ 41 ∷ 32 ∷ 125 ∷ 125 ∷ []) ≡ Some (concatenation (expression (literal (text (codes "x"))) (expression (comparison equal (path (variable (codes "r3")) ((codes "skipped") ∷ [])) (path (variable (codes "r3")) ((codes "changed") ∷ []))) (no_expressions))))
text_1984 = refl

text_1985 : template_of (120 ∷ 123 ∷ 123 ∷ 32 ∷ 40 ∷ 115 ∷ 49 ∷ 41 ∷ 32 ∷ 61 ∷ 61 ∷ 32 ∷ 40 ∷ 115 ∷ 51 ∷ 41 ∷ 32 ∷ 125 ∷ 125 ∷ []) ≡ Some (concatenation (expression (literal (text (codes "x"))) (expression (comparison equal (path (variable (codes "s1")) ([])) (path (variable (codes "s3")) ([]))) (no_expressions))))
text_1985 = refl

text_1986 : template_of (120 ∷ 123 ∷ 123 ∷ 32 ∷ 40 ∷ 115 ∷ 50 ∷ 46 ∷ 114 ∷ 99 ∷ 41 ∷ 32 ∷ 61 ∷ 61 ∷ 32 ∷ 40 ∷ 97 ∷ 110 ∷ 115 ∷ 105 ∷ 98 ∷ 108 ∷ 101 ∷ 95 ∷ 104 ∷ 111 ∷ 115 ∷ 116 ∷ 110 ∷ 97 ∷ 109 ∷ 101 ∷ 41 ∷ 32 ∷ 125 ∷ 125 ∷ []) ≡ Some (concatenation (expression (literal (text (codes "x"))) (expression (comparison equal (path (variable (codes "s2")) ((codes "rc") ∷ [])) (path (variable (codes "ansible_hostname")) ([]))) (no_expressions))))
text_1986 = refl

text_1987 : template_of (120 ∷ 123 ∷ 123 ∷ 32 ∷ 40 ∷ 115 ∷ 51 ∷ 41 ∷ 32 ∷ 61 ∷ 61 ∷ 32 ∷ 40 ∷ 97 ∷ 110 ∷ 115 ∷ 105 ∷ 98 ∷ 108 ∷ 101 ∷ 95 ∷ 102 ∷ 97 ∷ 99 ∷ 116 ∷ 115 ∷ 41 ∷ 32 ∷ 125 ∷ 125 ∷ []) ≡ Some (concatenation (expression (literal (text (codes "x"))) (expression (comparison equal (path (variable (codes "s3")) ([])) (path (variable (codes "ansible_facts")) ([]))) (no_expressions))))
text_1987 = refl

text_1988 : template_of (120 ∷ 123 ∷ 123 ∷ 32 ∷ 49 ∷ 32 ∷ 125 ∷ 125 ∷ []) ≡ Some (concatenation (expression (literal (text (codes "x"))) (expression (literal (int (pos 1))) (no_expressions))))
text_1988 = refl

text_1989 : template_of (120 ∷ 123 ∷ 123 ∷ 32 ∷ 91 ∷ 49 ∷ 44 ∷ 32 ∷ 50 ∷ 93 ∷ 32 ∷ 125 ∷ 125 ∷ []) ≡ Some (concatenation (expression (literal (text (codes "x"))) (expression (list_of (expression (literal (int (pos 1))) (expression (literal (int (pos 2))) (no_expressions)))) (no_expressions))))
text_1989 = refl

text_1990 : template_of (120 ∷ 123 ∷ 123 ∷ 32 ∷ 91 ∷ 49 ∷ 93 ∷ 32 ∷ 125 ∷ 125 ∷ []) ≡ Some (concatenation (expression (literal (text (codes "x"))) (expression (list_of (expression (literal (int (pos 1))) (no_expressions))) (no_expressions))))
text_1990 = refl

text_1991 : template_of (120 ∷ 123 ∷ 123 ∷ 32 ∷ 91 ∷ 97 ∷ 110 ∷ 115 ∷ 105 ∷ 98 ∷ 108 ∷ 101 ∷ 95 ∷ 102 ∷ 97 ∷ 105 ∷ 108 ∷ 101 ∷ 100 ∷ 95 ∷ 114 ∷ 101 ∷ 115 ∷ 117 ∷ 108 ∷ 116 ∷ 46 ∷ 109 ∷ 115 ∷ 103 ∷ 44 ∷ 32 ∷ 97 ∷ 110 ∷ 115 ∷ 105 ∷ 98 ∷ 108 ∷ 101 ∷ 95 ∷ 102 ∷ 97 ∷ 105 ∷ 108 ∷ 101 ∷ 100 ∷ 95 ∷ 114 ∷ 101 ∷ 115 ∷ 117 ∷ 108 ∷ 116 ∷ 46 ∷ 109 ∷ 115 ∷ 103 ∷ 93 ∷ 32 ∷ 125 ∷ 125 ∷ []) ≡ Some (concatenation (expression (literal (text (codes "x"))) (expression (list_of (expression (path (variable (codes "ansible_failed_result")) ((codes "msg") ∷ [])) (expression (path (variable (codes "ansible_failed_result")) ((codes "msg") ∷ [])) (no_expressions)))) (no_expressions))))
text_1991 = refl

text_1992 : template_of (120 ∷ 123 ∷ 123 ∷ 32 ∷ 91 ∷ 97 ∷ 110 ∷ 115 ∷ 105 ∷ 98 ∷ 108 ∷ 101 ∷ 95 ∷ 104 ∷ 111 ∷ 115 ∷ 116 ∷ 110 ∷ 97 ∷ 109 ∷ 101 ∷ 44 ∷ 32 ∷ 97 ∷ 110 ∷ 115 ∷ 105 ∷ 98 ∷ 108 ∷ 101 ∷ 95 ∷ 104 ∷ 111 ∷ 115 ∷ 116 ∷ 110 ∷ 97 ∷ 109 ∷ 101 ∷ 93 ∷ 32 ∷ 125 ∷ 125 ∷ []) ≡ Some (concatenation (expression (literal (text (codes "x"))) (expression (list_of (expression (path (variable (codes "ansible_hostname")) ([])) (expression (path (variable (codes "ansible_hostname")) ([])) (no_expressions)))) (no_expressions))))
text_1992 = refl

text_1993 : template_of (120 ∷ 123 ∷ 123 ∷ 32 ∷ 91 ∷ 104 ∷ 111 ∷ 115 ∷ 116 ∷ 118 ∷ 97 ∷ 114 ∷ 115 ∷ 91 ∷ 105 ∷ 110 ∷ 118 ∷ 101 ∷ 110 ∷ 116 ∷ 111 ∷ 114 ∷ 121 ∷ 95 ∷ 104 ∷ 111 ∷ 115 ∷ 116 ∷ 110 ∷ 97 ∷ 109 ∷ 101 ∷ 93 ∷ 46 ∷ 115 ∷ 49 ∷ 46 ∷ 102 ∷ 44 ∷ 32 ∷ 104 ∷ 111 ∷ 115 ∷ 116 ∷ 118 ∷ 97 ∷ 114 ∷ 115 ∷ 91 ∷ 105 ∷ 110 ∷ 118 ∷ 101 ∷ 110 ∷ 116 ∷ 111 ∷ 114 ∷ 121 ∷ 95 ∷ 104 ∷ 111 ∷ 115 ∷ 116 ∷ 110 ∷ 97 ∷ 109 ∷ 101 ∷ 93 ∷ 46 ∷ 115 ∷ 49 ∷ 46 ∷ 102 ∷ 93 ∷ 32 ∷ 125 ∷ 125 ∷ []) ≡ Some (concatenation (expression (literal (text (codes "x"))) (expression (list_of (expression (path (other this_host (codes "s1")) ((codes "f") ∷ [])) (expression (path (other this_host (codes "s1")) ((codes "f") ∷ [])) (no_expressions)))) (no_expressions))))
text_1993 = refl

text_1994 : template_of (120 ∷ 123 ∷ 123 ∷ 32 ∷ 91 ∷ 104 ∷ 111 ∷ 115 ∷ 116 ∷ 118 ∷ 97 ∷ 114 ∷ 115 ∷ 91 ∷ 105 ∷ 110 ∷ 118 ∷ 101 ∷ 110 ∷ 116 ∷ 111 ∷ 114 ∷ 121 ∷ 95 ∷ 104 ∷ 111 ∷ 115 ∷ 116 ∷ 110 ∷ 97 ∷ 109 ∷ 101 ∷ 93 ∷ 46 ∷ 115 ∷ 51 ∷ 44 ∷ 32 ∷ 104 ∷ 111 ∷ 115 ∷ 116 ∷ 118 ∷ 97 ∷ 114 ∷ 115 ∷ 91 ∷ 105 ∷ 110 ∷ 118 ∷ 101 ∷ 110 ∷ 116 ∷ 111 ∷ 114 ∷ 121 ∷ 95 ∷ 104 ∷ 111 ∷ 115 ∷ 116 ∷ 110 ∷ 97 ∷ 109 ∷ 101 ∷ 93 ∷ 46 ∷ 115 ∷ 51 ∷ 93 ∷ 32 ∷ 125 ∷ 125 ∷ []) ≡ Some (concatenation (expression (literal (text (codes "x"))) (expression (list_of (expression (path (other this_host (codes "s3")) ([])) (expression (path (other this_host (codes "s3")) ([])) (no_expressions)))) (no_expressions))))
text_1994 = refl

text_1995 : template_of (120 ∷ 123 ∷ 123 ∷ 32 ∷ 91 ∷ 104 ∷ 111 ∷ 115 ∷ 116 ∷ 118 ∷ 97 ∷ 114 ∷ 115 ∷ 91 ∷ 105 ∷ 116 ∷ 101 ∷ 109 ∷ 93 ∷ 46 ∷ 115 ∷ 49 ∷ 44 ∷ 32 ∷ 104 ∷ 111 ∷ 115 ∷ 116 ∷ 118 ∷ 97 ∷ 114 ∷ 115 ∷ 91 ∷ 105 ∷ 116 ∷ 101 ∷ 109 ∷ 93 ∷ 46 ∷ 115 ∷ 49 ∷ 93 ∷ 32 ∷ 125 ∷ 125 ∷ []) ≡ Some (concatenation (expression (literal (text (codes "x"))) (expression (list_of (expression (path (other item_host (codes "s1")) ([])) (expression (path (other item_host (codes "s1")) ([])) (no_expressions)))) (no_expressions))))
text_1995 = refl

text_1996 : template_of (120 ∷ 123 ∷ 123 ∷ 32 ∷ 91 ∷ 105 ∷ 49 ∷ 44 ∷ 32 ∷ 49 ∷ 93 ∷ 32 ∷ 125 ∷ 125 ∷ []) ≡ Some (concatenation (expression (literal (text (codes "x"))) (expression (list_of (expression (path (variable (codes "i1")) ([])) (expression (literal (int (pos 1))) (no_expressions)))) (no_expressions))))
text_1996 = refl

text_1997 : template_of (120 ∷ 123 ∷ 123 ∷ 32 ∷ 91 ∷ 105 ∷ 49 ∷ 46 ∷ 102 ∷ 44 ∷ 32 ∷ 105 ∷ 49 ∷ 46 ∷ 102 ∷ 93 ∷ 32 ∷ 125 ∷ 125 ∷ []) ≡ Some (concatenation (expression (literal (text (codes "x"))) (expression (list_of (expression (path (variable (codes "i1")) ((codes "f") ∷ [])) (expression (path (variable (codes "i1")) ((codes "f") ∷ [])) (no_expressions)))) (no_expressions))))
text_1997 = refl

text_1998 : template_of (120 ∷ 123 ∷ 123 ∷ 32 ∷ 91 ∷ 105 ∷ 50 ∷ 44 ∷ 32 ∷ 49 ∷ 93 ∷ 32 ∷ 125 ∷ 125 ∷ []) ≡ Some (concatenation (expression (literal (text (codes "x"))) (expression (list_of (expression (path (variable (codes "i2")) ([])) (expression (literal (int (pos 1))) (no_expressions)))) (no_expressions))))
text_1998 = refl

text_1999 : template_of (120 ∷ 123 ∷ 123 ∷ 32 ∷ 91 ∷ 111 ∷ 112 ∷ 44 ∷ 32 ∷ 49 ∷ 93 ∷ 32 ∷ 125 ∷ 125 ∷ []) ≡ Some (concatenation (expression (literal (text (codes "x"))) (expression (list_of (expression (path (variable (codes "op")) ([])) (expression (literal (int (pos 1))) (no_expressions)))) (no_expressions))))
text_1999 = refl
