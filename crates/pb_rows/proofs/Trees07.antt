-- The trees of expressions of cases, computed.
use Rattle.std.specs.Prelude.{◌≡◌, refl, pos, [], ◌∷◌, true, false, Some, None, codes}
use Rattle.pb_semantics.specs.Data.{boolean, int}
use Rattle.pb_language.specs.Expression.{equal, less, is_failed, is_changed, is_skipped, literal, path, negation, conjunction, disjunction, comparison, membership, defined, path_status, path_or, list_of, variable, no_expressions, expression}
use Rattle.pb_language.specs.Grammar.{expression_of}

text_1500 : expression_of (codes "r1.stat.exists is defined") ≡ Some (defined (variable (codes "r1")) ((codes "stat") ∷ (codes "exists") ∷ []))
text_1500 = refl

text_1501 : expression_of (codes "r1.stat.exists is not defined") ≡ Some (negation (defined (variable (codes "r1")) ((codes "stat") ∷ (codes "exists") ∷ [])))
text_1501 = refl

text_1502 : expression_of (114 ∷ 49 ∷ 46 ∷ 115 ∷ 116 ∷ 97 ∷ 116 ∷ 46 ∷ 101 ∷ 120 ∷ 105 ∷ 115 ∷ 116 ∷ 115 ∷ 32 ∷ 124 ∷ 32 ∷ 100 ∷ 101 ∷ 102 ∷ 97 ∷ 117 ∷ 108 ∷ 116 ∷ 40 ∷ 116 ∷ 114 ∷ 117 ∷ 101 ∷ 41 ∷ 32 ∷ 61 ∷ 61 ∷ 32 ∷ 116 ∷ 114 ∷ 117 ∷ 101 ∷ []) ≡ Some (comparison equal (path_or (variable (codes "r1")) ((codes "stat") ∷ (codes "exists") ∷ []) (literal (boolean true))) (literal (boolean true)))
text_1502 = refl

text_1503 : expression_of (114 ∷ 49 ∷ 46 ∷ 115 ∷ 116 ∷ 97 ∷ 116 ∷ 46 ∷ 115 ∷ 105 ∷ 122 ∷ 101 ∷ 32 ∷ 124 ∷ 32 ∷ 100 ∷ 101 ∷ 102 ∷ 97 ∷ 117 ∷ 108 ∷ 116 ∷ 40 ∷ 116 ∷ 114 ∷ 117 ∷ 101 ∷ 41 ∷ 32 ∷ 61 ∷ 61 ∷ 32 ∷ 116 ∷ 114 ∷ 117 ∷ 101 ∷ []) ≡ Some (comparison equal (path_or (variable (codes "r1")) ((codes "stat") ∷ (codes "size") ∷ []) (literal (boolean true))) (literal (boolean true)))
text_1503 = refl

text_1504 : expression_of (codes "r1.stderr == 1") ≡ Some (comparison equal (path (variable (codes "r1")) ((codes "stderr") ∷ [])) (literal (int (pos 1))))
text_1504 = refl

text_1505 : expression_of (codes "r1.stderr == true") ≡ Some (comparison equal (path (variable (codes "r1")) ((codes "stderr") ∷ [])) (literal (boolean true)))
text_1505 = refl

text_1506 : expression_of (codes "r1.stderr in r1.skip_reason") ≡ Some (membership (path (variable (codes "r1")) ((codes "stderr") ∷ [])) (path (variable (codes "r1")) ((codes "skip_reason") ∷ [])))
text_1506 = refl

text_1507 : expression_of (codes "r1.stderr is defined") ≡ Some (defined (variable (codes "r1")) ((codes "stderr") ∷ []))
text_1507 = refl

text_1508 : expression_of (114 ∷ 49 ∷ 46 ∷ 115 ∷ 116 ∷ 100 ∷ 101 ∷ 114 ∷ 114 ∷ 32 ∷ 124 ∷ 32 ∷ 100 ∷ 101 ∷ 102 ∷ 97 ∷ 117 ∷ 108 ∷ 116 ∷ 40 ∷ 102 ∷ 97 ∷ 108 ∷ 115 ∷ 101 ∷ 41 ∷ []) ≡ Some (path_or (variable (codes "r1")) ((codes "stderr") ∷ []) (literal (boolean false)))
text_1508 = refl

text_1509 : expression_of (114 ∷ 49 ∷ 46 ∷ 115 ∷ 116 ∷ 100 ∷ 101 ∷ 114 ∷ 114 ∷ 32 ∷ 124 ∷ 32 ∷ 100 ∷ 101 ∷ 102 ∷ 97 ∷ 117 ∷ 108 ∷ 116 ∷ 40 ∷ 116 ∷ 114 ∷ 117 ∷ 101 ∷ 41 ∷ 32 ∷ 61 ∷ 61 ∷ 32 ∷ 116 ∷ 114 ∷ 117 ∷ 101 ∷ []) ≡ Some (comparison equal (path_or (variable (codes "r1")) ((codes "stderr") ∷ []) (literal (boolean true))) (literal (boolean true)))
text_1509 = refl

text_1510 : expression_of (codes "r1.stdout is defined") ≡ Some (defined (variable (codes "r1")) ((codes "stdout") ∷ []))
text_1510 = refl

text_1511 : expression_of (codes "r1.stdout is undefined") ≡ Some (negation (defined (variable (codes "r1")) ((codes "stdout") ∷ [])))
text_1511 = refl

text_1512 : expression_of (114 ∷ 49 ∷ 46 ∷ 115 ∷ 116 ∷ 100 ∷ 111 ∷ 117 ∷ 116 ∷ 32 ∷ 124 ∷ 32 ∷ 100 ∷ 101 ∷ 102 ∷ 97 ∷ 117 ∷ 108 ∷ 116 ∷ 40 ∷ 116 ∷ 114 ∷ 117 ∷ 101 ∷ 41 ∷ 32 ∷ 61 ∷ 61 ∷ 32 ∷ 116 ∷ 114 ∷ 117 ∷ 101 ∷ []) ≡ Some (comparison equal (path_or (variable (codes "r1")) ((codes "stdout") ∷ []) (literal (boolean true))) (literal (boolean true)))
text_1512 = refl

text_1513 : expression_of (codes "r1.stdout_lines == 1") ≡ Some (comparison equal (path (variable (codes "r1")) ((codes "stdout_lines") ∷ [])) (literal (int (pos 1))))
text_1513 = refl

text_1514 : expression_of (codes "r1.stdout_lines is defined") ≡ Some (defined (variable (codes "r1")) ((codes "stdout_lines") ∷ []))
text_1514 = refl

text_1515 : expression_of (codes "r1.stdout_lines is undefined") ≡ Some (negation (defined (variable (codes "r1")) ((codes "stdout_lines") ∷ [])))
text_1515 = refl

text_1516 : expression_of (114 ∷ 49 ∷ 46 ∷ 115 ∷ 116 ∷ 100 ∷ 111 ∷ 117 ∷ 116 ∷ 95 ∷ 108 ∷ 105 ∷ 110 ∷ 101 ∷ 115 ∷ 32 ∷ 124 ∷ 32 ∷ 100 ∷ 101 ∷ 102 ∷ 97 ∷ 117 ∷ 108 ∷ 116 ∷ 40 ∷ 116 ∷ 114 ∷ 117 ∷ 101 ∷ 41 ∷ 32 ∷ 61 ∷ 61 ∷ 32 ∷ 116 ∷ 114 ∷ 117 ∷ 101 ∷ []) ≡ Some (comparison equal (path_or (variable (codes "r1")) ((codes "stdout_lines") ∷ []) (literal (boolean true))) (literal (boolean true)))
text_1516 = refl

text_1517 : expression_of (codes "r1.why is defined") ≡ Some (defined (variable (codes "r1")) ((codes "why") ∷ []))
text_1517 = refl

text_1518 : expression_of (114 ∷ 49 ∷ 46 ∷ 119 ∷ 104 ∷ 121 ∷ 32 ∷ 124 ∷ 32 ∷ 100 ∷ 101 ∷ 102 ∷ 97 ∷ 117 ∷ 108 ∷ 116 ∷ 40 ∷ 102 ∷ 97 ∷ 108 ∷ 115 ∷ 101 ∷ 41 ∷ []) ≡ Some (path_or (variable (codes "r1")) ((codes "why") ∷ []) (literal (boolean false)))
text_1518 = refl

text_1519 : expression_of (114 ∷ 49 ∷ 46 ∷ 119 ∷ 104 ∷ 121 ∷ 32 ∷ 124 ∷ 32 ∷ 100 ∷ 101 ∷ 102 ∷ 97 ∷ 117 ∷ 108 ∷ 116 ∷ 40 ∷ 116 ∷ 114 ∷ 117 ∷ 101 ∷ 41 ∷ 32 ∷ 61 ∷ 61 ∷ 32 ∷ 116 ∷ 114 ∷ 117 ∷ 101 ∷ []) ≡ Some (comparison equal (path_or (variable (codes "r1")) ((codes "why") ∷ []) (literal (boolean true))) (literal (boolean true)))
text_1519 = refl

text_1520 : expression_of (codes "r2 is changed") ≡ Some (path_status is_changed (variable (codes "r2")) ([]))
text_1520 = refl

text_1521 : expression_of (codes "r2 is defined") ≡ Some (defined (variable (codes "r2")) ([]))
text_1521 = refl

text_1522 : expression_of (codes "r2 is defined and r2 is not skipped and r2.failed == 1") ≡ Some (conjunction (expression (defined (variable (codes "r2")) ([])) (expression (negation (path_status is_skipped (variable (codes "r2")) ([]))) (expression (comparison equal (path (variable (codes "r2")) ((codes "failed") ∷ [])) (literal (int (pos 1)))) (no_expressions)))))
text_1522 = refl

text_1523 : expression_of (codes "r2 is defined and r2 is succeeded and r2.stat == 1") ≡ Some (conjunction (expression (defined (variable (codes "r2")) ([])) (expression (negation (path_status is_failed (variable (codes "r2")) ([]))) (expression (comparison equal (path (variable (codes "r2")) ((codes "stat") ∷ [])) (literal (int (pos 1)))) (no_expressions)))))
text_1523 = refl

text_1524 : expression_of (codes "r2 is defined and r2.ansible_facts.ansible_os_family is defined and r2.ansible_facts.ansible_os_family == 1") ≡ Some (conjunction (expression (defined (variable (codes "r2")) ([])) (expression (defined (variable (codes "r2")) ((codes "ansible_facts") ∷ (codes "ansible_os_family") ∷ [])) (expression (comparison equal (path (variable (codes "r2")) ((codes "ansible_facts") ∷ (codes "ansible_os_family") ∷ [])) (literal (int (pos 1)))) (no_expressions)))))
text_1524 = refl

text_1525 : expression_of (codes "r2 is defined and r2.results is defined and r2.results == 1") ≡ Some (conjunction (expression (defined (variable (codes "r2")) ([])) (expression (defined (variable (codes "r2")) ((codes "results") ∷ [])) (expression (comparison equal (path (variable (codes "r2")) ((codes "results") ∷ [])) (literal (int (pos 1)))) (no_expressions)))))
text_1525 = refl

text_1526 : expression_of (codes "r2 is failed") ≡ Some (path_status is_failed (variable (codes "r2")) ([]))
text_1526 = refl

text_1527 : expression_of (codes "r2 is not changed") ≡ Some (negation (path_status is_changed (variable (codes "r2")) ([])))
text_1527 = refl

text_1528 : expression_of (codes "r2 is not defined") ≡ Some (negation (defined (variable (codes "r2")) ([])))
text_1528 = refl

text_1529 : expression_of (codes "r2 is not failed") ≡ Some (negation (path_status is_failed (variable (codes "r2")) ([])))
text_1529 = refl

text_1530 : expression_of (codes "r2 is not skipped") ≡ Some (negation (path_status is_skipped (variable (codes "r2")) ([])))
text_1530 = refl

text_1531 : expression_of (codes "r2 is not succeeded") ≡ Some (negation (negation (path_status is_failed (variable (codes "r2")) ([]))))
text_1531 = refl

text_1532 : expression_of (codes "r2 is skipped") ≡ Some (path_status is_skipped (variable (codes "r2")) ([]))
text_1532 = refl

text_1533 : expression_of (codes "r2 is succeeded") ≡ Some (negation (path_status is_failed (variable (codes "r2")) ([])))
text_1533 = refl

text_1534 : expression_of (codes "r2 is undefined") ≡ Some (negation (defined (variable (codes "r2")) ([])))
text_1534 = refl

text_1535 : expression_of (114 ∷ 50 ∷ 32 ∷ 124 ∷ 32 ∷ 100 ∷ 101 ∷ 102 ∷ 97 ∷ 117 ∷ 108 ∷ 116 ∷ 40 ∷ 102 ∷ 97 ∷ 108 ∷ 115 ∷ 101 ∷ 41 ∷ []) ≡ Some (path_or (variable (codes "r2")) ([]) (literal (boolean false)))
text_1535 = refl

text_1536 : expression_of (codes "r2.ansible_facts.ansible_hostname == 1") ≡ Some (comparison equal (path (variable (codes "r2")) ((codes "ansible_facts") ∷ (codes "ansible_hostname") ∷ [])) (literal (int (pos 1))))
text_1536 = refl

text_1537 : expression_of (codes "r2.ansible_facts.ansible_hostname is defined") ≡ Some (defined (variable (codes "r2")) ((codes "ansible_facts") ∷ (codes "ansible_hostname") ∷ []))
text_1537 = refl

text_1538 : expression_of (codes "r2.ansible_facts.ansible_os_family == 1") ≡ Some (comparison equal (path (variable (codes "r2")) ((codes "ansible_facts") ∷ (codes "ansible_os_family") ∷ [])) (literal (int (pos 1))))
text_1538 = refl

text_1539 : expression_of (codes "r2.ansible_facts.ansible_os_family is defined") ≡ Some (defined (variable (codes "r2")) ((codes "ansible_facts") ∷ (codes "ansible_os_family") ∷ []))
text_1539 = refl

text_1540 : expression_of (codes "r2.changed") ≡ Some (path (variable (codes "r2")) ((codes "changed") ∷ []))
text_1540 = refl

text_1541 : expression_of (114 ∷ 50 ∷ 46 ∷ 99 ∷ 104 ∷ 97 ∷ 110 ∷ 103 ∷ 101 ∷ 100 ∷ 32 ∷ 33 ∷ 61 ∷ 32 ∷ 91 ∷ 49 ∷ 93 ∷ []) ≡ Some (negation (comparison equal (path (variable (codes "r2")) ((codes "changed") ∷ [])) (list_of (expression (literal (int (pos 1))) (no_expressions)))))
text_1541 = refl

text_1542 : expression_of (codes "r2.changed == 1") ≡ Some (comparison equal (path (variable (codes "r2")) ((codes "changed") ∷ [])) (literal (int (pos 1))))
text_1542 = refl

text_1543 : expression_of (114 ∷ 50 ∷ 46 ∷ 99 ∷ 104 ∷ 97 ∷ 110 ∷ 103 ∷ 101 ∷ 100 ∷ 32 ∷ 61 ∷ 61 ∷ 32 ∷ 91 ∷ 49 ∷ 93 ∷ []) ≡ Some (comparison equal (path (variable (codes "r2")) ((codes "changed") ∷ [])) (list_of (expression (literal (int (pos 1))) (no_expressions))))
text_1543 = refl

text_1544 : expression_of (codes "r2.changed is defined") ≡ Some (defined (variable (codes "r2")) ((codes "changed") ∷ []))
text_1544 = refl

text_1545 : expression_of (codes "r2.changed is defined and r2.changed == 1") ≡ Some (conjunction (expression (defined (variable (codes "r2")) ((codes "changed") ∷ [])) (expression (comparison equal (path (variable (codes "r2")) ((codes "changed") ∷ [])) (literal (int (pos 1)))) (no_expressions))))
text_1545 = refl

text_1546 : expression_of (codes "r2.changed is not defined") ≡ Some (negation (defined (variable (codes "r2")) ((codes "changed") ∷ [])))
text_1546 = refl

text_1547 : expression_of (codes "r2.changed is undefined") ≡ Some (negation (defined (variable (codes "r2")) ((codes "changed") ∷ [])))
text_1547 = refl

text_1548 : expression_of (114 ∷ 50 ∷ 46 ∷ 99 ∷ 104 ∷ 97 ∷ 110 ∷ 103 ∷ 101 ∷ 100 ∷ 32 ∷ 124 ∷ 32 ∷ 100 ∷ 101 ∷ 102 ∷ 97 ∷ 117 ∷ 108 ∷ 116 ∷ 40 ∷ 102 ∷ 97 ∷ 108 ∷ 115 ∷ 101 ∷ 41 ∷ []) ≡ Some (path_or (variable (codes "r2")) ((codes "changed") ∷ []) (literal (boolean false)))
text_1548 = refl

text_1549 : expression_of (114 ∷ 50 ∷ 46 ∷ 99 ∷ 104 ∷ 97 ∷ 110 ∷ 103 ∷ 101 ∷ 100 ∷ 32 ∷ 124 ∷ 32 ∷ 100 ∷ 101 ∷ 102 ∷ 97 ∷ 117 ∷ 108 ∷ 116 ∷ 40 ∷ 116 ∷ 114 ∷ 117 ∷ 101 ∷ 41 ∷ 32 ∷ 61 ∷ 61 ∷ 32 ∷ 116 ∷ 114 ∷ 117 ∷ 101 ∷ []) ≡ Some (comparison equal (path_or (variable (codes "r2")) ((codes "changed") ∷ []) (literal (boolean true))) (literal (boolean true)))
text_1549 = refl

text_1550 : expression_of (codes "r2.deep == 1") ≡ Some (comparison equal (path (variable (codes "r2")) ((codes "deep") ∷ [])) (literal (int (pos 1))))
text_1550 = refl

text_1551 : expression_of (codes "r2.deep is undefined") ≡ Some (negation (defined (variable (codes "r2")) ((codes "deep") ∷ [])))
text_1551 = refl

text_1552 : expression_of (codes "r2.deep.b is defined") ≡ Some (defined (variable (codes "r2")) ((codes "deep") ∷ (codes "b") ∷ []))
text_1552 = refl

text_1553 : expression_of (codes "r2.failed") ≡ Some (path (variable (codes "r2")) ((codes "failed") ∷ []))
text_1553 = refl

text_1554 : expression_of (codes "r2.failed == 1") ≡ Some (comparison equal (path (variable (codes "r2")) ((codes "failed") ∷ [])) (literal (int (pos 1))))
text_1554 = refl

text_1555 : expression_of (114 ∷ 50 ∷ 46 ∷ 102 ∷ 97 ∷ 105 ∷ 108 ∷ 101 ∷ 100 ∷ 32 ∷ 61 ∷ 61 ∷ 32 ∷ 91 ∷ 49 ∷ 93 ∷ []) ≡ Some (comparison equal (path (variable (codes "r2")) ((codes "failed") ∷ [])) (list_of (expression (literal (int (pos 1))) (no_expressions))))
text_1555 = refl

text_1556 : expression_of (codes "r2.failed == true") ≡ Some (comparison equal (path (variable (codes "r2")) ((codes "failed") ∷ [])) (literal (boolean true)))
text_1556 = refl

text_1557 : expression_of (codes "r2.failed and r2.changed") ≡ Some (conjunction (expression (path (variable (codes "r2")) ((codes "failed") ∷ [])) (expression (path (variable (codes "r2")) ((codes "changed") ∷ [])) (no_expressions))))
text_1557 = refl

text_1558 : expression_of (codes "r2.failed and r3.changed") ≡ Some (conjunction (expression (path (variable (codes "r2")) ((codes "failed") ∷ [])) (expression (path (variable (codes "r3")) ((codes "changed") ∷ [])) (no_expressions))))
text_1558 = refl

text_1559 : expression_of (codes "r2.failed is defined") ≡ Some (defined (variable (codes "r2")) ((codes "failed") ∷ []))
text_1559 = refl

text_1560 : expression_of (codes "r2.failed is not defined") ≡ Some (negation (defined (variable (codes "r2")) ((codes "failed") ∷ [])))
text_1560 = refl

text_1561 : expression_of (codes "r2.failed is undefined") ≡ Some (negation (defined (variable (codes "r2")) ((codes "failed") ∷ [])))
text_1561 = refl

text_1562 : expression_of (114 ∷ 50 ∷ 46 ∷ 102 ∷ 97 ∷ 105 ∷ 108 ∷ 101 ∷ 100 ∷ 32 ∷ 124 ∷ 32 ∷ 100 ∷ 101 ∷ 102 ∷ 97 ∷ 117 ∷ 108 ∷ 116 ∷ 40 ∷ 102 ∷ 97 ∷ 108 ∷ 115 ∷ 101 ∷ 41 ∷ []) ≡ Some (path_or (variable (codes "r2")) ((codes "failed") ∷ []) (literal (boolean false)))
text_1562 = refl

text_1563 : expression_of (114 ∷ 50 ∷ 46 ∷ 102 ∷ 97 ∷ 105 ∷ 108 ∷ 101 ∷ 100 ∷ 32 ∷ 124 ∷ 32 ∷ 100 ∷ 101 ∷ 102 ∷ 97 ∷ 117 ∷ 108 ∷ 116 ∷ 40 ∷ 116 ∷ 114 ∷ 117 ∷ 101 ∷ 41 ∷ 32 ∷ 61 ∷ 61 ∷ 32 ∷ 116 ∷ 114 ∷ 117 ∷ 101 ∷ []) ≡ Some (comparison equal (path_or (variable (codes "r2")) ((codes "failed") ∷ []) (literal (boolean true))) (literal (boolean true)))
text_1563 = refl

text_1564 : expression_of (codes "r2.msg == 1") ≡ Some (comparison equal (path (variable (codes "r2")) ((codes "msg") ∷ [])) (literal (int (pos 1))))
text_1564 = refl

text_1565 : expression_of (114 ∷ 50 ∷ 46 ∷ 109 ∷ 115 ∷ 103 ∷ 32 ∷ 61 ∷ 61 ∷ 32 ∷ 91 ∷ 49 ∷ 93 ∷ []) ≡ Some (comparison equal (path (variable (codes "r2")) ((codes "msg") ∷ [])) (list_of (expression (literal (int (pos 1))) (no_expressions))))
text_1565 = refl

text_1566 : expression_of (codes "r2.msg is defined") ≡ Some (defined (variable (codes "r2")) ((codes "msg") ∷ []))
text_1566 = refl

text_1567 : expression_of (codes "r2.msg is undefined") ≡ Some (negation (defined (variable (codes "r2")) ((codes "msg") ∷ [])))
text_1567 = refl

text_1568 : expression_of (114 ∷ 50 ∷ 46 ∷ 109 ∷ 115 ∷ 103 ∷ 32 ∷ 124 ∷ 32 ∷ 100 ∷ 101 ∷ 102 ∷ 97 ∷ 117 ∷ 108 ∷ 116 ∷ 40 ∷ 102 ∷ 97 ∷ 108 ∷ 115 ∷ 101 ∷ 41 ∷ []) ≡ Some (path_or (variable (codes "r2")) ((codes "msg") ∷ []) (literal (boolean false)))
text_1568 = refl

text_1569 : expression_of (114 ∷ 50 ∷ 46 ∷ 109 ∷ 115 ∷ 103 ∷ 32 ∷ 124 ∷ 32 ∷ 100 ∷ 101 ∷ 102 ∷ 97 ∷ 117 ∷ 108 ∷ 116 ∷ 40 ∷ 116 ∷ 114 ∷ 117 ∷ 101 ∷ 41 ∷ 32 ∷ 61 ∷ 61 ∷ 32 ∷ 116 ∷ 114 ∷ 117 ∷ 101 ∷ []) ≡ Some (comparison equal (path_or (variable (codes "r2")) ((codes "msg") ∷ []) (literal (boolean true))) (literal (boolean true)))
text_1569 = refl

text_1570 : expression_of (codes "r2.ping == 1") ≡ Some (comparison equal (path (variable (codes "r2")) ((codes "ping") ∷ [])) (literal (int (pos 1))))
text_1570 = refl

text_1571 : expression_of (codes "r2.rc != 1") ≡ Some (negation (comparison equal (path (variable (codes "r2")) ((codes "rc") ∷ [])) (literal (int (pos 1)))))
text_1571 = refl

text_1572 : expression_of (codes "r2.rc == 1") ≡ Some (comparison equal (path (variable (codes "r2")) ((codes "rc") ∷ [])) (literal (int (pos 1))))
text_1572 = refl

text_1573 : expression_of (codes "r2.rc is undefined") ≡ Some (negation (defined (variable (codes "r2")) ((codes "rc") ∷ [])))
text_1573 = refl

text_1574 : expression_of (114 ∷ 50 ∷ 46 ∷ 114 ∷ 99 ∷ 32 ∷ 124 ∷ 32 ∷ 100 ∷ 101 ∷ 102 ∷ 97 ∷ 117 ∷ 108 ∷ 116 ∷ 40 ∷ 102 ∷ 97 ∷ 108 ∷ 115 ∷ 101 ∷ 41 ∷ []) ≡ Some (path_or (variable (codes "r2")) ((codes "rc") ∷ []) (literal (boolean false)))
text_1574 = refl

text_1575 : expression_of (114 ∷ 50 ∷ 46 ∷ 114 ∷ 99 ∷ 32 ∷ 124 ∷ 32 ∷ 100 ∷ 101 ∷ 102 ∷ 97 ∷ 117 ∷ 108 ∷ 116 ∷ 40 ∷ 116 ∷ 114 ∷ 117 ∷ 101 ∷ 41 ∷ 32 ∷ 61 ∷ 61 ∷ 32 ∷ 116 ∷ 114 ∷ 117 ∷ 101 ∷ []) ≡ Some (comparison equal (path_or (variable (codes "r2")) ((codes "rc") ∷ []) (literal (boolean true))) (literal (boolean true)))
text_1575 = refl

text_1576 : expression_of (codes "r2.rows == 1") ≡ Some (comparison equal (path (variable (codes "r2")) ((codes "rows") ∷ [])) (literal (int (pos 1))))
text_1576 = refl

text_1577 : expression_of (114 ∷ 50 ∷ 46 ∷ 114 ∷ 111 ∷ 119 ∷ 115 ∷ 32 ∷ 124 ∷ 32 ∷ 100 ∷ 101 ∷ 102 ∷ 97 ∷ 117 ∷ 108 ∷ 116 ∷ 40 ∷ 116 ∷ 114 ∷ 117 ∷ 101 ∷ 41 ∷ 32 ∷ 61 ∷ 61 ∷ 32 ∷ 116 ∷ 114 ∷ 117 ∷ 101 ∷ []) ≡ Some (comparison equal (path_or (variable (codes "r2")) ((codes "rows") ∷ []) (literal (boolean true))) (literal (boolean true)))
text_1577 = refl

text_1578 : expression_of (codes "r2.skip_reason is defined") ≡ Some (defined (variable (codes "r2")) ((codes "skip_reason") ∷ []))
text_1578 = refl

text_1579 : expression_of (codes "r2.skip_reason is undefined") ≡ Some (negation (defined (variable (codes "r2")) ((codes "skip_reason") ∷ [])))
text_1579 = refl

text_1580 : expression_of (114 ∷ 50 ∷ 46 ∷ 115 ∷ 107 ∷ 105 ∷ 112 ∷ 95 ∷ 114 ∷ 101 ∷ 97 ∷ 115 ∷ 111 ∷ 110 ∷ 32 ∷ 124 ∷ 32 ∷ 100 ∷ 101 ∷ 102 ∷ 97 ∷ 117 ∷ 108 ∷ 116 ∷ 40 ∷ 102 ∷ 97 ∷ 108 ∷ 115 ∷ 101 ∷ 41 ∷ []) ≡ Some (path_or (variable (codes "r2")) ((codes "skip_reason") ∷ []) (literal (boolean false)))
text_1580 = refl

text_1581 : expression_of (codes "r2.skipped is defined") ≡ Some (defined (variable (codes "r2")) ((codes "skipped") ∷ []))
text_1581 = refl

text_1582 : expression_of (codes "r2.skipped is undefined") ≡ Some (negation (defined (variable (codes "r2")) ((codes "skipped") ∷ [])))
text_1582 = refl

text_1583 : expression_of (codes "r2.stat == true") ≡ Some (comparison equal (path (variable (codes "r2")) ((codes "stat") ∷ [])) (literal (boolean true)))
text_1583 = refl

text_1584 : expression_of (codes "r2.stat is undefined") ≡ Some (negation (defined (variable (codes "r2")) ((codes "stat") ∷ [])))
text_1584 = refl

text_1585 : expression_of (114 ∷ 50 ∷ 46 ∷ 115 ∷ 116 ∷ 97 ∷ 116 ∷ 46 ∷ 101 ∷ 120 ∷ 105 ∷ 115 ∷ 116 ∷ 115 ∷ 32 ∷ 124 ∷ 32 ∷ 100 ∷ 101 ∷ 102 ∷ 97 ∷ 117 ∷ 108 ∷ 116 ∷ 40 ∷ 102 ∷ 97 ∷ 108 ∷ 115 ∷ 101 ∷ 41 ∷ []) ≡ Some (path_or (variable (codes "r2")) ((codes "stat") ∷ (codes "exists") ∷ []) (literal (boolean false)))
text_1585 = refl

text_1586 : expression_of (codes "r2.stderr == 1") ≡ Some (comparison equal (path (variable (codes "r2")) ((codes "stderr") ∷ [])) (literal (int (pos 1))))
text_1586 = refl

text_1587 : expression_of (114 ∷ 50 ∷ 46 ∷ 115 ∷ 116 ∷ 100 ∷ 101 ∷ 114 ∷ 114 ∷ 32 ∷ 124 ∷ 32 ∷ 100 ∷ 101 ∷ 102 ∷ 97 ∷ 117 ∷ 108 ∷ 116 ∷ 40 ∷ 116 ∷ 114 ∷ 117 ∷ 101 ∷ 41 ∷ 32 ∷ 61 ∷ 61 ∷ 32 ∷ 116 ∷ 114 ∷ 117 ∷ 101 ∷ []) ≡ Some (comparison equal (path_or (variable (codes "r2")) ((codes "stderr") ∷ []) (literal (boolean true))) (literal (boolean true)))
text_1587 = refl

text_1588 : expression_of (codes "r2.stderr.stdout or r2.stderr and nope.x and r2.ping") ≡ Some (disjunction (expression (path (variable (codes "r2")) ((codes "stderr") ∷ (codes "stdout") ∷ [])) (expression (conjunction (expression (path (variable (codes "r2")) ((codes "stderr") ∷ [])) (expression (path (variable (codes "nope")) ((codes "x") ∷ [])) (expression (path (variable (codes "r2")) ((codes "ping") ∷ [])) (no_expressions))))) (no_expressions))))
text_1588 = refl

text_1589 : expression_of (codes "r2.stdout") ≡ Some (path (variable (codes "r2")) ((codes "stdout") ∷ []))
text_1589 = refl

text_1590 : expression_of (codes "r2.stdout == 1") ≡ Some (comparison equal (path (variable (codes "r2")) ((codes "stdout") ∷ [])) (literal (int (pos 1))))
text_1590 = refl

text_1591 : expression_of (codes "r2.stdout is defined") ≡ Some (defined (variable (codes "r2")) ((codes "stdout") ∷ []))
text_1591 = refl

text_1592 : expression_of (codes "r2.stdout is not defined") ≡ Some (negation (defined (variable (codes "r2")) ((codes "stdout") ∷ [])))
text_1592 = refl

text_1593 : expression_of (codes "r2.stdout is undefined") ≡ Some (negation (defined (variable (codes "r2")) ((codes "stdout") ∷ [])))
text_1593 = refl

text_1594 : expression_of (114 ∷ 50 ∷ 46 ∷ 115 ∷ 116 ∷ 100 ∷ 111 ∷ 117 ∷ 116 ∷ 32 ∷ 124 ∷ 32 ∷ 100 ∷ 101 ∷ 102 ∷ 97 ∷ 117 ∷ 108 ∷ 116 ∷ 40 ∷ 116 ∷ 114 ∷ 117 ∷ 101 ∷ 41 ∷ 32 ∷ 61 ∷ 61 ∷ 32 ∷ 116 ∷ 114 ∷ 117 ∷ 101 ∷ []) ≡ Some (comparison equal (path_or (variable (codes "r2")) ((codes "stdout") ∷ []) (literal (boolean true))) (literal (boolean true)))
text_1594 = refl

text_1595 : expression_of (codes "r2.stdout_lines == 1") ≡ Some (comparison equal (path (variable (codes "r2")) ((codes "stdout_lines") ∷ [])) (literal (int (pos 1))))
text_1595 = refl

text_1596 : expression_of (114 ∷ 50 ∷ 46 ∷ 115 ∷ 116 ∷ 100 ∷ 111 ∷ 117 ∷ 116 ∷ 95 ∷ 108 ∷ 105 ∷ 110 ∷ 101 ∷ 115 ∷ 32 ∷ 124 ∷ 32 ∷ 100 ∷ 101 ∷ 102 ∷ 97 ∷ 117 ∷ 108 ∷ 116 ∷ 40 ∷ 116 ∷ 114 ∷ 117 ∷ 101 ∷ 41 ∷ 32 ∷ 61 ∷ 61 ∷ 32 ∷ 116 ∷ 114 ∷ 117 ∷ 101 ∷ []) ≡ Some (comparison equal (path_or (variable (codes "r2")) ((codes "stdout_lines") ∷ []) (literal (boolean true))) (literal (boolean true)))
text_1596 = refl

text_1597 : expression_of (codes "r2.v == 1") ≡ Some (comparison equal (path (variable (codes "r2")) ((codes "v") ∷ [])) (literal (int (pos 1))))
text_1597 = refl

text_1598 : expression_of (codes "r2.why == 1") ≡ Some (comparison equal (path (variable (codes "r2")) ((codes "why") ∷ [])) (literal (int (pos 1))))
text_1598 = refl

text_1599 : expression_of (codes "r2.why is defined") ≡ Some (defined (variable (codes "r2")) ((codes "why") ∷ []))
text_1599 = refl

text_1600 : expression_of (codes "r3 != true") ≡ Some (negation (comparison equal (path (variable (codes "r3")) ([])) (literal (boolean true))))
text_1600 = refl

text_1601 : expression_of (114 ∷ 51 ∷ 32 ∷ 61 ∷ 61 ∷ 32 ∷ 91 ∷ 49 ∷ 93 ∷ []) ≡ Some (comparison equal (path (variable (codes "r3")) ([])) (list_of (expression (literal (int (pos 1))) (no_expressions))))
text_1601 = refl

text_1602 : expression_of (codes "r3 is changed") ≡ Some (path_status is_changed (variable (codes "r3")) ([]))
text_1602 = refl

text_1603 : expression_of (codes "r3 is defined") ≡ Some (defined (variable (codes "r3")) ([]))
text_1603 = refl

text_1604 : expression_of (codes "r3 is defined and r3 is not skipped and r3.changed == 1") ≡ Some (conjunction (expression (defined (variable (codes "r3")) ([])) (expression (negation (path_status is_skipped (variable (codes "r3")) ([]))) (expression (comparison equal (path (variable (codes "r3")) ((codes "changed") ∷ [])) (literal (int (pos 1)))) (no_expressions)))))
text_1604 = refl

text_1605 : expression_of (codes "r3 is failed") ≡ Some (path_status is_failed (variable (codes "r3")) ([]))
text_1605 = refl

text_1606 : expression_of (codes "r3 is failed and r3.stdout_lines == 1") ≡ Some (conjunction (expression (path_status is_failed (variable (codes "r3")) ([])) (expression (comparison equal (path (variable (codes "r3")) ((codes "stdout_lines") ∷ [])) (literal (int (pos 1)))) (no_expressions))))
text_1606 = refl

text_1607 : expression_of (codes "r3 is not changed") ≡ Some (negation (path_status is_changed (variable (codes "r3")) ([])))
text_1607 = refl

text_1608 : expression_of (codes "r3 is not defined") ≡ Some (negation (defined (variable (codes "r3")) ([])))
text_1608 = refl

text_1609 : expression_of (codes "r3 is not failed") ≡ Some (negation (path_status is_failed (variable (codes "r3")) ([])))
text_1609 = refl

text_1610 : expression_of (codes "r3 is not skipped") ≡ Some (negation (path_status is_skipped (variable (codes "r3")) ([])))
text_1610 = refl

text_1611 : expression_of (codes "r3 is not skipped and r3.skipped == 1") ≡ Some (conjunction (expression (negation (path_status is_skipped (variable (codes "r3")) ([]))) (expression (comparison equal (path (variable (codes "r3")) ((codes "skipped") ∷ [])) (literal (int (pos 1)))) (no_expressions))))
text_1611 = refl

text_1612 : expression_of (codes "r3 is not succeeded") ≡ Some (negation (negation (path_status is_failed (variable (codes "r3")) ([]))))
text_1612 = refl

text_1613 : expression_of (codes "r3 is skipped") ≡ Some (path_status is_skipped (variable (codes "r3")) ([]))
text_1613 = refl

text_1614 : expression_of (codes "r3 is succeeded") ≡ Some (negation (path_status is_failed (variable (codes "r3")) ([])))
text_1614 = refl

text_1615 : expression_of (codes "r3 is succeeded and r3.msg == 1") ≡ Some (conjunction (expression (negation (path_status is_failed (variable (codes "r3")) ([]))) (expression (comparison equal (path (variable (codes "r3")) ((codes "msg") ∷ [])) (literal (int (pos 1)))) (no_expressions))))
text_1615 = refl

text_1616 : expression_of (codes "r3 is succeeded and r3.stdout_lines == 1") ≡ Some (conjunction (expression (negation (path_status is_failed (variable (codes "r3")) ([]))) (expression (comparison equal (path (variable (codes "r3")) ((codes "stdout_lines") ∷ [])) (literal (int (pos 1)))) (no_expressions))))
text_1616 = refl

text_1617 : expression_of (codes "r3 is undefined") ≡ Some (negation (defined (variable (codes "r3")) ([])))
text_1617 = refl

text_1618 : expression_of (114 ∷ 51 ∷ 32 ∷ 124 ∷ 32 ∷ 100 ∷ 101 ∷ 102 ∷ 97 ∷ 117 ∷ 108 ∷ 116 ∷ 40 ∷ 102 ∷ 97 ∷ 108 ∷ 115 ∷ 101 ∷ 41 ∷ []) ≡ Some (path_or (variable (codes "r3")) ([]) (literal (boolean false)))
text_1618 = refl

text_1619 : expression_of (codes "r3.ansible_facts.ansible_hostname == 1") ≡ Some (comparison equal (path (variable (codes "r3")) ((codes "ansible_facts") ∷ (codes "ansible_hostname") ∷ [])) (literal (int (pos 1))))
text_1619 = refl

text_1620 : expression_of (codes "r3.ansible_facts.ansible_hostname is defined") ≡ Some (defined (variable (codes "r3")) ((codes "ansible_facts") ∷ (codes "ansible_hostname") ∷ []))
text_1620 = refl

text_1621 : expression_of (codes "r3.changed") ≡ Some (path (variable (codes "r3")) ((codes "changed") ∷ []))
text_1621 = refl

text_1622 : expression_of (114 ∷ 51 ∷ 46 ∷ 99 ∷ 104 ∷ 97 ∷ 110 ∷ 103 ∷ 101 ∷ 100 ∷ 32 ∷ 33 ∷ 61 ∷ 32 ∷ 91 ∷ 49 ∷ 93 ∷ []) ≡ Some (negation (comparison equal (path (variable (codes "r3")) ((codes "changed") ∷ [])) (list_of (expression (literal (int (pos 1))) (no_expressions)))))
text_1622 = refl

text_1623 : expression_of (codes "r3.changed == 1") ≡ Some (comparison equal (path (variable (codes "r3")) ((codes "changed") ∷ [])) (literal (int (pos 1))))
text_1623 = refl

text_1624 : expression_of (codes "r3.changed is defined") ≡ Some (defined (variable (codes "r3")) ((codes "changed") ∷ []))
text_1624 = refl

text_1625 : expression_of (codes "r3.changed is not defined") ≡ Some (negation (defined (variable (codes "r3")) ((codes "changed") ∷ [])))
text_1625 = refl

text_1626 : expression_of (114 ∷ 51 ∷ 46 ∷ 99 ∷ 104 ∷ 97 ∷ 110 ∷ 103 ∷ 101 ∷ 100 ∷ 32 ∷ 124 ∷ 32 ∷ 100 ∷ 101 ∷ 102 ∷ 97 ∷ 117 ∷ 108 ∷ 116 ∷ 40 ∷ 102 ∷ 97 ∷ 108 ∷ 115 ∷ 101 ∷ 41 ∷ []) ≡ Some (path_or (variable (codes "r3")) ((codes "changed") ∷ []) (literal (boolean false)))
text_1626 = refl

text_1627 : expression_of (114 ∷ 51 ∷ 46 ∷ 99 ∷ 104 ∷ 97 ∷ 110 ∷ 103 ∷ 101 ∷ 100 ∷ 32 ∷ 124 ∷ 32 ∷ 100 ∷ 101 ∷ 102 ∷ 97 ∷ 117 ∷ 108 ∷ 116 ∷ 40 ∷ 116 ∷ 114 ∷ 117 ∷ 101 ∷ 41 ∷ 32 ∷ 61 ∷ 61 ∷ 32 ∷ 116 ∷ 114 ∷ 117 ∷ 101 ∷ []) ≡ Some (comparison equal (path_or (variable (codes "r3")) ((codes "changed") ∷ []) (literal (boolean true))) (literal (boolean true)))
text_1627 = refl

text_1628 : expression_of (codes "r3.deep.b is defined") ≡ Some (defined (variable (codes "r3")) ((codes "deep") ∷ (codes "b") ∷ []))
text_1628 = refl

text_1629 : expression_of (114 ∷ 51 ∷ 46 ∷ 100 ∷ 101 ∷ 101 ∷ 112 ∷ 46 ∷ 98 ∷ 32 ∷ 124 ∷ 32 ∷ 100 ∷ 101 ∷ 102 ∷ 97 ∷ 117 ∷ 108 ∷ 116 ∷ 40 ∷ 116 ∷ 114 ∷ 117 ∷ 101 ∷ 41 ∷ 32 ∷ 61 ∷ 61 ∷ 32 ∷ 116 ∷ 114 ∷ 117 ∷ 101 ∷ []) ≡ Some (comparison equal (path_or (variable (codes "r3")) ((codes "deep") ∷ (codes "b") ∷ []) (literal (boolean true))) (literal (boolean true)))
text_1629 = refl

text_1630 : expression_of (codes "r3.failed") ≡ Some (path (variable (codes "r3")) ((codes "failed") ∷ []))
text_1630 = refl

text_1631 : expression_of (codes "r3.failed != 1") ≡ Some (negation (comparison equal (path (variable (codes "r3")) ((codes "failed") ∷ [])) (literal (int (pos 1)))))
text_1631 = refl

text_1632 : expression_of (codes "r3.failed == 1") ≡ Some (comparison equal (path (variable (codes "r3")) ((codes "failed") ∷ [])) (literal (int (pos 1))))
text_1632 = refl

text_1633 : expression_of (codes "r3.failed and r1.changed") ≡ Some (conjunction (expression (path (variable (codes "r3")) ((codes "failed") ∷ [])) (expression (path (variable (codes "r1")) ((codes "changed") ∷ [])) (no_expressions))))
text_1633 = refl

text_1634 : expression_of (codes "r3.failed and r2.changed") ≡ Some (conjunction (expression (path (variable (codes "r3")) ((codes "failed") ∷ [])) (expression (path (variable (codes "r2")) ((codes "changed") ∷ [])) (no_expressions))))
text_1634 = refl

text_1635 : expression_of (codes "r3.failed and r3.changed") ≡ Some (conjunction (expression (path (variable (codes "r3")) ((codes "failed") ∷ [])) (expression (path (variable (codes "r3")) ((codes "changed") ∷ [])) (no_expressions))))
text_1635 = refl

text_1636 : expression_of (codes "r3.failed is defined") ≡ Some (defined (variable (codes "r3")) ((codes "failed") ∷ []))
text_1636 = refl

text_1637 : expression_of (codes "r3.failed is not defined") ≡ Some (negation (defined (variable (codes "r3")) ((codes "failed") ∷ [])))
text_1637 = refl

text_1638 : expression_of (codes "r3.failed is undefined") ≡ Some (negation (defined (variable (codes "r3")) ((codes "failed") ∷ [])))
text_1638 = refl

text_1639 : expression_of (114 ∷ 51 ∷ 46 ∷ 102 ∷ 97 ∷ 105 ∷ 108 ∷ 101 ∷ 100 ∷ 32 ∷ 124 ∷ 32 ∷ 100 ∷ 101 ∷ 102 ∷ 97 ∷ 117 ∷ 108 ∷ 116 ∷ 40 ∷ 102 ∷ 97 ∷ 108 ∷ 115 ∷ 101 ∷ 41 ∷ []) ≡ Some (path_or (variable (codes "r3")) ((codes "failed") ∷ []) (literal (boolean false)))
text_1639 = refl

text_1640 : expression_of (114 ∷ 51 ∷ 46 ∷ 102 ∷ 97 ∷ 105 ∷ 108 ∷ 101 ∷ 100 ∷ 32 ∷ 124 ∷ 32 ∷ 100 ∷ 101 ∷ 102 ∷ 97 ∷ 117 ∷ 108 ∷ 116 ∷ 40 ∷ 116 ∷ 114 ∷ 117 ∷ 101 ∷ 41 ∷ 32 ∷ 61 ∷ 61 ∷ 32 ∷ 116 ∷ 114 ∷ 117 ∷ 101 ∷ []) ≡ Some (comparison equal (path_or (variable (codes "r3")) ((codes "failed") ∷ []) (literal (boolean true))) (literal (boolean true)))
text_1640 = refl

text_1641 : expression_of (codes "r3.msg == 1") ≡ Some (comparison equal (path (variable (codes "r3")) ((codes "msg") ∷ [])) (literal (int (pos 1))))
text_1641 = refl

text_1642 : expression_of (codes "r3.msg is not defined") ≡ Some (negation (defined (variable (codes "r3")) ((codes "msg") ∷ [])))
text_1642 = refl

text_1643 : expression_of (codes "r3.msg is undefined") ≡ Some (negation (defined (variable (codes "r3")) ((codes "msg") ∷ [])))
text_1643 = refl

text_1644 : expression_of (114 ∷ 51 ∷ 46 ∷ 109 ∷ 115 ∷ 103 ∷ 32 ∷ 124 ∷ 32 ∷ 100 ∷ 101 ∷ 102 ∷ 97 ∷ 117 ∷ 108 ∷ 116 ∷ 40 ∷ 116 ∷ 114 ∷ 117 ∷ 101 ∷ 41 ∷ 32 ∷ 61 ∷ 61 ∷ 32 ∷ 116 ∷ 114 ∷ 117 ∷ 101 ∷ []) ≡ Some (comparison equal (path_or (variable (codes "r3")) ((codes "msg") ∷ []) (literal (boolean true))) (literal (boolean true)))
text_1644 = refl

text_1645 : expression_of (114 ∷ 51 ∷ 46 ∷ 112 ∷ 105 ∷ 110 ∷ 103 ∷ 32 ∷ 124 ∷ 32 ∷ 100 ∷ 101 ∷ 102 ∷ 97 ∷ 117 ∷ 108 ∷ 116 ∷ 40 ∷ 102 ∷ 97 ∷ 108 ∷ 115 ∷ 101 ∷ 41 ∷ []) ≡ Some (path_or (variable (codes "r3")) ((codes "ping") ∷ []) (literal (boolean false)))
text_1645 = refl

text_1646 : expression_of (114 ∷ 51 ∷ 46 ∷ 112 ∷ 105 ∷ 110 ∷ 103 ∷ 32 ∷ 124 ∷ 32 ∷ 100 ∷ 101 ∷ 102 ∷ 97 ∷ 117 ∷ 108 ∷ 116 ∷ 40 ∷ 116 ∷ 114 ∷ 117 ∷ 101 ∷ 41 ∷ 32 ∷ 61 ∷ 61 ∷ 32 ∷ 116 ∷ 114 ∷ 117 ∷ 101 ∷ []) ≡ Some (comparison equal (path_or (variable (codes "r3")) ((codes "ping") ∷ []) (literal (boolean true))) (literal (boolean true)))
text_1646 = refl

text_1647 : expression_of (codes "r3.rc == 1") ≡ Some (comparison equal (path (variable (codes "r3")) ((codes "rc") ∷ [])) (literal (int (pos 1))))
text_1647 = refl

text_1648 : expression_of (codes "r3.rc is undefined") ≡ Some (negation (defined (variable (codes "r3")) ((codes "rc") ∷ [])))
text_1648 = refl

text_1649 : expression_of (114 ∷ 51 ∷ 46 ∷ 114 ∷ 99 ∷ 32 ∷ 124 ∷ 32 ∷ 100 ∷ 101 ∷ 102 ∷ 97 ∷ 117 ∷ 108 ∷ 116 ∷ 40 ∷ 116 ∷ 114 ∷ 117 ∷ 101 ∷ 41 ∷ 32 ∷ 61 ∷ 61 ∷ 32 ∷ 116 ∷ 114 ∷ 117 ∷ 101 ∷ []) ≡ Some (comparison equal (path_or (variable (codes "r3")) ((codes "rc") ∷ []) (literal (boolean true))) (literal (boolean true)))
text_1649 = refl

text_1650 : expression_of (codes "r3.results is defined") ≡ Some (defined (variable (codes "r3")) ((codes "results") ∷ []))
text_1650 = refl

text_1651 : expression_of (codes "r3.rows is defined") ≡ Some (defined (variable (codes "r3")) ((codes "rows") ∷ []))
text_1651 = refl

text_1652 : expression_of (114 ∷ 51 ∷ 46 ∷ 114 ∷ 111 ∷ 119 ∷ 115 ∷ 32 ∷ 124 ∷ 32 ∷ 100 ∷ 101 ∷ 102 ∷ 97 ∷ 117 ∷ 108 ∷ 116 ∷ 40 ∷ 116 ∷ 114 ∷ 117 ∷ 101 ∷ 41 ∷ 32 ∷ 61 ∷ 61 ∷ 32 ∷ 116 ∷ 114 ∷ 117 ∷ 101 ∷ []) ≡ Some (comparison equal (path_or (variable (codes "r3")) ((codes "rows") ∷ []) (literal (boolean true))) (literal (boolean true)))
text_1652 = refl

text_1653 : expression_of (codes "r3.skip_reason is defined") ≡ Some (defined (variable (codes "r3")) ((codes "skip_reason") ∷ []))
text_1653 = refl

text_1654 : expression_of (codes "r3.skip_reason is not defined") ≡ Some (negation (defined (variable (codes "r3")) ((codes "skip_reason") ∷ [])))
text_1654 = refl

text_1655 : expression_of (codes "r3.skip_reason is undefined") ≡ Some (negation (defined (variable (codes "r3")) ((codes "skip_reason") ∷ [])))
text_1655 = refl

text_1656 : expression_of (114 ∷ 51 ∷ 46 ∷ 115 ∷ 107 ∷ 105 ∷ 112 ∷ 95 ∷ 114 ∷ 101 ∷ 97 ∷ 115 ∷ 111 ∷ 110 ∷ 32 ∷ 124 ∷ 32 ∷ 100 ∷ 101 ∷ 102 ∷ 97 ∷ 117 ∷ 108 ∷ 116 ∷ 40 ∷ 102 ∷ 97 ∷ 108 ∷ 115 ∷ 101 ∷ 41 ∷ []) ≡ Some (path_or (variable (codes "r3")) ((codes "skip_reason") ∷ []) (literal (boolean false)))
text_1656 = refl

text_1657 : expression_of (codes "r3.skipped is defined") ≡ Some (defined (variable (codes "r3")) ((codes "skipped") ∷ []))
text_1657 = refl

text_1658 : expression_of (codes "r3.skipped is not defined") ≡ Some (negation (defined (variable (codes "r3")) ((codes "skipped") ∷ [])))
text_1658 = refl

text_1659 : expression_of (codes "r3.skipped is undefined") ≡ Some (negation (defined (variable (codes "r3")) ((codes "skipped") ∷ [])))
text_1659 = refl

text_1660 : expression_of (codes "r3.stat is undefined") ≡ Some (negation (defined (variable (codes "r3")) ((codes "stat") ∷ [])))
text_1660 = refl

text_1661 : expression_of (codes "r3.stat.exists is defined") ≡ Some (defined (variable (codes "r3")) ((codes "stat") ∷ (codes "exists") ∷ []))
text_1661 = refl

text_1662 : expression_of (114 ∷ 51 ∷ 46 ∷ 115 ∷ 116 ∷ 97 ∷ 116 ∷ 46 ∷ 115 ∷ 105 ∷ 122 ∷ 101 ∷ 32 ∷ 124 ∷ 32 ∷ 100 ∷ 101 ∷ 102 ∷ 97 ∷ 117 ∷ 108 ∷ 116 ∷ 40 ∷ 116 ∷ 114 ∷ 117 ∷ 101 ∷ 41 ∷ 32 ∷ 61 ∷ 61 ∷ 32 ∷ 116 ∷ 114 ∷ 117 ∷ 101 ∷ []) ≡ Some (comparison equal (path_or (variable (codes "r3")) ((codes "stat") ∷ (codes "size") ∷ []) (literal (boolean true))) (literal (boolean true)))
text_1662 = refl

text_1663 : expression_of (codes "r3.stderr == 1") ≡ Some (comparison equal (path (variable (codes "r3")) ((codes "stderr") ∷ [])) (literal (int (pos 1))))
text_1663 = refl

text_1664 : expression_of (codes "r3.stderr == true") ≡ Some (comparison equal (path (variable (codes "r3")) ((codes "stderr") ∷ [])) (literal (boolean true)))
text_1664 = refl

text_1665 : expression_of (codes "r3.stderr is defined") ≡ Some (defined (variable (codes "r3")) ((codes "stderr") ∷ []))
text_1665 = refl

text_1666 : expression_of (codes "r3.stderr is not defined") ≡ Some (negation (defined (variable (codes "r3")) ((codes "stderr") ∷ [])))
text_1666 = refl

text_1667 : expression_of (114 ∷ 51 ∷ 46 ∷ 115 ∷ 116 ∷ 100 ∷ 101 ∷ 114 ∷ 114 ∷ 32 ∷ 124 ∷ 32 ∷ 100 ∷ 101 ∷ 102 ∷ 97 ∷ 117 ∷ 108 ∷ 116 ∷ 40 ∷ 116 ∷ 114 ∷ 117 ∷ 101 ∷ 41 ∷ 32 ∷ 61 ∷ 61 ∷ 32 ∷ 116 ∷ 114 ∷ 117 ∷ 101 ∷ []) ≡ Some (comparison equal (path_or (variable (codes "r3")) ((codes "stderr") ∷ []) (literal (boolean true))) (literal (boolean true)))
text_1667 = refl

text_1668 : expression_of (codes "r3.stdout == 1") ≡ Some (comparison equal (path (variable (codes "r3")) ((codes "stdout") ∷ [])) (literal (int (pos 1))))
text_1668 = refl

text_1669 : expression_of (codes "r3.stdout is defined") ≡ Some (defined (variable (codes "r3")) ((codes "stdout") ∷ []))
text_1669 = refl

text_1670 : expression_of (114 ∷ 51 ∷ 46 ∷ 115 ∷ 116 ∷ 100 ∷ 111 ∷ 117 ∷ 116 ∷ 32 ∷ 124 ∷ 32 ∷ 100 ∷ 101 ∷ 102 ∷ 97 ∷ 117 ∷ 108 ∷ 116 ∷ 40 ∷ 102 ∷ 97 ∷ 108 ∷ 115 ∷ 101 ∷ 41 ∷ []) ≡ Some (path_or (variable (codes "r3")) ((codes "stdout") ∷ []) (literal (boolean false)))
text_1670 = refl

text_1671 : expression_of (114 ∷ 51 ∷ 46 ∷ 115 ∷ 116 ∷ 100 ∷ 111 ∷ 117 ∷ 116 ∷ 32 ∷ 124 ∷ 32 ∷ 100 ∷ 101 ∷ 102 ∷ 97 ∷ 117 ∷ 108 ∷ 116 ∷ 40 ∷ 116 ∷ 114 ∷ 117 ∷ 101 ∷ 41 ∷ 32 ∷ 61 ∷ 61 ∷ 32 ∷ 116 ∷ 114 ∷ 117 ∷ 101 ∷ []) ≡ Some (comparison equal (path_or (variable (codes "r3")) ((codes "stdout") ∷ []) (literal (boolean true))) (literal (boolean true)))
text_1671 = refl

text_1672 : expression_of (codes "r3.stdout_lines == 1") ≡ Some (comparison equal (path (variable (codes "r3")) ((codes "stdout_lines") ∷ [])) (literal (int (pos 1))))
text_1672 = refl

text_1673 : expression_of (codes "r3.stdout_lines is defined") ≡ Some (defined (variable (codes "r3")) ((codes "stdout_lines") ∷ []))
text_1673 = refl

text_1674 : expression_of (114 ∷ 51 ∷ 46 ∷ 115 ∷ 116 ∷ 100 ∷ 111 ∷ 117 ∷ 116 ∷ 95 ∷ 108 ∷ 105 ∷ 110 ∷ 101 ∷ 115 ∷ 32 ∷ 124 ∷ 32 ∷ 100 ∷ 101 ∷ 102 ∷ 97 ∷ 117 ∷ 108 ∷ 116 ∷ 40 ∷ 116 ∷ 114 ∷ 117 ∷ 101 ∷ 41 ∷ 32 ∷ 61 ∷ 61 ∷ 32 ∷ 116 ∷ 114 ∷ 117 ∷ 101 ∷ []) ≡ Some (comparison equal (path_or (variable (codes "r3")) ((codes "stdout_lines") ∷ []) (literal (boolean true))) (literal (boolean true)))
text_1674 = refl

text_1675 : expression_of (codes "r3.why == 1") ≡ Some (comparison equal (path (variable (codes "r3")) ((codes "why") ∷ [])) (literal (int (pos 1))))
text_1675 = refl

text_1676 : expression_of (codes "r3.why is defined") ≡ Some (defined (variable (codes "r3")) ((codes "why") ∷ []))
text_1676 = refl

text_1677 : expression_of (114 ∷ 51 ∷ 46 ∷ 119 ∷ 104 ∷ 121 ∷ 32 ∷ 124 ∷ 32 ∷ 100 ∷ 101 ∷ 102 ∷ 97 ∷ 117 ∷ 108 ∷ 116 ∷ 40 ∷ 116 ∷ 114 ∷ 117 ∷ 101 ∷ 41 ∷ 32 ∷ 61 ∷ 61 ∷ 32 ∷ 116 ∷ 114 ∷ 117 ∷ 101 ∷ []) ≡ Some (comparison equal (path_or (variable (codes "r3")) ((codes "why") ∷ []) (literal (boolean true))) (literal (boolean true)))
text_1677 = refl

text_1678 : expression_of (codes "s is changed") ≡ Some (path_status is_changed (variable (codes "s")) ([]))
text_1678 = refl

text_1679 : expression_of (codes "s is failed") ≡ Some (path_status is_failed (variable (codes "s")) ([]))
text_1679 = refl

text_1680 : expression_of (codes "s.changed") ≡ Some (path (variable (codes "s")) ((codes "changed") ∷ []))
text_1680 = refl

text_1681 : expression_of (codes "s.changed < 3") ≡ Some (comparison less (path (variable (codes "s")) ((codes "changed") ∷ [])) (literal (int (pos 3))))
text_1681 = refl

text_1682 : expression_of (codes "s.changed == 1") ≡ Some (comparison equal (path (variable (codes "s")) ((codes "changed") ∷ [])) (literal (int (pos 1))))
text_1682 = refl

text_1683 : expression_of (codes "s.changed is changed") ≡ Some (path_status is_changed (variable (codes "s")) ((codes "changed") ∷ []))
text_1683 = refl

text_1684 : expression_of (codes "s.changed is defined") ≡ Some (defined (variable (codes "s")) ((codes "changed") ∷ []))
text_1684 = refl

text_1685 : expression_of (codes "s.changed is succeeded") ≡ Some (negation (path_status is_failed (variable (codes "s")) ((codes "changed") ∷ [])))
text_1685 = refl

text_1686 : expression_of (codes "s.hostname == 1") ≡ Some (comparison equal (path (variable (codes "s")) ((codes "hostname") ∷ [])) (literal (int (pos 1))))
text_1686 = refl

text_1687 : expression_of (codes "s.msg is skipped") ≡ Some (path_status is_skipped (variable (codes "s")) ((codes "msg") ∷ []))
text_1687 = refl

text_1688 : expression_of (codes "s.os_family < 3") ≡ Some (comparison less (path (variable (codes "s")) ((codes "os_family") ∷ [])) (literal (int (pos 3))))
text_1688 = refl

text_1689 : expression_of (codes "s.rc is succeeded") ≡ Some (negation (path_status is_failed (variable (codes "s")) ((codes "rc") ∷ [])))
text_1689 = refl

text_1690 : expression_of (codes "s.results < 3") ≡ Some (comparison less (path (variable (codes "s")) ((codes "results") ∷ [])) (literal (int (pos 3))))
text_1690 = refl

text_1691 : expression_of (codes "s.stat.isdir is failed") ≡ Some (path_status is_failed (variable (codes "s")) ((codes "stat") ∷ (codes "isdir") ∷ []))
text_1691 = refl

text_1692 : expression_of (codes "s1 != 1") ≡ Some (negation (comparison equal (path (variable (codes "s1")) ([])) (literal (int (pos 1)))))
text_1692 = refl

text_1693 : expression_of (115 ∷ 49 ∷ 32 ∷ 33 ∷ 61 ∷ 32 ∷ 91 ∷ 49 ∷ 93 ∷ []) ≡ Some (negation (comparison equal (path (variable (codes "s1")) ([])) (list_of (expression (literal (int (pos 1))) (no_expressions)))))
text_1693 = refl

text_1694 : expression_of (codes "s1 != true") ≡ Some (negation (comparison equal (path (variable (codes "s1")) ([])) (literal (boolean true))))
text_1694 = refl

text_1695 : expression_of (codes "s1 == true") ≡ Some (comparison equal (path (variable (codes "s1")) ([])) (literal (boolean true)))
text_1695 = refl

text_1696 : expression_of (codes "s1 is defined") ≡ Some (defined (variable (codes "s1")) ([]))
text_1696 = refl

text_1697 : expression_of (codes "s1 is failed") ≡ Some (path_status is_failed (variable (codes "s1")) ([]))
text_1697 = refl

text_1698 : expression_of (codes "s1 is not defined") ≡ Some (negation (defined (variable (codes "s1")) ([])))
text_1698 = refl

text_1699 : expression_of (codes "s1 is not failed") ≡ Some (negation (path_status is_failed (variable (codes "s1")) ([])))
text_1699 = refl

text_1700 : expression_of (codes "s1 is succeeded") ≡ Some (negation (path_status is_failed (variable (codes "s1")) ([])))
text_1700 = refl

text_1701 : expression_of (codes "s1 is undefined") ≡ Some (negation (defined (variable (codes "s1")) ([])))
text_1701 = refl

text_1702 : expression_of (115 ∷ 49 ∷ 32 ∷ 124 ∷ 32 ∷ 100 ∷ 101 ∷ 102 ∷ 97 ∷ 117 ∷ 108 ∷ 116 ∷ 40 ∷ 102 ∷ 97 ∷ 108 ∷ 115 ∷ 101 ∷ 41 ∷ []) ≡ Some (path_or (variable (codes "s1")) ([]) (literal (boolean false)))
text_1702 = refl

text_1703 : expression_of (codes "s1.changed") ≡ Some (path (variable (codes "s1")) ((codes "changed") ∷ []))
text_1703 = refl

text_1704 : expression_of (codes "s1.changed is not defined") ≡ Some (negation (defined (variable (codes "s1")) ((codes "changed") ∷ [])))
text_1704 = refl

text_1705 : expression_of (codes "s1.f != 1") ≡ Some (negation (comparison equal (path (variable (codes "s1")) ((codes "f") ∷ [])) (literal (int (pos 1)))))
text_1705 = refl

text_1706 : expression_of (codes "s1.f is undefined") ≡ Some (negation (defined (variable (codes "s1")) ((codes "f") ∷ [])))
text_1706 = refl

text_1707 : expression_of (codes "s1.failed") ≡ Some (path (variable (codes "s1")) ((codes "failed") ∷ []))
text_1707 = refl

text_1708 : expression_of (codes "s1.g is not defined") ≡ Some (negation (defined (variable (codes "s1")) ((codes "g") ∷ [])))
text_1708 = refl

text_1709 : expression_of (codes "s1.rc is defined") ≡ Some (defined (variable (codes "s1")) ((codes "rc") ∷ []))
text_1709 = refl

text_1710 : expression_of (codes "s1.rc is undefined") ≡ Some (negation (defined (variable (codes "s1")) ((codes "rc") ∷ [])))
text_1710 = refl

text_1711 : expression_of (115 ∷ 49 ∷ 46 ∷ 114 ∷ 99 ∷ 32 ∷ 124 ∷ 32 ∷ 100 ∷ 101 ∷ 102 ∷ 97 ∷ 117 ∷ 108 ∷ 116 ∷ 40 ∷ 102 ∷ 97 ∷ 108 ∷ 115 ∷ 101 ∷ 41 ∷ []) ≡ Some (path_or (variable (codes "s1")) ((codes "rc") ∷ []) (literal (boolean false)))
text_1711 = refl

text_1712 : expression_of (codes "s1.stdout is defined") ≡ Some (defined (variable (codes "s1")) ((codes "stdout") ∷ []))
text_1712 = refl

text_1713 : expression_of (115 ∷ 49 ∷ 46 ∷ 115 ∷ 116 ∷ 100 ∷ 111 ∷ 117 ∷ 116 ∷ 32 ∷ 124 ∷ 32 ∷ 100 ∷ 101 ∷ 102 ∷ 97 ∷ 117 ∷ 108 ∷ 116 ∷ 40 ∷ 102 ∷ 97 ∷ 108 ∷ 115 ∷ 101 ∷ 41 ∷ []) ≡ Some (path_or (variable (codes "s1")) ((codes "stdout") ∷ []) (literal (boolean false)))
text_1713 = refl

text_1714 : expression_of (115 ∷ 50 ∷ 32 ∷ 33 ∷ 61 ∷ 32 ∷ 91 ∷ 49 ∷ 93 ∷ []) ≡ Some (negation (comparison equal (path (variable (codes "s2")) ([])) (list_of (expression (literal (int (pos 1))) (no_expressions)))))
text_1714 = refl

text_1715 : expression_of (codes "s2 == true") ≡ Some (comparison equal (path (variable (codes "s2")) ([])) (literal (boolean true)))
text_1715 = refl

text_1716 : expression_of (codes "s2 is defined") ≡ Some (defined (variable (codes "s2")) ([]))
text_1716 = refl

text_1717 : expression_of (codes "s2 is not defined") ≡ Some (negation (defined (variable (codes "s2")) ([])))
text_1717 = refl

text_1718 : expression_of (codes "s2 is succeeded") ≡ Some (negation (path_status is_failed (variable (codes "s2")) ([])))
text_1718 = refl

text_1719 : expression_of (115 ∷ 50 ∷ 32 ∷ 124 ∷ 32 ∷ 100 ∷ 101 ∷ 102 ∷ 97 ∷ 117 ∷ 108 ∷ 116 ∷ 40 ∷ 102 ∷ 97 ∷ 108 ∷ 115 ∷ 101 ∷ 41 ∷ []) ≡ Some (path_or (variable (codes "s2")) ([]) (literal (boolean false)))
text_1719 = refl

text_1720 : expression_of (codes "s2.changed is defined") ≡ Some (defined (variable (codes "s2")) ((codes "changed") ∷ []))
text_1720 = refl

text_1721 : expression_of (codes "s2.f is not defined") ≡ Some (negation (defined (variable (codes "s2")) ((codes "f") ∷ [])))
text_1721 = refl

text_1722 : expression_of (115 ∷ 50 ∷ 46 ∷ 102 ∷ 32 ∷ 124 ∷ 32 ∷ 100 ∷ 101 ∷ 102 ∷ 97 ∷ 117 ∷ 108 ∷ 116 ∷ 40 ∷ 102 ∷ 97 ∷ 108 ∷ 115 ∷ 101 ∷ 41 ∷ []) ≡ Some (path_or (variable (codes "s2")) ((codes "f") ∷ []) (literal (boolean false)))
text_1722 = refl

text_1723 : expression_of (codes "s2.g is undefined") ≡ Some (negation (defined (variable (codes "s2")) ((codes "g") ∷ [])))
text_1723 = refl

text_1724 : expression_of (115 ∷ 50 ∷ 46 ∷ 114 ∷ 99 ∷ 32 ∷ 124 ∷ 32 ∷ 100 ∷ 101 ∷ 102 ∷ 97 ∷ 117 ∷ 108 ∷ 116 ∷ 40 ∷ 102 ∷ 97 ∷ 108 ∷ 115 ∷ 101 ∷ 41 ∷ []) ≡ Some (path_or (variable (codes "s2")) ((codes "rc") ∷ []) (literal (boolean false)))
text_1724 = refl

text_1725 : expression_of (115 ∷ 51 ∷ 32 ∷ 33 ∷ 61 ∷ 32 ∷ 91 ∷ 49 ∷ 93 ∷ []) ≡ Some (negation (comparison equal (path (variable (codes "s3")) ([])) (list_of (expression (literal (int (pos 1))) (no_expressions)))))
text_1725 = refl

text_1726 : expression_of (codes "s3 == 1") ≡ Some (comparison equal (path (variable (codes "s3")) ([])) (literal (int (pos 1))))
text_1726 = refl

text_1727 : expression_of (codes "s3 is defined") ≡ Some (defined (variable (codes "s3")) ([]))
text_1727 = refl

text_1728 : expression_of (codes "s3 is not defined") ≡ Some (negation (defined (variable (codes "s3")) ([])))
text_1728 = refl

text_1729 : expression_of (codes "s3 is not skipped") ≡ Some (negation (path_status is_skipped (variable (codes "s3")) ([])))
text_1729 = refl

text_1730 : expression_of (codes "s3 is undefined") ≡ Some (negation (defined (variable (codes "s3")) ([])))
text_1730 = refl

text_1731 : expression_of (115 ∷ 51 ∷ 32 ∷ 124 ∷ 32 ∷ 100 ∷ 101 ∷ 102 ∷ 97 ∷ 117 ∷ 108 ∷ 116 ∷ 40 ∷ 102 ∷ 97 ∷ 108 ∷ 115 ∷ 101 ∷ 41 ∷ []) ≡ Some (path_or (variable (codes "s3")) ([]) (literal (boolean false)))
text_1731 = refl

text_1732 : expression_of (codes "s3.changed is defined") ≡ Some (defined (variable (codes "s3")) ((codes "changed") ∷ []))
text_1732 = refl

text_1733 : expression_of (codes "s3.changed is not defined") ≡ Some (negation (defined (variable (codes "s3")) ((codes "changed") ∷ [])))
text_1733 = refl

text_1734 : expression_of (codes "s3.f is defined") ≡ Some (defined (variable (codes "s3")) ((codes "f") ∷ []))
text_1734 = refl

text_1735 : expression_of (115 ∷ 51 ∷ 46 ∷ 102 ∷ 32 ∷ 124 ∷ 32 ∷ 100 ∷ 101 ∷ 102 ∷ 97 ∷ 117 ∷ 108 ∷ 116 ∷ 40 ∷ 102 ∷ 97 ∷ 108 ∷ 115 ∷ 101 ∷ 41 ∷ []) ≡ Some (path_or (variable (codes "s3")) ((codes "f") ∷ []) (literal (boolean false)))
text_1735 = refl

text_1736 : expression_of (codes "s3.g is defined") ≡ Some (defined (variable (codes "s3")) ((codes "g") ∷ []))
text_1736 = refl

text_1737 : expression_of (codes "s3.stdout is undefined") ≡ Some (negation (defined (variable (codes "s3")) ((codes "stdout") ∷ [])))
text_1737 = refl

text_1738 : expression_of (codes "true") ≡ Some (literal (boolean true))
text_1738 = refl

text_1739 : expression_of (codes "true == 1") ≡ Some (comparison equal (literal (boolean true)) (literal (int (pos 1))))
text_1739 = refl

text_1740 : expression_of (codes "true)") ≡ None
text_1740 = refl

text_1741 : expression_of (codes "true.a") ≡ None
text_1741 = refl

text_1742 : expression_of (codes "v") ≡ Some (path (variable (codes "v")) ([]))
text_1742 = refl

text_1743 : expression_of (codes "v1 is not skipped") ≡ Some (negation (path_status is_skipped (variable (codes "v1")) ([])))
text_1743 = refl

text_1744 : expression_of (codes "v1 is succeeded") ≡ Some (negation (path_status is_failed (variable (codes "v1")) ([])))
text_1744 = refl

text_1745 : expression_of (118 ∷ 49 ∷ 32 ∷ 124 ∷ 32 ∷ 100 ∷ 101 ∷ 102 ∷ 97 ∷ 117 ∷ 108 ∷ 116 ∷ 40 ∷ 102 ∷ 97 ∷ 108 ∷ 115 ∷ 101 ∷ 41 ∷ []) ≡ Some (path_or (variable (codes "v1")) ([]) (literal (boolean false)))
text_1745 = refl

text_1746 : expression_of (codes "v1.g != true") ≡ Some (negation (comparison equal (path (variable (codes "v1")) ((codes "g") ∷ [])) (literal (boolean true))))
text_1746 = refl

text_1747 : expression_of (codes "v1.g is undefined") ≡ Some (negation (defined (variable (codes "v1")) ((codes "g") ∷ [])))
text_1747 = refl

text_1748 : expression_of (codes "v1.rc is failed") ≡ Some (path_status is_failed (variable (codes "v1")) ((codes "rc") ∷ []))
text_1748 = refl

text_1749 : expression_of (codes "v1.results is skipped") ≡ Some (path_status is_skipped (variable (codes "v1")) ((codes "results") ∷ []))
text_1749 = refl
