-- The trees of expressions of cases, computed.
use Rattle.std.specs.Prelude.{◌≡◌, refl, pos, [], ◌∷◌, true, false, Some, codes}
use Rattle.pb_semantics.specs.Data.{boolean, int, null}
use Rattle.pb_language.specs.Expression.{equal, less, is_failed, is_changed, is_skipped, this_host, item_host, literal, path, negation, conjunction, disjunction, comparison, membership, in_batch, defined, path_status, path_or, length_of, list_of, variable, no_expressions, expression}
use Rattle.pb_language.specs.Grammar.{expression_of}

text_500 : expression_of (codes " inv.stdout_lines ") ≡ Some (path (variable (codes "inv")) ((codes "stdout_lines") ∷ []))
text_500 = refl

text_501 : expression_of (codes " inventory_hostname ") ≡ Some (path (variable (codes "inventory_hostname")) ([]))
text_501 = refl

text_502 : expression_of (codes " inventory_hostname in ansible_play_batch ") ≡ Some (in_batch this_host)
text_502 = refl

text_503 : expression_of (codes " inventory_hostname is changed ") ≡ Some (path_status is_changed (variable (codes "inventory_hostname")) ([]))
text_503 = refl

text_504 : expression_of (32 ∷ 105 ∷ 110 ∷ 118 ∷ 101 ∷ 110 ∷ 116 ∷ 111 ∷ 114 ∷ 121 ∷ 95 ∷ 104 ∷ 111 ∷ 115 ∷ 116 ∷ 110 ∷ 97 ∷ 109 ∷ 101 ∷ 32 ∷ 124 ∷ 32 ∷ 100 ∷ 101 ∷ 102 ∷ 97 ∷ 117 ∷ 108 ∷ 116 ∷ 40 ∷ 49 ∷ 41 ∷ 32 ∷ []) ≡ Some (path_or (variable (codes "inventory_hostname")) ([]) (literal (int (pos 1))))
text_504 = refl

text_505 : expression_of (32 ∷ 105 ∷ 110 ∷ 118 ∷ 101 ∷ 110 ∷ 116 ∷ 111 ∷ 114 ∷ 121 ∷ 95 ∷ 104 ∷ 111 ∷ 115 ∷ 116 ∷ 110 ∷ 97 ∷ 109 ∷ 101 ∷ 32 ∷ 124 ∷ 32 ∷ 100 ∷ 101 ∷ 102 ∷ 97 ∷ 117 ∷ 108 ∷ 116 ∷ 40 ∷ 91 ∷ 93 ∷ 41 ∷ 32 ∷ []) ≡ Some (path_or (variable (codes "inventory_hostname")) ([]) (list_of (no_expressions)))
text_505 = refl

text_506 : expression_of (32 ∷ 105 ∷ 110 ∷ 118 ∷ 101 ∷ 110 ∷ 116 ∷ 111 ∷ 114 ∷ 121 ∷ 95 ∷ 104 ∷ 111 ∷ 115 ∷ 116 ∷ 110 ∷ 97 ∷ 109 ∷ 101 ∷ 32 ∷ 124 ∷ 32 ∷ 100 ∷ 101 ∷ 102 ∷ 97 ∷ 117 ∷ 108 ∷ 116 ∷ 40 ∷ 115 ∷ 49 ∷ 41 ∷ 32 ∷ []) ≡ Some (path_or (variable (codes "inventory_hostname")) ([]) (path (variable (codes "s1")) ([])))
text_506 = refl

text_507 : expression_of (32 ∷ 105 ∷ 110 ∷ 118 ∷ 101 ∷ 110 ∷ 116 ∷ 111 ∷ 114 ∷ 121 ∷ 95 ∷ 104 ∷ 111 ∷ 115 ∷ 116 ∷ 110 ∷ 97 ∷ 109 ∷ 101 ∷ 32 ∷ 124 ∷ 32 ∷ 108 ∷ 101 ∷ 110 ∷ 103 ∷ 116 ∷ 104 ∷ 32 ∷ []) ≡ Some (length_of (path (variable (codes "inventory_hostname")) ([])))
text_507 = refl

text_508 : expression_of (codes " inventory_hostname.changed ") ≡ Some (path (variable (codes "inventory_hostname")) ((codes "changed") ∷ []))
text_508 = refl

text_509 : expression_of (32 ∷ 105 ∷ 110 ∷ 118 ∷ 101 ∷ 110 ∷ 116 ∷ 111 ∷ 114 ∷ 121 ∷ 95 ∷ 104 ∷ 111 ∷ 115 ∷ 116 ∷ 110 ∷ 97 ∷ 109 ∷ 101 ∷ 46 ∷ 104 ∷ 111 ∷ 115 ∷ 116 ∷ 110 ∷ 97 ∷ 109 ∷ 101 ∷ 32 ∷ 124 ∷ 32 ∷ 108 ∷ 101 ∷ 110 ∷ 103 ∷ 116 ∷ 104 ∷ 32 ∷ []) ≡ Some (length_of (path (variable (codes "inventory_hostname")) ((codes "hostname") ∷ [])))
text_509 = refl

text_510 : expression_of (codes " inventory_hostname.k ") ≡ Some (path (variable (codes "inventory_hostname")) ((codes "k") ∷ []))
text_510 = refl

text_511 : expression_of (32 ∷ 105 ∷ 110 ∷ 118 ∷ 101 ∷ 110 ∷ 116 ∷ 111 ∷ 114 ∷ 121 ∷ 95 ∷ 104 ∷ 111 ∷ 115 ∷ 116 ∷ 110 ∷ 97 ∷ 109 ∷ 101 ∷ 46 ∷ 107 ∷ 32 ∷ 124 ∷ 32 ∷ 100 ∷ 101 ∷ 102 ∷ 97 ∷ 117 ∷ 108 ∷ 116 ∷ 40 ∷ 49 ∷ 41 ∷ 32 ∷ []) ≡ Some (path_or (variable (codes "inventory_hostname")) ((codes "k") ∷ []) (literal (int (pos 1))))
text_511 = refl

text_512 : expression_of (codes " inventory_hostname.msg ") ≡ Some (path (variable (codes "inventory_hostname")) ((codes "msg") ∷ []))
text_512 = refl

text_513 : expression_of (codes " inventory_hostname.os_family ") ≡ Some (path (variable (codes "inventory_hostname")) ((codes "os_family") ∷ []))
text_513 = refl

text_514 : expression_of (codes " inventory_hostname.rc ") ≡ Some (path (variable (codes "inventory_hostname")) ((codes "rc") ∷ []))
text_514 = refl

text_515 : expression_of (codes " inventory_hostname.results ") ≡ Some (path (variable (codes "inventory_hostname")) ((codes "results") ∷ []))
text_515 = refl

text_516 : expression_of (32 ∷ 105 ∷ 110 ∷ 118 ∷ 101 ∷ 110 ∷ 116 ∷ 111 ∷ 114 ∷ 121 ∷ 95 ∷ 104 ∷ 111 ∷ 115 ∷ 116 ∷ 110 ∷ 97 ∷ 109 ∷ 101 ∷ 46 ∷ 115 ∷ 116 ∷ 97 ∷ 116 ∷ 46 ∷ 105 ∷ 115 ∷ 100 ∷ 105 ∷ 114 ∷ 32 ∷ 124 ∷ 32 ∷ 108 ∷ 101 ∷ 110 ∷ 103 ∷ 116 ∷ 104 ∷ 32 ∷ []) ≡ Some (length_of (path (variable (codes "inventory_hostname")) ((codes "stat") ∷ (codes "isdir") ∷ [])))
text_516 = refl

text_517 : expression_of (codes " inventory_hostname.stdout ") ≡ Some (path (variable (codes "inventory_hostname")) ((codes "stdout") ∷ []))
text_517 = refl

text_518 : expression_of (codes " item ") ≡ Some (path (variable (codes "item")) ([]))
text_518 = refl

text_519 : expression_of (codes " item in ansible_play_batch ") ≡ Some (in_batch item_host)
text_519 = refl

text_520 : expression_of (32 ∷ 105 ∷ 116 ∷ 101 ∷ 109 ∷ 32 ∷ 124 ∷ 32 ∷ 108 ∷ 101 ∷ 110 ∷ 103 ∷ 116 ∷ 104 ∷ 32 ∷ []) ≡ Some (length_of (path (variable (codes "item")) ([])))
text_520 = refl

text_521 : expression_of (codes " item.changed ") ≡ Some (path (variable (codes "item")) ((codes "changed") ∷ []))
text_521 = refl

text_522 : expression_of (codes " item.f ") ≡ Some (path (variable (codes "item")) ((codes "f") ∷ []))
text_522 = refl

text_523 : expression_of (32 ∷ 105 ∷ 116 ∷ 101 ∷ 109 ∷ 46 ∷ 102 ∷ 32 ∷ 124 ∷ 32 ∷ 100 ∷ 101 ∷ 102 ∷ 97 ∷ 117 ∷ 108 ∷ 116 ∷ 40 ∷ 49 ∷ 41 ∷ 32 ∷ []) ≡ Some (path_or (variable (codes "item")) ((codes "f") ∷ []) (literal (int (pos 1))))
text_523 = refl

text_524 : expression_of (codes " item.hostname ") ≡ Some (path (variable (codes "item")) ((codes "hostname") ∷ []))
text_524 = refl

text_525 : expression_of (codes " item.k ") ≡ Some (path (variable (codes "item")) ((codes "k") ∷ []))
text_525 = refl

text_526 : expression_of (codes " item.rc ") ≡ Some (path (variable (codes "item")) ((codes "rc") ∷ []))
text_526 = refl

text_527 : expression_of (32 ∷ 105 ∷ 116 ∷ 101 ∷ 109 ∷ 46 ∷ 114 ∷ 99 ∷ 32 ∷ 124 ∷ 32 ∷ 100 ∷ 101 ∷ 102 ∷ 97 ∷ 117 ∷ 108 ∷ 116 ∷ 40 ∷ 91 ∷ 93 ∷ 41 ∷ 32 ∷ []) ≡ Some (path_or (variable (codes "item")) ((codes "rc") ∷ []) (list_of (no_expressions)))
text_527 = refl

text_528 : expression_of (32 ∷ 105 ∷ 116 ∷ 101 ∷ 109 ∷ 46 ∷ 114 ∷ 99 ∷ 32 ∷ 124 ∷ 32 ∷ 100 ∷ 101 ∷ 102 ∷ 97 ∷ 117 ∷ 108 ∷ 116 ∷ 40 ∷ 115 ∷ 49 ∷ 41 ∷ 32 ∷ []) ≡ Some (path_or (variable (codes "item")) ((codes "rc") ∷ []) (path (variable (codes "s1")) ([])))
text_528 = refl

text_529 : expression_of (32 ∷ 105 ∷ 116 ∷ 101 ∷ 109 ∷ 46 ∷ 114 ∷ 99 ∷ 32 ∷ 124 ∷ 32 ∷ 108 ∷ 101 ∷ 110 ∷ 103 ∷ 116 ∷ 104 ∷ 32 ∷ []) ≡ Some (length_of (path (variable (codes "item")) ((codes "rc") ∷ [])))
text_529 = refl

text_530 : expression_of (codes " item.results ") ≡ Some (path (variable (codes "item")) ((codes "results") ∷ []))
text_530 = refl

text_531 : expression_of (32 ∷ 105 ∷ 116 ∷ 101 ∷ 109 ∷ 46 ∷ 114 ∷ 101 ∷ 115 ∷ 117 ∷ 108 ∷ 116 ∷ 115 ∷ 32 ∷ 124 ∷ 32 ∷ 100 ∷ 101 ∷ 102 ∷ 97 ∷ 117 ∷ 108 ∷ 116 ∷ 40 ∷ 49 ∷ 41 ∷ 32 ∷ []) ≡ Some (path_or (variable (codes "item")) ((codes "results") ∷ []) (literal (int (pos 1))))
text_531 = refl

text_532 : expression_of (codes " item.skipped ") ≡ Some (path (variable (codes "item")) ((codes "skipped") ∷ []))
text_532 = refl

text_533 : expression_of (32 ∷ 105 ∷ 116 ∷ 101 ∷ 109 ∷ 46 ∷ 115 ∷ 107 ∷ 105 ∷ 112 ∷ 112 ∷ 101 ∷ 100 ∷ 32 ∷ 124 ∷ 32 ∷ 100 ∷ 101 ∷ 102 ∷ 97 ∷ 117 ∷ 108 ∷ 116 ∷ 40 ∷ 49 ∷ 41 ∷ 32 ∷ []) ≡ Some (path_or (variable (codes "item")) ((codes "skipped") ∷ []) (literal (int (pos 1))))
text_533 = refl

text_534 : expression_of (32 ∷ 105 ∷ 116 ∷ 101 ∷ 109 ∷ 46 ∷ 115 ∷ 107 ∷ 105 ∷ 112 ∷ 112 ∷ 101 ∷ 100 ∷ 32 ∷ 124 ∷ 32 ∷ 100 ∷ 101 ∷ 102 ∷ 97 ∷ 117 ∷ 108 ∷ 116 ∷ 40 ∷ 115 ∷ 49 ∷ 41 ∷ 32 ∷ []) ≡ Some (path_or (variable (codes "item")) ((codes "skipped") ∷ []) (path (variable (codes "s1")) ([])))
text_534 = refl

text_535 : expression_of (codes " item.stdout ") ≡ Some (path (variable (codes "item")) ((codes "stdout") ∷ []))
text_535 = refl

text_536 : expression_of (codes " item.stdout_lines ") ≡ Some (path (variable (codes "item")) ((codes "stdout_lines") ∷ []))
text_536 = refl

text_537 : expression_of (codes " n ") ≡ Some (path (variable (codes "n")) ([]))
text_537 = refl

text_538 : expression_of (codes " none ") ≡ Some (literal null)
text_538 = refl

text_539 : expression_of (codes " nope and r1.stderr ") ≡ Some (conjunction (expression (path (variable (codes "nope")) ([])) (expression (path (variable (codes "r1")) ((codes "stderr") ∷ [])) (no_expressions))))
text_539 = refl

text_540 : expression_of (codes " nope.x ") ≡ Some (path (variable (codes "nope")) ((codes "x") ∷ []))
text_540 = refl

text_541 : expression_of (codes " nope.x and inventory_hostname ") ≡ Some (conjunction (expression (path (variable (codes "nope")) ((codes "x") ∷ [])) (expression (path (variable (codes "inventory_hostname")) ([])) (no_expressions))))
text_541 = refl

text_542 : expression_of (codes " not (ansible_play_batch.stdout is skipped) ") ≡ Some (negation (path_status is_skipped (variable (codes "ansible_play_batch")) ((codes "stdout") ∷ [])))
text_542 = refl

text_543 : expression_of (codes " not (group_names is not defined) ") ≡ Some (negation (negation (defined (variable (codes "group_names")) ([]))))
text_543 = refl

text_544 : expression_of (codes " not (group_names.rc is failed) ") ≡ Some (negation (path_status is_failed (variable (codes "group_names")) ((codes "rc") ∷ [])))
text_544 = refl

text_545 : expression_of (codes " not (groups.g is succeeded) ") ≡ Some (negation (negation (path_status is_failed (variable (codes "groups")) ((codes "g") ∷ []))))
text_545 = refl

text_546 : expression_of (codes " not (item is defined) ") ≡ Some (negation (defined (variable (codes "item")) ([])))
text_546 = refl

text_547 : expression_of (codes " not (not s1.failed) ") ≡ Some (negation (negation (path (variable (codes "s1")) ((codes "failed") ∷ []))))
text_547 = refl

text_548 : expression_of (codes " not (r.stat.isdir < 3) ") ≡ Some (negation (comparison less (path (variable (codes "r")) ((codes "stat") ∷ (codes "isdir") ∷ [])) (literal (int (pos 3)))))
text_548 = refl

text_549 : expression_of (codes " not 9223372036854775807 ") ≡ Some (negation (literal (int (pos 9223372036854775807))))
text_549 = refl

text_550 : expression_of (codes " not True ") ≡ Some (negation (literal (boolean true)))
text_550 = refl

text_551 : expression_of (codes " not not False ") ≡ Some (negation (negation (literal (boolean false))))
text_551 = refl

text_552 : expression_of (codes " not r1.failed and r1.changed ") ≡ Some (conjunction (expression (negation (path (variable (codes "r1")) ((codes "failed") ∷ []))) (expression (path (variable (codes "r1")) ((codes "changed") ∷ [])) (no_expressions))))
text_552 = refl

text_553 : expression_of (codes " not r2.failed and r2.changed ") ≡ Some (conjunction (expression (negation (path (variable (codes "r2")) ((codes "failed") ∷ []))) (expression (path (variable (codes "r2")) ((codes "changed") ∷ [])) (no_expressions))))
text_553 = refl

text_554 : expression_of (codes " not r3.f or ((group_names)) ") ≡ Some (disjunction (expression (negation (path (variable (codes "r3")) ((codes "f") ∷ []))) (expression (path (variable (codes "group_names")) ([])) (no_expressions))))
text_554 = refl

text_555 : expression_of (codes " not r3.failed and r3.changed ") ≡ Some (conjunction (expression (negation (path (variable (codes "r3")) ((codes "failed") ∷ []))) (expression (path (variable (codes "r3")) ((codes "changed") ∷ [])) (no_expressions))))
text_555 = refl

text_556 : expression_of (codes " not r3.failed not in r3.rc ") ≡ Some (negation (negation (membership (path (variable (codes "r3")) ((codes "failed") ∷ [])) (path (variable (codes "r3")) ((codes "rc") ∷ [])))))
text_556 = refl

text_557 : expression_of (codes " not s3 and s3.f ") ≡ Some (conjunction (expression (negation (path (variable (codes "s3")) ([]))) (expression (path (variable (codes "s3")) ((codes "f") ∷ [])) (no_expressions))))
text_557 = refl

text_558 : expression_of (codes " not true ") ≡ Some (negation (literal (boolean true)))
text_558 = refl

text_559 : expression_of (codes " o.msg ") ≡ Some (path (variable (codes "o")) ((codes "msg") ∷ []))
text_559 = refl

text_560 : expression_of (codes " op ") ≡ Some (path (variable (codes "op")) ([]))
text_560 = refl

text_561 : expression_of (32 ∷ 111 ∷ 112 ∷ 32 ∷ 124 ∷ 32 ∷ 100 ∷ 101 ∷ 102 ∷ 97 ∷ 117 ∷ 108 ∷ 116 ∷ 40 ∷ 91 ∷ 93 ∷ 41 ∷ 32 ∷ []) ≡ Some (path_or (variable (codes "op")) ([]) (list_of (no_expressions)))
text_561 = refl

text_562 : expression_of (32 ∷ 111 ∷ 112 ∷ 32 ∷ 124 ∷ 32 ∷ 100 ∷ 101 ∷ 102 ∷ 97 ∷ 117 ∷ 108 ∷ 116 ∷ 40 ∷ 115 ∷ 49 ∷ 41 ∷ 32 ∷ []) ≡ Some (path_or (variable (codes "op")) ([]) (path (variable (codes "s1")) ([])))
text_562 = refl

text_563 : expression_of (codes " op.changed ") ≡ Some (path (variable (codes "op")) ((codes "changed") ∷ []))
text_563 = refl

text_564 : expression_of (codes " op.f ") ≡ Some (path (variable (codes "op")) ((codes "f") ∷ []))
text_564 = refl

text_565 : expression_of (codes " op.g ") ≡ Some (path (variable (codes "op")) ((codes "g") ∷ []))
text_565 = refl

text_566 : expression_of (32 ∷ 111 ∷ 112 ∷ 46 ∷ 103 ∷ 32 ∷ 124 ∷ 32 ∷ 100 ∷ 101 ∷ 102 ∷ 97 ∷ 117 ∷ 108 ∷ 116 ∷ 40 ∷ 91 ∷ 93 ∷ 41 ∷ 32 ∷ []) ≡ Some (path_or (variable (codes "op")) ((codes "g") ∷ []) (list_of (no_expressions)))
text_566 = refl

text_567 : expression_of (32 ∷ 111 ∷ 112 ∷ 46 ∷ 103 ∷ 32 ∷ 124 ∷ 32 ∷ 100 ∷ 101 ∷ 102 ∷ 97 ∷ 117 ∷ 108 ∷ 116 ∷ 40 ∷ 115 ∷ 49 ∷ 41 ∷ 32 ∷ []) ≡ Some (path_or (variable (codes "op")) ((codes "g") ∷ []) (path (variable (codes "s1")) ([])))
text_567 = refl

text_568 : expression_of (32 ∷ 111 ∷ 112 ∷ 46 ∷ 114 ∷ 99 ∷ 32 ∷ 124 ∷ 32 ∷ 108 ∷ 101 ∷ 110 ∷ 103 ∷ 116 ∷ 104 ∷ 32 ∷ []) ≡ Some (length_of (path (variable (codes "op")) ((codes "rc") ∷ [])))
text_568 = refl

text_569 : expression_of (codes " op.stdout ") ≡ Some (path (variable (codes "op")) ((codes "stdout") ∷ []))
text_569 = refl

text_570 : expression_of (codes " opq ") ≡ Some (path (variable (codes "opq")) ([]))
text_570 = refl

text_571 : expression_of (codes " opq.changed ") ≡ Some (path (variable (codes "opq")) ((codes "changed") ∷ []))
text_571 = refl

text_572 : expression_of (codes " opq.changed is undefined ") ≡ Some (negation (defined (variable (codes "opq")) ((codes "changed") ∷ [])))
text_572 = refl

text_573 : expression_of (32 ∷ 111 ∷ 112 ∷ 113 ∷ 46 ∷ 104 ∷ 111 ∷ 115 ∷ 116 ∷ 110 ∷ 97 ∷ 109 ∷ 101 ∷ 32 ∷ 124 ∷ 32 ∷ 108 ∷ 101 ∷ 110 ∷ 103 ∷ 116 ∷ 104 ∷ 32 ∷ []) ≡ Some (length_of (path (variable (codes "opq")) ((codes "hostname") ∷ [])))
text_573 = refl

text_574 : expression_of (codes " opq.k ") ≡ Some (path (variable (codes "opq")) ((codes "k") ∷ []))
text_574 = refl

text_575 : expression_of (codes " opq.results ") ≡ Some (path (variable (codes "opq")) ((codes "results") ∷ []))
text_575 = refl

text_576 : expression_of (codes " opq.results is not skipped ") ≡ Some (negation (path_status is_skipped (variable (codes "opq")) ((codes "results") ∷ [])))
text_576 = refl

text_577 : expression_of (codes " opq.stdout ") ≡ Some (path (variable (codes "opq")) ((codes "stdout") ∷ []))
text_577 = refl

text_578 : expression_of (codes " opq.stdout_lines ") ≡ Some (path (variable (codes "opq")) ((codes "stdout_lines") ∷ []))
text_578 = refl

text_579 : expression_of (codes " out is skipped or out.rc == 0 ") ≡ Some (disjunction (expression (path_status is_skipped (variable (codes "out")) ([])) (expression (comparison equal (path (variable (codes "out")) ((codes "rc") ∷ [])) (literal (int (pos 0)))) (no_expressions))))
text_579 = refl

text_580 : expression_of (codes " out.msg ") ≡ Some (path (variable (codes "out")) ((codes "msg") ∷ []))
text_580 = refl

text_581 : expression_of (codes " out.rc ") ≡ Some (path (variable (codes "out")) ((codes "rc") ∷ []))
text_581 = refl

text_582 : expression_of (codes " out.results ") ≡ Some (path (variable (codes "out")) ((codes "results") ∷ []))
text_582 = refl

text_583 : expression_of (codes " out.stdout ") ≡ Some (path (variable (codes "out")) ((codes "stdout") ∷ []))
text_583 = refl

text_584 : expression_of (32 ∷ 114 ∷ 32 ∷ 124 ∷ 32 ∷ 108 ∷ 101 ∷ 110 ∷ 103 ∷ 116 ∷ 104 ∷ 32 ∷ []) ≡ Some (length_of (path (variable (codes "r")) ([])))
text_584 = refl

text_585 : expression_of (codes " r.changed ") ≡ Some (path (variable (codes "r")) ((codes "changed") ∷ []))
text_585 = refl

text_586 : expression_of (codes " r.changed == 1 ") ≡ Some (comparison equal (path (variable (codes "r")) ((codes "changed") ∷ [])) (literal (int (pos 1))))
text_586 = refl

text_587 : expression_of (32 ∷ 114 ∷ 46 ∷ 99 ∷ 104 ∷ 97 ∷ 110 ∷ 103 ∷ 101 ∷ 100 ∷ 32 ∷ 124 ∷ 32 ∷ 108 ∷ 101 ∷ 110 ∷ 103 ∷ 116 ∷ 104 ∷ 32 ∷ []) ≡ Some (length_of (path (variable (codes "r")) ((codes "changed") ∷ [])))
text_587 = refl

text_588 : expression_of (codes " r.failed ") ≡ Some (path (variable (codes "r")) ((codes "failed") ∷ []))
text_588 = refl

text_589 : expression_of (codes " r.failed is failed ") ≡ Some (path_status is_failed (variable (codes "r")) ((codes "failed") ∷ []))
text_589 = refl

text_590 : expression_of (32 ∷ 114 ∷ 46 ∷ 102 ∷ 97 ∷ 105 ∷ 108 ∷ 101 ∷ 100 ∷ 32 ∷ 124 ∷ 32 ∷ 100 ∷ 101 ∷ 102 ∷ 97 ∷ 117 ∷ 108 ∷ 116 ∷ 40 ∷ 91 ∷ 93 ∷ 41 ∷ 32 ∷ []) ≡ Some (path_or (variable (codes "r")) ((codes "failed") ∷ []) (list_of (no_expressions)))
text_590 = refl

text_591 : expression_of (32 ∷ 114 ∷ 46 ∷ 102 ∷ 97 ∷ 105 ∷ 108 ∷ 101 ∷ 100 ∷ 32 ∷ 124 ∷ 32 ∷ 108 ∷ 101 ∷ 110 ∷ 103 ∷ 116 ∷ 104 ∷ 32 ∷ []) ≡ Some (length_of (path (variable (codes "r")) ((codes "failed") ∷ [])))
text_591 = refl

text_592 : expression_of (codes " r.hostname ") ≡ Some (path (variable (codes "r")) ((codes "hostname") ∷ []))
text_592 = refl

text_593 : expression_of (codes " r.rc ") ≡ Some (path (variable (codes "r")) ((codes "rc") ∷ []))
text_593 = refl

text_594 : expression_of (codes " r.rc is changed ") ≡ Some (path_status is_changed (variable (codes "r")) ((codes "rc") ∷ []))
text_594 = refl

text_595 : expression_of (codes " r.rc is succeeded ") ≡ Some (negation (path_status is_failed (variable (codes "r")) ((codes "rc") ∷ [])))
text_595 = refl

text_596 : expression_of (32 ∷ 114 ∷ 46 ∷ 114 ∷ 99 ∷ 32 ∷ 124 ∷ 32 ∷ 100 ∷ 101 ∷ 102 ∷ 97 ∷ 117 ∷ 108 ∷ 116 ∷ 40 ∷ 103 ∷ 114 ∷ 111 ∷ 117 ∷ 112 ∷ 95 ∷ 110 ∷ 97 ∷ 109 ∷ 101 ∷ 115 ∷ 41 ∷ 32 ∷ []) ≡ Some (path_or (variable (codes "r")) ((codes "rc") ∷ []) (path (variable (codes "group_names")) ([])))
text_596 = refl

text_597 : expression_of (32 ∷ 114 ∷ 46 ∷ 114 ∷ 99 ∷ 32 ∷ 124 ∷ 32 ∷ 100 ∷ 101 ∷ 102 ∷ 97 ∷ 117 ∷ 108 ∷ 116 ∷ 40 ∷ 114 ∷ 46 ∷ 102 ∷ 97 ∷ 105 ∷ 108 ∷ 101 ∷ 100 ∷ 41 ∷ 32 ∷ []) ≡ Some (path_or (variable (codes "r")) ((codes "rc") ∷ []) (path (variable (codes "r")) ((codes "failed") ∷ [])))
text_597 = refl

text_598 : expression_of (32 ∷ 114 ∷ 46 ∷ 114 ∷ 99 ∷ 32 ∷ 124 ∷ 32 ∷ 100 ∷ 101 ∷ 102 ∷ 97 ∷ 117 ∷ 108 ∷ 116 ∷ 40 ∷ 118 ∷ 49 ∷ 46 ∷ 109 ∷ 115 ∷ 103 ∷ 41 ∷ 32 ∷ []) ≡ Some (path_or (variable (codes "r")) ((codes "rc") ∷ []) (path (variable (codes "v1")) ((codes "msg") ∷ [])))
text_598 = refl

text_599 : expression_of (32 ∷ 114 ∷ 46 ∷ 114 ∷ 99 ∷ 32 ∷ 124 ∷ 32 ∷ 108 ∷ 101 ∷ 110 ∷ 103 ∷ 116 ∷ 104 ∷ 32 ∷ []) ≡ Some (length_of (path (variable (codes "r")) ((codes "rc") ∷ [])))
text_599 = refl

text_600 : expression_of (codes " r.results ") ≡ Some (path (variable (codes "r")) ((codes "results") ∷ []))
text_600 = refl

text_601 : expression_of (32 ∷ 114 ∷ 46 ∷ 114 ∷ 101 ∷ 115 ∷ 117 ∷ 108 ∷ 116 ∷ 115 ∷ 32 ∷ 124 ∷ 32 ∷ 100 ∷ 101 ∷ 102 ∷ 97 ∷ 117 ∷ 108 ∷ 116 ∷ 40 ∷ 91 ∷ 93 ∷ 41 ∷ 32 ∷ []) ≡ Some (path_or (variable (codes "r")) ((codes "results") ∷ []) (list_of (no_expressions)))
text_601 = refl

text_602 : expression_of (32 ∷ 114 ∷ 46 ∷ 114 ∷ 101 ∷ 115 ∷ 117 ∷ 108 ∷ 116 ∷ 115 ∷ 32 ∷ 124 ∷ 32 ∷ 100 ∷ 101 ∷ 102 ∷ 97 ∷ 117 ∷ 108 ∷ 116 ∷ 40 ∷ 97 ∷ 110 ∷ 115 ∷ 105 ∷ 98 ∷ 108 ∷ 101 ∷ 95 ∷ 102 ∷ 97 ∷ 99 ∷ 116 ∷ 115 ∷ 46 ∷ 115 ∷ 116 ∷ 97 ∷ 116 ∷ 46 ∷ 105 ∷ 115 ∷ 100 ∷ 105 ∷ 114 ∷ 41 ∷ 32 ∷ []) ≡ Some (path_or (variable (codes "r")) ((codes "results") ∷ []) (path (variable (codes "ansible_facts")) ((codes "stat") ∷ (codes "isdir") ∷ [])))
text_602 = refl

text_603 : expression_of (32 ∷ 114 ∷ 46 ∷ 114 ∷ 101 ∷ 115 ∷ 117 ∷ 108 ∷ 116 ∷ 115 ∷ 32 ∷ 124 ∷ 32 ∷ 108 ∷ 101 ∷ 110 ∷ 103 ∷ 116 ∷ 104 ∷ 32 ∷ []) ≡ Some (length_of (path (variable (codes "r")) ((codes "results") ∷ [])))
text_603 = refl

text_604 : expression_of (32 ∷ 114 ∷ 46 ∷ 115 ∷ 116 ∷ 97 ∷ 116 ∷ 46 ∷ 105 ∷ 115 ∷ 100 ∷ 105 ∷ 114 ∷ 32 ∷ 124 ∷ 32 ∷ 108 ∷ 101 ∷ 110 ∷ 103 ∷ 116 ∷ 104 ∷ 32 ∷ []) ≡ Some (length_of (path (variable (codes "r")) ((codes "stat") ∷ (codes "isdir") ∷ [])))
text_604 = refl

text_605 : expression_of (codes " r.stdout ") ≡ Some (path (variable (codes "r")) ((codes "stdout") ∷ []))
text_605 = refl

text_606 : expression_of (codes " r.stdout is skipped ") ≡ Some (path_status is_skipped (variable (codes "r")) ((codes "stdout") ∷ []))
text_606 = refl

text_607 : expression_of (codes " r.stdout is undefined ") ≡ Some (negation (defined (variable (codes "r")) ((codes "stdout") ∷ [])))
text_607 = refl

text_608 : expression_of (32 ∷ 114 ∷ 46 ∷ 115 ∷ 116 ∷ 100 ∷ 111 ∷ 117 ∷ 116 ∷ 32 ∷ 124 ∷ 32 ∷ 100 ∷ 101 ∷ 102 ∷ 97 ∷ 117 ∷ 108 ∷ 116 ∷ 40 ∷ 91 ∷ 93 ∷ 41 ∷ 32 ∷ []) ≡ Some (path_or (variable (codes "r")) ((codes "stdout") ∷ []) (list_of (no_expressions)))
text_608 = refl

text_609 : expression_of (32 ∷ 114 ∷ 46 ∷ 115 ∷ 116 ∷ 100 ∷ 111 ∷ 117 ∷ 116 ∷ 32 ∷ 124 ∷ 32 ∷ 108 ∷ 101 ∷ 110 ∷ 103 ∷ 116 ∷ 104 ∷ 32 ∷ []) ≡ Some (length_of (path (variable (codes "r")) ((codes "stdout") ∷ [])))
text_609 = refl

text_610 : expression_of (codes " r.stdout_lines ") ≡ Some (path (variable (codes "r")) ((codes "stdout_lines") ∷ []))
text_610 = refl

text_611 : expression_of (32 ∷ 114 ∷ 46 ∷ 115 ∷ 116 ∷ 100 ∷ 111 ∷ 117 ∷ 116 ∷ 95 ∷ 108 ∷ 105 ∷ 110 ∷ 101 ∷ 115 ∷ 32 ∷ 124 ∷ 32 ∷ 108 ∷ 101 ∷ 110 ∷ 103 ∷ 116 ∷ 104 ∷ 32 ∷ []) ≡ Some (length_of (path (variable (codes "r")) ((codes "stdout_lines") ∷ [])))
text_611 = refl

text_612 : expression_of (codes " r1 ") ≡ Some (path (variable (codes "r1")) ([]))
text_612 = refl

text_613 : expression_of (32 ∷ 114 ∷ 49 ∷ 32 ∷ 124 ∷ 32 ∷ 100 ∷ 101 ∷ 102 ∷ 97 ∷ 117 ∷ 108 ∷ 116 ∷ 40 ∷ 49 ∷ 41 ∷ 32 ∷ []) ≡ Some (path_or (variable (codes "r1")) ([]) (literal (int (pos 1))))
text_613 = refl

text_614 : expression_of (32 ∷ 114 ∷ 49 ∷ 32 ∷ 124 ∷ 32 ∷ 100 ∷ 101 ∷ 102 ∷ 97 ∷ 117 ∷ 108 ∷ 116 ∷ 40 ∷ 91 ∷ 93 ∷ 41 ∷ 32 ∷ []) ≡ Some (path_or (variable (codes "r1")) ([]) (list_of (no_expressions)))
text_614 = refl

text_615 : expression_of (32 ∷ 114 ∷ 49 ∷ 32 ∷ 124 ∷ 32 ∷ 100 ∷ 101 ∷ 102 ∷ 97 ∷ 117 ∷ 108 ∷ 116 ∷ 40 ∷ 115 ∷ 49 ∷ 41 ∷ 32 ∷ []) ≡ Some (path_or (variable (codes "r1")) ([]) (path (variable (codes "s1")) ([])))
text_615 = refl

text_616 : expression_of (32 ∷ 114 ∷ 49 ∷ 32 ∷ 124 ∷ 32 ∷ 108 ∷ 101 ∷ 110 ∷ 103 ∷ 116 ∷ 104 ∷ 32 ∷ []) ≡ Some (length_of (path (variable (codes "r1")) ([])))
text_616 = refl

text_617 : expression_of (codes " r1.ansible_facts.ansible_hostname ") ≡ Some (path (variable (codes "r1")) ((codes "ansible_facts") ∷ (codes "ansible_hostname") ∷ []))
text_617 = refl

text_618 : expression_of (32 ∷ 114 ∷ 49 ∷ 46 ∷ 97 ∷ 110 ∷ 115 ∷ 105 ∷ 98 ∷ 108 ∷ 101 ∷ 95 ∷ 102 ∷ 97 ∷ 99 ∷ 116 ∷ 115 ∷ 46 ∷ 97 ∷ 110 ∷ 115 ∷ 105 ∷ 98 ∷ 108 ∷ 101 ∷ 95 ∷ 104 ∷ 111 ∷ 115 ∷ 116 ∷ 110 ∷ 97 ∷ 109 ∷ 101 ∷ 32 ∷ 124 ∷ 32 ∷ 100 ∷ 101 ∷ 102 ∷ 97 ∷ 117 ∷ 108 ∷ 116 ∷ 40 ∷ 49 ∷ 41 ∷ 32 ∷ []) ≡ Some (path_or (variable (codes "r1")) ((codes "ansible_facts") ∷ (codes "ansible_hostname") ∷ []) (literal (int (pos 1))))
text_618 = refl

text_619 : expression_of (codes " r1.ansible_facts.ansible_os_family ") ≡ Some (path (variable (codes "r1")) ((codes "ansible_facts") ∷ (codes "ansible_os_family") ∷ []))
text_619 = refl

text_620 : expression_of (codes " r1.changed ") ≡ Some (path (variable (codes "r1")) ((codes "changed") ∷ []))
text_620 = refl

text_621 : expression_of (32 ∷ 114 ∷ 49 ∷ 46 ∷ 99 ∷ 104 ∷ 97 ∷ 110 ∷ 103 ∷ 101 ∷ 100 ∷ 32 ∷ 124 ∷ 32 ∷ 100 ∷ 101 ∷ 102 ∷ 97 ∷ 117 ∷ 108 ∷ 116 ∷ 40 ∷ 49 ∷ 41 ∷ 32 ∷ []) ≡ Some (path_or (variable (codes "r1")) ((codes "changed") ∷ []) (literal (int (pos 1))))
text_621 = refl

text_622 : expression_of (32 ∷ 114 ∷ 49 ∷ 46 ∷ 99 ∷ 104 ∷ 97 ∷ 110 ∷ 103 ∷ 101 ∷ 100 ∷ 32 ∷ 124 ∷ 32 ∷ 100 ∷ 101 ∷ 102 ∷ 97 ∷ 117 ∷ 108 ∷ 116 ∷ 40 ∷ 91 ∷ 93 ∷ 41 ∷ 32 ∷ []) ≡ Some (path_or (variable (codes "r1")) ((codes "changed") ∷ []) (list_of (no_expressions)))
text_622 = refl

text_623 : expression_of (32 ∷ 114 ∷ 49 ∷ 46 ∷ 99 ∷ 104 ∷ 97 ∷ 110 ∷ 103 ∷ 101 ∷ 100 ∷ 32 ∷ 124 ∷ 32 ∷ 100 ∷ 101 ∷ 102 ∷ 97 ∷ 117 ∷ 108 ∷ 116 ∷ 40 ∷ 115 ∷ 49 ∷ 41 ∷ 32 ∷ []) ≡ Some (path_or (variable (codes "r1")) ((codes "changed") ∷ []) (path (variable (codes "s1")) ([])))
text_623 = refl

text_624 : expression_of (32 ∷ 114 ∷ 49 ∷ 46 ∷ 99 ∷ 104 ∷ 97 ∷ 110 ∷ 103 ∷ 101 ∷ 100 ∷ 32 ∷ 124 ∷ 32 ∷ 108 ∷ 101 ∷ 110 ∷ 103 ∷ 116 ∷ 104 ∷ 32 ∷ []) ≡ Some (length_of (path (variable (codes "r1")) ((codes "changed") ∷ [])))
text_624 = refl

text_625 : expression_of (codes " r1.deep ") ≡ Some (path (variable (codes "r1")) ((codes "deep") ∷ []))
text_625 = refl

text_626 : expression_of (32 ∷ 114 ∷ 49 ∷ 46 ∷ 100 ∷ 101 ∷ 101 ∷ 112 ∷ 32 ∷ 124 ∷ 32 ∷ 100 ∷ 101 ∷ 102 ∷ 97 ∷ 117 ∷ 108 ∷ 116 ∷ 40 ∷ 115 ∷ 49 ∷ 41 ∷ 32 ∷ []) ≡ Some (path_or (variable (codes "r1")) ((codes "deep") ∷ []) (path (variable (codes "s1")) ([])))
text_626 = refl

text_627 : expression_of (codes " r1.deep.a ") ≡ Some (path (variable (codes "r1")) ((codes "deep") ∷ (codes "a") ∷ []))
text_627 = refl

text_628 : expression_of (32 ∷ 114 ∷ 49 ∷ 46 ∷ 100 ∷ 101 ∷ 101 ∷ 112 ∷ 46 ∷ 97 ∷ 32 ∷ 124 ∷ 32 ∷ 100 ∷ 101 ∷ 102 ∷ 97 ∷ 117 ∷ 108 ∷ 116 ∷ 40 ∷ 49 ∷ 41 ∷ 32 ∷ []) ≡ Some (path_or (variable (codes "r1")) ((codes "deep") ∷ (codes "a") ∷ []) (literal (int (pos 1))))
text_628 = refl

text_629 : expression_of (codes " r1.deep.b ") ≡ Some (path (variable (codes "r1")) ((codes "deep") ∷ (codes "b") ∷ []))
text_629 = refl

text_630 : expression_of (codes " r1.failed ") ≡ Some (path (variable (codes "r1")) ((codes "failed") ∷ []))
text_630 = refl

text_631 : expression_of (codes " r1.failed and r1.changed ") ≡ Some (conjunction (expression (path (variable (codes "r1")) ((codes "failed") ∷ [])) (expression (path (variable (codes "r1")) ((codes "changed") ∷ [])) (no_expressions))))
text_631 = refl

text_632 : expression_of (32 ∷ 114 ∷ 49 ∷ 46 ∷ 102 ∷ 97 ∷ 105 ∷ 108 ∷ 101 ∷ 100 ∷ 32 ∷ 124 ∷ 32 ∷ 100 ∷ 101 ∷ 102 ∷ 97 ∷ 117 ∷ 108 ∷ 116 ∷ 40 ∷ 49 ∷ 41 ∷ 32 ∷ []) ≡ Some (path_or (variable (codes "r1")) ((codes "failed") ∷ []) (literal (int (pos 1))))
text_632 = refl

text_633 : expression_of (32 ∷ 114 ∷ 49 ∷ 46 ∷ 102 ∷ 97 ∷ 105 ∷ 108 ∷ 101 ∷ 100 ∷ 32 ∷ 124 ∷ 32 ∷ 100 ∷ 101 ∷ 102 ∷ 97 ∷ 117 ∷ 108 ∷ 116 ∷ 40 ∷ 91 ∷ 93 ∷ 41 ∷ 32 ∷ []) ≡ Some (path_or (variable (codes "r1")) ((codes "failed") ∷ []) (list_of (no_expressions)))
text_633 = refl

text_634 : expression_of (32 ∷ 114 ∷ 49 ∷ 46 ∷ 102 ∷ 97 ∷ 105 ∷ 108 ∷ 101 ∷ 100 ∷ 32 ∷ 124 ∷ 32 ∷ 100 ∷ 101 ∷ 102 ∷ 97 ∷ 117 ∷ 108 ∷ 116 ∷ 40 ∷ 115 ∷ 49 ∷ 41 ∷ 32 ∷ []) ≡ Some (path_or (variable (codes "r1")) ((codes "failed") ∷ []) (path (variable (codes "s1")) ([])))
text_634 = refl

text_635 : expression_of (32 ∷ 114 ∷ 49 ∷ 46 ∷ 102 ∷ 97 ∷ 105 ∷ 108 ∷ 101 ∷ 100 ∷ 32 ∷ 124 ∷ 32 ∷ 108 ∷ 101 ∷ 110 ∷ 103 ∷ 116 ∷ 104 ∷ 32 ∷ []) ≡ Some (length_of (path (variable (codes "r1")) ((codes "failed") ∷ [])))
text_635 = refl

text_636 : expression_of (codes " r1.g ") ≡ Some (path (variable (codes "r1")) ((codes "g") ∷ []))
text_636 = refl

text_637 : expression_of (codes " r1.msg ") ≡ Some (path (variable (codes "r1")) ((codes "msg") ∷ []))
text_637 = refl

text_638 : expression_of (32 ∷ 114 ∷ 49 ∷ 46 ∷ 109 ∷ 115 ∷ 103 ∷ 32 ∷ 124 ∷ 32 ∷ 100 ∷ 101 ∷ 102 ∷ 97 ∷ 117 ∷ 108 ∷ 116 ∷ 40 ∷ 49 ∷ 41 ∷ 32 ∷ []) ≡ Some (path_or (variable (codes "r1")) ((codes "msg") ∷ []) (literal (int (pos 1))))
text_638 = refl

text_639 : expression_of (32 ∷ 114 ∷ 49 ∷ 46 ∷ 109 ∷ 115 ∷ 103 ∷ 32 ∷ 124 ∷ 32 ∷ 100 ∷ 101 ∷ 102 ∷ 97 ∷ 117 ∷ 108 ∷ 116 ∷ 40 ∷ 91 ∷ 93 ∷ 41 ∷ 32 ∷ []) ≡ Some (path_or (variable (codes "r1")) ((codes "msg") ∷ []) (list_of (no_expressions)))
text_639 = refl

text_640 : expression_of (32 ∷ 114 ∷ 49 ∷ 46 ∷ 109 ∷ 115 ∷ 103 ∷ 32 ∷ 124 ∷ 32 ∷ 100 ∷ 101 ∷ 102 ∷ 97 ∷ 117 ∷ 108 ∷ 116 ∷ 40 ∷ 115 ∷ 49 ∷ 41 ∷ 32 ∷ []) ≡ Some (path_or (variable (codes "r1")) ((codes "msg") ∷ []) (path (variable (codes "s1")) ([])))
text_640 = refl

text_641 : expression_of (codes " r1.ping ") ≡ Some (path (variable (codes "r1")) ((codes "ping") ∷ []))
text_641 = refl

text_642 : expression_of (32 ∷ 114 ∷ 49 ∷ 46 ∷ 112 ∷ 105 ∷ 110 ∷ 103 ∷ 32 ∷ 124 ∷ 32 ∷ 100 ∷ 101 ∷ 102 ∷ 97 ∷ 117 ∷ 108 ∷ 116 ∷ 40 ∷ 115 ∷ 49 ∷ 41 ∷ 32 ∷ []) ≡ Some (path_or (variable (codes "r1")) ((codes "ping") ∷ []) (path (variable (codes "s1")) ([])))
text_642 = refl

text_643 : expression_of (codes " r1.rc ") ≡ Some (path (variable (codes "r1")) ((codes "rc") ∷ []))
text_643 = refl

text_644 : expression_of (32 ∷ 114 ∷ 49 ∷ 46 ∷ 114 ∷ 99 ∷ 32 ∷ 124 ∷ 32 ∷ 100 ∷ 101 ∷ 102 ∷ 97 ∷ 117 ∷ 108 ∷ 116 ∷ 40 ∷ 115 ∷ 49 ∷ 41 ∷ 32 ∷ []) ≡ Some (path_or (variable (codes "r1")) ((codes "rc") ∷ []) (path (variable (codes "s1")) ([])))
text_644 = refl

text_645 : expression_of (32 ∷ 114 ∷ 49 ∷ 46 ∷ 114 ∷ 99 ∷ 32 ∷ 124 ∷ 32 ∷ 108 ∷ 101 ∷ 110 ∷ 103 ∷ 116 ∷ 104 ∷ 32 ∷ []) ≡ Some (length_of (path (variable (codes "r1")) ((codes "rc") ∷ [])))
text_645 = refl

text_646 : expression_of (codes " r1.results ") ≡ Some (path (variable (codes "r1")) ((codes "results") ∷ []))
text_646 = refl

text_647 : expression_of (32 ∷ 114 ∷ 49 ∷ 46 ∷ 114 ∷ 101 ∷ 115 ∷ 117 ∷ 108 ∷ 116 ∷ 115 ∷ 32 ∷ 124 ∷ 32 ∷ 100 ∷ 101 ∷ 102 ∷ 97 ∷ 117 ∷ 108 ∷ 116 ∷ 40 ∷ 49 ∷ 41 ∷ 32 ∷ []) ≡ Some (path_or (variable (codes "r1")) ((codes "results") ∷ []) (literal (int (pos 1))))
text_647 = refl

text_648 : expression_of (32 ∷ 114 ∷ 49 ∷ 46 ∷ 114 ∷ 101 ∷ 115 ∷ 117 ∷ 108 ∷ 116 ∷ 115 ∷ 32 ∷ 124 ∷ 32 ∷ 100 ∷ 101 ∷ 102 ∷ 97 ∷ 117 ∷ 108 ∷ 116 ∷ 40 ∷ 91 ∷ 93 ∷ 41 ∷ 32 ∷ []) ≡ Some (path_or (variable (codes "r1")) ((codes "results") ∷ []) (list_of (no_expressions)))
text_648 = refl

text_649 : expression_of (32 ∷ 114 ∷ 49 ∷ 46 ∷ 114 ∷ 101 ∷ 115 ∷ 117 ∷ 108 ∷ 116 ∷ 115 ∷ 32 ∷ 124 ∷ 32 ∷ 100 ∷ 101 ∷ 102 ∷ 97 ∷ 117 ∷ 108 ∷ 116 ∷ 40 ∷ 115 ∷ 49 ∷ 41 ∷ 32 ∷ []) ≡ Some (path_or (variable (codes "r1")) ((codes "results") ∷ []) (path (variable (codes "s1")) ([])))
text_649 = refl

text_650 : expression_of (32 ∷ 114 ∷ 49 ∷ 46 ∷ 114 ∷ 101 ∷ 115 ∷ 117 ∷ 108 ∷ 116 ∷ 115 ∷ 32 ∷ 124 ∷ 32 ∷ 108 ∷ 101 ∷ 110 ∷ 103 ∷ 116 ∷ 104 ∷ 32 ∷ []) ≡ Some (length_of (path (variable (codes "r1")) ((codes "results") ∷ [])))
text_650 = refl

text_651 : expression_of (codes " r1.rows ") ≡ Some (path (variable (codes "r1")) ((codes "rows") ∷ []))
text_651 = refl

text_652 : expression_of (codes " r1.skip_reason ") ≡ Some (path (variable (codes "r1")) ((codes "skip_reason") ∷ []))
text_652 = refl

text_653 : expression_of (32 ∷ 114 ∷ 49 ∷ 46 ∷ 115 ∷ 107 ∷ 105 ∷ 112 ∷ 95 ∷ 114 ∷ 101 ∷ 97 ∷ 115 ∷ 111 ∷ 110 ∷ 32 ∷ 124 ∷ 32 ∷ 100 ∷ 101 ∷ 102 ∷ 97 ∷ 117 ∷ 108 ∷ 116 ∷ 40 ∷ 49 ∷ 41 ∷ 32 ∷ []) ≡ Some (path_or (variable (codes "r1")) ((codes "skip_reason") ∷ []) (literal (int (pos 1))))
text_653 = refl

text_654 : expression_of (32 ∷ 114 ∷ 49 ∷ 46 ∷ 115 ∷ 107 ∷ 105 ∷ 112 ∷ 95 ∷ 114 ∷ 101 ∷ 97 ∷ 115 ∷ 111 ∷ 110 ∷ 32 ∷ 124 ∷ 32 ∷ 100 ∷ 101 ∷ 102 ∷ 97 ∷ 117 ∷ 108 ∷ 116 ∷ 40 ∷ 91 ∷ 93 ∷ 41 ∷ 32 ∷ []) ≡ Some (path_or (variable (codes "r1")) ((codes "skip_reason") ∷ []) (list_of (no_expressions)))
text_654 = refl

text_655 : expression_of (32 ∷ 114 ∷ 49 ∷ 46 ∷ 115 ∷ 107 ∷ 105 ∷ 112 ∷ 95 ∷ 114 ∷ 101 ∷ 97 ∷ 115 ∷ 111 ∷ 110 ∷ 32 ∷ 124 ∷ 32 ∷ 100 ∷ 101 ∷ 102 ∷ 97 ∷ 117 ∷ 108 ∷ 116 ∷ 40 ∷ 115 ∷ 49 ∷ 41 ∷ 32 ∷ []) ≡ Some (path_or (variable (codes "r1")) ((codes "skip_reason") ∷ []) (path (variable (codes "s1")) ([])))
text_655 = refl

text_656 : expression_of (codes " r1.skipped ") ≡ Some (path (variable (codes "r1")) ((codes "skipped") ∷ []))
text_656 = refl

text_657 : expression_of (32 ∷ 114 ∷ 49 ∷ 46 ∷ 115 ∷ 107 ∷ 105 ∷ 112 ∷ 112 ∷ 101 ∷ 100 ∷ 32 ∷ 124 ∷ 32 ∷ 100 ∷ 101 ∷ 102 ∷ 97 ∷ 117 ∷ 108 ∷ 116 ∷ 40 ∷ 49 ∷ 41 ∷ 32 ∷ []) ≡ Some (path_or (variable (codes "r1")) ((codes "skipped") ∷ []) (literal (int (pos 1))))
text_657 = refl

text_658 : expression_of (32 ∷ 114 ∷ 49 ∷ 46 ∷ 115 ∷ 107 ∷ 105 ∷ 112 ∷ 112 ∷ 101 ∷ 100 ∷ 32 ∷ 124 ∷ 32 ∷ 100 ∷ 101 ∷ 102 ∷ 97 ∷ 117 ∷ 108 ∷ 116 ∷ 40 ∷ 91 ∷ 93 ∷ 41 ∷ 32 ∷ []) ≡ Some (path_or (variable (codes "r1")) ((codes "skipped") ∷ []) (list_of (no_expressions)))
text_658 = refl

text_659 : expression_of (32 ∷ 114 ∷ 49 ∷ 46 ∷ 115 ∷ 107 ∷ 105 ∷ 112 ∷ 112 ∷ 101 ∷ 100 ∷ 32 ∷ 124 ∷ 32 ∷ 108 ∷ 101 ∷ 110 ∷ 103 ∷ 116 ∷ 104 ∷ 32 ∷ []) ≡ Some (length_of (path (variable (codes "r1")) ((codes "skipped") ∷ [])))
text_659 = refl

text_660 : expression_of (codes " r1.stat ") ≡ Some (path (variable (codes "r1")) ((codes "stat") ∷ []))
text_660 = refl

text_661 : expression_of (codes " r1.stat.exists ") ≡ Some (path (variable (codes "r1")) ((codes "stat") ∷ (codes "exists") ∷ []))
text_661 = refl

text_662 : expression_of (32 ∷ 114 ∷ 49 ∷ 46 ∷ 115 ∷ 116 ∷ 97 ∷ 116 ∷ 46 ∷ 101 ∷ 120 ∷ 105 ∷ 115 ∷ 116 ∷ 115 ∷ 32 ∷ 124 ∷ 32 ∷ 108 ∷ 101 ∷ 110 ∷ 103 ∷ 116 ∷ 104 ∷ 32 ∷ []) ≡ Some (length_of (path (variable (codes "r1")) ((codes "stat") ∷ (codes "exists") ∷ [])))
text_662 = refl

text_663 : expression_of (codes " r1.stat.size ") ≡ Some (path (variable (codes "r1")) ((codes "stat") ∷ (codes "size") ∷ []))
text_663 = refl

text_664 : expression_of (32 ∷ 114 ∷ 49 ∷ 46 ∷ 115 ∷ 116 ∷ 97 ∷ 116 ∷ 46 ∷ 115 ∷ 105 ∷ 122 ∷ 101 ∷ 32 ∷ 124 ∷ 32 ∷ 100 ∷ 101 ∷ 102 ∷ 97 ∷ 117 ∷ 108 ∷ 116 ∷ 40 ∷ 49 ∷ 41 ∷ 32 ∷ []) ≡ Some (path_or (variable (codes "r1")) ((codes "stat") ∷ (codes "size") ∷ []) (literal (int (pos 1))))
text_664 = refl

text_665 : expression_of (codes " r1.stderr ") ≡ Some (path (variable (codes "r1")) ((codes "stderr") ∷ []))
text_665 = refl

text_666 : expression_of (32 ∷ 114 ∷ 49 ∷ 46 ∷ 115 ∷ 116 ∷ 100 ∷ 101 ∷ 114 ∷ 114 ∷ 32 ∷ 124 ∷ 32 ∷ 100 ∷ 101 ∷ 102 ∷ 97 ∷ 117 ∷ 108 ∷ 116 ∷ 40 ∷ 115 ∷ 49 ∷ 41 ∷ 32 ∷ []) ≡ Some (path_or (variable (codes "r1")) ((codes "stderr") ∷ []) (path (variable (codes "s1")) ([])))
text_666 = refl

text_667 : expression_of (32 ∷ 114 ∷ 49 ∷ 46 ∷ 115 ∷ 116 ∷ 100 ∷ 101 ∷ 114 ∷ 114 ∷ 32 ∷ 124 ∷ 32 ∷ 108 ∷ 101 ∷ 110 ∷ 103 ∷ 116 ∷ 104 ∷ 32 ∷ []) ≡ Some (length_of (path (variable (codes "r1")) ((codes "stderr") ∷ [])))
text_667 = refl

text_668 : expression_of (codes " r1.stderr.f ") ≡ Some (path (variable (codes "r1")) ((codes "stderr") ∷ (codes "f") ∷ []))
text_668 = refl

text_669 : expression_of (codes " r1.stdout ") ≡ Some (path (variable (codes "r1")) ((codes "stdout") ∷ []))
text_669 = refl

text_670 : expression_of (32 ∷ 114 ∷ 49 ∷ 46 ∷ 115 ∷ 116 ∷ 100 ∷ 111 ∷ 117 ∷ 116 ∷ 32 ∷ 124 ∷ 32 ∷ 100 ∷ 101 ∷ 102 ∷ 97 ∷ 117 ∷ 108 ∷ 116 ∷ 40 ∷ 49 ∷ 41 ∷ 32 ∷ []) ≡ Some (path_or (variable (codes "r1")) ((codes "stdout") ∷ []) (literal (int (pos 1))))
text_670 = refl

text_671 : expression_of (32 ∷ 114 ∷ 49 ∷ 46 ∷ 115 ∷ 116 ∷ 100 ∷ 111 ∷ 117 ∷ 116 ∷ 32 ∷ 124 ∷ 32 ∷ 100 ∷ 101 ∷ 102 ∷ 97 ∷ 117 ∷ 108 ∷ 116 ∷ 40 ∷ 115 ∷ 49 ∷ 41 ∷ 32 ∷ []) ≡ Some (path_or (variable (codes "r1")) ((codes "stdout") ∷ []) (path (variable (codes "s1")) ([])))
text_671 = refl

text_672 : expression_of (codes " r1.stdout_lines ") ≡ Some (path (variable (codes "r1")) ((codes "stdout_lines") ∷ []))
text_672 = refl

text_673 : expression_of (32 ∷ 114 ∷ 49 ∷ 46 ∷ 115 ∷ 116 ∷ 100 ∷ 111 ∷ 117 ∷ 116 ∷ 95 ∷ 108 ∷ 105 ∷ 110 ∷ 101 ∷ 115 ∷ 32 ∷ 124 ∷ 32 ∷ 100 ∷ 101 ∷ 102 ∷ 97 ∷ 117 ∷ 108 ∷ 116 ∷ 40 ∷ 91 ∷ 93 ∷ 41 ∷ 32 ∷ []) ≡ Some (path_or (variable (codes "r1")) ((codes "stdout_lines") ∷ []) (list_of (no_expressions)))
text_673 = refl

text_674 : expression_of (codes " r1.v ") ≡ Some (path (variable (codes "r1")) ((codes "v") ∷ []))
text_674 = refl

text_675 : expression_of (32 ∷ 114 ∷ 49 ∷ 46 ∷ 118 ∷ 32 ∷ 124 ∷ 32 ∷ 100 ∷ 101 ∷ 102 ∷ 97 ∷ 117 ∷ 108 ∷ 116 ∷ 40 ∷ 49 ∷ 41 ∷ 32 ∷ []) ≡ Some (path_or (variable (codes "r1")) ((codes "v") ∷ []) (literal (int (pos 1))))
text_675 = refl

text_676 : expression_of (codes " r1.why ") ≡ Some (path (variable (codes "r1")) ((codes "why") ∷ []))
text_676 = refl

text_677 : expression_of (32 ∷ 114 ∷ 49 ∷ 46 ∷ 119 ∷ 104 ∷ 121 ∷ 32 ∷ 124 ∷ 32 ∷ 108 ∷ 101 ∷ 110 ∷ 103 ∷ 116 ∷ 104 ∷ 32 ∷ []) ≡ Some (length_of (path (variable (codes "r1")) ((codes "why") ∷ [])))
text_677 = refl

text_678 : expression_of (codes " r1.zz != r1.changed ") ≡ Some (negation (comparison equal (path (variable (codes "r1")) ((codes "zz") ∷ [])) (path (variable (codes "r1")) ((codes "changed") ∷ []))))
text_678 = refl

text_679 : expression_of (codes " r2 ") ≡ Some (path (variable (codes "r2")) ([]))
text_679 = refl

text_680 : expression_of (32 ∷ 114 ∷ 50 ∷ 32 ∷ 124 ∷ 32 ∷ 100 ∷ 101 ∷ 102 ∷ 97 ∷ 117 ∷ 108 ∷ 116 ∷ 40 ∷ 49 ∷ 41 ∷ 32 ∷ []) ≡ Some (path_or (variable (codes "r2")) ([]) (literal (int (pos 1))))
text_680 = refl

text_681 : expression_of (32 ∷ 114 ∷ 50 ∷ 32 ∷ 124 ∷ 32 ∷ 100 ∷ 101 ∷ 102 ∷ 97 ∷ 117 ∷ 108 ∷ 116 ∷ 40 ∷ 91 ∷ 93 ∷ 41 ∷ 32 ∷ []) ≡ Some (path_or (variable (codes "r2")) ([]) (list_of (no_expressions)))
text_681 = refl

text_682 : expression_of (32 ∷ 114 ∷ 50 ∷ 32 ∷ 124 ∷ 32 ∷ 100 ∷ 101 ∷ 102 ∷ 97 ∷ 117 ∷ 108 ∷ 116 ∷ 40 ∷ 115 ∷ 49 ∷ 41 ∷ 32 ∷ []) ≡ Some (path_or (variable (codes "r2")) ([]) (path (variable (codes "s1")) ([])))
text_682 = refl

text_683 : expression_of (32 ∷ 114 ∷ 50 ∷ 32 ∷ 124 ∷ 32 ∷ 108 ∷ 101 ∷ 110 ∷ 103 ∷ 116 ∷ 104 ∷ 32 ∷ []) ≡ Some (length_of (path (variable (codes "r2")) ([])))
text_683 = refl

text_684 : expression_of (codes " r2.ansible_facts.ansible_hostname ") ≡ Some (path (variable (codes "r2")) ((codes "ansible_facts") ∷ (codes "ansible_hostname") ∷ []))
text_684 = refl

text_685 : expression_of (codes " r2.ansible_facts.ansible_os_family ") ≡ Some (path (variable (codes "r2")) ((codes "ansible_facts") ∷ (codes "ansible_os_family") ∷ []))
text_685 = refl

text_686 : expression_of (codes " r2.changed ") ≡ Some (path (variable (codes "r2")) ((codes "changed") ∷ []))
text_686 = refl

text_687 : expression_of (codes " r2.changed or true ") ≡ Some (disjunction (expression (path (variable (codes "r2")) ((codes "changed") ∷ [])) (expression (literal (boolean true)) (no_expressions))))
text_687 = refl

text_688 : expression_of (32 ∷ 114 ∷ 50 ∷ 46 ∷ 99 ∷ 104 ∷ 97 ∷ 110 ∷ 103 ∷ 101 ∷ 100 ∷ 32 ∷ 124 ∷ 32 ∷ 100 ∷ 101 ∷ 102 ∷ 97 ∷ 117 ∷ 108 ∷ 116 ∷ 40 ∷ 49 ∷ 41 ∷ 32 ∷ []) ≡ Some (path_or (variable (codes "r2")) ((codes "changed") ∷ []) (literal (int (pos 1))))
text_688 = refl

text_689 : expression_of (32 ∷ 114 ∷ 50 ∷ 46 ∷ 99 ∷ 104 ∷ 97 ∷ 110 ∷ 103 ∷ 101 ∷ 100 ∷ 32 ∷ 124 ∷ 32 ∷ 100 ∷ 101 ∷ 102 ∷ 97 ∷ 117 ∷ 108 ∷ 116 ∷ 40 ∷ 91 ∷ 93 ∷ 41 ∷ 32 ∷ []) ≡ Some (path_or (variable (codes "r2")) ((codes "changed") ∷ []) (list_of (no_expressions)))
text_689 = refl

text_690 : expression_of (32 ∷ 114 ∷ 50 ∷ 46 ∷ 99 ∷ 104 ∷ 97 ∷ 110 ∷ 103 ∷ 101 ∷ 100 ∷ 32 ∷ 124 ∷ 32 ∷ 100 ∷ 101 ∷ 102 ∷ 97 ∷ 117 ∷ 108 ∷ 116 ∷ 40 ∷ 115 ∷ 49 ∷ 41 ∷ 32 ∷ []) ≡ Some (path_or (variable (codes "r2")) ((codes "changed") ∷ []) (path (variable (codes "s1")) ([])))
text_690 = refl

text_691 : expression_of (32 ∷ 114 ∷ 50 ∷ 46 ∷ 99 ∷ 104 ∷ 97 ∷ 110 ∷ 103 ∷ 101 ∷ 100 ∷ 32 ∷ 124 ∷ 32 ∷ 108 ∷ 101 ∷ 110 ∷ 103 ∷ 116 ∷ 104 ∷ 32 ∷ []) ≡ Some (length_of (path (variable (codes "r2")) ((codes "changed") ∷ [])))
text_691 = refl

text_692 : expression_of (codes " r2.deep ") ≡ Some (path (variable (codes "r2")) ((codes "deep") ∷ []))
text_692 = refl

text_693 : expression_of (codes " r2.deep.a ") ≡ Some (path (variable (codes "r2")) ((codes "deep") ∷ (codes "a") ∷ []))
text_693 = refl

text_694 : expression_of (32 ∷ 114 ∷ 50 ∷ 46 ∷ 100 ∷ 101 ∷ 101 ∷ 112 ∷ 46 ∷ 97 ∷ 32 ∷ 124 ∷ 32 ∷ 100 ∷ 101 ∷ 102 ∷ 97 ∷ 117 ∷ 108 ∷ 116 ∷ 40 ∷ 91 ∷ 93 ∷ 41 ∷ 32 ∷ []) ≡ Some (path_or (variable (codes "r2")) ((codes "deep") ∷ (codes "a") ∷ []) (list_of (no_expressions)))
text_694 = refl

text_695 : expression_of (32 ∷ 114 ∷ 50 ∷ 46 ∷ 100 ∷ 101 ∷ 101 ∷ 112 ∷ 46 ∷ 97 ∷ 32 ∷ 124 ∷ 32 ∷ 108 ∷ 101 ∷ 110 ∷ 103 ∷ 116 ∷ 104 ∷ 32 ∷ []) ≡ Some (length_of (path (variable (codes "r2")) ((codes "deep") ∷ (codes "a") ∷ [])))
text_695 = refl

text_696 : expression_of (codes " r2.failed ") ≡ Some (path (variable (codes "r2")) ((codes "failed") ∷ []))
text_696 = refl

text_697 : expression_of (codes " r2.failed and r2.changed ") ≡ Some (conjunction (expression (path (variable (codes "r2")) ((codes "failed") ∷ [])) (expression (path (variable (codes "r2")) ((codes "changed") ∷ [])) (no_expressions))))
text_697 = refl

text_698 : expression_of (32 ∷ 114 ∷ 50 ∷ 46 ∷ 102 ∷ 97 ∷ 105 ∷ 108 ∷ 101 ∷ 100 ∷ 32 ∷ 124 ∷ 32 ∷ 100 ∷ 101 ∷ 102 ∷ 97 ∷ 117 ∷ 108 ∷ 116 ∷ 40 ∷ 49 ∷ 41 ∷ 32 ∷ []) ≡ Some (path_or (variable (codes "r2")) ((codes "failed") ∷ []) (literal (int (pos 1))))
text_698 = refl

text_699 : expression_of (32 ∷ 114 ∷ 50 ∷ 46 ∷ 102 ∷ 97 ∷ 105 ∷ 108 ∷ 101 ∷ 100 ∷ 32 ∷ 124 ∷ 32 ∷ 100 ∷ 101 ∷ 102 ∷ 97 ∷ 117 ∷ 108 ∷ 116 ∷ 40 ∷ 91 ∷ 93 ∷ 41 ∷ 32 ∷ []) ≡ Some (path_or (variable (codes "r2")) ((codes "failed") ∷ []) (list_of (no_expressions)))
text_699 = refl

text_700 : expression_of (32 ∷ 114 ∷ 50 ∷ 46 ∷ 102 ∷ 97 ∷ 105 ∷ 108 ∷ 101 ∷ 100 ∷ 32 ∷ 124 ∷ 32 ∷ 100 ∷ 101 ∷ 102 ∷ 97 ∷ 117 ∷ 108 ∷ 116 ∷ 40 ∷ 115 ∷ 49 ∷ 41 ∷ 32 ∷ []) ≡ Some (path_or (variable (codes "r2")) ((codes "failed") ∷ []) (path (variable (codes "s1")) ([])))
text_700 = refl

text_701 : expression_of (32 ∷ 114 ∷ 50 ∷ 46 ∷ 102 ∷ 97 ∷ 105 ∷ 108 ∷ 101 ∷ 100 ∷ 32 ∷ 124 ∷ 32 ∷ 108 ∷ 101 ∷ 110 ∷ 103 ∷ 116 ∷ 104 ∷ 32 ∷ []) ≡ Some (length_of (path (variable (codes "r2")) ((codes "failed") ∷ [])))
text_701 = refl

text_702 : expression_of (codes " r2.msg ") ≡ Some (path (variable (codes "r2")) ((codes "msg") ∷ []))
text_702 = refl

text_703 : expression_of (32 ∷ 114 ∷ 50 ∷ 46 ∷ 109 ∷ 115 ∷ 103 ∷ 32 ∷ 124 ∷ 32 ∷ 100 ∷ 101 ∷ 102 ∷ 97 ∷ 117 ∷ 108 ∷ 116 ∷ 40 ∷ 49 ∷ 41 ∷ 32 ∷ []) ≡ Some (path_or (variable (codes "r2")) ((codes "msg") ∷ []) (literal (int (pos 1))))
text_703 = refl

text_704 : expression_of (32 ∷ 114 ∷ 50 ∷ 46 ∷ 109 ∷ 115 ∷ 103 ∷ 32 ∷ 124 ∷ 32 ∷ 100 ∷ 101 ∷ 102 ∷ 97 ∷ 117 ∷ 108 ∷ 116 ∷ 40 ∷ 91 ∷ 93 ∷ 41 ∷ 32 ∷ []) ≡ Some (path_or (variable (codes "r2")) ((codes "msg") ∷ []) (list_of (no_expressions)))
text_704 = refl

text_705 : expression_of (32 ∷ 114 ∷ 50 ∷ 46 ∷ 109 ∷ 115 ∷ 103 ∷ 32 ∷ 124 ∷ 32 ∷ 100 ∷ 101 ∷ 102 ∷ 97 ∷ 117 ∷ 108 ∷ 116 ∷ 40 ∷ 115 ∷ 49 ∷ 41 ∷ 32 ∷ []) ≡ Some (path_or (variable (codes "r2")) ((codes "msg") ∷ []) (path (variable (codes "s1")) ([])))
text_705 = refl

text_706 : expression_of (32 ∷ 114 ∷ 50 ∷ 46 ∷ 109 ∷ 115 ∷ 103 ∷ 32 ∷ 124 ∷ 32 ∷ 108 ∷ 101 ∷ 110 ∷ 103 ∷ 116 ∷ 104 ∷ 32 ∷ []) ≡ Some (length_of (path (variable (codes "r2")) ((codes "msg") ∷ [])))
text_706 = refl

text_707 : expression_of (codes " r2.ping ") ≡ Some (path (variable (codes "r2")) ((codes "ping") ∷ []))
text_707 = refl

text_708 : expression_of (codes " r2.rc ") ≡ Some (path (variable (codes "r2")) ((codes "rc") ∷ []))
text_708 = refl

text_709 : expression_of (32 ∷ 114 ∷ 50 ∷ 46 ∷ 114 ∷ 99 ∷ 32 ∷ 124 ∷ 32 ∷ 100 ∷ 101 ∷ 102 ∷ 97 ∷ 117 ∷ 108 ∷ 116 ∷ 40 ∷ 115 ∷ 49 ∷ 41 ∷ 32 ∷ []) ≡ Some (path_or (variable (codes "r2")) ((codes "rc") ∷ []) (path (variable (codes "s1")) ([])))
text_709 = refl

text_710 : expression_of (codes " r2.results ") ≡ Some (path (variable (codes "r2")) ((codes "results") ∷ []))
text_710 = refl

text_711 : expression_of (32 ∷ 114 ∷ 50 ∷ 46 ∷ 114 ∷ 101 ∷ 115 ∷ 117 ∷ 108 ∷ 116 ∷ 115 ∷ 32 ∷ 124 ∷ 32 ∷ 100 ∷ 101 ∷ 102 ∷ 97 ∷ 117 ∷ 108 ∷ 116 ∷ 40 ∷ 91 ∷ 93 ∷ 41 ∷ 32 ∷ []) ≡ Some (path_or (variable (codes "r2")) ((codes "results") ∷ []) (list_of (no_expressions)))
text_711 = refl

text_712 : expression_of (codes " r2.rows ") ≡ Some (path (variable (codes "r2")) ((codes "rows") ∷ []))
text_712 = refl

text_713 : expression_of (codes " r2.skip_reason ") ≡ Some (path (variable (codes "r2")) ((codes "skip_reason") ∷ []))
text_713 = refl

text_714 : expression_of (32 ∷ 114 ∷ 50 ∷ 46 ∷ 115 ∷ 107 ∷ 105 ∷ 112 ∷ 95 ∷ 114 ∷ 101 ∷ 97 ∷ 115 ∷ 111 ∷ 110 ∷ 32 ∷ 124 ∷ 32 ∷ 100 ∷ 101 ∷ 102 ∷ 97 ∷ 117 ∷ 108 ∷ 116 ∷ 40 ∷ 115 ∷ 49 ∷ 41 ∷ 32 ∷ []) ≡ Some (path_or (variable (codes "r2")) ((codes "skip_reason") ∷ []) (path (variable (codes "s1")) ([])))
text_714 = refl

text_715 : expression_of (32 ∷ 114 ∷ 50 ∷ 46 ∷ 115 ∷ 107 ∷ 105 ∷ 112 ∷ 95 ∷ 114 ∷ 101 ∷ 97 ∷ 115 ∷ 111 ∷ 110 ∷ 32 ∷ 124 ∷ 32 ∷ 108 ∷ 101 ∷ 110 ∷ 103 ∷ 116 ∷ 104 ∷ 32 ∷ []) ≡ Some (length_of (path (variable (codes "r2")) ((codes "skip_reason") ∷ [])))
text_715 = refl

text_716 : expression_of (codes " r2.skipped ") ≡ Some (path (variable (codes "r2")) ((codes "skipped") ∷ []))
text_716 = refl

text_717 : expression_of (32 ∷ 114 ∷ 50 ∷ 46 ∷ 115 ∷ 107 ∷ 105 ∷ 112 ∷ 112 ∷ 101 ∷ 100 ∷ 32 ∷ 124 ∷ 32 ∷ 108 ∷ 101 ∷ 110 ∷ 103 ∷ 116 ∷ 104 ∷ 32 ∷ []) ≡ Some (length_of (path (variable (codes "r2")) ((codes "skipped") ∷ [])))
text_717 = refl

text_718 : expression_of (codes " r2.stat ") ≡ Some (path (variable (codes "r2")) ((codes "stat") ∷ []))
text_718 = refl

text_719 : expression_of (codes " r2.stat.size ") ≡ Some (path (variable (codes "r2")) ((codes "stat") ∷ (codes "size") ∷ []))
text_719 = refl

text_720 : expression_of (codes " r2.stderr ") ≡ Some (path (variable (codes "r2")) ((codes "stderr") ∷ []))
text_720 = refl

text_721 : expression_of (32 ∷ 114 ∷ 50 ∷ 46 ∷ 115 ∷ 116 ∷ 100 ∷ 101 ∷ 114 ∷ 114 ∷ 32 ∷ 124 ∷ 32 ∷ 100 ∷ 101 ∷ 102 ∷ 97 ∷ 117 ∷ 108 ∷ 116 ∷ 40 ∷ 49 ∷ 41 ∷ 32 ∷ []) ≡ Some (path_or (variable (codes "r2")) ((codes "stderr") ∷ []) (literal (int (pos 1))))
text_721 = refl

text_722 : expression_of (32 ∷ 114 ∷ 50 ∷ 46 ∷ 115 ∷ 116 ∷ 100 ∷ 101 ∷ 114 ∷ 114 ∷ 32 ∷ 124 ∷ 32 ∷ 108 ∷ 101 ∷ 110 ∷ 103 ∷ 116 ∷ 104 ∷ 32 ∷ []) ≡ Some (length_of (path (variable (codes "r2")) ((codes "stderr") ∷ [])))
text_722 = refl

text_723 : expression_of (codes " r2.stdout ") ≡ Some (path (variable (codes "r2")) ((codes "stdout") ∷ []))
text_723 = refl

text_724 : expression_of (32 ∷ 114 ∷ 50 ∷ 46 ∷ 115 ∷ 116 ∷ 100 ∷ 111 ∷ 117 ∷ 116 ∷ 32 ∷ 124 ∷ 32 ∷ 100 ∷ 101 ∷ 102 ∷ 97 ∷ 117 ∷ 108 ∷ 116 ∷ 40 ∷ 91 ∷ 93 ∷ 41 ∷ 32 ∷ []) ≡ Some (path_or (variable (codes "r2")) ((codes "stdout") ∷ []) (list_of (no_expressions)))
text_724 = refl

text_725 : expression_of (32 ∷ 114 ∷ 50 ∷ 46 ∷ 115 ∷ 116 ∷ 100 ∷ 111 ∷ 117 ∷ 116 ∷ 32 ∷ 124 ∷ 32 ∷ 108 ∷ 101 ∷ 110 ∷ 103 ∷ 116 ∷ 104 ∷ 32 ∷ []) ≡ Some (length_of (path (variable (codes "r2")) ((codes "stdout") ∷ [])))
text_725 = refl

text_726 : expression_of (codes " r2.stdout_lines ") ≡ Some (path (variable (codes "r2")) ((codes "stdout_lines") ∷ []))
text_726 = refl

text_727 : expression_of (32 ∷ 114 ∷ 50 ∷ 46 ∷ 115 ∷ 116 ∷ 100 ∷ 111 ∷ 117 ∷ 116 ∷ 95 ∷ 108 ∷ 105 ∷ 110 ∷ 101 ∷ 115 ∷ 32 ∷ 124 ∷ 32 ∷ 100 ∷ 101 ∷ 102 ∷ 97 ∷ 117 ∷ 108 ∷ 116 ∷ 40 ∷ 91 ∷ 93 ∷ 41 ∷ 32 ∷ []) ≡ Some (path_or (variable (codes "r2")) ((codes "stdout_lines") ∷ []) (list_of (no_expressions)))
text_727 = refl

text_728 : expression_of (32 ∷ 114 ∷ 50 ∷ 46 ∷ 115 ∷ 116 ∷ 100 ∷ 111 ∷ 117 ∷ 116 ∷ 95 ∷ 108 ∷ 105 ∷ 110 ∷ 101 ∷ 115 ∷ 32 ∷ 124 ∷ 32 ∷ 108 ∷ 101 ∷ 110 ∷ 103 ∷ 116 ∷ 104 ∷ 32 ∷ []) ≡ Some (length_of (path (variable (codes "r2")) ((codes "stdout_lines") ∷ [])))
text_728 = refl

text_729 : expression_of (codes " r2.v ") ≡ Some (path (variable (codes "r2")) ((codes "v") ∷ []))
text_729 = refl

text_730 : expression_of (32 ∷ 114 ∷ 50 ∷ 46 ∷ 118 ∷ 32 ∷ 124 ∷ 32 ∷ 108 ∷ 101 ∷ 110 ∷ 103 ∷ 116 ∷ 104 ∷ 32 ∷ []) ≡ Some (length_of (path (variable (codes "r2")) ((codes "v") ∷ [])))
text_730 = refl

text_731 : expression_of (codes " r2.why ") ≡ Some (path (variable (codes "r2")) ((codes "why") ∷ []))
text_731 = refl

text_732 : expression_of (32 ∷ 114 ∷ 50 ∷ 46 ∷ 119 ∷ 104 ∷ 121 ∷ 32 ∷ 124 ∷ 32 ∷ 100 ∷ 101 ∷ 102 ∷ 97 ∷ 117 ∷ 108 ∷ 116 ∷ 40 ∷ 49 ∷ 41 ∷ 32 ∷ []) ≡ Some (path_or (variable (codes "r2")) ((codes "why") ∷ []) (literal (int (pos 1))))
text_732 = refl

text_733 : expression_of (codes " r3 ") ≡ Some (path (variable (codes "r3")) ([]))
text_733 = refl

text_734 : expression_of (32 ∷ 114 ∷ 51 ∷ 32 ∷ 124 ∷ 32 ∷ 100 ∷ 101 ∷ 102 ∷ 97 ∷ 117 ∷ 108 ∷ 116 ∷ 40 ∷ 49 ∷ 41 ∷ 32 ∷ []) ≡ Some (path_or (variable (codes "r3")) ([]) (literal (int (pos 1))))
text_734 = refl

text_735 : expression_of (32 ∷ 114 ∷ 51 ∷ 32 ∷ 124 ∷ 32 ∷ 100 ∷ 101 ∷ 102 ∷ 97 ∷ 117 ∷ 108 ∷ 116 ∷ 40 ∷ 91 ∷ 93 ∷ 41 ∷ 32 ∷ []) ≡ Some (path_or (variable (codes "r3")) ([]) (list_of (no_expressions)))
text_735 = refl

text_736 : expression_of (32 ∷ 114 ∷ 51 ∷ 32 ∷ 124 ∷ 32 ∷ 100 ∷ 101 ∷ 102 ∷ 97 ∷ 117 ∷ 108 ∷ 116 ∷ 40 ∷ 115 ∷ 49 ∷ 41 ∷ 32 ∷ []) ≡ Some (path_or (variable (codes "r3")) ([]) (path (variable (codes "s1")) ([])))
text_736 = refl

text_737 : expression_of (32 ∷ 114 ∷ 51 ∷ 32 ∷ 124 ∷ 32 ∷ 108 ∷ 101 ∷ 110 ∷ 103 ∷ 116 ∷ 104 ∷ 32 ∷ []) ≡ Some (length_of (path (variable (codes "r3")) ([])))
text_737 = refl

text_738 : expression_of (codes " r3.ansible_facts.ansible_hostname ") ≡ Some (path (variable (codes "r3")) ((codes "ansible_facts") ∷ (codes "ansible_hostname") ∷ []))
text_738 = refl

text_739 : expression_of (codes " r3.changed ") ≡ Some (path (variable (codes "r3")) ((codes "changed") ∷ []))
text_739 = refl

text_740 : expression_of (32 ∷ 114 ∷ 51 ∷ 46 ∷ 99 ∷ 104 ∷ 97 ∷ 110 ∷ 103 ∷ 101 ∷ 100 ∷ 32 ∷ 124 ∷ 32 ∷ 100 ∷ 101 ∷ 102 ∷ 97 ∷ 117 ∷ 108 ∷ 116 ∷ 40 ∷ 49 ∷ 41 ∷ 32 ∷ []) ≡ Some (path_or (variable (codes "r3")) ((codes "changed") ∷ []) (literal (int (pos 1))))
text_740 = refl

text_741 : expression_of (32 ∷ 114 ∷ 51 ∷ 46 ∷ 99 ∷ 104 ∷ 97 ∷ 110 ∷ 103 ∷ 101 ∷ 100 ∷ 32 ∷ 124 ∷ 32 ∷ 100 ∷ 101 ∷ 102 ∷ 97 ∷ 117 ∷ 108 ∷ 116 ∷ 40 ∷ 91 ∷ 93 ∷ 41 ∷ 32 ∷ []) ≡ Some (path_or (variable (codes "r3")) ((codes "changed") ∷ []) (list_of (no_expressions)))
text_741 = refl

text_742 : expression_of (32 ∷ 114 ∷ 51 ∷ 46 ∷ 99 ∷ 104 ∷ 97 ∷ 110 ∷ 103 ∷ 101 ∷ 100 ∷ 32 ∷ 124 ∷ 32 ∷ 100 ∷ 101 ∷ 102 ∷ 97 ∷ 117 ∷ 108 ∷ 116 ∷ 40 ∷ 115 ∷ 49 ∷ 41 ∷ 32 ∷ []) ≡ Some (path_or (variable (codes "r3")) ((codes "changed") ∷ []) (path (variable (codes "s1")) ([])))
text_742 = refl

text_743 : expression_of (32 ∷ 114 ∷ 51 ∷ 46 ∷ 99 ∷ 104 ∷ 97 ∷ 110 ∷ 103 ∷ 101 ∷ 100 ∷ 32 ∷ 124 ∷ 32 ∷ 108 ∷ 101 ∷ 110 ∷ 103 ∷ 116 ∷ 104 ∷ 32 ∷ []) ≡ Some (length_of (path (variable (codes "r3")) ((codes "changed") ∷ [])))
text_743 = refl

text_744 : expression_of (codes " r3.deep ") ≡ Some (path (variable (codes "r3")) ((codes "deep") ∷ []))
text_744 = refl

text_745 : expression_of (codes " r3.deep.a ") ≡ Some (path (variable (codes "r3")) ((codes "deep") ∷ (codes "a") ∷ []))
text_745 = refl

text_746 : expression_of (codes " r3.deep.b ") ≡ Some (path (variable (codes "r3")) ((codes "deep") ∷ (codes "b") ∷ []))
text_746 = refl

text_747 : expression_of (codes " r3.failed ") ≡ Some (path (variable (codes "r3")) ((codes "failed") ∷ []))
text_747 = refl

text_748 : expression_of (codes " r3.failed and r1.changed ") ≡ Some (conjunction (expression (path (variable (codes "r3")) ((codes "failed") ∷ [])) (expression (path (variable (codes "r1")) ((codes "changed") ∷ [])) (no_expressions))))
text_748 = refl

text_749 : expression_of (codes " r3.failed and r3.changed ") ≡ Some (conjunction (expression (path (variable (codes "r3")) ((codes "failed") ∷ [])) (expression (path (variable (codes "r3")) ((codes "changed") ∷ [])) (no_expressions))))
text_749 = refl
