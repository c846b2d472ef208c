-- The trees of expressions of cases, computed.
use Rattle.std.specs.Prelude.{◌≡◌, refl, pos, [], ◌∷◌, true, false, Some, None, codes}
use Rattle.pb_semantics.specs.Data.{boolean, int, null}
use Rattle.pb_language.specs.Expression.{equal, less, is_failed, is_changed, is_skipped, this_host, item_host, literal, path, negation, conjunction, disjunction, comparison, membership, in_batch, defined, path_status, path_or, length_of, list_of, variable, other, no_expressions, expression}
use Rattle.pb_language.specs.Grammar.{expression_of}

text_1250 : expression_of (codes "inventory_hostname in ansible_play_batch") ≡ Some (in_batch this_host)
text_1250 = refl

text_1251 : expression_of (codes "inventory_hostname is defined") ≡ Some (defined (variable (codes "inventory_hostname")) ([]))
text_1251 = refl

text_1252 : expression_of (codes "inventory_hostname is not defined") ≡ Some (negation (defined (variable (codes "inventory_hostname")) ([])))
text_1252 = refl

text_1253 : expression_of (codes "inventory_hostname is skipped") ≡ Some (path_status is_skipped (variable (codes "inventory_hostname")) ([]))
text_1253 = refl

text_1254 : expression_of (codes "inventory_hostname is undefined") ≡ Some (negation (defined (variable (codes "inventory_hostname")) ([])))
text_1254 = refl

text_1255 : expression_of (codes "inventory_hostname not in ansible_play_batch") ≡ Some (negation (in_batch this_host))
text_1255 = refl

text_1256 : expression_of (105 ∷ 110 ∷ 118 ∷ 101 ∷ 110 ∷ 116 ∷ 111 ∷ 114 ∷ 121 ∷ 95 ∷ 104 ∷ 111 ∷ 115 ∷ 116 ∷ 110 ∷ 97 ∷ 109 ∷ 101 ∷ 32 ∷ 124 ∷ 32 ∷ 100 ∷ 101 ∷ 102 ∷ 97 ∷ 117 ∷ 108 ∷ 116 ∷ 40 ∷ 102 ∷ 97 ∷ 108 ∷ 115 ∷ 101 ∷ 41 ∷ []) ≡ Some (path_or (variable (codes "inventory_hostname")) ([]) (literal (boolean false)))
text_1256 = refl

text_1257 : expression_of (codes "inventory_hostname.msg is undefined") ≡ Some (negation (defined (variable (codes "inventory_hostname")) ((codes "msg") ∷ [])))
text_1257 = refl

text_1258 : expression_of (codes "inventory_hostname.rc is defined") ≡ Some (defined (variable (codes "inventory_hostname")) ((codes "rc") ∷ []))
text_1258 = refl

text_1259 : expression_of (codes "inventory_hostname.results == 1") ≡ Some (comparison equal (path (variable (codes "inventory_hostname")) ((codes "results") ∷ [])) (literal (int (pos 1))))
text_1259 = refl

text_1260 : expression_of (codes "inventory_hostname.stdout == 1") ≡ Some (comparison equal (path (variable (codes "inventory_hostname")) ((codes "stdout") ∷ [])) (literal (int (pos 1))))
text_1260 = refl

text_1261 : expression_of (codes "inventory_hostname.stdout is not defined") ≡ Some (negation (defined (variable (codes "inventory_hostname")) ((codes "stdout") ∷ [])))
text_1261 = refl

text_1262 : expression_of (codes "inventory_hostname.stdout is undefined") ≡ Some (negation (defined (variable (codes "inventory_hostname")) ((codes "stdout") ∷ [])))
text_1262 = refl

text_1263 : expression_of (codes "inventory_hostname.stdout_lines is failed") ≡ Some (path_status is_failed (variable (codes "inventory_hostname")) ((codes "stdout_lines") ∷ []))
text_1263 = refl

text_1264 : expression_of (codes "is") ≡ None
text_1264 = refl

text_1265 : expression_of (codes "item") ≡ Some (path (variable (codes "item")) ([]))
text_1265 = refl

text_1266 : expression_of (codes "item != 2") ≡ Some (negation (comparison equal (path (variable (codes "item")) ([])) (literal (int (pos 2)))))
text_1266 = refl

text_1267 : expression_of (codes "item != 3") ≡ Some (negation (comparison equal (path (variable (codes "item")) ([])) (literal (int (pos 3)))))
text_1267 = refl

text_1268 : expression_of (codes "item == 1") ≡ Some (comparison equal (path (variable (codes "item")) ([])) (literal (int (pos 1))))
text_1268 = refl

text_1269 : expression_of (codes "item in ansible_play_batch") ≡ Some (in_batch item_host)
text_1269 = refl

text_1270 : expression_of (codes "item is failed") ≡ Some (path_status is_failed (variable (codes "item")) ([]))
text_1270 = refl

text_1271 : expression_of (codes "item is not defined") ≡ Some (negation (defined (variable (codes "item")) ([])))
text_1271 = refl

text_1272 : expression_of (codes "item is not failed") ≡ Some (negation (path_status is_failed (variable (codes "item")) ([])))
text_1272 = refl

text_1273 : expression_of (codes "item is not skipped") ≡ Some (negation (path_status is_skipped (variable (codes "item")) ([])))
text_1273 = refl

text_1274 : expression_of (codes "item not in ansible_play_batch") ≡ Some (negation (in_batch item_host))
text_1274 = refl

text_1275 : expression_of (codes "item.changed is failed") ≡ Some (path_status is_failed (variable (codes "item")) ((codes "changed") ∷ []))
text_1275 = refl

text_1276 : expression_of (codes "item.f is defined") ≡ Some (defined (variable (codes "item")) ((codes "f") ∷ []))
text_1276 = refl

text_1277 : expression_of (codes "item.hostname is defined") ≡ Some (defined (variable (codes "item")) ((codes "hostname") ∷ []))
text_1277 = refl

text_1278 : expression_of (codes "item.k == 1") ≡ Some (comparison equal (path (variable (codes "item")) ((codes "k") ∷ [])) (literal (int (pos 1))))
text_1278 = refl

text_1279 : expression_of (codes "item.k is changed") ≡ Some (path_status is_changed (variable (codes "item")) ((codes "k") ∷ []))
text_1279 = refl

text_1280 : expression_of (codes "item.rc is defined") ≡ Some (defined (variable (codes "item")) ((codes "rc") ∷ []))
text_1280 = refl

text_1281 : expression_of (codes "item.skipped is defined") ≡ Some (defined (variable (codes "item")) ((codes "skipped") ∷ []))
text_1281 = refl

text_1282 : expression_of (codes "none == none") ≡ Some (comparison equal (literal null) (literal null))
text_1282 = refl

text_1283 : expression_of (codes "nope and r1.g.stderr==r1.failed") ≡ Some (conjunction (expression (path (variable (codes "nope")) ([])) (expression (comparison equal (path (variable (codes "r1")) ((codes "g") ∷ (codes "stderr") ∷ [])) (path (variable (codes "r1")) ((codes "failed") ∷ []))) (no_expressions))))
text_1283 = refl

text_1284 : expression_of (codes "nope.x") ≡ Some (path (variable (codes "nope")) ((codes "x") ∷ []))
text_1284 = refl

text_1285 : expression_of (codes "not") ≡ None
text_1285 = refl

text_1286 : expression_of (codes "not ((ansible_hostname < 3) and (r.failed is defined))") ≡ Some (negation (conjunction (expression (comparison less (path (variable (codes "ansible_hostname")) ([])) (literal (int (pos 3)))) (expression (defined (variable (codes "r")) ((codes "failed") ∷ [])) (no_expressions)))))
text_1286 = refl

text_1287 : expression_of (codes "not ((ansible_play_batch == 1) or (r1 is succeeded))") ≡ Some (negation (disjunction (expression (comparison equal (path (variable (codes "ansible_play_batch")) ([])) (literal (int (pos 1)))) (expression (negation (path_status is_failed (variable (codes "r1")) ([]))) (no_expressions)))))
text_1287 = refl

text_1288 : expression_of (codes "not ((false))") ≡ Some (negation (literal (boolean false)))
text_1288 = refl

text_1289 : expression_of (110 ∷ 111 ∷ 116 ∷ 32 ∷ 40 ∷ 40 ∷ 104 ∷ 111 ∷ 115 ∷ 116 ∷ 118 ∷ 97 ∷ 114 ∷ 115 ∷ 91 ∷ 105 ∷ 110 ∷ 118 ∷ 101 ∷ 110 ∷ 116 ∷ 111 ∷ 114 ∷ 121 ∷ 95 ∷ 104 ∷ 111 ∷ 115 ∷ 116 ∷ 110 ∷ 97 ∷ 109 ∷ 101 ∷ 93 ∷ 46 ∷ 105 ∷ 110 ∷ 118 ∷ 32 ∷ 105 ∷ 115 ∷ 32 ∷ 102 ∷ 97 ∷ 105 ∷ 108 ∷ 101 ∷ 100 ∷ 41 ∷ 32 ∷ 97 ∷ 110 ∷ 100 ∷ 32 ∷ 40 ∷ 114 ∷ 46 ∷ 99 ∷ 104 ∷ 97 ∷ 110 ∷ 103 ∷ 101 ∷ 100 ∷ 32 ∷ 105 ∷ 115 ∷ 32 ∷ 110 ∷ 111 ∷ 116 ∷ 32 ∷ 100 ∷ 101 ∷ 102 ∷ 105 ∷ 110 ∷ 101 ∷ 100 ∷ 41 ∷ 41 ∷ []) ≡ Some (negation (conjunction (expression (path_status is_failed (other this_host (codes "inv")) ([])) (expression (negation (defined (variable (codes "r")) ((codes "changed") ∷ []))) (no_expressions)))))
text_1289 = refl

text_1290 : expression_of (110 ∷ 111 ∷ 116 ∷ 32 ∷ 40 ∷ 40 ∷ 104 ∷ 111 ∷ 115 ∷ 116 ∷ 118 ∷ 97 ∷ 114 ∷ 115 ∷ 91 ∷ 105 ∷ 110 ∷ 118 ∷ 101 ∷ 110 ∷ 116 ∷ 111 ∷ 114 ∷ 121 ∷ 95 ∷ 104 ∷ 111 ∷ 115 ∷ 116 ∷ 110 ∷ 97 ∷ 109 ∷ 101 ∷ 93 ∷ 46 ∷ 105 ∷ 110 ∷ 118 ∷ 32 ∷ 105 ∷ 115 ∷ 32 ∷ 115 ∷ 107 ∷ 105 ∷ 112 ∷ 112 ∷ 101 ∷ 100 ∷ 41 ∷ 32 ∷ 111 ∷ 114 ∷ 32 ∷ 40 ∷ 114 ∷ 46 ∷ 114 ∷ 99 ∷ 32 ∷ 61 ∷ 61 ∷ 32 ∷ 49 ∷ 41 ∷ 41 ∷ []) ≡ Some (negation (disjunction (expression (path_status is_skipped (other this_host (codes "inv")) ([])) (expression (comparison equal (path (variable (codes "r")) ((codes "rc") ∷ [])) (literal (int (pos 1)))) (no_expressions)))))
text_1290 = refl

text_1291 : expression_of (codes "not ((inv is succeeded) or (inv.rc is defined))") ≡ Some (negation (disjunction (expression (negation (path_status is_failed (variable (codes "inv")) ([]))) (expression (defined (variable (codes "inv")) ((codes "rc") ∷ [])) (no_expressions)))))
text_1291 = refl

text_1292 : expression_of (codes "not ((inventory_hostname is not skipped) and (item.msg is undefined))") ≡ Some (negation (conjunction (expression (negation (path_status is_skipped (variable (codes "inventory_hostname")) ([]))) (expression (negation (defined (variable (codes "item")) ((codes "msg") ∷ []))) (no_expressions)))))
text_1292 = refl

text_1293 : expression_of (codes "not ((r.rc is not skipped) or (group_names.results))") ≡ Some (negation (disjunction (expression (negation (path_status is_skipped (variable (codes "r")) ((codes "rc") ∷ []))) (expression (path (variable (codes "group_names")) ((codes "results") ∷ [])) (no_expressions)))))
text_1293 = refl

text_1294 : expression_of (codes "not ((r.stdout) or (ansible_facts is changed))") ≡ Some (negation (disjunction (expression (path (variable (codes "r")) ((codes "stdout") ∷ [])) (expression (path_status is_changed (variable (codes "ansible_facts")) ([])) (no_expressions)))))
text_1294 = refl

text_1295 : expression_of (codes "not ((r1 is not skipped) and (r3.failed is undefined))") ≡ Some (negation (conjunction (expression (negation (path_status is_skipped (variable (codes "r1")) ([]))) (expression (negation (defined (variable (codes "r3")) ((codes "failed") ∷ []))) (no_expressions)))))
text_1295 = refl

text_1296 : expression_of (110 ∷ 111 ∷ 116 ∷ 32 ∷ 40 ∷ 40 ∷ 114 ∷ 49 ∷ 32 ∷ 124 ∷ 32 ∷ 100 ∷ 101 ∷ 102 ∷ 97 ∷ 117 ∷ 108 ∷ 116 ∷ 40 ∷ 102 ∷ 97 ∷ 108 ∷ 115 ∷ 101 ∷ 41 ∷ 41 ∷ 32 ∷ 97 ∷ 110 ∷ 100 ∷ 32 ∷ 40 ∷ 115 ∷ 49 ∷ 46 ∷ 115 ∷ 116 ∷ 100 ∷ 111 ∷ 117 ∷ 116 ∷ 32 ∷ 124 ∷ 32 ∷ 100 ∷ 101 ∷ 102 ∷ 97 ∷ 117 ∷ 108 ∷ 116 ∷ 40 ∷ 102 ∷ 97 ∷ 108 ∷ 115 ∷ 101 ∷ 41 ∷ 41 ∷ 41 ∷ []) ≡ Some (negation (conjunction (expression (path_or (variable (codes "r1")) ([]) (literal (boolean false))) (expression (path_or (variable (codes "s1")) ((codes "stdout") ∷ []) (literal (boolean false))) (no_expressions)))))
text_1296 = refl

text_1297 : expression_of (codes "not ((s.stdout == 1) or (inventory_hostname is changed))") ≡ Some (negation (disjunction (expression (comparison equal (path (variable (codes "s")) ((codes "stdout") ∷ [])) (literal (int (pos 1)))) (expression (path_status is_changed (variable (codes "inventory_hostname")) ([])) (no_expressions)))))
text_1297 = refl

text_1298 : expression_of (codes "not ((v3.changed is defined) or (s2 != 1))") ≡ Some (negation (disjunction (expression (defined (variable (codes "v3")) ((codes "changed") ∷ [])) (expression (negation (comparison equal (path (variable (codes "s2")) ([])) (literal (int (pos 1))))) (no_expressions)))))
text_1298 = refl

text_1299 : expression_of (codes "not (ansible_facts.changed is failed)") ≡ Some (negation (path_status is_failed (variable (codes "ansible_facts")) ((codes "changed") ∷ [])))
text_1299 = refl

text_1300 : expression_of (codes "not (ansible_facts.rc is failed)") ≡ Some (negation (path_status is_failed (variable (codes "ansible_facts")) ((codes "rc") ∷ [])))
text_1300 = refl

text_1301 : expression_of (110 ∷ 111 ∷ 116 ∷ 32 ∷ 40 ∷ 97 ∷ 110 ∷ 115 ∷ 105 ∷ 98 ∷ 108 ∷ 101 ∷ 95 ∷ 102 ∷ 97 ∷ 105 ∷ 108 ∷ 101 ∷ 100 ∷ 95 ∷ 114 ∷ 101 ∷ 115 ∷ 117 ∷ 108 ∷ 116 ∷ 46 ∷ 109 ∷ 115 ∷ 103 ∷ 32 ∷ 124 ∷ 32 ∷ 100 ∷ 101 ∷ 102 ∷ 97 ∷ 117 ∷ 108 ∷ 116 ∷ 40 ∷ 102 ∷ 97 ∷ 108 ∷ 115 ∷ 101 ∷ 41 ∷ 41 ∷ []) ≡ Some (negation (path_or (variable (codes "ansible_failed_result")) ((codes "msg") ∷ []) (literal (boolean false))))
text_1301 = refl

text_1302 : expression_of (codes "not (ansible_hostname.stdout is defined)") ≡ Some (negation (defined (variable (codes "ansible_hostname")) ((codes "stdout") ∷ [])))
text_1302 = refl

text_1303 : expression_of (codes "not (ansible_os_family is not defined)") ≡ Some (negation (negation (defined (variable (codes "ansible_os_family")) ([]))))
text_1303 = refl

text_1304 : expression_of (codes "not (ansible_play_batch == true)") ≡ Some (negation (comparison equal (path (variable (codes "ansible_play_batch")) ([])) (literal (boolean true))))
text_1304 = refl

text_1305 : expression_of (codes "not (ansible_play_batch is defined)") ≡ Some (negation (defined (variable (codes "ansible_play_batch")) ([])))
text_1305 = refl

text_1306 : expression_of (codes "not (ansible_play_batch is failed)") ≡ Some (negation (path_status is_failed (variable (codes "ansible_play_batch")) ([])))
text_1306 = refl

text_1307 : expression_of (codes "not (group_names is undefined)") ≡ Some (negation (negation (defined (variable (codes "group_names")) ([]))))
text_1307 = refl

text_1308 : expression_of (codes "not (groups.all is defined)") ≡ Some (negation (defined (variable (codes "groups")) ((codes "all") ∷ [])))
text_1308 = refl

text_1309 : expression_of (110 ∷ 111 ∷ 116 ∷ 32 ∷ 40 ∷ 103 ∷ 114 ∷ 111 ∷ 117 ∷ 112 ∷ 115 ∷ 46 ∷ 97 ∷ 108 ∷ 108 ∷ 32 ∷ 124 ∷ 32 ∷ 100 ∷ 101 ∷ 102 ∷ 97 ∷ 117 ∷ 108 ∷ 116 ∷ 40 ∷ 102 ∷ 97 ∷ 108 ∷ 115 ∷ 101 ∷ 41 ∷ 41 ∷ []) ≡ Some (negation (path_or (variable (codes "groups")) ((codes "all") ∷ []) (literal (boolean false))))
text_1309 = refl

text_1310 : expression_of (codes "not (groups.g is undefined)") ≡ Some (negation (negation (defined (variable (codes "groups")) ((codes "g") ∷ []))))
text_1310 = refl

text_1311 : expression_of (110 ∷ 111 ∷ 116 ∷ 32 ∷ 40 ∷ 104 ∷ 111 ∷ 115 ∷ 116 ∷ 118 ∷ 97 ∷ 114 ∷ 115 ∷ 91 ∷ 105 ∷ 110 ∷ 118 ∷ 101 ∷ 110 ∷ 116 ∷ 111 ∷ 114 ∷ 121 ∷ 95 ∷ 104 ∷ 111 ∷ 115 ∷ 116 ∷ 110 ∷ 97 ∷ 109 ∷ 101 ∷ 93 ∷ 46 ∷ 105 ∷ 110 ∷ 118 ∷ 32 ∷ 105 ∷ 115 ∷ 32 ∷ 100 ∷ 101 ∷ 102 ∷ 105 ∷ 110 ∷ 101 ∷ 100 ∷ 41 ∷ []) ≡ Some (negation (defined (other this_host (codes "inv")) ([])))
text_1311 = refl

text_1312 : expression_of (110 ∷ 111 ∷ 116 ∷ 32 ∷ 40 ∷ 104 ∷ 111 ∷ 115 ∷ 116 ∷ 118 ∷ 97 ∷ 114 ∷ 115 ∷ 91 ∷ 105 ∷ 110 ∷ 118 ∷ 101 ∷ 110 ∷ 116 ∷ 111 ∷ 114 ∷ 121 ∷ 95 ∷ 104 ∷ 111 ∷ 115 ∷ 116 ∷ 110 ∷ 97 ∷ 109 ∷ 101 ∷ 93 ∷ 46 ∷ 115 ∷ 49 ∷ 32 ∷ 105 ∷ 115 ∷ 32 ∷ 100 ∷ 101 ∷ 102 ∷ 105 ∷ 110 ∷ 101 ∷ 100 ∷ 41 ∷ []) ≡ Some (negation (defined (other this_host (codes "s1")) ([])))
text_1312 = refl

text_1313 : expression_of (110 ∷ 111 ∷ 116 ∷ 32 ∷ 40 ∷ 104 ∷ 111 ∷ 115 ∷ 116 ∷ 118 ∷ 97 ∷ 114 ∷ 115 ∷ 91 ∷ 105 ∷ 110 ∷ 118 ∷ 101 ∷ 110 ∷ 116 ∷ 111 ∷ 114 ∷ 121 ∷ 95 ∷ 104 ∷ 111 ∷ 115 ∷ 116 ∷ 110 ∷ 97 ∷ 109 ∷ 101 ∷ 93 ∷ 46 ∷ 115 ∷ 49 ∷ 46 ∷ 102 ∷ 32 ∷ 124 ∷ 32 ∷ 100 ∷ 101 ∷ 102 ∷ 97 ∷ 117 ∷ 108 ∷ 116 ∷ 40 ∷ 102 ∷ 97 ∷ 108 ∷ 115 ∷ 101 ∷ 41 ∷ 41 ∷ []) ≡ Some (negation (path_or (other this_host (codes "s1")) ((codes "f") ∷ []) (literal (boolean false))))
text_1313 = refl

text_1314 : expression_of (codes "not (i1 is not defined)") ≡ Some (negation (negation (defined (variable (codes "i1")) ([]))))
text_1314 = refl

text_1315 : expression_of (110 ∷ 111 ∷ 116 ∷ 32 ∷ 40 ∷ 105 ∷ 49 ∷ 32 ∷ 124 ∷ 32 ∷ 100 ∷ 101 ∷ 102 ∷ 97 ∷ 117 ∷ 108 ∷ 116 ∷ 40 ∷ 102 ∷ 97 ∷ 108 ∷ 115 ∷ 101 ∷ 41 ∷ 41 ∷ []) ≡ Some (negation (path_or (variable (codes "i1")) ([]) (literal (boolean false))))
text_1315 = refl

text_1316 : expression_of (codes "not (i2 is defined)") ≡ Some (negation (defined (variable (codes "i2")) ([])))
text_1316 = refl

text_1317 : expression_of (codes "not (inventory_hostname < 3)") ≡ Some (negation (comparison less (path (variable (codes "inventory_hostname")) ([])) (literal (int (pos 3)))))
text_1317 = refl

text_1318 : expression_of (codes "not (inventory_hostname in ansible_play_batch)") ≡ Some (negation (in_batch this_host))
text_1318 = refl

text_1319 : expression_of (codes "not (inventory_hostname is undefined)") ≡ Some (negation (negation (defined (variable (codes "inventory_hostname")) ([]))))
text_1319 = refl

text_1320 : expression_of (codes "not (inventory_hostname.results == 1)") ≡ Some (negation (comparison equal (path (variable (codes "inventory_hostname")) ((codes "results") ∷ [])) (literal (int (pos 1)))))
text_1320 = refl

text_1321 : expression_of (codes "not (item in ansible_play_batch)") ≡ Some (negation (in_batch item_host))
text_1321 = refl

text_1322 : expression_of (codes "not (item is skipped)") ≡ Some (negation (path_status is_skipped (variable (codes "item")) ([])))
text_1322 = refl

text_1323 : expression_of (codes "not (not (r1.failed is undefined))") ≡ Some (negation (negation (negation (defined (variable (codes "r1")) ((codes "failed") ∷ [])))))
text_1323 = refl

text_1324 : expression_of (110 ∷ 111 ∷ 116 ∷ 32 ∷ 40 ∷ 110 ∷ 111 ∷ 116 ∷ 32 ∷ 40 ∷ 114 ∷ 49 ∷ 46 ∷ 102 ∷ 97 ∷ 105 ∷ 108 ∷ 101 ∷ 100 ∷ 32 ∷ 124 ∷ 32 ∷ 100 ∷ 101 ∷ 102 ∷ 97 ∷ 117 ∷ 108 ∷ 116 ∷ 40 ∷ 102 ∷ 97 ∷ 108 ∷ 115 ∷ 101 ∷ 41 ∷ 41 ∷ 41 ∷ []) ≡ Some (negation (negation (path_or (variable (codes "r1")) ((codes "failed") ∷ []) (literal (boolean false)))))
text_1324 = refl

text_1325 : expression_of (codes "not (not (r2 is failed))") ≡ Some (negation (negation (path_status is_failed (variable (codes "r2")) ([]))))
text_1325 = refl

text_1326 : expression_of (codes "not (not (r3 is defined and r3 is failed and r3.failed == 1))") ≡ Some (negation (negation (conjunction (expression (defined (variable (codes "r3")) ([])) (expression (path_status is_failed (variable (codes "r3")) ([])) (expression (comparison equal (path (variable (codes "r3")) ((codes "failed") ∷ [])) (literal (int (pos 1)))) (no_expressions)))))))
text_1326 = refl

text_1327 : expression_of (codes "not (not (s.changed is failed))") ≡ Some (negation (negation (path_status is_failed (variable (codes "s")) ((codes "changed") ∷ []))))
text_1327 = refl

text_1328 : expression_of (codes "not (not (v2.changed is skipped))") ≡ Some (negation (negation (path_status is_skipped (variable (codes "v2")) ((codes "changed") ∷ []))))
text_1328 = refl

text_1329 : expression_of (codes "not (out is skipped)") ≡ Some (negation (path_status is_skipped (variable (codes "out")) ([])))
text_1329 = refl

text_1330 : expression_of (codes "not (r.rc is defined)") ≡ Some (negation (defined (variable (codes "r")) ((codes "rc") ∷ [])))
text_1330 = refl

text_1331 : expression_of (codes "not (r.results is succeeded)") ≡ Some (negation (negation (path_status is_failed (variable (codes "r")) ((codes "results") ∷ []))))
text_1331 = refl

text_1332 : expression_of (codes "not (r1 is failed)") ≡ Some (negation (path_status is_failed (variable (codes "r1")) ([])))
text_1332 = refl

text_1333 : expression_of (codes "not (r1 is not skipped)") ≡ Some (negation (negation (path_status is_skipped (variable (codes "r1")) ([]))))
text_1333 = refl

text_1334 : expression_of (codes "not (r1 is not succeeded)") ≡ Some (negation (negation (negation (path_status is_failed (variable (codes "r1")) ([])))))
text_1334 = refl

text_1335 : expression_of (codes "not (r1 is succeeded)") ≡ Some (negation (negation (path_status is_failed (variable (codes "r1")) ([]))))
text_1335 = refl

text_1336 : expression_of (110 ∷ 111 ∷ 116 ∷ 32 ∷ 40 ∷ 114 ∷ 49 ∷ 32 ∷ 124 ∷ 32 ∷ 100 ∷ 101 ∷ 102 ∷ 97 ∷ 117 ∷ 108 ∷ 116 ∷ 40 ∷ 102 ∷ 97 ∷ 108 ∷ 115 ∷ 101 ∷ 41 ∷ 41 ∷ []) ≡ Some (negation (path_or (variable (codes "r1")) ([]) (literal (boolean false))))
text_1336 = refl

text_1337 : expression_of (codes "not (r1.failed is defined)") ≡ Some (negation (defined (variable (codes "r1")) ((codes "failed") ∷ [])))
text_1337 = refl

text_1338 : expression_of (codes "not (r1.failed is not defined)") ≡ Some (negation (negation (defined (variable (codes "r1")) ((codes "failed") ∷ []))))
text_1338 = refl

text_1339 : expression_of (110 ∷ 111 ∷ 116 ∷ 32 ∷ 40 ∷ 114 ∷ 49 ∷ 46 ∷ 102 ∷ 97 ∷ 105 ∷ 108 ∷ 101 ∷ 100 ∷ 32 ∷ 124 ∷ 32 ∷ 100 ∷ 101 ∷ 102 ∷ 97 ∷ 117 ∷ 108 ∷ 116 ∷ 40 ∷ 102 ∷ 97 ∷ 108 ∷ 115 ∷ 101 ∷ 41 ∷ 41 ∷ []) ≡ Some (negation (path_or (variable (codes "r1")) ((codes "failed") ∷ []) (literal (boolean false))))
text_1339 = refl

text_1340 : expression_of (110 ∷ 111 ∷ 116 ∷ 32 ∷ 40 ∷ 114 ∷ 49 ∷ 46 ∷ 115 ∷ 107 ∷ 105 ∷ 112 ∷ 112 ∷ 101 ∷ 100 ∷ 32 ∷ 124 ∷ 32 ∷ 100 ∷ 101 ∷ 102 ∷ 97 ∷ 117 ∷ 108 ∷ 116 ∷ 40 ∷ 102 ∷ 97 ∷ 108 ∷ 115 ∷ 101 ∷ 41 ∷ 41 ∷ []) ≡ Some (negation (path_or (variable (codes "r1")) ((codes "skipped") ∷ []) (literal (boolean false))))
text_1340 = refl

text_1341 : expression_of (codes "not (r2 is not skipped)") ≡ Some (negation (negation (path_status is_skipped (variable (codes "r2")) ([]))))
text_1341 = refl

text_1342 : expression_of (codes "not (r2 is not succeeded)") ≡ Some (negation (negation (negation (path_status is_failed (variable (codes "r2")) ([])))))
text_1342 = refl

text_1343 : expression_of (codes "not (r2 is skipped)") ≡ Some (negation (path_status is_skipped (variable (codes "r2")) ([])))
text_1343 = refl

text_1344 : expression_of (codes "not (r2.changed is undefined)") ≡ Some (negation (negation (defined (variable (codes "r2")) ((codes "changed") ∷ []))))
text_1344 = refl

text_1345 : expression_of (codes "not (r2.failed is defined)") ≡ Some (negation (defined (variable (codes "r2")) ((codes "failed") ∷ [])))
text_1345 = refl

text_1346 : expression_of (codes "not (r2.rows is not defined)") ≡ Some (negation (negation (defined (variable (codes "r2")) ((codes "rows") ∷ []))))
text_1346 = refl

text_1347 : expression_of (codes "not (r3 is defined)") ≡ Some (negation (defined (variable (codes "r3")) ([])))
text_1347 = refl

text_1348 : expression_of (codes "not (r3 is failed)") ≡ Some (negation (path_status is_failed (variable (codes "r3")) ([])))
text_1348 = refl

text_1349 : expression_of (codes "not (r3 is not failed)") ≡ Some (negation (negation (path_status is_failed (variable (codes "r3")) ([]))))
text_1349 = refl

text_1350 : expression_of (codes "not (r3 is not skipped)") ≡ Some (negation (negation (path_status is_skipped (variable (codes "r3")) ([]))))
text_1350 = refl

text_1351 : expression_of (codes "not (r3.ansible_facts.ansible_os_family is undefined)") ≡ Some (negation (negation (defined (variable (codes "r3")) ((codes "ansible_facts") ∷ (codes "ansible_os_family") ∷ []))))
text_1351 = refl

text_1352 : expression_of (codes "not (r3.changed == true)") ≡ Some (negation (comparison equal (path (variable (codes "r3")) ((codes "changed") ∷ [])) (literal (boolean true))))
text_1352 = refl

text_1353 : expression_of (110 ∷ 111 ∷ 116 ∷ 32 ∷ 40 ∷ 114 ∷ 51 ∷ 46 ∷ 99 ∷ 104 ∷ 97 ∷ 110 ∷ 103 ∷ 101 ∷ 100 ∷ 32 ∷ 124 ∷ 32 ∷ 100 ∷ 101 ∷ 102 ∷ 97 ∷ 117 ∷ 108 ∷ 116 ∷ 40 ∷ 102 ∷ 97 ∷ 108 ∷ 115 ∷ 101 ∷ 41 ∷ 41 ∷ []) ≡ Some (negation (path_or (variable (codes "r3")) ((codes "changed") ∷ []) (literal (boolean false))))
text_1353 = refl

text_1354 : expression_of (codes "not (r3.ping == 1)") ≡ Some (negation (comparison equal (path (variable (codes "r3")) ((codes "ping") ∷ [])) (literal (int (pos 1)))))
text_1354 = refl

text_1355 : expression_of (codes "not (r3.skip_reason == 1)") ≡ Some (negation (comparison equal (path (variable (codes "r3")) ((codes "skip_reason") ∷ [])) (literal (int (pos 1)))))
text_1355 = refl

text_1356 : expression_of (codes "not (r3.skipped is defined)") ≡ Some (negation (defined (variable (codes "r3")) ((codes "skipped") ∷ [])))
text_1356 = refl

text_1357 : expression_of (codes "not (s1 is defined)") ≡ Some (negation (defined (variable (codes "s1")) ([])))
text_1357 = refl

text_1358 : expression_of (codes "not (s1 is undefined)") ≡ Some (negation (negation (defined (variable (codes "s1")) ([]))))
text_1358 = refl

text_1359 : expression_of (codes "not (v1 is undefined)") ≡ Some (negation (negation (defined (variable (codes "v1")) ([]))))
text_1359 = refl

text_1360 : expression_of (codes "not (zz.rc is succeeded)") ≡ Some (negation (negation (path_status is_failed (variable (codes "zz")) ((codes "rc") ∷ []))))
text_1360 = refl

text_1361 : expression_of (codes "not 1") ≡ Some (negation (literal (int (pos 1))))
text_1361 = refl

text_1362 : expression_of (110 ∷ 111 ∷ 116 ∷ 32 ∷ 49 ∷ 32 ∷ 105 ∷ 110 ∷ 32 ∷ 91 ∷ 49 ∷ 93 ∷ []) ≡ Some (negation (membership (literal (int (pos 1))) (list_of (expression (literal (int (pos 1))) (no_expressions)))))
text_1362 = refl

text_1363 : expression_of (codes "not False") ≡ Some (negation (literal (boolean false)))
text_1363 = refl

text_1364 : expression_of (codes "not True==(r3)") ≡ Some (negation (comparison equal (literal (boolean true)) (path (variable (codes "r3")) ([]))))
text_1364 = refl

text_1365 : expression_of (codes "not group_names and nope and not r1.skipped") ≡ Some (conjunction (expression (negation (path (variable (codes "group_names")) ([]))) (expression (path (variable (codes "nope")) ([])) (expression (negation (path (variable (codes "r1")) ((codes "skipped") ∷ []))) (no_expressions)))))
text_1365 = refl

text_1366 : expression_of (codes "not not not not not not not not not not not not not not not not ((((((((((((((((true))))))))))))))))") ≡ Some (negation (negation (negation (negation (negation (negation (negation (negation (negation (negation (negation (negation (negation (negation (negation (negation (literal (boolean true))))))))))))))))))
text_1366 = refl

text_1367 : expression_of (codes "not not not not not not not not not not not not not not not not not ((((((((((((((((true))))))))))))))))") ≡ None
text_1367 = refl

text_1368 : expression_of (codes "not not not not not not not not not not not not not not not not not not not not not not not not not not not not not not not not not ") ≡ None
text_1368 = refl

text_1369 : expression_of (codes "not not r1.skip_reason.stderr_lines and true") ≡ Some (conjunction (expression (negation (negation (path (variable (codes "r1")) ((codes "skip_reason") ∷ (codes "stderr_lines") ∷ [])))) (expression (literal (boolean true)) (no_expressions))))
text_1369 = refl

text_1370 : expression_of (codes "not r1") ≡ Some (negation (path (variable (codes "r1")) ([])))
text_1370 = refl

text_1371 : expression_of (codes "not r1.failed and r1.changed") ≡ Some (conjunction (expression (negation (path (variable (codes "r1")) ((codes "failed") ∷ []))) (expression (path (variable (codes "r1")) ((codes "changed") ∷ [])) (no_expressions))))
text_1371 = refl

text_1372 : expression_of (codes "not r1.failed and r2.changed") ≡ Some (conjunction (expression (negation (path (variable (codes "r1")) ((codes "failed") ∷ []))) (expression (path (variable (codes "r2")) ((codes "changed") ∷ [])) (no_expressions))))
text_1372 = refl

text_1373 : expression_of (codes "not r1.failed in r1 or r1.rc") ≡ Some (disjunction (expression (negation (membership (path (variable (codes "r1")) ((codes "failed") ∷ [])) (path (variable (codes "r1")) ([])))) (expression (path (variable (codes "r1")) ((codes "rc") ∷ [])) (no_expressions))))
text_1373 = refl

text_1374 : expression_of (codes "not r2.failed and r2.changed") ≡ Some (conjunction (expression (negation (path (variable (codes "r2")) ((codes "failed") ∷ []))) (expression (path (variable (codes "r2")) ((codes "changed") ∷ [])) (no_expressions))))
text_1374 = refl

text_1375 : expression_of (codes "not r3.failed and r3.changed") ≡ Some (conjunction (expression (negation (path (variable (codes "r3")) ((codes "failed") ∷ []))) (expression (path (variable (codes "r3")) ((codes "changed") ∷ [])) (no_expressions))))
text_1375 = refl

text_1376 : expression_of (codes "not.a") ≡ None
text_1376 = refl

text_1377 : expression_of (codes "null") ≡ Some (path (variable (codes "null")) ([]))
text_1377 = refl

text_1378 : expression_of (111 ∷ 46 ∷ 115 ∷ 116 ∷ 97 ∷ 116 ∷ 32 ∷ 124 ∷ 32 ∷ 108 ∷ 101 ∷ 110 ∷ 103 ∷ 116 ∷ 104 ∷ 32 ∷ 61 ∷ 61 ∷ 32 ∷ 49 ∷ []) ≡ Some (comparison equal (length_of (path (variable (codes "o")) ((codes "stat") ∷ []))) (literal (int (pos 1))))
text_1378 = refl

text_1379 : expression_of (111 ∷ 112 ∷ 32 ∷ 33 ∷ 61 ∷ 32 ∷ 91 ∷ 49 ∷ 93 ∷ []) ≡ Some (negation (comparison equal (path (variable (codes "op")) ([])) (list_of (expression (literal (int (pos 1))) (no_expressions)))))
text_1379 = refl

text_1380 : expression_of (codes "op == 1") ≡ Some (comparison equal (path (variable (codes "op")) ([])) (literal (int (pos 1))))
text_1380 = refl

text_1381 : expression_of (codes "op == true") ≡ Some (comparison equal (path (variable (codes "op")) ([])) (literal (boolean true)))
text_1381 = refl

text_1382 : expression_of (codes "op is defined") ≡ Some (defined (variable (codes "op")) ([]))
text_1382 = refl

text_1383 : expression_of (codes "op is failed") ≡ Some (path_status is_failed (variable (codes "op")) ([]))
text_1383 = refl

text_1384 : expression_of (codes "op is not defined") ≡ Some (negation (defined (variable (codes "op")) ([])))
text_1384 = refl

text_1385 : expression_of (codes "op is not failed") ≡ Some (negation (path_status is_failed (variable (codes "op")) ([])))
text_1385 = refl

text_1386 : expression_of (codes "op is undefined") ≡ Some (negation (defined (variable (codes "op")) ([])))
text_1386 = refl

text_1387 : expression_of (codes "op.f is defined") ≡ Some (defined (variable (codes "op")) ((codes "f") ∷ []))
text_1387 = refl

text_1388 : expression_of (111 ∷ 112 ∷ 46 ∷ 103 ∷ 32 ∷ 124 ∷ 32 ∷ 100 ∷ 101 ∷ 102 ∷ 97 ∷ 117 ∷ 108 ∷ 116 ∷ 40 ∷ 102 ∷ 97 ∷ 108 ∷ 115 ∷ 101 ∷ 41 ∷ []) ≡ Some (path_or (variable (codes "op")) ((codes "g") ∷ []) (literal (boolean false)))
text_1388 = refl

text_1389 : expression_of (codes "op.rc != true") ≡ Some (negation (comparison equal (path (variable (codes "op")) ((codes "rc") ∷ [])) (literal (boolean true))))
text_1389 = refl

text_1390 : expression_of (codes "op.rc is defined") ≡ Some (defined (variable (codes "op")) ((codes "rc") ∷ []))
text_1390 = refl

text_1391 : expression_of (codes "op.stdout is defined") ≡ Some (defined (variable (codes "op")) ((codes "stdout") ∷ []))
text_1391 = refl

text_1392 : expression_of (codes "opq.hostname < 3") ≡ Some (comparison less (path (variable (codes "opq")) ((codes "hostname") ∷ [])) (literal (int (pos 3))))
text_1392 = refl

text_1393 : expression_of (codes "opq.hostname is changed") ≡ Some (path_status is_changed (variable (codes "opq")) ((codes "hostname") ∷ []))
text_1393 = refl

text_1394 : expression_of (codes "opq.k") ≡ Some (path (variable (codes "opq")) ((codes "k") ∷ []))
text_1394 = refl

text_1395 : expression_of (codes "opq.k == 1") ≡ Some (comparison equal (path (variable (codes "opq")) ((codes "k") ∷ [])) (literal (int (pos 1))))
text_1395 = refl

text_1396 : expression_of (codes "opq.msg is not defined") ≡ Some (negation (defined (variable (codes "opq")) ((codes "msg") ∷ [])))
text_1396 = refl

text_1397 : expression_of (codes "opq.stat.isdir is skipped") ≡ Some (path_status is_skipped (variable (codes "opq")) ((codes "stat") ∷ (codes "isdir") ∷ []))
text_1397 = refl

text_1398 : expression_of (codes "opq.stdout_lines is skipped") ≡ Some (path_status is_skipped (variable (codes "opq")) ((codes "stdout_lines") ∷ []))
text_1398 = refl

text_1399 : expression_of (codes "out is defined") ≡ Some (defined (variable (codes "out")) ([]))
text_1399 = refl

text_1400 : expression_of (codes "out is failed") ≡ Some (path_status is_failed (variable (codes "out")) ([]))
text_1400 = refl

text_1401 : expression_of (codes "out is failed or out is changed") ≡ Some (disjunction (expression (path_status is_failed (variable (codes "out")) ([])) (expression (path_status is_changed (variable (codes "out")) ([])) (no_expressions))))
text_1401 = refl

text_1402 : expression_of (codes "out is not changed") ≡ Some (negation (path_status is_changed (variable (codes "out")) ([])))
text_1402 = refl

text_1403 : expression_of (codes "out is not skipped") ≡ Some (negation (path_status is_skipped (variable (codes "out")) ([])))
text_1403 = refl

text_1404 : expression_of (codes "out is succeeded") ≡ Some (negation (path_status is_failed (variable (codes "out")) ([])))
text_1404 = refl

text_1405 : expression_of (codes "out.rc == 0") ≡ Some (comparison equal (path (variable (codes "out")) ((codes "rc") ∷ [])) (literal (int (pos 0))))
text_1405 = refl

text_1406 : expression_of (codes "p == 1") ≡ Some (comparison equal (path (variable (codes "p")) ([])) (literal (int (pos 1))))
text_1406 = refl

text_1407 : expression_of (codes "p == 2") ≡ Some (comparison equal (path (variable (codes "p")) ([])) (literal (int (pos 2))))
text_1407 = refl

text_1408 : expression_of (codes "r == 1") ≡ Some (comparison equal (path (variable (codes "r")) ([])) (literal (int (pos 1))))
text_1408 = refl

text_1409 : expression_of (codes "r is changed") ≡ Some (path_status is_changed (variable (codes "r")) ([]))
text_1409 = refl

text_1410 : expression_of (codes "r is defined") ≡ Some (defined (variable (codes "r")) ([]))
text_1410 = refl

text_1411 : expression_of (codes "r is failed") ≡ Some (path_status is_failed (variable (codes "r")) ([]))
text_1411 = refl

text_1412 : expression_of (codes "r.changed") ≡ Some (path (variable (codes "r")) ((codes "changed") ∷ []))
text_1412 = refl

text_1413 : expression_of (codes "r.changed == 1") ≡ Some (comparison equal (path (variable (codes "r")) ((codes "changed") ∷ [])) (literal (int (pos 1))))
text_1413 = refl

text_1414 : expression_of (codes "r.changed is changed") ≡ Some (path_status is_changed (variable (codes "r")) ((codes "changed") ∷ []))
text_1414 = refl

text_1415 : expression_of (codes "r.changed is not defined") ≡ Some (negation (defined (variable (codes "r")) ((codes "changed") ∷ [])))
text_1415 = refl

text_1416 : expression_of (codes "r.changed is not skipped") ≡ Some (negation (path_status is_skipped (variable (codes "r")) ((codes "changed") ∷ [])))
text_1416 = refl

text_1417 : expression_of (codes "r.failed == 1") ≡ Some (comparison equal (path (variable (codes "r")) ((codes "failed") ∷ [])) (literal (int (pos 1))))
text_1417 = refl

text_1418 : expression_of (codes "r.failed is not skipped") ≡ Some (negation (path_status is_skipped (variable (codes "r")) ((codes "failed") ∷ [])))
text_1418 = refl

text_1419 : expression_of (codes "r.failed is undefined") ≡ Some (negation (defined (variable (codes "r")) ((codes "failed") ∷ [])))
text_1419 = refl

text_1420 : expression_of (codes "r.k is succeeded") ≡ Some (negation (path_status is_failed (variable (codes "r")) ((codes "k") ∷ [])))
text_1420 = refl

text_1421 : expression_of (codes "r.os_family == 1") ≡ Some (comparison equal (path (variable (codes "r")) ((codes "os_family") ∷ [])) (literal (int (pos 1))))
text_1421 = refl

text_1422 : expression_of (codes "r.os_family is not skipped") ≡ Some (negation (path_status is_skipped (variable (codes "r")) ((codes "os_family") ∷ [])))
text_1422 = refl

text_1423 : expression_of (codes "r.rc < 3") ≡ Some (comparison less (path (variable (codes "r")) ((codes "rc") ∷ [])) (literal (int (pos 3))))
text_1423 = refl

text_1424 : expression_of (codes "r.rc is changed") ≡ Some (path_status is_changed (variable (codes "r")) ((codes "rc") ∷ []))
text_1424 = refl

text_1425 : expression_of (codes "r.rc is skipped") ≡ Some (path_status is_skipped (variable (codes "r")) ((codes "rc") ∷ []))
text_1425 = refl

text_1426 : expression_of (codes "r.rc is succeeded") ≡ Some (negation (path_status is_failed (variable (codes "r")) ((codes "rc") ∷ [])))
text_1426 = refl

text_1427 : expression_of (codes "r.rc is undefined") ≡ Some (negation (defined (variable (codes "r")) ((codes "rc") ∷ [])))
text_1427 = refl

text_1428 : expression_of (codes "r.results < 3") ≡ Some (comparison less (path (variable (codes "r")) ((codes "results") ∷ [])) (literal (int (pos 3))))
text_1428 = refl

text_1429 : expression_of (codes "r.results == 1") ≡ Some (comparison equal (path (variable (codes "r")) ((codes "results") ∷ [])) (literal (int (pos 1))))
text_1429 = refl

text_1430 : expression_of (codes "r.stdout is changed") ≡ Some (path_status is_changed (variable (codes "r")) ((codes "stdout") ∷ []))
text_1430 = refl

text_1431 : expression_of (codes "r.stdout is failed") ≡ Some (path_status is_failed (variable (codes "r")) ((codes "stdout") ∷ []))
text_1431 = refl

text_1432 : expression_of (codes "r.stdout is not defined") ≡ Some (negation (defined (variable (codes "r")) ((codes "stdout") ∷ [])))
text_1432 = refl

text_1433 : expression_of (114 ∷ 49 ∷ 32 ∷ 33 ∷ 61 ∷ 32 ∷ 91 ∷ 49 ∷ 93 ∷ []) ≡ Some (negation (comparison equal (path (variable (codes "r1")) ([])) (list_of (expression (literal (int (pos 1))) (no_expressions)))))
text_1433 = refl

text_1434 : expression_of (codes "r1 != true") ≡ Some (negation (comparison equal (path (variable (codes "r1")) ([])) (literal (boolean true))))
text_1434 = refl

text_1435 : expression_of (codes "r1 == 1") ≡ Some (comparison equal (path (variable (codes "r1")) ([])) (literal (int (pos 1))))
text_1435 = refl

text_1436 : expression_of (codes "r1 is changed") ≡ Some (path_status is_changed (variable (codes "r1")) ([]))
text_1436 = refl

text_1437 : expression_of (codes "r1 is defined") ≡ Some (defined (variable (codes "r1")) ([]))
text_1437 = refl

text_1438 : expression_of (codes "r1 is defined and r1.changed is defined and r1.changed == 1") ≡ Some (conjunction (expression (defined (variable (codes "r1")) ([])) (expression (defined (variable (codes "r1")) ((codes "changed") ∷ [])) (expression (comparison equal (path (variable (codes "r1")) ((codes "changed") ∷ [])) (literal (int (pos 1)))) (no_expressions)))))
text_1438 = refl

text_1439 : expression_of (codes "r1 is failed") ≡ Some (path_status is_failed (variable (codes "r1")) ([]))
text_1439 = refl

text_1440 : expression_of (codes "r1 is not changed") ≡ Some (negation (path_status is_changed (variable (codes "r1")) ([])))
text_1440 = refl

text_1441 : expression_of (codes "r1 is not defined") ≡ Some (negation (defined (variable (codes "r1")) ([])))
text_1441 = refl

text_1442 : expression_of (codes "r1 is not failed") ≡ Some (negation (path_status is_failed (variable (codes "r1")) ([])))
text_1442 = refl

text_1443 : expression_of (codes "r1 is not failed and r1.stderr == 1") ≡ Some (conjunction (expression (negation (path_status is_failed (variable (codes "r1")) ([]))) (expression (comparison equal (path (variable (codes "r1")) ((codes "stderr") ∷ [])) (literal (int (pos 1)))) (no_expressions))))
text_1443 = refl

text_1444 : expression_of (codes "r1 is not skipped") ≡ Some (negation (path_status is_skipped (variable (codes "r1")) ([])))
text_1444 = refl

text_1445 : expression_of (codes "r1 is not succeeded") ≡ Some (negation (negation (path_status is_failed (variable (codes "r1")) ([]))))
text_1445 = refl

text_1446 : expression_of (codes "r1 is skipped") ≡ Some (path_status is_skipped (variable (codes "r1")) ([]))
text_1446 = refl

text_1447 : expression_of (codes "r1 is succeeded") ≡ Some (negation (path_status is_failed (variable (codes "r1")) ([])))
text_1447 = refl

text_1448 : expression_of (codes "r1 is undefined") ≡ Some (negation (defined (variable (codes "r1")) ([])))
text_1448 = refl

text_1449 : expression_of (114 ∷ 49 ∷ 32 ∷ 124 ∷ 32 ∷ 100 ∷ 101 ∷ 102 ∷ 97 ∷ 117 ∷ 108 ∷ 116 ∷ 40 ∷ 102 ∷ 97 ∷ 108 ∷ 115 ∷ 101 ∷ 41 ∷ []) ≡ Some (path_or (variable (codes "r1")) ([]) (literal (boolean false)))
text_1449 = refl

text_1450 : expression_of (114 ∷ 49 ∷ 46 ∷ 97 ∷ 110 ∷ 115 ∷ 105 ∷ 98 ∷ 108 ∷ 101 ∷ 95 ∷ 102 ∷ 97 ∷ 99 ∷ 116 ∷ 115 ∷ 46 ∷ 97 ∷ 110 ∷ 115 ∷ 105 ∷ 98 ∷ 108 ∷ 101 ∷ 95 ∷ 104 ∷ 111 ∷ 115 ∷ 116 ∷ 110 ∷ 97 ∷ 109 ∷ 101 ∷ 32 ∷ 124 ∷ 32 ∷ 100 ∷ 101 ∷ 102 ∷ 97 ∷ 117 ∷ 108 ∷ 116 ∷ 40 ∷ 116 ∷ 114 ∷ 117 ∷ 101 ∷ 41 ∷ 32 ∷ 61 ∷ 61 ∷ 32 ∷ 116 ∷ 114 ∷ 117 ∷ 101 ∷ []) ≡ Some (comparison equal (path_or (variable (codes "r1")) ((codes "ansible_facts") ∷ (codes "ansible_hostname") ∷ []) (literal (boolean true))) (literal (boolean true)))
text_1450 = refl

text_1451 : expression_of (114 ∷ 49 ∷ 46 ∷ 97 ∷ 110 ∷ 115 ∷ 105 ∷ 98 ∷ 108 ∷ 101 ∷ 95 ∷ 102 ∷ 97 ∷ 99 ∷ 116 ∷ 115 ∷ 46 ∷ 97 ∷ 110 ∷ 115 ∷ 105 ∷ 98 ∷ 108 ∷ 101 ∷ 95 ∷ 111 ∷ 115 ∷ 95 ∷ 102 ∷ 97 ∷ 109 ∷ 105 ∷ 108 ∷ 121 ∷ 32 ∷ 61 ∷ 61 ∷ 32 ∷ 91 ∷ 49 ∷ 93 ∷ []) ≡ Some (comparison equal (path (variable (codes "r1")) ((codes "ansible_facts") ∷ (codes "ansible_os_family") ∷ [])) (list_of (expression (literal (int (pos 1))) (no_expressions))))
text_1451 = refl

text_1452 : expression_of (114 ∷ 49 ∷ 46 ∷ 97 ∷ 110 ∷ 115 ∷ 105 ∷ 98 ∷ 108 ∷ 101 ∷ 95 ∷ 102 ∷ 97 ∷ 99 ∷ 116 ∷ 115 ∷ 46 ∷ 97 ∷ 110 ∷ 115 ∷ 105 ∷ 98 ∷ 108 ∷ 101 ∷ 95 ∷ 111 ∷ 115 ∷ 95 ∷ 102 ∷ 97 ∷ 109 ∷ 105 ∷ 108 ∷ 121 ∷ 32 ∷ 124 ∷ 32 ∷ 100 ∷ 101 ∷ 102 ∷ 97 ∷ 117 ∷ 108 ∷ 116 ∷ 40 ∷ 116 ∷ 114 ∷ 117 ∷ 101 ∷ 41 ∷ 32 ∷ 61 ∷ 61 ∷ 32 ∷ 116 ∷ 114 ∷ 117 ∷ 101 ∷ []) ≡ Some (comparison equal (path_or (variable (codes "r1")) ((codes "ansible_facts") ∷ (codes "ansible_os_family") ∷ []) (literal (boolean true))) (literal (boolean true)))
text_1452 = refl

text_1453 : expression_of (codes "r1.changed") ≡ Some (path (variable (codes "r1")) ((codes "changed") ∷ []))
text_1453 = refl

text_1454 : expression_of (codes "r1.changed == 1") ≡ Some (comparison equal (path (variable (codes "r1")) ((codes "changed") ∷ [])) (literal (int (pos 1))))
text_1454 = refl

text_1455 : expression_of (114 ∷ 49 ∷ 46 ∷ 99 ∷ 104 ∷ 97 ∷ 110 ∷ 103 ∷ 101 ∷ 100 ∷ 32 ∷ 61 ∷ 61 ∷ 32 ∷ 91 ∷ 49 ∷ 93 ∷ []) ≡ Some (comparison equal (path (variable (codes "r1")) ((codes "changed") ∷ [])) (list_of (expression (literal (int (pos 1))) (no_expressions))))
text_1455 = refl

text_1456 : expression_of (codes "r1.changed is defined") ≡ Some (defined (variable (codes "r1")) ((codes "changed") ∷ []))
text_1456 = refl

text_1457 : expression_of (codes "r1.changed is not defined") ≡ Some (negation (defined (variable (codes "r1")) ((codes "changed") ∷ [])))
text_1457 = refl

text_1458 : expression_of (codes "r1.changed is undefined") ≡ Some (negation (defined (variable (codes "r1")) ((codes "changed") ∷ [])))
text_1458 = refl

text_1459 : expression_of (114 ∷ 49 ∷ 46 ∷ 99 ∷ 104 ∷ 97 ∷ 110 ∷ 103 ∷ 101 ∷ 100 ∷ 32 ∷ 124 ∷ 32 ∷ 100 ∷ 101 ∷ 102 ∷ 97 ∷ 117 ∷ 108 ∷ 116 ∷ 40 ∷ 102 ∷ 97 ∷ 108 ∷ 115 ∷ 101 ∷ 41 ∷ []) ≡ Some (path_or (variable (codes "r1")) ((codes "changed") ∷ []) (literal (boolean false)))
text_1459 = refl

text_1460 : expression_of (114 ∷ 49 ∷ 46 ∷ 99 ∷ 104 ∷ 97 ∷ 110 ∷ 103 ∷ 101 ∷ 100 ∷ 32 ∷ 124 ∷ 32 ∷ 100 ∷ 101 ∷ 102 ∷ 97 ∷ 117 ∷ 108 ∷ 116 ∷ 40 ∷ 116 ∷ 114 ∷ 117 ∷ 101 ∷ 41 ∷ 32 ∷ 61 ∷ 61 ∷ 32 ∷ 116 ∷ 114 ∷ 117 ∷ 101 ∷ []) ≡ Some (comparison equal (path_or (variable (codes "r1")) ((codes "changed") ∷ []) (literal (boolean true))) (literal (boolean true)))
text_1460 = refl

text_1461 : expression_of (114 ∷ 49 ∷ 46 ∷ 100 ∷ 101 ∷ 101 ∷ 112 ∷ 32 ∷ 124 ∷ 32 ∷ 100 ∷ 101 ∷ 102 ∷ 97 ∷ 117 ∷ 108 ∷ 116 ∷ 40 ∷ 116 ∷ 114 ∷ 117 ∷ 101 ∷ 41 ∷ 32 ∷ 61 ∷ 61 ∷ 32 ∷ 116 ∷ 114 ∷ 117 ∷ 101 ∷ []) ≡ Some (comparison equal (path_or (variable (codes "r1")) ((codes "deep") ∷ []) (literal (boolean true))) (literal (boolean true)))
text_1461 = refl

text_1462 : expression_of (codes "r1.deep.a is defined") ≡ Some (defined (variable (codes "r1")) ((codes "deep") ∷ (codes "a") ∷ []))
text_1462 = refl

text_1463 : expression_of (codes "r1.deep.a is undefined") ≡ Some (negation (defined (variable (codes "r1")) ((codes "deep") ∷ (codes "a") ∷ [])))
text_1463 = refl

text_1464 : expression_of (114 ∷ 49 ∷ 46 ∷ 100 ∷ 101 ∷ 101 ∷ 112 ∷ 46 ∷ 97 ∷ 32 ∷ 124 ∷ 32 ∷ 100 ∷ 101 ∷ 102 ∷ 97 ∷ 117 ∷ 108 ∷ 116 ∷ 40 ∷ 116 ∷ 114 ∷ 117 ∷ 101 ∷ 41 ∷ 32 ∷ 61 ∷ 61 ∷ 32 ∷ 116 ∷ 114 ∷ 117 ∷ 101 ∷ []) ≡ Some (comparison equal (path_or (variable (codes "r1")) ((codes "deep") ∷ (codes "a") ∷ []) (literal (boolean true))) (literal (boolean true)))
text_1464 = refl

text_1465 : expression_of (codes "r1.deep.b is undefined") ≡ Some (negation (defined (variable (codes "r1")) ((codes "deep") ∷ (codes "b") ∷ [])))
text_1465 = refl

text_1466 : expression_of (114 ∷ 49 ∷ 46 ∷ 100 ∷ 101 ∷ 101 ∷ 112 ∷ 46 ∷ 98 ∷ 32 ∷ 124 ∷ 32 ∷ 100 ∷ 101 ∷ 102 ∷ 97 ∷ 117 ∷ 108 ∷ 116 ∷ 40 ∷ 116 ∷ 114 ∷ 117 ∷ 101 ∷ 41 ∷ 32 ∷ 61 ∷ 61 ∷ 32 ∷ 116 ∷ 114 ∷ 117 ∷ 101 ∷ []) ≡ Some (comparison equal (path_or (variable (codes "r1")) ((codes "deep") ∷ (codes "b") ∷ []) (literal (boolean true))) (literal (boolean true)))
text_1466 = refl

text_1467 : expression_of (codes "r1.f") ≡ Some (path (variable (codes "r1")) ((codes "f") ∷ []))
text_1467 = refl

text_1468 : expression_of (codes "r1.failed") ≡ Some (path (variable (codes "r1")) ((codes "failed") ∷ []))
text_1468 = refl

text_1469 : expression_of (codes "r1.failed == 1") ≡ Some (comparison equal (path (variable (codes "r1")) ((codes "failed") ∷ [])) (literal (int (pos 1))))
text_1469 = refl

text_1470 : expression_of (codes "r1.failed and r1.changed") ≡ Some (conjunction (expression (path (variable (codes "r1")) ((codes "failed") ∷ [])) (expression (path (variable (codes "r1")) ((codes "changed") ∷ [])) (no_expressions))))
text_1470 = refl

text_1471 : expression_of (codes "r1.failed and r3.changed") ≡ Some (conjunction (expression (path (variable (codes "r1")) ((codes "failed") ∷ [])) (expression (path (variable (codes "r3")) ((codes "changed") ∷ [])) (no_expressions))))
text_1471 = refl

text_1472 : expression_of (codes "r1.failed is defined") ≡ Some (defined (variable (codes "r1")) ((codes "failed") ∷ []))
text_1472 = refl

text_1473 : expression_of (codes "r1.failed is not defined") ≡ Some (negation (defined (variable (codes "r1")) ((codes "failed") ∷ [])))
text_1473 = refl

text_1474 : expression_of (codes "r1.failed is undefined") ≡ Some (negation (defined (variable (codes "r1")) ((codes "failed") ∷ [])))
text_1474 = refl

text_1475 : expression_of (114 ∷ 49 ∷ 46 ∷ 102 ∷ 97 ∷ 105 ∷ 108 ∷ 101 ∷ 100 ∷ 32 ∷ 124 ∷ 32 ∷ 100 ∷ 101 ∷ 102 ∷ 97 ∷ 117 ∷ 108 ∷ 116 ∷ 40 ∷ 102 ∷ 97 ∷ 108 ∷ 115 ∷ 101 ∷ 41 ∷ []) ≡ Some (path_or (variable (codes "r1")) ((codes "failed") ∷ []) (literal (boolean false)))
text_1475 = refl

text_1476 : expression_of (114 ∷ 49 ∷ 46 ∷ 102 ∷ 97 ∷ 105 ∷ 108 ∷ 101 ∷ 100 ∷ 32 ∷ 124 ∷ 32 ∷ 100 ∷ 101 ∷ 102 ∷ 97 ∷ 117 ∷ 108 ∷ 116 ∷ 40 ∷ 116 ∷ 114 ∷ 117 ∷ 101 ∷ 41 ∷ 32 ∷ 61 ∷ 61 ∷ 32 ∷ 116 ∷ 114 ∷ 117 ∷ 101 ∷ []) ≡ Some (comparison equal (path_or (variable (codes "r1")) ((codes "failed") ∷ []) (literal (boolean true))) (literal (boolean true)))
text_1476 = refl

text_1477 : expression_of (codes "r1.msg == 1") ≡ Some (comparison equal (path (variable (codes "r1")) ((codes "msg") ∷ [])) (literal (int (pos 1))))
text_1477 = refl

text_1478 : expression_of (codes "r1.msg is defined") ≡ Some (defined (variable (codes "r1")) ((codes "msg") ∷ []))
text_1478 = refl

text_1479 : expression_of (codes "r1.msg is defined and r1.msg == 1") ≡ Some (conjunction (expression (defined (variable (codes "r1")) ((codes "msg") ∷ [])) (expression (comparison equal (path (variable (codes "r1")) ((codes "msg") ∷ [])) (literal (int (pos 1)))) (no_expressions))))
text_1479 = refl

text_1480 : expression_of (codes "r1.msg is undefined") ≡ Some (negation (defined (variable (codes "r1")) ((codes "msg") ∷ [])))
text_1480 = refl

text_1481 : expression_of (114 ∷ 49 ∷ 46 ∷ 109 ∷ 115 ∷ 103 ∷ 32 ∷ 124 ∷ 32 ∷ 100 ∷ 101 ∷ 102 ∷ 97 ∷ 117 ∷ 108 ∷ 116 ∷ 40 ∷ 102 ∷ 97 ∷ 108 ∷ 115 ∷ 101 ∷ 41 ∷ []) ≡ Some (path_or (variable (codes "r1")) ((codes "msg") ∷ []) (literal (boolean false)))
text_1481 = refl

text_1482 : expression_of (114 ∷ 49 ∷ 46 ∷ 109 ∷ 115 ∷ 103 ∷ 32 ∷ 124 ∷ 32 ∷ 100 ∷ 101 ∷ 102 ∷ 97 ∷ 117 ∷ 108 ∷ 116 ∷ 40 ∷ 116 ∷ 114 ∷ 117 ∷ 101 ∷ 41 ∷ 32 ∷ 61 ∷ 61 ∷ 32 ∷ 116 ∷ 114 ∷ 117 ∷ 101 ∷ []) ≡ Some (comparison equal (path_or (variable (codes "r1")) ((codes "msg") ∷ []) (literal (boolean true))) (literal (boolean true)))
text_1482 = refl

text_1483 : expression_of (codes "r1.ping == 1") ≡ Some (comparison equal (path (variable (codes "r1")) ((codes "ping") ∷ [])) (literal (int (pos 1))))
text_1483 = refl

text_1484 : expression_of (114 ∷ 49 ∷ 46 ∷ 112 ∷ 105 ∷ 110 ∷ 103 ∷ 32 ∷ 124 ∷ 32 ∷ 100 ∷ 101 ∷ 102 ∷ 97 ∷ 117 ∷ 108 ∷ 116 ∷ 40 ∷ 116 ∷ 114 ∷ 117 ∷ 101 ∷ 41 ∷ 32 ∷ 61 ∷ 61 ∷ 32 ∷ 116 ∷ 114 ∷ 117 ∷ 101 ∷ []) ≡ Some (comparison equal (path_or (variable (codes "r1")) ((codes "ping") ∷ []) (literal (boolean true))) (literal (boolean true)))
text_1484 = refl

text_1485 : expression_of (codes "r1.rc == 1") ≡ Some (comparison equal (path (variable (codes "r1")) ((codes "rc") ∷ [])) (literal (int (pos 1))))
text_1485 = refl

text_1486 : expression_of (codes "r1.rc is defined") ≡ Some (defined (variable (codes "r1")) ((codes "rc") ∷ []))
text_1486 = refl

text_1487 : expression_of (codes "r1.rc is not defined") ≡ Some (negation (defined (variable (codes "r1")) ((codes "rc") ∷ [])))
text_1487 = refl

text_1488 : expression_of (114 ∷ 49 ∷ 46 ∷ 114 ∷ 99 ∷ 32 ∷ 124 ∷ 32 ∷ 100 ∷ 101 ∷ 102 ∷ 97 ∷ 117 ∷ 108 ∷ 116 ∷ 40 ∷ 102 ∷ 97 ∷ 108 ∷ 115 ∷ 101 ∷ 41 ∷ []) ≡ Some (path_or (variable (codes "r1")) ((codes "rc") ∷ []) (literal (boolean false)))
text_1488 = refl

text_1489 : expression_of (114 ∷ 49 ∷ 46 ∷ 114 ∷ 99 ∷ 32 ∷ 124 ∷ 32 ∷ 100 ∷ 101 ∷ 102 ∷ 97 ∷ 117 ∷ 108 ∷ 116 ∷ 40 ∷ 116 ∷ 114 ∷ 117 ∷ 101 ∷ 41 ∷ 32 ∷ 61 ∷ 61 ∷ 32 ∷ 116 ∷ 114 ∷ 117 ∷ 101 ∷ []) ≡ Some (comparison equal (path_or (variable (codes "r1")) ((codes "rc") ∷ []) (literal (boolean true))) (literal (boolean true)))
text_1489 = refl

text_1490 : expression_of (codes "r1.results is defined") ≡ Some (defined (variable (codes "r1")) ((codes "results") ∷ []))
text_1490 = refl

text_1491 : expression_of (codes "r1.results is undefined") ≡ Some (negation (defined (variable (codes "r1")) ((codes "results") ∷ [])))
text_1491 = refl

text_1492 : expression_of (codes "r1.rows == 1") ≡ Some (comparison equal (path (variable (codes "r1")) ((codes "rows") ∷ [])) (literal (int (pos 1))))
text_1492 = refl

text_1493 : expression_of (codes "r1.skip_reason != true") ≡ Some (negation (comparison equal (path (variable (codes "r1")) ((codes "skip_reason") ∷ [])) (literal (boolean true))))
text_1493 = refl

text_1494 : expression_of (codes "r1.skip_reason is defined") ≡ Some (defined (variable (codes "r1")) ((codes "skip_reason") ∷ []))
text_1494 = refl

text_1495 : expression_of (codes "r1.skip_reason is undefined") ≡ Some (negation (defined (variable (codes "r1")) ((codes "skip_reason") ∷ [])))
text_1495 = refl

text_1496 : expression_of (114 ∷ 49 ∷ 46 ∷ 115 ∷ 107 ∷ 105 ∷ 112 ∷ 95 ∷ 114 ∷ 101 ∷ 97 ∷ 115 ∷ 111 ∷ 110 ∷ 32 ∷ 124 ∷ 32 ∷ 100 ∷ 101 ∷ 102 ∷ 97 ∷ 117 ∷ 108 ∷ 116 ∷ 40 ∷ 102 ∷ 97 ∷ 108 ∷ 115 ∷ 101 ∷ 41 ∷ []) ≡ Some (path_or (variable (codes "r1")) ((codes "skip_reason") ∷ []) (literal (boolean false)))
text_1496 = refl

text_1497 : expression_of (codes "r1.skipped is defined") ≡ Some (defined (variable (codes "r1")) ((codes "skipped") ∷ []))
text_1497 = refl

text_1498 : expression_of (codes "r1.skipped is not defined") ≡ Some (negation (defined (variable (codes "r1")) ((codes "skipped") ∷ [])))
text_1498 = refl

text_1499 : expression_of (114 ∷ 49 ∷ 46 ∷ 115 ∷ 116 ∷ 97 ∷ 116 ∷ 32 ∷ 124 ∷ 32 ∷ 100 ∷ 101 ∷ 102 ∷ 97 ∷ 117 ∷ 108 ∷ 116 ∷ 40 ∷ 102 ∷ 97 ∷ 108 ∷ 115 ∷ 101 ∷ 41 ∷ []) ≡ Some (path_or (variable (codes "r1")) ((codes "stat") ∷ []) (literal (boolean false)))
text_1499 = refl
