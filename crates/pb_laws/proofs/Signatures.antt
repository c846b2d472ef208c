-- A file of signatures, printed, is read back module by module.
use Rattle.std.proofs.Common.{◌≡◌, ℕ, suc, List, [], ◌∷◌, ◌++◌, ◌+◌, ◌≤◌, length, true, false, not, ◌&&◌, ◌||◌, nat_le, nat_lt, cond, Ok, Err, sym, ap, ◌∙◌, subst, arith}
use Rattle.std.proofs.lemmas.Bool.Decides.{nat_tests}
use Rattle.std.proofs.lemmas.List.{append-nil, append_assoc, length-append, map-append}
use Rattle.pb_semantics.specs.Keeps.{is_among}
use Rattle.pb_semantics.specs.Signature.{ModuleData}
use Rattle.pb_semantics.proofs.Bools.{neither-both}
use Rattle.pb_language.specs.Theorem.{are_distinct}
use Rattle.pb_sig.specs.Printed.{ModulesAreReadBack, printed_module}
use Rattle.pb_sig.specs.Signatures.{broken_law, has_taken_prefix, judged_module, module_in, modules_after, most_modules, names_of, over_limit, taken_name, taken_names, then_more}
use Rattle.pb_laws.proofs.DistinctNames.{none_before}
use Rattle.pb_laws.specs.PrintedSignatures.{AreSignatures, IsSignature, SignaturesAreReadBack, printed_modules}

module_read : ModulesAreReadBack → (earlier : List ModuleData) (m : ModuleData) → IsSignature m → is_among m.name (names_of earlier) ≡ false → nat_lt (length earlier) most_modules ≡ true
    → judged_module earlier (module_in (printed_module m)) ≡ Ok m
module_read read earlier m h new room =
    let free = neither-both (is_among m.name (names_of earlier)) (is_among m.name taken_names || has_taken_prefix m.name) new h.free in
    ap (judged_module earlier) (read m h.form)
    ∙ (λ i. cond (not (h.laws i)) (Err broken_law) (cond (free i) (Err taken_name) (cond (h.within i && room i) (Ok m) (Err over_limit))))

-- with those that stand before them
modules_read : ModulesAreReadBack → (earlier ms : List ModuleData) → AreSignatures ms → are_distinct (names_of earlier ++ names_of ms) ≡ true → length earlier + length ms ≤ most_modules
    → modules_after earlier (printed_modules ms) ≡ Ok (earlier ++ ms)
modules_read read earlier [] h d few = ap Ok (sym (append-nil earlier))
modules_read read earlier (m ∷ ms) h d few =
    let next = earlier ++ m ∷ [] in
    let new = none_before m.name (names_of earlier) (names_of ms) d in
    let names : names_of next ++ names_of ms ≡ names_of earlier ++ m.name ∷ names_of ms =
    ap (λ ns. ns ++ names_of ms) (map-append (λ (x : ModuleData). x.name) earlier (m ∷ [])) ∙ append_assoc (names_of earlier) (m.name ∷ []) (names_of ms) in
    let longer : length next ≡ length earlier + 1 = length-append earlier (m ∷ []) in
    ap (λ r. then_more r (λ x. modules_after (earlier ++ x ∷ []) (printed_modules ms))) (module_read read earlier m h.0 new (room (length earlier) (length ms) few))
    ∙ modules_read read next ms h.1 (subst (λ ns. are_distinct ns ≡ true) (sym names) d) (omega (arith, few, longer))
    ∙ ap Ok (append_assoc earlier (m ∷ []) ms) where
      room : (i n : ℕ) → i + suc n ≤ most_modules → nat_lt i most_modules ≡ true
      room i n h = grind (arith, nat_tests, h)

pub signatures_are_read_back : ModulesAreReadBack → SignaturesAreReadBack
signatures_are_read_back read ms h = modules_read read [] ms h.modules h.apart (within (length ms) h.few) where
  within : (n : ℕ) → nat_le n most_modules ≡ true → 0 + n ≤ most_modules
  within n h = grind (arith, nat_tests, h)
