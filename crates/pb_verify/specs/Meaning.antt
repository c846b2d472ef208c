-- What a refusal stands for.
use Rattle.std.specs.Prelude.{ℕ, option_map, string_bytes, Bool, false, nat_eq}
use Rattle.pb_language.specs.Verdict as verdict
use Rattle.pb_language.specs.Verdict.{Verdict, accepted, refused}
use Rattle.pb_verify.specs.declared.refusal.Code.{Code}
use Rattle.pb_verify.specs.declared.refusal.Code.TheVariants.{V01, V02, V03, V04, V05, V06, V07}
use Rattle.pb_verify.specs.declared.refusal.Code.TheVariants.{V08, V09, V10, V11, V12, V13}
use Rattle.pb_verify.specs.declared.refusal.Refusal.{Refusal}

-- the number of a V code, 0 for another
abbrev pub code_number : Code → ℕ
code_number V01 = 1
code_number V02 = 2
code_number V03 = 3
code_number V04 = 4
code_number V05 = 5
code_number V06 = 6
code_number V07 = 7
code_number V08 = 8
code_number V09 = 9
code_number V10 = 10
code_number V11 = 11
code_number V12 = 12
code_number V13 = 13
code_number c = 0

abbrev pub refusal_of : Refusal → verdict.Refusal
refusal_of r = record {
  code = code_number r.code;
  line = r.line;
  host = option_map
      (λ n. string_bytes n) r.host;
}

-- the number in an accepted verdict is that one
abbrev pub accepts : ℕ → Verdict → Bool
accepts n (accepted m) = nat_eq n m
accepts n (refused r) = false
