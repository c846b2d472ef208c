-- The codes of refusals as they are printed.
use Rattle.std.specs.Prelude.{ℕ, List, codes}
use Rattle.pb_verify.specs.declared.refusal.Code.{Code}
use Rattle.pb_verify.specs.declared.refusal.Code.TheVariants.{S01, S02, S03, S04, S05, P01}
use Rattle.pb_verify.specs.declared.refusal.Code.TheVariants.{P02, P03, P04, P05, P06, P07, P08}
use Rattle.pb_verify.specs.declared.refusal.Code.TheVariants.{P09, I01, I02, I03, I04, I05, A01}
use Rattle.pb_verify.specs.declared.refusal.Code.TheVariants.{A02, A03, V01, V02, V03, V04, V05}
use Rattle.pb_verify.specs.declared.refusal.Code.TheVariants.{V06, V07, V08, V09, V10, V11, V12}
use Rattle.pb_verify.specs.declared.refusal.Code.TheVariants.{V13}

abbrev pub code_text : Code → List ℕ
code_text S01 = codes "S01"
code_text S02 = codes "S02"
code_text S03 = codes "S03"
code_text S04 = codes "S04"
code_text S05 = codes "S05"
code_text P01 = codes "P01"
code_text P02 = codes "P02"
code_text P03 = codes "P03"
code_text P04 = codes "P04"
code_text P05 = codes "P05"
code_text P06 = codes "P06"
code_text P07 = codes "P07"
code_text P08 = codes "P08"
code_text P09 = codes "P09"
code_text I01 = codes "I01"
code_text I02 = codes "I02"
code_text I03 = codes "I03"
code_text I04 = codes "I04"
code_text I05 = codes "I05"
code_text A01 = codes "A01"
code_text A02 = codes "A02"
code_text A03 = codes "A03"
code_text V01 = codes "V01"
code_text V02 = codes "V02"
code_text V03 = codes "V03"
code_text V04 = codes "V04"
code_text V05 = codes "V05"
code_text V06 = codes "V06"
code_text V07 = codes "V07"
code_text V08 = codes "V08"
code_text V09 = codes "V09"
code_text V10 = codes "V10"
code_text V11 = codes "V11"
code_text V12 = codes "V12"
code_text V13 = codes "V13"
