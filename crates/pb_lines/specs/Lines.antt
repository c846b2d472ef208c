-- What a file of records stands for. A record is a gate, a line and a newline (10). An open gate is
-- a blank (32), a closed one a `#` (35).
use Rattle.std.specs.Prelude.{◌≡◌, ◌≢◌, ◌⊎◌, ◌≤◌, ℕ, List, [], ◌∷◌, ◌++◌, length, map, take, Option}
use Rattle.std.specs.Prelude.{Some, None, Vec, if◌then◌else◌, ◌==◌}
use Rattle.std.specs.List.{All}
use Rattle.std.specs.declared.alloc.Global.{Global}
use Rattle.pb_lines.specs.Device.{Only}
use Rattle.pb_lines.specs.declared.lines.Lines.{Lines}

-- The lines of the records up to the first that is closed or cut short. Behind an open gate,
-- `Some line` is what has been read of its line.
abbrev pub lines_from : Option (List ℕ) → List ℕ → List (List ℕ)
lines_from line [] = []
lines_from None (gate ∷ rest) = if gate == 32 then lines_from (Some []) rest else []
lines_from (Some line) (byte ∷ rest) =
    if byte == 10 then line ∷ lines_from None rest else lines_from (Some (line ++ byte ∷ [])) rest

-- what a file stands for, whatever a crash made of it
abbrev pub recovered : List ℕ → List (List ℕ)
recovered file = lines_from None file

-- open records of these lines
abbrev pub records : List (List ℕ) → List ℕ
records [] = []
records (line ∷ lines) = 32 ∷ line ++ 10 ∷ records lines

-- open records, and then a closed gate
abbrev pub at_rest : List (List ℕ) → List ℕ
at_rest lines = records lines ++ 35 ∷ []

-- no byte of it is a newline
abbrev pub IsLine : List ℕ → Type 0
IsLine line = All (λ byte. byte ≢ 10) line

abbrev pub lines_of : List (Vec ℕ Global) → List (List ℕ)
lines_of lines = map (λ line. line.items) lines

-- each of them is a line that may be added
abbrev pub AreLines : List (List ℕ) → Type 0
AreLines lines = All (λ line. IsLine line × (length line ≤ 16777216)) lines

-- the file is whole records and a closed gate, all of it on the disk, and the place of that gate is
-- known
pub record IsAtRest {D : Type 0} (seen : D → List ℕ) (may_leave : D → List ℕ → Type 0)
    (file : Lines D) : Type 0 where
  pub is : seen file.device ≡ at_rest (recovered (seen file.device))
  pub gate : file.end ≡ length (records (recovered (seen file.device)))
  pub durable : Only (seen file.device) (may_leave file.device)

-- it is, if the bytes that were read are those that are there
abbrev pub IsSettled : {D : Type 0} → (D → Type 0) → (D → List ℕ) → (D → List ℕ → Type 0)
    → Lines D → Type 0
IsSettled honest seen may_leave file = honest file.device → IsAtRest seen may_leave file

-- the file stands for the lines, with one more or without it
abbrev pub IsBeforeOrAfter : List (List ℕ) → List ℕ → List ℕ → Type 0
IsBeforeOrAfter lines line file =
    (recovered file ≡ lines) ⊎ (recovered file ≡ lines ++ line ∷ [])

-- the file stands for the lines, with all of the new ones behind them or none
abbrev pub IsAllOrNone : List (List ℕ) → List (List ℕ) → List ℕ → Type 0
IsAllOrNone lines more file = (recovered file ≡ lines) ⊎ (recovered file ≡ lines ++ more)

-- the file stands for the lines, with some of the new ones behind them: the first of these, none
-- left out and none in part
abbrev pub IsPrefixOf : List (List ℕ) → List (List ℕ) → List ℕ → Type 0
IsPrefixOf lines more file =
    (n : ℕ) × (n ≤ length more) × (recovered file ≡ lines ++ take n more)
