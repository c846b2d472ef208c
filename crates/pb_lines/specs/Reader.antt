-- A file of lines that is read, line after line.
use Rattle.std.specs.Prelude.{◌≡◌, ◌<◌, ◌≤◌, ℕ, ◌+◌, ◌-◌, ◌^◌, List, [], ◌∷◌, ◌++◌, length, take}
use Rattle.std.specs.Prelude.{drop}
use Rattle.std.specs.Prelude.{Option, Some, None, Vec}
use Rattle.std.specs.declared.alloc.Global.{Global}
use Rattle.pb_lines.specs.Device.{Only}
use Rattle.pb_lines.specs.Lines.{recovered, records, IsLine}
use Rattle.pb_lines.specs.declared.reader.LineReader.{LineReader}

abbrev pub device_of : {D : Type 0} → LineReader D → D
device_of reader = reader.device

-- where the next record stands
abbrev pub place_of : {D : Type 0} → LineReader D → ℕ
place_of reader = reader.place + reader.given

-- how much of the block isn't given yet
abbrev pub unread_of : {D : Type 0} → LineReader D → ℕ
unread_of reader = length reader.block.items - reader.given

-- the bytes of the file from the next record on
abbrev pub bytes_left : {D : Type 0} → (D → List ℕ) → LineReader D → List ℕ
bytes_left seen reader = drop (place_of reader) (seen reader.device)

-- the lines that aren't given yet
abbrev pub lines_left : {D : Type 0} → (D → List ℕ) → LineReader D → List (List ℕ)
lines_left seen reader = recovered (bytes_left seen reader)

-- What is in front of a place of the file is whole records, and what follows is the rest of a block
-- and the bytes behind it.
pub record IsPlaced (file block : List ℕ) (place given : ℕ) : Type 0 where
  pub front : take (place + given) file ≡ records (recovered (take (place + given) file))
  pub inside : place + given ≤ length file
  pub rest : drop (place + given) file
      ≡ drop given block ++ drop (place + length block) file

-- the reader stands in front of a record, of a file that is on the disk as it is there
pub record IsReading {D : Type 0} (honest : D → Type 0) (seen : D → List ℕ)
    (may_leave : D → List ℕ → Type 0) (reader : LineReader D) : Type 0 where
  pub few : reader.given ≤ length reader.block.items
  pub short : reader.place ≤ 2 ^ 60
  pub durable : Only (seen reader.device) (may_leave reader.device)
  pub placed : honest reader.device
      → IsPlaced (seen reader.device) reader.block.items reader.place reader.given

-- the first of these lines is found, and the others are left; or there is none
abbrev pub Finds : List (List ℕ) → Option (Vec ℕ Global) → List (List ℕ) → Type 0
Finds before None after = (before ≡ []) × (after ≡ [])
Finds before (Some line) after = (before ≡ line.items ∷ after) × (length line.items ≤ 16777216)

-- an open gate, and behind it more bytes than a line may have before the next newline
abbrev pub IsLong : List ℕ → Type 0
IsLong bytes = (line : List ℕ) × (rest : List ℕ) × (bytes ≡ 32 ∷ (line ++ rest))
    × IsLine line × (16777216 < length line)
