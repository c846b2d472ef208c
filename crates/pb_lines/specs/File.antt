-- A file of the operating system, by the calls that were made of it.
use Rattle.std.specs.Prelude.{ℕ, List}
use Rattle.pb_lines.specs.Device.{Only}
use Rattle.pb_lines.specs.Events.{leaves_after, seen_after}
use Rattle.pb_lines.specs.declared.file.FileDevice.{FileDevice}

abbrev pub file_seen : FileDevice → List ℕ
file_seen file = seen_after file.log.events

abbrev pub file_leaves : FileDevice → List ℕ → Type 0
file_leaves file = leaves_after file.log.events

-- a crash leaves what is there
abbrev pub IsOpened : FileDevice → Type 0
IsOpened file = Only (file_seen file) (file_leaves file)
