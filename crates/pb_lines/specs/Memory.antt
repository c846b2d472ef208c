-- What a file in memory holds.
use Rattle.std.specs.Prelude.{ℕ, List}
use Rattle.pb_lines.specs.declared.memory.Memory.{Memory}

abbrev pub memory_bytes : Memory → List ℕ
memory_bytes m = m.bytes.items
