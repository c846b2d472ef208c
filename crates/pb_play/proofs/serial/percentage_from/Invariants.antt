use Rattle.std.proofs.Common.{◌≡◌, ◌≤◌, drop}
use Rattle.pb_language.specs.BookForm.{number_from}
use Rattle.pb_play.proofs.serial.percentage_from.Given as goal

abbrev pub invariant-digits : goal.invariant-digits
invariant-digits l = (number_from 0 l.bytes ≡ number_from l.number (drop l.index l.bytes)) × (l.number ≤ 100)
