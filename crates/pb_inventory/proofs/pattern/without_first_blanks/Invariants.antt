use Rattle.std.proofs.Common.{◌≡◌, drop}
use Rattle.std.specs.Str.{IsCharBoundary}
use Rattle.pb_language.specs.BookForm.{without_blanks}
use Rattle.pb_inventory.proofs.pattern.without_first_blanks.Given as goal

abbrev pub invariant-loop-place : goal.invariant-loop-place
invariant-loop-place l = record { begins : IsCharBoundary l.fn.text l.place; left : without_blanks l.fn.text ≡ without_blanks (drop l.place l.fn.text) }
