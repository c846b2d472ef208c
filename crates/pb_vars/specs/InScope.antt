-- The values of `vars` that are in scope, and what their names answer.
use Rattle.std.specs.Prelude.{◌≡◌, ℕ, Bool, option_map}
use Rattle.pb_language.specs.Expression.{Name, Parts}
use Rattle.pb_language.specs.Expansion.{trees}
use Rattle.pb_vars.specs.Borrowed.{borrowed_view, greatest_of}
use Rattle.pb_vars.specs.Reads.{Read, every_read}
use Rattle.pb_vars.specs.Rounds.{answer_named}
pub use Rattle.pb_vars.specs.Same.{HaveSame}
use Rattle.pb_vars.specs.declared.in_scope.InScope.{InScope}
use Rattle.pb_vars.specs.declared.in_scope.Answers.{Answers}

abbrev pub in_scope : InScope → Parts
in_scope s = borrowed_view s.entries.items

-- the greatest size of their values
abbrev pub greatest : InScope → ℕ
greatest s = greatest_of s.entries.items

-- beside each name stands what its tree answers
pub record AreAnswers (ps : Parts) (f : Read → Bool) (a : Answers) : Type 0 where
  pub at : (n : Name) → answer_named n ps a.all.items ≡ option_map (every_read f) (trees ps n)
