-- Slots of two names, of which a name of `vars` hides one.
use Rattle.std.specs.Prelude.{cond, Some, None, codes}
use Rattle.std.specs.Str.{bytes_eq}
use Rattle.pb_syntax.specs.Slots.{Slots}

abbrev pub numbers : Slots
numbers = record {
  own = λ n. cond (bytes_eq n (codes "port")) (Some 3) None;
  other = λ n. cond (bytes_eq n (codes "port")) (Some 3)
      (cond (bytes_eq n (codes "out")) (Some 5) None);
}
