-- The read that a `Read` stands for.
use Rattle.std.specs.Prelude.{option_map}
use Rattle.pb_syntax.specs.ExprView.{names_of, root_view, term_view}
use Rattle.pb_vars.specs.Reads.{Read, value_at, tested_at, alone, looked_for}
use Rattle.pb_vars.specs.declared.read.Read.{Read as WrittenRead}
use Rattle.pb_vars.specs.declared.read.Read.TheVariants as written

abbrev pub read_view : WrittenRead → Read
read_view (written.Value r ns) = value_at (root_view r.now) (names_of ns.now)
read_view (written.Tested r) = tested_at (root_view r.now)
read_view (written.Hostvars t) = alone (option_map (λ x. term_view x.now) t)
read_view (written.InBatch t) = looked_for (term_view t.now)
