-- Plays whose texts read none of these variables of other hosts, and tables that differ in no
-- others (this project's own).
use Rattle.std.specs.Prelude.{◌≡◌, List, Bool, false}
use Rattle.pb_semantics.specs.Kind.{slot_at}
use Rattle.pb_semantics.specs.Keeps.{is_among}
use Rattle.pb_language.specs.Book.{Book}
use Rattle.pb_language.specs.Expression.{Name, Root, other}
use Rattle.pb_language.specs.Program.{Program}
use Rattle.pb_language.specs.Scope.{View, has_view, view_of}
use Rattle.pb_others.specs.Rooted.{book_has_root, plays_have_root}

-- one of these variables, of another host or of the host itself by its name
abbrev pub is_theirs : List Name → Root → Bool
is_theirs ns (other t x) = is_among x ns
is_theirs ns r = false

abbrev pub plays_read_theirs : List Name → Program → Bool
plays_read_theirs ns = plays_have_root (is_theirs ns)

abbrev pub book_reads_theirs : List Name → Book → Bool
book_reads_theirs ns = book_has_root (is_theirs ns)

-- the same hosts, and the same of each variable that is none of these
pub record DifferIn (ns : List Name) (vs us : List View) : Type 0 where
  pub hosts : (g : Name) → has_view g vs ≡ has_view g us
  pub slots : (g x : Name) → is_among x ns ≡ false
      → slot_at x (view_of g vs) ≡ slot_at x (view_of g us)
