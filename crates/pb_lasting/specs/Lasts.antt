-- From which places on a host has its variables for certain.
use Rattle.std.specs.Prelude.{◌≡◌, ℕ, List}
use Rattle.pb_language.specs.Expression.{Name}
use Rattle.pb_language.specs.Judgement.{Exit}
use Rattle.pb_language.specs.Scope.{is_later}
use Rattle.pb_language.specs.Tables.{since_of}
use Rattle.pb_language.specs.Walk.{Visit}
use Rattle.pb_hosts.specs.Tables.{since_view}
use Rattle.pb_hosts.specs.declared.lasting.Lasting.{Lasting}

-- as these visits and the play's end say, however that is listed
pub record Lasts (names : List Name) (l : Lasting) (vs : List Visit) (e : Exit) : Type 0 where
  pub at : (p : ℕ) (x : Name)
      → is_later (since_view names l) p x ≡ is_later (since_of vs e) p x
