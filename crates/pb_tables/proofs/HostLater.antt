-- Of a host that a play doesn't name nothing keeps a name from lasting.
use Rattle.std.proofs.Common.{◌≡◌, ℕ, suc, zero, List, [], ◌∷◌, replicate, refl}
use Rattle.pb_language.specs.Expression.{Name}
use Rattle.pb_language.specs.Scope.{Since}
use Rattle.pb_hosts.specs.Tables.{names_from, never_lasts}

pub none_lasts : (ns : List Name) (k : ℕ) (l : Since) → names_from ns (replicate k never_lasts) l ≡ l
none_lasts [] k l = refl
none_lasts (n ∷ ns) zero l = refl
none_lasts (n ∷ ns) (suc k) l = none_lasts ns k l
