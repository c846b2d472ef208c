-- Names that are certainly there before and not after.
use Rattle.std.specs.Prelude.{ℕ, List, [], ◌∷◌, Bool, false, not, ◌&&◌, cond}
use Rattle.pb_language.specs.Expression.{Name}
use Rattle.pb_language.specs.Judgement.{Exit}
use Rattle.pb_language.specs.Scope.{is_certain}
use Rattle.pb_lattice.specs.Environments.{spot_in}
use Rattle.pb_lattice.specs.Trees.{Tree, known}

-- the marks beside the names, with that one at each name that is lost
abbrev pub lost_marks : ℕ → Exit → Exit → List Name → List ℕ → List ℕ
lost_marks m e f [] ms = ms
lost_marks m e f (n ∷ ns) [] = []
lost_marks m e f (n ∷ ns) (k ∷ ks) =
    cond (is_certain (spot_in n e) && not (is_certain (spot_in n f))) m k ∷ lost_marks m e f ns ks

-- a tree of one name, which is certainly there
abbrev pub is_surely : Tree → Bool
is_surely (known a k) = a
is_surely t = false
