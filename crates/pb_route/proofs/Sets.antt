-- Names that are set, one after the other.
use Rattle.std.proofs.Common.{◌≡◌, List, [], ◌∷◌, ◌++◌, string_bytes, refl, ap}
use Rattle.pb_language.specs.Cases.{Sets, no_sets, sets, append_sets}
use Rattle.pb_kind.specs.KindView.{kind_view}
use Rattle.pb_transfer.specs.Written.{sets_view}
use Rattle.pb_transfer.specs.declared.written.Set.{Set}

-- a list with one more at its end
pub append_sets-push : (ss : List Set) (s : Set) (r : Sets) → append_sets (sets_view (ss ++ s ∷ [])) r ≡ append_sets (sets_view ss) (append_sets (sets_view (s ∷ [])) r)
append_sets-push [] s r = refl
append_sets-push (t ∷ ss) s r = ap (sets (string_bytes t.name.value) t.is_certain (kind_view t.kind)) (append_sets-push ss s r)

pub append_sets-none : (s : Sets) → append_sets s no_sets ≡ s
append_sets-none no_sets = refl
append_sets-none (sets n a k r) = ap (sets n a k) (append_sets-none r)
