-- Moves, one after the other.
use Rattle.std.proofs.Common.{◌≡◌, ◌<◌, ℕ, ◌+◌, List, [], ◌∷◌, ◌++◌, length, take, map, get_or, refl, sym, ap, subst, ◌∙◌}
use Rattle.std.proofs.lemmas.List.{map-append, take_more}
use Rattle.pb_machine.specs.Steps as flat
use Rattle.pb_machine.specs.Hosts.{FlatHost, moved, all_moved}
use Rattle.pb_position.specs.Positions.{IsAs}
use Rattle.pb_position.specs.Calls.{Moves}
use Rattle.pb_flow.specs.Nodes.{move_view}
use Rattle.pb_position.specs.declared.position.Position.{Position}
use Rattle.pb_flow.specs.declared.graph.Move.{Move}

moves_join : (xs ys : List flat.Move) (h : FlatHost) → all_moved (xs ++ ys) h ≡ all_moved ys (all_moved xs h)
moves_join [] ys h = refl
moves_join (x ∷ xs) ys h = moves_join xs ys (moved x h)

pub no_move_is_made : (p : Position) → Moves [] p p
no_move_is_made p = record { moved = λ h i. i }

pub one_more_is_made : (xs : List Move) (i : ℕ) (x : Move) (p q r : Position) → i < length xs → Moves (take i xs) p q → Moves (get_or xs i x ∷ []) q r → Moves (take (i + 1) xs) p r
one_more_is_made xs i x p q r within here on = record {
  moved = λ h j. subst (λ (g : FlatHost). IsAs r g)
      (sym (ap (λ ys. all_moved (map move_view ys) h) (take_more xs i x within)
      ∙ ap (λ ys. all_moved ys h) (map-append move_view (take i xs) (get_or xs i x ∷ []))
      ∙ moves_join (map move_view (take i xs)) (move_view (get_or xs i x) ∷ []) h))
      (on.moved (all_moved (map move_view (take i xs)) h) (here.moved h j));
}
