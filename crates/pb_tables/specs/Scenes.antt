-- Plays with their hosts and the paths through them.
use Rattle.std.specs.Prelude.{◌≡◌, List, [], ◌∷◌, map}
use Rattle.pb_language.specs.Book.{PlayData, Registry}
use Rattle.pb_language.specs.Plays.{names_of_handlers, play_row}
use Rattle.pb_language.specs.Program.{Play, Program}
use Rattle.pb_inventory.specs.declared.inventory.Inventory.{Inventory}
use Rattle.pb_play.specs.Plays.{handler_view, is_linear}
use Rattle.pb_route.specs.Routes.{ArePathsOf}
use Rattle.pb_hosts.specs.Casts.{cast_hosts}
use Rattle.pb_tables.specs.declared.scene.Scene.{Scene}

-- the scene is of that play of a book, on those hosts
pub record IsScene (i : Inventory) (p : Play) (s : Scene) : Type 0 where
  pub inventory : s.cast.inventory.now ≡ i
  pub row : (ms : Registry) × (d : PlayData) × (p.row ≡ play_row ms d)
  pub paths : ArePathsOf p.row s.route
  pub hosts : cast_hosts s.cast ≡ p.hosts
  pub linear : is_linear s.cast.play.now.strategy ≡ p.is_linear
  pub handlers : names_of_handlers (map handler_view s.cast.play.now.handlers.items) ≡ p.handlers

-- one for each play
abbrev pub AreScenes : Inventory → Program → List Scene → Type 0
AreScenes i [] [] = Unit {0}
AreScenes i [] (s ∷ ss) = ⊥
AreScenes i (p ∷ ps) [] = ⊥
AreScenes i (p ∷ ps) (s ∷ ss) = IsScene i p s × AreScenes i ps ss
