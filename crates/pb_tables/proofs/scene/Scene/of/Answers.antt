use Rattle.std.proofs.Common.{ap, map, refl}
use Rattle.pb_language.specs.Plays.{names_of_handlers}
use Rattle.pb_play.specs.Plays.{handler_view, is_linear, play_view}
use Rattle.pb_tables.proofs.scene.Scene.of.Goals as goal

pub returns-clause-scene : goal.returns-clause-scene
returns-clause-scene c = λ ms sound gather.
    let play = c.in_ok-of.ensures.play in record {
      inventory = ap (λ i. i.now) c.in_ok-of.ensures.inventory;
      row = (ms, play_view c.args.play.now, refl);
      paths = c.in_ok-of-2.ensures ms sound gather;
      hosts = c.in_ok-of.ensures.hosts;
      linear = ap (λ p. is_linear p.now.strategy) play;
      handlers = ap (λ p. names_of_handlers (map handler_view p.now.handlers.items)) play;
    }
