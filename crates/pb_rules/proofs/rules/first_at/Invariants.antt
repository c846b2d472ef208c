use Rattle.pb_language.specs.Book.{Registry}
use Rattle.pb_inventory.specs.Inventory.{inventory_view}
use Rattle.pb_play.specs.Sound.{AreSound}
use Rattle.pb_rules.specs.Names.{names_in}
use Rattle.pb_rules.specs.Rules.{all_asked}
use Rattle.pb_rules.specs.Sites.{tasks_at}
use Rattle.pb_rules.proofs.Judged.{AreJudged}
use Rattle.pb_rules.proofs.rules.first_at.Given as goal

abbrev pub invariant-loop-site : goal.invariant-loop-site
invariant-loop-site l = (ms : Registry) → AreSound ms (tasks_at l.sites) → AreJudged ms (all_asked ms (inventory_view l.known.inventory.now) (names_in l.given)) l.sites l.site-index l.first
