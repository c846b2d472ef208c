use Rattle.std.proofs.Common.{◌≡◌, ◌∙◌, ◌<◌, length, map, sym, ap}
use Rattle.std.proofs.lemmas.List.{length-map}
use Rattle.pb_language.specs.Plays.{program_of}
use Rattle.pb_language.specs.Program.{all_batches}
use Rattle.pb_sig.specs.Modules.{modules_of}
use Rattle.pb_inventory.specs.Inventory.{inventory_view}
use Rattle.pb_play.specs.Plays.{is_linear, play_view}
use Rattle.pb_play.specs.declared.play.Play.{Play}
use Rattle.pb_book.specs.Books.{book_view, plays_of}
use Rattle.pb_slots.specs.Words.{names_of_slots}
use Rattle.pb_schedule.proofs.Plans.{as-many-plans, as-many-tasks, runs-of}
use Rattle.pb_schedule.proofs.Runs.{AreRunsOf, batches-run}
use Rattle.pb_schedule.proofs.planned.Planned.of.Goals as goal

pub run_plays-requires : goal.run_plays-requires
run_plays-requires c =
    let a = c.args.checked.now in
    let ms = modules_of a.registry in
    let plan = c.in_ok-plan.plan in
    let many : length (book_view a.book) ≡ length c.plays-plays.result.now = length-map (plays_of a.book) play_view ∙ ap length (sym (c.plays-plays.ensures ∙ ap plays_of c.book.ensures.value)) in
    record {
      plans = as-many-plans ms plan.plays.items (book_view a.book) c.in_ok-plan.ensures.plays ∙ many;
      tasks = as-many-tasks ms plan.tasks.items (book_view a.book) c.in_ok-plan.ensures.tasks ∙ many;
    }

pub returns-clause-batches : goal.returns-clause-batches
returns-clause-batches c = λ name named.
    let a = c.args.checked.now in
    let ms = modules_of a.registry in
    let plan = c.in_ok-plan.plan in
    let ps = plays_of a.book in
    let rs = c.in_ok-plays.plays.items in
    let found = c.in_ok-batches_in.field-0.items in
    let same : c.plays-plays.result.now ≡ ps = c.plays-plays.ensures ∙ ap plays_of c.book.ensures.value in
    let linear = c.in_ok-plays.ensures.linear ∙ ap (map (λ (p : Play). is_linear p.strategy)) same in
    let runs : AreRunsOf ms rs (map play_view ps) =
    runs-of ms (names_of_slots plan.slots) rs plan.plays.items plan.tasks.items ps c.in_ok-plays.ensures.plans c.in_ok-plays.ensures.tasks linear c.in_ok-plan.ensures.plays c.in_ok-plan.ensures.handlers c.in_ok-plan.ensures.uses c.in_ok-plan.ensures.tasks in
    let of = c.in_ok-batches_in.ensures.batches ms in
    let within = c.in_ok-batches_in.ensures.hosts in
    batches-run ms (inventory_view a.inventory) ps rs name runs named found c.in_ok-batches.batches.items (all_batches (program_of ms (inventory_view a.inventory) (book_view a.book))) c.in_ok-batches.ensures within of
