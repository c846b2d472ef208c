use Rattle.pb_semantics.specs.Keeps.{is_among}
use Rattle.pb_kind.specs.KindView.{slots_view}
use Rattle.pb_rules.specs.Names.{names_in}
use Rattle.pb_tables.proofs.Changing.{all_told, not_either}
use Rattle.pb_tables.proofs.changed.add_changed.Goals as goal

pub returns-clause-told : goal.returns-clause-told
returns-clause-told c = λ x none.
    let before = not_either (is_among x (names_in c.add_unlike.new.names)) (is_among x (names_in c.add_gone.new.names)) (c.in_ok-add_gone.ensures.kept x) none in
    all_told x (slots_view c.args.before.now.entries) (slots_view c.args.after.now.entries) (c.in_ok-add_unlike.ensures.told x before) (c.in_ok-add_gone.ensures.told x none)
