use Rattle.std.proofs.Common.{Some}
use Rattle.pb_syntax.specs.ExprView.{parts_view}
use Rattle.pb_value.specs.View.{view}
use Rattle.pb_start.proofs.Items.{keep-worth}
use Rattle.pb_start.proofs.passes.item_entry.Goals as goal

pub of-shared-requires : goal.of-shared-requires
of-shared-requires g c = λ n.
    let p = c.args.prepared.now in
    rw c.requires (keep-worth (parts_view p.names.items) (p.no_item c.if-prepared.false) (g.V.Vars.world c.args.vars.now) (Some (view c.args.item.now)) n)

pub returns : goal.returns
returns g c = rw c.of-shared.ensures at c.entry_in.ensures
