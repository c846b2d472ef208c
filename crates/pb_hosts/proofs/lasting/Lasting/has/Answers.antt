use Rattle.std.proofs.Common.{◌≡◌, true, false, sym, ap, ◌∙◌}
use Rattle.std.specs.Prelude.{◌||◌}
use Rattle.pb_language.specs.Scope.{is_later}
use Rattle.pb_lattice.specs.Arena.{names_of}
use Rattle.pb_hosts.specs.Tables.{every_from}
use Rattle.pb_hosts.proofs.Searches.{later_both}
use Rattle.pb_hosts.proofs.lasting.Lasting.has.Goals as goal

pub returns-then-lists : goal.returns-then-lists
returns-then-lists c =
    let ns = names_of c.args.names.now in
    let l = c.args.self.now in
    let x = c.args.name.now in
    let more = later_both ns l.from.items (every_from l.every) c.args.place x in
    let is : c.lists.result ≡ true = c.if-lists.true in
    is ∙ ap (λ b. b || is_later (every_from l.every) c.args.place x) (sym is ∙ c.lists.ensures) ∙ sym more

pub returns-else-lists : goal.returns-else-lists
returns-else-lists c =
    let ns = names_of c.args.names.now in
    let l = c.args.self.now in
    let x = c.args.name.now in
    let more = later_both ns l.from.items (every_from l.every) c.args.place x in
    let is : c.lists.result ≡ false = c.if-lists.false in
    c.has_every.ensures ∙ ap (λ b. b || is_later (every_from l.every) c.args.place x) (sym is ∙ c.lists.ensures) ∙ sym more
