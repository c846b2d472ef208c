use Rattle.std.proofs.Common.{rules}
use Rattle.std.proofs.lemmas.Result.{IfOk-weaker}
use Rattle.pb_options.specs.Options.{book_rule, inventory_rule, signatures_rule}
use Rattle.pb_options.proofs.Commands.{Reads, Extends-three}
use Rattle.pb_options.proofs.options.with_subject.Goals as goal

pub returns : goal.returns
returns c =
    let book : Reads c.help.result book_rule = record { local = search rules; rule = search rules } in
    let inventory : Reads c.help-2.result inventory_rule = record { local = search rules; rule = search rules } in
    let signatures : Reads c.help-3.result signatures_rule = record { local = search rules; rule = search rules } in
    IfOk-weaker c.arg-3.result _ _
    (λ r third. Extends-three c.args.command c.in_ok-arg.field-0 c.in_ok-arg-2.field-0 r c.help.result c.help-2.result c.help-3.result book_rule inventory_rule signatures_rule
    c.in_ok-arg.ensures c.in_ok-arg-2.ensures third book inventory signatures)
    c.arg-3.ensures
