use Rattle.std.proofs.Common.{rules, string_bytes}
use Rattle.pb_syntax.proofs.Refusals.{refuses-none}
use Rattle.pb_syntax.proofs.Steps.{bracket-open, passed-step}
use Rattle.pb_syntax.proofs.path.bracketed_name.Goals as goal

pub returns-in_err-after-clause-refused : goal.returns-in_err-after-clause-refused
returns-in_err-after-clause-refused c =
    passed-step c.args.text.now _ c.in_err-after.field-0.0 _ c.from_residual-in_err-after.ensures.1
    (λ us more g. record {
      place = c.in_err-after.ensures.place;
      refused = refuses-none _ _
          (bracket-open c.args.text.now c.args.bracket c.in_ok-quoted.quoted c.in_ok-close.close (string_bytes c.in_ok-name.name) c.in_ok-quoted.ensures.next.read (search rules) c.in_ok-close.ensures.next.read
          c.in_ok-name.ensures.read c.in_err-after.ensures.refused us more g);
    })
