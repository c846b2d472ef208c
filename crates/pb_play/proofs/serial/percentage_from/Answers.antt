use Rattle.std.proofs.Common.{◌≡◌, ◌∙◌, ◌+◌, ◌-◌, ◌*◌, ◌∷◌, true, Some, cond, drop, get_or, ap, sym}
use Rattle.pb_language.specs.BookForm.{is_percentage, number_from}
use Rattle.pb_language.specs.Rules.{is_digit}
use Rattle.pb_syntax.proofs.Braces.{byte-at}
use Rattle.pb_play.proofs.Cuts.{past-hundred}
use Rattle.pb_play.proofs.serial.percentage_from.Goals as goal

pub returns-then-number-gt-MOST_PERCENT : goal.returns-then-number-gt-MOST_PERCENT
returns-then-number-gt-MOST_PERCENT c =
    let l = c.digits in
    let bs = c.args.bytes.now in
    let b = get_or bs l.index 0 in
    let n = l.number in
    let rest = drop (l.index + 1) bs in
    let digit : is_digit b ≡ true = sym c.is_ascii_digit.ensures.value ∙ c.if-not-is_ascii_digit.false in
    sym (ap is_percentage l.invariant.0 ∙ ap (λ cs. is_percentage (number_from n cs)) (byte-at bs l.index c.digits-test.true)
    ∙ ap (λ q. is_percentage (cond q (number_from (n * 10 + (b - 48)) rest) (Some (n, b ∷ rest)))) digit ∙ past-hundred (n * 10 + (b - 48)) rest c.if-number-gt-MOST_PERCENT.true)
