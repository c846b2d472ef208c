use Rattle.std.proofs.Common.{◌≡◌, ◌<◌, ◌≤◌, ◌*◌, ℕ, min, length, ap, ◌∙◌, None, replicate, arith}
use Rattle.std.proofs.lemmas.List.{length-replicate}
use Rattle.pb_facts.specs.Rows.{rows}
use Rattle.pb_facts.proofs.Entries.{rows-replicate}
use Rattle.pb_facts.proofs.facts.Facts.new.Goals as goal

-- what a block has room for was counted in full
counted : (count all size room : ℕ) → count ≡ min all 18446744073709551615 → size ≡ count
    → size ≤ room → room < 9223372036854775808 → count ≡ all
counted count all size room e f g h = omega (arith, e, f, g, h)

pub returns : goal.returns
returns c =
    let values = c.in_ok-values.values in
    let count = c.saturating_mul.result in
    let size : length values.items ≡ count =
    ap length c.in_ok-values.ensures ∙ length-replicate count None in
    let whole = counted count (c.args.hosts * c.args.slots) values.len values.cap c.saturating_mul.ensures
    (values.ok.0 ∙ size) values.ok.1 values.small in
    ap (λ all. record { hosts = c.args.hosts; slots = c.args.slots; rows = rows c.args.hosts c.args.slots all })
    (c.in_ok-values.ensures ∙ ap (λ n. replicate n None) whole)
    ∙ ap (λ all. record { hosts = c.args.hosts; slots = c.args.slots; rows = all })
    (rows-replicate c.args.hosts c.args.slots None)
