use Rattle.std.proofs.Common.{◌≡◌, ◌<◌, ◌≤◌, ◌+◌, ℕ, suc, min, length, ap, ◌∙◌, arith}
use Rattle.pb_language.specs.Machine.{innermost}
use Rattle.pb_position.proofs.Stacks.{as_many_are_outermost}
use Rattle.pb_position.proofs.position.Position.release.Goals as goal

-- one more was counted in full, as far as there is room
counted : (held more texts size room : ℕ) → more ≡ min (held + 1) 18446744073709551615 → size ≡ texts → size ≤ room → room < 9223372036854775808 → min more texts ≡ min (suc held) texts
counted held more texts size room e f g h = omega (arith, e, f, g, h)

pub returns-clause-text : goal.returns-clause-text
returns-clause-text c =
    let holds = c.args.self.now.holds in
    let more = c.saturating_add.result in
    let same : min more (length holds.items) ≡ min (suc c.args.held) (length holds.items) = counted c.args.held more (length holds.items) holds.len holds.cap c.saturating_add.ensures holds.ok.0 holds.ok.1 holds.small in
    c.in_ok-text.ensures ∙ c.innermost_of.ensures ∙ ap innermost (as_many_are_outermost more (suc c.args.held) holds.items same)
