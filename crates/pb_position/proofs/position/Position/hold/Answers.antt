use Rattle.std.proofs.Common.{ap, ◌∙◌}
use Rattle.pb_position.specs.Texts.{text_of}
use Rattle.pb_position.proofs.Stacks.{is_kept_on_top}
use Rattle.pb_position.proofs.position.Position.hold.Goals as goal

pub returns-clause-kept : goal.returns-clause-kept
returns-clause-kept c = is_kept_on_top c.args.held c.args.self.now.holds.items c.truncate.new.self.items c.push.new.self.items c.in_ok-text.text _ c.truncate.ensures.items c.in_ok-push.ensures.items (c.in_ok-text.ensures ∙ ap text_of c.as_ref.ensures.value)
