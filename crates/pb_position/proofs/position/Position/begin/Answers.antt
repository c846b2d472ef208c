use Rattle.std.proofs.Common.{ap, ◌∙◌}
use Rattle.pb_position.specs.Texts.{text_of}
use Rattle.pb_position.proofs.Along.{empty_arrives_at_the_begin}
use Rattle.pb_position.proofs.position.Position.begin.Goals as goal

pub returns-clause-host : goal.returns-clause-host
returns-clause-host c =
    empty_arrives_at_the_begin c.args.steps.now c.args.begin.now c.args.self.now c.in_ok-position.position c.arrive.new.self
    (λ h e. c.in_ok-position.ensures.host h (c.in_ok-failure.ensures ∙ ap text_of c.as_ref.ensures.value ∙ e)) c.in_ok-arrive.ensures.host
