use Rattle.std.proofs.Common.{map, ap, ◌∙◌}
use Rattle.pb_language.specs.Start.{eval_item}
use Rattle.pb_start.specs.Passes.{pass_view}
use Rattle.pb_start.proofs.Passed.{passes-alone}
use Rattle.pb_start.proofs.passes.alone.Goals as goal

pub returns : goal.returns
returns g c = λ t d qs h.
    ap (map pass_view) c.in_ok-vec.ensures.items ∙ passes-alone (eval_item (g.V.Vars.world c.args.vars.now) t) c.in_ok-entry.entry qs (c.in_ok-entry.ensures t d) h
