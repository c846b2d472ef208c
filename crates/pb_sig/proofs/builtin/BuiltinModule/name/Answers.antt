use Rattle.std.proofs.Common.{ap, string_bytes, ◌∙◌}
use Rattle.pb_sig.proofs.builtin.BuiltinModule.name.Goals as goal

pub returns : goal.returns
returns c = c.as_str.ensures.value ∙ ap string_bytes c.deref.ensures
