use Rattle.pb_language.proofs.Tests.{test_teaches}
use Rattle.pb_language.proofs.laws.test_teaches.Goals as goal

pub returns : goal.returns
returns c = test_teaches
