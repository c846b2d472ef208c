-- The number that `parse` reads.
use Rattle.std.proofs.Common.{List, ℕ, w64, subst, ◌∙◌}
use Rattle.std.proofs.lemmas.Str.{IsUtf8-from_ascii}
use Rattle.std.specs.Str.Parse.{ParsesSigned}
use Rattle.pb_syntax.specs.Letters.{letters_at}
use Rattle.pb_syntax.proofs.Numerals.{int-read, number-ascii}
use Rattle.pb_syntax.proofs.lexer.number_of.Goals as goal

pub returns-in-Ok : goal.returns-in-Ok
returns-in-Ok c =
    let letters = letters_at c.args.text.now c.args.token in
    let parsed = subst (λ (bs : List ℕ). ParsesSigned w64 10 bs c.parse.result) c.in-Ok.ensures.cases.0 c.parse.ensures.value.0 in
    c.ok.ensures.value ∙ int-read c.args.token.sort letters c.parse.result c.requires.number c.requires.spelled parsed

pub returns-in-Err : goal.returns-in-Err
returns-in-Err c =
    let letters = letters_at c.args.text.now c.args.token in
    absurd (c.in-Err.ensures.cases.0 (IsUtf8-from_ascii letters (number-ascii c.args.token.sort letters c.requires.number c.requires.spelled)))
