-- A name is a text.
use Rattle.std.proofs.lemmas.Str.{IsUtf8-from_ascii}
use Rattle.pb_syntax.specs.Letters.{letters_at}
use Rattle.pb_syntax.proofs.Numerals.{ascii-names, spelled-names}
use Rattle.pb_syntax.proofs.lexer.name_of.Goals as goal

pub returns-in-Err-clause-refused : goal.returns-in-Err-clause-refused
returns-in-Err-clause-refused c =
    let letters = letters_at c.args.text.now c.args.token in
    absurd (c.in-Err.ensures.cases.0 (IsUtf8-from_ascii letters (ascii-names letters (spelled-names c.args.token.sort letters c.requires.lettered c.requires.spelled))))
